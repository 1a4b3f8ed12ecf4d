-- What can be made as a step at all can be made on what it changes.
use Rattle.std.proofs.Common.{◌≡◌, ℕ, ◌+◌, ◌<◌, Bool, true, false, List, length, refl, sym, ap, ◌∙◌, subst, arith, Option, Some, None, is_some, true≢false, if◌then◌else◌}
use Rattle.pool_alloc.proofs.Imports.{PoolPart, Plan, Queued, cell_place, part_at, first_of_kind, SlotKind}
use Rattle.pool_alloc.specs.CanStep.{CanFlush, CanPurge, CanRelease, CanStepAt, CanPutNext}
use Rattle.pool_alloc.specs.OnCounters.{CanStepCounted}
use Rattle.pool_alloc.specs.OnParts.{CanFlushOn, CanPurgeOn, CanPutOn, CanReleaseOn, CanStepOn}
use Rattle.pool_alloc.specs.Purges.{has_turns, purged_stripe}
use Rattle.pool_alloc.specs.StepTable.{FlushStep, run, zero, put, free, flush_step}
use Rattle.pool_alloc.specs.StepsAlone.{CanFlushAlone, CanPurgeAlone, CanReleaseAlone, CanStepAlone}
use Rattle.pool_alloc.specs.Targets.{CanCountUp, CanFindFlush, CanFindPurge, CanFindRelease, CanFindTarget, flush_target, next_target, number_at, purge_target, put_target, release_target}
use Rattle.pool_alloc.specs.declared.counters.CounterName.{CounterName}
use Rattle.pool_alloc.specs.declared.counters.CounterName.TheVariants as counter
use Rattle.pool_alloc.specs.declared.frame.Frame.{Frame}
use Rattle.pool_alloc.specs.declared.frame.FreedSlot.{FreedSlot}
use Rattle.pool_alloc.specs.declared.frame.Object.TheVariants.{Memory, Table, Stack}
use Rattle.pool_alloc.specs.declared.frame.Phase.{Phase}
use Rattle.pool_alloc.specs.declared.frame.Phase.TheVariants.{Idle, Key, Validate, TestStack, TestHeap, CountInstance, Pick, TakeQueue, TakeRegion, Empty, Instantiate, MakeMemory, MakeTable, CountObject, TakeHeap, MakeHeap, CountHeap, PutNoHeap, PutBack, FreeOne, UncountObject, UncountHeap, PutHeap, FreeHeap, Reset, Merge, Flush, UncountInstance, ValidateComponent, CountComponent, UncountComponent, Purge, Release}
use Rattle.pool_alloc.specs.declared.pool_core.PoolCore.{PoolCore}
use Rattle.pool_alloc.specs.declared.pool_core.Settings.{Settings}
use Rattle.pool_alloc.specs.declared.purge.PurgeCursor.{PurgeCursor}
use Rattle.pool_alloc.specs.declared.purge.PurgeStep.{PurgeStep}
use Rattle.pool_alloc.specs.declared.purge.PurgeStep.TheVariants as purging_step
use Rattle.pool_alloc.specs.declared.release.ReleaseStep.{ReleaseStep}
use Rattle.pool_alloc.specs.declared.release.ReleaseStep.TheVariants as releasing_step
use Rattle.pool_alloc.specs.declared.step.targets.Target.{Target}
use Rattle.pool_alloc.specs.declared.step.targets.Target.TheVariants.{Part, Up, Down, Alone}
use Rattle.pool_alloc.proofs.FlushFinds.{Finds, finds}

-- Targets of one kind are the same only with the same place or counter, and of different kinds never.
abbrev pub is_part : Target → Bool
is_part (Part p) = true
is_part _ = false

abbrev pub is_up : Target → Bool
is_up (Up name) = true
is_up _ = false

abbrev pub is_down : Target → Bool
is_down (Down name) = true
is_down _ = false

abbrev pub is_alone : Target → Bool
is_alone Alone = true
is_alone _ = false

abbrev place_of : Target → ℕ
place_of (Part p) = p
place_of _ = 0

abbrev name_of : Target → CounterName
name_of (Up name) = name
name_of (Down name) = name
name_of _ = counter.Key

pub same_place : (p q : ℕ) → Part q ≡ Part p → q ≡ p
same_place p q e = ap place_of e

pub same_up : (a b : CounterName) → Up b ≡ Up a → b ≡ a
same_up a b e = ap name_of e

pub same_down : (a b : CounterName) → Down b ≡ Down a → b ≡ a
same_down a b e = ap name_of e

apart : {X : Type 0} (is : Target → Bool) (a b : Target) → is a ≡ false → is b ≡ true → a ≡ b → X
apart is a b differs some e = absurd (true≢false (sym some ∙ sym (ap is e) ∙ differs))

pub no_part : {X : Type 0} (t : Target) (p : ℕ) → is_part t ≡ false → t ≡ Part p → X
no_part t p differs e = apart is_part t (Part p) differs refl e

pub no_up : {X : Type 0} (t : Target) (name : CounterName) → is_up t ≡ false → t ≡ Up name → X
no_up t name differs e = apart is_up t (Up name) differs refl e

pub no_down : {X : Type 0} (t : Target) (name : CounterName) → is_down t ≡ false → t ≡ Down name → X
no_down t name differs e = apart is_down t (Down name) differs refl e

pub no_alone : {X : Type 0} (t : Target) → is_alone t ≡ false → t ≡ Alone → X
no_alone t differs e = apart is_alone t Alone differs refl e

-- A flush, a purge and a release count nothing.
abbrev is_counter : Target → Bool
is_counter (Up name) = true
is_counter (Down name) = true
is_counter _ = false

counts_not : {X : Type 0} (t : Target) (name : CounterName) → is_counter t ≡ false → t ≡ Up name → X
counts_not t name differs e = apart is_counter t (Up name) differs refl e

counts_not_off : {X : Type 0} (t : Target) (name : CounterName) → is_counter t ≡ false → t ≡ Down name → X
counts_not_off t name differs e = apart is_counter t (Down name) differs refl e

put_uncounted : (plan : Plan) (o : Option Queued) → is_counter (put_target plan o) ≡ false
put_uncounted plan None = refl
put_uncounted plan (Some m) = refl

flush_uncounted : (plan : Plan) (step : FlushStep) (slots : List Queued) (freed : List FreedSlot) → is_counter (flush_target plan step slots freed) ≡ false
flush_uncounted plan run slots freed = refl
flush_uncounted plan (zero kind) slots freed = refl
flush_uncounted plan (put kind) slots freed = put_uncounted plan (first_of_kind kind slots)
flush_uncounted plan free slots freed = refl

pick_uncounted : (b : Bool) (q : ℕ) → is_counter (if b then Part q else Alone) ≡ false
pick_uncounted true q = refl
pick_uncounted false q = refl

purge_uncounted : {P : Type 0} (s : Settings) (plan : Plan) (p : PurgeCursor) (step : PurgeStep P) → is_counter (purge_target s plan p step) ≡ false
purge_uncounted s plan p (purging_step.Pick tried) = pick_uncounted (has_turns s.max_memories_per_module plan) ((purged_stripe plan p).first_place + tried)
purge_uncounted s plan p (purging_step.TakeRegion name) = refl
purge_uncounted s plan p (purging_step.Forget at held) = refl
purge_uncounted s plan p (purging_step.PutRegion at held) = refl
purge_uncounted s plan p (purging_step.Free name) = refl

release_uncounted : {P : Type 0} (plan : Plan) (step : ReleaseStep P) → is_counter (release_target plan step) ≡ false
release_uncounted plan releasing_step.Reserve = refl
release_uncounted plan (releasing_step.TakeWarm r j) = refl
release_uncounted plan (releasing_step.TakeRegion r k) = refl
release_uncounted plan (releasing_step.Decommit r k at held) = refl
release_uncounted plan (releasing_step.PutRegion r k at held) = refl
release_uncounted plan (releasing_step.Free r x) = refl

-- a purge picks where it has turns
pub picked : (b : Bool) (q p : ℕ) → (if b then Part q else Alone) ≡ Part p → (b ≡ true) × (q ≡ p)
picked true q p e = (refl, same_place p q e)
picked false q p e = no_part Alone p refl e

pub not_picked : (b : Bool) (q : ℕ) → (if b then Part q else Alone) ≡ Alone → b ≡ false
not_picked true q e = no_alone (Part q) refl e
not_picked false q e = refl

-- a slot that is put back goes to a part
alone_put : (o : Option Queued) (plan : Plan) → is_some o ≡ true → put_target plan o ≡ Alone → ⊥
alone_put None plan some there = true≢false (sym some)
alone_put (Some m) plan some there = no_alone (Part (cell_place plan m.name)) refl there

module _ {P H : Type 0} where
  -- The place can be computed.
  find_flush : (step : FlushStep) (c : PoolCore P H) (f : Frame P H) → CanFlush step c f → CanFindFlush c.plan step f.local.slots f.freed.items
  find_flush run c f can = tt
  find_flush (zero kind) c f can = tt
  find_flush (put kind) c f can = λ m is. (can.0 m is).0
  find_flush free c f can = can.1.each

  find_purge : (p : PurgeCursor) (step : PurgeStep P) (c : PoolCore P H) → CanPurge p step c → CanFindPurge c.settings c.plan p step
  find_purge p (purging_step.Pick tried) c can = λ turns. let pick = can turns in (pick.going, pick.tried, pick.placed)
  find_purge p (purging_step.TakeRegion name) c can = can.0
  find_purge p (purging_step.Forget at held) c can = tt
  find_purge p (purging_step.PutRegion at held) c can = can.0
  find_purge p (purging_step.Free name) c can = can.1.1.home

  find_release : (step : ReleaseStep P) (c : PoolCore P H) → CanRelease step c → CanFindRelease c.plan step
  find_release releasing_step.Reserve c can = tt
  find_release (releasing_step.TakeWarm r j) c can = (can.going, can.inside, can.placed)
  find_release (releasing_step.TakeRegion r k) c can = (can.0, can.1.0)
  find_release (releasing_step.Decommit r k at held) c can = tt
  find_release (releasing_step.PutRegion r k at held) c can = can.2.0
  find_release (releasing_step.Free r x) c can = can.2.1.home

  find_at : (phase : Phase P H) (c : PoolCore P H) (f : Frame P H) → CanStepAt phase c f → CanFindTarget c.settings c.plan phase f
  find_at (Pick tried) c f can = (can.0, can.1)
  find_at TakeQueue c f can = (can.2, can.0)
  find_at (TakeRegion name) c f can = can.0
  find_at (PutBack at held) c f can = can.0
  find_at (FreeOne name) c f can = can.1.home
  find_at (FreeHeap name memory) c f can = can.1.home
  find_at Merge c f can = can.0
  find_at Flush c f can = find_flush (flush_step f.local f.freed.items) c f can
  find_at (Purge p step) c f can = find_purge p step c can
  find_at (Release step) c f can = find_release step c can
  find_at phase c f can = tt

  pub can_find : (c : PoolCore P H) (f : Frame P H) → CanStepAt f.phase c f → CanFindTarget c.settings c.plan f.phase f
  can_find c f can = find_at f.phase c f can

  -- What is needed of the part lies at its place.
  abbrev IsOn : (PoolPart P H → Type 0) → PoolCore P H → ℕ → Type 0
  IsOn Can c p = (p < length c.parts) × Can (part_at p c.parts)

  on_put : (p : ℕ) (o : Option Queued) (kind : SlotKind) (c : PoolCore P H) (f : Frame P H) → first_of_kind kind f.local.slots ≡ o → CanFlush (put kind) c f → put_target c.plan o ≡ Part p → IsOn (λ x. CanPutOn o x × CanPutNext f.local f.freed) c p
  on_put p None kind c f is can there = no_part Alone p refl there
  on_put p (Some m) kind c f is can there =
      let at = can.0 m is in
      subst (IsOn (λ x. CanPutOn (Some m) x × CanPutNext f.local f.freed) c) (same_place p _ there) (at.1.inside, ((at.1.part, at.2), can.1))

  on_flush : (p : ℕ) (step : FlushStep) (c : PoolCore P H) (f : Frame P H) → CanFlush step c f → flush_target c.plan step f.local.slots f.freed.items ≡ Part p → IsOn (λ x. CanFlushOn c.plan step x f) c p
  on_flush p run c f can there = no_part Alone p refl there
  on_flush p (zero kind) c f can there = no_part Alone p refl there
  on_flush p (put kind) c f can there = on_put p (first_of_kind kind f.local.slots) kind c f refl can there
  on_flush p free c f can there = subst (IsOn (λ x. CanFlushOn c.plan free x f) c) (same_place p _ there) (can.0.inside, (can.0.part, can.1))

  on_purge : (p : ℕ) (cursor : PurgeCursor) (step : PurgeStep P) (c : PoolCore P H) → CanPurge cursor step c → purge_target c.settings c.plan cursor step ≡ Part p → IsOn (CanPurgeOn c.settings c.plan cursor step) c p
  on_purge p cursor (purging_step.Pick tried) c can there =
      let is = picked (has_turns c.settings.max_memories_per_module c.plan) ((purged_stripe c.plan cursor).first_place + tried) p there in
      let pick = can is.0 in
      subst (IsOn (CanPurgeOn c.settings c.plan cursor (purging_step.Pick tried)) c) is.1 (pick.shard.inside, (pick.shard.part, pick.going, pick.tried))
  on_purge p cursor (purging_step.TakeRegion name) c can there = subst (IsOn (CanPurgeOn c.settings c.plan cursor (purging_step.TakeRegion name)) c) (same_place p _ there) (can.1.inside, can.1.part)
  on_purge p cursor (purging_step.Forget at held) c can there = no_part Alone p refl there
  on_purge p cursor (purging_step.PutRegion at held) c can there = subst (IsOn (CanPurgeOn c.settings c.plan cursor (purging_step.PutRegion at held)) c) (same_place p _ there) (can.1.inside, (can.1.part, can.2, can.3))
  on_purge p cursor (purging_step.Free name) c can there = subst (IsOn (CanPurgeOn c.settings c.plan cursor (purging_step.Free name)) c) (same_place p _ there) (can.1.0.inside, (can.1.0.part, can.0, can.1.1))

  on_release : (p : ℕ) (step : ReleaseStep P) (c : PoolCore P H) → CanRelease step c → release_target c.plan step ≡ Part p → IsOn (CanReleaseOn c.plan step) c p
  on_release p releasing_step.Reserve c can there = no_part Alone p refl there
  on_release p (releasing_step.TakeWarm r j) c can there = subst (IsOn (CanReleaseOn c.plan (releasing_step.TakeWarm r j)) c) (same_place p _ there) (can.shard.inside, (can.shard.part, can.going, can.inside, can.local, can.taken))
  on_release p (releasing_step.TakeRegion r k) c can there = subst (IsOn (CanReleaseOn c.plan (releasing_step.TakeRegion r k)) c) (same_place p _ there) (can.1.1.inside, (can.1.1.part, can.0))
  on_release p (releasing_step.Decommit r k at held) c can there = no_part Alone p refl there
  on_release p (releasing_step.PutRegion r k at held) c can there = subst (IsOn (CanReleaseOn c.plan (releasing_step.PutRegion r k at held)) c) (same_place p _ there) (can.2.1.inside, (can.2.1.part, can.0, can.1, can.2.2, can.2.3))
  on_release p (releasing_step.Free r x) c can there = subst (IsOn (CanReleaseOn c.plan (releasing_step.Free r x)) c) (same_place p _ there) (can.2.0.inside, (can.2.0.part, can.0, can.1, can.2.1))

  abbrev OnPart : Phase P H → PoolCore P H → Frame P H → ℕ → Type 0
  OnPart phase c f p = (p < length c.parts) × CanStepOn c.settings c.plan phase (part_at p c.parts) f

  on_at : (p : ℕ) (phase : Phase P H) (c : PoolCore P H) (f : Frame P H) → CanStepAt phase c f → next_target c.settings c.plan phase f ≡ Part p → OnPart phase c f p
  on_at p (Pick tried) c f can there = subst (OnPart (Pick tried) c f) (same_place p _ there) (can.2.inside, (can.2.part, can.0, can.1, can.3))
  on_at p TakeQueue c f can there = subst (OnPart TakeQueue c f) (same_place p _ there) (can.3.inside, (can.3.part, can.1, omega (arith, can.0, can.2.few), can.4))
  on_at p (TakeRegion name) c f can there = subst (OnPart (TakeRegion name) c f) (same_place p _ there) (can.1.inside, (can.1.part, can.2))
  on_at p (TakeHeap name) c f can there = subst (OnPart (TakeHeap name) c f) (same_place p _ there) (can.list.inside, (can.list.part, can.inside, can.here))
  on_at p (PutNoHeap at) c f can there = subst (OnPart (PutNoHeap at) c f) (same_place p _ there) (can.list.inside, (can.list.part, can.out))
  on_at p (PutBack at held) c f can there = subst (OnPart (PutBack at held) c f) (same_place p _ there) (can.1.inside, (can.1.part, can.2, can.3))
  on_at p (FreeOne name) c f can there = subst (OnPart (FreeOne name) c f) (same_place p _ there) (can.0.inside, (can.0.part, can.1))
  on_at p (PutHeap lease memory) c f can there = subst (OnPart (PutHeap lease memory) c f) (same_place p _ there) (can.list.inside, (can.list.part, can.out))
  on_at p (FreeHeap name memory) c f can there = subst (OnPart (FreeHeap name memory) c f) (same_place p _ there) (can.0.inside, (can.0.part, can.1))
  on_at p Merge c f can there = subst (OnPart Merge c f) (same_place p _ there) (can.1.inside, (can.1.part, can.2))
  on_at p Flush c f can there = on_flush p (flush_step f.local f.freed.items) c f can there
  on_at p (Purge cursor step) c f can there = on_purge p cursor step c can there
  on_at p (Release step) c f can there = on_release p step c can there
  on_at p phase c f can there = no_part _ p refl there

  pub can_on : (p : ℕ) (c : PoolCore P H) (f : Frame P H) → CanStepAt f.phase c f → next_target c.settings c.plan f.phase f ≡ Part p → (p < length c.parts) × CanStepOn c.settings c.plan f.phase (part_at p c.parts) f
  can_on p c f can there = on_at p f.phase c f can there

  -- There is a next number at the counter, or one less.
  abbrev OnUp : Phase P H → PoolCore P H → Frame P H → CounterName → Type 0
  OnUp phase c f name = CanStepCounted c.plan phase f × CanCountUp name (number_at name c.counters)

  up_at : (name : CounterName) (phase : Phase P H) (c : PoolCore P H) (f : Frame P H) → CanStepAt phase c f → next_target c.settings c.plan phase f ≡ Up name → OnUp phase c f name
  up_at name Key c f can there = subst (OnUp Key c f) (same_up name _ there) (can, tt)
  up_at name CountInstance c f can there = subst (OnUp CountInstance c f) (same_up name _ there) (tt, can)
  up_at name (CountObject (Memory lease)) c f can there = subst (OnUp (CountObject (Memory lease)) c f) (same_up name _ there) (can.1, can.0)
  up_at name (CountObject (Table lease)) c f can there = subst (OnUp (CountObject (Table lease)) c f) (same_up name _ there) (can.1, can.0)
  up_at name (CountObject (Stack lease)) c f can there = subst (OnUp (CountObject (Stack lease)) c f) (same_up name _ there) (tt, can)
  up_at name (CountHeap lease) c f can there = subst (OnUp (CountHeap lease) c f) (same_up name _ there) (can.1, can.0)
  up_at name CountComponent c f can there = subst (OnUp CountComponent c f) (same_up name _ there) (tt, can)
  up_at name Flush c f can there = counts_not _ name (flush_uncounted c.plan (flush_step f.local f.freed.items) f.local.slots f.freed.items) there
  up_at name (Purge p step) c f can there = counts_not _ name (purge_uncounted c.settings c.plan p step) there
  up_at name (Release step) c f can there = counts_not _ name (release_uncounted c.plan step) there
  up_at name phase c f can there = no_up _ name refl there

  pub can_up : (name : CounterName) (c : PoolCore P H) (f : Frame P H) → CanStepAt f.phase c f → next_target c.settings c.plan f.phase f ≡ Up name → CanStepCounted c.plan f.phase f × CanCountUp name (number_at name c.counters)
  can_up name c f can there = up_at name f.phase c f can there

  -- A flush counts nothing up.
  pub flush_not_up : {X : Type 0} (name : CounterName) (c : PoolCore P H) (f : Frame P H) → next_target c.settings c.plan Flush f ≡ Up name → X
  flush_not_up name c f there = counts_not _ name (flush_uncounted c.plan (flush_step f.local f.freed.items) f.local.slots f.freed.items) there

  abbrev OnDown : Phase P H → PoolCore P H → Frame P H → CounterName → Type 0
  OnDown phase c f name = CanStepCounted c.plan phase f × (0 < number_at name c.counters)

  down_at : (name : CounterName) (phase : Phase P H) (c : PoolCore P H) (f : Frame P H) → CanStepAt phase c f → next_target c.settings c.plan phase f ≡ Down name → OnDown phase c f name
  down_at name (UncountObject (Memory lease)) c f can there = subst (OnDown (UncountObject (Memory lease)) c f) (same_down name _ there) (tt, can)
  down_at name (UncountObject (Table lease)) c f can there = subst (OnDown (UncountObject (Table lease)) c f) (same_down name _ there) (tt, can)
  down_at name (UncountObject (Stack lease)) c f can there = subst (OnDown (UncountObject (Stack lease)) c f) (same_down name _ there) (tt, can)
  down_at name (UncountHeap lease memory) c f can there = subst (OnDown (UncountHeap lease memory) c f) (same_down name _ there) (tt, can)
  down_at name UncountInstance c f can there = subst (OnDown UncountInstance c f) (same_down name _ there) (tt, can)
  down_at name UncountComponent c f can there = subst (OnDown UncountComponent c f) (same_down name _ there) (tt, can)
  down_at name Flush c f can there = counts_not_off _ name (flush_uncounted c.plan (flush_step f.local f.freed.items) f.local.slots f.freed.items) there
  down_at name (Purge p step) c f can there = counts_not_off _ name (purge_uncounted c.settings c.plan p step) there
  down_at name (Release step) c f can there = counts_not_off _ name (release_uncounted c.plan step) there
  down_at name phase c f can there = no_down _ name refl there

  pub can_down : (name : CounterName) (c : PoolCore P H) (f : Frame P H) → CanStepAt f.phase c f → next_target c.settings c.plan f.phase f ≡ Down name → CanStepCounted c.plan f.phase f × (0 < number_at name c.counters)
  can_down name c f can there = down_at name f.phase c f can there

  -- Nothing of the pool is needed.
  alone_flush : (step : FlushStep) (c : PoolCore P H) (f : Frame P H) → Finds step f.local f.freed.items → CanFlush step c f → flush_target c.plan step f.local.slots f.freed.items ≡ Alone → CanFlushAlone step f
  alone_flush run c f found can there = can
  alone_flush (zero kind) c f found can there = can
  alone_flush (put kind) c f found can there = alone_put (first_of_kind kind f.local.slots) c.plan found.1.queued there
  alone_flush free c f found can there = no_alone (Part _) refl there

  alone_purge : (p : PurgeCursor) (step : PurgeStep P) (c : PoolCore P H) → CanPurge p step c → purge_target c.settings c.plan p step ≡ Alone → CanPurgeAlone c.settings c.plan step
  alone_purge p (purging_step.Pick tried) c can there = not_picked (has_turns c.settings.max_memories_per_module c.plan) ((purged_stripe c.plan p).first_place + tried) there
  alone_purge p (purging_step.TakeRegion name) c can there = no_alone (Part _) refl there
  alone_purge p (purging_step.Forget at held) c can there = can
  alone_purge p (purging_step.PutRegion at held) c can there = no_alone (Part _) refl there
  alone_purge p (purging_step.Free name) c can there = no_alone (Part _) refl there

  alone_release : (step : ReleaseStep P) (c : PoolCore P H) → CanRelease step c → release_target c.plan step ≡ Alone → CanReleaseAlone c.settings c.plan step
  alone_release releasing_step.Reserve c can there = can
  alone_release (releasing_step.TakeWarm r j) c can there = no_alone (Part _) refl there
  alone_release (releasing_step.TakeRegion r k) c can there = no_alone (Part _) refl there
  alone_release (releasing_step.Decommit r k at held) c can there = can
  alone_release (releasing_step.PutRegion r k at held) c can there = no_alone (Part _) refl there
  alone_release (releasing_step.Free r x) c can there = no_alone (Part _) refl there

  alone_at : (phase : Phase P H) (c : PoolCore P H) (f : Frame P H) → CanStepAt phase c f → next_target c.settings c.plan phase f ≡ Alone → CanStepAlone c.settings c.plan phase f
  alone_at Idle c f can there = tt
  alone_at Validate c f can there = can
  alone_at TestStack c f can there = tt
  alone_at TestHeap c f can there = can
  alone_at (Empty at held) c f can there = tt
  alone_at (Instantiate at held) c f can there = can
  alone_at (MakeMemory at held) c f can there = can
  alone_at (MakeTable at region) c f can there = can
  alone_at (MakeHeap at) c f can there = tt
  alone_at (Reset object) c f can there = can
  alone_at Flush c f can there = alone_flush (flush_step f.local f.freed.items) c f (finds f.local f.freed.items) can there
  alone_at (ValidateComponent info) c f can there = tt
  alone_at (Purge p step) c f can there = alone_purge p step c can there
  alone_at (Release step) c f can there = alone_release step c can there
  alone_at phase c f can there = no_alone _ refl there

  pub can_alone : (c : PoolCore P H) (f : Frame P H) → CanStepAt f.phase c f → next_target c.settings c.plan f.phase f ≡ Alone → CanStepAlone c.settings c.plan f.phase f
  can_alone c f can there = alone_at f.phase c f can there
