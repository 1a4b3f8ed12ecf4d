-- A step on the part that it changes is the step table's row on the pool that has the part at its place.
use Rattle.std.proofs.Common.{◌≡◌, ◌∙◌, ℕ, ◌+◌, Bool, List, refl, sym, ap, subst, Option, Some, None}
use Rattle.pool_alloc.proofs.Imports.{Exchange, Exchanged, PoolPart, Plan, Queue, Queued, first_of_kind, others_of_kind, part_at}
use Rattle.pool_alloc.specs.PageCallAnswers.{FlushTold, FlushPlanned, PurgeTold, PurgePlanned, ReleaseTold, ReleasePlanned}
use Rattle.pool_alloc.specs.Targets.{next_target, flush_target, put_target, purge_target, release_target}
use Rattle.pool_alloc.specs.OnParts.{flush_on, put_on, row_on}
use Rattle.pool_alloc.specs.PartyTold.{PartyTold}
use Rattle.pool_alloc.specs.Purges.{has_turns, purged_stripe, pick_affine_row}
use Rattle.pool_alloc.specs.StepTable.{FlushStep, run, zero, put, free, flush_step, put_first, flush_row, row_of}
use Rattle.pool_alloc.specs.StepReads.{StepGiven, with_part}
use Rattle.pool_alloc.specs.Stepping.{StepsAsking}
use Rattle.pool_alloc.specs.Turns.{Row, PartAfter, After, part_after, lifted, stepped, resting}
use Rattle.pool_alloc.specs.declared.frame.Frame.{Frame}
use Rattle.pool_alloc.specs.declared.frame.FreedSlot.{FreedSlot}
use Rattle.pool_alloc.specs.declared.frame.Outcome.{Outcome}
use Rattle.pool_alloc.specs.declared.frame.Phase.{Phase}
use Rattle.pool_alloc.specs.declared.frame.Phase.TheVariants.{Idle, Pick, TakeQueue, TakeRegion, TakeHeap, PutNoHeap, PutBack, FreeOne, PutHeap, FreeHeap, Merge, Flush, Purge, Release}
use Rattle.pool_alloc.specs.declared.pool_core.PoolCore.{PoolCore}
use Rattle.pool_alloc.specs.declared.pool_core.Settings.{Settings}
use Rattle.pool_alloc.specs.declared.purge.PurgeCursor.{PurgeCursor}
use Rattle.pool_alloc.specs.declared.purge.PurgeStep.{PurgeStep}
use Rattle.pool_alloc.specs.declared.purge.PurgeStep.TheVariants as purging_step
use Rattle.pool_alloc.specs.declared.release.ReleaseStep.{ReleaseStep}
use Rattle.pool_alloc.specs.declared.release.ReleaseStep.TheVariants as releasing_step
use Rattle.pool_alloc.specs.declared.step.targets.Target.TheVariants.{Part, Alone}
use Rattle.pool_alloc.proofs.NextTargets.{no_part, picked, same_place}
use Rattle.pool_alloc.proofs.StepsAsRows.{quiet, nothing_told}

-- Such a step is told nothing, and asks nobody.
purge_told : {P : Type 0} (H : Type 0) (s : Settings) (plan : Plan) (p : ℕ) (cursor : PurgeCursor) (step : PurgeStep P) → purge_target s plan cursor step ≡ Part p → PurgeTold (nothing_told {H = H}) step × PurgePlanned (nothing_told {H = H}) step
purge_told H s plan p cursor (purging_step.Forget at held) there = no_part Alone p refl there
purge_told H s plan p cursor (purging_step.Pick tried) there = (tt, tt)
purge_told H s plan p cursor (purging_step.TakeRegion name) there = (tt, tt)
purge_told H s plan p cursor (purging_step.PutRegion at held) there = (tt, tt)
purge_told H s plan p cursor (purging_step.Free name) there = (tt, tt)

flush_told : (H : Type 0) (plan : Plan) (p : ℕ) (step : FlushStep) (local : Queue) (freed : List FreedSlot) → flush_target plan step local.slots freed ≡ Part p → FlushTold step (nothing_told {H = H}) local × FlushPlanned step (nothing_told {H = H}) local
flush_told H plan p run local freed there = no_part Alone p refl there
flush_told H plan p (zero kind) local freed there = (tt, tt)
flush_told H plan p (put kind) local freed there = (tt, tt)
flush_told H plan p free local freed there = (tt, tt)

release_told : {P : Type 0} (H : Type 0) (s : Settings) (plan : Plan) (p : ℕ) (step : ReleaseStep P) → release_target plan step ≡ Part p → ReleaseTold s (nothing_told {H = H}) step × ReleasePlanned s (nothing_told {H = H}) step
release_told H s plan p (releasing_step.Decommit r k at held) there = no_part Alone p refl there
release_told H s plan p releasing_step.Reserve there = (tt, tt)
release_told H s plan p (releasing_step.TakeWarm r j) there = (tt, tt)
release_told H s plan p (releasing_step.TakeRegion r k) there = (tt, tt)
release_told H s plan p (releasing_step.PutRegion r k at held) there = (tt, tt)
release_told H s plan p (releasing_step.Free r x) there = (tt, tt)

module _ {P H : Type 0} where
  -- The row on the pool is that on the part.
  abbrev RowAt : StepGiven H → Phase P H → PoolCore P H → Frame P H → ℕ → Type 0
  RowAt g phase c f q = lifted (λ (x : PoolPart P H). with_part q x c) (row_on c.settings c.plan phase (part_at q c.parts) f) ≡ row_of g phase c f

  purge_at : (g : StepGiven H) (p : ℕ) (cursor : PurgeCursor) (step : PurgeStep P) (c : PoolCore P H) (f : Frame P H) → purge_target c.settings c.plan cursor step ≡ Part p → RowAt g (Purge cursor step) c f p
  purge_at g p cursor (purging_step.Pick tried) c f there =
      let is = picked (has_turns c.settings.max_memories_per_module c.plan) ((purged_stripe c.plan cursor).first_place + tried) p there in
      subst (RowAt g (Purge cursor (purging_step.Pick tried)) c f) is.1 (ap (λ (b : Bool). pick_affine_row b cursor tried c f) (sym is.0))
  purge_at g p cursor (purging_step.TakeRegion name) c f there = subst (RowAt g (Purge cursor (purging_step.TakeRegion name)) c f) (same_place p _ there) refl
  purge_at g p cursor (purging_step.Forget at held) c f there = no_part Alone p refl there
  purge_at g p cursor (purging_step.PutRegion at held) c f there = subst (RowAt g (Purge cursor (purging_step.PutRegion at held)) c f) (same_place p _ there) refl
  purge_at g p cursor (purging_step.Free name) c f there = subst (RowAt g (Purge cursor (purging_step.Free name)) c f) (same_place p _ there) refl

  release_at : (g : StepGiven H) (p : ℕ) (step : ReleaseStep P) (c : PoolCore P H) (f : Frame P H) → release_target c.plan step ≡ Part p → RowAt g (Release step) c f p
  release_at g p releasing_step.Reserve c f there = no_part Alone p refl there
  release_at g p (releasing_step.TakeWarm r j) c f there = subst (RowAt g (Release (releasing_step.TakeWarm r j)) c f) (same_place p _ there) refl
  release_at g p (releasing_step.TakeRegion r k) c f there = subst (RowAt g (Release (releasing_step.TakeRegion r k)) c f) (same_place p _ there) refl
  release_at g p (releasing_step.Decommit r k at held) c f there = no_part Alone p refl there
  release_at g p (releasing_step.PutRegion r k at held) c f there = subst (RowAt g (Release (releasing_step.PutRegion r k at held)) c f) (same_place p _ there) refl
  release_at g p (releasing_step.Free r x) c f there = subst (RowAt g (Release (releasing_step.Free r x)) c f) (same_place p _ there) refl

  put_at : (p : ℕ) (o : Option Queued) (rest : List Queued) (c : PoolCore P H) (f : Frame P H) → put_target c.plan o ≡ Part p → lifted (λ (x : PoolPart P H). with_part p x c) (put_on o rest (part_at p c.parts) f) ≡ put_first o rest c f
  put_at p None rest c f there = no_part Alone p refl there
  put_at p (Some m) rest c f there =
      let At : ℕ → Type 0 = λ q. lifted (λ (x : PoolPart P H). with_part q x c) (put_on (Some m) rest (part_at q c.parts) f) ≡ put_first (Some m) rest c f in
      subst At (same_place p _ there) refl

  flush_at : (p : ℕ) (step : FlushStep) (queue : Queue) (c : PoolCore P H) (f : Frame P H) → flush_target c.plan step f.local.slots f.freed.items ≡ Part p → lifted (λ (x : PoolPart P H). with_part p x c) (flush_on c.plan step (part_at p c.parts) f) ≡ flush_row step queue c f
  flush_at p run queue c f there = no_part Alone p refl there
  flush_at p (zero kind) queue c f there = no_part Alone p refl there
  flush_at p (put kind) queue c f there = put_at p (first_of_kind kind f.local.slots) (others_of_kind kind f.local.slots) c f there
  flush_at p free queue c f there =
      let At : ℕ → Type 0 = λ q. lifted (λ (x : PoolPart P H). with_part q x c) (flush_on c.plan free (part_at q c.parts) f) ≡ flush_row free queue c f in
      subst At (same_place p _ there) refl

  row_at : (g : StepGiven H) (p : ℕ) (phase : Phase P H) (c : PoolCore P H) (f : Frame P H) → next_target c.settings c.plan phase f ≡ Part p → RowAt g phase c (resting f) p
  row_at g p (Pick tried) c f there = subst (RowAt g (Pick tried) c (resting f)) (same_place p _ there) refl
  row_at g p TakeQueue c f there = subst (RowAt g TakeQueue c (resting f)) (same_place p _ there) refl
  row_at g p (TakeRegion name) c f there = subst (RowAt g (TakeRegion name) c (resting f)) (same_place p _ there) refl
  row_at g p (TakeHeap name) c f there = subst (RowAt g (TakeHeap name) c (resting f)) (same_place p _ there) refl
  row_at g p (PutNoHeap at) c f there = subst (RowAt g (PutNoHeap at) c (resting f)) (same_place p _ there) refl
  row_at g p (PutBack at held) c f there = subst (RowAt g (PutBack at held) c (resting f)) (same_place p _ there) refl
  row_at g p (FreeOne name) c f there = subst (RowAt g (FreeOne name) c (resting f)) (same_place p _ there) refl
  row_at g p (PutHeap lease memory) c f there = subst (RowAt g (PutHeap lease memory) c (resting f)) (same_place p _ there) refl
  row_at g p (FreeHeap name memory) c f there = subst (RowAt g (FreeHeap name memory) c (resting f)) (same_place p _ there) refl
  row_at g p Merge c f there = subst (RowAt g Merge c (resting f)) (same_place p _ there) refl
  row_at g p Flush c f there = flush_at p (flush_step f.local f.freed.items) g.queue c (resting f) there
  row_at g p (Purge cursor step) c f there = purge_at g p cursor step c (resting f) there
  row_at g p (Release step) c f there = release_at g p step c (resting f) there
  row_at g p phase c f there = no_part _ p refl there

  module _ {R : Type 0} (leads : R → Exchange → R → Type 0) (limiter : R) (told : PartyTold) where
    -- What is asked of the pool, and what the code leaves of it, where the step is on the part at a place.
    abbrev StepsAt : ℕ → Phase P H → PoolCore P H → Frame P H → PoolPart P H → Frame P H → Option (Outcome P H) → Type 0
    StepsAt p phase c f y next o = f.phase ≡ phase → ◌≡◌ {A = PartAfter (PoolPart P H) P H} (record { part = y; frame = next; outcome = o }) (part_after (row_on c.settings c.plan phase (part_at p c.parts) (resting f))) → StepsAsking (λ passed. Exchanged leads passed limiter limiter) told told c f (record { core = with_part p y c; frame = next; outcome = o })

    in_pool : (p : ℕ) (phase : Phase P H) (c : PoolCore P H) (f : Frame P H) (y : PoolPart P H) (next : Frame P H) (o : Option (Outcome P H)) → next_target c.settings c.plan phase f ≡ Part p → ◌≡◌ {A = PartAfter (PoolPart P H) P H} (record { part = y; frame = next; outcome = o }) (part_after (row_on c.settings c.plan phase (part_at p c.parts) (resting f))) → ◌≡◌ {A = After P H} (record { core = with_part p y c; frame = next; outcome = o }) (stepped (row_of nothing_told phase c (resting f)))
    in_pool p phase c f y next o there row =
        ap {A = PartAfter (PoolPart P H) P H} {B = After P H} (λ (z : PartAfter (PoolPart P H) P H). record { core = with_part p z.part c; frame = z.frame; outcome = z.outcome }) row
        ∙ ap (λ (r : Row (PoolCore P H) P H). stepped r) (row_at nothing_told p phase c f there)

    told_as : (p : ℕ) (phase : Phase P H) (c : PoolCore P H) (f : Frame P H) (y : PoolPart P H) (next : Frame P H) (o : Option (Outcome P H)) → next_target c.settings c.plan phase f ≡ Part p → StepsAt p phase c f y next o
    told_as p (Pick tried) c f y next o there is row = quiet leads limiter told nothing_told (Pick tried) c f _ Idle is refl tt tt refl refl refl (in_pool p (Pick tried) c f y next o there row)
    told_as p TakeQueue c f y next o there is row = quiet leads limiter told nothing_told TakeQueue c f _ Idle is refl tt tt refl refl refl (in_pool p TakeQueue c f y next o there row)
    told_as p (TakeRegion name) c f y next o there is row = quiet leads limiter told nothing_told (TakeRegion name) c f _ Idle is refl tt tt refl refl refl (in_pool p (TakeRegion name) c f y next o there row)
    told_as p (TakeHeap name) c f y next o there is row = quiet leads limiter told nothing_told (TakeHeap name) c f _ Idle is refl tt tt refl refl refl (in_pool p (TakeHeap name) c f y next o there row)
    told_as p (PutNoHeap at) c f y next o there is row = quiet leads limiter told nothing_told (PutNoHeap at) c f _ Idle is refl tt tt refl refl refl (in_pool p (PutNoHeap at) c f y next o there row)
    told_as p (PutBack at held) c f y next o there is row = quiet leads limiter told nothing_told (PutBack at held) c f _ Idle is refl tt tt refl refl refl (in_pool p (PutBack at held) c f y next o there row)
    told_as p (FreeOne name) c f y next o there is row = quiet leads limiter told nothing_told (FreeOne name) c f _ Idle is refl tt tt refl refl refl (in_pool p (FreeOne name) c f y next o there row)
    told_as p (PutHeap lease memory) c f y next o there is row = quiet leads limiter told nothing_told (PutHeap lease memory) c f _ Idle is refl tt tt refl refl refl (in_pool p (PutHeap lease memory) c f y next o there row)
    told_as p (FreeHeap name memory) c f y next o there is row = quiet leads limiter told nothing_told (FreeHeap name memory) c f _ Idle is refl tt tt refl refl refl (in_pool p (FreeHeap name memory) c f y next o there row)
    told_as p Merge c f y next o there is row = quiet leads limiter told nothing_told Merge c f _ Idle is refl tt tt refl refl refl (in_pool p Merge c f y next o there row)
    told_as p Flush c f y next o there is row =
        let nothing = flush_told H c.plan p (flush_step f.local f.freed.items) f.local f.freed.items there in
        quiet leads limiter told nothing_told Flush c f _ Idle is refl nothing.0 nothing.1 refl refl refl (in_pool p Flush c f y next o there row)
    told_as p (Purge cursor step) c f y next o there is row =
        let nothing = purge_told H c.settings c.plan p cursor step there in
        quiet leads limiter told nothing_told (Purge cursor step) c f _ Idle is refl nothing.0 nothing.1 refl refl refl (in_pool p (Purge cursor step) c f y next o there row)
    told_as p (Release step) c f y next o there is row =
        let nothing = release_told H c.settings c.plan p step there in
        quiet leads limiter told nothing_told (Release step) c f _ Idle is refl nothing.0 nothing.1 refl refl refl (in_pool p (Release step) c f y next o there row)
    told_as p phase c f y next o there is row = no_part _ p refl there

    pub steps_at : (p : ℕ) (c : PoolCore P H) (f : Frame P H) (y : PoolPart P H) (next : Frame P H) (o : Option (Outcome P H)) → next_target c.settings c.plan f.phase f ≡ Part p → ◌≡◌ {A = PartAfter (PoolPart P H) P H} (record { part = y; frame = next; outcome = o }) (part_after (row_on c.settings c.plan f.phase (part_at p c.parts) (resting f))) → StepsAsking (λ passed. Exchanged leads passed limiter limiter) told told c f (record { core = with_part p y c; frame = next; outcome = o })
    steps_at p c f y next o there row = told_as p f.phase c f y next o there refl row
