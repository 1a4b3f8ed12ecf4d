-- Only the take of a queue counts a take of it, only a merge counts slots that are appended, and only a pick counts cold slots.
use Rattle.std.proofs.Common.{◌≡◌, ℕ, ◌+◌, ◌<◌, ◌^◌, Bool, true, false, List, [], ◌∷◌, length, sym, refl, ap, subst, ◌∙◌, arith, ⊎_elim, Option, Some, None, option_map}
use Rattle.std.specs.Prelude.{◌==◌, ◌%◌, if◌then◌else◌, slice_index}
use Rattle.std.specs.Option.{option_map_or}
use Rattle.std.proofs.lemmas.Bool.{cases_eq, eqb-true}
use Rattle.pool_limits.specs.Exchanges.{Exchange}
use Rattle.pool_hall.specs.Tally.{counted, number, rise}
use Rattle.pool_hall.specs.declared.view.View.{View}
use Rattle.pool_index.specs.Positions.{last_position}
use Rattle.pool_index.specs.Affinity.{is_affine}
use Rattle.pool_index.specs.Shard.{ShardState, after_free, warm_at, after_choice, after_affine_pick}
use Rattle.pool_index.specs.declared.ids.MemoryInModule.{MemoryInModule}
use Rattle.pool_index.proofs.Rounds.{no_rise}
use Rattle.pool_slots.specs.Parts.{part_at}
use Rattle.pool_slots.specs.Plans.{queue_role, role_at, home_of}
use Rattle.pool_slots.specs.RegionCells.{CellState}
use Rattle.pool_slots.specs.SlotQueues.{Queue, Queued, first_of_kind, others_of_kind}
use Rattle.pool_slots.specs.declared.part.PoolPart.{PoolPart}
use Rattle.pool_slots.specs.declared.part.PoolPart.TheVariants as part
use Rattle.pool_slots.specs.declared.plan.Plan.{Plan}
use Rattle.pool_slots.specs.declared.slot_name.SlotName.{SlotName}
use Rattle.pool_alloc.specs.Purges.{pick_affine_row, has_turns, purged_memory, purged_stripe}
use Rattle.pool_alloc.specs.StepTable.{row_of, merged, put_first, flush_row, flush_step, FlushStep, run, zero, put, free}
use Rattle.pool_alloc.specs.StepReads.{StepGiven, IsQueuePart, shard_in, queue_in, shard_at, queue_at, with_part, with_shard, with_cell, with_queue, with_heaps, part_holding, after_frees, freed_of, first_shard}
use Rattle.pool_alloc.specs.Turns.{After, resting}
use Rattle.pool_alloc.specs.declared.frame.Frame.{Frame}
use Rattle.pool_alloc.specs.declared.frame.FreedSlot.{FreedSlot}
use Rattle.pool_alloc.specs.declared.frame.Outcome.{Outcome}
use Rattle.pool_alloc.specs.declared.frame.Phase.{Phase}
use Rattle.pool_alloc.specs.declared.frame.Phase.TheVariants.{Idle, Key, Validate, TestStack, TestHeap, CountInstance, Pick, TakeQueue, TakeRegion, Empty, Instantiate, MakeMemory, MakeTable, CountObject, TakeHeap, MakeHeap, CountHeap, PutNoHeap, PutBack, FreeOne, UncountObject, UncountHeap, PutHeap, FreeHeap, Reset, Merge, Flush, UncountInstance, ValidateComponent, CountComponent, UncountComponent, Purge, Release}
use Rattle.pool_alloc.specs.declared.pool_core.PoolCore.{PoolCore}
use Rattle.pool_alloc.specs.declared.purge.PurgeCursor.{PurgeCursor}
use Rattle.pool_alloc.specs.declared.purge.PurgeStep.TheVariants as purging_step
use Rattle.pool_alloc.specs.declared.release.ReleaseStep.TheVariants as releasing_step
use Rattle.pool_alloc.specs.PartyTold.{PartyTold}
use Rattle.pool_alloc.specs.Targets.{next_target}
use Rattle.pool_alloc.specs.declared.step.targets.Target.TheVariants.{Part}
use Rattle.pool_alloc.proofs.PoolParts.{part_same, part_other, queue_part}
use Rattle.pool_alloc.proofs.StepNeeds.{can_still}
use Rattle.pool_driver.specs.Appending.{queue_appended}
use Rattle.pool_driver.specs.Driving.{Change, changed, counted as counter_up, uncounted as counter_down, unchanged, view_after, IsChangeOf, SeesStep}
use Rattle.pool_driver.specs.Placed.{About, IsSmall, part_counts, pool_meaning}
use Rattle.pool_driver.specs.Telling.{NoneTaken, queue_takes}
use Rattle.pool_driver.proofs.Holding.{counted_put}
use Rattle.pool_driver.proofs.Naming.{target_of}

-- what leaves the cold slots of a shard
affine_cold : (of : MemoryInModule) (s : ShardState) → (after_affine_pick of s).cold ≡ s.cold
affine_cold of s = go (last_position (is_affine of) s.warm)
  where
    go : (o : Option ℕ) → (option_map_or (after_choice None s) (option_map warm_at o) (record s { affine_misses = (s.affine_misses + 1) % 2 ^ 64 })).cold ≡ s.cold
    go None = refl
    go (Some i) = refl

frees_cold : (plan : Plan) (slots : List FreedSlot) (s : ShardState) → (after_frees plan slots s).cold ≡ s.cold
frees_cold plan [] s = refl
frees_cold plan (x ∷ rest) s = frees_cold plan rest (after_free (home_of plan x.name).local x.bytes s)

module _ {P H : Type 0} where
  -- The step of the phase takes a queue.
  abbrev pub takes_queue : Phase P H → Bool
  takes_queue TakeQueue = true
  takes_queue _ = false

  -- The step of the phase appends to a queue.
  abbrev pub appends_slots : Phase P H → Bool
  appends_slots Merge = true
  appends_slots _ = false

  -- The step of the phase picks a slot.
  abbrev pub picks_slot : Phase P H → Bool
  picks_slot (Pick tried) = true
  picks_slot _ = false

  -- A queue was taken as often as before.
  abbrev pub KeepsTakes : PoolPart P H → PoolPart P H → Type 0
  KeepsTakes (part.Queue q) (part.Queue r) = r.takes ≡ q.takes
  KeepsTakes _ _ = Unit {0}

  -- As many slots were appended to a queue as before.
  abbrev pub KeepsAppended : PoolPart P H → PoolPart P H → Type 0
  KeepsAppended (part.Queue q) (part.Queue r) = r.appended ≡ q.appended
  KeepsAppended _ _ = Unit {0}

  -- As many slots of a shard were used as before.
  abbrev pub KeepsCold : PoolPart P H → PoolPart P H → Type 0
  KeepsCold (part.Shard s) (part.Shard t) = t.cold ≡ s.cold
  KeepsCold _ _ = Unit {0}

  -- Each of these, where the phase isn't one that changes it.
  pub record Keeps (p : Phase P H) (x y : PoolPart P H) : Type 0 where
    pub takes : takes_queue p ≡ false → KeepsTakes x y
    pub appended : appends_slots p ≡ false → KeepsAppended x y
    pub cold : picks_slot p ≡ false → KeepsCold x y

  same_takes : (x : PoolPart P H) → KeepsTakes x x
  same_takes (part.Shard s) = tt
  same_takes (part.Memory cell) = tt
  same_takes (part.Table cell) = tt
  same_takes (part.Stack cell) = tt
  same_takes (part.Queue q) = refl
  same_takes (part.Heaps heaps) = tt

  same_appended : (x : PoolPart P H) → KeepsAppended x x
  same_appended (part.Shard s) = tt
  same_appended (part.Memory cell) = tt
  same_appended (part.Table cell) = tt
  same_appended (part.Stack cell) = tt
  same_appended (part.Queue q) = refl
  same_appended (part.Heaps heaps) = tt

  same_cold : (x : PoolPart P H) → KeepsCold x x
  same_cold (part.Shard s) = refl
  same_cold (part.Memory cell) = tt
  same_cold (part.Table cell) = tt
  same_cold (part.Stack cell) = tt
  same_cold (part.Queue q) = tt
  same_cold (part.Heaps heaps) = tt

  keeps_same : (p : Phase P H) (x : PoolPart P H) → Keeps p x x
  keeps_same p x = record { takes = λ no. same_takes x; appended = λ no. same_appended x; cold = λ no. same_cold x }

  to_shard : (p : Phase P H) (x : PoolPart P H) (t : ShardState) → (picks_slot p ≡ false → t.cold ≡ (shard_in x).cold) → Keeps p x (part.Shard t)
  to_shard p (part.Shard s) t same = record { takes = λ no. tt; appended = λ no. tt; cold = same }
  to_shard p (part.Memory cell) t same = record { takes = λ no. tt; appended = λ no. tt; cold = λ no. tt }
  to_shard p (part.Table cell) t same = record { takes = λ no. tt; appended = λ no. tt; cold = λ no. tt }
  to_shard p (part.Stack cell) t same = record { takes = λ no. tt; appended = λ no. tt; cold = λ no. tt }
  to_shard p (part.Queue q) t same = record { takes = λ no. tt; appended = λ no. tt; cold = λ no. tt }
  to_shard p (part.Heaps heaps) t same = record { takes = λ no. tt; appended = λ no. tt; cold = λ no. tt }

  to_queue : (p : Phase P H) (x : PoolPart P H) (r : Queue) → (takes_queue p ≡ false → r.takes ≡ (queue_in x).takes) → (appends_slots p ≡ false → r.appended ≡ (queue_in x).appended) → Keeps p x (part.Queue r)
  to_queue p (part.Shard s) r same more = record { takes = λ no. tt; appended = λ no. tt; cold = λ no. tt }
  to_queue p (part.Memory cell) r same more = record { takes = λ no. tt; appended = λ no. tt; cold = λ no. tt }
  to_queue p (part.Table cell) r same more = record { takes = λ no. tt; appended = λ no. tt; cold = λ no. tt }
  to_queue p (part.Stack cell) r same more = record { takes = λ no. tt; appended = λ no. tt; cold = λ no. tt }
  to_queue p (part.Queue q) r same more = record { takes = same; appended = more; cold = λ no. tt }
  to_queue p (part.Heaps heaps) r same more = record { takes = λ no. tt; appended = λ no. tt; cold = λ no. tt }

  to_heaps : (p : Phase P H) (x : PoolPart P H) (heaps : List _) → Keeps p x (part.Heaps heaps)
  to_heaps p (part.Shard s) heaps = record { takes = λ no. tt; appended = λ no. tt; cold = λ no. tt }
  to_heaps p (part.Memory cell) heaps = record { takes = λ no. tt; appended = λ no. tt; cold = λ no. tt }
  to_heaps p (part.Table cell) heaps = record { takes = λ no. tt; appended = λ no. tt; cold = λ no. tt }
  to_heaps p (part.Stack cell) heaps = record { takes = λ no. tt; appended = λ no. tt; cold = λ no. tt }
  to_heaps p (part.Queue q) heaps = record { takes = λ no. tt; appended = λ no. tt; cold = λ no. tt }
  to_heaps p (part.Heaps old) heaps = record { takes = λ no. tt; appended = λ no. tt; cold = λ no. tt }

  to_cell : (p : Phase P H) (x : PoolPart P H) (cell : CellState) → Keeps p x (part_holding cell x)
  to_cell p (part.Shard s) cell = keeps_same p (part.Shard s)
  to_cell p (part.Memory old) cell = record { takes = λ no. tt; appended = λ no. tt; cold = λ no. tt }
  to_cell p (part.Table old) cell = record { takes = λ no. tt; appended = λ no. tt; cold = λ no. tt }
  to_cell p (part.Stack old) cell = record { takes = λ no. tt; appended = λ no. tt; cold = λ no. tt }
  to_cell p (part.Queue q) cell = keeps_same p (part.Queue q)
  to_cell p (part.Heaps heaps) cell = keeps_same p (part.Heaps heaps)

  -- Each part of the pool keeps these.
  abbrev pub AllKeep : Phase P H → PoolCore P H → PoolCore P H → Type 0
  AllKeep p c d = (q : ℕ) → q < length c.parts → Keeps p (part_at q c.parts) (part_at q d.parts)

  all_same : (p : Phase P H) (c : PoolCore P H) → AllKeep p c c
  all_same p c q below = keeps_same p (part_at q c.parts)

  put_keeps : (p : Phase P H) (place : ℕ) (y : PoolPart P H) (c : PoolCore P H) → Keeps p (part_at place c.parts) y → AllKeep p c (with_part place y c)
  put_keeps p place y c keeps q below = ⊎_elim
      (λ (is : q ≡ place).
      let inside : place < length c.parts = omega (arith, below, is) in
      let here : Keeps p (part_at place c.parts) (part_at place (with_part place y c).parts) = subst (Keeps p (part_at place c.parts)) (sym (part_same place y c inside)) keeps in
      subst (λ (n : ℕ). Keeps p (part_at n c.parts) (part_at n (with_part place y c).parts)) (sym is) here)
      (λ (other : q ≡ place → ⊥). subst (Keeps p (part_at q c.parts)) (sym (part_other place q y c other)) (keeps_same p (part_at q c.parts)))
      (cases_eq q place)

  shard_keeps : (p : Phase P H) (place : ℕ) (t : ShardState) (c : PoolCore P H) → (picks_slot p ≡ false → t.cold ≡ (shard_at place c).cold) → AllKeep p c (with_shard place t c)
  shard_keeps p place t c same = put_keeps p place (part.Shard t) c (to_shard p (part_at place c.parts) t same)

  queue_keeps : (p : Phase P H) (place : ℕ) (r : Queue) (c : PoolCore P H) → (takes_queue p ≡ false → r.takes ≡ (queue_at place c).takes) → (appends_slots p ≡ false → r.appended ≡ (queue_at place c).appended) → AllKeep p c (with_queue place r c)
  queue_keeps p place r c same more = put_keeps p place (part.Queue r) c (to_queue p (part_at place c.parts) r same more)

  cell_keeps : (p : Phase P H) (name : SlotName) (cell : CellState) (c : PoolCore P H) → AllKeep p c (with_cell name cell c)
  cell_keeps p name cell c = put_keeps p _ _ c (to_cell p _ cell)

  heaps_keep : (p : Phase P H) (heaps : List _) (c : PoolCore P H) → AllKeep p c (with_heaps heaps c)
  heaps_keep p heaps c = put_keeps p _ _ c (to_heaps p _ heaps)

  merged_takes : (b : Bool) (whole : Queue) (f : Frame P H) → (merged b whole f).part.takes ≡ whole.takes
  merged_takes true whole f = refl
  merged_takes false whole f = refl

  affine_keeps : (b : Bool) (p : PurgeCursor) (tried : ℕ) (c : PoolCore P H) (f : Frame P H) → AllKeep (Purge p (purging_step.Pick tried)) c (pick_affine_row b p tried c f).part
  affine_keeps true p tried c f = let place : ℕ = (purged_stripe c.plan p).first_place + tried in shard_keeps _ place _ c (λ no. affine_cold (purged_memory p) (shard_at place c))
  affine_keeps false p tried c f = all_same _ c

  first_keeps : (o : Option Queued) (rest : List Queued) (c : PoolCore P H) (f : Frame P H) → AllKeep Flush c (put_first o rest c f).part
  first_keeps None rest c f = all_same Flush c
  first_keeps (Some m) rest c f = cell_keeps Flush m.name _ c

  flush_keeps : (step : FlushStep) (queue : Queue) (c : PoolCore P H) (f : Frame P H) → AllKeep Flush c (flush_row step queue c f).part
  flush_keeps run queue c f = all_same Flush c
  flush_keeps (zero kind) queue c f = all_same Flush c
  flush_keeps (put kind) queue c f = first_keeps (first_of_kind kind f.local.slots) (others_of_kind kind f.local.slots) c f
  flush_keeps free queue c f = let place : ℕ = first_shard c.plan f.freed.items in shard_keeps Flush place _ c (λ no. frees_cold c.plan (freed_of c.plan place f.freed.items) (shard_at place c))

  -- Row by row, of those that change a part.
  part_keeps : (g : StepGiven H) (p : Phase P H) (c : PoolCore P H) (f : Frame P H) (place : ℕ) → next_target c.settings c.plan p f ≡ Part place → AllKeep p c (row_of g p c (resting f)).part
  part_keeps g (Pick tried) c f place at = shard_keeps _ _ _ c (λ no. absurd cc)
  part_keeps g TakeQueue c f place at = queue_keeps _ _ _ c (λ no. absurd cc) (λ no. refl)
  part_keeps g (TakeRegion name) c f place at = cell_keeps _ name _ c
  part_keeps g (TakeHeap name) c f place at = heaps_keep _ _ c
  part_keeps g (PutNoHeap taken) c f place at = heaps_keep _ _ c
  part_keeps g (PutBack taken held) c f place at = cell_keeps _ taken.name _ c
  part_keeps g (FreeOne name) c f place at = shard_keeps _ _ _ c (λ no. refl)
  part_keeps g (PutHeap lease memory) c f place at = heaps_keep _ _ c
  part_keeps g (FreeHeap name memory) c f place at = shard_keeps _ _ _ c (λ no. refl)
  part_keeps g Merge c f place at = queue_keeps _ _ _ c (λ no. merged_takes _ _ _) (λ no. absurd cc)
  part_keeps g Flush c f place at = flush_keeps (flush_step f.local f.freed.items) g.queue c (resting f)
  part_keeps g (Purge p (purging_step.Pick tried)) c f place at = affine_keeps (has_turns c.settings.max_memories_per_module c.plan) p tried c (resting f)
  part_keeps g (Purge p (purging_step.TakeRegion name)) c f place at = cell_keeps _ name _ c
  part_keeps g (Purge p (purging_step.Forget taken held)) c f place at = all_same _ c
  part_keeps g (Purge p (purging_step.PutRegion taken held)) c f place at = cell_keeps _ taken.name _ c
  part_keeps g (Purge p (purging_step.Free name)) c f place at = shard_keeps _ _ _ c (λ no. refl)
  part_keeps g (Release releasing_step.Reserve) c f place at = absurd cc
  part_keeps g (Release (releasing_step.TakeWarm r j)) c f place at = shard_keeps _ _ _ c (λ no. refl)
  part_keeps g (Release (releasing_step.TakeRegion r k)) c f place at = cell_keeps _ _ _ c
  part_keeps g (Release (releasing_step.Decommit r k taken held)) c f place at = all_same _ c
  part_keeps g (Release (releasing_step.PutRegion r k taken held)) c f place at = cell_keeps _ taken.name _ c
  part_keeps g (Release (releasing_step.Free r x)) c f place at = shard_keeps _ _ _ c (λ no. refl)
  part_keeps g Idle c f place at = absurd cc
  part_keeps g Key c f place at = absurd cc
  part_keeps g Validate c f place at = absurd cc
  part_keeps g TestStack c f place at = absurd cc
  part_keeps g TestHeap c f place at = absurd cc
  part_keeps g CountInstance c f place at = absurd cc
  part_keeps g (Empty taken held) c f place at = absurd cc
  part_keeps g (Instantiate taken held) c f place at = absurd cc
  part_keeps g (MakeMemory taken held) c f place at = absurd cc
  part_keeps g (MakeTable taken region) c f place at = absurd cc
  part_keeps g (CountObject object) c f place at = absurd cc
  part_keeps g (MakeHeap taken) c f place at = absurd cc
  part_keeps g (CountHeap lease) c f place at = absurd cc
  part_keeps g (UncountObject object) c f place at = absurd cc
  part_keeps g (UncountHeap lease memory) c f place at = absurd cc
  part_keeps g (Reset object) c f place at = absurd cc
  part_keeps g UncountInstance c f place at = absurd cc
  part_keeps g (ValidateComponent info) c f place at = absurd cc
  part_keeps g CountComponent c f place at = absurd cc
  part_keeps g UncountComponent c f place at = absurd cc

  -- what is so of two queues is so of two parts that are queues
  of_queues : (G : PoolPart P H → PoolPart P H → Type 0) → ((q r : Queue) → G (part.Queue q) (part.Queue r)) → (x y : PoolPart P H) → IsQueuePart x → IsQueuePart y → G x y
  of_queues G each (part.Queue q) (part.Queue r) one two = each q r
  of_queues G each (part.Shard s) y one two = absurd one
  of_queues G each (part.Memory cell) y one two = absurd one
  of_queues G each (part.Table cell) y one two = absurd one
  of_queues G each (part.Stack cell) y one two = absurd one
  of_queues G each (part.Heaps heaps) y one two = absurd one
  of_queues G each (part.Queue q) (part.Shard s) one two = absurd two
  of_queues G each (part.Queue q) (part.Memory cell) one two = absurd two
  of_queues G each (part.Queue q) (part.Table cell) one two = absurd two
  of_queues G each (part.Queue q) (part.Stack cell) one two = absurd two
  of_queues G each (part.Queue q) (part.Heaps heaps) one two = absurd two

  -- what the hall counts of a queue then
  takes_rise : (x y : PoolPart P H) → IsQueuePart x → IsQueuePart y → KeepsTakes x y → IsSmall x → rise (slice_index (part_counts x) queue_takes) (slice_index (part_counts y) queue_takes) ≡ 0
  takes_rise = of_queues (λ x y. KeepsTakes x y → IsSmall x → rise (slice_index (part_counts x) queue_takes) (slice_index (part_counts y) queue_takes) ≡ 0)
      (λ q r same small. ap (λ (n : ℕ). rise q.takes n) same ∙ no_rise q.takes (small queue_takes))

  pub appended_rises : (x y : PoolPart P H) → IsQueuePart x → IsQueuePart y → KeepsAppended x y → IsSmall x → rise (slice_index (part_counts x) queue_appended) (slice_index (part_counts y) queue_appended) ≡ 0
  appended_rises = of_queues (λ x y. KeepsAppended x y → IsSmall x → rise (slice_index (part_counts x) queue_appended) (slice_index (part_counts y) queue_appended) ≡ 0)
      (λ q r same small. ap (λ (n : ℕ). rise q.appended n) same ∙ no_rise q.appended (small queue_appended))

module _ {T P H : Type 0} (about : T → About) (inner : T → PoolPart P H) (Passes : List Exchange → Type 0) (old new : PartyTold) (a : About) (v w : View T) (f next : Frame P H) (o : Option (Outcome P H)) (s : SeesStep about inner Passes old new a v w f next o) where
  -- What was put keeps these counts, where the phase doesn't change them.
  pub put_keeps_both : (p : ℕ) (x y : T) → IsChangeOf about inner (changed p x y) (next_target a.settings a.plan f.phase f) s.core s.left → Keeps f.phase (inner x) (inner y)
  put_keeps_both p x y of =
      let left_is : s.left ≡ (row_of s.row.0 f.phase s.core (resting f)).part = ap (λ (z : After P H). z.core) s.row.1.0.is in
      let here : Keeps f.phase (part_at p s.core.parts) (part_at p s.left.parts) = subst (λ (d : PoolCore P H). Keeps f.phase (part_at p s.core.parts) (part_at p d.parts)) (sym left_is) (part_keeps s.row.0 f.phase s.core f p (sym (target_of about inner Passes old new a v w f next o s f.phase refl) ∙ of.0) p of.1) in
      let is : part_at p s.left.parts ≡ inner y = ap (λ (d : PoolCore P H). part_at p d.parts) of.3 ∙ part_same p (inner y) s.core of.1 in
      subst (Keeps f.phase (inner x)) is (subst (λ (z : PoolPart P H). Keeps f.phase z (part_at p s.left.parts)) of.2 here)

  -- what is put where a queue lay, or a shard, is one
  pub queue_stays : (p : ℕ) (x y : T) → IsChangeOf about inner (changed p x y) (next_target a.settings a.plan f.phase f) s.core s.left → role_at s.core.plan p ≡ queue_role → IsQueuePart (inner x) × IsQueuePart (inner y)
  queue_stays p x y of role =
      let left_core = (can_still a.maker old new s.core f (record { core = s.left; frame = next; outcome = o }) s.can (s.row.0, s.row.1.0)).core in
      let plan : s.left.plan ≡ s.core.plan = ap (λ (d : PoolCore P H). d.plan) of.3 in
      let is : part_at p s.left.parts ≡ inner y = ap (λ (d : PoolCore P H). part_at p d.parts) of.3 ∙ part_same p (inner y) s.core of.1 in
      (subst IsQueuePart of.2 (queue_part a.maker p s.core s.can.core role).part, subst IsQueuePart is (queue_part a.maker p s.left left_core (ap (λ (z : Plan). role_at z p) plan ∙ role)).part)

  -- In a step that takes no queue no queue counts a take.
  pub none_taken_still : takes_queue f.phase ≡ false → NoneTaken v w s.core.plan
  none_taken_still other q role = go s.change s.of s.view
    where
      go : (ch : Change T) → IsChangeOf about inner ch (next_target a.settings a.plan f.phase f) s.core s.left → w ≡ view_after about inner ch v → number (counted q queue_takes) w ≡ number (counted q queue_takes) v
      go (changed p x y) of is = by (q == p) refl
        where
          rose : ℕ
          rose = rise (slice_index (part_counts (inner x)) queue_takes) (slice_index (part_counts (inner y)) queue_takes)

          more : number (counted q queue_takes) w ≡ (if q == p then rose else 0) + number (counted q queue_takes) v
          more = counted_put (pool_meaning about inner) p x y v w is q queue_takes

          by : (b : Bool) → (q == p) ≡ b → number (counted q queue_takes) w ≡ number (counted q queue_takes) v
          by true same =
              let at : q ≡ p = eqb-true q p same in
              let queues = queue_stays p x y of (ap (λ (n : ℕ). role_at s.core.plan n) (sym at) ∙ role) in
              let none : rose ≡ 0 = takes_rise (inner x) (inner y) queues.0 queues.1 ((put_keeps_both p x y of).takes other) of.4 in
              let e : number (counted q queue_takes) w ≡ rose + number (counted q queue_takes) v = more ∙ ap (λ b. (if b then rose else 0) + number (counted q queue_takes) v) same in
              omega arith
          by false same = let e : number (counted q queue_takes) w ≡ 0 + number (counted q queue_takes) v = more ∙ ap (λ b. (if b then rose else 0) + number (counted q queue_takes) v) same in omega arith
      go (counter_up name found) of is = ap (λ (z : View T). number (counted q queue_takes) z) is
      go (counter_down name) of is = ap (λ (z : View T). number (counted q queue_takes) z) is
      go unchanged of is = ap (λ (z : View T). number (counted q queue_takes) z) is
