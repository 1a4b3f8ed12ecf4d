-- What a frame has in hand, and what lies in a queue, never has fewer faults than its unit tells: each step keeps that.
use Rattle.std.proofs.Common.{◌≡◌, ℕ, ◌+◌, ◌<◌, Bool, true, false, List, [], ◌∷◌, length, sym, subst, arith, Option, Some, None, nat_lt}
use Rattle.std.specs.Prelude.{◌^◌}
use Rattle.pool_hall.specs.declared.unit_name.SlotKind.{SlotKind}
use Rattle.pool_index.specs.Shard.{ShardState}
use Rattle.pool_index.specs.declared.ids.SlotId.{SlotId}
use Rattle.pool_pages.specs.MakerTold.{MakerTold}
use Rattle.pool_slots.specs.Cells.{Cell, is_taken, unmapped, unknown, previously_used, taken}
use Rattle.pool_slots.specs.CellOf.{cell_of}
use Rattle.pool_slots.specs.Parts.{cell_of_part, part_at}
use Rattle.pool_slots.specs.Plans.{cell_place, home_of}
use Rattle.pool_slots.specs.RegionCells.{CellState, cell_numbers, faults_in, numbers_by}
use Rattle.pool_slots.specs.declared.part.PoolPart.{PoolPart}
use Rattle.pool_slots.specs.declared.plan.Plan.{Plan}
use Rattle.pool_slots.specs.declared.slot_name.RegionNumbers.{RegionNumbers}
use Rattle.pool_slots.specs.declared.slot_name.SlotName.{SlotName}
use Rattle.pool_alloc.specs.PageCallAnswers.{MayBeTold, PurgeTold, ReleaseTold}
use Rattle.pool_alloc.specs.PartyTold.{PartyTold}
use Rattle.pool_alloc.specs.Purges.{affine_picked, behind_memory, behind_turn, has_turns, image_in, pick_affine_row, purge_row, purge_to, purged_stripe}
use Rattle.pool_alloc.specs.Releases.{behind_stripe, drain_at, drain_from, free_first, nth_taken, release_row, released_stripe, reserve_row, releasing, warm_taken}
use Rattle.pool_alloc.specs.StepTable.{flush_step, row_of, heap_freed}
use Rattle.pool_alloc.specs.BetweenSteps.{IsFrame}
use Rattle.pool_alloc.specs.Stepping.{CanStep, StepsTo}
use Rattle.pool_alloc.specs.StepReads.{StepGiven, cell_named, queue_tried, shard_tried}
use Rattle.pool_alloc.specs.Turns.{After, ends, goes, stepped}
use Rattle.pool_alloc.specs.declared.frame.Frame.{Frame}
use Rattle.pool_alloc.specs.declared.frame.FreedSlot.{FreedSlot}
use Rattle.pool_alloc.specs.declared.frame.Outcome.TheVariants as answer
use Rattle.pool_alloc.specs.declared.frame.Phase.{Phase}
use Rattle.pool_alloc.specs.declared.frame.Phase.TheVariants.{Idle, Key, Validate, TestStack, TestHeap, CountInstance, Pick, TakeQueue, TakeRegion, Empty, Instantiate, MakeMemory, MakeTable, CountObject, TakeHeap, MakeHeap, CountHeap, PutNoHeap, PutBack, FreeOne, UncountObject, UncountHeap, PutHeap, FreeHeap, Reset, Merge, Flush, UncountInstance, ValidateComponent, CountComponent, UncountComponent, Purge, Release}
use Rattle.pool_alloc.specs.declared.pool_core.PoolCore.{PoolCore}
use Rattle.pool_alloc.specs.declared.purge.PurgeCursor.{PurgeCursor}
use Rattle.pool_alloc.specs.declared.purge.PurgeStep.{PurgeStep}
use Rattle.pool_alloc.specs.declared.purge.PurgeStep.TheVariants as purging_step
use Rattle.pool_alloc.specs.declared.release.ReleaseCursor.{ReleaseCursor}
use Rattle.pool_alloc.specs.declared.release.ReleaseStep.{ReleaseStep}
use Rattle.pool_alloc.specs.declared.release.ReleaseStep.TheVariants as releasing_step
use Rattle.pool_alloc.proofs.BeforeTheTurn.{in_phase}
use Rattle.pool_alloc.proofs.StepNeeds.{can_still}
use Rattle.pool_driver.specs.Faults.{AnswerKeeps, FrameKeeps, KeepsFaults, PartKeeps, PhaseKeeps, PurgeKeeps, ReleaseKeeps}
use Rattle.pool_driver.specs.Growing.{AreKept}
use Rattle.pool_driver.proofs.QueueFaults.{by_choice}
use Rattle.pool_driver.proofs.RegionFaults.{drains_keep, forgets_keep}
use Rattle.pool_driver.proofs.RowFaults.{at_each, QueuesKeep, cell_set, shard_set, AreSmall, small_cell, RowKeeps, AfterKeeps, stepped_keeps, key_keeps, validated_keeps, stacks_keep, heaps_keep, component_keeps, counted_keeps, component_counted_keeps, uncount_instance_keeps, uncount_component_keeps, pick_keeps, take_queue_keeps, take_region_keeps, empty_keeps, instantiate_keeps, make_memory_keeps, make_table_keeps, count_object_keeps, take_heap_keeps, make_heap_keeps, put_heap_keeps, put_back_keeps, free_one_keeps, uncount_heap_keeps, free_heap_keeps, uncount_object_keeps, reset_row_keeps, merge_keeps, flush_row_keeps, heap_counted_keeps, freed_keeps}
use Rattle.pool_driver.proofs.TurnFaults.{HandKeeps, TurnKeeps}

-- What is taken out of a cell for a purge or a release goes with its own count.
in_hand_keeps : (P : Type 0) (kind : SlotKind) (out : RegionNumbers) (held : Cell) → is_taken (cell_of {P = P} (image_in held)) ≡ false → (numbers_by out kind held).faults < 2 ^ 64 → KeepsFaults (numbers_by out kind held).faults (faults_in (cell_of {P = P} (image_in held)))
in_hand_keeps P kind out (unmapped region) there small = record { least = omega arith; small = small }
in_hand_keeps P kind out (unknown held) there small = record { least = omega arith; small = small }
in_hand_keeps P kind out (previously_used held) there small = record { least = omega arith; small = small }
in_hand_keeps P kind out taken there small = absurd cc

module _ (P H : Type 0) where
  -- how a purge goes on,
  purge_to_keeps : (p : PurgeCursor) (o : Option PurgeCursor) → TurnKeeps {P = P} {H = H} (purge_to p o)
  purge_to_keeps p None = tt
  purge_to_keeps p (Some next) = tt

  affine_keeps : (per_module : ℕ) (plan : Plan) (p : PurgeCursor) (o : Option SlotId) (shard : ShardState) (tried : ℕ) → TurnKeeps {P = P} {H = H} (affine_picked per_module plan p o shard tried)
  affine_keeps per_module plan p (Some slot) shard tried = tt
  affine_keeps per_module plan p None shard tried =
      by_choice (TurnKeeps {P = P} {H = H}) (nat_lt (tried + 1) (purged_stripe plan p).shards) (goes (Purge p (purging_step.Pick (tried + 1)))) (purge_to p (behind_memory per_module plan p)) tt (purge_to_keeps p (behind_memory per_module plan p))

  -- and a release
  stripe_keeps : (plan : Plan) (r : ReleaseCursor) → TurnKeeps {P = P} {H = H} (behind_stripe plan r)
  stripe_keeps plan r = by_choice (TurnKeeps {P = P} {H = H}) (nat_lt (r.stripe + 1) (length plan.memories)) (goes (Release (releasing_step.TakeWarm (record r { stripe = r.stripe + 1; taken = record r.taken { items = [] }; failed = false }) 0))) (ends (answer.Released r.released)) tt tt

  free_first_keeps : (plan : Plan) (slots : List FreedSlot) (r : ReleaseCursor) → TurnKeeps {P = P} {H = H} (free_first plan slots r)
  free_first_keeps plan [] r = stripe_keeps plan r
  free_first_keeps plan (x ∷ rest) r = tt

  drain_keeps : (plan : Plan) (r : ReleaseCursor) (k : ℕ) → TurnKeeps {P = P} {H = H} (drain_at plan r k)
  drain_keeps plan r k = by_choice (TurnKeeps {P = P} {H = H}) (nat_lt k (length r.taken.items)) (goes (Release (releasing_step.TakeRegion r k))) (free_first plan r.taken.items r) tt (free_first_keeps plan r.taken.items r)

  warm_keeps : (plan : Plan) (r : ReleaseCursor) (j : ℕ) → TurnKeeps {P = P} {H = H} (warm_taken plan r j)
  warm_keeps plan r j = by_choice (TurnKeeps {P = P} {H = H}) (nat_lt (j + 1) (released_stripe plan r).shards) (goes (Release (releasing_step.TakeWarm r (j + 1)))) (drain_from plan r 0) tt (drain_keeps plan r _)

module _ {P H : Type 0} where
  -- the frame after a step, by which a region is there that was taken
  abbrev IsFrameAfter : MakerTold → After P H → Type 0
  IsFrameAfter maker a = IsFrame maker a.core.settings a.core.plan a.frame

-- the rows of a purge and of a release
module _ {P H : Type 0} (maker : MakerTold) (c : PoolCore P H) (f : Frame P H) (hand : HandKeeps f) (parts : QueuesKeep c) (small : AreSmall c) where
  pick_affine_keeps : (b : Bool) (p : PurgeCursor) (tried : ℕ) → RowKeeps (pick_affine_row b p tried c f)
  pick_affine_keeps true p tried = record { hand = hand; turn = affine_keeps P H c.settings.max_memories_per_module c.plan p _ _ tried; parts = shard_set _ _ c parts }
  pick_affine_keeps false p tried = record { hand = hand; turn = tt; parts = parts }

  purge_keeps : (g : StepGiven H) (p : PurgeCursor) (step : PurgeStep P) → PurgeTold g step → PurgeKeeps step → IsFrameAfter maker (stepped (purge_row g p step c f)) → RowKeeps (purge_row g p step c f)
  purge_keeps g p (purging_step.Pick tried) told one after = pick_affine_keeps (has_turns c.settings.max_memories_per_module c.plan) p tried
  purge_keeps g p (purging_step.TakeRegion name) told one after =
      let cell : CellState = cell_named name c in
      record { hand = hand; turn = in_hand_keeps P cell.name.kind cell.out cell.holds after.shape.1.1.there (small (cell_place c.plan name)); parts = cell_set name _ c parts }
  purge_keeps g p (purging_step.Forget at held) told one after = record { hand = hand; turn = forgets_keep at.numbers.faults g.fault held g.slot told one; parts = parts }
  purge_keeps g p (purging_step.PutRegion at held) told one after = record { hand = hand; turn = tt; parts = cell_set at.name _ c parts }
  purge_keeps g p (purging_step.Free name) told one after = record { hand = hand; turn = purge_to_keeps P H p (behind_turn c.settings.max_memories_per_module c.plan p); parts = shard_set _ _ c parts }

  reserve_keeps : (b : Bool) → RowKeeps (reserve_row b c f)
  reserve_keeps true = record { hand = hand; turn = tt; parts = parts }
  reserve_keeps false = record { hand = hand; turn = tt; parts = parts }

  release_keeps : (g : StepGiven H) (step : ReleaseStep P) → ReleaseTold c.settings g step → ReleaseKeeps step → IsFrameAfter maker (stepped (release_row g step c f)) → RowKeeps (release_row g step c f)
  release_keeps g releasing_step.Reserve told one after = reserve_keeps g.wants
  release_keeps g (releasing_step.TakeWarm r j) told one after = record { hand = hand; turn = warm_keeps P H c.plan _ j; parts = shard_set _ _ c parts }
  release_keeps g (releasing_step.TakeRegion r k) told one after =
      let name : SlotName = (nth_taken r k).name in
      let cell : CellState = cell_named name c in
      record { hand = hand; turn = in_hand_keeps P cell.name.kind cell.out cell.holds after.shape.1.region.there (small (cell_place c.plan name)); parts = cell_set name _ c parts }
  release_keeps g (releasing_step.Decommit r k at held) told one after = record { hand = hand; turn = drains_keep at.numbers.faults c.settings g.fault held g.slot told one; parts = parts }
  release_keeps g (releasing_step.PutRegion r k at held) told one after = record { hand = hand; turn = drain_keeps P H c.plan r _; parts = cell_set at.name _ c parts }
  release_keeps g (releasing_step.Free r x) told one after = record { hand = hand; turn = free_first_keeps P H c.plan r.taken.items (releasing r x); parts = shard_set _ _ c parts }

module _ {P H : Type 0} (maker : MakerTold) (old new : PartyTold) where
  -- Each row of the table keeps the faults.
  rows_keep : (g : StepGiven H) (p : Phase P H) (c : PoolCore P H) (f : Frame P H) → CanStep maker c (in_phase p f) → MayBeTold c.settings g p (in_phase p f) → IsFrameAfter maker (stepped (row_of g p c (in_phase Idle f))) → HandKeeps f → PhaseKeeps p → QueuesKeep c → AreSmall c →
      AfterKeeps (stepped (row_of g p c (in_phase Idle f)))
  rows_keep g Idle c f can told after hand one parts small = record { frame = record { objects = hand.0; local = hand.1; phase = tt }; answer = tt; parts = parts }
  rows_keep g Key c f can told after hand one parts small = stepped_keeps _ (key_keeps c (in_phase Idle f) hand parts)
  rows_keep g Validate c f can told after hand one parts small = stepped_keeps _ (validated_keeps c (in_phase Idle f) hand parts _ g.wants CountInstance tt)
  rows_keep g TestStack c f can told after hand one parts small = stepped_keeps _ (stacks_keep c (in_phase Idle f) hand parts _)
  rows_keep g TestHeap c f can told after hand one parts small = stepped_keeps _ (heaps_keep c (in_phase Idle f) hand parts c.settings.tunables.tunables.collector g.wants)
  rows_keep g CountInstance c f can told after hand one parts small = stepped_keeps _ (counted_keeps c (in_phase Idle f) hand parts _)
  rows_keep g (Pick tried) c f can told after hand one parts small = stepped_keeps _ (pick_keeps c (in_phase Idle f) hand parts (shard_tried tried c.plan (in_phase Idle f)) tried)
  rows_keep g TakeQueue c f can told after hand one parts small = stepped_keeps _ (take_queue_keeps c (in_phase Idle f) hand parts (queue_tried f.queues c.plan (in_phase Idle f)))
  rows_keep g (TakeRegion name) c f can told after hand one parts small = stepped_keeps _ (take_region_keeps c (in_phase Idle f) hand parts name small)
  rows_keep g (Empty at held) c f can told after hand one parts small = stepped_keeps _ (empty_keeps c (in_phase Idle f) hand parts g.fault g.slot at held told one)
  rows_keep g (Instantiate at held) c f can told after hand one parts small = stepped_keeps _ (instantiate_keeps c (in_phase Idle f) hand parts g.fault g.slot at held can.frame.shape.4 told one)
  rows_keep g (MakeMemory at held) c f can told after hand one parts small = stepped_keeps _ (make_memory_keeps c (in_phase Idle f) hand parts g.limiter at held one)
  rows_keep g (MakeTable at region) c f can told after hand one parts small = stepped_keeps _ (make_table_keeps c (in_phase Idle f) hand parts g.limiter at region one)
  rows_keep g (CountObject object) c f can told after hand one parts small = stepped_keeps _ (count_object_keeps c (in_phase Idle f) hand parts object one)
  rows_keep g (TakeHeap name) c f can told after hand one parts small = stepped_keeps _ (take_heap_keeps c (in_phase Idle f) hand parts name)
  rows_keep g (MakeHeap at) c f can told after hand one parts small = stepped_keeps _ (make_heap_keeps c (in_phase Idle f) hand parts g.heap at)
  rows_keep g (CountHeap lease) c f can told after hand one parts small = stepped_keeps _ (heap_counted_keeps c (in_phase Idle f) hand parts f.asked lease)
  rows_keep g (PutNoHeap at) c f can told after hand one parts small = stepped_keeps _ (put_heap_keeps c (in_phase Idle f) hand parts at.name.slot None (FreeOne at.name) tt)
  rows_keep g (PutBack at held) c f can told after hand one parts small = stepped_keeps _ (put_back_keeps c (in_phase Idle f) hand parts at.name (cell_of held))
  rows_keep g (FreeOne name) c f can told after hand one parts small = stepped_keeps _ (free_one_keeps c (in_phase Idle f) hand parts (home_of c.plan name).place name)
  rows_keep g (UncountObject object) c f can told after hand one parts small = stepped_keeps _ (uncount_object_keeps c (in_phase Idle f) hand parts object one)
  rows_keep g (UncountHeap lease memory) c f can told after hand one parts small = stepped_keeps _ (uncount_heap_keeps c (in_phase Idle f) hand parts lease memory one)
  rows_keep g (PutHeap lease memory) c f can told after hand one parts small = stepped_keeps _ (put_heap_keeps c (in_phase Idle f) hand parts lease.index (Some lease.heap) (heap_freed _ memory) (freed_keeps c (in_phase Idle f) hand parts _ memory one))
  rows_keep g (FreeHeap name memory) c f can told after hand one parts small = stepped_keeps _ (free_heap_keeps c (in_phase Idle f) hand parts (home_of c.plan name).place name memory one)
  rows_keep g (Reset object) c f can told after hand one parts small = stepped_keeps _ (reset_row_keeps c (in_phase Idle f) hand parts g object told one)
  rows_keep g Merge c f can told after hand one parts small = stepped_keeps _ (merge_keeps c (in_phase Idle f) hand parts (queue_tried 0 c.plan (in_phase Idle f)))
  rows_keep g Flush c f can told after hand one parts small = stepped_keeps _ (flush_row_keeps c (in_phase Idle f) hand parts (flush_step f.local f.freed.items) g told)
  rows_keep g UncountInstance c f can told after hand one parts small = stepped_keeps _ (uncount_instance_keeps c (in_phase Idle f) hand parts)
  rows_keep g (ValidateComponent info) c f can told after hand one parts small = stepped_keeps _ (component_keeps c (in_phase Idle f) hand parts _)
  rows_keep g CountComponent c f can told after hand one parts small = stepped_keeps _ (component_counted_keeps c (in_phase Idle f) hand parts _)
  rows_keep g UncountComponent c f can told after hand one parts small = stepped_keeps _ (uncount_component_keeps c (in_phase Idle f) hand parts)
  rows_keep g (Purge p step) c f can told after hand one parts small = stepped_keeps _ (purge_keeps maker c (in_phase Idle f) hand parts small g p step told one after)
  rows_keep g (Release step) c f can told after hand one parts small = stepped_keeps _ (release_keeps maker c (in_phase Idle f) hand parts small g step told one after)

  -- the same of a step
  step_keeps : (c : PoolCore P H) (f : Frame P H) (a : After P H) → CanStep maker c f → StepsTo old new c f a → AreKept c.parts → FrameKeeps f → AfterKeeps a
  step_keeps c f a can steps kept k =
      let small : AreSmall c = at_each (λ (x : PoolPart P H). (cell_numbers (cell_of_part x)).faults < 2 ^ 64) c.parts (omega arith) (λ p below. small_cell (part_at p c.parts) (kept p below).small) in
      let parts : QueuesKeep c = at_each (λ (x : PoolPart P H). PartKeeps x) c.parts tt (λ p below. (kept p below).faults) in
      let after : IsFrameAfter maker a = (can_still maker old new c f a can steps).frame in
      subst (λ (b : After P H). AfterKeeps b) (sym steps.1.is)
      (rows_keep steps.0 f.phase c f can steps.1.told (subst (λ (b : After P H). IsFrameAfter maker b) steps.1.is after) (k.objects, k.local) k.phase parts small)

-- A step keeps the faults of what the frame has, of what it grants, and of what queues hold.
pub keeps_step : {P H : Type 0} (maker : MakerTold) (old new : PartyTold) (c : PoolCore P H) (f : Frame P H) (a : After P H) → CanStep maker c f → StepsTo old new c f a → AreKept c.parts → FrameKeeps f →
    FrameKeeps a.frame × AnswerKeeps a.outcome × ((p : ℕ) → p < length c.parts → PartKeeps (part_at p a.core.parts))
keeps_step maker old new c f a can steps kept k =
    let all = step_keeps maker old new c f a can steps kept k in
    (all.frame, all.answer, λ p below. all.parts p)
