-- A call puts regions of which nothing is known into their cells only where it also puts one back that has faulted: each step keeps that.
use Rattle.std.proofs.Common.{◌≡◌, ⊎_elim, ℕ, Bool, true, false, List, length, refl, sym, ap, subst, Option, slice_get, ◌+◌, ◌<◌, [], ◌∷◌, ◌++◌, arith, Some, None, nat_le, inl, inr, map, IfSome, ◌^◌, slice_index, ◌∙◌}
use Rattle.std.specs.Prelude.{if◌then◌else◌, ◌==◌}
use Rattle.pool_hall.specs.declared.view.View.{View}
use Rattle.pool_limits.specs.Exchanges.{Exchange}
use Rattle.pool_images.specs.Slots.{Slot}
use Rattle.pool_images.specs.declared.ranges.ByteRange.{ByteRange}
use Rattle.pool_slots.specs.CellOf.{cell_of}
use Rattle.pool_slots.specs.HeapLists.{heap_in}
use Rattle.pool_slots.specs.Plans.{cell_place, role_at, Role, cell_role}
use Rattle.pool_slots.specs.RegionCells.{faults_in, cell_filled}
use Rattle.pool_slots.specs.SlotQueues.{Queue, after_append, Queued, first_of_kind, others_of_kind, first_slot, by_kind, first_zeroed, front, is_of}
use Rattle.pool_slots.specs.declared.cells.ImageSlot.{ImageSlot}
use Rattle.pool_slots.specs.declared.part.PoolPart.{PoolPart}
use Rattle.pool_slots.specs.declared.plan.Plan.{Plan}
use Rattle.pool_alloc.specs.BetweenSteps.{IsShapedAt, IsPartAt, IsPartFor, IsMemoryNext, IsAllocating}
use Rattle.pool_alloc.specs.Calls.{begun_call}
use Rattle.pool_alloc.specs.PageCallAnswers.{MayBeTold, FlushTold, Resets, Decommits, Forgets}
use Rattle.pool_alloc.specs.PartyTold.{PartyTold}
use Rattle.pool_alloc.specs.StepReads.{StepGiven, cell_named, heaps_at, memories_wanted, queue_at, queue_tried, shard_at, shard_tried, wanted, cell_returned, with_cell, with_part}
use Rattle.pool_alloc.specs.StepTable.{flush_step, row_of}
use Rattle.pool_alloc.specs.Stepping.{is_idle}
use Rattle.pool_alloc.specs.Turns.{After, resting, Left}
use Rattle.pool_alloc.specs.declared.frame.Call.{Call}
use Rattle.pool_alloc.specs.declared.frame.Ending.TheVariants.{Returned as returned}
use Rattle.pool_alloc.specs.declared.frame.Frame.{Frame}
use Rattle.pool_alloc.specs.declared.frame.Grant.TheVariants.{Instance, Component, Memory, Table, Stack, Heap, HeapOver}
use Rattle.pool_alloc.specs.declared.frame.Outcome.{Outcome}
use Rattle.pool_alloc.specs.declared.frame.Phase.{Phase}
use Rattle.pool_alloc.specs.declared.frame.Phase.TheVariants.{Idle, Key, Validate, TestStack, TestHeap, CountInstance, Pick, TakeQueue, TakeRegion, Empty, Instantiate, MakeMemory, MakeTable, CountObject, TakeHeap, MakeHeap, CountHeap, PutNoHeap, PutBack, FreeOne, UncountObject, UncountHeap, PutHeap, FreeHeap, Reset, Merge, Flush, UncountInstance, ValidateComponent, CountComponent, UncountComponent, Purge, Release}
use Rattle.pool_alloc.specs.declared.frame.TakenSlot.{TakenSlot}
use Rattle.pool_alloc.specs.declared.pool_core.PoolCore.{PoolCore}
use Rattle.pool_alloc.proofs.ToldElements.{told_there}
use Rattle.pool_index.specs.Shard.{pick_answer}
use Rattle.pool_driver.specs.Driving.{counted as counted_change, uncounted, SeesStep, Change, changed, unchanged, view_after, IsChangeOf}
use Rattle.pool_driver.specs.Faults.{FrameKeeps, HasFaulted, PhaseKeeps, KeepsFaults}
use Rattle.pool_driver.specs.Placed.{About, part_counts, pool_meaning}
use Rattle.pool_driver.specs.Telling.{HoldsMore}
use Rattle.pool_driver.specs.UnknownPuts.{CallCaused, EndingCaused, FlushCaused, GoesBackKnown, HandCaused, PhaseCaused, PurgeCaused, ReleaseCaused, UnknownCaused, UnlessUnmade, unknown_puts, NoneUnknown, IsUnknown, SomeQueuedFaulted}
use Rattle.pool_driver.specs.PageFaults.{SomeFaulted}
use Rattle.pool_driver.proofs.Naming.{PutAt, left_is, placed_at, sees_more, target_of}
use Rattle.pool_driver.proofs.OwnNumbers.{IsOwn, OwnPut, own_numbers}
use Rattle.pool_driver.proofs.CellPuts.{faulted_home, still_faulted}
use Rattle.pool_pages.specs.Told.{Told}
use Rattle.pool_hall.specs.declared.unit_name.SlotKind.{SlotKind}
use Rattle.pool_slots.specs.Cells.{Cell}
use Rattle.pool_slots.specs.Parts.{part_at, IsCellPart}
use Rattle.pool_slots.specs.declared.slot_name.SlotName.{SlotName}
use Rattle.pool_slots.specs.declared.slot_name.RegionNumbers.{RegionNumbers}
use Rattle.pool_memory.specs.Memories.{slot_of}
use Rattle.pool_alloc.specs.Leases.{slot_taken}
use Rattle.pool_alloc.specs.Purges.{purge_row, after_forgetting}
use Rattle.pool_alloc.specs.Releases.{release_row}
use Rattle.pool_alloc.specs.SoundSteps.{IsSoundStep}
use Rattle.pool_alloc.specs.TableLeases.{LeasedTable}
use Rattle.pool_alloc.specs.declared.purge.PurgeCursor.{PurgeCursor}
use Rattle.pool_alloc.specs.declared.purge.PurgeStep.{PurgeStep}
use Rattle.pool_alloc.specs.declared.release.ReleaseStep.{ReleaseStep}
use Rattle.pool_alloc.proofs.KindCounts.{first_has}
use Rattle.pool_alloc.proofs.SoundSteps.{sound_step}
use Rattle.std.specs.List.{AllByRecursion}
use Rattle.std.proofs.lemmas.Bool.{eqb-true}
use Rattle.std.proofs.lemmas.List.{length-set}
use Rattle.pool_alloc.specs.MemorySteps.{made_for, slot_ended}
use Rattle.pool_alloc.specs.declared.frame.Object.{Object}
use Rattle.pool_driver.proofs.QueueFaults.{joined_each, others_each, first_zeroed_each, pushed_each}
use Rattle.pool_driver.proofs.UnknownSlots.{AllStill, PutsKnown, all_known, decide_unknown, first_faulted, first_zeroed_faulted, is_cell, known_returned, ranges_run, run_fails, run_faulted, run_known, still_at, zeroed_known}
use Rattle.pool_driver.proofs.UnknownRows.{FlushLeaves, ResetCaused, RowCaused, component_caused, component_counted_caused, count_object_caused, counted_caused, flush_row_caused, heap_counted_caused, heaps_caused, make_heap_caused, merged_caused, paged_caused, picked_caused, purge_caused, release_caused, reset_row_caused, stacks_caused, take_queue_caused, uncount_object_caused, validated_caused, was_made_caused, was_made_table_caused}
use Rattle.pool_driver.proofs.Refusing.{IfFails, memory_fails}
use Rattle.pool_driver.proofs.UnknownTurns.{LeftCaused, after_caused, answer_caused, ending_more, ending_so, heap_caused, region_caused, returned_caused}
use Rattle.pool_driver.proofs.Holding.{counted_put}
use Rattle.pool_driver.proofs.PageFaults.{emptied, instantiated}
use Rattle.pool_driver.proofs.RegionFaults.{resets_faulted, left_faulted}
use Rattle.pool_driver.proofs.GrowingSteps.{faults_returned}
use Rattle.pool_slots.specs.declared.cells.ImageSlot.TheVariants.{Unmapped, Unknown, PreviouslyUsed, Taken}
use Rattle.pool_hall.specs.Step.{put_view}
use Rattle.pool_hall.specs.Tally.{counted, number, rise}
use Rattle.pool_alloc.specs.Targets.{next_target, flush_target, put_target}
use Rattle.pool_alloc.specs.declared.step.targets.Target.TheVariants.{Part}
use Rattle.pool_alloc.proofs.PlanPlaces.{tried_is_queue, IsQueuePlace}
use Rattle.pool_alloc.proofs.PoolParts.{part_same, sound_queue}
use Rattle.pool_alloc.specs.declared.frame.Asked.TheVariants as asked
use Rattle.pool_alloc.specs.declared.frame.Call.TheVariants as call
use Rattle.pool_alloc.specs.declared.purge.PurgeStep.TheVariants as purging_step
use Rattle.pool_alloc.specs.declared.release.ReleaseStep.TheVariants as releasing_step
use Rattle.pool_alloc.specs.StepTable as rows
use Rattle.pool_alloc.specs.declared.frame.Object.TheVariants as object
use Rattle.pool_alloc.specs.TableSteps.{reset_in, table_queued}
use Rattle.pool_index.proofs.Rounds.{no_rise}

-- What is known after a step.
abbrev pub LeftUnknown : {T P H : Type 0} → View T → View T → Plan → Left P H → Type 0
LeftUnknown base w plan l = LeftCaused (UnknownCaused base w plan) (FlushCaused base w plan) l

module _ {T P H : Type 0} (about : T → About) (inner : T → PoolPart P H) (Passes : List Exchange → Type 0) (old new : PartyTold) (a : About) (base v w : View T) (f next : Frame P H) (o : Option (Outcome P H)) (began : HoldsMore base v) (keeps : FrameKeeps f) (s : SeesStep about inner Passes old new a v w f next o) where
  -- the core on which the step was made, and the frame while it is
  abbrev c : PoolCore P H
  c = s.core

  abbrev e : Frame P H
  e = resting f

  abbrev given : StepGiven H
  given = s.row.0

  shape : (p : Phase P H) → f.phase ≡ p → IsShapedAt a.maker c.settings c.plan p f
  shape p is = subst (λ (q : Phase P H). IsShapedAt a.maker c.settings c.plan q f) is s.can.frame.shape

  told : (p : Phase P H) → f.phase ≡ p → MayBeTold c.settings given p f
  told p is = subst (λ (q : Phase P H). MayBeTold c.settings given q f) is s.row.1.0.told

  kept : (p : Phase P H) → f.phase ≡ p → PhaseKeeps p
  kept p is = subst (λ (q : Phase P H). PhaseKeeps q) is keeps.phase

  -- what is known before the step and after it, of the call and of the queue that it flushes
  abbrev Was : Type 0
  Was = UnknownCaused base v c.plan

  abbrev Is : Type 0
  Is = UnknownCaused base w c.plan

  abbrev Flushing : List Queued → Type 0
  Flushing slots = FlushCaused base w c.plan slots

  more : HoldsMore v w
  more = sees_more about inner Passes old new a v w f next o s

  faulted_on : SomeFaulted base v c.plan → SomeFaulted base w c.plan
  faulted_on had = still_faulted (λ kind. Unit {0}) base v w c.plan more had

  -- A step that puts nothing into a cell as unknown counts no such put.
  module _ (phase : Phase P H) (is : f.phase ≡ phase) (known : PutsKnown phase f) where
    same_count : (p : ℕ) (x y : T) → w ≡ put_view (pool_meaning about inner) p x y v → slice_index (part_counts (inner x)) unknown_puts < 2 ^ 64 → (q : ℕ) → (p ≡ q → slice_index (part_counts (inner x)) unknown_puts ≡ slice_index (part_counts (inner y)) unknown_puts) → number (counted q unknown_puts) w ≡ number (counted q unknown_puts) v
    same_count p x y put small q same = go (q == p) refl
      where
        rose : ℕ
        rose = rise (slice_index (part_counts (inner x)) unknown_puts) (slice_index (part_counts (inner y)) unknown_puts)

        go : (b : Bool) → (q == p) ≡ b → number (counted q unknown_puts) w ≡ number (counted q unknown_puts) v
        go true here =
            let none : rose ≡ 0 = ap (λ (n : ℕ). rise (slice_index (part_counts (inner x)) unknown_puts) n) (sym (same (sym (eqb-true q p here)))) ∙ no_rise (slice_index (part_counts (inner x)) unknown_puts) small in
            let all : number (counted q unknown_puts) w ≡ (if q == p then rose else 0) + number (counted q unknown_puts) v = counted_put (pool_meaning about inner) p x y v w put q unknown_puts in
            let chosen : (if q == p then rose else 0) ≡ rose = ap (λ (b : Bool). if b then rose else 0) here in
            omega (arith, all, chosen, none)
        go false other =
            let all : number (counted q unknown_puts) w ≡ (if q == p then rose else 0) + number (counted q unknown_puts) v = counted_put (pool_meaning about inner) p x y v w put q unknown_puts in
            let chosen : (if q == p then rose else 0) ≡ 0 = ap (λ (b : Bool). if b then rose else 0) other in
            omega (arith, all, chosen)

    sound : IsSoundStep a.maker old new c f (record { core = s.left; frame = next; outcome = o })
    sound = sound_step a.maker old new c f (record { core = s.left; frame = next; outcome = o }) s.can (s.row.0, s.row.1.0)

    cell_after : (p : ℕ) (x : PoolPart P H) (slot : SlotName) → p < length c.parts → s.left ≡ with_part p x c → role_at c.plan p ≡ cell_role slot → IsCellPart (part_at p s.left.parts)
    cell_after p x slot below left role =
        let long : length s.left.parts ≡ length c.parts = ap (λ (z : PoolCore P H). length z.parts) left ∙ length-set c.parts p x in
        let there : IsPartFor a.maker s.left.settings (role_at c.plan p) (part_at p s.left.parts) = subst (λ (plan : Plan). IsPartAt a.maker s.left.settings plan p (part_at p s.left.parts)) sound.size.plan (sound.can.core.parts p (omega (arith, below, long))) in
        is_cell a.maker s.left.settings slot (part_at p s.left.parts) (subst (λ (r : Role). IsPartFor a.maker s.left.settings r (part_at p s.left.parts)) role there)

    none_put : (change : Change T) → IsChangeOf about inner change (next_target a.settings a.plan f.phase f) c s.left → w ≡ view_after about inner change v → (q : ℕ) (slot : SlotName) → role_at c.plan q ≡ cell_role slot → number (counted q unknown_puts) w ≡ number (counted q unknown_puts) v
    none_put (changed p x y) of view q slot role = same_count p x y view (of.4 unknown_puts) q (λ here.
        let at : next_target c.settings c.plan phase f ≡ Part p = sym (target_of about inner Passes old new a v w f next o s phase is) ∙ of.0 in
        let still : AllStill c.parts s.left.parts = subst (λ (z : PoolCore P H). AllStill c.parts z.parts) (sym (left_is about inner Passes old new a v w f next o s phase is)) (still_at given phase c f p at known) in
        let after : part_at p s.left.parts ≡ inner y = ap (λ (z : PoolCore P H). part_at p z.parts) of.3 ∙ part_same p (inner y) c of.1 in
        ap (λ (z : PoolPart P H). slice_index (part_counts z) unknown_puts) (sym of.2)
        ∙ still p of.1 (cell_after p (inner y) slot of.1 of.3 (ap (λ (n : ℕ). role_at c.plan n) here ∙ role))
        ∙ ap (λ (z : PoolPart P H). slice_index (part_counts z) unknown_puts) after)
    none_put (counted_change name found) of view q slot role = ap (λ (z : View T). number (counted q unknown_puts) z) view
    none_put (uncounted name) of view q slot role = ap (λ (z : View T). number (counted q unknown_puts) z) view
    none_put unchanged of view q slot role = ap (λ (z : View T). number (counted q unknown_puts) z) view

    none_still : NoneUnknown base v c.plan → NoneUnknown base w c.plan
    none_still none q slot role = none_put s.change s.of s.view q slot role ∙ none q slot role

    goes_on : Was → Is
    goes_on had = ⊎_elim
        (λ (faulted : SomeFaulted base v c.plan). inl (faulted_on faulted))
        (λ (none : NoneUnknown base v c.plan). inr (none_still none))
        had

  -- A region in hand is put into its cell: it has more faults, or it isn't unknown.
  hand_put : (name : SlotName) (numbers : RegionNumbers) (held : Cell) (phase : Phase P H) → f.phase ≡ phase → ((IsUnknown held → ⊥) → PutsKnown phase f) → IsOwn name numbers held c → PutAt about inner Passes old new a v w f next o (cell_place c.plan name) c s.left → s.left.parts ≡ (with_cell name (cell_filled held (cell_named name c)) c).parts → Was → (IsUnknown held → HasFaulted numbers.faults (faults_in held)) → Is
  hand_put name numbers held phase is known own put left had hand = ⊎_elim
      (λ (unknown_there : IsUnknown held). inl (faulted_home about inner Passes old new a base v w f next o began s name numbers held own put left (λ kind. Unit {0}) tt (hand unknown_there)))
      (λ (not_unknown : IsUnknown held → ⊥). goes_on phase is (known not_unknown) had)
      (decide_unknown held)

  put_back : (at : TakenSlot) (held : ImageSlot P) → f.phase ≡ PutBack at held → Was × HandCaused at held → Is
  put_back at held is had =
      let own : IsOwn at.name at.numbers (cell_of held) c = subst (λ (q : Phase P H). OwnPut q c f) is (own_numbers a.maker c f s.can) in
      hand_put at.name at.numbers (cell_of held) (PutBack at held) is (λ known. known) own
      (placed_at about inner Passes old new a v w f next o s (PutBack at held) (cell_place c.plan at.name) is refl)
      (ap (λ (z : PoolCore P H). z.parts) (left_is about inner Passes old new a v w f next o s (PutBack at held) is)) had.0 had.1

  purge_put : (p : PurgeCursor) (at : TakenSlot) (held : ImageSlot P) → f.phase ≡ Purge p (purging_step.PutRegion at held) → Was × HandCaused at held → Is
  purge_put p at held is had =
      let own : IsOwn at.name at.numbers (cell_of held) c = subst (λ (q : Phase P H). OwnPut q c f) is (own_numbers a.maker c f s.can) in
      hand_put at.name at.numbers (cell_of held) (Purge p (purging_step.PutRegion at held)) is (λ known. known) own
      (placed_at about inner Passes old new a v w f next o s (Purge p (purging_step.PutRegion at held)) (cell_place c.plan at.name) is refl)
      (ap (λ (z : PoolCore P H). z.parts) (left_is about inner Passes old new a v w f next o s (Purge p (purging_step.PutRegion at held)) is)) had.0 had.1

  -- The steps of a flush.
  module _ (is : f.phase ≡ Flush) where
    abbrev step : rows.FlushStep
    step = flush_step f.local f.freed.items

    -- the queued slot that is put back has faulted
    queued_home : (kind : SlotKind) (m : Queued) → step ≡ rows.put kind → first_of_kind kind f.local.slots ≡ Some m → HasFaulted m.numbers.faults m.slot.region.faults → SomeFaulted base w c.plan
    queued_home kind m at first faulted =
        let own : IsOwn m.name m.numbers (cell_returned m) c = subst (λ (q : Phase P H). OwnPut q c f) is (own_numbers a.maker c f s.can) kind m first in
        let target : next_target c.settings c.plan Flush f ≡ Part (cell_place c.plan m.name) = ap (λ (x : rows.FlushStep). flush_target c.plan x f.local.slots f.freed.items) at ∙ ap (λ (x : Option Queued). put_target c.plan x) first in
        let left : s.left.parts ≡ (with_cell m.name (cell_filled (cell_returned m) (cell_named m.name c)) c).parts =
        ap (λ (z : PoolCore P H). z.parts) (left_is about inner Passes old new a v w f next o s Flush is)
        ∙ ap (λ (x : rows.FlushStep). (rows.flush_row x given.queue c e).part.parts) at
        ∙ ap (λ (x : Option Queued). (rows.put_first x (others_of_kind kind f.local.slots) c e).part.parts) first in
        faulted_home about inner Passes old new a base v w f next o began s m.name m.numbers (cell_returned m) own
        (placed_at about inner Passes old new a v w f next o s Flush (cell_place c.plan m.name) is target) left (λ k. Unit {0}) tt
        (subst (λ (n : ℕ). HasFaulted m.numbers.faults n) (sym (faults_returned m.name.kind m)) faulted)

    -- nothing is put as unknown while no slot of the queue is
    flush_still : AllByRecursion GoesBackKnown f.local.slots → NoneUnknown base v c.plan → NoneUnknown base w c.plan
    flush_still known none = none_still Flush is (λ kind m first. known_returned m.name.kind m (first_has GoesBackKnown kind m f.local.slots first known)) none

    -- the ranges that a run decommits
    abbrev run_ranges : List ByteRange
    run_ranges = map (λ r. r.range) (front (is_of (first_slot f.local.ranges)) f.local.ranges)

    -- what each step leaves is known
    run_on : step ≡ rows.run → (fault : Bool) → Decommits fault f.local given.queue → FlushCaused base v c.plan f.local.slots → Flushing given.queue.slots
    run_on at true fails had = inr (inl (run_fails f.local given.queue s.can.frame.queue.owners (ranges_run f.local f.freed.items at) fails keeps.local))
    run_on at false done had = subst (λ (q : Queue). Flushing q.slots) (sym done) (⊎_elim
        (λ (faulted : SomeFaulted base v c.plan). inl (faulted_on faulted))
        (⊎_elim
        (λ (queued : SomeQueuedFaulted f.local.slots). inr (inl (run_faulted (first_slot f.local.ranges) run_ranges f.local.slots queued)))
        (λ (none : NoneUnknown base v c.plan × AllByRecursion GoesBackKnown f.local.slots). inr (inr (flush_still none.1 none.0, run_known (first_slot f.local.ranges) run_ranges f.local.slots none.1))))
        had)

    zero_on : (kind : SlotKind) → FlushCaused base v c.plan f.local.slots → Flushing (first_zeroed kind f.local.slots)
    zero_on kind had = ⊎_elim
        (λ (faulted : SomeFaulted base v c.plan). inl (faulted_on faulted))
        (⊎_elim
        (λ (queued : SomeQueuedFaulted f.local.slots). inr (inl (first_zeroed_faulted kind f.local.slots queued)))
        (λ (none : NoneUnknown base v c.plan × AllByRecursion GoesBackKnown f.local.slots). inr (inr (flush_still none.1 none.0, first_zeroed_each GoesBackKnown kind f.local.slots (λ m k. zeroed_known m.by_hand m k) none.1))))
        had

    put_on : (kind : SlotKind) (m : Queued) → step ≡ rows.put kind → first_of_kind kind f.local.slots ≡ Some m → FlushCaused base v c.plan f.local.slots → Flushing (others_of_kind kind f.local.slots)
    put_on kind m at first had = ⊎_elim
        (λ (faulted : SomeFaulted base v c.plan). inl (faulted_on faulted))
        (⊎_elim
        (λ (queued : SomeQueuedFaulted f.local.slots). ⊎_elim
        (λ (here : HasFaulted m.numbers.faults m.slot.region.faults). inl (queued_home kind m at first here))
        (λ (others : SomeQueuedFaulted (others_of_kind kind f.local.slots)). inr (inl others))
        (first_faulted kind m f.local.slots first queued))
        (λ (none : NoneUnknown base v c.plan × AllByRecursion GoesBackKnown f.local.slots). inr (inr (flush_still none.1 none.0, others_each GoesBackKnown kind f.local.slots none.1))))
        had

    free_on : FlushCaused base v c.plan f.local.slots → Flushing f.local.slots
    free_on had = ⊎_elim
        (λ (faulted : SomeFaulted base v c.plan). inl (faulted_on faulted))
        (⊎_elim
        (λ (queued : SomeQueuedFaulted f.local.slots). inr (inl queued))
        (λ (none : NoneUnknown base v c.plan × AllByRecursion GoesBackKnown f.local.slots). inr (inr (flush_still none.1 none.0, none.1))))
        had

    flush_on : (x : rows.FlushStep) → step ≡ x → EndingCaused (FlushCaused base v c.plan f.local.slots) f.ending → FlushLeaves Is Flushing c e x given.queue
    flush_on rows.run at had = ending_more _ (Flushing given.queue.slots) (run_on at given.fault (subst (λ (y : rows.FlushStep). FlushTold y given f.local) at (told Flush is))) f.ending had
    flush_on (rows.zero kind) at had = ending_more _ (Flushing (first_zeroed kind f.local.slots)) (zero_on kind) f.ending had
    flush_on (rows.put kind) at had = λ m first. ending_more _ (Flushing (others_of_kind kind f.local.slots)) (put_on kind m at first) f.ending had
    flush_on rows.free at had = ending_more _ (Flushing f.local.slots) free_on f.ending had

  -- What comes into the queue goes back known.
  into : (slots : List Queued) → AllByRecursion GoesBackKnown slots → Is → Flushing slots
  into slots known had = ⊎_elim
      (λ (faulted : SomeFaulted base w c.plan). inl faulted)
      (λ (none : NoneUnknown base w c.plan). inr (inr (none, known)))
      had

  shared_known : (place : ℕ) → IsQueuePlace c.plan place → AllByRecursion GoesBackKnown (queue_at place c).slots
  shared_known place role = all_known (queue_at place c).slots (sound_queue a.maker place c s.can.core role).known

  module _ (thing : Object P) (is : f.phase ≡ Reset thing) where
    none_queued : AllByRecursion GoesBackKnown f.local.slots
    none_queued = subst (λ (l : List Queued). AllByRecursion GoesBackKnown l) (sym (shape (Reset thing) is).0.no_slots) tt

    pushed : (m : Queued) → GoesBackKnown m → Is → Flushing (by_kind (f.local.slots ++ m ∷ []))
    pushed m known had = into (by_kind (f.local.slots ++ m ∷ [])) (pushed_each GoesBackKnown m f.local.slots none_queued known) had

    reset_known : (x : Object P) → thing ≡ x → ResetCaused Is Flushing c e given x
    reset_known (object.Memory lease) at = (
      λ fails. resets_faulted lease.numbers.faults c.settings.dirty_pages c.settings.keep_resident.bytes (slot_taken lease) (slot_of lease.memory) given.slot
          (subst (λ (b : Bool). Resets b c.settings.dirty_pages c.settings.keep_resident.bytes (slot_taken lease) (slot_of lease.memory) given.slot) fails (told (Reset (object.Memory lease)) (is ∙ ap Reset at)))
          (kept (Reset (object.Memory lease)) (is ∙ ap Reset at)),
      pushed (slot_ended c.settings.dirty_pages c.settings.keep_resident.bytes (slot_taken lease) (slot_of lease.memory)) (λ kind. refl),
    )
    reset_known (object.Table lease) at = table_known lease lease.table.region
      where
        table_known : (lease : LeasedTable) (region : Option Told) → Is → Flushing (reset_in c.settings.dirty_pages c.settings.page c.settings.table_keep_resident.bytes lease region f.local).slots
        table_known lease None had = into f.local.slots none_queued had
        table_known lease (Some region) had = pushed (table_queued c.settings.dirty_pages c.settings.page c.settings.table_keep_resident.bytes lease region) (λ kind. refl) had
    reset_known (object.Stack lease) at = pushed _ (λ kind. absurd cc)

  -- Each row.
  abbrev Had : Phase P H → Type 0
  Had p = PhaseCaused Was (FlushCaused base v c.plan f.local.slots) p f.ending

  back : (p : Phase P H) → f.phase ≡ p → PutsKnown p f → EndingCaused Was f.ending → EndingCaused Is f.ending
  back p is known had = ending_more Was Is (goes_on p is known) f.ending had

  -- what a purge forgot has faulted where a page call failed
  forgotten_hand : (fault : Bool) (at : TakenSlot) (held : ImageSlot P) (slot : Slot) → Forgets fault held slot → KeepsFaults at.numbers.faults (faults_in (cell_of held)) → HandCaused at (after_forgetting fault held slot)
  forgotten_hand fault at (Unmapped region) slot tells k none = absurd none
  forgotten_hand true at (Unknown had) slot tells k unknown_there = left_faulted at.numbers.faults had slot k tells
  forgotten_hand false at (Unknown had) slot tells k none = absurd none
  forgotten_hand true at (PreviouslyUsed had) slot tells k unknown_there = left_faulted at.numbers.faults had slot k tells
  forgotten_hand false at (PreviouslyUsed had) slot tells k none = absurd none
  forgotten_hand fault at Taken slot tells k none = absurd none

  purge_row_caused : (p : PurgeCursor) (step : PurgeStep P) → f.phase ≡ Purge p step → PurgeCaused Was step → RowCaused Is Flushing (purge_row given p step c e)
  purge_row_caused p (purging_step.Pick tried) is k = purge_caused Is Flushing c e (goes_on (Purge p (purging_step.Pick tried)) is tt k) given p (purging_step.Pick tried) tt
  purge_row_caused p (purging_step.TakeRegion name) is k = purge_caused Is Flushing c e (goes_on (Purge p (purging_step.TakeRegion name)) is tt k) given p (purging_step.TakeRegion name) tt
  purge_row_caused p (purging_step.Forget at held) is k = purge_caused Is Flushing c e (goes_on (Purge p (purging_step.Forget at held)) is tt k) given p (purging_step.Forget at held)
      (forgotten_hand given.fault at held given.slot (told (Purge p (purging_step.Forget at held)) is) (kept (Purge p (purging_step.Forget at held)) is))
  purge_row_caused p (purging_step.PutRegion at held) is k = purge_caused Is Flushing c e (purge_put p at held is k) given p (purging_step.PutRegion at held) tt
  purge_row_caused p (purging_step.Free name) is k = purge_caused Is Flushing c e (goes_on (Purge p (purging_step.Free name)) is tt k) given p (purging_step.Free name) tt

  release_row_caused : (step : ReleaseStep P) → f.phase ≡ Release step → ReleaseCaused Was step → RowCaused Is Flushing (release_row given step c e)
  release_row_caused releasing_step.Reserve is k = release_caused Is Flushing c e given releasing_step.Reserve (goes_on (Release releasing_step.Reserve) is tt k)
  release_row_caused (releasing_step.TakeWarm r j) is k = release_caused Is Flushing c e given (releasing_step.TakeWarm r j) tt
  release_row_caused (releasing_step.TakeRegion r n) is k = release_caused Is Flushing c e given (releasing_step.TakeRegion r n) tt
  release_row_caused (releasing_step.Decommit r n at held) is k = release_caused Is Flushing c e given (releasing_step.Decommit r n at held) tt
  release_row_caused (releasing_step.PutRegion r n at held) is k = release_caused Is Flushing c e given (releasing_step.PutRegion r n at held) tt
  release_row_caused (releasing_step.Free r x) is k = release_caused Is Flushing c e given (releasing_step.Free r x) tt

  -- a memory isn't made for a reason of its limiter, or of its size
  memory_unmade : (at : TakenSlot) (held : Slot) → f.phase ≡ MakeMemory at held → IfFails (UnlessUnmade ⊥) (made_for c.settings.max_memory_size given.limiter held (slice_get (memories_wanted f.asked) (length f.objects.memories.items)))
  memory_unmade at held is =
      let allocating : IsAllocating c.settings c.plan f = (shape (MakeMemory at held) is).1 in
      let next' : IsMemoryNext f = (shape (MakeMemory at held) is).4 in
      memory_fails (UnlessUnmade ⊥) given.limiter (λ min denied. tt) (λ x fails. tt) (λ space. tt) c.settings s.can.core.settings held _ (slice_get (memories_wanted f.asked) (length f.objects.memories.items))
      (λ none. there (memories_wanted f.asked) (length f.objects.memories.items) next' none)
      (allocating.to_grant.supported.each (length f.objects.memories.items))
    where
      there : {X : Type 0} (xs : List X) (k : ℕ) → k < length xs → slice_get xs k ≡ None → ⊥
      there {X = X} xs k below none = told_there ⊥ xs k below (subst (λ (o : Option X). IfSome o (λ x. ⊥)) (sym none) tt)

  row_caused : (p : Phase P H) → f.phase ≡ p → is_idle p ≡ false → Had p → RowCaused Is Flushing (row_of given p c e)
  row_caused Idle is on_way k = absurd cc
  row_caused Key is on_way k = goes_on Key is tt k
  row_caused Validate is on_way k = let on = goes_on Validate is tt k in validated_caused Is Flushing c e on _ given.wants CountInstance on
  row_caused TestStack is on_way k = stacks_caused Is Flushing c e (goes_on TestStack is tt k) _
  row_caused TestHeap is on_way k = heaps_caused Is Flushing c e (goes_on TestHeap is tt k) c.settings.tunables.tunables.collector given.wants
  row_caused CountInstance is on_way k = counted_caused Is Flushing c e (goes_on CountInstance is tt k) _
  row_caused (Pick tried) is on_way k = picked_caused Is Flushing c e (goes_on (Pick tried) is tt k) (pick_answer (wanted f) (shard_at (shard_tried tried c.plan f) c)) (shard_at (shard_tried tried c.plan f) c) tried
  row_caused TakeQueue is on_way k =
      let place : ℕ = queue_tried f.queues c.plan f in
      let on = goes_on TakeQueue is tt k in
      take_queue_caused Is Flushing c e on (queue_at place c) (into (queue_at place c).slots (shared_known place (tried_is_queue f.queues c.plan (length c.parts) f s.can.core.plan)) on)
  row_caused (TakeRegion name) is on_way k = region_caused P H Is (Flushing f.local.slots) f.ending c.settings _ (cell_named name c).holds (goes_on (TakeRegion name) is tt k)
  row_caused (Empty at held) is on_way k = let on = goes_on (Empty at held) is tt k in paged_caused Is Flushing c e on given.fault at given.slot (Instantiate at given.slot) (emptied about inner Passes old new a base v w f next o began keeps s at held is) on
  row_caused (Instantiate at held) is on_way k = let on = goes_on (Instantiate at held) is tt k in paged_caused Is Flushing c e on given.fault at given.slot (MakeMemory at given.slot) (instantiated about inner Passes old new a base v w f next o began keeps s at held is) on
  row_caused (MakeMemory at held) is on_way k = was_made_caused Is Flushing c e (goes_on (MakeMemory at held) is tt k) at held _ (memory_unmade at held is)
  row_caused (MakeTable at region) is on_way k = was_made_table_caused Is Flushing c e (goes_on (MakeTable at region) is tt k) at region _
  row_caused (CountObject thing) is on_way k = count_object_caused Is Flushing c e (goes_on (CountObject thing) is tt k) thing
  row_caused (TakeHeap name) is on_way k = heap_caused P H Is (Flushing f.local.slots) f.ending _ (heap_in name.slot (heaps_at c)) (goes_on (TakeHeap name) is tt k)
  row_caused (MakeHeap at) is on_way k = make_heap_caused Is Flushing c e (goes_on (MakeHeap at) is tt k) given.heap at
  row_caused (CountHeap lease) is on_way k = heap_counted_caused Is Flushing c e (goes_on (CountHeap lease) is tt k) f.asked lease
  row_caused (PutNoHeap at) is on_way k = back (PutNoHeap at) is tt k
  row_caused (PutBack at held) is on_way k = ending_more (Was × HandCaused at held) Is (put_back at held is) f.ending k
  row_caused (FreeOne name) is on_way k = back (FreeOne name) is tt k
  row_caused (UncountObject thing) is on_way k = uncount_object_caused Is Flushing c e (back (UncountObject thing) is tt k) thing
  row_caused (UncountHeap lease memory) is on_way k = back (UncountHeap lease memory) is tt k
  row_caused (PutHeap lease (Some memory)) is on_way k = back (PutHeap lease (Some memory)) is tt k
  row_caused (PutHeap lease None) is on_way k = back (PutHeap lease None) is tt k
  row_caused (FreeHeap name memory) is on_way k = back (FreeHeap name memory) is tt k
  row_caused (Reset thing) is on_way k = let on = back (Reset thing) is tt k in reset_row_caused Is Flushing c e on given thing (reset_known thing is thing refl)
  row_caused Merge is on_way k =
      let place : ℕ = queue_tried 0 c.plan f in
      let whole : Queue = after_append (queue_at place c) f.local in
      merged_caused Is Flushing c e (back Merge is tt k) (nat_le c.settings.batch (length whole.ranges)) whole
      (into whole.slots (joined_each GoesBackKnown (queue_at place c).slots f.local.slots (shared_known place (tried_is_queue 0 c.plan (length c.parts) f s.can.core.plan)) (all_known f.local.slots (shape Merge is).5)))
  row_caused Flush is on_way k = flush_row_caused Is Flushing c e (flush_step f.local f.freed.items) given.queue (flush_on is (flush_step f.local f.freed.items) refl k)
  row_caused UncountInstance is on_way k = answer_caused P H Is f.ending (back UncountInstance is tt k)
  row_caused (ValidateComponent info) is on_way k = component_caused Is Flushing c e (goes_on (ValidateComponent info) is tt k) _
  row_caused CountComponent is on_way k = component_counted_caused Is Flushing c e (goes_on CountComponent is tt k) _
  row_caused UncountComponent is on_way k = answer_caused P H Is f.ending (ending_so Is f.ending (goes_on UncountComponent is tt k))
  row_caused (Purge p step) is on_way k = purge_row_caused p step is k
  row_caused (Release step) is on_way k = release_row_caused step is k

  -- What was known of a queue is known of the call once it is empty.
  settled : (slots : List Queued) → length slots ≡ 0 → Flushing slots → Is
  settled [] none had = ⊎_elim
      (λ (faulted : SomeFaulted base w c.plan). inl faulted)
      (⊎_elim
      (λ (no : ⊥). absurd no)
      (λ (rest : NoneUnknown base w c.plan × Unit {0}). inr rest.0))
      had
  settled (m ∷ ms) none had = absurd (omega (arith, none))

  -- What is known before a step is known after it, and of its answer.
  pub caused_step : is_idle f.phase ≡ false → CallCaused base v a.plan f → LeftUnknown base w a.plan (record { frame = next; outcome = o })
  caused_step busy had = subst (λ (plan : Plan). LeftUnknown base w plan (record { frame = next; outcome = o })) s.plan
      (subst (λ (z : After P H). LeftUnknown base w c.plan (record { frame = z.frame; outcome = z.outcome })) (sym s.row.1.0.is)
      (after_caused Is Flushing (row_of given f.phase c e).frame (row_of given f.phase c e).turn (settled (row_of given f.phase c e).frame.local.slots)
      (row_caused f.phase refl busy (subst (λ (plan : Plan). CallCaused base v plan f) (sym s.plan) had))))

-- A call that begins has put nothing.
pub caused_begins : {T P H : Type 0} (v : View T) (plan : Plan) (begun : Call P H) (f : Frame P H) → CallCaused v v plan (begun_call begun f)
caused_begins v plan call.Key f = inr (λ place slot role. refl)
caused_begins v plan (call.Module m) f = inr (λ place slot role. refl)
caused_begins v plan (call.Component info) f = inr (λ place slot role. refl)
caused_begins v plan (call.Memory m) f = inr (λ place slot role. refl)
caused_begins v plan (call.Table ty) f = inr (λ place slot role. refl)
caused_begins v plan call.Stack f = inr (λ place slot role. refl)
caused_begins v plan (call.Heap ty) f = inr (λ place slot role. refl)
caused_begins v plan (call.HeapOver memory) f = inr (λ place slot role. refl)
caused_begins v plan (call.GiveBack (Instance lease)) f = (returned_caused (UnknownCaused v v plan) (FlushCaused v v plan) lease.memories.items lease.tables.items (record f { asked = asked.Nothing; objects = lease; ending = returned }) (inr (λ place slot role. refl))).frame
caused_begins v plan (call.GiveBack Component) f = inr (λ place slot role. refl)
caused_begins v plan (call.GiveBack (Memory lease)) f = inr (λ place slot role. refl)
caused_begins v plan (call.GiveBack (Table lease)) f = inr (λ place slot role. refl)
caused_begins v plan (call.GiveBack (Stack lease)) f = inr (λ place slot role. refl)
caused_begins v plan (call.GiveBack (Heap lease memory)) f = inr (λ place slot role. refl)
caused_begins v plan (call.GiveBack (HeapOver lease)) f = inr (λ place slot role. refl)
caused_begins v plan (call.Purge id) f = inr (λ place slot role. refl)
caused_begins v plan call.Release f = inr (λ place slot role. refl)
