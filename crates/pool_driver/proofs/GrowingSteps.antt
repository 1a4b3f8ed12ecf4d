-- A step leaves each part topped that was, and no count of a cell falls.
use Rattle.std.proofs.Common.{◌≡◌, ℕ, ◌+◌, ◌<◌, Bool, true, false, List, [], ◌∷◌, length, refl, sym, subst, arith, Option, Some, None, Result, Ok, Err, nat_le}
use Rattle.std.specs.Prelude.{if◌then◌else◌}
use Rattle.pool_types.specs.declared.unsupported.Unsupported.{Unsupported}
use Rattle.pool_pages.specs.MakerTold.{MakerTold}
use Rattle.pool_pages.specs.Told.{Told}
use Rattle.pool_hall.specs.declared.unit_name.SlotKind.{SlotKind}
use Rattle.pool_hall.specs.declared.unit_name.SlotKind.TheVariants.{Memory as memory_kind, Table as table_kind, Stack as stack_kind, Heap as heap_kind}
use Rattle.pool_images.specs.Slots.{Slot}
use Rattle.pool_index.specs.Shard.{after_free, after_take_warm}
use Rattle.pool_index.specs.declared.ids.SlotId.{SlotId}
use Rattle.pool_slots.specs.CellOf.{cell_of}
use Rattle.pool_slots.specs.Cells.{Cell, unknown, previously_used}
use Rattle.pool_slots.specs.Parts.{part_at}
use Rattle.pool_slots.specs.Plans.{home_of, role_at}
use Rattle.pool_slots.specs.RegionCells.{cell_emptied, cell_filled, faults_in}
use Rattle.pool_slots.specs.SlotQueues.{Queue, Queued, after_append, after_take, drained, first_of_kind, others_of_kind}
use Rattle.pool_slots.specs.declared.errors.AllocError.{AllocError}
use Rattle.pool_slots.specs.declared.heap_maker.HeapMakeFault.{HeapMakeFault}
use Rattle.pool_slots.specs.declared.plan.Plan.{Plan}
use Rattle.pool_slots.specs.declared.slot_name.SlotName.{SlotName}
use Rattle.pool_slots.specs.declared.slot_name.RegionNumbers.{RegionNumbers}
use Rattle.pool_alloc.specs.HeapLeases.{LeasedHeap}
use Rattle.pool_memory.specs.Memories.{MemoryState}
use Rattle.pool_alloc.specs.Leases.{Lease}
use Rattle.pool_alloc.specs.PartyTold.{PartyTold}
use Rattle.pool_alloc.specs.Purges.{has_turns, pick_affine_row, purge_row, purged_memory, purged_stripe}
use Rattle.pool_alloc.specs.Refusals.{heap_refused}
use Rattle.pool_alloc.specs.Releases.{bytes_kept, nth_taken, release_row, released_stripe, reserve_row}
use Rattle.pool_alloc.specs.StepTable.{FlushStep, run, zero, put, free, component_counted, component_tested, counted, flush_row, flush_step, heap_granted, heaps_tested, in_queue, make_heap_row, merged, paged, put_first, reserved, row_of, stacks_tested, validated, was_made, was_made_table, was_reset, memory_tested, heap_counted}
use Rattle.pool_alloc.specs.BetweenSteps.{IsPartAt, IsPartFor}
use Rattle.pool_alloc.specs.SoundSteps.{IsSoundStep}
use Rattle.pool_alloc.specs.Stepping.{CanStep, StepsTo}
use Rattle.pool_alloc.specs.StepReads.{StepGiven, cell_named, cell_returned, first_shard, freed_of, queue_at, queue_tried, returned_as, shard_at, shard_tried, wanted, with_cell, with_shard}
use Rattle.pool_alloc.specs.TableLeases.{LeasedTable}
use Rattle.pool_alloc.specs.Turns.{After}
use Rattle.pool_alloc.specs.declared.frame.Frame.{Frame}
use Rattle.pool_alloc.specs.declared.frame.Object.TheVariants.{Memory, Table, Stack}
use Rattle.pool_alloc.specs.declared.frame.Phase.{Phase}
use Rattle.pool_alloc.specs.declared.frame.Phase.TheVariants.{Idle, Key, Validate, TestStack, TestHeap, CountInstance, Pick, TakeQueue, TakeRegion, Empty, Instantiate, MakeMemory, MakeTable, CountObject, TakeHeap, MakeHeap, CountHeap, PutNoHeap, PutBack, FreeOne, UncountObject, UncountHeap, PutHeap, FreeHeap, Reset, Merge, Flush, UncountInstance, ValidateComponent, CountComponent, UncountComponent, Purge, Release}
use Rattle.pool_alloc.specs.declared.frame.TakenSlot.{TakenSlot}
use Rattle.pool_alloc.specs.declared.frame.Asked.{Asked}
use Rattle.pool_alloc.specs.declared.frame.Asked.TheVariants.{HeapOver as heap_over_asked}
use Rattle.pool_alloc.specs.declared.pool_core.PoolCore.{PoolCore}
use Rattle.pool_alloc.specs.declared.purge.PurgeCursor.{PurgeCursor}
use Rattle.pool_alloc.specs.declared.purge.PurgeStep.{PurgeStep}
use Rattle.pool_alloc.specs.declared.purge.PurgeStep.TheVariants as purging_step
use Rattle.pool_alloc.specs.declared.release.ReleaseStep.{ReleaseStep}
use Rattle.pool_alloc.specs.declared.release.ReleaseStep.TheVariants as releasing_step
use Rattle.pool_alloc.proofs.BeforeTheTurn.{in_phase}
use Rattle.pool_alloc.proofs.KindCounts.{first_has}
use Rattle.pool_alloc.proofs.SoundSteps.{sound_step}
use Rattle.pool_driver.specs.Faults.{FrameKeeps, KeepsFaults, PhaseKeeps, PurgeKeeps, QueueKeeps, QueuedKeeps, ReleaseKeeps}
use Rattle.pool_driver.specs.Growing.{PartGrows}
use Rattle.pool_driver.specs.Placed.{IsSmall}
use Rattle.pool_driver.proofs.GrowingParts.{AllMayGrow, CountsOn, all_stay, affine_picks_on, emptied_on, filled_on, frees_on, picks_on, as_before, with_cell_grows, with_heaps_grows, with_queue_grows, with_shard_grows}
use Rattle.pool_driver.proofs.OwnNumbers.{IsOwn, OwnPurged, OwnReleased, own_at}

-- a queued slot comes back with the faults of its region
known_faults : (known : Bool) (slot : Slot) → faults_in (if known then previously_used slot else unknown slot) ≡ slot.region.faults
known_faults true slot = refl
known_faults false slot = refl

pub faults_returned : (kind : SlotKind) (m : Queued) → faults_in (returned_as kind m) ≡ m.slot.region.faults
faults_returned memory_kind m = known_faults m.known m.slot
faults_returned table_kind m = refl
faults_returned stack_kind m = refl
faults_returned heap_kind m = refl

module _ {P H : Type 0} where
  -- What is put into its own cell has no fewer faults than its unit tells, so none than the cell does.
  own_counts_on : (name : SlotName) (numbers : RegionNumbers) (held : Cell) (c : PoolCore P H) → IsOwn name numbers held c → KeepsFaults numbers.faults (faults_in held) → CountsOn (cell_named name c) (cell_filled held (cell_named name c))
  own_counts_on name numbers held c own keeps = filled_on held (cell_named name c) own.awaited (omega (arith, own.out, keeps.least))

  queued_counts_on : (m : Queued) (c : PoolCore P H) → IsOwn m.name m.numbers (cell_returned m) c → QueuedKeeps m → CountsOn (cell_named m.name c) (cell_filled (cell_returned m) (cell_named m.name c))
  queued_counts_on m c own keeps = filled_on (cell_returned m) (cell_named m.name c) own.awaited (omega (arith, own.out, keeps.least, faults_returned m.name.kind m))

  -- rows that change no part
  none_reserved : (wants : Bool) (p : Phase P H) (c : PoolCore P H) (f : Frame P H) → AllMayGrow c.parts (reserved wants p c f).part.parts
  none_reserved true p c f = all_stay c.parts
  none_reserved false p c f = all_stay c.parts

  none_validated : (o : Option Unsupported) (wants : Bool) (p : Phase P H) (c : PoolCore P H) (f : Frame P H) → AllMayGrow c.parts (validated o wants p c f).part.parts
  none_validated (Some rule) wants p c f = all_stay c.parts
  none_validated None wants p c f = none_reserved wants p c f

  none_memory_tested : (what : Asked) (wants : Bool) (c : PoolCore P H) (f : Frame P H) → AllMayGrow c.parts (memory_tested what wants c f).part.parts
  none_memory_tested (heap_over_asked memory) wants c f = all_stay c.parts
  none_memory_tested what wants c f = none_validated (heap_refused c.settings what) wants (Pick 0) c f

  none_heap_tested : (b wants : Bool) (c : PoolCore P H) (f : Frame P H) → AllMayGrow c.parts (heaps_tested b wants c f).part.parts
  none_heap_tested false wants c f = all_stay c.parts
  none_heap_tested true wants c f = none_memory_tested f.asked wants c f

  none_heap_made : (r : Result H HeapMakeFault) (at : TakenSlot) (c : PoolCore P H) (f : Frame P H) → AllMayGrow c.parts (make_heap_row r at c f).part.parts
  none_heap_made (Ok heap) at c f = all_stay c.parts
  none_heap_made (Err fault) at c f = all_stay c.parts

  none_heap_granted : (leases : List Lease) (lease : LeasedHeap H) (c : PoolCore P H) (f : Frame P H) → AllMayGrow c.parts (heap_granted leases lease c f).part.parts
  none_heap_granted [] lease c f = all_stay c.parts
  none_heap_granted (memory ∷ rest) lease c f = all_stay c.parts

  none_heap_counted : (what : Asked) (lease : LeasedHeap H) (c : PoolCore P H) (f : Frame P H) → AllMayGrow c.parts (heap_counted what lease c f).part.parts
  none_heap_counted (heap_over_asked memory) lease c f = all_stay c.parts
  none_heap_counted what lease c f = none_heap_granted f.objects.memories.items lease c f

  none_counted : (b : Bool) (c : PoolCore P H) (f : Frame P H) → AllMayGrow c.parts (counted b c f).part.parts
  none_counted true c f = all_stay c.parts
  none_counted false c f = all_stay c.parts

  none_stack_tested : (b : Bool) (c : PoolCore P H) (f : Frame P H) → AllMayGrow c.parts (stacks_tested b c f).part.parts
  none_stack_tested true c f = all_stay c.parts
  none_stack_tested false c f = all_stay c.parts

  none_tested : (o : Option Unsupported) (c : PoolCore P H) (f : Frame P H) → AllMayGrow c.parts (component_tested o c f).part.parts
  none_tested (Some rule) c f = all_stay c.parts
  none_tested None c f = all_stay c.parts

  none_component : (b : Bool) (c : PoolCore P H) (f : Frame P H) → AllMayGrow c.parts (component_counted b c f).part.parts
  none_component true c f = all_stay c.parts
  none_component false c f = all_stay c.parts

  none_paged : (fault : Bool) (at : TakenSlot) (held : Slot) (next : Phase P H) (c : PoolCore P H) (f : Frame P H) → AllMayGrow c.parts (paged fault at held next c f).part.parts
  none_paged true at held next c f = all_stay c.parts
  none_paged false at held next c f = all_stay c.parts

  none_made : (at : TakenSlot) (held : Slot) (r : Result MemoryState AllocError) (c : PoolCore P H) (f : Frame P H) → AllMayGrow c.parts (was_made at held r c f).part.parts
  none_made at held (Ok memory) c f = all_stay c.parts
  none_made at held (Err e) c f = all_stay c.parts

  none_made_table : (at : TakenSlot) (region : Told) (r : Result LeasedTable AllocError) (c : PoolCore P H) (f : Frame P H) → AllMayGrow c.parts (was_made_table at region r c f).part.parts
  none_made_table at region (Ok lease) c f = all_stay c.parts
  none_made_table at region (Err e) c f = all_stay c.parts

  none_reset : (fault : Bool) (held : Slot) (lease : Lease) (c : PoolCore P H) (f : Frame P H) → AllMayGrow c.parts (was_reset fault held lease c f).part.parts
  none_reset true held lease c f = all_stay c.parts
  none_reset false held lease c f = all_stay c.parts

  none_reserve : (wants : Bool) (c : PoolCore P H) (f : Frame P H) → AllMayGrow c.parts (reserve_row wants c f).part.parts
  none_reserve true c f = all_stay c.parts
  none_reserve false c f = all_stay c.parts

  -- rows that change one
  grows_merged : (b : Bool) (i : ℕ) (queue : Queue) (c : PoolCore P H) (f : Frame P H) → AllMayGrow c.parts (in_queue i c (merged b queue f)).part.parts
  grows_merged true i queue c f = with_queue_grows i (drained queue) c
  grows_merged false i queue c f = with_queue_grows i queue c

  grows_put : (o : Option Queued) (rest : List Queued) (c : PoolCore P H) (f : Frame P H) → ((m : Queued) → o ≡ Some m → CountsOn (cell_named m.name c) (cell_filled (cell_returned m) (cell_named m.name c))) → AllMayGrow c.parts (put_first o rest c f).part.parts
  grows_put None rest c f on = all_stay c.parts
  grows_put (Some m) rest c f on = with_cell_grows m.name (cell_filled (cell_returned m) (cell_named m.name c)) c (on m refl)

  grows_flushed : (step : FlushStep) (queue : Queue) (c : PoolCore P H) (f : Frame P H) → ((kind : SlotKind) (m : Queued) → first_of_kind kind f.local.slots ≡ Some m → CountsOn (cell_named m.name c) (cell_filled (cell_returned m) (cell_named m.name c))) → AllMayGrow c.parts (flush_row step queue c f).part.parts
  grows_flushed run queue c f on = all_stay c.parts
  grows_flushed (zero kind) queue c f on = all_stay c.parts
  grows_flushed (put kind) queue c f on = grows_put (first_of_kind kind f.local.slots) (others_of_kind kind f.local.slots) c f (on kind)
  grows_flushed free queue c f on =
      let place : ℕ = first_shard c.plan f.freed.items in
      with_shard_grows place _ c (frees_on c.plan (freed_of c.plan place f.freed.items) (shard_at place c))

  grows_affine : (b : Bool) (p : PurgeCursor) (tried : ℕ) (c : PoolCore P H) (f : Frame P H) → AllMayGrow c.parts (pick_affine_row b p tried c f).part.parts
  grows_affine true p tried c f = let place : ℕ = (purged_stripe c.plan p).first_place + tried in with_shard_grows place _ c (affine_picks_on (purged_memory p) (shard_at place c))
  grows_affine false p tried c f = all_stay c.parts

  grows_freed : (place : ℕ) (slot : SlotId) (bytes : ℕ) (c : PoolCore P H) → AllMayGrow c.parts (with_shard place (after_free slot bytes (shard_at place c)) c).parts
  grows_freed place slot bytes c = with_shard_grows place (after_free slot bytes (shard_at place c)) c (record { cold = omega arith; capacity = refl })

  grows_emptied : (name : SlotName) (c : PoolCore P H) → AllMayGrow c.parts (with_cell name (cell_emptied (cell_named name c)) c).parts
  grows_emptied name c = with_cell_grows name (cell_emptied (cell_named name c)) c (emptied_on (cell_named name c))

  grows_filled : (name : SlotName) (numbers : RegionNumbers) (held : Cell) (c : PoolCore P H) → IsOwn name numbers held c → KeepsFaults numbers.faults (faults_in held) → AllMayGrow c.parts (with_cell name (cell_filled held (cell_named name c)) c).parts
  grows_filled name numbers held c own keeps = with_cell_grows name (cell_filled held (cell_named name c)) c (own_counts_on name numbers held c own keeps)

  grows_purged : (g : StepGiven H) (p : PurgeCursor) (step : PurgeStep P) (c : PoolCore P H) (f : Frame P H) → OwnPurged step c → PurgeKeeps step → AllMayGrow c.parts (purge_row g p step c f).part.parts
  grows_purged g p (purging_step.Pick tried) c f own keeps = grows_affine (has_turns c.settings.max_memories_per_module c.plan) p tried c f
  grows_purged g p (purging_step.TakeRegion name) c f own keeps = grows_emptied name c
  grows_purged g p (purging_step.Forget at held) c f own keeps = all_stay c.parts
  grows_purged g p (purging_step.PutRegion at held) c f own keeps = grows_filled at.name at.numbers (cell_of held) c own keeps
  grows_purged g p (purging_step.Free name) c f own keeps = grows_freed (home_of c.plan name).place (home_of c.plan name).local 0 c

  grows_released : (g : StepGiven H) (step : ReleaseStep P) (c : PoolCore P H) (f : Frame P H) → OwnReleased step c → ReleaseKeeps step → AllMayGrow c.parts (release_row g step c f).part.parts
  grows_released g releasing_step.Reserve c f own keeps = none_reserve g.wants c f
  grows_released g (releasing_step.TakeWarm r j) c f own keeps = let place : ℕ = (released_stripe c.plan r).first_place + j in with_shard_grows place (after_take_warm (shard_at place c)) c (record { cold = omega arith; capacity = refl })
  grows_released g (releasing_step.TakeRegion r k) c f own keeps = grows_emptied (nth_taken r k).name c
  grows_released g (releasing_step.Decommit r k at held) c f own keeps = all_stay c.parts
  grows_released g (releasing_step.PutRegion r k at held) c f own keeps = grows_filled at.name at.numbers (cell_of held) c own keeps
  grows_released g (releasing_step.Free r x) c f own keeps = grows_freed (home_of c.plan x.name).place (home_of c.plan x.name).local (bytes_kept r x) c

module _ {P H : Type 0} (maker : MakerTold) where
  -- the table, row by row
  grows_at : (g : StepGiven H) (p : Phase P H) (c : PoolCore P H) (f : Frame P H) → CanStep maker c (in_phase p f) → PhaseKeeps p → QueueKeeps f.local → AllMayGrow c.parts (row_of g p c (in_phase Idle f)).part.parts
  grows_at g Idle c f can keeps local = all_stay c.parts
  grows_at g Key c f can keeps local = all_stay c.parts
  grows_at g Validate c f can keeps local = none_validated _ g.wants CountInstance c (in_phase Idle f)
  grows_at g TestStack c f can keeps local = none_stack_tested _ c (in_phase Idle f)
  grows_at g TestHeap c f can keeps local = none_heap_tested c.settings.tunables.tunables.collector g.wants c (in_phase Idle f)
  grows_at g CountInstance c f can keeps local = none_counted _ c (in_phase Idle f)
  grows_at g (Pick tried) c f can keeps local = let place : ℕ = shard_tried tried c.plan f in with_shard_grows place _ c (picks_on (wanted f) (shard_at place c))
  grows_at g TakeQueue c f can keeps local = let place : ℕ = queue_tried f.queues c.plan f in with_queue_grows place (after_take (queue_at place c)) c
  grows_at g (TakeRegion name) c f can keeps local = grows_emptied name c
  grows_at g (Empty at held) c f can keeps local = none_paged g.fault at g.slot _ c (in_phase Idle f)
  grows_at g (Instantiate at held) c f can keeps local = none_paged g.fault at g.slot _ c (in_phase Idle f)
  grows_at g (MakeMemory at held) c f can keeps local = none_made at held _ c (in_phase Idle f)
  grows_at g (MakeTable at region) c f can keeps local = none_made_table at region _ c (in_phase Idle f)
  grows_at g (CountObject (Memory lease)) c f can keeps local = all_stay c.parts
  grows_at g (CountObject (Table lease)) c f can keeps local = all_stay c.parts
  grows_at g (CountObject (Stack lease)) c f can keeps local = all_stay c.parts
  grows_at g (TakeHeap name) c f can keeps local = with_heaps_grows _ c
  grows_at g (MakeHeap at) c f can keeps local = none_heap_made g.heap at c (in_phase Idle f)
  grows_at g (CountHeap lease) c f can keeps local = none_heap_counted f.asked lease c (in_phase Idle f)
  grows_at g (PutNoHeap at) c f can keeps local = with_heaps_grows _ c
  grows_at g (PutBack at held) c f can keeps local = grows_filled at.name at.numbers (cell_of held) c (own_at maker (PutBack at held) c f can) keeps
  grows_at g (FreeOne name) c f can keeps local = grows_freed (home_of c.plan name).place (home_of c.plan name).local 0 c
  grows_at g (UncountObject (Memory lease)) c f can keeps local = all_stay c.parts
  grows_at g (UncountObject (Table lease)) c f can keeps local = all_stay c.parts
  grows_at g (UncountObject (Stack lease)) c f can keeps local = all_stay c.parts
  grows_at g (UncountHeap lease memory) c f can keeps local = all_stay c.parts
  grows_at g (PutHeap lease memory) c f can keeps local = with_heaps_grows _ c
  grows_at g (FreeHeap name memory) c f can keeps local = grows_freed (home_of c.plan name).place (home_of c.plan name).local 0 c
  grows_at g (Reset (Memory lease)) c f can keeps local = none_reset g.fault g.slot lease c (in_phase Idle f)
  grows_at g (Reset (Table lease)) c f can keeps local = all_stay c.parts
  grows_at g (Reset (Stack lease)) c f can keeps local = all_stay c.parts
  grows_at g Merge c f can keeps local =
      let i : ℕ = queue_tried 0 c.plan f in
      let whole : Queue = after_append (queue_at i c) f.local in
      grows_merged (nat_le c.settings.batch (length whole.ranges)) i whole c (record f { phase = Idle; local = drained f.local })
  grows_at g Flush c f can keeps local =
      grows_flushed (flush_step f.local f.freed.items) g.queue c (in_phase Idle f)
      (λ kind m is. queued_counts_on m c (own_at maker Flush c f can kind m is) (first_has QueuedKeeps kind m f.local.slots is local))
  grows_at g UncountInstance c f can keeps local = all_stay c.parts
  grows_at g (ValidateComponent info) c f can keeps local = none_tested _ c (in_phase Idle f)
  grows_at g CountComponent c f can keeps local = none_component _ c (in_phase Idle f)
  grows_at g UncountComponent c f can keeps local = all_stay c.parts
  grows_at g (Purge p step) c f can keeps local = grows_purged g p step c (in_phase Idle f) (own_at maker (Purge p step) c f can) keeps
  grows_at g (Release step) c f can keeps local = grows_released g step c (in_phase Idle f) (own_at maker (Release step) c f can) keeps

-- Each part whose counts are small grows in a step, where the regions of the call keep their faults.
pub grows_step : {P H : Type 0} (maker : MakerTold) (old new : PartyTold) (c : PoolCore P H) (f : Frame P H) (a : After P H) → CanStep maker c f → StepsTo old new c f a → FrameKeeps f → (p : ℕ) → p < length c.parts → IsSmall (part_at p c.parts) → IsSmall (part_at p a.core.parts) → PartGrows (part_at p c.parts) (part_at p a.core.parts)
grows_step {P} {H} maker old new c f a can steps keeps p below was small =
    let sound : IsSoundStep maker old new c f a = sound_step maker old new c f a can steps in
    let all : AllMayGrow c.parts a.core.parts = subst (λ (b : After P H). AllMayGrow c.parts b.core.parts) (sym steps.1.is) (grows_at maker steps.0 f.phase c f can keeps.phase keeps.local) in
    let there : IsPartFor maker a.core.settings (role_at c.plan p) (part_at p a.core.parts) = subst (λ (plan : Plan). IsPartAt maker a.core.settings plan p (part_at p a.core.parts)) sound.size.plan (sound.can.core.parts p (omega (arith, below, all.long))) in
    all.each p below was small (as_before maker c.settings a.core.settings (role_at c.plan p) (part_at p c.parts) (part_at p a.core.parts) (can.core.parts p below) there)
