-- Each row changes one part of the pool, or none.
use Rattle.std.proofs.Common.{◌≡◌, ◌⊎◌, ap, ℕ, ◌+◌, Bool, true, false, List, length, refl, sym, subst, inl, inr, Option, Some, None, Result, Ok, Err, [], ◌∷◌, nat_le}
use Rattle.pool_alloc.proofs.Imports.{HeapMakeFault, HeapEntry, Unsupported, Slot, ShardState, MemoryState, CellState, Queue, Queued, after_append, drained, first_of_kind, others_of_kind, AllocError, Told, SlotName}
use Rattle.pool_alloc.specs.HeapLeases.{LeasedHeap}
use Rattle.pool_alloc.specs.Refusals.{heap_refused}
use Rattle.pool_alloc.specs.PartyTold.{PartyTold}
use Rattle.pool_alloc.specs.Leases.{Lease}
use Rattle.pool_alloc.specs.TableLeases.{LeasedTable}
use Rattle.pool_alloc.specs.StepTable.{stacks_tested, FlushStep, run, zero, put, free, flush_step, merged, in_queue, reserved, validated, counted, paged, was_made, was_made_table, was_reset, put_first, flush_row, row_of, component_tested, component_counted, heaps_tested, make_heap_row, heap_granted, heap_counted, memory_tested}
use Rattle.pool_alloc.specs.StepReads.{StepGiven, queue_at, queue_tried, with_shard, with_cell, with_queue, with_heaps, counting_keys, counting_instances, counting_components, counting_memories, counting_tables, counting_stacks, counting_heaps}
use Rattle.pool_alloc.specs.Stepping.{StepsTo, ChangesOnePart}
use Rattle.pool_alloc.specs.Turns.{After}
use Rattle.pool_alloc.specs.declared.pool_core.PoolCore.{PoolCore}
use Rattle.pool_alloc.specs.declared.frame.Frame.{Frame}
use Rattle.pool_alloc.specs.declared.frame.Phase.{Phase}
use Rattle.pool_alloc.specs.declared.frame.Object.TheVariants.{Memory, Table, Stack}
use Rattle.pool_alloc.specs.declared.frame.TakenSlot.{TakenSlot}
use Rattle.pool_alloc.specs.declared.frame.Phase.TheVariants.{Idle, Key, Validate, TestStack, CountInstance, Pick, TakeQueue, TakeRegion, Empty, Instantiate, MakeMemory, MakeTable, CountObject, PutBack, FreeOne, UncountObject, Reset, Merge, Flush, UncountInstance, ValidateComponent, CountComponent, UncountComponent, Purge, Release, TestHeap, TakeHeap, MakeHeap, CountHeap, PutNoHeap, UncountHeap, PutHeap, FreeHeap}
use Rattle.pool_alloc.specs.declared.frame.Asked.{Asked}
use Rattle.pool_alloc.specs.declared.frame.Asked.TheVariants.{HeapOver as heap_over_asked}
use Rattle.pool_alloc.specs.Purges.{has_turns, pick_affine_row, purge_row}
use Rattle.pool_alloc.specs.Releases.{reserve_row, release_row}
use Rattle.pool_alloc.specs.declared.purge.PurgeCursor.{PurgeCursor}
use Rattle.pool_alloc.specs.declared.purge.PurgeStep.{PurgeStep}
use Rattle.pool_alloc.specs.declared.purge.PurgeStep.TheVariants as purging_step
use Rattle.pool_alloc.specs.declared.release.ReleaseStep.{ReleaseStep}
use Rattle.pool_alloc.specs.declared.release.ReleaseStep.TheVariants as releasing_step

module _ {P H : Type 0} where
  one_shard : (j : ℕ) (shard : ShardState) (c : PoolCore P H) → ChangesOnePart c (with_shard j shard c)
  one_shard j shard c = inr (inl (j, shard, refl))

  one_cell : (name : SlotName) (cell : CellState) (c : PoolCore P H) → ChangesOnePart c (with_cell name cell c)
  one_cell name cell c = inr (inr (inl (name, cell, refl)))

  one_queue : (i : ℕ) (queue : Queue) (c : PoolCore P H) → ChangesOnePart c (with_queue i queue c)
  one_queue i queue c = inr (inr (inr (inl (i, queue, refl))))

  one_heaps : (heaps : List (HeapEntry H)) (c : PoolCore P H) → ChangesOnePart c (with_heaps heaps c)
  one_heaps heaps c = inr (inr (inr (inr (inl (heaps, refl)))))

  one_reserved : (wants : Bool) (p : Phase P H) (c : PoolCore P H) (f : Frame P H) → ChangesOnePart c (reserved wants p c f).part
  one_reserved true p c f = inl refl
  one_reserved false p c f = inl refl

  one_validated : (o : Option Unsupported) (wants : Bool) (p : Phase P H) (c : PoolCore P H) (f : Frame P H) → ChangesOnePart c (validated o wants p c f).part
  one_validated (Some rule) wants p c f = inl refl
  one_validated None wants p c f = one_reserved wants p c f

  one_memory_tested : (asked : Asked) (wants : Bool) (c : PoolCore P H) (f : Frame P H) → ChangesOnePart c (memory_tested asked wants c f).part
  one_memory_tested (heap_over_asked memory) wants c f = inl refl
  one_memory_tested asked wants c f = one_validated (heap_refused c.settings asked) wants (Pick 0) c f

  one_heap_tested : (b wants : Bool) (c : PoolCore P H) (f : Frame P H) → ChangesOnePart c (heaps_tested b wants c f).part
  one_heap_tested false wants c f = inl refl
  one_heap_tested true wants c f = one_memory_tested f.asked wants c f

  one_heap_made : (r : Result H HeapMakeFault) (at : TakenSlot) (c : PoolCore P H) (f : Frame P H) → ChangesOnePart c (make_heap_row r at c f).part
  one_heap_made (Ok heap) at c f = inl refl
  one_heap_made (Err fault) at c f = inl refl

  one_heap_granted : (leases : List Lease) (lease : LeasedHeap H) (c : PoolCore P H) (f : Frame P H) → ChangesOnePart c (heap_granted leases lease c f).part
  one_heap_granted [] lease c f = inl refl
  one_heap_granted (memory ∷ rest) lease c f = inr (inr (inr (inr (inr (_, inr (inr (inr (inr (inr (inl refl))))))))))

  one_heap_counted : (asked : Asked) (lease : LeasedHeap H) (c : PoolCore P H) (f : Frame P H) → ChangesOnePart c (heap_counted asked lease c f).part
  one_heap_counted (heap_over_asked memory) lease c f = inr (inr (inr (inr (inr (_, inr (inr (inr (inr (inr (inl refl))))))))))
  one_heap_counted asked lease c f = one_heap_granted f.objects.memories.items lease c f

  one_counted : (b : Bool) (c : PoolCore P H) (f : Frame P H) → ChangesOnePart c (counted b c f).part
  one_counted true c f = inr (inr (inr (inr (inr (c.counters.core_instances + 1, inr (inl refl))))))
  one_counted false c f = inr (inr (inr (inr (inr (c.counters.core_instances + 1, inr (inl refl))))))

  one_stack_tested : (b : Bool) (c : PoolCore P H) (f : Frame P H) → ChangesOnePart c (stacks_tested b c f).part
  one_stack_tested true c f = inl refl
  one_stack_tested false c f = inl refl

  one_tested : (o : Option Unsupported) (c : PoolCore P H) (f : Frame P H) → ChangesOnePart c (component_tested o c f).part
  one_tested (Some rule) c f = inl refl
  one_tested None c f = inl refl

  one_component : (b : Bool) (c : PoolCore P H) (f : Frame P H) → ChangesOnePart c (component_counted b c f).part
  one_component true c f = inr (inr (inr (inr (inr (_, inr (inr (inr (inr (inr (inr refl))))))))))
  one_component false c f = inr (inr (inr (inr (inr (_, inr (inr (inr (inr (inr (inr refl))))))))))

  one_paged : (fault : Bool) (slot : TakenSlot) (held : Slot) (next : Phase P H) (c : PoolCore P H) (f : Frame P H) → ChangesOnePart c (paged fault slot held next c f).part
  one_paged true slot held next c f = inl refl
  one_paged false slot held next c f = inl refl

  one_made : (slot : TakenSlot) (held : Slot) (r : Result MemoryState AllocError) (c : PoolCore P H) (f : Frame P H) → ChangesOnePart c (was_made slot held r c f).part
  one_made slot held (Ok memory) c f = inl refl
  one_made slot held (Err e) c f = inl refl

  one_made_table : (slot : TakenSlot) (region : Told) (r : Result LeasedTable AllocError) (c : PoolCore P H) (f : Frame P H) → ChangesOnePart c (was_made_table slot region r c f).part
  one_made_table slot region (Ok lease) c f = inl refl
  one_made_table slot region (Err e) c f = inl refl

  one_reset : (fault : Bool) (held : Slot) (lease : Lease) (c : PoolCore P H) (f : Frame P H) → ChangesOnePart c (was_reset fault held lease c f).part
  one_reset true held lease c f = inl refl
  one_reset false held lease c f = inl refl

  one_merged : (b : Bool) (i : ℕ) (queue : Queue) (c : PoolCore P H) (f : Frame P H) → ChangesOnePart c (in_queue i c (merged b queue f)).part
  one_merged true i queue c f = one_queue i _ c
  one_merged false i queue c f = one_queue i _ c

  one_put : (o : Option Queued) (rest : List Queued) (c : PoolCore P H) (f : Frame P H) → ChangesOnePart c (put_first o rest c f).part
  one_put None rest c f = inl refl
  one_put (Some m) rest c f = one_cell m.name _ c

  one_flushed : (step : FlushStep) (queue : Queue) (c : PoolCore P H) (f : Frame P H) → ChangesOnePart c (flush_row step queue c f).part
  one_flushed run queue c f = inl refl
  one_flushed (zero kind) queue c f = inl refl
  one_flushed (put kind) queue c f = one_put (first_of_kind kind f.local.slots) (others_of_kind kind f.local.slots) c f
  one_flushed free queue c f = one_shard _ _ c

  one_affine : (b : Bool) (p : PurgeCursor) (tried : ℕ) (c : PoolCore P H) (f : Frame P H) → ChangesOnePart c (pick_affine_row b p tried c f).part
  one_affine true p tried c f = one_shard _ _ c
  one_affine false p tried c f = inl refl

  one_purged : (g : StepGiven H) (p : PurgeCursor) (step : PurgeStep P) (c : PoolCore P H) (f : Frame P H) → ChangesOnePart c (purge_row g p step c f).part
  one_purged g p (purging_step.Pick tried) c f = one_affine (has_turns c.settings.max_memories_per_module c.plan) p tried c f
  one_purged g p (purging_step.TakeRegion name) c f = one_cell name _ c
  one_purged g p (purging_step.Forget at held) c f = inl refl
  one_purged g p (purging_step.PutRegion at held) c f = one_cell at.name _ c
  one_purged g p (purging_step.Free name) c f = one_shard _ _ c

  one_reserve : (wants : Bool) (c : PoolCore P H) (f : Frame P H) → ChangesOnePart c (reserve_row wants c f).part
  one_reserve true c f = inl refl
  one_reserve false c f = inl refl

  one_released : (g : StepGiven H) (step : ReleaseStep P) (c : PoolCore P H) (f : Frame P H) → ChangesOnePart c (release_row g step c f).part
  one_released g releasing_step.Reserve c f = one_reserve g.wants c f
  one_released g (releasing_step.TakeWarm r j) c f = one_shard _ _ c
  one_released g (releasing_step.TakeRegion r k) c f = one_cell _ _ c
  one_released g (releasing_step.Decommit r k at held) c f = inl refl
  one_released g (releasing_step.PutRegion r k at held) c f = one_cell at.name _ c
  one_released g (releasing_step.Free r x) c f = one_shard _ _ c

  one_part : (g : StepGiven H) (p : Phase P H) (c : PoolCore P H) (f : Frame P H) → ChangesOnePart c (row_of g p c f).part
  one_part g Idle c f = inl refl
  one_part g Key c f = inr (inr (inr (inr (inr (_, inl refl)))))
  one_part g Validate c f = one_validated _ g.wants CountInstance c f
  one_part g TestHeap c f = one_heap_tested c.settings.tunables.tunables.collector g.wants c f
  one_part g (TakeHeap name) c f = one_heaps _ c
  one_part g (MakeHeap at) c f = one_heap_made g.heap at c f
  one_part g (CountHeap lease) c f = one_heap_counted f.asked lease c f
  one_part g (PutNoHeap at) c f = one_heaps _ c
  one_part g (UncountHeap lease memory) c f = inr (inr (inr (inr (inr (_, inr (inr (inr (inr (inr (inl refl))))))))))
  one_part g (PutHeap lease memory) c f = one_heaps _ c
  one_part g (FreeHeap name memory) c f = one_shard _ _ c
  one_part g TestStack c f = one_stack_tested _ c f
  one_part g CountInstance c f = one_counted _ c f
  one_part g (Pick tried) c f = one_shard _ _ c
  one_part g TakeQueue c f = one_queue _ _ c
  one_part g (TakeRegion slot) c f = one_cell slot _ c
  one_part g (Empty slot held) c f = one_paged g.fault slot g.slot _ c f
  one_part g (Instantiate slot held) c f = one_paged g.fault slot g.slot _ c f
  one_part g (MakeMemory slot held) c f = one_made slot held _ c f
  one_part g (MakeTable slot region) c f = one_made_table slot region _ c f
  one_part g (CountObject (Memory lease)) c f = inr (inr (inr (inr (inr (_, inr (inr (inl refl)))))))
  one_part g (CountObject (Table lease)) c f = inr (inr (inr (inr (inr (_, inr (inr (inr (inl refl))))))))
  one_part g (CountObject (Stack lease)) c f = inr (inr (inr (inr (inr (_, inr (inr (inr (inr (inl refl)))))))))
  one_part g (PutBack at held) c f = one_cell at.name _ c
  one_part g (FreeOne name) c f = one_shard _ _ c
  one_part g (UncountObject (Memory lease)) c f = inr (inr (inr (inr (inr (_, inr (inr (inl refl)))))))
  one_part g (UncountObject (Table lease)) c f = inr (inr (inr (inr (inr (_, inr (inr (inr (inl refl))))))))
  one_part g (UncountObject (Stack lease)) c f = inr (inr (inr (inr (inr (_, inr (inr (inr (inr (inl refl)))))))))
  one_part g (Reset (Memory lease)) c f = one_reset g.fault g.slot lease c f
  one_part g (Reset (Table lease)) c f = inl refl
  one_part g (Reset (Stack lease)) c f = inl refl
  one_part g Merge c f =
      let i : ℕ = queue_tried 0 c.plan f in
      let whole : Queue = after_append (queue_at i c) f.local in
      one_merged (nat_le c.settings.batch (length whole.ranges)) i whole c (record f { local = drained f.local })
  one_part g Flush c f = one_flushed (flush_step f.local f.freed.items) g.queue c f
  one_part g UncountInstance c f = inr (inr (inr (inr (inr (_, inr (inl refl))))))
  one_part g (ValidateComponent info) c f = one_tested _ c f
  one_part g CountComponent c f = one_component _ c f
  one_part g UncountComponent c f = inr (inr (inr (inr (inr (_, inr (inr (inr (inr (inr (inr refl))))))))))
  one_part g (Purge p step) c f = one_purged g p step c f
  one_part g (Release step) c f = one_released g step c f

  -- what changes one part leaves the spare frame
  spare_counted : (n : ℕ) (old new : PoolCore P H) → (new ≡ counting_keys n old) ⊎ ((new ≡ counting_instances n old) ⊎ ((new ≡ counting_memories n old) ⊎ ((new ≡ counting_tables n old) ⊎ ((new ≡ counting_stacks n old) ⊎ ((new ≡ counting_heaps n old) ⊎ (new ≡ counting_components n old)))))) → new.spare ≡ old.spare
  spare_counted n old new (inl e) = ap (λ (c : PoolCore P H). c.spare) e
  spare_counted n old new (inr (inl e)) = ap (λ (c : PoolCore P H). c.spare) e
  spare_counted n old new (inr (inr (inl e))) = ap (λ (c : PoolCore P H). c.spare) e
  spare_counted n old new (inr (inr (inr (inl e)))) = ap (λ (c : PoolCore P H). c.spare) e
  spare_counted n old new (inr (inr (inr (inr (inl e))))) = ap (λ (c : PoolCore P H). c.spare) e
  spare_counted n old new (inr (inr (inr (inr (inr (inl e)))))) = ap (λ (c : PoolCore P H). c.spare) e
  spare_counted n old new (inr (inr (inr (inr (inr (inr e)))))) = ap (λ (c : PoolCore P H). c.spare) e

  spare_left : (old new : PoolCore P H) → ChangesOnePart old new → new.spare ≡ old.spare
  spare_left old new (inl e) = ap (λ (c : PoolCore P H). c.spare) e
  spare_left old new (inr (inl shard)) = ap (λ (c : PoolCore P H). c.spare) shard.2
  spare_left old new (inr (inr (inl cell))) = ap (λ (c : PoolCore P H). c.spare) cell.2
  spare_left old new (inr (inr (inr (inl queue)))) = ap (λ (c : PoolCore P H). c.spare) queue.2
  spare_left old new (inr (inr (inr (inr (inl heaps))))) = ap (λ (c : PoolCore P H). c.spare) heaps.1
  spare_left old new (inr (inr (inr (inr (inr counter))))) = spare_counted counter.0 old new counter.1

  -- A step changes one part of the pool, or none.
  pub step_changes : {old new : PartyTold} (c : PoolCore P H) (f : Frame P H) (a : After P H) → StepsTo old new c f a → ChangesOnePart c a.core
  step_changes c f a steps =
      let C : After P H → Type 0 = λ b. ChangesOnePart c b.core in
      subst C (sym steps.1.is) (one_part steps.0 f.phase c (record f { phase = Idle }))

  pub step_spares : {old new : PartyTold} (c : PoolCore P H) (f : Frame P H) (a : After P H) → StepsTo old new c f a → a.core.spare ≡ c.spare
  step_spares c f a steps = spare_left c a.core (step_changes c f a steps)
