-- A frame that fits the pool still fits after its step, and after another's.
use Rattle.std.proofs.Common.{Option, Some, None, ◌≡◌, refl, arith}
use Rattle.pool_alloc.proofs.Imports.{heap_slot, SlotName}
use Rattle.pool_alloc.specs.Leases.{memory_slot}
use Rattle.pool_alloc.specs.Places.{right_to, region_of}
use Rattle.pool_alloc.specs.BetweenSteps.{FitsCore}
use Rattle.pool_alloc.specs.Turns.{After}
use Rattle.pool_alloc.specs.Stepping.{Conserves, IsSameSize, count_granted, grant_count}
use Rattle.pool_alloc.specs.declared.pool_core.PoolCore.{PoolCore}
use Rattle.pool_alloc.specs.declared.frame.Frame.{Frame}
use Rattle.pool_alloc.specs.declared.frame.Grant.TheVariants.{Instance, Memory, Table, Stack, Heap, HeapOver, Component}
use Rattle.pool_alloc.specs.declared.frame.Outcome.{Outcome}
use Rattle.pool_alloc.specs.declared.frame.Outcome.TheVariants as answer
use Rattle.pool_alloc.specs.StackLeases.{stack_slot}
use Rattle.pool_alloc.specs.TableLeases.{table_slot}
use Rattle.pool_alloc.proofs.SlotCounts.{both_regions}
use Rattle.pool_alloc.proofs.QueueCounts.{leased_regions, tables_regions}
use Rattle.pool_alloc.proofs.Weights.{conserves_units}

module _ {P H : Type 0} where
  -- A grant has the region of each slot.
  pub granted_regions : (k : SlotName) (o : Option (Outcome P H)) → count_granted (grant_count (region_of k)) o ≡ count_granted (grant_count (right_to k)) o
  granted_regions k None = refl
  granted_regions k (Some answer.Key) = refl
  granted_regions k (Some (answer.Granted (Instance lease))) = omega (arith, leased_regions k lease.memories.items, tables_regions k lease.tables.items)
  granted_regions k (Some (answer.Granted (Memory lease))) = both_regions k (memory_slot lease.index) lease.numbers
  granted_regions k (Some (answer.Granted (Table lease))) = both_regions k (table_slot lease.index) lease.numbers
  granted_regions k (Some (answer.Granted (Stack lease))) = both_regions k (stack_slot lease.stack.index) lease.numbers
  granted_regions k (Some (answer.Granted (Heap lease memory))) = omega (arith, both_regions k (heap_slot lease.index) lease.numbers, both_regions k (memory_slot memory.index) memory.numbers)
  granted_regions k (Some (answer.Granted (HeapOver lease))) = both_regions k (heap_slot lease.index) lease.numbers
  granted_regions k (Some (answer.Granted Component)) = refl
  granted_regions k (Some answer.Returned) = refl
  granted_regions k (Some (answer.Purged n)) = refl
  granted_regions k (Some (answer.Released n)) = refl
  granted_regions k (Some (answer.Refused e)) = refl

  -- Where a step conserves, what the frame has still fits.
  pub fits_after : (c : PoolCore P H) (f : Frame P H) (a : After P H) → FitsCore c f → Conserves c f a → IsSameSize c a.core → FitsCore a.core a.frame
  fits_after c f a fits b size = record {
    once = λ w. omega (arith, fits.once w, b w);
    others = λ k. omega (arith, fits.others k, conserves_units c f a b (right_to k), conserves_units c f a b (region_of k), granted_regions k a.outcome);
  }
