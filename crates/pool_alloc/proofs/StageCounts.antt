-- What a call that isn't counted yet has counted: nothing.
use Rattle.std.proofs.Common.{◌≡◌, ℕ, ◌+◌, ◌*◌, Some, None, refl, arith}
use Rattle.pool_alloc.specs.CallStages.{asks, uncounted, counts_component, stage_by, stage_back, stage_at}
use Rattle.pool_alloc.specs.Places.{only, counted_instance, counted_component, phase_instances, phase_counted, instances_for}
use Rattle.pool_alloc.specs.declared.frame.Asked.{Asked}
use Rattle.pool_alloc.specs.declared.frame.Asked.TheVariants.{Memory as memory_asked, Table as table_asked, Stack as stack_asked, Heap as heap_asked, HeapOver as heap_over_asked}
use Rattle.pool_alloc.specs.declared.frame.Ending.{Ending}
use Rattle.pool_alloc.specs.declared.frame.Ending.TheVariants as ending
use Rattle.pool_alloc.specs.declared.frame.Phase.{Phase}
use Rattle.pool_alloc.specs.declared.frame.Phase.TheVariants.{Idle, Key, Validate, TestStack, TestHeap, CountInstance, CountObject, CountHeap, ValidateComponent, CountComponent, UncountComponent, UncountHeap, PutHeap, Purge, Release}

back_counts : (e : Ending) → stage_back e ≡ counts_component → ⊥
back_counts (ending.Refused e) is = absurd cc
back_counts e is = absurd cc

counted_back : (e : Ending) → stage_back e ≡ asks uncounted → ⊥
counted_back (ending.Refused e) is = absurd cc
counted_back e is = absurd cc

counted_by : (asked : Asked) (e : Ending) (n : ℕ) → stage_by asked e n ≡ asks uncounted → ⊥
counted_by (memory_asked m) ending.Granted n is = absurd cc
counted_by (table_asked ty) ending.Granted n is = absurd cc
counted_by stack_asked ending.Granted n is = absurd cc
counted_by (heap_asked ty) ending.Granted n is = absurd cc
counted_by (heap_over_asked memory) ending.Granted n is = absurd cc
counted_by _ ending.Granted n is = absurd cc
counted_by asked ending.Returned n is = absurd cc
counted_by asked (ending.Refused e) n is = absurd cc

module _ {P H : Type 0} where
  -- A request whose instance isn't counted yet has counted none.
  pub uncounted_none : (phase : Phase P H) (asked : Asked) (e : Ending) (n : ℕ) → stage_at phase asked e n ≡ asks uncounted → phase_instances phase * instances_for asked ≡ 0
  uncounted_none Idle asked e n is = omega arith
  uncounted_none Key asked e n is = omega arith
  uncounted_none Validate asked e n is = omega arith
  uncounted_none CountInstance asked e n is = omega arith
  uncounted_none TestStack asked e n is = omega arith
  uncounted_none TestHeap asked e n is = omega arith
  uncounted_none (CountHeap lease) asked e n is = absurd cc
  uncounted_none (ValidateComponent info) asked e n is = omega arith
  uncounted_none CountComponent asked e n is = omega arith
  uncounted_none UncountComponent asked e n is = absurd (counted_back e is)
  uncounted_none (Purge p step) asked e n is = omega arith
  uncounted_none (Release step) asked e n is = omega arith
  uncounted_none (CountObject object) asked e n is = absurd (counted_by asked e (n + 1) is)
  uncounted_none _ asked e n is = absurd (counted_by asked e n is)

  -- So it is with a component.
  pub uncounted_component : (phase : Phase P H) (asked : Asked) (e : Ending) (n : ℕ) → stage_at phase asked e n ≡ counts_component → phase_counted (only counted_component) phase ≡ 0
  uncounted_component UncountComponent asked e n is = absurd (back_counts e is)
  uncounted_component (UncountHeap lease (Some memory)) asked e n is = refl
  uncounted_component (UncountHeap lease None) asked e n is = refl
  uncounted_component (PutHeap lease (Some memory)) asked e n is = refl
  uncounted_component (PutHeap lease None) asked e n is = refl
  uncounted_component _ asked e n is = refl

  -- No phase has an instance that is counted beside that of its call.
  pub no_instance_counted : (phase : Phase P H) → phase_counted (only counted_instance) phase ≡ 0
  no_instance_counted UncountComponent = refl
  no_instance_counted (UncountHeap lease (Some memory)) = refl
  no_instance_counted (UncountHeap lease None) = refl
  no_instance_counted (PutHeap lease (Some memory)) = refl
  no_instance_counted (PutHeap lease None) = refl
  no_instance_counted _ = refl
