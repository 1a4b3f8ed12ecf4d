-- The steps that count, on the number at the counter alone: what each needs, and its row. The step table has the same rows on
-- the whole pool. So whoever finds the number makes the step.
use Rattle.std.specs.Prelude.{ℕ, ◌+◌, ◌-◌, ◌%◌, ◌^◌, ◌<◌, List, [], ◌∷◌, length, Bool, true, false, nat_lt, Option}
use Rattle.pool_alloc.specs.Imports.{Plan}
use Rattle.pool_alloc.specs.CanStep.{CanKeepMemory, CanKeepTable, CanTakeMemory}
use Rattle.pool_alloc.specs.HeapLeases.{LeasedHeap}
use Rattle.pool_alloc.specs.Leases.{Lease}
use Rattle.pool_alloc.specs.Objects.{no_objects}
use Rattle.pool_alloc.specs.StepTable.{no_instance_left, no_component_left, memory_kept, memory_turn, table_kept, table_turn}
use Rattle.pool_alloc.specs.Turns.{Row, goes, ends, next, stays, failing, answer_of}
use Rattle.pool_alloc.specs.declared.frame.Asked.{Asked}
use Rattle.pool_alloc.specs.declared.frame.Asked.TheVariants.{HeapOver as heap_over_asked}
use Rattle.pool_alloc.specs.declared.frame.Frame.{Frame}
use Rattle.pool_alloc.specs.declared.frame.Grant.TheVariants.{Component, Stack as stack_granted, Heap as heap_granted, HeapOver as heap_over_granted}
use Rattle.pool_alloc.specs.declared.frame.Object.{Object}
use Rattle.pool_alloc.specs.declared.frame.Object.TheVariants.{Memory, Table, Stack}
use Rattle.pool_alloc.specs.declared.frame.Outcome.TheVariants as answer
use Rattle.pool_alloc.specs.declared.frame.Phase.{Phase}
use Rattle.pool_alloc.specs.declared.frame.Phase.TheVariants.{Idle, Key, CountInstance, CountObject, CountHeap, UncountObject, UncountHeap, PutHeap, Reset, UncountInstance, CountComponent, UncountComponent}
use Rattle.pool_alloc.specs.declared.pool_core.Settings.{Settings}

module _ {P H : Type 0} where
  -- There is room among what was granted so far.
  abbrev pub CanCountObject : Object P → Frame P H → Type 0
  CanCountObject (Memory lease) f = CanKeepMemory f.asked f.objects
  CanCountObject (Table lease) f = CanKeepTable f.asked f.objects
  CanCountObject (Stack lease) f = Unit {0}

  -- What the code of such a step needs, in each phase. Other phases don't count.
  abbrev pub CanStepCounted : Plan → Phase P H → Frame P H → Type 0
  CanStepCounted plan Key f = (0 < length plan.memories) × (length plan.memories < 2 ^ 32)
  CanStepCounted plan CountInstance f = Unit {0}
  CanStepCounted plan (CountObject object) f = CanCountObject object f
  CanStepCounted plan (CountHeap lease) f = CanTakeMemory f.asked f.objects
  CanStepCounted plan (UncountObject object) f = Unit {0}
  CanStepCounted plan (UncountHeap lease memory) f = Unit {0}
  CanStepCounted plan UncountInstance f = Unit {0}
  CanStepCounted plan CountComponent f = Unit {0}
  CanStepCounted plan UncountComponent f = Unit {0}
  CanStepCounted plan _ f = ⊥

  -- A key is drawn: it gives the party its stripe.
  abbrev pub key_on : Plan → ℕ → Frame P H → Row ℕ P H
  key_on plan found f = record { part = (found + 1) % 2 ^ 64; frame = record f { stripe = found % length plan.memories }; turn = ends answer.Key }

  -- An instance is counted: fewer were than may be, or it is one too many.
  abbrev pub instance_found : Bool → Settings → ℕ → Frame P H → Row ℕ P H
  instance_found true s found f = record { part = found + 1; frame = f; turn = next }
  instance_found false s found f = record { part = found + 1; frame = failing (no_instance_left s) f; turn = next }

  -- The instance is counted, or refused where as many are counted as may be.
  abbrev pub instance_on : Settings → ℕ → Frame P H → Row ℕ P H
  instance_on s found f = instance_found (nat_lt found s.max_core_instances) s found f

  -- A component is counted: fewer were than may be, or it is one too many.
  abbrev pub component_found : Bool → Settings → ℕ → Frame P H → Row ℕ P H
  component_found true s found f = record { part = found + 1; frame = f; turn = ends (answer.Granted Component) }
  component_found false s found f = record { part = found + 1; frame = failing (no_component_left s) f; turn = goes UncountComponent }

  -- The component is counted, which is its grant, or refused where as many are counted as may be.
  abbrev pub component_on : Settings → ℕ → Frame P H → Row ℕ P H
  component_on s found f = component_found (nat_lt found s.max_component_instances) s found f

  -- An object is granted.
  abbrev pub object_on : Object P → ℕ → Frame P H → Row ℕ P H
  object_on (Memory lease) found f = record { part = found + 1; frame = memory_kept f.asked lease f; turn = memory_turn f.asked lease }
  object_on (Table lease) found f = record { part = found + 1; frame = table_kept f.asked lease f; turn = table_turn f.asked lease }
  object_on (Stack lease) found f = record { part = found + 1; frame = f; turn = ends (answer.Granted (stack_granted lease)) }

  -- The heap is granted, with the memory that was granted for it.
  abbrev pub heap_found : List Lease → LeasedHeap H → ℕ → Frame P H → Row ℕ P H
  heap_found [] lease found f = record { part = found; frame = f; turn = goes Idle }
  heap_found (memory ∷ rest) lease found f = record { part = found + 1; frame = record f { objects = no_objects }; turn = ends (answer.Granted (heap_granted lease memory)) }

  -- A heap over a memory that there is is granted without one.
  abbrev pub heap_found_for : Asked → LeasedHeap H → ℕ → Frame P H → Row ℕ P H
  heap_found_for (heap_over_asked memory) lease found f = record { part = found + 1; frame = f; turn = ends (answer.Granted (heap_over_granted lease)) }
  heap_found_for _ lease found f = heap_found f.objects.memories.items lease found f

  -- The heap is counted, and the call ends with it, and with its memory where that was granted for it.
  abbrev pub heap_on : LeasedHeap H → ℕ → Frame P H → Row ℕ P H
  heap_on lease found f = heap_found_for f.asked lease found f

  -- An object is counted off, and reset next.
  abbrev pub object_off : Object P → ℕ → Frame P H → Row ℕ P H
  object_off object found f = record { part = found - 1; frame = f; turn = goes (Reset object) }

  -- A heap is counted off, and comes back to its slot next.
  abbrev pub heap_off : LeasedHeap H → Option Lease → ℕ → Frame P H → Row ℕ P H
  heap_off lease memory found f = record { part = found - 1; frame = f; turn = goes (PutHeap lease memory) }

  -- An instance or a component is counted off, and the call ends with its answer.
  abbrev pub call_off : ℕ → Frame P H → Row ℕ P H
  call_off found f = record { part = found - 1; frame = f; turn = ends (answer_of f.ending) }

  -- The step table on the number at the counter, by phases.
  abbrev pub counted_on : Settings → Plan → Phase P H → ℕ → Frame P H → Row ℕ P H
  counted_on s plan Key found f = key_on plan found f
  counted_on s plan CountInstance found f = instance_on s found f
  counted_on s plan (CountObject object) found f = object_on object found f
  counted_on s plan (CountHeap lease) found f = heap_on lease found f
  counted_on s plan (UncountObject object) found f = object_off object found f
  counted_on s plan (UncountHeap lease memory) found f = heap_off lease memory found f
  counted_on s plan UncountInstance found f = call_off found f
  counted_on s plan CountComponent found f = component_on s found f
  counted_on s plan UncountComponent found f = call_off found f
  counted_on s plan _ found f = record { part = found; frame = f; turn = stays }
