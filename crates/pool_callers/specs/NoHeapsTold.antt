-- What the maker of heaps tells that a call has which needs none.
use Rattle.std.specs.Prelude.{None}
use Rattle.pool_slots.specs.HeapsTold.{HeapsTold}
use Rattle.pool_callers.specs.declared.calls.NoHeaps.{NoHeaps}

-- It tells no plan, how often it was asked, and no fault.
abbrev pub told_of : {H : Type 0} → NoHeaps H → HeapsTold
told_of m = record { plan = None; made = m.asked; faults = 0 }

-- Nobody asked it.
abbrev pub nobody_told : HeapsTold
nobody_told = record { plan = None; made = 0; faults = 0 }
