use Rattle.std.proofs.Common.{◌≡◌}
use Rattle.pool_slots.specs.HeapLists.{heaps_made}
use Rattle.pool_slots.proofs.heap_list.HeapList.new.Given as goal

-- the entries so far are as they are made
abbrev pub invariant-loop : goal.invariant-loop
invariant-loop g l = l.entries.items ≡ heaps_made l.counter
