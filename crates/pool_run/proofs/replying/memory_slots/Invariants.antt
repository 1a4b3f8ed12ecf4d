use Rattle.std.proofs.Common.{◌≡◌, ◌≤◌, length, map, take}
use Rattle.pool_alloc.specs.Leases.{Lease}
use Rattle.pool_run.proofs.replying.memory_slots.Given as goal

-- the slots of the memories so far, with room for the rest
abbrev pub invariant-loop-at : goal.invariant-loop-at
invariant-loop-at g l = record {
  slots : l.slots.items ≡ map (λ (x : Lease). x.index) (take l.at l.lease.memories.items);
  room : l.count ≤ l.slots.room;
  all : l.count ≡ length l.lease.memories.items;
}
