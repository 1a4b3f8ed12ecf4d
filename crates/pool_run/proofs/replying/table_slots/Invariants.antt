use Rattle.std.proofs.Common.{◌≡◌, ◌≤◌, length, map, take}
use Rattle.pool_alloc.specs.TableLeases.{LeasedTable}
use Rattle.pool_run.proofs.replying.table_slots.Given as goal

-- the slots of the tables so far, with room for the rest
abbrev pub invariant-loop-at : goal.invariant-loop-at
invariant-loop-at g l = record {
  slots : l.slots.items ≡ map (λ (x : LeasedTable). x.index) (take l.at l.lease.tables.items);
  room : l.count ≤ l.slots.room;
  all : l.count ≡ length l.lease.tables.items;
}
