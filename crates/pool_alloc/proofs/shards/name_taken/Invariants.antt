use Rattle.std.proofs.Common.{◌≡◌, ◌+◌, ◌++◌, ◌≤◌, length, drop}
use Rattle.pool_alloc.proofs.TakenSlots.{named}
use Rattle.pool_alloc.proofs.shards.name_taken.Given as goal

-- the slots so far are listed
abbrev pub invariant-loop-at : goal.invariant-loop-at
invariant-loop-at l = record {
  listed : l.cursor.taken.items ++ named l.shard (drop l.at l.fn.cursor.local.items) ≡ l.fn.cursor.taken.items ++ named l.shard (drop l.from l.fn.cursor.local.items);
  same : l.cursor ≡ record l.fn.cursor { taken = record l.fn.cursor.taken { items = l.cursor.taken.items } };
  all : l.count ≡ length l.fn.cursor.local.items;
  number : length l.cursor.taken.items + l.from ≡ length l.fn.cursor.taken.items + l.at;
  behind : l.from ≤ l.at;
}
