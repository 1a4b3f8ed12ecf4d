use Rattle.std.proofs.Common.{◌≡◌, ◌++◌, length, take, drop, map}
use Rattle.pool_slots.specs.SlotQueues.{forgotten}
use Rattle.pool_slots.proofs.kind_items.KindItems.forget.Given as goal

-- the first ones are forgotten
abbrev pub invariant-loop-at : goal.invariant-loop-at
invariant-loop-at g l = record {
  items : l.self.items ≡ map forgotten (take l.at l.fn.self.items) ++ drop l.at l.fn.self.items;
  room : l.self.room ≡ l.fn.self.room;
  all : l.at-end ≡ length l.fn.self.items;
}
