use Rattle.std.proofs.Common.{◌≡◌, ◌+◌, ◌*◌, ◌<◌, ◌^◌, ◌++◌, length, map, All}
use Rattle.pool_index.specs.Lists.{with_bytes, numbered, use_again}
use Rattle.pool_index.proofs.slot_lists.SlotLists.take_all.Given as goal

abbrev pub invariant-loop-self : goal.invariant-loop-self
invariant-loop-self g l = record {
  items : l.out.items ++ map (numbered l.first l.step) (map with_bytes l.self.warm) ≡ l.fn.out.items ++ map (numbered l.first l.step) (map with_bytes l.fn.self.warm);
  used : use_again l.self.warm l.self.used ≡ use_again l.fn.self.warm l.fn.self.used;
  fit : All (λ e. l.first + e.slot.0 * l.step < 2 ^ 32) l.self.warm;
  room : l.out.room ≡ l.fn.out.room;
}

abbrev pub decreases-loop-self : goal.decreases-loop-self
decreases-loop-self g l = length l.self.warm
