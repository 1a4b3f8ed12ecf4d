use Rattle.std.proofs.Common.{◌≡◌, ℕ, ◌<◌, false, take, vec_capacity, get_or}
use Rattle.std.specs.Mem.Slots.{slots_items, slots_filled, slots_len}
use Rattle.std.specs.Mem.Slots.Ownership.{Filled}
use Rattle.pool_hall.proofs.ends.emptied.Given as goal

-- the first parts have moved, and the others are still there
abbrev pub invariant-loop-i : goal.invariant-loop-i
invariant-loop-i g l = record {
  moved : l.list.items ≡ take l.i (slots_items l.closed.slots);
  same : slots_items l.closed.slots ≡ slots_items l.initial.closed.slots;
  places : slots_len l.closed.slots ≡ slots_len l.initial.closed.slots;
  room : vec_capacity l.list ≡ vec_capacity l.initial.list;
  full : Filled (slots_filled l.closed.slots) l.i (slots_len l.closed.slots);
  empty : (k : ℕ) → k < l.i → get_or (slots_filled l.closed.slots) k false ≡ false;
}
