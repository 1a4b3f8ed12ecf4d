use Rattle.std.proofs.Common.{◌≡◌, ℕ, ◌≤◌, ◌<◌, false}
use Rattle.std.specs.List.{HoldsAt}
use Rattle.pool_slots.specs.SlotQueues.{same_slot}
use Rattle.pool_slots.proofs.kind_items.KindItems.place_within.Given as goal

-- none of the slots so far has the name
abbrev pub invariant-loop-at : goal.invariant-loop-at
invariant-loop-at g l = (k : ℕ) → l.fn.from ≤ k → k < l.at → HoldsAt (λ m. same_slot l.slot m.name ≡ false) l.self.items k
