use Rattle.std.proofs.Common.{◌≡◌, ℕ, ◌<◌, false}
use Rattle.std.specs.List.{HoldsAt}
use Rattle.pool_slots.specs.SlotQueues.{is_to_zero}
use Rattle.pool_slots.proofs.kind_items.KindItems.place_to_zero.Given as goal

-- none of the slots so far is to be zeroed
abbrev pub invariant-loop-at : goal.invariant-loop-at
invariant-loop-at g l = (k : ℕ) → k < l.at → HoldsAt (λ m. is_to_zero l.kind m ≡ false) l.self.items k
