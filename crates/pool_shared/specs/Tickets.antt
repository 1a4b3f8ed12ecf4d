-- How a spot finds its waits. Each has a ticket, and a later one a higher ticket.
use Rattle.std.specs.Prelude.{◌≡◌, ℕ, Bool, true, false, List, [], ◌∷◌, Option, None, Some, if◌then◌else◌}
use Rattle.std.specs.Ordering.{nat_cmp, ordering_then}
use Rattle.std.specs.declared.cmp.Ordering.{Ordering}
use Rattle.std.specs.BTreeMap.{is_at}
use Rattle.std.specs.List.Sorted.{IsStrictlySortedBy}
use Rattle.std.specs.Map.{keys_of, values_of, lookup}
use Rattle.pool_shared.specs.Spot.{is_of, is_parked_at, AreDistinct}
use Rattle.pool_shared.specs.declared.waiting.Waiting.{Waiting}

-- the order of addresses with tickets: by address, then by ticket
abbrev pub place_cmp : ℕ × ℕ → ℕ × ℕ → Ordering
place_cmp p q = ordering_then (nat_cmp p.0 q.0) (nat_cmp p.1 q.1)

-- the wait of this ticket
abbrev pub held_at : ℕ → List (ℕ × Waiting) → Option Waiting
held_at ticket held = lookup (is_at (nat_cmp ticket)) held

-- the ticket of the waiter's wait
abbrev pub ticket_of : ℕ → List (ℕ × Waiting) → Option ℕ
ticket_of waiter [] = None
ticket_of waiter (entry ∷ held) = if is_of waiter entry.1 then Some entry.0 else ticket_of waiter held

-- there is a wait, and it is parked at the address
abbrev pub has_parked : ℕ → Option Waiting → Bool
has_parked addr None = false
has_parked addr (Some wait) = is_parked_at addr wait

-- Waits with their tickets, in order of arrival: no two are of one waiter, each waiter's ticket is known, and so are the
-- tickets of those that are parked at an address.
pub record AreIndexed (held : List (ℕ × Waiting)) (tickets : ℕ → Option ℕ) (parked : ℕ × ℕ → Bool) : Type 0 where
  pub ordered : IsStrictlySortedBy nat_cmp (keys_of held)
  pub distinct : AreDistinct (values_of held)
  pub by_waiter : (waiter : ℕ) → tickets waiter ≡ ticket_of waiter held
  pub by_address : (place : ℕ × ℕ) → parked place ≡ has_parked place.0 (held_at place.1 held)
