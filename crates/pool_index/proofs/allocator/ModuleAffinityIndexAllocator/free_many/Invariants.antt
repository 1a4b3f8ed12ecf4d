use Rattle.std.proofs.Common.{◌≡◌, ℕ, ◌+◌, ◌==◌, if◌then◌else◌, nat_lt}
use Rattle.pool_index.proofs.Imports.{UnitName, counted, number, times, view}
use Rattle.pool_index.specs.Allocator.{place_in, bytes_into, FreedInTurn, IsIndexSeat}
use Rattle.pool_index.specs.Freed.{units_of_slots}
use Rattle.pool_index.specs.Part.{bytes_kept}
use Rattle.pool_index.specs.Round.{KeepsRest, OnlyGrows}
use Rattle.pool_index.proofs.allocator.ModuleAffinityIndexAllocator.free_many.Given as goal

-- the slots of the shards so far are given back
abbrev pub invariant-loop-place : goal.invariant-loop-place
invariant-loop-place g l = record {
  seat : IsIndexSeat l.self l.seat;
  gave : (u : UnitName) → times u (view l.seat).units + (if nat_lt (place_in l.self u.slot) l.place then times u (units_of_slots l.items) else 0) ≡ times u (view l.initial.seat).units;
  freed : FreedInTurn l.self l.place l.items (view l.initial.seat) (view l.seat);
  counts : (p i : ℕ) → number (counted p i) (view l.seat) ≡ number (counted p i) (view l.initial.seat) + (if nat_lt p l.place then (if i == bytes_kept then bytes_into l.self p l.items else 0) else 0);
  grows : OnlyGrows (view l.initial.seat) (view l.seat);
  rest : KeepsRest (view l.initial.seat) (view l.seat);
}
