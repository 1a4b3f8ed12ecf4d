use Rattle.std.proofs.Common.{◌≡◌, ℕ, ◌*◌, ◌^◌, ◌≤◌, List, length, min, All, Some, flat_map}
use Rattle.pool_hall.specs.Seat.{view}
use Rattle.pool_index.specs.Allocator.{made_of, limits_in, bytes_into, CountsTaking, IsIndexSeat}
use Rattle.pool_index.specs.Freed.{taken_outside, units_of_slots}
use Rattle.pool_index.specs.Part.{shard_meaning}
use Rattle.pool_index.specs.Round.{HeldInTurn, Gains, OnlyGrows, KeepsRest}
use Rattle.pool_index.specs.Shard.{ShardState, after_take_warm}
use Rattle.pool_index.proofs.allocator.ModuleAffinityIndexAllocator.take_all.Given as goal

-- the warm slots of the shards so far are taken, and there is room for those of the others
abbrev pub invariant-loop-place : goal.invariant-loop-place
invariant-loop-place g l = record {
  seat : IsIndexSeat l.self l.seat;
  found : (ss : List ShardState) × (length ss ≡ l.place) × HeldInTurn shard_meaning Some (made_of l.self) (limits_in l.self) after_take_warm 0 ss (view l.initial.seat) (view l.seat) × (l.taken.items ≡ flat_map taken_outside ss);
  all : l.taken.room ≡ l.self.capacity;
  few : length l.taken.items ≤ min l.self.capacity (l.place * l.self.slots_per_shard);
  bytes : All (λ p. p.1 ≤ 2 ^ 32) l.taken.items;
  units : Gains (units_of_slots l.taken.items) (view l.initial.seat) (view l.seat);
  beyond : (p : ℕ) → l.place ≤ p → bytes_into l.self p l.taken.items ≡ 0;
  counts : CountsTaking l.self l.place l.taken.items (view l.initial.seat) (view l.seat);
  grows : OnlyGrows (view l.initial.seat) (view l.seat);
  rest : KeepsRest (view l.initial.seat) (view l.seat);
}
