use Rattle.std.proofs.Common.{◌≡◌, List, Some}
use Rattle.pool_index.proofs.Imports.{UnitName, times, view}
use Rattle.pool_index.specs.Allocator.{made_of, limits_in, IsIndexSeat}
use Rattle.pool_index.specs.Part.{shard_meaning}
use Rattle.pool_index.specs.Round.{HeldInTurn, KeepsCounts, OnlyGrows, KeepsRest}
use Rattle.pool_index.specs.Shard.{ShardState}
use Rattle.pool_index.proofs.Counted.{SoFar}
use Rattle.pool_index.proofs.allocator.ModuleAffinityIndexAllocator.counts.Given as goal

-- the shards so far were looked at, and this is what they told together
abbrev pub invariant-loop-place : goal.invariant-loop-place
invariant-loop-place g l = record {
  seat : IsIndexSeat l.self l.seat;
  found : (ss : List ShardState) × HeldInTurn shard_meaning Some (made_of l.self) (limits_in l.self) (λ s. s) 0 ss (view l.initial.seat) (view l.seat) × SoFar l.self.capacity l.self.slots_per_shard l.place ss l.sum;
  units : (u : UnitName) → times u (view l.seat).units ≡ times u (view l.initial.seat).units;
  counts : KeepsCounts (view l.initial.seat) (view l.seat);
  grows : OnlyGrows (view l.initial.seat) (view l.seat);
  rest : KeepsRest (view l.initial.seat) (view l.seat);
}
