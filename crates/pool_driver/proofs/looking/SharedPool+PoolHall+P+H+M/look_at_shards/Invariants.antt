use Rattle.std.proofs.Common.{◌*◌, ◌≤◌}
use Rattle.pool_hall.specs.Seat.{limits_of, made_with, view, IsFree, IsSeatOf}
use Rattle.pool_driver.specs.Looking.{HasLooked}
use Rattle.pool_driver.specs.Origins.{about_of, inner_of}
use Rattle.pool_driver.specs.Placed.{pool_meaning}
use Rattle.pool_driver.proofs.Looks.{SoFar}
use Rattle.pool_driver.proofs.looking.SharedPool+PoolHall+P+H+M.look_at_shards.Given as goal

abbrev pub ghost-look_at_shard : goal.ghost-look_at_shard
ghost-look_at_shard g a = g.about

-- the shards so far were read, and have no more slots that are warm than slots
abbrev pub invariant-loop-shard : goal.invariant-loop-shard
invariant-loop-shard g l = record {
  own : IsSeatOf l.self.hall l.seat;
  free : IsFree l.seat;
  looked : HasLooked (view l.initial.seat) (view l.seat);
  seen : SoFar (pool_meaning (about_of g.M.PageMaker.told) inner_of) inner_of (made_with l.self.hall) (limits_of l.self.hall) l.kind (view l.initial.seat) l.allocator l.shard l.sum;
  so_far : l.sum.slots ≤ l.shard * l.allocator.slots_per_shard;
  most : l.sum.slots ≤ l.allocator.capacity;
}
