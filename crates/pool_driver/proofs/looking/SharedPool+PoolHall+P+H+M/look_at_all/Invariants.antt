use Rattle.std.proofs.Common.{◌≡◌, ◌+◌, ◌≤◌, length, drop}
use Rattle.pool_hall.specs.Seat.{limits_of, made_with, view, IsFree, IsSeatOf}
use Rattle.pool_driver.specs.Looking.{HasLooked, slots_among}
use Rattle.pool_driver.specs.Origins.{about_of, inner_of}
use Rattle.pool_driver.specs.Placed.{pool_meaning}
use Rattle.pool_driver.proofs.Looks.{Others}
use Rattle.pool_driver.proofs.looking.SharedPool+PoolHall+P+H+M.look_at_all.Given as goal

abbrev pub ghost-look_at_shards : goal.ghost-look_at_shards
ghost-look_at_shards g a = g.about

-- the slots so far, with those of the allocators that are left, are no more than those of all
abbrev pub invariant-loop-number : goal.invariant-loop-number
invariant-loop-number g l = record {
  own : IsSeatOf l.self.hall l.seat;
  free : IsFree l.seat;
  looked : HasLooked (view l.initial.seat) (view l.seat);
  seen : Others (pool_meaning (about_of g.M.PageMaker.told) inner_of) inner_of (made_with l.self.hall) (limits_of l.self.hall) l.kind (view l.initial.seat) l.allocators (drop l.number l.allocators) l.sum;
  all : l.number-end ≡ length l.allocators;
  few : l.sum.slots + slots_among (drop l.number l.allocators) ≤ slots_among l.allocators;
}
