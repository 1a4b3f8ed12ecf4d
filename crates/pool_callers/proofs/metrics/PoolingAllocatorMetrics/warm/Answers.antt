use Rattle.std.proofs.Common.{◌≡◌, length, rules, None}
use Rattle.pool_hall.specs.Seat.{made_with, view, IsFree, IsSeatOf}
use Rattle.pool_driver.specs.Pools.{IsSharedOf}
use Rattle.pool_callers.specs.Callers.{about_pool, about_shared, given_in}
use Rattle.pool_callers.proofs.Looks.{looks_keep}
use Rattle.pool_callers.proofs.Settling.{settled}
use Rattle.pool_callers.proofs.metrics.PoolingAllocatorMetrics.warm.Goals as goal

pub warm_slots-requires : goal.warm_slots-requires
warm_slots-requires g c κs within =
    let pool : IsSharedOf g.M.PageMaker.told (about_shared g.M.PageMaker.told c.args.self.now.allocator.now.pool) c.args.self.now.allocator.now.pool = c.requires.pool.pool in
    let own : IsSeatOf c.args.self.now.allocator.now.pool.hall c.args.seat.now.seat = c.requires.seat.own in
    let free : IsFree c.args.seat.now.seat = c.requires.seat.free in
    search rules

pub returns-clause-seat : goal.returns-clause-seat
returns-clause-seat g c = record {
  own = c.warm_slots.ensures.own;
  free = c.warm_slots.ensures.free;
  idle = c.requires.seat.idle;
  driven = settled (length (made_with c.args.self.now.allocator.now.pool.hall)) (given_in (about_pool g.M.PageMaker.told c.args.self.now.allocator.now) (view c.args.seat.now.seat)) (view c.warm_slots.new.seat) c.args.seat.now.frame None
      (c.warm_slots.ensures.driven (given_in (about_pool g.M.PageMaker.told c.args.self.now.allocator.now) (view c.args.seat.now.seat)) c.args.seat.now.frame None c.requires.seat.driven) c.requires.seat.idle;
}

pub returns-clause-kept : goal.returns-clause-kept
returns-clause-kept g c = looks_keep (view c.args.seat.now.seat) (view c.warm_slots.new.seat) c.warm_slots.ensures.looked
