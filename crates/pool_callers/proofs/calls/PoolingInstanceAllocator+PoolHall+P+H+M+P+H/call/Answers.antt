use Rattle.std.proofs.Common.{length, rules, Some}
use Rattle.pool_hall.specs.Seat.{made_with, view, IsFree, IsSeatOf}
use Rattle.pool_alloc.specs.Calls.{MayBegin}
use Rattle.pool_driver.specs.Calling.{brought}
use Rattle.pool_driver.specs.Driving.{IsDriven}
use Rattle.pool_driver.specs.Pools.{IsSharedOf}
use Rattle.pool_callers.specs.Callers.{about_pool, about_shared, given_for}
use Rattle.pool_callers.proofs.Settling.{begins_driven, settled}
use Rattle.pool_callers.proofs.calls.PoolingInstanceAllocator+PoolHall+P+H+M+P+H.call.Goals as goal

pub call-requires : goal.call-requires
call-requires g c κs within =
    let pool : IsSharedOf g.M.PageMaker.told (about_shared g.M.PageMaker.told c.args.self.now.pool) c.args.self.now.pool = c.requires.pool.pool in
    let own : IsSeatOf c.args.self.now.pool.hall c.args.seat.now.seat = c.requires.seat.own in
    let free : IsFree c.args.seat.now.seat = c.requires.seat.free in
    let may : MayBegin (about_shared g.M.PageMaker.told c.args.self.now.pool).maker c.args.self.now.pool.settings c.args.self.now.pool.plan c.args.call (record c.args.seat.now.frame { home = c.args.home.0 }) = c.requires.begins in
    let driven : IsDriven (length (made_with c.args.self.now.pool.hall)) (given_for (about_shared g.M.PageMaker.told c.args.self.now.pool) c.args.call (view c.args.seat.now.seat)) (view c.args.seat.now.seat) (record c.args.seat.now.frame { home = c.args.home.0 }) (brought c.args.call) =
    begins_driven (length (made_with c.args.self.now.pool.hall)) (about_shared g.M.PageMaker.told c.args.self.now.pool) (view c.args.seat.now.seat) c.args.seat.now.frame c.requires.seat.idle c.requires.seat.driven c.args.home.0 c.args.call c.requires.brings in
    search rules

pub returns-clause-seat : goal.returns-clause-seat
returns-clause-seat g c = record {
  own = c.call.ensures.own;
  free = c.call.ensures.free;
  idle = c.call.ensures.ended.idle;
  driven = settled (length (made_with c.args.self.now.pool.hall)) (given_for (about_pool g.M.PageMaker.told c.args.self.now) c.args.call (view c.args.seat.now.seat)) (view c.call.new.seat) c.call.new.frame (Some c.call.result) c.call.ensures.driven c.call.ensures.ended.idle;
}
