use Rattle.std.proofs.Common.{length, subst, sym, None}
use Rattle.pool_hall.specs.Seat.{made_with, view}
use Rattle.pool_hall.specs.declared.view.View.{View}
use Rattle.pool_driver.specs.Driving.{IsDriven}
use Rattle.pool_driver.specs.declared.part.HallPart.{HallPart}
use Rattle.pool_callers.specs.Callers.{about_pool, given_in}
use Rattle.pool_callers.proofs.Seats.{joined_driven}
use Rattle.pool_callers.proofs.allocator.PoolingInstanceAllocator+PoolHall+P+H+M+P+H.join_seat.Goals as goal

pub returns-clause-seat : goal.returns-clause-seat
returns-clause-seat g c = record {
  own = c.join.ensures.own;
  free = c.join.ensures.still_free c.requires.seat.free;
  idle = c.requires.seat.idle;
  driven = subst (λ (v : View (HallPart g.row.P.Denot g.row.H.Denot g.row.M.Denot)). IsDriven (length (made_with c.args.self.now.pool.hall)) (given_in (about_pool g.M.PageMaker.told c.args.self.now) v) v c.args.seat.now.frame None) (sym c.join.ensures.view)
      (joined_driven (length (made_with c.args.self.now.pool.hall)) (about_pool g.M.PageMaker.told c.args.self.now) (view c.args.seat.now.seat) c.args.seat.now.frame c.requires.seat.driven c.requires.seat.idle (view c.args.other.seat) c.args.other.frame c.requires.other.driven c.requires.other.idle);
}
