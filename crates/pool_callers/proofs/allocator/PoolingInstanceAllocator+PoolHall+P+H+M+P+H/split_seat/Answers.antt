use Rattle.std.proofs.Common.{◌≡◌, length, ap, subst, sym, None}
use Rattle.pool_hall.specs.Seat.{made_with, view}
use Rattle.pool_hall.specs.declared.view.View.{View}
use Rattle.pool_alloc.specs.Calls.{frame_made}
use Rattle.pool_alloc.specs.declared.frame.Frame.{Frame}
use Rattle.pool_driver.specs.Driving.{IsDriven}
use Rattle.pool_driver.specs.declared.part.HallPart.{HallPart}
use Rattle.pool_callers.specs.Callers.{about_pool, given_in}
use Rattle.pool_callers.proofs.Seats.{fresh_driven, left_driven}
use Rattle.pool_callers.proofs.allocator.PoolingInstanceAllocator+PoolHall+P+H+M+P+H.split_seat.Goals as goal

pub returns-clause-seat : goal.returns-clause-seat
returns-clause-seat g c = record {
  own = c.split-cut.ensures.own.0;
  free = c.split-cut.ensures.still_free c.requires.seat.free;
  idle = c.requires.seat.idle;
  driven = subst (λ (v : View (HallPart g.row.P.Denot g.row.H.Denot g.row.M.Denot)). IsDriven (length (made_with c.args.self.now.pool.hall)) (given_in (about_pool g.M.PageMaker.told c.args.self.now) v) v c.args.seat.now.frame None) (sym c.split-cut.ensures.left)
      (left_driven (length (made_with c.args.self.now.pool.hall)) (about_pool g.M.PageMaker.told c.args.self.now) (view c.args.seat.now.seat) c.args.seat.now.frame c.requires.seat.driven c.requires.seat.idle c.args.portions);
}

pub returns-clause-given : goal.returns-clause-given
returns-clause-given g c =
    let made : c.in_ok-frame.frame ≡ frame_made {P = g.row.P.Denot} {H = g.row.H.Denot} c.args.seat.now.frame.home c.args.self.now.pool.settings = c.in_ok-frame.ensures.made in
    record {
      own = c.split-cut.ensures.own.1;
      free = c.split-cut.ensures.free;
      idle = ap (λ (f : Frame g.row.P.Denot g.row.H.Denot). f.phase) made;
      driven = subst (λ (f : Frame g.row.P.Denot g.row.H.Denot). IsDriven (length (made_with c.args.self.now.pool.hall)) (given_in (about_pool g.M.PageMaker.told c.args.self.now) (view c.split-cut.result)) (view c.split-cut.result) f None) (sym made)
          (subst (λ (v : View (HallPart g.row.P.Denot g.row.H.Denot g.row.M.Denot)). IsDriven (length (made_with c.args.self.now.pool.hall)) (given_in (about_pool g.M.PageMaker.told c.args.self.now) v) v (frame_made {P = g.row.P.Denot} {H = g.row.H.Denot} c.args.seat.now.frame.home c.args.self.now.pool.settings) None) (sym c.split-cut.ensures.given)
          (fresh_driven (length (made_with c.args.self.now.pool.hall)) (about_pool g.M.PageMaker.told c.args.self.now) (view c.args.seat.now.seat) c.args.seat.now.frame c.requires.seat.driven c.requires.seat.idle c.args.portions c.args.seat.now.frame.home));
    }
