use Rattle.std.proofs.Common.{◌<◌, ◌≤◌, length, subst, sym, arith}
use Rattle.pool_hall.specs.Seat.{made_with, view}
use Rattle.pool_hall.specs.Sum.{often}
use Rattle.pool_hall.specs.Tally.{additions, number, subtractions}
use Rattle.pool_hall.specs.declared.view.View.{View}
use Rattle.pool_alloc.specs.Places.{counted_instance}
use Rattle.pool_driver.specs.declared.part.HallPart.{HallPart}
use Rattle.pool_callers.specs.Callers.{about_pool}
use Rattle.pool_callers.proofs.Settling.{within}
use Rattle.pool_callers.proofs.counts.PoolingInstanceAllocator+PoolHall+P+H+M+P+H.count_instance.Goals as goal

pub subtract-requires-clause-more : goal.subtract-requires-clause-more
subtract-requires-clause-more g c =
    let had : number (subtractions 1) (view c.args.seat.now.seat) ≤ number (additions 1) (view c.args.seat.now.seat) = within (length (made_with c.args.self.now.pool.hall)) (about_pool g.M.PageMaker.told c.args.self.now) (view c.args.seat.now.seat) c.args.seat.now.frame c.requires.seat.driven c.requires.seat.idle counted_instance in
    subst (λ (w : View (HallPart g.row.P.Denot g.row.H.Denot g.row.M.Denot)). often 1 w.subtracted < often 1 w.added) (sym c.add-found.ensures.view) (omega (arith, had))
