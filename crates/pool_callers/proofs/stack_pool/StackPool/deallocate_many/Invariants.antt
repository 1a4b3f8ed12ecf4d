use Rattle.std.proofs.Common.{◌≡◌, map}
use Rattle.std.specs.Vec.Iter.{into_iter_items}
use Rattle.pool_hall.specs.Seat.{view}
use Rattle.pool_hall.specs.declared.view.View.{View}
use Rattle.pool_alloc.specs.declared.frame.Grant.TheVariants as grant
use Rattle.pool_driver.specs.declared.part.HallPart.{HallPart}
use Rattle.pool_callers.specs.Callers.{IsCaller, about_pool}
use Rattle.pool_callers.specs.GivingMany.{AreGivenBack, GivesAll}
use Rattle.pool_callers.proofs.stack_pool.StackPool.deallocate_many.Given as goal

-- Those that are left may be given back, and once they are, all are.
abbrev pub invariant-loop-stack : goal.invariant-loop-stack
invariant-loop-stack g l = record {
  seat : IsCaller g.M.PageMaker.told l.self.allocator.now l.seat;
  stripe : l.seat.frame.stripe ≡ l.initial.seat.frame.stripe;
  gives : GivesAll {P = g.row.P.Denot} {H = g.row.H.Denot} (about_pool g.M.PageMaker.told l.self.allocator.now) (map grant.Stack (into_iter_items l.stack-iterator)) (view l.seat.seat);
  all : (w : View (HallPart g.row.P.Denot g.row.H.Denot g.row.M.Denot)) → AreGivenBack {P = g.row.P.Denot} {H = g.row.H.Denot} (about_pool g.M.PageMaker.told l.self.allocator.now) (map grant.Stack (into_iter_items l.stack-iterator)) (view l.seat.seat) w → AreGivenBack {P = g.row.P.Denot} {H = g.row.H.Denot} (about_pool g.M.PageMaker.told l.self.allocator.now) (map grant.Stack l.fn.stacks.items) (view l.initial.seat.seat) w;
}
