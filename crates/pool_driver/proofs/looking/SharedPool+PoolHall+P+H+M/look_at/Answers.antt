use Rattle.std.proofs.Common.{◌≡◌, ap, subst, sym, ◌∙◌}
use Rattle.pool_hall.specs.Meaning.{Meaning}
use Rattle.pool_hall.specs.Seat.{made_with, limits_of, view}
use Rattle.pool_hall.specs.Step.{MayPut, put_view}
use Rattle.pool_driver.specs.Origins.{about_of, inner_of}
use Rattle.pool_driver.specs.Placed.{pool_meaning}
use Rattle.pool_driver.specs.declared.part.HallPart.{HallPart}
use Rattle.pool_driver.proofs.Looks.{looked_here, may_put_same, not_looked}
use Rattle.pool_driver.proofs.looking.SharedPool+PoolHall+P+H+M.look_at.Goals as goal

pub hold-requires-clause-may : goal.hold-requires-clause-may
hold-requires-clause-may g c x y r d told did =
    let m : Meaning (HallPart g.row.P.Denot g.row.H.Denot g.row.M.Denot) = pool_meaning (about_of g.M.PageMaker.told) inner_of in
    subst (λ (z : HallPart g.row.P.Denot g.row.H.Denot g.row.M.Denot). MayPut m (made_with c.args.self.now.hall) (limits_of c.args.self.now.hall) c.args.place x z (view c.args.seat.now).units) (sym did.0)
    (may_put_same m (made_with c.args.self.now.hall) (limits_of c.args.self.now.hall) c.args.place x (view c.args.seat.now) told)

pub returns-clause-looked : goal.returns-clause-looked
returns-clause-looked g c =
    let m : Meaning (HallPart g.row.P.Denot g.row.H.Denot g.row.M.Denot) = pool_meaning (about_of g.M.PageMaker.told) inner_of in
    let held = c.hold.ensures.held in
    looked_here m (made_with c.args.self.now.hall) (limits_of c.args.self.now.hall) c.args.place held.before (view c.args.seat.now) held.told (view c.hold.new.seat)
    (held.view ∙ ap (λ (y : HallPart g.row.P.Denot g.row.H.Denot g.row.M.Denot). put_view m c.args.place held.before y (view c.args.seat.now)) held.did.0)

pub returns-clause-part : goal.returns-clause-part
returns-clause-part g c =
    let held = c.hold.ensures.held in
    record { moment = view c.args.seat.now; looked = not_looked (view c.args.seat.now); part = held.before; told = held.told; slots = held.did.1; bytes = held.did.2 }
