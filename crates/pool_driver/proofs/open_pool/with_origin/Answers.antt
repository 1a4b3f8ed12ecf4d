use Rattle.std.proofs.Common.{◌≡◌, List, sym, ◌∙◌, arith}
use Rattle.std.specs.Vec.Iter.{into_iter_items}
use Rattle.std.proofs.lemmas.List.{nil_from_length}
use Rattle.pool_driver.specs.Origins.{about_of, inner_of}
use Rattle.pool_driver.specs.Placed.{About, about_by}
use Rattle.pool_driver.specs.declared.part.HallPart.{HallPart}
use Rattle.pool_driver.proofs.Lists.{leaves_room, moves_one, moved_all, holds_of_all}
use Rattle.pool_driver.proofs.open_pool.with_origin.Goals as goal

pub loop-part-preserved : goal.loop-part-preserved
loop-part-preserved g c =
    let had : List (HallPart g.row.P.Denot g.row.H.Denot g.row.M.Denot) = c.loop-part.wrapped.items in
    let new : List (HallPart g.row.P.Denot g.row.H.Denot g.row.M.Denot) = c.push_reserved.new.self.items in
    let x : HallPart g.row.P.Denot g.row.H.Denot g.row.M.Denot = c.of_pool.result in
    let of : About = about_by (g.M.PageMaker.told c.args.maker.now) c.args.settings.now c.args.plan.now in
    record {
      all = moves_one inner_of had new x c.in-Some.part (into_iter_items c.loop-part.part-iterator) (into_iter_items c.next.new.self) c.args.parts.items c.push_reserved.ensures.items c.of_pool.ensures.part c.in-Some.ensures.steps.0 c.loop-part.invariant.all;
      about = holds_of_all (λ x. about_of g.M.PageMaker.told x ≡ of) had new x c.push_reserved.ensures.items c.loop-part.invariant.about c.of_pool.ensures.about;
      room = omega (arith, leaves_room had new x c.in-Some.part (into_iter_items c.loop-part.part-iterator) (into_iter_items c.next.new.self) c.push_reserved.ensures.items c.in-Some.ensures.steps.0, c.loop-part.invariant.room, c.push_reserved.ensures.capacity);
    }

pub returns-clause-parts : goal.returns-clause-parts
returns-clause-parts g c =
    moved_all inner_of c.loop-part.wrapped.items (into_iter_items c.loop-part.part-iterator) c.args.parts.items
    (nil_from_length (into_iter_items c.loop-part.part-iterator) (sym c.loop-part.part-iterator.rest.ok.0 ∙ c.in-None.ensures.steps.0)) c.loop-part.invariant.all
