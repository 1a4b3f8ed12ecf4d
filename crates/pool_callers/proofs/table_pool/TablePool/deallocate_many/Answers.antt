use Rattle.std.proofs.Common.{◌≡◌, List, [], ◌∷◌, map, refl, rules, subst, sym, ◌∙◌}
use Rattle.std.specs.Vec.Iter.{into_iter_items}
use Rattle.std.proofs.lemmas.List.{nil_from_length}
use Rattle.pool_hall.specs.Seat.{view}
use Rattle.pool_hall.specs.declared.view.View.{View}
use Rattle.pool_alloc.specs.TableLeases.{LeasedTable}
use Rattle.pool_alloc.specs.declared.frame.Grant.{Grant}
use Rattle.pool_alloc.specs.declared.frame.Grant.TheVariants as grant
use Rattle.pool_driver.specs.Placed.{About}
use Rattle.pool_driver.specs.declared.part.HallPart.{HallPart}
use Rattle.pool_callers.specs.Callers.{about_pool}
use Rattle.pool_callers.specs.GivingMany.{AreGivenBack, GivesAll}
use Rattle.pool_callers.proofs.GivingMany.{first_gives, none_back, one_back, others_give}
use Rattle.pool_callers.proofs.table_pool.TablePool.deallocate_many.Goals as goal

pub loop-table-init : goal.loop-table-init
loop-table-init g c =
    let a : About = about_pool g.M.PageMaker.told c.args.self.now.allocator.now in
    let G : List LeasedTable → List (Grant g.row.P.Denot g.row.H.Denot) = λ ls. map grant.Table ls in
    let items : into_iter_items c.into_iter-table-iterator.result ≡ c.args.tables.items = search rules in
    record {
      seat = c.requires.seat;
      stripe = refl;
      gives = subst (λ (ls : List LeasedTable). GivesAll a (G ls) (view c.args.seat.now.seat)) (sym items) c.requires.gives;
      all = λ w after. subst (λ (ls : List LeasedTable). AreGivenBack a (G ls) (view c.args.seat.now.seat) w) items after;
    }

pub deallocate_table-requires-clause-gives : goal.deallocate_table-requires-clause-gives
deallocate_table-requires-clause-gives g c =
    let a : About = about_pool g.M.PageMaker.told c.args.self.now.allocator.now in
    let G : List LeasedTable → List (Grant g.row.P.Denot g.row.H.Denot) = λ ls. map grant.Table ls in
    first_gives a (grant.Table c.in-Some.table) (G (into_iter_items c.next.new.self)) (view c.loop-table.seat.seat)
    (subst (λ (ls : List LeasedTable). GivesAll a (G ls) (view c.loop-table.seat.seat)) c.in-Some.ensures.steps.0 c.loop-table.invariant.gives)

pub loop-table-preserved : goal.loop-table-preserved
loop-table-preserved g c =
    let a : About = about_pool g.M.PageMaker.told c.args.self.now.allocator.now in
    let G : List LeasedTable → List (Grant g.row.P.Denot g.row.H.Denot) = λ ls. map grant.Table ls in
    let x : Grant g.row.P.Denot g.row.H.Denot = grant.Table c.in-Some.table in
    let rest : List (Grant g.row.P.Denot g.row.H.Denot) = G (into_iter_items c.next.new.self) in
    let v : View (HallPart g.row.P.Denot g.row.H.Denot g.row.M.Denot) = view c.loop-table.seat.seat in
    let left : View (HallPart g.row.P.Denot g.row.H.Denot g.row.M.Denot) = view c.deallocate_table.new.seat.seat in
    let had : GivesAll a (x ∷ rest) v = subst (λ (ls : List LeasedTable). GivesAll a (G ls) v) c.in-Some.ensures.steps.0 c.loop-table.invariant.gives in
    record {
      seat = c.deallocate_table.ensures.seat;
      stripe = c.deallocate_table.ensures.stripe ∙ c.loop-table.invariant.stripe;
      gives = others_give a x rest v left had c.deallocate_table.ensures.returned;
      all = λ w after. c.loop-table.invariant.all w (subst (λ (ls : List LeasedTable). AreGivenBack a (G ls) v w) (sym c.in-Some.ensures.steps.0) (one_back a x rest v left w c.deallocate_table.ensures.returned after));
    }

pub returns-clause-returned : goal.returns-clause-returned
returns-clause-returned g c =
    let a : About = about_pool g.M.PageMaker.told c.args.self.now.allocator.now in
    let G : List LeasedTable → List (Grant g.row.P.Denot g.row.H.Denot) = λ ls. map grant.Table ls in
    let v : View (HallPart g.row.P.Denot g.row.H.Denot g.row.M.Denot) = view c.loop-table.seat.seat in
    let over : into_iter_items c.loop-table.table-iterator ≡ [] = nil_from_length (into_iter_items c.loop-table.table-iterator) (sym c.loop-table.table-iterator.rest.ok.0 ∙ c.in-None.ensures.steps.0) in
    c.loop-table.invariant.all v (subst (λ (ls : List LeasedTable). AreGivenBack a (G ls) v v) (sym over) (none_back a v))
