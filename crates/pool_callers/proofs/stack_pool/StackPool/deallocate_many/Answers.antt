use Rattle.std.proofs.Common.{◌≡◌, List, [], ◌∷◌, map, refl, rules, subst, sym, ◌∙◌}
use Rattle.std.specs.Vec.Iter.{into_iter_items}
use Rattle.std.proofs.lemmas.List.{nil_from_length}
use Rattle.pool_hall.specs.Seat.{view}
use Rattle.pool_hall.specs.declared.view.View.{View}
use Rattle.pool_alloc.specs.StackLeases.{LeasedStack}
use Rattle.pool_alloc.specs.declared.frame.Grant.{Grant}
use Rattle.pool_alloc.specs.declared.frame.Grant.TheVariants as grant
use Rattle.pool_driver.specs.Placed.{About}
use Rattle.pool_driver.specs.declared.part.HallPart.{HallPart}
use Rattle.pool_callers.specs.Callers.{about_pool}
use Rattle.pool_callers.specs.GivingMany.{AreGivenBack, GivesAll}
use Rattle.pool_callers.proofs.GivingMany.{first_gives, none_back, one_back, others_give}
use Rattle.pool_callers.proofs.stack_pool.StackPool.deallocate_many.Goals as goal

pub loop-stack-init : goal.loop-stack-init
loop-stack-init g c =
    let a : About = about_pool g.M.PageMaker.told c.args.self.now.allocator.now in
    let G : List LeasedStack → List (Grant g.row.P.Denot g.row.H.Denot) = λ ls. map grant.Stack ls in
    let items : into_iter_items c.into_iter-stack-iterator.result ≡ c.args.stacks.items = search rules in
    record {
      seat = c.requires.seat;
      stripe = refl;
      gives = subst (λ (ls : List LeasedStack). GivesAll a (G ls) (view c.args.seat.now.seat)) (sym items) c.requires.gives;
      all = λ w after. subst (λ (ls : List LeasedStack). AreGivenBack a (G ls) (view c.args.seat.now.seat) w) items after;
    }

pub deallocate_fiber_stack-requires-clause-gives : goal.deallocate_fiber_stack-requires-clause-gives
deallocate_fiber_stack-requires-clause-gives g c =
    let a : About = about_pool g.M.PageMaker.told c.args.self.now.allocator.now in
    let G : List LeasedStack → List (Grant g.row.P.Denot g.row.H.Denot) = λ ls. map grant.Stack ls in
    first_gives a (grant.Stack c.in-Some.stack) (G (into_iter_items c.next.new.self)) (view c.loop-stack.seat.seat)
    (subst (λ (ls : List LeasedStack). GivesAll a (G ls) (view c.loop-stack.seat.seat)) c.in-Some.ensures.steps.0 c.loop-stack.invariant.gives)

pub loop-stack-preserved : goal.loop-stack-preserved
loop-stack-preserved g c =
    let a : About = about_pool g.M.PageMaker.told c.args.self.now.allocator.now in
    let G : List LeasedStack → List (Grant g.row.P.Denot g.row.H.Denot) = λ ls. map grant.Stack ls in
    let x : Grant g.row.P.Denot g.row.H.Denot = grant.Stack c.in-Some.stack in
    let rest : List (Grant g.row.P.Denot g.row.H.Denot) = G (into_iter_items c.next.new.self) in
    let v : View (HallPart g.row.P.Denot g.row.H.Denot g.row.M.Denot) = view c.loop-stack.seat.seat in
    let left : View (HallPart g.row.P.Denot g.row.H.Denot g.row.M.Denot) = view c.deallocate_fiber_stack.new.seat.seat in
    let had : GivesAll a (x ∷ rest) v = subst (λ (ls : List LeasedStack). GivesAll a (G ls) v) c.in-Some.ensures.steps.0 c.loop-stack.invariant.gives in
    record {
      seat = c.deallocate_fiber_stack.ensures.seat;
      stripe = c.deallocate_fiber_stack.ensures.stripe ∙ c.loop-stack.invariant.stripe;
      gives = others_give a x rest v left had c.deallocate_fiber_stack.ensures.returned;
      all = λ w after. c.loop-stack.invariant.all w (subst (λ (ls : List LeasedStack). AreGivenBack a (G ls) v w) (sym c.in-Some.ensures.steps.0) (one_back a x rest v left w c.deallocate_fiber_stack.ensures.returned after));
    }

pub returns-clause-returned : goal.returns-clause-returned
returns-clause-returned g c =
    let a : About = about_pool g.M.PageMaker.told c.args.self.now.allocator.now in
    let G : List LeasedStack → List (Grant g.row.P.Denot g.row.H.Denot) = λ ls. map grant.Stack ls in
    let v : View (HallPart g.row.P.Denot g.row.H.Denot g.row.M.Denot) = view c.loop-stack.seat.seat in
    let over : into_iter_items c.loop-stack.stack-iterator ≡ [] = nil_from_length (into_iter_items c.loop-stack.stack-iterator) (sym c.loop-stack.stack-iterator.rest.ok.0 ∙ c.in-None.ensures.steps.0) in
    c.loop-stack.invariant.all v (subst (λ (ls : List LeasedStack). AreGivenBack a (G ls) v v) (sym over) (none_back a v))
