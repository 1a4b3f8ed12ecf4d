use Rattle.std.proofs.Common.{◌≡◌, List, [], ◌∷◌, map, refl, rules, subst, sym, ◌∙◌}
use Rattle.std.specs.Vec.Iter.{into_iter_items}
use Rattle.std.proofs.lemmas.List.{nil_from_length}
use Rattle.pool_hall.specs.Seat.{view}
use Rattle.pool_hall.specs.declared.view.View.{View}
use Rattle.pool_alloc.specs.Leases.{Lease}
use Rattle.pool_alloc.specs.declared.frame.Grant.{Grant}
use Rattle.pool_alloc.specs.declared.frame.Grant.TheVariants as grant
use Rattle.pool_driver.specs.Placed.{About}
use Rattle.pool_driver.specs.declared.part.HallPart.{HallPart}
use Rattle.pool_callers.specs.Callers.{about_pool}
use Rattle.pool_callers.specs.GivingMany.{AreGivenBack, GivesAll}
use Rattle.pool_callers.proofs.GivingMany.{first_gives, none_back, one_back, others_give}
use Rattle.pool_callers.proofs.memory_pool.MemoryPool.deallocate_many.Goals as goal

pub loop-memory-init : goal.loop-memory-init
loop-memory-init g c =
    let a : About = about_pool g.M.PageMaker.told c.args.self.now.allocator.now in
    let G : List Lease → List (Grant g.row.P.Denot g.row.H.Denot) = λ ls. map grant.Memory ls in
    let items : into_iter_items c.into_iter-memory-iterator.result ≡ c.args.memories.items = search rules in
    record {
      seat = c.requires.seat;
      stripe = refl;
      gives = subst (λ (ls : List Lease). GivesAll a (G ls) (view c.args.seat.now.seat)) (sym items) c.requires.gives;
      all = λ w after. subst (λ (ls : List Lease). AreGivenBack a (G ls) (view c.args.seat.now.seat) w) items after;
    }

pub deallocate_memory-requires-clause-gives : goal.deallocate_memory-requires-clause-gives
deallocate_memory-requires-clause-gives g c =
    let a : About = about_pool g.M.PageMaker.told c.args.self.now.allocator.now in
    let G : List Lease → List (Grant g.row.P.Denot g.row.H.Denot) = λ ls. map grant.Memory ls in
    first_gives a (grant.Memory c.in-Some.memory) (G (into_iter_items c.next.new.self)) (view c.loop-memory.seat.seat)
    (subst (λ (ls : List Lease). GivesAll a (G ls) (view c.loop-memory.seat.seat)) c.in-Some.ensures.steps.0 c.loop-memory.invariant.gives)

pub loop-memory-preserved : goal.loop-memory-preserved
loop-memory-preserved g c =
    let a : About = about_pool g.M.PageMaker.told c.args.self.now.allocator.now in
    let G : List Lease → List (Grant g.row.P.Denot g.row.H.Denot) = λ ls. map grant.Memory ls in
    let x : Grant g.row.P.Denot g.row.H.Denot = grant.Memory c.in-Some.memory in
    let rest : List (Grant g.row.P.Denot g.row.H.Denot) = G (into_iter_items c.next.new.self) in
    let v : View (HallPart g.row.P.Denot g.row.H.Denot g.row.M.Denot) = view c.loop-memory.seat.seat in
    let left : View (HallPart g.row.P.Denot g.row.H.Denot g.row.M.Denot) = view c.deallocate_memory.new.seat.seat in
    let had : GivesAll a (x ∷ rest) v = subst (λ (ls : List Lease). GivesAll a (G ls) v) c.in-Some.ensures.steps.0 c.loop-memory.invariant.gives in
    record {
      seat = c.deallocate_memory.ensures.seat;
      stripe = c.deallocate_memory.ensures.stripe ∙ c.loop-memory.invariant.stripe;
      gives = others_give a x rest v left had c.deallocate_memory.ensures.returned;
      all = λ w after. c.loop-memory.invariant.all w (subst (λ (ls : List Lease). AreGivenBack a (G ls) v w) (sym c.in-Some.ensures.steps.0) (one_back a x rest v left w c.deallocate_memory.ensures.returned after));
    }

pub returns-clause-returned : goal.returns-clause-returned
returns-clause-returned g c =
    let a : About = about_pool g.M.PageMaker.told c.args.self.now.allocator.now in
    let G : List Lease → List (Grant g.row.P.Denot g.row.H.Denot) = λ ls. map grant.Memory ls in
    let v : View (HallPart g.row.P.Denot g.row.H.Denot g.row.M.Denot) = view c.loop-memory.seat.seat in
    let over : into_iter_items c.loop-memory.memory-iterator ≡ [] = nil_from_length (into_iter_items c.loop-memory.memory-iterator) (sym c.loop-memory.memory-iterator.rest.ok.0 ∙ c.in-None.ensures.steps.0) in
    c.loop-memory.invariant.all v (subst (λ (ls : List Lease). AreGivenBack a (G ls) v v) (sym over) (none_back a v))
