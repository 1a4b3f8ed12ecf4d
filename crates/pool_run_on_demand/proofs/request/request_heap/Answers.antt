use Rattle.pool_pages.specs.MakerTold.{MakerTold}
use Rattle.pool_run_on_demand.specs.Left.{laying_of}
use Rattle.pool_run_on_demand.specs.declared.grant.OnDemandGrant.TheVariants.{Heap}
use Rattle.pool_run_on_demand.proofs.Heaps.{heap_makes, heap_refused}
use Rattle.pool_run_on_demand.proofs.Parties.{live_with}
use Rattle.pool_run_on_demand.proofs.Paid.{grant_spends, refusal_spends}
use Rattle.pool_run_on_demand.proofs.request.request_heap.Goals as goal

pub returns-in-Ok-clause-makes : goal.returns-in-Ok-clause-makes
returns-in-Ok-clause-makes g c stores =
    heap_makes g.terms c.args.n c.args.ty.now c.args.live.now.items stores c.args.heaps.now c.make_heap.new.heaps c.requires.1.1.1.1.1.0 c.in-Ok.heap c.in-Ok.memory c.in-Ok.ensures.answer

pub returns-in-Ok-clause-held : goal.returns-in-Ok-clause-held
returns-in-Ok-clause-held g c = live_with g.terms.tells c.args.live.now.items c.args.n (Heap c.in-Ok.heap c.in-Ok.memory) c.in-Ok.ensures.answer.1.1.1.0 c.requires.1.1.1.1.1.1.1.1

pub returns-in-Err-clause-makes : goal.returns-in-Err-clause-makes
returns-in-Err-clause-makes g c stores =
    heap_refused g.terms c.args.n c.args.ty.now c.args.live.now.items stores c.args.heaps.now c.make_heap.new.heaps c.requires.1.1.1.1.1.0 c.in-Err.error c.in-Err.ensures.answer

pub returns-in-Ok-clause-spends : goal.returns-in-Ok-clause-spends
returns-in-Ok-clause-spends g c =
    let told = g.M.PageMaker.told in
    let before : MakerTold = told c.args.seat.now.maker in
    let after : MakerTold = told c.make_heap.new.seat.maker in
    grant_spends (laying_of g.terms before) before after c.args.live.now.items c.args.n c.requires.1.1.1.1.1.1.1.0 (Heap c.in-Ok.heap c.in-Ok.memory) c.in-Ok.ensures.spends.0 c.in-Ok.ensures.spends.1

pub returns-in-Err-clause-spends : goal.returns-in-Err-clause-spends
returns-in-Err-clause-spends g c =
    let told = g.M.PageMaker.told in
    let before : MakerTold = told c.args.seat.now.maker in
    refusal_spends (laying_of g.terms before) before (told c.make_heap.new.seat.maker) c.args.live.now.items c.in-Err.error c.in-Err.ensures.spends
