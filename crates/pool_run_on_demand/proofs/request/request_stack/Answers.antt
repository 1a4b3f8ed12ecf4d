use Rattle.std.proofs.Common.{◌<◌, refl, subst, arith}
use Rattle.pool_run_on_demand.proofs.Imports.{MakerTold, Allocates, stack_refused, IsStackMade}
use Rattle.pool_run_on_demand.specs.Left.{laying_of}
use Rattle.pool_run_on_demand.specs.declared.grant.OnDemandGrant.TheVariants.{Stack}
use Rattle.pool_run_on_demand.proofs.Grants.{StackAnswer, stack_answered, stack_makes, stack_same}
use Rattle.pool_run_on_demand.proofs.Parties.{live_with}
use Rattle.pool_run_on_demand.proofs.Paid.{grant_spends, refusal_spends, stack_refusal_spends}
use Rattle.pool_run_on_demand.proofs.Spending.{same_spends}
use Rattle.pool_run_on_demand.proofs.request.request_stack.Goals as goal

pub returns-in-Ok-clause-makes : goal.returns-in-Ok-clause-makes
returns-in-Ok-clause-makes g c =
    let told = g.M.PageMaker.told in
    let page : 0 < (told c.args.seat.now.maker).page = omega (arith, c.get-page.ensures.valid.at_least, c.page.ensures) in
    let answered = stack_answered g.terms c.args.allocator.now (told c.args.seat.now.maker) (told c.allocate_fiber_stack.new.seat.maker) page c.requires.1.1.0 c.allocate_fiber_stack.result c.allocate_fiber_stack.ensures.made.0 in
    stack_makes g.terms c.args.n c.args.live.now.items c.in-Ok.lease c.index-slot.result c.index-slot.ensures (subst (StackAnswer g.terms) c.in-Ok.is answered)

pub returns-in-Ok-clause-held : goal.returns-in-Ok-clause-held
returns-in-Ok-clause-held g c = live_with g.terms.tells c.args.live.now.items c.args.n (Stack c.in-Ok.lease) tt c.requires.1.1.1.1

pub returns-in-Ok-clause-maker : goal.returns-in-Ok-clause-maker
returns-in-Ok-clause-maker g c = stack_same _ _ c.allocate_fiber_stack.result _ _ c.allocate_fiber_stack.ensures.made.1.0

pub returns-in-Err-clause-makes : goal.returns-in-Err-clause-makes
returns-in-Err-clause-makes g c =
    let told = g.M.PageMaker.told in
    let page : 0 < (told c.args.seat.now.maker).page = omega (arith, c.get-page.ensures.valid.at_least, c.page.ensures) in
    let answered = stack_answered g.terms c.args.allocator.now (told c.args.seat.now.maker) (told c.allocate_fiber_stack.new.seat.maker) page c.requires.1.1.0 c.allocate_fiber_stack.result c.allocate_fiber_stack.ensures.made.0 in
    (subst (StackAnswer g.terms) c.in-Err.is answered, refl)

pub returns-in-Err-clause-maker : goal.returns-in-Err-clause-maker
returns-in-Err-clause-maker g c = stack_same _ _ c.allocate_fiber_stack.result _ _ c.allocate_fiber_stack.ensures.made.1.0

pub returns-in-Ok-clause-spends : goal.returns-in-Ok-clause-spends
returns-in-Ok-clause-spends g c =
    let told = g.M.PageMaker.told in
    let before : MakerTold = told c.args.seat.now.maker in
    let after : MakerTold = told c.allocate_fiber_stack.new.seat.maker in
    let same = stack_same _ _ c.allocate_fiber_stack.result before after c.allocate_fiber_stack.ensures.made.1.0 in
    grant_spends (laying_of g.terms before) before after c.args.live.now.items c.args.n c.requires.1.1.1.0 (Stack c.in-Ok.lease) tt (same_spends before after 0 same)

pub returns-in-Err-clause-spends : goal.returns-in-Err-clause-spends
returns-in-Err-clause-spends g c =
    let told = g.M.PageMaker.told in
    let allocator = c.args.allocator.now in
    let before : MakerTold = told c.args.seat.now.maker in
    let after : MakerTold = told c.allocate_fiber_stack.new.seat.maker in
    let same = stack_same _ _ c.allocate_fiber_stack.result before after c.allocate_fiber_stack.ensures.made.1.0 in
    let is = subst (λ r. Allocates (stack_refused allocator.stack_size) (IsStackMade allocator.stack_size allocator.stack_zeroing before) r before after) c.in-Err.is c.allocate_fiber_stack.ensures.made.0 in
    refusal_spends (laying_of g.terms before) before after c.args.live.now.items c.in-Err.error (stack_refusal_spends allocator.stack_size (IsStackMade allocator.stack_size allocator.stack_zeroing before) c.in-Err.error before after same is)
