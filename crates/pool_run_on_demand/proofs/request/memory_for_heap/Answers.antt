use Rattle.std.proofs.Common.{Option, Some, None, refl, sym, subst}
use Rattle.pool_run_on_demand.proofs.Imports.{MemoryTunables, limiter_told, default_design, default_refusal, Stage, IsMemoryTurn, if_leads, lent}
use Rattle.pool_run_on_demand.specs.Left.{laid_for_heap, laying_of}
use Rattle.pool_run_on_demand.proofs.Heaps.{heap_memory_answered, heap_settings}
use Rattle.pool_run_on_demand.proofs.Paid.{turn_paid}
use Rattle.pool_run_on_demand.proofs.request.memory_for_heap.Goals as goal

pub returns-clause-answer : goal.returns-clause-answer
returns-clause-answer g c =
    let told = g.M.PageMaker.told in
    let t = g.terms in
    let result = c.allocate_memory.result in
    let from : Stage (Option g.row.R.Denot) = record { maker = told c.args.seat.now.maker; limiter = Some c.args.limiter.now } in
    let to : Stage (Option g.row.R.Denot) = record { maker = told c.allocate_memory.new.seat.maker; limiter = lent c.allocate_memory.new.request.limiter } in
    let limited = limiter_told g.R.ResourceLimiter.told in
    let leads = if_leads g.R.ResourceLimiter.leads in
    let Turn : MemoryTunables → Type 0 = λ s. IsMemoryTurn limited leads (λ page x tunables minimum y. default_refusal page tunables minimum) (λ page x tunables minimum maximum. Some (default_design page tunables minimum maximum)) s None c.args.ty.now result from to in
    heap_memory_answered t limited leads _ _ c.args.ty.now from to c.requires.1.1.1.1.1.0 c.requires.1.1.1.0.pages c.requires.1.1.1.1.1.1.0 result (subst Turn (sym (heap_settings t c.args.tunables.now c.requires.1.1.1.1.0)) c.allocate_memory.ensures.made.0)

pub returns-clause-maker : goal.returns-clause-maker
returns-clause-maker g c = c.allocate_memory.ensures.made.0.maker

pub returns-clause-spends : goal.returns-clause-spends
returns-clause-spends g c =
    let told = g.M.PageMaker.told in
    let t = g.terms in
    let result = c.allocate_memory.result in
    let from : Stage (Option g.row.R.Denot) = record { maker = told c.args.seat.now.maker; limiter = Some c.args.limiter.now } in
    let to : Stage (Option g.row.R.Denot) = record { maker = told c.allocate_memory.new.seat.maker; limiter = lent c.allocate_memory.new.request.limiter } in
    let limited = limiter_told g.R.ResourceLimiter.told in
    let leads = if_leads g.R.ResourceLimiter.leads in
    let Turn : MemoryTunables → Type 0 = λ s. IsMemoryTurn limited leads (λ page x tunables minimum y. default_refusal page tunables minimum) (λ page x tunables minimum maximum. Some (default_design page tunables minimum maximum)) s None c.args.ty.now result from to in
    let turn = subst Turn (sym (heap_settings t c.args.tunables.now c.requires.1.1.1.1.0)) c.allocate_memory.ensures.made.0 in
    turn_paid limited leads _ _ (laid_for_heap (laying_of t from.maker)) None c.args.ty.now result from to (c.requires.1.1.1.0.pages.page, refl) turn
