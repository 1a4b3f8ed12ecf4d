use Rattle.std.proofs.Common.{Option, Some, sym, ap, subst, refl}
use Rattle.pool_run_on_demand.proofs.Imports.{GrowthLimits, limited_by, state_of, rule_of, PartyLimits}
use Rattle.pool_run_on_demand.specs.Seen.{GrowsByRule}
use Rattle.pool_run_on_demand.proofs.act.grow.Goals as goal

pub returns-in-None-clause-growth : goal.returns-in-None-clause-growth
returns-in-None-clause-growth g c =
    let told = g.M.PageMaker.told in
    let Under : Option PartyLimits → Type 0 = λ o. GrowsByRule (rule_of o) c.args.pages (state_of c.args.memory.now) (state_of c.grow.new.self) (told c.args.maker.now) (told c.grow.new.maker) c.grow.result in
    let m = c.grow.ensures.maker in
    subst Under (sym c.in-None.is) (m.0, _, _, refl, m.1.0, m.1.1.1)

pub returns-in-Some-clause-growth : goal.returns-in-Some-clause-growth
returns-in-Some-clause-growth g c =
    let told = g.M.PageMaker.told in
    let Under : Option PartyLimits → Type 0 = λ o. GrowsByRule (rule_of o) c.args.pages (state_of c.args.memory.now) (state_of c.grow-in-Some.new.self) (told c.args.maker.now) (told c.grow-in-Some.new.maker) c.grow-in-Some.result in
    let m = c.grow-in-Some.ensures.maker in
    subst Under (sym c.in-Some.is) (m.0, _, _, ap (λ (l : GrowthLimits). Some (limited_by l)) c.limiter_of-limiter.ensures, m.1.0, m.1.1.1)
