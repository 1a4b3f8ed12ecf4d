use Rattle.std.proofs.Common.{Option, Some, sym, ap, subst, refl}
use Rattle.pool_limits.specs.Growth.{GrowthLimits, GrowthRule, always, limited_by}
use Rattle.pool_run.specs.PartyRules.{growth_of, rule_of}
use Rattle.pool_run.specs.AtOnce.{GrowsUnder}
use Rattle.pool_run.specs.declared.input.PartyLimits.{PartyLimits}
use Rattle.pool_run.proofs.LeaseChanges.{grown_under}
use Rattle.pool_run.proofs.at_once.grow_its.Goals as goal

pub returns-in-None : goal.returns-in-None
returns-in-None g c =
    let Under : Option PartyLimits → Type 0 = λ o. GrowsUnder (rule_of o) c.args.pages c.args.lease.now c.grow.new.self c.grow.result in
    subst Under (sym c.in-None.is) (grown_under _ _ always c.args.pages c.args.lease.now c.grow.new.self _ _ c.grow.result c.grow.ensures refl)

pub returns-in-Some : goal.returns-in-Some
returns-in-Some g c =
    let rule : GrowthRule = limited_by (growth_of c.in-Some.limits) in
    let Under : Option PartyLimits → Type 0 = λ o. GrowsUnder (rule_of o) c.args.pages c.args.lease.now c.grow-in-Some.new.self c.grow-in-Some.result in
    subst Under (sym c.in-Some.is) (grown_under _ _ rule c.args.pages c.args.lease.now c.grow-in-Some.new.self _ _ c.grow-in-Some.result c.grow-in-Some.ensures (ap (λ (l : GrowthLimits). Some (limited_by l)) c.limiter_of-limiter.ensures))
