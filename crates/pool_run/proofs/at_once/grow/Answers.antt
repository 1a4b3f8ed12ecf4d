use Rattle.std.proofs.Common.{Option, Some, sym, ap, subst, refl}
use Rattle.pool_run.proofs.Imports.{GrowthLimits, GrowthRule, always, limited_by, IsChanged}
use Rattle.pool_run.specs.PartyRules.{growth_of, rule_of}
use Rattle.pool_run.specs.AtOnce.{GrowsUnder}
use Rattle.pool_run.specs.declared.input.PartyLimits.{PartyLimits}
use Rattle.pool_run.proofs.LeaseChanges.{grown_under}
use Rattle.pool_run.proofs.at_once.grow.Goals as goal

pub returns-in-None : goal.returns-in-None
returns-in-None g c =
    let Under : Option PartyLimits → Type 0 = λ o. IsChanged (λ l n. GrowsUnder (rule_of o) c.args.pages l n c.grow.result) c.args.memory c.args.memories.now c.grow.new.self in
    subst Under (sym c.in-None.is)
    (record {
      lease = c.grow.ensures.lease;
      change = λ d. grown_under _ _ always c.args.pages _ c.grow.ensures.lease _ _ c.grow.result (c.grow.ensures.change d) refl;
      is = c.grow.ensures.is;
    })

pub returns-in-Some : goal.returns-in-Some
returns-in-Some g c =
    let rule : GrowthRule = limited_by (growth_of c.in-Some.limits) in
    let Under : Option PartyLimits → Type 0 = λ o. IsChanged (λ l n. GrowsUnder (rule_of o) c.args.pages l n c.grow-in-Some.result) c.args.memory c.args.memories.now c.grow-in-Some.new.self in
    subst Under (sym c.in-Some.is)
    (record {
      lease = c.grow-in-Some.ensures.lease;
      change = λ d. grown_under _ _ rule c.args.pages _ c.grow-in-Some.ensures.lease _ _ c.grow-in-Some.result (c.grow-in-Some.ensures.change d) (ap (λ (l : GrowthLimits). Some (limited_by l)) c.limiter_of-limiter.ensures);
      is = c.grow-in-Some.ensures.is;
    })
