use Rattle.std.proofs.Common.{◌≡◌, false, sym, subst}
use Rattle.pool_pages.specs.FailingTold.{Listed, lets_through}
use Rattle.pool_pages.proofs.ListedCalls.{refused_listed}
use Rattle.pool_pages.proofs.listed_calls.ListedCalls.refuse.Goals as goal

pub invariant_of-self : goal.invariant_of-self
invariant_of-self c =
    refused_listed c.self.inside.plan c.reach.new.self c.args.kind c.args.len c.self.inside.counts c.after-self-inside.result c.reach.ensures c.after-self-inside.ensures
    (subst (λ (l : Listed). lets_through l.listed l.counts.made c.args.len ≡ false) (sym c.self.view_is) c.requires)
    c.self.invariant
