use Rattle.std.proofs.Common.{◌≡◌, Option, None, sym, ap, ◌∙◌}
use Rattle.pool_types.specs.declared.unsupported.Unsupported.{Unsupported}
use Rattle.pool_alloc.specs.Refusals.{module_refused}
use Rattle.pool_alloc.specs.StepReads.{info_wanted, under}
use Rattle.pool_alloc.specs.StepTable.{validated}
use Rattle.pool_alloc.specs.Turns.{stepped}
use Rattle.pool_alloc.specs.declared.frame.Phase.TheVariants.{CountInstance}
use Rattle.pool_alloc.proofs.validate.validate.Goals as goal

pub returns-in-None : goal.returns-in-None
returns-in-None g c =
    let wants = c.reserve_grants.ensures.0 in
    let none : None ≡ module_refused c.args.settings.now c.args.plan.now.totals.table (info_wanted c.args.frame.now.asked) = sym c.in-None.is ∙ c.asked_refused.ensures in (
      wants,
      λ core.
          c.reserve_grants.ensures.1 (under c.args.settings.now c.args.plan.now core)
          ∙ ap (λ (o : Option Unsupported). stepped (validated o wants CountInstance (under c.args.settings.now c.args.plan.now core) c.args.frame.now)) none,
    )
