use Rattle.std.proofs.Common.{◌≡◌, Option, None, sym, ap, ◌∙◌}
use Rattle.pool_types.specs.declared.unsupported.Unsupported.{Unsupported}
use Rattle.pool_alloc.specs.Refusals.{heap_refused}
use Rattle.pool_alloc.specs.StepReads.{under}
use Rattle.pool_alloc.specs.StepTable.{validated}
use Rattle.pool_alloc.specs.Turns.{stepped}
use Rattle.pool_alloc.specs.declared.frame.Phase.TheVariants.{Pick}
use Rattle.pool_alloc.proofs.gc_heap_pool.test_type.Goals as goal

pub returns-in-None : goal.returns-in-None
returns-in-None g c =
    let wants = c.reserve_grants.ensures.0 in
    let none : None ≡ heap_refused c.args.settings.now c.args.frame.now.asked = sym c.in-None.is ∙ c.heap_refused.ensures in (
      wants,
      λ core.
          c.reserve_grants.ensures.1 (under c.args.settings.now core.plan core)
          ∙ ap (λ (o : Option Unsupported). stepped (validated o wants (Pick 0) (under c.args.settings.now core.plan core) c.args.frame.now)) none,
    )
