use Rattle.std.proofs.Common.{Bool, sym, ap, ◌∙◌}
use Rattle.pool_alloc.specs.StepReads.{under}
use Rattle.pool_alloc.specs.StepTable.{heaps_tested}
use Rattle.pool_alloc.specs.Turns.{stepped}
use Rattle.pool_alloc.proofs.gc_heap_pool.test_heap.Goals as goal

pub returns : goal.returns
returns g c = (
  c.test_memory.ensures.0,
  λ core.
      c.test_memory.ensures.1 core
      ∙ ap (λ (b : Bool). stepped (heaps_tested b c.test_memory.ensures.0 (under c.args.settings.now core.plan core) c.args.frame.now)) (sym c.if-not-settings.false),
)
