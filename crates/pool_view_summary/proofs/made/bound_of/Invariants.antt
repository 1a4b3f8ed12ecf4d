use Rattle.pool_alloc.specs.StepBounds.{sizes_of}
use Rattle.pool_view_summary.proofs.made.bound_of.Given as goal

abbrev pub ghost-bound_in : goal.ghost-bound_in
ghost-bound_in g a = sizes_of a.run.now.core.settings a.run.now.core.plan
