use Rattle.pool_callers.specs.Callers.{about_shared}
use Rattle.pool_workers.specs.Joined.{shared_by}
use Rattle.pool_workers.proofs.threads.run_over.Given as goal

abbrev pub ghost-side_by_side : goal.ghost-side_by_side
ghost-side_by_side g a = shared_by a.input.now a.modules.now

abbrev pub ghost-close : goal.ghost-close
ghost-close g a = about_shared g.M.PageMaker.told a.self.pool
