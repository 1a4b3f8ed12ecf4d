use Rattle.pool_run.proofs.told_run.ToldRun.page_calls.Goals as goal

pub returns : goal.returns
returns g c = rw (← c.self.view_is) c.page_calls.ensures
