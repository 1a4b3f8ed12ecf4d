use Rattle.pool_run.proofs.InputsRun.{background}
use Rattle.pool_run.proofs.run_input.run_over.Given as goal

abbrev pub ghost-perform : goal.ghost-perform
ghost-perform g a = background a.input.now g.maker a.run.now
