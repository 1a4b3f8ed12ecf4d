use Rattle.pool_threads.specs.Sharing.{job_of}
use Rattle.pool_threads.proofs.party.run_party.Given as goal

abbrev pub ghost-run_numbered : goal.ghost-run_numbered
ghost-run_numbered g a = job_of g.M.PageMaker.told a.input.now a.pool.now
