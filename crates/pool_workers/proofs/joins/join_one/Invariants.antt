use Rattle.pool_threads.specs.Sharing.{job_of}
use Rattle.pool_workers.proofs.joins.join_one.Given as goal

abbrev pub ghost-give_back_all : goal.ghost-give_back_all
ghost-give_back_all g a = job_of g.M.PageMaker.told g.all.input a.pool.now
