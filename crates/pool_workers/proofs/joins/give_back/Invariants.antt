use Rattle.pool_threads.specs.Working.{given_by}
use Rattle.pool_workers.proofs.joins.give_back.Given as goal

abbrev pub ghost-finish_call : goal.ghost-finish_call
ghost-finish_call g a = given_by g.job a.party.now.live
