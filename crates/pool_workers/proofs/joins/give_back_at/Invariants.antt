use Rattle.pool_workers.proofs.joins.give_back_at.Given as goal

abbrev pub ghost-give_back : goal.ghost-give_back
ghost-give_back g a = g.job
