use Rattle.pool_run_on_demand.proofs.request.request.Given as goal

abbrev pub ghost-allocate : goal.ghost-allocate
ghost-allocate g a = g.terms

abbrev pub ghost-allocate-2 : goal.ghost-allocate-2
ghost-allocate-2 g a = g.terms
