use Rattle.pool_run_on_demand.proofs.request.request_on_demand.Given as goal

abbrev pub ghost-request : goal.ghost-request
ghost-request g a = g.terms
