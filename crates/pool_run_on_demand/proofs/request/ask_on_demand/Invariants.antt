use Rattle.pool_run_on_demand.proofs.request.ask_on_demand.Given as goal

abbrev pub ghost-request_on_demand : goal.ghost-request_on_demand
ghost-request_on_demand g a = g.terms

abbrev pub ghost-request_stack : goal.ghost-request_stack
ghost-request_stack g a = g.terms

abbrev pub ghost-request_heap : goal.ghost-request_heap
ghost-request_heap g a = g.terms
