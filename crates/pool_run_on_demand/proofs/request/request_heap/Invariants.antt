use Rattle.pool_run_on_demand.proofs.request.request_heap.Given as goal

abbrev pub ghost-make_heap : goal.ghost-make_heap
ghost-make_heap g a = g.terms
