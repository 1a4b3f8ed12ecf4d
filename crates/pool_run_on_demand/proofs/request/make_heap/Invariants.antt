use Rattle.pool_run_on_demand.proofs.request.make_heap.Given as goal

abbrev pub ghost-heap_memory : goal.ghost-heap_memory
ghost-heap_memory g a = g.terms
