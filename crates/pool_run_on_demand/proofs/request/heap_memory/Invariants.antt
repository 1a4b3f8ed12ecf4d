use Rattle.pool_run_on_demand.proofs.request.heap_memory.Given as goal

abbrev pub ghost-memory_for_heap : goal.ghost-memory_for_heap
ghost-memory_for_heap g a = g.terms

abbrev pub ghost-memory_for_heap-2 : goal.ghost-memory_for_heap-2
ghost-memory_for_heap-2 g a = g.terms
