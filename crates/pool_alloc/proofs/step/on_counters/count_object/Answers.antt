use Rattle.pool_alloc.proofs.step.on_counters.count_object.Goals as goal

pub returns-in-Memory : goal.returns-in-Memory
returns-in-Memory g c = rw c.in-Memory.is c.count_memory.ensures

pub returns-in-Table : goal.returns-in-Table
returns-in-Table g c = rw c.in-Table.is c.count_table.ensures

pub returns-in-Stack : goal.returns-in-Stack
returns-in-Stack g c = rw c.in-Stack.is c.count_stack.ensures
