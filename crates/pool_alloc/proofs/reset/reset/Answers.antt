use Rattle.std.proofs.Common.{rules}
use Rattle.pool_alloc.proofs.StepsAsRows.{nothing_told}
use Rattle.pool_alloc.proofs.reset.reset.Goals as goal

pub returns-in-Memory : goal.returns-in-Memory
returns-in-Memory g c = (record nothing_told { fault = c.reset_memory.ensures.0; slot = c.reset_memory.ensures.1 }, search rules, search rules, λ core. rw c.in-Memory.is (c.reset_memory.ensures.4 core))

pub returns-in-Table : goal.returns-in-Table
returns-in-Table g c = (nothing_told, rw c.in-Table.is c.reset_table.ensures.marks, search rules, λ core. rw c.in-Table.is (c.reset_table.ensures.row core))

pub returns-in-Stack : goal.returns-in-Stack
returns-in-Stack g c = (nothing_told, search rules, search rules, λ core. rw c.in-Stack.is (c.reset_stack.ensures core))
