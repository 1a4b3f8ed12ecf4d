use Rattle.pool_table.specs.Stores.{StorePassed}
use Rattle.pool_table.specs.TableStates.{table_view}
use Rattle.pool_table.proofs.table.Table.tell_store.Given as goal

abbrev pub invariant-loop-index : goal.invariant-loop-index
invariant-loop-index g l = StorePassed g.G.GcStore.told g.G.GcStore.leads l.dst l.index l.val (table_view l.self).elements l.initial.store l.store
