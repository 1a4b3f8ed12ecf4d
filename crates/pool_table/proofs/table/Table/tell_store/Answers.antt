use Rattle.pool_table.specs.TableStates.{table_view}
use Rattle.pool_table.proofs.Stored.{passed_none, passed_more}
use Rattle.pool_table.proofs.table.Table.tell_store.Goals as goal

pub loop-index-init : goal.loop-index-init
loop-index-init g c = passed_none g.G.GcStore.told g.G.GcStore.leads c.args.dst c.args.val (table_view c.args.self.now).elements c.args.store.now

pub loop-index-preserved : goal.loop-index-preserved
loop-index-preserved g c =
    passed_more g.G.GcStore.told g.G.GcStore.leads c.args.dst c.args.val (table_view c.args.self.now).elements c.loop-index.index c.gc_ref_at-old.result c.args.store.now c.loop-index.store c.write_gc_ref.new.self
    c.loop-index.invariant c.gc_ref_at-old.ensures c.in-Ok.ensures.call c.in-Ok.ensures.ok c.in-Ok.ensures.planned
