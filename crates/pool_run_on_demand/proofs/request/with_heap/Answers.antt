use Rattle.std.proofs.Common.{Ok, Err, refl}
use Rattle.pool_run_on_demand.proofs.Heaps.{heap_turned}
use Rattle.pool_run_on_demand.proofs.request.with_heap.Goals as goal

pub returns-in-Ok-clause-made : goal.returns-in-Ok-clause-made
returns-in-Ok-clause-made g c =
    let turned = heap_turned _ _ _ _ (Ok c.in-Ok.heap) c.args.heaps.now c.allocate_gc_heap.new.heaps c.in-Ok.ensures.turn in
    (c.in-Ok.ensures.turn.heap.0, (refl, (turned.ok, turned.made)))

pub returns-in-Ok-clause-failing : goal.returns-in-Ok-clause-failing
returns-in-Ok-clause-failing g c = let turned = heap_turned _ _ _ _ (Ok c.in-Ok.heap) c.args.heaps.now c.allocate_gc_heap.new.heaps c.in-Ok.ensures.turn in turned.failing

pub returns-in-Err-clause-unmade : goal.returns-in-Err-clause-unmade
returns-in-Err-clause-unmade g c =
    let turned = heap_turned _ _ _ _ (Err c.in-Err.error) c.args.heaps.now c.allocate_gc_heap.new.heaps c.in-Err.ensures.turn in
    (turned.err.0, (turned.err.1, turned.made))

pub returns-in-Err-clause-failing : goal.returns-in-Err-clause-failing
returns-in-Err-clause-failing g c = let turned = heap_turned _ _ _ _ (Err c.in-Err.error) c.args.heaps.now c.allocate_gc_heap.new.heaps c.in-Err.ensures.turn in turned.failing
