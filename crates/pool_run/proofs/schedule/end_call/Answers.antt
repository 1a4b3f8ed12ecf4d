use Rattle.std.proofs.Common.{length, refl, sym, ◌∙◌, arith, slice_get}
use Rattle.pool_run.specs.Folds.{commands_of}
use Rattle.pool_run.proofs.Finishing.{none_begins}
use Rattle.pool_run.proofs.Watched.{busy_has_left, some_none, some_more}
use Rattle.pool_run.proofs.schedule.end_call.Goals as goal

pub loop-alloc-init : goal.loop-alloc-init
loop-alloc-init g c = record { watched = some_none (g.W.Watcher.leads c.args.input.now) g.of.modules g.of.inputs c.args.i c.args.run.now c.args.watcher.now; run = c.requires.1.1.1.0; begun = refl }

pub loop-alloc-preserved : goal.loop-alloc-preserved
loop-alloc-preserved g c =
    let busy = sym c.is_busy.ensures ∙ c.loop-alloc-test.true in
    let none = none_begins (length (commands_of g.of.inputs c.args.i)) (slice_get c.loop-alloc.run.parties c.args.i) busy in
    let left = busy_has_left (commands_of g.of.inputs c.args.i) (slice_get c.loop-alloc.run.parties c.args.i) busy in
    record {
      watched = some_more (g.W.Watcher.leads c.args.input.now) g.of.modules g.of.inputs c.args.i c.args.run.now c.loop-alloc.run c.turn.new.self c.args.watcher.now c.loop-alloc.watcher c.turn.new.watcher c.loop-alloc.invariant.watched left c.turn.ensures.told;
      run = c.turn.ensures.run;
      begun = omega (arith, c.turn.ensures.advances.begun, c.loop-alloc.invariant.begun, none);
    }
