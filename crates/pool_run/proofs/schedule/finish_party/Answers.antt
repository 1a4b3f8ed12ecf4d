use Rattle.std.proofs.Common.{rules, ◌≡◌, ℕ, ◌<◌, ◌≤◌, List, length, ap, ◌∙◌, arith, slice_get}
use Rattle.pool_index.specs.Shard.{one_if}
use Rattle.pool_run.specs.Folds.{commands_of}
use Rattle.pool_run.specs.Progress.{commands_done, begins_call}
use Rattle.pool_run.specs.declared.command.Command.{Command}
use Rattle.pool_run.specs.declared.input.Party.{Party}
use Rattle.pool_run.proofs.Finishing.{BeginsNext, begins_there, nothing_is_left}
use Rattle.pool_run.proofs.Following.{commands_read}
use Rattle.pool_run.proofs.Watched.{more_has_left, some_on}
use Rattle.pool_run.proofs.schedule.finish_party.Goals as goal

pub loop-alloc-init : goal.loop-alloc-init
loop-alloc-init g c =
    let q : Party = c.index-parties-i.result in
    record {
      watched = c.end_call.ensures.watched;
      run = c.end_call.ensures.run;
      idle = c.end_call.ensures.idle;
      count = c.len-count.ensures ∙ ap (length {A = Command}) (commands_read g.of.inputs c.args.input.now.parties c.as_slice-parties.result.now c.args.i q c.requires.1.1.1.0.inputs c.as_slice-parties.ensures c.requires.1.1.1.1);
    }

pub next_call-requires : goal.next_call-requires
next_call-requires g c κs within =
    let commands : List Command = commands_of g.of.inputs c.args.i in
    let left = more_has_left commands (slice_get c.loop-alloc.run.parties c.args.i) (omega (arith, c.done.ensures, c.loop-alloc-test.true, c.loop-alloc.invariant.count)) in
    (search rules, (search rules, (search rules, (c.loop-alloc.invariant.run, (c.requires.1.1.1.1, left)))))

pub loop-alloc-smaller : goal.loop-alloc-smaller
loop-alloc-smaller g c =
    let i : ℕ = c.args.i in
    let count : ℕ = length (commands_of g.of.inputs i) in
    let below : i < length c.loop-alloc.run.parties = omega (arith, c.loop-alloc.invariant.run.parties, c.requires.1.1.1.1) in
    let more : commands_done (slice_get c.loop-alloc.run.parties i) < count = omega (arith, c.done.ensures, c.loop-alloc-test.true, c.loop-alloc.invariant.count) in
    let next : BeginsNext count (slice_get c.loop-alloc.run.parties i) = begins_there count i c.loop-alloc.run below c.loop-alloc.invariant.idle more in
    let one : one_if (begins_call count (slice_get c.loop-alloc.run.parties i)) ≡ 1 = ap one_if next.next in
    omega (arith, c.next_call.ensures.begun, one, next.few, c.loop-alloc.invariant.count)

pub loop-alloc-preserved : goal.loop-alloc-preserved
loop-alloc-preserved g c = record {
  watched = some_on (g.W.Watcher.leads c.args.input.now) g.of.modules g.of.inputs c.args.i c.args.run.now c.loop-alloc.run c.next_call.new.run c.args.watcher.now c.loop-alloc.watcher c.next_call.new.watcher c.loop-alloc.invariant.watched c.next_call.ensures.watched;
  run = c.next_call.ensures.run;
  idle = c.next_call.ensures.idle;
  count = c.loop-alloc.invariant.count;
}

pub returns-clause-finished : goal.returns-clause-finished
returns-clause-finished g c =
    let commands : List Command = commands_of g.of.inputs c.args.i in
    let all : length commands ≤ commands_done (slice_get c.loop-alloc.run.parties c.args.i) = omega (arith, c.done.ensures, c.loop-alloc-test.false, c.loop-alloc.invariant.count) in
    nothing_is_left commands (slice_get c.loop-alloc.run.parties c.args.i) c.loop-alloc.invariant.idle all
