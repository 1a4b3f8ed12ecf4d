use Rattle.std.proofs.Common.{rules, ℕ, List, replicate, take, subst, arith, slice_index_or}
use Rattle.pool_run.specs.Schedules.{turns_of}
use Rattle.pool_run.specs.Watching.{Watches}
use Rattle.pool_run.specs.declared.input.ScheduleEntry.{ScheduleEntry}
use Rattle.pool_run.proofs.Following.{turns_more, turns_all}
use Rattle.pool_run.proofs.Watched.{watched_none, watched_on}
use Rattle.pool_run.proofs.schedule.follow.Goals as goal

pub loop-at-init : goal.loop-at-init
loop-at-init g c = record { watched = watched_none (g.W.Watcher.leads c.args.input.now) g.of.modules g.of.inputs c.args.run.now c.args.watcher.now; run = c.requires.1.1.1.0 }

pub repeat-requires : goal.repeat-requires
repeat-requires g c κs within =
    let none : ScheduleEntry = record { party = 0; times = 0 } in
    (search rules, (search rules, (search rules, (c.loop-at.invariant.run, c.requires.1.1.1.1 c.loop-at.at none c.loop-at-test.true))))

pub loop-at-preserved : goal.loop-at-preserved
loop-at-preserved g c =
    let i : ℕ = c.loop-at.at in
    let schedule : List ScheduleEntry = c.args.schedule.now in
    let none : ScheduleEntry = record { party = 0; times = 0 } in
    let entry : ScheduleEntry = slice_index_or schedule i none in
    let Of : List ℕ → Type 0 = λ turns. Watches (g.W.Watcher.leads c.args.input.now) g.of.modules g.of.inputs turns c.args.run.now c.repeat.new.run c.args.watcher.now c.repeat.new.watcher in
    record {
      watched =
          subst Of (turns_more schedule i none c.loop-at-test.true)
          (watched_on (g.W.Watcher.leads c.args.input.now) g.of.modules g.of.inputs (turns_of (take i schedule)) (replicate entry.times entry.party) c.args.run.now c.loop-at.run c.repeat.new.run c.args.watcher.now c.loop-at.watcher c.repeat.new.watcher c.loop-at.invariant.watched c.repeat.ensures.watched);
      run = c.repeat.ensures.run;
    }

pub returns-clause-watched : goal.returns-clause-watched
returns-clause-watched g c =
    let schedule : List ScheduleEntry = c.args.schedule.now in
    let Of : List ℕ → Type 0 = λ turns. Watches (g.W.Watcher.leads c.args.input.now) g.of.modules g.of.inputs turns c.args.run.now c.loop-at.run c.args.watcher.now c.loop-at.watcher in
    subst Of (turns_all schedule c.loop-at.at (omega (arith, c.loop-at-test.false))) c.loop-at.invariant.watched
