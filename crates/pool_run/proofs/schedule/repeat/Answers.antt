use Rattle.std.proofs.Common.{◌≡◌, ℕ, Bool, true, false, List, replicate, sym, subst, arith, slice_get, ◌∙◌}
use Rattle.pool_run.specs.Folds.{commands_of}
use Rattle.pool_run.specs.Watching.{Watches, has_nothing_left}
use Rattle.pool_run.specs.declared.command.Command.{Command}
use Rattle.pool_run.specs.declared.input.Party.{Party}
use Rattle.pool_run.proofs.Following.{commands_read}
use Rattle.pool_run.proofs.Watched.{watched_none, watched_more, watched_rested}
use Rattle.pool_run.proofs.schedule.repeat.Goals as goal

pub loop-turn-init : goal.loop-turn-init
loop-turn-init g c = record { watched = watched_none (g.W.Watcher.leads c.args.input.now) g.of.modules g.of.inputs c.args.run.now c.args.watcher.now; run = c.requires.1.1.1.0 }

pub loop-turn-preserved : goal.loop-turn-preserved
loop-turn-preserved g c =
    let i : ℕ = c.args.i in
    let same : c.as_slice-commands.result.now ≡ commands_of g.of.inputs i = c.as_slice-commands.ensures ∙ commands_read g.of.inputs c.args.input.now.parties c.as_slice-parties.result.now i c.index-parties-i.result c.requires.1.1.1.0.inputs c.as_slice-parties.ensures c.requires.1.1.1.1 in
    let Left : List Command → Type 0 = λ commands. has_nothing_left commands (slice_get c.loop-turn.run.parties i) ≡ false in
    record {
      watched = watched_more (g.W.Watcher.leads c.args.input.now) g.of.modules g.of.inputs i c.loop-turn.turn c.args.run.now c.loop-turn.run c.turn.new.self c.args.watcher.now c.loop-turn.watcher c.turn.new.watcher c.loop-turn.invariant.watched (subst Left same (sym c.has_nothing_left.ensures ∙ c.if-has_nothing_left.false)) c.turn.ensures.told;
      run = c.turn.ensures.run;
    }

pub returns-clause-watched : goal.returns-clause-watched
returns-clause-watched g c =
    let all : c.loop-turn.turn ≡ c.args.times = omega arith in
    let Of : ℕ → Type 0 = λ n. Watches (g.W.Watcher.leads c.args.input.now) g.of.modules g.of.inputs (replicate n c.args.i) c.args.run.now c.loop-turn.run c.args.watcher.now c.loop-turn.watcher in
    subst Of all c.loop-turn.invariant.watched

pub returns-then-has_nothing_left-clause-watched : goal.returns-then-has_nothing_left-clause-watched
returns-then-has_nothing_left-clause-watched g c =
    let i : ℕ = c.args.i in
    let same : c.as_slice-commands.result.now ≡ commands_of g.of.inputs i = c.as_slice-commands.ensures ∙ commands_read g.of.inputs c.args.input.now.parties c.as_slice-parties.result.now i c.index-parties-i.result c.requires.1.1.1.0.inputs c.as_slice-parties.ensures c.requires.1.1.1.1 in
    let Left : List Command → Type 0 = λ commands. has_nothing_left commands (slice_get c.loop-turn.run.parties i) ≡ true in
    watched_rested (g.W.Watcher.leads c.args.input.now) g.of.modules g.of.inputs i c.loop-turn.turn c.args.times c.args.run.now c.loop-turn.run c.args.watcher.now c.loop-turn.watcher (omega arith) c.loop-turn.invariant.watched (subst Left same (sym c.has_nothing_left.ensures ∙ c.if-has_nothing_left.true))
