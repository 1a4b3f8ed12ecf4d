use Rattle.std.proofs.Common.{rules, ◌≡◌, length, ap, ◌∙◌, sym, arith}
use Rattle.pool_run.specs.Folds.{RunState, told_state}
use Rattle.pool_run.specs.RunsMade.{nothing_told, parties_made}
use Rattle.pool_run.specs.declared.input.Party.{Party}
use Rattle.pool_run.proofs.InputsRun.{made_run, is_run_of, is_watched_run}
use Rattle.pool_run.proofs.run_input.run_over.Goals as goal

pub new-requires : goal.new-requires
new-requires g c =
    let P : Type 0 = g.row.P.Denot in
    record { parties = c.requires.1.1.1.0.parties ∙ ap (parties_made {P = P} c.args.run.core.settings) (sym c.as_slice-parties.ensures) }

pub perform-requires : goal.perform-requires
perform-requires g c κs within =
    let P : Type 0 = g.row.P.Denot in
    let s : RunState P = c.in_ok-told.told in
    let made : s ≡ told_state c.args.run (nothing_told c.args.input.now.parties) = made_run c.args.input.now c.args.run c.as_slice-parties.result.now s c.as_slice-parties.ensures c.in_ok-told.ensures in
    (search rules, (search rules, (search rules, (is_run_of c.args.input.now g.maker c.args.run s (record { built = c.requires.1.1.1.1.0; rules = c.requires.1.1.1.1.1.1.0; page = c.requires.1.1.1.1.1.1.1 }) c.requires.1.1.1.1.1.0 c.requires.1.1.1.0 made, c.requires.1.1.1.1.1.0))))

pub output_of-requires-clause-room : goal.output_of-requires-clause-room
output_of-requires-clause-room g c = omega (arith, c.perform.ensures.run.way.told, c.perform.ensures.run.parties, ap (length {A = Party}) c.as_slice-parties.ensures, c.in_ok-lists.ensures.capacity)

pub returns-clause-watched : goal.returns-clause-watched
returns-clause-watched g c =
    let P : Type 0 = g.row.P.Denot in
    let s : RunState P = c.in_ok-told.told in
    let made : s ≡ told_state c.args.run (nothing_told c.args.input.now.parties) = made_run c.args.input.now c.args.run c.as_slice-parties.result.now s c.as_slice-parties.ensures c.in_ok-told.ensures in
    is_watched_run (g.W.Watcher.leads c.args.input.now) c.args.input.now g.maker c.args.run s c.perform.new.run c.output_of.result c.args.watcher.now c.perform.new.watcher (record { built = c.requires.1.1.1.1.0; rules = c.requires.1.1.1.1.1.1.0; page = c.requires.1.1.1.1.1.1.1 }) c.requires.1.1.1.0 made c.perform.ensures.watched c.output_of.ensures.replies c.output_of.ensures.metrics c.output_of.ensures.calls
