use Rattle.std.proofs.Common.{rules, ℕ, ◌+◌, List, [], take, refl, ◌∙◌, subst, arith, slice_index_or}
use Rattle.pool_run_on_demand.proofs.Imports.{turns_of, ScheduleEntry, turns_more, turns_all}
use Rattle.pool_run_on_demand.specs.Runs.{HaveStepped, steps_in}
use Rattle.pool_run_on_demand.proofs.Folding.{followed, stepped_none}
use Rattle.pool_run_on_demand.proofs.run.follow.Goals as goal

pub loop-at-init : goal.loop-at-init
loop-at-init g c = record {
  parties = c.requires.1.1.1.1.0;
  borrows = refl;
  stepped = stepped_none c.args.input.now g.common (g.M.PageMaker.told c.args.seat.now.maker) (steps_in []) c.args.parties.now.items c.requires.1.1.1.1.0 (λ j. refl);
}

pub repeat-requires : goal.repeat-requires
repeat-requires g c κs within =
    let none : ScheduleEntry = record { party = 0; times = 0 } in
    (search rules, (search rules, (c.requires.1.1.0, (c.requires.1.1.1.0, (c.loop-at.invariant.parties, c.requires.1.1.1.1.1 c.loop-at.at none c.loop-at-test.true)))))

pub loop-at-preserved : goal.loop-at-preserved
loop-at-preserved g c =
    let i : ℕ = c.loop-at.at in
    let schedule : List ScheduleEntry = c.args.schedule.now in
    let none : ScheduleEntry = record { party = 0; times = 0 } in
    let entry : ScheduleEntry = slice_index_or schedule i none in
    record {
      parties = c.repeat.ensures.parties;
      borrows = c.repeat.ensures.borrows ∙ c.loop-at.invariant.borrows;
      stepped = followed c.args.input.now (turns_of (take i schedule)) (turns_of (take (i + 1) schedule)) entry.party entry.times c.args.parties.now.items c.loop-at.parties.items c.repeat.new.parties.items (turns_more schedule i none c.loop-at-test.true) c.loop-at.invariant.stepped c.repeat.ensures.stepped;
    }

pub returns-clause-stepped : goal.returns-clause-stepped
returns-clause-stepped g c =
    let schedule : List ScheduleEntry = c.args.schedule.now in
    let F : List ℕ → Type 0 = λ turns. HaveStepped c.args.input.now (steps_in turns) c.args.parties.now.items c.loop-at.parties.items in
    subst F (turns_all schedule c.loop-at.at (omega (arith, c.loop-at-test.false))) c.loop-at.invariant.stepped
