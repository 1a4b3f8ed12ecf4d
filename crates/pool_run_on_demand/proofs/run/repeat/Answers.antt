use Rattle.std.proofs.Common.{rules, ◌≡◌, ℕ, ◌-◌, length, min, refl, ap, ◌∙◌, subst, arith, slice_index_or}
use Rattle.pool_run_on_demand.proofs.Imports.{commands_of, commands_in, Command, Party, commands_read}
use Rattle.pool_run_on_demand.specs.Runs.{HaveStepped, steps_of}
use Rattle.pool_run_on_demand.proofs.Folding.{repeated, stepped_all, stepped_none, steps_none}
use Rattle.pool_run_on_demand.proofs.run.repeat.Goals as goal

pub loop-turn-init : goal.loop-turn-init
loop-turn-init g c = record {
  parties = c.requires.1.1.1.1.0;
  borrows = refl;
  stepped = stepped_none c.args.input.now g.common (g.M.PageMaker.told c.args.seat.now.maker) (steps_of c.args.i 0) c.args.parties.now.items c.requires.1.1.1.1.0 (steps_none c.args.i);
}

pub step-requires : goal.step-requires
step-requires g c κs within =
    (search rules, (search rules, (c.requires.1.1.0, (c.requires.1.1.1.0, (c.loop-turn.invariant.parties, c.requires.1.1.1.1.1)))))

pub loop-turn-preserved : goal.loop-turn-preserved
loop-turn-preserved g c =
    record {
      parties = c.step.ensures.parties;
      borrows = c.step.ensures.borrows ∙ c.loop-turn.invariant.borrows;
      stepped = repeated c.args.input.now c.args.i c.loop-turn.turn c.args.parties.now.items c.loop-turn.parties.items c.step.new.parties.items c.loop-turn.invariant.stepped c.step.ensures.stepped;
    }

pub returns-clause-stepped : goal.returns-clause-stepped
returns-clause-stepped g c =
    let i : ℕ = c.args.i in
    let input = c.args.input.now in
    let parties = c.args.parties.now.items in
    let q : Party = c.index-given-i.result in
    let p = c.index.result.now in
    let there : p ≡ slice_index_or parties i p = c.index.ensures in
    let count : c.len-count.result ≡ length (commands_of (commands_in input.parties) i) = c.len-count.ensures ∙ ap (length {A = Command}) (commands_read (commands_in input.parties) input.parties c.as_slice-given.result.now i q refl c.as_slice-given.ensures c.requires.1.1.1.1.1) in
    let told : c.len-told.result ≡ length p.told.items = c.len-told.ensures in
    let left : c.saturating_sub-left.result ≡ length (commands_of (commands_in input.parties) i) - length p.told.items = c.saturating_sub-left.ensures ∙ (λ j. count j - told j) in
    let all : c.loop-turn.turn ≡ c.min-turns.result = omega arith in
    let F : ℕ → Type 0 = λ n. HaveStepped input (steps_of i n) parties c.loop-turn.parties.items in
    stepped_all input i c.min-turns.result c.args.times p parties c.loop-turn.parties.items (omega (arith, c.requires.1.1.1.1.0.count, c.requires.1.1.1.1.1)) there (c.min-turns.ensures ∙ ap (min c.args.times) left) (subst F all c.loop-turn.invariant.stepped)
