use Rattle.std.proofs.Common.{rules, ◌≡◌, ℕ, ◌<◌, List, length, refl, ap, ◌∙◌, subst, arith}
use Rattle.pool_run_on_demand.proofs.Imports.{commands_of, commands_in, Command, Party, commands_read}
use Rattle.pool_run_on_demand.specs.Runs.{HaveAll, HaveStepped, steps_of}
use Rattle.pool_run_on_demand.proofs.Folding.{finished}
use Rattle.pool_run_on_demand.proofs.run.finish.Goals as goal

pub loop-i-init : goal.loop-i-init
loop-i-init g c = record {
  parties = c.requires.1.1.1.1;
  borrows = refl;
  all = λ j d below. absurd (omega (arith, below));
  given = c.as_slice-given.ensures;
}

pub repeat-requires : goal.repeat-requires
repeat-requires g c κs within =
    let below : c.loop-i.i < length c.args.input.now.parties = omega (arith, c.loop-i-test.true, ap (λ (ps : List Party). length ps) c.loop-i.invariant.given) in
    (search rules, (search rules, (c.requires.1.1.0, (c.requires.1.1.1.0, (c.loop-i.invariant.parties, below)))))

pub returns-clause-all : goal.returns-clause-all
returns-clause-all g c =
    let all : c.loop-i.i ≡ length c.args.input.now.parties = omega (arith, ap (λ (ps : List Party). length ps) c.loop-i.invariant.given) in
    let F : ℕ → Type 0 = λ n. HaveAll c.args.input.now n c.loop-i.parties.items in
    subst F all c.loop-i.invariant.all

pub loop-i-preserved : goal.loop-i-preserved
loop-i-preserved g c =
    let input = c.args.input.now in
    let i : ℕ = c.loop-i.i in
    let q : Party = c.index-given-i.result in
    let below : i < length input.parties = omega (arith, c.loop-i-test.true, ap (λ (ps : List Party). length ps) c.loop-i.invariant.given) in
    let same : c.as_slice-commands.result.now ≡ commands_of (commands_in input.parties) i = c.as_slice-commands.ensures ∙ commands_read (commands_in input.parties) input.parties c.as_slice-given.result.now i q refl c.loop-i.invariant.given below in
    let Stepped : List Command → Type 0 = λ cs. HaveStepped input (steps_of i (length cs)) c.loop-i.parties.items c.repeat.new.parties.items in
    record {
      parties = c.repeat.ensures.parties;
      borrows = c.repeat.ensures.borrows ∙ c.loop-i.invariant.borrows;
      all = finished input i c.loop-i.parties.items c.repeat.new.parties.items below c.loop-i.invariant.all (subst Stepped same c.repeat.ensures.stepped);
      given = c.loop-i.invariant.given;
    }
