use Rattle.std.proofs.Common.{rules, ◌≡◌, ℕ, ◌+◌, ◌<◌, List, length, refl, sym, ap, ◌∙◌, subst, arith, slice_index_or}
use Rattle.pool_run_on_demand.proofs.Imports.{commands_of, host_for, commands_in, Command, Party, commands_there}
use Rattle.pool_run_on_demand.specs.Runs.{party_terms, IsPartyOnDemand}
use Rattle.pool_run_on_demand.proofs.Folding.{AreBegun, begun_more, begun_are, begun_told, hosted}
use Rattle.pool_run_on_demand.proofs.run.make_parties.Goals as goal

pub loop-at-preserved : goal.loop-at-preserved
loop-at-preserved g c =
    let input = c.args.input.now in
    let i : ℕ = c.loop-at.at in
    let xs : List Party = c.as_slice-parties.result.now in
    let x : Party = c.index-parties-at.result in
    let all : xs ≡ input.parties = c.loop-at.invariant.all in
    let below : i < length input.parties = omega (arith, c.loop-at-test.true, ap (λ (ps : List Party). length ps) all) in
    let here : x ≡ slice_index_or xs i x = search rules in
    let is : x ≡ slice_index_or input.parties i x = here ∙ ap (λ (ps : List Party). slice_index_or ps i x) all in
    let host = hosted input g.common i x c.requires.1.1 below ∙ ap host_for (sym is) in
    let commands : x.commands ≡ commands_of (commands_in input.parties) i = ap (λ (p : Party). p.commands) is ∙ commands_there (commands_in input.parties) input.parties i x refl below in
    let party = subst (λ (cs : List Command). IsPartyOnDemand (party_terms g.common i) g.common.maker cs 0 c.in_ok-party.party) commands (c.in_ok-party.ensures.party (party_terms g.common i) host g.common.maker) in
    record {
      begun = subst (AreBegun input g.common (i + 1)) (sym c.in_ok-push.ensures.items) (begun_more input g.common i c.loop-at.made.items c.in_ok-party.party c.loop-at.invariant.begun party c.in_ok-party.ensures.told c.in_ok-party.ensures.left);
      all = all;
    }

pub returns-clause-parties : goal.returns-clause-parties
returns-clause-parties g c =
    let all : c.loop-at.at ≡ length c.args.input.now.parties = omega (arith, ap (λ (ps : List Party). length ps) c.loop-at.invariant.all) in
    begun_are c.args.input.now g.common c.loop-at.at c.loop-at.made.items c.loop-at.invariant.begun all

pub returns-clause-none : goal.returns-clause-none
returns-clause-none g c =
    let all : c.loop-at.at ≡ length c.args.input.now.parties = omega (arith, ap (λ (ps : List Party). length ps) c.loop-at.invariant.all) in
    begun_told c.args.input.now g.common c.loop-at.at c.loop-at.made.items c.loop-at.invariant.begun all
