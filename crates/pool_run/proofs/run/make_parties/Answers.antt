use Rattle.std.proofs.Common.{rules, ◌≡◌, ◌^◌, ◌<◌, ◌≤◌, List, [], ◌∷◌, ◌++◌, length, map, take, refl, sym, ap, ◌∙◌, subst, arith, slice_index_or}
use Rattle.pool_run.specs.RunsMade.{party_made_for}
use Rattle.pool_run.specs.declared.input.Party.{Party}
use Rattle.pool_run.specs.declared.running_party.RunningParty.{RunningParty}
use Rattle.pool_run.proofs.RunMade.{all_passed, map_more, map_all}
use Rattle.pool_run.proofs.run.make_parties.Goals as goal

pub make_party-requires-clause-home : goal.make_party-requires-clause-home
make_party-requires-clause-home g c =
    let x : Party = c.index-parties-at.result in
    let is : x ≡ slice_index_or c.args.parties.now c.loop-at.at x = search rules in
    let Home : Party → Type 0 = λ q. q.home < 2 ^ 32 in
    subst Home (sym is) (c.requires.homes c.loop-at.at x (omega (arith, c.loop-at-test.true)))

pub loop-at-preserved : goal.loop-at-preserved
loop-at-preserved g c =
    let P : Type 0 = g.row.P.Denot in
    let f : Party → RunningParty P = party_made_for c.args.core.now.settings in
    let xs : List Party = c.args.parties.now in
    let x : Party = c.index-parties-at.result in
    let is : x ≡ slice_index_or xs c.loop-at.at x = search rules in
    let below : c.loop-at.at < length xs = omega (arith, c.loop-at-test.true) in
    record {
      made =
          c.in_ok-push.ensures.items
          ∙ ap (λ (made : List (RunningParty P)). made ++ c.in_ok-party.party ∷ []) c.loop-at.invariant.made
          ∙ ap (λ (p : RunningParty P). map f (take c.loop-at.at xs) ++ p ∷ []) c.in_ok-party.ensures
          ∙ map_more f xs c.loop-at.at x below is;
      all = refl;
    }

pub returns : goal.returns
returns g c =
    let all : length c.args.parties.now ≤ c.loop-at.at = all_passed c.loop-at.at _ _ c.loop-at.invariant.all c.loop-at-test.false in
    c.loop-at.invariant.made ∙ map_all (party_made_for c.args.core.now.settings) c.args.parties.now c.loop-at.at all
