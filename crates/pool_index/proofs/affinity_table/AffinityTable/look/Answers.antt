use Rattle.std.proofs.Common.{◌≡◌, rules, arith, subst, true, Some, None, slice_index_or}
use Rattle.std.proofs.lemmas.Grind.{common_steps}
use Rattle.pool_index.specs.Table.{same_affinity}
use Rattle.pool_index.specs.TableFields.{IsTable}
use Rattle.pool_index.proofs.Tables.{Entries, none_found, found_spot, absent_spot}
use Rattle.pool_index.proofs.affinity_table.AffinityTable.look.Goals as goal

pub returns : goal.returns
returns c =
    let t : IsTable c.args.self.now c.self.inside.reach.items = subst (λ (es : Entries). IsTable es c.self.inside.reach.items) c.self.view_is c.self.invariant in
    absent_spot c.args.self.now c.len-len.result c.home_of-home.result c.args.affinity (search rules) c.home_of-home.ensures.value c.home_of-home.ensures.within
    (none_found c.args.self.now c.self.inside.reach.items c.args.affinity c.len-len.result c.home_of-home.result c.loop-distance.distance t (search rules) c.home_of-home.ensures.value c.home_of-home.ensures.within (let at_end : slice_index_or c.self.inside.reach.items c.home_of-home.result 0 ≡ c.index-distance-end.result.now = grind (arith, common_steps) in let test = c.loop-distance-test.false in omega arith) c.loop-distance.invariant)

pub returns-in-loop-distance : goal.returns-in-loop-distance
returns-in-loop-distance c =
    let t : IsTable c.args.self.now c.self.inside.reach.items = subst (λ (es : Entries). IsTable es c.self.inside.reach.items) c.self.view_is c.self.invariant in
    let here : slice_index_or c.args.self.now c.place_of-at.result None ≡ Some c.in-Some.entry = grind (arith, common_steps) in
    let same : same_affinity c.args.affinity c.in-Some.entry.affinity ≡ true = grind (arith, common_steps) in
    found_spot c.args.self.now c.self.inside.reach.items t c.len-len.result c.home_of-home.result c.place_of-at.result c.args.affinity c.in-Some.entry (search rules) c.home_of-home.ensures.value c.home_of-home.ensures.within c.place_of-at.ensures.within here same
