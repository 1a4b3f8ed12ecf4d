use Rattle.std.proofs.Common.{◌≡◌, ◌+◌, ◌∙◌, rules, arith, subst, sym, true, Some, None, Option, slice_index_or, slice_set}
use Rattle.std.proofs.lemmas.Grind.{common_steps}
use Rattle.pool_index.specs.Table.{has, ends_at, ends_len, table_total}
use Rattle.pool_index.specs.TableFields.{IsTable}
use Rattle.pool_index.specs.declared.affinity_table.AffinityEntry.{AffinityEntry}
use Rattle.pool_index.proofs.Tables.{Entries, entry, its_entry, only_one, changed_ends, changed_total, changed_table}
use Rattle.pool_index.proofs.affinity_table.AffinityTable.change.Goals as goal

pub invariant_of-self : goal.invariant_of-self
invariant_of-self c =
    let found : has c.args.affinity (slice_index_or c.self.inside.entries.items c.args.at None) ≡ true = search rules in
    let here : slice_index_or c.self.inside.entries.items c.args.at None ≡ Some c.in-Some.entry = grind (arith, common_steps) in
    subst (λ (x : Option AffinityEntry). IsTable (slice_set c.self.inside.entries.items c.args.at x) c.self.inside.reach.items) (sym (its_entry c.self.inside.entries.items c.args.at c.args.affinity c.in-Some.entry c.args.ends found here))
    (changed_table c.self.inside.entries.items c.self.inside.reach.items c.args.at c.args.affinity (Some c.args.ends) c.self.invariant (search rules) found c.requires.some)

pub returns-clause-ends : goal.returns-clause-ends
returns-clause-ends c a =
    let found : has c.args.affinity (slice_index_or c.self.inside.entries.items c.args.at None) ≡ true = search rules in
    let here : slice_index_or c.self.inside.entries.items c.args.at None ≡ Some c.in-Some.entry = grind (arith, common_steps) in
    (λ k. ends_at (slice_set (c.self.view_is k) c.args.at (its_entry c.self.inside.entries.items c.args.at c.args.affinity c.in-Some.entry c.args.ends found here k)) a)
    ∙ changed_ends c.args.self.now c.args.at c.args.affinity (Some c.args.ends) c.requires.inside (entry c.requires.found) (only_one c.args.self.now c.args.at c.args.affinity (subst (λ (es : Entries). IsTable es c.self.inside.reach.items) c.self.view_is c.self.invariant).once c.requires.found) a

pub returns-clause-total : goal.returns-clause-total
returns-clause-total c =
    let found : has c.args.affinity (slice_index_or c.self.inside.entries.items c.args.at None) ≡ true = search rules in
    let here : slice_index_or c.self.inside.entries.items c.args.at None ≡ Some c.in-Some.entry = grind (arith, common_steps) in
    (λ k. table_total (slice_set (c.self.view_is k) c.args.at (its_entry c.self.inside.entries.items c.args.at c.args.affinity c.in-Some.entry c.args.ends found here k)) + ends_len (ends_at c.args.self.now c.args.affinity))
    ∙ changed_total c.args.self.now c.args.at c.args.affinity (Some c.args.ends) c.requires.inside (entry c.requires.found) (only_one c.args.self.now c.args.at c.args.affinity (subst (λ (es : Entries). IsTable es c.self.inside.reach.items) c.self.view_is c.self.invariant).once c.requires.found)
