use Rattle.std.proofs.Common.{◌≡◌, ◌+◌, ◌∙◌, rules, arith, subst, sym, false, Option, None, slice_index_or, slice_set}
use Rattle.std.proofs.lemmas.Grind.{common_steps}
use Rattle.pool_index.specs.Table.{has, ends_at, ends_len, table_total}
use Rattle.pool_index.specs.TableFields.{IsTable}
use Rattle.pool_index.specs.declared.affinity_table.AffinityEntry.{AffinityEntry}
use Rattle.pool_index.proofs.Tables.{Entries, vacant, changed_ends, changed_total, inserted_table}
use Rattle.pool_index.proofs.affinity_table.AffinityTable.insert.Goals as goal

pub invariant_of-self : goal.invariant_of-self
invariant_of-self c =
    subst (λ (x : Option AffinityEntry). IsTable (slice_set c.self.inside.entries.items c.place_of.result x) (slice_set c.self.inside.reach.items c.args.spot.home c.max.result)) (sym c.entry_of.ensures)
    (inserted_table c.self.inside.entries.items c.self.inside.reach.items c.args.spot.home c.vacancy-distance.result c.place_of.result c.max.result c.args.affinity c.args.ends c.self.invariant (grind (arith, common_steps)) (search rules) (search rules) (grind (arith, common_steps)) (grind (arith, common_steps)) (λ j. subst (λ (es : Entries). has c.args.affinity (slice_index_or es j None) ≡ false) (sym c.self.view_is) (c.requires.spot.absent c.requires.absent j)) c.requires.some (grind (arith, common_steps)))

pub returns-clause-ends : goal.returns-clause-ends
returns-clause-ends c a =
    (λ k. ends_at (slice_set (c.self.view_is k) c.place_of.result (c.entry_of.ensures k)) a)
    ∙ changed_ends c.args.self.now c.place_of.result c.args.affinity c.args.ends (search rules) (vacant (grind (arith, common_steps))) (λ j other. c.requires.spot.absent c.requires.absent j) a

pub returns-clause-total : goal.returns-clause-total
returns-clause-total c =
    (λ k. table_total (slice_set (c.self.view_is k) c.place_of.result (c.entry_of.ensures k)) + ends_len (ends_at c.args.self.now c.args.affinity))
    ∙ changed_total c.args.self.now c.place_of.result c.args.affinity c.args.ends (search rules) (vacant (grind (arith, common_steps))) (λ j other. c.requires.spot.absent c.requires.absent j)
