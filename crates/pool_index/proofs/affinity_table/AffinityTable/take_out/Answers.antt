use Rattle.std.proofs.Common.{◌≡◌, ◌+◌, ◌∙◌, rules, arith, subst, None, slice_set}
use Rattle.pool_index.specs.Table.{ends_at, ends_len, table_total}
use Rattle.pool_index.specs.TableFields.{IsTable}
use Rattle.pool_index.proofs.Tables.{Entries, entry, only_one, changed_ends, changed_total, changed_table}
use Rattle.pool_index.proofs.affinity_table.AffinityTable.take_out.Goals as goal

pub invariant_of-self : goal.invariant_of-self
invariant_of-self c = changed_table c.self.inside.entries.items c.self.inside.reach.items c.args.at c.args.affinity None c.self.invariant (search rules) (search rules) tt

pub returns-clause-ends : goal.returns-clause-ends
returns-clause-ends c a =
    (λ k. ends_at (slice_set (c.self.view_is k) c.args.at None) a)
    ∙ changed_ends c.args.self.now c.args.at c.args.affinity None c.requires.inside (entry c.requires.found) (only_one c.args.self.now c.args.at c.args.affinity (subst (λ (es : Entries). IsTable es c.self.inside.reach.items) c.self.view_is c.self.invariant).once c.requires.found) a

pub returns-clause-total : goal.returns-clause-total
returns-clause-total c =
    (λ k. table_total (slice_set (c.self.view_is k) c.args.at None) + ends_len (ends_at c.args.self.now c.args.affinity))
    ∙ changed_total c.args.self.now c.args.at c.args.affinity None c.requires.inside (entry c.requires.found) (only_one c.args.self.now c.args.at c.args.affinity (subst (λ (es : Entries). IsTable es c.self.inside.reach.items) c.self.view_is c.self.invariant).once c.requires.found)
    ∙ (let q : table_total c.args.self.now + ends_len None ≡ table_total c.args.self.now = omega arith in q)
