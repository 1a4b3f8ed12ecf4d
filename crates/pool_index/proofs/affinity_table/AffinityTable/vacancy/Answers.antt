use Rattle.std.proofs.Common.{rules, arith, subst, length, ◌≤◌}
use Rattle.pool_index.specs.Table.{table_total}
use Rattle.pool_index.specs.TableFields.{IsTable}
use Rattle.pool_index.proofs.Tables.{Entries, none_vacant}
use Rattle.pool_index.proofs.affinity_table.AffinityTable.vacancy.Goals as goal

pub unreachable-requires : goal.unreachable-requires
unreachable-requires c =
    let full : length c.args.self.now ≤ table_total c.args.self.now =
    none_vacant c.args.self.now c.self.inside.reach.items c.len-len.result c.args.home c.loop-distance.distance (subst (λ (es : Entries). IsTable es c.self.inside.reach.items) c.self.view_is c.self.invariant) (search rules) c.requires.home (search rules) c.loop-distance.invariant in
    let room = c.requires.room in
    omega arith
