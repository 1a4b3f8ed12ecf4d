use Rattle.std.proofs.Common.{arith}
use Rattle.std.proofs.lemmas.Grind.{common_steps}
use Rattle.pool_index.proofs.Tables.{shortened_table}
use Rattle.pool_index.proofs.affinity_table.AffinityTable.shorten.Goals as goal

pub invariant_of-self : goal.invariant_of-self
invariant_of-self c =
    shortened_table c.self.inside.entries.items c.self.inside.reach.items c.args.home c.taken_within-left.result c.self.invariant (grind (arith, common_steps)) (grind (arith, common_steps)) (grind (arith, common_steps))
