use Rattle.std.proofs.Common.{rules}
use Rattle.pool_index.proofs.Tables.{fresh_table}
use Rattle.pool_index.proofs.affinity_table.AffinityTable.new.Goals as goal

pub invariant_of-result : goal.invariant_of-result
invariant_of-result c = fresh_table c.max-len.result c.resize.new.self.items c.resize-2.new.self.items (search rules) (search rules) (search rules) (search rules)
