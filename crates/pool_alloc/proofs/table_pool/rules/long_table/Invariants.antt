use Rattle.std.proofs.Common.{◌≡◌, drop}
use Rattle.pool_alloc.specs.Refusals.{long_table}
use Rattle.pool_alloc.proofs.table_pool.rules.long_table.Given as goal

abbrev pub invariant-loop-index : goal.invariant-loop-index
invariant-loop-index l = long_table l.settings l.index (drop l.index l.tables) ≡ long_table l.settings 0 l.tables
