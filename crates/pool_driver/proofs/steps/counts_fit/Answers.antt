use Rattle.std.proofs.Common.{sym, subst}
use Rattle.pool_driver.specs.Placed.{IsSmall}
use Rattle.pool_driver.proofs.SmallCounts.{shard_small}
use Rattle.pool_driver.proofs.steps.counts_fit.Goals as goal

pub returns-in-Shard : goal.returns-in-Shard
returns-in-Shard g c = subst (IsSmall {P = g.row.P.Denot} {H = g.row.H.Denot}) (sym c.in-Shard.is) (shard_small g.row.P.Denot g.row.H.Denot _ c.len-used.ensures.sound)
