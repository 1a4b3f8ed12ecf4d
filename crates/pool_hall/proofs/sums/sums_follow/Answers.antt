use Rattle.pool_hall.specs.Unit.{times}
use Rattle.pool_hall.specs.Tally.{number}
use Rattle.pool_hall.proofs.Totals.{total_set, total_snoc, total_joined}
use Rattle.pool_hall.proofs.sums.sums_follow.Goals as goal

pub returns-clause-change : goal.returns-clause-change
returns-clause-change g c t = total_set (number t)

pub returns-clause-kept : goal.returns-clause-kept
returns-clause-kept g c u = total_set (λ x. times u (g.T.Part.meaning.kept x))

pub returns-clause-new : goal.returns-clause-new
returns-clause-new g c t = total_snoc (number t)

pub returns-clause-takeover : goal.returns-clause-takeover
returns-clause-takeover g c t = total_joined (number t)
