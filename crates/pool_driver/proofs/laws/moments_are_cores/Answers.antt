use Rattle.pool_driver.specs.Origins.{about_of, inner_of}
use Rattle.pool_driver.proofs.MomentSteps.{can_step}
use Rattle.pool_driver.proofs.laws.moments_are_cores.Goals as goal

pub returns : goal.returns
returns g c = λ made limits us rest a n spare f moment of pool frame counts carries. can_step (about_of g.M.PageMaker.told) inner_of made limits us moment a of pool n spare rest f frame counts carries
