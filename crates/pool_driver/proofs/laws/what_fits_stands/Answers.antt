use Rattle.pool_driver.specs.Origins.{inner_of}
use Rattle.pool_driver.proofs.Standing.{fits_stands}
use Rattle.pool_driver.proofs.laws.what_fits_stands.Goals as goal

pub returns : goal.returns
returns g c = fits_stands _ inner_of
