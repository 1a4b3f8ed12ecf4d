use Rattle.std.proofs.Common.{refl}
use Rattle.pool_driver.specs.Origins.{about_of, inner_of}
use Rattle.pool_driver.specs.Placed.{pool_meaning}
use Rattle.pool_driver.proofs.Puts.{may_put, carries_on}
use Rattle.pool_driver.proofs.laws.steps_may_put.Goals as goal

pub returns : goal.returns
returns g c = λ made limits p x y us rest f a carries flows stands grows. (
  may_put (pool_meaning (about_of g.M.PageMaker.told) inner_of) inner_of (λ z. refl) (λ z. refl) x y us rest f a carries flows made limits p stands grows,
  carries_on (pool_meaning (about_of g.M.PageMaker.told) inner_of) inner_of (λ z. refl) (λ z. refl) x y us rest f a carries flows,
)
