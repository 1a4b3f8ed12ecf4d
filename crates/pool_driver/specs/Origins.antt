-- The part of a pool in a part of a hall, and of which pool that tells that it is.
use Rattle.pool_pages.specs.MakerTold.{MakerTold}
use Rattle.pool_slots.specs.declared.part.PoolPart.{PoolPart}
use Rattle.pool_driver.specs.Placed.{About, about_by}
use Rattle.pool_driver.specs.declared.part.HallPart.{HallPart}

-- The pool that the part tells that it is of, by what its maker tells.
abbrev pub about_of : {P H M : Type 0} → (M → MakerTold) → HallPart P H M → About
about_of told x = about_by (told x.origin.maker.value) x.origin.settings.value x.origin.plan.value

-- The part of the pool in it.
abbrev pub inner_of : {P H M : Type 0} → HallPart P H M → PoolPart P H
inner_of x = x.part
