-- When the making of the regions of slots is refused.
use Rattle.std.specs.Prelude.{◌≡◌, Bool, true}
use Rattle.pool_slots.specs.declared.errors.PoolNewError.{PoolNewError}
use Rattle.pool_slots.specs.declared.errors.PoolNewError.TheVariants as refused

-- a page fault comes only where the making of a region is listed as one that fails
abbrev pub IsListedPoolFault : Bool → PoolNewError → Type 0
IsListedPoolFault listed (refused.BadConfig e) = ⊥
IsListedPoolFault listed refused.PageFault = listed ≡ true
IsListedPoolFault listed refused.Memory = Unit {0}
