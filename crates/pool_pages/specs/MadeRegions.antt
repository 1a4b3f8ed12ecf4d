-- What a region in memory of either behaviour tells.
use Rattle.pool_pages.specs.Told.{Told}
use Rattle.pool_pages.specs.declared.made_region.MadeRegion.{MadeRegion}
use Rattle.pool_pages.specs.declared.made_region.MadeRegion.TheVariants.{Memory, Zeroing}

-- What a region in memory tells, whichever of the two behaviours it has.
abbrev pub made_told : MadeRegion → Told
made_told (Memory region) = region.value
made_told (Zeroing region) = region.value
