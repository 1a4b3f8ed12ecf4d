-- What follows for a slot, and for a region, that the next step of a call has.
use Rattle.std.proofs.Common.{◌≡◌, ◌≤◌, false, arith}
use Rattle.pool_alloc.proofs.Imports.{MakerTold, is_taken, RegionNumbers, SlotName}
use Rattle.pool_alloc.specs.Places.{right_to, region_of, phase_count, frame_count}
use Rattle.pool_alloc.specs.BetweenSteps.{HasCells, IsCore, FitsCore}
use Rattle.pool_alloc.specs.StepReads.{cell_named}
use Rattle.pool_alloc.specs.declared.pool_core.PoolCore.{PoolCore}
use Rattle.pool_alloc.specs.declared.frame.Frame.{Frame}
use Rattle.pool_alloc.specs.declared.frame.Phase.{Phase}
use Rattle.pool_alloc.specs.declared.frame.Phase.TheVariants.{Idle}
use Rattle.pool_alloc.proofs.BeforeTheTurn.{in_phase}
use Rattle.pool_alloc.proofs.SlotsOfFrames.{HasGone, IsOut, unit_weight, frame_regions, held_once, held_is_out, region_is_home, region_is_away}

module _ {P H : Type 0} (maker : MakerTold) (p : Phase P H) (name : SlotName) (c : PoolCore P H) (f : Frame P H) (core : IsCore maker c) (fits : FitsCore c (in_phase p f)) where
  -- A slot is one of the pool, and used in its shard.
  pub phase_out : 1 ≤ phase_count (right_to name) p → IsOut c name
  phase_out some = held_is_out maker name c (in_phase p f) core fits (omega (arith, some))

  -- Its region is in its cell where the step hasn't it,
  pub phase_home : HasCells name.kind → 1 ≤ phase_count (right_to name) p → phase_count (region_of name) p ≡ 0 → is_taken (cell_named name c).holds ≡ false
  phase_home cells some without =
      let has : 1 ≤ frame_count (right_to name) (in_phase p f) = omega (arith, some) in
      region_is_home maker name c (in_phase p f) core fits cells has
      (omega (arith, some, without, (held_once maker name c (in_phase p f) core fits has).held, frame_regions name (in_phase Idle f)))

  -- and else the cell is empty, and has the numbers that the region went out with.
  pub phase_gone : (n : RegionNumbers) → HasCells name.kind → 1 ≤ phase_count (unit_weight name n) p → HasGone c name n
  phase_gone n cells some = region_is_away maker name n c (in_phase p f) core fits cells (omega (arith, some))
