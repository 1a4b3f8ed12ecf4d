-- What a call puts back goes into the cell that it came out of, which tells the numbers that its unit tells.
use Rattle.std.proofs.Common.{◌≡◌, ap, arith, Some}
use Rattle.pool_pages.specs.MakerTold.{MakerTold}
use Rattle.pool_hall.specs.declared.unit_name.SlotKind.{SlotKind}
use Rattle.pool_slots.specs.CellOf.{cell_of}
use Rattle.pool_slots.specs.Cells.{Cell}
use Rattle.pool_slots.specs.RegionCells.{IsAwaited}
use Rattle.pool_slots.specs.SlotQueues.{Queued, first_of_kind}
use Rattle.pool_slots.specs.declared.slot_name.RegionNumbers.{RegionNumbers}
use Rattle.pool_slots.specs.declared.slot_name.SlotName.{SlotName}
use Rattle.pool_alloc.specs.BetweenSteps.{HasRegion, IsCore, IsQueuedOf, IsSlotName}
use Rattle.pool_alloc.specs.Stepping.{CanStep}
use Rattle.pool_alloc.specs.StepReads.{cell_named, cell_returned}
use Rattle.pool_alloc.specs.declared.frame.Frame.{Frame}
use Rattle.pool_alloc.specs.declared.frame.Phase.{Phase}
use Rattle.pool_alloc.specs.declared.frame.Phase.TheVariants.{PutBack, Flush, Purge, Release}
use Rattle.pool_alloc.specs.declared.pool_core.PoolCore.{PoolCore}
use Rattle.pool_alloc.specs.declared.purge.PurgeCursor.{PurgeCursor}
use Rattle.pool_alloc.specs.declared.purge.PurgeStep.{PurgeStep}
use Rattle.pool_alloc.specs.declared.purge.PurgeStep.TheVariants as purging_step
use Rattle.pool_alloc.specs.declared.release.ReleaseStep.{ReleaseStep}
use Rattle.pool_alloc.specs.declared.release.ReleaseStep.TheVariants as releasing_step
use Rattle.pool_alloc.proofs.BeforeTheTurn.{in_phase}
use Rattle.pool_alloc.proofs.OwnRegions.{queued_awaited, region_awaited}
use Rattle.pool_alloc.proofs.PhaseFacts.{first_can_be_put}
use Rattle.pool_alloc.proofs.PhaseSlots.{phase_gone}
use Rattle.pool_alloc.proofs.ReturnRows.{first_of_all}
use Rattle.pool_alloc.proofs.SlotsOfFrames.{HasGone, unit_once}
use Rattle.pool_alloc.proofs.SumsBelow.{queued_cells}

module _ {P H : Type 0} where
  -- The slot's cell waits for this, which went out with these numbers.
  pub record IsOwn (name : SlotName) (numbers : RegionNumbers) (held : Cell) (c : PoolCore P H) : Type 0 where
    pub awaited : IsAwaited held (cell_named name c)
    pub out : (cell_named name c).out.faults ≡ numbers.faults
    pub named : IsSlotName c.plan name

  -- What a step of a purge puts back, and one of a release.
  abbrev pub OwnPurged : PurgeStep P → PoolCore P H → Type 0
  OwnPurged (purging_step.PutRegion at held) c = IsOwn at.name at.numbers (cell_of held) c
  OwnPurged _ c = Unit {0}

  abbrev pub OwnReleased : ReleaseStep P → PoolCore P H → Type 0
  OwnReleased (releasing_step.PutRegion r k at held) c = IsOwn at.name at.numbers (cell_of held) c
  OwnReleased _ c = Unit {0}

  -- What a step puts back, in each phase. A flush puts back the first queued slot of a kind.
  abbrev pub OwnPut : Phase P H → PoolCore P H → Frame P H → Type 0
  OwnPut (PutBack at held) c f = IsOwn at.name at.numbers (cell_of held) c
  OwnPut Flush c f = (kind : SlotKind) (m : Queued) → first_of_kind kind f.local.slots ≡ Some m → IsOwn m.name m.numbers (cell_returned m) c
  OwnPut (Purge p step) c f = OwnPurged step c
  OwnPut (Release step) c f = OwnReleased step c
  OwnPut _ c f = Unit {0}

module _ {P H : Type 0} (maker : MakerTold) where
  own_region : (name : SlotName) (numbers : RegionNumbers) (held : Cell) (c : PoolCore P H) → IsCore maker c → HasGone c name numbers → HasRegion maker c.settings c.plan name held → IsOwn name numbers held c
  own_region name numbers held c core gone has = record { awaited = region_awaited maker name numbers held c core gone has; out = ap (λ (n : RegionNumbers). n.faults) gone.out; named = gone.named }

  own_purged : (p : PurgeCursor) (step : PurgeStep P) (c : PoolCore P H) (f : Frame P H) → CanStep maker c (in_phase (Purge p step) f) → OwnPurged step c
  own_purged p (purging_step.PutRegion at held) c f can =
      let has : HasRegion maker c.settings c.plan at.name (cell_of held) = can.frame.shape.1.1 in
      own_region at.name at.numbers (cell_of held) c can.core (phase_gone maker (Purge p (purging_step.PutRegion at held)) at.name c f can.core can.fits at.numbers has.named.cells (omega (arith, unit_once at.name at.numbers))) has
  own_purged p step c f can = tt

  own_released : (step : ReleaseStep P) (c : PoolCore P H) (f : Frame P H) → CanStep maker c (in_phase (Release step) f) → OwnReleased step c
  own_released (releasing_step.PutRegion r k at held) c f can =
      let has : HasRegion maker c.settings c.plan at.name (cell_of held) = can.frame.shape.1.region in
      own_region at.name at.numbers (cell_of held) c can.core (phase_gone maker (Release (releasing_step.PutRegion r k at held)) at.name c f can.core can.fits at.numbers has.named.cells (omega (arith, unit_once at.name at.numbers))) has
  own_released step c f can = tt

  pub own_at : (phase : Phase P H) (c : PoolCore P H) (f : Frame P H) → CanStep maker c (in_phase phase f) → OwnPut phase c f
  own_at (PutBack at held) c f can =
      let has : HasRegion maker c.settings c.plan at.name (cell_of held) = can.frame.shape.2 in
      own_region at.name at.numbers (cell_of held) c can.core (phase_gone maker (PutBack at held) at.name c f can.core can.fits at.numbers has.named.cells (omega (arith, unit_once at.name at.numbers))) has
  own_at Flush c f can = λ kind m is.
      let queued = first_of_all (IsQueuedOf maker c.settings) kind m f.local.slots is can.frame.queue.regions in
      let gone = first_can_be_put maker c f kind m can.core can.fits (queued_cells maker c.settings m queued) is in
      record { awaited = queued_awaited maker m m.numbers c can.core gone queued; out = ap (λ (n : RegionNumbers). n.faults) gone.out; named = gone.named }
  own_at (Purge p step) c f can = own_purged p step c f can
  own_at (Release step) c f can = own_released step c f can
  own_at phase c f can = tt

  -- A cell waits for what a step puts into it, with the faults that the unit tells.
  pub own_numbers : (c : PoolCore P H) (f : Frame P H) → CanStep maker c f → OwnPut f.phase c f
  own_numbers c f can = own_at f.phase c f can
