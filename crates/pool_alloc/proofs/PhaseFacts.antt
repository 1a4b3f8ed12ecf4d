-- What a frame that can make its next step may rely on, phase by phase.
use Rattle.std.proofs.Common.{◌≡◌, ℕ, ◌+◌, ◌<◌, ◌≤◌, true, false, List, [], length, sym, ◌∙◌, arith, Some}
use Rattle.pool_alloc.proofs.Imports.{MakerTold, is_used, is_taken, Queue, Queued, AreApart, IsSpareOf, first_of_kind, SlotKind, SlotName, ImageSlot, home_of}
use Rattle.pool_alloc.proofs.PlanPlaces.{IsShardPlace, IsQueuePlace, tried_is_queue}
use Rattle.pool_alloc.proofs.KindCounts.{counts_first}
use Rattle.pool_alloc.specs.Freeing.{AreUsedInTurn}
use Rattle.pool_alloc.specs.Places.{Thing, right_to, frame_count, of_units}
use Rattle.pool_alloc.specs.BetweenSteps.{IsCore, IsFrame, FitsCore, HasCells}
use Rattle.pool_alloc.specs.StepReads.{shard_at, queue_at, freed_of, first_shard, queue_tried, cell_named}
use Rattle.pool_alloc.specs.Stepping.{CanStep}
use Rattle.pool_alloc.specs.declared.pool_core.PoolCore.{PoolCore}
use Rattle.pool_alloc.specs.declared.frame.Frame.{Frame}
use Rattle.pool_alloc.specs.declared.frame.FreedSlot.{FreedSlot}
use Rattle.pool_alloc.specs.declared.frame.TakenSlot.{TakenSlot}
use Rattle.pool_alloc.specs.declared.frame.Phase.TheVariants.{Idle, TakeRegion, PutBack, FreeOne, Merge, Flush}
use Rattle.pool_alloc.proofs.BeforeTheTurn.{in_phase}
use Rattle.pool_alloc.proofs.FreedSlots.{first_is_shard, freed_in_turn}
use Rattle.pool_alloc.proofs.SlotsOfFrames.{HasGone, unit_weight, unit_once, frame_regions, held_once, held_is_out, region_is_home, region_is_away}
use Rattle.pool_alloc.proofs.KeptCounts.{queue_kept, out_once}
use Rattle.pool_alloc.proofs.QueueCounts.{apart_by_count}
use Rattle.pool_alloc.proofs.SlotCounts.{slot_once, slot_regions}
use Rattle.pool_alloc.proofs.PoolParts.{sound_queue}

-- a queue has room for what another holds
pub record HasRoomFor (q more : Queue) : Type 0 where
  pub ranges : length q.ranges + length more.ranges ≤ q.range_room
  pub slots : length q.slots + length more.slots ≤ q.slot_room

module _ {P H : Type 0} where
  -- An empty local queue has the room of the shared ones.
  pub local_is_spare : (maker : MakerTold) (i : ℕ) (c : PoolCore P H) (f : Frame P H) → IsCore maker c → IsFrame maker c.settings c.plan f → IsQueuePlace c.plan i → f.local.ranges ≡ [] → f.local.slots ≡ [] → IsSpareOf (queue_at i c) f.local
  local_is_spare maker i c f core frame place no_ranges no_slots =
      let shared = sound_queue maker i c core place in
      record {
        no_ranges = no_ranges;
        no_slots = no_slots;
        range_room = frame.queue.range_room ∙ sym shared.range_room;
        slot_room = frame.queue.slot_room ∙ sym shared.slot_room;
      }

  -- The region of a slot that was picked is in its cell.
  pub picked_is_home : (maker : MakerTold) (name : SlotName) (c : PoolCore P H) (f : Frame P H) → HasCells name.kind → IsCore maker c → FitsCore c (in_phase (TakeRegion name) f) → is_taken (cell_named name c).holds ≡ false
  picked_is_home maker name c f cells core fits =
      let some : 1 ≤ frame_count (right_to name) (in_phase (TakeRegion name) f) = omega (arith, slot_once name) in
      region_is_home maker name c (in_phase (TakeRegion name) f) core fits cells some
      (omega (arith, slot_once name, slot_regions name name, (held_once maker name c (in_phase (TakeRegion name) f) core fits some).held, frame_regions name (in_phase Idle f)))

  -- That of a slot that is put back isn't, and has the numbers that it went out with.
  pub back_is_away : (maker : MakerTold) (at : TakenSlot) (held : ImageSlot P) (c : PoolCore P H) (f : Frame P H) → HasCells at.name.kind → IsCore maker c → FitsCore c (in_phase (PutBack at held) f) → HasGone c at.name at.numbers
  back_is_away maker at held c f cells core fits = region_is_away maker at.name at.numbers c (in_phase (PutBack at held) f) core fits cells (omega (arith, unit_once at.name at.numbers))

  -- The slot is used.
  pub back_is_used : (maker : MakerTold) (name : SlotName) (c : PoolCore P H) (f : Frame P H) → CanStep maker c (in_phase (FreeOne name) f) → is_used (shard_at (home_of c.plan name).place c) (home_of c.plan name).local.0 ≡ true
  back_is_used maker name c f can = (held_is_out maker name c (in_phase (FreeOne name) f) can.core can.fits (omega (arith, slot_once name))).used

  -- No slot is in a queue of the pool and in the local one.
  pub local_is_apart : (maker : MakerTold) (i : ℕ) (c : PoolCore P H) (f : Frame P H) → IsCore maker c → FitsCore c f → IsQueuePlace c.plan i → AreApart (queue_at i c).slots f.local.slots
  local_is_apart maker i c f core fits place =
      apart_by_count (queue_at i c).slots f.local.slots
      (λ name. omega (arith, fits.once (of_units (right_to name)), (out_once maker name c core).0, queue_kept maker (right_to name) i c core place))

  -- The home queue has room for the local one.
  pub home_has_room : (maker : MakerTold) (c : PoolCore P H) (f : Frame P H) → CanStep maker c (in_phase Merge f) → HasRoomFor (queue_at (queue_tried 0 c.plan f) c) f.local
  home_has_room maker c f can =
      let shared = sound_queue maker (queue_tried 0 c.plan f) c can.core (tried_is_queue 0 c.plan (length c.parts) f can.core.plan) in
      let shape = can.frame.shape in
      record {
        ranges = omega (arith, shared.short, shared.range_room, shape.4);
        slots = omega (arith, shared.slots, shared.short, shared.slot_room, shape.2, shape.4);
      }

  -- The slot whose region is put back is one of the pool, and its cell is empty and has the numbers of the region.
  pub first_can_be_put : (maker : MakerTold) (c : PoolCore P H) (f : Frame P H) (kind : SlotKind) (m : Queued) → IsCore maker c → FitsCore c (in_phase Flush f) → HasCells m.name.kind → first_of_kind kind f.local.slots ≡ Some m → HasGone c m.name m.numbers
  first_can_be_put maker c f kind m core fits cells is =
      let t : Thing = unit_weight m.name m.numbers in
      region_is_away maker m.name m.numbers c (in_phase Flush f) core fits cells (omega (arith, counts_first t kind m f.local.slots is, unit_once m.name m.numbers))

  -- The shard of those that are freed next is one of the pool, and each of them is used there when its turn comes.
  pub record CanFree (c : PoolCore P H) (slots : List FreedSlot) (j : ℕ) : Type 0 where
    pub shard : IsShardPlace c.plan j
    pub used : AreUsedInTurn c.plan (freed_of c.plan j slots) (shard_at j c)

  pub first_can_be_freed : (maker : MakerTold) (c : PoolCore P H) (f : Frame P H) → CanStep maker c (in_phase Flush f) → 0 < length f.freed.items → CanFree c f.freed.items (first_shard c.plan f.freed.items)
  first_can_be_freed maker c f can some =
      let place : IsShardPlace c.plan (first_shard c.plan f.freed.items) = first_is_shard maker c f.freed.items can.core some can.frame.freed_each in
      record {
        shard = place;
        used = freed_in_turn maker (first_shard c.plan f.freed.items) c (in_phase Flush f) can.core can.fits can.frame.freed_each place;
      }
