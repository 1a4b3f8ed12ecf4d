-- A release: stripe by stripe it takes all warm slots, decommits the regions of those that keep bytes resident, and frees all of
-- them in the order in which they were taken.
use Rattle.std.specs.Prelude.{ℕ, ◌+◌, ◌-◌, ◌^◌, ◌||◌, ◌==◌, List, [], ◌∷◌, ◌++◌, length, map, min, sum_by, drop, nat_lt, if◌then◌else◌, Bool, true, false, slice_index_or}
use Rattle.pool_alloc.specs.Imports.{Slot, taken_outside, ShardState, after_take_warm, after_free, taken_slots, SlotId, Cell, cell_of, home_of, CellState, cell_numbers, cell_emptied, cell_filled, ImageSlot, Unmapped, Unknown, PreviouslyUsed, Taken, Allocator, Plan, SlotName}
use Rattle.pool_slots.specs.declared.errors.AllocError.TheVariants as refusal
use Rattle.pool_alloc.specs.Leases.{memory_slot}
use Rattle.pool_alloc.specs.Purges.{image_in}
use Rattle.pool_alloc.specs.StepReads.{StepGiven, stripe_allocator, shard_at, cell_named, with_shard, with_cell}
use Rattle.pool_alloc.specs.Turns.{Turn, goes, ends, Row, lifted}
use Rattle.pool_alloc.specs.declared.frame.Frame.{Frame}
use Rattle.pool_alloc.specs.declared.frame.FreedSlot.{FreedSlot}
use Rattle.pool_alloc.specs.declared.frame.Outcome.TheVariants as answer
use Rattle.pool_alloc.specs.declared.frame.Phase.TheVariants.{Release}
use Rattle.pool_alloc.specs.declared.pool_core.PoolCore.{PoolCore}
use Rattle.pool_alloc.specs.declared.release.ReleaseCursor.{ReleaseCursor}
use Rattle.pool_alloc.specs.declared.release.ReleaseStep.{ReleaseStep}
use Rattle.pool_alloc.specs.declared.release.ReleaseStep.TheVariants.{Reserve, TakeWarm, TakeRegion, Decommit, PutRegion, Free}

-- how many slots these allocators have
abbrev pub slots_in : List Allocator → ℕ
slots_in allocators = sum_by (λ a. a.capacity) allocators

-- the release as it begins: there is room for the slots of all stripes
abbrev pub release_begun : Plan → ReleaseCursor
release_begun plan = record {
  stripe = 0;
  local = record { items = []; room = slots_in plan.memories };
  taken = record { items = []; room = slots_in plan.memories };
  failed = false;
  released = 0;
}

-- The allocator of the stripe at which a release stands.
abbrev pub released_stripe : Plan → ReleaseCursor → Allocator
released_stripe plan r = stripe_allocator plan r.stripe

-- A warm slot that was taken, by its name in the pool, with its resident bytes.
abbrev pub slot_outside : SlotId × ℕ → FreedSlot
slot_outside p = record { name = memory_slot p.0.0; bytes = p.1 }

-- All warm slots of a shard by their names in the pool, with their resident bytes, in the order of freeing.
abbrev pub slots_outside : ShardState → List FreedSlot
slots_outside shard = map slot_outside (taken_outside shard)

-- a shard's warm slots are taken
abbrev pub taking : ShardState → ReleaseCursor → ReleaseCursor
taking shard r = record r {
  local = record r.local { items = r.local.items ++ taken_slots shard };
  taken = record r.taken { items = r.taken.items ++ slots_outside shard };
}

-- the slot at a place; past the end it doesn't matter which
abbrev pub nth_taken : ReleaseCursor → ℕ → FreedSlot
nth_taken r k = slice_index_or r.taken.items k (record { name = memory_slot 0; bytes = 0 })

-- how many slots come before the first that keeps bytes resident
abbrev pub not_resident : List FreedSlot → ℕ
not_resident [] = 0
not_resident (x ∷ rest) = if x.bytes == 0 then not_resident rest + 1 else 0

-- What a slot keeps resident once it is freed: nothing where all decommits of the stripe succeeded. Else its bytes aren't
-- released.
abbrev pub bytes_kept : ReleaseCursor → FreedSlot → ℕ
bytes_kept r x = if r.failed then x.bytes else 0

-- The slot's bytes count as released, unless a decommit of its stripe failed.
abbrev pub releasing : ReleaseCursor → FreedSlot → ReleaseCursor
releasing r x = record r { released = if r.failed then r.released else min (r.released + x.bytes) (2 ^ 64 - 1) }

module _ {P H : Type 0} where
  -- A stripe is done: the next follows, or the release ends.
  abbrev pub behind_stripe : Plan → ReleaseCursor → Turn P H
  behind_stripe plan r =
      if nat_lt (r.stripe + 1) (length plan.memories)
      then goes (Release (TakeWarm (record r { stripe = r.stripe + 1; taken = record r.taken { items = [] }; failed = false }) 0))
      else ends (answer.Released r.released)

  -- The first of these slots is freed, or the stripe is done.
  abbrev pub free_first : Plan → List FreedSlot → ReleaseCursor → Turn P H
  free_first plan [] r = behind_stripe plan r
  free_first plan (x ∷ rest) r = goes (Release (Free (record r { taken = record r.taken { items = rest } }) x))

  -- The next slot that keeps bytes resident is decommitted, from this place on, or else all are freed.
  abbrev pub drain_at : Plan → ReleaseCursor → ℕ → Turn P H
  drain_at plan r k = if nat_lt k (length r.taken.items) then goes (Release (TakeRegion r k)) else free_first plan r.taken.items r

  -- The next slot from a place on that keeps bytes resident is decommitted.
  abbrev pub drain_from : Plan → ReleaseCursor → ℕ → Turn P H
  drain_from plan r k = drain_at plan r (k + not_resident (drop k r.taken.items))

  -- Room is reserved, or there was no memory for it.
  abbrev pub reserve_row : Bool → PoolCore P H → Frame P H → Row (PoolCore P H) P H
  reserve_row true c f = record { part = c; frame = f; turn = ends (answer.Refused refusal.Memory) }
  reserve_row false c f = record { part = c; frame = f; turn = goes (Release (TakeWarm (release_begun c.plan) 0)) }

  -- The next shard's warm slots are taken, or after the last shard the decommits begin.
  abbrev pub warm_taken : Plan → ReleaseCursor → ℕ → Turn P H
  warm_taken plan r j = if nat_lt (j + 1) (released_stripe plan r).shards then goes (Release (TakeWarm r (j + 1))) else drain_from plan r 0

  -- All warm slots of a shard are taken.
  abbrev pub take_warm_on : Plan → ReleaseCursor → ℕ → ShardState → Frame P H → Row ShardState P H
  take_warm_on plan r j shard f = record { part = after_take_warm shard; frame = f; turn = warm_taken plan (taking shard r) j }

  -- The region of a slot that keeps bytes resident leaves its cell, to be decommitted.
  abbrev pub take_resident_on : ReleaseCursor → ℕ → SlotName → CellState → Frame P H → Row CellState P H
  take_resident_on r k name cell f = record { part = cell_emptied cell; frame = f; turn = goes (Release (Decommit r k (record { name = name; numbers = cell_numbers cell }) (image_in cell.holds))) }

module _ {P : Type 0} where
  -- A slot goes back in the state that it had. A region that was never used has nothing to decommit.
  abbrev pub after_decommit : ImageSlot P → Slot → ImageSlot P
  after_decommit (Unmapped region) slot = Unmapped region
  after_decommit (Unknown old) slot = Unknown slot
  after_decommit (PreviouslyUsed old) slot = PreviouslyUsed slot
  after_decommit Taken slot = Taken

module _ {P H : Type 0} where
  -- The region goes back into its cell, and the next slot follows.
  abbrev pub put_resident_on : Plan → ReleaseCursor → ℕ → Cell → CellState → Frame P H → Row CellState P H
  put_resident_on plan r k held cell f = record { part = cell_filled held cell; frame = f; turn = drain_from plan r (k + 1) }

  -- A slot that was taken is freed, with nothing resident where all decommits of its stripe succeeded.
  abbrev pub free_taken_on : Plan → ReleaseCursor → FreedSlot → ShardState → Frame P H → Row ShardState P H
  free_taken_on plan r x shard f = record {
    part = after_free (home_of plan x.name).local (bytes_kept r x) shard;
    frame = f;
    turn = free_first plan r.taken.items (releasing r x);
  }

  -- The rows of a release, by its step.
  abbrev pub release_row : StepGiven H → ReleaseStep P → PoolCore P H → Frame P H → Row (PoolCore P H) P H
  release_row g Reserve c f = reserve_row g.wants c f
  release_row g (TakeWarm r j) c f =
      let place : ℕ = (released_stripe c.plan r).first_place + j in
      lifted (λ shard. with_shard place shard c) (take_warm_on c.plan r j (shard_at place c) f)
  release_row g (TakeRegion r k) c f = let name : SlotName = (nth_taken r k).name in lifted (λ cell. with_cell name cell c) (take_resident_on r k name (cell_named name c) f)
  release_row g (Decommit r k at held) c f = record { part = c; frame = f; turn = goes (Release (PutRegion (record r { failed = r.failed || g.fault }) k at (after_decommit held g.slot))) }
  release_row g (PutRegion r k at held) c f = lifted (λ cell. with_cell at.name cell c) (put_resident_on c.plan r k (cell_of held) (cell_named at.name c) f)
  release_row g (Free r x) c f =
      let place : ℕ = (home_of c.plan x.name).place in
      lifted (λ shard. with_shard place shard c) (free_taken_on c.plan r x (shard_at place c) f)
