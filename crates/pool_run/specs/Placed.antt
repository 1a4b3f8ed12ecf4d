-- Where each slot of the pool is between two turns: in one place.
use Rattle.std.specs.Prelude.{◌≡◌, ◌≢◌, ℕ, ◌<◌, if◌then◌else◌, slice_get, Option, Some}
use Rattle.pool_run.specs.Imports.{option_map_or, ShardState, is_used, pick_answer, slot_number, MemoryInModule, SlotId, MakerTold, right_to, queued_count, shard_at, queue_at, of_kind, home_of, SlotName, of_units}
use Rattle.pool_slots.specs.declared.part.PoolPart.TheVariants as part
use Rattle.pool_run.specs.Folds.{RunState, HoldsBetween}
use Rattle.pool_run.specs.Ties.{held_by_party}

-- A slot is free in the shard where it is at home, or waits in a queue, which is one of the pool's parts, or is with a
-- party: its call has it in hand, in the local queue of a flush or among those to be freed, or it is in a live grant.
pub data Place : Type 0 where
  free : Place
  in_queue : ℕ → Place
  with_party : ℕ → Place

module _ {P : Type 0} where
  -- how often the slot with a name is in a place
  abbrev pub times_at : RunState P → Place → SlotName → ℕ
  times_at s free k = if is_used (shard_at (home_of s.core.plan k).place s.core) (home_of s.core.plan k).local.0 then 0 else 1
  times_at s (in_queue p) k = queued_count (right_to k) (queue_at p s.core).slots
  times_at s (with_party i) k = option_map_or (λ p. held_by_party p (of_units (right_to k))) (slice_get s.parties i) 0

  -- the slot is there once, and nowhere else
  pub record IsIn (s : RunState P) (k : SlotName) (place : Place) : Type 0 where
    pub once : times_at s place k ≡ 1
    pub nowhere_else : (other : Place) → times_at s other k ≢ 0 → other ≡ place

  -- the slot is what a pick gives of a shard of the pool
  pub record IsPicked (s : RunState P) (k : SlotName) : Type 0 where
    pub place : ℕ
    pub shard : ShardState
    pub there : slice_get s.core.parts place ≡ Some (part.Shard shard)
    pub want : Option MemoryInModule
    pub pick : SlotId × ℕ
    pub picked : pick_answer want shard ≡ Some pick
    pub named : record { kind = shard.kind; slot = slot_number shard pick.0.0 } ≡ k

-- Each slot of the pool is in one place,
abbrev pub SlotsAreInOnePlace : Type 0 → Type 0
SlotsAreInOnePlace P = (maker : MakerTold) (s : RunState P) (k : SlotName) → HoldsBetween maker s → k.slot < of_kind k.kind s.core.plan.totals → (place : Place) × IsIn s k place

-- so what a pick gives is in no queue and with no party: it is free, and the shard is the one where it is at home.
abbrev pub UsedSlotsAreNotPicked : Type 0 → Type 0
UsedSlotsAreNotPicked P = (maker : MakerTold) (s : RunState P) (k : SlotName) → HoldsBetween maker s → (picked : IsPicked s k) → (picked.place ≡ (home_of s.core.plan k).place) × IsIn s k free
