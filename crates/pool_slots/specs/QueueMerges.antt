-- A queue into which a local one is merged.
use Rattle.std.specs.Prelude.{◌≡◌, ℕ, ◌+◌, ◌≤◌, All, Bool, nat_le, if◌then◌else◌, length}
use Rattle.pool_slots.specs.SlotQueues.{Queue, HasOwners, AreApart, IsGivenBack, after_append, taken_into, drained}

-- The local queue can be appended to the other, and take the whole of it then. What it brings is known: a queue that
-- parties share forgets nothing, since the decommits are made in local ones.
pub record CanMerge (queue local : Queue) : Type 0 where
  pub ranges : length queue.ranges + length local.ranges ≤ queue.range_room
  pub slots : length queue.slots + length local.slots ≤ queue.slot_room
  pub owners : HasOwners queue
  pub local_owners : HasOwners local
  pub apart : AreApart queue.slots local.slots
  pub known : All IsGivenBack local.slots
  pub range_room : local.range_room ≡ queue.range_room
  pub slot_room : local.slot_room ≡ queue.slot_room

-- With the ranges of the local queue this one has a batch.
abbrev pub fills : ℕ → Queue → Queue → Bool
fills batch local q = nat_le batch (length (after_append q local).ranges)

-- The shared queue after a merge: with all ranges and slots, or empty where these are a batch.
abbrev pub merged : Bool → Queue → Queue → Queue
merged full local q = if full then drained (after_append q local) else after_append q local

-- The local queue after a merge: empty, or with all where these are a batch, which is flushed next.
abbrev pub merged_local : Bool → Queue → Queue → Queue
merged_local full local q = if full then taken_into (drained local) (after_append q local) else drained local
