-- Looks at parts: a seat takes a part, reads numbers of it, and puts it back as it was. What the seat's view tells of that, and what is read.
use Rattle.std.specs.Prelude.{◌≡◌, ℕ, ◌+◌, ◌-◌, ◌^◌, ◌<◌, ◌≤◌, List, [], ◌∷◌, ◌++◌, length, min, slice_index}
use Rattle.pool_hall.specs.Meaning.{Meaning}
use Rattle.pool_hall.specs.Step.{Taken}
use Rattle.pool_hall.specs.Sum.{often, total}
use Rattle.pool_hall.specs.Tally.{rise}
use Rattle.pool_hall.specs.declared.unit_name.SlotKind.{SlotKind}
use Rattle.pool_hall.specs.declared.unit_name.UnitName.{UnitName}
use Rattle.pool_hall.specs.declared.view.CountRise.{CountRise}
use Rattle.pool_hall.specs.declared.view.View.{View}
use Rattle.pool_slots.specs.Plans.{allocators_of, role_at, shard_role}
use Rattle.pool_slots.specs.declared.part.PoolPart.{PoolPart}
use Rattle.pool_slots.specs.declared.plan.Allocator.{Allocator}
use Rattle.pool_slots.specs.declared.plan.Plan.{Plan}
use Rattle.pool_alloc.specs.PoolTotals.{resident_in, warm_in}
use Rattle.pool_driver.specs.declared.looking.WarmSlots.{WarmSlots}

-- A rise by which no count rose.
abbrev pub IsFlat : CountRise → Type 0
IsFlat e = (i : ℕ) → rise (slice_index e.before i) (slice_index e.after i) ≡ 0

-- From the first view to the second the seat looked at parts, and did nothing else: it has as many portions and the same units, and added
-- and subtracted nothing. What is reckoned of the rises that it noted is as before, if one by which no count rose makes no difference to it.
-- No place that was noted as topped is forgotten.
pub record HasLooked {T : Type 0} (v w : View T) : Type 0 where
  pub portions : w.portions ≡ v.portions
  pub limits : w.limits ≡ v.limits
  pub units : (t : UnitName → ℕ) → total t w.units ≡ total t v.units
  pub added : w.added ≡ v.added
  pub low : w.low ≡ v.low
  pub subtracted : w.subtracted ≡ v.subtracted
  pub rises : (each : CountRise → ℕ) → ((e : CountRise) → IsFlat e → each e ≡ 0) → total each w.rises ≡ total each v.rises
  pub noted : (q : ℕ) → often q v.topped ≤ often q w.topped

-- Numbers together, up to the end of their types.
pub record IsSumOf (all : List WarmSlots) (sum : WarmSlots) : Type 0 where
  pub slots : sum.slots ≡ min (total (λ (x : WarmSlots). x.slots) all) (2 ^ 32 - 1)
  pub bytes : sum.bytes_resident ≡ min (total (λ (x : WarmSlots). x.bytes_resident) all) (2 ^ 64 - 1)

-- Of a hall that was made with these parts and limits, in which a seat that had the first view has only looked at parts since
module _ {T P H : Type 0} (m : Meaning T) (inner : T → PoolPart P H) (made : List T) (limits : List ℕ) (base : View T) (kind : SlotKind) where
  -- These are the numbers of a part that the seat took at a place: of its warm slots of a kind, and of the bytes that they keep resident.
  pub record AreNumbersAt (place : ℕ) (seen : WarmSlots) : Type 0 where
    pub moment : View T
    pub looked : HasLooked base moment
    pub part : T
    pub told : Taken m made limits place part moment
    pub slots : seen.slots ≡ warm_in kind (inner part)
    pub bytes : seen.bytes_resident ≡ resident_in kind (inner part)

  -- These are those of the parts at places in a row, from one on.
  abbrev pub AreSeenFrom : ℕ → List WarmSlots → Type 0
  AreSeenFrom place [] = Unit {0}
  AreSeenFrom place (seen ∷ more) = AreNumbersAt place seen × AreSeenFrom (place + 1) more

  -- These are those of all shards of an allocator,
  pub record AreOfShards (a : Allocator) (all : List WarmSlots) : Type 0 where
    pub many : length all ≡ a.shards
    pub each : AreSeenFrom a.first_place all

  -- and of several, one allocator after the other.
  abbrev pub AreOfAll : List Allocator → List WarmSlots → Type 0
  AreOfAll [] all = all ≡ []
  AreOfAll (a ∷ others) all = (mine : List WarmSlots) × ((rest : List WarmSlots) × ((all ≡ mine ++ rest) × (AreOfShards a mine × AreOfAll others rest)))

  -- The numbers are those of all shards of these allocators together.
  pub record IsCounted (as' : List Allocator) (found : WarmSlots) : Type 0 where
    pub seen : List WarmSlots
    pub all : AreOfAll as' seen
    pub sum : IsSumOf seen found

-- The places of an allocator's shards are theirs.
abbrev pub HasItsShards : Plan → Allocator → Type 0
HasItsShards plan a = (j : ℕ) → j < a.shards → role_at plan (a.first_place + j) ≡ shard_role a j

-- How many slots allocators have together,
abbrev pub slots_among : List Allocator → ℕ
slots_among all = total (λ (a : Allocator). a.capacity) all

-- and those of a kind.
abbrev pub slots_of_kind : Plan → SlotKind → ℕ
slots_of_kind plan kind = slots_among (allocators_of plan kind)
