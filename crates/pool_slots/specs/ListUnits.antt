-- The units that the parts of a pool have given out and those that they keep, all together.
use Rattle.std.specs.Prelude.{◌≡◌, ℕ, ◌+◌, ◌<◌, ◌≤◌, List, [], ◌∷◌, ◌++◌, length}
use Rattle.pool_slots.specs.Imports.{one_if, total, same, UnitName, ShardState, IsShard}
use Rattle.pool_hall.specs.declared.unit_name.SlotKind.TheVariants as of_slot
use Rattle.pool_slots.specs.PartUnits.{part_away, part_kept}
use Rattle.pool_slots.specs.Parts.{part_at, with_part}
use Rattle.pool_slots.specs.Plans.{Role, shard_role, cell_role, queue_role, heaps_role, role_at, number_at, slots_at, IsPlanned}
use Rattle.pool_slots.specs.RegionCells.{region_of, right_to}
use Rattle.pool_slots.specs.declared.slot_name.SlotName.{SlotName}
use Rattle.pool_slots.specs.declared.plan.Allocator.{Allocator}
use Rattle.pool_slots.specs.declared.plan.Plan.{Plan}
use Rattle.pool_slots.specs.declared.part.PoolPart.{PoolPart}
use Rattle.pool_slots.specs.declared.part.PoolPart.TheVariants as part

-- a unit without the numbers that it tells
abbrev pub bare : UnitName → UnitName
bare u = record u { first = 0; second = 0 }

-- 1 for a unit that is the right to this slot; 0 for each other.
abbrev pub is_right : SlotName → UnitName → ℕ
is_right name u = one_if (same (right_to name) (bare u))

-- 1 for a unit that is the region of this slot, whatever numbers it tells; 0 for each other.
abbrev pub is_region : SlotName → UnitName → ℕ
is_region name u = one_if (same (region_of name (record { faults = 0; erases = 0 })) (bare u))

-- shard j of an allocator
pub record IsShardOf (a : Allocator) (j : ℕ) (s : ShardState) : Type 0 where
  pub sound : IsShard s
  pub kind : s.kind ≡ a.kind
  pub first : s.first ≡ number_at a j 0
  pub step : s.step ≡ a.step
  pub capacity : s.capacity ≡ slots_at a j

module _ {P H : Type 0} where
  -- The units that all parts have given out.
  abbrev pub all_away : List (PoolPart P H) → List UnitName
  all_away [] = []
  all_away (x ∷ xs) = part_away x ++ all_away xs

  -- The units that all parts keep, as queues do of the slots in them.
  abbrev pub all_kept : List (PoolPart P H) → List UnitName
  all_kept [] = []
  all_kept (x ∷ xs) = part_kept x ++ all_kept xs

  -- The part is as its place has it by the plan: a shard of an allocator, the cell of a slot, a queue, or the list of
  -- heaps.
  abbrev pub StandsAs : Role → PoolPart P H → Type 0
  StandsAs (shard_role a j) (part.Shard s) = IsShardOf a j s
  StandsAs (cell_role name) (part.Memory cell) = (name.kind ≡ of_slot.Memory) × (cell.name ≡ name)
  StandsAs (cell_role name) (part.Table cell) = (name.kind ≡ of_slot.Table) × (cell.name ≡ name)
  StandsAs (cell_role name) (part.Stack cell) = (name.kind ≡ of_slot.Stack) × (cell.name ≡ name)
  StandsAs queue_role (part.Queue q) = Unit {0}
  StandsAs (heaps_role n) (part.Heaps heaps) = length heaps ≡ n
  StandsAs _ _ = ⊥

  -- Each part of the pool is as the plan has its place.
  pub record StandAsPlanned (plan : Plan) (parts : List (PoolPart P H)) : Type 0 where
    pub planned : IsPlanned plan (length parts)
    pub stand : (p : ℕ) → p < length parts → StandsAs (role_at plan p) (part_at p parts)

-- what a change of one part gives out and takes back, all of them together do
abbrev pub AwayFollows : Type 0 → Type 0 → Type 0
AwayFollows P H = (w : UnitName → ℕ) (place : ℕ) (change : PoolPart P H → PoolPart P H) (parts : List (PoolPart P H)) (gave took : ℕ) → place < length parts
    → total w (part_away (change (part_at place parts))) + took ≡ total w (part_away (part_at place parts)) + gave
    → total w (all_away (with_part place change parts)) + took ≡ total w (all_away parts) + gave

-- What a change of one part brings and takes of what it keeps, all parts together do.
abbrev pub KeptFollows : Type 0 → Type 0 → Type 0
KeptFollows P H = (w : UnitName → ℕ) (place : ℕ) (change : PoolPart P H → PoolPart P H) (parts : List (PoolPart P H)) (came left : ℕ) → place < length parts
    → total w (part_kept (change (part_at place parts))) + left ≡ total w (part_kept (part_at place parts)) + came
    → total w (all_kept (with_part place change parts)) + left ≡ total w (all_kept parts) + came

-- No slot is given out twice, and no region of a slot, whatever numbers they tell.
abbrev pub AwayOnce : Type 0 → Type 0 → Type 0
AwayOnce P H = (plan : Plan) (parts : List (PoolPart P H)) (name : SlotName) → StandAsPlanned plan parts → (total (is_right name) (all_away parts) ≤ 1) × (total (is_region name) (all_away parts) ≤ 1)
