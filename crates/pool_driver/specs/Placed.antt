-- What a hall sees of a part of a pool, which tells of which pool it is.
use Rattle.std.specs.Prelude.{◌≡◌, ◌-◌, ℕ, ◌^◌, ◌==◌, if◌then◌else◌, Bool, true, false, List, [], ◌∷◌, Option, Some, None, length, ◌<◌, slice_index}
use Rattle.pool_pages.specs.MakerTold.{MakerTold}
use Rattle.pool_hall.specs.Meaning.{Meaning}
use Rattle.pool_hall.specs.declared.unit_name.UnitName.{UnitName}
use Rattle.pool_index.specs.Part.{shard_counts, is_topped}
use Rattle.pool_slots.specs.RegionCells.{CellState, cell_numbers}
use Rattle.pool_slots.specs.PartUnits.{part_away, part_kept}
use Rattle.pool_slots.specs.Plans.{home_of, region_place, IsPlanned}
use Rattle.pool_slots.specs.SlotQueues.{Queue}
use Rattle.pool_slots.specs.declared.part.PoolPart.{PoolPart}
use Rattle.pool_slots.specs.declared.part.PoolPart.TheVariants as part
use Rattle.pool_slots.specs.declared.plan.Plan.{Plan}
use Rattle.pool_slots.specs.declared.slot_name.SlotName.{SlotName}
use Rattle.pool_alloc.specs.BetweenSteps.{IsPartAt}
use Rattle.pool_alloc.specs.declared.pool_core.Settings.{Settings}
use Rattle.pool_driver.specs.Faults.{PartKeeps}

-- Which pool a part is of: what its maker of regions tells, its settings and its plan.
pub record About : Type 0 where
  pub maker : MakerTold
  pub settings : Settings
  pub plan : Plan

-- The pool of this maker, these settings and this plan.
abbrev pub about_by : MakerTold → Settings → Plan → About
about_by maker settings plan = record { maker = maker; settings = settings; plan = plan }

-- The slot that a unit is of.
abbrev pub name_of : UnitName → SlotName
name_of u = record { kind = u.kind; slot = u.slot }

-- The place that a unit belongs to: for a region that of its cell or of the list of heaps, for a right that of the shard where its slot is at home.
abbrev pub unit_place : Plan → UnitName → ℕ
unit_place plan u = if u.region then region_place plan (name_of u) else (home_of plan (name_of u)).place

-- The counts of a cell: the faults of its region when that was last there, and how often a region was put there of which nothing was known.
abbrev pub cell_counts : CellState → List ℕ
cell_counts cell = (cell_numbers cell).faults ∷ cell.unknown_puts ∷ []

-- A cell is topped where the count of its region's faults stands at its end.
abbrev pub cell_topped : CellState → Bool
cell_topped cell = (cell_numbers cell).faults == 2 ^ 64 - 1

-- The counts of a queue: how often it was taken whole, and how many slots were appended.
abbrev pub queue_counts : Queue → List ℕ
queue_counts q = q.takes ∷ q.appended ∷ []

module _ {P H : Type 0} where
  -- The counts of a part: those of a shard, of a cell or of a queue; the list of heaps has none.
  abbrev pub part_counts : PoolPart P H → List ℕ
  part_counts (part.Shard s) = shard_counts s
  part_counts (part.Memory cell) = cell_counts cell
  part_counts (part.Table cell) = cell_counts cell
  part_counts (part.Stack cell) = cell_counts cell
  part_counts (part.Queue q) = queue_counts q
  part_counts (part.Heaps heaps) = []

  -- The counts of cells never fall, those of other parts may.
  abbrev pub part_steady : PoolPart P H → Bool
  part_steady (part.Memory cell) = true
  part_steady (part.Table cell) = true
  part_steady (part.Stack cell) = true
  part_steady _ = false

  -- A part is topped: a shard of which each slot was used once, or a topped cell.
  abbrev pub part_topped : PoolPart P H → Bool
  part_topped (part.Shard s) = is_topped s
  part_topped (part.Memory cell) = cell_topped cell
  part_topped (part.Table cell) = cell_topped cell
  part_topped (part.Stack cell) = cell_topped cell
  part_topped _ = false

-- The counts of a part fit 64 bits.
abbrev pub IsSmall : {P H : Type 0} → PoolPart P H → Type 0
IsSmall x = (i : ℕ) → slice_index (part_counts x) i < 2 ^ 64

-- The place that a unit belongs to, in a hall whose parts tell this; where there is no part, it doesn't matter which.
abbrev pub place_by : Option About → UnitName → ℕ
place_by None u = 0
place_by (Some a) u = unit_place a.plan u

-- The pool that these parts are of, as the first of them tells it.
abbrev pub about_made : {T : Type 0} → (T → About) → List T → Option About
about_made about [] = None
about_made about (x ∷ xs) = Some (about x)

-- Parts of a hall in general: each tells of which pool it is, and has a part of the pool in it
module _ {T P H : Type 0} (about : T → About) (inner : T → PoolPart P H) where
  -- A part fits a place of a hall that was made with these parts: it tells of the hall's pool, whose plan is right for so many parts, and is
  -- what the plan has the place for. Its counts fit 64 bits, and no region that it keeps has fewer faults than its unit tells.
  pub record Fits (made : List T) (p : ℕ) (x : T) : Type 0 where
    pub of : about_made about made ≡ Some (about x)
    pub inside : p < length made
    pub planned : IsPlanned (about x).plan (length made)
    pub part : IsPartAt (about x).maker (about x).settings (about x).plan p (inner x)
    pub faults : PartKeeps (inner x)
    pub small : IsSmall (inner x)

  -- What a hall sees of a part of a pool.
  abbrev pub pool_meaning : Meaning T
  pool_meaning = record {
    fits = λ made limits p x. Fits made p x;
    away = λ x. part_away (inner x);
    kept = λ x. part_kept (inner x);
    counts = λ x. part_counts (inner x);
    steady = λ x. part_steady (inner x);
    topped = λ x. part_topped (inner x);
    place = λ made limits u. place_by (about_made about made) u;
  }
