-- What a step does to a part besides moving units: the part stays topped, and where it is steady what it counts never falls.
use Rattle.std.specs.Prelude.{◌≡◌, ℕ, ◌<◌, ◌≤◌, true, List, length, slice_index}
use Rattle.pool_slots.specs.Parts.{part_at}
use Rattle.pool_slots.specs.declared.part.PoolPart.{PoolPart}
use Rattle.pool_driver.specs.Faults.{PartKeeps}
use Rattle.pool_driver.specs.Placed.{IsSmall, part_counts, part_steady, part_topped}

module _ {P H : Type 0} where
  -- The part stays topped, and where it is steady what it counts never falls.
  pub record PartGrows (x y : PoolPart P H) : Type 0 where
    pub topped : part_topped x ≡ true → part_topped y ≡ true
    pub steady : part_steady y ≡ part_steady x
    pub rises : part_steady y ≡ true → (i : ℕ) → slice_index (part_counts x) i ≤ slice_index (part_counts y) i

  -- What is so of each part of a pool besides what a core says: its counts fit 64 bits, and no region that it keeps has fewer faults than
  -- its unit tells.
  pub record IsKept (x : PoolPart P H) : Type 0 where
    pub faults : PartKeeps x
    pub small : IsSmall x

  abbrev pub AreKept : List (PoolPart P H) → Type 0
  AreKept parts = (p : ℕ) → p < length parts → IsKept (part_at p parts)
