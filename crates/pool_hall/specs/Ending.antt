-- What a seat with all portions knows of the parts and counters of a hall that it closes.
use Rattle.std.specs.Prelude.{◌≡◌, ℕ, ◌%◌, ◌^◌, ◌<◌, ◌≤◌, true, List, Some, slice_get, slice_index}
use Rattle.pool_hall.specs.declared.view.View.{View}
use Rattle.pool_hall.specs.Sum.{often}
use Rattle.pool_hall.specs.Tally.{counted, additions, low_additions, number}
use Rattle.pool_hall.specs.Meaning.{Meaning}

module _ {T : Type 0} (m : Meaning T) (limits : List ℕ) (v : View T) where
  -- The view v tells of the parts xs which of them are topped and what they counted, exactly so of steady ones, and which counters reached their limit
  pub record AllTold (xs : List T) : Type 0 where
    pub topped : (p : ℕ) (x : T) → slice_get xs p ≡ Some x → 0 < often p v.topped → m.topped x ≡ true
    pub count : (p i : ℕ) (x : T) → slice_get xs p ≡ Some x → slice_index (m.counts x) i ≡ number (counted p i) v % 2 ^ 64
    pub exact : (p i : ℕ) (x : T) → slice_get xs p ≡ Some x → m.steady x ≡ true → slice_index (m.counts x) i ≡ number (counted p i) v
    -- where some addition was not low, as many were low as the limit says
    pub full : (c : ℕ) → number (low_additions c) v < number (additions c) v → slice_index limits c ≤ number (low_additions c) v
