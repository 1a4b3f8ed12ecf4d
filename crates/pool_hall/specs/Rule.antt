-- The rule of a hall: what is true of its words, the parts at home and the views of all seats, between any two steps.
use Rattle.std.specs.Prelude.{◌≡◌, ℕ, ◌+◌, ◌*◌, ◌-◌, ◌%◌, ◌^◌, ◌<◌, ◌≤◌, true, List, [], length, IfSome, None, slice_index}
use mathlib.Core.Option.{Option, some, none}
use lib.ListN.{get_elem?}
use Rattle.atomic_table.specs.Table.{State}
use Rattle.pool_hall.specs.declared.unit_name.UnitName.{UnitName}
use Rattle.pool_hall.specs.declared.view.View.{View}
use Rattle.pool_hall.specs.Sum.{total, often}
use Rattle.pool_hall.specs.Unit.{times, Beside}
use Rattle.pool_hall.specs.Tally.{holding, having, counted, additions, low_additions, subtractions, portion_count, number, sum, all_portions}
use Rattle.pool_hall.specs.Meaning.{Meaning, StandsAt}

-- The word of the place n, and of the counter c where n is the number of places and c. The words of the first `packed` places lie side by side, and those after them 128 bytes apart, so that these share no cache line
abbrev pub word_of : ℕ → ℕ → ℕ
word_of packed n = n + 15 * (n + 1 - packed)

-- the view of a seat that has no portion: it is empty
abbrev pub nobody : {T : Type 0} → View T
nobody = record { parts = []; limits = []; held = None; units = []; rises = []; topped = []; added = []; low = []; subtracted = []; portions = 0 }

-- The view of a hall's first seat: all portions, and nothing else.
abbrev pub first_view : {T : Type 0} → List T → List ℕ → View T
first_view parts limits = record { parts = parts; limits = limits; held = None; units = []; rises = []; topped = []; added = []; low = []; subtracted = []; portions = all_portions }

module _ {T : Type 0} (m : Meaning T) (parts : List T) (limits : List ℕ) where
  -- How often the part at a place has this unit given out; not at all where there is no part.
  abbrev pub away_of : UnitName → Option T → ℕ
  away_of u none = 0
  away_of u (some x) = times u (m.away x)

  -- How often the part at the unit's own place has it given out.
  abbrev pub out : UnitName → List T → ℕ
  out u xs = away_of u (get_elem? xs (m.place parts limits u))

  -- how often the parts keep the unit
  abbrev pub keeping : UnitName → List T → ℕ
  keeping u xs = total (λ x. times u (m.kept x)) xs

  -- the units that the parts have away are those that they keep
  abbrev pub AwayIsKept : List T → Type 0
  AwayIsKept xs = (u : UnitName) → keeping u xs ≡ out u xs

  -- What is true of each view. Without a portion it is empty; with one it has the hall's parts and limits. The part
  -- that it holds is the one of that place. Its region units stand beside their pick units. A place that it saw topped
  -- is topped. It has at most as many subtractions, and as many low additions, as additions on each counter.
  pub record IsView (now : List T) (v : View T) : Type 0 where
    pub spent : v.portions ≡ 0 → v ≡ nobody
    pub made : 0 < v.portions → (v.parts ≡ parts) × (v.limits ≡ limits)
    pub held : IfSome v.held (λ h. get_elem? now h.place ≡ some h.part)
    pub beside : Beside v.units
    pub topped : (p : ℕ) (x : T) → 0 < often p v.topped → get_elem? now p ≡ some x → m.topped x ≡ true
    pub fewer : (c : ℕ) → number (subtractions c) v ≤ number (additions c) v
    pub low : (c : ℕ) → number (low_additions c) v ≤ number (additions c) v

  -- The rule on places, units and counts. A place's word is how many views hold it, 0 or 1; at 0 its part is at home.
  -- Each unit is with the views and kept by the parts as often as the part at its place has it away. Each count is the
  -- sum of its rises in the views, modulo 2^64, and exactly that for a steady part. All portions add up to the whole.
  pub record Places (packed : ℕ) (s : State T (View T)) : Type 0 where
    pub now : List T
    pub wide : length s.words ≡ word_of packed (length parts + length limits)
    pub roomy : length s.homes ≡ length parts
    pub all : length now ≡ length parts
    pub part : (p : ℕ) (x : T) → get_elem? now p ≡ some x → StandsAt m parts limits p x
    pub lock : (p : ℕ) → p < length parts → slice_index s.words (word_of packed p) ≡ sum (holding p) s.views
    pub once : (p : ℕ) → sum (holding p) s.views ≤ 1
    pub home : (p : ℕ) (x : T) → get_elem? now p ≡ some x → slice_index s.words (word_of packed p) ≡ 0 → get_elem? s.homes p ≡ some (some x)
    pub unit : (u : UnitName) → sum (having u) s.views + keeping u now ≡ out u now
    pub count : (p i : ℕ) (x : T) → get_elem? now p ≡ some x → slice_index (m.counts x) i ≡ sum (counted p i) s.views % 2 ^ 64
    pub exact : (p i : ℕ) (x : T) → get_elem? now p ≡ some x → m.steady x ≡ true → slice_index (m.counts x) i ≡ sum (counted p i) s.views
    pub portions : sum portion_count s.views ≡ all_portions
    pub each : (id : ℕ) (v : View T) → get_elem? s.views id ≡ some v → IsView now v

  -- The rule on counters: each word is the additions less the subtractions, modulo 2^64, and where some addition was not low, as many were low as the limit says
  pub record Counters (packed : ℕ) (s : State T (View T)) : Type 0 where
    pub word : (c : ℕ) → c < length limits → (slice_index s.words (word_of packed (length parts + c)) + sum (subtractions c) s.views) % 2 ^ 64 ≡ sum (additions c) s.views % 2 ^ 64
    pub full : (c : ℕ) → sum (low_additions c) s.views < sum (additions c) s.views → slice_index limits c ≤ sum (low_additions c) s.views

  -- The whole rule of a hall: of its places with their parts, and of its counters.
  pub record Lawful (packed : ℕ) (s : State T (View T)) : Type 0 where
    pub places : Places packed s
    pub counters : Counters packed s
