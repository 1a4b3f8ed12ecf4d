-- What slots and regions weigh, and how what a shard has given out changes as one of its slots is picked or freed.
use Rattle.std.proofs.Common.{◌≡◌, ℕ, zero, suc, ◌+◌, ◌*◌, ◌<◌, ◌≤◌, Bool, true, false, List, [], ◌∷◌, length, Option, Some, None, refl, ap, ◌∙◌, inl, inr, arith, ◌⊎◌, ◌&&◌, ◌==◌, IfSome, is_some, option_map, slice_index_or, slice_set}
use Rattle.pool_alloc.proofs.Imports.{IsChoice, choice_taken, unit_right, unit_region, option_map_or, cases_lt, total, kind_number, pick_unit, same, SlotKind, UnitName, used_units, shard_units, slot_unit, ShardState, IsShard, Choice, warm_at, next_cold, choice, entry_at, slot_and_bytes, after_choice, after_full, after_pick, after_free, pick_answer, is_used, MemoryInModule, SlotId, warm_slot_free, cold_slot_free, RegionNumbers, SlotName, same_self, same_is}
use Rattle.pool_hall.specs.Sum.{one_if}
use Rattle.pool_alloc.specs.Places.{Thing, right_to, region_of, slot_count, region_count, both_count}

pub none_of : (a b : Bool) → one_if (a && (b && false)) ≡ 0
none_of true true = refl
none_of true false = refl
none_of false b = refl

pub one_true : (b : Bool) → 0 < one_if b → b ≡ true
one_true true some = refl
one_true false some = absurd (omega arith)

-- a slot is itself and no other, and so is its region, whatever numbers that tells; neither is the other
pub slot_once : (name : SlotName) → slot_count (right_to name) name ≡ 1
slot_once name = ap one_if (same_self (unit_right name))

pub region_once : (name : SlotName) (n : RegionNumbers) → region_count (region_of name) name n ≡ 1
region_once name n = ap one_if (same_self (unit_region name (record { faults = 0; erases = 0 })))

pub slot_regions : (name other : SlotName) → slot_count (region_of name) other ≡ 0
slot_regions name other = none_of (kind_number name.kind == kind_number other.kind) (name.slot == other.slot)

pub region_rights : (name other : SlotName) (n : RegionNumbers) → region_count (right_to name) other n ≡ 0
region_rights name other n = none_of (kind_number name.kind == kind_number other.kind) (name.slot == other.slot)

-- a slot and its region weigh the same, each as what it is
pub both_regions : (name other : SlotName) (n : RegionNumbers) → both_count (region_of name) other n ≡ both_count (right_to name) other n
both_regions name other n =
    let same' : region_count (region_of name) other n ≡ slot_count (right_to name) other = refl in
    omega (arith, slot_regions name other, region_rights name other n, same')

-- a right to a slot of which the weight is some is the right to that slot
pub right_named : (name other : SlotName) → 0 < slot_count (right_to name) other → name ≡ other
right_named name other some = ap (λ (u : UnitName). record { kind = u.kind; slot = u.slot }) (same_is (unit_right name) (unit_right other) (one_true (same (unit_right name) (unit_right other)) some))

pub slot_other : (name other : SlotName) → (name ≡ other → ⊥) → slot_count (right_to name) other ≡ 0
slot_other name other apart =
    elim (cases_lt 0 (slot_count (right_to name) other)) [
      | inl some ↦ absurd (apart (right_named name other some))
      | inr none ↦ omega (arith, none)
    ]

-- one slot more is used
pub used_more : (t : Thing) (kind : SlotKind) (step first : ℕ) (uses : List (Option (Option MemoryInModule))) (k : ℕ) (want : Option MemoryInModule) → k < length uses → is_some (slice_index_or uses k None) ≡ false → total t (used_units kind step first (slice_set uses k (Some want))) ≡ total t (used_units kind step first uses) + t (pick_unit kind (first + k * step))
used_more t kind step first [] k want below free = absurd (omega arith)
used_more t kind step first (None ∷ uses) zero want below free =
    let here : t (pick_unit kind (first + 0 * step)) ≡ t (pick_unit kind first) = ap (λ (n : ℕ). t (pick_unit kind n)) (omega arith) in
    omega arith
used_more t kind step first (Some u ∷ uses) zero want below free = absurd cc
used_more t kind step first (None ∷ uses) (suc k) want below free =
    let here : t (pick_unit kind (first + step + k * step)) ≡ t (pick_unit kind (first + suc k * step)) = ap (λ (n : ℕ). t (pick_unit kind n)) (omega arith) in
    omega (arith, used_more t kind step (first + step) uses k want (omega (arith, below)) free)
used_more t kind step first (Some u ∷ uses) (suc k) want below free =
    let here : t (pick_unit kind (first + step + k * step)) ≡ t (pick_unit kind (first + suc k * step)) = ap (λ (n : ℕ). t (pick_unit kind n)) (omega arith) in
    omega (arith, used_more t kind step (first + step) uses k want (omega (arith, below)) free)

-- one slot less is
pub used_less : (t : Thing) (kind : SlotKind) (step first : ℕ) (uses : List (Option (Option MemoryInModule))) (k : ℕ) → k < length uses → is_some (slice_index_or uses k None) ≡ true → total t (used_units kind step first (slice_set uses k None)) + t (pick_unit kind (first + k * step)) ≡ total t (used_units kind step first uses)
used_less t kind step first [] k below used = absurd (omega arith)
used_less t kind step first (None ∷ uses) zero below used = absurd cc
used_less t kind step first (Some u ∷ uses) zero below used =
    let here : t (pick_unit kind (first + 0 * step)) ≡ t (pick_unit kind first) = ap (λ (n : ℕ). t (pick_unit kind n)) (omega arith) in
    omega arith
used_less t kind step first (None ∷ uses) (suc k) below used =
    let here : t (pick_unit kind (first + step + k * step)) ≡ t (pick_unit kind (first + suc k * step)) = ap (λ (n : ℕ). t (pick_unit kind n)) (omega arith) in
    omega (arith, used_less t kind step (first + step) uses k (omega (arith, below)) used)
used_less t kind step first (Some u ∷ uses) (suc k) below used =
    let here : t (pick_unit kind (first + step + k * step)) ≡ t (pick_unit kind (first + suc k * step)) = ap (λ (n : ℕ). t (pick_unit kind n)) (omega arith) in
    omega (arith, used_less t kind step (first + step) uses k (omega (arith, below)) used)

-- what is given out of a shard is the right to a used slot
pub record IsUsedAs (name : SlotName) (kind : SlotKind) (step first : ℕ) (uses : List (Option (Option MemoryInModule))) : Type 0 where
  pub slot : ℕ
  pub inside : slot < length uses
  pub used : is_some (slice_index_or uses slot None) ≡ true
  pub kind_is : name.kind ≡ kind
  pub number : first + slot * step ≡ name.slot

used_behind : (name : SlotName) (kind : SlotKind) (step first : ℕ) (u : Option (Option MemoryInModule)) (uses : List (Option (Option MemoryInModule))) → IsUsedAs name kind step (first + step) uses → IsUsedAs name kind step first (u ∷ uses)
used_behind name kind step first u uses is = record { slot = suc is.slot; inside = omega (arith, is.inside); used = is.used; kind_is = is.kind_is; number = omega (arith, is.number) }

pub used_as : (name : SlotName) (kind : SlotKind) (step first : ℕ) (uses : List (Option (Option MemoryInModule))) → 0 < total (right_to name) (used_units kind step first uses) → IsUsedAs name kind step first uses
used_as name kind step first [] some = absurd (omega arith)
used_as name kind step first (None ∷ uses) some = used_behind name kind step first None uses (used_as name kind step (first + step) uses (omega (arith, some)))
used_as name kind step first (Some u ∷ uses) some =
    let its : SlotName = record { kind = kind; slot = first } in
    elim (some_of_two (slot_count (right_to name) its) (total (right_to name) (used_units kind step (first + step) uses)) some) [
      | inl here ↦
          let is : name ≡ its = right_named name its here in
          record { slot = zero; inside = omega arith; used = refl; kind_is = ap (λ (n : SlotName). n.kind) is; number = omega (arith, ap (λ (n : SlotName). n.slot) is) }
      | inr later ↦ used_behind name kind step first (Some u) uses (used_as name kind step (first + step) uses later)
    ]
  where
    some_of_two : (m n : ℕ) → 0 < m + n → (0 < m) ⊎ (0 < n)
    some_of_two zero n h = inr (omega (arith, h))
    some_of_two (suc m) n h = inl (omega arith)

pub used_there : (name : SlotName) (step first : ℕ) (uses : List (Option (Option MemoryInModule))) (l : ℕ) → l < length uses → is_some (slice_index_or uses l None) ≡ true → first + l * step ≡ name.slot → 1 ≤ total (right_to name) (used_units name.kind step first uses)
used_there name step first uses l inside used number =
    let here : right_to name (pick_unit name.kind (first + l * step)) ≡ 1 = ap (λ (n : ℕ). right_to name (pick_unit name.kind n)) number ∙ slot_once name in
    omega (arith, here, used_less (right_to name) name.kind step first uses l inside used)

-- and of a shard no region is
pub no_units : (name : SlotName) (n : RegionNumbers) (kind : SlotKind) (step first : ℕ) (uses : List (Option (Option MemoryInModule))) → total (λ w. one_if (same (unit_region name n) w)) (used_units kind step first uses) ≡ 0
no_units name n kind step first [] = refl
no_units name n kind step first (None ∷ uses) = no_units name n kind step (first + step) uses
no_units name n kind step first (Some u ∷ uses) = omega (arith, none_of (kind_number name.kind == kind_number kind) (name.slot == first), no_units name n kind step (first + step) uses)

pub choice_more : (t : Thing) (want : Option MemoryInModule) (s : ShardState) (c : Choice) → IsShard s → IsChoice s c → total t (shard_units (after_choice want s c)) ≡ total t (shard_units s) + t (slot_unit s (slot_and_bytes s c).0.0)
choice_more t want s (warm_at i) sound is =
    let free = warm_slot_free s i sound is in
    used_more t s.kind s.step s.first s.used (entry_at s i).slot.0 want free.within (ap is_some free.unused)
choice_more t want s next_cold sound is =
    let free = cold_slot_free s sound in
    used_more t s.kind s.step s.first s.used s.cold want (omega (arith, is, sound.entries)) (ap is_some free.unused)

-- how much the slot weighs that a pick answered
abbrev pub picked_count : Thing → ShardState → Option (SlotId × ℕ) → ℕ
picked_count t s (Some p) = t (slot_unit s p.0.0)
picked_count t s None = 0

pick_more_of : (t : Thing) (want : Option MemoryInModule) (s : ShardState) (o : Option Choice) → IsShard s → IfSome o (IsChoice s) → total t (shard_units (option_map_or (after_choice want s) o (after_full s))) ≡ total t (shard_units s) + picked_count t s (option_map (slot_and_bytes s) o)
pick_more_of t want s None sound is = omega arith
pick_more_of t want s (Some c) sound is = choice_more t want s c sound is

-- a pick gives out the slot that it answers, and a free takes back the one that is freed
pub pick_counts : (t : Thing) (want : Option MemoryInModule) (s : ShardState) → IsShard s → total t (shard_units (after_pick want s)) ≡ total t (shard_units s) + picked_count t s (pick_answer want s)
pick_counts t want s sound = pick_more_of t want s (choice want s) sound (choice_taken want s)

pub free_counts : (t : Thing) (slot : SlotId) (bytes : ℕ) (s : ShardState) → slot.0 < length s.used → is_used s slot.0 ≡ true → total t (shard_units (after_free slot bytes s)) + t (slot_unit s slot.0) ≡ total t (shard_units s)
free_counts t slot bytes s inside used = used_less t s.kind s.step s.first s.used slot.0 inside used
