-- What the calls on cells and queues do to the units that they have given out or keep.
use Rattle.std.proofs.Common.{◌≡◌, ℕ, ◌+◌, true, false, List, [], ◌∷◌, ◌++◌, length, refl, ap, subst, inl, inr, arith, Option, None, IsSome, slice_index_or}
use Rattle.pool_slots.proofs.Imports.{cases_lt, get_or_past, MemoryInModule, Pick, probe_picks, out_less, total, UnitName, total_append}
use Rattle.pool_slots.specs.Cells.{Cell, unmapped, unknown, previously_used, taken}
use Rattle.pool_slots.specs.RegionCells.{away_by, region_of}
use Rattle.pool_slots.specs.SlotQueues.{Queued, by_kind}
use Rattle.pool_slots.specs.PartUnits.{slot_units, units_of_slots, PicksCount, FreesCount, TakesCount, PutsCount, AppendsCount, QueueTakesCount}
use Rattle.pool_slots.specs.declared.slot_name.SlotName.{SlotName}
use Rattle.pool_slots.specs.declared.slot_name.RegionNumbers.{RegionNumbers}
use Rattle.pool_slots.proofs.ByKinds.{rearranged}

none_away : (w : UnitName → ℕ) (name : SlotName) (out : RegionNumbers) (held : Cell) → (held ≡ taken → ⊥) → total w (away_by name out held) ≡ 0
none_away w name out (unmapped region) there = refl
none_away w name out (unknown slot) there = refl
none_away w name out (previously_used slot) there = refl
none_away w name out taken there = absurd (there refl)

pub takes_count : TakesCount
takes_count w c there = let none = none_away w c.name c.out c.holds there in omega arith

pub puts_count : PutsCount
puts_count w held c out there =
    let none = none_away w c.name c.out held there in
    let was : total w (away_by c.name c.out c.holds) ≡ w (region_of c.name c.out) + 0 = ap (λ (x : Cell). total w (away_by c.name c.out x)) out in
    omega arith

pub units_append : (w : UnitName → ℕ) (ms ns : List Queued) → total w (units_of_slots (ms ++ ns)) ≡ total w (units_of_slots ms) + total w (units_of_slots ns)
units_append w [] ns = omega arith
units_append w (m ∷ ms) ns =
    let r = units_append w ms ns in
    let a = total_append w (slot_units m) (units_of_slots (ms ++ ns)) in
    let b = total_append w (slot_units m) (units_of_slots ms) in
    omega arith

pub units_by_kind : (w : UnitName → ℕ) (ms : List Queued) → total w (units_of_slots (by_kind ms)) ≡ total w (units_of_slots ms)
units_by_kind w =
    rearranged (λ ms ns. total w (units_of_slots ns) ≡ total w (units_of_slots ms)) refl (λ m ms front back had.
    (let a = units_append w front (m ∷ back) in
    let b = units_append w front back in
    let c = total_append w (slot_units m) (units_of_slots back) in
    let d = total_append w (slot_units m) (units_of_slots ms) in
    omega (arith, a, b, c, d, had)))

pub appends_count : AppendsCount
appends_count w q more = let a = units_append w q.slots more.slots in let b = units_by_kind w (q.slots ++ more.slots) in omega arith

pub queue_takes_count : QueueTakesCount
queue_takes_count w q spare none =
    let z : total w (units_of_slots spare.slots) ≡ 0 = ap (λ (l : List Queued). total w (units_of_slots l)) none in
    omega arith

pub picks_count : PicksCount
picks_count u want s sound = (probe_picks (Pick want) s sound).flow u

pub frees_count : FreesCount
frees_count u slot bytes s used =
    elim (cases_lt slot.0 (length s.used)) [
      | inl inside ↦ out_less s.kind s.step u s.first slot.0 s.used inside used
      | inr past ↦
          let none : slice_index_or s.used slot.0 None ≡ None = get_or_past s.used slot.0 None past in
          let S : Option (Option MemoryInModule) → Type 0 = λ o. IsSome o in
          let some : false ≡ true = subst S none used in
          absurd cc
    ]
