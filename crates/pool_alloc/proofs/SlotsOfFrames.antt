-- What follows for a slot, and for a region, that a frame has, where the frame fits the pool.
use Rattle.std.proofs.Common.{◌≡◌, ℕ, ◌+◌, ◌*◌, ◌/◌, ◌<◌, ◌≤◌, true, false, refl, sym, ap, subst, ◌∙◌, arith, Bool, List, [], ◌∷◌, length, inl, inr, remove, nat_lt, Option, Some, None}
use Rattle.pool_alloc.proofs.Imports.{all_kept, shard_units, false_from_ne_true, cases_lt, mul-div_cancel, total, same, UnitName, inside, total_some, total_append, same_is, same_self, MakerTold, ShardState, IsShard, is_used, one_warm, Cell, is_taken, unmapped, unknown, previously_used, taken, CellState, cell_away, away_by, unit_region, part_away, part_kept, part_at, cell_of_part, Role, shard_role, cell_role, queue_role, heaps_role, role_at, home_of, RegionNumbers, SlotName, PoolPart, cell_at, list_at, units_of_out_slots, IsHere, IsOutOf, is_out, heap_entry, memory_of, heaps_away, IsOfOutHeap, heap_slot, HeapEntry, heap_kind, read_at, away_parts, of_kind}
use Rattle.pool_hall.specs.Sum.{one_if}
use Rattle.pool_slots.specs.declared.part.PoolPart.TheVariants as part
use Rattle.pool_alloc.specs.HeapLeases.{heap_numbers, heap_slot_taken}
use Rattle.pool_alloc.specs.Leases.{slot_taken, Lease}
use Rattle.pool_alloc.specs.Places.{Thing, right_to, region_of, region_count, taken_count, kept_count, away_count, phase_count, frame_count, release_count, purge_count, of_units, heap_memory_count}
use Rattle.pool_alloc.specs.Objects.{slot_of_object}
use Rattle.pool_alloc.specs.declared.frame.TakenSlot.{TakenSlot}
use Rattle.pool_alloc.specs.StepReads.{shard_in, heaps_in, shard_at, heaps_at, cell_named}
use Rattle.pool_alloc.specs.BetweenSteps.{HasCells, IsSlotName, IsPartFor, IsCore, FitsCore}
use Rattle.pool_alloc.specs.PoolAndHolders.{times_warm}
use Rattle.pool_alloc.specs.declared.pool_core.PoolCore.{PoolCore}
use Rattle.pool_alloc.specs.declared.frame.Frame.{Frame}
use Rattle.pool_alloc.specs.declared.frame.Phase.{Phase}
use Rattle.pool_alloc.specs.declared.frame.Phase.TheVariants.{TakeRegion, Empty, Instantiate, MakeMemory, MakeTable, CountObject, PutBack, FreeOne, UncountObject, TakeHeap, MakeHeap, CountHeap, PutNoHeap, UncountHeap, PutHeap, FreeHeap, Reset, Purge, Release}
use Rattle.pool_alloc.proofs.KeptCounts.{out_once, cell_away_in, heaps_away_in, away_is_taken}
use Rattle.pool_alloc.proofs.PlanPlaces.{IsShardPlace, at_home, cell_below}
use Rattle.pool_alloc.proofs.PoolParts.{HasPlace, place_of, name_in, sound_shard, sound_cell, slot_of_shard}
use Rattle.pool_alloc.proofs.QueueCounts.{queued_regions, leased_regions, tables_regions, freed_regions}
use Rattle.pool_alloc.proofs.SlotCounts.{IsUsedAs, used_as, region_rights, region_once, slot_regions, both_regions, one_true, no_units}
use Rattle.pool_alloc.specs.declared.purge.PurgeStep.{PurgeStep}
use Rattle.pool_alloc.specs.declared.purge.PurgeStep.TheVariants as purging_step
use Rattle.pool_alloc.specs.declared.release.ReleaseStep.{ReleaseStep}
use Rattle.pool_alloc.specs.declared.release.ReleaseStep.TheVariants as releasing_step

-- a number is that of one slot
pub step_once : (first step m l k : ℕ) → 0 < step → first + m * step ≡ k → first + l * step ≡ k → m ≡ l
step_once first step m l k some here there =
    let same' : m * step ≡ l * step = omega (arith, here, there) in
    sym (mul-div_cancel m some) ∙ ap (λ (n : ℕ). n / step) same' ∙ mul-div_cancel l some

-- a cell that has given out a region is that of the region's slot, and remembers its numbers
out_rights : (name own : SlotName) (out : RegionNumbers) (held : Cell) → total (right_to name) (away_by own out held) ≡ 0
out_rights name own out (unmapped region) = refl
out_rights name own out (unknown slot) = refl
out_rights name own out (previously_used slot) = refl
out_rights name own out taken = omega (arith, region_rights name own out)

out_unit : (u : UnitName) (name : SlotName) (out : RegionNumbers) (held : Cell) → 0 < total (λ w. one_if (same u w)) (away_by name out held) → (is_taken held ≡ true) × (u ≡ unit_region name out)
out_unit u name out (unmapped region) some = absurd (omega arith)
out_unit u name out (unknown slot) some = absurd (omega arith)
out_unit u name out (previously_used slot) some = absurd (omega arith)
out_unit u name out taken some = (refl, same_is u (unit_region name out) (one_true (same u (unit_region name out)) (omega (arith, some))))

-- the weight of one region's unit alone
abbrev pub unit_weight : SlotName → RegionNumbers → Thing
unit_weight name n w = one_if (same (unit_region name n) w)

pub unit_once : (name : SlotName) (n : RegionNumbers) → region_count (unit_weight name n) name n ≡ 1
unit_once name n = ap one_if (same_self (unit_region name n))

-- a slot that was taken has its region
object_regions : (name : SlotName) (at : TakenSlot) → taken_count (region_of name) at ≤ taken_count (right_to name) at
object_regions name at = omega (arith, both_regions name at.name at.numbers)

-- the slot of no heap has a cell
no_heap_region : {H : Type 0} (name : SlotName) (n : RegionNumbers) (heaps : List (HeapEntry H)) → HasCells name.kind → total (unit_weight name n) (heaps_away heaps) ≡ 0
no_heap_region {H} name n heaps cells =
    elim (cases_lt 0 (total (unit_weight name n) (heaps_away heaps))) [
      | inl some ↦
          let of' : IsOfOutHeap H (unit_region name n) heaps = (units_of_out_slots heaps).named (unit_region name n) some in
          let none : HasCells heap_kind = subst HasCells (ap (λ (u : UnitName). u.kind) of'.is) cells in
          absurd none
      | inr none ↦ omega (arith, none)
    ]

-- the unit of a heap is none of a cell
no_cell_heap : (slot : ℕ) (n : RegionNumbers) (own : SlotName) (cell : CellState) → cell.name ≡ own → HasCells own.kind → total (unit_weight (heap_slot slot) n) (cell_away cell) ≡ 0
no_cell_heap slot n own cell named cells =
    elim (cases_lt 0 (total (unit_weight (heap_slot slot) n) (cell_away cell))) [
      | inl some ↦
          let it = out_unit (unit_region (heap_slot slot) n) cell.name cell.out cell.holds some in
          let none : HasCells heap_kind = subst HasCells (sym (ap (λ (u : UnitName). u.kind) it.1)) (subst (λ (m : SlotName). HasCells m.kind) (sym named) cells) in
          absurd none
      | inr none ↦ omega (arith, none)
    ]

one_warm_at_most : (b : Bool) → one_warm b ≤ 1
one_warm_at_most true = omega arith
one_warm_at_most false = omega arith

module _ {P H : Type 0} where
  -- A slot that the pool has given out is one of the pool, and used in its shard.
  pub record IsOut (c : PoolCore P H) (name : SlotName) : Type 0 where
    pub inside : name.slot < of_kind name.kind c.plan.totals
    pub used : is_used (shard_at (home_of c.plan name).place c) (home_of c.plan name).local.0 ≡ true

  out_of_shard : (maker : MakerTold) (p : ℕ) (name : SlotName) (c : PoolCore P H) → IsCore maker c → IsShardPlace c.plan p → 0 < total (right_to name) (shard_units (shard_at p c)) → IsOut c name
  out_of_shard maker p name c core place some =
      let s : ShardState = shard_at p c in
      let it : IsUsedAs name s.kind s.step s.first s.used = used_as name s.kind s.step s.first s.used some in
      let sound = sound_shard maker p c core place in
      let at = slot_of_shard maker p it.slot c core place (omega (arith, it.inside, sound.entries)) in
      let is : name_in s it.slot ≡ name = (λ i. record { kind = sym it.kind_is i; slot = it.number i }) in
      let within : name.slot < of_kind name.kind c.plan.totals = subst (λ (n : SlotName). n.slot < of_kind n.kind c.plan.totals) is at.inside in
      let home : p ≡ (home_of c.plan name).place = at.home ∙ ap (λ (n : SlotName). (home_of c.plan n).place) is in
      let has : HasPlace c.plan s name = subst (λ (q : ℕ). HasPlace c.plan (shard_at q c) name) (sym home) (place_of maker c name core within) in
      let local : it.slot ≡ (home_of c.plan name).local.0 = step_once s.first s.step it.slot (home_of c.plan name).local.0 name.slot sound.numbers.apart it.number has.number in
      record { inside = within; used = subst (λ (q : ℕ). is_used (shard_at q c) (home_of c.plan name).local.0 ≡ true) home (subst (λ (l : ℕ). is_used s l ≡ true) local it.used) }

  out_by : (maker : MakerTold) (name : SlotName) (p : ℕ) (c : PoolCore P H) → IsCore maker c → (r : Role) (x : PoolPart P H) → role_at c.plan p ≡ r → part_at p c.parts ≡ x → IsPartFor maker c.settings r x → 0 < total (right_to name) (part_away x) → IsOut c name
  out_by maker name p c core (shard_role a j) (part.Shard s) role is for some =
      out_of_shard maker p name c core (record { allocator = a; index = j; role = role }) (subst (λ (y : PoolPart P H). 0 < total (right_to name) (shard_units (shard_in y))) (sym is) some)
  out_by maker name p c core (cell_role own) (part.Memory cell) role is for some = absurd (omega (arith, some, out_rights name cell.name cell.out cell.holds))
  out_by maker name p c core (cell_role own) (part.Table cell) role is for some = absurd (omega (arith, some, out_rights name cell.name cell.out cell.holds))
  out_by maker name p c core (cell_role own) (part.Stack cell) role is for some = absurd (omega (arith, some, out_rights name cell.name cell.out cell.holds))
  out_by maker name p c core queue_role (part.Queue q) role is for some = absurd (omega (arith, some))
  out_by maker name p c core (heaps_role n) (part.Heaps heaps) role is for some = absurd (omega (arith, some, (units_of_out_slots heaps).no_rights name))
  out_by maker name p c core r x role is for some = absurd for

  pub right_is_out : (maker : MakerTold) (name : SlotName) (c : PoolCore P H) → IsCore maker c → 0 < away_count (right_to name) c → IsOut c name
  right_is_out maker name c core some =
      let it = total_some (λ (x : PoolPart P H). total (right_to name) (part_away x)) c.parts (omega (arith, some, away_parts (right_to name) c.parts)) in
      let is : part_at it.0 c.parts ≡ it.1 = read_at c.parts it.0 _ it.1 it.2 in
      out_by maker name it.0 c core (role_at c.plan it.0) it.1 refl is (subst (IsPartFor maker c.settings (role_at c.plan it.0)) is (core.parts it.0 (inside c.parts it.0 it.1 it.2))) it.3

  -- so it isn't warm there
  pub not_warm : (maker : MakerTold) (name : SlotName) (c : PoolCore P H) → IsCore maker c → 0 < away_count (right_to name) c → times_warm name c ≡ 0
  not_warm maker name c core some =
      let p : ℕ = (home_of c.plan name).place in
      let k : ℕ = (home_of c.plan name).local.0 in
      let out = right_is_out maker name c core some in
      let home = at_home c.plan (length c.parts) name core.plan out.inside in
      let sound : IsShard (shard_at p c) = sound_shard maker p c core (record { allocator = home.allocator; index = home.shard; role = home.role }) in
      omega (arith, sound.partition k, ap one_warm out.used, one_warm_at_most (nat_lt k (shard_at p c).cold))

  pub none_past : (maker : MakerTold) (name : SlotName) (c : PoolCore P H) → IsCore maker c → of_kind name.kind c.plan.totals ≤ name.slot → away_count (right_to name) c ≡ 0
  none_past maker name c core past =
      elim (cases_lt 0 (away_count (right_to name) c)) [
        | inl some ↦ absurd (omega (arith, past, (right_is_out maker name c core some).inside))
        | inr none ↦ omega (arith, none)
      ]

  -- A region that it has given out is that of a slot of the pool, whose cell is empty and has the numbers of the region.
  pub record HasGone (c : PoolCore P H) (name : SlotName) (n : RegionNumbers) : Type 0 where
    pub named : IsSlotName c.plan name
    pub away : is_taken (cell_named name c).holds ≡ true
    pub out : (cell_named name c).out ≡ n

  gone_of_cell : (maker : MakerTold) (name : SlotName) (n : RegionNumbers) (p : ℕ) (cell : CellState) (c : PoolCore P H) → role_at c.plan p ≡ cell_role name → cell_of_part (part_at p c.parts) ≡ cell → HasCells name.kind → (is_taken cell.holds ≡ true) × (unit_region name n ≡ unit_region name cell.out) → HasGone c name n
  gone_of_cell maker name n p cell c role is pooled it =
      let there : cell_named name c ≡ cell = ap (λ (q : ℕ). cell_of_part (part_at q c.parts)) (sym (cell_at c.plan p name role)) ∙ is in
      record {
        named = record { cells = pooled; inside = cell_below c.plan p name role };
        away = ap (λ (x : CellState). is_taken x.holds) there ∙ it.0;
        out = ap (λ (x : CellState). x.out) there ∙ (λ i. record { faults = sym (ap (λ (x : UnitName). x.first) it.1) i; erases = sym (ap (λ (x : UnitName). x.second) it.1) i });
      }

  gone_in : (maker : MakerTold) (name : SlotName) (n : RegionNumbers) (p : ℕ) (own : SlotName) (cell : CellState) (c : PoolCore P H) → role_at c.plan p ≡ cell_role own → cell_of_part (part_at p c.parts) ≡ cell → cell.name ≡ own → HasCells own.kind → 0 < total (unit_weight name n) (cell_away cell) → HasGone c name n
  gone_in maker name n p own cell c role is named pooled some =
      let it = out_unit (unit_region name n) cell.name cell.out cell.holds some in
      let its : name ≡ cell.name = ap (λ (u : UnitName). record { kind = u.kind; slot = u.slot }) it.1 in
      let is_own : own ≡ name = sym (its ∙ named) in
      gone_of_cell maker name n p cell c (role ∙ ap cell_role is_own) is (subst (λ (m : SlotName). HasCells m.kind) is_own pooled) (it.0, it.1 ∙ ap (λ (m : SlotName). unit_region m cell.out) (sym its))

  gone_by : (maker : MakerTold) (name : SlotName) (n : RegionNumbers) (p : ℕ) (c : PoolCore P H) → IsCore maker c → HasCells name.kind → (r : Role) (x : PoolPart P H) → role_at c.plan p ≡ r → part_at p c.parts ≡ x → IsPartFor maker c.settings r x → 0 < total (unit_weight name n) (part_away x) → HasGone c name n
  gone_by maker name n p c core cells (shard_role a j) (part.Shard s) role is for some = absurd (omega (arith, some, no_units name n s.kind s.step s.first s.used))
  gone_by maker name n p c core cells (cell_role own) (part.Memory cell) role is for some = gone_in maker name n p own cell c role (ap cell_of_part is) for.1.named (subst HasCells (sym for.0) tt) some
  gone_by maker name n p c core cells (cell_role own) (part.Table cell) role is for some = gone_in maker name n p own cell c role (ap cell_of_part is) for.1.named (subst HasCells (sym for.0) tt) some
  gone_by maker name n p c core cells (cell_role own) (part.Stack cell) role is for some = gone_in maker name n p own cell c role (ap cell_of_part is) for.1.named (subst HasCells (sym for.0) tt) some
  gone_by maker name n p c core cells queue_role (part.Queue q) role is for some = absurd (omega (arith, some))
  gone_by maker name n p c core cells (heaps_role m) (part.Heaps heaps) role is for some = absurd (omega (arith, some, no_heap_region name n heaps cells))
  gone_by maker name n p c core cells r x role is for some = absurd for

  region_is_gone : (maker : MakerTold) (name : SlotName) (n : RegionNumbers) (c : PoolCore P H) → IsCore maker c → HasCells name.kind → 0 < away_count (unit_weight name n) c → HasGone c name n
  region_is_gone maker name n c core cells some =
      let it = total_some (λ (x : PoolPart P H). total (unit_weight name n) (part_away x)) c.parts (omega (arith, some, away_parts (unit_weight name n) c.parts)) in
      let is : part_at it.0 c.parts ≡ it.1 = read_at c.parts it.0 _ it.1 it.2 in
      gone_by maker name n it.0 c core cells (role_at c.plan it.0) it.1 refl is (subst (IsPartFor maker c.settings (role_at c.plan it.0)) is (core.parts it.0 (inside c.parts it.0 it.1 it.2))) it.3

  -- A heap that is out, with the memory that its slot notes.
  pub record IsHeapOut (c : PoolCore P H) (slot : ℕ) (n : RegionNumbers) : Type 0 where
    pub out : IsOutOf slot (heaps_at c)
    pub notes : heap_numbers (memory_of slot (heaps_at c)).0 ≡ n

  heap_by : (maker : MakerTold) (slot : ℕ) (n : RegionNumbers) (p : ℕ) (c : PoolCore P H) → IsCore maker c → (r : Role) (x : PoolPart P H) → role_at c.plan p ≡ r → part_at p c.parts ≡ x → IsPartFor maker c.settings r x → 0 < total (unit_weight (heap_slot slot) n) (part_away x) → IsHeapOut c slot n
  heap_by maker slot n p c core (shard_role a j) (part.Shard s) role is for some = absurd (omega (arith, some, no_units (heap_slot slot) n s.kind s.step s.first s.used))
  heap_by maker slot n p c core (cell_role own) (part.Memory cell) role is for some = absurd (omega (arith, some, no_cell_heap slot n own cell for.1.named (subst HasCells (sym for.0) tt)))
  heap_by maker slot n p c core (cell_role own) (part.Table cell) role is for some = absurd (omega (arith, some, no_cell_heap slot n own cell for.1.named (subst HasCells (sym for.0) tt)))
  heap_by maker slot n p c core (cell_role own) (part.Stack cell) role is for some = absurd (omega (arith, some, no_cell_heap slot n own cell for.1.named (subst HasCells (sym for.0) tt)))
  heap_by maker slot n p c core queue_role (part.Queue q) role is for some = absurd (omega (arith, some))
  heap_by maker slot n p c core (heaps_role m) (part.Heaps heaps) role is for some =
      let of' : IsOfOutHeap H (unit_region (heap_slot slot) n) heaps = (units_of_out_slots heaps).named (unit_region (heap_slot slot) n) some in
      let there : heaps_at c ≡ heaps = ap (λ (q : ℕ). heaps_in (part_at q c.parts)) (sym (list_at c.plan p m role)) ∙ ap heaps_in is in
      let its : of'.slot ≡ slot = sym (ap (λ (u : UnitName). u.slot) of'.is) in
      let O : ℕ → List (HeapEntry H) → Type 0 = λ k l. IsOutOf k l in
      let noted : heap_numbers (memory_of of'.slot heaps).0 ≡ n = (λ i. record { faults = sym (ap (λ (u : UnitName). u.first) of'.is) i; erases = sym (ap (λ (u : UnitName). u.second) of'.is) i }) in
      record {
        out = subst (O slot) (sym there) (subst (λ (k : ℕ). O k heaps) its of'.out);
        notes = ap (λ (l : List (HeapEntry H)). heap_numbers (memory_of slot l).0) there ∙ ap (λ (k : ℕ). heap_numbers (memory_of k heaps).0) (sym its) ∙ noted;
      }
  heap_by maker slot n p c core r x role is for some = absurd for

  heap_is_out : (maker : MakerTold) (slot : ℕ) (n : RegionNumbers) (c : PoolCore P H) → IsCore maker c → 0 < away_count (unit_weight (heap_slot slot) n) c → IsHeapOut c slot n
  heap_is_out maker slot n c core some =
      let t : Thing = unit_weight (heap_slot slot) n in
      let it = total_some (λ (x : PoolPart P H). total t (part_away x)) c.parts (omega (arith, some, away_parts t c.parts)) in
      let is : part_at it.0 c.parts ≡ it.1 = read_at c.parts it.0 _ it.1 it.2 in
      heap_by maker slot n it.0 c core (role_at c.plan it.0) it.1 refl is (subst (IsPartFor maker c.settings (role_at c.plan it.0)) is (core.parts it.0 (inside c.parts it.0 it.1 it.2))) it.3

module _ {P : Type 0} where
  -- A purge and a release have no region without its slot, nor has a frame, nor have queues.
  purge_regions : (name : SlotName) (step : PurgeStep P) → purge_count (region_of name) step ≤ purge_count (right_to name) step
  purge_regions name (purging_step.Pick tried) = omega arith
  purge_regions name (purging_step.TakeRegion other) = omega (arith, slot_regions name other)
  purge_regions name (purging_step.Forget at held) = object_regions name at
  purge_regions name (purging_step.PutRegion at held) = object_regions name at
  purge_regions name (purging_step.Free other) = omega (arith, slot_regions name other)

  release_regions : (name : SlotName) (step : ReleaseStep P) → release_count (region_of name) step ≤ release_count (right_to name) step
  release_regions name releasing_step.Reserve = omega arith
  release_regions name (releasing_step.TakeWarm r j) = omega (arith, freed_regions name r.taken.items)
  release_regions name (releasing_step.TakeRegion r k) = omega (arith, freed_regions name r.taken.items)
  release_regions name (releasing_step.Decommit r k at held) = omega (arith, freed_regions name (remove r.taken.items k), object_regions name at)
  release_regions name (releasing_step.PutRegion r k at held) = omega (arith, freed_regions name (remove r.taken.items k), object_regions name at)
  release_regions name (releasing_step.Free r x) = omega (arith, slot_regions name x.name, freed_regions name r.taken.items)

memory_regions : (name : SlotName) (memory : Option Lease) → heap_memory_count (region_of name) memory ≤ heap_memory_count (right_to name) memory
memory_regions name (Some memory) = object_regions name (slot_taken memory)
memory_regions name None = omega arith

module _ {P H : Type 0} where
  phase_regions : (name : SlotName) (phase : Phase P H) → phase_count (region_of name) phase ≤ phase_count (right_to name) phase
  phase_regions name (TakeRegion other) = omega (arith, slot_regions name other)
  phase_regions name (Empty at held) = object_regions name at
  phase_regions name (Instantiate at held) = object_regions name at
  phase_regions name (MakeMemory at held) = object_regions name at
  phase_regions name (MakeTable at region) = object_regions name at
  phase_regions name (CountObject object) = object_regions name (slot_of_object object)
  phase_regions name (PutBack at held) = object_regions name at
  phase_regions name (FreeOne other) = omega (arith, slot_regions name other)
  phase_regions name (UncountObject object) = object_regions name (slot_of_object object)
  phase_regions name (TakeHeap other) = omega (arith, slot_regions name other)
  phase_regions name (MakeHeap at) = object_regions name at
  phase_regions name (CountHeap lease) = object_regions name (heap_slot_taken lease)
  phase_regions name (PutNoHeap at) = object_regions name at
  phase_regions name (UncountHeap lease memory) = omega (arith, object_regions name (heap_slot_taken lease), memory_regions name memory)
  phase_regions name (PutHeap lease memory) = omega (arith, object_regions name (heap_slot_taken lease), memory_regions name memory)
  phase_regions name (FreeHeap other memory) = omega (arith, slot_regions name other, object_regions name (slot_taken memory))
  phase_regions name (Reset object) = object_regions name (slot_of_object object)
  phase_regions name (Purge p step) = purge_regions name step
  phase_regions name (Release step) = release_regions name step
  phase_regions name next = omega arith

  pub frame_regions : (name : SlotName) (f : Frame P H) → frame_count (region_of name) f ≤ frame_count (right_to name) f
  frame_regions name f =
      omega (arith, leased_regions name f.objects.memories.items, tables_regions name f.objects.tables.items, queued_regions name f.local.slots, freed_regions name f.freed.items, phase_regions name f.phase)

  part_regions : (name : SlotName) (x : PoolPart P H) → total (region_of name) (part_kept x) ≡ total (right_to name) (part_kept x)
  part_regions name (part.Queue q) = queued_regions name q.slots
  part_regions name x = refl

  regions_kept : (name : SlotName) (xs : List (PoolPart P H)) → total (region_of name) (all_kept xs) ≡ total (right_to name) (all_kept xs)
  regions_kept name [] = refl
  regions_kept name (x ∷ xs) = omega (arith, total_append (region_of name) (part_kept x) (all_kept xs), total_append (right_to name) (part_kept x) (all_kept xs), part_regions name x, regions_kept name xs)

  pub kept_regions : (name : SlotName) (c : PoolCore P H) → kept_count (region_of name) c ≡ kept_count (right_to name) c
  kept_regions name c = regions_kept name c.parts

  -- A slot that the frame has is out once, and in no queue.
  pub record IsHeldOnce (c : PoolCore P H) (f : Frame P H) (name : SlotName) : Type 0 where
    pub held : frame_count (right_to name) f ≡ 1
    pub kept : kept_count (right_to name) c ≡ 0
    pub away : away_count (right_to name) c ≡ 1

  pub held_once : (maker : MakerTold) (name : SlotName) (c : PoolCore P H) (f : Frame P H) → IsCore maker c → FitsCore c f → 1 ≤ frame_count (right_to name) f → IsHeldOnce c f name
  held_once maker name c f core fits some =
      let once = fits.once (of_units (right_to name)) in
      let out = (out_once maker name c core).0 in
      record { held = omega arith; kept = omega arith; away = omega arith }

  -- It is one of the pool, and used in its shard;
  pub held_is_out : (maker : MakerTold) (name : SlotName) (c : PoolCore P H) (f : Frame P H) → IsCore maker c → FitsCore c f → 1 ≤ frame_count (right_to name) f → IsOut c name
  held_is_out maker name c f core fits some = right_is_out maker name c core (omega (arith, fits.once (of_units (right_to name))))

  -- its cell has its region where the frame hasn't,
  pub region_is_home : (maker : MakerTold) (name : SlotName) (c : PoolCore P H) (f : Frame P H) → IsCore maker c → FitsCore c f → HasCells name.kind → 1 ≤ frame_count (right_to name) f → frame_count (region_of name) f ≡ 0 → is_taken (cell_named name c).holds ≡ false
  region_is_home maker name c f core fits cells some without =
      false_from_ne_true (is_taken (cell_named name c).holds) (λ away.
      let cell : CellState = cell_named name c in
      let named : IsSlotName c.plan name = record { cells = cells; inside = (held_is_out maker name c f core fits some).inside } in
      let is : cell.name ≡ name = (sound_cell maker name c core named).named in
      let out : total (region_of name) (cell_away cell) ≡ 1 = ap (λ (h : Cell). total (region_of name) (away_by cell.name cell.out h)) (away_is_taken cell.holds away) ∙ ap (λ (n : SlotName). region_of name (unit_region n cell.out) + 0) is ∙ (omega (arith, region_once name cell.out)) in
      let held = held_once maker name c f core fits some in
      omega (arith, out, cell_away_in maker (region_of name) name c core named, fits.others name, held.held, held.kept, held.away, kept_regions name c, without))

  -- and is empty where the frame has it, with the numbers that the region went out with.
  pub region_is_away : (maker : MakerTold) (name : SlotName) (n : RegionNumbers) (c : PoolCore P H) (f : Frame P H) → IsCore maker c → FitsCore c f → HasCells name.kind → 1 ≤ frame_count (unit_weight name n) f → HasGone c name n
  region_is_away maker name n c f core fits cells some = region_is_gone maker name n c core cells (omega (arith, fits.once (of_units (unit_weight name n))))

  -- A heap whose slot the frame has is in the list where the frame hasn't taken it out,
  pub heap_is_home : (maker : MakerTold) (slot : ℕ) (c : PoolCore P H) (f : Frame P H) → IsCore maker c → FitsCore c f → slot < c.plan.totals.heap → 1 ≤ frame_count (right_to (heap_slot slot)) f → frame_count (region_of (heap_slot slot)) f ≡ 0 → IsHere slot (heaps_at c)
  heap_is_home maker slot c f core fits within some without =
      let name : SlotName = heap_slot slot in
      let held = held_once maker name c f core fits some in
      let once = (units_of_out_slots (heaps_at c)).once slot in
      false_from_ne_true (is_out (heap_entry slot (heaps_at c))) (λ away.
      omega (arith, ap one_if away, once, heaps_away_in maker (region_of name) c core (omega (arith, within)), fits.others name, held.held, held.kept, held.away, kept_regions name c, without))

  -- and else is out, and notes the memory that it went out with.
  pub heap_is_away : (maker : MakerTold) (slot : ℕ) (n : RegionNumbers) (c : PoolCore P H) (f : Frame P H) → IsCore maker c → FitsCore c f → 1 ≤ frame_count (unit_weight (heap_slot slot) n) f → IsHeapOut c slot n
  heap_is_away maker slot n c f core fits some = heap_is_out maker slot n c core (omega (arith, fits.once (of_units (unit_weight (heap_slot slot) n))))
