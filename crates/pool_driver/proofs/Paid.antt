-- The cell of a memory's slot counted at most as many faults as the plan lists different calls on the slot's region, as a pool is closed.
use Rattle.std.proofs.Common.{◌≡◌, ℕ, ◌-◌, ◌^◌, ◌<◌, ◌≤◌, true, false, List, [], ◌∷◌, All, Option, Some, None, IfSome, refl, sym, ap, subst, ◌∙◌, arith, inl, inr, slice_index, slice_get}
use Rattle.std.proofs.lemmas.Bool.{cases_Bool, eqb-true}
use Rattle.std.proofs.lemmas.List.Elements.{All-head, All-tail}
use Rattle.std.specs.List.{AllByRecursion}
use mathlib.Core.Option.{some}
use lib.ListN.{get_elem?}
use Rattle.pool_pages.specs.MakerTold.{MakerTold, plan_for}
use Rattle.pool_pages.specs.Told.{FailsAsListed, NoMoreThanListed, Told}
use Rattle.pool_pages.specs.declared.pages.RegionName.TheVariants.{Memory}
use Rattle.pool_images.specs.Slots.{Slot, SlotIdentity, coloured}
use Rattle.pool_hall.specs.Meaning.{AllStand}
use Rattle.pool_hall.specs.Rule.{AwayIsKept, away_of}
use Rattle.pool_hall.specs.Sum.{one_if, total}
use Rattle.pool_hall.specs.Unit.{same, times}
use Rattle.pool_hall.specs.declared.unit_name.SlotKind.{SlotKind}
use Rattle.pool_hall.specs.declared.unit_name.SlotKind.TheVariants.{Memory as memory_kind, Table as table_kind, Stack as stack_kind}
use Rattle.pool_hall.specs.declared.unit_name.UnitName.{UnitName}
use Rattle.pool_hall.proofs.Totals.{got, total_some}
use Rattle.pool_hall.proofs.Units.{same_is, same_self}
use Rattle.pool_slots.specs.Cells.{Cell, IsCell, is_taken, unmapped, unknown, previously_used, taken}
use Rattle.pool_slots.specs.Colourings.{stripe_colour}
use Rattle.pool_slots.specs.Listed.{CellFailsAsListed, PartFailsAsListed, SlotFailsAsListed}
use Rattle.pool_slots.specs.PartUnits.{part_away, part_kept, units_of_slots}
use Rattle.pool_slots.specs.Plans.{Role, cell_place, cell_role, heap_or, queue_role, role_at}
use Rattle.pool_slots.specs.RegionCells.{away_by, cell_numbers, numbers_by, region_of, right_to}
use Rattle.pool_slots.specs.SlotQueues.{Queued}
use Rattle.pool_slots.specs.declared.part.PoolPart.{PoolPart}
use Rattle.pool_slots.specs.declared.part.PoolPart.TheVariants as part
use Rattle.pool_slots.specs.declared.slot_name.RegionNumbers.{RegionNumbers}
use Rattle.pool_slots.specs.declared.slot_name.SlotName.{SlotName}
use Rattle.pool_slots.proofs.AwayOnce.{cell_at}
use Rattle.pool_alloc.specs.BetweenSteps.{IsPartFor, IsPoolSlot, IsQueuedOf, MayHold, MayQueue, memory_region}
use Rattle.pool_alloc.specs.declared.pool_core.Settings.{Settings}
use Rattle.pool_driver.specs.Ending.{IsPaid}
use Rattle.pool_driver.specs.Faults.{PartKeeps, QueuedKeeps}
use Rattle.pool_driver.specs.PageFaults.{cell_faults}
use Rattle.pool_driver.specs.Placed.{About, about_made, part_counts, part_steady, part_topped, place_by, pool_meaning}
use Rattle.pool_driver.proofs.ListedCalls.{listed_most}

-- A region fails at most as often as its plan lists calls, and so it is of fewer faults.
paid_by : (plan : Option (List ℕ)) (made faults : ℕ) → IfSome plan (λ calls. NoMoreThanListed calls made faults) → IsPaid plan faults
paid_by None made faults h = tt
paid_by (Some calls) made faults h = elim h [
  | inl few ↦ inl (let most = listed_most calls made in omega arith)
  | inr ends ↦ inr ends.1
]

fewer_paid : (plan : Option (List ℕ)) (less faults : ℕ) → less ≤ faults → IsPaid plan faults → IsPaid plan less
fewer_paid None less faults below h = tt
fewer_paid (Some calls) less faults below h = elim h [
  | inl few ↦ inl (omega arith)
  | inr ends ↦ inr ends
]

region_paid : (t : Told) (plan : Option (List ℕ)) → t.plan ≡ plan → FailsAsListed t → IsPaid plan t.faults
region_paid t plan is fails = subst (λ (o : Option (List ℕ)). IsPaid o t.faults) is (paid_by t.plan t.made t.faults fails)

coloured_plan : (colour : Option ℕ) (start len : ℕ) (t : Told) → (coloured colour start len t).plan ≡ t.plan
coloured_plan None start len t = refl
coloured_plan (Some colour) start len t = refl

module _ (maker : MakerTold) (s : Settings) where
  region_plan : (i : ℕ) → (memory_region maker s i).plan ≡ plan_for (Memory i) maker
  region_plan i = coloured_plan (stripe_colour s.num_stripes i) _ _ _

  slot_plan : (i : ℕ) (slot : Slot) → IsPoolSlot maker s i slot → slot.region.plan ≡ plan_for (Memory i) maker
  slot_plan i slot is = ap (λ (x : SlotIdentity). x.plan) is.same ∙ region_plan i

  -- a cell, unless its region is out
  held_paid : (i : ℕ) (kind : SlotKind) (out : RegionNumbers) (held : Cell) → IsCell (memory_region maker s i) (stripe_colour s.num_stripes i) s.max_memory_size held → CellFailsAsListed held → (is_taken held ≡ true → IsPaid (plan_for (Memory i) maker) out.faults) →
      IsPaid (plan_for (Memory i) maker) (numbers_by out kind held).faults
  held_paid i kind out (unmapped region) is fails gone = region_paid region (plan_for (Memory i) maker) (ap (λ (t : Told). t.plan) is ∙ region_plan i) fails
  held_paid i kind out (unknown slot) is fails gone = region_paid slot.region (plan_for (Memory i) maker) (slot_plan i slot is) fails
  held_paid i kind out (previously_used slot) is fails gone = region_paid slot.region (plan_for (Memory i) maker) (slot_plan i slot is.0) fails
  held_paid i kind out taken is fails gone = gone refl

  -- a region that lies in a queue, of which the cell's unit tells
  queued_paid : (name : SlotName) (out : RegionNumbers) (m : Queued) → name.kind ≡ memory_kind → region_of name out ≡ region_of m.name m.numbers → IsQueuedOf maker s m → QueuedKeeps m → SlotFailsAsListed m → IsPaid (plan_for (Memory name.slot) maker) out.faults
  queued_paid name out m kind is queued keeps fails =
      let kind' : m.name.kind ≡ memory_kind = sym (ap (λ (u : UnitName). u.kind) is) ∙ kind in
      let slot' : m.name.slot ≡ name.slot = sym (ap (λ (u : UnitName). u.slot) is) in
      let faults' : out.faults ≡ m.numbers.faults = ap (λ (u : UnitName). u.first) is in
      let lies : IsPoolSlot maker s name.slot m.slot = subst (λ (n : ℕ). IsPoolSlot maker s n m.slot) slot' (subst (λ (k : SlotKind). MayQueue maker s k m.name.slot m.slot) kind' queued.slot) in
      let least = keeps.least in
      fewer_paid (plan_for (Memory name.slot) maker) out.faults m.slot.region.faults (omega arith) (region_paid m.slot.region (plan_for (Memory name.slot) maker) (slot_plan name.slot m.slot lies) fails)

  slots_paid : (name : SlotName) (out : RegionNumbers) (ms : List Queued) → name.kind ≡ memory_kind → All (IsQueuedOf maker s) ms → AllByRecursion QueuedKeeps ms → AllByRecursion SlotFailsAsListed ms → 0 < times (region_of name out) (units_of_slots ms) → IsPaid (plan_for (Memory name.slot) maker) out.faults
  slots_paid name out [] kind queued keeps fails some' = absurd (omega arith)
  slots_paid name out (m ∷ ms) kind queued keeps fails some' =
      let u : UnitName = region_of name out in
      elim (cases_Bool (same u (region_of m.name m.numbers))) [
        | inl here ↦ queued_paid name out m kind (same_is u (region_of m.name m.numbers) here) (All-head (IsQueuedOf maker s) m ms queued) keeps.0 fails.0
        | inr other ↦ elim (cases_Bool (same u (right_to m.name))) [
          | inl right ↦ absurd (let e : true ≡ false = ap (λ (z : UnitName). z.region) (same_is u (right_to m.name) right) in cc)
          | inr no_right ↦
              let a : one_if (same u (region_of m.name m.numbers)) ≡ 0 = ap one_if other in
              let b : one_if (same u (right_to m.name)) ≡ 0 = ap one_if no_right in
              slots_paid name out ms kind (All-tail (IsQueuedOf maker s) m ms queued) keeps.1 fails.1 (omega arith)
        ]
      ]

  module _ {P H : Type 0} where
    queue_paid : (name : SlotName) (out : RegionNumbers) (r : Role) (x : PoolPart P H) → name.kind ≡ memory_kind → IsPartFor maker s r x → PartKeeps x → PartFailsAsListed x → 0 < times (region_of name out) (part_kept x) → IsPaid (plan_for (Memory name.slot) maker) out.faults
    queue_paid name out queue_role (part.Queue q) kind is keeps fails some' = slots_paid name out q.slots kind is.regions keeps fails some'
    queue_paid name out r (part.Queue q) kind is keeps fails some' = absurd is
    queue_paid name out r (part.Shard x) kind is keeps fails some' = absurd (omega arith)
    queue_paid name out r (part.Memory x) kind is keeps fails some' = absurd (omega arith)
    queue_paid name out r (part.Table x) kind is keeps fails some' = absurd (omega arith)
    queue_paid name out r (part.Stack x) kind is keeps fails some' = absurd (omega arith)
    queue_paid name out r (part.Heaps x) kind is keeps fails some' = absurd (omega arith)

taken_is : (held : Cell) → is_taken held ≡ true → held ≡ taken
taken_is (unmapped region) e = absurd (cc e)
taken_is (unknown slot) e = absurd (cc e)
taken_is (previously_used slot) e = absurd (cc e)
taken_is taken e = refl

-- the counts of a cell never fall
pub steady_cell : {P H : Type 0} (maker : MakerTold) (s : Settings) (slot : SlotName) (x : PoolPart P H) → IsPartFor maker s (cell_role slot) x → part_steady x ≡ true
steady_cell maker s slot (part.Memory cell) is = refl
steady_cell maker s slot (part.Table cell) is = refl
steady_cell maker s slot (part.Stack cell) is = refl
steady_cell maker s slot x is = absurd is

-- where the cell of a memory's slot is topped, it counted as many faults as can be counted
pub all_faults : {P H : Type 0} (maker : MakerTold) (s : Settings) (slot : SlotName) (x : PoolPart P H) (n : ℕ) → slot.kind ≡ memory_kind → IsPartFor maker s (cell_role slot) x → part_topped x ≡ true → slice_index (part_counts x) cell_faults ≡ n → n ≡ 2 ^ 64 - 1
all_faults maker s slot (part.Memory cell) n kind is topped count = sym count ∙ eqb-true (cell_numbers cell).faults (2 ^ 64 - 1) topped
all_faults maker s slot (part.Table cell) n kind is topped count = absurd (let e : memory_kind ≡ table_kind = sym kind ∙ is.0 in cc e)
all_faults maker s slot (part.Stack cell) n kind is topped count = absurd (let e : memory_kind ≡ stack_kind = sym kind ∙ is.0 in cc e)
all_faults maker s slot x n kind is topped count = absurd is

-- Parts of a hall that what they have away keep: where a cell's region is out, a queue has it
module _ {T P H : Type 0} (about : T → About) (inner : T → PoolPart P H) (made : List T) (limits : List ℕ) (parts : List T) (stand : AllStand (pool_meaning about inner) made limits parts) (units : AwayIsKept (pool_meaning about inner) made limits parts) (fails : (p : ℕ) (x : T) → slice_get parts p ≡ Some x → PartFailsAsListed (inner x)) (a : About) (of : about_made about made ≡ Some a) where
  abbrev kept_in : UnitName → T → ℕ
  kept_in u x = times u (part_kept (inner x))

  gone_paid : (slot : SlotName) (out : RegionNumbers) → slot.kind ≡ memory_kind → 0 < total (kept_in (region_of slot out)) parts → IsPaid (plan_for (Memory slot.slot) a.maker) out.faults
  gone_paid slot out kind some' =
      let it = total_some (kept_in (region_of slot out)) parts some' in
      let there : slice_get parts it.0 ≡ Some it.1 = got parts it.0 it.1 it.2 in
      let fits = (stand it.0 it.1 there).fits in
      let same' : Some (about it.1) ≡ Some a = sym fits.of ∙ of in
      let is : about it.1 ≡ a = cc in
      let here : IsPartFor a.maker a.settings (role_at a.plan it.0) (inner it.1) = subst (λ (z : About). IsPartFor z.maker z.settings (role_at z.plan it.0) (inner it.1)) is fits.part in
      queue_paid a.maker a.settings slot out (role_at a.plan it.0) (inner it.1) kind here fits.faults (fails it.0 it.1 there) it.3

  cell_paid : (slot : SlotName) (x : PoolPart P H) (n : ℕ) → ((out : RegionNumbers) → total (kept_in (region_of slot out)) parts ≡ times (region_of slot out) (part_away x)) → slot.kind ≡ memory_kind → IsPartFor a.maker a.settings (cell_role slot) x → PartFailsAsListed x → slice_index (part_counts x) cell_faults ≡ n →
      IsPaid (plan_for (Memory slot.slot) a.maker) n
  cell_paid slot (part.Memory cell) n kept kind is fails' count =
      let u : UnitName = region_of slot cell.out in
      let holds : MayHold a.maker a.settings memory_kind slot.slot cell.holds = subst (λ (k : SlotKind). MayHold a.maker a.settings k slot.slot cell.holds) kind is.1.holds in
      subst (IsPaid (plan_for (Memory slot.slot) a.maker)) count
      (held_paid a.maker a.settings slot.slot cell.name.kind cell.out cell.holds holds fails' (λ empty.
      let away : times u (away_by cell.name cell.out cell.holds) ≡ times u (u ∷ []) =
      ap (λ (h : Cell). times u (away_by cell.name cell.out h)) (taken_is cell.holds empty) ∙ ap (λ (name : SlotName). times u (region_of name cell.out ∷ [])) is.1.named in
      let one : one_if (same u u) ≡ 1 = ap one_if (same_self u) in
      let all' = kept cell.out in
      gone_paid slot cell.out kind (omega arith)))
  cell_paid slot (part.Table cell) n kept kind is fails' count = absurd (let e : memory_kind ≡ table_kind = sym kind ∙ is.0 in cc e)
  cell_paid slot (part.Stack cell) n kept kind is fails' count = absurd (let e : memory_kind ≡ stack_kind = sym kind ∙ is.0 in cc e)
  cell_paid slot x n kept kind is fails' count = absurd is

  pub part_paid : (p : ℕ) (x : T) (slot : SlotName) (n : ℕ) → get_elem? parts p ≡ some x → slot.kind ≡ memory_kind → role_at a.plan p ≡ cell_role slot → IsPartFor a.maker a.settings (cell_role slot) (inner x) → slice_index (part_counts (inner x)) cell_faults ≡ n → IsPaid (plan_for (Memory slot.slot) a.maker) n
  part_paid p x slot n at' kind role is count =
      let place : (out : RegionNumbers) → place_by (about_made about made) (region_of slot out) ≡ p = λ out.
      ap (λ (o : Option About). place_by o (region_of slot out)) of ∙ ap (λ (k : SlotKind). heap_or k a.plan.heap_list (cell_place a.plan slot)) kind ∙ sym (cell_at a.plan p slot role) in
      let kept : (out : RegionNumbers) → total (kept_in (region_of slot out)) parts ≡ times (region_of slot out) (part_away (inner x)) = λ out.
      units (region_of slot out) ∙ ap (λ (q : ℕ). away_of (pool_meaning about inner) made limits (region_of slot out) (get_elem? parts q)) (place out) ∙ ap (away_of (pool_meaning about inner) made limits (region_of slot out)) at' in
      cell_paid slot (inner x) n kept kind is (fails p x (got parts p x at')) count
