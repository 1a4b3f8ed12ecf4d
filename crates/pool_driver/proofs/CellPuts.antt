-- What a seat notes of a region that comes back to its cell: whether it has more faults than it went out with.
use Rattle.std.proofs.Common.{◌≡◌, ⊎_elim, inl, inr, ℕ, ◌+◌, ◌<◌, ◌≤◌, Bool, true, List, ◌∷◌, length, refl, sym, ap, ◌∙◌, arith, eq-eqb, Option}
use Rattle.std.specs.Prelude.{◌-◌, ◌^◌, ◌==◌, if◌then◌else◌, slice_index}
use Rattle.pool_hall.specs.Meaning.{Meaning}
use Rattle.pool_hall.specs.Step.{put_view}
use Rattle.pool_hall.specs.Sum.{one_if, often}
use Rattle.pool_hall.specs.Tally.{counted, number, rise}
use Rattle.pool_hall.specs.declared.unit_name.SlotKind.{SlotKind}
use Rattle.pool_hall.specs.declared.view.View.{View}
use Rattle.pool_limits.specs.Exchanges.{Exchange}
use Rattle.pool_slots.specs.Parts.{cell_of_part, part_at, IsCellPart, IsAt}
use Rattle.pool_slots.specs.Plans.{cell_place}
use Rattle.pool_slots.specs.RegionCells.{CellState, cell_filled, cell_numbers, faults_in}
use Rattle.pool_slots.specs.declared.part.PoolPart.{PoolPart}
use Rattle.pool_slots.specs.declared.part.PoolPart.TheVariants as part
use Rattle.pool_slots.specs.declared.plan.Plan.{Plan}
use Rattle.pool_slots.specs.declared.slot_name.RegionNumbers.{RegionNumbers}
use Rattle.pool_slots.specs.declared.slot_name.SlotName.{SlotName}
use Rattle.pool_slots.specs.Cells.{Cell}
use Rattle.pool_alloc.specs.PartyTold.{PartyTold}
use Rattle.pool_alloc.specs.StepReads.{cell_named, part_holding, with_cell}
use Rattle.pool_alloc.specs.declared.frame.Frame.{Frame}
use Rattle.pool_alloc.specs.declared.frame.Outcome.{Outcome}
use Rattle.pool_alloc.specs.declared.pool_core.PoolCore.{PoolCore}
use Rattle.pool_alloc.proofs.PlanPlaces.{cell_role_at}
use Rattle.pool_alloc.proofs.PoolParts.{cell_part, part_same}
use Rattle.pool_driver.specs.Driving.{SeesStep}
use Rattle.pool_driver.specs.Faults.{HasFaulted}
use Rattle.pool_driver.specs.PageFaults.{HasFaultedAt, HasFaultedOf, cell_faults}
use Rattle.pool_driver.specs.Placed.{About, part_counts, part_topped, pool_meaning, cell_counts, cell_topped}
use Rattle.pool_driver.specs.Telling.{HasMore, HoldsMore}
use Rattle.pool_driver.proofs.GrowingParts.{faults_there, numbers_out}
use Rattle.pool_driver.proofs.Naming.{PutAt}
use Rattle.pool_driver.proofs.OwnNumbers.{IsOwn}

rise_more : (n m : ℕ) → n < m → m < 2 ^ 64 → 1 ≤ rise n m
rise_more n m more small = omega (arith, more, small)

-- What a put tells of faults since the call began.
module _ {T : Type 0} (m : Meaning T) (p : ℕ) (x y : T) (base v w : View T) (put : w ≡ put_view m p x y v) (began : HoldsMore base v) where
  abbrev rose : ℕ
  rose = rise (slice_index (m.counts x) cell_faults) (slice_index (m.counts y) cell_faults)

  more_in : 1 ≤ rose → HasMore base w p cell_faults
  more_in one =
      let e : number (counted p cell_faults) w ≡ (if p == p then rose else 0) + number (counted p cell_faults) v = ap (λ (z : View T). number (counted p cell_faults) z) put in
      let here : (if p == p then rose else 0) ≡ rose = ap (λ (b : Bool). if b then rose else 0) (eq-eqb p p refl) in
      omega (arith, e, here, one, began.counts p cell_faults)

  topped_in : m.topped y ≡ true → often p base.topped < often p w.topped
  topped_in top =
      let e : often p w.topped ≡ one_if (p == p) + often p v.topped = ap (λ (z : View T). often p z.topped) put ∙ ap (λ (b : Bool). often p (if b then p ∷ v.topped else v.topped)) top in
      let here : one_if (p == p) ≡ 1 = ap one_if (eq-eqb p p refl) in
      omega (arith, e, here, began.noted p)

  faulted_in : (told has : ℕ) → slice_index (m.counts x) cell_faults ≡ told → slice_index (m.counts y) cell_faults ≡ has → has < 2 ^ 64 → (has ≡ 2 ^ 64 - 1 → m.topped y ≡ true) → HasFaulted told has → HasFaultedAt base w p
  faulted_in told has was is small top = ⊎_elim
      (λ (more : told < has). inl (more_in (rise_more _ _ (omega (arith, was, is, more)) (omega (arith, is, small)))))
      (λ (most : 2 ^ 64 ≤ has + 1). inr (topped_in (top (omega (arith, most, small)))))

-- What was told of a fault stays told.
pub still_faulted : (Kind : SlotKind → Type 0) {T : Type 0} (base v w : View T) (plan : Plan) → HoldsMore v w → HasFaultedOf base v Kind plan → HasFaultedOf base w Kind plan
still_faulted Kind base v w plan more had = record {
  slot = had.slot;
  kind = had.kind;
  place = had.place;
  cell = had.cell;
  faulted = ⊎_elim
      (λ (rose : HasMore base v had.place cell_faults). inl (omega (arith, rose, more.counts had.place cell_faults)))
      (λ (topped : often had.place base.topped < often had.place v.topped). inr (omega (arith, topped, more.noted had.place)))
      had.faulted;
}

module _ {P H : Type 0} where
  -- what a cell's part counts, and the same part with another cell
  counts_there : (x : PoolPart P H) → IsCellPart x → part_counts x ≡ cell_counts (cell_of_part x)
  counts_there (part.Memory cell) is = refl
  counts_there (part.Table cell) is = refl
  counts_there (part.Stack cell) is = refl
  counts_there x is = absurd is

  counts_with : (cell : CellState) (x : PoolPart P H) → IsCellPart x → part_counts (part_holding cell x) ≡ cell_counts cell
  counts_with cell (part.Memory old) is = refl
  counts_with cell (part.Table old) is = refl
  counts_with cell (part.Stack old) is = refl
  counts_with cell x is = absurd is

  topped_with : (cell : CellState) (x : PoolPart P H) → IsCellPart x → part_topped (part_holding cell x) ≡ cell_topped cell
  topped_with cell (part.Memory old) is = refl
  topped_with cell (part.Table old) is = refl
  topped_with cell (part.Stack old) is = refl
  topped_with cell x is = absurd is

-- A region is put into the cell that it came out of. Where it has more faults than it went out with, that is told.
module _ {T P H : Type 0} (about : T → About) (inner : T → PoolPart P H) (Passes : List Exchange → Type 0) (old new : PartyTold) (a : About) (base v w : View T) (f next : Frame P H) (o : Option (Outcome P H)) (began : HoldsMore base v) (s : SeesStep about inner Passes old new a v w f next o) (name : SlotName) (numbers : RegionNumbers) (held : Cell) (own : IsOwn name numbers held s.core) where
  abbrev c : PoolCore P H
  c = s.core

  abbrev place : ℕ
  place = cell_place c.plan name

  abbrev cell : CellState
  cell = cell_named name c

  abbrev filled : CellState
  filled = cell_filled held cell

  module _ (put : PutAt about inner Passes old new a v w f next o place s.core s.left) (left : s.left.parts ≡ (with_cell name filled c).parts) where
    there : IsAt IsCellPart place c.parts
    there = cell_part a.maker name c s.can.core own.named

    is_filled : inner put.after ≡ part_holding filled (part_at place c.parts)
    is_filled = sym put.is ∙ ap (λ (xs : List (PoolPart P H)). part_at place xs) left ∙ part_same place (part_holding filled (part_at place c.parts)) c there.inside

    faults_after : (cell_numbers filled).faults ≡ faults_in held
    faults_after = faults_there cell.out cell.name.kind held cell.name own.awaited.own

    was : slice_index (part_counts (inner put.before)) cell_faults ≡ numbers.faults
    was =
        ap (λ (z : PoolPart P H). slice_index (part_counts z) cell_faults) (sym put.was)
        ∙ ap (λ (l : List ℕ). slice_index l cell_faults) (counts_there (part_at place c.parts) there.part)
        ∙ ap (λ (n : RegionNumbers). n.faults) (numbers_out cell.out cell.name.kind cell.holds own.awaited.empty)
        ∙ own.out

    now : slice_index (part_counts (inner put.after)) cell_faults ≡ faults_in held
    now = ap (λ (z : PoolPart P H). slice_index (part_counts z) cell_faults) is_filled ∙ ap (λ (l : List ℕ). slice_index l cell_faults) (counts_with filled (part_at place c.parts) there.part) ∙ faults_after

    top : faults_in held ≡ 2 ^ 64 - 1 → part_topped (inner put.after) ≡ true
    top most = ap (λ (z : PoolPart P H). part_topped z) is_filled ∙ topped_with filled (part_at place c.parts) there.part ∙ eq-eqb (cell_numbers filled).faults (2 ^ 64 - 1) (faults_after ∙ most)

    pub faulted_home : (Kind : SlotKind → Type 0) → Kind name.kind → HasFaulted numbers.faults (faults_in held) → HasFaultedOf base w Kind c.plan
    faulted_home Kind kind faulted = record {
      slot = name;
      kind = kind;
      place = place;
      cell = cell_role_at c.plan (length c.parts) name s.can.core.plan own.named;
      faulted = faulted_in (pool_meaning about inner) place put.before put.after base v w put.put began numbers.faults (faults_in held) was now (let small = put.small_after cell_faults in omega (arith, now, small)) top faulted;
    }
