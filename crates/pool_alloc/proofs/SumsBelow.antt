-- Sums over the numbers below one, and that a list which has each of them once at most is no longer than that number.
use Rattle.std.proofs.Common.{◌≡◌, ℕ, zero, suc, ◌+◌, ◌<◌, ◌≤◌, List, [], ◌∷◌, length, refl, subst, inl, inr, arith, All}
use Rattle.pool_alloc.proofs.Imports.{All-head, All-tail, cases_lt, of_kind, Queued, Plan, SlotName, SlotKind, memory_kind, table_kind, stack_kind, heap_kind, RegionNumbers, MakerTold, Slot}
use Rattle.pool_alloc.specs.Leases.{memory_slot}
use Rattle.pool_alloc.specs.Places.{right_to, both_count, queued_count}
use Rattle.pool_alloc.specs.StepBounds.{all_slots}
use Rattle.pool_alloc.specs.StackLeases.{stack_slot}
use Rattle.pool_alloc.specs.TableLeases.{table_slot}
use Rattle.pool_alloc.specs.declared.pool_core.Settings.{Settings}
use Rattle.pool_alloc.specs.BetweenSteps.{HasCells, MayQueue, IsQueuedOf}
use Rattle.pool_alloc.proofs.SlotCounts.{slot_once, region_rights}

-- the sum of f over the numbers below n
abbrev pub below : (ℕ → ℕ) → ℕ → ℕ
below f zero = 0
below f (suc n) = below f n + f n

pub below_sum : (f g h : ℕ → ℕ) → ((k : ℕ) → h k ≡ f k + g k) → (n : ℕ) → below h n ≡ below f n + below g n
below_sum f g h each zero = refl
below_sum f g h each (suc n) = omega (arith, each n, below_sum f g h each n)

pub below_most : (f : ℕ → ℕ) → ((k : ℕ) → f k ≤ 1) → (n : ℕ) → below f n ≤ n
below_most f each zero = omega arith
below_most f each (suc n) = omega (arith, each n, below_most f each n)

pub below_one : (f : ℕ → ℕ) (i n : ℕ) → i < n → f i ≡ 1 → 1 ≤ below f n
below_one f i zero inside one = absurd (omega arith)
below_one f i (suc n) inside one =
    elim (cases_lt i n) [
      | inl before ↦ omega (arith, below_one f i n before one)
      | inr past ↦ let last : f n ≡ 1 = subst (λ (k : ℕ). f k ≡ 1) {x = i} {y = n} (omega (arith, inside, past)) one in omega arith
    ]

-- a slot in a queue is of a kind that has cells
may_cells : (maker : MakerTold) (s : Settings) (kind : SlotKind) (i : ℕ) (slot : Slot) → MayQueue maker s kind i slot → HasCells kind
may_cells maker s memory_kind i slot may = tt
may_cells maker s table_kind i slot may = tt
may_cells maker s stack_kind i slot may = tt
may_cells maker s heap_kind i slot may = absurd may

pub queued_cells : (maker : MakerTold) (s : Settings) (m : Queued) → IsQueuedOf maker s m → HasCells m.name.kind
queued_cells maker s m of = may_cells maker s m.name.kind m.name.slot m.slot of.slot

-- what is counted of memories' slots, of tables' and of stacks', at their numbers
abbrev counted : Plan → (SlotName → ℕ) → ℕ
counted plan of = below (λ k. of (memory_slot k)) plan.totals.memory + below (λ k. of (table_slot k)) plan.totals.table + below (λ k. of (stack_slot k)) plan.totals.stack

-- a slot of the pool is counted once
name_counted : (plan : Plan) (kind : SlotKind) (i : ℕ) (numbers : RegionNumbers) → HasCells kind → i < of_kind kind plan.totals → 1 ≤ counted plan (λ name. both_count (right_to name) (record { kind = kind; slot = i }) numbers)
name_counted plan memory_kind i numbers pooled inside =
    omega (arith, below_one (λ k. both_count (right_to (memory_slot k)) (memory_slot i) numbers) i plan.totals.memory inside (omega (arith, slot_once (memory_slot i), region_rights (memory_slot i) (memory_slot i) numbers)))
name_counted plan table_kind i numbers pooled inside =
    omega (arith, below_one (λ k. both_count (right_to (table_slot k)) (table_slot i) numbers) i plan.totals.table inside (omega (arith, slot_once (table_slot i), region_rights (table_slot i) (table_slot i) numbers)))
name_counted plan stack_kind i numbers pooled inside =
    omega (arith, below_one (λ k. both_count (right_to (stack_slot k)) (stack_slot i) numbers) i plan.totals.stack inside (omega (arith, slot_once (stack_slot i), region_rights (stack_slot i) (stack_slot i) numbers)))
name_counted plan heap_kind i numbers pooled inside = absurd pooled

queued_below : (plan : Plan) (ms : List Queued) → All (λ m. HasCells m.name.kind) ms → ((name : SlotName) → 0 < queued_count (right_to name) ms → name.slot < of_kind name.kind plan.totals) → length ms ≤ counted plan (λ name. queued_count (right_to name) ms)
queued_below plan [] cells named = omega arith
queued_below plan (m ∷ ms) cells named =
    let C : Queued → Type 0 = λ x. HasCells x.name.kind in
    let one : SlotName → ℕ = λ name. both_count (right_to name) m.name m.numbers in
    let more : SlotName → ℕ = λ name. queued_count (right_to name) ms in
    omega (
      arith,
      below_sum (λ k. one (memory_slot k)) (λ k. more (memory_slot k)) (λ k. queued_count (right_to (memory_slot k)) (m ∷ ms)) (λ k. omega arith) plan.totals.memory,
      below_sum (λ k. one (table_slot k)) (λ k. more (table_slot k)) (λ k. queued_count (right_to (table_slot k)) (m ∷ ms)) (λ k. omega arith) plan.totals.table,
      below_sum (λ k. one (stack_slot k)) (λ k. more (stack_slot k)) (λ k. queued_count (right_to (stack_slot k)) (m ∷ ms)) (λ k. omega arith) plan.totals.stack,
      name_counted plan m.name.kind m.name.slot m.numbers (All-head C m ms cells) (named m.name (omega (arith, slot_once m.name))),
      queued_below plan ms (All-tail C m ms cells) (λ name some. named name (omega (arith, some))),
    )

-- A queue that has each slot of the pool once at most, and no other, has no more slots than the pool.
pub few_queued : (plan : Plan) (ms : List Queued) → ((name : SlotName) → queued_count (right_to name) ms ≤ 1) → All (λ m. HasCells m.name.kind) ms → ((name : SlotName) → 0 < queued_count (right_to name) ms → name.slot < of_kind name.kind plan.totals) → length ms ≤ all_slots plan
few_queued plan ms once cells named =
    omega (
      arith,
      queued_below plan ms cells named,
      below_most (λ k. queued_count (right_to (memory_slot k)) ms) (λ k. once (memory_slot k)) plan.totals.memory,
      below_most (λ k. queued_count (right_to (table_slot k)) ms) (λ k. once (table_slot k)) plan.totals.table,
      below_most (λ k. queued_count (right_to (stack_slot k)) ms) (λ k. once (stack_slot k)) plan.totals.stack,
    )
