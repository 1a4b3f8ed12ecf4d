-- A plan that is laid out is right: its blocks lie in a line, and the one allocator of a kind has each of its numbers.
use Rattle.std.proofs.Common.{◌≡◌, ℕ, ◌+◌, ◌-◌, ◌*◌, ◌/◌, ◌%◌, ◌^◌, ◌<◌, ◌≤◌, true, List, [], ◌∷◌, ◌++◌, refl, sym, ap, ◌∙◌, subst, inl, inr, arith, map, nat_le, nat_lt, min}
use Rattle.pool_slots.proofs.Imports.{AllByRecursion, and_from, lt-ltb, le-leb, div-add-mod, mod-lt, SlotKind, Table, Stack, Heap}
use Rattle.pool_hall.specs.declared.unit_name.SlotKind.TheVariants.{Memory}
use Rattle.pool_slots.specs.SlotNames.{of_kind}
use Rattle.pool_slots.specs.Plans.{allocators_of, allocators, queue_role, heaps_role, cells_block, has_number, home_among, Block, shards_block, AreBesides, AreSeparate, AreAllocators, IsPlanned}
use Rattle.pool_slots.specs.PlansMade.{HoldSlots, shards_planned, places_planned, allocator_planned, IsPlanWith, home_planned}
use Rattle.pool_slots.specs.declared.slot_name.OfKinds.{OfKinds}
use Rattle.pool_slots.specs.declared.slot_name.SlotName.{SlotName}
use Rattle.pool_slots.specs.declared.plan.Allocator.{Allocator}
use Rattle.pool_slots.specs.declared.plan.Plan.{Plan}
use Rattle.pool_slots.specs.declared.plan_maker.PlanSettings.{PlanSettings}
use Rattle.pool_slots.proofs.Lists.{each_weaker, each_append}

-- each block begins where the one before it ends, or later
abbrev pub AreInLine : ℕ → List Block → ℕ → Type 0
AreInLine p [] q = p ≤ q
AreInLine p (b ∷ bs) q = (p ≤ b.first) × AreInLine (b.first + b.count) bs q

beyond : (p : ℕ) (bs : List Block) (q : ℕ) → AreInLine p bs q → AllByRecursion (λ b. p ≤ b.first) bs
beyond p [] q line = tt
beyond p (b ∷ bs) q line =
    (line.0, each_weaker (λ d. b.first + b.count ≤ d.first) (λ d. p ≤ d.first) bs (λ d from. let here = line.0 in omega (arith, here, from)) (beyond (b.first + b.count) bs q line.1))

rises : (p : ℕ) (bs : List Block) (q : ℕ) → AreInLine p bs q → p ≤ q
rises p [] q line = line
rises p (b ∷ bs) q line = let here = line.0 in let rest = rises (b.first + b.count) bs q line.1 in omega (arith, here, rest)

below : (p : ℕ) (bs : List Block) (q : ℕ) → AreInLine p bs q → AllByRecursion (λ b. b.first + b.count ≤ q) bs
below p [] q line = tt
below p (b ∷ bs) q line = (rises (b.first + b.count) bs q line.1, below (b.first + b.count) bs q line.1)

separate : (p : ℕ) (bs : List Block) (q : ℕ) → AreInLine p bs q → AreSeparate bs
separate p [] q line = tt
separate p (b ∷ bs) q line =
    (each_weaker (λ d. b.first + b.count ≤ d.first) (AreBesides b) bs (λ d from. inl from) (beyond (b.first + b.count) bs q line.1), separate (b.first + b.count) bs q line.1)

-- blocks in a line, and behind them in the list others that lie before them
separate_behind : (s : ℕ) (bs ds : List Block) → AllByRecursion (λ b. s ≤ b.first) bs → AllByRecursion (λ d. d.first + d.count ≤ s) ds → AreSeparate bs → AreSeparate ds → AreSeparate (bs ++ ds)
separate_behind s [] ds from to mine theirs = theirs
separate_behind s (b ∷ bs) ds from to mine theirs =
    let here = from.0 in (
      each_append (AreBesides b) bs ds mine.0 (each_weaker (λ d. d.first + d.count ≤ s) (AreBesides b) ds (λ d under. inr (omega (arith, here, under))) to),
      separate_behind s bs ds from.1 to mine.1 theirs,
    )

-- blocks that begin later, and two rows of shards one after the other
earlier : (o p : ℕ) (bs : List Block) (q : ℕ) → o ≤ p → AreInLine p bs q → AreInLine o bs q
earlier o p [] q before line = omega (arith, before, line)
earlier o p (b ∷ bs) q before line = let here = line.0 in (omega (arith, before, here), line.1)

line_on : (p : ℕ) (as' bs : List Allocator) (q r : ℕ) → AreInLine p (map shards_block as') q → AreInLine q (map shards_block bs) r → AreInLine p (map shards_block (as' ++ bs)) r
line_on p [] bs q r line more = earlier p q (map shards_block bs) r line more
line_on p (a ∷ as') bs q r line more = (line.0, line_on (a.first_place + a.shards) as' bs q r line.1 more)

-- the shards of allocators follow one another, from a place to a place
abbrev pub AreTiled : ℕ → List Allocator → ℕ → Type 0
AreTiled p [] q = p ≡ q
AreTiled p (a ∷ as') q = (a.first_place ≡ p) × AreTiled (p + a.shards) as' q

pub tiled_line : (p : ℕ) (as' : List Allocator) (q : ℕ) → AreTiled p as' q → AreInLine p (map shards_block as') q
tiled_line p [] q tiled = omega (arith, tiled)
tiled_line p (a ∷ as') q tiled =
    let here = tiled.0 in (omega (arith, here), subst (λ n. AreInLine (n + a.shards) (map shards_block as') q) (sym here) (tiled_line (p + a.shards) as' q tiled.1))

-- the allocators of a kind in a plan with these of memories
abbrev pub laid : PlanSettings → List Allocator → SlotKind → List Allocator
laid s memories Memory = memories
laid s memories Table = allocator_planned s Table ∷ []
laid s memories Stack = allocator_planned s Stack ∷ []
laid s memories Heap = allocator_planned s Heap ∷ []

pub laid_are : (s : PlanSettings) (memories : List Allocator) (plan : Plan) → IsPlanWith s memories plan → (kind : SlotKind) → allocators_of plan kind ≡ laid s memories kind
laid_are s memories plan is Memory = is.memories
laid_are s memories plan is Table = is.tables
laid_are s memories plan is Stack = is.stacks
laid_are s memories plan is Heap = is.heaps

-- the shards of other kinds come after those of memories
abbrev three : PlanSettings → List Allocator
three s = allocator_planned s Table ∷ allocator_planned s Stack ∷ allocator_planned s Heap ∷ []

three_line : (s : PlanSettings) → AreInLine s.shards.memory (map shards_block (three s)) (shards_planned s)
three_line s = (omega arith, (omega arith, (omega arith, omega arith)))

abbrev pub HasLine : PlanSettings → List Allocator → Type 0
HasLine s memories = AreInLine 0 (map shards_block memories) s.shards.memory

shards_line : (s : PlanSettings) (memories : List Allocator) (plan : Plan) → IsPlanWith s memories plan → HasLine s memories → AreInLine 0 (map shards_block (allocators plan)) (shards_planned s)
shards_line s memories plan is line = rw (is.memories, is.tables, is.stacks, is.heaps) (line_on 0 memories (three s) s.shards.memory (shards_planned s) line (three_line s))

abbrev behind_shards : Plan → List Block
behind_shards plan = cells_block plan Memory ∷ cells_block plan Table ∷ cells_block plan Stack
    ∷ record { first = plan.first_queue; count = plan.queues; role = λ i. queue_role }
    ∷ record { first = plan.heap_list; count = min 1 plan.totals.heap; role = λ i. heaps_role plan.totals.heap }
    ∷ []

cells_line : (s : PlanSettings) (memories : List Allocator) (plan : Plan) → IsPlanWith s memories plan → AreInLine (shards_planned s) (behind_shards plan) (places_planned s)
cells_line s memories plan is =
    let cm : plan.cells.memory ≡ shards_planned s = ap (λ (o : OfKinds). o.memory) is.cells in
    let ct : plan.cells.table ≡ shards_planned s + s.totals.memory = ap (λ (o : OfKinds). o.table) is.cells in
    let cs : plan.cells.stack ≡ shards_planned s + s.totals.memory + s.totals.table = ap (λ (o : OfKinds). o.stack) is.cells in
    let m : plan.totals.memory ≡ s.totals.memory = ap (λ (o : OfKinds). o.memory) is.totals in
    let t : plan.totals.table ≡ s.totals.table = ap (λ (o : OfKinds). o.table) is.totals in
    let k : plan.totals.stack ≡ s.totals.stack = ap (λ (o : OfKinds). o.stack) is.totals in
    let h : min 1 plan.totals.heap ≡ min 1 s.totals.heap = ap (λ (o : OfKinds). min 1 o.heap) is.totals in
    let q = is.first_queue in
    let n = is.queues in
    let l = is.heap_list in
    (omega (arith, cm), (omega (arith, cm, ct, m), (omega (arith, ct, cs, t), (omega (arith, cs, k, q), (omega (arith, q, n, l), omega (arith, l, h))))))

-- the one allocator of a kind has each number below its total
whole_steps : (n : ℕ) → ((n - 0) % 1 ≡ 0) × ((n - 0) / 1 ≡ n)
whole_steps n =
    let none : (n - 0) % 1 < 1 = mod-lt (n - 0) (omega arith) in
    let split : 1 * ((n - 0) / 1) + (n - 0) % 1 ≡ n - 0 = div-add-mod (n - 0) 1 in
    (omega arith, omega arith)

pub has_each : (s : PlanSettings) (kind : SlotKind) (n : ℕ) → n < of_kind kind s.totals → has_number (allocator_planned s kind) n ≡ true
has_each s kind n inside =
    let w = whole_steps n in
    rw (w.0, w.1) (and_from (nat_le 0 n) (nat_lt n (of_kind kind s.totals)) (le-leb 0 n (omega arith)) (lt-ltb n (of_kind kind s.totals) inside))

pub allocators_are : (s : PlanSettings) (kind : SlotKind) → HoldSlots (of_kind kind s.totals) (of_kind kind s.shards) (of_kind kind s.slots_per_shard) → AreAllocators kind (of_kind kind s.totals) (allocator_planned s kind ∷ [])
allocators_are s kind holds =
    record {
      each = (record { kind_is = refl; some = holds.some; apart = omega arith; covered = holds.covered; below = λ k inside. omega (arith, inside) }, tt);
      one = λ n inside. rw (has_each s kind n inside) refl;
    }

pub planned_with : (s : PlanSettings) (memories : List Allocator) (plan : Plan) → HasLine s memories → ((kind : SlotKind) → AreAllocators kind (of_kind kind s.totals) (laid s memories kind)) → IsPlanWith s memories plan → IsPlanned plan (places_planned s)
planned_with s memories plan line right is =
    let shards : AreInLine 0 (map shards_block (allocators plan)) (shards_planned s) = shards_line s memories plan is line in
    let cells = cells_line s memories plan is in
    let ends : shards_planned s ≤ places_planned s = rises (shards_planned s) (behind_shards plan) (places_planned s) cells in
    record {
      separate =
          separate_behind (shards_planned s) (behind_shards plan) (map shards_block (allocators plan)) (beyond (shards_planned s) (behind_shards plan) (places_planned s) cells)
          (below 0 (map shards_block (allocators plan)) (shards_planned s) shards)
          (separate (shards_planned s) (behind_shards plan) (places_planned s) cells)
          (separate 0 (map shards_block (allocators plan)) (shards_planned s) shards);
      inside =
          each_append (λ b. b.first + b.count ≤ places_planned s) (behind_shards plan) (map shards_block (allocators plan)) (below (shards_planned s) (behind_shards plan) (places_planned s) cells)
          (each_weaker (λ b. b.first + b.count ≤ shards_planned s) (λ b. b.first + b.count ≤ places_planned s) (map shards_block (allocators plan)) (λ b under. omega (arith, under, ends))
          (below 0 (map shards_block (allocators plan)) (shards_planned s) shards));
      slots = λ kind.
          let A : List Allocator → Type 0 = λ l. AreAllocators kind (of_kind kind plan.totals) l in
          subst A (sym (laid_are s memories plan is kind)) (rw is.totals (right kind));
    }

pub home_by : (s : PlanSettings) (name : SlotName) → name.slot < of_kind name.kind s.totals → home_among (allocator_planned s name.kind ∷ []) name.slot ≡ home_planned s name
home_by s name inside =
    let w = whole_steps name.slot in
    rw (has_each s name.kind name.slot inside, w.1) refl

-- The settings determine the plan.
pub one_plan_with : (s : PlanSettings) (memories : List Allocator) (a b : Plan) → IsPlanWith s memories a → IsPlanWith s memories b → a ≡ b
one_plan_with s memories a b one two =
    let lists : (kind : SlotKind) → allocators_of a kind ≡ allocators_of b kind = λ kind. laid_are s memories a one kind ∙ sym (laid_are s memories b two kind) in
    let Lists : List Allocator → List Allocator → List Allocator → List Allocator → Plan =
    λ memories tables stacks heaps. record { memories = memories; tables = tables; stacks = stacks; heaps = heaps; cells = a.cells; totals = a.totals; first_queue = a.first_queue; queues = a.queues; heap_list = a.heap_list } in
    let Sizes : OfKinds → OfKinds → ℕ → ℕ → ℕ → Plan =
    λ cells totals first queues heaps. record { memories = b.memories; tables = b.tables; stacks = b.stacks; heaps = b.heaps; cells = cells; totals = totals; first_queue = first; queues = queues; heap_list = heaps } in
    ap (λ (l : List Allocator). Lists l a.tables a.stacks a.heaps) (lists Memory) ∙ ap (λ (l : List Allocator). Lists b.memories l a.stacks a.heaps) (lists Table) ∙ ap (λ (l : List Allocator). Lists b.memories b.tables l a.heaps) (lists Stack) ∙ ap (Lists b.memories b.tables b.stacks) (lists Heap)
    ∙ ap (λ (x : OfKinds). Sizes x a.totals a.first_queue a.queues a.heap_list) (one.cells ∙ sym two.cells)
    ∙ ap (λ (x : OfKinds). Sizes b.cells x a.first_queue a.queues a.heap_list) (one.totals ∙ sym two.totals)
    ∙ ap (λ (n : ℕ). Sizes b.cells b.totals n a.queues a.heap_list) (one.first_queue ∙ sym two.first_queue)
    ∙ ap (λ (n : ℕ). Sizes b.cells b.totals b.first_queue n a.heap_list) (one.queues ∙ sym two.queues)
    ∙ ap (λ (n : ℕ). Sizes b.cells b.totals b.first_queue b.queues n) (one.heap_list ∙ sym two.heap_list)
