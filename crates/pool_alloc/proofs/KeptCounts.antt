-- What the pool has given out, and what its queues keep, once one shard, one cell, one queue or the list of heaps changed.
use Rattle.std.proofs.Common.{Option, ◌≡◌, ℕ, ◌+◌, ◌<◌, ◌≤◌, true, false, List, length, refl, sym, ap, ◌∙◌, arith}
use Rattle.pool_alloc.proofs.Imports.{total, element, total_at, MakerTold, shard_units, ShardState, Cell, is_taken, taken, CellState, cell_numbers, cell_emptied, cell_filled, cell_away, IsHere, IsOut, memory_of, heap_taken, heap_returned, heaps_away, heap_slot, HeapEntry, part_away, part_kept, StandsAs, IsAt, IsShardPart, part_at, cell_of_part, IsCellPart, Role, shard_role, cell_role, queue_role, heaps_role, role_at, cell_place, Queue, SlotName, PoolPart, away_once, read_at, away_parts, kept_parts, away_follows, kept_follows, heap_takes_count, heap_returns_count, takes_count, puts_count}
use Rattle.pool_slots.specs.declared.part.PoolPart.TheVariants as part
use Rattle.pool_alloc.specs.BetweenSteps.{IsPartFor, IsCore, IsSlotName}
use Rattle.pool_alloc.specs.HeapLeases.{heap_numbers}
use Rattle.pool_alloc.specs.Places.{Thing, right_to, region_of, region_count, queued_count, away_count, kept_count}
use Rattle.pool_alloc.specs.StepReads.{IsQueuePart, IsHeapsPart, shard_in, queue_in, heaps_in, shard_at, queue_at, heaps_at, with_shard, with_cell, with_queue, with_heaps, part_holding, cell_named}
use Rattle.pool_alloc.specs.declared.pool_core.PoolCore.{PoolCore}
use Rattle.pool_alloc.specs.declared.pool_core.Settings.{Settings}
use Rattle.pool_alloc.proofs.PlanPlaces.{IsShardPlace, IsQueuePlace}
use Rattle.pool_alloc.proofs.PoolParts.{shard_part, cell_part, queue_part, heaps_part, heaps_long, sound_cell}

-- a cell's region is there, or out
there_not_taken : (held : Cell) → is_taken held ≡ false → held ≡ taken → ⊥
there_not_taken held there e = let no : true ≡ false = sym (ap is_taken e) ∙ there in absurd cc

pub away_is_taken : (held : Cell) → is_taken held ≡ true → held ≡ taken
away_is_taken taken e = refl
away_is_taken held e = absurd cc

module _ {P H : Type 0} where
  -- what a shard, a memory's cell and a queue have given out, and keep
  shard_away_is : (t : Thing) (x : PoolPart P H) → IsShardPart x → (total t (part_away x) ≡ total t (shard_units (shard_in x))) × (total t (part_kept x) ≡ 0)
  shard_away_is t (part.Shard s) is = (refl, refl)
  shard_away_is t x is = absurd is

  cell_away_is : (t : Thing) (x : PoolPart P H) → IsCellPart x → (total t (part_away x) ≡ total t (cell_away (cell_of_part x))) × (total t (part_kept x) ≡ 0)
  cell_away_is t (part.Memory cell) is = (refl, refl)
  cell_away_is t (part.Table cell) is = (refl, refl)
  cell_away_is t (part.Stack cell) is = (refl, refl)
  cell_away_is t x is = absurd is

  holding_away_is : (t : Thing) (cell : CellState) (x : PoolPart P H) → IsCellPart x → (total t (part_away (part_holding cell x)) ≡ total t (cell_away cell)) × (total t (part_kept (part_holding cell x)) ≡ 0)
  holding_away_is t cell (part.Memory old) is = (refl, refl)
  holding_away_is t cell (part.Table old) is = (refl, refl)
  holding_away_is t cell (part.Stack old) is = (refl, refl)
  holding_away_is t cell x is = absurd is

  queue_away_is : (t : Thing) (x : PoolPart P H) → IsQueuePart x → (total t (part_away x) ≡ 0) × (total t (part_kept x) ≡ queued_count t (queue_in x).slots)
  queue_away_is t (part.Queue q) is = (refl, refl)
  queue_away_is t x is = absurd is

  heaps_away_is : (t : Thing) (x : PoolPart P H) → IsHeapsPart x → (total t (part_away x) ≡ total t (heaps_away (heaps_in x))) × (total t (part_kept x) ≡ 0)
  heaps_away_is t (part.Heaps heaps) is = (refl, refl)
  heaps_away_is t x is = absurd is

  -- how both change with a shard, a queue, a cell and the list of heaps
  pub away_shard : (t : Thing) (p : ℕ) (shard : ShardState) (c : PoolCore P H) → IsAt IsShardPart p c.parts → away_count t (with_shard p shard c) + total t (shard_units (shard_at p c)) ≡ away_count t c + total t (shard_units shard)
  away_shard t p shard c there = away_follows P H t p (λ x. part.Shard shard) c.parts (total t (shard_units shard)) (total t (shard_units (shard_at p c))) there.inside (omega (arith, (shard_away_is t (part_at p c.parts) there.part).0))

  pub kept_shard : (t : Thing) (p : ℕ) (shard : ShardState) (c : PoolCore P H) → IsAt IsShardPart p c.parts → kept_count t (with_shard p shard c) ≡ kept_count t c
  kept_shard t p shard c there = omega (arith, kept_follows P H t p (λ x. part.Shard shard) c.parts 0 0 there.inside (omega (arith, (shard_away_is t (part_at p c.parts) there.part).1)))

  pub away_queue : (t : Thing) (p : ℕ) (queue : Queue) (c : PoolCore P H) → IsAt IsQueuePart p c.parts → away_count t (with_queue p queue c) ≡ away_count t c
  away_queue t p queue c there = omega (arith, away_follows P H t p (λ x. part.Queue queue) c.parts 0 0 there.inside (omega (arith, (queue_away_is t (part_at p c.parts) there.part).0)))

  pub kept_queue : (t : Thing) (p : ℕ) (queue : Queue) (c : PoolCore P H) → IsAt IsQueuePart p c.parts → kept_count t (with_queue p queue c) + queued_count t (queue_at p c).slots ≡ kept_count t c + queued_count t queue.slots
  kept_queue t p queue c there = kept_follows P H t p (λ x. part.Queue queue) c.parts (queued_count t queue.slots) (queued_count t (queue_at p c).slots) there.inside (omega (arith, (queue_away_is t (part_at p c.parts) there.part).1))

  away_cell : (t : Thing) (name : SlotName) (cell : CellState) (c : PoolCore P H) → IsAt IsCellPart (cell_place c.plan name) c.parts → away_count t (with_cell name cell c) + total t (cell_away (cell_named name c)) ≡ away_count t c + total t (cell_away cell)
  away_cell t name cell c there =
      let x : PoolPart P H = part_at (cell_place c.plan name) c.parts in
      away_follows P H t (cell_place c.plan name) (part_holding cell) c.parts (total t (cell_away cell)) (total t (cell_away (cell_named name c))) there.inside (omega (arith, (cell_away_is t x there.part).0, (holding_away_is t cell x there.part).0))

  kept_cell : (t : Thing) (name : SlotName) (cell : CellState) (c : PoolCore P H) → IsAt IsCellPart (cell_place c.plan name) c.parts → kept_count t (with_cell name cell c) ≡ kept_count t c
  kept_cell t name cell c there =
      let x : PoolPart P H = part_at (cell_place c.plan name) c.parts in
      omega (arith, kept_follows P H t (cell_place c.plan name) (part_holding cell) c.parts 0 0 there.inside (omega (arith, (cell_away_is t x there.part).1, (holding_away_is t cell x there.part).1)))

  away_heaps : (t : Thing) (heaps : List (HeapEntry H)) (c : PoolCore P H) → IsAt IsHeapsPart c.plan.heap_list c.parts → away_count t (with_heaps heaps c) + total t (heaps_away (heaps_at c)) ≡ away_count t c + total t (heaps_away heaps)
  away_heaps t heaps c there = away_follows P H t c.plan.heap_list (λ x. part.Heaps heaps) c.parts (total t (heaps_away heaps)) (total t (heaps_away (heaps_at c))) there.inside (omega (arith, (heaps_away_is t (part_at c.plan.heap_list c.parts) there.part).0))

  kept_heaps : (t : Thing) (heaps : List (HeapEntry H)) (c : PoolCore P H) → IsAt IsHeapsPart c.plan.heap_list c.parts → kept_count t (with_heaps heaps c) ≡ kept_count t c
  kept_heaps t heaps c there = omega (arith, kept_follows P H t c.plan.heap_list (λ x. part.Heaps heaps) c.parts 0 0 there.inside (omega (arith, (heaps_away_is t (part_at c.plan.heap_list c.parts) there.part).1)))

  -- The slot of a heap goes out of the list, with the memory that it notes, and comes back with that. What queues keep stays.
  pub heap_leaves : (maker : MakerTold) (t : Thing) (slot memory : ℕ) (c : PoolCore P H) → IsCore maker c → slot < c.plan.totals.heap → IsHere slot (heaps_at c)
      → (away_count t (with_heaps (heap_taken slot (record { 0 = memory }) (heaps_at c)) c) ≡ away_count t c + region_count t (heap_slot slot) (heap_numbers memory)) × (kept_count t (with_heaps (heap_taken slot (record { 0 = memory }) (heaps_at c)) c) ≡ kept_count t c)
  heap_leaves maker t slot memory c core inside here =
      let there = heaps_part maker c core (omega (arith, inside)) in
      let heaps : List (HeapEntry H) = heap_taken slot (record { 0 = memory }) (heaps_at c) in
      (omega (arith, away_heaps t heaps c there, heap_takes_count {H = H} t slot (record { 0 = memory }) (heaps_at c) (omega (arith, inside, heaps_long maker c core (omega (arith, inside)))) here), kept_heaps t heaps c there)

  pub heap_comes_back : (maker : MakerTold) (t : Thing) (slot : ℕ) (heap : Option H) (c : PoolCore P H) → IsCore maker c → slot < c.plan.totals.heap → IsOut slot (heaps_at c)
      → (away_count t (with_heaps (heap_returned slot heap (heaps_at c)) c) + region_count t (heap_slot slot) (heap_numbers (memory_of slot (heaps_at c)).0) ≡ away_count t c) × (kept_count t (with_heaps (heap_returned slot heap (heaps_at c)) c) ≡ kept_count t c)
  heap_comes_back maker t slot heap c core inside out =
      let there = heaps_part maker c core (omega (arith, inside)) in
      let heaps : List (HeapEntry H) = heap_returned slot heap (heaps_at c) in
      (omega (arith, away_heaps t heaps c there, heap_returns_count {H = H} t slot heap (heaps_at c) out), kept_heaps t heaps c there)

  -- A region leaves its cell, and comes back with the numbers that it went out with. What queues keep stays.
  pub region_leaves : (maker : MakerTold) (t : Thing) (name : SlotName) (c : PoolCore P H) → IsCore maker c → IsSlotName c.plan name → is_taken (cell_named name c).holds ≡ false → (away_count t (with_cell name (cell_emptied (cell_named name c)) c) ≡ away_count t c + region_count t name (cell_numbers (cell_named name c))) × (kept_count t (with_cell name (cell_emptied (cell_named name c)) c) ≡ kept_count t c)
  region_leaves maker t name c core named has =
      let cell : CellState = cell_named name c in
      let there = cell_part maker name c core named in
      let is : region_count t cell.name (cell_numbers cell) ≡ region_count t name (cell_numbers cell) = ap (λ (n : SlotName). region_count t n (cell_numbers cell)) (sound_cell maker name c core named).named in
      (omega (arith, away_cell t name (cell_emptied cell) c there, takes_count t cell (there_not_taken cell.holds has), is), kept_cell t name (cell_emptied cell) c there)

  pub region_returns : (maker : MakerTold) (t : Thing) (name : SlotName) (held : Cell) (c : PoolCore P H) → IsCore maker c → IsSlotName c.plan name → is_taken (cell_named name c).holds ≡ true → is_taken held ≡ false → (away_count t (with_cell name (cell_filled held (cell_named name c)) c) + region_count t name (cell_named name c).out ≡ away_count t c) × (kept_count t (with_cell name (cell_filled held (cell_named name c)) c) ≡ kept_count t c)
  region_returns maker t name held c core named none has =
      let cell : CellState = cell_named name c in
      let there = cell_part maker name c core named in
      let is : region_count t cell.name cell.out ≡ region_count t name cell.out = ap (λ (n : SlotName). region_count t n cell.out) (sound_cell maker name c core named).named in
      (omega (arith, away_cell t name (cell_filled held cell) c there, puts_count t held cell (away_is_taken cell.holds none) (there_not_taken held has), is), kept_cell t name (cell_filled held cell) c there)

  -- what one part has given out or keeps, all have
  pub part_away_in : (t : Thing) (p : ℕ) (c : PoolCore P H) → p < length c.parts → total t (part_away (part_at p c.parts)) ≤ away_count t c
  part_away_in t p c below =
      let it = element c.parts p below in
      let is : part_at p c.parts ≡ it.0 = read_at c.parts p _ it.0 it.1 in
      omega (arith, ap (λ (x : PoolPart P H). total t (part_away x)) is, total_at (λ (x : PoolPart P H). total t (part_away x)) c.parts p it.0 it.1, away_parts t c.parts)

  part_kept_in : (t : Thing) (p : ℕ) (c : PoolCore P H) → p < length c.parts → total t (part_kept (part_at p c.parts)) ≤ kept_count t c
  part_kept_in t p c below =
      let it = element c.parts p below in
      let is : part_at p c.parts ≡ it.0 = read_at c.parts p _ it.0 it.1 in
      omega (arith, ap (λ (x : PoolPart P H). total t (part_kept x)) is, total_at (λ (x : PoolPart P H). total t (part_kept x)) c.parts p it.0 it.1, kept_parts t c.parts)

  pub shard_away : (maker : MakerTold) (t : Thing) (p : ℕ) (c : PoolCore P H) → IsCore maker c → IsShardPlace c.plan p → total t (shard_units (shard_at p c)) ≤ away_count t c
  shard_away maker t p c core place =
      let there = shard_part maker p c core place in
      omega (arith, part_away_in t p c there.inside, (shard_away_is t (part_at p c.parts) there.part).0)

  pub cell_away_in : (maker : MakerTold) (t : Thing) (name : SlotName) (c : PoolCore P H) → IsCore maker c → IsSlotName c.plan name → total t (cell_away (cell_named name c)) ≤ away_count t c
  cell_away_in maker t name c core named =
      let there = cell_part maker name c core named in
      omega (arith, part_away_in t (cell_place c.plan name) c there.inside, (cell_away_is t (part_at (cell_place c.plan name) c.parts) there.part).0)

  pub heaps_away_in : (maker : MakerTold) (t : Thing) (c : PoolCore P H) → IsCore maker c → 0 < c.plan.totals.heap → total t (heaps_away (heaps_at c)) ≤ away_count t c
  heaps_away_in maker t c core some =
      let there = heaps_part maker c core some in
      omega (arith, part_away_in t c.plan.heap_list c there.inside, (heaps_away_is t (part_at c.plan.heap_list c.parts) there.part).0)

  pub queue_kept : (maker : MakerTold) (t : Thing) (p : ℕ) (c : PoolCore P H) → IsCore maker c → IsQueuePlace c.plan p → queued_count t (queue_at p c).slots ≤ kept_count t c
  queue_kept maker t p c core place =
      let there = queue_part maker p c core place in
      omega (arith, part_kept_in t p c there.inside, (queue_away_is t (part_at p c.parts) there.part).1)

  -- No slot is given out twice, and no region.
  pub stands : (maker : MakerTold) (s : Settings) (r : Role) (x : PoolPart P H) → IsPartFor maker s r x → StandsAs r x
  stands maker s (shard_role a j) (part.Shard shard) is = is
  stands maker s (cell_role name) (part.Memory cell) is = (is.0, is.1.named)
  stands maker s (cell_role name) (part.Table cell) is = (is.0, is.1.named)
  stands maker s (cell_role name) (part.Stack cell) is = (is.0, is.1.named)
  stands maker s queue_role (part.Queue q) is = tt
  stands maker s (heaps_role n) (part.Heaps heaps) is = is
  stands maker s r x is = absurd is

  pub out_once : (maker : MakerTold) (name : SlotName) (c : PoolCore P H) → IsCore maker c → (away_count (right_to name) c ≤ 1) × (away_count (region_of name) c ≤ 1)
  out_once maker name c core =
      away_once P H c.plan c.parts name
      (record { planned = core.plan.planned; stand = λ p below. stands maker c.settings (role_at c.plan p) (part_at p c.parts) (core.parts p below) })
