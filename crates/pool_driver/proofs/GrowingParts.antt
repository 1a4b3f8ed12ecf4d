-- What may become of a part: a part that is topped stays so, and the counts of a cell never fall.
use Rattle.std.proofs.Common.{◌≡◌, ℕ, zero, suc, ◌+◌, ◌-◌, ◌^◌, ◌<◌, ◌≤◌, true, List, [], ◌∷◌, length, set, refl, sym, ap, arith, slice_index, Option, Some, None, true≢false}
use Rattle.std.specs.Prelude.{◌%◌}
use Rattle.std.specs.Option.{option_map_or}
use Rattle.std.proofs.lemmas.Bool.{eqb-true, eq-eqb}
use Rattle.std.proofs.lemmas.List.{length-set}
use Rattle.pool_pages.specs.MakerTold.{MakerTold}
use Rattle.pool_hall.specs.declared.unit_name.SlotKind.{SlotKind}
use Rattle.pool_index.specs.Shard.{ShardState, Choice, warm_at, next_cold, choice, affine_choice, after_choice, after_full, after_pick, after_affine_pick, after_free}
use Rattle.pool_index.specs.declared.ids.MemoryInModule.{MemoryInModule}
use Rattle.pool_slots.specs.Cells.{Cell, unmapped, unknown, previously_used, taken, is_taken}
use Rattle.pool_slots.specs.Parts.{IsShardPart, cell_of_part, part_at}
use Rattle.pool_slots.specs.Plans.{Role, shard_role, queue_role, heaps_role, cell_place, home_of}
use Rattle.pool_slots.specs.RegionCells.{CellState, IsAwaited, IsRegionOf, cell_numbers, cell_emptied, cell_filled, faults_in, numbers_by, puts_with}
use Rattle.pool_slots.specs.SlotQueues.{Queue}
use Rattle.pool_slots.specs.declared.heap_list.HeapEntry.{HeapEntry}
use Rattle.pool_slots.specs.declared.part.PoolPart.{PoolPart}
use Rattle.pool_slots.specs.declared.part.PoolPart.TheVariants as part
use Rattle.pool_slots.specs.declared.plan.Allocator.{Allocator}
use Rattle.pool_slots.specs.declared.plan.Plan.{Plan}
use Rattle.pool_slots.specs.declared.slot_name.RegionNumbers.{RegionNumbers}
use Rattle.pool_slots.specs.declared.slot_name.SlotName.{SlotName}
use Rattle.pool_alloc.specs.BetweenSteps.{IsPartFor}
use Rattle.pool_alloc.specs.StepReads.{IsQueuePart, IsHeapsPart, after_frees, cell_named, shard_at, shard_in, part_holding, with_shard, with_cell, with_queue, with_heaps}
use Rattle.pool_alloc.specs.declared.frame.FreedSlot.{FreedSlot}
use Rattle.pool_alloc.specs.declared.pool_core.PoolCore.{PoolCore}
use Rattle.pool_alloc.specs.declared.pool_core.Settings.{Settings}
use Rattle.pool_alloc.proofs.CoreChanges.{at_set}
use Rattle.pool_driver.specs.Growing.{PartGrows}
use Rattle.pool_driver.specs.Placed.{IsSmall, cell_counts, cell_topped}

-- A shard has no fewer slots that were used, of as many.
pub record HasFewerCold (s t : ShardState) : Type 0 where
  pub cold : s.cold ≤ t.cold
  pub capacity : t.capacity ≡ s.capacity

-- A cell's region has no fewer faults, and no fewer regions were put there of which nothing was known.
pub record CountsOn (old new : CellState) : Type 0 where
  pub faults : (cell_numbers old).faults ≤ (cell_numbers new).faults
  pub puts : old.unknown_puts < 2 ^ 64 → old.unknown_puts ≤ new.unknown_puts

-- so it is after a pick, and after slots were freed
chosen : (want : Option MemoryInModule) (s other : ShardState) (o : Option Choice) → HasFewerCold s other → HasFewerCold s (option_map_or (after_choice want s) o other)
chosen want s other None fewer = fewer
chosen want s other (Some (warm_at i)) fewer = record { cold = omega arith; capacity = refl }
chosen want s other (Some next_cold) fewer = record { cold = omega arith; capacity = refl }

pub picks_on : (want : Option MemoryInModule) (s : ShardState) → HasFewerCold s (after_pick want s)
picks_on want s = chosen want s (after_full s) (choice want s) (record { cold = omega arith; capacity = refl })

pub affine_picks_on : (of : MemoryInModule) (s : ShardState) → HasFewerCold s (after_affine_pick of s)
affine_picks_on of s = chosen None s (record s { affine_misses = (s.affine_misses + 1) % 2 ^ 64 }) (affine_choice (Some of) s) (record { cold = omega arith; capacity = refl })

pub frees_on : (plan : Plan) (slots : List FreedSlot) (s : ShardState) → HasFewerCold s (after_frees plan slots s)
frees_on plan [] s = record { cold = omega arith; capacity = refl }
frees_on plan (x ∷ rest) s = let more = frees_on plan rest (after_free (home_of plan x.name).local x.bytes s) in record { cold = more.cold; capacity = more.capacity }

-- a cell tells the numbers of what lies there, or those with which it went out
pub numbers_out : (out : RegionNumbers) (kind : SlotKind) (held : Cell) → is_taken held ≡ true → numbers_by out kind held ≡ out
numbers_out out kind taken e = refl
numbers_out out kind held e = absurd cc

pub faults_there : (out : RegionNumbers) (kind : SlotKind) (held : Cell) (name : SlotName) → IsRegionOf name held → (numbers_by out kind held).faults ≡ faults_in held
faults_there out kind (unmapped region) name own = refl
faults_there out kind (unknown slot) name own = refl
faults_there out kind (previously_used slot) name own = refl
faults_there out kind taken name own = absurd own

puts_rise : (held : Cell) (n : ℕ) → n < 2 ^ 64 → n ≤ puts_with held n
puts_rise (unknown slot) n small = omega (arith, small)
puts_rise (unmapped region) n small = omega arith
puts_rise (previously_used slot) n small = omega arith
puts_rise taken n small = omega arith

pub emptied_on : (cell : CellState) → CountsOn cell (cell_emptied cell)
emptied_on cell = record { faults = omega arith; puts = λ small. omega arith }

pub filled_on : (held : Cell) (cell : CellState) → IsAwaited held cell → cell.out.faults ≤ faults_in held → CountsOn cell (cell_filled held cell)
filled_on held cell awaited least =
    let was : (cell_numbers cell).faults ≡ cell.out.faults = ap (λ (n : RegionNumbers). n.faults) (numbers_out cell.out cell.name.kind cell.holds awaited.empty) in
    let is : (cell_numbers (cell_filled held cell)).faults ≡ faults_in held = faults_there cell.out cell.name.kind held cell.name awaited.own in
    record { faults = omega (arith, was, is, least); puts = λ small. puts_rise held cell.unknown_puts small }

still_topped : (old new : CellState) → CountsOn old new → (cell_numbers new).faults < 2 ^ 64 → cell_topped old ≡ true → cell_topped new ≡ true
still_topped old new on small e = eq-eqb (cell_numbers new).faults (2 ^ 64 - 1) (omega (arith, small, on.faults, eqb-true (cell_numbers old).faults (2 ^ 64 - 1) e))

none_falls : (old new : CellState) → CountsOn old new → old.unknown_puts < 2 ^ 64 → (i : ℕ) → slice_index (cell_counts old) i ≤ slice_index (cell_counts new) i
none_falls old new on small zero = on.faults
none_falls old new on small (suc zero) = on.puts small
none_falls old new on small (suc (suc i)) = omega arith

module _ {P H : Type 0} where
  -- The first part may stand where the second stood: it is a part of the same kind, and a shard has no more used slots than slots.
  abbrev pub IsAsBefore : PoolPart P H → PoolPart P H → Type 0
  IsAsBefore (part.Shard t) x = IsShardPart x × (t.cold ≤ t.capacity)
  IsAsBefore (part.Queue q) x = IsQueuePart x
  IsAsBefore (part.Heaps heaps) x = IsHeapsPart x
  IsAsBefore (part.Memory cell) x = Unit {0}
  IsAsBefore (part.Table cell) x = Unit {0}
  IsAsBefore (part.Stack cell) x = Unit {0}

  shard_there : (maker : MakerTold) (s : Settings) (a : Allocator) (j : ℕ) (x : PoolPart P H) → IsPartFor maker s (shard_role a j) x → IsShardPart x
  shard_there maker s a j (part.Shard t) is = tt
  shard_there maker s a j x is = absurd is

  queue_there : (maker : MakerTold) (s : Settings) (x : PoolPart P H) → IsPartFor maker s queue_role x → IsQueuePart x
  queue_there maker s (part.Queue q) is = tt
  queue_there maker s x is = absurd is

  heaps_there : (maker : MakerTold) (s : Settings) (n : ℕ) (x : PoolPart P H) → IsPartFor maker s (heaps_role n) x → IsHeapsPart x
  heaps_there maker s n (part.Heaps heaps) is = tt
  heaps_there maker s n x is = absurd is

  -- so it is of two parts that one place of a plan was for
  pub as_before : (maker : MakerTold) (before s : Settings) (r : Role) (x y : PoolPart P H) → IsPartFor maker before r x → IsPartFor maker s r y → IsAsBefore y x
  as_before maker before s (shard_role a j) x (part.Shard t) was is = (shard_there maker before a j x was, is.sound.cold_at_most)
  as_before maker before s queue_role x (part.Queue q) was is = queue_there maker before x was
  as_before maker before s (heaps_role n) x (part.Heaps heaps) was is = heaps_there maker before n x was
  as_before maker before s r x (part.Memory cell) was is = tt
  as_before maker before s r x (part.Table cell) was is = tt
  as_before maker before s r x (part.Stack cell) was is = tt
  as_before maker before s r x y was is = absurd is

  -- The part grows to the other, if the counts of both are small and it may stand there.
  abbrev pub MayGrow : PoolPart P H → PoolPart P H → Type 0
  MayGrow x y = IsSmall x → IsSmall y → IsAsBefore y x → PartGrows x y

  stays : (x : PoolPart P H) → MayGrow x x
  stays x was small for = record { topped = λ e. e; steady = refl; rises = λ e i. omega arith }

  shard_grows : (x : PoolPart P H) (t : ShardState) → HasFewerCold (shard_in x) t → MayGrow x (part.Shard t)
  shard_grows (part.Shard s) t fewer was small for = record {
    topped = λ e. eq-eqb t.cold t.capacity (omega (arith, eqb-true s.cold s.capacity e, fewer.cold, fewer.capacity, for.1));
    steady = refl;
    rises = λ e i. absurd (true≢false (sym e));
  }
  shard_grows x t fewer was small for = absurd (for.0)

  queue_grows : (x : PoolPart P H) (q : Queue) → MayGrow x (part.Queue q)
  queue_grows (part.Queue old) q was small for = record { topped = λ e. e; steady = refl; rises = λ e i. absurd (true≢false (sym e)) }
  queue_grows x q was small for = absurd for

  heaps_grow : (x : PoolPart P H) (heaps : List (HeapEntry H)) → MayGrow x (part.Heaps heaps)
  heaps_grow (part.Heaps old) heaps was small for = record { topped = λ e. e; steady = refl; rises = λ e i. absurd (true≢false (sym e)) }
  heaps_grow x heaps was small for = absurd for

  cell_grows : (x : PoolPart P H) (cell : CellState) → CountsOn (cell_of_part x) cell → MayGrow x (part_holding cell x)
  cell_grows (part.Memory old) cell on was small for = record { topped = still_topped old cell on (small 0); steady = refl; rises = λ e. none_falls old cell on (was 1) }
  cell_grows (part.Table old) cell on was small for = record { topped = still_topped old cell on (small 0); steady = refl; rises = λ e. none_falls old cell on (was 1) }
  cell_grows (part.Stack old) cell on was small for = record { topped = still_topped old cell on (small 0); steady = refl; rises = λ e. none_falls old cell on (was 1) }
  cell_grows x cell on was small for = stays x was small for

  -- Each part may grow to the one at its place.
  pub record AllMayGrow (xs ys : List (PoolPart P H)) : Type 0 where
    pub long : length ys ≡ length xs
    pub each : (k : ℕ) → k < length xs → MayGrow (part_at k xs) (part_at k ys)

  pub all_stay : (xs : List (PoolPart P H)) → AllMayGrow xs xs
  all_stay xs = record { long = refl; each = λ k below. stays (part_at k xs) }

  one_grows : (xs : List (PoolPart P H)) (place : ℕ) (y : PoolPart P H) → MayGrow (part_at place xs) y → AllMayGrow xs (set xs place y)
  one_grows xs place y grows = record {
    long = length-set xs place y;
    each = λ k below. at_set (λ n z. MayGrow (part_at n xs) z) xs place k y _ below grows (stays (part_at k xs));
  }

  -- where one shard changed, one cell, one queue, or the list of heaps
  pub with_shard_grows : (place : ℕ) (t : ShardState) (c : PoolCore P H) → HasFewerCold (shard_at place c) t → AllMayGrow c.parts (with_shard place t c).parts
  with_shard_grows place t c fewer = one_grows c.parts place (part.Shard t) (shard_grows (part_at place c.parts) t fewer)

  pub with_cell_grows : (name : SlotName) (cell : CellState) (c : PoolCore P H) → CountsOn (cell_named name c) cell → AllMayGrow c.parts (with_cell name cell c).parts
  with_cell_grows name cell c on =
      let place : ℕ = cell_place c.plan name in
      one_grows c.parts place (part_holding cell (part_at place c.parts)) (cell_grows (part_at place c.parts) cell on)

  pub with_queue_grows : (place : ℕ) (queue : Queue) (c : PoolCore P H) → AllMayGrow c.parts (with_queue place queue c).parts
  with_queue_grows place queue c = one_grows c.parts place (part.Queue queue) (queue_grows (part_at place c.parts) queue)

  pub with_heaps_grows : (heaps : List (HeapEntry H)) (c : PoolCore P H) → AllMayGrow c.parts (with_heaps heaps c).parts
  with_heaps_grows heaps c = one_grows c.parts c.plan.heap_list (part.Heaps heaps) (heaps_grow (part_at c.plan.heap_list c.parts) heaps)
