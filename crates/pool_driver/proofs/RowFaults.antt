-- The rows of calls: what the frame has, and what queues of the pool hold, keeps its faults.
use Rattle.std.proofs.Common.{◌≡◌, ℕ, ◌+◌, ◌<◌, Bool, true, false, List, [], ◌∷◌, length, sym, subst, arith, Option, Some, None, Result, Ok, Err, inl, inr, set, nat_lt, nat_le, slice_get, IfSome}
use Rattle.std.specs.Prelude.{if◌then◌else◌, ◌^◌, ◌==◌, ◌||◌}
use Rattle.std.specs.List.{AllByRecursion}
use Rattle.std.proofs.lemmas.Bool.{cases_lt}
use Rattle.std.proofs.lemmas.List.{get_or_past, length-set}
use Rattle.pool_hall.specs.declared.unit_name.SlotKind.{SlotKind}
use Rattle.pool_hall.specs.declared.unit_name.SlotKind.TheVariants.{Memory as memory_kind, Table as table_kind, Stack as stack_kind, Heap as heap_kind}
use Rattle.pool_index.specs.Shard.{ShardState, pick_answer}
use Rattle.pool_index.specs.declared.ids.SlotId.{SlotId}
use Rattle.pool_limits.specs.declared.errors.LimiterError.{LimiterError}
use Rattle.pool_memory.specs.Making.{limits_answer, maximum_asked}
use Rattle.pool_memory.specs.Memories.{MemoryState, slot_of}
use Rattle.pool_memory.specs.Static.{static_capacity}
use Rattle.pool_memory.specs.declared.memory_error.MemoryError.{MemoryError}
use Rattle.pool_memory.specs.declared.memory_error.MemoryError.TheVariants as unmade
use Rattle.pool_table.specs.Making.{room_of}
use Rattle.pool_pages.specs.Told.{Told}
use Rattle.pool_pages.proofs.Small.{told_weaker}
use Rattle.pool_images.specs.Slots.{Slot, hides}
use Rattle.pool_types.specs.MemoryTypes.{allow_growth_to, minimum_byte_size}
use Rattle.pool_types.specs.declared.module_types.MemoryDecl.{MemoryDecl}
use Rattle.pool_types.specs.declared.module_types.MemoryType.{MemoryType}
use Rattle.pool_types.specs.declared.table_type.TableType.{TableType}
use Rattle.pool_types.specs.declared.unsupported.Unsupported.{Unsupported}
use Rattle.pool_types.specs.declared.unsupported.Unsupported.TheVariants.{AddressSpace, InitialSize, MemoryMinimum, TableSize}
use Rattle.pool_slots.specs.Cells.{Cell, unmapped, unknown, previously_used, taken}
use Rattle.pool_slots.specs.Parts.{cell_of_part, part_at}
use Rattle.pool_slots.specs.Plans.{cell_place}
use Rattle.pool_slots.specs.RegionCells.{CellState, cell_made, cell_numbers, numbers_by}
use Rattle.pool_slots.specs.SlotQueues.{Queue, Queued, after_append, drained, first_of_kind, others_of_kind}
use Rattle.pool_slots.specs.declared.errors.AllocError.{AllocError}
use Rattle.pool_slots.specs.declared.errors.AllocError.TheVariants as refusal
use Rattle.pool_slots.specs.declared.heap_maker.HeapMakeFault.{HeapMakeFault}
use Rattle.pool_slots.specs.declared.part.PoolPart.{PoolPart}
use Rattle.pool_slots.specs.declared.part.PoolPart.TheVariants as part
use Rattle.pool_slots.specs.declared.plan.Plan.{Plan}
use Rattle.pool_slots.specs.declared.slot_name.RegionNumbers.{RegionNumbers}
use Rattle.pool_slots.specs.declared.slot_name.SlotName.{SlotName}
use Rattle.pool_slots.proofs.Lists.{each_append}
use Rattle.pool_alloc.specs.PageCallAnswers.{Empties, FlushTold, InstantiatesFor, ResetTold, Resets}
use Rattle.pool_alloc.specs.HeapLeases.{LeasedHeap}
use Rattle.pool_alloc.specs.Leases.{Lease, slot_taken}
use Rattle.pool_alloc.specs.Modules.{IfAllocated}
use Rattle.pool_alloc.specs.MemorySteps.{reset_into, refusal_of, made_for, made_of, made_of_limits}
use Rattle.pool_alloc.specs.PoolStacks.{stack_reset}
use Rattle.pool_alloc.specs.StepTable as rows
use Rattle.pool_alloc.specs.BetweenSteps.{IsMemoryNext}
use Rattle.pool_alloc.specs.StepReads.{StepGiven, allocator_for, cell_named, counting_memories, counting_tables, heaps_at, image_wanted, memories_wanted, part_holding, queue_at, queue_in, shard_at, tables_wanted, with_cell, with_part, with_queue, with_shard}
use Rattle.pool_alloc.specs.TableLeases.{LeasedTable}
use Rattle.pool_alloc.specs.TableSteps.{table_reset_into, table_bytes, made_table, made_unless, table_in, table_refused}
use Rattle.pool_alloc.specs.Turns.{After, Row, flush, goes, slot_search, stepped}
use Rattle.pool_alloc.specs.declared.frame.Ending.TheVariants.{Refused as refused}
use Rattle.pool_alloc.specs.declared.frame.Asked.{Asked}
use Rattle.pool_alloc.specs.declared.frame.Asked.TheVariants as asked
use Rattle.pool_alloc.specs.declared.frame.Frame.{Frame}
use Rattle.pool_alloc.specs.declared.frame.Object.{Object}
use Rattle.pool_alloc.specs.declared.frame.Object.TheVariants as object
use Rattle.pool_alloc.specs.declared.frame.Phase.{Phase}
use Rattle.pool_alloc.specs.declared.frame.Phase.TheVariants.{Merge, Pick}
use Rattle.pool_alloc.specs.declared.frame.TakenSlot.{TakenSlot}
use Rattle.pool_alloc.specs.declared.pool_core.PoolCore.{PoolCore}
use Rattle.pool_alloc.specs.declared.pool_core.Settings.{Settings}
use Rattle.pool_alloc.specs.Refusals.{heap_refused}
use Rattle.pool_alloc.proofs.CoreChanges.{at_set}
use Rattle.pool_alloc.proofs.ToldElements.{told_there}
use Rattle.pool_driver.specs.Faults.{AnswerKeeps, FrameKeeps, KeepsFaults, LeaseKeeps, ObjectKeeps, PartKeeps, PhaseKeeps, QueueKeeps, QueuedKeeps, TableKeeps}
use Rattle.pool_driver.specs.Placed.{IsSmall}
use Rattle.pool_driver.proofs.QueueFaults.{by_choice, joined_each, others_each, first_zeroed_each, zeroed_keeps, memory_reset_keeps, table_reset_keeps, stack_reset_keeps}
use Rattle.pool_driver.proofs.RegionFaults.{decommits_keep, empties_keep, instantiates_keep, resets_keep}
use Rattle.pool_driver.proofs.TurnFaults.{HandKeeps, TurnKeeps, after_keeps, answer_keeps}

-- The call isn't refused for a failed page call.
abbrev pub NeverFaults : AllocError → Type 0
NeverFaults e = refused e ≡ refused refusal.PageFault → ⊥

-- What a limiter answers is no such cause,
abbrev LimitsNever : Result (ℕ × Option ℕ) MemoryError → Type 0
LimitsNever (Ok limits) = Unit {0}
LimitsNever (Err e) = NeverFaults (refusal_of e)

limits_never : (answer : Result Bool LimiterError) (ty : MemoryType) → LimitsNever (limits_answer answer ty)
limits_never (Err e) ty = λ is. cc
limits_never (Ok false) ty = λ is. cc
limits_never (Ok true) ty =
    by_choice LimitsNever (nat_lt (minimum_byte_size ty) (2 ^ 64)) (if allow_growth_to ty (minimum_byte_size ty) then Ok (minimum_byte_size ty, maximum_asked ty) else Err (unmade.Unsupported AddressSpace)) (Err (unmade.Unsupported (MemoryMinimum ty.limits.min)))
    (by_choice LimitsNever (allow_growth_to ty (minimum_byte_size ty)) (Ok (minimum_byte_size ty, maximum_asked ty)) (Err (unmade.Unsupported AddressSpace)) tt (λ is. cc))
    (λ is. cc)

-- the memory that is made in a slot lies in that slot,
abbrev pub MadeKeeps : ℕ → Result MemoryState AllocError → Type 0
MadeKeeps told (Ok memory) = KeepsFaults told (slot_of memory).region.faults
MadeKeeps told (Err e) = NeverFaults e

limits_keep : (told : ℕ) (r : Result (ℕ × Option ℕ) MemoryError) (ty : MemoryType) (room : ℕ) (held : Slot) → LimitsNever r → KeepsFaults told held.region.faults → MadeKeeps told (made_of_limits r ty room held)
limits_keep told (Err e) ty room held never k = never
limits_keep told (Ok limits) ty room held never k =
    by_choice (λ r. MadeKeeps told (made_of ty r)) (nat_le limits.0 room) (Ok (record { slot = held; size = limits.0; capacity = static_capacity room limits.1 })) (Err (held, InitialSize)) k (λ is. cc)

pub made_keeps : (told room : ℕ) (answer : Result Bool LimiterError) (held : Slot) (o : Option MemoryDecl) → KeepsFaults told held.region.faults → MadeKeeps told (made_for room answer held o)
made_keeps told room answer held None k = λ is. cc
made_keeps told room answer held (Some decl) k = limits_keep told (limits_answer answer decl.ty) decl.ty room held (limits_never answer decl.ty) k

-- and a table in its region.
abbrev pub MadeTableKeeps : Result LeasedTable AllocError → Type 0
MadeTableKeeps (Ok lease) = TableKeeps lease
MadeTableKeeps (Err e) = NeverFaults e

abbrev RefusedNever : Option AllocError → Type 0
RefusedNever None = Unit {0}
RefusedNever (Some e) = NeverFaults e

table_never : (answer : Result Bool LimiterError) (min room : ℕ) → RefusedNever (table_refused answer min room)
table_never (Err e) min room = λ is. cc
table_never (Ok false) min room = λ is. cc
table_never (Ok true) min room = by_choice RefusedNever (nat_lt room min) (Some (refusal.Unsupported (TableSize min room))) None (λ is. cc) tt

unless_keeps : (o : Option AllocError) (lease : LeasedTable) → RefusedNever o → TableKeeps lease → MadeTableKeeps (made_unless o lease)
unless_keeps None lease never k = k
unless_keeps (Some e) lease never k = never

pub made_table_keeps : (s : Settings) (answer : Result Bool LimiterError) (at : TakenSlot) (region : Told) (o : Option TableType) → KeepsFaults at.numbers.faults region.faults → MadeTableKeeps (made_table s answer at region o)
made_table_keeps s answer at region None k = λ is. cc
made_table_keeps s answer at region (Some ty) k =
    let room : ℕ = room_of ty (table_bytes s ty) in
    unless_keeps (table_refused answer ty.limits.min room) (table_in s ty at region) (table_never answer ty.limits.min room) k

module _ (P H : Type 0) where
  -- What goes out of a cell goes with its own count.
  unmapped_keeps : (s : Settings) (kind : SlotKind) (at : TakenSlot) (region : Told) → KeepsFaults at.numbers.faults region.faults → TurnKeeps {P = P} {H = H} (rows.unmapped_next s kind at region)
  unmapped_keeps s memory_kind at region k = k
  unmapped_keeps s table_kind at region k = k
  unmapped_keeps s stack_kind at region k = k
  unmapped_keeps s heap_kind at region k = tt

  region_keeps : (s : Settings) (name : SlotName) (kind : SlotKind) (out : RegionNumbers) (held : Cell) → (numbers_by out kind held).faults < 2 ^ 64 → TurnKeeps {P = P} {H = H} (rows.region_next s (record { name = name; numbers = numbers_by out kind held }) held)
  region_keeps s name kind out (unmapped region) small = unmapped_keeps s name.kind (record { name = name; numbers = numbers_by out kind (unmapped region) }) region (record { least = omega arith; small = small })
  region_keeps s name kind out (unknown held) small = record { least = omega arith; small = small }
  region_keeps s name kind out (previously_used held) small = record { least = omega arith; small = small }
  region_keeps s name kind out taken small = tt

  taken_next_keeps : (kind : SlotKind) (name : SlotName) → PhaseKeeps {P = P} {H = H} (rows.taken_next kind name)
  taken_next_keeps memory_kind name = tt
  taken_next_keeps table_kind name = tt
  taken_next_keeps stack_kind name = tt
  taken_next_keeps heap_kind name = tt

  heap_keeps : (at : TakenSlot) (o : Option H) → TurnKeeps {P = P} (rows.heap_next at o)
  heap_keeps at None = tt
  heap_keeps at (Some heap) = tt

  turned_keeps : (batch : ℕ) (local : Queue) → TurnKeeps {P = P} {H = H} (rows.reset_turn batch local)
  turned_keeps batch local = by_choice (TurnKeeps {P = P} {H = H}) ((length local.ranges == 0) || nat_le batch (length local.ranges)) flush (goes Merge) tt tt

module _ {P H : Type 0} where
  -- what is at no place of a pool
  abbrev no_part : PoolPart P H
  no_part = part.Memory (cell_made (record { kind = memory_kind; slot = 0 }) taken)

  -- What holds of each part, and of none, holds at each place.
  pub at_each : (Q : PoolPart P H → Type 0) (parts : List (PoolPart P H)) → Q no_part → ((p : ℕ) → p < length parts → Q (part_at p parts)) → (p : ℕ) → Q (part_at p parts)
  at_each Q parts none each p =
      elim (cases_lt p (length parts)) [
        | inl below ↦ each p below
        | inr past ↦ subst Q (sym (get_or_past parts p no_part past)) none
      ]

  -- the queues of a pool keep the faults of their slots
  abbrev pub QueuesKeep : PoolCore P H → Type 0
  QueuesKeep c = (p : ℕ) → PartKeeps (part_at p c.parts)

  part_set : (place : ℕ) (x : PoolPart P H) (c : PoolCore P H) → QueuesKeep c → PartKeeps x → QueuesKeep (with_part place x c)
  part_set place x c each one =
      at_each (λ (y : PoolPart P H). PartKeeps y) (set c.parts place x) tt
      (λ p below. at_set (λ n y. PartKeeps y) c.parts place p x no_part (let e = length-set c.parts place x in omega arith) one (each p))

  holding_keeps : (cell : CellState) (x : PoolPart P H) → PartKeeps x → PartKeeps (part_holding cell x)
  holding_keeps cell (part.Memory old) k = tt
  holding_keeps cell (part.Table old) k = tt
  holding_keeps cell (part.Stack old) k = tt
  holding_keeps cell x k = k

  pub cell_set : (name : SlotName) (cell : CellState) (c : PoolCore P H) → QueuesKeep c → QueuesKeep (with_cell name cell c)
  cell_set name cell c each = part_set (cell_place c.plan name) (part_holding cell (part_at (cell_place c.plan name) c.parts)) c each (holding_keeps cell (part_at (cell_place c.plan name) c.parts) (each (cell_place c.plan name)))

  pub shard_set : (place : ℕ) (shard : ShardState) (c : PoolCore P H) → QueuesKeep c → QueuesKeep (with_shard place shard c)
  shard_set place shard c each = part_set place (part.Shard shard) c each tt

  queue_set : (place : ℕ) (queue : Queue) (c : PoolCore P H) → QueuesKeep c → QueueKeeps queue → QueuesKeep (with_queue place queue c)
  queue_set place queue c each one = part_set place (part.Queue queue) c each one

  queue_keeps : (x : PoolPart P H) → PartKeeps x → QueueKeeps (queue_in x)
  queue_keeps (part.Queue q) k = k
  queue_keeps x k = tt

  -- the numbers of the pool's cells fit 64 bits
  abbrev pub AreSmall : PoolCore P H → Type 0
  AreSmall c = (p : ℕ) → (cell_numbers (cell_of_part (part_at p c.parts))).faults < 2 ^ 64

  pub small_cell : (x : PoolPart P H) → IsSmall x → (cell_numbers (cell_of_part x)).faults < 2 ^ 64
  small_cell (part.Memory cell) small = small 0
  small_cell (part.Table cell) small = small 0
  small_cell (part.Stack cell) small = small 0
  small_cell x small = omega arith

  picked_keeps : (plan : Plan) (o : Option (SlotId × ℕ)) (shard : ShardState) (tried : ℕ) (f : Frame P H) → TurnKeeps (rows.picked plan o shard tried f)
  picked_keeps plan (Some p) shard tried f = taken_next_keeps P H (allocator_for plan f).kind _
  picked_keeps plan None shard tried f = by_choice TurnKeeps (nat_lt (tried + 1) (allocator_for plan f).shards) (goes (Pick (tried + 1))) (slot_search plan f) tt tt

  -- what is shown of a row
  pub record RowKeeps (r : Row (PoolCore P H) P H) : Type 0 where
    pub hand : HandKeeps r.frame
    pub turn : TurnKeeps r.turn
    pub parts : QueuesKeep r.part

  -- what a step leaves
  pub record AfterKeeps (a : After P H) : Type 0 where
    pub frame : FrameKeeps a.frame
    pub answer : AnswerKeeps a.outcome
    pub parts : QueuesKeep a.core

  pub stepped_keeps : (r : Row (PoolCore P H) P H) → RowKeeps r → AfterKeeps (stepped r)
  stepped_keeps r k =
      let left = after_keeps r.frame r.turn k.hand k.turn in
      record { frame = left.frame; answer = left.answer; parts = k.parts }

-- the rows, over what the frame has and the queues hold
module _ {P H : Type 0} (c : PoolCore P H) (f : Frame P H) (hand : HandKeeps f) (parts : QueuesKeep c) where
  pub key_keeps : RowKeeps (rows.key_row c f)
  key_keeps = record { hand = hand; turn = tt; parts = parts }

  -- A request is tested,
  reserved_keeps : (wants : Bool) (phase : Phase P H) → PhaseKeeps phase → RowKeeps (rows.reserved wants phase c f)
  reserved_keeps true phase k = record { hand = hand; turn = tt; parts = parts }
  reserved_keeps false phase k = record { hand = ((tt, tt), hand.1); turn = k; parts = parts }

  pub validated_keeps : (o : Option Unsupported) (wants : Bool) (phase : Phase P H) → PhaseKeeps phase → RowKeeps (rows.validated o wants phase c f)
  validated_keeps (Some rule) wants phase k = record { hand = hand; turn = tt; parts = parts }
  validated_keeps None wants phase k = reserved_keeps wants phase k

  pub stacks_keep : (b : Bool) → RowKeeps (rows.stacks_tested b c f)
  stacks_keep true = record { hand = hand; turn = tt; parts = parts }
  stacks_keep false = record { hand = ((tt, tt), hand.1); turn = tt; parts = parts }

  tested_keeps : (what : Asked) (wants : Bool) → RowKeeps (rows.memory_tested what wants c f)
  tested_keeps (asked.HeapOver memory) wants = record { hand = hand; turn = tt; parts = parts }
  tested_keeps what wants = validated_keeps (heap_refused c.settings what) wants (Pick 0) tt

  pub heaps_keep : (b wants : Bool) → RowKeeps (rows.heaps_tested b wants c f)
  heaps_keep false wants = record { hand = hand; turn = tt; parts = parts }
  heaps_keep true wants = tested_keeps f.asked wants

  pub component_keeps : (o : Option Unsupported) → RowKeeps (rows.component_tested o c f)
  component_keeps (Some rule) = record { hand = hand; turn = tt; parts = parts }
  component_keeps None = record { hand = hand; turn = tt; parts = parts }

  pub counted_keeps : (b : Bool) → RowKeeps (rows.counted b c f)
  counted_keeps true = record { hand = hand; turn = tt; parts = parts }
  counted_keeps false = record { hand = hand; turn = tt; parts = parts }

  pub component_counted_keeps : (b : Bool) → RowKeeps (rows.component_counted b c f)
  component_counted_keeps true = record { hand = hand; turn = tt; parts = parts }
  component_counted_keeps false = record { hand = hand; turn = tt; parts = parts }

  pub uncount_instance_keeps : RowKeeps (rows.uncount_instance_row c f)
  uncount_instance_keeps = record { hand = hand; turn = answer_keeps P H f.ending; parts = parts }

  pub uncount_component_keeps : RowKeeps (rows.uncount_component_row c f)
  uncount_component_keeps = record { hand = hand; turn = answer_keeps P H f.ending; parts = parts }

  -- a slot is picked or a queue taken, and the region leaves its cell.
  pub pick_keeps : (place tried : ℕ) → RowKeeps (rows.in_shard place c (rows.pick_on c.plan tried (shard_at place c) f))
  pick_keeps place tried = record { hand = hand; turn = picked_keeps c.plan (pick_answer _ (shard_at place c)) (shard_at place c) tried f; parts = shard_set place _ c parts }

  pub take_queue_keeps : (place : ℕ) → RowKeeps (rows.in_queue place c (rows.take_queue_on c.plan (queue_at place c) f))
  take_queue_keeps place =
      let q : Queue = queue_at place c in
      record {
        hand = (hand.0, queue_keeps (part_at place c.parts) (parts place));
        turn = by_choice TurnKeeps (length q.slots == 0) (slot_search c.plan f) flush tt tt;
        parts = queue_set place _ c parts tt;
      }

  pub take_region_keeps : (name : SlotName) → AreSmall c → RowKeeps (rows.in_cell name c (rows.take_region_on c.settings name (cell_named name c) f))
  take_region_keeps name small =
      let cell : CellState = cell_named name c in
      record { hand = hand; turn = region_keeps P H c.settings name cell.name.kind cell.out cell.holds (small (cell_place c.plan name)); parts = cell_set name _ c parts }

  -- A call on it fails, or it goes on.
  paged_keeps : (fault : Bool) (at : TakenSlot) (held : Slot) (phase : Phase P H) → KeepsFaults at.numbers.faults held.region.faults → PhaseKeeps phase → RowKeeps (rows.paged fault at held phase c f)
  paged_keeps true at held phase k one = record { hand = hand; turn = k; parts = parts }
  paged_keeps false at held phase k one = record { hand = hand; turn = one; parts = parts }

  pub empty_keeps : (fault : Bool) (held : Slot) (at : TakenSlot) (had : Slot) → Empties fault had held → KeepsFaults at.numbers.faults had.region.faults → RowKeeps (rows.empty_row fault held at c f)
  empty_keeps fault held at had told k =
      let one = empties_keep at.numbers.faults fault had held told k in
      paged_keeps fault at held _ one one

  pub instantiate_keeps : (fault : Bool) (held : Slot) (at : TakenSlot) (had : Slot) → IsMemoryNext f → IfAllocated f (λ decl. InstantiatesFor c.settings decl fault (image_wanted f) had held) → KeepsFaults at.numbers.faults had.region.faults → RowKeeps (rows.instantiate_row fault held at c f)
  instantiate_keeps fault held at had more told k =
      let K : Type 0 = KeepsFaults at.numbers.faults held.region.faults in
      let one : K = told_there K (memories_wanted f.asked) (length f.objects.memories.items) more
      (told_weaker (λ decl. InstantiatesFor c.settings decl fault (image_wanted f) had held) (λ decl. K) (slice_get (memories_wanted f.asked) (length f.objects.memories.items))
      (λ decl tells. instantiates_keep at.numbers.faults fault (minimum_byte_size decl.ty) (hides decl.ty c.settings.tunables had.region.page) (image_wanted f) had held tells k) told) in
      paged_keeps fault at held _ one one

  -- An object is made,
  was_made_keeps : (at : TakenSlot) (held : Slot) (r : Result MemoryState AllocError) → KeepsFaults at.numbers.faults held.region.faults → MadeKeeps at.numbers.faults r → RowKeeps (rows.was_made at held r c f)
  was_made_keeps at held (Ok memory) k one = record { hand = hand; turn = one; parts = parts }
  was_made_keeps at held (Err e) k one = record { hand = hand; turn = k; parts = parts }

  pub make_memory_keeps : (given : Result Bool LimiterError) (at : TakenSlot) (held : Slot) → KeepsFaults at.numbers.faults held.region.faults → RowKeeps (rows.make_memory_row given at held c f)
  make_memory_keeps given at held k =
      let o : Option MemoryDecl = slice_get (memories_wanted f.asked) (length f.objects.memories.items) in
      was_made_keeps at held (made_for c.settings.max_memory_size given held o) k (made_keeps at.numbers.faults c.settings.max_memory_size given held o k)

  was_made_table_keeps : (at : TakenSlot) (region : Told) (r : Result LeasedTable AllocError) → KeepsFaults at.numbers.faults region.faults → MadeTableKeeps r → RowKeeps (rows.was_made_table at region r c f)
  was_made_table_keeps at region (Ok lease) k one = record { hand = hand; turn = one; parts = parts }
  was_made_table_keeps at region (Err e) k one = record { hand = hand; turn = k; parts = parts }

  pub make_table_keeps : (given : Result Bool LimiterError) (at : TakenSlot) (region : Told) → KeepsFaults at.numbers.faults region.faults → RowKeeps (rows.make_table_row given at region c f)
  make_table_keeps given at region k =
      let o : Option TableType = slice_get (tables_wanted f.asked) (length f.objects.tables.items) in
      was_made_table_keeps at region (made_table c.settings given at region o) k (made_table_keeps c.settings given at region o k)

  memory_counted_keeps : (what : Asked) (lease : Lease) → LeaseKeeps lease → RowKeeps (record { part = counting_memories (c.counters.memories + 1) c; frame = rows.memory_kept what lease f; turn = rows.memory_turn what lease })
  memory_counted_keeps (asked.Memory m) lease one = record { hand = hand; turn = one; parts = parts }
  memory_counted_keeps what lease one = record { hand = ((each_append LeaseKeeps f.objects.memories.items (lease ∷ []) hand.0.0 (one, tt), hand.0.1), hand.1); turn = tt; parts = parts }

  table_counted_keeps : (what : Asked) (lease : LeasedTable) → TableKeeps lease → RowKeeps (record { part = counting_tables (c.counters.tables + 1) c; frame = rows.table_kept what lease f; turn = rows.table_turn what lease })
  table_counted_keeps (asked.Table ty) lease one = record { hand = hand; turn = one; parts = parts }
  table_counted_keeps what lease one = record { hand = ((hand.0.0, each_append TableKeeps f.objects.tables.items (lease ∷ []) hand.0.1 (one, tt)), hand.1); turn = tt; parts = parts }

  -- counted,
  pub count_object_keeps : (o : Object P) → ObjectKeeps o → RowKeeps (rows.count_object_row o c f)
  count_object_keeps (object.Memory lease) one = memory_counted_keeps f.asked lease one
  count_object_keeps (object.Table lease) one = table_counted_keeps f.asked lease one
  count_object_keeps (object.Stack lease) one = record { hand = hand; turn = one; parts = parts }

  pub take_heap_keeps : (name : SlotName) → RowKeeps (rows.in_heaps c (rows.take_heap_on name (heaps_at c) f))
  take_heap_keeps name = record { hand = hand; turn = heap_keeps P H _ _; parts = part_set c.plan.heap_list _ c parts tt }

  pub make_heap_keeps : (r : Result H HeapMakeFault) (at : TakenSlot) → RowKeeps (rows.make_heap_row r at c f)
  make_heap_keeps (Ok heap) at = record { hand = hand; turn = tt; parts = parts }
  make_heap_keeps (Err fault) at = record { hand = hand; turn = tt; parts = parts }

  pub heap_granted_keeps : (memories : List Lease) (lease : LeasedHeap H) → AllByRecursion LeaseKeeps memories → RowKeeps (rows.heap_granted memories lease c f)
  heap_granted_keeps [] lease ms = record { hand = hand; turn = tt; parts = parts }
  heap_granted_keeps (memory ∷ rest) lease ms = record { hand = ((tt, tt), hand.1); turn = ms.0; parts = parts }

  pub heap_counted_keeps : (what : Asked) (lease : LeasedHeap H) → RowKeeps (rows.heap_counted what lease c f)
  heap_counted_keeps (asked.HeapOver memory) lease = record { hand = hand; turn = tt; parts = parts }
  heap_counted_keeps what lease = heap_granted_keeps f.objects.memories.items lease hand.0.0

  pub freed_keeps : (name : SlotName) (memory : Option Lease) → IfSome memory LeaseKeeps → PhaseKeeps {P = P} {H = H} (rows.heap_freed name memory)
  freed_keeps name (Some memory) one = one
  freed_keeps name None one = tt

  pub put_heap_keeps : (slot : ℕ) (o : Option H) (phase : Phase P H) → PhaseKeeps phase → RowKeeps (rows.in_heaps c (rows.put_heap_on slot o phase (heaps_at c) f))
  put_heap_keeps slot o phase one = record { hand = hand; turn = one; parts = part_set c.plan.heap_list _ c parts tt }

  -- given back,
  pub put_back_keeps : (name : SlotName) (held : Cell) → RowKeeps (rows.in_cell name c (rows.put_back_on name held (cell_named name c) f))
  put_back_keeps name held = record { hand = hand; turn = tt; parts = cell_set name _ c parts }

  pub free_one_keeps : (place : ℕ) (name : SlotName) → RowKeeps (rows.in_shard place c (rows.free_one_on c.plan name (shard_at place c) f))
  free_one_keeps place name = record { hand = hand; turn = tt; parts = shard_set place _ c parts }

  pub uncount_heap_keeps : (lease : LeasedHeap H) (memory : Option Lease) → IfSome memory LeaseKeeps → RowKeeps (rows.uncount_heap_row lease memory c f)
  uncount_heap_keeps lease memory one = record { hand = hand; turn = one; parts = parts }

  pub free_heap_keeps : (place : ℕ) (name : SlotName) (memory : Lease) → LeaseKeeps memory → RowKeeps (rows.in_shard place c (rows.free_heap_on c.plan name memory (shard_at place c) f))
  free_heap_keeps place name memory one = record { hand = hand; turn = one; parts = shard_set place _ c parts }

  pub uncount_object_keeps : (o : Object P) → ObjectKeeps o → RowKeeps (rows.uncount_object_row o c f)
  uncount_object_keeps (object.Memory lease) one = record { hand = hand; turn = one; parts = parts }
  uncount_object_keeps (object.Table lease) one = record { hand = hand; turn = one; parts = parts }
  uncount_object_keeps (object.Stack lease) one = record { hand = hand; turn = one; parts = parts }

  -- reset,
  was_reset_keeps : (slot : Slot) (lease : Lease) (fault : Bool) → Resets fault c.settings.dirty_pages c.settings.keep_resident.bytes (slot_taken lease) (slot_of lease.memory) slot → LeaseKeeps lease → RowKeeps (rows.was_reset fault slot lease c f)
  was_reset_keeps slot lease true told one = record { hand = hand; turn = resets_keep lease.numbers.faults c.settings.dirty_pages c.settings.keep_resident.bytes (slot_taken lease) (slot_of lease.memory) slot told one; parts = parts }
  was_reset_keeps slot lease false told one =
      let local : Queue = reset_into c.settings.dirty_pages c.settings.keep_resident.bytes (slot_taken lease) (slot_of lease.memory) f.local in
      record { hand = (hand.0, memory_reset_keeps c.settings.dirty_pages c.settings.keep_resident.bytes lease f.local one hand.1); turn = turned_keeps P H c.settings.batch local; parts = parts }

  pub reset_row_keeps : (g : StepGiven H) (o : Object P) → ResetTold c.settings g o → ObjectKeeps o → RowKeeps (rows.reset_row g o c f)
  reset_row_keeps g (object.Memory lease) told one = was_reset_keeps g.slot lease g.fault told one
  reset_row_keeps g (object.Table lease) told one =
      let local : Queue = table_reset_into c.settings lease f.local in
      record { hand = (hand.0, table_reset_keeps c.settings.dirty_pages c.settings.page c.settings.table_keep_resident.bytes lease lease.table.region f.local one hand.1); turn = turned_keeps P H c.settings.batch local; parts = parts }
  reset_row_keeps g (object.Stack lease) told one =
      let local : Queue = stack_reset c.settings.stack_keep_resident.bytes lease f.local in
      record { hand = (hand.0, stack_reset_keeps c.settings.stack_keep_resident.bytes lease f.local one hand.1); turn = turned_keeps P H c.settings.batch local; parts = parts }

  -- merged,
  merged_keeps : (place : ℕ) (b : Bool) (whole : Queue) → QueueKeeps whole → RowKeeps (rows.in_queue place c (rows.merged b whole (record f { local = drained f.local })))
  merged_keeps place true whole one = record { hand = (hand.0, one); turn = tt; parts = queue_set place (drained whole) c parts tt }
  merged_keeps place false whole one = record { hand = (hand.0, tt); turn = tt; parts = queue_set place whole c parts one }

  pub merge_keeps : (place : ℕ) → RowKeeps (rows.in_queue place c (rows.merge_on c.settings (queue_at place c) f))
  merge_keeps place =
      let whole : Queue = after_append (queue_at place c) f.local in
      merged_keeps place (nat_le c.settings.batch (length whole.ranges)) whole (joined_each QueuedKeeps (queue_at place c).slots f.local.slots (queue_keeps (part_at place c.parts) (parts place)) hand.1)

  -- and flushed.
  put_first_keeps : (o : Option Queued) (rest : List Queued) → QueueKeeps (record f.local { slots = rest }) → RowKeeps (rows.put_first o rest c f)
  put_first_keeps None rest k = record { hand = hand; turn = tt; parts = parts }
  put_first_keeps (Some m) rest k = record { hand = (hand.0, k); turn = tt; parts = cell_set m.name _ c parts }

  pub flush_row_keeps : (step : rows.FlushStep) (g : StepGiven H) → FlushTold step g f.local → RowKeeps (rows.flush_row step g.queue c f)
  flush_row_keeps rows.run g told = record { hand = (hand.0, decommits_keep g.fault f.local g.queue told hand.1); turn = tt; parts = parts }
  flush_row_keeps (rows.zero kind) g told = record { hand = (hand.0, first_zeroed_each QueuedKeeps kind f.local.slots zeroed_keeps hand.1); turn = tt; parts = parts }
  flush_row_keeps (rows.put kind) g told = put_first_keeps (first_of_kind kind f.local.slots) (others_of_kind kind f.local.slots) (others_each QueuedKeeps kind f.local.slots hand.1)
  flush_row_keeps rows.free g told = record { hand = hand; turn = tt; parts = shard_set _ _ c parts }
