-- The rows of a request that has a slot.
use Rattle.std.proofs.Common.{◌≡◌, ℕ, ◌+◌, ◌<◌, ◌≤◌, Bool, true, false, List, [], ◌∷◌, ◌++◌, length, refl, sym, ap, subst, inl, inr, arith, Option, Some, None, Result, Ok, Err, ◌∙◌, ◌⊎◌, ◌^◌, nat_le, nat_lt, if◌then◌else◌, IfSome, IsSome, IfOk, slice_get, slice_index_or, is_some, ◌*◌}
use Rattle.pool_alloc.proofs.Imports.{told_both, told_weaker, refused_limits, TableType, ltb-true, ltb-false, kind_number, Plan, length_push, nil_from_length, All-push, Told, minimum_byte_size, allow_growth_to, MemoryDecl, MemoryType, Image, Slot, forgotten, hides, IsClean, IsLeft, ShardState, after_free, InitialSize, AddressSpace, MemoryMinimum, LimiterError, MemoryState, slot_of, static_capacity, maximum_asked, Cell, unmapped, unknown, previously_used, taken, is_taken, CellState, cell_numbers, cell_emptied, cell_filled, AllocError, least_most, MakerTold, SlotName, SlotKind, ImageSlot, home_of, cell_of, memory_kind, table_kind, stack_kind, heap_kind, of_kind}
use Rattle.pool_alloc.specs.declared.pool_core.Counters.{Counters}
use Rattle.pool_alloc.specs.PoolStacks.{stack_made}
use Rattle.pool_alloc.specs.StackLeases.{stack_taken}
use Rattle.pool_alloc.proofs.StackRegions.{lease_made, stack_begins}
use Rattle.pool_alloc.proofs.TableRegions.{IsMadeTable, begun_table, table_made_is}
use Rattle.pool_alloc.specs.TableSteps.{AsksForTable, table_made}
use Rattle.pool_alloc.specs.TableLeases.{LeasedTable, table_slot, table_taken}
use Rattle.pool_alloc.specs.PoolTables.{IsTableLease, IsBegunTable}
use Rattle.pool_alloc.proofs.PlanPlaces.{IsShardPlace, home_place}
use Rattle.pool_memory.specs.declared.memory_error.MemoryError.TheVariants as unmade
use Rattle.pool_slots.specs.declared.errors.AllocError.TheVariants as refusal
use Rattle.pool_alloc.specs.Reserved.{with_item}
use Rattle.pool_alloc.specs.PageCallAnswers.{Empties, InstantiatesAs, InstantiatesFor, AsksForMemory}
use Rattle.pool_alloc.specs.Modules.{IfAllocated, IfTable}
use Rattle.pool_alloc.specs.PartyTold.{PartyTold}
use Rattle.pool_alloc.specs.declared.pool_core.PoolCore.{PoolCore}
use Rattle.pool_alloc.specs.declared.pool_core.Settings.{Settings}
use Rattle.pool_alloc.specs.declared.frame.Ending.{Ending}
use Rattle.pool_alloc.specs.declared.frame.Asked.{Asked}
use Rattle.pool_alloc.specs.declared.frame.Asked.TheVariants.{Memory as memory_asked, Table as table_asked, Stack as stack_asked, Heap as heap_asked, HeapOver as heap_over_asked}
use Rattle.pool_alloc.specs.declared.frame.Frame.{Frame}
use Rattle.pool_alloc.specs.declared.frame.Phase.{Phase}
use Rattle.pool_alloc.specs.declared.frame.TakenSlot.{TakenSlot}
use Rattle.pool_alloc.specs.declared.frame.Phase.TheVariants.{Idle, TakeRegion, Empty, Instantiate, MakeMemory, MakeTable, CountObject, PutBack, FreeOne}
use Rattle.pool_alloc.specs.StepBounds.{sizes_of, objects_left, steps_at, steps_left}
use Rattle.pool_alloc.specs.Leases.{Lease, IsUsable, memory_slot}
use Rattle.pool_alloc.specs.MemorySteps.{made_of, made_of_limits, made_for, memory_made, image_made}
use Rattle.pool_alloc.specs.Places.{Thing, right_to, both_count, phase_count, phase_instances, region_count, taken_count, instances_for, Counts, counted_instance, counted_object, phase_counted}
use Rattle.pool_alloc.specs.StepTable.{in_cell, in_shard, region_next, take_region_on, paged, empty_row, instantiate_row, was_made, make_memory_row, count_object_row, put_back_on, free_one_on, unmapped_next, was_made_table, make_table_row, memory_kept, memory_turn, table_kept, table_turn}
use Rattle.pool_alloc.specs.Searches.{AreEmpty, IsSearchedBy, IsSearchedAt, IsSearched}
use Rattle.pool_alloc.specs.BetweenSteps.{FitsSlotAndType, IsCore, IsLeaseOf, IsToGrant, IsAllocating, HasNoneWaiting, IsShapedAt, IsSupported, HasSlot, HasBegun, IsMadeOf, IsNew, IsPoolSlot, MayHold, HasRegion, HasCells, IsSlotName, HasTable, IsMemoryNext, IsTableNext, IsStackNext, IsEnabled, AreLeasesOf, IsHeapNext}
use Rattle.pool_alloc.specs.CallStages.{Stage, no_call, refusing, stage_by, stage_at, Goes, stage_of}
use Rattle.pool_alloc.specs.Stepping.{is_idle, RiseByOne}
use Rattle.pool_alloc.specs.StepReads.{memories_wanted, images_wanted, image_wanted, shard_at, with_shard, with_cell, memory_slots, cell_named, tables_wanted, stacks_wanted, singles_wanted, heaps_wanted, IsForObjects, counting_memories, counting_tables, kind_next, kind_by, kind_last}
use Rattle.pool_alloc.specs.Turns.{Row, gone_to, next, ends}
use Rattle.pool_alloc.specs.Calls.{IsGrantOf}
use Rattle.pool_alloc.specs.declared.frame.Grant.{Grant}
use Rattle.pool_alloc.specs.declared.frame.Grant.TheVariants.{Memory as memory_granted, Table as table_granted, Stack as stack_granted}
use Rattle.pool_alloc.specs.declared.frame.Outcome.TheVariants as answer
use Rattle.pool_alloc.proofs.CoreChanges.{core_with_shard, core_with_cell, core_with_counters}
use Rattle.pool_alloc.proofs.BeforeTheTurn.{kept_of, returns_less, none_for_stack, in_phase, held_of, Even, Kept, Ready, IsReadyRow, hand, only_one, one_more}
use Rattle.pool_alloc.proofs.PoolParts.{place_of, sound_shard, sound_cell, shard_part}
use Rattle.pool_alloc.proofs.KeptCounts.{kept_shard, away_shard, region_leaves, region_returns}
use Rattle.pool_alloc.proofs.QueueCounts.{leased_last, tables_last}
use Rattle.pool_alloc.proofs.ShardsAfterFrees.{freed_one}
use Rattle.pool_alloc.specs.CanStep.{CanUnmap}
use Rattle.pool_alloc.proofs.SlotIdentity.{IsOneSlot, one_wiped, slot_of_one, slot_made, clean_made, fresh_made}
use Rattle.pool_alloc.proofs.ShardFrees.{IsShardOf, freed_shard}
use Rattle.pool_alloc.proofs.PhaseFacts.{picked_is_home, back_is_away, back_is_used}
use Rattle.pool_alloc.proofs.ToldElements.{told_there}
use Rattle.pool_alloc.proofs.SharedByRows.{Can, searched_back, push_at, aims_grant, aims_back, next_returns, kept_part, same_way, sought_way, granted_stack_way, single_way, memory_fails_way, memory_made_way, object_fails_way, object_made_way, next_object}
use Rattle.pool_alloc.specs.Objects.{objects_in}
use Rattle.pool_alloc.specs.declared.frame.Object.{Object}
use Rattle.pool_alloc.specs.declared.frame.Object.TheVariants.{Memory, Table, Stack}
use Rattle.pool_alloc.specs.declared.leases.instance.InstanceLease.{InstanceLease}

one_instantiated : (fault : Bool) (initial : ℕ) (hide : Bool) (image : Option Image) (old new : Slot) → InstantiatesAs fault initial hide image old new → IsOneSlot old new
one_instantiated true initial hide image old new told = told.same
one_instantiated false initial hide image old new told = told.sizes.same

begun_as : (s : Settings) (decl : MemoryDecl) (fault : Bool) (image : Option Image) (had new : Slot) → fault ≡ false → InstantiatesFor s decl fault image had new → HasBegun image new decl
begun_as s decl true image had new e tells = absurd cc
begun_as s decl false image had new e tells = record { begun = tells.begun; holds = tells.holds }

-- the memory lies in the slot that it was made in, and is as it begins
pub record IsMadeIn (room : ℕ) (decls : List MemoryDecl) (k : ℕ) (held : Slot) (memory : MemoryState) : Type 0 where
  pub slot : slot_of memory ≡ held
  pub made : IfSome (slice_get decls k) (IsMadeOf room memory)

record IsMadeFor (room : ℕ) (o : Option MemoryDecl) (held : Slot) (memory : MemoryState) : Type 0 where
  slot : slot_of memory ≡ held
  made : IfSome o (IsMadeOf room memory)

-- a memory may have its minimum
capacity_least : (room least : ℕ) (o : Option ℕ) → IfSome o (λ most. least ≤ most) → least ≤ room → least ≤ static_capacity room o
capacity_least room least None order fits = fits
capacity_least room least (Some most) order fits = omega (arith, order, fits)

made_static_for : (b : Bool) (decl : MemoryDecl) (room : ℕ) (held : Slot) → IfOk (made_of decl.ty (if b then Ok (record { slot = held; size = minimum_byte_size decl.ty; capacity = static_capacity room (maximum_asked decl.ty) }) else Err (held, InitialSize))) (IsMadeFor room (Some decl) held)
made_static_for true decl room held = record { slot = refl; made = record { size = refl; capacity = refl; ty = refl; fixed = refl } }
made_static_for false decl room held = tt

made_limits_for : (b allowed : Bool) (decl : MemoryDecl) (room : ℕ) (held : Slot) → IfOk (made_of_limits (if b then (if allowed then Ok (minimum_byte_size decl.ty, maximum_asked decl.ty) else Err (unmade.Unsupported AddressSpace)) else Err (unmade.Unsupported (MemoryMinimum decl.ty.limits.min))) decl.ty room held) (IsMadeFor room (Some decl) held)
made_limits_for true true decl room held = made_static_for (nat_le (minimum_byte_size decl.ty) room) decl room held
made_limits_for true false decl room held = tt
made_limits_for false allowed decl room held = tt

made_for_ok : (answer : Result Bool LimiterError) (room : ℕ) (o : Option MemoryDecl) (held : Slot) → IfOk (made_for room answer held o) (IsMadeFor room o held)
made_for_ok answer room None held = tt
made_for_ok (Err e) room (Some decl) held = tt
made_for_ok (Ok false) room (Some decl) held = tt
made_for_ok (Ok true) room (Some decl) held = made_limits_for (nat_lt (minimum_byte_size decl.ty) (2 ^ 64)) (allow_growth_to decl.ty (minimum_byte_size decl.ty)) decl room held

made_in_of : (r : Result MemoryState AllocError) (room : ℕ) (decls : List MemoryDecl) (k : ℕ) (held : Slot) → IfOk r (IsMadeFor room (slice_get decls k) held) → IfOk r (IsMadeIn room decls k held)
made_in_of (Ok m) room decls k held is = record { slot = is.slot; made = is.made }
made_in_of (Err e) room decls k held is = tt

made_in : (s : Settings) (decls : List MemoryDecl) (k : ℕ) (answer : Result Bool LimiterError) (held : Slot) → IfOk (memory_made s decls k answer held) (IsMadeIn s.max_memory_size decls k held)
made_in s decls k answer held = made_in_of (memory_made s decls k answer held) s.max_memory_size decls k held (made_for_ok answer s.max_memory_size (slice_get decls k) held)

has_of_one : (maker : MakerTold) (s : Settings) (plan : Plan) (name : SlotName) (old new : Slot) → IsOneSlot old new → HasSlot maker s plan name old → HasSlot maker s plan name new
has_of_one maker s plan name old new one has = record { kind = has.kind; inside = has.inside; region = slot_of_one maker s name.slot old new one has.region }

memory_inside : (plan : Plan) (name : SlotName) → name.kind ≡ memory_kind → IsSlotName plan name → name.slot < memory_slots plan
memory_inside plan name kind named = subst (λ (k : SlotKind). name.slot < of_kind k plan.totals) kind named.inside

-- the slot of a memory that a call has is one of the pool, and so it goes back with nothing known of it
may_hold : (maker : MakerTold) (s : Settings) (kind : SlotKind) (i : ℕ) (held : Slot) → kind ≡ memory_kind → IsPoolSlot maker s i held → MayHold maker s kind i (unknown held)
may_hold maker s kind i held is of = let M : SlotKind → Type 0 = λ k. MayHold maker s k i (unknown held) in subst M (sym is) of

-- and its name is that of a memory's slot
name_of : (name : SlotName) → name.kind ≡ memory_kind → name ≡ memory_slot name.slot
name_of name kind = (λ i. record { kind = kind i; slot = name.slot })

pub goes_back : (maker : MakerTold) (s : Settings) (plan : Plan) (name : SlotName) (held : Slot) → HasSlot maker s plan name held → HasRegion maker s plan name (unknown held)
goes_back maker s plan name held has = record {
  named = record { cells = subst HasCells (sym has.kind) tt; inside = subst (λ (k : SlotKind). name.slot < of_kind k plan.totals) (sym has.kind) has.inside };
  holds = may_hold maker s name.kind name.slot held has.kind has.region;
  there = refl;
}

pub one_emptied : (fault : Bool) (had held : Slot) → Empties fault had held → IsOneSlot had held
one_emptied true had held told = told.same
one_emptied false had held told = subst (λ (s : Slot). IsOneSlot had s) (sym told.0) (one_wiped had)

left_emptied : (fault : Bool) (had held : Slot) → Empties fault had held → fault ≡ true → IsLeft had held
left_emptied true had held told is = told
left_emptied false had held told is = absurd cc

pub clean_emptied : (fault : Bool) (had held : Slot) → Empties fault had held → fault ≡ false → IsClean held
clean_emptied true had held told is = absurd cc
clean_emptied false had held told is = told.1

left_instantiated : (s : Settings) (decl : MemoryDecl) (fault : Bool) (image : Option Image) (had held : Slot) → InstantiatesFor s decl fault image had held → fault ≡ true → IsLeft had held
left_instantiated s decl true image had held tells is = tells
left_instantiated s decl false image had held tells is = absurd cc

pub some_used : {X : Type 0} (o : Option X) → is_some o ≡ true → IsSome o
some_used None e = absurd cc
some_used (Some x) e = refl

-- An empty cell is one of its slot.
pub emptied_holds : (maker : MakerTold) (s : Settings) (kind : SlotKind) (i : ℕ) → HasCells kind → MayHold maker s kind i taken
emptied_holds maker s memory_kind i pooled = tt
emptied_holds maker s table_kind i pooled = tt
emptied_holds maker s stack_kind i pooled = tt
emptied_holds maker s heap_kind i pooled = absurd pooled

-- a slot that has a cell is a memory's, a table's or a stack's
cells_of : (kind : SlotKind) → HasCells kind → (kind ≡ memory_kind) ⊎ ((kind ≡ table_kind) ⊎ (kind ≡ stack_kind))
cells_of memory_kind cells = inl refl
cells_of table_kind cells = inr (inl refl)
cells_of stack_kind cells = inr (inr refl)
cells_of heap_kind cells = absurd cells

-- what is allocated is a memory, a table, a stack or a heap
memory_if : (b : Bool) (last : SlotKind) → 0 < kind_number last → (if b then memory_kind else last) ≡ memory_kind → b ≡ true
memory_if true last other is = refl
memory_if false last other is = absurd (omega (arith, other, ap kind_number is))

last_if : (b : Bool) (last : SlotKind) → 0 < kind_number last → (if b then memory_kind else last) ≡ last → b ≡ false
last_if true last other is = absurd (omega (arith, other, ap kind_number is))
last_if false last other is = refl

never_if : (b : Bool) (last kind : SlotKind) → 0 < kind_number kind → (kind_number last ≡ kind_number kind → ⊥) → (if b then memory_kind else last) ≡ kind → ⊥
never_if true last kind some other is = omega (arith, some, ap kind_number is)
never_if false last kind some other is = other (ap kind_number is)

memory_by : (asked : Asked) (n : ℕ) → kind_by asked n ≡ memory_kind → n < length (memories_wanted asked)
memory_by stack_asked n is = let no : ◌≡◌ {A = ℕ} 2 0 = ap kind_number is in absurd (omega arith)
memory_by asked n is = ltb-true n (length (memories_wanted asked)) (memory_if (nat_lt n (length (memories_wanted asked))) (kind_last asked) (omega arith) is)

table_by : (asked : Asked) (n : ℕ) → kind_by asked n ≡ table_kind → (length (memories_wanted asked) ≤ n) × IsForObjects asked
table_by stack_asked n is = let no : ◌≡◌ {A = ℕ} 2 1 = ap kind_number is in absurd (omega arith)
table_by (heap_asked ty) n is = absurd (never_if (nat_lt n 1) heap_kind table_kind (omega arith) (λ same. omega (arith, same)) is)
table_by (heap_over_asked memory) n is = absurd (never_if (nat_lt n 0) heap_kind table_kind (omega arith) (λ same. omega (arith, same)) is)
table_by asked n is = (ltb-false n (length (memories_wanted asked)) (last_if (nat_lt n (length (memories_wanted asked))) table_kind (omega arith) is), record { no_stack = refl; no_heap = refl })

stack_by : (asked : Asked) (n : ℕ) → kind_by asked n ≡ stack_kind → asked ≡ stack_asked
stack_by stack_asked n is = refl
stack_by asked n is = absurd (never_if (nat_lt n (length (memories_wanted asked))) (kind_last asked) stack_kind (omega arith) (λ same. omega (arith, same)) is)

heap_by : (asked : Asked) (n : ℕ) → kind_by asked n ≡ heap_kind → (length (memories_wanted asked) ≤ n) × (heaps_wanted asked ≡ 1)
heap_by stack_asked n is = let no : ◌≡◌ {A = ℕ} 2 3 = ap kind_number is in absurd (omega arith)
heap_by (heap_asked ty) n is = (ltb-false n 1 (last_if (nat_lt n 1) heap_kind (omega arith) is), refl)
heap_by (heap_over_asked memory) n is = (omega arith, refl)
heap_by asked n is = absurd (never_if (nat_lt n (length (memories_wanted asked))) table_kind heap_kind (omega arith) (λ same. omega (arith, same)) is)

-- a memory is none of a stack's call
pub no_stack_by : (asked : Asked) (n : ℕ) → n < length (memories_wanted asked) → stacks_wanted asked ≡ 0
no_stack_by stack_asked n more = absurd (omega (arith, more))
no_stack_by asked n more = refl

module _ {P H : Type 0} where
  -- nothing is granted yet where one object is asked for by itself
  single_first : (s : Settings) (plan : Plan) (f : Frame P H) → IsAllocating s plan f → singles_wanted f.asked ≡ 1 → objects_in f.objects ≡ 0
  single_first s plan f allocating one = omega (arith, allocating.to_grant.few, allocating.to_grant.few_tables, (kept_of f.asked).single one)

  pub memory_next : (f : Frame P H) → kind_next f ≡ memory_kind → IsMemoryNext f
  memory_next f is = memory_by f.asked (length f.objects.memories.items) is

  pub table_next : (f : Frame P H) → kind_next f ≡ table_kind → IsTableNext f
  table_next f is = table_by f.asked (length f.objects.memories.items) is

  pub stack_next : (f : Frame P H) → kind_next f ≡ stack_kind → IsStackNext f
  stack_next f is = stack_by f.asked (length f.objects.memories.items) is

  pub heap_is_next : (f : Frame P H) → kind_next f ≡ heap_kind → IsHeapNext f
  heap_is_next f is = heap_by f.asked (length f.objects.memories.items) is

  pub no_stack : (f : Frame P H) → IsMemoryNext f → stacks_wanted f.asked ≡ 0
  no_stack f more = no_stack_by f.asked (length f.objects.memories.items) more

  -- What is made of a region that lies in its cell can be made.
  pub region_is_fresh : (maker : MakerTold) (name : SlotName) (c : PoolCore P H) → IsCore maker c → IsSlotName c.plan name → (region : Told) → (cell_named name c).holds ≡ unmapped region → CanUnmap c.settings name region
  region_is_fresh maker name c core named region is =
      let C : SlotKind → Cell → Type 0 = λ k held. MayHold maker c.settings k name.slot held in
      let holds : C name.kind (unmapped region) = subst (C name.kind) is (sound_cell maker name c core named).holds in
      record {
        image = λ kind. (let memory : C memory_kind (unmapped region) = subst (λ (k : SlotKind). C k (unmapped region)) kind holds in fresh_made maker c.settings name.slot region core.page core.settings memory);
        plain = λ kind. (let stack : C stack_kind (unmapped region) = subst (λ (k : SlotKind). C k (unmapped region)) kind holds in stack.plain);
      }

  one_told : (s : Settings) (fault : Bool) (new had : Slot) (f : Frame P H) → IsMemoryNext f → IfAllocated f (λ decl. InstantiatesFor s decl fault (image_wanted f) had new) → IsOneSlot had new
  one_told s fault new had f more told =
      told_there (IsOneSlot had new) (memories_wanted f.asked) (length f.objects.memories.items) more
      (told_weaker (λ decl. InstantiatesFor s decl fault (image_wanted f) had new) (λ decl. IsOneSlot had new) (slice_get (memories_wanted f.asked) (length f.objects.memories.items))
      (λ decl tells. one_instantiated fault (minimum_byte_size decl.ty) (hides decl.ty s.tunables had.region.page) (image_wanted f) had new tells) told)

  memory_new : (room : ℕ) (f : Frame P H) (had : Slot) (memory : MemoryState) → IsMadeIn room (memories_wanted f.asked) (length f.objects.memories.items) had memory → IfAllocated f (HasBegun (image_wanted f) had) → IfAllocated f (IsNew room (image_wanted f) memory)
  memory_new room f had memory in_slot begun =
      let B : Slot → Type 0 = λ s. IfAllocated f (HasBegun (image_wanted f) s) in
      told_both (HasBegun (image_wanted f) (slot_of memory)) (IsMadeOf room memory) (IsNew room (image_wanted f) memory) (slice_get (memories_wanted f.asked) (length f.objects.memories.items))
      (λ decl has made. record { slot = has; made = made })
      (subst B (sym in_slot.slot) begun) in_slot.made

  memory_of : (s : Settings) (plan : Plan) (f : Frame P H) (memory : MemoryState) → IsAllocating s plan f → IsMemoryNext f → IfAllocated f (IsNew s.max_memory_size (image_wanted f) memory) → IsUsable memory
  memory_of s plan f memory allocating more new =
      let k : ℕ = length f.objects.memories.items in
      told_there (IsUsable memory) (memories_wanted f.asked) k more
      (told_both (λ decl. IsSupported s decl (slice_index_or (images_wanted f.asked) k None)) (IsNew s.max_memory_size (image_wanted f) memory) (λ decl. IsUsable memory) (slice_get (memories_wanted f.asked) k)
      (λ decl fits is. record {
        within = rw (is.made.size, is.made.capacity) (capacity_least s.max_memory_size (minimum_byte_size decl.ty) (maximum_asked decl.ty) (least_most decl.ty fits.limits) fits.minimum);
        in_use = record { dirty = is.slot.begun.dirty; ready = is.slot.begun.ready };
        inside = rw is.made.size is.slot.holds.reached;
        fixed = is.made.fixed;
      }) (allocating.to_grant.supported.each k) new)

  room_of : (s : Settings) (f : Frame P H) (memory : MemoryState) → IsMemoryNext f → IfAllocated f (IsNew s.max_memory_size (image_wanted f) memory) → FitsSlotAndType s memory
  room_of s f memory more new =
      let k : ℕ = length f.objects.memories.items in
      told_there (FitsSlotAndType s memory) (memories_wanted f.asked) k more
      (told_weaker (IsNew s.max_memory_size (image_wanted f) memory) (λ decl. FitsSlotAndType s memory) (slice_get (memories_wanted f.asked) k)
      (λ decl is. let same : memory.linear.capacity ≡ static_capacity s.max_memory_size (maximum_asked memory.ty) = is.made.capacity ∙ ap (λ (ty : MemoryType). static_capacity s.max_memory_size (maximum_asked ty)) (sym is.made.ty) in omega (arith, same)) new)

module _ {P H : Type 0} (maker : MakerTold) (old new : PartyTold) where
  abbrev Shows : Phase P H → PoolCore P H → Frame P H → Row (PoolCore P H) P H → Type 0
  Shows p c f r = IsReadyRow maker old new c (in_phase p f) r

  -- The region leaves its cell.
  abbrev emptied : SlotName → PoolCore P H → PoolCore P H
  emptied name c = with_cell name (cell_emptied (cell_named name c)) c

  taken_kept : (name : SlotName) (c : PoolCore P H) (f : Frame P H) → Can maker (TakeRegion name) c f → Kept maker old new c (in_phase (TakeRegion name) f) (emptied name c) (in_phase Idle f)
  taken_kept name c f can =
      let named : IsSlotName c.plan name = can.frame.shape.2 in
      let was = sound_cell maker name c can.core named in
      kept_part maker old new c (in_phase (TakeRegion name) f) (emptied name c) (in_phase Idle f) (core_with_cell maker name (cell_emptied (cell_named name c)) c can.core named (record { named = was.named; holds = emptied_holds maker c.settings name.kind name.slot named.cells })) (held_of maker c.settings c.plan (in_phase (TakeRegion name) f) can.frame) refl refl refl refl

  taken_even : (at : TakenSlot) (c : PoolCore P H) (f : Frame P H) → Can maker (TakeRegion at.name) c f → at.numbers ≡ cell_numbers (cell_named at.name c) → Even maker old new c (in_phase (TakeRegion at.name) f) (λ w. taken_count w.unit at + instances_for f.asked * w.counts counted_instance) (emptied at.name c) (in_phase Idle f)
  taken_even at c f can its = λ w. let leaves = region_leaves maker w.unit at.name c can.core can.frame.shape.2 (picked_is_home maker at.name c f can.frame.shape.2.cells can.core can.fits) in omega (arith, leaves.0, leaves.1, ap (region_count w.unit at.name) its)

  -- It is that of a slot of this kind.
  record HasLeft (kind : SlotKind) (at : TakenSlot) (c : PoolCore P H) (f : Frame P H) : Type 0 where
    can : Can maker (TakeRegion at.name) c f
    numbers : at.numbers ≡ cell_numbers (cell_named at.name c)
    kind_is : at.name.kind ≡ kind
    next : kind_next f ≡ kind

  has_left : (at : TakenSlot) (held : Slot) (c : PoolCore P H) (f : Frame P H) → HasLeft memory_kind at c f → IsPoolSlot maker c.settings at.name.slot held → HasSlot maker c.settings c.plan at.name held
  has_left at held c f left of = record { kind = left.kind_is; inside = memory_inside c.plan at.name left.kind_is left.can.frame.shape.2; region = of }

  holds_ready : (at : TakenSlot) (held : Cell) (c : PoolCore P H) (f : Frame P H) → HasLeft memory_kind at c f → MayHold maker c.settings memory_kind at.name.slot held → is_taken held ≡ false → Ready maker old new c (in_phase (TakeRegion at.name) f) (emptied at.name c) (in_phase Idle f) (region_next c.settings at held)
  holds_ready at (unmapped region) c f left holds there =
      let can = left.can in
      let s : Settings = c.settings in
      let T : SlotKind → Type 0 = λ k. Ready maker old new c (in_phase (TakeRegion at.name) f) (emptied at.name c) (in_phase Idle f) (unmapped_next s k at region) in
      let made : T memory_kind = record {
        kept = taken_kept at.name c f can;
        shape = (refl, (can.frame.shape.0, can.frame.shape.1, has_left at (image_made s at.name.slot region) c f left (slot_made maker s at.name.slot region can.core.page holds), clean_made maker s at.name.slot region can.core.page can.core.settings holds, memory_next f left.next));
        even = λ w. omega (arith, taken_even at c f can left.numbers w);
        fewer = omega arith;
        way = same_way maker old new c (in_phase (TakeRegion at.name) f) f.asked f.ending (objects_in f.objects);
        searched = λ s. tt;
      } in
      subst T (sym left.kind_is) made
  holds_ready at (unknown had) c f left holds there =
      let can = left.can in
      record {
        kept = taken_kept at.name c f can;
        shape = (refl, (can.frame.shape.0, can.frame.shape.1, has_left at had c f left holds, memory_next f left.next));
        even = λ w. omega (arith, taken_even at c f can left.numbers w);
        fewer = omega arith;
        way = same_way maker old new c (in_phase (TakeRegion at.name) f) f.asked f.ending (objects_in f.objects);
        searched = λ s. tt;
      }
  holds_ready at (previously_used had) c f left holds there =
      let can = left.can in
      record {
        kept = taken_kept at.name c f can;
        shape = (refl, (can.frame.shape.0, can.frame.shape.1, has_left at had c f left holds.0, holds.1, memory_next f left.next));
        even = λ w. omega (arith, taken_even at c f can left.numbers w);
        fewer = omega arith;
        way = same_way maker old new c (in_phase (TakeRegion at.name) f) f.asked f.ending (objects_in f.objects);
        searched = λ s. tt;
      }
  holds_ready at taken c f left holds there = absurd cc

  table_holds_ready : (at : TakenSlot) (held : Cell) (c : PoolCore P H) (f : Frame P H) → HasLeft table_kind at c f → MayHold maker c.settings table_kind at.name.slot held → is_taken held ≡ false → Ready maker old new c (in_phase (TakeRegion at.name) f) (emptied at.name c) (in_phase Idle f) (region_next c.settings at held)
  table_holds_ready at (unmapped region) c f left holds there =
      let can = left.can in
      let T : SlotKind → Type 0 = λ k. Ready maker old new c (in_phase (TakeRegion at.name) f) (emptied at.name c) (in_phase Idle f) (unmapped_next c.settings k at region) in
      let inside : at.name.slot < c.plan.totals.table = subst (λ (k : SlotKind). at.name.slot < of_kind k c.plan.totals) left.kind_is can.frame.shape.2.inside in
      let made : T table_kind = record {
        kept = taken_kept at.name c f can;
        shape = (refl, (can.frame.shape.0, can.frame.shape.1, record { kind = left.kind_is; inside = inside; region = holds }, table_next f left.next));
        even = λ w. omega (arith, taken_even at c f can left.numbers w);
        fewer = omega arith;
        way = same_way maker old new c (in_phase (TakeRegion at.name) f) f.asked f.ending (objects_in f.objects);
        searched = λ s. tt;
      } in
      subst T (sym left.kind_is) made
  table_holds_ready at (unknown had) c f left holds there = absurd holds
  table_holds_ready at (previously_used had) c f left holds there = absurd holds
  table_holds_ready at taken c f left holds there = absurd cc

  stack_holds_ready : (at : TakenSlot) (held : Cell) (c : PoolCore P H) (f : Frame P H) → HasLeft stack_kind at c f → MayHold maker c.settings stack_kind at.name.slot held → is_taken held ≡ false → Ready maker old new c (in_phase (TakeRegion at.name) f) (emptied at.name c) (in_phase Idle f) (region_next c.settings at held)
  stack_holds_ready at (unmapped region) c f left holds there =
      let can = left.can in
      let T : SlotKind → Type 0 = λ k. Ready maker old new c (in_phase (TakeRegion at.name) f) (emptied at.name c) (in_phase Idle f) (unmapped_next c.settings k at region) in
      let inside : at.name.slot < c.plan.totals.stack = subst (λ (k : SlotKind). at.name.slot < of_kind k c.plan.totals) left.kind_is can.frame.shape.2.inside in
      let taken : stack_taken (stack_made c.settings at region) ≡ at = (λ i. record { name = record { kind = sym left.kind_is i; slot = at.name.slot }; numbers = at.numbers }) in
      let even = taken_even at c f can left.numbers in
      let made : T stack_kind = record {
        kept = taken_kept at.name c f can;
        shape = (refl, (can.frame.shape.0, can.frame.shape.1, lease_made maker c.settings c.plan at region inside holds, stack_begins maker c.settings at region holds, stack_next f left.next));
        even = λ w. omega (arith, even w, ap (taken_count w.unit) taken);
        fewer = omega arith;
        way = sought_way maker old new c (in_phase (TakeRegion at.name) f) f.asked f.ending (objects_in f.objects) (stack_next f left.next);
        searched = λ s. tt;
      } in
      subst T (sym left.kind_is) made
  stack_holds_ready at (unknown had) c f left holds there = absurd holds
  stack_holds_ready at (previously_used had) c f left holds there = absurd holds
  stack_holds_ready at taken c f left holds there = absurd cc

  pub take_region_ready : (name : SlotName) (c : PoolCore P H) (f : Frame P H) → Can maker (TakeRegion name) c f → Shows (TakeRegion name) c f (in_cell name c (take_region_on c.settings name (cell_named name c) (in_phase Idle f)))
  take_region_ready name c f can =
      let cell : CellState = cell_named name c in
      let at : TakenSlot = record { name = name; numbers = cell_numbers cell } in
      let there = picked_is_home maker name c f can.frame.shape.2.cells can.core can.fits in
      let M : SlotKind → Type 0 = λ k. MayHold maker c.settings k name.slot cell.holds in
      let holds : M name.kind = (sound_cell maker name c can.core can.frame.shape.2).holds in
      elim (cells_of name.kind can.frame.shape.2.cells) [
        | inl memory ↦ holds_ready at cell.holds c f (record { can = can; numbers = refl; kind_is = memory; next = sym can.frame.shape.3 ∙ memory }) (subst M memory holds) there
        | inr rest ↦ elim rest [
          | inl table ↦ table_holds_ready at cell.holds c f (record { can = can; numbers = refl; kind_is = table; next = sym can.frame.shape.3 ∙ table }) (subst M table holds) there
          | inr stack ↦ stack_holds_ready at cell.holds c f (record { can = can; numbers = refl; kind_is = stack; next = sym can.frame.shape.3 ∙ stack }) (subst M stack holds) there
        ]
      ]

  -- A page call of the slot in hand failed, or the call goes on with it.
  paged_ready : (p phase : Phase P H) (fault : Bool) (at : TakenSlot) (had held : Slot) (c : PoolCore P H) (f : Frame P H) →
      Can maker p c f →
      HasNoneWaiting f →
      IsAllocating c.settings c.plan (in_phase p f) →
      IsMemoryNext f →
      HasSlot maker c.settings c.plan at.name had →
      IsOneSlot had held →
      ((t : Thing) → phase_count t p ≡ taken_count t at) →
      ((t : Thing) → phase_count t phase ≡ taken_count t at) →
      (phase_instances p ≡ 1) × (phase_instances phase ≡ 1) →
      ((n : Counts) → (phase_counted n p ≡ 0) × (phase_counted n phase ≡ 0)) →
      (stage_at p f.asked f.ending (objects_in f.objects) ≡ stage_by f.asked f.ending (objects_in f.objects)) × (stage_at phase f.asked f.ending (objects_in f.objects) ≡ stage_by f.asked f.ending (objects_in f.objects)) →
      (fault ≡ true → IsLeft had held) →
      (fault ≡ false → (is_idle phase ≡ false) × IsShapedAt maker c.settings c.plan phase (gone_to phase f)) →
      (steps_at (sizes_of c.settings c.plan) phase (gone_to phase f) + 1 ≤ steps_left c (in_phase p f)) × (3 + objects_left (sizes_of c.settings c.plan) f.asked f.objects ≤ steps_left c (in_phase p f)) →
      (IsSearched c (in_phase p f) → IsSearchedAt phase c (gone_to phase f)) →
      IsReadyRow maker old new c (in_phase p f) (paged fault at held phase c (in_phase Idle f))
  paged_ready p phase true at had held c f can settled allocating more has one here there counted none stages left shape steps searched = record {
    kept = kept_part maker old new c (in_phase p f) c _ can.core (held_of maker c.settings c.plan (in_phase p f) can.frame) refl refl refl refl;
    shape = (refl, (settled, refl, goes_back maker c.settings c.plan at.name (forgotten held) (has_of_one maker c.settings c.plan at.name had (forgotten held) one has)));
    even = λ w. omega (arith, here w.unit, (none w.counts).0, ap (λ (n : ℕ). n * instances_for f.asked * w.counts counted_instance) counted.0);
    fewer = omega (arith, steps.1, returns_less f.asked (sizes_of c.settings c.plan) f.objects (no_stack f more));
    way = subst (λ (x : Stage). Goes maker old new c (in_phase p f) x (refusing refusal.PageFault) None) (sym stages.0)
        (memory_fails_way maker old new c (in_phase p f) f.asked f.ending (objects_in f.objects) refusal.PageFault allocating.ending (no_stack f more) (inl (record {
          is = refl;
          number = refl;
          allocating = allocating;
          next = more;
          name = at.name;
          old = had;
          new = held;
          region = has;
          left = left refl;
          has = λ other. omega (arith, here (right_to other));
        })));
    searched = λ s. tt;
  }
  paged_ready p phase false at had held c f can settled allocating more has one here there counted none stages left shape steps searched = record {
    kept = kept_part maker old new c (in_phase p f) c _ can.core (held_of maker c.settings c.plan (in_phase p f) can.frame) refl refl refl refl;
    shape = shape refl;
    even = λ w. omega (arith, here w.unit, there w.unit, (none w.counts).0, (none w.counts).1, ap (λ (n : ℕ). n * instances_for f.asked * w.counts counted_instance) counted.0, ap (λ (n : ℕ). n * instances_for f.asked * w.counts counted_instance) counted.1);
    fewer = steps.0;
    way = subst (λ (x : Stage). Goes maker old new c (in_phase p f) x (stage_at phase f.asked f.ending (objects_in f.objects)) None) (sym stages.0)
        (subst (λ (x : Stage). Goes maker old new c (in_phase p f) (stage_by f.asked f.ending (objects_in f.objects)) x None) (sym stages.1) (same_way maker old new c (in_phase p f) f.asked f.ending (objects_in f.objects)));
    searched = searched;
  }

  -- The slot is emptied.
  pub empty_ready : (fault : Bool) (held : Slot) (at : TakenSlot) (had : Slot) (c : PoolCore P H) (f : Frame P H) → Can maker (Empty at had) c f → Empties fault had held → Shows (Empty at had) c f (empty_row fault held at c (in_phase Idle f))
  empty_ready fault held at had c f can told =
      let one = one_emptied fault had held told in
      paged_ready (Empty at had) (Instantiate at held) fault at had held c f can can.frame.shape.0 can.frame.shape.1 can.frame.shape.3 can.frame.shape.2 one
      (λ t. refl) (λ t. refl) (refl, refl) (λ n. (refl, refl)) (refl, refl)
      (left_emptied fault had held told)
      (λ done. (refl, (can.frame.shape.0, can.frame.shape.1, has_of_one maker c.settings c.plan at.name had held one can.frame.shape.2, clean_emptied fault had held told done, can.frame.shape.3)))
      (omega arith, omega arith) (λ s. tt)

  -- The slot is instantiated.
  left_told : (s : Settings) (fault : Bool) (had held : Slot) (f : Frame P H) → IsMemoryNext f → IfAllocated f (λ decl. InstantiatesFor s decl fault (image_wanted f) had held) → fault ≡ true → IsLeft had held
  left_told s fault had held f more told is =
      told_there (IsLeft had held) (memories_wanted f.asked) (length f.objects.memories.items) more
      (told_weaker (λ decl. InstantiatesFor s decl fault (image_wanted f) had held) (λ decl. IsLeft had held) (slice_get (memories_wanted f.asked) (length f.objects.memories.items))
      (λ decl tells. left_instantiated s decl fault (image_wanted f) had held tells is) told)

  pub instantiate_ready : (fault : Bool) (held : Slot) (at : TakenSlot) (had : Slot) (c : PoolCore P H) (f : Frame P H) → Can maker (Instantiate at had) c f → IfAllocated f (λ decl. InstantiatesFor c.settings decl fault (image_wanted f) had held) → Shows (Instantiate at had) c f (instantiate_row fault held at c (in_phase Idle f))
  instantiate_ready fault held at had c f can told =
      let one = one_told c.settings fault held had (in_phase (Instantiate at had) f) can.frame.shape.4 told in
      paged_ready (Instantiate at had) (MakeMemory at held) fault at had held c f can can.frame.shape.0 can.frame.shape.1 can.frame.shape.4 can.frame.shape.2 one
      (λ t. refl) (λ t. refl) (refl, refl) (λ n. (refl, refl)) (refl, refl)
      (left_told c.settings fault had held f can.frame.shape.4 told)
      (λ done. (
        refl,
        (
          can.frame.shape.0,
          can.frame.shape.1,
          has_of_one maker c.settings c.plan at.name had held one can.frame.shape.2,
          told_weaker (λ decl. InstantiatesFor c.settings decl fault (image_wanted f) had held) (λ decl. HasBegun (image_wanted f) held decl) (slice_get (memories_wanted f.asked) (length f.objects.memories.items))
              (λ decl tells. begun_as c.settings decl fault (image_wanted f) had held done tells) told,
          can.frame.shape.4,
        ),
      ))
      (omega arith, omega arith) (λ s. tt)

  -- The memory is made.
  made_ready : (at : TakenSlot) (had : Slot) (given : Result Bool LimiterError) (r : Result MemoryState AllocError) (c : PoolCore P H) (f : Frame P H) → Can maker (MakeMemory at had) c f → IfAllocated f (AsksForMemory given old.limiter new.limiter) → memory_made c.settings (memories_wanted f.asked) (length f.objects.memories.items) given had ≡ r → IfOk r (IsMadeIn c.settings.max_memory_size (memories_wanted f.asked) (length f.objects.memories.items) had) → Shows (MakeMemory at had) c f (was_made at had r c (in_phase Idle f))
  made_ready at had given (Ok memory) c f can asked is in_slot =
      let e : Frame P H = in_phase (MakeMemory at had) f in
      let Goal : Slot → Type 0 = λ s. HasSlot maker c.settings c.plan at.name s in
      let begins : IfAllocated f (IsNew c.settings.max_memory_size (image_wanted f) memory) = memory_new c.settings.max_memory_size f had memory in_slot can.frame.shape.3 in
      let has : Goal (slot_of memory) = subst Goal (sym in_slot.slot) can.frame.shape.2 in
      record {
        kept = kept_part maker old new c e c _ can.core (held_of maker c.settings c.plan e can.frame) refl refl refl refl;
        shape = (refl, (can.frame.shape.0, can.frame.shape.1, record { inside = has.inside; slot = has.region; memory = memory_of c.settings c.plan e memory can.frame.shape.1 can.frame.shape.4 begins; room = room_of c.settings e memory can.frame.shape.4 begins }, begins, can.frame.shape.4));
        even = λ w. omega (arith, ap (λ (n : SlotName). both_count w.unit n at.numbers) (name_of at.name has.kind));
        fewer = omega arith;
        way = memory_made_way maker old new c e f.asked f.ending (objects_in f.objects) memory can.frame.shape.1.ending (no_stack f can.frame.shape.4) (record { number = refl; allocating = can.frame.shape.1; next = can.frame.shape.4; given = given; held = had; asked = asked; is = is });
        searched = λ s. tt;
      }
  made_ready at had given (Err x) c f can asked is in_slot =
      let e : Frame P H = in_phase (MakeMemory at had) f in
      record {
        kept = kept_part maker old new c e c _ can.core (held_of maker c.settings c.plan e can.frame) refl refl refl refl;
        shape = (refl, (can.frame.shape.0, refl, goes_back maker c.settings c.plan at.name (forgotten had) (has_of_one maker c.settings c.plan at.name had (forgotten had) refl can.frame.shape.2)));
        even = λ w. omega arith;
        fewer = omega (arith, returns_less f.asked (sizes_of c.settings c.plan) f.objects (no_stack f can.frame.shape.4));
        way = memory_fails_way maker old new c e f.asked f.ending (objects_in f.objects) x can.frame.shape.1.ending (no_stack f can.frame.shape.4) (inr (record { number = refl; allocating = can.frame.shape.1; next = can.frame.shape.4; given = given; held = had; asked = asked; is = is }));
        searched = λ s. tt;
      }

  pub make_memory_ready : (given : Result Bool LimiterError) (at : TakenSlot) (had : Slot) (c : PoolCore P H) (f : Frame P H) → Can maker (MakeMemory at had) c f → IfAllocated f (AsksForMemory given old.limiter new.limiter) → Shows (MakeMemory at had) c f (make_memory_row given at had c (in_phase Idle f))
  make_memory_ready given at had c f can asked =
      made_ready at had given (memory_made c.settings (memories_wanted f.asked) (length f.objects.memories.items) given had) c f can asked refl
      (made_in c.settings (memories_wanted f.asked) (length f.objects.memories.items) given had)

  -- The table is made.
  table_goes_back : (at : TakenSlot) (region : Told) (c : PoolCore P H) → HasTable maker c.settings c.plan at.name region → HasRegion maker c.settings c.plan at.name (unmapped region)
  table_goes_back at region c has =
      record {
        named = record { cells = subst HasCells (sym has.kind) tt; inside = subst (λ (k : SlotKind). at.name.slot < of_kind k c.plan.totals) (sym has.kind) has.inside };
        holds = (let M : SlotKind → Type 0 = λ k. MayHold maker c.settings k at.name.slot (unmapped region) in subst M (sym has.kind) has.region);
        there = refl;
      }

  made_table_ready : (at : TakenSlot) (region : Told) (given : Result Bool LimiterError) (r : Result LeasedTable AllocError) (c : PoolCore P H) (f : Frame P H) → Can maker (MakeTable at region) c f → IfTable f (AsksForTable given old.limiter new.limiter) → table_made c.settings (tables_wanted f.asked) (length f.objects.tables.items) given at region ≡ r → IfOk r (λ l. IfTable f (IsMadeTable c.settings at region l)) → Shows (MakeTable at region) c f (was_made_table at region r c (in_phase Idle f))
  made_table_ready at region given (Ok lease) c f can asked is made =
      let e : Frame P H = in_phase (MakeTable at region) f in
      let k : ℕ = length f.objects.tables.items in
      let has = can.frame.shape.2 in
      let allocating = can.frame.shape.1 in
      let more : k < length (tables_wanted f.asked) = omega (arith, allocating.more, can.frame.shape.3.0, can.frame.shape.3.1, allocating.to_grant.few, (kept_of f.asked).memories) in
      let B : TableType → Type 0 = λ ty. (IsTableLease maker c.settings c.plan lease × IsBegunTable c.settings lease ty) × IsMadeTable c.settings at region lease ty in
      let begun : IfTable f B = told_both (λ ty. refused_limits ty.limits ≡ None) (IsMadeTable c.settings at region lease) B (slice_get (tables_wanted f.asked) k)
      (λ ty supports of. (begun_table maker c.settings c.plan at region lease ty can.core.page can.core.settings has.inside has.region supports of, of)) (allocating.to_grant.limits k) made in
      let leased : IsTableLease maker c.settings c.plan lease = told_there (IsTableLease maker c.settings c.plan lease) (tables_wanted f.asked) k more (told_weaker B (λ ty. IsTableLease maker c.settings c.plan lease) (slice_get (tables_wanted f.asked) k) (λ ty b. b.0.0) begun) in
      let slot : table_taken lease ≡ record { name = table_slot at.name.slot; numbers = at.numbers } = told_there _ (tables_wanted f.asked) k more (told_weaker B (λ ty. table_taken lease ≡ record { name = table_slot at.name.slot; numbers = at.numbers }) (slice_get (tables_wanted f.asked) k) (λ ty b. ap table_taken b.1.is) begun) in
      let named : record { name = table_slot at.name.slot; numbers = at.numbers } ≡ at = (λ i. record { name = record { kind = sym has.kind i; slot = at.name.slot }; numbers = at.numbers }) in
      record {
        kept = kept_part maker old new c e c _ can.core (held_of maker c.settings c.plan e can.frame) refl refl refl refl;
        shape = (refl, (can.frame.shape.0, allocating, leased, told_weaker B (IsBegunTable c.settings lease) (slice_get (tables_wanted f.asked) k) (λ ty b. b.0.1) begun, can.frame.shape.3));
        even = λ w. omega (arith, ap (taken_count w.unit) (slot ∙ named));
        fewer = omega arith;
        way = object_made_way maker old new c e f.asked f.ending (objects_in f.objects) allocating.ending can.frame.shape.3.1 (inr (refl, inr (lease, record { number = refl; allocating = allocating; next = can.frame.shape.3; given = given; at = at; region = region; asked = asked; is = is })));
        searched = λ s. tt;
      }
  made_table_ready at region given (Err x) c f can asked is made =
      let e : Frame P H = in_phase (MakeTable at region) f in
      record {
        kept = kept_part maker old new c e c _ can.core (held_of maker c.settings c.plan e can.frame) refl refl refl refl;
        shape = (refl, (can.frame.shape.0, refl, table_goes_back at region c can.frame.shape.2));
        even = λ w. omega arith;
        fewer = omega (arith, returns_less f.asked (sizes_of c.settings c.plan) f.objects can.frame.shape.3.1.no_stack);
        way = object_fails_way maker old new c e f.asked f.ending (objects_in f.objects) x can.frame.shape.1.ending can.frame.shape.3.1 (inr (inr (inr (record { number = refl; allocating = can.frame.shape.1; next = can.frame.shape.3; given = given; at = at; region = region; asked = asked; is = is }))));
        searched = λ s. tt;
      }

  pub make_table_ready : (given : Result Bool LimiterError) (at : TakenSlot) (region : Told) (c : PoolCore P H) (f : Frame P H) → Can maker (MakeTable at region) c f → IfTable f (AsksForTable given old.limiter new.limiter) → Shows (MakeTable at region) c f (make_table_row given at region c (in_phase Idle f))
  make_table_ready given at region c f can asked =
      made_table_ready at region given (table_made c.settings (tables_wanted f.asked) (length f.objects.tables.items) given at region) c f can asked refl
      (table_made_is c.settings (tables_wanted f.asked) (length f.objects.tables.items) given at region)

  -- One object more is counted, and granted.
  counted_object_ready : (object : Object P) (counters : Counters) (objects : InstanceLease P) (c : PoolCore P H) (f : Frame P H) →
      (let d : PoolCore P H = record c { counters = counters } in
      let e : Frame P H = in_phase (CountObject object) f in
      let has : Frame P H = record f { phase = Idle; objects = objects; queues = 0 } in
      Can maker (CountObject object) c f →
      HasNoneWaiting f →
      IsAllocating c.settings c.plan f →
      AreLeasesOf maker c.settings c.plan objects →
      IsToGrant c.settings c.plan f.asked 0 objects →
      objects_in objects ≡ objects_in f.objects + 1 →
      Even maker old new c e (hand {P = P} {H = H} f.asked next) d has →
      1 + objects_left (sizes_of c.settings c.plan) f.asked f.objects ≤ steps_left c e →
      RiseByOne c.counters counters →
      stacks_wanted f.asked + singles_wanted f.asked ≡ 0 →
      stage_of e ≡ stage_by f.asked f.ending (objects_in f.objects + 1) →
      Ready maker old new c e d has next)
  counted_object_ready object counters objects c f can settled allocating leases to_grant long even steps by_one unstacked stage =
      let e : Frame P H = in_phase (CountObject object) f in
      let has : Frame P H = record f { phase = Idle; objects = objects; queues = 0 } in
      let S : Ending → Type 0 = λ x. IsSearchedBy x (AreEmpty 0 (record c { counters = counters }) has) in
      let W : Stage → ℕ → Type 0 = λ x n. Goes maker old new c e x (stage_by f.asked f.ending n) None in
      record {
        kept = record {
          core = core_with_counters maker counters c can.core;
          held = record { stripe = can.frame.stripe; queue = can.frame.queue; freed_room = can.frame.freed_room; freed_each = can.frame.freed_each; freed_order = can.frame.freed_order; objects = leases };
          asked = refl;
          settings = refl;
          plan = refl;
          by_one = by_one;
        };
        shape = (settled, aims_grant c.settings c.plan f.ending f.asked 0 objects allocating.ending to_grant);
        even = even;
        fewer = omega (arith, steps, next_object (sizes_of c.settings c.plan) f.ending f.asked f.objects objects allocating.ending long unstacked);
        way = subst (λ (x : Stage). W x (objects_in objects)) (sym stage) (subst (W (stage_by f.asked f.ending (objects_in f.objects + 1))) (sym long) (same_way maker old new c e f.asked f.ending (objects_in f.objects + 1)));
        searched = λ s. subst S (sym allocating.ending) (λ j below. absurd (omega (arith, below)));
      }

  -- The object is kept with those that were granted before.
  memory_kept_ready : (lease : Lease) (c : PoolCore P H) (f : Frame P H) → Can maker (CountObject (Memory lease)) c f → singles_wanted f.asked ≡ 0 →
      (let has : Frame P H = record f { phase = Idle; objects = record f.objects { memories = with_item lease f.objects.memories }; queues = 0 } in
      Ready maker old new c (in_phase (CountObject (Memory lease)) f) (counting_memories (c.counters.memories + 1) c) has next)
  memory_kept_ready lease c f can many =
      let of = kept_of f.asked in
      let allocating = can.frame.shape.1 in
      let was = allocating.to_grant in
      let objects : InstanceLease P = record f.objects { memories = with_item lease f.objects.memories } in
      let long : length (f.objects.memories.items ++ lease ∷ []) ≡ length f.objects.memories.items + 1 = length_push f.objects.memories.items lease in
      counted_object_ready (Memory lease) (record c.counters { memories = c.counters.memories + 1 }) objects c f can can.frame.shape.0 allocating
      (All-push (IsLeaseOf maker c.settings c.plan) f.objects.memories.items lease can.frame.objects.0 can.frame.shape.2, can.frame.objects.1)
      (record {
        supported = was.supported;
        tables = was.tables;
        limits = was.limits;
        enabled = was.enabled;
        images = was.images;
        room = was.room;
        table_room = was.table_room;
        few = omega (arith, can.frame.shape.4, long, of.memories, of.tables, of.all, many);
        few_tables = was.few_tables;
        order = λ less. was.order can.frame.shape.4;
        begun = (push_at (λ k l. IfSome (slice_get (memories_wanted f.asked) k) (IsNew c.settings.max_memory_size (slice_index_or (images_wanted f.asked) k None) l.memory)) f.objects.memories.items lease was.begun.0 can.frame.shape.3, was.begun.1);
        taken = omega arith;
      })
      (omega (arith, long)) (λ w. omega (arith, leased_last w.unit f.objects.memories.items lease, one_more (length objects.memories.items) (length f.objects.memories.items) (w.counts (counted_object memory_kind)) long)) (omega arith) (λ k. omega (arith, only_one k (counted_object memory_kind))) (omega (arith, no_stack f can.frame.shape.4, many)) refl

  table_kept_ready : (lease : LeasedTable) (c : PoolCore P H) (f : Frame P H) → Can maker (CountObject (Table lease)) c f → singles_wanted f.asked ≡ 0 →
      (let has : Frame P H = record f { phase = Idle; objects = record f.objects { tables = with_item lease f.objects.tables }; queues = 0 } in
      Ready maker old new c (in_phase (CountObject (Table lease)) f) (counting_tables (c.counters.tables + 1) c) has next)
  table_kept_ready lease c f can many =
      let of = kept_of f.asked in
      let allocating = can.frame.shape.1 in
      let was = allocating.to_grant in
      let objects : InstanceLease P = record f.objects { tables = with_item lease f.objects.tables } in
      let long : length (f.objects.tables.items ++ lease ∷ []) ≡ length f.objects.tables.items + 1 = length_push f.objects.tables.items lease in
      counted_object_ready (Table lease) (record c.counters { tables = c.counters.tables + 1 }) objects c f can can.frame.shape.0 allocating
      (can.frame.objects.0, All-push (IsTableLease maker c.settings c.plan) f.objects.tables.items lease can.frame.objects.1 can.frame.shape.2)
      (record {
        supported = was.supported;
        tables = was.tables;
        limits = was.limits;
        enabled = was.enabled;
        images = was.images;
        room = was.room;
        table_room = was.table_room;
        few = was.few;
        few_tables = omega (arith, allocating.more, can.frame.shape.4.0, can.frame.shape.4.1.no_stack, can.frame.shape.4.1.no_heap, was.few, long, of.memories, of.tables, of.all, many);
        order = λ less. absurd (omega (arith, less, can.frame.shape.4.0));
        begun = (was.begun.0, push_at (λ k l. IfSome (slice_get (tables_wanted f.asked) k) (IsBegunTable c.settings l)) f.objects.tables.items lease was.begun.1 can.frame.shape.3);
        taken = omega arith;
      })
      (omega (arith, long)) (λ w. omega (arith, tables_last w.unit f.objects.tables.items lease, one_more (length objects.tables.items) (length f.objects.tables.items) (w.counts (counted_object table_kind)) long)) (omega arith) (λ k. omega (arith, only_one k (counted_object table_kind))) (omega (arith, can.frame.shape.4.1.no_stack, many)) refl

  -- An object that was asked for by itself is all that its call asks for.
  alone_ready : (object : Object P) (counters : Counters) (grant : Grant P H) (c : PoolCore P H) (f : Frame P H) →
      (let d : PoolCore P H = record c { counters = counters } in
      let e : Frame P H = in_phase (CountObject object) f in
      Can maker (CountObject object) c f →
      HasNoneWaiting f →
      objects_in f.objects ≡ 0 →
      IsGrantOf maker c.settings c.plan f.asked grant →
      Even maker old new c e (hand {P = P} {H = H} f.asked (ends (answer.Granted grant))) d (in_phase Idle f) →
      RiseByOne c.counters counters →
      Goes maker old new c e (stage_of e) no_call (Some (answer.Granted grant)) →
      Ready maker old new c e d (in_phase Idle f) (ends (answer.Granted grant)))
  alone_ready object counters grant c f can settled none is even by_one way = record {
    kept = record {
      core = core_with_counters maker counters c can.core;
      held = held_of maker c.settings c.plan (in_phase (CountObject object) f) can.frame;
      asked = refl;
      settings = refl;
      plan = refl;
      by_one = by_one;
    };
    shape = (record { settled = settled; no_memories = nil_from_length f.objects.memories.items (omega (arith, none)); no_tables = nil_from_length f.objects.tables.items (omega (arith, none)) }, is);
    even = even;
    fewer = omega arith;
    way = way;
    searched = λ s. tt;
  }

  -- A memory is granted: it is kept, or was asked for by itself.
  memory_ready : (asked : Asked) (lease : Lease) (c : PoolCore P H) (f : Frame P H) → f.asked ≡ asked → Can maker (CountObject (Memory lease)) c f → Ready maker old new c (in_phase (CountObject (Memory lease)) f) (counting_memories (c.counters.memories + 1) c) (memory_kept asked lease (in_phase Idle f)) (memory_turn asked lease)
  memory_ready (memory_asked m) lease c f is can =
      let allocating = can.frame.shape.1 in
      let none : objects_in f.objects ≡ 0 = single_first c.settings c.plan f allocating (ap singles_wanted is) in
      let B : Asked → ℕ → Type 0 = λ a n. IfSome (slice_get (memories_wanted a) n) (IsNew c.settings.max_memory_size (slice_index_or (images_wanted a) n None) lease.memory) in
      let first : length f.objects.memories.items ≡ 0 = omega (arith, none) in
      let begins : B (memory_asked m) 0 = subst (B (memory_asked m)) first (subst (λ (a : Asked). B a (length f.objects.memories.items)) is can.frame.shape.3) in
      alone_ready (Memory lease) (record c.counters { memories = c.counters.memories + 1 }) (memory_granted lease) c f can can.frame.shape.0 none (record { memory_is = can.frame.shape.2; call = m; asked_for = is; begins = begins })
      (λ w. omega (arith, ap (λ (a : Asked). instances_for a * w.counts counted_instance) is)) (λ k. omega (arith, only_one k (counted_object memory_kind)))
      (single_way maker old new c (in_phase (CountObject (Memory lease)) f) f.asked f.ending (objects_in f.objects) (memory_granted lease) (ap singles_wanted is) allocating.ending (inl (omega (arith, none))))
  memory_ready (table_asked ty) lease c f is can = absurd (omega (arith, can.frame.shape.4, ap (λ (a : Asked). length (memories_wanted a)) is))
  memory_ready asked lease c f is can = memory_kept_ready lease c f can (ap singles_wanted is)

  -- A table is granted, likewise.
  table_ready : (asked : Asked) (lease : LeasedTable) (c : PoolCore P H) (f : Frame P H) → f.asked ≡ asked → Can maker (CountObject (Table lease)) c f → Ready maker old new c (in_phase (CountObject (Table lease)) f) (counting_tables (c.counters.tables + 1) c) (table_kept asked lease (in_phase Idle f)) (table_turn asked lease)
  table_ready (table_asked ty) lease c f is can =
      let allocating = can.frame.shape.1 in
      let none : objects_in f.objects ≡ 0 = single_first c.settings c.plan f allocating (ap singles_wanted is) in
      let B : Asked → ℕ → Type 0 = λ a n. IfSome (slice_get (tables_wanted a) n) (IsBegunTable c.settings lease) in
      let first : length f.objects.tables.items ≡ 0 = omega (arith, none) in
      let begins : B (table_asked ty) 0 = subst (B (table_asked ty)) first (subst (λ (a : Asked). B a (length f.objects.tables.items)) is can.frame.shape.3) in
      alone_ready (Table lease) (record c.counters { tables = c.counters.tables + 1 }) (table_granted lease) c f can can.frame.shape.0 none (record { table_is = can.frame.shape.2; ty = ty; asked_for = is; begins = begins })
      (λ w. omega (arith, ap (λ (a : Asked). instances_for a * w.counts counted_instance) is)) (λ k. omega (arith, only_one k (counted_object table_kind)))
      (single_way maker old new c (in_phase (CountObject (Table lease)) f) f.asked f.ending (objects_in f.objects) (table_granted lease) (ap singles_wanted is) allocating.ending (inl (omega (arith, none))))
  table_ready (memory_asked m) lease c f is can = absurd (omega (arith, single_first c.settings c.plan f can.frame.shape.1 (ap singles_wanted is), can.frame.shape.4.0, ap (λ (a : Asked). length (memories_wanted a)) is))
  table_ready asked lease c f is can = table_kept_ready lease c f can (ap singles_wanted is)

  -- The object is granted.
  pub count_object_ready : (object : Object P) (c : PoolCore P H) (f : Frame P H) → Can maker (CountObject object) c f → Shows (CountObject object) c f (count_object_row object c (in_phase Idle f))
  count_object_ready (Memory lease) c f can = memory_ready f.asked lease c f refl can
  count_object_ready (Table lease) c f can = table_ready f.asked lease c f refl can
  count_object_ready (Stack lease) c f can =
      let allocating = can.frame.shape.1 in
      let stack : f.asked ≡ stack_asked = can.frame.shape.4 in
      let E : Asked → Type 0 = λ a. IsEnabled c.settings a in
      let enabled : 0 < c.settings.stack_size = subst E stack allocating.to_grant.enabled in
      alone_ready (Stack lease) (record c.counters { stacks = c.counters.stacks + 1 }) (stack_granted lease) c f can can.frame.shape.0 (none_for_stack c.settings c.plan f.asked f.queues f.objects allocating.to_grant stack) (can.frame.shape.2, can.frame.shape.3, stack)
      (λ w. omega (arith, ap (λ (a : Asked). instances_for a * w.counts counted_instance) stack)) (λ k. omega (arith, only_one k (counted_object stack_kind)))
      (granted_stack_way maker old new c (in_phase (CountObject (Stack lease)) f) f.asked f.ending (objects_in f.objects) lease stack allocating.ending enabled)

  -- The region of a slot is put back,
  pub put_back_ready : (at : TakenSlot) (held : ImageSlot P) (c : PoolCore P H) (f : Frame P H) → Can maker (PutBack at held) c f → Shows (PutBack at held) c f (in_cell at.name c (put_back_on at.name (cell_of held) (cell_named at.name c) (in_phase Idle f)))
  put_back_ready at held c f can =
      let e : Frame P H = in_phase (PutBack at held) f in
      let gone = back_is_away maker at held c f can.frame.shape.2.named.cells can.core can.fits in
      let region = can.frame.shape.2 in
      let cell : CellState = cell_filled (cell_of held) (cell_named at.name c) in
      record {
        kept = kept_part maker old new c e (with_cell at.name cell c) (in_phase Idle f) (core_with_cell maker at.name cell c can.core region.named (record { named = (sound_cell maker at.name c can.core region.named).named; holds = region.holds })) (held_of maker c.settings c.plan e can.frame) refl refl refl refl;
        shape = (refl, (can.frame.shape.0, can.frame.shape.1, region.named.inside));
        even = λ w. let back = region_returns maker w.unit at.name (cell_of held) c can.core region.named gone.away region.there in omega (arith, back.0, back.1, ap (region_count w.unit at.name) gone.out);
        fewer = omega arith;
        way = same_way maker old new c e f.asked f.ending (objects_in f.objects);
        searched = λ s. tt;
      }

  -- and the slot freed.
  pub free_one_ready : (name : SlotName) (c : PoolCore P H) (f : Frame P H) → Can maker (FreeOne name) c f → Shows (FreeOne name) c f (in_shard (home_of c.plan name).place c (free_one_on c.plan name (shard_at (home_of c.plan name).place c) (in_phase Idle f)))
  free_one_ready name c f can =
      let e : Frame P H = in_phase (FreeOne name) f in
      let j : ℕ = (home_of c.plan name).place in
      let shard : ShardState = shard_at j c in
      let inside : name.slot < of_kind name.kind c.plan.totals = can.frame.shape.2 in
      let place = place_of maker c name can.core inside in
      let used = back_is_used maker name c f can in
      let freed : ShardState = after_free (home_of c.plan name).local 0 shard in
      let there : IsShardPlace c.plan j = home_place c.plan (length c.parts) name can.core.plan inside in
      let next_shard : IsShardOf shard freed = freed_shard (home_of c.plan name).local 0 shard (sound_shard maker j c can.core there) (some_used _ used) (omega arith) in
      record {
        kept = kept_part maker old new c e (with_shard j freed c) (in_phase Idle f) (core_with_shard maker j freed c can.core there next_shard.sound next_shard.same) (held_of maker c.settings c.plan e can.frame) refl refl refl refl;
        shape = (can.frame.shape.0, aims_back c.settings c.plan f.ending f.asked f.queues f.objects can.frame.shape.1);
        even = λ w. omega (arith, kept_shard w.unit j freed c (shard_part maker j c can.core there), away_shard w.unit j freed c (shard_part maker j c can.core there), freed_one w.unit c.plan shard name 0 place used);
        fewer = omega (arith, next_returns (sizes_of c.settings c.plan) f.ending f.queues f.asked f.objects can.frame.shape.1);
        way = same_way maker old new c e f.asked f.ending (objects_in f.objects);
        searched = λ s. searched_back f.ending _ can.frame.shape.1;
      }
