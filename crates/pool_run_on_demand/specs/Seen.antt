-- The memories, tables, instances, stacks, heaps and live grants of an allocator on demand, as a party sees them, and what
-- holds of them meanwhile.
use Rattle.std.specs.Prelude.{◌≡◌, ℕ, ◌+◌, ◌^◌, ◌<◌, ◌≤◌, ◌⊎◌, List, [], ◌∷◌, length, map, slice_get, slice_set, All, Bool, true, if◌then◌else◌, Option, Some, None, IfSome, option_map, Result, Ok, Err}
use Rattle.std.specs.Option.{option_map_or}
use Rattle.pool_run_on_demand.specs.Imports.{rounded_up, MakerTold, risen, LinearMemory, MemoryType, Tunables, page_size, GrowthGiven, GrowthRule, table_answer, LimiterTold, GrowFault, IsGrowth, GrowthLeavesMaker, obstacles, grown_size, Layout, layout_of, Storage, in_slot, stored, MemoryState, bytes_of, state_of, AllocError, ListedHeaps, PlainHeap, IsTableGrowth, table_view, TableView, ListedStore, ModuleAsked, no_slot, IsModule, HasType, OnDemandInstanceAllocator, OnDemandHeap, OnDemandInstance, OnDemandMemory, OnDemandTable, MemoryOp, TableOp, Objects, MovesNamed, PrivateTable, StoredTable, PrivateMemory, PrivateInstance, PrivateGrant, instance_grant, component_grant, stack_grant, heap_grant, heap_memory, CountsRefused, memories_named_in, put_memory, put_stack, PrivateState, Grants, Terms, Request, images_of, module_of, wants_of, StackMoves, seen_stack, Reply}
use Rattle.pool_limits.specs.declared.errors.GrowFault.TheVariants as fault
use Rattle.pool_run_on_demand.specs.OnDemand.{most_between, MovesOnDemand, TableMovesOnDemand, first_unmade, IsUnmade, made_instance, made_memory, IsMade, heap_terms, heap_wants, heap_barred_on_demand, IsHeapMade, IsHeapUnmade}
use Rattle.pool_run_on_demand.specs.declared.grant.OnDemandGrant.{OnDemandGrant}
use Rattle.pool_run_on_demand.specs.declared.grant.OnDemandGrant.TheVariants.{Instance as instance, Component as component, Stack as stack, Heap as heap}

-- How the region is laid out in which a memory lies; a list of bytes has none.
abbrev pub layout_in : Storage → Option Layout
layout_in (in_slot s) = Some (layout_of s)
layout_in (stored len bytes) = None

-- The memory as the party sees it. Its bytes are told where the maker's regions tell what they hold.
abbrev pub seen_made : Bool → MemoryState → PrivateMemory
seen_made tells m = record {
  slot = no_slot;
  ty = m.ty;
  size = m.linear.size;
  capacity = if m.may_move then most_between (layout_in m.linear.storage) else m.linear.capacity;
  bytes = if tells then bytes_of m else None;
}

-- A region so laid out has a page, and with so many bytes in it lies within the address space.
abbrev pub HasAddresses : ℕ → Option Layout → Type 0
HasAddresses bytes (Some l) = (0 < l.page) × (l.before + bytes + l.guard < 2 ^ 64)
HasAddresses bytes None = Unit {0}

-- What holds of it: its size leaves room for one page of its own, what it may have where it is lies within the address space,
-- and as many bytes are told as it has.
pub record IsHeld (tells : Bool) (m : MemoryState) : Type 0 where
  pub room : m.linear.size + page_size m.ty ≤ 2 ^ 64
  pub addresses : HasAddresses m.linear.capacity (layout_in m.linear.storage)
  pub told : tells ≡ true → (b : List ℕ) × ((bytes_of m ≡ Some b) × (length b ≡ m.linear.size))

-- A table on demand as its party sees it.
abbrev pub seen_table : TableView → PrivateTable
seen_table t = record { slot = no_slot; kind = t.kind; size = t.size; maximum = t.maximum; elements = t.elements }

-- A table as its party sees it, with the calls on the party's store so far.
abbrev pub seen_stored : TableView → ListedStore → StoredTable
seen_stored t s = record { table = seen_table t; calls = s.made }

-- what an operation on the table makes of what the party sees, where the store was in one state before and is in the other
-- after
abbrev pub ViewMovesOnDemand : TableOp → GrowthRule → ListedStore → ListedStore → TableView → TableView → Reply → Type 0
ViewMovesOnDemand op rule before after t new reply = TableMovesOnDemand op (record { rule = rule; failing = before.failing; unmade = [] }) (seen_stored t before) (seen_stored new after) reply

-- A growth by so many elements found no memory, where a limiter with this rule allowed it.
pub record WantsElements (rule : GrowthRule) (by : ℕ) (t new : TableView) (answer : Result (Option ℕ) GrowFault) : Type 0 where
  pub some : 0 < by
  pub within : t.size + by ≤ t.maximum
  pub bounded : t.maximum < 2 ^ 64
  pub allowed : Ok true ≡ table_answer (Some rule) (Ok true) (t.size + by) (Some t.maximum)
  pub replies : answer ≡ Err fault.Memory
  pub same : new ≡ t

-- A growth by so many elements, over a limiter that tells this rule.
abbrev pub LengthensByRule : GrowthRule → ℕ → TableView → TableView → Result (Option ℕ) GrowFault → Type 0
LengthensByRule rule by t new answer =
    ((given : GrowthGiven) × (asked : LimiterTold) × (left : LimiterTold) × (asked.rule ≡ Some rule) × IsTableGrowth given by t new asked left answer) ⊎ WantsElements rule by t new answer

-- A growth by so many pages, over a limiter that tells this rule, and what it leaves of the maker.
abbrev pub GrowsByRule : GrowthRule → ℕ → MemoryState → MemoryState → MakerTold → MakerTold → Result (Option ℕ) GrowFault → Type 0
GrowsByRule rule pages old new before after answer =
    (given : GrowthGiven) × (asked : LimiterTold) × (left : LimiterTold) × (asked.rule ≡ Some rule)
    × IsGrowth given pages old.linear.size old new asked left answer × GrowthLeavesMaker (obstacles pages old) given (grown_size pages old) old.linear new.linear (Some before) (Some after)

-- the maker has pages as the party's terms say, which aren't empty
pub record IsMakerFor (t : Terms) (maker : MakerTold) : Type 0 where
  pub tells : t.tells ≡ maker.tells
  pub page : t.settings.page ≡ maker.page
  pub paged : 0 < maker.page

-- The allocator, over this maker, has stacks as the terms say.
pub record IsAllocatorFor {M C : Type 0} (t : Terms) (allocator : OnDemandInstanceAllocator M C) (maker : MakerTold) : Type 0 where
  pub pages : IsMakerFor t maker
  pub size : t.stacks.size ≡ rounded_up maker.page allocator.stack_size
  pub zeroing : t.stacks.zeroing ≡ allocator.stack_zeroing

-- The number of the module that a call is for: its name, in a run.
abbrev pub number_of : ModuleAsked → ℕ
number_of call = option_map_or (λ id. id.0) call.id 0

-- The call is one for the module of its number, which can be used, by these settings.
pub record IsCallOnDemand (t : Terms) (tunables : Tunables) (call : ModuleAsked) : Type 0 where
  pub settings : t.settings.tunables ≡ record { tunables = tunables; kind = LinearMemory }
  pub info : module_of t (number_of call) ≡ call.info
  pub images : call.images ≡ images_of tunables t.settings.page (number_of call) call.info.memories
  pub usable : IsModule call.info

-- The engine's settings are those of the terms, and each call is one with this number.
pub record AreCallsOnDemand (t : Terms) (tunables : Tunables) (calls : List ModuleAsked) : Type 0 where
  pub settings : t.settings.tunables ≡ record { tunables = tunables; kind = LinearMemory }
  pub each : (number : ℕ) → IfSome (slice_get calls number) (λ call. (number_of call ≡ number) × IsCallOnDemand t tunables call)

module _ {M L : Type 0} where
  -- A memory that was granted, as its party sees it.
  abbrev pub seen_lease : Bool → OnDemandMemory M L → PrivateMemory
  seen_lease tells l = seen_made tells (state_of l.memory)

  -- an operation on a memory is one on what the party sees
  abbrev pub LeaseMovesOnDemand : Bool → MemoryOp → GrowthRule → OnDemandMemory M L → OnDemandMemory M L → Reply → Type 0
  LeaseMovesOnDemand tells op rule l new reply = MovesOnDemand op rule (seen_lease tells l) (seen_lease tells new) reply

  -- what the making of a heap's memory is answered with: it is as the party's begin, or the refusal of one
  abbrev pub AnswersHeapMemory : Terms → MemoryType → Result (OnDemandMemory M L) AllocError → Type 0
  AnswersHeapMemory t ty (Ok lease) = (first_unmade (heap_terms t) (heap_wants ty) ≡ None) × ((seen_lease t.tells lease ≡ made_memory (heap_terms t) (heap_memory ty)) × IsHeld t.tells (state_of lease.memory))
  AnswersHeapMemory t ty (Err e) = IsUnmade None (heap_terms t) (heap_wants ty) e

  -- What a request for a heap is answered, by a maker that leads from one state to the other.
  abbrev pub AnswersHeap : Terms → MemoryType → ListedHeaps → ListedHeaps → Result (OnDemandHeap PlainHeap × OnDemandMemory M L) AllocError → Type 0
  AnswersHeap t ty before after (Ok made) =
      IsHeapMade t before.failing ty before.made
      × ((made.0.index.0 ≡ no_slot) × ((seen_lease t.tells made.1 ≡ made_memory (heap_terms t) (heap_memory ty)) × (IsHeld t.tells (state_of made.1.memory) × (after.made ≡ risen before.made))))
  AnswersHeap t ty before after (Err e) = IsHeapUnmade (heap_barred_on_demand t ty) t ty e × CountsRefused before.failing e before.made after.made

module _ {P : Type 0} where
  -- A table that was granted, as its party sees it.
  abbrev pub seen_table_lease : OnDemandTable P → PrivateTable
  seen_table_lease l = seen_table (table_view l.table)

  -- What an operation makes of a table that was granted on demand, of a party with this store.
  abbrev pub TableLeaseMovesOnDemand : TableOp → GrowthRule → ListedStore → ListedStore → OnDemandTable P → OnDemandTable P → Reply → Type 0
  TableLeaseMovesOnDemand op rule before after l new reply = ViewMovesOnDemand op rule before after (table_view l.table) (table_view new.table) reply

-- what a command makes of the bytes of a grant: of a stack's, or of those of a memory
abbrev pub BytesOfGrant : MemoryOp → GrowthRule → ℕ → PrivateGrant → Reply → PrivateGrant → Type 0
BytesOfGrant op rule k (stack_grant s) reply new = MovesNamed (StackMoves op) (slice_get (s ∷ []) k) (put_stack k) (stack_grant s) reply new
BytesOfGrant op rule k grant reply new = MovesNamed (MovesOnDemand op rule) (slice_get (memories_named_in grant) k) (put_memory k) grant reply new

module _ {M L P : Type 0} where
  -- An instance that was granted, as its party sees it: its memories and tables.
  abbrev pub seen_instance : Bool → OnDemandInstance M L P → PrivateInstance
  seen_instance tells g = record { memories = map (seen_lease tells) g.memories; tables = map seen_table_lease g.tables }

  -- A grant as its party sees it; of a component it sees nothing but that.
  abbrev pub seen_grant : Bool → OnDemandGrant M L P → PrivateGrant
  seen_grant tells (instance g) = instance_grant (seen_instance tells g)
  seen_grant tells component = component_grant
  seen_grant tells (stack lease) = stack_grant (seen_stack lease.stack)
  seen_grant tells (heap lease memory) = heap_grant lease.index.0 (seen_lease tells memory)

  -- All live grants of a party, as it sees them.
  abbrev pub grants_made : Bool → List (Option (OnDemandGrant M L P)) → Grants
  grants_made tells live = map (option_map (seen_grant tells)) live

  -- An instance with memory k replaced.
  abbrev pub with_memory : ℕ → OnDemandMemory M L → OnDemandInstance M L P → OnDemandInstance M L P
  with_memory k l g = record g { memories = slice_set g.memories k l }

  -- An instance with table k replaced.
  abbrev pub with_table : ℕ → OnDemandTable P → OnDemandInstance M L P → OnDemandInstance M L P
  with_table k l g = record g { tables = slice_set g.tables k l }

  -- The tables of a grant on demand.
  abbrev pub tables_of_grant : OnDemandGrant M L P → List (OnDemandTable P)
  tables_of_grant (instance g) = g.tables
  tables_of_grant _ = []

  -- A grant with table k replaced, if it is an instance.
  abbrev pub with_table_in : ℕ → OnDemandTable P → OnDemandGrant M L P → OnDemandGrant M L P
  with_table_in k l (instance g) = instance (with_table k l g)
  with_table_in k l g = g

  -- Where the tables of a grant stand in it.
  abbrev pub made_tables : Objects (OnDemandGrant M L P) (OnDemandTable P)
  made_tables = record { in_grant = tables_of_grant; put_in = with_table_in }

  -- a grant that was taken out of its place moved, as the party sees it, and was put back
  abbrev pub PutsBack : (PrivateGrant → Reply → PrivateGrant → Type 0) → Bool → ℕ → OnDemandGrant M L P → List (Option (OnDemandGrant M L P)) → Reply → List (Option (OnDemandGrant M L P)) → Type 0
  PutsBack Move tells of g live reply new = (moved : OnDemandGrant M L P) × (Move (seen_grant tells g) reply (seen_grant tells moved) × (new ≡ slice_set live of (Some moved)))

  -- what holds of an instance: of its memories, and that each table's elements are of the type that its kind says
  pub record IsHeldInstance (tells : Bool) (g : OnDemandInstance M L P) : Type 0 where
    pub memories : All (λ l. IsHeld tells (state_of l.memory)) g.memories
    pub tables : All (λ l. HasType l.table) g.tables

  -- What holds of a live grant on demand.
  abbrev pub IsHeldGrant : Bool → OnDemandGrant M L P → Type 0
  IsHeldGrant tells (instance g) = IsHeldInstance tells g
  IsHeldGrant tells (heap lease memory) = IsHeld tells (state_of memory.memory)
  IsHeldGrant tells _ = Unit {0}

  -- Each live grant is as a grant on demand must be.
  abbrev pub AreLive : Bool → List (Option (OnDemandGrant M L P)) → Type 0
  AreLive tells live = All (λ o. IfSome o (IsHeldGrant tells)) live

  -- what a request is answered with: an instance that is as the party's begin, or a refusal
  abbrev pub AnswersOnDemand : Terms → Request → Result (OnDemandInstance M L P) AllocError → Type 0
  AnswersOnDemand t request (Ok g) = IsMade t request × ((seen_instance t.tells g ≡ made_instance t request) × IsHeldInstance t.tells g)
  AnswersOnDemand t request (Err e) = IsUnmade request.broken t (wants_of request) e

  -- what a party with these grants, this store and this maker of heaps sees
  abbrev pub state_seen : Bool → List (Option (OnDemandGrant M L P)) → ListedStore → ListedHeaps → PrivateState
  state_seen tells live store heaps = record { grants = grants_made tells live; stores = store.made; heaps = heaps.made }
