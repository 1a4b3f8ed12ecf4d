-- What a party may see of an allocator that makes each memory, table, stack and heap for the request that asks for it: its
-- grants are private lists of bytes and of elements as those of a pool are, but that no slot is named and that there is no
-- room to be short of.
use Rattle.std.specs.Prelude.{◌≡◌, ℕ, ◌+◌, ◌-◌, ◌^◌, ◌%◌, ◌<◌, ◌==◌, List, [], ◌∷◌, map, max, replicate, slice_set, ◌⊎◌, Bool, true, false, not, if◌then◌else◌, Option, Some, None, is_some, option_map, Ok}
use Rattle.pool_run_on_demand.specs.Imports.{option_or, minimum_byte_size, memory_may_move, risen, GcHeap, MemoryType, ModuleInfo, TableType, Unsupported, GrowthRule, memory_answer, table_answer, Image, start, Layout, Design, default_design, default_refusal, minimum_asked, maximum_asked, AllocError, empty, kind_of, type_maximum, no_slot, memory_refused, table_refused, module_refused, type_refused, first_refused, offset_refused, MemoryWant, Want, new_memory, new_table, new_stack, new_heap, MemoryOp, grows, TableOp, lengthens, Wanted, an_instance, a_component, a_stack, a_heap, heap_type, Act, requests, on_memory, on_table, drops, purges, releases, act_of, MovesNamed, MovesObject, PrivateMemory, PrivateInstance, PrivateGrant, instance_grant, component_grant, stack_grant, heap_grant, heap_memory, CountsRefused, private_memories, private_stacks, PrivateState, OnGrants, table_at, with_table, Grants, grant_at, Drops, MemoryMoves, growth, Terms, Request, request_of, module_of, wants_of, GrowthEnd, has_grown, PrivateStack, BeginsStack, StackMoves, Host, PrivateTable, StoredTable, TableMoves, table_growth, goes_through, Command, Reply, Instance, Component, Stack, Heap, Purged, Released, Refused, Alloc}
use Rattle.pool_slots.specs.declared.errors.AllocError.TheVariants as alloc

-- The first rule that a module breaks: an image that doesn't begin with a page, and then the allocator's own rules.
abbrev pub unsupported_on_demand : ℕ → ModuleInfo → Option Unsupported
unsupported_on_demand page m = option_or (first_refused (λ d. offset_refused page d.image) m.memories) (module_refused m)

-- the request for an instance of the module of this number, which is for the same things as with a pool
abbrev pub request_on_demand : Terms → ℕ → Request
request_on_demand t number = record (request_of t number) { broken = unsupported_on_demand t.settings.page (module_of t number) }

-- an image is mapped only in a memory of whole pages
abbrev pub image_taken : ℕ → ℕ → Option Image → Option Image
image_taken page least image = if least % page == 0 then image else None

-- How many bytes a region can have between those that lie before them and behind them, wherever it is: all of it lies within
-- the address space. In a list there is no such bound, which is said by a size that no memory has.
abbrev pub most_between : Option Layout → ℕ
most_between (Some l) = 2 ^ 64 - 1 - (l.before + l.guard)
most_between None = 2 ^ 64

-- How large a memory can become that is designed so: what is set aside for it, or, where it may move to have more, all that a
-- region can have for it.
abbrev pub room_designed : Bool → Design → ℕ
room_designed may_move d = if may_move then most_between d.layout else d.capacity

-- How large a memory of this type can become on demand.
abbrev pub room_on_demand : Terms → MemoryType → ℕ
room_on_demand t ty = room_designed (memory_may_move ty t.settings.tunables) (default_design t.settings.page t.settings.tunables (minimum_byte_size ty) (maximum_asked ty))

-- A memory as it is made: its minimum of bytes, which are its image at its offset, where it takes that, and zeros elsewhere.
abbrev pub made_memory : Terms → MemoryWant → PrivateMemory
made_memory t want = record {
  slot = no_slot;
  ty = want.decl.ty;
  size = minimum_byte_size want.decl.ty;
  capacity = room_on_demand t want.decl.ty;
  bytes = if t.tells then Some (start (image_taken t.settings.page (minimum_byte_size want.decl.ty) want.image) (minimum_byte_size want.decl.ty)) else None;
}

-- A table as it is made: its minimum of elements, which are empty. It lies in a list, which tells them. It can have as many
-- as its type allows, and as it has.
abbrev pub made_table : Terms → TableType → PrivateTable
made_table t ty = record {
  slot = no_slot;
  kind = kind_of ty.element t.settings.tunables.tunables.table_lazy_init;
  size = ty.limits.min;
  maximum = max ty.limits.min (type_maximum ty);
  elements = Some (replicate ty.limits.min (empty (kind_of ty.element t.settings.tunables.tunables.table_lazy_init)));
}

-- the instance that is made for a request
abbrev pub made_instance : Terms → Request → PrivateInstance
made_instance t request = record { memories = map (made_memory t) request.memories; tables = map (made_table t) request.tables }

-- A memory's own refusal: the limiter is asked for its minimum first, then a minimum is refused that no size can be, and
-- then one for which too much would be set aside. A table's: the limiter is asked, and then its elements must lie within
-- the address space.
abbrev pub refusal_on_demand : Terms → Want → Option AllocError
refusal_on_demand t (new_memory want) =
    memory_refused (memory_answer (Some t.host.rule) (Ok true) (minimum_asked want.decl.ty) (maximum_asked want.decl.ty)) (λ minimum maximum. default_refusal t.settings.page t.settings.tunables minimum) want.decl.ty
refusal_on_demand t (new_table ty) = table_refused (table_answer (Some t.host.rule) (Ok true) ty.limits.min (Some (type_maximum ty))) ty
refusal_on_demand t new_stack = None
refusal_on_demand t new_heap = None

-- The own refusal of the first of these that has one.
abbrev pub first_unmade : Terms → List Want → Option AllocError
first_unmade t [] = None
first_unmade t (want ∷ wants) = option_or (refusal_on_demand t want) (first_unmade t wants)

-- Pages are called on: the first thing is a memory, and has no refusal of its own. Memories come before tables, which lie
-- in lists.
abbrev pub makes_memory : Terms → List Want → Bool
makes_memory t (new_memory want ∷ wants) = not (is_some (refusal_on_demand t (new_memory want)))
makes_memory t _ = false

-- Why a request is refused: where it breaks a rule, for that, or for want of memory; otherwise with the first own refusal of
-- its memories and tables, for want of memory, or because a call on pages failed as a memory was made. It is never short of
-- room.
abbrev pub IsUnmade : Option Unsupported → Terms → List Want → AllocError → Type 0
IsUnmade (Some rule) t wants e = (e ≡ alloc.Unsupported rule) ⊎ (e ≡ alloc.Memory)
IsUnmade None t wants e = (first_unmade t wants ≡ Some e) ⊎ ((e ≡ alloc.Memory) ⊎ ((e ≡ alloc.PageFault) × (makes_memory t wants ≡ true)))

-- a request is granted: nothing of it is refused
pub record IsMade (t : Terms) (request : Request) : Type 0 where
  pub supported : request.broken ≡ None
  pub allowed : first_unmade t (wants_of request) ≡ None

-- no slot for each of these
abbrev pub no_slots : {W : Type 0} → List W → List ℕ
no_slots wants = map (λ want. no_slot) wants

-- the reply to command n, which makes this request for an instance
abbrev pub Makes : Terms → ℕ → Request → Grants → Reply → Grants → Type 0
Makes t n request grants (Instance memories tables) new =
    IsMade t request × ((memories ≡ no_slots request.memories) × ((tables ≡ no_slots request.tables) × (new ≡ slice_set grants n (Some (instance_grant (made_instance t request))))))
Makes t n request grants (Refused (Alloc e)) new = IsUnmade request.broken t (wants_of request) e × (new ≡ grants)
Makes t n request grants _ new = ⊥

-- a component is granted: an allocator on demand has no rule for one, and counts none
abbrev pub MakesComponent : ℕ → Grants → Reply → Grants → Type 0
MakesComponent n grants Component new = new ≡ slice_set grants n (Some component_grant)
MakesComponent n grants _ new = ⊥

-- Why there is no stack: stacks of no bytes are none; otherwise for want of memory, or because its region, or the hiding of
-- its guard page, failed.
abbrev pub IsUnmadeStack : Bool → AllocError → Type 0
IsUnmadeStack true e = e ≡ alloc.StacksDisabled
IsUnmadeStack false e = (e ≡ alloc.Memory) ⊎ (e ≡ alloc.PageFault)

-- Why a stack is refused on demand: stacks have no size, or memory was short, or a page call failed.
abbrev pub IsStackUnmade : Terms → AllocError → Type 0
IsStackUnmade t e = IsUnmadeStack (t.stacks.size == 0) e

-- the reply to command n, which asks for a stack
abbrev pub MakesStack : Terms → ℕ → Grants → Reply → Grants → Type 0
MakesStack t n grants (Stack slot) new =
    (slot ≡ no_slot) × ((0 < t.stacks.size) × ((s : PrivateStack) × (BeginsStack t.stacks t.tells no_slot s × (new ≡ slice_set grants n (Some (stack_grant s))))))
MakesStack t n grants (Refused (Alloc e)) new = IsStackUnmade t e × (new ≡ grants)
MakesStack t n grants _ new = ⊥

-- A heap's memory is made by the settings for one of its kind.
abbrev pub heap_terms : Terms → Terms
heap_terms t = record t { settings = record (t.settings) { tunables = record (t.settings.tunables) { kind = GcHeap } } }

-- What a request for a heap is for besides the heap: its one memory, without an image.
abbrev pub heap_wants : MemoryType → List Want
heap_wants ty = new_memory (heap_memory ty) ∷ []

-- what refuses a heap before anything is made for it: there is no collector, or its memory's type breaks a rule
abbrev pub heap_barred_on_demand : Terms → MemoryType → Option AllocError
heap_barred_on_demand t ty = if t.settings.tunables.tunables.collector then option_map alloc.Unsupported (type_refused ty) else Some alloc.HeapsDisabled

-- Why there is no heap: for that, or as its memory isn't made. Where the maker of heaps failed, its memory was made.
abbrev pub IsHeapUnmade : Option AllocError → Terms → MemoryType → AllocError → Type 0
IsHeapUnmade (Some barred) t ty e = e ≡ barred
IsHeapUnmade None t ty alloc.HeapFault = first_unmade (heap_terms t) (heap_wants ty) ≡ None
IsHeapUnmade None t ty e = IsUnmade None (heap_terms t) (heap_wants ty) e

-- A heap is granted: nothing of it is refused, and the maker makes it, whose list of makings that fail doesn't have this one.
pub record IsHeapMade (t : Terms) (failing : List ℕ) (ty : MemoryType) (calls : ℕ) : Type 0 where
  pub supported : heap_barred_on_demand t ty ≡ None
  pub allowed : first_unmade (heap_terms t) (heap_wants ty) ≡ None
  pub made : goes_through failing calls ≡ true

-- the reply to command n, which asks for a heap whose memory is of this type
abbrev pub MakesHeap : Terms → ℕ → MemoryType → PrivateState → Reply → PrivateState → Type 0
MakesHeap t n ty s (Heap slot memory) new =
    IsHeapMade t t.host.unmade ty s.heaps
    × ((slot ≡ no_slot) × ((memory ≡ no_slot) × (new ≡ record s { grants = slice_set s.grants n (Some (heap_grant no_slot (made_memory (heap_terms t) (heap_memory ty)))); heaps = risen s.heaps })))
MakesHeap t n ty s (Refused (Alloc e)) new = IsHeapUnmade (heap_barred_on_demand t ty) t ty e × (CountsRefused t.host.unmade e s.heaps new.heaps × (new ≡ record s { heaps = new.heaps }))
MakesHeap t n ty s _ new = ⊥

-- the reply to command n, which asks for this
abbrev pub MakesWanted : Terms → ℕ → Wanted → PrivateState → Reply → PrivateState → Type 0
MakesWanted t n (an_instance number) s reply new = OnGrants (Makes t n (request_on_demand t number)) s reply new
MakesWanted t n (a_component info) s reply new = OnGrants (MakesComponent n) s reply new
MakesWanted t n a_stack s reply new = OnGrants (MakesStack t n) s reply new
MakesWanted t n (a_heap limits) s reply new = MakesHeap t n (heap_type limits) s reply new

-- Where nothing stands in the way of a growth it may still find no memory, and then nothing changes.
abbrev pub FindsNoMemory : {X : Type 0} → GrowthEnd → X → X → Reply → Type 0
FindsNoMemory end old new reply = (end ≡ has_grown) × ((reply ≡ Refused (Alloc alloc.Memory)) × (new ≡ old))

-- What an operation makes of a live memory, and the reply: as with a pool, but that a growth may find no memory. That one
-- which makes a new region fails by that region is given with the calls on its own pages. One to a size for which there can
-- be no region is past the memory's capacity, so that it is reported and changes nothing.
abbrev pub MovesOnDemand : MemoryOp → GrowthRule → PrivateMemory → PrivateMemory → Reply → Type 0
MovesOnDemand (grows pages) rule m new reply = MemoryMoves (grows pages) rule m new reply ⊎ FindsNoMemory (growth rule false pages m).0 m new reply
MovesOnDemand op rule m new reply = MemoryMoves op rule m new reply

-- What an operation makes of a table on demand; a growth may find no memory.
abbrev pub TableMovesOnDemand : TableOp → Host → StoredTable → StoredTable → Reply → Type 0
TableMovesOnDemand (lengthens by) host t new reply = TableMoves (lengthens by) host t new reply ⊎ FindsNoMemory (table_growth host.rule by t.table).0 t new reply
TableMovesOnDemand op host t new reply = TableMoves op host t new reply

-- an operation on bytes of the grant of command `of`, where this is that grant: on a stack's, or on those of a memory
abbrev pub BytesOnDemand : MemoryOp → GrowthRule → Option PrivateGrant → ℕ → ℕ → Grants → Reply → Grants → Type 0
BytesOnDemand op rule (Some (stack_grant s)) of k = MovesObject private_stacks (StackMoves op) of k
BytesOnDemand op rule _ of k = MovesObject private_memories (MovesOnDemand op rule) of k

-- What command n does, its reply, and the state before and after. There is nothing to purge or to release.
abbrev pub ActsOnDemand : Terms → ℕ → PrivateState → Act → Reply → PrivateState → Type 0
ActsOnDemand t n s (requests wanted) reply new = MakesWanted t n wanted s reply new
ActsOnDemand t n s (on_memory of k op) reply new = OnGrants (BytesOnDemand op t.host.rule (grant_at s.grants of) of k) s reply new
ActsOnDemand t n s (on_table of k op) reply new = MovesNamed (TableMovesOnDemand op t.host) (table_at of k s) (with_table of k) s reply new
ActsOnDemand t n s (drops of) reply new = OnGrants (λ grants. Drops (grant_at grants of) grants of) s reply new
ActsOnDemand t n s (purges number) reply new = (reply ≡ Purged 0) × (new ≡ s)
ActsOnDemand t n s releases reply new = (reply ≡ Released 0) × (new ≡ s)

-- The reply to one command on demand, and what its party has then.
abbrev pub StepOnDemand : Terms → ℕ → PrivateState → Command → Reply → PrivateState → Type 0
StepOnDemand t n s command reply new = ActsOnDemand t n s (act_of command) reply new
