-- What a party may see: its grants as private lists of bytes, which its commands read and write, and no pool.
use Rattle.std.specs.Prelude.{◌≡◌, ℕ, ◌+◌, ◌-◌, ◌*◌, ◌^◌, ◌<◌, ◌==◌, ◌||◌, ◌&&◌, List, [], ◌∷◌, ◌++◌, length, slice_get, slice_index_or, slice_set, replicate, map, min, ◌⊎◌, Bool, true, false, not, nat_lt, if◌then◌else◌, Option, Some, None, is_some, option_map, unwrap_or, Result, Ok, Err}
use Rattle.pool_run.specs.Imports.{div_ceil, option_or, list_all, put, minimum_byte_size, page_size, allow_growth_to, risen, MemoryDecl, ModuleInfo, ComponentInfo, MemoryType, Tunables, Unsupported, TableType, GrowthRule, memory_answer, table_answer, memory_failure, Image, images_from, start, first_misplaced, ends_in_minimum, exceeds, minimum_asked, maximum_asked, limits_answer, static_capacity, MemoryError, AllocError, MemoryStripe, Tables, Fibers, GcHeaps, CoreInstances, empty, kind_of, room_of, type_maximum, refusal_of, module_refused, component_refused, type_refused, no_component_left, no_module, table_refused, table_bytes, MemoryWant, Want, new_memory, new_table, new_stack, new_heap, wants_from, Settings}
use Rattle.pool_slots.specs.declared.errors.AllocError.TheVariants as alloc
use Rattle.pool_run.specs.Objects.{Objects, MovesNamed, MovesObject, object_at, with_object}
use Rattle.pool_run.specs.Acts.{MemoryOp, reads, writes, fills, grows, asks_size, Act, requests, on_memory, on_table, drops, purges, releases, act_of, Wanted, an_instance, a_component, a_stack, a_heap, heap_type}
use Rattle.pool_run.specs.PrivateStacks.{ReadsBytes, WritesBytes, StackTerms, PrivateStack, BeginsStack, StackMoves}
use Rattle.pool_run.specs.PrivateTables.{Host, PrivateTable, StoredTable, TableMoves, goes_through}
pub use Rattle.pool_run.specs.GrowthEnds.{GrowthEnd, as_it_was, could_not, has_grown, if_allowed, reported}
use Rattle.pool_run.specs.declared.command.Command.{Command}
use Rattle.pool_run.specs.declared.reply.Reply.{Reply}
use Rattle.pool_run.specs.declared.reply.Reply.TheVariants.{Instance, Size, Grown, Returned, Purged, Released, Refused, Component, Stack, Heap}
use Rattle.pool_run.specs.declared.reply.Refusal.{Refusal}
use Rattle.pool_run.specs.declared.reply.Refusal.TheVariants.{NoSuchGrant, Alloc}

-- a live memory: the slot that its reply named, its type, its size and how large it can become, and its bytes, where
-- they are told
pub record PrivateMemory : Type 0 where
  pub slot : ℕ
  pub ty : MemoryType
  pub size : ℕ
  pub capacity : ℕ
  pub bytes : Option (List ℕ)

-- a live instance: its memories and its tables in order
pub record PrivateInstance : Type 0 where
  pub memories : List PrivateMemory
  pub tables : List PrivateTable

-- A live grant: an instance; a component, of which its party has nothing but that it is granted; a memory or a table by itself,
-- which no command asks for; a stack; a heap, of which it has the slot that its reply named, and a memory; or a heap over a
-- memory that was there, which no command asks for.
pub data PrivateGrant : Type 0 where
  instance_grant : PrivateInstance → PrivateGrant
  component_grant : PrivateGrant
  memory_grant : PrivateMemory → PrivateGrant
  table_grant : PrivateTable → PrivateGrant
  stack_grant : PrivateStack → PrivateGrant
  heap_grant : ℕ → PrivateMemory → PrivateGrant
  heap_over_grant : ℕ → PrivateGrant

-- A party's grants by the numbers of its commands: none where the command is still to come, asked for none or was
-- refused, or where its grant was given back.
abbrev pub Grants : Type 0
Grants = List (Option PrivateGrant)

-- The live grant of a command; none where it was refused, given back, or isn't there.
abbrev pub grant_at : Grants → ℕ → Option PrivateGrant
grant_at grants of = slice_index_or grants of None

-- What a party's replies depend on beside its commands: whether pages are told, the modules, the pool's settings and how
-- many slots for memories, for tables and for heaps it has, the stripe from which the party has its memories, the pool's
-- stacks, and what the host answers the party.
pub record Terms : Type 0 where
  pub tells : Bool
  pub modules : List ModuleInfo
  pub settings : Settings
  pub slots : ℕ
  pub table_slots : ℕ
  pub heap_slots : ℕ
  pub stripe : ℕ
  pub stacks : StackTerms
  pub host : Host

-- The slots for memories are dealt out to the stripes in turn: how many the party's stripe has.
abbrev pub stripe_slots : Terms → ℕ
stripe_slots t = div_ceil (t.slots - t.stripe) t.settings.num_stripes

-- the module of this number
abbrev pub module_of : Terms → ℕ → ModuleInfo
module_of t number = slice_index_or t.modules number no_module

-- how many elements of a table's type fit its slot
abbrev pub table_room : Settings → TableType → ℕ
table_room s ty = room_of ty (table_bytes s ty)

-- Images are made for these memories: where memories begin as images at all, and each of them begins with a page and,
-- padded, ends within its memory's minimum.
abbrev pub has_images : Tunables → ℕ → List MemoryDecl → Bool
has_images tunables page decls = tunables.memory_init_cow && (not (is_some (first_misplaced page decls)) && list_all (ends_in_minimum page) decls)

-- The images of the module of this number with these memories, padded to whole pages, where it has images.
abbrev pub images_of : Tunables → ℕ → ℕ → List MemoryDecl → Option (List (Option Image))
images_of tunables page number decls = if has_images tunables page decls then Some (images_from (record { 0 = number }) page 0 decls) else None

-- a request: the first rule of the pool that it breaks, and the memories and tables that it is for, in order
pub record Request : Type 0 where
  pub broken : Option Unsupported
  pub memories : List MemoryWant
  pub tables : List TableType

-- All that a request is for, in order: memories, and then tables.
abbrev pub wants_of : Request → List Want
wants_of request = map new_memory request.memories ++ map new_table request.tables

-- the request for an instance of a module with this number
abbrev pub request_for : Terms → ℕ → ModuleInfo → Request
request_for t number m = record {
  broken = module_refused t.settings t.table_slots m;
  memories = wants_from m.memories (unwrap_or (images_of t.settings.tunables.tunables t.settings.page number m.memories) []);
  tables = m.tables;
}

-- The request for an instance of the module with this number.
abbrev pub request_of : Terms → ℕ → Request
request_of t number = request_for t number (module_of t number)

-- A memory as it begins: its minimum of bytes, which are its image at its offset and zeros elsewhere. It can become as
-- large as a slot of the pool, or as its type allows if that is less.
abbrev pub begun_memory : Terms → ℕ → MemoryWant → PrivateMemory
begun_memory t slot want = record {
  slot = slot;
  ty = want.decl.ty;
  size = minimum_byte_size want.decl.ty;
  capacity = static_capacity t.settings.max_memory_size (maximum_asked want.decl.ty);
  bytes = if t.tells then Some (start want.image (minimum_byte_size want.decl.ty)) else None;
}

-- A table as it begins: its minimum of elements, which are empty. It can have as many as fit its slot, or as its type
-- allows if that is less.
abbrev pub begun_table : Terms → ℕ → TableType → PrivateTable
begun_table t slot ty = record {
  slot = slot;
  kind = kind_of ty.element t.settings.tunables.tunables.table_lazy_init;
  size = ty.limits.min;
  maximum = min (table_room t.settings ty) (type_maximum ty);
  elements = if t.tells then Some (replicate ty.limits.min (empty (kind_of ty.element t.settings.tunables.tunables.table_lazy_init))) else None;
}

-- what is made of these, each in one of these slots
abbrev pub begun : {W X : Type 0} → (ℕ → W → X) → List W → List ℕ → List X
begun make [] slots = []
begun make (want ∷ wants) [] = []
begun make (want ∷ wants) (slot ∷ slots) = make slot want ∷ begun make wants slots

-- the instance that is made for a request, in these slots for memories and these for tables
abbrev pub begun_instance : Terms → Request → List ℕ → List ℕ → PrivateInstance
begun_instance t request memories tables = record {
  memories = begun (begun_memory t) request.memories memories;
  tables = begun (begun_table t) request.tables tables;
}

-- the refusal in an answer, if it is one
abbrev pub refused_by : {X : Type 0} → Result X MemoryError → Option AllocError
refused_by (Ok x) = None
refused_by (Err e) = Some (refusal_of e)

-- What refuses a memory or a table whatever slot it gets: the limiter is asked for its minimum first, then a minimum is
-- refused that no size can be, or that doesn't fit the slot.
abbrev pub own_refusal : Terms → Want → Option AllocError
own_refusal t (new_memory want) = refused_by (limits_answer (memory_answer (Some t.host.rule) (Ok true) (minimum_asked want.decl.ty) (maximum_asked want.decl.ty)) want.decl.ty)
own_refusal t (new_table ty) = table_refused (table_answer (Some t.host.rule) (Ok true) ty.limits.min (Some (type_maximum ty))) ty.limits.min (table_room t.settings ty)
own_refusal t new_stack = None
own_refusal t new_heap = None

-- The own refusal of the first of these things that has one.
abbrev pub first_refusal : Terms → List Want → Option AllocError
first_refusal t [] = None
first_refusal t (want ∷ wants) = option_or (own_refusal t want) (first_refusal t wants)

-- For how many of these things a slot is taken: up to the first that has an own refusal.
abbrev pub slots_asked : Terms → List Want → ℕ
slots_asked t [] = 0
slots_asked t (want ∷ wants) = 1 + (if is_some (own_refusal t want) then 0 else slots_asked t wants)

-- What a request may meet whatever it is for: there is no memory for it, as many instances are granted as there may
-- be, no slot is free for the thing of this number, or a call on the pages of that memory's slot failed.
pub data GivenRefusal : Type 0 where
  no_memory : GivenRefusal
  no_instance : GivenRefusal
  no_slot : ℕ → GivenRefusal
  page_fault : ℕ → GivenRefusal

-- The refusal for room where there is no slot for this thing: the limit of the stripe, or of tables.
abbrev pub limit_for : Terms → Option Want → AllocError
limit_for t (Some (new_table ty)) = alloc.Limit (record { limit = t.table_slots; kind = Tables })
limit_for t _ = alloc.Limit (record { limit = stripe_slots t; kind = MemoryStripe t.stripe })

-- The refusal that a given cause is: want of memory, the count of instances, no slot for a thing, or a failed page
-- call.
abbrev pub refused_as : Terms → List Want → GivenRefusal → AllocError
refused_as t wants no_memory = alloc.Memory
refused_as t wants no_instance = alloc.Limit (record { limit = t.settings.max_core_instances; kind = CoreInstances })
refused_as t wants (no_slot i) = limit_for t (slice_get wants i)
refused_as t wants (page_fault i) = alloc.PageFault

-- The thing is a memory, for which pages are called on as it is made.
abbrev pub is_memory : Option Want → Bool
is_memory (Some (new_memory want)) = true
is_memory _ = false

-- a slot is asked for each thing up to the first that has an own refusal
abbrev pub IsInTime : Terms → List Want → GivenRefusal → Type 0
IsInTime t wants no_memory = Unit {0}
IsInTime t wants no_instance = Unit {0}
IsInTime t wants (no_slot i) = i < slots_asked t wants
IsInTime t wants (page_fault i) = (i < slots_asked t wants) × (is_memory (slice_get wants i) ≡ true)

-- The refusal is one that may be given, and comes no later than the first own one would.
abbrev pub IsGiven : Terms → List Want → AllocError → Type 0
IsGiven t wants e = (given : GivenRefusal) × (e ≡ refused_as t wants given) × IsInTime t wants given

-- Why a request is refused: where it breaks a rule of the pool, for that, or for want of memory; otherwise with the first
-- own refusal of its memories and tables, or with one that is given.
abbrev pub IsRefused : Option Unsupported → Terms → List Want → AllocError → Type 0
IsRefused (Some rule) t wants e = (e ≡ alloc.Unsupported rule) ⊎ (e ≡ alloc.Memory)
IsRefused None t wants e = (first_refusal t wants ≡ Some e) ⊎ IsGiven t wants e

-- Why this request is refused; a refusal of another kind is no cause.
abbrev pub IsCause : Terms → Request → Refusal → Type 0
IsCause t request (Alloc e) = IsRefused request.broken t (wants_of request) e
IsCause t request _ = ⊥

-- a request is granted: nothing of it is refused, and each of its memories and tables has a slot
pub record IsGranted (t : Terms) (request : Request) (memories tables : List ℕ) : Type 0 where
  pub supported : request.broken ≡ None
  pub allowed : first_refusal t (wants_of request) ≡ None
  pub memory_slots : length memories ≡ length request.memories
  pub table_slots : length tables ≡ length request.tables

-- the reply to command n, which makes this request for an instance
abbrev pub Instantiates : Terms → ℕ → Request → Grants → Reply → Grants → Type 0
Instantiates t n request grants (Instance memories tables) new =
    IsGranted t request memories tables × (new ≡ slice_set grants n (Some (instance_grant (begun_instance t request memories tables))))
Instantiates t n request grants (Refused refusal) new = IsCause t request refusal × (new ≡ grants)
Instantiates t n request grants _ new = ⊥

-- Why a component is refused: for the first rule that it breaks, or, which is given, for room.
abbrev pub IsComponentRefused : Terms → Option Unsupported → AllocError → Type 0
IsComponentRefused t (Some rule) e = e ≡ alloc.Unsupported rule
IsComponentRefused t None e = e ≡ no_component_left t.settings

-- the reply to command n, which asks for a component of which this is known
abbrev pub AsksForComponent : Terms → ℕ → ComponentInfo → Grants → Reply → Grants → Type 0
AsksForComponent t n info grants Component new = (component_refused t.settings info ≡ None) × (new ≡ slice_set grants n (Some component_grant))
AsksForComponent t n info grants (Refused (Alloc e)) new = IsComponentRefused t (component_refused t.settings info) e × (new ≡ grants)
AsksForComponent t n info grants _ new = ⊥

-- how a stack is refused: there are none where they have no bytes; otherwise, which is given, for room
abbrev pub stack_refusal : Terms → AllocError
stack_refusal t = if t.stacks.size == 0 then alloc.StacksDisabled else alloc.Limit (record { limit = t.stacks.slots; kind = Fibers })

-- the reply to command n, which asks for a stack
abbrev pub AsksForStack : Terms → ℕ → Grants → Reply → Grants → Type 0
AsksForStack t n grants (Stack slot) new =
    (0 < t.stacks.size) × (s : PrivateStack) × BeginsStack t.stacks t.tells slot s × (new ≡ slice_set grants n (Some (stack_grant s)))
AsksForStack t n grants (Refused (Alloc e)) new = (e ≡ stack_refusal t) × (new ≡ grants)
AsksForStack t n grants _ new = ⊥

-- the reply to a read of a live memory
abbrev pub IsRead : PrivateMemory → ℕ → ℕ → Reply → Type 0
IsRead m at len reply = ReadsBytes m.size m.bytes at len reply

-- the memory with bytes of it written
abbrev pub private_written : ℕ → List ℕ → PrivateMemory → PrivateMemory
private_written at new m = record m { bytes = option_map (put at new) m.bytes }

-- the memory after a write of these bytes, and the reply
abbrev pub Writes : ℕ → List ℕ → PrivateMemory → PrivateMemory → Reply → Type 0
Writes at bytes m new reply = WritesBytes m.size at (length bytes) (private_written at bytes m) m new reply

-- the size after a growth by so many pages: at most the greatest whole number of pages that leaves room for one more
abbrev pub size_wanted : ℕ → PrivateMemory → ℕ
size_wanted pages m = min (m.size + pages * page_size m.ty) (2 ^ 64 - page_size m.ty)

-- the memory with zeros appended, up to this size
abbrev pub memory_grown : ℕ → PrivateMemory → PrivateMemory
memory_grown size m = record m { size = size; bytes = option_map (λ b. b ++ replicate {A = ℕ} (size - m.size) 0) m.bytes }

-- The reply to a growth that fails once the limiter allowed it: not grown, or an error by the party's rule.
abbrev pub report : GrowthRule → Reply
report rule = reported (memory_failure (Some rule) (Ok tt))

-- The end of a growth by so many pages under this rule, and the reply. By none nobody is asked. A size that the type
-- forbids is only reported; then the limiter is asked; then a size past the maximum or the capacity, and a failed call on
-- the pages, are reported.
abbrev pub growth : GrowthRule → Bool → ℕ → PrivateMemory → GrowthEnd × Reply
growth rule fault pages m =
    if pages == 0
    then (as_it_was, Grown (Some m.size))
    else (
    if not (allow_growth_to m.ty (size_wanted pages m))
    then (as_it_was, report rule)
    else if_allowed (memory_answer (Some rule) (Ok true) (size_wanted pages m) (maximum_asked m.ty)) (
    if exceeds (maximum_asked m.ty) (size_wanted pages m) || nat_lt m.capacity (size_wanted pages m)
    then (as_it_was, report rule)
    else (if fault then (could_not, report rule) else (has_grown, Grown (Some m.size)))
    )
    )

-- the memory after a growth to this size that ended so
abbrev pub left_of : GrowthEnd → ℕ → PrivateMemory → PrivateMemory
left_of as_it_was size m = m
left_of could_not size m = m
left_of has_grown size m = memory_grown size m

-- the memory after a growth by so many pages under this rule, and the reply
abbrev pub grown_by : GrowthRule → Bool → ℕ → PrivateMemory → PrivateMemory × Reply
grown_by rule fault pages m = (left_of (growth rule fault pages m).0 (size_wanted pages m) m, (growth rule fault pages m).1)

-- A growth of a memory ended by its rules; whether a call on its pages failed is left open.
abbrev pub Grows : GrowthRule → ℕ → PrivateMemory → PrivateMemory → Reply → Type 0
Grows rule pages m new reply = (fault : Bool) × ((new, reply) ≡ grown_by rule fault pages m)

-- What an operation makes of a live memory, under a rule by which it grows, and the reply. A look changes nothing.
abbrev pub MemoryMoves : MemoryOp → GrowthRule → PrivateMemory → PrivateMemory → Reply → Type 0
MemoryMoves (reads at len) rule m new reply = IsRead m at len reply × (new ≡ m)
MemoryMoves (writes at bytes) rule m new reply = Writes at bytes m new reply
MemoryMoves (fills at len byte) rule m new reply = Writes at (replicate len byte) m new reply
MemoryMoves (grows pages) rule m new reply = Grows rule pages m new reply
MemoryMoves asks_size rule m new reply = (reply ≡ Size m.size) × (new ≡ m)

-- The memories of a grant: an instance's, the one that it is, or the one of a heap.
abbrev pub memories_in_grant : PrivateGrant → List PrivateMemory
memories_in_grant (instance_grant g) = g.memories
memories_in_grant (memory_grant m) = m ∷ []
memories_in_grant (heap_grant slot m) = m ∷ []
memories_in_grant _ = []

-- The memories of a grant that commands name: an instance's, or the one of a heap.
abbrev pub memories_named_in : PrivateGrant → List PrivateMemory
memories_named_in (instance_grant g) = g.memories
memories_named_in (heap_grant slot m) = m ∷ []
memories_named_in _ = []

-- A grant with memory k of these replaced.
abbrev pub put_memory : ℕ → PrivateMemory → PrivateGrant → PrivateGrant
put_memory k m (instance_grant g) = instance_grant (record g { memories = slice_set g.memories k m })
put_memory k m (heap_grant slot old) = heap_grant slot (if k == 0 then m else old)
put_memory k m g = g

-- The tables of a grant: an instance's, or the one that it is.
abbrev pub tables_in_grant : PrivateGrant → List PrivateTable
tables_in_grant (instance_grant g) = g.tables
tables_in_grant (table_grant x) = x ∷ []
tables_in_grant _ = []

-- The tables of a grant that commands name, which an instance alone has.
abbrev pub tables_named_in : PrivateGrant → List PrivateTable
tables_named_in (instance_grant g) = g.tables
tables_named_in _ = []

-- A grant with table k of these replaced.
abbrev pub put_table : ℕ → PrivateTable → PrivateGrant → PrivateGrant
put_table k x (instance_grant g) = instance_grant (record g { tables = slice_set g.tables k x })
put_table k x g = g

-- The stack of a grant, which is the only one.
abbrev pub stacks_in_grant : PrivateGrant → List PrivateStack
stacks_in_grant (stack_grant s) = s ∷ []
stacks_in_grant _ = []

-- A grant with its stack replaced.
abbrev pub put_stack : ℕ → PrivateStack → PrivateGrant → PrivateGrant
put_stack k s (stack_grant old) = stack_grant s
put_stack k s g = g

-- Where the memories of a grant stand in it.
abbrev pub private_memories : Objects PrivateGrant PrivateMemory
private_memories = record { in_grant = memories_named_in; put_in = put_memory }

-- Where the tables of a grant stand in it.
abbrev pub private_tables : Objects PrivateGrant PrivateTable
private_tables = record { in_grant = tables_named_in; put_in = put_table }

-- Where the stack of a grant stands in it.
abbrev pub private_stacks : Objects PrivateGrant PrivateStack
private_stacks = record { in_grant = stacks_in_grant; put_in = put_stack }

-- An operation on bytes of the grant of command `of`, where this is that grant: on a stack's, or on those of a memory.
abbrev pub MovesBytes : MemoryOp → GrowthRule → Option PrivateGrant → ℕ → ℕ → Grants → Reply → Grants → Type 0
MovesBytes op rule (Some (stack_grant s)) of k = MovesObject private_stacks (StackMoves op) of k
MovesBytes op rule _ of k = MovesObject private_memories (MemoryMoves op rule) of k

-- a grant is given back, and ends
abbrev pub Drops : Option PrivateGrant → Grants → ℕ → Reply → Grants → Type 0
Drops None grants of reply new = (reply ≡ Refused NoSuchGrant) × (new ≡ grants)
Drops (Some g) grants of reply new = (reply ≡ Returned) × (new ≡ slice_set grants of None)

-- The reply to a purge: a number, whichever that is.
abbrev pub IsPurged : Reply → Type 0
IsPurged (Purged n) = Unit {0}
IsPurged _ = ⊥

-- The reply to a release: how many bytes were released, or that there was no memory for it.
abbrev pub IsReleased : Reply → Type 0
IsReleased (Released n) = Unit {0}
IsReleased (Refused refusal) = refusal ≡ Alloc alloc.Memory
IsReleased _ = ⊥

-- what a party may see: its live grants, and how often it called its store of GC references and its maker of heaps
pub record PrivateState : Type 0 where
  pub grants : Grants
  pub stores : ℕ
  pub heaps : ℕ

-- what a command makes of the grants alone
abbrev pub OnGrants : (Grants → Reply → Grants → Type 0) → PrivateState → Reply → PrivateState → Type 0
OnGrants Move s reply new = (grants : Grants) × Move s.grants reply grants × (new ≡ record s { grants = grants })

-- A table of a live grant, beside the calls on the party's store so far.
abbrev pub table_at : ℕ → ℕ → PrivateState → Option StoredTable
table_at of k s = option_map (λ t. record { table = t; calls = s.stores }) (object_at private_tables of k s.grants)

-- A party's state with one table replaced, and with the calls on its store that came with that.
abbrev pub with_table : ℕ → ℕ → StoredTable → PrivateState → PrivateState
with_table of k t s = record s { grants = with_object private_tables of k t.table s.grants; stores = t.calls }

-- A heap's memory is one without an image.
abbrev pub heap_memory : MemoryType → MemoryWant
heap_memory ty = record { decl = record { ty = ty; image = None }; image = None }

-- what refuses a heap before anything is made for it: there is no collector, or its memory's type breaks a rule of the pool
abbrev pub heap_barred : Terms → MemoryType → Option AllocError
heap_barred t ty = if t.settings.tunables.tunables.collector then option_map alloc.Unsupported (type_refused t.settings ty) else Some alloc.HeapsDisabled

-- what its memory has of an own refusal
abbrev pub heap_refusal : Terms → MemoryType → Option AllocError
heap_refusal t ty = own_refusal t (new_memory (heap_memory ty))

-- how a heap is refused for room
abbrev pub no_heap_left : Terms → AllocError
no_heap_left t = alloc.Limit (record { limit = t.heap_slots; kind = GcHeaps })

-- What a heap's request may meet before it has a slot for its heap. There is no memory for it. Its memory is refused as it is
-- made, or, which is given, as no slot is free for it, or a call on the pages of its slot failed. Where it isn't refused, it
-- is given that no slot is free for the heap.
abbrev pub IsHeapRefused : Terms → MemoryType → AllocError → Type 0
IsHeapRefused t ty e =
    ((e ≡ alloc.Memory) ⊎ (heap_refusal t ty ≡ Some e))
    ⊎ (((e ≡ limit_for t (Some (new_memory (heap_memory ty)))) ⊎ (e ≡ alloc.PageFault))
    ⊎ ((heap_refusal t ty ≡ None) × (e ≡ no_heap_left t)))

-- Why a heap is refused. Where the maker of heaps failed, nothing refuses it before.
abbrev pub HeapRefusal : Terms → MemoryType → AllocError → Type 0
HeapRefusal t ty alloc.HeapFault = heap_refusal t ty ≡ None
HeapRefusal t ty e = IsHeapRefused t ty e

-- Why a heap is refused: for what bars it where something does, else for its memory or its maker.
abbrev pub RefusesHeap : Option AllocError → Terms → MemoryType → AllocError → Type 0
RefusesHeap (Some barred) t ty e = e ≡ barred
RefusesHeap None t ty e = HeapRefusal t ty e

-- How often the maker of heaps was called before and after a request for a heap that is refused: once more where the maker
-- failed, which its list says.
abbrev pub CountsRefused : List ℕ → AllocError → ℕ → ℕ → Type 0
CountsRefused unmade alloc.HeapFault calls after = (goes_through unmade calls ≡ false) × (after ≡ risen calls)
CountsRefused unmade e calls after = after ≡ calls

-- How often the maker of heaps was called before and after a heap is granted: not at all where its slot had a heap,
-- else once more, where its list lets it.
abbrev pub CountsGranted : List ℕ → ℕ → ℕ → Type 0
CountsGranted unmade calls after = (after ≡ calls) ⊎ ((goes_through unmade calls ≡ true) × (after ≡ risen calls))

-- the reply to command n, which asks for a heap whose memory is of this type
abbrev pub AsksForHeap : Terms → ℕ → MemoryType → PrivateState → Reply → PrivateState → Type 0
AsksForHeap t n ty s (Heap slot memory) new =
    (heap_barred t ty ≡ None) × (heap_refusal t ty ≡ None) × CountsGranted t.host.unmade s.heaps new.heaps
    × (new ≡ record s { grants = slice_set s.grants n (Some (heap_grant slot (begun_memory t memory (heap_memory ty)))); heaps = new.heaps })
AsksForHeap t n ty s (Refused (Alloc e)) new =
    RefusesHeap (heap_barred t ty) t ty e × CountsRefused t.host.unmade e s.heaps new.heaps × (new ≡ record s { heaps = new.heaps })
AsksForHeap t n ty s _ new = ⊥

-- the reply to command n, which asks for this
abbrev pub Requests : Terms → ℕ → Wanted → PrivateState → Reply → PrivateState → Type 0
Requests t n (an_instance number) s reply new = OnGrants (Instantiates t n (request_of t number)) s reply new
Requests t n (a_component info) s reply new = OnGrants (AsksForComponent t n info) s reply new
Requests t n a_stack s reply new = OnGrants (AsksForStack t n) s reply new
Requests t n (a_heap limits) s reply new = AsksForHeap t n (heap_type limits) s reply new

-- What command n does, its reply, and the state before and after. Only a command on a table calls the store, and only a
-- request for a heap calls the maker of heaps. A purge and a release change nothing that the party sees.
abbrev pub Moves : Terms → ℕ → PrivateState → Act → Reply → PrivateState → Type 0
Moves t n s (requests wanted) reply new = Requests t n wanted s reply new
Moves t n s (on_memory of k op) reply new = OnGrants (MovesBytes op t.host.rule (grant_at s.grants of) of k) s reply new
Moves t n s (on_table of k op) reply new = MovesNamed (TableMoves op t.host) (table_at of k s) (with_table of k) s reply new
Moves t n s (drops of) reply new = OnGrants (λ grants. Drops (grant_at grants of) grants of) s reply new
Moves t n s (purges number) reply new = IsPurged reply × (new ≡ s)
Moves t n s releases reply new = IsReleased reply × (new ≡ s)

-- The reply to one command, and what its party has then: by its own terms, and with no pool in it.
abbrev pub PrivateStep : Terms → ℕ → PrivateState → Command → Reply → PrivateState → Type 0
PrivateStep t n s command reply new = Moves t n s (act_of command) reply new

-- Steps of commands, the first of which is command n: each of the replies is to the next command, from the state at the
-- start to the one at the end. There may be fewer replies than commands.
abbrev pub StepsBy : (ℕ → PrivateState → Command → Reply → PrivateState → Type 0) → ℕ → List Command → List Reply → PrivateState → PrivateState → Type 0
StepsBy Step n commands [] s end = end ≡ s
StepsBy Step n [] (reply ∷ replies) s end = ⊥
StepsBy Step n (command ∷ commands) (reply ∷ replies) s end = (mid : PrivateState) × Step n s command reply mid × StepsBy Step (n + 1) commands replies mid end

-- What a party has with these grants, before it called its store or its maker of heaps.
abbrev pub with_grants : Grants → PrivateState
with_grants grants = record { grants = grants; stores = 0; heaps = 0 }

-- A party's grants before its first command: a place for each command, and no grant.
abbrev pub no_grants : List Command → Grants
no_grants commands = replicate (length commands) None

-- the replies are those of a run from no grant, to whatever state at its end
abbrev pub IsPrivateRun : Terms → List Command → List Reply → Type 0
IsPrivateRun t commands replies = (end : PrivateState) × StepsBy (PrivateStep t) 0 commands replies (with_grants (no_grants commands)) end

-- The replies are those of a private run, and each command has its reply.
pub record IsWholeRun (t : Terms) (commands : List Command) (replies : List Reply) : Type 0 where
  pub private : IsPrivateRun t commands replies
  pub all : length replies ≡ length commands
