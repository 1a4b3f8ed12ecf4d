-- What the replies to a party tell of the pool beside its private run: the slots of its memories, and that a request is
-- granted where there is room for it.
use Rattle.std.specs.Prelude.{◌≡◌, ◌≢◌, ℕ, ◌+◌, ◌<◌, ◌≤◌, List, [], ◌∷◌, length, sum_by, slice_index_or, All, ◌⊎◌, Bool, true, false, Option, Some, None, IfSome}
use Rattle.pool_run.specs.Imports.{MakerTold, plan_for, memory_region, always, AllocError, ConcurrencyKind, MemoryStripe, Tables, GcHeaps, CoreInstances}
use Rattle.pool_slots.specs.declared.errors.AllocError.TheVariants as alloc
use Rattle.pool_run.specs.Private.{PrivateMemory, PrivateGrant, instance_grant, component_grant, heap_grant, heap_over_grant, PrivateState, PrivateStep, Grants, Terms, grant_at, memories_in_grant, tables_in_grant, stacks_in_grant, private_memories, Request, request_of, wants_of, stripe_slots, slots_asked, growth, StepsBy, with_grants, no_grants}
use Rattle.pool_run.specs.PrivateTables.{Host}
use Rattle.pool_run.specs.Objects.{object_at}
use Rattle.pool_run.specs.Acts.{MemoryOp, grows, Wanted, an_instance, a_component, a_stack, a_heap, Act, requests, on_memory, act_of}
use Rattle.pool_run.specs.declared.command.Command.{Command}
use Rattle.pool_run.specs.declared.reply.Reply.{Reply}
use Rattle.pool_run.specs.declared.reply.Reply.TheVariants.{Instance, Component, Stack, Heap, Refused}
use Rattle.pool_run.specs.declared.reply.Refusal.TheVariants.{Alloc}

-- How many memories a live grant has.
abbrev pub memories_in : Option PrivateGrant → ℕ
memories_in None = 0
memories_in (Some g) = length (memories_in_grant g)

-- How many tables a live grant has.
abbrev pub tables_in : Option PrivateGrant → ℕ
tables_in None = 0
tables_in (Some g) = length (tables_in_grant g)

-- How many stacks a live grant has.
abbrev pub stacks_in : Option PrivateGrant → ℕ
stacks_in None = 0
stacks_in (Some g) = length (stacks_in_grant g)

-- How many memories a party's live grants have, with those of heaps.
abbrev pub live_count : Grants → ℕ
live_count grants = sum_by memories_in grants

-- How many tables a party's live grants have.
abbrev pub table_count : Grants → ℕ
table_count grants = sum_by tables_in grants

-- How many stacks a party's live grants have.
abbrev pub stack_count : Grants → ℕ
stack_count grants = sum_by stacks_in grants

-- 1 for a live grant that is an instance.
abbrev pub instances_in : Option PrivateGrant → ℕ
instances_in (Some (instance_grant g)) = 1
instances_in _ = 0

-- 1 for a live grant that is a component.
abbrev pub components_in : Option PrivateGrant → ℕ
components_in (Some component_grant) = 1
components_in _ = 0

-- The slots of a grant's heaps: it is one heap, or has none.
abbrev pub heaps_in_grant : PrivateGrant → List ℕ
heaps_in_grant (heap_grant slot m) = slot ∷ []
heaps_in_grant (heap_over_grant slot) = slot ∷ []
heaps_in_grant _ = []

-- How many heaps a live grant has.
abbrev pub heaps_in : Option PrivateGrant → ℕ
heaps_in None = 0
heaps_in (Some g) = length (heaps_in_grant g)

-- How many live grants of a party are instances.
abbrev pub instance_count : Grants → ℕ
instance_count grants = sum_by instances_in grants

-- How many live grants of a party are components.
abbrev pub component_count : Grants → ℕ
component_count grants = sum_by components_in grants

-- How many heaps a party's live grants have.
abbrev pub heap_count : Grants → ℕ
heap_count grants = sum_by heaps_in grants

-- what is the same for a whole run: the maker of the pool's regions, what the host answers each party, whether there is
-- one party alone, whether the pool's counters are known to count what the party has, and the terms of the party that is spoken of
pub record World : Type 0 where
  pub maker : MakerTold
  pub hosts : List Host
  pub alone : Bool
  pub counts : Bool
  pub terms : Terms

-- a host that allows everything
abbrev pub open_host : Host
open_host = record { rule = always; failing = []; unmade = [] }

-- The world as a party with this host sees it.
abbrev pub under : Host → World → World
under host w = record w { terms = record w.terms { host = host } }

-- The world as a party of this stripe sees it.
abbrev pub in_stripe : ℕ → World → World
in_stripe stripe w = record w { terms = record w.terms { stripe = stripe } }

-- The world as party i sees it, in its stripe and with its host.
abbrev pub world_at : World → ℕ → ℕ → World
world_at w i stripe = in_stripe stripe (under (slice_index_or w.hosts i open_host) w)

-- No live memory of the party is in this slot.
abbrev pub HasNoMemoryIn : ℕ → Grants → Type 0
HasNoMemoryIn slot grants = (i : ℕ) → IfSome (grant_at grants i) (λ g. All (λ m. m.slot ≢ slot) (memories_in_grant g))

-- No live table of the party is in this slot.
abbrev pub HasNoTableIn : ℕ → Grants → Type 0
HasNoTableIn slot grants = (i : ℕ) → IfSome (grant_at grants i) (λ g. All (λ t. t.slot ≢ slot) (tables_in_grant g))

-- No live stack of the party is in this slot.
abbrev pub HasNoStackIn : ℕ → Grants → Type 0
HasNoStackIn slot grants = (i : ℕ) → IfSome (grant_at grants i) (λ g. All (λ s. s.slot ≢ slot) (stacks_in_grant g))

-- No live heap of the party is in this slot.
abbrev pub HasNoHeapIn : ℕ → Grants → Type 0
HasNoHeapIn slot grants = (i : ℕ) → IfSome (grant_at grants i) (λ g. All (λ at. at ≢ slot) (heaps_in_grant g))

-- no slot is named twice
abbrev pub AllDiffer : List ℕ → Type 0
AllDiffer slots = (i j : ℕ) → i < length slots → j < length slots → slice_index_or slots i 0 ≡ slice_index_or slots j 0 → i ≡ j

-- These slots of a kind, of which there are so many, are slots of the pool, free and different, and those that are live
-- leave room for them.
pub record AreFreeSlots (total live : ℕ) (IsFree : ℕ → Type 0) (slots : List ℕ) : Type 0 where
  pub inside : All (λ slot. slot < total) slots
  pub free : All IsFree slots
  pub differ : AllDiffer slots
  pub few : live + length slots ≤ total

-- An instance that is granted has free slots, and the party's own grants leave room for it, in their number too where counters
-- count them.
pub record HasRoom (w : World) (grants : Grants) (memory_slots table_slots : List ℕ) : Type 0 where
  pub memories : AreFreeSlots w.terms.slots (live_count grants) (λ slot. HasNoMemoryIn slot grants) memory_slots
  pub tables : AreFreeSlots w.terms.table_slots (table_count grants) (λ slot. HasNoTableIn slot grants) table_slots
  pub instances : w.counts ≡ true → instance_count grants < w.terms.settings.max_core_instances

-- A party that is alone is refused for room only where all that there is of this kind is its own: instances, or the slots
-- of its stripe, with those of the memories of the request before the one for which none is free, or those for tables.
abbrev pub IsFull : World → Request → Grants → ConcurrencyKind → Type 0
IsFull w request grants CoreInstances = w.terms.settings.max_core_instances ≤ instance_count grants
IsFull w request grants (MemoryStripe s) = (i : ℕ) × (i < length request.memories) × (i < slots_asked w.terms (wants_of request)) × (stripe_slots w.terms ≤ live_count grants + i)
IsFull w request grants Tables = (i : ℕ) × (i < length request.tables) × (length request.memories + i < slots_asked w.terms (wants_of request)) × (w.terms.table_slots ≤ table_count grants + i)
IsFull w request grants _ = ⊥

-- the plan that this slot's region is made with, where it is told, lists a call on it
abbrev pub MayFault : World → ℕ → Type 0
MayFault w i = IfSome (plan_for (memory_region i) w.maker) (λ plan. 0 < length plan)

-- The plan lists a call on the region of some memory slot.
abbrev pub SomeMayFault : World → Type 0
SomeMayFault w = (i : ℕ) × (i < w.terms.slots) × MayFault w i

-- A call on pages fails only on those of a slot that is free.
abbrev pub IsForRoom : World → Request → Grants → AllocError → Type 0
IsForRoom w request grants (alloc.Limit e) = w.alone ≡ true → IsFull w request grants e.kind
IsForRoom w request grants (alloc.PageFault) = SomeMayFault w × (live_count grants < w.terms.slots)
IsForRoom w request grants _ = Unit {0}

-- what the reply to a request for an instance tells of room
abbrev pub TellsRoom : World → Request → Grants → Reply → Type 0
TellsRoom w request grants (Instance memories tables) = HasRoom w grants memories tables
TellsRoom w request grants (Refused (Alloc e)) = IsForRoom w request grants e
TellsRoom w request grants _ = Unit {0}

-- what the reply to a request for a component tells of room: the party's own leave room for it, where counters count them, or,
-- where it is alone, are all that there may be
abbrev pub TellsComponentRoom : World → Grants → Reply → Type 0
TellsComponentRoom w grants Component = w.counts ≡ true → component_count grants < w.terms.settings.max_component_instances
TellsComponentRoom w grants (Refused (Alloc (alloc.Limit e))) = w.alone ≡ true → w.terms.settings.max_component_instances ≤ component_count grants
TellsComponentRoom w grants _ = Unit {0}

-- And that to a request for a stack: it has a free slot; or a party that is alone is refused for room only where all slots
-- are those of its own.
abbrev pub TellsStackRoom : World → Grants → Reply → Type 0
TellsStackRoom w grants (Stack slot) = AreFreeSlots w.terms.stacks.slots (stack_count grants) (λ k. HasNoStackIn k grants) (slot ∷ [])
TellsStackRoom w grants (Refused (Alloc (alloc.Limit e))) = w.alone ≡ true → w.terms.stacks.slots ≤ stack_count grants
TellsStackRoom w grants _ = Unit {0}

-- A party that is alone is refused for room for a heap only where all slots of its stripe are its own memories', or all slots
-- for heaps its own heaps'. A call on pages fails only on those of a slot that is free.
abbrev pub IsHeapFull : World → Grants → ConcurrencyKind → Type 0
IsHeapFull w grants (MemoryStripe s) = stripe_slots w.terms ≤ live_count grants
IsHeapFull w grants GcHeaps = w.terms.heap_slots ≤ heap_count grants
IsHeapFull w grants _ = ⊥

-- What a heap's refusal tells: a party alone is refused for room only where its own grants fill the pool.
abbrev pub IsForHeapRoom : World → Grants → AllocError → Type 0
IsForHeapRoom w grants (alloc.Limit e) = w.alone ≡ true → IsHeapFull w grants e.kind
IsForHeapRoom w grants (alloc.PageFault) = SomeMayFault w × (live_count grants < w.terms.slots)
IsForHeapRoom w grants _ = Unit {0}

-- a heap that is granted has a free slot, and its memory one, and the party's own grants leave room for both
pub record HasHeapRoom (w : World) (grants : Grants) (heap memory : ℕ) : Type 0 where
  pub memories : AreFreeSlots w.terms.slots (live_count grants) (λ slot. HasNoMemoryIn slot grants) (memory ∷ [])
  pub heaps : AreFreeSlots w.terms.heap_slots (heap_count grants) (λ slot. HasNoHeapIn slot grants) (heap ∷ [])

-- what the reply to a request for a heap tells of room
abbrev pub TellsHeapRoom : World → Grants → Reply → Type 0
TellsHeapRoom w grants (Heap heap memory) = HasHeapRoom w grants heap memory
TellsHeapRoom w grants (Refused (Alloc e)) = IsForHeapRoom w grants e
TellsHeapRoom w grants _ = Unit {0}

-- what the reply to a request for this tells of room
abbrev pub TellsRequest : World → Wanted → Grants → Reply → Type 0
TellsRequest w (an_instance number) grants reply = TellsRoom w (request_of w.terms number) grants reply
TellsRequest w (a_component info) grants reply = TellsComponentRoom w grants reply
TellsRequest w a_stack grants reply = TellsStackRoom w grants reply
TellsRequest w (a_heap limits) grants reply = TellsHeapRoom w grants reply

-- A growth ends as its rules alone would have it, or a call on the pages of its memory's slot failed.
abbrev pub TellsGrowth : World → ℕ → PrivateMemory → Reply → Type 0
TellsGrowth w pages m reply = (reply ≡ (growth w.terms.host.rule false pages m).1) ⊎ MayFault w m.slot

-- What the reply to an operation on a memory tells of the pool: only that to a growth tells something.
abbrev pub TellsMove : World → MemoryOp → PrivateMemory → Reply → Type 0
TellsMove w (grows pages) m reply = TellsGrowth w pages m reply
TellsMove w _ m reply = Unit {0}

-- What the reply to a command tells of the pool.
abbrev pub TellsOfPool : World → Grants → Act → Reply → Type 0
TellsOfPool w grants (requests wanted) reply = TellsRequest w wanted grants reply
TellsOfPool w grants (on_memory of k op) reply = IfSome (object_at private_memories of k grants) (λ m. TellsMove w op m reply)
TellsOfPool w grants _ reply = Unit {0}

-- a step of a private run that tells so of the pool
pub record PooledStep (w : World) (n : ℕ) (s : PrivateState) (command : Command) (reply : Reply) (new : PrivateState) : Type 0 where
  pub private : PrivateStep w.terms n s command reply new
  pub pool : TellsOfPool w s.grants (act_of command) reply

-- the replies are those of a run of such steps
abbrev pub IsPooledRun : World → List Command → List Reply → Type 0
IsPooledRun w commands replies = (end : PrivateState) × StepsBy (PooledStep w) 0 commands replies (with_grants (no_grants commands)) end
