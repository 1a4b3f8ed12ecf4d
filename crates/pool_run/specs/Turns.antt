-- A turn of a party in a run: the next step of its call, or the first step of its next command.
use Rattle.std.specs.Prelude.{◌≡◌, ℕ, ◌+◌, ◌*◌, ◌<◌, List, [], ◌∷◌, ◌++◌, length, map, replicate, ◌==◌, nat_le, nat_lt, slice_get, slice_index_or, slice_range, slice_set, ◌⊎◌, Bool, true, false, if◌then◌else◌, Option, Some, None, option_map}
use Rattle.pool_run.specs.Imports.{concat, Told, overwritten, risen, GrowthRule, InPlace, FailsInPlace, IsCallPlanned, MemoryState, bytes_of, memory_written, HeapsTold, listed_heaps, ListedHeaps, ElementKind, Element, width, word, type_of, ListedStore, Lease, IsUsable, PartyTold, LeasedTable, LiesInRegion, no_room, LeasedStack, LeasedHeap, Slot, StackState, plain_written, PlainHeap, begun_call, After, StepsTo, is_idle, PoolCore, Frame, ModuleAsked, Call, Grant, instance, component, one_memory, one_table, stack, heap, heap_over, Outcome, MemoryOutOfBounds}
use Rattle.pool_limits.specs.declared.errors.GrowError.TheVariants.{PageFault}
use Rattle.pool_slots.specs.declared.errors.AllocError.TheVariants as alloc
use Rattle.pool_alloc.specs.declared.frame.Call.TheVariants as call
use Rattle.pool_alloc.specs.declared.frame.Outcome.TheVariants as answer
use Rattle.pool_run.specs.PartyRules.{rule_of, host_of}
use Rattle.pool_run.specs.PrivateStacks.{ReadsBytes, PrivateStack}
use Rattle.pool_run.specs.PrivateTables.{Host, PrivateTable, StoredTable, TableMoves, elements_set}
use Rattle.pool_run.specs.TableValues.{element_for}
use Rattle.pool_run.specs.Private.{PrivateMemory, PrivateGrant, instance_grant, component_grant, memory_grant, table_grant, stack_grant, heap_grant, heap_over_grant, Grants, IsRead, GrowthEnd, as_it_was, could_not, has_grown, growth, size_wanted, memory_grown}
use Rattle.pool_run.specs.Objects.{Objects, MovesObject, object_at}
use Rattle.pool_run.specs.Acts.{MemoryOp, reads, writes, fills, grows, asks_size, TableOp, sets, Act, requests, on_memory, on_table, drops, purges, releases, act_of, Wanted, an_instance, a_component, a_stack, a_heap, heap_type}
use Rattle.pool_run.specs.declared.begin.Begun.{Begun}
use Rattle.pool_run.specs.declared.begin.Begun.TheVariants as begun
use Rattle.pool_run.specs.declared.command.Command.{Command}
use Rattle.pool_run.specs.declared.reply.Reply.{Reply}
use Rattle.pool_run.specs.declared.reply.Reply.TheVariants.{Instance, Done, Size, Returned, Purged, Released, Refused, Trap as trapped, Component, Stack, Heap, Grown}
use Rattle.pool_run.specs.declared.reply.Refusal.TheVariants.{NoSuchGrant, GcStoreFault, Alloc}
use Rattle.pool_run.specs.declared.running_party.RunningParty.{RunningParty}
use Rattle.pool_run.specs.declared.slot_lists.SlotLists.{SlotLists}

-- the memory in a slot, as the party sees it
abbrev pub seen_as : ℕ → MemoryState → PrivateMemory
seen_as slot m = record { slot = slot; ty = m.ty; size = m.linear.size; capacity = m.linear.capacity; bytes = bytes_of m }

-- A memory's lease as its party sees it.
abbrev pub private_memory : Lease → PrivateMemory
private_memory l = seen_as l.index l.memory

-- the memory after a write of these bytes, and the reply
abbrev pub MemoryWrites : ℕ → List ℕ → MemoryState → MemoryState → Reply → Type 0
MemoryWrites at bytes old new reply = ◌≡◌ {A = MemoryState × Reply} (new, reply) (if nat_le (at + length bytes) old.linear.size then (memory_written at bytes old, Done) else (old, trapped MemoryOutOfBounds))

-- What a growth to this size that ended so leaves of a memory in its slot. A call on the pages ends as the plan of the
-- slot's region says, where that is told.
abbrev pub GrowthLeaves : GrowthEnd → ℕ → MemoryState → MemoryState → Type 0
GrowthLeaves as_it_was size old new = new ≡ old
GrowthLeaves could_not size old new =
    (new ≡ record old { linear = record old.linear { storage = new.linear.storage } }) × (bytes_of new ≡ bytes_of old) × FailsInPlace PageFault size old.linear.storage new.linear.storage × IsCallPlanned false size old.linear.storage
GrowthLeaves has_grown size old new =
    (new ≡ record old { linear = new.linear }) × (bytes_of new ≡ (memory_grown size (seen_as 0 old)).bytes) × InPlace size old.linear.storage old.linear new.linear × IsCallPlanned true size old.linear.storage

-- The memory after a growth by so many pages under this rule, and the reply, which are those of the memory as the party
-- sees it, in whatever slot it is.
abbrev pub MemoryGrows : GrowthRule → ℕ → MemoryState → MemoryState → Reply → Type 0
MemoryGrows rule pages old new reply =
    (fault : Bool) × (reply ≡ (growth rule fault pages (seen_as 0 old)).1) × GrowthLeaves (growth rule fault pages (seen_as 0 old)).0 (size_wanted pages (seen_as 0 old)) old new

-- a lease whose memory moved, which can still be used
pub record MovesLease (Moves : MemoryState → MemoryState → Reply → Type 0) (l new : Lease) (reply : Reply) : Type 0 where
  pub same : new ≡ record l { memory = new.memory }
  pub memory : IsUsable new.memory
  pub move : Moves l.memory new.memory reply

-- what an operation makes of a lease, under a rule by which its memory grows, and the reply
abbrev pub LeaseMoves : MemoryOp → GrowthRule → Lease → Lease → Reply → Type 0
LeaseMoves (reads at len) rule l new reply = IsRead (private_memory l) at len reply × (new ≡ l)
LeaseMoves (writes at bytes) rule l new reply = MovesLease (MemoryWrites at bytes) l new reply
LeaseMoves (fills at len byte) rule l new reply = MovesLease (MemoryWrites at (replicate len byte)) l new reply
LeaseMoves (grows pages) rule l new reply = MovesLease (MemoryGrows rule pages) l new reply
LeaseMoves asks_size rule l new reply = (reply ≡ Size l.memory.linear.size) × (new ≡ l)

-- the bytes of a stack in a region, where they are told
abbrev pub stack_bytes : Slot → Option (List ℕ)
stack_bytes slot = option_map (λ c. slice_range c.bytes slot.base.bytes (slot.base.bytes + slot.static_size)) slot.region.contents

-- the stack as the party sees it
abbrev pub seen_stack : StackState → PrivateStack
seen_stack s = record { slot = s.index; size = s.slot.static_size; bytes = stack_bytes s.slot }

-- A stack's lease as its party sees it.
abbrev pub private_stack : LeasedStack → PrivateStack
private_stack l = seen_stack l.stack

-- the stack after a write of these bytes, and the reply
abbrev pub StackStateWrites : ℕ → List ℕ → StackState → StackState → Reply → Type 0
StackStateWrites at bytes s new reply = ◌≡◌ {A = StackState × Reply} (new, reply) (if nat_le (at + length bytes) s.slot.static_size then (record s { slot = plain_written at bytes s.slot }, Done) else (s, trapped MemoryOutOfBounds))

-- What an operation makes of a stack, and the reply.
abbrev pub StackStateMoves : MemoryOp → StackState → StackState → Reply → Type 0
StackStateMoves (reads at len) s new reply = ReadsBytes (seen_stack s).size (seen_stack s).bytes at len reply × (new ≡ s)
StackStateMoves (writes at bytes) s new reply = StackStateWrites at bytes s new reply
StackStateMoves (fills at len byte) s new reply = StackStateWrites at (replicate len byte) s new reply
StackStateMoves (grows pages) s new reply = (reply ≡ Grown None) × (new ≡ s)
StackStateMoves asks_size s new reply = (reply ≡ Size s.slot.static_size) × (new ≡ s)

-- An operation on a stack's lease is one on its stack; its slot stays.
abbrev pub StackLeaseMoves : MemoryOp → LeasedStack → LeasedStack → Reply → Type 0
StackLeaseMoves op l new reply = StackStateMoves op l.stack new.stack reply × (new ≡ record l { stack = new.stack })

-- the table in a slot, as the party sees it
abbrev pub private_table : LeasedTable → PrivateTable
private_table l = record { slot = l.index; kind = l.table.kind; size = l.table.size; maximum = l.table.maximum; elements = l.table.elements }

-- a table of a party with this store, as the party sees both
abbrev pub stored_as : LeasedTable → ListedStore → StoredTable
stored_as l s = record { table = private_table l; calls = s.made }

-- so many elements of a table in a region were set from a place on: their words were written there
abbrev pub region_set : ℕ → ℕ → Element → ElementKind → Told → Told
region_set first done element kind r = overwritten (first * width kind) (concat (replicate done (word kind element))) r

-- The region after an operation on the table that lies there, where these calls on the store fail. Only elements that are
-- set are written.
abbrev pub region_left : TableOp → List ℕ → StoredTable → Told → Told
region_left (sets first count value) failing t r =
    if nat_lt t.table.size (first + count)
    then r
    else region_set first (elements_set t.table.kind failing t.calls count) (element_for (type_of t.table.kind) value) t.table.kind r
region_left _ failing t r = r

-- what a maker of heaps with a list of failing makings tells
abbrev pub heaps_told : ListedHeaps → HeapsTold
heaps_told m = listed_heaps m.failing m.made m.faults

-- the count of faults of a store after a reply
abbrev pub faults_left : Reply → ℕ → ℕ
faults_left (Refused GcStoreFault) faults = risen faults
faults_left _ faults = faults

-- A lease whose table moved as its party sees it, whose store was in one state before and is in the other after. The table
-- lies where it lay.
pub record MovesTable (op : TableOp) (rule : GrowthRule) (before after : ListedStore) (l new : LeasedTable) (reply : Reply) : Type 0 where
  pub same : new ≡ record l { table = new.table }
  pub move : TableMoves op (record { rule = rule; failing = before.failing; unmade = [] }) (stored_as l before) (stored_as new after) reply
  pub region : new.table.region ≡ option_map (region_left op before.failing (stored_as l before)) l.table.region
  pub lies : (new.table ≡ l.table) ⊎ LiesInRegion new.table
  pub store : after ≡ record before { made = after.made; faults = faults_left reply before.faults }

-- no lists of slots, which have no room
abbrev pub no_lists : SlotLists
no_lists = record { memories = no_room; tables = no_room }

-- the replies so far, with one more if there is one
abbrev pub with_reply : Option Reply → List Reply → List Reply
with_reply None before = before
with_reply (Some reply) before = before ++ reply ∷ []

-- what a turn leaves, and the reply to the command that ends with it
pub record Turned (P : Type 0) : Type 0 where
  pub core : PoolCore P PlainHeap
  pub party : RunningParty P
  pub reply : Option Reply

-- What a turn opens with: nothing, where nothing is left to do; a command that ends at once, with this reply and these
-- live grants and this store; or a step of a call, from this frame and beside these live grants.
pub data Opening (P : Type 0) : Type 0 where
  rests : Opening P
  replies : Reply → List (Option (Grant P PlainHeap)) → ListedStore → Opening P
  makes_step : Frame P PlainHeap → List (Option (Grant P PlainHeap)) → Opening P

module _ {P : Type 0} where
  -- A grant of the pool as its party sees it.
  abbrev pub private_grant : Grant P PlainHeap → PrivateGrant
  private_grant (instance lease) = instance_grant (record { memories = map private_memory lease.memories.items; tables = map private_table lease.tables.items })
  private_grant component = component_grant
  private_grant (one_memory lease) = memory_grant (private_memory lease)
  private_grant (one_table lease) = table_grant (private_table lease)
  private_grant (stack lease) = stack_grant (private_stack lease)
  private_grant (heap lease memory) = heap_grant lease.index (private_memory memory)
  private_grant (heap_over lease) = heap_over_grant lease.index

  -- All live grants of a party, as it sees them.
  abbrev pub grants_of : List (Option (Grant P PlainHeap)) → Grants
  grants_of live = map (option_map private_grant) live

  -- The memories of a grant: an instance's, the one that it is, or the one of a heap.
  abbrev pub leases_of : Grant P PlainHeap → List Lease
  leases_of (instance lease) = lease.memories.items
  leases_of (one_memory lease) = lease ∷ []
  leases_of (heap lease memory) = memory ∷ []
  leases_of _ = []

  -- The tables of a grant: an instance's, or the one that it is.
  abbrev pub tables_of : Grant P PlainHeap → List LeasedTable
  tables_of (instance lease) = lease.tables.items
  tables_of (one_table lease) = lease ∷ []
  tables_of _ = []

  -- The memories of a grant that commands name: an instance's, or the one of a heap.
  abbrev pub leases_named : Grant P PlainHeap → List Lease
  leases_named (instance lease) = lease.memories.items
  leases_named (heap lease memory) = memory ∷ []
  leases_named _ = []

  -- The tables of a grant that commands name, which an instance alone has.
  abbrev pub tables_named : Grant P PlainHeap → List LeasedTable
  tables_named (instance lease) = lease.tables.items
  tables_named _ = []

  -- the memories whose slots the reply to a request lists
  abbrev pub leases_listed : Grant P PlainHeap → List Lease
  leases_listed (instance lease) = lease.memories.items
  leases_listed _ = []

  -- the command ends with this reply
  abbrev pub ended_with : Reply → PoolCore P PlainHeap → RunningParty P → Turned P
  ended_with reply c p = record { core = c; party = record p { done = p.done + 1 }; reply = Some reply }

  -- The frame of a command whose first step was its last.
  abbrev pub one_step : Frame P PlainHeap → Frame P PlainHeap
  one_step f = record f { step_count = 1 }

  -- A turn that ends a command with its first step; its frame counts one step.
  abbrev pub ended_at_once : Reply → PoolCore P PlainHeap → RunningParty P → Turned P
  ended_at_once reply c p = ended_with reply c (record p { frame = one_step p.frame })

  -- the reply to a request that was granted; no command asks for a memory or a table by itself, or for a heap over a memory
  abbrev pub granted_reply : Grant P PlainHeap → Reply
  granted_reply (instance lease) = Instance (map (λ l. l.index) lease.memories.items) (map (λ l. l.index) lease.tables.items)
  granted_reply component = Component
  granted_reply (one_memory lease) = Done
  granted_reply (one_table lease) = Done
  granted_reply (stack lease) = Stack lease.stack.index
  granted_reply (heap lease memory) = Heap lease.index memory.index
  granted_reply (heap_over lease) = Done

  -- a call's answer, as the party takes it
  abbrev pub answered : Option (Outcome P PlainHeap) → PoolCore P PlainHeap → RunningParty P → Turned P
  answered None c p = record { core = c; party = p; reply = None }
  answered (Some answer.Key) c p = record { core = c; party = record p { keyed = true }; reply = None }
  answered (Some (answer.Granted grant)) c p = ended_with (granted_reply grant) c (record p { live = slice_set p.live p.done (Some grant) })
  answered (Some answer.Returned) c p = ended_with Returned c p
  answered (Some (answer.Purged n)) c p = ended_with (Purged n) c p
  answered (Some (answer.Released n)) c p = ended_with (Released n) c p
  answered (Some (answer.Refused e)) c p = ended_with (Refused (Alloc e)) c p

  -- the lists for the slots of what is asked for: its grant's reply takes them
  abbrev pub slots_after : Option (Outcome P PlainHeap) → SlotLists → SlotLists
  slots_after (Some (answer.Granted grant)) slots = no_lists
  slots_after _ slots = slots

  -- A turn that makes a step of the party's call, and takes its answer if it ended.
  abbrev pub after_step : After P PlainHeap → RunningParty P → Turned P
  after_step a p = answered a.outcome a.core (record p { frame = a.frame })

  -- a step of a call, where a limiter decides by this rule, and whose maker of heaps was in one state before and is in the other
  -- after
  abbrev pub StepsUnder : GrowthRule → ListedHeaps → ListedHeaps → PoolCore P PlainHeap → Frame P PlainHeap → After P PlainHeap → Type 0
  StepsUnder rule before after c f a =
      (asked : PartyTold) × (left : PartyTold) × (asked.limiter.rule ≡ Some rule) × StepsTo asked left c f a × (asked.heaps ≡ heaps_told before) × (left.heaps ≡ heaps_told after)

  -- the party's call makes its next step
  abbrev pub Steps : PoolCore P PlainHeap → RunningParty P → Turned P → Type 0
  Steps c p t = (a : After P PlainHeap) × StepsUnder (rule_of p.limits) p.heaps t.party.heaps c p.frame a × (t ≡ after_step a (record p { heaps = t.party.heaps }))

  -- A grant with table k's lease replaced.
  abbrev pub with_table_lease : ℕ → LeasedTable → Grant P PlainHeap → Grant P PlainHeap
  with_table_lease k l (instance lease) = instance (record lease { tables = record lease.tables { items = slice_set lease.tables.items k l } })
  with_table_lease k l grant = grant

  -- Where the tables' leases of a grant stand in it.
  abbrev pub table_leases : Objects (Grant P PlainHeap) LeasedTable
  table_leases = record { in_grant = tables_named; put_in = with_table_lease }

  -- what the host answers the party
  abbrev pub host_of_party : RunningParty P → Host
  host_of_party p = host_of p.limits p.store.failing p.heaps.failing

  -- A grant with memory k's lease replaced.
  abbrev pub with_lease : ℕ → Lease → Grant P PlainHeap → Grant P PlainHeap
  with_lease k l (instance lease) = instance (record lease { memories = record lease.memories { items = slice_set lease.memories.items k l } })
  with_lease k l (heap lease old) = heap lease (if k == 0 then l else old)
  with_lease k l grant = grant

  -- Where the memories' leases of a grant stand in it.
  abbrev pub memory_leases : Objects (Grant P PlainHeap) Lease
  memory_leases = record { in_grant = leases_named; put_in = with_lease }

  -- a call that takes none of the party's grants along, and the reply to which lists no slots; a heap's memory has pages of less
  -- than 2 ^ 64 bytes
  abbrev pub IsPlain : Call P PlainHeap → Type 0
  IsPlain (call.Module m) = ⊥
  IsPlain (call.GiveBack grant) = ⊥
  IsPlain (call.Memory m) = ⊥
  IsPlain (call.Table ty) = ⊥
  IsPlain (call.Heap ty) = ty.page_size_log2 < 64
  IsPlain (call.HeapOver memory) = ⊥
  IsPlain _ = Unit {0}

  -- The call asks for a grant.
  abbrev pub asks_grant : Call P PlainHeap → Bool
  asks_grant (call.Module m) = true
  asks_grant (call.Component info) = true
  asks_grant (call.Memory m) = true
  asks_grant (call.Table ty) = true
  asks_grant call.Stack = true
  asks_grant (call.Heap ty) = true
  asks_grant (call.HeapOver memory) = true
  asks_grant _ = false

  -- a stack is the only one of its grant
  abbrev pub stack_of : Grant P PlainHeap → List LeasedStack
  stack_of (stack lease) = lease ∷ []
  stack_of _ = []

  -- The heap of a grant, if it is one.
  abbrev pub heap_of : Grant P PlainHeap → List (LeasedHeap PlainHeap)
  heap_of (heap lease memory) = lease ∷ []
  heap_of (heap_over lease) = lease ∷ []
  heap_of _ = []

  -- A grant with its stack's lease replaced, if it is a stack.
  abbrev pub with_stack_lease : ℕ → LeasedStack → Grant P PlainHeap → Grant P PlainHeap
  with_stack_lease k l (stack lease) = stack l
  with_stack_lease k l grant = grant

  -- Where the stack's lease of a grant stands in it.
  abbrev pub stack_leases : Objects (Grant P PlainHeap) LeasedStack
  stack_leases = record { in_grant = stack_of; put_in = with_stack_lease }

  -- an operation on bytes of the grant of command `of`, where this is that grant
  abbrev pub MovesLeasedBytes : MemoryOp → GrowthRule → Option (Grant P PlainHeap) → ℕ → ℕ → List (Option (Grant P PlainHeap)) → Reply → List (Option (Grant P PlainHeap)) → Type 0
  MovesLeasedBytes op rule (Some (stack lease)) of k = MovesObject stack_leases (StackLeaseMoves op) of k
  MovesLeasedBytes op rule _ of k = MovesObject memory_leases (LeaseMoves op rule) of k

  -- A request for an instance: the module and its images are shared, and the reply's list is reserved, or the command ends at once for want
  -- of memory.
  abbrev pub OpensRequest : Option ModuleAsked → RunningParty P → Opening P → Type 0
  OpensRequest None p o = ⊥
  OpensRequest (Some kept) p o =
      (o ≡ replies (Refused (Alloc alloc.Memory)) p.live p.store) ⊎ (o ≡ makes_step (begun_call (call.Module kept) p.frame) p.live)

  -- a request for this, where these are the calls for the modules by number
  abbrev pub OpensWanted : List ModuleAsked → Wanted → RunningParty P → Opening P → Type 0
  OpensWanted modules (an_instance number) p o = OpensRequest (slice_get modules number) p o
  OpensWanted modules (a_component info) p o = o ≡ makes_step (begun_call (call.Component info) p.frame) p.live
  OpensWanted modules a_stack p o = o ≡ makes_step (begun_call call.Stack p.frame) p.live
  OpensWanted modules (a_heap limits) p o = o ≡ makes_step (begun_call (call.Heap (heap_type limits)) p.frame) p.live

  -- a grant that the party gives back is no longer one of its live ones
  abbrev pub drop_opening : Option (Grant P PlainHeap) → ℕ → RunningParty P → Opening P
  drop_opening None of p = replies (Refused NoSuchGrant) p.live p.store
  drop_opening (Some grant) of p = makes_step (begun_call (call.GiveBack grant) p.frame) (slice_set p.live of None)

  -- what a command opens with, where these are the calls for the modules by number
  abbrev pub OpensAct : List ModuleAsked → Act → RunningParty P → Opening P → Type 0
  OpensAct modules (requests wanted) p o = OpensWanted modules wanted p o
  OpensAct modules (on_memory of k op) p o =
      (reply : Reply) × (live : List (Option (Grant P PlainHeap))) × MovesLeasedBytes op (rule_of p.limits) (slice_index_or p.live of None) of k p.live reply live × (o ≡ replies reply live p.store)
  OpensAct modules (on_table of k op) p o =
      (reply : Reply) × (live : List (Option (Grant P PlainHeap))) × (store : ListedStore) × MovesObject table_leases (MovesTable op (rule_of p.limits) p.store store) of k p.live reply live
      × (object_at table_leases of k p.live ≡ None → store ≡ p.store) × (o ≡ replies reply live store)
  OpensAct modules (drops of) p o = o ≡ drop_opening (slice_index_or p.live of None) of p
  OpensAct modules (purges number) p o = o ≡ makes_step (begun_call (call.Purge (record { 0 = number })) p.frame) p.live
  OpensAct modules releases p o = o ≡ makes_step (begun_call call.Release p.frame) p.live

  -- the next command, if there is one; before its first the party draws its stripe
  abbrev pub OpensNext : List ModuleAsked → Option Command → Bool → RunningParty P → Opening P → Type 0
  OpensNext modules None keyed p o = o ≡ rests
  OpensNext modules (Some command) false p o = o ≡ makes_step (begun_call call.Key p.frame) p.live
  OpensNext modules (Some command) true p o = OpensAct modules (act_of command) p o

  -- the call that is under way goes on, or the next command begins
  abbrev pub OpensAt : Bool → List ModuleAsked → List Command → RunningParty P → Opening P → Type 0
  OpensAt true modules commands p o = OpensNext modules (slice_get commands p.done) p.keyed p o
  OpensAt false modules commands p o = o ≡ makes_step p.frame p.live

  -- what a turn leaves that opens so
  abbrev pub Leaves : Opening P → PoolCore P PlainHeap → RunningParty P → Turned P → Type 0
  Leaves rests c p t = t ≡ record { core = c; party = p; reply = None }
  Leaves (replies reply live store) c p t = t ≡ ended_at_once reply c (record p { live = live; store = store })
  Leaves (makes_step frame live) c p t = Steps c (record p { frame = frame; live = live }) t

  -- A turn opens with one of the openings that may come, and leaves what that leaves.
  abbrev pub TurnsFrom : (Opening P → Type 0) → PoolCore P PlainHeap → RunningParty P → Turned P → Type 0
  TurnsFrom Opens c p t = (o : Opening P) × Opens o × Leaves o c p t

  -- A turn of a party: the next step of its call, or the first step of its next command.
  abbrev pub Turns : List ModuleAsked → List Command → PoolCore P PlainHeap → RunningParty P → Turned P → Type 0
  Turns modules commands c p t = TurnsFrom (OpensAt (is_idle p.frame.phase) modules commands p) c p t

  -- What the beginning of a command leaves of a party, and what it leaves to do, by what it opens with.
  abbrev pub Begins : Opening P → RunningParty P → RunningParty P → Begun → Type 0
  Begins rests p q left = (q ≡ p) × (left ≡ begun.Rests)
  Begins (replies reply live store) p q left = (q ≡ record p { frame = one_step p.frame; live = live; store = store; done = p.done + 1 }) × (left ≡ begun.Replies reply)
  Begins (makes_step frame live) p q left = (q ≡ record p { frame = frame; live = live }) × (left ≡ begun.Calls)

  -- A command begins with one of the openings that may come.
  abbrev pub BeginsFrom : (Opening P → Type 0) → RunningParty P → RunningParty P → Begun → Type 0
  BeginsFrom Opens p q left = (o : Opening P) × Opens o × Begins o p q left
