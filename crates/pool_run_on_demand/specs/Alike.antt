-- A pool and an allocator on demand give the same replies to the commands on a grant that both gave, but for what they have
-- room or memory for.
use Rattle.std.specs.Prelude.{◌≡◌, ◌≢◌, ℕ, ◌%◌, List, [], ◌∷◌, length, slice_get, true, Option, Some, option_map}
use Rattle.pool_run_on_demand.specs.Imports.{AllByRecursion, minimum_byte_size, no_slot, MemoryWant, MemoryOp, grows, TableOp, lengthens, Wanted, an_instance, a_component, a_stack, a_heap, heap_type, MovesNamed, PrivateStack, BeginsStack, StackMoves, StoredTable, TableMoves, PrivateMemory, PrivateGrant, instance_grant, component_grant, stack_grant, heap_grant, memories_named_in, put_memory, tables_named_in, put_table, put_stack, MemoryMoves, Terms, request_of, begun_instance, begun_memory, heap_memory, Reply, Grown, Refused, Alloc}
use Rattle.pool_slots.specs.declared.errors.AllocError.TheVariants as alloc
use Rattle.pool_run_on_demand.specs.OnDemand.{MovesOnDemand, TableMovesOnDemand, made_instance, made_memory, heap_terms, request_on_demand}

-- an operation on bytes of a grant, which are those of the memory in this place or of its stack, or on the table in this place
pub data OnObject : Type 0 where
  bytes_in : ℕ → MemoryOp → OnObject
  table_in : ℕ → TableOp → OnObject

-- a grant, and how often its party's store was called so far
pub record GrantStored : Type 0 where
  pub grant : PrivateGrant
  pub calls : ℕ

-- Table k of a grant, beside the calls on the store.
abbrev pub stored_table : ℕ → GrantStored → Option StoredTable
stored_table k s = option_map (λ t. record { table = t; calls = s.calls }) (slice_get (tables_named_in s.grant) k)

-- A grant with its table k replaced, and the calls on the store that came with that.
abbrev pub put_stored : ℕ → StoredTable → GrantStored → GrantStored
put_stored k t s = record { grant = put_table k t.table s.grant; calls = t.calls }

-- what memories and tables do by one of the allocators
module _ (OnMemory : MemoryOp → PrivateMemory → PrivateMemory → Reply → Type 0) (OnTable : TableOp → StoredTable → StoredTable → Reply → Type 0) where
  -- what the grant is after an operation on its bytes, and the reply; where nothing is in the place, it is refused
  abbrev pub DoesBytes : ℕ → MemoryOp → PrivateGrant → Reply → PrivateGrant → Type 0
  DoesBytes k op (stack_grant s) reply new = MovesNamed (StackMoves op) (slice_get (s ∷ []) k) (put_stack k) (stack_grant s) reply new
  DoesBytes k op grant reply new = MovesNamed (OnMemory op) (slice_get (memories_named_in grant) k) (put_memory k) grant reply new

  -- What an operation on a grant answers and leaves, with the calls on the store; by one of the two allocators.
  abbrev pub Does : OnObject → GrantStored → Reply → GrantStored → Type 0
  Does (bytes_in k op) s reply new = DoesBytes k op s.grant reply new.grant × (new.calls ≡ s.calls)
  Does (table_in k op) s reply new = MovesNamed (OnTable op) (stored_table k s) (put_stored k) s reply new

  -- operations on one grant, and the replies to them
  abbrev pub OpsOn : List OnObject → GrantStored → List Reply → Type 0
  OpsOn [] s replies = replies ≡ []
  OpsOn (on ∷ ops) s [] = ⊥
  OpsOn (on ∷ ops) s (reply ∷ replies) = (new : GrantStored) × (Does on s reply new × OpsOn ops new replies)

-- a growth was granted, and nothing else found no memory
abbrev pub IsServed : OnObject → Reply → Type 0
IsServed (bytes_in k (grows pages)) reply = (size : ℕ) × (reply ≡ Grown (Some size))
IsServed (table_in k (lengthens by)) reply = (size : ℕ) × (reply ≡ Grown (Some size))
IsServed on reply = reply ≢ Refused (Alloc alloc.Memory)

-- Of these operations each growth was granted, and nothing else found no memory.
abbrev pub AreServed : List OnObject → List Reply → Type 0
AreServed [] replies = Unit {0}
AreServed (on ∷ ops) [] = Unit {0}
AreServed (on ∷ ops) (reply ∷ replies) = IsServed on reply × AreServed ops replies

-- a memory of whole pages, which takes its image wherever it is made
abbrev pub HasWholePages : ℕ → MemoryWant → Type 0
HasWholePages page want = minimum_byte_size want.decl.ty % page ≡ 0

-- Both gave a grant for this: the pool with whatever slots. An instance has memories of whole pages; a stack is zeroed.
abbrev pub BothGive : Terms → Wanted → PrivateGrant → PrivateGrant → Type 0
BothGive t (an_instance number) pooled made =
    (memories : List ℕ) × ((tables : List ℕ) × ((length memories ≡ length (request_of t number).memories) × ((length tables ≡ length (request_of t number).tables)
    × (AllByRecursion (HasWholePages t.settings.page) (request_of t number).memories
    × ((pooled ≡ instance_grant (begun_instance t (request_of t number) memories tables)) × (made ≡ instance_grant (made_instance t (request_on_demand t number))))))))
BothGive t (a_component info) pooled made = (pooled ≡ component_grant) × (made ≡ component_grant)
BothGive t a_stack pooled made =
    (t.stacks.zeroing ≡ true)
    × ((slot : ℕ) × ((s : PrivateStack) × ((z : PrivateStack) × (BeginsStack t.stacks t.tells slot s × (BeginsStack t.stacks t.tells no_slot z × ((pooled ≡ stack_grant s) × (made ≡ stack_grant z)))))))
BothGive t (a_heap limits) pooled made =
    (slot : ℕ) × ((memory : ℕ) × ((pooled ≡ heap_grant slot (begun_memory t memory (heap_memory (heap_type limits)))) × (made ≡ heap_grant no_slot (made_memory (heap_terms t) (heap_memory (heap_type limits))))))

-- Where both gave a grant for the same, whose contents are told, and served the same operations on it after as many calls on
-- the party's store, the replies are the same.
abbrev pub AllocatorsAgree : Type 0
AllocatorsAgree =
    (t : Terms) (wanted : Wanted) (grant other : PrivateGrant) (calls : ℕ) (ops : List OnObject) (pooled made : List Reply) → t.tells ≡ true → BothGive t wanted grant other → OpsOn (λ op. MemoryMoves op t.host.rule) (λ op. TableMoves op t.host) ops (record { grant = grant; calls = calls }) pooled
    → OpsOn (λ op. MovesOnDemand op t.host.rule) (λ op. TableMovesOnDemand op t.host) ops (record { grant = other; calls = calls }) made → AreServed ops pooled → AreServed ops made → pooled ≡ made
