-- Requests that nothing hinders: nobody else is in the middle of a call, and of all that a request needs enough is not live.
use Rattle.std.specs.Prelude.{ℕ, ◌+◌, ◌≤◌, ◌&&◌, List, length, sum_by, Bool, true, false, not}
use Rattle.pool_alloc.specs.Imports.{one_if, same_kind, has_number, Allocator, SlotKind, memory_kind, table_kind, stack_kind, heap_kind, AllocError}
use Rattle.pool_slots.specs.declared.errors.AllocError.TheVariants as refusal
use Rattle.pool_alloc.specs.Places.{Thing}
use Rattle.pool_alloc.specs.PoolAndHolders.{IsPartitioned, held_by_grant}
use Rattle.pool_alloc.specs.StepReads.{memories_wanted, tables_wanted, stacks_wanted, heaps_wanted, allocator_of}
use Rattle.pool_alloc.specs.Stepping.{grant_count, grant_instances, grant_components}
use Rattle.pool_alloc.specs.declared.frame.Asked.{Asked}
use Rattle.pool_alloc.specs.declared.frame.Asked.TheVariants.{Nothing as nothing_asked, Module as module_asked, Memory as memory_asked, Table as table_asked, Stack as stack_asked, Heap as heap_asked, HeapOver as heap_over_asked}
use Rattle.pool_alloc.specs.declared.frame.Call.{Call}
use Rattle.pool_alloc.specs.declared.frame.Call.TheVariants as call
use Rattle.pool_alloc.specs.declared.frame.Grant.{Grant}
use Rattle.pool_alloc.specs.declared.pool_core.PoolCore.{PoolCore}

-- The weight that counts the right to each slot of an allocator, and nothing else.
abbrev pub right_in : Allocator → Thing
right_in a u = one_if (not u.region && (same_kind a.kind u.kind && has_number a u.slot))

-- How many slots of a kind are needed for what is asked for.
abbrev pub slots_needed : SlotKind → Asked → ℕ
slots_needed memory_kind asked = length (memories_wanted asked)
slots_needed table_kind asked = length (tables_wanted asked)
slots_needed stack_kind asked = stacks_wanted asked
slots_needed heap_kind asked = heaps_wanted asked

-- The refusal says that there is no more of something: of slots, instances or components.
abbrev pub is_for_room : AllocError → Bool
is_for_room (refusal.Limit e) = true
is_for_room _ = false

module _ {P H : Type 0} where
  -- What a call asks for, if it is a request.
  abbrev pub asked_by : Call P H → Asked
  asked_by (call.Module m) = module_asked m
  asked_by (call.Memory m) = memory_asked m
  asked_by (call.Table ty) = table_asked ty
  asked_by call.Stack = stack_asked
  asked_by (call.Heap ty) = heap_asked ty
  asked_by (call.HeapOver memory) = heap_over_asked memory
  asked_by _ = nothing_asked

  -- The call asks for a grant.
  abbrev pub IsForGrant : Call P H → Type 0
  IsForGrant (call.Module m) = Unit {0}
  IsForGrant (call.Component info) = Unit {0}
  IsForGrant (call.Memory m) = Unit {0}
  IsForGrant (call.Table ty) = Unit {0}
  IsForGrant call.Stack = Unit {0}
  IsForGrant (call.Heap ty) = Unit {0}
  IsForGrant (call.HeapOver memory) = Unit {0}
  IsForGrant _ = ⊥

  -- A request for a module needs one instance, and no other call does.
  abbrev pub instances_needed : Call P H → ℕ
  instances_needed (call.Module m) = 1
  instances_needed _ = 0

  -- A request for a component needs one, and no other call does.
  abbrev pub components_needed : Call P H → ℕ
  components_needed (call.Component info) = 1
  components_needed _ = 0

  -- How many slots of an allocator these grants have.
  abbrev pub slots_live : Allocator → List (Grant P H) → ℕ
  slots_live a grants = sum_by (grant_count (right_in a)) grants

  -- Where these are the live grants, at least as many as a call needs are not live of the slots of each kind, which are those of
  -- one stripe for memories, and of the instances and the components that there may be.
  pub record LeavesEnough (c : PoolCore P H) (stripe : ℕ) (grants : List (Grant P H)) (asks : Call P H) : Type 0 where
    pub slots : (kind : SlotKind) → slots_live (allocator_of c.plan kind stripe) grants + slots_needed kind (asked_by asks) ≤ (allocator_of c.plan kind stripe).capacity
    pub instances : sum_by grant_instances grants + instances_needed asks ≤ c.settings.max_core_instances
    pub components : sum_by grant_components grants + components_needed asks ≤ c.settings.max_component_instances

  -- Nobody is in the middle of a call: all that the pool has given out is in a queue or in one of these live grants.
  abbrev pub NobodyCalls : PoolCore P H → List (Grant P H) → Type 0
  NobodyCalls c grants = IsPartitioned held_by_grant c grants

  -- A call that a party with memories of this stripe is about to make has all the room that it needs.
  pub record HasAllItNeeds (c : PoolCore P H) (stripe : ℕ) (asks : Call P H) : Type 0 where
    pub grants : List (Grant P H)
    pub nobody : NobodyCalls c grants
    pub enough : LeavesEnough c stripe grants asks
