-- When a request is refused for room, by stripe: where a party is alone, exactly where it is short of something.
use Rattle.std.specs.Prelude.{◌≡◌, ◌↔◌, ℕ, ◌+◌, ◌%◌, ◌<◌, List, All, Bool, true, false}
use Rattle.pool_alloc.specs.UnhinderedRequests.{is_for_room}
use Rattle.pool_slots.specs.declared.errors.AllocError.TheVariants as alloc
use Rattle.pool_run.specs.Imports.{ConcurrencyKind, ComponentInstances, CoreInstances, Fibers, GcHeaps, MemoryStripe, Tables}
use Rattle.pool_run.specs.Acts.{Act, requests, act_of, Wanted}
use Rattle.pool_run.specs.Needs.{stripe_count, memories_needed, tables_needed, stacks_needed, heaps_needed, instances_needed, components_needed, MayBeGranted}
use Rattle.pool_run.specs.Private.{Grants, PrivateState, StepsBy, stripe_slots, with_grants, no_grants}
use Rattle.pool_run.specs.Rooms.{World, PooledStep, table_count, stack_count, heap_count, instance_count, component_count}
use Rattle.pool_run.specs.declared.command.Command.{Command}
use Rattle.pool_run.specs.declared.reply.Reply.{Reply}
use Rattle.pool_run.specs.declared.reply.Reply.TheVariants.{Instance, Heap, Refused}
use Rattle.pool_run.specs.declared.reply.Refusal.TheVariants.{Alloc}

-- Of something the request needs some, and more than are not live, where so many are and there are so many. For one object: all
-- that there are are live.
pub record IsTooMuch (needed live total : ℕ) : Type 0 where
  pub some : 0 < needed
  pub more : total < live + needed

-- The request is short of this: of slots for memories in the party's stripe, of slots of another kind, of instances or of
-- components. What is live are the party's own grants.
abbrev pub IsShortOf : World → Wanted → Grants → ConcurrencyKind → Type 0
IsShortOf w wanted grants (MemoryStripe s) = (s ≡ w.terms.stripe) × IsTooMuch (memories_needed w.terms.modules wanted) (stripe_count w.terms.settings.num_stripes w.terms.stripe grants) (stripe_slots w.terms)
IsShortOf w wanted grants Tables = IsTooMuch (tables_needed w.terms.modules wanted) (table_count grants) w.terms.table_slots
IsShortOf w wanted grants Fibers = IsTooMuch (stacks_needed wanted) (stack_count grants) w.terms.stacks.slots
IsShortOf w wanted grants GcHeaps = IsTooMuch (heaps_needed wanted) (heap_count grants) w.terms.heap_slots
IsShortOf w wanted grants CoreInstances = IsTooMuch (instances_needed wanted) (instance_count grants) w.terms.settings.max_core_instances
IsShortOf w wanted grants ComponentInstances = IsTooMuch (components_needed wanted) (component_count grants) w.terms.settings.max_component_instances

-- The request is short of something.
abbrev pub IsShort : World → Wanted → Grants → Type 0
IsShort w wanted grants = (kind : ConcurrencyKind) × IsShortOf w wanted grants kind

-- The reply is a refusal for room.
abbrev pub refuses_for_room : Reply → Bool
refuses_for_room (Refused (Alloc e)) = is_for_room e
refuses_for_room _ = false

-- Where the reply is a refusal for room, this holds of what it names.
abbrev pub IfForRoom : Reply → (ConcurrencyKind → Type 0) → Type 0
IfForRoom (Refused (Alloc (alloc.Limit e))) Of = Of e.kind
IfForRoom _ Of = Unit {0}

-- The reply is that there was no memory for the request, or that a page call or the making of its heap failed.
abbrev pub met_fault : Reply → Bool
met_fault (Refused (Alloc alloc.Memory)) = true
met_fault (Refused (Alloc alloc.PageFault)) = true
met_fault (Refused (Alloc alloc.HeapFault)) = true
met_fault _ = false

-- The reply is a refusal.
abbrev pub is_refusal : Reply → Bool
is_refusal (Refused refusal) = true
is_refusal _ = false

-- The memories that the reply grants have slots of this stripe, of so many.
abbrev pub LieInStripe : ℕ → ℕ → Reply → Type 0
LieInStripe stripes stripe (Instance memories tables) = All (λ slot. slot % stripes ≡ stripe) memories
LieInStripe stripes stripe (Heap heap memory) = memory % stripes ≡ stripe
LieInStripe stripes stripe _ = Unit {0}

-- What the reply to a request tells of room. What is granted lies in the party's stripe, and the party's own grants leave room for
-- it, of each kind. A party that is alone is refused for room exactly where its request is short of something, if the request breaks
-- no rule, isn't denied, and meets no want of memory and no fault; and whatever it meets, it is short of what the refusal names.
pub record TellsExactly (w : World) (wanted : Wanted) (grants : Grants) (reply : Reply) : Type 0 where
  pub in_stripe : LieInStripe w.terms.settings.num_stripes w.terms.stripe reply
  pub granted : is_refusal reply ≡ false → IsShort w wanted grants → ⊥
  pub named : w.alone ≡ true → IfForRoom reply (IsShortOf w wanted grants)
  pub exactly : w.alone ≡ true → MayBeGranted w.terms wanted → met_fault reply ≡ false → (refuses_for_room reply ≡ true) ↔ IsShort w wanted grants

-- What the reply to a command tells so: only that to a request tells something.
abbrev pub TellsExactlyOf : World → Act → Grants → Reply → Type 0
TellsExactlyOf w (requests wanted) grants reply = TellsExactly w wanted grants reply
TellsExactlyOf w _ grants reply = Unit {0}

-- A step of a private run that tells of the pool, and exactly of room.
pub record ExactStep (w : World) (n : ℕ) (s : PrivateState) (command : Command) (reply : Reply) (new : PrivateState) : Type 0 where
  pub pooled : PooledStep w n s command reply new
  pub room : TellsExactlyOf w (act_of command) s.grants reply

-- The replies are those of a run of such steps.
abbrev pub IsExactRun : World → List Command → List Reply → Type 0
IsExactRun w commands replies = (end : PrivateState) × StepsBy (ExactStep w) 0 commands replies (with_grants (no_grants commands)) end
