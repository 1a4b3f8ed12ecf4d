-- Which limit a refusal names: a number that the pool has, by its settings and its plan.
use Rattle.std.specs.Prelude.{◌≡◌, ℕ}
use Rattle.pool_hall.specs.declared.unit_name.SlotKind.TheVariants.{Memory as memory_kind, Table as table_kind, Stack as stack_kind, Heap as heap_kind}
use Rattle.pool_slots.specs.declared.errors.AllocError.{AllocError}
use Rattle.pool_slots.specs.declared.errors.AllocError.TheVariants.{Limit}
use Rattle.pool_slots.specs.declared.errors.ConcurrencyKind.{ConcurrencyKind}
use Rattle.pool_slots.specs.declared.errors.ConcurrencyKind.TheVariants.{CoreInstances, ComponentInstances, MemoryStripe, Tables, Fibers, GcHeaps}
use Rattle.pool_slots.specs.declared.plan.Plan.{Plan}
use Rattle.pool_alloc.specs.CallStages.{Stage, refusing}
use Rattle.pool_alloc.specs.StepReads.{allocator_of}
use Rattle.pool_alloc.specs.declared.frame.Outcome.{Outcome}
use Rattle.pool_alloc.specs.declared.frame.Outcome.TheVariants.{Key, Refused}
use Rattle.pool_alloc.specs.declared.pool_core.Settings.{Settings}

-- How many a pool may have: as many instances and components as its settings say, and as many memories of a stripe, tables, stacks and
-- heaps as their allocator has slots by its plan.
abbrev pub most_of : Settings → Plan → ConcurrencyKind → ℕ
most_of s plan CoreInstances = s.max_core_instances
most_of s plan ComponentInstances = s.max_component_instances
most_of s plan (MemoryStripe i) = (allocator_of plan memory_kind i).capacity
most_of s plan Tables = (allocator_of plan table_kind 0).capacity
most_of s plan Fibers = (allocator_of plan stack_kind 0).capacity
most_of s plan GcHeaps = (allocator_of plan heap_kind 0).capacity

-- A refusal by a limit names how many the pool may have of what it is refused for.
abbrev pub NamesLimit : Settings → Plan → AllocError → Type 0
NamesLimit s plan (Limit l) = l.limit ≡ most_of s plan l.kind
NamesLimit s plan _ = Unit {0}

-- What is refused is no memory, or one of this stripe.
abbrev pub IsOfStripe : ℕ → ConcurrencyKind → Type 0
IsOfStripe stripe (MemoryStripe i) = i ≡ stripe
IsOfStripe stripe _ = Unit {0}

-- A refusal for want of a memory names this stripe.
abbrev pub NamesStripe : ℕ → AllocError → Type 0
NamesStripe stripe (Limit l) = IsOfStripe stripe l.kind
NamesStripe stripe _ = Unit {0}

-- Both: what a refusal names, to a frame of this stripe.
abbrev pub Names : Settings → Plan → ℕ → AllocError → Type 0
Names s plan stripe e = NamesLimit s plan e × NamesStripe stripe e

-- What is so of the refusal that a call is to end with, if it is,
abbrev pub IfRefusing : (AllocError → Type 0) → Stage → Type 0
IfRefusing Q (refusing e) = Q e
IfRefusing Q _ = Unit {0}

-- or that it has ended with.
abbrev pub IfRefused : {P H : Type 0} → (AllocError → Type 0) → Outcome P H → Type 0
IfRefused Q (Refused e) = Q e
IfRefused Q _ = Unit {0}

-- A call leaves its frame's stripe, but one that draws a key.
abbrev pub KeepsStripe : {P H : Type 0} → Outcome P H → ℕ → ℕ → Type 0
KeepsStripe Key old new = Unit {0}
KeepsStripe _ old new = new ≡ old
