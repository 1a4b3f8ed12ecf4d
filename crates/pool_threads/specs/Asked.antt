-- What a party asked for, and what of that it was refused for want of room: by its commands and their replies alone.
use Rattle.std.specs.Prelude.{ℕ, ◌+◌, ◌-◌, Bool, true, false, List, [], ◌∷◌, slice_get, Option, Some, None}
use Rattle.std.specs.Option.{option_map_or}
use Rattle.pool_hall.specs.Sum.{one_if}
use Rattle.pool_hall.specs.declared.unit_name.SlotKind.{SlotKind}
use Rattle.pool_hall.specs.declared.unit_name.SlotKind.TheVariants.{Memory as memory_kind, Table as table_kind, Stack as stack_kind, Heap as heap_kind}
use Rattle.pool_slots.specs.SlotQueues.{same_kind}
use Rattle.pool_slots.specs.declared.errors.AllocError.TheVariants.{Limit, PageFault}
use Rattle.pool_slots.specs.declared.errors.ConcurrencyKind.{ConcurrencyKind}
use Rattle.pool_slots.specs.declared.errors.ConcurrencyKind.TheVariants.{CoreInstances, ComponentInstances, MemoryStripe, Tables, Fibers, GcHeaps}
use Rattle.pool_alloc.specs.PlainModules.{ModuleAsked}
use Rattle.pool_alloc.specs.declared.frame.Asked.{Asked}
use Rattle.pool_alloc.specs.declared.frame.Asked.TheVariants.{Module as module_asked, Stack as stack_asked, Heap as heap_asked}
use Rattle.pool_driver.specs.Calling.{modules_asked}
use Rattle.pool_driver.specs.Spending.{wanted_of}
use Rattle.pool_run.specs.Acts.{Act, requests, act_of, Wanted, an_instance, a_component, a_stack, a_heap, heap_type}
use Rattle.pool_run.specs.declared.command.Command.{Command}
use Rattle.pool_run.specs.declared.reply.Reply.{Reply}
use Rattle.pool_run.specs.declared.reply.Reply.TheVariants.{Refused}
use Rattle.pool_run.specs.declared.reply.Refusal.TheVariants.{Alloc}

-- What there may be only so many of: slots of a kind, instances, and components.
pub data Scarce : Type 0 where
  slots : SlotKind → Scarce
  instances : Scarce
  components : Scarce

abbrev pub same_scarce : Scarce → Scarce → Bool
same_scarce (slots kind) (slots other) = same_kind kind other
same_scarce instances instances = true
same_scarce components components = true
same_scarce _ _ = false

-- What a limit is a limit of.
abbrev pub scarce_of : ConcurrencyKind → Scarce
scarce_of CoreInstances = instances
scarce_of ComponentInstances = components
scarce_of (MemoryStripe i) = slots memory_kind
scarce_of Tables = slots table_kind
scarce_of Fibers = slots stack_kind
scarce_of GcHeaps = slots heap_kind

-- How many of it a call asks for, by what it asks for objects.
abbrev pub objects_asked : Scarce → Asked → ℕ
objects_asked (slots kind) what = wanted_of kind what
objects_asked instances what = modules_asked what
objects_asked components what = 0

-- 1 of components.
abbrev pub one_component : Scarce → ℕ
one_component (slots kind) = 0
one_component instances = 0
one_component components = 1

-- How many of it a request asks for. A heap's memory is a memory.
abbrev pub asked_with : Scarce → List ModuleAsked → Wanted → ℕ
asked_with k modules (an_instance number) = option_map_or (λ (m : ModuleAsked). objects_asked k (module_asked m)) (slice_get modules number) 0
asked_with k modules (a_component info) = one_component k
asked_with k modules a_stack = objects_asked k stack_asked
asked_with k modules (a_heap limits) = objects_asked k (heap_asked (heap_type limits))

-- How many of it a command asks for: none, where it is no request.
abbrev pub asked_by : Scarce → List ModuleAsked → Act → ℕ
asked_by k modules (requests wanted) = asked_with k modules wanted
asked_by k modules _ = 0

-- How many of it a party asks for next: none before it has drawn its stripe.
abbrev pub asked_next : Scarce → List ModuleAsked → Bool → Option Command → ℕ
asked_next k modules keyed None = 0
asked_next k modules false (Some command) = 0
asked_next k modules true (Some command) = asked_by k modules (act_of command)

-- 1 where the reply refuses a request for want of it.
abbrev pub refused_for : Scarce → Reply → ℕ
refused_for k (Refused (Alloc (Limit l))) = one_if (same_scarce k (scarce_of l.kind))
refused_for k _ = 0

-- 1 where the reply refuses a request for a failed page call.
abbrev pub faulted_for : Reply → ℕ
faulted_for (Refused (Alloc PageFault)) = 1
faulted_for _ = 0

-- The same of a command and its reply: only a request is refused.
abbrev pub refused_by : Scarce → Act → Reply → ℕ
refused_by k (requests wanted) reply = refused_for k reply
refused_by k _ reply = 0

abbrev pub faulted_by : Act → Reply → ℕ
faulted_by (requests wanted) reply = faulted_for reply
faulted_by _ reply = 0

-- How many of it a command asks for that has this reply: one fewer where it was refused for want of it.
abbrev pub asked_at : Scarce → List ModuleAsked → Act → Reply → ℕ
asked_at k modules act reply = asked_by k modules act - refused_by k act reply

-- What a number of a command and its reply is, where there is a next command.
abbrev pub at_next : (Act → Reply → ℕ) → Option Command → Reply → ℕ
at_next f None reply = 0
at_next f (Some command) reply = f (act_of command) reply

-- What it comes to over all commands that have a reply.
abbrev pub over_replies : (Act → Reply → ℕ) → List Command → List Reply → ℕ
over_replies f [] replies = 0
over_replies f (command ∷ commands) [] = 0
over_replies f (command ∷ commands) (reply ∷ replies) = f (act_of command) reply + over_replies f commands replies

-- How many of it the commands that have a reply ask for.
abbrev pub asked : Scarce → List ModuleAsked → List Command → List Reply → ℕ
asked k modules commands replies = over_replies (asked_at k modules) commands replies

-- How many of the requests that have a reply are refused for want of it, or for a failed page call.
abbrev pub refused : Scarce → List Command → List Reply → ℕ
refused k commands replies = over_replies (refused_by k) commands replies

abbrev pub faulted : List Command → List Reply → ℕ
faulted commands replies = over_replies faulted_by commands replies

-- The same of a reply that may not have come yet.
abbrev pub refused_in : Scarce → Option Reply → ℕ
refused_in k None = 0
refused_in k (Some reply) = refused_for k reply

abbrev pub faulted_in : Option Reply → ℕ
faulted_in None = 0
faulted_in (Some reply) = faulted_for reply
