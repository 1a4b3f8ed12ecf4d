-- What of a run is counted: its steps, the requests among its commands, and the refusals by their causes.
use Rattle.std.specs.Prelude.{◌≡◌, ℕ, ◌-◌, ◌^◌, ◌==◌, List, min, length, slice_get, Bool, true, false, if◌then◌else◌, Option, Some, None}
use Rattle.std.specs.List.{count_by}
use Rattle.pool_types.specs.Rising.{risen}
use Rattle.pool_slots.specs.declared.errors.AllocError.TheVariants as alloc
use Rattle.pool_run.specs.Progress.{commands_done}
use Rattle.pool_run.specs.Watching.{TurnTold}
use Rattle.pool_run.specs.declared.command.Command.{Command}
use Rattle.pool_run.specs.declared.command.Command.TheVariants.{Instantiate, Component, Stack, Heap}
use Rattle.pool_run.specs.declared.input.Input.{Input}
use Rattle.pool_run.specs.declared.reply.Refusal.{Refusal}
use Rattle.pool_run.specs.declared.reply.Refusal.TheVariants.{NoSuchGrant, GcStoreFault, Alloc}
use Rattle.pool_run.specs.declared.reply.Reply.{Reply}
use Rattle.pool_run.specs.declared.reply.Reply.TheVariants.{Refused}
use Rattle.pool_run.specs.declared.running_party.RunningParty.{RunningParty}
use Rattle.pool_view_steps.specs.Commands.{command_of}
use Rattle.pool_view_summary.specs.declared.counts.Cause.{Cause}
use Rattle.pool_view_summary.specs.declared.counts.Cause.TheVariants as cause
use Rattle.pool_view_summary.specs.declared.counts.Counts.{Counts}
use Rattle.pool_view_summary.specs.declared.counts.Refusals.{Refusals}

-- The cause as which a refusal is counted: whatever there is no room for is one cause, and whatever rule is broken.
abbrev pub cause_of : Refusal → Cause
cause_of NoSuchGrant = cause.NoSuchGrant
cause_of GcStoreFault = cause.GcStoreFault
cause_of (Alloc alloc.Memory) = cause.NoMemory
cause_of (Alloc (alloc.Unsupported rule)) = cause.Unsupported
cause_of (Alloc (alloc.Limit limit)) = cause.Limit
cause_of (Alloc alloc.StacksDisabled) = cause.StacksDisabled
cause_of (Alloc alloc.HeapsDisabled) = cause.HeapsDisabled
cause_of (Alloc (alloc.LimiterDenied table least)) = cause.LimiterDenied
cause_of (Alloc (alloc.LimiterFault fault)) = cause.LimiterFault
cause_of (Alloc alloc.PageFault) = cause.PageFault
cause_of (Alloc alloc.HeapFault) = cause.HeapFault

-- How many were refused for a cause.
abbrev pub count_for : Cause → Refusals → ℕ
count_for cause.NoSuchGrant r = r.no_such_grant
count_for cause.GcStoreFault r = r.gc_store_fault
count_for cause.NoMemory r = r.no_memory
count_for cause.Unsupported r = r.unsupported
count_for cause.Limit r = r.limit
count_for cause.StacksDisabled r = r.stacks_disabled
count_for cause.HeapsDisabled r = r.heaps_disabled
count_for cause.LimiterDenied r = r.limiter_denied
count_for cause.LimiterFault r = r.limiter_fault
count_for cause.PageFault r = r.page_fault
count_for cause.HeapFault r = r.heap_fault

-- One more was refused for this cause.
abbrev pub refused_with : Cause → Refusals → Refusals
refused_with cause.NoSuchGrant r = record r { no_such_grant = risen r.no_such_grant }
refused_with cause.GcStoreFault r = record r { gc_store_fault = risen r.gc_store_fault }
refused_with cause.NoMemory r = record r { no_memory = risen r.no_memory }
refused_with cause.Unsupported r = record r { unsupported = risen r.unsupported }
refused_with cause.Limit r = record r { limit = risen r.limit }
refused_with cause.StacksDisabled r = record r { stacks_disabled = risen r.stacks_disabled }
refused_with cause.HeapsDisabled r = record r { heaps_disabled = risen r.heaps_disabled }
refused_with cause.LimiterDenied r = record r { limiter_denied = risen r.limiter_denied }
refused_with cause.LimiterFault r = record r { limiter_fault = risen r.limiter_fault }
refused_with cause.PageFault r = record r { page_fault = risen r.page_fault }
refused_with cause.HeapFault r = record r { heap_fault = risen r.heap_fault }

-- The refusals with this reply, if it is one.
abbrev pub refused_more : Option Reply → Refusals → Refusals
refused_more (Some (Refused refusal)) r = refused_with (cause_of refusal) r
refused_more _ r = r

-- The command asks for a grant.
abbrev pub asks_grant : Command → Bool
asks_grant (Instantiate module_number) = true
asks_grant (Component core_instances memories tables core_bytes own_bytes) = true
asks_grant Stack = true
asks_grant (Heap least most) = true
asks_grant _ = false

-- there is a command, and it asks for a grant
abbrev pub asks_if : Option Command → Bool
asks_if None = false
asks_if (Some command) = asks_grant command

-- The last of so many commands of a party, if there is one.
abbrev pub last_of : Input → ℕ → ℕ → Option Command
last_of input i n = if n == 0 then None else command_of input i (n - 1)

-- The last command of a party that has its reply.
abbrev pub command_ended : {P : Type 0} → Input → ℕ → List (RunningParty P) → Option Command
command_ended input i parties = last_of input i (commands_done (slice_get parties i))

-- A turn brought the reply to a request.
abbrev pub ends_with : {P : Type 0} → Input → ℕ → List (RunningParty P) → Option Reply → Bool
ends_with input i parties None = false
ends_with input i parties (Some reply) = asks_if (command_ended input i parties)

abbrev pub ends_request : {P : Type 0} → Input → TurnTold P → Bool
ends_request input t = ends_with input t.party t.run.parties t.reply

-- The reply is a refusal for this cause.
abbrev pub is_for : Cause → Cause → Bool
is_for cause.NoSuchGrant cause.NoSuchGrant = true
is_for cause.GcStoreFault cause.GcStoreFault = true
is_for cause.NoMemory cause.NoMemory = true
is_for cause.Unsupported cause.Unsupported = true
is_for cause.Limit cause.Limit = true
is_for cause.StacksDisabled cause.StacksDisabled = true
is_for cause.HeapsDisabled cause.HeapsDisabled = true
is_for cause.LimiterDenied cause.LimiterDenied = true
is_for cause.LimiterFault cause.LimiterFault = true
is_for cause.PageFault cause.PageFault = true
is_for cause.HeapFault cause.HeapFault = true
is_for _ _ = false

abbrev pub refuses_for : Cause → Option Reply → Bool
refuses_for c (Some (Refused refusal)) = is_for c (cause_of refusal)
refuses_for c _ = false

-- Nothing is counted.
abbrev pub no_counts : Counts
no_counts = record {
  steps = 0;
  requests = 0;
  refusals = record { no_such_grant = 0; gc_store_fault = 0; no_memory = 0; unsupported = 0; limit = 0; stacks_disabled = 0; heaps_disabled = 0; limiter_denied = 0; limiter_fault = 0; page_fault = 0; heap_fault = 0 };
}

-- What is counted with a turn more.
abbrev pub counted : {P : Type 0} → Input → TurnTold P → Counts → Counts
counted input t c = record {
  steps = risen c.steps;
  requests = if ends_request input t then risen c.requests else c.requests;
  refusals = refused_more t.reply c.refusals;
}

-- A number, or the greatest that a count holds.
abbrev pub at_most : ℕ → ℕ
at_most n = min n (2 ^ 64 - 1)

-- The counts are those of these turns: how many there are, how many of them brought the reply to a request, and how many a refusal
-- for each cause.
pub record CountTurns {P : Type 0} (input : Input) (told : List (TurnTold P)) (c : Counts) : Type 0 where
  pub steps : c.steps ≡ at_most (length told)
  pub requests : c.requests ≡ at_most (count_by (ends_request input) told)
  pub refusals : (why : Cause) → count_for why c.refusals ≡ at_most (count_by (λ t. refuses_for why t.reply) told)
