-- What the calls on a shared memory do for an event, and how they count failed calls on its pages. These are the contracts of
-- private functions: what a run promises stands in `SharedEvents` and `SharedRuns`.
use Rattle.std.specs.Prelude.{◌≡◌, ℕ, ◌+◌, ◌-◌, ◌^◌, ◌<◌, ◌≤◌, ◌==◌, List, length, nat_lt, Bool, true, false, if◌then◌else◌, Option, Some, None, IfSome, Result, Ok, Err}
use Rattle.std.specs.List.{filter, list_any}
use Rattle.pool_pages.specs.MakerTold.{MakerTold, plan_for}
use Rattle.pool_types.specs.MemoryTypes.{page_size}
use Rattle.pool_pages.specs.declared.maker.MakeFault.TheVariants as making
use Rattle.pool_limits.specs.declared.errors.GrowFault.{GrowFault}
use Rattle.pool_limits.specs.declared.errors.Trap.{Trap as TrapCause}
use Rattle.pool_memory.specs.Linear.{Storage, in_slot, stored}
use Rattle.pool_memory.specs.declared.memory_error.MemoryError.{MemoryError}
use Rattle.pool_memory.specs.declared.memory_error.MemoryError.TheVariants as refused
use Rattle.pool_memory.specs.Memories.{MemoryState, slot_of, bytes_of}
use Rattle.pool_memory.specs.Moving.{IsMadeFor, IsRefusedFor, next_name}
use Rattle.pool_shared.specs.Shared.{Shared}
use Rattle.pool_shared.specs.Spot.{is_waiting}
use Rattle.pool_shared.specs.declared.waiting.Waiting.{Waiting}
use Rattle.pool_shared.specs.declared.wait_fault.WaitFault.{WaitFault}
use Rattle.pool_shared.specs.declared.wait_fault.WaitFault.TheVariants as fault
use Rattle.pool_shared.specs.declared.wait_step.WaitStep.{WaitStep}
use Rattle.pool_run_shared.specs.Events.{Happens, view_of}
use Rattle.pool_run_shared.specs.Runs.{Happen, count_true, first_size, first_view, shared_layout}
use Rattle.pool_run.specs.declared.reply.Reply.{Reply}
use Rattle.pool_run.specs.declared.reply.Reply.TheVariants as reply
use Rattle.pool_run.specs.declared.output.RunFault.{RunFault}
use Rattle.pool_run.specs.declared.output.RunFault.TheVariants as run
use Rattle.pool_run_shared.specs.declared.input.SharedEvent.{SharedEvent}
use Rattle.pool_run_shared.specs.declared.input.SharedInput.{SharedInput}
use Rattle.pool_run_shared.specs.declared.reply.SharedReply.{SharedReply}
use Rattle.pool_run_shared.specs.declared.reply.SharedReply.TheVariants as answer

-- why a wait doesn't begin, whatever its word is
abbrev pub wait_refusal : Result ℕ TrapCause → ℕ → List Waiting → Option SharedReply
wait_refusal (Err trap) waiter spot = Some (answer.Trap trap)
wait_refusal (Ok addr) waiter spot = if is_waiting waiter spot then Some answer.WaiterBusy else None

-- the reply to a wait with this answer
abbrev pub IsWaitReply : Result WaitStep WaitFault → SharedReply → Type 0
IsWaitReply (Ok step) reply = reply ≡ answer.Wait step
IsWaitReply (Err (fault.Trap trap)) reply = reply ≡ answer.Trap trap
IsWaitReply (Err fault.Memory) reply = ⊥

-- the reply to a command that says the same, or else one that no command on a memory has
abbrev pub said : Option Reply → Reply
said None = reply.Returned
said (Some r) = r

-- the reply to a growth with this answer
abbrev pub growth_said : Result (Option (ℕ × ℕ)) GrowFault → Reply
growth_said (Ok (Some sizes)) = reply.Grown (Some sizes.0)
growth_said (Ok None) = reply.Grown None
growth_said (Err e) = reply.Grown None

-- it lies in the slot of a region of its own
abbrev pub IsInSlot : Storage → Type 0
IsInSlot (in_slot s) = Unit {0}
IsInSlot (stored len bytes) = ⊥

-- How many calls a memory's region was asked for.
abbrev pub calls_made : MemoryState → ℕ
calls_made m = (slot_of m).region.made

-- The calls on a memory's region that fail, where it tells them.
abbrev pub plan_of : MemoryState → Option (List ℕ)
plan_of m = (slot_of m).region.plan

-- a shared memory as the run has it: it lies in a slot and stays there, and has as many bytes as it tells
pub record IsKept (m : MemoryState) : Type 0 where
  pub in_slot : IsInSlot m.linear.storage
  pub fixed : m.may_move ≡ false
  pub room : m.linear.size + page_size m.ty ≤ 2 ^ 64
  pub bytes : IfSome (bytes_of m) (λ b. length b ≡ m.linear.size)

-- no more than one call was asked of the region, and where it failed it is one that the plan lists
pub record CountsFault (fault : Bool) (old new : MemoryState) : Type 0 where
  pub plan : plan_of new ≡ plan_of old
  pub least : calls_made old < 2 ^ 64 → calls_made old ≤ calls_made new
  pub most : calls_made new ≤ calls_made old + 1
  pub listed : fault ≡ true → calls_made old < 2 ^ 64 - 1 → (calls_made new ≡ calls_made old + 1) × IfSome (plan_of old) (λ plan. list_any (λ n. n == calls_made new) plan ≡ true)

-- what an event makes of the memory, with its reply
pub record MakesOf (event : SharedEvent) (old new : Shared) (reply : SharedReply) : Type 0 where
  pub fault : Bool
  pub happens : Happens event fault (view_of old) (view_of new) reply
  pub counts : CountsFault fault old.memory new.memory
  pub kept : IsKept new.memory

-- how many of the calls that fail come after so many
abbrev pub later : ℕ → List ℕ → ℕ
later made plan = length (filter (λ n. nat_lt made n) plan)

-- So many calls were asked of the region at most. Each that failed is another one of those that the plan lists.
pub record CountsFaults (n : ℕ) (faults : List Bool) (old new : MemoryState) : Type 0 where
  pub plan : plan_of new ≡ plan_of old
  pub most : calls_made new ≤ calls_made old + n
  pub listed : calls_made old + n < 2 ^ 64 → IfSome (plan_of old) (λ plan. count_true faults + later (calls_made new) plan ≤ later (calls_made old) plan)

-- what the events make of the memory one after another, with their replies
pub record MakesOfAll (events : List SharedEvent) (old new : Shared) (replies : List SharedReply) : Type 0 where
  pub faults : List Bool
  pub happen : Happen events faults replies (view_of old) (view_of new)
  pub counts : CountsFaults (length events) faults old.memory new.memory
  pub kept : IsKept new.memory

-- The memory as it is made for the input, with a region that the maker makes, and of which at most one call was asked.
pub record IsMadeShared (input : SharedInput) (maker left : MakerTold) (s : Shared) : Type 0 where
  pub made : IsMadeFor (shared_layout input) (first_size input) maker left
  pub view : view_of s ≡ first_view input maker.tells
  pub kept : IsKept s.memory
  pub plan : plan_of s.memory ≡ plan_for (next_name maker) maker
  pub calls : calls_made s.memory ≤ 1

-- why there is none: a fault, or want of memory
abbrev pub IsNotMade : SharedInput → MakerTold → MakerTold → RunFault → Type 0
IsNotMade input maker left run.BadInput = ⊥
IsNotMade input maker left (run.BadConfig e) = ⊥
IsNotMade input maker left run.PageFault = IsRefusedFor making.PageFault (shared_layout input) (first_size input) maker left
IsNotMade input maker left run.Memory = Unit {0}

-- Nothing else keeps the memory of a valid input from being made: the type is supported, and no limiter is asked.
abbrev pub IsMakingFault : MemoryError → Type 0
IsMakingFault refused.Memory = Unit {0}
IsMakingFault (refused.Unsupported u) = ⊥
IsMakingFault (refused.LimiterDenied min) = ⊥
IsMakingFault (refused.LimiterFault e) = ⊥
IsMakingFault refused.PageFault = Unit {0}

-- what that is to the run
abbrev pub fault_of : MemoryError → RunFault
fault_of refused.PageFault = run.PageFault
fault_of _ = run.Memory
