-- How many turns a command takes at most, by the sizes of the pool, the modules and the commands of its party, and when so its reply has
-- come.
use Rattle.std.specs.Prelude.{ℕ, zero, suc, ◌+◌, ◌≤◌, ◌==◌, List, length, slice_index_or, sum_by, Option, Some, None}
use Rattle.pool_run.specs.Imports.{one_if, ModuleInfo, no_module, PoolSizes, allocation_bound, flush_bound, give_back_bound, heap_bound, instance_bound, purge_bound, release_bound, return_bound}
use Rattle.pool_run.specs.Acts.{Act, requests, on_memory, on_table, drops, purges, releases, act_at, Wanted, an_instance, a_component, a_stack, a_heap}
use Rattle.pool_run.specs.declared.bounds.StepBounds.{StepBounds}
use Rattle.pool_run.specs.declared.command.Command.{Command}
use Rattle.pool_run.specs.declared.reply.Reply.{Reply}

-- The bounds of the parts of a call, on a pool of these sizes.
abbrev pub bounds_on : PoolSizes → StepBounds
bounds_on z = record { flush = flush_bound z; allocation = allocation_bound z; give_back = give_back_bound z; purge = purge_bound z; release = release_bound z }

-- How many memories and tables an instance of a module has.
abbrev pub module_objects : ModuleInfo → ℕ
module_objects m = length m.memories + length m.tables

-- For how many objects a request is: the memories and tables of a module; none for a component; and a heap has its memory beside it.
abbrev pub objects_requested : List ModuleInfo → Wanted → ℕ
objects_requested modules (an_instance number) = module_objects (slice_index_or modules number no_module)
objects_requested modules (a_component info) = 0
objects_requested modules a_stack = 1
objects_requested modules (a_heap limits) = 2

-- How many objects the grant of a command has, if it is granted one.
abbrev pub objects_granted : List ModuleInfo → Option Act → ℕ
objects_granted modules (Some (requests wanted)) = objects_requested modules wanted
objects_granted modules _ = 0

-- At most how many turns a request takes.
abbrev pub request_bound : PoolSizes → List ModuleInfo → Wanted → ℕ
request_bound z modules (an_instance number) = instance_bound z (objects_requested modules (an_instance number))
request_bound z modules (a_component info) = 3
request_bound z modules a_stack = 1 + allocation_bound z
request_bound z modules (a_heap limits) = heap_bound z

-- At most how many turns it takes to do this. What is given back is the grant of one of these commands.
abbrev pub act_bound : PoolSizes → List ModuleInfo → List Command → Act → ℕ
act_bound z modules commands (requests wanted) = request_bound z modules wanted
act_bound z modules commands (on_memory of k op) = 1
act_bound z modules commands (on_table of k op) = 1
act_bound z modules commands (drops of) = return_bound z (objects_granted modules (act_at commands of))
act_bound z modules commands (purges number) = purge_bound z
act_bound z modules commands releases = release_bound z

-- The same of what a command does, if there is one.
abbrev pub bound_if : PoolSizes → List ModuleInfo → List Command → Option Act → ℕ
bound_if z modules commands None = 0
bound_if z modules commands (Some act) = act_bound z modules commands act

-- At most how many turns command n takes.
abbrev pub command_bound : PoolSizes → List ModuleInfo → List Command → ℕ → ℕ
command_bound z modules commands n = bound_if z modules commands (act_at commands n)

-- At most how many turns so many commands take together, from this one on.
abbrev pub commands_bound : PoolSizes → List ModuleInfo → List Command → ℕ → ℕ → ℕ
commands_bound z modules commands first zero = 0
commands_bound z modules commands first (suc n) = command_bound z modules commands first + commands_bound z modules commands (first + 1) n

-- How many of these turns are those of party i.
abbrev pub own_turns : ℕ → List ℕ → ℕ
own_turns i turns = sum_by (λ k. one_if (k == i)) turns

-- A party had the first replies, made so many turns, and has the second. These are n more where its turns are as many as its next n
-- commands take together at most; with one more where it had no reply yet, as it draws its stripe before its first command.
abbrev pub IsInTime : PoolSizes → List ModuleInfo → List Command → ℕ → List Reply → List Reply → Type 0
IsInTime z modules commands own before after =
    (n : ℕ) → length before + n ≤ length commands → one_if (length before == 0) + commands_bound z modules commands (length before) n ≤ own → length before + n ≤ length after
