-- All parties together: how much they ask for, how much there is, and what the seat has to which theirs were joined.
use Rattle.std.specs.Prelude.{◌≡◌, ◌⊎◌, ℕ, ◌+◌, ◌<◌, ◌≤◌, List, [], ◌∷◌, length, slice_index_or}
use Rattle.pool_pages.specs.MakerTold.{MakerTold}
use Rattle.pool_hall.specs.Sum.{often}
use Rattle.pool_hall.specs.Tally.{additions, low_additions, number}
use Rattle.pool_hall.specs.declared.hall.Hall.{Hall}
use Rattle.pool_hall.specs.declared.unit_name.SlotKind.{SlotKind}
use Rattle.pool_hall.specs.declared.unit_name.SlotKind.TheVariants.{Memory as memory_kind, Table as table_kind, Stack as stack_kind, Heap as heap_kind}
use Rattle.pool_hall.specs.declared.view.View.{View}
use Rattle.pool_slots.specs.Plans.{shard_tried}
use Rattle.pool_slots.specs.declared.listed_heaps.PlainHeap.{PlainHeap}
use Rattle.pool_alloc.specs.PlainModules.{ModuleAsked}
use Rattle.pool_alloc.specs.StepReads.{allocator_of}
use Rattle.pool_driver.specs.Counts.{IsEven}
use Rattle.pool_driver.specs.Telling.{component_counter, instance_counter}
use Rattle.pool_driver.specs.declared.part.HallPart.{HallPart}
use Rattle.pool_driver.specs.declared.shared_pool.SharedPool.{SharedPool}
use Rattle.pool_run.specs.Private.{Terms, stripe_slots}
use Rattle.pool_run.specs.Rooms.{IsPooledRun}
use Rattle.pool_run.specs.declared.command.Command.{Command}
use Rattle.pool_run.specs.declared.input.Input.{Input}
use Rattle.pool_run.specs.declared.input.Party.{Party}
use Rattle.pool_run.specs.declared.reply.Reply.{Reply}
use Rattle.pool_threads.specs.Asked.{Scarce, slots, instances, components, asked, faulted, refused}
use Rattle.pool_threads.specs.GrowthFaults.{AreGrowthsPlanned}
use Rattle.pool_threads.specs.Noted.{HasNotedCell, memory_faults, spent}
use Rattle.pool_threads.specs.Sharing.{job_of, party_in, party_world}

-- What a number of a party's commands and of their replies comes to over all parties that have replies.
abbrev pub over_all : (List Command → List Reply → ℕ) → List Party → List (List Reply) → ℕ
over_all f [] replies = 0
over_all f (party ∷ parties) [] = 0
over_all f (party ∷ parties) (told ∷ replies) = f party.commands told + over_all f parties replies

-- How much of what there is only so many of all parties ask for that have replies.
abbrev pub asked_by_all : Scarce → List ModuleAsked → List Party → List (List Reply) → ℕ
asked_by_all k modules parties replies = over_all (asked k modules) parties replies

-- How many of their requests are refused for a failed page call.
abbrev pub faulted_of_all : List Party → List (List Reply) → ℕ
faulted_of_all parties replies = over_all faulted parties replies

-- How many there are of it, for a party with these terms: of memories, in its stripe.
abbrev pub limit_of : Terms → Scarce → ℕ
limit_of t (slots memory_kind) = stripe_slots t
limit_of t (slots table_kind) = t.table_slots
limit_of t (slots stack_kind) = t.stacks.slots
limit_of t (slots heap_kind) = t.heap_slots
limit_of t instances = t.settings.max_core_instances
limit_of t components = t.settings.max_component_instances

-- What the parties are of beside the pool: the input, and the calls for its modules.
pub record Shared : Type 0 where
  pub input : Input
  pub modules : List ModuleAsked

abbrev pub shared_by : Input → List ModuleAsked → Shared
shared_by input modules = record { input = input; modules = modules }

module _ {P M T : Type 0} (told : M → MakerTold) (all : Shared) (pool : SharedPool (Hall (HallPart P PlainHeap M))) where
  -- What a party was told is a private run of all its commands, and why it was refused for want of room is noted.
  pub record HasRun (v : View T) (i : ℕ) (replies : List Reply) : Type 0 where
    pub stripe : ℕ
    pub inside : stripe < length pool.plan.memories
    pub run : IsPooledRun (party_world (job_of told all.input pool) (party_in all.input i) stripe) (party_in all.input i).commands replies
    pub whole : length replies ≡ length (party_in all.input i).commands
    -- Growths met no more faults than plans allow.
    pub growths : AreGrowthsPlanned (party_world (job_of told all.input pool) (party_in all.input i) stripe) (party_in all.input i).commands replies
    -- Where there was no slot, each shard where it was searched for is noted as topped.
    pub full : (kind : SlotKind) → 0 < refused (slots kind) (party_in all.input i).commands replies → (j : ℕ) → j < (allocator_of pool.plan kind stripe).shards → 0 < often (shard_tried (allocator_of pool.plan kind stripe) (party_in all.input i).home j) v.topped
    -- Where a counter refused it, some addition on that wasn't low.
    pub over_instances : 0 < refused instances (party_in all.input i).commands replies → number (low_additions instance_counter) v < number (additions instance_counter) v
    pub over_components : 0 < refused components (party_in all.input i).commands replies → number (low_additions component_counter) v < number (additions component_counter) v

  -- The seat to which those of the first parties were joined that have these replies. What they had live is given back.
  pub record IsJoined (v : View T) (replies : List (List Reply)) : Type 0 where
    pub units : v.units ≡ []
    -- It counted off as often as it counted, and that was low no more often.
    pub even : IsEven v
    pub lower : (c : ℕ) → number (low_additions c) v ≤ number (additions c) v
    -- It used up no more than these parties ask for.
    pub within : (k : Scarce) → spent pool.plan k v ≤ asked_by_all k all.modules all.input.parties replies
    pub each : (i : ℕ) → i < length replies → HasRun v i (slice_index_or replies i [])
    -- Each of their failed page calls is one more fault of a memory slot's cell, or such a cell is noted as topped.
    pub faults : (faulted_of_all all.input.parties replies ≤ memory_faults pool.plan v) ⊎ HasNotedCell pool.plan v

  -- What a seat has since the first view, to which one party's was joined, with these replies. What that had live is given back.
  pub record Joins (v w : View T) (i : ℕ) (replies : List Reply) : Type 0 where
    pub units : w.units ≡ []
    pub even : IsEven w
    pub portions : w.portions ≡ v.portions + 1
    -- Nothing is forgotten.
    pub noted : (q : ℕ) → often q v.topped ≤ often q w.topped
    pub over : (c : ℕ) → number (additions c) v + number (low_additions c) w ≤ number (additions c) w + number (low_additions c) v
    -- No more is used up than the party asks for.
    pub within : (k : Scarce) → spent pool.plan k w ≤ spent pool.plan k v + asked k all.modules (party_in all.input i).commands replies
    pub ran : HasRun w i replies
    pub faults : (memory_faults pool.plan v + faulted (party_in all.input i).commands replies ≤ memory_faults pool.plan w) ⊎ HasNotedCell pool.plan w
