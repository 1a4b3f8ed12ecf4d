-- How many growths of a memory met a fault in a party's run, and how many may by the plan of the memory's region.
use Rattle.std.specs.Prelude.{ℕ, ◌+◌, ◌-◌, ◌^◌, ◌==◌, ◌&&◌, List, [], ◌∷◌, min, slice_get, Bool, true, false, not, if◌then◌else◌, Option, Some, None, IfSome, option_map}
use Rattle.std.specs.Option.{option_and_then, option_map_or}
use Rattle.pool_hall.specs.Sum.{one_if}
use Rattle.pool_pages.specs.MakerTold.{plan_for}
use Rattle.pool_pages.specs.Told.{listed_among}
use Rattle.pool_pages.specs.declared.pages.RegionName.TheVariants.{Memory as memory_region}
use Rattle.pool_limits.specs.Growth.{GrowthRule}
use Rattle.pool_memory.specs.Memories.{slot_of}
use Rattle.pool_slots.specs.declared.listed_heaps.PlainHeap.{PlainHeap}
use Rattle.pool_alloc.specs.Leases.{Lease}
use Rattle.pool_alloc.specs.declared.frame.Grant.{Grant}
use Rattle.pool_driver.specs.ListedCalls.{AreAtMost, calls_listed}
use Rattle.pool_run.specs.Acts.{Act, MemoryOp, act_of, grows, on_memory}
use Rattle.pool_run.specs.GrowthEnds.{GrowthEnd, has_grown}
use Rattle.pool_run.specs.Objects.{object_at}
use Rattle.pool_run.specs.Private.{Grants, PrivateMemory, PrivateState, StepsBy, growth, no_grants, private_memories, with_grants}
use Rattle.pool_run.specs.Rooms.{PooledStep, World}
use Rattle.pool_run.specs.Turns.{memory_leases}
use Rattle.pool_run.specs.declared.command.Command.{Command}
use Rattle.pool_run.specs.declared.reply.Reply.{Reply}
use Rattle.pool_run.specs.declared.reply.Reply.TheVariants.{Grown, Heap, Instance}

-- The reply says that it has grown.
abbrev pub says_grown : Reply → Bool
says_grown (Grown (Some size)) = true
says_grown _ = false

-- It would have grown.
abbrev pub is_growing : GrowthEnd → Bool
is_growing has_grown = true
is_growing _ = false

-- A growth of a memory by so many pages met a fault: by its rules alone it would have grown, and the reply isn't that it has.
abbrev pub growth_met : GrowthRule → ℕ → PrivateMemory → Reply → Bool
growth_met rule pages m reply = is_growing (growth rule false pages m).0 && not (says_grown reply)

-- 1 where an operation on a memory is a growth that met a fault.
abbrev pub met_by : GrowthRule → MemoryOp → PrivateMemory → Reply → ℕ
met_by rule (grows pages) m reply = one_if (growth_met rule pages m reply)
met_by rule _ m reply = 0

-- 1 where a command is a growth of memory k of the grant of command `of`, and met a fault; by the grants before it.
abbrev pub met_at : GrowthRule → ℕ → ℕ → Grants → Act → Reply → ℕ
met_at rule of k grants (on_memory grant place op) reply =
    if (grant == of) && (place == k) then option_map_or (λ (m : PrivateMemory). met_by rule op m reply) (object_at private_memories of k grants) 0 else 0
met_at rule of k grants _ reply = 0

-- How many growths of that memory met a fault in a run.
abbrev pub growths_met : (w : World) (of k n : ℕ) (commands : List Command) (replies : List Reply) (s end : PrivateState) → StepsBy (PooledStep w) n commands replies s end → ℕ
growths_met w of k n commands [] s end run = 0
growths_met w of k n [] (reply ∷ replies) s end run = 0
growths_met w of k n (command ∷ commands) (reply ∷ replies) s end run =
    met_at w.terms.host.rule of k s.grants (act_of command) reply + growths_met w of k (n + 1) commands replies run.0 end run.2

-- The slot of memory k of what was granted with this reply.
abbrev pub slot_in : ℕ → Reply → Option ℕ
slot_in k (Instance memories tables) = slice_get memories k
slot_in k (Heap heap memory) = slice_get (memory ∷ []) k
slot_in k _ = None

-- The slot of memory k of the grant of command `of`, by the reply to that command.
abbrev pub slot_named : ℕ → ℕ → List Reply → Option ℕ
slot_named of k replies = option_and_then (slot_in k) (slice_get replies of)

-- In each run of these commands that has these replies, and for each memory whose slot a reply names, this holds of the plan of that slot's
-- region, where it is told, and of how many growths of the memory met a fault.
abbrev pub ForEachMemory : World → List Command → List Reply → (ℕ → ℕ → List ℕ → ℕ → Type 0) → Type 0
ForEachMemory w commands replies Holds =
    (end : PrivateState) (run : StepsBy (PooledStep w) 0 commands replies (with_grants (no_grants commands)) end) (of k : ℕ)
    → IfSome (slot_named of k replies) (λ slot. IfSome (plan_for (memory_region slot) w.maker) (λ plan. Holds of k plan (growths_met w of k 0 commands replies (with_grants (no_grants commands)) end run)))

-- The growths of a memory that met a fault are no more than the different calls that the plan of its region lists, unless it lists the last
-- number of a count of calls.
abbrev pub AreGrowthsPlanned : World → List Command → List Reply → Type 0
AreGrowthsPlanned w commands replies = ForEachMemory w commands replies (λ of k plan met. AreAtMost (calls_listed plan) plan met)

-- How many calls a plan lists of those that were made so far, or of all, where it isn't known how many were made.
abbrev pub listed_of : Option ℕ → List ℕ → ℕ
listed_of None plan = calls_listed plan
listed_of (Some made) plan = listed_among plan (min made (2 ^ 64 - 1))

-- How many calls were made on the region of a lease's memory.
abbrev pub calls_on : Lease → ℕ
calls_on l = (slot_of l.memory).region.made

module _ {P : Type 0} where
  -- How many calls were made on the region of memory k of the grant of command `of`, while that grant is live.
  abbrev pub calls_on_memory : ℕ → ℕ → List (Option (Grant P PlainHeap)) → Option ℕ
  calls_on_memory of k live = option_map calls_on (object_at memory_leases of k live)

  -- So many of them, which a live grant counts by the calls that were made on its regions.
  abbrev pub AreGrowthsListed : World → List Command → List Reply → List (Option (Grant P PlainHeap)) → Type 0
  AreGrowthsListed w commands replies live = ForEachMemory w commands replies (λ of k plan met. AreAtMost (listed_of (calls_on_memory of k live) plan) plan met)
