-- What a party's seat has noted of its commands: how many slots it took that were never used and how often it counted, at most; and of each
-- refusal for want of room, and of each failed page call, the reason, once more each time.
use Rattle.std.specs.Prelude.{◌≡◌, ◌⊎◌, ℕ, ◌+◌, ◌<◌, ◌≤◌, Bool, false, if◌then◌else◌, slice_index}
use Rattle.pool_hall.specs.Sum.{often, total}
use Rattle.pool_hall.specs.Tally.{additions, low_additions, number, rise, subtractions}
use Rattle.pool_hall.specs.declared.unit_name.SlotKind.{SlotKind}
use Rattle.pool_hall.specs.declared.unit_name.SlotKind.TheVariants.{Memory as memory_kind}
use Rattle.pool_hall.specs.declared.view.CountRise.{CountRise}
use Rattle.pool_hall.specs.declared.view.View.{View}
use Rattle.pool_index.specs.Part.{full_answers}
use Rattle.pool_slots.specs.Plans.{Role, cell_role, role_at, queue_tried, queues_for, shard_tried}
use Rattle.pool_slots.specs.SlotQueues.{same_kind}
use Rattle.pool_slots.specs.declared.plan.Plan.{Plan}
use Rattle.pool_slots.specs.declared.slot_name.SlotName.{SlotName}
use Rattle.pool_alloc.specs.CallStages.{stage_of}
use Rattle.pool_alloc.specs.StepReads.{allocator_of}
use Rattle.pool_alloc.specs.declared.frame.Frame.{Frame}
use Rattle.pool_driver.specs.Calling.{components_of, instances_of, kind_at, objects_of}
use Rattle.pool_driver.specs.PageFaults.{cell_faults}
use Rattle.pool_driver.specs.Spending.{cold_in}
use Rattle.pool_driver.specs.Telling.{HasSoManyMore, component_counter, instance_counter, queue_takes}
use Rattle.pool_threads.specs.Asked.{Scarce, slots, instances, components}

-- The role is that of a memory slot's cell.
abbrev pub is_memory_cell : Role → Bool
is_memory_cell (cell_role name) = same_kind memory_kind name.kind
is_memory_cell _ = false

-- How many faults came home, where the rise is one of a memory slot's cell.
abbrev pub fault_rise : Plan → CountRise → ℕ
fault_rise plan e = if is_memory_cell (role_at plan e.place) then rise (slice_index e.before cell_faults) (slice_index e.after cell_faults) else 0

-- How much of what there is only so many of a call asks for that began with this frame.
abbrev pub call_asks : {P H : Type 0} → Frame P H → Scarce → ℕ
call_asks f (slots kind) = objects_of (kind_at (stage_of f)) kind f.asked
call_asks f instances = instances_of (kind_at (stage_of f)) f.asked
call_asks f components = components_of (kind_at (stage_of f))

module _ {T : Type 0} where
  -- How many faults a seat brought home to cells of memory slots.
  abbrev pub memory_faults : Plan → View T → ℕ
  memory_faults plan v = total (fault_rise plan) v.rises

  -- How much of what there is only so many of a seat used up: of slots, how many it took that were never used; of the others, how often it
  -- counted one while there was room.
  abbrev pub spent : Plan → Scarce → View T → ℕ
  spent plan (slots kind) v = cold_in plan kind v
  spent plan instances v = number (low_additions instance_counter) v
  spent plan components v = number (low_additions component_counter) v

  -- In the second view nothing is forgotten of the first: whatever rises weigh, all of them weigh no less, each place that was noted as topped
  -- is noted, and no addition is gone that wasn't low, nor a subtraction. The seat has as many portions.
  pub record Grows (v w : View T) : Type 0 where
    pub rises : (weigh : CountRise → ℕ) → total weigh v.rises ≤ total weigh w.rises
    pub noted : (q : ℕ) → often q v.topped ≤ often q w.topped
    pub over : (c : ℕ) → number (additions c) v + number (low_additions c) w ≤ number (additions c) w + number (low_additions c) v
    pub counted_off : (c : ℕ) → number (subtractions c) v ≤ number (subtractions c) w
    pub portions : w.portions ≡ v.portions

  -- The cell of a memory slot was noted as topped.
  pub record HasNotedCell (plan : Plan) (v : View T) : Type 0 where
    pub slot : SlotName
    pub kind : slot.kind ≡ memory_kind
    pub place : ℕ
    pub cell : role_at plan place ≡ cell_role slot
    pub noted : 0 < often place v.topped

  -- Since the first view each shard of a kind, or of a stripe, answered so often that it is full, from a home on, and was noted as topped
  -- if it did; and each queue that is searched for a slot of the kind was taken so often.
  pub record RoomTimes (base v : View T) (plan : Plan) (home : ℕ) (kind : SlotKind) (stripe times : ℕ) : Type 0 where
    pub shards : (j : ℕ) → j < (allocator_of plan kind stripe).shards → HasSoManyMore base v (shard_tried (allocator_of plan kind stripe) home j) full_answers times
    pub noted : 0 < times → (j : ℕ) → j < (allocator_of plan kind stripe).shards → 0 < often (shard_tried (allocator_of plan kind stripe) home j) v.topped
    pub queues : (j : ℕ) → j < queues_for plan kind → HasSoManyMore base v (queue_tried plan home j) queue_takes times

  -- Since the first view so many additions on a counter weren't low, at least, and there were so many subtractions.
  pub record OverTimes (base v : View T) (c times : ℕ) : Type 0 where
    pub over : number (additions c) base + number (low_additions c) v + times ≤ number (additions c) v + number (low_additions c) base
    pub counted_off : number (subtractions c) base + times ≤ number (subtractions c) v

  -- Since the first view the seat used up so much at most. Of each refusal for want of something, so many of each, it has the reason once more;
  -- and of each failed page call, so many, a fault more of a memory slot's cell, or such a cell is noted as topped.
  pub record Notes (plan : Plan) (home stripe : ℕ) (most refused : Scarce → ℕ) (failed : ℕ) (base v : View T) : Type 0 where
    pub within : (k : Scarce) → spent plan k v ≤ spent plan k base + most k
    pub grows : Grows base v
    pub room : (kind : SlotKind) → RoomTimes base v plan home kind stripe (refused (slots kind))
    pub over_instances : OverTimes base v instance_counter (refused instances)
    pub over_components : OverTimes base v component_counter (refused components)
    pub faults : (memory_faults plan base + failed ≤ memory_faults plan v) ⊎ HasNotedCell plan v
