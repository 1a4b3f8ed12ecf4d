-- A purge: it goes through the stripes, and in each through the memories that a module may have. In turns it picks a warm slot
-- that was used for the memory last, forgets what the slot holds, and frees it.
use Rattle.std.specs.Prelude.{ℕ, ◌+◌, ◌-◌, ◌^◌, ◌&&◌, length, min, nat_lt, if◌then◌else◌, Bool, true, false, Option, Some, None}
use Rattle.pool_alloc.specs.Imports.{CompiledModuleId, Slot, forgotten, ShardState, affine_answer, after_affine_pick, after_free, slot_number, MemoryInModule, SlotId, Cell, unmapped, unknown, previously_used, taken, cell_of, home_of, CellState, cell_numbers, cell_emptied, cell_filled, ImageSlot, Unmapped, Unknown, PreviouslyUsed, Taken, Allocator, Plan, SlotName}
use Rattle.pool_alloc.specs.Leases.{memory_slot}
use Rattle.pool_alloc.specs.StepReads.{StepGiven, stripe_allocator, shard_at, cell_named, with_shard, with_cell}
use Rattle.pool_alloc.specs.Turns.{Turn, goes, ends, Row, lifted}
use Rattle.pool_alloc.specs.declared.frame.Frame.{Frame}
use Rattle.pool_alloc.specs.declared.frame.Outcome.TheVariants as answer
use Rattle.pool_alloc.specs.declared.frame.Phase.TheVariants.{Purge}
use Rattle.pool_alloc.specs.declared.pool_core.PoolCore.{PoolCore}
use Rattle.pool_alloc.specs.declared.purge.PurgeCursor.{PurgeCursor}
use Rattle.pool_alloc.specs.declared.purge.PurgeStep.{PurgeStep}
use Rattle.pool_alloc.specs.declared.purge.PurgeStep.TheVariants.{Pick, TakeRegion, Forget, PutRegion, Free}

-- there are turns where a module may have so many memories, and where there are slots
abbrev pub has_turns : ℕ → Plan → Bool
has_turns per_module plan = nat_lt 0 plan.totals.memory && nat_lt 0 per_module

-- the purge of a module, as it begins
abbrev pub purge_begun : CompiledModuleId → PurgeCursor
purge_begun id = record { id = id; stripe = 0; memory = 0; turn = 0; purged = 0 }

-- The memory for which a purge looks for slots.
abbrev pub purged_memory : PurgeCursor → MemoryInModule
purged_memory p = record { 0 = p.id; 1 = record { 0 = p.memory } }

-- The allocator of the stripe at which a purge stands.
abbrev pub purged_stripe : Plan → PurgeCursor → Allocator
purged_stripe plan p = stripe_allocator plan p.stripe

-- A purge that found one slot more.
abbrev pub found_one : PurgeCursor → PurgeCursor
found_one p = record p { purged = min (p.purged + 1) (2 ^ 64 - 1) }

-- Where a purge goes on behind a stripe, if there is another.
abbrev pub behind_stripe : Plan → PurgeCursor → Option PurgeCursor
behind_stripe plan p = if nat_lt (p.stripe + 1) (length plan.memories) then Some (record p { stripe = p.stripe + 1; memory = 0; turn = 0 }) else None

-- Where a purge goes on behind a memory: with the module's next one, or the next stripe's first.
abbrev pub behind_memory : ℕ → Plan → PurgeCursor → Option PurgeCursor
behind_memory per_module plan p = if nat_lt (p.memory + 1) per_module then Some (record p { memory = p.memory + 1; turn = 0 }) else behind_stripe plan p

-- Where a purge goes on once a slot was freed: with another turn for the memory, while the stripe may have more slots
-- of it.
abbrev pub behind_turn : ℕ → Plan → PurgeCursor → Option PurgeCursor
behind_turn per_module plan p = if nat_lt (p.turn + 1) (purged_stripe plan p).capacity then Some (record p { turn = p.turn + 1 }) else behind_memory per_module plan p

module _ {P : Type 0} where
  -- what a cell holds, as the code has it
  abbrev pub image_in : Cell → ImageSlot P
  image_in (unmapped region) = Unmapped region
  image_in (unknown slot) = Unknown slot
  image_in (previously_used slot) = PreviouslyUsed slot
  image_in taken = Taken

  -- What goes back of a slot once it is forgotten: nothing is known of it where a page call failed, and else it is clean. A
  -- region that was never used has nothing to forget.
  abbrev pub known_after : Bool → Slot → ImageSlot P
  known_after true slot = Unknown (forgotten slot)
  known_after false slot = PreviouslyUsed slot

  -- What goes back into the cell of a slot that was forgotten: clean, unknown after a fault, or never used.
  abbrev pub after_forgetting : Bool → ImageSlot P → Slot → ImageSlot P
  after_forgetting fault (Unmapped region) slot = Unmapped region
  after_forgetting fault (Unknown old) slot = known_after fault slot
  after_forgetting fault (PreviouslyUsed old) slot = known_after fault slot
  after_forgetting fault Taken slot = Taken

module _ {P H : Type 0} where
  -- A purge goes on there, or ends.
  abbrev pub purge_to : PurgeCursor → Option PurgeCursor → Turn P H
  purge_to p (Some next) = goes (Purge next (Pick 0))
  purge_to p None = ends (answer.Purged p.purged)

  -- A slot is picked from a shard: it gave one, the next is tried, or after the last there is none.
  abbrev pub affine_picked : ℕ → Plan → PurgeCursor → Option SlotId → ShardState → ℕ → Turn P H
  affine_picked per_module plan p (Some slot) shard tried = goes (Purge (found_one p) (TakeRegion (memory_slot (slot_number shard slot.0))))
  affine_picked per_module plan p None shard tried = if nat_lt (tried + 1) (purged_stripe plan p).shards then goes (Purge p (Pick (tried + 1))) else purge_to p (behind_memory per_module plan p)

  -- A shard is asked for a warm slot that is affine to the memory, and gives the last freed one.
  abbrev pub pick_affine_on : ℕ → Plan → PurgeCursor → ℕ → ShardState → Frame P H → Row ShardState P H
  pick_affine_on per_module plan p tried shard f = record {
    part = after_affine_pick (purged_memory p) shard;
    frame = f;
    turn = affine_picked per_module plan p (affine_answer (purged_memory p) shard) shard tried;
  }

  -- A purge without turns is one step, that changes nothing.
  abbrev pub pick_affine_row : Bool → PurgeCursor → ℕ → PoolCore P H → Frame P H → Row (PoolCore P H) P H
  pick_affine_row true p tried c f =
      let place : ℕ = (purged_stripe c.plan p).first_place + tried in
      lifted (λ shard. with_shard place shard c) (pick_affine_on c.settings.max_memories_per_module c.plan p tried (shard_at place c) f)
  pick_affine_row false p tried c f = record { part = c; frame = f; turn = ends (answer.Purged p.purged) }

  -- The region of a slot that a purge found leaves its cell.
  abbrev pub take_affine_on : PurgeCursor → SlotName → CellState → Frame P H → Row CellState P H
  take_affine_on p name cell f = record { part = cell_emptied cell; frame = f; turn = goes (Purge p (Forget (record { name = name; numbers = cell_numbers cell }) (image_in cell.holds))) }

  -- The region that was forgotten goes back into its cell, and its slot is freed next.
  abbrev pub put_affine_on : PurgeCursor → SlotName → Cell → CellState → Frame P H → Row CellState P H
  put_affine_on p name held cell f = record { part = cell_filled held cell; frame = f; turn = goes (Purge p (Free name)) }

  -- The slot is freed. Nothing of it is resident.
  abbrev pub free_affine_on : ℕ → Plan → PurgeCursor → SlotName → ShardState → Frame P H → Row ShardState P H
  free_affine_on per_module plan p name shard f = record {
    part = after_free (home_of plan name).local 0 shard;
    frame = f;
    turn = purge_to p (behind_turn per_module plan p);
  }

  -- The rows of a purge, by its step.
  abbrev pub purge_row : StepGiven H → PurgeCursor → PurgeStep P → PoolCore P H → Frame P H → Row (PoolCore P H) P H
  purge_row g p (Pick tried) c f = pick_affine_row (has_turns c.settings.max_memories_per_module c.plan) p tried c f
  purge_row g p (TakeRegion name) c f = lifted (λ cell. with_cell name cell c) (take_affine_on p name (cell_named name c) f)
  purge_row g p (Forget at held) c f = record { part = c; frame = f; turn = goes (Purge p (PutRegion at (after_forgetting g.fault held g.slot))) }
  purge_row g p (PutRegion at held) c f = lifted (λ cell. with_cell at.name cell c) (put_affine_on p at.name (cell_of held) (cell_named at.name c) f)
  purge_row g p (Free name) c f =
      let place : ℕ = (home_of c.plan name).place in
      lifted (λ shard. with_shard place shard c) (free_affine_on c.settings.max_memories_per_module c.plan p name (shard_at place c) f)
