-- The plan of a pool whose memories lie in stripes: each stripe has an allocator of its memory slots, and tables, stacks and
-- heaps have one allocator each. The slots of each allocator are divided among about as many shards as are asked for.
use Rattle.std.specs.Prelude.{◌≡◌, ℕ, zero, suc, ◌+◌, ◌-◌, ◌/◌, ◌%◌, ◌<◌, List, map}
use Rattle.pool_slots.specs.Imports.{div_ceil, range_with_len, SlotKind, Heap, slots_per_shard, shard_count}
use Rattle.pool_hall.specs.declared.unit_name.SlotKind.TheVariants.{Memory, Table, Stack}
use Rattle.pool_slots.specs.SlotNames.{of_kind}
use Rattle.pool_slots.specs.Slabs.{stripe_of, local_of}
use Rattle.pool_slots.specs.Plans.{allocators_of, have_number, home_of, queue_tried}
use Rattle.pool_slots.specs.PlansMade.{IsPlanWith, queues_from, home_planned}
use Rattle.pool_slots.specs.declared.slot_name.SlotName.{SlotName}
use Rattle.pool_slots.specs.declared.plan.Allocator.{Allocator}
use Rattle.pool_slots.specs.declared.plan.Home.{Home}
use Rattle.pool_slots.specs.declared.plan.Plan.{Plan}
use Rattle.pool_slots.specs.declared.plan_maker.PlanSettings.{PlanSettings}
use Rattle.pool_slots.specs.declared.striped_plan.StripedPlanSettings.{StripedPlanSettings}

-- how many shards so many slots have
abbrev pub shards_for : ℕ → ℕ → ℕ
shards_for capacity requested = shard_count capacity (slots_per_shard capacity requested)

-- How many memory slots a stripe has: they are dealt out to the stripes in turn.
abbrev pub stripe_slots : StripedPlanSettings → ℕ → ℕ
stripe_slots z s = div_ceil (z.totals.memory - s) z.num_stripes

-- How many slots each shard of a stripe has, but the last.
abbrev pub stripe_each : StripedPlanSettings → ℕ → ℕ
stripe_each z s = slots_per_shard (stripe_slots z s) z.requested_shards

-- How many shards a stripe has.
abbrev pub stripe_shards : StripedPlanSettings → ℕ → ℕ
stripe_shards z s = shards_for (stripe_slots z s) z.requested_shards

-- the shards of the first stripes
abbrev pub shards_before : StripedPlanSettings → ℕ → ℕ
shards_before z zero = 0
shards_before z (suc s) = shards_before z s + stripe_shards z s

-- The allocator of a stripe: its shards come after those of the stripes before, and its slots are those whose number leaves
-- the stripe's, divided by the number of stripes.
abbrev pub stripe_allocator : StripedPlanSettings → ℕ → Allocator
stripe_allocator z s = record {
  kind = Memory;
  first_place = shards_before z s;
  shards = stripe_shards z s;
  slots_per_shard = stripe_each z s;
  first = s;
  step = z.num_stripes;
  capacity = stripe_slots z s;
}

-- The allocators of all stripes, in order.
abbrev pub stripe_allocators : StripedPlanSettings → List Allocator
stripe_allocators z = map (stripe_allocator z) (range_with_len 0 z.num_stripes)

-- How the slots of each kind are divided. For memories it is the number of shards of all stripes, and of how many slots those
-- of the first stripe are.
abbrev pub divided : StripedPlanSettings → PlanSettings
divided z = record {
  totals = z.totals;
  shards = record {
    memory = shards_before z z.num_stripes;
    table = shards_for z.totals.table z.requested_shards;
    stack = shards_for z.totals.stack z.requested_shards;
    heap = shards_for z.totals.heap z.requested_shards;
  };
  slots_per_shard = record {
    memory = stripe_each z 0;
    table = slots_per_shard z.totals.table z.requested_shards;
    stack = slots_per_shard z.totals.stack z.requested_shards;
    heap = slots_per_shard z.totals.heap z.requested_shards;
  };
  queues = z.queues;
}

-- the plan is that of these settings
abbrev pub IsStripedPlanOf : StripedPlanSettings → Plan → Type 0
IsStripedPlanOf z plan = IsPlanWith (divided z) (stripe_allocators z) plan

-- Where a memory slot is at home: in its stripe, by its number there.
abbrev pub stripe_home : StripedPlanSettings → ℕ → Home
stripe_home z n = record {
  place = shards_before z (stripe_of n z.num_stripes) + local_of n z.num_stripes / stripe_each z (stripe_of n z.num_stripes);
  local = record { 0 = local_of n z.num_stripes % stripe_each z (stripe_of n z.num_stripes) };
}

-- Where a slot is at home: a memory in a shard of its stripe, a slot of another kind in the shards of its kind.
abbrev pub home_striped : StripedPlanSettings → SlotKind → ℕ → Home
home_striped z Memory n = stripe_home z n
home_striped z Table n = home_planned (divided z) (record { kind = Table; slot = n })
home_striped z Stack n = home_planned (divided z) (record { kind = Stack; slot = n })
home_striped z Heap n = home_planned (divided z) (record { kind = Heap; slot = n })

-- Each slot belongs to one allocator and is at home there in order; parties' queues are tried from their own on, in a
-- circle.
pub record FollowInStripes (z : StripedPlanSettings) (plan : Plan) : Type 0 where
  pub one : (name : SlotName) → name.slot < of_kind name.kind z.totals → have_number (allocators_of plan name.kind) name.slot ≡ 1
  pub homes : (name : SlotName) → name.slot < of_kind name.kind z.totals → home_of plan name ≡ home_striped z name.kind name.slot
  pub queues : (home tried : ℕ) → queue_tried plan home tried ≡ queues_from (divided z) + (home + tried) % z.queues
