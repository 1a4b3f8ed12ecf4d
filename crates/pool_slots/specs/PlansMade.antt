-- The places of a pool: the shards come first, then the cells, the queues, and the list of heaps.
use Rattle.std.specs.Prelude.{◌≡◌, ℕ, ◌+◌, ◌*◌, ◌/◌, ◌%◌, ◌<◌, ◌≤◌, List, ◌∷◌, [], min}
use Rattle.pool_slots.specs.Imports.{SlotKind, Heap}
use Rattle.pool_hall.specs.declared.unit_name.SlotKind.TheVariants.{Table, Stack}
use Rattle.pool_slots.specs.SlotNames.{of_kind}
use Rattle.pool_slots.specs.Plans.{allocators_of, have_number, home_of, queue_tried}
use Rattle.pool_slots.specs.declared.slot_name.OfKinds.{OfKinds}
use Rattle.pool_slots.specs.declared.slot_name.SlotName.{SlotName}
use Rattle.pool_slots.specs.declared.plan.Allocator.{Allocator}
use Rattle.pool_slots.specs.declared.plan.Home.{Home}
use Rattle.pool_slots.specs.declared.plan.Plan.{Plan}
use Rattle.pool_slots.specs.declared.plan_maker.PlanSettings.{PlanSettings}

-- so many shards with so many slots each hold this number of slots
pub record HoldSlots (total shards each : ℕ) : Type 0 where
  pub some : 0 < each
  pub covered : total ≤ shards * each

-- The place of the first shard of each kind.
abbrev pub shards_from : PlanSettings → OfKinds
shards_from s = record {
  memory = 0;
  table = s.shards.memory;
  stack = s.shards.memory + s.shards.table;
  heap = s.shards.memory + s.shards.table + s.shards.stack;
}

-- How many shards there are of all kinds, which have the first places.
abbrev pub shards_planned : PlanSettings → ℕ
shards_planned s = s.shards.memory + s.shards.table + s.shards.stack + s.shards.heap

-- The first place of the queues, which come after shards and cells.
abbrev pub queues_from : PlanSettings → ℕ
queues_from s = shards_planned s + s.totals.memory + s.totals.table + s.totals.stack

-- The first place of the cells of each kind; heaps have no cells.
abbrev pub cells_from : PlanSettings → OfKinds
cells_from s = record {
  memory = shards_planned s;
  table = shards_planned s + s.totals.memory;
  stack = shards_planned s + s.totals.memory + s.totals.table;
  heap = queues_from s;
}

-- The place after the queues, where the list of heaps is if there are heaps.
abbrev pub heaps_from : PlanSettings → ℕ
heaps_from s = queues_from s + s.queues

-- How many places a pool has, with one for the list of heaps where there are heaps.
abbrev pub places_planned : PlanSettings → ℕ
places_planned s = heaps_from s + min 1 s.totals.heap

-- the one allocator of a kind
abbrev pub allocator_planned : PlanSettings → SlotKind → Allocator
allocator_planned s kind = record {
  kind = kind;
  first_place = of_kind kind (shards_from s);
  shards = of_kind kind s.shards;
  slots_per_shard = of_kind kind s.slots_per_shard;
  first = 0;
  step = 1;
  capacity = of_kind kind s.totals;
}

-- The plan has these allocators of memories, and of each other kind the one of these settings.
pub record IsPlanWith (s : PlanSettings) (of_memories : List Allocator) (plan : Plan) : Type 0 where
  pub memories : plan.memories ≡ of_memories
  pub tables : plan.tables ≡ allocator_planned s Table ∷ []
  pub stacks : plan.stacks ≡ allocator_planned s Stack ∷ []
  pub heaps : plan.heaps ≡ allocator_planned s Heap ∷ []
  pub cells : plan.cells ≡ cells_from s
  pub totals : plan.totals ≡ s.totals
  pub first_queue : plan.first_queue ≡ queues_from s
  pub queues : plan.queues ≡ s.queues
  pub heap_list : plan.heap_list ≡ heaps_from s

-- Where a kind has one allocator, its slots follow one another through the shards.
abbrev pub home_planned : PlanSettings → SlotName → Home
home_planned s name = record {
  place = of_kind name.kind (shards_from s) + name.slot / of_kind name.kind s.slots_per_shard;
  local = record { 0 = name.slot % of_kind name.kind s.slots_per_shard };
}
