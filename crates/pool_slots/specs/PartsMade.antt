-- The parts of a pool as they are made: each has at its place what the plan says that the place is for.
use Rattle.std.specs.Prelude.{◌≡◌, ℕ, zero, suc, ◌+◌, ◌-◌, ◌<◌, ◌≤◌, ◌^◌, ◌||◌, List, [], ◌∷◌, ◌++◌, length, map, Bool, true, nat_lt, if◌then◌else◌}
use Rattle.pool_slots.specs.Imports.{list_any, range_with_len, SlotKind, budget_of, ShardState, NumbersFit, fresh_shard, Count, MakerTold, Planned, calls_of, fails_making, made_region, Told, Faulted, hiding, succeeded, DecommitBehavior, RegionName}
use Rattle.pool_hall.specs.declared.unit_name.SlotKind.TheVariants as of_slot
use Rattle.pool_pages.specs.declared.pages.RegionName.TheVariants as of_region
use Rattle.pool_slots.specs.Cells.{unmapped}
use Rattle.pool_slots.specs.Colourings.{coloured_region, stripe_colour, fails_first_call, fails_region, LeavesFaulted, IsUncoloured}
use Rattle.pool_slots.specs.HeapLists.{heaps_made}
use Rattle.pool_slots.specs.Parts.{part_at}
use Rattle.pool_slots.specs.Plans.{Role, shard_role, cell_role, queue_role, heaps_role, no_role, role_at, number_at, slots_at}
use Rattle.pool_slots.specs.RegionCells.{cell_made, memory_cell}
use Rattle.pool_slots.specs.SlotQueues.{empty_queue}
use Rattle.pool_slots.specs.declared.queued_range.QueueKind.{QueueKind}
use Rattle.pool_slots.specs.declared.queued_range.QueueKind.TheVariants as of_queue
use Rattle.pool_slots.specs.declared.slot_name.OfKinds.{OfKinds}
use Rattle.pool_slots.specs.declared.plan.Allocator.{Allocator}
use Rattle.pool_slots.specs.declared.plan.Plan.{Plan}
use Rattle.pool_slots.specs.declared.part.PoolPart.{PoolPart}
use Rattle.pool_slots.specs.declared.part.PoolPart.TheVariants.{Shard, Memory, Table, Stack, Queue as queue_part, Heaps as heaps_list}
use Rattle.pool_slots.specs.declared.part_maker.PartSettings.{PartSettings}
use Rattle.pool_slots.specs.declared.striped_plan.StripedPlanSettings.{StripedPlanSettings}

-- only memories are kept warm
abbrev pub warm_for : SlotKind → ℕ → ℕ
warm_for of_slot.Memory warm = warm
warm_for of_slot.Table warm = 0
warm_for of_slot.Stack warm = 0
warm_for of_slot.Heap warm = 0

-- Shard j of an allocator: it has the next slots, all cold, and its share of the allocator's warm slots.
abbrev pub shard_made : ℕ → Allocator → ℕ → ShardState
shard_made warm a j = fresh_shard a.kind (number_at a j 0) a.step (slots_at a j) (budget_of (warm_for a.kind warm) a.shards j)

-- the numbers of its slots are numbers of 32 bits, and so is how many they are
pub record HasNumbers (a : Allocator) (j : ℕ) : Type 0 where
  pub first : number_at a j 0 < 2 ^ 32
  pub fit : NumbersFit (number_at a j 0) a.step (slots_at a j)
  pub few : slots_at a j < 2 ^ 32

-- The numbers of all shards of an allocator fit 32 bits.
abbrev pub HaveNumbers : Allocator → Type 0
HaveNumbers a = (j : ℕ) → j < a.shards → HasNumbers a j

-- How many slots have a region: all but those of heaps.
abbrev pub region_count : OfKinds → ℕ
region_count totals = totals.memory + totals.table + totals.stack

-- The kind and the number of the slot whose region is made after n others.
abbrev pub nth_region : OfKinds → ℕ → QueueKind × ℕ
nth_region totals n =
    if nat_lt n totals.memory
    then (of_queue.Memory, n)
    else (if nat_lt n (totals.memory + totals.table) then (of_queue.Table, n - totals.memory) else (of_queue.Stack, n - (totals.memory + totals.table)))

-- The name under which the region of a slot is asked of the maker, and under which faults are planned on it.
abbrev pub region_name : QueueKind → ℕ → RegionName
region_name of_queue.Memory i = of_region.Memory i
region_name of_queue.Table i = of_region.Table i
region_name of_queue.Stack i = of_region.Stack i

-- The region of a table as it is made: all of it can be reached.
abbrev pub table_region : MakerTold → DecommitBehavior → Count → ℕ → Told
table_region maker behaviour len i = made_region (of_region.Table i) behaviour len len maker

-- The region of a stack as it is made: all of it can be reached but the first page, which is its guard.
abbrev pub stack_region : MakerTold → DecommitBehavior → Count → ℕ → Told
stack_region maker behaviour len i = succeeded (hiding 0 len.page) (made_region (of_region.Stack i) behaviour len len maker)

-- the region of a slot of a pool in so many stripes; a memory's is in the colour of its stripe, where there are two or more
abbrev pub slot_region : ℕ → MakerTold → PartSettings → QueueKind → ℕ → Told
slot_region num_stripes maker s of_queue.Memory i = coloured_region num_stripes maker s.behaviour s.memory_len i
slot_region num_stripes maker s of_queue.Table i = table_region maker s.behaviour s.table_len i
slot_region num_stripes maker s of_queue.Stack i = stack_region maker s.behaviour s.stack_len i

-- The making of a stack's region is listed as one that fails, or the hiding of its guard, which is the first call on it.
abbrev pub fails_guard : ℕ → ℕ → List Planned → Bool
fails_guard page i plan = fails_making (of_region.Stack i) plan || fails_first_call page (calls_of (of_region.Stack i) plan)

-- the hiding of the guard failed on the region of stack slot i, which was made
abbrev pub IsUnguarded : {P : Type 0} → (P → Told) → DecommitBehavior → Count → ℕ → MakerTold → Type 0
IsUnguarded told behaviour len i maker = LeavesFaulted told (Faulted (hiding 0 len.page)) (fails_first_call len.page) (made_region (of_region.Stack i) behaviour len len maker)

-- The plan lists the making of a slot's region, or the first call on it.
abbrev pub fails_slot : ℕ → PartSettings → QueueKind → ℕ → List Planned → Bool
fails_slot num_stripes s of_queue.Memory i plan = fails_region (stripe_colour num_stripes i) s.memory_len.bytes i plan
fails_slot num_stripes s of_queue.Table i plan = fails_making (of_region.Table i) plan
fails_slot num_stripes s of_queue.Stack i plan = fails_guard s.stack_len.page i plan

-- the region was made and given up, as the first call on it failed
abbrev pub IsGivenUp : {P : Type 0} → (P → Told) → ℕ → PartSettings → QueueKind → ℕ → MakerTold → Type 0
IsGivenUp told num_stripes s of_queue.Memory i maker = IsUncoloured told (stripe_colour num_stripes i) s.behaviour s.memory_len i maker
IsGivenUp told num_stripes s of_queue.Table i maker = ⊥
IsGivenUp told num_stripes s of_queue.Stack i maker = IsUnguarded told s.behaviour s.stack_len i maker

-- The plan lists the making of some slot's region.
abbrev pub lists_some_making : OfKinds → List Planned → Bool
lists_some_making totals plan = list_any (λ n. fails_making (region_name (nth_region totals n).0 (nth_region totals n).1) plan) (range_with_len 0 (region_count totals))

-- A plan lists, for some slot of the pool, the making of its region or the first call on that.
abbrev pub fails_some_slot : StripedPlanSettings → PartSettings → List Planned → Bool
fails_some_slot z s plan = list_any (λ n. fails_slot z.num_stripes s (nth_region z.totals n).0 (nth_region z.totals n).1 plan) (range_with_len 0 (region_count z.totals))

-- The region of some slot was made and given up, since the first call on it failed.
abbrev pub SomeGivenUp : {P : Type 0} → (P → Told) → StripedPlanSettings → PartSettings → MakerTold → Type 0
SomeGivenUp told z s maker = (n : ℕ) × (n < region_count z.totals) × IsGivenUp told z.num_stripes s (nth_region z.totals n).0 (nth_region z.totals n).1 maker

-- a stack's region has room for its guard page
abbrev pub HaveGuards : StripedPlanSettings → PartSettings → Type 0
HaveGuards z s = 0 < z.totals.stack → s.stack_len.page ≤ s.stack_len.bytes

module _ {P H : Type 0} where
  -- Shard j of an allocator as it is made.
  abbrev pub shard_part : ℕ → Allocator → ℕ → PoolPart P H
  shard_part warm a j = Shard (shard_made warm a j)

  -- the shards of these allocators, one after the other
  abbrev pub shard_parts : ℕ → List Allocator → List (PoolPart P H)
  shard_parts warm [] = []
  shard_parts warm (a ∷ as') = map (shard_part warm a) (range_with_len 0 a.shards) ++ shard_parts warm as'

  -- an empty queue
  abbrev pub queue_made : ℕ → ℕ → PoolPart P H
  queue_made room i = queue_part (empty_queue room room)

  -- the list of so many heaps, none of which was made
  abbrev pub heaps_part : ℕ → PoolPart P H
  heaps_part n = heaps_list (heaps_made n)

  -- where there are any it is a part
  abbrev pub heaps_parts : ℕ → List (PoolPart P H)
  heaps_parts zero = []
  heaps_parts (suc n) = heaps_part (suc n) ∷ []

  -- the cell of a slot with its region
  abbrev pub cell_part : QueueKind → ℕ → Told → PoolPart P H
  cell_part of_queue.Memory slot region = Memory (memory_cell slot (unmapped region))
  cell_part of_queue.Table slot region = Table (cell_made (record { kind = of_slot.Table; slot = slot }) (unmapped region))
  cell_part of_queue.Stack slot region = Stack (cell_made (record { kind = of_slot.Stack; slot = slot }) (unmapped region))

  -- The cell of a slot as it is made, with the region that was made for it.
  abbrev pub cell_part_made : ℕ → MakerTold → PartSettings → QueueKind → ℕ → PoolPart P H
  cell_part_made num_stripes maker s kind slot = cell_part kind slot (slot_region num_stripes maker s kind slot)

  -- The part is the cell of a slot as it is made; heaps have no cells.
  abbrev pub IsCellMade : ℕ → MakerTold → PartSettings → SlotKind → ℕ → PoolPart P H → Type 0
  IsCellMade num_stripes maker s of_slot.Memory slot x = x ≡ cell_part_made num_stripes maker s of_queue.Memory slot
  IsCellMade num_stripes maker s of_slot.Table slot x = x ≡ cell_part_made num_stripes maker s of_queue.Table slot
  IsCellMade num_stripes maker s of_slot.Stack slot x = x ≡ cell_part_made num_stripes maker s of_queue.Stack slot
  IsCellMade num_stripes maker s of_slot.Heap slot x = ⊥

  -- what is at a place of this role, in a pool of so many stripes
  abbrev pub IsMadeAs : ℕ → MakerTold → PartSettings → Role → PoolPart P H → Type 0
  IsMadeAs num_stripes maker s (shard_role a j) x = HasNumbers a j × (x ≡ shard_part s.max_unused_warm_slots a j)
  IsMadeAs num_stripes maker s (cell_role name) x = IsCellMade num_stripes maker s name.kind name.slot x
  IsMadeAs num_stripes maker s queue_role x = x ≡ queue_made s.queue_room 0
  IsMadeAs num_stripes maker s (heaps_role n) x = x ≡ heaps_part n
  IsMadeAs num_stripes maker s no_role x = ⊥

  -- the parts up to a place are as they are made, and there are no others
  pub record AreMadeTo (plan : Plan) (num_stripes : ℕ) (maker : MakerTold) (s : PartSettings) (places : ℕ) (parts : List (PoolPart P H)) : Type 0 where
    pub count : length parts ≡ places
    pub each : (place : ℕ) → place < places → IsMadeAs num_stripes maker s (role_at plan place) (part_at place parts)
