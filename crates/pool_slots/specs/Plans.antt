-- Where the parts of a pool are: which place is a shard, a cell or a queue, and where a slot is at home.
use Rattle.std.specs.Prelude.{◌≡◌, ℕ, ◌+◌, ◌-◌, ◌*◌, ◌/◌, ◌%◌, ◌^◌, ◌<◌, ◌≤◌, ◌==◌, ◌&&◌, ◌⊎◌, List, [], ◌∷◌, ◌++◌, min, map, Bool, if◌then◌else◌, nat_le, nat_lt}
use Rattle.pool_slots.specs.Imports.{AllByRecursion, SlotKind, Heap}
use Rattle.pool_hall.specs.declared.unit_name.SlotKind.TheVariants.{Memory, Table, Stack}
use Rattle.pool_slots.specs.SlotNames.{of_kind}
use Rattle.pool_slots.specs.declared.slot_name.SlotName.{SlotName}
use Rattle.pool_slots.specs.declared.plan.Allocator.{Allocator}
use Rattle.pool_slots.specs.declared.plan.Home.{Home}
use Rattle.pool_slots.specs.declared.plan.Plan.{Plan}

-- the allocators of a kind
abbrev pub allocators_of : Plan → SlotKind → List Allocator
allocators_of plan Memory = plan.memories
allocators_of plan Table = plan.tables
allocators_of plan Stack = plan.stacks
allocators_of plan Heap = plan.heaps

-- The number of slot k of an allocator.
abbrev pub number_in : Allocator → ℕ → ℕ
number_in a k = a.first + k * a.step

-- The number of slot k of an allocator's shard j.
abbrev pub number_at : Allocator → ℕ → ℕ → ℕ
number_at a j k = number_in a (j * a.slots_per_shard + k)

-- how many slots shard j has: each has as many but the last, which has the rest
abbrev pub slots_at : Allocator → ℕ → ℕ
slots_at a j = min a.slots_per_shard (a.capacity - j * a.slots_per_shard)

-- one of its slots has this number
abbrev pub has_number : Allocator → ℕ → Bool
has_number a n = nat_le a.first n && (((n - a.first) % a.step == 0) && nat_lt ((n - a.first) / a.step) a.capacity)

-- the shard's place of the slot with this number, and the slot's number there
abbrev pub home_in : Allocator → ℕ → Home
home_in a n = record {
  place = a.first_place + ((n - a.first) / a.step) / a.slots_per_shard;
  local = record { 0 = ((n - a.first) / a.step) % a.slots_per_shard };
}

-- Where the slot with a number is at home, by the first allocator that has the number.
abbrev pub home_among : List Allocator → ℕ → Home
home_among [] n = record { place = 0; local = record { 0 = 0 } }
home_among (a ∷ as') n = if has_number a n then home_in a n else home_among as' n

-- Where a slot is at home: the place of its shard, and its number there.
abbrev pub home_of : Plan → SlotName → Home
home_of plan name = home_among (allocators_of plan name.kind) name.slot

-- the place of a slot's cell
abbrev pub cell_place : Plan → SlotName → ℕ
cell_place plan name = of_kind name.kind plan.cells + name.slot

-- The first place for a heap, and the second for a slot of another kind.
abbrev pub heap_or : SlotKind → ℕ → ℕ → ℕ
heap_or Memory list cell = cell
heap_or Table list cell = cell
heap_or Stack list cell = cell
heap_or Heap list cell = list

-- The place of the part that gives out the region of a slot: its cell, or for a heap the list of heaps.
abbrev pub region_place : Plan → SlotName → ℕ
region_place plan name = heap_or name.kind plan.heap_list (cell_place plan name)

-- the place of the shard that is tried after so many others, from a home on
abbrev pub shard_tried : Allocator → ℕ → ℕ → ℕ
shard_tried a home tried = a.first_place + (home + tried) % a.shards

-- the place of the queue that comes after so many others, from a home on
abbrev pub queue_tried : Plan → ℕ → ℕ → ℕ
queue_tried plan home tried = plan.first_queue + (home + tried) % plan.queues

-- how many queues a search for a slot of a kind goes through
abbrev pub queues_for : Plan → SlotKind → ℕ
queues_for plan Heap = 0
queues_for plan kind = plan.queues

-- What a place is for: shard j of an allocator, the cell of a slot, a queue, the list of so many heaps, or nothing.
pub data Role : Type 0 where
  shard_role : Allocator → ℕ → Role
  cell_role : SlotName → Role
  queue_role : Role
  heaps_role : ℕ → Role
  no_role : Role

-- places in a row, and what each of them is for
pub record Block : Type 0 where
  pub first : ℕ
  pub count : ℕ
  pub role : ℕ → Role

-- The places of an allocator's shards.
abbrev pub shards_block : Allocator → Block
shards_block a = record { first = a.first_place; count = a.shards; role = shard_role a }

-- The places of the cells of a kind, one for each slot.
abbrev pub cells_block : Plan → SlotKind → Block
cells_block plan kind = record { first = of_kind kind plan.cells; count = of_kind kind plan.totals; role = λ n. cell_role (record { kind = kind; slot = n }) }

-- All allocators of a plan.
abbrev pub allocators : Plan → List Allocator
allocators plan = plan.memories ++ (plan.tables ++ (plan.stacks ++ plan.heaps))

-- All blocks of a plan: cells, queues, the one place of the list of heaps if there is one, and each allocator's shards.
abbrev pub blocks : Plan → List Block
blocks plan =
    cells_block plan Memory ∷ cells_block plan Table ∷ cells_block plan Stack
    ∷ record { first = plan.first_queue; count = plan.queues; role = λ i. queue_role }
    ∷ record { first = plan.heap_list; count = min 1 plan.totals.heap; role = λ i. heaps_role plan.totals.heap }
    ∷ map shards_block (allocators plan)

-- the place is one of the block's
abbrev pub is_within : Block → ℕ → Bool
is_within b p = nat_le b.first p && nat_lt p (b.first + b.count)

-- What a place is for, by the first block that has it.
abbrev pub role_among : List Block → ℕ → Role
role_among [] p = no_role
role_among (b ∷ bs) p = if is_within b p then b.role (p - b.first) else role_among bs p

-- What a place of the pool is for.
abbrev pub role_at : Plan → ℕ → Role
role_at plan p = role_among (blocks plan) p

-- no place is in two blocks
abbrev pub AreBesides : Block → Block → Type 0
AreBesides b d = (b.first + b.count ≤ d.first) ⊎ (d.first + d.count ≤ b.first)

-- No place is in two of the blocks.
abbrev pub AreSeparate : List Block → Type 0
AreSeparate [] = Unit {0}
AreSeparate (b ∷ bs) = AllByRecursion (AreBesides b) bs × AreSeparate bs

-- An allocator of slots of a kind: its shards hold its slots, and their numbers are below the total of the kind.
pub record IsAllocator (kind : SlotKind) (total : ℕ) (a : Allocator) : Type 0 where
  pub kind_is : a.kind ≡ kind
  pub some : 0 < a.slots_per_shard
  pub apart : 0 < a.step
  pub covered : a.capacity ≤ a.shards * a.slots_per_shard
  pub below : (k : ℕ) → k < a.capacity → number_in a k < total

-- its shards hold its slots, and their places are numbers of 32 bits
pub record IsPlacedAllocator (a : Allocator) : Type 0 where
  pub some : 0 < a.slots_per_shard
  pub apart : 0 < a.step
  pub covered : a.capacity ≤ a.shards * a.slots_per_shard
  pub places : a.first_place + a.shards ≤ 2 ^ 32

-- How many of these allocators have a slot with this number.
abbrev pub have_number : List Allocator → ℕ → ℕ
have_number [] n = 0
have_number (a ∷ as') n = (if has_number a n then 1 else 0) + have_number as' n

-- The allocators of a kind: each number below the total is that of one slot of one of them.
pub record AreAllocators (kind : SlotKind) (total : ℕ) (as' : List Allocator) : Type 0 where
  pub each : AllByRecursion (IsAllocator kind total) as'
  pub one : (n : ℕ) → n < total → have_number as' n ≡ 1

-- The plan of a pool with so many places: each place has one role, and each slot one home.
pub record IsPlanned (plan : Plan) (places : ℕ) : Type 0 where
  pub separate : AreSeparate (blocks plan)
  pub inside : AllByRecursion (λ b. b.first + b.count ≤ places) (blocks plan)
  pub slots : (kind : SlotKind) → AreAllocators kind (of_kind kind plan.totals) (allocators_of plan kind)

-- A slot is at home in the shard that has it, under its number there.
pub record IsAtHome (plan : Plan) (name : SlotName) (home : Home) : Type 0 where
  pub allocator : Allocator
  pub shard : ℕ
  pub kind : allocator.kind ≡ name.kind
  pub role : role_at plan home.place ≡ shard_role allocator shard
  pub inside : home.local.0 < slots_at allocator shard
  pub number : number_at allocator shard home.local.0 ≡ name.slot

-- Each place has the role that its block gives it, and two things have no place together.
abbrev pub SlotsAreAtHome : Type 0
SlotsAreAtHome = (plan : Plan) (places : ℕ) (name : SlotName) → IsPlanned plan places → name.slot < of_kind name.kind plan.totals → IsAtHome plan name (home_of plan name)
