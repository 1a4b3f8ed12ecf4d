-- What the places of a right plan are for, and where slots are at home.
use Rattle.std.proofs.Common.{◌≡◌, ℕ, ◌+◌, ◌*◌, ◌-◌, ◌<◌, ◌≤◌, List, [], ◌∷◌, length, refl, sym, ap, subst, ◌∙◌, arith, get_or, inl, inr, true, false, min, Bool, map, ◌⊎◌, ◌++◌, if◌then◌else◌, ◌%◌, nat_le, nat_lt, zero, suc}
use Rattle.pool_alloc.proofs.Imports.{each_at, SlotName, AllByRecursion, cases_Bool, and_parts, ltb-true, leb-true, mod-lt, SlotKind, memory_kind, table_kind, stack_kind, heap_kind, of_kind, Role, shard_role, cell_role, queue_role, heaps_role, no_role, Block, blocks, is_within, role_among, role_at, slots_at, number_in, have_number, IsAllocator, IsAtHome, home_of, cell_place, allocators_of, shards_block, cells_block, allocators, Allocator, Plan, roles, HasShards, shards_of, slots_are_at_home, shard_of_kind, home_there}
use Rattle.pool_alloc.specs.StepBounds.{most_shards, searched_allocators}
use Rattle.pool_alloc.specs.BetweenSteps.{IsStripe, IsPoolPlan, HasCells, IsSlotName}
use Rattle.pool_alloc.specs.StepReads.{memory_slots, no_allocator, stripe_allocator, allocator_of, allocator_for, kind_next, shard_tried, queue_tried, queues_searched}
use Rattle.pool_alloc.specs.declared.frame.Frame.{Frame}

-- a place with a role is one of the pool
role_inside : (bs : List Block) (places p : ℕ) (r : Role) → AllByRecursion (λ b. b.first + b.count ≤ places) bs → role_among bs p ≡ r → (no_role ≡ r → ⊥) → p < places
role_inside [] places p r each e some = absurd (some e)
role_inside (b ∷ bs) places p r each e some =
    elim (cases_Bool (is_within b p)) [
      | inl is ↦
          let parts = and_parts (nat_le b.first p) (nat_lt p (b.first + b.count)) is in
          omega (arith, ltb-true p (b.first + b.count) parts.1, each.0)
      | inr other ↦
          let passed : role_among (b ∷ bs) p ≡ role_among bs p = rw other refl in
          role_inside bs places p r each.1 (sym passed ∙ e) some
    ]

-- what a role is of, as a number
abbrev role_number : Role → ℕ
role_number (shard_role a j) = 1
role_number (cell_role name) = 2
role_number queue_role = 3
role_number (heaps_role n) = 4
role_number no_role = 0

-- the place is one of a shard, which has such a number in its allocator
pub record IsShardPlace (plan : Plan) (p : ℕ) : Type 0 where
  pub allocator : Allocator
  pub index : ℕ
  pub role : role_at plan p ≡ shard_role allocator index

abbrev pub IsQueuePlace : Plan → ℕ → Type 0
IsQueuePlace plan p = role_at plan p ≡ queue_role

pub shard_inside : (plan : Plan) (places p : ℕ) → IsPoolPlan plan places → IsShardPlace plan p → p < places
shard_inside plan places p is place = role_inside (blocks plan) places p (shard_role place.allocator place.index) is.planned.inside place.role (λ e. let no : ◌≡◌ {A = ℕ} 0 1 = ap role_number e in omega arith)

pub queue_inside : (plan : Plan) (places p : ℕ) → IsPoolPlan plan places → IsQueuePlace plan p → p < places
queue_inside plan places p is role = role_inside (blocks plan) places p queue_role is.planned.inside role (λ e. let no : ◌≡◌ {A = ℕ} 0 3 = ap role_number e in omega arith)

-- two places of different roles are two
pub apart_places : (plan : Plan) (p q : ℕ) → IsShardPlace plan p → IsQueuePlace plan q → p ≡ q → ⊥
apart_places plan p q place role e = let no : ◌≡◌ {A = ℕ} 1 3 = sym (ap role_number place.role) ∙ ap (λ (n : ℕ). role_number (role_at plan n)) e ∙ ap role_number role in omega arith

-- the list of heaps has its place, where there are heaps
abbrev pub IsHeapsPlace : Plan → ℕ → Type 0
IsHeapsPlace plan p = role_at plan p ≡ heaps_role plan.totals.heap

pub heaps_place : (plan : Plan) (places : ℕ) → IsPoolPlan plan places → 0 < plan.totals.heap → IsHeapsPlace plan plan.heap_list
heaps_place plan places is some =
    let none : plan.heap_list + 0 ≡ plan.heap_list = omega arith in
    subst (IsHeapsPlace plan) none ((roles (blocks plan) is.planned.separate).1.1.1.1.0 0 (omega (arith, some)))

pub heaps_inside : (plan : Plan) (places p : ℕ) → IsPoolPlan plan places → IsHeapsPlace plan p → p < places
heaps_inside plan places p is role = role_inside (blocks plan) places p (heaps_role plan.totals.heap) is.planned.inside role (λ e. let no : ◌≡◌ {A = ℕ} 0 4 = ap role_number e in omega arith)

-- the cell of a slot of the pool has its place
abbrev IsCellPlace : Plan → ℕ → SlotKind → ℕ → Type 0
IsCellPlace plan places kind slot = (role_at plan (of_kind kind plan.cells + slot) ≡ cell_role (record { kind = kind; slot = slot })) × (of_kind kind plan.cells + slot < places)

cell_place_of : (plan : Plan) (places : ℕ) (kind : SlotKind) (slot : ℕ) → IsPoolPlan plan places → HasCells kind → slot < of_kind kind plan.totals → IsCellPlace plan places kind slot
cell_place_of plan places memory_kind slot is cells below = ((roles (blocks plan) is.planned.separate).0 slot below, omega (arith, is.planned.inside.0, below))
cell_place_of plan places table_kind slot is cells below = ((roles (blocks plan) is.planned.separate).1.0 slot below, omega (arith, is.planned.inside.1.0, below))
cell_place_of plan places stack_kind slot is cells below = ((roles (blocks plan) is.planned.separate).1.1.0 slot below, omega (arith, is.planned.inside.1.1.0, below))
cell_place_of plan places heap_kind slot is cells below = absurd cells

pub cell_role_at : (plan : Plan) (places : ℕ) (name : SlotName) → IsPoolPlan plan places → IsSlotName plan name → role_at plan (cell_place plan name) ≡ cell_role name
cell_role_at plan places name is named = (cell_place_of plan places name.kind name.slot is named.cells named.inside).0

pub cell_inside : (plan : Plan) (places : ℕ) (name : SlotName) → IsPoolPlan plan places → IsSlotName plan name → cell_place plan name < places
cell_inside plan places name is named = (cell_place_of plan places name.kind name.slot is named.cells named.inside).1

pub queue_no_cell : (plan : Plan) (places p : ℕ) (name : SlotName) → IsPoolPlan plan places → IsSlotName plan name → IsQueuePlace plan p → p ≡ cell_place plan name → ⊥
queue_no_cell plan places p name is named role e =
    let no : ◌≡◌ {A = ℕ} 3 2 = sym (ap role_number role) ∙ ap (λ (n : ℕ). role_number (role_at plan n)) e ∙ ap role_number (cell_role_at plan places name is named) in
    omega arith

-- The allocator of a stripe is one of the plan's.
pub stripe_is : (plan : Plan) (places stripe : ℕ) → IsPoolPlan plan places → stripe < length plan.memories → IsStripe (stripe_allocator plan stripe)
stripe_is plan places stripe is below = each_at IsStripe plan.memories stripe no_allocator below is.shards

pub stripe_holds : (plan : Plan) (places stripe : ℕ) → IsPoolPlan plan places → stripe < length plan.memories → IsAllocator memory_kind (memory_slots plan) (stripe_allocator plan stripe)
stripe_holds plan places stripe is below = each_at (IsAllocator memory_kind (memory_slots plan)) plan.memories stripe no_allocator below (is.planned.slots memory_kind).each

pub stripe_role : (plan : Plan) (places stripe i : ℕ) → IsPoolPlan plan places → stripe < length plan.memories → i < (stripe_allocator plan stripe).shards → role_at plan ((stripe_allocator plan stripe).first_place + i) ≡ shard_role (stripe_allocator plan stripe) i
stripe_role plan places stripe i is below inside = each_at (HasShards plan) plan.memories stripe no_allocator below (shards_of plan memory_kind is.planned.separate) i inside

-- it has no more shards than the most
most_at : (all : List Allocator) (i : ℕ) (d : Allocator) → i < length all → (get_or all i d).shards ≤ most_shards all
most_at [] i d below = absurd (omega arith)
most_at (a ∷ more) zero d below = omega arith
most_at (a ∷ more) (suc i) d below = omega (arith, most_at more i d (omega (arith, below)))

most_more : (some more : List Allocator) → (most_shards some ≤ most_shards (some ++ more)) × (most_shards more ≤ most_shards (some ++ more))
most_more [] more = (omega arith, omega arith)
most_more (a ∷ some) more = let rest = most_more some more in (omega (arith, rest.0), omega (arith, rest.1))

-- The allocator of what is allocated is one of the plan's.
pub allocator_is : (plan : Plan) (places : ℕ) (kind : SlotKind) (stripe : ℕ) → IsPoolPlan plan places → stripe < length plan.memories → IsStripe (allocator_of plan kind stripe)
allocator_is plan places table_kind stripe is below = each_at IsStripe plan.tables 0 no_allocator is.tables is.table_shards
allocator_is plan places memory_kind stripe is below = stripe_is plan places stripe is below
allocator_is plan places stack_kind stripe is below = each_at IsStripe plan.stacks 0 no_allocator is.stacks is.stack_shards
allocator_is plan places heap_kind stripe is below = each_at IsStripe plan.heaps 0 no_allocator is.heaps is.heap_shards

pub allocator_role : (plan : Plan) (places : ℕ) (kind : SlotKind) (stripe i : ℕ) → IsPoolPlan plan places → stripe < length plan.memories → i < (allocator_of plan kind stripe).shards → role_at plan ((allocator_of plan kind stripe).first_place + i) ≡ shard_role (allocator_of plan kind stripe) i
allocator_role plan places table_kind stripe i is below inside = each_at (HasShards plan) plan.tables 0 no_allocator is.tables (shards_of plan table_kind is.planned.separate) i inside
allocator_role plan places memory_kind stripe i is below inside = stripe_role plan places stripe i is below inside
allocator_role plan places stack_kind stripe i is below inside = each_at (HasShards plan) plan.stacks 0 no_allocator is.stacks (shards_of plan stack_kind is.planned.separate) i inside
allocator_role plan places heap_kind stripe i is below inside = each_at (HasShards plan) plan.heaps 0 no_allocator is.heaps (shards_of plan heap_kind is.planned.separate) i inside

pub allocator_most : (plan : Plan) (places : ℕ) (kind : SlotKind) (stripe : ℕ) → IsPoolPlan plan places → stripe < length plan.memories → (allocator_of plan kind stripe).shards ≤ most_shards (searched_allocators plan)
allocator_most plan places table_kind stripe is below = omega (arith, (most_more (plan.memories ++ (plan.tables ++ plan.stacks)) plan.heaps).0, most_at plan.tables 0 no_allocator is.tables, (most_more plan.tables plan.stacks).0, (most_more plan.memories (plan.tables ++ plan.stacks)).1)
allocator_most plan places stack_kind stripe is below = omega (arith, (most_more (plan.memories ++ (plan.tables ++ plan.stacks)) plan.heaps).0, most_at plan.stacks 0 no_allocator is.stacks, (most_more plan.tables plan.stacks).1, (most_more plan.memories (plan.tables ++ plan.stacks)).1)
allocator_most plan places memory_kind stripe is below = omega (arith, (most_more (plan.memories ++ (plan.tables ++ plan.stacks)) plan.heaps).0, most_at plan.memories stripe no_allocator below, (most_more plan.memories (plan.tables ++ plan.stacks)).0)
allocator_most plan places heap_kind stripe is below = omega (arith, most_at plan.heaps 0 no_allocator is.heaps, (most_more (plan.memories ++ (plan.tables ++ plan.stacks)) plan.heaps).1)

-- it holds slots of that kind
pub allocator_held : (plan : Plan) (places : ℕ) (kind : SlotKind) (stripe : ℕ) → IsPoolPlan plan places → stripe < length plan.memories → IsAllocator kind (of_kind kind plan.totals) (allocator_of plan kind stripe)
allocator_held plan places table_kind stripe is below = each_at (IsAllocator table_kind plan.totals.table) plan.tables 0 no_allocator is.tables (is.planned.slots table_kind).each
allocator_held plan places memory_kind stripe is below = stripe_holds plan places stripe is below
allocator_held plan places stack_kind stripe is below = each_at (IsAllocator stack_kind plan.totals.stack) plan.stacks 0 no_allocator is.stacks (is.planned.slots stack_kind).each
allocator_held plan places heap_kind stripe is below = each_at (IsAllocator heap_kind plan.totals.heap) plan.heaps 0 no_allocator is.heaps (is.planned.slots heap_kind).each

pub allocator_holds : {P H : Type 0} (plan : Plan) (places : ℕ) (f : Frame P H) → IsPoolPlan plan places → f.stripe < length plan.memories → IsAllocator (kind_next f) (of_kind (kind_next f) plan.totals) (allocator_for plan f)
allocator_holds plan places f is stripe = allocator_held plan places (kind_next f) f.stripe is stripe

-- The home of a slot.
pub at_home : (plan : Plan) (places : ℕ) (name : SlotName) → IsPoolPlan plan places → name.slot < of_kind name.kind plan.totals → IsAtHome plan name (home_of plan name)
at_home plan places name is inside = slots_are_at_home plan places name is.planned inside

pub home_place : (plan : Plan) (places : ℕ) (name : SlotName) → IsPoolPlan plan places → name.slot < of_kind name.kind plan.totals → IsShardPlace plan (home_of plan name).place
home_place plan places name is inside =
    let home = at_home plan places name is inside in
    record { allocator = home.allocator; index = home.shard; role = home.role }

-- a slot of the pool is one of its allocators'
pub has_home : (plan : Plan) (places : ℕ) (name : SlotName) → IsPoolPlan plan places → name.slot < of_kind name.kind plan.totals → 0 < have_number (allocators_of plan name.kind) name.slot
has_home plan places name is inside = omega (arith, (is.planned.slots name.kind).one name.slot inside)

-- A slot of a shard is one of the pool, and at home there.
pub record IsSlotAt (plan : Plan) (p : ℕ) (name : SlotName) : Type 0 where
  pub inside : name.slot < of_kind name.kind plan.totals
  pub home : p ≡ (home_of plan name).place

pub slot_at : (plan : Plan) (places p : ℕ) (a : Allocator) (j k : ℕ) (name : SlotName) → IsPoolPlan plan places → role_at plan p ≡ shard_role a j → k < slots_at a j → name.kind ≡ a.kind → name.slot ≡ number_in a (j * a.slots_per_shard + k) → IsSlotAt plan p name
slot_at plan places p a j k name is role below kind number =
    let of' = shard_of_kind plan places p a j is.planned role in
    let total : of_kind of'.kind plan.totals ≡ of_kind name.kind plan.totals = ap (λ (x : SlotKind). of_kind x plan.totals) (sym of'.is ∙ sym kind) in
    let in_shard : j * a.slots_per_shard + k < a.capacity = omega (arith, below) in
    record {
      inside = omega (arith, number, of'.allocator.below (j * a.slots_per_shard + k) in_shard, total);
      home = home_there plan places p a j k name is.planned role kind below number;
    }

-- A place whose role is a queue is one of the queues.
passed_role : (b : Bool) (x y r : Role) → (if b then x else y) ≡ r → (role_number x ≡ role_number r → ⊥) → y ≡ r
passed_role true x y r e other = absurd (other (ap role_number e))
passed_role false x y r e other = e

no_shard : (as' : List Allocator) (p : ℕ) (r : Role) → role_among (map shards_block as') p ≡ r → 1 < role_number r → ⊥
no_shard [] p r e more = let no : ◌≡◌ {A = ℕ} 0 (role_number r) = ap role_number e in omega arith
no_shard (a ∷ as') p r e more =
    no_shard as' p r (passed_role (is_within (shards_block a) p) (shard_role a (p - a.first_place)) (role_among (map shards_block as') p) r e (λ same. let no : ◌≡◌ {A = ℕ} 1 (role_number r) = same in omega arith)) more

pub queue_of_role : (plan : Plan) (places p : ℕ) → IsPoolPlan plan places → IsQueuePlace plan p → (i : ℕ) × (i < plan.queues) × (plan.first_queue + i ≡ p)
queue_of_role plan places p is role =
    let queues : Block = record { first = plan.first_queue; count = plan.queues; role = λ i. queue_role } in
    let heaps : Block = record { first = plan.heap_list; count = min 1 plan.totals.heap; role = λ i. heaps_role plan.totals.heap } in
    let shards : List Block = map shards_block (allocators plan) in
    let cell : (kind : SlotKind) → ℕ → Role = λ kind q. cell_role (record { kind = kind; slot = q - of_kind kind plan.cells }) in
    let no_cell : ◌≡◌ {A = ℕ} 2 3 → ⊥ = λ e. omega (arith, e) in
    let e1 = passed_role (is_within (cells_block plan memory_kind) p) (cell memory_kind p) _ queue_role role no_cell in
    let e2 = passed_role (is_within (cells_block plan table_kind) p) (cell table_kind p) _ queue_role e1 no_cell in
    let e3 : role_among (queues ∷ heaps ∷ shards) p ≡ queue_role = passed_role (is_within (cells_block plan stack_kind) p) (cell stack_kind p) _ queue_role e2 no_cell in
    elim (cases_Bool (is_within queues p)) [
      | inl here ↦
          let parts = and_parts (nat_le plan.first_queue p) (nat_lt p (plan.first_queue + plan.queues)) here in
          let from : plan.first_queue ≤ p = leb-true plan.first_queue p parts.0 in
          let below : p < plan.first_queue + plan.queues = ltb-true p (plan.first_queue + plan.queues) parts.1 in
          (p - plan.first_queue, omega (arith, from, below), omega (arith, from))
      | inr other ↦
          let e4 : role_among (heaps ∷ shards) p ≡ queue_role = (let passed : role_among (queues ∷ heaps ∷ shards) p ≡ role_among (heaps ∷ shards) p = rw other refl in sym passed ∙ e3) in
          absurd (no_shard (allocators plan) p queue_role (passed_role (is_within heaps p) (heaps_role plan.totals.heap) (role_among shards p) queue_role e4 (λ same. let no : ◌≡◌ {A = ℕ} 4 3 = same in omega arith)) (omega arith))
    ]

-- a cell whose place the plan has is that of a slot of the pool
cell_in : (plan : Plan) (kind : SlotKind) (p : ℕ) (name : SlotName) (rest : Role) → (if is_within (cells_block plan kind) p then cell_role (record { kind = kind; slot = p - of_kind kind plan.cells }) else rest) ≡ cell_role name → (name.slot < of_kind name.kind plan.totals) ⊎ (rest ≡ cell_role name)
cell_in plan kind p name rest e =
    let b : Block = cells_block plan kind in
    let its : SlotName = record { kind = kind; slot = p - of_kind kind plan.cells } in
    let name_of : Role → SlotName = λ r. named r name in
    elim (cases_Bool (is_within b p)) [
      | inl here ↦
          let parts = and_parts (nat_le b.first p) (nat_lt p (b.first + b.count)) here in
          let below : its.slot < of_kind its.kind plan.totals = omega (arith, leb-true b.first p parts.0, ltb-true p (b.first + b.count) parts.1) in
          let now : cell_role its ≡ cell_role name = (let taken : (if is_within b p then cell_role its else rest) ≡ cell_role its = rw here refl in sym taken ∙ e) in
          inl (subst (λ (x : SlotName). x.slot < of_kind x.kind plan.totals) (ap name_of now) below)
      | inr other ↦ inr (let passed : (if is_within b p then cell_role its else rest) ≡ rest = rw other refl in sym passed ∙ e)
    ]
  where
    named : Role → SlotName → SlotName
    named (cell_role x) d = x
    named (shard_role a j) d = d
    named queue_role d = d
    named (heaps_role n) d = d
    named no_role d = d

pub cell_below : (plan : Plan) (p : ℕ) (name : SlotName) → role_at plan p ≡ cell_role name → name.slot < of_kind name.kind plan.totals
cell_below plan p name role =
    let queues : Block = record { first = plan.first_queue; count = plan.queues; role = λ i. queue_role } in
    let heaps : Block = record { first = plan.heap_list; count = min 1 plan.totals.heap; role = λ i. heaps_role plan.totals.heap } in
    let shards : List Block = map shards_block (allocators plan) in
    elim (cell_in plan memory_kind p name (role_among (cells_block plan table_kind ∷ cells_block plan stack_kind ∷ queues ∷ heaps ∷ shards) p) role) [
      | inl below ↦ below
      | inr rest ↦ elim (cell_in plan table_kind p name (role_among (cells_block plan stack_kind ∷ queues ∷ heaps ∷ shards) p) rest) [
        | inl below ↦ below
        | inr rest ↦ elim (cell_in plan stack_kind p name (role_among (queues ∷ heaps ∷ shards) p) rest) [
          | inl below ↦ below
          | inr rest ↦
              let e4 = passed_role (is_within queues p) queue_role (role_among (heaps ∷ shards) p) (cell_role name) rest (λ same. let no : ◌≡◌ {A = ℕ} 3 2 = same in omega arith) in
              let e5 = passed_role (is_within heaps p) (heaps_role plan.totals.heap) (role_among shards p) (cell_role name) e4 (λ same. let no : ◌≡◌ {A = ℕ} 4 2 = same in omega arith) in
              absurd (no_shard (allocators plan) p (cell_role name) e5 (omega arith))
        ]
      ]
    ]

-- the places of the queues
pub queue_role_at : (plan : Plan) (places i : ℕ) → IsPoolPlan plan places → i < plan.queues → role_at plan (plan.first_queue + i) ≡ queue_role
queue_role_at plan places i is below = (roles (blocks plan) is.planned.separate).1.1.1.0 i below

-- a search goes through all queues
pub queues_all : (plan : Plan) → queues_searched plan ≡ plan.queues
queues_all plan = refl

module _ {P H : Type 0} where
  -- The shard that is tried, and the queue, has its place.
  pub tried_role : (tried : ℕ) (plan : Plan) (places : ℕ) (f : Frame P H) → IsPoolPlan plan places → f.stripe < length plan.memories → role_at plan (shard_tried tried plan f) ≡ shard_role (allocator_for plan f) ((f.home + tried) % (allocator_for plan f).shards)
  tried_role tried plan places f is stripe =
      allocator_role plan places (kind_next f) f.stripe ((f.home + tried) % (allocator_for plan f).shards) is stripe (mod-lt (f.home + tried) (allocator_is plan places (kind_next f) f.stripe is stripe).some)

  pub tried_is_shard : (tried : ℕ) (plan : Plan) (places : ℕ) (f : Frame P H) → IsPoolPlan plan places → f.stripe < length plan.memories → IsShardPlace plan (shard_tried tried plan f)
  tried_is_shard tried plan places f is stripe = record { allocator = allocator_for plan f; index = (f.home + tried) % (allocator_for plan f).shards; role = tried_role tried plan places f is stripe }

  pub queue_tried_at : (plan : Plan) (queues : ℕ) (f : Frame P H) → queue_tried queues plan f ≡ plan.first_queue + (f.home + queues) % plan.queues
  queue_tried_at plan queues f = refl

  pub tried_is_queue : (queues : ℕ) (plan : Plan) (places : ℕ) (f : Frame P H) → IsPoolPlan plan places → IsQueuePlace plan (queue_tried queues plan f)
  tried_is_queue queues plan places f is =
      let n : ℕ = (f.home + queues) % plan.queues in
      ap (role_at plan) (queue_tried_at plan queues f) ∙ queue_role_at plan places n is (mod-lt (f.home + queues) is.queues)
