-- Each part of the pool is what its place is for, also where one of them changes.
use Rattle.std.proofs.Common.{◌≡◌, ℕ, ◌+◌, ◌*◌, ◌<◌, length, ap, subst, ◌∙◌, arith}
use Rattle.pool_alloc.proofs.Imports.{get_or-set_same, get_or-set_other, MakerTold, ShardState, IsShard, slot_number, IsShardOf, IsAt, IsShardPart, part_at, cell_of_part, IsCellPart, Role, shard_role, cell_role, queue_role, heaps_role, role_at, number_at, home_of, cell_place, of_kind, PoolPart, Allocator, Plan, SlotName, CellState}
use Rattle.pool_slots.specs.declared.part.PoolPart.TheVariants as part
use Rattle.pool_alloc.specs.BetweenSteps.{IsShared, IsPartFor, IsCore, IsSlotName, IsCellOf}
use Rattle.pool_alloc.specs.StepReads.{IsQueuePart, IsHeapsPart, shard_in, queue_in, heaps_in, shard_at, queue_at, heaps_at, with_part, part_holding, cell_named}
use Rattle.pool_alloc.specs.declared.pool_core.PoolCore.{PoolCore}
use Rattle.pool_alloc.specs.declared.pool_core.Settings.{Settings}
use Rattle.pool_alloc.proofs.PlanPlaces.{IsShardPlace, IsQueuePlace, IsSlotAt, shard_inside, queue_inside, cell_inside, cell_role_at, heaps_place, heaps_inside, at_home, slot_at}

-- slot k of shard j of an allocator has the number that the shard gives it
pub number_of : (a : Allocator) (j k : ℕ) (s : ShardState) → IsShardOf a j s → slot_number s k ≡ number_at a j k
number_of a j k s is =
    let first : s.first ≡ number_at a j 0 = is.first in
    let step : k * s.step ≡ k * a.step = ap (λ (n : ℕ). k * n) is.step in
    (λ i. first i + step i) ∙ spread a.first (j * a.slots_per_shard) k a.step
  where
    spread : (f m k t : ℕ) → (f + (m + 0) * t) + k * t ≡ f + (m + k) * t
    spread f m k t = omega arith

-- the slot of the pool with this name is one of the shard
pub record HasPlace (plan : Plan) (shard : ShardState) (name : SlotName) : Type 0 where
  pub kind : shard.kind ≡ name.kind
  pub inside : (home_of plan name).local.0 < length shard.used
  pub number : slot_number shard (home_of plan name).local.0 ≡ name.slot

-- the name of a slot of a shard
abbrev pub name_in : ShardState → ℕ → SlotName
name_in shard k = record { kind = shard.kind; slot = slot_number shard k }

module _ {P H : Type 0} where
  -- a part that was replaced, and any other
  pub part_same : (p : ℕ) (x : PoolPart P H) (c : PoolCore P H) → p < length c.parts → part_at p (with_part p x c).parts ≡ x
  part_same p x c below = get_or-set_same c.parts p x _ below

  pub part_other : (p q : ℕ) (x : PoolPart P H) (c : PoolCore P H) → (q ≡ p → ⊥) → part_at q (with_part p x c).parts ≡ part_at q c.parts
  part_other p q x c other = get_or-set_other c.parts p q x _ other

  -- what a part of each role is
  record IsShardFor (a : Allocator) (j : ℕ) (x : PoolPart P H) : Type 0 where
    part : IsShardPart x
    is : IsShardOf a j (shard_in x)

  shard_for : (maker : MakerTold) (s : Settings) (a : Allocator) (j : ℕ) (x : PoolPart P H) → IsPartFor maker s (shard_role a j) x → IsShardFor a j x
  shard_for maker s a j (part.Shard shard) is = record { part = tt; is = is }
  shard_for maker s a j (part.Memory cell) is = absurd is
  shard_for maker s a j (part.Queue q) is = absurd is
  shard_for maker s a j (part.Table cell) is = absurd is
  shard_for maker s a j (part.Stack cell) is = absurd is
  shard_for maker s a j (part.Heaps heaps) is = absurd is

  cell_for : (maker : MakerTold) (s : Settings) (name : SlotName) (x : PoolPart P H) → IsPartFor maker s (cell_role name) x → IsCellPart x × IsCellOf maker s name (cell_of_part x)
  cell_for maker s name (part.Shard shard) is = absurd is
  cell_for maker s name (part.Memory cell) is = (tt, is.1)
  cell_for maker s name (part.Queue q) is = absurd is
  cell_for maker s name (part.Table cell) is = (tt, is.1)
  cell_for maker s name (part.Stack cell) is = (tt, is.1)
  cell_for maker s name (part.Heaps heaps) is = absurd is

  -- a cell in another state is that of the same slot
  pub cell_again : (maker : MakerTold) (s : Settings) (name : SlotName) (cell : CellState) (x : PoolPart P H) → IsPartFor maker s (cell_role name) x → IsCellOf maker s name cell → IsPartFor maker s (cell_role name) (part_holding cell x)
  cell_again maker s name cell (part.Memory old) is new = (is.0, new)
  cell_again maker s name cell (part.Table old) is new = (is.0, new)
  cell_again maker s name cell (part.Stack old) is new = (is.0, new)
  cell_again maker s name cell x is new = absurd is

  queue_for : (maker : MakerTold) (s : Settings) (x : PoolPart P H) → IsPartFor maker s queue_role x → IsQueuePart x × IsShared maker s (queue_in x)
  queue_for maker s (part.Shard shard) is = absurd is
  queue_for maker s (part.Memory cell) is = absurd is
  queue_for maker s (part.Queue q) is = (tt, is)
  queue_for maker s (part.Table cell) is = absurd is
  queue_for maker s (part.Stack cell) is = absurd is
  queue_for maker s (part.Heaps heaps) is = absurd is

  heaps_for : (maker : MakerTold) (s : Settings) (n : ℕ) (x : PoolPart P H) → IsPartFor maker s (heaps_role n) x → IsHeapsPart x × (length (heaps_in x) ≡ n)
  heaps_for maker s n (part.Shard shard) is = absurd is
  heaps_for maker s n (part.Memory cell) is = absurd is
  heaps_for maker s n (part.Queue q) is = absurd is
  heaps_for maker s n (part.Table cell) is = absurd is
  heaps_for maker s n (part.Stack cell) is = absurd is
  heaps_for maker s n (part.Heaps heaps) is = (tt, is)

  -- so it is of the parts at their places
  part_for : (maker : MakerTold) (c : PoolCore P H) (p : ℕ) (r : Role) → IsCore maker c → p < length c.parts → role_at c.plan p ≡ r → IsPartFor maker c.settings r (part_at p c.parts)
  part_for maker c p r core inside role =
      let F : Role → Type 0 = λ x. IsPartFor maker c.settings x (part_at p c.parts) in
      subst F role (core.parts p inside)

  shard_there : (maker : MakerTold) (p : ℕ) (c : PoolCore P H) → IsCore maker c → (place : IsShardPlace c.plan p) → IsShardFor place.allocator place.index (part_at p c.parts)
  shard_there maker p c core place = shard_for maker c.settings place.allocator place.index (part_at p c.parts) (part_for maker c p (shard_role place.allocator place.index) core (shard_inside c.plan (length c.parts) p core.plan place) place.role)

  pub planned_cell : (maker : MakerTold) (name : SlotName) (c : PoolCore P H) → IsCore maker c → IsSlotName c.plan name → IsPartFor maker c.settings (cell_role name) (part_at (cell_place c.plan name) c.parts)
  planned_cell maker name c core named = part_for maker c (cell_place c.plan name) (cell_role name) core (cell_inside c.plan (length c.parts) name core.plan named) (cell_role_at c.plan (length c.parts) name core.plan named)

  cell_there : (maker : MakerTold) (name : SlotName) (c : PoolCore P H) → IsCore maker c → IsSlotName c.plan name → IsCellPart (part_at (cell_place c.plan name) c.parts) × IsCellOf maker c.settings name (cell_named name c)
  cell_there maker name c core named = cell_for maker c.settings name (part_at (cell_place c.plan name) c.parts) (planned_cell maker name c core named)

  queue_there : (maker : MakerTold) (p : ℕ) (c : PoolCore P H) → IsCore maker c → IsQueuePlace c.plan p → IsQueuePart (part_at p c.parts) × IsShared maker c.settings (queue_at p c)
  queue_there maker p c core place = queue_for maker c.settings (part_at p c.parts) (part_for maker c p queue_role core (queue_inside c.plan (length c.parts) p core.plan place) place)

  heaps_there : (maker : MakerTold) (c : PoolCore P H) → IsCore maker c → 0 < c.plan.totals.heap → IsHeapsPart (part_at c.plan.heap_list c.parts) × (length (heaps_at c) ≡ c.plan.totals.heap)
  heaps_there maker c core some =
      let place = heaps_place c.plan (length c.parts) core.plan some in
      heaps_for maker c.settings c.plan.totals.heap (part_at c.plan.heap_list c.parts) (part_for maker c c.plan.heap_list (heaps_role c.plan.totals.heap) core (heaps_inside c.plan (length c.parts) c.plan.heap_list core.plan place) place)

  -- A shard, the cell of a slot, a queue, and the list of heaps: it is one,
  pub shard_part : (maker : MakerTold) (p : ℕ) (c : PoolCore P H) → IsCore maker c → IsShardPlace c.plan p → IsAt IsShardPart p c.parts
  shard_part maker p c core place = record { inside = shard_inside c.plan (length c.parts) p core.plan place; part = (shard_there maker p c core place).part }

  pub cell_part : (maker : MakerTold) (name : SlotName) (c : PoolCore P H) → IsCore maker c → IsSlotName c.plan name → IsAt IsCellPart (cell_place c.plan name) c.parts
  cell_part maker name c core named = record { inside = cell_inside c.plan (length c.parts) name core.plan named; part = (cell_there maker name c core named).0 }

  pub queue_part : (maker : MakerTold) (p : ℕ) (c : PoolCore P H) → IsCore maker c → IsQueuePlace c.plan p → IsAt IsQueuePart p c.parts
  queue_part maker p c core place = record { inside = queue_inside c.plan (length c.parts) p core.plan place; part = (queue_there maker p c core place).0 }

  pub heaps_part : (maker : MakerTold) (c : PoolCore P H) → IsCore maker c → 0 < c.plan.totals.heap → IsAt IsHeapsPart c.plan.heap_list c.parts
  heaps_part maker c core some = record { inside = heaps_inside c.plan (length c.parts) c.plan.heap_list core.plan (heaps_place c.plan (length c.parts) core.plan some); part = (heaps_there maker c core some).0 }

  -- and is sound.
  pub planned_shard : (maker : MakerTold) (p : ℕ) (c : PoolCore P H) → IsCore maker c → (place : IsShardPlace c.plan p) → IsShardOf place.allocator place.index (shard_at p c)
  planned_shard maker p c core place = (shard_there maker p c core place).is

  pub sound_shard : (maker : MakerTold) (p : ℕ) (c : PoolCore P H) → IsCore maker c → IsShardPlace c.plan p → IsShard (shard_at p c)
  sound_shard maker p c core place = (shard_there maker p c core place).is.sound

  pub sound_cell : (maker : MakerTold) (name : SlotName) (c : PoolCore P H) → IsCore maker c → IsSlotName c.plan name → IsCellOf maker c.settings name (cell_named name c)
  sound_cell maker name c core named = (cell_there maker name c core named).1

  pub sound_queue : (maker : MakerTold) (p : ℕ) (c : PoolCore P H) → IsCore maker c → IsQueuePlace c.plan p → IsShared maker c.settings (queue_at p c)
  sound_queue maker p c core place = (queue_there maker p c core place).1

  pub heaps_long : (maker : MakerTold) (c : PoolCore P H) → IsCore maker c → 0 < c.plan.totals.heap → length (heaps_at c) ≡ c.plan.totals.heap
  heaps_long maker c core some = (heaps_there maker c core some).1

  -- A slot of the pool is one of its shard, and each slot of a shard is one of the pool, and at home there.
  pub place_of : (maker : MakerTold) (c : PoolCore P H) (name : SlotName) → IsCore maker c → name.slot < of_kind name.kind c.plan.totals → HasPlace c.plan (shard_at (home_of c.plan name).place c) name
  place_of maker c name core inside =
      let p : ℕ = (home_of c.plan name).place in
      let home = at_home c.plan (length c.parts) name core.plan inside in
      let is : IsShardOf home.allocator home.shard (shard_at p c) = (shard_there maker p c core (record { allocator = home.allocator; index = home.shard; role = home.role })).is in
      record {
        kind = is.kind ∙ home.kind;
        inside = omega (arith, home.inside, is.capacity, is.sound.entries);
        number = number_of home.allocator home.shard (home_of c.plan name).local.0 _ is ∙ home.number;
      }

  pub slot_of_shard : (maker : MakerTold) (p k : ℕ) (c : PoolCore P H) → IsCore maker c → IsShardPlace c.plan p → k < (shard_at p c).capacity → IsSlotAt c.plan p (name_in (shard_at p c) k)
  slot_of_shard maker p k c core place below =
      let is = shard_there maker p c core place in
      slot_at c.plan (length c.parts) p place.allocator place.index k (name_in (shard_at p c) k) core.plan place.role (omega (arith, below, is.is.capacity)) is.is.kind (number_of place.allocator place.index k (shard_at p c) is.is)
