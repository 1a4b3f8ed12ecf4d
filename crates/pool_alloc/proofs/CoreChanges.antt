-- The pool's parts stay sound where one of them changes.
use Rattle.std.proofs.Common.{◌≡◌, ℕ, ◌<◌, List, length, sym, ◌∙◌, subst, inl, inr, get_or, set}
use Rattle.pool_alloc.proofs.Imports.{cases_eq, length-set, get_or-set_same, get_or-set_other, MakerTold, ShardState, IsShard, IsSameShard, CellState, Queue, IsShardOf, Role, cell_place, Allocator, HeapEntry, PoolPart, SlotName, part_at}
use Rattle.pool_alloc.specs.StepReads.{shard_at, heaps_at, with_shard, with_cell, with_queue, with_heaps, with_part, part_holding}
use Rattle.pool_alloc.specs.BetweenSteps.{IsCore, IsPoolPlan, IsShared, IsPartAt, IsPartFor, IsSlotName, IsCellOf}
use Rattle.pool_alloc.specs.declared.pool_core.PoolCore.{PoolCore}
use Rattle.pool_alloc.specs.declared.pool_core.Counters.{Counters}
use Rattle.pool_alloc.proofs.PlanPlaces.{IsShardPlace, IsQueuePlace, cell_role_at, heaps_place}
use Rattle.pool_alloc.proofs.PoolParts.{planned_shard, heaps_long, cell_again, planned_cell}
use Rattle.pool_slots.specs.declared.part.PoolPart.TheVariants as part

-- what holds of an element at its place, where one was replaced
pub at_set : {X : Type 0} (Q : ℕ → X → Type 0) (xs : List X) (j k : ℕ) (x d : X) → k < length xs → Q j x → Q k (get_or xs k d) → Q k (get_or (set xs j x) k d)
at_set {X} Q xs j k x d below new old =
    elim (cases_eq k j) [
      | inl e ↦
          let inside : j < length xs = subst (λ (n : ℕ). n < length xs) e below in
          let now : get_or (set xs j x) j d ≡ x = get_or-set_same xs j x d inside in
          rw (e, now) new
      | inr other ↦
          let now : get_or (set xs j x) k d ≡ get_or xs k d = get_or-set_other xs j k x d other in
          rw now old
    ]

shard_kept_for : (a : Allocator) (j : ℕ) (old new : ShardState) → IsShardOf a j old → IsShard new → IsSameShard old new → IsShardOf a j new
shard_kept_for a j old new was sound same = record { sound = sound; kind = same.kind ∙ was.kind; first = same.first ∙ was.first; step = same.step ∙ was.step; capacity = same.capacity ∙ was.capacity }

module _ {P H : Type 0} where
  core_with_part : (maker : MakerTold) (p : ℕ) (x : PoolPart P H) (c : PoolCore P H) → IsCore maker c → IsPartAt maker c.settings c.plan p x → IsCore maker (with_part p x c)
  core_with_part maker p x c core is =
      let Goal : ℕ → Type 0 = λ n. IsPoolPlan c.plan n in
      record {
        settings = core.settings;
        page = core.page;
        plan = subst Goal (sym (length-set c.parts p x)) core.plan;
        stripes = core.stripes;
        parts = λ q below.
            let under : q < length c.parts = rw (length-set c.parts p x) at below in
            at_set (λ n y. IsPartAt maker c.settings c.plan n y) c.parts p q x _ under is (core.parts q under);
      }

  pub core_with_shard : (maker : MakerTold) (p : ℕ) (shard : ShardState) (c : PoolCore P H) → IsCore maker c → IsShardPlace c.plan p → IsShard shard → IsSameShard (shard_at p c) shard → IsCore maker (with_shard p shard c)
  core_with_shard maker p shard c core place sound same =
      let was = planned_shard maker p c core place in
      let F : Role → Type 0 = λ r. IsPartFor {P = P} {H = H} maker c.settings r (part.Shard shard) in
      core_with_part maker p (part.Shard shard) c core (subst F (sym place.role) (shard_kept_for place.allocator place.index (shard_at p c) shard was sound same))

  pub core_with_cell : (maker : MakerTold) (name : SlotName) (cell : CellState) (c : PoolCore P H) → IsCore maker c → IsSlotName c.plan name → IsCellOf maker c.settings name cell → IsCore maker (with_cell name cell c)
  core_with_cell maker name cell c core named of =
      let p : ℕ = cell_place c.plan name in
      let x : PoolPart P H = part_holding cell (part_at p c.parts) in
      let F : Role → Type 0 = λ r. IsPartFor {P = P} {H = H} maker c.settings r x in
      core_with_part maker p x c core (subst F (sym (cell_role_at c.plan (length c.parts) name core.plan named)) (cell_again maker c.settings name cell (part_at p c.parts) (planned_cell maker name c core named) of))

  pub core_with_queue : (maker : MakerTold) (p : ℕ) (queue : Queue) (c : PoolCore P H) → IsCore maker c → IsQueuePlace c.plan p → IsShared maker c.settings queue → IsCore maker (with_queue p queue c)
  core_with_queue maker p queue c core place shared =
      let F : Role → Type 0 = λ r. IsPartFor {P = P} {H = H} maker c.settings r (part.Queue queue) in
      core_with_part maker p (part.Queue queue) c core (subst F (sym place) shared)

  pub core_with_heaps : (maker : MakerTold) (heaps : List (HeapEntry H)) (c : PoolCore P H) → IsCore maker c → 0 < c.plan.totals.heap → length heaps ≡ length (heaps_at c) → IsCore maker (with_heaps heaps c)
  core_with_heaps maker heaps c core some long =
      let F : Role → Type 0 = λ r. IsPartFor {P = P} {H = H} maker c.settings r (part.Heaps heaps) in
      core_with_part maker c.plan.heap_list (part.Heaps heaps) c core (subst F (sym (heaps_place c.plan (length c.parts) core.plan some)) (long ∙ heaps_long maker c core some))

  -- the counters are no part of it
  pub core_with_counters : (maker : MakerTold) (counters : Counters) (c : PoolCore P H) → IsCore maker c → IsCore maker (record c { counters = counters })
  core_with_counters maker counters c core = record { settings = core.settings; page = core.page; plan = core.plan; stripes = core.stripes; parts = core.parts }
