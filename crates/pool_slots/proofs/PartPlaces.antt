-- The parts of a pool, made one behind the other, stand at the places that the plan has for them.
use Rattle.std.proofs.Common.{◌≡◌, ℕ, zero, suc, ◌+◌, ◌-◌, ◌<◌, ◌≤◌, List, [], ◌∷◌, ◌++◌, length, get_or, refl, sym, ap, ◌∙◌, subst, append_assoc, append-nil, inl, inr, Ok, Err, arith, map, min, Bool, false, Option, None, Some, IfSome, Result, IfErr, MatchResult}
use Rattle.pool_slots.proofs.Imports.{AllByRecursion, range_with_len, cases_lt, lt-ltb, le-ltb, length-append, get_or_append_left, get_or-append_right, length-map-range_with_len, get_or-map-range_with_len, SlotKind, MakerTold, Planned}
use Rattle.pool_hall.specs.declared.unit_name.SlotKind.TheVariants as of_slot
use Rattle.pool_slots.specs.Cells.{taken}
use Rattle.pool_slots.specs.Colourings.{RaisesUnlessGivenUp, RaisesBehindUnlessGivenUp}
use Rattle.pool_slots.specs.Makings.{IsListedPoolFault}
use Rattle.pool_slots.specs.Parts.{part_at}
use Rattle.pool_slots.specs.PartsMade.{region_count, nth_region, cell_part_made, shard_part, shard_parts, queue_made, heaps_parts, HaveNumbers, IsCellMade, IsMadeAs, AreMadeTo}
use Rattle.pool_slots.specs.Plans.{Block, Role, allocators_of, blocks, role_at, cell_role, queue_role, heaps_role}
use Rattle.pool_slots.specs.PlansMade.{heaps_from, queues_from, shards_planned, places_planned}
use Rattle.pool_slots.specs.RegionCells.{cell_made}
use Rattle.pool_slots.specs.SlotNames.{slot_kind}
use Rattle.pool_slots.specs.StripedPlans.{divided, IsStripedPlanOf, shards_before}
use Rattle.pool_slots.specs.declared.queued_range.QueueKind.{QueueKind}
use Rattle.pool_slots.specs.declared.queued_range.QueueKind.TheVariants as of_queue
use Rattle.pool_slots.specs.declared.errors.PoolNewError.{PoolNewError}
use Rattle.pool_slots.specs.declared.errors.PoolNewError.TheVariants as refused
use Rattle.pool_slots.specs.declared.slot_name.OfKinds.{OfKinds}
use Rattle.pool_slots.specs.declared.plan.Allocator.{Allocator}
use Rattle.pool_slots.specs.declared.plan.Plan.{Plan}
use Rattle.pool_slots.specs.declared.part.PoolPart.{PoolPart}
use Rattle.pool_slots.specs.declared.part.PoolPart.TheVariants as part
use Rattle.pool_slots.specs.declared.part_maker.PartSettings.{PartSettings}
use Rattle.pool_slots.specs.declared.striped_plan.StripedPlanSettings.{StripedPlanSettings}
use Rattle.pool_slots.proofs.Planning.{HasRoles, roles, HasShards, shards_of}
use Rattle.pool_slots.proofs.PlansMade.{AreTiled}
use Rattle.pool_slots.proofs.StripedPlans.{planned, tiled}

-- where the nth region is a stack's there are stacks
pub stacks_some : (totals : OfKinds) (n : ℕ) → n < region_count totals → (nth_region totals n).0 ≡ of_queue.Stack → 0 < totals.stack
stacks_some totals n inside is =
    elim (cases_lt n totals.memory) [
      | inl memory ↦ let other = rw (lt-ltb n totals.memory memory) at is in absurd cc
      | inr above ↦ elim (cases_lt n (totals.memory + totals.table)) [
        | inl table ↦ let other = rw (le-ltb n totals.memory above, lt-ltb n (totals.memory + totals.table) table) at is in absurd cc
        | inr stack ↦ omega (arith, inside, stack)
      ]
    ]

-- the place of the nth region is that of its slot's cell
region_place : (z : StripedPlanSettings) (plan : Plan) (n : ℕ) → 0 < z.num_stripes → IsStripedPlanOf z plan → n < region_count z.totals →
    role_at plan (shards_planned (divided z) + n) ≡ cell_role (record { kind = slot_kind (nth_region z.totals n).0; slot = (nth_region z.totals n).1 })
region_place z plan n some is inside =
    let from : ℕ = shards_planned (divided z) in
    let tables : ℕ = z.totals.memory in
    let stacks : ℕ = z.totals.memory + z.totals.table in
    let has = roles (blocks plan) (planned z plan some is).separate in
    let totals = is.totals in
    let cells = is.cells in
    elim (cases_lt n tables) [
      | inl memory ↦
          let first : plan.cells.memory ≡ from = ap (λ (o : OfKinds). o.memory) cells in
          let total : plan.totals.memory ≡ tables = ap (λ (o : OfKinds). o.memory) totals in
          rw (lt-ltb n tables memory) (ap (λ k. role_at plan (k + n)) (sym first) ∙ has.0 n (omega (arith, memory, total)))
      | inr above ↦
          elim (cases_lt n stacks) [
            | inl table ↦
                let first : plan.cells.table ≡ from + tables = ap (λ (o : OfKinds). o.table) cells in
                let total : plan.totals.table ≡ z.totals.table = ap (λ (o : OfKinds). o.table) totals in
                let at' : from + n ≡ plan.cells.table + (n - tables) = omega (arith, first, above) in
                rw (le-ltb n tables above, lt-ltb n stacks table) (ap (role_at plan) at' ∙ has.1.0 (n - tables) (omega (arith, table, above, total)))
            | inr stack ↦
                let first : plan.cells.stack ≡ from + stacks = ap (λ (o : OfKinds). o.stack) cells ∙ omega arith in
                let total : plan.totals.stack ≡ z.totals.stack = ap (λ (o : OfKinds). o.stack) totals in
                let at' : from + n ≡ plan.cells.stack + (n - stacks) = omega (arith, first, stack) in
                rw (le-ltb n tables above, le-ltb n stacks stack) (ap (role_at plan) at' ∙ has.1.1.0 (n - stacks) (omega (arith, inside, stack, total)))
          ]
    ]

cell_is : (P H : Type 0) (stripes : ℕ) (maker : MakerTold) (s : PartSettings) (kind : QueueKind) (slot : ℕ) → IsCellMade stripes maker s (slot_kind kind) slot (cell_part_made {P = P} {H = H} stripes maker s kind slot)
cell_is P H stripes maker s of_queue.Memory slot = refl
cell_is P H stripes maker s of_queue.Table slot = refl
cell_is P H stripes maker s of_queue.Stack slot = refl

module _ {P H : Type 0} where
  -- parts that are put behind others
  appended : (plan : Plan) (stripes : ℕ) (maker : MakerTold) (s : PartSettings) (n : ℕ) (xs ys : List (PoolPart P H)) → AreMadeTo plan stripes maker s n xs → ((i : ℕ) → i < length ys → IsMadeAs stripes maker s (role_at plan (n + i)) (part_at i ys)) → AreMadeTo plan stripes maker s (n + length ys) (xs ++ ys)
  appended plan stripes maker s n xs ys made more =
      let d : PoolPart P H = part.Memory (cell_made (record { kind = of_slot.Memory; slot = 0 }) taken) in
      record {
        count = length-append xs ys ∙ ap (λ m. m + length ys) made.count;
        each = λ place inside.
            elim (cases_lt place n) [
              | inl before ↦
                  let same = get_or_append_left xs ys d place (omega (arith, before, made.count)) in
                  subst (IsMadeAs stripes maker s (role_at plan place)) (sym same) (made.each place before)
              | inr behind ↦
                  let i : ℕ = place - n in
                  let at' : n + i ≡ place = omega (arith, behind) in
                  let same = get_or-append_right xs ys n place d made.count behind in
                  subst (IsMadeAs stripes maker s (role_at plan place)) (sym same)
                  (subst (λ p. IsMadeAs stripes maker s (role_at plan p) (part_at i ys)) at' (more i (omega (arith, inside, behind))))
            ];
      }

  -- parts of which each is known by its number
  counted : (plan : Plan) (stripes : ℕ) (maker : MakerTold) (s : PartSettings) (n m : ℕ) (xs : List (PoolPart P H)) (f : ℕ → PoolPart P H) → AreMadeTo plan stripes maker s n xs → ((i : ℕ) → i < m → IsMadeAs stripes maker s (role_at plan (n + i)) (f i)) → AreMadeTo plan stripes maker s (n + m) (xs ++ map f (range_with_len 0 m))
  counted plan stripes maker s n m xs f made more =
      let long : length (map f (range_with_len 0 m)) ≡ m = length-map-range_with_len f 0 m in
      let d : PoolPart P H = part.Memory (cell_made (record { kind = of_slot.Memory; slot = 0 }) taken) in
      subst (λ k. AreMadeTo plan stripes maker s (n + k) (xs ++ map f (range_with_len 0 m))) long
      (appended plan stripes maker s n xs (map f (range_with_len 0 m)) made
      (λ i inside.
      let below : i < m = omega (arith, inside, long) in
      let same : part_at i (map f (range_with_len 0 m)) ≡ f i = get_or-map-range_with_len f 0 m i i d below (omega arith) in
      subst (IsMadeAs stripes maker s (role_at plan (n + i))) (sym same) (more i below)))

  -- the shards of allocators that follow one another
  shards_on : (plan : Plan) (stripes : ℕ) (maker : MakerTold) (s : PartSettings) (as' : List Allocator) (n q : ℕ) (xs : List (PoolPart P H)) → AreTiled n as' q → AllByRecursion (HasShards plan) as' → AllByRecursion HaveNumbers as' → AreMadeTo plan stripes maker s n xs → AreMadeTo plan stripes maker s q (xs ++ shard_parts s.max_unused_warm_slots as')
  shards_on plan stripes maker s [] n q xs line each fit made =
      subst (AreMadeTo plan stripes maker s q) (sym (append-nil xs)) (subst (λ k. AreMadeTo plan stripes maker s k xs) line made)
  shards_on plan stripes maker s (a ∷ as') n q xs line each fit made =
      let warm : ℕ = s.max_unused_warm_slots in
      let own : AreMadeTo plan stripes maker s (n + a.shards) (xs ++ map (shard_part warm a) (range_with_len 0 a.shards)) =
      counted plan stripes maker s n a.shards xs (shard_part warm a) made
      (λ i inside.
      let role = ap (λ k. role_at plan (k + i)) (sym line.0) ∙ each.0 i inside in
      subst (λ r. IsMadeAs {P = P} {H = H} stripes maker s r (shard_part warm a i)) (sym role) (fit.0 i inside, refl)) in
      subst (AreMadeTo plan stripes maker s q) (append_assoc xs (map (shard_part warm a) (range_with_len 0 a.shards)) (shard_parts warm as'))
      (shards_on plan stripes maker s as' (n + a.shards) q (xs ++ map (shard_part warm a) (range_with_len 0 a.shards)) line.1 each.1 fit.1 own)

module _ {P H : Type 0} where
  -- the shards of all allocators
  pub shards_made : (z : StripedPlanSettings) (plan : Plan) (maker : MakerTold) (s : PartSettings) → 0 < z.num_stripes → IsStripedPlanOf z plan → ((kind : SlotKind) → AllByRecursion HaveNumbers (allocators_of plan kind)) →
      AreMadeTo {P = P} {H = H} plan z.num_stripes maker s (shards_planned (divided z)) (((shard_parts s.max_unused_warm_slots plan.memories ++ shard_parts s.max_unused_warm_slots plan.tables) ++ shard_parts s.max_unused_warm_slots plan.stacks) ++ shard_parts s.max_unused_warm_slots plan.heaps)
  shards_made z plan maker s some is fit =
      let k : ℕ = z.num_stripes in
      let warm : ℕ = s.max_unused_warm_slots in
      let separate = (planned z plan some is).separate in
      let nothing : AreMadeTo {P = P} {H = H} plan k maker s 0 [] = record { count = refl; each = λ place below. absurd (omega (arith, below)) } in
      let m = shards_on plan k maker s plan.memories 0 (shards_before z k) [] (subst (λ (l : List Allocator). AreTiled 0 l (shards_before z k)) (sym is.memories) (tiled z)) (shards_of plan of_slot.Memory separate) (fit of_slot.Memory) nothing in
      let t = shards_on plan k maker s plan.tables (shards_before z k) (shards_before z k + (divided z).shards.table) (shard_parts warm plan.memories) (rw is.tables (refl, refl)) (shards_of plan of_slot.Table separate) (fit of_slot.Table) m in
      let st = shards_on plan k maker s plan.stacks (shards_before z k + (divided z).shards.table) (shards_before z k + (divided z).shards.table + (divided z).shards.stack) (shard_parts warm plan.memories ++ shard_parts warm plan.tables) (rw is.stacks (refl, refl)) (shards_of plan of_slot.Stack separate) (fit of_slot.Stack) t in
      shards_on plan k maker s plan.heaps (shards_before z k + (divided z).shards.table + (divided z).shards.stack) (shards_planned (divided z)) ((shard_parts warm plan.memories ++ shard_parts warm plan.tables) ++ shard_parts warm plan.stacks) (rw is.heaps (refl, refl)) (shards_of plan of_slot.Heap separate) (fit of_slot.Heap) st

module _ {P H : Type 0} where
  -- the cell of the next slot behind the parts
  pub cell_behind : (z : StripedPlanSettings) (plan : Plan) (maker : MakerTold) (s : PartSettings) (n : ℕ) (xs : List (PoolPart P H)) (x : PoolPart P H) → 0 < z.num_stripes → IsStripedPlanOf z plan → n < region_count z.totals →
      x ≡ cell_part_made z.num_stripes maker s (nth_region z.totals n).0 (nth_region z.totals n).1 → AreMadeTo plan z.num_stripes maker s (shards_planned (divided z) + n) xs → AreMadeTo plan z.num_stripes maker s (shards_planned (divided z) + (n + 1)) (xs ++ x ∷ [])
  cell_behind z plan maker s n xs x some is inside now made =
      let kind : QueueKind = (nth_region z.totals n).0 in
      let slot : ℕ = (nth_region z.totals n).1 in
      let from : ℕ = shards_planned (divided z) in
      let here : IsMadeAs z.num_stripes maker s (role_at plan (from + n)) x = subst (λ r. IsMadeAs z.num_stripes maker s r x) (sym (region_place z plan n some is inside)) (subst (IsCellMade z.num_stripes maker s (slot_kind kind) slot) (sym now) (cell_is P H z.num_stripes maker s kind slot)) in
      let next : from + n + 1 ≡ from + (n + 1) = omega arith in
      subst (λ k. AreMadeTo plan z.num_stripes maker s k (xs ++ x ∷ [])) next
      (appended plan z.num_stripes maker s (from + n) xs (x ∷ []) made
      (λ i below.
      let first : i ≡ 0 = omega (arith, below) in
      let place : from + n ≡ from + n + i = omega (arith, first) in
      rw first (subst (λ p. IsMadeAs z.num_stripes maker s (role_at plan p) x) (omega arith) here)))

  -- the queues behind the cells
  pub queues_made : (z : StripedPlanSettings) (plan : Plan) (maker : MakerTold) (s : PartSettings) (xs : List (PoolPart P H)) → 0 < z.num_stripes → IsStripedPlanOf z plan →
      AreMadeTo plan z.num_stripes maker s (queues_from (divided z)) xs → AreMadeTo plan z.num_stripes maker s (heaps_from (divided z)) (xs ++ map (queue_made s.queue_room) (range_with_len 0 plan.queues))
  queues_made z plan maker s xs some is made =
      let n : ℕ = queues_from (divided z) in
      let ends : n + plan.queues ≡ heaps_from (divided z) = ap (λ k. n + k) is.queues in
      let has = (roles (blocks plan) (planned z plan some is).separate).1.1.1.0 in
      subst (λ k. AreMadeTo plan z.num_stripes maker s k (xs ++ map (queue_made s.queue_room) (range_with_len 0 plan.queues))) ends
      (counted plan z.num_stripes maker s n plan.queues xs (queue_made s.queue_room) made
      (λ i inside.
      let role : role_at plan (n + i) ≡ queue_role = ap (λ k. role_at plan (k + i)) (sym is.first_queue) ∙ has i inside in
      subst (λ r. IsMadeAs {P = P} {H = H} z.num_stripes maker s r (queue_made s.queue_room i)) (sym role) refl))

-- the list of heaps behind the queues
list_length : (P H : Type 0) (n : ℕ) → length (heaps_parts {P = P} {H = H} n) ≡ min 1 n
list_length P H zero = refl
list_length P H (suc n) = omega arith

module _ {P H : Type 0} where
  list_at : (stripes : ℕ) (maker : MakerTold) (s : PartSettings) (n i : ℕ) → i < min 1 n → IsMadeAs stripes maker s (heaps_role n) (part_at i (heaps_parts {P = P} {H = H} n))
  list_at stripes maker s zero i inside = absurd (omega (arith, inside))
  list_at stripes maker s (suc n) zero inside = refl
  list_at stripes maker s (suc n) (suc i) inside = absurd (omega (arith, inside))

  pub heaps_behind : (z : StripedPlanSettings) (plan : Plan) (maker : MakerTold) (s : PartSettings) (xs : List (PoolPart P H)) → 0 < z.num_stripes → IsStripedPlanOf z plan →
      AreMadeTo plan z.num_stripes maker s (heaps_from (divided z)) xs → AreMadeTo plan z.num_stripes maker s (places_planned (divided z)) (xs ++ heaps_parts z.totals.heap)
  heaps_behind z plan maker s xs some is made =
      let n : ℕ = heaps_from (divided z) in
      let total : ℕ = z.totals.heap in
      let totals : plan.totals.heap ≡ total = ap (λ (o : OfKinds). o.heap) is.totals in
      let has = (roles (blocks plan) (planned z plan some is).separate).1.1.1.1.0 in
      let ends : n + length (heaps_parts {P = P} {H = H} total) ≡ places_planned (divided z) = ap (λ k. n + k) (list_length P H total) in
      subst (λ k. AreMadeTo plan z.num_stripes maker s k (xs ++ heaps_parts total)) ends
      (appended plan z.num_stripes maker s n xs (heaps_parts total) made
      (λ i inside.
      let below : i < min 1 total = subst (λ k. i < k) (list_length P H total) inside in
      let role : role_at plan (n + i) ≡ heaps_role total = ap (λ k. role_at plan (k + i)) (sym is.heap_list) ∙ has i (subst (λ k. i < min 1 k) (sym totals) below) ∙ ap heaps_role totals in
      subst (λ r. IsMadeAs {P = P} {H = H} z.num_stripes maker s r (part_at i (heaps_parts total))) (sym role) (list_at z.num_stripes maker s total i below)))

-- want of memory is no fault that is listed
listed_none : (o : Option (List Planned)) (f : List Planned → Bool) (e : PoolNewError) → e ≡ refused.Memory → IfSome o (λ plan. IsListedPoolFault (f plan) e)
listed_none None f e is = tt
listed_none (Some plan) f e is = subst (IsListedPoolFault (f plan)) (sym is) tt

pub listed_once : {T : Type 0} (r : Result T PoolNewError) (o : Option (List Planned)) (f : List Planned → Bool) → IfSome o (λ plan. f plan ≡ false) → IfErr r (λ e. e ≡ refused.Memory) → MatchResult r (λ x. IfSome o (λ plan. f plan ≡ false)) (λ e. IfSome o (λ plan. IsListedPoolFault (f plan) e))
listed_once (Ok x) o f made memory = made
listed_once (Err e) o f made memory = listed_none o f e memory

-- nor is it one that is counted
pub faults_once : {T : Type 0} (r : Result T PoolNewError) (A : Type 0) (old new : ℕ) → new ≡ old → IfErr r (λ e. e ≡ refused.Memory) → MatchResult r (λ x. new ≡ old) (RaisesUnlessGivenUp A old new)
faults_once (Ok x) A old new same memory = same
faults_once (Err e) A old new same memory = subst (RaisesUnlessGivenUp A old new) (sym memory) same

pub behind_once : {T : Type 0} (r : Result T PoolNewError) (A : Type 0) (listed : Bool) (old new : ℕ) → new ≡ old → IfErr r (λ e. e ≡ refused.Memory) → MatchResult r (λ x. new ≡ old) (RaisesBehindUnlessGivenUp A listed old new)
behind_once (Ok x) A listed old new same memory = same
behind_once (Err e) A listed old new same memory = subst (RaisesBehindUnlessGivenUp A listed old new) (sym memory) same
