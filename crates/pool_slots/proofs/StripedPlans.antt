-- The allocators of stripes lie in a line, and each memory slot is that of its stripe's.
use Rattle.std.proofs.Common.{◌≡◌, ℕ, zero, suc, ◌+◌, ◌-◌, ◌*◌, ◌/◌, ◌%◌, ◌^◌, ◌<◌, ◌≤◌, ◌⊎◌, Bool, true, false, List, [], ◌∷◌, ◌++◌, length, refl, sym, ap, ◌∙◌, subst, add-one, inl, inr, arith, map, ◌==◌, ◌&&◌, nat_le, nat_lt, if◌then◌else◌}
use Rattle.pool_slots.proofs.Imports.{div_ceil, AllByRecursion, range_with_len, cases_Bool, cases_lt, and_parts, and_from, eqb-true, le-leb, leb-true, lt-ltb, mod-mul-add, div_ceil_times, length-map-range_with_len, map-range_with_len_more, add-mul, div-add-mod, mod-lt, mul-mod_left, mul-div_cancel, mul-le-mul_right, le-mul_of_pos_right, SlotKind, Table, Stack, Heap, page_lt, slots_per_shard, shard_at, layout}
use Rattle.pool_hall.specs.declared.unit_name.SlotKind.TheVariants.{Memory}
use Rattle.pool_slots.specs.SlotNames.{of_kind}
use Rattle.pool_slots.specs.Slabs.{stripe_of, local_of}
use Rattle.pool_slots.specs.Plans.{allocators_of, number_in, number_at, slots_at, has_number, have_number, home_in, home_among, home_of, IsAllocator, AreAllocators, IsPlanned, IsAtHome}
use Rattle.pool_slots.specs.PlansMade.{HoldSlots, places_planned, allocator_planned}
use Rattle.pool_slots.specs.PartsMade.{HaveNumbers}
use Rattle.pool_slots.specs.StripedPlans.{shards_for, stripe_slots, stripe_each, stripe_shards, shards_before, stripe_allocator, stripe_allocators, divided, stripe_home, home_striped, IsStripedPlanOf, FollowInStripes}
use Rattle.pool_slots.specs.declared.slot_name.SlotName.{SlotName}
use Rattle.pool_slots.specs.declared.slot_name.OfKinds.{OfKinds}
use Rattle.pool_slots.specs.declared.plan.Allocator.{Allocator}
use Rattle.pool_slots.specs.declared.plan.Home.{Home}
use Rattle.pool_slots.specs.declared.plan.Plan.{Plan}
use Rattle.pool_slots.specs.declared.plan_maker.PlanSettings.{PlanSettings}
use Rattle.pool_slots.specs.declared.striped_plan.StripedPlanSettings.{StripedPlanSettings}
use Rattle.pool_slots.proofs.Planning.{slots_are_at_home}
use Rattle.pool_slots.proofs.PlansMade.{AreTiled, HasLine, tiled_line, laid, laid_are, allocators_are, planned_with, has_each, home_by}

-- as many shards hold all slots
enough : (capacity requested : ℕ) → capacity ≤ shards_for capacity requested * slots_per_shard capacity requested
enough capacity requested =
    let each : ℕ = slots_per_shard capacity requested in
    let some : 0 < each = omega arith in
    grind (arith, div_ceil_times capacity each some)

holds : (capacity requested : ℕ) → HoldSlots capacity (shards_for capacity requested) (slots_per_shard capacity requested)
holds capacity requested = record { some = omega arith; covered = enough capacity requested }

-- the list of shards has so many, and their number is no greater than that of the slots
pub shards_listed : (capacity requested : ℕ) → length (layout capacity 0 requested).shards ≡ shards_for capacity requested
shards_listed capacity requested = length-map-range_with_len (shard_at capacity 0 (slots_per_shard capacity requested)) 0 (shards_for capacity requested)

few : (capacity each : ℕ) → 0 < each → div_ceil capacity each ≤ capacity
few capacity each some =
    elim (cases_lt capacity (div_ceil capacity each)) [
      | inl more ↦
          let ends : div_ceil capacity each * each < capacity + each = (div_ceil_times capacity each some).1 in
          let up : (capacity + 1) * each ≤ div_ceil capacity each * each = mul-le-mul_right each (omega (arith, more)) in
          let one : (capacity + 1) * each ≡ capacity * each + each = omega arith in
          let least : capacity ≤ capacity * each = le-mul_of_pos_right capacity some in
          absurd (omega (arith, ends, up, one, least))
      | inr less ↦ omega (arith, less)
    ]

pub few_shards : (capacity requested : ℕ) → capacity < 2 ^ 32 → shards_for capacity requested < 2 ^ 32
few_shards capacity requested fits = let least = few capacity (slots_per_shard capacity requested) (omega arith) in omega (arith, least, fits)

-- the slot of a stripe with a number there is below the total
stripe_below : (m k s j : ℕ) → 0 < k → j < div_ceil (m - s) k → s + j * k < m
stripe_below m k s j some below =
    let ends : div_ceil (m - s) k * k < (m - s) + k = (div_ceil_times (m - s) k some).1 in
    let up : (j + 1) * k ≤ div_ceil (m - s) k * k = mul-le-mul_right k (omega (arith, below)) in
    let more : (j + 1) * k ≡ j * k + k = omega arith in
    omega (arith, ends, up, more)

stripe_is : (z : StripedPlanSettings) (s : ℕ) → 0 < z.num_stripes → IsAllocator Memory z.totals.memory (stripe_allocator z s)
stripe_is z s some = record {
  kind_is = refl;
  some = omega arith;
  apart = some;
  covered = enough (stripe_slots z s) z.requested_shards;
  below = λ j inside. stripe_below z.totals.memory z.num_stripes s j some inside;
}

stripes_are : (z : StripedPlanSettings) (from count : ℕ) → 0 < z.num_stripes → AllByRecursion (IsAllocator Memory z.totals.memory) (map (stripe_allocator z) (range_with_len from count))
stripes_are z from zero some = tt
stripes_are z from (suc n) some = (stripe_is z from some, stripes_are z (from + 1) n some)

-- where the number of a slot leaves a stripe's, it is one of the stripe's
record IsOfStripe (n k : ℕ) : Type 0 where
  less : n - n % k ≡ n / k * k
  whole : (n - n % k) % k ≡ 0
  local : (n - n % k) / k ≡ n / k

of_stripe : (n k : ℕ) → 0 < k → IsOfStripe n k
of_stripe n k some =
    let split : k * (n / k) + n % k ≡ n = div-add-mod n k in
    let turn : k * (n / k) ≡ n / k * k = omega arith in
    let less : n - n % k ≡ n / k * k = omega (arith, split, turn) in
    record { less = less; whole = rw less (mul-mod_left (n / k) k); local = rw less (mul-div_cancel (n / k) some) }

stripe_has : (z : StripedPlanSettings) (n : ℕ) → 0 < z.num_stripes → n < z.totals.memory → has_number (stripe_allocator z (n % z.num_stripes)) n ≡ true
stripe_has z n some inside =
    let k : ℕ = z.num_stripes in
    let s : ℕ = n % k in
    let is = of_stripe n k some in
    let split : k * (n / k) + n % k ≡ n = div-add-mod n k in
    let covers : z.totals.memory - s ≤ stripe_slots z s * k = (div_ceil_times (z.totals.memory - s) k some).0 in
    let local : n / k < stripe_slots z s = page_lt (n / k) (stripe_slots z s) k (omega (arith, is.less, covers, split, inside)) in
    let low : nat_le s n ≡ true = le-leb s n (omega (arith, split)) in
    let even : ((n - s) % k == 0) ≡ true = rw is.whole refl in
    let under : nat_lt ((n - s) / k) (stripe_slots z s) ≡ true = rw is.local (lt-ltb (n / k) (stripe_slots z s) local) in
    and_from (nat_le s n) (((n - s) % k == 0) && nat_lt ((n - s) / k) (stripe_slots z s)) low (and_from ((n - s) % k == 0) (nat_lt ((n - s) / k) (stripe_slots z s)) even under)

stripe_lacks : (z : StripedPlanSettings) (s n : ℕ) → s < z.num_stripes → ((n % z.num_stripes < s) ⊎ (s < n % z.num_stripes)) → has_number (stripe_allocator z s) n ≡ false
stripe_lacks z s n inside other =
    let k : ℕ = z.num_stripes in
    elim (cases_Bool (has_number (stripe_allocator z s) n)) [
      | inl has ↦
          let parts = and_parts (nat_le s n) (((n - s) % k == 0) && nat_lt ((n - s) / k) (stripe_slots z s)) has in
          let more = and_parts ((n - s) % k == 0) (nat_lt ((n - s) / k) (stripe_slots z s)) parts.1 in
          let low : s ≤ n = leb-true s n parts.0 in
          let even : (n - s) % k ≡ 0 = eqb-true ((n - s) % k) 0 more.0 in
          let split : k * ((n - s) / k) + (n - s) % k ≡ n - s = div-add-mod (n - s) k in
          let turn : k * ((n - s) / k) ≡ (n - s) / k * k = omega arith in
          let sum : (n - s) / k * k + s ≡ n = omega (arith, split, turn, even, low) in
          let same : n % k ≡ s = ap (λ (x : ℕ). x % k) (sym sum) ∙ mod-mul-add ((n - s) / k) k s inside in
          elim other [ inl under ↦ absurd (omega (arith, same, under)) | inr over ↦ absurd (omega (arith, same, over)) ]
      | inr not ↦ not
    ]

-- of stripes in a row, none but that of the slot has it
none_in : (z : StripedPlanSettings) (n from count : ℕ) → from + count ≤ z.num_stripes → n % z.num_stripes < from → have_number (map (stripe_allocator z) (range_with_len from count)) n ≡ 0
none_in z n from zero ends before = refl
none_in z n from (suc c) ends before =
    let lacks = stripe_lacks z from n (omega (arith, ends)) (inl before) in
    let rest = none_in z n (from + 1) c (omega (arith, ends)) (omega (arith, before)) in
    rw lacks (omega (arith, rest))

pub record IsIn (z : StripedPlanSettings) (n : ℕ) (as' : List Allocator) : Type 0 where
  pub one : have_number as' n ≡ 1
  pub home : home_among as' n ≡ home_in (stripe_allocator z (n % z.num_stripes)) n

one_in : (z : StripedPlanSettings) (n from count : ℕ) → 0 < z.num_stripes → n < z.totals.memory → from + count ≤ z.num_stripes → from ≤ n % z.num_stripes → n % z.num_stripes < from + count → IsIn z n (map (stripe_allocator z) (range_with_len from count))
one_in z n from zero some inside ends low high = absurd (omega (arith, low, high))
one_in z n from (suc c) some inside ends low high =
    elim (cases_lt from (n % z.num_stripes)) [
      | inl after ↦
          let lacks = stripe_lacks z from n (omega (arith, ends)) (inr after) in
          let rest = one_in z n (from + 1) c some inside (omega (arith, ends)) (omega (arith, after)) (omega (arith, high)) in
          let one = rest.one in record { one = rw lacks (omega (arith, one)); home = rw lacks rest.home }
      | inr here ↦
          let same : n % z.num_stripes ≡ from = omega (arith, here, low) in
          let has : has_number (stripe_allocator z from) n ≡ true = subst (λ s. has_number (stripe_allocator z s) n ≡ true) same (stripe_has z n some inside) in
          let none = none_in z n (from + 1) c (omega (arith, ends)) (omega (arith, same)) in
          record { one = rw (has, none) refl; home = rw has (ap (λ s. home_in (stripe_allocator z s) n) (sym same)) }
    ]

pub in_stripe : (z : StripedPlanSettings) (n : ℕ) → 0 < z.num_stripes → n < z.totals.memory → IsIn z n (stripe_allocators z)
in_stripe z n some inside = let last = mod-lt n some in one_in z n 0 z.num_stripes some inside (omega arith) (omega arith) (omega (arith, last))

-- one stripe more
pub one_more : (z : StripedPlanSettings) (s : ℕ) → map (stripe_allocator z) (range_with_len 0 (s + 1)) ≡ map (stripe_allocator z) (range_with_len 0 s) ++ stripe_allocator z s ∷ []
one_more z s = map-range_with_len_more (stripe_allocator z) 0 s s (omega arith)

pub shards_more : (z : StripedPlanSettings) (s : ℕ) → shards_before z (s + 1) ≡ shards_before z s + stripe_shards z s
shards_more z s = ap (shards_before z) (add-one s)

-- the shards of stripes follow one another
tiled_from : (z : StripedPlanSettings) (from count : ℕ) → AreTiled (shards_before z from) (map (stripe_allocator z) (range_with_len from count)) (shards_before z (from + count))
tiled_from z from zero =
    let none : from ≡ from + 0 = omega arith in
    ap (shards_before z) none
tiled_from z from (suc c) =
    let rest = tiled_from z (from + 1) c in
    let next = shards_more z from in
    let last : from + 1 + c ≡ from + suc c = omega arith in (
      refl,
      subst (λ n. AreTiled (shards_before z from + stripe_shards z from) (map (stripe_allocator z) (range_with_len (from + 1) c)) (shards_before z n)) last
          (subst (λ n. AreTiled n (map (stripe_allocator z) (range_with_len (from + 1) c)) (shards_before z (from + 1 + c))) next rest),
    )

pub tiled : (z : StripedPlanSettings) → AreTiled 0 (stripe_allocators z) (shards_before z z.num_stripes)
tiled z =
    let all : 0 + z.num_stripes ≡ z.num_stripes = omega arith in
    subst (λ n. AreTiled 0 (stripe_allocators z) (shards_before z n)) all (tiled_from z 0 z.num_stripes)

line : (z : StripedPlanSettings) → HasLine (divided z) (stripe_allocators z)
line z = tiled_line 0 (stripe_allocators z) (shards_before z z.num_stripes) (tiled z)

right : (z : StripedPlanSettings) → 0 < z.num_stripes → (kind : SlotKind) → AreAllocators kind (of_kind kind z.totals) (laid (divided z) (stripe_allocators z) kind)
right z some Memory = record { each = stripes_are z 0 z.num_stripes some; one = λ n inside. (in_stripe z n some inside).one }
right z some Table = allocators_are (divided z) Table (holds z.totals.table z.requested_shards)
right z some Stack = allocators_are (divided z) Stack (holds z.totals.stack z.requested_shards)
right z some Heap = allocators_are (divided z) Heap (holds z.totals.heap z.requested_shards)

pub planned : (z : StripedPlanSettings) (plan : Plan) → 0 < z.num_stripes → IsStripedPlanOf z plan → IsPlanned plan (places_planned (divided z))
planned z plan some is = planned_with (divided z) (stripe_allocators z) plan (line z) (right z some) is

pub at_home : (z : StripedPlanSettings) (plan : Plan) → 0 < z.num_stripes → IsStripedPlanOf z plan → (name : SlotName) → name.slot < of_kind name.kind z.totals → IsAtHome plan name (home_of plan name)
at_home z plan some is name inside =
    let B : OfKinds → Type 0 = λ o. name.slot < of_kind name.kind o in
    slots_are_at_home plan (places_planned (divided z)) name (planned z plan some is) (subst B (sym is.totals) inside)

home_there : (z : StripedPlanSettings) (kind : SlotKind) (n : ℕ) → 0 < z.num_stripes → n < of_kind kind z.totals → home_among (laid (divided z) (stripe_allocators z) kind) n ≡ home_striped z kind n
home_there z Memory n some inside = (in_stripe z n some inside).home ∙ rw (of_stripe n z.num_stripes some).local refl
home_there z Table n some inside = home_by (divided z) (record { kind = Table; slot = n }) inside
home_there z Stack n some inside = home_by (divided z) (record { kind = Stack; slot = n }) inside
home_there z Heap n some inside = home_by (divided z) (record { kind = Heap; slot = n }) inside

pub follow : (z : StripedPlanSettings) (plan : Plan) → 0 < z.num_stripes → IsStripedPlanOf z plan → FollowInStripes z plan
follow z plan some is = record {
  one = λ name inside. ap (λ (l : List Allocator). have_number l name.slot) (laid_are (divided z) (stripe_allocators z) plan is name.kind) ∙ (right z some name.kind).one name.slot inside;
  homes = λ name inside. ap (λ (l : List Allocator). home_among l name.slot) (laid_are (divided z) (stripe_allocators z) plan is name.kind) ∙ home_there z name.kind name.slot some inside;
  queues = λ home tried. rw (is.first_queue, is.queues) refl;
}

-- the numbers of an allocator's slots that are divided among its shards
starts : (capacity requested j : ℕ) → j < shards_for capacity requested → (j ≡ 0) ⊎ (j * slots_per_shard capacity requested < capacity)
starts capacity requested zero inside = inl refl
starts capacity requested (suc j) inside =
    let each : ℕ = slots_per_shard capacity requested in
    let ends : div_ceil capacity each * each < capacity + each = (div_ceil_times capacity each (omega arith)).1 in
    let up : (suc j + 1) * each ≤ div_ceil capacity each * each = mul-le-mul_right each (omega (arith, inside)) in
    let more : (suc j + 1) * each ≡ suc j * each + each = omega arith in
    inr (omega (arith, ends, up, more))

numbers_fit : (kind : SlotKind) (total requested : ℕ) (a : Allocator) → IsAllocator kind total a → total ≤ 2 ^ 32 → a.capacity < 2 ^ 32 → a.first < 2 ^ 32 → a.shards ≡ shards_for a.capacity requested → a.slots_per_shard ≡ slots_per_shard a.capacity requested → HaveNumbers a
numbers_fit kind total requested a is few small low shards each j inside =
    let from : ℕ = j * a.slots_per_shard in
    let none : from + 0 ≡ from = omega arith in
    let first : number_at a j 0 < 2 ^ 32 =
    elim (starts a.capacity requested j (subst (λ n. j < n) shards inside)) [
      | inl start ↦ let zero' : number_at a j 0 ≡ a.first = rw start (omega arith) in omega (arith, zero', low)
      | inr later ↦
          let below : number_in a from < total = is.below from (subst (λ n. j * n < a.capacity) (sym each) later) in
          subst (λ n. number_in a n < 2 ^ 32) (sym none) (omega (arith, below, few))
    ] in
    let fit : (k : ℕ) → k < slots_at a j → number_at a j 0 + k * a.step < 2 ^ 32 = λ k h.
    let below : number_in a (from + k) < total = is.below (from + k) (omega (arith, h)) in
    let spread : (from + k) * a.step ≡ from * a.step + k * a.step = add-mul from k a.step in
    let same : (from + 0) * a.step ≡ from * a.step = ap (λ n. n * a.step) none in
    omega (arith, below, spread, same, few) in
    record { first = first; fit = record { apart = is.apart; fit = fit }; few = omega (arith, small) }

-- a stripe has no more slots than there are
stripe_few : (z : StripedPlanSettings) (s : ℕ) → 0 < z.num_stripes → stripe_slots z s ≤ z.totals.memory
stripe_few z s some =
    let k : ℕ = z.num_stripes in
    let left : ℕ = z.totals.memory - s in
    let ends : div_ceil left k * k < left + k = (div_ceil_times left k some).1 in
    elim (cases_lt left (div_ceil left k)) [
      | inl more ↦
          let up : (left + 1) * k ≤ div_ceil left k * k = mul-le-mul_right k (omega (arith, more)) in
          let spread : (left + 1) * k ≡ left * k + k = omega arith in
          let least : left ≤ left * k = le-mul_of_pos_right left some in
          absurd (omega (arith, ends, up, spread, least))
      | inr fits ↦ omega (arith, fits)
    ]

stripes_fit : (z : StripedPlanSettings) (from count : ℕ) → 0 < z.num_stripes → z.num_stripes < 2 ^ 32 → z.totals.memory < 2 ^ 32 → from + count ≤ z.num_stripes → AllByRecursion HaveNumbers (map (stripe_allocator z) (range_with_len from count))
stripes_fit z from zero some stripes few ends = tt
stripes_fit z from (suc c) some stripes few ends = (
  numbers_fit Memory z.totals.memory z.requested_shards (stripe_allocator z from) (stripe_is z from some) (omega (arith, few)) (let most = stripe_few z from some in omega (arith, most, few)) (omega (arith, ends, stripes)) refl refl,
  stripes_fit z (from + 1) c some stripes few (omega (arith, ends)),
)

laid_fit : (z : StripedPlanSettings) → 0 < z.num_stripes → z.num_stripes < 2 ^ 32 → ((kind : SlotKind) → of_kind kind z.totals < 2 ^ 32) → (kind : SlotKind) → AllByRecursion HaveNumbers (laid (divided z) (stripe_allocators z) kind)
laid_fit z some stripes few Memory = stripes_fit z 0 z.num_stripes some stripes (few Memory) (omega arith)
laid_fit z some stripes few Table = let f = few Table in (numbers_fit Table z.totals.table z.requested_shards (allocator_planned (divided z) Table) (right z some Table).each.0 (omega (arith, f)) f (omega arith) refl refl, tt)
laid_fit z some stripes few Stack = let f = few Stack in (numbers_fit Stack z.totals.stack z.requested_shards (allocator_planned (divided z) Stack) (right z some Stack).each.0 (omega (arith, f)) f (omega arith) refl refl, tt)
laid_fit z some stripes few Heap = let f = few Heap in (numbers_fit Heap z.totals.heap z.requested_shards (allocator_planned (divided z) Heap) (right z some Heap).each.0 (omega (arith, f)) f (omega arith) refl refl, tt)

-- so it is with each allocator of such a plan
pub have_numbers : (z : StripedPlanSettings) (plan : Plan) → 0 < z.num_stripes → z.num_stripes < 2 ^ 32 → ((kind : SlotKind) → of_kind kind z.totals < 2 ^ 32) → IsStripedPlanOf z plan → (kind : SlotKind) → AllByRecursion HaveNumbers (allocators_of plan kind)
have_numbers z plan some stripes few is kind =
    subst (λ (l : List Allocator). AllByRecursion HaveNumbers l) (sym (laid_are (divided z) (stripe_allocators z) plan is kind)) (laid_fit z some stripes few kind)
