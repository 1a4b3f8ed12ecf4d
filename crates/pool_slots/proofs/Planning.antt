-- A plan whose blocks are separate gives each place one role, and each slot a home.
use Rattle.std.proofs.Common.{◌≡◌, ℕ, ◌+◌, ◌-◌, ◌*◌, ◌/◌, ◌%◌, ◌^◌, ◌<◌, ◌≤◌, Bool, true, false, List, [], ◌∷◌, ◌++◌, refl, sym, ap, ◌∙◌, subst, inl, inr, arith, map, ◌==◌, ◌&&◌, nat_le, nat_lt, if◌then◌else◌}
use Rattle.pool_slots.proofs.Imports.{AllByRecursion, cases_Bool, and_parts, and_from, eqb-true, le-leb, leb-true, lt-ltb, ltb-true, div-mul-le_self, div-add-mod, mod-lt, SlotKind, Table, Stack, Heap, page_lt}
use Rattle.pool_hall.specs.declared.unit_name.SlotKind.TheVariants.{Memory}
use Rattle.pool_slots.specs.SlotNames.{of_kind}
use Rattle.pool_slots.specs.Plans.{allocators_of, allocators, number_at, slots_at, has_number, home_in, home_among, shard_role, Block, shards_block, blocks, is_within, role_among, role_at, AreBesides, AreSeparate, IsAllocator, IsPlacedAllocator, IsPlanned, have_number, IsAtHome, SlotsAreAtHome}
use Rattle.pool_slots.specs.declared.slot_name.SlotName.{SlotName}
use Rattle.pool_slots.specs.declared.plan.Allocator.{Allocator}
use Rattle.pool_slots.specs.declared.plan.Home.{Home}
use Rattle.pool_slots.specs.declared.plan.Plan.{Plan}
use Rattle.pool_slots.proofs.Lists.{each_both}

each_mapped : {X Y : Type 0} (P : Y → Type 0) (f : X → Y) (xs : List X) → AllByRecursion P (map f xs) → AllByRecursion (λ x. P (f x)) xs
each_mapped P f [] a = tt
each_mapped P f (x ∷ xs) a = (a.0, each_mapped P f xs a.1)

each_left : {X : Type 0} (P : X → Type 0) (xs ys : List X) → AllByRecursion P (xs ++ ys) → AllByRecursion P xs
each_left P [] ys a = tt
each_left P (x ∷ xs) ys a = (a.0, each_left P xs ys a.1)

each_right : {X : Type 0} (P : X → Type 0) (xs ys : List X) → AllByRecursion P (xs ++ ys) → AllByRecursion P ys
each_right P [] ys a = a
each_right P (x ∷ xs) ys a = each_right P xs ys a.1

-- the places of a block have the roles that it gives them
abbrev pub HasRoles : List Block → Block → Type 0
HasRoles bs b = (i : ℕ) → i < b.count → role_among bs (b.first + i) ≡ b.role i

within_own : (b : Block) (i : ℕ) → i < b.count → is_within b (b.first + i) ≡ true
within_own b i h = and_from (nat_le b.first (b.first + i)) (nat_lt (b.first + i) (b.first + b.count)) (le-leb b.first (b.first + i) (omega arith)) (lt-ltb (b.first + i) (b.first + b.count) (omega arith))

within_none : (b d : Block) (i : ℕ) → AreBesides b d → i < d.count → is_within b (d.first + i) ≡ false
within_none b d i apart h =
    elim (cases_Bool (is_within b (d.first + i))) [
      | inl is ↦
          let parts = and_parts (nat_le b.first (d.first + i)) (nat_lt (d.first + i) (b.first + b.count)) is in
          let from = leb-true b.first (d.first + i) parts.0 in
          let below = ltb-true (d.first + i) (b.first + b.count) parts.1 in
          elim apart [ inl under ↦ absurd (omega arith) | inr over ↦ absurd (omega arith) ]
      | inr not ↦ not
    ]

pub roles : (bs : List Block) → AreSeparate bs → AllByRecursion (HasRoles bs) bs
roles [] separate = tt
roles (b ∷ bs) separate =
    let own : HasRoles (b ∷ bs) b = λ i h. let at : b.first + i - b.first ≡ i = omega arith in rw (within_own b i h, at) refl in
    (own, each_both (AreBesides b) (HasRoles bs) (HasRoles (b ∷ bs)) bs (λ d apart has i h. rw (within_none b d i apart h) (has i h)) separate.0 (roles bs separate.1))

-- of the allocators of a kind, each shard has its place
abbrev pub HasShards : Plan → Allocator → Type 0
HasShards plan a = (j : ℕ) → j < a.shards → role_at plan (a.first_place + j) ≡ shard_role a j

-- what holds of all allocators holds of those of a kind
of_all : (P : Allocator → Type 0) (plan : Plan) (kind : SlotKind) → AllByRecursion P (allocators plan) → AllByRecursion P (allocators_of plan kind)
of_all P plan Memory all = each_left P plan.memories (plan.tables ++ (plan.stacks ++ plan.heaps)) all
of_all P plan Table all = each_left P plan.tables (plan.stacks ++ plan.heaps) (each_right P plan.memories (plan.tables ++ (plan.stacks ++ plan.heaps)) all)
of_all P plan Stack all = each_left P plan.stacks plan.heaps (each_right P plan.tables (plan.stacks ++ plan.heaps) (each_right P plan.memories (plan.tables ++ (plan.stacks ++ plan.heaps)) all))
of_all P plan Heap all = each_right P plan.stacks plan.heaps (each_right P plan.tables (plan.stacks ++ plan.heaps) (each_right P plan.memories (plan.tables ++ (plan.stacks ++ plan.heaps)) all))

pub shards_of : (plan : Plan) (kind : SlotKind) → AreSeparate (blocks plan) → AllByRecursion (HasShards plan) (allocators_of plan kind)
shards_of plan kind separate =
    let all = roles (blocks plan) separate in
    of_all (HasShards plan) plan kind (each_mapped (HasRoles (blocks plan)) shards_block (allocators plan) all.1.1.1.1.1)

-- where places are numbers of 32 bits, those of its shards are
pub allocators_placed : (plan : Plan) (places : ℕ) → IsPlanned plan places → places < 2 ^ 32 → (kind : SlotKind) → AllByRecursion IsPlacedAllocator (allocators_of plan kind)
allocators_placed plan places is fits kind =
    let P : Allocator → Type 0 = λ a. a.first_place + a.shards ≤ places in
    let ends : AllByRecursion P (allocators plan) = each_mapped (λ b. b.first + b.count ≤ places) shards_block (allocators plan) is.inside.1.1.1.1.1 in
    each_both (IsAllocator kind (of_kind kind plan.totals)) P IsPlacedAllocator (allocators_of plan kind)
    (λ a right end. record { some = right.some; apart = right.apart; covered = right.covered; places = omega (arith, end, fits) })
    (is.slots kind).each
    (of_all P plan kind ends)

-- the number of an allocator's slot: which of its slots it is, in which shard, and where there
pub record IsNumbered (a : Allocator) (n : ℕ) : Type 0 where
  pub shard : ((n - a.first) / a.step) / a.slots_per_shard < a.shards
  pub inside : ((n - a.first) / a.step) % a.slots_per_shard < slots_at a (((n - a.first) / a.step) / a.slots_per_shard)
  pub number : number_at a (((n - a.first) / a.step) / a.slots_per_shard) (((n - a.first) / a.step) % a.slots_per_shard) ≡ n

pub numbered : (a : Allocator) (n : ℕ) (kind : SlotKind) (total : ℕ) → IsAllocator kind total a → has_number a n ≡ true → IsNumbered a n
numbered a n kind total is has =
    let parts = and_parts (nat_le a.first n) (((n - a.first) % a.step == 0) && nat_lt ((n - a.first) / a.step) a.capacity) has in
    let more = and_parts ((n - a.first) % a.step == 0) (nat_lt ((n - a.first) / a.step) a.capacity) parts.1 in
    let from : a.first ≤ n = leb-true a.first n parts.0 in
    let whole : (n - a.first) % a.step ≡ 0 = eqb-true ((n - a.first) % a.step) 0 more.0 in
    let k : ℕ = (n - a.first) / a.step in
    let below : (n - a.first) / a.step < a.capacity = ltb-true ((n - a.first) / a.step) a.capacity more.1 in
    let steps : a.step * ((n - a.first) / a.step) + (n - a.first) % a.step ≡ n - a.first = div-add-mod (n - a.first) a.step in
    let split : a.slots_per_shard * (k / a.slots_per_shard) + k % a.slots_per_shard ≡ k = div-add-mod k a.slots_per_shard in
    let under : k / a.slots_per_shard * a.slots_per_shard ≤ k = div-mul-le_self k a.slots_per_shard in
    let local : k % a.slots_per_shard < a.slots_per_shard = mod-lt k is.some in
    let other : k / a.slots_per_shard * a.slots_per_shard ≡ a.slots_per_shard * (k / a.slots_per_shard) = omega arith in
    let again : k * a.step ≡ a.step * k = omega arith in
    record {
      shard = page_lt (k / a.slots_per_shard) a.shards a.slots_per_shard (omega (arith, is.covered));
      inside = omega arith;
      number = let sum : k / a.slots_per_shard * a.slots_per_shard + k % a.slots_per_shard ≡ k = omega arith in ap (λ (m : ℕ). a.first + m * a.step) sum ∙ (omega arith);
    }

-- the first allocator that has a number
record IsFound (P : Allocator → Type 0) (as' : List Allocator) (n : ℕ) : Type 0 where
  it : Allocator
  has : has_number it n ≡ true
  home : home_among as' n ≡ home_in it n
  is : P it

uncounted : (b : Bool) → b ≡ false → ◌≡◌ {A = ℕ} (if b then 1 else 0) 0
uncounted b e = rw e refl

passed_over : (b : Bool) → b ≡ false → (x y : Home) → (if b then x else y) ≡ y
passed_over b e x y = rw e refl

found : (P : Allocator → Type 0) (as' : List Allocator) (n : ℕ) → AllByRecursion P as' → 0 < have_number as' n → IsFound P as' n
found P [] n each some = absurd (omega arith)
found P (a ∷ as') n each some =
    elim (cases_Bool (has_number a n)) [
      | inl has ↦ record { it = a; has = has; home = rw has refl; is = each.0 }
      | inr not ↦
          let none = uncounted (has_number a n) not in
          let r = found P as' n each.1 (omega arith) in
          record { it = r.it; has = r.has; home = passed_over (has_number a n) not (home_in a n) (home_among as' n) ∙ r.home; is = r.is }
    ]

at_home : (plan : Plan) (name : SlotName) (a : Allocator) → IsNumbered a name.slot → a.kind ≡ name.kind → HasShards plan a → IsAtHome plan name (home_in a name.slot)
at_home plan name a numbered' kind shards =
    record {
      allocator = a;
      shard = ((name.slot - a.first) / a.step) / a.slots_per_shard;
      kind = kind;
      role = shards (((name.slot - a.first) / a.step) / a.slots_per_shard) numbered'.shard;
      inside = numbered'.inside;
      number = numbered'.number;
    }

pub slots_are_at_home : SlotsAreAtHome
slots_are_at_home plan places name planned below =
    let kind : SlotKind = name.kind in
    let slots = planned.slots kind in
    let total : ℕ = of_kind kind plan.totals in
    let P : Allocator → Type 0 = λ a. IsAllocator kind total a × HasShards plan a in
    let both : AllByRecursion P (allocators_of plan kind) =
    each_both (IsAllocator kind total) (HasShards plan) P (allocators_of plan kind) (λ a x y. (x, y)) slots.each (shards_of plan kind planned.separate) in
    let one = slots.one name.slot below in
    let it = found P (allocators_of plan kind) name.slot both (omega arith) in
    let H : Home → Type 0 = λ h. IsAtHome plan name h in
    subst H (sym it.home) (at_home plan name it.it (numbered it.it name.slot kind total it.is.0 it.has) it.is.0.kind_is it.is.1)
