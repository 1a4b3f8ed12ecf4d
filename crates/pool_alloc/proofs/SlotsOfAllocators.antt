-- The slots of an allocator, counted by their numbers and by one weight: what has them has no more of them by the one than by the
-- other.
use Rattle.std.proofs.Common.{◌≡◌, ℕ, zero, suc, ◌*◌, ◌-◌, ◌/◌, ◌%◌, ◌<◌, ◌≤◌, ◌==◌, ◌&&◌, Bool, true, false, not, List, [], ◌∷◌, length, refl, sym, ap, ◌∙◌, subst, inl, inr, arith, sum_by, nat_le, nat_lt}
use Rattle.std.proofs.lemmas.Bool.{and_from, le-leb}
use Rattle.std.proofs.lemmas.List.Sums.{sum_by-le-sum_by}
use Rattle.std.proofs.Math.Nat.{mul-mod_left, mul-div_left}
use Rattle.pool_hall.specs.Sum.{one_if as one_right}
use Rattle.pool_slots.specs.ListUnits.{bare}
use Rattle.pool_slots.proofs.SlotNames.{kind_self}
use Rattle.pool_alloc.proofs.Imports.{cases_lt, eq-eqb, lt-ltb, sum_by-cons, one_at_most, same, same_is, same_kind, one_if, unit_right, unit_region, UnitName, Allocator, has_number, number_in, SlotKind, memory_kind, table_kind, stack_kind, heap_kind, SlotName, RegionNumbers}
use Rattle.pool_alloc.specs.HeapLeases.{heap_slot_taken}
use Rattle.pool_alloc.specs.Leases.{Lease, memory_slot, slot_taken}
use Rattle.pool_alloc.specs.Places.{Thing, only, counted_object, right_to, both_count, leased_count, tables_count, instance_count, taken_count}
use Rattle.pool_alloc.specs.StackLeases.{stack_taken}
use Rattle.pool_alloc.specs.Stepping.{grant_count, grant_counted}
use Rattle.pool_alloc.specs.TableLeases.{LeasedTable, table_slot, table_taken}
use Rattle.pool_alloc.specs.UnhinderedRequests.{right_in, slots_live}
use Rattle.pool_alloc.specs.declared.frame.Grant.{Grant}
use Rattle.pool_alloc.specs.declared.frame.Grant.TheVariants.{Instance, Memory, Table, Stack, Heap, HeapOver, Component}
use Rattle.pool_alloc.specs.declared.leases.instance.InstanceLease.{InstanceLease}
use Rattle.pool_alloc.proofs.SlotCounts.{one_true}
use Rattle.pool_alloc.proofs.SumsBelow.{below, below_sum}

none_below : (f : ℕ → ℕ) (n : ℕ) → ((k : ℕ) → k < n → f k ≡ 0) → below f n ≡ 0
none_below f zero none = refl
none_below f (suc n) none = omega (arith, none n (omega arith), none_below f n (λ k inside. none k (omega (arith, inside))))

pub some_each : (f : ℕ → ℕ) (n : ℕ) → ((k : ℕ) → k < n → 1 ≤ f k) → n ≤ below f n
some_each f zero each = omega arith
some_each f (suc n) each = omega (arith, each n (omega arith), some_each f n (λ k inside. each k (omega (arith, inside))))

-- an allocator has the numbers of its slots
pub has_its : (a : Allocator) (m : ℕ) → 0 < a.step → m < a.capacity → has_number a (number_in a m) ≡ true
has_its a m apart inside =
    let n : ℕ = number_in a m in
    let off : number_in a m - a.first ≡ m * a.step = omega arith in
    let whole : (number_in a m - a.first) % a.step ≡ 0 = ap (λ (x : ℕ). x % a.step) off ∙ mul-mod_left m a.step in
    let quotient : (number_in a m - a.first) / a.step ≡ m = ap (λ (x : ℕ). x / a.step) off ∙ mul-div_left m apart in
    let less : (number_in a m - a.first) / a.step < a.capacity = rw quotient inside in
    and_from (nat_le a.first n) (((n - a.first) % a.step == 0) && nat_lt ((n - a.first) / a.step) a.capacity) (le-leb a.first n (omega arith))
    (and_from ((n - a.first) % a.step == 0) (nat_lt ((n - a.first) / a.step) a.capacity) (eq-eqb ((n - a.first) % a.step) 0 whole) (lt-ltb ((n - a.first) / a.step) a.capacity less))

right_most : (b : Bool) → one_right b ≤ 1
right_most true = omega arith
right_most false = omega arith

-- A unit that is the right to one of the slots is that to no other, and weighs one.
module _ (a : Allocator) (kind : SlotKind) (is : a.kind ≡ kind) (apart : 0 < a.step) where
  abbrev nth : ℕ → SlotName
  nth j = record { kind = kind; slot = number_in a j }

  right_is : (j : ℕ) (u : UnitName) → 0 < right_to (nth j) u → unit_right (nth j) ≡ bare u
  right_is j u some = same_is (unit_right (nth j)) (bare u) (one_true (same (unit_right (nth j)) (bare u)) some)

  weighs : (j : ℕ) → j < a.capacity → right_in a (unit_right (nth j)) ≡ 1
  weighs j inside = ap one_if (and_from (same_kind a.kind kind) (has_number a (number_in a j)) (subst (λ (k : SlotKind). same_kind a.kind k ≡ true) is (kind_self a.kind)) (has_its a j apart inside))

  one_number : (i j : ℕ) → number_in a i ≡ number_in a j → i ≡ j
  one_number i j same' = let less : i * a.step ≡ j * a.step = omega (arith, same') in sym (mul-div_left i apart) ∙ ap (λ (n : ℕ). n / a.step) less ∙ mul-div_left j apart

  no_other : (i j : ℕ) (u : UnitName) → i < j → 0 < right_to (nth j) u → right_to (nth i) u ≡ 0
  no_other i j u before some =
      elim (cases_lt 0 (right_to (nth i) u)) [
        | inl also ↦
            let one : number_in a i ≡ number_in a j = ap (λ (w : UnitName). w.slot) (right_is i u also) ∙ sym (ap (λ (w : UnitName). w.slot) (right_is j u some)) in
            absurd (omega (arith, before, one_number i j one))
        | inr none ↦ omega (arith, none)
      ]

  pub one_unit : (n : ℕ) (u : UnitName) → n ≤ a.capacity → below (λ j. right_to (nth j) u) n ≤ right_in a u
  one_unit zero u few = omega arith
  one_unit (suc n) u few =
      elim (cases_lt 0 (right_to (nth n) u)) [
        | inl some ↦
            let here : right_in a u ≡ 1 = subst (λ (w : UnitName). right_in a w ≡ 1) (right_is n u some) (weighs n (omega (arith, few))) in
            let at_most : right_to (nth n) u ≤ 1 = right_most (same (unit_right (nth n)) (bare u)) in
            omega (arith, here, at_most, none_below (λ j. right_to (nth j) u) n (λ j before. no_other j n u before some))
        | inr none ↦ omega (arith, none, one_unit n u (omega (arith, few)))
      ]

-- What has things has no more of those that are counted one by one than of those that one weight counts.
module _ (n : ℕ) (s : ℕ → Thing) (t : Thing) (each : (u : UnitName) → below (λ j. s j u) n ≤ t u) where
  both_below : (name : SlotName) (numbers : RegionNumbers) → below (λ j. both_count (s j) name numbers) n ≤ both_count t name numbers
  both_below name numbers =
      omega (arith, each (unit_right name), each (unit_region name numbers), below_sum (λ j. s j (unit_right name)) (λ j. s j (unit_region name numbers)) (λ j. both_count (s j) name numbers) (λ j. refl) n)

  pub list_below : {X : Type 0} (of : Thing → X → ℕ) → ((x : X) → below (λ j. of (s j) x) n ≤ of t x) → (xs : List X) → below (λ j. sum_by (of (s j)) xs) n ≤ sum_by (of t) xs
  list_below of one [] = omega (arith, none_below (λ j. 0) n (λ j inside. refl))
  list_below of one (x ∷ xs) =
      omega (
        arith,
        sum_by-cons (of t) x xs,
        below_sum (λ j. of (s j) x) (λ j. sum_by (of (s j)) xs) (λ j. sum_by (of (s j)) (x ∷ xs)) (λ j. sum_by-cons (of (s j)) x xs) n,
        one x,
        list_below of one xs,
      )

  leased_below : (leases : List Lease) → below (λ j. leased_count (s j) leases) n ≤ leased_count t leases
  leased_below leases = list_below (λ w (l : Lease). both_count w (memory_slot l.index) l.numbers) (λ l. both_below (memory_slot l.index) l.numbers) leases

  tables_below : (leases : List LeasedTable) → below (λ j. tables_count (s j) leases) n ≤ tables_count t leases
  tables_below leases = list_below (λ w (l : LeasedTable). both_count w (table_slot l.index) l.numbers) (λ l. both_below (table_slot l.index) l.numbers) leases

  pub instance_below : {P : Type 0} (lease : InstanceLease P) → below (λ j. instance_count (s j) lease) n ≤ instance_count t lease
  instance_below lease =
      omega (arith, leased_below lease.memories.items, tables_below lease.tables.items, below_sum (λ j. leased_count (s j) lease.memories.items) (λ j. tables_count (s j) lease.tables.items) (λ j. instance_count (s j) lease) (λ j. refl) n)

  module _ {P H : Type 0} where
    grant_below : (g : Grant P H) → below (λ j. grant_count (s j) g) n ≤ grant_count t g
    grant_below (Instance lease) = instance_below lease
    grant_below Component = omega (arith, none_below (λ j. 0) n (λ j inside. refl))
    grant_below (Memory lease) = both_below (slot_taken lease).name (slot_taken lease).numbers
    grant_below (Table lease) = both_below (table_taken lease).name (table_taken lease).numbers
    grant_below (Stack lease) = both_below (stack_taken lease).name (stack_taken lease).numbers
    grant_below (Heap lease memory) =
        omega (
          arith,
          both_below (heap_slot_taken lease).name (heap_slot_taken lease).numbers,
          both_below (slot_taken memory).name (slot_taken memory).numbers,
          below_sum (λ j. taken_count (s j) (heap_slot_taken lease)) (λ j. taken_count (s j) (slot_taken memory)) (λ j. grant_count {P = P} {H = H} (s j) (Heap lease memory)) (λ j. refl) n,
        )
    grant_below (HeapOver lease) = both_below (heap_slot_taken lease).name (heap_slot_taken lease).numbers

    pub grants_below : (grants : List (Grant P H)) → below (λ j. sum_by (grant_count (s j)) grants) n ≤ sum_by (grant_count t) grants
    grants_below grants = list_below (λ w g. grant_count w g) grant_below grants

-- the weight, by the kind of the allocator's slots
abbrev pub right_of : SlotKind → Allocator → Thing
right_of kind a u = one_if (not u.region && (same_kind kind u.kind && has_number a u.slot))

-- How many objects of a kind an instance's leases are.
abbrev pub objects_of : {P : Type 0} → SlotKind → InstanceLease P → ℕ
objects_of memory_kind lease = length lease.memories.items
objects_of table_kind lease = length lease.tables.items
objects_of stack_kind lease = 0
objects_of heap_kind lease = 0

module _ {X : Type 0} (of : X → ℕ) where
  few_each : ((x : X) → of x ≤ 1) → (xs : List X) → sum_by of xs ≤ length xs
  few_each one [] = omega arith
  few_each one (x ∷ xs) = omega (arith, sum_by-cons of x xs, one x, few_each one xs)

  none_each : ((x : X) → of x ≡ 0) → (xs : List X) → sum_by of xs ≡ 0
  none_each none [] = refl
  none_each none (x ∷ xs) = omega (arith, sum_by-cons of x xs, none x, none_each none xs)

-- one object has one slot at most
once : (kind : SlotKind) (a : Allocator) (name : SlotName) (numbers : RegionNumbers) → both_count (right_of kind a) name numbers ≤ 1
once kind a name numbers = omega (arith, one_at_most (same_kind kind name.kind && has_number a name.slot))

few_by : {P : Type 0} (kind : SlotKind) (a : Allocator) (lease : InstanceLease P) → instance_count (right_of kind a) lease ≤ objects_of kind lease
few_by memory_kind a lease =
    omega (
      arith,
      few_each (λ (l : Lease). both_count (right_of memory_kind a) (memory_slot l.index) l.numbers) (λ l. once memory_kind a (memory_slot l.index) l.numbers) lease.memories.items,
      none_each (λ (l : LeasedTable). both_count (right_of memory_kind a) (table_slot l.index) l.numbers) (λ l. refl) lease.tables.items,
    )
few_by table_kind a lease =
    omega (
      arith,
      none_each (λ (l : Lease). both_count (right_of table_kind a) (memory_slot l.index) l.numbers) (λ l. refl) lease.memories.items,
      few_each (λ (l : LeasedTable). both_count (right_of table_kind a) (table_slot l.index) l.numbers) (λ l. once table_kind a (table_slot l.index) l.numbers) lease.tables.items,
    )
few_by stack_kind a lease =
    omega (
      arith,
      none_each (λ (l : Lease). both_count (right_of stack_kind a) (memory_slot l.index) l.numbers) (λ l. refl) lease.memories.items,
      none_each (λ (l : LeasedTable). both_count (right_of stack_kind a) (table_slot l.index) l.numbers) (λ l. refl) lease.tables.items,
    )
few_by heap_kind a lease =
    omega (
      arith,
      none_each (λ (l : Lease). both_count (right_of heap_kind a) (memory_slot l.index) l.numbers) (λ l. refl) lease.memories.items,
      none_each (λ (l : LeasedTable). both_count (right_of heap_kind a) (table_slot l.index) l.numbers) (λ l. refl) lease.tables.items,
    )

-- Objects of a kind have no more slots of the kind's allocator than they are.
pub few_objects : {P : Type 0} (kind : SlotKind) (a : Allocator) (lease : InstanceLease P) → a.kind ≡ kind → instance_count (right_in a) lease ≤ objects_of kind lease
few_objects kind a lease is = let same_weight : instance_count (right_in a) lease ≡ instance_count (right_of kind a) lease = ap (λ (k : SlotKind). instance_count (right_of k a) lease) is in omega (arith, same_weight, few_by kind a lease)

-- So it is with grants.
module _ {P H : Type 0} where
  pub few_granted : (kind : SlotKind) (a : Allocator) (g : Grant P H) → grant_count (right_of kind a) g ≤ grant_counted (only (counted_object kind)) g
  few_granted memory_kind a (Instance lease) = omega (arith, few_by memory_kind a lease)
  few_granted table_kind a (Instance lease) = omega (arith, few_by table_kind a lease)
  few_granted stack_kind a (Instance lease) = omega (arith, few_by stack_kind a lease)
  few_granted heap_kind a (Instance lease) = omega (arith, few_by heap_kind a lease)
  few_granted kind a Component = omega arith
  few_granted memory_kind a (Memory lease) = once memory_kind a (slot_taken lease).name (slot_taken lease).numbers
  few_granted table_kind a (Memory lease) = omega arith
  few_granted stack_kind a (Memory lease) = omega arith
  few_granted heap_kind a (Memory lease) = omega arith
  few_granted memory_kind a (Table lease) = omega arith
  few_granted table_kind a (Table lease) = once table_kind a (table_taken lease).name (table_taken lease).numbers
  few_granted stack_kind a (Table lease) = omega arith
  few_granted heap_kind a (Table lease) = omega arith
  few_granted memory_kind a (Stack lease) = omega arith
  few_granted table_kind a (Stack lease) = omega arith
  few_granted stack_kind a (Stack lease) = once stack_kind a (stack_taken lease).name (stack_taken lease).numbers
  few_granted heap_kind a (Stack lease) = omega arith
  few_granted memory_kind a (Heap lease memory) = omega (arith, once memory_kind a (slot_taken memory).name (slot_taken memory).numbers)
  few_granted table_kind a (Heap lease memory) = omega arith
  few_granted stack_kind a (Heap lease memory) = omega arith
  few_granted heap_kind a (Heap lease memory) = omega (arith, once heap_kind a (heap_slot_taken lease).name (heap_slot_taken lease).numbers)
  few_granted memory_kind a (HeapOver lease) = omega arith
  few_granted table_kind a (HeapOver lease) = omega arith
  few_granted stack_kind a (HeapOver lease) = omega arith
  few_granted heap_kind a (HeapOver lease) = once heap_kind a (heap_slot_taken lease).name (heap_slot_taken lease).numbers

  -- Live grants have no more slots of an allocator than they have objects of its kind.
  pub few_live : (kind : SlotKind) (a : Allocator) (grants : List (Grant P H)) → a.kind ≡ kind → slots_live a grants ≤ sum_by (grant_counted (only (counted_object kind))) grants
  few_live kind a grants is =
      let same_weight : slots_live a grants ≡ sum_by (grant_count (right_of kind a)) grants = ap (λ (k : SlotKind). sum_by (grant_count {P = P} {H = H} (right_of k a)) grants) is in
      omega (arith, same_weight, sum_by-le-sum_by (grant_count (right_of kind a)) (grant_counted (only (counted_object kind))) grants (few_granted kind a))
