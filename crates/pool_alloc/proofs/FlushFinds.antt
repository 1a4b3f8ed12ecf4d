-- What the next part of a flush finds: of which kinds slots are queued, and wait to be freed.
use Rattle.std.proofs.Common.{◌≡◌, ◌≢◌, ℕ, ◌<◌, Bool, true, false, List, [], ◌∷◌, ◌++◌, length, refl, sym, ap, ◌∙◌, subst, arith, inl, inr, Option, None, Some, true≢false, All, ◌==◌, ◌&&◌, not, is_some, IfSome, if◌then◌else◌}
use Rattle.pool_alloc.proofs.Imports.{of_kind, AllByRecursion, list_any, cases_Bool, or_parts, All-nil, All-cons, All-head, All-tail, All-same, All-push, SlotKind, memory_kind, table_kind, stack_kind, Role, shard_role, role_at, home_of, Queue, Queued, IsQueue, CanBeZeroed, same_kind, is_to_zero, first_of_kind, Allocator, Plan, SlotName, kind_self, can_zero}
use Rattle.pool_alloc.specs.BetweenSteps.{IsPoolPlan, HasCells, IsSlotName, IsFreedOf, AreOfOneKind}
use Rattle.pool_alloc.specs.Places.{right_to, queued_count}
use Rattle.pool_alloc.specs.StepReads.{no_allocator, first_shard}
use Rattle.pool_alloc.specs.StepTable.{FlushStep, run, zero, put, free, flush_kinds, some_queued, kind_queued, kind_settled, settled_step, flush_step}
use Rattle.pool_alloc.specs.declared.frame.FreedSlot.{FreedSlot}
use Rattle.pool_alloc.proofs.BeforeTheTurn.{empty_length, some_length}
use Rattle.pool_alloc.proofs.FreedSlots.{first_of}
use Rattle.pool_alloc.proofs.KindCounts.{first_has, first_kind, none_first}
use Rattle.pool_alloc.proofs.PlanPlaces.{at_home}
use Rattle.pool_alloc.proofs.SlotCounts.{slot_once}

-- a region of a kind is put back, and slots are freed
pub record FindsPut (kind : SlotKind) (slots : List Queued) (freed : List FreedSlot) : Type 0 where
  pub is : kind_settled slots freed ≡ kind
  pub none_to_zero : list_any (is_to_zero kind) slots ≡ false
  pub queued : some_queued kind slots ≡ true

abbrev pub FindsFreed : List Queued → List FreedSlot → Type 0
FindsFreed slots freed = some_queued (kind_settled slots freed) slots ≡ false

abbrev pub Finds : FlushStep → Queue → List FreedSlot → Type 0
Finds run local freed = 0 < length local.ranges
Finds (zero kind) local freed = (local.ranges ≡ []) × (list_any (is_to_zero kind) local.slots ≡ true)
Finds (put kind) local freed = (local.ranges ≡ []) × FindsPut kind local.slots freed
Finds free local freed = (local.ranges ≡ []) × FindsFreed local.slots freed

settled_finds : (a b : Bool) (kind : SlotKind) (local : Queue) (freed : List FreedSlot) → local.ranges ≡ [] → kind_settled local.slots freed ≡ kind → list_any (is_to_zero kind) local.slots ≡ a → some_queued kind local.slots ≡ b
    → Finds (if a then zero kind else (if b then put kind else free)) local freed
settled_finds true b kind local freed none is to_zero queued = (none, to_zero)
settled_finds false true kind local freed none is to_zero queued = (none, record { is = is; none_to_zero = to_zero; queued = queued })
settled_finds false false kind local freed none is to_zero queued = (none, (let F : SlotKind → Type 0 = λ k. some_queued k local.slots ≡ false in subst F (sym is) queued))

finds_by : (b : Bool) (local : Queue) (freed : List FreedSlot) → (length local.ranges == 0) ≡ b → Finds (if b then settled_step (kind_settled local.slots freed) local.slots else run) local freed
finds_by true local freed none =
    let kind : SlotKind = kind_settled local.slots freed in
    settled_finds (list_any (is_to_zero kind) local.slots) (some_queued kind local.slots) kind local freed (empty_length local.ranges none) refl refl refl
finds_by false local freed some = some_length local.ranges some

pub finds : (local : Queue) (freed : List FreedSlot) → Finds (flush_step local freed) local freed
finds local freed = finds_by (length local.ranges == 0) local freed refl

none_there : (o : Option Queued) → is_some o ≡ false → o ≡ None
none_there None e = refl
none_there (Some m) e = absurd (true≢false e)

none_any : {X : Type 0} (p : X → Bool) (xs : List X) → list_any p xs ≡ false → AllByRecursion (λ x. p x ≡ false) xs
none_any p [] none = tt
none_any p (x ∷ xs) none = let parts = or_parts (p x) (list_any p xs) none in (parts.0, none_any p xs parts.1)

-- Queued slots of the pool are of its kinds.
pub names_of : (plan : Plan) (ms : List Queued) → All (λ m. HasCells m.name.kind) ms → ((name : SlotName) → 0 < queued_count (right_to name) ms → name.slot < of_kind name.kind plan.totals) → AllByRecursion (λ m. IsSlotName plan m.name) ms
names_of plan [] cells named = tt
names_of plan (m ∷ ms) cells named =
    let C : Queued → Type 0 = λ x. HasCells x.name.kind in
    (record { cells = All-head C m ms cells; inside = named m.name (omega (arith, slot_once m.name)) }, names_of plan ms (All-tail C m ms cells) (λ name some. named name (omega (arith, some))))

-- where the first kind that is queued isn't, none of the kinds is
none_queued : (kinds : List SlotKind) (ms : List Queued) → some_queued (kind_queued kinds ms) ms ≡ false → AllByRecursion (λ k. some_queued k ms ≡ false) kinds
none_queued [] ms none = tt
none_queued (k ∷ later) ms none =
    elim (cases_Bool (some_queued k ms)) [
      | inl some ↦
          let is : kind_queued (k ∷ later) ms ≡ k = rw some refl in
          absurd (true≢false (sym some ∙ ap (λ (x : SlotKind). some_queued x ms) (sym is) ∙ none))
      | inr other ↦
          let is : kind_queued (k ∷ later) ms ≡ kind_queued later ms = rw other refl in
          (other, none_queued later ms (ap (λ (x : SlotKind). some_queued x ms) (sym is) ∙ none))
    ]

-- and a slot of the pool is of one of them
no_kind : (k : SlotKind) (ms : List Queued) → HasCells k → AllByRecursion (λ x. some_queued x ms ≡ false) flush_kinds → some_queued k ms ≡ false
no_kind memory_kind ms pooled none = none.0
no_kind table_kind ms pooled none = none.1.0
no_kind stack_kind ms pooled none = none.1.1.0
no_kind k ms pooled none = absurd pooled

none_left : (plan : Plan) (ms : List Queued) → AllByRecursion (λ m. IsSlotName plan m.name) ms → AllByRecursion (λ k. some_queued k ms ≡ false) flush_kinds → ms ≡ []
none_left plan [] named none = refl
none_left plan (m ∷ ms) named none =
    let kind : SlotKind = m.name.kind in
    let first : first_of_kind kind (m ∷ ms) ≡ Some m = rw (kind_self kind) refl in
    absurd (true≢false (sym (ap (λ (o : Option Queued). is_some o) first) ∙ no_kind kind (m ∷ ms) named.0.cells none))

-- A shard of a kind has no slot of another.
record IsKindShard (plan : Plan) (k : SlotKind) (p : ℕ) : Type 0 where
  allocator : Allocator
  index : ℕ
  kind : allocator.kind ≡ k
  role : role_at plan p ≡ shard_role allocator index

abbrev role_allocator : Role → Allocator
role_allocator (shard_role a j) = a
role_allocator _ = no_allocator

home_apart : (plan : Plan) (places : ℕ) (k : SlotKind) (p : ℕ) (name : SlotName) → IsPoolPlan plan places → IsSlotName plan name → IsKindShard plan k p → same_kind k name.kind ≡ false → (home_of plan name).place ≢ p
home_apart plan places k p name is named shard other e =
    let home = at_home plan places name is named.inside in
    let one : home.allocator ≡ shard.allocator = ap role_allocator (sym home.role ∙ ap (role_at plan) e ∙ shard.role) in
    let same : k ≡ name.kind = sym shard.kind ∙ ap (λ (a : Allocator). a.kind) (sym one) ∙ home.kind in
    true≢false (sym (kind_self k) ∙ ap (same_kind k) same ∙ other)

kind_homes : (plan : Plan) (places : ℕ) (k : SlotKind) (xs : List FreedSlot) → IsPoolPlan plan places → All (IsFreedOf plan) xs → All (λ x. x.name.kind ≡ k) xs → All (λ x. IsKindShard plan k (home_of plan x.name).place) xs
kind_homes plan places k [] is each kinds = All-nil (λ (x : FreedSlot). IsKindShard plan k (home_of plan x.name).place)
kind_homes plan places k (x ∷ xs) is each kinds =
    let F : FreedSlot → Type 0 = IsFreedOf plan in
    let K : FreedSlot → Type 0 = λ y. y.name.kind ≡ k in
    let home = at_home plan places x.name is (All-head F x xs each).named.inside in
    All-cons (λ (y : FreedSlot). IsKindShard plan k (home_of plan y.name).place) x xs (record { allocator = home.allocator; index = home.shard; kind = home.kind ∙ All-head K x xs kinds; role = home.role })
    (kind_homes plan places k xs is (All-tail F x xs each) (All-tail K x xs kinds))

apart_homes : (plan : Plan) (places : ℕ) (k : SlotKind) (p : ℕ) (ms : List Queued) → IsPoolPlan plan places → IsKindShard plan k p → AllByRecursion (λ m. IsSlotName plan m.name) ms → AllByRecursion (λ m. same_kind k m.name.kind ≡ false) ms → All (λ m. (home_of plan m.name).place ≢ p) ms
apart_homes plan places k p [] is shard named others = All-nil (λ (m : Queued). (home_of plan m.name).place ≢ p)
apart_homes plan places k p (m ∷ ms) is shard named others = All-cons (λ (n : Queued). (home_of plan n.name).place ≢ p) m ms (home_apart plan places k p m.name is named.0 shard others.0) (apart_homes plan places k p ms is shard named.1 others.1)

-- So where slots are freed there are some, and none that is still queued is at home in the first shard of them.
pub record FreesFirst (plan : Plan) (ms : List Queued) (xs : List FreedSlot) : Type 0 where
  pub some : 0 < length xs
  pub apart : All (λ m. (home_of plan m.name).place ≢ first_shard plan xs) ms

pub frees_first : (plan : Plan) (places : ℕ) (ms : List Queued) (xs : List FreedSlot) → IsPoolPlan plan places → All (IsFreedOf plan) xs → AllByRecursion (λ m. IsSlotName plan m.name) ms → AreOfOneKind xs → FindsFreed ms xs → (ms ≡ [] → 0 < length xs) → FreesFirst plan ms xs
frees_first plan places ms [] is each named order found left =
    let empty : ms ≡ [] = none_left plan ms named (none_queued flush_kinds ms found) in
    let none : 0 < length {A = FreedSlot} [] = left empty in
    absurd (omega (arith, none))
frees_first plan places ms (x ∷ xs) is each named order found left =
    let K : FreedSlot → Type 0 = λ y. y.name.kind ≡ order.0 in
    let kind : x.name.kind ≡ order.0 = All-head K x xs order.1 in
    let none : some_queued order.0 ms ≡ false = ap (λ (k : SlotKind). some_queued k ms) (sym kind) ∙ found in
    let some : 0 < length (x ∷ xs) = omega arith in
    record {
      some = some;
      apart = apart_homes plan places order.0 (first_shard plan (x ∷ xs)) ms is (first_of (IsKindShard plan order.0) plan (x ∷ xs) some (kind_homes plan places order.0 (x ∷ xs) is each order.1)) named (none_first order.0 ms (none_there (first_of_kind order.0 ms) none));
    }

-- Those that wait stay of one kind as slots of a shard are freed,
pub order_freed : (xs ys : List FreedSlot) → ((Q : FreedSlot → Type 0) → All Q xs → All Q ys) → AreOfOneKind xs → AreOfOneKind ys
order_freed xs ys fewer order = (order.0, fewer (λ x. x.name.kind ≡ order.0) order.1)

-- as a region of their kind is put back,
pub order_put : (kind : SlotKind) (ms : List Queued) (xs : List FreedSlot) (x : FreedSlot) → FindsPut kind ms xs → x.name.kind ≡ kind → AreOfOneKind xs → AreOfOneKind (xs ++ x ∷ [])
order_put kind ms [] x found is order = let K : FreedSlot → Type 0 = λ y. y.name.kind ≡ kind in (kind, All-push K [] x (All-nil K) is)
order_put kind ms (y ∷ ys) x found is order =
    let K : FreedSlot → Type 0 = λ z. z.name.kind ≡ order.0 in
    (order.0, All-push K (y ∷ ys) x order.1 (is ∙ sym found.is ∙ All-head K y ys order.1))

-- and where none does.
pub none_waits : (xs : List FreedSlot) → xs ≡ [] → AreOfOneKind xs
none_waits xs none = let M : FreedSlot → Type 0 = λ x. x.name.kind ≡ memory_kind in (memory_kind, All-same M xs [] none (All-nil M))

pub puts_some : (kind : SlotKind) (ms : List Queued) (xs : List FreedSlot) → FindsPut kind ms xs → first_of_kind kind ms ≡ None → ⊥
puts_some kind ms xs found none = true≢false (sym found.queued ∙ ap (λ (o : Option Queued). is_some o) none)

some_slots : (kind : SlotKind) (ms : List Queued) → (first_of_kind kind ms ≡ None → ⊥) → 0 < length ms
some_slots kind [] some = absurd (some refl)
some_slots kind (m ∷ ms) some = omega arith

pub put_some : (kind : SlotKind) (ms : List Queued) (xs : List FreedSlot) → FindsPut kind ms xs → 0 < length ms
put_some kind ms xs found = some_slots kind ms (puts_some kind ms xs found)

-- A slot that is put back is known where it is zeroed by hand, and can be zeroed so.
abbrev pub IsBack : Queued → Type 0
IsBack m = IfSome m.by_hand (λ n. CanBeZeroed n m.slot × (m.known ≡ true))

known_of : (a b k : Bool) → a ≡ true → b ≡ true → (a && (b && not k)) ≡ false → k ≡ true
known_of true true true p q e = refl
known_of true true false p q e = absurd (true≢false e)
known_of true false k p q e = absurd (true≢false (sym q))
known_of false b k p q e = absurd (true≢false (sym p))

back_by : (m : Queued) (o : Option ℕ) → IfSome o (λ n. CanBeZeroed n m.slot) → (is_some o ≡ true → m.known ≡ true) → IfSome o (λ n. CanBeZeroed n m.slot × (m.known ≡ true))
back_by m None can known = tt
back_by m (Some n) can known = (can, known refl)

pub is_back : (kind : SlotKind) (m : Queued) (q : Queue) (xs : List FreedSlot) → IsQueue q → FindsPut kind q.slots xs → first_of_kind kind q.slots ≡ Some m → IsBack m
is_back kind m q xs queue found is =
    let same : same_kind kind m.name.kind ≡ true = ap (same_kind kind) (sym (first_kind kind m q.slots is)) ∙ kind_self kind in
    let to_zero : is_to_zero kind m ≡ false = first_has (λ (x : Queued). is_to_zero kind x ≡ false) kind m q.slots is (none_any (is_to_zero kind) q.slots found.none_to_zero) in
    back_by m m.by_hand (first_has (λ (x : Queued). IfSome x.by_hand (λ n. CanBeZeroed n x.slot)) kind m q.slots is (can_zero q queue)) (λ some. known_of (same_kind kind m.name.kind) (is_some m.by_hand) m.known same some to_zero)
