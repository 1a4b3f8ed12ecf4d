-- What a flush does, and what each part of it leaves.
use Rattle.std.proofs.Common.{◌≡◌, ◌≢◌, ℕ, zero, suc, ◌+◌, ◌*◌, ◌<◌, ◌≤◌, Bool, true, false, List, [], ◌∷◌, ◌++◌, length, refl, sym, ap, ◌∙◌, subst, inl, inr, arith, ◌⊎◌, Option, None, Some, map, true≢false, All, ◌==◌, nat_lt, filter, min, sum_by, if◌then◌else◌, is_some, ◌&&◌, ◌||◌, not}
use Rattle.pool_alloc.proofs.Imports.{zeroed_long, all_by_kind, one_at_most, memory_kind, table_kind, stack_kind, SlotKind, SlotName, shard_below, AllByRecursion, AllZip, list_any, Home, Allocator, allocators_of, have_number, has_number, home_among, home_in, home_of, eq-eqb, ne_eqb, eqb-true, lt-ltb, cases_eq, cases_lt, cases_Bool, and_parts, length_all_zip, All-weaker, All-head, All-tail, All-append, sum_by-cons, sum_by_push, MakerTold, one_if, Queue, Queued, after_append, after_run, first_slot, IsLeftBy, first_of_kind, first_zeroed, is_to_zero, others_of_kind, same_kind, zeroed_by, change_at, is_of, front, same_slot, zeroed, QueuedRange, Plan, decommitted_all}
use Rattle.pool_alloc.proofs.PoolParts.{sound_queue}
use Rattle.pool_alloc.proofs.SlotsOfFrames.{right_is_out}
use Rattle.pool_alloc.proofs.FreedSlots.{first_of}
use Rattle.pool_alloc.proofs.PlanPlaces.{has_home, IsQueuePlace}
use Rattle.pool_alloc.specs.BetweenSteps.{IsStripe, IsPoolPlan, HasCells, IsSlotName, IsCore, IsFreedOf, IsQueuedOf}
use Rattle.pool_alloc.specs.PageCallAnswers.{Decommits}
use Rattle.pool_alloc.specs.declared.pool_core.Settings.{Settings}
use Rattle.pool_alloc.specs.StepBounds.{PoolSizes, sizes_of, all_shards, is_home, waiting_for, shards_waiting, all_waiting, flush_left, flushed_allocators, may_zero, zeroings}
use Rattle.pool_alloc.specs.Places.{right_to, away_count, queued_count, of_units}
use Rattle.pool_alloc.specs.RangeRuns.{runs, IsGrouped}
use Rattle.pool_alloc.specs.Reserved.{Reserved, with_item}
use Rattle.pool_alloc.specs.StepReads.{queue_at, freed_of, freed_elsewhere, first_shard}
use Rattle.pool_alloc.specs.Stepping.{CanStep}
use Rattle.pool_alloc.specs.declared.pool_core.PoolCore.{PoolCore}
use Rattle.pool_alloc.specs.declared.frame.Frame.{Frame}
use Rattle.pool_alloc.specs.declared.frame.FreedSlot.{FreedSlot}
use Rattle.pool_alloc.proofs.SumsBelow.{few_queued, queued_cells}
use Rattle.pool_alloc.proofs.KeptCounts.{queue_kept, out_once}
use Rattle.pool_alloc.proofs.QueueCounts.{queued_joined, run_names, faulted_names}
use Rattle.pool_alloc.proofs.RangeRuns.{runs_fewer}
use Rattle.pool_alloc.proofs.SlotIdentity.{length_after_run}
use Rattle.pool_alloc.proofs.KindCounts.{others_long, sum_first, zeroed_names}

-- the slots that are left once those of the first shard are freed
kept_one : (p : FreedSlot → Bool) (x : FreedSlot) (xs : List FreedSlot) → p x ≡ true → 1 ≤ length (filter p (x ∷ xs))
kept_one p x xs e = rw e (omega arith)

kept_more : (p : FreedSlot → Bool) (x : FreedSlot) (xs : List FreedSlot) → length (filter p xs) ≤ length (filter p (x ∷ xs))
kept_more p x xs =
    elim (cases_Bool (p x)) [
      | inl e ↦ rw e (omega arith)
      | inr e ↦ rw e (omega arith)
    ]

first_has_some : (plan : Plan) (xs : List FreedSlot) → 0 < length xs → 1 ≤ length (freed_of plan (first_shard plan xs) xs)
first_has_some plan [] some = absurd (omega arith)
first_has_some plan (x ∷ []) some = kept_one (λ y. (home_of plan y.name).place == (home_of plan x.name).place) x [] (eq-eqb (home_of plan x.name).place (home_of plan x.name).place refl)
first_has_some plan (x ∷ y ∷ rest) some =
    let j : ℕ = (home_of plan x.name).place in
    let k : ℕ = first_shard plan (y ∷ rest) in
    let Some : ℕ → Type 0 = λ n. 1 ≤ length (freed_of plan n (x ∷ y ∷ rest)) in
    elim (cases_lt k j) [
      | inl less ↦
          let least : k ≡ min j k = omega arith in
          let rest_has : 1 ≤ length (freed_of plan k (y ∷ rest)) = first_has_some plan (y ∷ rest) (omega arith) in
          subst Some least (omega (arith, rest_has, kept_more (λ v. (home_of plan v.name).place == k) x (y ∷ rest)))
      | inr other ↦
          let least : j ≡ min j k = omega arith in
          subst Some least (kept_one (λ v. (home_of plan v.name).place == j) x (y ∷ rest) (eq-eqb j j refl))
    ]

-- how many shards some slots wait for, where as many wait for each, or for fewer
shards_agree : (z : PoolSizes) (first n : ℕ) (ms ns : List Queued) (xs ys : List FreedSlot) → ((j : ℕ) → j < n → waiting_for z (first + j) ns ys ≡ waiting_for z (first + j) ms xs) → shards_waiting z first n ns ys ≡ shards_waiting z first n ms xs
shards_agree z first zero ms ns xs ys same = refl
shards_agree z first (suc n) ms ns xs ys same =
    omega (arith, ap (λ (k : ℕ). one_if (nat_lt 0 k)) (same n (omega arith)), shards_agree z first n ms ns xs ys (λ j below. same j (omega (arith, below))))

pub all_same : (z : PoolSizes) (all : List Allocator) (ms ns : List Queued) (xs ys : List FreedSlot) → ((p : ℕ) → waiting_for z p ns ys ≡ waiting_for z p ms xs) → all_waiting z all ns ys ≡ all_waiting z all ms xs
all_same z [] ms ns xs ys same = refl
all_same z (a ∷ more) ms ns xs ys same = omega (arith, shards_agree z a.first_place a.shards ms ns xs ys (λ j below. same (a.first_place + j)), all_same z more ms ns xs ys same)

-- where none waits for the shard at one place, and as many as before for the others
record WaitsLess (z : PoolSizes) (p : ℕ) (ms ns : List Queued) (xs ys : List FreedSlot) : Type 0 where
  some : 0 < waiting_for z p ms xs
  none : waiting_for z p ns ys ≡ 0
  others : (q : ℕ) → q ≢ p → waiting_for z q ns ys ≡ waiting_for z q ms xs

one_less : (n m : ℕ) → n ≤ m → one_if (nat_lt 0 n) ≤ one_if (nat_lt 0 m)
one_less zero m less = omega arith
one_less (suc n) m less =
    let now : one_if (nat_lt 0 m) ≡ 1 = ap one_if (lt-ltb 0 m (omega (arith, less))) in
    let before : one_if (nat_lt 0 (suc n)) ≡ 1 = ap one_if (lt-ltb 0 (suc n) (omega arith)) in
    omega arith

waits_most : (z : PoolSizes) (p q : ℕ) (ms ns : List Queued) (xs ys : List FreedSlot) → WaitsLess z p ms ns xs ys → waiting_for z q ns ys ≤ waiting_for z q ms xs
waits_most z p q ms ns xs ys less =
    elim (cases_eq q p) [
      | inl is ↦ let gone : waiting_for z q ns ys ≡ 0 = ap (λ (n : ℕ). waiting_for z n ns ys) is ∙ less.none in omega arith
      | inr other ↦ omega (arith, less.others q other)
    ]

shards_most : (z : PoolSizes) (p first n : ℕ) (ms ns : List Queued) (xs ys : List FreedSlot) → WaitsLess z p ms ns xs ys → shards_waiting z first n ns ys ≤ shards_waiting z first n ms xs
shards_most z p first zero ms ns xs ys less = omega arith
shards_most z p first (suc n) ms ns xs ys less =
    omega (arith, one_less (waiting_for z (first + n) ns ys) (waiting_for z (first + n) ms xs) (waits_most z p (first + n) ms ns xs ys less), shards_most z p first n ms ns xs ys less)

all_most : (z : PoolSizes) (p : ℕ) (all : List Allocator) (ms ns : List Queued) (xs ys : List FreedSlot) → WaitsLess z p ms ns xs ys → all_waiting z all ns ys ≤ all_waiting z all ms xs
all_most z p [] ms ns xs ys less = omega arith
all_most z p (a ∷ more) ms ns xs ys less = omega (arith, shards_most z p a.first_place a.shards ms ns xs ys less, all_most z p more ms ns xs ys less)

shards_less : (z : PoolSizes) (p first n : ℕ) (ms ns : List Queued) (xs ys : List FreedSlot) → first ≤ p → p < first + n → WaitsLess z p ms ns xs ys → shards_waiting z first n ns ys + 1 ≤ shards_waiting z first n ms xs
shards_less z p first zero ms ns xs ys from below less = absurd (omega (arith, from, below))
shards_less z p first (suc n) ms ns xs ys from below less =
    elim (cases_eq p (first + n)) [
      | inl is ↦
          let before : one_if (nat_lt 0 (waiting_for z (first + n) ms xs)) ≡ 1 = ap one_if (lt-ltb 0 _ (subst (λ (k : ℕ). 0 < waiting_for z k ms xs) is less.some)) in
          let now : one_if (nat_lt 0 (waiting_for z (first + n) ns ys)) ≡ 0 = ap (λ (k : ℕ). one_if (nat_lt 0 k)) (subst (λ (k : ℕ). waiting_for z k ns ys ≡ 0) is less.none) in
          omega (arith, before, now, shards_most z p first n ms ns xs ys less)
      | inr other ↦
          let here : one_if (nat_lt 0 (waiting_for z (first + n) ns ys)) ≡ one_if (nat_lt 0 (waiting_for z (first + n) ms xs)) = ap (λ (k : ℕ). one_if (nat_lt 0 k)) (less.others (first + n) (λ e. other (sym e))) in
          omega (arith, here, shards_less z p first n ms ns xs ys from (omega (arith, below, other)) less)
    ]

-- the place is that of a shard of one of these allocators
abbrev IsAmong : List Allocator → ℕ → Type 0
IsAmong [] p = ⊥
IsAmong (a ∷ more) p = ((a.first_place ≤ p) × (p < a.first_place + a.shards)) ⊎ IsAmong more p

all_less : (z : PoolSizes) (p : ℕ) (all : List Allocator) (ms ns : List Queued) (xs ys : List FreedSlot) → IsAmong all p → WaitsLess z p ms ns xs ys → all_waiting z all ns ys + 1 ≤ all_waiting z all ms xs
all_less z p [] ms ns xs ys among less = absurd among
all_less z p (a ∷ more) ms ns xs ys among less =
    elim among [
      | inl here ↦ omega (arith, shards_less z p a.first_place a.shards ms ns xs ys here.0 here.1 less, all_most z p more ms ns xs ys less)
      | inr later ↦ omega (arith, shards_most z p a.first_place a.shards ms ns xs ys less, all_less z p more ms ns xs ys later less)
    ]

among_if : (b : Bool) (a : Allocator) (more : List Allocator) (here there : ℕ) → (b ≡ true → (a.first_place ≤ here) × (here < a.first_place + a.shards)) → (b ≡ false → IsAmong more there) → IsAmong (a ∷ more) (if b then here else there)
among_if true a more here there inside later = inl (inside refl)
among_if false a more here there inside later = inr (later refl)

home_place_if : (b : Bool) (x y : Home) → (if b then x else y).place ≡ (if b then x.place else y.place)
home_place_if true x y = refl
home_place_if false x y = refl

no_more : (b : Bool) (n : ℕ) → b ≡ false → 0 < (if b then 1 else 0) + n → 0 < n
no_more true n e some = absurd cc
no_more false n e some = omega arith

-- the home of a slot is
home_among_them : (all : List Allocator) (slot : ℕ) → AllByRecursion IsStripe all → 0 < have_number all slot → IsAmong all (home_among all slot).place
home_among_them [] slot each some = absurd (omega arith)
home_among_them (a ∷ more) slot each some =
    let b : Bool = has_number a slot in
    let A : ℕ → Type 0 = IsAmong (a ∷ more) in
    subst A (sym (home_place_if b (home_in a slot) (home_among more slot)))
    (among_if b a more (home_in a slot).place (home_among more slot).place
    (λ has. (omega arith, omega (arith, shard_below a slot each.0.placed has)))
    (λ other. home_among_them more slot each.1 (no_more b (have_number more slot) other some)))

among_some : (some more : List Allocator) (p : ℕ) → IsAmong some p → IsAmong (some ++ more) p
among_some [] more p among = absurd among
among_some (a ∷ some) more p among =
    elim among [
      | inl here ↦ inl here
      | inr later ↦ inr (among_some some more p later)
    ]

among_more : (some more : List Allocator) (p : ℕ) → IsAmong more p → IsAmong (some ++ more) p
among_more [] more p among = among
among_more (a ∷ some) more p among = inr (among_more some more p among)

-- so that of each slot of the pool is one of those that a flush frees
flushed_at : (plan : Plan) (places : ℕ) (kind : SlotKind) (slot : ℕ) → IsPoolPlan plan places → HasCells kind → 0 < have_number (allocators_of plan kind) slot → IsAmong (flushed_allocators plan) (home_among (allocators_of plan kind) slot).place
flushed_at plan places memory_kind slot is pooled has = among_some plan.memories (plan.tables ++ plan.stacks) _ (home_among_them plan.memories slot is.shards has)
flushed_at plan places table_kind slot is pooled has = among_more plan.memories (plan.tables ++ plan.stacks) _ (among_some plan.tables plan.stacks _ (home_among_them plan.tables slot is.table_shards has))
flushed_at plan places stack_kind slot is pooled has = among_more plan.memories (plan.tables ++ plan.stacks) _ (among_more plan.tables plan.stacks _ (home_among_them plan.stacks slot is.stack_shards has))
flushed_at plan places kind slot is pooled has = absurd pooled

flushed_home : (plan : Plan) (places : ℕ) (name : SlotName) → IsPoolPlan plan places → IsSlotName plan name → IsAmong (flushed_allocators plan) (home_of plan name).place
flushed_home plan places name is named = flushed_at plan places name.kind name.slot is named.cells (has_home plan places name is named.inside)

shards_few : (z : PoolSizes) (first n : ℕ) (ms : List Queued) (xs : List FreedSlot) → shards_waiting z first n ms xs ≤ n
shards_few z first zero ms xs = omega arith
shards_few z first (suc n) ms xs = omega (arith, one_at_most (nat_lt 0 (waiting_for z (first + n) ms xs)), shards_few z first n ms xs)

all_few : (z : PoolSizes) (all : List Allocator) (ms : List Queued) (xs : List FreedSlot) → all_waiting z all ms xs ≤ all_shards all
all_few z [] ms xs = omega arith
all_few z (a ∷ more) ms xs = omega (arith, shards_few z a.first_place a.shards ms xs, all_few z more ms xs)

-- slots that pass a test, as a sum
passing : (p : FreedSlot → Bool) (xs : List FreedSlot) → sum_by (λ x. one_if (p x)) xs ≡ length (filter p xs)
passing p [] = refl
passing p (x ∷ xs) =
    let first : sum_by (λ y. one_if (p y)) (x ∷ xs) ≡ one_if (p x) + sum_by (λ y. one_if (p y)) xs = sum_by-cons (λ (y : FreedSlot). one_if (p y)) x xs in
    elim (cases_Bool (p x)) [
      | inl e ↦
          let here : one_if (p x) ≡ 1 = ap one_if e in
          let kept : length (filter p (x ∷ xs)) ≡ length (filter p xs) + 1 = rw e (omega arith) in
          omega (arith, first, here, kept, passing p xs)
      | inr e ↦
          let here : one_if (p x) ≡ 0 = ap one_if e in
          let kept : length (filter p (x ∷ xs)) ≡ length (filter p xs) = rw e refl in
          omega (arith, first, here, kept, passing p xs)
    ]

-- those of one shard are gone once they are freed, and those of others stay
abbrev count_of : Plan → ℕ → List FreedSlot → ℕ
count_of plan i xs = sum_by (λ x. one_if ((home_of plan x.name).place == i)) xs

count_first : (plan : Plan) (i : ℕ) (x : FreedSlot) (xs : List FreedSlot) → count_of plan i (x ∷ xs) ≡ one_if ((home_of plan x.name).place == i) + count_of plan i xs
count_first plan i x xs = sum_by-cons (λ (y : FreedSlot). one_if ((home_of plan y.name).place == i)) x xs

elsewhere_none : (plan : Plan) (j : ℕ) (xs : List FreedSlot) → count_of plan j (freed_elsewhere plan j xs) ≡ 0
elsewhere_none plan j [] = refl
elsewhere_none plan j (x ∷ xs) =
    elim (cases_Bool ((home_of plan x.name).place == j)) [
      | inl e ↦
          let left : freed_elsewhere plan j (x ∷ xs) ≡ freed_elsewhere plan j xs = rw e refl in
          ap (count_of plan j) left ∙ elsewhere_none plan j xs
      | inr e ↦
          let left : freed_elsewhere plan j (x ∷ xs) ≡ x ∷ freed_elsewhere plan j xs = rw e refl in
          let here : one_if ((home_of plan x.name).place == j) ≡ 0 = ap one_if e in
          omega (arith, ap (count_of plan j) left, count_first plan j x (freed_elsewhere plan j xs), here, elsewhere_none plan j xs)
    ]

elsewhere_same : (plan : Plan) (i j : ℕ) (xs : List FreedSlot) → i ≢ j → count_of plan i (freed_elsewhere plan j xs) ≡ count_of plan i xs
elsewhere_same plan i j [] other = refl
elsewhere_same plan i j (x ∷ xs) other =
    elim (cases_Bool ((home_of plan x.name).place == j)) [
      | inl e ↦
          let left : freed_elsewhere plan j (x ∷ xs) ≡ freed_elsewhere plan j xs = rw e refl in
          let not_here : one_if ((home_of plan x.name).place == i) ≡ 0 = ap one_if (ne_eqb (home_of plan x.name).place i (λ is. other (sym is ∙ eqb-true (home_of plan x.name).place j e))) in
          omega (arith, ap (count_of plan i) left, count_first plan i x xs, not_here, elsewhere_same plan i j xs other)
      | inr e ↦
          let left : freed_elsewhere plan j (x ∷ xs) ≡ x ∷ freed_elsewhere plan j xs = rw e refl in
          omega (arith, ap (count_of plan i) left, count_first plan i x xs, count_first plan i x (freed_elsewhere plan j xs), elsewhere_same plan i j xs other)
    ]

zeroings_few : (b : Bool) (ms : List Queued) → sum_by (may_zero b) ms ≤ length ms
zeroings_few b [] = omega arith
zeroings_few b (m ∷ ms) = omega (arith, one_at_most (is_some m.by_hand && (b || not m.known)), sum_by-cons (may_zero b) m ms, zeroings_few b ms)

-- what a flush does is no more than three steps a slot and one a shard
pub flush_few : (z : PoolSizes) (slots : ℕ) (local : Queue) (freed : Reserved FreedSlot) → IsGrouped local → length local.slots ≤ slots → flush_left z local freed ≤ 3 * slots + all_shards (flushed_allocators z.plan)
flush_few z slots local freed grouped few = omega (arith, grouped, few, zeroings_few (nat_lt 0 (length local.ranges)) local.slots, all_few z (flushed_allocators z.plan) local.slots freed.items)

runs_some : (rs : List QueuedRange) → 0 < length rs → 1 ≤ runs rs
runs_some [] some = absurd (omega arith)
runs_some (r ∷ rs) some = omega arith

-- how many slots may have to be zeroed by hand is no more once ranges are gone, as long as it stays how a slot is zeroed
zero_most : (x y : Bool) → one_if (x && y) ≤ one_if (x && true)
zero_most true y = one_at_most y
zero_most false y = omega arith

zero_less : (b : Bool) (m n : Queued) → n.by_hand ≡ m.by_hand → may_zero b n ≤ may_zero true m
zero_less b m n same = omega (arith, zero_most (is_some n.by_hand) (b || not n.known), ap (λ (o : Option ℕ). one_if (is_some o && true)) same)

zeroed_zip : (b : Bool) (R : Queued → Queued → Type 0) → ((m n : Queued) → R m n → n.by_hand ≡ m.by_hand) → (ms ns : List Queued) → AllZip R ms ns → sum_by (may_zero b) ns ≤ sum_by (may_zero true) ms
zeroed_zip b R same [] [] z = omega arith
zeroed_zip b R same [] (n ∷ ns) z = absurd z
zeroed_zip b R same (m ∷ ms) [] z = absurd z
zeroed_zip b R same (m ∷ ms) (n ∷ ns) z = omega (arith, zero_less b m n (same m n z.0), sum_by-cons (may_zero b) n ns, sum_by-cons (may_zero true) m ms, zeroed_zip b R same ms ns z.1)

zeroed_map : (b : Bool) (f : Queued → Queued) → ((m : Queued) → (f m).by_hand ≡ m.by_hand) → (ms : List Queued) → sum_by (may_zero b) (map f ms) ≤ sum_by (may_zero true) ms
zeroed_map b f same [] = omega arith
zeroed_map b f same (m ∷ ms) = omega (arith, zero_less b m (f m) (same m), sum_by-cons (may_zero b) (f m) (map f ms), sum_by-cons (may_zero true) m ms, zeroed_map b f same ms)

hand_changed : (b : Bool) (m n : Queued) → n.by_hand ≡ m.by_hand → (if b then n else m).by_hand ≡ m.by_hand
hand_changed true m n same = same
hand_changed false m n same = refl

with_ranges_left : (q : Queue) → 0 < length q.ranges → zeroings q ≡ sum_by (may_zero true) q.slots
with_ranges_left q some = ap (λ (b : Bool). sum_by (may_zero b) q.slots) (lt-ltb 0 (length q.ranges) some)

-- a run less is left after it was decommitted, or after a decommit failed
pub decommit_fewer : (z : PoolSizes) (fault : Bool) (old new : Queue) (freed : Reserved FreedSlot) → Decommits fault old new → 0 < length old.ranges → flush_left z new freed + 1 ≤ flush_left z old freed
decommit_fewer z true old new freed faulted some =
    omega (
      arith,
      runs_some old.ranges some,
      ap runs faulted.ranges,
      length_all_zip (IsLeftBy (first_slot old.ranges)) old.slots new.slots faulted.slots,
      with_ranges_left old some,
      zeroed_zip (nat_lt 0 (length new.ranges)) (IsLeftBy (first_slot old.ranges)) (λ m n left. ap (λ (x : Queued). x.by_hand) left.same) old.slots new.slots faulted.slots,
      all_same z (flushed_allocators z.plan) old.slots new.slots freed.items freed.items (λ j. omega (arith, faulted_names (λ name n. is_home z j name) old new faulted)),
    )
decommit_fewer z false old new freed run some =
    let F : Queue → Type 0 = λ q. flush_left z q freed + 1 ≤ flush_left z old freed in
    subst F (sym run)
    (omega (
      arith,
      runs_fewer old.ranges some,
      length_after_run old,
      with_ranges_left old some,
      zeroed_map (nat_lt 0 (length (after_run old).ranges)) (change_at (first_slot old.ranges) (decommitted_all (map (λ r. r.range) (front (is_of (first_slot old.ranges)) old.ranges)))) (λ m. hand_changed (same_slot (first_slot old.ranges) m.name) m (record m { slot = decommitted_all (map (λ r. r.range) (front (is_of (first_slot old.ranges)) old.ranges)) m.slot }) refl) old.slots,
      all_same z (flushed_allocators z.plan) old.slots (after_run old).slots freed.items freed.items (λ j. omega (arith, run_names (λ name n. is_home z j name) old)),
    ))

-- a slot less is to be zeroed once one was
none_zeroed : (x : Bool) → one_if (x && false) ≡ 0
none_zeroed true = refl
none_zeroed false = refl

zeroed_now : (m : Queued) (o : Option ℕ) → m.by_hand ≡ o → may_zero false (zeroed_by o m) ≡ 0
zeroed_now m None is = ap (λ (x : Option ℕ). one_if (is_some x && not m.known)) is
zeroed_now m (Some n) is = none_zeroed (is_some m.by_hand)

or_second : (x y : Bool) → x ≡ false → (x || y) ≡ true → y ≡ true
or_second x y first both = ap (λ (b : Bool). b || y) (sym first) ∙ both

zeroed_fewer : (kind : SlotKind) (ms : List Queued) → list_any (is_to_zero kind) ms ≡ true → sum_by (may_zero false) (first_zeroed kind ms) + 1 ≤ sum_by (may_zero false) ms
zeroed_fewer kind [] some = absurd (true≢false (sym some))
zeroed_fewer kind (m ∷ ms) some =
    elim (cases_Bool (is_to_zero kind m)) [
      | inl is ↦
          let one : may_zero false m ≡ 1 = ap one_if (and_parts (same_kind kind m.name.kind) (is_some m.by_hand && not m.known) is).1 in
          let first : first_zeroed kind (m ∷ ms) ≡ zeroed m ∷ ms = rw is refl in
          omega (arith, one, ap (sum_by (may_zero false)) first, zeroed_now m m.by_hand refl, sum_by-cons (may_zero false) (zeroed m) ms, sum_by-cons (may_zero false) m ms)
      | inr other ↦
          let later : list_any (is_to_zero kind) ms ≡ true = or_second (is_to_zero kind m) (list_any (is_to_zero kind) ms) other some in
          let first : first_zeroed kind (m ∷ ms) ≡ m ∷ first_zeroed kind ms = rw other refl in
          omega (arith, ap (sum_by (may_zero false)) first, sum_by-cons (may_zero false) m (first_zeroed kind ms), sum_by-cons (may_zero false) m ms, zeroed_fewer kind ms later)
    ]

pub zero_fewer : (z : PoolSizes) (kind : SlotKind) (local : Queue) (freed : Reserved FreedSlot) → local.ranges ≡ [] → list_any (is_to_zero kind) local.slots ≡ true → flush_left z (record local { slots = first_zeroed kind local.slots }) freed + 1 ≤ flush_left z local freed
zero_fewer z kind local freed none some =
    let b : nat_lt 0 (length local.ranges) ≡ false = rw none refl in
    let now : List Queued = first_zeroed kind local.slots in
    omega (
      arith,
      ap (λ (c : Bool). sum_by (may_zero c) local.slots) b,
      ap (λ (c : Bool). sum_by (may_zero c) now) b,
      zeroed_fewer kind local.slots some,
      zeroed_long kind local.slots,
      all_same z (flushed_allocators z.plan) local.slots now freed.items freed.items (λ j. omega (arith, zeroed_names (λ name n. is_home z j name) kind local.slots)),
    )

-- a region less is to be put back once one was, and its slot still waits
pub put_fewer : (z : PoolSizes) (kind : SlotKind) (m : Queued) (local : Queue) (freed : Reserved FreedSlot) → first_of_kind kind local.slots ≡ Some m → flush_left z (record local { slots = others_of_kind kind local.slots }) (with_item (record { name = m.name; bytes = m.bytes }) freed) + 1 ≤ flush_left z local freed
put_fewer z kind m local freed is =
    let x : FreedSlot = record { name = m.name; bytes = m.bytes } in
    let ms : List Queued = local.slots in
    let b : Bool = nat_lt 0 (length local.ranges) in
    omega (
      arith,
      sum_first (may_zero b) kind m ms is,
      others_long kind m ms is,
      all_same z (flushed_allocators z.plan) ms (others_of_kind kind ms) freed.items (freed.items ++ x ∷ [])
          (λ j. omega (arith, sum_first (λ (q : Queued). is_home z j q.name) kind m ms is, sum_by_push (λ (y : FreedSlot). is_home z j y.name) freed.items x)),
    )

-- none of the queued slots waits for a shard where none is at home
none_home : (z : PoolSizes) (p : ℕ) (ms : List Queued) → All (λ m. (home_of z.plan m.name).place ≢ p) ms → sum_by (λ m. is_home z p m.name) ms ≡ 0
none_home z p [] each = refl
none_home z p (m ∷ ms) each =
    let Goal : Queued → Type 0 = λ x. (home_of z.plan x.name).place ≢ p in
    omega (arith, ap one_if (ne_eqb (home_of z.plan m.name).place p (All-head Goal m ms each)), sum_by-cons (λ (x : Queued). is_home z p x.name) m ms, none_home z p ms (All-tail Goal m ms each))

-- a shard less waits once its slots are freed
pub free_fewer : (s : Settings) (plan : Plan) (places : ℕ) (ms : List Queued) (xs : List FreedSlot) → IsPoolPlan plan places → All (IsFreedOf plan) xs → All (λ m. (home_of plan m.name).place ≢ first_shard plan xs) ms → 0 < length xs
    → all_waiting (sizes_of s plan) (flushed_allocators plan) ms (freed_elsewhere plan (first_shard plan xs) xs) + 1 ≤ all_waiting (sizes_of s plan) (flushed_allocators plan) ms xs
free_fewer s plan places ms xs is each apart some =
    let p : ℕ = first_shard plan xs in
    let z : PoolSizes = sizes_of s plan in
    let A : ℕ → Type 0 = IsAmong (flushed_allocators plan) in
    let among : A p = first_of A plan xs some (All-weaker (IsFreedOf plan) (λ x. A (home_of plan x.name).place) (λ x of. flushed_home plan places x.name is of.named) xs each) in
    all_less z p (flushed_allocators plan) ms ms xs (freed_elsewhere plan p xs) among
    (record {
      some = omega (arith, passing (λ x. (home_of plan x.name).place == p) xs, first_has_some plan xs some);
      none = omega (arith, none_home z p ms apart, elsewhere_none plan p xs);
      others = λ q other. omega (arith, elsewhere_same plan q p xs other);
    })

module _ {P H : Type 0} where
  few_of : (maker : MakerTold) (c : PoolCore P H) (ms : List Queued) → IsCore maker c → All (IsQueuedOf maker c.settings) ms → ((name : SlotName) → queued_count (right_to name) ms ≤ away_count (right_to name) c) → length ms ≤ (sizes_of c.settings c.plan).slots
  few_of maker c ms core each out =
      few_queued c.plan ms
      (λ name. omega (arith, out name, (out_once maker name c core).0))
      (All-weaker (IsQueuedOf maker c.settings) (λ m. HasCells m.name.kind) (queued_cells maker c.settings) ms each)
      (λ name some. (right_is_out maker name c core (omega (arith, some, out name))).inside)

  pub few_in_queue : (maker : MakerTold) (i : ℕ) (c : PoolCore P H) (f : Frame P H) → CanStep maker c f → IsQueuePlace c.plan i → length (queue_at i c).slots ≤ (sizes_of c.settings c.plan).slots
  few_in_queue maker i c f can place =
      few_of maker c (queue_at i c).slots can.core (sound_queue maker i c can.core place).regions (λ name. omega (arith, can.fits.once (of_units (right_to name)), queue_kept maker (right_to name) i c can.core place))

  pub few_in_both : (maker : MakerTold) (i : ℕ) (c : PoolCore P H) (f : Frame P H) → CanStep maker c f → IsQueuePlace c.plan i → length (after_append (queue_at i c) f.local).slots ≤ (sizes_of c.settings c.plan).slots
  few_in_both maker i c f can place =
      few_of maker c (after_append (queue_at i c) f.local).slots can.core (all_by_kind (IsQueuedOf maker c.settings) ((queue_at i c).slots ++ f.local.slots) (All-append (IsQueuedOf maker c.settings) (queue_at i c).slots f.local.slots (sound_queue maker i c can.core place).regions can.frame.queue.regions))
      (λ name. omega (arith, queued_joined (right_to name) (queue_at i c).slots f.local.slots, can.fits.once (of_units (right_to name)), queue_kept maker (right_to name) i c can.core place))
