-- Whether a list notes that one of its slots may be still to be zeroed by hand, as it changes.
use Rattle.std.proofs.Common.{◌≡◌, ℕ, zero, suc, ◌<◌, ◌≤◌, ◌||◌, ◌&&◌, Bool, true, false, List, [], ◌∷◌, ◌++◌, length, get_or, refl, sym, ap, ◌∙◌, subst, arith, set, Option, Some, None, Result, Ok, Err, OnOk, OnErr}
use Rattle.std.specs.Option.{option_to_list}
use Rattle.pool_slots.proofs.Imports.{AllByRecursion, list_any, or_parts, ByteRange, Slot, SlotKind}
use Rattle.pool_slots.specs.SlotQueues.{Queued, AreNoted, IsLeftItem, same_kind, others_of_kind, is_to_zero, is_unzeroed, first_zeroed, zeroed, zeroed_by}
use Rattle.pool_slots.proofs.Lists.{each_append}
use Rattle.pool_slots.proofs.SlotPops.{each_others}

abbrev Is : Queued → Type 0
Is m = is_unzeroed m ≡ false

pub noted_joined : (xs ys : List Queued) (a b c : Bool) → AreNoted a xs → AreNoted b ys → c ≡ (a || b) → AreNoted c (xs ++ ys)
noted_joined xs ys a b c one other is off = let parts = or_parts a b (sym is ∙ off) in each_append Is xs ys (one parts.0) (other parts.1)

pub noted_more : (ms : List Queued) (m : Queued) (a b c : Bool) → AreNoted a ms → b ≡ is_unzeroed m → c ≡ (a || b) → AreNoted c (ms ++ m ∷ [])
noted_more ms m a b c all here is = noted_joined ms (m ∷ []) a b c all (λ off. (sym here ∙ off, tt)) is

each_set : (ms : List Queued) (i : ℕ) (y : Queued) → AllByRecursion Is ms → Is y → AllByRecursion Is (set ms i y)
each_set [] i y all here = tt
each_set (m ∷ ms) zero y all here = (here, all.1)
each_set (m ∷ ms) (suc i) y all here = (all.0, each_set ms i y all.1 here)

each_at : (ms : List Queued) (i : ℕ) (d : Queued) → i < length ms → AllByRecursion Is ms → Is (get_or ms i d)
each_at [] i d inside all = absurd (omega (arith, inside))
each_at (m ∷ ms) zero d inside all = all.0
each_at (m ∷ ms) (suc i) d inside all = each_at ms i d (omega (arith, inside)) all.1

-- another stands in the place of one, and is to be zeroed only where that was
pub noted_kept : (ms : List Queued) (i : ℕ) (y d : Queued) (a : Bool) → AreNoted a ms → i < length ms → (Is (get_or ms i d) → Is y) → AreNoted a (set ms i y)
noted_kept ms i y d a all inside keeps off = each_set ms i y (all off) (keeps (each_at ms i d inside (all off)))

pub noted_set : (ms : List Queued) (i : ℕ) (y : Queued) (a b c : Bool) → AreNoted a ms → b ≡ is_unzeroed y → c ≡ (a || b) → AreNoted c (set ms i y)
noted_set ms i y a b c all here is off = let parts = or_parts a b (sym is ∙ off) in each_set ms i y (all parts.0) (sym here ∙ parts.1)

-- once it is zeroed, it isn't to be zeroed any more
zeroed_once : (by : Option ℕ) (m : Queued) → m.by_hand ≡ by → Is (zeroed_by by m)
zeroed_once None m is = ap (λ (o : Option ℕ). is_unzeroed (record m { by_hand = o })) is
zeroed_once (Some n) m is = ap (λ (o : Option ℕ). is_unzeroed (record m { by_hand = o; known = true })) is

pub zeroed_is : (m : Queued) → Is (zeroed m)
zeroed_is m = zeroed_once m.by_hand m refl

never : (b : Bool) → (b && false) ≡ false
never true = refl
never false = refl

pub none_zeroed : (kind : SlotKind) (ms : List Queued) → AllByRecursion Is ms → (list_any (is_to_zero kind) ms ≡ false) × (first_zeroed kind ms ≡ ms)
none_zeroed kind [] none = (refl, refl)
none_zeroed kind (m ∷ ms) none =
    let not : is_to_zero kind m ≡ false = ap (λ (b : Bool). same_kind kind m.name.kind && b) none.0 ∙ never (same_kind kind m.name.kind) in
    let rest = none_zeroed kind ms none.1 in
    (rw not rest.0, rw not (ap (λ (l : List Queued). m ∷ l) rest.1))

-- a list with one in the place of another is as long, and has it there
pub set_long : (ms : List Queued) (i : ℕ) (y : Queued) → length (set ms i y) ≡ length ms
set_long [] i y = refl
set_long (m ∷ ms) zero y = refl
set_long (m ∷ ms) (suc i) y = ap (λ (n : ℕ). suc n) (set_long ms i y)

pub set_there : (ms : List Queued) (i : ℕ) (y d : Queued) → i < length ms → get_or (set ms i y) i d ≡ y
set_there [] i y d inside = absurd (omega (arith, inside))
set_there (m ∷ ms) zero y d inside = refl
set_there (m ∷ ms) (suc i) y d inside = set_there ms i y d (omega (arith, inside))

-- a decommit changes nothing of whether a slot is to be zeroed
pub decommit_same : {T E : Type 0} (r : Result T E) (range : ByteRange) (m y : Queued) (s : Slot) → OnOk r (y ≡ record m { slot = s }) → OnErr r (IsLeftItem range m y) → is_unzeroed y ≡ is_unzeroed m
decommit_same (Ok x) range m y s done left = ap (λ (z : Queued). is_unzeroed z) done
decommit_same (Err e) range m y s done left = ap (λ (z : Queued). is_unzeroed z) left.same

-- the first one less
pub shorter : (o : Option Queued) (old new : List Queued) → old ≡ option_to_list o ++ new → length new ≤ length old
shorter None old new is = omega (arith, ap (λ (l : List Queued). length l) is)
shorter (Some m) old new is = omega (arith, ap (λ (l : List Queued). length l) is)

pub noted_rest : (o : Option Queued) (old new : List Queued) (a : Bool) → old ≡ option_to_list o ++ new → AreNoted a old → AreNoted a new
noted_rest None old new a is all off = subst (AllByRecursion Is) is (all off)
noted_rest (Some m) old new a is all off = let both : AllByRecursion Is (m ∷ new) = subst (AllByRecursion Is) is (all off) in both.1
