-- The slots of a grant are slots of the pool, which differ, and no live grant of the party has one.
use Rattle.std.proofs.Common.{◌≡◌, ◌≢◌, ℕ, zero, suc, ◌+◌, ◌<◌, ◌≤◌, List, [], ◌∷◌, length, map, get_or, Option, Some, None, refl, sym, ap, ◌∙◌, subst, inl, inr, arith, All, IfSome, sum_by, option_map, slice_index_or}
use Rattle.pool_run.proofs.Imports.{cases_eq, length-map, get_or-map, All-map, sum_by-cons, get_or-le-sum_by, RegionNumbers, SlotName, PlainHeap, right_to, both_count, slot_count, grant_count, Grant, slot_once, two_of_sum}
use Rattle.pool_run.specs.Private.{PrivateGrant, Grants, grant_at}
use Rattle.pool_run.specs.Rooms.{AllDiffer, AreFreeSlots}
use Rattle.pool_run.specs.Turns.{private_grant, grants_of}
use Rattle.pool_run.specs.Ties.{granted_to}
use Rattle.pool_run.proofs.Grants.{told_at}
use Rattle.pool_run.proofs.SlotsMade.{made_slot, made_once, made_inside}

-- leases of a kind, each in a slot that its number names
module _ {L : Type 0} (named : ℕ → SlotName) (index : L → ℕ) (numbers : L → RegionNumbers) where
  -- how often slot k is with some
  abbrev times : ℕ → List L → ℕ
  times k ls = sum_by (λ l. both_count (right_to (named k)) (named (index l)) (numbers l)) ls

  -- a lease has its slot
  lease_counted : (leases : List L) (i : ℕ) (d : L) → i < length leases → 1 ≤ times (index (get_or leases i d)) leases
  lease_counted leases i d below =
      let k : ℕ = index (get_or leases i d) in
      omega (arith, get_or-le-sum_by (λ l. both_count (right_to (named k)) (named (index l)) (numbers l)) leases i d below, slot_once (named k))

  -- no two leases have one slot
  slots_differ : (leases : List L) → ((k : ℕ) → times k leases ≤ 1) → AllDiffer (map index leases)
  slots_differ [] once i j below also same = absurd (omega arith)
  slots_differ (x ∷ xs) once i j below also same =
      let leases : List L = x ∷ xs in
      let long : length (map index leases) ≡ length leases = length-map leases index in
      let i_inside : i < length leases = omega (arith, long, below) in
      let j_inside : j < length leases = omega (arith, long, also) in
      let k : ℕ = index (get_or leases i x) in
      let first : get_or (map index leases) i 0 ≡ k = get_or-map index leases i x 0 i_inside in
      let second : get_or (map index leases) j 0 ≡ index (get_or leases j x) = get_or-map index leases j x 0 j_inside in
      let one : index (get_or leases j x) ≡ k = sym second ∙ sym same ∙ first in
      elim (cases_eq i j) [
        | inl is ↦ is
        | inr other ↦
            let both = two_of_sum (λ l. both_count (right_to (named k)) (named (index l)) (numbers l)) leases i j x i_inside j_inside other in
            let other_one : slot_count (right_to (named k)) (named (index (get_or leases j x))) ≡ slot_count (right_to (named k)) (named k) = ap (λ (n : ℕ). slot_count (right_to (named k)) (named n)) one in
            absurd (omega (arith, both, other_one, slot_once (named k), once k))
      ]

  -- leases that haven't the slot are seen in others
  others_free : {X : Type 0} (seen : L → X) (slot_in : X → ℕ) → ((l : L) → slot_in (seen l) ≡ index l) → (slot : ℕ) (others : List L) → times slot others ≡ 0 → All (λ m. slot_in m ≢ slot) (map seen others)
  others_free {X} seen slot_in its slot others none =
      All-map (λ (m : X). slot_in m ≢ slot) seen others
      (λ n d below same.
      let some : 1 ≤ times (index (get_or others n d)) others = lease_counted others n d below in
      let there : times (index (get_or others n d)) others ≡ times slot others = ap (λ (k : ℕ). times k others) (sym (its (get_or others n d)) ∙ same) in
      omega (arith, some, there, none))

  -- the leases of a kind that a grant has, and how its party sees them
  module _ {P X : Type 0} (items : Grant P PlainHeap → List L) (seen : L → X) (slot_in : X → ℕ) (objects : PrivateGrant → List X) (its : (l : L) → slot_in (seen l) ≡ index l) (sees : (g : Grant P PlainHeap) → objects (private_grant g) ≡ map seen (items g)) (counted : (k : ℕ) (g : Grant P PlainHeap) → grant_count (right_to (named k)) g ≡ times k (items g)) where
    -- what a live grant has is counted
    grant_counted : (of : Grant P PlainHeap → ℕ) (live : List (Option (Grant P PlainHeap))) (j : ℕ) (grant : Grant P PlainHeap) → slice_index_or live j None ≡ Some grant → of grant ≤ sum_by (granted_to of) live
    grant_counted of [] j grant is = absurd cc
    grant_counted of (x ∷ xs) zero grant is =
        let here : granted_to of x ≡ of grant = ap (granted_to of) is in
        omega (arith, sum_by-cons (granted_to of) x xs)
    grant_counted of (x ∷ xs) (suc j) grant is = omega (arith, sum_by-cons (granted_to of) x xs, grant_counted of xs j grant is)

    -- the leases and the live grants have no slot together, and no slot that isn't one of the pool
    abbrev AreApart : List L → List (Option (Grant P PlainHeap)) → ℕ → Type 0
    AreApart leases live total = (k : ℕ) → times k leases + sum_by (granted_to (grant_count (right_to (named k)))) live ≤ made_slot k total

    slots_inside : (leases : List L) (live : List (Option (Grant P PlainHeap))) (total : ℕ) → AreApart leases live total → All (λ slot. slot < total) (map index leases)
    slots_inside leases live total apart =
        All-map (λ slot. slot < total) index leases
        (λ i d below. made_inside (index (get_or leases i d)) total (omega (arith, lease_counted leases i d below, apart (index (get_or leases i d)))))

    -- no object that the party sees in a live grant is in the slot
    abbrev HasNoneIn : ℕ → Grants → Type 0
    HasNoneIn slot grants = (i : ℕ) → IfSome (grant_at grants i) (λ g. All (λ m. slot_in m ≢ slot) (objects g))

    grant_free : (slot : ℕ) (live : List (Option (Grant P PlainHeap))) (j : ℕ) (x : Option (Grant P PlainHeap)) → slice_index_or live j None ≡ x → sum_by (granted_to (grant_count (right_to (named slot)))) live ≡ 0 → IfSome (option_map private_grant x) (λ g. All (λ m. slot_in m ≢ slot) (objects g))
    grant_free slot live j None is none = tt
    grant_free slot live j (Some g) is none =
        let None_in : List X → Type 0 = λ ms. All (λ m. slot_in m ≢ slot) ms in
        subst None_in (sym (sees g)) (others_free seen slot_in its slot (items g) (omega (arith, counted slot g, grant_counted (grant_count (right_to (named slot))) live j g is, none)))

    slots_free : (leases : List L) (live : List (Option (Grant P PlainHeap))) (told : Grants) (total : ℕ) → grants_of live ≡ told → AreApart leases live total → All (λ slot. HasNoneIn slot told) (map index leases)
    slots_free leases live told total is apart =
        All-map (λ slot. HasNoneIn slot told) index leases
        (λ i d below j.
        let slot : ℕ = index (get_or leases i d) in
        let Free : Option PrivateGrant → Type 0 = λ o. IfSome o (λ g. All (λ m. slot_in m ≢ slot) (objects g)) in
        subst Free (sym (told_at live told j (slice_index_or live j None) is refl))
        (grant_free slot live j (slice_index_or live j None) refl (omega (arith, lease_counted leases i d below, apart slot, made_once slot total))))

    -- So it is of leases that are granted beside these.
    pub are_free : (leases : List L) (live : List (Option (Grant P PlainHeap))) (told : Grants) (total count : ℕ) → grants_of live ≡ told → AreApart leases live total → count + length leases ≤ total → AreFreeSlots total count (λ slot. HasNoneIn slot told) (map index leases)
    are_free leases live told total count seen apart few = record {
      inside = slots_inside leases live total apart;
      free = slots_free leases live told total seen apart;
      differ = slots_differ leases (λ k. omega (arith, apart k, made_once k total));
      few = omega (arith, length-map leases index, few);
    }
