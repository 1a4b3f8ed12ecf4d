-- The lists in a queue's loops, and what a fault leaves.
use Rattle.std.proofs.Common.{◌≡◌, ℕ, zero, suc, ◌+◌, ◌<◌, Bool, false, List, [], ◌∷◌, ◌++◌, length, get_or, take, drop, refl, sym, ap, ◌∙◌, subst, arith, map, slice_set}
use Rattle.pool_slots.proofs.Imports.{AllZip, zero-mod, or_parts, append_assoc, length-append, length-map, length-take-le, length-drop, map_more, get_or_default, map_over_more, ByteRange, SlotKind, Slot, IsSlot, IsLeft, forgotten_memory}
use Rattle.pool_hall.specs.declared.unit_name.SlotKind.TheVariants as of_slot
use Rattle.pool_slots.specs.declared.queued_range.QueueKind.{QueueKind}
use Rattle.pool_slots.specs.declared.queued_range.QueuedRange.{QueuedRange}
use Rattle.pool_slots.specs.declared.slot_name.SlotName.{SlotName}
use Rattle.pool_slots.specs.SlotQueues.{IsSlotLeft, Queued, QueuedList, Queue, same_kind, same_slot, holds, AreDistinct, CanBeZeroed, with_range, with_ranges, forgotten, forgotten_slot, IsLeftItem, IsLeftBy}
use Rattle.pool_slots.proofs.SlotLists.{apart_of_unheld}
use Rattle.pool_slots.proofs.SlotNames.{slot_if, slot_other_way}

-- a range of a slot
abbrev pub range_of : QueueKind → ℕ → ByteRange → QueuedRange
range_of kind slot r = record { kind = kind; slot = record { 0 = slot }; range = r }

-- one range more is pushed
pub ranges_more : (kind : QueueKind) (slot : ℕ) (rs : List ByteRange) (i : ℕ) (d : ByteRange) (q : Queue) → i < length rs → with_range (range_of kind slot (get_or rs i d)) (with_ranges kind slot (take i rs) q) ≡ with_ranges kind slot (take (i + 1) rs) q
ranges_more kind slot rs i d q inside =
    let more : map (range_of kind slot) (take (i + 1) rs) ≡ map (range_of kind slot) (take i rs) ++ range_of kind slot (get_or rs i d) ∷ [] = map_more (range_of kind slot) rs i d inside in
    ap (λ (l : List QueuedRange). record q { ranges = l }) (append_assoc q.ranges (map (range_of kind slot) (take i rs)) (range_of kind slot (get_or rs i d) ∷ []) ∙ ap (λ (l : List QueuedRange). q.ranges ++ l) (sym more))

-- one slot more is forgotten, where it stands
pub forgotten_more : (xs ys : List Queued) (room i : ℕ) (new : QueuedList) → i < length xs → ys ≡ map forgotten (take i xs) ++ drop i xs → ((d : Queued) → new ≡ record { items = slice_set ys i (forgotten (get_or ys i d)); room = room }) → (new.items ≡ map forgotten (take (i + 1) xs) ++ drop (i + 1) xs) × (new.room ≡ room)
forgotten_more [] ys room i new inside before now = absurd (omega arith)
forgotten_more (x ∷ xs) ys room i new inside before now =
    let all : List Queued = x ∷ xs in
    let m : Queued = get_or ys i x in
    let there : i < length ys = rw before (omega (arith, length-append (map forgotten (take i all)) (drop i all), length-map (take i all) forgotten, length-take-le i all (omega (arith, inside)), length-drop i all)) in (
      ap (λ (l : QueuedList). l.items) (now x) ∙ map_over_more forgotten all ys i m inside before (get_or_default ys i x m there),
      ap (λ (l : QueuedList). l.room) (now x),
    )

-- what is forgotten of a slot: nothing of its region, and it fits its region still
pub forgotten_region : (kind : SlotKind) (s : Slot) → (forgotten_slot kind s).region ≡ s.region
forgotten_region of_slot.Memory s = refl
forgotten_region of_slot.Table s = refl
forgotten_region of_slot.Stack s = refl
forgotten_region of_slot.Heap s = refl

forgotten_memory_fits : (s : Slot) → IsSlot s → IsSlot (forgotten_memory s)
forgotten_memory_fits s is = record {
  sizes = record {
    page_size = is.sizes.page_size;
    base_page = is.sizes.base_page;
    base_whole = is.sizes.base_whole;
    accessible_page = refl;
    accessible_whole = zero-mod s.region.page;
    inside = is.sizes.inside;
    bounded = is.sizes.bounded;
    roomy = is.sizes.roomy;
    within = omega arith;
    image = tt;
  };
  told = is.told;
}

forgotten_fits : (kind : SlotKind) (s : Slot) → IsSlot s → IsSlot (forgotten_slot kind s)
forgotten_fits of_slot.Memory s is = forgotten_memory_fits s is
forgotten_fits of_slot.Table s is = is
forgotten_fits of_slot.Stack s is = is
forgotten_fits of_slot.Heap s is = is

forgotten_zeroed : (kind : SlotKind) (n : ℕ) (s : Slot) → same_kind of_slot.Memory kind ≡ false → CanBeZeroed n s → CanBeZeroed n (forgotten_slot kind s)
forgotten_zeroed of_slot.Memory n s other z = absurd cc
forgotten_zeroed of_slot.Table n s other z = z
forgotten_zeroed of_slot.Stack n s other z = z
forgotten_zeroed of_slot.Heap n s other z = z

-- it is forgotten once
pub forgotten_again : (kind : SlotKind) (s : Slot) → forgotten_slot kind s ≡ forgotten_slot kind (forgotten_slot kind s)
forgotten_again of_slot.Memory s = refl
forgotten_again of_slot.Table s = refl
forgotten_again of_slot.Stack s = refl
forgotten_again of_slot.Heap s = refl

forgotten_left : (kind : SlotKind) (s t : Slot) → IsLeft s t → IsLeft (forgotten_slot kind s) (forgotten_slot kind t)
forgotten_left of_slot.Memory s t left = record { same = left.same; rose = left.rose; listed = left.listed }
forgotten_left of_slot.Table s t left = left
forgotten_left of_slot.Stack s t left = left
forgotten_left of_slot.Heap s t left = left

-- Of the slots one was left by a fault, and nothing is known of any. What can be zeroed by hand still can be.
pub record IsLeftStill (k : SlotName) (old new : Queued) : Type 0 where
  pub left : IsLeftBy k old new
  pub fits : IsSlot old.slot → IsSlot new.slot
  pub zeroed : (n : ℕ) → same_kind of_slot.Memory old.name.kind ≡ false → CanBeZeroed n old.slot → CanBeZeroed n new.slot

left_other : (k : SlotName) (m : Queued) → same_slot k m.name ≡ false → IsLeftStill k m (forgotten m)
left_other k m e =
    let s : Slot = forgotten_slot m.name.kind m.slot in
    let B : Bool → Type 0 = λ b. IsSlotLeft b s s in
    record {
      left = record { same = ap (λ (t : Slot). record m { slot = t; known = false }) (forgotten_again m.name.kind m.slot); slot = subst B (sym e) refl };
      fits = forgotten_fits m.name.kind m.slot;
      zeroed = λ n. forgotten_zeroed m.name.kind n m.slot;
    }

left_here : (k : SlotName) (r : ByteRange) (m n : Queued) → m.name ≡ k → IsLeftItem r m n → IsLeftStill k m (forgotten n)
left_here k r m n e left =
    let kind : SlotKind = m.name.kind in
    let B : Bool → Type 0 = λ b. IsSlotLeft b (forgotten_slot kind m.slot) (forgotten_slot kind n.slot) in
    let P : Queued → Type 0 = λ x. IsLeftStill k m x in
    let is : forgotten n ≡ record m { slot = forgotten_slot kind n.slot; known = false } = ap forgotten left.same in
    subst P (sym is) (record {
      left = record { same = ap (λ (t : Slot). record m { slot = t; known = false }) (forgotten_again kind n.slot); slot = subst B (sym (slot_if k m.name (sym e))) (forgotten_left kind m.slot n.slot left.slot.left) };
      fits = λ _. forgotten_fits kind n.slot left.slot.fits;
      zeroed = λ b other z. forgotten_zeroed kind b n.slot other (left.slot.zeroed b z);
    })

left_rest : (k : SlotName) (ms : List Queued) → holds k ms ≡ false → AllZip (IsLeftStill k) ms (map forgotten ms)
left_rest k [] free = tt
left_rest k (m ∷ ms) free =
    let parts = or_parts (same_slot k m.name) (holds k ms) free in
    (left_other k m parts.0, left_rest k ms parts.1)

pub left_at : (k : SlotName) (r : ByteRange) (ms : List Queued) (i : ℕ) (d n : Queued) → i < length ms → AreDistinct ms → (get_or ms i d).name ≡ k → IsLeftItem r (get_or ms i d) n → AllZip (IsLeftStill k) ms (map forgotten (slice_set ms i n))
left_at k r [] i d n inside distinct e left = absurd (omega arith)
left_at k r (m ∷ ms) zero d n inside distinct e left =
    let H : SlotName → Type 0 = λ x. holds x ms ≡ false in
    (left_here k r m n e left, left_rest k ms (subst H e distinct.0))
left_at k r (m ∷ ms) (suc i) d n inside distinct e left =
    let under : i < length ms = omega arith in
    let apart : same_slot m.name k ≡ false = ap (λ (x : SlotName). same_slot m.name x) (sym e) ∙ apart_of_unheld m.name ms i d under distinct.0 in
    (left_other k m (slot_other_way m.name k apart), left_at k r ms i d n under distinct.1 e left)
