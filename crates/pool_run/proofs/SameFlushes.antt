-- A decommit of the first ranges of a queue has one outcome, where the slots' regions tell which calls on them fail.
use Rattle.std.proofs.Common.{◌≡◌, ℕ, Bool, true, false, List, [], ◌∷◌, Option, Some, None, IsSome, refl, sym, ap, ◌∙◌, subst, All, ◌||◌, not, IfSome}
use Rattle.pool_run.proofs.Imports.{AllByRecursion, AllZip, All-head, All-tail, MakerTold, Count, count, Told, ImageName, Slot, SlotIdentity, IsLeft, ByteRange, decommits, run_of, FollowsAt, AreInOrder, Queued, Queue, CanBeZeroed, LeavesClean, same_slot, holds, HasOwners, first_slot, forgotten_slot, IsSlotLeft, IsLeftBy, IsFaulted, QueuedRange, SlotName, slot_is, Decommits, FollowsRun, SlotKind, stack_kind, MayQueue, MayBeRanged, MustBeByHand, IsQueuedOf, IsLocal, Settings}
use Rattle.pool_hall.specs.declared.unit_name.SlotKind.TheVariants as kind
use Rattle.pool_run.proofs.SameMoves.{slot_planned, table_planned, stack_planned}
use Rattle.pool_run.proofs.SameSlots.{follow_same, not_same, forgotten_same}

-- A slot that can still be zeroed by hand is all but its region as it was.
zeroed_same : (n : ℕ) (slot new other : Slot) → IsLeft slot new → IsLeft slot other → new.region ≡ other.region → CanBeZeroed n new → CanBeZeroed n other → new ≡ other
zeroed_same n slot new other one two region can also =
    let F : Told → Count → Count → ℕ → Option ImageName → Bool → Option ℕ → Slot = λ r b a size image dirty c. record { region = r; base = b; accessible = a; static_size = size; image = image; dirty = dirty; colour = c } in
    let base : new.base ≡ other.base = ap (λ (z : SlotIdentity). z.base) (one.same ∙ sym two.same) in
    let size : new.static_size ≡ other.static_size = ap (λ (z : SlotIdentity). z.static_size) (one.same ∙ sym two.same) in
    let colour : new.colour ≡ other.colour = ap (λ (z : SlotIdentity). z.colour) (one.same ∙ sym two.same) in
    let page : new.accessible.page ≡ other.accessible.page = can.fits.sizes.accessible_page ∙ ap (λ (r : Told). r.page) region ∙ sym also.fits.sizes.accessible_page in
    let bytes : new.accessible.bytes ≡ other.accessible.bytes = can.all ∙ size ∙ sym also.all in
    ap (λ (r : Told). F r new.base new.accessible new.static_size new.image new.dirty new.colour) region
    ∙ ap (λ (b : Count). F other.region b new.accessible new.static_size new.image new.dirty new.colour) base
    ∙ ap (λ (p : ℕ). F other.region other.base (count p new.accessible.bytes) new.static_size new.image new.dirty new.colour) page
    ∙ ap (λ (b : ℕ). F other.region other.base (count other.accessible.page b) new.static_size new.image new.dirty new.colour) bytes
    ∙ ap (λ (k : ℕ). F other.region other.base other.accessible k new.image new.dirty new.colour) size
    ∙ ap (λ (i : Option ImageName). F other.region other.base other.accessible other.static_size i new.dirty new.colour) (can.image ∙ sym also.image)
    ∙ ap (λ (d : Bool). F other.region other.base other.accessible other.static_size other.image d new.colour) (can.not_dirty ∙ sym also.not_dirty)
    ∙ ap (F other.region other.base other.accessible other.static_size other.image other.dirty) colour

none_by : (by_hand : Option ℕ) → IsSome by_hand → by_hand ≡ None → ⊥
none_by None some is = absurd cc
none_by (Some n) some is = absurd cc

-- the slots of a pool, on which a run of ranges of the one with this name is decommitted
module _ (maker : MakerTold) (s : Settings) (planned : IsSome maker.plan) (name : SlotName) (ranges : List ByteRange) where
  abbrev Is : Queued → Type 0
  Is m = IsQueuedOf maker s m

  -- by the kind of a slot: the calls on its region are planned,
  planned_by : (kind : SlotKind) (i : ℕ) (slot : Slot) → MayQueue maker s kind i slot → IsSome slot.region.plan
  planned_by kind.Memory i slot is = slot_planned maker s i slot planned is
  planned_by kind.Table i slot is = table_planned maker s i slot planned is
  planned_by kind.Stack i slot is = stack_planned maker s i slot planned is.slot_is
  planned_by kind.Heap i slot is = absurd is

  -- and what is left of it after a fault is known so far as it is read: of a memory, or of a table or a stack, which can still be
  -- zeroed. A stack is only decommitted where stacks are given back zeroed.
  left_here : (kind : SlotKind) (i : ℕ) (slot new other : Slot) (by_hand : Option ℕ) → (kind ≡ stack_kind → s.stack_zeroing ≡ true) → MayQueue maker s kind i slot → MustBeByHand s kind by_hand → IfSome by_hand (λ n. CanBeZeroed n new) → IfSome by_hand (λ n. CanBeZeroed n other) → IsSlotLeft true (forgotten_slot kind slot) new → IsSlotLeft true (forgotten_slot kind slot) other → new.region ≡ other.region → forgotten_slot kind new ≡ forgotten_slot kind other
  left_here kind.Memory i slot new other by_hand ranged is must can also one two region = forgotten_same (forgotten_slot kind.Memory slot) new other one two region
  left_here kind.Table i slot new other None ranged is must can also one two region = absurd cc
  left_here kind.Table i slot new other (Some n) ranged is must can also one two region = zeroed_same n slot new other one two region can also
  left_here kind.Stack i slot new other None ranged is must can also one two region = absurd (none_by None (must.zeroed (ranged refl)) refl)
  left_here kind.Stack i slot new other (Some n) ranged is must can also one two region = zeroed_same n slot new other one two region can also
  left_here kind.Heap i slot new other by_hand ranged is must can also one two region = absurd is

  -- calls on it fail both times, or neither
  fault_here : (a b : Bool) (m new other : Queued) → Is m → same_slot name m.name ≡ true → FollowsAt name ranges (not a) m new → FollowsAt name ranges (not b) m other → (not a ≡ not b) × (new.slot.region ≡ other.slot.region)
  fault_here a b m new other is here one two =
      let named : m.name ≡ name = sym (slot_is name m.name here) in
      follow_same (decommits m.slot.base.bytes ranges) (not a) (not b) m.slot.region new.slot.region other.slot.region (planned_by m.name.kind m.name.slot m.slot is.slot) (one named) (two named)

  fault_by : (v : Bool) (a b : Bool) (m new other : Queued) (ms : List Queued) → same_slot name m.name ≡ v → (v || holds name ms) ≡ true → Is m → FollowsAt name ranges (not a) m new → FollowsAt name ranges (not b) m other → (holds name ms ≡ true → a ≡ b) → a ≡ b
  fault_by true a b m new other ms here there is one two rest = not_same a b (fault_here a b m new other is here one two).0
  fault_by false a b m new other ms here there is one two rest = rest there

  fault_same : (a b : Bool) (old new other : List Queued) → All Is old → holds name old ≡ true → AreInOrder name ranges (not a) old new → AreInOrder name ranges (not b) old other → a ≡ b
  fault_same a b [] new other are there one two = absurd cc
  fault_same a b (m ∷ ms) [] other are there one two = absurd one
  fault_same a b (m ∷ ms) (n ∷ ns) [] are there one two = absurd two
  fault_same a b (m ∷ ms) (n ∷ ns) (o ∷ os) are there one two =
      fault_by (same_slot name m.name) a b m n o ms refl there (All-head Is m ms are) one.0 two.0 (λ rest. fault_same a b ms ns os (All-tail Is m ms are) rest one.1 two.1)

  -- what is left of each slot then
  left_by : (v : Bool) (m : Queued) (new other : Slot) → (name.kind ≡ stack_kind → s.stack_zeroing ≡ true) → same_slot name m.name ≡ v → Is m → IfSome m.by_hand (λ n. CanBeZeroed n new) → IfSome m.by_hand (λ n. CanBeZeroed n other) → IsSlotLeft v (forgotten_slot m.name.kind m.slot) new → IsSlotLeft v (forgotten_slot m.name.kind m.slot) other → (v ≡ true → new.region ≡ other.region) → forgotten_slot m.name.kind new ≡ forgotten_slot m.name.kind other
  left_by true m new other ranged here is can also one two region = left_here m.name.kind m.name.slot m.slot new other m.by_hand (λ stack. ranged (ap (λ (x : SlotName). x.kind) (slot_is name m.name here) ∙ stack)) is.slot is.by_hand can also one two (region refl)
  left_by false m new other ranged here is can also one two region = ap (forgotten_slot m.name.kind) (one ∙ sym two)

  -- one that is zeroed by hand still can be
  zeroed_still : (rs : List QueuedRange) (m n : Queued) → IsLeftBy name m n → LeavesClean rs n → IfSome m.by_hand (λ k. CanBeZeroed k n.slot)
  zeroed_still rs m n left clean =
      let Can : Option ℕ → Type 0 = λ o. IfSome o (λ k. CanBeZeroed k n.slot) in
      let by_hand : n.by_hand ≡ m.by_hand = ap (λ (x : Queued). x.by_hand) left.same in
      subst Can by_hand clean.zeroed

  left_same : (ranged : name.kind ≡ stack_kind → s.stack_zeroing ≡ true) (rs ss : List QueuedRange) (old new other : List Queued) → All Is old → AreInOrder name ranges false old new → AreInOrder name ranges false old other → AllZip (IsLeftBy name) old new → AllZip (IsLeftBy name) old other → AllByRecursion (LeavesClean rs) new → AllByRecursion (LeavesClean ss) other → new ≡ other
  left_same ranged rs ss [] [] [] are one two left right can also = refl
  left_same ranged rs ss [] [] (o ∷ os) are one two left right can also = absurd two
  left_same ranged rs ss [] (n ∷ ns) other are one two left right can also = absurd one
  left_same ranged rs ss (m ∷ ms) [] other are one two left right can also = absurd one
  left_same ranged rs ss (m ∷ ms) (n ∷ ns) [] are one two left right can also = absurd two
  left_same ranged rs ss (m ∷ ms) (n ∷ ns) (o ∷ os) are one two left right can also =
      let is : Is m = All-head Is m ms are in
      let region : same_slot name m.name ≡ true → n.slot.region ≡ o.slot.region = λ here. (fault_here true true m n o is here one.0 two.0).1 in
      let slot : forgotten_slot m.name.kind n.slot ≡ forgotten_slot m.name.kind o.slot = left_by (same_slot name m.name) m n.slot o.slot ranged refl is (zeroed_still rs m n left.0 can.0) (zeroed_still ss m o right.0 also.0) left.0.slot right.0.slot region in
      let here : n ≡ o = left.0.same ∙ ap (λ (x : Slot). record m { slot = x; known = false }) slot ∙ sym right.0.same in
      ap (λ (x : Queued). x ∷ ns) here ∙ ap (λ (xs : List Queued). o ∷ xs) (left_same ranged rs ss ms ns os (All-tail Is m ms are) one.1 two.1 left.1 right.1 can.1 also.1)

-- the first range is of a slot that the queue holds
first_held : (ranges : List QueuedRange) (slots : List Queued) → (ranges ≡ [] → ⊥) → HasOwners (record { ranges = ranges; slots = slots; range_room = 0; slot_room = 0; takes = 0; appended = 0 }) → holds (first_slot ranges) slots ≡ true
first_held [] slots some owners = absurd (some refl)
first_held (r ∷ rs) slots some owners = owners.0

-- and where that is a stack, stacks are given back zeroed
first_ranged : (s : Settings) (ranges : List QueuedRange) → All (MayBeRanged s) ranges → (first_slot ranges).kind ≡ stack_kind → s.stack_zeroing ≡ true
first_ranged s [] ranged is = absurd cc
first_ranged s (r ∷ rs) ranged is = All-head (MayBeRanged s) r rs ranged is

faulted_same : (maker : MakerTold) (s : Settings) (local new other : Queue) → IsSome maker.plan → IsLocal maker s local → FollowsRun true local new → FollowsRun true local other → IsFaulted local new → IsFaulted local other → new ≡ other
faulted_same maker s local new other planned is one two left right =
    let Q : List QueuedRange → List Queued → ℕ → ℕ → ℕ → ℕ → Queue = λ rs ms a b c d. record { ranges = rs; slots = ms; range_room = a; slot_room = b; takes = c; appended = d } in
    let slots : new.slots ≡ other.slots = left_same maker s planned (first_slot local.ranges) (run_of (first_slot local.ranges) local.ranges) (first_ranged s local.ranges is.ranged) new.ranges other.ranges local.slots new.slots other.slots is.regions one two left.slots right.slots left.sound.each right.sound.each in
    ap (λ (rs : List QueuedRange). Q rs new.slots new.range_room new.slot_room new.takes new.appended) (left.ranges ∙ sym right.ranges)
    ∙ ap (λ (ms : List Queued). Q other.ranges ms new.range_room new.slot_room new.takes new.appended) slots
    ∙ ap (λ (n : ℕ). Q other.ranges other.slots n new.slot_room new.takes new.appended) (left.range_room ∙ sym right.range_room)
    ∙ ap (λ (n : ℕ). Q other.ranges other.slots other.range_room n new.takes new.appended) (left.slot_room ∙ sym right.slot_room)
    ∙ ap (λ (n : ℕ). Q other.ranges other.slots other.range_room other.slot_room n new.appended) (left.takes ∙ sym right.takes)
    ∙ ap (Q other.ranges other.slots other.range_room other.slot_room other.takes) (left.appended ∙ sym right.appended)

decommitted : (maker : MakerTold) (s : Settings) (a b : Bool) (local new other : Queue) → IsSome maker.plan → IsLocal maker s local → a ≡ b → Decommits a local new → Decommits b local other → FollowsRun a local new → FollowsRun b local other → new ≡ other
decommitted maker s true true local new other planned is same left right one two = faulted_same maker s local new other planned is one two left right
decommitted maker s false false local new other planned is same left right one two = left ∙ sym right
decommitted maker s true false local new other planned is same left right one two = absurd cc
decommitted maker s false true local new other planned is same left right one two = absurd cc

-- The next ranges of one slot are decommitted.
pub decommit_same : (maker : MakerTold) (s : Settings) (a b : Bool) (local new other : Queue) → IsSome maker.plan → IsLocal maker s local → (local.ranges ≡ [] → ⊥) → Decommits a local new → Decommits b local other → FollowsRun a local new → FollowsRun b local other → new ≡ other
decommit_same maker s a b local new other planned is some left right one two =
    let same : a ≡ b = fault_same maker s planned (first_slot local.ranges) (run_of (first_slot local.ranges) local.ranges) a b local.slots new.slots other.slots is.regions (first_held local.ranges local.slots some is.owners) one two in
    decommitted maker s a b local new other planned is same left right one two
