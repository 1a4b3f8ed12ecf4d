-- A step of a call has one outcome, where the maker tells what its regions hold and which of their calls fail, and there is
-- memory for what is asked.
use Rattle.std.proofs.Common.{◌≡◌, ℕ, ◌<◌, Bool, true, false, List, [], ◌∷◌, length, Option, Some, None, IsSome, Result, inl, inr, refl, sym, ap, ◌∙◌, subst, arith, is_some, ◌||◌, if◌then◌else◌, IfSome, not, slice_get}
use Rattle.pool_run.proofs.Imports.{kept_of, list_any, is_there, rounded_up, MakerTold, minimum_byte_size, DecommitBehavior, Zero, RestoreOriginalMapping, Image, wiping, resizing, replacing, resetting, removing, told_by_hand, given_marks, pages_by_hand, like_restored, Slot, SlotIdentity, hides, reused, replaced, forgotten, GrowthRule, HeapsTold, HeapMakeFault, ListedHeaps, PartyTold, MakesHeap, LimiterError, minimum_asked, maximum_asked, slot_of, Queue, is_to_zero, QueuedRange, MakesOf, Empties, Resets, InstantiatesAs, InstantiatesFor, FollowsPlan, FollowsPlanFor, FollowsReset, AsksForMemory, FlushTold, FlushPlanned, MayBeTold, IsPlanned, AsksOf, RemovesImage, DecommitsWhole, Forgets, FollowsForget, Drains, FollowsDrain, Lease, slot_taken, FlushStep, run, zero_by_hand, put, free, flush_step, kind_settled, settled_step, some_queued, paged, make_memory_row, make_table_row, make_heap_row, was_reset, flush_row, row_of, IsFrame, IsShapedAt, HasSlot, MayHold, IsDraining, CanStep, StepGiven, memories_wanted, tables_wanted, image_wanted, AsksForTable, type_maximum, SlotKind, memory_kind, FreedSlot, After, Row, goes, failing, stepped, Frame, Phase, Idle, Validate, TestHeap, MakeHeap, Empty, Instantiate, MakeMemory, MakeTable, PutBack, Reset, Flush, Purge, Release, TakenSlot, SlotName, cell_of, Cell, unknown, previously_used, All-get_or, ReleaseCursor, ImageSlot, PlainHeap, known_after, after_forgetting, after_decommit, Settings, decommitting, PoolCore}
use Rattle.pool_images.specs.Orders.{Follows}
use Rattle.pool_slots.specs.declared.errors.AllocError.TheVariants as refusal
use Rattle.pool_alloc.specs.declared.frame.Object.TheVariants as object
use Rattle.pool_slots.specs.declared.cells.ImageSlot.TheVariants as image_slot
use Rattle.pool_alloc.specs.declared.purge.PurgeStep.TheVariants as purging
use Rattle.pool_alloc.specs.declared.release.ReleaseStep.TheVariants as releasing
use Rattle.pool_run.specs.Turns.{StepsUnder, heaps_told}
use Rattle.pool_run.proofs.SameHeaps.{given_same}
use Rattle.pool_run.proofs.Growths.{answer_told}
use Rattle.pool_run.proofs.SameFlushes.{decommit_same}
use Rattle.pool_run.proofs.SameMoves.{slot_planned, slot_tells, faulted_is}
use Rattle.pool_run.proofs.SameSlots.{follow_same, not_same, forgotten_same, one_way}
use Rattle.pool_run.proofs.TableChanges.{table_answer_told}

-- what holds of the element at a place that is there
pub at_place : {X A : Type 0} (o : Option X) → IsSome o → ((x : X) → o ≡ Some x → A) → A
at_place None some each = absurd cc
at_place (Some x) some each = each x refl

held_of : {X : Type 0} (A : X → Type 0) (o : Option X) (x : X) → o ≡ Some x → IfSome o A → A x
held_of A o x is h = subst (λ y. IfSome y A) is h

-- What a page call leaves of a slot: it failed both times, or neither, and what is left is the same so far as it is read.
pub record IsSameSlot (a b : Bool) (new other : Slot) : Type 0 where
  pub fault : a ≡ b
  pub left : a ≡ true → forgotten new ≡ forgotten other
  pub is : a ≡ false → new ≡ other

emptied_by : (a b : Bool) (old new other : Slot) → a ≡ b → new.region ≡ other.region → Empties a old new → Empties b old other → IsSameSlot a b new other
emptied_by true true old new other same region one two = record { fault = refl; left = λ e. forgotten_same old new other one two region; is = λ e. absurd cc }
emptied_by false false old new other same region one two = record { fault = refl; left = λ e. absurd cc; is = λ e. one.0 ∙ sym two.0 }
emptied_by true false old new other same region one two = absurd cc
emptied_by false true old new other same region one two = absurd cc

emptied_same : (a b : Bool) (old new other : Slot) → IsSome old.region.plan → Empties a old new → Empties b old other → Follows (wiping old) (not a) old.region new.region → Follows (wiping old) (not b) old.region other.region → IsSameSlot a b new other
emptied_same a b old new other planned one two way also =
    let both = follow_same (wiping old) (not a) (not b) old.region new.region other.region planned way also in
    emptied_by a b old new other (not_same a b both.0) both.1 one two

-- one that is instantiated
module _ (initial : ℕ) (hide : Bool) (image : Option Image) (old : Slot) (tells : is_some old.region.contents ≡ true) (planned : IsSome old.region.plan) where
  instantiated_by : (a b : Bool) (new other : Slot) → a ≡ b → new.region ≡ other.region → InstantiatesAs a initial hide image old new → InstantiatesAs b initial hide image old other → IsSameSlot a b new other
  instantiated_by true true new other same region one two = record { fault = refl; left = λ e. forgotten_same old new other one two region; is = λ e. absurd cc }
  instantiated_by false false new other same region one two =
      let size : ℕ = rounded_up old.region.page initial in
      record {
        fault = refl;
        left = λ e. absurd cc;
        is = λ e.
            elim (one_way image old (new ≡ reused size hide old) (new ≡ replaced size hide image old) (other ≡ reused size hide old) (other ≡ replaced size hide image old) tells one.slot two.slot) [
              | inl has ↦ has.0 ∙ sym has.1
              | inr hasnt ↦ hasnt.0 ∙ sym hasnt.1
            ];
      }
  instantiated_by true false new other same region one two = absurd cc
  instantiated_by false true new other same region one two = absurd cc

  planned_same : (a b : Bool) (new other : Slot) → FollowsPlan initial hide image a old new → FollowsPlan initial hide image b old other → (not a ≡ not b) × (new.region ≡ other.region)
  planned_same a b new other way also =
      let size : ℕ = rounded_up old.region.page initial in
      elim (one_way image old (Follows (resizing size hide old) (not a) old.region new.region) (Follows (replacing size hide image old) (not a) old.region new.region) (Follows (resizing size hide old) (not b) old.region other.region) (Follows (replacing size hide image old) (not b) old.region other.region) tells way also) [
        | inl has ↦ follow_same (resizing size hide old) (not a) (not b) old.region new.region other.region planned has.0 has.1
        | inr hasnt ↦ follow_same (replacing size hide image old) (not a) (not b) old.region new.region other.region planned hasnt.0 hasnt.1
      ]

  instantiated_same : (a b : Bool) (new other : Slot) → InstantiatesAs a initial hide image old new → InstantiatesAs b initial hide image old other → FollowsPlan initial hide image a old new → FollowsPlan initial hide image b old other → IsSameSlot a b new other
  instantiated_same a b new other one two way also =
      let both = planned_same a b new other way also in
      instantiated_by a b new other (not_same a b both.0) both.1 one two

-- and one that is reset
set_planned : (marks : Option (List Bool)) (behaviour : DecommitBehavior) (keep : ℕ) (s : Slot) → IsSome s.region.plan → IsSome (told_by_hand marks behaviour keep s).plan
set_planned None RestoreOriginalMapping keep s planned = planned
set_planned (Some marks) RestoreOriginalMapping keep s planned =
    subst (λ (x : SlotIdentity). IsSome x.plan) (sym (like_restored s.base.bytes (pages_by_hand s.region.page keep marks) false s).same) planned
set_planned None Zero keep s planned = planned
set_planned (Some marks) Zero keep s planned = planned

reset_alike : (a b offered : Bool) (keep : ℕ) (at : TakenSlot) (old new other : Slot) → a ≡ b → new.region ≡ other.region → Resets a offered keep at old new → Resets b offered keep at old other → IsSameSlot a b new other
reset_alike true true offered keep at old new other same region one two = record { fault = refl; left = λ e. forgotten_same old new other one.1 two.1 region; is = λ e. absurd cc }
reset_alike false false offered keep at old new other same region one two = record { fault = refl; left = λ e. absurd cc; is = λ e. one.0 ∙ sym two.0 }
reset_alike true false offered keep at old new other same region one two = absurd cc
reset_alike false true offered keep at old new other same region one two = absurd cc

reset_same : (a b offered : Bool) (keep : ℕ) (at : TakenSlot) (old new other : Slot) → IsSome old.region.plan → Resets a offered keep at old new → Resets b offered keep at old other → FollowsReset offered keep a old new → FollowsReset offered keep b old other → IsSameSlot a b new other
reset_same a b offered keep at old new other planned one two way also =
    let by : DecommitBehavior = old.region.behaviour in
    let both = follow_same (resetting by old) (not a) (not b) (told_by_hand (given_marks offered old) by keep old) new.region other.region (set_planned (given_marks offered old) by keep old planned) way also in
    reset_alike a b offered keep at old new other (not_same a b both.0) both.1 one two

-- a queue has ranges where they are decommitted
abbrev is_run : FlushStep → Bool
is_run run = true
is_run _ = false

no_run : (a b : Bool) (kind : SlotKind) → is_run (if a then zero_by_hand kind else (if b then put kind else free)) ≡ false
no_run true b kind = refl
no_run false true kind = refl
no_run false false kind = refl

runs_some : (local : Queue) (freed : List FreedSlot) (step : FlushStep) → flush_step local freed ≡ step → step ≡ run → local.ranges ≡ [] → ⊥
runs_some local freed step is runs none =
    let Step : List QueuedRange → FlushStep = λ rs. flush_step (record local { ranges = rs }) freed in
    let kind : SlotKind = kind_settled local.slots freed in
    let settled : is_run (settled_step kind local.slots) ≡ false = no_run (list_any (is_to_zero kind) local.slots) (some_queued kind local.slots) kind in
    let wrong : false ≡ true = sym settled ∙ ap is_run (ap Step (sym none) ∙ is ∙ runs) in
    absurd cc

module _ {P : Type 0} (c : PoolCore P PlainHeap) (f : Frame P PlainHeap) where
  -- The rows under what comes of these.
  paged_same : (a b : Bool) (at : TakenSlot) (goes_on : Slot → Phase P PlainHeap) (new other : Slot) → IsSameSlot a b new other → paged a at new (goes_on new) c f ≡ paged b at other (goes_on other) c f
  paged_same true true at goes_on new other same = ap (λ (s : Slot). record { part = c; frame = failing refusal.PageFault f; turn = goes (PutBack at (image_slot.Unknown s)) }) (same.left refl)
  paged_same false false at goes_on new other same = ap (λ (s : Slot). record { part = c; frame = f; turn = goes (goes_on s) }) (same.is refl)
  paged_same true false at goes_on new other same = let wrong : true ≡ false = same.fault in absurd cc
  paged_same false true at goes_on new other same = let wrong : false ≡ true = same.fault in absurd cc

  was_reset_same : (a b : Bool) (lease : Lease) (new other : Slot) → IsSameSlot a b new other → was_reset a new lease c f ≡ was_reset b other lease c f
  was_reset_same true true lease new other same = ap (λ (s : Slot). record { part = c; frame = f; turn = goes (PutBack (slot_taken lease) (image_slot.Unknown s)) }) (same.left refl)
  was_reset_same false false lease new other same = refl
  was_reset_same true false lease new other same = let wrong : true ≡ false = same.fault in absurd cc
  was_reset_same false true lease new other same = let wrong : false ≡ true = same.fault in absurd cc

-- a request's test, and the first step of a release: there alone memory may be wanting
abbrev pub is_test : {P : Type 0} → Phase P PlainHeap → Bool
is_test Validate = true
is_test TestHeap = true
is_test (Release releasing.Reserve) = true
is_test _ = false

-- one whose image is removed
removed_by : (a b : Bool) (old new other : Slot) → a ≡ b → new.region ≡ other.region → RemovesImage a old new → RemovesImage b old other → IsSameSlot a b new other
removed_by true true old new other same region one two = record { fault = refl; left = λ e. forgotten_same old new other one two region; is = λ e. absurd cc }
removed_by false false old new other same region one two = record { fault = refl; left = λ e. absurd cc; is = λ e. one.0 ∙ sym two.0 }
removed_by true false old new other same region one two = absurd cc
removed_by false true old new other same region one two = absurd cc

removed_same : (a b : Bool) (old new other : Slot) → IsSome old.region.plan → RemovesImage a old new → RemovesImage b old other → Follows (removing old) (not a) old.region new.region → Follows (removing old) (not b) old.region other.region → IsSameSlot a b new other
removed_same a b old new other planned one two way also =
    let both = follow_same (removing old) (not a) (not b) old.region new.region other.region planned way also in
    removed_by a b old new other (not_same a b both.0) both.1 one two

-- What a decommit of a whole region leaves is known also where it failed.
drained_by : (a b : Bool) (s : Settings) (old new other : Slot) → IsSome old.region.plan → a ≡ b → DecommitsWhole s a old new → DecommitsWhole s b old other → new ≡ other
drained_by true true s old new other planned same one two = faulted_is (decommitting old.base.bytes s.max_memory_size) old new planned one ∙ sym (faulted_is (decommitting old.base.bytes s.max_memory_size) old other planned two)
drained_by false false s old new other planned same one two = one ∙ sym two
drained_by true false s old new other planned same one two = absurd cc
drained_by false true s old new other planned same one two = absurd cc

drained_same : (a b : Bool) (s : Settings) (old new other : Slot) → IsSome old.region.plan → DecommitsWhole s a old new → DecommitsWhole s b old other → Follows (decommitting old.base.bytes s.max_memory_size ∷ []) (not a) old.region new.region → Follows (decommitting old.base.bytes s.max_memory_size ∷ []) (not b) old.region other.region → (a ≡ b) × (new ≡ other)
drained_same a b s old new other planned one two way also =
    let both = follow_same (decommitting old.base.bytes s.max_memory_size ∷ []) (not a) (not b) old.region new.region other.region planned way also in
    (not_same a b both.0, drained_by a b s old new other planned (not_same a b both.0) one two)

module _ {P : Type 0} where
  -- what is known of a slot after both
  known_same : (a b : Bool) (new other : Slot) → IsSameSlot a b new other → ◌≡◌ {A = ImageSlot P} (known_after a new) (known_after b other)
  known_same true true new other same = ap (λ (s : Slot). image_slot.Unknown s) (same.left refl)
  known_same false false new other same = ap (λ (s : Slot). image_slot.PreviouslyUsed s) (same.is refl)
  known_same true false new other same = let wrong : true ≡ false = same.fault in absurd cc
  known_same false true new other same = let wrong : false ≡ true = same.fault in absurd cc

-- a step of a call over a pool whose maker tells what its regions hold, and which of their calls fail
module _ {P : Type 0} (maker : MakerTold) (tells : maker.tells ≡ true) (planned : IsSome maker.plan) (by : GrowthRule) (was : ListedHeaps) (c : PoolCore P PlainHeap) (f : Frame P PlainHeap) (frame : IsFrame maker c.settings c.plan f) where
  -- the frame as the row has it
  abbrev bare : Frame P PlainHeap
  bare = record f { phase = Idle }

  -- what is given in this phase
  pub record IsGivenAt (g : StepGiven PlainHeap) (phase : Phase P PlainHeap) : Type 0 where
    pub old : PartyTold
    pub new : PartyTold
    pub rule : old.limiter.rule ≡ Some by
    pub told_of : old.heaps ≡ heaps_told was
    pub told : MayBeTold c.settings g phase f
    pub plan : IsPlanned c.settings g phase f
    pub limiter : AsksOf old.limiter new.limiter g phase f
    pub heaps : MakesOf old.heaps new.heaps g phase

  with_plan : (name : SlotName) (held : Slot) → HasSlot maker c.settings c.plan name held → IsSome held.region.plan
  with_plan name held has = slot_planned maker c.settings name.slot held planned has.region

  allocated : length f.objects.memories.items < length (memories_wanted f.asked) → IsSome (slice_get (memories_wanted f.asked) (length f.objects.memories.items))
  allocated more = is_there (memories_wanted f.asked) (length f.objects.memories.items) more

  flushed_same : (step : FlushStep) (g h : StepGiven PlainHeap) → flush_step f.local f.freed.items ≡ step → FlushTold step g f.local → FlushTold step h f.local → FlushPlanned step g f.local → FlushPlanned step h f.local → flush_row step g.queue c bare ≡ flush_row step h.queue c bare
  flushed_same run g h is left right one two =
      ap (λ (q : Queue). flush_row {P = P} run q c bare) (decommit_same maker c.settings g.fault h.fault f.local g.queue h.queue planned frame.queue (runs_some f.local f.freed.items run is refl) left right one two)
  flushed_same (put kind) g h is left right one two = refl
  flushed_same (zero_by_hand kind) g h is left right one two = refl
  flushed_same free g h is left right one two = refl

  drained_kind : (r : ReleaseCursor) (k : ℕ) (name : SlotName) (held : Cell) → IsDraining maker c.settings c.plan r k name held → name.kind ≡ memory_kind
  drained_kind r k name held is =
      let K : SlotName → Type 0 = λ n. n.kind ≡ memory_kind in
      subst K is.named (All-get_or (λ (x : FreedSlot). x.name.kind ≡ memory_kind) r.taken.items k _ is.place is.releasing.memories)

  -- the slot of a region that a purge or a release has taken
  plan_known : (name : SlotName) (slot : Slot) → name.kind ≡ memory_kind → MayHold maker c.settings name.kind name.slot (unknown slot) → IsSome slot.region.plan
  plan_known name slot kind holds =
      let M : SlotKind → Type 0 = λ k. MayHold maker c.settings k name.slot (unknown slot) in
      slot_planned maker c.settings name.slot slot planned (subst M kind holds)

  plan_used : (name : SlotName) (slot : Slot) → name.kind ≡ memory_kind → MayHold maker c.settings name.kind name.slot (previously_used slot) → IsSome slot.region.plan
  plan_used name slot kind holds =
      let M : SlotKind → Type 0 = λ k. MayHold maker c.settings k name.slot (previously_used slot) in
      let of : M memory_kind = subst M kind holds in
      slot_planned maker c.settings name.slot slot planned of.0

  forgets_same : (g h : StepGiven PlainHeap) (name : SlotName) (held : ImageSlot P) → name.kind ≡ memory_kind → MayHold maker c.settings name.kind name.slot (cell_of held) → Forgets g.fault held g.slot → Forgets h.fault held h.slot → FollowsForget g.fault held g.slot → FollowsForget h.fault held h.slot → after_forgetting g.fault held g.slot ≡ after_forgetting h.fault held h.slot
  forgets_same g h name (image_slot.Unmapped region) kind holds one two way also = refl
  forgets_same g h name (image_slot.Unknown old) kind holds one two way also = known_same g.fault h.fault g.slot h.slot (emptied_same g.fault h.fault old g.slot h.slot (plan_known name old kind holds) one two way also)
  forgets_same g h name (image_slot.PreviouslyUsed old) kind holds one two way also = known_same g.fault h.fault g.slot h.slot (removed_same g.fault h.fault old g.slot h.slot (plan_used name old kind holds) one two way also)
  forgets_same g h name image_slot.Taken kind holds one two way also = refl

  drains_same : (g h : StepGiven PlainHeap) (name : SlotName) (held : ImageSlot P) → name.kind ≡ memory_kind → MayHold maker c.settings name.kind name.slot (cell_of held) → Drains c.settings g.fault held g.slot → Drains c.settings h.fault held h.slot → FollowsDrain c.settings g.fault held g.slot → FollowsDrain c.settings h.fault held h.slot → (g.fault ≡ h.fault) × (after_decommit held g.slot ≡ after_decommit held h.slot)
  drains_same g h name (image_slot.Unmapped region) kind holds one two way also = (one ∙ sym two, refl)
  drains_same g h name (image_slot.Unknown old) kind holds one two way also =
      let both = drained_same g.fault h.fault c.settings old g.slot h.slot (plan_known name old kind holds) one two way also in
      (both.0, ap (λ (s : Slot). image_slot.Unknown s) both.1)
  drains_same g h name (image_slot.PreviouslyUsed old) kind holds one two way also =
      let both = drained_same g.fault h.fault c.settings old g.slot h.slot (plan_used name old kind holds) one.0 two.0 way also in
      (both.0, ap (λ (s : Slot). image_slot.PreviouslyUsed s) both.1)
  drains_same g h name image_slot.Taken kind holds one two way also = (one ∙ sym two, refl)

  row_same : (g h : StepGiven PlainHeap) (phase : Phase P PlainHeap) → is_test phase ≡ false → IsShapedAt maker c.settings c.plan phase f → IsGivenAt g phase → IsGivenAt h phase → row_of g phase c bare ≡ row_of h phase c bare
  row_same g h Validate test shape one two = absurd cc
  row_same g h TestHeap test shape one two = absurd cc
  row_same g h (MakeHeap at) test shape one two =
      let First : HeapsTold → Type 0 = λ old. MakesHeap g.heap old one.new.heaps in
      let Second : HeapsTold → Type 0 = λ old. MakesHeap h.heap old two.new.heaps in
      ap (λ (r : Result PlainHeap HeapMakeFault). make_heap_row r at c bare) (given_same was one.new.heaps two.new.heaps g.heap h.heap (subst First one.told_of one.heaps) (subst Second two.told_of two.heaps))
  row_same g h (Empty at held) test shape one two =
      paged_same c bare g.fault h.fault at (λ s. Instantiate at s) g.slot h.slot (emptied_same g.fault h.fault held g.slot h.slot (with_plan at.name held shape.2) one.told two.told one.plan two.plan)
  row_same g h (Instantiate at held) test shape one two =
      let image : Option Image = image_wanted f in
      at_place (slice_get (memories_wanted f.asked) (length f.objects.memories.items)) (allocated shape.4)
      (λ decl there.
      let Told : StepGiven PlainHeap → Type 0 = λ x. InstantiatesFor c.settings decl x.fault image held x.slot in
      let Plan : StepGiven PlainHeap → Type 0 = λ x. FollowsPlanFor c.settings decl x.fault image held x.slot in
      let first : Told g = held_of (λ d. InstantiatesFor c.settings d g.fault image held g.slot) _ decl there one.told in
      let second : Told h = held_of (λ d. InstantiatesFor c.settings d h.fault image held h.slot) _ decl there two.told in
      let way : Plan g = held_of (λ d. FollowsPlanFor c.settings d g.fault image held g.slot) _ decl there one.plan in
      let also : Plan h = held_of (λ d. FollowsPlanFor c.settings d h.fault image held h.slot) _ decl there two.plan in
      paged_same c bare g.fault h.fault at (λ s. MakeMemory at s) g.slot h.slot
      (instantiated_same (minimum_byte_size decl.ty) (hides decl.ty c.settings.tunables held.region.page) image held (slot_tells maker c.settings at.name.slot held tells shape.2.region) (with_plan at.name held shape.2) g.fault h.fault g.slot h.slot first second way also))
  row_same g h (MakeMemory at held) test shape one two =
      at_place (slice_get (memories_wanted f.asked) (length f.objects.memories.items)) (allocated shape.4)
      (λ decl there.
      let first : AsksForMemory g.limiter one.old.limiter one.new.limiter decl = held_of (AsksForMemory g.limiter one.old.limiter one.new.limiter) _ decl there one.limiter in
      let second : AsksForMemory h.limiter two.old.limiter two.new.limiter decl = held_of (AsksForMemory h.limiter two.old.limiter two.new.limiter) _ decl there two.limiter in
      let least : ℕ = minimum_asked decl.ty in
      let most : Option ℕ = maximum_asked decl.ty in
      let same : g.limiter ≡ h.limiter = answer_told by one.old.limiter.rule g.limiter least most one.rule first.answer ∙ sym (answer_told by two.old.limiter.rule h.limiter least most two.rule second.answer) in
      ap (λ (r : Result Bool LimiterError). make_memory_row r at held c bare) same)
  row_same g h (MakeTable at region) test shape one two =
      let table : length f.objects.tables.items < length (tables_wanted f.asked) = omega (arith, shape.3.0, shape.3.1.no_stack, shape.3.1.no_heap, shape.1.more, shape.1.to_grant.few, (kept_of f.asked).memories) in
      at_place (slice_get (tables_wanted f.asked) (length f.objects.tables.items)) (is_there (tables_wanted f.asked) (length f.objects.tables.items) table)
      (λ ty there.
      let first : AsksForTable g.limiter one.old.limiter one.new.limiter ty = held_of (AsksForTable g.limiter one.old.limiter one.new.limiter) _ ty there one.limiter in
      let second : AsksForTable h.limiter two.old.limiter two.new.limiter ty = held_of (AsksForTable h.limiter two.old.limiter two.new.limiter) _ ty there two.limiter in
      let most : Option ℕ = Some (type_maximum ty) in
      let same : g.limiter ≡ h.limiter = table_answer_told by one.old.limiter.rule g.limiter ty.limits.min most one.rule first.answers ∙ sym (table_answer_told by two.old.limiter.rule h.limiter ty.limits.min most two.rule second.answers) in
      ap (λ (r : Result Bool LimiterError). make_table_row r at region c bare) same)
  row_same g h (Reset (object.Memory lease)) test shape one two =
      was_reset_same c bare g.fault h.fault lease g.slot h.slot
      (reset_same g.fault h.fault c.settings.dirty_pages c.settings.keep_resident.bytes (slot_taken lease) (slot_of lease.memory) g.slot h.slot (slot_planned maker c.settings lease.index (slot_of lease.memory) planned shape.2.slot) one.told two.told one.plan two.plan)
  row_same g h Flush test shape one two = flushed_same (flush_step f.local f.freed.items) g h refl one.told two.told one.plan two.plan
  row_same g h (Purge p (purging.Forget at held)) test shape one two =
      ap (λ (x : ImageSlot P). record { part = c; frame = bare; turn = goes (Purge p (purging.PutRegion at x)) })
      (forgets_same g h at.name held shape.1.2 shape.1.1.holds one.told two.told one.plan two.plan)
  row_same g h (Release (releasing.Decommit r k at held)) test shape one two =
      let both = drains_same g h at.name held (drained_kind r k at.name (cell_of held) shape.1) shape.1.region.holds one.told two.told one.plan two.plan in
      let Next : Bool → ImageSlot P → Row (PoolCore P PlainHeap) P PlainHeap = λ b x. record { part = c; frame = bare; turn = goes (Release (releasing.PutRegion (record r { failed = r.failed || b }) k at x)) } in
      ap (λ (b : Bool). Next b (after_decommit held g.slot)) both.0 ∙ ap (Next h.fault) both.1
  row_same g h (Release releasing.Reserve) test shape one two = absurd cc
  row_same g h _ test shape one two = refl

module _ {P : Type 0} where
  -- A step that is no test,
  pub step_same : (maker : MakerTold) → maker.tells ≡ true → IsSome maker.plan → (rule : GrowthRule) (was now other : ListedHeaps) (c : PoolCore P PlainHeap) (f : Frame P PlainHeap) (a b : After P PlainHeap) → CanStep maker c f → is_test f.phase ≡ false → StepsUnder rule was now c f a → StepsUnder rule was other c f b → a ≡ b
  step_same maker tells planned rule was now other c f a b can test one two =
      let left = one.3 in
      let right = two.3 in
      let same = row_same maker tells planned rule was c f can.frame left.0 right.0 f.phase test can.frame.shape
      (record { old = one.0; new = one.1; rule = one.2; told_of = one.4; told = left.1.told; plan = left.1.planned; limiter = left.1.limiter; heaps = left.1.heaps })
      (record { old = two.0; new = two.1; rule = two.2; told_of = two.4; told = right.1.told; plan = right.1.planned; limiter = right.1.limiter; heaps = right.1.heaps }) in
      left.1.is ∙ ap (λ (r : Row (PoolCore P PlainHeap) P PlainHeap). stepped r) same ∙ sym right.1.is

  -- and one that is, by whether there is memory for its lists.
  pub step_tests : (rule : GrowthRule) (was now : ListedHeaps) (c : PoolCore P PlainHeap) (f : Frame P PlainHeap) (a : After P PlainHeap) (phase : Phase P PlainHeap) → f.phase ≡ phase → StepsUnder rule was now c f a → (g : StepGiven PlainHeap) × (a ≡ stepped (row_of g phase c (record f { phase = Idle })))
  step_tests rule was now c f a phase test steps =
      let g : StepGiven PlainHeap = steps.3.0 in
      (g, steps.3.1.is ∙ ap (λ (x : Phase P PlainHeap). stepped (row_of g x c (record f { phase = Idle }))) test)
