-- Of each kind a call picks no more cold slots than it asks for, while it is to be granted no more than it has, and fewer than it asks for
-- of the kind for which there is no room.
use Rattle.std.proofs.Common.{◌≡◌, ◌⊎◌, ⊎_elim, inl, inr, ℕ, ◌+◌, ◌≤◌, Bool, true, false, List, length, sym, refl, ap, subst, ◌∙◌, arith, Option, Some, None}
use Rattle.std.specs.Prelude.{if◌then◌else◌}
use Rattle.pool_limits.specs.Exchanges.{Exchange}
use Rattle.pool_hall.specs.Tally.{rise}
use Rattle.pool_hall.specs.declared.unit_name.SlotKind.{SlotKind}
use Rattle.pool_hall.specs.declared.unit_name.SlotKind.TheVariants.{Memory as memory_kind, Table as table_kind, Stack as stack_kind, Heap as heap_kind}
use Rattle.pool_hall.specs.declared.view.View.{View}
use Rattle.pool_index.specs.Shard.{ShardState, after_pick, pick_answer}
use Rattle.pool_index.specs.declared.ids.SlotId.{SlotId}
use Rattle.pool_slots.specs.Plans.{role_at}
use Rattle.pool_slots.specs.SlotQueues.{same_kind}
use Rattle.pool_slots.specs.declared.errors.AllocError.{AllocError}
use Rattle.pool_slots.specs.declared.errors.AllocError.TheVariants as refusal
use Rattle.pool_slots.specs.declared.errors.ConcurrencyKind.{ConcurrencyKind}
use Rattle.pool_slots.specs.declared.errors.ConcurrencyKind.TheVariants.{CoreInstances, ComponentInstances, MemoryStripe, Tables, Fibers, GcHeaps}
use Rattle.pool_slots.specs.declared.part.PoolPart.{PoolPart}
use Rattle.pool_slots.specs.declared.plan.Plan.{Plan}
use Rattle.pool_slots.specs.declared.slot_name.SlotName.{SlotName}
use Rattle.pool_alloc.specs.BetweenSteps.{IsShapedAt}
use Rattle.pool_alloc.specs.CallStages.{FindsNone, Goes, Progress, Stage, asks, refusing, stage_at, stage_of}
use Rattle.pool_alloc.specs.HeapLeases.{heap_slot_taken}
use Rattle.pool_alloc.specs.Objects.{objects_in, slot_of_object}
use Rattle.pool_alloc.specs.PartyTold.{PartyTold}
use Rattle.pool_alloc.specs.Places.{frame_count, freed_count, instance_count, phase_count, queued_count, region_count, right_to, slot_count, taken_count}
use Rattle.pool_alloc.specs.SoundSteps.{IsSoundStep}
use Rattle.pool_alloc.specs.StepReads.{allocator_for, kind_next, shard_at, shard_tried, wanted}
use Rattle.pool_alloc.specs.StepTable.{picked, row_of, taken_next}
use Rattle.pool_alloc.specs.Turns.{After, Left, after, goes as turns_to, limit_of, resting}
use Rattle.pool_alloc.specs.declared.frame.Asked.{Asked}
use Rattle.pool_alloc.specs.declared.frame.Frame.{Frame}
use Rattle.pool_alloc.specs.declared.frame.Outcome.{Outcome}
use Rattle.pool_alloc.specs.declared.frame.Phase.{Phase}
use Rattle.pool_alloc.specs.declared.frame.Phase.TheVariants.{Pick, TakeRegion, Empty, Instantiate, MakeMemory, MakeTable, CountObject, TakeHeap, MakeHeap, CountHeap}
use Rattle.pool_alloc.specs.declared.frame.TakenSlot.{TakenSlot}
use Rattle.pool_alloc.specs.declared.pool_core.PoolCore.{PoolCore}
use Rattle.pool_alloc.proofs.PlanPlaces.{allocator_holds, tried_role}
use Rattle.pool_alloc.proofs.SlotCounts.{slot_once}
use Rattle.pool_alloc.proofs.SoundSteps.{sound_step}
use Rattle.pool_driver.specs.Calling.{Becomes, CallKind, GoesOnSince, PicksCold, asks_for, is_refused, kind_at, objects_of}
use Rattle.pool_driver.specs.Driving.{SeesStep}
use Rattle.pool_driver.specs.Placed.{About}
use Rattle.pool_driver.specs.Limits.{IfRefused, IfRefusing}
use Rattle.pool_driver.specs.Spending.{ColdOf, FewerCold, LimitFewer, RefusalFewer, cold_in, granted_of, in_hand, is_shard_of, slots_of, wanted_of}
use Rattle.pool_driver.proofs.Adding.{from_asking}
use Rattle.pool_driver.proofs.Picking.{RowKeeps, all_fit, granted_asks, next_fits, none_in_hand, row_keeps}
use Rattle.pool_driver.proofs.Raising.{answer_so, next_so}
use Rattle.pool_driver.proofs.Limits.{none_named_yet}
use Rattle.pool_driver.proofs.Sparing.{picks_slot}
use Rattle.pool_driver.proofs.Spending.{cold_still, none_picked, pick_cold, pick_counts, picks}
use Rattle.pool_driver.proofs.TellingRows.{IsUnlimited}

-- A call that begins has picked nothing.
pub cold_begins : {T P H : Type 0} (plan : Plan) (v : View T) (f : Frame P H) (kind : SlotKind) → PicksCold plan v v f f kind
cold_begins plan v f kind = record { most = omega arith; now = λ seeks. omega arith }

-- what a refusal is for
module _ {T : Type 0} (base v w : View T) (plan : Plan) (what : Asked) where
  fewer_of : (k : SlotKind) (stripe : ℕ) → FewerCold base w plan what k → LimitFewer base w plan what (limit_of k stripe)
  fewer_of memory_kind stripe fewer = fewer
  fewer_of table_kind stripe fewer = fewer
  fewer_of stack_kind stripe fewer = fewer
  fewer_of heap_kind stripe fewer = fewer

  fewer_unlimited : (x : AllocError) → IsUnlimited x → RefusalFewer base w plan what x
  fewer_unlimited (refusal.Limit l) none = absurd none
  fewer_unlimited x none = tt

  module _ (same : (kind : SlotKind) → cold_in plan kind w ≡ cold_in plan kind v) where
    still_fewer : (kind : SlotKind) → FewerCold base v plan what kind → FewerCold base w plan what kind
    still_fewer kind fewer = omega (arith, same kind, fewer)

    limit_still : (k : ConcurrencyKind) → LimitFewer base v plan what k → LimitFewer base w plan what k
    limit_still (MemoryStripe i) fewer = still_fewer memory_kind fewer
    limit_still Tables fewer = still_fewer table_kind fewer
    limit_still Fibers fewer = still_fewer stack_kind fewer
    limit_still GcHeaps fewer = still_fewer heap_kind fewer
    limit_still CoreInstances fewer = tt
    limit_still ComponentInstances fewer = tt

    fewer_still : (x : AllocError) → RefusalFewer base v plan what x → RefusalFewer base w plan what x
    fewer_still (refusal.Limit l) fewer = limit_still l.kind fewer
    fewer_still x fewer = tt

    refusing_still : (s : Stage) → IfRefusing (RefusalFewer base v plan what) s → IfRefusing (RefusalFewer base w plan what) s
    refusing_still (refusing x) fewer = fewer_still x fewer
    refusing_still s fewer = tt

-- what is taken of a slot has it in hand
module _ (P H : Type 0) where
  hand_taken : (k : SlotKind) (name : SlotName) → in_hand (taken_next {P = P} {H = H} k name) ≡ 1
  hand_taken memory_kind name = refl
  hand_taken table_kind name = refl
  hand_taken stack_kind name = refl
  hand_taken heap_kind name = refl

module _ {P H : Type 0} where
  -- the step of the phase picks a slot, or not
  pick_or : (p : Phase P H) → ((tried : ℕ) × (p ≡ Pick tried)) ⊎ (picks_slot p ≡ false)
  pick_or (Pick tried) = inl (tried, refl)
  pick_or p = inr refl

  -- A frame that has no slots but those of its objects has none in hand.
  module _ (f : Frame P H) (has : (name : SlotName) → frame_count (right_to name) f ≡ instance_count (right_to name) f.objects) where
    nothing_by : (p : Phase P H) → f.phase ≡ p → (name : SlotName) → phase_count (right_to name) p ≡ 0
    nothing_by p is name =
        let all : instance_count (right_to name) f.objects + queued_count (right_to name) f.local.slots + freed_count (right_to name) f.freed.items + phase_count (right_to name) f.phase ≡ instance_count (right_to name) f.objects = has name in
        let same : phase_count (right_to name) f.phase ≡ phase_count (right_to name) p = ap (phase_count (right_to name)) is in
        omega (arith, all, same)

    not_taken : {X : Type 0} (name : SlotName) → slot_count (right_to name) name ≡ 0 → X
    not_taken name none = absurd (omega (arith, none, slot_once name))

    not_with : {X : Type 0} (taken : TakenSlot) → taken_count (right_to taken.name) taken ≡ 0 → X
    not_with taken none = let all : slot_count (right_to taken.name) taken.name + region_count (right_to taken.name) taken.name taken.numbers ≡ 0 = none in absurd (omega (arith, all, slot_once taken.name))

    none_has : (p : Phase P H) → f.phase ≡ p → in_hand p ≡ 0
    none_has (TakeRegion name) is = not_taken name (nothing_by _ is name)
    none_has (Empty taken held) is = not_with taken (nothing_by _ is taken.name)
    none_has (Instantiate taken held) is = not_with taken (nothing_by _ is taken.name)
    none_has (MakeMemory taken held) is = not_with taken (nothing_by _ is taken.name)
    none_has (MakeTable taken region) is = not_with taken (nothing_by _ is taken.name)
    none_has (CountObject object) is = not_with (slot_of_object object) (nothing_by _ is (slot_of_object object).name)
    none_has (TakeHeap name) is = not_taken name (nothing_by _ is name)
    none_has (MakeHeap taken) is = not_with taken (nothing_by _ is taken.name)
    none_has (CountHeap lease) is = not_with (heap_slot_taken lease) (nothing_by _ is (heap_slot_taken lease).name)
    none_has p is = refl

some_if : (b : Bool) (n : ℕ) → n ≤ 1 → (if b then n else 0) ≤ (if b then 1 else 0)
some_if true n few = few
some_if false n few = omega arith

module _ {T P H : Type 0} (about : T → About) (inner : T → PoolPart P H) (Passes : List Exchange → Type 0) (old new : PartyTold) (a : About) (base v w : View T) (first f next : Frame P H) (o : Option (Outcome P H)) (goes : GoesOnSince a base v first f) (s : SeesStep about inner Passes old new a v w f next o) where
  abbrev c : PoolCore P H
  c = s.core

  abbrev e : Frame P H
  e = resting f

  sound : IsSoundStep a.maker old new c f (record { core = s.left; frame = next; outcome = o })
  sound = sound_step a.maker old new c f (record { core = s.left; frame = next; outcome = o }) s.can (s.row.0, s.row.1.0)

  shape : (p : Phase P H) → f.phase ≡ p → IsShapedAt a.maker c.settings c.plan p f
  shape p is = subst (λ (q : Phase P H). IsShapedAt a.maker c.settings c.plan q f) is s.can.frame.shape

  stage_is : (p : Phase P H) → f.phase ≡ p → kind_at (stage_of f) ≡ kind_at (stage_at p f.asked f.ending (objects_in f.objects))
  stage_is p is = ap (λ (q : Phase P H). kind_at (stage_at q f.asked f.ending (objects_in f.objects))) is

  had_cold : (kind : SlotKind) → PicksCold c.plan base v first f kind
  had_cold kind = subst (λ (plan : Plan). PicksCold plan base v first f kind) (sym s.plan) (goes.cold kind)

  same_cold : picks_slot f.phase ≡ false → (kind : SlotKind) → cold_in c.plan kind w ≡ cold_in c.plan kind v
  same_cold other kind = cold_still about inner Passes old new a base v w f next o s kind other

  -- A pick
  module _ (tried : ℕ) (is : f.phase ≡ Pick tried) where
    abbrev shard : ShardState
    shard = shard_at (shard_tried tried c.plan f) c

    pick_asks : kind_at (stage_of f) ≡ asks_for
    pick_asks = stage_is (Pick tried) is ∙ granted_asks f.asked f.ending (objects_in f.objects) (shape (Pick tried) is).1.ending

    -- counts one at most, of the kind of the next object,
    pick_of : (kind : SlotKind) → is_shard_of kind (role_at c.plan (shard_tried tried c.plan f)) ≡ same_kind kind (kind_next f)
    pick_of kind =
        ap (is_shard_of kind) (tried_role tried c.plan (length c.parts) f s.can.core.plan s.can.frame.stripe)
        ∙ ap (same_kind kind) (allocator_holds c.plan (length c.parts) f s.can.core.plan s.can.frame.stripe).kind_is

    picked_most : (kind : SlotKind) → cold_in c.plan kind w ≤ cold_in c.plan kind v + (if same_kind kind (kind_next f) then 1 else 0)
    picked_most kind =
        let counts : cold_in c.plan kind w ≡ (if is_shard_of kind (role_at c.plan (shard_tried tried c.plan f)) then rise shard.cold (after_pick (wanted f) shard).cold else 0) + cold_in c.plan kind v = pick_counts about inner Passes old new a base v w f next o s tried is kind in
        let small = (picks about inner Passes old new a base v w f next o s tried is).small in
        let few = some_if (is_shard_of kind (role_at c.plan (shard_tried tried c.plan f))) (rise shard.cold (after_pick (wanted f) shard).cold) (pick_cold (wanted f) shard small) in
        let same : ◌≡◌ {A = ℕ} (if is_shard_of kind (role_at c.plan (shard_tried tried c.plan f)) then 1 else 0) (if same_kind kind (kind_next f) then 1 else 0) = ap (λ (b : Bool). if b then 1 else 0) (pick_of kind) in
        omega (arith, counts, few, same)

    -- and nothing was in hand.
    had_granted : (kind : SlotKind) → ColdOf base v c.plan kind (granted_of kind f.objects)
    had_granted kind =
        let slots : slots_of kind f ≤ granted_of kind f.objects = none_in_hand c f f.phase (ap in_hand is) kind in
        omega (arith, (had_cold kind).now pick_asks, slots)

    pick_within : (kind : SlotKind) → ColdOf base w c.plan kind (objects_of (kind_at (stage_of first)) kind first.asked)
    pick_within kind =
        let fits = all_fit c.settings c.plan f (shape (Pick tried) is).1 kind in
        let wants : objects_of (kind_at (stage_of first)) kind first.asked ≡ wanted_of kind f.asked = ap (λ (k : CallKind). objects_of k kind first.asked) (from_asking _ (subst (Becomes (kind_at (stage_of first))) pick_asks goes.kind)) ∙ ap (wanted_of kind) (sym goes.asked) in
        omega (arith, picked_most kind, had_granted kind, fits, wants)

  -- So a call picks no more than it asks for,
  most_by_core : (kind : SlotKind) → ColdOf base w c.plan kind (objects_of (kind_at (stage_of first)) kind first.asked)
  most_by_core kind = ⊎_elim
      (λ (pick : (tried : ℕ) × (f.phase ≡ Pick tried)). pick_within pick.0 pick.1 kind)
      (λ (other : picks_slot f.phase ≡ false). omega (arith, same_cold other kind, (had_cold kind).most))
      (pick_or f.phase)

  pub most_step : (kind : SlotKind) → ColdOf base w a.plan kind (objects_of (kind_at (stage_of first)) kind first.asked)
  most_step kind = subst (λ (plan : Plan). ColdOf base w plan kind (objects_of (kind_at (stage_of first)) kind first.asked)) s.plan (most_by_core kind)

  -- while it asks no more than it has,
  abbrev Within : Left P H → Type 0
  Within l = kind_at (stage_of l.frame) ≡ asks_for → (kind : SlotKind) → ColdOf base w c.plan kind (slots_of kind l.frame)

  abbrev left_at : Phase P H → Left P H
  left_at p = after (row_of s.row.0 p c e).frame (row_of s.row.0 p c e).turn

  kept_within : (p : Phase P H) → f.phase ≡ p → kind_at (stage_of f) ≡ asks_for → ((kind : SlotKind) → cold_in c.plan kind w ≡ cold_in c.plan kind v) → Within (left_at p)
  kept_within p is seeks same = λ on kind.
      let keeps : RowKeeps c f p (row_of s.row.0 p c e) = row_keeps c f a.maker s.row.0 p (shape p is) (sym (stage_is p is) ∙ seeks) in
      let slots : slots_of kind f ≡ granted_of kind f.objects + (if same_kind kind (kind_next f) then in_hand p else 0) = ap (λ (q : Phase P H). granted_of kind f.objects + (if same_kind kind (kind_next f) then in_hand q else 0)) is in
      omega (arith, same kind, (had_cold kind).now seeks, keeps on kind, slots)

  -- A pick found a slot, which the call has in hand then; or no cold slot was picked.
  abbrev Found : Left P H → Type 0
  Found l = (kind_at (stage_of l.frame) ≡ asks_for) × (l.outcome ≡ None)

  found_next : (tried : ℕ) → f.phase ≡ Pick tried → (k : SlotKind) (name : SlotName) → Found (after e (turns_to (taken_next k name)))
  found_next tried is memory_kind name = (sym (stage_is (Pick tried) is) ∙ pick_asks tried is, refl)
  found_next tried is table_kind name = (sym (stage_is (Pick tried) is) ∙ pick_asks tried is, refl)
  found_next tried is stack_kind name = (sym (stage_is (Pick tried) is) ∙ pick_asks tried is, refl)
  found_next tried is heap_kind name = (sym (stage_is (Pick tried) is) ∙ pick_asks tried is, refl)

  found_within : (tried : ℕ) → f.phase ≡ Pick tried → (k : SlotKind) (name : SlotName) → Within (after e (turns_to (taken_next k name)))
  found_within tried is k name = λ on kind.
      let slots : slots_of kind (after e (turns_to (taken_next k name))).frame ≡ granted_of kind f.objects + (if same_kind kind (kind_next f) then 1 else 0) = ap (λ (n : ℕ). granted_of kind f.objects + (if same_kind kind (kind_next f) then n else 0)) (hand_taken P H k name) in
      omega (arith, picked_most tried is kind, had_granted tried is kind, slots)

  abbrev pick_left : (tried : ℕ) → Option (SlotId × ℕ) → Left P H
  pick_left tried x = after e (picked c.plan x (shard_at (shard_tried tried c.plan f) c) tried e)

  pick_or_none : (tried : ℕ) → f.phase ≡ Pick tried → Within (left_at (Pick tried)) × (Found (left_at (Pick tried)) ⊎ ((kind : SlotKind) → cold_in c.plan kind w ≡ cold_in c.plan kind v))
  pick_or_none tried is = go (pick_answer (wanted f) (shard_at (shard_tried tried c.plan f) c)) refl
    where
      go : (x : Option (SlotId × ℕ)) → pick_answer (wanted f) (shard_at (shard_tried tried c.plan f) c) ≡ x → Within (left_at (Pick tried)) × (Found (left_at (Pick tried)) ⊎ ((kind : SlotKind) → cold_in c.plan kind w ≡ cold_in c.plan kind v))
      go (Some q) some = subst (λ (y : Option (SlotId × ℕ)). Within (pick_left tried y) × (Found (pick_left tried y) ⊎ ((kind : SlotKind) → cold_in c.plan kind w ≡ cold_in c.plan kind v))) (sym some) (found_within tried is (allocator_for c.plan e).kind _, inl (found_next tried is (allocator_for c.plan e).kind _))
      go None none =
          let same = λ (kind : SlotKind). none_picked about inner Passes old new a base v w f next o s tried is kind none in
          (kept_within (Pick tried) is (pick_asks tried is) same, inr same)

  abbrev left_of : After P H → Left P H
  left_of z = record { frame = z.frame; outcome = z.outcome }

  left_is : (p : Phase P H) → f.phase ≡ p → ◌≡◌ {A = Left P H} (left_at p) (record { frame = next; outcome = o })
  left_is p is = ap left_at (sym is) ∙ ap left_of (sym s.row.1.0.is)

  found_or_same : Found (record { frame = next; outcome = o }) ⊎ ((kind : SlotKind) → cold_in c.plan kind w ≡ cold_in c.plan kind v)
  found_or_same = ⊎_elim
      (λ (pick : (tried : ℕ) × (f.phase ≡ Pick tried)). subst (λ (l : Left P H). Found l ⊎ ((kind : SlotKind) → cold_in c.plan kind w ≡ cold_in c.plan kind v)) (left_is (Pick pick.0) pick.1) (pick_or_none pick.0 pick.1).1)
      (λ (other : picks_slot f.phase ≡ false). inr (same_cold other))
      (pick_or f.phase)

  now_by_core : kind_at (stage_of f) ≡ asks_for → Within (record { frame = next; outcome = o })
  now_by_core seeks = ⊎_elim
      (λ (pick : (tried : ℕ) × (f.phase ≡ Pick tried)). subst Within (left_is (Pick pick.0) pick.1) (pick_or_none pick.0 pick.1).0)
      (λ (other : picks_slot f.phase ≡ false). subst Within (left_is f.phase refl) (kept_within f.phase refl seeks (same_cold other)))
      (pick_or f.phase)

  pub now_step : kind_at (stage_of f) ≡ asks_for → kind_at (stage_of next) ≡ asks_for → (kind : SlotKind) → ColdOf base w a.plan kind (slots_of kind next)
  now_step seeks on kind = subst (λ (plan : Plan). ColdOf base w plan kind (slots_of kind next)) s.plan (now_by_core seeks on kind)

  -- and fewer of the kind for which it finds no room.
  module _ (same : (kind : SlotKind) → cold_in c.plan kind w ≡ cold_in c.plan kind v) where
    no_room : kind_at (stage_of f) ≡ asks_for → (n : ℕ) (x : AllocError) → FindsNone c f n x → RefusalFewer base w c.plan first.asked x
    no_room seeks n x none =
        let fits = next_fits c.settings c.plan f none.allocating in
        let slots : slots_of (kind_next f) f ≤ granted_of (kind_next f) f.objects = none_in_hand c f f.phase (none_has f none.has f.phase refl) (kind_next f) in
        let wants : wanted_of (kind_next f) first.asked ≡ wanted_of (kind_next f) f.asked = ap (wanted_of (kind_next f)) (sym goes.asked) in
        let fewer : FewerCold base w c.plan first.asked (kind_next f) = omega (arith, same (kind_next f), (had_cold (kind_next f)).now seeks, slots, fits, wants) in
        subst (RefusalFewer base w c.plan first.asked) (sym none.is) (fewer_of base v w c.plan first.asked (kind_next f) f.stripe fewer)

    asks_by : (p : Progress) → stage_of f ≡ asks p → kind_at (stage_of f) ≡ asks_for
    asks_by p is = ap kind_at is

    had_fewer : IfRefusing (RefusalFewer base w c.plan first.asked) (stage_of f)
    had_fewer = refusing_still base v w c.plan first.asked same (stage_of f) (subst (λ (plan : Plan). IfRefusing (RefusalFewer base v plan first.asked) (stage_of f)) (sym s.plan) goes.fewer)

    fewer_next : Goes a.maker old new c f (stage_of f) (stage_of next) None → IfRefusing (RefusalFewer base w c.plan first.asked) (stage_of next)
    fewer_next way = next_so a.maker old new c f (RefusalFewer base w c.plan first.asked) (fewer_unlimited base v w c.plan first.asked) (kind_at (stage_of f) ≡ asks_for) no_room tt tt (stage_of f) (stage_of next) asks_by way had_fewer

    fewer_answer : (answer : Outcome P H) → Goes a.maker old new c f (stage_of f) (stage_of next) (Some answer) → IfRefused (RefusalFewer base w c.plan first.asked) answer
    fewer_answer answer way = answer_so a.maker old new c f (RefusalFewer base w c.plan first.asked) (fewer_unlimited base v w c.plan first.asked) (kind_at (stage_of f) ≡ asks_for) no_room tt tt answer (stage_of f) (stage_of next) asks_by way had_fewer

  pub fewer_step : o ≡ None → IfRefusing (RefusalFewer base w a.plan first.asked) (stage_of next)
  fewer_step none = subst (λ (plan : Plan). IfRefusing (RefusalFewer base w plan first.asked) (stage_of next)) s.plan by_core
    where
      by_core : IfRefusing (RefusalFewer base w c.plan first.asked) (stage_of next)
      by_core = ⊎_elim
          (λ (found : Found (record { frame = next; outcome = o })). none_named_yet (RefusalFewer base w c.plan first.asked) (stage_of next) (λ (refused : kind_at (stage_of next) ≡ is_refused). let apart : asks_for ≡ is_refused = sym found.0 ∙ refused in absurd cc))
          (λ (same : (kind : SlotKind) → cold_in c.plan kind w ≡ cold_in c.plan kind v). fewer_next same (subst (λ (z : Option (Outcome P H)). Goes a.maker old new c f (stage_of f) (stage_of next) z) none sound.goes.way))
          found_or_same

  pub fewer_last : (answer : Outcome P H) → o ≡ Some answer → IfRefused (RefusalFewer base w a.plan first.asked) answer
  fewer_last answer some = subst (λ (plan : Plan). IfRefused (RefusalFewer base w plan first.asked) answer) s.plan by_core
    where
      by_core : IfRefused (RefusalFewer base w c.plan first.asked) answer
      by_core = ⊎_elim
          (λ (found : Found (record { frame = next; outcome = o })). absurd (let apart : None ≡ Some answer = sym found.1 ∙ some in cc))
          (λ (same : (kind : SlotKind) → cold_in c.plan kind w ≡ cold_in c.plan kind v). fewer_answer same answer (subst (λ (z : Option (Outcome P H)). Goes a.maker old new c f (stage_of f) (stage_of next) z) some sound.goes.way))
          found_or_same
