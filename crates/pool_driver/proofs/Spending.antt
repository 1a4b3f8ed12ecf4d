-- A call for a stack picks at most one cold slot, and none where it ends without its grant.
use Rattle.std.proofs.Common.{◌≡◌, ℕ, List, ◌+◌, ◌<◌, ◌≤◌, ◌^◌, Bool, true, false, length, sym, refl, ap, subst, ◌∙◌, arith, Option, Some, None}
use Rattle.std.specs.Prelude.{if◌then◌else◌, slice_index}
use Rattle.std.specs.Option.{option_map_or}
use Rattle.pool_pages.specs.Told.{Told}
use Rattle.pool_limits.specs.Exchanges.{Exchange}
use Rattle.pool_hall.specs.Step.{put_view}
use Rattle.pool_hall.specs.Tally.{rise}
use Rattle.pool_hall.specs.declared.unit_name.SlotKind.{SlotKind}
use Rattle.pool_hall.specs.declared.unit_name.SlotKind.TheVariants.{Memory as memory_kind, Table as table_kind, Stack as stack_kind, Heap as heap_kind}
use Rattle.pool_hall.specs.declared.view.View.{View}
use Rattle.pool_index.specs.Part.{cold_picks}
use Rattle.pool_index.specs.Shard.{ShardState, Choice, warm_at, next_cold, choice, after_choice, after_full, after_pick, pick_answer}
use Rattle.pool_index.specs.declared.ids.MemoryInModule.{MemoryInModule}
use Rattle.pool_index.specs.declared.ids.SlotId.{SlotId}
use Rattle.pool_index.proofs.Rounds.{no_rise}
use Rattle.pool_slots.specs.Cells.{Cell, unmapped, unknown, previously_used, taken}
use Rattle.pool_slots.specs.Parts.{part_at, IsShardPart}
use Rattle.pool_slots.specs.Plans.{Role, shard_role, cell_role, queue_role, heaps_role, no_role, role_at}
use Rattle.pool_slots.specs.declared.part.PoolPart.{PoolPart}
use Rattle.pool_slots.specs.declared.part.PoolPart.TheVariants as part
use Rattle.pool_slots.specs.declared.plan.Plan.{Plan}
use Rattle.pool_slots.specs.declared.slot_name.SlotName.{SlotName}
use Rattle.pool_alloc.specs.StepTable.{row_of, picked, taken_next, region_next, unmapped_next}
use Rattle.pool_alloc.specs.BetweenSteps.{IsShapedAt}
use Rattle.pool_alloc.specs.StepReads.{memories_wanted, heaps_wanted, stacks_wanted, shard_at, shard_tried, wanted, allocator_for, cell_named}
use Rattle.pool_alloc.specs.Stepping.{is_idle}
use Rattle.pool_alloc.specs.Turns.{After, Left, goes, after, resting}
use Rattle.pool_alloc.specs.declared.frame.Asked.{Asked}
use Rattle.pool_alloc.specs.declared.frame.Asked.TheVariants as asked
use Rattle.pool_alloc.specs.declared.frame.Frame.{Frame}
use Rattle.pool_alloc.specs.declared.frame.Object.TheVariants as object
use Rattle.pool_alloc.specs.declared.frame.Outcome.{Outcome}
use Rattle.pool_alloc.specs.declared.frame.Outcome.TheVariants as answer
use Rattle.pool_alloc.specs.declared.frame.Phase.{Phase}
use Rattle.pool_alloc.specs.declared.frame.Phase.TheVariants.{Idle, Key, Validate, TestStack, TestHeap, CountInstance, Pick, TakeQueue, TakeRegion, Empty, Instantiate, MakeMemory, MakeTable, CountObject, TakeHeap, MakeHeap, CountHeap, PutNoHeap, PutBack, FreeOne, UncountObject, UncountHeap, PutHeap, FreeHeap, Reset, Merge, Flush, UncountInstance, ValidateComponent, CountComponent, UncountComponent, Purge, Release}
use Rattle.pool_alloc.specs.declared.frame.TakenSlot.{TakenSlot}
use Rattle.pool_alloc.specs.declared.pool_core.PoolCore.{PoolCore}
use Rattle.pool_alloc.specs.PartyTold.{PartyTold}
use Rattle.pool_alloc.specs.Targets.{next_target}
use Rattle.pool_alloc.proofs.PlanPlaces.{IsShardPlace}
use Rattle.pool_alloc.proofs.PoolParts.{part_same, shard_part}
use Rattle.pool_alloc.proofs.StepNeeds.{can_still, step_ok}
use Rattle.pool_driver.specs.Driving.{Change, changed, counted as counter_up, uncounted as counter_down, unchanged, view_after, IsChangeOf, SeesStep}
use Rattle.pool_driver.specs.Placed.{About, IsSmall, part_counts, pool_meaning}
use Rattle.pool_driver.specs.Spending.{is_shard_of, cold_in, in_hand, ColdWithin, Spends, AnswerWithin, AnswerSpends}
use Rattle.pool_driver.proofs.FullShards.{after_none}
use Rattle.pool_driver.proofs.Naming.{PickAt, pick_at}
use Rattle.pool_driver.proofs.Sparing.{KeepsCold, picks_slot, put_keeps_both}

-- a shard's count of cold picks rises by one at most, and only where it gives a slot
cold_rose : (n : ℕ) → n < 2 ^ 64 → rise n (n + 1) ≡ 1
cold_rose n small = omega arith

pub pick_cold : (want : Option MemoryInModule) (s : ShardState) → s.cold < 2 ^ 64 → rise s.cold (after_pick want s).cold ≤ 1
pick_cold want s small = go (choice want s)
  where
    go : (k : Option Choice) → rise s.cold (option_map_or (after_choice want s) k (after_full s)).cold ≤ 1
    go None = let e = no_rise s.cold small in omega arith
    go (Some (warm_at i)) = let e = no_rise s.cold small in omega arith
    go (Some next_cold) = let e = cold_rose s.cold small in omega arith

module _ {P H : Type 0} where
  cold_of_shards : (x y : PoolPart P H) → IsShardPart x → IsShardPart y → KeepsCold x y → IsSmall x → rise (slice_index (part_counts x) cold_picks) (slice_index (part_counts y) cold_picks) ≡ 0
  cold_of_shards (part.Shard s) (part.Shard t) one two same small = ap (λ (n : ℕ). rise s.cold n) same ∙ no_rise s.cold (small cold_picks)
  cold_of_shards (part.Memory cell) y one two same small = absurd one
  cold_of_shards (part.Table cell) y one two same small = absurd one
  cold_of_shards (part.Stack cell) y one two same small = absurd one
  cold_of_shards (part.Queue q) y one two same small = absurd one
  cold_of_shards (part.Heaps heaps) y one two same small = absurd one
  cold_of_shards (part.Shard s) (part.Memory cell) one two same small = absurd two
  cold_of_shards (part.Shard s) (part.Table cell) one two same small = absurd two
  cold_of_shards (part.Shard s) (part.Stack cell) one two same small = absurd two
  cold_of_shards (part.Shard s) (part.Queue q) one two same small = absurd two
  cold_of_shards (part.Shard s) (part.Heaps heaps) one two same small = absurd two

-- a call for a stack has no phase of another object
no_memory : (a : Asked) (n : ℕ) → a ≡ asked.Stack → n < length (memories_wanted a) → ⊥
no_memory a n is below = let e : length (memories_wanted a) ≡ 0 = ap (λ (z : Asked). length (memories_wanted z)) is in omega arith

no_table : (a : Asked) → a ≡ asked.Stack → stacks_wanted a ≡ 0 → ⊥
no_table a is none = let e : stacks_wanted a ≡ 1 = ap stacks_wanted is in omega arith

no_heap : (a : Asked) → a ≡ asked.Stack → heaps_wanted a ≡ 1 → ⊥
no_heap a is one = let e : heaps_wanted a ≡ 0 = ap heaps_wanted is in omega arith

module _ {T P H : Type 0} (about : T → About) (inner : T → PoolPart P H) (Passes : List Exchange → Type 0) (old new : PartyTold) (a : About) (base v w : View T) (f next : Frame P H) (o : Option (Outcome P H)) (s : SeesStep about inner Passes old new a v w f next o) where
  abbrev c : PoolCore P H
  c = s.core

  abbrev e : Frame P H
  e = resting f

  -- what a put counts of cold slots
  cold_put : (kind : SlotKind) (p : ℕ) (x y : T) → w ≡ put_view (pool_meaning about inner) p x y v → cold_in c.plan kind w ≡ (if is_shard_of kind (role_at c.plan p) then rise (slice_index (part_counts (inner x)) cold_picks) (slice_index (part_counts (inner y)) cold_picks) else 0) + cold_in c.plan kind v
  cold_put kind p x y is = ap (λ (z : View T). cold_in c.plan kind z) is

  shards_stay : (p : ℕ) (x y : T) → IsChangeOf about inner (changed p x y) (next_target a.settings a.plan f.phase f) c s.left → IsShardPlace c.plan p → IsShardPart (inner x) × IsShardPart (inner y)
  shards_stay p x y of place =
      let left_core = (can_still a.maker old new c f (record { core = s.left; frame = next; outcome = o }) s.can (s.row.0, s.row.1.0)).core in
      let plan : s.left.plan ≡ c.plan = ap (λ (d : PoolCore P H). d.plan) of.3 in
      let is : part_at p s.left.parts ≡ inner y = ap (λ (d : PoolCore P H). part_at p d.parts) of.3 ∙ part_same p (inner y) c of.1 in
      let there : IsShardPlace s.left.plan p = record { allocator = place.allocator; index = place.index; role = ap (λ (z : Plan). role_at z p) plan ∙ place.role } in
      (subst IsShardPart of.2 (shard_part a.maker p c s.can.core place).part, subst IsShardPart is (shard_part a.maker p s.left left_core there).part)

  -- a put of a part that keeps its cold slots counts none
  kept_cold : (kind : SlotKind) (p : ℕ) (x y : T) → IsChangeOf about inner (changed p x y) (next_target a.settings a.plan f.phase f) c s.left → KeepsCold (inner x) (inner y) → w ≡ put_view (pool_meaning about inner) p x y v → cold_in c.plan kind w ≡ cold_in c.plan kind v
  kept_cold kind p x y of keeps is = let e = cold_put kind p x y is in let none = by (role_at c.plan p) refl in omega arith
    where
      rose : ℕ
      rose = rise (slice_index (part_counts (inner x)) cold_picks) (slice_index (part_counts (inner y)) cold_picks)

      either : (b : Bool) → rose ≡ 0 → (if b then rose else 0) ≡ 0
      either true none = none
      either false none = refl

      by : (r : Role) → role_at c.plan p ≡ r → (if is_shard_of kind r then rose else 0) ≡ 0
      by (shard_role a j) role = let shards = shards_stay p x y of (record { allocator = a; index = j; role = role }) in either (is_shard_of kind (shard_role a j)) (cold_of_shards (inner x) (inner y) shards.0 shards.1 keeps of.4)
      by (cell_role name) role = refl
      by queue_role role = refl
      by (heaps_role n) role = refl
      by no_role role = refl

  -- In a step that picks no slot no shard counts a cold pick.
  pub cold_still : (kind : SlotKind) → picks_slot f.phase ≡ false → cold_in c.plan kind w ≡ cold_in c.plan kind v
  cold_still kind other = go s.change s.of s.view
    where
      go : (ch : Change T) → IsChangeOf about inner ch (next_target a.settings a.plan f.phase f) c s.left → w ≡ view_after about inner ch v → cold_in c.plan kind w ≡ cold_in c.plan kind v
      go (changed p x y) of is = kept_cold kind p x y of ((put_keeps_both about inner Passes old new a v w f next o s p x y of).cold other) is
      go (counter_up name found) of is = ap (λ (z : View T). cold_in c.plan kind z) is
      go (counter_down name) of is = ap (λ (z : View T). cold_in c.plan kind z) is
      go unchanged of is = ap (λ (z : View T). cold_in c.plan kind z) is

  -- A pick counts one at most, and none where it finds none.
  module _ (tried : ℕ) (is : f.phase ≡ Pick tried) where
    abbrev pub place : ℕ
    place = shard_tried tried c.plan f

    abbrev pub shard : ShardState
    shard = shard_at place c

    pub picks : PickAt about inner Passes old new a v w f next o s place
    picks = pick_at about inner Passes old new a v w f next o s tried is

    pub pick_counts : (kind : SlotKind) → cold_in c.plan kind w ≡ (if is_shard_of kind (role_at c.plan place) then rise shard.cold (after_pick (wanted f) shard).cold else 0) + cold_in c.plan kind v
    pick_counts kind = cold_put kind place picks.before picks.after picks.put ∙ (λ i. (if is_shard_of kind (role_at c.plan place) then rise (slice_index (part_counts (picks.was i)) cold_picks) (slice_index (part_counts (picks.is i)) cold_picks) else 0) + cold_in c.plan kind v)

    pick_least : (b : Bool) (n : ℕ) → n ≤ 1 → (if b then n else 0) ≤ 1
    pick_least true n least = least
    pick_least false n least = omega arith

    pick_none : (b : Bool) (n : ℕ) → n ≡ 0 → (if b then n else 0) ≡ 0
    pick_none true n none = none
    pick_none false n none = refl

    one_picked : (kind : SlotKind) → cold_in c.plan kind w ≤ cold_in c.plan kind v + 1
    one_picked kind =
        let e = pick_counts kind in
        let least = pick_least (is_shard_of kind (role_at c.plan place)) _ (pick_cold (wanted f) shard picks.small) in
        omega arith

    pub none_picked : (kind : SlotKind) → pick_answer (wanted f) shard ≡ None → cold_in c.plan kind w ≡ cold_in c.plan kind v
    none_picked kind none = let e = pick_counts kind in let still = pick_none (is_shard_of kind (role_at c.plan place)) _ (ap (λ (t : ShardState). rise shard.cold t.cold) (after_none (wanted f) shard none) ∙ no_rise shard.cold picks.small) in omega arith

  -- What a step leaves of a call for a stack.
  pub record LeftWithin (l : Left P H) : Type 0 where
    pub frame : is_idle l.frame.phase ≡ false → ColdWithin base w c.plan (in_hand l.frame.phase)
    pub answer : AnswerWithin base w c.plan l.outcome

  -- no slot was picked, however the call goes on
  none_within : (l : Left P H) → ColdWithin base w c.plan 0 → LeftWithin l
  none_within l none = record { frame = λ on. omega (arith, none); answer = by l.outcome }
    where
      by : (x : Option (Outcome P H)) → AnswerWithin base w c.plan x
      by None = tt
      by (Some (answer.Granted grant)) = omega (arith, none)
      by (Some answer.Key) = none
      by (Some answer.Returned) = none
      by (Some (answer.Purged n)) = none
      by (Some (answer.Released n)) = none
      by (Some (answer.Refused x)) = none

  -- one is in hand
  one_within : (kind : SlotKind) (name : SlotName) → ColdWithin base w c.plan 1 → LeftWithin (after e (goes (taken_next kind name)))
  one_within memory_kind name one = record { frame = λ on. one; answer = tt }
  one_within table_kind name one = record { frame = λ on. one; answer = tt }
  one_within stack_kind name one = record { frame = λ on. one; answer = tt }
  one_within heap_kind name one = record { frame = λ on. one; answer = tt }

  unmapped_within : (kind : SlotKind) (at : TakenSlot) (region : Told) → ColdWithin base w c.plan 1 → LeftWithin (after e (unmapped_next c.settings kind at region))
  unmapped_within memory_kind at region one = record { frame = λ on. one; answer = tt }
  unmapped_within table_kind at region one = record { frame = λ on. one; answer = tt }
  unmapped_within stack_kind at region one = record { frame = λ on. one; answer = tt }
  unmapped_within heap_kind at region one = record { frame = λ on. absurd cc; answer = tt }

  region_within : (at : TakenSlot) (held : Cell) → ColdWithin base w c.plan 1 → LeftWithin (after e (region_next c.settings at held))
  region_within at (unmapped region) one = unmapped_within at.name.kind at region one
  region_within at (unknown held) one = record { frame = λ on. one; answer = tt }
  region_within at (previously_used held) one = record { frame = λ on. one; answer = tt }
  region_within at taken one = record { frame = λ on. absurd cc; answer = tt }

  shape : (p : Phase P H) → f.phase ≡ p → IsShapedAt a.maker c.settings c.plan p f
  shape p is = subst (λ (q : Phase P H). IsShapedAt a.maker c.settings c.plan q f) is s.can.frame.shape

  module _ (stack : f.asked ≡ asked.Stack) where
    abbrev Row : Phase P H → Type 0
    Row p = LeftWithin (after (row_of s.row.0 p c e).frame (row_of s.row.0 p c e).turn)

    abbrev Had : Phase P H → Type 0
    Had p = is_idle p ≡ false → ColdWithin base v c.plan (in_hand p)

    pick_within : (tried : ℕ) → f.phase ≡ Pick tried → Had (Pick tried) → Row (Pick tried)
    pick_within tried is had = go (pick_answer (wanted f) (shard_at (shard_tried tried c.plan f) c)) refl
      where
        go : (x : Option (SlotId × ℕ)) → pick_answer (wanted f) (shard_at (shard_tried tried c.plan f) c) ≡ x → LeftWithin (after e (picked c.plan x (shard_at (shard_tried tried c.plan f) c) tried e))
        go (Some q) some = let most = one_picked tried is stack_kind in let h = had refl in one_within (allocator_for c.plan e).kind _ (omega arith)
        go None none = let same = none_picked tried is stack_kind none in let h = had refl in none_within _ (omega arith)

    -- a step that picks no slot, of a phase that has none in hand
    plain : (p : Phase P H) → f.phase ≡ p → picks_slot p ≡ false → ColdWithin base v c.plan 0 → (l : Left P H) → LeftWithin l
    plain p is other had l = let same = cold_still stack_kind (ap picks_slot is ∙ other) in none_within l (omega arith)

    row_within : (p : Phase P H) → f.phase ≡ p → Had p → Row p
    row_within Idle is had = record { frame = λ on. absurd cc; answer = tt }
    row_within (Pick tried) is had = pick_within tried is had
    row_within (TakeRegion name) is had = let same = cold_still stack_kind (ap picks_slot is) in let h = had refl in region_within _ (cell_named name c).holds (omega arith)
    row_within (Empty at held) is had = absurd (no_memory f.asked (length f.objects.memories.items) stack (shape (Empty at held) is).3)
    row_within (Instantiate at held) is had = absurd (no_memory f.asked (length f.objects.memories.items) stack (shape (Instantiate at held) is).4)
    row_within (MakeMemory at held) is had = absurd (no_memory f.asked (length f.objects.memories.items) stack (shape (MakeMemory at held) is).4)
    row_within (MakeTable at region) is had = absurd (no_table f.asked stack (shape (MakeTable at region) is).3.1.no_stack)
    row_within (CountObject (object.Memory lease)) is had = absurd (no_memory f.asked (length f.objects.memories.items) stack (shape (CountObject (object.Memory lease)) is).4)
    row_within (CountObject (object.Table lease)) is had = absurd (no_table f.asked stack (shape (CountObject (object.Table lease)) is).4.1.no_stack)
    row_within (CountObject (object.Stack lease)) is had = let same = cold_still stack_kind (ap picks_slot is) in let h = had refl in record { frame = λ on. absurd cc; answer = omega arith }
    row_within (TakeHeap name) is had = absurd (no_heap f.asked stack (shape (TakeHeap name) is).3.1)
    row_within (MakeHeap at) is had = absurd (no_heap f.asked stack (shape (MakeHeap at) is).4.1)
    row_within (CountHeap lease) is had = absurd (no_heap f.asked stack (shape (CountHeap lease) is).4.1)
    row_within Key is had = plain _ is refl (had refl) _
    row_within Validate is had = plain _ is refl (had refl) _
    row_within TestStack is had = plain _ is refl (had refl) _
    row_within TestHeap is had = plain _ is refl (had refl) _
    row_within CountInstance is had = plain _ is refl (had refl) _
    row_within TakeQueue is had = plain _ is refl (had refl) _
    row_within (PutNoHeap at) is had = plain _ is refl (had refl) _
    row_within (PutBack at held) is had = plain _ is refl (had refl) _
    row_within (FreeOne name) is had = plain _ is refl (had refl) _
    row_within (UncountObject object) is had = plain _ is refl (had refl) _
    row_within (UncountHeap lease memory) is had = plain _ is refl (had refl) _
    row_within (PutHeap lease memory) is had = plain _ is refl (had refl) _
    row_within (FreeHeap name memory) is had = plain _ is refl (had refl) _
    row_within (Reset object) is had = plain _ is refl (had refl) _
    row_within Merge is had = plain _ is refl (had refl) _
    row_within Flush is had = plain _ is refl (had refl) _
    row_within UncountInstance is had = plain _ is refl (had refl) _
    row_within (ValidateComponent info) is had = plain _ is refl (had refl) _
    row_within CountComponent is had = plain _ is refl (had refl) _
    row_within UncountComponent is had = plain _ is refl (had refl) _
    row_within (Purge p step) is had = plain _ is refl (had refl) _
    row_within (Release step) is had = plain _ is refl (had refl) _

  -- What a call asks for stays until it ends.
  pub asked_stays : is_idle next.phase ≡ false → next.asked ≡ f.asked
  asked_stays = (step_ok a.maker old new c f (record { core = s.left; frame = next; outcome = o }) s.can (s.row.0, s.row.1.0)).goes.asked

  -- What a call for a stack spends is kept by each of its steps, and told of its answer with the last.
  pub spends_step : Spends base v a.plan f → Spends base w a.plan next × AnswerSpends base w a.plan f.asked o
  spends_step had = subst (λ (plan : Plan). Spends base w plan next × AnswerSpends base w plan f.asked o) s.plan (record { stack = λ stack on. (left (sym (asked_stays on) ∙ stack)).frame on }, λ stack. (left stack).answer)
    where
      by_core : Spends base v c.plan f
      by_core = subst (λ (plan : Plan). Spends base v plan f) (sym s.plan) had

      left : f.asked ≡ asked.Stack → LeftWithin (record { frame = next; outcome = o })
      left stack = subst (λ (z : After P H). LeftWithin (record { frame = z.frame; outcome = z.outcome })) (sym s.row.1.0.is) (row_within stack f.phase refl (by_core.stack stack))

-- A call that begins has picked nothing.
pub spends_begin : {T P H : Type 0} (v : View T) (plan : Plan) (f : Frame P H) → Spends v v plan f
spends_begin v plan f = record { stack = λ stack on. omega arith }
