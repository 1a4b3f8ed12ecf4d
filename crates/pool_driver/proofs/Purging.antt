-- A purge asks each shard of memories for each memory that a module may have, until it has no slot of it, and each such miss is counted. It
-- stops before that only where it found as many slots as a stripe has.
use Rattle.std.proofs.Common.{◌≡◌, ◌⊎◌, ⊎_elim, inl, inr, ℕ, ◌+◌, ◌*◌, ◌<◌, ◌≤◌, Bool, true, false, List, length, refl, sym, ap, subst, ◌∙◌, arith, Option, Some, None, option_map, IfSome}
use Rattle.std.specs.Prelude.{◌-◌, ◌%◌, ◌^◌, ◌&&◌, min, nat_lt, if◌then◌else◌, slice_index}
use Rattle.std.specs.Option.{option_map_or}
use Rattle.std.proofs.Math.Nat.{le-mul_of_pos_right}
use Rattle.std.proofs.lemmas.Bool.{cases_lt, ltb-false}
use Rattle.pool_hall.specs.Tally.{rise}
use Rattle.pool_hall.specs.declared.view.View.{View}
use Rattle.pool_limits.specs.Exchanges.{Exchange}
use Rattle.pool_index.specs.Part.{affine_misses}
use Rattle.pool_index.specs.Shard.{ShardState, IsShard, Choice, affine_answer, affine_choice, after_affine_pick, after_choice, slot_and_bytes}
use Rattle.pool_index.specs.declared.ids.MemoryInModule.{MemoryInModule}
use Rattle.pool_index.specs.declared.ids.SlotId.{SlotId}
use Rattle.pool_index.proofs.Rounds.{rise_once}
use Rattle.pool_slots.specs.Parts.{part_at}
use Rattle.pool_slots.specs.Plans.{number_in}
use Rattle.pool_slots.specs.declared.part.PoolPart.{PoolPart}
use Rattle.pool_slots.specs.declared.part.PoolPart.TheVariants as part
use Rattle.pool_slots.specs.declared.plan.Allocator.{Allocator}
use Rattle.pool_slots.specs.declared.plan.Plan.{Plan}
use Rattle.pool_alloc.specs.BetweenSteps.{IsFirstPick, IsPicking, IsPoolPlan, IsShapedAt}
use Rattle.pool_alloc.specs.Calls.{begun_call}
use Rattle.pool_alloc.specs.CallStages.{stage_at, stage_of}
use Rattle.pool_alloc.specs.Objects.{objects_in}
use Rattle.pool_alloc.specs.PartyTold.{PartyTold}
use Rattle.pool_alloc.specs.Purges.{affine_picked, behind_memory, behind_stripe, behind_turn, found_one, has_turns, pick_affine_row, purge_to, purged_memory, purged_stripe}
use Rattle.pool_alloc.specs.StepReads.{StepGiven, shard_at, stripe_allocator}
use Rattle.pool_alloc.specs.StepTable.{row_of}
use Rattle.pool_alloc.specs.Targets.{next_target}
use Rattle.pool_alloc.specs.Turns.{After, Left, Turn, after, ends, goes, resting}
use Rattle.pool_alloc.specs.declared.frame.Call.{Call}
use Rattle.pool_alloc.specs.declared.frame.Call.TheVariants as call
use Rattle.pool_alloc.specs.declared.frame.Frame.{Frame}
use Rattle.pool_alloc.specs.declared.frame.Outcome.{Outcome}
use Rattle.pool_alloc.specs.declared.frame.Outcome.TheVariants as answer
use Rattle.pool_alloc.specs.declared.frame.Phase.{Phase}
use Rattle.pool_alloc.specs.declared.frame.Phase.TheVariants.{Purge}
use Rattle.pool_alloc.specs.declared.pool_core.PoolCore.{PoolCore}
use Rattle.pool_alloc.specs.declared.pool_core.Settings.{Settings}
use Rattle.pool_alloc.specs.declared.purge.PurgeCursor.{PurgeCursor}
use Rattle.pool_alloc.specs.declared.purge.PurgeStep.{PurgeStep}
use Rattle.pool_alloc.specs.declared.purge.PurgeStep.TheVariants.{Pick, TakeRegion, Forget, PutRegion, Free}
use Rattle.pool_alloc.specs.declared.step.targets.Target.TheVariants.{Part, Alone}
use Rattle.pool_alloc.proofs.PlanPlaces.{IsShardPlace, stripe_holds, stripe_is, stripe_role}
use Rattle.pool_alloc.proofs.PoolParts.{part_same, shard_part, sound_shard}
use Rattle.pool_driver.specs.Calling.{CallKind, MayAnswer, gives_back, kind_at, kind_of, purges}
use Rattle.pool_driver.specs.Driving.{SeesStep}
use Rattle.pool_driver.specs.Placed.{About, part_counts, pool_meaning}
use Rattle.pool_driver.specs.Purging.{AreFewer, HasMissed, HasPurged, IfPurged, PhaseMissed, ShardsMissed, StepMissed, StripesMissed}
use Rattle.pool_driver.specs.Telling.{HasMore, HasSoManyMore, HoldsMore, stripe_shard}
use Rattle.pool_driver.proofs.Holding.{holds_on, more_now, one_shard_more, one_stripe_more, same_holds, shards_held, stripes_held}
use Rattle.pool_driver.proofs.Naming.{PutAt, a_shard, left_is, placed_at, sees_more}
use Rattle.pool_driver.proofs.OtherKinds.{no_purge}

-- A shard without a slot of a memory counts that once more.
module _ (of : MemoryInModule) (s : ShardState) where
  none_chosen : affine_answer of s ≡ None → affine_choice (Some of) s ≡ None
  none_chosen = go (affine_choice (Some of) s)
    where
      go : (k : Option Choice) → option_map (λ c. (slot_and_bytes s c).0) k ≡ None → k ≡ None
      go None none = refl
      go (Some k) none = absurd cc

  miss_counted : IsShard s → affine_answer of s ≡ None → rise s.affine_misses (after_affine_pick of s).affine_misses ≡ 1
  miss_counted sound none =
      ap (λ (k : Option Choice). rise s.affine_misses (option_map_or (after_choice None s) k (record s { affine_misses = (s.affine_misses + 1) % 2 ^ 64 })).affine_misses) (none_chosen none)
      ∙ rise_once s.affine_misses sound.counts.1

-- Where a stripe has slots, there are slots of memories, and it has no more than a number of 64 bits.
module _ (plan : Plan) (places stripe : ℕ) (is : IsPoolPlan plan places) (below : stripe < length plan.memories) where
  abbrev a : Allocator
  a = stripe_allocator plan stripe

  slots_there : 0 < a.capacity → 0 < plan.totals.memory
  slots_there some = let there = (stripe_holds plan places stripe is below).below 0 some in omega (arith, there)

  slots_small : a.capacity < 2 ^ 64
  slots_small = ⊎_elim
      (λ (none : a.capacity < 1). omega (arith, none))
      (λ (some : 1 ≤ a.capacity).
      let last : ℕ = a.capacity - 1 in
      let apart : 0 < a.step = (stripe_holds plan places stripe is below).apart in
      let least : last ≤ last * a.step = le-mul_of_pos_right last apart in
      let there : number_in a last < plan.totals.memory = (stripe_holds plan places stripe is below).below last (omega (arith, some)) in
      let least_there : last < plan.totals.memory = omega (arith, least, there) in
      omega (arith, least_there, is.planned.inside.0, is.small))
      (cases_lt a.capacity 1)

-- A purge that finds one slot more found fewer before.
fewer_before : (plan : Plan) (n : ℕ) → n < 2 ^ 64 → AreFewer plan (min (n + 1) (2 ^ 64 - 1)) → AreFewer plan n
fewer_before plan n small fewer stripe below = omega (arith, fewer stripe below, small)

module _ {T P H : Type 0} (base w : View T) (plan : Plan) (per_module : ℕ) where
  -- What a turn of a purge says of the shards behind it, and what it leaves.
  abbrev TurnMissed : Turn P H → Type 0
  TurnMissed (goes phase) = PhaseMissed base w plan per_module phase
  TurnMissed (ends outcome) = IfPurged (HasMissed base w plan per_module) outcome
  TurnMissed _ = ⊥

  pub record LeftMissed (l : Left P H) : Type 0 where
    pub frame : PhaseMissed base w plan per_module l.frame.phase
    pub answer : IfSome l.outcome (IfPurged (HasMissed base w plan per_module))

  after_missed : (f : Frame P H) (turn : Turn P H) → TurnMissed turn → LeftMissed (after f turn)
  after_missed f (goes phase) k = record { frame = k; answer = tt }
  after_missed f (ends outcome) k = record { frame = tt; answer = k }
  after_missed f turn k = absurd k

module _ (P H : Type 0) {T : Type 0} (base w : View T) (plan : Plan) (per_module : ℕ) (began : HoldsMore base w) where
  -- what a turn of a purge says, of such a party
  abbrev Says : Turn P H → Type 0
  Says turn = TurnMissed {P = P} {H = H} base w plan per_module turn

  none_yet : (stripe n : ℕ) → ShardsMissed base w plan stripe n 0
  none_yet stripe n j below = let more = began.counts (stripe_shard plan stripe j) affine_misses in omega (arith, more)

  -- The turns behind a stripe whose shards missed each memory
  stripe_missed : (p : PurgeCursor) → p.purged < 2 ^ 64 → (AreFewer plan p.purged → StripesMissed base w plan (p.stripe + 1) per_module) → Says (purge_to p (behind_stripe plan p))
  stripe_missed p small had = go (nat_lt (p.stripe + 1) (length plan.memories)) refl
    where
      go : (b : Bool) → nat_lt (p.stripe + 1) (length plan.memories) ≡ b → Says (purge_to p (behind_stripe plan p))
      go true further = rw further (record { small = small; found = omega arith; before = had; stripe = λ fewer. none_yet (p.stripe + 1) (stripe_allocator plan (p.stripe + 1)).shards; shards = λ fewer j below. absurd (omega (arith, below)) })
      go false last =
          let most = ltb-false (p.stripe + 1) (length plan.memories) last in
          rw last (λ fewer stripe below. had fewer stripe (omega (arith, below, most)))

  -- and behind a memory that all shards of the stripe missed.
  memory_missed : (p : PurgeCursor) → p.purged < 2 ^ 64 → (AreFewer plan p.purged → StripesMissed base w plan p.stripe per_module) → (AreFewer plan p.purged → ShardsMissed base w plan p.stripe (stripe_allocator plan p.stripe).shards (p.memory + 1)) → Says (purge_to p (behind_memory per_module plan p))
  memory_missed p small had here = go (nat_lt (p.memory + 1) per_module) refl
    where
      go : (b : Bool) → nat_lt (p.memory + 1) per_module ≡ b → Says (purge_to p (behind_memory per_module plan p))
      go true further = rw further (record { small = small; found = omega arith; before = had; stripe = here; shards = λ fewer j below. absurd (omega (arith, below)) })
      go false last =
          let most = ltb-false (p.memory + 1) per_module last in
          rw last (stripe_missed p small (λ fewer. one_stripe_more base w plan affine_misses per_module (p.memory + 1) p.stripe (stripe_allocator plan p.stripe).shards (had fewer) (here fewer) (omega arith) most))

  -- The turn behind a slot that was freed. Where the stripe has no more slots, the purge found as many.
  turn_missed : (p : PurgeCursor) → p.stripe < length plan.memories → (stripe_allocator plan p.stripe).capacity < 2 ^ 64 → HasPurged base w plan per_module p 0 (p.turn + 1) → Says (purge_to p (behind_turn per_module plan p))
  turn_missed p inside few had = go (nat_lt (p.turn + 1) (purged_stripe plan p).capacity) refl
    where
      go : (b : Bool) → nat_lt (p.turn + 1) (purged_stripe plan p).capacity ≡ b → Says (purge_to p (behind_turn per_module plan p))
      go true further = rw further (record { small = had.small; found = had.found; before = had.before; stripe = had.stripe; shards = λ fewer j below. absurd (omega (arith, below)) })
      go false last =
          let most = ltb-false (p.turn + 1) (purged_stripe plan p).capacity last in
          rw last (memory_missed p had.small had.before (λ fewer. absurd (let less = fewer p.stripe inside in let found = had.found in omega (arith, less, found, most, few))))

  -- The turn behind a shard: it gave a slot, or it missed the memory.
  found_next : (p : PurgeCursor) (tried : ℕ) → HasPurged base w plan per_module p tried p.turn → HasPurged base w plan per_module (found_one p) 0 (p.turn + 1)
  found_next p tried had =
      let found = had.found in
      let small = had.small in
      record {
        small = omega (arith, small);
        found = omega (arith, found, small);
        before = λ fewer. had.before (fewer_before plan p.purged had.small fewer);
        stripe = λ fewer. had.stripe (fewer_before plan p.purged had.small fewer);
        shards = λ fewer j below. absurd (omega (arith, below));
      }

  shard_missed : (p : PurgeCursor) (o : Option SlotId) (shard : ShardState) (tried : ℕ) → HasPurged base w plan per_module p tried p.turn → (o ≡ None → AreFewer plan p.purged → ShardsMissed base w plan p.stripe (tried + 1) (p.memory + 1)) → Says (affine_picked per_module plan p o shard tried)
  shard_missed p (Some slot) shard tried had missed = found_next p tried had
  shard_missed p None shard tried had missed = go (nat_lt (tried + 1) (purged_stripe plan p).shards) refl
    where
      go : (b : Bool) → nat_lt (tried + 1) (purged_stripe plan p).shards ≡ b → Says (affine_picked per_module plan p None shard tried)
      go true further = rw further (record { small = had.small; found = had.found; before = had.before; stripe = had.stripe; shards = missed refl })
      go false last =
          let most = ltb-false (tried + 1) (purged_stripe plan p).shards last in
          rw last (memory_missed p had.small had.before (λ fewer j below. missed refl fewer j (omega (arith, below, most))))

-- A purge without turns: there are no memories to look for, or no slots.
without_turns : {T : Type 0} (base w : View T) (plan : Plan) (places per_module n : ℕ) → IsPoolPlan plan places → HoldsMore base w → has_turns per_module plan ≡ false → HasMissed base w plan per_module n
without_turns base w plan places per_module n is began none fewer stripe below j inside =
    let some : 0 < plan.totals.memory = slots_there plan places stripe is below (let less = fewer stripe below in omega (arith, less)) in
    let no_memory : nat_lt 0 per_module ≡ false = second some (nat_lt 0 plan.totals.memory) (nat_lt 0 per_module) refl none in
    let few = ltb-false 0 per_module no_memory in
    let more = began.counts (stripe_shard plan stripe j) affine_misses in
    omega (arith, few, more)
  where
    second : 0 < plan.totals.memory → (x y : Bool) → nat_lt 0 plan.totals.memory ≡ x → (x && y) ≡ false → y ≡ false
    second some true y is none = none
    second some false y is none = absurd (let no = ltb-false 0 plan.totals.memory is in omega (arith, no, some))

module _ {T P H : Type 0} (about : T → About) (inner : T → PoolPart P H) (Passes : List Exchange → Type 0) (old new : PartyTold) (a : About) (base v w : View T) (f next : Frame P H) (o : Option (Outcome P H)) (began : HoldsMore base v) (s : SeesStep about inner Passes old new a v w f next o) where
  -- the core on which the step was made, and the frame while it is
  abbrev c : PoolCore P H
  c = s.core

  abbrev e : Frame P H
  e = resting f

  abbrev given : StepGiven H
  given = s.row.0

  abbrev each : ℕ
  each = c.settings.max_memories_per_module

  more : HoldsMore v w
  more = sees_more about inner Passes old new a v w f next o s

  began_after : HoldsMore base w
  began_after = holds_on base v w began more

  -- what was missed stays so
  purged_held : (p : PurgeCursor) (tried turns : ℕ) → HasPurged base v c.plan each p tried turns → HasPurged base w c.plan each p tried turns
  purged_held p tried turns had = record {
    small = had.small;
    found = had.found;
    before = λ fewer. stripes_held base v w more c.plan affine_misses each p.stripe (had.before fewer);
    stripe = λ fewer. shards_held base v w more c.plan affine_misses p.memory p.stripe (stripe_allocator c.plan p.stripe).shards (had.stripe fewer);
    shards = λ fewer. shards_held base v w more c.plan affine_misses (p.memory + 1) p.stripe tried (had.shards fewer);
  }

  shape : (p : Phase P H) → f.phase ≡ p → IsShapedAt a.maker c.settings c.plan p f
  shape p is = subst (λ (q : Phase P H). IsShapedAt a.maker c.settings c.plan q f) is s.can.frame.shape

  -- A shard is asked for a slot of the memory.
  module _ (p : PurgeCursor) (tried : ℕ) (is : f.phase ≡ Purge p (Pick tried)) (turns : has_turns each c.plan ≡ true) (purging : p.stripe < length c.plan.memories) (inside : tried < (purged_stripe c.plan p).shards) where
    abbrev place : ℕ
    place = stripe_shard c.plan p.stripe tried

    abbrev shard : ShardState
    shard = shard_at place c

    target : next_target c.settings c.plan (Purge p (Pick tried)) f ≡ Part place
    target = ap (λ (b : Bool). if b then Part place else Alone) turns

    put : PutAt about inner Passes old new a v w f next o place s.core s.left
    put = placed_at about inner Passes old new a v w f next o s (Purge p (Pick tried)) place is target

    role : IsShardPlace c.plan place
    role = record { allocator = stripe_allocator c.plan p.stripe; index = tried; role = stripe_role c.plan (length c.parts) p.stripe tried s.can.core.plan purging inside }

    sound : IsShard shard
    sound = sound_shard a.maker place c s.can.core role

    was : inner put.before ≡ part.Shard shard
    was = sym put.was ∙ a_shard (part_at place c.parts) (shard_part a.maker place c s.can.core role).part

    now : inner put.after ≡ part.Shard (after_affine_pick (purged_memory p) shard)
    now =
        sym put.is
        ∙ ap (λ (z : PoolCore P H). part_at place z.parts) (left_is about inner Passes old new a v w f next o s (Purge p (Pick tried)) is)
        ∙ ap (λ (b : Bool). part_at place (pick_affine_row b p tried c e).part.parts) turns
        ∙ part_same place _ c (shard_part a.maker place c s.can.core role).inside

    missed_here : affine_answer (purged_memory p) shard ≡ None → HasMore v w place affine_misses
    missed_here none = more_now (pool_meaning about inner) place put.before put.after v w put.put v affine_misses (same_holds v v refl)
        ((λ i. rise (slice_index (part_counts (was i)) affine_misses) (slice_index (part_counts (now i)) affine_misses)) ∙ miss_counted (purged_memory p) shard sound none)

    shards_next : HasPurged base v c.plan each p tried p.turn → affine_answer (purged_memory p) shard ≡ None → AreFewer c.plan p.purged → ShardsMissed base w c.plan p.stripe (tried + 1) (p.memory + 1)
    shards_next had none fewer =
        let so_far : HasSoManyMore base v place affine_misses p.memory = had.stripe fewer tried inside in
        let once : HasMore v w place affine_misses = missed_here none in
        one_shard_more base w c.plan affine_misses (p.memory + 1) p.stripe tried (shards_held base v w more c.plan affine_misses (p.memory + 1) p.stripe tried (had.shards fewer)) (omega (arith, so_far, once))

  -- what a turn says after the step
  abbrev Says' : Turn P H → Type 0
  Says' turn = TurnMissed {P = P} {H = H} base w c.plan each turn

  picked_missed : (p : PurgeCursor) (tried : ℕ) → f.phase ≡ Purge p (Pick tried) → HasPurged base v c.plan each p tried p.turn → (b : Bool) → has_turns each c.plan ≡ b → Says' (pick_affine_row b p tried c e).turn
  picked_missed p tried is had true turns =
      let at : (p.stripe < length c.plan.memories) × (tried < (purged_stripe c.plan p).shards) = at_shard p tried (shape (Purge p (Pick tried)) is).1 in
      shard_missed P H base w c.plan each began_after p (affine_answer (purged_memory p) (shard p tried is turns at.0 at.1)) (shard p tried is turns at.0 at.1) tried (purged_held p tried p.turn had) (shards_next p tried is turns at.0 at.1 had)
    where
      at_shard : (p : PurgeCursor) (tried : ℕ) → IsFirstPick p tried ⊎ IsPicking c.settings c.plan p tried → (p.stripe < length c.plan.memories) × (tried < (purged_stripe c.plan p).shards)
      at_shard p tried = ⊎_elim
          (λ (first : IsFirstPick p tried).
          let stripes = s.can.core.plan.stripes in
          let below : p.stripe < length c.plan.memories = (let no = first.stripe in omega (arith, no, stripes)) in
          let some = (stripe_is c.plan (length c.parts) p.stripe s.can.core.plan below).some in
          (below, (let no = first.first in omega (arith, no, some))))
          (λ (picking : IsPicking c.settings c.plan p tried). (picking.purging.stripe, picking.tried))
  picked_missed p tried is had false none = without_turns base w c.plan (length c.parts) each p.purged s.can.core.plan began_after none

  abbrev RowOf : PurgeCursor → PurgeStep P → Type 0
  RowOf p step = Says' (row_of given (Purge p step) c e).turn

  row_missed : (p : PurgeCursor) (step : PurgeStep P) → f.phase ≡ Purge p step → StepMissed base v c.plan each p step → RowOf p step
  row_missed p (Pick tried) is had = picked_missed p tried is had (has_turns each c.plan) refl
  row_missed p (TakeRegion name) is had = purged_held p 0 (p.turn + 1) had
  row_missed p (Forget at held) is had = purged_held p 0 (p.turn + 1) had
  row_missed p (PutRegion at held) is had = purged_held p 0 (p.turn + 1) had
  row_missed p (Free name) is had =
      let inside : p.stripe < length c.plan.memories = (shape (Purge p (Free name)) is).1.0.stripe in
      turn_missed P H base w c.plan each began_after p inside (slots_small c.plan (length c.parts) p.stripe s.can.core.plan inside) (purged_held p 0 (p.turn + 1) had)

  abbrev Left' : ℕ → Plan → Left P H → Type 0
  Left' n plan l = LeftMissed {P = P} {H = H} base w plan n l

  -- What is known of the shards behind a step of a purge is known after it, and of its answer. Another call is no purge.
  pub missed_step : PhaseMissed base v a.plan a.settings.max_memories_per_module f.phase → LeftMissed {P = P} {H = H} base w a.plan a.settings.max_memories_per_module (record { frame = next; outcome = o }) ⊎ (kind_at (stage_of f) ≡ purges → ⊥)
  missed_step had = go f.phase refl (subst (λ (z : Settings). PhaseMissed base v c.plan z.max_memories_per_module f.phase) (sym s.settings) (subst (λ (plan : Plan). PhaseMissed base v plan a.settings.max_memories_per_module f.phase) (sym s.plan) had))
    where
      go : (p : Phase P H) → f.phase ≡ p → PhaseMissed base v c.plan each p → LeftMissed {P = P} {H = H} base w a.plan a.settings.max_memories_per_module (record { frame = next; outcome = o }) ⊎ (kind_at (stage_of f) ≡ purges → ⊥)
      go (Purge p step) is had = inl (subst (λ (z : Settings). Left' z.max_memories_per_module a.plan (record { frame = next; outcome = o })) s.settings
          (subst (λ (plan : Plan). Left' each plan (record { frame = next; outcome = o })) s.plan
          (subst (λ (z : After P H). Left' each c.plan (record { frame = z.frame; outcome = z.outcome })) (sym s.row.1.0.is)
          (subst (λ (q : Phase P H). Left' each c.plan (after (row_of given q c e).frame (row_of given q c e).turn)) (sym is)
          (after_missed base w c.plan each (row_of given (Purge p step) c e).frame (row_of given (Purge p step) c e).turn (row_missed p step is had))))))
      go p is had = inr (λ (of : kind_at (stage_of f) ≡ purges). no_purge p f.asked f.ending (objects_in f.objects) tt (sym (ap (λ (q : Phase P H). kind_at (stage_at q f.asked f.ending (objects_in f.objects))) is) ∙ of))

-- Of a call that is none nothing is to be known.
module _ {T P H : Type 0} (base w : View T) (plan : Plan) (per_module : ℕ) where
  pub none_missed_on : (f : Frame P H) → (kind_at (stage_of f) ≡ purges → ⊥) → PhaseMissed base w plan per_module f.phase
  none_missed_on f other = go f.phase refl
    where
      go : (p : Phase P H) → f.phase ≡ p → PhaseMissed base w plan per_module p
      go (Purge p step) is = absurd (other (ap (λ (q : Phase P H). kind_at (stage_at q f.asked f.ending (objects_in f.objects))) is))
      go p is = tt

  pub none_missed_last : (k : CallKind) (o : Outcome P H) → MayAnswer k o → (k ≡ purges → ⊥) → IfPurged (HasMissed base w plan per_module) o
  none_missed_last purges (answer.Purged n) may other = absurd (other refl)
  none_missed_last k (answer.Purged n) may other = absurd may
  none_missed_last k o may other = tt

-- What is known of a call that begins.
pub missed_begins : {T P H : Type 0} (v : View T) (plan : Plan) (per_module : ℕ) (begun : Call P H) (f : Frame P H) → kind_at (stage_of (begun_call begun f)) ≡ kind_of begun → PhaseMissed v v plan per_module (begun_call begun f).phase
missed_begins v plan per_module call.Key f kind = tt
missed_begins v plan per_module (call.Module m) f kind = tt
missed_begins v plan per_module (call.Component info) f kind = tt
missed_begins v plan per_module (call.Memory m) f kind = tt
missed_begins v plan per_module (call.Table ty) f kind = tt
missed_begins v plan per_module call.Stack f kind = tt
missed_begins v plan per_module (call.Heap ty) f kind = tt
missed_begins v plan per_module (call.HeapOver memory) f kind = tt
missed_begins v plan per_module (call.GiveBack grant) f kind = none_missed_on v v plan per_module (begun_call (call.GiveBack grant) f) (λ on. let apart : gives_back ≡ purges = sym kind ∙ on in absurd cc)
missed_begins v plan per_module (call.Purge id) f kind = record {
  small = omega arith;
  found = omega arith;
  before = λ fewer stripe below. absurd (omega (arith, below));
  stripe = λ fewer j below. omega arith;
  shards = λ fewer j below. absurd (omega (arith, below));
}
missed_begins v plan per_module call.Release f kind = tt
