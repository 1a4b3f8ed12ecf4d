-- A release takes the warm slots of one shard of memories after the other, and each notes that. So they all have when it ends.
use Rattle.std.proofs.Common.{◌≡◌, ◌⊎◌, inl, inr, ℕ, ◌+◌, Bool, true, false, List, [], ◌∷◌, length, refl, sym, ap, subst, ◌∙◌, arith, Option, IfSome}
use Rattle.std.specs.Prelude.{nat_lt, slice_index}
use Rattle.std.proofs.lemmas.Bool.{ltb-false}
use Rattle.pool_hall.specs.Tally.{rise}
use Rattle.pool_hall.specs.declared.view.View.{View}
use Rattle.pool_limits.specs.Exchanges.{Exchange}
use Rattle.pool_index.specs.Part.{warm_takes}
use Rattle.pool_index.specs.Shard.{ShardState, IsShard, after_take_warm}
use Rattle.pool_index.proofs.Rounds.{rise_once}
use Rattle.pool_slots.specs.Parts.{part_at}
use Rattle.pool_slots.specs.declared.part.PoolPart.{PoolPart}
use Rattle.pool_slots.specs.declared.part.PoolPart.TheVariants as part
use Rattle.pool_slots.specs.declared.plan.Plan.{Plan}
use Rattle.pool_alloc.specs.BetweenSteps.{IsShapedAt}
use Rattle.pool_alloc.specs.Calls.{begun_call}
use Rattle.pool_alloc.specs.CallStages.{stage_at, stage_of}
use Rattle.pool_alloc.specs.Objects.{objects_in}
use Rattle.pool_alloc.specs.PartyTold.{PartyTold}
use Rattle.pool_alloc.specs.Releases.{behind_stripe, drain_at, free_first, released_stripe, reserve_row, releasing, taking, warm_taken}
use Rattle.pool_alloc.specs.StepReads.{StepGiven, shard_at, stripe_allocator}
use Rattle.pool_alloc.specs.StepTable.{row_of}
use Rattle.pool_alloc.specs.Turns.{After, Left, Turn, after, ends, goes, resting}
use Rattle.pool_alloc.specs.declared.frame.Call.{Call}
use Rattle.pool_alloc.specs.declared.frame.Call.TheVariants as call
use Rattle.pool_alloc.specs.declared.frame.Frame.{Frame}
use Rattle.pool_alloc.specs.declared.frame.FreedSlot.{FreedSlot}
use Rattle.pool_alloc.specs.declared.frame.Outcome.{Outcome}
use Rattle.pool_alloc.specs.declared.frame.Outcome.TheVariants as answer
use Rattle.pool_alloc.specs.declared.frame.Phase.{Phase}
use Rattle.pool_alloc.specs.declared.frame.Phase.TheVariants.{Release}
use Rattle.pool_alloc.specs.declared.pool_core.PoolCore.{PoolCore}
use Rattle.pool_alloc.specs.declared.release.ReleaseCursor.{ReleaseCursor}
use Rattle.pool_alloc.specs.declared.release.ReleaseStep.{ReleaseStep}
use Rattle.pool_alloc.specs.declared.release.ReleaseStep.TheVariants.{Reserve, TakeWarm, TakeRegion, Decommit, PutRegion, Free}
use Rattle.pool_alloc.proofs.PlanPlaces.{IsShardPlace, stripe_role}
use Rattle.pool_alloc.proofs.PoolParts.{part_same, shard_part, sound_shard}
use Rattle.pool_driver.specs.Calling.{CallKind, MayAnswer, gives_back, kind_at, kind_of, releases}
use Rattle.pool_driver.specs.Driving.{SeesStep}
use Rattle.pool_driver.specs.Placed.{About, part_counts, pool_meaning}
use Rattle.pool_driver.specs.Releasing.{HasTakenWarm, IfReleased, PhaseTaken, ShardsTaken, StepTaken, StripesTaken}
use Rattle.pool_driver.specs.Telling.{HasMore, HoldsMore, stripe_shard}
use Rattle.pool_driver.proofs.Holding.{more_now, one_shard_more, one_stripe_more, shards_held, stripes_held}
use Rattle.pool_driver.proofs.Naming.{PutAt, a_shard, left_is, placed_at, sees_more}
use Rattle.pool_driver.proofs.OtherKinds.{no_release}

module _ {T P H : Type 0} (base w : View T) (plan : Plan) where
  -- What a turn of a release says of the shards behind it, and what it leaves.
  abbrev TurnTaken : Turn P H → Type 0
  TurnTaken (goes phase) = PhaseTaken base w plan phase
  TurnTaken (ends outcome) = IfReleased (HasTakenWarm base w plan) outcome
  TurnTaken _ = ⊥

  pub record LeftTaken (l : Left P H) : Type 0 where
    pub frame : PhaseTaken base w plan l.frame.phase
    pub answer : IfSome l.outcome (IfReleased (HasTakenWarm base w plan))

  after_taken : (f : Frame P H) (turn : Turn P H) → TurnTaken turn → LeftTaken (after f turn)
  after_taken f (goes phase) k = record { frame = k; answer = tt }
  after_taken f (ends outcome) k = record { frame = tt; answer = k }
  after_taken f turn k = absurd k

module _ (P H : Type 0) {T : Type 0} (base w : View T) (plan : Plan) where
  -- what a turn of a release says, of such a party
  abbrev Says : Turn P H → Type 0
  Says turn = TurnTaken {P = P} {H = H} base w plan turn

  -- The turns behind a stripe whose shards gave their warm slots
  stripe_taken : (r : ReleaseCursor) → StripesTaken base w plan (r.stripe + 1) → Says (behind_stripe plan r)
  stripe_taken r had = go (nat_lt (r.stripe + 1) (length plan.memories)) refl
    where
      go : (b : Bool) → nat_lt (r.stripe + 1) (length plan.memories) ≡ b → Says (behind_stripe plan r)
      go true more = rw more (had, λ j below. absurd (omega (arith, below)))
      go false last =
          let most = ltb-false (r.stripe + 1) (length plan.memories) last in
          rw last (λ stripe below. had stripe (omega (arith, below, most)))

  free_taken : (slots : List FreedSlot) (r : ReleaseCursor) → StripesTaken base w plan (r.stripe + 1) → Says (free_first plan slots r)
  free_taken [] r had = stripe_taken r had
  free_taken (x ∷ rest) r had = had

  drained_taken : (r : ReleaseCursor) (k : ℕ) → StripesTaken base w plan (r.stripe + 1) → Says (drain_at plan r k)
  drained_taken r k had = go (nat_lt k (length r.taken.items)) refl
    where
      go : (b : Bool) → nat_lt k (length r.taken.items) ≡ b → Says (drain_at plan r k)
      go true more = rw more had
      go false none = rw none (free_taken r.taken.items r had)

  -- The turn behind a shard.
  warm_next : (r : ReleaseCursor) (j : ℕ) → StripesTaken base w plan r.stripe → ShardsTaken base w plan r.stripe (j + 1) → Says (warm_taken plan r j)
  warm_next r j had here = go (nat_lt (j + 1) (released_stripe plan r).shards) refl
    where
      go : (b : Bool) → nat_lt (j + 1) (released_stripe plan r).shards ≡ b → Says (warm_taken plan r j)
      go true more = rw more (had, here)
      go false last = rw last (drained_taken r _ (one_stripe_more base w plan warm_takes 1 1 r.stripe (j + 1) had here (ltb-false (j + 1) (released_stripe plan r).shards last) (omega arith)))

module _ {T P H : Type 0} (about : T → About) (inner : T → PoolPart P H) (Passes : List Exchange → Type 0) (old new : PartyTold) (a : About) (base v w : View T) (f next : Frame P H) (o : Option (Outcome P H)) (began : HoldsMore base v) (s : SeesStep about inner Passes old new a v w f next o) where
  -- the core on which the step was made, and the frame while it is
  abbrev c : PoolCore P H
  c = s.core

  abbrev e : Frame P H
  e = resting f

  abbrev given : StepGiven H
  given = s.row.0

  more : HoldsMore v w
  more = sees_more about inner Passes old new a v w f next o s

  stripes_on : (n : ℕ) → StripesTaken base v c.plan n → StripesTaken base w c.plan n
  stripes_on n had = stripes_held base v w more c.plan warm_takes 1 n had

  -- The shard that a release is at gives its warm slots, and counts that.
  module _ (r : ReleaseCursor) (j : ℕ) (is : f.phase ≡ Release (TakeWarm r j)) where
    abbrev place : ℕ
    place = stripe_shard c.plan r.stripe j

    abbrev shard : ShardState
    shard = shard_at place c

    put : PutAt about inner Passes old new a v w f next o place s.core s.left
    put = placed_at about inner Passes old new a v w f next o s (Release (TakeWarm r j)) place is refl

    shape : IsShapedAt a.maker c.settings c.plan (Release (TakeWarm r j)) f
    shape = subst (λ (q : Phase P H). IsShapedAt a.maker c.settings c.plan q f) is s.can.frame.shape

    role : IsShardPlace c.plan place
    role = record { allocator = stripe_allocator c.plan r.stripe; index = j; role = stripe_role c.plan (length c.parts) r.stripe j s.can.core.plan shape.1.0.stripe shape.1.1 }

    sound : IsShard shard
    sound = sound_shard a.maker place c s.can.core role

    was : inner put.before ≡ part.Shard shard
    was = sym put.was ∙ a_shard (part_at place c.parts) (shard_part a.maker place c s.can.core role).part

    now : inner put.after ≡ part.Shard (after_take_warm shard)
    now =
        sym put.is
        ∙ ap (λ (z : PoolCore P H). part_at place z.parts) (left_is about inner Passes old new a v w f next o s (Release (TakeWarm r j)) is)
        ∙ part_same place _ c (shard_part a.maker place c s.can.core role).inside

    taken_here : HasMore base w place warm_takes
    taken_here = more_now (pool_meaning about inner) place put.before put.after v w put.put base warm_takes began
        ((λ i. rise (slice_index (part_counts (was i)) warm_takes) (slice_index (part_counts (now i)) warm_takes)) ∙ rise_once shard.warm_takes sound.counts.2)

    shards_next : ShardsTaken base v c.plan r.stripe j → ShardsTaken base w c.plan r.stripe (j + 1)
    shards_next had = one_shard_more base w c.plan warm_takes 1 r.stripe j (shards_held base v w more c.plan warm_takes 1 r.stripe j had) taken_here

  abbrev Row : ReleaseStep P → Type 0
  Row step = TurnTaken {P = P} {H = H} base w c.plan (row_of given (Release step) c e).turn

  reserved : (b : Bool) → TurnTaken {P = P} {H = H} base w c.plan (reserve_row {P = P} {H = H} b c e).turn
  reserved true = tt
  reserved false = (λ stripe below. absurd (omega (arith, below)), λ j below. absurd (omega (arith, below)))

  row_taken : (step : ReleaseStep P) → f.phase ≡ Release step → StepTaken base v c.plan step → Row step
  row_taken Reserve is had = reserved given.wants
  row_taken (TakeWarm r j) is had = warm_next P H base w c.plan (taking (shard r j is) r) j (stripes_on r.stripe had.0) (shards_next r j is had.1)
  row_taken (TakeRegion r k) is had = stripes_on (r.stripe + 1) had
  row_taken (Decommit r k at held) is had = stripes_on (r.stripe + 1) had
  row_taken (PutRegion r k at held) is had = drained_taken P H base w c.plan r _ (stripes_on (r.stripe + 1) had)
  row_taken (Free r x) is had = free_taken P H base w c.plan r.taken.items (releasing r x) (stripes_on (r.stripe + 1) had)

  -- What is known of the shards behind a step of a release is known after it, and of its answer. Another call is no release.
  pub taken_step : PhaseTaken base v a.plan f.phase → LeftTaken {P = P} {H = H} base w a.plan (record { frame = next; outcome = o }) ⊎ (kind_at (stage_of f) ≡ releases → ⊥)
  taken_step had = go f.phase refl (subst (λ (plan : Plan). PhaseTaken base v plan f.phase) (sym s.plan) had)
    where
      go : (p : Phase P H) → f.phase ≡ p → PhaseTaken base v c.plan p → LeftTaken {P = P} {H = H} base w a.plan (record { frame = next; outcome = o }) ⊎ (kind_at (stage_of f) ≡ releases → ⊥)
      go (Release step) is had = inl (subst (λ (plan : Plan). LeftTaken {P = P} {H = H} base w plan (record { frame = next; outcome = o })) s.plan
          (subst (λ (z : After P H). LeftTaken {P = P} {H = H} base w c.plan (record { frame = z.frame; outcome = z.outcome })) (sym s.row.1.0.is)
          (subst (λ (q : Phase P H). LeftTaken {P = P} {H = H} base w c.plan (after (row_of given q c e).frame (row_of given q c e).turn)) (sym is)
          (after_taken base w c.plan (row_of given (Release step) c e).frame (row_of given (Release step) c e).turn (row_taken step is had)))))
      go p is had = inr (λ (of : kind_at (stage_of f) ≡ releases). no_release p f.asked f.ending (objects_in f.objects) tt (sym (ap (λ (q : Phase P H). kind_at (stage_at q f.asked f.ending (objects_in f.objects))) is) ∙ of))

-- Of a call that is none nothing is to be known.
module _ {T P H : Type 0} (base w : View T) (plan : Plan) where
  pub none_taken_on : (f : Frame P H) → (kind_at (stage_of f) ≡ releases → ⊥) → PhaseTaken base w plan f.phase
  none_taken_on f other = go f.phase refl
    where
      of_step : (step : ReleaseStep P) → (kind_at (stage_at {P = P} {H = H} (Release step) f.asked f.ending (objects_in f.objects)) ≡ releases → ⊥) → StepTaken base w plan step
      of_step Reserve other = tt
      of_step (TakeWarm r j) other = absurd (other refl)
      of_step (TakeRegion r k) other = absurd (other refl)
      of_step (Decommit r k at held) other = absurd (other refl)
      of_step (PutRegion r k at held) other = absurd (other refl)
      of_step (Free r x) other = absurd (other refl)

      go : (p : Phase P H) → f.phase ≡ p → PhaseTaken base w plan p
      go (Release step) is = of_step step (λ on. other (ap (λ (q : Phase P H). kind_at (stage_at q f.asked f.ending (objects_in f.objects))) is ∙ on))
      go p is = tt

  pub none_taken_last : (k : CallKind) (o : Outcome P H) → MayAnswer k o → (k ≡ releases → ⊥) → IfReleased (HasTakenWarm base w plan) o
  none_taken_last releases (answer.Released n) may other = absurd (other refl)
  none_taken_last k (answer.Released n) may other = absurd may
  none_taken_last k o may other = tt

  -- What is known of a call that begins.
  pub taken_begins : (begun : Call P H) (f : Frame P H) → kind_at (stage_of (begun_call begun f)) ≡ kind_of begun → PhaseTaken base w plan (begun_call begun f).phase
  taken_begins call.Key f kind = tt
  taken_begins (call.Module m) f kind = tt
  taken_begins (call.Component info) f kind = tt
  taken_begins (call.Memory m) f kind = tt
  taken_begins (call.Table ty) f kind = tt
  taken_begins call.Stack f kind = tt
  taken_begins (call.Heap ty) f kind = tt
  taken_begins (call.HeapOver memory) f kind = tt
  taken_begins (call.GiveBack grant) f kind = none_taken_on (begun_call (call.GiveBack grant) f) (λ on. let apart : gives_back ≡ releases = sym kind ∙ on in absurd cc)
  taken_begins (call.Purge id) f kind = tt
  taken_begins call.Release f kind = tt
