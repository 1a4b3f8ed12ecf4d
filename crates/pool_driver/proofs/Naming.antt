-- What a seat's view has noted of a step, by what the frame's phase names: a part, a counter, or nothing. In each case nothing falls.
use Rattle.std.proofs.Common.{◌≡◌, ℕ, List, ◌<◌, length, sym, refl, ap, subst, ◌∙◌, Option}
use Rattle.std.specs.Prelude.{◌^◌, slice_index}
use Rattle.pool_limits.specs.Exchanges.{Exchange}
use Rattle.pool_hall.specs.Step.{add_view, subtract_view, put_view}
use Rattle.pool_hall.specs.declared.view.View.{View}
use Rattle.pool_index.specs.Part.{cold_picks}
use Rattle.pool_index.specs.Shard.{IsShard, after_pick}
use Rattle.pool_slots.specs.Parts.{part_at, IsShardPart}
use Rattle.pool_slots.specs.SlotQueues.{after_take}
use Rattle.pool_slots.specs.declared.part.PoolPart.{PoolPart}
use Rattle.pool_slots.specs.declared.part.PoolPart.TheVariants as part
use Rattle.pool_slots.specs.declared.plan.Plan.{Plan}
use Rattle.pool_alloc.specs.PartyTold.{PartyTold}
use Rattle.pool_alloc.specs.StepTable.{row_of}
use Rattle.pool_alloc.specs.StepReads.{IsQueuePart, shard_in, queue_in, shard_at, queue_at, shard_tried, queue_tried, wanted, with_part}
use Rattle.pool_alloc.specs.Targets.{next_target, number_at}
use Rattle.pool_alloc.specs.Turns.{After, resting}
use Rattle.pool_alloc.specs.declared.counters.CounterName.{CounterName}
use Rattle.pool_alloc.specs.declared.frame.Frame.{Frame}
use Rattle.pool_alloc.specs.declared.frame.Outcome.{Outcome}
use Rattle.pool_alloc.specs.declared.frame.Phase.{Phase}
use Rattle.pool_alloc.specs.declared.frame.Phase.TheVariants.{Pick, TakeQueue}
use Rattle.pool_alloc.specs.declared.pool_core.PoolCore.{PoolCore}
use Rattle.pool_alloc.specs.declared.pool_core.Settings.{Settings}
use Rattle.pool_alloc.specs.declared.step.targets.Target.{Target}
use Rattle.pool_alloc.specs.declared.step.targets.Target.TheVariants.{Part, Up, Down, Alone}
use Rattle.pool_alloc.proofs.PlanPlaces.{tried_is_shard, tried_is_queue}
use Rattle.pool_alloc.proofs.PoolParts.{part_same, shard_part, queue_part, sound_shard}
use Rattle.pool_driver.specs.Driving.{Change, changed, counted, uncounted, unchanged, counter_number, Decides, view_after, IsChangeOf, SeesStep}
use Rattle.pool_driver.specs.Placed.{About, part_counts, pool_meaning, IsSmall}
use Rattle.pool_driver.specs.Telling.{HoldsMore, queue_takes}
use Rattle.pool_driver.proofs.Holding.{put_holds, add_holds, subtract_holds, same_holds}

-- of which counter a step is, or else this one; and of which place
abbrev named_by : CounterName → Target → CounterName
named_by name (Up other) = other
named_by name (Down other) = other
named_by name _ = name

abbrev place_by : Target → ℕ
place_by (Part place) = place
place_by _ = 0

module _ {P H : Type 0} where
  -- A shard is told from its part.
  pub a_shard : (x : PoolPart P H) → IsShardPart x → x ≡ part.Shard (shard_in x)
  a_shard (part.Shard s) is = refl
  a_shard (part.Memory cell) is = absurd is
  a_shard (part.Table cell) is = absurd is
  a_shard (part.Stack cell) is = absurd is
  a_shard (part.Queue q) is = absurd is
  a_shard (part.Heaps heaps) is = absurd is

  a_queue : (x : PoolPart P H) → IsQueuePart x → x ≡ part.Queue (queue_in x)
  a_queue (part.Shard s) is = absurd is
  a_queue (part.Memory cell) is = absurd is
  a_queue (part.Table cell) is = absurd is
  a_queue (part.Stack cell) is = absurd is
  a_queue (part.Queue q) is = refl
  a_queue (part.Heaps heaps) is = absurd is

module _ {T P H : Type 0} (about : T → About) (inner : T → PoolPart P H) (Passes : List Exchange → Type 0) (old new : PartyTold) (a : About) (v w : View T) (f next : Frame P H) (o : Option (Outcome P H)) where
  change_more : (ch : Change T) → w ≡ view_after about inner ch v → HoldsMore v w
  change_more (changed p x y) is = put_holds (pool_meaning about inner) p x y v w is
  change_more (counted name found) is = add_holds (counter_number name) found v w is
  change_more (uncounted name) is = subtract_holds (counter_number name) 0 v w is
  change_more unchanged is = same_holds v w is

  -- Nothing that a seat knows is lost in a step.
  pub sees_more : SeesStep about inner Passes old new a v w f next o → HoldsMore v w
  sees_more s = change_more s.change s.view

  change_limits : (ch : Change T) → w ≡ view_after about inner ch v → w.limits ≡ v.limits
  change_limits (changed p x y) is = ap (λ (z : View T). z.limits) is
  change_limits (counted name found) is = ap (λ (z : View T). z.limits) is
  change_limits (uncounted name) is = ap (λ (z : View T). z.limits) is
  change_limits unchanged is = ap (λ (z : View T). z.limits) is

  -- The limits of the counters stay.
  pub sees_limits : SeesStep about inner Passes old new a v w f next o → w.limits ≡ v.limits
  sees_limits s = change_limits s.change s.view

  -- A part was put at a place, and was and is there what the core has.
  pub record PutAt (place : ℕ) (c d : PoolCore P H) : Type 0 where
    pub before : T
    pub after : T
    pub put : w ≡ put_view (pool_meaning about inner) place before after v
    pub was : part_at place c.parts ≡ inner before
    pub is : part_at place d.parts ≡ inner after
    pub small : IsSmall (inner before)
    pub small_after : IsSmall (inner after)

  put_named : (place p : ℕ) (x y : T) (c d : PoolCore P H) → p ≡ place → w ≡ put_view (pool_meaning about inner) p x y v → p < length c.parts → part_at p c.parts ≡ inner x → d ≡ with_part p (inner y) c → IsSmall (inner x) → IsSmall (inner y) → PutAt place c d
  put_named place p x y c d at put inside was is small small_after = subst (λ (q : ℕ). PutAt q c d) at (record {
    before = x;
    after = y;
    put = put;
    was = was;
    is = ap (λ (z : PoolCore P H). part_at p z.parts) is ∙ part_same p (inner y) c inside;
    small = small;
    small_after = small_after;
  })

  -- a step changes what the phase names in the core
  module _ (s : SeesStep about inner Passes old new a v w f next o) where
    -- what the step changed, by the core's settings and plan
    pub target_of : (p : Phase P H) → f.phase ≡ p → next_target a.settings a.plan f.phase f ≡ next_target s.core.settings s.core.plan p f
    target_of p is = ap (λ (k : Settings). next_target k a.plan f.phase f) (sym s.settings) ∙ ap (λ (k : Plan). next_target s.core.settings k f.phase f) (sym s.plan) ∙ ap (λ (q : Phase P H). next_target s.core.settings s.core.plan q f) is

    abbrev Of : Target → Change T → Type 0
    Of target ch = IsChangeOf about inner ch target s.core s.left

    of_target : (p : Phase P H) (target : Target) → f.phase ≡ p → next_target s.core.settings s.core.plan p f ≡ target → Of target s.change
    of_target p target is at = subst (λ (x : Target). Of x s.change) (target_of p is ∙ at) s.of

    -- nothing,
    pub unchanged_at : (p : Phase P H) → f.phase ≡ p → next_target s.core.settings s.core.plan p f ≡ Alone → w ≡ v
    unchanged_at p is at = go s.change (of_target p Alone is at) s.view
      where
        go : (ch : Change T) → Of Alone ch → w ≡ view_after about inner ch v → w ≡ v
        go (changed p x y) of view = absurd (let e = of.0 in cc)
        go (counted name found) of view = absurd (let e = of.0 in cc)
        go (uncounted name) of view = absurd (let e = of.0 in cc)
        go unchanged of view = view

    -- a counter that counts up, as it was found,
    pub counted_at : (p : Phase P H) (name : CounterName) → f.phase ≡ p → next_target s.core.settings s.core.plan p f ≡ Up name → (found : ℕ) × (w ≡ add_view (counter_number name) found v) × Decides name found (number_at name s.core.counters)
    counted_at p name is at = go s.change (of_target p (Up name) is at) s.view
      where
        go : (ch : Change T) → Of (Up name) ch → w ≡ view_after about inner ch v → (found : ℕ) × (w ≡ add_view (counter_number name) found v) × Decides name found (number_at name s.core.counters)
        go (changed p x y) of view = absurd (let e = of.0 in cc)
        go (counted other found) of view =
            let same : other ≡ name = sym (ap (named_by name) of.0) in
            (found, view ∙ ap (λ (k : CounterName). add_view (counter_number k) found v) same, subst (λ (k : CounterName). Decides k found (number_at k s.core.counters)) same of.1)
        go (uncounted other) of view = absurd (let e = of.0 in cc)
        go unchanged of view = absurd (let e = of.0 in cc)

    -- or down,
    pub uncounted_at : (p : Phase P H) (name : CounterName) → f.phase ≡ p → next_target s.core.settings s.core.plan p f ≡ Down name → w ≡ subtract_view (counter_number name) v
    uncounted_at p name is at = go s.change (of_target p (Down name) is at) s.view
      where
        go : (ch : Change T) → Of (Down name) ch → w ≡ view_after about inner ch v → w ≡ subtract_view (counter_number name) v
        go (changed p x y) of view = absurd (let e = of.0 in cc)
        go (counted other found) of view = absurd (let e = of.0 in cc)
        go (uncounted other) of view = view ∙ ap (λ (k : CounterName). subtract_view (counter_number k) v) (sym (ap (named_by name) of.0))
        go unchanged of view = absurd (let e = of.0 in cc)

    -- or a part at its place.
    pub placed_at : (p : Phase P H) (place : ℕ) → f.phase ≡ p → next_target s.core.settings s.core.plan p f ≡ Part place → PutAt place s.core s.left
    placed_at p place is at = go s.change (of_target p (Part place) is at) s.view
      where
        go : (ch : Change T) → Of (Part place) ch → w ≡ view_after about inner ch v → PutAt place s.core s.left
        go (changed p x y) of view = put_named place p x y s.core s.left (sym (ap place_by of.0)) view of.1 of.2 of.3 of.4 of.5
        go (counted name found) of view = absurd (let e = of.0 in cc)
        go (uncounted name) of view = absurd (let e = of.0 in cc)
        go unchanged of view = absurd (let e = of.0 in cc)

    -- what the step leaves of the core is what its row leaves
    pub left_is : (p : Phase P H) → f.phase ≡ p → s.left ≡ (row_of s.row.0 p s.core (resting f)).part
    left_is p is = ap (λ (z : After P H). z.core) s.row.1.0.is ∙ ap (λ (q : Phase P H). (row_of s.row.0 q s.core (resting f)).part) is

    -- The shard that is tried was put as the pick left it.
    pub record PickAt (place : ℕ) : Type 0 where
      pub before : T
      pub after : T
      pub put : w ≡ put_view (pool_meaning about inner) place before after v
      pub sound : IsShard (shard_at place s.core)
      pub was : inner before ≡ part.Shard (shard_at place s.core)
      pub is : inner after ≡ part.Shard (after_pick (wanted f) (shard_at place s.core))
      pub small : (shard_at place s.core).cold < 2 ^ 64

    pub pick_at : (tried : ℕ) → f.phase ≡ Pick tried → PickAt (shard_tried tried s.core.plan f)
    pick_at tried is =
        let place : ℕ = shard_tried tried s.core.plan f in
        let at = placed_at (Pick tried) place is refl in
        let role = tried_is_shard tried s.core.plan (length s.core.parts) f s.can.core.plan s.can.frame.stripe in
        let there = shard_part a.maker place s.core s.can.core role in
        let was : inner at.before ≡ part.Shard (shard_at place s.core) = sym at.was ∙ a_shard (part_at place s.core.parts) there.part in
        record {
          before = at.before;
          after = at.after;
          put = at.put;
          sound = sound_shard a.maker place s.core s.can.core role;
          was = was;
          is = sym at.is ∙ ap (λ (z : PoolCore P H). part_at place z.parts) (left_is (Pick tried) is) ∙ part_same place _ s.core there.inside;
          small = subst (λ (x : PoolPart P H). slice_index (part_counts x) cold_picks < 2 ^ 64) was (at.small cold_picks);
        }

    -- The next queue was put as the take left it.
    pub record TakeAt (place : ℕ) : Type 0 where
      pub before : T
      pub after : T
      pub put : w ≡ put_view (pool_meaning about inner) place before after v
      pub was : inner before ≡ part.Queue (queue_at place s.core)
      pub is : inner after ≡ part.Queue (after_take (queue_at place s.core))
      pub small : (queue_at place s.core).takes < 2 ^ 64

    pub take_at : f.phase ≡ TakeQueue → TakeAt (queue_tried f.queues s.core.plan f)
    take_at is =
        let place : ℕ = queue_tried f.queues s.core.plan f in
        let at = placed_at TakeQueue place is refl in
        let there = queue_part a.maker place s.core s.can.core (tried_is_queue f.queues s.core.plan (length s.core.parts) f s.can.core.plan) in
        let was : inner at.before ≡ part.Queue (queue_at place s.core) = sym at.was ∙ a_queue (part_at place s.core.parts) there.part in
        record {
          before = at.before;
          after = at.after;
          put = at.put;
          was = was;
          is = sym at.is ∙ ap (λ (z : PoolCore P H). part_at place z.parts) (left_is TakeQueue is) ∙ part_same place _ s.core there.inside;
          small = subst (λ (x : PoolPart P H). slice_index (part_counts x) queue_takes < 2 ^ 64) was (at.small queue_takes);
        }
