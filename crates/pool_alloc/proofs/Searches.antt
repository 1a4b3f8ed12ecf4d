-- How far a search is after a pick that found nothing, and after a queue was taken that is empty.
use Rattle.std.proofs.Common.{◌≡◌, ◌≢◌, ℕ, ◌+◌, ◌<◌, [], length, None, sym, ap, subst, inl, inr, arith}
use Rattle.pool_alloc.proofs.Imports.{cases_eq, MakerTold, ShardState, pick_answer, after_pick, Queue, part_at, PoolPart}
use Rattle.pool_alloc.specs.Searches.{HasNoSlot, AreFull, AreEmpty}
use Rattle.pool_alloc.specs.BetweenSteps.{IsPoolPlan, IsCore}
use Rattle.pool_alloc.specs.StepReads.{shard_at, queue_at, wanted, shard_tried, queue_tried, with_shard, with_queue, shard_in, queue_in, with_part}
use Rattle.pool_alloc.specs.declared.pool_core.PoolCore.{PoolCore}
use Rattle.pool_alloc.specs.declared.frame.Frame.{Frame}
use Rattle.pool_alloc.proofs.FullShards.{none_free, still_none}
use Rattle.pool_alloc.proofs.PlanPlaces.{IsShardPlace, IsQueuePlace, shard_inside, queue_inside, apart_places, tried_is_shard, tried_is_queue}
use Rattle.pool_alloc.proofs.PoolParts.{part_same, part_other, sound_shard}
use Rattle.pool_slots.specs.declared.part.PoolPart.TheVariants as part

before_last : (j n : ℕ) → j < n + 1 → j ≢ n → j < n
before_last j n below other = omega (arith, below, other)

module _ {P H : Type 0} where
  -- a shard that is changed to one without slots
  shards_none : (i : ℕ) (shard : ShardState) (j : ℕ) (c : PoolCore P H) → i < length c.parts → HasNoSlot shard → (j ≢ i → HasNoSlot (shard_at j c)) → HasNoSlot (shard_at j (with_shard i shard c))
  shards_none i shard j c inside none others =
      let S : PoolPart P H → Type 0 = λ x. HasNoSlot (shard_in x) in
      elim (cases_eq j i) [
        | inl is ↦ subst (λ (n : ℕ). S (part_at n (with_shard i shard c).parts)) (sym is) (subst S (sym (part_same i (part.Shard shard) c inside)) none)
        | inr other ↦ subst S (sym (part_other i j (part.Shard shard) c other)) (others other)
      ]

  -- and a queue to an empty one
  queues_none : (i : ℕ) (queue : Queue) (j : ℕ) (c : PoolCore P H) → i < length c.parts → queue.slots ≡ [] → (j ≢ i → (queue_at j c).slots ≡ []) → (queue_at j (with_queue i queue c)).slots ≡ []
  queues_none i queue j c inside none others =
      let S : PoolPart P H → Type 0 = λ x. (queue_in x).slots ≡ [] in
      elim (cases_eq j i) [
        | inl is ↦ subst (λ (n : ℕ). S (part_at n (with_queue i queue c).parts)) (sym is) (subst S (sym (part_same i (part.Queue queue) c inside)) none)
        | inr other ↦ subst S (sym (part_other i j (part.Queue queue) c other)) (others other)
      ]

  -- a part that is replaced leaves the queues, and the shards, that it isn't
  pub still_empty : (n p : ℕ) (x : PoolPart P H) (c : PoolCore P H) (f : Frame P H) → IsPoolPlan c.plan (length c.parts) → ((q : ℕ) → IsQueuePlace c.plan q → q ≡ p → ⊥) → AreEmpty n c f → AreEmpty n (with_part p x c) f
  still_empty n p x c f is other empty j below =
      let S : PoolPart P H → Type 0 = λ y. (queue_in y).slots ≡ [] in
      let q : ℕ = queue_tried j c.plan f in
      subst S (sym (part_other p q x c (other q (tried_is_queue j c.plan (length c.parts) f is)))) (empty j below)

  pub full_beside : (n p : ℕ) (x : PoolPart P H) (c : PoolCore P H) (f : Frame P H) → IsPoolPlan c.plan (length c.parts) → f.stripe < length c.plan.memories → IsQueuePlace c.plan p → AreFull n c f → AreFull n (with_part p x c) f
  full_beside n p x c f is stripe queue full j below =
      let S : PoolPart P H → Type 0 = λ y. HasNoSlot (shard_in y) in
      let q : ℕ = shard_tried j c.plan f in
      subst S (sym (part_other p q x c (apart_places c.plan q p (tried_is_shard j c.plan (length c.parts) f is stripe) queue))) (full j below)

  -- the shard that was tried has no slot either
  pub tried_full : (maker : MakerTold) (tried : ℕ) (c : PoolCore P H) (f : Frame P H) → IsCore maker c → f.stripe < length c.plan.memories → pick_answer (wanted f) (shard_at (shard_tried tried c.plan f) c) ≡ None → AreFull tried c f → AreFull (tried + 1) c f
  tried_full maker tried c f core stripe none full j below =
      let i : ℕ = shard_tried tried c.plan f in
      let S : ℕ → Type 0 = λ n. HasNoSlot (shard_at (shard_tried n c.plan f) c) in
      elim (cases_eq j tried) [
        | inl is ↦ subst S (sym is) (none_free (wanted f) (shard_at i c) (sound_shard maker i c core (tried_is_shard tried c.plan (length c.parts) f core.plan stripe)) none)
        | inr other ↦ full j (before_last j tried below other)
      ]

  pub still_full : (maker : MakerTold) (n tried : ℕ) (c : PoolCore P H) (f : Frame P H) → IsCore maker c → f.stripe < length c.plan.memories → pick_answer (wanted f) (shard_at (shard_tried tried c.plan f) c) ≡ None → AreFull n c f → AreFull n (with_shard (shard_tried tried c.plan f) (after_pick (wanted f) (shard_at (shard_tried tried c.plan f) c)) c) f
  still_full maker n tried c f core stripe none full j below =
      let i : ℕ = shard_tried tried c.plan f in
      let shard : ShardState = shard_at i c in
      let place : IsShardPlace c.plan i = tried_is_shard tried c.plan (length c.parts) f core.plan stripe in
      let free : HasNoSlot shard = none_free (wanted f) shard (sound_shard maker i c core place) none in
      shards_none i (after_pick (wanted f) shard) (shard_tried j c.plan f) c (shard_inside c.plan (length c.parts) i core.plan place) (still_none (wanted f) shard none free) (λ other. full j below)

  -- the queue that was taken is empty
  pub taken_empty : (maker : MakerTold) (queues : ℕ) (queue : Queue) (c : PoolCore P H) (f : Frame P H) → IsCore maker c → queue.slots ≡ [] → AreEmpty queues c f → AreEmpty (queues + 1) (with_queue (queue_tried queues c.plan f) queue c) f
  taken_empty maker queues queue c f core none empty j below =
      let i : ℕ = queue_tried queues c.plan f in
      let place : IsQueuePlace c.plan i = tried_is_queue queues c.plan (length c.parts) f core.plan in
      queues_none i queue (queue_tried j c.plan f) c (queue_inside c.plan (length c.parts) i core.plan place) none
      (λ other. empty j (before_last j queues below (λ e. other (ap (λ (n : ℕ). queue_tried n c.plan f) e))))

  -- and was empty before
  pub was_empty : (queues : ℕ) (c : PoolCore P H) (f : Frame P H) → (queue_at (queue_tried queues c.plan f) c).slots ≡ [] → AreEmpty queues c f → AreEmpty (queues + 1) c f
  was_empty queues c f none empty j below =
      let S : ℕ → Type 0 = λ n. (queue_at (queue_tried n c.plan f) c).slots ≡ [] in
      elim (cases_eq j queues) [
        | inl is ↦ subst S (sym is) none
        | inr other ↦ empty j (before_last j queues below other)
      ]
