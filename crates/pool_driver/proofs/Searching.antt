-- The two steps that a search for a slot is made of: what the seat's view tells after each.
use Rattle.std.proofs.Common.{◌≡◌, ℕ, ◌+◌, ◌<◌, ◌≤◌, Bool, true, false, length, ⊎_elim, sym, refl, ap, subst, ◌∙◌, arith, Option, Some, None}
use Rattle.std.specs.Prelude.{◌==◌, ◌%◌, ◌^◌, nat_lt, slice_index}
use Rattle.std.proofs.lemmas.Bool.{cases_lt, ltb-false}
use Rattle.pool_hall.specs.Meaning.{Meaning}
use Rattle.pool_hall.specs.Step.{put_view}
use Rattle.pool_hall.specs.Tally.{rise}
use Rattle.pool_hall.specs.declared.unit_name.SlotKind.{SlotKind}
use Rattle.pool_hall.specs.declared.unit_name.SlotKind.TheVariants.{Memory as memory_kind, Table as table_kind, Stack as stack_kind, Heap as heap_kind}
use Rattle.pool_hall.specs.declared.view.View.{View}
use Rattle.pool_index.specs.Part.{full_answers}
use Rattle.pool_index.specs.Shard.{ShardState, IsShard, pick_answer, after_pick, slot_number}
use Rattle.pool_index.specs.declared.ids.SlotId.{SlotId}
use Rattle.pool_slots.specs.Plans.{shard_tried as nth_shard, queue_tried as nth_queue}
use Rattle.pool_slots.specs.SlotQueues.{Queue, after_take, taken_into}
use Rattle.pool_slots.specs.declared.part.PoolPart.{PoolPart}
use Rattle.pool_slots.specs.declared.part.PoolPart.TheVariants as part
use Rattle.pool_slots.specs.declared.plan.Plan.{Plan}
use Rattle.pool_slots.specs.declared.slot_name.SlotName.{SlotName}
use Rattle.pool_alloc.specs.StepTable.{picked, taken_next, take_queue_on}
use Rattle.pool_alloc.specs.Searches.{IsSearchedBy}
use Rattle.pool_alloc.specs.StepReads.{allocator_for, wanted}
use Rattle.pool_alloc.specs.Turns.{after, goes}
use Rattle.pool_alloc.specs.declared.frame.Ending.{Ending}
use Rattle.pool_alloc.specs.declared.frame.Ending.TheVariants.{Granted as granted, Returned as returned, Refused as refused}
use Rattle.pool_alloc.specs.declared.frame.Frame.{Frame}
use Rattle.pool_driver.specs.Placed.{About, pool_meaning, part_counts, part_topped}
use Rattle.pool_driver.specs.Telling.{HoldsMore, HasMore, IsFullSince, AreFullSince, AreTakenSince, IsReturnedBy, NoneTaken, CallGoes, queue_takes}
use Rattle.pool_driver.proofs.FullShards.{missed_count, full_topped}
use Rattle.pool_driver.proofs.Holding.{put_holds, more_now, full_now, more_held, full_held, going_held}
use Rattle.pool_driver.proofs.Turning.{LeftTold, search_told, flush_told}

-- what is known of the queues while a call is to be granted
known_of : (e : Ending) (fact : Type 0) → e ≡ granted → IsSearchedBy e fact → fact
known_of granted fact is k = k
known_of returned fact is k = absurd cc
known_of (refused e) fact is k = absurd cc

as_known : (e : Ending) (fact : Type 0) → fact → IsSearchedBy e fact
as_known granted fact k = k
as_known returned fact k = tt
as_known (refused e) fact k = tt

-- such a call gives nothing back
not_back : (e : Ending) (fact : Type 0) → e ≡ granted → IsReturnedBy e fact
not_back granted fact is = tt
not_back returned fact is = absurd cc
not_back (refused e) fact is = tt

module _ {T P H : Type 0} (about : T → About) (inner : T → PoolPart P H) (p : ℕ) (x y : T) (base v w : View T) (put : w ≡ put_view (pool_meaning about inner) p x y v) (began : HoldsMore base v) where
  abbrev m : Meaning T
  m = pool_meaning about inner

  more : HoldsMore v w
  more = put_holds m p x y v w put

  -- A pick from the shard that is tried
  module _ (plan : Plan) (f : Frame P H) (tried : ℕ) (at : p ≡ nth_shard (allocator_for plan f) f.home tried) (s : ShardState) (sound : IsShard s) (was : inner x ≡ part.Shard s) (is : inner y ≡ part.Shard (after_pick (wanted f) s)) (full : AreFullSince base v (allocator_for plan f) f.home tried) (aim : f.ending ≡ granted) (going : CallGoes base v plan f) where
    full_here : pick_answer (wanted f) s ≡ None → IsFullSince base w p
    full_here none =
        full_now m p x y v w put base began
        ((λ i. rise (slice_index (part_counts (was i)) full_answers) (slice_index (part_counts (is i)) full_answers)) ∙ missed_count (wanted f) s sound none)
        (ap part_topped is ∙ full_topped (wanted f) s sound none)

    full_next : pick_answer (wanted f) s ≡ None → AreFullSince base w (allocator_for plan f) f.home (tried + 1)
    full_next none j below = ⊎_elim
        (λ (less : j < tried). full_held base v w more (allocator_for plan f) f.home tried full j less)
        (λ (last : tried ≤ j). let e : j ≡ tried = omega arith in subst (λ (k : ℕ). IsFullSince base w (nth_shard (allocator_for plan f) f.home k)) (sym e) (subst (IsFullSince base w) at (full_here none)))
        (cases_lt j tried)

    goes_on : CallGoes base w plan f
    goes_on = going_held base v w more plan f.home f.queues f.ending (not_back f.ending (NoneTaken v w plan) aim) going

    found_told : (k : SlotKind) (name : SlotName) → LeftTold base w plan f.home f.stripe (after f (goes (taken_next k name)))
    found_told heap_kind name = (goes_on, tt, refl)
    found_told memory_kind name = (goes_on, tt, refl)
    found_told table_kind name = (goes_on, tt, refl)
    found_told stack_kind name = (goes_on, tt, refl)

    pub pick_told : LeftTold base w plan f.home f.stripe (after f (picked plan (pick_answer (wanted f) s) s tried f))
    pick_told = go (pick_answer (wanted f) s) refl
      where
        go : (o : Option (SlotId × ℕ)) → pick_answer (wanted f) s ≡ o → LeftTold base w plan f.home f.stripe (after f (picked plan o s tried f))
        go (Some q) e = found_told (allocator_for plan f).kind (record { kind = (allocator_for plan f).kind; slot = slot_number s q.0.0 })
        go None e = either (nat_lt (tried + 1) (allocator_for plan f).shards) refl
          where
            either : (b : Bool) → nat_lt (tried + 1) (allocator_for plan f).shards ≡ b → LeftTold base w plan f.home f.stripe (after f (picked plan None s tried f))
            either true further = rw further ((full_next e, goes_on), tt, refl)
            either false last =
                let all = ltb-false (tried + 1) (allocator_for plan f).shards last in
                rw last (search_told base w plan f (λ j below. full_next e j (omega arith)) (known_of f.ending (AreTakenSince base w plan f.home f.queues) aim goes_on.queues) goes_on)

  -- A queue that is taken whole. Where it holds nothing the search goes on.
  module _ (plan : Plan) (f : Frame P H) (at : p ≡ nth_queue plan f.home f.queues) (q : Queue) (small : q.takes < 2 ^ 64) (was : inner x ≡ part.Queue q) (is : inner y ≡ part.Queue (after_take q)) (full : AreFullSince base v (allocator_for plan f) f.home (allocator_for plan f).shards) (aim : f.ending ≡ granted) (going : CallGoes base v plan f) where
    rose : rise q.takes ((q.takes + 1) % 2 ^ 64) ≡ 1
    rose = omega arith

    takes_next : AreTakenSince base w plan f.home (f.queues + 1)
    takes_next j below = ⊎_elim
        (λ (less : j < f.queues). more_held base v w more _ queue_takes (known_of f.ending (AreTakenSince base v plan f.home f.queues) aim going.queues j less))
        (λ (last : f.queues ≤ j).
        let e : j ≡ f.queues = omega arith in
        let here : HasMore base w p queue_takes = more_now m p x y v w put base queue_takes began ((λ i. rise (slice_index (part_counts (was i)) queue_takes) (slice_index (part_counts (is i)) queue_takes)) ∙ rose) in
        subst (λ (k : ℕ). HasMore base w (nth_queue plan f.home k) queue_takes) (sym e) (subst (λ (k : ℕ). HasMore base w k queue_takes) at here))
        (cases_lt j f.queues)

    -- the call's frame with the queue that was taken
    abbrev taken : Frame P H
    taken = record f { local = taken_into f.local q; queues = f.queues + 1 }

    takes_on : CallGoes base w plan taken
    takes_on = record {
      queues = as_known f.ending (AreTakenSince base w plan f.home (f.queues + 1)) takes_next;
      none = not_back f.ending (NoneTaken base w plan) aim;
      ending = (going_held base v w more plan f.home f.queues f.ending (not_back f.ending (NoneTaken v w plan) aim) going).ending;
    }

    pub take_told : LeftTold base w plan f.home f.stripe (after taken (take_queue_on plan q f).turn)
    take_told = go (length q.slots == 0) refl
      where
        go : (b : Bool) → (length q.slots == 0) ≡ b → LeftTold base w plan f.home f.stripe (after taken (take_queue_on plan q f).turn)
        go true empty = rw empty (search_told base w plan taken (full_held base v w more (allocator_for plan f) f.home (allocator_for plan f).shards full) takes_next takes_on)
        go false some = rw some (flush_told base w plan taken takes_on)
