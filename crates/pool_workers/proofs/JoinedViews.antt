-- What a seat has noted to which another is joined.
use Rattle.std.proofs.Common.{◌≡◌, inl, inr, ℕ, ◌+◌, ◌++◌, ◌==◌, List, refl, arith}
use Rattle.pool_hall.specs.Step.{joined, newcomer}
use Rattle.pool_hall.specs.Sum.{often, one_if}
use Rattle.pool_hall.specs.Tally.{counted, number, rise_at}
use Rattle.pool_hall.specs.declared.unit_name.SlotKind.{SlotKind}
use Rattle.pool_hall.specs.declared.view.View.{View}
use Rattle.pool_hall.proofs.Totals.{total_append}
use Rattle.pool_index.specs.Part.{full_answers}
use Rattle.pool_slots.specs.Plans.{queue_tried, shard_tried}
use Rattle.pool_slots.specs.declared.plan.Plan.{Plan}
use Rattle.pool_alloc.specs.StepReads.{allocator_of}
use Rattle.pool_driver.specs.Spending.{cold_rise}
use Rattle.pool_driver.specs.Telling.{component_counter, instance_counter, queue_takes}
use Rattle.pool_threads.specs.Asked.{Scarce, slots, instances, components}
use Rattle.pool_threads.specs.Noted.{Grows, HasNotedCell, Notes, OverTimes, RoomTimes, fault_rise, memory_faults, spent}

often_join : (n : ℕ) (ms ns : List ℕ) → often n (ms ++ ns) ≡ often n ms + often n ns
often_join n ms ns = total_append (λ (m : ℕ). one_if (n == m)) ms ns

module _ {T : Type 0} where
  -- the view with more portions
  abbrev pub with_more : ℕ → View T → View T
  with_more n v = record v { portions = v.portions + n }

  spent_join : (plan : Plan) (k : Scarce) (n : ℕ) (v w : View T) → spent plan k (joined v w) ≡ spent plan k (with_more n v) + spent plan k w
  spent_join plan (slots kind) n v w = total_append (cold_rise plan kind) v.rises w.rises
  spent_join plan instances n v w = often_join instance_counter v.low w.low
  spent_join plan components n v w = often_join component_counter v.low w.low

  spent_none : (plan : Plan) (k : Scarce) (n : ℕ) (u : View T) → spent plan k (newcomer n u) ≡ 0
  spent_none plan (slots kind) n u = refl
  spent_none plan instances n u = refl
  spent_none plan components n u = refl

  module _ (plan : Plan) (home stripe : ℕ) (u v w : View T) (n : ℕ) where
    count_join : (p i : ℕ) → number (counted p i) (joined v w) ≡ number (counted p i) v + number (counted p i) w
    count_join p i = total_append (rise_at p i) v.rises w.rises

    grows_join : Grows (newcomer n u) w → Grows (with_more w.portions v) (joined v w)
    grows_join grows = record {
      rises = λ weigh. omega (arith, total_append weigh v.rises w.rises);
      noted = λ q. omega (arith, often_join q v.topped w.topped);
      over = λ c. omega (arith, often_join c v.added w.added, often_join c v.low w.low, grows.over c);
      counted_off = λ c. omega (arith, often_join c v.subtracted w.subtracted);
      portions = refl;
    }

    room_join : (kind : SlotKind) (times : ℕ) → RoomTimes (newcomer n u) w plan home kind stripe times → RoomTimes (with_more w.portions v) (joined v w) plan home kind stripe times
    room_join kind times room = record {
      shards = λ j below. omega (arith, room.shards j below, count_join (shard_tried (allocator_of plan kind stripe) home j) full_answers);
      noted = λ some' j below. omega (arith, room.noted some' j below, often_join (shard_tried (allocator_of plan kind stripe) home j) v.topped w.topped);
      queues = λ j below. omega (arith, room.queues j below, count_join (queue_tried plan home j) queue_takes);
    }

    over_join : (c times : ℕ) → OverTimes (newcomer n u) w c times → OverTimes (with_more w.portions v) (joined v w) c times
    over_join c times told = record {
      over = omega (arith, told.over, often_join c v.added w.added, often_join c v.low w.low);
      counted_off = omega (arith, told.counted_off, often_join c v.subtracted w.subtracted);
    }

    cell_join : HasNotedCell plan w → HasNotedCell plan (joined v w)
    cell_join is = record { slot = is.slot; kind = is.kind; place = is.place; cell = is.cell; noted = omega (arith, is.noted, often_join is.place v.topped w.topped) }

    -- What the other has noted since it had nothing, that seat has noted since it was as before.
    pub notes_join : (most refused : Scarce → ℕ) (failed : ℕ) → Notes plan home stripe most refused failed (newcomer n u) w → Notes plan home stripe most refused failed (with_more w.portions v) (joined v w)
    notes_join most refused failed notes = record {
      within = λ k. omega (arith, notes.within k, spent_join plan k w.portions v w, spent_none plan k n u);
      grows = grows_join notes.grows;
      room = λ kind. room_join kind (refused (slots kind)) (notes.room kind);
      over_instances = over_join instance_counter (refused instances) notes.over_instances;
      over_components = over_join component_counter (refused components) notes.over_components;
      faults = elim notes.faults [ inl more ↦ inl (omega (arith, more, total_append (fault_rise plan) v.rises w.rises)) | inr noted ↦ inr (cell_join noted) ];
    }
