-- What a step on the hall changes in a seat's view: counts only rise, what is noted stays, and so what was told of a call stays told.
use Rattle.std.proofs.Common.{◌≡◌, ⊎_elim, ℕ, ◌+◌, ◌<◌, ◌≤◌, Bool, true, false, ◌∷◌, refl, sym, ap, subst, ◌∙◌, arith, eq-eqb}
use Rattle.std.proofs.lemmas.Bool.{cases_lt}
use Rattle.std.specs.Prelude.{◌==◌, nat_lt, if◌then◌else◌, slice_index}
use Rattle.pool_hall.specs.Meaning.{Meaning}
use Rattle.pool_hall.specs.Step.{add_view, subtract_view, put_view}
use Rattle.pool_hall.specs.Sum.{one_if, often}
use Rattle.pool_hall.specs.Tally.{counted, additions, low_additions, subtractions, number, rise}
use Rattle.pool_hall.specs.declared.view.View.{View}
use Rattle.pool_hall.specs.declared.unit_name.SlotKind.{SlotKind}
use Rattle.pool_hall.specs.declared.unit_name.SlotKind.TheVariants.{Memory as memory_kind, Table as table_kind, Stack as stack_kind, Heap as heap_kind}
use Rattle.pool_index.specs.Part.{full_answers}
use Rattle.pool_slots.specs.Plans.{queues_for, shard_tried, queue_tried}
use Rattle.pool_slots.specs.declared.errors.AllocError.{AllocError}
use Rattle.pool_slots.specs.declared.errors.AllocError.TheVariants.{Limit}
use Rattle.pool_slots.specs.declared.errors.ConcurrencyKind.{ConcurrencyKind}
use Rattle.pool_slots.specs.declared.errors.ConcurrencyKind.TheVariants.{CoreInstances, ComponentInstances, MemoryStripe, Tables, Fibers, GcHeaps}
use Rattle.pool_slots.specs.declared.plan.Allocator.{Allocator}
use Rattle.pool_slots.specs.declared.plan.Plan.{Plan}
use Rattle.pool_alloc.specs.Searches.{IsSearchedBy}
use Rattle.pool_alloc.specs.StepReads.{allocator_of, stripe_allocator}
use Rattle.pool_alloc.specs.declared.frame.Ending.{Ending}
use Rattle.pool_alloc.specs.declared.frame.Ending.TheVariants.{Granted as granted, Returned as returned, Refused as refused}
use Rattle.pool_driver.specs.Telling.{HoldsMore, HasMore, HasSoManyMore, ShardsHaveMore, StripesHaveMore, stripe_shard, IsFullSince, AreFullSince, AreTakenSince, CountsSince, RoomTold, LimitTold, RefusalTold, EndingTold, NoneTaken, IsReturnedBy, IsGoing, IsEnding, queue_takes}

module _ {T : Type 0} (m : Meaning T) (p : ℕ) (x y : T) (v w : View T) (put : w ≡ put_view m p x y v) where
  -- what a part at a place counts more once it is put
  pub counted_put : (q i : ℕ) → number (counted q i) w ≡ (if q == p then rise (slice_index (m.counts x) i) (slice_index (m.counts y) i) else 0) + number (counted q i) v
  counted_put q i = ap (λ (z : View T). number (counted q i) z) put

  noted_put : (b : Bool) → m.topped y ≡ b → (q : ℕ) → often q v.topped ≤ often q w.topped
  noted_put true e q = let a : often q w.topped ≡ one_if (q == p) + often q v.topped = ap (λ (z : View T). often q z.topped) put ∙ ap (λ b. often q (if b then p ∷ v.topped else v.topped)) e in omega arith
  noted_put false e q = let a : often q w.topped ≡ often q v.topped = ap (λ (z : View T). often q z.topped) put ∙ ap (λ b. often q (if b then p ∷ v.topped else v.topped)) e in omega arith

  -- nothing falls in a put
  pub put_holds : HoldsMore v w
  put_holds = record { counts = λ q i. let e = counted_put q i in omega arith; noted = λ q. noted_put (m.topped y) refl q }

  more_here : (i : ℕ) → rise (slice_index (m.counts x) i) (slice_index (m.counts y) i) ≡ 1 → number (counted p i) w ≡ 1 + number (counted p i) v
  more_here i one =
      let e = counted_put p i in
      let f : (if p == p then rise (slice_index (m.counts x) i) (slice_index (m.counts y) i) else 0) ≡ rise (slice_index (m.counts x) i) (slice_index (m.counts y) i) = ap (λ b. if b then rise (slice_index (m.counts x) i) (slice_index (m.counts y) i) else 0) (eq-eqb p p refl) in
      omega arith

  noted_here : m.topped y ≡ true → 0 < often p w.topped
  noted_here top =
      let a : often p w.topped ≡ one_if (p == p) + often p v.topped = ap (λ (z : View T). often p z.topped) put ∙ ap (λ b. often p (if b then p ∷ v.topped else v.topped)) top in
      let o : one_if (p == p) ≡ 1 = ap one_if (eq-eqb p p refl) in
      omega arith

  -- the place has a count that rose in the call, where this put raised it
  pub more_now : (base : View T) (i : ℕ) → HoldsMore base v → rise (slice_index (m.counts x) i) (slice_index (m.counts y) i) ≡ 1 → HasMore base w p i
  more_now base i more one = let e = more_here i one in let le = more.counts p i in omega arith

  pub full_now : (base : View T) → HoldsMore base v → rise (slice_index (m.counts x) full_answers) (slice_index (m.counts y) full_answers) ≡ 1 → m.topped y ≡ true → IsFullSince base w p
  full_now base more one top = (more_now base full_answers more one, noted_here top)

module _ {T : Type 0} (c r : ℕ) (v w : View T) where
  -- nor does anything in a step on a counter
  pub add_holds : w ≡ add_view c r v → HoldsMore v w
  add_holds is = record {
    counts = λ q i. let e : number (counted q i) w ≡ number (counted q i) v = ap (λ (z : View T). number (counted q i) z) is in omega arith;
    noted = λ q. let e : often q w.topped ≡ often q v.topped = ap (λ (z : View T). often q z.topped) is in omega arith;
  }

  pub subtract_holds : w ≡ subtract_view c v → HoldsMore v w
  subtract_holds is = record {
    counts = λ q i. let e : number (counted q i) w ≡ number (counted q i) v = ap (λ (z : View T). number (counted q i) z) is in omega arith;
    noted = λ q. let e : often q w.topped ≡ often q v.topped = ap (λ (z : View T). often q z.topped) is in omega arith;
  }

-- or where nothing is changed
pub same_holds : {T : Type 0} (v w : View T) → w ≡ v → HoldsMore v w
same_holds {T} v w is = record {
  counts = λ q i. let e : number (counted q i) w ≡ number (counted q i) v = ap (λ (z : View T). number (counted q i) z) is in omega arith;
  noted = λ q. let e : often q w.topped ≡ often q v.topped = ap (λ (z : View T). often q z.topped) is in omega arith;
}

pub holds_on : {T : Type 0} (u v w : View T) → HoldsMore u v → HoldsMore v w → HoldsMore u w
holds_on u v w a b = record { counts = λ q i. let h = a.counts q i in let k = b.counts q i in omega arith; noted = λ q. let h = a.noted q in let k = b.noted q in omega arith }

-- What was counted on a counter by a step on it, and by one that changes nothing.
module _ {T : Type 0} (base v w : View T) (c more lower fewer : ℕ) (had : CountsSince base v c more lower fewer) where
  pub counts_same : w ≡ v → CountsSince base w c more lower fewer
  counts_same is = record {
    added = ap (λ (z : View T). number (additions c) z) is ∙ had.added;
    low = ap (λ (z : View T). number (low_additions c) z) is ∙ had.low;
    subtracted = ap (λ (z : View T). number (subtractions c) z) is ∙ had.subtracted;
  }

  pub counts_over : (r : ℕ) → w ≡ add_view c r v → nat_lt r (slice_index v.limits c) ≡ false → CountsSince base w c (more + 1) lower fewer
  counts_over r is over =
      let same : one_if (c == c) ≡ 1 = ap one_if (eq-eqb c c refl) in
      let a : number (additions c) w ≡ one_if (c == c) + number (additions c) v = ap (λ (z : View T). number (additions c) z) is in
      let l : number (low_additions c) w ≡ number (low_additions c) v = ap (λ (z : View T). number (low_additions c) z) is ∙ ap (λ b. often c (if b then c ∷ v.low else v.low)) over in
      let s : number (subtractions c) w ≡ number (subtractions c) v = ap (λ (z : View T). number (subtractions c) z) is in
      let ha = had.added in
      let hl = had.low in
      let hs = had.subtracted in
      record { added = omega arith; low = omega arith; subtracted = omega arith }

  pub counts_off : w ≡ subtract_view c v → CountsSince base w c more lower (fewer + 1)
  counts_off is =
      let same : one_if (c == c) ≡ 1 = ap one_if (eq-eqb c c refl) in
      let a : number (additions c) w ≡ number (additions c) v = ap (λ (z : View T). number (additions c) z) is in
      let l : number (low_additions c) w ≡ number (low_additions c) v = ap (λ (z : View T). number (low_additions c) z) is in
      let s : number (subtractions c) w ≡ one_if (c == c) + number (subtractions c) v = ap (λ (z : View T). number (subtractions c) z) is in
      let ha = had.added in
      let hl = had.low in
      let hs = had.subtracted in
      record { added = omega arith; low = omega arith; subtracted = omega arith }

-- What was told of a search stays told.
module _ {T : Type 0} (base v w : View T) (more : HoldsMore v w) where
  pub so_many_held : (q i n : ℕ) → HasSoManyMore base v q i n → HasSoManyMore base w q i n
  so_many_held q i n had = let e = more.counts q i in omega arith

  pub more_held : (q i : ℕ) → HasMore base v q i → HasMore base w q i
  more_held q i had = so_many_held q i 1 had

  pub shards_held : (plan : Plan) (i times stripe n : ℕ) → ShardsHaveMore base v plan i times stripe n → ShardsHaveMore base w plan i times stripe n
  shards_held plan i times stripe n had j below = so_many_held (stripe_shard plan stripe j) i times (had j below)

  pub stripes_held : (plan : Plan) (i times n : ℕ) → StripesHaveMore base v plan i times n → StripesHaveMore base w plan i times n
  stripes_held plan i times n had stripe below = shards_held plan i times stripe (stripe_allocator plan stripe).shards (had stripe below)

  pub full_held : (a : Allocator) (home n : ℕ) → AreFullSince base v a home n → AreFullSince base w a home n
  full_held a home n full j below = (more_held (shard_tried a home j) full_answers (full j below).0, (let e = more.noted (shard_tried a home j) in let h = (full j below).1 in omega arith))

  pub taken_held : (plan : Plan) (home n : ℕ) → AreTakenSince base v plan home n → AreTakenSince base w plan home n
  taken_held plan home n taken j below = more_held (queue_tried plan home j) queue_takes (taken j below)

  room_held : (plan : Plan) (home : ℕ) (k : SlotKind) (stripe : ℕ) → RoomTold base v plan home k stripe → RoomTold base w plan home k stripe
  room_held plan home k stripe r = record { shards = full_held (allocator_of plan k stripe) home (allocator_of plan k stripe).shards r.shards; queues = taken_held plan home (queues_for plan k) r.queues }

  -- and the reason of a refusal, with what is told of the counters
  module _ (I J C D : Type 0) (instances : I → J) (components : C → D) where
    limit_held : (plan : Plan) (home : ℕ) (k : ConcurrencyKind) → LimitTold base v I C plan home k → LimitTold base w J D plan home k
    limit_held plan home (MemoryStripe i) told = room_held plan home memory_kind i told
    limit_held plan home Tables told = room_held plan home table_kind 0 told
    limit_held plan home Fibers told = room_held plan home stack_kind 0 told
    limit_held plan home GcHeaps told = room_held plan home heap_kind 0 told
    limit_held plan home CoreInstances told = instances told
    limit_held plan home ComponentInstances told = components told

    refusal_held : (plan : Plan) (home : ℕ) (e : AllocError) → RefusalTold base v I C plan home e → RefusalTold base w J D plan home e
    refusal_held plan home (Limit l) told = limit_held plan home l.kind told
    refusal_held plan home _ told = tt

    pub ending_held : (plan : Plan) (home : ℕ) (e : Ending) → EndingTold base v I C plan home e → EndingTold base w J D plan home e
    ending_held plan home (refused e) told = refusal_held plan home e told
    ending_held plan home _ told = tt

  searched_held : (plan : Plan) (home n : ℕ) (e : Ending) → IsSearchedBy e (AreTakenSince base v plan home n) → IsSearchedBy e (AreTakenSince base w plan home n)
  searched_held plan home n granted taken = taken_held plan home n taken
  searched_held plan home n returned taken = tt
  searched_held plan home n (refused e) taken = tt

  none_held : (plan : Plan) (e : Ending) → IsReturnedBy e (NoneTaken v w plan) → IsReturnedBy e (NoneTaken base v plan) → IsReturnedBy e (NoneTaken base w plan)
  none_held plan granted still none = tt
  none_held plan returned still none = λ q place. still q place ∙ none q place
  none_held plan (refused e) still none = tt

  pub going_held : (plan : Plan) (home n : ℕ) (e : Ending) → IsReturnedBy e (NoneTaken v w plan) → IsGoing base v plan home n e → IsGoing base w plan home n e
  going_held plan home n e still going = record {
    queues = searched_held plan home n e going.queues;
    none = none_held plan e still going.none;
    ending = ending_held ⊥ ⊥ ⊥ ⊥ (λ no. no) (λ no. no) plan home e going.ending;
  }

  pub over_held : (I J C D : Type 0) → (I → J) → (C → D) → (plan : Plan) (home : ℕ) (e : Ending) → IsReturnedBy e (NoneTaken v w plan) → IsEnding base v I C plan home e → IsEnding base w J D plan home e
  over_held I J C D instances components plan home e still over = record {
    none = none_held plan e still over.none;
    ending = ending_held I J C D instances components plan home e over.ending;
  }

-- A walk through shards and stripes, each of which has counted so much more.
module _ {T : Type 0} (base w : View T) (plan : Plan) (i : ℕ) where
  -- One shard more has,
  pub one_shard_more : (times stripe n : ℕ) → ShardsHaveMore base w plan i times stripe n → HasSoManyMore base w (stripe_shard plan stripe n) i times → ShardsHaveMore base w plan i times stripe (n + 1)
  one_shard_more times stripe n had here k below = ⊎_elim
      (λ (less : k < n). had k less)
      (λ (last : n ≤ k). let same : k ≡ n = omega (arith, below, last) in subst (λ (j : ℕ). HasSoManyMore base w (stripe_shard plan stripe j) i times) (sym same) here)
      (cases_lt k n)

  -- and one stripe more, where all its shards have, as those of the stripes before it.
  pub one_stripe_more : (least times stripe n : ℕ) → StripesHaveMore base w plan i least stripe → ShardsHaveMore base w plan i times stripe n → (stripe_allocator plan stripe).shards ≤ n → least ≤ times → StripesHaveMore base w plan i least (stripe + 1)
  one_stripe_more least times stripe n had here all enough k below j inside = ⊎_elim
      (λ (less : k < stripe). had k less j inside)
      (λ (most : stripe ≤ k).
      let same : k ≡ stripe = omega (arith, below, most) in
      let within : j < (stripe_allocator plan stripe).shards = subst (λ (s : ℕ). j < (stripe_allocator plan s).shards) same inside in
      let there : HasSoManyMore base w (stripe_shard plan stripe j) i times = here j (omega (arith, within, all)) in
      let least_there : HasSoManyMore base w (stripe_shard plan stripe j) i least = omega (arith, there, enough) in
      subst (λ (s : ℕ). HasSoManyMore base w (stripe_shard plan s j) i least) (sym same) least_there)
      (cases_lt k stripe)
