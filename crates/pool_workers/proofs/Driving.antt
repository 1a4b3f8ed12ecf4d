-- What a seat may drive, by another view.
use Rattle.std.proofs.Common.{◌≡◌, ◌⊎◌, inl, inr, ℕ, zero, suc, ◌+◌, ◌<◌, ◌++◌, ◌==◌, List, [], ◌∷◌, length, Option, Some, None, refl, sym, ap, ◌∙◌, subst, arith, sum_by, slice_set, slice_index_or}
use Rattle.std.proofs.lemmas.List.Sums.{sum_by-cons}
use Rattle.pool_hall.specs.Step.{joined}
use Rattle.pool_hall.specs.Sum.{often, one_if, total}
use Rattle.pool_hall.specs.Tally.{additions, number, subtractions}
use Rattle.pool_hall.specs.declared.unit_name.UnitName.{UnitName}
use Rattle.pool_hall.specs.declared.unit_name.SlotKind.TheVariants.{Memory as memory_kind, Table as table_kind, Stack as stack_kind, Heap as heap_kind}
use Rattle.pool_hall.specs.declared.view.View.{View}
use Rattle.pool_hall.proofs.Totals.{total_append}
use Rattle.pool_slots.specs.declared.listed_heaps.PlainHeap.{PlainHeap}
use Rattle.pool_alloc.specs.Calls.{IsIdle}
use Rattle.pool_alloc.specs.Places.{Counter, Thing, Weight, counted_component, counted_instance, counted_object, frame_weight, of_counts, only}
use Rattle.pool_alloc.specs.Stepping.{grant_count, grant_counted}
use Rattle.pool_alloc.specs.declared.frame.Frame.{Frame}
use Rattle.pool_alloc.specs.declared.frame.Grant.{Grant}
use Rattle.pool_alloc.specs.declared.frame.Outcome.{Outcome}
use Rattle.pool_alloc.specs.declared.frame.Outcome.TheVariants as answer
use Rattle.pool_driver.specs.Calling.{MayAnswer, gives_back}
use Rattle.pool_driver.specs.Counts.{IsEven, counter_total}
use Rattle.pool_driver.specs.Driving.{Given, IsDriven, counter_number, counter_of}
use Rattle.pool_alloc.proofs.BegunFrames.{at_rest, idle_weight}
use Rattle.pool_alloc.proofs.Weights.{frame_counts}
use Rattle.pool_callers.proofs.Settling.{units_are}
use Rattle.pool_run.specs.Ties.{granted_to}
use Rattle.pool_run.proofs.Parties.{fewer}
use Rattle.pool_threads.specs.Working.{Job, given_by}
use Rattle.pool_threads.proofs.LiveFaults.{AllKeep, kept_at}
use Rattle.pool_threads.proofs.LiveUnits.{live_beside, live_weigh}
use Rattle.pool_threads.proofs.Regiven.{driven_over}

module _ {T P H : Type 0} where
  -- A give-back is answered by nothing that its caller has.
  pub driven_returned : (places : ℕ) (g : Given) (v : View T) (f : Frame P H) (o : Outcome P H) → MayAnswer gives_back o → IsDriven places g v f (Some o) → IsDriven places g v f None
  driven_returned places g v f answer.Returned may driven = driven_over places g g v f (Some answer.Returned) None refl driven.carries.beside (λ t. refl) (λ k. refl) tt driven
  driven_returned places g v f (answer.Granted grant) may driven = absurd may
  driven_returned places g v f answer.Key may driven = absurd may
  driven_returned places g v f (answer.Purged n) may driven = absurd may
  driven_returned places g v f (answer.Released n) may driven = absurd may
  driven_returned places g v f (answer.Refused e) may driven = absurd may

-- each counter but the key counts something
counter_there : (c : ℕ) → 0 < c → c < counter_total → (k : Counter) × (counter_number (counter_of k) ≡ c)
counter_there zero some below = absurd (omega (arith, some))
counter_there (suc zero) some below = (counted_instance, refl)
counter_there (suc (suc zero)) some below = (counted_component, refl)
counter_there (suc (suc (suc zero))) some below = (counted_object memory_kind, refl)
counter_there (suc (suc (suc (suc zero)))) some below = (counted_object table_kind, refl)
counter_there (suc (suc (suc (suc (suc zero))))) some below = (counted_object stack_kind, refl)
counter_there (suc (suc (suc (suc (suc (suc zero)))))) some below = (counted_object heap_kind, refl)
counter_there (suc (suc (suc (suc (suc (suc (suc c))))))) some below = absurd (omega (arith, below))

module _ {T P : Type 0} (j : Job) (places : ℕ) (v : View T) (f : Frame P PlainHeap) where
  -- A grant is taken out of the live ones, to be given back.
  pub brought_back : (live : List (Option (Grant P PlainHeap))) (of : ℕ) (grant : Grant P PlainHeap) → slice_index_or live of None ≡ Some grant → AllKeep live → IsDriven places (given_by j live) v f None → IsDriven places (given_by j (slice_set live of None)) v f (Some (answer.Granted grant))
  brought_back live of grant has keeps driven =
      let left : List (Option (Grant P PlainHeap)) = slice_set live of None in
      driven_over places (given_by j live) (given_by j left) v f None (Some (answer.Granted grant)) refl (live_beside left)
      (λ t. omega (arith, live_weigh t left, live_weigh t live, fewer (grant_count t) live of grant has))
      (λ k. omega (arith, fewer (grant_counted (only k)) live of grant has)) (kept_at live of grant has keeps) driven

module _ {X : Type 0} where
  -- a place that has nothing is emptied
  pub set_none : (xs : List (Option X)) (k : ℕ) → slice_index_or xs k None ≡ None → slice_set xs k None ≡ xs
  set_none [] k is = refl
  set_none (x ∷ xs) zero is = ap (λ (y : Option X). y ∷ xs) (sym is)
  set_none (x ∷ xs) (suc k) is = ap (λ (ys : List (Option X)). x ∷ ys) (set_none xs k is)

  -- it has nothing then, nor has one that had nothing
  pub emptied : (xs : List (Option X)) (k i : ℕ) → (slice_index_or xs i None ≡ None) ⊎ (i ≡ k) → slice_index_or (slice_set xs k None) i None ≡ None
  emptied [] k i is = refl
  emptied (x ∷ xs) zero zero is = refl
  emptied (x ∷ xs) zero (suc i) (inl is) = is
  emptied (x ∷ xs) zero (suc i) (inr is) = absurd (omega (arith, is))
  emptied (x ∷ xs) (suc k) zero (inl is) = is
  emptied (x ∷ xs) (suc k) zero (inr is) = absurd (omega (arith, is))
  emptied (x ∷ xs) (suc k) (suc i) (inl is) = emptied xs k i (inl is)
  emptied (x ∷ xs) (suc k) (suc i) (inr is) = emptied xs k i (inr (omega (arith, is)))

-- nothing is live
none_granted : {P : Type 0} (of : Grant P PlainHeap → ℕ) (live : List (Option (Grant P PlainHeap))) → ((i : ℕ) → i < length live → slice_index_or live i None ≡ None) → sum_by (granted_to of) live ≡ 0
none_granted of [] none = refl
none_granted of (x ∷ live) none =
    let here : granted_to of x ≡ 0 = ap (granted_to of) (none 0 (omega arith)) in
    omega (arith, sum_by-cons (granted_to of) x live, here, none_granted of live (λ i below. none (suc i) (omega (arith, below))))

empty_list : (us : List UnitName) → total (λ u. 1) us ≡ 0 → us ≡ []
empty_list [] is = refl
empty_list (u ∷ us) is = absurd (omega (arith, is))

module _ {T P : Type 0} (j : Job) (places : ℕ) (v : View T) (f : Frame P PlainHeap) (live : List (Option (Grant P PlainHeap))) (idle : IsIdle f) (none : (i : ℕ) → i < length live → slice_index_or live i None ≡ None) (driven : IsDriven places (given_by j live) v f None) where
  -- Where nothing is live, and no call is under way, the seat has nothing,
  pub units_none : v.units ≡ []
  units_none = empty_list v.units (omega (arith, units_are places (given_by j live) v f None driven idle (λ u. 1), live_weigh (λ u. 1) live, none_granted (grant_count (λ u. 1)) live none))

  even_at : (k : Counter) → number (additions (counter_number (counter_of k))) v ≡ number (subtractions (counter_number (counter_of k))) v
  even_at k =
      let idles : frame_weight (of_counts (only k)) f ≡ 0 = idle_weight (of_counts (only k)) f idle (at_rest j.world.maker j.settings j.plan f driven.frame idle) in
      omega (arith, driven.counted k, idles, frame_counts (only k) f, none_granted (grant_counted (only k)) live none)

  -- and counted off as often as it counted.
  pub even_now : IsEven v
  even_now c some' below =
      let there = counter_there c some' below in
      subst (λ (n : ℕ). number (additions n) v ≡ number (subtractions n) v) there.1 (even_at there.0)

-- A seat that has nothing drives, once another is joined, what the other drives.
pub driven_joined : {T P H : Type 0} (places : ℕ) (g : Given) (v w : View T) (f : Frame P H) (o : Option (Outcome P H)) → v.units ≡ [] → ((k : Counter) → number (additions (counter_number (counter_of k))) v ≡ number (subtractions (counter_number (counter_of k))) v) → IsDriven places g w f o → IsDriven places g (joined v w) f o
driven_joined places g v w f o none even driven = record {
  frame = driven.frame;
  keeps = driven.keeps;
  answer = driven.answer;
  carries = record { units = λ t. omega (arith, driven.carries.units t, total_append t v.units w.units, ap (total t) none); beside = driven.carries.beside };
  counted = λ k. omega (arith, driven.counted k, even k, often_append (counter_number (counter_of k)) v.added w.added, often_append (counter_number (counter_of k)) v.subtracted w.subtracted);
  stands = driven.stands;
}
  where
    often_append : (c : ℕ) (ms ns : List ℕ) → often c (ms ++ ns) ≡ often c ms + often c ns
    often_append c ms ns = total_append (λ (m : ℕ). one_if (c == m)) ms ns

-- The counters that count something are among those that are even.
pub even_each : {T : Type 0} (v : View T) → IsEven v → (k : Counter) → number (additions (counter_number (counter_of k))) v ≡ number (subtractions (counter_number (counter_of k))) v
even_each v even counted_instance = even 1 (omega arith) (omega arith)
even_each v even counted_component = even 2 (omega arith) (omega arith)
even_each v even (counted_object memory_kind) = even 3 (omega arith) (omega arith)
even_each v even (counted_object table_kind) = even 4 (omega arith) (omega arith)
even_each v even (counted_object stack_kind) = even 5 (omega arith) (omega arith)
even_each v even (counted_object heap_kind) = even 6 (omega arith) (omega arith)
