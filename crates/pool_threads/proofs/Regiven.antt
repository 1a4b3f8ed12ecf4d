-- What a seat has beside a call, told anew: another list of the same units; and what a call was granted, once it has ended.
use Rattle.std.proofs.Common.{◌≡◌, ℕ, ◌+◌, ◌<◌, List, length, Option, Some, None, refl, sym, ap, subst, arith, sum_by, slice_set, slice_index_or}
use Rattle.std.proofs.lemmas.List.Sums.{sum_by-set}
use Rattle.pool_hall.specs.Sum.{total}
use Rattle.pool_hall.specs.Unit.{Beside}
use Rattle.pool_hall.specs.declared.view.View.{View}
use Rattle.pool_slots.specs.declared.listed_heaps.PlainHeap.{PlainHeap}
use Rattle.pool_alloc.specs.Calls.{IfGranted}
use Rattle.pool_alloc.specs.Places.{Counter, Thing, only}
use Rattle.pool_alloc.specs.Stepping.{count_granted, grant_count, grant_counted}
use Rattle.pool_alloc.specs.declared.frame.Frame.{Frame}
use Rattle.pool_alloc.specs.declared.frame.Grant.{Grant}
use Rattle.pool_alloc.specs.declared.frame.Outcome.{Outcome}
use Rattle.pool_alloc.specs.declared.frame.Outcome.TheVariants as answer
use Rattle.pool_alloc.specs.declared.pool_core.PoolCore.{PoolCore}
use Rattle.pool_driver.specs.Driving.{Given, IsDriven}
use Rattle.pool_driver.specs.Faults.{AnswerKeeps}
use Rattle.pool_run.specs.Ties.{granted_to}
use Rattle.pool_run.specs.Turns.{answered}
use Rattle.pool_run.specs.declared.running_party.RunningParty.{RunningParty}
use Rattle.pool_threads.specs.Working.{Job, given_by}
use Rattle.pool_threads.proofs.LiveUnits.{live_beside, live_weigh}

-- The seat is driven alike where what it has beside the call weighs as much, with what the call was granted.
pub driven_over : {T P H : Type 0} (places : ℕ) (g h : Given) (v : View T) (f : Frame P H) (o p : Option (Outcome P H)) → h.about ≡ g.about → Beside h.rest → ((t : Thing) → count_granted (grant_count t) p + total t h.rest ≡ count_granted (grant_count t) o + total t g.rest) → ((k : Counter) → count_granted (grant_counted (only k)) p + h.counted k ≡ count_granted (grant_counted (only k)) o + g.counted k) → AnswerKeeps p → IsDriven places g v f o → IsDriven places h v f p
driven_over places g h v f o p same beside units counted answer driven =
    let moved : IsDriven places (record h { about = g.about }) v f p =
    record {
      frame = driven.frame;
      keeps = driven.keeps;
      answer = answer;
      carries = record { units = λ t. omega (arith, driven.carries.units t, units t); beside = beside };
      counted = λ k. omega (arith, driven.counted k, counted k);
      stands = driven.stands;
    } in
    subst (λ about. IsDriven places (record h { about = about }) v f p) (sym same) moved

module _ {P : Type 0} where
  -- what the live grants have, once one more is granted
  pub one_more : (of : Grant P PlainHeap → ℕ) (live : List (Option (Grant P PlainHeap))) (i : ℕ) (grant : Grant P PlainHeap) → i < length live → slice_index_or live i None ≡ None → sum_by (granted_to of) (slice_set live i (Some grant)) ≡ sum_by (granted_to of) live + of grant
  one_more of live i grant inside none =
      let here : granted_to of (slice_index_or live i None) ≡ 0 = ap (granted_to of) none in
      omega (arith, sum_by-set (granted_to of) live i (Some grant) None inside)

  -- A call's answer is the party's then, whose seat has it beside the next call.
  pub driven_answered : {T : Type 0} (j : Job) (places : ℕ) (v : View T) (c : PoolCore P PlainHeap) (p : RunningParty P) (o : Option (Outcome P PlainHeap)) → IfGranted (λ g. p.done < length p.live) o → slice_index_or p.live p.done None ≡ None → IsDriven places (given_by j p.live) v p.frame o → IsDriven places (given_by j (answered o c p).party.live) v (answered o c p).party.frame None
  driven_answered j places v c p None inside none driven = driven
  driven_answered j places v c p (Some (answer.Granted grant)) inside none driven =
      let live : List (Option (Grant P PlainHeap)) = slice_set p.live p.done (Some grant) in
      driven_over places (given_by j p.live) (given_by j live) v p.frame (Some (answer.Granted grant)) None refl (live_beside live)
      (λ t. omega (arith, live_weigh t live, live_weigh t p.live, one_more (grant_count t) p.live p.done grant inside none))
      (λ k. omega (arith, one_more (grant_counted (only k)) p.live p.done grant inside none)) tt driven
  driven_answered j places v c p (Some answer.Key) inside none driven = driven_over places (given_by j p.live) (given_by j p.live) v p.frame (Some answer.Key) None refl (live_beside p.live) (λ t. refl) (λ k. refl) tt driven
  driven_answered j places v c p (Some answer.Returned) inside none driven = driven_over places (given_by j p.live) (given_by j p.live) v p.frame (Some answer.Returned) None refl (live_beside p.live) (λ t. refl) (λ k. refl) tt driven
  driven_answered j places v c p (Some (answer.Purged n)) inside none driven = driven_over places (given_by j p.live) (given_by j p.live) v p.frame (Some (answer.Purged n)) None refl (live_beside p.live) (λ t. refl) (λ k. refl) tt driven
  driven_answered j places v c p (Some (answer.Released n)) inside none driven = driven_over places (given_by j p.live) (given_by j p.live) v p.frame (Some (answer.Released n)) None refl (live_beside p.live) (λ t. refl) (λ k. refl) tt driven
  driven_answered j places v c p (Some (answer.Refused e)) inside none driven = driven_over places (given_by j p.live) (given_by j p.live) v p.frame (Some (answer.Refused e)) None refl (live_beside p.live) (λ t. refl) (λ k. refl) tt driven
