-- What a party has by the one measure: units alone, and what is counted alone.
use Rattle.std.proofs.Common.{◌≡◌, ◌≤◌, ◌+◌, List, Option, Some, None, refl, arith, sum_by}
use Rattle.pool_run.proofs.Imports.{Thing, Counts, of_units, of_counts, away_count, kept_count, frame_count, frame_counted, counters_counted, grant_count, grant_counted, grant_weight, frame_units, frame_counts, grant_units, grant_counts, no_total, all_away, all_kept, Grant, PlainHeap, PoolCore, Frame, IsPartitioned, sum_by_agree}
use Rattle.pool_run.specs.Ties.{granted_to, held_by_party, FitsParty, IsAlone}
use Rattle.pool_run.specs.declared.running_party.RunningParty.{RunningParty}

module _ {P : Type 0} where
  units_of : (t : Thing) (o : Option (Grant P PlainHeap)) → granted_to (grant_weight (of_units t)) o ≡ granted_to (grant_count t) o
  units_of t None = refl
  units_of t (Some grant) = grant_units t grant

  counts_of : (n : Counts) (o : Option (Grant P PlainHeap)) → granted_to (grant_weight (of_counts n)) o ≡ granted_to (grant_counted n) o
  counts_of n None = refl
  counts_of n (Some grant) = grant_counts n grant

  pub live_units : (t : Thing) (live : List (Option (Grant P PlainHeap))) → sum_by (granted_to (grant_weight (of_units t))) live ≡ sum_by (granted_to (grant_count t)) live
  live_units t live = sum_by_agree (granted_to (grant_weight (of_units t))) (granted_to (grant_count t)) (units_of t) live

  pub live_counts : (n : Counts) (live : List (Option (Grant P PlainHeap))) → sum_by (granted_to (grant_weight (of_counts n))) live ≡ sum_by (granted_to (grant_counted n)) live
  live_counts n live = sum_by_agree (granted_to (grant_weight (of_counts n))) (granted_to (grant_counted n)) (counts_of n) live

  pub held_units : (t : Thing) (p : RunningParty P) → held_by_party p (of_units t) ≡ frame_count t p.frame + sum_by (granted_to (grant_count t)) p.live
  held_units t p = omega (arith, frame_units t p.frame, live_units t p.live)

  pub held_counts : (n : Counts) (p : RunningParty P) → held_by_party p (of_counts n) ≡ frame_counted n p.frame + sum_by (granted_to (grant_counted n)) p.live
  held_counts n p = omega (arith, frame_counts n p.frame, live_counts n p.live)

  -- what fits, of units and of what is counted
  pub fits_units : (c : PoolCore P PlainHeap) (p : RunningParty P) → FitsParty c p → (t : Thing) → kept_count t c + (frame_count t p.frame + sum_by (granted_to (grant_count t)) p.live) ≤ away_count t c
  fits_units c p fits t = omega (arith, fits.once (of_units t), held_units t p)

  pub fits_counts : (c : PoolCore P PlainHeap) (p : RunningParty P) → FitsParty c p → (n : Counts) → frame_counted n p.frame + sum_by (granted_to (grant_counted n)) p.live ≤ counters_counted n c.counters
  fits_counts c p fits n = omega (arith, fits.once (of_counts n), held_counts n p, no_total (all_away c.parts))

  -- the same of a party that is alone
  pub alone_units : (c : PoolCore P PlainHeap) (f : Frame P PlainHeap) (live : List (Option (Grant P PlainHeap))) → IsAlone c f live → (t : Thing) → kept_count t c + (frame_count t f + sum_by (granted_to (grant_count t)) live) ≡ away_count t c
  alone_units c f live alone t = omega (arith, alone.whole (of_units t), frame_units t f, live_units t live)

  pub alone_counts : (c : PoolCore P PlainHeap) (f : Frame P PlainHeap) (live : List (Option (Grant P PlainHeap))) → IsAlone c f live → (n : Counts) → counters_counted n c.counters ≡ frame_counted n f + sum_by (granted_to (grant_counted n)) live
  alone_counts c f live alone n = omega (arith, alone.whole (of_counts n), frame_counts n f, live_counts n live, no_total (all_away c.parts), no_total (all_kept c.parts))

  -- the counters are what all parties have counted
  pub counted_whole : (c : PoolCore P PlainHeap) (parties : List (RunningParty P)) → IsPartitioned held_by_party c parties → (n : Counts) → counters_counted n c.counters ≡ sum_by (λ p. held_by_party p (of_counts n)) parties
  counted_whole c parties whole n = omega (arith, whole (of_counts n), no_total (all_away c.parts), no_total (all_kept c.parts))
