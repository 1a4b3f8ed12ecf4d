-- What the one measure says of what is counted alone, and of units alone.
use Rattle.std.proofs.Common.{◌≡◌, ◌+◌, ◌≤◌, ℕ, List, [], ◌∷◌, refl, arith, Option, Some, None, sum_by, remove}
use Rattle.pool_alloc.proofs.Imports.{UnitName, total, all_away, all_kept, units_of_slots, sum_by-cons}
use Rattle.pool_alloc.specs.Places.{Thing, Counts, of_units, of_counts, kept_count, away_count, frame_count, frame_counted, frame_weight, phase_count, phase_counted, purge_count, release_count, counters_counted}
use Rattle.pool_alloc.specs.BetweenSteps.{FitsCore}
use Rattle.pool_alloc.specs.Stepping.{Conserves, count_granted, grant_count, grant_counted, grant_weight}
use Rattle.pool_alloc.specs.Turns.{After}
use Rattle.pool_alloc.specs.PoolAndHolders.{IsPartitioned, held_by_grant}
use Rattle.pool_alloc.specs.declared.frame.Frame.{Frame}
use Rattle.pool_alloc.specs.declared.frame.Grant.{Grant}
use Rattle.pool_alloc.specs.declared.frame.Grant.TheVariants.{Instance, Memory, Table, Stack, Heap, HeapOver, Component}
use Rattle.pool_alloc.specs.declared.frame.Outcome.{Outcome}
use Rattle.pool_alloc.specs.declared.frame.Outcome.TheVariants as answer
use Rattle.pool_alloc.specs.declared.frame.Phase.{Phase}
use Rattle.pool_alloc.specs.declared.frame.Phase.TheVariants.{UncountObject, UncountHeap, PutHeap, FreeHeap, UncountComponent, Purge, Release}
use Rattle.pool_alloc.specs.declared.pool_core.PoolCore.{PoolCore}
use Rattle.pool_alloc.specs.declared.purge.PurgeStep.{PurgeStep}
use Rattle.pool_alloc.specs.declared.purge.PurgeStep.TheVariants as purging_step
use Rattle.pool_alloc.specs.declared.release.ReleaseStep.{ReleaseStep}
use Rattle.pool_alloc.specs.declared.release.ReleaseStep.TheVariants as releasing_step

-- units that weigh nothing
no_sum : {X : Type 0} (xs : List X) → sum_by (λ (x : X). 0) xs ≡ 0
no_sum [] = refl
no_sum {X = X} (x ∷ xs) = omega (arith, sum_by-cons (λ (y : X). 0) x xs, no_sum xs)

pub no_total : (us : List UnitName) → total (λ u. 0) us ≡ 0
no_total [] = refl
no_total (u ∷ us) = omega (arith, no_total us)

same_sums : {X : Type 0} (f g : X → ℕ) (xs : List X) → ((x : X) → f x ≡ g x) → sum_by f xs ≡ sum_by g xs
same_sums f g [] each = refl
same_sums f g (x ∷ xs) each = omega (arith, sum_by-cons f x xs, sum_by-cons g x xs, each x, same_sums f g xs each)

module _ {P : Type 0} where
  no_purge : (step : PurgeStep P) → purge_count (λ u. 0) step ≡ 0
  no_purge (purging_step.Pick tried) = refl
  no_purge (purging_step.TakeRegion name) = refl
  no_purge (purging_step.Forget at held) = refl
  no_purge (purging_step.PutRegion at held) = refl
  no_purge (purging_step.Free name) = refl

  no_release : (step : ReleaseStep P) → release_count (λ u. 0) step ≡ 0
  no_release releasing_step.Reserve = refl
  no_release (releasing_step.TakeWarm r j) = no_sum r.taken.items
  no_release (releasing_step.TakeRegion r k) = no_sum r.taken.items
  no_release (releasing_step.Decommit r k at held) = omega (arith, no_sum (remove r.taken.items k))
  no_release (releasing_step.PutRegion r k at held) = omega (arith, no_sum (remove r.taken.items k))
  no_release (releasing_step.Free r x) = omega (arith, no_sum r.taken.items)

module _ {P H : Type 0} where
  -- what a frame has counted is counted
  pub counted_fits : (c : PoolCore P H) (f : Frame P H) → FitsCore c f → (n : Counts) → frame_counted n f ≤ counters_counted n c.counters
  counted_fits c f fits n = omega (arith, fits.once (of_counts n), no_total (all_away c.parts))

  none_in_phase : (p : Phase P H) → phase_counted (λ k. 0) p ≡ 0
  none_in_phase (UncountObject object) = refl
  none_in_phase (UncountHeap lease (Some memory)) = refl
  none_in_phase (UncountHeap lease None) = refl
  none_in_phase (PutHeap lease (Some memory)) = refl
  none_in_phase (PutHeap lease None) = refl
  none_in_phase (FreeHeap name memory) = refl
  none_in_phase UncountComponent = refl
  none_in_phase p = refl

  none_counted_by : (f : Frame P H) → frame_counted (λ k. 0) f ≡ 0
  none_counted_by f = omega (arith, none_in_phase f.phase)

  -- units alone
  pub frame_units : (t : Thing) (f : Frame P H) → frame_weight (of_units t) f ≡ frame_count t f
  frame_units t f = omega (arith, none_counted_by f)

  pub grant_units : (t : Thing) (g : Grant P H) → grant_weight (of_units t) g ≡ grant_count t g
  grant_units t (Instance lease) = omega arith
  grant_units t Component = omega arith
  grant_units t (Memory lease) = omega arith
  grant_units t (Table lease) = omega arith
  grant_units t (Stack lease) = omega arith
  grant_units t (Heap lease memory) = omega arith
  grant_units t (HeapOver lease) = omega arith

  pub granted_units : (t : Thing) (o : Option (Outcome P H)) → count_granted (grant_weight (of_units t)) o ≡ count_granted (grant_count t) o
  granted_units t (Some (answer.Granted grant)) = grant_units t grant
  granted_units t (Some answer.Key) = refl
  granted_units t (Some answer.Returned) = refl
  granted_units t (Some (answer.Purged n)) = refl
  granted_units t (Some (answer.Released n)) = refl
  granted_units t (Some (answer.Refused e)) = refl
  granted_units t None = refl

  -- The law of places.
  pub conserves_units : (c : PoolCore P H) (f : Frame P H) (a : After P H) → Conserves c f a → (t : Thing) → kept_count t a.core + (frame_count t a.frame + count_granted (grant_count t) a.outcome) + away_count t c ≡ kept_count t c + frame_count t f + away_count t a.core
  conserves_units c f a b t = omega (arith, b (of_units t), frame_units t f, frame_units t a.frame, granted_units t a.outcome)

  no_units : (p : Phase P H) → phase_count (λ u. 0) p ≡ 0
  no_units (Purge p step) = no_purge step
  no_units (Release step) = no_release step
  no_units (UncountHeap lease (Some memory)) = refl
  no_units (UncountHeap lease None) = refl
  no_units (PutHeap lease (Some memory)) = refl
  no_units (PutHeap lease None) = refl
  no_units p = refl

  -- what is counted alone
  pub frame_counts : (n : Counts) (f : Frame P H) → frame_weight (of_counts n) f ≡ frame_counted n f
  frame_counts n f = omega (arith, no_sum f.objects.memories.items, no_sum f.objects.tables.items, no_total (units_of_slots f.local.slots), no_sum f.freed.items, no_units f.phase)

  pub grant_counts : (n : Counts) (g : Grant P H) → grant_weight (of_counts n) g ≡ grant_counted n g
  grant_counts n (Instance lease) = omega (arith, no_sum lease.memories.items, no_sum lease.tables.items)
  grant_counts n Component = omega arith
  grant_counts n (Memory lease) = omega arith
  grant_counts n (Table lease) = omega arith
  grant_counts n (Stack lease) = omega arith
  grant_counts n (Heap lease memory) = omega arith
  grant_counts n (HeapOver lease) = omega arith

  -- the counters count the live grants
  pub counted_grants : (c : PoolCore P H) (grants : List (Grant P H)) → IsPartitioned held_by_grant c grants → (n : Counts) → counters_counted n c.counters ≡ sum_by (grant_counted n) grants
  counted_grants c grants whole n = omega (arith, whole (of_counts n), no_total (all_kept c.parts), no_total (all_away c.parts), same_sums (λ g. grant_weight (of_counts n) g) (grant_counted n) grants (grant_counts n))
