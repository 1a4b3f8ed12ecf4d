-- The units of live grants weigh what the grants weigh, and each region stands beside the right to its slot.
use Rattle.std.proofs.Common.{◌≡◌, List, [], ◌∷◌, Option, Some, None, refl, arith, sum_by}
use Rattle.std.proofs.lemmas.List.Sums.{sum_by-cons}
use Rattle.pool_hall.specs.Sum.{total}
use Rattle.pool_hall.specs.Unit.{pick_of, Beside}
use Rattle.pool_hall.proofs.Totals.{total_append}
use Rattle.pool_slots.specs.declared.listed_heaps.PlainHeap.{PlainHeap}
use Rattle.pool_alloc.specs.Places.{Thing}
use Rattle.pool_alloc.specs.Stepping.{grant_count}
use Rattle.pool_alloc.specs.declared.frame.Grant.{Grant}
use Rattle.pool_alloc.specs.declared.frame.Outcome.TheVariants.{Granted}
use Rattle.pool_driver.proofs.BesideRights.{pairs_answer, pairs_sum, this}
use Rattle.pool_callers.specs.GrantUnits.{grant_units}
use Rattle.pool_callers.proofs.GrantUnits.{units_weigh}
use Rattle.pool_run.specs.Ties.{granted_to}
use Rattle.pool_threads.specs.Working.{live_units}

module _ {P : Type 0} where
  pub live_weigh : (t : Thing) (live : List (Option (Grant P PlainHeap))) → total t (live_units live) ≡ sum_by (granted_to (grant_count t)) live
  live_weigh t [] = refl
  live_weigh t (None ∷ live) = omega (arith, live_weigh t live, sum_by-cons (granted_to (grant_count t)) None live)
  live_weigh t (Some grant ∷ live) = omega (arith, total_append t (grant_units grant) (live_units live), units_weigh t grant, live_weigh t live, sum_by-cons (granted_to (grant_count t)) (Some grant) live)

  pub live_beside : (live : List (Option (Grant P PlainHeap))) → Beside (live_units live)
  live_beside [] u region some' = absurd (omega arith)
  live_beside (None ∷ live) u region some' = live_beside live u region some'
  live_beside (Some grant ∷ live) u region some' =
      let here = total_append (this u) (grant_units grant) (live_units live) in
      let there = total_append (this (pick_of u)) (grant_units grant) (live_units live) in
      let its = units_weigh (this u) grant in
      let right = units_weigh (this (pick_of u)) grant in
      let both = pairs_sum (λ t. grant_count t grant) (λ t. total t (live_units live)) (pairs_answer (Some (Granted grant))) (live_beside live) u region (omega arith) in
      omega arith
