-- The first seat of a pool has a portion for each worker, and all portions again once theirs are joined to it.
use Rattle.std.proofs.Common.{◌≡◌, ℕ, ◌+◌, ◌<◌, ◌≤◌, List, [], length, ap, ◌∙◌, arith}
use Rattle.pool_pages.specs.MakerTold.{MakerTold}
use Rattle.pool_hall.specs.Rule.{first_view}
use Rattle.pool_hall.specs.Seat.{limits_of, made_with}
use Rattle.pool_hall.specs.Step.{left_with}
use Rattle.pool_hall.specs.Tally.{all_portions}
use Rattle.pool_hall.specs.declared.hall.Hall.{Hall}
use Rattle.pool_hall.specs.declared.view.View.{View}
use Rattle.pool_slots.specs.declared.listed_heaps.PlainHeap.{PlainHeap}
use Rattle.pool_alloc.specs.PlainModules.{ModuleAsked}
use Rattle.pool_driver.specs.declared.part.HallPart.{HallPart}
use Rattle.pool_driver.specs.declared.shared_pool.SharedPool.{SharedPool}
use Rattle.pool_run.specs.Validity.{most_parties}
use Rattle.pool_run.specs.declared.input.Input.{Input}
use Rattle.pool_run.proofs.Valid.{valid_parties}
use Rattle.pool_threads.specs.Sharing.{IsGround}
use Rattle.pool_workers.specs.Joined.{IsJoined, Shared}
use Rattle.pool_workers.proofs.Joined.{none_joined}

module _ {P M : Type 0} (told : M → MakerTold) (input : Input) (modules : List ModuleAsked) (pool : SharedPool (Hall (HallPart P PlainHeap M))) (v : View (HallPart P PlainHeap M)) (ground : IsGround told input modules pool) (first : v ≡ first_view (made_with pool.hall) (limits_of pool.hall)) where
  few : length input.parties ≤ most_parties
  few = valid_parties input ground.valid

  whole : v.portions ≡ all_portions
  whole = ap (λ (u : View (HallPart P PlainHeap M)). u.portions) first

  pub enough_portions : length input.parties < v.portions
  enough_portions = omega (arith, few, whole)

  module _ (w : View (HallPart P PlainHeap M)) (left : w ≡ left_with (length input.parties) v) where
    left_first : w ≡ left_with (length input.parties) (first_view (made_with pool.hall) (limits_of pool.hall))
    left_first = left ∙ ap (λ (u : View (HallPart P PlainHeap M)). left_with (length input.parties) u) first

    -- nothing is joined before,
    pub left_unjoined : (all : Shared) → IsJoined told all pool w []
    left_unjoined all =
        none_joined told all pool w (ap (λ (u : View (HallPart P PlainHeap M)). u.units) left_first) (ap (λ (u : View (HallPart P PlainHeap M)). u.rises) left_first) (ap (λ (u : View (HallPart P PlainHeap M)). u.added) left_first) (ap (λ (u : View (HallPart P PlainHeap M)). u.low) left_first) (ap (λ (u : View (HallPart P PlainHeap M)). u.subtracted) left_first)

    -- and all portions are, where so many workers are.
    pub whole_again : (n m : ℕ) → n ≡ w.portions + m → m ≡ length input.parties → n ≡ all_portions
    whole_again n m more count = omega (arith, more, count, few, whole, ap (λ (u : View (HallPart P PlainHeap M)). u.portions) left)
