-- A step of a call forgets nothing of what its seat has noted.
use Rattle.std.proofs.Common.{ℕ, ◌+◌, ◌≤◌, Bool, true, false, refl, sym, subst, arith, List, ◌∷◌, Option}
use Rattle.std.specs.Prelude.{if◌then◌else◌, ◌==◌, nat_lt, slice_index}
use Rattle.pool_limits.specs.Exchanges.{Exchange}
use Rattle.pool_hall.specs.Sum.{often, one_if, total}
use Rattle.pool_hall.specs.declared.view.View.{View}
use Rattle.pool_slots.specs.declared.part.PoolPart.{PoolPart}
use Rattle.pool_alloc.specs.PartyTold.{PartyTold}
use Rattle.pool_alloc.specs.declared.frame.Frame.{Frame}
use Rattle.pool_alloc.specs.declared.frame.Outcome.{Outcome}
use Rattle.pool_driver.specs.Driving.{Change, changed, counted as counter_up, uncounted as counter_down, unchanged, SeesStep, counter_number, view_after}
use Rattle.pool_driver.specs.Placed.{About, part_topped}
use Rattle.pool_threads.specs.Noted.{Grows}
use Rattle.pool_threads.proofs.Adds.{grows_still}

-- a list with one more, or without
one_more : (b : Bool) (q p : ℕ) (xs : List ℕ) → often q xs ≤ often q (if b then p ∷ xs else xs)
one_more true q p xs = omega arith
one_more false q p xs = omega arith

-- an addition that may be low
maybe_low : (b : Bool) (c d : ℕ) (added low : List ℕ) → often c added + often c (if b then d ∷ low else low) ≤ often c (d ∷ added) + often c low
maybe_low true c d added low = omega arith
maybe_low false c d added low = omega arith

still : (n : ℕ) → n ≤ n
still n = omega arith

more : {X : Type 0} (weigh : X → ℕ) (x : X) (xs : List X) → total weigh xs ≤ total weigh (x ∷ xs)
more weigh x xs = omega arith

module _ {T P H : Type 0} (about : T → About) (inner : T → PoolPart P H) (v : View T) where
  grows_after : (change : Change T) → Grows v (view_after about inner change v)
  grows_after (changed p x y) = record { rises = λ weigh. more weigh _ v.rises; noted = λ q. one_more (part_topped (inner y)) q p v.topped; over = λ c. still _; counted_off = λ c. still _; portions = refl }
  grows_after (counter_up name found) = record {
    rises = λ weigh. still _;
    noted = λ q. still _;
    over = λ c. maybe_low (nat_lt found (slice_index v.limits (counter_number name))) c (counter_number name) v.added v.low;
    counted_off = λ c. still _;
    portions = refl;
  }
  grows_after (counter_down name) = record { rises = λ weigh. still _; noted = λ q. still _; over = λ c. still _; counted_off = λ c. more (λ (m : ℕ). one_if (c == m)) (counter_number name) v.subtracted; portions = refl }
  grows_after unchanged = grows_still v

  pub grows_step : (Passes : List Exchange → Type 0) (old new : PartyTold) (a : About) (w : View T) (f next : Frame P H) (o : Option (Outcome P H)) → SeesStep about inner Passes old new a v w f next o → Grows v w
  grows_step Passes old new a w f next o sees = subst (Grows v) (sym sees.view) (grows_after sees.change)
