-- A look at parts leaves a caller's seat what it had.
use Rattle.std.proofs.Common.{◌≡◌, ℕ, ◌-◌, ◌==◌, Bool, true, false, refl, ap, arith, if◌then◌else◌, slice_index}
use Rattle.pool_hall.specs.Sum.{often}
use Rattle.pool_hall.specs.Tally.{rise, rise_at}
use Rattle.pool_hall.specs.declared.view.CountRise.{CountRise}
use Rattle.pool_hall.specs.declared.view.View.{View}
use Rattle.pool_alloc.specs.Places.{Counter}
use Rattle.pool_driver.specs.Driving.{counter_number, counter_of}
use Rattle.pool_driver.specs.Looking.{HasLooked, IsFlat}
use Rattle.pool_callers.specs.Callers.{IsKept, left_counted}

none_if : (b : Bool) (n : ℕ) → n ≡ 0 → (if b then n else 0) ≡ 0
none_if true n none = none
none_if false n none = refl

flat_rise : (q i : ℕ) (e : CountRise) → IsFlat e → rise_at q i e ≡ 0
flat_rise q i e flat = none_if (q == e.place) (rise (slice_index e.before i) (slice_index e.after i)) (flat i)

pub looks_keep : {T : Type 0} (v w : View T) → HasLooked v w → IsKept v w
looks_keep v w looked = record {
  keeps = record {
    units = λ t. looked.units t;
    counted = λ k. omega (arith, ap (often (counter_number (counter_of k))) looked.added, ap (often (counter_number (counter_of k))) looked.subtracted);
  };
  goes = record {
    portions = looked.portions;
    more = record { counts = λ q i. omega (arith, looked.rises (rise_at q i) (flat_rise q i)); noted = looked.noted };
  };
}
