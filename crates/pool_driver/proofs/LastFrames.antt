-- A seat that has nothing but an idle frame, and whose call wasn't granted, has no unit, and has subtracted as often as it has added.
use Rattle.std.proofs.Common.{◌≡◌, ℕ, zero, suc, List, [], ◌∷◌, refl, arith, Option}
use Rattle.pool_hall.specs.Sum.{total}
use Rattle.pool_hall.specs.Tally.{additions, subtractions, number}
use Rattle.pool_hall.specs.declared.unit_name.SlotKind.TheVariants.{Memory as memory_kind, Table as table_kind, Stack as stack_kind, Heap as heap_kind}
use Rattle.pool_hall.specs.declared.unit_name.UnitName.{UnitName}
use Rattle.pool_hall.specs.declared.view.View.{View}
use Rattle.pool_alloc.specs.Calls.{IsIdle}
use Rattle.pool_alloc.specs.Places.{Counter, Weight, counted_instance, counted_component, counted_object, frame_weight, of_counts, of_units, only}
use Rattle.pool_alloc.specs.Stepping.{count_granted, grant_count, grant_counted}
use Rattle.pool_alloc.specs.declared.frame.Frame.{Frame}
use Rattle.pool_alloc.specs.declared.frame.Grant.{Grant}
use Rattle.pool_alloc.specs.declared.frame.Outcome.{Outcome}
use Rattle.pool_alloc.proofs.BegunFrames.{at_rest, idle_weight}
use Rattle.pool_alloc.proofs.Weights.{frame_counts, frame_units}
use Rattle.pool_driver.specs.Counts.{IsEven}
use Rattle.pool_driver.specs.Driving.{IsDriven, alone_of, counter_number, counter_of}
use Rattle.pool_driver.specs.Placed.{About}

-- a list that weighs nothing, where each weighs one
none_there : (us : List UnitName) → total (λ u. 1) us ≡ 0 → us ≡ []
none_there [] none = refl
none_there (u ∷ us) none = absurd (omega (arith, none))

module _ {T P H : Type 0} (places : ℕ) (a : About) (v : View T) (f : Frame P H) (o : Option (Outcome P H)) (driven : IsDriven places (alone_of a) v f o) (idle : IsIdle f) (ungranted : (of : Grant P H → ℕ) → count_granted of o ≡ 0) where
  nothing : (w : Weight) → frame_weight w f ≡ 0
  nothing w = idle_weight w f idle (at_rest a.maker a.settings a.plan f driven.frame idle)

  pub no_units_left : v.units ≡ []
  no_units_left = none_there v.units (omega (arith, driven.carries.units (λ u. 1), ungranted (grant_count (λ u. 1)), nothing (of_units (λ u. 1)), frame_units (λ u. 1) f))

  even_at : (k : Counter) → number (additions (counter_number (counter_of k))) v ≡ number (subtractions (counter_number (counter_of k))) v
  even_at k = omega (arith, driven.counted k, ungranted (grant_counted (only k)), nothing (of_counts (only k)), frame_counts (only k) f)

  pub even_left : IsEven v
  even_left zero some' below = absurd (omega (arith, some'))
  even_left (suc zero) some' below = even_at counted_instance
  even_left (suc (suc zero)) some' below = even_at counted_component
  even_left (suc (suc (suc zero))) some' below = even_at (counted_object memory_kind)
  even_left (suc (suc (suc (suc zero)))) some' below = even_at (counted_object table_kind)
  even_left (suc (suc (suc (suc (suc zero))))) some' below = even_at (counted_object stack_kind)
  even_left (suc (suc (suc (suc (suc (suc zero)))))) some' below = even_at (counted_object heap_kind)
  even_left (suc (suc (suc (suc (suc (suc (suc c))))))) some' below = absurd (omega (arith, below))
