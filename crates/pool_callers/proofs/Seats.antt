-- Seats that are cut, joined, and made first.
use Rattle.std.proofs.Common.{◌≡◌, ℕ, zero, suc, ◌==◌, List, ◌++◌, refl, sym, ap, ◌∙◌, subst, arith, None}
use Rattle.pool_pages.specs.MakerTold.{MakerTold}
use Rattle.pool_hall.specs.Rule.{first_view}
use Rattle.pool_hall.specs.Step.{joined, left_with, newcomer}
use Rattle.pool_hall.specs.Tally.{additions, all_portions, number, subtractions}
use Rattle.pool_hall.specs.declared.unit_name.UnitName.{UnitName}
use Rattle.pool_hall.specs.declared.view.View.{View}
use Rattle.pool_hall.proofs.Moments.{beside_append}
use Rattle.pool_hall.proofs.Totals.{total_append}
use Rattle.pool_alloc.specs.Calls.{IsIdle, frame_made}
use Rattle.pool_alloc.specs.declared.frame.Frame.{Frame}
use Rattle.pool_hall.specs.declared.unit_name.SlotKind.TheVariants.{Memory as memory_kind, Table as table_kind, Stack as stack_kind, Heap as heap_kind}
use Rattle.pool_alloc.specs.Places.{Counter, counted_component, counted_instance, counted_object}
use Rattle.pool_driver.specs.Counts.{IsEven}
use Rattle.pool_driver.specs.Driving.{IsDriven, counter_number, counter_of}
use Rattle.pool_driver.specs.Placed.{About}
use Rattle.pool_driver.specs.Pools.{IsSharedOf}
use Rattle.pool_hall.specs.Sum.{one_if}
use Rattle.pool_callers.specs.Callers.{Allocator, HasNothing, about_pool, given_in, left_counted, maker_in}
use Rattle.pool_callers.proofs.Settling.{Within, again, fresh, within}

module _ {T P H : Type 0} (places : ℕ) (a : About) (v : View T) (f : Frame P H) (driven : IsDriven places (given_in a v) v f None) (idle : IsIdle f) where
  -- A seat that gives portions away has what it had,
  pub left_driven : (n : ℕ) → IsDriven places (given_in a (left_with n v)) (left_with n v) f None
  left_driven n = again places a v f driven idle (left_with n v) driven.carries.beside (within places a v f driven idle)

  -- the new one has nothing,
  pub fresh_driven : (n home : ℕ) → IsDriven places (given_in a (newcomer n v)) (newcomer n v) (frame_made {P = P} {H = H} home a.settings) None
  fresh_driven n home = fresh places a v f driven idle (newcomer n v) home refl (λ k. refl) (λ k. refl)

  -- and one to which another was joined has what both had.
  pub joined_driven : (w : View T) (g : Frame P H) → IsDriven places (given_in a w) w g None → IsIdle g → IsDriven places (given_in a (joined v w)) (joined v w) f None
  joined_driven w g other still = again places a v f driven idle (joined v w) (beside_append v.units w.units driven.carries.beside other.carries.beside)
      (λ k. omega (
        arith,
        within places a v f driven idle k,
        within places a w g other still k,
        total_append (λ m. one_if (counter_number (counter_of k) == m)) v.subtracted w.subtracted,
        total_append (λ m. one_if (counter_number (counter_of k) == m)) v.added w.added,
      ))

-- A seat that has counted nothing has subtracted on each counter as often as it has added.
module _ {T : Type 0} (v : View T) (in_v : Within v) (none : (k : Counter) → left_counted v k ≡ 0) where
  even_at : (k : Counter) → number (additions (counter_number (counter_of k))) v ≡ number (subtractions (counter_number (counter_of k))) v
  even_at k = omega (arith, in_v k, none k)

  pub even_of : IsEven v
  even_of zero some' below = absurd (omega (arith, some'))
  even_of (suc zero) some' below = even_at counted_instance
  even_of (suc (suc zero)) some' below = even_at counted_component
  even_of (suc (suc (suc zero))) some' below = even_at (counted_object memory_kind)
  even_of (suc (suc (suc (suc zero)))) some' below = even_at (counted_object table_kind)
  even_of (suc (suc (suc (suc (suc zero))))) some' below = even_at (counted_object stack_kind)
  even_of (suc (suc (suc (suc (suc (suc zero)))))) some' below = even_at (counted_object heap_kind)
  even_of (suc (suc (suc (suc (suc (suc (suc c))))))) some' below = absurd (omega (arith, below))

-- The first seat has nothing, and all portions.
pub first_nothing : {T : Type 0} (v : View T) (made : List T) (limits : List ℕ) → v ≡ first_view made limits → HasNothing v × (v.portions ≡ all_portions)
first_nothing v made limits is = subst (λ (w : View _). HasNothing w × (w.portions ≡ all_portions)) (sym is) (record { units = refl; counted = λ k. refl }, refl)

-- An allocator is of the pool that its parts tell of.
pub about_is : {P H M : Type 0} (told : M → MakerTold) (a : About) (p : Allocator P H M) → IsSharedOf told a p.pool → about_pool told p ≡ a
about_is told a p of = λ i. record { maker = ap maker_in of.hall.made i; settings = of.settings i; plan = of.plan i }

-- A seat that has nothing has nothing where it gives portions away, and neither has the new one; two that have nothing have nothing together.
module _ {T : Type 0} (v : View T) where
  pub nothing_left : (n : ℕ) → HasNothing v → HasNothing (left_with n v)
  nothing_left n none = record { units = none.units; counted = none.counted }

  pub nothing_new : (n : ℕ) → HasNothing (newcomer n v)
  nothing_new n = record { units = refl; counted = λ k. refl }

  pub nothing_joined : (w : View T) → HasNothing v → HasNothing w → HasNothing (joined v w)
  nothing_joined w none other = record {
    units = ap (λ (us : List UnitName). us ++ w.units) none.units ∙ other.units;
    counted = λ k. omega (
      arith,
      none.counted k,
      other.counted k,
      total_append (λ m. one_if (counter_number (counter_of k) == m)) v.added w.added,
      total_append (λ m. one_if (counter_number (counter_of k) == m)) v.subtracted w.subtracted,
    );
  }
