-- The parts of a closed hall, as a core of which all was given back.
use Rattle.std.proofs.Common.{◌≡◌, ℕ, ◌*◌, ◌-◌, List, [], length, map, sym, ap, ◌∙◌, subst, arith, Option, Some}
use Rattle.std.specs.Prelude.{◌%◌, ◌^◌}
use Rattle.pool_hall.specs.Meaning.{AllStand}
use Rattle.pool_hall.specs.Moment.{Moment}
use Rattle.pool_hall.specs.Rule.{AwayIsKept}
use Rattle.pool_hall.specs.Tally.{additions, subtractions, number}
use Rattle.pool_hall.specs.declared.unit_name.SlotKind.TheVariants.{Memory as memory_kind, Table as table_kind, Stack as stack_kind, Heap as heap_kind}
use Rattle.pool_hall.specs.declared.view.View.{View}
use Rattle.pool_slots.specs.declared.part.PoolPart.{PoolPart}
use Rattle.pool_alloc.specs.BetweenSteps.{IsCore}
use Rattle.pool_alloc.specs.Closing.{IsGivenBack}
use Rattle.pool_alloc.specs.Places.{Counts, counters_counted, counted_instance, counted_component, counted_object}
use Rattle.pool_alloc.specs.declared.frame.FrameLists.{FrameLists}
use Rattle.pool_alloc.specs.declared.pool_core.PoolCore.{PoolCore}
use Rattle.pool_driver.specs.Counts.{count_in, counts_in, IsEven}
use Rattle.pool_driver.specs.Placed.{About, about_made, pool_meaning}
use Rattle.pool_driver.specs.Pools.{IsPool, core_of}
use Rattle.pool_driver.proofs.Cores.{all_weigh, core_is}

even_is_none : (a s n : ℕ) → a ≡ s → ((a - s) % 2 ^ 64) * n ≡ 0
even_is_none a s n e = let z : (a - s) % 2 ^ 64 ≡ 0 = omega (arith, e) in ap (λ k. k * n) z ∙ (omega arith)

-- nothing is counted where the counters are even
none_counted : {T : Type 0} (n : Counts) (v : View T) → IsEven v → counters_counted n (counts_in v) ≡ 0
none_counted n v even =
    let none : (c k : ℕ) → number (additions c) v ≡ number (subtractions c) v → count_in v c * k ≡ 0 = λ c k e. even_is_none (number (additions c) v) (number (subtractions c) v) k e in
    omega (
      arith,
      none 1 (n counted_instance) (even 1 (omega arith) (omega arith)),
      none 2 (n counted_component) (even 2 (omega arith) (omega arith)),
      none 3 (n (counted_object memory_kind)) (even 3 (omega arith) (omega arith)),
      none 4 (n (counted_object table_kind)) (even 4 (omega arith) (omega arith)),
      none 5 (n (counted_object stack_kind)) (even 5 (omega arith) (omega arith)),
      none 6 (n (counted_object heap_kind)) (even 6 (omega arith) (omega arith)),
    )

module _ {T P H : Type 0} (about : T → About) (inner : T → PoolPart P H) (made : List T) (limits : List ℕ) (parts : List T) (all : length parts ≡ length made) (stand : AllStand (pool_meaning about inner) made limits parts) (kept : AwayIsKept (pool_meaning about inner) made limits parts) where
  -- the last moment: nobody has anything
  abbrev last : Moment (pool_meaning about inner) made limits []
  last = record {
    now = parts;
    others = [];
    all = all;
    stand = stand;
    unit = λ u. let k = kept u in omega arith;
    own = λ u region some'. absurd (omega arith);
    beside = λ u region some'. absurd (omega arith);
  }

  module _ (a : About) (spare : Option (FrameLists P)) where
    -- nobody has anything of that core, where the counters are even
    given_back : (v : View T) → IsEven v → IsGivenBack (core_of a (counts_in v) spare (map inner parts))
    given_back v even w = let k = all_weigh about inner made limits [] last w.unit in let z = none_counted w.counts v even in omega arith

    is_core : about_made about made ≡ Some a → IsPool a (length made) → (v : View T) → IsCore a.maker (core_of a (counts_in v) spare (map inner parts))
    is_core of pool v = core_is about inner made limits [] last a of pool (counts_in v) spare

    -- So such a core can be closed.
    pub closes : about_made about made ≡ Some a → IsPool a (length made) → (v : View T) → IsEven v → (c : PoolCore P H) → c ≡ core_of a (counts_in v) spare (map inner parts) → IsCore a.maker c × IsGivenBack c
    closes of pool v even c is = (subst (IsCore a.maker) (sym is) (is_core of pool v), subst IsGivenBack (sym is) (given_back v even))
