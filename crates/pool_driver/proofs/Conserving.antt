-- What a step counts: the seat's additions less its subtractions stay what frame, answer and the rest have counted.
use Rattle.std.proofs.Common.{◌≡◌, ℕ, ◌+◌, ◌<◌, refl, ap, arith, Option, Some, None}
use Rattle.std.specs.Prelude.{◌-◌, ◌==◌}
use Rattle.pool_hall.specs.Step.{add_view, subtract_view}
use Rattle.pool_hall.specs.Sum.{one_if}
use Rattle.pool_hall.specs.Tally.{additions, subtractions, number}
use Rattle.pool_hall.specs.declared.unit_name.SlotKind.TheVariants.{Memory as memory_kind, Table as table_kind, Stack as stack_kind, Heap as heap_kind}
use Rattle.pool_hall.specs.declared.view.View.{View}
use Rattle.pool_slots.specs.ListUnits.{all_away, all_kept}
use Rattle.pool_alloc.specs.Places.{Counter, Counts, counted_instance, counted_component, counted_object, only, of_counts, frame_counted, counters_counted}
use Rattle.pool_alloc.specs.Stepping.{Conserves, count_granted, grant_counted, grant_weight}
use Rattle.pool_alloc.specs.Targets.{counted_up, number_at, with_number}
use Rattle.pool_alloc.specs.Turns.{After}
use Rattle.pool_alloc.specs.declared.counters.CounterName.{CounterName}
use Rattle.pool_alloc.specs.declared.counters.CounterName.TheVariants as counter
use Rattle.pool_alloc.specs.declared.frame.Frame.{Frame}
use Rattle.pool_alloc.specs.declared.frame.Outcome.{Outcome}
use Rattle.pool_alloc.specs.declared.frame.Outcome.TheVariants as answer
use Rattle.pool_alloc.specs.declared.pool_core.Counters.{Counters}
use Rattle.pool_alloc.specs.declared.pool_core.PoolCore.{PoolCore}
use Rattle.pool_alloc.proofs.Weights.{no_total, frame_counts, grant_counts}
use Rattle.pool_driver.specs.Driving.{HasCounted, counter_number, counter_of}

-- 1 where the counter counts this
abbrev pub is_counter : Counter → CounterName → ℕ
is_counter k name = one_if (counter_number (counter_of k) == counter_number name)

-- A number more or less at a counter is one more or less of what it counts.
pub rises : (k : Counter) (name : CounterName) (n : Counters) → counters_counted (only k) (with_number name (counted_up name (number_at name n)) n) ≡ counters_counted (only k) n + is_counter k name
rises counted_instance counter.CoreInstances n = omega arith
rises counted_instance name n = omega arith
rises counted_component counter.ComponentInstances n = omega arith
rises counted_component name n = omega arith
rises (counted_object memory_kind) counter.Memories n = omega arith
rises (counted_object memory_kind) name n = omega arith
rises (counted_object table_kind) counter.Tables n = omega arith
rises (counted_object table_kind) name n = omega arith
rises (counted_object stack_kind) counter.Stacks n = omega arith
rises (counted_object stack_kind) name n = omega arith
rises (counted_object heap_kind) counter.GcHeaps n = omega arith
rises (counted_object heap_kind) name n = omega arith

pub falls : (k : Counter) (name : CounterName) (n : Counters) → 0 < number_at name n → counters_counted (only k) (with_number name (number_at name n - 1) n) + is_counter k name ≡ counters_counted (only k) n
falls counted_instance counter.CoreInstances n some = omega (arith, some)
falls counted_instance name n some = omega arith
falls counted_component counter.ComponentInstances n some = omega (arith, some)
falls counted_component name n some = omega arith
falls (counted_object memory_kind) counter.Memories n some = omega (arith, some)
falls (counted_object memory_kind) name n some = omega arith
falls (counted_object table_kind) counter.Tables n some = omega (arith, some)
falls (counted_object table_kind) name n some = omega arith
falls (counted_object stack_kind) counter.Stacks n some = omega (arith, some)
falls (counted_object stack_kind) name n some = omega arith
falls (counted_object heap_kind) counter.GcHeaps n some = omega (arith, some)
falls (counted_object heap_kind) name n some = omega arith

module _ {P H : Type 0} where
  granted_counts : (n : Counts) (o : Option (Outcome P H)) → count_granted (grant_weight (of_counts n)) o ≡ count_granted (grant_counted n) o
  granted_counts n (Some (answer.Granted grant)) = grant_counts n grant
  granted_counts n (Some answer.Key) = refl
  granted_counts n (Some answer.Returned) = refl
  granted_counts n (Some (answer.Purged k)) = refl
  granted_counts n (Some (answer.Released k)) = refl
  granted_counts n (Some (answer.Refused e)) = refl
  granted_counts n None = refl

  -- What is counted more, the call has counted.
  pub conserves_counts : (c : PoolCore P H) (f : Frame P H) (a : After P H) → Conserves c f a → (n : Counts) → frame_counted n a.frame + count_granted (grant_counted n) a.outcome + counters_counted n c.counters ≡ frame_counted n f + counters_counted n a.core.counters
  conserves_counts c f a conserves n = omega (
    arith,
    conserves (of_counts n),
    no_total (all_away c.parts),
    no_total (all_kept c.parts),
    no_total (all_away a.core.parts),
    no_total (all_kept a.core.parts),
    frame_counts n f,
    frame_counts n a.frame,
    granted_counts n a.outcome,
  )

  module _ {T : Type 0} (counted : Counts) (v w : View T) (c : PoolCore P H) (f : Frame P H) (a : After P H) (conserves : Conserves c f a) where
    -- A step that counts nothing keeps this, and so does one that counts up or down.
    pub even_alike : a.core.counters ≡ c.counters → ((t : ℕ) → number (additions t) w ≡ number (additions t) v) → ((t : ℕ) → number (subtractions t) w ≡ number (subtractions t) v) → HasCounted counted v f None → HasCounted counted w a.frame a.outcome
    even_alike same adds subs even k = omega (
      arith,
      even k,
      conserves_counts c f a conserves (only k),
      ap (λ (n : Counters). counters_counted (only k) n) same,
      adds (counter_number (counter_of k)),
      subs (counter_number (counter_of k)),
    )

    pub even_up : (name : CounterName) (found : ℕ) → a.core.counters ≡ with_number name (counted_up name (number_at name c.counters)) c.counters → w ≡ add_view (counter_number name) found v → HasCounted counted v f None → HasCounted counted w a.frame a.outcome
    even_up name found is seen even k =
        let adds : number (additions (counter_number (counter_of k))) w ≡ is_counter k name + number (additions (counter_number (counter_of k))) v = ap (λ (z : View T). number (additions (counter_number (counter_of k))) z) seen in
        let subs : number (subtractions (counter_number (counter_of k))) w ≡ number (subtractions (counter_number (counter_of k))) v = ap (λ (z : View T). number (subtractions (counter_number (counter_of k))) z) seen in
        omega (arith, even k, conserves_counts c f a conserves (only k), ap (λ (n : Counters). counters_counted (only k) n) is, rises k name c.counters, adds, subs)

    pub even_down : (name : CounterName) → 0 < number_at name c.counters → a.core.counters ≡ with_number name (number_at name c.counters - 1) c.counters → w ≡ subtract_view (counter_number name) v → HasCounted counted v f None → HasCounted counted w a.frame a.outcome
    even_down name some is seen even k =
        let adds : number (additions (counter_number (counter_of k))) w ≡ number (additions (counter_number (counter_of k))) v = ap (λ (z : View T). number (additions (counter_number (counter_of k))) z) seen in
        let subs : number (subtractions (counter_number (counter_of k))) w ≡ is_counter k name + number (subtractions (counter_number (counter_of k))) v = ap (λ (z : View T). number (subtractions (counter_number (counter_of k))) z) seen in
        omega (arith, even k, conserves_counts c f a conserves (only k), ap (λ (n : Counters). counters_counted (only k) n) is, falls k name c.counters some, adds, subs)
