-- A party at work can make a turn: on the core that it was told of last, with counters that count what the party has.
use Rattle.std.proofs.Common.{◌≡◌, ℕ, ◌+◌, List, [], ◌∷◌, length, Option, Some, None, refl, arith, sum_by}
use Rattle.std.proofs.lemmas.List.Sums.{sum_by-cons}
use native.Mathlib.Nat.{add-mul}
use Rattle.pool_hall.specs.declared.view.View.{View}
use Rattle.pool_hall.specs.declared.unit_name.SlotKind.TheVariants.{Memory as memory_kind, Table as table_kind, Stack as stack_kind, Heap as heap_kind}
use Rattle.pool_slots.specs.declared.listed_heaps.PlainHeap.{PlainHeap}
use Rattle.pool_alloc.specs.Places.{Counts, Weight, counted_component, counted_instance, counted_object, counters_counted, right_to, region_of}
use Rattle.pool_alloc.specs.Stepping.{grant_count, grant_counted, grant_weight}
use Rattle.pool_alloc.specs.declared.frame.Grant.{Grant}
use Rattle.pool_alloc.specs.declared.frame.Grant.TheVariants.{Instance, Component, Memory, Table, Stack, Heap, HeapOver}
use Rattle.pool_alloc.specs.declared.pool_core.Counters.{Counters}
use Rattle.pool_alloc.specs.declared.pool_core.PoolCore.{PoolCore}
use Rattle.pool_driver.specs.Driving.{counted_by}
use Rattle.pool_driver.proofs.Counted.{counts_frame}
use Rattle.pool_run.specs.Ties.{CanTurn, granted_to}
use Rattle.pool_run.specs.declared.running_party.RunningParty.{RunningParty}
use Rattle.pool_run.proofs.Parties.{live_regions}
use Rattle.pool_run.proofs.Running.{party_over}
use Rattle.pool_run.proofs.Weighed.{held_units}
use Rattle.pool_threads.specs.Working.{IsAtWork, Job, bare_pool}
use Rattle.pool_threads.proofs.LiveUnits.{live_weigh}

abbrev none_counted : Counters
none_counted = record { key = 0; core_instances = 0; component_instances = 0; memories = 0; tables = 0; stacks = 0; gc_heaps = 0 }

-- the counters of both
abbrev both : Counters → Counters → Counters
both x y = record {
  key = 0;
  core_instances = x.core_instances + y.core_instances;
  component_instances = x.component_instances + y.component_instances;
  memories = x.memories + y.memories;
  tables = x.tables + y.tables;
  stacks = x.stacks + y.stacks;
  gc_heaps = x.gc_heaps + y.gc_heaps;
}

both_count : (n : Counts) (x y : Counters) → counters_counted n (both x y) ≡ counters_counted n x + counters_counted n y
both_count n x y = omega (
  arith,
  add-mul x.core_instances y.core_instances (n counted_instance),
  add-mul x.component_instances y.component_instances (n counted_component),
  add-mul x.memories y.memories (n (counted_object memory_kind)),
  add-mul x.tables y.tables (n (counted_object table_kind)),
  add-mul x.stacks y.stacks (n (counted_object stack_kind)),
  add-mul x.gc_heaps y.gc_heaps (n (counted_object heap_kind)),
)

module _ {P : Type 0} where
  -- the counters that count a grant, and those that count live grants
  abbrev grant_counters : Grant P PlainHeap → Counters
  grant_counters (Instance lease) = record none_counted { core_instances = 1; memories = length lease.memories.items; tables = length lease.tables.items }
  grant_counters Component = record none_counted { component_instances = 1 }
  grant_counters (Memory lease) = record none_counted { memories = 1 }
  grant_counters (Table lease) = record none_counted { tables = 1 }
  grant_counters (Stack lease) = record none_counted { stacks = 1 }
  grant_counters (Heap lease memory) = record none_counted { gc_heaps = 1; memories = 1 }
  grant_counters (HeapOver lease) = record none_counted { gc_heaps = 1 }

  abbrev live_counters : List (Option (Grant P PlainHeap)) → Counters
  live_counters [] = none_counted
  live_counters (None ∷ live) = live_counters live
  live_counters (Some grant ∷ live) = both (grant_counters grant) (live_counters live)

  grant_counts : (n : Counts) (grant : Grant P PlainHeap) → grant_counted n grant ≡ counters_counted n (grant_counters grant)
  grant_counts n (Instance lease) = omega arith
  grant_counts n Component = omega arith
  grant_counts n (Memory lease) = omega arith
  grant_counts n (Table lease) = omega arith
  grant_counts n (Stack lease) = omega arith
  grant_counts n (Heap lease memory) = omega arith
  grant_counts n (HeapOver lease) = omega arith

  live_counts : (n : Counts) (live : List (Option (Grant P PlainHeap))) → sum_by (granted_to (grant_counted n)) live ≡ counters_counted n (live_counters live)
  live_counts n [] = omega arith
  live_counts n (None ∷ live) = omega (arith, live_counts n live, sum_by-cons (granted_to (grant_counted n)) None live)
  live_counts n (Some grant ∷ live) = omega (arith, grant_counts n grant, live_counts n live, both_count n (grant_counters grant) (live_counters live), sum_by-cons (granted_to (grant_counted n)) (Some grant) live)

  live_splits : (w : Weight) (live : List (Option (Grant P PlainHeap))) → sum_by (granted_to (grant_weight w)) live ≡ sum_by (granted_to (grant_count w.unit)) live + sum_by (granted_to (grant_counted w.counts)) live
  live_splits w [] = refl
  live_splits w (None ∷ live) = omega (arith, live_splits w live, sum_by-cons (granted_to (grant_weight w)) None live, sum_by-cons (granted_to (grant_count w.unit)) None live, sum_by-cons (granted_to (grant_counted w.counts)) None live)
  live_splits w (Some grant ∷ live) = omega (arith, live_splits w live, sum_by-cons (granted_to (grant_weight w)) (Some grant) live, sum_by-cons (granted_to (grant_count w.unit)) (Some grant) live, sum_by-cons (granted_to (grant_counted w.counts)) (Some grant) live)

  module _ {T : Type 0} (j : Job) (places : ℕ) (v : View T) (p : RunningParty P) (work : IsAtWork j places v p) where
    -- The core, with counters that count what the party has.
    abbrev pub counting_core : PoolCore P PlainHeap
    counting_core = record work.core { counters = both (counted_by p.frame) (live_counters p.live) }

    -- The party can make its turn there.
    pub can_turn_again : CanTurn j.world.maker counting_core p
    can_turn_again =
        let core = work.stands.can.core in
        record {
          core = record { settings = core.settings; page = core.page; plan = core.plan; stripes = core.stripes; parts = core.parts };
          party = party_over j.world.maker (bare_pool j) counting_core p (record { settings = work.stands.settings; plan = work.stands.plan }) work.party;
          fits = record {
            once = λ w. omega (arith, work.stands.away w.unit, live_weigh w.unit p.live, live_splits w p.live, live_counts w.counts p.live, counts_frame p.frame w.counts, both_count w.counts (counted_by p.frame) (live_counters p.live));
            others = λ name. omega (arith, work.stands.can.fits.others name, live_regions name p.live, held_units (right_to name) p, held_units (region_of name) p);
          };
        }
