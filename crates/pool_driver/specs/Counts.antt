-- The counters of a pool's hall: their numbers, their limits, and what a seat with all portions knows of them.
use Rattle.std.specs.Prelude.{◌≡◌, ℕ, ◌-◌, ◌%◌, ◌^◌, ◌<◌, List, [], ◌∷◌}
use Rattle.pool_hall.specs.Tally.{additions, subtractions, number}
use Rattle.pool_hall.specs.declared.view.View.{View}
use Rattle.pool_alloc.specs.declared.pool_core.Counters.{Counters}
use Rattle.pool_alloc.specs.declared.pool_core.Settings.{Settings}

-- How many counters a pool has. Their numbers are in the order of the fields of `Counters`: the key has 0, core instances 1,
-- component instances 2, memories 3, tables 4, stacks 5 and heaps 6.
abbrev pub counter_total : ℕ
counter_total = 7

-- A limit that no count reaches below its end.
abbrev pub no_limit : ℕ
no_limit = 2 ^ 64 - 1

-- The limits of the counters: instances and components have their greatest numbers, and the others none.
abbrev pub counter_limits : Settings → List ℕ
counter_limits s = no_limit ∷ s.max_core_instances ∷ s.max_component_instances ∷ no_limit ∷ no_limit ∷ no_limit ∷ no_limit ∷ []

module _ {T : Type 0} where
  -- What a counter is, where the view has all portions.
  abbrev pub count_in : View T → ℕ → ℕ
  count_in v c = (number (additions c) v - number (subtractions c) v) % 2 ^ 64

  -- What all counters are then.
  abbrev pub counts_in : View T → Counters
  counts_in v = record {
    key = count_in v 0;
    core_instances = count_in v 1;
    component_instances = count_in v 2;
    memories = count_in v 3;
    tables = count_in v 4;
    stacks = count_in v 5;
    gc_heaps = count_in v 6;
  }

  -- Each counter but the key was subtracted from as often as added on.
  abbrev pub IsEven : View T → Type 0
  IsEven v = (c : ℕ) → 0 < c → c < counter_total → number (additions c) v ≡ number (subtractions c) v
