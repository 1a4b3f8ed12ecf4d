-- The input of a load, as a function of its seed.
use Rattle.std.specs.Prelude.{ℕ, ◌+◌, ◌*◌, List, [], ◌∷◌, map, replicate, true, false, Some, None}
use Rattle.std.specs.List.{flat_map, range_with_len}
use Rattle.pool_types.specs.Config.{default_config, default_instance_limits, default_offered, default_tunables}
use Rattle.pool_types.specs.declared.config.PoolingAllocationConfig.{PoolingAllocationConfig}
use Rattle.pool_types.specs.declared.module_types.IndexType.TheVariants.{I32}
use Rattle.pool_types.specs.declared.module_types.MemoryDecl.{MemoryDecl}
use Rattle.pool_types.specs.declared.module_types.ModuleInfo.{ModuleInfo}
use Rattle.pool_types.specs.declared.table_type.TableElementType.TheVariants.{Func}
use Rattle.pool_types.specs.declared.table_type.TableType.{TableType}
use Rattle.pool_run.specs.declared.command.Command.{Command}
use Rattle.pool_run.specs.declared.command.Command.TheVariants.{Instantiate, Write, Grow, Read, Drop}
use Rattle.pool_run.specs.declared.input.Input.{Input}
use Rattle.pool_run.specs.declared.input.Party.{Party}
use Rattle.pool_run.specs.declared.input.ScheduleEntry.{ScheduleEntry}
use Rattle.pool_load.specs.Draws.{drawn, state_after}

-- 100 memories of 655,360 bytes, 100 tables of 1,000 elements, 100 instances, and 16 ranges that are decommitted together
abbrev pub load_config : PoolingAllocationConfig
load_config = record default_config {
  limits = record default_instance_limits { total_core_instances = 100; total_memories = 100; total_tables = 100; max_memory_size = 655360; table_elements = 1000 };
  decommit_batch_size = 16;
}

-- a memory of m + 1 pages at least, with 64 bytes of the value m + 1 at its beginning
abbrev pub load_memory : ℕ → MemoryDecl
load_memory m = record {
  ty = record { idx_type = I32; limits = record { min = m + 1; max = None }; shared = false; page_size_log2 = 16 };
  image = Some (record { offset = 0; bytes = replicate 64 (m + 1) });
}

-- a table of so many functions at least
abbrev pub load_table : ℕ → TableType
load_table min = record { idx_type = I32; limits = record { min = min; max = None }; element = Func }

-- module m, which has such a memory, and a table of 10 functions for each page of it
abbrev pub load_module : ℕ → ModuleInfo
load_module m = record { memories = load_memory m ∷ []; tables = load_table (10 * (m + 1)) ∷ []; state_bytes = 0; parts = [] }

-- What a round commands, by five draws from the state x on: an instance of a module, eight like bytes written to its memory,
-- a growth of that, 16 bytes read from it, and the instance given back. The first of these commands has the number `of`.
unfoldable pub round : ℕ → ℕ → List Command
round of x =
    Instantiate (drawn 4 1 x)
    ∷ Write of 0 (drawn 65000 2 x) (replicate 8 (drawn 256 3 x))
    ∷ Grow of 0 (drawn 6 4 x)
    ∷ Read of 0 (drawn 65000 5 x) 16
    ∷ Drop of
    ∷ []

-- so many rounds, one after another, from the state x on
unfoldable pub rounds : ℕ → ℕ → List Command
rounds n x = flat_map (λ r. round (5 * r) (state_after (5 * r) x)) (range_with_len 0 n)

-- party p of a load, whose home is p, and which has 50 rounds of commands; the draws for the parties before it come first
unfoldable pub load_party : ℕ → ℕ → Party
load_party x p = record { home = p; limits = None; gc_faults = []; heap_faults = []; commands = rounds 50 (state_after (250 * p) x) }

-- so many parties
unfoldable pub load_parties : ℕ → ℕ → List Party
load_parties n x = map (load_party x) (range_with_len 0 n)

-- so many steps, each of the party that a draw from the state x on gives
unfoldable pub load_schedule : ℕ → ℕ → List ScheduleEntry
load_schedule n x = map (λ i. record { party = drawn 8 (i + 1) x; times = 1 }) (range_with_len 0 n)

-- The input of a load: four modules, eight parties, and after their commands 20,000 steps of the schedule are drawn.
unfoldable pub load_input : ℕ → Input
load_input seed = record {
  page = 4096;
  shards = 16;
  config = load_config;
  tunables = default_tunables;
  offered = default_offered;
  modules = map load_module (range_with_len 0 4);
  parties = load_parties 8 seed;
  schedule = load_schedule 20000 (state_after 2000 seed);
  finish = true;
  faults = [];
}
