-- The texts of refusals.
use Rattle.std.specs.Prelude.{ℕ, List, ◌++◌, codes}
use Rattle.std.specs.Fmt.{decimal}
use Rattle.pool_slots.specs.declared.errors.ConcurrencyKind.{ConcurrencyKind}
use Rattle.pool_slots.specs.declared.errors.ConcurrencyKind.TheVariants.{MemoryStripe, Tables, Fibers, GcHeaps, CoreInstances, ComponentInstances}
use Rattle.pool_slots.specs.declared.errors.PoolConcurrencyLimitError.{PoolConcurrencyLimitError}

-- What a limit is a limit of, as a refusal spells it.
abbrev pub kind_text : ConcurrencyKind → List ℕ
kind_text (MemoryStripe stripe) = codes "memory stripe " ++ decimal stripe
kind_text Tables = codes "tables"
kind_text Fibers = codes "fibers"
kind_text GcHeaps = codes "GC heaps"
kind_text CoreInstances = codes "core instances"
kind_text ComponentInstances = codes "component instances"

-- The text of a refusal for a limit that is reached: the limit, and what it is of.
abbrev pub limit_text : PoolConcurrencyLimitError → List ℕ
limit_text e = codes "maximum concurrent limit of " ++ decimal e.limit ++ codes " for " ++ kind_text e.kind ++ codes " reached"
