-- When a memory or a table may grow, and what comes of a growth that fails.
use Rattle.std.specs.Prelude.{ℕ, nat_le, Bool, true, false, ◌&&◌, Option, Some, None, Result, Ok, Err}
use Rattle.pool_limits.specs.declared.growing.Growable.{Growable}
use Rattle.pool_limits.specs.declared.growing.Growable.TheVariants.{Memory, Table}
use Rattle.pool_limits.specs.declared.errors.LimiterError.{LimiterError}
use Rattle.pool_limits.specs.declared.errors.LimiterError.TheVariants.{MemoryGrow, TableGrow, MemoryGrowFailed, TableGrowFailed}

-- Fixed limits: the greatest size of a memory in bytes and of a table in elements, each where there is one, and
-- whether a growth that fails is an error.
pub record GrowthLimits : Type 0 where
  pub memory_size : Option ℕ
  pub table_elements : Option ℕ
  pub trap_on_grow_failure : Bool

-- how growth is decided: always yes, as without a limiter, or by fixed limits
pub data GrowthRule : Type 0 where
  always : GrowthRule
  limited_by : GrowthLimits → GrowthRule

-- the size is at most the bound, where there is one
abbrev pub is_within : Option ℕ → ℕ → Bool
is_within None size = true
is_within (Some bound) size = nat_le size bound

-- yes to what is allowed; otherwise no, or this error where failures are errors
abbrev pub growth_answer : Bool → LimiterError → Bool → Result Bool LimiterError
growth_answer trap e true = Ok true
growth_answer false e false = Ok false
growth_answer true e false = Err e

-- a reported failure is this error where failures are errors
abbrev pub failure_answer : Bool → LimiterError → Result (Unit {0}) LimiterError
failure_answer false e = Ok tt
failure_answer true e = Err e

-- What a limiter answers to a memory that is to grow to a size of which its type has a maximum, or none: what its rule
-- says, where it tells one, and otherwise what is given.
abbrev pub memory_answer : Option GrowthRule → Result Bool LimiterError → ℕ → Option ℕ → Result Bool LimiterError
memory_answer None given desired maximum = given
memory_answer (Some always) given desired maximum = Ok true
memory_answer (Some (limited_by l)) given desired maximum =
    growth_answer l.trap_on_grow_failure (MemoryGrow desired) (is_within l.memory_size desired && is_within maximum desired)

-- What a limiter of this rule answers to a number of elements and a maximum, or what was answered where no rule is
-- told.
abbrev pub table_answer : Option GrowthRule → Result Bool LimiterError → ℕ → Option ℕ → Result Bool LimiterError
table_answer None given desired maximum = given
table_answer (Some always) given desired maximum = Ok true
table_answer (Some (limited_by l)) given desired maximum =
    growth_answer l.trap_on_grow_failure (TableGrow desired) (is_within l.table_elements desired && is_within maximum desired)

-- what a limiter answers to the report that a memory's growth failed: likewise by its rule, or as given
abbrev pub memory_failure : Option GrowthRule → Result (Unit {0}) LimiterError → Result (Unit {0}) LimiterError
memory_failure None given = given
memory_failure (Some always) given = Ok tt
memory_failure (Some (limited_by l)) given = failure_answer l.trap_on_grow_failure MemoryGrowFailed

-- What a limiter of this rule answers to the report that a table failed to grow.
abbrev pub table_failure : Option GrowthRule → Result (Unit {0}) LimiterError → Result (Unit {0}) LimiterError
table_failure None given = given
table_failure (Some always) given = Ok tt
table_failure (Some (limited_by l)) given = failure_answer l.trap_on_grow_failure TableGrowFailed

-- What a limiter of this rule answers to the question whether a memory or a table may grow.
abbrev pub answer_by : Growable → Option GrowthRule → Result Bool LimiterError → ℕ → Option ℕ → Result Bool LimiterError
answer_by Memory rule given desired maximum = memory_answer rule given desired maximum
answer_by Table rule given desired maximum = table_answer rule given desired maximum

-- What a limiter of this rule answers to the report that a memory or a table failed to grow.
abbrev pub failure_by : Growable → Option GrowthRule → Result (Unit {0}) LimiterError → Result (Unit {0}) LimiterError
failure_by Memory rule given = memory_failure rule given
failure_by Table rule given = table_failure rule given
