-- Tests by rules.
use Rattle.std.specs.Prelude.{Option, Some, None, Result, Ok, Err}
use Rattle.pool_types.specs.declared.unsupported.Unsupported.{Unsupported}

-- A test is passed where no rule is broken, and tells the first that is.
abbrev pub unless_broken : Option Unsupported → Result (Unit {0}) Unsupported
unless_broken None = Ok tt
unless_broken (Some rule) = Err rule
