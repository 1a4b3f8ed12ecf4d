use Rattle.std.proofs.Common.{◌≡◌, [], take, drop}
use Rattle.pool_run.specs.Validity.{are_valid_after}
use Rattle.pool_run.proofs.validity.are_valid.Given as goal

abbrev pub invariant-loop-k : goal.invariant-loop-k
invariant-loop-k l = are_valid_after l.modules [] l.commands ≡ are_valid_after l.modules (take l.k l.commands) (drop l.k l.commands)
