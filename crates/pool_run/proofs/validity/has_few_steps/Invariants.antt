use Rattle.std.proofs.Common.{◌≡◌, length, drop, nat_le}
use Rattle.pool_run.specs.Schedules.{turns_of}
use Rattle.pool_run.specs.Validity.{most_steps}
use Rattle.pool_run.proofs.validity.has_few_steps.Given as goal

abbrev pub invariant-loop-entry : goal.invariant-loop-entry
invariant-loop-entry l = nat_le (length (turns_of (drop l.entry-index l.schedule))) l.left ≡ nat_le (length (turns_of l.schedule)) most_steps
