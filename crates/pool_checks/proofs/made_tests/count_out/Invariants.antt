use Rattle.std.proofs.Common.{◌≡◌, length}
use Rattle.pool_slots.specs.Flushes.{without_kind}
use Rattle.pool_checks.proofs.made_tests.count_out.Given as goal

abbrev pub invariant-loop-kind : goal.invariant-loop-kind
invariant-loop-kind g l = record {
  same : l.queue ≡ record l.fn.queue { slots = l.queue.slots };
  others : without_kind l.kind l.queue.slots ≡ without_kind l.kind l.fn.queue.slots;
}

abbrev pub decreases-loop-kind : goal.decreases-loop-kind
decreases-loop-kind g l = length l.queue.slots
