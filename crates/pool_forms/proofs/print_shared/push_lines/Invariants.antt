use Rattle.std.proofs.Common.{◌≡◌, ◌++◌, string_bytes, drop}
use Rattle.pool_forms.specs.SharedOutput.{event_lines}
use Rattle.pool_forms.proofs.print_shared.push_lines.Given as goal

abbrev pub invariant-loop-event : goal.invariant-loop-event
invariant-loop-event l = string_bytes l.out ++ event_lines l.event (drop l.event l.replies) ≡ string_bytes l.fn.out ++ event_lines 0 l.replies
