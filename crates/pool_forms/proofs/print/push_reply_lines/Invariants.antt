use Rattle.std.proofs.Common.{◌≡◌, ◌++◌, string_bytes, drop}
use Rattle.pool_forms.specs.Output.{reply_lines}
use Rattle.pool_forms.proofs.print.push_reply_lines.Given as goal

abbrev pub invariant-loop-command : goal.invariant-loop-command
invariant-loop-command l = string_bytes l.out ++ reply_lines l.allocator l.input l.party l.command (drop l.command l.replies) ≡ string_bytes l.fn.out ++ reply_lines l.fn.allocator l.fn.input l.party 0 l.replies
