use Rattle.std.proofs.Common.{◌≡◌, ◌++◌, string_bytes, drop}
use Rattle.pool_forms.specs.Output.{party_lines}
use Rattle.pool_forms.proofs.print.push_party_lines.Given as goal

abbrev pub invariant-loop-party : goal.invariant-loop-party
invariant-loop-party l = string_bytes l.out ++ party_lines l.allocator l.input l.party (drop l.party l.parties) ≡ string_bytes l.fn.out ++ party_lines l.fn.allocator l.fn.input 0 l.parties
