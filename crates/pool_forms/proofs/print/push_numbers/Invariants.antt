use Rattle.std.proofs.Common.{◌≡◌, ◌++◌, string_bytes, drop}
use Rattle.pool_forms.specs.Output.{numbers_text, more_numbers}
use Rattle.pool_forms.proofs.print.push_numbers.Given as goal

abbrev pub invariant-loop-number : goal.invariant-loop-number
invariant-loop-number l = string_bytes l.out ++ more_numbers (drop l.number-index l.rest) ≡ string_bytes l.fn.out ++ numbers_text l.fn.numbers
