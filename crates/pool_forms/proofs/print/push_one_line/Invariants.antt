use Rattle.std.proofs.Common.{◌≡◌, ◌++◌, string_bytes, length}
use Rattle.std.specs.Str.{IsUtf8}
use Rattle.pool_forms.specs.Output.{one_line}
use Rattle.pool_forms.proofs.print.push_one_line.Given as goal

abbrev pub invariant-parts : goal.invariant-parts
invariant-parts l = record {
  text : IsUtf8 l.rest;
  same : string_bytes l.out ++ one_line l.rest ≡ string_bytes l.fn.out ++ one_line l.fn.text;
}

abbrev pub decreases-parts : goal.decreases-parts
decreases-parts l = length l.rest
