use Rattle.std.proofs.Common.{◌≡◌, ◌+◌, ◌-◌, ◌≤◌, ◌++◌, vec_len}
use Rattle.std.specs.Option.{option_map}
use Rattle.pool_forms.specs.declared.transfers.TheConstants.{MOST_INPUT}
use Rattle.pool_forms.proofs.transfers.read_all.Given as goal

abbrev pub invariant-turns : goal.invariant-turns
invariant-turns g l = record {
  fits : vec_len l.bytes ≤ MOST_INPUT;
  rest : option_map (λ rest. l.bytes.items ++ rest) (g.S.Source.told l.source).rest ≡ (g.S.Source.told l.fn.source).rest;
  faults : (g.S.Source.told l.source).faults ≡ (g.S.Source.told l.fn.source).faults;
}

abbrev pub decreases-turns : goal.decreases-turns
decreases-turns g l = MOST_INPUT + 1 - vec_len l.bytes
