use Rattle.std.proofs.Common.{◌+◌, ◌≤◌, length, ap, ◌∙◌, arith, slice_range}
use Rattle.pool_pages.specs.Dense.{with_zeros}
use Rattle.pool_pages.proofs.Prefixes.{length-with_zeros, range-with_zeros}
use Rattle.pool_pages.proofs.column.Column.kept_part.Goals as goal

pub returns-clause-value : goal.returns-clause-value
returns-clause-value c =
    let fits : c.args.from + c.args.count ≤ c.self.inside.len = omega (arith, c.requires, ap length c.self.view_is, length-with_zeros c.self.inside.len c.self.inside.prefix.items c.self.invariant.inside) in
    ap (λ p. with_zeros c.args.count (slice_range p c.min-first.result c.min-last.result)) c.as_slice-prefix.ensures.value
    ∙ range-with_zeros c.self.inside.len c.args.from c.args.count c.min-first.result c.min-last.result c.self.inside.prefix.items c.self.invariant.inside fits (omega arith) (omega arith)
    ∙ ap (λ xs. slice_range xs c.args.from (c.args.from + c.args.count)) c.self.view_is
