use Rattle.std.proofs.Common.{◌+◌, ◌≤◌, length, ap, ◌∙◌, arith}
use Rattle.pool_pages.specs.Contents.{put_all}
use Rattle.pool_pages.specs.Dense.{with_zeros}
use Rattle.pool_pages.proofs.Prefixes.{length-with_zeros, fill_in_prefix}
use Rattle.pool_pages.proofs.column.Column.fill.Goals as goal

pub returns : goal.returns
returns c =
    let fits : c.args.from + c.args.count ≤ c.self.inside.len = omega (arith, c.requires, ap length c.self.view_is, length-with_zeros c.self.inside.len c.self.inside.prefix.items c.self.invariant.inside) in
    ap (λ p. with_zeros c.self.inside.len p) (c.fill_range.ensures.items ∙ ap (λ p. put_all c.args.from c.args.count c.args.value p) c.lengthen.ensures.items)
    ∙ fill_in_prefix c.self.inside.len c.args.from c.args.count c.args.value c.self.inside.prefix.items c.self.invariant.inside fits
    ∙ ap (λ xs. put_all c.args.from c.args.count c.args.value xs) c.self.view_is
