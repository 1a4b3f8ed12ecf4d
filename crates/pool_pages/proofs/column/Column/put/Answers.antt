use Rattle.std.proofs.Common.{◌≡◌, ◌+◌, ◌-◌, ◌≤◌, ◌++◌, length, take, min, ap, ◌∙◌, arith}
use Rattle.pool_pages.specs.Contents.{put}
use Rattle.pool_pages.specs.Dense.{with_zeros}
use Rattle.pool_pages.proofs.Prefixes.{length-with_zeros, put_and_append}
use Rattle.pool_pages.proofs.column.Column.put.Goals as goal

pub returns : goal.returns
returns c =
    let n = c.self.inside.len in
    let p = c.self.inside.prefix.items in
    let i = c.args.from in
    let k = c.min-inside.result in
    let ys = c.args.bytes.now in
    let fits : c.args.from + length c.args.bytes.now ≤ c.self.inside.len = omega (arith, c.requires, ap length c.self.view_is, length-with_zeros c.self.inside.len c.self.inside.prefix.items c.self.invariant.inside) in
    let split : c.min-inside.result ≡ min (length (with_zeros c.args.from c.self.inside.prefix.items) - c.args.from) (length c.args.bytes.now) = omega (arith, c.min-inside.ensures, c.len.ensures, ap length c.lengthen.ensures.items) in
    ap (with_zeros n) (
    c.append.ensures.items
    ∙ ap (λ q. q ++ c.split_at.result.1.now) (c.overwrite.ensures.items ∙ ap (λ q. put i c.split_at.result.0.now q) c.lengthen.ensures.items ∙ ap (λ zs. put i zs (with_zeros i p)) c.split_at.ensures.front)
    ∙ ap (λ zs. put i (take k ys) (with_zeros i p) ++ zs) c.split_at.ensures.back)
    ∙ put_and_append n i k p ys c.self.invariant.inside fits split
    ∙ ap (λ xs. put i ys xs) c.self.view_is
