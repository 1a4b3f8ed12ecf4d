use Rattle.std.proofs.Common.{◌+◌, ◌≤◌, length, slice_range, ap, arith}
use Rattle.pool_pages.proofs.Puts.{length-range}
use Rattle.pool_pages.proofs.DenseCalls.{written_again}
use Rattle.pool_pages.proofs.dense_pages.DensePages.restore.Goals as goal

pub invariant_of-self : goal.invariant_of-self
invariant_of-self c =
    let i = c.self.inside in
    let fits : c.args.start + c.args.len ≤ length i.bytes = omega (arith, c.requires, ap (λ x. length x.bytes) c.self.view_is) in
    written_again c.self.inside.page c.get-page.result c.self.inside.bytes c.self.inside.origin c.self.inside.accessible.items c.self.inside.dirty.items c.self.inside.colour.items c.args.self.now c.get-page.ensures.value c.self.view_is c.self.invariant c.get-page.ensures.valid
    c.args.start c.args.len c.touched_pages-count.result (slice_range i.origin c.args.start (c.args.start + c.args.len)) c.restore.new.self c.set_marks.new.marks.items
    (omega (arith, fits, c.self.invariant.origin, length-range i.origin c.args.start (c.args.start + c.args.len) (omega (arith, fits, c.self.invariant.origin))))
    c.requires c.touched_pages-count.ensures c.restore.ensures c.set_marks.ensures

pub returns-clause-shaped : goal.returns-clause-shaped
returns-clause-shaped c = invariant_of-self c
