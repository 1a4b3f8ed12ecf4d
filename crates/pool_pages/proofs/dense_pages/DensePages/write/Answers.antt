use Rattle.std.proofs.Common.{length, refl}
use Rattle.pool_pages.proofs.DenseCalls.{written_again}
use Rattle.pool_pages.proofs.dense_pages.DensePages.write.Goals as goal

pub invariant_of-self : goal.invariant_of-self
invariant_of-self c =
    written_again c.self.inside.page c.get-page.result c.self.inside.bytes c.self.inside.origin c.self.inside.accessible.items c.self.inside.dirty.items c.self.inside.colour.items c.args.self.now c.get-page.ensures.value c.self.view_is c.self.invariant c.get-page.ensures.valid
    c.args.start (length c.args.bytes.now) c.touched_pages-count.result c.args.bytes.now c.put.new.self c.set_marks.new.marks.items
    refl c.requires c.touched_pages-count.ensures c.put.ensures c.set_marks.ensures

pub returns-clause-shaped : goal.returns-clause-shaped
returns-clause-shaped c = invariant_of-self c
