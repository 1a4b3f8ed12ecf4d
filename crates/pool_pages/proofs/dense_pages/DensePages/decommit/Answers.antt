use Rattle.pool_pages.proofs.DenseCalls.{range_fits, decommitted_again}
use Rattle.pool_pages.proofs.dense_pages.DensePages.decommit.Goals as goal

pub restore_pages-requires-clause-marks : goal.restore_pages-requires-clause-marks
restore_pages-requires-clause-marks c =
    (range_fits c.self.inside.page c.get-page.result c.self.inside.bytes c.self.inside.origin c.self.inside.accessible.items c.self.inside.dirty.items c.self.inside.colour.items c.args.self.now c.get-page.ensures.value c.self.view_is c.self.invariant c.get-page.ensures.valid c.args.start c.args.len c.requires.start c.requires.len c.requires.inside).1

pub invariant_of-self : goal.invariant_of-self
invariant_of-self c =
    decommitted_again c.self.inside.page c.get-page.result c.self.inside.bytes c.self.inside.origin c.self.inside.accessible.items c.self.inside.dirty.items c.self.inside.colour.items c.args.self.now c.get-page.ensures.value c.self.view_is c.self.invariant c.get-page.ensures.valid c.args.start c.args.len c.requires.start c.requires.len c.requires.inside c.restore_pages.new.bytes c.restore_pages.new.dirty.items c.restore_pages.ensures.bytes c.restore_pages.ensures.dirty

pub returns-clause-shaped : goal.returns-clause-shaped
returns-clause-shaped c = invariant_of-self c
