use Rattle.pool_pages.proofs.DenseCalls.{range_fits, colour_again}
use Rattle.pool_pages.proofs.dense_pages.DensePages.recolour.Goals as goal

pub fill_range-requires : goal.fill_range-requires
fill_range-requires c =
    (range_fits c.self.inside.page c.get-page.result c.self.inside.bytes c.self.inside.origin c.self.inside.accessible.items c.self.inside.dirty.items c.self.inside.colour.items c.args.self.now c.get-page.ensures.value c.self.view_is c.self.invariant c.get-page.ensures.valid c.args.start c.args.len c.requires.start c.requires.len c.requires.inside).2

pub invariant_of-self : goal.invariant_of-self
invariant_of-self c =
    colour_again c.self.inside.page c.get-page.result c.self.inside.bytes c.self.inside.origin c.self.inside.accessible.items c.self.inside.dirty.items c.self.inside.colour.items c.args.self.now c.get-page.ensures.value c.self.view_is c.self.invariant c.get-page.ensures.valid c.args.start c.args.len c.requires.start c.requires.len c.requires.inside c.args.colour c.fill_range.new.bytes.items c.fill_range.ensures.items

pub returns-clause-shaped : goal.returns-clause-shaped
returns-clause-shaped c = invariant_of-self c
