use Rattle.std.proofs.Common.{replicate}
use Rattle.std.proofs.lemmas.List.{length-replicate}
use Rattle.pool_pages.proofs.DenseCalls.{range_fits, replaced_again}
use Rattle.pool_pages.proofs.dense_pages.DensePages.zero.Goals as goal

pub set_marks-requires : goal.set_marks-requires
set_marks-requires c =
    (range_fits c.self.inside.page c.get-page.result c.self.inside.bytes c.self.inside.origin c.self.inside.accessible.items c.self.inside.dirty.items c.self.inside.colour.items c.args.self.now c.get-page.ensures.value c.self.view_is c.self.invariant c.get-page.ensures.valid c.args.start c.args.len c.requires.start c.requires.len c.requires.inside).0

pub set_marks-requires-2 : goal.set_marks-requires-2
set_marks-requires-2 c =
    (range_fits c.self.inside.page c.get-page.result c.self.inside.bytes c.self.inside.origin c.self.inside.accessible.items c.self.inside.dirty.items c.self.inside.colour.items c.args.self.now c.get-page.ensures.value c.self.view_is c.self.invariant c.get-page.ensures.valid c.args.start c.args.len c.requires.start c.requires.len c.requires.inside).1

pub fill_range-requires : goal.fill_range-requires
fill_range-requires c =
    (range_fits c.self.inside.page c.get-page.result c.self.inside.bytes c.self.inside.origin c.self.inside.accessible.items c.self.inside.dirty.items c.self.inside.colour.items c.args.self.now c.get-page.ensures.value c.self.view_is c.self.invariant c.get-page.ensures.valid c.args.start c.args.len c.requires.start c.requires.len c.requires.inside).2

pub invariant_of-self : goal.invariant_of-self
invariant_of-self c =
    replaced_again c.self.inside.page c.get-page.result c.self.inside.bytes c.self.inside.origin c.self.inside.accessible.items c.self.inside.dirty.items c.self.inside.colour.items c.args.self.now c.get-page.ensures.value c.self.view_is c.self.invariant c.get-page.ensures.valid c.args.start c.args.len c.requires.start c.requires.len c.requires.inside
    (replicate c.args.len 0) c.clear.new.self c.clear-2.new.self c.args.access c.set_marks.new.marks.items c.set_marks-2.new.marks.items c.fill_range.new.bytes.items
    (length-replicate c.args.len 0) c.clear.ensures c.clear-2.ensures c.set_marks.ensures c.set_marks-2.ensures c.fill_range.ensures.items

pub returns-clause-shaped : goal.returns-clause-shaped
returns-clause-shaped c = invariant_of-self c
