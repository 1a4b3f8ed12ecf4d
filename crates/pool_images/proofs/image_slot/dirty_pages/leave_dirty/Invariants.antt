use Rattle.std.proofs.Common.{◌≡◌, ◌≤◌, ◌<◌, ◌-◌, ◌++◌, length, true, false, slice_index_or}
use Rattle.pool_images.specs.Resets.{marked_from, runs_of, span_marks}
use Rattle.pool_images.proofs.image_slot.dirty_pages.leave_dirty.Given as goal

-- the ranges so far, with those of the pages that are left, are all of them
abbrev pub invariant-loop-next : goal.invariant-loop-next
invariant-loop-next g l = record {
  within : l.next ≤ l.span.pages;
  there : l.next < l.span.pages → slice_index_or (span_marks l.span l.region) l.next false ≡ true;
  count : length l.ranges ≤ 7;
  runs : l.ranges ++ runs_of l.span.page (marked_from l.next (span_marks l.span l.region)) ≡ runs_of l.span.page (marked_from l.from (span_marks l.span l.region));
}

abbrev pub decreases-loop-next : goal.decreases-loop-next
decreases-loop-next g l = l.span.pages - l.next
