use Rattle.std.proofs.Common.{◌≡◌, ◌≤◌, ◌<◌, ◌*◌, ◌-◌, length, take, drop, true, false, slice_index_or, IfSome}
use Rattle.pool_pages.specs.Contents.{CanReach}
use Rattle.pool_pages.specs.Told.{TellsShaped}
use Rattle.pool_images.specs.Resets.{IsSpan, marked_from, marked_pages, pages_restored, span_marks}
use Rattle.pool_images.proofs.image_slot.dirty_pages.restore_dirty.Given as goal

-- the first dirty pages were set by hand, and the next one is the first behind them
abbrev pub invariant-loop-count : goal.invariant-loop-count
invariant-loop-count g l = record {
  within : l.next ≤ l.span.pages;
  there : l.next < l.span.pages → slice_index_or (span_marks l.span l.region) l.next false ≡ true;
  count : l.count ≤ l.most;
  long : l.count ≤ length (marked_pages (span_marks l.span l.fn.region));
  done : l.region ≡ pages_restored l.span.base (take l.count (marked_pages (span_marks l.span l.fn.region))) l.fn.region;
  left : marked_from l.next (span_marks l.span l.region) ≡ drop l.count (marked_pages (span_marks l.span l.fn.region));
  span : IsSpan l.span l.region;
  reach : IfSome l.region.contents (CanReach l.span.base (l.span.pages * l.span.page));
  shaped : TellsShaped l.region;
}

abbrev pub decreases-loop-count : goal.decreases-loop-count
decreases-loop-count g l = l.most - l.count
