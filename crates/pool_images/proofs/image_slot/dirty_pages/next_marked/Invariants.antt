use Rattle.std.proofs.Common.{◌≡◌, ℕ, ◌≤◌, ◌<◌, ◌-◌, not, false, slice_index_or}
use Rattle.pool_images.specs.Resets.{span_marks}
use Rattle.pool_images.proofs.image_slot.dirty_pages.next_marked.Given as goal

-- no page so far has the mark
abbrev pub invariant-loop-k : goal.invariant-loop-k
invariant-loop-k g l = record {
  from : l.from ≤ l.k;
  within : l.k ≤ l.span.pages;
  between : (k : ℕ) → l.from ≤ k → k < l.k → slice_index_or (span_marks l.span l.region) k false ≡ not l.mark;
}

abbrev pub decreases-loop-k : goal.decreases-loop-k
decreases-loop-k g l = l.span.pages - l.k
