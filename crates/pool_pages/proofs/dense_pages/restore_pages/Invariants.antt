use Rattle.std.proofs.Common.{◌≡◌, ◌-◌, ◌*◌, false, slice_range}
use Rattle.pool_pages.specs.Contents.{put, put_all}
use Rattle.pool_pages.proofs.dense_pages.restore_pages.Given as goal

abbrev pub invariant-loop-k : goal.invariant-loop-k
invariant-loop-k l =
    (l.bytes ≡ put (l.fn.first * l.page) (slice_range l.origin (l.fn.first * l.page) (l.k * l.page)) l.fn.bytes)
    × (l.dirty.items ≡ put_all l.fn.first (l.k - l.fn.first) false l.fn.dirty.items)
