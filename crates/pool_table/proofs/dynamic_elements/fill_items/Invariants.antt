use Rattle.std.proofs.Common.{◌≡◌, ◌-◌}
use Rattle.pool_pages.specs.Contents.{put_all}
use Rattle.pool_table.proofs.dynamic_elements.fill_items.Given as goal

abbrev pub invariant-loop-index : goal.invariant-loop-index
invariant-loop-index g l = l.items.items ≡ put_all l.first (l.index - l.first) l.item l.initial.items.items
