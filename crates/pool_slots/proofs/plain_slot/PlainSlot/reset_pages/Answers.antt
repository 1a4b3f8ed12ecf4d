use Rattle.std.proofs.Common.{ℕ, List, ap, ◌∙◌}
use Rattle.pool_images.specs.ResetLaws.{bytes_of}
use Rattle.pool_images.specs.Slots.{Slot, decommitted_all}
use Rattle.pool_images.specs.declared.ranges.ByteRange.{ByteRange}
use Rattle.pool_slots.specs.PlainSlots.{used_left, used_marks}
use Rattle.pool_slots.proofs.MarkedTables.{table_resets_same}
use Rattle.pool_slots.proofs.plain_slot.PlainSlot.reset_pages.Goals as goal

pub returns-clause-alike : goal.returns-clause-alike
returns-clause-alike g c =
    let s : Slot = c.args.self.now in
    let d = c.args.dirty_pages in
    let keep : ℕ = c.args.keep_resident.bytes in
    let used : ℕ = c.args.used.bytes in
    let pages = c.used_pages-pages.ensures in
    let done = c.reset_either.ensures in
    ap (λ (l : List ByteRange). bytes_of (decommitted_all l c.reset_either.new.self)) done.ranges
    ∙ ap (λ (t : Slot). bytes_of (decommitted_all (used_left (used_marks d used s) keep used s) t)) done.value
    ∙ table_resets_same d keep used s pages.plain pages.told pages.whole pages.within
