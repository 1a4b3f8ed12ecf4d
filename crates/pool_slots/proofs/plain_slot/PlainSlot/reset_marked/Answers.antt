use Rattle.std.proofs.Common.{◌≡◌, ℕ, ◌/◌, Some, ap, subst}
use Rattle.pool_images.specs.Resets.{marks_of}
use Rattle.pool_images.specs.Slots.{Slot}
use Rattle.pool_slots.specs.PlainSlots.{IsTableReset, IsUnusedFrom, IsUsedSpan, used_part}
use Rattle.pool_slots.specs.SlotQueues.{plain_slot}
use Rattle.pool_slots.proofs.MarkedTables.{by_marks}
use Rattle.pool_slots.proofs.plain_slot.PlainSlot.reset_marked.Goals as goal

pub invariant_of-self : goal.invariant_of-self
invariant_of-self g c =
    let i = c.self.inside in
    let s : Slot = plain_slot i.base.bytes i.region in
    let pages : IsUsedSpan c.args.used.bytes s c.used_pages-span.result = rw (← c.self.view_is) at c.used_pages-span.ensures in
    let unused : IsUnusedFrom c.args.used.bytes s = rw (← c.self.view_is) at c.requires.unused in
    let most : c.byte_count.result / c.used_pages-span.result.page ≡ c.args.keep_resident.bytes / c.used_pages-span.result.page = ap (λ (n : ℕ). n / c.used_pages-span.result.page) c.byte_count.ensures.value in
    (by_marks i.base.bytes i.region c.reset_dirty.new.region c.args.keep_resident.bytes c.args.used.bytes (c.byte_count.result / c.used_pages-span.result.page) c.reset_dirty.result c.used_pages-span.result c.reset_dirty.new.ranges pages unused most c.reset_dirty.ensures.region c.reset_dirty.ensures.ranges c.reset_dirty.ensures.resident).plain

pub returns : goal.returns
returns g c =
    let i = c.self.inside in
    let s : Slot = plain_slot i.base.bytes i.region in
    let pages : IsUsedSpan c.args.used.bytes s c.used_pages-span.result = rw (← c.self.view_is) at c.used_pages-span.ensures in
    let unused : IsUnusedFrom c.args.used.bytes s = rw (← c.self.view_is) at c.requires.unused in
    let most : c.byte_count.result / c.used_pages-span.result.page ≡ c.args.keep_resident.bytes / c.used_pages-span.result.page = ap (λ (n : ℕ). n / c.used_pages-span.result.page) c.byte_count.ensures.value in
    subst (λ (t : Slot). IsTableReset (Some (marks_of (used_part c.args.used.bytes t))) c.args.keep_resident.bytes c.args.used.bytes t (plain_slot i.base.bytes c.reset_dirty.new.region) c.reset_dirty.result c.reset_dirty.new.ranges) c.self.view_is
    (by_marks i.base.bytes i.region c.reset_dirty.new.region c.args.keep_resident.bytes c.args.used.bytes (c.byte_count.result / c.used_pages-span.result.page) c.reset_dirty.result c.used_pages-span.result c.reset_dirty.new.ranges pages unused most c.reset_dirty.ensures.region c.reset_dirty.ensures.ranges c.reset_dirty.ensures.resident)
