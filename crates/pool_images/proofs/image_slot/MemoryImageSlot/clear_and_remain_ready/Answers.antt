use Rattle.std.proofs.Common.{◌≡◌, ℕ, List, sym, ap, ◌∙◌, subst}
use Rattle.pool_pages.specs.Told.{TellsMarks}
use Rattle.pool_images.proofs.Imports.{RestoreOriginalMapping}
use Rattle.pool_images.specs.declared.ranges.ByteRange.{ByteRange}
use Rattle.pool_images.specs.ResetLaws.{bytes_of}
use Rattle.pool_images.specs.Resets.{given_marks, left_by, reset_by}
use Rattle.pool_images.specs.Slots.{Slot, decommitted_all}
use Rattle.pool_images.proofs.SameBytes.{resets_same}
use Rattle.pool_images.proofs.image_slot.MemoryImageSlot.clear_and_remain_ready.Goals as goal

pub returns-in-RestoreOriginalMapping-clause-alike : goal.returns-in-RestoreOriginalMapping-clause-alike
returns-in-RestoreOriginalMapping-clause-alike g c =
    let v : Slot = c.args.self.now in
    let d = c.args.dirty_pages in
    let keep : ℕ = c.args.keep_resident.bytes in
    let restores : v.region.behaviour ≡ RestoreOriginalMapping = ap (λ (t : Slot). t.region.behaviour) (sym c.self.view_is) ∙ sym c.behaviour.ensures ∙ c.in-RestoreOriginalMapping.is in
    let marked : TellsMarks v.region = subst (λ (t : Slot). TellsMarks t.region) c.self.view_is c.len-len.ensures.marks in
    let ranges : c.reset_in_place.new.ranges ≡ left_by (given_marks d v) v.region.behaviour keep v = c.reset_in_place.ensures.ranges ∙ ap (λ b. left_by (given_marks d v) b keep v) (sym restores) in
    let new : c.reset_in_place.new.self ≡ reset_by (given_marks d v) v.region.behaviour keep v = c.reset_in_place.ensures.value ∙ ap (λ b. reset_by (given_marks d v) b keep v) (sym restores) in
    ap (λ (l : List ByteRange). bytes_of (decommitted_all l c.reset_in_place.new.self)) ranges
    ∙ ap (λ (t : Slot). bytes_of (decommitted_all (left_by (given_marks d v) v.region.behaviour keep v) t)) new
    ∙ resets_same d keep v c.fits.ensures marked
