use Rattle.std.proofs.Common.{◌≡◌, ◌*◌, ◌/◌, List, false, sym, ap, ◌∙◌, subst, All, IfSome}
use Rattle.pool_pages.specs.Told.{Told, TellsShaped, TellsMarks}
use Rattle.pool_images.proofs.Imports.{RestoreOriginalMapping}
use Rattle.pool_images.specs.declared.ranges.ByteRange.{ByteRange}
use Rattle.pool_images.specs.Resets.{marks_of, span_marks, pages_by_hand, pages_left, pages_restored, runs_of, at_most_eight}
use Rattle.pool_images.specs.Slots.{Slot, Keeps, IsReady, IsClean, IsPart, size_of, decommitted_all}
use Rattle.pool_images.proofs.MarkedResets.{hand_is, left_is, marks_clean, marks_clean_now, marks_keeps, marks_parts, parts_now}
use Rattle.pool_images.proofs.image_slot.MemoryImageSlot.reset_by_marks.Goals as goal

pub invariant_of-self : goal.invariant_of-self
invariant_of-self g c =
    let i = c.self.inside in
    let s : Slot = record { region = i.region; base = i.base; accessible = i.accessible; static_size = i.static_size; image = i.image; dirty = i.dirty; colour = i.colour } in
    let span = c.span-span.ensures in
    let base : c.span-span.result.base ≡ s.base.bytes = span.base ∙ ap (λ (t : Slot). t.base.bytes) (sym c.self.view_is) in
    let page : c.span-span.result.page ≡ s.region.page = span.page ∙ ap (λ (t : Slot). t.region.page) (sym c.self.view_is) in
    let marks : span_marks c.span-span.result s.region ≡ marks_of s = ap (λ (t : Slot). span_marks c.span-span.result t.region) c.self.view_is ∙ span.marks ∙ ap (λ (t : Slot). marks_of t) (sym c.self.view_is) in
    let most : c.byte_count.result / c.span-span.result.page ≡ c.args.keep_resident.bytes / c.span-span.result.page = ap (λ n. n / c.span-span.result.page) c.byte_count.ensures.value in
    let new : c.reset_dirty-kept.new.region ≡ pages_restored s.base.bytes (pages_by_hand s.region.page c.args.keep_resident.bytes (marks_of s)) s.region =
    hand_is s c.args.keep_resident.bytes (c.byte_count.result / c.span-span.result.page) c.span-span.result.base c.span-span.result.page (span_marks c.span-span.result s.region) c.reset_dirty-kept.new.region c.reset_dirty-kept.ensures.region base most page marks in
    let P : Told → Type 0 = λ t. Keeps i.size (record s { region = t; dirty = false }) in
    subst P (sym new) (marks_keeps i.size s (pages_by_hand s.region.page c.args.keep_resident.bytes (marks_of s)) c.self.invariant (subst TellsShaped new c.reset_dirty-kept.ensures.shaped))

pub returns-clause-fits : goal.returns-clause-fits
returns-clause-fits g c = (invariant_of-self g c).fits

pub returns-clause-parts : goal.returns-clause-parts
returns-clause-parts g c =
    let i = c.self.inside in
    let s : Slot = record { region = i.region; base = i.base; accessible = i.accessible; static_size = i.static_size; image = i.image; dirty = i.dirty; colour = i.colour } in
    let span = c.span-span.ensures in
    let base : c.span-span.result.base ≡ s.base.bytes = span.base ∙ ap (λ (t : Slot). t.base.bytes) (sym c.self.view_is) in
    let page : c.span-span.result.page ≡ s.region.page = span.page ∙ ap (λ (t : Slot). t.region.page) (sym c.self.view_is) in
    let marks : span_marks c.span-span.result s.region ≡ marks_of s = ap (λ (t : Slot). span_marks c.span-span.result t.region) c.self.view_is ∙ span.marks ∙ ap (λ (t : Slot). marks_of t) (sym c.self.view_is) in
    let most : c.byte_count.result / c.span-span.result.page ≡ c.args.keep_resident.bytes / c.span-span.result.page = ap (λ n. n / c.span-span.result.page) c.byte_count.ensures.value in
    let new : c.reset_dirty-kept.new.region ≡ pages_restored s.base.bytes (pages_by_hand s.region.page c.args.keep_resident.bytes (marks_of s)) s.region =
    hand_is s c.args.keep_resident.bytes (c.byte_count.result / c.span-span.result.page) c.span-span.result.base c.span-span.result.page (span_marks c.span-span.result s.region) c.reset_dirty-kept.new.region c.reset_dirty-kept.ensures.region base most page marks in
    let size : c.span-span.result.pages * c.span-span.result.page ≡ s.accessible.bytes = span.bytes ∙ ap (λ (t : Slot). t.accessible.bytes) (sym c.self.view_is) in
    let made : c.reset_dirty-kept.new.ranges ≡ at_most_eight s.accessible.bytes (runs_of s.region.page (pages_left s.region.page c.args.keep_resident.bytes (marks_of s))) =
    left_is s c.args.keep_resident.bytes (c.byte_count.result / c.span-span.result.page) c.span-span.result.pages c.span-span.result.page (span_marks c.span-span.result s.region) c.reset_dirty-kept.new.ranges c.reset_dirty-kept.ensures.ranges size most page marks in
    let marked : TellsMarks s.region = rw (← c.self.view_is) at span.told in
    let P : List ByteRange → Told → Type 0 = λ l t. All (IsPart t.page (size_of (record s { region = t; dirty = false }))) l in
    let parts : P (at_most_eight s.accessible.bytes (runs_of s.region.page (pages_left s.region.page c.args.keep_resident.bytes (marks_of s)))) (pages_restored s.base.bytes (pages_by_hand s.region.page c.args.keep_resident.bytes (marks_of s)) s.region) =
    parts_now s (pages_by_hand s.region.page c.args.keep_resident.bytes (marks_of s)) (at_most_eight s.accessible.bytes (runs_of s.region.page (pages_left s.region.page c.args.keep_resident.bytes (marks_of s)))) (marks_parts s c.args.keep_resident.bytes c.self.invariant.fits marked) in
    subst (λ l. P l c.reset_dirty-kept.new.region) (sym made) (subst (λ t. P (at_most_eight s.accessible.bytes (runs_of s.region.page (pages_left s.region.page c.args.keep_resident.bytes (marks_of s)))) t) (sym new) parts)

pub returns-clause-clean_after : goal.returns-clause-clean_after
returns-clause-clean_after g c =
    let i = c.self.inside in
    let s : Slot = record { region = i.region; base = i.base; accessible = i.accessible; static_size = i.static_size; image = i.image; dirty = i.dirty; colour = i.colour } in
    let span = c.span-span.ensures in
    let base : c.span-span.result.base ≡ s.base.bytes = span.base ∙ ap (λ (t : Slot). t.base.bytes) (sym c.self.view_is) in
    let page : c.span-span.result.page ≡ s.region.page = span.page ∙ ap (λ (t : Slot). t.region.page) (sym c.self.view_is) in
    let marks : span_marks c.span-span.result s.region ≡ marks_of s = ap (λ (t : Slot). span_marks c.span-span.result t.region) c.self.view_is ∙ span.marks ∙ ap (λ (t : Slot). marks_of t) (sym c.self.view_is) in
    let most : c.byte_count.result / c.span-span.result.page ≡ c.args.keep_resident.bytes / c.span-span.result.page = ap (λ n. n / c.span-span.result.page) c.byte_count.ensures.value in
    let new : c.reset_dirty-kept.new.region ≡ pages_restored s.base.bytes (pages_by_hand s.region.page c.args.keep_resident.bytes (marks_of s)) s.region =
    hand_is s c.args.keep_resident.bytes (c.byte_count.result / c.span-span.result.page) c.span-span.result.base c.span-span.result.page (span_marks c.span-span.result s.region) c.reset_dirty-kept.new.region c.reset_dirty-kept.ensures.region base most page marks in
    let size : c.span-span.result.pages * c.span-span.result.page ≡ s.accessible.bytes = span.bytes ∙ ap (λ (t : Slot). t.accessible.bytes) (sym c.self.view_is) in
    let made : c.reset_dirty-kept.new.ranges ≡ at_most_eight s.accessible.bytes (runs_of s.region.page (pages_left s.region.page c.args.keep_resident.bytes (marks_of s))) =
    left_is s c.args.keep_resident.bytes (c.byte_count.result / c.span-span.result.page) c.span-span.result.pages c.span-span.result.page (span_marks c.span-span.result s.region) c.reset_dirty-kept.new.ranges c.reset_dirty-kept.ensures.ranges size most page marks in
    let marked : TellsMarks s.region = rw (← c.self.view_is) at span.told in
    let restores : s.region.behaviour ≡ RestoreOriginalMapping = rw (← c.self.view_is) at c.requires.restores in
    let ready : IfSome s.region.contents (IsReady s) = rw (← c.self.view_is) at c.requires.ready in
    let P : List ByteRange → Told → Type 0 = λ l t. IsClean (decommitted_all l (record s { region = t; dirty = false })) in
    let clean : P (at_most_eight s.accessible.bytes (runs_of s.region.page (pages_left s.region.page c.args.keep_resident.bytes (marks_of s)))) (pages_restored s.base.bytes (pages_by_hand s.region.page c.args.keep_resident.bytes (marks_of s)) s.region) =
    marks_clean s c.args.keep_resident.bytes c.self.invariant.fits marked restores ready in
    subst (λ l. P l c.reset_dirty-kept.new.region) (sym made) (subst (λ t. P (at_most_eight s.accessible.bytes (runs_of s.region.page (pages_left s.region.page c.args.keep_resident.bytes (marks_of s)))) t) (sym new) clean)

pub returns-clause-clean : goal.returns-clause-clean
returns-clause-clean g c from =
    let i = c.self.inside in
    let s : Slot = record { region = i.region; base = i.base; accessible = i.accessible; static_size = i.static_size; image = i.image; dirty = i.dirty; colour = i.colour } in
    let span = c.span-span.ensures in
    let base : c.span-span.result.base ≡ s.base.bytes = span.base ∙ ap (λ (t : Slot). t.base.bytes) (sym c.self.view_is) in
    let page : c.span-span.result.page ≡ s.region.page = span.page ∙ ap (λ (t : Slot). t.region.page) (sym c.self.view_is) in
    let marks : span_marks c.span-span.result s.region ≡ marks_of s = ap (λ (t : Slot). span_marks c.span-span.result t.region) c.self.view_is ∙ span.marks ∙ ap (λ (t : Slot). marks_of t) (sym c.self.view_is) in
    let most : c.byte_count.result / c.span-span.result.page ≡ c.args.keep_resident.bytes / c.span-span.result.page = ap (λ n. n / c.span-span.result.page) c.byte_count.ensures.value in
    let new : c.reset_dirty-kept.new.region ≡ pages_restored s.base.bytes (pages_by_hand s.region.page c.args.keep_resident.bytes (marks_of s)) s.region =
    hand_is s c.args.keep_resident.bytes (c.byte_count.result / c.span-span.result.page) c.span-span.result.base c.span-span.result.page (span_marks c.span-span.result s.region) c.reset_dirty-kept.new.region c.reset_dirty-kept.ensures.region base most page marks in
    let marked : TellsMarks s.region = rw (← c.self.view_is) at span.told in
    let restores : s.region.behaviour ≡ RestoreOriginalMapping = rw (← c.self.view_is) at c.requires.restores in
    let ready : IfSome s.region.contents (IsReady s) = rw (← c.self.view_is) at c.requires.ready in
    let P : Told → Type 0 = λ t. IsClean (record s { region = t; dirty = false }) in
    subst P (sym new) (marks_clean_now s c.args.keep_resident.bytes c.self.invariant.fits marked (rw (← c.self.view_is) at from) restores ready)
