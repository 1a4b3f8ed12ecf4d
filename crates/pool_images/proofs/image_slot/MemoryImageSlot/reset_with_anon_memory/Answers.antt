use Rattle.std.proofs.Common.{◌≡◌, ℕ, None, false, sym, ap, subst, ◌∙◌, IfSome}
use Rattle.pool_types.specs.Count.{Count, count}
use Rattle.pool_images.specs.Slots.{Slot, IsClean, IsShut, size_of}
use Rattle.pool_images.proofs.Wiped.{size_whole, wiped_clean, wiped_is, wiped_shut}
use Rattle.pool_images.proofs.image_slot.MemoryImageSlot.reset_with_anon_memory.Goals as goal

pub returns-clause-ok : goal.returns-clause-ok
returns-clause-ok g c =
    let s : Slot = c.args.self.now in
    let none : c.zero-none.result ≡ count s.region.page 0 = c.zero-none.ensures ∙ ap (λ (n : ℕ). count n 0) (c.page.ensures ∙ ap (λ (t : Slot). t.region.page) c.self.view_is) in
    let bytes : c.self.inside.size.bytes ≡ size_of s = ap (λ (n : Count). n.bytes) c.self.invariant.size ∙ ap (λ (t : Slot). size_of t) c.self.view_is in
    ap (λ (t : Slot). record t { accessible = c.zero-none.result; image = None; dirty = false }) c.self-2.view_is
    ∙ wiped_is s c.erase.new.self c.recolour.new.self c.zero-none.result c.self.inside.size.bytes c.in_ok-erase.ensures.ok c.in_ok-recolour.ensures.ok none bytes

pub returns-clause-clean : goal.returns-clause-clean
returns-clause-clean g c =
    let s : Slot = c.args.self.now in
    let none : c.zero-none.result ≡ count s.region.page 0 = c.zero-none.ensures ∙ ap (λ (n : ℕ). count n 0) (c.page.ensures ∙ ap (λ (t : Slot). t.region.page) c.self.view_is) in
    let bytes : c.self.inside.size.bytes ≡ size_of s = ap (λ (n : Count). n.bytes) c.self.invariant.size ∙ ap (λ (t : Slot). size_of t) c.self.view_is in
    let new = ap (λ (t : Slot). record t { accessible = c.zero-none.result; image = None; dirty = false }) c.self-2.view_is
    ∙ wiped_is s c.erase.new.self c.recolour.new.self c.zero-none.result c.self.inside.size.bytes c.in_ok-erase.ensures.ok c.in_ok-recolour.ensures.ok none bytes in
    let P : Slot → Type 0 = λ t. IsClean t in
    subst P (sym new) (wiped_clean s c.fits.ensures (size_whole s))

pub returns-clause-shut : goal.returns-clause-shut
returns-clause-shut g c =
    let s : Slot = c.args.self.now in
    let none : c.zero-none.result ≡ count s.region.page 0 = c.zero-none.ensures ∙ ap (λ (n : ℕ). count n 0) (c.page.ensures ∙ ap (λ (t : Slot). t.region.page) c.self.view_is) in
    let bytes : c.self.inside.size.bytes ≡ size_of s = ap (λ (n : Count). n.bytes) c.self.invariant.size ∙ ap (λ (t : Slot). size_of t) c.self.view_is in
    let new = ap (λ (t : Slot). record t { accessible = c.zero-none.result; image = None; dirty = false }) c.self-2.view_is
    ∙ wiped_is s c.erase.new.self c.recolour.new.self c.zero-none.result c.self.inside.size.bytes c.in_ok-erase.ensures.ok c.in_ok-recolour.ensures.ok none bytes in
    let P : Slot → Type 0 = λ t. IfSome t.region.contents (IsShut t) in
    subst P (sym new) (wiped_shut s c.fits.ensures (size_whole s))
