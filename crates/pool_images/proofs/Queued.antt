-- A range of a slot that is decommitted, as a queue of resets does it with one after another.
use Rattle.std.proofs.Common.{◌≡◌, ℕ, ◌+◌, ◌%◌, refl, sym, subst, arith}
use Rattle.pool_images.proofs.Imports.{count, Contents, IsShaped, decommitted, TellsShaped, succeeded, decommitting, add_whole, decommitted_shaped}
use Rattle.pool_images.specs.declared.ranges.ByteRange.{ByteRange}
use Rattle.pool_images.specs.Slots.{Slot, IsSlot, Keeps, IsSound, IsPart, size_of, called}
use Rattle.pool_images.proofs.Fitting.{keeps_ok}
use Rattle.pool_images.proofs.Ready.{lifted}

-- the slot once this range of it is decommitted
abbrev pub next : ByteRange → Slot → Slot
next r s = called (decommitting (s.base.bytes + r.start) r.len) s

shaped_part : (s : Slot) (r : ByteRange) (c : Contents) → IsSlot s → IsPart s.region.page (size_of s) r → IsSound s.region.page s.region.len s.base.bytes (size_of s) c → IsShaped s.region.page s.region.len (decommitted (s.base.bytes + r.start) r.len c)
shaped_part s r c fits part sound =
    let page : c.page ≡ s.region.page = sound.shaped.same_page in
    let P : ℕ → Type 0 = λ p. IsShaped p s.region.len c in
    let Q : ℕ → Type 0 = λ p. IsShaped p s.region.len (decommitted (s.base.bytes + r.start) r.len c) in
    let from : (s.base.bytes + r.start) % s.region.page ≡ 0 = add_whole s.base.bytes r.start s.region.page fits.sizes.base_whole part.start in
    subst Q page (decommitted_shaped s.region.len (s.base.bytes + r.start) r.len c (rw page (omega (arith, fits.sizes.page_size.at_least))) (subst P (sym page) sound.shaped) (rw page from) (rw page part.len) (omega (arith, part.inside, fits.sizes.inside)))

-- the slot's sizes fit still
pub fits_next : (r : ByteRange) (s : Slot) → IsSlot s → IsPart s.region.page (size_of s) r → IsSlot (next r s)
fits_next r s fits part =
    let shaped : TellsShaped (succeeded (decommitting (s.base.bytes + r.start) r.len) s.region) =
    lifted (IsSound s.region.page s.region.len s.base.bytes (size_of s)) (IsShaped s.region.page s.region.len) (decommitted (s.base.bytes + r.start) r.len) s.region.contents (λ c sound. shaped_part s r c fits part sound) fits.told in
    let keeps : Keeps (count s.region.page (size_of s)) s = record { size = refl; fits = fits } in
    (keeps_ok (count s.region.page (size_of s)) (decommitting (s.base.bytes + r.start) r.len) s keeps (record { from = omega arith; to = omega (arith, part.inside); outside = λ c k h below out. refl }) shaped).fits
