-- Parts of bytes that are known, and the image of a slot by its bytes.
use Rattle.std.proofs.Common.{◌≡◌, ◌↔◌, ℕ, ◌+◌, ◌-◌, ◌<◌, ◌≤◌, Bool, IsTrue, List, length, get_or, sym, ap, ◌∙◌, arith, slice_range, Option, Some, None, IfSome}
use Rattle.pool_images.proofs.Imports.{same_lists, Contents, length-range, get_or-range, range_within}
use Rattle.pool_images.specs.Images.{Image}
use Rattle.pool_images.specs.Slots.{Slot, IsSlot, IsSound, Holds, HasImage, size_of, name_of, image_bytes}

-- the elements of a list that a range of another is
element_of : (xs bs : List ℕ) (a k d : ℕ) → slice_range xs a (a + length bs) ≡ bs → k < length bs → get_or xs (a + k) d ≡ get_or bs k d
element_of xs bs a k d same below =
    let inside : k < a + length bs - a = omega arith in
    sym (get_or-range xs a (a + length bs) k d inside) ∙ ap (λ (l : List ℕ). get_or l k d) same

-- a part of a list that a range of another is
pub piece_of : (xs bs : List ℕ) (a i j : ℕ) → a + length bs ≤ length xs → j ≤ length bs → slice_range xs a (a + length bs) ≡ bs → slice_range xs (a + i) (a + j) ≡ slice_range bs i j
piece_of xs bs a i j fits within same =
    let left : length (slice_range xs (a + i) (a + j)) ≡ a + j - (a + i) = length-range xs (a + i) (a + j) (omega arith) in
    let right : length (slice_range bs i j) ≡ j - i = length-range bs i j within in
    same_lists (slice_range xs (a + i) (a + j)) (slice_range bs i j) (omega arith)
    (λ k d below.
    let first : k < a + j - (a + i) = omega arith in
    let second : k < j - i = omega arith in
    let place : a + i + k ≡ a + (i + k) = omega arith in
    get_or-range xs (a + i) (a + j) k d first
    ∙ ap (λ (n : ℕ). get_or xs n d) place
    ∙ element_of xs bs a (i + k) d same (omega arith)
    ∙ sym (get_or-range bs i j k d second))

-- a clean slot's image is what its bytes say
pub image_told : (s : Slot) (i : Image) (r : Bool) (o : Option Contents) → s.image ≡ Some (name_of i) → i.offset + length i.bytes ≤ size_of s → IsSlot s → IfSome o (IsSound s.region.page s.region.len s.base.bytes (size_of s)) → IfSome o (Holds s 0 (size_of s)) → IfSome o (λ c. IsTrue r ↔ (slice_range c.bytes (s.base.bytes + i.offset) (s.base.bytes + i.offset + length i.bytes) ≡ i.bytes)) → IfSome o (λ c. IsTrue r ↔ HasImage s (Some i) c)
image_told s i r None is inside fits sound holds told = sound
image_told s i r (Some c) is inside fits sound holds told =
    let same : slice_range c.bytes (s.base.bytes + i.offset) (s.base.bytes + i.offset + length i.bytes) ≡ image_bytes s.base.bytes (name_of i) c.origin =
    range_within c.bytes c.origin (s.base.bytes + 0) (s.base.bytes + size_of s) (s.base.bytes + i.offset) (s.base.bytes + i.offset + length i.bytes)
    (omega (arith, sound.shaped.bytes, fits.sizes.inside)) (omega (arith, sound.shaped.origin, fits.sizes.inside)) (omega arith) (omega arith) holds in
    (λ yes_it_is. (is, sym same ∙ told.0 yes_it_is), λ has. told.1 (same ∙ has.1))
