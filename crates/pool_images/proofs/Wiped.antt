-- A slot with nothing mapped and all of it zeros.
use Rattle.std.proofs.Common.{◌≡◌, ℕ, ◌+◌, ◌-◌, ◌*◌, ◌/◌, ◌%◌, ◌<◌, ◌≤◌, false, List, length, get_or, replicate, refl, sym, ap, ◌∙◌, subst, inl, inr, arith, slice_range, Option, Some, None, IfSome}
use Rattle.pool_images.proofs.Imports.{cases_lt, length-replicate, mul-mod_left, mul-le-mul_right, Count, count, Contents, IsIn, put, put_all, erased, erasing, whole, add_whole, page_below, marks_fit, length-put, range-put, range-put_in, same_by_pages}
use Rattle.pool_images.specs.Slots.{Slot, IsSlot, IsSound, IsClean, IsShut, Holds, size_of, colour_number, called, coloured, renewed, wiped}
use Rattle.pool_images.proofs.Colours.{IsAlmost, again, given_back, coloured_clean, coloured_pages, coloured_slot, lifted_coloured, renewed_after}
use Rattle.pool_images.proofs.Marks.{marked_in, page_le, page_lt, range-zeros}
use Rattle.pool_images.proofs.Fitting.{put_outside}
use Rattle.pool_images.proofs.Making.{zero_page}
use Rattle.pool_images.proofs.Ready.{lifted, page_inside}

page_erased : (s : Slot) (c : Contents) (k : ℕ) → IsSlot s → IsSound s.region.page s.region.len s.base.bytes (size_of s) c → (s.base.bytes + size_of s) % s.region.page ≡ 0 → k < s.region.len / s.region.page → slice_range (put s.base.bytes (replicate (size_of s) 0) c.origin) (k * s.region.page) (k * s.region.page + s.region.page) ≡ replicate s.region.page 0
page_erased s c k fits sound end_whole under =
    let page : ℕ = s.region.page in
    let some : 0 < s.region.page = omega (arith, fits.sizes.page_size.at_least) in
    let zeros : List ℕ = replicate (size_of s) 0 in
    let long : length zeros ≡ size_of s = length-replicate {A = ℕ} (size_of s) 0 in
    let all : length c.origin ≡ s.region.len = sound.shaped.origin in
    let outside : (IsIn s.base.bytes (size_of s) s.region.page k → ⊥) → slice_range (put s.base.bytes zeros c.origin) (k * s.region.page) (k * s.region.page + s.region.page) ≡ replicate s.region.page 0 =
    λ out.
    let back : slice_range c.origin (k * s.region.page) (k * s.region.page + s.region.page) ≡ replicate s.region.page 0 = rw sound.shaped.same_page at (sound.outside k under out) in
    put_outside s.base.bytes zeros c.origin s.region.page s.region.len s.base.bytes (size_of s) k some all sound.shaped.whole fits.sizes.base_whole (omega arith) (omega arith) fits.sizes.inside under out ∙ back in
    elim (cases_lt (k * s.region.page) s.base.bytes) [
      | inl below ↦ outside (λ in_slot. absurd (omega (arith, in_slot.from)))
      | inr from ↦ elim (cases_lt (k * s.region.page) (s.base.bytes + size_of s)) [
        | inl within ↦
            let ends : k * s.region.page + s.region.page ≤ s.base.bytes + size_of s = page_below k (s.base.bytes + size_of s) s.region.page end_whole within in
            let count : k * s.region.page + s.region.page - s.base.bytes - (k * s.region.page - s.base.bytes) ≡ s.region.page = omega arith in
            range-put_in s.base.bytes zeros c.origin (k * s.region.page) (k * s.region.page + s.region.page) (omega (arith, fits.sizes.inside)) from (omega arith)
            ∙ range-zeros (size_of s) (k * s.region.page - s.base.bytes) (k * s.region.page + s.region.page - s.base.bytes) (omega arith)
            ∙ ap (λ (n : ℕ). replicate {A = ℕ} n 0) count
        | inr above ↦ outside (λ in_slot. absurd (omega (arith, in_slot.below)))
      ]
    ]

-- a region all of whose pages outside the slot go back to zeros, with zeros put into the slot, goes back to zeros
erased_origin : (s : Slot) (c : Contents) → IsSlot s → size_of s % s.region.page ≡ 0 → IsSound s.region.page s.region.len s.base.bytes (size_of s) c → put_all s.base.bytes (size_of s) 0 c.origin ≡ replicate s.region.len 0
erased_origin s c fits size_whole sound =
    let some : 0 < s.region.page = omega (arith, fits.sizes.page_size.at_least) in
    let zeros : List ℕ = replicate (size_of s) 0 in
    let long : length zeros ≡ size_of s = length-replicate {A = ℕ} (size_of s) 0 in
    let all : length c.origin ≡ s.region.len = sound.shaped.origin in
    let ends : s.base.bytes + length zeros ≤ length c.origin = omega (arith, fits.sizes.inside) in
    let same : length (put s.base.bytes zeros c.origin) ≡ s.region.len = length-put s.base.bytes zeros c.origin ends ∙ all in
    let end_whole : (s.base.bytes + size_of s) % s.region.page ≡ 0 = add_whole s.base.bytes (size_of s) s.region.page fits.sizes.base_whole size_whole in
    same_by_pages (put s.base.bytes zeros c.origin) (replicate s.region.len 0) s.region.page some (rw same sound.shaped.whole) (same ∙ sym (length-replicate {A = ℕ} s.region.len 0))
    (λ k below.
    let under : k < s.region.len / s.region.page = rw same at below in
    page_erased s c k fits sound end_whole under ∙ sym (zero_page s.region.page s.region.len k some sound.shaped.whole under))

-- the slot once its pages are erased, before they have their colour
abbrev erased_slot : Slot → Slot
erased_slot s = record (called (erasing s.base.bytes (size_of s)) s) { accessible = count s.region.page 0; image = None; dirty = false }

-- its pages lost their colour, and have it again
wiped_colours : (s : Slot) (c : Contents) → IsSlot s → size_of s % s.region.page ≡ 0 → IsSound s.region.page s.region.len s.base.bytes (size_of s) c → (k : ℕ) → IsIn s.base.bytes (size_of s) c.page k → get_or (again s.colour (s.base.bytes / c.page) (size_of s / c.page) (put_all (s.base.bytes / c.page) (size_of s / c.page) 0 c.colour)) k 0 ≡ colour_number s.colour
wiped_colours s c fits size_whole sound k at =
    let some : 0 < s.region.page = omega (arith, fits.sizes.page_size.at_least) in
    let page : c.page ≡ s.region.page = sound.shaped.same_page in
    let first : s.region.page * (s.base.bytes / s.region.page) ≡ s.base.bytes = whole s.base.bytes s.region.page fits.sizes.base_whole in
    let second : s.region.page * (size_of s / s.region.page) ≡ size_of s = whole (size_of s) s.region.page size_whole in
    let inside : IsIn s.base.bytes (size_of s) s.region.page k = rw page at at in
    let low : s.base.bytes / s.region.page ≤ k = page_le (s.base.bytes / s.region.page) k s.region.page some (omega (arith, first, inside.from)) in
    let high : k < s.base.bytes / s.region.page + size_of s / s.region.page = page_lt k (s.base.bytes / s.region.page + size_of s / s.region.page) s.region.page (omega (arith, first, second, inside.below)) in
    let marks : s.base.bytes / s.region.page + size_of s / s.region.page ≤ s.region.len / s.region.page = marks_fit s.region.page s.base.bytes (size_of s) s.region.len some fits.sizes.base_whole size_whole sound.shaped.whole fits.sizes.inside in
    let G : ℕ → Type 0 = λ p. get_or (again s.colour (s.base.bytes / p) (size_of s / p) (put_all (s.base.bytes / p) (size_of s / p) 0 c.colour)) k 0 ≡ colour_number s.colour in
    subst G (sym page) (given_back s.colour (s.base.bytes / s.region.page) (size_of s / s.region.page) k c.colour (omega (arith, marks, sound.shaped.colour)) low high)

started_wiped : (s : Slot) (c : Contents) → IsSlot s → size_of s % s.region.page ≡ 0 → IsSound s.region.page s.region.len s.base.bytes (size_of s) c → IsAlmost (erased_slot s) s.base.bytes (size_of s) (erased s.base.bytes (size_of s) c)
started_wiped s c fits size_whole sound =
    let zeros : List ℕ = replicate (size_of s) 0 in
    let long : length zeros ≡ size_of s = length-replicate {A = ℕ} (size_of s) 0 in
    let all : length c.origin ≡ s.region.len = sound.shaped.origin in
    let every : length c.bytes ≡ s.region.len = sound.shaped.bytes in
    let same : length (put s.base.bytes zeros c.origin) ≡ s.region.len = length-put s.base.bytes zeros c.origin (omega (arith, fits.sizes.inside)) ∙ all in
    let R : ℕ → ℕ → List ℕ → Type 0 = λ b e l. slice_range l b e ≡ zeros in
    let ends : s.base.bytes + length zeros ≡ s.base.bytes + size_of s = omega arith in
    let begins : s.base.bytes ≡ s.base.bytes + 0 = omega arith in
    let part : (l : List ℕ) → length l ≡ s.region.len → slice_range (put s.base.bytes zeros l) (s.base.bytes + 0) (s.base.bytes + size_of s) ≡ zeros =
    λ l size.
    let first = subst (λ (e : ℕ). R s.base.bytes e (put s.base.bytes zeros l)) ends (range-put s.base.bytes zeros l (omega (arith, fits.sizes.inside))) in
    subst (λ (b : ℕ). R b (s.base.bytes + size_of s) (put s.base.bytes zeros l)) begins first in
    let holds : Holds (erased_slot s) 0 (size_of s) (erased s.base.bytes (size_of s) c) = part c.bytes every ∙ sym (part c.origin all) in
    record {
      ready = record {
        reach = λ k from below.
            let page : c.page ≡ s.region.page = sound.shaped.same_page in
            let least : s.region.page * (s.base.bytes / s.region.page) ≡ s.base.bytes = whole s.base.bytes s.region.page fits.sizes.base_whole in
            let start : s.base.bytes / s.region.page ≤ k = rw page at from in
            let over : s.base.bytes / s.region.page * s.region.page ≤ k * s.region.page = mul-le-mul_right s.region.page start in
            let under : k * s.region.page < s.base.bytes + 0 = rw page at below in
            absurd (omega (arith, least, over, under));
        origin = erased_origin s c fits size_whole sound ∙ ap (λ (n : ℕ). replicate {A = ℕ} n 0) (sym same);
        beyond = holds;
        colour = wiped_colours s c fits size_whole sound;
      };
      holds = holds;
    }

-- a slot that was wiped is clean
pub wiped_clean : (s : Slot) → IsSlot s → size_of s % s.region.page ≡ 0 → IsClean (wiped s)
wiped_clean s fits size_whole =
    let f : Contents → Contents = erased s.base.bytes (size_of s) in
    let P : Contents → Type 0 = IsSound s.region.page s.region.len s.base.bytes (size_of s) in
    coloured_clean s.colour (erased_slot s) s.base.bytes (size_of s) refl refl refl
    (lifted P (IsAlmost (erased_slot s) s.base.bytes (size_of s)) f s.region.contents (λ c sound. started_wiped s c fits size_whole sound) fits.told)

shut_told : (s : Slot) (c : Contents) → IsSlot s → size_of s % s.region.page ≡ 0 → IsSound s.region.page s.region.len s.base.bytes (size_of s) c → IsShut (erased_slot s) (erased s.base.bytes (size_of s) c)
shut_told s c fits size_whole sound k from below =
    let some : 0 < s.region.page = omega (arith, fits.sizes.page_size.at_least) in
    let page : c.page ≡ s.region.page = sound.shaped.same_page in
    let first : s.region.page * (s.base.bytes / s.region.page) ≡ s.base.bytes = whole s.base.bytes s.region.page fits.sizes.base_whole in
    let second : s.region.page * (size_of s / s.region.page) ≡ size_of s = whole (size_of s) s.region.page size_whole in
    let low : s.base.bytes / s.region.page ≤ k = page_le (s.base.bytes / s.region.page) k s.region.page some (omega (arith, first)) in
    let high : k < s.base.bytes / s.region.page + size_of s / s.region.page = page_lt k (s.base.bytes / s.region.page + size_of s / s.region.page) s.region.page (omega (arith, first, second)) in
    let inside = page_inside s c 0 fits sound (omega arith) in
    let fits_in : s.base.bytes / s.region.page ≤ length c.accessible =
    let zero_more : s.base.bytes + 0 ≡ s.base.bytes = omega arith in
    rw (page, zero_more) at inside in
    rw page (marked_in c.accessible (s.base.bytes / s.region.page) (size_of s / s.region.page) k false false fits_in low high)

shut_coloured : (o : Option ℕ) (u : Slot) (start len : ℕ) (c : Contents) → IsShut u c → IsShut (coloured_slot o start len u) (coloured_pages o start len c)
shut_coloured None u start len c shut = shut
shut_coloured (Some colour) u start len c shut = shut

-- and no page of it can be reached
pub wiped_shut : (s : Slot) → IsSlot s → size_of s % s.region.page ≡ 0 → IfSome (wiped s).region.contents (IsShut (wiped s))
wiped_shut s fits size_whole =
    let P : Contents → Type 0 = IsSound s.region.page s.region.len s.base.bytes (size_of s) in
    let u : Slot = erased_slot s in
    let told = lifted P (IsShut (erased_slot s)) (erased s.base.bytes (size_of s)) s.region.contents (λ c sound. shut_told s c fits size_whole sound) fits.told in
    lifted_coloured (IsShut u) (IsShut (coloured_slot s.colour s.base.bytes (size_of s) u)) s.colour s.base.bytes (size_of s) u.region (λ c shut. shut_coloured s.colour u s.base.bytes (size_of s) c shut) told

-- The same as the code says them.
pub size_whole : (s : Slot) → size_of s % s.region.page ≡ 0
size_whole s = mul-mod_left ((s.static_size + s.region.page - 1) / s.region.page) s.region.page

pub wiped_is : (s mid end : Slot) (none : Count) (len : ℕ) → mid ≡ called (erasing (s.base.bytes + none.bytes) len) s → end ≡ record mid { region = coloured mid.colour (mid.base.bytes + none.bytes) len mid.region } → none ≡ count s.region.page 0 → len ≡ size_of s → record end { accessible = none; image = None; dirty = false } ≡ wiped s
wiped_is s mid end none len first second is long =
    let zero : none.bytes ≡ 0 = ap (λ (n : Count). n.bytes) is in
    let place : s.base.bytes + none.bytes ≡ s.base.bytes = omega arith in
    let done : mid ≡ called (erasing s.base.bytes (size_of s)) s =
    first ∙ ap (λ (n : ℕ). called (erasing n len) s) place ∙ ap (λ (n : ℕ). called (erasing s.base.bytes n) s) long in
    ap (λ (t : Slot). record t { accessible = none; image = None; dirty = false }) (renewed_after (erasing s.base.bytes (size_of s)) none.bytes len s mid end done second place long)
    ∙ ap (λ (n : Count). record (renewed (erasing s.base.bytes (size_of s)) s) { accessible = n; image = None; dirty = false }) is
