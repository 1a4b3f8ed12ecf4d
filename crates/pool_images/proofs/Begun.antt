-- A slot with an image mapped, and as a memory begins in it.
use Rattle.std.proofs.Common.{◌≡◌, ℕ, ◌+◌, ◌-◌, ◌/◌, ◌%◌, ◌<◌, ◌≤◌, true, List, length, get_or, replicate, refl, sym, ap, ◌∙◌, subst, arith, slice_range, Option, Some, None, IfSome, option_map}
use Rattle.pool_images.proofs.Imports.{mod-add-div', mod-lt, Count, rounded_up, Contents, CanReach, IsIn, put, put_all, image_mapped, mapped, mapping, DecommitBehavior, Zero, RestoreOriginalMapping, length-put, range-put, range-put_above, range-put_both}
use Rattle.pool_images.specs.Images.{Image, start}
use Rattle.pool_images.specs.declared.image_slot.ImageName.{ImageName}
use Rattle.pool_images.specs.Slots.{Slot, IsSlot, IsSound, IsReady, IsClean, IsBegun, Holds, HasImage, size_of, name_of, image_bytes, restored_image, origin_image, placed, colour_number, called, coloured, with_image}
use Rattle.pool_images.proofs.Colours.{IsUncoloured, again, all_coloured, colours_fit, coloured_bytes, coloured_ready, coloured_slot, lifted_coloured, renewed_after}
use Rattle.pool_images.proofs.Marks.{reach_marked, range-put_within}
use Rattle.pool_images.proofs.Ready.{IsGood, good, lifted, followed, page_inside, reads_start}

mod_below : (n page : ℕ) → 0 < page → n % page < page
mod_below n page some = mod-lt n some

-- the whole pages of a number of bytes are at least as many bytes
pub rounded_up_above : (page n : ℕ) → 0 < page → n ≤ rounded_up page n
rounded_up_above page n some = omega (arith, mod-add-div' (n + page - 1) page, mod_below (n + page - 1) page some)

-- the slot with an image mapped into it by a region of this behaviour, in use
abbrev mapped_slot : DecommitBehavior → Image → Slot → Slot
mapped_slot b i s = record (called (mapping b (s.base.bytes + i.offset) i.bytes) s) { image = Some (name_of i); dirty = true }

-- a clean slot without image holds zeros, and goes back to them
zeros_back : (s : Slot) (c : Contents) → s.image ≡ None → IsGood s c → c.origin ≡ replicate (length c.origin) 0
zeros_back s c none g =
    let O : Option ImageName → Type 0 = λ o. c.origin ≡ placed s.base.bytes o c.origin in
    subst O (sym g.image ∙ none) g.ready.origin

-- the image can be reached
mapped_reach : (s : Slot) (i : Image) (c : Contents) → IsSlot s → i.offset + length i.bytes ≤ s.accessible.bytes → IsGood s c → CanReach s.base.bytes s.accessible.bytes (image_mapped (s.base.bytes + i.offset) i.bytes c)
mapped_reach s i c fits inside g =
    reach_marked s.base.bytes s.accessible.bytes ((s.base.bytes + i.offset) / c.page) (length i.bytes / c.page) c (page_inside s c i.offset fits g.sound (omega (arith, fits.sizes.within))) g.ready.reach

-- the image is whole pages of the slot
pub record AreWhole (s : Slot) (i : Image) : Type 0 where
  pub offset : i.offset % s.region.page ≡ 0
  pub bytes : length i.bytes % s.region.page ≡ 0

-- the pages have their colour once it is given back
mapped_colours : (s : Slot) (i : Image) (c : Contents) → IsSlot s → AreWhole s i → i.offset + length i.bytes ≤ s.accessible.bytes → IsGood s c → (k : ℕ) → IsIn s.base.bytes (size_of s) c.page k → get_or (again s.colour ((s.base.bytes + i.offset) / c.page) (length i.bytes / c.page) (put_all ((s.base.bytes + i.offset) / c.page) (length i.bytes / c.page) 0 c.colour)) k 0 ≡ colour_number s.colour
mapped_colours s i c fits pages inside g k at =
    all_coloured s.colour ((s.base.bytes + i.offset) / c.page) (length i.bytes / c.page) k c.colour (colours_fit s c i.offset (length i.bytes) fits g.sound pages.offset pages.bytes (omega (arith, fits.sizes.within))) (g.ready.colour k at)

-- the region goes back to the image, or to zeros still
mapped_ready : (b : DecommitBehavior) (s : Slot) (i : Image) → s.region.behaviour ≡ b → s.image ≡ None → IsSlot s → AreWhole s i → i.offset + length i.bytes ≤ s.accessible.bytes → (c : Contents) → IsGood s c → IsUncoloured (mapped_slot b i s) (s.base.bytes + i.offset) (length i.bytes) (mapped b (s.base.bytes + i.offset) i.bytes c)
mapped_ready RestoreOriginalMapping s i is none fits pages inside c g =
    let all : length c.origin ≡ s.region.len = g.sound.shaped.origin in
    let every : length c.bytes ≡ s.region.len = g.sound.shaped.bytes in
    let zeros : c.origin ≡ replicate (length c.origin) 0 = zeros_back s c none g in
    let ends : s.base.bytes + i.offset + length i.bytes ≤ length c.origin = omega (arith, fits.sizes.inside, fits.sizes.within) in
    let same : length (put (s.base.bytes + i.offset) i.bytes c.origin) ≡ length c.origin = length-put (s.base.bytes + i.offset) i.bytes c.origin ends in
    let image : image_bytes s.base.bytes (name_of i) (put (s.base.bytes + i.offset) i.bytes c.origin) ≡ i.bytes = range-put (s.base.bytes + i.offset) i.bytes c.origin ends in
    let P : List ℕ → Type 0 = λ l. put (s.base.bytes + i.offset) i.bytes c.origin ≡ put (s.base.bytes + i.offset) l (replicate (length (put (s.base.bytes + i.offset) i.bytes c.origin)) 0) in
    let over : put (s.base.bytes + i.offset) i.bytes c.origin ≡ put (s.base.bytes + i.offset) i.bytes (replicate (length (put (s.base.bytes + i.offset) i.bytes c.origin)) 0) =
    ap (put (s.base.bytes + i.offset) i.bytes) (zeros ∙ ap (λ (n : ℕ). replicate {A = ℕ} n 0) (sym same)) in
    let B : DecommitBehavior → Type 0 = λ b. put (s.base.bytes + i.offset) i.bytes c.origin ≡ placed s.base.bytes (restored_image (Some (name_of i)) b) (put (s.base.bytes + i.offset) i.bytes c.origin) in
    record {
      reach = mapped_reach s i c fits inside g;
      origin = subst B (sym is) (subst P (sym image) over);
      beyond = range-put_both (s.base.bytes + i.offset) i.bytes c.bytes c.origin (s.base.bytes + s.accessible.bytes) (s.base.bytes + size_of s) (omega arith) (omega arith) (omega (arith, fits.sizes.inside)) g.ready.beyond;
      colour = mapped_colours s i c fits pages inside g;
    }
mapped_ready Zero s i is none fits pages inside c g =
    let every : length c.bytes ≡ s.region.len = g.sound.shaped.bytes in
    let B : DecommitBehavior → Type 0 = λ b. c.origin ≡ placed s.base.bytes (restored_image (Some (name_of i)) b) c.origin in
    record {
      reach = mapped_reach s i c fits inside g;
      origin = subst B (sym is) (zeros_back s c none g);
      beyond = range-put_above (s.base.bytes + i.offset) i.bytes c.bytes (s.base.bytes + s.accessible.bytes) (s.base.bytes + size_of s) (omega (arith, fits.sizes.inside, fits.sizes.within)) (omega (arith, fits.sizes.inside)) (omega arith) ∙ g.ready.beyond;
      colour = mapped_colours s i c fits pages inside g;
    }

-- and the slot reads as the image and zeros
image_read : (s : Slot) (i : Image) (c : Contents) → s.image ≡ None → IsSlot s → i.offset + length i.bytes ≤ s.static_size → IsGood s c → slice_range (put (s.base.bytes + i.offset) i.bytes c.bytes) s.base.bytes (s.base.bytes + s.static_size) ≡ start (Some i) s.static_size
image_read s i c none fits within g =
    let every : length c.bytes ≡ s.region.len = g.sound.shaped.bytes in
    let above : s.static_size ≤ size_of s = rounded_up_above s.region.page s.static_size (omega (arith, fits.sizes.page_size.at_least)) in
    range-put_within i.offset i.bytes c.bytes s.base.bytes s.static_size (omega (arith, fits.sizes.inside)) within
    ∙ ap (λ (l : List ℕ). put i.offset i.bytes l) (reads_start s None s.static_size c fits g.sound g.image above tt (record { ready = g.ready; holds = g.holds }) none)

mapped_read : (b : DecommitBehavior) (s : Slot) (i : Image) → s.image ≡ None → IsSlot s → i.offset + length i.bytes ≤ s.static_size → (c : Contents) → IsGood s c → slice_range (mapped b (s.base.bytes + i.offset) i.bytes c).bytes s.base.bytes (s.base.bytes + s.static_size) ≡ start (Some i) s.static_size
mapped_read RestoreOriginalMapping s i none fits within c g = image_read s i c none fits within g
mapped_read Zero s i none fits within c g = image_read s i c none fits within g

-- An image is mapped into a clean slot that has none: once that is marked as in use, a memory begins in it. Under either
-- behaviour.
pub mapped_begun : (s : Slot) (i : Image) → s.image ≡ None → IsSlot s → AreWhole s i → i.offset + length i.bytes ≤ s.accessible.bytes → i.offset + length i.bytes ≤ s.static_size → IsClean s → IsBegun (Some i) (record (with_image (Some i) s) { dirty = true })
mapped_begun s i none fits pages inside within clean =
    let f : Contents → Contents = mapped s.region.behaviour (s.base.bytes + i.offset) i.bytes in
    let u : Slot = mapped_slot s.region.behaviour i s in
    let Reads : Contents → Type 0 = λ c. slice_range c.bytes s.base.bytes (s.base.bytes + s.static_size) ≡ start (Some i) s.static_size in
    let ready = lifted (IsGood s) (IsUncoloured u (s.base.bytes + i.offset) (length i.bytes)) f s.region.contents (mapped_ready s.region.behaviour s i refl none fits pages inside) (good s fits clean) in
    let reads = lifted (IsGood s) Reads f s.region.contents (mapped_read s.region.behaviour s i none fits within) (good s fits clean) in
    record {
      dirty = refl;
      ready = lifted_coloured (IsUncoloured u (s.base.bytes + i.offset) (length i.bytes)) (IsReady (coloured_slot s.colour (s.base.bytes + i.offset) (length i.bytes) u)) s.colour (s.base.bytes + i.offset) (length i.bytes) u.region
          (λ c r. coloured_ready s.colour u (s.base.bytes + i.offset) (length i.bytes) c refl r) ready;
      reads = lifted_coloured Reads Reads s.colour (s.base.bytes + i.offset) (length i.bytes) u.region
          (λ c r. ap (λ (l : List ℕ). slice_range l s.base.bytes (s.base.bytes + s.static_size)) (coloured_bytes s.colour (s.base.bytes + i.offset) (length i.bytes) c) ∙ r) reads;
    }

-- The same as the code says them.
pub mapped_is : (s mid end : Slot) (i : Image) (start len : Count) → mid ≡ called (mapping s.region.behaviour (s.base.bytes + i.offset) i.bytes) s → end ≡ record mid { region = coloured mid.colour (mid.base.bytes + start.bytes) len.bytes mid.region } → start.bytes ≡ i.offset → len.bytes ≡ length i.bytes → record end { image = Some (name_of i) } ≡ with_image (Some i) s
mapped_is s mid end i start len first second at long =
    let place : s.base.bytes + start.bytes ≡ s.base.bytes + i.offset = omega arith in
    ap (λ (t : Slot). record t { image = Some (name_of i) }) (renewed_after (mapping s.region.behaviour (s.base.bytes + i.offset) i.bytes) start.bytes len.bytes s mid end first second place long)

begun_told : (s : Slot) (image : Option Image) (o : Option Contents) → s.image ≡ origin_image s → IsSlot s → IfSome image (λ i. i.offset + length i.bytes ≤ s.static_size) → IfSome o (IsSound s.region.page s.region.len s.base.bytes (size_of s)) → IfSome o (IsReady s) → IfSome o (Holds s 0 (size_of s)) → IfSome o (HasImage s image) → IfSome o (λ c. slice_range c.bytes s.base.bytes (s.base.bytes + s.static_size) ≡ start image s.static_size)
begun_told s image None is fits inside sound ready holds has = sound
begun_told s image (Some c) is fits inside sound ready holds has =
    reads_start s image s.static_size c fits sound is (rounded_up_above s.region.page s.static_size (omega (arith, fits.sizes.page_size.at_least))) inside (record { ready = ready; holds = holds }) has

-- a clean slot that has the wanted image is marked as in use
pub begun : (s : Slot) (image : Option Image) → IsSlot s → IsClean s → IfSome image (λ i. i.offset + length i.bytes ≤ s.static_size) → IfSome s.region.contents (HasImage s image) → IsBegun image (record s { dirty = true })
begun s image fits clean inside has = record {
  dirty = refl;
  ready = followed (IsReady s) (IsReady (record s { dirty = true })) s.region.contents (λ c r. record { reach = r.reach; origin = r.origin; beyond = r.beyond; colour = r.colour }) clean.ready;
  reads = begun_told s image s.region.contents clean.image fits inside fits.told clean.ready clean.holds has;
}

told_none : (s : Slot) (o : Option Contents) → s.image ≡ None → IfSome o (HasImage s None)
told_none s None none = tt
told_none s (Some c) none = none

-- the same without an image
pub begun_none : (s : Slot) → IsSlot s → IsClean s → s.image ≡ None → IsBegun None (record s { dirty = true })
begun_none s fits clean none = begun s None fits clean tt (told_none s s.region.contents none)

pub if_mapped : {A B : Type 0} (f : A → B) (P : B → Type 0) (o : Option A) → IfSome o (λ x. P (f x)) → IfSome (option_map f o) P
if_mapped f P None h = h
if_mapped f P (Some x) h = h
