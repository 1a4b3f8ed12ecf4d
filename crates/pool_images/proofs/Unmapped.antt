-- A clean slot whose image is taken away.
use Rattle.std.proofs.Common.{◌≡◌, ℕ, ◌+◌, ◌/◌, ◌≤◌, List, length, replicate, refl, sym, ap, ◌∙◌, subst, arith, Option, Some, None, IfSome}
use Rattle.pool_images.proofs.Imports.{length-replicate, Count, Contents, put_all, remapped, remapping, length-put, length-range, range-put_both}
use Rattle.pool_images.specs.declared.image_slot.ImageName.{ImageName}
use Rattle.pool_images.specs.Slots.{Slot, IsSlot, IsPlaced, IsClean, Holds, size_of, image_bytes, placed, called, coloured, without_mapped}
use Rattle.pool_images.proofs.Colours.{IsAlmost, all_coloured, colours_fit, coloured_clean, renewed_after}
use Rattle.pool_images.proofs.Marks.{reach_marked, put-zeros}
use Rattle.pool_images.proofs.Ready.{IsGood, good, lifted, page_inside}

-- the slot once its pages are zeros, before they have their colour
abbrev unmapped_slot : ImageName → Slot → Slot
unmapped_slot name s = record (called (remapping (s.base.bytes + name.offset) name.len) s) { image = None }

started_without : (s : Slot) (name : ImageName) → s.image ≡ Some name → IsSlot s → IsPlaced s.region.page s.accessible.bytes name → (c : Contents) → IsGood s c → IsAlmost (unmapped_slot name s) (s.base.bytes + name.offset) name.len (remapped (s.base.bytes + name.offset) name.len c)
started_without s name is fits at c g =
    let all : length c.origin ≡ s.region.len = g.sound.shaped.origin in
    let every : length c.bytes ≡ s.region.len = g.sound.shaped.bytes in
    let O : Option ImageName → Type 0 = λ o. c.origin ≡ placed s.base.bytes o c.origin in
    let mapped : c.origin ≡ placed s.base.bytes (Some name) c.origin = subst O (sym g.image ∙ is) g.ready.origin in
    let image : List ℕ = image_bytes s.base.bytes name c.origin in
    let ends : s.base.bytes + name.offset + name.len ≤ length c.origin = omega (arith, fits.sizes.inside, fits.sizes.within, at.inside) in
    let len : length (image_bytes s.base.bytes name c.origin) ≡ name.len = length-range c.origin (s.base.bytes + name.offset) (s.base.bytes + name.offset + name.len) ends ∙ omega arith in
    let zeros : length (replicate {A = ℕ} name.len 0) ≡ name.len = length-replicate {A = ℕ} name.len 0 in
    let P : List ℕ → Type 0 = λ l. put_all (s.base.bytes + name.offset) name.len 0 l ≡ replicate (length c.origin) 0 in
    let cleared : put_all (s.base.bytes + name.offset) name.len 0 c.origin ≡ replicate (length c.origin) 0 =
    subst P (sym mapped) (put-zeros (s.base.bytes + name.offset) name.len (length c.origin) (image_bytes s.base.bytes name c.origin) len ends) in
    let same : length (put_all (s.base.bytes + name.offset) name.len 0 c.origin) ≡ length c.origin = length-put (s.base.bytes + name.offset) (replicate {A = ℕ} name.len 0) c.origin (omega arith) in
    let both : (from to : ℕ) → to ≤ size_of s → Holds s from to c → Holds (unmapped_slot name s) from to (remapped (s.base.bytes + name.offset) name.len c) =
    λ from to within h. range-put_both (s.base.bytes + name.offset) (replicate {A = ℕ} name.len 0) c.bytes c.origin (s.base.bytes + from) (s.base.bytes + to) (omega arith) (omega arith) (omega (arith, fits.sizes.inside)) h in
    record {
      ready = record {
        reach = reach_marked s.base.bytes s.accessible.bytes ((s.base.bytes + name.offset) / c.page) (name.len / c.page) c (page_inside s c name.offset fits g.sound (omega (arith, fits.sizes.within, at.inside))) g.ready.reach;
        origin = cleared ∙ ap (λ (n : ℕ). replicate {A = ℕ} n 0) (sym same);
        beyond = both s.accessible.bytes (size_of s) (omega arith) g.ready.beyond;
        colour = λ k inside. all_coloured s.colour ((s.base.bytes + name.offset) / c.page) (name.len / c.page) k c.colour (colours_fit s c name.offset name.len fits g.sound at.offset at.len (omega (arith, fits.sizes.within, at.inside))) (g.ready.colour k inside);
      };
      holds = both 0 (size_of s) (omega arith) g.holds;
    }

clean_of : (s : Slot) (name : ImageName) → s.image ≡ Some name → IsSlot s → IsPlaced s.region.page s.accessible.bytes name → IsClean s → IsClean (without_mapped (Some name) s)
clean_of s name is fits at clean =
    let f : Contents → Contents = remapped (s.base.bytes + name.offset) name.len in
    let u : Slot = unmapped_slot name s in
    coloured_clean s.colour u (s.base.bytes + name.offset) name.len refl clean.not_dirty refl
    (lifted (IsGood s) (IsAlmost u (s.base.bytes + name.offset) name.len) f s.region.contents (λ c g. started_without s name is fits at c g) (good s fits clean))

-- a clean slot's image is taken away
pub clean_without : (s : Slot) (name : ImageName) → s.image ≡ Some name → IsSlot s → IsClean s → IsClean (without_mapped (Some name) s)
clean_without s name is fits clean =
    let P : Option ImageName → Type 0 = λ o. IfSome o (IsPlaced s.region.page s.accessible.bytes) in
    clean_of s name is fits (subst P is fits.sizes.image) clean

-- The same as the code says them.
pub unmapped_is : (s mid end : Slot) (name : ImageName) (start len : Count) → mid ≡ called (remapping (s.base.bytes + start.bytes) len.bytes) s → end ≡ record mid { region = coloured mid.colour (mid.base.bytes + start.bytes) len.bytes mid.region } → start.bytes ≡ name.offset → len.bytes ≡ name.len → record end { image = None } ≡ without_mapped (Some name) s
unmapped_is s mid end name start len first second at long =
    let place : s.base.bytes + start.bytes ≡ s.base.bytes + name.offset = omega arith in
    let done : mid ≡ called (remapping (s.base.bytes + name.offset) name.len) s =
    first ∙ ap (λ (n : ℕ). called (remapping n len.bytes) s) place ∙ ap (λ (n : ℕ). called (remapping (s.base.bytes + name.offset) n) s) long in
    ap (λ (t : Slot). record t { image = None }) (renewed_after (remapping (s.base.bytes + name.offset) name.len) start.bytes len.bytes s mid end done second place long)
