-- A slot as it is made, and as it is read and written.
use Rattle.std.proofs.Common.{◌≡◌, ℕ, ◌+◌, ◌-◌, ◌*◌, ◌/◌, ◌%◌, ◌^◌, ◌<◌, ◌≤◌, false, List, length, replicate, refl, sym, ap, ◌∙◌, subst, inl, arith, slice_range, Option, Some, None, IfSome, option_map}
use Rattle.pool_images.proofs.Imports.{div-mul-le_self, le-div_iff_mul-le, Count, count, IsPageSize, rounded_up, Contents, IsShaped, CanReach, HasNoOtherImage, page_origin, written, Told, TellsShaped, page_below, whole, range-put_above, range_within}
use Rattle.pool_images.specs.declared.image_slot.ImageName.{ImageName}
use Rattle.pool_images.specs.Slots.{Slot, IsSlot, Keeps, IsSound, IsReady, IsClean, IsFresh, HasColour, Holds, size_of, restored_image, placed, written_at}
use Rattle.pool_images.proofs.Marks.{page_lt, range-zeros}
use Rattle.pool_images.proofs.Fitting.{mul_under}
use Rattle.pool_images.proofs.Ready.{page_some}

-- the slot as it is made
abbrev pub fresh_slot : Told → Count → Count → ℕ → Option ℕ → Slot
fresh_slot t base accessible static_size colour = record { region = t; base = base; accessible = accessible; static_size = static_size; image = None; dirty = false; colour = colour }

-- a page of zeros
pub zero_page : (page len k : ℕ) → 0 < page → len % page ≡ 0 → k < len / page → slice_range (replicate {A = ℕ} len 0) (k * page) (k * page + page) ≡ replicate page 0
zero_page page len k some is below =
    let inside : k * page + page ≤ len = page_below k len page is (mul_under k len page some is below) in
    let size : k * page + page - k * page ≡ page = omega arith in
    range-zeros len (k * page) (k * page + page) inside ∙ ap (λ (n : ℕ). replicate {A = ℕ} n 0) size

fresh_sound : (page len base size : ℕ) (o : Option Contents) → 0 < page → IfSome o (IsShaped page len) → IfSome o (λ c. c.origin ≡ replicate len 0) → IfSome o (IsSound page len base size)
fresh_sound page len base size None some shaped zeros = shaped
fresh_sound page len base size (Some c) some shaped zeros = record {
  shaped = shaped;
  outside = λ k below out.
      rw shaped.same_page (ap (λ (l : List ℕ). slice_range l (k * page) (k * page + page)) zeros ∙ zero_page page len k some shaped.whole below);
}

pub fresh_keeps : (t : Told) (base accessible : Count) (static_size : ℕ) (colour : Option ℕ) → IsFresh base accessible static_size colour t → IsPageSize t.page → base.bytes % base.page ≡ 0 → accessible.bytes % accessible.page ≡ 0 → t.len < 2 ^ 64 → TellsShaped t → Keeps (count t.page (rounded_up t.page static_size)) (fresh_slot t base accessible static_size colour)
fresh_keeps t base accessible static_size colour fresh page_size base_whole accessible_whole bounded shaped = record {
  size = refl;
  fits = record {
    sizes = record {
      page_size = page_size;
      base_page = fresh.base_page;
      base_whole = rw fresh.base_page at base_whole;
      accessible_page = fresh.accessible_page;
      accessible_whole = rw fresh.accessible_page at accessible_whole;
      inside = fresh.inside;
      bounded = bounded;
      roomy = fresh.bounded;
      within = fresh.within;
      image = tt;
    };
    told = fresh_sound t.page t.len base.bytes (rounded_up t.page static_size) t.contents (omega (arith, page_size.at_least)) shaped fresh.origin;
  };
}

fresh_held : (t : Told) (base : Count) (size : ℕ) (c : Contents) → base.bytes + size ≤ t.len → IsShaped t.page t.len c → c.origin ≡ replicate t.len 0 → slice_range c.bytes base.bytes (base.bytes + size) ≡ replicate size 0 → slice_range c.bytes base.bytes (base.bytes + size) ≡ slice_range c.origin base.bytes (base.bytes + size)
fresh_held t base size c inside shaped zeros bytes =
    let n : base.bytes + size - base.bytes ≡ size = omega arith in
    bytes ∙ ap (λ (k : ℕ). replicate {A = ℕ} k 0) (sym n) ∙ sym (range-zeros t.len base.bytes (base.bytes + size) inside) ∙ ap (λ (l : List ℕ). slice_range l base.bytes (base.bytes + size)) (sym zeros)

fresh_holds : (t : Told) (base accessible : Count) (static_size : ℕ) (colour : Option ℕ) (from : ℕ) (o : Option Contents) → from ≤ rounded_up t.page static_size → base.bytes + rounded_up t.page static_size ≤ t.len → IfSome o (IsShaped t.page t.len) → IfSome o (λ c. c.origin ≡ replicate t.len 0) → IfSome o (λ c. slice_range c.bytes base.bytes (base.bytes + rounded_up t.page static_size) ≡ replicate (rounded_up t.page static_size) 0) → IfSome o (Holds (fresh_slot t base accessible static_size colour) from (rounded_up t.page static_size))
fresh_holds t base accessible static_size colour from None within inside shaped zeros bytes = shaped
fresh_holds t base accessible static_size colour from (Some c) within inside shaped zeros bytes =
    range_within c.bytes c.origin base.bytes (base.bytes + rounded_up t.page static_size) (base.bytes + from) (base.bytes + rounded_up t.page static_size)
    (omega (arith, shaped.bytes)) (omega (arith, shaped.origin)) (omega arith) (omega arith)
    (fresh_held t base (rounded_up t.page static_size) c inside shaped zeros bytes)

fresh_origin : (page len base : ℕ) (o : Option Contents) → IfSome o (IsShaped page len) → IfSome o (λ c. c.origin ≡ replicate len 0) → IfSome o (λ c. c.origin ≡ placed base None c.origin)
fresh_origin page len base None shaped zeros = shaped
fresh_origin page len base (Some c) shaped zeros = zeros ∙ ap (λ (k : ℕ). replicate {A = ℕ} k 0) (sym shaped.origin)

fresh_ready : (t : Told) (base accessible : Count) (static_size : ℕ) (colour : Option ℕ) (o : Option Contents) → IfSome o (CanReach base.bytes accessible.bytes) → IfSome o (λ c. c.origin ≡ placed base.bytes None c.origin) → IfSome o (Holds (fresh_slot t base accessible static_size colour) accessible.bytes (rounded_up t.page static_size)) → IfSome o (HasColour base.bytes (rounded_up t.page static_size) colour) → IfSome o (IsReady (fresh_slot t base accessible static_size colour))
fresh_ready t base accessible static_size colour None reach origin beyond has = reach
fresh_ready t base accessible static_size colour (Some c) reach origin beyond has = record { reach = reach; origin = origin; beyond = beyond; colour = has }

pub fresh_clean : (t : Told) (base accessible : Count) (static_size : ℕ) (colour : Option ℕ) → IsFresh base accessible static_size colour t → TellsShaped t → IsClean (fresh_slot t base accessible static_size colour)
fresh_clean t base accessible static_size colour fresh shaped = record {
  not_dirty = refl;
  image = refl;
  ready = fresh_ready t base accessible static_size colour t.contents fresh.reach (fresh_origin t.page t.len base.bytes t.contents shaped fresh.origin) (fresh_holds t base accessible static_size colour accessible.bytes t.contents fresh.within fresh.inside shaped fresh.origin fresh.zeros) fresh.has_colour;
  holds = fresh_holds t base accessible static_size colour 0 t.contents (omega arith) fresh.inside shaped fresh.origin fresh.zeros;
}

-- a part of what can be reached can be reached
pub reach_part : (base had at n : ℕ) (c : Contents) → 0 < c.page → at + n ≤ had → CanReach base had c → CanReach (base + at) n c
reach_part base had at n c some within reach k from below =
    let lower : base / c.page ≤ (base + at) / c.page = (le-div_iff_mul-le some).1 (omega (arith, div-mul-le_self base c.page)) in
    reach k (omega arith) (omega arith)

reach_told : (s : Slot) (at n : ℕ) (o : Option Contents) → IsSlot s → at + n ≤ s.accessible.bytes → IfSome o (IsSound s.region.page s.region.len s.base.bytes (size_of s)) → IfSome o (IsReady s) → IfSome o (CanReach (s.base.bytes + at) n)
reach_told s at n None fits within sound ready = sound
reach_told s at n (Some c) fits within sound ready = reach_part s.base.bytes s.accessible.bytes at n c (page_some s c fits sound) within ready.reach

-- bytes below `accessible` can be reached
pub reach_slot : (s : Slot) (at n : ℕ) → IsSlot s → IfSome s.region.contents (IsReady s) → at + n ≤ s.accessible.bytes → IfSome s.region.contents (CanReach (s.base.bytes + at) n)
reach_slot s at n fits ready within = reach_told s at n s.region.contents fits within fits.told ready

written_sound : (page len base size start : ℕ) (new : List ℕ) (o : Option Contents) → IfSome o (IsSound page len base size) → IfSome (option_map (written start new) o) (IsShaped page len) → IfSome (option_map (written start new) o) (IsSound page len base size)
written_sound page len base size start new None sound shaped = shaped
written_sound page len base size start new (Some c) sound shaped = record { shaped = shaped; outside = sound.outside }

-- a write leaves the slot's sizes
pub written_keeps : (whole : Count) (s : Slot) (at : ℕ) (new : List ℕ) → Keeps whole s → TellsShaped (written_at at new s).region → Keeps whole (written_at at new s)
written_keeps whole s at new keeps shaped = record {
  size = keeps.size;
  fits = record {
    sizes = keeps.fits.sizes;
    told = written_sound s.region.page s.region.len s.base.bytes (size_of s) (s.base.bytes + at) new s.region.contents keeps.fits.told shaped;
  };
}

ready_told : (s : Slot) (at : ℕ) (new : List ℕ) (o : Option Contents) → IsSlot s → at + length new ≤ s.accessible.bytes → IfSome o (IsSound s.region.page s.region.len s.base.bytes (size_of s)) → IfSome o (IsReady s) → IfSome (option_map (written (s.base.bytes + at) new) o) (IsReady (written_at at new s))
ready_told s at new None fits within sound ready = sound
ready_told s at new (Some c) fits within sound ready = record {
  reach = ready.reach;
  origin = ready.origin;
  beyond = range-put_above (s.base.bytes + at) new c.bytes (s.base.bytes + s.accessible.bytes) (s.base.bytes + size_of s) (omega (arith, sound.shaped.bytes, fits.sizes.inside, fits.sizes.within)) (omega (arith, sound.shaped.bytes, fits.sizes.inside)) (omega arith) ∙ ready.beyond;
  colour = ready.colour;
}

-- and the slot can be used as before
pub written_ready : (s : Slot) (at : ℕ) (new : List ℕ) → IsSlot s → IfSome s.region.contents (IsReady s) → at + length new ≤ s.accessible.bytes → IfSome (written_at at new s).region.contents (IsReady (written_at at new s))
written_ready s at new fits ready within = ready_told s at new s.region.contents fits within fits.told ready

no_image : (page len start : ℕ) (image : List ℕ) (c : Contents) → 0 < page → IsShaped page len c → c.origin ≡ replicate (length c.origin) 0 → start + length image ≤ len → HasNoOtherImage start image c
no_image page len start image c some shaped zeros fits =
    let all : (k : ℕ) → k < len / page → page_origin k c ≡ replicate c.page 0 =
    λ k below. rw shaped.same_page (ap (λ (l : List ℕ). slice_range l (k * page) (k * page + page)) (zeros ∙ ap (λ (n : ℕ). replicate {A = ℕ} n 0) shaped.origin) ∙ zero_page page len k some shaped.whole below) in
    record {
      outside = λ k below out. all k (rw shaped.accessible at below);
      inside = λ k at. inl (all k (
          let under : k * page < len = rw (← shaped.same_page) (omega (arith, at.below)) in
          page_lt k (len / page) page (omega (arith, under, whole len page shaped.whole))));
    }

no_image_told : (s : Slot) (start : ℕ) (image : List ℕ) (o : Option Contents) → IsSlot s → s.image ≡ None → start + length image ≤ s.region.len → IfSome o (IsSound s.region.page s.region.len s.base.bytes (size_of s)) → IfSome o (IsReady s) → IfSome o (HasNoOtherImage start image)
no_image_told s start image None fits none within sound ready = sound
no_image_told s start image (Some c) fits none within sound ready =
    let O : Option ImageName → Type 0 = λ o. c.origin ≡ placed s.base.bytes (restored_image o s.region.behaviour) c.origin in
    no_image s.region.page s.region.len start image c (omega (arith, fits.sizes.page_size.at_least)) sound.shaped (subst O none ready.origin) within

-- no page of a slot without image goes back to one
pub none_mapped : (s : Slot) (start : ℕ) (image : List ℕ) → IsSlot s → IfSome s.region.contents (IsReady s) → s.image ≡ None → start + length image ≤ s.region.len → IfSome s.region.contents (HasNoOtherImage start image)
none_mapped s start image fits ready none within = no_image_told s start image s.region.contents fits none within fits.told ready
