-- A slot that was in use is clean once what a reset leaves is decommitted.
use Rattle.std.proofs.Common.{◌≡◌, ℕ, ◌+◌, ◌-◌, ◌%◌, ◌<◌, ◌≤◌, Bool, true, false, List, [], ◌∷◌, length, min, refl, sym, ◌∙◌, subst, arith, slice_range, Option, Some, None, IfSome, All, nat_lt, option_map, if◌then◌else◌}
use Rattle.pool_images.proofs.Imports.{All-nil, All-cons, ltb-true, ltb-false, le-ltb, Contents, put_back, decommitted, decommitting, DecommitBehavior, Zero, RestoreOriginalMapping, sub_whole, range_joined, range_within}
use Rattle.pool_images.specs.declared.image_slot.ImageName.{ImageName}
use Rattle.pool_images.specs.Slots.{Slot, IsSlot, IsSound, IsReady, IsClean, IsPart, Holds, size_of, restored_image, called, cleared, reset_ranges, kept_bytes, decommitted_all}
use Rattle.pool_images.proofs.Backs.{back_here, back_there, length-back}
use Rattle.pool_images.proofs.Ready.{IsStarted, lifted, followed, paired}

-- where pages go back to a mapped image, the image of a slot is what it goes back to
pub image_restored : (image : Option ImageName) (b : DecommitBehavior) → b ≡ RestoreOriginalMapping → image ≡ restored_image image b
image_restored None b is = refl
image_restored (Some name) b is =
    let P : DecommitBehavior → Type 0 = λ x. Some name ≡ restored_image (Some name) x in
    subst P (sym is) refl

-- what holds of told pages whose first bytes are what they go back to
record IsHalf (s : Slot) (kept : ℕ) (c : Contents) : Type 0 where
  bytes : length c.bytes ≡ s.region.len
  origin : length c.origin ≡ s.region.len
  ready : IsReady s c
  first : Holds s 0 kept c

half_cleared : (s : Slot) (kept : ℕ) (c : Contents) → IsSlot s → IsSound s.region.page s.region.len s.base.bytes (size_of s) c → IsReady s c → kept ≤ s.accessible.bytes → IsHalf s kept (put_back s.base.bytes kept c)
half_cleared s kept c fits sound ready within =
    let every : length c.bytes ≡ s.region.len = sound.shaped.bytes in
    let all : length c.origin ≡ s.region.len = sound.shaped.origin in
    let ends : s.base.bytes + kept ≤ length c.origin = omega (arith, fits.sizes.inside, fits.sizes.within) in
    let bytes : List ℕ = (put_back s.base.bytes kept c).bytes in
    let long : length (put_back s.base.bytes kept c).bytes ≡ length c.origin = length-back s.base.bytes kept c.bytes c.origin (every ∙ sym all) ends in
    record {
      bytes = long ∙ all;
      origin = all;
      ready = record {
        reach = ready.reach;
        origin = ready.origin;
        beyond = back_there s.base.bytes kept (s.base.bytes + s.accessible.bytes) (s.base.bytes + size_of s) c.bytes c.origin (every ∙ sym all) ends (omega (arith, fits.sizes.inside)) ready.beyond;
        colour = ready.colour;
      };
      first = range_within (put_back s.base.bytes kept c).bytes c.origin s.base.bytes (s.base.bytes + kept) (s.base.bytes + 0) (s.base.bytes + kept) (omega arith) (omega arith) (omega arith) (omega arith)
          (back_here s.base.bytes kept c.bytes c.origin (omega arith) ends);
    }

half : (s : Slot) (kept : ℕ) → IsSlot s → IfSome s.region.contents (IsReady s) → kept ≤ s.accessible.bytes → IfSome (option_map (put_back s.base.bytes kept) s.region.contents) (IsHalf s kept)
half s kept fits ready within =
    let P : Contents → Type 0 = λ c. IsSound s.region.page s.region.len s.base.bytes (size_of s) c × IsReady s c in
    lifted P (IsHalf s kept) (put_back s.base.bytes kept) s.region.contents (λ c h. half_cleared s kept c fits h.0 h.1 within)
    (paired (IsSound s.region.page s.region.len s.base.bytes (size_of s)) (IsReady s) s.region.contents fits.told ready)

-- all that could be reached was set by hand
whole_started : (s : Slot) (c : Contents) → IsSlot s → IsHalf s s.accessible.bytes c → IsStarted (cleared s.accessible.bytes s) c
whole_started s c fits h = record {
  ready = record { reach = h.ready.reach; origin = h.ready.origin; beyond = h.ready.beyond; colour = h.ready.colour };
  holds = range_joined c.bytes c.origin (s.base.bytes + 0) (s.base.bytes + s.accessible.bytes) (s.base.bytes + size_of s) (omega (arith, h.bytes, fits.sizes.inside)) (omega (arith, h.origin, fits.sizes.inside)) h.first h.ready.beyond;
}

whole_clean : (s : Slot) → s.region.behaviour ≡ RestoreOriginalMapping → IsSlot s → IfSome s.region.contents (IsReady s) → IsClean (cleared s.accessible.bytes s)
whole_clean s is fits ready =
    let t : Slot = cleared s.accessible.bytes s in
    let told = half s s.accessible.bytes fits ready (omega arith) in
    let o : Option Contents = option_map (put_back s.base.bytes s.accessible.bytes) s.region.contents in
    record {
      not_dirty = refl;
      image = image_restored s.image s.region.behaviour is;
      ready = followed (IsHalf s s.accessible.bytes) (IsReady t) o (λ c h. (whole_started s c fits h).ready) told;
      holds = followed (IsHalf s s.accessible.bytes) (Holds t 0 (size_of t)) o (λ c h. (whole_started s c fits h).holds) told;
    }

-- the slot once what lies past those bytes is decommitted
abbrev finished : ℕ → Slot → Slot
finished kept s = called (decommitting (s.base.bytes + kept) (s.accessible.bytes - kept)) (cleared kept s)

rest_started : (s : Slot) (kept : ℕ) (c : Contents) → IsSlot s → kept ≤ s.accessible.bytes → IsHalf s kept c → IsStarted (finished kept s) (decommitted (s.base.bytes + kept) (s.accessible.bytes - kept) c)
rest_started s kept c fits within h =
    let i : ℕ = s.base.bytes + kept in
    let n : ℕ = s.accessible.bytes - kept in
    let new : List ℕ = (decommitted (s.base.bytes + kept) (s.accessible.bytes - kept) c).bytes in
    let same : length c.bytes ≡ length c.origin = h.bytes ∙ sym h.origin in
    let ends : s.base.bytes + kept + (s.accessible.bytes - kept) ≤ length c.origin = omega (arith, h.origin, fits.sizes.inside, fits.sizes.within) in
    let size : s.base.bytes + size_of s ≤ length c.origin = omega (arith, h.origin, fits.sizes.inside) in
    let long : length (decommitted (s.base.bytes + kept) (s.accessible.bytes - kept) c).bytes ≡ length c.origin = length-back (s.base.bytes + kept) (s.accessible.bytes - kept) c.bytes c.origin same ends in
    let last : s.base.bytes + kept + (s.accessible.bytes - kept) ≡ s.base.bytes + s.accessible.bytes = omega arith in
    let first : Holds s 0 kept (decommitted (s.base.bytes + kept) (s.accessible.bytes - kept) c) =
    back_there (s.base.bytes + kept) (s.accessible.bytes - kept) (s.base.bytes + 0) (s.base.bytes + kept) c.bytes c.origin same ends (omega arith) h.first in
    let E : ℕ → Type 0 = λ e. slice_range (decommitted (s.base.bytes + kept) (s.accessible.bytes - kept) c).bytes (s.base.bytes + kept) e ≡ slice_range c.origin (s.base.bytes + kept) e in
    let second : Holds s kept s.accessible.bytes (decommitted (s.base.bytes + kept) (s.accessible.bytes - kept) c) =
    subst E last (back_here (s.base.bytes + kept) (s.accessible.bytes - kept) c.bytes c.origin (omega arith) ends) in
    let third : Holds s s.accessible.bytes (size_of s) (decommitted (s.base.bytes + kept) (s.accessible.bytes - kept) c) =
    back_there (s.base.bytes + kept) (s.accessible.bytes - kept) (s.base.bytes + s.accessible.bytes) (s.base.bytes + size_of s) c.bytes c.origin same ends size h.ready.beyond in
    record {
      ready = record { reach = h.ready.reach; origin = h.ready.origin; beyond = third; colour = h.ready.colour };
      holds = range_joined (decommitted (s.base.bytes + kept) (s.accessible.bytes - kept) c).bytes c.origin (s.base.bytes + 0) (s.base.bytes + kept) (s.base.bytes + size_of s) (omega arith) size first
          (range_joined (decommitted (s.base.bytes + kept) (s.accessible.bytes - kept) c).bytes c.origin (s.base.bytes + kept) (s.base.bytes + s.accessible.bytes) (s.base.bytes + size_of s) (omega arith) size second third);
    }

rest_clean : (s : Slot) (kept : ℕ) → s.region.behaviour ≡ RestoreOriginalMapping → IsSlot s → IfSome s.region.contents (IsReady s) → kept ≤ s.accessible.bytes → IsClean (finished kept s)
rest_clean s kept is fits ready within =
    let t : Slot = finished kept s in
    let f : Contents → Contents = decommitted (s.base.bytes + kept) (s.accessible.bytes - kept) in
    let told = half s kept fits ready within in
    let o : Option Contents = option_map (put_back s.base.bytes kept) s.region.contents in
    record {
      not_dirty = refl;
      image = image_restored s.image s.region.behaviour is;
      ready = lifted (IsHalf s kept) (IsReady t) f o (λ c h. (rest_started s kept c fits within h).ready) told;
      holds = lifted (IsHalf s kept) (Holds t 0 (size_of t)) f o (λ c h. (rest_started s kept c fits within h).holds) told;
    }

reset_by : (s : Slot) (keep : ℕ) (less : Bool) → nat_lt keep s.accessible.bytes ≡ less → s.region.behaviour ≡ RestoreOriginalMapping → IsSlot s → IfSome s.region.contents (IsReady s) → IsClean (decommitted_all (if less then record { start = keep; len = s.accessible.bytes - keep } ∷ [] else []) (cleared (min keep s.accessible.bytes) s))
reset_by s keep true is restores fits ready =
    let below : keep < s.accessible.bytes = ltb-true keep s.accessible.bytes is in
    let kept : keep ≡ min keep s.accessible.bytes = omega arith in
    let P : ℕ → Type 0 = λ n. IsClean (called (decommitting (s.base.bytes + keep) (s.accessible.bytes - keep)) (cleared n s)) in
    subst P kept (rest_clean s keep restores fits ready (omega arith))
reset_by s keep false is restores fits ready =
    let from : s.accessible.bytes ≤ keep = ltb-false keep s.accessible.bytes is in
    let kept : s.accessible.bytes ≡ min keep s.accessible.bytes = omega arith in
    let P : ℕ → Type 0 = λ n. IsClean (cleared n s) in
    subst P kept (whole_clean s restores fits ready)

-- once that is done the slot is clean
pub reset_clean : (s : Slot) (keep : ℕ) → s.region.behaviour ≡ RestoreOriginalMapping → IsSlot s → IfSome s.region.contents (IsReady s) → IsClean (decommitted_all (reset_ranges keep s.accessible.bytes) (cleared (min keep s.accessible.bytes) s))
reset_clean s keep restores fits ready = reset_by s keep (nat_lt keep s.accessible.bytes) refl restores fits ready

-- nothing is left where all that could be reached was kept
pub kept_clean : (s : Slot) (keep : ℕ) → s.accessible.bytes ≤ keep → IsClean (decommitted_all (reset_ranges keep s.accessible.bytes) (cleared (min keep s.accessible.bytes) s)) → IsClean (cleared (min keep s.accessible.bytes) s)
kept_clean s keep from clean =
    let no : nat_lt keep s.accessible.bytes ≡ false = le-ltb keep s.accessible.bytes from in
    let P : Bool → Type 0 = λ less. IsClean (decommitted_all (if less then record { start = keep; len = s.accessible.bytes - keep } ∷ [] else []) (cleared (min keep s.accessible.bytes) s)) in
    subst P no clean

parts_by : (page size keep accessible : ℕ) (less : Bool) → nat_lt keep accessible ≡ less → keep % page ≡ 0 → accessible % page ≡ 0 → accessible ≤ size → All (IsPart page size) (if less then record { start = keep; len = accessible - keep } ∷ [] else [])
parts_by page size keep accessible true is keep_whole accessible_whole within =
    let below : keep < accessible = ltb-true keep accessible is in
    All-cons (IsPart page size) (record { start = keep; len = accessible - keep }) []
    (record { start = keep_whole; len = sub_whole accessible keep page accessible_whole keep_whole; inside = omega arith })
    (All-nil (IsPart page size))
parts_by page size keep accessible false is keep_whole accessible_whole within = All-nil (IsPart page size)

-- what a reset leaves is whole pages of the slot
pub reset_parts : (page size keep accessible : ℕ) → keep % page ≡ 0 → accessible % page ≡ 0 → accessible ≤ size → All (IsPart page size) (reset_ranges keep accessible)
reset_parts page size keep accessible keep_whole accessible_whole within = parts_by page size keep accessible (nat_lt keep accessible) refl keep_whole accessible_whole within

-- no more is kept than was asked for
pub kept_at_most : (b : DecommitBehavior) (keep accessible : ℕ) → kept_bytes b keep accessible ≤ keep
kept_at_most RestoreOriginalMapping keep accessible = omega arith
kept_at_most Zero keep accessible = omega arith
