-- A plain slot is written, and reset.
use Rattle.std.proofs.Common.{◌≡◌, ℕ, ◌+◌, ◌-◌, ◌%◌, ◌<◌, ◌≤◌, Bool, true, false, List, [], ◌∷◌, length, get_or, refl, sym, ap, ◌∙◌, subst, inl, inr, arith, min, replicate, slice_range, Option, None, Some, IfSome, option_map, nat_lt, All, if◌then◌else◌}
use Rattle.pool_slots.proofs.Imports.{cases_lt, ltb-true, ltb-false, All-cons, All-nil, zero-mod, sub_whole, length-replicate, get_or-replicate, same_lists, Contents, IsShaped, put, written, decommitted, DecommitBehavior, length-put, get_or-put_in, range-put_above, range_joined, same_range, same_at, length-range, get_or-range, written_shaped, ImageName, ByteRange, Slot, IsSlot, IsSound, IsReady, IsClean, IsPart, Holds, restored_image, placed, size_of, reset_ranges, decommitted_all, back_here, back_there, written_ready, next, fits_next, lifted, followed, paired, size_whole}
use Rattle.pool_slots.specs.PlainSlots.{IsPlain, IsUnusedFrom, plain_written, top_kept, top_reset, bottom_reset, below_top, CleanSlotsReadZeros}
use Rattle.pool_slots.proofs.ByHand.{ready_after}

module _ (at : ℕ) (new : List ℕ) (s : Slot) where
  fits_told : (o : Option Contents) → IsSlot s → at + length new ≤ size_of s → IfSome o (IsSound s.region.page s.region.len s.base.bytes (size_of s)) → IfSome (option_map (written (s.base.bytes + at) new) o) (IsSound s.region.page s.region.len s.base.bytes (size_of s))
  fits_told None fits within sound = sound
  fits_told (Some c) fits within sound =
      let page : c.page ≡ s.region.page = sound.shaped.same_page in
      let S : ℕ → Type 0 = λ p. IsShaped p s.region.len c in
      let T : ℕ → Type 0 = λ p. IsShaped p s.region.len (written (s.base.bytes + at) new c) in
      let some : 0 < c.page = rw page (omega (arith, fits.sizes.page_size.at_least)) in
      record {
        shaped = subst T page (written_shaped s.region.len (s.base.bytes + at) new c some (subst S (sym page) sound.shaped) (omega (arith, fits.sizes.inside)));
        outside = sound.outside;
      }

  -- a write leaves a plain slot
  pub plain_after : IsPlain s → at + length new ≤ s.accessible.bytes → IsPlain (plain_written at new s)
  plain_after p within = record {
    fits = record { sizes = p.fits.sizes; told = fits_told s.region.contents p.fits (omega (arith, p.fits.sizes.within)) p.fits.told };
    whole = p.whole;
    all = p.all;
    image = p.image;
    not_dirty = p.not_dirty;
    ready = followed (IsReady (record (plain_written at new s) { dirty = true })) (IsReady (plain_written at new s)) (plain_written at new s).region.contents
        (λ c x. record { reach = x.reach; origin = x.origin; beyond = x.beyond; colour = x.colour }) (written_ready s at new p.fits p.ready within);
  }

-- what is told of a plain slot without image
pub record IsBlankTold (s : Slot) (c : Contents) : Type 0 where
  pub sound : IsSound s.region.page s.region.len s.base.bytes (size_of s) c
  pub zeros : c.origin ≡ replicate (length c.origin) 0

blank_of : (s : Slot) (o : Option Contents) → s.image ≡ None → IfSome o (IsSound s.region.page s.region.len s.base.bytes (size_of s)) → IfSome o (IsReady s) → IfSome o (IsBlankTold s)
blank_of s None none sound ready = sound
blank_of s (Some c) none sound ready =
    let Z : Option ImageName → Type 0 = λ o. c.origin ≡ placed s.base.bytes (restored_image o s.region.behaviour) c.origin in
    record { sound = sound; zeros = subst Z none ready.origin }

pub blank : (s : Slot) → IsPlain s → IfSome s.region.contents (IsBlankTold s)
blank s p = blank_of s s.region.contents p.image p.fits.told p.ready

-- zeros that are written are what the bytes go back to
zeros_there : (at n : ℕ) (s : Slot) (c : Contents) → IsSlot s → at + n ≤ size_of s → IsBlankTold s c → Holds s at (at + n) (written (s.base.bytes + at) (replicate n 0) c)
zeros_there at n s c fits within b =
    let bytes : length c.bytes ≡ s.region.len = b.sound.shaped.bytes in
    let origin : length c.origin ≡ s.region.len = b.sound.shaped.origin in
    let more : length (replicate {A = ℕ} n 0) ≡ n = length-replicate n 0 in
    let long : length (put (s.base.bytes + at) (replicate n 0) c.bytes) ≡ length c.bytes = length-put (s.base.bytes + at) (replicate n 0) c.bytes (omega (arith, more, bytes, fits.sizes.inside)) in
    same_range (put (s.base.bytes + at) (replicate n 0) c.bytes) c.origin (s.base.bytes + at) (s.base.bytes + (at + n)) (omega (arith, long, bytes, fits.sizes.inside)) (omega (arith, origin, fits.sizes.inside))
    (λ j x over below.
    get_or-put_in (s.base.bytes + at) (replicate n 0) c.bytes j x (omega (arith, bytes, fits.sizes.inside)) over (omega (arith, more))
    ∙ get_or-replicate n (j - (s.base.bytes + at)) 0 x (omega arith)
    ∙ sym (ap (λ (l : List ℕ). get_or l j x) b.zeros ∙ get_or-replicate (length c.origin) j 0 x (omega (arith, origin, fits.sizes.inside))))

-- other bytes stay what they go back to
others_stay : (at n from to : ℕ) (s : Slot) (c : Contents) → IsSlot s → at + n ≤ from → at + n ≤ size_of s → to ≤ size_of s → IsSound s.region.page s.region.len s.base.bytes (size_of s) c → Holds s from to c → Holds s from to (written (s.base.bytes + at) (replicate n 0) c)
others_stay at n from to s c fits behind inside within sound holds =
    let bytes : length c.bytes ≡ s.region.len = sound.shaped.bytes in
    let more : length (replicate {A = ℕ} n 0) ≡ n = length-replicate n 0 in
    range-put_above (s.base.bytes + at) (replicate n 0) c.bytes (s.base.bytes + from) (s.base.bytes + to) (omega (arith, more, bytes, fits.sizes.inside)) (omega (arith, bytes, fits.sizes.inside)) (omega (arith, more)) ∙ holds

-- a decommit sets its bytes to what they go back to, and leaves so what was so
module _ (at n : ℕ) (s : Slot) (c : Contents) (fits : IsSlot s) (within : at + n ≤ size_of s) (sound : IsSound s.region.page s.region.len s.base.bytes (size_of s) c) where
  back : Holds s at (at + n) (decommitted (s.base.bytes + at) n c)
  back =
      let bytes : length c.bytes ≡ s.region.len = sound.shaped.bytes in
      let origin : length c.origin ≡ s.region.len = sound.shaped.origin in
      let place : s.base.bytes + at + n ≡ s.base.bytes + (at + n) = omega arith in
      let new : List ℕ = put (s.base.bytes + at) (slice_range c.origin (s.base.bytes + at) (s.base.bytes + at + n)) c.bytes in
      let E : ℕ → Type 0 = λ e. slice_range new (s.base.bytes + at) e ≡ slice_range c.origin (s.base.bytes + at) e in
      subst E place (back_here (s.base.bytes + at) n c.bytes c.origin (omega (arith, bytes, fits.sizes.inside)) (omega (arith, origin, fits.sizes.inside)))

  stays : (from to : ℕ) → to ≤ size_of s → Holds s from to c → Holds s from to (decommitted (s.base.bytes + at) n c)
  stays from to below holds =
      let all : length c.origin ≡ s.region.len = sound.shaped.origin in
      let every : length c.bytes ≡ s.region.len = sound.shaped.bytes in
      back_there (s.base.bytes + at) n (s.base.bytes + from) (s.base.bytes + to) c.bytes c.origin (every ∙ sym all) (omega (arith, all, fits.sizes.inside)) (omega (arith, all, fits.sizes.inside)) holds

joined : (s : Slot) (a b e : ℕ) (c : Contents) → IsSlot s → e ≤ size_of s → IsShaped s.region.page s.region.len c → Holds s a b c → Holds s b e c → Holds s a e c
joined s a b e c fits within shaped left right = range_joined c.bytes c.origin (s.base.bytes + a) (s.base.bytes + b) (s.base.bytes + e) (omega (arith, shaped.bytes, fits.sizes.inside)) (omega (arith, shaped.origin, fits.sizes.inside)) left right

-- A plain slot of which the bytes below one place and those from another place on are what they go back to is clean once
-- what lies between is decommitted.
record IsHalfTold (from to : ℕ) (s : Slot) (c : Contents) : Type 0 where
  sound : IsSound s.region.page s.region.len s.base.bytes (size_of s) c
  ready : IsReady s c
  below : Holds s 0 from c
  above : Holds s to (size_of s) c

half_of : (from to : ℕ) (s : Slot) (o : Option Contents) → IfSome o (IsSound s.region.page s.region.len s.base.bytes (size_of s)) → IfSome o (IsReady s) → IfSome o (Holds s 0 from) → IfSome o (Holds s to (size_of s)) → IfSome o (IsHalfTold from to s)
half_of from to s None sound ready below above = sound
half_of from to s (Some c) sound ready below above = record { sound = sound; ready = ready; below = below; above = above }

origin_none : (b : DecommitBehavior) → None ≡ restored_image None b
origin_none b = refl

pub no_image : (s : Slot) → s.image ≡ None → s.image ≡ restored_image s.image s.region.behaviour
no_image s none = let I : Option ImageName → Type 0 = λ o. o ≡ restored_image o s.region.behaviour in subst I (sym none) (origin_none s.region.behaviour)

shape_next : (r : ByteRange) (s : Slot) (c : Contents) → IsSlot (next r s) → s.region.contents ≡ Some c → IsShaped s.region.page s.region.len (decommitted (s.base.bytes + r.start) r.len c)
shape_next r s c fits is =
    let T : Option Contents → Type 0 = λ o. IfSome (option_map (decommitted (s.base.bytes + r.start) r.len) o) (IsSound s.region.page s.region.len s.base.bytes (size_of s)) in
    let sound = subst T is fits.told in
    sound.shaped

all_held : (from to : ℕ) (s : Slot) (o : Option Contents) → s.region.contents ≡ o → IsSlot s → IsSlot (next (record { start = from; len = to - from }) s) → from ≤ to → to ≤ size_of s → IfSome o (IsHalfTold from to s) → IfSome (option_map (decommitted (s.base.bytes + from) (to - from)) o) (Holds s 0 (size_of s))
all_held from to s None is fits after order within told = told
all_held from to s (Some c) is fits after order within told =
    let sum : from + (to - from) ≡ to = omega arith in
    let D : Contents = decommitted (s.base.bytes + from) (to - from) c in
    let shaped : IsShaped s.region.page s.region.len D = shape_next (record { start = from; len = to - from }) s c after is in
    let M : ℕ → Type 0 = λ e. Holds s from e D in
    let middle : M to = subst M sum (back from (to - from) s c fits (omega (arith, sum)) told.sound) in
    let below : Holds s 0 from D = stays from (to - from) s c fits (omega (arith, sum)) told.sound 0 from (omega arith) told.below in
    let above : Holds s to (size_of s) D = stays from (to - from) s c fits (omega (arith, sum)) told.sound to (size_of s) (omega arith) told.above in
    joined s 0 to (size_of s) D fits (omega arith) shaped (joined s 0 from to D fits within shaped below middle) above

clean_between : (from to : ℕ) (s : Slot) → IsPlain s → from ≤ to → to ≤ size_of s → IsPart s.region.page (size_of s) (record { start = from; len = to - from }) → IfSome s.region.contents (Holds s 0 from) → IfSome s.region.contents (Holds s to (size_of s)) → IsClean (next (record { start = from; len = to - from }) s)
clean_between from to s p order within part below above =
    let r : ByteRange = record { start = from; len = to - from } in
    let after : IsSlot (next r s) = fits_next r s p.fits part in
    let half : IfSome s.region.contents (IsHalfTold from to s) = half_of from to s s.region.contents p.fits.told p.ready below above in
    record {
      not_dirty = p.not_dirty;
      image = no_image s p.image;
      ready = lifted (IsHalfTold from to s) (IsReady (next r s)) (decommitted (s.base.bytes + from) (to - from)) s.region.contents (λ c h. ready_after r s c p.fits part h.sound h.ready) half;
      holds = all_held from to s s.region.contents refl p.fits after order within half;
    }

-- the part of a slot between two places of whole pages
part_between : (page size from to : ℕ) → from % page ≡ 0 → to % page ≡ 0 → from ≤ to → to ≤ size → IsPart page size (record { start = from; len = to - from })
part_between page size from to a b order within = record { start = a; len = sub_whole to from page b a; inside = omega arith }

pub told_held : (at n from to : ℕ) (s : Slot) → IsPlain s → at + n ≤ from → at + n ≤ size_of s → to ≤ size_of s → IfSome s.region.contents (Holds s from to) → IfSome (plain_written at (replicate n 0) s).region.contents (Holds s from to)
told_held at n from to s p behind inside within holds =
    let Sound : Contents → Type 0 = IsSound s.region.page s.region.len s.base.bytes (size_of s) in
    lifted (λ c. Sound c × Holds s from to c) (Holds s from to) (written (s.base.bytes + at) (replicate n 0)) s.region.contents
    (λ c both. others_stay at n from to s c p.fits behind inside within both.0 both.1) (paired Sound (Holds s from to) s.region.contents p.fits.told holds)

told_zeros : (at n : ℕ) (s : Slot) → IsPlain s → at + n ≤ size_of s → IfSome (plain_written at (replicate n 0) s).region.contents (Holds s at (at + n))
told_zeros at n s p within = lifted (IsBlankTold s) (Holds s at (at + n)) (written (s.base.bytes + at) (replicate n 0)) s.region.contents (λ c b. zeros_there at n s c p.fits within b) (blank s p)

pub empty_held : (s : Slot) (at : ℕ) (o : Option Contents) → IfSome o (IsSound s.region.page s.region.len s.base.bytes (size_of s)) → IsSlot s → at ≤ size_of s → IfSome o (Holds s at at)
empty_held s at None sound fits within = sound
empty_held s at (Some c) sound fits within = same_range c.bytes c.origin (s.base.bytes + at) (s.base.bytes + at) (omega (arith, sound.shaped.bytes, fits.sizes.inside)) (omega (arith, sound.shaped.origin, fits.sizes.inside)) (λ j x over below. absurd (omega arith))

pub written_size : (at n : ℕ) (s : Slot) → IsPlain s → at + n ≤ s.static_size → at + length (replicate {A = ℕ} n 0) ≤ s.accessible.bytes
written_size at n s p within = omega (arith, length-replicate {A = ℕ} n 0, p.all)

-- The top of a stack is zeroed by hand, and the rest decommitted.
pub top_plain : (keep : ℕ) (s : Slot) → IsPlain s → IsPlain (top_reset keep s)
top_plain keep s p = plain_after (s.static_size - top_kept keep s) (replicate (top_kept keep s) 0) s p (written_size (s.static_size - top_kept keep s) (top_kept keep s) s p (omega arith))

pub top_parts : (keep : ℕ) (s : Slot) → IsPlain s → keep % s.region.page ≡ 0 → IsPart s.region.page (size_of s) (record { start = 0; len = s.static_size - top_kept keep s })
top_parts keep s p whole = record {
  start = zero-mod s.region.page;
  len = top_whole keep s.static_size s.region.page whole (rw (← p.whole) (size_whole s));
  inside = omega (arith, p.whole);
}
  where
    top_whole : (k n page : ℕ) → k % page ≡ 0 → n % page ≡ 0 → (n - min k n) % page ≡ 0
    top_whole k n page a b =
        elim (cases_lt k n) [
          | inl less ↦ let m : min k n ≡ k = omega arith in rw m (sub_whole n k page b a)
          | inr over ↦ let m : n - min k n ≡ 0 = omega arith in rw m (zero-mod page)
        ]

pub top_clean : (keep : ℕ) (s : Slot) → IsPlain s → keep % s.region.page ≡ 0 → IsClean (next (record { start = 0; len = s.static_size - top_kept keep s }) (top_reset keep s))
top_clean keep s p whole =
    let k : ℕ = top_kept keep s in
    let at : ℕ = s.static_size - k in
    let t : Slot = top_reset keep s in
    let sum : at + k ≡ size_of s = omega (arith, p.whole) in
    let H : ℕ → Type 0 = λ e. IfSome t.region.contents (Holds t at e) in
    let P : ℕ → Type 0 = λ l. IsPart s.region.page (size_of s) (record { start = 0; len = l }) in
    let C : ℕ → Type 0 = λ l. IsClean (next (record { start = 0; len = l }) t) in
    let less : at ≡ at - 0 = omega arith in
    let after : IsPlain t = top_plain keep s p in
    subst C (sym less) (clean_between 0 at t after (omega arith) (omega (arith, p.whole)) (subst P less (top_parts keep s p whole))
    (empty_held t 0 t.region.contents after.fits.told after.fits (omega arith)) (subst H sum (told_zeros at k s p (omega (arith, p.whole)))))

-- The beginning of what a table used is zeroed by hand, and the rest of that decommitted.
module _ (keep used : ℕ) (s : Slot) (p : IsPlain s) (within : used ≤ s.static_size) (keep_whole : keep % s.region.page ≡ 0) (used_whole : used % s.region.page ≡ 0) (unused : IsUnusedFrom used s) where
  abbrev k : ℕ
  k = min keep used

  abbrev t : Slot
  t = bottom_reset keep used s

  pub bottom_plain : IsPlain t
  bottom_plain = plain_after 0 (replicate k 0) s p (written_size 0 k s p (omega arith))

  pub bottom_unused : IsUnusedFrom used t
  bottom_unused = told_held 0 k used (size_of s) s p (omega arith) (omega (arith, p.whole)) (omega arith) unused

  zeros : IfSome t.region.contents (Holds t 0 k)
  zeros =
      let H : ℕ → Type 0 = λ e. IfSome t.region.contents (Holds t 0 e) in
      let e : 0 + k ≡ k = omega arith in
      subst H e (told_zeros 0 k s p (omega (arith, p.whole)))

  bottom_of : (b : Bool) → nat_lt keep used ≡ b → All (IsPart s.region.page (size_of s)) (if b then record { start = keep; len = used - keep } ∷ [] else []) × IsClean (decommitted_all (if b then record { start = keep; len = used - keep } ∷ [] else []) t)
  bottom_of true e =
      let less = ltb-true keep used e in
      let r : ByteRange = record { start = keep; len = used - keep } in
      let part : IsPart s.region.page (size_of s) r = part_between s.region.page (size_of s) keep used keep_whole used_whole (omega arith) (omega (arith, p.whole)) in
      let H : ℕ → Type 0 = λ e. IfSome t.region.contents (Holds t 0 e) in
      let is : k ≡ keep = omega arith in
      (All-cons (IsPart s.region.page (size_of s)) r [] part (All-nil (IsPart s.region.page (size_of s))), clean_between keep used t bottom_plain (omega arith) (omega (arith, p.whole)) part (subst H is zeros) bottom_unused)
  bottom_of false e =
      let over = ltb-false keep used e in
      let is : k ≡ used = omega arith in
      let H : ℕ → Type 0 = λ e. IfSome t.region.contents (Holds t 0 e) in
      let Sound : Contents → Type 0 = IsSound s.region.page s.region.len s.base.bytes (size_of s) in (
        All-nil (IsPart s.region.page (size_of s)),
        record {
          not_dirty = p.not_dirty;
          image = no_image s p.image;
          ready = bottom_plain.ready;
          holds = followed (λ c. Sound c × (Holds t 0 used c × Holds t used (size_of s) c)) (Holds t 0 (size_of s)) t.region.contents
              (λ c h. joined t 0 used (size_of s) c bottom_plain.fits (omega arith) h.0.shaped h.1.0 h.1.1)
              (paired Sound (λ c. Holds t 0 used c × Holds t used (size_of s) c) t.region.contents bottom_plain.fits.told (paired (Holds t 0 used) (Holds t used (size_of s)) t.region.contents (subst H is zeros) bottom_unused));
        },
      )

  pub bottom_reset_done : All (IsPart s.region.page (size_of s)) (reset_ranges keep used) × IsClean (decommitted_all (reset_ranges keep used) t)
  bottom_reset_done = bottom_of (nat_lt keep used) refl

-- The same as the code says it.
pub top_done : (keep : ℕ) (s new : Slot) (ranges : List ByteRange) → IsPlain s → keep % s.region.page ≡ 0 → new ≡ top_reset keep s → ranges ≡ below_top keep s → All (IsPart new.region.page (size_of new)) ranges × IsClean (decommitted_all ranges new)
top_done keep s new ranges p whole is left =
    let D : Slot → List ByteRange → Type 0 = λ x l. All (IsPart x.region.page (size_of x)) l × IsClean (decommitted_all l x) in
    let one : ByteRange = record { start = 0; len = s.static_size - top_kept keep s } in
    let done : D (top_reset keep s) (below_top keep s) = (All-cons (IsPart s.region.page (size_of s)) one [] (top_parts keep s p whole) (All-nil (IsPart s.region.page (size_of s))), top_clean keep s p whole) in
    subst (λ x. D x ranges) (sym is) (subst (D (top_reset keep s)) (sym left) done)

-- zeros in what a region goes back to
zeros_read : (s : Slot) (n : ℕ) (c : Contents) → IsSlot s → n ≤ size_of s → IsBlankTold s c → Holds s 0 (size_of s) c → slice_range c.bytes s.base.bytes (s.base.bytes + n) ≡ replicate n 0
zeros_read s n c fits within b holds =
    let bytes : length c.bytes ≡ s.region.len = b.sound.shaped.bytes in
    let origin : length c.origin ≡ s.region.len = b.sound.shaped.origin in
    let long : length (slice_range c.bytes s.base.bytes (s.base.bytes + n)) ≡ s.base.bytes + n - s.base.bytes = length-range c.bytes s.base.bytes (s.base.bytes + n) (omega (arith, bytes, fits.sizes.inside)) in
    let zeros : length (replicate {A = ℕ} n 0) ≡ n = length-replicate n 0 in
    same_lists (slice_range c.bytes s.base.bytes (s.base.bytes + n)) (replicate n 0) (omega (arith, long, zeros))
    (λ k d below.
    let inside : k < n = omega (arith, long) in
    get_or-range c.bytes s.base.bytes (s.base.bytes + n) k d (omega arith)
    ∙ same_at c.bytes c.origin (s.base.bytes + 0) (s.base.bytes + size_of s) (s.base.bytes + k) d holds (omega arith) (omega arith)
    ∙ ap (λ (l : List ℕ). get_or l (s.base.bytes + k) d) b.zeros
    ∙ get_or-replicate (length c.origin) (s.base.bytes + k) 0 d (omega (arith, origin, fits.sizes.inside))
    ∙ sym (get_or-replicate n k 0 d inside))

pub clean_slots_read_zeros : CleanSlotsReadZeros
clean_slots_read_zeros s p clean =
    let n : ℕ = s.static_size in
    followed (λ c. IsBlankTold s c × Holds s 0 (size_of s) c) (λ c. slice_range c.bytes s.base.bytes (s.base.bytes + n) ≡ replicate n 0) s.region.contents
    (λ c both. zeros_read s n c p.fits (omega (arith, p.whole)) both.0 both.1) (paired (IsBlankTold s) (Holds s 0 (size_of s)) s.region.contents (blank s p) clean.holds)
