-- A plain slot that can be zeroed by hand: it still can be when a range of it is decommitted, also where that fails
-- half-way, and once it is zeroed it is clean.
use Rattle.std.proofs.Common.{◌≡◌, ℕ, ◌+◌, ◌-◌, ◌*◌, ◌/◌, ◌%◌, ◌<◌, ◌≤◌, true, false, List, length, get_or, refl, sym, ap, ◌∙◌, subst, inl, inr, arith, slice_range, replicate, Option, None, Some, Result, Err, IfSome, option_map, slice_index_or}
use Rattle.pool_slots.proofs.Imports.{cases_lt, length-replicate, get_or-replicate, count, Contents, IsShaped, IsIn, Page, page_at, page_origin, decommitted, put, written, Told, IsPartly, MayChangePartly, Faulted, TellsShaped, overwritten, decommitting, DecommitBehavior, page_of, add_whole, length-put, get_or-put_in, get_or-put_above, same_at, same_range, same_by_pages, range_within, ImageName, ByteRange, Slot, IsSlot, Keeps, IsSound, IsReady, IsClean, IsPart, CallFaulted, Holds, origin_image, restored_image, placed, size_of, back_there, tells_shaped, by_page, to_page, from_page, keeps_decommitted, written_ready, next, fits_next, lifted, followed, paired, written_shaped, same_faulted}
use Rattle.pool_slots.specs.SlotQueues.{plain_slot, CanBeZeroed, IsLeftSlot, zeroed_slot}

-- what holds of told pages of a slot that isn't in use and holds zeros from n on
record IsIdle (n : ℕ) (s : Slot) (c : Contents) : Type 0 where
  sound : IsSound s.region.page s.region.len s.base.bytes (size_of s) c
  ready : IsReady s c
  rest : Holds s n (size_of s) c

idle_of : (n : ℕ) (s : Slot) (o : Option Contents) → IfSome o (IsSound s.region.page s.region.len s.base.bytes (size_of s)) → IfSome o (IsReady s) → IfSome o (Holds s n (size_of s)) → IfSome o (IsIdle n s)
idle_of n s None sound ready rest = sound
idle_of n s (Some c) sound ready rest = record { sound = sound; ready = ready; rest = rest }

idle : (n : ℕ) (s : Slot) → CanBeZeroed n s → IfSome s.region.contents (IsIdle n s)
idle n s z = idle_of n s s.region.contents z.fits.told z.ready z.rest

-- bytes that are what they go back to still are once some are put back
still : (s : Slot) (start len from : ℕ) (c : Contents) → IsSlot s → IsSound s.region.page s.region.len s.base.bytes (size_of s) c → start + len ≤ size_of s → Holds s from (size_of s) c → Holds s from (size_of s) (decommitted (s.base.bytes + start) len c)
still s start len from c fits sound inside holds =
    let all : length c.origin ≡ s.region.len = sound.shaped.origin in
    let every : length c.bytes ≡ s.region.len = sound.shaped.bytes in
    back_there (s.base.bytes + start) len (s.base.bytes + from) (s.base.bytes + size_of s) c.bytes c.origin (every ∙ sym all) (omega (arith, fits.sizes.inside)) (omega (arith, fits.sizes.inside)) holds

pub ready_after : (r : ByteRange) (s : Slot) (c : Contents) → IsSlot s → IsPart s.region.page (size_of s) r → IsSound s.region.page s.region.len s.base.bytes (size_of s) c → IsReady s c → IsReady (next r s) (decommitted (s.base.bytes + r.start) r.len c)
ready_after r s c fits part sound ready = record {
  reach = ready.reach;
  origin = ready.origin;
  beyond = still s r.start r.len s.accessible.bytes c fits sound part.inside ready.beyond;
  colour = ready.colour;
}

pub zeroed_next : (n : ℕ) (r : ByteRange) (s : Slot) → IsPart s.region.page (size_of s) r → CanBeZeroed n s → CanBeZeroed n (next r s)
zeroed_next n r s part z =
    let f : Contents → Contents = decommitted (s.base.bytes + r.start) r.len in
    record {
      fits = fits_next r s z.fits part;
      image = z.image;
      not_dirty = z.not_dirty;
      all = z.all;
      within = z.within;
      ready = lifted (IsIdle n s) (IsReady (next r s)) f s.region.contents (λ c i. ready_after r s c z.fits part i.sound i.ready) (idle n s z);
      rest = lifted (IsIdle n s) (Holds (next r s) n (size_of (next r s))) f s.region.contents (λ c i. still s r.start r.len n c z.fits i.sound part.inside i.rest) (idle n s z);
    }

-- a place in a page holds what it goes back to
abbrev HoldsAt : ℕ → ℕ → Page → Type 0
HoldsAt i x p = get_or p.bytes i x ≡ get_or p.origin i x

module _ (n start len : ℕ) (s : Slot) (c d : Contents) (fits : IsSlot s) (inside : start + len ≤ size_of s) (i : IsIdle n s c) (partly : IsPartly (decommitting (s.base.bytes + start) len) c d) (shaped : IsShaped s.region.page s.region.len d) where
  part_page : d.page ≡ c.page
  part_page = shaped.same_page ∙ sym i.sound.shaped.same_page

  part_origin : d.origin ≡ c.origin
  part_origin =
      same_by_pages d.origin c.origin s.region.page (omega (arith, fits.sizes.page_size.at_least)) (rw shaped.origin shaped.whole) (shaped.origin ∙ sym i.sound.shaped.origin)
      (λ k below.
      let P : ℕ → ℕ → Type 0 = λ a b. slice_range d.origin (k * a) (k * a + a) ≡ slice_range c.origin (k * b) (k * b + b) in
      let same : P d.page c.page = by_page (λ p. p.origin ≡ page_origin k c) (decommitting (s.base.bytes + start) len) c d k partly refl refl in
      let first : P s.region.page c.page = subst (λ (a : ℕ). P a c.page) shaped.same_page same in
      subst (λ (b : ℕ). P s.region.page b) i.sound.shaped.same_page first)

  part_at : (from j x : ℕ) → Holds s from (size_of s) c → s.base.bytes + from ≤ j → j < s.base.bytes + size_of s → get_or d.bytes j x ≡ get_or d.origin j x
  part_at from j x old over below =
      let some : 0 < d.page = rw shaped.same_page (omega (arith, fits.sizes.page_size.at_least)) in
      let k : ℕ = j / d.page in
      let place = page_of j d.page some in
      let e : ℕ = j - j / d.page * d.page in
      let within : j - j / d.page * d.page < d.page = omega (arith, place.0, place.1) in
      let smaller : j - j / d.page * d.page < c.page = subst (λ (a : ℕ). j - j / d.page * d.page < a) part_page within in
      let sum : j / d.page * d.page + (j - j / d.page * d.page) ≡ j = omega (arith, place.0) in
      let pages : j / d.page * d.page ≡ j / d.page * c.page = ap (λ (a : ℕ). j / d.page * a) part_page in
      let new : Holds s from (size_of s) (decommitted (s.base.bytes + start) len c) = still s start len from c fits i.sound inside old in
      let at : HoldsAt e x (page_at k d) =
      by_page (HoldsAt e x) (decommitting (s.base.bytes + start) len) c d k partly
      (to_page c (s.base.bytes + from) (s.base.bytes + size_of s) k e x old smaller (omega (arith, sum, pages)) (omega (arith, sum, pages)))
      (to_page (decommitted (s.base.bytes + start) len c) (s.base.bytes + from) (s.base.bytes + size_of s) k e x new smaller (omega (arith, sum, pages)) (omega (arith, sum, pages))) in
      let P : ℕ → Type 0 = λ a. get_or d.bytes a x ≡ get_or d.origin a x in
      subst P sum (from_page d k e x within at)

  part_holds : (from : ℕ) → Holds s from (size_of s) c → Holds s from (size_of s) d
  part_holds from old = same_range d.bytes d.origin (s.base.bytes + from) (s.base.bytes + size_of s) (omega (arith, shaped.bytes, fits.sizes.inside)) (omega (arith, shaped.origin, fits.sizes.inside)) (λ j x over below. part_at from j x old over below)

  part_ready : IsReady s d
  part_ready = record {
    reach = λ k from below. by_page (λ p. p.accessible ≡ slice_index_or c.accessible k false) (decommitting (s.base.bytes + start) len) c d k partly refl refl ∙ i.ready.reach k (rw part_page at from) (rw part_page at below);
    origin =
        let P : List ℕ → Type 0 = λ l. l ≡ placed s.base.bytes (origin_image s) l in
        subst P (sym part_origin) i.ready.origin;
    beyond = part_holds s.accessible.bytes i.ready.beyond;
    colour = λ k there.
        let same : IsIn s.base.bytes (size_of s) c.page k = rw part_page at there in
        by_page (λ p. p.colour ≡ slice_index_or c.colour k 0) (decommitting (s.base.bytes + start) len) c d k partly refl refl ∙ i.ready.colour k same;
  }

-- what follows of told pages after a fault
record IsIdleStill (n : ℕ) (s : Slot) (o : Option Contents) : Type 0 where
  ready : IfSome o (IsReady s)
  rest : IfSome o (Holds s n (size_of s))

part_told : (n start len : ℕ) (s : Slot) (old new : Option Contents) → IsSlot s → start + len ≤ size_of s → IfSome old (IsIdle n s) → MayChangePartly (decommitting (s.base.bytes + start) len) old new → IfSome new (IsShaped s.region.page s.region.len) → IsIdleStill n s new
part_told n start len s None None fits inside i partly shaped = record { ready = shaped; rest = shaped }
part_told n start len s None (Some d) fits inside i partly shaped = absurd partly
part_told n start len s (Some c) None fits inside i partly shaped = absurd partly
part_told n start len s (Some c) (Some d) fits inside i partly shaped = record {
  ready = part_ready n start len s c d fits inside i partly shaped;
  rest = part_holds n start len s c d fits inside i partly shaped n i.rest;
}

-- the slot with another region of the same sizes
pub fits_after : (r : ByteRange) (s : Slot) (new : Told) → IsPart s.region.page (size_of s) r → IsSlot s → Faulted (decommitting (s.base.bytes + r.start) r.len) s.region new → TellsShaped new → IsSlot (record s { region = new })
fits_after r s new part fits fault shaped =
    let keeps : Keeps (count s.region.page (size_of s)) s = record { size = refl; fits = fits } in
    let failed : Result (Unit {0}) (Unit {0}) = Err tt in
    (keeps_decommitted (count s.region.page (size_of s)) s (count s.base.page (s.base.bytes + r.start)) new failed r.start r.len keeps refl part.inside tt fault shaped).fits

module _ (n : ℕ) (r : ByteRange) (s : Slot) (new : Told) (part : IsPart s.region.page (size_of s) r) (z : CanBeZeroed n s) (fault : Faulted (decommitting (s.base.bytes + r.start) r.len) s.region new) (shaped : TellsShaped new) where
  same_sizes : (new.page ≡ s.region.page) × (new.len ≡ s.region.len) × (new.behaviour ≡ s.region.behaviour)
  same_sizes = (ap (λ (x : Told). x.page) fault.same, ap (λ (x : Told). x.len) fault.same, ap (λ (x : Told). x.behaviour) fault.same)

  old_shape : IfSome new.contents (IsShaped s.region.page s.region.len)
  old_shape =
      let S : ℕ → ℕ → Type 0 = λ p l. IfSome new.contents (IsShaped p l) in
      subst (λ (p : ℕ). S p s.region.len) same_sizes.0 (subst (λ (l : ℕ). S new.page l) same_sizes.1 shaped)

  idle_after : IsIdleStill n s new.contents
  idle_after = part_told n r.start r.len s s.region.contents new.contents z.fits part.inside (idle n s z) fault.partly old_shape

  abbrev u : Told
  u = record s.region { contents = new.contents; marks = new.marks; made = new.made; calls = new.calls; faults = new.faults }

  is_like : new ≡ u
  is_like = fault.same ∙ ap (λ (x : Told). record s.region { contents = new.contents; marks = new.marks; made = x.made; calls = x.calls; faults = new.faults }) (sym fault.same)

  pub zeroed_faulted : CanBeZeroed n (record s { region = new })
  zeroed_faulted =
      let R : Told → Type 0 = λ x. IfSome x.contents (IsReady (record s { region = x })) in
      let H : Told → Type 0 = λ x. IfSome x.contents (Holds (record s { region = x }) n (size_of (record s { region = x }))) in
      let ready : R u = followed (IsReady s) (IsReady (record s { region = u })) new.contents (λ c x. record { reach = x.reach; origin = x.origin; beyond = x.beyond; colour = x.colour }) idle_after.ready in
      let rest : H u = followed (Holds s n (size_of s)) (Holds (record s { region = u }) n (size_of (record s { region = u }))) new.contents (λ c x. x) idle_after.rest in
      record {
        fits = fits_after r s new part z.fits fault shaped;
        image = z.image;
        not_dirty = z.not_dirty;
        all = z.all;
        within = z.within;
        ready = subst R (sym is_like) ready;
        rest = subst H (sym is_like) rest;
      }

-- zeros are what the bytes go back to
zeros_hold : (n : ℕ) (s : Slot) (c : Contents) → IsSlot s → s.image ≡ None → n ≤ size_of s → IsIdle n s c → Holds s 0 (size_of s) (written s.base.bytes (replicate n 0) c)
zeros_hold n s c fits none within i =
    let Z : Option ImageName → Type 0 = λ o. c.origin ≡ placed s.base.bytes (restored_image o s.region.behaviour) c.origin in
    let zeros : c.origin ≡ replicate (length c.origin) 0 = subst Z none i.ready.origin in
    let bytes : length c.bytes ≡ s.region.len = i.sound.shaped.bytes in
    let origin : length c.origin ≡ s.region.len = i.sound.shaped.origin in
    let more : length (replicate {A = ℕ} n 0) ≡ n = length-replicate n 0 in
    let new : List ℕ = put s.base.bytes (replicate n 0) c.bytes in
    let long : length (put s.base.bytes (replicate n 0) c.bytes) ≡ length c.bytes = length-put s.base.bytes (replicate n 0) c.bytes (omega (arith, more, bytes, fits.sizes.inside)) in
    same_range new c.origin (s.base.bytes + 0) (s.base.bytes + size_of s) (omega (arith, long, bytes, fits.sizes.inside)) (omega (arith, origin, fits.sizes.inside))
    (λ j x over below.
    elim (cases_lt j (s.base.bytes + n)) [
      | inl under ↦
          get_or-put_in s.base.bytes (replicate n 0) c.bytes j x (omega (arith, bytes, fits.sizes.inside)) (omega arith) (omega (arith, more))
          ∙ get_or-replicate n (j - s.base.bytes) 0 x (omega arith)
          ∙ sym (ap (λ (l : List ℕ). get_or l j x) zeros ∙ get_or-replicate (length c.origin) j 0 x (omega (arith, origin, fits.sizes.inside)))
      | inr past ↦
          get_or-put_above s.base.bytes (replicate n 0) c.bytes j x (omega (arith, bytes, fits.sizes.inside)) (omega (arith, more))
          ∙ same_at c.bytes c.origin (s.base.bytes + n) (s.base.bytes + size_of s) j x i.rest past below
    ])

zeroed_told : (n : ℕ) (s : Slot) (o : Option Contents) → IsSlot s → s.image ≡ None → n ≤ size_of s → IfSome o (IsIdle n s) → IfSome (option_map (written s.base.bytes (replicate n 0)) o) (Holds s 0 (size_of s))
zeroed_told n s o fits none within told = lifted (IsIdle n s) (Holds s 0 (size_of s)) (written s.base.bytes (replicate n 0)) o (λ c i. zeros_hold n s c fits none within i) told

-- a write at the slot's base is one at its byte 0
ready_zeroed : (n : ℕ) (s : Slot) → CanBeZeroed n s → IfSome (zeroed_slot n s).region.contents (IsReady (zeroed_slot n s))
ready_zeroed n s z =
    let more : length (replicate {A = ℕ} n 0) ≡ n = length-replicate n 0 in
    let at : s.base.bytes + 0 ≡ s.base.bytes = omega arith in
    let R : ℕ → Type 0 = λ b. IfSome (option_map (written b (replicate n 0)) s.region.contents) (IsReady (record s { region = overwritten b (replicate n 0) s.region; dirty = true })) in
    let ready : R s.base.bytes = subst R at (written_ready s 0 (replicate n 0) z.fits z.ready (omega (arith, more, z.within))) in
    followed (IsReady (record s { region = overwritten s.base.bytes (replicate n 0) s.region; dirty = true })) (IsReady (zeroed_slot n s)) (zeroed_slot n s).region.contents
    (λ c x. record { reach = x.reach; origin = x.origin; beyond = x.beyond; colour = x.colour }) ready

restored_none : (b : DecommitBehavior) → None ≡ restored_image None b
restored_none b = refl

pub zeroed_clean : (n : ℕ) (s : Slot) → CanBeZeroed n s → IsClean (zeroed_slot n s)
zeroed_clean n s z =
    let I : Option ImageName → Type 0 = λ o. o ≡ restored_image o s.region.behaviour in
    record {
      not_dirty = z.not_dirty;
      image = subst I (sym z.image) (restored_none s.region.behaviour);
      ready = ready_zeroed n s z;
      holds = followed (Holds s 0 (size_of s)) (Holds (zeroed_slot n s) 0 (size_of (zeroed_slot n s))) (zeroed_slot n s).region.contents (λ c x. x) (zeroed_told n s s.region.contents z.fits z.image (omega (arith, z.within, z.fits.sizes.within)) (idle n s z));
    }

-- what a fault in a decommit leaves of a plain slot
pub left_plain : (r : ByteRange) (base : ℕ) (old new : Told) → IsSlot (plain_slot base old) → IsPart old.page (size_of (plain_slot base old)) r → Faulted (decommitting (base + r.start) r.len) old new → TellsShaped new → IsLeftSlot r (plain_slot base old) (plain_slot base new)
left_plain r base old new fits part fault shaped =
    let s : Slot = plain_slot base old in
    let t : Slot = record s { region = new } in
    let page : old.page ≡ new.page = ap (λ (x : Told). x.page) (sym fault.same) in
    let len : old.len ≡ new.len = ap (λ (x : Told). x.len) (sym fault.same) in
    let is : t ≡ plain_slot base new = (λ i. record { region = new; base = count (page i) base; accessible = count (page i) (len i - base); static_size = len i - base; image = None; dirty = false; colour = None }) in
    let call : CallFaulted (decommitting (base + r.start) r.len) s t = record { region = fault; same = refl } in
    let L : Slot → Type 0 = λ x. IsLeftSlot r s x in
    subst L is (record {
      left = record { same = same_faulted (decommitting (base + r.start) r.len) s t call; rose = fault.rose; listed = fault.listed };
      call = call;
      fits = fits_after r s new part fits fault shaped;
      zeroed = λ n z. zeroed_faulted n r s new part z fault shaped;
    })

-- and it still can be zeroed then
zeroed_shaped : (n : ℕ) (s : Slot) (o : Option Contents) → IsSlot s → n ≤ size_of s → IfSome o (IsSound s.region.page s.region.len s.base.bytes (size_of s)) → IfSome (option_map (written s.base.bytes (replicate n 0)) o) (IsSound s.region.page s.region.len s.base.bytes (size_of s))
zeroed_shaped n s None fits within sound = sound
zeroed_shaped n s (Some c) fits within sound =
    let more : length (replicate {A = ℕ} n 0) ≡ n = length-replicate n 0 in
    let page : c.page ≡ s.region.page = sound.shaped.same_page in
    let S : ℕ → Type 0 = λ p. IsShaped p s.region.len c in
    let T : ℕ → Type 0 = λ p. IsShaped p s.region.len (written s.base.bytes (replicate n 0) c) in
    let some : 0 < c.page = rw page (omega (arith, fits.sizes.page_size.at_least)) in
    record {
      shaped = subst T page (written_shaped s.region.len s.base.bytes (replicate n 0) c some (subst S (sym page) sound.shaped) (omega (arith, more, fits.sizes.inside)));
      outside = sound.outside;
    }

pub zeroed_fits : (n : ℕ) (s : Slot) → CanBeZeroed n s → IsSlot (zeroed_slot n s)
zeroed_fits n s z = record { sizes = z.fits.sizes; told = zeroed_shaped n s s.region.contents z.fits (omega (arith, z.within, z.fits.sizes.within)) z.fits.told }

pub zeroed_still : (n : ℕ) (s : Slot) → CanBeZeroed n s → CanBeZeroed n (zeroed_slot n s)
zeroed_still n s z =
    let t : Slot = zeroed_slot n s in
    let fits : IsSlot t = zeroed_fits n s z in
    let clean : IsClean t = zeroed_clean n s z in
    let Sound : Contents → Type 0 = IsSound s.region.page s.region.len s.base.bytes (size_of s) in
    record {
      fits = fits;
      image = z.image;
      not_dirty = z.not_dirty;
      all = z.all;
      within = z.within;
      ready = clean.ready;
      rest = followed (λ c. Sound c × Holds t 0 (size_of t) c) (Holds t n (size_of t)) t.region.contents
          (λ c both. range_within c.bytes c.origin (s.base.bytes + 0) (s.base.bytes + size_of s) (s.base.bytes + n) (s.base.bytes + size_of s) (omega (arith, both.0.shaped.bytes, z.fits.sizes.inside)) (omega (arith, both.0.shaped.origin, z.fits.sizes.inside)) (omega arith) (omega arith) both.1)
          (paired Sound (Holds t 0 (size_of t)) t.region.contents fits.told clean.holds);
    }

-- and of a memory's slot
pub left_image : (r : ByteRange) (old new : Slot) → IsSlot new → IsPart old.region.page (size_of old) r → CallFaulted (decommitting (old.base.bytes + r.start) r.len) old new → IsLeftSlot r old new
left_image r old new fits part fault =
    let C : ℕ → Slot → Type 0 = λ n x. CanBeZeroed n x in
    record {
      left = record { same = same_faulted (decommitting (old.base.bytes + r.start) r.len) old new fault; rose = fault.region.rose; listed = fault.region.listed };
      call = fault;
      fits = fits;
      zeroed = λ n z. subst (C n) (sym fault.same) (zeroed_faulted n r old new.region part z fault.region (tells_shaped new fits));
    }

-- where a range of a plain slot begins in its region is a whole number of pages
pub plain_start : (base at page : ℕ) (t : Told) (r : ByteRange) → at ≡ base → page ≡ t.page → IsSlot (plain_slot base t) → IsPart t.page (size_of (plain_slot base t)) r → (at + r.start) % page ≡ 0
plain_start base at page t r e f fits part = rw (e, f) (add_whole base r.start t.page fits.sizes.base_whole part.start)
