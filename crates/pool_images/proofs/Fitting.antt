-- A slot's sizes still fit after a call on its region, which leaves the pages outside the slot alone.
use Rattle.std.proofs.Common.{◌≡◌, ℕ, ◌+◌, ◌*◌, ◌/◌, ◌%◌, ◌<◌, ◌≤◌, List, length, replicate, refl, sym, ap, ◌∙◌, subst, inl, inr, arith, slice_range, Option, Some, None, Result, Ok, Err, IfSome, OnOk, OnErr, option_map}
use Rattle.pool_images.proofs.Imports.{cases_lt, mul-le-mul_right, Count, count, Contents, IsShaped, IsIn, Page, page_origin, put, Told, PageCall, MayChangePartly, Faulted, TellsShaped, succeeded, exposing, hiding, mapped, mapping, remapping, erasing, recolouring, decommitting, DecommitBehavior, Zero, RestoreOriginalMapping, length-replicate, page_below, whole, range-put_below, range-put_above}
use Rattle.pool_images.specs.Slots.{Slot, Keeps, IsSound, size_of, called}

-- the call lies inside the slot, and leaves what the pages outside it go back to
pub record KeepsOutside (call : PageCall) (page len base size : ℕ) : Type 0 where
  pub from : base ≤ call.start
  pub to : call.start + call.len ≤ base + size
  pub outside : (c : Contents) (k : ℕ) → IsShaped page len c → k < len / page → (IsIn base size page k → ⊥) → page_origin k (call.change c) ≡ page_origin k c

told_ok : (call : PageCall) (page len base size : ℕ) (old : Option Contents) → KeepsOutside call page len base size → IfSome old (IsSound page len base size) → IfSome (option_map call.change old) (IsShaped page len) → IfSome (option_map call.change old) (IsSound page len base size)
told_ok call page len base size None keeps sound shaped = shaped
told_ok call page len base size (Some c) keeps sound shaped = record {
  shaped = shaped;
  outside = λ k below out. keeps.outside c k sound.shaped below out ∙ sound.outside k below out;
}

told_partly : (call : PageCall) (page len base size : ℕ) (old new : Option Contents) → KeepsOutside call page len base size → IfSome old (IsSound page len base size) → MayChangePartly call old new → IfSome new (IsShaped page len) → IfSome new (IsSound page len base size)
told_partly call page len base size None None keeps sound partly shaped = shaped
told_partly call page len base size None (Some c) keeps sound partly shaped = absurd partly
told_partly call page len base size (Some c) None keeps sound partly shaped = absurd partly
told_partly call page len base size (Some c) (Some d) keeps sound partly shaped = record {
  shaped = shaped;
  outside = λ k below out.
      let apart : IsIn call.start call.len c.page k → ⊥ =
      λ inside. let at : IsIn call.start call.len page k = rw sound.shaped.same_page at inside in
      out (record { from = omega (arith, at.from, keeps.from); below = omega (arith, at.below, keeps.to) }) in
      ap (λ (p : Page). p.origin) (partly.outside k apart) ∙ sound.outside k below out;
}

-- after a call that succeeded
pub keeps_ok : (whole : Count) (call : PageCall) (s : Slot) → Keeps whole s → KeepsOutside call s.region.page s.region.len s.base.bytes (size_of s) → TellsShaped (succeeded call s.region) → Keeps whole (called call s)
keeps_ok whole call s keeps outside shaped = record {
  size = keeps.size;
  fits = record {
    sizes = keeps.fits.sizes;
    told = told_ok call s.region.page s.region.len s.base.bytes (size_of s) s.region.contents outside keeps.fits.told shaped;
  };
}

keeps_err : (whole : Count) (call : PageCall) (s : Slot) (new : Told) → Keeps whole s → KeepsOutside call s.region.page s.region.len s.base.bytes (size_of s) → Faulted call s.region new → TellsShaped new → Keeps whole (record s { region = new })
keeps_err whole call s new keeps outside faulted shaped =
    let P : Told → Type 0 = λ t. Keeps whole (record s { region = t }) in
    let page : new.page ≡ s.region.page = ap (λ (t : Told). t.page) faulted.same in
    let len : new.len ≡ s.region.len = ap (λ (t : Told). t.len) faulted.same in
    let Q : ℕ → ℕ → Type 0 = λ p l. IfSome new.contents (IsShaped p l) in
    let first : Q s.region.page new.len = subst (λ (p : ℕ). Q p new.len) page shaped in
    let shape : Q s.region.page s.region.len = subst (λ (l : ℕ). Q s.region.page l) len first in
    subst P (sym faulted.same) (record {
      size = keeps.size;
      fits = record {
        sizes = keeps.fits.sizes;
        told = told_partly call s.region.page s.region.len s.base.bytes (size_of s) s.region.contents new.contents outside keeps.fits.told faulted.partly shape;
      };
    })

-- whatever the call answered
pub keeps_called : {U E : Type 0} (whole : Count) (call : PageCall) (s : Slot) (new : Told) (r : Result U E) → Keeps whole s → KeepsOutside call s.region.page s.region.len s.base.bytes (size_of s) → OnOk r (new ≡ succeeded call s.region) → OnErr r (Faulted call s.region new) → TellsShaped new → Keeps whole (record s { region = new })
keeps_called whole call s new (Ok x) keeps outside ok fault shaped =
    let P : Told → Type 0 = λ t. Keeps whole (record s { region = t }) in
    let Q : Told → Type 0 = λ t. TellsShaped t in
    subst P (sym ok) (keeps_ok whole call s keeps outside (subst Q ok shaped))
keeps_called whole call s new (Err e) keeps outside ok fault shaped = keeps_err whole call s new keeps outside fault shaped

-- a page below the end begins there
pub mul_under : (k len page : ℕ) → 0 < page → len % page ≡ 0 → k < len / page → k * page < len
mul_under k len page some len_whole below =
    let least : (k + 1) * page ≤ len / page * page = mul-le-mul_right page (omega arith) in
    omega (arith, whole len page len_whole, least)

-- a range put inside the slot leaves the pages outside it
pub put_outside : (start : ℕ) (ys xs : List ℕ) (page len base size k : ℕ) → 0 < page → length xs ≡ len → len % page ≡ 0 → base % page ≡ 0 → base ≤ start → start + length ys ≤ base + size → base + size ≤ len → k < len / page → (IsIn base size page k → ⊥) → slice_range (put start ys xs) (k * page) (k * page + page) ≡ slice_range xs (k * page) (k * page + page)
put_outside start ys xs page len base size k some long len_whole base_whole from to inside below out =
    elim (cases_lt (k * page) base) [
      | inl under ↦
          let ends : k * page + page ≤ base = page_below k base page base_whole under in
          range-put_below start ys xs (k * page) (k * page + page) (omega arith) (omega arith)
      | inr over ↦ elim (cases_lt (k * page) (base + size)) [
        | inl in_slot ↦ absurd (out (record { from = over; below = in_slot }))
        | inr above ↦
            let parts : page * (len / page) ≡ len = whole len page len_whole in
            let ends : k * page + page ≤ len = page_below k len page len_whole (mul_under k len page some len_whole below) in
            range-put_above start ys xs (k * page) (k * page + page) (omega arith) (omega arith) (omega arith)
      ]
    ]

-- The same for each call, over a range that is counted from the slot's base.
module _ {U E : Type 0} (whole : Count) (s : Slot) (from : Count) (new : Told) (r : Result U E) where
  pub keeps_exposed : (start len : ℕ) → Keeps whole s → from ≡ count s.base.page (s.base.bytes + start) → start + len ≤ size_of s → OnOk r (new ≡ succeeded (exposing from.bytes len) s.region) → OnErr r (Faulted (exposing from.bytes len) s.region new) → TellsShaped new → Keeps whole (record s { region = new })
  keeps_exposed start len keeps at inside ok fault shaped =
      let place : from.bytes ≡ s.base.bytes + start = ap (λ (c : Count). c.bytes) at in
      keeps_called whole (exposing from.bytes len) s new r keeps (record { from = omega arith; to = omega arith; outside = λ c k h below out. refl }) ok fault shaped

  pub keeps_hidden : (start len : ℕ) → Keeps whole s → from ≡ count s.base.page (s.base.bytes + start) → start + len ≤ size_of s → OnOk r (new ≡ succeeded (hiding from.bytes len) s.region) → OnErr r (Faulted (hiding from.bytes len) s.region new) → TellsShaped new → Keeps whole (record s { region = new })
  keeps_hidden start len keeps at inside ok fault shaped =
      let place : from.bytes ≡ s.base.bytes + start = ap (λ (c : Count). c.bytes) at in
      keeps_called whole (hiding from.bytes len) s new r keeps (record { from = omega arith; to = omega arith; outside = λ c k h below out. refl }) ok fault shaped

  pub keeps_decommitted : (start len : ℕ) → Keeps whole s → from ≡ count s.base.page (s.base.bytes + start) → start + len ≤ size_of s → OnOk r (new ≡ succeeded (decommitting from.bytes len) s.region) → OnErr r (Faulted (decommitting from.bytes len) s.region new) → TellsShaped new → Keeps whole (record s { region = new })
  keeps_decommitted start len keeps at inside ok fault shaped =
      let place : from.bytes ≡ s.base.bytes + start = ap (λ (c : Count). c.bytes) at in
      keeps_called whole (decommitting from.bytes len) s new r keeps (record { from = omega arith; to = omega arith; outside = λ c k h below out. refl }) ok fault shaped

  pub keeps_recoloured : (start len colour : ℕ) → Keeps whole s → from ≡ count s.base.page (s.base.bytes + start) → start + len ≤ size_of s → OnOk r (new ≡ succeeded (recolouring from.bytes len colour) s.region) → OnErr r (Faulted (recolouring from.bytes len colour) s.region new) → TellsShaped new → Keeps whole (record s { region = new })
  keeps_recoloured start len colour keeps at inside ok fault shaped =
      let place : from.bytes ≡ s.base.bytes + start = ap (λ (c : Count). c.bytes) at in
      keeps_called whole (recolouring from.bytes len colour) s new r keeps (record { from = omega arith; to = omega arith; outside = λ c k h below out. refl }) ok fault shaped

  outside_put : (start : ℕ) (ys : List ℕ) → Keeps whole s → from.bytes ≡ s.base.bytes + start → start + length ys ≤ size_of s → (c : Contents) (k : ℕ) → IsShaped s.region.page s.region.len c → k < s.region.len / s.region.page → (IsIn s.base.bytes (size_of s) s.region.page k → ⊥) → slice_range (put from.bytes ys c.origin) (k * c.page) (k * c.page + c.page) ≡ page_origin k c
  outside_put start ys keeps place inside c k h below out =
      let least : 16 ≤ s.region.page = keeps.fits.sizes.page_size.at_least in
      rw h.same_page (put_outside from.bytes ys c.origin s.region.page s.region.len s.base.bytes (size_of s) k (omega arith) h.origin h.whole keeps.fits.sizes.base_whole (omega arith) (omega arith) keeps.fits.sizes.inside below out)

  pub keeps_remapped : (start len : ℕ) → Keeps whole s → from ≡ count s.base.page (s.base.bytes + start) → start + len ≤ size_of s → OnOk r (new ≡ succeeded (remapping from.bytes len) s.region) → OnErr r (Faulted (remapping from.bytes len) s.region new) → TellsShaped new → Keeps whole (record s { region = new })
  keeps_remapped start len keeps at inside ok fault shaped =
      let place : from.bytes ≡ s.base.bytes + start = ap (λ (c : Count). c.bytes) at in
      let size : length (replicate {A = ℕ} len 0) ≡ len = length-replicate len 0 in
      keeps_called whole (remapping from.bytes len) s new r keeps (record { from = omega arith; to = omega arith; outside = outside_put start (replicate len 0) keeps place (omega arith) }) ok fault shaped

  pub keeps_erased : (start len : ℕ) → Keeps whole s → from ≡ count s.base.page (s.base.bytes + start) → start + len ≤ size_of s → OnOk r (new ≡ succeeded (erasing from.bytes len) s.region) → OnErr r (Faulted (erasing from.bytes len) s.region new) → TellsShaped new → Keeps whole (record s { region = new })
  keeps_erased start len keeps at inside ok fault shaped =
      let place : from.bytes ≡ s.base.bytes + start = ap (λ (c : Count). c.bytes) at in
      let size : length (replicate {A = ℕ} len 0) ≡ len = length-replicate len 0 in
      keeps_called whole (erasing from.bytes len) s new r keeps (record { from = omega arith; to = omega arith; outside = outside_put start (replicate len 0) keeps place (omega arith) }) ok fault shaped

  outside_mapped : (b : DecommitBehavior) (start : ℕ) (ys : List ℕ) → Keeps whole s → from.bytes ≡ s.base.bytes + start → start + length ys ≤ size_of s → (c : Contents) (k : ℕ) → IsShaped s.region.page s.region.len c → k < s.region.len / s.region.page → (IsIn s.base.bytes (size_of s) s.region.page k → ⊥) → page_origin k (mapped b from.bytes ys c) ≡ page_origin k c
  outside_mapped RestoreOriginalMapping start ys keeps place inside c k h below out = outside_put start ys keeps place inside c k h below out
  outside_mapped Zero start ys keeps place inside c k h below out = refl

  pub keeps_mapped : (start : ℕ) (ys : List ℕ) → Keeps whole s → from ≡ count s.base.page (s.base.bytes + start) → start + length ys ≤ size_of s → OnOk r (new ≡ succeeded (mapping s.region.behaviour from.bytes ys) s.region) → OnErr r (Faulted (mapping s.region.behaviour from.bytes ys) s.region new) → TellsShaped new → Keeps whole (record s { region = new })
  keeps_mapped start ys keeps at inside ok fault shaped =
      let place : from.bytes ≡ s.base.bytes + start = ap (λ (c : Count). c.bytes) at in
      keeps_called whole (mapping s.region.behaviour from.bytes ys) s new r keeps (record { from = omega arith; to = omega arith; outside = outside_mapped s.region.behaviour start ys keeps place inside }) ok fault shaped
