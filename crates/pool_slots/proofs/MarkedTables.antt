-- A table's region is reset, by the dirty marks of the pages that it used or without any.
use Rattle.std.proofs.Common.{◌≡◌, ℕ, ◌+◌, ◌-◌, ◌*◌, ◌/◌, ◌%◌, ◌<◌, ◌≤◌, ◌&&◌, Bool, true, false, List, [], ◌∷◌, ◌++◌, length, get_or, take, drop, refl, sym, ap, ◌∙◌, subst, arith, slice_range, replicate, min, nat_lt, if◌then◌else◌, Option, None, Some, IfSome, All, option_map, add-mul, mul-le-mul_right}
use Rattle.pool_slots.proofs.Imports.{length-replicate, Contents, written, overwritten, ImageName, ByteRange, Slot, IsSlot, IsSound, IsReady, IsClean, IsPart, Holds, placed, origin_image, size_of, decommitted_all, called, decommitting, followed, Told, CanReach, range-zeros, tells_shaped}
use Rattle.pool_types.specs.Count.{Count, count}
use Rattle.pool_types.specs.declared.decommit_behavior.DecommitBehavior.TheVariants.{RestoreOriginalMapping}
use Rattle.pool_pages.specs.Contents.{put_back, touched_marked}
use Rattle.pool_pages.specs.Told.{TellsMarks, restored}
use Rattle.pool_images.specs.ResetLaws.{bytes_of}
use Rattle.pool_images.specs.Resets.{marks_of, marked_pages, pages_by_hand, pages_left, pages_restored, runs_of, at_most_eight, span_marks}
use Rattle.pool_images.specs.declared.image_slot.dirty_pages.PageSpan.{PageSpan}
use Rattle.pool_images.specs.Slots.{IsPlaced, cleared, reset_ranges}
use Rattle.pool_images.proofs.MarkedPages.{RiseIn, take_rises}
use Rattle.pool_images.proofs.MarkedResets.{hand_is, left_is, marks_parts, started, rise, sum}
use Rattle.pool_images.proofs.PutBacks.{Backed, TellsBacked, backed_both, lone_pages, only_region, pages_backed, ranges_backed}
use Rattle.pool_images.proofs.Ready.{IsStarted}
use Rattle.pool_images.proofs.ResetBounds.{kept_within}
use Rattle.pool_images.proofs.SameBytes.{by}
use Rattle.pool_images.proofs.Spans.{slot_marks, slot_span}
use Rattle.pool_slots.specs.PlainSlots.{IsPlain, IsTableReset, IsUnusedFrom, IsUsedSpan, bottom_reset, plain_written, used_after, used_kept, used_left, used_marks, used_part, used_reset}
use Rattle.pool_slots.specs.SlotQueues.{plain_slot}
use Rattle.pool_slots.proofs.PlainSlots.{IsBlankTold, blank, bottom_plain, bottom_reset_done, bottom_unused, no_image, plain_after, told_held, written_size}

-- A plain slot goes back to zeros: bytes of it that are set to what they go back to are written with zeros.
module _ (at n : ℕ) (s : Slot) (within : at + n ≤ s.static_size) where
  put_back_is : (o : Option Contents) → IsSlot s → size_of s ≡ s.static_size → IfSome o (IsBlankTold s) → option_map (put_back (s.base.bytes + at) n) o ≡ option_map (written (s.base.bytes + at) (replicate n 0)) o
  put_back_is None fits whole b = refl
  put_back_is (Some c) fits whole b =
      let size : s.base.bytes + at + n - (s.base.bytes + at) ≡ n = omega arith in
      let zeros : slice_range c.origin (s.base.bytes + at) (s.base.bytes + at + n) ≡ replicate n 0 =
      ap (λ (l : List ℕ). slice_range l (s.base.bytes + at) (s.base.bytes + at + n)) b.zeros
      ∙ range-zeros (length c.origin) (s.base.bytes + at) (s.base.bytes + at + n) (omega (arith, b.sound.shaped.origin, fits.sizes.inside, whole, within))
      ∙ ap (λ (m : ℕ). replicate {A = ℕ} m 0) size in
      ap (λ (l : List ℕ). Some (written (s.base.bytes + at) l c)) zeros

  pub restored_is : IsPlain s → restored (s.base.bytes + at) n s.region ≡ overwritten (s.base.bytes + at) (replicate n 0) s.region
  restored_is p =
      ap (λ (o : Option Contents). record s.region { contents = o; marks = touched_marked (s.base.bytes + at) n s.region.page s.region.marks }) (put_back_is s.region.contents p.fits p.whole (blank s p))
      ∙ ap (λ (m : ℕ). record s.region { contents = option_map (written (s.base.bytes + at) (replicate n 0)) s.region.contents; marks = touched_marked (s.base.bytes + at) m s.region.page s.region.marks }) (sym (length-replicate {A = ℕ} n 0))

  restored_plain : IsPlain s → IsPlain (record s { region = restored (s.base.bytes + at) n s.region })
  restored_plain p = subst (λ (t : Told). IsPlain (record s { region = t })) (sym (restored_is p)) (plain_after at (replicate n 0) s p (written_size at n s p within))

  restored_unused : (used : ℕ) → IsPlain s → at + n ≤ used → IsUnusedFrom used s → IsUnusedFrom used (record s { region = restored (s.base.bytes + at) n s.region })
  restored_unused used p below unused = subst (λ (t : Told). IsUnusedFrom used (record s { region = t })) (sym (restored_is p)) (told_held at n used (size_of s) s p below (omega (arith, within, p.whole)) (omega arith) unused)

-- Pages of it that are set by hand leave it plain, and unused where it is.
pub pages_plain : (lo end : ℕ) (ks : List ℕ) (s : Slot) → IsPlain s → RiseIn lo end ks → end * s.region.page ≤ s.static_size → IsPlain (record s { region = pages_restored s.base.bytes ks s.region })
pages_plain lo end [] s p rise fits = p
pages_plain lo end (k ∷ ks) s p rise fits =
    let next : (k + 1) * s.region.page ≡ k * s.region.page + s.region.page = omega (arith, add-mul k 1 s.region.page) in
    let less : (k + 1) * s.region.page ≤ end * s.region.page = mul-le-mul_right s.region.page (omega (arith, rise.1)) in
    pages_plain (k + 1) end ks (record s { region = restored (s.base.bytes + k * s.region.page) s.region.page s.region })
    (restored_plain (k * s.region.page) s.region.page s (omega (arith, next, less, fits)) p) rise.2 fits

pub pages_unused : (lo end used : ℕ) (ks : List ℕ) (s : Slot) → IsPlain s → RiseIn lo end ks → end * s.region.page ≤ used → used ≤ s.static_size → IsUnusedFrom used s → IsUnusedFrom used (record s { region = pages_restored s.base.bytes ks s.region })
pages_unused lo end used [] s p rise fits within unused = unused
pages_unused lo end used (k ∷ ks) s p rise fits within unused =
    let next : (k + 1) * s.region.page ≡ k * s.region.page + s.region.page = omega (arith, add-mul k 1 s.region.page) in
    let less : (k + 1) * s.region.page ≤ end * s.region.page = mul-le-mul_right s.region.page (omega (arith, rise.1)) in
    let inside : k * s.region.page + s.region.page ≤ s.static_size = omega (arith, next, less, fits, within) in
    pages_unused (k + 1) end used ks (record s { region = restored (s.base.bytes + k * s.region.page) s.region.page s.region })
    (restored_plain (k * s.region.page) s.region.page s inside p) rise.2 fits within
    (restored_unused (k * s.region.page) s.region.page s inside used p (omega (arith, next, less, fits)) unused)

-- bytes from a place up to the same place are what they go back to
none_held : (s : Slot) (a b : ℕ) (c : Contents) → a ≡ b → Holds s a b c
none_held s a b c is =
    let none : s.base.bytes + b - (s.base.bytes + a) ≡ 0 = omega (arith, is) in
    ap (λ n. take n (drop (s.base.bytes + a) c.bytes)) none ∙ sym (ap (λ n. take n (drop (s.base.bytes + a) c.origin)) none)

ready_of : (used : ℕ) (s : Slot) (o : Option Contents) → used ≤ s.accessible.bytes → IfSome o (IsReady s) → IfSome o (Holds s used (size_of s)) → IfSome o (IsReady (used_part used s))
ready_of used s None within ready unused = ready
ready_of used s (Some c) within ready unused = record {
  reach = λ k from below. ready.reach k from (omega (arith, below, within));
  origin = ready.origin;
  beyond = unused;
  colour = ready.colour;
}

-- the slot can be used once its used bytes are what they go back to
final_ready : (used : ℕ) (s : Slot) (rs : List ByteRange) (o u : Option Contents) → s.accessible.bytes ≡ size_of s → IfSome o (IsReady s) → Backed s.base.bytes rs o u → IfSome u (IsStarted (used_part used s)) → IfSome u (IsReady s)
final_ready used s rs None None all ready backed st = ready
final_ready used s rs None (Some d) all ready backed st = absurd backed
final_ready used s rs (Some c) None all ready backed st = absurd backed
final_ready used s rs (Some c) (Some d) all ready backed st = record {
  reach = λ k from below. ap (λ l. get_or l k false) backed.accessible ∙ ready.reach k (rw backed.page at from) (rw backed.page at below);
  origin = st.ready.origin;
  beyond = none_held s s.accessible.bytes (size_of s) d all;
  colour = st.ready.colour;
}

-- what a table used is a slot of its own
pub part_fits : (used : ℕ) (s : Slot) → IsPlain s → used ≤ s.static_size → used % s.region.page ≡ 0 → IsSlot (used_part used s)
part_fits used s p within whole = record {
  sizes = record {
    page_size = p.fits.sizes.page_size;
    base_page = p.fits.sizes.base_page;
    base_whole = p.fits.sizes.base_whole;
    accessible_page = refl;
    accessible_whole = whole;
    inside = p.fits.sizes.inside;
    bounded = p.fits.sizes.bounded;
    roomy = p.fits.sizes.roomy;
    within = omega (arith, within, p.whole);
    image = subst (λ (o : Option ImageName). IfSome o (IsPlaced s.region.page used)) (sym p.image) tt;
  };
  told = p.fits.told;
}

module _ (used keep : ℕ) (s : Slot) (p : IsPlain s) (within : used ≤ s.static_size) (whole : used % s.region.page ≡ 0) (marked : TellsMarks s.region) where
  abbrev by_hand : List ℕ
  by_hand = pages_by_hand s.region.page keep (marks_of (used_part used s))

  abbrev left : List ByteRange
  left = at_most_eight used (runs_of s.region.page (pages_left s.region.page keep (marks_of (used_part used s))))

  abbrev done : Slot
  done = record s { region = pages_restored s.base.bytes by_hand s.region }

  pages : used / s.region.page * s.region.page ≡ used
  pages = sum (used_part used s) keep (part_fits used s p within whole) marked

  hand_rises : RiseIn 0 (used / s.region.page) by_hand
  hand_rises = take_rises (keep / s.region.page) 0 (used / s.region.page) (marked_pages (marks_of (used_part used s))) (rise (used_part used s) keep (part_fits used s p within whole) marked)

  pub marked_plain : IsPlain done
  marked_plain = pages_plain 0 (used / s.region.page) by_hand s p hand_rises (omega (arith, pages, within))

  pub marked_unused : IsUnusedFrom used s → IsUnusedFrom used done
  marked_unused unused = pages_unused 0 (used / s.region.page) used by_hand s p hand_rises (omega (arith, pages)) within unused

  -- what is left is whole pages of it
  pub marked_parts : All (IsPart done.region.page (size_of done)) left
  marked_parts =
      subst (λ (w : Told). All (IsPart w.page (size_of (record s { region = w }))) left) (sym (pages_backed s.base.bytes by_hand s.region).rest) (marks_parts (used_part used s) keep (part_fits used s p within whole) marked)

  told_done : TellsBacked s.base.bytes (lone_pages s.region.page by_hand ++ left) s.region (decommitted_all left done).region
  told_done =
      let hand = pages_backed s.base.bytes by_hand s.region in
      let rest = ranges_backed left done in
      record {
        rest = joined s.region done.region (decommitted_all left done).region hand.rest rest.rest;
        contents = backed_both s.base.bytes (lone_pages s.region.page by_hand) left s.region.contents done.region.contents (decommitted_all left done).region.contents hand.contents rest.contents;
      } where
        joined : (t u v : Told) → u ≡ record t { contents = u.contents; marks = u.marks; made = u.made; calls = u.calls } → v ≡ record u { contents = v.contents; marks = v.marks; made = v.made; calls = v.calls } → v ≡ record t { contents = v.contents; marks = v.marks; made = v.made; calls = v.calls }
        joined t u v first second = second ∙ ap (λ (w : Told). record w { contents = v.contents; marks = v.marks; made = v.made; calls = v.calls }) first

  -- once the ranges that are left are decommitted, it is clean
  pub marked_clean : IsUnusedFrom used s → IsClean (decommitted_all left done)
  marked_clean unused =
      let all : s.accessible.bytes ≡ size_of s = p.all ∙ sym p.whole in
      let ready : IfSome s.region.contents (IsReady (used_part used s)) = ready_of used s s.region.contents (omega (arith, within, p.all)) p.ready unused in
      let v : Told = (decommitted_all left done).region in
      let st = started (used_part used s) keep (part_fits used s p within whole) marked s.region.contents v.contents p.fits.told marked.same ready told_done.contents in
      let u : Told = record s.region { contents = v.contents; marks = v.marks; made = v.made; calls = v.calls } in
      let t : Slot = record s { region = u } in
      let same : decommitted_all left done ≡ t = only_region left done ∙ ap (λ (w : Told). record s { region = w }) told_done.rest in
      let can = final_ready used s (lone_pages s.region.page by_hand ++ left) s.region.contents v.contents all p.ready told_done.contents st in
      subst IsClean (sym same) (record {
        not_dirty = p.not_dirty;
        image = no_image s p.image;
        ready = followed (IsReady s) (IsReady t) v.contents (λ d r. record { reach = r.reach; origin = r.origin; beyond = r.beyond; colour = r.colour }) can;
        holds = followed (IsStarted (used_part used s)) (Holds t 0 (size_of t)) v.contents (λ d x. x.holds) st;
      })

pub used_size : (marks : Option (List Bool)) (keep used : ℕ) (s : Slot) → (used_reset marks keep used s).static_size ≡ s.static_size
used_size None keep used s = refl
used_size (Some marks) keep used s = refl

-- What a table's region is once it is reset, by its dirty marks or without any.
abbrev pub IsSoReset : Option (List Bool) → ℕ → ℕ → Slot → Type 0
IsSoReset marks keep used s = IsTableReset marks keep used s (used_reset marks keep used s) (used_kept marks keep used s) (used_left marks keep used s)

module _ (keep used : ℕ) (s : Slot) (p : IsPlain s) (used_whole : used % s.region.page ≡ 0) (within : used ≤ s.static_size) (unused : IsUnusedFrom used s) where
  pub marked_reset_is : TellsMarks s.region → IsSoReset (Some (marks_of (used_part used s))) keep used s
  marked_reset_is marked = record {
    resident = refl;
    ranges = refl;
    value = refl;
    parts = marked_parts used keep s p within used_whole marked;
    clean_after = marked_clean used keep s p within used_whole marked unused;
    unused = marked_unused used keep s p within used_whole marked unused;
    plain = marked_plain used keep s p within used_whole marked;
    most = kept_within (used_part used s) keep (part_fits used s p within used_whole) marked;
  }

  pub plain_reset_is : keep % s.region.page ≡ 0 → IsSoReset None keep used s
  plain_reset_is keep_whole =
      let done = bottom_reset_done keep used s p within keep_whole used_whole unused in
      record {
        resident = refl;
        ranges = refl;
        value = refl;
        parts = done.0;
        clean_after = done.1;
        unused = bottom_unused keep used s p within keep_whole used_whole unused;
        plain = bottom_plain keep used s p within keep_whole used_whole unused;
        most = omega arith;
      }

  pub used_is_reset : (offered : Bool) → TellsMarks s.region → keep % s.region.page ≡ 0 → IsSoReset (used_marks offered used s) keep used s
  used_is_reset offered marked keep_whole = either (offered && nat_lt s.region.page used) where
    either : (b : Bool) → IsSoReset (if b then Some (marks_of (used_part used s)) else None) keep used s
    either true = marked_reset_is marked
    either false = plain_reset_is keep_whole

-- The same as the code says it.
pub so_reset : (marks : Option (List Bool)) (keep used : ℕ) (s new : Slot) (n : ℕ) (rs : List ByteRange) → new ≡ used_reset marks keep used s → n ≡ used_kept marks keep used s → rs ≡ used_left marks keep used s → IsSoReset marks keep used s → IsTableReset marks keep used s new n rs
so_reset marks keep used s new n rs value kept left done =
    subst (λ (x : Slot). IsTableReset marks keep used s x n rs) (sym value)
    (subst (λ (m : ℕ). IsTableReset marks keep used s (used_reset marks keep used s) m rs) (sym kept)
    (subst (λ (l : List ByteRange). IsTableReset marks keep used s (used_reset marks keep used s) (used_kept marks keep used s) l) (sym left) done))

-- the pages that a table used
pub used_span : (used : ℕ) (s : Slot) → IsPlain s → TellsMarks s.region → used ≤ s.static_size → used % s.region.page ≡ 0 → IsUsedSpan used s (record { page = s.region.page; base = s.base.bytes; first = s.base.bytes / s.region.page; pages = used / s.region.page })
used_span used s p marked within whole =
    let fits = part_fits used s p within whole in
    let pages : used / s.region.page * s.region.page ≡ used = sum (used_part used s) 0 fits marked in
    record {
      span = slot_span (used_part used s) fits marked;
      base = refl;
      page = refl;
      bytes = pages;
      marks = slot_marks (used_part used s) fits;
      reach = followed (IsReady s) (CanReach s.base.bytes (used / s.region.page * s.region.page)) s.region.contents (λ c r. λ k from below. r.reach k from (omega (arith, below, pages, within, p.all))) p.ready;
      shaped = tells_shaped s p.fits;
      told = marked;
      whole = whole;
      within = within;
      plain = p;
    }

-- a plain slot whose pages were set by hand
plain_restored : (base : ℕ) (ks : List ℕ) (t : Told) → plain_slot base (pages_restored base ks t) ≡ record (plain_slot base t) { region = pages_restored base ks t }
plain_restored base ks t = subst (λ (w : Told). plain_slot base w ≡ record (plain_slot base t) { region = w }) (sym (pages_backed base ks t).rest) refl

kept_is : (s : Slot) (keep most p n : ℕ) (ms : List Bool) → n ≡ length (take most (marked_pages ms)) * p → most ≡ keep / p → p ≡ s.region.page → ms ≡ marks_of s → n ≡ length (pages_by_hand s.region.page keep (marks_of s)) * s.region.page
kept_is s keep most p n ms is count page marks =
    is
    ∙ ap (λ (l : List Bool). length (take most (marked_pages l)) * p) marks
    ∙ ap (λ (m : ℕ). length (take m (marked_pages (marks_of s))) * p) (count ∙ ap (λ (q : ℕ). keep / q) page)
    ∙ ap (λ (q : ℕ). length (take (keep / s.region.page) (marked_pages (marks_of s))) * q) page

pub by_marks : (b : ℕ) (t u : Told) (keep used most n : ℕ) (x : PageSpan) (rs : List ByteRange) → IsUsedSpan used (plain_slot b t) x → IsUnusedFrom used (plain_slot b t) → most ≡ keep / x.page → u ≡ pages_restored x.base (take most (marked_pages (span_marks x t))) t
    → rs ≡ at_most_eight (x.pages * x.page) (runs_of x.page (drop most (marked_pages (span_marks x t)))) → n ≡ length (take most (marked_pages (span_marks x t))) * x.page
    → IsTableReset (Some (marks_of (used_part used (plain_slot b t)))) keep used (plain_slot b t) (plain_slot b u) n rs
by_marks b t u keep used most n x rs pages unused count new left kept =
    let s : Slot = plain_slot b t in
    let part : Slot = used_part used s in
    let restored : u ≡ pages_restored b (pages_by_hand t.page keep (marks_of part)) t = hand_is part keep most x.base x.page (span_marks x t) u new pages.base count pages.page pages.marks in
    so_reset (Some (marks_of part)) keep used s (plain_slot b u) n rs
    (ap (plain_slot b) restored ∙ plain_restored b (pages_by_hand t.page keep (marks_of part)) t)
    (kept_is part keep most x.page n (span_marks x t) kept count pages.page pages.marks)
    (left_is part keep most x.pages x.page (span_marks x t) rs left pages.bytes count pages.page pages.marks)
    (marked_reset_is keep used s pages.plain pages.whole pages.within unused pages.told)

-- what decommits make of a region doesn't depend on how much of its slot can be reached
same_region : (rs : List ByteRange) (s : Slot) (a : Count) (d : Bool) → (decommitted_all rs (record s { accessible = a; dirty = d })).region ≡ (decommitted_all rs s).region
same_region [] s a d = refl
same_region (r ∷ rs) s a d = same_region rs (called (decommitting (s.base.bytes + r.start) r.len) s) a d

-- Each reset leaves the same bytes.
pub table_resets_same : (offered : Bool) (keep used : ℕ) (s : Slot) → IsPlain s → TellsMarks s.region → used % s.region.page ≡ 0 → used ≤ s.static_size → used_after (used_marks offered used s) keep used s ≡ used_after None 0 used s
table_resets_same offered keep used s p marked whole within = either (offered && nat_lt s.region.page used) where
  plain : (n : ℕ) → bytes_of (decommitted_all (reset_ranges n used) (cleared (min n used) (used_part used s))) ≡ used_after None n used s
  plain n =
      let none : s.base.bytes + 0 ≡ s.base.bytes = omega arith in
      let is : restored s.base.bytes (min n used) s.region ≡ overwritten (s.base.bytes + 0) (replicate (min n used) 0) s.region =
      subst (λ (i : ℕ). restored i (min n used) s.region ≡ overwritten (s.base.bytes + 0) (replicate (min n used) 0) s.region) none (restored_is 0 (min n used) s (omega (arith, within)) p) in
      ap (λ (t : Told). bytes_of (decommitted_all (reset_ranges n used) (record s { region = t; accessible = count s.region.page used; dirty = false }))) is
      ∙ ap (λ (t : Told). option_map (λ c. c.bytes) t.contents) (same_region (reset_ranges n used) (bottom_reset n used s) (count s.region.page used) false)

  either : (b : Bool) → used_after (if b then Some (marks_of (used_part used s)) else None) keep used s ≡ used_after None 0 used s
  either true =
      sym (ap (λ (t : Told). option_map (λ c. c.bytes) t.contents) (same_region (used_left (Some (marks_of (used_part used s))) keep used s) (used_reset (Some (marks_of (used_part used s))) keep used s) (count s.region.page used) false))
      ∙ by (used_part used s) keep (part_fits used s p within whole) marked RestoreOriginalMapping true ∙ plain 0
  either false = sym (plain keep) ∙ by (used_part used s) keep (part_fits used s p within whole) marked RestoreOriginalMapping false ∙ plain 0
