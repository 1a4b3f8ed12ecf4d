-- A slot that was in use is clean once its dirty pages are set by hand or decommitted.
use Rattle.std.proofs.Common.{◌≡◌, ℕ, ◌+◌, ◌-◌, ◌*◌, ◌/◌, ◌<◌, ◌≤◌, ◌⊎◌, Bool, true, false, List, [], ◌∷◌, ◌++◌, length, get_or, take, drop, refl, sym, ap, ◌∙◌, subst, arith, inl, inr, slice_range, Option, Some, None, IfSome, All, mul_comm, add-mul, mul-le-mul_right, drop_of_length-le}
use Rattle.std.proofs.lemmas.Bool.{cases_Bool}
use Rattle.std.proofs.lemmas.List.{get_or_default}
use Rattle.pool_images.proofs.Imports.{cases_lt, Count, Contents, IsShaped, Told, TellsShaped, page_below, page_of, whole, le-div_iff_mul-le, same_range, same_at, range_joined, RestoreOriginalMapping}
use Rattle.pool_pages.specs.Told.{TellsMarks}
use Rattle.pool_images.specs.declared.image_slot.dirty_pages.PageSpan.{PageSpan}
use Rattle.pool_images.specs.declared.ranges.ByteRange.{ByteRange}
use Rattle.pool_images.specs.Resets.{IsSpan, marks_of, marked_from, marked_pages, pages_by_hand, pages_left, runs_of, at_most_eight, pages_restored}
use Rattle.pool_images.specs.Slots.{Slot, IsSlot, Keeps, IsSound, IsReady, IsClean, IsPart, Holds, size_of, origin_image, placed, decommitted_all}
use Rattle.pool_images.proofs.MarkedPages.{Has, RiseIn, has_marked, has_part, pages_rise, take_rises, drop_rises}
use Rattle.pool_images.proofs.PageRanges.{Covers, Parts, RiseFrom, runs_rise, runs_cover, eight_cover, runs_parts, eight_parts, parts_all}
use Rattle.pool_images.proofs.PutBacks.{backs, Below, below_parts, below_both, backs_long, backs_keep, backs_cover, covers_left, covers_right, IsBacked, Backed, backed_both, TellsBacked, lone_pages, pages_backed, ranges_backed, only_region}
use Rattle.pool_images.proofs.Ready.{IsStarted, followed}
use Rattle.pool_images.proofs.Resets.{image_restored}
use Rattle.pool_images.proofs.Spans.{span_long, span_mark, slot_span, slot_marks}

-- pages set by hand cover what is a page of theirs
lone_cover : (page k : ℕ) (ks : List ℕ) → Has k ks → Covers (lone_pages page ks) (k * page) (k * page + page)
lone_cover page k [] has = absurd has
lone_cover page k (j ∷ ks) (inl is) =
    let same : k * page ≡ j * page = ap (λ n. n * page) is in
    inl (omega (arith, same), omega (arith, same))
lone_cover page k (j ∷ ks) (inr has) = inr (lone_cover page k ks has)

pub lone_below : (base page lo end n : ℕ) (ks : List ℕ) → base + end * page ≤ n → RiseIn lo end ks → Below base (lone_pages page ks) n
lone_below base page lo end n [] fits rise = tt
lone_below base page lo end n (k ∷ ks) fits rise =
    let next : (k + 1) * page ≡ k * page + page = omega (arith, add-mul k 1 page) in
    let less : (k + 1) * page ≤ end * page = mul-le-mul_right page (omega (arith, rise.1)) in
    (omega (arith, fits, next, less), lone_below base page (k + 1) end n ks fits rise.2)

pub few_rise : (lo end : ℕ) (ks : List ℕ) → RiseIn lo end ks → length ks ≤ end - lo
few_rise lo end [] rise = omega arith
few_rise lo end (k ∷ ks) rise = omega (arith, rise.0, rise.1, few_rise (k + 1) end ks rise.2)

-- the bytes that a slot's pages hold, where each page holds what it goes back to or is covered
module _ (s : Slot) (c : Contents) (rs : List ByteRange) (fits : IsSlot s) (sound : IsSound s.region.page s.region.len s.base.bytes (size_of s) c) (ready : IsReady s c) (below : Below s.base.bytes rs s.region.len) (each : (k : ℕ) → k * s.region.page < s.accessible.bytes → (slice_range c.bytes (s.base.bytes + k * s.region.page) (s.base.bytes + (k * s.region.page + s.region.page)) ≡ slice_range c.origin (s.base.bytes + k * s.region.page) (s.base.bytes + (k * s.region.page + s.region.page))) ⊎ Covers rs (k * s.region.page) (k * s.region.page + s.region.page)) where
  same_long : length c.bytes ≡ length c.origin
  same_long = sound.shaped.bytes ∙ sym sound.shaped.origin

  below_origin : Below s.base.bytes rs (length c.origin)
  below_origin = subst (λ n. Below s.base.bytes rs n) (sym sound.shaped.origin) below

  long_backs : length (backs s.base.bytes rs c.origin c.bytes) ≡ length c.origin
  long_backs = backs_long s.base.bytes rs c.origin c.bytes same_long below_origin

  page_backed : (k : ℕ) → k * s.region.page < s.accessible.bytes → slice_range (backs s.base.bytes rs c.origin c.bytes) (s.base.bytes + k * s.region.page) (s.base.bytes + (k * s.region.page + s.region.page)) ≡ slice_range c.origin (s.base.bytes + k * s.region.page) (s.base.bytes + (k * s.region.page + s.region.page))
  page_backed k under =
      let ends : k * s.region.page + s.region.page ≤ s.accessible.bytes = page_below k s.accessible.bytes s.region.page fits.sizes.accessible_whole under in
      let within : s.base.bytes + (k * s.region.page + s.region.page) ≤ length c.origin = omega (arith, ends, sound.shaped.origin, fits.sizes.inside, fits.sizes.within) in
      elim (each k under) [
        | inl holds ↦ backs_keep s.base.bytes rs c.origin c.bytes (s.base.bytes + k * s.region.page) (s.base.bytes + (k * s.region.page + s.region.page)) same_long below_origin within holds
        | inr covered ↦ backs_cover s.base.bytes rs c.origin c.bytes (k * s.region.page) (k * s.region.page + s.region.page) same_long below_origin within covered
      ]

  byte_backed : (j x : ℕ) → s.base.bytes + 0 ≤ j → j < s.base.bytes + s.accessible.bytes → get_or (backs s.base.bytes rs c.origin c.bytes) j x ≡ get_or c.origin j x
  byte_backed j x from under =
      let some : 0 < s.region.page = omega (arith, fits.sizes.page_size.at_least) in
      let place = page_of (j - s.base.bytes) s.region.page some in
      same_at (backs s.base.bytes rs c.origin c.bytes) c.origin (s.base.bytes + (j - s.base.bytes) / s.region.page * s.region.page) (s.base.bytes + ((j - s.base.bytes) / s.region.page * s.region.page + s.region.page)) j x
      (page_backed ((j - s.base.bytes) / s.region.page) (omega (arith, place.0, from, under))) (omega (arith, place.0, from)) (omega (arith, place.1, from))

  beyond_backed : slice_range (backs s.base.bytes rs c.origin c.bytes) (s.base.bytes + s.accessible.bytes) (s.base.bytes + size_of s) ≡ slice_range c.origin (s.base.bytes + s.accessible.bytes) (s.base.bytes + size_of s)
  beyond_backed = backs_keep s.base.bytes rs c.origin c.bytes (s.base.bytes + s.accessible.bytes) (s.base.bytes + size_of s) same_long below_origin (omega (arith, sound.shaped.origin, fits.sizes.inside)) ready.beyond

  all_backed : slice_range (backs s.base.bytes rs c.origin c.bytes) (s.base.bytes + 0) (s.base.bytes + size_of s) ≡ slice_range c.origin (s.base.bytes + 0) (s.base.bytes + size_of s)
  all_backed =
      let first = same_range (backs s.base.bytes rs c.origin c.bytes) c.origin (s.base.bytes + 0) (s.base.bytes + s.accessible.bytes)
      (omega (arith, long_backs, sound.shaped.origin, fits.sizes.inside, fits.sizes.within)) (omega (arith, sound.shaped.origin, fits.sizes.inside, fits.sizes.within)) byte_backed in
      range_joined (backs s.base.bytes rs c.origin c.bytes) c.origin (s.base.bytes + 0) (s.base.bytes + s.accessible.bytes) (s.base.bytes + size_of s)
      (omega (arith, long_backs, sound.shaped.origin, fits.sizes.inside)) (omega (arith, sound.shaped.origin, fits.sizes.inside)) first beyond_backed

  pub backed_started : (d : Contents) → IsBacked s.base.bytes rs c d → IsStarted s d
  backed_started d backed =
      let B : ℕ → ℕ → List ℕ → List ℕ → Type 0 = λ a b bs os. slice_range bs a b ≡ slice_range os a b in
      let bytes_of : (a b : ℕ) → slice_range (backs s.base.bytes rs c.origin c.bytes) a b ≡ slice_range c.origin a b → slice_range d.bytes a b ≡ slice_range d.origin a b = λ a b holds.
      subst (λ (l : List ℕ). B a b l d.origin) (sym backed.bytes) (subst (λ (l : List ℕ). B a b (backs s.base.bytes rs c.origin c.bytes) l) (sym backed.origin) holds) in
      record {
        ready = record {
          reach = λ k from under. ap (λ l. get_or l k false) backed.accessible ∙ ready.reach k (rw backed.page at from) (rw backed.page at under);
          origin = subst (λ (l : List ℕ). l ≡ placed s.base.bytes (origin_image s) l) (sym backed.origin) ready.origin;
          beyond = bytes_of (s.base.bytes + s.accessible.bytes) (s.base.bytes + size_of s) beyond_backed;
          colour = λ k inside. ap (λ l. get_or l k 0) backed.colour ∙ ready.colour k (rw backed.page at inside);
        };
        holds = bytes_of (s.base.bytes + 0) (s.base.bytes + size_of s) all_backed;
      }

module _ (s : Slot) (keep : ℕ) (fits : IsSlot s) (marked : TellsMarks s.region) where
  -- the accessible pages, how many they are, and the ranges that are set to what they go back to
  abbrev span : PageSpan
  span = record { page = s.region.page; base = s.base.bytes; first = s.base.bytes / s.region.page; pages = s.accessible.bytes / s.region.page }

  abbrev by_hand : List ℕ
  by_hand = pages_by_hand s.region.page keep (marks_of s)

  abbrev left : List ByteRange
  left = at_most_eight s.accessible.bytes (runs_of s.region.page (pages_left s.region.page keep (marks_of s)))

  count : length (marks_of s) ≡ s.accessible.bytes / s.region.page
  count = ap length (sym (slot_marks s fits)) ∙ span_long span s.region (slot_span s fits marked)

  pub sum : s.accessible.bytes / s.region.page * s.region.page ≡ s.accessible.bytes
  sum = mul_comm (s.accessible.bytes / s.region.page) s.region.page ∙ whole s.accessible.bytes s.region.page fits.sizes.accessible_whole

  pub rise : RiseIn 0 (s.accessible.bytes / s.region.page) (marked_pages (marks_of s))
  rise = subst (λ n. RiseIn 0 n (marked_pages (marks_of s))) count (pages_rise (marks_of s))

  rise_left : RiseIn 0 (s.accessible.bytes / s.region.page) (pages_left s.region.page keep (marks_of s))
  rise_left = drop_rises (keep / s.region.page) 0 (s.accessible.bytes / s.region.page) (marked_pages (marks_of s)) rise

  pub left_parts : Parts s.region.page s.accessible.bytes (at_most_eight s.accessible.bytes (runs_of s.region.page (pages_left s.region.page keep (marks_of s))))
  left_parts = eight_parts s.region.page s.accessible.bytes (runs_of s.region.page (pages_left s.region.page keep (marks_of s))) fits.sizes.accessible_whole
      (subst (λ n. Parts s.region.page n (runs_of s.region.page (pages_left s.region.page keep (marks_of s)))) sum (runs_parts s.region.page 0 (s.accessible.bytes / s.region.page) (pages_left s.region.page keep (marks_of s)) rise_left))

  -- each range that is left is whole pages of the slot
  pub marks_parts : All (IsPart s.region.page (size_of s)) (at_most_eight s.accessible.bytes (runs_of s.region.page (pages_left s.region.page keep (marks_of s))))
  marks_parts = parts_all s.region.page s.accessible.bytes (size_of s) left fits.sizes.within left_parts

  below_all : Below s.base.bytes (lone_pages s.region.page by_hand ++ left) s.region.len
  below_all =
      below_both s.base.bytes s.region.len (lone_pages s.region.page by_hand) left
      (lone_below s.base.bytes s.region.page 0 (s.accessible.bytes / s.region.page) s.region.len by_hand (omega (arith, sum, fits.sizes.inside, fits.sizes.within)) (take_rises (keep / s.region.page) 0 (s.accessible.bytes / s.region.page) (marked_pages (marks_of s)) rise))
      (below_parts s.base.bytes s.region.page s.accessible.bytes s.region.len left (omega (arith, fits.sizes.inside, fits.sizes.within)) left_parts)

  -- a marked page is set by hand or left
  covered : (k : ℕ) → k < s.accessible.bytes / s.region.page → get_or (marks_of s) k false ≡ true → Covers (lone_pages s.region.page by_hand ++ left) (k * s.region.page) (k * s.region.page + s.region.page)
  covered k under is =
      let ends : k * s.region.page + s.region.page ≤ s.accessible.bytes = page_ends k under in
      let from : RiseFrom (0 * s.region.page) (runs_of s.region.page (pages_left s.region.page keep (marks_of s))) = runs_rise s.region.page 0 (s.accessible.bytes / s.region.page) (pages_left s.region.page keep (marks_of s)) rise_left in
      elim (has_part (keep / s.region.page) k (marked_pages (marks_of s)) (has_marked (marks_of s) k (omega (arith, under, count)) is)) [
        | inl front ↦ covers_left (lone_pages s.region.page by_hand) left (k * s.region.page) (k * s.region.page + s.region.page) (lone_cover s.region.page k by_hand front)
        | inr back ↦ covers_right (lone_pages s.region.page by_hand) left (k * s.region.page) (k * s.region.page + s.region.page)
            (eight_cover s.accessible.bytes (0 * s.region.page) (k * s.region.page) (k * s.region.page + s.region.page) (runs_of s.region.page (pages_left s.region.page keep (marks_of s))) from ends (omega arith) (runs_cover s.region.page k (pages_left s.region.page keep (marks_of s)) back))
      ] where
        page_ends : (j : ℕ) → j < s.accessible.bytes / s.region.page → j * s.region.page + s.region.page ≤ s.accessible.bytes
        page_ends j under =
            let next : (j + 1) * s.region.page ≡ j * s.region.page + s.region.page = omega (arith, add-mul j 1 s.region.page) in
            let less : (j + 1) * s.region.page ≤ s.accessible.bytes / s.region.page * s.region.page = mul-le-mul_right s.region.page (omega (arith, under)) in
            omega (arith, next, less, sum)

  -- and a page that isn't marked holds what it goes back to
  unmarked : (c : Contents) → IsSound s.region.page s.region.len s.base.bytes (size_of s) c → c.dirty ≡ s.region.marks → (k : ℕ) → k < s.accessible.bytes / s.region.page → get_or (marks_of s) k false ≡ false → slice_range c.bytes (s.base.bytes + k * s.region.page) (s.base.bytes + (k * s.region.page + s.region.page)) ≡ slice_range c.origin (s.base.bytes + k * s.region.page) (s.base.bytes + (k * s.region.page + s.region.page))
  unmarked c sound same k under is =
      let sp : IsSpan span s.region = slot_span s fits marked in
      let number : s.base.bytes / s.region.page + k < s.region.len / s.region.page = omega (arith, under, sp.inside) in
      let mark : get_or s.region.marks (s.base.bytes / s.region.page + k) false ≡ false =
      sym (span_mark span s.region k under) ∙ ap (λ l. get_or l k false) (slot_marks s fits) ∙ is in
      let clean : get_or c.dirty (s.base.bytes / s.region.page + k) true ≡ false =
      ap (λ l. get_or l (s.base.bytes / s.region.page + k) true) same
      ∙ get_or_default s.region.marks (s.base.bytes / s.region.page + k) true false (omega (arith, number, sp.marks))
      ∙ mark in
      let place : (s.base.bytes / s.region.page + k) * s.region.page ≡ s.base.bytes + k * s.region.page = omega (arith, add-mul (s.base.bytes / s.region.page) k s.region.page, sp.base) in
      let end : s.base.bytes + k * s.region.page + s.region.page ≡ s.base.bytes + (k * s.region.page + s.region.page) = omega arith in
      let P : ℕ → ℕ → ℕ → Type 0 = λ p a b. slice_range c.bytes a (b + p) ≡ slice_range c.origin a (b + p) in
      let own : slice_range c.bytes ((s.base.bytes / s.region.page + k) * c.page) ((s.base.bytes / s.region.page + k) * c.page + c.page) ≡ slice_range c.origin ((s.base.bytes / s.region.page + k) * c.page) ((s.base.bytes / s.region.page + k) * c.page + c.page) =
      sound.shaped.clean (s.base.bytes / s.region.page + k) number clean in
      let R : ℕ → ℕ → Type 0 = λ a b. slice_range c.bytes a b ≡ slice_range c.origin a b in
      let first : R ((s.base.bytes / s.region.page + k) * s.region.page) ((s.base.bytes / s.region.page + k) * s.region.page + s.region.page) =
      subst (λ p. R ((s.base.bytes / s.region.page + k) * p) ((s.base.bytes / s.region.page + k) * p + p)) sound.shaped.same_page own in
      let second : R (s.base.bytes + k * s.region.page) (s.base.bytes + k * s.region.page + s.region.page) =
      subst (λ a. R a (a + s.region.page)) place first in
      subst (λ b. R (s.base.bytes + k * s.region.page) b) end second

  pub each_page : (c : Contents) → IsSound s.region.page s.region.len s.base.bytes (size_of s) c → c.dirty ≡ s.region.marks → (k : ℕ) → k * s.region.page < s.accessible.bytes → (slice_range c.bytes (s.base.bytes + k * s.region.page) (s.base.bytes + (k * s.region.page + s.region.page)) ≡ slice_range c.origin (s.base.bytes + k * s.region.page) (s.base.bytes + (k * s.region.page + s.region.page))) ⊎ Covers (lone_pages s.region.page by_hand ++ left) (k * s.region.page) (k * s.region.page + s.region.page)
  each_page c sound same k under =
      let some : 0 < s.region.page = omega (arith, fits.sizes.page_size.at_least) in
      let number : k < s.accessible.bytes / s.region.page = elim (cases_lt k (s.accessible.bytes / s.region.page)) [
        | inl less ↦ less
        | inr past ↦ absurd (omega (arith, under, sum, mul-le-mul_right s.region.page past))
      ] in
      elim (cases_Bool (get_or (marks_of s) k false)) [
        | inl is ↦ inr (covered k number is)
        | inr is ↦ inl (unmarked c sound same k number is)
      ]

  -- what is told once the reset and its decommits are done
  abbrev done : Slot
  done = record s { region = pages_restored s.base.bytes by_hand s.region; dirty = false }

  pub told_done : TellsBacked s.base.bytes (lone_pages s.region.page by_hand ++ left) s.region (decommitted_all left done).region
  told_done =
      let hand = pages_backed s.base.bytes by_hand s.region in
      let rest = ranges_backed left done in
      record {
        rest = joined s.region done.region (decommitted_all left done).region hand.rest rest.rest;
        contents = backed_both s.base.bytes (lone_pages s.region.page by_hand) left s.region.contents done.region.contents (decommitted_all left done).region.contents hand.contents rest.contents;
      } where
        joined : (t u v : Told) → u ≡ record t { contents = u.contents; marks = u.marks; made = u.made; calls = u.calls } → v ≡ record u { contents = v.contents; marks = v.marks; made = v.made; calls = v.calls } → v ≡ record t { contents = v.contents; marks = v.marks; made = v.made; calls = v.calls }
        joined t u v first second = second ∙ ap (λ (w : Told). record w { contents = v.contents; marks = v.marks; made = v.made; calls = v.calls }) first

  pub started : (o u : Option Contents) → IfSome o (IsSound s.region.page s.region.len s.base.bytes (size_of s)) → IfSome o (λ c. c.dirty ≡ s.region.marks) → IfSome o (IsReady s) → Backed s.base.bytes (lone_pages s.region.page by_hand ++ left) o u → IfSome u (IsStarted s)
  started None None sound same ready backed = sound
  started None (Some d) sound same ready backed = absurd backed
  started (Some c) None sound same ready backed = absurd backed
  started (Some c) (Some d) sound same ready backed = backed_started s c (lone_pages s.region.page by_hand ++ left) fits sound ready below_all (each_page c sound same) d backed

  pub marks_clean : s.region.behaviour ≡ RestoreOriginalMapping → IfSome s.region.contents (IsReady s) → IsClean (decommitted_all left done)
  marks_clean restores ready =
      let v : Told = (decommitted_all left done).region in
      let told = started s.region.contents (decommitted_all left done).region.contents fits.told marked.same ready told_done.contents in
      let u : Told = record s.region { contents = (decommitted_all left done).region.contents; marks = (decommitted_all left done).region.marks; made = (decommitted_all left done).region.made; calls = (decommitted_all left done).region.calls } in
      let t : Slot = record s { region = u; dirty = false } in
      let same : decommitted_all left done ≡ t = only_region left done ∙ ap (λ (w : Told). record s { region = w; dirty = false }) told_done.rest in
      subst IsClean (sym same) (record {
        not_dirty = refl;
        image = image_restored s.image s.region.behaviour restores;
        ready = followed (IsStarted s) (IsReady t) (decommitted_all left done).region.contents (λ d st. record { reach = st.ready.reach; origin = st.ready.origin; beyond = st.ready.beyond; colour = st.ready.colour }) told;
        holds = followed (IsStarted s) (Holds t 0 (size_of t)) (decommitted_all left done).region.contents (λ d st. st.holds) told;
      })

  -- nothing is left where all that could be reached may be kept
  pub none_left : s.accessible.bytes ≤ keep → left ≡ []
  none_left from =
      let some : 0 < s.region.page = omega (arith, fits.sizes.page_size.at_least) in
      let few : length (marked_pages (marks_of s)) ≤ s.accessible.bytes / s.region.page - 0 = few_rise 0 (s.accessible.bytes / s.region.page) (marked_pages (marks_of s)) rise in
      let all : s.accessible.bytes / s.region.page ≤ keep / s.region.page = (le-div_iff_mul-le some).1 (omega (arith, from, sum)) in
      ap (λ ks. at_most_eight s.accessible.bytes (runs_of s.region.page ks)) (drop_of_length-le (marked_pages (marks_of s)) (omega (arith, few, all)))

  pub marks_clean_now : s.accessible.bytes ≤ keep → s.region.behaviour ≡ RestoreOriginalMapping → IfSome s.region.contents (IsReady s) → IsClean done
  marks_clean_now from restores ready = subst (λ rs. IsClean (decommitted_all rs done)) (none_left from) (marks_clean restores ready)

pub backed_sound : (page len base size at : ℕ) (rs : List ByteRange) (o u : Option Contents) → IfSome o (IsSound page len base size) → IfSome u (IsShaped page len) → Backed at rs o u → IfSome u (IsSound page len base size)
backed_sound page len base size at rs None None sound shaped backed = shaped
backed_sound page len base size at rs None (Some d) sound shaped backed = absurd backed
backed_sound page len base size at rs (Some c) None sound shaped backed = absurd backed
backed_sound page len base size at rs (Some c) (Some d) sound shaped backed = record {
  shaped = shaped;
  outside = λ k below out.
      ap (λ (l : List ℕ). slice_range l (k * d.page) (k * d.page + d.page)) backed.origin
      ∙ ap (λ p. slice_range c.origin (k * p) (k * p + p)) backed.page
      ∙ sound.outside k below out;
}

-- pages set by hand leave the slot's sizes
pub marks_keeps : (whole : Count) (s : Slot) (ks : List ℕ) → Keeps whole s → TellsShaped (pages_restored s.base.bytes ks s.region) → Keeps whole (record s { region = pages_restored s.base.bytes ks s.region; dirty = false })
marks_keeps whole s ks keeps shaped =
    let told = pages_backed s.base.bytes ks s.region in
    let v : Told = pages_restored s.base.bytes ks s.region in
    let u : Told = record s.region { contents = (pages_restored s.base.bytes ks s.region).contents; marks = (pages_restored s.base.bytes ks s.region).marks; made = (pages_restored s.base.bytes ks s.region).made; calls = (pages_restored s.base.bytes ks s.region).calls } in
    let shape : TellsShaped u = subst TellsShaped told.rest shaped in
    subst (λ (w : Told). Keeps whole (record s { region = w; dirty = false })) (sym told.rest) (record {
      size = keeps.size;
      fits = record {
        sizes = keeps.fits.sizes;
        told = backed_sound s.region.page s.region.len s.base.bytes (size_of s) s.base.bytes (lone_pages s.region.page ks) s.region.contents (pages_restored s.base.bytes ks s.region).contents keeps.fits.told shape told.contents;
      };
    })

-- the ranges are whole pages of the slot as it is then
pub parts_now : (s : Slot) (ks : List ℕ) (rs : List ByteRange) → All (IsPart s.region.page (size_of s)) rs → All (IsPart (pages_restored s.base.bytes ks s.region).page (size_of (record s { region = pages_restored s.base.bytes ks s.region; dirty = false }))) rs
parts_now s ks rs parts =
    subst (λ (w : Told). All (IsPart w.page (size_of (record s { region = w; dirty = false }))) rs) (sym (pages_backed s.base.bytes ks s.region).rest) parts

-- The same as the code says them.
pub hand_is : (s : Slot) (keep most b p : ℕ) (ms : List Bool) (u : Told) → u ≡ pages_restored b (take most (marked_pages ms)) s.region → b ≡ s.base.bytes → most ≡ keep / p → p ≡ s.region.page → ms ≡ marks_of s → u ≡ pages_restored s.base.bytes (pages_by_hand s.region.page keep (marks_of s)) s.region
hand_is s keep most b p ms u is base count page marks =
    let first : most ≡ keep / s.region.page = count ∙ ap (λ n. keep / n) page in
    is
    ∙ ap (λ n. pages_restored n (take most (marked_pages ms)) s.region) base
    ∙ ap (λ n. pages_restored s.base.bytes (take n (marked_pages ms)) s.region) first
    ∙ ap (λ l. pages_restored s.base.bytes (take (keep / s.region.page) (marked_pages l)) s.region) marks

pub left_is : (s : Slot) (keep most n p : ℕ) (ms : List Bool) (rs : List ByteRange) → rs ≡ at_most_eight (n * p) (runs_of p (drop most (marked_pages ms))) → n * p ≡ s.accessible.bytes → most ≡ keep / p → p ≡ s.region.page → ms ≡ marks_of s → rs ≡ at_most_eight s.accessible.bytes (runs_of s.region.page (pages_left s.region.page keep (marks_of s)))
left_is s keep most n p ms rs is size count page marks =
    let first : most ≡ keep / s.region.page = count ∙ ap (λ m. keep / m) page in
    is
    ∙ ap (λ m. at_most_eight m (runs_of p (drop most (marked_pages ms)))) size
    ∙ ap (λ m. at_most_eight s.accessible.bytes (runs_of m (drop most (marked_pages ms)))) page
    ∙ ap (λ m. at_most_eight s.accessible.bytes (runs_of s.region.page (drop m (marked_pages ms)))) first
    ∙ ap (λ l. at_most_eight s.accessible.bytes (runs_of s.region.page (drop (keep / s.region.page) (marked_pages l)))) marks
