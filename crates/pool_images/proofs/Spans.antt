-- Pages of a region that are gone through by their marks.
use Rattle.std.proofs.Common.{◌≡◌, ℕ, suc, ◌+◌, ◌-◌, ◌*◌, ◌/◌, ◌<◌, ◌≤◌, ◌⊎◌, Bool, true, false, not, List, [], ◌∷◌, ◌++◌, length, get_or, take, drop, replicate, refl, sym, ap, ◌∙◌, subst, arith, inl, inr, nat_lt, if◌then◌else◌, Option, Some, None, IfSome, option_map, append_assoc, append-nil, lt-ltb, true≢false, add-mul, ◌==◌, ne_eqb, length-take-le, length-drop, take_all, drop_of_length-le, mul-le-mul_right, mul_comm, slice_range}
use Rattle.std.proofs.lemmas.List.Sums.{fold-append}
use Rattle.std.proofs.lemmas.Nat.{div-mul-add}
use Rattle.std.proofs.Math.Nat.{mul-div_cancel, add-mul-div_left}
use Rattle.pool_pages.specs.Contents.{touched, touched_marked}
use Rattle.pool_images.proofs.Imports.{cases_lt, whole, marks_fit, Contents, IsShaped, CanReach, put, put_back, Told, TellsShaped, restored, get_or-range, get_or-put_above, length-put, length-range}
use Rattle.pool_images.specs.declared.image_slot.dirty_pages.PageSpan.{PageSpan}
use Rattle.pool_images.specs.declared.ranges.ByteRange.{ByteRange}
use Rattle.pool_images.specs.Resets.{IsSpan, span_marks, marked_from, with_page, runs_of, at_most_eight, at_most_one, pages_range, pages_restored, marks_of}
use Rattle.pool_images.specs.Slots.{Slot, IsSlot}
use Rattle.pool_pages.specs.Told.{TellsMarks}
use Rattle.pool_images.proofs.Making.{reach_part}
use Rattle.pool_images.proofs.MarkedPages.{none_from, marked_first, skipped, same_from, taken_more}
use Rattle.pool_images.proofs.PageRanges.{run_first, few, eighth}

pub span_long : (s : PageSpan) (t : Told) → IsSpan s t → length (span_marks s t) ≡ s.pages
span_long s t span =
    let long : length (span_marks s t) ≡ s.first + s.pages - s.first = length-range t.marks s.first (s.first + s.pages) (omega (arith, span.marks, span.inside)) in
    omega (arith, long)

-- a mark of the span is the region's
pub span_mark : (s : PageSpan) (t : Told) (k : ℕ) → k < s.pages → get_or (span_marks s t) k false ≡ get_or t.marks (s.first + k) false
span_mark s t k below = get_or-range t.marks s.first (s.first + s.pages) k false (omega (arith, below))

-- a page that has a mark isn't the end of those that lack it
run_some : (marks : List Bool) (pages next end : ℕ) → next < pages → get_or marks next false ≡ true → next ≤ end → (end < pages → get_or marks end false ≡ false) → next < end
run_some marks pages next end below is up stops = elim (cases_lt next end) [
  | inl less ↦ less
  | inr past ↦
      let same : end ≡ next = omega (arith, up, past) in
      absurd (true≢false (sym is ∙ ap (λ k. get_or marks k false) (sym same) ∙ stops (omega (arith, same, below))))
]

some_runs : (page : ℕ) (k : ℕ) (ks : List ℕ) → 0 < length (runs_of page (k ∷ ks))
some_runs page k ks = either (runs_of page ks) where
  either : (rs : List ByteRange) → 0 < length (with_page page k rs)
  either [] = omega arith
  either (r ∷ rs) = joined (k * page + page == r.start) where
    joined : (b : Bool) → 0 < length (if b then record { start = k * page; len = page + r.len } ∷ rs else record { start = k * page; len = page } ∷ r ∷ rs)
    joined true = omega arith
    joined false = omega arith

module _ (s : PageSpan) (t : Told) (span : IsSpan s t) where
  long : length (span_marks s t) ≡ s.pages
  long = span_long s t span

  -- pages without mark are skipped
  skip : (a b : ℕ) → a ≤ b → b ≤ s.pages → ((k : ℕ) → a ≤ k → k < b → get_or (span_marks s t) k false ≡ not true) → marked_from a (span_marks s t) ≡ marked_from b (span_marks s t)
  skip a b up within none = skipped (span_marks s t) a b up (omega (arith, within, long)) none

  pub leave_init : (rs : List ByteRange) (from next : ℕ) → rs ≡ [] → from ≤ next → next ≤ s.pages → ((k : ℕ) → from ≤ k → k < next → get_or (span_marks s t) k false ≡ not true) → rs ++ runs_of s.page (marked_from next (span_marks s t)) ≡ runs_of s.page (marked_from from (span_marks s t))
  leave_init rs from next empty up within none =
      ap (λ (l : List ByteRange). l ++ runs_of s.page (marked_from next (span_marks s t))) empty
      ∙ ap (runs_of s.page) (sym (skip from next up within none))

  run : (next end : ℕ) → next < end → end ≤ s.pages → ((k : ℕ) → next ≤ k → k < end → get_or (span_marks s t) k false ≡ not false) → (end < s.pages → get_or (span_marks s t) end false ≡ false) → runs_of s.page (marked_from next (span_marks s t)) ≡ pages_range s.page next end ∷ runs_of s.page (marked_from end (span_marks s t))
  run next end up within all stops =
      run_first s.page (span_marks s t) span.some next end up (omega (arith, within, long)) all (λ below. stops (omega (arith, below, long)))

  pub leave_more : (rs now total : List ByteRange) (next end after : ℕ) → rs ++ runs_of s.page (marked_from next (span_marks s t)) ≡ total → next < s.pages → get_or (span_marks s t) next false ≡ true → next ≤ end → end ≤ s.pages → ((k : ℕ) → next ≤ k → k < end → get_or (span_marks s t) k false ≡ not false) → (end < s.pages → get_or (span_marks s t) end false ≡ false) → now ≡ rs ++ pages_range s.page next end ∷ [] → end ≤ after → after ≤ s.pages → ((k : ℕ) → end ≤ k → k < after → get_or (span_marks s t) k false ≡ not true) → now ++ runs_of s.page (marked_from after (span_marks s t)) ≡ total
  leave_more rs now total next end after had below is up within all stops pushed past inside none =
      let less : next < end = run_some (span_marks s t) s.pages next end below is up stops in
      ap (λ (l : List ByteRange). l ++ runs_of s.page (marked_from after (span_marks s t))) pushed
      ∙ append_assoc rs (pages_range s.page next end ∷ []) (runs_of s.page (marked_from after (span_marks s t)))
      ∙ ap (λ ks. rs ++ pages_range s.page next end ∷ runs_of s.page ks) (sym (skip end after past inside none))
      ∙ ap (λ (l : List ByteRange). rs ++ l) (sym (run next end less within all stops))
      ∙ had

  -- the last range ends behind its run, or reaches to the end
  pub last_alone : (next end after : ℕ) → next < s.pages → get_or (span_marks s t) next false ≡ true → next ≤ end → end ≤ s.pages → ((k : ℕ) → next ≤ k → k < end → get_or (span_marks s t) k false ≡ not false) → (end < s.pages → get_or (span_marks s t) end false ≡ false) → end ≤ after → s.pages ≤ after → after ≤ s.pages → ((k : ℕ) → end ≤ k → k < after → get_or (span_marks s t) k false ≡ not true) → pages_range s.page next end ∷ [] ≡ at_most_one (s.pages * s.page) (runs_of s.page (marked_from next (span_marks s t)))
  last_alone next end after below is up within all stops past last inside none =
      let less : next < end = run_some (span_marks s t) s.pages next end below is up stops in
      let rest : marked_from end (span_marks s t) ≡ [] = skip end after past inside none ∙ none_from (span_marks s t) after (omega (arith, last, long)) in
      let only : runs_of s.page (marked_from next (span_marks s t)) ≡ pages_range s.page next end ∷ [] = run next end less within all stops ∙ ap (λ ks. pages_range s.page next end ∷ runs_of s.page ks) rest in
      sym (ap (at_most_one (s.pages * s.page)) only)

  pub last_reaches : (next end after : ℕ) → next < s.pages → get_or (span_marks s t) next false ≡ true → next ≤ end → end ≤ s.pages → ((k : ℕ) → next ≤ k → k < end → get_or (span_marks s t) k false ≡ not false) → (end < s.pages → get_or (span_marks s t) end false ≡ false) → end ≤ after → after < s.pages → get_or (span_marks s t) after false ≡ true → ((k : ℕ) → end ≤ k → k < after → get_or (span_marks s t) k false ≡ not true) → pages_range s.page next s.pages ∷ [] ≡ at_most_one (s.pages * s.page) (runs_of s.page (marked_from next (span_marks s t)))
  last_reaches next end after below is up within all stops past inside marked none =
      let less : next < end = run_some (span_marks s t) s.pages next end below is up stops in
      let rest : marked_from end (span_marks s t) ≡ after ∷ marked_from (after + 1) (span_marks s t) = skip end after past (omega (arith, inside)) none ∙ marked_first (span_marks s t) after (omega (arith, inside, long)) marked in
      let all' : runs_of s.page (marked_from next (span_marks s t)) ≡ pages_range s.page next end ∷ runs_of s.page (after ∷ marked_from (after + 1) (span_marks s t)) = run next end less within all stops ∙ ap (λ ks. pages_range s.page next end ∷ runs_of s.page ks) rest in
      let more : nat_lt 1 (suc (length (runs_of s.page (after ∷ marked_from (after + 1) (span_marks s t))))) ≡ true = lt-ltb 1 (suc (length (runs_of s.page (after ∷ marked_from (after + 1) (span_marks s t))))) (omega (arith, some_runs s.page after (marked_from (after + 1) (span_marks s t)))) in
      let parts : next + (s.pages - next) ≡ s.pages = omega (arith, below) in
      let sum : s.pages * s.page ≡ next * s.page + (s.pages - next) * s.page = ap (λ n. n * s.page) (sym parts) ∙ add-mul next (s.pages - next) s.page in
      let size : (s.pages - next) * s.page ≡ s.pages * s.page - next * s.page = omega (arith, sum) in
      ap (λ n. record { start = next * s.page; len = n } ∷ []) size
      ∙ sym (ap (λ b. if b then record { start = next * s.page; len = s.pages * s.page - next * s.page } ∷ [] else pages_range s.page next end ∷ runs_of s.page (after ∷ marked_from (after + 1) (span_marks s t))) more)
      ∙ sym (ap (at_most_one (s.pages * s.page)) all')

  -- no page is left
  pub left_none : (rs total : List ByteRange) (next : ℕ) → s.pages ≤ next → length rs ≤ 7 → rs ++ runs_of s.page (marked_from next (span_marks s t)) ≡ total → rs ≡ at_most_eight (s.pages * s.page) total
  left_none rs total next last most had =
      let none : marked_from next (span_marks s t) ≡ [] = none_from (span_marks s t) next (omega (arith, last, long)) in
      let all : rs ≡ total = sym (append-nil rs) ∙ ap (λ ks. rs ++ runs_of s.page ks) (sym none) ∙ had in
      all ∙ sym (few (s.pages * s.page) total (subst (λ (l : List ByteRange). length l ≤ 8) all (omega (arith, most))))

  -- one range more is all that there is room for
  pub left_last : (rs now total : List ByteRange) (next end : ℕ) → length rs ≤ 7 → 7 ≤ length rs → rs ++ runs_of s.page (marked_from next (span_marks s t)) ≡ total → now ≡ rs ++ pages_range s.page next end ∷ [] → pages_range s.page next end ∷ [] ≡ at_most_one (s.pages * s.page) (runs_of s.page (marked_from next (span_marks s t))) → now ≡ at_most_eight (s.pages * s.page) total
  left_last rs now total next end most least had pushed last =
      pushed
      ∙ ap (λ (l : List ByteRange). rs ++ l) last
      ∙ eighth (s.pages * s.page) rs (runs_of s.page (marked_from next (span_marks s t))) (omega (arith, most, least))
      ∙ ap (at_most_eight (s.pages * s.page)) had

  -- a page of the span in the region
  number : (k : ℕ) → (s.base + k * s.page) / s.page ≡ s.first + k
  number k =
      let sum : s.base + k * s.page ≡ (s.first + k) * s.page = omega (arith, span.base, add-mul s.first k s.page) in
      ap (λ n. n / s.page) sum ∙ mul-div_cancel (s.first + k) span.some

  one : (k : ℕ) → touched s.page (s.base + k * s.page) s.page ≡ 1
  one k =
      let sum : s.base + k * s.page ≡ (s.first + k) * s.page = omega (arith, span.base, add-mul s.first k s.page) in
      let ends : s.base + k * s.page + s.page - 1 ≡ (s.first + k) * s.page + (s.page - 1) = omega (arith, sum, span.some) in
      let last : (s.base + k * s.page + s.page - 1) / s.page ≡ s.first + k = ap (λ n. n / s.page) ends ∙ div-mul-add (s.first + k) s.page (s.page - 1) (omega (arith, span.some)) in
      let no : (s.page == 0) ≡ false = ne_eqb s.page 0 (λ e. absurd (omega (arith, e, span.some))) in
      let count : (s.base + k * s.page + s.page - 1) / s.page + 1 - (s.base + k * s.page) / s.page ≡ 1 = omega (arith, last, number k) in
      ap (λ b. if b then 0 else (s.base + k * s.page + s.page - 1) / s.page + 1 - (s.base + k * s.page) / s.page) no ∙ count

  marked_one : (k : ℕ) → touched_marked (s.base + k * s.page) s.page t.page t.marks ≡ put (s.first + k) (true ∷ []) t.marks
  marked_one k =
      ap (λ p. touched_marked (s.base + k * s.page) s.page p t.marks) span.page
      ∙ ap (λ n. put ((s.base + k * s.page) / s.page) (replicate n true) t.marks) (one k)
      ∙ ap (λ n. put n (true ∷ []) t.marks) (number k)

  -- a page that is set by hand leaves the span as it is, but for its mark
  pub span_restored : (k : ℕ) (now : Told) → k < s.pages → now ≡ restored (s.base + k * s.page) s.page t → IsSpan s now
  span_restored k now below is =
      let size : length (put (s.first + k) (true ∷ []) t.marks) ≡ length t.marks = length-put (s.first + k) (true ∷ []) t.marks (omega (arith, below, span.inside, span.marks)) in
      subst (IsSpan s) (sym is) (record {
        page = span.page;
        some = span.some;
        base = span.base;
        inside = span.inside;
        bytes = span.bytes;
        bounded = span.bounded;
        marks = ap length (marked_one k) ∙ size ∙ span.marks;
      })

  mark_later : (k j : ℕ) (now : Told) → k < j → j < s.pages → now ≡ restored (s.base + k * s.page) s.page t → get_or (span_marks s now) j false ≡ get_or (span_marks s t) j false
  mark_later k j now later below is =
      span_mark s now j below
      ∙ ap (λ (u : Told). get_or u.marks (s.first + j) false) is
      ∙ ap (λ ms. get_or ms (s.first + j) false) (marked_one k)
      ∙ get_or-put_above (s.first + k) (true ∷ []) t.marks (s.first + j) false (omega (arith, below, later, span.inside, span.marks)) (omega (arith, later))
      ∙ sym (span_mark s t j below)

  -- the pages behind it have the marks that they had
  pub later_marks : (k : ℕ) (now : Told) → k < s.pages → now ≡ restored (s.base + k * s.page) s.page t → marked_from (k + 1) (span_marks s now) ≡ marked_from (k + 1) (span_marks s t)
  later_marks k now below is =
      let span' : IsSpan s now = span_restored k now below is in
      same_from (span_marks s now) (span_marks s t) (k + 1) (span_long s now span' ∙ sym long)
      (λ j from under. mark_later k j now (omega (arith, from)) (omega (arith, under, long)) is)

  pub page_reach : (k : ℕ) → k < s.pages → TellsShaped t → IfSome t.contents (CanReach s.base (s.pages * s.page)) → IfSome t.contents (CanReach (s.base + k * s.page) s.page)
  page_reach k below shaped reach =
      let next : (k + 1) * s.page ≡ k * s.page + s.page = omega (arith, add-mul k 1 s.page) in
      let less : (k + 1) * s.page ≤ s.pages * s.page = mul-le-mul_right s.page (omega (arith, below)) in
      told t.contents (omega (arith, next, less)) shaped reach where
        told : (o : Option Contents) → k * s.page + s.page ≤ s.pages * s.page → IfSome o (IsShaped t.page t.len) → IfSome o (CanReach s.base (s.pages * s.page)) → IfSome o (CanReach (s.base + k * s.page) s.page)
        told None fits shaped reach = reach
        told (Some c) fits shaped reach = reach_part s.base (s.pages * s.page) (k * s.page) s.page c (omega (arith, shaped.same_page, span.page, span.some)) fits reach

-- what can be reached still can be
pub reach_kept : (at n i len : ℕ) (o : Option Contents) → IfSome o (CanReach at n) → IfSome (option_map (put_back i len) o) (CanReach at n)
reach_kept at n i len None reach = reach
reach_kept at n i len (Some c) reach = reach

-- one page more was set by hand
pub one_restored : (s : PageSpan) (count k : ℕ) (old t now : Told) (ks : List ℕ) (rest : List ℕ) → t ≡ pages_restored s.base (take count ks) old → t.page ≡ s.page → drop count ks ≡ k ∷ rest → now ≡ restored (s.base + k * s.page) s.page t → now ≡ pages_restored s.base (take (count + 1) ks) old
one_restored s count k old t now ks rest done page next is =
    let more : take (count + 1) ks ≡ take count ks ++ k ∷ [] = (taken_more count ks k rest next).0 in
    is
    ∙ ap (λ p. restored (s.base + k * p) p t) (sym page)
    ∙ ap (λ (u : Told). restored (s.base + k * u.page) u.page u) done
    ∙ sym (fold-append (λ (told : Told) (j : ℕ). restored (s.base + j * told.page) told.page told) old (take count ks) (k ∷ []))
    ∙ ap (λ l. pages_restored s.base l old) (sym more)

-- all that may be set by hand is
pub all_taken : (count most : ℕ) (ks : List ℕ) → count ≤ most → count ≤ length ks → (most ≤ count) ⊎ (drop count ks ≡ []) → (take count ks ≡ take most ks) × (drop count ks ≡ drop most ks) × (count ≡ length (take most ks))
all_taken count most ks less long (inl reached) =
    let same : count ≡ most = omega (arith, less, reached) in
    (ap (λ n. take n ks) same, ap (λ n. drop n ks) same, sym (length-take-le count ks long) ∙ ap (λ n. length (take n ks)) same)
all_taken count most ks less long (inr none) =
    let short : length ks ≤ count = omega (arith, length-drop count ks, ap length none) in
    let all : take count ks ≡ ks = take_all count ks short in
    let every : take most ks ≡ ks = take_all most ks (omega (arith, short, less)) in
    let count' : count ≡ length ks = omega (arith, long, short) in
    (all ∙ sym every, none ∙ sym (drop_of_length-le ks (omega (arith, short, less))), count' ∙ ap length (sym every))

-- the accessible pages of a slot
pub slot_span : (s : Slot) → IsSlot s → TellsMarks s.region → IsSpan (record { page = s.region.page; base = s.base.bytes; first = s.base.bytes / s.region.page; pages = s.accessible.bytes / s.region.page }) s.region
slot_span s fits marks =
    let base : s.region.page * (s.base.bytes / s.region.page) ≡ s.base.bytes = whole s.base.bytes s.region.page fits.sizes.base_whole in
    let size : s.region.page * (s.accessible.bytes / s.region.page) ≡ s.accessible.bytes = whole s.accessible.bytes s.region.page fits.sizes.accessible_whole in
    let some : 0 < s.region.page = omega (arith, fits.sizes.page_size.at_least) in
    let inside : s.base.bytes + s.accessible.bytes ≤ s.region.len = omega (arith, fits.sizes.inside, fits.sizes.within) in
    record {
      page = refl;
      some = some;
      base = sym base ∙ mul_comm s.region.page (s.base.bytes / s.region.page);
      inside = marks_fit s.region.page s.base.bytes s.accessible.bytes s.region.len some fits.sizes.base_whole fits.sizes.accessible_whole marks.whole inside;
      bytes = omega (arith, inside, size, mul_comm s.region.page (s.accessible.bytes / s.region.page));
      bounded = fits.sizes.bounded;
      marks = marks.count;
    }

pub slot_marks : (s : Slot) → IsSlot s → span_marks (record { page = s.region.page; base = s.base.bytes; first = s.base.bytes / s.region.page; pages = s.accessible.bytes / s.region.page }) s.region ≡ marks_of s
slot_marks s fits =
    let size : s.region.page * (s.accessible.bytes / s.region.page) ≡ s.accessible.bytes = whole s.accessible.bytes s.region.page fits.sizes.accessible_whole in
    let some : 0 < s.region.page = omega (arith, fits.sizes.page_size.at_least) in
    let last : (s.base.bytes + s.accessible.bytes) / s.region.page ≡ s.base.bytes / s.region.page + s.accessible.bytes / s.region.page =
    ap (λ n. (s.base.bytes + n) / s.region.page) (sym size) ∙ add-mul-div_left s.base.bytes (s.accessible.bytes / s.region.page) some in
    ap (λ n. slice_range s.region.marks (s.base.bytes / s.region.page) n) (sym last)
