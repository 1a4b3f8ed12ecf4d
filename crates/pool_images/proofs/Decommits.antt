-- A clean slot stays clean where a range of it is decommitted, also where that fails half-way.
use Rattle.std.proofs.Common.{◌≡◌, ℕ, ◌+◌, ◌-◌, ◌*◌, ◌/◌, ◌<◌, ◌≤◌, false, List, length, get_or, refl, sym, ap, ◌∙◌, subst, inl, inr, arith, slice_range, Option, Some, None, Result, Ok, Err, IfSome, OnOk, OnErr, ◌⊎◌, slice_index_or}
use Rattle.pool_images.proofs.Imports.{cases_lt, Contents, IsShaped, IsIn, Page, page_at, page_origin, decommitted, Told, PageCall, IsPartly, MayChangePartly, Faulted, TellsShaped, counted, succeeded, decommitting, page_of, get_or-range, same_at, same_range, range_within, same_by_pages}
use Rattle.pool_images.specs.Slots.{Slot, IsSlot, IsSound, IsReady, IsClean, Holds, origin_image, placed, size_of, called}
use Rattle.pool_images.proofs.Backs.{back_there}
use Rattle.pool_images.proofs.Ready.{IsGood, IsStarted, good, lifted, followed}

-- bytes that are what they go back to still are once some are put back
still_holds : (s : Slot) (start len from to : ℕ) (c : Contents) → IsSlot s → IsSound s.region.page s.region.len s.base.bytes (size_of s) c → start + len ≤ size_of s → to ≤ size_of s → Holds s from to c → Holds s from to (decommitted (s.base.bytes + start) len c)
still_holds s start len from to c fits sound inside within holds =
    let all : length c.origin ≡ s.region.len = sound.shaped.origin in
    let every : length c.bytes ≡ s.region.len = sound.shaped.bytes in
    back_there (s.base.bytes + start) len (s.base.bytes + from) (s.base.bytes + to) c.bytes c.origin (every ∙ sym all) (omega (arith, fits.sizes.inside)) (omega (arith, fits.sizes.inside)) holds

still_started : (s : Slot) (start len : ℕ) (c : Contents) → IsSlot s → start + len ≤ size_of s → IsGood s c → IsStarted (called (decommitting (s.base.bytes + start) len) s) (decommitted (s.base.bytes + start) len c)
still_started s start len c fits inside g = record {
  ready = record {
    reach = g.ready.reach;
    origin = g.ready.origin;
    beyond = still_holds s start len s.accessible.bytes (size_of s) c fits g.sound inside (omega arith) g.ready.beyond;
    colour = g.ready.colour;
  };
  holds = still_holds s start len 0 (size_of s) c fits g.sound inside (omega arith) g.holds;
}

pub still_clean : (s : Slot) (start len : ℕ) → IsSlot s → IsClean s → start + len ≤ size_of s → IsClean (called (decommitting (s.base.bytes + start) len) s)
still_clean s start len fits clean inside =
    let t : Slot = called (decommitting (s.base.bytes + start) len) s in
    let f : Contents → Contents = decommitted (s.base.bytes + start) len in
    record {
      not_dirty = clean.not_dirty;
      image = clean.image;
      ready = lifted (IsGood s) (IsReady t) f s.region.contents (λ c g. (still_started s start len c fits inside g).ready) (good s fits clean);
      holds = lifted (IsGood s) (Holds t 0 (size_of t)) f s.region.contents (λ c g. (still_started s start len c fits inside g).holds) (good s fits clean);
    }

-- each page is as before, or as a success leaves it
pub either : (call : PageCall) (c d : Contents) (k : ℕ) → IsPartly call c d → (page_at k d ≡ page_at k c) ⊎ (page_at k d ≡ page_at k (call.change c))
either call c d k partly = elim (cases_lt (k * c.page) call.start) [
  | inl below ↦ inl (partly.outside k (λ i. absurd (omega (arith, i.from))))
  | inr from ↦ elim (cases_lt (k * c.page) (call.start + call.len)) [
    | inl within ↦ partly.inside k (record { from = from; below = within })
    | inr above ↦ inl (partly.outside k (λ i. absurd (omega (arith, i.below))))
  ]
]

-- what holds of a page both ways holds of it
pub by_page : (Q : Page → Type 0) (call : PageCall) (c d : Contents) (k : ℕ) → IsPartly call c d → Q (page_at k c) → Q (page_at k (call.change c)) → Q (page_at k d)
by_page Q call c d k partly before after = elim (either call c d k partly) [
  | inl same ↦ subst Q (sym same) before
  | inr done ↦ subst Q (sym done) after
]

-- a place in a page holds what it goes back to
abbrev HoldsAt : ℕ → ℕ → Page → Type 0
HoldsAt i x p = get_or p.bytes i x ≡ get_or p.origin i x

pub to_page : (c : Contents) (a b k i x : ℕ) → slice_range c.bytes a b ≡ slice_range c.origin a b → i < c.page → a ≤ k * c.page + i → k * c.page + i < b → HoldsAt i x (page_at k c)
to_page c a b k i x same inside from below =
    let under : i < k * c.page + c.page - k * c.page = omega arith in
    get_or-range c.bytes (k * c.page) (k * c.page + c.page) i x under
    ∙ same_at c.bytes c.origin a b (k * c.page + i) x same from below
    ∙ sym (get_or-range c.origin (k * c.page) (k * c.page + c.page) i x under)

pub from_page : (d : Contents) (k i x : ℕ) → i < d.page → HoldsAt i x (page_at k d) → get_or d.bytes (k * d.page + i) x ≡ get_or d.origin (k * d.page + i) x
from_page d k i x inside holds =
    let under : i < k * d.page + d.page - k * d.page = omega arith in
    sym (get_or-range d.bytes (k * d.page) (k * d.page + d.page) i x under)
    ∙ holds
    ∙ get_or-range d.origin (k * d.page) (k * d.page + d.page) i x under

module _ (s : Slot) (start len : ℕ) (c d : Contents) (fits : IsSlot s) (inside : start + len ≤ size_of s) (g : IsGood s c) (partly : IsPartly (decommitting (s.base.bytes + start) len) c d) (shaped : IsShaped s.region.page s.region.len d) where
  partly_page : d.page ≡ c.page
  partly_page = shaped.same_page ∙ sym g.sound.shaped.same_page

  partly_origin : d.origin ≡ c.origin
  partly_origin =
      same_by_pages d.origin c.origin s.region.page (omega (arith, fits.sizes.page_size.at_least)) (rw shaped.origin shaped.whole) (shaped.origin ∙ sym g.sound.shaped.origin)
      (λ k below.
      let P : ℕ → ℕ → Type 0 = λ m n. slice_range d.origin (k * m) (k * m + m) ≡ slice_range c.origin (k * n) (k * n + n) in
      let same : P d.page c.page = by_page (λ p. p.origin ≡ page_origin k c) (decommitting (s.base.bytes + start) len) c d k partly refl refl in
      let first : P s.region.page c.page = subst (λ (m : ℕ). P m c.page) shaped.same_page same in
      subst (λ (n : ℕ). P s.region.page n) g.sound.shaped.same_page first)

  partly_reach : (k : ℕ) → slice_index_or d.accessible k false ≡ slice_index_or c.accessible k false
  partly_reach k = by_page (λ p. p.accessible ≡ slice_index_or c.accessible k false) (decommitting (s.base.bytes + start) len) c d k partly refl refl

  partly_colour : (k : ℕ) → slice_index_or d.colour k 0 ≡ slice_index_or c.colour k 0
  partly_colour k = by_page (λ p. p.colour ≡ slice_index_or c.colour k 0) (decommitting (s.base.bytes + start) len) c d k partly refl refl

  partly_at : (j x : ℕ) → s.base.bytes + 0 ≤ j → j < s.base.bytes + size_of s → get_or d.bytes j x ≡ get_or d.origin j x
  partly_at j x from below =
      let some : 0 < d.page = rw shaped.same_page (omega (arith, fits.sizes.page_size.at_least)) in
      let k : ℕ = j / d.page in
      let place = page_of j d.page some in
      let i : ℕ = j - j / d.page * d.page in
      let within : j - j / d.page * d.page < d.page = omega (arith, place.0, place.1) in
      let smaller : j - j / d.page * d.page < c.page = subst (λ (n : ℕ). j - j / d.page * d.page < n) partly_page within in
      let sum : j / d.page * d.page + (j - j / d.page * d.page) ≡ j = omega (arith, place.0) in
      let pages : j / d.page * d.page ≡ j / d.page * c.page = ap (λ (n : ℕ). j / d.page * n) partly_page in
      let old : Holds s 0 (size_of s) c = g.holds in
      let new : Holds s 0 (size_of s) (decommitted (s.base.bytes + start) len c) = still_holds s start len 0 (size_of s) c fits g.sound inside (omega arith) g.holds in
      let at : HoldsAt i x (page_at k d) =
      by_page (HoldsAt i x) (decommitting (s.base.bytes + start) len) c d k partly
      (to_page c (s.base.bytes + 0) (s.base.bytes + size_of s) k i x old smaller (omega (arith, sum, pages)) (omega (arith, sum, pages)))
      (to_page (decommitted (s.base.bytes + start) len c) (s.base.bytes + 0) (s.base.bytes + size_of s) k i x new smaller (omega (arith, sum, pages)) (omega (arith, sum, pages))) in
      let P : ℕ → Type 0 = λ n. get_or d.bytes n x ≡ get_or d.origin n x in
      subst P sum (from_page d k i x within at)

  partly_holds : Holds s 0 (size_of s) d
  partly_holds = same_range d.bytes d.origin (s.base.bytes + 0) (s.base.bytes + size_of s) (omega (arith, shaped.bytes, fits.sizes.inside)) (omega (arith, shaped.origin, fits.sizes.inside)) (λ j x from below. partly_at j x from below)

  partly_started : IsStarted s d
  partly_started = record {
    ready = record {
      reach = λ k from below. partly_reach k ∙ g.ready.reach k (rw partly_page at from) (rw partly_page at below);
      origin =
          let P : List ℕ → Type 0 = λ l. l ≡ placed s.base.bytes (origin_image s) l in
          subst P (sym partly_origin) g.ready.origin;
      beyond = range_within d.bytes d.origin (s.base.bytes + 0) (s.base.bytes + size_of s) (s.base.bytes + s.accessible.bytes) (s.base.bytes + size_of s)
          (omega (arith, shaped.bytes, fits.sizes.inside)) (omega (arith, shaped.origin, fits.sizes.inside)) (omega arith) (omega arith) partly_holds;
      colour = λ k inside.
          let same : IsIn s.base.bytes (size_of s) c.page k = rw partly_page at inside in
          partly_colour k ∙ g.ready.colour k same;
    };
    holds = partly_holds;
  }

partly_told : (s : Slot) (start len : ℕ) (old new : Option Contents) → IsSlot s → start + len ≤ size_of s → IfSome old (IsGood s) → MayChangePartly (decommitting (s.base.bytes + start) len) old new → IfSome new (IsShaped s.region.page s.region.len) → IfSome new (IsStarted s)
partly_told s start len None None fits inside g partly shaped = shaped
partly_told s start len None (Some d) fits inside g partly shaped = absurd partly
partly_told s start len (Some c) None fits inside g partly shaped = absurd partly
partly_told s start len (Some c) (Some d) fits inside g partly shaped = partly_started s start len c d fits inside g partly shaped

pub faulted_clean : (s : Slot) (start len : ℕ) (new : Told) → IsSlot s → IsClean s → start + len ≤ size_of s → Faulted (decommitting (s.base.bytes + start) len) s.region new → TellsShaped new → IsClean (record s { region = new })
faulted_clean s start len new fits clean inside faulted shaped =
    let P : Told → Type 0 = λ t. IsClean (record s { region = t }) in
    let page : new.page ≡ s.region.page = ap (λ (t : Told). t.page) faulted.same in
    let size : new.len ≡ s.region.len = ap (λ (t : Told). t.len) faulted.same in
    let Q : ℕ → ℕ → Type 0 = λ p l. IfSome new.contents (IsShaped p l) in
    let first : Q s.region.page new.len = subst (λ (p : ℕ). Q p new.len) page shaped in
    let shape : Q s.region.page s.region.len = subst (λ (l : ℕ). Q s.region.page l) size first in
    let started = partly_told s start len s.region.contents new.contents fits inside (good s fits clean) faulted.partly shape in
    let u : Told = record (counted (decommitting (s.base.bytes + start) len) s.region) { contents = new.contents; marks = new.marks; faults = new.faults } in
    let t : Slot = record s { region = u } in
    subst P (sym faulted.same) (record {
      not_dirty = clean.not_dirty;
      image = clean.image;
      ready = followed (IsStarted s) (IsReady t) new.contents (λ d st. record { reach = st.ready.reach; origin = st.ready.origin; beyond = st.ready.beyond; colour = st.ready.colour }) started;
      holds = followed (IsStarted s) (Holds t 0 (size_of t)) new.contents (λ d st. st.holds) started;
    })

-- The same as the code says them, whatever the call answered.
pub clean_ok : {U E : Type 0} (s : Slot) (from start len : ℕ) (new : Told) (r : Result U E) → from ≡ s.base.bytes + start → IsSlot s → IsClean s → start + len ≤ size_of s → OnOk r (new ≡ succeeded (decommitting from len) s.region) → OnOk r (IsClean (record s { region = new }))
clean_ok s from start len new (Err e) at fits clean inside ok = ok
clean_ok s from start len new (Ok x) at fits clean inside ok =
    let P : Told → Type 0 = λ t. IsClean (record s { region = t }) in
    let Q : ℕ → Type 0 = λ n. new ≡ succeeded (decommitting n len) s.region in
    subst P (sym (subst Q at ok)) (still_clean s start len fits clean inside)

pub clean_err : {U E : Type 0} (s : Slot) (from start len : ℕ) (new : Told) (r : Result U E) → from ≡ s.base.bytes + start → IsSlot s → IsClean s → start + len ≤ size_of s → OnErr r (Faulted (decommitting from len) s.region new) → TellsShaped new → OnErr r (IsClean (record s { region = new }))
clean_err s from start len new (Ok x) at fits clean inside fault shaped = fault
clean_err s from start len new (Err e) at fits clean inside fault shaped =
    let Q : ℕ → Type 0 = λ n. Faulted (decommitting n len) s.region new in
    faulted_clean s start len new fits clean inside (subst Q at fault) shaped
