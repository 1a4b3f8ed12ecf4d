-- Ranges of marked pages, each as long as it can be, and at most eight of them.
use Rattle.std.proofs.Common.{◌≡◌, ℕ, zero, suc, ◌+◌, ◌-◌, ◌*◌, ◌%◌, ◌<◌, ◌≤◌, ◌⊎◌, ◌==◌, Bool, true, false, List, [], ◌∷◌, ◌++◌, length, get_or, take, drop, refl, sym, ap, ◌∙◌, subst, arith, inl, inr, nat_lt, if◌then◌else◌, All, length-append, eqb-true, eq-eqb, ne_eqb, le-ltb, lt-ltb, ltb-true, ltb-false, take_at, drop_at, mul-le-mul_right}
use Rattle.std.proofs.Math.Nat.{mod_self}
use Rattle.pool_images.proofs.Imports.{All-nil, All-cons, cases_lt, mul-mod_left, add_whole, sub_whole}
use Rattle.pool_images.proofs.MarkedPages.{Has, RiseIn, marked_first, unmarked_first, none_from, marked_rise}
use Rattle.pool_images.specs.declared.ranges.ByteRange.{ByteRange}
use Rattle.pool_images.specs.Resets.{marked_from, with_page, runs_of, reaching, at_most_eight, at_most_one, pages_range}
use Rattle.pool_images.specs.Slots.{IsPart}

-- Ranges that begin one behind the other, from a place on.
abbrev pub RiseFrom : ℕ → List ByteRange → Type 0
RiseFrom lo [] = Unit {0}
RiseFrom lo (r ∷ rs) = (lo ≤ r.start) × RiseFrom r.start rs

weaker : (lo from : ℕ) (rs : List ByteRange) → lo ≤ from → RiseFrom from rs → RiseFrom lo rs
weaker lo from [] less rise = rise
weaker lo from (r ∷ rs) less rise = (omega (arith, less, rise.0), rise.1)

with_rises : (page k : ℕ) (rs : List ByteRange) → RiseFrom (k * page + page) rs → RiseFrom (k * page) (with_page page k rs)
with_rises page k [] rise = (omega arith, tt)
with_rises page k (r ∷ rs) rise = either (k * page + page == r.start) where
  either : (b : Bool) → RiseFrom (k * page) (if b then record { start = k * page; len = page + r.len } ∷ rs else record { start = k * page; len = page } ∷ r ∷ rs)
  either true = (omega arith, weaker (k * page) r.start rs (omega (arith, rise.0)) rise.1)
  either false = (omega arith, (omega (arith, rise.0), rise.1))

pub runs_rise : (page lo end : ℕ) (ks : List ℕ) → RiseIn lo end ks → RiseFrom (lo * page) (runs_of page ks)
runs_rise page lo end [] rise = tt
runs_rise page lo end (k ∷ ks) rise =
    let rest : RiseFrom ((k + 1) * page) (runs_of page ks) = runs_rise page (k + 1) end ks rise.2 in
    let next : (k + 1) * page ≡ k * page + page = grind arith in
    let less : lo * page ≤ k * page = mul-le-mul_right page rise.0 in
    weaker (lo * page) (k * page) (with_page page k (runs_of page ks)) less
    (with_rises page k (runs_of page ks) (subst (λ n. RiseFrom n (runs_of page ks)) next rest))

-- ranges that begin behind a page's end aren't joined with it
apart : (page k lo : ℕ) (rs : List ByteRange) → RiseFrom lo rs → k * page + page < lo → with_page page k rs ≡ record { start = k * page; len = page } ∷ rs
apart page k lo [] rise behind = refl
apart page k lo (r ∷ rs) rise behind =
    let no : (k * page + page == r.start) ≡ false = ne_eqb (k * page + page) r.start (λ e. absurd (omega (arith, e, rise.0, behind))) in
    ap (λ b. if b then record { start = k * page; len = page + r.len } ∷ rs else record { start = k * page; len = page } ∷ r ∷ rs) no

module _ (page : ℕ) (marks : List Bool) (some : 0 < page) where
  -- a run of one page
  lone : (a : ℕ) → a < length marks → get_or marks a false ≡ true → (a + 1 < length marks → get_or marks (a + 1) false ≡ false) → runs_of page (marked_from a marks) ≡ record { start = a * page; len = page } ∷ runs_of page (marked_from (a + 1) marks)
  lone a below is stops = ap (runs_of page) (marked_first marks a below is) ∙ alone (cases_lt (a + 1) (length marks)) where
    alone : (a + 1 < length marks) ⊎ (length marks ≤ a + 1) → with_page page a (runs_of page (marked_from (a + 1) marks)) ≡ record { start = a * page; len = page } ∷ runs_of page (marked_from (a + 1) marks)
    alone (inr last) =
        let none : marked_from (a + 1) marks ≡ [] = none_from marks (a + 1) last in
        subst (λ l. with_page page a (runs_of page l) ≡ record { start = a * page; len = page } ∷ runs_of page l) (sym none) refl
    alone (inl more) =
        let next : marked_from (a + 1) marks ≡ marked_from (a + 1 + 1) marks = unmarked_first marks (a + 1) more (stops more) in
        let rise : RiseFrom ((a + 1 + 1) * page) (runs_of page (marked_from (a + 1 + 1) marks)) = runs_rise page (a + 1 + 1) (length marks) (marked_from (a + 1 + 1) marks) (marked_rise (a + 1 + 1) marks (omega (arith, more))) in
        let place : (a + 1 + 1) * page ≡ a * page + page + page = grind arith in
        subst (λ l. with_page page a (runs_of page l) ≡ record { start = a * page; len = page } ∷ runs_of page l) (sym next)
        (apart page a ((a + 1 + 1) * page) (runs_of page (marked_from (a + 1 + 1) marks)) rise (omega (arith, place, some)))

  run_by : (n a : ℕ) → a + suc n ≤ length marks → ((k : ℕ) → a ≤ k → k < a + suc n → get_or marks k false ≡ true) → (a + suc n < length marks → get_or marks (a + suc n) false ≡ false) → runs_of page (marked_from a marks) ≡ record { start = a * page; len = suc n * page } ∷ runs_of page (marked_from (a + suc n) marks)
  run_by zero a fits all stops =
      let size : page ≡ 1 * page = omega arith in
      subst (λ m. runs_of page (marked_from a marks) ≡ record { start = a * page; len = m } ∷ runs_of page (marked_from (a + 1) marks)) size
      (lone a (omega (arith, fits)) (all a (omega arith) (omega arith)) stops)
  run_by (suc n) a fits all stops =
      let place : a + 1 + suc n ≡ a + suc (suc n) = omega arith in
      let stops' : a + 1 + suc n < length marks → get_or marks (a + 1 + suc n) false ≡ false = λ below. ap (λ k. get_or marks k false) place ∙ stops (omega (arith, place, below)) in
      let rest : runs_of page (marked_from (a + 1) marks) ≡ record { start = (a + 1) * page; len = suc n * page } ∷ runs_of page (marked_from (a + 1 + suc n) marks) =
      run_by n (a + 1) (omega (arith, fits)) (λ k from below. all k (omega (arith, from)) (omega (arith, below))) stops' in
      let next : a * page + page ≡ (a + 1) * page = grind arith in
      let joins : (a * page + page == (a + 1) * page) ≡ true = eq-eqb (a * page + page) ((a + 1) * page) next in
      let size : page + suc n * page ≡ suc (suc n) * page = omega arith in
      ap (runs_of page) (marked_first marks a (omega (arith, fits)) (all a (omega arith) (omega arith)))
      ∙ ap (with_page page a) rest
      ∙ ap (λ b. if b then record { start = a * page; len = page + suc n * page } ∷ runs_of page (marked_from (a + 1 + suc n) marks) else record { start = a * page; len = page } ∷ record { start = (a + 1) * page; len = suc n * page } ∷ runs_of page (marked_from (a + 1 + suc n) marks)) joins
      ∙ ap (λ m. record { start = a * page; len = m } ∷ runs_of page (marked_from (a + 1 + suc n) marks)) size
      ∙ ap (λ m. record { start = a * page; len = suc (suc n) * page } ∷ runs_of page (marked_from m marks)) place

  -- the first run of marked pages is the first range
  pub run_first : (a b : ℕ) → a < b → b ≤ length marks → ((k : ℕ) → a ≤ k → k < b → get_or marks k false ≡ true) → (b < length marks → get_or marks b false ≡ false) → runs_of page (marked_from a marks) ≡ pages_range page a b ∷ runs_of page (marked_from b marks)
  run_first a b up fits all stops =
      let n : ℕ = b - a - 1 in
      let size : suc (b - a - 1) ≡ b - a = omega (arith, up) in
      let place : a + suc (b - a - 1) ≡ b = omega (arith, up) in
      run_by (b - a - 1) a (omega (arith, place, fits)) (λ k from below. all k from (omega (arith, place, below))) (λ below. ap (λ k. get_or marks k false) place ∙ stops (omega (arith, place, below)))
      ∙ ap (λ m. record { start = a * page; len = m * page } ∷ runs_of page (marked_from (a + suc (b - a - 1)) marks)) size
      ∙ ap (λ m. record { start = a * page; len = (b - a) * page } ∷ runs_of page (marked_from m marks)) place

-- fewer than eight ranges are left as they are
pub few : (end : ℕ) (rs : List ByteRange) → length rs ≤ 8 → at_most_eight end rs ≡ rs
few end rs most =
    let no : nat_lt 8 (length rs) ≡ false = le-ltb 8 (length rs) most in
    ap (λ b. if b then take 7 rs ++ reaching end (drop 7 rs) else rs) no

-- seven ranges, and one of those that follow
pub eighth : (end : ℕ) (rs others : List ByteRange) → length rs ≡ 7 → rs ++ at_most_one end others ≡ at_most_eight end (rs ++ others)
eighth end rs others seven = either (nat_lt 1 (length others)) refl where
  either : (b : Bool) → nat_lt 1 (length others) ≡ b → rs ++ (if b then reaching end others else others) ≡ at_most_eight end (rs ++ others)
  either true more =
      let yes : nat_lt 8 (length (rs ++ others)) ≡ true = lt-ltb 8 (length (rs ++ others)) (omega (arith, length-append rs others, seven, ltb-true 1 (length others) more)) in
      let front : take 7 (rs ++ others) ≡ rs = take_at rs others 7 seven in
      let back : drop 7 (rs ++ others) ≡ others = drop_at rs others 7 seven in
      sym (ap (λ b. if b then take 7 (rs ++ others) ++ reaching end (drop 7 (rs ++ others)) else rs ++ others) yes
      ∙ ap (λ l. l ++ reaching end (drop 7 (rs ++ others))) front
      ∙ ap (λ l. rs ++ reaching end l) back)
  either false less =
      sym (few end (rs ++ others) (omega (arith, length-append rs others, seven, ltb-false 1 (length others) less)))

-- A range covers bytes.
abbrev pub Covers : List ByteRange → ℕ → ℕ → Type 0
Covers [] a b = ⊥
Covers (r ∷ rs) a b = ((r.start ≤ a) × (b ≤ r.start + r.len)) ⊎ Covers rs a b

with_covers : (page k a b : ℕ) (rs : List ByteRange) → (((k * page ≤ a) × (b ≤ k * page + page)) ⊎ Covers rs a b) → Covers (with_page page k rs) a b
with_covers page k a b [] (inl here) = inl here
with_covers page k a b [] (inr there) = absurd there
with_covers page k a b (r ∷ rs) covered = either (k * page + page == r.start) refl covered where
  either : (v : Bool) → (k * page + page == r.start) ≡ v → (((k * page ≤ a) × (b ≤ k * page + page)) ⊎ Covers (r ∷ rs) a b) → Covers (if v then record { start = k * page; len = page + r.len } ∷ rs else record { start = k * page; len = page } ∷ r ∷ rs) a b
  either true is (inl here) = inl (here.0, omega (arith, here.1))
  either true is (inr (inl next)) =
      let touches : k * page + page ≡ r.start = eqb-true (k * page + page) r.start is in
      inl (omega (arith, touches, next.0), omega (arith, touches, next.1))
  either true is (inr (inr later)) = inr later
  either false is (inl here) = inl here
  either false is (inr there) = inr there

-- the ranges cover each page
pub runs_cover : (page k : ℕ) (ks : List ℕ) → Has k ks → Covers (runs_of page ks) (k * page) (k * page + page)
runs_cover page k [] has = absurd has
runs_cover page k (j ∷ ks) (inl is) =
    let same : k * page ≡ j * page = ap (λ n. n * page) is in
    with_covers page j (k * page) (k * page + page) (runs_of page ks) (inl (omega (arith, same), omega (arith, same)))
runs_cover page k (j ∷ ks) (inr has) = with_covers page j (k * page) (k * page + page) (runs_of page ks) (inr (runs_cover page k ks has))

covers_behind : (lo a b : ℕ) (rs : List ByteRange) → RiseFrom lo rs → Covers rs a b → lo ≤ a
covers_behind lo a b [] rise covered = absurd covered
covers_behind lo a b (r ∷ rs) rise (inl here) = omega (arith, rise.0, here.0)
covers_behind lo a b (r ∷ rs) rise (inr there) = omega (arith, rise.0, covers_behind r.start a b rs rise.1 there)

reaching_covers : (end lo a b : ℕ) (rs : List ByteRange) → RiseFrom lo rs → b ≤ end → a ≤ b → Covers rs a b → Covers (reaching end rs) a b
reaching_covers end lo a b [] rise within up covered = covered
reaching_covers end lo a b (r ∷ rs) rise within up (inl here) = inl (here.0, omega (arith, here.0, within, up))
reaching_covers end lo a b (r ∷ rs) rise within up (inr there) =
    let from : r.start ≤ a = covers_behind r.start a b rs rise.1 there in
    inl (from, omega (arith, from, within, up))

cut_covers : (n end lo a b : ℕ) (rs : List ByteRange) → RiseFrom lo rs → b ≤ end → a ≤ b → Covers rs a b → Covers (take n rs ++ reaching end (drop n rs)) a b
cut_covers zero end lo a b rs rise within up covered = reaching_covers end lo a b rs rise within up covered
cut_covers (suc n) end lo a b [] rise within up covered = covered
cut_covers (suc n) end lo a b (r ∷ rs) rise within up (inl here) = inl here
cut_covers (suc n) end lo a b (r ∷ rs) rise within up (inr there) = inr (cut_covers n end r.start a b rs rise.1 within up there)

-- and still do where the eighth reaches to the end
pub eight_cover : (end lo a b : ℕ) (rs : List ByteRange) → RiseFrom lo rs → b ≤ end → a ≤ b → Covers rs a b → Covers (at_most_eight end rs) a b
eight_cover end lo a b rs rise within up covered = either (nat_lt 8 (length rs)) where
  either : (v : Bool) → Covers (if v then take 7 rs ++ reaching end (drop 7 rs) else rs) a b
  either true = cut_covers 7 end lo a b rs rise within up covered
  either false = covered

-- Each range is whole pages below an end.
abbrev pub Parts : ℕ → ℕ → List ByteRange → Type 0
Parts page end [] = Unit {0}
Parts page end (r ∷ rs) = IsPart page end r × Parts page end rs

with_parts : (page end k : ℕ) (rs : List ByteRange) → k * page + page ≤ end → Parts page end rs → Parts page end (with_page page k rs)
with_parts page end k [] within parts = (record { start = mul-mod_left k page; len = mod_self page; inside = within }, tt)
with_parts page end k (r ∷ rs) within parts = either (k * page + page == r.start) refl where
  either : (v : Bool) → (k * page + page == r.start) ≡ v → Parts page end (if v then record { start = k * page; len = page + r.len } ∷ rs else record { start = k * page; len = page } ∷ r ∷ rs)
  either true is =
      let touches : k * page + page ≡ r.start = eqb-true (k * page + page) r.start is in
      (record { start = mul-mod_left k page; len = add_whole page r.len page (mod_self page) parts.0.len; inside = omega (arith, touches, parts.0.inside) }, parts.1)
  either false is = (record { start = mul-mod_left k page; len = mod_self page; inside = within }, parts)

pub runs_parts : (page lo end : ℕ) (ks : List ℕ) → RiseIn lo end ks → Parts page (end * page) (runs_of page ks)
runs_parts page lo end [] rise = tt
runs_parts page lo end (k ∷ ks) rise =
    let next : (k + 1) * page ≡ k * page + page = grind arith in
    let less : (k + 1) * page ≤ end * page = mul-le-mul_right page (omega (arith, rise.1)) in
    with_parts page (end * page) k (runs_of page ks) (omega (arith, next, less)) (runs_parts page (k + 1) end ks rise.2)

reaching_parts : (page end : ℕ) (rs : List ByteRange) → end % page ≡ 0 → Parts page end rs → Parts page end (reaching end rs)
reaching_parts page end [] whole parts = tt
reaching_parts page end (r ∷ rs) whole parts = (record { start = parts.0.start; len = sub_whole end r.start page whole parts.0.start; inside = omega (arith, parts.0.inside) }, tt)

cut_parts : (n page end : ℕ) (rs : List ByteRange) → end % page ≡ 0 → Parts page end rs → Parts page end (take n rs ++ reaching end (drop n rs))
cut_parts zero page end rs whole parts = reaching_parts page end rs whole parts
cut_parts (suc n) page end [] whole parts = tt
cut_parts (suc n) page end (r ∷ rs) whole parts = (parts.0, cut_parts n page end rs whole parts.1)

pub eight_parts : (page end : ℕ) (rs : List ByteRange) → end % page ≡ 0 → Parts page end rs → Parts page end (at_most_eight end rs)
eight_parts page end rs whole parts = either (nat_lt 8 (length rs)) where
  either : (v : Bool) → Parts page end (if v then take 7 rs ++ reaching end (drop 7 rs) else rs)
  either true = cut_parts 7 page end rs whole parts
  either false = parts

-- so each is a part of a slot that is as large
pub parts_all : (page end size : ℕ) (rs : List ByteRange) → end ≤ size → Parts page end rs → All (IsPart page size) rs
parts_all page end size [] within parts = All-nil (IsPart page size)
parts_all page end size (r ∷ rs) within parts =
    All-cons (IsPart page size) r rs (record { start = parts.0.start; len = parts.0.len; inside = omega (arith, within, parts.0.inside) }) (parts_all page end size rs within parts.1)
