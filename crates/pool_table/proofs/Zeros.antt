-- Zeros of a region that a table may have, and what calls on the region leave of them.
use Rattle.std.proofs.Common.{◌≡◌, ℕ, ◌+◌, ◌-◌, ◌*◌, ◌/◌, ◌<◌, ◌≤◌, ◌⊎◌, false, List, length, get_or, replicate, slice_range, Option, Some, None, Result, Ok, Err, refl, sym, ap, ◌∙◌, subst, arith, inl, inr, IfSome, option_map, slice_index_or, OnOk, OnErr}
use Rattle.pool_table.proofs.Imports.{mul-le-mul_right, length-replicate, get_or-replicate, same_lists, cases_lt, Contents, IsShaped, CanReach, put, page_at, page_origin, Page, written, decommitted, Count, Told, TellsShaped, IsRange, Faulted, IsPartly, MayChangePartly, succeeded, decommitting, PageFault, page_of, length-put, length-range, get_or-range, get_or-put_below, get_or-put_in, get_or-put_above, same_at, same_by_pages}
use Rattle.pool_table.specs.Elements.{ElementKind, Element, width, empty}
use Rattle.pool_table.specs.Tables.{TableState, IsTable, IsRoom, Rewrites, Empties, elements_in}
use Rattle.pool_table.proofs.Kept.{after_write, shaped_as, table_of}
use Rattle.pool_table.proofs.Listed.{elements_grown}
use Rattle.pool_table.proofs.Words.{zero_is_empty}

pub zero_at : (xs : List ℕ) (a b i d : ℕ) → slice_range xs a b ≡ replicate (b - a) 0 → a ≤ i → i < b → get_or xs i d ≡ 0
zero_at xs a b i d zeros from below =
    let place : a + (i - a) ≡ i = omega arith in
    ap (λ (k : ℕ). get_or xs k d) (sym place)
    ∙ sym (get_or-range xs a b (i - a) d (omega arith))
    ∙ ap (λ (ys : List ℕ). get_or ys (i - a) d) zeros
    ∙ get_or-replicate (b - a) (i - a) 0 d (omega arith)

pub zeros_from : (xs : List ℕ) (a b : ℕ) → b ≤ length xs → ((i d : ℕ) → a ≤ i → i < b → get_or xs i d ≡ 0) → slice_range xs a b ≡ replicate (b - a) 0
zeros_from xs a b fits each =
    let long : length (slice_range xs a b) ≡ b - a = length-range xs a b fits in
    same_lists (slice_range xs a b) (replicate (b - a) 0) (long ∙ sym (length-replicate {A = ℕ} (b - a) 0))
    (λ k d short.
    let below : k < b - a = omega (arith, long) in
    get_or-range xs a b k d below ∙ each (a + k) d (omega arith) (omega (arith, below)) ∙ sym (get_or-replicate (b - a) k 0 d below))

-- zeros that are put among others
put_zero : (start : ℕ) (ys xs : List ℕ) (i d : ℕ) → start + length ys ≤ length xs → ((j e : ℕ) → j < length ys → get_or ys j e ≡ 0) → get_or xs i d ≡ 0 → get_or (put start ys xs) i d ≡ 0
put_zero start ys xs i d fits zeros zero =
    elim (cases_lt i start) [
      | inl under ↦ get_or-put_below start ys xs i d (omega (arith, fits)) under ∙ zero
      | inr over ↦
          elim (cases_lt i (start + length ys)) [
            | inl under ↦ get_or-put_in start ys xs i d (omega (arith, fits)) over under ∙ zeros (i - start) d (omega (arith, under, over))
            | inr above ↦ get_or-put_above start ys xs i d (omega (arith, fits)) above ∙ zero
          ]
    ]

pub zeros_put : (start : ℕ) (ys xs : List ℕ) (a b : ℕ) → start + length ys ≤ length xs → b ≤ length xs → ((j e : ℕ) → j < length ys → get_or ys j e ≡ 0) → slice_range xs a b ≡ replicate (b - a) 0 → slice_range (put start ys xs) a b ≡ replicate (b - a) 0
zeros_put start ys xs a b fits inside zeros already =
    zeros_from (put start ys xs) a b (omega (arith, length-put start ys xs fits, inside)) (λ i d from below. put_zero start ys xs i d fits zeros (zero_at xs a b i d already from below))

-- what stays of a region's room where its pages, their bytes aside, are as before
zeroed_by : (start n page len from to : ℕ) (c : Contents) → start + n ≤ len → to ≤ len → IsRoom page len from to c → IsShaped page len (written start (replicate n 0) c) → IsRoom page len from to (written start (replicate n 0) c)
zeroed_by start n page len from to c inside fits room shaped =
    let long : length (replicate {A = ℕ} n 0) ≡ n = length-replicate n 0 in
    record {
      shaped = shaped;
      reach = room.reach;
      origin = room.origin;
      zeros = zeros_put start (replicate n 0) c.bytes from to (omega (arith, long, inside, room.shaped.bytes)) (omega (arith, fits, room.shaped.bytes)) (λ j e below. get_or-replicate n j 0 e (omega (arith, below, long))) room.zeros;
    }

-- a table of whose region bytes became zeros is one still
pub zeroed_still : (t : TableState) (start n : ℕ) (r : Told) → IsTable t → Rewrites start (replicate n 0) t.region r → TellsShaped r → start + n ≤ t.region.len → IsTable (record t { region = r })
zeroed_still t start n r is rewrites shaped inside =
    let len : r.len ≡ t.region.len = ap (λ (x : Told). x.len) rewrites in
    let page : r.page ≡ t.region.page = ap (λ (x : Told). x.page) rewrites in
    let Room : Contents → Type 0 = IsRoom t.region.page t.region.len (t.size * width t.kind) (t.maximum * width t.kind) in
    table_of t r page len is
    (after_write start (replicate n 0) t.region.page t.region.len Room Room t.region r rewrites (λ c room s. zeroed_by start n t.region.page t.region.len (t.size * width t.kind) (t.maximum * width t.kind) c inside is.room room s) is.contents (shaped_as start (replicate n 0) t.region r rewrites shaped))

empties_by : (kind : ElementKind) (size page len to : ℕ) (o : Option Contents) → size * width kind ≤ len → IfSome o (IsRoom page len (size * width kind) to) → option_map (λ c. elements_in kind size c.bytes) (option_map (written 0 (replicate (size * width kind) 0)) o) ≡ option_map (λ es. replicate size (empty kind)) (option_map (λ c. elements_in kind size c.bytes) o)
empties_by kind size page len to None fits room = refl
empties_by kind size page len to (Some c) fits room =
    let n : ℕ = size * width kind in
    let zeros : List ℕ = replicate n 0 in
    let long : length zeros ≡ n = length-replicate {A = ℕ} n 0 in
    let all : length (put 0 zeros c.bytes) ≡ length c.bytes = length-put 0 zeros c.bytes (omega (arith, long, fits, room.shaped.bytes)) in
    let each : slice_range (put 0 zeros c.bytes) (0 * width kind) n ≡ replicate (n - 0 * width kind) 0 =
    zeros_from (put 0 zeros c.bytes) (0 * width kind) n (omega (arith, all, fits, room.shaped.bytes))
    (λ i d from below. get_or-put_in 0 zeros c.bytes i d (omega arith) (omega arith) (omega (arith, below, long)) ∙ get_or-replicate n (i - 0) 0 d (omega (arith, below))) in
    let sum : 0 + size ≡ size = omega arith in
    let E : ℕ → Type 0 = λ m. elements_in kind m (put 0 zeros c.bytes) ≡ replicate size (empty kind) in
    ap (λ (es : List Element). Some es) (subst E sum (elements_grown kind 0 size size (put 0 zeros c.bytes) zero_is_empty (omega arith) (omega (arith, all, fits, room.shaped.bytes)) each))

pub emptied_table : (t : TableState) (r : Told) → IsTable t → Rewrites 0 (replicate (t.size * width t.kind) 0) t.region r → Empties t (record t { region = r })
emptied_table t r is rewrites = record {
  same = refl;
  bytes = rewrites;
  elements = ap (λ (x : Told). option_map (λ c. elements_in t.kind t.size c.bytes) x.contents) rewrites ∙ empties_by t.kind t.size t.region.page t.region.len (t.maximum * width t.kind) t.region.contents (omega (arith, is.room, mul-le-mul_right (width t.kind) is.within)) is.contents;
}

-- a region that pages go back to zeros in, as a decommit leaves it
decommitted_room : (start n page len from to : ℕ) (c : Contents) → start + n ≤ len → to ≤ len → IsRoom page len from to c → IsShaped page len (decommitted start n c) → IsRoom page len from to (decommitted start n c)
decommitted_room start n page len from to c inside fits room shaped =
    let ys : List ℕ = slice_range c.origin start (start + n) in
    let long : length ys ≡ n = length-range c.origin start (start + n) (omega (arith, inside, room.shaped.origin)) ∙ (let k : start + n - start ≡ n = omega arith in k) in
    record {
      shaped = shaped;
      reach = room.reach;
      origin = room.origin;
      zeros = zeros_put start ys c.bytes from to (omega (arith, long, inside, room.shaped.bytes)) (omega (arith, fits, room.shaped.bytes))
          (λ j e below.
          get_or-range c.origin start (start + n) j e (omega (arith, below, long))
          ∙ ap (λ (xs : List ℕ). get_or xs (start + j) e) room.origin
          ∙ get_or-replicate len (start + j) 0 e (omega (arith, below, long, inside))) room.zeros;
    }

-- the same where a decommit failed: each page is as before, or as a decommit leaves it
module _ (start n page len from to : ℕ) (c d : Contents) (some : 0 < page) (inside : start + n ≤ len) (fits : to ≤ len) (room : IsRoom page len from to c) (shaped : IsShaped page len d) (partly : IsPartly (decommitting start n) c d) where
  abbrev after : Contents
  after = decommitted start n c

  one_page : (k : ℕ) → (page_at k d ≡ page_at k c) ⊎ (page_at k d ≡ page_at k after)
  one_page k =
      elim (cases_lt (k * c.page) start) [
        | inl under ↦ inl (partly.outside k (λ within. omega (arith, within.from, under)))
        | inr over ↦
            elim (cases_lt (k * c.page) (start + n)) [
              | inl below ↦ partly.inside k (record { from = over; below = below })
              | inr above ↦ inl (partly.outside k (λ within. omega (arith, within.below, above)))
            ]
      ]

  same_access : (k : ℕ) → slice_index_or d.accessible k false ≡ slice_index_or c.accessible k false
  same_access k = elim (one_page k) [ inl same ↦ ap (λ (p : Page). p.accessible) same | inr gone ↦ ap (λ (p : Page). p.accessible) gone ]

  reach_partly : CanReach 0 to d
  reach_partly = λ k first last.
      let P : ℕ → Type 0 = λ p. 0 / p ≤ k in
      let Q : ℕ → Type 0 = λ p. k * p < 0 + to in
      let same : d.page ≡ c.page = shaped.same_page ∙ sym room.shaped.same_page in
      same_access k ∙ room.reach k (subst P same first) (subst Q same last)

  abbrev bytes_at : List ℕ → ℕ → ℕ → List ℕ
  bytes_at xs k p = slice_range xs (k * p) (k * p + p)

  origin_at : (k : ℕ) → bytes_at d.origin k page ≡ bytes_at (replicate len 0) k page
  origin_at k =
      let whole : page_origin k d ≡ page_origin k c = elim (one_page k) [ inl same ↦ ap (λ (p : Page). p.origin) same | inr gone ↦ ap (λ (p : Page). p.origin) gone ] in
      ap (λ (p : ℕ). bytes_at d.origin k p) (sym shaped.same_page) ∙ whole ∙ ap (λ (p : ℕ). bytes_at c.origin k p) room.shaped.same_page ∙ ap (λ (xs : List ℕ). bytes_at xs k page) room.origin

  origin_partly : d.origin ≡ replicate len 0
  origin_partly =
      let all : length (replicate {A = ℕ} len 0) ≡ len = length-replicate len 0 in
      same_by_pages d.origin (replicate len 0) page some (rw shaped.origin shaped.whole) (shaped.origin ∙ sym all) (λ k below. origin_at k)

  zero_partly : (i e : ℕ) → from ≤ i → i < to → get_or d.bytes i e ≡ 0
  zero_partly i e first last =
      let k : ℕ = i / page in
      let at = page_of i page some in
      let zero : get_or c.bytes i e ≡ 0 = zero_at c.bytes from to i e room.zeros first last in
      let ys : List ℕ = slice_range c.origin start (start + n) in
      let count : start + n - start ≡ n = omega arith in
      let long : length ys ≡ n = length-range c.origin start (start + n) (omega (arith, inside, room.shaped.origin)) ∙ count in
      let gone_zero : get_or after.bytes i e ≡ 0 =
      put_zero start ys c.bytes i e (omega (arith, long, inside, room.shaped.bytes))
      (λ j f below.
      get_or-range c.origin start (start + n) j f (omega (arith, below, long))
      ∙ ap (λ (xs : List ℕ). get_or xs (start + j) f) room.origin
      ∙ get_or-replicate len (start + j) 0 f (omega (arith, below, long, inside))) zero in
      elim (one_page k) [
        | inl same ↦
            let here : bytes_at d.bytes k page ≡ bytes_at c.bytes k page =
            ap (λ (p : ℕ). bytes_at d.bytes k p) (sym shaped.same_page) ∙ ap (λ (p : Page). p.bytes) same ∙ ap (λ (p : ℕ). bytes_at c.bytes k p) room.shaped.same_page in
            same_at d.bytes c.bytes (k * page) (k * page + page) i e here at.0 at.1 ∙ zero
        | inr gone ↦
            let here : bytes_at d.bytes k page ≡ bytes_at after.bytes k page =
            ap (λ (p : ℕ). bytes_at d.bytes k p) (sym shaped.same_page) ∙ ap (λ (p : Page). p.bytes) gone ∙ ap (λ (p : ℕ). bytes_at after.bytes k p) room.shaped.same_page in
            same_at d.bytes after.bytes (k * page) (k * page + page) i e here at.0 at.1 ∙ gone_zero
      ]

  partly_room : IsRoom page len from to d
  partly_room = record {
    shaped = shaped;
    reach = reach_partly;
    origin = origin_partly;
    zeros = zeros_from d.bytes from to (omega (arith, shaped.bytes, fits)) zero_partly;
  }

room_partly : (start n page len from to : ℕ) (a b : Option Contents) → 0 < page → start + n ≤ len → to ≤ len → IfSome a (IsRoom page len from to) → IfSome b (IsShaped page len) → MayChangePartly (decommitting start n) a b → IfSome b (IsRoom page len from to)
room_partly start n page len from to None None some inside fits room shaped partly = room
room_partly start n page len from to None (Some d) some inside fits room shaped partly = absurd partly
room_partly start n page len from to (Some c) None some inside fits room shaped partly = absurd partly
room_partly start n page len from to (Some c) (Some d) some inside fits room shaped partly = partly_room start n page len from to c d some inside fits room shaped partly

room_decommitted : (start n page len from to : ℕ) (o : Option Contents) → start + n ≤ len → to ≤ len → IfSome o (IsRoom page len from to) → IfSome (option_map (decommitted start n) o) (IsShaped page len) → IfSome (option_map (decommitted start n) o) (IsRoom page len from to)
room_decommitted start n page len from to None inside fits room shaped = room
room_decommitted start n page len from to (Some c) inside fits room shaped = decommitted_room start n page len from to c inside fits room shaped

shaped_at : (r : Told) (page len : ℕ) → r.page ≡ page → r.len ≡ len → TellsShaped r → IfSome r.contents (IsShaped page len)
shaped_at r page len first second shaped =
    let S : ℕ → ℕ → Type 0 = λ p l. IfSome r.contents (IsShaped p l) in
    subst (λ (l : ℕ). S page l) second (subst (λ (p : ℕ). S p r.len) first shaped)

decommitted_ok : (t : TableState) (start n : ℕ) (r : Told) → IsTable t → start + n ≤ t.region.len → r ≡ succeeded (decommitting start n) t.region → TellsShaped r → IsTable (record t { region = r })
decommitted_ok t start n r is inside done shaped =
    let page : r.page ≡ t.region.page = ap (λ (x : Told). x.page) done in
    let len : r.len ≡ t.region.len = ap (λ (x : Told). x.len) done in
    let contents : r.contents ≡ option_map (decommitted start n) t.region.contents = ap (λ (x : Told). x.contents) done in
    let S : Option Contents → Type 0 = λ o. IfSome o (IsShaped t.region.page t.region.len) in
    let R : Option Contents → Type 0 = λ o. IfSome o (IsRoom t.region.page t.region.len (t.size * width t.kind) (t.maximum * width t.kind)) in
    table_of t r page len is (subst R (sym contents) (room_decommitted start n t.region.page t.region.len (t.size * width t.kind) (t.maximum * width t.kind) t.region.contents inside is.room is.contents (subst S contents (shaped_at r t.region.page t.region.len page len shaped))))

decommitted_err : (t : TableState) (start n : ℕ) (r : Told) → IsTable t → start + n ≤ t.region.len → Faulted (decommitting start n) t.region r → TellsShaped r → IsTable (record t { region = r })
decommitted_err t start n r is inside faulted shaped =
    let page : r.page ≡ t.region.page = ap (λ (x : Told). x.page) faulted.same in
    let len : r.len ≡ t.region.len = ap (λ (x : Told). x.len) faulted.same in
    table_of t r page len is (room_partly start n t.region.page t.region.len (t.size * width t.kind) (t.maximum * width t.kind) t.region.contents r.contents is.page inside is.room is.contents (shaped_at r t.region.page t.region.len page len shaped) faulted.partly)

-- a table of whose region pages were decommitted, or not, is one still
pub decommitted_still : (t : TableState) (start len : Count) (r : Told) (result : Result (Unit {0}) PageFault) → IsTable t → IsRange start len t.region → OnOk result (r ≡ succeeded (decommitting start.bytes len.bytes) t.region) → OnErr result (Faulted (decommitting start.bytes len.bytes) t.region r) → TellsShaped r → IsTable (record t { region = r })
decommitted_still t start len r (Ok u) is range ok err shaped = decommitted_ok t start.bytes len.bytes r is range.inside ok shaped
decommitted_still t start len r (Err e) is range ok err shaped = decommitted_err t start.bytes len.bytes r is range.inside err shaped
