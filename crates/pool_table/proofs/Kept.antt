-- What stays of a table's region as bytes of it are written.
use Rattle.std.proofs.Common.{◌≡◌, ℕ, ◌+◌, ◌-◌, ◌*◌, ◌/◌, ◌%◌, ◌<◌, ◌≤◌, Bool, true, List, [], ◌++◌, length, take, drop, get_or, replicate, slice_range, Option, Some, None, refl, sym, ap, ◌∙◌, subst, arith, inl, inr, IfSome, option_map}
use Rattle.pool_table.proofs.Imports.{mul-le-mul_left, mul-le-mul_right, div-mul-le_self, lt-mul-div-succ, cases_lt, cases_eq, length-append, length-replicate, get_or-replicate, same_lists, take-append-drop, le-div, Contents, IsShaped, CanReach, put, put_all, touched, touched_marked, written, Told, TellsMarks, TellsShaped, overwritten, touched_some, touched_fit, length-put, get_or-put_below, get_or-put_in, get_or-put_above, put-put, range-put_above}
use Rattle.pool_table.specs.Elements.{width}
use Rattle.pool_table.specs.Tables.{TableState, Rewrites, IsRoom, IsTable}

reach_written : (at from n : ℕ) (new : List ℕ) (o : Option Contents) → IfSome o (CanReach from n) → IfSome (option_map (written at new) o) (CanReach from n)
reach_written at from n new None reach = reach
reach_written at from n new (Some c) reach = reach

-- what could be reached still can
pub reach_still : (at from n : ℕ) (new : List ℕ) (old after : Told) → Rewrites at new old after → IfSome old.contents (CanReach from n) → IfSome after.contents (CanReach from n)
reach_still at from n new old after is reach =
    let R : Told → Type 0 = λ t. IfSome t.contents (CanReach from n) in
    subst R (sym is) (reach_written at from n new old.contents reach)

-- and so can each part of it
pub reach_part : (at n from size page len : ℕ) (o : Option Contents) → 0 < page → from + size ≤ n → IfSome o (IsShaped page len) → IfSome o (CanReach at n) → IfSome o (CanReach (at + from) size)
reach_part at n from size page len None some inside shaped reach = reach
reach_part at n from size page len (Some c) some inside shaped reach = λ k first last.
    let positive : 0 < c.page = rw shaped.same_page some in
    let before : at / c.page ≤ (at + from) / c.page = le-div (at / c.page) (at + from) c.page positive (omega (arith, div-mul-le_self at c.page)) in
    reach k (omega (arith, before, first)) (omega (arith, last, inside))

-- elements that are all marked alike, and the others
module _ {X : Type 0} (i n k : ℕ) (x d : X) (xs : List X) (fits : i + n ≤ length xs) where
  marked : i ≤ k → k < i + n → get_or (put_all i n x xs) k d ≡ x
  marked from below = get_or-put_in i (replicate n x) xs k d (omega (arith, fits)) from (omega (arith, below, length-replicate n x)) ∙ get_or-replicate n (k - i) x d (omega (arith, from, below))

  marked_above : i + n ≤ k → get_or (put_all i n x xs) k d ≡ get_or xs k d
  marked_above above = get_or-put_above i (replicate n x) xs k d (omega (arith, fits)) (omega (arith, above, length-replicate n x))

  marked_below : k < i → get_or (put_all i n x xs) k d ≡ get_or xs k d
  marked_below below = get_or-put_below i (replicate n x) xs k d (omega (arith, fits)) below

-- two ranges with the same mark that leave nothing between them are one
join_marks : {X : Type 0} (i n j l m : ℕ) (x : X) (xs : List X) → i ≤ j → j ≤ i + n → i + n ≤ j + l → j + l ≡ i + m → j + l ≤ length xs → put_all j l x (put_all i n x xs) ≡ put_all i m x xs
join_marks i n j l m x xs order next over sum fits =
    let first : length (put_all i n x xs) ≡ length xs = length-put i (replicate n x) xs (omega (arith, length-replicate n x, over, fits)) in
    let both : length (put_all j l x (put_all i n x xs)) ≡ length xs = length-put j (replicate l x) (put_all i n x xs) (omega (arith, length-replicate l x, first, fits)) ∙ first in
    let one : length (put_all i m x xs) ≡ length xs = length-put i (replicate m x) xs (omega (arith, length-replicate m x, sum, fits)) in
    let inner : i + n ≤ length xs = omega (arith, over, fits) in
    let outer : j + l ≤ length (put_all i n x xs) = omega (arith, first, fits) in
    let all : i + m ≤ length xs = omega (arith, sum, fits) in
    same_lists (put_all j l x (put_all i n x xs)) (put_all i m x xs) (both ∙ sym one)
    (λ k d inside.
    elim (cases_lt k i) [
      | inl before ↦ marked_below j l k x d (put_all i n x xs) outer (omega (arith, before, order)) ∙ marked_below i n k x d xs inner before ∙ sym (marked_below i m k x d xs all before)
      | inr from ↦
          elim (cases_lt k (j + l)) [
            | inl below ↦
                elim (cases_lt k j) [
                  | inl early ↦ marked_below j l k x d (put_all i n x xs) outer early ∙ marked i n k x d xs inner from (omega (arith, early, next)) ∙ sym (marked i m k x d xs all from (omega (arith, below, sum)))
                  | inr late ↦ marked j l k x d (put_all i n x xs) outer late below ∙ sym (marked i m k x d xs all from (omega (arith, below, sum)))
                ]
            | inr above ↦ marked_above j l k x d (put_all i n x xs) outer above ∙ marked_above i n k x d xs inner (omega (arith, over, above)) ∙ sym (marked_above i m k x d xs all (omega (arith, sum, above)))
          ]
    ])

put_none : {X : Type 0} (i : ℕ) (xs : List X) → put i [] xs ≡ xs
put_none i xs =
    let place : i + 0 ≡ i = omega arith in
    ap (λ (n : ℕ). take i xs ++ drop n xs) place ∙ take-append-drop i xs

-- the next place lies on the same page or on the next
next_page : (page n : ℕ) → 0 < page → (n + 1) / page ≤ n / page + 1
next_page page n some =
    elim (cases_lt (n / page + 1) ((n + 1) / page)) [
      | inl more ↦ let step : n / page + 2 ≤ (n + 1) / page = omega arith in absurd (omega (arith, mul-le-mul_left page step, lt-mul-div-succ n some, div-mul-le_self (n + 1) page, some))
      | inr less ↦ less
    ]

page_order : (page m n : ℕ) → 0 < page → m ≤ n → m / page ≤ n / page
page_order page m n some order = le-div (m / page) n page some (omega (arith, order, div-mul-le_self m page))

-- The pages that bytes touch, and those that the bytes behind them touch, are those that both touch.
touched_more : (page len i m k : ℕ) (marks : List Bool) → 0 < page → len % page ≡ 0 → length marks ≡ len / page → i + m + k ≤ len → put_all ((i + m) / page) (touched page (i + m) k) true (put_all (i / page) (touched page i m) true marks) ≡ put_all (i / page) (touched page i (m + k)) true marks
touched_more page len i m k marks some whole long fits =
    elim (cases_eq k 0) [
      | inl none ↦
          let Both : ℕ → Type 0 = λ n. put_all ((i + m) / page) (touched page (i + m) n) true (put_all (i / page) (touched page i m) true marks) ≡ put_all (i / page) (touched page i (m + n)) true marks in
          let all : m + 0 ≡ m = omega arith in
          subst Both (sym none) (put_none ((i + m) / page) (put_all (i / page) (touched page i m) true marks) ∙ ap (λ (n : ℕ). put_all (i / page) (touched page i n) true marks) (sym all))
      | inr other ↦
          let more : 0 < k = omega (arith, other) in
          let last : (i + m) / page + touched page (i + m) k ≡ (i + m + k - 1) / page + 1 = touched_some page (i + m) k some more in
          let sum : i + (m + k) - 1 ≡ i + m + k - 1 = omega arith in
          let whole_end : i / page + touched page i (m + k) ≡ (i + m + k - 1) / page + 1 = touched_some page i (m + k) some (omega (arith, more)) ∙ ap (λ (n : ℕ). n / page + 1) sum in
          let inside : (i + m) / page + touched page (i + m) k ≤ len / page = touched_fit page (i + m) k len some whole (omega (arith, fits)) in
          let order : i / page ≤ (i + m) / page = page_order page i (i + m) some (omega arith) in
          let joins : ((i + m) / page ≤ i / page + touched page i m) × (i / page + touched page i m ≤ (i + m + k - 1) / page + 1) =
          elim (cases_eq m 0) [
            | inl nothing ↦
                let same : i + m ≡ i = omega (arith, nothing) in
                let number : touched page i m ≡ 0 = rw nothing refl in
                let start : (i + m) / page ≡ i / page = ap (λ (n : ℕ). n / page) same in
                (omega (arith, start), omega (arith, number, page_order page i (i + m + k - 1) some (omega (arith, more))))
            | inr something ↦
                let end : i / page + touched page i m ≡ (i + m - 1) / page + 1 = touched_some page i m some (omega (arith, something)) in
                let place : i + m - 1 + 1 ≡ i + m = omega (arith, something) in
                let near : (i + m) / page ≤ (i + m - 1) / page + 1 = subst (λ (n : ℕ). n / page ≤ (i + m - 1) / page + 1) place (next_page page (i + m - 1) some) in
                (omega (arith, near, end), omega (arith, end, page_order page (i + m - 1) (i + m + k - 1) some (omega arith)))
          ] in
          join_marks (i / page) (touched page i m) ((i + m) / page) (touched page (i + m) k) (touched page i (m + k)) true marks order joins.0 (omega (arith, joins.1, last)) (last ∙ sym whole_end) (omega (arith, inside, long))
    ]

-- Bytes that are written behind others.
written_more : (at page len : ℕ) (xs ys : List ℕ) (o : Option Contents) → 0 < page → IfSome o (IsShaped page len) → at + length xs + length ys ≤ len → option_map (written (at + length xs) ys) (option_map (written at xs) o) ≡ option_map (written at (xs ++ ys)) o
written_more at page len xs ys None some shaped fits = refl
written_more at page len xs ys (Some c) some shaped fits =
    let C : List ℕ → List Bool → Option Contents = λ bytes dirty. Some (record c { bytes = bytes; dirty = dirty }) in
    let P : ℕ → Type 0 = λ p. 0 < p in
    let whole : len % c.page ≡ 0 = rw shaped.same_page shaped.whole in
    let long : length c.dirty ≡ len / c.page = rw shaped.same_page shaped.dirty in
    let marks = touched_more c.page len at (length xs) (length ys) c.dirty (subst P (sym shaped.same_page) some) whole long fits in
    let count : length xs + length ys ≡ length (xs ++ ys) = sym (length-append xs ys) in
    let bytes : put (at + length xs) ys (put at xs c.bytes) ≡ put at (xs ++ ys) c.bytes = put-put at xs ys c.bytes (omega (arith, shaped.bytes, fits)) (omega (arith, shaped.bytes, fits)) in
    ap (λ (bs : List ℕ). C bs (put_all ((at + length xs) / c.page) (touched c.page (at + length xs) (length ys)) true (put_all (at / c.page) (touched c.page at (length xs)) true c.dirty))) bytes
    ∙ ap (C (put at (xs ++ ys) c.bytes)) (marks ∙ ap (λ (n : ℕ). put_all (at / c.page) (touched c.page at n) true c.dirty) count)

pub rewrites_more : (at : ℕ) (xs ys : List ℕ) (a b c : Told) → 0 < a.page → TellsShaped a → TellsMarks a → Rewrites at xs a b → c ≡ overwritten (at + length xs) ys b → at + length xs + length ys ≤ a.len → Rewrites at (xs ++ ys) a c
rewrites_more at xs ys a b c some shaped marked first second fits =
    let R : Option Contents → List Bool → Told = λ o ms. record a { contents = o; marks = ms } in
    let count : length xs + length ys ≡ length (xs ++ ys) = sym (length-append xs ys) in
    let twice : List Bool = touched_marked (at + length xs) (length ys) a.page (touched_marked at (length xs) a.page a.marks) in
    let once = touched_more a.page a.len at (length xs) (length ys) a.marks some marked.whole marked.count fits ∙ ap (λ (n : ℕ). touched_marked at n a.page a.marks) count in
    second
    ∙ ap (overwritten (at + length xs) ys) first
    ∙ ap (λ (o : Option Contents). R o twice) (written_more at a.page a.len xs ys a.contents some shaped fits)
    ∙ ap (R (option_map (written at (xs ++ ys)) a.contents)) once

-- the region has its shape still
pub shaped_as : (at : ℕ) (new : List ℕ) (old after : Told) → Rewrites at new old after → TellsShaped after → IfSome after.contents (IsShaped old.page old.len)
shaped_as at new old after is shaped =
    let S : ℕ → ℕ → Type 0 = λ p l. IfSome after.contents (IsShaped p l) in
    let page : after.page ≡ old.page = ap (λ (x : Told). x.page) is in
    let len : after.len ≡ old.len = ap (λ (x : Told). x.len) is in
    subst (λ (l : ℕ). S old.page l) len (subst (λ (p : ℕ). S p after.len) page shaped)

room_by : (at : ℕ) (new : List ℕ) (page len from to : ℕ) (c : Contents) → at + length new ≤ from → from ≤ to → to ≤ len → IsRoom page len from to c → IsShaped page len (written at new c) → IsRoom page len from to (written at new c)
room_by at new page len from to c below order fits room shaped = record {
  shaped = shaped;
  reach = room.reach;
  origin = room.origin;
  zeros = range-put_above at new c.bytes from to (omega (arith, room.shaped.bytes)) (omega (arith, room.shaped.bytes)) below ∙ room.zeros;
}

written_if : (at : ℕ) (new : List ℕ) (page len : ℕ) (A B : Contents → Type 0) (o : Option Contents) → ((c : Contents) → A c → IsShaped page len (written at new c) → B (written at new c)) → IfSome o A → IfSome (option_map (written at new) o) (IsShaped page len) → IfSome (option_map (written at new) o) B
written_if at new page len A B None step all shaped = all
written_if at new page len A B (Some c) step all shaped = step c all shaped

-- what is so of a region's contents and of what is written, is so after a write
pub after_write : (at : ℕ) (new : List ℕ) (page len : ℕ) (A B : Contents → Type 0) (old after : Told) → Rewrites at new old after → ((c : Contents) → A c → IsShaped page len (written at new c) → B (written at new c)) → IfSome old.contents A → IfSome after.contents (IsShaped page len) → IfSome after.contents B
after_write at new page len A B old after is step all shaped =
    let S : Option Contents → Type 0 = λ o. IfSome o (IsShaped page len) in
    let same : after.contents ≡ option_map (written at new) old.contents = ap (λ (t : Told). t.contents) is in
    subst (λ (o : Option Contents). IfSome o B) (sym same) (written_if at new page len A B old.contents step all (subst S same shaped))

-- a table whose region still has its room
pub table_of : (t : TableState) (r : Told) → r.page ≡ t.region.page → r.len ≡ t.region.len → IsTable t → IfSome r.contents (IsRoom t.region.page t.region.len (t.size * width t.kind) (t.maximum * width t.kind)) → IsTable (record t { region = r })
table_of t r page len is room =
    let R : ℕ → ℕ → Type 0 = λ p l. IfSome r.contents (IsRoom p l (t.size * width t.kind) (t.maximum * width t.kind)) in
    record {
      within = is.within;
      room = rw len is.room;
      bounded = rw len is.bounded;
      page = rw page is.page;
      contents = subst (λ (p : ℕ). R p r.len) (sym page) (subst (λ (l : ℕ). R t.region.page l) (sym len) room);
    }

-- a table of which only elements were written is one still
pub table_still : (t : TableState) (at : ℕ) (new : List ℕ) (r : Told) → IsTable t → Rewrites at new t.region r → TellsShaped r → at + length new ≤ t.size * width t.kind → IsTable (record t { region = r })
table_still t at new r is rewrites shaped below =
    let w : ℕ = width t.kind in
    let len : r.len ≡ t.region.len = ap (λ (x : Told). x.len) rewrites in
    let page : r.page ≡ t.region.page = ap (λ (x : Told). x.page) rewrites in
    let Room : Contents → Type 0 = IsRoom t.region.page t.region.len (t.size * w) (t.maximum * w) in
    table_of t r page len is
    (after_write at new t.region.page t.region.len Room Room t.region r rewrites (λ c room s. room_by at new t.region.page t.region.len (t.size * w) (t.maximum * w) c below (mul-le-mul_right w is.within) is.room room s) is.contents (shaped_as at new t.region r rewrites shaped))
