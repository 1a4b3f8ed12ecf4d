-- The elements that a table's bytes are: each of them, and what writing bytes makes of them.
use Rattle.std.proofs.Common.{◌≡◌, ℕ, ◌+◌, ◌-◌, ◌*◌, ◌<◌, ◌≤◌, List, ◌++◌, length, get_or, replicate, slice_range, Some, sym, ap, ◌∙◌, subst, arith, inl, inr, slice_get}
use Rattle.pool_table.proofs.Imports.{mul-le-mul_right, length-append, length-replicate, get_or-replicate, get_or_append_left, get_or-append_right, same_lists, length-map-range_with_len, get_or-map-range_with_len, slice_get-get_or, cases_lt, zeros_within, put, put_all, range-put_below, range-put_above, range-put_in, length-put_all, get_or-put_all_in, get_or-put_all_out}
use Rattle.pool_table.specs.Elements.{ElementKind, Element, uninitialised, width, element_of, empty, ZeroIsEmpty}
use Rattle.pool_table.specs.Tables.{elements_in}
use Rattle.pool_table.proofs.Copies.{copies, scaled, length-copies, copy_at}

module _ (kind : ElementKind) where
  abbrev w : ℕ
  w = width kind

  abbrev at_place : List ℕ → ℕ → Element
  at_place bytes e = element_of kind (slice_range bytes (e * w) (e * w + w))

  pub length-elements : (n : ℕ) (bytes : List ℕ) → length (elements_in kind n bytes) ≡ n
  length-elements n bytes = length-map-range_with_len (at_place bytes) 0 n

  pub get_or-elements : (n : ℕ) (bytes : List ℕ) (k : ℕ) (d : Element) → k < n → get_or (elements_in kind n bytes) k d ≡ at_place bytes k
  get_or-elements n bytes k d below = get_or-map-range_with_len (at_place bytes) 0 n k k d below (omega arith)

  -- each element is that of its word
  pub element_read : (n : ℕ) (bytes : List ℕ) (k : ℕ) → k < n → slice_get (elements_in kind n bytes) k ≡ Some (at_place bytes k)
  element_read n bytes k below =
      slice_get-get_or (elements_in kind n bytes) k uninitialised (omega (arith, length-elements n bytes, below))
      ∙ ap (λ (e : Element). Some e) (get_or-elements n bytes k uninitialised below)

  -- words that are written make elements of them
  pub elements_put : (n first count : ℕ) (e : Element) (piece bytes : List ℕ) → element_of kind piece ≡ e → length piece ≡ w → first + count ≤ n → n * w ≤ length bytes → elements_in kind n (put (first * w) (copies count piece) bytes) ≡ put_all first count e (elements_in kind n bytes)
  elements_put n first count e piece bytes reads long inside fits =
      let new : List ℕ = copies count piece in
      let es : List Element = elements_in kind n bytes in
      let size : length es ≡ n = length-elements n bytes in
      let scale : ℕ → Type 0 = λ m. length new ≡ count * m in
      let all : length new ≡ count * w = subst scale long (length-copies count piece) in
      let sum : (first + count) * w ≡ first * w + count * w = grind arith in
      let ends : (first + count) * w ≤ n * w = mul-le-mul_right w inside in
      let room : first * w + length new ≤ length bytes = omega (arith, all, sum, ends, fits) in
      let after : List ℕ = put (first * w) new bytes in
      same_lists (elements_in kind n after) (put_all first count e es) (length-elements n after ∙ sym (length-put_all first count e es (omega (arith, size, inside)) ∙ size))
      (λ k d short.
      let below : k < n = omega (arith, length-elements n after) in
      let here : k * w + w ≤ n * w = scaled k n w below in
      get_or-elements n after k d below
      ∙ elim (cases_lt k first) [
        | inl under ↦
            let ahead : k * w + w ≤ first * w = scaled k first w under in
            ap (λ (xs : List ℕ). element_of kind xs) (range-put_below (first * w) new bytes (k * w) (k * w + w) room ahead)
            ∙ sym (get_or-put_all_out first count e es k d (omega (arith, size, inside)) (inl under) ∙ get_or-elements n bytes k d below)
        | inr over ↦
            elim (cases_lt k (first + count)) [
              | inl under ↦
                  let from : first * w ≤ k * w = mul-le-mul_right w over in
                  let last : k * w + w ≤ (first + count) * w = scaled k (first + count) w under in
                  let place : k * w - first * w ≡ (k - first) * length piece = grind (arith, long) in
                  let place_end : k * w + w - first * w ≡ (k - first) * length piece + length piece = omega (arith, place, long, from) in
                  ap (λ (xs : List ℕ). element_of kind xs) (
                  range-put_in (first * w) new bytes (k * w) (k * w + w) room from (omega (arith, all, sum, last))
                  ∙ ap (λ (m : ℕ). slice_range new m (k * w + w - first * w)) place
                  ∙ ap (λ (m : ℕ). slice_range new ((k - first) * length piece) m) place_end
                  ∙ copy_at count (k - first) piece (omega (arith, under, over))
                  )
                  ∙ reads
                  ∙ sym (get_or-put_all_in first count e es k d (omega (arith, size, inside)) over under)
              | inr above ↦
                  let behind : (first + count) * w ≤ k * w = mul-le-mul_right w above in
                  ap (λ (xs : List ℕ). element_of kind xs) (range-put_above (first * w) new bytes (k * w) (k * w + w) room (omega (arith, here, fits)) (omega (arith, all, sum, behind)))
                  ∙ sym (get_or-put_all_out first count e es k d (omega (arith, size, inside)) (inr above) ∙ get_or-elements n bytes k d below)
            ]
      ])

-- where zeros lie behind the elements, more of them are empty
pub elements_grown : (kind : ElementKind) (n more m : ℕ) (bytes : List ℕ) → ZeroIsEmpty → n + more ≤ m → m * width kind ≤ length bytes → slice_range bytes (n * width kind) (m * width kind) ≡ replicate (m * width kind - n * width kind) 0 → elements_in kind (n + more) bytes ≡ elements_in kind n bytes ++ replicate more (empty kind)
elements_grown kind n more m bytes law inside fits zeros =
    let w : ℕ = width kind in
    let es : List Element = elements_in kind n bytes in
    let size : length es ≡ n = length-elements kind n bytes in
    same_lists (elements_in kind (n + more) bytes) (es ++ replicate more (empty kind))
    (length-elements kind (n + more) bytes ∙ sym (length-append es (replicate more (empty kind)) ∙ omega (arith, size, length-replicate more (empty kind))))
    (λ k d short.
    let below : k < n + more = omega (arith, length-elements kind (n + more) bytes) in
    get_or-elements kind (n + more) bytes k d below
    ∙ elim (cases_lt k n) [
      | inl under ↦ sym (get_or_append_left es (replicate more (empty kind)) d k (omega (arith, size, under)) ∙ get_or-elements kind n bytes k d under)
      | inr over ↦
          let from : n * w ≤ k * w = mul-le-mul_right w over in
          let last : k * w + w ≤ m * w = scaled k m w (omega (arith, below, inside)) in
          let count : k * w + w - k * w ≡ w = omega arith in
          ap (λ (xs : List ℕ). element_of kind xs) (zeros_within bytes (n * w) (m * w) (k * w) (k * w + w) fits from (omega arith) last zeros ∙ ap (λ (i : ℕ). replicate {A = ℕ} i 0) count)
          ∙ law kind
          ∙ sym (get_or-append_right es (replicate more (empty kind)) n k d size over ∙ get_or-replicate more (k - n) (empty kind) d (omega (arith, below, over)))
    ])
