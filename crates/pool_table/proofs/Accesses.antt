-- What is read and written of a table's words.
use Rattle.std.proofs.Common.{◌≡◌, ℕ, ◌+◌, ◌*◌, ◌<◌, ◌≤◌, List, ◌++◌, length, take, slice_range, Option, Some, None, refl, sym, ap, ◌∙◌, subst, arith, IfSome, option_map, slice_get}
use Rattle.pool_table.proofs.Imports.{mul-le-mul_right, length-append, length-take, get_or-take, get_or_append_left, same_lists, Contents, put_all, written, Told}
use Rattle.pool_table.specs.Elements.{ElementKind, functions, gc_refs, continuations, Element, width, word, element_of, IsElement, ReadsBack}
use Rattle.pool_table.specs.Tables.{TableState, IsTable, IsRoom, Rewrites, Fills, elements, elements_in}
use Rattle.pool_table.proofs.Copies.{copies, length-copies}
use Rattle.pool_table.proofs.Listed.{element_read, elements_put}

pub width_small : (kind : ElementKind) → width kind ≤ 16
width_small (functions lazy) = omega arith
width_small gc_refs = omega arith
width_small continuations = omega arith

-- the front of a buffer is what was put there
pub front : (n : ℕ) (xs ys : List ℕ) → length xs ≡ n → take n (xs ++ ys) ≡ xs
front n xs ys long =
    same_lists (take n (xs ++ ys)) xs (omega (arith, length-take n (xs ++ ys), length-append xs ys, long))
    (λ k d short.
    let below : k < n = omega (arith, length-take n (xs ++ ys)) in
    get_or-take n (xs ++ ys) k d below ∙ get_or_append_left xs ys d k (omega (arith, long, below)))

pub front_long : (n : ℕ) (xs : List ℕ) → n ≤ length xs → length (take n xs) ≡ n
front_long n xs fits = omega (arith, length-take n xs)

read_by : (kind : ElementKind) (size index w n : ℕ) (out : List ℕ) (e : Element) (o : Option Contents) → index < size → w ≡ width kind → n ≡ w → IfSome o (λ c. out ≡ slice_range c.bytes (index * w) (index * w + n)) → e ≡ element_of kind out → IfSome (option_map (λ c. elements_in kind size c.bytes) o) (λ es. slice_get es index ≡ Some e)
read_by kind size index w n out e None below same long read is = read
read_by kind size index w n out e (Some c) below same long read is =
    let P : ℕ → Type 0 = λ m. out ≡ slice_range c.bytes (index * m) (index * m + m) in
    let Q : ℕ → Type 0 = λ m. out ≡ slice_range c.bytes (index * w) (index * w + m) in
    let here : P (width kind) = subst P same (subst Q long read) in
    element_read kind size c.bytes index below ∙ ap (λ (x : Element). Some x) (sym (is ∙ ap (λ (bs : List ℕ). element_of kind bs) here))

-- the element that was read
pub read_element : (t : TableState) (index w n : ℕ) (out : List ℕ) (e : Element) → index < t.size → w ≡ width t.kind → n ≡ w → IfSome t.region.contents (λ c. out ≡ slice_range c.bytes (index * w) (index * w + n)) → e ≡ element_of t.kind out → IfSome (elements t) (λ es. slice_get es index ≡ Some e)
read_element t index w n out e below same long read is = read_by t.kind t.size index w n out e t.region.contents below same long read is

-- what is written lies inside the table
pub filled_inside : (t : TableState) (first count : ℕ) (piece : List ℕ) → first + count ≤ t.size → length piece ≡ width t.kind → first * width t.kind + length (copies count piece) ≤ t.size * width t.kind
filled_inside t first count piece inside long =
    let w : ℕ = width t.kind in
    let L : ℕ → Type 0 = λ m. length (copies count piece) ≡ count * m in
    let all : length (copies count piece) ≡ count * w = subst L long (length-copies count piece) in
    let sum : (first + count) * w ≡ first * w + count * w = grind arith in
    omega (arith, all, sum, mul-le-mul_right w inside)

filled_by : (kind : ElementKind) (size len first count : ℕ) (e : Element) (piece : List ℕ) (o : Option Contents) → element_of kind piece ≡ e → length piece ≡ width kind → first + count ≤ size → size * width kind ≤ len → (page to : ℕ) → IfSome o (IsRoom page len (size * width kind) to) → option_map (λ c. elements_in kind size c.bytes) (option_map (written (first * width kind) (copies count piece)) o) ≡ option_map (put_all first count e) (option_map (λ c. elements_in kind size c.bytes) o)
filled_by kind size len first count e piece None reads long inside fits page to room = refl
filled_by kind size len first count e piece (Some c) reads long inside fits page to room =
    ap (λ (es : List Element). Some es) (elements_put kind size first count e piece c.bytes reads long inside (omega (arith, fits, room.shaped.bytes)))

-- what a fill leaves
pub filled : (t : TableState) (first count : ℕ) (e : Element) (piece : List ℕ) (r : Told) → IsTable t → piece ≡ word t.kind e → IsElement t.kind e → length piece ≡ width t.kind → ReadsBack → first + count ≤ t.size → Rewrites (first * width t.kind) (copies count piece) t.region r → Fills first count e t (record t { region = r })
filled t first count e piece r is same valid long law inside rewrites =
    let W : List ℕ → Type 0 = λ bs. Rewrites (first * width t.kind) (copies count bs) t.region r in
    let reads : element_of t.kind piece ≡ e = ap (λ (bs : List ℕ). element_of t.kind bs) same ∙ law t.kind e valid in
    record {
      same = refl;
      words = subst W same rewrites;
      elements = ap (λ (x : Told). option_map (λ c. elements_in t.kind t.size c.bytes) x.contents) rewrites ∙ filled_by t.kind t.size t.region.len first count e piece t.region.contents reads long inside (omega (arith, is.room, mul-le-mul_right (width t.kind) is.within)) t.region.page (t.maximum * width t.kind) is.contents;
    }
