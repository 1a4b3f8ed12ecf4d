-- A word so many times, one behind the other.
use Rattle.std.proofs.Common.{◌≡◌, ℕ, zero, suc, ◌+◌, ◌-◌, ◌*◌, ◌<◌, ◌≤◌, List, ◌++◌, length, get_or, replicate, slice_range, sym, ap, ◌∙◌, arith}
use Rattle.pool_table.proofs.Imports.{concat, mul-le-mul_right, length-append, append-nil, replicate-append-replicate, get_or_append_left, get_or-append_right, same_lists, concat-append, length-range, get_or-range}

abbrev pub copies : ℕ → List ℕ → List ℕ
copies n word = concat (replicate n word)

-- what comes before a number of pieces ends where it begins, or before
pub scaled : (a b w : ℕ) → a < b → a * w + w ≤ b * w
scaled a b w below =
    let more : (a + 1) * w ≤ b * w = mul-le-mul_right w (omega (arith, below)) in
    let sum : (a + 1) * w ≡ a * w + w = grind arith in
    omega (arith, more, sum)

pub copies_parts : (n m : ℕ) (word : List ℕ) → copies (n + m) word ≡ copies n word ++ copies m word
copies_parts n m word = ap concat (sym (replicate-append-replicate n m word)) ∙ concat-append (replicate n word) (replicate m word)

pub copies_one : (word : List ℕ) → copies 1 word ≡ word
copies_one word = append-nil word

pub copies_more : (n : ℕ) (word : List ℕ) → copies n word ++ word ≡ copies (n + 1) word
copies_more n word = ap (λ (xs : List ℕ). copies n word ++ xs) (sym (copies_one word)) ∙ sym (copies_parts n 1 word)

pub length-copies : (n : ℕ) (word : List ℕ) → length (copies n word) ≡ n * length word
length-copies zero word = grind arith
length-copies (suc n) word =
    let rest : length (copies n word) ≡ n * length word = length-copies n word in
    let whole : length (copies (suc n) word) ≡ length word + length (copies n word) = length-append word (copies n word) in
    grind (arith, rest, whole)

-- each of them is the word
pub copy_at : (n j : ℕ) (word : List ℕ) → j < n → slice_range (copies n word) (j * length word) (j * length word + length word) ≡ word
copy_at n j word below =
    let w : ℕ = length word in
    let sum : n ≡ j + (1 + (n - j - 1)) = omega arith in
    let rest : List ℕ = copies (n - j - 1) word in
    let parts : copies n word ≡ copies j word ++ (word ++ rest) =
    ap (λ (k : ℕ). copies k word) sum ∙ copies_parts j (1 + (n - j - 1)) word ∙ ap (λ (xs : List ℕ). copies j word ++ xs) (copies_parts 1 (n - j - 1) word ∙ ap (λ (xs : List ℕ). xs ++ rest) (copies_one word)) in
    let before : length (copies j word) ≡ j * w = length-copies j word in
    let all : length (copies n word) ≡ n * w = length-copies n word in
    let ends : j * w + w ≤ n * w = scaled j n w below in
    same_lists (slice_range (copies n word) (j * w) (j * w + w)) word (omega (arith, length-range (copies n word) (j * w) (j * w + w) (omega (arith, all, ends))))
    (λ k d short.
    let inside : k < w = omega (arith, length-range (copies n word) (j * w) (j * w + w) (omega (arith, all, ends))) in
    let place : j * w + k - j * w ≡ k = omega arith in
    get_or-range (copies n word) (j * w) (j * w + w) k d (omega (arith, inside))
    ∙ ap (λ (xs : List ℕ). get_or xs (j * w + k) d) parts
    ∙ get_or-append_right (copies j word) (word ++ rest) (j * w) (j * w + k) d before (omega arith)
    ∙ ap (λ (m : ℕ). get_or (word ++ rest) m d) place
    ∙ get_or_append_left word rest d k inside)
