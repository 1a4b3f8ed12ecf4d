-- Numbers that are whole multiples of a page.
use Rattle.std.proofs.Common.{◌≡◌, ℕ, ◌+◌, ◌-◌, ◌*◌, ◌/◌, ◌%◌, ◌<◌, ◌≤◌, inl, inr, sym, ap, ◌∙◌, mul_assoc, arith}
use Rattle.std.proofs.lemmas.Bool.{cases_lt}
use Rattle.std.proofs.Math.Nat.{mod-add-div', mod-lt, mul-mod_right, mul-sub, mul-le-mul_right, div-lt_iff_lt-mul}

pub whole : (n page : ℕ) → n % page ≡ 0 → page * (n / page) ≡ n
whole n page is = omega (arith, mod-add-div' n page)

pub add_whole : (a b page : ℕ) → a % page ≡ 0 → b % page ≡ 0 → (a + b) % page ≡ 0
add_whole a b page left right =
    let e : a + b ≡ page * (a / page + b / page) = omega (arith, whole a page left, whole b page right) in
    rw e (mul-mod_right page (a / page + b / page))

-- also where the difference would be below zero, and is zero
pub sub_whole : (a b page : ℕ) → a % page ≡ 0 → b % page ≡ 0 → (a - b) % page ≡ 0
sub_whole a b page left right =
    let e : a - b ≡ page * (a / page - b / page) = omega (arith, whole a page left, whole b page right, mul-sub page (a / page) (b / page)) in
    rw e (mul-mod_right page (a / page - b / page))

pub mul_whole : (a n page : ℕ) → a % page ≡ 0 → (a * n) % page ≡ 0
mul_whole a n page is =
    let e : a * n ≡ page * (a / page * n) = ap (λ x. x * n) (sym (whole a page is)) ∙ mul_assoc page (a / page) n in
    rw e (mul-mod_right page (a / page * n))

pub rem_whole : (a b page : ℕ) → a % page ≡ 0 → b % page ≡ 0 → (a % b) % page ≡ 0
rem_whole a b page left right =
    let e : a % b ≡ a - b * (a / b) = omega (arith, mod-add-div' a b) in
    rw e (sub_whole a (b * (a / b)) page left (mul_whole b (a / b) page right))

-- a page that begins below a multiple of the page ends there or below
pub page_below : (k b page : ℕ) → b % page ≡ 0 → k * page < b → k * page + page ≤ b
page_below k b page is below =
    elim (cases_lt k (b / page)) [
      | inl under ↦
          let more : (k + 1) * page ≤ b / page * page = mul-le-mul_right page (omega arith) in
          omega (arith, whole b page is, more)
      | inr over ↦
          let least : b / page * page ≤ k * page = mul-le-mul_right page over in
          absurd (omega (arith, whole b page is, least))
    ]

-- a place is in its page
pub page_of : (at page : ℕ) → 0 < page → (at / page * page ≤ at) × (at < at / page * page + page)
page_of at page some = (omega (arith, mod-add-div' at page), omega (arith, mod-add-div' at page, mod-lt at some))

-- a place below a multiple of the page is in a page below it
pub page_within : (at len page : ℕ) → 0 < page → len % page ≡ 0 → at < len → at / page < len / page
page_within at len page some is below =
    let least : page * (len / page) ≡ len = whole len page is in
    (div-lt_iff_lt-mul some).1 (omega (arith, least))
