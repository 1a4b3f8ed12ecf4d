-- Whole pages against powers of two, which a page divides: what rounding up leaves within one, and what leaves the addresses.
use Rattle.std.proofs.Common.{◌≡◌, ℕ, zero, suc, ◌+◌, ◌-◌, ◌*◌, ◌/◌, ◌%◌, ◌^◌, ◌<◌, ◌≤◌, refl, sym, ap, ◌∙◌, inl, inr, arith}
use Rattle.pool_images.proofs.Imports.{cases_eq, cases_lt, eqb-true, ones_cat, zero_from_ones, shr_split, pow-suc, mod-lt, div-lt_iff_lt-mul, le-div_iff_mul-le, mul-le-mul_right, mul-mod_left, whole, page_below, IsPageSize, rounded_up}
use lib.Count.{ones}

ones_none : ones 0 ≡ 0
unfolding ones
ones_none = refl

ones_one : ones 1 ≡ 1
unfolding ones
ones_one = refl

quotient : (k n : ℕ) → n ≤ 2 ^ k → ones n ≡ 1 → (q : ℕ) × (2 ^ k ≡ q * n)
quotient zero n small one =
    elim (cases_eq n 1) [
      | inl e ↦ (1, sym (rw e refl))
      | inr other ↦
          let none : n ≡ 0 = omega arith in
          let off : ones n ≡ 0 = ap ones none ∙ ones_none in
          absurd (omega (arith, off, one))
    ]
quotient (suc k) n small one =
    let a : ℕ = n / 2 in
    let r : ℕ = n % 2 in
    let split : a * 2 + r ≡ n = shr_split n 1 in
    let less : r < 2 = mod-lt n (omega arith) in
    let both : ones a + ones r ≡ 1 = sym (ones_cat 1 a r less) ∙ ap ones split ∙ one in
    let double : 2 ^ suc k ≡ 2 ^ k * 2 = pow-suc 2 k in
    elim (cases_eq r 0) [
      | inl even ↦
          let off : ones r ≡ 0 = ap ones even ∙ ones_none in
          let half = quotient k a (omega (arith, split, double)) (omega (arith, both, off)) in
          let twice : n ≡ a * 2 = omega (arith, split) in
          let scaled : half.0 * a * 2 ≡ half.0 * (a * 2) = omega arith in
          (half.0, double ∙ ap (λ (x : ℕ). x * 2) half.1 ∙ scaled ∙ ap (λ (x : ℕ). half.0 * x) (sym twice))
      | inr other ↦
          let odd : r ≡ 1 = omega arith in
          let on : ones r ≡ 1 = ap ones odd ∙ ones_one in
          let none : a ≡ 0 = zero_from_ones a (omega (arith, both, on)) in
          let is : n ≡ 1 = omega (arith, split, none) in
          (2 ^ suc k, rw is (omega arith))
    ]

-- the end of the addresses is a whole number of pages
pub ends_whole : (page : ℕ) → IsPageSize page → 2 ^ 64 % page ≡ 0
ends_whole page sized =
    let q = quotient 64 page (omega (arith, sized.at_most)) (eqb-true (ones page) 1 sized.power_of_two) in
    ap (λ (n : ℕ). n % page) q.1 ∙ mul-mod_left q.0 page

-- what can't be rounded up to pages leaves the addresses once it is
pub rounded_past : (page n : ℕ) → IsPageSize page → (n + page - 1 < 2 ^ 64 → ⊥) → 2 ^ 64 ≤ rounded_up page n
rounded_past page n sized past =
    let q = quotient 64 page (omega (arith, sized.at_most)) (eqb-true (ones page) 1 sized.power_of_two) in
    let over : q.0 * page ≤ n + page - 1 =
    elim (cases_lt (n + page - 1) (2 ^ 64)) [
      | inl below ↦ absurd (past below)
      | inr above ↦ omega (arith, above, q.1)
    ] in
    let times : q.0 ≤ (n + page - 1) / page = (le-div_iff_mul-le (omega (arith, sized.at_least))).1 over in
    omega (arith, q.1, mul-le-mul_right page times)

-- whole pages within the addresses leave room for one more
pub whole_leaves : (page n : ℕ) → IsPageSize page → n % page ≡ 0 → n < 2 ^ 64 → n + page ≤ 2 ^ 64
whole_leaves page n sized is below =
    let parts : n / page * page ≡ n = omega (arith, whole n page is) in
    let room : n / page * page + page ≤ 2 ^ 64 = page_below (n / page) (2 ^ 64) page (ends_whole page sized) (omega (arith, parts)) in
    omega (arith, parts, room)

-- whole pages
pub rounded_is_whole : (page n : ℕ) → rounded_up page n % page ≡ 0
rounded_is_whole page n = mul-mod_left ((n + page - 1) / page) page

-- what is whole pages isn't rounded up
pub rounded_same : (page n : ℕ) → 0 < page → n % page ≡ 0 → rounded_up page n ≡ n
rounded_same page n some is =
    let parts : n / page * page ≡ n = omega (arith, whole n page is) in
    let least : n / page ≤ (n + page - 1) / page = (le-div_iff_mul-le some).1 (omega (arith, parts)) in
    let more : (n / page + 1) * page ≡ n / page * page + page = omega arith in
    let most : (n + page - 1) / page < n / page + 1 = (div-lt_iff_lt-mul some).1 (omega (arith, parts, more)) in
    let same : (n + page - 1) / page ≡ n / page = omega arith in
    ap (λ (q : ℕ). q * page) same ∙ parts

rounded_below : (page q n : ℕ) → 0 < page → n ≤ q * page → rounded_up page n ≤ q * page
rounded_below page q n some small =
    let step : (q + 1) * page ≡ q * page + page = omega arith in
    let below : n + page - 1 < (q + 1) * page = omega (arith, step) in
    let div : (n + page - 1) / page < q + 1 = (div-lt_iff_lt-mul some).1 below in
    mul-le-mul_right page (omega (arith, div))

pub rounded_within : (page n : ℕ) → IsPageSize page → n ≤ 2 ^ 32 → rounded_up page n ≤ 2 ^ 32
rounded_within page n sized small =
    let q = quotient 32 page (omega (arith, sized.at_most)) (eqb-true (ones page) 1 sized.power_of_two) in
    let most : rounded_up page n ≤ q.0 * page = rounded_below page q.0 n (omega (arith, sized.at_least)) (omega (arith, q.1)) in
    omega (arith, most, q.1)

-- Where there is room for a page above a number of bytes, there is above its whole pages.
pub rounded_leaves : (page n : ℕ) → IsPageSize page → n + page ≤ 2 ^ 64 → rounded_up page n + page ≤ 2 ^ 64
rounded_leaves page n sized small =
    let q = quotient 64 page (omega (arith, sized.at_most)) (eqb-true (ones page) 1 sized.power_of_two) in
    let r : ℕ = q.0 - 1 in
    let step : (r + 1) * page ≡ r * page + page = omega arith in
    let some : 0 < q.0 =
    elim (cases_lt 0 q.0) [
      | inl some ↦ some
      | inr none ↦ let zero_of : q.0 * page ≡ 0 * page = ap (λ (x : ℕ). x * page) (omega (arith, none)) in absurd (omega (arith, q.1, zero_of))
    ] in
    let same : q.0 * page ≡ (r + 1) * page = ap (λ (x : ℕ). x * page) (omega (arith, some)) in
    let most : rounded_up page n ≤ r * page = rounded_below page r n (omega (arith, sized.at_least)) (omega (arith, q.1, same, step)) in
    omega (arith, most, q.1, same, step)
