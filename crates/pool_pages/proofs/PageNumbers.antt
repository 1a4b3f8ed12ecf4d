-- Pages by number: where those of a range of whole pages lie, and those that bytes touch.
use Rattle.std.proofs.Common.{◌≡◌, ℕ, ◌+◌, ◌-◌, ◌*◌, ◌/◌, ◌%◌, ◌<◌, ◌≤◌, ◌==◌, false, ◌≢◌, refl, arith, inl, inr}
use Rattle.pool_pages.proofs.Imports.{mul-le-mul_left, mod-add-div', lt-mul-div-succ, div-mul-le_self, cases_lt, cases_eq, ne_eqb, le-div, whole, page_within}
use Rattle.pool_pages.specs.Contents.{touched}

-- a page before that of a place lies below the place whole
pub page_before : (page start k : ℕ) → k < start / page → k * page + page ≤ start
page_before page start k below =
    let more : k + 1 ≤ start / page = omega arith in
    omega (arith, mul-le-mul_left page more, mod-add-div' start page)

pub page_from : (page start k : ℕ) → start % page ≡ 0 → start / page ≤ k → start ≤ k * page
page_from page start k whole_start from = omega (arith, mul-le-mul_left page from, whole start page whole_start)

-- a page past a range of whole pages
pub page_above : (page start n k : ℕ) → start % page ≡ 0 → n % page ≡ 0 → start / page + n / page ≤ k → start + n ≤ k * page
page_above page start n k whole_start whole_n from =
    omega (arith, mul-le-mul_left page from, whole start page whole_start, whole n page whole_n)

-- a page of the range
pub page_inside : (page start n k : ℕ) → start % page ≡ 0 → n % page ≡ 0 → k < start / page + n / page → k * page + page ≤ start + n
page_inside page start n k whole_start whole_n below =
    let more : k + 1 ≤ start / page + n / page = omega arith in
    omega (arith, mul-le-mul_left page more, whole start page whole_start, whole n page whole_n)

-- the marks of a range inside a region
pub marks_fit : (page start n len : ℕ) → 0 < page → start % page ≡ 0 → n % page ≡ 0 → len % page ≡ 0 → start + n ≤ len → start / page + n / page ≤ len / page
marks_fit page start n len positive whole_start whole_n whole_len fits =
    elim (cases_lt (len / page) (start / page + n / page)) [
      | inl more ↦
          let step : len / page + 1 ≤ start / page + n / page = omega arith in
          absurd (omega (arith, mul-le-mul_left page step, whole start page whole_start, whole n page whole_n, whole len page whole_len))
      | inr fit ↦ fit
    ]

-- bytes touch the pages up to that of the last
pub touched_some : (page start n : ℕ) → 0 < page → 0 < n → start / page + touched page start n ≡ (start + n - 1) / page + 1
touched_some page start n positive some =
    let no : (n == 0) ≡ false = ne_eqb n 0 (λ e. absurd (omega (arith, e))) in
    let is : touched page start n ≡ (start + n - 1) / page + 1 - start / page = rw no refl in
    let under : start / page ≤ (start + n - 1) / page = le-div (start / page) (start + n - 1) page positive (omega (arith, div-mul-le_self start page)) in
    omega arith

pub touched_fit : (page start n len : ℕ) → 0 < page → len % page ≡ 0 → start + n ≤ len → start / page + touched page start n ≤ len / page
touched_fit page start n len positive whole_len fits =
    elim (cases_eq n 0) [
      | inl none ↦
          let no : touched page start n ≡ 0 = rw none refl in
          omega (arith, le-div (start / page) len page positive (omega (arith, div-mul-le_self start page)))
      | inr some ↦ omega (arith, touched_some page start n positive (omega arith), page_within (start + n - 1) len page positive whole_len (omega arith))
    ]

-- a page past those that bytes touch
pub touched_above : (page start n k : ℕ) → 0 < page → 0 < n → start / page + touched page start n ≤ k → start + n ≤ k * page
touched_above page start n k positive some from =
    let past : (start + n - 1) / page + 1 ≤ k = omega (arith, touched_some page start n positive some) in
    omega (arith, mul-le-mul_left page past, lt-mul-div-succ (start + n - 1) positive)

-- a byte further on is on the same page or on a later one
pub pages_order : (page start n : ℕ) → 0 < page → n ≢ 0 → start / page ≤ (start + n - 1) / page + 1
pages_order page start n positive some =
    let under : start / page ≤ (start + n - 1) / page = le-div (start / page) (start + n - 1) page positive (omega (arith, div-mul-le_self start page)) in
    omega arith
