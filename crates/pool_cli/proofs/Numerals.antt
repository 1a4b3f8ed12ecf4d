-- Numbers as decimal digits.
use Rattle.std.proofs.Common.{◌≡◌, ℕ, ◌<◌, ◌≤◌, ◌^◌, List, length, Bool, true, false, ◌&&◌, cond, nat_lt, Some, None, Result, Ok, Err, refl, sym, ap, ◌∙◌, inl, inr, arith, rules}
use Rattle.std.proofs.lemmas.Bool.{cases_lt, le-ltb, lt-ltb}
use Rattle.std.proofs.lemmas.Bool.Decides.{nat_tests}
use Rattle.std.proofs.lemmas.Str.Parse.{IsNumeralModel, numerals_by_fold, parse_digits}
use Rattle.std.specs.Char.{is_ascii_digit}
use Rattle.std.specs.List.{list_all}
use Rattle.std.specs.Result.{OkIff, result_ok}
use Rattle.std.specs.Str.Parse.{ParsesUnsigned}
use Rattle.pool_cli.specs.Words.{number_after, number_in}

digits : IsNumeralModel (λ ds. list_all is_ascii_digit ds ≡ true) (number_after 0)
digits = numerals_by_fold _ (search rules) number_after (search rules)

-- a number is read exactly where it fits
decided : {E : Type 0} (r : Result ℕ E) (len n : ℕ) → 0 < len → OkIff r ((0 < len) × (n < 2 ^ 64)) n → result_ok r ≡ cond (nat_lt n (2 ^ 64)) (Some n) None
decided (Ok x) len n some h = ap Some h.1 ∙ sym (ap (λ (fits : Bool). cond fits (Some n) None) (lt-ltb n (2 ^ 64) h.0.1))
decided (Err e) len n some h =
    let past : 2 ^ 64 ≤ n = elim (cases_lt n (2 ^ 64)) [
      | inl fits ↦ absurd (h (some, fits))
      | inr over ↦ over
    ] in
    sym (ap (λ (fits : Bool). cond fits (Some n) None) (le-ltb n (2 ^ 64) past))

all_hold : (a b x : Bool) → a ≡ true → b ≡ true → x ≡ (a && b && x)
all_hold true true x p q = refl
all_hold true false x p q = cc
all_hold false b x p q = cc

-- digits alone are read as the number that they write
pub number_is_read : {E : Type 0} (text : List ℕ) (r : Result ℕ E) → ParsesUnsigned 64 10 text r → list_all is_ascii_digit text ≡ true → nat_lt 0 (length text) ≡ true
    → result_ok r ≡ number_in text
number_is_read text r h alone some =
    let above : 0 < length text = grind (arith, nat_tests) in
    decided r (length text) (number_after 0 text) above (parse_digits digits 64 text r h alone)
    ∙ ap (λ (is : Bool). cond is (Some (number_after 0 text)) None) (all_hold (nat_lt 0 (length text)) (list_all is_ascii_digit text) _ some alone)
