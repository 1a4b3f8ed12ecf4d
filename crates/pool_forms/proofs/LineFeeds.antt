-- Texts on one line.
use Rattle.std.proofs.Common.{◌≡◌, ℕ, suc, ◌<◌, List, [], ◌∷◌, ◌++◌, length, get_or, false, codes, Result, Ok, Err, is_ok, OnOk, refl, ap, arith, ◌≢◌, ◌==◌, if◌then◌else◌}
use Rattle.std.proofs.lemmas.Bool.Decides.{nat_tests}
use Rattle.pool_forms.specs.Output.{one_line}

-- no line feed among these bytes
abbrev pub HasNoFeed : List ℕ → Type 0
HasNoFeed bytes = (i : ℕ) → i < length bytes → get_or bytes i 0 ≢ 10

is_no_feed : (byte : ℕ) → byte ≢ 10 → (byte == 10) ≡ false
is_no_feed byte other = grind (arith, nat_tests)

rest_has_none : (byte : ℕ) (bytes : List ℕ) → HasNoFeed (byte ∷ bytes) → HasNoFeed bytes
rest_has_none byte bytes none i below = none (suc i) (omega (arith, below))

pub one_line_already : (bytes : List ℕ) → HasNoFeed bytes → one_line bytes ≡ bytes
unfolding one_line
one_line_already [] none = refl
one_line_already (byte ∷ bytes) none = rw (is_no_feed byte (none 0 (omega arith))) (ap (λ rest. byte ∷ rest) (one_line_already bytes (rest_has_none byte bytes none)))

-- up to the first line feed a text stays
pub after_feed : (front back : List ℕ) → HasNoFeed front → one_line (front ++ (10 ∷ back)) ≡ front ++ (codes "\\n" ++ one_line back)
unfolding one_line
after_feed [] back none = refl
after_feed (byte ∷ bytes) back none = rw (is_no_feed byte (none 0 (omega arith))) (ap (λ rest. byte ∷ rest) (after_feed bytes back (rest_has_none byte bytes none)))

-- what was added where adding it succeeds
pub on_ok : {A E : Type 0} (r : Result A E) (new added old : List ℕ) → new ≡ (if is_ok r then added else old) → OnOk r (new ≡ added)
on_ok (Ok x) new added old is = is
on_ok (Err e) new added old is = tt
