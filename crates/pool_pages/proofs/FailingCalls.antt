-- What a list of failing calls says of a call, by what the region behind it says.
use Rattle.std.proofs.Common.{◌≡◌, ℕ, Bool, true, false, not, List, [], ◌∷◌, Option, Some, None, refl, sym, ◌∙◌, ◌==◌, ◌||◌}
use Rattle.pool_pages.proofs.Imports.{list_any, IfSome, risen}
use Rattle.pool_pages.specs.Told.{joined_plan}
use Rattle.pool_pages.specs.FailingTold.{lets_through, if_empty}

-- the plan lets a call of this length through, after so many calls
abbrev pub passes_at : List ℕ → ℕ → ℕ → Bool
passes_at plan made len = (len == 0) || not (list_any (λ n. n == risen made) plan)

or_true : (b : Bool) → (b || true) ≡ true
or_true true = refl
or_true false = refl

-- a call that the list doesn't let through: `behind` calls were made on the region behind it
pub refused_planned : (plan : Option (List ℕ)) (listed : List ℕ) (behind made len : ℕ) → lets_through listed made len ≡ false → IfSome (joined_plan plan listed) (λ p. false ≡ passes_at p (if_empty listed behind made) len)
refused_planned plan [] behind made len e = absurd (cc (sym (or_true (len == 0)) ∙ e))
refused_planned None (n ∷ ns) behind made len e = tt
refused_planned (Some []) (n ∷ ns) behind made len e = sym e
refused_planned (Some (y ∷ ys)) (n ∷ ns) behind made len e = tt

-- a call that it lets through
pub passed_planned : (ok : Bool) (plan : Option (List ℕ)) (listed : List ℕ) (behind made len : ℕ) → lets_through listed made len ≡ true → IfSome plan (λ p. ok ≡ passes_at p behind len) → IfSome (joined_plan plan listed) (λ p. ok ≡ passes_at p (if_empty listed behind made) len)
passed_planned ok plan [] behind made len e h = h
passed_planned ok None (n ∷ ns) behind made len e h = tt
passed_planned ok (Some []) (n ∷ ns) behind made len e h = h ∙ or_true (len == 0) ∙ sym e
passed_planned ok (Some (y ∷ ys)) (n ∷ ns) behind made len e h = tt
