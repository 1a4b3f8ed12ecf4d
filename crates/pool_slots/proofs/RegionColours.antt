-- The first call on a region gives it a colour, or hides its guard.
use Rattle.std.proofs.Common.{◌≡◌, ℕ, ◌==◌, ◌||◌, ◌∙◌, ap, refl, Bool, true, false, not, List, if◌then◌else◌}
use Rattle.pool_slots.proofs.Imports.{list_any, Told, PageCall, passes, risen}
use Rattle.pool_slots.specs.Colourings.{fails_first_call}

first_call : (empty listed : Bool) → (empty || not listed) ≡ not (if empty then false else listed)
first_call true listed = refl
first_call false true = refl
first_call false false = refl

-- the first call on a region passes, unless it is listed
pub first_passes : (calls : List ℕ) (call : PageCall) (t : Told) → t.made ≡ 0 → passes calls call t ≡ not (fails_first_call call.len calls)
first_passes calls call t first =
    ap (λ (n : ℕ). (call.len == 0) || not (list_any (λ (k : ℕ). k == risen n) calls)) first ∙ first_call (call.len == 0) (list_any (λ (k : ℕ). k == 1) calls)
