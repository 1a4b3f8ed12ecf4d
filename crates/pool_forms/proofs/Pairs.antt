-- Lists that are no pairs.
use Rattle.std.proofs.Common.{◌≡◌, ◌<◌, ◌≤◌, List, [], ◌∷◌, length, None, refl, arith}
use Rattle.serde_json.specs.View.{items_view}
use Rattle.serde_json.specs.declared.value.Value.{Value}
use Rattle.pool_forms.specs.Fields.{pair_of}

pub too_short : (values : List Value) → length values < 2 → None ≡ pair_of (items_view values)
too_short [] short = refl
too_short (v ∷ []) short = refl
too_short (v ∷ w ∷ rest) short = absurd (omega (arith, short))

pub too_long : (values : List Value) → 3 ≤ length values → None ≡ pair_of (items_view values)
too_long [] long = absurd (omega (arith, long))
too_long (v ∷ []) long = absurd (omega (arith, long))
too_long (v ∷ w ∷ []) long = absurd (omega (arith, long))
too_long (v ∷ w ∷ x ∷ rest) long = refl
