-- The items of a list, read one after another.
use Rattle.std.proofs.Common.{◌≡◌, Bool, ◌&&◌, List, [], ◌∷◌, ◌++◌, Option, Some, None, refl, ap}
use Rattle.std.specs.List.{list_all}
use Rattle.serde_json.specs.Data.{Data}
use Rattle.serde_json.specs.View.{view, items_view}
use Rattle.serde_json.specs.declared.value.Value.{Value}
use Rattle.pool_forms.specs.Ranges.{all_pass}

-- what was read so far, before what the rest gives
abbrev pub onto : {A : Type 0} → List A → Option (List A) → Option (List A)
onto front None = None
onto front (Some xs) = Some (front ++ xs)

pub all_viewed : (test : Data → Bool) (values : List Value) → list_all (λ v. test (view v)) values ≡ all_pass test (items_view values)
all_viewed test [] = refl
all_viewed test (v ∷ vs) = ap (λ b. test (view v) && b) (all_viewed test vs)
