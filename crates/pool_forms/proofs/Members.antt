-- The members of an object.
use Rattle.std.proofs.Common.{◌≡◌, ℕ, List, ◌∷◌, map, Bool, ◌&&◌, String, Global, string_bytes, Bor, sym, ap, ◌∙◌}
use Rattle.std.specs.List.{list_any}
use Rattle.std.specs.Str.{bytes_eq}
use Rattle.serde_json.specs.View.{members_view}
use Rattle.serde_json.specs.declared.value.Value.{Value}
use Rattle.pool_forms.specs.Fields.{all_among}
use Rattle.pool_forms.proofs.Lists.{any_of_map}

abbrev pub Entry : Type 0
Entry = String Global × Value

-- the first member's name is tested, and then the others
pub all_among_step : (names : List (Bor (List ℕ))) (all : List Entry) (entry : Entry) (rest : List Entry) (known : Bool)
    → known ≡ list_any (λ n. bytes_eq n.now (string_bytes entry.0)) names
    → all ≡ entry ∷ rest
    → all_among (map (λ n. n.now) names) (members_view all) ≡ known && all_among (map (λ n. n.now) names) (members_view rest)
all_among_step names all entry rest known e split =
    ap (λ es. all_among (map (λ n. n.now) names) (members_view es)) split
    ∙ ap (λ b. b && all_among (map (λ n. n.now) names) (members_view rest)) (any_of_map (λ n. bytes_eq n (string_bytes entry.0)) (λ n. n.now) names ∙ sym e)
