-- Places in a list.
use Rattle.std.specs.Prelude.{ℕ, ◌+◌, Bool, List, [], ◌∷◌, Option, None, Some, option_map, if◌then◌else◌}
use Rattle.std.specs.Option.{option_or}

-- the last place at which a test passes
abbrev pub last_position : {X : Type 0} → (X → Bool) → List X → Option ℕ
last_position p [] = None
last_position p (x ∷ xs) = option_or (option_map (λ i. i + 1) (last_position p xs)) (if p x then Some 0 else None)
