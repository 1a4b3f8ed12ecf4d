-- A list whose room is reserved.
use Rattle.std.specs.Prelude.{◌≡◌, ℕ, List, [], ◌∷◌, ◌++◌, Option, Some, None}

-- the items, and how many there is room for
pub record Reserved (X : Type 0) : Type 0 where
  pub items : List X
  pub room : ℕ

-- the list without room
abbrev pub no_room : {X : Type 0} → Reserved X
no_room = record { items = []; room = 0 }

-- the list with one more item at its end
abbrev pub with_item : {X : Type 0} → X → Reserved X → Reserved X
with_item x l = record l { items = l.items ++ x ∷ [] }

-- the first item is taken out, if there is one
abbrev pub IsPopped : {X : Type 0} → Reserved X → Option X → Reserved X → Type 0
IsPopped old None new = (old.items ≡ []) × (new ≡ old)
IsPopped old (Some x) new = old ≡ record new { items = x ∷ new.items }
