-- What a hall was made with.
use Rattle.std.specs.Prelude.{ℕ, ◌+◌, List, length}
use Rattle.pool_hall.specs.declared.law.Made.{Made}

module _ {T : Type 0} where
  -- its parts, in the order of their places
  abbrev pub parts_of : Made T → List T
  parts_of k = k.parts.value.items

  -- the limits of its counters
  abbrev pub limits_in : Made T → List ℕ
  limits_in k = k.limits.value.items

  -- how many places and counters it has
  abbrev pub word_count : Made T → ℕ
  word_count k = length (parts_of k) + length (limits_in k)
