-- The bytes of an image.
use Rattle.std.specs.Prelude.{ℕ, List}

-- The bytes of an image, with the size of the pages that they are mapped as.
pub record ImageBytes : Type 0 where
  pub page : ℕ
  pub bytes : List ℕ
