-- How a dense region keeps a column of bytes: a prefix of it, past which it is zeros.
use Rattle.std.specs.Prelude.{ℕ, ◌-◌, ◌/◌, ◌≤◌, List, ◌++◌, length, replicate, Bool}
use Rattle.pool_pages.specs.Contents.{Contents, put_all, erased}

-- the prefix, and zeros up to a length
abbrev pub with_zeros : ℕ → List ℕ → List ℕ
with_zeros len prefix = prefix ++ replicate (len - length prefix) 0

-- the prefix lies in the column, and its buffer has room for the whole column
pub record IsPrefix (len : ℕ) (prefix : List ℕ) (room : ℕ) : Type 0 where
  pub inside : length prefix ≤ len
  pub fits : len ≤ room

-- the columns of a region
abbrev pub dense : ℕ → List ℕ → List ℕ → List Bool → List Bool → List ℕ → Contents
dense page bytes origin accessible dirty colour = record {
  page = page;
  bytes = bytes;
  origin = origin;
  accessible = accessible;
  dirty = dirty;
  colour = colour;
}

-- the pages hold zeros as erased ones do, and can be reached or not
abbrev pub zeroed : Bool → ℕ → ℕ → Contents → Contents
zeroed access start len c = record (erased start len c) { accessible = put_all (start / c.page) (len / c.page) access c.accessible }
