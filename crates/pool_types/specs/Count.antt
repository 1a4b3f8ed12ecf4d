-- Byte counts: numbers of bytes that are whole pages.
use Rattle.std.specs.Prelude.{ℕ, ◌+◌, ◌-◌, ◌*◌, ◌/◌, ◌≤◌, IsTrue}
use Rattle.std.specs.Int.{is_power_of_two}

-- a number of bytes beside the size of the pages that it is counted in
pub record Count : Type 0 where
  pub page : ℕ
  pub bytes : ℕ

-- So many bytes, counted in pages of this size.
abbrev pub count : ℕ → ℕ → Count
count page bytes = record { page = page; bytes = bytes }

-- a page size is a power of two from 16 to 65,536
pub record IsPageSize (size : ℕ) : Type 0 where
  pub at_least : 16 ≤ size
  pub at_most : size ≤ 65536
  pub power_of_two : IsTrue (is_power_of_two size)

-- the next multiple of the page at or above a number of bytes
abbrev pub rounded_up : ℕ → ℕ → ℕ
rounded_up page bytes = (bytes + page - 1) / page * page
