-- The first table that begins with too many elements is found from left to right.
use Rattle.std.proofs.Common.{◌≡◌, ℕ, ◌+◌, ◌<◌, ◌≤◌, List, length, drop, get_or, ap, ◌∙◌, sym, Bool, true, false, Option, Some, None, nat_lt, if◌then◌else◌}
use Rattle.pool_alloc.proofs.Imports.{option_or, at_drop_more, at_drop_all, TableType, Unsupported, TableExceedsSlot}
use Rattle.pool_alloc.specs.Refusals.{long_table}
use Rattle.pool_alloc.specs.declared.pool_core.Settings.{Settings}

module _ (s : Settings) (tables : List TableType) where
  abbrev min_at : ℕ → TableType → ℕ
  min_at k d = (get_or tables k d).limits.min

  -- what is refused from table k on, where it begins with too many or doesn't
  abbrev from_here : ℕ → TableType → Bool → Option Unsupported
  from_here k d b = option_or (if b then Some (TableExceedsSlot k (min_at k d) s.table_elements) else None) (long_table s (k + 1) (drop (k + 1) tables))

  pub long_later : (k : ℕ) (d : TableType) → k < length tables → nat_lt s.table_elements (min_at k d) ≡ false → long_table s (k + 1) (drop (k + 1) tables) ≡ long_table s k (drop k tables)
  long_later k d below few = sym (at_drop_more (long_table s k) tables k d below ∙ ap (from_here k d) few)

  pub long_here : (k : ℕ) (d : TableType) → k < length tables → nat_lt s.table_elements (min_at k d) ≡ true → long_table s k (drop k tables) ≡ Some (TableExceedsSlot k (min_at k d) s.table_elements)
  long_here k d below many = at_drop_more (long_table s k) tables k d below ∙ ap (from_here k d) many

  pub long_nowhere : (k : ℕ) → length tables ≤ k → long_table s k (drop k tables) ≡ None
  long_nowhere k beyond = at_drop_all (long_table s k) tables k beyond
