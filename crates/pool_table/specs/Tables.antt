-- A table over a region: its elements, and what each call makes of it.
use Rattle.std.specs.Prelude.{◌≡◌, ℕ, ◌+◌, ◌-◌, ◌*◌, ◌^◌, ◌<◌, ◌≤◌, ◌++◌, List, map, replicate, slice_range, nat_le, if◌then◌else◌, Option, Some, None, IfSome, option_map, Result, Ok, Err}
use Rattle.std.specs.List.{concat, range_with_len}
use Rattle.pool_pages.specs.Contents.{Contents, IsShaped, CanReach, put, put_all}
use Rattle.pool_pages.specs.Told.{Told, overwritten}
use Rattle.pool_types.specs.declared.module_types.IndexType.{IndexType}
use Rattle.pool_types.specs.declared.module_types.IndexType.TheVariants.{I32, I64}
use Rattle.pool_types.specs.declared.table_type.TableType.{TableType}
use Rattle.pool_limits.specs.declared.errors.Trap.{Trap}
use Rattle.pool_limits.specs.declared.errors.Trap.TheVariants.{TableOutOfBounds}
use Rattle.pool_table.specs.Elements.{ElementKind, Element, width, word, empty, element_of}

-- what its elements are, how many it has and may have, and the region that they lie in
pub record TableState : Type 0 where
  pub kind : ElementKind
  pub size : ℕ
  pub maximum : ℕ
  pub region : Told

-- the first n elements that these bytes are, one behind the other
abbrev pub elements_in : ElementKind → ℕ → List ℕ → List Element
elements_in kind n bytes = map (λ e. element_of kind (slice_range bytes (e * width kind) (e * width kind + width kind))) (range_with_len 0 n)

-- the table's elements, where its region tells them
abbrev pub elements : TableState → Option (List Element)
elements t = option_map (λ c. elements_in t.kind t.size c.bytes) t.region.contents

-- The region is as a write of these bytes, from a place on, leaves it, in however many parts they were written.
abbrev pub Rewrites : ℕ → List ℕ → Told → Told → Type 0
Rewrites at new old after = after ≡ overwritten at new old

-- what a region holds that a table can lie in: the first n bytes can be reached, all pages go back to zeros, and the bytes
-- from one place to another are zeros
pub record IsRoom (page len from to : ℕ) (c : Contents) : Type 0 where
  pub shaped : IsShaped page len c
  pub reach : CanReach 0 to c
  pub origin : c.origin ≡ replicate len 0
  pub zeros : slice_range c.bytes from to ≡ replicate (to - from) 0

-- What holds of every table: its elements lie in the region, and what it may have more of them is zeros.
pub record IsTable (t : TableState) : Type 0 where
  pub within : t.size ≤ t.maximum
  pub room : t.maximum * width t.kind ≤ t.region.len
  pub bounded : t.region.len < 2 ^ 64
  pub page : 0 < t.region.page
  pub contents : IfSome t.region.contents (IsRoom t.region.page t.region.len (t.size * width t.kind) (t.maximum * width t.kind))

-- an access that ends here is in bounds, or a trap
abbrev pub table_access : ℕ → ℕ → Result (Unit {0}) Trap
table_access end size = if nat_le end size then Ok tt else Err TableOutOfBounds

-- so many elements from a place on became this one
pub record Fills (first count : ℕ) (element : Element) (old after : TableState) : Type 0 where
  pub same : after ≡ record old { region = after.region }
  pub words : Rewrites (first * width old.kind) (concat (replicate count (word old.kind element))) old.region after.region
  pub elements : elements after ≡ option_map (put_all first count element) (elements old)

-- all its elements became empty: the bytes up to its size are zeros
pub record Empties (old after : TableState) : Type 0 where
  pub same : after ≡ record old { region = after.region }
  pub bytes : Rewrites 0 (replicate (old.size * width old.kind) 0) old.region after.region
  pub elements : elements after ≡ option_map (λ es. replicate old.size (empty old.kind)) (elements old)

-- Element k lies as zeros in these bytes.
abbrev pub IsZeroWord : ElementKind → ℕ → List ℕ → Type 0
IsZeroWord kind k bytes = slice_range bytes (k * width kind) (k * width kind + width kind) ≡ replicate (width kind) 0

-- Each element of the table lies as zeros in these bytes.
abbrev pub WordsAreZero : TableState → List ℕ → Type 0
WordsAreZero t bytes = (k : ℕ) → k < t.size → IsZeroWord t.kind k bytes

-- these bytes of its region became zeros
pub record ZeroesBytes (start len : ℕ) (old after : TableState) : Type 0 where
  pub same : after ≡ record old { region = after.region }
  pub bytes : Rewrites start (replicate len 0) old.region after.region

-- the table has so many more elements, which are empty
pub record GrowsBy (more : ℕ) (old after : TableState) : Type 0 where
  pub same : after ≡ record old { size = old.size + more }
  pub elements : elements after ≡ option_map (λ es. es ++ replicate more (empty old.kind)) (elements old)

-- The last number that an index of this type can name.
abbrev pub greatest_index : IndexType → ℕ
greatest_index I32 = 2 ^ 32 - 1
greatest_index I64 = 2 ^ 64 - 1

-- A maximum where there is one, else the bound that holds anyway.
abbrev pub greatest_of : Option ℕ → ℕ → ℕ
greatest_of None bound = bound
greatest_of (Some most) bound = most

-- The greatest number of elements by a table's type: its maximum, or the last that its index can name.
abbrev pub type_maximum : TableType → ℕ
type_maximum ty = greatest_of ty.limits.max (greatest_index ty.idx_type)
