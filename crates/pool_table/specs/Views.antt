-- A table as its callers see it, wherever its elements are, and what each call makes of it.
use Rattle.std.specs.Prelude.{◌≡◌, ℕ, ◌+◌, ◌*◌, ◌++◌, List, length, replicate, Option, Some, None, IfSome, option_map}
use Rattle.std.specs.List.{concat}
use Rattle.pool_pages.specs.Contents.{put_all}
use Rattle.pool_pages.specs.Told.{Told}
use Rattle.pool_table.specs.Elements.{ElementKind, Element, width, word, empty}
use Rattle.pool_table.specs.Tables.{TableState, Rewrites, elements}

-- what its elements are, how many it has and may have, the elements where they are told, and the region in which they lie
-- as words, where they lie in one
pub record TableView : Type 0 where
  pub kind : ElementKind
  pub size : ℕ
  pub maximum : ℕ
  pub elements : Option (List Element)
  pub region : Option Told

-- a table over a region
abbrev pub in_region : TableState → TableView
in_region t = record { kind = t.kind; size = t.size; maximum = t.maximum; elements = elements t; region = Some t.region }

-- a table that has its elements in a list
pub record ListedTable : Type 0 where
  pub kind : ElementKind
  pub maximum : ℕ
  pub elements : List Element

-- What callers see of a table in a list: its elements, and no region.
abbrev pub in_list : ListedTable → TableView
in_list t = record { kind = t.kind; size = length t.elements; maximum = t.maximum; elements = Some t.elements; region = None }

-- such a table that lies in this region
abbrev pub state_in : Told → TableView → TableState
state_in region t = record { kind = t.kind; size = t.size; maximum = t.maximum; region = region }

-- where a table lies in a region, this became of the region; a table in a list has none, before and after
abbrev pub IfRegions : (Told → Told → Type 0) → Option Told → Option Told → Type 0
IfRegions R None None = Unit {0}
IfRegions R None (Some after) = ⊥
IfRegions R (Some old) None = ⊥
IfRegions R (Some old) (Some after) = R old after

-- so many elements from a place on became this one, and so did their words
pub record FillsTable (first count : ℕ) (element : Element) (old after : TableView) : Type 0 where
  pub same : after ≡ record old { elements = after.elements; region = after.region }
  pub elements : after.elements ≡ option_map (put_all first count element) old.elements
  pub words : IfRegions (Rewrites (first * width old.kind) (concat (replicate count (word old.kind element)))) old.region after.region

-- all its elements became empty, and their words zeros
pub record EmptiesTable (old after : TableView) : Type 0 where
  pub same : after ≡ record old { elements = after.elements; region = after.region }
  pub elements : after.elements ≡ option_map (λ es. replicate old.size (empty old.kind)) old.elements
  pub bytes : IfRegions (Rewrites 0 (replicate (old.size * width old.kind) 0)) old.region after.region

-- the table has so many more elements, which are empty; a region stays as it is
pub record GrowsTable (more : ℕ) (old after : TableView) : Type 0 where
  pub same : after ≡ record old { size = old.size + more; elements = after.elements }
  pub elements : after.elements ≡ option_map (λ es. es ++ replicate more (empty old.kind)) old.elements

-- the elements are those that lie in the region, where the table lies in one
abbrev pub LiesThere : TableView → Type 0
LiesThere t = IfSome t.region (λ region. t.elements ≡ elements (state_in region t))

-- these bytes of its region became zeros, and so the elements that lie there
pub record ZeroesTable (start len : ℕ) (old after : TableView) : Type 0 where
  pub same : after ≡ record old { elements = after.elements; region = after.region }
  pub bytes : IfRegions (Rewrites start (replicate len 0)) old.region after.region
  pub lies : LiesThere after
