-- A table as its party sees it, and what each command on it makes of it.
use Rattle.std.specs.Prelude.{◌≡◌, ℕ, zero, suc, ◌+◌, ◌-◌, ◌^◌, ◌<◌, ◌≤◌, ◌==◌, ◌++◌, List, slice_get, replicate, Bool, true, not, nat_lt, if◌then◌else◌, Option, Some, IfSome, option_map, Ok}
use Rattle.pool_run.specs.Imports.{list_any, put_all, risen, GrowthRule, table_answer, table_failure, TableOutOfBounds, ElementKind, functions, gc_refs, continuations, empty, type_of, element_of}
use Rattle.pool_table.specs.Elements as elem
use Rattle.pool_run.specs.Acts.{TableOp, gets, sets, lengthens, asks_length}
use Rattle.pool_run.specs.GrowthEnds.{GrowthEnd, as_it_was, has_grown, if_allowed, reported}
use Rattle.pool_run.specs.TableValues.{element_for}
use Rattle.pool_run.specs.declared.reply.Reply.{Reply}
use Rattle.pool_run.specs.declared.reply.Reply.TheVariants.{Done, Size, Grown, Element, Refused, Trap}
use Rattle.pool_run.specs.declared.reply.Refusal.TheVariants.{GcStoreFault}

-- What the host answers a party: the rule by which the growth of its memories and tables is decided, and which calls on
-- its store of GC references fail, and which makings by its maker of heaps, by their numbers from 1 on.
pub record Host : Type 0 where
  pub rule : GrowthRule
  pub failing : List ℕ
  pub unmade : List ℕ

-- a live table: the slot that its reply named, what its elements are, how many it has and may have, and the elements,
-- where they are told
pub record PrivateTable : Type 0 where
  pub slot : ℕ
  pub kind : ElementKind
  pub size : ℕ
  pub maximum : ℕ
  pub elements : Option (List elem.Element)

-- a live table, and how many calls were made on the store of its party so far
pub record StoredTable : Type 0 where
  pub table : PrivateTable
  pub calls : ℕ

-- the count of calls after so many more
abbrev pub calls_after : ℕ → ℕ → ℕ
calls_after zero made = made
calls_after (suc n) made = risen (calls_after n made)

-- the next call goes through: it isn't one of those that fail
abbrev pub goes_through : List ℕ → ℕ → Bool
goes_through failing made = not (list_any (λ n. n == risen made) failing)

-- of so many calls, one after another up to one that fails, so many go through
abbrev pub calls_through : List ℕ → ℕ → ℕ → ℕ
calls_through failing made zero = 0
calls_through failing made (suc n) = if goes_through failing made then 1 + calls_through failing (risen made) n else 0

-- How many are set of so many elements of this kind: all, but GC references only up to the first call on the store that
-- fails.
abbrev pub elements_set : ElementKind → List ℕ → ℕ → ℕ → ℕ
elements_set gc_refs failing made count = calls_through failing made count
elements_set _ failing made count = count

-- the reply to a look at one element
abbrev pub IsGot : PrivateTable → ℕ → Reply → Type 0
IsGot t at (Element told) = (at < t.size) × IfSome t.elements (λ es. slice_get es at ≡ Some (element_of told))
IsGot t at (Trap trap) = (trap ≡ TableOutOfBounds) × (t.size ≤ at)
IsGot t at _ = ⊥

-- the table with so many elements from a place on set to one
abbrev pub table_filled : ℕ → ℕ → elem.Element → PrivateTable → PrivateTable
table_filled at count e t = record t { elements = option_map (put_all at count e) t.elements }

-- A store is told of each GC reference before it is set, in rising order. The first call that fails ends the fill.
abbrev pub stored_fill : ℕ → ℕ → ℕ → elem.Element → StoredTable → StoredTable × Reply
stored_fill through at count e t =
    if through == count
    then (record { table = table_filled at count e t.table; calls = calls_after count t.calls }, Done)
    else (record { table = table_filled at through e t.table; calls = risen (calls_after through t.calls) }, Refused GcStoreFault)

-- a table of functions or of continuations has no store
abbrev pub kind_filled : ElementKind → List ℕ → ℕ → ℕ → elem.Element → StoredTable → StoredTable × Reply
kind_filled gc_refs failing at count e t = stored_fill (calls_through failing t.calls count) at count e t
kind_filled _ failing at count e t = (record t { table = table_filled at count e t.table }, Done)

-- The table after so many of its elements were to be set from a place on, and the reply. Past its size nothing is set.
abbrev pub filled_by : List ℕ → ℕ → ℕ → elem.Element → StoredTable → StoredTable × Reply
filled_by failing at count e t =
    if nat_lt t.table.size (at + count)
    then (t, Trap TableOutOfBounds)
    else kind_filled t.table.kind failing at count e t

-- the table with so many empty elements more
abbrev pub table_grown : ℕ → PrivateTable → PrivateTable
table_grown by t = record t { size = t.size + by; elements = option_map (λ es. es ++ replicate by (empty t.kind)) t.elements }

-- The reply to a table's growth that fails once the limiter allowed it.
abbrev pub table_report : GrowthRule → Reply
table_report rule = reported (table_failure (Some rule) (Ok tt))

-- The end of a growth by so many elements under this rule, and the reply. By none nobody is asked. A size that no number
-- of 64 bits is, is only reported; then the limiter is asked; then a size past the maximum is reported. No page is called
-- on.
abbrev pub table_growth : GrowthRule → ℕ → PrivateTable → GrowthEnd × Reply
table_growth rule by t =
    if by == 0
    then (as_it_was, Grown (Some t.size))
    else (
    if nat_lt (2 ^ 64 - 1) (t.size + by)
    then (as_it_was, table_report rule)
    else if_allowed (table_answer (Some rule) (Ok true) (t.size + by) (Some t.maximum)) (
    if nat_lt t.maximum (t.size + by)
    then (as_it_was, table_report rule)
    else (has_grown, Grown (Some t.size)))
    )

-- the table after a growth by so many elements that ended so
abbrev pub table_left : GrowthEnd → ℕ → PrivateTable → PrivateTable
table_left has_grown by t = table_grown by t
table_left _ by t = t

-- What an operation makes of a live table, and the reply. A look changes nothing.
abbrev pub TableMoves : TableOp → Host → StoredTable → StoredTable → Reply → Type 0
TableMoves (gets at) host t new reply = IsGot t.table at reply × (new ≡ t)
TableMoves (sets at count value) host t new reply = (new, reply) ≡ filled_by host.failing at count (element_for (type_of t.table.kind) value) t
TableMoves (lengthens by) host t new reply =
    (new ≡ record t { table = table_left (table_growth host.rule by t.table).0 by t.table }) × (reply ≡ (table_growth host.rule by t.table).1)
TableMoves asks_length host t new reply = (reply ≡ Size t.table.size) × (new ≡ t)
