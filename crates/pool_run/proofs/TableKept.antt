-- A table of the pool stays one, whatever its party does with it: it lies where it lay, and what it doesn't use holds zeros.
use Rattle.std.proofs.Common.{[], ◌≡◌, ℕ, zero, suc, ◌+◌, ◌-◌, ◌*◌, ◌%◌, ◌<◌, ◌≤◌, Bool, true, false, List, length, replicate, Some, inl, inr, refl, sym, ap, ◌∙◌, subst, arith, ◌==◌, nat_lt, if◌then◌else◌, option_map}
use Rattle.pool_run.proofs.Imports.{concat, mul-le-mul_right, cases_Bool, ltb-false, rounded_is_whole, rounded_up_above, MakerTold, Told, risen, rounded_up_more, GrowthRule, TableOutOfBounds, IsPlain, plain_slot, Plan, rounded_within, ElementKind, functions, gc_refs, continuations, type_of, width, IsTable, TableView, state_in, ListedStore, IsPoolTable, IsTableLease, LeasedTable, LiesInRegion, bytes_used, Settings}
use Rattle.pool_alloc.proofs.TableWrites.{CanLie, lies_after, unused_later, word_wide, words_wide}
use Rattle.pool_table.specs.Elements as elem
use Rattle.pool_run.specs.Acts.{TableOp, gets, sets, lengthens, asks_length}
use Rattle.pool_run.specs.GrowthEnds.{GrowthEnd, as_it_was, could_not, has_grown}
use Rattle.pool_run.specs.PrivateTables.{Host, PrivateTable, StoredTable, calls_after, goes_through, calls_through, elements_set, table_filled, kind_filled, table_growth, table_left, TableMoves}
use Rattle.pool_run.specs.TableValues.{element_for}
use Rattle.pool_run.specs.Turns.{private_table, stored_as, region_set, region_left, MovesTable}
use Rattle.pool_run.specs.declared.reply.Reply.{Reply}
use Rattle.pool_run.specs.declared.reply.Reply.TheVariants.{Done, Refused, Trap}
use Rattle.pool_run.specs.declared.reply.Refusal.TheVariants.{GcStoreFault}

-- no more are set than are wanted
through_most : (failing : List ℕ) (made count : ℕ) → calls_through failing made count ≤ count
through_most failing made zero = omega arith
through_most failing made (suc n) =
    elim (cases_Bool (goes_through failing made)) [
      | inl goes ↦ let one : calls_through failing made (suc n) ≡ 1 + calls_through failing (risen made) n = rw goes refl in omega (arith, one, through_most failing (risen made) n)
      | inr ends ↦ let none : calls_through failing made (suc n) ≡ 0 = rw ends refl in omega (arith, none)
    ]

set_most : (kind : ElementKind) (failing : List ℕ) (made count : ℕ) → elements_set kind failing made count ≤ count
set_most gc_refs failing made count = through_most failing made count
set_most (functions lazy) failing made count = omega arith
set_most continuations failing made count = omega arith

-- A table keeps its kind, and never has fewer elements than before.
record IsNoLess (old new : PrivateTable) : Type 0 where
  kind : new.kind ≡ old.kind
  size : old.size ≤ new.size

no_less : (t : PrivateTable) → IsNoLess t t
no_less t = record { kind = refl; size = omega arith }

stored_no_less : (b : Bool) (through at count : ℕ) (e : elem.Element) (t : StoredTable) → IsNoLess t.table (if◌then◌else◌ {A = StoredTable × Reply} b (record { table = table_filled at count e t.table; calls = calls_after count t.calls }, Done) (record { table = table_filled at through e t.table; calls = risen (calls_after through t.calls) }, Refused GcStoreFault)).0.table
stored_no_less true through at count e t = record { kind = refl; size = omega arith }
stored_no_less false through at count e t = record { kind = refl; size = omega arith }

kind_no_less : (kind : ElementKind) (failing : List ℕ) (at count : ℕ) (e : elem.Element) (t : StoredTable) → IsNoLess t.table (kind_filled kind failing at count e t).0.table
kind_no_less gc_refs failing at count e t = stored_no_less (calls_through failing t.calls count == count) (calls_through failing t.calls count) at count e t
kind_no_less (functions lazy) failing at count e t = record { kind = refl; size = omega arith }
kind_no_less continuations failing at count e t = record { kind = refl; size = omega arith }

filled_no_less : (b : Bool) (failing : List ℕ) (at count : ℕ) (e : elem.Element) (t : StoredTable) → IsNoLess t.table (if◌then◌else◌ {A = StoredTable × Reply} b (t, Trap TableOutOfBounds) (kind_filled t.table.kind failing at count e t)).0.table
filled_no_less true failing at count e t = no_less t.table
filled_no_less false failing at count e t = kind_no_less t.table.kind failing at count e t

left_no_less : (end : GrowthEnd) (by : ℕ) (t : PrivateTable) → IsNoLess t (table_left end by t)
left_no_less has_grown by t = record { kind = refl; size = omega arith }
left_no_less as_it_was by t = no_less t
left_no_less could_not by t = no_less t

moved_no_less : (op : TableOp) (host : Host) (t new : StoredTable) (reply : Reply) → TableMoves op host t new reply → IsNoLess t.table new.table
moved_no_less (gets at) host t new reply is = subst (λ (x : StoredTable). IsNoLess t.table x.table) (sym is.1) (no_less t.table)
moved_no_less (sets at count value) host t new reply is =
    let N : StoredTable × Reply → Type 0 = λ x. IsNoLess t.table x.0.table in
    subst N (sym is) (filled_no_less (nat_lt t.table.size (at + count)) host.failing at count (element_for (type_of t.table.kind) value) t)
moved_no_less (lengthens by) host t new reply is = subst (λ (x : StoredTable). IsNoLess t.table x.table) (sym is.0) (left_no_less (table_growth host.rule by t.table).0 by t.table)
moved_no_less asks_length host t new reply is = subst (λ (x : StoredTable). IsNoLess t.table x.table) (sym is.1) (no_less t.table)

module _ (maker : MakerTold) (s : Settings) (plan : Plan) (op : TableOp) (rule : GrowthRule) (before after : ListedStore) (l new : LeasedTable) (reply : Reply) (of : IsTableLease maker s plan l) (moves : MovesTable op rule before after l new reply) where
  abbrev seen : StoredTable
  seen = stored_as l before

  abbrev used : ℕ
  used = bytes_used s.page l

  some_page : 0 < s.page
  some_page = rw (← of.lies.same_page) (omega (arith, of.lies.plain.fits.sizes.page_size.at_least))

  -- the region is that of its slot, whatever the operation,
  can_lie : (o : TableOp) → CanLie maker s l.index used of.region → CanLie maker s l.index used (region_left o before.failing seen of.region)
  can_lie (sets at count value) can = set_by (nat_lt l.table.size (at + count)) refl can
    where
      set_by : (past : Bool) → nat_lt l.table.size (at + count) ≡ past → CanLie maker s l.index used of.region → CanLie maker s l.index used (if past then of.region else region_set at (elements_set l.table.kind before.failing before.made count) (element_for (type_of l.table.kind) value) l.table.kind of.region)
      set_by true past can = can
      set_by false inside can =
          let kind : ElementKind = l.table.kind in
          let w : ℕ = width kind in
          let done : ℕ = elements_set kind before.failing before.made count in
          let piece : List ℕ = elem.word kind (element_for (type_of kind) value) in
          let long : length (concat (replicate done piece)) ≡ done * w = words_wide done piece ∙ ap (λ (n : ℕ). done * n) (word_wide kind (element_for (type_of kind) value)) in
          let fits : at + done ≤ l.table.size = omega (arith, ltb-false l.table.size (at + count) inside, set_most kind before.failing before.made count) in
          lies_after maker s l.index used (at * w) (concat (replicate done piece)) of.region
          (omega (arith, long, mul-le-mul_right w fits, rounded_up_above s.page (l.table.size * w) some_page)) of.lies.within can
  can_lie (gets at) can = can
  can_lie (lengthens by) can = can
  can_lie asks_length can = can

  -- and whole pages.
  whole_pages : (r : Told) → IsPlain (plain_slot 0 r) → r.page ≡ s.page → r.len % s.page ≡ 0
  whole_pages r plain page =
      let M : ℕ → Type 0 = λ n. n % r.page ≡ 0 in
      let all : r.len - 0 ≡ r.len = omega arith in
      let By : ℕ → Type 0 = λ p. r.len % p ≡ 0 in
      subst By page (subst M (plain.whole ∙ all) (rounded_is_whole r.page (r.len - 0)))

  abbrev left : Told
  left = region_left op before.failing seen of.region

  kept_if : LiesInRegion new.table → IsTableLease maker s plan new
  kept_if lies =
      let can : CanLie maker s l.index used left = can_lie op (record { is = of.slot; same_page = of.lies.same_page; plain = of.lies.plain; few = of.lies.few; unused = of.lies.unused }) in
      let there : new.table.region ≡ Some left = moves.region ∙ ap (option_map (region_left op before.failing seen)) of.lies.is in
      let same_region : lies.region ≡ left = let both : Some lies.region ≡ Some left = sym lies.is ∙ there in cc in
      let holds : IsTable (state_in left new.table) = subst (λ (r : Told). IsTable (state_in r new.table)) same_region lies.holds in
      let less : IsNoLess (private_table l) (private_table new) = moved_no_less op (record { rule = rule; failing = before.failing; unmade = [] }) seen (stored_as new after) reply moves.move in
      let wide : width new.table.kind ≡ width l.table.kind = ap width less.kind in
      let held : l.table.size * width l.table.kind ≤ new.table.size * width new.table.kind = rw wide (mul-le-mul_right (width l.table.kind) less.size) in
      let fits : new.table.size * width new.table.kind ≤ left.len = omega (arith, mul-le-mul_right (width new.table.kind) holds.within, holds.room) in
      let more : used ≤ bytes_used s.page new = rounded_up_more s.page (l.table.size * width l.table.kind) (new.table.size * width new.table.kind) some_page held in
      let index : new.index ≡ l.index = ap (λ (x : LeasedTable). x.index) moves.same in
      let Inside : ℕ → Type 0 = λ i. i < plan.totals.table in
      let Is : ℕ → Type 0 = λ i. IsPoolTable maker s i (plain_slot 0 left) in
      record {
        inside = subst Inside (sym index) of.inside;
        region = left;
        slot = subst Is (sym index) can.is;
        lies = record {
          is = there;
          same_page = can.same_page;
          plain = can.plain;
          few = can.few;
          within = rounded_within s.page (new.table.size * width new.table.kind) left.len some_page (whole_pages left can.plain can.same_page) fits;
          unused = unused_later used (bytes_used s.page new) left left.contents can.plain more can.unused;
        };
        there = lies;
      }

  kept_same : new.table ≡ l.table → IsTableLease maker s plan new
  kept_same same = subst (IsTableLease maker s plan) (sym (moves.same ∙ ap (λ (t : TableView). record l { table = t }) same)) of

  pub table_kept : IsTableLease maker s plan new
  table_kept = elim moves.lies [ inl same ↦ kept_same same | inr lies ↦ kept_if lies ]
