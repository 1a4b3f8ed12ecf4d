-- A table of the pool stays one once its elements were set: it lies where it lay, and what it doesn't use holds zeros.
use Rattle.std.proofs.Common.{◌≡◌, ◌⊎◌, inl, inr, ℕ, zero, suc, ◌+◌, ◌-◌, ◌*◌, ◌^◌, ◌<◌, ◌≤◌, Bool, true, false, List, length, replicate, Option, Some, None, Result, refl, sym, ap, ◌∙◌, subst, arith, is_ok, is_some, option_map}
use Rattle.std.specs.List.{concat}
use Rattle.pool_alloc.proofs.Imports.{cases_lt, mul-le-mul_right, length-append, rounded_up_above, range_within, Contents, MakerTold, Told, Slot, identity, size_of, IsPlain, IsUnusedFrom, plain_slot, Plan, width, TableView}
use Rattle.pool_pages.proofs.Puts.{range-put_above}
use Rattle.pool_pages.specs.Contents.{written}
use Rattle.pool_pages.specs.Told.{overwritten}
use Rattle.pool_slots.proofs.PlainSlots.{plain_after}
use Rattle.pool_table.specs.Elements.{Element, ElementKind, functions, gc_refs, continuations, uninitialised, func, gc_ref, cont, word}
use Rattle.pool_table.specs.Stores.{StoreCall, StoreEnds, StoreTold}
use Rattle.pool_table.specs.Tables.{Rewrites}
use Rattle.pool_table.specs.Views.{FillsTable, IfRegions}
use Rattle.pool_table.specs.declared.gc_store.GcTableError.{GcTableError}
use Rattle.pool_alloc.specs.PoolTables.{IsPoolTable, IsTableLease}
use Rattle.pool_alloc.specs.TableLeases.{IsFilled, LeasedTable, SetsElements}
use Rattle.pool_alloc.specs.TableSteps.{bytes_used}
use Rattle.pool_alloc.specs.declared.pool_core.Settings.{Settings}

-- A region is that of its table's slot, and a table that uses so many of its bytes can lie there.
pub record CanLie (maker : MakerTold) (s : Settings) (slot used : ℕ) (region : Told) : Type 0 where
  pub is : IsPoolTable maker s slot (plain_slot 0 region)
  pub same_page : region.page ≡ s.page
  pub plain : IsPlain (plain_slot 0 region)
  pub few : region.len ≤ 2 ^ 32
  pub unused : IsUnusedFrom used (plain_slot 0 region)

told_still : (at : ℕ) (bytes : List ℕ) (o : Option Contents) → is_some (option_map (written at bytes) o) ≡ is_some o
told_still at bytes None = refl
told_still at bytes (Some c) = refl

-- what a plain slot holds from a place on it still holds after bytes before that were written
unused_by : (at used : ℕ) (bytes : List ℕ) (region : Told) (o : Option Contents) → IsPlain (plain_slot 0 (record region { contents = o })) → at + length bytes ≤ used → used ≤ region.len → IsUnusedFrom used (plain_slot 0 (record region { contents = o })) → IsUnusedFrom used (plain_slot 0 (record region { contents = option_map (written at bytes) o }))
unused_by at used bytes region None p before inside unused = unused
unused_by at used bytes region (Some c) p before inside unused =
    let z : Slot = plain_slot 0 (record region { contents = Some c }) in
    let long : length c.bytes ≡ region.len = p.fits.told.shaped.bytes in
    range-put_above at bytes c.bytes (z.base.bytes + used) (z.base.bytes + size_of z) (omega (arith, before, inside, long)) (omega (arith, p.fits.sizes.inside, long)) (omega (arith, before)) ∙ unused

-- what is not used from one place on isn't from a later one
pub unused_later : (from used : ℕ) (region : Told) (o : Option Contents) → IsPlain (plain_slot 0 (record region { contents = o })) → from ≤ used → IsUnusedFrom from (plain_slot 0 (record region { contents = o })) → IsUnusedFrom used (plain_slot 0 (record region { contents = o }))
unused_later from used region None p more unused = unused
unused_later from used region (Some c) p more unused =
    let z : Slot = plain_slot 0 (record region { contents = Some c }) in
    range_within c.bytes c.origin (z.base.bytes + from) (z.base.bytes + size_of z) (z.base.bytes + used) (z.base.bytes + size_of z)
    (omega (arith, p.fits.sizes.inside, p.fits.told.shaped.bytes)) (omega (arith, p.fits.sizes.inside, p.fits.told.shaped.origin)) (omega (arith, more)) (omega arith) unused

-- It stays so once bytes of its elements are written.
pub lies_after : (maker : MakerTold) (s : Settings) (slot used at : ℕ) (bytes : List ℕ) (region : Told) → at + length bytes ≤ used → used ≤ region.len → CanLie maker s slot used region → CanLie maker s slot used (overwritten at bytes region)
lies_after maker s slot used at bytes region before inside can =
    let z : Slot = plain_slot 0 region in
    let all : region.len - 0 ≡ region.len = omega arith in
    let start : 0 + at ≡ at = omega arith in
    let Plain : ℕ → Type 0 = λ n. IsPlain (plain_slot 0 (overwritten n bytes region)) in
    record {
      is = record { same = ap (λ (b : Bool). record (identity z) { tells = b }) (told_still at bytes region.contents) ∙ can.is.same };
      same_page = can.same_page;
      plain = subst Plain start (plain_after at bytes z can.plain (omega (arith, can.plain.all, all, before, inside)));
      few = can.few;
      unused = unused_by at used bytes region region.contents can.plain before inside can.unused;
    }

-- the words of so many elements
pub word_wide : (kind : ElementKind) (e : Element) → length (word kind e) ≡ width kind
word_wide (functions lazy) uninitialised = refl
word_wide (functions lazy) (func f) = refl
word_wide (functions lazy) (gc_ref r) = refl
word_wide (functions lazy) (cont c) = refl
word_wide gc_refs uninitialised = refl
word_wide gc_refs (func f) = refl
word_wide gc_refs (gc_ref r) = refl
word_wide gc_refs (cont c) = refl
word_wide continuations uninitialised = refl
word_wide continuations (func f) = refl
word_wide continuations (gc_ref r) = refl
word_wide continuations (cont None) = refl
word_wide continuations (cont (Some object)) = refl

pub words_wide : (count : ℕ) (piece : List ℕ) → length (concat (replicate count piece)) ≡ count * length piece
words_wide zero piece = omega arith
words_wide (suc n) piece = grind (arith, length-append piece (concat (replicate n piece)), words_wide n piece)

-- A fill in bounds sets as many elements as the store lets through, and no more than are wanted.
abbrev SetsSome : ℕ → ℕ → Element → TableView → TableView → Type 0
SetsSome at count e old new = (done : ℕ) × ((done ≤ count) × FillsTable at done e old new)

no_more : {G : Type 0} (told : G → StoreTold) (leads : G → StoreCall → G → Type 0) (first count done : ℕ) (new : Option ℕ) (es : Option (List Element)) (before after : G) (whole : Bool) → StoreEnds told leads first count done new es before after whole → done ≤ count
no_more told leads first count done new es before after true ends = omega (arith, ends.0)
no_more told leads first count done new es before after false ends = omega (arith, ends.0)

sets_some : {G : Type 0} (told : G → StoreTold) (leads : G → StoreCall → G → Type 0) (at count : ℕ) (e : Element) (old new : TableView) (before after : G) (r : Result (Unit {0}) GcTableError) → SetsElements told leads at count e old new before after r → SetsSome at count e old new
sets_some told leads at count uninitialised old new before after r is = (count, (omega arith, is.1))
sets_some told leads at count (func f) old new before after r is = (count, (omega arith, is.1))
sets_some told leads at count (gc_ref x) old new before after r is =
    let asked = is.1.1.1 in
    (is.1.0, (no_more told leads at count is.1.0 x old.elements asked.0 after (is_ok r) asked.1.1, is.1.1.0))
sets_some told leads at count (cont c) old new before after r is = (count, (omega arith, is.1))

-- What became of a table's region: it is as it was, or bytes of it were written.
abbrev pub IsRewritten : Option Told → Option Told → Type 0
IsRewritten old new = (new ≡ old) ⊎ ((at : ℕ) × ((bytes : List ℕ) × (new ≡ option_map (overwritten at bytes) old)))

rewritten : (at : ℕ) (bytes : List ℕ) (old new : Option Told) → IfRegions (Rewrites at bytes) old new → new ≡ option_map (overwritten at bytes) old
rewritten at bytes None None words = refl
rewritten at bytes None (Some n) words = absurd words
rewritten at bytes (Some r) None words = absurd words
rewritten at bytes (Some r) (Some n) words = ap Some words

module _ {G : Type 0} (told : G → StoreTold) (leads : G → StoreCall → G → Type 0) (at count : ℕ) (e : Element) (l n : LeasedTable) (before after : G) (r : Result (Unit {0}) GcTableError) (is : IsFilled told leads at count e l n before after r) where
  some_set : at + count ≤ l.table.size → SetsSome at count e l.table n.table
  some_set inside = sets_some told leads at count e l.table n.table before after r (is.set.inside inside)

  -- The region of a table whose elements were set,
  pub region_filled : IsRewritten l.table.region n.table.region
  region_filled =
      elim (cases_lt l.table.size (at + count)) [
        | inl past ↦ inl (ap (λ (t : TableView). t.region) (is.set.outside past).1)
        | inr inside ↦
            let some' = some_set inside in
            let words : List ℕ = concat (replicate some'.0 (word l.table.kind e)) in
            inr (at * width l.table.kind, (words, rewritten (at * width l.table.kind) words l.table.region n.table.region some'.1.1.words))
      ]

  -- and its lease.
  module _ (maker : MakerTold) (s : Settings) (plan : Plan) (of : IsTableLease maker s plan l) where
    set_kept : (done : ℕ) → at + done ≤ l.table.size → FillsTable at done e l.table n.table → IsTableLease maker s plan n
    set_kept done inside fills =
        let w : ℕ = width l.table.kind in
        let used : ℕ = bytes_used s.page l in
        let words : List ℕ = concat (replicate done (word l.table.kind e)) in
        let left : Told = overwritten (at * w) words of.region in
        let some_page : 0 < s.page = rw (← of.lies.same_page) (omega (arith, of.lies.plain.fits.sizes.page_size.at_least)) in
        let long : length words ≡ done * w = words_wide done (word l.table.kind e) ∙ ap (λ (m : ℕ). done * m) (word_wide l.table.kind e) in
        let can : CanLie maker s l.index used left =
        lies_after maker s l.index used (at * w) words of.region (omega (arith, long, mul-le-mul_right w inside, rounded_up_above s.page (l.table.size * w) some_page)) of.lies.within
        (record { is = of.slot; same_page = of.lies.same_page; plain = of.lies.plain; few = of.lies.few; unused = of.lies.unused }) in
        let uses : bytes_used s.page n ≡ used = ap (λ (t : TableView). bytes_used s.page (record l { table = t })) fills.same in
        let index : n.index ≡ l.index = ap (λ (x : LeasedTable). x.index) is.same in
        let Inside : ℕ → Type 0 = λ i. i < plan.totals.table in
        let Is : ℕ → Type 0 = λ i. IsPoolTable maker s i (plain_slot 0 left) in
        let Fits : ℕ → Type 0 = λ u. u ≤ left.len in
        let Unused : ℕ → Type 0 = λ u. IsUnusedFrom u (plain_slot 0 left) in
        record {
          inside = subst Inside (sym index) of.inside;
          region = left;
          slot = subst Is (sym index) can.is;
          lies = record {
            is = rewritten (at * w) words l.table.region n.table.region fills.words ∙ ap (option_map (overwritten (at * w) words)) of.lies.is;
            same_page = can.same_page;
            plain = can.plain;
            few = can.few;
            within = subst Fits (sym uses) of.lies.within;
            unused = subst Unused (sym uses) can.unused;
          };
          there = is.region;
        }

    pub lease_filled : IsTableLease maker s plan n
    lease_filled =
        elim (cases_lt l.table.size (at + count)) [
          | inl past ↦ subst (IsTableLease maker s plan) (sym (is.same ∙ ap (λ (t : TableView). record l { table = t }) (is.set.outside past).1)) of
          | inr inside ↦ let some' = some_set inside in set_kept some'.0 (omega (arith, some'.1.0, inside)) some'.1.1
        ]
