-- The records after slots were linked anew.
use Rattle.std.proofs.Common.{◌≡◌, ℕ, ◌<◌, Bool, true, false, List, length, map, refl, ap, sym, ◌∙◌, subst, inl, inr, true≢false, length-set, get_or-set_same, get_or-set_other, Option, None, Some, IfSome, slice_set, if◌then◌else◌}
use Rattle.pool_index.proofs.Imports.{map-set_same, cases_eq, cases_lt, get_or_past}
use Rattle.pool_index.specs.Links.{is_at, use_in, is_warm}
use Rattle.pool_index.specs.Records.{record_of, links_of, with_links, with_after, with_before, unlinked, appended}
use Rattle.pool_index.specs.declared.ids.MemoryInModule.{MemoryInModule}
use Rattle.pool_index.specs.declared.slot_row.Chain.{Chain}
use Rattle.pool_index.specs.declared.slot_row.Chain.TheVariants.{Freed, Affine}
use Rattle.pool_index.specs.declared.slot_row.Links.{Links}
use Rattle.pool_index.specs.declared.slot_row.WarmRecord.{WarmRecord}
use Rattle.pool_index.specs.declared.slot_row.SlotRecord.{SlotRecord}
use Rattle.pool_index.specs.declared.slot_row.SlotRecord.TheVariants.{Cold, Used, Warm}
use Rattle.pool_index.proofs.Linking.{is_at_self, is_at_other}

abbrev pub Rows : Type 0
Rows = List SlotRecord

-- where a slot is warm, it is within the row
pub warm_within : (rs : Rows) (k : ℕ) → is_warm (record_of rs k) ≡ true → k < length rs
warm_within rs k w = elim (cases_lt k (length rs)) [
  | inl inside ↦ inside
  | inr past ↦ absurd (true≢false (sym w ∙ ap is_warm (get_or_past rs k Cold past)))
]

pub used_within : (rs : Rows) (k : ℕ) (a : Option MemoryInModule) → record_of rs k ≡ Used a → k < length rs
used_within rs k a h = elim (cases_lt k (length rs)) [
  | inl inside ↦ inside
  | inr past ↦ absurd (cc (get_or_past rs k Cold past))
]

pub record IsWarmRecord (r : SlotRecord) : Type 0 where
  pub warm : WarmRecord
  pub is : r ≡ Warm warm

pub warm_record : (r : SlotRecord) → is_warm r ≡ true → IsWarmRecord r
warm_record Cold h = cc
warm_record (Used a) h = cc
warm_record (Warm w) h = record { warm = w; is = refl }

abbrev pub new_after : Chain → Option ℕ → SlotRecord → SlotRecord
new_after c v r = with_links c (record { before = (links_of c r).before; after = v }) r

abbrev pub new_before : Chain → Option ℕ → SlotRecord → SlotRecord
new_before c v r = with_links c (record { before = v; after = (links_of c r).after }) r

at_set : (rs : Rows) (f : SlotRecord → SlotRecord) (k j : ℕ) → k < length rs → record_of (slice_set rs k (f (record_of rs k))) j ≡ (if is_at j (Some k) then f (record_of rs j) else record_of rs j)
at_set rs f k j inside = elim (cases_eq j k) [
  | inl same ↦
      ap (record_of (slice_set rs k (f (record_of rs k)))) same
      ∙ get_or-set_same rs k (f (record_of rs k)) Cold inside
      ∙ ap (λ m. f (record_of rs m)) (sym same)
      ∙ sym (ap (λ t. if t then f (record_of rs j) else record_of rs j) (is_at_self j (Some k) (ap Some (sym same))))
  | inr other ↦
      get_or-set_other rs k j (f (record_of rs k)) Cold other
      ∙ sym (ap (λ t. if t then f (record_of rs j) else record_of rs j) (is_at_other j (Some k) (λ e. other (sym e))))
]

abbrev pub Within : Option ℕ → Rows → Type 0
Within o rs = IfSome o (λ k. k < length rs)

pub at_after : (c : Chain) (o v : Option ℕ) (rs : Rows) (j : ℕ) → Within o rs → record_of (with_after c o v rs) j ≡ (if is_at j o then new_after c v (record_of rs j) else record_of rs j)
at_after c None v rs j h = refl
at_after c (Some k) v rs j h = at_set rs (new_after c v) k j h

pub at_before : (c : Chain) (o v : Option ℕ) (rs : Rows) (j : ℕ) → Within o rs → record_of (with_before c o v rs) j ≡ (if is_at j o then new_before c v (record_of rs j) else record_of rs j)
at_before c None v rs j h = refl
at_before c (Some k) v rs j h = at_set rs (new_before c v) k j h

pub length_after : (c : Chain) (o v : Option ℕ) (rs : Rows) → length (with_after c o v rs) ≡ length rs
length_after c None v rs = refl
length_after c (Some k) v rs = length-set rs k (new_after c v (record_of rs k))

pub length_before : (c : Chain) (o v : Option ℕ) (rs : Rows) → length (with_before c o v rs) ≡ length rs
length_before c None v rs = refl
length_before c (Some k) v rs = length-set rs k (new_before c v (record_of rs k))

pub length_unlinked : (c : Chain) (l : Links) (rs : Rows) → length (unlinked c l rs) ≡ length rs
length_unlinked c l rs = length_before c l.after l.before (with_after c l.before l.after rs) ∙ length_after c l.before l.after rs

within_same : (o : Option ℕ) (rs ts : Rows) → length ts ≡ length rs → Within o rs → Within o ts
within_same o rs ts e h = subst (λ n. IfSome o (λ k. k < n)) (sym e) h

-- What is in use doesn't change with links
use_links : (c : Chain) (l : Links) (r : SlotRecord) → use_in (with_links c l r) ≡ use_in r
use_links Freed l Cold = refl
use_links Freed l (Used a) = refl
use_links Freed l (Warm w) = refl
use_links Affine l Cold = refl
use_links Affine l (Used a) = refl
use_links Affine l (Warm w) = refl

uses_after : (c : Chain) (o v : Option ℕ) (rs : Rows) → map use_in (with_after c o v rs) ≡ map use_in rs
uses_after c None v rs = refl
uses_after c (Some k) v rs = map-set_same use_in rs k (new_after c v (record_of rs k)) Cold (use_links c _ (record_of rs k))

uses_before : (c : Chain) (o v : Option ℕ) (rs : Rows) → map use_in (with_before c o v rs) ≡ map use_in rs
uses_before c None v rs = refl
uses_before c (Some k) v rs = map-set_same use_in rs k (new_before c v (record_of rs k)) Cold (use_links c _ (record_of rs k))

pub uses_unlinked : (c : Chain) (l : Links) (rs : Rows) → map use_in (unlinked c l rs) ≡ map use_in rs
uses_unlinked c l rs = uses_before c l.after l.before (with_after c l.before l.after rs) ∙ uses_after c l.before l.after rs

pub uses_appended : (c : Chain) (o : Option ℕ) (k : ℕ) (rs : Rows) → map use_in (appended c o k rs) ≡ map use_in rs
uses_appended c o k rs = uses_after c o (Some k) rs

-- A warm slot keeps all but its links
abbrev pub freed_to : Links → WarmRecord → WarmRecord
freed_to l w = record w { freed = l }

abbrev pub affine_to : Links → WarmRecord → WarmRecord
affine_to l w = record w { affine = l }

freed_after : (b : Bool) (v : Option ℕ) (w : WarmRecord) → (if b then new_after Freed v (Warm w) else Warm w) ≡ Warm (freed_to (record { before = w.freed.before; after = if b then v else w.freed.after }) w)
freed_after true v w = refl
freed_after false v w = refl

freed_before : (b : Bool) (v : Option ℕ) (w : WarmRecord) → (if b then new_before Freed v (Warm w) else Warm w) ≡ Warm (freed_to (record { before = if b then v else w.freed.before; after = w.freed.after }) w)
freed_before true v w = refl
freed_before false v w = refl

affine_after : (b : Bool) (v : Option ℕ) (w : WarmRecord) → (if b then new_after Affine v (Warm w) else Warm w) ≡ Warm (affine_to (record { before = w.affine.before; after = if b then v else w.affine.after }) w)
affine_after true v w = refl
affine_after false v w = refl

affine_before : (b : Bool) (v : Option ℕ) (w : WarmRecord) → (if b then new_before Affine v (Warm w) else Warm w) ≡ Warm (affine_to (record { before = if b then v else w.affine.before; after = w.affine.after }) w)
affine_before true v w = refl
affine_before false v w = refl

pub appended_freed : (o : Option ℕ) (y : ℕ) (rs : Rows) (j : ℕ) (w : WarmRecord) → Within o rs → record_of rs j ≡ Warm w → record_of (appended Freed o y rs) j ≡ Warm (freed_to (record { before = w.freed.before; after = if is_at j o then Some y else w.freed.after }) w)
appended_freed o y rs j w h e = at_after Freed o (Some y) rs j h ∙ ap (λ r. if is_at j o then new_after Freed (Some y) r else r) e ∙ freed_after (is_at j o) (Some y) w

pub appended_affine : (o : Option ℕ) (y : ℕ) (rs : Rows) (j : ℕ) (w : WarmRecord) → Within o rs → record_of rs j ≡ Warm w → record_of (appended Affine o y rs) j ≡ Warm (affine_to (record { before = w.affine.before; after = if is_at j o then Some y else w.affine.after }) w)
appended_affine o y rs j w h e = at_after Affine o (Some y) rs j h ∙ ap (λ r. if is_at j o then new_after Affine (Some y) r else r) e ∙ affine_after (is_at j o) (Some y) w

pub unlinked_freed : (l : Links) (rs : Rows) (j : ℕ) (w : WarmRecord) → Within l.before rs → Within l.after rs → record_of rs j ≡ Warm w → record_of (unlinked Freed l rs) j ≡ Warm (freed_to (record { before = if is_at j l.after then l.before else w.freed.before; after = if is_at j l.before then l.after else w.freed.after }) w)
unlinked_freed l rs j w h k e =
    let first = at_after Freed l.before l.after rs j h ∙ ap (λ r. if is_at j l.before then new_after Freed l.after r else r) e ∙ freed_after (is_at j l.before) l.after w in
    at_before Freed l.after l.before (with_after Freed l.before l.after rs) j (within_same l.after rs (with_after Freed l.before l.after rs) (length_after Freed l.before l.after rs) k)
    ∙ ap (λ r. if is_at j l.after then new_before Freed l.before r else r) first
    ∙ freed_before (is_at j l.after) l.before (freed_to (record { before = w.freed.before; after = if is_at j l.before then l.after else w.freed.after }) w)

pub unlinked_affine : (l : Links) (rs : Rows) (j : ℕ) (w : WarmRecord) → Within l.before rs → Within l.after rs → record_of rs j ≡ Warm w → record_of (unlinked Affine l rs) j ≡ Warm (affine_to (record { before = if is_at j l.after then l.before else w.affine.before; after = if is_at j l.before then l.after else w.affine.after }) w)
unlinked_affine l rs j w h k e =
    let first = at_after Affine l.before l.after rs j h ∙ ap (λ r. if is_at j l.before then new_after Affine l.after r else r) e ∙ affine_after (is_at j l.before) l.after w in
    at_before Affine l.after l.before (with_after Affine l.before l.after rs) j (within_same l.after rs (with_after Affine l.before l.after rs) (length_after Affine l.before l.after rs) k)
    ∙ ap (λ r. if is_at j l.after then new_before Affine l.before r else r) first
    ∙ affine_before (is_at j l.after) l.before (affine_to (record { before = w.affine.before; after = if is_at j l.before then l.after else w.affine.after }) w)
