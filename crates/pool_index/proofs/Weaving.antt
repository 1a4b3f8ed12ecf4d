-- The linked lists of warm slots, where a slot is taken out and where one is freed.
use Rattle.std.proofs.Common.{◌≡◌, ◌≢◌, ℕ, ◌+◌, ◌-◌, ◌<◌, ◌≤◌, Bool, true, false, List, [], ◌∷◌, ◌++◌, length, refl, ap, sym, ◌∙◌, subst, arith, true≢false, ⊎_elim, length-set, get_or-set_other, length-append, Option, None, Some, IfSome, slice_set, filter, sum_by, if◌then◌else◌}
use Rattle.pool_index.proofs.Imports.{cases_Bool, filter-append, sum_by-append, sum_by-cons}
use Rattle.pool_index.specs.Links.{Each, Apart, first_of, last_or, ends_of, is_at, is_warm, entry_in, warm_entry, IsLinked, after_in, before_in, has_affinity, with_affinity, ends_without, IsWoven}
use Rattle.pool_index.specs.Records.{record_of, links_of, unlinked, LinksWithin, taken_rows}
use Rattle.pool_index.specs.Table.{same_affinity, ends_at, ends_len, table_total}
use Rattle.pool_index.specs.declared.ids.MemoryInModule.{MemoryInModule}
use Rattle.pool_index.specs.declared.affinity_table.Ends.{Ends}
use Rattle.pool_index.specs.declared.slot_row.Chain.TheVariants.{Freed, Affine}
use Rattle.pool_index.specs.declared.slot_row.WarmRecord.{WarmRecord}
use Rattle.pool_index.specs.declared.slot_row.SlotRecord.TheVariants.{Cold, Used, Warm}
use Rattle.pool_index.specs.declared.warm_slot.WarmSlot.{WarmSlot}
use Rattle.pool_index.proofs.Linking.{each-append, each-left, each-right, each-weaker, each-both, each-filter, each-passes, apart-rest, apart-other, apart-filter, filter-agree, is_at_other, Beside, beside_none, around, same_links, Unlinks, apart_from_all, unlink}
use Rattle.pool_index.proofs.Records.{Rows, Within, IsWarmRecord, warm_record, warm_within, freed_to, affine_to, unlinked_freed, unlinked_affine, length_unlinked}
use Rattle.pool_index.proofs.Ends.{ends_remove}
use Rattle.pool_index.proofs.Tables.{Entries, Affinity, same_is, same_self}

-- Sums and lengths along lists
sum_agree : (f g : ℕ → ℕ) (ks : List ℕ) → Each (λ k. f k ≡ g k) ks → sum_by f ks ≡ sum_by g ks
sum_agree f g [] h = refl
sum_agree f g (k ∷ ks) h =
    let a : sum_by f (k ∷ ks) ≡ f k + sum_by f ks = sum_by-cons f k ks in
    let b : sum_by g (k ∷ ks) ≡ g k + sum_by g ks = sum_by-cons g k ks in
    let c : sum_by f ks ≡ sum_by g ks = sum_agree f g ks h.1 in
    let d : f k ≡ g k = h.0 in
    omega arith

sum_without : (f : ℕ → ℕ) (ls : List ℕ) (x : ℕ) (bs : List ℕ) → sum_by f (ls ++ x ∷ bs) ≡ sum_by f (ls ++ bs) + f x
sum_without f ls x bs =
    let a : sum_by f (ls ++ x ∷ bs) ≡ sum_by f ls + sum_by f (x ∷ bs) = sum_by-append f ls (x ∷ bs) in
    let b : sum_by f (x ∷ bs) ≡ f x + sum_by f bs = sum_by-cons f x bs in
    let c : sum_by f (ls ++ bs) ≡ sum_by f ls + sum_by f bs = sum_by-append f ls bs in
    omega arith

length_less : (ls : List ℕ) (x : ℕ) (bs : List ℕ) → length (ls ++ x ∷ bs) ≡ length (ls ++ bs) + 1
length_less ls x bs =
    let a : length (ls ++ x ∷ bs) ≡ length ls + length (x ∷ bs) = length-append ls (x ∷ bs) in
    let b : length (ls ++ bs) ≡ length ls + length bs = length-append ls bs in
    omega arith

pub ends_len_of : (ks : List ℕ) → ends_len (ends_of ks) ≡ length ks
ends_len_of [] = refl
ends_len_of (k ∷ ks) = refl

ends_seam : (ls : List ℕ) (x : ℕ) (bs : List ℕ) → ends_of (ls ++ x ∷ bs) ≡ None → ⊥
ends_seam [] x bs e = cc
ends_seam (a ∷ ls) x bs e = cc

pub ends_some : (ks : List ℕ) → IfSome (ends_of ks) (λ e. 0 < e.len)
ends_some [] = tt
ends_some (k ∷ ks) = omega arith

pub first_each : (P : ℕ → Type 0) (ks : List ℕ) → Each P ks → IfSome (first_of ks) P
first_each P [] h = tt
first_each P (k ∷ ks) h = h.0

pub last_each : (P : ℕ → Type 0) (p : Option ℕ) (ks : List ℕ) → IfSome p P → Each P ks → IfSome (last_or p ks) P
last_each P p [] h r = h
last_each P p (k ∷ ks) h r = last_each P (Some k) ks r.0 r.1

some_weaker : (P Q : ℕ → Type 0) (o : Option ℕ) → ((k : ℕ) → P k → Q k) → IfSome o P → IfSome o Q
some_weaker P Q None f h = tt
some_weaker P Q (Some k) f h = f k h

-- a warm slot's record, by what it is
pub entry_of : (rs : Rows) (k : ℕ) (w : WarmRecord) → record_of rs k ≡ Warm w → warm_entry rs k ≡ record { slot = record { 0 = k }; affinity = w.affinity; bytes = w.bytes }
entry_of rs k w e = ap (entry_in k) e

pub has_of : (rs : Rows) (a : Affinity) (k : ℕ) (w : WarmRecord) → record_of rs k ≡ Warm w → has_affinity rs a k ≡ same_affinity a w.affinity
has_of rs a k w e = ap (λ (s : WarmSlot). same_affinity a s.affinity) (entry_of rs k w e)

-- slots of one affinity have no other
other_affinity : (rs : Rows) (a b : Affinity) (j i : ℕ) → has_affinity rs a j ≡ true → has_affinity rs b i ≡ true → same_affinity a b ≡ false → i ≢ j
other_affinity rs a b j i h k apart same =
    let its : a ≡ (warm_entry rs j).affinity = same_is a (warm_entry rs j).affinity h in
    let its' : b ≡ (warm_entry rs i).affinity = same_is b (warm_entry rs i).affinity k in
    let both : b ≡ a = its' ∙ ap (λ m. (warm_entry rs m).affinity) same ∙ sym its in
    true≢false (sym (same_self a) ∙ ap (same_affinity a) (sym both) ∙ apart)

-- what a slot of one affinity is beside the slots of another
pub beside_affinity : (rs : Rows) (a b : Affinity) (o : Option ℕ) (ks : List ℕ) → same_affinity a b ≡ false → IfSome o (λ i. has_affinity rs b i ≡ true) → Each (λ j. has_affinity rs a j ≡ true) ks → Beside o ks
beside_affinity rs a b o ks apart h r = each-weaker (λ j. has_affinity rs a j ≡ true) (λ j. is_at j o ≡ false) (λ j its. is_at_other j o (some_weaker (λ i. has_affinity rs b i ≡ true) (λ i. i ≢ j) o (λ i k. other_affinity rs a b j i its k apart) h)) ks r

-- a list with one slot, filtered by a test
pub filter_seam : (q : ℕ → Bool) (ls : List ℕ) (x : ℕ) (bs : List ℕ) → filter q (ls ++ x ∷ bs) ≡ filter q ls ++ (if q x then x ∷ filter q bs else filter q bs)
filter_seam q ls x bs = filter-append q ls (x ∷ bs)

module _ (rs ts : Rows) where
  -- slots whose affinity stays
  pub same_filter : (a : Affinity) (ks : List ℕ) → Each (λ j. warm_entry ts j ≡ warm_entry rs j) ks → with_affinity ts a ks ≡ with_affinity rs a ks
  same_filter a ks h = filter-agree (has_affinity ts a) (has_affinity rs a) ks (each-weaker (λ j. warm_entry ts j ≡ warm_entry rs j) (λ j. has_affinity ts a j ≡ has_affinity rs a j) (λ j e. ap (λ (s : WarmSlot). same_affinity a s.affinity) e) ks h)

  pub same_bytes : (ks : List ℕ) → Each (λ j. warm_entry ts j ≡ warm_entry rs j) ks → sum_by (λ k. (warm_entry ts k).bytes) ks ≡ sum_by (λ k. (warm_entry rs k).bytes) ks
  same_bytes ks h = sum_agree (λ k. (warm_entry ts k).bytes) (λ k. (warm_entry rs k).bytes) ks (each-weaker (λ j. warm_entry ts j ≡ warm_entry rs j) (λ j. (warm_entry ts j).bytes ≡ (warm_entry rs j).bytes) (λ j e. ap (λ (s : WarmSlot). s.bytes) e) ks h)

-- what a take leaves of another warm slot
pub record AfterTake (rs ts : Rows) (x j : ℕ) : Type 0 where
  pub freed : Unlinks (after_in Freed rs) (before_in Freed rs) (after_in Freed ts) (before_in Freed ts) x j
  pub affine : Unlinks (after_in Affine rs) (before_in Affine rs) (after_in Affine ts) (before_in Affine ts) x j
  pub entry : warm_entry ts j ≡ warm_entry rs j
  pub warm : is_warm (record_of ts j) ≡ true

module _ (rs : Rows) (table : Entries) (freed : Option Ends) (bytes : ℕ) (ls : List ℕ) (x : ℕ) (bs : List ℕ) (woven : IsWoven rs table freed bytes (ls ++ x ∷ bs)) (w : WarmRecord) (here : record_of rs x ≡ Warm w) (want : Option MemoryInModule) where
  -- the slots that are left are warm, and their neighbours are within the row
  left_warm : Each (λ j. is_warm (record_of rs j) ≡ true) (ls ++ bs)
  left_warm = each-append (λ j. is_warm (record_of rs j) ≡ true) ls bs (each-left (λ j. is_warm (record_of rs j) ≡ true) ls (x ∷ bs) woven.warm) (each-right (λ j. is_warm (record_of rs j) ≡ true) ls (x ∷ bs) woven.warm).1

  all_within : Each (λ j. j < length rs) (ls ++ bs)
  all_within = each-weaker (λ j. is_warm (record_of rs j) ≡ true) (λ j. j < length rs) (warm_within rs) (ls ++ bs) left_warm

  -- the slots of this one's affinity
  abbrev F1 : Affinity → List ℕ
  F1 a = filter (has_affinity rs a) ls

  abbrev F2 : Affinity → List ℕ
  F2 a = filter (has_affinity rs a) bs

  its : (a : Affinity) → has_affinity rs a x ≡ same_affinity a w.affinity
  its a = has_of rs a x w here

  split_its : (a : Affinity) → same_affinity a w.affinity ≡ true → with_affinity rs a (ls ++ x ∷ bs) ≡ F1 a ++ x ∷ F2 a
  split_its a h = filter_seam (has_affinity rs a) ls x bs ∙ ap (λ t. F1 a ++ (if t then x ∷ F2 a else F2 a)) (its a ∙ h)

  split_other : (a : Affinity) → same_affinity a w.affinity ≡ false → with_affinity rs a (ls ++ x ∷ bs) ≡ F1 a ++ F2 a
  split_other a h = filter_seam (has_affinity rs a) ls x bs ∙ ap (λ t. F1 a ++ (if t then x ∷ F2 a else F2 a)) (its a ∙ h)

  its_linked : (a : Affinity) → same_affinity a w.affinity ≡ true → IsLinked Affine rs (F1 a ++ x ∷ F2 a)
  its_linked a h = subst (IsLinked Affine rs) (split_its a h) (woven.affine_linked a)

  around_freed : (before_in Freed rs x ≡ last_or None ls) × (after_in Freed rs x ≡ first_of bs)
  around_freed = around (after_in Freed rs) (before_in Freed rs) None ls x bs woven.freed_linked

  around_affine : (before_in Affine rs x ≡ last_or None (F1 w.affinity)) × (after_in Affine rs x ≡ first_of (F2 w.affinity))
  around_affine = around (after_in Affine rs) (before_in Affine rs) None (F1 w.affinity) x (F2 w.affinity) (its_linked w.affinity (same_self w.affinity))

  pub freed_before : w.freed.before ≡ last_or None ls
  freed_before = ap (λ r. (links_of Freed r).before) (sym here) ∙ around_freed.0

  pub freed_after : w.freed.after ≡ first_of bs
  freed_after = ap (λ r. (links_of Freed r).after) (sym here) ∙ around_freed.1

  pub affine_before : w.affine.before ≡ last_or None (F1 w.affinity)
  affine_before = ap (λ r. (links_of Affine r).before) (sym here) ∙ around_affine.0

  pub affine_after : w.affine.after ≡ first_of (F2 w.affinity)
  affine_after = ap (λ r. (links_of Affine r).after) (sym here) ∙ around_affine.1

  left_within : Each (λ j. j < length rs) ls
  left_within = each-left (λ j. j < length rs) ls bs all_within

  right_within : Each (λ j. j < length rs) bs
  right_within = each-right (λ j. j < length rs) ls bs all_within

  freed_before_within : Within w.freed.before rs
  freed_before_within = subst (λ o. Within o rs) (sym freed_before) (last_each (λ j. j < length rs) None ls tt left_within)

  freed_after_within : Within w.freed.after rs
  freed_after_within = subst (λ o. Within o rs) (sym freed_after) (first_each (λ j. j < length rs) bs right_within)

  affine_before_within : Within w.affine.before rs
  affine_before_within = subst (λ o. Within o rs) (sym affine_before) (last_each (λ j. j < length rs) None (F1 w.affinity) tt (each-filter (λ j. j < length rs) (has_affinity rs w.affinity) ls left_within))

  affine_after_within : Within w.affine.after rs
  affine_after_within = subst (λ o. Within o rs) (sym affine_after) (first_each (λ j. j < length rs) (F2 w.affinity) (each-filter (λ j. j < length rs) (has_affinity rs w.affinity) bs right_within))

  abbrev r0 : Rows
  r0 = slice_set rs x (Used want)

  abbrev r1 : Rows
  r1 = unlinked Freed w.freed r0

  abbrev ts : Rows
  ts = taken_rows want w x rs

  length_r0 : length r0 ≡ length rs
  length_r0 = length-set rs x (Used want)

  length_r1 : length r1 ≡ length rs
  length_r1 = length_unlinked Freed w.freed r0 ∙ length_r0

  within_to : (o : Option ℕ) (us : Rows) → length us ≡ length rs → Within o rs → Within o us
  within_to o us e h = subst (λ n. IfSome o (λ k. k < n)) (sym e) h

  moved : (j : ℕ) (v : WarmRecord) → j ≢ x → record_of rs j ≡ Warm v →
      record_of ts j ≡ Warm (affine_to (record { before = if is_at j w.affine.after then w.affine.before else v.affine.before; after = if is_at j w.affine.before then w.affine.after else v.affine.after })
      (freed_to (record { before = if is_at j w.freed.after then w.freed.before else v.freed.before; after = if is_at j w.freed.before then w.freed.after else v.freed.after }) v))
  moved j v other e =
      let e0 : record_of r0 j ≡ Warm v = get_or-set_other rs x j (Used want) Cold other ∙ e in
      let e1 = unlinked_freed w.freed r0 j v (within_to w.freed.before r0 length_r0 freed_before_within) (within_to w.freed.after r0 length_r0 freed_after_within) e0 in
      unlinked_affine w.affine r1 j (freed_to (record { before = if is_at j w.freed.after then w.freed.before else v.freed.before; after = if is_at j w.freed.before then w.freed.after else v.freed.after }) v)
      (within_to w.affine.before r1 length_r1 affine_before_within) (within_to w.affine.after r1 length_r1 affine_after_within) e1

  after_take : (j : ℕ) → (is_warm (record_of rs j) ≡ true) × (j ≢ x) → AfterTake rs ts x j
  after_take j h =
      let v : IsWarmRecord (record_of rs j) = warm_record (record_of rs j) h.0 in
      let e = moved j v.warm h.1 v.is in
      record {
        freed = (
          ap (λ r. (links_of Freed r).after) e ∙ (λ i. if is_at j (links_of Freed (sym here i)).before then (links_of Freed (sym here i)).after else (links_of Freed (sym v.is i)).after),
          ap (λ r. (links_of Freed r).before) e ∙ (λ i. if is_at j (links_of Freed (sym here i)).after then (links_of Freed (sym here i)).before else (links_of Freed (sym v.is i)).before),
        );
        affine = (
          ap (λ r. (links_of Affine r).after) e ∙ (λ i. if is_at j (links_of Affine (sym here i)).before then (links_of Affine (sym here i)).after else (links_of Affine (sym v.is i)).after),
          ap (λ r. (links_of Affine r).before) e ∙ (λ i. if is_at j (links_of Affine (sym here i)).after then (links_of Affine (sym here i)).before else (links_of Affine (sym v.is i)).before),
        );
        entry = ap (entry_in j) e ∙ ap (entry_in j) (sym v.is);
        warm = ap is_warm e;
      }

  pub taken_each : Each (AfterTake rs ts x) (ls ++ bs)
  taken_each = each-weaker (λ j. (is_warm (record_of rs j) ≡ true) × (j ≢ x)) (AfterTake rs ts x) after_take (ls ++ bs) (each-both (λ j. is_warm (record_of rs j) ≡ true) (λ j. j ≢ x) (ls ++ bs) left_warm (apart-other ls bs x woven.apart))

  pub taken_entries : Each (λ j. warm_entry ts j ≡ warm_entry rs j) (ls ++ bs)
  taken_entries = each-weaker (AfterTake rs ts x) (λ j. warm_entry ts j ≡ warm_entry rs j) (λ j (a : AfterTake rs ts x j). a.entry) (ls ++ bs) taken_each

  affine_each : Each (Unlinks (after_in Affine rs) (before_in Affine rs) (after_in Affine ts) (before_in Affine ts) x) (ls ++ bs)
  affine_each = each-weaker (AfterTake rs ts x) (Unlinks (after_in Affine rs) (before_in Affine rs) (after_in Affine ts) (before_in Affine ts) x) (λ j (a : AfterTake rs ts x j). a.affine) (ls ++ bs) taken_each

  affine_each_in : (a : Affinity) → Each (Unlinks (after_in Affine rs) (before_in Affine rs) (after_in Affine ts) (before_in Affine ts) x) (F1 a ++ F2 a)
  affine_each_in a = subst (Each (Unlinks (after_in Affine rs) (before_in Affine rs) (after_in Affine ts) (before_in Affine ts) x)) (filter-append (has_affinity rs a) ls bs) (each-filter (Unlinks (after_in Affine rs) (before_in Affine rs) (after_in Affine ts) (before_in Affine ts) x) (has_affinity rs a) (ls ++ bs) affine_each)

  left_filter : (a : Affinity) → with_affinity ts a (ls ++ bs) ≡ F1 a ++ F2 a
  left_filter a = same_filter rs ts a (ls ++ bs) taken_entries ∙ filter-append (has_affinity rs a) ls bs

  its_left : (a : Affinity) → same_affinity a w.affinity ≡ true → IsLinked Affine ts (F1 a ++ F2 a)
  its_left a h = unlink (after_in Affine rs) (before_in Affine rs) (after_in Affine ts) (before_in Affine ts) None (F1 a) x (F2 a) (its_linked a h) (subst Apart (split_its a h) (apart-filter (has_affinity rs a) (ls ++ x ∷ bs) woven.apart)) (beside_none (F1 a ++ F2 a)) (affine_each_in a)

  all_have : (a : Affinity) → Each (λ j. has_affinity rs a j ≡ true) (F1 a ++ F2 a)
  all_have a = each-append (λ j. has_affinity rs a j ≡ true) (F1 a) (F2 a) (each-passes (has_affinity rs a) ls) (each-passes (has_affinity rs a) bs)

  others_left : (a : Affinity) → same_affinity a w.affinity ≡ false → IsLinked Affine ts (F1 a ++ F2 a)
  others_left a h = same_links (after_in Affine rs) (before_in Affine rs) (after_in Affine ts) (before_in Affine ts) None (F1 a ++ F2 a)
      (apart_from_all (after_in Affine rs) (before_in Affine rs) (after_in Affine ts) (before_in Affine ts) x (F1 a ++ F2 a)
      (beside_affinity rs a w.affinity (before_in Affine rs x) (F1 a ++ F2 a) h (subst (λ o. IfSome o (λ i. has_affinity rs w.affinity i ≡ true)) (sym around_affine.0) (last_each (λ i. has_affinity rs w.affinity i ≡ true) None (F1 w.affinity) tt (each-passes (has_affinity rs w.affinity) ls))) (all_have a))
      (beside_affinity rs a w.affinity (after_in Affine rs x) (F1 a ++ F2 a) h (subst (λ o. IfSome o (λ i. has_affinity rs w.affinity i ≡ true)) (sym around_affine.1) (first_each (λ i. has_affinity rs w.affinity i ≡ true) (F2 w.affinity) (each-passes (has_affinity rs w.affinity) bs))) (all_have a))
      (affine_each_in a))
      (subst (IsLinked Affine rs) (split_other a h) (woven.affine_linked a))

  its_ends : ends_of (F1 w.affinity ++ F2 w.affinity) ≡ ends_without w.affine (ends_at table w.affinity)
  its_ends =
      ends_remove (F1 w.affinity) x (F2 w.affinity) w.affine.before w.affine.after affine_before affine_after
      ∙ ap (ends_without w.affine) (ap ends_of (sym (split_its w.affinity (same_self w.affinity))) ∙ sym (woven.affine_ends w.affinity))

  -- the affinity has this slot, and the rest of its list isn't empty where it has ends
  pub its_some : ends_at table w.affinity ≡ None → ⊥
  its_some none' = ends_seam (F1 w.affinity) x (F2 w.affinity) (ap ends_of (sym (split_its w.affinity (same_self w.affinity))) ∙ sym (woven.affine_ends w.affinity) ∙ none')

  pub left_some : IfSome (ends_without w.affine (ends_at table w.affinity)) (λ e. 0 < e.len)
  left_some = subst (λ (o : Option Ends). IfSome o (λ (e : Ends). 0 < e.len)) its_ends (ends_some (F1 w.affinity ++ F2 w.affinity))

  pub bytes_enough : w.bytes ≤ bytes
  bytes_enough =
      let all : bytes ≡ sum_by (λ k. (warm_entry rs k).bytes) (ls ++ x ∷ bs) = woven.bytes_kept in
      let one : sum_by (λ k. (warm_entry rs k).bytes) (ls ++ x ∷ bs) ≡ sum_by (λ k. (warm_entry rs k).bytes) (ls ++ bs) + (warm_entry rs x).bytes = sum_without (λ k. (warm_entry rs k).bytes) ls x bs in
      let its' : (warm_entry rs x).bytes ≡ w.bytes = ap (λ (s : WarmSlot). s.bytes) (entry_of rs x w here) in
      omega arith

  pub links_within : LinksWithin (length rs) (record_of rs x)
  links_within = subst (LinksWithin (length rs)) (sym here) (record {
    freed_before = freed_before_within;
    freed_after = freed_after_within;
    affine_before = affine_before_within;
    affine_after = affine_after_within;
  })

  pub taken_length : length ts ≡ length rs
  taken_length = length_unlinked Affine w.affine r1 ∙ length_r1

  module _ (table' : Entries) (ends : (a : Affinity) → ends_at table' a ≡ (if same_affinity a w.affinity then ends_without w.affine (ends_at table w.affinity) else ends_at table a)) (total : table_total table' + ends_len (ends_at table w.affinity) ≡ table_total table + ends_len (ends_without w.affine (ends_at table w.affinity))) where
    taken_ends : (a : Affinity) → ends_at table' a ≡ ends_of (F1 a ++ F2 a)
    taken_ends a = ⊎_elim
        (λ (h : same_affinity a w.affinity ≡ true).
        ends a ∙ ap (λ t. if t then ends_without w.affine (ends_at table w.affinity) else ends_at table a) h
        ∙ sym its_ends ∙ ap (λ b. ends_of (F1 b ++ F2 b)) (sym (same_is a w.affinity h)))
        (λ (h : same_affinity a w.affinity ≡ false).
        ends a ∙ ap (λ t. if t then ends_without w.affine (ends_at table w.affinity) else ends_at table a) h
        ∙ woven.affine_ends a ∙ ap ends_of (split_other a h))
        (cases_Bool (same_affinity a w.affinity))

    pub taken_woven : IsWoven ts table' (ends_without w.freed freed) (bytes - w.bytes) (ls ++ bs)
    taken_woven = record {
      freed_ends = ap (ends_without w.freed) woven.freed_ends ∙ sym (ends_remove ls x bs w.freed.before w.freed.after freed_before freed_after);
      freed_linked = unlink (after_in Freed rs) (before_in Freed rs) (after_in Freed ts) (before_in Freed ts) None ls x bs woven.freed_linked woven.apart (beside_none (ls ++ bs)) (each-weaker (AfterTake rs ts x) (Unlinks (after_in Freed rs) (before_in Freed rs) (after_in Freed ts) (before_in Freed ts) x) (λ j (a : AfterTake rs ts x j). a.freed) (ls ++ bs) taken_each);
      affine_ends = λ a. taken_ends a ∙ ap ends_of (sym (left_filter a));
      affine_linked = λ a. subst (IsLinked Affine ts) (sym (left_filter a)) (⊎_elim (its_left a) (others_left a) (cases_Bool (same_affinity a w.affinity)));
      apart = apart-rest ls bs x woven.apart;
      warm = each-weaker (AfterTake rs ts x) (λ j. is_warm (record_of ts j) ≡ true) (λ j (a : AfterTake rs ts x j). a.warm) (ls ++ bs) taken_each;
      total =
          let was : ends_len (ends_at table w.affinity) ≡ length (F1 w.affinity ++ x ∷ F2 w.affinity) = ap ends_len (woven.affine_ends w.affinity) ∙ ap (λ l. ends_len (ends_of l)) (split_its w.affinity (same_self w.affinity)) ∙ ends_len_of (F1 w.affinity ++ x ∷ F2 w.affinity) in
          let is : ends_len (ends_without w.affine (ends_at table w.affinity)) ≡ length (F1 w.affinity ++ F2 w.affinity) = ap ends_len (sym its_ends) ∙ ends_len_of (F1 w.affinity ++ F2 w.affinity) in
          let less : length (F1 w.affinity ++ x ∷ F2 w.affinity) ≡ length (F1 w.affinity ++ F2 w.affinity) + 1 = length_less (F1 w.affinity) x (F2 w.affinity) in
          let all : table_total table ≡ length (ls ++ x ∷ bs) = woven.total in
          let fewer : length (ls ++ x ∷ bs) ≡ length (ls ++ bs) + 1 = length_less ls x bs in
          omega arith;
      bytes_kept =
          let all : bytes ≡ sum_by (λ k. (warm_entry rs k).bytes) (ls ++ x ∷ bs) = woven.bytes_kept in
          let one : sum_by (λ k. (warm_entry rs k).bytes) (ls ++ x ∷ bs) ≡ sum_by (λ k. (warm_entry rs k).bytes) (ls ++ bs) + (warm_entry rs x).bytes = sum_without (λ k. (warm_entry rs k).bytes) ls x bs in
          let its' : (warm_entry rs x).bytes ≡ w.bytes = ap (λ (s : WarmSlot). s.bytes) (entry_of rs x w here) in
          let same : sum_by (λ k. (warm_entry ts k).bytes) (ls ++ bs) ≡ sum_by (λ k. (warm_entry rs k).bytes) (ls ++ bs) = same_bytes rs ts (ls ++ bs) taken_entries in
          omega arith;
    }
