-- The linked lists of warm slots, where a slot is freed.
use Rattle.std.proofs.Common.{◌≡◌, ◌≢◌, ℕ, ◌+◌, ◌<◌, ◌≤◌, Bool, true, false, List, [], ◌∷◌, ◌++◌, length, refl, ap, sym, ◌∙◌, subst, arith, true≢false, ⊎_elim, length-set, get_or-set_same, get_or-set_other, length-append, Option, None, Some, IfSome, slice_set, filter, sum_by, if◌then◌else◌}
use Rattle.pool_index.proofs.Imports.{cases_Bool, append-nil, sum_by_push}
use Rattle.pool_index.specs.Links.{Each, last_or, ends_of, is_at, is_warm, entry_in, warm_entry, IsLinked, after_in, before_in, has_affinity, with_affinity, ends_last, ends_with, IsWoven}
use Rattle.pool_index.specs.Records.{record_of, links_of, appended}
use Rattle.pool_index.specs.Table.{same_affinity, ends_at, ends_len, table_total}
use Rattle.pool_index.specs.declared.affinity_table.Ends.{Ends}
use Rattle.pool_index.specs.declared.slot_row.Chain.TheVariants.{Freed, Affine}
use Rattle.pool_index.specs.declared.slot_row.WarmRecord.{WarmRecord}
use Rattle.pool_index.specs.declared.slot_row.SlotRecord.TheVariants.{Cold, Used, Warm}
use Rattle.pool_index.specs.declared.warm_slot.WarmSlot.{WarmSlot}
use Rattle.pool_index.proofs.Linking.{each-append, each-weaker, each-both, each-filter, each-passes, apart-filter, apart-push, is_at_other, Beside, same_links, Appends, append, last_apart}
use Rattle.pool_index.proofs.Records.{Rows, Within, IsWarmRecord, warm_record, warm_within, freed_to, affine_to, appended_freed, appended_affine, length_after}
use Rattle.pool_index.proofs.Ends.{last_of_ends, ends_push}
use Rattle.pool_index.proofs.Tables.{Entries, Affinity, same_is}
use Rattle.pool_index.proofs.Weaving.{last_each, beside_affinity, same_filter, same_bytes, ends_len_of, has_of, entry_of, filter_seam}

-- the record of a slot that is freed
abbrev pub freed_record : Affinity → ℕ → Option Ends → Option Ends → WarmRecord
freed_record a bytes freed affine = record { affinity = a; bytes = bytes; freed = record { before = ends_last freed; after = None }; affine = record { before = ends_last affine; after = None } }

abbrev pub freed_rows : WarmRecord → ℕ → Rows → Rows
freed_rows w y rs = appended Affine w.affine.before y (appended Freed w.freed.before y (slice_set rs y (Warm w)))

-- what a free leaves of another warm slot
pub record AfterFree (rs ts : Rows) (w : WarmRecord) (y j : ℕ) : Type 0 where
  pub freed : Appends (after_in Freed rs) (before_in Freed rs) (after_in Freed ts) (before_in Freed ts) w.freed.before y j
  pub affine : Appends (after_in Affine rs) (before_in Affine rs) (after_in Affine ts) (before_in Affine ts) w.affine.before y j
  pub entry : warm_entry ts j ≡ warm_entry rs j
  pub warm : is_warm (record_of ts j) ≡ true

filter_few : (q : ℕ → Bool) (ks : List ℕ) → length (filter q ks) ≤ length ks
filter_few q [] = omega arith
filter_few q (k ∷ ks) = let r : length (filter q ks) ≤ length ks = filter_few q ks in one_more (q k) r where
  one_more : (b : Bool) → length (filter q ks) ≤ length ks → length (if b then k ∷ filter q ks else filter q ks) ≤ length (k ∷ ks)
  one_more true r = omega arith
  one_more false r = omega arith

-- the slots of one affinity are among all
pub affine_few : (rs : Rows) (table : Entries) (freed : Option Ends) (bytes : ℕ) (ks : List ℕ) (woven : IsWoven rs table freed bytes ks) (a : Affinity) → ends_len (ends_at table a) ≤ length ks
affine_few rs table freed bytes ks woven a =
    let e : ends_len (ends_at table a) ≡ length (with_affinity rs a ks) = ap ends_len (woven.affine_ends a) ∙ ends_len_of (with_affinity rs a ks) in
    let f : length (with_affinity rs a ks) ≤ length ks = filter_few (has_affinity rs a) ks in
    omega arith

module _ (rs : Rows) (table : Entries) (freed : Option Ends) (bytes : ℕ) (ks : List ℕ) (woven : IsWoven rs table freed bytes ks) (y : ℕ) (a0 : Affinity) (more : ℕ) (here : record_of rs y ≡ Used a0) (inside : y < length rs) where
  abbrev w : WarmRecord
  w = freed_record a0 more freed (ends_at table a0)

  abbrev r0 : Rows
  r0 = slice_set rs y (Warm w)

  abbrev r1 : Rows
  r1 = appended Freed w.freed.before y r0

  abbrev ts : Rows
  ts = freed_rows w y rs

  others : Each (λ j. j ≢ y) ks
  others = each-weaker (λ j. is_warm (record_of rs j) ≡ true) (λ j. j ≢ y) (λ j warm same. true≢false (sym warm ∙ ap (λ m. is_warm (record_of rs m)) same ∙ ap is_warm here)) ks woven.warm

  all_within : Each (λ j. j < length rs) ks
  all_within = each-weaker (λ j. is_warm (record_of rs j) ≡ true) (λ j. j < length rs) (warm_within rs) ks woven.warm

  last_freed : w.freed.before ≡ last_or None ks
  last_freed = ap ends_last woven.freed_ends ∙ last_of_ends ks

  last_affine : w.affine.before ≡ last_or None (with_affinity rs a0 ks)
  last_affine = ap ends_last (woven.affine_ends a0) ∙ last_of_ends (with_affinity rs a0 ks)

  pub freed_within : Within w.freed.before rs
  freed_within = subst (λ o. Within o rs) (sym last_freed) (last_each (λ j. j < length rs) None ks tt all_within)

  pub affine_within : Within w.affine.before rs
  affine_within = subst (λ o. Within o rs) (sym last_affine) (last_each (λ j. j < length rs) None (with_affinity rs a0 ks) tt (each-filter (λ j. j < length rs) (has_affinity rs a0) ks all_within))

  length_r0 : length r0 ≡ length rs
  length_r0 = length-set rs y (Warm w)

  length_r1 : length r1 ≡ length rs
  length_r1 = length_after Freed w.freed.before (Some y) r0 ∙ length_r0

  pub freed_within_now : Within w.freed.before r0
  freed_within_now = subst (λ n. IfSome w.freed.before (λ k. k < n)) (sym length_r0) freed_within

  pub affine_within_now : Within w.affine.before r1
  affine_within_now = subst (λ n. IfSome w.affine.before (λ k. k < n)) (sym length_r1) affine_within

  linked_to : (j : ℕ) (v : WarmRecord) → record_of r0 j ≡ Warm v →
      record_of ts j ≡ Warm (affine_to (record { before = v.affine.before; after = if is_at j w.affine.before then Some y else v.affine.after })
      (freed_to (record { before = v.freed.before; after = if is_at j w.freed.before then Some y else v.freed.after }) v))
  linked_to j v e = appended_affine w.affine.before y r1 j (freed_to (record { before = v.freed.before; after = if is_at j w.freed.before then Some y else v.freed.after }) v) affine_within_now (appended_freed w.freed.before y r0 j v freed_within_now e)

  after_free : (j : ℕ) → (is_warm (record_of rs j) ≡ true) × (j ≢ y) → AfterFree rs ts w y j
  after_free j h =
      let v : IsWarmRecord (record_of rs j) = warm_record (record_of rs j) h.0 in
      let e = linked_to j v.warm (get_or-set_other rs y j (Warm w) Cold h.1 ∙ v.is) in
      record {
        freed = (
          ap (λ r. (links_of Freed r).after) e ∙ (λ i. if is_at j w.freed.before then Some y else (links_of Freed (sym v.is i)).after),
          ap (λ r. (links_of Freed r).before) e ∙ ap (λ r. (links_of Freed r).before) (sym v.is),
        );
        affine = (
          ap (λ r. (links_of Affine r).after) e ∙ (λ i. if is_at j w.affine.before then Some y else (links_of Affine (sym v.is i)).after),
          ap (λ r. (links_of Affine r).before) e ∙ ap (λ r. (links_of Affine r).before) (sym v.is),
        );
        entry = ap (entry_in j) e ∙ ap (entry_in j) (sym v.is);
        warm = ap is_warm e;
      }

  pub freed_each : Each (AfterFree rs ts w y) ks
  freed_each = each-weaker (λ j. (is_warm (record_of rs j) ≡ true) × (j ≢ y)) (AfterFree rs ts w y) after_free ks (each-both (λ j. is_warm (record_of rs j) ≡ true) (λ j. j ≢ y) ks woven.warm others)

  pub freed_entries : Each (λ j. warm_entry ts j ≡ warm_entry rs j) ks
  freed_entries = each-weaker (AfterFree rs ts w y) (λ j. warm_entry ts j ≡ warm_entry rs j) (λ j (f : AfterFree rs ts w y j). f.entry) ks freed_each

  -- the slot is the last of its lists
  at_freed : is_at y w.freed.before ≡ false
  at_freed = is_at_other y w.freed.before (subst (λ o. IfSome o (λ j. j ≢ y)) (sym last_freed) (last_apart y None ks tt others))

  at_affine : is_at y w.affine.before ≡ false
  at_affine = is_at_other y w.affine.before (subst (λ o. IfSome o (λ j. j ≢ y)) (sym last_affine) (last_apart y None (with_affinity rs a0 ks) tt (each-filter (λ j. j ≢ y) (has_affinity rs a0) ks others)))

  pub its_record : record_of ts y ≡ Warm w
  its_record =
      linked_to y w (get_or-set_same rs y (Warm w) Cold inside)
      ∙ (λ i. Warm (affine_to (record { before = w.affine.before; after = if at_affine i then Some y else None }) (freed_to (record { before = w.freed.before; after = if at_freed i then Some y else None }) w)))

  its : (a : Affinity) → has_affinity ts a y ≡ same_affinity a a0
  its a = has_of ts a y w its_record

  filter_its : (a : Affinity) → same_affinity a a0 ≡ true → with_affinity ts a (ks ++ y ∷ []) ≡ with_affinity rs a ks ++ y ∷ []
  filter_its a h =
      filter_seam (has_affinity ts a) ks y []
      ∙ (λ i. same_filter rs ts a ks freed_entries i ++ (if (its a ∙ h) i then y ∷ [] else []))

  filter_other : (a : Affinity) → same_affinity a a0 ≡ false → with_affinity ts a (ks ++ y ∷ []) ≡ with_affinity rs a ks
  filter_other a h =
      filter_seam (has_affinity ts a) ks y []
      ∙ (λ i. same_filter rs ts a ks freed_entries i ++ (if (its a ∙ h) i then y ∷ [] else []))
      ∙ append-nil (with_affinity rs a ks)

  affine_each : Each (Appends (after_in Affine rs) (before_in Affine rs) (after_in Affine ts) (before_in Affine ts) w.affine.before y) ks
  affine_each = each-weaker (AfterFree rs ts w y) (Appends (after_in Affine rs) (before_in Affine rs) (after_in Affine ts) (before_in Affine ts) w.affine.before y) (λ j (f : AfterFree rs ts w y j). f.affine) ks freed_each

  its_list : (a : Affinity) → same_affinity a a0 ≡ true → IsLinked Affine ts (with_affinity rs a ks ++ y ∷ [])
  its_list a h =
      let last : w.affine.before ≡ last_or None (with_affinity rs a ks) = last_affine ∙ ap (λ b. last_or None (with_affinity rs b ks)) (sym (same_is a a0 h)) in
      append (after_in Affine rs) (before_in Affine rs) (after_in Affine ts) (before_in Affine ts) None (with_affinity rs a ks) y (woven.affine_linked a) (apart-filter (has_affinity rs a) ks woven.apart)
      (ap (λ r. (links_of Affine r).before) its_record ∙ last) (ap (λ r. (links_of Affine r).after) its_record)
      (subst (λ o. Each (Appends (after_in Affine rs) (before_in Affine rs) (after_in Affine ts) (before_in Affine ts) o y) (with_affinity rs a ks)) last (each-filter (Appends (after_in Affine rs) (before_in Affine rs) (after_in Affine ts) (before_in Affine ts) w.affine.before y) (has_affinity rs a) ks affine_each))

  stays : (o : Option ℕ) (ls : List ℕ) → Beside o ls → Each (Appends (after_in Affine rs) (before_in Affine rs) (after_in Affine ts) (before_in Affine ts) o y) ls → Each (λ k. (after_in Affine ts k ≡ after_in Affine rs k) × (before_in Affine ts k ≡ before_in Affine rs k)) ls
  stays o [] b u = tt
  stays o (k ∷ ls) b u = ((u.0.0 ∙ ap (λ t. if t then Some y else after_in Affine rs k) b.0, u.0.1), stays o ls b.1 u.1)

  other_list : (a : Affinity) → same_affinity a a0 ≡ false → IsLinked Affine ts (with_affinity rs a ks)
  other_list a h = same_links (after_in Affine rs) (before_in Affine rs) (after_in Affine ts) (before_in Affine ts) None (with_affinity rs a ks)
      (stays w.affine.before (with_affinity rs a ks)
      (beside_affinity rs a a0 w.affine.before (with_affinity rs a ks) h (subst (λ o. IfSome o (λ i. has_affinity rs a0 i ≡ true)) (sym last_affine) (last_each (λ i. has_affinity rs a0 i ≡ true) None (with_affinity rs a0 ks) tt (each-passes (has_affinity rs a0) ks))) (each-passes (has_affinity rs a) ks))
      (each-filter (Appends (after_in Affine rs) (before_in Affine rs) (after_in Affine ts) (before_in Affine ts) w.affine.before y) (has_affinity rs a) ks affine_each))
      (woven.affine_linked a)

  freed_list : IsLinked Freed ts (ks ++ y ∷ [])
  freed_list = append (after_in Freed rs) (before_in Freed rs) (after_in Freed ts) (before_in Freed ts) None ks y woven.freed_linked woven.apart
      (ap (λ r. (links_of Freed r).before) its_record ∙ last_freed) (ap (λ r. (links_of Freed r).after) its_record)
      (subst (λ o. Each (Appends (after_in Freed rs) (before_in Freed rs) (after_in Freed ts) (before_in Freed ts) o y) ks) last_freed (each-weaker (AfterFree rs ts w y) (Appends (after_in Freed rs) (before_in Freed rs) (after_in Freed ts) (before_in Freed ts) w.freed.before y) (λ j (f : AfterFree rs ts w y j). f.freed) ks freed_each))

  pub freed_length : length ts ≡ length rs
  freed_length = length_after Affine w.affine.before (Some y) r1 ∙ length_r1

  module _ (table' : Entries) (ends : (a : Affinity) → ends_at table' a ≡ (if same_affinity a a0 then ends_with (ends_at table a0) y else ends_at table a)) (total : table_total table' + ends_len (ends_at table a0) ≡ table_total table + ends_len (ends_with (ends_at table a0) y)) where
    one_more : (e : Option Ends) → ends_len (ends_with e y) ≡ ends_len e + 1
    one_more None = omega arith
    one_more (Some e) = refl

    pub freed_woven : IsWoven ts table' (ends_with freed y) (bytes + more) (ks ++ y ∷ [])
    freed_woven = record {
      freed_ends = ap (λ e. ends_with e y) woven.freed_ends ∙ sym (ends_push ks y);
      freed_linked = freed_list;
      affine_ends = λ a. ⊎_elim
          (λ (h : same_affinity a a0 ≡ true).
          ends a ∙ ap (λ t. if t then ends_with (ends_at table a0) y else ends_at table a) h
          ∙ ap (λ b. ends_with (ends_at table b) y) (sym (same_is a a0 h))
          ∙ ap (λ e. ends_with e y) (woven.affine_ends a)
          ∙ sym (ends_push (with_affinity rs a ks) y)
          ∙ ap ends_of (sym (filter_its a h)))
          (λ (h : same_affinity a a0 ≡ false).
          ends a ∙ ap (λ t. if t then ends_with (ends_at table a0) y else ends_at table a) h
          ∙ woven.affine_ends a
          ∙ ap ends_of (sym (filter_other a h)))
          (cases_Bool (same_affinity a a0));
      affine_linked = λ a. ⊎_elim
          (λ (h : same_affinity a a0 ≡ true). subst (IsLinked Affine ts) (sym (filter_its a h)) (its_list a h))
          (λ (h : same_affinity a a0 ≡ false). subst (IsLinked Affine ts) (sym (filter_other a h)) (other_list a h))
          (cases_Bool (same_affinity a a0));
      apart = apart-push ks y woven.apart others;
      warm = each-append (λ j. is_warm (record_of ts j) ≡ true) ks (y ∷ []) (each-weaker (AfterFree rs ts w y) (λ j. is_warm (record_of ts j) ≡ true) (λ j (f : AfterFree rs ts w y j). f.warm) ks freed_each) (ap is_warm its_record, tt);
      total =
          let e : ends_len (ends_with (ends_at table a0) y) ≡ ends_len (ends_at table a0) + 1 = one_more (ends_at table a0) in
          let was : table_total table ≡ length ks = woven.total in
          let longer : length (ks ++ y ∷ []) ≡ length ks + length (y ∷ []) = length-append ks (y ∷ []) in
          omega arith;
      bytes_kept =
          let was : bytes ≡ sum_by (λ k. (warm_entry rs k).bytes) ks = woven.bytes_kept in
          let same : sum_by (λ k. (warm_entry ts k).bytes) ks ≡ sum_by (λ k. (warm_entry rs k).bytes) ks = same_bytes rs ts ks freed_entries in
          let push : sum_by (λ k. (warm_entry ts k).bytes) (ks ++ y ∷ []) ≡ sum_by (λ k. (warm_entry ts k).bytes) ks + (warm_entry ts y).bytes = sum_by_push (λ k. (warm_entry ts k).bytes) ks y in
          let its' : (warm_entry ts y).bytes ≡ more = ap (λ (s : WarmSlot). s.bytes) (entry_of ts y w its_record) in
          omega arith;
    }
