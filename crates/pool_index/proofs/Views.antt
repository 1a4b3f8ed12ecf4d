-- The lists that the records of slots stand for.
use Rattle.std.proofs.Common.{◌≡◌, ◌≢◌, ℕ, zero, suc, ◌+◌, ◌-◌, ◌<◌, Bool, true, false, List, [], ◌∷◌, ◌++◌, length, map, refl, ap, sym, ◌∙◌, subst, arith, take, drop, get_or, length-append, get_or-set_other, Option, None, Some, option_map, slice_index_or, slice_set, remove, replicate, filter, sum_by, unwrap_or, if◌then◌else◌}
use Rattle.pool_index.proofs.Imports.{sum_by-cons, option_or, option_map_or, map-append, map-set, length-map, length-replicate, get_or-replicate, same_lists, sum_by-replicate}
use Rattle.pool_index.specs.Affinity.{is_affine, same_memory}
use Rattle.pool_index.specs.Laws.{last_of}
use Rattle.pool_index.specs.Positions.{last_position}
use Rattle.pool_index.proofs.Filtered.{last_passes}
use Rattle.pool_index.proofs.LastPlaces.{last_position-filter}
use Rattle.pool_index.proofs.Ends.{last_of_ends}
use Rattle.pool_index.specs.Links.{Each, IsLinked, before_in, has_affinity, with_affinity, first_of, last_or, ends_of, ends_first, ends_last, is_warm, entry_in, warm_entry, use_in, Linked, after_in, followed, lists_of, ends_with, ends_without, IsWoven}
use Rattle.pool_index.specs.Lists.{SlotLists, warm_slot, bytes_of, use_warm, use_slot, free_slot}
use Rattle.pool_index.specs.Records.{record_of, links_of, cold_records, taken_rows}
use Rattle.pool_index.proofs.Linking.{each-weaker, each-both, each-filter, same_links}
use Rattle.pool_index.specs.Table.{ends_at, ends_len, entry_len, has, table_total, same_affinity}
use Rattle.pool_index.specs.declared.ids.MemoryInModule.{MemoryInModule}
use Rattle.pool_index.specs.declared.affinity_table.Ends.{Ends}
use Rattle.pool_index.specs.declared.slot_row.Chain.TheVariants.{Freed, Affine}
use Rattle.pool_index.specs.declared.slot_row.WarmRecord.{WarmRecord}
use Rattle.pool_index.specs.declared.slot_row.SlotRecord.{SlotRecord}
use Rattle.pool_index.specs.declared.slot_row.SlotRecord.TheVariants.{Cold, Used, Warm}
use Rattle.pool_index.specs.declared.warm_slot.WarmSlot.{WarmSlot}
use Rattle.pool_index.proofs.Records.{Rows, uses_unlinked, uses_appended}
use Rattle.pool_index.proofs.Tables.{Entries, Affinity, same_is, none_has, get_or-replicate-any}
use Rattle.pool_index.proofs.Weaving.{ends_len_of, taken_entries, taken_woven, entry_of, same_filter, same_bytes}
use Rattle.pool_index.proofs.Freeing.{freed_record, freed_rows, freed_entries, freed_woven, its_record}

-- the links lead through the list
followed_all : (rs : Rows) (before : ℕ → Option ℕ) (p : Option ℕ) (ks : List ℕ) → Linked (after_in Freed rs) before p ks → followed rs (length ks) (first_of ks) ≡ ks
followed_all rs before p [] h = refl
followed_all rs before p (k ∷ ks) h = ap (λ l. k ∷ l) (ap (followed rs (length ks)) h.1 ∙ followed_all rs before (Some k) ks h.2)

first_of_ends : (ks : List ℕ) → ends_first (ends_of ks) ≡ first_of ks
first_of_ends [] = refl
first_of_ends (k ∷ ks) = refl

-- woven records stand for their slots' entries
abbrev pub shown : Rows → List ℕ → SlotLists
shown rs ks = record { warm = map (warm_entry rs) ks; used = map use_in rs }

pub lists_shown : (rs : Rows) (table : Entries) (freed : Option Ends) (bytes : ℕ) (ks : List ℕ) → IsWoven rs table freed bytes ks → lists_of rs freed ≡ shown rs ks
lists_shown rs table freed bytes ks woven =
    let l : followed rs (ends_len freed) (ends_first freed) ≡ ks =
    (λ i. followed rs (ends_len (woven.freed_ends i)) (ends_first (woven.freed_ends i)))
    ∙ (λ i. followed rs (ends_len_of ks i) (first_of_ends ks i))
    ∙ followed_all rs _ None ks woven.freed_linked in
    (λ i. record { warm = map (warm_entry rs) (l i); used = map use_in rs })

map_agree : (f g : ℕ → WarmSlot) (ks : List ℕ) → Each (λ k. f k ≡ g k) ks → map f ks ≡ map g ks
map_agree f g [] h = refl
map_agree f g (k ∷ ks) h = (λ i. h.0 i ∷ map_agree f g ks h.1 i)

remove_seam : {X : Type 0} (ls : List X) (x : X) (bs : List X) (n : ℕ) → length ls ≡ n → remove (ls ++ x ∷ bs) n ≡ ls ++ bs
remove_seam [] x bs n e = ap (remove (x ∷ bs)) (sym e)
remove_seam (a ∷ ls) x bs n e = ap (remove (a ∷ (ls ++ x ∷ bs))) (sym e) ∙ ap (λ l. a ∷ l) (remove_seam ls x bs (length ls) refl)

pub get_map : {X Y : Type 0} (f : X → Y) (xs : List X) (i : ℕ) (d : X) → get_or (map f xs) i (f d) ≡ f (get_or xs i d)
get_map f [] i d = refl
get_map f (x ∷ xs) zero d = refl
get_map f (x ∷ xs) (suc i) d = get_map f xs i d

get_map_in : {X Y : Type 0} (f : X → Y) (xs : List X) (i : ℕ) (d : X) (e : Y) → i < length xs → get_or (map f xs) i e ≡ f (get_or xs i d)
get_map_in f [] i d e h = absurd (omega arith)
get_map_in f (x ∷ xs) zero d e h = refl
get_map_in f (x ∷ xs) (suc i) d e h = get_map_in f xs i d e (omega arith)

-- the entry at a place is that of the slot there
pub shown_at : (rs : Rows) (ks : List ℕ) (i : ℕ) → i < length ks → warm_slot (shown rs ks) i ≡ warm_entry rs (get_or ks i 0)
shown_at rs ks i h = get_map_in (warm_entry rs) ks i 0 _ h

-- an entry has the number of its slot
pub entry_slot : (k : ℕ) (r : SlotRecord) → (entry_in k r).slot.0 ≡ k
entry_slot k Cold = refl
entry_slot k (Used a) = refl
entry_slot k (Warm w) = refl

get_seam : (ls : List ℕ) (x : ℕ) (bs : List ℕ) → get_or (ls ++ x ∷ bs) (length ls) 0 ≡ x
get_seam [] x bs = refl
get_seam (a ∷ ls) x bs = get_seam ls x bs

seam_inside : (ls : List ℕ) (x : ℕ) (bs : List ℕ) → length ls < length (ls ++ x ∷ bs)
seam_inside ls x bs = let a : length (ls ++ x ∷ bs) ≡ length ls + length (x ∷ bs) = length-append ls (x ∷ bs) in omega arith

-- a slot that is taken is used, and no more in the list
taken_shown : (rs : Rows) (table : Entries) (freed : Option Ends) (bytes : ℕ) (ls : List ℕ) (x : ℕ) (bs : List ℕ) (woven : IsWoven rs table freed bytes (ls ++ x ∷ bs)) (w : WarmRecord) (here : record_of rs x ≡ Warm w) (want : Option MemoryInModule) → shown (taken_rows want w x rs) (ls ++ bs) ≡ use_warm want (shown rs (ls ++ x ∷ bs)) (length ls)
taken_shown rs table freed bytes ls x bs woven w here want =
    let at' : warm_slot (shown rs (ls ++ x ∷ bs)) (length ls) ≡ warm_entry rs x = shown_at rs (ls ++ x ∷ bs) (length ls) (seam_inside ls x bs) ∙ ap (warm_entry rs) (get_seam ls x bs) in
    let slot : (warm_slot (shown rs (ls ++ x ∷ bs)) (length ls)).slot.0 ≡ x = ap (λ (e : WarmSlot). e.slot.0) at' ∙ entry_slot x (record_of rs x) in
    let warm : map (warm_entry (taken_rows want w x rs)) (ls ++ bs) ≡ remove (map (warm_entry rs) (ls ++ x ∷ bs)) (length ls) =
    map_agree (warm_entry (taken_rows want w x rs)) (warm_entry rs) (ls ++ bs) (taken_entries rs table freed bytes ls x bs woven w here want)
    ∙ map-append (warm_entry rs) ls bs
    ∙ sym (remove_seam (map (warm_entry rs) ls) (warm_entry rs x) (map (warm_entry rs) bs) (length ls) (length-map ls (warm_entry rs)))
    ∙ ap (λ l. remove l (length ls)) (sym (map-append (warm_entry rs) ls (x ∷ bs))) in
    let used : map use_in (taken_rows want w x rs) ≡ slice_set (map use_in rs) (warm_slot (shown rs (ls ++ x ∷ bs)) (length ls)).slot.0 (Some want) =
    uses_unlinked Affine w.affine _ ∙ uses_unlinked Freed w.freed _ ∙ map-set use_in rs x (Used want) ∙ ap (λ m. slice_set (map use_in rs) m (Some want)) (sym slot) in
    (λ i. record { warm = warm i; used = used i })

-- the slots before and after a place
split_at : (ks : List ℕ) (i : ℕ) → i < length ks → take i ks ++ get_or ks i 0 ∷ drop (suc i) ks ≡ ks
split_at [] i h = absurd (omega arith)
split_at (k ∷ ks) zero h = refl
split_at (k ∷ ks) (suc i) h = ap (λ l. k ∷ l) (split_at ks i (omega arith))

length_taken : (ks : List ℕ) (i : ℕ) → i < length ks → length (take i ks) ≡ i
length_taken [] i h = absurd (omega arith)
length_taken (k ∷ ks) zero h = refl
length_taken (k ∷ ks) (suc i) h = ap suc (length_taken ks i (omega arith))

-- a slot that is freed is the last of the list
pub freed_shown : (rs : Rows) (table : Entries) (freed : Option Ends) (bytes : ℕ) (ks : List ℕ) (woven : IsWoven rs table freed bytes ks) (y : ℕ) (a : Affinity) (more : ℕ) (here : record_of rs y ≡ Used a) (inside : y < length rs) → shown (freed_rows (freed_record a more freed (ends_at table a)) y rs) (ks ++ y ∷ []) ≡ free_slot (record { 0 = y }) more (shown rs ks)
freed_shown rs table freed bytes ks woven y a more here inside =
    let w : WarmRecord = freed_record a more freed (ends_at table a) in
    let picked : slice_index_or (map use_in rs) y None ≡ Some a = get_map use_in rs y Cold ∙ ap use_in here in
    let entry : warm_entry (freed_rows w y rs) y ≡ record { slot = record { 0 = y }; affinity = unwrap_or (slice_index_or (map use_in rs) y None) None; bytes = more } =
    entry_of (freed_rows w y rs) y w (its_record rs table freed bytes ks woven y a more here inside)
    ∙ (λ i. record { slot = record { 0 = y }; affinity = unwrap_or (sym picked i) None; bytes = more }) in
    let warm : map (warm_entry (freed_rows w y rs)) (ks ++ y ∷ []) ≡ map (warm_entry rs) ks ++ record { slot = record { 0 = y }; affinity = unwrap_or (slice_index_or (map use_in rs) y None) None; bytes = more } ∷ [] =
    map-append (warm_entry (freed_rows w y rs)) ks (y ∷ [])
    ∙ (λ i. map_agree (warm_entry (freed_rows w y rs)) (warm_entry rs) ks (freed_entries rs table freed bytes ks woven y a more here inside) i ++ entry i ∷ []) in
    let used : map use_in (freed_rows w y rs) ≡ slice_set (map use_in rs) y None = uses_appended Affine w.affine.before y _ ∙ uses_appended Freed w.freed.before y _ ∙ map-set use_in rs y (Warm w) in
    (λ i. record { warm = warm i; used = used i })

bytes_map : (rs : Rows) (ks : List ℕ) → bytes_of (map (warm_entry rs) ks) ≡ sum_by (λ k. (warm_entry rs k).bytes) ks
bytes_map rs [] = refl
bytes_map rs (k ∷ ks) =
    let a : bytes_of (map (warm_entry rs) (k ∷ ks)) ≡ (warm_entry rs k).bytes + bytes_of (map (warm_entry rs) ks) = sum_by-cons (λ (e : WarmSlot). e.bytes) (warm_entry rs k) (map (warm_entry rs) ks) in
    let b : sum_by (λ k. (warm_entry rs k).bytes) (k ∷ ks) ≡ (warm_entry rs k).bytes + sum_by (λ k. (warm_entry rs k).bytes) ks = sum_by-cons (λ k. (warm_entry rs k).bytes) k ks in
    let c : bytes_of (map (warm_entry rs) ks) ≡ sum_by (λ k. (warm_entry rs k).bytes) ks = bytes_map rs ks in
    omega arith

-- records whose warm slots stay as they were are woven as before
same_woven : (rs ts : Rows) (table : Entries) (freed : Option Ends) (bytes : ℕ) (ks : List ℕ) → Each (λ j. record_of ts j ≡ record_of rs j) ks → IsWoven rs table freed bytes ks → IsWoven ts table freed bytes ks
same_woven rs ts table freed bytes ks same woven =
    let entries : Each (λ j. warm_entry ts j ≡ warm_entry rs j) ks = each-weaker (λ j. record_of ts j ≡ record_of rs j) (λ j. warm_entry ts j ≡ warm_entry rs j) (λ j e. ap (entry_in j) e) ks same in
    let filters : (a : Affinity) → with_affinity ts a ks ≡ with_affinity rs a ks = λ a. same_filter rs ts a ks entries in
    record {
      freed_ends = woven.freed_ends;
      freed_linked = same_links (after_in Freed rs) (before_in Freed rs) (after_in Freed ts) (before_in Freed ts) None ks (each-weaker (λ j. record_of ts j ≡ record_of rs j) (λ j. (after_in Freed ts j ≡ after_in Freed rs j) × (before_in Freed ts j ≡ before_in Freed rs j)) (λ j e. (ap (λ r. (links_of Freed r).after) e, ap (λ r. (links_of Freed r).before) e)) ks same) woven.freed_linked;
      affine_ends = λ a. woven.affine_ends a ∙ ap ends_of (sym (filters a));
      affine_linked = λ a. subst (IsLinked Affine ts) (sym (filters a))
          (same_links (after_in Affine rs) (before_in Affine rs) (after_in Affine ts) (before_in Affine ts) None (with_affinity rs a ks) (each-filter (λ j. (after_in Affine ts j ≡ after_in Affine rs j) × (before_in Affine ts j ≡ before_in Affine rs j)) (has_affinity rs a) ks (each-weaker (λ j. record_of ts j ≡ record_of rs j) (λ j. (after_in Affine ts j ≡ after_in Affine rs j) × (before_in Affine ts j ≡ before_in Affine rs j)) (λ j e. (ap (λ r. (links_of Affine r).after) e, ap (λ r. (links_of Affine r).before) e)) ks same)) (woven.affine_linked a));
      apart = woven.apart;
      warm = each-weaker (λ j. (record_of ts j ≡ record_of rs j) × (is_warm (record_of rs j) ≡ true)) (λ j. is_warm (record_of ts j) ≡ true) (λ j h. ap is_warm h.0 ∙ h.1) ks (each-both (λ j. record_of ts j ≡ record_of rs j) (λ j. is_warm (record_of rs j) ≡ true) ks same woven.warm);
      total = woven.total;
      bytes_kept = woven.bytes_kept ∙ sym (same_bytes rs ts ks entries);
    }

-- Where a slot stands in the list
pub record IsFound (rs : Rows) (ks : List ℕ) (l : SlotLists) (i x : ℕ) : Type 0 where
  pub split : take i ks ++ x ∷ drop (suc i) ks ≡ ks
  pub place : length (take i ks) ≡ i
  pub entry : warm_slot l i ≡ warm_entry rs x
  pub warm : is_warm (record_of rs x) ≡ true

each_at : (P : ℕ → Type 0) (ks : List ℕ) (i : ℕ) → i < length ks → Each P ks → P (get_or ks i 0)
each_at P [] i h e = absurd (omega arith)
each_at P (k ∷ ks) zero h e = e.0
each_at P (k ∷ ks) (suc i) h e = each_at P ks i (omega arith) e.1

pub each_from : (P : ℕ → Type 0) (ks : List ℕ) → ((i : ℕ) → i < length ks → P (get_or ks i 0)) → Each P ks
each_from P [] h = tt
each_from P (k ∷ ks) h = (h 0 (omega arith), each_from P ks (λ i inside. h (suc i) (omega arith)))

module _ (rs : Rows) (table : Entries) (freed : Option Ends) (bytes : ℕ) (ks : List ℕ) (woven : IsWoven rs table freed bytes ks) (l : SlotLists) (view : lists_of rs freed ≡ l) where
  pub is_shown : l ≡ shown rs ks
  is_shown = sym view ∙ lists_shown rs table freed bytes ks woven

  pub shown_length : length l.warm ≡ length ks
  shown_length = ap (λ (m : SlotLists). length m.warm) is_shown ∙ length-map ks (warm_entry rs)

  pub shown_used : length l.used ≡ length rs
  shown_used = ap (λ (m : SlotLists). length m.used) is_shown ∙ length-map rs use_in

  pub shown_bytes : bytes ≡ bytes_of l.warm
  shown_bytes = woven.bytes_kept ∙ sym (ap (λ (m : SlotLists). bytes_of m.warm) is_shown ∙ bytes_map rs ks)

  pub shown_len : ends_len freed ≡ length l.warm
  shown_len = ap ends_len woven.freed_ends ∙ ends_len_of ks ∙ sym shown_length

  pub slot_found : (i x : ℕ) → i < length l.warm → (warm_slot l i).slot.0 ≡ x → IsFound rs ks l i x
  slot_found i x inside its =
      let in' : i < length ks = let e = shown_length in omega arith in
      let entry : warm_slot l i ≡ warm_entry rs (get_or ks i 0) = ap (λ (m : SlotLists). warm_slot m i) is_shown ∙ shown_at rs ks i in' in
      let here : get_or ks i 0 ≡ x = sym (entry_slot (get_or ks i 0) (record_of rs (get_or ks i 0))) ∙ ap (λ (e : WarmSlot). e.slot.0) (sym entry) ∙ its in
      record {
        split = ap (λ m. take i ks ++ m ∷ drop (suc i) ks) (sym here) ∙ split_at ks i in';
        place = length_taken ks i in';
        entry = entry ∙ ap (warm_entry rs) here;
        warm = ap (λ m. is_warm (record_of rs m)) (sym here) ∙ each_at (λ k. is_warm (record_of rs k) ≡ true) ks i in' woven.warm;
      }

  module _ (i x : ℕ) (found : IsFound rs ks l i x) where
    pub split_woven : IsWoven rs table freed bytes (take i ks ++ x ∷ drop (suc i) ks)
    split_woven = subst (IsWoven rs table freed bytes) (sym found.split) woven

    module _ (w : WarmRecord) (here : record_of rs x ≡ Warm w) (want : Option MemoryInModule) (rows' : Rows) (table' : Entries) (freed' : Option Ends) (rows : rows' ≡ taken_rows want w x rs) (freed_now : freed' ≡ ends_without w.freed freed)
        (ends : (a : Affinity) → ends_at table' a ≡ (if same_affinity a w.affinity then ends_without w.affine (ends_at table w.affinity) else ends_at table a)) (total : table_total table' + ends_len (ends_at table w.affinity) ≡ table_total table + ends_len (ends_without w.affine (ends_at table w.affinity))) where
      pub take_woven : IsWoven rows' table' freed' (bytes - w.bytes) (take i ks ++ drop (suc i) ks)
      take_woven =
          subst (λ r. IsWoven r table' freed' (bytes - w.bytes) (take i ks ++ drop (suc i) ks)) (sym rows)
          (subst (λ f. IsWoven (taken_rows want w x rs) table' f (bytes - w.bytes) (take i ks ++ drop (suc i) ks)) (sym freed_now)
          (taken_woven rs table freed bytes (take i ks) x (drop (suc i) ks) split_woven w here want table' ends total))

      pub take_shown : lists_of rows' freed' ≡ use_warm want l i
      take_shown =
          lists_shown rows' table' freed' (bytes - w.bytes) (take i ks ++ drop (suc i) ks) take_woven
          ∙ ap (λ r. shown r (take i ks ++ drop (suc i) ks)) rows
          ∙ taken_shown rs table freed bytes (take i ks) x (drop (suc i) ks) split_woven w here want
          ∙ (λ k. use_warm want (shown rs (found.split k)) (found.place k))
          ∙ ap (λ m. use_warm want m i) (sym is_shown)

  module _ (y : ℕ) (a : Affinity) (more : ℕ) (here : record_of rs y ≡ Used a) (inside : y < length rs) (rows' : Rows) (table' : Entries) (freed' : Option Ends) (rows : rows' ≡ freed_rows (freed_record a more freed (ends_at table a)) y rs) (freed_now : freed' ≡ ends_with freed y)
      (ends : (b : Affinity) → ends_at table' b ≡ (if same_affinity b a then ends_with (ends_at table a) y else ends_at table b)) (total : table_total table' + ends_len (ends_at table a) ≡ table_total table + ends_len (ends_with (ends_at table a) y)) where
    pub free_woven : IsWoven rows' table' freed' (bytes + more) (ks ++ y ∷ [])
    free_woven =
        subst (λ r. IsWoven r table' freed' (bytes + more) (ks ++ y ∷ [])) (sym rows)
        (subst (λ f. IsWoven (freed_rows (freed_record a more freed (ends_at table a)) y rs) table' f (bytes + more) (ks ++ y ∷ [])) (sym freed_now)
        (freed_woven rs table freed bytes ks woven y a more here inside table' ends total))

    pub free_shown : lists_of rows' freed' ≡ free_slot (record { 0 = y }) more l
    free_shown =
        lists_shown rows' table' freed' (bytes + more) (ks ++ y ∷ []) free_woven
        ∙ ap (λ r. shown r (ks ++ y ∷ [])) rows
        ∙ freed_shown rs table freed bytes ks woven y a more here inside
        ∙ ap (free_slot (record { 0 = y }) more) (sym is_shown)

  -- a slot that isn't warm is used
  module _ (k : ℕ) (want : Option MemoryInModule) (cold : (i : ℕ) → i < length l.warm → (warm_slot l i).slot.0 ≢ k) where
    others : Each (λ j. j ≢ k) ks
    others = each_from (λ j. j ≢ k) ks (λ i in' same. cold i (let e = shown_length in omega arith) (ap (λ (m : SlotLists). (warm_slot m i).slot.0) is_shown ∙ ap (λ (e : WarmSlot). e.slot.0) (shown_at rs ks i in') ∙ entry_slot (get_or ks i 0) (record_of rs (get_or ks i 0)) ∙ same))

    same_records : Each (λ j. record_of (slice_set rs k (Used want)) j ≡ record_of rs j) ks
    same_records = each-weaker (λ j. j ≢ k) (λ j. record_of (slice_set rs k (Used want)) j ≡ record_of rs j) (λ j other. get_or-set_other rs k j (Used want) Cold other) ks others

    pub cold_woven : IsWoven (slice_set rs k (Used want)) table freed bytes ks
    cold_woven = same_woven rs (slice_set rs k (Used want)) table freed bytes ks same_records woven

    pub cold_shown : lists_of (slice_set rs k (Used want)) freed ≡ use_slot (record { 0 = k }) want l
    cold_shown =
        lists_shown (slice_set rs k (Used want)) table freed bytes ks cold_woven
        ∙ (λ i. record { warm = map_agree (warm_entry (slice_set rs k (Used want))) (warm_entry rs) ks (each-weaker (λ j. record_of (slice_set rs k (Used want)) j ≡ record_of rs j) (λ j. warm_entry (slice_set rs k (Used want)) j ≡ warm_entry rs j) (λ j e. ap (entry_in j) e) ks same_records) i; used = map-set use_in rs k (Used want) i })
        ∙ ap (use_slot (record { 0 = k }) want) (sym is_shown)

-- A fresh row
map_replicate : {X Y : Type 0} (f : X → Y) (n : ℕ) (x : X) → map f (replicate n x) ≡ replicate n (f x)
map_replicate f n x = same_lists (map f (replicate n x)) (replicate n (f x))
    (length-map (replicate n x) f ∙ length-replicate n x ∙ sym (length-replicate n (f x)))
    (λ k d inside.
    let in' : k < n = let e : length (map f (replicate n x)) ≡ length (replicate n x) = length-map (replicate n x) f in let r : length (replicate n x) ≡ n = length-replicate n x in omega arith in
    let in'' : k < length (replicate n x) = let r : length (replicate n x) ≡ n = length-replicate n x in omega arith in
    get_map_in f (replicate n x) k x d in'' ∙ ap f (get_or-replicate n k x x in') ∙ sym (get_or-replicate n k (f x) d in'))

fresh_ends : (n : ℕ) (a : Affinity) → ends_at (replicate n None) a ≡ None
fresh_ends n a = none_has (replicate n None) a (λ i. ap (has a) (get_or-replicate-any n i None))

pub fresh_woven : (rs : Rows) (table : Entries) (n m : ℕ) → rs ≡ cold_records n → table ≡ replicate m None → IsWoven rs table None 0 []
fresh_woven rs table n m r t = record {
  freed_ends = refl;
  freed_linked = tt;
  affine_ends = λ a. ap (λ l. ends_at l a) t ∙ fresh_ends m a;
  affine_linked = λ a. tt;
  apart = tt;
  warm = tt;
  total = ap table_total t ∙ sum_none m;
  bytes_kept = refl;
} where
  sum_none : (m : ℕ) → table_total (replicate m None) ≡ 0
  sum_none m = sum_by-replicate entry_len m None ∙ omega arith

pub fresh_shown : (rs : Rows) (n : ℕ) → rs ≡ cold_records n → lists_of rs None ≡ record { warm = []; used = replicate n None }
fresh_shown rs n r = (λ i. record { warm = []; used = (ap (map use_in) r ∙ map_replicate use_in n Cold) i })

-- The last slot of an affinity is the last affine slot of the list
affine_same : (of : MemoryInModule) (a : Affinity) → option_map_or (same_memory of) a false ≡ same_affinity (Some of) a
affine_same of None = refl
affine_same of (Some b) = refl

filter_cons : (rs : Rows) (k : ℕ) (ks ls : List ℕ) (b c : Bool) → b ≡ c → (if b then warm_entry rs k ∷ map (warm_entry rs) ls else map (warm_entry rs) ls) ≡ map (warm_entry rs) (if c then k ∷ ls else ls)
filter_cons rs k ks ls true c e = ap (λ t. map (warm_entry rs) (if t then k ∷ ls else ls)) e
filter_cons rs k ks ls false c e = ap (λ t. map (warm_entry rs) (if t then k ∷ ls else ls)) e

pub filter_shown : (rs : Rows) (of : MemoryInModule) (ks : List ℕ) → filter (is_affine of) (map (warm_entry rs) ks) ≡ map (warm_entry rs) (with_affinity rs (Some of) ks)
filter_shown rs of [] = refl
filter_shown rs of (k ∷ ks) =
    ap (λ l. if is_affine of (warm_entry rs k) then warm_entry rs k ∷ l else l) (filter_shown rs of ks)
    ∙ filter_cons rs k ks (with_affinity rs (Some of) ks) (is_affine of (warm_entry rs k)) (has_affinity rs (Some of) k) (affine_same of (warm_entry rs k).affinity)

or_some : (o : Option WarmSlot) (e : WarmSlot) (p : Option ℕ) → option_or (option_map (λ (x : WarmSlot). x.slot.0) (option_or o (Some e))) p ≡ option_or (option_map (λ (x : WarmSlot). x.slot.0) o) (Some e.slot.0)
or_some None e p = refl
or_some (Some x) e p = refl

last_shown : (rs : Rows) (p : Option ℕ) (ks : List ℕ) → last_or p ks ≡ option_or (option_map (λ (e : WarmSlot). e.slot.0) (last_of (map (warm_entry rs) ks))) p
last_shown rs p [] = refl
last_shown rs p (k ∷ ks) =
    last_shown rs (Some k) ks
    ∙ ap (λ m. option_or (option_map (λ (e : WarmSlot). e.slot.0) (last_of (map (warm_entry rs) ks))) (Some m)) (sym (entry_slot k (record_of rs k)))
    ∙ sym (or_some (last_of (map (warm_entry rs) ks)) (warm_entry rs k) p)

or_none : (o : Option ℕ) → option_or o None ≡ o
or_none None = refl
or_none (Some k) = refl

map_twice : (l : SlotLists) (o : Option ℕ) → option_map (λ (e : WarmSlot). e.slot.0) (option_map (warm_slot l) o) ≡ option_map (λ i. (warm_slot l i).slot.0) o
map_twice l None = refl
map_twice l (Some i) = refl

pub last_affine_shown : (rs : Rows) (table : Entries) (freed : Option Ends) (bytes : ℕ) (ks : List ℕ) (woven : IsWoven rs table freed bytes ks) (l : SlotLists) (view : lists_of rs freed ≡ l) (of : MemoryInModule) → ends_last (ends_at table (Some of)) ≡ option_map (λ i. (warm_slot l i).slot.0) (last_position (is_affine of) l.warm)
last_affine_shown rs table freed bytes ks woven l view of =
    ap ends_last (woven.affine_ends (Some of))
    ∙ last_of_ends (with_affinity rs (Some of) ks)
    ∙ last_shown rs None (with_affinity rs (Some of) ks)
    ∙ or_none _
    ∙ ap (λ m. option_map (λ (e : WarmSlot). e.slot.0) (last_of m)) (sym (filter_shown rs of ks))
    ∙ ap (λ (m : SlotLists). option_map (λ (e : WarmSlot). e.slot.0) (last_of (filter (is_affine of) m.warm))) (sym (is_shown rs table freed bytes ks woven l view))
    ∙ ap (option_map (λ (e : WarmSlot). e.slot.0)) (sym (last_position-filter (is_affine of) l.warm _))
    ∙ map_twice l (last_position (is_affine of) l.warm)

-- the place of the last affine slot
pub record IsLastAffine (l : SlotLists) (of : MemoryInModule) (x : ℕ) : Type 0 where
  pub place : ℕ
  pub at_place : last_position (is_affine of) l.warm ≡ Some place
  pub inside : place < length l.warm
  pub slot : (warm_slot l place).slot.0 ≡ x
  pub its : (warm_slot l place).affinity ≡ Some of

place_of : (l : SlotLists) (of : MemoryInModule) (x : ℕ) (o : Option ℕ) → last_position (is_affine of) l.warm ≡ o → Some x ≡ option_map (λ i. (warm_slot l i).slot.0) o → IsLastAffine l of x
place_of l of x None e h = absurd (cc h)
place_of l of x (Some i) e h =
    let last = last_passes (is_affine of) l.warm i _ e in
    record {
      place = i;
      at_place = e;
      inside = last.inside;
      slot = cc (sym h);
      its = sym (same_is (Some of) (warm_slot l i).affinity (sym (affine_same of (warm_slot l i).affinity) ∙ last.passes));
    }

pub last_affine_at : (l : SlotLists) (of : MemoryInModule) (x : ℕ) → Some x ≡ option_map (λ i. (warm_slot l i).slot.0) (last_position (is_affine of) l.warm) → IsLastAffine l of x
last_affine_at l of x h = place_of l of x (last_position (is_affine of) l.warm) refl h

none_of : {X Y : Type 0} (f : X → Y) (o : Option X) → None ≡ option_map f o → o ≡ None
none_of f None e = refl
none_of f (Some x) e = absurd (cc e)

pub no_last_affine : (l : SlotLists) (of : MemoryInModule) → None ≡ option_map (λ i. (warm_slot l i).slot.0) (last_position (is_affine of) l.warm) → last_position (is_affine of) l.warm ≡ None
no_last_affine l of e = none_of (λ i. (warm_slot l i).slot.0) (last_position (is_affine of) l.warm) e
