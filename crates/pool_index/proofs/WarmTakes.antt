-- A warm slot is taken, where the table was searched for its affinity.
use Rattle.std.proofs.Common.{◌≡◌, ℕ, suc, ◌+◌, ◌-◌, ◌*◌, ◌^◌, ◌<◌, ◌≤◌, ◌++◌, List, [], ◌∷◌, length, map, slice_index_or, remove, All, true, refl, sym, ap, subst, ◌∙◌, arith, take, drop, Option, None, IfSome, if◌then◌else◌}
use Rattle.pool_index.specs.Links.{is_warm, lists_of, ends_without, IsWoven}
use Rattle.pool_index.specs.Lists.{SlotLists, warm_slot, with_bytes, numbered, use_warm, take_accesses}
use Rattle.pool_index.specs.Records.{record_of, LinksWithin, taken_rows, taken_accesses}
use Rattle.pool_index.specs.Table.{ends_at, ends_len, table_total, same_affinity}
use Rattle.pool_index.specs.declared.affinity_table.Ends.{Ends}
use Rattle.pool_index.specs.declared.ids.SlotId.{SlotId}
use Rattle.pool_index.specs.declared.slot_row.SlotRecord.TheVariants.{Warm}
use Rattle.pool_index.specs.declared.slot_row.WarmRecord.{WarmRecord}
use Rattle.pool_index.specs.declared.warm_slot.WarmSlot.{WarmSlot}
use Rattle.pool_index.proofs.Imports.{All-tail, append_assoc}
use Rattle.pool_index.proofs.Records.{Rows, IsWarmRecord, warm_record}
use Rattle.pool_index.proofs.Tables.{Entries, Affinity}
use Rattle.pool_index.proofs.Weaving.{links_within, its_some, left_some, bytes_enough, taken_length, entry_of}
use Rattle.pool_index.proofs.Views.{IsFound, slot_found, split_woven, take_woven, take_shown}
use Rattle.pool_index.proofs.Ticks.{take_ticks}

module _ (rs : Rows) (table : Entries) (freed : Option Ends) (bytes : ℕ) (ks : List ℕ) (woven : IsWoven rs table freed bytes ks) (l : SlotLists) (view : lists_of rs freed ≡ l) (i x : ℕ) (inside : i < length l.warm) (slot : (warm_slot l i).slot.0 ≡ x) where
  found : IsFound rs ks l i x
  found = slot_found rs table freed bytes ks woven l view i x inside slot

  split : IsWoven rs table freed bytes (take i ks ++ x ∷ drop (suc i) ks)
  split = split_woven rs table freed bytes ks woven l view i x found

  pub slot_warm : is_warm (record_of rs x) ≡ true
  slot_warm = found.warm

  pub slot_linked : Affinity → LinksWithin (length rs) (record_of rs x)
  slot_linked want =
      let w : IsWarmRecord (record_of rs x) = warm_record (record_of rs x) found.warm in
      links_within rs table freed bytes (take i ks) x (drop (suc i) ks) split w.warm w.is want

  module _ (w : WarmRecord) (is : Warm w ≡ record_of rs x) (want : Affinity) where
    pub took_bytes : w.bytes ≤ bytes
    took_bytes = bytes_enough rs table freed bytes (take i ks) x (drop (suc i) ks) split w (sym is) want

    pub took_answer : (record { 0 = x }, w.bytes) ≡ with_bytes (warm_slot l i)
    took_answer = sym (ap with_bytes (found.entry ∙ entry_of rs x w (sym is)))

    pub took_affinity : (warm_slot l i).affinity ≡ w.affinity
    took_affinity = ap (λ e. e.affinity) (found.entry ∙ entry_of rs x w (sym is))

    pub took_steps : taken_accesses w ≡ take_accesses l i
    took_steps = let t = take_ticks rs table freed bytes ks woven l view i x inside found w (sym is) want in omega arith

    pub took_length : length (taken_rows want w x rs) ≡ length rs
    took_length = taken_length rs table freed bytes (take i ks) x (drop (suc i) ks) split w (sym is) want

    -- by what a search for its affinity found
    module _ (b : Affinity) (its : w.affinity ≡ b) (e left : Option Ends) (list : e ≡ ends_at table b) (is_left : left ≡ ends_without w.affine e) where
      left_of : left ≡ ends_without w.affine (ends_at table w.affinity)
      left_of = is_left ∙ ap (ends_without w.affine) (list ∙ ap (ends_at table) (sym its))

      pub took_some : ends_at table b ≡ None → ⊥
      took_some none' = its_some rs table freed bytes (take i ks) x (drop (suc i) ks) split w (sym is) want (ap (ends_at table) its ∙ none')

      pub took_left : IfSome left (λ e. 0 < e.len)
      took_left = subst (λ (o : Option Ends). IfSome o (λ (e : Ends). 0 < e.len)) (sym left_of) (left_some rs table freed bytes (take i ks) x (drop (suc i) ks) split w (sym is) want)

      module _ (rows' : Rows) (table' : Entries) (freed' : Option Ends) (rows : rows' ≡ taken_rows want w x rs) (freed_now : freed' ≡ ends_without w.freed freed)
          (ends : (a : Affinity) → ends_at table' a ≡ (if same_affinity a b then left else ends_at table a)) (total : table_total table' + ends_len (ends_at table b) ≡ table_total table + ends_len left) where
        ends_now : (a : Affinity) → ends_at table' a ≡ (if same_affinity a w.affinity then ends_without w.affine (ends_at table w.affinity) else ends_at table a)
        ends_now a = ends a ∙ (λ k. if same_affinity a (sym its k) then left_of k else ends_at table a)

        total_now : table_total table' + ends_len (ends_at table w.affinity) ≡ table_total table + ends_len (ends_without w.affine (ends_at table w.affinity))
        total_now = (λ k. table_total table' + ends_len (ends_at table (its k))) ∙ total ∙ (λ k. table_total table + ends_len (left_of k))

        pub took_woven : IsWoven rows' table' freed' (bytes - w.bytes) (take i ks ++ drop (suc i) ks)
        took_woven = take_woven rs table freed bytes ks woven l view i x found w (sym is) want rows' table' freed' rows freed_now ends_now total_now

        pub took_shown : lists_of rows' freed' ≡ use_warm want l i
        took_shown = take_shown rs table freed bytes ks woven l view i x found w (sym is) want rows' table' freed' rows freed_now ends_now total_now

-- all but the first
pub rest_fits : (first step : ℕ) (es : List WarmSlot) → All (λ e. first + e.slot.0 * step < 2 ^ 32) es → All (λ e. first + e.slot.0 * step < 2 ^ 32) (remove es 0)
rest_fits first step [] all = all
rest_fits first step (e ∷ es) all = All-tail (λ (e : WarmSlot). first + e.slot.0 * step < 2 ^ 32) e es all

pub one_more : (first step : ℕ) (es : List WarmSlot) (d : WarmSlot) (p : SlotId × ℕ) (out : List (SlotId × ℕ)) → 0 < length es → p ≡ with_bytes (slice_index_or es 0 d) → (out ++ numbered first step p ∷ []) ++ map (numbered first step) (map with_bytes (remove es 0)) ≡ out ++ map (numbered first step) (map with_bytes es)
one_more first step [] d p out some e = absurd (omega arith)
one_more first step (e ∷ es) d p out some is =
    append_assoc out (numbered first step p ∷ []) (map (numbered first step) (map with_bytes es))
    ∙ ap (λ (q : SlotId × ℕ). out ++ numbered first step q ∷ map (numbered first step) (map with_bytes es)) is

pub numbered_same : (ys : List (SlotId × ℕ)) → map (numbered 0 1) ys ≡ ys
numbered_same [] = refl
numbered_same (p ∷ ps) = let q : 0 + p.0.0 * 1 ≡ p.0.0 = omega arith in (λ k. (record { 0 = q k }, p.1) ∷ numbered_same ps k)
