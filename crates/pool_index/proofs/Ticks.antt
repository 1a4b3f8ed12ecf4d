-- How often records are accessed where links are set.
use Rattle.std.proofs.Common.{◌≡◌, ℕ, suc, ◌+◌, ◌-◌, ◌++◌, ◌<◌, take, drop, length-append, Bool, true, false, List, [], ◌∷◌, length, filter, min, map, refl, ap, sym, ◌∙◌, Option, None, Some, slice_index_or, unwrap_or, if◌then◌else◌, arith}
use Rattle.pool_index.specs.Links.{first_of, last_or, ends_of, ends_last, lists_of, use_in, warm_entry, has_affinity, with_affinity, IsWoven}
use Rattle.pool_index.specs.Lists.{SlotLists, with_same, warm_slot, take_accesses}
use Rattle.pool_index.specs.Records.{record_of, link_accesses}
use Rattle.pool_index.specs.Table.{ends_at, same_affinity}
use Rattle.pool_index.specs.declared.affinity_table.Ends.{Ends}
use Rattle.pool_index.specs.declared.slot_row.SlotRecord.TheVariants.{Cold, Used, Warm}
use Rattle.pool_index.specs.declared.slot_row.WarmRecord.{WarmRecord}
use Rattle.pool_index.specs.declared.warm_slot.WarmSlot.{WarmSlot}
use Rattle.pool_index.proofs.Records.{Rows}
use Rattle.pool_index.proofs.Tables.{Entries, Affinity}
use Rattle.pool_index.proofs.Views.{IsFound, is_shown, shown_length, split_woven, get_map}
use Rattle.pool_index.proofs.Ends.{last_of_ends}
use Rattle.pool_index.proofs.Weaving.{entry_of, freed_before, freed_after, affine_before, affine_after}
use Rattle.std.proofs.lemmas.List.{take-map, drop-map}

-- the last slot of a list is linked, where the list has one
last_linked : (ks : List ℕ) → link_accesses (ends_last (ends_of ks)) ≡ min 1 (length ks)
last_linked [] = omega arith
last_linked (k ∷ ks) = omega arith

before_linked : (ks : List ℕ) → link_accesses (last_or None ks) ≡ min 1 (length ks)
before_linked ks = ap link_accesses (sym (last_of_ends ks)) ∙ last_linked ks

first_linked : (ks : List ℕ) → link_accesses (first_of ks) ≡ min 1 (length ks)
first_linked [] = omega arith
first_linked (k ∷ ks) = omega arith

sum_of_four : (a b c d k m n o : ℕ) → a ≡ k → b ≡ m → c ≡ n → d ≡ o → a + b + c + d + 1 ≡ 1 + k + m + n + o
sum_of_four a b c d k m n o e f g h = omega arith

longer : (rs : Rows) (b : Bool) (k : ℕ) (ks : List ℕ) (e : WarmSlot) (es : List WarmSlot) → length ks ≡ length es → length (if b then k ∷ ks else ks) ≡ length (if b then e ∷ es else es)
longer rs true k ks e es same = omega arith
longer rs false k ks e es same = same

as_many_with : (rs : Rows) (a : Affinity) (ks : List ℕ) → length (with_affinity rs a ks) ≡ length (filter (λ (e : WarmSlot). same_affinity a e.affinity) (map (warm_entry rs) ks))
as_many_with rs a [] = refl
as_many_with rs a (k ∷ ks) = longer rs (has_affinity rs a k) k (with_affinity rs a ks) (warm_entry rs k) (filter (λ (e : WarmSlot). same_affinity a e.affinity) (map (warm_entry rs) ks)) (as_many_with rs a ks)

module _ (rs : Rows) (table : Entries) (freed : Option Ends) (bytes : ℕ) (ks : List ℕ) (woven : IsWoven rs table freed bytes ks) (l : SlotLists) (view : lists_of rs freed ≡ l) where
  pub freed_ticks : link_accesses (ends_last freed) ≡ min 1 (length l.warm)
  freed_ticks =
      let a = ap (λ (e : Option Ends). link_accesses (ends_last e)) woven.freed_ends ∙ last_linked ks in
      let b = shown_length rs table freed bytes ks woven l view in
      omega arith

  pub affine_ticks : (y : ℕ) (a : Affinity) → record_of rs y ≡ Used a → link_accesses (ends_last (ends_at table a)) ≡ min 1 (length (with_same (unwrap_or (slice_index_or l.used y None) None) l.warm))
  affine_ticks y a here =
      let all = is_shown rs table freed bytes ks woven l view in
      let picked : slice_index_or l.used y None ≡ Some a = ap (λ (m : SlotLists). slice_index_or m.used y None) all ∙ get_map use_in rs y Cold ∙ ap use_in here in
      let many : length (with_same a l.warm) ≡ length (with_affinity rs a ks) = ap (λ (m : SlotLists). length (with_same a m.warm)) all ∙ sym (as_many_with rs a ks) in
      let linked = ap (λ (e : Option Ends). link_accesses (ends_last e)) (woven.affine_ends a) ∙ last_linked (with_affinity rs a ks) in
      linked ∙ ap (min 1) (sym many) ∙ ap (λ (o : Option Affinity). min 1 (length (with_same (unwrap_or o None) l.warm))) (sym picked)

  module _ (i x : ℕ) (inside : i < length l.warm) (found : IsFound rs ks l i x) (w : WarmRecord) (here : record_of rs x ≡ Warm w) (want : Affinity) where
    abbrev ls : List ℕ
    ls = take i ks

    abbrev bs : List ℕ
    bs = drop (suc i) ks

    its : w.affinity ≡ (warm_slot l i).affinity
    its = sym (ap (λ (e : WarmSlot). e.affinity) (found.entry ∙ entry_of rs x w here))

    split : IsWoven rs table freed bytes (ls ++ x ∷ bs)
    split = split_woven rs table freed bytes ks woven l view i x found

    same_warm : l.warm ≡ map (warm_entry rs) ks
    same_warm = ap (λ (m : SlotLists). m.warm) (is_shown rs table freed bytes ks woven l view)

    part : (p : List ℕ) (es : List WarmSlot) → es ≡ map (warm_entry rs) p → length (with_affinity rs w.affinity p) ≡ length (with_same (warm_slot l i).affinity es)
    part p es same = as_many_with rs w.affinity p ∙ ap (λ (a : Affinity). length (with_same a (map (warm_entry rs) p))) its ∙ ap (λ (m : List WarmSlot). length (with_same (warm_slot l i).affinity m)) (sym same)

    behind_it : length bs ≡ length l.warm - (i + 1)
    behind_it =
        let g = found.place in
        let h : length (ls ++ x ∷ bs) ≡ length ks = ap length found.split in
        let j : length (ls ++ x ∷ bs) ≡ length ls + length (x ∷ bs) = length-append ls (x ∷ bs) in
        let k = shown_length rs table freed bytes ks woven l view in
        omega arith

    pub take_ticks : link_accesses w.freed.before + link_accesses w.freed.after + link_accesses w.affine.before + link_accesses w.affine.after + 1 ≡ take_accesses l i
    take_ticks = sum_of_four _ _ _ _ _ _ _ _
        (ap link_accesses (freed_before rs table freed bytes ls x bs split w here want) ∙ before_linked ls ∙ ap (min 1) found.place)
        (ap link_accesses (freed_after rs table freed bytes ls x bs split w here want) ∙ first_linked bs ∙ ap (min 1) behind_it)
        (ap link_accesses (affine_before rs table freed bytes ls x bs split w here want) ∙ before_linked (with_affinity rs w.affinity ls) ∙ ap (min 1) (part ls (take i l.warm) (ap (take i) same_warm ∙ take-map (warm_entry rs) i ks)))
        (ap link_accesses (affine_after rs table freed bytes ls x bs split w here want) ∙ first_linked (with_affinity rs w.affinity bs)
        ∙ ap (min 1) (part bs (drop (i + 1) l.warm) (ap (λ (k : ℕ). drop k l.warm) (let q : i + 1 ≡ suc i = omega arith in q) ∙ ap (drop (suc i)) same_warm ∙ drop-map (warm_entry rs) (suc i) ks)))
