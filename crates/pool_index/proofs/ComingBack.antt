-- All warm slots are taken and freed in their order: the shard is as it was.
use Rattle.std.proofs.Common.{◌≡◌, ◌≢◌, ℕ, ◌+◌, ◌%◌, ◌^◌, ◌<◌, ◌≤◌, Bool, true, false, List, [], ◌∷◌, ◌++◌, length, refl, ap, ◌∙◌, sym, subst, arith, suc, get_or-set_same, get_or-set_other, length-set, eq-eqb, inl, inr, zero-add, Some, None, Option, IsSome, is_some, ◌==◌, slice_index_or, slice_set, count_by, map, unwrap_or, All, nat_lt}
use Rattle.pool_index.proofs.Imports.{nat_tests, append-nil, append_assoc, set-set, set_comm, set-get_or, All-from_get_or, All-map, All-nil, get_or-le-sum_by, sum_by-cons, cases_eq}
use Rattle.pool_index.proofs.Ones.{one_true}
use Rattle.pool_index.specs.Lists.{with_bytes, use_again}
use Rattle.pool_index.specs.Laws.{free_all, TakenSlotsComeBack}
use Rattle.pool_index.specs.Shard.{ShardState, IsShard, use_of, is_used, warm_count, one_if, entry_at, after_free, taken_slots, after_take_warm, KeepsUsed}
use Rattle.pool_index.specs.declared.ids.MemoryInModule.{MemoryInModule}
use Rattle.pool_index.specs.declared.ids.SlotId.{SlotId}
use Rattle.pool_index.specs.declared.warm_slot.WarmSlot.{WarmSlot}
use Rattle.pool_index.proofs.Shards.{IsFree, warm_slot_free, used_once_more_in}

abbrev Uses : Type 0
Uses = List (Option (Option MemoryInModule))

counts_first : (e : WarmSlot) (es : List WarmSlot) (k : ℕ) → warm_count k (e ∷ es) ≡ one_if (e.slot.0 == k) + warm_count k es
counts_first e es k = sum_by-cons (λ (x : WarmSlot). one_if (x.slot.0 == k)) e es

-- a slot that isn't there is another than the first
first_other : (e : WarmSlot) (es : List WarmSlot) (k : ℕ) → warm_count k (e ∷ es) ≡ 0 → k ≢ e.slot.0
first_other e es k none' same =
    let c : warm_count k (e ∷ es) ≡ one_if (e.slot.0 == k) + warm_count k es = counts_first e es k in
    let one : one_if (e.slot.0 == k) ≡ 1 = ap one_if (eq-eqb e.slot.0 k (sym same)) in
    omega arith

none_after : (e : WarmSlot) (es : List WarmSlot) (k : ℕ) → warm_count k (e ∷ es) ≡ 0 → warm_count k es ≡ 0
none_after e es k none' = let c : warm_count k (e ∷ es) ≡ one_if (e.slot.0 == k) + warm_count k es = counts_first e es k in omega arith

again_other : (es : List WarmSlot) (v : Uses) (k : ℕ) → warm_count k es ≡ 0 → slice_index_or (use_again es v) k None ≡ slice_index_or v k None
again_other [] v k none' = refl
again_other (e ∷ es) v k none' =
    let apart : k ≢ e.slot.0 = first_other e es k none' in
    again_other es (slice_set v e.slot.0 (Some e.affinity)) k (none_after e es k none') ∙ get_or-set_other v e.slot.0 k (Some e.affinity) None apart

again_set : (es : List WarmSlot) (v : Uses) (k : ℕ) (x : Option (Option MemoryInModule)) → warm_count k es ≡ 0 → slice_set (use_again es v) k x ≡ use_again es (slice_set v k x)
again_set [] v k x none' = refl
again_set (e ∷ es) v k x none' =
    let apart : e.slot.0 ≢ k = λ same. first_other e es k none' (sym same) in
    again_set es (slice_set v e.slot.0 (Some e.affinity)) k x (none_after e es k none') ∙ ap (use_again es) (set_comm v e.slot.0 k (Some e.affinity) x apart)

-- no slot is warm twice, and none is used
pub record Free (es : List WarmSlot) (v : Uses) : Type 0 where
  pub once : (k : ℕ) → warm_count k es ≤ 1
  pub within : (i : ℕ) (d : WarmSlot) → i < length es → (slice_index_or es i d).slot.0 < length v
  pub unused : (i : ℕ) (d : WarmSlot) → i < length es → slice_index_or v (slice_index_or es i d).slot.0 None ≡ None

free_rest : (e : WarmSlot) (es : List WarmSlot) (v : Uses) → Free (e ∷ es) v → Free es v
free_rest e es v f = record {
  once = λ k. let o : warm_count k (e ∷ es) ≤ 1 = f.once k in let c : warm_count k (e ∷ es) ≡ one_if (e.slot.0 == k) + warm_count k es = counts_first e es k in omega arith;
  within = λ i d inside. f.within (suc i) d (omega arith);
  unused = λ i d inside. f.unused (suc i) d (omega arith);
}

first_once : (e : WarmSlot) (es : List WarmSlot) (v : Uses) → Free (e ∷ es) v → warm_count e.slot.0 es ≡ 0
first_once e es v f =
    let o : warm_count e.slot.0 (e ∷ es) ≤ 1 = f.once e.slot.0 in
    let c : warm_count e.slot.0 (e ∷ es) ≡ one_if (e.slot.0 == e.slot.0) + warm_count e.slot.0 es = counts_first e es e.slot.0 in
    let one : one_if (e.slot.0 == e.slot.0) ≡ 1 = ap one_if (eq-eqb e.slot.0 e.slot.0 refl) in
    omega arith

walk : (es acc : List WarmSlot) (v : Uses) (s : ShardState) → Free es v → free_all (map with_bytes es) (record s { warm = acc; used = use_again es v }) ≡ record s { warm = acc ++ es; used = v }
walk [] acc v s f = ap (λ l. record s { warm = l; used = v }) (sym (append-nil acc))
walk (e ∷ es) acc v s f =
    let k : ℕ = e.slot.0 in
    let none' : warm_count k es ≡ 0 = first_once e es v f in
    let within : k < length v = f.within 0 e (omega arith) in
    let unused : slice_index_or v k None ≡ None = f.unused 0 e (omega arith) in
    let had : slice_index_or (use_again es (slice_set v k (Some e.affinity))) k None ≡ Some e.affinity = again_other es (slice_set v k (Some e.affinity)) k none' ∙ get_or-set_same v k (Some e.affinity) None within in
    let back : slice_set (use_again es (slice_set v k (Some e.affinity))) k None ≡ use_again es v =
    again_set es (slice_set v k (Some e.affinity)) k None none'
    ∙ ap (use_again es) (set-set v k (Some e.affinity) None ∙ ap (slice_set v k) (sym unused) ∙ set-get_or v k None) in
    let step : after_free e.slot e.bytes (record s { warm = acc; used = use_again es (slice_set v k (Some e.affinity)) }) ≡ record s { warm = acc ++ e ∷ []; used = use_again es v } =
    (λ i. record s { warm = acc ++ (record { slot = e.slot; affinity = unwrap_or (had i) None; bytes = e.bytes }) ∷ []; used = back i }) in
    ap (free_all (map with_bytes es)) step
    ∙ walk es (acc ++ e ∷ []) v s (free_rest e es v f)
    ∙ ap (λ l. record s { warm = l; used = v }) (append_assoc acc (e ∷ []) es)

at_most_one : (a : ℕ) (u t : Bool) → a + one_if u ≡ one_if t → a ≤ 1
at_most_one a true true e = omega arith
at_most_one a true false e = omega arith
at_most_one a false true e = omega arith
at_most_one a false false e = omega arith

pub all_free : (s : ShardState) → IsShard s → Free s.warm s.used
all_free s sound = record {
  once = λ k. at_most_one (warm_count k s.warm) (is_used s k) _ (sound.partition k);
  within = λ i d inside. All-from_get_or (λ (e : WarmSlot). e.slot.0 < length s.used) s.warm (record { slot = record { 0 = 0 }; affinity = None; bytes = 0 }) (λ j in'. let w : IsFree s (entry_at s j).slot.0 = warm_slot_free s j sound in' in w.within) i d inside;
  unused = λ i d inside. All-from_get_or (λ (e : WarmSlot). slice_index_or s.used e.slot.0 None ≡ None) s.warm (record { slot = record { 0 = 0 }; affinity = None; bytes = 0 }) (λ j in'. let w : IsFree s (entry_at s j).slot.0 = warm_slot_free s j sound in' in w.unused) i d inside;
}

pub come_back : TakenSlotsComeBack
come_back s sound = walk s.warm [] s.used (record s { warm_takes = (s.warm_takes + 1) % 2 ^ 64 }) (all_free s sound)

-- all warm slots are taken, and each counts as used
again_length : (es : List WarmSlot) (v : Uses) → length (use_again es v) ≡ length v
again_length [] v = refl
again_length (e ∷ es) v = again_length es (slice_set v e.slot.0 (Some e.affinity)) ∙ length-set v e.slot.0 (Some e.affinity)

pub free_after : (e : WarmSlot) (es : List WarmSlot) (v : Uses) → Free (e ∷ es) v → Free es (slice_set v e.slot.0 (Some e.affinity))
free_after e es v f =
    let r : Free es v = free_rest e es v f in
    record {
      once = r.once;
      within = λ i d inside. let w : (slice_index_or es i d).slot.0 < length v = r.within i d inside in let l : length (slice_set v e.slot.0 (Some e.affinity)) ≡ length v = length-set v e.slot.0 (Some e.affinity) in omega arith;
      unused = λ i d inside. get_or-set_other v e.slot.0 (slice_index_or es i d).slot.0 (Some e.affinity) None (λ same.
          let here : one_if ((slice_index_or es i d).slot.0 == e.slot.0) ≤ warm_count e.slot.0 es = get_or-le-sum_by (λ (x : WarmSlot). one_if (x.slot.0 == e.slot.0)) es i d inside in
          let one : one_if ((slice_index_or es i d).slot.0 == e.slot.0) ≡ 1 = ap one_if (eq-eqb (slice_index_or es i d).slot.0 e.slot.0 same) in
          let none' : warm_count e.slot.0 es ≡ 0 = first_once e es v f in
          grind arith) ∙ r.unused i d inside;
    }

again_count : (es : List WarmSlot) (v : Uses) → Free es v → count_by is_some (use_again es v) ≡ length es + count_by is_some v
again_count [] v f = omega arith
again_count (e ∷ es) v f =
    let rest : count_by is_some (use_again es (slice_set v e.slot.0 (Some e.affinity))) ≡ length es + count_by is_some (slice_set v e.slot.0 (Some e.affinity)) = again_count es (slice_set v e.slot.0 (Some e.affinity)) (free_after e es v f) in
    let one : count_by is_some (slice_set v e.slot.0 (Some e.affinity)) ≡ count_by is_some v + 1 = used_once_more_in v e.slot.0 e.affinity (f.within 0 e (omega arith)) (f.unused 0 e (omega arith)) in
    omega arith

again_used : (es : List WarmSlot) (v : Uses) (k : ℕ) → Free es v → one_if (is_some (slice_index_or (use_again es v) k None)) ≡ warm_count k es + one_if (is_some (slice_index_or v k None))
again_used [] v k f = omega arith
again_used (e ∷ es) v k f =
    let w : Uses = slice_set v e.slot.0 (Some e.affinity) in
    let rest : one_if (is_some (slice_index_or (use_again es w) k None)) ≡ warm_count k es + one_if (is_some (slice_index_or w k None)) = again_used es w k (free_after e es v f) in
    let c : warm_count k (e ∷ es) ≡ one_if (e.slot.0 == k) + warm_count k es = counts_first e es k in
    elim (cases_eq k e.slot.0) [
      | inl same ↦
          let now : slice_index_or w k None ≡ Some e.affinity = ap (λ m. slice_index_or w m None) same ∙ get_or-set_same v e.slot.0 (Some e.affinity) None (f.within 0 e (omega arith)) in
          let was : slice_index_or v k None ≡ None = ap (λ m. slice_index_or v m None) same ∙ f.unused 0 e (omega arith) in
          let one : one_if (e.slot.0 == k) ≡ 1 = ap one_if (eq-eqb e.slot.0 k (sym same)) in
          let a : one_if (is_some (slice_index_or w k None)) ≡ 1 = ap (λ o. one_if (is_some o)) now in
          let b : one_if (is_some (slice_index_or v k None)) ≡ 0 = ap (λ o. one_if (is_some o)) was in
          omega arith
      | inr other ↦
          let now : slice_index_or w k None ≡ slice_index_or v k None = get_or-set_other v e.slot.0 k (Some e.affinity) None other in
          let a : one_if (is_some (slice_index_or w k None)) ≡ one_if (is_some (slice_index_or v k None)) = ap (λ o. one_if (is_some o)) now in
          let its : (e.slot.0 == k) ≡ false = grind (arith, nat_tests) in
          let none' : one_if (e.slot.0 == k) ≡ 0 = ap one_if its in
          omega arith
    ]

after_take : (s : ShardState) → IsShard s → IsShard (after_take_warm s)
after_take s sound = record {
  partition = λ k.
      let now : one_if (is_some (slice_index_or (use_again s.warm s.used) k None)) ≡ warm_count k s.warm + one_if (is_used s k) = again_used s.warm s.used k (all_free s sound) in
      let was : warm_count k s.warm + one_if (is_used s k) ≡ one_if (nat_lt k s.cold) = sound.partition k in
      zero-add _ ∙ now ∙ was;
  total =
      let now : count_by is_some (use_again s.warm s.used) ≡ length s.warm + count_by is_some s.used = again_count s.warm s.used (all_free s sound) in
      zero-add _ ∙ now ∙ sound.total;
  cold_at_most = sound.cold_at_most;
  entries = again_length s.warm s.used ∙ sound.entries;
  bytes = All-nil (λ (e : WarmSlot). e.bytes ≤ 2 ^ 32);
  numbers = sound.numbers;
  small = sound.small;
  counts = (sound.counts.0, sound.counts.1, omega arith);
}

pub after_take_sound : (s t : ShardState) → t ≡ after_take_warm s → IsShard s → IsShard t
after_take_sound s t same sound = subst IsShard (sym same) (after_take s sound)

none_warm : (a : ℕ) (t : Bool) → a + 1 ≡ one_if t → a ≡ 0
none_warm a true e = omega arith
none_warm a false e = omega arith

-- a used slot isn't warm, and stays used for the same
pub take_keeps_used : (s : ShardState) → IsShard s → KeepsUsed s (after_take_warm s)
take_keeps_used s sound k used =
    let one : one_if (is_used s k) ≡ 1 = ap one_if used in
    let p : warm_count k s.warm + one_if (is_used s k) ≡ one_if (nat_lt k s.cold) = sound.partition k in
    let none' : warm_count k s.warm ≡ 0 = none_warm (warm_count k s.warm) (nat_lt k s.cold) (omega arith) in
    again_other s.warm s.used k none'

-- each slot that is taken is used
pub taken_used : (s : ShardState) → IsShard s → All (λ p. IsSome (use_of (after_take_warm s) p.0.0)) (taken_slots s)
taken_used s sound = All-map (λ (p : SlotId × ℕ). IsSome (use_of (after_take_warm s) p.0.0)) with_bytes s.warm (All-from_get_or (λ (e : WarmSlot). IsSome (use_of (after_take_warm s) e.slot.0)) s.warm (record { slot = record { 0 = 0 }; affinity = None; bytes = 0 }) (λ i inside.
    let k : ℕ = (entry_at s i).slot.0 in
    let here : one_if (k == k) ≤ warm_count k s.warm = get_or-le-sum_by (λ (e : WarmSlot). one_if (e.slot.0 == k)) s.warm i _ inside in
    let one : one_if (k == k) ≡ 1 = ap one_if (eq-eqb k k refl) in
    let now : one_if (is_some (slice_index_or (use_again s.warm s.used) k None)) ≡ warm_count k s.warm + one_if (is_used s k) = again_used s.warm s.used k (all_free s sound) in
    one_true (is_some (slice_index_or (use_again s.warm s.used) k None)) (omega arith)))
