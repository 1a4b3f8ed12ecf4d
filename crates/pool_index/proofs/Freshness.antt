-- The shards that an allocator is made of may be the parts of a hall.
use Rattle.std.proofs.Common.{◌≡◌, ℕ, zero, suc, ◌+◌, ◌-◌, ◌*◌, ◌/◌, ◌<◌, ◌≤◌, List, [], ◌∷◌, length, min, Option, Some, None, sym, refl, ap, subst, ◌∙◌, inl, inr, arith, slice_get, slice_index, slice_index_or, replicate, All}
use Rattle.pool_index.proofs.Imports.{range_with_len, div_ceil_times, All-get_or, div-mul-add, SlotKind, Memory, AllFresh, IsFreshAt}
use Rattle.pool_index.specs.declared.ids.MemoryInModule.{MemoryInModule}
use Rattle.pool_index.specs.Layout.{capacity_of, shard_count}
use Rattle.pool_index.specs.Shard.{ShardState, IsShard, fresh_shard}
use Rattle.pool_index.specs.Part.{used_units, slot_unit, owner, shard_at, FitsAt, shard_meaning}
use Rattle.pool_index.specs.MadeShards.{made_shard, made_shards, place_of_slot}
use Rattle.pool_index.proofs.Owners.{owned, made_at, made_length}

none_out : (kind : SlotKind) (step n k : ℕ) → used_units kind step n (replicate k None) ≡ []
none_out kind step n zero = refl
none_out kind step n (suc k) = none_out kind step (n + step) k

got_is : {X : Type 0} (xs : List X) (i : ℕ) (x d : X) → slice_get xs i ≡ Some x → (i < length xs) × (slice_index_or xs i d ≡ x)
got_is [] i x d e = absurd (cc)
got_is (y ∷ ys) zero x d e = (omega arith, cc)
got_is (y ∷ ys) (suc i) x d e = let r = got_is ys i x d e in ((let h = r.0 in omega arith), r.1)

module _ (capacity warm slots : ℕ) (some : 0 < slots) (limits : List ℕ) where
  abbrev count : ℕ
  count = shard_count capacity slots

  abbrev made : List ShardState
  made = made_shards capacity warm slots

  in_place : (p k : ℕ) → p < count → k < capacity_of capacity slots p → place_of_slot slots count (p * slots + k * 1) ≡ p
  in_place p k h inside =
      let d : (p * slots + k * 1) / slots ≡ p = ap (λ (j : ℕ). (p * slots + j) / slots) (let q : k * 1 ≡ k = omega arith in q) ∙ div-mul-add p slots k (omega arith) in
      omega arith

  abbrev fresh_default : ShardState
  fresh_default = fresh_shard Memory 0 0 0 0

  zeros : (p i : ℕ) → slice_index (0 ∷ 0 ∷ 0 ∷ 0 ∷ 0 ∷ []) i ≡ 0
  zeros p zero = refl
  zeros p (suc zero) = refl
  zeros p (suc (suc zero)) = refl
  zeros p (suc (suc (suc zero))) = refl
  zeros p (suc (suc (suc (suc zero)))) = refl
  zeros p (suc (suc (suc (suc (suc i))))) = refl

  fresh_at : (p : ℕ) → p < count → IsShard (made_shard capacity warm slots p) → IsFreshAt shard_meaning made limits p (made_shard capacity warm slots p)
  fresh_at p h sound = record {
    fits = record {
      sound = sound;
      same = let e = made_at capacity warm slots some p h in record { kind = sym (ap (λ z. z.kind) e); first = sym (ap (λ z. z.first) e); step = sym (ap (λ z. z.step) e); capacity = sym (ap (λ z. z.capacity) e); budget = sym (ap (λ z. z.budget) e) };
      own = λ k inside. owned capacity warm slots some (slot_unit (made_shard capacity warm slots p) k) refl ∙ in_place p k h inside;
    };
    none_away = none_out Memory 1 (p * slots) (capacity_of capacity slots p);
    none_kept = refl;
    at_zero = zeros p;
  }

  pub all_fresh : All IsShard made → AllFresh shard_meaning made limits
  all_fresh sound p x e =
      let g = got_is made p x (made_shard capacity warm slots p) e in
      let h : p < count = let l = made_length capacity warm slots some in let i = g.0 in omega arith in
      let is : made_shard capacity warm slots p ≡ x = sym (made_at capacity warm slots some p h) ∙ (let z = got_is made p x (fresh_default) e in z.1) in
      subst (IsFreshAt shard_meaning made limits p) is (fresh_at p h (subst IsShard (made_at capacity warm slots some p h) (All-get_or IsShard made p fresh_default g.0 sound)))
