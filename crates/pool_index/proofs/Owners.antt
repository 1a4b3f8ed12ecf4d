-- Which place the unit of a slot belongs to in an allocator's hall.
use Rattle.std.proofs.Common.{◌≡◌, ℕ, zero, suc, ◌+◌, ◌-◌, ◌*◌, ◌/◌, ◌%◌, ◌<◌, ◌≤◌, Bool, true, false, List, [], ◌∷◌, length, min, sym, refl, ap, subst, ◌∙◌, ⊎_elim, ◌⊎◌, inl, inr, arith, true≢false, eq-eqb, ◌==◌, ◌&&◌, ◌||◌, if◌then◌else◌, map, slice_index_or}
use Rattle.pool_index.proofs.Imports.{range_with_len, cases_Bool, cases_lt, eqb-true, and_parts, div_ceil_times, le-div, le-div_iff_mul-le, div-eq_of_lt-le, get_or-map-range_with_len, length-map-range_with_len, UnitName, Memory, kind_number}
use Rattle.pool_index.specs.Layout.{capacity_of, shard_count}
use Rattle.pool_index.specs.Shard.{ShardState, slot_number}
use Rattle.pool_index.specs.Part.{any_below, has_slot, owner_from, owner, shard_at}
use Rattle.pool_index.specs.MadeShards.{made_shard, made_shards, place_of_slot}

below_has : (n k : ℕ) (p : ℕ → Bool) → k < n → p k ≡ true → any_below n p ≡ true
below_has zero k p h e = absurd (omega arith)
below_has (suc n) k p h e = ⊎_elim
    (λ (less : k < n). either (p n) (any_below n p) (below_has n k p less e))
    (λ (more : n ≤ k). let is : k ≡ n = omega arith in ap (λ b. b || any_below n p) (ap p (sym is) ∙ e))
    (cases_lt k n)
  where
    either : (a b : Bool) → b ≡ true → (a || b) ≡ true
    either true b e = refl
    either false b e = e

below_found : (n : ℕ) (p : ℕ → Bool) → any_below n p ≡ true → (k : ℕ) × (k < n) × (p k ≡ true)
below_found zero p e = absurd (true≢false (sym e))
below_found (suc n) p e = go (below_found n p) (p n) refl
  where
    go : (any_below n p ≡ true → (k : ℕ) × (k < n) × (p k ≡ true)) → (b : Bool) → p n ≡ b → (k : ℕ) × (k < suc n) × (p k ≡ true)
    go before true is = (n, omega arith, is)
    go before false is = let r = before (ap (λ b. b || any_below n p) (sym is) ∙ e) in (r.0, (let h = r.1 in omega arith), r.2)

module _ (capacity warm slots : ℕ) (some : 0 < slots) where
  abbrev count : ℕ
  count = shard_count capacity slots

  -- each shard but the last is full
  full_before : (k : ℕ) → k + 1 < count → capacity_of capacity slots k ≡ slots
  full_before k h = grind (arith, div_ceil_times capacity slots some)

  has_it : (k n : ℕ) (u : UnitName) → u.kind ≡ Memory → u.slot ≡ n → k * slots ≤ n → n < k * slots + capacity_of capacity slots k → has_slot (made_shard capacity warm slots k) u ≡ true
  has_it k n u kind slot low high =
      let b : any_below (capacity_of capacity slots k) (λ j. k * slots + j * 1 == u.slot) ≡ true = below_has (capacity_of capacity slots k) (n - k * slots) (λ j. k * slots + j * 1 == u.slot) (omega arith) (eq-eqb (k * slots + (n - k * slots) * 1) u.slot (omega arith)) in
      λ i. (0 == kind_number (kind i)) && b i

  has_not : (k : ℕ) (u : UnitName) → (u.slot < k * slots) ⊎ (k * slots + capacity_of capacity slots k ≤ u.slot) → has_slot (made_shard capacity warm slots k) u ≡ true → ⊥
  has_not k u out e =
      let a = and_parts (0 == kind_number u.kind) (any_below (capacity_of capacity slots k) (λ j. k * slots + j * 1 == u.slot)) e in
      let r = below_found (capacity_of capacity slots k) (λ j. k * slots + j * 1 == u.slot) a.1 in
      let is = eqb-true (k * slots + r.0 * 1) u.slot r.2 in
      let h = r.1 in
      ⊎_elim (λ (low : u.slot < k * slots). absurd (omega arith)) (λ (high : k * slots + capacity_of capacity slots k ≤ u.slot). absurd (omega arith)) out

  abbrev there : UnitName → ℕ
  there u = place_of_slot slots count u.slot

  -- the search from shard k on, n of which are left
  owned_from : (n k : ℕ) (u : UnitName) → u.kind ≡ Memory → k + n ≡ count → 0 < n → k ≤ there u → owner_from k (map (made_shard capacity warm slots) (range_with_len k n)) u ≡ there u
  owned_from zero k u kind all some' low = absurd (omega arith)
  owned_from (suc zero) k u kind all some' low = omega arith
  owned_from (suc (suc n)) k u kind all some' low = go (λ h. owned_from (suc n) (k + 1) u kind (omega arith) (omega arith) h) (has_slot (made_shard capacity warm slots k) u) refl
    where
      full : capacity_of capacity slots k ≡ slots
      full = full_before k (omega arith)

      from_there : k * slots ≤ u.slot
      from_there = (le-div_iff_mul-le some).0 (let l = low in omega arith)

      go : (k + 1 ≤ there u → owner_from (k + 1) (map (made_shard capacity warm slots) (range_with_len (k + 1) (suc n))) u ≡ there u) → (b : Bool) → has_slot (made_shard capacity warm slots k) u ≡ b → (if b then k else owner_from (k + 1) (map (made_shard capacity warm slots) (range_with_len (k + 1) (suc n))) u) ≡ there u
      go next true e = ⊎_elim
          (λ (less : u.slot < k * slots + slots). let q : u.slot / slots ≡ k = div-eq_of_lt-le slots from_there (omega arith) in let z = all in omega arith)
          (λ (more : k * slots + slots ≤ u.slot). absurd (has_not k u (inr (let f = full in omega arith)) e))
          (cases_lt u.slot (k * slots + slots))
      go next false e = ⊎_elim
          (λ (less : u.slot < k * slots + slots). absurd (true≢false (sym (has_it k u.slot u kind refl from_there (let f = full in omega arith)) ∙ e)))
          (λ (more : k * slots + slots ≤ u.slot). next (let q : k + 1 ≤ u.slot / slots = le-div (k + 1) u.slot slots some (omega arith) in let z = all in omega arith))
          (cases_lt u.slot (k * slots + slots))

  pub owned : (u : UnitName) → u.kind ≡ Memory → owner (made_shards capacity warm slots) u ≡ there u
  owned u kind = owned_from count 0 u kind (omega arith) (omega arith) (omega arith)

  pub made_at : (p : ℕ) → p < count → shard_at (made_shards capacity warm slots) p ≡ made_shard capacity warm slots p
  made_at p h = get_or-map-range_with_len (made_shard capacity warm slots) 0 count p p _ h (omega arith)

  pub made_length : length (made_shards capacity warm slots) ≡ count
  made_length = length-map-range_with_len (made_shard capacity warm slots) 0 count
