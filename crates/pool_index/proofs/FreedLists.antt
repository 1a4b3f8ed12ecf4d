-- Slots of a list that are freed, those of each shard in one hold of it.
use Rattle.std.proofs.Common.{◌≡◌, ℕ, zero, suc, ◌+◌, ◌-◌, ◌*◌, ◌/◌, ◌^◌, ◌<◌, ◌≤◌, ◌==◌, ◌&&◌, not, if◌then◌else◌, nat_lt, Bool, true, false, true≢false, inl, inr, List, [], ◌∷◌, length, drop, Option, Some, None, refl, sym, ap, subst, ◌∙◌, ⊎_elim, arith, eq-eqb, map, All, slice_index_or}
use Rattle.std.proofs.Math.Seq.{drop-cons}
use Rattle.std.proofs.Math.ListN.{drop_of_length-le}
use Rattle.pool_index.proofs.Imports.{All-cons, All-head, All-nil, All-tail, cases_Bool, cases_eq, cases_lt, eqb-true, div-eq_of_lt-le, le-div, le-div_iff_mul-le, ne_eqb, nat_tests, sum_by-cons, Memory, UnitName, View, one_if, same, times, pick_unit, pick_of, same_is, counted, number}
use Rattle.pool_index.specs.Allocator.{made_of, limits_in, shard_in, place_in, local_in, slots_at, bytes_into, FreedInShard, AddsBytes}
use Rattle.pool_index.specs.Freed.{CanFree, HasAll, is_among, slots_among, units_of_slots}
use Rattle.pool_index.specs.Holds.{units_at, all_bytes, MayGoBack, AddsAt}
use Rattle.pool_index.specs.Laws.{free_all}
use Rattle.pool_index.specs.MadeShards.{place_of_slot}
use Rattle.pool_index.specs.Part.{shard_meaning, bytes_kept}
use Rattle.pool_index.specs.Round.{HeldShard, Gives}
use Rattle.pool_index.specs.Shard.{ShardState, after_free}
use Rattle.pool_index.specs.declared.allocator.ModuleAffinityIndexAllocator.{ModuleAffinityIndexAllocator}
use Rattle.pool_index.specs.declared.ids.SlotId.{SlotId}
use Rattle.pool_index.specs.declared.shard_calls.ShardAt.{ShardAt}
use Rattle.pool_index.proofs.Allocating.{owner_is}
use Rattle.pool_index.proofs.FreedSlots.{bytes_added, sum_of_both}
use Rattle.pool_index.proofs.HallFrees.{Slots}
use Rattle.pool_index.proofs.Takings.{nothing}

-- one slot and then the rest
pub can_first : (b : Bool) (y : SlotId × ℕ) (ys : Slots) (s : ShardState) → CanFree (if b then y ∷ ys else ys) s → CanFree (if b then y ∷ [] else []) s × CanFree ys (free_all (if b then y ∷ [] else []) s)
can_first true y ys s can = ((can.0, tt), can.1)
can_first false y ys s can = (tt, can)

pub free_first : (b : Bool) (y : SlotId × ℕ) (ys : Slots) (s : ShardState) → free_all (if b then y ∷ ys else ys) s ≡ free_all ys (free_all (if b then y ∷ [] else []) s)
free_first true y ys s = refl
free_first false y ys s = refl

-- slots of a list by their place
memory_units : (xs : Slots) (u : UnitName) → 0 < times u (units_of_slots xs) → u.kind ≡ Memory
memory_units [] u h = absurd (omega arith)
memory_units (x ∷ xs) u h = ⊎_elim
    (λ (one : same u (pick_unit Memory x.0.0) ≡ true). ap (λ (z : UnitName). z.kind) (same_is u (pick_unit Memory x.0.0) one))
    (λ (other : same u (pick_unit Memory x.0.0) ≡ false). let z : one_if (same u (pick_unit Memory x.0.0)) ≡ 0 = ap one_if other in memory_units xs u (omega arith))
    (cases_Bool (same u (pick_unit Memory x.0.0)))

module _ (a : ModuleAffinityIndexAllocator) (n : ℕ) where
  pub low : (k : ℕ) → n ≡ place_in a k → n * a.slots_per_shard ≤ k
  low k is = (le-div_iff_mul-le a.made.some).0 (omega arith)

  -- the units by the numbers outside
  abbrev outside : Slots → List UnitName
  outside ys = map (λ p. pick_unit Memory (n * a.slots_per_shard + p.0.0 * 1)) ys

  split : (b : Bool) (z : SlotId × ℕ) (zs : Slots) (u : UnitName) → times u (outside (if b then z ∷ zs else zs)) ≡ (if b then one_if (same u (pick_unit Memory (n * a.slots_per_shard + z.0.0 * 1))) else 0) + times u (outside zs)
  split true z zs u = refl
  split false z zs u = omega arith

  pub units_there : (xs : Slots) (u : UnitName) → times u (outside (slots_at a n xs)) ≡ (if n == place_in a u.slot then times u (units_of_slots xs) else 0)
  units_there [] u = sym (nothing (n == place_in a u.slot) (times u []) refl)
  units_there (x ∷ xs) u =
      let k : ℕ = x.0.0 in
      let b : Bool = n == place_in a k in
      let q : Bool = n == place_in a u.slot in
      let c : ℕ = one_if (same u (pick_unit Memory k)) in
      let s = split b (record { 0 = local_in a k }, x.1) (slots_at a n xs) u in
      let number : (if b then one_if (same u (pick_unit Memory (n * a.slots_per_shard + local_in a k * 1))) else 0) ≡ (if b then c else 0) = ⊎_elim
      (λ (here : b ≡ true). let is : n ≡ place_in a k = eqb-true n (place_in a k) here in let l = low k is in
      let m : n * a.slots_per_shard + local_in a k * 1 ≡ k = (let e : place_in a k * a.slots_per_shard ≡ n * a.slots_per_shard = ap (λ (j : ℕ). j * a.slots_per_shard) (sym is) in omega arith) in
      (λ i. if b then one_if (same u (pick_unit Memory (m i))) else 0))
      (λ (gone : b ≡ false). ap (λ (t : Bool). if t then one_if (same u (pick_unit Memory (n * a.slots_per_shard + local_in a k * 1))) else 0) gone ∙ sym (ap (λ (t : Bool). if t then c else 0) gone))
      (cases_Bool b) in
      let either : (if b then c else 0) ≡ (if q then c else 0) = ⊎_elim
      (λ (one : same u (pick_unit Memory k) ≡ true). let e : u.slot ≡ k = ap (λ (z : UnitName). z.slot) (same_is u (pick_unit Memory k) one) in ap (λ (j : ℕ). if n == place_in a j then c else 0) (sym e))
      (λ (other : same u (pick_unit Memory k) ≡ false). let z : c ≡ 0 = ap one_if other in nothing b c z ∙ sym (nothing q c z))
      (cases_Bool (same u (pick_unit Memory k))) in
      let rest = units_there xs u in
      let both = sum_of_both q c (times u (units_of_slots xs)) (times u (units_of_slots (x ∷ xs))) refl in
      omega arith

  pub bytes_there : (xs : Slots) → all_bytes (slots_at a n xs) ≡ bytes_into a n xs
  bytes_there [] = refl
  bytes_there (x ∷ xs) =
      let b : Bool = n == place_in a x.0.0 in
      let f : SlotId × ℕ → ℕ = λ x. if n == place_in a x.0.0 then x.1 else 0 in
      let rest = bytes_there xs in
      let e : bytes_into a n (x ∷ xs) ≡ f x + bytes_into a n xs = sum_by-cons f x xs in
      let s = one b (record { 0 = local_in a x.0.0 }, x.1) (slots_at a n xs) in
      omega arith
    where
      one : (b : Bool) (z : SlotId × ℕ) (zs : Slots) → all_bytes (if b then z ∷ zs else zs) ≡ (if b then z.1 else 0) + all_bytes zs
      one true z zs = sum_by-cons (λ (p : SlotId × ℕ). p.1) z zs
      one false z zs = omega arith

  pub small_there : (xs : Slots) → All (λ p. p.1 ≤ 2 ^ 32) xs → All (λ p. p.1 ≤ 2 ^ 32) (slots_at a n xs)
  small_there [] small = All-nil (λ (p : SlotId × ℕ). p.1 ≤ 2 ^ 32)
  small_there (x ∷ xs) small =
      let P : SlotId × ℕ → Type 0 = λ p. p.1 ≤ 2 ^ 32 in
      let rest = small_there xs (All-tail P x xs small) in
      elim (cases_Bool (n == place_in a x.0.0)) [
        | inl here ↦ subst (λ (b : Bool). All P (if b then (record { 0 = local_in a x.0.0 }, x.1) ∷ slots_at a n xs else slots_at a n xs)) (sym here) (All-cons P (record { 0 = local_in a x.0.0 }, x.1) (slots_at a n xs) (All-head P x xs small) rest)
        | inr gone ↦ subst (λ (b : Bool). All P (if b then (record { 0 = local_in a x.0.0 }, x.1) ∷ slots_at a n xs else slots_at a n xs)) (sym gone) rest
      ]

  -- the same list by the numbers of the first slot and the end
  pub among_there : (first : ℕ) (end : Option ℕ) → first ≡ n * a.slots_per_shard → ((k : ℕ) → is_among first end k ≡ (n == place_in a k)) → (xs : Slots) → slots_among first end xs ≡ slots_at a n xs
  among_there first end begins among [] = refl
  among_there first end begins among (x ∷ xs) =
      let rest = among_there first end begins among xs in
      let test = among x.0.0 in
      (λ i. if test i then (record { 0 = x.0.0 - first }, x.1) ∷ rest i else rest i)
      ∙ elim (cases_Bool (n == place_in a x.0.0)) [
        | inl here ↦
            let is : n ≡ place_in a x.0.0 = eqb-true n (place_in a x.0.0) here in
            let m : x.0.0 - first ≡ local_in a x.0.0 = ap (λ (j : ℕ). x.0.0 - j) (begins ∙ ap (λ (j : ℕ). j * a.slots_per_shard) is) in
            (λ i. if n == place_in a x.0.0 then (record { 0 = m i }, x.1) ∷ slots_at a n xs else slots_at a n xs)
        | inr gone ↦ ap (λ (b : Bool). if b then (record { 0 = x.0.0 - first }, x.1) ∷ slots_at a n xs else slots_at a n xs) gone ∙ sym (ap (λ (b : Bool). if b then (record { 0 = local_in a x.0.0 }, x.1) ∷ slots_at a n xs else slots_at a n xs) gone)
      ]

-- the units of those of these slots that belong to the shard at a place
module _ (a : ModuleAffinityIndexAllocator) (n : ℕ) (xs : Slots) where
  abbrev its : List UnitName
  its = units_at (shard_in a n) (slots_at a n xs)

  -- a unit of them
  pub record Own (u : UnitName) : Type 0 where
    pub place : place_in a u.slot ≡ n
    pub kind : u.kind ≡ Memory
    pub all : times u its ≡ times u (units_of_slots xs)

  own : (u : UnitName) → 0 < times u its → Own u
  own u some = elim (cases_Bool (n == place_in a u.slot)) [
    | inl here ↦
        let e : times u its ≡ times u (units_of_slots xs) = units_there a n xs u ∙ ap (λ (b : Bool). if b then times u (units_of_slots xs) else 0) here in
        record { place = sym (eqb-true n (place_in a u.slot) here); kind = memory_units xs u (omega arith); all = e }
    | inr gone ↦ let e : times u its ≡ 0 = units_there a n xs u ∙ ap (λ (b : Bool). if b then times u (units_of_slots xs) else 0) gone in absurd (omega arith)
  ]

  pub back_there : (v : View ShardState) → ((u : UnitName) → place_in a u.slot ≡ n → times u (units_of_slots xs) ≤ times u v.units) → MayGoBack shard_meaning (made_of a) (limits_in a) n its v
  back_there v had = record {
    has = λ u. has u (times u its) refl;
    own = λ u some. let o = own u some in owner_is _ _ _ _ _ _ a.made u o.kind ∙ o.place;
    alone = λ u region some mine. let o = own (pick_of u) some in owner_is _ _ _ _ _ _ a.made u o.kind ∙ o.place;
  }
    where
      has : (u : UnitName) (k : ℕ) → times u its ≡ k → times u its ≤ times u v.units
      has u zero e = omega arith
      has u (suc k) e = let o = own u (omega arith) in let f = had u o.place in let g = o.all in omega arith

  module _ (v w : View ShardState) where
    pub gave_there : Gives its v w → (u : UnitName) → times u w.units + (if n == place_in a u.slot then times u (units_of_slots xs) else 0) ≡ times u v.units
    gave_there gave u = let e = gave u in let i = units_there a n xs u in omega arith

    pub counts_there : AddsAt n (all_bytes (slots_at a n xs)) v w → (p i : ℕ) → number (counted p i) w ≡ number (counted p i) v + (if p == n then (if i == bytes_kept then bytes_into a n xs else 0) else 0)
    counts_there adds p i = adds p i ∙ ap (λ (m : ℕ). number (counted p i) v + (if p == n then (if i == bytes_kept then m else 0) else 0)) (bytes_there a n xs)

-- where none of the slots is the shard's, it isn't held
module _ (a : ModuleAffinityIndexAllocator) (n : ℕ) (xs : Slots) (none : slots_at a n xs ≡ []) where
  pub none_gave : (u : UnitName) (k : ℕ) → k + (if n == place_in a u.slot then times u (units_of_slots xs) else 0) ≡ k
  none_gave u k =
      let e : (if n == place_in a u.slot then times u (units_of_slots xs) else 0) ≡ 0 = sym (units_there a n xs u) ∙ ap (λ (l : Slots). times u (map (λ (p : SlotId × ℕ). pick_unit Memory (n * a.slots_per_shard + p.0.0 * 1)) l)) none in
      omega arith

  pub none_counts : (p i k : ℕ) → k ≡ k + (if p == n then (if i == bytes_kept then bytes_into a n xs else 0) else 0)
  none_counts p i k =
      let e : bytes_into a n xs ≡ 0 = sym (bytes_there a n xs) ∙ ap (λ (l : Slots). all_bytes l) none in
      let f : (if p == n then (if i == bytes_kept then bytes_into a n xs else 0) else 0) ≡ 0 = nothing (p == n) (if i == bytes_kept then bytes_into a n xs else 0) (nothing (i == bytes_kept) (bytes_into a n xs) e) in
      omega arith

-- a hold that freed some
pub in_shard : (a : ModuleAffinityIndexAllocator) (n : ℕ) (ys : Slots) → 0 < length ys → (v w : View ShardState) → (s : ShardState) → HeldShard shard_meaning Some (made_of a) (limits_in a) n s (free_all ys s) v w → FreedInShard a n ys v w
in_shard a n [] some v w s held = absurd (omega arith)
in_shard a n (y ∷ ys) some v w s held = (s, held)

pub none_left : (ys : Slots) → nat_lt 0 (length ys) ≡ false → ys ≡ []
none_left [] e = refl
none_left (y ∷ ys) e = absurd (true≢false (sym (let t : nat_lt 0 (suc (length ys)) ≡ true = grind (arith, nat_tests) in t) ∙ e))

-- the same by what the code has of the shard and the slots
module _ (a : ModuleAffinityIndexAllocator) (n : ℕ) (xs : Slots) (q : ShardAt) (is : q ≡ shard_in a n) (ys : Slots) (them : ys ≡ slots_at a n xs) (v : View ShardState) where
  pub back_many : ((u : UnitName) → place_in a u.slot ≡ n → times u (units_of_slots xs) ≤ times u v.units) → MayGoBack shard_meaning (made_of a) (limits_in a) q.place (units_at q ys) v
  back_many had =
      subst (λ (z : ShardAt). MayGoBack shard_meaning (made_of a) (limits_in a) z.place (units_at z ys) v) (sym is)
      (subst (λ (l : Slots). MayGoBack shard_meaning (made_of a) (limits_in a) n (units_at (shard_in a n) l) v) (sym them) (back_there a n xs v had))

  module _ (w : View ShardState) where
    pub gave_many : Gives (units_at q ys) v w → (u : UnitName) → times u w.units + (if n == place_in a u.slot then times u (units_of_slots xs) else 0) ≡ times u v.units
    gave_many gave = gave_there a n xs v w (subst (λ (l : Slots). Gives (units_at (shard_in a n) l) v w) them (subst (λ (z : ShardAt). Gives (units_at z ys) v w) is gave))

    pub counts_many : AddsAt q.place (all_bytes ys) v w → (p i : ℕ) → number (counted p i) w ≡ number (counted p i) v + (if p == n then (if i == bytes_kept then bytes_into a n xs else 0) else 0)
    counts_many adds = counts_there a n xs v w (subst (λ (l : Slots). AddsAt n (all_bytes l) v w) them (subst (λ (z : ShardAt). AddsAt z.place (all_bytes ys) v w) is adds))

    pub freed_many : 0 < length ys → (s : ShardState) → HeldShard shard_meaning Some (made_of a) (limits_in a) q.place s (free_all ys s) v w → FreedInShard a n (slots_at a n xs) v w
    freed_many some s held =
        in_shard a n (slots_at a n xs) (subst (λ (l : Slots). 0 < length l) them some) v w s
        (subst (λ (l : Slots). HeldShard shard_meaning Some (made_of a) (limits_in a) n s (free_all l s) v w) them (subst (λ (z : ShardAt). HeldShard shard_meaning Some (made_of a) (limits_in a) z.place s (free_all ys s) v w) is held))

-- one slot
module _ (a : ModuleAffinityIndexAllocator) (slot : SlotId) (bytes p : ℕ) (here : p ≡ place_in a slot.0) (q : ShardAt) (is : q ≡ shard_in a p) (k : SlotId) (local : k ≡ record { 0 = local_in a slot.0 }) (v : View ShardState) where
  abbrev place : ℕ
  place = place_in a slot.0

  abbrev one : Slots
  one = (record { 0 = local_in a slot.0 }, bytes) ∷ []

  whole : q ≡ shard_in a place
  whole = is ∙ ap (shard_in a) here

  its_slots : (k, bytes) ∷ [] ≡ slots_at a place ((slot, bytes) ∷ [])
  its_slots = (λ i. (local i, bytes) ∷ []) ∙ sym (ap (λ (b : Bool). if b then one else []) (eq-eqb place place refl))

  pub back_one : 0 < times (pick_unit Memory slot.0) v.units → MayGoBack shard_meaning (made_of a) (limits_in a) q.place (units_at q ((k, bytes) ∷ [])) v
  back_one had = back_many a place ((slot, bytes) ∷ []) q whole ((k, bytes) ∷ []) its_slots v (λ u there. ⊎_elim
      (λ (same' : same u (pick_unit Memory slot.0) ≡ true). let e : times u v.units ≡ times (pick_unit Memory slot.0) v.units = ap (λ (z : UnitName). times z v.units) (same_is u (pick_unit Memory slot.0) same') in let o : one_if (same u (pick_unit Memory slot.0)) ≡ 1 = ap one_if same' in omega arith)
      (λ (other : same u (pick_unit Memory slot.0) ≡ false). let z : one_if (same u (pick_unit Memory slot.0)) ≡ 0 = ap one_if other in omega arith)
      (cases_Bool (same u (pick_unit Memory slot.0))))

  its_unit : units_at q ((k, bytes) ∷ []) ≡ pick_unit Memory slot.0 ∷ []
  its_unit =
      let l = low a place slot.0 refl in
      let number' : place * a.slots_per_shard + (slot.0 - place * a.slots_per_shard) * 1 ≡ slot.0 = omega arith in
      (λ i. units_at (whole i) ((local i, bytes) ∷ [])) ∙ (λ i. pick_unit Memory (number' i) ∷ [])

  module _ (w : View ShardState) where
    pub gave_one : Gives (units_at q ((k, bytes) ∷ [])) v w → Gives (pick_unit Memory slot.0 ∷ []) v w
    gave_one gave = subst (λ (l : List UnitName). Gives l v w) its_unit gave

    pub freed_one : (s : ShardState) → HeldShard shard_meaning Some (made_of a) (limits_in a) q.place s (after_free k bytes s) v w → FreedInShard a place one v w
    freed_one s held = (
      s,
      subst (λ (z : ShardAt). HeldShard shard_meaning Some (made_of a) (limits_in a) z.place s (free_all one s) v w) whole (subst (λ (j : SlotId). HeldShard shard_meaning Some (made_of a) (limits_in a) q.place s (after_free j bytes s) v w) local held),
    )

    pub added_one : AddsAt q.place bytes v w → AddsBytes a ((slot, bytes) ∷ []) v w
    added_one adds = bytes_added a slot bytes v w (subst (λ (z : ShardAt). AddsAt z.place bytes v w) whole adds)

-- the shards one after the other
pub next_units : (p n t w v first : ℕ) → w + (if n == p then t else 0) ≡ v → v + (if nat_lt p n then t else 0) ≡ first → w + (if nat_lt p (n + 1) then t else 0) ≡ first
next_units p n t w v first one before = elim (cases_eq n p) [
  | inl same ↦
      let a : (n == p) ≡ true = eq-eqb n p same in
      let b : nat_lt p n ≡ false = grind (arith, nat_tests) in
      let c : nat_lt p (n + 1) ≡ true = grind (arith, nat_tests) in
      let x : w + t ≡ v = ap (λ (z : Bool). w + (if z then t else 0)) (sym a) ∙ one in
      let y : v + 0 ≡ first = ap (λ (z : Bool). v + (if z then t else 0)) (sym b) ∙ before in
      ap (λ (z : Bool). w + (if z then t else 0)) c ∙ (let q : w + t ≡ first = omega arith in q)
  | inr other ↦
      let a : (n == p) ≡ false = ne_eqb n p other in
      let c : nat_lt p (n + 1) ≡ nat_lt p n = grind (arith, nat_tests) in
      let x : w + 0 ≡ v = ap (λ (z : Bool). w + (if z then t else 0)) (sym a) ∙ one in
      let y : w ≡ v = omega arith in
      ap (λ (z : Bool). w + (if z then t else 0)) c ∙ ap (λ (z : ℕ). z + (if nat_lt p n then t else 0)) y ∙ before
]

pub next_counts : (f : ℕ → ℕ) (p n w v first : ℕ) → w ≡ v + (if p == n then f n else 0) → v ≡ first + (if nat_lt p n then f p else 0) → w ≡ first + (if nat_lt p (n + 1) then f p else 0)
next_counts f p n w v first one before = elim (cases_eq p n) [
  | inl same ↦
      let a : (p == n) ≡ true = eq-eqb p n same in
      let b : nat_lt p n ≡ false = grind (arith, nat_tests) in
      let c : nat_lt p (n + 1) ≡ true = grind (arith, nat_tests) in
      let x : w ≡ v + f n = one ∙ ap (λ (z : Bool). v + (if z then f n else 0)) a in
      let y : v ≡ first + 0 = before ∙ ap (λ (z : Bool). first + (if z then f p else 0)) b in
      let g : f n ≡ f p = ap f (sym same) in
      (let q : w ≡ first + f p = omega arith in q) ∙ sym (ap (λ (z : Bool). first + (if z then f p else 0)) c)
  | inr other ↦
      let a : (p == n) ≡ false = ne_eqb p n other in
      let c : nat_lt p (n + 1) ≡ nat_lt p n = grind (arith, nat_tests) in
      let x : w ≡ v + 0 = one ∙ ap (λ (z : Bool). v + (if z then f n else 0)) a in
      (let q : w ≡ v = omega arith in q) ∙ before ∙ sym (ap (λ (z : Bool). first + (if z then f p else 0)) c)
]

module _ (a : ModuleAffinityIndexAllocator) (some : 0 < a.shards) (xs : Slots) where
  last_place : (k : ℕ) → nat_lt (place_in a k) a.shards ≡ true
  last_place k = let b : place_in a k < a.shards = omega arith in grind (arith, nat_tests)

  pub all_units : (v w : View ShardState) → ((u : UnitName) → times u w.units + (if nat_lt (place_in a u.slot) a.shards then times u (units_of_slots xs) else 0) ≡ times u v.units) → Gives (units_of_slots xs) v w
  all_units v w gave u = ap (λ (z : Bool). times u w.units + (if z then times u (units_of_slots xs) else 0)) (sym (last_place u.slot)) ∙ gave u

  none_beyond : (p : ℕ) → a.shards ≤ p → (ys : Slots) → bytes_into a p ys ≡ 0
  none_beyond p far [] = refl
  none_beyond p far (y ∷ ys) =
      let f : SlotId × ℕ → ℕ = λ x. if p == place_in a x.0.0 then x.1 else 0 in
      let rest = none_beyond p far ys in
      let e : bytes_into a p (y ∷ ys) ≡ f y + bytes_into a p ys = sum_by-cons f y ys in
      let z : f y ≡ 0 = ap (λ (b : Bool). if b then y.1 else 0) (ne_eqb p (place_in a y.0.0) (λ (is : p ≡ place_in a y.0.0). absurd (let b : place_in a y.0.0 < a.shards = omega arith in omega arith))) in
      omega arith

  pub all_counts : (v w : View ShardState) → ((p i : ℕ) → number (counted p i) w ≡ number (counted p i) v + (if nat_lt p a.shards then (if i == bytes_kept then bytes_into a p xs else 0) else 0)) → AddsBytes a xs v w
  all_counts v w counts p i = elim (cases_lt p a.shards) [
    | inl inside ↦ let t : nat_lt p a.shards ≡ true = grind (arith, nat_tests) in counts p i ∙ ap (λ (b : Bool). number (counted p i) v + (if b then (if i == bytes_kept then bytes_into a p xs else 0) else 0)) t
    | inr past ↦
        let t : nat_lt p a.shards ≡ false = grind (arith, nat_tests) in
        let z : (if i == bytes_kept then bytes_into a p xs else 0) ≡ 0 = nothing (i == bytes_kept) (bytes_into a p xs) (none_beyond p past xs) in
        counts p i ∙ ap (λ (b : Bool). number (counted p i) v + (if b then (if i == bytes_kept then bytes_into a p xs else 0) else 0)) t ∙ ap (λ (m : ℕ). number (counted p i) v + m) (sym z)
  ]

  -- the units of the next shard are the seat's still
  pub still_there : (n : ℕ) (v w : View ShardState) → HasAll (units_of_slots xs) v → ((u : UnitName) → times u w.units + (if nat_lt (place_in a u.slot) n then times u (units_of_slots xs) else 0) ≡ times u v.units) → (u : UnitName) → place_in a u.slot ≡ n → times u (units_of_slots xs) ≤ times u w.units
  still_there n v w all gave u there =
      let t : nat_lt (place_in a u.slot) n ≡ false = grind (arith, nat_tests) in
      let g : times u w.units + 0 ≡ times u v.units = ap (λ (b : Bool). times u w.units + (if b then times u (units_of_slots xs) else 0)) (sym t) ∙ gave u in
      let f = all u in
      omega arith

-- which numbers count to a place
module _ (slots count p : ℕ) (some : 0 < slots) (inside : p < count) where
  below : (n : ℕ) → n < p * slots → (p == place_of_slot slots count n) ≡ false
  below n less = ne_eqb p (place_of_slot slots count n) (λ (is : p ≡ place_of_slot slots count n). absurd (let q : p * slots ≤ n = (le-div_iff_mul-le some).0 (omega arith) in omega arith))

  pub numbers_inner : p + 1 < count → (n : ℕ) → is_among (p * slots) (Some (p * slots + slots)) n ≡ (p == place_of_slot slots count n)
  numbers_inner more n = elim (cases_lt n (p * slots)) [
    | inl less ↦ let t : nat_lt n (p * slots) ≡ true = grind (arith, nat_tests) in (λ i. not (t i) && nat_lt n (p * slots + slots)) ∙ sym (below n less)
    | inr from ↦
        let t : nat_lt n (p * slots) ≡ false = grind (arith, nat_tests) in
        elim (cases_lt n (p * slots + slots)) [
          | inl less ↦
              let e : nat_lt n (p * slots + slots) ≡ true = grind (arith, nat_tests) in
              let q : n / slots ≡ p = div-eq_of_lt-le slots from (omega arith) in
              (λ i. not (t i) && e i) ∙ sym (eq-eqb p (place_of_slot slots count n) (omega arith))
          | inr beyond ↦
              let e : nat_lt n (p * slots + slots) ≡ false = grind (arith, nat_tests) in
              let q : p + 1 ≤ n / slots = le-div (p + 1) n slots some (omega arith) in
              (λ i. not (t i) && e i) ∙ sym (ne_eqb p (place_of_slot slots count n) (λ (is : p ≡ place_of_slot slots count n). absurd (omega arith)))
        ]
  ]

  pub numbers_last : count ≤ p + 1 → (n : ℕ) → is_among (p * slots) None n ≡ (p == place_of_slot slots count n)
  numbers_last last n = elim (cases_lt n (p * slots)) [
    | inl less ↦ let t : nat_lt n (p * slots) ≡ true = grind (arith, nat_tests) in ap not t ∙ sym (below n less)
    | inr from ↦
        let t : nat_lt n (p * slots) ≡ false = grind (arith, nat_tests) in
        let q : p ≤ n / slots = le-div p n slots some (omega arith) in
        ap not t ∙ sym (eq-eqb p (place_of_slot slots count n) (omega arith))
  ]

-- one slot more of a list
pub next_among : (first : ℕ) (end : Option ℕ) (xs : Slots) (n : ℕ) (d : SlotId × ℕ) → n < length xs → slots_among first end (drop n xs) ≡ slots_among first end (slice_index_or xs n d ∷ drop (n + 1) xs)
next_among first end xs n d inside = ap (slots_among first end) (drop-cons xs n d inside ∙ ap (λ (k : ℕ). slice_index_or xs n d ∷ drop k xs) (let q : suc n ≡ n + 1 = omega arith in q))

pub none_more : (first : ℕ) (end : Option ℕ) (xs : Slots) (n : ℕ) → length xs ≤ n → slots_among first end (drop n xs) ≡ []
none_more first end xs n past = ap (slots_among first end) (drop_of_length-le xs past)
