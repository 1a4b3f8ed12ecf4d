-- Slots that are freed in one hold of their shard, which stands among the parts of any hall.
use Rattle.std.proofs.Common.{◌≡◌, ℕ, zero, suc, ◌+◌, ◌*◌, ◌^◌, ◌<◌, ◌≤◌, ◌==◌, if◌then◌else◌, Bool, true, false, true≢false, is_some, List, [], ◌∷◌, length, Option, Some, None, IsSome, refl, sym, ap, subst, ◌∙◌, ⊎_elim, arith, map, All, slice_index, slice_index_or}
use Rattle.std.proofs.Math.Nat.{eq_of_mul-eq-mul_right}
use Rattle.pool_index.proofs.Imports.{All-head, All-tail, cases_lt, get_or_past, ne_eqb, sum_by-cons, sum_by_push, UnitName, View, Meaning, one_if, same, times, pick_unit, pick_of, same_self, put_view, rise, Taken, MayPut}
use Rattle.pool_index.specs.Freed.{CanFree, AreFreed}
use Rattle.pool_index.specs.Holds.{units_at, all_bytes, HasShard, IsShardAt, MayGoBack, AddsAt}
use Rattle.pool_index.specs.Laws.{free_all}
use Rattle.pool_index.specs.Moves.{Moves}
use Rattle.pool_index.specs.Part.{slot_unit, shard_units, shard_counts, bytes_kept}
use Rattle.pool_index.specs.Round.{HeldShard, Gives}
use Rattle.pool_index.specs.Shard.{ShardState, IsShard, IsSameShard, use_of, resident_bytes, after_free}
use Rattle.pool_index.specs.ShardPart.{MeansShard}
use Rattle.pool_index.specs.declared.ids.MemoryInModule.{MemoryInModule}
use Rattle.pool_index.specs.declared.ids.SlotId.{SlotId}
use Rattle.pool_index.specs.declared.shard_calls.ShardAt.{ShardAt}
use Rattle.pool_index.specs.declared.warm_slot.WarmSlot.{WarmSlot}
use Rattle.pool_index.proofs.Puts.{may, small_counts, units_after}
use Rattle.pool_index.proofs.Rounds.{no_rise, counted_after}
use Rattle.pool_index.proofs.SlotUnits.{is_out, out_less}

abbrev pub Slots : Type 0
Slots = List (SlotId × ℕ)

-- what frees keep
free_cold : (ys : Slots) (s : ShardState) → (free_all ys s).cold ≡ s.cold
free_cold [] s = refl
free_cold (p ∷ ps) s = free_cold ps (after_free p.0 p.1 s)

free_full : (ys : Slots) (s : ShardState) → (free_all ys s).full_answers ≡ s.full_answers
free_full [] s = refl
free_full (p ∷ ps) s = free_full ps (after_free p.0 p.1 s)

free_misses : (ys : Slots) (s : ShardState) → (free_all ys s).affine_misses ≡ s.affine_misses
free_misses [] s = refl
free_misses (p ∷ ps) s = free_misses ps (after_free p.0 p.1 s)

free_takes : (ys : Slots) (s : ShardState) → (free_all ys s).warm_takes ≡ s.warm_takes
free_takes [] s = refl
free_takes (p ∷ ps) s = free_takes ps (after_free p.0 p.1 s)

free_bytes : (ys : Slots) (s : ShardState) → resident_bytes (free_all ys s) ≡ resident_bytes s + all_bytes ys
free_bytes [] s = let z : all_bytes [] ≡ 0 = refl in omega arith
free_bytes (p ∷ ps) s =
    let a = free_bytes ps (after_free p.0 p.1 s) in
    let b : resident_bytes (after_free p.0 p.1 s) ≡ resident_bytes s + p.1 = sum_by_push (λ (e : WarmSlot). e.bytes) s.warm _ in
    let c : all_bytes (p ∷ ps) ≡ p.1 + all_bytes ps = sum_by-cons (λ (p : SlotId × ℕ). p.1) p ps in
    omega arith

freed_rise : (ys : Slots) (s t : ShardState) → IsShard s → AreFreed ys s t → (i : ℕ) → rise (slice_index (shard_counts s) i) (slice_index (shard_counts t) i) ≡ (if i == bytes_kept then all_bytes ys else 0)
freed_rise ys s t sound did zero = let e : t.cold ≡ s.cold = ap (λ (z : ShardState). z.cold) did.after ∙ free_cold ys s in let a = small_counts s sound 0 in omega arith
freed_rise ys s t sound did (suc zero) = let e : t.full_answers ≡ s.full_answers = ap (λ (z : ShardState). z.full_answers) did.after ∙ free_full ys s in let a = small_counts s sound 1 in omega arith
freed_rise ys s t sound did (suc (suc zero)) = let e : t.affine_misses ≡ s.affine_misses = ap (λ (z : ShardState). z.affine_misses) did.after ∙ free_misses ys s in let a = small_counts s sound 2 in omega arith
freed_rise ys s t sound did (suc (suc (suc zero))) = let e : t.warm_takes ≡ s.warm_takes = ap (λ (z : ShardState). z.warm_takes) did.after ∙ free_takes ys s in let a = small_counts s sound 3 in omega arith
freed_rise ys s t sound did (suc (suc (suc (suc zero)))) =
    let e : resident_bytes t ≡ resident_bytes s + all_bytes ys = ap (λ (z : ShardState). resident_bytes z) did.after ∙ free_bytes ys s in
    let a = small_counts s sound 4 in
    let b = small_counts t did.sound 4 in
    omega arith
freed_rise ys s t sound did (suc (suc (suc (suc (suc i))))) =
    let other : (suc (suc (suc (suc (suc i)))) == bytes_kept) ≡ false = ne_eqb (suc (suc (suc (suc (suc i))))) bytes_kept (omega arith) in
    no_rise 0 (omega arith) ∙ sym (ap (λ (b : Bool). if b then all_bytes ys else 0) other)

-- the units of these slots of a shard
abbrev pub units_in : ShardState → Slots → List UnitName
units_in s ys = map (λ p. slot_unit s p.0.0) ys

within : (used : List (Option (Option MemoryInModule))) (k : ℕ) → IsSome (slice_index_or used k None) → k < length used
within used k taken = ⊎_elim (λ (h : k < length used). h) (λ (h : length used ≤ k). absurd (true≢false (sym taken ∙ ap is_some (get_or_past used k None h)))) (cases_lt k (length used))

freed_flow : (ys : Slots) (s : ShardState) (u : UnitName) → CanFree ys s → times u (shard_units (free_all ys s)) + times u (units_in s ys) ≡ times u (shard_units s)
freed_flow [] s u can = omega arith
freed_flow (p ∷ ps) s u can =
    let o = out_less s.kind s.step u s.first p.0.0 s.used (within s.used p.0.0 can.0.0) can.0.0 in
    let r = freed_flow ps (after_free p.0 p.1 s) u can.1 in
    omega arith

can_free : (ys : Slots) (s : ShardState) → 0 < s.step → All (λ p. p.1 ≤ 2 ^ 32) ys → ((u : UnitName) → times u (units_in s ys) ≤ times u (shard_units s)) → CanFree ys s
can_free [] s apart small few = tt
can_free (p ∷ ps) s apart small few =
    let P : SlotId × ℕ → Type 0 = λ p. p.1 ≤ 2 ^ 32 in
    let w : UnitName = slot_unit s p.0.0 in
    let f = few w in
    let o : one_if (same w w) ≡ 1 = ap one_if (same_self w) in
    let out = is_out s.kind s.step w s.first s.used (omega arith) in
    let e : s.first + p.0.0 * s.step ≡ s.first + out.slot * s.step = ap (λ (z : UnitName). z.slot) out.is in
    let k : out.slot ≡ p.0.0 = eq_of_mul-eq-mul_right s.step apart out.slot p.0.0 (omega arith) in
    let used : IsSome (use_of s p.0.0) = subst (λ (j : ℕ). IsSome (use_of s j)) k out.taken in
    ((used, All-head P p ps small), can_free ps (after_free p.0 p.1 s) apart (All-tail P p ps small) (λ u. let g = few u in let l = out_less s.kind s.step u s.first p.0.0 s.used (within s.used p.0.0 used) used in omega arith))

-- the numbers of the shard that is found
pub only_state : (o : Option ShardState) (a b : ShardState) → o ≡ Some a → o ≡ Some b → a ≡ b
only_state o a b e f = let g : Some a ≡ Some b = sym e ∙ f in cc

module _ {T : Type 0} (m : Meaning T) (shard : T → Option ShardState) (made : List T) (limits : List ℕ) (q : ShardAt) (x : T) (s : ShardState) (was : shard x ≡ Some s) (its : IsShardAt m shard made limits q x) where
  state_is : its.state ≡ s
  state_is = only_state (shard x) its.state s its.is was

  pub units_found : (ys : Slots) → units_in s ys ≡ units_at q ys
  units_found ys =
      let k = ap (λ (z : ShardState). z.kind) (sym state_is) ∙ its.kind in
      let f = ap (λ (z : ShardState). z.first) (sym state_is) ∙ its.first in
      let d = ap (λ (z : ShardState). z.step) (sym state_is) ∙ its.step in
      (λ i. map (λ (p : SlotId × ℕ). pick_unit (k i) (f i + p.0.0 * d i)) ys)

module _ {T : Type 0} (m : Meaning T) (shard : T → Option ShardState) (means : MeansShard m shard) (made : List T) (limits : List ℕ) (q : ShardAt) (has : HasShard m shard made limits q)
    (x : T) (s : ShardState) (was : shard x ≡ Some s) (v : View T) (told : Taken m made limits q.place x v) (ys : Slots) (back : MayGoBack m made limits q.place (units_at q ys) v) where
  sound : IsShard s
  sound = means.sound made limits q.place x s was told.stands.fits

  its_units : (u : UnitName) → times u (units_in s ys) ≡ times u (units_at q ys)
  its_units u = ap (times u) (units_found m shard made limits q x s was (has x told.stands.fits) ys)

  its_away : (u : UnitName) → m.place made limits u ≡ q.place → times u v.units ≤ times u (shard_units s)
  its_away u own = let a = told.away u own in let b : times u (m.away x) ≡ times u (shard_units s) = ap (times u) (means.away x s was) in omega arith

  few_had : (u : UnitName) → times u (units_in s ys) ≤ times u v.units
  few_had u = let e = its_units u in let h = back.has u in omega arith

  few_out : (u : UnitName) → times u (units_in s ys) ≤ times u (shard_units s)
  few_out u = go (times u (units_in s ys)) refl
    where
      go : (k : ℕ) → times u (units_in s ys) ≡ k → k ≤ times u (shard_units s)
      go zero e = omega arith
      go (suc k) e = let i = its_units u in let f = few_had u in let g = its_away u (back.own u (omega arith)) in omega arith

  -- no unit that a shard has out is a region unit
  none_out : (u : UnitName) → u.region ≡ true → times u (shard_units s) ≡ 0
  none_out u region = go (times u (shard_units s)) refl
    where
      go : (k : ℕ) → times u (shard_units s) ≡ k → k ≡ 0
      go zero e = refl
      go (suc k) e = let o = is_out s.kind s.step u s.first s.used (omega arith) in absurd (true≢false (sym region ∙ ap (λ (z : UnitName). z.region) o.is))

  needed : (u : UnitName) → u.region ≡ true → times u (units_in s ys) < times u v.units + times u [] → times (pick_of u) (units_in s ys) < times (pick_of u) v.units + times (pick_of u) []
  needed u region some = go (times (pick_of u) (units_in s ys)) refl
    where
      go : (k : ℕ) → times (pick_of u) (units_in s ys) ≡ k → k < times (pick_of u) v.units + times (pick_of u) []
      go zero e = let b = told.beside u region (omega arith) in omega arith
      go (suc k) e =
          let i = its_units (pick_of u) in
          let g = its_away u (back.alone u region (omega arith) (omega arith)) in
          let z = none_out u region in
          absurd (omega arith)

  module _ (small : All (λ p. p.1 ≤ 2 ^ 32) ys) where
    pub can_go : CanFree ys s
    can_go = can_free ys s sound.numbers.apart small few_out

    module _ (y : T) (t : ShardState) (is : shard y ≡ Some t) (did : AreFreed ys s t) where
      moves : Moves s t [] (units_in s ys)
      moves = record {
        same = did.same;
        sound = did.sound;
        cold = let c : t.cold ≡ s.cold = ap (λ (z : ShardState). z.cold) did.after ∙ free_cold ys s in omega arith;
        flow = λ u.
            let e : times u (shard_units t) ≡ times u (shard_units (free_all ys s)) = ap (λ (z : ShardState). times u (shard_units z)) did.after in
            let f = freed_flow ys s u can_go in
            omega arith;
      }

      pub may_go : MayPut m made limits q.place x y v.units
      may_go = may m shard means made limits q.place x y s t was is v told [] (units_in s ys) moves (λ u. let f = few_had u in omega arith) needed

      module _ (w : View T) (put : w ≡ put_view m q.place x y v) where
        pub went_units : Gives (units_at q ys) v w
        went_units u =
            let e = units_after m shard means made limits q.place x y s t was is v told [] (units_in s ys) moves (λ u. let f = few_had u in omega arith) w put u in
            let i = its_units u in
            omega arith

        pub went_counts : AddsAt q.place (all_bytes ys) v w
        went_counts p i =
            let e = counted_after m q.place x y s t (means.counts x s was) (means.counts y t is) v w put p i in
            let f = ap (λ (n : ℕ). if p == q.place then n else 0) (freed_rise ys s t sound did i) in
            omega arith

        pub went_held : HeldShard m shard made limits q.place s (free_all ys s) v w
        went_held = record {
          before = x;
          after = y;
          was = was;
          is = is ∙ ap Some did.after;
          same = subst (IsSameShard s) did.after did.same;
          sound = subst IsShard did.after did.sound;
          told = told;
          view = put;
        }
