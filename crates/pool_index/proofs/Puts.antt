-- A shard that a call left may be put, by the units that the call moved.
use Rattle.std.proofs.Common.{◌≡◌, ℕ, zero, suc, ◌+◌, ◌*◌, ◌^◌, ◌<◌, ◌≤◌, true, false, List, [], length, Option, Some, None, ⊎_elim, sym, refl, ap, ◌∙◌, arith, true≢false, eq-eqb, slice_index}
use Rattle.pool_index.proofs.Imports.{sum_by-le, eqb-true, cases_Bool, UnitName, View, SlotKind, one_if, same, times, pick_unit, pick_of, same_is, Meaning, StandsAt, moved, put_view, Taken, MayPut, may_move, times_after}
use Rattle.pool_index.specs.Shard.{ShardState, IsShard, resident_bytes}
use Rattle.pool_index.specs.Part.{shard_units, shard_counts, is_topped}
use Rattle.pool_index.specs.ShardPart.{MeansShard}
use Rattle.pool_index.specs.Moves.{Moves}
use Rattle.pool_index.specs.Round.{found_units}
use Rattle.pool_index.proofs.SlotUnits.{is_out, out_once}

pub small_counts : (s : ShardState) → IsShard s → (i : ℕ) → slice_index (shard_counts s) i < 2 ^ 64
small_counts s sound zero = let a = sound.cold_at_most in let b = sound.small in omega arith
small_counts s sound (suc zero) = sound.counts.0
small_counts s sound (suc (suc zero)) = sound.counts.1
small_counts s sound (suc (suc (suc zero))) = sound.counts.2
small_counts s sound (suc (suc (suc (suc zero)))) =
    let a : resident_bytes s ≤ length s.warm * 2 ^ 32 = sum_by-le (λ e. e.bytes) (2 ^ 32) s.warm sound.bytes in
    let b = sound.total in
    let c = sound.cold_at_most in
    let d = sound.small in
    omega arith
small_counts s sound (suc (suc (suc (suc (suc i))))) = omega arith

topped_after : (s t : ShardState) (come leave : List UnitName) → Moves s t come leave → is_topped s ≡ true → is_topped t ≡ true
topped_after s t come leave moves e =
    let a = eqb-true s.cold s.capacity e in
    let b = moves.cold in
    let c = moves.same.capacity in
    let d = moves.sound.cold_at_most in
    eq-eqb t.cold t.capacity (omega arith)

module _ {T : Type 0} (m : Meaning T) (shard : T → Option ShardState) (means : MeansShard m shard) (made : List T) (limits : List ℕ) (p : ℕ) (x y : T) (s t : ShardState) (was : shard x ≡ Some s) (is : shard y ≡ Some t)
    (v : View T) (told : Taken m made limits p x v) (come leave : List UnitName) (moves : Moves s t come leave) where
  fits : m.fits made limits p y
  fits = means.fits made limits p x y s t was is told.stands.fits moves.same moves.sound

  own : (u : UnitName) → 0 < times u (m.away y) → m.place made limits u ≡ p
  own u some' =
      let a : times u (m.away y) ≡ times u (shard_units t) = ap (times u) (means.away y t is) in
      let o = is_out t.kind t.step u t.first t.used (omega arith) in
      let e = moves.sound.entries in
      let i = o.inside in
      ap (m.place made limits) o.is ∙ means.place made limits p y t is fits o.slot (omega arith)

  stands : StandsAt m made limits p y
  stands = record {
    fits = fits;
    own = own;
    once = λ u. let a : times u (m.away y) ≡ times u (shard_units t) = ap (times u) (means.away y t is) in let o = out_once t.kind t.step u moves.sound.numbers.apart t.first t.used in omega arith;
    small = λ i. let a : slice_index (m.counts y) i ≡ slice_index (shard_counts t) i = ap (λ (l : List ℕ). slice_index l i) (means.counts y t is) in let o = small_counts t moves.sound i in omega arith;
    beside = λ u region h. let k : times u (m.kept y) ≡ 0 = ap (times u) (means.kept y t is) in absurd (omega arith);
  }

  topped : m.topped x ≡ true → m.topped y ≡ true
  topped e = means.topped y t is ∙ topped_after s t come leave moves (sym (means.topped x s was) ∙ e)

  steady : m.steady y ≡ m.steady x
  steady = means.steady y t is ∙ sym (means.steady x s was)

  rises : m.steady y ≡ true → (i : ℕ) → slice_index (m.counts x) i ≤ slice_index (m.counts y) i
  rises e i = absurd (true≢false (sym e ∙ means.steady y t is))

  flow : (u : UnitName) → times u (m.away y) + times u (m.kept x) + times u leave ≡ times u (m.away x) + times u (m.kept y) + times u come
  flow u =
      let a : times u (m.away y) ≡ times u (shard_units t) = ap (times u) (means.away y t is) in
      let b : times u (m.away x) ≡ times u (shard_units s) = ap (times u) (means.away x s was) in
      let c : times u (m.kept x) ≡ 0 = ap (times u) (means.kept x s was) in
      let d : times u (m.kept y) ≡ 0 = ap (times u) (means.kept y t is) in
      let f = moves.flow u in
      omega arith

  module _ (had : (u : UnitName) → times u leave ≤ times u v.units + times u come) where
    pub may : ((u : UnitName) → u.region ≡ true → times u leave < times u v.units + times u come → times (pick_of u) leave < times (pick_of u) v.units + times (pick_of u) come) → MayPut m made limits p x y v.units
    may needs = may_move m made limits p x y v.units stands topped steady rises come leave flow had needs

    -- what the seat has then
    pub units_after : (w : View T) → w ≡ put_view m p x y v → (u : UnitName) → times u w.units + times u leave ≡ times u v.units + times u come
    units_after w e u =
        let a : times u w.units ≡ times u (moved m x y v.units) = ap (λ (z : View T). times u z.units) e in
        let b = times_after m made limits p x y v.units stands topped steady rises come leave flow had u in
        omega arith

-- a pick unit is no region unit
pub no_region : (kind : SlotKind) (n : ℕ) (u : UnitName) → u.region ≡ true → one_if (same u (pick_unit kind n)) ≡ 0
no_region kind n u region = ⊎_elim
    (λ (one : same u (pick_unit kind n) ≡ true). absurd (true≢false (sym region ∙ ap (λ (z : UnitName). z.region) (same_is u (pick_unit kind n) one))))
    (λ (other : same u (pick_unit kind n) ≡ false). ap one_if other)
    (cases_Bool (same u (pick_unit kind n)))

pub no_region_found : (kind : SlotKind) (r : Option ℕ) (u : UnitName) → u.region ≡ true → times u (found_units kind r) ≡ 0
no_region_found kind None u region = refl
no_region_found kind (Some n) u region = let z = no_region kind n u region in omega arith

-- where only pick units come and none leaves, the shard may be put
pub may_gain : {T : Type 0} (m : Meaning T) (shard : T → Option ShardState) (means : MeansShard m shard) (made : List T) (limits : List ℕ) (p : ℕ) (x y : T) (s t : ShardState) (was : shard x ≡ Some s) (is : shard y ≡ Some t)
    (v : View T) (told : Taken m made limits p x v) (come : List UnitName) → ((u : UnitName) → u.region ≡ true → times u come ≡ 0) → Moves s t come [] → MayPut m made limits p x y v.units
may_gain m shard means made limits p x y s t was is v told come none moves = may m shard means made limits p x y s t was is v told come [] moves (λ u. omega arith) (λ u region h. let z = none u region in let b = told.beside u region (omega arith) in omega arith)
