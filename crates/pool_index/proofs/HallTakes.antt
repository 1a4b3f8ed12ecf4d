-- A shard of any hall that is held once to take all its warm slots, or to be looked at.
use Rattle.std.proofs.Common.{◌≡◌, ℕ, zero, suc, ◌+◌, ◌-◌, ◌*◌, ◌%◌, ◌^◌, ◌==◌, if◌then◌else◌, Bool, true, false, List, [], ◌∷◌, Option, Some, refl, sym, ap, subst, ◌∙◌, arith, map, slice_index, slice_set}
use Rattle.pool_index.proofs.Imports.{ne_eqb, UnitName, View, SlotKind, Meaning, times, pick_unit, put_view, rise, Taken, MayPut}
use Rattle.pool_index.specs.Freed.{IsTakenFrom}
use Rattle.pool_index.specs.Holds.{units_at, HasShard, TookWarm}
use Rattle.pool_index.specs.Lists.{with_bytes, use_again}
use Rattle.pool_index.specs.Moves.{Moves}
use Rattle.pool_index.specs.Part.{shard_units, shard_counts, used_units, warm_takes, bytes_kept}
use Rattle.pool_index.specs.Round.{HeldShard, KeepsUnits, KeepsCounts}
use Rattle.pool_index.specs.Shard.{ShardState, IsShard, IsSameShard, resident_bytes, taken_slots, after_take_warm}
use Rattle.pool_index.specs.ShardPart.{MeansShard}
use Rattle.pool_index.specs.Taken.{TakenState}
use Rattle.pool_index.specs.declared.ids.MemoryInModule.{MemoryInModule}
use Rattle.pool_index.specs.declared.shard_calls.ShardAt.{ShardAt}
use Rattle.pool_index.specs.declared.warm_slot.WarmSlot.{WarmSlot}
use Rattle.pool_index.proofs.ComingBack.{Free, all_free, free_after}
use Rattle.pool_index.proofs.HallFrees.{Slots, units_in, units_found}
use Rattle.pool_index.proofs.Puts.{may_gain, no_region, small_counts, units_after}
use Rattle.pool_index.proofs.Rounds.{no_rise, rise_once, counted_after, same_counts}
use Rattle.pool_index.proofs.SlotUnits.{out_more}

module _ (kind : SlotKind) (step first : ℕ) where
  abbrev warm_units : List WarmSlot → List UnitName
  warm_units es = map (λ e. pick_unit kind (first + e.slot.0 * step)) es

  -- each of these slots is used then, and gave its unit out
  again_units : (es : List WarmSlot) (v : List (Option (Option MemoryInModule))) (u : UnitName) → Free es v → times u (used_units kind step first (use_again es v)) ≡ times u (used_units kind step first v) + times u (warm_units es)
  again_units [] v u f = omega arith
  again_units (e ∷ es) v u f =
      let r = again_units es (slice_set v e.slot.0 (Some e.affinity)) u (free_after e es v f) in
      let o = out_more kind step u first e.slot.0 v e.affinity (f.within zero e (omega arith)) (f.unused zero e (omega arith)) in
      omega arith

taken_units : (s : ShardState) (es : List WarmSlot) → units_in s (map with_bytes es) ≡ warm_units s.kind s.step s.first es
taken_units s [] = refl
taken_units s (e ∷ es) = ap (λ (l : List UnitName). pick_unit s.kind (s.first + e.slot.0 * s.step) ∷ l) (taken_units s es)

no_region_units : (s : ShardState) (ys : Slots) (u : UnitName) → u.region ≡ true → times u (units_in s ys) ≡ 0
no_region_units s [] u region = refl
no_region_units s (p ∷ ps) u region = let r = no_region_units s ps u region in let o = no_region s.kind (s.first + p.0.0 * s.step) u region in omega arith

-- by two tests: the first number, the second, or 0
abbrev pub chosen : Bool → Bool → ℕ → ℕ → ℕ
chosen b c m n = if b then m else (if c then n else 0)

-- the counts of one shard
module _ (s t : ShardState) (sound : IsShard s) (after : t ≡ after_take_warm s) where
  none_kept : resident_bytes t ≡ 0
  none_kept = ap (λ (z : ShardState). resident_bytes z) after

  pub taken_rise : (i : ℕ) → rise (slice_index (shard_counts s) i) (slice_index (shard_counts t) i) ≡ chosen (i == warm_takes) (i == bytes_kept) 1 ((2 ^ 64 - resident_bytes s) % 2 ^ 64)
  taken_rise zero = let e : t.cold ≡ s.cold = ap (λ (z : ShardState). z.cold) after in let a = small_counts s sound 0 in omega arith
  taken_rise (suc zero) = let e : t.full_answers ≡ s.full_answers = ap (λ (z : ShardState). z.full_answers) after in let a = small_counts s sound 1 in omega arith
  taken_rise (suc (suc zero)) = let e : t.affine_misses ≡ s.affine_misses = ap (λ (z : ShardState). z.affine_misses) after in let a = small_counts s sound 2 in omega arith
  taken_rise (suc (suc (suc zero))) = let e : t.warm_takes ≡ (s.warm_takes + 1) % 2 ^ 64 = ap (λ (z : ShardState). z.warm_takes) after in ap (rise s.warm_takes) e ∙ rise_once s.warm_takes sound.counts.2
  taken_rise (suc (suc (suc (suc zero)))) = let e = none_kept in let a = small_counts s sound 4 in omega arith
  taken_rise (suc (suc (suc (suc (suc i))))) =
      let a : (suc (suc (suc (suc (suc i)))) == warm_takes) ≡ false = ne_eqb (suc (suc (suc (suc (suc i))))) warm_takes (omega arith) in
      let b : (suc (suc (suc (suc (suc i)))) == bytes_kept) ≡ false = ne_eqb (suc (suc (suc (suc (suc i))))) bytes_kept (omega arith) in
      no_rise 0 (omega arith) ∙ sym (λ j. chosen (a j) (b j) 1 ((2 ^ 64 - resident_bytes s) % 2 ^ 64))

module _ {T : Type 0} (m : Meaning T) (shard : T → Option ShardState) (means : MeansShard m shard) (made : List T) (limits : List ℕ) (q : ShardAt) (x : T) (s : ShardState) (was : shard x ≡ Some s) (v : View T) (told : Taken m made limits q.place x v) where
  sound : IsShard s
  sound = means.sound made limits q.place x s was told.stands.fits

  module _ (y : T) (t : ShardState) (is : shard y ≡ Some t) (old new : TakenState) (did : IsTakenFrom s t old new) where
    moves : Moves s t (units_in s (taken_slots s)) []
    moves = record {
      same = did.same;
      sound = did.sound;
      cold = let c : t.cold ≡ s.cold = ap (λ (z : ShardState). z.cold) did.after in omega arith;
      flow = λ u.
          let a : times u (shard_units t) ≡ times u (used_units s.kind s.step s.first (use_again s.warm s.used)) = ap (λ (z : ShardState). times u (shard_units z)) did.after in
          let b = again_units s.kind s.step s.first s.warm s.used u (all_free s sound) in
          let c : times u (units_in s (taken_slots s)) ≡ times u (warm_units s.kind s.step s.first s.warm) = ap (times u) (taken_units s s.warm) in
          omega arith;
    }

    pub may_take : MayPut m made limits q.place x y v.units
    may_take = may_gain m shard means made limits q.place x y s t was is v told (units_in s (taken_slots s)) (no_region_units s (taken_slots s)) moves

    pub took_warm : HasShard m shard made limits q → (w : View T) → w ≡ put_view m q.place x y v → TookWarm m shard made limits q old new v w
    took_warm has w put = record {
      state = s;
      held = record {
        before = x;
        after = y;
        was = was;
        is = is ∙ ap Some did.after;
        same = subst (IsSameShard s) did.after did.same;
        sound = subst IsShard did.after did.sound;
        told = told;
        view = put;
      };
      taken = did.taken;
      units = λ u.
          let a = units_after m shard means made limits q.place x y s t was is v told (units_in s (taken_slots s)) [] moves (λ z. omega arith) w put u in
          let e : times u (units_in s (taken_slots s)) ≡ times u (units_at q (taken_slots s)) = ap (times u) (units_found m shard made limits q x s was (has x told.stands.fits) (taken_slots s)) in
          omega arith;
      counts = λ p i.
          let e = counted_after m q.place x y s t (means.counts x s was) (means.counts y t is) v w put p i in
          let f = ap (λ (n : ℕ). if p == q.place then n else 0) (taken_rise s t sound did.after i) in
          omega arith;
    }

  -- a shard that is left as it was
  module _ (y : T) (is : shard y ≡ Some s) where
    same : IsSameShard s s
    same = record { kind = refl; first = refl; step = refl; capacity = refl; budget = refl }

    stays : Moves s s [] []
    stays = record { same = same; sound = sound; cold = omega arith; flow = λ u. refl }

    pub may_look : MayPut m made limits q.place x y v.units
    may_look = may_gain m shard means made limits q.place x y s s was is v told [] (λ u region. refl) stays

    module _ (w : View T) (put : w ≡ put_view m q.place x y v) where
      pub look_held : HeldShard m shard made limits q.place s s v w
      look_held = record { before = x; after = y; was = was; is = is; same = same; sound = sound; told = told; view = put }

      pub look_units : KeepsUnits v w
      look_units u = let a = units_after m shard means made limits q.place x y s s was is v told [] [] stays (λ z. omega arith) w put u in omega arith

      pub look_counts : KeepsCounts v w
      look_counts = same_counts m q.place x y s s (means.counts x s was) (means.counts y s is) sound refl v w put
