-- The units that a probe of a shard moves: the pick unit of the slot that it finds comes out of the shard.
use Rattle.std.proofs.Common.{◌≡◌, ℕ, ◌+◌, ◌*◌, ◌%◌, ◌^◌, ◌<◌, ◌≤◌, Bool, true, false, List, [], ◌∷◌, length, refl, sym, ap, subst, ◌∙◌, arith, Option, Some, None, IfSome, option_map, nat_lt, if◌then◌else◌, slice_set}
use Rattle.pool_index.proofs.Imports.{option_or, option_map_or, ltb-true, UnitName, one_if, same, times, pick_unit}
use Rattle.pool_index.specs.Affinity.{is_affine}
use Rattle.pool_index.specs.Positions.{last_position}
use Rattle.pool_index.specs.declared.ids.MemoryInModule.{MemoryInModule}
use Rattle.pool_index.specs.declared.probe.Probe.{Probe}
use Rattle.pool_index.specs.declared.probe.Probe.TheVariants.{Pick, Affine}
use Rattle.pool_index.specs.Shard.{ShardState, IsShard, IsSameShard, Choice, warm_at, next_cold, affine_choice, warm_choice, cold_choice, choice, slot_and_bytes, slot_number, after_choice, after_full, after_pick, pick_answer, affine_answer, after_affine_pick, entry_at}
use Rattle.pool_index.specs.Part.{shard_units, used_units}
use Rattle.pool_index.specs.Probe.{probe_found, after_probe, IsProbed}
use Rattle.pool_index.specs.Round.{found_units}
use Rattle.pool_index.specs.Moves.{Moves}
use Rattle.pool_index.proofs.Filtered.{last_passes}
use Rattle.pool_index.proofs.Shards.{warm_slot_free, cold_slot_free}
use Rattle.pool_index.proofs.SlotUnits.{out_more}

-- the choice is a slot that can be taken
abbrev pub IsChoice : ShardState → Choice → Type 0
IsChoice s (warm_at i) = i < length s.warm
IsChoice s next_cold = s.cold < s.capacity

affine_taken_at : (s : ShardState) (of : MemoryInModule) (o : Option ℕ) → last_position (is_affine of) s.warm ≡ o → IfSome (option_map warm_at o) (IsChoice s)
affine_taken_at s of None e = tt
affine_taken_at s of (Some i) e = (last_passes (is_affine of) s.warm i (entry_at s i) e).inside

pub affine_taken : (want : Option MemoryInModule) (s : ShardState) → IfSome (affine_choice want s) (IsChoice s)
affine_taken None s = tt
affine_taken (Some of) s = affine_taken_at s of (last_position (is_affine of) s.warm) refl

if_taken : (s : ShardState) (c : Choice) (b : Bool) → (b ≡ true → IsChoice s c) → IfSome (if b then Some c else None) (IsChoice s)
if_taken s c true h = h refl
if_taken s c false h = tt

either_taken : (s : ShardState) (a b : Option Choice) → IfSome a (IsChoice s) → IfSome b (IsChoice s) → IfSome (option_or a b) (IsChoice s)
either_taken s None b g h = h
either_taken s (Some c) b g h = g

one_taken : (s : ShardState) (b : Bool) (x y : Option Choice) → IfSome x (IsChoice s) → IfSome y (IsChoice s) → IfSome (if b then x else y) (IsChoice s)
one_taken s true x y g h = g
one_taken s false x y g h = h

pub choice_taken : (want : Option MemoryInModule) (s : ShardState) → IfSome (choice want s) (IsChoice s)
choice_taken want s =
    let warm : IfSome (warm_choice s) (IsChoice s) = if_taken s (warm_at 0) (nat_lt 0 (length s.warm)) (λ e. ltb-true 0 (length s.warm) e) in
    let cold : IfSome (cold_choice s) (IsChoice s) = if_taken s next_cold (nat_lt s.cold s.capacity) (λ e. ltb-true s.cold s.capacity e) in
    either_taken s (affine_choice want s) _ (affine_taken want s)
    (one_taken s (nat_lt (length s.warm) s.budget) (option_or (cold_choice s) (warm_choice s)) (option_or (warm_choice s) (cold_choice s))
    (either_taken s (cold_choice s) (warm_choice s) cold warm)
    (either_taken s (warm_choice s) (cold_choice s) warm cold))

-- what a choice does, by numbers: one unit comes, and one slot at most was cold
pub record Picks (s t : ShardState) (r : Option ℕ) : Type 0 where
  pub flow : (u : UnitName) → times u (shard_units t) ≡ times u (shard_units s) + times u (found_units s.kind r)
  pub cold : s.cold ≤ t.cold
  pub one : t.cold ≤ s.cold + 1
  pub none : r ≡ None → t.cold ≡ s.cold

abbrev numbered : (s : ShardState) → Option Choice → Option ℕ
numbered s o = option_map (λ c. slot_number s (slot_and_bytes s c).0.0) o

choice_picks : (want : Option MemoryInModule) (s : ShardState) (o : Option Choice) (left : ShardState) → IsShard s → IfSome o (IsChoice s) → left.kind ≡ s.kind → left.first ≡ s.first → left.step ≡ s.step → left.used ≡ s.used → left.cold ≡ s.cold
    → Picks s (option_map_or (after_choice want s) o left) (numbered s o)
choice_picks want s None left sound taken kind first step used cold = record {
  flow = λ u. let e : times u (shard_units (option_map_or (after_choice want s) None left)) ≡ times u (shard_units s) = (λ i. times u (used_units (kind i) (step i) (first i) (used i))) in omega arith;
  cold = omega arith;
  one = omega arith;
  none = λ e. cold;
}
choice_picks want s (Some (warm_at i)) left sound taken kind first step used cold = record {
  flow = λ u. let f = warm_slot_free s i sound taken in let e = out_more s.kind s.step u s.first (entry_at s i).slot.0 s.used want f.within f.unused in omega arith;
  cold = omega arith;
  one = omega arith;
  none = λ e. refl;
}
choice_picks want s (Some next_cold) left sound taken kind first step used cold = record {
  flow = λ u. let f = cold_slot_free s sound in let n = sound.entries in let e = out_more s.kind s.step u s.first s.cold s.used want (omega arith) f.unused in omega arith;
  cold = omega arith;
  one = omega arith;
  none = λ e. absurd (cc);
}

answered : (s : ShardState) (o : Option Choice) → option_map (λ p. slot_number s p.0.0) (option_map (slot_and_bytes s) o) ≡ numbered s o
answered s None = refl
answered s (Some c) = refl

answered_slot : (s : ShardState) (o : Option Choice) → option_map (λ k. slot_number s k.0) (option_map (λ c. (slot_and_bytes s c).0) o) ≡ numbered s o
answered_slot s None = refl
answered_slot s (Some c) = refl

pub probe_picks : (c : Probe) (s : ShardState) → IsShard s → Picks s (after_probe c s) (probe_found c s)
probe_picks (Pick want) s sound = subst (Picks s (after_pick want s)) (sym (answered s (choice want s))) (choice_picks want s (choice want s) (after_full s) sound (choice_taken want s) refl refl refl refl refl)
probe_picks (Affine of) s sound =
    subst (Picks s (after_affine_pick of s)) (sym (answered_slot s (affine_choice (Some of) s)))
    (choice_picks None s (affine_choice (Some of) s) (record s { affine_misses = (s.affine_misses + 1) % 2 ^ 64 }) sound (affine_taken (Some of) s) refl refl refl refl refl)

pub probed_picks : (c : Probe) (s t : ShardState) (r : Option ℕ) → IsShard s → IsProbed c s r t → Picks s t r
probed_picks c s t r sound did = subst (λ (z : ShardState). Picks s z r) (sym did.after) (subst (Picks s (after_probe c s)) (sym did.answer) (probe_picks c s sound))

pub probe_moves : (c : Probe) (s t : ShardState) (r : Option ℕ) → IsShard s → IsProbed c s r t → Moves s t (found_units s.kind r) []
probe_moves c s t r sound did =
    let k = probed_picks c s t r sound did in
    record { same = did.same; sound = did.sound; cold = k.cold; flow = λ u. let f = k.flow u in omega arith }
