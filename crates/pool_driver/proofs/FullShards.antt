-- A pick that finds nothing found each slot of its shard used: that is counted, and the shard is topped.
use Rattle.std.proofs.Common.{◌≡◌, Bool, true, false, length, refl, ap, ◌∙◌, arith, Option, Some, None, option_map}
use Rattle.std.specs.Prelude.{◌==◌, nat_lt, if◌then◌else◌}
use Rattle.std.specs.Option.{option_or, option_map_or}
use Rattle.std.proofs.lemmas.Bool.Decides.{nat_tests}
use Rattle.pool_hall.specs.Tally.{rise}
use Rattle.pool_index.specs.Part.{is_topped}
use Rattle.pool_index.specs.Shard.{ShardState, IsShard, Choice, warm_at, next_cold, cold_choice, warm_choice, affine_choice, choice, slot_and_bytes, after_choice, after_full, pick_answer, after_pick}
use Rattle.pool_index.specs.declared.ids.MemoryInModule.{MemoryInModule}
use Rattle.pool_index.proofs.Rounds.{rise_once}

module _ (want : Option MemoryInModule) (s : ShardState) where
  -- what a pick takes where no slot is affine
  abbrev rest : Option Choice
  rest = if nat_lt (length s.warm) s.budget then option_or (cold_choice s) (warm_choice s) else option_or (warm_choice s) (cold_choice s)

  none_chosen : pick_answer want s ≡ None → choice want s ≡ None
  none_chosen = go (choice want s)
    where
      go : (k : Option Choice) → option_map (slot_and_bytes s) k ≡ None → k ≡ None
      go None none = refl
      go (Some k) none = absurd cc

  -- Where a pick finds nothing, only the count of full answers rises.
  pub after_none : pick_answer want s ≡ None → after_pick want s ≡ after_full s
  after_none none = ap (λ (k : Option Choice). option_map_or (after_choice want s) k (after_full s)) (none_chosen none)

  either_none : (a b : Option Choice) → option_or a b ≡ None → b ≡ None
  either_none None b none = none
  either_none (Some k) b none = absurd cc

  rest_cold : (d b k : Bool) → (if d then option_or (if b then Some next_cold else None) (if k then Some (warm_at 0) else None) else option_or (if k then Some (warm_at 0) else None) (if b then Some next_cold else None)) ≡ None → b ≡ false
  rest_cold d false k none = refl
  rest_cold true true k none = absurd cc
  rest_cold false true true none = absurd cc
  rest_cold false true false none = absurd cc

  pub missed_count : IsShard s → pick_answer want s ≡ None → rise s.full_answers (after_pick want s).full_answers ≡ 1
  missed_count sound none = ap (λ (t : ShardState). rise s.full_answers t.full_answers) (after_none none) ∙ rise_once s.full_answers sound.counts.0

  pub full_topped : IsShard s → pick_answer want s ≡ None → is_topped (after_pick want s) ≡ true
  full_topped sound none =
      let n : nat_lt s.cold s.capacity ≡ false = rest_cold (nat_lt (length s.warm) s.budget) (nat_lt s.cold s.capacity) (nat_lt 0 (length s.warm)) (either_none (affine_choice want s) rest (none_chosen none)) in
      let h = sound.cold_at_most in
      let t : (s.cold == s.capacity) ≡ true = grind (arith, nat_tests) in
      ap is_topped (after_none none) ∙ t
