-- What a probe of a shard finds, and what it leaves.
use Rattle.std.specs.Prelude.{◌≡◌, ℕ, Bool, true, false, Option, option_map}
use Rattle.pool_index.specs.Shard.{ShardState, IsShard, IsSameShard, slot_number, pick_answer, after_pick, affine_answer, after_affine_pick}
use Rattle.pool_index.specs.Part.{full_answers, affine_misses}
use Rattle.pool_index.specs.declared.probe.Probe.{Probe}
use Rattle.pool_index.specs.declared.probe.Probe.TheVariants.{Pick, Affine}

-- the number of the slot that is found, by which it is known outside
abbrev pub probe_found : Probe → ShardState → Option ℕ
probe_found (Pick want) s = option_map (λ p. slot_number s p.0.0) (pick_answer want s)
probe_found (Affine of) s = option_map (λ k. slot_number s k.0) (affine_answer of s)

-- A shard after a probe, which is a pick or a pick of an affine slot alone.
abbrev pub after_probe : Probe → ShardState → ShardState
after_probe (Pick want) s = after_pick want s
after_probe (Affine of) s = after_affine_pick of s

-- any free slot will do
abbrev pub is_pick : Probe → Bool
is_pick (Pick want) = true
is_pick (Affine of) = false

-- the count of the shard that rises where there is no such slot
abbrev pub miss_count : Probe → ℕ
miss_count (Pick want) = full_answers
miss_count (Affine of) = affine_misses

-- a probe went from the shard s, by its answer, to the shard t
pub record IsProbed (c : Probe) (s : ShardState) (r : Option ℕ) (t : ShardState) : Type 0 where
  pub answer : r ≡ probe_found c s
  pub after : t ≡ after_probe c s
  pub same : IsSameShard s t
  pub sound : IsShard t
