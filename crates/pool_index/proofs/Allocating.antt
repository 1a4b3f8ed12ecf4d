-- The shards of an allocator.
use Rattle.std.proofs.Common.{◌≡◌, ℕ, ◌*◌, ◌<◌, List, length, Some, sym, refl, ap, ◌∙◌, arith}
use Rattle.pool_index.proofs.Imports.{Memory, UnitName}
use Rattle.pool_index.specs.Shard.{ShardState}
use Rattle.pool_index.specs.Part.{owner, shard_at, FitsAt, shard_meaning}
use Rattle.pool_index.specs.Round.{AreShards}
use Rattle.pool_index.specs.Holds.{HasShard}
use Rattle.pool_index.specs.MadeShards.{made_shard, place_of_slot, AreMade}
use Rattle.pool_index.proofs.Owners.{owned, made_at, made_length}

module _ (made : List ShardState) (limits : List ℕ) (capacity warm slots shards : ℕ) (is : AreMade made limits capacity warm slots shards) where
  pub as_many : length made ≡ shards
  as_many = ap length is.is ∙ made_length capacity warm slots is.some ∙ sym is.count

  pub some_shards : 0 < shards
  some_shards = let c = is.count in omega arith

  pub owner_is : (u : UnitName) → u.kind ≡ Memory → owner made u ≡ place_of_slot slots shards u.slot
  owner_is u kind = ap (λ (l : List ShardState). owner l u) is.is ∙ owned capacity warm slots is.some u kind ∙ ap (λ (n : ℕ). place_of_slot slots n u.slot) (sym is.count)

  pub shard_there : (p : ℕ) → p < shards → shard_at made p ≡ made_shard capacity warm slots p
  shard_there p h = ap (λ (l : List ShardState). shard_at l p) is.is ∙ made_at capacity warm slots is.some p (let c = is.count in omega arith)

  -- what each shard has by its place
  pub kind_at : (p : ℕ) (x : ShardState) → p < shards → FitsAt made p x → x.kind ≡ Memory
  kind_at p x h fit = fit.same.kind ∙ ap (λ (z : ShardState). z.kind) (shard_there p h)

  pub first_at : (p : ℕ) (x : ShardState) → p < shards → FitsAt made p x → x.first ≡ p * slots
  first_at p x h fit = fit.same.first ∙ ap (λ (z : ShardState). z.first) (shard_there p h)

  pub step_at : (p : ℕ) (x : ShardState) → p < shards → FitsAt made p x → x.step ≡ 1
  step_at p x h fit = fit.same.step ∙ ap (λ (z : ShardState). z.step) (shard_there p h)

  pub all_shards : AreShards shard_meaning Some made limits (record { kind = Memory; first = 0; count = shards })
  all_shards p x low high fit = record { state = x; is = refl; kind = kind_at p x (omega arith) fit }

  pub shard_at_place : (p : ℕ) → p < shards → HasShard shard_meaning Some made limits (record { place = p; kind = Memory; first = p * slots; step = 1 })
  shard_at_place p h x fit = record { state = x; is = refl; kind = kind_at p x h fit; first = first_at p x h fit; step = step_at p x h fit }
