-- The counts of a shard fit 64 bits.
use Rattle.std.proofs.Common.{zero, suc, ◌*◌, ◌≤◌, length, arith}
use Rattle.std.proofs.lemmas.List.Sums.{sum_by-le}
use Rattle.std.specs.Prelude.{◌^◌}
use Rattle.pool_index.specs.Shard.{ShardState, IsShard, resident_bytes}
use Rattle.pool_slots.specs.declared.part.PoolPart.TheVariants as part
use Rattle.pool_driver.specs.Placed.{IsSmall}

pub shard_small : (P H : Type 0) (s : ShardState) → IsShard s → IsSmall {P = P} {H = H} (part.Shard s)
shard_small P H s sound zero = omega (arith, sound.cold_at_most, sound.small)
shard_small P H s sound (suc zero) = omega (arith, sound.counts.0)
shard_small P H s sound (suc (suc zero)) = omega (arith, sound.counts.1)
shard_small P H s sound (suc (suc (suc zero))) = omega (arith, sound.counts.2)
shard_small P H s sound (suc (suc (suc (suc zero)))) =
    let heavy : resident_bytes s ≤ length s.warm * 2 ^ 32 = sum_by-le (λ e. e.bytes) (2 ^ 32) s.warm sound.bytes in
    omega (arith, heavy, sound.total, sound.cold_at_most, sound.small)
shard_small P H s sound (suc (suc (suc (suc (suc i))))) = omega arith
