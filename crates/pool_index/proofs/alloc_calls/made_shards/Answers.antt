use Rattle.std.proofs.Common.{◌≡◌, ℕ, ◌+◌, ◌++◌, ◌∷◌, [], List, ◌∙◌, sym, subst, arith, map, All}
use Rattle.pool_index.proofs.Imports.{range_with_len, All-push, map-range_with_len_more}
use Rattle.pool_index.specs.MadeShards.{made_shard}
use Rattle.pool_index.specs.Shard.{ShardState, IsShard}
use Rattle.pool_index.proofs.alloc_calls.made_shards.Goals as goal

pub loop-k-preserved : goal.loop-k-preserved
loop-k-preserved c =
    let f : ℕ → ShardState = made_shard c.args.capacity c.args.warm c.args.slots_per_shard in
    let k : ℕ = c.loop-k.k in
    let more : map f (range_with_len 0 (k + 1)) ≡ map f (range_with_len 0 k) ++ f k ∷ [] = map-range_with_len_more f 0 k k (omega arith) in
    let had = c.loop-k.invariant in
    let pushed = c.in_ok-push.ensures.items in
    record {
      items = pushed ∙ (λ i. had.items i ++ c.in_ok-shard.ensures.made i ∷ []) ∙ sym more;
      sound = subst (All IsShard) (sym pushed) (All-push IsShard c.loop-k.parts.items c.in_ok-shard.shard had.sound c.in_ok-shard.ensures.sound);
    }
