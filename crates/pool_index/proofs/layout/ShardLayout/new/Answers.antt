use Rattle.std.proofs.Common.{◌≡◌, ℕ, ◌+◌, ◌∙◌, ◌++◌, ◌∷◌, [], ap, arith, map, sum_by}
use Rattle.pool_index.proofs.Imports.{range_with_len, common_steps, map-range_with_len_more}
use Rattle.pool_index.specs.Layout.{shard_at, layout}
use Rattle.pool_index.proofs.Layouts.{layout_slots, layout_budgets}
use Rattle.pool_index.proofs.layout.ShardLayout.new.Goals as goal

pub loop-k-preserved : goal.loop-k-preserved
loop-k-preserved c =
    let f : ℕ → ℕ × ℕ = shard_at c.args.capacity c.args.warm c.slots_per_shard_of-slots_per_shard.result in
    let k : ℕ = c.loop-k.k in
    let more : map f (range_with_len 0 (k + 1)) ≡ map f (range_with_len 0 k) ++ f k ∷ [] = map-range_with_len_more f 0 k k (omega arith) in
    cc c.in_ok-push.ensures.items

pub returns-clause-capacities : goal.returns-clause-capacities
returns-clause-capacities c =
    let same : c.from_vec.result ≡ (layout c.args.capacity c.args.warm c.args.requested).shards = grind (arith, common_steps) in
    ap (sum_by (λ (p : ℕ × ℕ). p.0)) same ∙ layout_slots c.args.capacity c.args.warm c.args.requested

pub returns-clause-budgets : goal.returns-clause-budgets
returns-clause-budgets c =
    let same : c.from_vec.result ≡ (layout c.args.capacity c.args.warm c.args.requested).shards = grind (arith, common_steps) in
    ap (sum_by (λ (p : ℕ × ℕ). p.1)) same ∙ layout_budgets c.args.capacity c.args.warm c.args.requested
