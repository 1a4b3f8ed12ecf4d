use Rattle.std.proofs.Common.{◌≡◌, length, ap, ◌∙◌, sym, subst, arith, List, [], All}
use Rattle.pool_hall.specs.Meaning.{AllFresh}
use Rattle.pool_index.specs.Shard.{ShardState, IsShard}
use Rattle.pool_index.specs.Part.{shard_meaning}
use Rattle.pool_index.proofs.Owners.{made_length}
use Rattle.pool_index.proofs.Freshness.{all_fresh}
use Rattle.pool_index.proofs.allocator.ModuleAffinityIndexAllocator.new.Goals as goal

pub new-requires-2-clause-few : goal.new-requires-2-clause-few
new-requires-2-clause-few c =
    let e = ap length c.in_ok-parts.ensures.made ∙ made_length _ _ _ (omega arith) in
    omega (arith, c.in_ok-parts.parts.ok.0)

pub new-requires-2-clause-fresh : goal.new-requires-2-clause-fresh
new-requires-2-clause-fresh c =
    let made = c.in_ok-parts.ensures.made in
    subst (λ (l : List ShardState). AllFresh shard_meaning l c.new.result.items) (sym made) (all_fresh _ _ _ (omega arith) c.new.result.items (subst (All IsShard) made c.in_ok-parts.ensures.sound))
