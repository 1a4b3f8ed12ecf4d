use Rattle.std.proofs.Common.{◌≡◌, ◌<◌, ◌+◌, ◌++◌, length, take, map, refl, sym, ap, ◌∙◌, arith}
use Rattle.std.specs.List.{range_with_len}
use Rattle.pool_slots.specs.PartsMade.{shard_part, shard_parts}
use Rattle.pool_slots.specs.declared.plan.Allocator.{Allocator}
use Rattle.pool_slots.proofs.PartsMade.{allocator_behind, numbers_at}
use Rattle.pool_slots.proofs.part_maker.with_shards.Goals as goal

pub with_shards_of-requires : goal.with_shards_of-requires
with_shards_of-requires g c =
    let inside : c.loop-at.at < length c.args.allocators.now = omega (arith, c.loop-at-test.true, c.loop-at.invariant.all) in
    numbers_at c.args.allocators.now c.allocator_at-allocator.result c.loop-at.at inside c.allocator_at-allocator.ensures c.requires

pub loop-at-preserved : goal.loop-at-preserved
loop-at-preserved g c =
    let inside : c.loop-at.at < length c.args.allocators.now = omega (arith, c.loop-at-test.true, c.loop-at.invariant.all) in
    let a : Allocator = c.allocator_at-allocator.result in
    record {
      made =
          c.in_ok-parts.ensures.made ∙ ap (λ l. l ++ map (shard_part c.args.warm a) (range_with_len 0 a.shards)) c.loop-at.invariant.made
          ∙ sym (allocator_behind c.args.warm c.args.allocators.now a c.args.parts.items c.loop-at.at inside c.allocator_at-allocator.ensures);
      all = refl;
    }
