use Rattle.std.proofs.Common.{◌≡◌, ◌++◌, List, refl, sym, subst, ◌∙◌}
use Rattle.pool_slots.proofs.Imports.{AllByRecursion, IfOk-weaker, Table, Stack, Heap}
use Rattle.pool_hall.specs.declared.unit_name.SlotKind.TheVariants.{Memory}
use Rattle.pool_slots.specs.PartsMade.{HaveNumbers, shard_parts}
use Rattle.pool_slots.specs.declared.plan.Allocator.{Allocator}
use Rattle.pool_slots.specs.declared.plan.Plan.{Plan}
use Rattle.pool_slots.proofs.part_maker.make_shards.Goals as goal

pub returns-clause-made : goal.returns-clause-made
returns-clause-made g c =
    let plan : Plan = c.args.plan.now in
    let all : c.in_ok-parts-3.parts.items ++ shard_parts c.args.warm c.as_slice-4.result.now ≡ ((shard_parts c.args.warm plan.memories ++ shard_parts c.args.warm plan.tables) ++ shard_parts c.args.warm plan.stacks) ++ shard_parts c.args.warm plan.heaps =
    rw (c.in_ok-parts-3.ensures.made, c.in_ok-parts-2.ensures.made, c.in_ok-parts.ensures.made, c.as_slice-4.ensures, c.as_slice-3.ensures, c.as_slice-2.ensures, c.as_slice.ensures, c.new-parts.ensures.items) refl in
    IfOk-weaker c.with_shards-4.result (λ v. v.items ≡ c.in_ok-parts-3.parts.items ++ shard_parts c.args.warm c.as_slice-4.result.now)
    (λ v. v.items ≡ ((shard_parts c.args.warm plan.memories ++ shard_parts c.args.warm plan.tables) ++ shard_parts c.args.warm plan.stacks) ++ shard_parts c.args.warm plan.heaps)
    (λ v is. is ∙ all) c.with_shards-4.ensures.made

pub with_shards-requires : goal.with_shards-requires
with_shards-requires g c = subst (λ (l : List Allocator). AllByRecursion HaveNumbers l) (sym c.as_slice.ensures) (c.requires.fit Memory)

pub with_shards-requires-2 : goal.with_shards-requires-2
with_shards-requires-2 g c = subst (λ (l : List Allocator). AllByRecursion HaveNumbers l) (sym c.as_slice-2.ensures) (c.requires.fit Table)

pub with_shards-requires-3 : goal.with_shards-requires-3
with_shards-requires-3 g c = subst (λ (l : List Allocator). AllByRecursion HaveNumbers l) (sym c.as_slice-3.ensures) (c.requires.fit Stack)

pub with_shards-requires-4 : goal.with_shards-requires-4
with_shards-requires-4 g c = subst (λ (l : List Allocator). AllByRecursion HaveNumbers l) (sym c.as_slice-4.ensures) (c.requires.fit Heap)
