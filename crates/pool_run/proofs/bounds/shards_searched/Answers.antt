use Rattle.std.proofs.Common.{◌≡◌, ◌++◌, sym, ap, ◌∙◌, arith}
use Rattle.pool_alloc.specs.StepBounds.{most_shards}
use Rattle.pool_run.proofs.BoundsFound.{most_append}
use Rattle.pool_run.proofs.bounds.shards_searched.Goals as goal

pub returns : goal.returns
returns c =
    let plan = c.args.plan.now in
    omega (
      arith,
      c.most_shards-memories.ensures,
      ap most_shards c.as_slice.ensures,
      c.most_shards-tables.ensures,
      ap most_shards c.as_slice-2.ensures,
      c.most_shards-stacks.ensures,
      ap most_shards c.as_slice-3.ensures,
      c.most_shards.ensures,
      ap most_shards c.as_slice-4.ensures,
      most_append (plan.memories ++ (plan.tables ++ plan.stacks)) plan.heaps,
      most_append plan.memories (plan.tables ++ plan.stacks),
      most_append plan.tables plan.stacks,
    )
