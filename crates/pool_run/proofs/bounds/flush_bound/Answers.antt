use Rattle.std.proofs.Common.{◌≡◌, ◌++◌, sym, ap, ◌∙◌, arith}
use Rattle.pool_alloc.specs.StepBounds.{all_shards}
use Rattle.pool_run.proofs.Imports.{told_weaker}
use Rattle.pool_run.proofs.BoundsFound.{all_append}
use Rattle.pool_run.proofs.bounds.flush_bound.Goals as goal

pub returns : goal.returns
returns c =
    let plan = c.args.plan.now in
    told_weaker _ _ c.add_shards-3.result
    (λ n is.
    omega (
      arith,
      is,
      c.in_ok-tables.ensures,
      c.in_ok-memories.ensures,
      ap all_shards c.as_slice.ensures,
      ap all_shards c.as_slice-2.ensures,
      ap all_shards c.as_slice-3.ensures,
      all_append plan.memories (plan.tables ++ plan.stacks),
      all_append plan.tables plan.stacks,
    ))
    c.add_shards-3.ensures
