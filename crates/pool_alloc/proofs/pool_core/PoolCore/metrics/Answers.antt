use Rattle.std.proofs.Common.{arith}
use Rattle.pool_alloc.proofs.Imports.{memory_kind, table_kind, stack_kind, heap_kind}
use Rattle.pool_alloc.specs.Places.{only, counted_instance, counted_component, counted_object}
use Rattle.pool_alloc.proofs.Weights.{counted_grants}
use Rattle.pool_alloc.proofs.pool_core.PoolCore.metrics.Goals as goal

pub returns-clause-grants : goal.returns-clause-grants
returns-clause-grants g c = λ grants whole.
    let counts = counted_grants c.args.self.now grants whole in
    record {
      instances = omega (arith, counts (only counted_instance));
      components = omega (arith, counts (only counted_component));
      memories = omega (arith, counts (only (counted_object memory_kind)));
      tables = omega (arith, counts (only (counted_object table_kind)));
      stacks = omega (arith, counts (only (counted_object stack_kind)));
      heaps = omega (arith, counts (only (counted_object heap_kind)));
    }
