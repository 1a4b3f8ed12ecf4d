use Rattle.std.proofs.Common.{◌≡◌, drop}
use Rattle.pool_types.specs.MemoryTypes.{refused_limits}
use Rattle.pool_alloc.specs.Refusals.{first_refused}
use Rattle.pool_alloc.proofs.table_pool.rules.table_limits_refused.Given as goal

abbrev pub invariant-loop-ty : goal.invariant-loop-ty
invariant-loop-ty l = first_refused (λ ty. refused_limits ty.limits) (drop l.ty-index l.tables) ≡ first_refused (λ ty. refused_limits ty.limits) l.tables
