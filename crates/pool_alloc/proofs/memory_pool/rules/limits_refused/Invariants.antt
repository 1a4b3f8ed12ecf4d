use Rattle.std.proofs.Common.{◌≡◌, drop}
use Rattle.pool_types.specs.MemoryTypes.{refused_limits}
use Rattle.pool_alloc.specs.Refusals.{first_refused}
use Rattle.pool_alloc.proofs.memory_pool.rules.limits_refused.Given as goal

abbrev pub invariant-loop-decl : goal.invariant-loop-decl
invariant-loop-decl l = first_refused (λ d. refused_limits d.ty.limits) (drop l.decl-index l.decls) ≡ first_refused (λ d. refused_limits d.ty.limits) l.decls
