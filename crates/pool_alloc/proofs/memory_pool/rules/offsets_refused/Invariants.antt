use Rattle.std.proofs.Common.{◌≡◌, drop}
use Rattle.pool_alloc.specs.Refusals.{first_refused, offset_refused}
use Rattle.pool_alloc.proofs.memory_pool.rules.offsets_refused.Given as goal

abbrev pub invariant-loop-decl : goal.invariant-loop-decl
invariant-loop-decl l = first_refused (λ d. offset_refused l.page d.image) (drop l.decl-index l.decls) ≡ first_refused (λ d. offset_refused l.page d.image) l.decls
