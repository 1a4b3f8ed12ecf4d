use Rattle.std.proofs.Common.{◌≡◌, drop}
use Rattle.pool_alloc.specs.Refusals.{first_refused, memory_refused}
use Rattle.pool_alloc.proofs.memory_pool.rules.slots_refused.Given as goal

abbrev pub invariant-loop-decl : goal.invariant-loop-decl
invariant-loop-decl l = first_refused (λ d. memory_refused l.settings d.ty) (drop l.decl-index l.decls) ≡ first_refused (λ d. memory_refused l.settings d.ty) l.decls
