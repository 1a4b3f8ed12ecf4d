use Rattle.std.proofs.Common.{◌≡◌, drop}
use Rattle.pool_alloc.specs.Refusals.{first_refused}
use Rattle.pool_on_demand.specs.Refusals.{shared_refused}
use Rattle.pool_on_demand.proofs.validate.sharing_refused.Given as goal

abbrev pub invariant-loop-decl : goal.invariant-loop-decl
invariant-loop-decl l = first_refused (λ d. shared_refused d.ty) (drop l.decl-index l.decls) ≡ first_refused (λ d. shared_refused d.ty) l.decls
