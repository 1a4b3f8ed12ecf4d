use Rattle.std.proofs.Common.{◌≡◌, subst}
use Rattle.std.specs.Result.{IfOk}
use Rattle.pool_pages.proofs.SortedFaults.{calls_by_number}
use Rattle.pool_pages.proofs.fault_index.calls_in.Goals as goal

pub returns : goal.returns
returns c =
    subst (λ xs. IfOk c.calls_on.result (λ calls. calls ≡ xs))
    (calls_by_number c.args.name c.with_number.result.now c.args.sorted.now (rw c.number_of.ensures at c.with_number.ensures))
    c.calls_on.ensures
