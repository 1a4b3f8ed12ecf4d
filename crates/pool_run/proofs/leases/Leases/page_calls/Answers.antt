use Rattle.std.proofs.Common.{List, Option, sym, ap, ◌∙◌, arith, fold}
use Rattle.pool_run.proofs.Imports.{at_drop_all, Grant, PlainHeap}
use Rattle.pool_run.specs.Numbers.{with_grant}
use Rattle.pool_run.proofs.leases.Leases.page_calls.Goals as goal

pub returns : goal.returns
returns g c =
    let xs : List (Option (Grant g.row.P.Denot PlainHeap)) = c.deref-place-items.result.now in
    rw (← c.self.view_is)
    (sym (at_drop_all (fold with_grant c.loop-place.total) xs c.loop-place.place-index (omega (arith, c.loop-place-test.false)))
    ∙ c.loop-place.invariant
    ∙ ap (λ (ys : List (Option (Grant g.row.P.Denot PlainHeap))). fold with_grant c.args.calls ys) c.deref-place-items.ensures.value)
