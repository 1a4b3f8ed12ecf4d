use Rattle.std.proofs.Common.{◌<◌, length, take, ap, ◌∙◌, arith}
use Rattle.pool_alloc.proofs.Imports.{PageCalls, added}
use Rattle.pool_alloc.specs.PoolTotals.{calls_of_tables, table_calls}
use Rattle.pool_alloc.proofs.PoolTotals.{tables_more}
use Rattle.pool_alloc.proofs.leases.instance.calls_of_tables.Goals as goal

pub loop-at-preserved : goal.loop-at-preserved
loop-at-preserved g c =
    let xs = c.args.leases.now.items in
    let i = c.loop-at.at in
    let inside : i < length xs = omega (arith, c.loop-at.invariant.all, c.loop-at-test.true) in
    record {
      calls =
          c.plus-calls.ensures
          ∙ ap (λ (a : PageCalls). added a c.page_calls.result) c.loop-at.invariant.calls
          ∙ ap (λ (b : PageCalls). added (calls_of_tables (take i xs)) b) (c.page_calls.ensures ∙ ap table_calls c.get.ensures)
          ∙ tables_more xs i c.get.result.now inside;
      all = c.loop-at.invariant.all;
    }
