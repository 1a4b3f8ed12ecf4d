use Rattle.std.proofs.Common.{◌<◌, length, take, ap, ◌∙◌, arith}
use Rattle.pool_alloc.proofs.Imports.{PageCalls, slot_of, added}
use Rattle.pool_alloc.specs.Leases.{Lease}
use Rattle.pool_alloc.specs.PoolTotals.{calls_of_leases}
use Rattle.pool_alloc.proofs.PoolTotals.{leases_more}
use Rattle.pool_alloc.proofs.leases.instance.calls_of.Goals as goal

pub loop-at-preserved : goal.loop-at-preserved
loop-at-preserved g c =
    let xs = c.args.leases.now.items in
    let i = c.loop-at.at in
    let inside : i < length xs = omega (arith, c.loop-at.invariant.all, c.loop-at-test.true) in
    record {
      calls =
          c.plus-calls.ensures
          ∙ ap (λ (a : PageCalls). added a c.page_calls.result) c.loop-at.invariant.calls
          ∙ ap (λ (b : PageCalls). added (calls_of_leases (take i xs)) b) (c.page_calls.ensures ∙ ap (λ (l : Lease). (slot_of l.memory).region.calls) c.get.ensures)
          ∙ leases_more xs i c.get.result.now inside;
      all = c.loop-at.invariant.all;
    }
