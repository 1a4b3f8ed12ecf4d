use Rattle.pool_pages.proofs.ListedCalls.{joined_failures}
use Rattle.pool_pages.proofs.failing.FailingPages.len.Goals as goal

pub returns-clause-failures : goal.returns-clause-failures
returns-clause-failures g c =
    let state = c.args.self.now.state.value in
    let region = g.R.Pages.told state.region in
    joined_failures region.plan state.calls.listed region.made state.calls.counts.made region.faults state.calls.counts.refused
    (rw c.deref-2.ensures at c.len.ensures.failures)
    (rw c.deref.ensures at c.bounded.ensures)
