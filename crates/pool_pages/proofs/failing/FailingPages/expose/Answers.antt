use Rattle.std.proofs.Common.{is_ok, sym}
use Rattle.pool_pages.proofs.FailingCalls.{refused_planned, passed_planned}
use Rattle.pool_pages.proofs.failing.FailingPages.expose.Goals as goal

pub returns-then-not-lets_through-clause-planned : goal.returns-then-not-lets_through-clause-planned
returns-then-not-lets_through-clause-planned g c =
    let region = g.R.Pages.told c.args.self.now.state.value.region in
    refused_planned region.plan c.args.self.now.state.value.calls.listed region.made c.args.self.now.state.value.calls.counts.made c.args.len.bytes
    (sym (rw c.byte_count-bytes.ensures.value at c.if-not-lets_through.ensures))

pub returns-clause-planned : goal.returns-clause-planned
returns-clause-planned g c =
    let region = g.R.Pages.told c.args.self.now.state.value.region in
    passed_planned (is_ok c.expose-made.result) region.plan c.args.self.now.state.value.calls.listed region.made c.args.self.now.state.value.calls.counts.made c.args.len.bytes
    (sym (rw c.byte_count-bytes.ensures.value at c.if-not-lets_through.ensures))
    (rw c.deref_mut.ensures.value at c.expose-made.ensures.planned)
