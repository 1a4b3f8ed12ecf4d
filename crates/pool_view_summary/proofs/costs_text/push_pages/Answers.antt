use Rattle.std.proofs.Common.{ap, ◌∙◌, List, ℕ}
use Rattle.std.proofs.lemmas.Result.{on_ok_weaker}
use Rattle.pool_view_summary.specs.CostsText.{pages_line, pages_text}
use Rattle.pool_view_summary.proofs.Joining.{pages_added}
use Rattle.pool_view_summary.proofs.costs_text.push_pages.Goals as goal

pub returns : goal.returns
unfolding pages_text
returns c = on_ok_weaker c.push_pages_line-2.result (λ e. pages_added c.args.kinds.now c.args.calls.now c.calls.result c.calls_since-others.result _ _ _ _ c.calls.ensures c.calls_since-others.ensures c.in_ok-push_pages_line.ensures e) c.push_pages_line-2.ensures
