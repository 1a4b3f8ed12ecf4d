use Rattle.std.proofs.lemmas.Result.{on_ok_weaker}
use Rattle.pool_view_summary.specs.CountsText.{fault_causes_text}
use Rattle.pool_view_summary.proofs.Joining.{three}
use Rattle.pool_view_summary.proofs.counts_text.push_fault_causes.Goals as goal

pub returns : goal.returns
unfolding fault_causes_text
returns c = on_ok_weaker c.push_cause-3.result (λ e. three _ _ _ _ _ _ _ c.in_ok-push_cause.ensures c.in_ok-push_cause-2.ensures e) c.push_cause-3.ensures
