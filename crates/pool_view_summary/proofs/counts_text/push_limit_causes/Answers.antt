use Rattle.std.proofs.lemmas.Result.{on_ok_weaker}
use Rattle.pool_view_summary.specs.CountsText.{limit_causes_text}
use Rattle.pool_view_summary.proofs.Joining.{four}
use Rattle.pool_view_summary.proofs.counts_text.push_limit_causes.Goals as goal

pub returns : goal.returns
unfolding limit_causes_text
returns c = on_ok_weaker c.push_cause-4.result (λ e. four _ _ _ _ _ _ _ _ _ c.in_ok-push_cause.ensures c.in_ok-push_cause-2.ensures c.in_ok-push_cause-3.ensures e) c.push_cause-4.ensures
