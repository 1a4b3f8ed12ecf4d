use Rattle.std.proofs.Common.{sym, ◌∙◌}
use Rattle.pool_view.proofs.Saying.{never_ok}
use Rattle.pool_view.proofs.answer.answer_of.Goals as goal

pub returns-clause-other : goal.returns-clause-other
returns-clause-other c same = never_ok c.place_of.result.now c.as_str.result.now (sym c.in_ok-text.ensures ∙ same)
