use Rattle.pool_view_summary.specs.CostsText.{picks_line}
use Rattle.pool_view_summary.proofs.costs_text.push_picks.Goals as goal

pub returns : goal.returns
unfolding picks_line
returns c = c.write.ensures.bytes
