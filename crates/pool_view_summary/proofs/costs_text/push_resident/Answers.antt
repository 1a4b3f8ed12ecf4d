use Rattle.pool_view_summary.specs.CostsText.{resident_line}
use Rattle.pool_view_summary.proofs.costs_text.push_resident.Goals as goal

pub returns : goal.returns
unfolding resident_line
returns c = c.write.ensures.bytes
