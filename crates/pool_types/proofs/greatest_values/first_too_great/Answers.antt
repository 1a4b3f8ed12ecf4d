use Rattle.std.proofs.Common.{◌∙◌, sym, ap, option_map}
use Rattle.pool_types.specs.ConfigLimits.{too_great}
use Rattle.pool_types.proofs.greatest_values.first_too_great.Goals as goal

pub returns-in-Some : goal.returns-in-Some
returns-in-Some c = rw c.greatest.ensures (ap (option_map too_great) (sym c.in-Some.is ∙ rw c.limited_values.ensures at c.first_exceeded.ensures))

pub returns-in-None : goal.returns-in-None
returns-in-None c = ap (option_map too_great) (sym c.in-None.is ∙ rw c.limited_values.ensures at c.first_exceeded.ensures)
