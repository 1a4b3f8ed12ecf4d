use Rattle.std.proofs.Common.{◌∙◌}
use Rattle.pool_forms.specs.Ranges.{bytes_fit}
use Rattle.pool_forms.proofs.Items.{all_viewed}
use Rattle.pool_forms.proofs.ranges.all_parties_fit.Goals as goal

pub returns : goal.returns
returns c = c.each_party_fits.ensures ∙ all_viewed bytes_fit c.args.parties.now
