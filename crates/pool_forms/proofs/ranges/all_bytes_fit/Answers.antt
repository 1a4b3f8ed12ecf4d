use Rattle.std.proofs.Common.{◌∙◌}
use Rattle.pool_forms.specs.Ranges.{byte_fits}
use Rattle.pool_forms.proofs.Items.{all_viewed}
use Rattle.pool_forms.proofs.ranges.all_bytes_fit.Goals as goal

pub returns : goal.returns
returns c = c.each_byte_fits.ensures ∙ all_viewed byte_fits c.args.commands.now
