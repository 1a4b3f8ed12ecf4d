use Rattle.std.proofs.Common.{◌∙◌}
use Rattle.pool_forms.specs.SharedForms.{event_fits}
use Rattle.pool_forms.proofs.Items.{all_viewed}
use Rattle.pool_forms.proofs.shared_input.all_events_fit.Goals as goal

pub returns : goal.returns
returns c = c.each_event_fits.ensures ∙ all_viewed event_fits c.args.events.now
