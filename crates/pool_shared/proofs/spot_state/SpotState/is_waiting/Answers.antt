use Rattle.std.proofs.Common.{◌∙◌, ap, sym}
use Rattle.std.specs.Option.{is_some}
use Rattle.pool_shared.specs.Spot.{is_waiting}
use Rattle.pool_shared.proofs.Tickets.{waits_by_ticket}
use Rattle.pool_shared.proofs.spot_state.SpotState.is_waiting.Goals as goal

pub returns-clause-value : goal.returns-clause-value
returns-clause-value c =
    c.contains_key.ensures ∙ (ap is_some (c.self.invariant.by_waiter c.args.waiter) ∙ (sym (waits_by_ticket c.args.waiter c.self.inside.waits.entries) ∙ ap (is_waiting c.args.waiter) c.self.view_is))
