use Rattle.std.proofs.Common.{◌+◌, if◌then◌else◌, ◌∙◌}
use Rattle.pool_checks.proofs.Imports.{Memory, one_if, same, times, pick_unit, none_left}
use Rattle.pool_checks.proofs.hall_tests.turn.Goals as goal

pub returns-then-not-pick-clause-none : goal.returns-then-not-pick-clause-none
returns-then-not-pick-clause-none g c =
    none_left _ (λ u. c.pick.ensures.units u ∙ (λ i. times u (c.requires.none i) + (if c.if-not-pick.true i then one_if (same u (pick_unit Memory c.args.place)) else 0)))
