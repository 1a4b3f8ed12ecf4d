use Rattle.std.proofs.lemmas.Result.{on_err_weaker}
use Rattle.pool_slots.proofs.ByHand.{left_plain}
use Rattle.pool_slots.proofs.queued_slot.decommit_plain.Goals as goal

pub returns-clause-err : goal.returns-clause-err
returns-clause-err g c =
    on_err_weaker c.decommit_from.result
    (λ e. left_plain c.args.range c.args.base.bytes c.args.region.now c.decommit_from.new.region c.requires.fits c.requires.part e c.decommit_from.ensures.shaped) c.decommit_from.ensures.fault
