use Rattle.std.proofs.lemmas.Result.{on_err_weaker}
use Rattle.pool_slots.proofs.ByHand.{left_image}
use Rattle.pool_slots.proofs.queued_slot.decommit_image.Goals as goal

pub returns-clause-err : goal.returns-clause-err
returns-clause-err g c =
    on_err_weaker c.decommit_in_slot.result
    (λ e. left_image c.args.range c.args.slot.now c.decommit_in_slot.new.slot c.decommit_in_slot.ensures.fits c.requires e) c.decommit_in_slot.ensures.fault
