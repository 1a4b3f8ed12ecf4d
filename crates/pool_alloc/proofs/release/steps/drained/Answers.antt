use Rattle.std.proofs.Common.{refl, subst}
use Rattle.pool_alloc.proofs.Imports.{no_image_slot, ImageSlot}
use Rattle.pool_alloc.specs.CanStep.{CanDrain}
use Rattle.pool_alloc.proofs.release.steps.drained.Goals as goal

pub returns-in-Unmapped : goal.returns-in-Unmapped
returns-in-Unmapped g c = rw c.in-Unmapped.is (no_image_slot, refl, tt, refl)

pub returns-in-Unknown : goal.returns-in-Unknown
returns-in-Unknown g c = rw c.in-Unknown.is (c.drained_slot-fault.result.1, c.drained_slot-fault.ensures.told, c.drained_slot-fault.ensures.order, refl)

pub returns-in-PreviouslyUsed : goal.returns-in-PreviouslyUsed
returns-in-PreviouslyUsed g c =
    let can = subst (λ (h : ImageSlot _). CanDrain c.args.settings.now h) c.in-PreviouslyUsed.is c.requires.can in
    rw c.in-PreviouslyUsed.is (c.drained_slot-fault-in-PreviouslyUsed.result.1, (c.drained_slot-fault-in-PreviouslyUsed.ensures.told, c.drained_slot-fault-in-PreviouslyUsed.ensures.clean can.1), c.drained_slot-fault-in-PreviouslyUsed.ensures.order, refl)
