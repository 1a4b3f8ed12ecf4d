use Rattle.std.proofs.Common.{refl, false}
use Rattle.pool_memory.specs.Linear.{no_slot as no_image_slot}
use Rattle.pool_alloc.proofs.purge.steps.forgotten.Goals as goal

pub returns-in-Unmapped : goal.returns-in-Unmapped
returns-in-Unmapped g c = rw c.in-Unmapped.is (false, no_image_slot, refl, tt, refl)
