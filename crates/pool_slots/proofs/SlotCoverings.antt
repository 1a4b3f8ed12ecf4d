-- Nothing of a known slot in a queue is forgotten.
use Rattle.std.proofs.Common.{◌≡◌, true}
use Rattle.pool_slots.specs.SlotQueues.{Queue, ranges_of, LeavesClean, IsQueue, IsCovered, ForgetsNothing}
use Rattle.pool_slots.proofs.Coverings.{covered_of}
use Rattle.pool_slots.proofs.Lists.{each_weaker}

pub forgets_nothing : (q : Queue) → IsQueue q → ForgetsNothing q
forgets_nothing q is =
    each_weaker (LeavesClean q.ranges) (λ m. m.known ≡ true → IsCovered q.ranges m) q.slots
    (λ m c known. covered_of (ranges_of m.name q.ranges) m.slot c.fits c.parts (c.clean known)) is.each
