use Rattle.std.proofs.Common.{length}
use Rattle.pool_images.specs.Slots.{Slot}
use Rattle.pool_images.proofs.Making.{reach_slot}
use Rattle.pool_images.proofs.image_slot.MemoryImageSlot.read.Goals as goal

pub read-requires-clause-reachable : goal.read-requires-clause-reachable
read-requires-clause-reachable g c =
    let i = c.self.inside in
    let s : Slot = record { region = i.region; base = i.base; accessible = i.accessible; static_size = i.static_size; image = i.image; dirty = i.dirty; colour = i.colour } in
    rw c.byte_count.ensures.value (reach_slot s c.args.at (length c.args.out.now) c.self.invariant.fits (rw (← c.self.view_is) at c.requires.ready) (rw (← c.self.view_is) at c.requires.inside))
