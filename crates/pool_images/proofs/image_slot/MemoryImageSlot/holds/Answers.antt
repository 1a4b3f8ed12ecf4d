use Rattle.std.proofs.Common.{length}
use Rattle.pool_images.specs.Slots.{Slot}
use Rattle.pool_images.proofs.Making.{reach_slot}
use Rattle.pool_images.proofs.image_slot.MemoryImageSlot.holds.Goals as goal

pub holds-requires-clause-reachable : goal.holds-requires-clause-reachable
holds-requires-clause-reachable g c =
    let i = c.self.inside in
    let s : Slot = record { region = i.region; base = i.base; accessible = i.accessible; static_size = i.static_size; image = i.image; dirty = i.dirty; colour = i.colour } in
    rw c.byte_count.ensures.value (reach_slot s c.args.at (length c.args.bytes.now) c.self.invariant.fits (rw (← c.self.view_is) at c.requires.ready) (rw (← c.self.view_is) at c.requires.inside))
