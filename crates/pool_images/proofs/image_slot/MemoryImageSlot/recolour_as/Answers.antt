use Rattle.pool_images.specs.Slots.{Slot}
use Rattle.pool_images.proofs.Fitting.{keeps_recoloured}
use Rattle.pool_images.proofs.image_slot.MemoryImageSlot.recolour_as.Goals as goal

pub invariant_of-self : goal.invariant_of-self
invariant_of-self g c =
    let i = c.self.inside in
    let s : Slot = record { region = i.region; base = i.base; accessible = i.accessible; static_size = i.static_size; image = i.image; dirty = i.dirty; colour = i.colour } in
    keeps_recoloured i.size s c.unchecked_add-from.result c.recolour.new.self c.recolour.result c.args.start.bytes c.args.len.bytes c.args.colour
    c.self.invariant c.unchecked_add-from.ensures (rw (← c.self.view_is) at c.requires.inside) c.recolour.ensures.ok c.recolour.ensures.fault c.recolour.ensures.shaped
