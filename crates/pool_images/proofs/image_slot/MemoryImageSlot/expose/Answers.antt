use Rattle.pool_images.specs.Slots.{Slot}
use Rattle.pool_images.proofs.Fitting.{keeps_exposed}
use Rattle.pool_images.proofs.image_slot.MemoryImageSlot.expose.Goals as goal

pub invariant_of-self : goal.invariant_of-self
invariant_of-self g c =
    let i = c.self.inside in
    let s : Slot = record { region = i.region; base = i.base; accessible = i.accessible; static_size = i.static_size; image = i.image; dirty = i.dirty; colour = i.colour } in
    keeps_exposed i.size s c.unchecked_add-from.result c.expose.new.self c.expose.result c.args.start.bytes c.args.len.bytes
    c.self.invariant c.unchecked_add-from.ensures (rw (← c.self.view_is) at c.requires.inside) c.expose.ensures.ok c.expose.ensures.fault c.expose.ensures.shaped
