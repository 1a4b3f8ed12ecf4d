use Rattle.pool_images.specs.Slots.{Slot}
use Rattle.pool_images.proofs.Fitting.{keeps_hidden}
use Rattle.pool_images.proofs.image_slot.MemoryImageSlot.hide.Goals as goal

pub invariant_of-self : goal.invariant_of-self
invariant_of-self g c =
    let i = c.self.inside in
    let s : Slot = record { region = i.region; base = i.base; accessible = i.accessible; static_size = i.static_size; image = i.image; dirty = i.dirty; colour = i.colour } in
    keeps_hidden i.size s c.unchecked_add-from.result c.hide.new.self c.hide.result c.args.start.bytes c.args.len.bytes
    c.self.invariant c.unchecked_add-from.ensures (rw (← c.self.view_is) at c.requires.inside) c.hide.ensures.ok c.hide.ensures.fault c.hide.ensures.shaped
