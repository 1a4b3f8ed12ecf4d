use Rattle.pool_images.specs.Slots.{Slot}
use Rattle.pool_images.proofs.Fitting.{keeps_remapped}
use Rattle.pool_images.proofs.image_slot.MemoryImageSlot.remap_zeros.Goals as goal

pub invariant_of-self : goal.invariant_of-self
invariant_of-self g c =
    let i = c.self.inside in
    let s : Slot = record { region = i.region; base = i.base; accessible = i.accessible; static_size = i.static_size; image = i.image; dirty = i.dirty; colour = i.colour } in
    keeps_remapped i.size s c.unchecked_add-from.result c.remap_zeros.new.self c.remap_zeros.result c.args.start.bytes c.args.len.bytes
    c.self.invariant c.unchecked_add-from.ensures (rw (← c.self.view_is) at c.requires.inside) c.remap_zeros.ensures.ok c.remap_zeros.ensures.fault c.remap_zeros.ensures.shaped
