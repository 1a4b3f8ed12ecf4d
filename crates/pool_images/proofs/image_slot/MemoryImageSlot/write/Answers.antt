use Rattle.std.proofs.Common.{◌≡◌, ◌+◌, length, sym, subst, true, IfSome}
use Rattle.pool_pages.specs.Told.{Told, TellsShaped, overwritten}
use Rattle.pool_images.specs.Slots.{Slot, Keeps, IsReady}
use Rattle.pool_images.proofs.Making.{reach_slot, written_keeps, written_ready}
use Rattle.pool_images.proofs.image_slot.MemoryImageSlot.write.Goals as goal

pub write-requires-clause-reachable : goal.write-requires-clause-reachable
write-requires-clause-reachable g c =
    let i = c.self.inside in
    let s : Slot = record { region = i.region; base = i.base; accessible = i.accessible; static_size = i.static_size; image = i.image; dirty = i.dirty; colour = i.colour } in
    rw c.byte_count.ensures.value (reach_slot s c.args.at (length c.args.bytes.now) c.self.invariant.fits (rw (← c.self.view_is) at c.requires.ready) (rw (← c.self.view_is) at c.requires.inside))

pub invariant_of-self : goal.invariant_of-self
invariant_of-self g c =
    let i = c.self.inside in
    let s : Slot = record { region = i.region; base = i.base; accessible = i.accessible; static_size = i.static_size; image = i.image; dirty = i.dirty; colour = i.colour } in
    let new : c.write.new.self ≡ overwritten (i.base.bytes + c.args.at) c.args.bytes.now i.region = rw c.byte_count.ensures.value at c.write.ensures.written in
    let P : Told → Type 0 = λ t. Keeps i.size (record { region = t; base = i.base; accessible = i.accessible; static_size = i.static_size; image = i.image; dirty = true; colour = i.colour }) in
    let Q : Told → Type 0 = λ t. TellsShaped t in
    subst P (sym new) (written_keeps i.size s c.args.at c.args.bytes.now c.self.invariant (subst Q new c.write.ensures.shaped))

pub returns-clause-ready : goal.returns-clause-ready
returns-clause-ready g c =
    let i = c.self.inside in
    let s : Slot = record { region = i.region; base = i.base; accessible = i.accessible; static_size = i.static_size; image = i.image; dirty = i.dirty; colour = i.colour } in
    let new : c.write.new.self ≡ overwritten (i.base.bytes + c.args.at) c.args.bytes.now i.region = rw c.byte_count.ensures.value at c.write.ensures.written in
    let P : Told → Type 0 = λ t. IfSome t.contents (IsReady (record { region = t; base = i.base; accessible = i.accessible; static_size = i.static_size; image = i.image; dirty = true; colour = i.colour })) in
    subst P (sym new) (written_ready s c.args.at c.args.bytes.now c.self.invariant.fits (rw (← c.self.view_is) at c.requires.ready) (rw (← c.self.view_is) at c.requires.inside))
