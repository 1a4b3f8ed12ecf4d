use Rattle.std.proofs.Common.{◌≡◌, false, sym, subst}
use Rattle.pool_pages.specs.Told.{Told, TellsShaped, restored}
use Rattle.pool_images.specs.Slots.{Slot, Keeps}
use Rattle.pool_images.proofs.Backs.{reach_first, tells_shaped, cleared_keeps}
use Rattle.pool_images.proofs.image_slot.MemoryImageSlot.clear.Goals as goal

pub restore-requires-clause-reachable : goal.restore-requires-clause-reachable
restore-requires-clause-reachable g c =
    let i = c.self.inside in
    let s : Slot = record { region = i.region; base = i.base; accessible = i.accessible; static_size = i.static_size; image = i.image; dirty = i.dirty; colour = i.colour } in
    rw c.byte_count-from.ensures.value (reach_first s c.args.kept c.self.invariant.fits (rw (← c.self.view_is) at c.requires.ready) (rw (← c.self.view_is) at c.requires.within))

pub restore-requires-clause-shaped : goal.restore-requires-clause-shaped
restore-requires-clause-shaped g c =
    let i = c.self.inside in
    let s : Slot = record { region = i.region; base = i.base; accessible = i.accessible; static_size = i.static_size; image = i.image; dirty = i.dirty; colour = i.colour } in
    tells_shaped s c.self.invariant.fits

pub invariant_of-self : goal.invariant_of-self
invariant_of-self g c =
    let i = c.self.inside in
    let s : Slot = record { region = i.region; base = i.base; accessible = i.accessible; static_size = i.static_size; image = i.image; dirty = i.dirty; colour = i.colour } in
    let new : c.restore.new.region ≡ restored i.base.bytes c.args.kept i.region = rw c.byte_count-from.ensures.value at c.restore.ensures.value in
    let P : Told → Type 0 = λ t. Keeps i.size (record { region = t; base = i.base; accessible = i.accessible; static_size = i.static_size; image = i.image; dirty = false; colour = i.colour }) in
    let Q : Told → Type 0 = λ t. TellsShaped t in
    subst P (sym new) (cleared_keeps i.size s c.args.kept c.self.invariant (subst Q new c.restore.ensures.shaped))

pub returns-clause-fits : goal.returns-clause-fits
returns-clause-fits g c = (invariant_of-self g c).fits
