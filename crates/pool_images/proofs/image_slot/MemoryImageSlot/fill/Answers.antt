use Rattle.std.proofs.Common.{◌≡◌, ℕ, ◌+◌, ◌≤◌, List, replicate, sym, subst, true, arith, IfSome}
use Rattle.pool_images.proofs.Imports.{length-replicate, Told, TellsShaped, overwritten}
use Rattle.pool_images.specs.Slots.{Slot, Keeps, IsReady}
use Rattle.pool_images.proofs.Making.{reach_slot, written_keeps, written_ready}
use Rattle.pool_images.proofs.image_slot.MemoryImageSlot.fill.Goals as goal

pub fill-requires-clause-reachable : goal.fill-requires-clause-reachable
fill-requires-clause-reachable g c =
    let i = c.self.inside in
    let s : Slot = record { region = i.region; base = i.base; accessible = i.accessible; static_size = i.static_size; image = i.image; dirty = i.dirty; colour = i.colour } in
    rw c.byte_count.ensures.value (reach_slot s c.args.at c.args.len c.self.invariant.fits (rw (← c.self.view_is) at c.requires.ready) (rw (← c.self.view_is) at c.requires.inside))

pub invariant_of-self : goal.invariant_of-self
invariant_of-self g c =
    let i = c.self.inside in
    let s : Slot = record { region = i.region; base = i.base; accessible = i.accessible; static_size = i.static_size; image = i.image; dirty = i.dirty; colour = i.colour } in
    let bytes : List ℕ = replicate c.args.len c.args.byte in
    let new : c.fill.new.self ≡ overwritten (i.base.bytes + c.args.at) bytes i.region = rw c.byte_count.ensures.value at c.fill.ensures.written in
    let P : Told → Type 0 = λ t. Keeps i.size (record { region = t; base = i.base; accessible = i.accessible; static_size = i.static_size; image = i.image; dirty = true; colour = i.colour }) in
    let Q : Told → Type 0 = λ t. TellsShaped t in
    subst P (sym new) (written_keeps i.size s c.args.at bytes c.self.invariant (subst Q new c.fill.ensures.shaped))

pub returns-clause-ready : goal.returns-clause-ready
returns-clause-ready g c =
    let i = c.self.inside in
    let s : Slot = record { region = i.region; base = i.base; accessible = i.accessible; static_size = i.static_size; image = i.image; dirty = i.dirty; colour = i.colour } in
    let bytes : List ℕ = replicate c.args.len c.args.byte in
    let inside : c.args.at + c.args.len ≤ i.accessible.bytes = rw (← c.self.view_is) at c.requires.inside in
    let new : c.fill.new.self ≡ overwritten (i.base.bytes + c.args.at) bytes i.region = rw c.byte_count.ensures.value at c.fill.ensures.written in
    let P : Told → Type 0 = λ t. IfSome t.contents (IsReady (record { region = t; base = i.base; accessible = i.accessible; static_size = i.static_size; image = i.image; dirty = true; colour = i.colour })) in
    subst P (sym new) (written_ready s c.args.at bytes c.self.invariant.fits (rw (← c.self.view_is) at c.requires.ready) (omega (arith, inside, length-replicate c.args.len c.args.byte)))
