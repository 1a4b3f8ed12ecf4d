use Rattle.std.proofs.Common.{◌≡◌, ◌+◌, ap}
use Rattle.pool_types.specs.Count.{Count}
use Rattle.pool_images.specs.Slots.{Slot}
use Rattle.pool_images.proofs.Decommits.{clean_ok, clean_err}
use Rattle.pool_images.proofs.Fitting.{keeps_decommitted}
use Rattle.pool_images.proofs.image_slot.MemoryImageSlot.decommit.Goals as goal

pub invariant_of-self : goal.invariant_of-self
invariant_of-self g c =
    let i = c.self.inside in
    let s : Slot = record { region = i.region; base = i.base; accessible = i.accessible; static_size = i.static_size; image = i.image; dirty = i.dirty; colour = i.colour } in
    keeps_decommitted i.size s c.unchecked_add-from.result c.decommit.new.self c.decommit.result c.args.start.bytes c.args.len.bytes
    c.self.invariant c.unchecked_add-from.ensures (rw (← c.self.view_is) at c.requires.inside) c.decommit.ensures.ok c.decommit.ensures.fault c.decommit.ensures.shaped

pub returns-clause-clean : goal.returns-clause-clean
returns-clause-clean g c clean =
    let i = c.self.inside in
    let s : Slot = record { region = i.region; base = i.base; accessible = i.accessible; static_size = i.static_size; image = i.image; dirty = i.dirty; colour = i.colour } in
    let from : c.unchecked_add-from.result.bytes ≡ i.base.bytes + c.args.start.bytes = ap (λ (n : Count). n.bytes) c.unchecked_add-from.ensures in
    clean_ok s c.unchecked_add-from.result.bytes c.args.start.bytes c.args.len.bytes c.decommit.new.self c.decommit.result from
    c.self.invariant.fits (rw (← c.self.view_is) at clean) (rw (← c.self.view_is) at c.requires.inside) c.decommit.ensures.ok

pub returns-clause-clean_still : goal.returns-clause-clean_still
returns-clause-clean_still g c clean =
    let i = c.self.inside in
    let s : Slot = record { region = i.region; base = i.base; accessible = i.accessible; static_size = i.static_size; image = i.image; dirty = i.dirty; colour = i.colour } in
    let from : c.unchecked_add-from.result.bytes ≡ i.base.bytes + c.args.start.bytes = ap (λ (n : Count). n.bytes) c.unchecked_add-from.ensures in
    clean_err s c.unchecked_add-from.result.bytes c.args.start.bytes c.args.len.bytes c.decommit.new.self c.decommit.result from
    c.self.invariant.fits (rw (← c.self.view_is) at clean) (rw (← c.self.view_is) at c.requires.inside) c.decommit.ensures.fault c.decommit.ensures.shaped
