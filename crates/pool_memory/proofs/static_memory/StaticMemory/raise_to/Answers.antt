use Rattle.std.proofs.Common.{◌≤◌, sym, subst}
use Rattle.pool_images.specs.Slots.{IsSlot}
use Rattle.pool_memory.specs.Growing.{GrowsTo}
use Rattle.pool_memory.specs.Static.{Static, linear_of}
use Rattle.pool_memory.proofs.Raised.{kept_static, raise_room, raised_grows}
use Rattle.pool_memory.proofs.static_memory.StaticMemory.raise_to.Goals as goal

pub set_heap_limit-requires : goal.set_heap_limit-requires
set_heap_limit-requires g c =
    let i = c.self.inside in
    let m : Static = record { slot = i.slot; size = i.size; capacity = i.capacity } in
    let F : Static → Type 0 = λ s. IsSlot s.slot in
    let N : Static → Type 0 = λ s. c.args.size ≤ s.capacity in
    raise_room m c.args.size (subst F (sym c.self.view_is) c.fits.ensures) c.self.invariant (subst N (sym c.self.view_is) c.requires.room)

pub invariant_of-self : goal.invariant_of-self
invariant_of-self g c =
    let i = c.self.inside in
    let m : Static = record { slot = i.slot; size = i.size; capacity = i.capacity } in
    let F : Static → Type 0 = λ s. IsSlot s.slot in
    let M : Static → Type 0 = λ s. s.size ≤ c.args.size in
    let N : Static → Type 0 = λ s. c.args.size ≤ s.capacity in
    kept_static m c.args.size c.set_heap_limit.new.self (subst F (sym c.self.view_is) c.fits.ensures) c.self.invariant c.set_heap_limit.ensures.kept
    (subst M (sym c.self.view_is) c.requires.more) (subst N (sym c.self.view_is) c.requires.room) c.in-Ok.ensures.reached

pub returns-in-Ok-clause-ok : goal.returns-in-Ok-clause-ok
returns-in-Ok-clause-ok g c =
    let i = c.self.inside in
    let m : Static = record { slot = i.slot; size = i.size; capacity = i.capacity } in
    let F : Static → Type 0 = λ s. IsSlot s.slot in
    let M : Static → Type 0 = λ s. s.size ≤ c.args.size in
    let N : Static → Type 0 = λ s. c.args.size ≤ s.capacity in
    let G : Static → Type 0 = λ s. GrowsTo c.args.size (linear_of s) (linear_of (record { slot = c.set_heap_limit.new.self; size = c.args.size; capacity = i.capacity })) in
    subst G c.self.view_is
    (raised_grows m c.args.size c.set_heap_limit.new.self (subst F (sym c.self.view_is) c.fits.ensures) c.self.invariant c.set_heap_limit.ensures.kept
    (subst M (sym c.self.view_is) c.requires.more) (subst N (sym c.self.view_is) c.requires.room) c.in-Ok.ensures.ok c.in-Ok.ensures.planned)
