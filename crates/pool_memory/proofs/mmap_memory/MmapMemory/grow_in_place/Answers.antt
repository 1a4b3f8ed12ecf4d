use Rattle.std.proofs.Common.{◌≤◌, Bool, false, sym, ap, ◌∙◌, subst, if◌then◌else◌}
use Rattle.pool_images.specs.Slots.{IsSlot}
use Rattle.pool_memory.specs.Growing.{GrowsTo}
use Rattle.pool_memory.specs.Mapped.{Mapped, mapped_linear, mapped_capacity}
use Rattle.pool_memory.proofs.Mapped.{nothing_grows, mapped_room, kept_mapped, kept_layout, mapped_grows}
use Rattle.pool_memory.proofs.mmap_memory.MmapMemory.grow_in_place.Goals as goal

pub returns-then-not-self-clause-ok : goal.returns-then-not-self-clause-ok
returns-then-not-self-clause-ok g c =
    nothing_grows c.args.self.now c.args.size c.fits.ensures.slot c.fits.ensures.mapped (sym (ap (λ (m : Mapped). m.known) c.self.view_is) ∙ c.if-not-self.true) c.requires.room

pub set_heap_limit-requires : goal.set_heap_limit-requires
set_heap_limit-requires g c =
    let i = c.self.inside in
    let m : Mapped = record { slot = i.slot; size = i.size; extra = i.extra_to_reserve_on_growth; as_made = i.as_made; known = i.known } in
    let F : Mapped → Type 0 = λ s. IsSlot s.slot in
    let N : Mapped → Type 0 = λ s. c.args.size ≤ mapped_capacity s in
    let K : Bool → Type 0 = λ b. c.args.size ≤ (if b then m.slot.static_size else 0) in
    mapped_room m c.args.size (subst F (sym c.self.view_is) c.fits.ensures.slot) c.self.invariant.is c.if-not-self.false (subst K c.if-not-self.false (subst N (sym c.self.view_is) c.requires.room))

pub invariant_of-self : goal.invariant_of-self
invariant_of-self g c =
    let i = c.self.inside in
    let m : Mapped = record { slot = i.slot; size = i.size; extra = i.extra_to_reserve_on_growth; as_made = i.as_made; known = i.known } in
    let F : Mapped → Type 0 = λ s. IsSlot s.slot in
    let M : Mapped → Type 0 = λ s. s.size ≤ c.args.size in
    let N : Mapped → Type 0 = λ s. c.args.size ≤ mapped_capacity s in
    let n : Mapped = record m { slot = c.set_heap_limit.new.self; size = c.args.size; as_made = false } in
    kept_layout i.layout m n c.self.invariant c.set_heap_limit.ensures.kept.same
    (kept_mapped m c.args.size c.set_heap_limit.new.self (subst F (sym c.self.view_is) c.fits.ensures.slot) c.self.invariant.is c.set_heap_limit.ensures.kept (subst M (sym c.self.view_is) c.requires.more) (subst N (sym c.self.view_is) c.requires.room) (λ _. c.in-Ok.ensures.reached))

pub returns-in-Ok-clause-ok : goal.returns-in-Ok-clause-ok
returns-in-Ok-clause-ok g c =
    let i = c.self.inside in
    let m : Mapped = record { slot = i.slot; size = i.size; extra = i.extra_to_reserve_on_growth; as_made = i.as_made; known = i.known } in
    let F : Mapped → Type 0 = λ s. IsSlot s.slot in
    let M : Mapped → Type 0 = λ s. s.size ≤ c.args.size in
    let N : Mapped → Type 0 = λ s. c.args.size ≤ mapped_capacity s in
    let K : Bool → Type 0 = λ b. c.args.size ≤ (if b then m.slot.static_size else 0) in
    let G : Mapped → Type 0 = λ s. GrowsTo c.args.size (mapped_linear s) (mapped_linear (record m { slot = c.set_heap_limit.new.self; size = c.args.size })) in
    subst G c.self.view_is (mapped_grows m c.args.size c.set_heap_limit.new.self (subst F (sym c.self.view_is) c.fits.ensures.slot) c.self.invariant.is c.if-not-self.false c.set_heap_limit.ensures.kept (subst M (sym c.self.view_is) c.requires.more) (subst K c.if-not-self.false (subst N (sym c.self.view_is) c.requires.room)) c.in-Ok.ensures.ok c.in-Ok.ensures.planned)
