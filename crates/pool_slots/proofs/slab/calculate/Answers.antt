use Rattle.std.proofs.Common.{◌≡◌, ◌<◌, Bool, true, ◌&&◌, sym, ap, ◌∙◌, subst, arith}
use Rattle.pool_types.specs.SettingsRules.{is_address}
use Rattle.pool_slots.specs.declared.slab.SlabConstraints.{SlabConstraints}
use Rattle.pool_slots.specs.declared.slab.SlabLayout.{SlabLayout}
use Rattle.pool_slots.specs.Slabs.{IsLayout, SlotsLieApart, faulting_region, has_room, layout_of, total_bytes}
use Rattle.pool_slots.proofs.Layouts.{is_layout, lie_apart}
use Rattle.pool_slots.proofs.slab.calculate.Goals as goal

pub returns-in-Some-whole_slab-clause-sound : goal.returns-in-Some-whole_slab-clause-sound
returns-in-Some-whole_slab-clause-sound c =
    let k : SlabConstraints = c.args.constraints.now in
    let l : SlabLayout = c.lay_out-layout.result in
    let some : 0 < k.guard_bytes.page = omega (arith, c.lay_out-layout.ensures.page.at_least) in
    let region : is_address (faulting_region k) ≡ true = sym c.in-Some.ensures.answer in
    let total : is_address (total_bytes l) ≡ true = sym c.in-Some-whole_slab.ensures in
    let whole = subst (λ (m : SlabLayout). is_address (total_bytes m) ≡ true) c.lay_out-layout.ensures.layout total in
    let room : has_room k ≡ true = ap (λ (b : Bool). b && is_address (total_bytes (layout_of k))) region ∙ whole in
    let P : SlabLayout → Type 0 = λ m. IsLayout m in
    subst P (sym c.lay_out-layout.ensures.layout) (is_layout k some c.lay_out-layout.ensures.whole room)

pub returns-in-Some-whole_slab-clause-apart : goal.returns-in-Some-whole_slab-clause-apart
returns-in-Some-whole_slab-clause-apart c =
    let k : SlabConstraints = c.args.constraints.now in
    let some : 0 < k.guard_bytes.page = omega (arith, c.lay_out-layout.ensures.page.at_least) in
    let P : SlabLayout → Type 0 = λ m. SlotsLieApart k m in
    subst P (sym c.lay_out-layout.ensures.layout) (lie_apart k some c.lay_out-layout.ensures.whole)
