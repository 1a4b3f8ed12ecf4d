use Rattle.std.proofs.Common.{◌≤◌, ℕ, true, false, sym, subst}
use Rattle.pool_images.specs.Slots.{Slot}
use Rattle.pool_memory.specs.Copying.{IsCopied}
use Rattle.pool_memory.specs.Mapped.{Mapped, HasMoved}
use Rattle.pool_memory.proofs.Copies.{none_copied}
use Rattle.pool_memory.proofs.Moves.{moved_keeps, has_moved}
use Rattle.pool_memory.proofs.mmap_memory.MmapMemory.move_to.Goals.{then-self, else-self}
use Rattle.pool_memory.proofs.mmap_memory.MmapMemory.move_to.Goals as goal

pub invariant_of-self : goal.invariant_of-self
invariant_of-self g c =
    let i = c.self.inside in
    let m : Mapped = record { slot = i.slot; size = i.size; extra = i.extra_to_reserve_on_growth; as_made = i.as_made; known = i.known } in
    let M : Mapped → Type 0 = λ s. s.size ≤ c.args.size in
    let C : Slot → Type 0 = λ t. IsCopied 0 m.size m.slot c.args.slot t in
    let Z : ℕ → Type 0 = λ n. IsCopied 0 n m.slot c.args.slot c.args.slot in
    let copied : C c.if-self.slot = elim c.if-self.branch [
      | then-self w ↦ subst C (sym w.slot-is) w.copy_bytes.ensures
      | else-self w ↦ subst C (sym w.slot-is) (subst Z (sym (c.self.invariant.is.empty w.if-self.false)) (none_copied m.slot c.args.slot c.requires.made.clean.ready))
    ] in
    moved_keeps c.args.layout m.size c.args.size m.extra m.slot c.args.slot c.if-self.slot c.requires.made.fits c.requires.made (subst M (sym c.self.view_is) c.requires.more) copied

pub returns : goal.returns
returns g c =
    let i = c.self.inside in
    let m : Mapped = record { slot = i.slot; size = i.size; extra = i.extra_to_reserve_on_growth; as_made = i.as_made; known = i.known } in
    let M : Mapped → Type 0 = λ s. s.size ≤ c.args.size in
    let C : Slot → Type 0 = λ t. IsCopied 0 m.size m.slot c.args.slot t in
    let Z : ℕ → Type 0 = λ n. IsCopied 0 n m.slot c.args.slot c.args.slot in
    let copied : C c.if-self.slot = elim c.if-self.branch [
      | then-self w ↦ subst C (sym w.slot-is) w.copy_bytes.ensures
      | else-self w ↦ subst C (sym w.slot-is) (subst Z (sym (c.self.invariant.is.empty w.if-self.false)) (none_copied m.slot c.args.slot c.requires.made.clean.ready))
    ] in
    let H : Mapped → Type 0 = λ s. HasMoved c.args.size c.args.slot s (record { slot = c.if-self.slot; size = c.args.size; extra = m.extra; as_made = false; known = true }) in
    subst H c.self.view_is (has_moved c.args.layout m c.args.size c.args.slot c.if-self.slot c.requires.made.fits c.requires.made (subst M (sym c.self.view_is) c.requires.more) copied)
