use Rattle.std.proofs.Common.{◌≡◌, ℕ, false, ◌∙◌, ap, sym, subst}
use Rattle.pool_slots.specs.SlotNames.{slot_kind}
use Rattle.pool_slots.specs.SlotQueues.{Queue, holds, HasOwners, LeavesClean, with_ranges, with_slot}
use Rattle.pool_slots.specs.declared.slot_name.SlotName.{SlotName}
use Rattle.pool_slots.proofs.SlotChanges.{leaves_clean, owned_pushed}
use Rattle.pool_slots.proofs.decommit_queue.DecommitQueue.push_reset.Goals as goal

pub push_ranges-requires-clause-not_held : goal.push_ranges-requires-clause-not_held
push_ranges-requires-clause-not_held g c =
    let H : SlotName → Type 0 = λ n. holds n c.args.self.now.slots ≡ false in
    let same : c.args.item.name ≡ record { kind = slot_kind c.args.kind; slot = c.number-slot.result } = (λ i. record { kind = c.requires.kind i; slot = sym c.number-slot.ensures i }) in
    subst H same c.requires.not_held

pub push-requires-clause-clean : goal.push-requires-clause-clean
push-requires-clause-clean g c =
    let L : Queue → Type 0 = λ q. LeavesClean q.ranges c.args.item in
    let is : c.push_ranges.new.self ≡ with_ranges c.args.kind c.args.item.name.slot c.args.ranges.now c.args.self.now = c.push_ranges.ensures ∙ ap (λ (n : ℕ). with_ranges c.args.kind n c.args.ranges.now c.args.self.now) c.number-slot.ensures in
    subst L (sym is) (leaves_clean c.args.kind c.args.item c.args.ranges.now c.args.self.now c.requires.kind c.requires.owners c.requires.not_held c.requires.reset)

pub returns-clause-owners : goal.returns-clause-owners
returns-clause-owners g c =
    let O : Queue → Type 0 = λ q. HasOwners q in
    let is : c.push_ranges.new.self ≡ with_ranges c.args.kind c.args.item.name.slot c.args.ranges.now c.args.self.now = c.push_ranges.ensures ∙ ap (λ (n : ℕ). with_ranges c.args.kind n c.args.ranges.now c.args.self.now) c.number-slot.ensures in
    let both : c.push.new.self ≡ with_slot c.args.item (with_ranges c.args.kind c.args.item.name.slot c.args.ranges.now c.args.self.now) = c.push.ensures ∙ ap (λ (q : Queue). with_slot c.args.item q) is in
    subst O (sym both) (owned_pushed c.args.kind c.args.item c.args.ranges.now c.args.self.now c.requires.kind c.requires.owners)
