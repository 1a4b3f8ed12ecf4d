use Rattle.pool_hall.specs.declared.unit_name.SlotKind.TheVariants as of_slot
use Rattle.pool_slots.specs.SlotQueues.{QueuedList}
use Rattle.pool_slots.proofs.KindChanges.{still_listed, forgotten_listed}
use Rattle.pool_slots.proofs.slot_items.SlotItems.forget.Goals as goal

pub invariant_of-self : goal.invariant_of-self
invariant_of-self g c =
    let m : QueuedList = c.self.inside.memories in
    let t : QueuedList = c.self.inside.tables in
    let s : QueuedList = c.self.inside.stacks in
    still_listed m t s c.forget.new.self c.forget-2.new.self c.forget-3.new.self c.self.invariant
    (forgotten_listed of_slot.Memory m c.forget.new.self c.forget.ensures) (forgotten_listed of_slot.Table t c.forget-2.new.self c.forget-2.ensures) (forgotten_listed of_slot.Stack s c.forget-3.new.self c.forget-3.ensures)
