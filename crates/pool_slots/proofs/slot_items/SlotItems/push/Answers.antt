use Rattle.std.proofs.Common.{◌≡◌, ◌<◌, ◌++◌, length, sym, ap, ◌∙◌}
use Rattle.pool_hall.specs.declared.unit_name.SlotKind.TheVariants as of_slot
use Rattle.pool_slots.specs.SlotNames.{slot_kind}
use Rattle.pool_slots.specs.SlotQueues.{QueuedList}
use Rattle.pool_slots.specs.declared.queued_range.QueueKind.{QueueKind}
use Rattle.pool_slots.proofs.KindChanges.{memory_pushed, table_pushed, stack_pushed}
use Rattle.pool_slots.proofs.slot_items.SlotItems.push.Goals as goal

pub returns-in-Memory : goal.returns-in-Memory
returns-in-Memory g c =
    let m : QueuedList = c.self.inside.memories in
    let t : QueuedList = c.self.inside.tables in
    let s : QueuedList = c.self.inside.stacks in
    let kind : c.args.item.name.kind ≡ of_slot.Memory = sym c.queue_kind.ensures ∙ ap (λ (k : QueueKind). slot_kind k) c.in-Memory.is in
    let room : length (m.items ++ (t.items ++ s.items)) < m.room = rw (← c.self.view_is) at c.requires in
    rw (← c.self.view_is) (memory_pushed m t s c.args.item c.push.new.self c.self.invariant kind room c.push.ensures).1

pub returns-in-Table : goal.returns-in-Table
returns-in-Table g c =
    let m : QueuedList = c.self.inside.memories in
    let t : QueuedList = c.self.inside.tables in
    let s : QueuedList = c.self.inside.stacks in
    let kind : c.args.item.name.kind ≡ of_slot.Table = sym c.queue_kind.ensures ∙ ap (λ (k : QueueKind). slot_kind k) c.in-Table.is in
    let room : length (m.items ++ (t.items ++ s.items)) < m.room = rw (← c.self.view_is) at c.requires in
    rw (← c.self.view_is) (table_pushed m t s c.args.item c.push-in-Table.new.self c.self.invariant kind room c.push-in-Table.ensures).1

pub returns-in-Stack : goal.returns-in-Stack
returns-in-Stack g c =
    let m : QueuedList = c.self.inside.memories in
    let t : QueuedList = c.self.inside.tables in
    let s : QueuedList = c.self.inside.stacks in
    let kind : c.args.item.name.kind ≡ of_slot.Stack = sym c.queue_kind.ensures ∙ ap (λ (k : QueueKind). slot_kind k) c.in-Stack.is in
    let room : length (m.items ++ (t.items ++ s.items)) < m.room = rw (← c.self.view_is) at c.requires in
    rw (← c.self.view_is) (stack_pushed m t s c.args.item c.push-in-Stack.new.self c.self.invariant kind room c.push-in-Stack.ensures).1
