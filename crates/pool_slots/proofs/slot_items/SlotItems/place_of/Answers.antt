use Rattle.std.proofs.Common.{◌≡◌, ◌++◌, ◌∙◌, true, sym}
use Rattle.pool_slots.proofs.Imports.{true≢false}
use Rattle.pool_slots.specs.SlotQueues.{QueuedList, holds}
use Rattle.pool_slots.proofs.KindLists.{kinds_of, memory_there, table_there, stack_there, no_heap_there}
use Rattle.pool_slots.proofs.KindPlaces.{table_after, stack_after}
use Rattle.pool_slots.proofs.slot_items.SlotItems.place_of.Goals as goal

pub place_of-requires : goal.place_of-requires
place_of-requires g c =
    let m : QueuedList = c.self.inside.memories in
    let t : QueuedList = c.self.inside.tables in
    let s : QueuedList = c.self.inside.stacks in
    let held : holds c.args.slot (m.items ++ (t.items ++ s.items)) ≡ true = rw (← c.self.view_is) at c.requires in
    memory_there c.args.slot m.items t.items s.items (kinds_of m t s c.self.invariant) c.in-Memory.is held

pub place_of-requires-in-Table : goal.place_of-requires-in-Table
place_of-requires-in-Table g c =
    let m : QueuedList = c.self.inside.memories in
    let t : QueuedList = c.self.inside.tables in
    let s : QueuedList = c.self.inside.stacks in
    let held : holds c.args.slot (m.items ++ (t.items ++ s.items)) ≡ true = rw (← c.self.view_is) at c.requires in
    table_there c.args.slot m.items t.items s.items (kinds_of m t s c.self.invariant) c.in-Table.is held

pub place_of-requires-in-Stack : goal.place_of-requires-in-Stack
place_of-requires-in-Stack g c =
    let m : QueuedList = c.self.inside.memories in
    let t : QueuedList = c.self.inside.tables in
    let s : QueuedList = c.self.inside.stacks in
    let held : holds c.args.slot (m.items ++ (t.items ++ s.items)) ≡ true = rw (← c.self.view_is) at c.requires in
    stack_there c.args.slot m.items t.items s.items (kinds_of m t s c.self.invariant) c.in-Stack.is held

pub unreachable-requires : goal.unreachable-requires
unreachable-requires g c =
    let m : QueuedList = c.self.inside.memories in
    let t : QueuedList = c.self.inside.tables in
    let s : QueuedList = c.self.inside.stacks in
    let held : holds c.args.slot (m.items ++ (t.items ++ s.items)) ≡ true = rw (← c.self.view_is) at c.requires in
    true≢false (sym held ∙ no_heap_there c.args.slot m.items t.items s.items (kinds_of m t s c.self.invariant) c.in-Heap.is)

pub returns-in-Table-clause-index : goal.returns-in-Table-clause-index
returns-in-Table-clause-index g c =
    let m : QueuedList = c.self.inside.memories in
    let t : QueuedList = c.self.inside.tables in
    let s : QueuedList = c.self.inside.stacks in
    rw (← c.self.view_is) (table_after (λ x. x.name ≡ c.args.slot) m.items t.items s.items c.len-memories.result c.place_of-in-Table.result c.len-memories.ensures.value c.place_of-in-Table.ensures.inside c.place_of-in-Table.ensures.index)

pub returns-in-Stack-clause-index : goal.returns-in-Stack-clause-index
returns-in-Stack-clause-index g c =
    let m : QueuedList = c.self.inside.memories in
    let t : QueuedList = c.self.inside.tables in
    let s : QueuedList = c.self.inside.stacks in
    rw (← c.self.view_is) (stack_after (λ x. x.name ≡ c.args.slot) m.items t.items s.items c.len-memories.result c.len-tables.result c.place_of-in-Stack.result c.len-memories.ensures.value c.len-tables.ensures.value c.place_of-in-Stack.ensures.index)
