use Rattle.std.proofs.Common.{◌≡◌, ◌∙◌, ◌++◌, Option, None, sym, ap, subst, option_map}
use Rattle.pool_slots.proofs.Imports.{SlotKind}
use Rattle.pool_slots.specs.SlotQueues.{Queued, QueuedList, first_of_kind}
use Rattle.pool_slots.specs.declared.slot_name.SlotName.{SlotName}
use Rattle.pool_slots.proofs.KindLists.{kinds_of, memory_first, table_first, stack_first, no_heap_popped}
use Rattle.pool_slots.proofs.slot_items.SlotItems.first_name.Goals as goal

abbrev name_of : Option Queued → Option SlotName
name_of o = option_map (λ m. m.name) o

pub returns-in-Memory : goal.returns-in-Memory
returns-in-Memory g c =
    let m : QueuedList = c.self.inside.memories in
    let t : QueuedList = c.self.inside.tables in
    let s : QueuedList = c.self.inside.stacks in
    let F : SlotKind → Type 0 = λ k. c.first_name.result ≡ name_of (first_of_kind k (m.items ++ (t.items ++ s.items))) in
    rw (← c.self.view_is) (subst F (sym c.in-Memory.is) (c.first_name.ensures ∙ ap name_of (sym (memory_first m.items t.items s.items (kinds_of m t s c.self.invariant)))))

pub returns-in-Table : goal.returns-in-Table
returns-in-Table g c =
    let m : QueuedList = c.self.inside.memories in
    let t : QueuedList = c.self.inside.tables in
    let s : QueuedList = c.self.inside.stacks in
    let F : SlotKind → Type 0 = λ k. c.first_name-in-Table.result ≡ name_of (first_of_kind k (m.items ++ (t.items ++ s.items))) in
    rw (← c.self.view_is) (subst F (sym c.in-Table.is) (c.first_name-in-Table.ensures ∙ ap name_of (sym (table_first m.items t.items s.items (kinds_of m t s c.self.invariant)))))

pub returns-in-Stack : goal.returns-in-Stack
returns-in-Stack g c =
    let m : QueuedList = c.self.inside.memories in
    let t : QueuedList = c.self.inside.tables in
    let s : QueuedList = c.self.inside.stacks in
    let F : SlotKind → Type 0 = λ k. c.first_name-in-Stack.result ≡ name_of (first_of_kind k (m.items ++ (t.items ++ s.items))) in
    rw (← c.self.view_is) (subst F (sym c.in-Stack.is) (c.first_name-in-Stack.ensures ∙ ap name_of (sym (stack_first m.items t.items s.items (kinds_of m t s c.self.invariant)))))

pub returns-in-Heap : goal.returns-in-Heap
returns-in-Heap g c =
    let m : QueuedList = c.self.inside.memories in
    let t : QueuedList = c.self.inside.tables in
    let s : QueuedList = c.self.inside.stacks in
    let F : SlotKind → Type 0 = λ k. ◌≡◌ {A = Option SlotName} None (name_of (first_of_kind k (m.items ++ (t.items ++ s.items)))) in
    rw (← c.self.view_is) (subst F (sym c.in-Heap.is) (ap name_of (sym (no_heap_popped m.items t.items s.items (kinds_of m t s c.self.invariant)).0)))
