use Rattle.std.proofs.Common.{◌≡◌, ◌∙◌, ◌++◌, false, sym, ap, subst}
use Rattle.pool_slots.proofs.Imports.{list_any, SlotKind}
use Rattle.pool_hall.specs.declared.unit_name.SlotKind.TheVariants as of_slot
use Rattle.pool_slots.specs.SlotQueues.{QueuedList, is_to_zero}
use Rattle.pool_slots.proofs.KindLists.{kinds_of, memory_zeroed, table_zeroed, stack_zeroed, no_heap_zeroed}
use Rattle.pool_slots.proofs.slot_items.SlotItems.has_to_zero.Goals as goal

pub returns-in-Memory : goal.returns-in-Memory
returns-in-Memory g c =
    let m : QueuedList = c.self.inside.memories in
    let t : QueuedList = c.self.inside.tables in
    let s : QueuedList = c.self.inside.stacks in
    let F : SlotKind → Type 0 = λ k. c.has_to_zero.result ≡ list_any (is_to_zero k) (m.items ++ (t.items ++ s.items)) in
    let here : c.has_to_zero.result ≡ list_any (is_to_zero of_slot.Memory) m.items = c.has_to_zero.ensures ∙ ap (λ (k : SlotKind). list_any (is_to_zero k) m.items) c.in-Memory.is in
    rw (← c.self.view_is) (subst F (sym c.in-Memory.is) (here ∙ sym (memory_zeroed m.items t.items s.items (kinds_of m t s c.self.invariant)).0))

pub returns-in-Table : goal.returns-in-Table
returns-in-Table g c =
    let m : QueuedList = c.self.inside.memories in
    let t : QueuedList = c.self.inside.tables in
    let s : QueuedList = c.self.inside.stacks in
    let F : SlotKind → Type 0 = λ k. c.has_to_zero-in-Table.result ≡ list_any (is_to_zero k) (m.items ++ (t.items ++ s.items)) in
    let here : c.has_to_zero-in-Table.result ≡ list_any (is_to_zero of_slot.Table) t.items = c.has_to_zero-in-Table.ensures ∙ ap (λ (k : SlotKind). list_any (is_to_zero k) t.items) c.in-Table.is in
    rw (← c.self.view_is) (subst F (sym c.in-Table.is) (here ∙ sym (table_zeroed m.items t.items s.items (kinds_of m t s c.self.invariant)).0))

pub returns-in-Stack : goal.returns-in-Stack
returns-in-Stack g c =
    let m : QueuedList = c.self.inside.memories in
    let t : QueuedList = c.self.inside.tables in
    let s : QueuedList = c.self.inside.stacks in
    let F : SlotKind → Type 0 = λ k. c.has_to_zero-in-Stack.result ≡ list_any (is_to_zero k) (m.items ++ (t.items ++ s.items)) in
    let here : c.has_to_zero-in-Stack.result ≡ list_any (is_to_zero of_slot.Stack) s.items = c.has_to_zero-in-Stack.ensures ∙ ap (λ (k : SlotKind). list_any (is_to_zero k) s.items) c.in-Stack.is in
    rw (← c.self.view_is) (subst F (sym c.in-Stack.is) (here ∙ sym (stack_zeroed m.items t.items s.items (kinds_of m t s c.self.invariant)).0))

pub returns-in-Heap : goal.returns-in-Heap
returns-in-Heap g c =
    let m : QueuedList = c.self.inside.memories in
    let t : QueuedList = c.self.inside.tables in
    let s : QueuedList = c.self.inside.stacks in
    let F : SlotKind → Type 0 = λ k. false ≡ list_any (is_to_zero k) (m.items ++ (t.items ++ s.items)) in
    rw (← c.self.view_is) (subst F (sym c.in-Heap.is) (sym (no_heap_zeroed m.items t.items s.items (kinds_of m t s c.self.invariant)).0))
