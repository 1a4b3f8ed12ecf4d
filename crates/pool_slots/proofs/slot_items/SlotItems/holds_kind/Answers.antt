use Rattle.std.proofs.Common.{◌≡◌, ◌++◌, Bool, false, not, Option, sym, ap, ◌∙◌, subst, is_some}
use Rattle.pool_slots.proofs.Imports.{SlotKind}
use Rattle.pool_slots.specs.SlotQueues.{Queued, QueuedList, first_of_kind}
use Rattle.pool_slots.proofs.KindLists.{kinds_of, memory_held, table_held, stack_held, no_heap_popped}
use Rattle.pool_slots.proofs.slot_items.SlotItems.holds_kind.Goals as goal

pub returns-in-Memory : goal.returns-in-Memory
returns-in-Memory g c =
    let m : QueuedList = c.self.inside.memories in
    let t : QueuedList = c.self.inside.tables in
    let s : QueuedList = c.self.inside.stacks in
    let H : SlotKind → Type 0 = λ k. not c.is_empty.result ≡ is_some (first_of_kind k (m.items ++ (t.items ++ s.items))) in
    rw (← c.self.view_is) (subst H (sym c.in-Memory.is) (ap (λ (b : Bool). not b) c.is_empty.ensures ∙ sym (memory_held m.items t.items s.items (kinds_of m t s c.self.invariant))))

pub returns-in-Table : goal.returns-in-Table
returns-in-Table g c =
    let m : QueuedList = c.self.inside.memories in
    let t : QueuedList = c.self.inside.tables in
    let s : QueuedList = c.self.inside.stacks in
    let H : SlotKind → Type 0 = λ k. not c.is_empty-in-Table.result ≡ is_some (first_of_kind k (m.items ++ (t.items ++ s.items))) in
    rw (← c.self.view_is) (subst H (sym c.in-Table.is) (ap (λ (b : Bool). not b) c.is_empty-in-Table.ensures ∙ sym (table_held m.items t.items s.items (kinds_of m t s c.self.invariant))))

pub returns-in-Stack : goal.returns-in-Stack
returns-in-Stack g c =
    let m : QueuedList = c.self.inside.memories in
    let t : QueuedList = c.self.inside.tables in
    let s : QueuedList = c.self.inside.stacks in
    let H : SlotKind → Type 0 = λ k. not c.is_empty-in-Stack.result ≡ is_some (first_of_kind k (m.items ++ (t.items ++ s.items))) in
    rw (← c.self.view_is) (subst H (sym c.in-Stack.is) (ap (λ (b : Bool). not b) c.is_empty-in-Stack.ensures ∙ sym (stack_held m.items t.items s.items (kinds_of m t s c.self.invariant))))

pub returns-in-Heap : goal.returns-in-Heap
returns-in-Heap g c =
    let m : QueuedList = c.self.inside.memories in
    let t : QueuedList = c.self.inside.tables in
    let s : QueuedList = c.self.inside.stacks in
    let H : SlotKind → Type 0 = λ k. false ≡ is_some (first_of_kind k (m.items ++ (t.items ++ s.items))) in
    rw (← c.self.view_is) (subst H (sym c.in-Heap.is) (ap (λ (o : Option Queued). is_some o) (sym (no_heap_popped m.items t.items s.items (kinds_of m t s c.self.invariant)).0)))
