use Rattle.std.proofs.Common.{◌≡◌, ◌++◌, List, Option, None, sym, ap, subst}
use Rattle.pool_slots.proofs.Imports.{SlotKind}
use Rattle.pool_slots.specs.SlotQueues.{Queued, QueuedList, first_of_kind, others_of_kind}
use Rattle.pool_slots.proofs.KindLists.{kinds_of, no_heap_popped}
use Rattle.pool_slots.proofs.KindChanges.{all_slots, popped_memory, popped_table, popped_stack}
use Rattle.pool_slots.proofs.slot_items.SlotItems.take_first.Goals as goal

pub returns-in-Memory-clause-value : goal.returns-in-Memory-clause-value
returns-in-Memory-clause-value g c =
    let m : QueuedList = c.self.inside.memories in
    let t : QueuedList = c.self.inside.tables in
    let s : QueuedList = c.self.inside.stacks in
    let F : SlotKind → Type 0 = λ k. c.pop_front.result ≡ first_of_kind k (m.items ++ (t.items ++ s.items)) in
    rw (← c.self.view_is) (subst F (sym c.in-Memory.is) (popped_memory c.pop_front.result m t s c.pop_front.new.self c.self.invariant c.pop_front.ensures.items c.pop_front.ensures.variant c.pop_front.ensures.room).0)

pub returns-in-Memory-clause-others : goal.returns-in-Memory-clause-others
returns-in-Memory-clause-others g c =
    let m : QueuedList = c.self.inside.memories in
    let t : QueuedList = c.self.inside.tables in
    let s : QueuedList = c.self.inside.stacks in
    let F : SlotKind → Type 0 = λ k. all_slots c.pop_front.new.self t s ≡ record { items = others_of_kind k (m.items ++ (t.items ++ s.items)); room = m.room } in
    rw (← c.self.view_is) (subst F (sym c.in-Memory.is) (popped_memory c.pop_front.result m t s c.pop_front.new.self c.self.invariant c.pop_front.ensures.items c.pop_front.ensures.variant c.pop_front.ensures.room).1)

pub returns-in-Table-clause-value : goal.returns-in-Table-clause-value
returns-in-Table-clause-value g c =
    let m : QueuedList = c.self.inside.memories in
    let t : QueuedList = c.self.inside.tables in
    let s : QueuedList = c.self.inside.stacks in
    let F : SlotKind → Type 0 = λ k. c.pop_front-in-Table.result ≡ first_of_kind k (m.items ++ (t.items ++ s.items)) in
    rw (← c.self.view_is) (subst F (sym c.in-Table.is) (popped_table c.pop_front-in-Table.result m t s c.pop_front-in-Table.new.self c.self.invariant c.pop_front-in-Table.ensures.items c.pop_front-in-Table.ensures.variant).0)

pub returns-in-Table-clause-others : goal.returns-in-Table-clause-others
returns-in-Table-clause-others g c =
    let m : QueuedList = c.self.inside.memories in
    let t : QueuedList = c.self.inside.tables in
    let s : QueuedList = c.self.inside.stacks in
    let F : SlotKind → Type 0 = λ k. all_slots m c.pop_front-in-Table.new.self s ≡ record { items = others_of_kind k (m.items ++ (t.items ++ s.items)); room = m.room } in
    rw (← c.self.view_is) (subst F (sym c.in-Table.is) (popped_table c.pop_front-in-Table.result m t s c.pop_front-in-Table.new.self c.self.invariant c.pop_front-in-Table.ensures.items c.pop_front-in-Table.ensures.variant).1)

pub returns-in-Stack-clause-value : goal.returns-in-Stack-clause-value
returns-in-Stack-clause-value g c =
    let m : QueuedList = c.self.inside.memories in
    let t : QueuedList = c.self.inside.tables in
    let s : QueuedList = c.self.inside.stacks in
    let F : SlotKind → Type 0 = λ k. c.pop_front-in-Stack.result ≡ first_of_kind k (m.items ++ (t.items ++ s.items)) in
    rw (← c.self.view_is) (subst F (sym c.in-Stack.is) (popped_stack c.pop_front-in-Stack.result m t s c.pop_front-in-Stack.new.self c.self.invariant c.pop_front-in-Stack.ensures.items c.pop_front-in-Stack.ensures.variant).0)

pub returns-in-Stack-clause-others : goal.returns-in-Stack-clause-others
returns-in-Stack-clause-others g c =
    let m : QueuedList = c.self.inside.memories in
    let t : QueuedList = c.self.inside.tables in
    let s : QueuedList = c.self.inside.stacks in
    let F : SlotKind → Type 0 = λ k. all_slots m t c.pop_front-in-Stack.new.self ≡ record { items = others_of_kind k (m.items ++ (t.items ++ s.items)); room = m.room } in
    rw (← c.self.view_is) (subst F (sym c.in-Stack.is) (popped_stack c.pop_front-in-Stack.result m t s c.pop_front-in-Stack.new.self c.self.invariant c.pop_front-in-Stack.ensures.items c.pop_front-in-Stack.ensures.variant).1)

pub returns-in-Heap-clause-value : goal.returns-in-Heap-clause-value
returns-in-Heap-clause-value g c =
    let m : QueuedList = c.self.inside.memories in
    let t : QueuedList = c.self.inside.tables in
    let s : QueuedList = c.self.inside.stacks in
    let F : SlotKind → Type 0 = λ k. ◌≡◌ {A = Option Queued} None (first_of_kind k (m.items ++ (t.items ++ s.items))) in
    rw (← c.self.view_is) (subst F (sym c.in-Heap.is) (sym (no_heap_popped m.items t.items s.items (kinds_of m t s c.self.invariant)).0))

pub returns-in-Heap-clause-others : goal.returns-in-Heap-clause-others
returns-in-Heap-clause-others g c =
    let m : QueuedList = c.self.inside.memories in
    let t : QueuedList = c.self.inside.tables in
    let s : QueuedList = c.self.inside.stacks in
    let F : SlotKind → Type 0 = λ k. all_slots m t s ≡ record { items = others_of_kind k (m.items ++ (t.items ++ s.items)); room = m.room } in
    rw (← c.self.view_is) (subst F (sym c.in-Heap.is) (ap (λ (l : List Queued). record { items = l; room = m.room }) (sym (no_heap_popped m.items t.items s.items (kinds_of m t s c.self.invariant)).1)))
