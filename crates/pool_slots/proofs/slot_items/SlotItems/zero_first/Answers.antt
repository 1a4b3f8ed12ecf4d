use Rattle.std.proofs.Common.{◌≡◌, ◌++◌, false, List, sym, ap, ◌∙◌, subst, IfSome}
use Rattle.pool_slots.proofs.Imports.{AllByRecursion, list_any, SlotKind}
use Rattle.pool_hall.specs.declared.unit_name.SlotKind.TheVariants as of_slot
use Rattle.pool_slots.specs.SlotQueues.{Queued, QueuedList, CanBeZeroed, is_to_zero, first_zeroed}
use Rattle.pool_slots.proofs.KindLists.{kinds_of, memory_zeroed, table_zeroed, stack_zeroed, no_heap_zeroed, each_of_three}
use Rattle.pool_slots.proofs.KindChanges.{all_slots, still_listed, no_more, zeroed_listed, zeroed_memory, zeroed_table, zeroed_stack}
use Rattle.pool_slots.proofs.slot_items.SlotItems.zero_first.Goals as goal

pub zero_first-requires-in-Table : goal.zero_first-requires-in-Table
zero_first-requires-in-Table g c =
    let m : QueuedList = c.self.inside.memories in
    let t : QueuedList = c.self.inside.tables in
    let s : QueuedList = c.self.inside.stacks in
    let can : AllByRecursion (λ x. IfSome x.by_hand (λ n. CanBeZeroed n x.slot)) (m.items ++ (t.items ++ s.items)) = rw (← c.self.view_is) at c.requires in
    (each_of_three (λ x. IfSome x.by_hand (λ n. CanBeZeroed n x.slot)) m.items t.items s.items can).1

pub zero_first-requires-in-Stack : goal.zero_first-requires-in-Stack
zero_first-requires-in-Stack g c =
    let m : QueuedList = c.self.inside.memories in
    let t : QueuedList = c.self.inside.tables in
    let s : QueuedList = c.self.inside.stacks in
    let can : AllByRecursion (λ x. IfSome x.by_hand (λ n. CanBeZeroed n x.slot)) (m.items ++ (t.items ++ s.items)) = rw (← c.self.view_is) at c.requires in
    (each_of_three (λ x. IfSome x.by_hand (λ n. CanBeZeroed n x.slot)) m.items t.items s.items can).2

pub invariant_of-self : goal.invariant_of-self
invariant_of-self g c =
    let m : QueuedList = c.self.inside.memories in
    let t : QueuedList = c.self.inside.tables in
    let s : QueuedList = c.self.inside.stacks in
    still_listed m t s c.zero_first.new.self t s c.self.invariant (zeroed_listed of_slot.Memory c.args.kind m c.zero_first.new.self c.zero_first.ensures.zeroed) (no_more of_slot.Table t) (no_more of_slot.Stack s)

pub invariant_of-self-in-Table : goal.invariant_of-self-in-Table
invariant_of-self-in-Table g c =
    let m : QueuedList = c.self.inside.memories in
    let t : QueuedList = c.self.inside.tables in
    let s : QueuedList = c.self.inside.stacks in
    still_listed m t s m c.zero_first-in-Table.new.self s c.self.invariant (no_more of_slot.Memory m) (zeroed_listed of_slot.Table c.args.kind t c.zero_first-in-Table.new.self c.zero_first-in-Table.ensures.zeroed) (no_more of_slot.Stack s)

pub invariant_of-self-in-Stack : goal.invariant_of-self-in-Stack
invariant_of-self-in-Stack g c =
    let m : QueuedList = c.self.inside.memories in
    let t : QueuedList = c.self.inside.tables in
    let s : QueuedList = c.self.inside.stacks in
    still_listed m t s m t c.zero_first-in-Stack.new.self c.self.invariant (no_more of_slot.Memory m) (no_more of_slot.Table t) (zeroed_listed of_slot.Stack c.args.kind s c.zero_first-in-Stack.new.self c.zero_first-in-Stack.ensures.zeroed)

pub returns-in-Memory-clause-value : goal.returns-in-Memory-clause-value
returns-in-Memory-clause-value g c =
    let m : QueuedList = c.self.inside.memories in
    let t : QueuedList = c.self.inside.tables in
    let s : QueuedList = c.self.inside.stacks in
    let F : SlotKind → Type 0 = λ k. c.zero_first.result ≡ list_any (is_to_zero k) (m.items ++ (t.items ++ s.items)) in
    let here : c.zero_first.result ≡ list_any (is_to_zero of_slot.Memory) m.items = c.zero_first.ensures.value ∙ ap (λ (k : SlotKind). list_any (is_to_zero k) m.items) c.in-Memory.is in
    rw (← c.self.view_is) (subst F (sym c.in-Memory.is) (here ∙ sym (memory_zeroed m.items t.items s.items (kinds_of m t s c.self.invariant)).0))

pub returns-in-Memory-clause-zeroed : goal.returns-in-Memory-clause-zeroed
returns-in-Memory-clause-zeroed g c =
    let m : QueuedList = c.self.inside.memories in
    let t : QueuedList = c.self.inside.tables in
    let s : QueuedList = c.self.inside.stacks in
    let F : SlotKind → Type 0 = λ k. all_slots c.zero_first.new.self t s ≡ record { items = first_zeroed k (m.items ++ (t.items ++ s.items)); room = m.room } in
    let here : c.zero_first.new.self ≡ record m { items = first_zeroed of_slot.Memory m.items } = c.zero_first.ensures.zeroed ∙ ap (λ (k : SlotKind). record m { items = first_zeroed k m.items }) c.in-Memory.is in
    rw (← c.self.view_is) (subst F (sym c.in-Memory.is) (zeroed_memory m t s c.zero_first.new.self c.self.invariant here))

pub returns-in-Table-clause-value : goal.returns-in-Table-clause-value
returns-in-Table-clause-value g c =
    let m : QueuedList = c.self.inside.memories in
    let t : QueuedList = c.self.inside.tables in
    let s : QueuedList = c.self.inside.stacks in
    let F : SlotKind → Type 0 = λ k. c.zero_first-in-Table.result ≡ list_any (is_to_zero k) (m.items ++ (t.items ++ s.items)) in
    let here : c.zero_first-in-Table.result ≡ list_any (is_to_zero of_slot.Table) t.items = c.zero_first-in-Table.ensures.value ∙ ap (λ (k : SlotKind). list_any (is_to_zero k) t.items) c.in-Table.is in
    rw (← c.self.view_is) (subst F (sym c.in-Table.is) (here ∙ sym (table_zeroed m.items t.items s.items (kinds_of m t s c.self.invariant)).0))

pub returns-in-Table-clause-zeroed : goal.returns-in-Table-clause-zeroed
returns-in-Table-clause-zeroed g c =
    let m : QueuedList = c.self.inside.memories in
    let t : QueuedList = c.self.inside.tables in
    let s : QueuedList = c.self.inside.stacks in
    let F : SlotKind → Type 0 = λ k. all_slots m c.zero_first-in-Table.new.self s ≡ record { items = first_zeroed k (m.items ++ (t.items ++ s.items)); room = m.room } in
    let here : c.zero_first-in-Table.new.self ≡ record t { items = first_zeroed of_slot.Table t.items } = c.zero_first-in-Table.ensures.zeroed ∙ ap (λ (k : SlotKind). record t { items = first_zeroed k t.items }) c.in-Table.is in
    rw (← c.self.view_is) (subst F (sym c.in-Table.is) (zeroed_table m t s c.zero_first-in-Table.new.self c.self.invariant here))

pub returns-in-Stack-clause-value : goal.returns-in-Stack-clause-value
returns-in-Stack-clause-value g c =
    let m : QueuedList = c.self.inside.memories in
    let t : QueuedList = c.self.inside.tables in
    let s : QueuedList = c.self.inside.stacks in
    let F : SlotKind → Type 0 = λ k. c.zero_first-in-Stack.result ≡ list_any (is_to_zero k) (m.items ++ (t.items ++ s.items)) in
    let here : c.zero_first-in-Stack.result ≡ list_any (is_to_zero of_slot.Stack) s.items = c.zero_first-in-Stack.ensures.value ∙ ap (λ (k : SlotKind). list_any (is_to_zero k) s.items) c.in-Stack.is in
    rw (← c.self.view_is) (subst F (sym c.in-Stack.is) (here ∙ sym (stack_zeroed m.items t.items s.items (kinds_of m t s c.self.invariant)).0))

pub returns-in-Stack-clause-zeroed : goal.returns-in-Stack-clause-zeroed
returns-in-Stack-clause-zeroed g c =
    let m : QueuedList = c.self.inside.memories in
    let t : QueuedList = c.self.inside.tables in
    let s : QueuedList = c.self.inside.stacks in
    let F : SlotKind → Type 0 = λ k. all_slots m t c.zero_first-in-Stack.new.self ≡ record { items = first_zeroed k (m.items ++ (t.items ++ s.items)); room = m.room } in
    let here : c.zero_first-in-Stack.new.self ≡ record s { items = first_zeroed of_slot.Stack s.items } = c.zero_first-in-Stack.ensures.zeroed ∙ ap (λ (k : SlotKind). record s { items = first_zeroed k s.items }) c.in-Stack.is in
    rw (← c.self.view_is) (subst F (sym c.in-Stack.is) (zeroed_stack m t s c.zero_first-in-Stack.new.self c.self.invariant here))

pub returns-in-Heap-clause-value : goal.returns-in-Heap-clause-value
returns-in-Heap-clause-value g c =
    let m : QueuedList = c.self.inside.memories in
    let t : QueuedList = c.self.inside.tables in
    let s : QueuedList = c.self.inside.stacks in
    let F : SlotKind → Type 0 = λ k. false ≡ list_any (is_to_zero k) (m.items ++ (t.items ++ s.items)) in
    rw (← c.self.view_is) (subst F (sym c.in-Heap.is) (sym (no_heap_zeroed m.items t.items s.items (kinds_of m t s c.self.invariant)).0))

pub returns-in-Heap-clause-zeroed : goal.returns-in-Heap-clause-zeroed
returns-in-Heap-clause-zeroed g c =
    let m : QueuedList = c.self.inside.memories in
    let t : QueuedList = c.self.inside.tables in
    let s : QueuedList = c.self.inside.stacks in
    let F : SlotKind → Type 0 = λ k. all_slots m t s ≡ record { items = first_zeroed k (m.items ++ (t.items ++ s.items)); room = m.room } in
    rw (← c.self.view_is) (subst F (sym c.in-Heap.is) (ap (λ (l : List Queued). record { items = l; room = m.room }) (sym (no_heap_zeroed m.items t.items s.items (kinds_of m t s c.self.invariant)).1)))
