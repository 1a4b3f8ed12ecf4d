use Rattle.std.proofs.Common.{◌≡◌, refl, List, sym, ap, ◌∙◌}
use Rattle.pool_slots.proofs.Imports.{true≢false}
use Rattle.pool_hall.specs.declared.unit_name.SlotKind.TheVariants as of_slot
use Rattle.pool_slots.specs.SlotQueues.{Queued, Queue}
use Rattle.pool_slots.proofs.SlotReturns.{kind_right, kind_over}
use Rattle.pool_slots.proofs.decommit_queue.DecommitQueue.has_no_heap.Goals as goal

pub unreachable-requires : goal.unreachable-requires
unreachable-requires g c =
    let kind : c.in-Some.item.name.kind ≡ of_slot.Memory = rw (← c.item.view_is, c.in-Memory.is) refl in
    true≢false (sym (kind_right of_slot.Heap of_slot.Memory c.args.self.now.slots c.in-Some.item (sym c.pop.ensures.value ∙ c.in-Some.is) kind))

pub unreachable-requires-in-Table : goal.unreachable-requires-in-Table
unreachable-requires-in-Table g c =
    let kind : c.in-Some.item.name.kind ≡ of_slot.Table = rw (← c.item.view_is, c.in-Table.is) refl in
    true≢false (sym (kind_right of_slot.Heap of_slot.Table c.args.self.now.slots c.in-Some.item (sym c.pop.ensures.value ∙ c.in-Some.is) kind))

pub unreachable-requires-in-Stack : goal.unreachable-requires-in-Stack
unreachable-requires-in-Stack g c =
    let kind : c.in-Some.item.name.kind ≡ of_slot.Stack = rw (← c.item.view_is, c.in-Stack.is) refl in
    true≢false (sym (kind_right of_slot.Heap of_slot.Stack c.args.self.now.slots c.in-Some.item (sym c.pop.ensures.value ∙ c.in-Some.is) kind))

pub returns-clause-same : goal.returns-clause-same
returns-clause-same g c =
    let q : Queue = c.args.self.now in
    c.pop.ensures.others ∙ ap (λ (l : List Queued). record q { slots = l }) (kind_over of_slot.Heap q.slots (sym c.pop.ensures.value ∙ c.in-None.is)).2

pub returns-clause-none : goal.returns-clause-none
returns-clause-none g c = (kind_over of_slot.Heap c.args.self.now.slots (sym c.pop.ensures.value ∙ c.in-None.is)).3
