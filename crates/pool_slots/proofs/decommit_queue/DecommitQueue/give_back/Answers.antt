use Rattle.std.proofs.Common.{◌≡◌, false, List, [], sym, ap, ◌∙◌, subst, map}
use Rattle.std.specs.List.{list_any}
use Rattle.pool_hall.specs.declared.unit_name.SlotKind.TheVariants as of_slot
use Rattle.pool_slots.specs.SlotQueues.{Queued, Queue, is_kind, of_kind}
use Rattle.pool_slots.specs.Flushes.{without_kind, zeroed_of, given_back}
use Rattle.pool_slots.proofs.SlotReturns.{after_memories, after_tables, tables_back, stacks_back, nothing_left, slots_twice}
use Rattle.pool_slots.proofs.decommit_queue.DecommitQueue.give_back.Goals as goal

pub tables-requires-clause-accepted : goal.tables-requires-clause-accepted
tables-requires-clause-accepted g c =
    let q : Queue = c.args.self.now in
    let A : List Queued → Type 0 = λ l. g.D.SlotReturn.accepts of_slot.Table l c.memories.new.self in
    let now : c.zero_all.new.self ≡ record q { slots = after_memories q.slots } = slots_twice (without_kind of_slot.Memory) (map (zeroed_of of_slot.Table)) q c.memories.new.queue c.zero_all.new.self c.memories.ensures.others c.zero_all.ensures in
    let items : of_kind of_slot.Table c.zero_all.new.self.slots ≡ given_back of_slot.Table q.slots = ap (λ (x : Queue). of_kind of_slot.Table x.slots) now ∙ tables_back q.slots in
    subst A (sym items) (c.requires.accepted.tables c.memories.new.self c.memories.ensures.returned)

pub stacks-requires-clause-accepted : goal.stacks-requires-clause-accepted
stacks-requires-clause-accepted g c =
    let q : Queue = c.args.self.now in
    let A : List Queued → Type 0 = λ l. g.D.SlotReturn.accepts of_slot.Stack l c.tables.new.self in
    let R : List Queued → Type 0 = λ l. g.D.SlotReturn.returns of_slot.Table l c.memories.new.self c.tables.new.self in
    let first : c.zero_all.new.self ≡ record q { slots = after_memories q.slots } = slots_twice (without_kind of_slot.Memory) (map (zeroed_of of_slot.Table)) q c.memories.new.queue c.zero_all.new.self c.memories.ensures.others c.zero_all.ensures in
    let second : c.tables.new.queue ≡ record q { slots = without_kind of_slot.Table (after_memories q.slots) } = slots_twice after_memories (without_kind of_slot.Table) q c.zero_all.new.self c.tables.new.queue first c.tables.ensures.others in
    let now : c.zero_all-2.new.self ≡ record q { slots = after_tables q.slots } = slots_twice (λ l. without_kind of_slot.Table (after_memories l)) (map (zeroed_of of_slot.Stack)) q c.tables.new.queue c.zero_all-2.new.self second c.zero_all-2.ensures in
    let tables : of_kind of_slot.Table c.zero_all.new.self.slots ≡ given_back of_slot.Table q.slots = ap (λ (x : Queue). of_kind of_slot.Table x.slots) first ∙ tables_back q.slots in
    let items : of_kind of_slot.Stack c.zero_all-2.new.self.slots ≡ given_back of_slot.Stack q.slots = ap (λ (x : Queue). of_kind of_slot.Stack x.slots) now ∙ stacks_back q.slots in
    subst A (sym items) (c.requires.accepted.stacks c.memories.new.self c.tables.new.self c.memories.ensures.returned (subst R tables c.tables.ensures.returned))

pub returns-clause-empty : goal.returns-clause-empty
returns-clause-empty g c =
    let q : Queue = c.args.self.now in
    let first : c.zero_all.new.self ≡ record q { slots = after_memories q.slots } = slots_twice (without_kind of_slot.Memory) (map (zeroed_of of_slot.Table)) q c.memories.new.queue c.zero_all.new.self c.memories.ensures.others c.zero_all.ensures in
    let second : c.tables.new.queue ≡ record q { slots = without_kind of_slot.Table (after_memories q.slots) } = slots_twice after_memories (without_kind of_slot.Table) q c.zero_all.new.self c.tables.new.queue first c.tables.ensures.others in
    let third : c.zero_all-2.new.self ≡ record q { slots = after_tables q.slots } = slots_twice (λ l. without_kind of_slot.Table (after_memories l)) (map (zeroed_of of_slot.Stack)) q c.tables.new.queue c.zero_all-2.new.self second c.zero_all-2.ensures in
    let last : c.stacks.new.queue ≡ record q { slots = without_kind of_slot.Stack (after_tables q.slots) } = slots_twice after_tables (without_kind of_slot.Stack) q c.zero_all-2.new.self c.stacks.new.queue third c.stacks.ensures.others in
    let H : Queue → Type 0 = λ x. list_any (is_kind of_slot.Heap) x.slots ≡ false in
    let none : without_kind of_slot.Stack (after_tables q.slots) ≡ [] = nothing_left q.slots (subst H last c.has_no_heap.ensures.none) in
    c.has_no_heap.ensures.same ∙ last ∙ ap (λ (l : List Queued). record q { slots = l }) none

pub returns-clause-returned : goal.returns-clause-returned
returns-clause-returned g c =
    let q : Queue = c.args.self.now in
    let first : c.zero_all.new.self ≡ record q { slots = after_memories q.slots } = slots_twice (without_kind of_slot.Memory) (map (zeroed_of of_slot.Table)) q c.memories.new.queue c.zero_all.new.self c.memories.ensures.others c.zero_all.ensures in
    let second : c.tables.new.queue ≡ record q { slots = without_kind of_slot.Table (after_memories q.slots) } = slots_twice after_memories (without_kind of_slot.Table) q c.zero_all.new.self c.tables.new.queue first c.tables.ensures.others in
    let third : c.zero_all-2.new.self ≡ record q { slots = after_tables q.slots } = slots_twice (λ l. without_kind of_slot.Table (after_memories l)) (map (zeroed_of of_slot.Stack)) q c.tables.new.queue c.zero_all-2.new.self second c.zero_all-2.ensures in
    let T : List Queued → Type 0 = λ l. g.D.SlotReturn.returns of_slot.Table l c.memories.new.self c.tables.new.self in
    let S : List Queued → Type 0 = λ l. g.D.SlotReturn.returns of_slot.Stack l c.tables.new.self c.stacks.new.self in
    record {
      with_memories = c.memories.new.self;
      with_tables = c.tables.new.self;
      memories = c.memories.ensures.returned;
      tables = subst T (ap (λ (x : Queue). of_kind of_slot.Table x.slots) first ∙ tables_back q.slots) c.tables.ensures.returned;
      stacks = subst S (ap (λ (x : Queue). of_kind of_slot.Stack x.slots) third ∙ stacks_back q.slots) c.stacks.ensures.returned;
    }
