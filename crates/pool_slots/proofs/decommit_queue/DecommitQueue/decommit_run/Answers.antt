use Rattle.std.proofs.Common.{List, ap, ◌∙◌, subst, is_ok}
use Rattle.std.proofs.lemmas.Result.{on_ok_weaker}
use Rattle.pool_slots.specs.SlotQueues.{Queued, Queue, after_run_of}
use Rattle.pool_slots.specs.declared.slot_name.SlotName.{SlotName}
use Rattle.pool_slots.specs.SlotOrders.{run_of, AreInOrder}
use Rattle.pool_slots.proofs.decommit_queue.DecommitQueue.decommit_run.Goals as goal

pub returns-clause-ok : goal.returns-clause-ok
returns-clause-ok g c =
    on_ok_weaker c.decommit_all_of.result
    (λ e. e ∙ ap (λ (n : SlotName). after_run_of n c.args.self.now) c.first_slot-slot.ensures)
    c.decommit_all_of.ensures.ok

pub returns-clause-order : goal.returns-clause-order
returns-clause-order g c =
    let q : Queue = c.args.self.now in
    let end : List Queued = c.decommit_all_of.new.self.slots in
    let S : SlotName → Type 0 = λ k. AreInOrder k (run_of k q.ranges) (is_ok c.decommit_all_of.result) q.slots end in
    subst S c.first_slot-slot.ensures c.decommit_all_of.ensures.order
