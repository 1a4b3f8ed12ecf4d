use Rattle.std.proofs.Common.{Bool, sym, subst}
use Rattle.pool_images.proofs.Ordering.{not_ok}
use Rattle.pool_slots.specs.SlotQueues.{Queue, IsFaulted}
use Rattle.pool_slots.specs.declared.slot_name.SlotName.{SlotName}
use Rattle.pool_slots.specs.SlotOrders.{run_of, AreInOrder}
use Rattle.pool_slots.proofs.SlotOrders.{order_step, order_over, order_faulted}
use Rattle.pool_slots.proofs.Lists.{always_err}
use Rattle.pool_slots.proofs.SlotRuns.{run_begins, run_step, run_over, run_faulted}
use Rattle.pool_slots.proofs.decommit_queue.DecommitQueue.decommit_all_of.Goals as goal

pub loop-slot-init : goal.loop-slot-init
loop-slot-init g c =
    record {
      running = run_begins c.args.slot c.args.at c.args.self.now c.requires.owners c.requires.inside c.requires.index;
      order = λ ok end order. order;
    }

pub loop-slot-preserved : goal.loop-slot-preserved
loop-slot-preserved g c =
    record {
      running = run_step c.args.slot c.args.at c.args.self.now c.loop-slot.self c.decommit_first.new.self c.loop-slot.invariant.running (sym c.loop-slot-test.ensures) c.in_ok-decommit_first.ensures.ok;
      order = order_step c.args.slot c.args.self.now c.loop-slot.self c.decommit_first.new.self c.loop-slot.invariant.order (sym c.loop-slot-test.ensures) c.in_ok-decommit_first.ensures.ok c.in_ok-decommit_first.ensures.order;
    }

pub returns-in_err-decommit_first-clause-err : goal.returns-in_err-decommit_first-clause-err
returns-in_err-decommit_first-clause-err g c =
    always_err c.from_residual.result (IsFaulted c.args.self.now c.decommit_first.new.self)
    (run_faulted c.args.slot c.args.at c.args.self.now c.loop-slot.self c.decommit_first.new.self c.loop-slot.invariant.running (sym c.loop-slot-test.ensures) c.requires.first c.in_err-decommit_first.ensures.err)

pub returns-in_err-decommit_first-clause-order : goal.returns-in_err-decommit_first-clause-order
returns-in_err-decommit_first-clause-order g c =
    let old : Queue = c.args.self.now in
    let k : SlotName = c.args.slot in
    let F : Bool → Type 0 = λ ok. AreInOrder k (run_of k old.ranges) ok old.slots c.decommit_first.new.self.slots in
    subst F (sym (not_ok c.from_residual.result c.from_residual.ensures.0))
    (order_faulted k old c.loop-slot.self c.decommit_first.new.self c.loop-slot.invariant.order (sym c.loop-slot-test.ensures) c.in_err-decommit_first.ensures.order)

pub returns-clause-ok : goal.returns-clause-ok
returns-clause-ok g c = run_over c.args.slot c.args.at c.args.self.now c.loop-slot.self c.loop-slot.invariant.running (sym c.loop-slot-test.ensures)

pub returns-clause-order : goal.returns-clause-order
returns-clause-order g c = order_over c.args.slot c.args.self.now c.loop-slot.self c.loop-slot.invariant.order (sym c.loop-slot-test.ensures)
