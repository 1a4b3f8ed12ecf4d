use Rattle.std.proofs.Common.{sym, ◌∙◌}
use Rattle.pool_slots.proofs.SlotReturns.{zero_smaller, zero_same, zero_kept, zero_over}
use Rattle.pool_slots.proofs.decommit_queue.DecommitQueue.zero_all.Goals as goal

pub loop-kind-smaller : goal.loop-kind-smaller
loop-kind-smaller g c = zero_smaller c.args.kind c.loop-kind.self c.zero_next.new.self (sym c.zero_next.ensures.value ∙ c.loop-kind-test.true) c.zero_next.ensures.zeroed

pub loop-kind-preserved : goal.loop-kind-preserved
loop-kind-preserved g c =
    record {
      same = zero_same c.args.kind c.args.self.now c.loop-kind.self c.zero_next.new.self c.loop-kind.invariant.same c.zero_next.ensures.zeroed;
      zeroed = zero_kept c.args.kind c.args.self.now c.loop-kind.self c.zero_next.new.self c.loop-kind.invariant.zeroed c.zero_next.ensures.zeroed;
    }

pub returns : goal.returns
returns g c = zero_over c.args.kind c.args.self.now c.loop-kind.self c.zero_next.new.self c.loop-kind.invariant.same c.loop-kind.invariant.zeroed (sym c.zero_next.ensures.value ∙ c.loop-kind-test.false) c.zero_next.ensures.zeroed
