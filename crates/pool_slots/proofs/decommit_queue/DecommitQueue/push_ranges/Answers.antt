use Rattle.std.proofs.Common.{ap, ◌∙◌, refl, take}
use Rattle.pool_images.specs.declared.ranges.ByteRange.{ByteRange}
use Rattle.pool_slots.specs.SlotQueues.{Queue, with_range, with_ranges}
use Rattle.pool_slots.proofs.SlotFaults.{range_of, ranges_more}
use Rattle.pool_slots.proofs.decommit_queue.DecommitQueue.push_ranges.Goals as goal

pub loop-at-preserved : goal.loop-at-preserved
loop-at-preserved g c =
    let r : ByteRange = c.range_at.result in
    record {
      pushed =
          c.push_range.ensures
          ∙ ap (λ (q : Queue). with_range (range_of c.args.kind c.args.slot.0 r) q) c.loop-at.invariant.pushed
          ∙ ap (λ (x : ByteRange). with_range (range_of c.args.kind c.args.slot.0 x) (with_ranges c.args.kind c.args.slot.0 (take c.loop-at.at c.args.ranges.now) c.args.self.now)) (c.range_at.ensures r)
          ∙ ranges_more c.args.kind c.args.slot.0 c.args.ranges.now c.loop-at.at r c.args.self.now c.loop-at-test.true;
      all = refl;
    }
