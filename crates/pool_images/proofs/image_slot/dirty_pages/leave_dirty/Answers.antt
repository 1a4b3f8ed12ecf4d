use Rattle.std.proofs.Common.{◌≤◌, ◌<◌, [], ◌∷◌, length, arith, ap, length-append}
use Rattle.pool_images.specs.Resets.{pages_range}
use Rattle.pool_images.proofs.Spans.{leave_init, leave_more, left_none, left_last}
use Rattle.pool_images.proofs.image_slot.dirty_pages.leave_dirty.Goals as goal
use Rattle.pool_images.proofs.image_slot.dirty_pages.leave_dirty.Goals.{then-loop-next-test+else-len, else-loop-next-test}

pub loop-next-init : goal.loop-next-init
loop-next-init g c =
    let first = c.next_marked-next.ensures in
    record {
      within = first.within;
      there = first.there;
      count = omega (arith, ap length c.requires.empty);
      runs = leave_init c.args.span c.args.region.now c.requires.span c.args.ranges.now c.args.from c.next_marked-next.result c.requires.empty first.from first.within first.between;
    }

pub loop-next-preserved : goal.loop-next-preserved
loop-next-preserved g c =
    let had = c.loop-next.invariant in
    let run = c.next_marked-end.ensures in
    let rest = c.next_marked-next-in-loop-next.ensures in
    let below : c.loop-next.next < c.args.span.pages = omega (arith, c.loop-next-test.true) in
    record {
      within = rest.within;
      there = rest.there;
      count = omega (arith, ap length c.push_pages.ensures, length-append c.loop-next.ranges (pages_range c.args.span.page c.loop-next.next c.next_marked-end.result ∷ []), c.len.ensures.value, c.if-len.true);
      runs = leave_more c.args.span c.args.region.now c.requires.span c.loop-next.ranges c.push_pages.new.ranges _ c.loop-next.next c.next_marked-end.result c.next_marked-next-in-loop-next.result
          had.runs below (had.there below) run.from run.within run.between run.there c.push_pages.ensures rest.from rest.within rest.between;
    }

pub returns-then-next-span : goal.returns-then-next-span
returns-then-next-span g c =
    let had = c.loop-next.invariant in
    let full : 7 ≤ length c.loop-next.ranges = elim c.loop-next-test.branch [
      | then-loop-next-test+else-len w ↦ omega (arith, w.len.ensures.value, w.if-len.false)
      | else-loop-next-test w ↦ absurd (omega (arith, w.loop-next-test.false, c.if-next-span.true))
    ] in
    left_last c.args.span c.args.region.now c.requires.span c.loop-next.ranges c.push_pages-then-next-span.new.ranges _ c.loop-next.next c.last_end-end.result had.count full had.runs c.push_pages-then-next-span.ensures c.last_end-end.ensures.value

pub returns-else-next-span : goal.returns-else-next-span
returns-else-next-span g c =
    let had = c.loop-next.invariant in
    let none : c.args.span.pages ≤ c.loop-next.next = omega (arith, c.if-next-span.false) in
    left_none c.args.span c.args.region.now c.requires.span c.loop-next.ranges _ c.loop-next.next none had.count had.runs
