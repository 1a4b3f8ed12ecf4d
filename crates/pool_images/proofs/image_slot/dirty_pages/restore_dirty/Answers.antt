use Rattle.std.proofs.Common.{◌≡◌, ◌+◌, ◌*◌, ◌<◌, ◌∷◌, drop, refl, sym, ap, ◌∙◌, subst, arith, inr, IfSome}
use Rattle.pool_images.proofs.Imports.{Told, CanReach}
use Rattle.pool_images.specs.Resets.{IsSpan, marked_from, marked_pages, pages_restored, span_marks}
use Rattle.pool_images.proofs.MarkedPages.{all_from, none_from, marked_first, skipped, taken_more}
use Rattle.pool_images.proofs.Spans.{span_long, span_restored, later_marks, page_reach, reach_kept, one_restored, all_taken}
use Rattle.pool_images.proofs.image_slot.dirty_pages.restore_dirty.Goals as goal

pub loop-count-init : goal.loop-count-init
loop-count-init g c =
    let first = c.next_marked-next.ensures in
    let marks = span_marks c.args.span c.args.region.now in
    let long = span_long c.args.span c.args.region.now c.requires.span in
    record {
      within = first.within;
      there = first.there;
      count = omega arith;
      long = omega arith;
      done = refl;
      left = sym (skipped (span_marks c.args.span c.args.region.now) 0 c.next_marked-next.result (omega arith) (omega (arith, first.within, long)) first.between) ∙ all_from (span_marks c.args.span c.args.region.now);
      span = c.requires.span;
      reach = c.requires.reachable;
      shaped = c.requires.shaped;
    }

pub restore-requires-clause-reachable : goal.restore-requires-clause-reachable
restore-requires-clause-reachable g c =
    let had = c.loop-count.invariant in
    page_reach c.args.span c.loop-count.region had.span c.loop-count.next (omega (arith, c.if-next-span.true)) had.shaped had.reach

pub next_marked-next-requires-in-loop-count-clause-span : goal.next_marked-next-requires-in-loop-count-clause-span
next_marked-next-requires-in-loop-count-clause-span g c =
    let had = c.loop-count.invariant in
    span_restored c.args.span c.loop-count.region had.span c.loop-count.next c.restore.new.self (omega (arith, c.if-next-span.true)) c.restore.ensures.restored

pub loop-count-preserved : goal.loop-count-preserved
loop-count-preserved g c =
    let had = c.loop-count.invariant in
    let next = c.loop-count.next in
    let now : Told = c.restore.new.self in
    let is = c.restore.ensures.restored in
    let rest = c.next_marked-next-in-loop-count.ensures in
    let below : c.loop-count.next < c.args.span.pages = omega (arith, c.if-next-span.true) in
    let span : IsSpan c.args.span c.restore.new.self = span_restored c.args.span c.loop-count.region had.span c.loop-count.next c.restore.new.self below is in
    let long = span_long c.args.span c.loop-count.region had.span in
    let long' = span_long c.args.span c.restore.new.self span in
    let here : drop c.loop-count.count (marked_pages (span_marks c.args.span c.args.region.now)) ≡ c.loop-count.next ∷ marked_from (c.loop-count.next + 1) (span_marks c.args.span c.loop-count.region) =
    sym had.left ∙ marked_first (span_marks c.args.span c.loop-count.region) c.loop-count.next (omega (arith, below, long)) (had.there below) in
    let more = taken_more c.loop-count.count (marked_pages (span_marks c.args.span c.args.region.now)) c.loop-count.next (marked_from (c.loop-count.next + 1) (span_marks c.args.span c.loop-count.region)) here in
    let R : Told → Type 0 = λ t. IfSome t.contents (CanReach c.args.span.base (c.args.span.pages * c.args.span.page)) in
    record {
      within = rest.within;
      there = rest.there;
      count = omega (arith, c.loop-count-test.true);
      long = omega (arith, more.2);
      done = one_restored c.args.span c.loop-count.count c.loop-count.next c.args.region.now c.loop-count.region c.restore.new.self (marked_pages (span_marks c.args.span c.args.region.now)) (marked_from (c.loop-count.next + 1) (span_marks c.args.span c.loop-count.region)) had.done had.span.page here is;
      left = sym (skipped (span_marks c.args.span c.restore.new.self) (c.loop-count.next + 1) c.next_marked-next-in-loop-count.result rest.from (omega (arith, rest.within, long')) rest.between)
          ∙ later_marks c.args.span c.loop-count.region had.span c.loop-count.next c.restore.new.self below is
          ∙ sym more.1;
      span = span;
      reach = subst R (sym is) (reach_kept c.args.span.base (c.args.span.pages * c.args.span.page) (c.args.span.base + c.loop-count.next * c.args.span.page) c.args.span.page c.loop-count.region.contents had.reach);
      shaped = c.restore.ensures.shaped;
    }

pub returns-else-next-span-clause-region : goal.returns-else-next-span-clause-region
returns-else-next-span-clause-region g c =
    let had = c.loop-count.invariant in
    let long = span_long c.args.span c.loop-count.region had.span in
    let none = sym had.left ∙ none_from (span_marks c.args.span c.loop-count.region) c.loop-count.next (omega (arith, long, c.if-next-span.false)) in
    let all = all_taken c.loop-count.count c.args.most (marked_pages (span_marks c.args.span c.args.region.now)) had.count had.long (inr none) in
    had.done ∙ ap (λ ks. pages_restored c.args.span.base ks c.args.region.now) all.0

pub returns-else-next-span-clause-count : goal.returns-else-next-span-clause-count
returns-else-next-span-clause-count g c =
    let had = c.loop-count.invariant in
    let long = span_long c.args.span c.loop-count.region had.span in
    let none = sym had.left ∙ none_from (span_marks c.args.span c.loop-count.region) c.loop-count.next (omega (arith, long, c.if-next-span.false)) in
    (all_taken c.loop-count.count c.args.most (marked_pages (span_marks c.args.span c.args.region.now)) had.count had.long (inr none)).2

pub returns-else-next-span-clause-left : goal.returns-else-next-span-clause-left
returns-else-next-span-clause-left g c =
    let had = c.loop-count.invariant in
    let long = span_long c.args.span c.loop-count.region had.span in
    let none = sym had.left ∙ none_from (span_marks c.args.span c.loop-count.region) c.loop-count.next (omega (arith, long, c.if-next-span.false)) in
    had.left ∙ (all_taken c.loop-count.count c.args.most (marked_pages (span_marks c.args.span c.args.region.now)) had.count had.long (inr none)).1
