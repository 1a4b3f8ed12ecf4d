use Rattle.std.proofs.Common.{◌+◌, rules, refl, ap, ◌∙◌}
use Rattle.pool_hall.specs.Seat.{view}
use Rattle.pool_hall.specs.Step.{left_with}
use Rattle.pool_hall.specs.declared.hall.HallSeat.{HallSeat}
use Rattle.pool_slots.specs.declared.listed_heaps.PlainHeap.{PlainHeap}
use Rattle.pool_driver.specs.declared.part.HallPart.{HallPart}
use Rattle.pool_workers.specs.Workers.{IsReady}
use Rattle.pool_workers.specs.declared.worker.Worker.{Worker}
use Rattle.pool_workers.proofs.Numbered.{HasMore, has_more, left_more, left_none}
use Rattle.pool_workers.proofs.workers.make_workers.Goals as goal

pub loop-at-init : goal.loop-at-init
loop-at-init g c =
    record {
      own = search rules;
      free = search rules;
      left = left_none (view c.args.seat.now);
      each = search rules;
      numbers = search rules;
      done = search rules;
      room = search rules;
    }

pub loop-at-preserved : goal.loop-at-preserved
loop-at-preserved g c =
    let inv = c.loop-at.invariant in
    let made = c.in_ok-worker.ensures in
    let ready : Worker (HallSeat (HallPart g.row.P.Denot PlainHeap g.row.M.Denot)) g.row.P.Denot → Type 0 = IsReady g.M.PageMaker.told c.args.input.now c.args.pool.now in
    let more : HasMore ready (λ w. w.number) c.loop-at.at c.push_reserved.new.self.items =
    has_more ready (λ w. w.number) c.loop-at.at c.loop-at.workers.items c.push_reserved.new.self.items c.in_ok-worker.worker c.push_reserved.ensures.items inv.each made.ready inv.numbers made.number inv.done in
    record {
      own = made.own;
      free = made.free;
      left = made.left ∙ ap (left_with 1) inv.left ∙ left_more 1 c.loop-at.at (c.loop-at.at + 1) (view c.args.seat.now) refl;
      each = more.each;
      numbers = more.numbers;
      done = more.done;
      room = search rules;
    }

pub returns-clause-ready : goal.returns-clause-ready
returns-clause-ready g c = record { count = search rules; each = c.loop-at.invariant.each; numbers = c.loop-at.invariant.numbers }
