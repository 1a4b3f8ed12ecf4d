use Rattle.std.proofs.Common.{◌≡◌, ℕ, ◌<◌, ◌≤◌, length, All, slice_index_or, vec_capacity}
use Rattle.pool_hall.specs.Seat.{view, IsSeatOf, IsFree}
use Rattle.pool_hall.specs.Step.{left_with}
use Rattle.pool_hall.specs.declared.hall.HallSeat.{HallSeat}
use Rattle.pool_slots.specs.declared.listed_heaps.PlainHeap.{PlainHeap}
use Rattle.pool_driver.specs.declared.part.HallPart.{HallPart}
use Rattle.pool_workers.specs.Workers.{IsReady}
use Rattle.pool_workers.specs.declared.worker.Worker.{Worker}
use Rattle.pool_workers.proofs.workers.make_workers.Given as goal

-- the first parties have their workers, and there is room for the others'
abbrev pub invariant-loop-at : goal.invariant-loop-at
invariant-loop-at g l = record {
  own : IsSeatOf l.pool.hall l.seat;
  free : IsFree l.seat;
  left : view l.seat ≡ left_with l.at (view l.initial.seat);
  each : All (IsReady g.M.PageMaker.told l.input l.pool) l.workers.items;
  numbers : (i : ℕ) (d : Worker (HallSeat (HallPart g.row.P.Denot PlainHeap g.row.M.Denot)) g.row.P.Denot) → i < length l.workers.items → (slice_index_or l.workers.items i d).number ≡ i;
  done : length l.workers.items ≡ l.at;
  room : length l.input.parties ≤ vec_capacity l.workers;
}
