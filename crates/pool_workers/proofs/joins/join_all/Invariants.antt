use Rattle.std.proofs.Common.{◌≡◌, ℕ, ◌+◌, ◌<◌, ◌≤◌, length, All, slice_index_or, vec_capacity}
use Rattle.std.specs.Vec.Iter.{into_iter_items}
use Rattle.pool_hall.specs.Seat.{view, IsSeatOf, IsFree}
use Rattle.pool_hall.specs.declared.hall.HallSeat.{HallSeat}
use Rattle.pool_slots.specs.declared.listed_heaps.PlainHeap.{PlainHeap}
use Rattle.pool_driver.specs.declared.part.HallPart.{HallPart}
use Rattle.pool_workers.specs.Joined.{IsJoined}
use Rattle.pool_workers.specs.Workers.{IsBack}
use Rattle.pool_workers.specs.declared.worker.Worker.{Worker}
use Rattle.pool_workers.proofs.joins.join_all.Given as goal

-- the first parties are joined, and the others' workers are left
abbrev pub invariant-loop-worker : goal.invariant-loop-worker
invariant-loop-worker g l = record {
  own : IsSeatOf l.pool.hall l.seat;
  free : IsFree l.seat;
  joined : IsJoined g.M.PageMaker.told g.all l.pool (view l.seat) l.replies.items;
  left : length l.replies.items + length (into_iter_items l.worker-iterator) ≡ length l.fn.workers.items;
  back : All (IsBack g.M.PageMaker.told g.all.input g.all.modules l.pool) (into_iter_items l.worker-iterator);
  numbers : (i : ℕ) (d : Worker (HallSeat (HallPart g.row.P.Denot PlainHeap g.row.M.Denot)) g.row.P.Denot) → i < length (into_iter_items l.worker-iterator) → (slice_index_or (into_iter_items l.worker-iterator) i d).number ≡ length l.replies.items + i;
  room : length l.replies.items + length (into_iter_items l.worker-iterator) ≤ vec_capacity l.replies;
  portions : (view l.seat).portions ≡ (view l.initial.seat).portions + length l.replies.items;
}

abbrev pub ghost-join_one : goal.ghost-join_one
ghost-join_one g a = g.all
