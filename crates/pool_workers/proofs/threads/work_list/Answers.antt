use Rattle.std.proofs.Common.{◌≡◌, ◌++◌, ◌≤◌, List, length, take, drop, subst, sym, ◌∙◌, vec_capacity}
use Rattle.crossbeam_utils.specs.declared.cache_padded.CachePadded.{CachePadded}
use Rattle.pool_hall.specs.declared.hall.HallSeat.{HallSeat}
use Rattle.pool_slots.specs.declared.listed_heaps.PlainHeap.{PlainHeap}
use Rattle.pool_driver.specs.declared.part.HallPart.{HallPart}
use Rattle.pool_workers.specs.declared.worker.Worker.{Worker}
use Rattle.pool_workers.proofs.Padded.{padded_back, padded_length, padded_ready, written_length}
use Rattle.pool_workers.proofs.threads.work_list.Goals as goal

pub work-requires-clause-ready : goal.work-requires-clause-ready
work-requires-clause-ready g c κs within = padded_ready g.M.PageMaker.told c.args.input.now c.args.pool.now c.args.workers.items c.in_ok-padded.padded.items c.requires.ready c.in_ok-padded.ensures c.as_mut_slice.result.now c.as_mut_slice.ensures.value

pub unpad-requires-clause-room : goal.unpad-requires-clause-room
unpad-requires-clause-room g c =
    let padded : List (CachePadded (Worker (HallSeat (HallPart g.row.P.Denot PlainHeap g.row.M.Denot)) g.row.P.Denot)) = c.in_ok-padded.padded.items in
    let long : length (take c.in_ok-padded.padded.len (c.work.new.workers ++ drop (length c.work.new.workers) padded)) ≡ length padded = written_length c.in_ok-padded.padded.len padded c.as_mut_slice.result.now c.work.new.workers c.in_ok-padded.padded.ok.0 c.as_mut_slice.ensures.value c.work.ensures.count in
    let many : length padded ≡ length c.args.workers.items = padded_length padded c.args.workers.items c.in_ok-padded.ensures in
    let wide : length c.args.workers.items ≡ c.len.result = sym c.args.workers.ok.0 ∙ sym c.len.ensures in
    subst (λ n. n ≤ vec_capacity c.in_ok-back.back) (sym (long ∙ many ∙ wide)) c.in_ok-back.ensures.capacity

pub returns : goal.returns
returns g c = record {
  back = padded_back g.M.PageMaker.told c.args.input.now c.args.pool.now c.args.workers.items c.in_ok-padded.padded.items c.requires.ready c.in_ok-padded.ensures c.args.modules.now c.in_ok-padded.padded.len c.as_mut_slice.result.now c.work.new.workers
      c.unpad.new.values.items c.in_ok-padded.padded.ok.0 c.as_mut_slice.ensures.value c.work.ensures.count c.work.ensures.back c.work.ensures.numbers c.unpad.ensures;
}
