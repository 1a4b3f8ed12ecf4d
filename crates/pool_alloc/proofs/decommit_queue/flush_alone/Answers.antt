use Rattle.std.proofs.Common.{◌<◌, ◌≤◌, length}
use Rattle.pool_alloc.specs.StepTable.{run, zero, kind_settled}
use Rattle.pool_alloc.proofs.FlushCalls.{flush_runs, flush_zeroes, flushes_to}
use Rattle.pool_alloc.proofs.StepsAsRows.{nothing_told}
use Rattle.pool_alloc.proofs.decommit_queue.flush_alone.Goals as goal

pub returns-then-raw_len-gt0 : goal.returns-then-raw_len-gt0
returns-then-raw_len-gt0 g c =
    let some : 0 < length c.args.frame.now.local.ranges = rw (← c.raw_len.ensures.value) c.if-raw_len-gt0.true in
    flushes_to run c.args.frame.now c.decommit.new.frame c.decommit.new.outcome (flush_runs c.args.frame.now.local c.args.frame.now.freed.items some) (record nothing_told { fault = c.decommit.ensures.0; queue = c.decommit.ensures.1 }, c.decommit.ensures.2, c.decommit.ensures.3, c.decommit.ensures.4)

pub returns : goal.returns
returns g c =
    let none : length c.args.frame.now.local.ranges ≤ 0 = rw (← c.raw_len.ensures.value) c.if-raw_len-gt0.false in
    flushes_to (zero (kind_settled c.args.frame.now.local.slots c.args.frame.now.freed.items)) c.args.frame.now c.zero.new.frame c.zero.new.outcome (flush_zeroes c.args.frame.now none c.requires.can).0 (nothing_told, tt, tt, rw (← c.kind_settled-kind.ensures) c.zero.ensures)
