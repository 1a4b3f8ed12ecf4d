use Rattle.std.proofs.Common.{◌≡◌, arith}
use Rattle.pool_run_on_demand.proofs.Imports.{nat_tests, given_op, rule_of}
use Rattle.pool_run_on_demand.proofs.Live.{heap_memory_spends}
use Rattle.pool_run_on_demand.proofs.act.act_on_heap.Goals as goal

pub returns-clause-spends : goal.returns-clause-spends
returns-clause-spends g c =
    let told = g.M.PageMaker.told in
    let call = c.act_on_memory-reply in
    let first : c.args.memory ≡ 0 = grind (arith, nat_tests, c.if-memory-gt0.false) in
    heap_memory_spends (told c.args.maker.now).tells (given_op c.args.op.now) (rule_of c.args.limits) (told c.args.maker.now) (told call.new.maker) c.args.memory c.args.lease (record { index = c.args.lease.index; memory = call.new.memory }) call.result first call.ensures.spends
