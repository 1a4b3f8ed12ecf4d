use Rattle.std.proofs.Common.{◌<◌, length, refl, arith}
use Rattle.pool_run_on_demand.proofs.Imports.{All-set, state_of, nat_tests, slice_get_read, given_op, rule_of}
use Rattle.pool_run_on_demand.specs.Seen.{IsHeld}
use Rattle.pool_run_on_demand.proofs.Live.{leases_spend}
use Rattle.pool_run_on_demand.proofs.act.act_in_list.Goals as goal

pub returns-clause-held : goal.returns-clause-held
returns-clause-held g c = All-set (λ l. IsHeld (g.M.PageMaker.told c.args.maker.now).tells (state_of l.memory)) c.args.memories.now.items c.args.memory _ c.act_on_memory.ensures.held c.requires.held

pub returns-clause-spends : goal.returns-clause-spends
returns-clause-spends g c =
    let told = g.M.PageMaker.told in
    let memories = c.args.memories.now.items in
    let memory = c.index_mut.result.now in
    let inside : c.args.memory < length memories = grind (arith, nat_tests, c.if-memory-len.false, c.len.ensures) in
    leases_spend (told c.args.maker.now).tells (given_op c.args.op.now) (rule_of c.args.limits) (told c.args.maker.now) (told c.act_on_memory.new.maker) c.args.memory memories memory _ c.act_on_memory.result (slice_get_read memories (length memories) c.args.memory memory refl inside c.index_mut.ensures.value) c.act_on_memory.ensures.spends
