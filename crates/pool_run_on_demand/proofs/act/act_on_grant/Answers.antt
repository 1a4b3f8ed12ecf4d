use Rattle.std.proofs.Common.{sym, subst}
use Rattle.pool_run_on_demand.proofs.Imports.{given_op, rule_of, stack_grant, heap_grant, seen_stack}
use Rattle.pool_memory.specs.declared.creators.LinearMemory.{LinearMemory}
use Rattle.pool_run_on_demand.specs.Seen.{BytesOfGrant, IsHeldGrant, seen_grant, seen_lease}
use Rattle.pool_run_on_demand.proofs.Grants.{instance_bytes, heap_bytes}
use Rattle.pool_run_on_demand.specs.Left.{GrantSpends}
use Rattle.pool_run_on_demand.specs.declared.grant.OnDemandGrant.TheVariants.{Instance, Stack, Heap}
use Rattle.pool_run_on_demand.proofs.Live.{instance_spends, heap_spends, stack_spends}
use Rattle.pool_run_on_demand.proofs.act.act_on_grant.Goals as goal

pub act_on_instance-instance-requires : goal.act_on_instance-instance-requires
act_on_instance-instance-requires g c = record { held = subst (IsHeldGrant (g.M.PageMaker.told c.args.maker.now).tells) c.in-Instance.is c.requires.held }

pub returns-in-Instance-clause-moves : goal.returns-in-Instance-clause-moves
returns-in-Instance-clause-moves g c =
    let tells = (g.M.PageMaker.told c.args.maker.now).tells in
    let op = given_op c.args.op.now in
    let rule = rule_of c.args.limits in
    let k = c.args.memory in
    let call = c.act_on_instance-instance in
    subst (λ x. BytesOfGrant op rule k (seen_grant tells x) call.result.1 (seen_grant tells (Instance call.result.0))) (sym c.in-Instance.is) (instance_bytes op rule k tells c.in-Instance.instance call.result.0 call.result.1 call.ensures.moves)

pub returns-in-Stack-clause-moves : goal.returns-in-Stack-clause-moves
returns-in-Stack-clause-moves g c =
    let tells = (g.M.PageMaker.told c.args.maker.now).tells in
    let op = given_op c.args.op.now in
    let rule = rule_of c.args.limits in
    let k = c.args.memory in
    let call = c.act_on_lease-lease in
    subst (λ x. BytesOfGrant op rule k (seen_grant tells x) call.result.1 (stack_grant (seen_stack call.result.0.stack))) (sym c.in-Stack.is) (call.ensures rule)

pub act_on_heap-lease-requires : goal.act_on_heap-lease-requires
act_on_heap-lease-requires g c = record { held = subst (IsHeldGrant (g.M.PageMaker.told c.args.maker.now).tells) c.in-Heap.is c.requires.held }

pub returns-in-Heap-clause-moves : goal.returns-in-Heap-clause-moves
returns-in-Heap-clause-moves g c =
    let tells = (g.M.PageMaker.told c.args.maker.now).tells in
    let op = given_op c.args.op.now in
    let rule = rule_of c.args.limits in
    let k = c.args.memory in
    let call = c.act_on_heap-lease in
    let lease = c.in-Heap.heap in
    subst (λ x. BytesOfGrant op rule k (seen_grant tells x) call.result.1 (heap_grant lease.index.0 (seen_lease tells call.result.0))) (sym c.in-Heap.is) (heap_bytes op rule k tells lease.index.0 c.in-Heap.lease call.result.0 call.result.1 call.ensures.moves)

pub returns-in-Instance-clause-spends : goal.returns-in-Instance-clause-spends
returns-in-Instance-clause-spends g c =
    let told = g.M.PageMaker.told in
    let tells = (told c.args.maker.now).tells in
    let op = given_op c.args.op.now in
    let rule = rule_of c.args.limits in
    let k = c.args.memory in
    let call = c.act_on_instance-instance in
    subst (λ x. GrantSpends tells op rule (told c.args.maker.now) (told call.new.maker) k x (Instance call.result.0) call.result.1) (sym c.in-Instance.is) (instance_spends tells op rule (told c.args.maker.now) (told call.new.maker) k c.in-Instance.instance call.result.0 call.result.1 call.ensures.spends)

pub returns-in-Stack-clause-spends : goal.returns-in-Stack-clause-spends
returns-in-Stack-clause-spends g c =
    let maker = g.M.PageMaker.told c.args.maker.now in
    let op = given_op c.args.op.now in
    let rule = rule_of c.args.limits in
    let call = c.act_on_lease-lease in
    subst (λ x. GrantSpends maker.tells op rule maker maker c.args.memory x (Stack call.result.0) call.result.1) (sym c.in-Stack.is) (stack_spends g.row.M.Denot (LinearMemory g.row.M-Region.Denot) g.row.M-Region.Denot maker.tells op rule maker c.args.memory call.result.1 c.in-Stack.lease call.result.0)

pub returns-in-Heap-clause-spends : goal.returns-in-Heap-clause-spends
returns-in-Heap-clause-spends g c =
    let told = g.M.PageMaker.told in
    let tells = (told c.args.maker.now).tells in
    let op = given_op c.args.op.now in
    let rule = rule_of c.args.limits in
    let k = c.args.memory in
    let call = c.act_on_heap-lease in
    subst (λ x. GrantSpends tells op rule (told c.args.maker.now) (told call.new.maker) k x (Heap c.in-Heap.heap call.result.0) call.result.1) (sym c.in-Heap.is) (heap_spends tells op rule (told c.args.maker.now) (told call.new.maker) k g.row.M-Region.Denot c.in-Heap.heap c.in-Heap.lease call.result.0 call.result.1 call.ensures.spends)
