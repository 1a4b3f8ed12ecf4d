use Rattle.std.proofs.Common.{refl, sym, subst}
use Rattle.pool_run.proofs.Imports.{PlainHeap, LeasedStack, Grant}
use Rattle.pool_alloc.specs.declared.frame.Grant.TheVariants.{Stack}
use Rattle.pool_run.specs.AtOnce.{given_op, MovesGrantBytes}
use Rattle.pool_run.specs.PartyRules.{rule_of}
use Rattle.pool_run.proofs.at_once.act_on_grant.Goals as goal

pub returns-in-Stack : goal.returns-in-Stack
returns-in-Stack g c =
    let new : LeasedStack = record { stack = c.act_on_stack.new.stack; numbers = c.lease.inside.numbers } in
    let Moves : Grant g.row.P.Denot PlainHeap → Type 0 = λ x. MovesGrantBytes (given_op c.args.op.now) (rule_of c.args.limits) c.args.memory x c.act_on_stack.result (Stack new) in
    let here : Moves (Stack (record { stack = c.lease.inside.stack; numbers = c.lease.inside.numbers })) = (c.act_on_stack.new.stack, refl, c.act_on_stack.ensures) in
    subst Moves (sym c.in-Stack.is) (subst (λ (l : LeasedStack). Moves (Stack l)) c.lease.view_is here)
