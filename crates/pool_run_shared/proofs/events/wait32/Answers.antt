use Rattle.std.proofs.Common.{refl, sym, ◌∙◌, subst, ℕ, Option}
use Rattle.pool_run_shared.proofs.Imports.{w32, WaitsShared}
use Rattle.pool_run_shared.specs.Events.{Waits, deadline_of, view_of, word_address}
use Rattle.pool_run_shared.specs.Steps.{IsWaitReply}
use Rattle.pool_run_shared.proofs.Moves.{refused_wait, begun, if_ok}
use Rattle.pool_run_shared.proofs.events.wait32.Goals as goal

pub refusal-requires : goal.refusal-requires
refusal-requires g c = (2, refl)

pub returns-in-Some-clause-waits : goal.returns-in-Some-clause-waits
returns-in-Some-clause-waits g c =
    refused_wait w32 (word_address w32 c.args.at (view_of c.args.state.now)) c.args.waiter c.args.expect c.args.now (deadline_of c.args.now c.args.timeout) (view_of c.args.state.now) c.in-Some.reply (sym c.refusal.ensures ∙ c.in-Some.is)

pub returns-clause-waits : goal.returns-clause-waits
returns-clause-waits g c =
    let access = word_address w32 c.args.at (view_of c.args.state.now) in
    let W : Option ℕ → Type 0 = λ d. WaitsShared w32 access c.args.waiter c.args.expect d c.args.now c.args.state.now c.wait32.new.self c.wait32.result in
    if_ok c.wait_reply.result (IsWaitReply c.wait32.result) (Waits w32 c.args.waiter c.args.at c.args.expect c.args.now c.args.timeout (view_of c.args.state.now) (view_of c.wait32.new.self))
    (λ reply is. (begun w32 access c.args.waiter c.args.expect c.args.now (deadline_of c.args.now c.args.timeout) c.args.state.now c.wait32.new.self c.wait32.result reply (sym c.refusal.ensures ∙ c.in_default.is) (subst W c.deadline_of.ensures c.wait32.ensures) is).0)
    c.wait_reply.ensures
