use Rattle.std.proofs.Common.{◌≡◌, ◌∙◌, ◌++◌, ◌∷◌, [], ℕ, Option, Some, List, cond, nat_eq, sym, ap}
use Rattle.pool_shared.specs.Spot.{is_waiting}
use Rattle.pool_shared.specs.declared.waiting.Waiting.{Waiting}
use Rattle.pool_shared.proofs.Tickets.{entered, restored, if_err, if_no_err}
use Rattle.pool_shared.proofs.spot_state.SpotState.park.Goals as goal

pub invariant_of-self-then-is_err : goal.invariant_of-self-then-is_err
invariant_of-self-then-is_err c =
    restored c.in-Some.ticket c.args.wait.addr c.self.inside.waits.entries c.insert-2.new.self.entries _ _ _ _ _ c.self.invariant c.in-Some.ensures.above (if_err c.insert-2.result _ (sym c.is_err.ensures.value ∙ c.if-is_err.true) c.insert-2.ensures.err) c.reserve.ensures.entries.2 c.in_ok-insert.ensures.updates.0 c.remove.ensures.updates.0

pub invariant_of-self-2 : goal.invariant_of-self-2
invariant_of-self-2 c =
    let ok = sym c.is_err.ensures.value ∙ c.if-is_err.false in
    (entered c.in-Some.ticket c.self.inside.waits.entries c.insert-2.new.self.entries c.args.wait _ _ _ _ c.self.invariant (ap (is_waiting c.args.wait.waiter) c.self.view_is ∙ c.requires.apart) c.requires.parked c.in-Some.ensures.above (if_no_err c.insert-2.result _ ok c.insert-2.ensures.entries) c.insert-2.ensures.ordered (if_no_err c.insert-2.result _ ok c.insert-2.ensures.updates).0 (λ j. c.in-Ok.ensures.updates.0 j ∙ ap (λ (o : Option ℕ). cond (nat_eq c.args.wait.waiter j) (Some c.in-Some.ticket) o) (c.reserve.ensures.entries.2 j)) c.in_ok-insert.ensures.updates.0).1

pub returns-clause-ok : goal.returns-clause-ok
returns-clause-ok c =
    let ok = sym c.is_err.ensures.value ∙ c.if-is_err.false in
    (entered c.in-Some.ticket c.self.inside.waits.entries c.insert-2.new.self.entries c.args.wait _ _ _ _ c.self.invariant (ap (is_waiting c.args.wait.waiter) c.self.view_is ∙ c.requires.apart) c.requires.parked c.in-Some.ensures.above (if_no_err c.insert-2.result _ ok c.insert-2.ensures.entries) c.insert-2.ensures.ordered (if_no_err c.insert-2.result _ ok c.insert-2.ensures.updates).0 (λ j. c.in-Ok.ensures.updates.0 j ∙ ap (λ (o : Option ℕ). cond (nat_eq c.args.wait.waiter j) (Some c.in-Some.ticket) o) (c.reserve.ensures.entries.2 j)) c.in_ok-insert.ensures.updates.0).0 ∙ ap (λ (ws : List Waiting). ws ++ c.args.wait ∷ []) c.self.view_is
