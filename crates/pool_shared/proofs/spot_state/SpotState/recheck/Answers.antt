use Rattle.std.proofs.Common.{◌≡◌, ◌∙◌, ℕ, Option, sym, ap, refl, subst, ◌||◌}
use Rattle.std.specs.Option.{IsSome}
use Rattle.std.specs.Map.{values_of}
use Rattle.std.proofs.lemmas.Bool.{cond-true, cond-false}
use Rattle.pool_shared.specs.Spot.{is_waiting, is_marked, is_late, has_passed, without}
use Rattle.pool_shared.proofs.Tickets.{ticket_of_waiting, ticket_is_held, found, removed}
use Rattle.pool_shared.proofs.spot_state.SpotState.recheck.Goals.{then-ends, else-ends}
use Rattle.pool_shared.proofs.spot_state.SpotState.recheck.Goals as goal

pub index-requires : goal.index-requires
index-requires c =
    subst (λ (o : Option ℕ). IsSome o) (sym (c.self.invariant.by_waiter c.args.waiter)) (ticket_of_waiting c.args.waiter c.self.inside.waits.entries (ap (is_waiting c.args.waiter) c.self.view_is ∙ c.requires))

pub index-requires-2 : goal.index-requires-2
index-requires-2 c =
    ticket_is_held c.args.waiter c.index.result.now c.self.inside.waits.entries (sym (c.self.invariant.by_waiter c.args.waiter) ∙ c.index.ensures)

pub invariant_of-self : goal.invariant_of-self
invariant_of-self c =
    removed c.args.waiter c.index.result.now c.self.inside.waits.entries c.remove-then-ends.new.self.entries c.index-2.result.now _ _ _ _ c.self.invariant (sym (c.self.invariant.by_waiter c.args.waiter) ∙ c.index.ensures) c.index-2.ensures c.remove-then-ends.ensures.entries c.remove-then-ends.ensures.ordered c.remove-then-ends.ensures.updates.0 c.remove.ensures.updates.0 c.remove-then-ends-2.ensures.updates.0

pub returns-clause-answer : goal.returns-clause-answer
returns-clause-answer c =
    let es = c.self.inside.waits.entries in
    let its = found c.args.waiter c.index.result.now es c.index-2.result.now c.self.invariant.ordered c.self.invariant.distinct (sym (c.self.invariant.by_waiter c.args.waiter) ∙ c.index.ensures) c.index-2.ensures in
    let marked : is_marked c.args.waiter (values_of es) ≡ c.index-2.result.now.marked = its.its (λ w. w.marked) in
    let late : is_late c.args.now c.args.waiter (values_of es) ≡ has_passed c.args.now c.index-2.result.now.deadline = its.its (λ w. has_passed c.args.now w.deadline) in
    rw (← c.self.view_is, c.step.ensures, marked, late) refl

pub returns-clause-after : goal.returns-clause-after
returns-clause-after c =
    let es = c.self.inside.waits.entries in
    let ws = values_of es in
    let its = found c.args.waiter c.index.result.now es c.index-2.result.now c.self.invariant.ordered c.self.invariant.distinct (sym (c.self.invariant.by_waiter c.args.waiter) ∙ c.index.ensures) c.index-2.ensures in
    let marked : is_marked c.args.waiter ws ≡ c.index-2.result.now.marked = its.its (λ w. w.marked) in
    let late : is_late c.args.now c.args.waiter ws ≡ has_passed c.args.now c.index-2.result.now.deadline = its.its (λ w. has_passed c.args.now w.deadline) in
    let ends : (is_marked c.args.waiter ws || is_late c.args.now c.args.waiter ws) ≡ c.ends.result = rw (marked, late) (sym c.ends.ensures) in
    elim c.if-ends.branch [
      | then-ends w ↦ rw (w.self-is, ← c.self.view_is, w.remove-then-ends.ensures.entries, its.gone) (sym (cond-true _ (without c.args.waiter ws) ws (ends ∙ w.if-ends.true)))
      | else-ends w ↦ rw (w.self-is, ← c.self.view_is) (sym (cond-false _ (without c.args.waiter ws) ws (ends ∙ w.if-ends.false)))
    ]
