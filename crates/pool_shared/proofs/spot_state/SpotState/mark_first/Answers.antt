use Rattle.std.proofs.Common.{◌≡◌, ◌∙◌, [], sym, ap, refl}
use Rattle.std.specs.Map.{values_of}
use Rattle.pool_shared.specs.Spot.{parked_at, after_notify}
use Rattle.pool_shared.proofs.First.{is_there, none_first, marked, is_one, changes_nothing}
use Rattle.pool_shared.proofs.spot_state.SpotState.mark_first.Goals as goal

pub returns-in_default-clause-answer : goal.returns-in_default-clause-answer
returns-in_default-clause-answer c =
    let none : parked_at c.args.addr (values_of c.self.inside.waits.entries) ≡ [] = none_first c.args.addr c.self.inside.waits.entries c.self.invariant.ordered (λ q. sym (c.self.invariant.by_address (c.args.addr, q)) ∙ c.in_default.ensures.none q) in
    rw (← c.self.view_is, none) refl

pub returns-in_default-clause-after : goal.returns-in_default-clause-after
returns-in_default-clause-after c =
    let none : parked_at c.args.addr (values_of c.self.inside.waits.entries) ≡ [] = none_first c.args.addr c.self.inside.waits.entries c.self.invariant.ordered (λ q. sym (c.self.invariant.by_address (c.args.addr, q)) ∙ c.in_default.ensures.none q) in
    sym (changes_nothing c.args.addr 1 c.args.self.now (ap (parked_at c.args.addr) (sym c.self.view_is) ∙ none))

pub mark-requires : goal.mark-requires
mark-requires c = is_there c.args.addr _ (sym (c.self.invariant.by_address (c.args.addr, c.in-Some.ticket)) ∙ c.in-Some.ensures.parked)

pub invariant_of-self : goal.invariant_of-self
invariant_of-self c =
    (marked c.args.addr c.in-Some.ticket c.self.inside.waits.entries c.mark.new.waits.entries _ _ _ c.self.invariant c.in-Some.ensures.parked c.in-Some.ensures.first c.mark.ensures.entries c.mark.ensures.ordered c.mark.ensures.others c.remove.ensures.updates.0).1

pub returns-clause-answer : goal.returns-clause-answer
returns-clause-answer c =
    is_one c.args.addr c.in-Some.ticket c.self.inside.waits.entries (sym (c.self.invariant.by_address (c.args.addr, c.in-Some.ticket)) ∙ c.in-Some.ensures.parked) ∙ rw c.self.view_is refl

pub returns-clause-after : goal.returns-clause-after
returns-clause-after c =
    (marked c.args.addr c.in-Some.ticket c.self.inside.waits.entries c.mark.new.waits.entries _ _ _ c.self.invariant c.in-Some.ensures.parked c.in-Some.ensures.first c.mark.ensures.entries c.mark.ensures.ordered c.mark.ensures.others c.remove.ensures.updates.0).0 ∙ ap (after_notify c.args.addr 1) c.self.view_is
