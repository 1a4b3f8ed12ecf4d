use Rattle.std.proofs.Common.{sym, ap, ◌∙◌, ◌==◌}
use Rattle.std.specs.List.{list_any}
use Rattle.pool_pages.proofs.call_plan.CallPlan.lists.Goals as goal

pub returns-then-number-self : goal.returns-then-number-self
returns-then-number-self c =
    sym (sym (c.self.invariant.rises.same c.args.number) ∙ c.self.invariant.none c.args.number c.if-self-number.true c.if-number-self.true)
    ∙ ap (list_any (λ n. n == c.args.number)) c.self.view_is

pub returns-else-self-number : goal.returns-else-self-number
returns-else-self-number c =
    c.has.ensures
    ∙ ap (list_any (λ n. n == c.args.number)) c.as_slice.ensures.value
    ∙ c.self.invariant.rises.same c.args.number
    ∙ ap (list_any (λ n. n == c.args.number)) c.self.view_is
