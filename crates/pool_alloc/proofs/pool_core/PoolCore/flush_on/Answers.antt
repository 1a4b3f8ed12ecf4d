use Rattle.std.proofs.Common.{ℕ, sym, ap, subst, ◌∙◌}
use Rattle.pool_alloc.proofs.Imports.{PoolPart}
use Rattle.pool_alloc.specs.OnCounters.{counted_on}
use Rattle.pool_alloc.specs.OnParts.{row_on}
use Rattle.pool_alloc.specs.StepsAlone.{CanStepAlone}
use Rattle.pool_alloc.specs.Turns.{left_by, part_after, resting}
use Rattle.pool_alloc.specs.declared.frame.Phase.{Phase}
use Rattle.pool_alloc.proofs.ClosingSteps.{closing_alone, closing_not_up}
use Rattle.pool_alloc.proofs.NextTargets.{can_on, can_down, can_alone}
use Rattle.pool_alloc.proofs.OnCounters.{steps_down}
use Rattle.pool_alloc.proofs.OnParts.{steps_at}
use Rattle.pool_alloc.proofs.pool_core.PoolCore.flush_on.Goals as goal

pub at-part-requires : goal.at-part-requires
at-part-requires g c = (can_on c.in-Part.place c.args.self.now c.args.frame.now c.requires.can (sym c.next_target.ensures.value ∙ c.in-Part.is)).0

pub step_part-requires-clause-can : goal.step_part-requires-clause-can
step_part-requires-clause-can g c = rw c.at-part.ensures.value (can_on c.in-Part.place c.args.self.now c.args.frame.now c.requires.can (sym c.next_target.ensures.value ∙ c.in-Part.is)).1

pub down-found-requires : goal.down-found-requires
down-found-requires g c = (can_down c.in-Down.name c.args.self.now c.args.frame.now c.requires.can (sym c.next_target.ensures.value ∙ c.in-Down.is)).1

pub step_counted-requires-clause-can : goal.step_counted-requires-clause-can
step_counted-requires-clause-can g c = (can_down c.in-Down.name c.args.self.now c.args.frame.now c.requires.can (sym c.next_target.ensures.value ∙ c.in-Down.is)).0

pub flush_resting-requires-clause-flush : goal.flush_resting-requires-clause-flush
flush_resting-requires-clause-flush g c = closing_alone c.args.frame.now.phase c.args.self.now c.args.frame.now c.requires.closing c.requires.busy (sym c.next_target.ensures.value ∙ c.in-Alone.is)

pub flush_resting-requires-clause-can : goal.flush_resting-requires-clause-can
flush_resting-requires-clause-can g c =
    let there = sym c.next_target.ensures.value ∙ c.in-Alone.is in
    let C : Phase g.row.P.Denot g.row.H.Denot → Type 0 = λ p. CanStepAlone c.args.self.now.settings c.args.self.now.plan p c.args.frame.now in
    subst C (closing_alone c.args.frame.now.phase c.args.self.now c.args.frame.now c.requires.closing c.requires.busy there) (can_alone c.args.self.now c.args.frame.now c.requires.can there)

pub unreachable-requires : goal.unreachable-requires
unreachable-requires g c = absurd (closing_not_up c.in-Up.field-0 c.args.frame.now.phase c.args.self.now c.args.frame.now c.requires.closing (sym c.next_target.ensures.value ∙ c.in-Up.is))

pub returns-in-Part : goal.returns-in-Part
returns-in-Part g c told =
    let steps = steps_at (λ (a : Unit {0}) e b. Unit {0}) tt told c.in-Part.place c.args.self.now c.args.frame.now _ _ _ (sym c.next_target.ensures.value ∙ c.in-Part.is)
    (c.step_part.ensures.row ∙ ap (λ (x : PoolPart _ _). part_after (row_on c.args.self.now.settings c.args.self.now.plan c.args.frame.now.phase x (resting c.args.frame.now))) c.at-part.ensures.value) in
    (steps.0, steps.1.0)

pub returns-in-Down : goal.returns-in-Down
returns-in-Down g c told =
    let there = sym c.next_target.ensures.value ∙ c.in-Down.is in
    let steps = steps_down (λ (a : Unit {0}) e b. Unit {0}) tt told c.in-Down.name c.args.self.now c.args.frame.now _ _ there (can_down c.in-Down.name c.args.self.now c.args.frame.now c.requires.can there).0
    (c.step_counted.ensures.row ∙ ap (λ (n : ℕ). left_by (counted_on c.args.self.now.settings c.args.self.now.plan c.args.frame.now.phase n (resting c.args.frame.now))) c.down-found.ensures.found) in
    rw c.down-found.ensures.counted (steps.0, steps.1.0)

pub returns-in-Alone : goal.returns-in-Alone
returns-in-Alone g c told = c.flush_resting.ensures told c.args.self.now
