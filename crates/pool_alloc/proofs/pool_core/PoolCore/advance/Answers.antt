use Rattle.std.proofs.Common.{ℕ, refl, sym, ap, ◌∙◌}
use Rattle.pool_alloc.proofs.Imports.{PoolPart}
use Rattle.pool_alloc.specs.OnCounters.{counted_on}
use Rattle.pool_alloc.specs.OnParts.{row_on}
use Rattle.pool_alloc.specs.Turns.{left_by, part_after, resting}
use Rattle.pool_alloc.proofs.NextTargets.{can_on, can_up, can_down, can_alone}
use Rattle.pool_alloc.proofs.OnCounters.{steps_up, steps_down}
use Rattle.pool_alloc.proofs.OnParts.{steps_at}
use Rattle.pool_alloc.proofs.pool_core.PoolCore.advance.Goals as goal

pub at-part-requires : goal.at-part-requires
at-part-requires g c = (can_on c.in-Part.place c.args.self.now c.args.frame.now c.requires.can (sym c.next_target.ensures.value ∙ c.in-Part.is)).0

pub step_part-requires-clause-can : goal.step_part-requires-clause-can
step_part-requires-clause-can g c = rw c.at-part.ensures.value (can_on c.in-Part.place c.args.self.now c.args.frame.now c.requires.can (sym c.next_target.ensures.value ∙ c.in-Part.is)).1

pub up-found-requires : goal.up-found-requires
up-found-requires g c = (can_up c.in-Up.name c.args.self.now c.args.frame.now c.requires.can (sym c.next_target.ensures.value ∙ c.in-Up.is)).1

pub step_counted-requires-clause-can : goal.step_counted-requires-clause-can
step_counted-requires-clause-can g c = (can_up c.in-Up.name c.args.self.now c.args.frame.now c.requires.can (sym c.next_target.ensures.value ∙ c.in-Up.is)).0

pub down-found-requires : goal.down-found-requires
down-found-requires g c = (can_down c.in-Down.name c.args.self.now c.args.frame.now c.requires.can (sym c.next_target.ensures.value ∙ c.in-Down.is)).1

pub step_counted-requires-in-Down-clause-can : goal.step_counted-requires-in-Down-clause-can
step_counted-requires-in-Down-clause-can g c = (can_down c.in-Down.name c.args.self.now c.args.frame.now c.requires.can (sym c.next_target.ensures.value ∙ c.in-Down.is)).0

pub step_alone-requires-clause-can : goal.step_alone-requires-clause-can
step_alone-requires-clause-can g c = can_alone c.args.self.now c.args.frame.now c.requires.can (sym c.next_target.ensures.value ∙ c.in-Alone.is)

pub returns-in-Part-clause-row : goal.returns-in-Part-clause-row
returns-in-Part-clause-row g c =
    steps_at g.L.ResourceLimiter.leads c.args.limiter.now _ c.in-Part.place c.args.self.now c.args.frame.now _ _ _ (sym c.next_target.ensures.value ∙ c.in-Part.is)
    (c.step_part.ensures.row ∙ ap (λ (x : PoolPart _ _). part_after (row_on c.args.self.now.settings c.args.self.now.plan c.args.frame.now.phase x (resting c.args.frame.now))) c.at-part.ensures.value)

pub returns-in-Up-clause-row : goal.returns-in-Up-clause-row
returns-in-Up-clause-row g c =
    let there = sym c.next_target.ensures.value ∙ c.in-Up.is in
    rw c.up-found.ensures.counted
    (steps_up g.L.ResourceLimiter.leads c.args.limiter.now _ c.in-Up.name c.args.self.now c.args.frame.now _ _ there (can_up c.in-Up.name c.args.self.now c.args.frame.now c.requires.can there).0
    (c.step_counted.ensures.row ∙ ap (λ (n : ℕ). left_by (counted_on c.args.self.now.settings c.args.self.now.plan c.args.frame.now.phase n (resting c.args.frame.now))) c.up-found.ensures.found))

pub returns-in-Down-clause-row : goal.returns-in-Down-clause-row
returns-in-Down-clause-row g c =
    let there = sym c.next_target.ensures.value ∙ c.in-Down.is in
    rw c.down-found.ensures.counted
    (steps_down g.L.ResourceLimiter.leads c.args.limiter.now _ c.in-Down.name c.args.self.now c.args.frame.now _ _ there (can_down c.in-Down.name c.args.self.now c.args.frame.now c.requires.can there).0
    (c.step_counted-in-Down.ensures.row ∙ ap (λ (n : ℕ). left_by (counted_on c.args.self.now.settings c.args.self.now.plan c.args.frame.now.phase n (resting c.args.frame.now))) c.down-found.ensures.found))

pub returns-in-Alone-clause-row : goal.returns-in-Alone-clause-row
returns-in-Alone-clause-row g c = c.step_alone.ensures.row c.args.self.now refl refl
