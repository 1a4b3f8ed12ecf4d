use Rattle.std.proofs.Common.{ap}
use Rattle.pool_alloc.specs.StepReads.{under}
use Rattle.pool_alloc.specs.Turns.{Left, finished}
use Rattle.pool_alloc.proofs.StepsAsRows.{nothing_told}
use Rattle.pool_alloc.proofs.release.steps.release_alone.Goals as goal

pub returns-in-Reserve : goal.returns-in-Reserve
returns-in-Reserve g c = rw c.in-Reserve.is (record nothing_told { wants = c.reserve.ensures.0 }, tt, tt, λ core. c.reserve.ensures.1 (under c.args.settings.now c.args.plan.now core))

pub returns-in-Decommit : goal.returns-in-Decommit
returns-in-Decommit g c = rw (c.in-Decommit.is, c.requires.unanswered) (record nothing_told { fault = c.decommit.ensures.0; slot = c.decommit.ensures.1 }, c.decommit.ensures.2, c.decommit.ensures.3, λ core. ap (λ (l : Left _ _). finished (under c.args.settings.now c.args.plan.now core) l) c.decommit.ensures.4)
