use Rattle.std.proofs.Common.{◌≡◌, ap, ◌∙◌}
use Rattle.pool_memory.specs.Making.{limiter_answer}
use Rattle.pool_memory.proofs.Makings.{answer_told}
use Rattle.pool_memory.proofs.making.limit_new.Goals as goal

pub returns-clause-limiter : goal.returns-clause-limiter
returns-clause-limiter g c =
    let answer = c.memory_growing-answer.result in
    let told : limiter_answer c.answered_limits.result ≡ answer = ap limiter_answer c.answered_limits.ensures.value ∙ answer_told answer c.args.ty.now in
    rw told c.memory_growing-answer.ensures.left

pub returns-clause-exchange : goal.returns-clause-exchange
returns-clause-exchange g c =
    let answer = c.memory_growing-answer.result in
    let told : limiter_answer c.answered_limits.result ≡ answer = ap limiter_answer c.answered_limits.ensures.value ∙ answer_told answer c.args.ty.now in
    rw told (rw (← c.minimum_asked.ensures) (rw (← c.maximum_asked.ensures) c.memory_growing-answer.ensures.exchange))
