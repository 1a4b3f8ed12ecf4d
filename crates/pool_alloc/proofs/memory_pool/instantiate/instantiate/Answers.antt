use Rattle.pool_alloc.specs.StepReads.{under}
use Rattle.pool_alloc.proofs.memory_pool.instantiate.instantiate.Goals as goal

pub returns : goal.returns
returns g c = (c.begin-fault.result, c.begin-fault.new.held, c.begin-fault.ensures.begun, c.begin-fault.ensures.planned, λ core. c.begun.ensures (under c.args.settings.now core.plan core))
