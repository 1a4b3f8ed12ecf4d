use Rattle.std.proofs.Common.{◌∙◌}
use Rattle.pool_on_demand.proofs.Leased.{memory_allocated, same_answer}
use Rattle.pool_on_demand.proofs.on_demand.OnDemandInstanceAllocator.make_memory.Goals as goal

pub returns-clause-answer : goal.returns-clause-answer
returns-clause-answer g c = memory_allocated _ _ _ _ _ _ _ c.new_dynamic-made.result _ _ c.lease_memory.ensures c.new_dynamic-made.ensures.made c.new_dynamic-made.ensures.refused c.new_dynamic-made.ensures.counts

pub returns-clause-given : goal.returns-clause-given
returns-clause-given g c = same_answer c.new_dynamic-made.result _ c.lease_memory.ensures ∙ (c.new_dynamic-made.ensures.exchange.1.0 ∙ c.new.ensures)
