use Rattle.pool_run_on_demand.proofs.Imports.{host_of, under}
use Rattle.pool_run_on_demand.proofs.run.step.Given as goal

abbrev pub ghost-turn_on_demand : goal.ghost-turn_on_demand
ghost-turn_on_demand g a = (under (host_of a.party.now.limits a.party.now.store.failing a.party.now.heaps.failing) g.common).terms
