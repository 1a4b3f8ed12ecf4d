use Rattle.pool_run_on_demand.proofs.party.turn_on_demand.Given as goal

abbrev pub ghost-act : goal.ghost-act
ghost-act g a = g.terms
