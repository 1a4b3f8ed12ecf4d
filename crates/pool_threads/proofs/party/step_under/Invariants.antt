use Rattle.pool_threads.proofs.party.step_under.Given as goal

abbrev pub ghost-step : goal.ghost-step
ghost-step g a = g.given

abbrev pub ghost-step-2 : goal.ghost-step-2
ghost-step-2 g a = g.given
