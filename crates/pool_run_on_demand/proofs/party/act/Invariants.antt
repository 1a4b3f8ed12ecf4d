use Rattle.pool_run_on_demand.proofs.party.act.Given as goal

abbrev pub ghost-ask_on_demand : goal.ghost-ask_on_demand
ghost-ask_on_demand g a = g.terms

abbrev pub ghost-act_on_table_on_demand : goal.ghost-act_on_table_on_demand
ghost-act_on_table_on_demand g a = g.terms.tells

abbrev pub ghost-give_back_on_demand : goal.ghost-give_back_on_demand
ghost-give_back_on_demand g a = g.terms.tells
