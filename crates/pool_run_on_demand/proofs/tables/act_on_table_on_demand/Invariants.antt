use Rattle.pool_run_on_demand.proofs.tables.act_on_table_on_demand.Given as goal

abbrev pub ghost-act_on_taken : goal.ghost-act_on_taken
ghost-act_on_taken g a = g.tells
