use Rattle.pool_run_on_demand.proofs.tables.act_on_grant.Given as goal

abbrev pub ghost-act_on_instance : goal.ghost-act_on_instance
ghost-act_on_instance g a = g.tells
