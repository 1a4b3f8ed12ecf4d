use Rattle.pool_run_on_demand.proofs.tables.act_on_taken.Given as goal

abbrev pub ghost-act_on_grant : goal.ghost-act_on_grant
ghost-act_on_grant g a = g.tells
