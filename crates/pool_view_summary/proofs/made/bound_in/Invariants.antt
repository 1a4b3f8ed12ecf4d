use Rattle.pool_view_summary.proofs.made.bound_in.Given as goal

abbrev pub ghost-of_command : goal.ghost-of_command
ghost-of_command g a = g.z
