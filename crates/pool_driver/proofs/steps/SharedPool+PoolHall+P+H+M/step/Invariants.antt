use Rattle.pool_driver.proofs.steps.SharedPool+PoolHall+P+H+M.step.Given as goal

abbrev pub ghost-step_at : goal.ghost-step_at
ghost-step_at g a = g.given

abbrev pub ghost-step_up : goal.ghost-step_up
ghost-step_up g a = g.given

abbrev pub ghost-step_down : goal.ghost-step_down
ghost-step_down g a = g.given
