use Rattle.pool_hall.proofs.hall.Hall.add.Given as goal

-- the counter of the step
abbrev pub ghosts-add_on : goal.ghosts-add_on
ghosts-add_on g a = record { number = a.counter }
