use Rattle.pool_hall.proofs.hall.Hall.load.Given as goal

-- the counter of the step
abbrev pub ghosts-load_on : goal.ghosts-load_on
ghosts-load_on g a = record { number = a.counter }
