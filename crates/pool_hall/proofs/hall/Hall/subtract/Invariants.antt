use Rattle.pool_hall.proofs.hall.Hall.subtract.Given as goal

-- the counter of the step
abbrev pub ghosts-subtract_on : goal.ghosts-subtract_on
ghosts-subtract_on g a = record { number = a.counter }
