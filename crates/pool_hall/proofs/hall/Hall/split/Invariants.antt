use Rattle.pool_hall.proofs.hall.Hall.split.Given as goal

-- the portions that the call gives away
abbrev pub ghosts-cut : goal.ghosts-cut
ghosts-cut g a = record { number = a.portions }
