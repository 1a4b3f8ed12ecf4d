use Rattle.pool_alloc.proofs.pool_parts.free_in.Given as goal

abbrev pub ghosts-free_of : goal.ghosts-free_of
ghosts-free_of g a = record { name = a.blank.name; parts = a.blank.parts }
