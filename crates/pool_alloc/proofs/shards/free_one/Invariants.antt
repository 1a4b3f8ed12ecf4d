use Rattle.pool_alloc.proofs.shards.free_one.Given as goal

abbrev pub ghosts-free_of : goal.ghosts-free_of
ghosts-free_of g a = record { name = a.blank.name; parts = a.blank.parts }
