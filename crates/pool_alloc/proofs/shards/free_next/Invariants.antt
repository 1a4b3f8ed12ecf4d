use Rattle.pool_alloc.proofs.shards.free_next.Given as goal

abbrev pub ghosts-free_of : goal.ghosts-free_of
ghosts-free_of a = record { name = a.blank.name; parts = a.blank.parts }
