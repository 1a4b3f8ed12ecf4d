use Rattle.pool_alloc.proofs.shards.pick.Given as goal

abbrev pub ghosts-pick_of : goal.ghosts-pick_of
ghosts-pick_of g a = record { name = a.blank.name; parts = a.blank.parts }
