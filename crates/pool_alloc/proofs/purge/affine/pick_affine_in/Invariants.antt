use Rattle.pool_alloc.proofs.purge.affine.pick_affine_in.Given as goal

abbrev pub ghosts-pick_affine : goal.ghosts-pick_affine
ghosts-pick_affine g a = record { name = a.blank.name; parts = a.blank.parts }
