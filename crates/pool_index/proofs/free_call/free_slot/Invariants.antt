use Rattle.pool_index.proofs.free_call.free_slot.Given as goal

abbrev pub ghosts-freed : goal.ghosts-freed
ghosts-freed a = record { name = a.blank.name; parts = a.blank.parts }
