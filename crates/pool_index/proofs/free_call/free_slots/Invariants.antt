use Rattle.pool_index.proofs.free_call.free_slots.Given as goal

abbrev pub ghosts-freed_between : goal.ghosts-freed_between
ghosts-freed_between a = record { name = a.blank.name; parts = a.blank.parts }
