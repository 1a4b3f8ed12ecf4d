use Rattle.pool_index.proofs.probe.probe_shard.Given as goal

abbrev pub ghosts-probed : goal.ghosts-probed
ghosts-probed a = record { name = a.blank.name; parts = a.blank.parts }
