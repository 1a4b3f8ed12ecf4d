use Rattle.std.proofs.Common.{◌*◌}
use Rattle.pool_checks.proofs.parking_tests.threads_wait_and_are_notified.Given as goal

abbrev pub ghosts-parks_in_a_memory : goal.ghosts-parks_in_a_memory
ghosts-parks_in_a_memory g a = record { size = a.pages * 65536 }
