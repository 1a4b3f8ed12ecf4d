use Rattle.pool_pages.specs.MemoryTold.{memory_maker}
use Rattle.pool_checks.proofs.closing_tests.a_pool_is_closed.Given as goal

abbrev pub ghost-close : goal.ghost-close
ghost-close g a = memory_maker 4096 0
