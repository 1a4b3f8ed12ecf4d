use Rattle.std.proofs.Common.{rules, subst}
use Rattle.pool_alloc.specs.Closing.{ArePartsOf}
use Rattle.pool_alloc.specs.declared.pool_core.PoolCore.{PoolCore}
use Rattle.pool_alloc.proofs.Closings.{closing_taken}
use Rattle.pool_alloc.proofs.pool_core.PoolCore.close.Goals as goal

pub flush_queues-requires : goal.flush_queues-requires
flush_queues-requires g c κs within = (search rules, (search rules, rw (c.take_spare-lists.ensures.core, c.frame_over-frame.ensures, c.take_spare-lists.ensures.lists) (closing_taken g.maker c.args.self c.requires.1.1.0 c.requires.1.1.1.1)))

pub find_free-requires : goal.find_free-requires
find_free-requires g c = c.flush_queues.ensures.home.free

pub returns-clause-home : goal.returns-clause-home
returns-clause-home g c = c.flush_queues.ensures.home

pub returns-clause-parts : goal.returns-clause-parts
returns-clause-parts g c = let T : PoolCore _ _ → Type 0 = λ x. ArePartsOf g.maker x.settings x.plan c.flush_queues.new.self.parts in subst T c.take_spare-lists.ensures.core c.flush_queues.ensures.parts
