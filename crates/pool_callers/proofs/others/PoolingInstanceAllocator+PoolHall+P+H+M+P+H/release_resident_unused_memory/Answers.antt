use Rattle.pool_hall.specs.Seat.{view}
use Rattle.pool_driver.specs.UnknownPuts.{UnknownCaused}
use Rattle.pool_callers.proofs.Answers.{wants_caused}
use Rattle.pool_callers.proofs.others.PoolingInstanceAllocator+PoolHall+P+H+M+P+H.release_resident_unused_memory.Goals as goal

pub returns-in-Refused-clause-unknown : goal.returns-in-Refused-clause-unknown
returns-in-Refused-clause-unknown g c =
    wants_caused (UnknownCaused (view c.args.seat.now.seat) (view c.call.new.seat.seat) c.args.self.now.pool.plan) c.in-Refused.refusal c.in-Refused.ensures.answers c.in-Refused.ensures.ended.parts.unknown
