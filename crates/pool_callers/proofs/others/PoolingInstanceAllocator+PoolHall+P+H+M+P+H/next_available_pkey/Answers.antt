use Rattle.std.proofs.Common.{length}
use Rattle.pool_hall.specs.Seat.{made_with, view}
use Rattle.pool_alloc.specs.declared.frame.Call.TheVariants as call
use Rattle.pool_driver.specs.UnknownPuts.{UnknownCaused}
use Rattle.pool_callers.specs.Callers.{about_pool, begun_from}
use Rattle.pool_callers.proofs.Answers.{drawn_caused, is_kept, none_drawn}
use Rattle.pool_callers.proofs.others.PoolingInstanceAllocator+PoolHall+P+H+M+P+H.next_available_pkey.Goals as goal

pub returns-clause-kept : goal.returns-clause-kept
returns-clause-kept g c =
    is_kept (length (made_with c.args.self.now.pool.hall)) (about_pool g.M.PageMaker.told c.args.self.now) (view c.args.seat.now.seat) (view c.call.new.seat.seat) (begun_from c.args.home.0 call.Key c.args.seat.now.frame) c.call.new.seat.frame c.call.result c.call.ensures.ended
    (λ of. none_drawn of c.call.result c.call.ensures.kind) c.call.ensures.driven

pub returns-clause-unknown : goal.returns-clause-unknown
returns-clause-unknown g c = drawn_caused (UnknownCaused (view c.args.seat.now.seat) (view c.call.new.seat.seat) c.args.self.now.pool.plan) c.call.result c.call.ensures.kind c.call.ensures.ended.parts.unknown
