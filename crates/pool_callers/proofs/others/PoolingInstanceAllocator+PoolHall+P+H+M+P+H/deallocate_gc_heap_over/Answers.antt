use Rattle.std.proofs.Common.{length, refl}
use Rattle.pool_hall.specs.Seat.{made_with, view}
use Rattle.pool_alloc.specs.declared.frame.Call.TheVariants as call
use Rattle.pool_alloc.specs.declared.frame.Grant.TheVariants as grant
use Rattle.pool_driver.proofs.Calling.{begun_kind}
use Rattle.pool_callers.specs.Callers.{about_pool, begun_from}
use Rattle.pool_callers.proofs.Answers.{is_given_back, owes_grant, stripe_stays}
use Rattle.pool_callers.proofs.others.PoolingInstanceAllocator+PoolHall+P+H+M+P+H.deallocate_gc_heap_over.Goals as goal

pub returns-clause-returned : goal.returns-clause-returned
returns-clause-returned g c =
    is_given_back (length (made_with c.args.self.now.pool.hall)) (about_pool g.M.PageMaker.told c.args.self.now) (view c.args.seat.now.seat) (view c.call.new.seat.seat) (begun_from c.args.home.0 (call.GiveBack (grant.HeapOver c.args.heap)) c.args.seat.now.frame) c.call.new.seat.frame c.call.result c.call.ensures.ended
    (grant.HeapOver c.args.heap) (begun_kind (call.GiveBack (grant.HeapOver c.args.heap)) (record c.args.seat.now.frame { home = c.args.home.0 })) (owes_grant (length (made_with c.args.self.now.pool.hall)) (about_pool g.M.PageMaker.told c.args.self.now) (view c.args.seat.now.seat) c.args.home.0 c.args.seat.now.frame (grant.HeapOver c.args.heap) c.requires.seat.idle c.requires.seat.driven) c.call.ensures.kind c.requires.gives c.call.ensures.driven

pub returns-clause-stripe : goal.returns-clause-stripe
returns-clause-stripe g c =
    stripe_stays (length (made_with c.args.self.now.pool.hall)) (about_pool g.M.PageMaker.told c.args.self.now) (view c.args.seat.now.seat) (view c.call.new.seat.seat) (begun_from c.args.home.0 (call.GiveBack (grant.HeapOver c.args.heap)) c.args.seat.now.frame) c.call.new.seat.frame c.call.result c.call.ensures.ended
    c.args.seat.now.frame.stripe refl c.call.ensures.kind
