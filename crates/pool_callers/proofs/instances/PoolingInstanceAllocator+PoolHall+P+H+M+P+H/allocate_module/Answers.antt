use Rattle.std.proofs.Common.{ap, refl, length, arith}
use Rattle.pool_hall.specs.Seat.{made_with, view}
use Rattle.pool_alloc.specs.declared.frame.Asked.TheVariants as asked
use Rattle.pool_alloc.specs.declared.frame.Call.TheVariants as call
use Rattle.pool_alloc.specs.declared.frame.Grant.TheVariants as grant
use Rattle.pool_alloc.specs.declared.frame.Outcome.TheVariants.{Granted, Refused}
use Rattle.pool_callers.specs.Callers.{about_pool, begun_from}
use Rattle.pool_callers.specs.NoHeapsTold.{told_of}
use Rattle.pool_callers.proofs.Images.{images_fit}
use Rattle.pool_callers.proofs.Granted.{instance_alone}
use Rattle.pool_callers.proofs.Answers.{is_granted, is_refused, nobody_asked}
use Rattle.pool_callers.proofs.instances.PoolingInstanceAllocator+PoolHall+P+H+M+P+H.allocate_module.Goals as goal
use Rattle.pool_callers.proofs.instances.PoolingInstanceAllocator+PoolHall+P+H+M+P+H.allocate_module.Goals.{in_default-via-in-Granted+in_default, in_default-via-in_default}

pub call-requires-clause-begins : goal.call-requires-clause-begins
call-requires-clause-begins g c =
    let pool = c.requires.pool.pool.hall.pool in
    let fit = images_fit c.args.self.now.pool.settings c.args.request (omega (arith, pool.settings.page.at_least)) c.requires.request c.requires.images in
    (c.requires.seat.idle, fit.0, fit.1)

pub returns-in-Granted-Instance-clause-granted : goal.returns-in-Granted-Instance-clause-granted
returns-in-Granted-Instance-clause-granted g c =
    is_granted (length (made_with c.args.self.now.pool.hall)) (about_pool g.M.PageMaker.told c.args.self.now) (view c.args.seat.now.seat) (view c.call.new.seat.seat) (begun_from c.args.home.0 (call.Module c.args.request) c.args.seat.now.frame) c.call.new.seat.frame (Granted c.in-Granted-Instance.field-0) c.in-Granted-Instance.ensures.ended
    (asked.Module c.args.request) (grant.Instance c.in-Granted-Instance.lease) refl refl c.in-Granted-Instance.ensures.driven (ap Granted c.in-Granted-Instance.field-0-is)

pub returns-in-Refused-clause-refused : goal.returns-in-Refused-clause-refused
returns-in-Refused-clause-refused g c =
    is_refused (length (made_with c.args.self.now.pool.hall)) (about_pool g.M.PageMaker.told c.args.self.now) (view c.args.seat.now.seat) (view c.call.new.seat.seat) (begun_from c.args.home.0 (call.Module c.args.request) c.args.seat.now.frame) c.call.new.seat.frame (Refused c.in-Refused.refusal) c.in-Refused.ensures.ended
    c.args.home.0 c.args.seat.now.frame.stripe (asked.Module c.args.request) c.in-Refused.refusal refl refl refl refl c.in-Refused.ensures.driven refl

pub returns-in-Granted-Instance-clause-asked : goal.returns-in-Granted-Instance-clause-asked
returns-in-Granted-Instance-clause-asked g c =
    nobody_asked g.L.ResourceLimiter.leads ⊥ ⊥ (call.Module c.args.request) c.args.limiter.now c.call.new.limiter (λ none. none)
    (g.L.ResourceLimiter.told c.args.limiter.now) (g.L.ResourceLimiter.told c.call.new.limiter) (told_of c.new.result) (told_of c.call.new.heaps)
    (Granted c.in-Granted-Instance.field-0) (Granted (grant.Instance c.in-Granted-Instance.lease)) c.new.ensures (ap Granted c.in-Granted-Instance.field-0-is) c.in-Granted-Instance.ensures.asked

pub returns-in-Refused-clause-asked : goal.returns-in-Refused-clause-asked
returns-in-Refused-clause-asked g c =
    nobody_asked g.L.ResourceLimiter.leads ⊥ ⊥ (call.Module c.args.request) c.args.limiter.now c.call.new.limiter (λ none. none)
    (g.L.ResourceLimiter.told c.args.limiter.now) (g.L.ResourceLimiter.told c.call.new.limiter) (told_of c.new.result) (told_of c.call.new.heaps)
    (Refused c.in-Refused.refusal) (Refused c.in-Refused.refusal) c.new.ensures refl c.in-Refused.ensures.asked

pub unreachable-requires : goal.unreachable-requires
unreachable-requires g c =
    elim c.in_default.branch [
      | in_default-via-in-Granted+in_default w ↦ grind (arith, (instance_alone c.args.self.now.pool.settings c.args.self.now.pool.plan c.call.result c.args.request w.in_default.field-0 w.in_default.is c.call.ensures.answers).1) steps 60000000
      | in_default-via-in_default w ↦ grind (arith, c.call.ensures.answers, w.in_default.not-Refused)
    ]
