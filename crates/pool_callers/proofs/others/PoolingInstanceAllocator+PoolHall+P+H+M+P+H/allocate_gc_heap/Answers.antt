use Rattle.std.proofs.Common.{ap, refl, length, arith}
use Rattle.pool_hall.specs.Seat.{made_with, view}
use Rattle.pool_alloc.specs.declared.frame.Asked.TheVariants as asked
use Rattle.pool_alloc.specs.declared.frame.Call.TheVariants as call
use Rattle.pool_alloc.specs.declared.frame.Grant.TheVariants as grant
use Rattle.pool_alloc.specs.declared.frame.Outcome.TheVariants.{Granted, Refused}
use Rattle.pool_callers.specs.Callers.{about_pool, begun_from}
use Rattle.pool_callers.proofs.Granted.{heap_alone}
use Rattle.pool_callers.proofs.Answers.{is_granted, is_refused}
use Rattle.pool_callers.proofs.others.PoolingInstanceAllocator+PoolHall+P+H+M+P+H.allocate_gc_heap.Goals as goal
use Rattle.pool_callers.proofs.others.PoolingInstanceAllocator+PoolHall+P+H+M+P+H.allocate_gc_heap.Goals.{in_default-via-in-Granted+in_default, in_default-via-in_default}

pub returns-in-Granted-Heap-clause-granted : goal.returns-in-Granted-Heap-clause-granted
returns-in-Granted-Heap-clause-granted g c =
    is_granted (length (made_with c.args.self.now.pool.hall)) (about_pool g.M.PageMaker.told c.args.self.now) (view c.args.seat.now.seat) (view c.call.new.seat.seat) (begun_from c.args.home.0 (call.Heap c.args.ty) c.args.seat.now.frame) c.call.new.seat.frame (Granted c.in-Granted-Heap.field-0) c.in-Granted-Heap.ensures.ended
    (asked.Heap c.args.ty) (grant.Heap c.in-Granted-Heap.heap c.in-Granted-Heap.memory) refl refl c.in-Granted-Heap.ensures.driven (ap Granted c.in-Granted-Heap.field-0-is)

pub returns-in-Refused-clause-refused : goal.returns-in-Refused-clause-refused
returns-in-Refused-clause-refused g c =
    is_refused (length (made_with c.args.self.now.pool.hall)) (about_pool g.M.PageMaker.told c.args.self.now) (view c.args.seat.now.seat) (view c.call.new.seat.seat) (begun_from c.args.home.0 (call.Heap c.args.ty) c.args.seat.now.frame) c.call.new.seat.frame (Refused c.in-Refused.refusal) c.in-Refused.ensures.ended
    c.args.home.0 c.args.seat.now.frame.stripe (asked.Heap c.args.ty) c.in-Refused.refusal refl refl refl refl c.in-Refused.ensures.driven refl

pub unreachable-requires : goal.unreachable-requires
unreachable-requires g c =
    elim c.in_default.branch [
      | in_default-via-in-Granted+in_default w ↦ grind (arith, heap_alone c.args.self.now.pool.settings c.args.self.now.pool.plan c.call.result c.args.ty w.in_default.field-0 w.in_default.is c.call.ensures.answers)
      | in_default-via-in_default w ↦ grind (arith, c.call.ensures.answers, w.in_default.not-Refused)
    ]
