use Rattle.std.proofs.Common.{ap, refl}
use Rattle.pool_hall.specs.Seat.{view}
use Rattle.pool_alloc.specs.Leases.{Lease}
use Rattle.pool_alloc.specs.Stepping.{grant_count}
use Rattle.pool_alloc.specs.declared.frame.Grant.TheVariants.{Memory}
use Rattle.pool_callers.specs.Callers.{about_pool}
use Rattle.pool_callers.proofs.Giving.{keeps_round}
use Rattle.pool_callers.proofs.Writing.{gives_memory_written}
use Rattle.pool_uses.proofs.singles.write_a_memory.Goals as goal

pub deallocate_memory-requires-clause-gives : goal.deallocate_memory-requires-clause-gives
deallocate_memory-requires-clause-gives g c = gives_memory_written (about_pool g.M.PageMaker.told c.args.allocator.now) (view c.allocate_memory.new.seat.seat) c.in_ok-memory.memory c.write-written.new.self c.args.at c.args.bytes.now c.write-written.result c.write-written.ensures c.in_ok-memory.ensures.granted.gives

pub returns-clause-keeps : goal.returns-clause-keeps
returns-clause-keeps g c =
    keeps_round {P = g.row.P.Denot} {H = g.row.H.Denot} (Memory c.in_ok-memory.memory) (Memory c.write-written.new.self) (view c.args.seat.now.seat) (view c.allocate_memory.new.seat.seat) (view c.deallocate_memory.new.seat.seat) c.in_ok-memory.ensures.granted.gains c.deallocate_memory.ensures.returned.loses
    (λ t. ap (λ (l : Lease). grant_count {P = g.row.P.Denot} {H = g.row.H.Denot} t (Memory l)) c.write-written.ensures.same)
    (λ k. refl)
