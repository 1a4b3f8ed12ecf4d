use Rattle.std.proofs.Common.{ap, refl, subst, sym}
use Rattle.pool_hall.specs.Seat.{view}
use Rattle.pool_alloc.specs.Calls.{IsMemoryOf}
use Rattle.pool_memory.specs.MemoryStates.{state_of}
use Rattle.pool_alloc.specs.Leases.{Lease}
use Rattle.pool_alloc.specs.PlainModules.{MemoryAsked}
use Rattle.pool_alloc.specs.declared.frame.Asked.TheVariants as asked
use Rattle.pool_alloc.specs.declared.frame.Grant.TheVariants.{Memory}
use Rattle.pool_driver.specs.Placed.{About}
use Rattle.pool_callers.specs.Callers.{about_pool}
use Rattle.pool_callers.proofs.Giving.{keeps_round}
use Rattle.pool_callers.proofs.Reading.{memory_reads_zeros}
use Rattle.pool_uses.proofs.singles.read_a_memory.Goals as goal

pub returns-clause-keeps : goal.returns-clause-keeps
returns-clause-keeps g c =
    keeps_round {P = g.row.P.Denot} {H = g.row.H.Denot} (Memory c.in_ok-memory.memory) (Memory c.in_ok-memory.memory) (view c.args.seat.now.seat) (view c.allocate_memory.new.seat.seat) (view c.deallocate_memory.new.seat.seat) c.in_ok-memory.ensures.granted.gains c.deallocate_memory.ensures.returned.loses
    (λ t. refl)
    (λ k. refl)

pub returns-clause-zeros : goal.returns-clause-zeros
returns-clause-zeros g c tells =
    let a : About = about_pool g.M.PageMaker.told c.args.allocator.now in
    let l : Lease = record { index = c.memory.inside.index.0; memory = state_of c.memory.inside.memory; numbers = c.memory.inside.numbers } in
    let of : IsMemoryOf a.maker a.settings a.plan (asked.Memory c.plain.result) l = subst (λ (x : Lease). IsMemoryOf a.maker a.settings a.plan (asked.Memory c.plain.result) x) (sym c.memory.view_is) c.in_ok-memory.ensures.granted.is in
    memory_reads_zeros a tells c.plain.result l c.args.at c.args.out.now c.read-read.new.out c.read-read.result of (ap (λ (m : MemoryAsked). m.image) c.plain.ensures) c.read-read.ensures.answer c.read-read.ensures.bytes
