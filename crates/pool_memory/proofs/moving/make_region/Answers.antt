use Rattle.pool_memory.proofs.Fresh.{refused_as}
use Rattle.pool_memory.proofs.moving.make_region.Goals.{in-Ok, in-Err}
use Rattle.pool_memory.proofs.moving.make_region.Goals as goal

pub returns-clause-refused : goal.returns-clause-refused
returns-clause-refused g c =
    let told = g.M.PageMaker.told in
    elim c.match-make.branch [
      | in-Ok w ↦ rw w.result-is tt
      | in-Err w ↦ rw w.result-is (refused_as w.in-Err.fault c.next.result (told c.args.maker.now) (told c.make.new.self) c.next.ensures w.in-Err.ensures.maker w.in-Err.ensures.faults w.in-Err.ensures.behind w.in-Err.ensures.planned)
    ]
