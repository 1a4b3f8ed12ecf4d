use Rattle.std.proofs.Common.{ap, refl}
use Rattle.pool_hall.specs.Seat.{view}
use Rattle.pool_alloc.specs.Stepping.{grant_count}
use Rattle.pool_alloc.specs.TableLeases.{LeasedTable, element_of}
use Rattle.pool_alloc.specs.declared.frame.Grant.TheVariants.{Table}
use Rattle.pool_callers.specs.Callers.{about_pool}
use Rattle.pool_callers.proofs.Giving.{keeps_round}
use Rattle.pool_callers.proofs.Writing.{gives_table_filled}
use Rattle.pool_uses.proofs.singles.fill_a_table.Goals as goal

pub deallocate_table-requires-clause-gives : goal.deallocate_table-requires-clause-gives
deallocate_table-requires-clause-gives g c =
    gives_table_filled (about_pool g.M.PageMaker.told c.args.allocator.now) (view c.allocate_table.new.seat.seat) g.G.GcStore.told g.G.GcStore.leads c.in_ok-table.table c.fill-filled.new.self 0 c.args.len (element_of c.args.element) c.args.store.now c.fill-filled.new.store c.fill-filled.result c.fill-filled.ensures c.in_ok-table.ensures.granted.gives

pub returns-clause-keeps : goal.returns-clause-keeps
returns-clause-keeps g c =
    keeps_round {P = g.row.P.Denot} {H = g.row.H.Denot} (Table c.in_ok-table.table) (Table c.fill-filled.new.self) (view c.args.seat.now.seat) (view c.allocate_table.new.seat.seat) (view c.deallocate_table.new.seat.seat) c.in_ok-table.ensures.granted.gains c.deallocate_table.ensures.returned.loses
    (λ t. ap (λ (l : LeasedTable). grant_count {P = g.row.P.Denot} {H = g.row.H.Denot} t (Table l)) c.fill-filled.ensures.same)
    (λ k. refl)
