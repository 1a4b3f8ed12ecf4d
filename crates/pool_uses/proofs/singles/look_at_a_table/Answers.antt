use Rattle.std.proofs.Common.{refl}
use Rattle.pool_hall.specs.Seat.{view}
use Rattle.pool_alloc.specs.declared.frame.Grant.TheVariants.{Table}
use Rattle.pool_callers.specs.Callers.{about_pool}
use Rattle.pool_callers.proofs.Giving.{keeps_round}
use Rattle.pool_callers.proofs.Reading.{table_is_empty}
use Rattle.pool_uses.proofs.singles.look_at_a_table.Goals as goal

pub returns-clause-keeps : goal.returns-clause-keeps
returns-clause-keeps g c =
    keeps_round {P = g.row.P.Denot} {H = g.row.H.Denot} (Table c.in_ok-table.table) (Table c.in_ok-table.table) (view c.args.seat.now.seat) (view c.allocate_table.new.seat.seat) (view c.deallocate_table.new.seat.seat) c.in_ok-table.ensures.granted.gains c.deallocate_table.ensures.returned.loses
    (λ t. refl)
    (λ k. refl)

pub returns-clause-empty : goal.returns-clause-empty
returns-clause-empty g c tells = table_is_empty (about_pool g.M.PageMaker.told c.args.allocator.now) tells c.args.ty c.in_ok-table.table c.args.at c.get-element.result c.in_ok-table.ensures.granted.is c.get-element.ensures
