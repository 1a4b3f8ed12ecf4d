use Rattle.pool_hall.specs.Seat.{view}
use Rattle.pool_hall.proofs.Opening.{closes}
use Rattle.pool_hall.proofs.hall.Hall.close.Goals as goal

pub returns-clause-stand : goal.returns-clause-stand
returns-clause-stand g c = (closes g.T.Part.meaning _ _ _ c.args.seat.seat.id (view c.args.seat) _ _ _ c.requires.portions c.requires.free.place c.requires.units c.close_with-closed.ensures.values.2 c.emptied.ensures).stand

pub returns-clause-units : goal.returns-clause-units
returns-clause-units g c = (closes g.T.Part.meaning _ _ _ c.args.seat.seat.id (view c.args.seat) _ _ _ c.requires.portions c.requires.free.place c.requires.units c.close_with-closed.ensures.values.2 c.emptied.ensures).units

pub returns-clause-told : goal.returns-clause-told
returns-clause-told g c = (closes g.T.Part.meaning _ _ _ c.args.seat.seat.id (view c.args.seat) _ _ _ c.requires.portions c.requires.free.place c.requires.units c.close_with-closed.ensures.values.2 c.emptied.ensures).told
