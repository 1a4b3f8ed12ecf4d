use Rattle.pool_hall.specs.Seat.{made_with, limits_of, view}
use Rattle.pool_index.specs.Round.{found_units}
use Rattle.pool_index.proofs.Picking.{probe_moves}
use Rattle.pool_index.proofs.Puts.{may_gain, no_region_found}
use Rattle.pool_index.proofs.round.probe_at.Goals as goal

pub hold-requires-clause-may : goal.hold-requires-clause-may
hold-requires-clause-may g c x y r d told did =
    let means = g.met.T.MaybeShard.means in
    let sound = means.sound (made_with c.args.hall.now) (limits_of c.args.hall.now) c.args.place x did.0 did.2 told.stands.fits in
    may_gain g.T.Part.meaning g.T.MaybeShard.shard means (made_with c.args.hall.now) (limits_of c.args.hall.now) c.args.place x y did.0 did.1 did.2 did.3 (view c.args.seat.now) told
    (found_units did.0.kind r) (no_region_found did.0.kind r) (probe_moves c.args.probe did.0 did.1 r sound did.4)
