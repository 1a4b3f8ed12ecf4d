use Rattle.std.proofs.Common.{◌∙◌, Some, ap, is_some}
use Rattle.pool_hall.specs.Seat.{made_with, limits_of, view}
use Rattle.pool_index.proofs.Growing.{grows_after}
use Rattle.pool_index.proofs.HallTakes.{may_look, look_held, look_units, look_counts}
use Rattle.pool_index.proofs.Rounds.{rest_after}
use Rattle.pool_index.proofs.shard_calls.count_in.Goals as goal

pub hold-requires-clause-can : goal.hold-requires-clause-can
hold-requires-clause-can g c x told = (ap is_some (c.requires.shard x told.stands.fits).is, λ s was. tt)

pub hold-requires-clause-may : goal.hold-requires-clause-may
hold-requires-clause-may g c x y r d told did =
    may_look g.T.Part.meaning g.T.MaybeShard.shard g.met.T.MaybeShard.means (made_with c.args.hall.now) (limits_of c.args.hall.now) c.args.at x did.0 did.2 (view c.args.seat.now) told y (did.3 ∙ ap Some did.4.0)

pub returns-clause-counted : goal.returns-clause-counted
returns-clause-counted g c =
    let h = c.hold.ensures.held in
    (h.did.0, look_held g.T.Part.meaning g.T.MaybeShard.shard g.met.T.MaybeShard.means (made_with c.args.hall.now) (limits_of c.args.hall.now) c.args.at h.before h.did.0 h.did.2 (view c.args.seat.now) h.told h.after (h.did.3 ∙ ap Some h.did.4.0) _ h.view, h.did.4.1)

pub returns-clause-units : goal.returns-clause-units
returns-clause-units g c =
    let h = c.hold.ensures.held in
    look_units g.T.Part.meaning g.T.MaybeShard.shard g.met.T.MaybeShard.means (made_with c.args.hall.now) (limits_of c.args.hall.now) c.args.at h.before h.did.0 h.did.2 (view c.args.seat.now) h.told h.after (h.did.3 ∙ ap Some h.did.4.0) _ h.view

pub returns-clause-counts : goal.returns-clause-counts
returns-clause-counts g c =
    let h = c.hold.ensures.held in
    look_counts g.T.Part.meaning g.T.MaybeShard.shard g.met.T.MaybeShard.means (made_with c.args.hall.now) (limits_of c.args.hall.now) c.args.at h.before h.did.0 h.did.2 (view c.args.seat.now) h.told h.after (h.did.3 ∙ ap Some h.did.4.0) _ h.view

pub returns-clause-grows : goal.returns-clause-grows
returns-clause-grows g c = let h = c.hold.ensures.held in grows_after g.T.Part.meaning c.args.at.place h.before h.after (view c.args.seat.now) _ h.view

pub returns-clause-rest : goal.returns-clause-rest
returns-clause-rest g c = let h = c.hold.ensures.held in rest_after g.T.Part.meaning c.args.at.place h.before h.after (view c.args.seat.now) _ h.view
