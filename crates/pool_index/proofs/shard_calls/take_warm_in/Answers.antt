use Rattle.std.proofs.Common.{ap, is_some, arith}
use Rattle.pool_hall.specs.Seat.{made_with, limits_of, view}
use Rattle.pool_index.proofs.Growing.{grows_after}
use Rattle.pool_index.proofs.HallTakes.{may_take, took_warm}
use Rattle.pool_index.proofs.Rounds.{rest_after}
use Rattle.pool_index.proofs.shard_calls.take_warm_in.Goals as goal

pub hold-requires-clause-can : goal.hold-requires-clause-can
hold-requires-clause-can g c x told = (
  ap is_some (c.requires.shard x told.stands.fits).is,
  λ s was.
      let sound = g.met.T.MaybeShard.means.sound (made_with c.args.hall.now) (limits_of c.args.hall.now) c.args.at.place x s was told.stands.fits in
      let all = sound.total in
      let few = sound.cold_at_most in
      let room = c.requires.room x s told.stands.fits was in
      omega arith,
)

pub hold-requires-clause-may : goal.hold-requires-clause-may
hold-requires-clause-may g c x y r d told did =
    may_take g.T.Part.meaning g.T.MaybeShard.shard g.met.T.MaybeShard.means (made_with c.args.hall.now) (limits_of c.args.hall.now) c.args.at x did.0 did.2 (view c.args.seat.now) told y did.1 did.3 _ _ did.4

pub returns-clause-taken : goal.returns-clause-taken
returns-clause-taken g c =
    let h = c.hold.ensures.held in
    took_warm g.T.Part.meaning g.T.MaybeShard.shard g.met.T.MaybeShard.means (made_with c.args.hall.now) (limits_of c.args.hall.now) c.args.at h.before h.did.0 h.did.2 (view c.args.seat.now) h.told h.after h.did.1 h.did.3 _ _ h.did.4 c.requires.shard _ h.view

pub returns-clause-grows : goal.returns-clause-grows
returns-clause-grows g c = let h = c.hold.ensures.held in grows_after g.T.Part.meaning c.args.at.place h.before h.after (view c.args.seat.now) _ h.view

pub returns-clause-rest : goal.returns-clause-rest
returns-clause-rest g c = let h = c.hold.ensures.held in rest_after g.T.Part.meaning c.args.at.place h.before h.after (view c.args.seat.now) _ h.view
