use Rattle.pool_hall.specs.Seat.{made_with, limits_of, view}
use Rattle.pool_index.proofs.Rounds.{round_units, round_rest, round_cold, round_none_cold, round_affine_cold, round_grows, round_none_missed, round_topped}
use Rattle.pool_index.proofs.round.probe_shards.Goals as goal

pub returns-clause-units : goal.returns-clause-units
returns-clause-units g c = round_units g.T.Part.meaning g.T.MaybeShard.shard g.met.T.MaybeShard.means (made_with c.args.hall.now) (limits_of c.args.hall.now) c.args.places c.args.home c.requires.home c.args.probe c.requires.shards _ _ _ c.probe_in_turn.ensures.round

pub returns-clause-rest : goal.returns-clause-rest
returns-clause-rest g c = round_rest g.T.Part.meaning g.T.MaybeShard.shard g.met.T.MaybeShard.means (made_with c.args.hall.now) (limits_of c.args.hall.now) c.args.places c.args.home c.requires.home c.args.probe _ _ _ c.probe_in_turn.ensures.round

pub returns-clause-cold : goal.returns-clause-cold
returns-clause-cold g c = round_cold g.T.Part.meaning g.T.MaybeShard.shard g.met.T.MaybeShard.means (made_with c.args.hall.now) (limits_of c.args.hall.now) c.args.places c.args.home c.requires.home c.args.probe _ _ _ c.probe_in_turn.ensures.round

pub returns-clause-none_cold : goal.returns-clause-none_cold
returns-clause-none_cold g c none = round_none_cold g.T.Part.meaning g.T.MaybeShard.shard g.met.T.MaybeShard.means (made_with c.args.hall.now) (limits_of c.args.hall.now) c.args.places c.args.home c.requires.home c.args.probe _ _ _ none c.probe_in_turn.ensures.round

pub returns-clause-missed : goal.returns-clause-missed
returns-clause-missed g c none = round_none_missed g.T.Part.meaning g.T.MaybeShard.shard g.met.T.MaybeShard.means (made_with c.args.hall.now) (limits_of c.args.hall.now) c.args.places c.args.home c.requires.home c.args.probe _ _ _ none c.probe_in_turn.ensures.round

pub returns-clause-topped : goal.returns-clause-topped
returns-clause-topped g c none pick = round_topped g.T.Part.meaning g.T.MaybeShard.shard g.met.T.MaybeShard.means (made_with c.args.hall.now) (limits_of c.args.hall.now) c.args.places c.args.home c.requires.home c.args.probe _ _ _ none pick c.probe_in_turn.ensures.round

pub returns-clause-affine_cold : goal.returns-clause-affine_cold
returns-clause-affine_cold g c affine = round_affine_cold g.T.Part.meaning g.T.MaybeShard.shard g.met.T.MaybeShard.means (made_with c.args.hall.now) (limits_of c.args.hall.now) c.args.places c.args.home c.requires.home c.args.probe _ _ _ affine c.probe_in_turn.ensures.round

pub returns-clause-grows : goal.returns-clause-grows
returns-clause-grows g c = round_grows g.T.Part.meaning g.T.MaybeShard.shard g.met.T.MaybeShard.means (made_with c.args.hall.now) (limits_of c.args.hall.now) c.args.places c.args.home c.requires.home c.args.probe _ _ _ c.probe_in_turn.ensures.round
