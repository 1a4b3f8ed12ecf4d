use Rattle.std.proofs.Common.{sym, ◌∙◌, subst}
use Rattle.pool_run_on_demand.specs.Seen.{AreLive}
use Rattle.pool_run_on_demand.proofs.Parties.{live_without, drops_made, drops_none}
use Rattle.pool_run_on_demand.proofs.Live.{laid_without, left_without}
use Rattle.pool_run_on_demand.proofs.give_back.give_back_on_demand.Goals as goal

pub returns-in-None-clause-drops : goal.returns-in-None-clause-drops
returns-in-None-clause-drops g c = drops_none g.tells c.args.live.now.items c.take_from.new.places.items c.args.of (sym c.take_from.ensures.value ∙ c.in-None.is) c.take_from.ensures.rest

pub returns-in-None-clause-held : goal.returns-in-None-clause-held
returns-in-None-clause-held g c = subst (AreLive g.tells) (sym c.take_from.ensures.rest) (live_without g.tells c.args.live.now.items c.args.of c.requires.1.1)

pub returns-in-Some-clause-drops : goal.returns-in-Some-clause-drops
returns-in-Some-clause-drops g c = drops_made g.tells c.args.live.now.items c.take_from.new.places.items c.args.of c.in-Some.grant (sym c.take_from.ensures.value ∙ c.in-Some.is) c.take_from.ensures.rest

pub returns-in-Some-clause-held : goal.returns-in-Some-clause-held
returns-in-Some-clause-held g c = subst (AreLive g.tells) (sym c.take_from.ensures.rest) (live_without g.tells c.args.live.now.items c.args.of c.requires.1.1)

pub returns-in-None-clause-left : goal.returns-in-None-clause-left
returns-in-None-clause-left g c = left_without c.args.live.now.items c.take_from.new.places.items c.args.of c.take_from.ensures.rest

pub returns-in-None-clause-laid : goal.returns-in-None-clause-laid
returns-in-None-clause-laid g c = laid_without c.args.live.now.items c.args.of c.take_from.new.places.items c.take_from.ensures.rest

pub returns-in-Some-clause-left : goal.returns-in-Some-clause-left
returns-in-Some-clause-left g c = left_without c.args.live.now.items c.take_from.new.places.items c.args.of c.take_from.ensures.rest

pub returns-in-Some-clause-laid : goal.returns-in-Some-clause-laid
returns-in-Some-clause-laid g c = laid_without c.args.live.now.items c.args.of c.take_from.new.places.items c.take_from.ensures.rest
