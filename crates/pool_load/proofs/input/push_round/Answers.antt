use Rattle.pool_load.proofs.Lists.{five_draws, round_pushed}
use Rattle.pool_load.proofs.input.push_round.Goals as goal

pub returns-clause-ok : goal.returns-clause-ok
returns-clause-ok c =
    round_pushed c.args.of c.args.draws.now.state c.draw-module.new.self.state c.draw-write_at.new.self.state c.draw-byte.new.self.state c.draw-pages.new.self.state c.draw-read_at.new.self.state
    c.draw-module.result c.draw-write_at.result c.draw-byte.result c.draw-pages.result c.draw-read_at.result c.in_ok-hex.hex
    c.args.commands.now.items c.push.new.self.items c.push-2.new.self.items c.push-3.new.self.items c.push-4.new.self.items c.push-5.new.self.items
    c.draw-module.ensures.state c.draw-write_at.ensures.state c.draw-byte.ensures.state c.draw-pages.ensures.state c.draw-read_at.ensures.state
    c.draw-module.ensures.value c.draw-write_at.ensures.value c.draw-byte.ensures.value c.draw-pages.ensures.value c.draw-read_at.ensures.value
    c.in_ok-hex.ensures
    c.in_ok-push.ensures.items c.in_ok-push-2.ensures.items c.in_ok-push-3.ensures.items c.in_ok-push-4.ensures.items c.in_ok-push-5.ensures.items

pub returns-clause-state : goal.returns-clause-state
returns-clause-state c =
    five_draws c.args.draws.now.state c.draw-module.new.self.state c.draw-write_at.new.self.state c.draw-byte.new.self.state c.draw-pages.new.self.state c.draw-read_at.new.self.state
    c.draw-module.ensures.state c.draw-write_at.ensures.state c.draw-byte.ensures.state c.draw-pages.ensures.state c.draw-read_at.ensures.state
