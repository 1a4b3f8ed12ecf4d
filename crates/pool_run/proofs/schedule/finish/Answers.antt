use Rattle.std.proofs.Common.{◌≡◌, length, arith}
use Rattle.pool_run.proofs.Watched.{finishes_none, finishes_more, finishes_all}
use Rattle.pool_run.proofs.schedule.finish.Goals as goal

pub loop-i-init : goal.loop-i-init
loop-i-init g c = record {
  finishes = finishes_none (g.W.Watcher.leads c.args.input.now) g.of.modules g.of.inputs c.args.run.now c.args.watcher.now;
  run = c.requires.1.1.1;
}

pub loop-i-preserved : goal.loop-i-preserved
loop-i-preserved g c = record {
  finishes = finishes_more (g.W.Watcher.leads c.args.input.now) g.of.modules g.of.inputs c.loop-i.i c.args.run.now c.loop-i.run c.finish_party.new.run c.args.watcher.now c.loop-i.watcher c.finish_party.new.watcher c.loop-i.invariant.finishes c.finish_party.ensures.watched c.finish_party.ensures.finished;
  run = c.finish_party.ensures.run;
}

pub returns-clause-watched : goal.returns-clause-watched
returns-clause-watched g c =
    let all : c.loop-i.i ≡ length c.args.run.now.parties = omega (arith, c.loop-i-test.false, c.requires.1.1.1.parties) in
    let same : length c.loop-i.run.parties ≡ length c.args.run.now.parties = omega (arith, c.loop-i.invariant.run.parties, c.requires.1.1.1.parties) in
    finishes_all (g.W.Watcher.leads c.args.input.now) g.of.modules g.of.inputs c.loop-i.i c.args.run.now c.loop-i.run c.args.watcher.now c.loop-i.watcher c.loop-i.invariant.finishes all same
