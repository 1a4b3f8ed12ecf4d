use Rattle.std.proofs.Common.{◌<◌, length, arith}
use Rattle.pool_alloc.proofs.FreeTurns.{can_free_next, frees_more}
use Rattle.pool_alloc.proofs.shards.free_all.Goals as goal

pub free_next-requires : goal.free_next-requires
free_next-requires c =
    let xs = c.args.freed.now.items in
    let inside : c.loop.counter < length xs = omega (arith, c.loop.invariant.all, c.loop-test.true) in
    can_free_next c.args.plan.now c.args.place c.args.shard.now xs c.loop.counter c.loop.shard c.loop.freed.items inside c.requires.each c.loop.invariant.turns

pub loop-preserved : goal.loop-preserved
loop-preserved c =
    let xs = c.args.freed.now.items in
    let inside : c.loop.counter < length xs = omega (arith, c.loop.invariant.all, c.loop-test.true) in
    record {
      turns = rw (c.free_next.ensures.shard, c.free_next.ensures.freed) (frees_more c.args.plan.now c.args.place c.args.shard.now xs c.loop.counter c.loop.shard c.loop.freed.items inside c.loop.invariant.turns);
      room = rw c.free_next.ensures.freed c.loop.invariant.room;
      all = c.loop.invariant.all;
    }
