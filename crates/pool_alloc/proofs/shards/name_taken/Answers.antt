use Rattle.std.proofs.Common.{◌∙◌, ap, arith}
use Rattle.pool_alloc.specs.declared.release.ReleaseCursor.{ReleaseCursor}
use Rattle.pool_alloc.proofs.TakenSlots.{inside_shard}
use Rattle.pool_alloc.proofs.shards.name_taken.Goals as goal

pub number-requires : goal.number-requires
number-requires c =
    inside_shard c.args.shard.now.capacity c.args.from c.loop-at.at c.args.cursor.now.local.items c.as_slice.result.now (record { 0 = 0 }, 0) (c.as_slice.ensures ∙ ap (λ (r : ReleaseCursor). r.local.items) c.loop-at.invariant.same)
    c.loop-at.invariant.behind (omega (arith, c.loop-at-test.true, c.loop-at.invariant.all)) c.requires.slots
