use Rattle.std.proofs.Common.{◌≡◌, ◌∙◌, ap, arith}
use Rattle.pool_alloc.proofs.Imports.{false≢true, has_room, SlabConstraints}
use Rattle.pool_alloc.proofs.Striping.{slab_there}
use Rattle.pool_alloc.proofs.memory_pool.stripes.slab_layout.Goals as goal

pub unreachable-requires : goal.unreachable-requires
unreachable-requires c =
    let there = slab_there c.args.config.now c.args.tunables.now c.args.page c.args.offered.now (omega (arith, c.get-bytes.ensures.valid.at_least)) c.requires in
    false≢true (c.in-Err.ensures.answer ∙ ap has_room c.slab_constraints-constraints.ensures ∙ there.room)
