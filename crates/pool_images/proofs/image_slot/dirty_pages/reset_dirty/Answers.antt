use Rattle.std.proofs.Common.{arith}
use Rattle.pool_images.proofs.ResetBounds.{hand_small}
use Rattle.pool_images.proofs.image_slot.dirty_pages.reset_dirty.Goals as goal

pub overflow_mul-result : goal.overflow_mul-result
overflow_mul-result g c =
    let small = hand_small c.args.span c.args.region.now c.args.most c.restore_dirty-done.result.count c.requires.span c.restore_dirty-done.ensures.count in
    omega (arith, small)
