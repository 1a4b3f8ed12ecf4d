use Rattle.std.proofs.Common.{option_map}
use Rattle.pool_alloc.proofs.Imports.{arc_value, minimum_byte_size, EndsWithin}
use Rattle.pool_alloc.proofs.InstantiateAnswers.{instantiates_as, follows_as, ends_of, holds_as}
use Rattle.pool_alloc.proofs.memory_pool.instantiate.begin_memory.Goals as goal

pub returns-clause-begun : goal.returns-clause-begun
returns-clause-begun g c =
    let i = c.instantiate.ensures in
    let ends : EndsWithin (minimum_byte_size c.args.ty.now) (option_map (λ i. arc_value i.now) c.args.image) = ends_of _ _ _ _ c.requires.image_fits in
    rw (c.is_err-fault.ensures.value, ← c.minimum_of.ensures)
    (instantiates_as c.instantiate.result _ _ _ _ _ i.begun
    (holds_as c.instantiate.result _ _ _ _ _ c.accessible-accessible.ensures.fits (rw c.minimum_of.ensures ends) (rw c.minimum_of.ensures c.requires.minimum) i.begun i.sizes)
    i.sizes i.image i.either i.reused i.replaced i.fault)

pub returns-clause-planned : goal.returns-clause-planned
returns-clause-planned g c =
    rw (c.is_err-fault.ensures.value, ← c.minimum_of.ensures) (follows_as c.instantiate.result _ _ _ c.args.held.now c.instantiate.new.self c.instantiate.ensures.either_order c.instantiate.ensures.reuse_order c.instantiate.ensures.replace_order)
