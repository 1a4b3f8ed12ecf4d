use Rattle.std.proofs.Common.{arith}
use Rattle.std.specs.Arc.{arc_value}
use Rattle.pool_on_demand.proofs.Images.{image_given, place_given}
use Rattle.pool_on_demand.proofs.turns.OnDemandInstanceAllocatorAllocatesInTurn.next_memory.Goals as goal

pub image_for-image-requires : goal.image_for-image-requires
image_for-image-requires g c = record { inside = place_given (g.M.PageMaker.told c.args.maker.now).page c.args.request.now.module.now c.args.ty.now (λ i. i.now) c.args.request.now.images c.args.index c.requires.images c.requires.index }

pub make_memory-requires-clause-image : goal.make_memory-requires-clause-image
make_memory-requires-clause-image g c = image_given (g.M.PageMaker.told c.args.maker.now) c.args.request.now.module.now c.args.ty.now (λ i. i.now) (λ i. arc_value i.now) c.args.request.now.images c.args.index c.image_for-image.result (omega (arith, c.page.ensures, c.get-page.ensures.value, c.get-page.ensures.valid.at_least)) c.requires.images c.requires.index c.image_for-image.ensures
