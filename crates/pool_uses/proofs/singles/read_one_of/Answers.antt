use Rattle.std.proofs.Common.{◌<◌, ap, arith, refl, subst, sym, Option, IfSome}
use Rattle.pool_hall.specs.Seat.{view}
use Rattle.pool_images.specs.Images.{Image}
use Rattle.pool_images.specs.Slots.{FitsInto}
use Rattle.pool_types.specs.MemoryTypes.{minimum_byte_size}
use Rattle.pool_types.specs.declared.module_types.MemoryType.{MemoryType}
use Rattle.pool_alloc.specs.PlainModules.{MemoryAsked}
use Rattle.pool_alloc.specs.declared.frame.Grant.TheVariants.{Memory}
use Rattle.pool_callers.proofs.Giving.{keeps_round}
use Rattle.pool_callers.proofs.Images.{images_fit}
use Rattle.pool_uses.proofs.ModuleMemories.{memory_fits}
use Rattle.pool_uses.proofs.singles.read_one_of.Goals as goal

pub memory_call-requires-clause-images : goal.memory_call-requires-clause-images
memory_call-requires-clause-images g c =
    let pool = c.requires.pool.pool.hall.pool in
    (images_fit c.args.allocator.now.pool.settings c.args.call.now (omega (arith, pool.settings.page.at_least)) c.requires.request.is c.requires.request.images).1

pub validate_memory-requires : goal.validate_memory-requires
validate_memory-requires g c =
    let pool = c.requires.pool.pool.hall.pool in
    subst (λ (ty : MemoryType). ty.page_size_log2 < 64) (sym (ap (λ (m : MemoryAsked). m.ty) c.request.view_is))
    (memory_fits c.args.allocator.now.pool.settings c.args.call.now c.in-Ok.request.ty c.args.index (omega (arith, pool.settings.page.at_least)) c.requires.request.is c.requires.request.images c.in-Ok.ensures.memory).0

pub allocate_memory-requires-clause-page : goal.allocate_memory-requires-clause-page
allocate_memory-requires-clause-page g c =
    let pool = c.requires.pool.pool.hall.pool in
    (memory_fits c.args.allocator.now.pool.settings c.args.call.now c.in-Ok.request.ty c.args.index (omega (arith, pool.settings.page.at_least)) c.requires.request.is c.requires.request.images c.in-Ok.ensures.memory).0

pub allocate_memory-requires-clause-image : goal.allocate_memory-requires-clause-image
allocate_memory-requires-clause-image g c =
    let pool = c.requires.pool.pool.hall.pool in
    subst (λ (image : Option Image). IfSome image (FitsInto c.args.allocator.now.pool.settings.page (minimum_byte_size c.in-Ok.request.ty))) (sym c.in-Ok.ensures.image)
    (memory_fits c.args.allocator.now.pool.settings c.args.call.now c.in-Ok.request.ty c.args.index (omega (arith, pool.settings.page.at_least)) c.requires.request.is c.requires.request.images c.in-Ok.ensures.memory).1

pub returns-clause-keeps : goal.returns-clause-keeps
returns-clause-keeps g c =
    keeps_round {P = g.row.P.Denot} {H = g.row.H.Denot} (Memory c.in_ok-memory.memory) (Memory c.in_ok-memory.memory) (view c.args.seat.now.seat) (view c.allocate_memory.new.seat.seat) (view c.deallocate_memory.new.seat.seat) c.in_ok-memory.ensures.granted.gains c.deallocate_memory.ensures.returned.loses
    (λ t. refl)
    (λ k. refl)
