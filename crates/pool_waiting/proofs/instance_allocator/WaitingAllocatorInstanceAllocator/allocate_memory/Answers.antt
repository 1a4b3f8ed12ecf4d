use Rattle.std.proofs.Common.{ap, arith, inr, refl, subst, sym, IfSome}
use Rattle.pool_hall.specs.Seat.{view}
use Rattle.pool_types.specs.MemoryTypes.{minimum_byte_size}
use Rattle.pool_images.specs.Slots.{FitsInto}
use Rattle.pool_alloc.specs.Held.{memory_held}
use Rattle.pool_alloc.specs.PlainModules.{MemoryAsked}
use Rattle.pool_alloc.specs.Requests.{AreImagesOf, lent}
use Rattle.pool_alloc.specs.declared.frame.Asked.TheVariants as wanted
use Rattle.pool_alloc.specs.declared.frame.Grant.TheVariants as grant
use Rattle.pool_callers.specs.Callers.{Caller, about_pool}
use Rattle.pool_waiting.specs.Waiting.{memory_asked, module_asked, stripe_for}
use Rattle.pool_waiting.proofs.Waited.{asked_nothing, gains_ends, if_behind, image_fits, image_inside, nothing_wanted}
use Rattle.pool_waiting.proofs.instance_allocator.WaitingAllocatorInstanceAllocator.allocate_memory.Goals as goal

pub memory_call-requires : goal.memory_call-requires
memory_call-requires g c = record { inside = image_inside (λ i. i.now) c.args.self.now.allocator.now.pool.settings (module_asked c.args.request.now) c.args.ty.now c.args.index c.args.request.now.images (omega (arith, c.requires.fits.0.pool.hall.pool.settings.page.at_least)) c.requires.module refl (if_behind (λ i. i.now) (AreImagesOf c.args.self.now.allocator.now.pool.settings.page c.args.request.now.module.now) c.args.request.now.images c.requires.images) c.requires.index }

pub returns-in_default-clause-made : goal.returns-in_default-clause-made
returns-in_default-clause-made g c = record {
  ends = nothing_wanted (about_pool g.M.PageMaker.told c.args.self.now.allocator.now) c.args.home.0 (stripe_for c.args.request.now.stripe c.args.seat.now.frame.stripe) (wanted.Memory (memory_asked c.args.request.now c.args.ty.now c.args.index)) (view c.args.seat.now.seat) (view c.put_in.new.seat.seat) (ap (λ (s : Caller g.row.P.Denot g.row.H.Denot g.row.M.Denot). view s.seat) c.put_in.ensures.same);
  reason = inr (refl, c.in_default.ensures.wants);
  asked = asked_nothing {P = g.row.P.Denot} {H = g.row.H.Denot} g.R.ResourceLimiter.told g.R.ResourceLimiter.leads (wanted.Memory (memory_asked c.args.request.now c.args.ty.now c.args.index)) grant.Memory (lent c.args.request.now.limiter) (lent c.args.request.now.limiter) refl;
  stripe = ap (λ (s : Caller g.row.P.Denot g.row.H.Denot g.row.M.Denot). s.frame.stripe) c.put_in.ensures.same;
}

pub allocate_memory-requires-clause-image : goal.allocate_memory-requires-clause-image
allocate_memory-requires-clause-image g c =
    subst (λ (m : MemoryAsked). IfSome m.image (FitsInto c.args.self.now.allocator.now.pool.settings.page (minimum_byte_size m.ty))) (sym c.in-Ok.ensures.call)
    (image_fits c.args.self.now.allocator.now.pool.settings (module_asked c.args.request.now) c.args.ty.now c.args.index (omega (arith, c.requires.fits.0.pool.hall.pool.settings.page.at_least)) c.requires.module (if_behind (λ i. i.now) (AreImagesOf c.args.self.now.allocator.now.pool.settings.page c.args.request.now.module.now) c.args.request.now.images c.requires.images) c.requires.index)

pub returns-in-None-clause-held : goal.returns-in-None-clause-held
returns-in-None-clause-held g c =
    gains_ends (about_pool g.M.PageMaker.told c.args.self.now.allocator.now) memory_held c.args.home.0 c.put_in.new.seat.frame.stripe (wanted.Memory c.in-Ok.call) c.allocate_memory.result c.args.seat.now c.put_in.new.seat c.allocate_memory.new.seat
    (ap (λ (s : Caller g.row.P.Denot g.row.H.Denot g.row.M.Denot). view s.seat) c.put_in.ensures.same) c.allocate_memory.ensures.granted c.allocate_memory.ensures.refused

pub allocate_memory-requires-in-Some-clause-image : goal.allocate_memory-requires-in-Some-clause-image
allocate_memory-requires-in-Some-clause-image g c =
    subst (λ (m : MemoryAsked). IfSome m.image (FitsInto c.args.self.now.allocator.now.pool.settings.page (minimum_byte_size m.ty))) (sym c.in-Ok.ensures.call)
    (image_fits c.args.self.now.allocator.now.pool.settings (module_asked c.args.request.now) c.args.ty.now c.args.index (omega (arith, c.requires.fits.0.pool.hall.pool.settings.page.at_least)) c.requires.module (if_behind (λ i. i.now) (AreImagesOf c.args.self.now.allocator.now.pool.settings.page c.args.request.now.module.now) c.args.request.now.images c.requires.images) c.requires.index)

pub returns-in-Some-clause-held : goal.returns-in-Some-clause-held
returns-in-Some-clause-held g c =
    gains_ends (about_pool g.M.PageMaker.told c.args.self.now.allocator.now) memory_held c.args.home.0 c.put_in.new.seat.frame.stripe (wanted.Memory c.in-Ok.call) c.allocate_memory-in-Some.result c.args.seat.now c.put_in.new.seat c.allocate_memory-in-Some.new.seat
    (ap (λ (s : Caller g.row.P.Denot g.row.H.Denot g.row.M.Denot). view s.seat) c.put_in.ensures.same) c.allocate_memory-in-Some.ensures.granted c.allocate_memory-in-Some.ensures.refused
