use Rattle.std.proofs.Common.{◌≡◌, ℕ, ◌<◌, length, subst, sym, IfSome}
use Rattle.pool_hall.specs.Seat.{view}
use Rattle.pool_types.specs.declared.module_types.ModuleInfo.{ModuleInfo}
use Rattle.pool_alloc.specs.Requests.{AreImagesOf, IsModule}
use Rattle.pool_alloc.specs.declared.frame.ModuleCall.{ModuleCall}
use Rattle.pool_callers.proofs.Giving.{nothing_kept}
use Rattle.pool_uses.specs.Requests.{IsRequest}
use Rattle.pool_checks.proofs.single_tests.a_memory_of_a_module_comes_alone.Goals as goal

-- a call of a module that was made with a memory, with the images of its pages
request_of : (page : ℕ) (info : ModuleInfo) (call : ModuleCall) → call.info ≡ info → IsModule info → 0 < length info.memories → IfSome call.images (AreImagesOf page info) → IsRequest page call
request_of page info call same valid some images = record {
  is = subst IsModule (sym same) valid;
  some = subst (λ (m : ModuleInfo). 0 < length m.memories) (sym same) some;
  images = subst (λ (m : ModuleInfo). IfSome call.images (AreImagesOf page m)) (sym same) images;
}

pub read_one_of-read-requires-clause-request : goal.read_one_of-read-requires-clause-request
read_one_of-read-requires-clause-request g c =
    let call : ModuleCall = c.in_ok-call.call in
    subst (λ (p : ℕ). IsRequest p call) (sym c.in_ok-allocator.ensures.page)
    (request_of c.in_ok-page.page c.in_ok-info.info call c.in_ok-call.ensures.module c.in_ok-info.ensures.module c.in_ok-info.ensures.some c.in_ok-call.ensures.images)

pub close-parts-requires-clause-nothing : goal.close-parts-requires-clause-nothing
close-parts-requires-clause-nothing g c =
    nothing_kept (view c.in_ok-allocator.seat.seat) (view c.read_one_of-read.new.seat.seat) c.in_ok-allocator.ensures.nothing c.read_one_of-read.ensures.keeps
