-- What a caller's seat is when its thread comes back.
use Rattle.std.specs.Prelude.{◌≡◌}
use Rattle.pool_pages.specs.MakerTold.{MakerTold}
use Rattle.pool_hall.specs.Seat.{view}
use Rattle.pool_callers.specs.Callers.{Allocator, Caller, IsCaller, Keeps}
use Rattle.pool_uses.specs.Requests.{IsRequest}
use Rattle.pool_alloc.specs.declared.frame.ModuleCall.{ModuleCall}

module _ {P H M : Type 0} (told : M → MakerTold) (p : Allocator P H M) where
  -- The caller may make calls, and may ask with this.
  pub record MayAsk (seat : Caller P H M) (call : ModuleCall) : Type 0 where
    pub caller : IsCaller told p seat
    pub request : IsRequest p.pool.settings.page call

  -- The caller may make calls as before. All that came to it went again, and it has as many portions as it had.
  pub record ComesBack (before after : Caller P H M) : Type 0 where
    pub caller : IsCaller told p after
    pub keeps : Keeps (view before.seat) (view after.seat)
    pub portions : (view after.seat).portions ≡ (view before.seat).portions
