-- A seat that makes no call may be in any stripe of its pool.
use Rattle.std.proofs.Common.{ℕ, ◌<◌, length, sym, subst, arith, None}
use Rattle.pool_hall.specs.Seat.{made_with, view}
use Rattle.pool_hall.specs.declared.view.View.{View}
use Rattle.pool_pages.specs.MakerTold.{MakerTold}
use Rattle.pool_alloc.specs.BetweenSteps.{IsFrame, IsShapedAt}
use Rattle.pool_alloc.specs.Calls.{IsIdle}
use Rattle.pool_alloc.specs.Targets.{next_target}
use Rattle.pool_alloc.specs.declared.frame.Frame.{Frame}
use Rattle.pool_alloc.specs.declared.frame.Phase.{Phase}
use Rattle.pool_alloc.proofs.BegunFrames.{at_rest}
use Rattle.pool_driver.specs.Driving.{IsDriven, StandsFor, StandsOn}
use Rattle.pool_driver.specs.Placed.{About}
use Rattle.pool_callers.specs.Callers.{Allocator, Caller, IsAllocator, IsCaller, about_pool, given_in}

module _ {T P H : Type 0} (places : ℕ) (a : About) (v : View T) (f : Frame P H) (driven : IsDriven places (given_in a v) v f None) (idle : IsIdle f) where
  in_stripe : (stripe : ℕ) → stripe < length a.plan.memories → IsDriven places (given_in a v) v (record f { stripe = stripe }) None
  in_stripe stripe below =
      let s : StandsOn a places f = subst (λ (p : Phase P H). StandsFor (next_target a.settings a.plan p f) a places f) idle driven.stands in
      let shape : IsShapedAt a.maker a.settings a.plan f.phase (record f { stripe = stripe }) = subst (λ (p : Phase P H). IsShapedAt a.maker a.settings a.plan p (record f { stripe = stripe })) (sym idle) (at_rest a.maker a.settings a.plan f driven.frame idle) in
      let frame : IsFrame a.maker a.settings a.plan (record f { stripe = stripe }) = record { stripe = below; queue = driven.frame.queue; freed_room = driven.frame.freed_room; freed_each = driven.frame.freed_each; freed_order = driven.frame.freed_order; objects = driven.frame.objects; shape = shape } in
      record {
        frame = frame;
        keeps = record { objects = driven.keeps.objects; local = driven.keeps.local; phase = driven.keeps.phase };
        answer = driven.answer;
        carries = record { units = driven.carries.units; beside = driven.carries.beside };
        counted = driven.counted;
        stands = subst (λ (p : Phase P H). StandsFor (next_target a.settings a.plan p (record f { stripe = stripe })) a places (record f { stripe = stripe })) (sym idle) (record {
          counters = s.counters;
          parts = s.parts;
          long = s.long;
          kept = s.kept;
          can = record {
            core = s.can.core;
            frame = frame;
            fits = record { once = s.can.fits.once; others = s.can.fits.others };
          };
        });
      }

-- A caller may be in any of them.
module _ {P H M : Type 0} (told : M → MakerTold) (p : Allocator P H M) (s : Caller P H M) (pool : IsAllocator told p) (is : IsCaller told p s) where
  pub caller_in : (stripe : ℕ) → stripe < p.pool.settings.num_stripes → IsCaller told p (record s { frame = record s.frame { stripe = stripe } })
  caller_in stripe below = record {
    own = is.own;
    free = is.free;
    idle = is.idle;
    driven = in_stripe (length (made_with p.pool.hall)) (about_pool told p) (view s.seat) s.frame is.driven is.idle stripe (omega (arith, below, pool.pool.hall.pool.stripes));
  }
