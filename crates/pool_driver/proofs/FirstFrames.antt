-- The first seat of a pool may drive a frame as it is made.
use Rattle.std.proofs.Common.{◌≡◌, ℕ, ◌<◌, List, length, arith, None}
use Rattle.pool_pages.specs.MakerTold.{MakerTold}
use Rattle.pool_hall.specs.Rule.{first_view}
use Rattle.pool_slots.specs.Parts.{part_at}
use Rattle.pool_slots.specs.PartsMade.{IsMadeAs}
use Rattle.pool_slots.specs.Plans.{role_at}
use Rattle.pool_alloc.specs.BetweenSteps.{IsCore}
use Rattle.pool_alloc.specs.Calls.{frame_made}
use Rattle.pool_alloc.specs.Made.{IsMadeCore, part_settings, plan_settings}
use Rattle.pool_alloc.specs.Places.{region_of, right_to}
use Rattle.pool_alloc.specs.PoolAndHolders.{IsUntouched}
use Rattle.pool_alloc.specs.declared.pool_core.PoolCore.{PoolCore}
use Rattle.pool_alloc.proofs.BegunFrames.{made_frame, made_weight}
use Rattle.pool_alloc.proofs.UnusedPools.{none_away, none_kept}
use Rattle.pool_driver.specs.Driving.{IsDriven, alone_of}
use Rattle.pool_driver.specs.Growing.{AreKept}
use Rattle.pool_driver.specs.Pools.{Making, about_core}
use Rattle.pool_driver.proofs.Fresh.{counts_none, keeps_none}

module _ {P H : Type 0} (maker : MakerTold) (of : Making) (c : PoolCore P H) (is_made : IsMadeCore maker of.config of.tunables of.offered of.shards c) (core : IsCore maker c) (none : IsUntouched c) where
  made_at : (p : ℕ) → p < length c.parts → IsMadeAs (plan_settings maker.page of.config of.tunables of.offered of.shards).num_stripes maker (part_settings maker.page of.config of.offered) (role_at c.plan p) (part_at p c.parts)
  made_at p below = is_made.parts.each p (omega (arith, below, is_made.parts.count))

  kept_made : AreKept c.parts
  kept_made p below = record {
    faults = keeps_none (plan_settings maker.page of.config of.tunables of.offered of.shards).num_stripes maker (part_settings maker.page of.config of.offered) (role_at c.plan p) (part_at p c.parts) (made_at p below);
    small = λ i. omega (arith, counts_none (plan_settings maker.page of.config of.tunables of.offered of.shards).num_stripes maker (part_settings maker.page of.config of.offered) (role_at c.plan p) (part_at p c.parts) (made_at p below) i);
  }

  pub first_driven : {T : Type 0} (places : ℕ) → length c.parts ≡ places → (made : List T) (limits : List ℕ) (home : ℕ) → IsDriven {P = P} {H = H} places (alone_of (about_core maker c)) (first_view made limits) (frame_made home c.settings) None
  first_driven places long made limits home = record {
    frame = made_frame maker home c core;
    keeps = record { objects = (tt, tt); local = tt; phase = tt };
    answer = tt;
    carries = record { units = λ t. omega arith; beside = λ u region some'. absurd (omega (arith, some')) };
    counted = λ k. omega arith;
    stands = record {
      counters = c.counters;
      parts = c.parts;
      long = long;
      kept = kept_made;
      can = record {
        core = record { settings = core.settings; page = core.page; plan = core.plan; stripes = core.stripes; parts = core.parts };
        frame = made_frame maker home c core;
        fits = record {
          once = λ w. omega (arith, none_kept w.unit c none, made_weight P H w home c.settings);
          others = λ name. omega (arith, none_away (region_of name) c none, none_kept (right_to name) c none);
        };
      };
    };
  }
