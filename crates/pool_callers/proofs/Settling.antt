-- Between calls: what a seat has after a call, and with what it begins the next one.
use Rattle.std.proofs.Common.{◌≡◌, ℕ, ◌+◌, ◌-◌, ◌≤◌, List, [], sym, subst, arith, Option, Some, None}
use Rattle.pool_hall.specs.Sum.{total}
use Rattle.pool_hall.specs.Tally.{additions, number, subtractions}
use Rattle.pool_hall.specs.Unit.{times, minus, pick_of, Beside}
use Rattle.pool_hall.specs.declared.unit_name.UnitName.{UnitName}
use Rattle.pool_hall.specs.declared.view.View.{View}
use Rattle.pool_hall.proofs.Units.{times_minus}
use Rattle.pool_alloc.specs.BetweenSteps.{IsFrame, IsShapedAt}
use Rattle.pool_alloc.specs.Calls.{IsGrant, IsIdle, frame_made}
use Rattle.pool_alloc.specs.Places.{Counter, Thing, Weight, frame_count, frame_counted, frame_weight, of_counts, of_units, only, region_of, right_to}
use Rattle.pool_alloc.specs.Stepping.{count_granted, grant_count, grant_counted}
use Rattle.pool_alloc.specs.Targets.{next_target}
use Rattle.pool_alloc.specs.declared.frame.Call.{Call}
use Rattle.pool_alloc.specs.declared.frame.Call.TheVariants as call
use Rattle.pool_alloc.specs.declared.frame.Frame.{Frame}
use Rattle.pool_alloc.specs.declared.frame.Grant.{Grant}
use Rattle.pool_alloc.specs.declared.frame.Outcome.{Outcome}
use Rattle.pool_alloc.specs.declared.frame.Outcome.TheVariants.{Granted}
use Rattle.pool_alloc.specs.declared.frame.Phase.{Phase}
use Rattle.pool_alloc.proofs.BegunFrames.{at_rest, idle_weight, made_frame, made_weight}
use Rattle.pool_alloc.proofs.Weights.{frame_counts, frame_units}
use Rattle.pool_driver.specs.Calling.{brought}
use Rattle.pool_driver.specs.Driving.{Given, IsDriven, StandsFor, StandsOn, counter_number, counter_of}
use Rattle.pool_driver.specs.Placed.{About}
use Rattle.pool_driver.specs.Pools.{core_of}
use Rattle.pool_driver.proofs.BesideRights.{pairs_answer, pairs_sum, this}
use Rattle.pool_callers.specs.Callers.{Brings, Gains, Gives, Keeps, Loses, given_for, given_in, left_counted}
use Rattle.pool_callers.specs.GrantUnits.{grant_units}
use Rattle.pool_callers.proofs.GrantUnits.{beside_same, less_total, units_weigh}

module _ {T P H : Type 0} (places : ℕ) (g : Given) (v : View T) (f : Frame P H) (o : Option (Outcome P H)) (driven : IsDriven places g v f o) (idle : IsIdle f) where
  nothing : (w : Weight) → frame_weight w f ≡ 0
  nothing w = idle_weight w f idle (at_rest g.about.maker g.about.settings g.about.plan f driven.frame idle)

  no_units : (t : Thing) → frame_count t f ≡ 0
  no_units t = omega (arith, nothing (of_units t), frame_units t f)

  none_counted : (k : Counter) → frame_counted (only k) f ≡ 0
  none_counted k = omega (arith, nothing (of_counts (only k)), frame_counts (only k) f)

  -- An idle frame has nothing: all is the answer's, and the rest.
  pub units_are : (t : Thing) → total t v.units ≡ count_granted (grant_count t) o + total t g.rest
  units_are t = omega (arith, driven.carries.units t, no_units t)

  pub counted_are : (k : Counter) → left_counted v k ≡ count_granted (grant_counted (only k)) o + g.counted k
  counted_are k = omega (arith, driven.counted k, none_counted k)

  beside_all : Beside v.units
  beside_all u region some' =
      let here = units_are (this u) in
      let there = units_are (this (pick_of u)) in
      let right = pairs_sum (λ t. count_granted (grant_count t) o) (λ t. total t g.rest) (pairs_answer o) driven.carries.beside u region (omega arith) in
      omega arith

  -- A seat whose call has ended may make another one: what was granted is among what the seat has.
  pub settled : IsDriven places (given_in g.about v) v f None
  settled = record {
    frame = driven.frame;
    keeps = driven.keeps;
    answer = tt;
    carries = record { units = λ t. omega (arith, no_units t); beside = beside_all };
    counted = λ k. omega (arith, driven.counted k, none_counted k);
    stands = driven.stands;
  }

  idle_stands : StandsOn g.about places f
  idle_stands = subst (λ (p : Phase P H). StandsFor (next_target g.about.settings g.about.plan p f) g.about places f) idle driven.stands

  -- It makes no difference where its next search begins.
  pub at_home : (home : ℕ) → IsDriven places g v (record f { home = home }) o
  at_home home =
      let s = idle_stands in
      let shape : IsShapedAt g.about.maker g.about.settings g.about.plan f.phase (record f { home = home }) = subst (λ (p : Phase P H). IsShapedAt g.about.maker g.about.settings g.about.plan p (record f { home = home })) (sym idle) (at_rest g.about.maker g.about.settings g.about.plan f driven.frame idle) in
      let frame : IsFrame g.about.maker g.about.settings g.about.plan (record f { home = home }) = record { stripe = driven.frame.stripe; queue = driven.frame.queue; freed_room = driven.frame.freed_room; freed_each = driven.frame.freed_each; freed_order = driven.frame.freed_order; objects = driven.frame.objects; shape = shape } in
      record {
        frame = frame;
        keeps = record { objects = driven.keeps.objects; local = driven.keeps.local; phase = driven.keeps.phase };
        answer = driven.answer;
        carries = record { units = driven.carries.units; beside = driven.carries.beside };
        counted = driven.counted;
        stands = subst (λ (p : Phase P H). StandsFor (next_target g.about.settings g.about.plan p (record f { home = home })) g.about places (record f { home = home })) (sym idle) (record {
          counters = s.counters;
          parts = s.parts;
          long = s.long;
          kept = s.kept;
          can = record {
            core = s.can.core;
            frame = frame;
            fits = record { once = s.can.fits.once; others = s.can.fits.others };
          };
        });
      }

-- A seat has subtracted no more than it has added.
abbrev pub Within : {T : Type 0} → View T → Type 0
Within v = (k : Counter) → number (subtractions (counter_number (counter_of k))) v ≤ number (additions (counter_number (counter_of k))) v

-- Whatever a seat with an idle frame has come to have, it may make a call: if its units stand beside what they need, and it has subtracted
-- no more than it has added
module _ {T P H : Type 0} (places : ℕ) (a : About) (v : View T) (f : Frame P H) (driven : IsDriven places (given_in a v) v f None) (idle : IsIdle f) where
  pub within : Within v
  within k = omega (arith, driven.counted k, none_counted places (given_in a v) v f None driven idle k)

  pub again : (w : View T) → Beside w.units → Within w → IsDriven places (given_in a w) w f None
  again w beside in_w = record {
    frame = driven.frame;
    keeps = driven.keeps;
    answer = tt;
    carries = record { units = λ t. omega (arith, no_units places (given_in a v) v f None driven idle t); beside = beside };
    counted = λ k. omega (arith, in_w k, none_counted places (given_in a v) v f None driven idle k);
    stands = driven.stands;
  }

  -- So may one with a frame as it is made, and nothing else.
  pub fresh : (w : View T) (home : ℕ) → w.units ≡ [] → ((k : Counter) → number (additions (counter_number (counter_of k))) w ≡ 0) → ((k : Counter) → number (subtractions (counter_number (counter_of k))) w ≡ 0) → IsDriven places (given_in a w) w (frame_made {P = P} {H = H} home a.settings) None
  fresh w home none none_added none_off =
      let s = idle_stands places (given_in a v) v f None driven idle in
      let frame : IsFrame {P = P} {H = H} a.maker a.settings a.plan (frame_made home a.settings) = made_frame a.maker home (core_of a s.counters None s.parts) s.can.core in
      record {
        frame = frame;
        keeps = record { objects = (tt, tt); local = tt; phase = tt };
        answer = tt;
        carries = record {
          units = λ t. omega arith;
          beside = subst (λ (us : List UnitName). Beside us) (sym none) (λ u region some'. absurd (omega (arith, some')));
        };
        counted = λ k. omega (arith, none_added k, none_off k);
        stands = record {
          counters = s.counters;
          parts = s.parts;
          long = s.long;
          kept = s.kept;
          can = record {
            core = s.can.core;
            frame = frame;
            fits = record {
              once = λ w. omega (arith, s.can.fits.once w, made_weight P H w home a.settings);
              others = λ name. omega (arith, s.can.fits.others name, no_units places (given_in a v) v f None driven idle (right_to name), no_units places (given_in a v) v f None driven idle (region_of name));
            };
          };
        };
      }

-- From a view before a call to the one after it
module _ {T P H : Type 0} (places : ℕ) (a : About) (v w : View T) (f : Frame P H) (idle : IsIdle f) where
  pub gains : (grant : Grant P H) → IsDriven places (given_in a v) w f (Some (Granted grant)) → Gains grant v w
  gains grant driven = record {
    units = units_are places (given_in a v) w f (Some (Granted grant)) driven idle;
    counted = counted_are places (given_in a v) w f (Some (Granted grant)) driven idle;
  }

  pub keeps : (o : Option (Outcome P H)) → ((of : Grant P H → ℕ) → count_granted of o ≡ 0) → IsDriven places (given_in a v) w f o → Keeps v w
  keeps o none driven = record {
    units = λ t. omega (arith, units_are places (given_in a v) w f o driven idle t, none (grant_count t));
    counted = λ k. omega (arith, counted_are places (given_in a v) w f o driven idle k, none (grant_counted (only k)));
  }

  -- What was granted may be given back.
  pub may_give : (grant : Grant P H) → IsGrant a.maker a.settings a.plan grant → IsDriven places (given_in a v) w f (Some (Granted grant)) → Gives a grant w
  may_give grant is driven =
      let has = units_are places (given_in a v) w f (Some (Granted grant)) driven idle in
      let units : (u : UnitName) → times u (grant_units grant) ≤ times u w.units = λ u. omega (arith, has (this u), units_weigh (this u) grant) in
      record {
        is = is;
        keeps = driven.answer;
        units = units;
        beside = beside_same v.units (minus w.units (grant_units grant)) (λ u. omega (arith, has (this u), units_weigh (this u) grant, times_minus u w.units (grant_units grant))) driven.carries.beside;
        counted = λ k. omega (arith, counted_are places (given_in a v) w f (Some (Granted grant)) driven idle k);
      }

  pub loses : (grant : Grant P H) (o : Option (Outcome P H)) → ((of : Grant P H → ℕ) → count_granted of o ≡ 0) → Gives a grant v → IsDriven places (given_for a (call.GiveBack grant) v) w f o → Loses grant v w
  loses grant o none gives driven = record {
    units = λ t. omega (arith, units_are places (given_for a (call.GiveBack grant) v) w f o driven idle t, none (grant_count t), less_total t v.units (grant_units grant) gives.units, units_weigh t grant);
    counted = λ k. omega (arith, counted_are places (given_for a (call.GiveBack grant) v) w f o driven idle k, none (grant_counted (only k)), gives.counted k);
  }

-- With what a call begins
module _ {T P H : Type 0} (places : ℕ) (a : About) (v : View T) (f : Frame P H) (idle : IsIdle f) (driven : IsDriven places (given_in a v) v f None) where
  returning : (grant : Grant P H) → Gives a grant v → IsDriven places (given_for a (call.GiveBack grant) v) v f (Some (Granted grant))
  returning grant gives = record {
    frame = driven.frame;
    keeps = driven.keeps;
    answer = gives.keeps;
    carries = record {
      units = λ t. omega (arith, no_units places (given_in a v) v f None driven idle t, less_total t v.units (grant_units grant) gives.units, units_weigh t grant);
      beside = gives.beside;
    };
    counted = λ k. omega (arith, driven.counted k, none_counted places (given_in a v) v f None driven idle k, gives.counted k);
    stands = driven.stands;
  }

  bringing : (c : Call P H) → Brings a c v → IsDriven places (given_for a c v) v f (brought c)
  bringing call.Key brings = driven
  bringing (call.Module m) brings = driven
  bringing (call.Component info) brings = driven
  bringing (call.Memory m) brings = driven
  bringing (call.Table ty) brings = driven
  bringing call.Stack brings = driven
  bringing (call.Heap ty) brings = driven
  bringing (call.HeapOver memory) brings = driven
  bringing (call.GiveBack grant) brings = returning grant brings
  bringing (call.Purge id) brings = driven
  bringing call.Release brings = driven

  pub begins_driven : (home : ℕ) (c : Call P H) → Brings a c v → IsDriven places (given_for a c v) v (record f { home = home }) (brought c)
  begins_driven home c brings = at_home places (given_for a c v) v f (brought c) (bringing c brings) idle home
