-- What the steps of one call do together, with no step of another call between them.
use Rattle.std.proofs.Common.{◌≡◌, arith, refl, sym, ◌∙◌, true, not, List, [], ◌∷◌, None, Some, ℕ, is_some}
use Rattle.pool_alloc.proofs.Imports.{second_true, MakerTold, AllocError}
use Rattle.pool_alloc.specs.declared.frame.Grant.{Grant}
use Rattle.pool_alloc.specs.declared.frame.Call.{Call}
use Rattle.pool_alloc.specs.UninterruptedCalls.{IsStep, AreSteps, HasSameCounts, IsAsking}
use Rattle.pool_alloc.specs.Calls.{MayBegin, begun_call}
use Rattle.pool_alloc.specs.Places.{Thing, right_to, region_of, frame_count, Weight, of_units}
use Rattle.pool_alloc.specs.Stepping.{CanStep, Conserves, count_granted, is_idle, grant_weight}
use Rattle.pool_alloc.specs.Turns.{After}
use Rattle.pool_alloc.specs.declared.pool_core.PoolCore.{PoolCore}
use Rattle.pool_alloc.specs.declared.frame.Call.TheVariants as call
use Rattle.pool_alloc.specs.declared.frame.Frame.{Frame}
use Rattle.pool_alloc.specs.declared.frame.Outcome.TheVariants.{Refused}
use Rattle.pool_alloc.specs.declared.frame.Phase.{Phase}
use Rattle.pool_alloc.specs.declared.frame.Phase.TheVariants.{Idle}
use Rattle.pool_alloc.proofs.BegunFrames.{at_rest, begun_frame, begun_weight, idle_weight, idle_of, call_has}
use Rattle.pool_alloc.proofs.StepNeeds.{step_ok, can_still}
use Rattle.pool_alloc.proofs.Weights.{frame_units}

module _ {P H : Type 0} (maker : MakerTold) where
  idle_is : (p : Phase P H) → is_idle p ≡ true → p ≡ Idle
  idle_is Idle on = refl
  idle_is p on = absurd cc

  -- what steps do together: nothing is lost or made, the frame may step on, and it is idle where the last answers
  record Together (c : PoolCore P H) (f : Frame P H) (a : After P H) : Type 0 where
    conserves : Conserves c f a
    can : CanStep maker a.core a.frame
    ended : is_some a.outcome ≡ true → is_idle a.frame.phase ≡ true

  one : (c : PoolCore P H) (f : Frame P H) (a : After P H) → CanStep maker c f → IsStep c f a → Together c f a
  one c f a can steps =
      let ok = step_ok maker steps.0 steps.1.0 c f a can steps.1.1 in
      record {
        conserves = ok.conserves;
        can = can_still maker steps.0 steps.1.0 c f a can steps.1.1;
        ended = λ on. second_true (not (is_idle f.phase)) (is_idle a.frame.phase) (sym ok.ends.answer ∙ on);
      }

  -- where the first don't answer
  both : (c : PoolCore P H) (f : Frame P H) (b a : After P H) → Together c f b → b.outcome ≡ None → Together b.core b.frame a → Together c f a
  both c f b a first none then = record {
    conserves = λ w. let no : count_granted (grant_weight w) b.outcome ≡ 0 = rw none refl in omega (arith, first.conserves w, then.conserves w);
    can = then.can;
    ended = then.ended;
  }

  all : (c : PoolCore P H) (f : Frame P H) (before : List (After P H)) (a : After P H) → CanStep maker c f → AreSteps c f before a → Together c f a
  all c f [] a can steps = one c f a can steps
  all c f (b ∷ rest) a can steps =
      let first = one c f b can steps.0 in
      both c f b a first steps.1.0 (all b.core b.frame rest a first.can steps.1.1)

  pub nothing_brought : (of : Grant P H → ℕ) (asks : Call P H) → IsAsking asks → call_has of asks ≡ 0
  nothing_brought of (call.GiveBack grant) is = absurd is
  nothing_brought of asks is = refl

  begun_units : (c : PoolCore P H) (f : Frame P H) (asks : Call P H) → IsAsking asks → CanStep maker c f → MayBegin maker c.settings c.plan asks f → (t : Thing) → frame_count t (begun_call asks f) ≡ frame_count t f
  begun_units c f asks is can may t =
      omega (arith, begun_weight maker (of_units t) asks c.settings c.plan f can.frame may, nothing_brought (grant_weight (of_units t)) asks is, frame_units t f, frame_units t (begun_call asks f))

  pub begun_can : (c : PoolCore P H) (f : Frame P H) (asks : Call P H) → IsAsking asks → CanStep maker c f → MayBegin maker c.settings c.plan asks f → CanStep maker c (begun_call asks f)
  begun_can c f asks is can may =
      let same = λ (w : Weight). begun_weight maker w asks c.settings c.plan f can.frame may in
      record {
        core = can.core;
        frame = begun_frame maker asks c.settings c.plan f can.frame may;
        fits = record {
          once = λ w. omega (arith, can.fits.once w, same w, nothing_brought (grant_weight w) asks is);
          others = λ name. omega (arith, can.fits.others name, begun_units c f asks is can may (region_of name), begun_units c f asks is can may (right_to name));
        };
      }

  -- A refused request changes no count.
  pub refused_same : (c : PoolCore P H) (f : Frame P H) (asks : Call P H) (before : List (After P H)) (a : After P H) (e : AllocError) → IsAsking asks → CanStep maker c f → MayBegin maker c.settings c.plan asks f → AreSteps c (begun_call asks f) before a → a.outcome ≡ Some (Refused e) → HasSameCounts c a.core
  refused_same c f asks before a e is can may steps refused =
      let begun : Frame P H = begun_call asks f in
      let done = all c begun before a (begun_can c f asks is can may) steps in
      let began : f.phase ≡ Idle = idle_of maker c.settings c.plan asks f may in
      let rest = at_rest maker c.settings c.plan f can.frame began in
      let idle : a.frame.phase ≡ Idle = idle_is a.frame.phase (done.ended (rw refused refl)) in
      let left = at_rest maker a.core.settings a.core.plan a.frame done.can.frame idle in
      λ w.
      let none : count_granted (grant_weight w) a.outcome ≡ 0 = rw refused refl in
      omega (arith, done.conserves w, nothing_brought (grant_weight w) asks is, begun_weight maker w asks c.settings c.plan f can.frame may, idle_weight w f began rest, idle_weight w a.frame idle left, none)
