-- What a seat's view tells of parts since a call began goes on with each step, up to the answer.
use Rattle.std.proofs.Common.{◌≡◌, ◌⊎◌, ⊎_elim, false, List, subst, Option, Some, IfSome}
use Rattle.pool_hall.specs.declared.view.View.{View}
use Rattle.pool_limits.specs.Exchanges.{Exchange}
use Rattle.pool_slots.specs.declared.part.PoolPart.{PoolPart}
use Rattle.pool_alloc.specs.CallStages.{stage_of}
use Rattle.pool_alloc.specs.Calls.{begun_call}
use Rattle.pool_alloc.specs.PartyTold.{PartyTold}
use Rattle.pool_alloc.specs.Stepping.{is_idle}
use Rattle.pool_alloc.specs.Turns.{Left}
use Rattle.pool_alloc.specs.declared.frame.Call.{Call}
use Rattle.pool_alloc.specs.declared.frame.Frame.{Frame}
use Rattle.pool_alloc.specs.declared.frame.Outcome.{Outcome}
use Rattle.pool_driver.specs.Calling.{Becomes, MayAnswer, is_refused, kind_at, kind_of, purges, releases}
use Rattle.pool_driver.specs.Driving.{SeesStep}
use Rattle.pool_driver.specs.Faults.{FrameKeeps}
use Rattle.pool_driver.specs.Limits.{IfRefused}
use Rattle.pool_driver.specs.PageFaults.{CellFaulted, IfFaulted}
use Rattle.pool_driver.specs.PartsTold.{PartsTell, PartsTellSoFar}
use Rattle.pool_driver.specs.Placed.{About}
use Rattle.pool_driver.specs.Purging.{HasMissed, IfPurged}
use Rattle.pool_driver.specs.Releasing.{HasTakenWarm, IfReleased}
use Rattle.pool_driver.specs.Telling.{HoldsMore}
use Rattle.pool_driver.specs.UnknownPuts.{AnswerCaused, UnknownCaused}
use Rattle.pool_driver.proofs.OtherKinds.{other_on}
use Rattle.pool_driver.proofs.PageFaultRows.{LeftFaulted}
use Rattle.pool_driver.proofs.PageFaults.{faulted_begins, faulted_step}
use Rattle.pool_driver.proofs.Purging.{LeftMissed, missed_begins, missed_step, none_missed_last, none_missed_on}
use Rattle.pool_driver.proofs.Releasing.{LeftTaken, none_taken_last, none_taken_on, taken_begins, taken_step}
use Rattle.pool_driver.proofs.UnknownPuts.{LeftUnknown, caused_begins, caused_step}

-- What is told of a call that begins.
pub parts_begin : {T P H : Type 0} (a : About) (v : View T) (c : Call P H) (f : Frame P H) → kind_at (stage_of (begun_call c f)) ≡ kind_of c → PartsTellSoFar a v v (begun_call c f)
parts_begin a v c f kind = record {
  fault = faulted_begins (CellFaulted v v a.plan) c f;
  warm = taken_begins v v a.plan c f kind;
  missed = missed_begins v a.plan a.settings.max_memories_per_module c f kind;
  unknown = caused_begins v a.plan c f;
}

module _ {T P H : Type 0} (about : T → About) (inner : T → PoolPart P H) (Passes : List Exchange → Type 0) (old new : PartyTold) (a : About) (base v w : View T) (f next : Frame P H) (o : Option (Outcome P H)) (began : HoldsMore base v) (keeps : FrameKeeps f) (s : SeesStep about inner Passes old new a v w f next o) (busy : is_idle f.phase ≡ false) (had : PartsTellSoFar a base v f) where
  -- what the step leaves
  abbrev left : Left P H
  left = record { frame = next; outcome = o }

  fault_here : LeftFaulted {P = P} {H = H} (CellFaulted base w a.plan) left
  fault_here = faulted_step about inner Passes old new a base v w f next o began keeps s busy had.fault

  warm_here : LeftTaken {P = P} {H = H} base w a.plan left ⊎ (kind_at (stage_of f) ≡ releases → ⊥)
  warm_here = taken_step about inner Passes old new a base v w f next o began s had.warm

  missed_here : LeftMissed {P = P} {H = H} base w a.plan a.settings.max_memories_per_module left ⊎ (kind_at (stage_of f) ≡ purges → ⊥)
  missed_here = missed_step about inner Passes old new a base v w f next o began s had.missed

  unknown_here : LeftUnknown {P = P} {H = H} base w a.plan left
  unknown_here = caused_step about inner Passes old new a base v w f next o began keeps s busy had.unknown

  -- It is told after a step,
  pub parts_on : Becomes (kind_at (stage_of f)) (kind_at (stage_of next)) → PartsTellSoFar a base w next
  parts_on becomes = record {
    fault = fault_here.frame;
    warm = ⊎_elim
        (λ (there : LeftTaken {P = P} {H = H} base w a.plan left). there.frame)
        (λ (other : kind_at (stage_of f) ≡ releases → ⊥). none_taken_on base w a.plan next (other_on releases (kind_at (stage_of f)) (kind_at (stage_of next)) (λ (is : releases ≡ is_refused). absurd cc) becomes other))
        warm_here;
    missed = ⊎_elim
        (λ (there : LeftMissed {P = P} {H = H} base w a.plan a.settings.max_memories_per_module left). there.frame)
        (λ (other : kind_at (stage_of f) ≡ purges → ⊥). none_missed_on base w a.plan a.settings.max_memories_per_module next (other_on purges (kind_at (stage_of f)) (kind_at (stage_of next)) (λ (is : purges ≡ is_refused). absurd cc) becomes other))
        missed_here;
    unknown = unknown_here.frame;
  }

  -- and of its answer.
  pub parts_last : (answer : Outcome P H) → o ≡ Some answer → MayAnswer (kind_at (stage_of f)) answer → PartsTell a base w answer
  parts_last answer some may = record {
    fault = subst (λ (z : Option (Outcome P H)). IfSome z (IfRefused (IfFaulted (CellFaulted base w a.plan)))) some fault_here.answer;
    warm = ⊎_elim
        (λ (there : LeftTaken {P = P} {H = H} base w a.plan left). subst (λ (z : Option (Outcome P H)). IfSome z (IfReleased (HasTakenWarm base w a.plan))) some there.answer)
        (λ (other : kind_at (stage_of f) ≡ releases → ⊥). none_taken_last base w a.plan (kind_at (stage_of f)) answer may other)
        warm_here;
    missed = ⊎_elim
        (λ (there : LeftMissed {P = P} {H = H} base w a.plan a.settings.max_memories_per_module left). subst (λ (z : Option (Outcome P H)). IfSome z (IfPurged (HasMissed base w a.plan a.settings.max_memories_per_module))) some there.answer)
        (λ (other : kind_at (stage_of f) ≡ purges → ⊥). none_missed_last base w a.plan a.settings.max_memories_per_module (kind_at (stage_of f)) answer may other)
        missed_here;
    unknown = subst (λ (z : Option (Outcome P H)). IfSome z (AnswerCaused (UnknownCaused base w a.plan))) some unknown_here.answer;
  }
