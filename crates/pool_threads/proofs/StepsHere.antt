-- What a step over the hall is to a party.
use Rattle.std.proofs.Common.{◌≡◌, List, Option, Some}
use Rattle.pool_hall.specs.declared.view.View.{View}
use Rattle.pool_limits.specs.Exchanges.{Exchange}
use Rattle.pool_limits.specs.Growth.{GrowthRule}
use Rattle.pool_slots.specs.declared.listed_heaps.ListedHeaps.{ListedHeaps}
use Rattle.pool_slots.specs.declared.listed_heaps.PlainHeap.{PlainHeap}
use Rattle.pool_slots.specs.declared.part.PoolPart.{PoolPart}
use Rattle.pool_alloc.specs.PartyTold.{PartyTold}
use Rattle.pool_alloc.specs.declared.frame.Frame.{Frame}
use Rattle.pool_alloc.specs.declared.frame.Outcome.{Outcome}
use Rattle.pool_driver.specs.Beside.{StepsBeside}
use Rattle.pool_driver.specs.Driving.{Given, SeesStep}
use Rattle.pool_driver.specs.Faults.{FrameKeeps}
use Rattle.pool_driver.specs.Placed.{About}
use Rattle.pool_driver.proofs.Calling.{goes_on, has_ended}
use Rattle.pool_run.specs.Turns.{heaps_told}
use Rattle.pool_threads.specs.Working.{StandsSomewhere, StepsHere, TellsOn}
use Rattle.pool_threads.proofs.Growing.{grows_step}

-- Such a step is one of the table, where the frame could make one somewhere,
pub steps_here : {P : Type 0} (Passes : List Exchange → Type 0) (g : Given) (rule : GrowthRule) (before after : ListedHeaps) (old new : PartyTold) (f next : Frame P PlainHeap) (o : Option (Outcome P PlainHeap)) → StandsSomewhere g f → StepsBeside Passes old new g f next o → old.limiter.rule ≡ Some rule → old.heaps ≡ heaps_told before → new.heaps ≡ heaps_told after → StepsHere g rule before after f next o
steps_here Passes g rule before after old new f next o somewhere beside ruled first last =
    let s = beside somewhere.0 somewhere.1 in
    record { core = s.core; left = s.left; stands = s.stands; row = (old, new, ruled, (s.row.0, s.row.1.0), first, last) }

-- and tells on of its call.
pub tells_on : {T P : Type 0} (about : T → About) (inner : T → PoolPart P PlainHeap) (Passes : List Exchange → Type 0) (old new : PartyTold) (a : About) (v w : View T) (f next : Frame P PlainHeap) (o : Option (Outcome P PlainHeap)) → SeesStep about inner Passes old new a v w f next o → FrameKeeps f → TellsOn a v w f next o
tells_on about inner Passes old new a v w f next o sees keeps = record {
  grows = grows_step about inner v Passes old new a w f next o sees;
  goes = λ base first goes none. goes_on about inner Passes old new a base v w first f next o goes sees keeps none;
  ended = λ base first answer goes some. has_ended about inner Passes old new a base v w first f next o goes sees keeps answer some;
}
