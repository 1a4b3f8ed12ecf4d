-- What a seat's view tells of a call by what parts have counted since the call began: while it goes on, and once it has ended.
use Rattle.pool_hall.specs.declared.view.View.{View}
use Rattle.pool_alloc.specs.declared.frame.Frame.{Frame}
use Rattle.pool_alloc.specs.declared.frame.Outcome.{Outcome}
use Rattle.pool_driver.specs.Limits.{IfRefused}
use Rattle.pool_driver.specs.PageFaults.{CellFaulted, IfFaulted, PhaseFaulted}
use Rattle.pool_driver.specs.Placed.{About}
use Rattle.pool_driver.specs.Purging.{HasMissed, IfPurged, PhaseMissed}
use Rattle.pool_driver.specs.Releasing.{HasTakenWarm, IfReleased, PhaseTaken}
use Rattle.pool_driver.specs.UnknownPuts.{AnswerCaused, CallCaused, UnknownCaused}

-- Of a call that began with the first view, and has the second now
module _ {T P H : Type 0} (a : About) (base v : View T) where
  -- What is told before the step of its frame. Where the call is to be refused for a failed page call, the fault came home, or the region is
  -- put back next. Each shard of memories behind a release gave its warm slots. Where a purge found few slots, each shard behind it missed
  -- what the purge was for. Where a region of which nothing is known was put into its cell, a cell has faulted, or will next.
  pub record PartsTellSoFar (f : Frame P H) : Type 0 where
    pub fault : PhaseFaulted (CellFaulted base v a.plan) f.phase f.ending
    pub warm : PhaseTaken base v a.plan f.phase
    pub missed : PhaseMissed base v a.plan a.settings.max_memories_per_module f.phase
    pub unknown : CallCaused base v a.plan f

  -- What is told once the call has ended with this answer. Where it was refused for a failed page call, a memory's region came back to its
  -- cell with more faults, or with as many as can be counted. Where it is answered with what it released, each shard of memories gave its
  -- warm slots. Where it is answered with fewer purged slots than each stripe has, each shard of memories missed as often as a module may
  -- have memories. A region of which nothing is known was put into its cell only where a cell has faulted; a release that is answered and a
  -- refusal by the limiter, or because addresses can't hold a memory's least size, are excepted.
  pub record PartsTell (o : Outcome P H) : Type 0 where
    pub fault : IfRefused (IfFaulted (CellFaulted base v a.plan)) o
    pub warm : IfReleased (HasTakenWarm base v a.plan) o
    pub missed : IfPurged (HasMissed base v a.plan a.settings.max_memories_per_module) o
    pub unknown : AnswerCaused (UnknownCaused base v a.plan) o
