-- What a seat's view tells of regions of which nothing is known: a call puts one into its cell only where it also puts one into its cell that
-- has more faults than when it left it.
use Rattle.std.specs.Prelude.{◌≡◌, ◌⊎◌, ℕ, true, false, List, [], ◌∷◌}
use Rattle.std.specs.List.{AllByRecursion}
use Rattle.pool_hall.specs.Tally.{counted, number}
use Rattle.pool_hall.specs.declared.unit_name.SlotKind.TheVariants.{Memory as memory_kind}
use Rattle.pool_hall.specs.declared.view.View.{View}
use Rattle.pool_types.specs.declared.unsupported.Unsupported.TheVariants.{AddressSpace}
use Rattle.pool_slots.specs.CellOf.{cell_of}
use Rattle.pool_slots.specs.Cells.{Cell, unknown}
use Rattle.pool_slots.specs.Plans.{cell_role, role_at}
use Rattle.pool_slots.specs.RegionCells.{faults_in}
use Rattle.pool_slots.specs.SlotQueues.{Queued}
use Rattle.pool_slots.specs.declared.cells.ImageSlot.{ImageSlot}
use Rattle.pool_slots.specs.declared.errors.AllocError.{AllocError}
use Rattle.pool_slots.specs.declared.errors.AllocError.TheVariants.{LimiterDenied, LimiterFault, Unsupported}
use Rattle.pool_slots.specs.declared.plan.Plan.{Plan}
use Rattle.pool_slots.specs.declared.slot_name.SlotName.{SlotName}
use Rattle.pool_alloc.specs.declared.frame.Ending.{Ending}
use Rattle.pool_alloc.specs.declared.frame.Ending.TheVariants.{Refused as refused}
use Rattle.pool_alloc.specs.declared.frame.Frame.{Frame}
use Rattle.pool_alloc.specs.declared.frame.Outcome.{Outcome}
use Rattle.pool_alloc.specs.declared.frame.Outcome.TheVariants as answer
use Rattle.pool_alloc.specs.declared.frame.Phase.{Phase}
use Rattle.pool_alloc.specs.declared.frame.Phase.TheVariants.{Idle, PutNoHeap, PutBack, FreeOne, UncountObject, UncountHeap, PutHeap, FreeHeap, Reset, Merge, Flush, UncountInstance, Purge, Release}
use Rattle.pool_alloc.specs.declared.frame.TakenSlot.{TakenSlot}
use Rattle.pool_alloc.specs.declared.purge.PurgeStep.{PurgeStep}
use Rattle.pool_alloc.specs.declared.purge.PurgeStep.TheVariants.{PutRegion}
use Rattle.pool_alloc.specs.declared.release.ReleaseStep.{ReleaseStep}
use Rattle.pool_alloc.specs.declared.release.ReleaseStep.TheVariants.{Reserve}
use Rattle.pool_driver.specs.Faults.{HasFaulted}
use Rattle.pool_driver.specs.PageFaults.{SomeFaulted}

-- The place among a cell's counts of how often a region was put there of which nothing was known.
abbrev pub unknown_puts : ℕ
unknown_puts = 1

-- Of a call that began with the first view, and has the second now
module _ {T : Type 0} (base v : View T) (plan : Plan) where
  -- No region was put into a cell of which nothing was known: at no cell's place such a put was counted.
  abbrev pub NoneUnknown : Type 0
  NoneUnknown = (place : ℕ) (slot : SlotName) → role_at plan place ≡ cell_role slot → number (counted place unknown_puts) v ≡ number (counted place unknown_puts) base

  -- None was, or some cell has faulted: its region came back to it with more faults, or with as many as can be counted.
  abbrev pub UnknownCaused : Type 0
  UnknownCaused = SomeFaulted base v plan ⊎ NoneUnknown

-- What is known of a refusal, unless it is by the limiter, or because addresses can't hold a memory's least size: then the memory's slot goes
-- back without a fault, and nothing is known of it. A table that the limiter doesn't want goes back as it was.
abbrev pub UnlessUnmade : Type 0 → AllocError → Type 0
UnlessUnmade known (LimiterDenied false min) = Unit {0}
UnlessUnmade known (LimiterDenied true min) = known
UnlessUnmade known (LimiterFault e) = Unit {0}
UnlessUnmade known (Unsupported AddressSpace) = Unit {0}
UnlessUnmade known _ = known

-- The same of a call that is to end so,
abbrev pub EndingCaused : Type 0 → Ending → Type 0
EndingCaused known (refused e) = UnlessUnmade known e
EndingCaused known _ = known

-- and of one that has ended so. A release puts slots back as it found them, so of one that is answered nothing is known.
abbrev pub AnswerCaused : {P H : Type 0} → Type 0 → Outcome P H → Type 0
AnswerCaused known (answer.Released n) = Unit {0}
AnswerCaused known (answer.Refused e) = UnlessUnmade known e
AnswerCaused known _ = known

-- Nothing is known of what goes into a cell.
abbrev pub IsUnknown : Cell → Type 0
IsUnknown (unknown slot) = Unit {0}
IsUnknown _ = ⊥

-- A region in hand of which nothing is known has more faults than its unit tells.
abbrev pub HandCaused : {P : Type 0} → TakenSlot → ImageSlot P → Type 0
HandCaused at held = IsUnknown (cell_of held) → HasFaulted at.numbers.faults (faults_in (cell_of held))

-- A queued slot goes back known: only memories may be put into a cell as unknown.
abbrev pub GoesBackKnown : Queued → Type 0
GoesBackKnown m = m.name.kind ≡ memory_kind → m.known ≡ true

-- Some queued slot has more faults than its unit tells.
abbrev pub SomeQueuedFaulted : List Queued → Type 0
SomeQueuedFaulted [] = ⊥
SomeQueuedFaulted (m ∷ ms) = HasFaulted m.numbers.faults m.slot.region.faults ⊎ SomeQueuedFaulted ms

-- What is known of the queue that is flushed: a cell has faulted; or one is about to, for one fault makes all slots of the queue unknown; or
-- no region was put so, and no slot of the queue will be.
abbrev pub FlushCaused : {T : Type 0} → View T → View T → Plan → List Queued → Type 0
FlushCaused base v plan slots = SomeFaulted base v plan ⊎ (SomeQueuedFaulted slots ⊎ (NoneUnknown base v plan × AllByRecursion GoesBackKnown slots))

module _ {P : Type 0} where
  -- What is known before the step of a purge: a region that was forgotten is put back next.
  abbrev pub PurgeCaused : Type 0 → PurgeStep P → Type 0
  PurgeCaused known (PutRegion at held) = known × HandCaused at held
  PurgeCaused known _ = known

  -- What is known before the step of a release: once it has begun, nothing.
  abbrev pub ReleaseCaused : Type 0 → ReleaseStep P → Type 0
  ReleaseCaused known Reserve = known
  ReleaseCaused known _ = Unit {0}

module _ {P H : Type 0} where
  -- What is known before the step of a phase, by what is known of the call and of the queue that it flushes. A call that doesn't give back yet
  -- isn't refused yet.
  abbrev pub PhaseCaused : Type 0 → Type 0 → Phase P H → Ending → Type 0
  PhaseCaused known flushing Idle e = Unit {0}
  PhaseCaused known flushing (PutNoHeap at) e = EndingCaused known e
  PhaseCaused known flushing (PutBack at held) e = EndingCaused (known × HandCaused at held) e
  PhaseCaused known flushing (FreeOne name) e = EndingCaused known e
  PhaseCaused known flushing (UncountObject object) e = EndingCaused known e
  PhaseCaused known flushing (UncountHeap lease memory) e = EndingCaused known e
  PhaseCaused known flushing (PutHeap lease memory) e = EndingCaused known e
  PhaseCaused known flushing (FreeHeap name memory) e = EndingCaused known e
  PhaseCaused known flushing (Reset object) e = EndingCaused known e
  PhaseCaused known flushing Merge e = EndingCaused known e
  PhaseCaused known flushing Flush e = EndingCaused flushing e
  PhaseCaused known flushing UncountInstance e = EndingCaused known e
  PhaseCaused known flushing (Purge p step) e = PurgeCaused known step
  PhaseCaused known flushing (Release step) e = ReleaseCaused known step
  PhaseCaused known flushing _ e = known

  -- What is known of a call before the step of its frame.
  abbrev pub CallCaused : {T : Type 0} → View T → View T → Plan → Frame P H → Type 0
  CallCaused base v plan f = PhaseCaused (UnknownCaused base v plan) (FlushCaused base v plan f.local.slots) f.phase f.ending
