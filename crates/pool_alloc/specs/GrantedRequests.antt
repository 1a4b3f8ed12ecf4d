-- A request that nothing hinders and in which nothing fails is granted, unless there is no memory for it: what it may break, and what may
-- fail in a step.
use Rattle.std.specs.Prelude.{◌≡◌, ℕ, ◌<◌, List, [], ◌∷◌, true, false, None, Ok, IfErr}
use Rattle.pool_alloc.specs.Imports.{AllocError, Slot, Told}
use Rattle.pool_slots.specs.declared.errors.AllocError.TheVariants as refusal
use Rattle.pool_slots.specs.declared.heap_maker.HeapMakeFault.TheVariants as no_heap
use Rattle.pool_alloc.specs.MemorySteps.{memory_made}
use Rattle.pool_alloc.specs.PartyTold.{PartyTold}
use Rattle.pool_alloc.specs.Refusals.{component_refused, module_refused, type_refused}
use Rattle.pool_alloc.specs.StepReads.{StepGiven, info_wanted, memories_wanted, tables_wanted}
use Rattle.pool_alloc.specs.Stepping.{Takes}
use Rattle.pool_alloc.specs.TableSteps.{table_made}
use Rattle.pool_alloc.specs.Turns.{After}
use Rattle.pool_alloc.specs.declared.frame.Asked.{Asked}
use Rattle.pool_alloc.specs.declared.frame.Asked.TheVariants.{Module as module_asked}
use Rattle.pool_alloc.specs.declared.frame.Call.{Call}
use Rattle.pool_alloc.specs.declared.frame.Call.TheVariants as call
use Rattle.pool_alloc.specs.declared.frame.Frame.{Frame}
use Rattle.pool_alloc.specs.declared.frame.Outcome.{Outcome}
use Rattle.pool_alloc.specs.declared.frame.Outcome.TheVariants as answer
use Rattle.pool_alloc.specs.declared.frame.Phase.{Phase}
use Rattle.pool_alloc.specs.declared.frame.Phase.TheVariants.{Empty, Instantiate, MakeMemory, MakeTable, MakeHeap}
use Rattle.pool_alloc.specs.declared.frame.TakenSlot.{TakenSlot}
use Rattle.pool_alloc.specs.declared.pool_core.PoolCore.{PoolCore}
use Rattle.pool_alloc.specs.declared.pool_core.Settings.{Settings}

-- The refusal is for want of memory.
abbrev pub IsWant : AllocError → Type 0
IsWant e = e ≡ refusal.Memory

-- Each memory and each table that is asked for can be made in whatever slot it gets, once the limiter lets it: its minimum is a size that
-- there is, and fits the slot.
pub record CanBeMade (s : Settings) (asked : Asked) : Type 0 where
  pub memories : (k : ℕ) (held : Slot) → IfErr (memory_made s (memories_wanted asked) k (Ok true) held) IsWant
  pub tables : (k : ℕ) (at : TakenSlot) (region : Told) → IfErr (table_made s (tables_wanted asked) k (Ok true) at region) IsWant

module _ {P H : Type 0} where
  -- The call breaks no rule of the pool, and what it asks for is enabled.
  abbrev pub BreaksNoRule : PoolCore P H → Call P H → Type 0
  BreaksNoRule c (call.Module m) = module_refused c.settings c.plan.totals.table (info_wanted (module_asked m)) ≡ None
  BreaksNoRule c (call.Component info) = component_refused c.settings info ≡ None
  BreaksNoRule c call.Stack = 0 < c.settings.stack_size
  BreaksNoRule c (call.Heap ty) = (c.settings.tunables.tunables.collector ≡ true) × (type_refused c.settings ty ≡ None)
  BreaksNoRule c (call.HeapOver memory) = c.settings.tunables.tunables.collector ≡ true
  BreaksNoRule c _ = Unit {0}

  -- Nothing that the step asks for fails: no call on the pages of the slot that it begins, nor the making of a heap, but for want of
  -- memory; and the limiter lets the memory or the table be made.
  abbrev pub NothingFails : StepGiven H → Phase P H → Type 0
  NothingFails g (Empty at held) = g.fault ≡ false
  NothingFails g (Instantiate at held) = g.fault ≡ false
  NothingFails g (MakeMemory at held) = g.limiter ≡ Ok true
  NothingFails g (MakeTable at region) = g.limiter ≡ Ok true
  NothingFails g (MakeHeap at) = IfErr g.heap (λ fault. fault ≡ no_heap.Memory)
  NothingFails g _ = Unit {0}

  -- A step, under some limiter and some maker of heaps, in which nothing fails.
  abbrev pub GoesWell : PoolCore P H → Frame P H → After P H → Type 0
  GoesWell c f a = (old : PartyTold) × ((new : PartyTold) × ((g : StepGiven H) × (Takes old new g c f a × NothingFails g f.phase)))

  -- Such steps of the frame's call, each made on what the one before left. What each but the last leaves is listed, and none of those
  -- answers; this is what the last leaves.
  abbrev pub AllGoWell : PoolCore P H → Frame P H → List (After P H) → After P H → Type 0
  AllGoWell c f [] a = GoesWell c f a
  AllGoWell c f (b ∷ rest) a = GoesWell c f b × ((b.outcome ≡ None) × AllGoWell b.core b.frame rest a)

  -- The answer is a grant, or that there was no memory for it.
  abbrev pub IsGranted : Outcome P H → Type 0
  IsGranted (answer.Granted grant) = Unit {0}
  IsGranted (answer.Refused e) = IsWant e
  IsGranted _ = ⊥
