-- What follows for the slot of a heap that the next step of a call has, and for what a call for a heap asks.
use Rattle.std.proofs.Common.{◌≡◌, ℕ, ◌<◌, ◌≤◌, Bool, true, false, refl, sym, subst, arith, length, if◌then◌else◌, nat_lt, Option}
use Rattle.pool_alloc.proofs.Imports.{ltb-true, SlotKind, memory_kind, heap_kind, MakerTold, IsHere, heap_slot, of_kind, Plan, RegionNumbers, SlotName}
use Rattle.pool_alloc.specs.HeapLeases.{LeasedHeap}
use Rattle.pool_alloc.specs.Leases.{Lease}
use Rattle.pool_alloc.specs.Places.{right_to, frame_count}
use Rattle.pool_alloc.specs.BetweenSteps.{HasCells, IsCore, FitsCore, IsHeapName, IsAllocating}
use Rattle.pool_alloc.specs.StepReads.{memories_wanted, memories_kept, heaps_wanted, heaps_at, kind_by, kind_next}
use Rattle.pool_alloc.specs.declared.frame.Asked.{Asked}
use Rattle.pool_alloc.specs.declared.frame.Asked.TheVariants.{Memory as memory_asked, Table as table_asked, Stack as stack_asked, Heap as heap_asked, HeapOver as heap_over_asked}
use Rattle.pool_alloc.specs.declared.frame.Frame.{Frame}
use Rattle.pool_alloc.specs.declared.frame.Phase.TheVariants.{Idle, TakeHeap, PutNoHeap, PutHeap}
use Rattle.pool_alloc.specs.declared.pool_core.PoolCore.{PoolCore}
use Rattle.pool_alloc.specs.declared.pool_core.Settings.{Settings}
use Rattle.pool_alloc.specs.CanStep.{CanTakeMemory}
use Rattle.pool_alloc.proofs.BeforeTheTurn.{CountsNone, in_phase}
use Rattle.pool_alloc.proofs.SlotCounts.{slot_once, slot_regions}
use Rattle.pool_alloc.proofs.SlotsOfFrames.{IsHeapOut, unit_once, frame_regions, held_once, heap_is_home, heap_is_away}
use Rattle.pool_alloc.specs.declared.leases.instance.InstanceLease.{InstanceLease}

-- the name of a heap's slot
pub heap_name : (plan : Plan) (name : SlotName) → IsHeapName plan name → name ≡ heap_slot name.slot
heap_name plan name named = (λ i. record { kind = named.kind i; slot = name.slot })

pub heap_inside : (plan : Plan) (name : SlotName) → IsHeapName plan name → name.slot < of_kind name.kind plan.totals
heap_inside plan name named = subst (λ (k : SlotKind). name.slot < of_kind k plan.totals) (sym named.kind) named.inside

-- the memory of a heap is there, if one is allocated for it
pub takes_memory : {P : Type 0} (asked : Asked) (objects : InstanceLease P) → heaps_wanted asked ≡ 1 → length (memories_wanted asked) ≤ length objects.memories.items → CanTakeMemory asked objects
takes_memory (heap_asked ty) objects one there = omega (arith, there)
takes_memory (heap_over_asked memory) objects one there = tt
takes_memory asked objects one there = absurd (omega (arith, one))

-- Where a region is next of a call that counts no instance, the call has nothing yet.
cells_if : (b : Bool) → HasCells (if b then memory_kind else heap_kind) → b ≡ true
cells_if true cells = refl
cells_if false cells = absurd cells

kind_first : (asked : Asked) (n : ℕ) → HasCells (kind_by asked n) → CountsNone asked → n ≤ memories_kept asked → n ≡ 0
kind_first (memory_asked m) n cells none few = omega (arith, few)
kind_first (table_asked ty) n cells none few = omega (arith, few)
kind_first stack_asked n cells none few = omega (arith, few)
kind_first (heap_over_asked memory) n cells none few = omega (arith, few)
kind_first (heap_asked ty) n cells none few = omega (arith, ltb-true n 1 (cells_if (nat_lt n 1) cells))
kind_first asked n cells none few = absurd (omega (arith, none))

module _ {P H : Type 0} where
  pub memories_first : (s : Settings) (plan : Plan) (f : Frame P H) → IsAllocating s plan f → HasCells (kind_next f) → CountsNone f.asked → length f.objects.memories.items ≡ 0
  memories_first s plan f allocating cells none = kind_first f.asked (length f.objects.memories.items) cells none allocating.to_grant.few

  -- The heap of a slot that was picked is in the list.
  pub taken_is_home : (maker : MakerTold) (slot : ℕ) (c : PoolCore P H) (f : Frame P H) → IsCore maker c → FitsCore c (in_phase (TakeHeap (heap_slot slot)) f) → slot < c.plan.totals.heap → IsHere slot (heaps_at c)
  taken_is_home maker slot c f core fits inside =
      let name : SlotName = heap_slot slot in
      let e : Frame P H = in_phase (TakeHeap name) f in
      let some : 1 ≤ frame_count (right_to name) e = omega (arith, slot_once name) in
      heap_is_home maker slot c e core fits inside some (omega (arith, slot_once name, slot_regions name name, (held_once maker name c e core fits some).held, frame_regions name (in_phase Idle f)))

  -- That of one that comes back without a heap is out, with the numbers of its unit,
  pub no_heap_is_away : (maker : MakerTold) (slot : ℕ) (n : RegionNumbers) (c : PoolCore P H) (f : Frame P H) → IsCore maker c → FitsCore c (in_phase (PutNoHeap (record { name = heap_slot slot; numbers = n })) f) → IsHeapOut c slot n
  no_heap_is_away maker slot n c f core fits = heap_is_away maker slot n c (in_phase (PutNoHeap (record { name = heap_slot slot; numbers = n })) f) core fits (omega (arith, unit_once (heap_slot slot) n))

  -- and so is one that is given back.
  pub heap_back_is_away : (maker : MakerTold) (lease : LeasedHeap H) (memory : Option Lease) (c : PoolCore P H) (f : Frame P H) → IsCore maker c → FitsCore c (in_phase (PutHeap lease memory) f) → IsHeapOut c lease.index lease.numbers
  heap_back_is_away maker lease memory c f core fits = heap_is_away maker lease.index lease.numbers c (in_phase (PutHeap lease memory) f) core fits (omega (arith, unit_once (heap_slot lease.index) lease.numbers))
