-- A call that is refused for a failed page call: a memory's region goes back into its cell with more faults than it left it with, and the
-- seat notes that.
use Rattle.std.proofs.Common.{◌≡◌, ◌⊎◌, ⊎_elim, ℕ, Bool, true, false, List, length, refl, sym, ap, subst, Option, slice_get, Some, None}
use Rattle.std.specs.Prelude.{nat_le}
use Rattle.pool_hall.specs.declared.unit_name.SlotKind.TheVariants.{Memory as memory_kind}
use Rattle.pool_hall.specs.declared.view.View.{View}
use Rattle.pool_limits.specs.Exchanges.{Exchange}
use Rattle.pool_pages.proofs.Small.{told_weaker}
use Rattle.pool_images.specs.Slots.{Slot, hides}
use Rattle.pool_types.specs.MemoryTypes.{minimum_byte_size}
use Rattle.pool_types.specs.declared.module_types.MemoryDecl.{MemoryDecl}
use Rattle.pool_slots.specs.CellOf.{cell_of}
use Rattle.pool_slots.specs.HeapLists.{heap_in}
use Rattle.pool_slots.specs.Plans.{cell_place}
use Rattle.pool_slots.specs.RegionCells.{faults_in}
use Rattle.pool_slots.specs.SlotQueues.{Queue, after_append}
use Rattle.pool_slots.specs.declared.cells.ImageSlot.{ImageSlot}
use Rattle.pool_slots.specs.declared.part.PoolPart.{PoolPart}
use Rattle.pool_slots.specs.declared.plan.Plan.{Plan}
use Rattle.pool_alloc.specs.BetweenSteps.{IsShapedAt}
use Rattle.pool_alloc.specs.Calls.{begun_call}
use Rattle.pool_alloc.specs.Modules.{IfAllocated}
use Rattle.pool_alloc.specs.PageCallAnswers.{Empties, InstantiatesFor, MayBeTold}
use Rattle.pool_alloc.specs.PartyTold.{PartyTold}
use Rattle.pool_alloc.specs.StepReads.{StepGiven, cell_named, heaps_at, image_wanted, memories_wanted, queue_at, queue_tried, shard_at, shard_tried, wanted}
use Rattle.pool_alloc.specs.StepTable.{flush_step, row_of}
use Rattle.pool_alloc.specs.Stepping.{is_idle}
use Rattle.pool_alloc.specs.Turns.{After, resting}
use Rattle.pool_alloc.specs.declared.frame.Asked.TheVariants as asked
use Rattle.pool_alloc.specs.declared.frame.Call.{Call}
use Rattle.pool_alloc.specs.declared.frame.Call.TheVariants as call
use Rattle.pool_alloc.specs.declared.frame.Ending.TheVariants.{Returned as returned}
use Rattle.pool_alloc.specs.declared.frame.Frame.{Frame}
use Rattle.pool_alloc.specs.declared.frame.Grant.TheVariants.{Instance, Component, Memory, Table, Stack, Heap, HeapOver}
use Rattle.pool_alloc.specs.declared.frame.Outcome.{Outcome}
use Rattle.pool_alloc.specs.declared.frame.Phase.{Phase}
use Rattle.pool_alloc.specs.declared.frame.Phase.TheVariants.{Idle, Key, Validate, TestStack, TestHeap, CountInstance, Pick, TakeQueue, TakeRegion, Empty, Instantiate, MakeMemory, MakeTable, CountObject, TakeHeap, MakeHeap, CountHeap, PutNoHeap, PutBack, FreeOne, UncountObject, UncountHeap, PutHeap, FreeHeap, Reset, Merge, Flush, UncountInstance, ValidateComponent, CountComponent, UncountComponent, Purge, Release}
use Rattle.pool_alloc.specs.declared.frame.TakenSlot.{TakenSlot}
use Rattle.pool_alloc.specs.declared.pool_core.PoolCore.{PoolCore}
use Rattle.pool_alloc.proofs.ToldElements.{told_there}
use Rattle.pool_index.specs.Shard.{pick_answer}
use Rattle.pool_driver.specs.Driving.{SeesStep}
use Rattle.pool_driver.specs.Faults.{FrameKeeps, HasFaulted, PhaseKeeps}
use Rattle.pool_driver.specs.PageFaults.{CellFaulted, IfToFault, PhaseFaulted, PutsMemory}
use Rattle.pool_driver.specs.Placed.{About}
use Rattle.pool_driver.specs.Telling.{HoldsMore}
use Rattle.pool_driver.proofs.Naming.{PutAt, left_is, placed_at, sees_more}
use Rattle.pool_driver.proofs.OwnNumbers.{IsOwn, OwnPut, own_numbers}
use Rattle.pool_driver.proofs.PageFaultRows.{LeftFaulted, RowFaulted, after_faulted, answer_faulted, component_counted_faulted, component_faulted, count_object_faulted, counted_faulted, flush_row_faulted, heap_faulted, heap_counted_faulted, heaps_faulted, make_heap_faulted, make_memory_faulted, make_table_faulted, merged_faulted, paged_faulted, picked_faulted, purge_faulted, region_faulted, release_faulted, reset_row_faulted, returned_faulted, stacks_faulted, take_queue_faulted, to_fault_more, uncount_object_faulted, validated_faulted}
use Rattle.pool_driver.proofs.RegionFaults.{empties_faulted, instantiates_faulted}
use Rattle.pool_driver.proofs.CellPuts.{faulted_home, still_faulted}

module _ {T P H : Type 0} (about : T → About) (inner : T → PoolPart P H) (Passes : List Exchange → Type 0) (old new : PartyTold) (a : About) (base v w : View T) (f next : Frame P H) (o : Option (Outcome P H)) (began : HoldsMore base v) (keeps : FrameKeeps f) (s : SeesStep about inner Passes old new a v w f next o) where
  -- the core on which the step was made, and the frame while it is
  abbrev c : PoolCore P H
  c = s.core

  abbrev e : Frame P H
  e = resting f

  abbrev given : StepGiven H
  given = s.row.0

  shape : (p : Phase P H) → f.phase ≡ p → IsShapedAt a.maker c.settings c.plan p f
  shape p is = subst (λ (q : Phase P H). IsShapedAt a.maker c.settings c.plan q f) is s.can.frame.shape

  kept : (p : Phase P H) → f.phase ≡ p → PhaseKeeps p
  kept p is = subst (λ (q : Phase P H). PhaseKeeps q) is keeps.phase

  told : (p : Phase P H) → f.phase ≡ p → MayBeTold c.settings given p f
  told p is = subst (λ (q : Phase P H). MayBeTold c.settings given q f) is s.row.1.0.told

  -- A region is put back into the cell that it came out of.
  came_home : (at : TakenSlot) (held : ImageSlot P) → f.phase ≡ PutBack at held → at.name.kind ≡ memory_kind → HasFaulted at.numbers.faults (faults_in (cell_of held)) → CellFaulted base w c.plan
  came_home at held is kind faulted =
      let put : PutAt about inner Passes old new a v w f next o (cell_place c.plan at.name) s.core s.left = placed_at about inner Passes old new a v w f next o s (PutBack at held) (cell_place c.plan at.name) is refl in
      let own : IsOwn at.name at.numbers (cell_of held) c = subst (λ (q : Phase P H). OwnPut q c f) is (own_numbers a.maker c f s.can) in
      faulted_home about inner Passes old new a base v w f next o began s at.name at.numbers (cell_of held) own put (ap (λ (z : PoolCore P H). z.parts) (left_is about inner Passes old new a v w f next o s (PutBack at held) is)) (λ k. k ≡ memory_kind) kind faulted

  abbrev X : Type 0
  X = CellFaulted base w c.plan

  abbrev Had : Phase P H → Type 0
  Had p = PhaseFaulted (CellFaulted base v c.plan) p f.ending

  on : IfToFault (CellFaulted base v c.plan) f.ending → IfToFault X f.ending
  on k = to_fault_more (CellFaulted base v c.plan) X (still_faulted (λ kind. kind ≡ memory_kind) base v w c.plan (sees_more about inner Passes old new a v w f next o s)) f.ending k

  put_back : (at : TakenSlot) (held : ImageSlot P) → f.phase ≡ PutBack at held → Had (PutBack at held) → IfToFault X f.ending
  put_back at held is k = to_fault_more (CellFaulted base v c.plan ⊎ PutsMemory {H = H} (PutBack at held)) X
      (⊎_elim
      (λ (had : CellFaulted base v c.plan). still_faulted (λ kind. kind ≡ memory_kind) base v w c.plan (sees_more about inner Passes old new a v w f next o s) had)
      (λ (puts : PutsMemory {H = H} (PutBack at held)). came_home at held is puts.0 puts.1))
      f.ending k

  -- a page call of an instantiation that fails raises the region's faults
  pub instantiated : (at : TakenSlot) (held : Slot) → f.phase ≡ Instantiate at held → given.fault ≡ true → HasFaulted at.numbers.faults given.slot.region.faults
  instantiated at held is fails =
      let n : ℕ = at.numbers.faults in
      let I : Bool → MemoryDecl → Type 0 = λ b decl. InstantiatesFor c.settings decl b (image_wanted f) held given.slot in
      told_there (HasFaulted n given.slot.region.faults) (memories_wanted f.asked) (length f.objects.memories.items) (shape (Instantiate at held) is).4
      (told_weaker (I true) (λ decl. HasFaulted n given.slot.region.faults) (slice_get (memories_wanted f.asked) (length f.objects.memories.items))
      (λ decl tells. instantiates_faulted n (minimum_byte_size decl.ty) (hides decl.ty c.settings.tunables held.region.page) (image_wanted f) held given.slot tells (kept (Instantiate at held) is))
      (subst (λ (b : Bool). IfAllocated f (I b)) fails (told (Instantiate at held) is)))

  pub emptied : (at : TakenSlot) (held : Slot) → f.phase ≡ Empty at held → given.fault ≡ true → HasFaulted at.numbers.faults given.slot.region.faults
  emptied at held is fails = empties_faulted at.numbers.faults held given.slot (subst (λ (b : Bool). Empties b held given.slot) fails (told (Empty at held) is)) (kept (Empty at held) is)

  -- each row
  row_faulted : (p : Phase P H) → f.phase ≡ p → is_idle p ≡ false → Had p → RowFaulted X (row_of given p c e)
  row_faulted Idle is on_way k = absurd cc
  row_faulted Key is on_way k = tt
  row_faulted Validate is on_way k = validated_faulted X c e (on k) _ given.wants CountInstance (on k)
  row_faulted TestStack is on_way k = stacks_faulted X c e (on k) _
  row_faulted TestHeap is on_way k = heaps_faulted X c e (on k) c.settings.tunables.tunables.collector given.wants
  row_faulted CountInstance is on_way k = counted_faulted X c e (on k) _
  row_faulted (Pick tried) is on_way k = picked_faulted X c e (on k) (pick_answer (wanted f) (shard_at (shard_tried tried c.plan f) c)) (shard_at (shard_tried tried c.plan f) c) tried
  row_faulted TakeQueue is on_way k = take_queue_faulted X c e (on k) (queue_at (queue_tried f.queues c.plan f) c)
  row_faulted (TakeRegion name) is on_way k = region_faulted P H X f.ending c.settings _ (cell_named name c).holds (on k)
  row_faulted (Empty at held) is on_way k = paged_faulted X c e (on k) given.fault at given.slot (Instantiate at given.slot) (shape (Empty at held) is).2.kind (emptied at held is) (on k)
  row_faulted (Instantiate at held) is on_way k = paged_faulted X c e (on k) given.fault at given.slot (MakeMemory at given.slot) (shape (Instantiate at held) is).2.kind (instantiated at held is) (on k)
  row_faulted (MakeMemory at held) is on_way k = make_memory_faulted X c e (on k) given.limiter at held (kept (MakeMemory at held) is)
  row_faulted (MakeTable at region) is on_way k = make_table_faulted X c e (on k) given.limiter at region (kept (MakeTable at region) is)
  row_faulted (CountObject object) is on_way k = count_object_faulted X c e (on k) object
  row_faulted (TakeHeap name) is on_way k = heap_faulted P H X f.ending _ (heap_in name.slot (heaps_at c)) (on k)
  row_faulted (MakeHeap at) is on_way k = make_heap_faulted X c e (on k) given.heap at
  row_faulted (CountHeap lease) is on_way k = heap_counted_faulted X c e (on k) f.asked lease
  row_faulted (PutNoHeap at) is on_way k = on k
  row_faulted (PutBack at held) is on_way k = put_back at held is k
  row_faulted (FreeOne name) is on_way k = on k
  row_faulted (UncountObject object) is on_way k = uncount_object_faulted X c e (on k) object
  row_faulted (UncountHeap lease memory) is on_way k = on k
  row_faulted (PutHeap lease (Some memory)) is on_way k = on k
  row_faulted (PutHeap lease None) is on_way k = on k
  row_faulted (FreeHeap name memory) is on_way k = on k
  row_faulted (Reset object) is on_way k = reset_row_faulted X c e (on k) given object
  row_faulted Merge is on_way k =
      let whole : Queue = after_append (queue_at (queue_tried 0 c.plan f) c) f.local in
      merged_faulted X c e (on k) (nat_le c.settings.batch (length whole.ranges)) whole
  row_faulted Flush is on_way k = flush_row_faulted X c e (on k) (flush_step f.local f.freed.items) given.queue
  row_faulted UncountInstance is on_way k = answer_faulted P H X f.ending (on k)
  row_faulted (ValidateComponent info) is on_way k = component_faulted X c e _
  row_faulted CountComponent is on_way k = component_counted_faulted X c e _
  row_faulted UncountComponent is on_way k = answer_faulted P H X f.ending (on k)
  row_faulted (Purge p step) is on_way k = purge_faulted X c e given p step
  row_faulted (Release step) is on_way k = release_faulted X c e given step

  -- What is known before a step is known after it, and of its answer.
  pub faulted_step : is_idle f.phase ≡ false → PhaseFaulted (CellFaulted base v a.plan) f.phase f.ending → LeftFaulted {P = P} {H = H} (CellFaulted base w a.plan) (record { frame = next; outcome = o })
  faulted_step busy had = subst (λ (plan : Plan). LeftFaulted {P = P} {H = H} (CellFaulted base w plan) (record { frame = next; outcome = o })) s.plan
      (subst (λ (z : After P H). LeftFaulted X (record { frame = z.frame; outcome = z.outcome })) (sym s.row.1.0.is)
      (after_faulted X (row_of given f.phase c e).frame (row_of given f.phase c e).turn (row_faulted f.phase refl busy (subst (λ (plan : Plan). PhaseFaulted (CellFaulted base v plan) f.phase f.ending) (sym s.plan) had))))

-- A call that begins isn't to be refused.
pub faulted_begins : {P H : Type 0} (known : Type 0) (begun : Call P H) (f : Frame P H) → PhaseFaulted known (begun_call begun f).phase (begun_call begun f).ending
faulted_begins known call.Key f = tt
faulted_begins known (call.Module m) f = tt
faulted_begins known (call.Component info) f = tt
faulted_begins known (call.Memory m) f = tt
faulted_begins known (call.Table ty) f = tt
faulted_begins known call.Stack f = tt
faulted_begins known (call.Heap ty) f = tt
faulted_begins known (call.HeapOver memory) f = tt
faulted_begins known (call.GiveBack (Instance lease)) f = (returned_faulted known lease.memories.items lease.tables.items (record f { asked = asked.Nothing; objects = lease; ending = returned }) tt).frame
faulted_begins known (call.GiveBack Component) f = tt
faulted_begins known (call.GiveBack (Memory lease)) f = tt
faulted_begins known (call.GiveBack (Table lease)) f = tt
faulted_begins known (call.GiveBack (Stack lease)) f = tt
faulted_begins known (call.GiveBack (Heap lease memory)) f = tt
faulted_begins known (call.GiveBack (HeapOver lease)) f = tt
faulted_begins known (call.Purge id) f = tt
faulted_begins known call.Release f = tt
