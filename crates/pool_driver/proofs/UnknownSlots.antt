-- Queued slots of which nothing is known, and steps that put none into its cell.
use Rattle.std.proofs.Common.{◌≡◌, ◌⊎◌, ⊎_elim, ℕ, Bool, true, false, List, length, refl, sym, ap, subst, Option, ◌+◌, ◌<◌, [], ◌∷◌, Some, None, nat_le, inl, inr, set, map, slice_index, ◌∙◌, All}
use Rattle.std.proofs.lemmas.Option.{same_Some}
use Rattle.std.proofs.lemmas.List.Elements.{All-head, All-tail}
use Rattle.std.specs.Prelude.{if◌then◌else◌, ◌==◌, ◌||◌}
use Rattle.pool_hall.specs.declared.unit_name.SlotKind.TheVariants.{Memory as memory_kind, Table as table_kind, Stack as stack_kind, Heap as heap_kind}
use Rattle.pool_images.specs.Slots.{Slot, decommitted_all}
use Rattle.pool_slots.specs.CellOf.{cell_of}
use Rattle.pool_slots.specs.Plans.{cell_place, home_of, cell_role}
use Rattle.pool_slots.specs.RegionCells.{cell_filled, CellState, puts_with}
use Rattle.pool_slots.specs.SlotQueues.{Queue, after_append, Queued, drained, first_of_kind, others_of_kind, IsLeftBy, change_at, same_slot, first_slot, HasOwners, IsFaulted, first_zeroed, holds, is_to_zero, owner, IsGivenBack, same_kind, zeroed, zeroed_by}
use Rattle.pool_slots.specs.declared.part.PoolPart.{PoolPart}
use Rattle.pool_alloc.specs.BetweenSteps.{IsPartFor}
use Rattle.pool_alloc.specs.StepReads.{StepGiven, cell_named, queue_at, queue_tried, shard_tried, cell_returned, first_shard, returned_as, with_cell, with_shard, part_holding, with_queue, with_heaps}
use Rattle.pool_alloc.specs.StepTable.{flush_step, row_of}
use Rattle.pool_alloc.specs.Turns.{resting}
use Rattle.pool_alloc.specs.declared.frame.Frame.{Frame}
use Rattle.pool_alloc.specs.declared.frame.Phase.{Phase}
use Rattle.pool_alloc.specs.declared.frame.Phase.TheVariants.{Idle, Pick, TakeQueue, TakeRegion, TakeHeap, PutNoHeap, PutBack, FreeOne, PutHeap, FreeHeap, Merge, Flush, Purge, Release}
use Rattle.pool_alloc.specs.declared.pool_core.PoolCore.{PoolCore}
use Rattle.pool_index.specs.Shard.{ShardState}
use Rattle.pool_driver.specs.Faults.{HasFaulted, QueuedKeeps}
use Rattle.pool_driver.specs.Placed.{part_counts}
use Rattle.pool_driver.specs.UnknownPuts.{GoesBackKnown, IsUnknown, unknown_puts, SomeQueuedFaulted}
use Rattle.pool_pages.specs.MakerTold.{MakerTold}
use Rattle.pool_hall.specs.declared.unit_name.SlotKind.{SlotKind}
use Rattle.pool_slots.specs.Cells.{Cell, unknown, previously_used, unmapped, taken}
use Rattle.pool_slots.specs.Parts.{part_at, cell_of_part, IsCellPart}
use Rattle.pool_slots.specs.declared.slot_name.SlotName.{SlotName}
use Rattle.pool_alloc.specs.Purges.{has_turns, pick_affine_row, purge_row, purged_stripe}
use Rattle.pool_alloc.specs.Releases.{nth_taken, release_row, released_stripe, reserve_row}
use Rattle.pool_alloc.specs.declared.purge.PurgeCursor.{PurgeCursor}
use Rattle.pool_alloc.specs.declared.purge.PurgeStep.{PurgeStep}
use Rattle.pool_alloc.specs.declared.release.ReleaseStep.{ReleaseStep}
use Rattle.std.specs.List.{AllByRecursion, AllZip, list_any}
use Rattle.pool_alloc.specs.declared.pool_core.Settings.{Settings}
use Rattle.pool_alloc.proofs.CoreChanges.{at_set}
use Rattle.pool_driver.proofs.QueueFaults.{by_choice}
use Rattle.pool_driver.proofs.RegionFaults.{changed_has, left_by_faulted}
use Rattle.pool_images.specs.declared.ranges.ByteRange.{ByteRange}
use Rattle.pool_alloc.specs.declared.frame.FreedSlot.{FreedSlot}
use Rattle.pool_slots.specs.declared.heap_list.HeapEntry.{HeapEntry}
use Rattle.pool_slots.specs.declared.queued_range.QueuedRange.{QueuedRange}
use Rattle.pool_alloc.specs.Targets.{next_target}
use Rattle.pool_alloc.specs.declared.step.targets.Target.TheVariants.{Part}
use Rattle.pool_alloc.specs.declared.purge.PurgeStep.TheVariants as purging_step
use Rattle.pool_alloc.specs.declared.release.ReleaseStep.TheVariants as releasing_step
use Rattle.pool_slots.specs.declared.part.PoolPart.TheVariants as part
use Rattle.pool_alloc.specs.StepTable as rows

-- What is unknown, and what isn't.
pub decide_unknown : (held : Cell) → IsUnknown held ⊎ (IsUnknown held → ⊥)
decide_unknown (unmapped region) = inr (λ no. no)
decide_unknown (unknown slot) = inl tt
decide_unknown (previously_used slot) = inr (λ no. no)
decide_unknown taken = inr (λ no. no)

puts_same : (held : Cell) (n : ℕ) → (IsUnknown held → ⊥) → n ≡ puts_with held n
puts_same (unmapped region) n not_unknown = refl
puts_same (unknown slot) n not_unknown = absurd (not_unknown tt)
puts_same (previously_used slot) n not_unknown = refl
puts_same taken n not_unknown = refl

-- A queued slot that goes back known isn't put as unknown, and one that is has the faults of its region.
pub known_memory : (known : Bool) (slot : Slot) → known ≡ true → IsUnknown (if known then previously_used slot else unknown slot) → ⊥
known_memory true slot is there = there
known_memory false slot is there = cc

pub known_returned : (kind : SlotKind) (m : Queued) → (kind ≡ memory_kind → m.known ≡ true) → IsUnknown (returned_as kind m) → ⊥
known_returned memory_kind m known is = known_memory m.known m.slot (known refl) is
known_returned table_kind m known is = is
known_returned stack_kind m known is = is
known_returned heap_kind m known is = is

-- What goes back as a queue keeps it goes back known.
given_known : (m : Queued) → IsGivenBack m → GoesBackKnown m
given_known m = ⊎_elim
    (λ (known : m.known ≡ true). λ (kind : m.name.kind ≡ memory_kind). known)
    (λ (stack : (m.name.kind ≡ stack_kind) × (m.by_hand ≡ None)). λ (kind : m.name.kind ≡ memory_kind). let apart : memory_kind ≡ stack_kind = sym kind ∙ stack.0 in absurd cc)

pub all_known : (ms : List Queued) → All IsGivenBack ms → AllByRecursion GoesBackKnown ms
all_known [] all = tt
all_known (m ∷ ms) all = (given_known m (All-head IsGivenBack m ms all), all_known ms (All-tail IsGivenBack m ms all))

-- A run of decommits, and zeroing by hand, leave what is known of the queued slots.
pub run_known : (name : SlotName) (rs : List ByteRange) (ms : List Queued) → AllByRecursion GoesBackKnown ms → AllByRecursion GoesBackKnown (map (change_at name (decommitted_all rs)) ms)
run_known name rs [] k = tt
run_known name rs (m ∷ ms) k = (go (same_slot name m.name) refl, run_known name rs ms k.1)
  where
    go : (b : Bool) → same_slot name m.name ≡ b → GoesBackKnown (change_at name (decommitted_all rs) m)
    go true e = rw e k.0
    go false e = rw e k.0

pub zeroed_known : (o : Option ℕ) (m : Queued) → GoesBackKnown m → GoesBackKnown (zeroed_by o m)
zeroed_known None m k = k
zeroed_known (Some n) m k = λ kind. refl

pub run_faulted : (name : SlotName) (rs : List ByteRange) (ms : List Queued) → SomeQueuedFaulted ms → SomeQueuedFaulted (map (change_at name (decommitted_all rs)) ms)
run_faulted name rs [] none = none
run_faulted name rs (m ∷ ms) some' = ⊎_elim
    (λ (here : HasFaulted m.numbers.faults m.slot.region.faults). inl (changed_has HasFaulted name rs m here))
    (λ (there : SomeQueuedFaulted ms). inr (run_faulted name rs ms there))
    some'

zeroed_faulted : (o : Option ℕ) (m : Queued) → HasFaulted m.numbers.faults m.slot.region.faults → HasFaulted (zeroed_by o m).numbers.faults (zeroed_by o m).slot.region.faults
zeroed_faulted None m k = k
zeroed_faulted (Some n) m k = k

pub first_zeroed_faulted : (kind : SlotKind) (ms : List Queued) → SomeQueuedFaulted ms → SomeQueuedFaulted (first_zeroed kind ms)
first_zeroed_faulted kind [] none = none
first_zeroed_faulted kind (m ∷ ms) some' = by_choice SomeQueuedFaulted (is_to_zero kind m) (zeroed m ∷ ms) (m ∷ first_zeroed kind ms)
    (⊎_elim
    (λ (here : HasFaulted m.numbers.faults m.slot.region.faults). inl (zeroed_faulted m.by_hand m here))
    (λ (there : SomeQueuedFaulted ms). inr there)
    some')
    (⊎_elim
    (λ (here : HasFaulted m.numbers.faults m.slot.region.faults). inl here)
    (λ (there : SomeQueuedFaulted ms). inr (first_zeroed_faulted kind ms there))
    some')

-- The slot that is taken out has faulted, or one of the others.
pub first_faulted : (kind : SlotKind) (m : Queued) (ms : List Queued) → first_of_kind kind ms ≡ Some m → SomeQueuedFaulted ms → HasFaulted m.numbers.faults m.slot.region.faults ⊎ SomeQueuedFaulted (others_of_kind kind ms)
first_faulted kind m [] is none = absurd none
first_faulted kind m (x ∷ xs) is some' = go (same_kind kind x.name.kind) refl (λ first there. first_faulted kind m xs first there)
  where
    Found : List Queued → Type 0
    Found others = HasFaulted m.numbers.faults m.slot.region.faults ⊎ SomeQueuedFaulted others

    go : (b : Bool) → same_kind kind x.name.kind ≡ b → (first_of_kind kind xs ≡ Some m → SomeQueuedFaulted xs → Found (others_of_kind kind xs)) → Found (others_of_kind kind (x ∷ xs))
    go true here later =
        let first : first_of_kind kind (x ∷ xs) ≡ Some x = rw here refl in
        let same : x ≡ m = same_Some x m (sym first ∙ is) in
        let others : others_of_kind kind (x ∷ xs) ≡ xs = rw here refl in
        subst Found (sym others) (⊎_elim
        (λ (one : HasFaulted x.numbers.faults x.slot.region.faults). inl (subst (λ (z : Queued). HasFaulted z.numbers.faults z.slot.region.faults) same one))
        (λ (there : SomeQueuedFaulted xs). inr there)
        some')
    go false other later =
        let first : first_of_kind kind (x ∷ xs) ≡ first_of_kind kind xs = rw other refl in
        let others : others_of_kind kind (x ∷ xs) ≡ x ∷ others_of_kind kind xs = rw other refl in
        subst Found (sym others) (⊎_elim
        (λ (one : HasFaulted x.numbers.faults x.slot.region.faults). inr (inl one))
        (λ (there : SomeQueuedFaulted xs). ⊎_elim
        (λ (it : HasFaulted m.numbers.faults m.slot.region.faults). inl it)
        (λ (rest : SomeQueuedFaulted (others_of_kind kind xs)). inr (inr rest))
        (later (sym first ∙ is) there))
        some')

-- A decommit that fails raises the faults of the slot on which it was.
faulted_there : (name : SlotName) (old new : List Queued) → AllZip (IsLeftBy name) old new → AllByRecursion QueuedKeeps old → holds name old ≡ true → SomeQueuedFaulted new
faulted_there name [] new z k held = absurd cc
faulted_there name (m ∷ ms) [] z k held = absurd z
faulted_there name (m ∷ ms) (n ∷ ns) z k held = go (same_slot name m.name) refl (λ later. faulted_there name ms ns z.1 k.1 later)
  where
    go : (b : Bool) → same_slot name m.name ≡ b → (holds name ms ≡ true → SomeQueuedFaulted ns) → SomeQueuedFaulted (n ∷ ns)
    go true on later = inl (left_by_faulted name m n k.0 z.0 on)
    go false other later = inr (later (ap (λ (b : Bool). b || holds name ms) (sym other) ∙ held))

pub run_fails : (old new : Queue) → HasOwners old → (length old.ranges == 0) ≡ false → IsFaulted old new → AllByRecursion QueuedKeeps old.slots → SomeQueuedFaulted new.slots
run_fails old new owners some' faulted k = go old.ranges refl
  where
    go : (rs : List QueuedRange) → old.ranges ≡ rs → SomeQueuedFaulted new.slots
    go [] is = let none : (length old.ranges == 0) ≡ true = ap (λ (l : List QueuedRange). length l == 0) is in let apart : true ≡ false = sym none ∙ some' in absurd cc
    go (r ∷ rs) is =
        let at : first_slot old.ranges ≡ owner r = ap first_slot is in
        let held : holds (owner r) old.slots ≡ true = (subst (λ (l : List QueuedRange). AllByRecursion (λ x. holds (owner x) old.slots ≡ true) l) is owners).0 in
        faulted_there (first_slot old.ranges) old.slots new.slots faulted.slots k (ap (λ (name : SlotName). holds name old.slots) at ∙ held)

-- There are ranges where a run of them is next.
settled_no_run : (kind : SlotKind) (x y : Bool) → (if x then rows.zero kind else (if y then rows.put kind else rows.free)) ≡ rows.run → ⊥
settled_no_run kind true y is = cc
settled_no_run kind false true is = cc
settled_no_run kind false false is = cc

pub ranges_run : (local : Queue) (freed : List FreedSlot) → flush_step local freed ≡ rows.run → (length local.ranges == 0) ≡ false
ranges_run local freed is = go (length local.ranges == 0) refl is
  where
    kind : SlotKind
    kind = rows.kind_settled local.slots freed

    go : (b : Bool) → (length local.ranges == 0) ≡ b → (if b then rows.settled_step kind local.slots else rows.run) ≡ rows.run → (length local.ranges == 0) ≡ false
    go true none is = absurd (settled_no_run kind (list_any (is_to_zero kind) local.slots) (rows.some_queued kind local.slots) is)
    go false some' is = some'

module _ {P H : Type 0} where
  -- Where the second part is a cell, it counts as many puts of regions of which nothing was known as the first.
  abbrev pub Still : PoolPart P H → PoolPart P H → Type 0
  Still x y = IsCellPart y → slice_index (part_counts x) unknown_puts ≡ slice_index (part_counts y) unknown_puts

  abbrev pub AllStill : List (PoolPart P H) → List (PoolPart P H) → Type 0
  AllStill xs ys = (k : ℕ) → k < length xs → Still (part_at k xs) (part_at k ys)

  one_still : (xs : List (PoolPart P H)) (place : ℕ) (y : PoolPart P H) → Still (part_at place xs) y → AllStill xs (set xs place y)
  one_still xs place y still k below = at_set (λ n z. Still (part_at n xs) z) xs place k y _ below still (λ is. refl)

  holding_still : (x : PoolPart P H) (cell : CellState) → (cell_of_part x).unknown_puts ≡ cell.unknown_puts → Still x (part_holding cell x)
  holding_still (part.Memory old) cell same is = same
  holding_still (part.Table old) cell same is = same
  holding_still (part.Stack old) cell same is = same
  holding_still x cell same is = refl

  -- So it is where a shard changes, a queue, the list of heaps, or a cell in which nothing is put as unknown.
  shard_still : (place : ℕ) (shard : ShardState) (c : PoolCore P H) → AllStill c.parts (with_shard place shard c).parts
  shard_still place shard c = one_still c.parts place (part.Shard shard) (λ is. absurd is)

  queue_still : (place : ℕ) (queue : Queue) (c : PoolCore P H) → AllStill c.parts (with_queue place queue c).parts
  queue_still place queue c = one_still c.parts place (part.Queue queue) (λ is. absurd is)

  heaps_still : (heaps : List (HeapEntry H)) (c : PoolCore P H) → AllStill c.parts (with_heaps heaps c).parts
  heaps_still heaps c = one_still c.parts c.plan.heap_list (part.Heaps heaps) (λ is. absurd is)

  cell_still : (name : SlotName) (cell : CellState) (c : PoolCore P H) → (cell_named name c).unknown_puts ≡ cell.unknown_puts → AllStill c.parts (with_cell name cell c).parts
  cell_still name cell c same = one_still c.parts (cell_place c.plan name) (part_holding cell (part_at (cell_place c.plan name) c.parts)) (holding_still (part_at (cell_place c.plan name) c.parts) cell same)

  filled_still : (name : SlotName) (held : Cell) (c : PoolCore P H) → (IsUnknown held → ⊥) → AllStill c.parts (with_cell name (cell_filled held (cell_named name c)) c).parts
  filled_still name held c not_unknown = cell_still name (cell_filled held (cell_named name c)) c (puts_same held (cell_named name c).unknown_puts not_unknown)

  merged_still : (b : Bool) (place : ℕ) (whole : Queue) (c : PoolCore P H) (f : Frame P H) → AllStill c.parts (rows.in_queue place c (rows.merged b whole f)).part.parts
  merged_still true place whole c f = queue_still place (drained whole) c
  merged_still false place whole c f = queue_still place whole c

  put_still : (o : Option Queued) (rest : List Queued) (c : PoolCore P H) (f : Frame P H) → ((m : Queued) → o ≡ Some m → IsUnknown (cell_returned m) → ⊥) → AllStill c.parts (rows.put_first o rest c f).part.parts
  put_still None rest c f known = λ k below is. refl
  put_still (Some m) rest c f known = filled_still m.name (cell_returned m) c (known m refl)

  flushed_still : (step : rows.FlushStep) (queue : Queue) (c : PoolCore P H) (f : Frame P H) → ((kind : SlotKind) (m : Queued) → first_of_kind kind f.local.slots ≡ Some m → IsUnknown (cell_returned m) → ⊥) → AllStill c.parts (rows.flush_row step queue c f).part.parts
  flushed_still rows.run queue c f known = λ k below is. refl
  flushed_still (rows.zero kind) queue c f known = λ k below is. refl
  flushed_still (rows.put kind) queue c f known = put_still (first_of_kind kind f.local.slots) (others_of_kind kind f.local.slots) c f (known kind)
  flushed_still rows.free queue c f known = shard_still (first_shard c.plan f.freed.items) _ c

  affine_still : (b : Bool) (p : PurgeCursor) (tried : ℕ) (c : PoolCore P H) (f : Frame P H) → AllStill c.parts (pick_affine_row b p tried c f).part.parts
  affine_still true p tried c f = shard_still ((purged_stripe c.plan p).first_place + tried) _ c
  affine_still false p tried c f = λ k below is. refl

  reserve_still : (b : Bool) (c : PoolCore P H) (f : Frame P H) → AllStill c.parts (reserve_row b c f).part.parts
  reserve_still true c f = λ k below is. refl
  reserve_still false c f = λ k below is. refl

  -- What a step puts into a cell isn't unknown.
  abbrev pub PutsKnown : Phase P H → Frame P H → Type 0
  PutsKnown (PutBack at held) f = IsUnknown (cell_of held) → ⊥
  PutsKnown Flush f = (kind : SlotKind) (m : Queued) → first_of_kind kind f.local.slots ≡ Some m → IsUnknown (cell_returned m) → ⊥
  PutsKnown (Purge p (purging_step.PutRegion at held)) f = IsUnknown (cell_of held) → ⊥
  PutsKnown (Release (releasing_step.PutRegion r k at held)) f = IsUnknown (cell_of held) → ⊥
  PutsKnown phase f = Unit {0}

  purge_still : (g : StepGiven H) (p : PurgeCursor) (step : PurgeStep P) (c : PoolCore P H) (f e : Frame P H) → PutsKnown (Purge p step) f → AllStill c.parts (purge_row g p step c e).part.parts
  purge_still g p (purging_step.Pick tried) c f e known = affine_still (has_turns c.settings.max_memories_per_module c.plan) p tried c e
  purge_still g p (purging_step.TakeRegion name) c f e known = cell_still name _ c refl
  purge_still g p (purging_step.Forget at held) c f e known = λ k below is. refl
  purge_still g p (purging_step.PutRegion at held) c f e known = filled_still at.name (cell_of held) c known
  purge_still g p (purging_step.Free name) c f e known = shard_still (home_of c.plan name).place _ c

  release_still : (g : StepGiven H) (step : ReleaseStep P) (c : PoolCore P H) (f e : Frame P H) → PutsKnown (Release step) f → AllStill c.parts (release_row g step c e).part.parts
  release_still g releasing_step.Reserve c f e known = reserve_still g.wants c e
  release_still g (releasing_step.TakeWarm r j) c f e known = shard_still ((released_stripe c.plan r).first_place + j) _ c
  release_still g (releasing_step.TakeRegion r k) c f e known = cell_still (nth_taken r k).name _ c refl
  release_still g (releasing_step.Decommit r k at held) c f e known = λ k below is. refl
  release_still g (releasing_step.PutRegion r k at held) c f e known = filled_still at.name (cell_of held) c known
  release_still g (releasing_step.Free r x) c f e known = shard_still (home_of c.plan x.name).place _ c

  -- So it is in each step on a part.
  pub still_at : (g : StepGiven H) (phase : Phase P H) (c : PoolCore P H) (f : Frame P H) (p : ℕ) → next_target c.settings c.plan phase f ≡ Part p → PutsKnown phase f → AllStill c.parts (row_of g phase c (resting f)).part.parts
  still_at g (Pick tried) c f p at known = shard_still (shard_tried tried c.plan f) _ c
  still_at g TakeQueue c f p at known = queue_still (queue_tried f.queues c.plan f) _ c
  still_at g (TakeRegion name) c f p at known = cell_still name _ c refl
  still_at g (TakeHeap name) c f p at known = heaps_still _ c
  still_at g (PutNoHeap slot) c f p at known = heaps_still _ c
  still_at g (PutBack slot held) c f p at known = filled_still slot.name (cell_of held) c known
  still_at g (FreeOne name) c f p at known = shard_still (home_of c.plan name).place _ c
  still_at g (PutHeap lease memory) c f p at known = heaps_still _ c
  still_at g (FreeHeap name memory) c f p at known = shard_still (home_of c.plan name).place _ c
  still_at g Merge c f p at known =
      let whole : Queue = after_append (queue_at (queue_tried 0 c.plan f) c) f.local in
      merged_still (nat_le c.settings.batch (length whole.ranges)) (queue_tried 0 c.plan f) whole c (record f { phase = Idle; local = drained f.local })
  still_at g Flush c f p at known = flushed_still (flush_step f.local f.freed.items) g.queue c (resting f) known
  still_at g (Purge cursor step) c f p at known = purge_still g cursor step c f (resting f) known
  still_at g (Release step) c f p at known = release_still g step c f (resting f) known
  still_at g phase c f p at known = absurd cc

  pub is_cell : (maker : MakerTold) (s : Settings) (name : SlotName) (x : PoolPart P H) → IsPartFor maker s (cell_role name) x → IsCellPart x
  is_cell maker s name (part.Memory cell) is = tt
  is_cell maker s name (part.Table cell) is = tt
  is_cell maker s name (part.Stack cell) is = tt
  is_cell maker s name x is = absurd is
