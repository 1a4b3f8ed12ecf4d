-- Slots on their way back: a table's as it is reset, and any as it goes back into its cell.
use Rattle.std.proofs.Common.{◌≡◌, ℕ, ◌*◌, ◌%◌, Bool, true, false, List, refl, ap, arith, replicate, min, Option, Some, None, if◌then◌else◌, IsSome, IfSome}
use Rattle.pool_alloc.proofs.Imports.{rounded_is_whole, SlotKind, memory_kind, table_kind, stack_kind, heap_kind, MakerTold, Told, Slot, IsClean, identity, told_same, previously_used, unknown, is_taken, like_restored, pages_by_hand, plain_written, Queued, CanBeZeroed, LeavesClean, empty_queue, plain_slot, with_ranges, IsSoReset, used_is_reset, used_kept, used_left, used_reset, used_size, TellsMarks, leaves_clean, width}
use Rattle.pool_slots.specs.declared.queued_range.QueueKind.TheVariants as queued
use Rattle.pool_alloc.specs.BetweenSteps.{IsSettings, MayHold, MayQueue, MustBeByHand}
use Rattle.pool_alloc.specs.PoolTables.{IsPoolTable}
use Rattle.pool_alloc.specs.StepReads.{returned_as}
use Rattle.pool_alloc.specs.TableLeases.{LeasedTable}
use Rattle.pool_alloc.specs.TableSteps.{IsInRegion, bytes_used, table_marks, table_queued}
use Rattle.pool_alloc.specs.declared.pool_core.Settings.{Settings}
use Rattle.pool_alloc.proofs.FlushFinds.{IsBack}
use Rattle.pool_alloc.proofs.SlotIdentity.{IsOneSlot, table_of_one}
use Rattle.pool_alloc.proofs.StackRegions.{stack_back}
use Rattle.pool_alloc.proofs.TableRegions.{table_back}
use Rattle.pool_alloc.proofs.TableResets.{table_is_reset}

-- A table's region is reset as it may be.
pub table_done : (offered : Bool) (page keep : ℕ) (l : LeasedTable) (region : Told) → IsInRegion page l region → TellsMarks region → keep % page ≡ 0 → IsSoReset (table_marks offered page l region) keep (bytes_used page l) (plain_slot 0 region)
table_done offered page keep l region lies marked whole =
    let keeps : keep % region.page ≡ 0 = rw lies.same_page whole in
    let uses : bytes_used page l % region.page ≡ 0 = rw lies.same_page (rounded_is_whole page (l.table.size * width l.table.kind)) in
    used_is_reset keep (bytes_used page l) (plain_slot 0 region) lies.plain uses (omega (arith, lies.within)) lies.unused offered marked keeps

-- A table's slot that was reset leaves clean, and is the slot that it was.
pub table_leaves : (offered : Bool) (page keep : ℕ) (l : LeasedTable) (region : Told) → IsInRegion page l region → TellsMarks region → keep % page ≡ 0 → LeavesClean (with_ranges queued.Table l.index (used_left (table_marks offered page l region) keep (bytes_used page l) (plain_slot 0 region)) (empty_queue 0 0)).ranges (table_queued offered page keep l region)
table_leaves offered page keep l region lies marked whole =
    let used : ℕ = bytes_used page l in
    let s : Slot = plain_slot 0 region in
    let marks : Option (List Bool) = table_marks offered page l region in
    let done = table_done offered page keep l region lies marked whole in
    leaves_clean queued.Table (table_queued offered page keep l region) (used_left marks keep used s) (empty_queue 0 0) refl tt refl
    (table_is_reset page l region (used_left marks keep used s) (used_reset marks keep used s) (used_kept marks keep used s) l.numbers lies done.plain (used_size marks keep used s) done.most done.unused done.parts done.clean_after)

one_written : (at : ℕ) (new : List ℕ) (s : Slot) → IsOneSlot s (plain_written at new s)
one_written at new s = ap (λ (b : Bool). record (identity s) { tells = b }) (told_same _ s.region.contents)

one_used : (marks : Option (List Bool)) (keep used : ℕ) (s : Slot) → IsOneSlot s (used_reset marks keep used s)
one_used None keep used s = one_written 0 (replicate (min keep used) 0) s
one_used (Some marks) keep used s = (like_restored s.base.bytes (pages_by_hand s.region.page keep marks) s.dirty s).same

pub table_still : (offered : Bool) (maker : MakerTold) (s : Settings) (page keep : ℕ) (l : LeasedTable) (region : Told) → IsPoolTable maker s l.index (plain_slot 0 region) → IsPoolTable maker s l.index (table_queued offered page keep l region).slot
table_still offered maker s page keep l region of =
    let marks : Option (List Bool) = table_marks offered page l region in
    table_of_one maker s l.index (plain_slot 0 region) (used_reset marks keep (bytes_used page l) (plain_slot 0 region)) (one_used marks keep (bytes_used page l) (plain_slot 0 region)) of

-- what goes back into a cell is right there, and fills it
returned_if : (maker : MakerTold) (s : Settings) (i : ℕ) (known : Bool) (held : Slot) → MayQueue maker s memory_kind i held → (known ≡ true → IsClean held) → MayHold maker s memory_kind i (if known then previously_used held else unknown held)
returned_if maker s i true held of clean = (of, clean refl)
returned_if maker s i false held of clean = of

table_by : (maker : MakerTold) (s : Settings) (i : ℕ) (m : Queued) (o : Option ℕ) → s.page ≡ maker.page → IsSettings s → IsPoolTable maker s i m.slot → (m.known ≡ true → IsClean m.slot) → IsSome o → IfSome o (λ n. CanBeZeroed n m.slot × (m.known ≡ true)) → MayHold maker s table_kind i (returned_as table_kind m)
table_by maker s i m None paged sound of clean some back = absurd cc
table_by maker s i m (Some n) paged sound of clean some back = table_back maker s i n m paged sound of back.0 (clean back.1)

pub returned_may : (maker : MakerTold) (s : Settings) (kind : SlotKind) (i : ℕ) (m : Queued) → s.page ≡ maker.page → IsSettings s → MayQueue maker s kind i m.slot → MustBeByHand s kind m.by_hand → (m.known ≡ true → IsClean m.slot) → IsBack m → MayHold maker s kind i (returned_as kind m)
returned_may maker s memory_kind i m paged sound of by_hand clean back = returned_if maker s i m.known m.slot of clean
returned_may maker s table_kind i m paged sound of by_hand clean back = table_by maker s i m m.by_hand paged sound of clean by_hand back
returned_may maker s stack_kind i m paged sound of by_hand clean back = stack_back maker s i m paged sound of by_hand clean back
returned_may maker s kind i m paged sound of by_hand clean back = absurd of

returned_there : (known : Bool) (slot : Slot) → is_taken (if known then previously_used slot else unknown slot) ≡ false
returned_there true slot = refl
returned_there false slot = refl

pub returned_has : (kind : SlotKind) (m : Queued) → is_taken (returned_as kind m) ≡ false
returned_has memory_kind m = returned_there m.known m.slot
returned_has table_kind m = refl
returned_has stack_kind m = refl
returned_has heap_kind m = refl
