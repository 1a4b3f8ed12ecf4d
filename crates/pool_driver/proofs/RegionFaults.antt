-- Calls on a region raise its count of faults, or leave it.
use Rattle.std.proofs.Common.{◌≡◌, ℕ, Bool, true, false, List, [], ◌∷◌, map, sym, refl, ap, subst, arith, Option, None, Some, inl, inr}
use Rattle.std.proofs.lemmas.Bool.{cases_lt}
use Rattle.std.specs.List.{AllByRecursion, AllZip}
use Rattle.pool_types.specs.Rising.{Rose}
use Rattle.pool_pages.specs.Told.{Told, erasing}
use Rattle.pool_types.specs.declared.decommit_behavior.DecommitBehavior.{DecommitBehavior}
use Rattle.pool_types.specs.declared.decommit_behavior.DecommitBehavior.TheVariants.{Zero, RestoreOriginalMapping}
use Rattle.pool_images.specs.Images.{Image}
use Rattle.pool_images.specs.Resets.{given_marks, pages_by_hand, reset_by}
use Rattle.pool_images.specs.Slots.{Slot, IsLeft, decommitted_all, size_of, wiped, without_image}
use Rattle.pool_images.specs.declared.ranges.ByteRange.{ByteRange}
use Rattle.pool_images.proofs.Colours.{like_renewed}
use Rattle.pool_images.proofs.Identity.{like_restored}
use Rattle.pool_images.proofs.Sizes.{like_without}
use Rattle.pool_hall.specs.declared.unit_name.SlotKind.{SlotKind}
use Rattle.pool_hall.specs.declared.unit_name.SlotKind.TheVariants.{Memory as memory_kind, Table as table_kind, Stack as stack_kind, Heap as heap_kind}
use Rattle.pool_slots.specs.CellOf.{cell_of}
use Rattle.pool_slots.specs.PlainSlots.{StackState, stack_zeroed, used_reset}
use Rattle.pool_slots.specs.RegionCells.{faults_in}
use Rattle.pool_slots.specs.SlotQueues.{Queued, Queue, IsLeftBy, IsSlotLeft, forgotten_slot, change_at, same_slot, first_slot, is_of, front, plain_slot}
use Rattle.pool_slots.specs.declared.cells.ImageSlot.{ImageSlot}
use Rattle.pool_slots.specs.declared.cells.ImageSlot.TheVariants.{Unmapped, Unknown, PreviouslyUsed, Taken}
use Rattle.pool_slots.specs.declared.slot_name.SlotName.{SlotName}
use Rattle.pool_alloc.specs.MemorySteps.{slot_ended}
use Rattle.pool_alloc.specs.PageCallAnswers.{Decommits, DecommitsWhole, Drains, Empties, Forgets, InstantiatesAs, RemovesImage, Resets}
use Rattle.pool_alloc.specs.Purges.{after_forgetting, known_after}
use Rattle.pool_alloc.specs.Releases.{after_decommit}
use Rattle.pool_alloc.specs.TableLeases.{LeasedTable}
use Rattle.pool_alloc.specs.TableSteps.{bytes_used, table_marks, table_queued}
use Rattle.pool_alloc.specs.declared.frame.TakenSlot.{TakenSlot}
use Rattle.pool_alloc.specs.declared.pool_core.Settings.{Settings}
use Rattle.pool_driver.specs.Faults.{HasFaulted, KeepsFaults, QueueKeeps, QueuedKeeps}

pub rose_keeps : (told old new : ℕ) → KeepsFaults told old → Rose old new → KeepsFaults told new
rose_keeps told old new k rose = record { least = let a = k.least in let b = k.small in omega arith; small = k.small }

same_keeps : (told : ℕ) (old new : Slot) → KeepsFaults told old.region.faults → new.region.faults ≡ old.region.faults → KeepsFaults told new.region.faults
same_keeps told old new k same = subst (KeepsFaults told) (sym same) k

left_keeps : (told : ℕ) (old new : Slot) → KeepsFaults told old.region.faults → IsLeft old new → KeepsFaults told new.region.faults
left_keeps told old new k left = rose_keeps told old.region.faults new.region.faults k left.rose

pub left_faulted : (told : ℕ) (old new : Slot) → KeepsFaults told old.region.faults → IsLeft old new → HasFaulted told new.region.faults
left_faulted told old new k left = elim (cases_lt told new.region.faults) [
  | inl more ↦ inl more
  | inr most ↦ inr (let a = k.least in let b = left.rose in omega arith)
]

-- What succeeds leaves the count.
same_of : (made old new : Slot) → new ≡ made → made.region.faults ≡ old.region.faults → new.region.faults ≡ old.region.faults
same_of made old new is same = subst (λ (s : Slot). s.region.faults ≡ old.region.faults) (sym is) same

wiped_same : (s : Slot) → (wiped s).region.faults ≡ s.region.faults
wiped_same s = (like_renewed (erasing s.base.bytes (size_of s)) s).faults

without_same : (s : Slot) → (without_image s).region.faults ≡ s.region.faults
without_same s = (like_without s.image s).faults

reset_same : (marks : Option (List Bool)) (behaviour : DecommitBehavior) (keep : ℕ) (s : Slot) → (reset_by marks behaviour keep s).region.faults ≡ s.region.faults
reset_same None RestoreOriginalMapping keep s = refl
reset_same (Some marks) RestoreOriginalMapping keep s = (like_restored s.base.bytes (pages_by_hand s.region.page keep marks) false s).faults
reset_same None Zero keep s = wiped_same s
reset_same (Some marks) Zero keep s = wiped_same s

used_same : (marks : Option (List Bool)) (keep used : ℕ) (s : Slot) → (used_reset marks keep used s).region.faults ≡ s.region.faults
used_same None keep used s = refl
used_same (Some marks) keep used s = (like_restored s.base.bytes (pages_by_hand s.region.page keep marks) s.dirty s).faults

decommitted_same : (rs : List ByteRange) (s : Slot) → (decommitted_all rs s).region.faults ≡ s.region.faults
decommitted_same [] s = refl
decommitted_same (r ∷ rs) s = decommitted_same rs _

stack_same : (zeroing : Bool) (keep : ℕ) (s : StackState) → (stack_zeroed zeroing keep s).slot.region.faults ≡ s.slot.region.faults
stack_same true keep s = refl
stack_same false keep s = refl

forgotten_same : (kind : SlotKind) (s : Slot) → (forgotten_slot kind s).region.faults ≡ s.region.faults
forgotten_same memory_kind s = refl
forgotten_same table_kind s = refl
forgotten_same stack_kind s = refl
forgotten_same heap_kind s = refl

-- A slot is emptied, instantiated or reset.
pub empties_keep : (told : ℕ) (fault : Bool) (old new : Slot) → Empties fault old new → KeepsFaults told old.region.faults → KeepsFaults told new.region.faults
empties_keep told true old new is k = left_keeps told old new k is
empties_keep told false old new is k = same_keeps told old new k (same_of (wiped old) old new is.0 (wiped_same old))

pub empties_faulted : (told : ℕ) (old new : Slot) → Empties true old new → KeepsFaults told old.region.faults → HasFaulted told new.region.faults
empties_faulted told old new is k = left_faulted told old new k is

pub instantiates_keep : (told : ℕ) (fault : Bool) (initial : ℕ) (hide : Bool) (image : Option Image) (old new : Slot) → InstantiatesAs fault initial hide image old new → KeepsFaults told old.region.faults → KeepsFaults told new.region.faults
instantiates_keep told true initial hide image old new is k = left_keeps told old new k is
instantiates_keep told false initial hide image old new is k = same_keeps told old new k is.sizes.faults

pub instantiates_faulted : (told initial : ℕ) (hide : Bool) (image : Option Image) (old new : Slot) → InstantiatesAs true initial hide image old new → KeepsFaults told old.region.faults → HasFaulted told new.region.faults
instantiates_faulted told initial hide image old new is k = left_faulted told old new k is

pub reset_keeps : (told : ℕ) (offered : Bool) (keep : ℕ) (at : TakenSlot) (old : Slot) → KeepsFaults told old.region.faults → KeepsFaults told (slot_ended offered keep at old).slot.region.faults
reset_keeps told offered keep at old k = subst (KeepsFaults told) (sym (reset_same (given_marks offered old) old.region.behaviour keep old)) k

pub table_keeps : (told : ℕ) (offered : Bool) (page keep : ℕ) (lease : LeasedTable) (region : Told) → KeepsFaults told region.faults → KeepsFaults told (table_queued offered page keep lease region).slot.region.faults
table_keeps told offered page keep lease region k = subst (KeepsFaults told) (sym (used_same (table_marks offered page lease region) keep (bytes_used page lease) (plain_slot 0 region))) k

pub resets_keep : (told : ℕ) (offered : Bool) (keep : ℕ) (at : TakenSlot) (old new : Slot) → Resets true offered keep at old new → KeepsFaults told old.region.faults → KeepsFaults told new.region.faults
resets_keep told offered keep at old new is k = left_keeps told old new k is.1

pub resets_faulted : (told : ℕ) (offered : Bool) (keep : ℕ) (at : TakenSlot) (old new : Slot) → Resets true offered keep at old new → KeepsFaults told old.region.faults → HasFaulted told new.region.faults
resets_faulted told offered keep at old new is k = left_faulted told old new k is.1

pub stack_keeps : (told : ℕ) (zeroing : Bool) (keep : ℕ) (s : StackState) → KeepsFaults told s.slot.region.faults → KeepsFaults told (stack_zeroed zeroing keep s).slot.region.faults
stack_keeps told zeroing keep s k = subst (KeepsFaults told) (sym (stack_same zeroing keep s)) k

-- What a purge forgets, and what a release decommits.
removes_keep : (told : ℕ) (fault : Bool) (old new : Slot) → RemovesImage fault old new → KeepsFaults told old.region.faults → KeepsFaults told new.region.faults
removes_keep told true old new is k = left_keeps told old new k is
removes_keep told false old new is k = same_keeps told old new k (same_of (without_image old) old new is.0 (without_same old))

whole_keeps : (told : ℕ) (s : Settings) (fault : Bool) (old new : Slot) → DecommitsWhole s fault old new → KeepsFaults told old.region.faults → KeepsFaults told new.region.faults
whole_keeps told s true old new is k = rose_keeps told old.region.faults new.region.faults k is.region.rose
whole_keeps told s false old new is k = subst (λ (x : Slot). KeepsFaults told x.region.faults) (sym is) k

known_keeps : (P : Type 0) (told : ℕ) (fault : Bool) (slot : Slot) → KeepsFaults told slot.region.faults → KeepsFaults told (faults_in (cell_of {P = P} (known_after fault slot)))
known_keeps P told true slot k = k
known_keeps P told false slot k = k

module _ {P : Type 0} where
  pub forgets_keep : (told : ℕ) (fault : Bool) (held : ImageSlot P) (new : Slot) → Forgets fault held new → KeepsFaults told (faults_in (cell_of held)) → KeepsFaults told (faults_in (cell_of (after_forgetting fault held new)))
  forgets_keep told fault (Unmapped region) new is k = k
  forgets_keep told fault (Unknown old) new is k = known_keeps P told fault new (empties_keep told fault old new is k)
  forgets_keep told fault (PreviouslyUsed old) new is k = known_keeps P told fault new (removes_keep told fault old new is k)
  forgets_keep told fault Taken new is k = k

  pub drains_keep : (told : ℕ) (s : Settings) (fault : Bool) (held : ImageSlot P) (new : Slot) → Drains s fault held new → KeepsFaults told (faults_in (cell_of held)) → KeepsFaults told (faults_in (cell_of (after_decommit held new)))
  drains_keep told s fault (Unmapped region) new is k = k
  drains_keep told s fault (Unknown old) new is k = whole_keeps told s fault old new is k
  drains_keep told s fault (PreviouslyUsed old) new is k = whole_keeps told s fault old new is.0 k
  drains_keep told s fault Taken new is k = k

-- A run of decommits that succeeds leaves the faults of each queued slot,
pub changed_has : (Q : ℕ → ℕ → Type 0) (name : SlotName) (rs : List ByteRange) (m : Queued) → Q m.numbers.faults m.slot.region.faults → Q (change_at name (decommitted_all rs) m).numbers.faults (change_at name (decommitted_all rs) m).slot.region.faults
changed_has Q name rs m k = go (same_slot name m.name) refl
  where
    go : (b : Bool) → same_slot name m.name ≡ b → Q (change_at name (decommitted_all rs) m).numbers.faults (change_at name (decommitted_all rs) m).slot.region.faults
    go true e = rw e (subst (Q m.numbers.faults) (sym (decommitted_same rs m.slot)) k)
    go false e = rw e k

run_keeps : (name : SlotName) (rs : List ByteRange) (slots : List Queued) → AllByRecursion QueuedKeeps slots → AllByRecursion QueuedKeeps (map (change_at name (decommitted_all rs)) slots)
run_keeps name rs [] k = tt
run_keeps name rs (m ∷ ms) k = (changed_has KeepsFaults name rs m k.0, run_keeps name rs ms k.1)

-- and one that fails raises those of the slot on which the call was.
module _ (faulted : SlotName) (m n : Queued) (k : QueuedKeeps m) (left : IsLeftBy faulted m n) where
  same_told : n.numbers.faults ≡ m.numbers.faults
  same_told = ap (λ (z : Queued). z.numbers.faults) left.same

  still : KeepsFaults m.numbers.faults (forgotten_slot m.name.kind m.slot).region.faults
  still = subst (KeepsFaults m.numbers.faults) (sym (forgotten_same m.name.kind m.slot)) k

  left_by_keeps : QueuedKeeps n
  left_by_keeps = subst (λ (t : ℕ). KeepsFaults t n.slot.region.faults) (sym same_told) (by (same_slot faulted m.name) left.slot)
    where
      by : (b : Bool) → IsSlotLeft b (forgotten_slot m.name.kind m.slot) n.slot → KeepsFaults m.numbers.faults n.slot.region.faults
      by true is = left_keeps m.numbers.faults (forgotten_slot m.name.kind m.slot) n.slot still is
      by false is = subst (KeepsFaults m.numbers.faults) (sym (ap (λ (z : Slot). z.region.faults) is)) still

  pub left_by_faulted : same_slot faulted m.name ≡ true → HasFaulted n.numbers.faults n.slot.region.faults
  left_by_faulted on = subst (λ (t : ℕ). HasFaulted t n.slot.region.faults) (sym same_told)
      (left_faulted m.numbers.faults (forgotten_slot m.name.kind m.slot) n.slot still (subst (λ (b : Bool). IsSlotLeft b (forgotten_slot m.name.kind m.slot) n.slot) on left.slot))

zip_keeps : (faulted : SlotName) (old new : List Queued) → AllZip (IsLeftBy faulted) old new → AllByRecursion QueuedKeeps old → AllByRecursion QueuedKeeps new
zip_keeps faulted [] [] z k = tt
zip_keeps faulted (m ∷ ms) (n ∷ ns) z k = (left_by_keeps faulted m n k.0 z.0, zip_keeps faulted ms ns z.1 k.1)
zip_keeps faulted [] (n ∷ ns) z k = absurd z
zip_keeps faulted (m ∷ ms) [] z k = absurd z

pub decommits_keep : (fault : Bool) (old new : Queue) → Decommits fault old new → QueueKeeps old → QueueKeeps new
decommits_keep true old new d k = zip_keeps (first_slot old.ranges) old.slots new.slots d.slots k
decommits_keep false old new d k = subst QueueKeeps (sym d) (run_keeps (first_slot old.ranges) (map (λ r. r.range) (front (is_of (first_slot old.ranges)) old.ranges)) old.slots k)
