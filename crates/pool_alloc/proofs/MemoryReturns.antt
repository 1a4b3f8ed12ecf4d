-- A memory that is given back, as it is reset into the local queue.
use Rattle.std.proofs.Common.{◌≡◌, ℕ, Bool, false, List, Option, ap, ◌∙◌}
use Rattle.pool_slots.specs.declared.queued_range.QueueKind.TheVariants as queued
use Rattle.pool_alloc.proofs.Imports.{ByteRange, Slot, Queue, Queued, slot_of, with_ranges, with_slot, given_marks, kept_by, left_by, reset_by}
use Rattle.pool_alloc.specs.Leases.{Lease, slot_taken}
use Rattle.pool_alloc.specs.MemorySteps.{reset_into}
use Rattle.pool_alloc.specs.StepReads.{under}
use Rattle.pool_alloc.specs.StepTable.{reset_turn, was_reset}
use Rattle.pool_alloc.specs.Turns.{After, Left, after, finished, stepped}
use Rattle.pool_alloc.specs.declared.frame.Frame.{Frame}
use Rattle.pool_alloc.specs.declared.frame.Outcome.{Outcome}
use Rattle.pool_alloc.specs.declared.frame.TakenSlot.{TakenSlot}
use Rattle.pool_alloc.specs.declared.pool_core.PoolCore.{PoolCore}
use Rattle.pool_alloc.specs.declared.pool_core.Settings.{Settings}
use Rattle.pool_alloc.proofs.LocalQueues.{memory_queued}

-- The queue once the slot was pushed with the ranges that its reset left.
pub pushed_reset : (offered : Bool) (keep : ℕ) (lease : Lease) (at : TakenSlot) (slot new : Slot) (item : Queued) (kept : ℕ) (listed rs : List ByteRange) (q now : Queue)
    → now ≡ with_slot item (with_ranges queued.Memory item.name.slot listed q) → item ≡ memory_queued kept at new → listed ≡ rs
    → rs ≡ left_by (given_marks offered slot) slot.region.behaviour keep slot → new ≡ reset_by (given_marks offered slot) slot.region.behaviour keep slot → kept ≡ kept_by (given_marks offered slot) slot.region.behaviour keep slot
    → at ≡ slot_taken lease → slot ≡ slot_of lease.memory → now ≡ reset_into offered keep (slot_taken lease) (slot_of lease.memory) q
pushed_reset offered keep lease at slot new item kept listed rs q now pushed named slice left reset stays taken unwrapped =
    let F : Queued → List ByteRange → Queue = λ m l. with_slot m (with_ranges queued.Memory m.name.slot l q) in
    let marks : Option (List Bool) = given_marks offered slot in
    let ranges : List ByteRange = left_by marks slot.region.behaviour keep slot in
    pushed
    ∙ ap (λ (m : Queued). F m listed) named
    ∙ ap (λ (l : List ByteRange). F (memory_queued kept at new) l) (slice ∙ left)
    ∙ ap (λ (x : Slot). F (memory_queued kept at x) ranges) reset
    ∙ ap (λ (n : ℕ). F (memory_queued n at (reset_by marks slot.region.behaviour keep slot)) ranges) stays
    ∙ ap (λ (a : TakenSlot). reset_into offered keep a slot q) taken
    ∙ ap (λ (s : Slot). reset_into offered keep (slot_taken lease) s q) unwrapped

module _ {P H : Type 0} where
  -- The row of the reset.
  pub reset_as_row : (s : Settings) (lease : Lease) (held : Slot) (f new : Frame P H) (o : Option (Outcome P H)) (q : Queue)
      → ◌≡◌ {A = Left P H} (record { frame = new; outcome = o }) (after (record f { local = q }) (reset_turn s.batch q)) → q ≡ reset_into s.dirty_pages s.keep_resident.bytes (slot_taken lease) (slot_of lease.memory) f.local
      → (c : PoolCore P H) → ◌≡◌ {A = After P H} (record { core = under s c.plan c; frame = new; outcome = o }) (stepped (was_reset false held lease (under s c.plan c) f))
  reset_as_row s lease held f new o q row pushed c =
      ap (λ (l : Left P H). finished (under s c.plan c) l) row
      ∙ ap (λ (x : Queue). finished (under s c.plan c) (after (record f { local = x }) (reset_turn s.batch x))) pushed
