-- The faults that came home to cells of memory slots are at most as many as plans list different calls on these slots' regions.
use Rattle.std.proofs.Common.{◌≡◌, ◌⊎◌, ℕ, ◌^◌, ◌≤◌, ◌<◌, true, refl, sym, arith, inl, inr}
use Rattle.pool_hall.specs.declared.unit_name.SlotKind.TheVariants.{Memory as memory_kind}
use Rattle.pool_hall.specs.declared.view.View.{View}
use Rattle.pool_slots.specs.Plans.{Role, shard_role, cell_role, queue_role, heaps_role, no_role}
use Rattle.pool_slots.proofs.SlotNames.{kind_is}
use Rattle.pool_slots.specs.declared.slot_name.SlotName.{SlotName}
use Rattle.pool_alloc.specs.BetweenSteps.{IsPoolPlan}
use Rattle.pool_driver.specs.Ending.{HasNoted}
use Rattle.pool_driver.specs.ListedCalls.{AllEndBeforeLast, listed_on}
use Rattle.pool_driver.specs.Placed.{About}
use Rattle.pool_driver.proofs.PaidSums.{all_paid, faults_weigh, topped_paid}
use Rattle.pool_threads.specs.Noted.{HasNotedCell, fault_rise, is_memory_cell, memory_faults}

memory_role : (r : Role) → is_memory_cell r ≡ true → (slot : SlotName) × (slot.kind ≡ memory_kind) × (r ≡ cell_role slot)
memory_role (cell_role name) is = (name, sym (kind_is memory_kind name.kind is), refl)
memory_role (shard_role a j) is = absurd (cc is)
memory_role queue_role is = absurd (cc is)
memory_role (heaps_role n) is = absurd (cc is)
memory_role no_role is = absurd (cc is)

-- So many faults that came home to cells of memory slots, or of which a cell was noted as topped, are at most as many as plans list different
-- calls on these slots' regions.
pub all_listed : {T : Type 0} (about : About) (places : ℕ) (v : View T) (m : ℕ) → IsPoolPlan about.plan places → HasNoted about places v → AllEndBeforeLast about.maker about.plan.totals.memory → m < 2 ^ 64 → (m ≤ memory_faults about.plan v) ⊎ HasNotedCell about.plan v → m ≤ listed_on about.maker about.plan.totals.memory
all_listed about places v m plan noted ends few faults =
    elim faults [
      | inl home ↦ (let paid = all_paid about places v plan noted (fault_rise about.plan) (faults_weigh about.plan is_memory_cell memory_role) ends in omega arith)
      | inr topped ↦ (let paid = topped_paid about places v plan noted topped.place topped.slot topped.kind topped.cell topped.noted ends in omega arith)
    ]
