-- What a seat with all portions has noted of a pool that it closes.
use Rattle.std.specs.Prelude.{◌≡◌, ℕ, ◌-◌, ◌^◌, ◌<◌, ◌≤◌, List, Option, IfSome, slice_index}
use Rattle.pool_pages.specs.MakerTold.{plan_for}
use Rattle.pool_pages.specs.declared.pages.RegionName.TheVariants.{Memory}
use Rattle.pool_hall.specs.Sum.{often}
use Rattle.pool_hall.specs.Tally.{counted, additions, low_additions, number}
use Rattle.pool_hall.specs.declared.unit_name.SlotKind.TheVariants.{Memory as memory_kind}
use Rattle.pool_hall.specs.declared.view.View.{View}
use Rattle.pool_index.specs.Part.{cold_picks}
use Rattle.pool_slots.specs.Plans.{cell_role, shard_role, role_at, slots_at}
use Rattle.pool_slots.specs.declared.plan.Allocator.{Allocator}
use Rattle.pool_slots.specs.declared.slot_name.SlotName.{SlotName}
use Rattle.pool_driver.specs.Counts.{counter_limits}
use Rattle.pool_driver.specs.ListedCalls.{AreAtMost, calls_listed}
use Rattle.pool_driver.specs.PageFaults.{cell_faults}
use Rattle.pool_driver.specs.Placed.{About}

-- Where a region's plan is told, so many faults are no more than the different calls that it lists, unless it lists all calls from one on.
abbrev pub IsPaid : Option (List ℕ) → ℕ → Type 0
IsPaid plan faults = IfSome plan (λ calls. AreAtMost (calls_listed calls) calls faults)

-- Of each shard that was noted as topped, the view has at least as many cold picks as the shard has slots. Where some addition on a counter
-- wasn't low, it has at least as many low ones as the counter's limit says. Of the cell of a memory's slot it has at most as many faults as
-- the plan lists different calls on the slot's region; and where the cell was noted as topped, as many as can be counted.
pub record HasNoted {T : Type 0} (a : About) (places : ℕ) (v : View T) : Type 0 where
  pub shards : (p j : ℕ) (allocator : Allocator) → p < places → role_at a.plan p ≡ shard_role allocator j → 0 < often p v.topped → slots_at allocator j ≤ number (counted p cold_picks) v
  pub counters : (c : ℕ) → number (low_additions c) v < number (additions c) v → slice_index (counter_limits a.settings) c ≤ number (low_additions c) v
  pub paid : (p : ℕ) (slot : SlotName) → slot.kind ≡ memory_kind → role_at a.plan p ≡ cell_role slot → IsPaid (plan_for (Memory slot.slot) a.maker) (number (counted p cell_faults) v)
  pub topped : (p : ℕ) (slot : SlotName) → slot.kind ≡ memory_kind → role_at a.plan p ≡ cell_role slot → 0 < often p v.topped → number (counted p cell_faults) v ≡ 2 ^ 64 - 1
