-- Stacks on demand: each lies behind a guard page, in a region of its own.
use Rattle.std.specs.Prelude.{◌≡◌, ℕ, ◌+◌, ◌^◌, ◌≤◌, Bool, Option, Some, None, IfSome, Result, Err, ◌⊎◌, if◌then◌else◌, replicate}
use Rattle.pool_on_demand.specs.Imports.{Count, count, rounded_up, MakerTold, made_region, Told, succeeded, DecommitBehavior, Zero, RestoreOriginalMapping, IsAsked, next_name, StackState, plain_slot, AllocError, guarding}
use Rattle.pool_slots.specs.declared.errors.AllocError.TheVariants as refusal
use Rattle.pool_on_demand.specs.Answers.{no_slot}
use Rattle.pool_on_demand.specs.declared.lease.OnDemandStack.{OnDemandStack}

-- how long the region of a stack of so many bytes is: a guard page, and the stack in whole pages
abbrev pub stack_room : ℕ → ℕ → Count
stack_room page stack_size = count page (page + rounded_up page stack_size)

-- What goes back to zeros where stacks are to be zeroed can be decommitted whole.
abbrev pub stack_behaviour : Bool → DecommitBehavior
stack_behaviour zeroing = if zeroing then Zero else RestoreOriginalMapping

-- the region as it is made, all of which can be reached
abbrev pub stack_region : ℕ → Bool → MakerTold → Told
stack_region stack_size zeroing maker = made_region (next_name maker) (stack_behaviour zeroing) (stack_room maker.page stack_size) (stack_room maker.page stack_size) maker

-- The stack in such a region, behind its guard page.
abbrev pub stack_in : Told → Bool → StackState
stack_in region zeroing = record {
  index = no_slot;
  slot = plain_slot region.page (succeeded (guarding region.page) region);
  zeroing = zeroing;
}

-- A stack on demand: it is exactly this, and where its region tells what it holds, it holds zeros.
pub record IsStackMade {P : Type 0} (stack_size : ℕ) (zeroing : Bool) (maker : MakerTold) (lease : OnDemandStack P) : Type 0 where
  pub stack : lease.stack ≡ stack_in (stack_region stack_size zeroing maker) zeroing
  pub zeros : IfSome lease.stack.slot.region.contents (λ c. c.bytes ≡ replicate lease.stack.slot.region.len 0)

-- One region is asked for, or, where addresses don't reach the end of it, none: then memory is wanting.
abbrev pub AsksForStack : {X : Type 0} → Option AllocError → ℕ → Result X AllocError → MakerTold → MakerTold → Type 0
AsksForStack (Some e) len result old new = new ≡ old
AsksForStack None len result old new = IsAsked old new ⊎ ((2 ^ 64 ≤ len) × ((result ≡ Err refusal.Memory) × (new ≡ old)))
