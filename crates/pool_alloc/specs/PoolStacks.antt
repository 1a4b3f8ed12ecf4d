-- The stacks of a pool: the regions of their slots, in cells, in queues and in hands, and a stack that was granted.
use Rattle.std.specs.Prelude.{◌≡◌, ℕ, ◌+◌, ◌<◌, true, false, None, replicate}
use Rattle.pool_alloc.specs.Imports.{count, MakerTold, made_region, Told, Slot, IsClean, Reads, identity, Cell, unmapped, taken, identity_made, stack_item, IsPlain, stack_kept, stack_ranges, stack_zeroed, Queue, plain_slot, with_ranges, with_slot, Plan}
use Rattle.pool_pages.specs.declared.pages.RegionName.TheVariants.{Stack}
use Rattle.pool_slots.specs.declared.queued_range.QueueKind.TheVariants as queued
use Rattle.pool_alloc.specs.StackLeases.{LeasedStack}
use Rattle.pool_alloc.specs.declared.frame.TakenSlot.{TakenSlot}
use Rattle.pool_alloc.specs.declared.pool_core.Settings.{Settings}

-- the region of stack slot i as it is made, before its first page is hidden
abbrev pub region_of_stack : MakerTold → Settings → ℕ → Told
region_of_stack maker s i = made_region (Stack i) s.behaviour (count maker.page (maker.page + s.stack_size)) (count maker.page (maker.page + s.stack_size)) maker

-- Stack slot i of the pool: its usable bytes are those behind the first page of its region, which is the guard, whatever calls
-- were made on that.
pub record IsPoolStack (maker : MakerTold) (s : Settings) (i : ℕ) (slot : Slot) : Type 0 where
  pub same : identity slot ≡ record (identity_made (region_of_stack maker s i) None s.stack_size) { base = count maker.page maker.page }

-- Its region while no stack lies there: it can be used, and where stacks are given back zeroed it holds zeros.
pub record IsStackRegion (maker : MakerTold) (s : Settings) (i : ℕ) (region : Told) : Type 0 where
  pub slot : IsPoolStack maker s i (plain_slot s.page region)
  pub plain : IsPlain (plain_slot s.page region)
  pub clean : s.stack_zeroing ≡ true → IsClean (plain_slot s.page region)

-- what its cell may hold
abbrev pub IsInStackCell : MakerTold → Settings → ℕ → Cell → Type 0
IsInStackCell maker s i (unmapped region) = IsStackRegion maker s i region
IsInStackCell maker s i taken = Unit {0}
IsInStackCell maker s i _ = ⊥

-- As it lies in a queue. One that isn't given back zeroed can be used there too.
pub record IsQueuedStack (maker : MakerTold) (s : Settings) (i : ℕ) (slot : Slot) : Type 0 where
  pub slot_is : IsPoolStack maker s i slot
  pub plain : s.stack_zeroing ≡ false → IsPlain slot

-- a lease of the pool: its stack is the usable part of the region of its slot
pub record IsStackLease (maker : MakerTold) (s : Settings) (plan : Plan) (l : LeasedStack) : Type 0 where
  pub inside : l.stack.index < plan.totals.stack
  pub slot : IsPoolStack maker s l.stack.index l.stack.slot
  pub plain : IsPlain l.stack.slot
  pub zeroing : l.stack.zeroing ≡ s.stack_zeroing

-- A stack as it begins: where stacks are given back zeroed, each of its bytes reads as zero, whoever had the slot before and
-- whichever decommit failed since.
pub record IsNewStack (s : Settings) (l : LeasedStack) : Type 0 where
  pub size : l.stack.slot.static_size ≡ s.stack_size
  pub zeros : s.stack_zeroing ≡ true → Reads l.stack.slot s.stack_size (replicate s.stack_size 0)

-- the stack in the region of a slot
abbrev pub stack_made : Settings → TakenSlot → Told → LeasedStack
stack_made s at region = record {
  stack = record { index = at.name.slot; slot = plain_slot s.page region; zeroing = s.stack_zeroing };
  numbers = at.numbers;
}

-- A stack is reset into a queue: where it is given back zeroed, the top of it is zeroed at once, as much as is kept resident,
-- and the rest is left to be decommitted, also where that is nothing.
abbrev pub stack_reset : ℕ → LeasedStack → Queue → Queue
stack_reset keep l q =
    with_slot (stack_item (stack_zeroed l.stack.zeroing keep l.stack) (stack_kept l.stack.zeroing keep l.stack) l.numbers)
    (with_ranges queued.Stack l.stack.index (stack_ranges l.stack.zeroing keep l.stack) q)
