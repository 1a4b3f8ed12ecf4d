-- Stacks on demand that are counted: at most so many are live at once.
use Rattle.std.specs.Prelude.{◌≡◌, ℕ, ◌==◌, Bool, Option, Some, None, IfSome, replicate, if◌then◌else◌}
use Rattle.pool_on_demand.specs.Imports.{MakerTold, StackState, AllocError}
use Rattle.pool_slots.specs.declared.errors.AllocError.TheVariants as refusal
use Rattle.pool_slots.specs.declared.errors.ConcurrencyKind.TheVariants.{Fibers}
use Rattle.pool_on_demand.specs.Stacks.{stack_in, stack_region}

-- The page size of the stacks' regions, how many usable bytes a stack has, whether stacks are to be zeroed, how many may be live, and how
-- many are.
pub record CountedStacks : Type 0 where
  pub page : ℕ
  pub stack_size : ℕ
  pub zeroing : Bool
  pub limit : ℕ
  pub live : ℕ

-- A stack of no bytes is none, and no stack is made where as many are live as may be.
abbrev pub counted_refused : CountedStacks → Option AllocError
counted_refused s =
    if s.stack_size == 0
    then Some refusal.StacksDisabled
    else if s.live == s.limit then Some (refusal.Limit (record { limit = s.limit; kind = Fibers })) else None

-- The stack is one as on demand: it lies behind a guard page in a region of its own, as the maker told before, and where that tells what it
-- holds, it holds zeros.
pub record IsCountedStack (s : CountedStacks) (maker : MakerTold) (stack : StackState) : Type 0 where
  pub made : stack ≡ stack_in (stack_region s.stack_size s.zeroing maker) s.zeroing
  pub zeros : IfSome stack.slot.region.contents (λ c. c.bytes ≡ replicate stack.slot.region.len 0)
