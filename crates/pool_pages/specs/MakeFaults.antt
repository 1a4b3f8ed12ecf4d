-- What a failed making does to the count of faults.
use Rattle.std.specs.Prelude.{◌≡◌, ℕ, Bool, true, false}
use Rattle.pool_types.specs.Rising.{Rose}
use Rattle.pool_pages.specs.declared.maker.MakeFault.{MakeFault}
use Rattle.pool_pages.specs.declared.maker.MakeFault.TheVariants.{Memory, PageFault}

-- a page fault raises the count, and want of memory leaves it
abbrev pub RaisesFaults : ℕ → ℕ → MakeFault → Type 0
RaisesFaults old new Memory = new ≡ old
RaisesFaults old new PageFault = Rose old new

-- what it does to the count of the maker behind: a listed making isn't made there, and leaves it
abbrev pub RaisesBehind : Bool → ℕ → ℕ → MakeFault → Type 0
RaisesBehind true old new fault = new ≡ old
RaisesBehind false old new fault = RaisesFaults old new fault
