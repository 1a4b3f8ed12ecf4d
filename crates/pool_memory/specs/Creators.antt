-- What makes the memories of instances: when it refuses, and what it makes.
use Rattle.std.specs.Prelude.{◌≡◌, ℕ, ◌-◌, ◌^◌, ◌<◌, ◌≤◌, ◌⊎◌, ◌||◌, List, length, min, replicate, Bool, true, false, Option, Some, None, IfSome, is_some, Result, Ok, Err, if◌then◌else◌}
use Rattle.pool_memory.specs.Imports.{MakerTold, Planned, calls_of, plan_for, Rose, MemoryTunables, OnDemand, Unsupported}
use Rattle.pool_memory.specs.Layouts.{Layout, layout_of, first_layout}
use Rattle.pool_memory.specs.Linear.{Linear, Storage, in_slot, stored, is_mapped, linear_bytes}
use Rattle.pool_memory.specs.Mapped.{mapped_refusal, extra_on_growth}
use Rattle.pool_memory.specs.Malloc.{needs_pages, malloc_refusal, malloc_capacity}
use Rattle.pool_memory.specs.declared.memory_error.MemoryError.{MemoryError}
use Rattle.pool_memory.specs.declared.memory_error.MemoryError.TheVariants as refused

-- What is known of a memory before it is made: how much it may have without moving, whether it can move, how much it takes
-- beyond what it needs then, and how its region is laid out, where it lies in one.
pub record Design : Type 0 where
  pub capacity : ℕ
  pub moves : Bool
  pub extra : ℕ
  pub layout : Option Layout

-- Where a memory lies: in a region laid out so, or in a list of bytes where there is no layout.
abbrev pub LiesIn : Option Layout → Storage → Type 0
LiesIn (Some layout) (in_slot s) = layout_of s ≡ layout
LiesIn (Some layout) (stored len bytes) = ⊥
LiesIn None (in_slot s) = ⊥
LiesIn None (stored len bytes) = Unit {0}

-- the memory is as designed
pub record IsDesigned (d : Design) (l : Linear) : Type 0 where
  pub capacity : l.capacity ≡ d.capacity
  pub moves : l.moves ≡ d.moves
  pub extra : l.extra ≡ d.extra
  pub place : LiesIn d.layout l.storage

-- a region that it lies in has pages of this size
abbrev pub HasPage : ℕ → Storage → Type 0
HasPage page (in_slot s) = s.region.page ≡ page
HasPage page (stored len bytes) = Unit {0}

-- the number of a region that was asked for while the maker's next one rose from one number to the other
abbrev pub IsBetween : ℕ → ℕ → ℕ → Type 0
IsBetween from to n = (from ≤ n) × ((n < to) ⊎ (2 ^ 32 - 1 ≤ n))

-- a region that it lies in is one of these, and its calls fail as the maker tells
abbrev pub IsOfMaker : ℕ → MakerTold → Storage → Type 0
IsOfMaker to maker (in_slot s) = (n : ℕ) × (IsBetween maker.next to n × (s.region.plan ≡ plan_for (OnDemand n) maker))
IsOfMaker to maker (stored len bytes) = Unit {0}

-- The memory is as it is made: so many zeros, and no image. It tells them where the maker's regions tell what they hold. The
-- maker told this, and its next number is at `to` then.
pub record IsAsMade (minimum to : ℕ) (maker : MakerTold) (l : Linear) : Type 0 where
  pub size : l.size ≡ minimum
  pub told : maker.tells ≡ true → is_some (linear_bytes l) ≡ true
  pub zeros : IfSome (linear_bytes l) (λ b. b ≡ replicate minimum 0)
  pub unmapped : is_mapped l.storage ≡ false
  pub page : HasPage maker.page l.storage
  pub region : IsOfMaker to maker l.storage

-- a making or a call is listed of a region on demand whose number is one of these
abbrev pub ListsBetween : ℕ → ℕ → List Planned → Type 0
ListsBetween from to plan = (n : ℕ) × (IsBetween from to n × (0 < length (calls_of (OnDemand n) plan)))

-- The plan of some region that was asked for in between lists a call, where the maker tells it.
abbrev pub FailsBetween : ℕ → ℕ → MakerTold → Type 0
FailsBetween from to m = (n : ℕ) × (IsBetween from to n × IfSome (plan_for (OnDemand n) m) (λ calls. 0 < length calls))

-- A page fault has its cause in the maker, whose count rises, or in a region that was made and is gone. Over a maker that
-- tells its plan a making or a call of one of the regions that were asked for is listed.
pub record HasFaulted (old new : MakerTold) : Type 0 where
  pub rose : Rose old.faults new.faults ⊎ FailsBetween old.next new.next old
  pub listed : IfSome old.plan (ListsBetween old.next new.next)

-- What a refusal leaves of the maker's counts. An unsupported memory isn't asked for, and no limiter is asked here.
abbrev pub CreatorRefuses : MemoryError → MakerTold → MakerTold → Type 0
CreatorRefuses refused.Memory old new = (new.faults ≡ old.faults) × (new.behind ≡ old.behind)
CreatorRefuses (refused.Unsupported u) old new = new ≡ old
CreatorRefuses (refused.LimiterDenied min) old new = ⊥
CreatorRefuses (refused.LimiterFault e) old new = ⊥
CreatorRefuses refused.PageFault old new = HasFaulted old new

-- what a making leaves of them
abbrev pub CreatorLeaves : {X : Type 0} → Result X MemoryError → MakerTold → MakerTold → Type 0
CreatorLeaves (Ok x) old new = (new.faults ≡ old.faults) × (new.behind ≡ old.behind)
CreatorLeaves (Err e) old new = CreatorRefuses e old new

-- the maker is the same, and regions on demand may have been asked for
pub record IsSameMaker (old new : MakerTold) : Type 0 where
  pub same : new ≡ record old { next = new.next; behind = new.behind; faults = new.faults }
  pub rises : min old.next (2 ^ 32 - 1) ≤ new.next

-- memories lie in regions: the settings need pages, or traps come by signals
abbrev pub in_regions : MemoryTunables → Bool
in_regions t = t.tunables.signals_based_traps || needs_pages t

-- Why the default creator makes no memory, if it doesn't: for one in a list of bytes, or for one in a region, by the
-- settings.
abbrev pub default_refusal : ℕ → MemoryTunables → ℕ → Option Unsupported
default_refusal page tunables minimum = if in_regions tunables then mapped_refusal page tunables minimum else malloc_refusal tunables minimum

-- The memory that the creator makes in a region of its own: its capacity, its room on a move, its layout.
abbrev pub mapped_design : ℕ → MemoryTunables → ℕ → Option ℕ → Design
mapped_design page tunables minimum maximum = record {
  capacity = (first_layout page tunables minimum).capacity;
  moves = true;
  extra = extra_on_growth tunables minimum maximum;
  layout = Some (first_layout page tunables minimum);
}

-- The memory that the creator makes in a list of bytes.
abbrev pub malloc_design : MemoryTunables → ℕ → Design
malloc_design tunables minimum = record { capacity = malloc_capacity tunables minimum; moves = true; extra = 0; layout = None }

-- What the creator makes: a memory in a region where the settings ask for regions, else one in a list of bytes.
abbrev pub default_design : ℕ → MemoryTunables → ℕ → Option ℕ → Design
default_design page tunables minimum maximum = if in_regions tunables then mapped_design page tunables minimum maximum else malloc_design tunables minimum
