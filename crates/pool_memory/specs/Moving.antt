-- How a memory asks a maker for a region, and what that leaves of the maker.
use Rattle.std.specs.Prelude.{◌≡◌, ℕ, ◌^◌, ◌<◌, ◌≤◌, Bool, true, false, nat_lt, Option, Some, None, Result, Ok, Err, IfSome, ◌⊎◌}
use Rattle.pool_memory.specs.Imports.{count, rounded_up, RaisesBehind, MakerTold, made_region, next_after, fails_making, plan_for, Told, PageCall, passes, exposing, Rose, MakeFault, RegionName, OnDemand, RestoreOriginalMapping, AddressSpace, Slot, IsFresh, limited, GrowError}
use Rattle.pool_pages.specs.declared.maker.MakeFault.TheVariants as making
use Rattle.pool_limits.specs.declared.errors.GrowError.TheVariants as failed
use Rattle.pool_memory.specs.Copying.{OnlyWritten}
use Rattle.pool_memory.specs.Layouts.{Layout, layout_len, layout_of, moved_layout}
use Rattle.pool_memory.specs.Linear.{Linear, Storage, in_slot, stored, slot_in}
use Rattle.pool_memory.specs.declared.memory_error.MemoryError.{MemoryError}
use Rattle.pool_memory.specs.declared.memory_error.MemoryError.TheVariants as refused

-- the name of the next region on demand
abbrev pub next_name : MakerTold → RegionName
next_name m = OnDemand m.next

-- the region that the maker makes of this layout
abbrev pub region_for : MakerTold → Layout → Told
region_for m l = made_region (next_name m) RestoreOriginalMapping (count l.page 0) (count l.page (layout_len l)) m

-- a region as it is made of a layout: it tells zeros, if anything, and can be given a slot
pub record IsRegionMade (l : Layout) (t : Told) : Type 0 where
  pub fresh : IsFresh (count l.page l.before) (count l.page 0) l.capacity None t
  pub page : t.page ≡ l.page
  pub len : t.len ≡ layout_len l
  pub restores : t.behaviour ≡ RestoreOriginalMapping

-- the slot in a region of this layout, of which nothing can be reached yet
abbrev pub slot_of_region : Told → Layout → Slot
slot_of_region t l = record {
  region = t;
  base = count l.page l.before;
  accessible = count l.page 0;
  static_size = l.capacity;
  image = None;
  dirty = false;
  colour = None;
}

-- The slot of such a region once so many bytes can be reached, which is the first call on it.
abbrev pub slot_for : MakerTold → Layout → ℕ → Slot
slot_for m l size = limited size (slot_of_region (region_for m l) l)

-- The first call on a new region: the pages of the memory's first size become reachable behind the guard.
abbrev pub first_call : Layout → ℕ → PageCall
first_call l size = exposing l.before (rounded_up l.page size)

-- a region was asked for
abbrev pub IsAsked : MakerTold → MakerTold → Type 0
IsAsked old new = new ≡ record old { next = next_after (next_name old) old.next; behind = new.behind; faults = new.faults }

-- a region was made: its making isn't listed
pub record IsMadeRegion (old new : MakerTold) : Type 0 where
  pub asked : IsAsked old new
  pub faults : new.faults ≡ old.faults
  pub behind : new.behind ≡ old.behind
  pub listed : fails_making (next_name old) old.listed ≡ false
  pub planned : IfSome old.plan (λ plan. fails_making (next_name old) plan ≡ false)

-- One region was made, and so many bytes of it can be reached: that call isn't listed either.
pub record IsMadeFor (l : Layout) (size : ℕ) (old new : MakerTold) : Type 0 where
  pub fits : layout_len l < 2 ^ 64
  pub made : IsMadeRegion old new
  pub first : IfSome (plan_for (next_name old) old) (λ plan. true ≡ passes plan (first_call l size) (region_for old l))

-- the making failed: that raised the maker's count, and is listed
pub record MakingFails (old new : MakerTold) : Type 0 where
  pub rose : Rose old.faults new.faults
  pub behind : RaisesBehind (fails_making (next_name old) old.listed) old.behind new.behind making.PageFault
  pub planned : IfSome old.plan (λ plan. fails_making (next_name old) plan ≡ true)

-- the making succeeded, and the first call on the region failed, which is listed
pub record FirstCallFails (l : Layout) (size : ℕ) (old new : MakerTold) : Type 0 where
  pub made : IsMadeRegion old new
  pub first : IfSome (plan_for (next_name old) old) (λ plan. false ≡ passes plan (first_call l size) (region_for old l))

-- memory was wanting, which raises no count
pub record MemoryWants (old new : MakerTold) : Type 0 where
  pub faults : new.faults ≡ old.faults
  pub behind : new.behind ≡ old.behind

-- the region was asked for, and wasn't made
abbrev pub RegionRefusedBy : MakeFault → MakerTold → MakerTold → Type 0
RegionRefusedBy making.Memory old new = MemoryWants old new
RegionRefusedBy making.PageFault old new = MakingFails old new

-- A region was asked for and isn't there: for want of memory, or for a page fault that has its cause in the maker.
pub record IsRegionRefused (fault : MakeFault) (old new : MakerTold) : Type 0 where
  pub asked : IsAsked old new
  pub cause : RegionRefusedBy fault old new

-- Why no memory was made in a region: want of memory, a failed making, or a failed first call.
abbrev pub RefusedBy : MakeFault → Layout → ℕ → MakerTold → MakerTold → Type 0
RefusedBy making.Memory l size old new = MemoryWants old new
RefusedBy making.PageFault l size old new = MakingFails old new ⊎ FirstCallFails l size old new

-- the region was asked for once, and isn't there
pub record IsRefusedFor (fault : MakeFault) (l : Layout) (size : ℕ) (old new : MakerTold) : Type 0 where
  pub fits : layout_len l < 2 ^ 64
  pub asked : IsAsked old new
  pub cause : RefusedBy fault l size old new

-- What a move to a region of this layout leaves of the maker, by what failed. A region that would be longer than
-- addresses reach isn't asked for.
abbrev pub MoveLeaves : Option GrowError → Layout → ℕ → Storage → MakerTold → MakerTold → Type 0
MoveLeaves None l size place old new = IsMadeFor l size old new × OnlyWritten (slot_for old l size) (slot_in place)
MoveLeaves (Some failed.PageFault) l size place old new = IsRefusedFor making.PageFault l size old new
MoveLeaves (Some failed.Memory) l size place old new = IsRefusedFor making.Memory l size old new
MoveLeaves (Some failed.Overflow) l size place old new = (2 ^ 64 ≤ layout_len l) × (new ≡ old)
MoveLeaves (Some failed.TypeLimit) l size place old new = ⊥
MoveLeaves (Some failed.MaximumExceeded) l size place old new = ⊥

-- What a growth leaves of the maker: a memory in a region may ask it for a larger one, one in a list of bytes doesn't.
abbrev pub PlaceLeaves : Option GrowError → ℕ → ℕ → Storage → Storage → MakerTold → MakerTold → Type 0
PlaceLeaves failure size extra (in_slot s) new before after = MoveLeaves failure (moved_layout size extra (layout_of s)) size new before after
PlaceLeaves failure size extra (stored len bytes) new before after = after ≡ before

-- the maker isn't called in place
abbrev pub CallLeaves : Bool → Option GrowError → ℕ → Linear → Linear → MakerTold → MakerTold → Type 0
CallLeaves false failure size old new before after = after ≡ before
CallLeaves true failure size old new before after = PlaceLeaves failure size old.extra old.storage new.storage before after

-- A memory tells of the maker that it may move by, or nothing where it never calls it.
abbrev pub IfMaker : (MakerTold → MakerTold → Type 0) → Option MakerTold → Option MakerTold → Type 0
IfMaker Leaves None None = Unit {0}
IfMaker Leaves None (Some after) = ⊥
IfMaker Leaves (Some before) None = ⊥
IfMaker Leaves (Some before) (Some after) = Leaves before after

-- What a call of the pages for a size leaves of the maker, by what failed.
abbrev pub MakerLeft : Option GrowError → ℕ → Linear → Linear → Option MakerTold → Option MakerTold → Type 0
MakerLeft failure size old new before after = IfMaker (CallLeaves (nat_lt old.capacity size) failure size old new) before after

-- how the making of a memory leaves the maker, by what refused it
abbrev pub MakingLeaves : {X : Type 0} → Layout → ℕ → Result X MemoryError → MakerTold → MakerTold → Type 0
MakingLeaves l size (Ok x) old new = IsMadeFor l size old new
MakingLeaves l size (Err refused.Memory) old new = IsRefusedFor making.Memory l size old new
MakingLeaves l size (Err refused.PageFault) old new = IsRefusedFor making.PageFault l size old new
MakingLeaves l size (Err (refused.Unsupported u)) old new = (u ≡ AddressSpace) × ((2 ^ 64 ≤ layout_len l) × (new ≡ old))
MakingLeaves l size (Err (refused.LimiterDenied min)) old new = ⊥
MakingLeaves l size (Err (refused.LimiterFault e)) old new = ⊥
