-- The region of a memory that is granted was erased no more often than its unit tells: a slot of which something is known isn't erased before
-- its next use.
use Rattle.std.specs.Prelude.{ℕ, ◌-◌, ◌^◌, ◌≤◌, min}
use Rattle.std.specs.List.{AllByRecursion}
use Rattle.pool_types.specs.Rising.{risen}
use Rattle.pool_pages.specs.Told.{Told}
use Rattle.pool_memory.specs.Memories.{slot_of}
use Rattle.pool_alloc.specs.Leases.{Lease}
use Rattle.pool_alloc.specs.declared.frame.Frame.{Frame}
use Rattle.pool_alloc.specs.declared.frame.Grant.{Grant}
use Rattle.pool_alloc.specs.declared.frame.Grant.TheVariants as grant
use Rattle.pool_alloc.specs.declared.frame.Object.TheVariants.{Memory}
use Rattle.pool_alloc.specs.declared.frame.Phase.{Phase}
use Rattle.pool_alloc.specs.declared.frame.Phase.TheVariants.{Empty, Instantiate, MakeMemory, CountObject}

-- How often a region was erased, as 64 bits count it.
abbrev pub erases_of : Told → ℕ
erases_of region = min region.calls.erase (2 ^ 64 - 1)

-- A memory's region was erased no more often than the second number of its unit says.
abbrev pub LeaseErased : Lease → Type 0
LeaseErased l = erases_of (slot_of l.memory).region ≤ l.numbers.erases

module _ {P H : Type 0} where
  -- The same of each memory of a grant.
  abbrev pub GrantErased : Grant P H → Type 0
  GrantErased (grant.Instance lease) = AllByRecursion LeaseErased lease.memories.items
  GrantErased grant.Component = Unit {0}
  GrantErased (grant.Memory lease) = LeaseErased lease
  GrantErased (grant.Table lease) = Unit {0}
  GrantErased (grant.Stack lease) = Unit {0}
  GrantErased (grant.Heap lease memory) = LeaseErased memory
  GrantErased (grant.HeapOver lease) = Unit {0}

  -- The same of the region that a call for a memory has in hand; one that is emptied next may be erased once more.
  abbrev pub PhaseErased : Phase P H → Type 0
  PhaseErased (Empty at held) = risen held.region.calls.erase ≤ at.numbers.erases
  PhaseErased (Instantiate at held) = erases_of held.region ≤ at.numbers.erases
  PhaseErased (MakeMemory at held) = erases_of held.region ≤ at.numbers.erases
  PhaseErased (CountObject (Memory lease)) = LeaseErased lease
  PhaseErased _ = Unit {0}

  -- The same of all memories that a call has and is to be granted.
  pub record FrameErased (f : Frame P H) : Type 0 where
    pub objects : AllByRecursion LeaseErased f.objects.memories.items
    pub hand : PhaseErased f.phase
