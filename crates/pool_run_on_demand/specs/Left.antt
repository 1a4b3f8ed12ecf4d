-- What is left of the different calls that a maker's plan lists on regions on demand, and what a call leaves of that: no fewer
-- are left before than faults are met and calls are left after.
use Rattle.std.specs.Prelude.{◌≡◌, ℕ, ◌+◌, ◌-◌, ◌^◌, ◌≤◌, ◌==◌, List, All, count_by, sum_by, nat_lt, Bool, true, Option, Some, None, IfSome, Result, Ok, Err, slice_get}
use Rattle.pool_run_on_demand.specs.Imports.{list_all, option_map_or, MakerTold, Planned, minimum_byte_size, MemoryTunables, MemoryType, Slot, GrowthRule, layout_len, layout_of, first_layout, moved_layout, Storage, in_slot, stored, MemoryState, state_of, AllocError, PageFault, PlainHeap, OnDemandHeap, OnDemandInstance, OnDemandMemory, MemoryOp, Act, grant_at, Terms, Reply}
use Rattle.pool_run_on_demand.specs.Faults.{once, listed_from, ends_before_last, moved_len, for_heap, met_by, met_in, met_at, request_met, faults_met}
use Rattle.pool_run_on_demand.specs.Seen.{seen_made, seen_lease, seen_grant, grants_made}
use Rattle.pool_run_on_demand.specs.declared.grant.OnDemandGrant.{OnDemandGrant}
use Rattle.pool_run_on_demand.specs.declared.grant.OnDemandGrant.TheVariants.{Instance as instance, Heap as heap}

-- how many different calls on the region that fail are still to come
abbrev pub calls_left : Option (List ℕ) → ℕ → ℕ
calls_left None made = 0
calls_left (Some plan) made = count_by (λ call. nat_lt made call) (once (λ m n. m == n) plan)

-- How many listed calls are left on the region in which a memory lies; none for a list of bytes.
abbrev pub place_left : Storage → ℕ
place_left (in_slot s) = calls_left s.region.plan s.region.made
place_left (stored len bytes) = 0

-- How many listed calls are left on the region of a memory.
abbrev pub memory_left : MemoryState → ℕ
memory_left m = place_left m.linear.storage

-- what memories are made by: the page and the settings, and the maker's plan
pub record Laying : Type 0 where
  pub page : ℕ
  pub tunables : MemoryTunables
  pub plan : Option (List Planned)

-- What the memories of a run on demand are made by.
abbrev pub laying_of : Terms → MakerTold → Laying
laying_of t maker = record { page = t.settings.page; tunables = t.settings.tunables; plan = maker.plan }

-- What the memory of a heap is made by: the settings of heaps.
abbrev pub laid_for_heap : Laying → Laying
laid_for_heap y = record y { tunables = for_heap y.tunables }

-- Where the maker tells its plan, a region tells its calls that fail, none of which is the last that is numbered, if the plan
-- has none such.
abbrev pub EndBeforeLast : Option (List Planned) → Option (List ℕ) → Type 0
EndBeforeLast None calls = Unit {0}
EndBeforeLast (Some plan) None = ⊥
EndBeforeLast (Some plan) (Some calls) = ends_before_last plan ≡ true → list_all (λ call. nat_lt call (2 ^ 64 - 1)) calls ≡ true

-- How a region that the memory lies in is laid out follows from its type and the settings, and so does the length of the
-- region that it moves to. It has room for no less than the first one. The calls on it that fail are told where the maker's
-- plan is.
pub record LiesAsLaid (y : Laying) (ty : MemoryType) (extra capacity : ℕ) (s : Slot) : Type 0 where
  pub page : s.region.page ≡ y.page
  pub room : (first_layout y.page y.tunables (minimum_byte_size ty)).capacity ≤ capacity
  pub moves : (size : ℕ) → layout_len (moved_layout size extra (layout_of s)) ≡ moved_len y.page y.tunables ty size
  pub calls : EndBeforeLast y.plan s.region.plan

-- A memory in a region lies as it was laid out; of a list of bytes nothing is said.
abbrev pub LaidIn : Laying → MemoryType → ℕ → ℕ → Storage → Type 0
LaidIn y ty extra capacity (in_slot s) = LiesAsLaid y ty extra capacity s
LaidIn y ty extra capacity (stored len bytes) = Unit {0}

-- This memory lies as it was laid out.
abbrev pub IsLaid : Laying → MemoryState → Type 0
IsLaid y m = LaidIn y m.ty m.linear.extra m.linear.capacity m.linear.storage

-- So many faults were met between two states of the maker: with the entries that are left in live regions, `old` before and
-- `new` after, and those on later regions, its plan pays for them.
abbrev pub Spends : MakerTold → MakerTold → ℕ → ℕ → ℕ → Type 0
Spends before after met old new = IfSome before.plan (λ plan. ends_before_last plan ≡ true → met + (new + listed_from after.next plan) ≤ old + listed_from before.next plan)

-- an operation on a memory, by the settings, and its reply
abbrev pub MemorySpends : Bool → MemoryOp → GrowthRule → MakerTold → MakerTold → MemoryState → MemoryState → Reply → Type 0
MemorySpends tells op rule before after m new reply =
    (y : Laying) → y.plan ≡ before.plan → IsLaid y m → IsLaid y new × Spends before after (met_by y.page y.tunables rule op (seen_made tells m) reply) (memory_left m) (memory_left new)

-- 1 for a refusal for a page fault.
abbrev pub refusal_met : AllocError → ℕ
refusal_met PageFault = 1
refusal_met _ = 0

module _ {M L : Type 0} where
  -- How many listed calls are left on the regions of these memories.
  abbrev pub leases_left : List (OnDemandMemory M L) → ℕ
  leases_left ls = sum_by (λ (l : OnDemandMemory M L). memory_left (state_of l.memory)) ls

  -- Each of these memories lies as it was laid out.
  abbrev pub AreLaid : Laying → List (OnDemandMemory M L) → Type 0
  AreLaid y ls = All (λ (l : OnDemandMemory M L). IsLaid y (state_of l.memory)) ls

  -- An operation on memory k of these: the listed calls that are left pay for the faults that it met.
  abbrev pub LeasesSpend : Bool → MemoryOp → GrowthRule → MakerTold → MakerTold → ℕ → List (OnDemandMemory M L) → List (OnDemandMemory M L) → Reply → Type 0
  LeasesSpend tells op rule before after k ls new reply =
      (y : Laying) → y.plan ≡ before.plan → AreLaid y ls
      → AreLaid y new × Spends before after (option_map_or (λ (l : OnDemandMemory M L). met_by y.page y.tunables rule op (seen_lease tells l) reply) (slice_get ls k) 0) (leases_left ls) (leases_left new)

  -- the making of a memory
  abbrev pub LeaseSpends : Laying → MakerTold → MakerTold → Result (OnDemandMemory M L) AllocError → Type 0
  LeaseSpends y before after (Ok l) = IsLaid y (state_of l.memory) × Spends before after 0 0 (memory_left (state_of l.memory))
  LeaseSpends y before after (Err e) = Spends before after (refusal_met e) 0 0

  -- The making of a heap with its memory: the listed calls that are left pay for a fault that it met.
  abbrev pub HeapSpends : Laying → MakerTold → MakerTold → Result (OnDemandHeap PlainHeap × OnDemandMemory M L) AllocError → Type 0
  HeapSpends y before after (Ok made) = IsLaid (laid_for_heap y) (state_of made.1.memory) × Spends before after 0 0 (memory_left (state_of made.1.memory))
  HeapSpends y before after (Err e) = Spends before after (refusal_met e) 0 0

module _ {M L P : Type 0} where
  -- How many listed calls are left on the regions of a grant's memories.
  abbrev pub grant_left : OnDemandGrant M L P → ℕ
  grant_left (instance g) = leases_left g.memories
  grant_left (heap lease memory) = memory_left (state_of memory.memory)
  grant_left _ = 0

  -- The memories of a grant lie as they were laid out; a heap's goes by the settings of heaps.
  abbrev pub IsLaidGrant : Laying → OnDemandGrant M L P → Type 0
  IsLaidGrant y (instance g) = AreLaid y g.memories
  IsLaidGrant y (heap lease memory) = IsLaid (laid_for_heap y) (state_of memory.memory)
  IsLaidGrant y _ = Unit {0}

  -- what is left in all live grants of a party
  abbrev pub live_left : List (Option (OnDemandGrant M L P)) → ℕ
  live_left live = sum_by (λ (o : Option (OnDemandGrant M L P)). option_map_or grant_left o 0) live

  -- The memories of all live grants lie as they were laid out.
  abbrev pub AreLaidLive : Laying → List (Option (OnDemandGrant M L P)) → Type 0
  AreLaidLive y live = All (λ (o : Option (OnDemandGrant M L P)). IfSome o (IsLaidGrant y)) live

  -- An operation on memory k of a grant: the listed calls that are left pay for the faults that it met.
  abbrev pub GrantSpends : Bool → MemoryOp → GrowthRule → MakerTold → MakerTold → ℕ → OnDemandGrant M L P → OnDemandGrant M L P → Reply → Type 0
  GrantSpends tells op rule before after k g new reply =
      (y : Laying) → y.plan ≡ before.plan → IsLaidGrant y g → IsLaidGrant y new × Spends before after (met_in y.page y.tunables rule op (seen_grant tells g) k reply) (grant_left g) (grant_left new)

  -- An operation on a live grant: the listed calls that are left pay for the faults that it met.
  abbrev pub LiveSpends : Bool → MemoryOp → GrowthRule → MakerTold → MakerTold → ℕ → ℕ → List (Option (OnDemandGrant M L P)) → List (Option (OnDemandGrant M L P)) → Reply → Type 0
  LiveSpends tells op rule before after of k live new reply =
      (y : Laying) → y.plan ≡ before.plan → AreLaidLive y live
      → AreLaidLive y new × Spends before after (met_at y.page y.tunables rule op (grant_at (grants_made tells live) of) k reply) (live_left live) (live_left new)

  -- What was done leaves as many listed calls on the memories of a grant, and these lie as before.
  abbrev pub KeepsMemories : OnDemandGrant M L P → OnDemandGrant M L P → Type 0
  KeepsMemories old new = (grant_left new ≡ grant_left old) × ((y : Laying) → IsLaidGrant y old → IsLaidGrant y new)

  -- What was done leaves as many listed calls on live grants, and these lie as before.
  abbrev pub KeepsLive : List (Option (OnDemandGrant M L P)) → List (Option (OnDemandGrant M L P)) → Type 0
  KeepsLive old new = (live_left new ≡ live_left old) × ((y : Laying) → AreLaidLive y old → AreLaidLive y new)

  -- what a request leaves, which is for live grants with one more, or for the same
  abbrev pub RequestSpends : Laying → MakerTold → MakerTold → List (Option (OnDemandGrant M L P)) → List (Option (OnDemandGrant M L P)) → Reply → Type 0
  RequestSpends y before after live new reply =
      AreLaidLive y live → AreLaidLive y new × Spends before after (request_met reply) (live_left live) (live_left new)

  -- what a command leaves that does this
  abbrev pub ActSpends : Terms → MakerTold → MakerTold → List (Option (OnDemandGrant M L P)) → Act → Reply → List (Option (OnDemandGrant M L P)) → Type 0
  ActSpends t before after live act reply new =
      AreLaidLive (laying_of t before) live
      → AreLaidLive (laying_of t before) new × Spends before after (faults_met t (grants_made t.tells live) act reply) (live_left live) (live_left new)

  -- the making of an instance
  abbrev pub InstanceSpends : Laying → MakerTold → MakerTold → Result (OnDemandInstance M L P) AllocError → Type 0
  InstanceSpends y before after (Ok g) = AreLaid y g.memories × Spends before after 0 0 (leases_left g.memories)
  InstanceSpends y before after (Err e) = Spends before after (refusal_met e) 0 0
