-- How many of a run's replies tell of a fault, where memories are made on demand, and how many different calls on regions on
-- demand a plan lists.
use Rattle.std.specs.Prelude.{◌≡◌, ℕ, ◌+◌, ◌-◌, ◌^◌, ◌≤◌, ◌==◌, ◌⊎◌, List, [], ◌∷◌, filter, count_by, nat_le, nat_lt, ◌&&◌, ◌||◌, if◌then◌else◌, Bool, true, false, Option, None, slice_get}
use Rattle.pool_run_on_demand.specs.Imports.{list_all, list_any, option_map_or, MakerTold, Planned, on_region, on_images, same_name, minimum_byte_size, MemoryTunables, GcHeap, MemoryType, OnDemand, one_if, GrowthRule, layout_len, first_layout, moved_layout, maximum_asked, extra_on_growth, PageFault, MemoryOp, grows, Act, requests, on_memory, act_of, GrowthEnd, has_grown, PrivateMemory, PrivateGrant, heap_grant, memories_named_in, PrivateState, Grants, grant_at, growth, size_wanted, Terms, with_grants, no_grants, Command, Reply, Grown, Refused, Alloc}
use Rattle.pool_slots.specs.declared.errors.AllocError.TheVariants as alloc
use Rattle.pool_run_on_demand.specs.OnDemand.{StepOnDemand}

-- the entry lists the making of a region on demand, or a call on one, whose number is this or a later one
abbrev pub is_from : ℕ → Planned → Bool
is_from next (on_region (OnDemand n) call) = nat_le next n
is_from next _ = false

-- two entries list the same
abbrev pub same_entry : Planned → Planned → Bool
same_entry (on_region of call) (on_region name other) = same_name name of && (call == other)
same_entry (on_images m) (on_images n) = m == n
same_entry _ _ = false

-- each different element once: of those that are the same, the last
abbrev pub once : {X : Type 0} → (X → X → Bool) → List X → List X
once same [] = []
once same (x ∷ xs) = if list_any (λ y. same y x) xs then once same xs else x ∷ once same xs

-- How many different makings of regions on demand, and calls on them, the plan lists from a number on.
abbrev pub listed_from : ℕ → List Planned → ℕ
listed_from next plan = count_by (is_from next) (once same_entry plan)

-- The numbers of regions on demand, and those of the calls on one, stand still at the last of their types, which no run gets
-- to. The entry is for a number before the last.
abbrev pub is_before_last : Planned → Bool
is_before_last (on_region (OnDemand n) call) = nat_lt n (2 ^ 32 - 1) && nat_lt call (2 ^ 64 - 1)
is_before_last _ = true

-- The plan lists no call by the last number that a count can have, which would stand for all later ones.
abbrev pub ends_before_last : List Planned → Bool
ends_before_last plan = list_all is_before_last plan

-- So many faults are as many as a plan lists different makings of regions on demand and calls on them, or fewer: of those from
-- a number on, and before the last numbers.
abbrev pub AreListed : ℕ → List Planned → ℕ → Type 0
AreListed next plan met = met ≤ listed_from next (filter is_before_last plan)

-- The plan is the maker's own list, or has no entry for a last number.
abbrev pub IsCounted : MakerTold → List Planned → Type 0
IsCounted maker plan = (plan ≡ maker.listed) ⊎ (ends_before_last plan ≡ true)

-- how long the region is that a memory of this type moves to for so many bytes
abbrev pub moved_len : ℕ → MemoryTunables → MemoryType → ℕ → ℕ
moved_len page tunables ty size = layout_len (moved_layout size (extra_on_growth tunables (minimum_byte_size ty) (maximum_asked ty)) (first_layout page tunables (minimum_byte_size ty)))

-- There can be a region for so many bytes of a memory of this type: the one that it is made in has room for them, or that to
-- which it moves lies within the address space.
abbrev pub has_region : ℕ → MemoryTunables → MemoryType → ℕ → Bool
has_region page tunables ty size = nat_le size (first_layout page tunables (minimum_byte_size ty)).capacity || nat_lt (moved_len page tunables ty size) (2 ^ 64)

-- nothing stands in the way of a growth
abbrev pub is_free : GrowthEnd → Bool
is_free has_grown = true
is_free _ = false

-- The reply is that to a growth that failed and was reported: none, or the limiter's error.
abbrev pub is_report : Reply → Bool
is_report (Grown None) = true
is_report (Refused (Alloc (alloc.LimiterFault e))) = true
is_report _ = false

-- A growth by so many pages met a fault: nothing stood in its way, there can be a region for it, and yet the memory hasn't
-- grown, which isn't for want of memory.
abbrev pub growth_met : ℕ → MemoryTunables → GrowthRule → ℕ → PrivateMemory → Reply → Bool
growth_met page tunables rule pages m reply = is_report reply && (is_free (growth rule false pages m).0 && has_region page tunables m.ty (size_wanted pages m))

-- how many faults an operation on a memory met
abbrev pub met_by : ℕ → MemoryTunables → GrowthRule → MemoryOp → PrivateMemory → Reply → ℕ
met_by page tunables rule (grows pages) m reply = one_if (growth_met page tunables rule pages m reply)
met_by page tunables rule op m reply = 0

-- the settings for the memory of a heap
abbrev pub for_heap : MemoryTunables → MemoryTunables
for_heap tunables = record tunables { kind = GcHeap }

-- How many faults an operation on a memory met; none where there is no such memory.
abbrev pub met_among : ℕ → MemoryTunables → GrowthRule → MemoryOp → Option PrivateMemory → Reply → ℕ
met_among page tunables rule op o reply = option_map_or (λ m. met_by page tunables rule op m reply) o 0

-- How many faults an operation on memory k of a grant met; a heap's memory goes by the settings of heaps.
abbrev pub met_in : ℕ → MemoryTunables → GrowthRule → MemoryOp → PrivateGrant → ℕ → Reply → ℕ
met_in page tunables rule op (heap_grant slot m) k reply = met_among page (for_heap tunables) rule op (slice_get (m ∷ []) k) reply
met_in page tunables rule op g k reply = met_among page tunables rule op (slice_get (memories_named_in g) k) reply

-- How many faults an operation on a live grant met; none where there is no such grant.
abbrev pub met_at : ℕ → MemoryTunables → GrowthRule → MemoryOp → Option PrivateGrant → ℕ → Reply → ℕ
met_at page tunables rule op o k reply = option_map_or (λ g. met_in page tunables rule op g k reply) o 0

-- A request met a fault: it was refused for one.
abbrev pub request_met : Reply → ℕ
request_met (Refused (Alloc PageFault)) = 1
request_met _ = 0

-- how many faults a command met that does this, by the grants before it and its reply
abbrev pub faults_met : Terms → Grants → Act → Reply → ℕ
faults_met t grants (requests wanted) reply = request_met reply
faults_met t grants (on_memory of k op) reply = met_at t.settings.page t.settings.tunables t.host.rule op (grant_at grants of) k reply
faults_met t grants _ reply = 0

-- Steps of commands, the first of which is command n, as those of a private run, and how many faults they met.
abbrev pub StepsMeeting : Terms → ℕ → List Command → List Reply → PrivateState → ℕ → PrivateState → Type 0
StepsMeeting t n commands [] s met end = (end ≡ s) × (met ≡ 0)
StepsMeeting t n [] (reply ∷ replies) s met end = ⊥
StepsMeeting t n (command ∷ commands) (reply ∷ replies) s met end =
    (mid : PrivateState) × (StepOnDemand t n s command reply mid
    × ((rest : ℕ) × ((met ≡ faults_met t s.grants (act_of command) reply + rest) × StepsMeeting t (n + 1) commands replies mid rest end)))

-- The replies are those of a run from no grant, to whatever state at its end, and met so many faults.
abbrev pub IsRunOnDemand : Terms → List Command → List Reply → ℕ → Type 0
IsRunOnDemand t commands replies met = (end : PrivateState) × StepsMeeting t 0 commands replies (with_grants (no_grants commands)) met end
