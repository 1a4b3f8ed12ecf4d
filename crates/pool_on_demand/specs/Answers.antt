-- What an allocation on demand answers, and what it leaves of the maker: the object's own refusal, with nothing asked of the
-- maker; or the object; or a refusal that may be given at any object.
use Rattle.std.specs.Prelude.{◌≡◌, ℕ, ◌^◌, ◌-◌, true, false, Option, Some, None, Result, Ok, Err, Bool, IfOk, IfErr, IfSome, IsSome, MatchResult}
use Rattle.pool_on_demand.specs.Imports.{MakerTold, Rose, risen, HasFaulted, MemoryError, TableError, HeapsTold, fails_next, AllocError}
use Rattle.pool_memory.specs.declared.memory_error.MemoryError.TheVariants as in_memory
use Rattle.pool_table.specs.declared.table_error.TableError.TheVariants as in_table
use Rattle.pool_slots.specs.declared.errors.AllocError.TheVariants as refusal

-- the index of what is in no slot
abbrev pub no_slot : ℕ
no_slot = 2 ^ 32 - 1

-- The refusals that may be given at any object, whatever it is: memory was wanting, which raises no count of the maker; or
-- a region, or a call on it, failed, which has its cause in the maker.
abbrev pub IsGiven : AllocError → MakerTold → MakerTold → Type 0
IsGiven refusal.Memory old new = (new.faults ≡ old.faults) × (new.behind ≡ old.behind)
IsGiven refusal.PageFault old new = HasFaulted old new
IsGiven _ old new = ⊥

-- what is granted, or refused so, where the object has no refusal of its own
abbrev pub GrantsOrGives : {X : Type 0} → (X → Type 0) → Result X AllocError → MakerTold → MakerTold → Type 0
GrantsOrGives Is (Ok x) old new = Is x × ((new.faults ≡ old.faults) × (new.behind ≡ old.behind))
GrantsOrGives Is (Err e) old new = IsGiven e old new

-- The object's own refusal, where it has one: then nothing is asked of the maker.
abbrev pub Allocates : {X : Type 0} → Option AllocError → (X → Type 0) → Result X AllocError → MakerTold → MakerTold → Type 0
Allocates (Some e) Is result old new = (result ≡ Err e) × (new ≡ old)
Allocates None Is result old new = GrantsOrGives Is result old new

-- The error of a memory's making as the allocator's refusal.
abbrev pub memory_refusal : MemoryError → AllocError
memory_refusal in_memory.Memory = refusal.Memory
memory_refusal (in_memory.Unsupported u) = refusal.Unsupported u
memory_refusal (in_memory.LimiterDenied min) = refusal.LimiterDenied false min
memory_refusal (in_memory.LimiterFault e) = refusal.LimiterFault e
memory_refusal in_memory.PageFault = refusal.PageFault

-- The error of a table's making as the allocator's refusal.
abbrev pub table_refusal : TableError → AllocError
table_refusal in_table.Memory = refusal.Memory
table_refusal (in_table.Unsupported u) = refusal.Unsupported u
table_refusal (in_table.LimiterDenied min) = refusal.LimiterDenied true min
table_refusal (in_table.LimiterFault e) = refusal.LimiterFault e

-- The same of what lies in a list, for which no maker is asked: memory alone may be wanting.
abbrev pub AllocatesListed : {X : Type 0} → Option AllocError → (X → Type 0) → Result X AllocError → Type 0
AllocatesListed (Some e) Is result = result ≡ Err e
AllocatesListed None Is result = MatchResult result Is (λ e. e ≡ refusal.Memory)

-- A heap is refused where memory was wanting, which raises no count of its maker, or where the making failed, which does.
abbrev pub IsHeapRefusal : ℕ → ℕ → AllocError → Type 0
IsHeapRefusal old new refusal.Memory = new ≡ old
IsHeapRefusal old new refusal.HeapFault = Rose old new
IsHeapRefusal old new _ = ⊥

-- A heap over the memory with this index, which is in no slot and which no store uses, or its refusal; and what that leaves
-- of its maker. One that tells which makings fail doesn't want memory.
pub record IsHeapTurn {X : Type 0} (memory : ℕ) (index_of memory_of : X → ℕ) (is_attached : X → Bool) (result : Result X AllocError) (old new : HeapsTold) : Type 0 where
  pub heap : IfOk result (λ lease. (index_of lease ≡ no_slot) × ((memory_of lease ≡ memory) × (is_attached lease ≡ false)))
  pub maker : new ≡ record old { made = risen old.made; faults = new.faults }
  pub faults : MatchResult result (λ _. new.faults ≡ old.faults) (IsHeapRefusal old.faults new.faults)
  pub planned : IfSome old.plan (λ plan. MatchResult result (λ _. fails_next plan old ≡ false) (λ e. e ≡ refusal.HeapFault → fails_next plan old ≡ true))
  pub wants : IsSome old.plan → IfErr result (λ e. e ≡ refusal.HeapFault)
