-- A shared memory with its parking spot: what each call answers and leaves.
use Rattle.std.specs.Prelude.{◌≡◌, ℕ, ◌+◌, ◌==◌, Bool, true, false, ◌&&◌, ◌||◌, not, List, [], length, min, slice_range, if◌then◌else◌, Option, Some, None, IfSome, option_map, Result, Ok, Err}
use Rattle.std.specs.Int.{Width, byte_len, from_le_bytes}
use Rattle.pool_pages.specs.MakerTold.{MakerTold}
use Rattle.pool_types.specs.MemoryTypes.{minimum_byte_size, refused_limits, allow_growth_to}
use Rattle.pool_types.specs.declared.module_types.MemoryType.{MemoryType}
use Rattle.pool_types.specs.declared.module_types.MemoryTunables.{MemoryTunables}
use Rattle.pool_types.specs.declared.unsupported.Unsupported.{Unsupported}
use Rattle.pool_types.specs.declared.unsupported.Unsupported.TheVariants.{NotShared}
use Rattle.pool_limits.specs.declared.errors.GrowError.TheVariants as failed
use Rattle.pool_limits.specs.declared.errors.GrowFault.{GrowFault}
use Rattle.pool_limits.specs.declared.errors.Trap.{Trap}
use Rattle.pool_memory.specs.Atomics.{atomic_answer}
use Rattle.pool_memory.specs.Growing.{GrowsTo, IsUngrown, grown_size, past_room}
use Rattle.pool_memory.specs.Layouts.{Layout, first_layout}
use Rattle.pool_memory.specs.Linear.{Linear}
use Rattle.pool_memory.specs.Making.{limits_answer, maximum_asked}
use Rattle.pool_memory.specs.Mapped.{Mapped, mapped_linear, mapped_refusal, extra_on_growth}
use Rattle.pool_memory.specs.Memories.{MemoryState, bytes_of}
use Rattle.pool_memory.specs.Moving.{MakingLeaves, slot_for}
use Rattle.pool_memory.specs.declared.memory_error.MemoryError.{MemoryError}
use Rattle.pool_memory.specs.declared.memory_error.MemoryError.TheVariants as refused
use Rattle.pool_shared.specs.Spot.{parked_at, wait_answer, after_wait, after_notify}
use Rattle.pool_shared.specs.declared.waiting.Waiting.{Waiting}
use Rattle.pool_shared.specs.declared.wait_step.WaitStep.{WaitStep}
use Rattle.pool_shared.specs.declared.wait_step.WaitStep.TheVariants as answer
use Rattle.pool_shared.specs.declared.wait_fault.WaitFault.{WaitFault}
use Rattle.pool_shared.specs.declared.wait_fault.WaitFault.TheVariants as fault

-- the memory, and who waits on its words
pub record Shared : Type 0 where
  pub memory : MemoryState
  pub spot : List Waiting

-- what is kept of it: its type is that of a shared memory, and it stays where it is
pub record IsShared (s : Shared) : Type 0 where
  pub shared : s.memory.ty.shared ≡ true
  pub fixed : s.memory.may_move ≡ false

-- the address of a word of this width: a multiple of it, within the memory
abbrev pub word_address : Width → ℕ → Shared → Result ℕ Trap
word_address width addr s = atomic_answer s.memory.linear.size addr (byte_len width) (byte_len width)

-- the word at an address, where the memory tells its bytes; the lowest byte comes first
abbrev pub word_at : Width → ℕ → MemoryState → Option ℕ
word_at width addr m = option_map (λ bytes. from_le_bytes width (slice_range bytes addr (addr + byte_len width))) (bytes_of m)

-- the comparison of the word with the expected one came out so
abbrev pub IsCompared : Bool → ℕ → Option ℕ → Type 0
IsCompared same expected word = IfSome word (λ w. same ≡ (w == expected))

-- A wait at an address of a word, of which the comparison came out so. It finds no memory only where it would park.
abbrev pub WaitsAt : ℕ → ℕ → Bool → Option ℕ → ℕ → Shared → Shared → Result WaitStep WaitFault → Type 0
WaitsAt addr waiter same deadline now old new (Ok step) = (step ≡ wait_answer same deadline now) × (new ≡ record old { spot = after_wait addr waiter same deadline now old.spot })
WaitsAt addr waiter same deadline now old new (Err fault.Memory) = (wait_answer same deadline now ≡ answer.Parked) × (new ≡ old)
WaitsAt addr waiter same deadline now old new (Err (fault.Trap trap)) = ⊥

-- A wait: where its address isn't one of a word it traps, and nothing changes. Otherwise the word is compared with the
-- expected one, the deadline with the time, and the waiter is entered where it parks.
abbrev pub Waits : Width → Result ℕ Trap → ℕ → ℕ → Option ℕ → ℕ → Shared → Shared → Result WaitStep WaitFault → Type 0
Waits width (Err trap) waiter expected deadline now old new result = (result ≡ Err (fault.Trap trap)) × (new ≡ old)
Waits width (Ok addr) waiter expected deadline now old new result = (same : Bool) × (IsCompared same expected (word_at width addr old.memory) × WaitsAt addr waiter same deadline now old new result)

-- how many waiters a notify marks
abbrev pub notify_answer : Result ℕ Trap → ℕ → List Waiting → Result ℕ Trap
notify_answer (Err trap) n spot = Err trap
notify_answer (Ok addr) n spot = Ok (min n (length (parked_at addr spot)))

-- The waits after a notification: a trap leaves them as they were.
abbrev pub after_notify_at : Result ℕ Trap → ℕ → List Waiting → List Waiting
after_notify_at (Err trap) n spot = spot
after_notify_at (Ok addr) n spot = after_notify addr n spot

-- the type, the maximum or the room forbids a growth by so many pages
abbrev pub is_forbidden : ℕ → MemoryState → Bool
is_forbidden pages m = not (allow_growth_to m.ty (grown_size pages m)) || past_room (grown_size pages m) m

-- The pages are asked for a size: the memory has it then, or a call on them failed.
abbrev pub PagesGrow : ℕ → Linear → Linear → Result (Option (ℕ × ℕ)) GrowFault → Type 0
PagesGrow size old new (Ok (Some sizes)) = (sizes ≡ (old.size, size)) × GrowsTo size old new
PagesGrow size old new (Ok None) = IsUngrown failed.PageFault size old new
PagesGrow size old new (Err e) = ⊥

-- A growth that is forbidden answers that it didn't grow and leaves the memory; else it ends as the call on the pages
-- does.
abbrev pub GrowsUnless : Bool → ℕ → Linear → Linear → Result (Option (ℕ × ℕ)) GrowFault → Type 0
GrowsUnless true size old new result = (result ≡ Ok None) × (new ≡ old)
GrowsUnless false size old new result = PagesGrow size old new result

-- A growth by nothing answers the size at once; another is tested first.
abbrev pub GrowsBy : Bool → Bool → ℕ → Linear → Linear → Result (Option (ℕ × ℕ)) GrowFault → Type 0
GrowsBy true forbidden size old new result = (result ≡ Ok (Some (old.size, old.size))) × (new ≡ old)
GrowsBy false forbidden size old new result = GrowsUnless forbidden size old new result

-- A growth by so many pages: by none it is granted at once; one that is forbidden changes nothing; otherwise the pages are
-- asked. No limiter is asked, and it is never an error.
abbrev pub Grows : ℕ → MemoryState → MemoryState → Result (Option (ℕ × ℕ)) GrowFault → Type 0
Grows pages old new result = GrowsBy (pages == 0) (is_forbidden pages old) (grown_size pages old) old.linear new.linear result

-- the first of two refusals
abbrev pub or_refused : Option Unsupported → Option Unsupported → Option Unsupported
or_refused None second = second
or_refused (Some u) second = Some u

-- shared memories aren't enabled, or the type isn't that of one
abbrev pub kind_refusal : Bool → MemoryType → Option Unsupported
kind_refusal enabled ty = if enabled && ty.shared then None else Some NotShared

-- The reason why a memory isn't supported, where that is why it wasn't made.
abbrev pub refusal_in : {X : Type 0} → Result X MemoryError → Option Unsupported
refusal_in (Ok x) = None
refusal_in (Err refused.Memory) = None
refusal_in (Err (refused.Unsupported u)) = Some u
refusal_in (Err (refused.LimiterDenied min)) = None
refusal_in (Err (refused.LimiterFault e)) = None
refusal_in (Err refused.PageFault) = None

-- a `u64` or the memory's addresses can't hold its minimum
abbrev pub minimum_refusal : MemoryType → Option Unsupported
minimum_refusal ty = refusal_in (limits_answer (Ok true) ty)

-- why a memory of this type isn't asked for: its kind, its limits, or its minimum
abbrev pub type_refusal : Bool → MemoryType → Option Unsupported
type_refusal enabled ty = or_refused (kind_refusal enabled ty) (or_refused (refused_limits ty.limits) (minimum_refusal ty))

-- The error says that a memory isn't supported, and why.
abbrev pub IsUnsupported : Option Unsupported → MemoryError → Type 0
IsUnsupported refusal refused.Memory = ⊥
IsUnsupported refusal (refused.Unsupported u) = refusal ≡ Some u
IsUnsupported refusal (refused.LimiterDenied min) = ⊥
IsUnsupported refusal (refused.LimiterFault e) = ⊥
IsUnsupported refusal refused.PageFault = ⊥

-- why a shared memory isn't supported, where regions have pages of this size
abbrev pub shared_refusal : Bool → ℕ → MemoryType → MemoryTunables → Option Unsupported
shared_refusal enabled page ty tunables = or_refused (type_refusal enabled ty) (mapped_refusal page tunables (minimum_byte_size ty))

-- what a making leaves of the maker: it is asked for one region, and not where the type is refused
abbrev pub MakingBy : {X : Type 0} → Option Unsupported → Layout → ℕ → Result X MemoryError → MakerTold → MakerTold → Type 0
MakingBy (Some u) layout minimum result old new = new ≡ old
MakingBy None layout minimum result old new = MakingLeaves layout minimum result old new

-- the region of a memory of this type is laid out so
abbrev pub layout_for : ℕ → MemoryType → MemoryTunables → Layout
layout_for page ty tunables = first_layout page tunables (minimum_byte_size ty)

-- the memory in the maker's next region, as it is made
abbrev pub first_mapped : MakerTold → MemoryType → MemoryTunables → Mapped
first_mapped maker ty tunables = record {
  slot = slot_for maker (layout_for maker.page ty tunables) (minimum_byte_size ty);
  size = minimum_byte_size ty;
  extra = extra_on_growth tunables (minimum_byte_size ty) (maximum_asked ty);
  as_made = true;
  known = true;
}

-- the shared memory as it is made: nobody waits
abbrev pub first_shared : MakerTold → MemoryType → MemoryTunables → Shared
first_shared maker ty tunables = record {
  memory = record { ty = ty; may_move = false; linear = mapped_linear (first_mapped maker ty tunables) };
  spot = [];
}

-- a memory that is to be shared, with nobody waiting, or a refusal
abbrev pub wrapped : Option Unsupported → MemoryState → Result Shared Unsupported
wrapped (Some u) memory = Err u
wrapped None memory = Ok (record { memory = memory; spot = [] })
