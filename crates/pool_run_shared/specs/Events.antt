-- What the events on a shared memory make of it and of those who wait on its words, and the replies. The memory is a list
-- of bytes that reads, writes and growths move as they do a private memory, without a limiter.
use Rattle.std.specs.Prelude.{◌≡◌, ℕ, ◌+◌, ◌^◌, List, length, min, nat_lt, Bool, if◌then◌else◌, Option, Some, None, option_map, slice_range, Result, Ok, Err}
use Rattle.std.specs.Int.{Width, w32, w64, byte_len, from_le_bytes}
use Rattle.pool_limits.specs.Growth.{always}
use Rattle.pool_limits.specs.declared.errors.Trap.{Trap as TrapCause}
use Rattle.pool_memory.specs.Atomics.{atomic_answer}
use Rattle.pool_shared.specs.Shared.{Shared, IsCompared}
use Rattle.pool_shared.specs.Spot.{parked_at, is_waiting, wait_answer, after_wait, recheck_answer, after_recheck, after_notify}
use Rattle.pool_shared.specs.declared.waiting.Waiting.{Waiting}
use Rattle.pool_run.specs.Acts.{reads, writes, asks_size}
use Rattle.pool_run.specs.Private.{PrivateMemory, MemoryMoves, grown_by}
use Rattle.pool_run.specs.Turns.{seen_as}
use Rattle.pool_run.specs.declared.reply.Reply.{Reply}
use Rattle.pool_run.specs.declared.reply.Reply.TheVariants as reply
use Rattle.pool_run_shared.specs.declared.input.SharedEvent.{SharedEvent}
use Rattle.pool_run_shared.specs.declared.input.SharedEvent.TheVariants.{Wait32, Wait64, Wake, Notify, Read, Write, Grow, Size}
use Rattle.pool_run_shared.specs.declared.reply.SharedReply.{SharedReply}
use Rattle.pool_run_shared.specs.declared.reply.SharedReply.TheVariants as answer

-- A shared memory as its events see it: its bytes, and who waits on its words. It lies in no slot of a pool, and has the
-- slot number 0.
pub record SharedView : Type 0 where
  pub memory : PrivateMemory
  pub spot : List Waiting

-- A shared memory as its events see it: a private memory, and the list of waits.
abbrev pub view_of : Shared → SharedView
view_of s = record { memory = seen_as 0 s.memory; spot = s.spot }

-- the time of a deadline, or none where 64 bits can't hold it
abbrev pub deadline_at : ℕ → Option ℕ
deadline_at time = if nat_lt time (2 ^ 64) then Some time else None

-- the deadline of a wait that begins now
abbrev pub deadline_of : ℕ → Option ℕ → Option ℕ
deadline_of now None = None
deadline_of now (Some timeout) = deadline_at (now + timeout)

-- the word of a width at an address, where the bytes are told; the lowest byte comes first
abbrev pub word_of : Width → ℕ → SharedView → Option ℕ
word_of width at v = option_map (λ bytes. from_le_bytes width (slice_range bytes at (at + byte_len width))) v.memory.bytes

-- a wait that its address allows: a waiter that is parked or marked is refused, and then the word is compared
abbrev pub begun_wait : Bool → ℕ → ℕ → Option ℕ → ℕ → SharedView → SharedView × SharedReply
begun_wait same waiter at deadline now v =
    if is_waiting waiter v.spot
    then (v, answer.WaiterBusy)
    else (record v { spot = after_wait at waiter same deadline now v.spot }, answer.Wait (wait_answer same deadline now))

-- the address of an access to a word of a width
abbrev pub word_address : Width → ℕ → SharedView → Result ℕ TrapCause
word_address width at v = atomic_answer v.memory.size at (byte_len width) (byte_len width)

-- A wait of the waiter on the word of a width, where its address is one: a trap comes first. Whether the word is the
-- expected one is given where the bytes aren't told.
abbrev pub WaitsOn : Width → Result ℕ TrapCause → ℕ → ℕ → Option ℕ → ℕ → SharedView → SharedView → SharedReply → Type 0
WaitsOn width (Err trap) waiter expect deadline now v new reply = ◌≡◌ {A = SharedView × SharedReply} (new, reply) (v, answer.Trap trap)
WaitsOn width (Ok at) waiter expect deadline now v new reply =
    (same : Bool) × IsCompared same expect (word_of width at v) × ((new, reply) ≡ begun_wait same waiter at deadline now v)

-- What a wait on a word of this width answers, and leaves.
abbrev pub Waits : Width → ℕ → ℕ → ℕ → ℕ → Option ℕ → SharedView → SharedView → SharedReply → Type 0
Waits width waiter at expect now timeout v new reply = WaitsOn width (word_address width at v) waiter expect (deadline_of now timeout) now v new reply

-- the waiter asks how its wait stands, if it has one
abbrev pub woken : ℕ → ℕ → SharedView → SharedView × SharedReply
woken waiter now v =
    if is_waiting waiter v.spot
    then (record v { spot = after_recheck waiter now v.spot }, answer.Wait (recheck_answer waiter now v.spot))
    else (v, answer.WaiterIdle)

-- the first of those that wait at the address are marked, where it is one of a word
abbrev pub notified : Result ℕ TrapCause → ℕ → SharedView → SharedView × SharedReply
notified (Err trap) count v = (v, answer.Trap trap)
notified (Ok at) count v = (record v { spot = after_notify at count v.spot }, answer.Notified (min count (length (parked_at at v.spot))))

-- the reply to a command on a private memory that says the same
abbrev pub as_reply : SharedReply → Option Reply
as_reply (answer.Bytes bytes) = Some (reply.Bytes bytes)
as_reply answer.Done = Some reply.Done
as_reply (answer.Grown old) = Some (reply.Grown old)
as_reply (answer.Size size) = Some (reply.Size size)
as_reply (answer.Trap trap) = Some (reply.Trap trap)
as_reply _ = None

-- the memory moves, with its reply, and nobody who waits is touched
abbrev pub MovesMemory : (PrivateMemory → PrivateMemory → Reply → Type 0) → SharedView → SharedView → SharedReply → Type 0
MovesMemory Moves v new reply =
    (memory : PrivateMemory) × (said : Reply) × Moves v.memory memory said × (as_reply reply ≡ Some said) × (new ≡ record v { memory = memory })

-- a growth by so many pages, where a call on the memory's pages fails or doesn't
abbrev pub Grows : Bool → ℕ → PrivateMemory → PrivateMemory → Reply → Type 0
Grows fault pages m new said = (new, said) ≡ grown_by always fault pages m

-- What an event makes of the memory and of those who wait, and its reply, where a call on the memory's pages fails in it or
-- doesn't.
abbrev pub Happens : SharedEvent → Bool → SharedView → SharedView → SharedReply → Type 0
Happens (Wait32 waiter at expect now timeout) fault v new reply = Waits w32 waiter at expect now timeout v new reply
Happens (Wait64 waiter at expect now timeout) fault v new reply = Waits w64 waiter at expect now timeout v new reply
Happens (Wake waiter now) fault v new reply = (new, reply) ≡ woken waiter now v
Happens (Notify at count) fault v new reply = (new, reply) ≡ notified (word_address w32 at v) count v
Happens (Read at len) fault v new reply = MovesMemory (MemoryMoves (reads at len) always) v new reply
Happens (Write at hex) fault v new reply = MovesMemory (MemoryMoves (writes at hex) always) v new reply
Happens (Grow pages) fault v new reply = MovesMemory (Grows fault pages) v new reply
Happens Size fault v new reply = MovesMemory (MemoryMoves asks_size always) v new reply
