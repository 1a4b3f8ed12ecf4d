-- The bytes of a memory or of a stack as its party sees them; and a stack, and what each command on it makes of it.
use Rattle.std.specs.Prelude.{◌≡◌, ℕ, ◌+◌, ◌<◌, ◌≤◌, List, length, replicate, slice_range, Bool, true, is_some, Option, None, IfSome, option_map}
use Rattle.pool_run.specs.Imports.{put, MemoryOutOfBounds}
use Rattle.pool_slots.specs.declared.errors.AllocError.TheVariants as alloc
use Rattle.pool_run.specs.Acts.{MemoryOp, reads, writes, fills, grows, asks_size}
use Rattle.pool_run.specs.declared.reply.Reply.{Reply}
use Rattle.pool_run.specs.declared.reply.Reply.TheVariants.{Bytes, Done, Size, Grown, Refused, Trap}
use Rattle.pool_run.specs.declared.reply.Refusal.TheVariants.{Alloc}

-- The reply to a read from what has this size: so many bytes, which are its own, where those are told.
abbrev pub ReadsBytes : ℕ → Option (List ℕ) → ℕ → ℕ → Reply → Type 0
ReadsBytes size told at len (Bytes bytes) = (at + len ≤ size) × (length bytes ≡ len) × IfSome told (λ b. bytes ≡ slice_range b at (at + len))
ReadsBytes size told at len (Trap trap) = (trap ≡ MemoryOutOfBounds) × (size < at + len)
ReadsBytes size told at len (Refused refusal) = refusal ≡ Alloc alloc.Memory
ReadsBytes size told at len _ = ⊥

-- The reply to a write of so many bytes to what has this size, and what is there then: it is written, or, past its end,
-- as it was.
abbrev pub WritesBytes : {X : Type 0} → ℕ → ℕ → ℕ → X → X → X → Reply → Type 0
WritesBytes size at len written old new Done = (at + len ≤ size) × (new ≡ written)
WritesBytes size at len written old new (Trap trap) = (trap ≡ MemoryOutOfBounds) × (size < at + len) × (new ≡ old)
WritesBytes size at len written old new _ = ⊥

-- the stacks of a pool: how many slots for them it has, how many bytes each has, and whether they are zeroed before they are
-- granted again
pub record StackTerms : Type 0 where
  pub slots : ℕ
  pub size : ℕ
  pub zeroing : Bool

-- a live stack: the slot that its reply named, its size, and its bytes from the lowest on, where they are told
pub record PrivateStack : Type 0 where
  pub slot : ℕ
  pub size : ℕ
  pub bytes : Option (List ℕ)

-- A stack as it begins in this slot. Where stacks are zeroed its bytes are zeros. Otherwise they are what an earlier owner
-- left, which isn't said.
pub record BeginsStack (t : StackTerms) (tells : Bool) (at : ℕ) (s : PrivateStack) : Type 0 where
  pub slot : s.slot ≡ at
  pub size : s.size ≡ t.size
  pub told : is_some s.bytes ≡ tells
  pub whole : IfSome s.bytes (λ b. length b ≡ t.size)
  pub zeros : t.zeroing ≡ true → IfSome s.bytes (λ b. b ≡ replicate t.size 0)

-- the stack with bytes of it written
abbrev pub stack_written : ℕ → List ℕ → PrivateStack → PrivateStack
stack_written at new s = record s { bytes = option_map (put at new) s.bytes }

-- A write to a stack: a trap past its size, else the bytes are there.
abbrev pub StackWrites : ℕ → List ℕ → PrivateStack → PrivateStack → Reply → Type 0
StackWrites at bytes s new reply = WritesBytes s.size at (length bytes) (stack_written at bytes s) s new reply

-- What an operation makes of a live stack, and the reply: what it makes of a memory that can't grow.
abbrev pub StackMoves : MemoryOp → PrivateStack → PrivateStack → Reply → Type 0
StackMoves (reads at len) s new reply = ReadsBytes s.size s.bytes at len reply × (new ≡ s)
StackMoves (writes at bytes) s new reply = StackWrites at bytes s new reply
StackMoves (fills at len byte) s new reply = StackWrites at (replicate len byte) s new reply
StackMoves (grows pages) s new reply = (reply ≡ Grown None) × (new ≡ s)
StackMoves asks_size s new reply = (reply ≡ Size s.size) × (new ≡ s)
