-- What sources and sinks tell of themselves, and what a read and a write do to that.
use Rattle.std.specs.Prelude.{◌≡◌, ℕ, ◌<◌, ◌≤◌, List, [], ◌++◌, length, take, drop, Option, IfSome, option_map}
use Rattle.pool_types.specs.Rising.{Rose}

-- the bytes that a source still gives, where it tells them, and how many of its reads failed
pub record SourceTold : Type 0 where
  pub rest : Option (List ℕ)
  pub faults : ℕ

-- the bytes that a sink took so far, where it tells them, and how many of its writes failed
pub record SinkTold : Type 0 where
  pub taken : Option (List ℕ)
  pub faults : ℕ

-- the first n bytes of the rest stand at the front of the piece, and none only at the end or for an empty piece
pub record GaveFirst (n : ℕ) (rest before after : List ℕ) : Type 0 where
  pub there : n ≤ length rest
  pub piece : after ≡ take n rest ++ drop n before
  pub at_end : n ≡ 0 → 0 < length before → rest ≡ []

-- a read gave n bytes
pub record Gave (n : ℕ) (before after : List ℕ) (old new : SourceTold) : Type 0 where
  pub fits : n ≤ length before
  pub faults : new.faults ≡ old.faults
  pub rest : new.rest ≡ option_map (drop n) old.rest
  pub bytes : IfSome old.rest (λ rest. GaveFirst n rest before after)

-- a read failed
pub record ReadFailed (old new : SourceTold) : Type 0 where
  pub faults : Rose old.faults new.faults
  pub rest : new.rest ≡ old.rest

-- a write took the first n bytes of the piece
pub record Took (n : ℕ) (piece : List ℕ) (old new : SinkTold) : Type 0 where
  pub fits : n ≤ length piece
  pub taken : new.taken ≡ option_map (λ bytes. bytes ++ take n piece) old.taken
  pub faults : 0 < n → new.faults ≡ old.faults
  pub nothing : n ≡ 0 → 0 < length piece → Rose old.faults new.faults
  pub empty : length piece ≡ 0 → new.faults ≡ old.faults

-- a write failed
pub record WriteFailed (old new : SinkTold) : Type 0 where
  pub faults : Rose old.faults new.faults
  pub taken : new.taken ≡ old.taken

-- how many bytes an input may have
abbrev pub most_input : ℕ
most_input = 67108864

-- All that the source had left was read, and it is at most so much.
pub record ReadWhole (bytes : List ℕ) (old new : SourceTold) : Type 0 where
  pub fits : length bytes ≤ most_input
  pub faults : new.faults ≡ old.faults
  pub whole : IfSome old.rest (λ rest. bytes ≡ rest)
  pub ended : new.rest ≡ option_map (λ rest. []) old.rest

-- more was read than an input may have
pub record ReadTooMuch (old new : SourceTold) : Type 0 where
  pub faults : new.faults ≡ old.faults
  pub more : IfSome old.rest (λ rest. most_input < length rest)

-- all of the text was written
pub record Wrote (text : List ℕ) (old new : SinkTold) : Type 0 where
  pub taken : new.taken ≡ option_map (λ bytes. bytes ++ text) old.taken
  pub faults : new.faults ≡ old.faults

-- the text was written up to a place before its end, and then a write failed
pub record WrotePart (text : List ℕ) (old new : SinkTold) : Type 0 where
  pub taken : (n : ℕ) × (n < length text) × (new.taken ≡ option_map (λ bytes. bytes ++ take n text) old.taken)
  pub faults : Rose old.faults new.faults
