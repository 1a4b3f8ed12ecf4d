-- How bytes are copied from the slot of a memory to another.
use Rattle.std.specs.Prelude.{◌≡◌, ℕ, ◌+◌, ◌≤◌, List, length, slice_range, IfSome, is_some, option_map}
use Rattle.pool_memory.specs.Imports.{put, Slot, IsReady}

-- the first n bytes of the slot can be read and written
pub record IsReadable (n : ℕ) (s : Slot) : Type 0 where
  pub reached : n ≤ s.accessible.bytes
  pub ready : IfSome s.region.contents (IsReady s)

-- only bytes of the slot were written
pub record OnlyWritten (old new : Slot) : Type 0 where
  pub tells : is_some new.region.contents ≡ is_some old.region.contents
  pub same : new ≡ record old { region = record old.region { contents = new.region.contents; marks = new.region.marks }; dirty = new.dirty }

-- Bytes from a place of one slot on were copied to the same place of the other, and nothing else of it changed.
pub record IsCopied (at len : ℕ) (from old new : Slot) : Type 0 where
  pub written : OnlyWritten old new
  pub ready : IfSome new.region.contents (IsReady new)
  pub bytes : List ℕ
  pub long : length bytes ≡ len
  pub told : IfSome from.region.contents (λ c. bytes ≡ slice_range c.bytes (from.base.bytes + at) (from.base.bytes + at + len))
  pub put : option_map (λ c. c.bytes) new.region.contents ≡ option_map (λ c. put (old.base.bytes + at) bytes c.bytes) old.region.contents
