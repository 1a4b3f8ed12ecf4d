-- What a seat of an allocator has, and what a call adds to that or takes from it.
use Rattle.std.specs.Prelude.{◌≡◌, ℕ, List, ◌∷◌, Result, Ok, Err}

-- One of the things that a seat may have, by the types that the allocator grants: what was granted in it, or an instance that it has
-- counted without having it.
pub data Held (Memory Table Stack Heap Instance : Type 0) : Type 0 where
  memory_held : Memory → Held Memory Table Stack Heap Instance
  table_held : Table → Held Memory Table Stack Heap Instance
  stack_held : Stack → Held Memory Table Stack Heap Instance
  heap_held : Heap → Held Memory Table Stack Heap Instance
  instance_held : Instance → Held Memory Table Stack Heap Instance
  core_counted : Held Memory Table Stack Heap Instance
  component_counted : Held Memory Table Stack Heap Instance

-- The seat is one that makes no call, where it was one, and its regions have the page that they had.
pub record StaysSeat {S : Type 0} (fits : S → Type 0) (page : S → ℕ) (old new : S) : Type 0 where
  pub still : fits new
  pub same_page : page new ≡ page old

-- Of seats that have what another one has, and beside that these things
module _ {S X : Type 0} (holds : S → List X → S → Type 0) where
  -- The seat has what it had, and nothing else.
  abbrev pub KeepsHeld : S → S → Type 0
  KeepsHeld old new = (base : S) (held : List X) → holds base held old → holds base held new

  -- The seat has what was granted and what it had, and nothing else; where nothing was granted, it has what it had.
  abbrev pub GainsHeld : {A E : Type 0} → (A → X) → Result A E → S → S → Type 0
  GainsHeld of (Ok a) old new = (base : S) (held : List X) → holds base held old → holds base (of a ∷ held) new
  GainsHeld of (Err e) old new = KeepsHeld old new

  -- The seat has what it had beside this, and nothing else.
  abbrev pub LosesHeld : X → S → S → Type 0
  LosesHeld x old new = (base : S) (held : List X) → holds base (x ∷ held) old → holds base held new
