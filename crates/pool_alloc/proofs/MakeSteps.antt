-- The steps that make a memory and a table, as the code makes them.
use Rattle.std.proofs.Common.{◌≡◌, ℕ, nat_le, Bool, true, false, refl, ap, ◌∙◌, Option, Some, None, Result, Ok, Err, IfSome, if◌then◌else◌}
use Rattle.pool_alloc.proofs.Imports.{MemoryDecl, MemoryType, InitialSize, LimiterError, Slot, Static, static_capacity, limits_answer, made_memory, made_within, static_answer, MemoryError, Told, TableType, AllocError}
use Rattle.pool_memory.specs.declared.memory.Memory.{Memory}
use Rattle.pool_alloc.specs.MemorySteps.{made_of, made_of_limits, made_for}
use Rattle.pool_alloc.specs.StepTable.{was_made, made_by, was_made_table, table_made_by}
use Rattle.pool_alloc.specs.TableLeases.{LeasedTable}
use Rattle.pool_alloc.specs.TableSteps.{handed_back, made_table}
use Rattle.pool_alloc.specs.declared.pool_core.PoolCore.{PoolCore}
use Rattle.pool_alloc.specs.declared.frame.Frame.{Frame}
use Rattle.pool_alloc.specs.declared.frame.TakenSlot.{TakenSlot}

module _ {P H : Type 0} (M L : Type 0) (at : TakenSlot) (held : Slot) (c : PoolCore P H) (f : Frame P H) where
  made_static_in : (b : Bool) (ty : MemoryType) (m : Static)
      → made_by {M = M} {L = L} at (made_memory ty (if b then Ok m else Err (held, InitialSize))) c f ≡ was_made at held (made_of ty (if b then Ok m else Err (held, InitialSize))) c f
  made_static_in true ty m = refl
  made_static_in false ty m = refl

  made_limits_in : (limits : Result (ℕ × Option ℕ) MemoryError) (ty : MemoryType) (room : ℕ)
      → made_by {M = M} {L = L} at (made_within limits ty room held) c f ≡ was_made at held (made_of_limits limits ty room held) c f
  made_limits_in (Err e) ty room = refl
  made_limits_in (Ok l) ty room = made_static_in (nat_le l.0 room) ty (record { slot = held; size = l.0; capacity = static_capacity room l.1 })

  pub made_in_code : (answer : Result Bool LimiterError) (room : ℕ) (o : Option MemoryDecl) (r : Result (Memory M L) (Slot × MemoryError))
      → IfSome o (λ decl. r ≡ static_answer answer decl.ty room held)
      → IfSome o (λ decl. made_by at r c f ≡ was_made at held (made_for room answer held o) c f)
  made_in_code answer room None r told = told
  made_in_code answer room (Some decl) r told = ap (λ (x : Result (Memory M L) (Slot × MemoryError)). made_by at x c f) told ∙ made_limits_in (limits_answer answer decl.ty) decl.ty room

module _ {P H : Type 0} (at : TakenSlot) (region : Told) (c : PoolCore P H) (f : Frame P H) where
  handed_in : (r : Result LeasedTable AllocError) → table_made_by at (handed_back region r) c f ≡ was_made_table at region r c f
  handed_in (Ok l) = refl
  handed_in (Err e) = refl

  pub table_in_code : (answer : Result Bool LimiterError) (o : Option TableType) (r : Result LeasedTable (Told × AllocError))
      → IfSome o (λ ty. r ≡ handed_back region (made_table c.settings answer at region (Some ty)))
      → IfSome o (λ ty. table_made_by at r c f ≡ was_made_table at region (made_table c.settings answer at region o) c f)
  table_in_code answer None r told = told
  table_in_code answer (Some ty) r told = ap (λ (x : Result LeasedTable (Told × AllocError)). table_made_by at x c f) told ∙ handed_in (made_table c.settings answer at region (Some ty))
