-- The module of which an instance is asked for.
use Rattle.std.specs.Prelude.{◌≡◌, length, slice_get, IfSome}
use Rattle.pool_alloc.specs.Imports.{MemoryDecl, TableType}
use Rattle.pool_alloc.specs.StepReads.{memories_wanted, tables_wanted}
use Rattle.pool_alloc.specs.declared.frame.Frame.{Frame}
use Rattle.pool_alloc.specs.declared.frame.Asked.{Asked}
use Rattle.pool_alloc.specs.declared.frame.Asked.TheVariants.{Module as module_asked}

-- where images are given, there is a place for each memory
abbrev pub HasImages : Asked → Type 0
HasImages (module_asked m) = IfSome m.images (λ images. length images ≡ length m.info.memories)
HasImages _ = Unit {0}

module _ {P H : Type 0} where
  -- the memory that is allocated
  abbrev pub IfAllocated : Frame P H → (MemoryDecl → Type 0) → Type 0
  IfAllocated f Q = IfSome (slice_get (memories_wanted f.asked) (length f.objects.memories.items)) Q

  -- Something holds of the table that is allocated next.
  abbrev pub IfTable : Frame P H → (TableType → Type 0) → Type 0
  IfTable f Q = IfSome (slice_get (tables_wanted f.asked) (length f.objects.tables.items)) Q
