-- What a caller asks with.
use Rattle.std.specs.Prelude.{ℕ, ◌<◌, length, None, IfSome}
use Rattle.pool_types.specs.declared.module_types.MemoryType.{MemoryType}
use Rattle.pool_types.specs.declared.table_type.TableType.{TableType}
use Rattle.pool_table.specs.Elements.{Element, ElementKind, empty}
use Rattle.pool_table.specs.Making.{kind_of}
use Rattle.pool_alloc.specs.PlainModules.{MemoryAsked}
use Rattle.pool_alloc.specs.Requests.{AreImagesOf, IsModule}
use Rattle.pool_alloc.specs.declared.pool_core.Settings.{Settings}
use Rattle.pool_alloc.specs.declared.frame.ModuleCall.{ModuleCall}

-- The module has a memory, and its images are those that are made of it where regions have pages of this size.
pub record IsRequest (page : ℕ) (call : ModuleCall) : Type 0 where
  pub is : IsModule call.info
  pub some : 0 < length call.info.memories
  pub images : IfSome call.images (AreImagesOf page call.info)

-- A memory of this type without an image, which may have any slot.
abbrev pub plain_memory : MemoryType → MemoryAsked
plain_memory ty = record { ty = ty; image = None; affine = None }

-- What a table of this type has in a pool with these settings: functions, which may be initialised when they are first read, GC references or
-- continuations.
abbrev pub kind_made : Settings → TableType → ElementKind
kind_made s ty = kind_of ty.element s.tunables.tunables.table_lazy_init

-- What such a table has where nothing was set yet.
abbrev pub empty_element : Settings → TableType → Element
empty_element s ty = empty (kind_made s ty)
