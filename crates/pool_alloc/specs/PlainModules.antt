-- What is asked for, as plain data: the module of an instance, or one memory by itself.
use Rattle.std.specs.Prelude.{List, Option}
use Rattle.pool_alloc.specs.Imports.{ModuleInfo, CompiledModuleId, Image, MemoryType, MemoryInModule}

-- what it says of itself, the images of its memories where they are made, and its name
pub record ModuleAsked : Type 0 where
  pub info : ModuleInfo
  pub images : Option (List (Option Image))
  pub id : Option CompiledModuleId

-- the type of the memory, the image that it begins with, and the memory of a module to which its slot may be affine
pub record MemoryAsked : Type 0 where
  pub ty : MemoryType
  pub image : Option Image
  pub affine : Option MemoryInModule
