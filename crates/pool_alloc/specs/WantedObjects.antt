-- What a request is for, one thing after the other.
use Rattle.std.specs.Prelude.{List, [], ◌∷◌, Option, None}
use Rattle.pool_alloc.specs.Imports.{MemoryDecl, TableType, Image}

-- a memory, and the image that it begins with
pub record MemoryWant : Type 0 where
  pub decl : MemoryDecl
  pub image : Option Image

-- One thing that a request is for: a memory, a table, a stack or a heap.
pub data Want : Type 0 where
  new_memory : MemoryWant → Want
  new_table : TableType → Want
  new_stack : Want
  new_heap : Want

-- these memories, each with its image, if one is given
abbrev pub wants_from : List MemoryDecl → List (Option Image) → List MemoryWant
wants_from [] images = []
wants_from (decl ∷ decls) [] = record { decl = decl; image = None } ∷ wants_from decls []
wants_from (decl ∷ decls) (image ∷ images) = record { decl = decl; image = image } ∷ wants_from decls images
