-- The images of a module, and the bytes that a memory begins with.
use Rattle.std.specs.Prelude.{ℕ, ◌+◌, ◌-◌, ◌%◌, ◌==◌, ◌&&◌, List, [], ◌∷◌, ◌++◌, length, replicate, Bool, true, nat_le, if◌then◌else◌, Option, Some, None, is_some, option_map, option_and_then}
use Rattle.std.specs.Option.{option_map_or}
use Rattle.std.specs.List.{list_any}
use Rattle.pool_types.specs.Count.{rounded_up}
use Rattle.pool_pages.specs.Contents.{put}
use Rattle.pool_pages.specs.MakerTold.{Planned, fails_images}
use Rattle.pool_types.specs.MemoryTypes.{minimum_byte_size}
use Rattle.pool_types.specs.declared.module_types.CompiledModuleId.{CompiledModuleId}
use Rattle.pool_types.specs.declared.module_types.DefinedMemoryIndex.{DefinedMemoryIndex}
use Rattle.pool_types.specs.declared.module_types.ImageDecl.{ImageDecl}
use Rattle.pool_types.specs.declared.module_types.MemoryDecl.{MemoryDecl}
use Rattle.pool_types.specs.declared.unsupported.Unsupported.{Unsupported}
use Rattle.pool_types.specs.declared.unsupported.Unsupported.TheVariants.{ImageOffset, ImageLength}

-- the image of a module's memory: whole pages of bytes, at an offset
pub record Image : Type 0 where
  pub id : CompiledModuleId
  pub memory : DefinedMemoryIndex
  pub page : ℕ
  pub offset : ℕ
  pub bytes : List ℕ

-- what of an image is no multiple of the page: its offset, or else its length
abbrev pub misaligned : ℕ → ℕ → ℕ → Option Unsupported
misaligned page offset len = if offset % page == 0 then (if len % page == 0 then None else Some (ImageLength len)) else Some (ImageOffset offset)

-- the first n bytes of a memory that begins with this image: its bytes at its offset, and zeros elsewhere
abbrev pub start : Option Image → ℕ → List ℕ
start None n = replicate n 0
start (Some image) n = put image.offset image.bytes (replicate n 0)

-- the bytes with zeros behind them, up to whole pages
abbrev pub padded : ℕ → List ℕ → List ℕ
padded page bytes = bytes ++ replicate (rounded_up page (length bytes) - length bytes) 0

-- the image that a module declares for a memory
abbrev pub image_of : CompiledModuleId → ℕ → ℕ → ImageDecl → Image
image_of id page memory decl = record { id = id; memory = record { 0 = memory }; page = page; offset = decl.offset; bytes = padded page decl.bytes }

-- the images of a module's memories, of which the first has this number
abbrev pub images_from : CompiledModuleId → ℕ → ℕ → List MemoryDecl → List (Option Image)
images_from id page memory [] = []
images_from id page memory (decl ∷ decls) = option_map (image_of id page memory) decl.image ∷ images_from id page (memory + 1) decls

-- the offset of the memory's image, where that is inside a page
abbrev pub misplaced : ℕ → MemoryDecl → Option ℕ
misplaced page decl = option_and_then (λ image. if image.offset % page == 0 then None else Some image.offset) decl.image

-- the first such offset
abbrev pub first_misplaced : ℕ → List MemoryDecl → Option ℕ
first_misplaced page [] = None
first_misplaced page (decl ∷ decls) = if is_some (misplaced page decl) then misplaced page decl else first_misplaced page decls

-- the memory's image, if it has one, ends within the memory's minimum
abbrev pub ends_in_minimum : ℕ → MemoryDecl → Bool
ends_in_minimum page decl = option_map_or (λ image. nat_le (image.offset + rounded_up page (length image.bytes)) (minimum_byte_size decl.ty)) decl.image true

-- some memory has an image, and the making of this module's images is listed as one that fails
abbrev pub makes_listed_images : CompiledModuleId → List Planned → List MemoryDecl → Bool
makes_listed_images id plan decls = list_any (λ decl. is_some decl.image && fails_images id.0 plan) decls
