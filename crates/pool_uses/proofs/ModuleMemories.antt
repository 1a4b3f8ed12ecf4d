-- One memory of a module by itself has a type that makes sense, and its image fits it.
use Rattle.std.proofs.Common.{◌≡◌, ℕ, ◌<◌, List, refl, sym, subst, Option, Some, None, IfSome, option_map, slice_get, slice_index_or}
use Rattle.pool_images.specs.Images.{Image}
use Rattle.pool_images.specs.Slots.{FitsInto}
use Rattle.pool_types.specs.MemoryTypes.{minimum_byte_size}
use Rattle.pool_types.specs.declared.module_types.DefinedMemoryIndex.{DefinedMemoryIndex}
use Rattle.pool_types.specs.declared.module_types.MemoryDecl.{MemoryDecl}
use Rattle.pool_types.specs.declared.module_types.MemoryType.{MemoryType}
use Rattle.pool_alloc.specs.PlainModules.{ModuleAsked}
use Rattle.pool_alloc.specs.Requests.{AreImagesOf, IsMemoryOf, IsModule, image_at}
use Rattle.pool_alloc.specs.StepReads.{images_made}
use Rattle.pool_alloc.specs.declared.pool_core.Settings.{Settings}
use Rattle.pool_callers.proofs.Images.{images_fit}

image_made : (images : Option (List (Option Image))) (k : ℕ) → image_at images k ≡ slice_index_or (images_made images) k None
image_made None k = refl
image_made (Some images) k = refl

by_type : (Fits : MemoryType → Type 0) (o : Option MemoryDecl) (ty : MemoryType) → option_map (λ (d : MemoryDecl). d.ty) o ≡ Some ty → IfSome o (λ d. Fits d.ty) → Fits ty
by_type Fits None ty of fits = absurd cc
by_type Fits (Some d) ty of fits = subst Fits (let same : Some d.ty ≡ Some ty = of in cc) fits

pub memory_fits : (s : Settings) (m : ModuleAsked) (ty : MemoryType) (i : DefinedMemoryIndex) → 0 < s.page → IsModule m.info → IfSome m.images (AreImagesOf s.page m.info) → IsMemoryOf m.info ty i → (ty.page_size_log2 < 64) × IfSome (image_at m.images i.0) (FitsInto s.page (minimum_byte_size ty))
memory_fits s m ty i some' is are of =
    by_type (λ t. (t.page_size_log2 < 64) × IfSome (image_at m.images i.0) (FitsInto s.page (minimum_byte_size t))) (slice_get m.info.memories i.0) ty of
    (subst (λ (image : Option Image). IfSome (slice_get m.info.memories i.0) (λ d. (d.ty.page_size_log2 < 64) × IfSome image (FitsInto s.page (minimum_byte_size d.ty)))) (sym (image_made m.images i.0)) ((images_fit s m some' is are).0.each i.0))
