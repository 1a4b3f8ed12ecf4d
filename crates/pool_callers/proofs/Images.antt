-- The images of a module, at the page of a pool, are ones with which its memories can begin there.
use Rattle.std.proofs.Common.{◌≡◌, ℕ, ◌+◌, ◌-◌, ◌<◌, Bool, true, false, zero, suc, List, [], ◌∷◌, length, replicate, refl, sym, ap, ◌∙◌, subst, arith, Option, Some, None, IfSome, ◌&&◌, nat_le, option_map, slice_get, slice_index_or, All}
use Rattle.std.proofs.lemmas.Bool.{leb-true}
use Rattle.std.proofs.lemmas.List.{length-append, length-replicate}
use Rattle.std.proofs.lemmas.List.Elements.{All-head, All-tail}
use Rattle.std.specs.List.{list_all}
use Rattle.std.specs.Option.{option_map_or}
use Rattle.pool_images.proofs.Begun.{rounded_up_above}
use Rattle.pool_images.specs.Images.{Image, ends_in_minimum, image_of, images_from, padded}
use Rattle.pool_images.specs.Slots.{FitsInto}
use Rattle.pool_types.specs.Count.{rounded_up}
use Rattle.pool_types.specs.MemoryTypes.{minimum_byte_size}
use Rattle.pool_types.specs.declared.module_types.CompiledModuleId.{CompiledModuleId}
use Rattle.pool_types.specs.declared.module_types.ImageDecl.{ImageDecl}
use Rattle.pool_types.specs.declared.module_types.MemoryDecl.{MemoryDecl}
use Rattle.pool_alloc.specs.BetweenSteps.{AreImagesOf as AreFitting}
use Rattle.pool_alloc.specs.Modules.{HasImages}
use Rattle.pool_alloc.specs.PlainModules.{ModuleAsked}
use Rattle.pool_alloc.specs.Requests.{AreImagesOf, IsModule}
use Rattle.pool_alloc.specs.StepReads.{images_made}
use Rattle.pool_alloc.specs.declared.frame.Asked.TheVariants.{Module as module_asked}
use Rattle.pool_alloc.specs.declared.pool_core.Settings.{Settings}

-- what is so of a memory and of its image
abbrev Begins : ℕ → Option Image → MemoryDecl → Type 0
Begins page image d = (d.ty.page_size_log2 < 64) × IfSome image (FitsInto page (minimum_byte_size d.ty))

abbrev Small : MemoryDecl → Type 0
Small d = d.ty.page_size_log2 < 64

fits_one : (id : CompiledModuleId) (k page initial : ℕ) (o : Option ImageDecl) → 0 < page → option_map_or (λ image. nat_le (image.offset + rounded_up page (length image.bytes)) initial) o true ≡ true → IfSome (option_map (image_of id page k) o) (FitsInto page initial)
fits_one id k page initial None some' ends = tt
fits_one id k page initial (Some i) some' ends =
    let more : List ℕ = replicate (rounded_up page (length i.bytes) - length i.bytes) 0 in
    let all : length (padded page i.bytes) ≡ length i.bytes + length more = length-append i.bytes more in
    let zeros : length more ≡ rounded_up page (length i.bytes) - length i.bytes = length-replicate (rounded_up page (length i.bytes) - length i.bytes) 0 in
    record {
      same_page = refl;
      inside = omega (arith, all, zeros, rounded_up_above page (length i.bytes) some', leb-true _ _ ends);
    }

both_true : (a b : Bool) → (a && b) ≡ true → (a ≡ true) × (b ≡ true)
both_true true b is = (refl, is)
both_true false b is = absurd (cc is)

fits_from : (id : CompiledModuleId) (n page : ℕ) (decls : List MemoryDecl) → 0 < page → All (λ d. d.ty.page_size_log2 < 64) decls → list_all (ends_in_minimum page) decls ≡ true → (k : ℕ) → IfSome (slice_get decls k) (Begins page (slice_index_or (images_from id page n decls) k None))
fits_from id n page [] some' small ends k = tt
fits_from id n page (d ∷ ds) some' small ends zero = (All-head Small d ds small, fits_one id n page (minimum_byte_size d.ty) d.image some' (both_true (ends_in_minimum page d) (list_all (ends_in_minimum page) ds) ends).0)
fits_from id n page (d ∷ ds) some' small ends (suc k) = fits_from id (n + 1) page ds some' (All-tail Small d ds small) (both_true (ends_in_minimum page d) (list_all (ends_in_minimum page) ds) ends).1 k

fits_none : (page : ℕ) (decls : List MemoryDecl) → All (λ d. d.ty.page_size_log2 < 64) decls → (k : ℕ) → IfSome (slice_get decls k) (Begins page (slice_index_or [] k None))
fits_none page [] small k = tt
fits_none page (d ∷ ds) small zero = (All-head Small d ds small, tt)
fits_none page (d ∷ ds) small (suc k) = fits_none page ds (All-tail Small d ds small) k

count_from : (id : CompiledModuleId) (page n : ℕ) (decls : List MemoryDecl) → length (images_from id page n decls) ≡ length decls
count_from id page n [] = refl
count_from id page n (d ∷ ds) = omega (arith, count_from id page (n + 1) ds)

module _ (s : Settings) (m : ModuleAsked) (some' : 0 < s.page) (is : IsModule m.info) where
  fit : (images : Option (List (Option Image))) → IfSome images (AreImagesOf s.page m.info) → AreFitting s m.info.memories (images_made images)
  fit None are = record { each = fits_none s.page m.info.memories is.types }
  fit (Some images) are = subst (λ (i : List (Option Image)). AreFitting s m.info.memories i) (sym are.1.0) (record { each = fits_from are.0 0 s.page m.info.memories some' is.types are.1.1 })

  all_there : (images : Option (List (Option Image))) → IfSome images (AreImagesOf s.page m.info) → IfSome images (λ i. length i ≡ length m.info.memories)
  all_there None are = tt
  all_there (Some images) are = ap length are.1.0 ∙ count_from are.0 s.page 0 m.info.memories

  pub images_fit : IfSome m.images (AreImagesOf s.page m.info) → AreFitting s m.info.memories (images_made m.images) × HasImages (module_asked m)
  images_fit are = (fit m.images are, all_there m.images are)
