-- The images of a module: there is one place for each memory, and each image is one that its memory can begin with.
use Rattle.std.proofs.Common.{◌≡◌, ℕ, ◌+◌, ◌-◌, ◌<◌, Bool, true, false, zero, suc, List, [], ◌∷◌, length, replicate, refl, sym, ap, ◌∙◌, subst, arith, Option, Some, None, IfSome, ◌&&◌, nat_le, option_map, slice_get, slice_index_or}
use Rattle.pool_on_demand.proofs.Imports.{list_all, option_map_or, leb-true, length-append, length-replicate, rounded_up, MakerTold, minimum_byte_size, CompiledModuleId, DefinedMemoryIndex, ImageDecl, MemoryType, MemoryDecl, ModuleInfo, Image, image_of, images_from, padded, ends_in_minimum, if_mapped, rounded_up_above, ImageOf, AreImagesOf, image_at, IsMemoryOf, image_for}
use Rattle.pool_on_demand.specs.Instances.{CanBegin}

count_from : (id : CompiledModuleId) (page n : ℕ) (decls : List MemoryDecl) → length (images_from id page n decls) ≡ length decls
count_from id page n [] = refl
count_from id page n (d ∷ ds) = omega (arith, count_from id page (n + 1) ds)

-- there is a place for each memory
as_many : (page : ℕ) (m : ModuleInfo) (images : List (Option Image)) → AreImagesOf page m images → length images ≡ length m.memories
as_many page m images are = ap length are.1.0 ∙ count_from are.0 page 0 m.memories

-- an image that ends within its memory's minimum is one that this can begin with
begins_of : (id : CompiledModuleId) (k : ℕ) (maker : MakerTold) (d : MemoryDecl) (o : Option ImageDecl) → 0 < maker.page → option_map_or (λ image. nat_le (image.offset + rounded_up maker.page (length image.bytes)) (minimum_byte_size d.ty)) o true ≡ true → IfSome (option_map (image_of id maker.page k) o) (ImageOf d.ty maker)
begins_of id k maker d None some ends = tt
begins_of id k maker d (Some i) some ends =
    let more : List ℕ = replicate (rounded_up maker.page (length i.bytes) - length i.bytes) 0 in
    let all : length (padded maker.page i.bytes) ≡ length i.bytes + length more = length-append i.bytes more in
    let zeros : length more ≡ rounded_up maker.page (length i.bytes) - length i.bytes = length-replicate (rounded_up maker.page (length i.bytes) - length i.bytes) 0 in
    record {
      page = refl;
      inside = omega (arith, all, zeros, rounded_up_above maker.page (length i.bytes) some, leb-true _ _ ends);
    }

pub both_true : (a b : Bool) → (a && b) ≡ true → (a ≡ true) × (b ≡ true)
both_true true b is = (refl, is)
both_true false b is = absurd (cc is)

pub begins_from : (id : CompiledModuleId) (n : ℕ) (maker : MakerTold) (decls : List MemoryDecl) → 0 < maker.page → list_all (ends_in_minimum maker.page) decls ≡ true → (k : ℕ) → IfSome (slice_get decls k) (λ d. IfSome (slice_index_or (images_from id maker.page n decls) k None) (ImageOf d.ty maker))
begins_from id n maker [] some ends k = tt
begins_from id n maker (d ∷ ds) some ends zero = begins_of id n maker d d.image some (both_true (ends_in_minimum maker.page d) (list_all (ends_in_minimum maker.page) ds) ends).0
begins_from id n maker (d ∷ ds) some ends (suc k) = begins_from id (n + 1) maker ds some (both_true (ends_in_minimum maker.page d) (list_all (ends_in_minimum maker.page) ds) ends).1 k

none_begins : (o : Option MemoryDecl) (maker : MakerTold) → IfSome o (λ d. IfSome (image_at None 0) (ImageOf d.ty maker))
none_begins None maker = tt
none_begins (Some d) maker = tt

-- so each image is
can_begin : (maker : MakerTold) (m : ModuleInfo) (images : Option (List (Option Image))) → 0 < maker.page → IfSome images (AreImagesOf maker.page m) → CanBegin m.memories images maker
can_begin maker m None some are = λ k. none_begins (slice_get m.memories k) maker
can_begin maker m (Some images) some are =
    subst (λ (is : List (Option Image)). CanBegin m.memories (Some is) maker) (sym are.1.0) (begins_from are.0 0 maker m.memories some are.1.1)

inside_of : {X Y : Type 0} (f : X → Y) (xs : List X) (i : ℕ) (y : Y) → option_map f (slice_get xs i) ≡ Some y → i < length xs
inside_of f [] i y is = absurd (cc is)
inside_of f (x ∷ xs) zero y is = omega arith
inside_of f (x ∷ xs) (suc i) y is = omega (arith, inside_of f xs i y is)

-- there is a place for a memory of the module
pub place_given : {X : Type 0} (page : ℕ) (m : ModuleInfo) (ty : MemoryType) (of : X → List (Option Image)) (o : Option X) (index : Option DefinedMemoryIndex) → IfSome o (λ i. AreImagesOf page m (of i)) → IfSome index (IsMemoryOf m ty) → IfSome o (λ all. IfSome index (λ i. i.0 < length (of all)))
place_given page m ty of None index are is = tt
place_given page m ty of (Some all) None are is = tt
place_given page m ty of (Some all) (Some i) are is = omega (arith, as_many page m (of all) are, inside_of (λ (d : MemoryDecl). d.ty) m.memories i.0 ty is)

of_type : (Q : MemoryType → Type 0) (o : Option MemoryDecl) (ty : MemoryType) → option_map (λ d. d.ty) o ≡ Some ty → IfSome o (λ d. Q d.ty) → Q ty
of_type Q None ty is told = absurd (cc is)
of_type Q (Some d) ty is told = let same : d.ty ≡ ty = cc is in subst Q same told

if_before : {X Y : Type 0} (f : X → Y) (P : Y → Type 0) (o : Option X) → IfSome (option_map f o) P → IfSome o (λ x. P (f x))
if_before f P None told = tt
if_before f P (Some x) told = told

begins_for : (maker : MakerTold) (m : ModuleInfo) (ty : MemoryType) (images : Option (List (Option Image))) (index : Option DefinedMemoryIndex) → 0 < maker.page → IfSome images (AreImagesOf maker.page m) → IfSome index (IsMemoryOf m ty) → IfSome (image_for images index) (ImageOf ty maker)
begins_for maker m ty images None some are is = tt
begins_for maker m ty images (Some i) some are is = of_type (λ t. IfSome (image_at images i.0) (ImageOf t maker)) (slice_get m.memories i.0) ty is (can_begin maker m images some are i.0)

-- its image is one that it can begin with
pub image_given : {X Y : Type 0} (maker : MakerTold) (m : ModuleInfo) (ty : MemoryType) (all_of : X → List (Option Image)) (one_of : Y → Image) (images : Option X) (index : Option DefinedMemoryIndex) (image : Option Y) → 0 < maker.page → IfSome images (λ i. AreImagesOf maker.page m (all_of i)) → IfSome index (IsMemoryOf m ty) → option_map one_of image ≡ image_for (option_map all_of images) index → IfSome image (λ i. ImageOf ty maker (one_of i))
image_given maker m ty all_of one_of images index image some are is same =
    let there : IfSome (image_for (option_map all_of images) index) (ImageOf ty maker) = begins_for maker m ty (option_map all_of images) index some (if_mapped all_of (AreImagesOf maker.page m) images are) is in
    if_before one_of (ImageOf ty maker) image (subst (λ (o : Option Image). IfSome o (ImageOf ty maker)) (sym same) there)
