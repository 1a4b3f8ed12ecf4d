-- A request: whom it asks, and what it is for.
use Rattle.std.specs.Prelude.{◌≡◌, List, Bool, Option, Some, None, option_map, slice_get, Result, ℕ, ◌^◌, true, Ok, Err, ◌<◌, All, length, slice_index_or}
use Rattle.pool_alloc.specs.Imports.{MutBor, GName, DefinedMemoryIndex, MemoryKind, LinearMemory, GcHeap, MemoryType, ModuleInfo, Image, images_from, ends_in_minimum, Exchange, may_grow, has_failed, LimiterError, AllocError, Unsupported, list_all, CompiledModuleId}
use Rattle.pool_alloc.specs.declared.instance_allocator.request.InstanceAllocationRequest.{InstanceAllocationRequest}
use Rattle.pool_slots.specs.declared.errors.AllocError.TheVariants as refusal

-- refused exactly for the first rule that is broken
abbrev pub refused_by : Option Unsupported → Result (Unit {0}) AllocError
refused_by None = Ok tt
refused_by (Some rule) = Err (refusal.Unsupported rule)

-- as many are live as there may be
abbrev pub IsLimit : AllocError → Type 0
IsLimit (refusal.Limit e) = Unit {0}
IsLimit _ = ⊥

-- a module whose types can be used, and which has no more memories than can be numbered
pub record IsModule (m : ModuleInfo) : Type 0 where
  pub types : All (λ d. d.ty.page_size_log2 < 64) m.memories
  pub count : length m.memories < 2 ^ 32

-- The images are those that are made of the module, where regions have pages of this size.
abbrev pub AreImagesOf : ℕ → ModuleInfo → List (Option Image) → Type 0
AreImagesOf page m images = (id : CompiledModuleId) × ((images ≡ images_from id page 0 m.memories) × (list_all (ends_in_minimum page) m.memories ≡ true))

-- the image of memory k, of the images that are given
abbrev pub image_at : Option (List (Option Image)) → ℕ → Option Image
image_at None k = None
image_at (Some images) k = slice_index_or images k None

-- this answer was given to a question
abbrev pub GivesAnswer : Result Bool LimiterError → Exchange → Type 0
GivesAnswer answer (may_grow question given) = given ≡ answer
GivesAnswer answer (has_failed what error given) = Unit {0}

-- an exchange with a limiter that need not be there
abbrev pub if_leads : {R : Type 0} → (R → Exchange → R → Type 0) → Option R → Exchange → Option R → Type 0
if_leads leads None e new = new ≡ None
if_leads leads (Some old) e None = ⊥
if_leads leads (Some old) e (Some new) = leads old e new

-- The limiter that a request asks, as it is.
abbrev pub lent : {R : Type 0} → Option (MutBor R) → Option R
lent limiter = option_map (λ l. l.now) limiter

-- Which `&mut` to a limiter a request brings, if any; so a clause can say that it comes back unexchanged.
abbrev pub lent_name : {R : Type 0} → Option (MutBor R) → Option GName
lent_name limiter = option_map (λ l. l.ghost_name) limiter

-- a memory that isn't one of the module's is for a heap
abbrev pub kind_for : Option DefinedMemoryIndex → MemoryKind
kind_for None = GcHeap
kind_for (Some i) = LinearMemory

-- the memory of this number has this type
abbrev pub IsMemoryOf : ModuleInfo → MemoryType → DefinedMemoryIndex → Type 0
IsMemoryOf m ty i = option_map (λ d. d.ty) (slice_get m.memories i.0) ≡ Some ty

-- The image of a memory, by its number in the module that is asked for.
abbrev pub image_for : Option (List (Option Image)) → Option DefinedMemoryIndex → Option Image
image_for images None = None
image_for images (Some i) = image_at images i.0

-- The request is the same, and asks the same limiter, which may have answered.
pub record IsSameRequest {R : Type 0} (old new : InstanceAllocationRequest R) : Type 0 where
  pub same : new ≡ record old { limiter = new.limiter }
  pub name : lent_name new.limiter ≡ lent_name old.limiter
