-- An instance on demand: its memories and then its tables are allocated one after the other.
use Rattle.std.specs.Prelude.{◌≡◌, ℕ, ◌⊎◌, List, [], ◌∷◌, Bool, slice_get, Option, Some, None, IfSome, Result, Ok, Err}
use Rattle.pool_on_demand.specs.Imports.{MakerTold, minimum_byte_size, MemoryDecl, MemoryTunables, MemoryType, ModuleInfo, TableType, Unsupported, Image, Exchange, GrowthQuestion, Exchanged, may_grow, memory_answer, table_answer, LimiterTold, after_answer, LimiterError, Design, IsSameMaker, ImageOf, minimum_asked, maximum_asked, minimum_question, AllocError, making_question, type_maximum, image_at}
use Rattle.pool_slots.specs.declared.errors.AllocError.TheVariants as refusal
use Rattle.pool_on_demand.specs.Answers.{Allocates, AllocatesListed}
use Rattle.pool_on_demand.specs.Grants.{IsMemoryMade, IsTableMade}
use Rattle.pool_on_demand.specs.InTurn.{InTurn, StopsAtOne}
use Rattle.pool_on_demand.specs.Refusals.{memory_refused, table_refused, module_refused, answer_given}
use Rattle.pool_on_demand.specs.declared.lease.OnDemandMemory.{OnDemandMemory}
use Rattle.pool_on_demand.specs.declared.lease.OnDemandTable.{OnDemandTable}
use Rattle.pool_on_demand.specs.declared.lease.OnDemandInstance.{OnDemandInstance}

-- What a creator refuses: by the page of regions, the type, the settings, the minimum in bytes, and the greatest size,
-- if there is one.
abbrev pub Refuses : Type 0
Refuses = ℕ → MemoryType → MemoryTunables → ℕ → Option ℕ → Option Unsupported

-- What a creator tells of a memory before it makes it, by the same.
abbrev pub Designs : Type 0
Designs = ℕ → MemoryType → MemoryTunables → ℕ → Option ℕ → Option Design

-- each memory's image is one that it can begin with
abbrev pub CanBegin : List MemoryDecl → Option (List (Option Image)) → MakerTold → Type 0
CanBegin decls images maker = (k : ℕ) → IfSome (slice_get decls k) (λ d. IfSome (image_at images k) (ImageOf d.ty maker))

-- what the maker tells between two allocations, and the limiter
pub record Stage (R : Type 0) : Type 0 where
  pub maker : MakerTold
  pub limiter : R

-- The limiter was asked this once, and gave this answer.
pub record HasAnswered {R : Type 0} (told : R → LimiterTold) (leads : R → Exchange → R → Type 0) (question : GrowthQuestion) (answer : Result Bool LimiterError) (old new : R) : Type 0 where
  pub left : told new ≡ after_answer answer (told old)
  pub exchange : Exchanged leads (may_grow question answer ∷ []) old new

module _ {R : Type 0} (told : R → LimiterTold) (leads : R → Exchange → R → Type 0) where
  -- what the allocation of a memory answers, and where it leads
  pub record IsMemoryTurn {M L : Type 0} (refuses : Refuses) (designs : Designs) (tunables : MemoryTunables) (image : Option Image) (ty : MemoryType) (result : Result (OnDemandMemory M L) AllocError) (from to : Stage R) : Type 0 where
    pub answer : Allocates (memory_refused (answer_given result) (refuses from.maker.page ty tunables) ty) (IsMemoryMade ty tunables (designs from.maker.page ty tunables (minimum_byte_size ty) (maximum_asked ty)) image to.maker.next from.maker) result from.maker to.maker
    pub maker : IsSameMaker from.maker to.maker
    pub asked : answer_given result ≡ memory_answer (told from.limiter).rule (answer_given result) (minimum_asked ty) (maximum_asked ty)
    pub answered : HasAnswered told leads (minimum_question ty) (answer_given result) from.limiter to.limiter

  -- What the allocation of a table on demand answers, and where it leads; no maker is asked.
  pub record IsTableTurn {P : Type 0} (lazy_init : Bool) (ty : TableType) (result : Result (OnDemandTable P) AllocError) (from to : Stage R) : Type 0 where
    pub answer : AllocatesListed (table_refused (answer_given result) ty) (IsTableMade ty lazy_init) result
    pub maker : to.maker ≡ from.maker
    pub asked : answer_given result ≡ table_answer (told from.limiter).rule (answer_given result) ty.limits.min (Some (type_maximum ty))
    pub answered : HasAnswered told leads (making_question ty) (answer_given result) from.limiter to.limiter

  -- The making of memory k of a module, with its image.
  abbrev pub MemoryOf : {M L : Type 0} → Refuses → Designs → MemoryTunables → Option (List (Option Image)) → ℕ → MemoryDecl → Result (OnDemandMemory M L) AllocError → Stage R → Stage R → Type 0
  MemoryOf refuses designs tunables images k d result from to = IsMemoryTurn refuses designs tunables (image_at images k) d.ty result from to

  -- The making of table k of a module, which is the same for each k.
  abbrev pub TableOf : {P : Type 0} → Bool → ℕ → TableType → Result (OnDemandTable P) AllocError → Stage R → Stage R → Type 0
  TableOf lazy_init k ty result from to = IsTableTurn lazy_init ty result from to

  -- What is granted, where the module breaks no rule: the memories, and then the tables; or the refusal of one of them,
  -- once those before it were allocated; or want of memory, before anything is asked.
  abbrev pub GrantsInTurn : {M L P : Type 0} → Refuses → Designs → MemoryTunables → ModuleInfo → Option (List (Option Image)) → Result (OnDemandInstance M L P) AllocError → Stage R → Stage R → Type 0
  GrantsInTurn {M} {L} {P} refuses designs tunables m images (Ok lease) from to =
      (between : Stage R) × (InTurn (MemoryOf {M = M} {L = L} refuses designs tunables images) 0 m.memories lease.memories from between
      × InTurn (TableOf {P = P} tunables.tunables.table_lazy_init) 0 m.tables lease.tables between to)
  GrantsInTurn {M} {L} {P} refuses designs tunables m images (Err e) from to =
      ((e ≡ refusal.Memory) × (to ≡ from))
      ⊎ (StopsAtOne (MemoryOf {M = M} {L = L} refuses designs tunables images) 0 m.memories e from to
      ⊎ ((memories : List (OnDemandMemory M L)) × ((between : Stage R) × (InTurn (MemoryOf {M = M} {L = L} refuses designs tunables images) 0 m.memories memories from between
      × StopsAtOne (TableOf {P = P} tunables.tunables.table_lazy_init) 0 m.tables e between to))))

  -- A module that breaks a rule is refused with nothing asked; else its objects are made one after the other.
  abbrev pub GrantsUnless : {M L P : Type 0} → Option Unsupported → Refuses → Designs → MemoryTunables → ModuleInfo → Option (List (Option Image)) → Result (OnDemandInstance M L P) AllocError → Stage R → Stage R → Type 0
  GrantsUnless (Some rule) refuses designs tunables m images result from to = (result ≡ Err (refusal.Unsupported rule)) × (to ≡ from)
  GrantsUnless None refuses designs tunables m images result from to = GrantsInTurn refuses designs tunables m images result from to

  -- what the allocation of an instance answers, and where it leads
  abbrev pub GrantsInstance : {M L P : Type 0} → Refuses → Designs → MemoryTunables → ModuleInfo → Option (List (Option Image)) → Result (OnDemandInstance M L P) AllocError → Stage R → Stage R → Type 0
  GrantsInstance refuses designs tunables m images result from to = GrantsUnless (module_refused m) refuses designs tunables m images result from to
