-- The memories and the tables of a module that breaks no rule are supported.
use Rattle.std.proofs.Common.{◌≡◌, ℕ, zero, suc, ◌+◌, ◌^◌, ◌<◌, ◌≤◌, Bool, true, false, List, [], ◌∷◌, length, get_or, refl, arith, Option, Some, None, nat_lt, nat_le, if◌then◌else◌, IfSome, slice_get}
use Rattle.pool_alloc.proofs.Imports.{ltb-false, told_both, minimum_byte_size, refused_limits, MemoryDecl, MemoryType, ModuleInfo, TableType, Unsupported, Image, FitsInto, option_or}
use Rattle.pool_alloc.specs.Refusals.{first_refused, offset_refused, number_refused, memory_refused, tables_refused, long_table, size_refused, objects_refused, module_refused, type_refused}
use Rattle.pool_alloc.specs.declared.frame.Asked.{Asked}
use Rattle.pool_alloc.specs.declared.frame.Asked.TheVariants.{Module as module_asked}
use Rattle.pool_alloc.specs.StepReads.{info_wanted, memories_wanted, images_wanted, tables_wanted, plain_decl, IsModule}
use Rattle.pool_alloc.specs.BetweenSteps.{IsSupported, AreSupported, IsTableSupported, AreTablesSupported, AreImagesOf}
use Rattle.pool_alloc.specs.declared.pool_core.Settings.{Settings}

no_refusal : (a b : Option Unsupported) → option_or a b ≡ None → (a ≡ None) × (b ≡ None)
no_refusal None b e = (refl, e)
no_refusal (Some rule) b e = absurd cc

each_passes : {X : Type 0} (rule : X → Option Unsupported) (decls : List X) → first_refused rule decls ≡ None → (k : ℕ) → IfSome (slice_get decls k) (λ d. rule d ≡ None)
each_passes rule [] e k = tt
each_passes rule (d ∷ decls) e zero = (no_refusal (rule d) (first_refused rule decls) e).0
each_passes rule (d ∷ decls) e (suc k) = each_passes rule decls (no_refusal (rule d) (first_refused rule decls) e).1 k

not_above : (b : Bool) (rule : Unsupported) (rest : Option Unsupported) → (if b then Some rule else rest) ≡ None → (b ≡ false) × (rest ≡ None)
not_above true rule rest e = absurd cc
not_above false rule rest e = (refl, e)

fits_slot : (s : Settings) (ty : MemoryType) → memory_refused s ty ≡ None → minimum_byte_size ty ≤ s.max_memory_size
fits_slot s ty e = ltb-false s.max_memory_size (minimum_byte_size ty) (not_above (nat_lt s.max_memory_size (minimum_byte_size ty)) _ _ (not_above (nat_le (2 ^ 64) (minimum_byte_size ty)) _ _ e).1).0

few_enough : (s : Settings) (n : ℕ) → number_refused s n ≡ None → n ≤ s.max_memories_per_module
few_enough s n e = ltb-false s.max_memories_per_module n (not_above (nat_lt s.max_memories_per_module n) _ _ e).0

-- what follows of a memory that breaks no rule
record Passes (s : Settings) (decl : MemoryDecl) : Type 0 where
  limits : refused_limits decl.ty.limits ≡ None
  minimum : minimum_byte_size decl.ty ≤ s.max_memory_size

-- of a table, likewise
long_each : (s : Settings) (i : ℕ) (tables : List TableType) → long_table s i tables ≡ None → (k : ℕ) → IfSome (slice_get tables k) (λ ty. ty.limits.min ≤ s.table_elements)
long_each s i [] e k = tt
long_each s i (ty ∷ tys) e zero = ltb-false s.table_elements ty.limits.min (not_above (nat_lt s.table_elements ty.limits.min) _ _ (no_refusal _ (long_table s (i + 1) tys) e).0).0
long_each s i (ty ∷ tys) e (suc k) = long_each s (i + 1) tys (no_refusal _ (long_table s (i + 1) tys) e).1 k

few_tables : (s : Settings) (total n : ℕ) → tables_refused s total n ≡ None → n ≤ total
few_tables s total n e = ltb-false total n (not_above (nat_lt total n) _ _ (not_above (nat_lt s.max_tables_per_module n) _ _ e).1).0

supported : (s : Settings) (total : ℕ) (info : ModuleInfo) (images : List (Option Image)) → s.max_memories_per_module < 2 ^ 32 → AreImagesOf s info.memories images → module_refused s total info ≡ None → AreSupported s info.memories images × AreTablesSupported s total info.tables
supported s total info images small of e =
    let decls : List MemoryDecl = info.memories in
    let tables : List TableType = info.tables in
    let limits : Option Unsupported = first_refused (λ d. refused_limits d.ty.limits) decls in
    let table_limits : Option Unsupported = first_refused (λ ty. refused_limits ty.limits) tables in
    let number : Option Unsupported = number_refused s (length decls) in
    let slots : Option Unsupported = first_refused (λ d. memory_refused s d.ty) decls in
    let many : Option Unsupported = tables_refused s total (length tables) in
    let long : Option Unsupported = long_table s 0 tables in
    let from_slots : Option Unsupported = option_or slots (option_or many long) in
    let from_limits : Option Unsupported = option_or limits (option_or table_limits (option_or number from_slots)) in
    let after_offsets = (no_refusal (first_refused (λ d. offset_refused s.page d.image) decls) from_limits (no_refusal (objects_refused s total decls tables) (size_refused s info) e).0).1 in
    let by_limits = no_refusal limits (option_or table_limits (option_or number from_slots)) after_offsets in
    let by_table_limits = no_refusal table_limits (option_or number from_slots) by_limits.1 in
    let by_number = no_refusal number from_slots by_table_limits.1 in
    let by_slots = no_refusal slots (option_or many long) by_number.1 in
    let by_many = no_refusal many long by_slots.1 in (
      record {
        few = omega (arith, few_enough s (length decls) by_number.0);
        each = λ k.
            told_both (Passes s) (λ decl. (decl.ty.page_size_log2 < 64) × IfSome (get_or images k None) (FitsInto s.page (minimum_byte_size decl.ty))) (λ decl. IsSupported s decl (get_or images k None)) (slice_get decls k)
            (λ decl passes image. record { page_log2 = image.0; limits = passes.limits; minimum = passes.minimum; image_fits = image.1 })
            (told_both (λ decl. refused_limits decl.ty.limits ≡ None) (λ decl. memory_refused s decl.ty ≡ None) (Passes s) (slice_get decls k)
            (λ decl limit slot. record { limits = limit; minimum = fits_slot s decl.ty slot })
            (each_passes (λ d. refused_limits d.ty.limits) decls by_limits.0 k) (each_passes (λ d. memory_refused s d.ty) decls by_slots.0 k))
            (of.each k);
      },
      record {
        few = few_tables s total (length tables) by_many.0;
        each = λ k.
            told_both (λ ty. refused_limits ty.limits ≡ None) (λ ty. ty.limits.min ≤ s.table_elements) (IsTableSupported s) (slice_get tables k) (λ ty limit least. record { limits = limit; minimum = least })
            (each_passes (λ ty. refused_limits ty.limits) tables by_table_limits.0 k) (long_each s 0 tables by_many.1 k);
      },
    )

-- the same of a module that is asked for
pub asked_supported : (s : Settings) (total : ℕ) (asked : Asked) → s.max_memories_per_module < 2 ^ 32 → IsModule asked → AreImagesOf s (memories_wanted asked) (images_wanted asked) → module_refused s total (info_wanted asked) ≡ None → AreSupported s (memories_wanted asked) (images_wanted asked) × AreTablesSupported s total (tables_wanted asked)
asked_supported s total (module_asked m) small is of e = supported s total m.info (images_wanted (module_asked m)) small of e
asked_supported s total asked small is of e = absurd is

-- and of the memory of a heap
pub heap_supported : (s : Settings) (ty : MemoryType) → ty.page_size_log2 < 64 → type_refused s ty ≡ None → AreSupported s (plain_decl ty ∷ []) []
heap_supported s ty log2 e =
    let both = no_refusal (refused_limits ty.limits) (memory_refused s ty) e in
    record {
      few = omega arith;
      each = one (record { page_log2 = log2; limits = both.0; minimum = fits_slot s (plain_decl ty).ty both.1; image_fits = tt });
    }
  where
    one : IsSupported s (plain_decl ty) None → (k : ℕ) → IfSome (slice_get (plain_decl ty ∷ []) k) (λ decl. IsSupported s decl (get_or [] k None))
    one is zero = is
    one is (suc k) = tt
