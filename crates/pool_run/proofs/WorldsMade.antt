-- The pool and the calls that are made for an input are those of its world.
use Rattle.std.proofs.Common.{◌≡◌, ℕ, ◌+◌, ◌*◌, ◌<◌, zero, suc, List, [], ◌∷◌, length, replicate, refl, sym, ap, ◌∙◌, subst, arith, Option, Some, None, Bool, true, false, not, ◌-◌, ◌/◌, ◌%◌, ◌==◌, ◌&&◌, IfSome, is_some, slice_get, slice_index_or, nat_le, nat_lt, if◌then◌else◌, option_map, unwrap_or}
use Rattle.pool_run.proofs.Imports.{list_all, option_map_or, leb-true, le-leb, lt-ltb, and_from, length-append, length-replicate, same_Some, get_or_from_slice_get, second_true, rounded_up, MakerTold, minimum_byte_size, CompiledModuleId, ImageDecl, MemoryDecl, ModuleInfo, Tunables, Offered, slab_stripes, some_stripes, length-map-range_with_len, get_or-map-range_with_len, mul-mod_left, mul-div_cancel, Image, image_of, images_from, padded, first_misplaced, ends_in_minimum, FitsInto, rounded_up_above, IsMadeCore, plan_settings, PoolCore, Settings, ModuleAsked, images_made, stripe_allocator, allocator_of, no_allocator, no_module, table_slot, stack_slot, SlotKind, allocator_planned, wants_from, Plan, Allocator, heap_slot, of_kind, has_number, have_number, IsStripedPlanOf, divided, stripe_made, StripedPlanSettings, follow, PoolingAllocationConfig, OfKinds, PlainHeap}
use Rattle.pool_hall.specs.declared.unit_name.SlotKind.TheVariants.{Table, Stack, Heap}
use Rattle.pool_run.specs.Built.{is_built_memory, is_built_module}
use Rattle.pool_run.specs.Made.{call_made, calls_made}
use Rattle.pool_run.specs.Private.{Terms, module_of, has_images, images_of, request_for}
use Rattle.pool_run.specs.Runs.{world_of}
use Rattle.pool_run.specs.Worlds.{IsWorldOf, IsCallFor, AreCallsFor, HasStripes, HasSlots}
use Rattle.pool_run.specs.declared.input.Input.{Input}
use Rattle.pool_run.proofs.BuiltInputs.{built_memories, small_pages}
use Rattle.pool_run.proofs.Tests.{of_all}

-- what holds of the element at a place, whichever that is, holds if there is one
if_some : {X : Type 0} (o : Option X) (Q : X → Type 0) → ((x : X) → o ≡ Some x → Q x) → IfSome o Q
if_some None Q all = tt
if_some (Some x) Q all = all x refl

only_one : (b : Bool) → (if b then 1 else 0) + 0 ≡ 1 → b ≡ true
only_one true is = refl
only_one false is = absurd (omega (arith, is))

-- The memories of a plan that is made lie in its stripes.
stripes_made : (page : ℕ) (config : PoolingAllocationConfig) (tunables : Tunables) (offered : Offered) (shards : ℕ) (plan : Plan) → 0 < page → IsStripedPlanOf (plan_settings page config tunables offered shards) plan → HasStripes config.limits.total_memories (slab_stripes config tunables page offered) plan
stripes_made page config tunables offered shards plan paged made =
    let z : StripedPlanSettings = plan_settings page config tunables offered shards in
    let k : ℕ = z.num_stripes in
    let some : 0 < k = some_stripes config tunables page offered paged in
    let its : (s : ℕ) → s < k → stripe_allocator plan s ≡ stripe_made z s =
    λ s inside. ap (λ (as' : List Allocator). slice_index_or as' s no_allocator) made.memories ∙ get_or-map-range_with_len (stripe_made z) 0 k s s no_allocator inside (omega arith) in
    record {
      total = sym (ap (λ (n : OfKinds). n.memory) made.totals);
      some = some;
      count = ap (length {A = Allocator}) made.memories ∙ length-map-range_with_len (stripe_made z) 0 k;
      room = λ s inside. ap (λ (x : Allocator). x.capacity) (its s inside);
      each = λ s j inside below.
          let a : Allocator = stripe_made z s in
          let n : ℕ = s + j * k in
          let past : n - s ≡ j * k = omega arith in
          let low : nat_le s n ≡ true = le-leb s n (omega arith) in
          let even : ((n - s) % k == 0) ≡ true = rw (past, mul-mod_left j k) refl in
          let under : nat_lt ((n - s) / k) a.capacity ≡ true = rw (past, mul-div_cancel j some) (lt-ltb j a.capacity below) in
          ap (λ (x : Allocator). has_number x n) (its s inside) ∙ and_from (nat_le s n) (((n - s) % k == 0) && nat_lt ((n - s) / k) a.capacity) low (and_from ((n - s) % k == 0) (nat_lt ((n - s) / k) a.capacity) even under);
    }

-- Its slots of a kind have one allocator.
one_allocator : (z : StripedPlanSettings) (plan : Plan) (kind : SlotKind) (all : List Allocator) (total : ℕ) → allocator_of plan kind 0 ≡ slice_index_or all 0 no_allocator → all ≡ allocator_planned (divided z) kind ∷ [] → (allocator_planned (divided z) kind).capacity ≡ total → total ≡ of_kind kind plan.totals → ((k : ℕ) → k < total → have_number all k ≡ 1) → HasSlots kind total plan
one_allocator z plan kind all total is made capacity totals once =
    let a : Allocator = allocator_planned (divided z) kind in
    let Has : ℕ → List Allocator → Type 0 = λ k as'. have_number as' k ≡ 1 in
    let first : allocator_of plan kind 0 ≡ a = is ∙ ap (λ (as' : List Allocator). slice_index_or as' 0 no_allocator) made in
    record {
      total = totals;
      room = ap (λ (x : Allocator). x.capacity) first ∙ capacity;
      each = λ k inside. ap (λ (x : Allocator). has_number x k) first ∙ only_one (has_number a k) (subst (Has k) made (once k inside));
    }

-- So have its tables and its heaps.
tables_made : (page : ℕ) (config : PoolingAllocationConfig) (tunables : Tunables) (offered : Offered) (shards : ℕ) (plan : Plan) → 0 < page → IsStripedPlanOf (plan_settings page config tunables offered shards) plan → HasSlots Table config.limits.total_tables plan
tables_made page config tunables offered shards plan paged made =
    let z : StripedPlanSettings = plan_settings page config tunables offered shards in
    one_allocator z plan Table plan.tables config.limits.total_tables refl made.tables refl (sym (ap (λ (n : OfKinds). n.table) made.totals)) (λ k inside. (follow z plan (some_stripes config tunables page offered paged) made).one (table_slot k) inside)

heaps_made : (page : ℕ) (config : PoolingAllocationConfig) (tunables : Tunables) (offered : Offered) (shards : ℕ) (plan : Plan) → 0 < page → IsStripedPlanOf (plan_settings page config tunables offered shards) plan → HasSlots Heap config.limits.total_gc_heaps plan
heaps_made page config tunables offered shards plan paged made =
    let z : StripedPlanSettings = plan_settings page config tunables offered shards in
    one_allocator z plan Heap plan.heaps config.limits.total_gc_heaps refl made.heaps refl (sym (ap (λ (n : OfKinds). n.heap) made.totals)) (λ k inside. (follow z plan (some_stripes config tunables page offered paged) made).one (heap_slot k) inside)

-- So have its stacks.
stacks_planned : (page : ℕ) (config : PoolingAllocationConfig) (tunables : Tunables) (offered : Offered) (shards : ℕ) (plan : Plan) → 0 < page → IsStripedPlanOf (plan_settings page config tunables offered shards) plan
    → (config.limits.total_stacks ≡ plan.totals.stack) × ((allocator_of plan Stack 0).capacity ≡ config.limits.total_stacks) × ((k : ℕ) → k < config.limits.total_stacks → has_number (allocator_of plan Stack 0) k ≡ true)
stacks_planned page config tunables offered shards plan paged made =
    let z : StripedPlanSettings = plan_settings page config tunables offered shards in
    let a : Allocator = allocator_planned (divided z) Stack in
    let Has : ℕ → List Allocator → Type 0 = λ k as'. have_number as' k ≡ 1 in
    let first : allocator_of plan Stack 0 ≡ a = ap (λ (as' : List Allocator). slice_index_or as' 0 no_allocator) made.stacks in (
      sym (ap (λ (n : OfKinds). n.stack) made.totals),
      ap (λ (x : Allocator). x.capacity) first,
      λ k inside. ap (λ (x : Allocator). has_number x k) first ∙ only_one (has_number a k) (subst (Has k) made.stacks ((follow z plan (some_stripes config tunables page offered paged) made).one (stack_slot k) inside)),
    )

module _ {P : Type 0} where
  -- The pool as it is made has the sizes of the world.
  pub is_world : (input : Input) (maker : MakerTold) (c : PoolCore P PlainHeap) → 0 < maker.page → IsMadeCore maker input.config input.tunables input.offered input.shards c → IsWorldOf (world_of input maker) c
  is_world input maker c paged made = record {
    tells = refl;
    settings = sym made.settings;
    plan = stripes_made maker.page input.config input.tunables input.offered input.shards c.plan paged made.plan;
    tables = tables_made maker.page input.config input.tunables input.offered input.shards c.plan paged made.plan;
    heaps = heaps_made maker.page input.config input.tunables input.offered input.shards c.plan paged made.plan;
    stacks =
        let planned = stacks_planned maker.page input.config input.tunables input.offered input.shards c.plan paged made.plan in
        record {
          total = planned.0;
          room = planned.1;
          each = planned.2;
          size = sym (ap (λ (s : Settings). s.stack_size) made.settings);
          zeroing = sym (ap (λ (s : Settings). s.stack_zeroing) made.settings);
        };
  }

count_from : (id : CompiledModuleId) (page n : ℕ) (decls : List MemoryDecl) → length (images_from id page n decls) ≡ length decls
count_from id page n [] = refl
count_from id page n (d ∷ ds) = omega (arith, count_from id page (n + 1) ds)

asked_images : (o : Option (List (Option Image))) → images_made o ≡ unwrap_or o []
asked_images None = refl
asked_images (Some images) = refl

place_for_each : (b : Bool) (id : CompiledModuleId) (page : ℕ) (decls : List MemoryDecl) → IfSome (if b then Some (images_from id page 0 decls) else None) (λ images. length images ≡ length decls)
place_for_each true id page decls = count_from id page 0 decls
place_for_each false id page decls = tt

-- an image that ends within its memory's minimum fits it
fits_of : (id : CompiledModuleId) (page k : ℕ) (d : MemoryDecl) (o : Option ImageDecl) → 0 < page → option_map_or (λ image. nat_le (image.offset + rounded_up page (length image.bytes)) (minimum_byte_size d.ty)) o true ≡ true → IfSome (option_map (image_of id page k) o) (FitsInto page (minimum_byte_size d.ty))
fits_of id page k d None some ends = tt
fits_of id page k d (Some i) some ends =
    let more : List ℕ = replicate (rounded_up page (length i.bytes) - length i.bytes) 0 in
    let all : length (padded page i.bytes) ≡ length i.bytes + length more = length-append i.bytes more in
    let zeros : length more ≡ rounded_up page (length i.bytes) - length i.bytes = length-replicate (rounded_up page (length i.bytes) - length i.bytes) 0 in
    record {
      same_page = refl;
      inside = omega (arith, all, zeros, rounded_up_above page (length i.bytes) some, leb-true _ _ ends);
    }

-- so do all images of a module whose images end so
fits_from : (id : CompiledModuleId) (page n : ℕ) (decls : List MemoryDecl) (k : ℕ) (d : MemoryDecl) → slice_get decls k ≡ Some d → 0 < page → ends_in_minimum page d ≡ true → IfSome (slice_index_or (images_from id page n decls) k None) (FitsInto page (minimum_byte_size d.ty))
fits_from id page n [] k d there some ends = absurd cc
fits_from id page n (x ∷ xs) zero d there some ends =
    let Fits : MemoryDecl → Type 0 = λ y. IfSome (option_map (image_of id page n) y.image) (FitsInto page (minimum_byte_size d.ty)) in
    subst Fits (sym (same_Some x d there)) (fits_of id page n d d.image some ends)
fits_from id page n (x ∷ xs) (suc k) d there some ends = fits_from id page (n + 1) xs k d there some ends

fits_made : (b : Bool) (id : CompiledModuleId) (page : ℕ) (decls : List MemoryDecl) (k : ℕ) (d : MemoryDecl) → slice_get decls k ≡ Some d → 0 < page → (b ≡ true → ends_in_minimum page d ≡ true) → IfSome (slice_index_or (unwrap_or (if b then Some (images_from id page 0 decls) else None) []) k None) (FitsInto page (minimum_byte_size d.ty))
fits_made false id page decls k d there some ends = tt
fits_made true id page decls k d there some ends = fits_from id page 0 decls k d there some (ends refl)

-- A call that is made for a module is one for it.
is_call_for : (t : Terms) (s : Settings) (number : ℕ) (m : ModuleInfo) → slice_get t.modules number ≡ Some m → is_built_module m ≡ true → s.page ≡ t.settings.page → 0 < s.page → IsCallFor t s number (call_made t.settings.tunables.tunables t.settings.page number m)
is_call_for t s number m there built page some =
    let id : CompiledModuleId = record { 0 = number } in
    let tunables : Tunables = t.settings.tunables.tunables in
    let all : Bool = has_images tunables t.settings.page m.memories in
    let is : m ≡ module_of t number = sym (get_or_from_slice_get t.modules number m no_module there) in
    let made : Option (List (Option Image)) = images_of tunables t.settings.page number m.memories in
    let given : List (Option Image) = unwrap_or made [] in
    record {
      asked = record { of_module = tt; info = is; memories = ap (wants_from m.memories) (asked_images made) ∙ ap (λ (x : ModuleInfo). (request_for t number x).memories) is };
      fit = record {
        images = record {
          each = λ k.
              if_some (slice_get m.memories k) (λ d. (d.ty.page_size_log2 < 64) × IfSome (slice_index_or (images_made made) k None) (FitsInto s.page (minimum_byte_size d.ty)))
              (λ d at.
              let On : ℕ → Type 0 = λ p. IfSome (slice_index_or given k None) (FitsInto p (minimum_byte_size d.ty)) in
              let some_page : 0 < t.settings.page = omega (arith, page, some) in
              let If : List (Option Image) → Type 0 = λ is. IfSome (slice_index_or is k None) (FitsInto s.page (minimum_byte_size d.ty)) in
              (omega (arith, small_pages d (of_all is_built_memory m.memories k d (built_memories m built) at)), subst If (sym (asked_images made)) (subst On (sym page) (fits_made all id t.settings.page m.memories k d at some_page (λ has. of_all (ends_in_minimum t.settings.page) m.memories k d (second_true (not (is_some (first_misplaced t.settings.page m.memories))) _ (second_true tunables.memory_init_cow _ has)) at)))));
        };
        places = place_for_each all id t.settings.page m.memories;
      };
    }

-- So are all the calls that are made.
pub calls_at : (tunables : Tunables) (page n : ℕ) (ms : List ModuleInfo) (k : ℕ) → slice_get (calls_made tunables page n ms) k ≡ option_map (call_made tunables page (n + k)) (slice_get ms k)
calls_at tunables page n [] k = refl
calls_at tunables page n (m ∷ ms) zero = ap (λ (i : ℕ). Some (call_made tunables page i m)) {x = n} {y = n + 0} (omega arith)
calls_at tunables page n (m ∷ ms) (suc k) = calls_at tunables page (n + 1) ms k ∙ ap (λ (i : ℕ). option_map (call_made tunables page i) (slice_get ms k)) {x = n + 1 + k} {y = n + suc k} (omega arith)

call_at : (t : Terms) (s : Settings) (number : ℕ) (o : Option ModuleInfo) → slice_get t.modules number ≡ o → list_all is_built_module t.modules ≡ true → s.page ≡ t.settings.page → 0 < s.page → IfSome (option_map (call_made t.settings.tunables.tunables t.settings.page (0 + number)) o) (IsCallFor t s number)
call_at t s number None there built page some = tt
call_at t s number (Some m) there built page some =
    let For : ℕ → Type 0 = λ n. IsCallFor t s number (call_made t.settings.tunables.tunables t.settings.page n m) in
    subst For {x = number} {y = 0 + number} (omega arith) (is_call_for t s number m there (of_all is_built_module t.modules number m built there) page some)

pub are_calls_for : (t : Terms) (s : Settings) (calls : List ModuleAsked) → list_all is_built_module t.modules ≡ true → s.page ≡ t.settings.page → 0 < s.page → calls ≡ calls_made t.settings.tunables.tunables t.settings.page 0 t.modules → AreCallsFor t s calls
are_calls_for t s calls built page some made number =
    let For : Option ModuleAsked → Type 0 = λ o. IfSome o (IsCallFor t s number) in
    let there : slice_get calls number ≡ option_map (call_made t.settings.tunables.tunables t.settings.page (0 + number)) (slice_get t.modules number) =
    ap (λ (cs : List ModuleAsked). slice_get cs number) made ∙ calls_at t.settings.tunables.tunables t.settings.page 0 t.modules number in
    subst For (sym there) (call_at t s number (slice_get t.modules number) refl built page some)
