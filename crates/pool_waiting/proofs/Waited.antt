-- What calls of a caller who waits leave a seat, in the words of the trait of allocators.
use Rattle.std.proofs.Common.{◌≡◌, ℕ, zero, suc, ◌<◌, All, List, [], ◌∷◌, length, map, refl, sym, ap, subst, arith, inl, Option, Some, None, IfSome, option_map, Result, Ok, Err, IfOk, IfErr, OnOk, slice_get}
use Rattle.std.proofs.lemmas.List.Elements.{All-head, All-nil, All-tail}
use Rattle.std.proofs.lemmas.Option.{slice_get_within}
use Rattle.pool_hall.specs.Seat.{view}
use Rattle.pool_hall.specs.Sum.{total}
use Rattle.pool_hall.specs.declared.view.View.{View}
use Rattle.pool_hall.specs.declared.unit_name.SlotKind.TheVariants.{Memory as memory_kind, Table as table_kind, Stack as stack_kind, Heap as heap_kind}
use Rattle.pool_images.specs.Images.{Image}
use Rattle.pool_images.specs.Slots.{FitsInto}
use Rattle.pool_limits.specs.Exchanges.{Exchange}
use Rattle.pool_limits.specs.LimiterTold.{LimiterTold}
use Rattle.pool_slots.specs.declared.errors.AllocError.{AllocError}
use Rattle.pool_slots.specs.declared.errors.AllocError.TheVariants as refusal
use Rattle.pool_types.specs.MemoryTypes.{minimum_byte_size}
use Rattle.pool_types.specs.declared.unsupported.Unsupported.{Unsupported}
use Rattle.pool_types.specs.declared.unsupported.Unsupported.TheVariants.{AddressSpace}
use Rattle.pool_types.specs.declared.module_types.DefinedMemoryIndex.{DefinedMemoryIndex}
use Rattle.pool_types.specs.declared.module_types.MemoryDecl.{MemoryDecl}
use Rattle.pool_types.specs.declared.module_types.MemoryType.{MemoryType}
use Rattle.pool_alloc.specs.BetweenSteps.{AreImagesOf as AreFitting, IsLeaseOf}
use Rattle.pool_alloc.specs.CallStages.{IsBroken}
use Rattle.pool_alloc.specs.CanStep.{CanValidate}
use Rattle.pool_alloc.specs.Held.{GainsHeld, KeepsHeld, LosesHeld, core_counted, component_counted}
use Rattle.pool_alloc.specs.Places.{Counter, counted_component, counted_instance, counted_object, only}
use Rattle.pool_alloc.specs.PlainModules.{ModuleAsked}
use Rattle.pool_alloc.specs.PoolTables.{IsTableLease}
use Rattle.pool_alloc.specs.Requests.{AreImagesOf, IsLimit, IsMemoryOf, IsModule, image_at, image_for, refused_by}
use Rattle.pool_alloc.specs.StepReads.{images_made}
use Rattle.pool_alloc.specs.declared.frame.Asked.{Asked}
use Rattle.pool_alloc.specs.declared.frame.Grant.{Grant}
use Rattle.pool_alloc.specs.declared.pool_core.Settings.{Settings}
use Rattle.pool_driver.specs.Limits.{Names}
use Rattle.pool_driver.specs.PageFaults.{CellFaulted, IfFaulted}
use Rattle.pool_driver.specs.Placed.{About}
use Rattle.pool_driver.specs.Spending.{RefusalFewer}
use Rattle.pool_driver.specs.Telling.{RefusalTold, WasOver, component_counter, instance_counter}
use Rattle.pool_driver.specs.declared.part.HallPart.{HallPart}
use Rattle.pool_driver.specs.UnknownPuts.{UnknownCaused, UnlessUnmade}
use Rattle.pool_driver.proofs.Holding.{same_holds}
use Rattle.pool_callers.specs.Callers.{Caller, Gives, CountsJust, IsCounted, IsGivenBack, IsGranted, IsKept, IsRefused, IsUncounted, left_counted}
use Rattle.pool_callers.proofs.Answers.{stays_caused}
use Rattle.pool_callers.proofs.Images.{images_fit}
use Rattle.pool_waiting.specs.Waiting.{AskedBy, AskedUnless, HasAll, as_grant}
use Rattle.pool_waiting.specs.HeldLaws.{HeldHere, gained_held, kept_held, lost_held}

-- The image that a request lends for a memory of its module is one with which a memory of that type can begin.
type_at : (page : ℕ) (ty : MemoryType) (o : Option MemoryDecl) (image : Option Image) → option_map (λ d. d.ty) o ≡ Some ty → IfSome o (λ d. (d.ty.page_size_log2 < 64) × IfSome image (FitsInto page (minimum_byte_size d.ty))) → IfSome image (FitsInto page (minimum_byte_size ty))
type_at page ty None image is fits = absurd (cc is)
type_at page ty (Some d) image is fits = let same : d.ty ≡ ty = cc is in subst (λ (t : MemoryType). IfSome image (FitsInto page (minimum_byte_size t))) same fits.1

fits_at : (s : Settings) (decls : List MemoryDecl) (ty : MemoryType) (k : ℕ) (images : Option (List (Option Image))) → option_map (λ d. d.ty) (slice_get decls k) ≡ Some ty → AreFitting s decls (images_made images) → IfSome (image_at images k) (FitsInto s.page (minimum_byte_size ty))
fits_at s decls ty k None of fit = tt
fits_at s decls ty k (Some images) of fit = type_at s.page ty (slice_get decls k) (image_at (Some images) k) of (fit.each k)

pub image_fits : (s : Settings) (m : ModuleAsked) (ty : MemoryType) (index : Option DefinedMemoryIndex) → 0 < s.page → IsModule m.info → IfSome m.images (AreImagesOf s.page m.info) → IfSome index (IsMemoryOf m.info ty) → IfSome (image_for m.images index) (FitsInto s.page (minimum_byte_size ty))
image_fits s m ty None some' is are of = tt
image_fits s m ty (Some i) some' is are of = fits_at s m.info.memories ty i.0 m.images of (images_fit s m some' is are).0

-- what is so of what is behind a reference, if there is one
pub if_behind : {X Y : Type 0} (f : X → Y) (Q : Y → Type 0) (o : Option X) → IfSome o (λ x. Q (f x)) → IfSome (option_map f o) Q
if_behind f Q None is = tt
if_behind f Q (Some x) is = is

-- There is a place for the image of each memory of a module in the list of its images.
there_is : (decls : List MemoryDecl) (ty : MemoryType) (k : ℕ) (o : Option MemoryDecl) → slice_get decls k ≡ o → option_map (λ d. d.ty) o ≡ Some ty → k < length decls
there_is decls ty k None is of = absurd (cc of)
there_is decls ty k (Some d) is of = slice_get_within decls k d is

pub image_inside : {X : Type 0} (f : X → List (Option Image)) (s : Settings) (m : ModuleAsked) (ty : MemoryType) (index : Option DefinedMemoryIndex) (o : Option X) → 0 < s.page → IsModule m.info → m.images ≡ option_map f o → IfSome m.images (AreImagesOf s.page m.info) → IfSome index (IsMemoryOf m.info ty) → IfSome o (λ all. IfSome index (λ i. i.0 < length (f all)))
image_inside f s m ty index None some' is same are of = tt
image_inside f s m ty None (Some all) some' is same are of = tt
image_inside f s m ty (Some i) (Some all) some' is same are of =
    let long : length (f all) ≡ length m.info.memories = subst (λ (o : Option (List (Option Image))). IfSome o (λ images. length images ≡ length m.info.memories)) same (images_fit s m some' is are).1 in
    omega (arith, long, there_is m.info.memories ty i.0 (slice_get m.info.memories i.0) refl of)

-- a rule that is broken is no reason to doubt what lies in a cell
unmade : (known : Type 0) (u : Unsupported) → known → UnlessUnmade known (refusal.Unsupported u)
unmade known AddressSpace k = tt
unmade known u k = k

module _ {T : Type 0} (a : About) (home stripe : ℕ) (what : Asked) (v : View T) where
  nothing_for : (e : AllocError) → Names a.settings a.plan stripe e → RefusalTold v v (WasOver v v instance_counter) (WasOver v v component_counter) a.plan home e → RefusalFewer v v a.plan what e → IfFaulted (CellFaulted v v a.plan) e → UnlessUnmade (UnknownCaused v v a.plan) e → IsRefused a home stripe what e v v
  nothing_for e names told fewer fault unknown = record {
    names = names;
    told = told;
    fewer = fewer;
    fault = fault;
    unknown = unknown;
    appended = λ one. refl;
    keeps = record { units = λ t. refl; counted = λ k. refl };
    bounds = record {
      cold = λ k. omega arith;
      instances = record { added = omega arith; low = omega arith };
      components = record { added = omega arith; low = omega arith };
    };
    goes = record { portions = refl; more = same_holds v v refl };
  }

  -- A request for which there is no memory, before the pool is asked,
  pub nothing_wanted : (w : View T) → w ≡ v → IsRefused a home stripe what refusal.Memory v w
  nothing_wanted w same = subst (λ (x : View T). IsRefused a home stripe what refusal.Memory v x) (sym same) (nothing_for refusal.Memory (tt, tt) tt tt tt (stays_caused v a.plan))

  -- and one that breaks a rule.
  pub nothing_tested : (w : View T) (rule : Option Unsupported) (e : AllocError) → Err e ≡ refused_by rule → w ≡ v → IsRefused a home stripe what e v w
  nothing_tested w None e is same = absurd (cc is)
  nothing_tested w (Some u) e is same =
      let broken : e ≡ refusal.Unsupported u = cc is in
      subst (λ (x : AllocError). IsRefused a home stripe what x v w) (sym broken)
      (subst (λ (x : View T). IsRefused a home stripe what (refusal.Unsupported u) v x) (sym same) (nothing_for (refusal.Unsupported u) (tt, tt) tt tt tt (unmade (UnknownCaused v v a.plan) u (stays_caused v a.plan))))

-- Seats of callers, and what they have
module _ {P H M : Type 0} (a : About) where
  abbrev pub HoldsHere : Caller P H M → List (HeldHere P H) → Caller P H M → Type 0
  HoldsHere base held seat = HasAll a (view base.seat) held (view seat.seat)

  -- A request brings what it is granted, and where it is refused nothing. The pool was asked in a seat with what this one has.
  pub gains_ends : {X : Type 0} (of : X → HeldHere P H) (home stripe : ℕ) (what : Asked) (result : Result X AllocError) (seat mid left : Caller P H M) → view mid.seat ≡ view seat.seat → IfOk result (λ x. IsGranted a what (as_grant (of x)) (view mid.seat) (view left.seat)) → IfErr result (λ e. IsRefused a home stripe what e (view mid.seat) (view left.seat)) → GainsHeld HoldsHere of result seat left
  gains_ends of home stripe what (Ok x) seat mid left same granted refused = λ base held all. gained_held a (view base.seat) (map as_grant held) (view mid.seat) (view left.seat) granted.goes.portions (as_grant (of x)) granted.gives.is granted.gives.keeps granted.gains (subst (λ (v : View (HallPart P H M)). HasAll a (view base.seat) held v) (sym same) all)
  gains_ends of home stripe what (Err e) seat mid left same granted refused = λ base held all. kept_held a (view base.seat) (map as_grant held) (view mid.seat) (view left.seat) refused.goes.portions refused.keeps (subst (λ (v : View (HallPart P H M)). HasAll a (view base.seat) held v) (sym same) all)

  -- What is given back is gone, and nothing else.
  pub loses_returned : (x : HeldHere P H) (seat left : Caller P H M) → IsGivenBack a (as_grant x) (view seat.seat) (view left.seat) → LosesHeld HoldsHere x seat left
  loses_returned x seat left returned = λ base held all. lost_held a (view base.seat) (map as_grant held) (view seat.seat) (view left.seat) returned.goes.portions (as_grant x) returned.loses all

  pub keeps_kept : (seat left : Caller P H M) → IsKept (view seat.seat) (view left.seat) → KeepsHeld HoldsHere seat left
  keeps_kept seat left kept = λ base held all. kept_held a (view base.seat) (map as_grant held) (view seat.seat) (view left.seat) kept.goes.portions kept.keeps all

-- An instance that is counted counts as one, and as nothing else.
one_instance : (k : Counter) → only k counted_instance ≡ only counted_instance k
one_instance counted_instance = refl
one_instance counted_component = refl
one_instance (counted_object memory_kind) = refl
one_instance (counted_object table_kind) = refl
one_instance (counted_object stack_kind) = refl
one_instance (counted_object heap_kind) = refl

one_component : (k : Counter) → only k counted_component ≡ only counted_component k
one_component counted_instance = refl
one_component counted_component = refl
one_component (counted_object memory_kind) = refl
one_component (counted_object table_kind) = refl
one_component (counted_object stack_kind) = refl
one_component (counted_object heap_kind) = refl

module _ {P H M : Type 0} (a : About) where
  pub core_there : (seat : Caller P H M) → Gives {P = P} {H = H} a (as_grant core_counted) (view seat.seat) → 0 < left_counted (view seat.seat) counted_instance
  core_there seat gives = omega (arith, gives.counted counted_instance)

  pub component_there : (seat : Caller P H M) → Gives {P = P} {H = H} a (as_grant component_counted) (view seat.seat) → 0 < left_counted (view seat.seat) counted_component
  component_there seat gives = omega (arith, gives.counted counted_component)

  -- It comes where it is counted, and not where it is refused;
  pub core_gained : (counter : ℕ) (full : AllocError) (result : Result (Unit {0}) AllocError) (seat left : Caller P H M) → OnOk result (IsCounted counted_instance (view seat.seat) (view left.seat)) → IfErr result (λ e. (e ≡ full) × IsKept (view seat.seat) (view left.seat) × CountsJust (counter ∷ []) [] (counter ∷ []) (view seat.seat) (view left.seat)) → GainsHeld (HoldsHere {P = P} {H = H} a) (λ _. core_counted) result seat left
  core_gained counter full (Ok done) seat left counted refused = λ base held all. gained_held a (view base.seat) (map as_grant held) (view seat.seat) (view left.seat) counted.goes.portions (as_grant core_counted) (All-nil (IsLeaseOf a.maker a.settings a.plan), All-nil (IsTableLease a.maker a.settings a.plan)) (tt, tt) (record { units = λ t. omega (arith, ap (total t) counted.units); counted = λ k. omega (arith, counted.counted k, one_instance k) }) all
  core_gained counter full (Err e) seat left counted refused = λ base held all. kept_held a (view base.seat) (map as_grant held) (view seat.seat) (view left.seat) refused.1.goes.portions refused.1.keeps all

  pub component_gained : (counter : ℕ) (full : AllocError) (result : Result (Unit {0}) AllocError) (seat left : Caller P H M) → OnOk result (IsCounted counted_component (view seat.seat) (view left.seat)) → IfErr result (λ e. (e ≡ full) × IsKept (view seat.seat) (view left.seat) × CountsJust (counter ∷ []) [] (counter ∷ []) (view seat.seat) (view left.seat)) → GainsHeld (HoldsHere {P = P} {H = H} a) (λ _. component_counted) result seat left
  component_gained counter full (Ok done) seat left counted refused = λ base held all. gained_held a (view base.seat) (map as_grant held) (view seat.seat) (view left.seat) counted.goes.portions (as_grant component_counted) tt tt (record { units = λ t. omega (arith, ap (total t) counted.units); counted = λ k. omega (arith, counted.counted k, one_component k) }) all
  component_gained counter full (Err e) seat left counted refused = λ base held all. kept_held a (view base.seat) (map as_grant held) (view seat.seat) (view left.seat) refused.1.goes.portions refused.1.keeps all

  -- and it goes where it is counted off.
  pub core_lost : (seat left : Caller P H M) → IsUncounted counted_instance (view seat.seat) (view left.seat) → LosesHeld (HoldsHere {P = P} {H = H} a) core_counted seat left
  core_lost seat left lost = λ base held all. lost_held a (view base.seat) (map as_grant held) (view seat.seat) (view left.seat) lost.goes.portions (as_grant core_counted) (record { units = λ t. omega (arith, ap (total t) lost.units); counted = λ k. omega (arith, lost.counted k, one_instance k) }) all

  pub component_lost : (seat left : Caller P H M) → IsUncounted counted_component (view seat.seat) (view left.seat) → LosesHeld (HoldsHere {P = P} {H = H} a) component_counted seat left
  component_lost seat left lost = λ base held all. lost_held a (view base.seat) (map as_grant held) (view seat.seat) (view left.seat) lost.goes.portions (as_grant component_counted) (record { units = λ t. omega (arith, ap (total t) lost.units); counted = λ k. omega (arith, lost.counted k, one_component k) }) all

-- What the limiter was asked that a request lends: nothing, where the request is refused for want of memory before the pool is asked.
module _ {R X P H : Type 0} (told : R → LimiterTold) (leads : R → Exchange → R → Type 0) (what : Asked) (of : X → Grant P H) where
  pub asked_nothing : (before after : Option R) → after ≡ before → AskedBy told leads what of (Err refusal.Memory) before after
  asked_nothing None after same = same
  asked_nothing (Some old) None same = absurd (cc same)
  asked_nothing (Some old) (Some new) same = let one : new ≡ old = cc same in record {
    passed = [];
    exchanged = one;
    told = ap told one;
    made = inl refl;
    quiet = λ none. absurd none;
    cause = tt;
    says = (0, refl);
  }

  -- Of a module that breaks no rule it was asked so, and of another one nothing.
  pub asked_tested : (result : Result X AllocError) (rule : Option Unsupported) (before after : Option R) → rule ≡ None → AskedBy told leads what of result before after → AskedUnless told leads what of result rule before after
  asked_tested result None before after tested asked = asked
  asked_tested result (Some rule) before after tested asked = absurd (cc tested)

  pub asked_broken : (rule : Option Unsupported) (e : AllocError) (before after : Option R) → Err e ≡ refused_by rule → after ≡ before → AskedUnless told leads what of (Err e) rule before after
  asked_broken None e before after is same = absurd (cc is)
  asked_broken (Some u) e before after is same = let broken : e ≡ refusal.Unsupported u = cc is in (ap Err broken, same)

-- A module that breaks a rule is refused for it,
pub is_broken : (rule : Option Unsupported) (e : AllocError) → Err e ≡ refused_by rule → IsBroken rule e
is_broken None e is = absurd (cc is)
is_broken (Some u) e is = let broken : e ≡ refusal.Unsupported u = cc is in broken

-- and one that isn't breaks none.
pub no_rule : (rule : Option Unsupported) (x : Unit {0}) → Ok x ≡ refused_by rule → rule ≡ None
no_rule None x is = refl
no_rule (Some u) x is = absurd (cc is)
