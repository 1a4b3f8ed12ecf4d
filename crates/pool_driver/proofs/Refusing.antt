-- A step leaves a call so that it may end only as it might have before, and ends it as it may.
use Rattle.std.proofs.Common.{◌≡◌, ◌⊎◌, ⊎_elim, inl, inr, ℕ, ◌<◌, ◌^◌, Bool, true, false, List, length, refl, sym, ap, subst, ◌∙◌, arith, Option, Some, None, Result, Ok, Err, IfSome, nat_lt, nat_le, if◌then◌else◌, slice_get}
use Rattle.std.proofs.lemmas.Bool.{ltb-true, lt-ltb, le-leb}
use Rattle.pool_types.specs.MemoryTypes.{allow_growth_to, minimum_byte_size}
use Rattle.pool_types.specs.declared.module_types.MemoryDecl.{MemoryDecl}
use Rattle.pool_types.specs.declared.module_types.MemoryType.{MemoryType}
use Rattle.pool_types.specs.declared.table_type.TableType.{TableType}
use Rattle.pool_types.specs.declared.unsupported.Unsupported.{Unsupported}
use Rattle.pool_types.specs.declared.unsupported.Unsupported.TheVariants.{AddressSpace, MemoryMinimum, InitialSize, TableSize}
use Rattle.pool_pages.specs.Told.{Told}
use Rattle.pool_pages.specs.MakerTold.{MakerTold}
use Rattle.pool_images.specs.Images.{Image}
use Rattle.pool_images.specs.Slots.{Slot}
use Rattle.pool_limits.specs.declared.errors.LimiterError.{LimiterError}
use Rattle.pool_memory.specs.Making.{limits_answer, maximum_asked}
use Rattle.pool_memory.specs.Static.{static_capacity}
use Rattle.pool_memory.specs.declared.memory_error.MemoryError.TheVariants as unmade
use Rattle.pool_hall.specs.declared.unit_name.SlotKind.TheVariants.{Memory as memory_kind, Table as table_kind, Heap as heap_kind}
use Rattle.pool_hall.specs.declared.unit_name.SlotKind.{SlotKind}
use Rattle.pool_slots.specs.declared.errors.AllocError.{AllocError}
use Rattle.pool_slots.specs.declared.errors.AllocError.TheVariants as refusal
use Rattle.pool_slots.specs.declared.heap_maker.HeapMakeFault.{HeapMakeFault}
use Rattle.pool_slots.specs.declared.heap_maker.HeapMakeFault.TheVariants as no_heap
use Rattle.pool_alloc.specs.BetweenSteps.{IsAllocating, IsSettings, IsSupported}
use Rattle.pool_alloc.specs.Calls.{IfGranted, IsGrantOf}
use Rattle.pool_alloc.specs.CallStages.{FailsHeap as HeapFails, FailsObject, FindsNone, Follows, Goes, IsBroken, IsPageFaulted, IsUntested, Makes, MakesTable, Progress, Raises, Stage, untested, uncounted, admitted, seeks_single, seeks_stack, tests_heap, seeks_heap, counts_heap, no_call, keys, asks, tests_component, counts_component, returning, refusing, purging, reserving, releasing}
use Rattle.pool_alloc.specs.MemorySteps.{heap_refusal, made_for, made_of, made_of_limits}
use Rattle.pool_alloc.specs.PartyTold.{PartyTold}
use Rattle.pool_alloc.specs.PlainModules.{MemoryAsked}
use Rattle.pool_alloc.specs.Refusals.{heap_refused}
use Rattle.pool_alloc.specs.StepReads.{IsModule, heaps_wanted, kind_by, memories_wanted, singles_wanted, tables_wanted, HasMemories}
use Rattle.pool_alloc.specs.TableLeases.{LeasedTable}
use Rattle.pool_alloc.specs.TableSteps.{made_table, made_unless}
use Rattle.pool_alloc.specs.Turns.{limit_of}
use Rattle.pool_alloc.specs.declared.frame.Asked.{Asked}
use Rattle.pool_alloc.specs.declared.frame.Asked.TheVariants as asked_for
use Rattle.pool_alloc.specs.declared.frame.Frame.{Frame}
use Rattle.pool_alloc.specs.declared.frame.Grant.{Grant}
use Rattle.pool_alloc.specs.declared.frame.Grant.TheVariants.{Instance, Component, Memory as memory_granted, Table as table_granted, Stack, Heap, HeapOver}
use Rattle.pool_alloc.specs.declared.frame.Outcome.{Outcome}
use Rattle.pool_alloc.specs.declared.frame.Outcome.TheVariants.{Key, Granted, Returned, Purged, Released, Refused}
use Rattle.pool_alloc.specs.declared.frame.TakenSlot.{TakenSlot}
use Rattle.pool_alloc.specs.declared.pool_core.PoolCore.{PoolCore}
use Rattle.pool_alloc.specs.declared.pool_core.Settings.{Settings}
use Rattle.pool_alloc.specs.Objects.{objects_in}
use Rattle.pool_alloc.proofs.BeforeTheTurn.{kept_of}
use Rattle.pool_driver.proofs.Questions.{there_is}
use Rattle.pool_driver.specs.Refusing.{FailsHeap, FailsMemory, FailsModule, FailsSingle, FailsTable, IsCallFor, IsHeapLimit, IsMemoryAsked, IsMemoryLimit, IsModuleLimit, IsRequestFor, IsTableAsked, MayEnd, RequestGranted, RequestRefused, StackRefused, FailsHeapFor, FailsHeapOver, IsOverAsked}
use Rattle.pool_slots.specs.declared.allocation_index.MemoryAllocationIndex.{MemoryAllocationIndex}

-- Whatever wasn't made, the reason is one of these
abbrev pub IfFails : {X : Type 0} → (AllocError → Type 0) → Result X AllocError → Type 0
IfFails Q (Ok x) = Unit {0}
IfFails Q (Err e) = Q e

pub failed_so : {X : Type 0} (Q : AllocError → Type 0) (made : Result X AllocError) (e : AllocError) → made ≡ Err e → IfFails Q made → Q e
failed_so Q made e is fails = subst (IfFails Q) is fails

-- Why a memory isn't made, by what the limiter answered: each has its own reason.
module _ (Q : AllocError → Type 0) (answer : Result Bool LimiterError) (denied : (min : ℕ) → answer ≡ Ok false → Q (refusal.LimiterDenied false min)) (faulted : (x : LimiterError) → answer ≡ Err x → Q (refusal.LimiterFault x)) (space : answer ≡ Ok true → Q (refusal.Unsupported AddressSpace)) where
  -- a memory whose least size has 64 bits and fits its slot
  memory_fits : (room : ℕ) (slot : Slot) (ty : MemoryType) → nat_lt (minimum_byte_size ty) (2 ^ 64) ≡ true → nat_le (minimum_byte_size ty) room ≡ true → (r : Result Bool LimiterError) → answer ≡ r → IfFails Q (made_of_limits (limits_answer r ty) ty room slot)
  memory_fits room slot ty small fits (Err x) is = faulted x is
  memory_fits room slot ty small fits (Ok false) is = denied ty.limits.min is
  memory_fits room slot ty small fits (Ok true) is = subst (λ (b : Bool). Fails b (allow_growth_to ty (minimum_byte_size ty))) (sym small) (held _)
    where
      Fails : Bool → Bool → Type 0
      Fails b d = IfFails Q (made_of_limits (if b then (if d then Ok (minimum_byte_size ty, maximum_asked ty) else Err (unmade.Unsupported AddressSpace)) else Err (unmade.Unsupported (MemoryMinimum ty.limits.min))) ty room slot)

      held : (d : Bool) → Fails true d
      held true = subst (λ (b : Bool). IfFails Q (made_of ty (if b then Ok (record { slot = slot; size = minimum_byte_size ty; capacity = static_capacity room (maximum_asked ty) }) else Err (slot, InitialSize)))) (sym fits) tt
      held false = space is

  pub memory_fails : (s : Settings) → IsSettings s → (slot : Slot) (image : Option Image) (o : Option MemoryDecl) → (o ≡ None → Q refusal.Memory) → IfSome o (λ decl. IsSupported s decl image) → IfFails Q (made_for s.max_memory_size answer slot o)
  memory_fails s settings slot image None wants is = wants refl
  memory_fails s settings slot image (Some decl) wants is =
      memory_fits s.max_memory_size slot decl.ty (lt-ltb _ _ (omega (arith, is.minimum, settings.bounded, settings.page.at_least))) (le-leb _ _ is.minimum) answer refl

-- The same of a table.
module _ (Q : AllocError → Type 0) (answer : Result Bool LimiterError) (denied : (min : ℕ) → answer ≡ Ok false → Q (refusal.LimiterDenied true min)) (faulted : (x : LimiterError) → answer ≡ Err x → Q (refusal.LimiterFault x)) (sized : (min room : ℕ) → answer ≡ Ok true → room < min → Q (refusal.Unsupported (TableSize min room))) where
  table_fits : (room min : ℕ) (lease : LeasedTable) → answer ≡ Ok true → (b : Bool) → nat_lt room min ≡ b → IfFails Q (made_unless (if b then Some (refusal.Unsupported (TableSize min room)) else None) lease)
  table_fits room min lease is true long = sized min room is (ltb-true room min long)
  table_fits room min lease is false long = tt

  pub table_fails : (s : Settings) (at : TakenSlot) (region : Told) (o : Option TableType) → (o ≡ None → Q refusal.Memory) → (r : Result Bool LimiterError) → answer ≡ r → IfFails Q (made_table s r at region o)
  table_fails s at region None wants r is = wants refl
  table_fails s at region (Some ty) wants (Err x) is = faulted x is
  table_fails s at region (Some ty) wants (Ok false) is = denied ty.limits.min is
  table_fails s at region (Some ty) wants (Ok true) is = table_fits _ _ _ is _ refl

-- what a request has no slot of
module_limit : (a : Asked) (k stripe : ℕ) → IsModule a → IsModuleLimit (limit_of (kind_by a k) stripe)
module_limit (asked_for.Module m) k stripe is = by (nat_lt k (length m.info.memories))
  where
    by : (b : Bool) → IsModuleLimit (limit_of (if b then memory_kind else table_kind) stripe)
    by true = tt
    by false = tt
module_limit asked_for.Nothing k stripe is = absurd is
module_limit (asked_for.Memory m) k stripe is = absurd is
module_limit (asked_for.Table ty) k stripe is = absurd is
module_limit asked_for.Stack k stripe is = absurd is
module_limit (asked_for.Heap ty) k stripe is = absurd is
module_limit (asked_for.HeapOver memory) k stripe is = absurd is

heap_limit : (a : Asked) (k stripe : ℕ) → heaps_wanted a ≡ 1 → IsHeapLimit (limit_of (kind_by a k) stripe)
heap_limit (asked_for.Heap ty) k stripe is = by (nat_lt k 1)
  where
    by : (b : Bool) → IsHeapLimit (limit_of (if b then memory_kind else heap_kind) stripe)
    by true = tt
    by false = tt
heap_limit (asked_for.HeapOver memory) k stripe is = by (nat_lt k 0)
  where
    by : (b : Bool) → IsHeapLimit (limit_of (if b then memory_kind else heap_kind) stripe)
    by true = tt
    by false = tt
heap_limit asked_for.Nothing k stripe is = absurd (omega (arith, is))
heap_limit (asked_for.Memory m) k stripe is = absurd (omega (arith, is))
heap_limit (asked_for.Table ty) k stripe is = absurd (omega (arith, is))
heap_limit asked_for.Stack k stripe is = absurd (omega (arith, is))
heap_limit (asked_for.Module m) k stripe is = absurd (omega (arith, is))

-- a rule that is broken, or want of memory for the lists of one that breaks none
module_untested : (o : Option Unsupported) (e : AllocError) → IsUntested o e → IsBroken o e ⊎ ((o ≡ None) × FailsModule e)
module_untested (Some rule) e is = inl is
module_untested None e is = inr (refl, subst FailsModule (sym is) tt)

heap_untested : (o : Option Unsupported) (e : AllocError) → IsUntested o e → IsBroken o e ⊎ ((o ≡ None) × FailsHeap e)
heap_untested (Some rule) e is = inl is
heap_untested None e is = inr (refl, subst FailsHeap (sym is) tt)

heap_fault : (fault : HeapMakeFault) → FailsHeap (heap_refusal fault)
heap_fault no_heap.Memory = tt
heap_fault no_heap.HeapFault = tt

over_fault : (fault : HeapMakeFault) → FailsHeapOver (heap_refusal fault)
over_fault no_heap.Memory = tt
over_fault no_heap.HeapFault = tt

-- the only slot of a heap over a memory that there is is one of a heap
over_kind : (memory : MemoryAllocationIndex) (k : ℕ) → kind_by (asked_for.HeapOver memory) k ≡ heap_kind
over_kind memory k = by (nat_lt k 0) refl
  where
    by : (b : Bool) → nat_lt k 0 ≡ b → (if b then memory_kind else heap_kind) ≡ heap_kind
    by true is = absurd (omega (arith, ltb-true k 0 is))
    by false is = refl

-- a heap that has a memory of its own
with_memory_fails : (a : Asked) (e : AllocError) → HasMemories a → FailsHeap e → FailsHeapFor a e
with_memory_fails (asked_for.HeapOver memory) e has fails = absurd has
with_memory_fails a e has fails = fails

module _ {P H : Type 0} (maker : MakerTold) (old new : PartyTold) (c : PoolCore P H) (f : Frame P H) (settings : IsSettings c.settings) where
  -- Why a step fails a request is one of the reasons for which it may be refused.
  none_found : (n : ℕ) (e : AllocError) (Q : AllocError → Type 0) → ((limit : ℕ) → Q (refusal.Limit (record { limit = limit; kind = limit_of (kind_by f.asked (length f.objects.memories.items)) f.stripe }))) → FindsNone c f n e → Q e
  none_found n e Q limited finds = subst Q (sym finds.is) (limited _)

  module_raises : (n : ℕ) (e : AllocError) → IsModule f.asked → FindsNone c f n e ⊎ (IsPageFaulted maker c f n e ⊎ (Makes old new c f n (Err e) ⊎ MakesTable old new c f n (Err e))) → FailsModule e
  module_raises n e is = ⊎_elim
      (λ (finds : FindsNone c f n e). none_found n e FailsModule (λ limit. module_limit f.asked _ f.stripe is) finds)
      (⊎_elim
      (λ (faulted : IsPageFaulted maker c f n e). subst FailsModule (sym faulted.is) tt)
      (⊎_elim
      (λ (makes : Makes old new c f n (Err e)). failed_so FailsModule _ e makes.is (memory_fails FailsModule makes.given (λ min is. tt) (λ x is. tt) (λ is. tt) c.settings settings makes.held _ (slice_get (memories_wanted f.asked) (length f.objects.memories.items)) (λ none. tt) (makes.allocating.to_grant.supported.each (length f.objects.memories.items))))
      (λ (makes : MakesTable old new c f n (Err e)). failed_so FailsModule _ e makes.is (table_fails FailsModule makes.given (λ min is. tt) (λ x is. tt) (λ min room is long. long) c.settings makes.at makes.region (slice_get (tables_wanted f.asked) (length f.objects.tables.items)) (λ none. tt) makes.given refl))))

  heap_raises : (n : ℕ) (e : AllocError) → heaps_wanted f.asked ≡ 1 → FindsNone c f n e ⊎ (IsPageFaulted maker c f n e ⊎ (Makes old new c f n (Err e) ⊎ HeapFails old new c f n e)) → FailsHeap e
  heap_raises n e is = ⊎_elim
      (λ (finds : FindsNone c f n e). none_found n e FailsHeap (λ limit. heap_limit f.asked _ f.stripe is) finds)
      (⊎_elim
      (λ (faulted : IsPageFaulted maker c f n e). subst FailsHeap (sym faulted.is) tt)
      (⊎_elim
      (λ (makes : Makes old new c f n (Err e)). failed_so FailsHeap _ e makes.is (memory_fails FailsHeap makes.given (λ min is. refl) (λ x is. tt) (λ is. tt) c.settings settings makes.held _ (slice_get (memories_wanted f.asked) (length f.objects.memories.items)) (λ none. tt) (makes.allocating.to_grant.supported.each (length f.objects.memories.items))))
      (λ (fails : HeapFails old new c f n e). subst FailsHeap (sym fails.1.1.1) (heap_fault fails.0))))

  -- and over a memory that there is none is made
  over_raises : (memory : MemoryAllocationIndex) (n : ℕ) (e : AllocError) → f.asked ≡ asked_for.HeapOver memory → FindsNone c f n e ⊎ (IsPageFaulted maker c f n e ⊎ (Makes old new c f n (Err e) ⊎ HeapFails old new c f n e)) → FailsHeapOver e
  over_raises memory n e is =
      let none : length (memories_wanted f.asked) ≡ 0 = ap (λ (a : Asked). length (memories_wanted a)) is in
      ⊎_elim
      (λ (finds : FindsNone c f n e). none_found n e FailsHeapOver (λ limit. ap (λ (a : Asked). limit_of (kind_by a (length f.objects.memories.items)) f.stripe) is ∙ ap (λ (k : SlotKind). limit_of k f.stripe) (over_kind memory (length f.objects.memories.items))) finds)
      (⊎_elim
      (λ (faulted : IsPageFaulted maker c f n e). absurd (omega (arith, faulted.next, none)))
      (⊎_elim
      (λ (makes : Makes old new c f n (Err e)). absurd (omega (arith, makes.next, none)))
      (λ (fails : HeapFails old new c f n e). subst FailsHeapOver (sym fails.1.1.1) (over_fault fails.0))))

  heap_raises_for : (a : Asked) (n : ℕ) (e : AllocError) → f.asked ≡ a → heaps_wanted f.asked ≡ 1 → FindsNone c f n e ⊎ (IsPageFaulted maker c f n e ⊎ (Makes old new c f n (Err e) ⊎ HeapFails old new c f n e)) → FailsHeapFor a e
  heap_raises_for (asked_for.HeapOver memory) n e is one raises = over_raises memory n e is raises
  heap_raises_for a n e is one raises = heap_raises n e one raises

  -- A request for an object by itself has none yet.
  none_single : IsAllocating c.settings c.plan f → singles_wanted f.asked ≡ 1 → objects_in f.objects ≡ 0
  none_single allocating one = omega (arith, allocating.to_grant.few, allocating.to_grant.few_tables, (kept_of f.asked).single one)

  not_none : {X : Type 0} (xs : List X) (k : ℕ) → k < length xs → slice_get xs k ≡ None → ⊥
  not_none xs k below none = let there = there_is xs k below in let both : Some there.0 ≡ None = sym there.1 ∙ none in cc

  single_kind : (what : Asked) → f.asked ≡ what → objects_in f.objects ≡ 0 → limit_of (kind_by f.asked (length f.objects.memories.items)) f.stripe ≡ limit_of (kind_by what 0) f.stripe
  single_kind what is none =
      let first : length f.objects.memories.items ≡ 0 = omega (arith, none) in
      ap (λ (a : Asked). limit_of (kind_by a (length f.objects.memories.items)) f.stripe) is ∙ ap (λ (k : ℕ). limit_of (kind_by what k) f.stripe) first

  memory_raises : (n : ℕ) (e : AllocError) (m : MemoryAsked) → f.asked ≡ asked_for.Memory m → FailsObject maker old new c f n e → FailsMemory e
  memory_raises n e m is =
      let one : singles_wanted f.asked ≡ 1 = ap singles_wanted is in
      ⊎_elim
      (λ (finds : FindsNone c f n e). none_found n e FailsMemory (λ limit. subst IsMemoryLimit (sym (single_kind (asked_for.Memory m) is (none_single finds.allocating one))) tt) finds)
      (⊎_elim
      (λ (faulted : IsPageFaulted maker c f n e). subst FailsMemory (sym faulted.is) tt)
      (⊎_elim
      (λ (makes : Makes old new c f n (Err e)). failed_so FailsMemory _ e makes.is (memory_fails FailsMemory makes.given (λ min is. refl) (λ x is. tt) (λ is. tt) c.settings settings makes.held _ (slice_get (memories_wanted f.asked) (length f.objects.memories.items)) (not_none (memories_wanted f.asked) (length f.objects.memories.items) makes.next) (makes.allocating.to_grant.supported.each (length f.objects.memories.items))))
      (λ (makes : MakesTable old new c f n (Err e)). absurd (omega (arith, none_single makes.allocating one, makes.next.0, ap (λ (a : Asked). length (memories_wanted a)) is)))))

  table_raises : (n : ℕ) (e : AllocError) (ty : TableType) → f.asked ≡ asked_for.Table ty → FailsObject maker old new c f n e → FailsTable e
  table_raises n e ty is =
      let one : singles_wanted f.asked ≡ 1 = ap singles_wanted is in
      let no_memory : length (memories_wanted f.asked) ≡ 0 = ap (λ (a : Asked). length (memories_wanted a)) is in
      let a_table : length (tables_wanted f.asked) ≡ 1 = ap (λ (a : Asked). length (tables_wanted a)) is in
      ⊎_elim
      (λ (finds : FindsNone c f n e). none_found n e FailsTable (λ limit. single_kind (asked_for.Table ty) is (none_single finds.allocating one)) finds)
      (⊎_elim
      (λ (faulted : IsPageFaulted maker c f n e). absurd (omega (arith, faulted.next, no_memory)))
      (⊎_elim
      (λ (makes : Makes old new c f n (Err e)). absurd (omega (arith, makes.next, no_memory)))
      (λ (makes : MakesTable old new c f n (Err e)). failed_so FailsTable _ e makes.is (table_fails FailsTable makes.given (λ min is. refl) (λ x is. tt) (λ min room is long. long) c.settings makes.at makes.region (slice_get (tables_wanted f.asked) (length f.objects.tables.items)) (not_none (tables_wanted f.asked) (length f.objects.tables.items) (omega (arith, none_single makes.allocating one, a_table))) makes.given refl))))

  single_raises : (n : ℕ) (e : AllocError) (what : Asked) → f.asked ≡ what → singles_wanted what ≡ 1 → FailsObject maker old new c f n e → FailsSingle what e
  single_raises n e (asked_for.Memory m) is one raises = memory_raises n e m is raises
  single_raises n e (asked_for.Table ty) is one raises = table_raises n e ty is raises
  single_raises n e asked_for.Nothing is one raises = absurd (omega (arith, one))
  single_raises n e (asked_for.Module m) is one raises = absurd (omega (arith, one))
  single_raises n e asked_for.Stack is one raises = absurd (omega (arith, one))
  single_raises n e (asked_for.Heap ty) is one raises = absurd (omega (arith, one))
  single_raises n e (asked_for.HeapOver memory) is one raises = absurd (omega (arith, one))

  raises_so : (p : Progress) (e : AllocError) → IsRequestFor p f.asked → Raises maker old new c f p e → RequestRefused c.settings c.plan f.asked p e
  raises_so untested e is raises = module_untested _ e raises
  raises_so uncounted e is raises = subst FailsModule (sym raises.0) tt
  raises_so (admitted n) e is raises = module_raises n e is raises
  raises_so (seeks_single n) e is raises = single_raises n e f.asked refl is raises
  raises_so seeks_stack e is raises = ⊎_elim
      (λ (disabled : (e ≡ refusal.StacksDisabled) × (c.settings.stack_size ≡ 0)). subst (StackRefused c.settings) (sym disabled.0) disabled.1)
      (λ (finds : FindsNone c f 0 e). none_found 0 e (StackRefused c.settings) (λ limit. ap (λ (a : Asked). limit_of (kind_by a (length f.objects.memories.items)) f.stripe) is) finds)
      raises
  raises_so tests_heap e is raises = ⊎_elim
      (λ (disabled : (c.settings.tunables.tunables.collector ≡ false) × (e ≡ refusal.HeapsDisabled)). inl disabled)
      (λ (enabled : (c.settings.tunables.tunables.collector ≡ true) × HasMemories f.asked × IsUntested (heap_refused c.settings f.asked) e). ⊎_elim
      (λ (broken : IsBroken (heap_refused c.settings f.asked) e). inr (inl (enabled.0, broken)))
      (λ (fails : (heap_refused c.settings f.asked ≡ None) × FailsHeap e). inr (inr ((enabled.0, fails.0), with_memory_fails f.asked e enabled.1 fails.1)))
      (heap_untested (heap_refused c.settings f.asked) e enabled.2))
      raises
  raises_so (seeks_heap n) e is raises = heap_raises_for f.asked n e refl is raises
  raises_so counts_heap e is raises = absurd raises

  -- A step takes a request on so that it may be refused, or granted, only as it might have been.
  refused_before : (p q : Progress) (e : AllocError) → Follows old new c f p q → RequestRefused c.settings c.plan f.asked q e → RequestRefused c.settings c.plan f.asked p e
  refused_before untested uncounted e follows refused = inr (follows, refused)
  refused_before uncounted (admitted n) e follows refused = refused
  refused_before (admitted n) (admitted m) e follows refused = refused
  refused_before (seeks_single n) (seeks_single m) e follows refused = refused
  refused_before seeks_stack seeks_stack e follows refused = refused
  refused_before tests_heap (seeks_heap n) e follows refused = inr (inr ((follows.1.enabled, follows.1.rules), refused))
  refused_before (seeks_heap n) (seeks_heap m) e follows refused = refused
  refused_before (seeks_heap n) counts_heap e follows refused = absurd refused
  refused_before p q e follows refused = absurd follows

  granted_before : (p q : Progress) (grant : Grant P H) → Follows old new c f p q → RequestGranted c.settings c.plan f.asked q grant → RequestGranted c.settings c.plan f.asked p grant
  granted_before untested uncounted (Instance lease) follows granted = follows
  granted_before untested uncounted grant follows granted = absurd granted
  granted_before uncounted (admitted n) (Instance lease) follows granted = tt
  granted_before uncounted (admitted n) grant follows granted = absurd granted
  granted_before (admitted n) (admitted m) (Instance lease) follows granted = tt
  granted_before (admitted n) (admitted m) grant follows granted = absurd granted
  granted_before (seeks_single n) (seeks_single m) (memory_granted lease) follows granted = granted
  granted_before (seeks_single n) (seeks_single m) (table_granted lease) follows granted = granted
  granted_before (seeks_single n) (seeks_single m) grant follows granted = absurd granted
  granted_before seeks_stack seeks_stack grant follows granted = granted
  granted_before tests_heap (seeks_heap n) (Heap lease memory) follows granted = ((follows.1.enabled, follows.1.rules), granted)
  granted_before tests_heap (seeks_heap n) (HeapOver lease) follows granted = ((follows.1.enabled, follows.1.rules), granted)
  granted_before tests_heap (seeks_heap n) grant follows granted = absurd granted
  granted_before (seeks_heap n) (seeks_heap m) (Heap lease memory) follows granted = granted
  granted_before (seeks_heap n) (seeks_heap m) (HeapOver lease) follows granted = granted
  granted_before (seeks_heap n) (seeks_heap m) grant follows granted = absurd granted
  granted_before (seeks_heap n) counts_heap (Heap lease memory) follows granted = granted
  granted_before (seeks_heap n) counts_heap (HeapOver lease) follows granted = granted
  granted_before (seeks_heap n) counts_heap grant follows granted = absurd granted
  granted_before p q grant follows granted = absurd follows

  request_before : (p q : Progress) (o : Outcome P H) → Follows old new c f p q → MayEnd c.settings c.plan f.asked (asks q) o → MayEnd c.settings c.plan f.asked (asks p) o
  request_before p q (Granted grant) follows may = granted_before p q grant follows may
  request_before p q (Refused e) follows may = refused_before p q e follows may
  request_before p q o follows may = absurd may

  -- a request that fails may be refused so before
  fails_before : (p : Progress) (e : AllocError) (o : Outcome P H) → IsRequestFor p f.asked → Raises maker old new c f p e → MayEnd c.settings c.plan f.asked (refusing e) o → MayEnd c.settings c.plan f.asked (asks p) o
  fails_before p e (Refused d) is raises may = subst (RequestRefused c.settings c.plan f.asked p) (sym may) (raises_so p e is raises)
  fails_before p e o is raises may = absurd may

  pub ends_before : (s t : Stage) (o : Outcome P H) → IsCallFor s f.asked → Goes maker old new c f s t None → MayEnd c.settings c.plan f.asked t o → MayEnd c.settings c.plan f.asked s o
  ends_before no_call no_call o is goes may = may
  ends_before keys no_call o is goes may = absurd goes
  ends_before (asks p) (asks q) o is goes may = request_before p q o goes may
  ends_before (asks p) (refusing e) o is goes may = fails_before p e o is goes may
  ends_before (tests_component info) counts_component (Granted Component) is goes may = goes
  ends_before (tests_component info) counts_component (Refused e) is goes may = inr (goes, may)
  ends_before (tests_component info) counts_component o is goes may = absurd may
  ends_before counts_component (refusing e) (Refused d) is goes may = may ∙ goes.0
  ends_before counts_component (refusing e) o is goes may = absurd may
  ends_before returning returning o is goes may = may
  ends_before (refusing e) (refusing d) (Refused x) is goes may = may ∙ goes
  ends_before (refusing e) (refusing d) o is goes may = absurd may
  ends_before purging purging o is goes may = may
  ends_before reserving releasing (Released n) is goes may = tt
  ends_before reserving releasing o is goes may = absurd may
  ends_before releasing releasing o is goes may = may
  ends_before s t o is goes may = absurd goes

  -- A step answers a call as it may end.
  pub ends_so : (s t : Stage) (o : Outcome P H) → IsCallFor s f.asked → IfGranted (IsGrantOf maker c.settings c.plan f.asked) (Some o) → Goes maker old new c f s t (Some o) → MayEnd c.settings c.plan f.asked s o
  ends_so no_call no_call o is of goes = absurd goes
  ends_so keys no_call Key is of goes = tt
  ends_so (asks p) no_call (Granted (memory_granted lease)) is of goes = granted_before p (seeks_single 1) (memory_granted lease) goes (subst IsMemoryAsked (sym of.asked_for) tt)
  ends_so (asks p) no_call (Granted (table_granted lease)) is of goes = granted_before p (seeks_single 1) (table_granted lease) goes (subst IsTableAsked (sym of.asked_for) tt)
  ends_so (asks p) no_call (Granted (Stack lease)) is of goes = granted_before p seeks_stack (Stack lease) goes.0 goes.1
  ends_so (asks p) no_call (Granted (Instance lease)) is of goes = granted_before p (admitted _) (Instance lease) goes.0 tt
  ends_so (asks counts_heap) no_call (Granted (Heap lease memory)) is of goes = subst HasMemories (sym of.asked_for) tt
  ends_so (asks counts_heap) no_call (Granted (HeapOver lease)) is of goes = subst IsOverAsked (sym of.asked_for) tt
  ends_so (asks untested) no_call (Refused e) is of goes = raises_so untested e is goes
  ends_so (asks (seeks_single n)) no_call (Refused e) is of goes = raises_so (seeks_single n) e is goes.0
  ends_so (asks seeks_stack) no_call (Refused e) is of goes = raises_so seeks_stack e is goes
  ends_so (asks tests_heap) no_call (Refused e) is of goes = raises_so tests_heap e is goes
  ends_so (asks (seeks_heap n)) no_call (Refused e) is of goes = raises_so (seeks_heap n) e is goes.0
  ends_so (tests_component info) no_call (Refused e) is of goes = inl goes
  ends_so counts_component no_call (Granted Component) is of goes = tt
  ends_so returning no_call Returned is of goes = tt
  ends_so (refusing e) no_call (Refused d) is of goes = goes
  ends_so purging no_call (Purged n) is of goes = tt
  ends_so reserving no_call (Refused e) is of goes = goes
  ends_so releasing no_call (Released n) is of goes = tt
  ends_so s t o is of goes = absurd goes

  -- It stays a call for what it was.
  for_next : (a : Asked) (p q : Progress) → Follows old new c f p q → IsRequestFor p a → IsRequestFor q a
  for_next a untested uncounted follows is = is
  for_next a uncounted (admitted n) follows is = is
  for_next a (admitted n) (admitted m) follows is = is
  for_next a (seeks_single n) (seeks_single m) follows is = is
  for_next a seeks_stack seeks_stack follows is = is
  for_next a tests_heap (seeks_heap n) follows is = is
  for_next a (seeks_heap n) (seeks_heap m) follows is = is
  for_next a (seeks_heap n) counts_heap follows is = is
  for_next a p q follows is = absurd follows

  pub stays_for : (a : Asked) (s t : Stage) → Goes maker old new c f s t None → IsCallFor s a → IsCallFor t a
  stays_for a no_call no_call goes is = tt
  stays_for a keys no_call goes is = absurd goes
  stays_for a (asks p) (asks q) goes is = for_next a p q goes is
  stays_for a (asks p) (refusing e) goes is = tt
  stays_for a (tests_component info) counts_component goes is = tt
  stays_for a counts_component (refusing e) goes is = tt
  stays_for a returning returning goes is = tt
  stays_for a (refusing e) (refusing d) goes is = tt
  stays_for a purging purging goes is = tt
  stays_for a reserving releasing goes is = tt
  stays_for a releasing releasing goes is = tt
  stays_for a s t goes is = absurd goes
