-- Want of memory for a heap over a memory that there is comes from its maker, and from nobody else.
use Rattle.std.proofs.Common.{◌≡◌, ◌⊎◌, ⊎_elim, inl, inr, ℕ, refl, sym, ap, subst, ◌∙◌, arith, Option, Some, None, Err, length}
use Rattle.pool_types.specs.declared.unsupported.Unsupported.{Unsupported}
use Rattle.pool_pages.specs.MakerTold.{MakerTold}
use Rattle.pool_slots.specs.HeapsTold.{HeapsTold}
use Rattle.pool_slots.specs.declared.allocation_index.MemoryAllocationIndex.{MemoryAllocationIndex}
use Rattle.pool_slots.specs.declared.errors.AllocError.{AllocError}
use Rattle.pool_slots.specs.declared.errors.AllocError.TheVariants as refusal
use Rattle.pool_slots.specs.declared.errors.PoolConcurrencyLimitError.{PoolConcurrencyLimitError}
use Rattle.pool_slots.specs.declared.heap_maker.HeapMakeFault.{HeapMakeFault}
use Rattle.pool_slots.specs.declared.heap_maker.HeapMakeFault.TheVariants as no_heap
use Rattle.pool_alloc.specs.CallStages.{FailsHeap, FindsNone, IsBroken, IsPageFaulted, Makes, Progress, Raises, untested, uncounted, admitted, seeks_single, seeks_stack, tests_heap, seeks_heap, counts_heap}
use Rattle.pool_alloc.specs.MemorySteps.{heap_refusal}
use Rattle.pool_alloc.specs.PartyTold.{PartyTold, MakesHeap}
use Rattle.pool_alloc.specs.StepReads.{HasMemories, IsModule, memories_wanted, singles_wanted}
use Rattle.pool_alloc.specs.declared.frame.Asked.{Asked}
use Rattle.pool_alloc.specs.declared.frame.Asked.TheVariants as asked_for
use Rattle.pool_alloc.specs.declared.frame.Call.{Call}
use Rattle.pool_alloc.specs.declared.frame.Call.TheVariants as call
use Rattle.pool_alloc.specs.declared.frame.Frame.{Frame}
use Rattle.pool_alloc.specs.declared.frame.Outcome.{Outcome}
use Rattle.pool_alloc.specs.declared.frame.Outcome.TheVariants.{Key, Granted, Returned, Purged, Released, Refused}
use Rattle.pool_alloc.specs.declared.pool_core.PoolCore.{PoolCore}
use Rattle.pool_alloc.specs.CallStages.{stage_of}
use Rattle.pool_alloc.specs.Calls.{begun_call}
use Rattle.pool_driver.specs.Asking.{CallWants, IfRefused, WantsOfMaker}
use Rattle.pool_driver.specs.Calling.{asks_for, kind_at}
use Rattle.pool_driver.specs.Refusing.{IsRequestFor}

-- other refusals say nothing of memory
pub limit_wants : (H : Type 0) (what : Asked) (old new : HeapsTold) (l : PoolConcurrencyLimitError) → WantsOfMaker H what old new (refusal.Limit l)
limit_wants H (asked_for.HeapOver memory) old new l = tt
limit_wants H what old new l = tt

rule_wants : (H : Type 0) (what : Asked) (old new : HeapsTold) (rule : Unsupported) → WantsOfMaker H what old new (refusal.Unsupported rule)
rule_wants H (asked_for.HeapOver memory) old new rule = tt
rule_wants H what old new rule = tt

pub broken_wants : (H : Type 0) (what : Asked) (old new : HeapsTold) (o : Option Unsupported) (e : AllocError) → IsBroken o e → WantsOfMaker H what old new e
broken_wants H what old new (Some rule) e is = subst (WantsOfMaker H what old new) (sym is) (rule_wants H what old new rule)
broken_wants H what old new None e is = absurd is

-- the maker's own want of memory
makers_want : (H : Type 0) (old new : HeapsTold) (fault : HeapMakeFault) → refusal.Memory ≡ heap_refusal fault → MakesHeap {H = H} (Err fault) old new → MakesHeap {H = H} (Err no_heap.Memory) old new
makers_want H old new no_heap.Memory is makes = makes
makers_want H old new no_heap.HeapFault is makes = absurd (let apart : refusal.Memory ≡ refusal.HeapFault = is in cc)

module _ {P H : Type 0} (maker : MakerTold) (old new : PartyTold) (c : PoolCore P H) (f : Frame P H) where
  over_untested : (memory : MemoryAllocationIndex) → f.asked ≡ asked_for.HeapOver memory → Raises maker old new c f tests_heap refusal.Memory → MakesHeap {H = H} (Err no_heap.Memory) old.heaps new.heaps
  over_untested memory is raises =
      elim raises [
        | inl off ↦ absurd (let apart : refusal.Memory ≡ refusal.HeapsDisabled = off.1 in cc)
        | inr on ↦ absurd (subst HasMemories is on.1)
      ]

  over_seeks : (memory : MemoryAllocationIndex) (n : ℕ) → f.asked ≡ asked_for.HeapOver memory → FindsNone c f n refusal.Memory ⊎ (IsPageFaulted maker c f n refusal.Memory ⊎ (Makes old new c f n (Err refusal.Memory) ⊎ FailsHeap old new c f n refusal.Memory)) → MakesHeap {H = H} (Err no_heap.Memory) old.heaps new.heaps
  over_seeks memory n is =
      let none : length (memories_wanted f.asked) ≡ 0 = ap (λ (a : Asked). length (memories_wanted a)) is in
      ⊎_elim
      (λ (finds : FindsNone c f n refusal.Memory). absurd (let apart = finds.is in cc))
      (⊎_elim
      (λ (faulted : IsPageFaulted maker c f n refusal.Memory). absurd (omega (arith, faulted.next, none)))
      (⊎_elim
      (λ (makes : Makes old new c f n (Err refusal.Memory)). absurd (omega (arith, makes.next, none)))
      (λ (fails : FailsHeap old new c f n refusal.Memory). makers_want H old.heaps new.heaps fails.0 fails.1.1.1 fails.1.1.0)))

  over_raises : (memory : MemoryAllocationIndex) (p : Progress) → f.asked ≡ asked_for.HeapOver memory → IsRequestFor p f.asked → Raises maker old new c f p refusal.Memory → MakesHeap {H = H} (Err no_heap.Memory) old.heaps new.heaps
  over_raises memory untested is for raises = absurd (subst IsModule is for)
  over_raises memory uncounted is for raises = absurd (subst IsModule is for)
  over_raises memory (admitted n) is for raises = absurd (subst IsModule is for)
  over_raises memory (seeks_single n) is for raises = absurd (let one : singles_wanted (asked_for.HeapOver memory) ≡ 1 = subst (λ (a : Asked). singles_wanted a ≡ 1) is for in omega (arith, one))
  over_raises memory seeks_stack is for raises = absurd (let other : asked_for.HeapOver memory ≡ asked_for.Stack = sym is ∙ for in cc)
  over_raises memory tests_heap is for raises = over_untested memory is raises
  over_raises memory (seeks_heap n) is for raises = over_seeks memory n is raises
  over_raises memory counts_heap is for raises = absurd raises

  -- Why a step fails a request is that the maker wants memory, where want of memory is the reason.
  pub raise_wants : (what : Asked) (p : Progress) (e : AllocError) → f.asked ≡ what → IsRequestFor p f.asked → Raises maker old new c f p e → WantsOfMaker H what old.heaps new.heaps e
  raise_wants (asked_for.HeapOver memory) p refusal.Memory is for raises = over_raises memory p is for raises
  raise_wants what p e is for raises = tt

module _ {P H : Type 0} where
  no_wants : (c : Call P H) (old new : HeapsTold) → ((e : AllocError) → CallWants c old new e) → (o : Outcome P H) → IfRefused (CallWants c old new) o
  no_wants c old new all (Refused e) = all e
  no_wants c old new all Key = tt
  no_wants c old new all (Granted grant) = tt
  no_wants c old new all Returned = tt
  no_wants c old new all (Purged n) = tt
  no_wants c old new all (Released n) = tt

  -- What want of memory says of a call that began, it says of the call.
  pub call_wants : (c : Call P H) (f : Frame P H) (o : Outcome P H) (old new : HeapsTold) → (kind_at (stage_of (begun_call c f)) ≡ asks_for → IfRefused (WantsOfMaker H (begun_call c f).asked old new) o) → IfRefused (CallWants c old new) o
  call_wants (call.HeapOver memory) f o old new wants = wants refl
  call_wants c f o old new wants = no_wants c old new (λ e. tt) o
