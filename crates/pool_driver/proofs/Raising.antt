-- What is so of each error with which a step may refuse a call: of each that is no limit, of the refusal for room, and of those by a
-- counter.
use Rattle.std.proofs.Common.{◌≡◌, ⊎_elim, ℕ, length, sym, refl, subst, true, false, Option, Some, None, Result, Err}
use Rattle.std.specs.Prelude.{slice_get}
use Rattle.pool_types.specs.declared.unsupported.Unsupported.{Unsupported}
use Rattle.pool_pages.specs.MakerTold.{MakerTold}
use Rattle.pool_slots.specs.declared.errors.AllocError.{AllocError}
use Rattle.pool_slots.specs.declared.errors.AllocError.TheVariants as refusal
use Rattle.pool_alloc.specs.CallStages.{FailsHeap, FindsNone, Goes, IsBroken, IsPageFaulted, IsUntested, Makes, MakesTable, Progress, Raises, Stage, admitted, asks, counts_component, counts_heap, keys, no_call, purging, refusing, releasing, reserving, returning, seeks_heap, seeks_single, seeks_stack, tests_component, tests_heap, uncounted, untested}
use Rattle.pool_alloc.specs.MemorySteps.{heap_refusal, memory_made}
use Rattle.pool_alloc.specs.PartyTold.{PartyTold}
use Rattle.pool_alloc.specs.Refusals.{heap_refused}
use Rattle.pool_alloc.specs.StepReads.{memories_wanted, tables_wanted, HasMemories}
use Rattle.pool_alloc.specs.StepTable.{no_component_left, no_instance_left}
use Rattle.pool_alloc.specs.TableSteps.{table_made}
use Rattle.pool_alloc.specs.declared.frame.Frame.{Frame}
use Rattle.pool_alloc.specs.declared.frame.Outcome.{Outcome}
use Rattle.pool_alloc.specs.declared.frame.Outcome.TheVariants.{Key, Granted, Returned, Purged, Released, Refused}
use Rattle.pool_alloc.specs.declared.pool_core.PoolCore.{PoolCore}
use Rattle.pool_driver.specs.Limits.{IfRefused, IfRefusing}
use Rattle.pool_driver.proofs.TellingRows.{FailsUnlimited, IsUnlimited, heap_error, memory_fails, table_fails}

-- A call that finds no room asks for objects, which may be known then.
module _ {P H : Type 0} (maker : MakerTold) (old new : PartyTold) (c : PoolCore P H) (f : Frame P H) (Q : AllocError → Type 0) (unlimited : (e : AllocError) → IsUnlimited e → Q e) (Asks : Type 0) (room : Asks → (n : ℕ) (e : AllocError) → FindsNone c f n e → Q e) (instances : Q (no_instance_left c.settings)) (components : Q (no_component_left c.settings)) where
  so_of : (e d : AllocError) → e ≡ d → Q d → Q e
  so_of e d is so = subst Q (sym is) so

  not_limit : (e d : AllocError) → e ≡ d → IsUnlimited d → Q e
  not_limit e d is none = so_of e d is (unlimited d none)

  untested_so : (o : Option Unsupported) (e : AllocError) → IsUntested o e → Q e
  untested_so (Some rule) e is = not_limit e (refusal.Unsupported rule) is tt
  untested_so None e is = not_limit e refusal.Memory is tt

  broken_so : (o : Option Unsupported) (e : AllocError) → IsBroken o e → Q e
  broken_so (Some rule) e is = not_limit e (refusal.Unsupported rule) is tt
  broken_so None e is = absurd is

  made_so : {X : Type 0} (r : Result X AllocError) (e : AllocError) → FailsUnlimited r → r ≡ Err e → Q e
  made_so {X} r e fails is = unlimited e (subst (λ (z : Result X AllocError). FailsUnlimited z) is fails)

  faulted_so : (n : ℕ) (e : AllocError) → IsPageFaulted maker c f n e → Q e
  faulted_so n e faulted = not_limit e refusal.PageFault faulted.is tt

  memory_so : (n : ℕ) (e : AllocError) → Makes old new c f n (Err e) → Q e
  memory_so n e makes =
      made_so (memory_made c.settings (memories_wanted f.asked) (length f.objects.memories.items) makes.given makes.held) e
      (memory_fails c.settings.max_memory_size makes.given makes.held (slice_get (memories_wanted f.asked) (length f.objects.memories.items))) makes.is

  table_so : (n : ℕ) (e : AllocError) → MakesTable old new c f n (Err e) → Q e
  table_so n e makes =
      made_so (table_made c.settings (tables_wanted f.asked) (length f.objects.tables.items) makes.given makes.at makes.region) e
      (table_fails c.settings makes.given makes.at makes.region (slice_get (tables_wanted f.asked) (length f.objects.tables.items))) makes.is

  heap_so : (n : ℕ) (e : AllocError) → FailsHeap old new c f n e → Q e
  heap_so n e fails = not_limit e (heap_refusal fails.0) fails.1.1.1 (heap_error fails.0)

  -- It is so of what a step raises,
  raised_so : Asks → (p : Progress) (e : AllocError) → Raises maker old new c f p e → Q e
  raised_so asking untested e raised = untested_so _ e raised
  raised_so asking uncounted e raised = so_of e (no_instance_left c.settings) raised.0 instances
  raised_so asking seeks_stack e raised = ⊎_elim (λ (off : (e ≡ refusal.StacksDisabled) × (c.settings.stack_size ≡ 0)). not_limit e refusal.StacksDisabled off.0 tt) (λ (none : FindsNone c f 0 e). room asking 0 e none) raised
  raised_so asking tests_heap e raised = ⊎_elim
      (λ (off : (c.settings.tunables.tunables.collector ≡ false) × (e ≡ refusal.HeapsDisabled)). not_limit e refusal.HeapsDisabled off.1 tt)
      (λ (rule : (c.settings.tunables.tunables.collector ≡ true) × HasMemories f.asked × IsUntested (heap_refused c.settings f.asked) e). untested_so _ e rule.2)
      raised
  raised_so asking (seeks_heap n) e raised = ⊎_elim
      (λ (none : FindsNone c f n e). room asking n e none)
      (⊎_elim (λ (faulted : IsPageFaulted maker c f n e). faulted_so n e faulted) (⊎_elim (λ (makes : Makes old new c f n (Err e)). memory_so n e makes) (λ (fails : FailsHeap old new c f n e). heap_so n e fails)))
      raised
  raised_so asking counts_heap e raised = absurd raised
  raised_so asking (seeks_single n) e raised = ⊎_elim
      (λ (none : FindsNone c f n e). room asking n e none)
      (⊎_elim (λ (faulted : IsPageFaulted maker c f n e). faulted_so n e faulted) (⊎_elim (λ (makes : Makes old new c f n (Err e)). memory_so n e makes) (λ (makes : MakesTable old new c f n (Err e)). table_so n e makes)))
      raised
  raised_so asking (admitted n) e raised = ⊎_elim
      (λ (none : FindsNone c f n e). room asking n e none)
      (⊎_elim (λ (faulted : IsPageFaulted maker c f n e). faulted_so n e faulted) (⊎_elim (λ (makes : Makes old new c f n (Err e)). memory_so n e makes) (λ (makes : MakesTable old new c f n (Err e)). table_so n e makes)))
      raised

  -- of the refusal that a call goes on with, if it was,
  pub next_so : (s t : Stage) → ((p : Progress) → s ≡ asks p → Asks) → Goes maker old new c f s t None → IfRefusing Q s → IfRefusing Q t
  next_so no_call no_call asking goes had = tt
  next_so keys no_call asking goes had = absurd goes
  next_so (asks p) (asks q) asking goes had = tt
  next_so (asks p) (refusing e) asking goes had = raised_so (asking p refl) p e goes
  next_so (tests_component info) counts_component asking goes had = tt
  next_so counts_component (refusing e) asking goes had = so_of e (no_component_left c.settings) goes.0 components
  next_so returning returning asking goes had = tt
  next_so (refusing e) (refusing d) asking goes had = so_of d e goes had
  next_so purging purging asking goes had = tt
  next_so reserving releasing asking goes had = tt
  next_so releasing releasing asking goes had = tt
  next_so s t asking goes had = absurd goes

  -- and of the one that it ends with.
  refused_so : (e : AllocError) (s t : Stage) → ((p : Progress) → s ≡ asks p → Asks) → Goes maker old new c f s t (Some (Refused e)) → IfRefusing Q s → Q e
  refused_so e no_call no_call asking goes had = absurd goes
  refused_so e keys no_call asking goes had = absurd goes
  refused_so e counts_component no_call asking goes had = absurd goes
  refused_so e returning no_call asking goes had = absurd goes
  refused_so e purging no_call asking goes had = absurd goes
  refused_so e releasing no_call asking goes had = absurd goes
  refused_so e (asks untested) no_call asking goes had = raised_so (asking untested refl) untested e goes
  refused_so e (asks (seeks_single n)) no_call asking goes had = raised_so (asking (seeks_single n) refl) (seeks_single n) e goes.0
  refused_so e (asks seeks_stack) no_call asking goes had = raised_so (asking seeks_stack refl) seeks_stack e goes
  refused_so e (asks tests_heap) no_call asking goes had = raised_so (asking tests_heap refl) tests_heap e goes
  refused_so e (asks (seeks_heap n)) no_call asking goes had = raised_so (asking (seeks_heap n) refl) (seeks_heap n) e goes.0
  refused_so e (asks uncounted) no_call asking goes had = absurd goes
  refused_so e (asks counts_heap) no_call asking goes had = absurd goes
  refused_so e (asks (admitted n)) no_call asking goes had = absurd goes
  refused_so e (tests_component info) no_call asking goes had = broken_so _ e goes
  refused_so e (refusing d) no_call asking goes had = so_of e d goes had
  refused_so e reserving no_call asking goes had = not_limit e refusal.Memory goes tt
  refused_so e s t asking goes had = absurd goes

  pub answer_so : (o : Outcome P H) (s t : Stage) → ((p : Progress) → s ≡ asks p → Asks) → Goes maker old new c f s t (Some o) → IfRefusing Q s → IfRefused Q o
  answer_so (Refused e) s t asking goes had = refused_so e s t asking goes had
  answer_so Key s t asking goes had = tt
  answer_so (Granted grant) s t asking goes had = tt
  answer_so Returned s t asking goes had = tt
  answer_so (Purged n) s t asking goes had = tt
  answer_so (Released n) s t asking goes had = tt

module _ {P H : Type 0} (maker : MakerTold) (old new : PartyTold) (c : PoolCore P H) (f : Frame P H) where
  -- Only a key is answered in the phase that draws one.
  pub key_answered : (t : Stage) (o : Option (Outcome P H)) → Goes maker old new c f keys t o → o ≡ Some Key
  key_answered no_call (Some Key) goes = refl
  key_answered t o goes = absurd goes
