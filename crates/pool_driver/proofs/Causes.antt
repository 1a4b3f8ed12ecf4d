-- What stands behind a refusal for which the limiter or the maker of heaps is the reason: a count that rose.
use Rattle.std.proofs.Common.{◌≡◌, ⊎_elim, ℕ, ◌-◌, ◌<◌, ◌≤◌, ◌^◌, min, Bool, true, false, List, [], ◌∷◌, ◌++◌, length, refl, sym, ap, subst, ◌∙◌, arith, Option, Some, None, Result, Ok, Err, slice_get}
use Rattle.pool_types.specs.Rising.{Rose, risen}
use Rattle.pool_types.specs.declared.unsupported.Unsupported.{Unsupported}
use Rattle.pool_pages.specs.MakerTold.{MakerTold}
use Rattle.pool_pages.proofs.Small.{told_weaker}
use Rattle.pool_limits.specs.Exchanges.{Exchange, Exchanged, may_grow, has_failed, told_after}
use Rattle.pool_limits.specs.LimiterTold.{LimiterTold, after_answer, after_report}
use Rattle.pool_limits.specs.declared.errors.LimiterError.{LimiterError}
use Rattle.pool_slots.specs.HeapsTold.{HeapsTold}
use Rattle.pool_slots.specs.declared.errors.AllocError.{AllocError}
use Rattle.pool_slots.specs.declared.errors.AllocError.TheVariants as refusal
use Rattle.pool_slots.specs.declared.heap_maker.HeapMakeFault.{HeapMakeFault}
use Rattle.pool_slots.specs.declared.heap_maker.HeapMakeFault.TheVariants as no_heap
use Rattle.pool_alloc.specs.BetweenSteps.{IsAllocating, IsSettings, IsTableNext}
use Rattle.pool_alloc.specs.CallStages.{FailsHeap, FindsNone, IsBroken, IsPageFaulted, IsUntested, Makes, MakesTable, Progress, Raises, untested, uncounted, admitted, seeks_single, seeks_stack, tests_heap, seeks_heap, counts_heap}
use Rattle.pool_alloc.specs.MemorySteps.{heap_refusal}
use Rattle.pool_alloc.specs.PageCallAnswers.{AsksForMemory}
use Rattle.pool_alloc.specs.PartyTold.{PartyTold, MakesHeap}
use Rattle.pool_alloc.specs.Refusals.{heap_refused}
use Rattle.pool_alloc.specs.StepReads.{memories_wanted, tables_wanted, HasMemories}
use Rattle.pool_alloc.specs.TableSteps.{AsksForTable}
use Rattle.pool_alloc.specs.declared.frame.Frame.{Frame}
use Rattle.pool_alloc.specs.declared.pool_core.PoolCore.{PoolCore}
use Rattle.pool_alloc.proofs.ToldElements.{told_there}
use Rattle.pool_driver.specs.Asking.{HasCause}
use Rattle.pool_driver.proofs.Refusing.{failed_so, memory_fails, table_fails}

-- exchanges after others
pub exchanged_on : {L : Type 0} (leads : L → Exchange → L → Type 0) (xs ys : List Exchange) (a b c : L) → Exchanged leads xs a b → Exchanged leads ys b c → Exchanged leads (xs ++ ys) a c
exchanged_on leads [] ys a b c one two = subst (λ z. Exchanged leads ys z c) one two
exchanged_on leads (e ∷ xs) ys a b c one two = (one.0, (one.1.0, exchanged_on leads xs ys one.0 b c one.1.1 two))

pub told_on : (xs ys : List Exchange) (t : LimiterTold) → told_after (xs ++ ys) t ≡ told_after ys (told_after xs t)
told_on [] ys t = refl
told_on (may_grow question answer ∷ xs) ys t = told_on xs ys (after_answer answer t)
told_on (has_failed what error answer ∷ xs) ys t = told_on xs ys (after_report answer t)

-- a count that has risen once has risen still, and each that rises later has risen
rose_on : (n m : ℕ) → Rose n m → Rose n (risen m)
rose_on n m rose = omega (arith, rose)

rose_after : (n k m : ℕ) → min n (2 ^ 64 - 1) ≤ k → Rose k m → Rose n m
rose_after n k m held rose = omega (arith, held, rose)

stands : (n : ℕ) → min n (2 ^ 64 - 1) ≤ n
stands n = omega arith

stands_on : (n m : ℕ) → min n (2 ^ 64 - 1) ≤ m → min n (2 ^ 64 - 1) ≤ risen m
stands_on n m held = omega (arith, held)

-- so do the counts of a limiter
abbrev noes : LimiterTold → ℕ
noes t = t.counts.noes

abbrev errors : LimiterTold → ℕ
errors t = t.counts.errors

noes_stand : (xs : List Exchange) (n : ℕ) (t : LimiterTold) → min n (2 ^ 64 - 1) ≤ noes t → min n (2 ^ 64 - 1) ≤ noes (told_after xs t)
noes_stand [] n t held = held
noes_stand (may_grow question (Ok true) ∷ xs) n t held = noes_stand xs n (after_answer (Ok true) t) held
noes_stand (may_grow question (Ok false) ∷ xs) n t held = noes_stand xs n (after_answer (Ok false) t) (stands_on n (noes t) held)
noes_stand (may_grow question (Err e) ∷ xs) n t held = noes_stand xs n (after_answer (Err e) t) held
noes_stand (has_failed what error (Ok u) ∷ xs) n t held = noes_stand xs n (after_report (Ok u) t) held
noes_stand (has_failed what error (Err e) ∷ xs) n t held = noes_stand xs n (after_report (Err e) t) held

errors_stand : (xs : List Exchange) (n : ℕ) (t : LimiterTold) → min n (2 ^ 64 - 1) ≤ errors t → min n (2 ^ 64 - 1) ≤ errors (told_after xs t)
errors_stand [] n t held = held
errors_stand (may_grow question (Ok true) ∷ xs) n t held = errors_stand xs n (after_answer (Ok true) t) held
errors_stand (may_grow question (Ok false) ∷ xs) n t held = errors_stand xs n (after_answer (Ok false) t) held
errors_stand (may_grow question (Err e) ∷ xs) n t held = errors_stand xs n (after_answer (Err e) t) (stands_on n (errors t) held)
errors_stand (has_failed what error (Ok u) ∷ xs) n t held = errors_stand xs n (after_report (Ok u) t) held
errors_stand (has_failed what error (Err e) ∷ xs) n t held = errors_stand xs n (after_report (Err e) t) (stands_on n (errors t) held)

noes_rose : (xs : List Exchange) (n : ℕ) (t : LimiterTold) → Rose n (noes t) → Rose n (noes (told_after xs t))
noes_rose [] n t held = held
noes_rose (may_grow question (Ok true) ∷ xs) n t held = noes_rose xs n (after_answer (Ok true) t) held
noes_rose (may_grow question (Ok false) ∷ xs) n t held = noes_rose xs n (after_answer (Ok false) t) (rose_on n (noes t) held)
noes_rose (may_grow question (Err e) ∷ xs) n t held = noes_rose xs n (after_answer (Err e) t) held
noes_rose (has_failed what error (Ok u) ∷ xs) n t held = noes_rose xs n (after_report (Ok u) t) held
noes_rose (has_failed what error (Err e) ∷ xs) n t held = noes_rose xs n (after_report (Err e) t) held

errors_rose : (xs : List Exchange) (n : ℕ) (t : LimiterTold) → Rose n (errors t) → Rose n (errors (told_after xs t))
errors_rose [] n t held = held
errors_rose (may_grow question (Ok true) ∷ xs) n t held = errors_rose xs n (after_answer (Ok true) t) held
errors_rose (may_grow question (Ok false) ∷ xs) n t held = errors_rose xs n (after_answer (Ok false) t) held
errors_rose (may_grow question (Err e) ∷ xs) n t held = errors_rose xs n (after_answer (Err e) t) (rose_on n (errors t) held)
errors_rose (has_failed what error (Ok u) ∷ xs) n t held = errors_rose xs n (after_report (Ok u) t) held
errors_rose (has_failed what error (Err e) ∷ xs) n t held = errors_rose xs n (after_report (Err e) t) (rose_on n (errors t) held)

-- A cause in a step is one in the call, where the call exchanged this before the step.
pub cause_since : (first old new : PartyTold) (passed : List Exchange) (e : AllocError) → old.limiter ≡ told_after passed first.limiter → old.heaps ≡ first.heaps → HasCause old new e → HasCause first new e
cause_since first old new passed (refusal.LimiterDenied table min') told heaps cause = rose_after (noes first.limiter) (noes old.limiter) (noes new.limiter) (subst (λ (t : LimiterTold). min (noes first.limiter) (2 ^ 64 - 1) ≤ noes t) (sym told) (noes_stand passed (noes first.limiter) first.limiter (stands (noes first.limiter)))) cause
cause_since first old new passed (refusal.LimiterFault x) told heaps cause = rose_after (errors first.limiter) (errors old.limiter) (errors new.limiter) (subst (λ (t : LimiterTold). min (errors first.limiter) (2 ^ 64 - 1) ≤ errors t) (sym told) (errors_stand passed (errors first.limiter) first.limiter (stands (errors first.limiter)))) cause
cause_since first old new passed refusal.HeapFault told heaps cause = subst (λ (h : HeapsTold). Rose h.faults new.heaps.faults) heaps cause
cause_since first old new passed refusal.Memory told heaps cause = tt
cause_since first old new passed (refusal.Unsupported rule) told heaps cause = tt
cause_since first old new passed (refusal.Limit l) told heaps cause = tt
cause_since first old new passed refusal.StacksDisabled told heaps cause = tt
cause_since first old new passed refusal.HeapsDisabled told heaps cause = tt
cause_since first old new passed refusal.PageFault told heaps cause = tt

-- And it stays one while more is exchanged.
pub cause_on : (first old new : PartyTold) (passed : List Exchange) (e : AllocError) → new.limiter ≡ told_after passed old.limiter → new.heaps ≡ old.heaps → HasCause first old e → HasCause first new e
cause_on first old new passed (refusal.LimiterDenied table min') told heaps cause = subst (λ (t : LimiterTold). Rose (noes first.limiter) (noes t)) (sym told) (noes_rose passed (noes first.limiter) old.limiter cause)
cause_on first old new passed (refusal.LimiterFault x) told heaps cause = subst (λ (t : LimiterTold). Rose (errors first.limiter) (errors t)) (sym told) (errors_rose passed (errors first.limiter) old.limiter cause)
cause_on first old new passed refusal.HeapFault told heaps cause = subst (λ (h : HeapsTold). Rose first.heaps.faults h.faults) (sym heaps) cause
cause_on first old new passed refusal.Memory told heaps cause = tt
cause_on first old new passed (refusal.Unsupported rule) told heaps cause = tt
cause_on first old new passed (refusal.Limit l) told heaps cause = tt
cause_on first old new passed refusal.StacksDisabled told heaps cause = tt
cause_on first old new passed refusal.HeapsDisabled told heaps cause = tt
cause_on first old new passed refusal.PageFault told heaps cause = tt

-- a rule that is broken, or want of memory, has no cause there
rule_cause : (old new : PartyTold) (o : Option Unsupported) (e : AllocError) → IsUntested o e → HasCause old new e
rule_cause old new (Some rule) e is = subst (HasCause old new) (sym is) tt
rule_cause old new None e is = subst (HasCause old new) (sym is) tt

pub broken_cause : (old new : PartyTold) (o : Option Unsupported) (e : AllocError) → IsBroken o e → HasCause old new e
broken_cause old new (Some rule) e is = subst (HasCause old new) (sym is) tt
broken_cause old new None e is = absurd is

-- the limiter answers no, or an error
denied_rose : (old new : LimiterTold) (given : Result Bool LimiterError) → new ≡ after_answer given old → given ≡ Ok false → Rose (noes old) (noes new)
denied_rose old new given left is = let e : noes new ≡ risen (noes old) = ap noes left ∙ ap (λ (r : Result Bool LimiterError). noes (after_answer r old)) is in omega (arith, e)

faulted_rose : (old new : LimiterTold) (given : Result Bool LimiterError) (x : LimiterError) → new ≡ after_answer given old → given ≡ Err x → Rose (errors old) (errors new)
faulted_rose old new given x left is = let e : errors new ≡ risen (errors old) = ap errors left ∙ ap (λ (r : Result Bool LimiterError). errors (after_answer r old)) is in omega (arith, e)

-- Why a step fails a request has its cause in the step.
module _ {P H : Type 0} (maker : MakerTold) (old new : PartyTold) (c : PoolCore P H) (f : Frame P H) (settings : IsSettings c.settings) where
  pub table_below : IsAllocating c.settings c.plan f → IsTableNext f → length f.objects.tables.items < length (tables_wanted f.asked)
  table_below allocating table = omega (arith, allocating.more, table.0, table.1.no_stack, table.1.no_heap)

  memory_cause : (n : ℕ) (x : AllocError) → Makes old new c f n (Err x) → HasCause old new x
  memory_cause n x makes =
      let left : new.limiter ≡ after_answer makes.given old.limiter = told_there (new.limiter ≡ after_answer makes.given old.limiter) (memories_wanted f.asked) (length f.objects.memories.items) makes.next
      (told_weaker (AsksForMemory makes.given old.limiter new.limiter) (λ d. new.limiter ≡ after_answer makes.given old.limiter) (slice_get (memories_wanted f.asked) (length f.objects.memories.items)) (λ d asked. asked.left) makes.asked) in
      failed_so (HasCause old new) _ x makes.is
      (memory_fails (HasCause old new) makes.given (λ min' is. denied_rose old.limiter new.limiter makes.given left is) (λ y is. faulted_rose old.limiter new.limiter makes.given y left is) (λ is. tt)
      c.settings settings makes.held _ (slice_get (memories_wanted f.asked) (length f.objects.memories.items)) (λ none. tt) (makes.allocating.to_grant.supported.each (length f.objects.memories.items)))

  table_cause : (n : ℕ) (x : AllocError) → MakesTable old new c f n (Err x) → HasCause old new x
  table_cause n x makes =
      let left : new.limiter ≡ after_answer makes.given old.limiter = told_there (new.limiter ≡ after_answer makes.given old.limiter) (tables_wanted f.asked) (length f.objects.tables.items) (table_below makes.allocating makes.next)
      (told_weaker (AsksForTable makes.given old.limiter new.limiter) (λ ty. new.limiter ≡ after_answer makes.given old.limiter) (slice_get (tables_wanted f.asked) (length f.objects.tables.items)) (λ ty asked. asked.leaves) makes.asked) in
      failed_so (HasCause old new) _ x makes.is
      (table_fails (HasCause old new) makes.given (λ min' is. denied_rose old.limiter new.limiter makes.given left is) (λ y is. faulted_rose old.limiter new.limiter makes.given y left is) (λ min' room is long. tt)
      c.settings makes.at makes.region (slice_get (tables_wanted f.asked) (length f.objects.tables.items)) (λ none. tt) makes.given refl)

  fault_cause : (fault : HeapMakeFault) → MakesHeap {H = H} (Err fault) old.heaps new.heaps → HasCause old new (heap_refusal fault)
  fault_cause no_heap.Memory makes = tt
  fault_cause no_heap.HeapFault makes = makes.faults

  none_cause : (n : ℕ) (x : AllocError) → FindsNone c f n x → HasCause old new x
  none_cause n x finds = subst (HasCause old new) (sym finds.is) tt

  page_cause : (n : ℕ) (x : AllocError) → IsPageFaulted maker c f n x → HasCause old new x
  page_cause n x faulted = subst (HasCause old new) (sym faulted.is) tt

  pub raise_cause : (p : Progress) (x : AllocError) → Raises maker old new c f p x → HasCause old new x
  raise_cause untested x raises = rule_cause old new _ x raises
  raise_cause uncounted x raises = subst (HasCause old new) (sym raises.0) tt
  raise_cause (seeks_single n) x raises = ⊎_elim (none_cause n x) (⊎_elim (page_cause n x) (⊎_elim (memory_cause n x) (table_cause n x))) raises
  raise_cause seeks_stack x raises = ⊎_elim (λ (disabled : (x ≡ refusal.StacksDisabled) × (c.settings.stack_size ≡ 0)). subst (HasCause old new) (sym disabled.0) tt) (none_cause 0 x) raises
  raise_cause tests_heap x raises = ⊎_elim
      (λ (disabled : (c.settings.tunables.tunables.collector ≡ false) × (x ≡ refusal.HeapsDisabled)). subst (HasCause old new) (sym disabled.1) tt)
      (λ (enabled : (c.settings.tunables.tunables.collector ≡ true) × HasMemories f.asked × IsUntested (heap_refused c.settings f.asked) x). rule_cause old new _ x enabled.2)
      raises
  raise_cause (seeks_heap n) x raises = ⊎_elim (none_cause n x) (⊎_elim (page_cause n x) (⊎_elim (memory_cause n x) (λ (fails : FailsHeap old new c f n x). subst (HasCause old new) (sym fails.1.1.1) (fault_cause fails.0 fails.1.1.0)))) raises
  raise_cause counts_heap x raises = absurd raises
  raise_cause (admitted n) x raises = ⊎_elim (none_cause n x) (⊎_elim (page_cause n x) (⊎_elim (memory_cause n x) (table_cause n x))) raises
