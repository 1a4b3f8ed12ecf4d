-- A request for a heap on demand: its memory is made as the party's terms say, and then the heap or not.
use Rattle.std.proofs.Common.{◌≡◌, ℕ, ◌<◌, Bool, true, false, List, [], Option, Some, None, Result, Ok, Err, inl, inr, refl, sym, ap, ◌∙◌, subst, not, if◌then◌else◌, option_map, slice_set, IfOk, IfErr, MatchResult}
use Rattle.pool_run_on_demand.proofs.Imports.{option_or, map-set, risen, MemoryDecl, GcHeap, MemoryTunables, MemoryType, Tunables, Unsupported, Exchange, LimiterTold, LimiterError, state_of, HeapsTold, fails_next, listed_heaps, AllocError, ListedHeaps, PlainHeap, IsHeapTurn, no_slot, Stage, CreatorRule, memory_refused, memory_unsupported, type_refused, refused_by, OnDemandHeap, OnDemandMemory, CountsRefused, Grants, PrivateMemory, PrivateState, Terms, heap_grant, heap_memory, goes_through, in_slots, Refused, Alloc}
use Rattle.pool_types.specs.declared.module_types.MemoryKind.TheVariants.{LinearMemory}
use Rattle.pool_slots.specs.declared.errors.AllocError.TheVariants as alloc
use Rattle.pool_run_on_demand.specs.OnDemand.{IsHeapMade, IsHeapUnmade, IsUnmade, MakesHeap, first_unmade, heap_barred_on_demand, heap_terms, heap_wants, made_memory}
use Rattle.pool_run_on_demand.specs.Seen.{AnswersHeap, AnswersHeapMemory, IsHeld, IsMakerFor, grants_made, seen_grant, seen_lease}
use Rattle.pool_run_on_demand.specs.declared.grant.OnDemandGrant.{OnDemandGrant}
use Rattle.pool_run_on_demand.specs.declared.grant.OnDemandGrant.TheVariants.{Heap as heap}
use Rattle.pool_run_on_demand.proofs.Refused.{cause_here, none_or, own_memory, refused}
use Rattle.pool_run_on_demand.proofs.Requests.{IsStage, IsTurn, Made, answered, one_begun}

-- Its memory, by a limiter that tells the party's rule.
module _ (t : Terms) {R : Type 0} (told : R → LimiterTold) (leads : R → Exchange → R → Type 0) (M L : Type 0) (ty : MemoryType) (from to : Stage R) (ruled : (told from.limiter).rule ≡ Some t.host.rule) (for : IsMakerFor t from.maker) (log : ty.page_size_log2 < 64) where
  abbrev decl : MemoryDecl
  decl = (heap_memory ty).decl

  begins : IsStage (heap_terms t) told leads M L from
  begins = record { ruled = ruled; for = record { tells = for.tells; page = for.page; paged = for.paged } }

  pub heap_memory_answered : (result : Result (OnDemandMemory M L) AllocError) → IsTurn (heap_terms t) told leads M L None ty result from to → AnswersHeapMemory t ty result
  heap_memory_answered (Ok lease) turn =
      let one = one_begun (heap_terms t) told leads M L decl None lease from to log tt begins turn in
      (none_or (own_memory (heap_terms t) decl None) None one.allowed, (one.seen, one.held))
  heap_memory_answered (Err e) turn =
      cause_here (heap_terms t) decl None [] e
      (refused (own_memory (heap_terms t) decl None) (Made (heap_terms t) told leads M L decl None from to) e from.maker to.maker (answered (heap_terms t) told leads M L decl None (Err e) from to begins turn))

-- the settings of its memory
pub heap_settings : (t : Terms) (tunables : Tunables) → t.settings.tunables ≡ record { tunables = tunables; kind = LinearMemory } → (heap_terms t).settings.tunables ≡ record { tunables = tunables; kind = GcHeap }
heap_settings t tunables settings = ap (λ (s : MemoryTunables). record s { kind = GcHeap }) settings

-- What the maker of heaps, which has a list of makings that fail, answers.
pub record HeapTurned {X : Type 0} (result : Result X AllocError) (old new : ListedHeaps) : Type 0 where
  pub failing : new.failing ≡ old.failing
  pub made : new.made ≡ risen old.made
  pub ok : IfOk result (λ lease. goes_through old.failing old.made ≡ true)
  pub err : IfErr result (λ e. (e ≡ alloc.HeapFault) × (goes_through old.failing old.made ≡ false))

abbrev told_by : ListedHeaps → HeapsTold
told_by h = listed_heaps h.failing h.made h.faults

pub heap_turned : {X : Type 0} (memory : ℕ) (index_of memory_of : X → ℕ) (is_attached : X → Bool) (result : Result X AllocError) (old new : ListedHeaps) → IsHeapTurn memory index_of memory_of is_attached result (told_by old) (told_by new) → HeapTurned result old new
heap_turned {X} memory index_of memory_of is_attached result old new turn = record {
  failing = let same : Some new.failing ≡ Some old.failing = ap (λ (t : HeapsTold). t.plan) turn.maker in cc;
  made = ap (λ (t : HeapsTold). t.made) turn.maker;
  ok = granted result turn.planned;
  err = refused_so result turn.planned (turn.wants refl);
}
  where
    granted : (result : Result X AllocError) → MatchResult result (λ _. fails_next old.failing (told_by old) ≡ false) (λ e. e ≡ alloc.HeapFault → fails_next old.failing (told_by old) ≡ true) → IfOk result (λ lease. goes_through old.failing old.made ≡ true)
    granted (Ok lease) is = ap not is
    granted (Err e) is = tt

    refused_so : (result : Result X AllocError) → MatchResult result (λ _. fails_next old.failing (told_by old) ≡ false) (λ e. e ≡ alloc.HeapFault → fails_next old.failing (told_by old) ≡ true) → IfErr result (λ e. e ≡ alloc.HeapFault) → IfErr result (λ e. (e ≡ alloc.HeapFault) × (goes_through old.failing old.made ≡ false))
    refused_so (Ok lease) is fault = tt
    refused_so (Err e) is fault = (fault, ap not (is fault))

-- A memory's own refusal is none of the maker of heaps.
own_by : (answer : Result Bool LimiterError) (refuses : CreatorRule) (ty : MemoryType) → memory_refused answer refuses ty ≡ Some alloc.HeapFault → ⊥
own_by (Err f) refuses ty is = cc is
own_by (Ok false) refuses ty is = cc is
own_by (Ok true) refuses ty is = by_rule (memory_unsupported refuses ty) is
  where
    by_rule : (o : Option Unsupported) → option_map alloc.Unsupported o ≡ Some alloc.HeapFault → ⊥
    by_rule None is = cc is
    by_rule (Some u) is = cc is

or_none : (o : Option AllocError) (e : AllocError) → option_or o None ≡ Some e → o ≡ Some e
or_none None e is = is
or_none (Some f) e is = is

-- Where its memory isn't made, there is no heap, and its maker isn't called.
pub unmade_heap : (t : Terms) (ty : MemoryType) (failing : List ℕ) (calls : ℕ) (e : AllocError) → IsUnmade None (heap_terms t) (heap_wants ty) e → IsHeapUnmade None t ty e × CountsRefused failing e calls calls
unmade_heap t ty failing calls alloc.HeapFault (inl own) = absurd (own_by _ _ ty (or_none (own_memory (heap_terms t) (heap_memory ty).decl None) alloc.HeapFault own))
unmade_heap t ty failing calls alloc.HeapFault (inr (inl is)) = absurd cc
unmade_heap t ty failing calls alloc.HeapFault (inr (inr is)) = let wrong : alloc.HeapFault ≡ alloc.PageFault = is.0 in absurd (cc wrong)
unmade_heap t ty failing calls _ is = (is, refl)

-- What bars it.
module _ (t : Terms) (ty : MemoryType) (tunables : Tunables) (settings : t.settings.tunables ≡ record { tunables = tunables; kind = LinearMemory }) where
  abbrev barred_if : Bool → Option AllocError
  barred_if b = if b then option_map alloc.Unsupported (type_refused ty) else Some alloc.HeapsDisabled

  barred_as : (b : Bool) → tunables.collector ≡ b → heap_barred_on_demand t ty ≡ barred_if b
  barred_as b is = ap (λ (s : MemoryTunables). barred_if s.tunables.collector) settings ∙ ap barred_if is

  abbrev Refuses : List ℕ → ℕ → AllocError → Type 0
  Refuses failing calls e = IsHeapUnmade (heap_barred_on_demand t ty) t ty e × CountsRefused failing e calls calls

  by_bar : (o : Option AllocError) (failing : List ℕ) (calls : ℕ) (e : AllocError) → heap_barred_on_demand t ty ≡ o → IsHeapUnmade o t ty e → CountsRefused failing e calls calls → Refuses failing calls e
  by_bar o failing calls e bar unmade counts = let Unmade : Option AllocError → Type 0 = λ x. IsHeapUnmade x t ty e in (subst Unmade (sym bar) unmade, counts)

  passes : (o : Option Unsupported) → type_refused ty ≡ o → Ok tt ≡ refused_by o → type_refused ty ≡ None
  passes None rule is = rule
  passes (Some u) rule is = absurd (cc is)

  -- nothing does
  pub none_barred : tunables.collector ≡ true → Ok tt ≡ refused_by (type_refused ty) → heap_barred_on_demand t ty ≡ None
  none_barred on is = barred_as true on ∙ ap (option_map alloc.Unsupported) (passes (type_refused ty) refl is)

  -- its memory isn't made then
  pub without_memory : (failing : List ℕ) (calls : ℕ) (e : AllocError) → heap_barred_on_demand t ty ≡ None → IsUnmade None (heap_terms t) (heap_wants ty) e → Refuses failing calls e
  without_memory failing calls e free is = let unmade = unmade_heap t ty failing calls e is in by_bar None failing calls e free unmade.0 unmade.1

  -- or the maker fails
  pub without_heap : (failing : List ℕ) (calls after : ℕ) (e : AllocError) → heap_barred_on_demand t ty ≡ None → first_unmade (heap_terms t) (heap_wants ty) ≡ None → e ≡ alloc.HeapFault → goes_through failing calls ≡ false → after ≡ risen calls → IsHeapUnmade (heap_barred_on_demand t ty) t ty e × CountsRefused failing e calls after
  without_heap failing calls after e free made is fails next =
      let Unmade : Option AllocError → Type 0 = λ x. IsHeapUnmade x t ty alloc.HeapFault in
      let Both : AllocError → Type 0 = λ x. IsHeapUnmade (heap_barred_on_demand t ty) t ty x × CountsRefused failing x calls after in
      subst Both (sym is) (subst Unmade (sym free) made, (fails, next))

  -- Once its memory is made, there is a heap, or the maker fails.
  module _ {M L : Type 0} (before after : ListedHeaps) (memory : OnDemandMemory M L) (free : heap_barred_on_demand t ty ≡ None) (of : AnswersHeapMemory {M = M} {L = L} t ty (Ok memory)) where
    abbrev pub HeapMade : OnDemandHeap PlainHeap × OnDemandMemory M L → Type 0
    HeapMade made = (made.0.index.0 ≡ no_slot) × ((made.1 ≡ memory) × ((goes_through before.failing before.made ≡ true) × (after.made ≡ risen before.made)))

    abbrev pub HeapUnmade : AllocError → Type 0
    HeapUnmade e = (e ≡ alloc.HeapFault) × ((goes_through before.failing before.made ≡ false) × (after.made ≡ risen before.made))

    pub heap_answered : (result : Result (OnDemandHeap PlainHeap × OnDemandMemory M L) AllocError) → IfOk result HeapMade → IfErr result HeapUnmade → AnswersHeap t ty before after result
    heap_answered (Ok made) is none =
        let Begins : OnDemandMemory M L → Type 0 = λ m. (seen_lease t.tells m ≡ made_memory (heap_terms t) (heap_memory ty)) × IsHeld t.tells (state_of m.memory) in
        let begun = subst Begins (sym is.1.0) of.1 in
        (record { supported = free; allowed = of.0; made = is.1.1.0 }, (is.0, (begun.0, (begun.1, is.1.1.1))))
    heap_answered (Err e) none is = without_heap before.failing before.made after.made e free of.0 is.0 is.1.0 is.1.1

-- What the request makes of the party's state.
module _ {M L P : Type 0} (t : Terms) (n : ℕ) (ty : MemoryType) (live : List (Option (OnDemandGrant M L P))) (stores : ℕ) (before after : ListedHeaps) (unmade : t.host.unmade ≡ before.failing) where
  abbrev at_state : Grants → ℕ → PrivateState
  at_state grants heaps = record { grants = grants; stores = stores; heaps = heaps }

  pub heap_makes : (lease : OnDemandHeap PlainHeap) (memory : OnDemandMemory M L) → AnswersHeap {M = M} {L = L} t ty before after (Ok (lease, memory))
      → MakesHeap t n ty (at_state (grants_made t.tells live) before.made) (in_slots no_slot no_slot) (at_state (grants_made t.tells (slice_set live n (Some (heap lease memory)))) after.made)
  heap_makes lease memory is =
      let Made_by : List ℕ → Type 0 = λ failing. IsHeapMade t failing ty before.made in
      let grants : grants_made t.tells (slice_set live n (Some (heap lease memory))) ≡ slice_set (grants_made t.tells live) n (Some (heap_grant no_slot (made_memory (heap_terms t) (heap_memory ty)))) =
      map-set (option_map (seen_grant t.tells)) live n (Some (heap lease memory)) ∙ ap (λ (slot : ℕ). slice_set (grants_made t.tells live) n (Some (heap_grant slot (seen_lease t.tells memory)))) is.1.0
      ∙ ap (λ (m : PrivateMemory). slice_set (grants_made t.tells live) n (Some (heap_grant no_slot m))) is.1.1.0 in
      (subst Made_by (sym unmade) is.0, (refl, (refl, ap (λ (g : Grants). at_state g after.made) grants ∙ ap (at_state (slice_set (grants_made t.tells live) n (Some (heap_grant no_slot (made_memory (heap_terms t) (heap_memory ty)))))) is.1.1.1.1)))

  pub heap_refused : (e : AllocError) → AnswersHeap {M = M} {L = L} t ty before after (Err e) → MakesHeap t n ty (at_state (grants_made t.tells live) before.made) (Refused (Alloc e)) (at_state (grants_made t.tells live) after.made)
  heap_refused e is =
      let Counts : List ℕ → Type 0 = λ failing. CountsRefused failing e before.made after.made in
      (is.0, (subst Counts (sym unmade) is.1, refl))
