-- A request that passed its test is never refused for want of memory.
use Rattle.std.proofs.Common.{◌≡◌, ◌≢◌, ℕ, ◌^◌, Bool, true, false, length, Option, Some, None, Result, Ok, Err, refl, sym, ap, ◌∙◌, subst, inl, inr, arith, IsSome, nat_le, nat_lt, if◌then◌else◌, slice_get}
use Rattle.pool_run.proofs.Imports.{kept_of, is_there, MakerTold, minimum_byte_size, allow_growth_to, MemoryType, Unsupported, InitialSize, AddressSpace, MemoryMinimum, TableSize, Slot, LimiterError, maximum_asked, limits_answer, MemoryState, Static, static_capacity, MemoryError, AllocError, PlainHeap, PartyTold, MakesHeap, component_refused, made_of, made_of_limits, made_for, heap_refusal, HeapsTold, HeapMakeFault, Progress, untested, uncounted, admitted, Stage, no_call, keys, asks, returning, refusing, purging, reserving, releasing, stage_of, Raises, Makes, Goes, seeks_stack, tests_heap, seeks_heap, seeks_single, counts_heap, tests_component, counts_component, IsBroken, memories_wanted, tables_wanted, LeasedTable, table_refused, table_in, made_table, made_unless, Frame, Grant, instance, component, one_memory, one_table, stack, heap, heap_over, Outcome, PoolCore}
use Rattle.pool_memory.specs.declared.memory_error.MemoryError.TheVariants as unmade
use Rattle.pool_slots.specs.declared.errors.AllocError.TheVariants as refusal
use Rattle.pool_run.specs.Private.{table_room}
use Rattle.pool_alloc.specs.declared.frame.Outcome.TheVariants as answer
use Rattle.pool_run.specs.Agreeing.{want_of_memory}
use Rattle.pool_run.specs.Turns.{Turned, Steps, answered, granted_reply}
use Rattle.pool_run.specs.Ties.{CanTurn}
use Rattle.pool_run.specs.declared.reply.Reply.{Reply}
use Rattle.pool_run.specs.declared.reply.Refusal.TheVariants.{Alloc}
use Rattle.pool_run.specs.declared.reply.Reply.TheVariants.{Refused}
use Rattle.pool_run.specs.declared.running_party.RunningParty.{RunningParty}
use Rattle.pool_run.proofs.Parties.{can_step}
use Rattle.pool_run.proofs.SameSteps.{at_place}
use Rattle.pool_run.proofs.Stepped.{IsStepped, stepped}

-- a memory isn't made for want of memory
abbrev finds_none : Result MemoryState AllocError → Bool
finds_none (Err refusal.Memory) = true
finds_none _ = false

made_finds : (b : Bool) (ty : MemoryType) (m : Static) (held : Slot) (u : Unsupported) → finds_none (made_of ty (if b then Ok m else Err (held, u))) ≡ false
made_finds true ty m held u = refl
made_finds false ty m held u = refl

limits_find : (b allowed : Bool) (ty : MemoryType) (room : ℕ) (held : Slot)
    → (let limits : Result (ℕ × Option ℕ) MemoryError = if b then (if allowed then Ok (minimum_byte_size ty, maximum_asked ty) else Err (unmade.Unsupported AddressSpace)) else Err (unmade.Unsupported (MemoryMinimum ty.limits.min)) in finds_none (made_of_limits limits ty room held) ≡ false)
limits_find true true ty room held = made_finds (nat_le (minimum_byte_size ty) room) ty (record { slot = held; size = minimum_byte_size ty; capacity = static_capacity room (maximum_asked ty) }) held InitialSize
limits_find true false ty room held = refl
limits_find false allowed ty room held = refl

answer_finds : (given : Result Bool LimiterError) (ty : MemoryType) (room : ℕ) (held : Slot) → finds_none (made_of_limits (limits_answer given ty) ty room held) ≡ false
answer_finds (Err e) ty room held = refl
answer_finds (Ok false) ty room held = refl
answer_finds (Ok true) ty room held = limits_find (nat_lt (minimum_byte_size ty) (2 ^ 64)) (allow_growth_to ty (minimum_byte_size ty)) ty room held

not_memory : (made : Result MemoryState AllocError) (e : AllocError) → finds_none made ≡ false → made ≡ Err e → e ≢ refusal.Memory
not_memory made e finds is memory =
    let wrong : false ≡ true = sym finds ∙ ap finds_none (is ∙ ap (λ (x : AllocError). Err x) memory) in
    absurd cc

-- nor is a table's minimum refused for that
past_other : (past : Bool) (least room : ℕ) (e : AllocError) → (if past then Some (refusal.Unsupported (TableSize least room)) else None) ≡ Some e → e ≢ refusal.Memory
past_other true least room e is memory = let wrong = is ∙ ap (λ (x : AllocError). Some x) memory in absurd cc
past_other false least room e is memory = absurd cc

refused_other : (answer : Result Bool LimiterError) (least room : ℕ) (e : AllocError) → table_refused answer least room ≡ Some e → e ≢ refusal.Memory
refused_other (Err x) least room e is memory = let wrong = is ∙ ap (λ (y : AllocError). Some y) memory in absurd cc
refused_other (Ok false) least room e is memory = let wrong = is ∙ ap (λ (y : AllocError). Some y) memory in absurd cc
refused_other (Ok true) least room e is memory = past_other (nat_lt room least) least room e is memory

unless_is : (o : Option AllocError) (l : LeasedTable) (e : AllocError) → made_unless o l ≡ Err e → o ≡ Some e
unless_is None l e is = absurd cc
unless_is (Some d) l e is = let same : d ≡ e = cc in ap (λ (x : AllocError). Some x) same

refused_once : (e : AllocError) → Refused (Alloc e) ≡ want_of_memory → e ≡ refusal.Memory
refused_once e is = cc

-- the request passed its test, or is one for a component or a stack, or is to be refused for another cause; or a release has
-- its room
abbrev pub IsPast : Stage → Type 0
IsPast (asks untested) = ⊥
IsPast (asks uncounted) = Unit {0}
IsPast (asks (admitted n)) = Unit {0}
IsPast (asks (seeks_single n)) = ⊥
IsPast (asks seeks_stack) = Unit {0}
IsPast (asks tests_heap) = ⊥
IsPast (asks (seeks_heap n)) = Unit {0}
IsPast (asks counts_heap) = Unit {0}
IsPast (tests_component info) = Unit {0}
IsPast counts_component = Unit {0}
IsPast (refusing e) = e ≢ refusal.Memory
IsPast no_call = ⊥
IsPast keys = ⊥
IsPast returning = ⊥
IsPast purging = ⊥
IsPast reserving = ⊥
IsPast releasing = Unit {0}

-- it stays so, or ends otherwise
abbrev pub StaysPast : {P : Type 0} → Stage → Option (Outcome P PlainHeap) → Type 0
StaysPast t None = IsPast t
StaysPast t (Some answer.Key) = ⊥
StaysPast t (Some (answer.Granted grant)) = Unit {0}
StaysPast t (Some answer.Returned) = Unit {0}
StaysPast t (Some (answer.Purged n)) = Unit {0}
StaysPast t (Some (answer.Released n)) = Unit {0}
StaysPast t (Some (answer.Refused e)) = e ≢ refusal.Memory

-- a making that fails wants no memory, where the maker tells its plan
heap_past : (old new : HeapsTold) (fault : HeapMakeFault) (e : AllocError) → IsSome old.plan → MakesHeap {H = PlainHeap} (Err fault) old new → e ≡ heap_refusal fault → e ≢ refusal.Memory
heap_past old new fault e told makes is = λ memory. let wrong : refusal.HeapFault ≡ refusal.Memory = sym (ap heap_refusal (makes.wants told).0) ∙ sym is ∙ memory in absurd cc

module _ {P : Type 0} (maker : MakerTold) (old new : PartyTold) (c : PoolCore P PlainHeap) (f : Frame P PlainHeap) (listed : IsSome old.heaps.plan) where
  -- no memory's own refusal is want of memory
  made_past : (n : ℕ) (e : AllocError) → Makes old new c f n (Err e) → e ≢ refusal.Memory
  made_past n e makes =
      at_place (slice_get (memories_wanted f.asked) (length f.objects.memories.items)) (is_there (memories_wanted f.asked) (length f.objects.memories.items) (omega (arith, makes.next)))
      (λ decl there.
      let made : made_for c.settings.max_memory_size makes.given makes.held (Some decl) ≡ Err e = ap (made_for c.settings.max_memory_size makes.given makes.held) (sym there) ∙ makes.is in
      not_memory (made_for c.settings.max_memory_size makes.given makes.held (Some decl)) e (answer_finds makes.given decl.ty c.settings.max_memory_size makes.held) made)

  raised_past : (p : Progress) (e : AllocError) → IsPast (asks p) → Raises maker old new c f p e → e ≢ refusal.Memory
  raised_past untested e past raises = absurd past
  raised_past uncounted e past raises = λ is. let wrong = sym raises.0 ∙ is in absurd cc
  raised_past seeks_stack e past raises =
      elim raises [
        | inl disabled ↦ λ is. let wrong = sym disabled.0 ∙ is in absurd cc
        | inr found ↦ λ is. let wrong = sym found.is ∙ is in absurd cc
      ]
  raised_past (admitted n) e past raises =
      elim raises [
        | inl found ↦ λ is. let wrong = sym found.is ∙ is in absurd cc
        | inr rest ↦
            elim rest [
              | inl fault ↦ λ is. let wrong = sym fault.is ∙ is in absurd cc
              | inr (inr makes) ↦
                  at_place (slice_get (tables_wanted f.asked) (length f.objects.tables.items)) (is_there (tables_wanted f.asked) (length f.objects.tables.items) (omega (arith, makes.allocating.more, makes.next.0, makes.next.1.no_stack, makes.next.1.no_heap, makes.allocating.to_grant.few, (kept_of f.asked).memories)))
                  (λ ty there.
                  let made : made_table c.settings makes.given makes.at makes.region (Some ty) ≡ Err e = ap (made_table c.settings makes.given makes.at makes.region) (sym there) ∙ makes.is in
                  refused_other makes.given ty.limits.min (table_room c.settings ty) e (unless_is (table_refused makes.given ty.limits.min (table_room c.settings ty)) (table_in c.settings ty makes.at makes.region) e made))
              | inr (inl makes) ↦ made_past n e makes
            ]
      ]
  raised_past (seeks_single n) e past raises = absurd past
  raised_past tests_heap e past raises = absurd past
  raised_past counts_heap e past raises = absurd raises
  raised_past (seeks_heap n) e past raises =
      elim raises [
        | inl found ↦ λ is. let wrong = sym found.is ∙ is in absurd cc
        | inr (inl fault) ↦ λ is. let wrong = sym fault.is ∙ is in absurd cc
        | inr (inr (inl makes)) ↦ made_past n e makes
        | inr (inr (inr failed)) ↦ heap_past old.heaps new.heaps failed.0 e listed failed.1.1.0 failed.1.1.1
      ]

  broken_past : (o : Option Unsupported) (e : AllocError) → IsBroken o e → e ≢ refusal.Memory
  broken_past None e broken = absurd broken
  broken_past (Some rule) e broken = λ is. let wrong = sym broken ∙ is in absurd cc

  past_goes : (s t : Stage) (o : Option (Outcome P PlainHeap)) → Goes maker old new c f s t o → IsPast s → StaysPast t o
  past_goes no_call t o goes past = absurd past
  past_goes keys t o goes past = absurd past
  past_goes returning t o goes past = absurd past
  past_goes purging t o goes past = absurd past
  past_goes reserving t o goes past = absurd past
  past_goes releasing releasing None goes past = tt
  past_goes releasing no_call (Some (answer.Released n)) goes past = tt
  past_goes (asks untested) t o goes past = absurd past
  past_goes (asks uncounted) (asks untested) None goes past = absurd goes
  past_goes (asks uncounted) (asks uncounted) None goes past = absurd goes
  past_goes (asks uncounted) (asks (admitted m)) None goes past = tt
  past_goes (asks uncounted) (asks (seeks_single m)) None goes past = absurd goes
  past_goes (asks uncounted) (asks seeks_stack) None goes past = absurd goes
  past_goes (asks uncounted) (asks tests_heap) None goes past = absurd goes
  past_goes (asks uncounted) (asks (seeks_heap m)) None goes past = absurd goes
  past_goes (asks uncounted) (asks counts_heap) None goes past = absurd goes
  past_goes (asks uncounted) (refusing e) None goes past = raised_past uncounted e past goes
  past_goes (asks uncounted) no_call (Some (answer.Granted (instance lease))) goes past = tt
  past_goes (asks (admitted n)) (asks untested) None goes past = absurd goes
  past_goes (asks (admitted n)) (asks uncounted) None goes past = absurd goes
  past_goes (asks (admitted n)) (asks (admitted m)) None goes past = tt
  past_goes (asks (admitted n)) (asks (seeks_single m)) None goes past = absurd goes
  past_goes (asks (admitted n)) (asks seeks_stack) None goes past = absurd goes
  past_goes (asks (admitted n)) (asks tests_heap) None goes past = absurd goes
  past_goes (asks (admitted n)) (asks (seeks_heap m)) None goes past = absurd goes
  past_goes (asks (admitted n)) (asks counts_heap) None goes past = absurd goes
  past_goes (asks (admitted n)) (refusing e) None goes past = raised_past (admitted n) e past goes
  past_goes (asks (admitted n)) no_call (Some (answer.Granted (instance lease))) goes past = tt
  past_goes (asks (seeks_single n)) t o goes past = absurd past
  past_goes (asks tests_heap) t o goes past = absurd past
  past_goes (asks (seeks_heap n)) (asks (seeks_heap m)) None goes past = tt
  past_goes (asks (seeks_heap n)) (asks counts_heap) None goes past = tt
  past_goes (asks (seeks_heap n)) (asks _) None goes past = absurd goes
  past_goes (asks (seeks_heap n)) no_call (Some (answer.Granted (instance lease))) goes past = tt
  past_goes (asks (seeks_heap n)) no_call (Some (answer.Granted (stack lease))) goes past = tt
  past_goes (asks counts_heap) (asks _) None goes past = absurd goes
  past_goes (asks counts_heap) (refusing e) None goes past = absurd goes
  past_goes (asks counts_heap) no_call (Some (answer.Granted (instance lease))) goes past = tt
  past_goes (asks counts_heap) no_call (Some (answer.Granted (stack lease))) goes past = tt
  past_goes (asks (seeks_heap n)) (refusing e) None goes past = raised_past (seeks_heap n) e past goes
  past_goes (asks (seeks_heap n)) no_call (Some (answer.Refused e)) goes past = raised_past (seeks_heap n) e past goes.0
  past_goes (asks counts_heap) no_call (Some (answer.Granted (heap lease memory))) goes past = tt
  past_goes (asks counts_heap) no_call (Some (answer.Granted (heap_over lease))) goes past = tt
  past_goes (asks seeks_stack) (asks seeks_stack) None goes past = tt
  past_goes (asks seeks_stack) (asks _) None goes past = absurd goes
  past_goes (asks seeks_stack) (refusing e) None goes past = raised_past seeks_stack e past goes
  past_goes (asks seeks_stack) no_call (Some (answer.Granted (stack lease))) goes past = tt
  past_goes (asks seeks_stack) no_call (Some (answer.Granted (instance lease))) goes past = tt
  past_goes (asks seeks_stack) no_call (Some (answer.Refused e)) goes past = raised_past seeks_stack e past goes
  past_goes (asks uncounted) no_call (Some (answer.Granted (stack lease))) goes past = tt
  past_goes (asks (admitted n)) no_call (Some (answer.Granted (stack lease))) goes past = tt
  past_goes (tests_component info) counts_component None goes past = tt
  past_goes (tests_component info) no_call (Some (answer.Refused e)) goes past = broken_past (component_refused c.settings info) e goes
  past_goes counts_component no_call (Some (answer.Granted component)) goes past = tt
  past_goes counts_component (refusing e) None goes past = λ is. let wrong = sym goes.0 ∙ is in absurd cc
  past_goes (refusing e) (refusing d) None goes past = λ is. past (sym goes ∙ is)
  past_goes (refusing e) no_call (Some (answer.Refused d)) goes past = λ is. past (sym goes ∙ is)
  past_goes _ _ _ goes past = absurd goes

-- the same of a turn and its reply
abbrev pub PastReply : Option Reply → Stage → Type 0
PastReply None s = IsPast s
PastReply (Some r) s = r ≢ want_of_memory

module _ {P : Type 0} where
  granted_past : (grant : Grant P PlainHeap) → granted_reply grant ≢ want_of_memory
  granted_past (instance lease) = λ is. absurd cc
  granted_past component = λ is. absurd cc
  granted_past (one_memory lease) = λ is. absurd cc
  granted_past (one_table lease) = λ is. absurd cc
  granted_past (stack lease) = λ is. absurd cc
  granted_past (heap lease memory) = λ is. absurd cc
  granted_past (heap_over lease) = λ is. absurd cc

  answered_past : (o : Option (Outcome P PlainHeap)) (t : Stage) (c : PoolCore P PlainHeap) (p : RunningParty P) → t ≡ stage_of p.frame → StaysPast t o → PastReply (answered o c p).reply (stage_of (answered o c p).party.frame)
  answered_past None t c p is past = subst IsPast is past
  answered_past (Some answer.Key) t c p is past = absurd past
  answered_past (Some (answer.Granted grant)) t c p is past = granted_past grant
  answered_past (Some answer.Returned) t c p is past = λ e. absurd cc
  answered_past (Some (answer.Purged n)) t c p is past = λ e. absurd cc
  answered_past (Some (answer.Released n)) t c p is past = λ e. absurd cc
  answered_past (Some (answer.Refused e)) t c p is past = λ wants. past (refused_once e wants)

  -- A step of such a request.
  pub step_past : (maker : MakerTold) (c : PoolCore P PlainHeap) (p : RunningParty P) (t : Turned P) → CanTurn maker c p → IsPast (stage_of p.frame) → Steps c p t → PastReply t.reply (stage_of t.party.frame)
  step_past maker c p t can past steps =
      let by = steps.1 in
      let on : IsStepped maker by.0 by.1 c p.frame steps.0 = stepped maker by.0 by.1 c p.frame steps.0 (can_step maker c p can) by.3 in
      let Told : HeapsTold → Type 0 = λ h. IsSome h.plan in
      let stays = past_goes maker by.0 by.1 c p.frame (subst Told (sym by.4) refl) (stage_of p.frame) (stage_of steps.0.frame) steps.0.outcome on.goes.way past in
      subst (λ (x : Turned P). PastReply x.reply (stage_of x.party.frame)) (sym steps.2)
      (answered_past steps.0.outcome (stage_of steps.0.frame) steps.0.core (record p { frame = steps.0.frame; heaps = t.party.heaps }) refl stays)
