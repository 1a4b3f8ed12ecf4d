-- What a call exchanged with its limiter and its maker of heaps, from its first step to its last.
use Rattle.std.specs.Prelude.{◌≡◌, ◌⊎◌, ℕ, Bool, true, false, List, [], ◌∷◌, ◌+◌, ◌++◌, length, map, take, Result, Ok, Err, Some, slice_get}
use Rattle.pool_types.specs.Rising.{Rose}
use Rattle.pool_types.specs.declared.module_types.MemoryDecl.{MemoryDecl}
use Rattle.pool_types.specs.declared.table_type.TableType.{TableType}
use Rattle.pool_limits.specs.Exchanges.{Exchange, Exchanged, GrowthQuestion, may_grow, told_after}
use Rattle.pool_limits.specs.declared.errors.LimiterError.{LimiterError}
use Rattle.pool_memory.specs.Making.{minimum_question}
use Rattle.pool_table.specs.Making.{making_question}
use Rattle.pool_slots.specs.HeapsTold.{HeapsTold}
use Rattle.pool_slots.specs.declared.errors.AllocError.{AllocError}
use Rattle.pool_slots.specs.declared.errors.AllocError.TheVariants.{LimiterDenied, LimiterFault, HeapFault, Memory}
use Rattle.pool_slots.specs.declared.heap_maker.HeapMakeFault.{HeapMakeFault}
use Rattle.pool_slots.specs.declared.heap_maker.HeapMakeFault.TheVariants as no_heap
use Rattle.pool_alloc.specs.CallStages.{Progress, untested, uncounted, admitted, seeks_single, seeks_stack, tests_heap, seeks_heap, counts_heap, Stage, no_call, keys, asks, tests_component, counts_component, returning, refusing, purging, reserving, releasing, stage_of}
use Rattle.pool_alloc.specs.MemorySteps.{heap_refusal}
use Rattle.pool_alloc.specs.PartyTold.{PartyTold, MakesHeap}
use Rattle.pool_alloc.specs.StepReads.{heaps_wanted, memories_wanted, tables_wanted}
use Rattle.pool_alloc.specs.declared.frame.Asked.{Asked}
use Rattle.pool_alloc.specs.declared.frame.Asked.TheVariants.{Module as module_asked, Memory as memory_asked, Table as table_asked, Heap as heap_asked, HeapOver as heap_over_asked}
use Rattle.pool_alloc.specs.declared.frame.Call.{Call}
use Rattle.pool_alloc.specs.declared.frame.Call.TheVariants as call
use Rattle.pool_alloc.specs.declared.frame.Frame.{Frame}
use Rattle.pool_alloc.specs.declared.frame.Grant.TheVariants.{Instance, Component, Memory as memory_granted, Table as table_granted, Stack, Heap, HeapOver}
use Rattle.pool_alloc.specs.declared.frame.Outcome.{Outcome}
use Rattle.pool_alloc.specs.declared.frame.Outcome.TheVariants.{Key, Granted, Returned, Purged, Released, Refused}

-- A request that is so far asks neither a limiter nor a maker of heaps: it is for a stack.
abbrev pub RequestAsksNobody : Progress → Type 0
RequestAsksNobody seeks_stack = Unit {0}
RequestAsksNobody _ = ⊥

-- A call that is so far asks neither from now on: it is no request, or one for a component or a stack.
abbrev pub AsksNobody : Stage → Type 0
AsksNobody no_call = Unit {0}
AsksNobody keys = Unit {0}
AsksNobody (asks p) = RequestAsksNobody p
AsksNobody (tests_component info) = Unit {0}
AsksNobody counts_component = Unit {0}
AsksNobody returning = Unit {0}
AsksNobody (refusing e) = Unit {0}
AsksNobody purging = Unit {0}
AsksNobody reserving = Unit {0}
AsksNobody releasing = Unit {0}

-- A call that is so far may have asked the maker of heaps, and doesn't again: its heap is in hand, or it is refused.
abbrev pub MayHaveMade : Stage → Type 0
MayHaveMade (asks counts_heap) = Unit {0}
MayHaveMade (refusing e) = Unit {0}
MayHaveMade _ = ⊥

-- The maker of heaps answered this to a call that is so far: its heap is in hand, or it is refused as the maker says.
abbrev pub HasMade : {H : Type 0} → Result H HeapMakeFault → Stage → Type 0
HasMade (Ok heap) (asks counts_heap) = Unit {0}
HasMade (Err fault) (refusing e) = e ≡ heap_refusal fault
HasMade _ _ = ⊥

-- What a refusal says of limiter and maker of heaps, as they told it first and last: the limiter counted one more no, or one more error,
-- or the maker one more fault.
abbrev pub HasCause : PartyTold → PartyTold → AllocError → Type 0
HasCause old new (LimiterDenied table min) = Rose old.limiter.counts.noes new.limiter.counts.noes
HasCause old new (LimiterFault e) = Rose old.limiter.counts.errors new.limiter.counts.errors
HasCause old new HeapFault = Rose old.heaps.faults new.heaps.faults
HasCause old new _ = Unit {0}

module _ (H : Type 0) where
  -- Where a heap over a memory that there is is asked for: want of memory is what the maker of heaps answered, as it told first and last;
  -- nothing else wants memory for it.
  abbrev pub WantsOfMaker : Asked → HeapsTold → HeapsTold → AllocError → Type 0
  WantsOfMaker (heap_over_asked memory) old new Memory = MakesHeap {H = H} (Err no_heap.Memory) old new
  WantsOfMaker asked old new e = Unit {0}

-- Something holds of the reason of a call that is to be refused.
abbrev pub IfRefusing : (AllocError → Type 0) → Stage → Type 0
IfRefusing Q (refusing e) = Q e
IfRefusing Q _ = Unit {0}

-- What the limiter is asked for a request: whether each of its memories, and then each of its tables, may begin as its type says.
abbrev pub questions : Asked → List GrowthQuestion
questions asked = map (λ (d : MemoryDecl). minimum_question d.ty) (memories_wanted asked) ++ map making_question (tables_wanted asked)

-- Each of these questions was answered with yes.
abbrev pub all_yes : List GrowthQuestion → List Exchange
all_yes qs = map (λ (q : GrowthQuestion). may_grow q (Ok true)) qs

-- So many of a request's questions were asked, in their order, and answered with yes; no more passed.
abbrev pub YesTo : Asked → ℕ → List Exchange → Type 0
YesTo asked n passed = passed ≡ all_yes (take n (questions asked))

-- The questions of a request were asked in their order and answered with yes, up to one with another answer; no more passed.
pub record StoppedBy (asked : Asked) (answer : Result Bool LimiterError) (passed : List Exchange) : Type 0 where
  pub number : ℕ
  pub question : GrowthQuestion
  pub is : slice_get (questions asked) number ≡ Some question
  pub all : passed ≡ all_yes (take number (questions asked)) ++ may_grow question answer ∷ []

-- The object with this number of a request is a memory that begins with so many pages, or a table that begins with so many elements.
abbrev pub NamesObject : Asked → Bool → ℕ → ℕ → Type 0
NamesObject asked false min number = (decl : MemoryDecl) × ((slice_get (memories_wanted asked) number ≡ Some decl) × (decl.ty.limits.min ≡ min))
NamesObject asked true min number = (place : ℕ) × ((number ≡ length (memories_wanted asked) + place) × ((ty : TableType) × ((slice_get (tables_wanted asked) place ≡ Some ty) × (ty.limits.min ≡ min))))

-- What passed between a request and its limiter where it is refused for a reason: a no comes last, or an error, where that is the reason,
-- and else all answers were yes. A refusal by a no names the object that was asked for.
abbrev pub RefusedAfter : Asked → AllocError → List Exchange → Type 0
RefusedAfter asked (LimiterDenied table min) passed = (stop : StoppedBy asked (Ok false) passed) × NamesObject asked table min stop.number
RefusedAfter asked (LimiterFault e) passed = StoppedBy asked (Err e) passed
RefusedAfter asked _ passed = (n : ℕ) × YesTo asked n passed

-- What passed until a request is so far: a question for each object that is made.
abbrev pub RequestAsked : Asked → Progress → List Exchange → Type 0
RequestAsked asked untested passed = passed ≡ []
RequestAsked asked uncounted passed = passed ≡ []
RequestAsked asked (admitted n) passed = YesTo asked n passed
RequestAsked asked (seeks_single n) passed = YesTo asked n passed
RequestAsked asked seeks_stack passed = passed ≡ []
RequestAsked asked tests_heap passed = passed ≡ []
RequestAsked asked (seeks_heap n) passed = YesTo asked n passed
RequestAsked asked counts_heap passed = passed ≡ all_yes (questions asked)

-- What passed until a call is so far.
abbrev pub AskedSoFar : Asked → Stage → List Exchange → Type 0
AskedSoFar asked no_call passed = passed ≡ []
AskedSoFar asked keys passed = passed ≡ []
AskedSoFar asked (asks p) passed = RequestAsked asked p passed
AskedSoFar asked (tests_component info) passed = passed ≡ []
AskedSoFar asked counts_component passed = passed ≡ []
AskedSoFar asked returning passed = passed ≡ []
AskedSoFar asked (refusing e) passed = RefusedAfter asked e passed
AskedSoFar asked purging passed = passed ≡ []
AskedSoFar asked reserving passed = passed ≡ []
AskedSoFar asked releasing passed = passed ≡ []

module _ {P H : Type 0} where
  -- What passed where a call ends so: for an instance, a memory or a table by itself, or a heap the limiter said yes to all that was asked for.
  abbrev pub AnsweredAfter : Asked → Outcome P H → List Exchange → Type 0
  AnsweredAfter asked Key passed = passed ≡ []
  AnsweredAfter asked (Granted (Instance lease)) passed = passed ≡ all_yes (questions asked)
  AnsweredAfter asked (Granted Component) passed = passed ≡ []
  AnsweredAfter asked (Granted (memory_granted lease)) passed = passed ≡ all_yes (questions asked)
  AnsweredAfter asked (Granted (table_granted lease)) passed = passed ≡ all_yes (questions asked)
  AnsweredAfter asked (Granted (Stack lease)) passed = passed ≡ []
  AnsweredAfter asked (Granted (Heap lease memory)) passed = passed ≡ all_yes (questions asked)
  AnsweredAfter asked (Granted (HeapOver lease)) passed = passed ≡ all_yes (questions asked)
  AnsweredAfter asked Returned passed = passed ≡ []
  AnsweredAfter asked (Purged n) passed = passed ≡ []
  AnsweredAfter asked (Released n) passed = passed ≡ []
  AnsweredAfter asked (Refused e) passed = RefusedAfter asked e passed

  -- What passes between a call and its limiter: nothing but the questions of a module, of a memory or a table by
  -- itself, or of a heap with its memory.
  abbrev pub CallAsks : Call P H → Outcome P H → List Exchange → Type 0
  CallAsks call.Key o passed = passed ≡ []
  CallAsks (call.Module m) o passed = AnsweredAfter (module_asked m) o passed
  CallAsks (call.Component info) o passed = passed ≡ []
  CallAsks (call.Memory m) o passed = AnsweredAfter (memory_asked m) o passed
  CallAsks (call.Table ty) o passed = AnsweredAfter (table_asked ty) o passed
  CallAsks call.Stack o passed = passed ≡ []
  CallAsks (call.Heap ty) o passed = AnsweredAfter (heap_asked ty) o passed
  CallAsks (call.HeapOver memory) o passed = passed ≡ []
  CallAsks (call.GiveBack grant) o passed = passed ≡ []
  CallAsks (call.Purge id) o passed = passed ≡ []
  CallAsks call.Release o passed = passed ≡ []

  -- Something holds of the reason of a refusal.
  abbrev pub IfRefused : (AllocError → Type 0) → Outcome P H → Type 0
  IfRefused Q Key = Unit {0}
  IfRefused Q (Granted grant) = Unit {0}
  IfRefused Q Returned = Unit {0}
  IfRefused Q (Purged n) = Unit {0}
  IfRefused Q (Released n) = Unit {0}
  IfRefused Q (Refused e) = Q e

  -- The call is for neither an instance, nor a memory or a table by itself, nor a heap.
  abbrev pub IsQuiet : Call P H → Type 0
  IsQuiet call.Key = Unit {0}
  IsQuiet (call.Module m) = ⊥
  IsQuiet (call.Component info) = Unit {0}
  IsQuiet (call.Memory m) = ⊥
  IsQuiet (call.Table ty) = ⊥
  IsQuiet call.Stack = Unit {0}
  IsQuiet (call.Heap ty) = ⊥
  IsQuiet (call.HeapOver memory) = ⊥
  IsQuiet (call.GiveBack grant) = Unit {0}
  IsQuiet (call.Purge id) = Unit {0}
  IsQuiet call.Release = Unit {0}

  -- A call ends so where the maker of heaps answered this: with a grant, or refused as the maker says.
  abbrev pub AnswersMade : Result H HeapMakeFault → Outcome P H → Type 0
  AnswersMade (Ok heap) (Granted grant) = Unit {0}
  AnswersMade (Err fault) (Refused e) = e ≡ heap_refusal fault
  AnswersMade _ _ = ⊥

  -- What want of memory says in a call, by what it is for.
  abbrev pub CallWants : Call P H → HeapsTold → HeapsTold → AllocError → Type 0
  CallWants (call.HeapOver memory) old new e = WantsOfMaker H (heap_over_asked memory) old new e
  CallWants c old new e = Unit {0}

  -- The call is for a heap.
  abbrev pub IsForHeap : Call P H → Type 0
  IsForHeap call.Key = ⊥
  IsForHeap (call.Module m) = ⊥
  IsForHeap (call.Component info) = ⊥
  IsForHeap (call.Memory m) = ⊥
  IsForHeap (call.Table ty) = ⊥
  IsForHeap call.Stack = ⊥
  IsForHeap (call.Heap ty) = Unit {0}
  IsForHeap (call.HeapOver memory) = Unit {0}
  IsForHeap (call.GiveBack grant) = ⊥
  IsForHeap (call.Purge id) = ⊥
  IsForHeap call.Release = ⊥

  module _ {L : Type 0} (leads : L → Exchange → L → Type 0) where
    -- What a call has exchanged so far with its limiter, which was in one state before it and is in the other now, and with its maker of
    -- heaps. It tells what these exchanges leave. The maker was asked once at most.
    pub record AskedSince (first now : L) (old new : PartyTold) (begun f : Frame P H) : Type 0 where
      pub passed : List Exchange
      pub exchanged : Exchanged leads passed first now
      pub told : new.limiter ≡ told_after passed old.limiter
      pub made : (new.heaps ≡ old.heaps) ⊎ (MayHaveMade (stage_of f) × (heaps_wanted f.asked ≡ 1) × ((answer : Result H HeapMakeFault) × (HasMade answer (stage_of f) × MakesHeap answer old.heaps new.heaps)))
      pub quiet : AsksNobody (stage_of begun) → AsksNobody (stage_of f) × (passed ≡ []) × (new.heaps ≡ old.heaps)
      pub cause : IfRefusing (HasCause old new) (stage_of f)
      pub wants : IfRefusing (WantsOfMaker H f.asked old.heaps new.heaps) (stage_of f)
      pub so_far : AskedSoFar f.asked (stage_of f) passed

    -- What a call exchanged: these exchanges with its limiter, and no others, of which this is so; and with its maker of heaps nothing, or
    -- one making where it is for a heap, and then it ends as the maker answered. A call of a kind that asks nobody left both as they
    -- were. A refusal for which the limiter or the maker is the reason has its cause in what they tell.
    pub record HasAsked (Silent ForHeap : Type 0) (Says : List Exchange → Type 0) (first last : L) (old new : PartyTold) (o : Outcome P H) : Type 0 where
      pub passed : List Exchange
      pub exchanged : Exchanged leads passed first last
      pub told : new.limiter ≡ told_after passed old.limiter
      pub made : (new.heaps ≡ old.heaps) ⊎ (ForHeap × ((answer : Result H HeapMakeFault) × (AnswersMade answer o × MakesHeap answer old.heaps new.heaps)))
      pub quiet : Silent → (passed ≡ []) × (new.heaps ≡ old.heaps)
      pub cause : IfRefused (HasCause old new) o
      pub says : Says passed
