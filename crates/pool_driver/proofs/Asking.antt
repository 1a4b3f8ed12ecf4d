-- What a call exchanges with its limiter and its maker of heaps, step after step.
use Rattle.std.proofs.Common.{◌≡◌, ◌⊎◌, ⊎_elim, inl, inr, ℕ, ◌+◌, ◌<◌, ◌≤◌, Bool, true, false, List, [], ◌∷◌, ◌++◌, length, map, take, refl, sym, ap, subst, ◌∙◌, arith, true≢false, Option, Some, None, Result, Ok, Err, IfSome, slice_get, zero, suc}
use Rattle.pool_types.specs.declared.module_types.MemoryDecl.{MemoryDecl}
use Rattle.pool_types.specs.declared.table_type.TableType.{TableType}
use Rattle.pool_types.specs.declared.unsupported.Unsupported.{Unsupported}
use Rattle.pool_pages.specs.Told.{Told}
use Rattle.pool_images.specs.Slots.{Slot}
use Rattle.pool_memory.specs.Memories.{MemoryState}
use Rattle.pool_limits.specs.Exchanges.{Exchange, Exchanged, GrowthQuestion, may_grow, told_after}
use Rattle.pool_limits.specs.LimiterTold.{LimiterTold, default_quotas, no_refusals}
use Rattle.pool_limits.specs.declared.errors.LimiterError.{LimiterError}
use Rattle.pool_memory.specs.Making.{minimum_question}
use Rattle.pool_table.specs.Making.{making_question}
use Rattle.pool_hall.specs.declared.view.View.{View}
use Rattle.pool_slots.specs.HeapsTold.{HeapsTold}
use Rattle.pool_slots.specs.declared.errors.AllocError.{AllocError}
use Rattle.pool_slots.specs.declared.errors.AllocError.TheVariants as refusal
use Rattle.pool_slots.specs.declared.heap_maker.HeapMakeFault.{HeapMakeFault}
use Rattle.pool_slots.specs.declared.part.PoolPart.{PoolPart}
use Rattle.pool_index.specs.Shard.{pick_answer}
use Rattle.pool_slots.specs.HeapLists.{heap_in}
use Rattle.pool_alloc.specs.BetweenSteps.{IsShapedAt}
use Rattle.pool_alloc.specs.Calls.{IfGranted, IsGrantOf, begun_call}
use Rattle.pool_alloc.specs.CallStages.{Follows, Goes, IsBroken, Makes, MakesTable, Progress, Raises, Stage, untested, uncounted, admitted, seeks_single, seeks_stack, tests_heap, seeks_heap, counts_heap, no_call, keys, asks, tests_component, counts_component, returning, refusing, purging, reserving, releasing, progress_by, stage_at, stage_by, stage_of}
use Rattle.pool_alloc.specs.MemorySteps.{made_for}
use Rattle.pool_alloc.specs.PageCallAnswers.{AsksForMemory, AsksOf, LimiterHears, MakesOf}
use Rattle.pool_alloc.specs.PartyTold.{PartyTold, MakesHeap}
use Rattle.pool_alloc.specs.Refusals.{component_refused}
use Rattle.pool_alloc.specs.StepReads.{cell_named, heaps_at, heaps_wanted, memories_wanted, queue_at, queue_tried, shard_at, shard_tried, stacks_wanted, tables_wanted, wanted}
use Rattle.pool_alloc.specs.TableLeases.{LeasedTable}
use Rattle.pool_alloc.specs.StepTable.{flush_step, make_heap_row, row_of, was_made, was_made_table}
use Rattle.pool_alloc.specs.Stepping.{StepsTo}
use Rattle.pool_alloc.specs.TableSteps.{AsksForTable, made_table}
use Rattle.pool_alloc.specs.Turns.{After, Left, after, resting}
use Rattle.pool_alloc.specs.Objects.{objects_in, objects_wanted}
use Rattle.pool_alloc.specs.declared.frame.Asked.{Asked}
use Rattle.pool_alloc.specs.declared.frame.Asked.TheVariants as asked_for
use Rattle.pool_alloc.specs.declared.frame.Call.{Call}
use Rattle.pool_alloc.specs.declared.frame.Call.TheVariants as call
use Rattle.pool_alloc.specs.declared.frame.Ending.{Ending}
use Rattle.pool_alloc.specs.declared.frame.Ending.TheVariants.{Granted as granted}
use Rattle.pool_alloc.specs.declared.frame.Frame.{Frame}
use Rattle.pool_alloc.specs.declared.frame.Grant.TheVariants.{Instance, Component, Memory as memory_granted, Table as table_granted, Stack, Heap, HeapOver}
use Rattle.pool_alloc.specs.declared.frame.Outcome.{Outcome}
use Rattle.pool_alloc.specs.declared.frame.Outcome.TheVariants.{Key, Granted, Returned, Purged, Released, Refused}
use Rattle.pool_alloc.specs.declared.frame.Phase.{Phase}
use Rattle.pool_alloc.specs.declared.frame.Phase.TheVariants.{Idle, Key as key_phase, Validate, TestStack, TestHeap, CountInstance, Pick, TakeQueue, TakeRegion, Empty, Instantiate, MakeMemory, MakeTable, CountObject, TakeHeap, MakeHeap, CountHeap, PutNoHeap, PutBack, FreeOne, UncountObject, UncountHeap, PutHeap, FreeHeap, Reset, Merge, Flush, UncountInstance, ValidateComponent, CountComponent, UncountComponent, Purge, Release}
use Rattle.pool_alloc.specs.declared.frame.TakenSlot.{TakenSlot}
use Rattle.pool_alloc.specs.declared.leases.instance.InstanceLease.{InstanceLease}
use Rattle.pool_alloc.specs.declared.pool_core.PoolCore.{PoolCore}
use Rattle.pool_alloc.proofs.BeforeTheTurn.{kept_of}
use Rattle.pool_alloc.proofs.SoundSteps.{sound_step}
use Rattle.pool_driver.specs.Asking.{AnsweredAfter, AnswersMade, AskedSince, AskedSoFar, AsksNobody, CallAsks, HasAsked, HasCause, HasMade, IfRefused, IfRefusing, WantsOfMaker, IsForHeap, IsQuiet, MayHaveMade, NamesObject, RefusedAfter, RequestAsked, YesTo, all_yes, questions}
use Rattle.pool_driver.specs.Calling.{gives_back, kind_at, releases}
use Rattle.pool_driver.specs.Driving.{SeesStep}
use Rattle.pool_driver.specs.Placed.{About}
use Rattle.pool_driver.specs.Refusing.{IsCallFor}
use Rattle.pool_driver.proofs.Calling.{begun_kind}
use Rattle.pool_driver.proofs.OverWants.{broken_wants, limit_wants, raise_wants}
use Rattle.pool_driver.proofs.MadeObjects.{HasAtMost, HasNumber, KeepsMade, flush_row_keeps, heap_keeps, heap_made_keeps, made_until, no_stack_next, none_back, none_counted_back, none_released, not_stack, number_is, paged_keeps, picked_keeps, queue_keeps, region_keeps, at_most}
use Rattle.pool_driver.proofs.Causes.{broken_cause, cause_on, cause_since, exchanged_on, raise_cause, table_below, told_on}
use Rattle.pool_driver.proofs.Questions.{AnswersSo, EndsSo, IsNoLimiter, all_asked, asked_after, first_at, later_at, mapped_at, memory_ends, no_tables, other_after, some_yes, table_ends, there_is, yes_here, yes_more, yes_there}
use Rattle.pool_slots.specs.declared.allocation_index.MemoryAllocationIndex.{MemoryAllocationIndex}

-- a call for a memory, or for objects of which one is a memory, asks
with_memory : (a : Asked) (k : ℕ) → k < length (memories_wanted a) → stacks_wanted a ≡ 0
with_memory asked_for.Nothing k below = refl
with_memory (asked_for.Module m) k below = refl
with_memory (asked_for.Memory m) k below = refl
with_memory (asked_for.Table ty) k below = refl
with_memory asked_for.Stack k below = absurd (omega (arith, below))
with_memory (asked_for.Heap ty) k below = refl
with_memory (asked_for.HeapOver memory) k below = refl

with_heap : (a : Asked) → heaps_wanted a ≡ 1 → stacks_wanted a ≡ 0
with_heap asked_for.Nothing one = refl
with_heap (asked_for.Module m) one = refl
with_heap (asked_for.Memory m) one = refl
with_heap (asked_for.Table ty) one = refl
with_heap asked_for.Stack one = absurd (omega (arith, one))
with_heap (asked_for.Heap ty) one = refl
with_heap (asked_for.HeapOver memory) one = refl

asks_some : (a : Asked) (n : ℕ) → stacks_wanted a ≡ 0 → AsksNobody (asks (progress_by a n)) → ⊥
asks_some asked_for.Nothing n none quiet = quiet
asks_some (asked_for.Module m) n none quiet = quiet
asks_some (asked_for.Memory m) n none quiet = quiet
asks_some (asked_for.Table ty) n none quiet = quiet
asks_some asked_for.Stack n none quiet = omega (arith, none)
asks_some (asked_for.Heap ty) n none quiet = quiet
asks_some (asked_for.HeapOver memory) n none quiet = quiet

asks_then : (s : Stage) (a : Asked) (aim : Ending) (n : ℕ) → s ≡ stage_by a aim n → aim ≡ granted → stacks_wanted a ≡ 0 → AsksNobody s → ⊥
asks_then s a aim n is grants none quiet = asks_some a n none (subst AsksNobody (is ∙ ap (λ (x : Ending). stage_by a x n) grants) quiet)

not_made : (a : Asked) (n : ℕ) → MayHaveMade (asks (progress_by a n)) → ⊥
not_made asked_for.Nothing n made = made
not_made (asked_for.Module m) n made = made
not_made (asked_for.Memory m) n made = made
not_made (asked_for.Table ty) n made = made
not_made asked_for.Stack n made = made
not_made (asked_for.Heap ty) n made = made
not_made (asked_for.HeapOver memory) n made = made

not_made_then : (s : Stage) (a : Asked) (aim : Ending) (n : ℕ) → s ≡ stage_by a aim n → aim ≡ granted → MayHaveMade s → ⊥
not_made_then s a aim n is grants made = not_made a n (subst MayHaveMade (is ∙ ap (λ (x : Ending). stage_by a x n) grants) made)

module _ {T P H : Type 0} (about : T → About) (inner : T → PoolPart P H) (Passes : List Exchange → Type 0) (old new : PartyTold) (a : About) (v w : View T) (f next : Frame P H) (o : Option (Outcome P H)) (s : SeesStep about inner Passes old new a v w f next o) where
  abbrev c : PoolCore P H
  c = s.core

  abbrev e : Frame P H
  e = resting f

  shape : (p : Phase P H) → f.phase ≡ p → IsShapedAt a.maker c.settings c.plan p f
  shape p is = subst (λ (q : Phase P H). IsShapedAt a.maker c.settings c.plan q f) is s.can.frame.shape

  stage_is : (p : Phase P H) → f.phase ≡ p → stage_of f ≡ stage_at p f.asked f.ending (objects_in f.objects)
  stage_is p is = ap (λ (q : Phase P H). stage_at q f.asked f.ending (objects_in f.objects)) is

  -- the step asks the limiter
  abbrev is_making : Phase P H → Bool
  is_making (MakeMemory at held) = true
  is_making (MakeTable at region) = true
  is_making _ = false

  -- a no names the object that is made next
  abbrev Names : Bool → ℕ → Type 0
  Names table min' = NamesObject f.asked table min' (objects_in f.objects)

  -- What follows the limiter's answer: one object more is made, or the call is to be refused.
  abbrev MadeSo : Result Bool LimiterError → Left P H → Type 0
  MadeSo answer l = (((answer ≡ Ok true) × (stage_of l.frame ≡ asks (progress_by f.asked (objects_in f.objects + 1)))) ⊎ ((x : AllocError) × ((stage_of l.frame ≡ refusing x) × AnswersSo Names answer x))) × (l.outcome ≡ None)

  -- A step that asks the limiter asks it the next question of the request.
  pub record SaidOne (xs : List Exchange) : Type 0 where
    pub question : GrowthQuestion
    pub answer : Result Bool LimiterError
    pub is : xs ≡ may_grow question answer ∷ []
    pub next_one : slice_get (questions f.asked) (objects_in f.objects) ≡ Some question
    pub stage : stage_of f ≡ stage_by f.asked f.ending (objects_in f.objects)
    pub grants : f.ending ≡ granted
    pub no_stack : stacks_wanted f.asked ≡ 0
    pub leaves : MadeSo answer (record { frame = next; outcome = o })

  pub record SaidNone (xs : List Exchange) : Type 0 where
    pub none : xs ≡ []
    pub silent : is_making f.phase ≡ false

  memory_row : f.ending ≡ granted → (at : TakenSlot) (held : Slot) (answer : Result Bool LimiterError) (r : Result MemoryState AllocError) → EndsSo Names answer r → MadeSo answer (after (was_made at held r c e).frame (was_made at held r c e).turn)
  memory_row grants at held answer (Ok memory) ends = (inl (ends, ap (λ (z : Ending). stage_by f.asked z (objects_in f.objects + 1)) grants), refl)
  memory_row grants at held answer (Err x) ends = (inr (x, (refl, ends)), refl)

  table_row : f.ending ≡ granted → (at : TakenSlot) (region : Told) (answer : Result Bool LimiterError) (r : Result LeasedTable AllocError) → EndsSo Names answer r → MadeSo answer (after (was_made_table at region r c e).frame (was_made_table at region r c e).turn)
  table_row grants at region answer (Ok lease) ends = (inl (ends, ap (λ (z : Ending). stage_by f.asked z (objects_in f.objects + 1)) grants), refl)
  table_row grants at region answer (Err x) ends = (inr (x, (refl, ends)), refl)

  -- what is so of the row is so of what the step left
  of_row : (Q : Left P H → Type 0) (p : Phase P H) → f.phase ≡ p → Q (after (row_of s.row.0 p c e).frame (row_of s.row.0 p c e).turn) → Q (record { frame = next; outcome = o })
  of_row Q p is row = subst (λ (z : After P H). Q (record { frame = z.frame; outcome = z.outcome })) (sym s.row.1.0.is) (subst (λ (q : Phase P H). Q (after (row_of s.row.0 q c e).frame (row_of s.row.0 q c e).turn)) (sym is) row)

  -- What passed in a step: what the limiter tells is what that leaves.
  pub record StepHeard : Type 0 where
    pub passed : List Exchange
    pub passes : Passes passed
    pub told : new.limiter ≡ told_after passed old.limiter
    pub quiet : AsksNobody (stage_of f) → passed ≡ []
    pub said : SaidNone passed ⊎ SaidOne passed

  heard_at : (p : Phase P H) → f.phase ≡ p → LimiterHears Passes s.row.0 p f → AsksOf old.limiter new.limiter s.row.0 p f → StepHeard
  heard_at (MakeMemory at held) is hears asks_so =
      let can = shape (MakeMemory at held) is in
      let k : ℕ = length f.objects.memories.items in
      let d = there_is (memories_wanted f.asked) k can.4 in
      let asked : AsksForMemory s.row.0.limiter old.limiter new.limiter d.0 = subst (λ (x : Option MemoryDecl). IfSome x (AsksForMemory s.row.0.limiter old.limiter new.limiter)) d.1 asks_so in
      let no_tables : length f.objects.tables.items ≡ 0 = ap length (can.1.to_grant.order can.4) in
      let last : k ≡ objects_in f.objects = omega (arith, no_tables) in
      record {
        passed = may_grow (minimum_question d.0.ty) s.row.0.limiter ∷ [];
        passes = subst (λ (x : Option MemoryDecl). IfSome x (λ decl. Passes (may_grow (minimum_question decl.ty) s.row.0.limiter ∷ []))) d.1 hears;
        told = asked.left;
        quiet = λ quiet. absurd (asks_then (stage_of f) f.asked f.ending (objects_in f.objects) (stage_is (MakeMemory at held) is) can.1.ending (with_memory f.asked k can.4) quiet);
        said = inr (record {
          question = minimum_question d.0.ty;
          answer = s.row.0.limiter;
          is = refl;
          next_one = subst (λ (n : ℕ). slice_get (questions f.asked) n ≡ Some (minimum_question d.0.ty)) last (first_at (λ (decl : MemoryDecl). minimum_question decl.ty) (memories_wanted f.asked) (map making_question (tables_wanted f.asked)) k d.0 d.1);
          stage = stage_is (MakeMemory at held) is;
          grants = can.1.ending;
          no_stack = with_memory f.asked k can.4;
          leaves = of_row (MadeSo s.row.0.limiter) (MakeMemory at held) is (memory_row can.1.ending at held s.row.0.limiter _ (subst (λ (x : Option MemoryDecl). EndsSo Names s.row.0.limiter (made_for c.settings.max_memory_size s.row.0.limiter held x)) (sym d.1) (memory_ends Names s.row.0.limiter c.settings.max_memory_size held d.0.ty (d.0, (subst (λ (n : ℕ). slice_get (memories_wanted f.asked) n ≡ Some d.0) last d.1, refl)) s.row.0.limiter refl)));
        });
      }
  heard_at (MakeTable at region) is hears asks_so =
      let can = shape (MakeTable at region) is in
      let j : ℕ = length f.objects.tables.items in
      let ty = there_is (tables_wanted f.asked) j (table_below a.maker old new c f s.can.core.settings can.1 can.3) in
      let asked : AsksForTable s.row.0.limiter old.limiter new.limiter ty.0 = subst (λ (x : Option TableType). IfSome x (AsksForTable s.row.0.limiter old.limiter new.limiter)) ty.1 asks_so in
      let last : length (memories_wanted f.asked) + j ≡ objects_in f.objects = omega (arith, can.1.to_grant.few, (kept_of f.asked).memories, can.3.0) in
      record {
        passed = may_grow (making_question ty.0) s.row.0.limiter ∷ [];
        passes = subst (λ (x : Option TableType). IfSome x (λ t. Passes (may_grow (making_question t) s.row.0.limiter ∷ []))) ty.1 hears;
        told = asked.leaves;
        quiet = λ quiet. absurd (asks_then (stage_of f) f.asked f.ending (objects_in f.objects) (stage_is (MakeTable at region) is) can.1.ending can.3.1.no_stack quiet);
        said = inr (record {
          question = making_question ty.0;
          answer = s.row.0.limiter;
          is = refl;
          next_one =
              subst (λ (n : ℕ). slice_get (questions f.asked) n ≡ Some (making_question ty.0)) last
              (later_at (λ (decl : MemoryDecl). minimum_question decl.ty) (memories_wanted f.asked) (map making_question (tables_wanted f.asked)) j ∙ mapped_at making_question (tables_wanted f.asked) j ty.0 ty.1);
          stage = stage_is (MakeTable at region) is;
          grants = can.1.ending;
          no_stack = can.3.1.no_stack;
          leaves = of_row (MadeSo s.row.0.limiter) (MakeTable at region) is (table_row can.1.ending at region s.row.0.limiter _ (subst (λ (x : Option TableType). EndsSo Names s.row.0.limiter (made_table c.settings s.row.0.limiter at region x)) (sym ty.1) (table_ends Names s.row.0.limiter c.settings at region ty.0 (j, (sym last, (ty.0, (ty.1, refl)))) s.row.0.limiter refl)));
        });
      }
  heard_at p is hears asks_so = record { passed = []; passes = hears; told = asks_so; quiet = λ quiet. refl; said = inl (record { none = refl; silent = ap is_making is }) }

  pub heard : StepHeard
  heard = heard_at f.phase refl s.row.1.1 s.row.1.0.limiter

  -- What a step asked of the maker of heaps: it made one, of a call that hadn't, and won't again.
  pub record StepMade : Type 0 where
    pub answer : Result H HeapMakeFault
    pub makes : MakesHeap answer old.heaps new.heaps
    pub before : MayHaveMade (stage_of f) → ⊥
    pub for_heap : heaps_wanted f.asked ≡ 1
    pub not_quiet : AsksNobody (stage_of f) → ⊥
    pub after_it : MayHaveMade (stage_of next)
    pub made_as : HasMade answer (stage_of next)
    pub goes_on : o ≡ None

  made_after : (at : TakenSlot) (answer : Result H HeapMakeFault) → MayHaveMade (stage_of (after (make_heap_row answer at c e).frame (make_heap_row answer at c e).turn).frame)
  made_after at (Ok heap) = tt
  made_after at (Err fault) = tt

  -- and the call goes on as the maker says
  abbrev MadeAs : Result H HeapMakeFault → Left P H → Type 0
  MadeAs answer l = HasMade answer (stage_of l.frame) × (l.outcome ≡ None)

  made_so : (at : TakenSlot) (answer : Result H HeapMakeFault) → MadeAs answer (after (make_heap_row answer at c e).frame (make_heap_row answer at c e).turn)
  made_so at (Ok heap) = (tt, refl)
  made_so at (Err fault) = (refl, refl)

  made_at : (p : Phase P H) → f.phase ≡ p → MakesOf old.heaps new.heaps s.row.0 p → ((new.heaps ≡ old.heaps) ⊎ StepMade)
  made_at (MakeHeap at) is makes =
      let can = shape (MakeHeap at) is in
      let row : MayHaveMade (stage_of (after (row_of s.row.0 f.phase c e).frame (row_of s.row.0 f.phase c e).turn).frame) =
      subst (λ (p : Phase P H). MayHaveMade (stage_of (after (row_of s.row.0 p c e).frame (row_of s.row.0 p c e).turn).frame)) (sym is) (made_after at s.row.0.heap) in
      inr (record {
        answer = s.row.0.heap;
        makes = makes;
        before = not_made_then (stage_of f) f.asked f.ending (objects_in f.objects) (stage_is (MakeHeap at) is) can.1.ending;
        for_heap = can.4.1;
        not_quiet = asks_then (stage_of f) f.asked f.ending (objects_in f.objects) (stage_is (MakeHeap at) is) can.1.ending (with_heap f.asked can.4.1);
        after_it = subst (λ (z : After P H). MayHaveMade (stage_of z.frame)) (sym s.row.1.0.is) row;
        made_as = (of_row (MadeAs s.row.0.heap) (MakeHeap at) is (made_so at s.row.0.heap)).0;
        goes_on = (of_row (MadeAs s.row.0.heap) (MakeHeap at) is (made_so at s.row.0.heap)).1;
      })
  made_at p is makes = inl makes

  made : (new.heaps ≡ old.heaps) ⊎ StepMade
  made = made_at f.phase refl s.row.1.0.heaps

  -- who asks nobody asks nobody still
  quiet_on : (p q : Stage) → Goes a.maker old new c f p q None → AsksNobody p → AsksNobody q
  quiet_on no_call no_call goes quiet = tt
  quiet_on keys no_call goes quiet = absurd goes
  quiet_on (asks seeks_stack) (asks seeks_stack) goes quiet = tt
  quiet_on (asks p) (refusing x) goes quiet = tt
  quiet_on (tests_component info) counts_component goes quiet = tt
  quiet_on counts_component (refusing x) goes quiet = tt
  quiet_on returning returning goes quiet = tt
  quiet_on (refusing x) (refusing y) goes quiet = tt
  quiet_on purging purging goes quiet = tt
  quiet_on reserving releasing goes quiet = tt
  quiet_on releasing releasing goes quiet = tt
  quiet_on (asks seeks_stack) q goes quiet = absurd goes
  quiet_on (asks p) q goes quiet = absurd quiet
  quiet_on p q goes quiet = absurd goes

  made_on : (p q : Stage) → Goes a.maker old new c f p q None → MayHaveMade p → MayHaveMade q
  made_on (refusing x) (refusing y) goes had = tt
  made_on (asks counts_heap) (refusing x) goes had = tt
  made_on (asks counts_heap) q goes had = absurd goes
  made_on (refusing x) q goes had = absurd goes
  made_on p q goes had = absurd had

  has_on : (answer : Result H HeapMakeFault) (p q : Stage) → Goes a.maker old new c f p q None → HasMade answer p → HasMade answer q
  has_on (Err fault) (refusing x) (refusing y) goes had = goes ∙ had
  has_on (Err fault) (refusing x) q goes had = absurd goes
  has_on (Ok heap) (asks counts_heap) (refusing x) goes had = absurd goes
  has_on (Ok heap) (asks counts_heap) q goes had = absurd goes
  has_on (Ok heap) p q goes had = absurd had
  has_on (Err fault) p q goes had = absurd had

  has_last : (answer : Result H HeapMakeFault) (p q : Stage) (x : Outcome P H) → Goes a.maker old new c f p q (Some x) → HasMade answer p → AnswersMade answer x
  has_last (Err fault) (refusing y) no_call (Refused x) goes had = goes ∙ had
  has_last (Err fault) (refusing y) q x goes had = absurd goes
  has_last (Ok heap) (asks counts_heap) q (Granted grant) goes had = tt
  has_last (Ok heap) (asks counts_heap) no_call x goes had = absurd goes
  has_last (Ok heap) (asks counts_heap) q x goes had = absurd goes
  has_last (Ok heap) p q x goes had = absurd had
  has_last (Err fault) p q x goes had = absurd had

  -- A silent step is one with every limiter: so no limiter is the reason of its refusal.
  abbrev any_told : LimiterTold
  any_told = record { rule = None; quotas = default_quotas; counts = no_refusals }

  abbrev other_old : PartyTold
  other_old = record { limiter = any_told; heaps = old.heaps }

  abbrev other_new : PartyTold
  other_new = record { limiter = any_told; heaps = new.heaps }

  silent_asks : (p : Phase P H) → is_making p ≡ false → AsksOf any_told any_told s.row.0 p f
  silent_asks (MakeMemory at held) silent = absurd (true≢false silent)
  silent_asks (MakeTable at region) silent = absurd (true≢false silent)
  silent_asks p silent = refl

  silent_steps : is_making f.phase ≡ false → StepsTo other_old other_new c f (record { core = s.left; frame = next; outcome = o })
  silent_steps silent = (s.row.0, record { told = s.row.1.0.told; planned = s.row.1.0.planned; limiter = silent_asks f.phase silent; heaps = s.row.1.0.heaps; is = s.row.1.0.is })

  silent_way : is_making f.phase ≡ false → Goes a.maker other_old other_new c f (stage_of f) (stage_of next) o
  silent_way silent = (sound_step a.maker other_old other_new c f (record { core = s.left; frame = next; outcome = o }) s.can (silent_steps silent)).goes.way

  no_limiter : (x : AllocError) → HasCause other_old other_new x → IsNoLimiter x
  no_limiter (refusal.LimiterDenied table min') cause = omega (arith, cause)
  no_limiter (refusal.LimiterFault y) cause = omega (arith, cause)
  no_limiter refusal.Memory cause = tt
  no_limiter (refusal.Unsupported rule) cause = tt
  no_limiter (refusal.Limit l) cause = tt
  no_limiter refusal.StacksDisabled cause = tt
  no_limiter refusal.HeapsDisabled cause = tt
  no_limiter refusal.PageFault cause = tt
  no_limiter refusal.HeapFault cause = tt

  silent_fails : (p : Progress) (x : AllocError) (xs : List Exchange) → Raises a.maker other_old other_new c f p x → RequestAsked f.asked p xs → RefusedAfter f.asked x xs
  silent_fails p x xs raises had = let allowed = some_yes f.asked p xs had in other_after f.asked x xs (no_limiter x (raise_cause a.maker other_old other_new c f s.can.core.settings p x raises)) allowed.0 allowed.1

  -- It makes no object: a request has one more than it granted just before that is counted, and else none is made.
  abbrev Kept : Phase P H → Type 0
  Kept p = (made_until (stage_of f) ≡ objects_in f.objects + 1) ⊎ KeepsMade (objects_in f.objects) (after (row_of s.row.0 p c e).frame (row_of s.row.0 p c e).turn)

  numbered : (p : Phase P H) → f.phase ≡ p → HasNumber (stage_of f) → HasNumber (stage_at p f.asked f.ending (objects_in f.objects))
  numbered p is has = subst HasNumber (stage_is p is) has

  made_none : (p : Phase P H) → f.phase ≡ p → is_making p ≡ false → HasNumber (stage_of f) → Kept p
  made_none (Pick tried) is silent has = inr (picked_keeps c.plan (pick_answer (wanted e) (shard_at (shard_tried tried c.plan e) c)) (shard_at (shard_tried tried c.plan e) c) tried e)
  made_none TakeQueue is silent has = inr (queue_keeps c.plan (queue_at (queue_tried f.queues c.plan e) c) e)
  made_none (TakeRegion name) is silent has =
      let can = shape (TakeRegion name) is in
      inr (region_keeps c.settings _ (cell_named name c).holds e (λ stack. no_stack_next f.asked (length f.objects.memories.items) (not_stack f.asked f.ending (objects_in f.objects) (numbered (TakeRegion name) is has)) (sym can.3 ∙ stack)))
  made_none (Empty at held) is silent has = inr (paged_keeps s.row.0.fault at s.row.0.slot (Instantiate at s.row.0.slot) c e (at_most f.asked f.ending (objects_in f.objects)))
  made_none (Instantiate at held) is silent has = inr (paged_keeps s.row.0.fault at s.row.0.slot (MakeMemory at s.row.0.slot) c e (at_most f.asked f.ending (objects_in f.objects)))
  made_none (TakeHeap name) is silent has = inr (heap_keeps _ (heap_in name.slot (heaps_at c)) e)
  made_none (MakeHeap at) is silent has = inr (heap_made_keeps s.row.0.heap at c e)
  made_none Flush is silent has = inr (flush_row_keeps (flush_step f.local f.freed.items) s.row.0.queue c e)
  made_none (CountObject counted) is silent has = inl (ap made_until (stage_is (CountObject counted) is) ∙ number_is f.asked f.ending (objects_in f.objects + 1) (numbered (CountObject counted) is has))
  made_none (MakeMemory at held) is silent has = absurd (true≢false silent)
  made_none (MakeTable at region) is silent has = absurd (true≢false silent)
  made_none (PutNoHeap at) is silent has = absurd (none_back f.asked f.ending (objects_in f.objects) (shape _ is).1 (numbered _ is has))
  made_none (PutBack at held) is silent has = absurd (none_back f.asked f.ending (objects_in f.objects) (shape _ is).1 (numbered _ is has))
  made_none (FreeOne name) is silent has = absurd (none_back f.asked f.ending (objects_in f.objects) (shape _ is).1 (numbered _ is has))
  made_none (UncountObject counted) is silent has = absurd (none_back f.asked f.ending (objects_in f.objects) (shape _ is).1 (numbered _ is has))
  made_none (UncountHeap lease memory) is silent has = absurd (none_back f.asked f.ending (objects_in f.objects) (shape _ is).1 (numbered _ is has))
  made_none (PutHeap lease memory) is silent has = absurd (none_back f.asked f.ending (objects_in f.objects) (shape _ is).1 (numbered _ is has))
  made_none (FreeHeap name memory) is silent has = absurd (none_back f.asked f.ending (objects_in f.objects) (shape _ is).1 (numbered _ is has))
  made_none (Reset counted) is silent has = absurd (none_back f.asked f.ending (objects_in f.objects) (shape _ is).1 (numbered _ is has))
  made_none Merge is silent has = absurd (none_back f.asked f.ending (objects_in f.objects) (shape Merge is).0 (numbered Merge is has))
  made_none UncountInstance is silent has = absurd (none_back f.asked f.ending (objects_in f.objects) (shape UncountInstance is).1 (numbered UncountInstance is has))
  made_none UncountComponent is silent has = absurd (none_counted_back f.ending (numbered UncountComponent is has))
  made_none (Release step) is silent has = absurd (none_released step (numbered (Release step) is has))
  made_none Idle is silent has = absurd (numbered Idle is has)
  made_none key_phase is silent has = absurd (numbered key_phase is has)
  made_none Validate is silent has = absurd (numbered Validate is has)
  made_none TestStack is silent has = absurd (numbered TestStack is has)
  made_none TestHeap is silent has = absurd (numbered TestHeap is has)
  made_none CountInstance is silent has = absurd (numbered CountInstance is has)
  made_none (CountHeap lease) is silent has = absurd (numbered (CountHeap lease) is has)
  made_none (ValidateComponent info) is silent has = absurd (numbered (ValidateComponent info) is has)
  made_none CountComponent is silent has = absurd (numbered CountComponent is has)
  made_none (Purge p step) is silent has = absurd (numbered (Purge p step) is has)

  keeps : is_making f.phase ≡ false → HasNumber (stage_of f) → (made_until (stage_of f) ≡ objects_in f.objects + 1) ⊎ KeepsMade (objects_in f.objects) (record { frame = next; outcome = o })
  keeps silent has = ⊎_elim
      (λ (one : made_until (stage_of f) ≡ objects_in f.objects + 1). inl one)
      (λ (kept : KeepsMade (objects_in f.objects) (after (row_of s.row.0 f.phase c e).frame (row_of s.row.0 f.phase c e).turn)). inr (of_row (KeepsMade (objects_in f.objects)) f.phase refl kept))
      (made_none f.phase refl silent has)

  not_one_more : is_making f.phase ≡ false → (n m : ℕ) → HasNumber (stage_of f) → made_until (stage_of f) ≡ n → made_until (stage_of next) ≡ m → m ≡ n + 1 → n ≡ objects_in f.objects → ⊥
  not_one_more silent n m has was now more here = ⊎_elim
      (λ (one : made_until (stage_of f) ≡ objects_in f.objects + 1). omega (arith, one, was, here))
      (λ (kept : KeepsMade (objects_in f.objects) (record { frame = next; outcome = o })). omega (arith, kept.frame, now, more, here))
      (keeps silent has)

  admitted_number : (n : ℕ) → (((memory : MemoryState) × Makes old new c f n (Ok memory)) ⊎ ((lease : LeasedTable) × MakesTable old new c f n (Ok lease))) → n ≡ objects_in f.objects
  admitted_number n = ⊎_elim (λ (made_it : (memory : MemoryState) × Makes old new c f n (Ok memory)). made_it.1.number) (λ (made_it : (lease : LeasedTable) × MakesTable old new c f n (Ok lease)). made_it.1.number)

  module _ (silent : is_making f.phase ≡ false) (xs : List Exchange) where
    silent_request : (p q : Progress) → stage_of f ≡ asks p → stage_of next ≡ asks q → Follows old new c f p q → RequestAsked f.asked p xs → RequestAsked f.asked q xs
    silent_request untested uncounted was now follows had = had
    silent_request uncounted (admitted n) was now follows had = subst (λ (m : ℕ). YesTo f.asked m xs) (sym follows.0) had
    silent_request (admitted n) (admitted m) was now follows had = ⊎_elim
        (λ (same : m ≡ n). subst (λ (k : ℕ). YesTo f.asked k xs) (sym same) had)
        (λ (more : (m ≡ n + 1) × (((memory : MemoryState) × Makes old new c f n (Ok memory)) ⊎ ((lease : LeasedTable) × MakesTable old new c f n (Ok lease)))). absurd (not_one_more silent n m (subst HasNumber (sym was) tt) (ap made_until was) (ap made_until now) more.0 (admitted_number n more.1)))
        follows
    silent_request (seeks_single n) (seeks_single m) was now follows had = ⊎_elim
        (λ (same : m ≡ n). subst (λ (k : ℕ). YesTo f.asked k xs) (sym same) had)
        (λ (more : (m ≡ n + 1) × (((memory : MemoryState) × Makes old new c f n (Ok memory)) ⊎ ((lease : LeasedTable) × MakesTable old new c f n (Ok lease)))). absurd (not_one_more silent n m (subst HasNumber (sym was) tt) (ap made_until was) (ap made_until now) more.0 (admitted_number n more.1)))
        follows
    silent_request seeks_stack seeks_stack was now follows had = had
    silent_request tests_heap (seeks_heap n) was now follows had = subst (λ (m : ℕ). YesTo f.asked m xs) (sym follows.0) had
    silent_request (seeks_heap n) (seeks_heap m) was now follows had = ⊎_elim
        (λ (same : m ≡ n). subst (λ (k : ℕ). YesTo f.asked k xs) (sym same) had)
        (λ (more : (m ≡ n + 1) × ((memory : MemoryState) × Makes old new c f n (Ok memory))). absurd (not_one_more silent n m (subst HasNumber (sym was) tt) (ap made_until was) (ap made_until now) more.0 more.1.1.number))
        follows
    silent_request (seeks_heap n) counts_heap was now follows had = had ∙ all_asked f.asked n (omega (arith, follows.0.number, follows.0.next.0, no_tables f.asked follows.0.next.1))
    silent_request p q was now follows had = absurd follows

    silent_next : (p q : Stage) → stage_of f ≡ p → stage_of next ≡ q → Goes a.maker old new c f p q None → Goes a.maker other_old other_new c f p q None → AskedSoFar f.asked p xs → AskedSoFar f.asked q xs
    silent_next no_call no_call was now goes other had = had
    silent_next keys no_call was now goes other had = absurd goes
    silent_next (asks p) (asks q) was now goes other had = silent_request p q was now goes had
    silent_next (asks p) (refusing x) was now goes other had = silent_fails p x xs other had
    silent_next (tests_component info) counts_component was now goes other had = had
    silent_next counts_component (refusing x) was now goes other had = subst (λ (y : AllocError). RefusedAfter f.asked y xs) (sym goes.0) (0, had)
    silent_next returning returning was now goes other had = had
    silent_next (refusing x) (refusing y) was now goes other had = subst (λ (z : AllocError). RefusedAfter f.asked z xs) (sym goes) had
    silent_next purging purging was now goes other had = had
    silent_next reserving releasing was now goes other had = had
    silent_next releasing releasing was now goes other had = had
    silent_next p q was now goes other had = absurd goes

    stack_last : (p : Progress) → Follows old new c f p seeks_stack → RequestAsked f.asked p xs → xs ≡ []
    stack_last seeks_stack follows had = had
    stack_last p follows had = absurd follows

    granted_here : (x : Outcome P H) → o ≡ Some x → IfGranted (IsGrantOf a.maker c.settings c.plan f.asked) (Some x)
    granted_here x some = subst (λ (z : Option (Outcome P H)). IfGranted (IsGrantOf a.maker c.settings c.plan f.asked) z) some (sound_step a.maker old new c f (record { core = s.left; frame = next; outcome = o }) s.can (s.row.0, s.row.1.0)).granted

    whole_instance : (lease : InstanceLease P) → o ≡ Some (Granted (Instance lease)) → objects_in lease ≡ objects_wanted f.asked
    whole_instance lease some =
        let of = granted_here (Granted (Instance lease)) some in
        omega (arith, of.1, of.3, of.4.no_stack, of.4.no_heap)

    instance_last : (p : Progress) (lease : InstanceLease P) → stage_of f ≡ asks p → o ≡ Some (Granted (Instance lease)) → Follows old new c f p (admitted (objects_wanted f.asked)) → RequestAsked f.asked p xs → xs ≡ all_yes (questions f.asked)
    instance_last uncounted lease was some follows had = had ∙ all_asked f.asked 0 (omega (arith, follows.0))
    instance_last (admitted n) lease was some follows had = ⊎_elim
        (λ (same : objects_wanted f.asked ≡ n). had ∙ all_asked f.asked n (omega (arith, same)))
        (λ (more : (objects_wanted f.asked ≡ n + 1) × (((memory : MemoryState) × Makes old new c f n (Ok memory)) ⊎ ((table : LeasedTable) × MakesTable old new c f n (Ok table)))).
        ⊎_elim
        (λ (one : made_until (stage_of f) ≡ objects_in f.objects + 1). let was_so : made_until (stage_of f) ≡ n = ap made_until was in absurd (omega (arith, one, was_so, admitted_number n more.1)))
        (λ (kept : KeepsMade (objects_in f.objects) (record { frame = next; outcome = o })).
        let most : objects_in lease ≤ objects_in f.objects = subst (HasAtMost (objects_in f.objects)) some kept.whole in
        absurd (omega (arith, most, whole_instance lease some, more.0, admitted_number n more.1)))
        (keeps silent (subst HasNumber (sym was) tt)))
        follows
    instance_last p lease was some follows had = absurd follows

    -- A memory or a table by itself was asked for before it is granted.
    single_last : (p : Progress) → stage_of f ≡ asks p → length (memories_wanted f.asked) + length (tables_wanted f.asked) ≤ 1 → (HasAtMost (objects_in f.objects) o → 1 ≤ objects_in f.objects) → Follows old new c f p (seeks_single 1) → RequestAsked f.asked p xs → xs ≡ all_yes (questions f.asked)
    single_last (seeks_single n) was few one_has follows had = ⊎_elim
        (λ (same : 1 ≡ n). had ∙ all_asked f.asked n (omega (arith, same, few)))
        (λ (more : (1 ≡ n + 1) × (((memory : MemoryState) × Makes old new c f n (Ok memory)) ⊎ ((table : LeasedTable) × MakesTable old new c f n (Ok table)))).
        ⊎_elim
        (λ (one : made_until (stage_of f) ≡ objects_in f.objects + 1). let was_so : made_until (stage_of f) ≡ n = ap made_until was in absurd (omega (arith, one, was_so, admitted_number n more.1)))
        (λ (kept : KeepsMade (objects_in f.objects) (record { frame = next; outcome = o })). absurd (omega (arith, one_has kept.whole, more.0, admitted_number n more.1)))
        (keeps silent (subst HasNumber (sym was) tt)))
        follows
    single_last p was few one_has follows had = absurd follows

    silent_last : (p q : Stage) (x : Outcome P H) → stage_of f ≡ p → o ≡ Some x → Goes a.maker old new c f p q (Some x) → Goes a.maker other_old other_new c f p q (Some x) → AskedSoFar f.asked p xs → AnsweredAfter f.asked x xs
    silent_last no_call no_call x was some goes other had = absurd goes
    silent_last keys no_call Key was some goes other had = had
    silent_last (asks p) no_call (Granted (memory_granted lease)) was some goes other had =
        let of = granted_here (Granted (memory_granted lease)) some in
        single_last p was (omega (arith, ap (λ (z : Asked). length (memories_wanted z) + length (tables_wanted z)) of.asked_for)) (λ most. subst (HasAtMost (objects_in f.objects)) some most) goes had
    silent_last (asks p) no_call (Granted (table_granted lease)) was some goes other had =
        let of = granted_here (Granted (table_granted lease)) some in
        single_last p was (omega (arith, ap (λ (z : Asked). length (memories_wanted z) + length (tables_wanted z)) of.asked_for)) (λ most. subst (HasAtMost (objects_in f.objects)) some most) goes had
    silent_last (asks p) no_call (Granted (Stack lease)) was some goes other had = stack_last p goes.0 had
    silent_last (asks p) no_call (Granted (Instance lease)) was some goes other had = instance_last p lease was some goes.0 had
    silent_last (asks counts_heap) no_call (Granted (Heap lease memory)) was some goes other had = had
    silent_last (asks counts_heap) no_call (Granted (HeapOver lease)) was some goes other had = had
    silent_last (asks untested) no_call (Refused x) was some goes other had = silent_fails untested x xs other had
    silent_last (asks (seeks_single n)) no_call (Refused x) was some goes other had = silent_fails (seeks_single n) x xs other.0 had
    silent_last (asks seeks_stack) no_call (Refused x) was some goes other had = silent_fails seeks_stack x xs other had
    silent_last (asks tests_heap) no_call (Refused x) was some goes other had = silent_fails tests_heap x xs other had
    silent_last (asks (seeks_heap n)) no_call (Refused x) was some goes other had = silent_fails (seeks_heap n) x xs other.0 had
    silent_last (tests_component info) no_call (Refused x) was some goes other had = by (component_refused c.settings info) goes
      where
        by : (rule : Option Unsupported) → IsBroken rule x → RefusedAfter f.asked x xs
        by (Some rule) is = subst (λ (y : AllocError). RefusedAfter f.asked y xs) (sym is) (0, had)
        by None is = absurd is
    silent_last counts_component no_call (Granted Component) was some goes other had = had
    silent_last returning no_call Returned was some goes other had = had
    silent_last (refusing y) no_call (Refused x) was some goes other had = subst (λ (z : AllocError). RefusedAfter f.asked z xs) (sym goes) had
    silent_last purging no_call (Purged n) was some goes other had = had
    silent_last reserving no_call (Refused x) was some goes other had = subst (λ (y : AllocError). RefusedAfter f.asked y xs) (sym goes) (0, had)
    silent_last releasing no_call (Released n) was some goes other had = had
    silent_last p q x was some goes other had = absurd goes

  -- A step that asks adds the next question with its answer.
  one_next : (xs ys : List Exchange) → SaidOne ys → AskedSoFar f.asked (stage_of f) xs → AskedSoFar f.asked (stage_of next) (xs ++ ys)
  one_next xs ys one had = subst (λ (l : List Exchange). AskedSoFar f.asked (stage_of next) (xs ++ l)) (sym one.is) (⊎_elim
      (λ (allowed : (one.answer ≡ Ok true) × (stage_of next ≡ asks (progress_by f.asked (objects_in f.objects + 1)))).
      subst (λ (z : Stage). AskedSoFar f.asked z (xs ++ (may_grow one.question one.answer ∷ []))) (sym allowed.1)
      (yes_there f.asked f.asked (objects_in f.objects + 1) (xs ++ (may_grow one.question one.answer ∷ [])) one.no_stack
      (ap (λ (l : List Exchange). l ++ (may_grow one.question one.answer ∷ [])) here ∙ ap (λ (z : Result Bool LimiterError). all_yes (take (objects_in f.objects) (questions f.asked)) ++ (may_grow one.question z ∷ [])) allowed.0 ∙ yes_more (questions f.asked) (objects_in f.objects) one.question one.next_one)))
      (λ (fails : (x : AllocError) × ((stage_of next ≡ refusing x) × AnswersSo Names one.answer x)).
      subst (λ (z : Stage). AskedSoFar f.asked z (xs ++ (may_grow one.question one.answer ∷ []))) (sym fails.1.0)
      (asked_after f.asked fails.0 xs (objects_in f.objects) one.question one.answer here one.next_one fails.1.1))
      one.leaves.0)
    where
      here : YesTo f.asked (objects_in f.objects) xs
      here = yes_here f.asked f.ending (objects_in f.objects) (stage_of f) xs one.stage one.grants one.no_stack had

  none_more : (xs : List Exchange) → xs ++ [] ≡ xs
  none_more [] = refl
  none_more (x ∷ xs) = ap (λ (l : List Exchange). x ∷ l) (none_more xs)

  said_next : (xs ys : List Exchange) → o ≡ None → (SaidNone ys ⊎ SaidOne ys) → AskedSoFar f.asked (stage_of f) xs → AskedSoFar f.asked (stage_of next) (xs ++ ys)
  said_next xs ys none said had = ⊎_elim
      (λ (silence : SaidNone ys).
      subst (λ (l : List Exchange). AskedSoFar f.asked (stage_of next) l) (sym (ap (λ (l : List Exchange). xs ++ l) silence.none ∙ none_more xs))
      (silent_next silence.silent xs (stage_of f) (stage_of next) refl refl (subst (λ (z : Option (Outcome P H)). Goes a.maker old new c f (stage_of f) (stage_of next) z) none way_here) (subst (λ (z : Option (Outcome P H)). Goes a.maker other_old other_new c f (stage_of f) (stage_of next) z) none (silent_way silence.silent)) had))
      (λ (one : SaidOne ys). one_next xs ys one had)
      said
    where
      way_here : Goes a.maker old new c f (stage_of f) (stage_of next) o
      way_here = (sound_step a.maker old new c f (record { core = s.left; frame = next; outcome = o }) s.can (s.row.0, s.row.1.0)).goes.way

  said_last : (xs ys : List Exchange) (x : Outcome P H) → o ≡ Some x → (SaidNone ys ⊎ SaidOne ys) → AskedSoFar f.asked (stage_of f) xs → AnsweredAfter f.asked x (xs ++ ys)
  said_last xs ys x some said had = ⊎_elim
      (λ (silence : SaidNone ys).
      subst (λ (l : List Exchange). AnsweredAfter f.asked x l) (sym (ap (λ (l : List Exchange). xs ++ l) silence.none ∙ none_more xs))
      (silent_last silence.silent xs (stage_of f) (stage_of next) x refl some (subst (λ (z : Option (Outcome P H)). Goes a.maker old new c f (stage_of f) (stage_of next) z) some way_here) (subst (λ (z : Option (Outcome P H)). Goes a.maker other_old other_new c f (stage_of f) (stage_of next) z) some (silent_way silence.silent)) had))
      (λ (one : SaidOne ys). let both : Some x ≡ None = sym some ∙ one.leaves.1 in absurd cc)
      said
    where
      way_here : Goes a.maker old new c f (stage_of f) (stage_of next) o
      way_here = (sound_step a.maker old new c f (record { core = s.left; frame = next; outcome = o }) s.can (s.row.0, s.row.1.0)).goes.way

  module _ {L : Type 0} (leads : L → Exchange → L → Type 0) (first was : L) (told : PartyTold) (begun : Frame P H) (since : AskedSince leads first was told old begun f) where
    -- a step that raises a refusal comes before any heap was made
    fresh_heaps : (p : Progress) → stage_of f ≡ asks p → (p ≡ counts_heap → ⊥) → old.heaps ≡ told.heaps
    fresh_heaps p is other = ⊎_elim
        (λ (same : old.heaps ≡ told.heaps). same)
        (λ (had : MayHaveMade (stage_of f) × (heaps_wanted f.asked ≡ 1) × ((answer : Result H HeapMakeFault) × (HasMade answer (stage_of f) × MakesHeap answer told.heaps old.heaps))). absurd (by p other (subst MayHaveMade is had.0)))
        since.made
      where
        by : (q : Progress) → (q ≡ counts_heap → ⊥) → MayHaveMade (asks q) → ⊥
        by counts_heap not_there had = not_there refl
        by q not_there had = absurd had

    -- Its cause in the step is its cause in the call.
    raised : (p : Progress) (x : AllocError) → stage_of f ≡ asks p → Raises a.maker old new c f p x → HasCause told new x
    raised p x is raises = cause_since told old new since.passed x since.told (fresh_heaps p is (λ same. subst (λ (q : Progress). Raises a.maker old new c f q x) same raises)) (raise_cause a.maker old new c f s.can.core.settings p x raises)

    raised_wants : (p : Progress) (x : AllocError) → stage_of f ≡ asks p → IsCallFor (stage_of f) f.asked → Raises a.maker old new c f p x → WantsOfMaker H f.asked told.heaps new.heaps x
    raised_wants p x is for raises =
        subst (λ (h : HeapsTold). WantsOfMaker H f.asked h new.heaps x) (fresh_heaps p is (λ same. subst (λ (q : Progress). Raises a.maker old new c f q x) same raises))
        (raise_wants a.maker old new c f f.asked p x refl (subst (λ (t : Stage). IsCallFor t f.asked) is for) raises)

    -- A call that is to be refused makes no heap.
    kept : (x : AllocError) → stage_of f ≡ refusing x → HasCause told new x
    kept x is = cause_on told old new heard.passed x heard.told
        (⊎_elim (λ (same : new.heaps ≡ old.heaps). same) (λ (step : StepMade). absurd (step.before (subst MayHaveMade (sym is) tt))) made)
        (subst (IfRefusing (HasCause told old)) is since.cause)

    kept_wants : (x : AllocError) → stage_of f ≡ refusing x → WantsOfMaker H f.asked told.heaps new.heaps x
    kept_wants x is =
        subst (λ (h : HeapsTold). WantsOfMaker H f.asked told.heaps h x)
        (sym (⊎_elim (λ (same : new.heaps ≡ old.heaps). same) (λ (step : StepMade). absurd (step.before (subst MayHaveMade (sym is) tt))) made))
        (subst (IfRefusing (WantsOfMaker H f.asked told.heaps old.heaps)) is since.wants)

    wants_next : (p q : Stage) → stage_of f ≡ p → IsCallFor (stage_of f) f.asked → Goes a.maker old new c f p q None → IfRefusing (WantsOfMaker H f.asked told.heaps new.heaps) q
    wants_next (asks p) (refusing x) is for goes = raised_wants p x is for goes
    wants_next counts_component (refusing x) is for goes = subst (WantsOfMaker H f.asked told.heaps new.heaps) (sym goes.0) (limit_wants H f.asked told.heaps new.heaps _)
    wants_next (refusing x) (refusing y) is for goes = subst (WantsOfMaker H f.asked told.heaps new.heaps) (sym goes) (kept_wants x is)
    wants_next no_call no_call is for goes = tt
    wants_next keys no_call is for goes = absurd goes
    wants_next (asks p) (asks q) is for goes = tt
    wants_next (tests_component info) counts_component is for goes = tt
    wants_next returning returning is for goes = tt
    wants_next purging purging is for goes = tt
    wants_next reserving releasing is for goes = tt
    wants_next releasing releasing is for goes = tt
    wants_next p q is for goes = absurd goes

    -- A release may want memory, and has no request.
    wants_last : (p q : Stage) (x : Outcome P H) → stage_of f ≡ p → IsCallFor (stage_of f) f.asked → (releases ≡ kind_at (stage_of f) → ⊥) → Goes a.maker old new c f p q (Some x) → IfRefused (WantsOfMaker H f.asked told.heaps new.heaps) x
    wants_last no_call no_call (Refused x) is for unlike goes = absurd goes
    wants_last (asks uncounted) no_call (Refused x) is for unlike goes = absurd goes
    wants_last (asks (admitted n)) no_call (Refused x) is for unlike goes = absurd goes
    wants_last (asks counts_heap) no_call (Refused x) is for unlike goes = absurd goes
    wants_last keys no_call (Refused x) is for unlike goes = absurd goes
    wants_last counts_component no_call (Refused x) is for unlike goes = absurd goes
    wants_last returning no_call (Refused x) is for unlike goes = absurd goes
    wants_last purging no_call (Refused x) is for unlike goes = absurd goes
    wants_last releasing no_call (Refused x) is for unlike goes = absurd goes
    wants_last (asks untested) no_call (Refused x) is for unlike goes = raised_wants untested x is for goes
    wants_last (asks (seeks_single n)) no_call (Refused x) is for unlike goes = raised_wants (seeks_single n) x is for goes.0
    wants_last (asks seeks_stack) no_call (Refused x) is for unlike goes = raised_wants seeks_stack x is for goes
    wants_last (asks tests_heap) no_call (Refused x) is for unlike goes = raised_wants tests_heap x is for goes
    wants_last (asks (seeks_heap n)) no_call (Refused x) is for unlike goes = raised_wants (seeks_heap n) x is for goes.0
    wants_last (tests_component info) no_call (Refused x) is for unlike goes = broken_wants H f.asked told.heaps new.heaps _ x goes
    wants_last (refusing y) no_call (Refused x) is for unlike goes = subst (WantsOfMaker H f.asked told.heaps new.heaps) (sym goes) (kept_wants y is)
    wants_last reserving no_call (Refused x) is for unlike goes = absurd (unlike (ap kind_at (sym is)))
    wants_last p q Key is for unlike goes = tt
    wants_last p q (Granted grant) is for unlike goes = tt
    wants_last p q Returned is for unlike goes = tt
    wants_last p q (Purged n) is for unlike goes = tt
    wants_last p q (Released n) is for unlike goes = tt
    wants_last p q (Refused x) is for unlike goes = absurd goes

    cause_next : (p q : Stage) → stage_of f ≡ p → Goes a.maker old new c f p q None → IfRefusing (HasCause told new) q
    cause_next (asks p) (refusing x) is goes = raised p x is goes
    cause_next counts_component (refusing x) is goes = subst (HasCause told new) (sym goes.0) tt
    cause_next (refusing x) (refusing y) is goes = subst (HasCause told new) (sym goes) (kept x is)
    cause_next no_call no_call is goes = tt
    cause_next keys no_call is goes = absurd goes
    cause_next (asks p) (asks q) is goes = tt
    cause_next (tests_component info) counts_component is goes = tt
    cause_next returning returning is goes = tt
    cause_next purging purging is goes = tt
    cause_next reserving releasing is goes = tt
    cause_next releasing releasing is goes = tt
    cause_next p q is goes = absurd goes

    cause_last : (p q : Stage) (x : Outcome P H) → stage_of f ≡ p → Goes a.maker old new c f p q (Some x) → IfRefused (HasCause told new) x
    cause_last no_call no_call (Refused x) is goes = absurd goes
    cause_last (asks uncounted) no_call (Refused x) is goes = absurd goes
    cause_last (asks (admitted n)) no_call (Refused x) is goes = absurd goes
    cause_last (asks counts_heap) no_call (Refused x) is goes = absurd goes
    cause_last keys no_call (Refused x) is goes = absurd goes
    cause_last counts_component no_call (Refused x) is goes = absurd goes
    cause_last returning no_call (Refused x) is goes = absurd goes
    cause_last purging no_call (Refused x) is goes = absurd goes
    cause_last releasing no_call (Refused x) is goes = absurd goes
    cause_last (asks untested) no_call (Refused x) is goes = raised untested x is goes
    cause_last (asks (seeks_single n)) no_call (Refused x) is goes = raised (seeks_single n) x is goes.0
    cause_last (asks seeks_stack) no_call (Refused x) is goes = raised seeks_stack x is goes
    cause_last (asks tests_heap) no_call (Refused x) is goes = raised tests_heap x is goes
    cause_last (asks (seeks_heap n)) no_call (Refused x) is goes = raised (seeks_heap n) x is goes.0
    cause_last (tests_component info) no_call (Refused x) is goes = broken_cause told new _ x goes
    cause_last (refusing y) no_call (Refused x) is goes = subst (HasCause told new) (sym goes) (kept y is)
    cause_last reserving no_call (Refused x) is goes = subst (HasCause told new) (sym goes) tt
    cause_last p q Key is goes = tt
    cause_last p q (Granted grant) is goes = tt
    cause_last p q Returned is goes = tt
    cause_last p q (Purged n) is goes = tt
    cause_last p q (Released n) is goes = tt
    cause_last p q (Refused x) is goes = absurd goes

    quiet_here : AsksNobody (stage_of f) → (heard.passed ≡ []) × (new.heaps ≡ old.heaps)
    quiet_here quiet = (heard.quiet quiet, ⊎_elim (λ (same : new.heaps ≡ old.heaps). same) (λ (step : StepMade). absurd (step.not_quiet quiet)) made)

    none_passed : since.passed ≡ [] → heard.passed ≡ [] → since.passed ++ heard.passed ≡ []
    none_passed one two = ap (λ xs. xs ++ heard.passed) one ∙ two

    told_now : new.limiter ≡ told_after (since.passed ++ heard.passed) told.limiter
    told_now = heard.told ∙ ap (told_after heard.passed) since.told ∙ sym (told_on since.passed heard.passed told.limiter)

    module _ (now : L) (exchanged : Exchanged leads heard.passed was now) where
      -- So the call goes on.
      pub asks_on : o ≡ None → next.asked ≡ f.asked → IsCallFor (stage_of f) f.asked → Goes a.maker old new c f (stage_of f) (stage_of next) None → AskedSince leads first now told new begun next
      asks_on none same_asked for goes = record {
        passed = since.passed ++ heard.passed;
        exchanged = exchanged_on leads since.passed heard.passed first was now since.exchanged exchanged;
        told = told_now;
        made = ⊎_elim
            (λ (same : new.heaps ≡ old.heaps). ⊎_elim
            (λ (none : old.heaps ≡ told.heaps). inl (same ∙ none))
            (λ (had : MayHaveMade (stage_of f) × (heaps_wanted f.asked ≡ 1) × ((answer : Result H HeapMakeFault) × (HasMade answer (stage_of f) × MakesHeap answer told.heaps old.heaps))). inr (made_on (stage_of f) (stage_of next) goes had.0, subst (λ (z : Asked). heaps_wanted z ≡ 1) (sym same_asked) had.1, (had.2.0, (has_on had.2.0 (stage_of f) (stage_of next) goes had.2.1.0, subst (MakesHeap had.2.0 told.heaps) (sym same) had.2.1.1))))
            since.made)
            (λ (step : StepMade). ⊎_elim
            (λ (none : old.heaps ≡ told.heaps). inr (step.after_it, subst (λ (z : Asked). heaps_wanted z ≡ 1) (sym same_asked) step.for_heap, (step.answer, (step.made_as, subst (λ (h : HeapsTold). MakesHeap step.answer h new.heaps) none step.makes))))
            (λ (had : MayHaveMade (stage_of f) × (heaps_wanted f.asked ≡ 1) × ((answer : Result H HeapMakeFault) × (HasMade answer (stage_of f) × MakesHeap answer told.heaps old.heaps))). absurd (step.before had.0))
            since.made)
            made;
        quiet = λ quiet.
            let had = since.quiet quiet in
            let here = quiet_here had.0 in
            (quiet_on (stage_of f) (stage_of next) goes had.0, none_passed had.1 here.0, here.1 ∙ had.2);
        cause = cause_next (stage_of f) (stage_of next) refl goes;
        wants = subst (λ (z : Asked). IfRefusing (WantsOfMaker H z told.heaps new.heaps) (stage_of next)) (sym same_asked) (wants_next (stage_of f) (stage_of next) refl for goes);
        so_far = subst (λ (z : Asked). AskedSoFar z (stage_of next) (since.passed ++ heard.passed)) (sym same_asked) (said_next since.passed heard.passed none heard.said since.so_far);
      }

      -- And so it has asked where it ends.
      pub has_asked : (x : Outcome P H) → o ≡ Some x → f.asked ≡ begun.asked → Goes a.maker old new c f (stage_of f) (stage_of next) (Some x) → HasAsked leads (AsksNobody (stage_of begun)) (heaps_wanted begun.asked ≡ 1) (AnsweredAfter begun.asked x) first now told new x
      has_asked x some same_asked goes = record {
        passed = since.passed ++ heard.passed;
        exchanged = exchanged_on leads since.passed heard.passed first was now since.exchanged exchanged;
        told = told_now;
        made = ⊎_elim
            (λ (same : new.heaps ≡ old.heaps). ⊎_elim
            (λ (none : old.heaps ≡ told.heaps). inl (same ∙ none))
            (λ (had : MayHaveMade (stage_of f) × (heaps_wanted f.asked ≡ 1) × ((answer : Result H HeapMakeFault) × (HasMade answer (stage_of f) × MakesHeap answer told.heaps old.heaps))). inr (subst (λ (z : Asked). heaps_wanted z ≡ 1) same_asked had.1, (had.2.0, (has_last had.2.0 (stage_of f) (stage_of next) x goes had.2.1.0, subst (MakesHeap had.2.0 told.heaps) (sym same) had.2.1.1))))
            since.made)
            (λ (step : StepMade). ⊎_elim
            (λ (none : old.heaps ≡ told.heaps). let both : Some x ≡ None = sym some ∙ step.goes_on in absurd cc)
            (λ (had : MayHaveMade (stage_of f) × (heaps_wanted f.asked ≡ 1) × ((answer : Result H HeapMakeFault) × (HasMade answer (stage_of f) × MakesHeap answer told.heaps old.heaps))). absurd (step.before had.0))
            since.made)
            made;
        quiet = λ quiet.
            let had = since.quiet quiet in
            let here = quiet_here had.0 in
            (none_passed had.1 here.0, here.1 ∙ had.2);
        cause = cause_last (stage_of f) (stage_of next) x refl goes;
        says = subst (λ (z : Asked). AnsweredAfter z x (since.passed ++ heard.passed)) same_asked (said_last since.passed heard.passed x some heard.said since.so_far);
      }

-- A step takes it on so, where the limiter went from one state to the other by what passed in it.
module _ {T P H L : Type 0} (about : T → About) (inner : T → PoolPart P H) (leads : L → Exchange → L → Type 0) (first was now : L) (told old new : PartyTold) (a : About) (v w : View T) (begun f next : Frame P H) (o : Option (Outcome P H)) (since : AskedSince leads first was told old begun f) (s : SeesStep about inner (λ passed. Exchanged leads passed was now) old new a v w f next o) where
  passes : Exchanged leads (heard about inner (λ passed. Exchanged leads passed was now) old new a v w f next o s).passed was now
  passes = (heard about inner (λ passed. Exchanged leads passed was now) old new a v w f next o s).passes

  way : Goes a.maker old new s.core f (stage_of f) (stage_of next) o
  way = (sound_step a.maker old new s.core f (record { core = s.left; frame = next; outcome = o }) s.can (s.row.0, s.row.1.0)).goes.way

  pub call_asks_on : o ≡ None → next.asked ≡ f.asked → IsCallFor (stage_of f) f.asked → AskedSince leads first now told new begun next
  call_asks_on none same_asked for = asks_on about inner (λ passed. Exchanged leads passed was now) old new a v w f next o s leads first was told begun since now passes none same_asked for (subst (λ (z : Option (Outcome P H)). Goes a.maker old new s.core f (stage_of f) (stage_of next) z) none way)

  pub call_has_asked : (x : Outcome P H) → o ≡ Some x → f.asked ≡ begun.asked → HasAsked leads (AsksNobody (stage_of begun)) (heaps_wanted begun.asked ≡ 1) (AnsweredAfter begun.asked x) first now told new x
  call_has_asked x some same_asked = has_asked about inner (λ passed. Exchanged leads passed was now) old new a v w f next o s leads first was told begun since now passes x some same_asked (subst (λ (z : Option (Outcome P H)). Goes a.maker old new s.core f (stage_of f) (stage_of next) z) some way)

  pub call_has_wanted : (x : Outcome P H) → o ≡ Some x → f.asked ≡ begun.asked → IsCallFor (stage_of f) f.asked → (releases ≡ kind_at (stage_of f) → ⊥) → IfRefused (WantsOfMaker H begun.asked told.heaps new.heaps) x
  call_has_wanted x some same_asked for unlike =
      subst (λ (z : Asked). IfRefused (WantsOfMaker H z told.heaps new.heaps) x) same_asked
      (wants_last about inner (λ passed. Exchanged leads passed was now) old new a v w f next o s leads first was told begun since (stage_of f) (stage_of next) x refl for unlike (subst (λ (z : Option (Outcome P H)). Goes a.maker old new s.core f (stage_of f) (stage_of next) z) some way))

-- A call that begins has asked nobody, and is not refused yet.
returning_kept : (Q : AllocError → Type 0) (s : Stage) → kind_at s ≡ gives_back → IfRefusing Q s × AsksNobody s
returning_kept Q no_call is = (tt, tt)
returning_kept Q keys is = (tt, tt)
returning_kept Q (asks p) is = absurd cc
returning_kept Q (tests_component info) is = (tt, tt)
returning_kept Q counts_component is = (tt, tt)
returning_kept Q returning is = (tt, tt)
returning_kept Q (refusing e) is = absurd cc
returning_kept Q purging is = (tt, tt)
returning_kept Q reserving is = (tt, tt)
returning_kept Q releasing is = (tt, tt)

returning_asked : (a : Asked) (s : Stage) → kind_at s ≡ gives_back → AskedSoFar a s []
returning_asked a no_call is = refl
returning_asked a keys is = refl
returning_asked a (asks p) is = absurd cc
returning_asked a (tests_component info) is = refl
returning_asked a counts_component is = refl
returning_asked a returning is = refl
returning_asked a (refusing e) is = absurd cc
returning_asked a purging is = refl
returning_asked a reserving is = refl
returning_asked a releasing is = refl

-- what nobody asks
none_at : (xs : List GrowthQuestion) (k : ℕ) → xs ≡ [] → slice_get xs k ≡ None
none_at [] zero is = refl
none_at [] (suc k) is = refl
none_at (x ∷ xs) k is = absurd cc

none_taken : (xs : List GrowthQuestion) (n : ℕ) → xs ≡ [] → take n xs ≡ []
none_taken [] zero is = refl
none_taken [] (suc n) is = refl
none_taken (x ∷ xs) n is = absurd cc

-- nothing passes in a call for a heap over a memory that there is, which has no question for a limiter
over_refused : (memory : MemoryAllocationIndex) (e : AllocError) (xs : List Exchange) → RefusedAfter (asked_for.HeapOver memory) e xs → xs ≡ []
over_refused memory (refusal.LimiterDenied table min) xs said = absurd (let none : None ≡ Some said.0.question = sym (none_at (questions (asked_for.HeapOver memory)) said.0.number refl) ∙ said.0.is in cc)
over_refused memory (refusal.LimiterFault x) xs said = absurd (let none : None ≡ Some said.question = sym (none_at (questions (asked_for.HeapOver memory)) said.number refl) ∙ said.is in cc)
over_refused memory e xs said = said.1 ∙ ap all_yes (none_taken (questions (asked_for.HeapOver memory)) said.0 refl)

module _ {P H : Type 0} where
  not_refusing : (Q : AllocError → Type 0) (c : Call P H) (f : Frame P H) → IfRefusing Q (stage_of (begun_call c f))
  not_refusing Q call.Key f = tt
  not_refusing Q (call.Module m) f = tt
  not_refusing Q (call.Component info) f = tt
  not_refusing Q (call.Memory m) f = tt
  not_refusing Q (call.Table ty) f = tt
  not_refusing Q call.Stack f = tt
  not_refusing Q (call.Heap ty) f = tt
  not_refusing Q (call.HeapOver memory) f = tt
  not_refusing Q (call.GiveBack grant) f = (returning_kept Q (stage_of (begun_call (call.GiveBack grant) f)) (begun_kind (call.GiveBack grant) f)).0
  not_refusing Q (call.Purge id) f = tt
  not_refusing Q call.Release f = tt

  quiet_call : (c : Call P H) (f : Frame P H) → IsQuiet c → AsksNobody (stage_of (begun_call c f))
  quiet_call call.Key f quiet = tt
  quiet_call (call.Module m) f quiet = absurd quiet
  quiet_call (call.Component info) f quiet = tt
  quiet_call (call.Memory m) f quiet = absurd quiet
  quiet_call (call.Table ty) f quiet = absurd quiet
  quiet_call call.Stack f quiet = tt
  quiet_call (call.Heap ty) f quiet = absurd quiet
  quiet_call (call.HeapOver memory) f quiet = absurd quiet
  quiet_call (call.GiveBack grant) f quiet = (returning_kept (λ e. Unit {0}) (stage_of (begun_call (call.GiveBack grant) f)) (begun_kind (call.GiveBack grant) f)).1
  quiet_call (call.Purge id) f quiet = tt
  quiet_call call.Release f quiet = tt

  none_asked : (c : Call P H) (f : Frame P H) → objects_in f.objects ≡ 0 → AskedSoFar (begun_call c f).asked (stage_of (begun_call c f)) []
  none_asked call.Key f none = refl
  none_asked (call.Module m) f none = refl
  none_asked (call.Component info) f none = refl
  none_asked (call.Memory m) f none = subst (λ (n : ℕ). YesTo (asked_for.Memory m) n []) (sym none) refl
  none_asked (call.Table ty) f none = subst (λ (n : ℕ). YesTo (asked_for.Table ty) n []) (sym none) refl
  none_asked call.Stack f none = refl
  none_asked (call.Heap ty) f none = refl
  none_asked (call.HeapOver memory) f none = refl
  none_asked (call.GiveBack grant) f none = returning_asked (begun_call (call.GiveBack grant) f).asked (stage_of (begun_call (call.GiveBack grant) f)) (begun_kind (call.GiveBack grant) f)
  none_asked (call.Purge id) f none = refl
  none_asked call.Release f none = refl

  over_says : (memory : MemoryAllocationIndex) (o : Outcome P H) (xs : List Exchange) → AnsweredAfter (asked_for.HeapOver memory) o xs → xs ≡ []
  over_says memory (Refused e) xs says = over_refused memory e xs says
  over_says memory (Granted (Instance lease)) xs says = says
  over_says memory (Granted Component) xs says = says
  over_says memory (Granted (memory_granted lease)) xs says = says
  over_says memory (Granted (table_granted lease)) xs says = says
  over_says memory (Granted (Stack lease)) xs says = says
  over_says memory (Granted (Heap lease of)) xs says = says
  over_says memory (Granted (HeapOver lease)) xs says = says
  over_says memory Key xs says = says
  over_says memory Returned xs says = says
  over_says memory (Purged n) xs says = says
  over_says memory (Released n) xs says = says

  -- what passed in a call that asks, and in one that doesn't
  call_says : (c : Call P H) (f : Frame P H) (o : Outcome P H) (xs : List Exchange) → (IsQuiet c → xs ≡ []) → AnsweredAfter (begun_call c f).asked o xs → CallAsks c o xs
  call_says call.Key f o xs quiet says = quiet tt
  call_says (call.Module m) f o xs quiet says = says
  call_says (call.Component info) f o xs quiet says = quiet tt
  call_says (call.Memory m) f o xs quiet says = says
  call_says (call.Table ty) f o xs quiet says = says
  call_says call.Stack f o xs quiet says = quiet tt
  call_says (call.Heap ty) f o xs quiet says = says
  call_says (call.HeapOver memory) f o xs quiet says = over_says memory o xs says
  call_says (call.GiveBack grant) f o xs quiet says = quiet tt
  call_says (call.Purge id) f o xs quiet says = quiet tt
  call_says call.Release f o xs quiet says = quiet tt

  -- a call for a heap may have one made, and no other does
  call_made : (Same Made : Type 0) (c : Call P H) (f : Frame P H) → (IsQuiet c → Same) → Same ⊎ ((heaps_wanted (begun_call c f).asked ≡ 1) × Made) → Same ⊎ (IsForHeap c × Made)
  call_made Same Made call.Key f quiet made = inl (quiet tt)
  call_made Same Made (call.Module m) f quiet made = ⊎_elim (λ (same : Same). inl same) (λ (one : (heaps_wanted (begun_call (call.Module m) f).asked ≡ 1) × Made). absurd (omega (arith, one.0))) made
  call_made Same Made (call.Component info) f quiet made = inl (quiet tt)
  call_made Same Made (call.Memory m) f quiet made = ⊎_elim (λ (same : Same). inl same) (λ (one : (heaps_wanted (begun_call (call.Memory m) f).asked ≡ 1) × Made). absurd (omega (arith, one.0))) made
  call_made Same Made (call.Table ty) f quiet made = ⊎_elim (λ (same : Same). inl same) (λ (one : (heaps_wanted (begun_call (call.Table ty) f).asked ≡ 1) × Made). absurd (omega (arith, one.0))) made
  call_made Same Made call.Stack f quiet made = inl (quiet tt)
  call_made Same Made (call.Heap ty) f quiet made = ⊎_elim (λ (same : Same). inl same) (λ (one : (heaps_wanted (begun_call (call.Heap ty) f).asked ≡ 1) × Made). inr (tt, one.1)) made
  call_made Same Made (call.HeapOver memory) f quiet made = ⊎_elim (λ (same : Same). inl same) (λ (one : (heaps_wanted (begun_call (call.HeapOver memory) f).asked ≡ 1) × Made). inr (tt, one.1)) made
  call_made Same Made (call.GiveBack grant) f quiet made = inl (quiet tt)
  call_made Same Made (call.Purge id) f quiet made = inl (quiet tt)
  call_made Same Made call.Release f quiet made = inl (quiet tt)

  module _ {L : Type 0} (leads : L → Exchange → L → Type 0) where
    pub asked_begun : (limiter : L) (told : PartyTold) (c : Call P H) (f : Frame P H) → objects_in f.objects ≡ 0 → AskedSince leads limiter limiter told told (begun_call c f) (begun_call c f)
    asked_begun limiter told c f none = record { passed = []; exchanged = refl; told = refl; made = inl refl; quiet = λ quiet. (quiet, refl, refl); cause = not_refusing (HasCause told told) c f; wants = not_refusing (WantsOfMaker H (begun_call c f).asked told.heaps told.heaps) c f; so_far = none_asked c f none }

    -- What is so of a call that began is so of the call.
    pub call_asked : (first last : L) (old new : PartyTold) (c : Call P H) (f : Frame P H) (o : Outcome P H) → HasAsked leads (AsksNobody (stage_of (begun_call c f))) (heaps_wanted (begun_call c f).asked ≡ 1) (AnsweredAfter (begun_call c f).asked o) first last old new o → HasAsked leads (IsQuiet c) (IsForHeap c) (CallAsks c o) first last old new o
    call_asked first last old new c f o asked = record { passed = asked.passed; exchanged = asked.exchanged; told = asked.told; made = call_made (new.heaps ≡ old.heaps) ((answer : Result H HeapMakeFault) × (AnswersMade answer o × MakesHeap answer old.heaps new.heaps)) c f (λ quiet. (asked.quiet (quiet_call c f quiet)).1) asked.made; quiet = λ quiet. asked.quiet (quiet_call c f quiet); cause = asked.cause; says = call_says c f o asked.passed (λ quiet. (asked.quiet (quiet_call c f quiet)).0) asked.says }
