-- A call that a seat drives: it begins, goes on, and ends.
use Rattle.std.proofs.Common.{◌≡◌, ◌⊎◌, ⊎_elim, inl, inr, ℕ, ◌+◌, Bool, true, false, List, [], ◌∷◌, length, refl, sym, ap, subst, ◌∙◌, arith, true≢false, Option, Some, None}
use Rattle.std.specs.Prelude.{not, ◌&&◌, is_some}
use Rattle.pool_hall.specs.declared.view.View.{View}
use Rattle.pool_limits.specs.Exchanges.{Exchange}
use Rattle.pool_slots.specs.declared.part.PoolPart.{PoolPart}
use Rattle.pool_slots.specs.declared.plan.Plan.{Plan}
use Rattle.pool_pages.specs.MakerTold.{MakerTold}
use Rattle.pool_alloc.specs.CallStages.{Goes, Stage, no_call, keys, asks, tests_component, counts_component, returning, refusing, purging, reserving, releasing, stage_at, stage_by, stage_of}
use Rattle.pool_alloc.specs.Calls.{IsGrant, IsGrantOf, IfGranted, MayBegin, begun_call}
use Rattle.pool_alloc.specs.Leases.{Lease}
use Rattle.pool_alloc.specs.PartyTold.{PartyTold}
use Rattle.pool_alloc.specs.Places.{Counts, Thing, Weight, frame_count, frame_weight, of_counts, of_units, only, region_of, right_to}
use Rattle.pool_alloc.specs.BetweenSteps.{IsAtRest, IsFrame}
use Rattle.pool_alloc.specs.SoundSteps.{IsSoundStep}
use Rattle.pool_alloc.specs.Stepping.{count_granted, grant_count, grant_counted, grant_weight, is_idle}
use Rattle.pool_alloc.specs.TableLeases.{LeasedTable}
use Rattle.pool_alloc.specs.Targets.{next_target}
use Rattle.pool_alloc.specs.Turns.{all_returned, returned_next}
use Rattle.pool_alloc.specs.declared.frame.Asked.{Asked}
use Rattle.pool_alloc.specs.declared.frame.Asked.TheVariants as asked
use Rattle.pool_alloc.specs.declared.frame.Call.{Call}
use Rattle.pool_alloc.specs.declared.frame.Call.TheVariants as call
use Rattle.pool_alloc.specs.Objects.{objects_in}
use Rattle.pool_alloc.specs.declared.frame.Ending.{Ending}
use Rattle.pool_alloc.specs.declared.frame.Ending.TheVariants.{Returned as returned}
use Rattle.pool_alloc.specs.declared.frame.Frame.{Frame}
use Rattle.pool_alloc.specs.declared.frame.Grant.{Grant}
use Rattle.pool_alloc.specs.declared.frame.Grant.TheVariants.{Instance, Component, Memory, Table, Stack, Heap, HeapOver}
use Rattle.pool_alloc.specs.declared.frame.Outcome.{Outcome}
use Rattle.pool_alloc.specs.declared.frame.Outcome.TheVariants.{Key, Granted, Returned, Purged, Released, Refused}
use Rattle.pool_alloc.specs.declared.frame.Phase.{Phase}
use Rattle.pool_alloc.specs.declared.frame.Phase.TheVariants.{Idle, Key as key_phase}
use Rattle.pool_alloc.specs.declared.pool_core.PoolCore.{PoolCore}
use Rattle.pool_alloc.specs.declared.pool_core.Settings.{Settings}
use Rattle.pool_alloc.proofs.BegunFrames.{at_rest, begun_frame, begun_weight, call_has, idle_of}
use Rattle.pool_alloc.proofs.SoundSteps.{sound_step}
use Rattle.pool_alloc.proofs.Weights.{frame_counts, frame_units, grant_counts, grant_units}
use Rattle.pool_driver.specs.Calling.{Becomes, CallKind, GoesOnSince, HasEnded, IsAsking, MayAnswer, asks_component, asks_for, brought, gives_back, is_refused, kind_at, kind_of}
use Rattle.pool_driver.specs.Counts.{counter_limits}
use Rattle.pool_driver.specs.Driving.{Change, Given, IsDriven, SeesStep, StandsOn, StandsFor, changed, counted, uncounted, unchanged, view_after}
use Rattle.pool_driver.specs.Faults.{AnswerKeeps, FrameKeeps}
use Rattle.pool_driver.specs.Placed.{About}
use Rattle.pool_driver.specs.Limits.{IfRefused, IfRefusing, Names}
use Rattle.pool_driver.specs.Refusing.{AnswersCall, IsCallFor, MayEnd}
use Rattle.pool_driver.specs.Spending.{AnswerSpends, RefusalFewer}
use Rattle.pool_driver.specs.Telling.{HoldsMore, AnswerTold}
use Rattle.pool_driver.proofs.Adding.{adds_begin, components_step, from_asking, instances_step}
use Rattle.pool_driver.proofs.Appending.{appended_last, appends_begin, appends_step}
use Rattle.pool_driver.proofs.Erasing.{erased_begins, erased_last, erased_step}
use Rattle.pool_driver.proofs.ColdPicks.{cold_begins, fewer_last, fewer_step, most_step, now_step}
use Rattle.pool_driver.proofs.Driven.{stands_for}
use Rattle.pool_driver.proofs.Holding.{holds_on, same_holds}
use Rattle.pool_driver.proofs.Naming.{sees_more, sees_limits}
use Rattle.pool_driver.proofs.PartsTold.{parts_begin, parts_last, parts_on}
use Rattle.pool_driver.proofs.Raising.{key_answered}
use Rattle.pool_driver.proofs.Limits.{answer_named, begun_named, names_ended, next_named, stripe_ended}
use Rattle.pool_driver.proofs.Refusing.{ends_before, ends_so, stays_for}
use Rattle.pool_driver.proofs.Spending.{asked_stays, spends_begin, spends_step}
use Rattle.pool_driver.proofs.Telling.{home_stays, stripe_stays, tells_begin, tells_step}
use Rattle.pool_driver.proofs.TurnFaults.{CallKeeps, begun_keeps}

module _ {P H : Type 0} where
  -- a frame that isn't busy is idle
  idle_phase : (p : Phase P H) → is_idle p ≡ true → p ≡ Idle
  idle_phase Idle is = refl
  idle_phase p is = absurd (true≢false (sym is))

  -- a call that begins is busy
  back_busy : (memories : List Lease) (tables : List LeasedTable) (f : Frame P H) → f.asked ≡ asked.Nothing → is_idle (returned_next memories tables f).frame.phase ≡ false
  back_busy (lease ∷ memories) tables f nothing = refl
  back_busy [] (lease ∷ tables) f nothing = refl
  back_busy [] [] f nothing = subst (λ (a : Asked). is_idle (all_returned a f).frame.phase ≡ false) (sym nothing) refl

  begun_busy : (c : Call P H) (f : Frame P H) → is_idle (begun_call c f).phase ≡ false
  begun_busy call.Key f = refl
  begun_busy (call.Module m) f = refl
  begun_busy (call.Component info) f = refl
  begun_busy (call.Memory m) f = refl
  begun_busy (call.Table ty) f = refl
  begun_busy call.Stack f = refl
  begun_busy (call.Heap ty) f = refl
  begun_busy (call.HeapOver memory) f = refl
  begun_busy (call.GiveBack (Instance lease)) f = back_busy lease.memories.items lease.tables.items (record f { asked = asked.Nothing; objects = lease; ending = returned }) refl
  begun_busy (call.GiveBack Component) f = refl
  begun_busy (call.GiveBack (Memory lease)) f = refl
  begun_busy (call.GiveBack (Table lease)) f = refl
  begun_busy (call.GiveBack (Stack lease)) f = refl
  begun_busy (call.GiveBack (Heap lease memory)) f = refl
  begun_busy (call.GiveBack (HeapOver lease)) f = refl
  begun_busy (call.Purge id) f = refl
  begun_busy call.Release f = refl

  -- what it brings keeps its faults, and weighs what the call has
  brought_keeps : (c : Call P H) → AnswerKeeps (brought c) → CallKeeps c
  brought_keeps call.Key k = tt
  brought_keeps (call.Module m) k = tt
  brought_keeps (call.Component info) k = tt
  brought_keeps (call.Memory m) k = tt
  brought_keeps (call.Table ty) k = tt
  brought_keeps call.Stack k = tt
  brought_keeps (call.Heap ty) k = tt
  brought_keeps (call.HeapOver memory) k = tt
  brought_keeps (call.GiveBack grant) k = k
  brought_keeps (call.Purge id) k = tt
  brought_keeps call.Release k = tt

  brought_units : (t : Thing) (c : Call P H) → call_has (grant_weight (of_units t)) c ≡ count_granted (grant_count t) (brought c)
  brought_units t call.Key = refl
  brought_units t (call.Module m) = refl
  brought_units t (call.Component info) = refl
  brought_units t (call.Memory m) = refl
  brought_units t (call.Table ty) = refl
  brought_units t call.Stack = refl
  brought_units t (call.Heap ty) = refl
  brought_units t (call.HeapOver memory) = refl
  brought_units t (call.GiveBack grant) = grant_units t grant
  brought_units t (call.Purge id) = refl
  brought_units t call.Release = refl

  brought_counts : (n : Counts) (c : Call P H) → call_has (grant_weight (of_counts n)) c ≡ count_granted (grant_counted n) (brought c)
  brought_counts n call.Key = refl
  brought_counts n (call.Module m) = refl
  brought_counts n (call.Component info) = refl
  brought_counts n (call.Memory m) = refl
  brought_counts n (call.Table ty) = refl
  brought_counts n call.Stack = refl
  brought_counts n (call.Heap ty) = refl
  brought_counts n (call.HeapOver memory) = refl
  brought_counts n (call.GiveBack grant) = grant_counts n grant
  brought_counts n (call.Purge id) = refl
  brought_counts n call.Release = refl

  -- a give-back begins with a step that counts down
  back_stands : (a : About) (places : ℕ) (memories : List Lease) (tables : List LeasedTable) (f : Frame P H) → f.asked ≡ asked.Nothing → (e : Frame P H) → StandsFor (next_target a.settings a.plan (returned_next memories tables f).frame.phase e) a places e
  back_stands a places (lease ∷ memories) tables f nothing e = tt
  back_stands a places [] (lease ∷ tables) f nothing e = tt
  back_stands a places [] [] f nothing e = subst (λ (x : Asked). StandsFor (next_target a.settings a.plan (all_returned x f).frame.phase e) a places e) (sym nothing) tt

module _ {T P H : Type 0} (places : ℕ) (g : Given) (v : View T) (f : Frame P H) (c : Call P H) (driven : IsDriven places g v f (brought c)) (may : MayBegin g.about.maker g.about.settings g.about.plan c f) where
  sound : IsFrame g.about.maker g.about.settings g.about.plan (begun_call c f)
  sound = begun_frame g.about.maker c g.about.settings g.about.plan f driven.frame may

  weighs : (w : Weight) → frame_weight w (begun_call c f) ≡ frame_weight w f + call_has (grant_weight w) c
  weighs w = begun_weight g.about.maker w c g.about.settings g.about.plan f driven.frame may

  -- an idle frame stands on some pool, and a call that brings nothing stands there too
  idle_stands : StandsOn g.about places f
  idle_stands = subst (λ (p : Phase P H). StandsFor (next_target g.about.settings g.about.plan p f) g.about places f) (idle_of g.about.maker g.about.settings g.about.plan c f may) driven.stands

  asks_stands : ((of : Grant P H → ℕ) → call_has of c ≡ 0) → StandsFor (next_target g.about.settings g.about.plan (begun_call c f).phase (begun_call c f)) g.about places (begun_call c f)
  asks_stands nothing =
      let s = idle_stands in
      stands_for g.about places (next_target g.about.settings g.about.plan (begun_call c f).phase (begun_call c f)) (begun_call c f)
      (record {
        counters = s.counters;
        parts = s.parts;
        long = s.long;
        kept = s.kept;
        can = record {
          core = s.can.core;
          frame = sound;
          fits = record {
            once = λ w. omega (arith, s.can.fits.once w, weighs w, nothing (grant_weight w));
            others = λ name. omega (arith, s.can.fits.others name, same_units nothing (right_to name), same_units nothing (region_of name));
          };
        };
      })
    where
      same_units : ((of : Grant P H → ℕ) → call_has of c ≡ 0) → (t : Thing) → frame_count t (begun_call c f) ≡ frame_count t f
      same_units none t = omega (arith, weighs (of_units t), none (grant_weight (of_units t)), frame_units t f, frame_units t (begun_call c f))

  begins_on : (d : Call P H) → c ≡ d → StandsFor (next_target g.about.settings g.about.plan (begun_call c f).phase (begun_call c f)) g.about places (begun_call c f)
  begins_on call.Key is = asks_stands (λ of. ap (call_has of) is)
  begins_on (call.Module m) is = asks_stands (λ of. ap (call_has of) is)
  begins_on (call.Component info) is = asks_stands (λ of. ap (call_has of) is)
  begins_on (call.Memory m) is = asks_stands (λ of. ap (call_has of) is)
  begins_on (call.Table ty) is = asks_stands (λ of. ap (call_has of) is)
  begins_on call.Stack is = asks_stands (λ of. ap (call_has of) is)
  begins_on (call.Heap ty) is = asks_stands (λ of. ap (call_has of) is)
  begins_on (call.HeapOver memory) is = asks_stands (λ of. ap (call_has of) is)
  begins_on (call.Purge id) is = asks_stands (λ of. ap (call_has of) is)
  begins_on call.Release is = asks_stands (λ of. ap (call_has of) is)
  begins_on (call.GiveBack (Instance lease)) is = subst (λ (z : Call P H). StandsFor (next_target g.about.settings g.about.plan (begun_call z f).phase (begun_call z f)) g.about places (begun_call z f)) (sym is)
      (back_stands g.about places lease.memories.items lease.tables.items (record f { asked = asked.Nothing; objects = lease; ending = returned }) refl (begun_call (call.GiveBack (Instance lease)) f))
  begins_on (call.GiveBack Component) is = subst (λ (z : Call P H). StandsFor (next_target g.about.settings g.about.plan (begun_call z f).phase (begun_call z f)) g.about places (begun_call z f)) (sym is) tt
  begins_on (call.GiveBack (Memory lease)) is = subst (λ (z : Call P H). StandsFor (next_target g.about.settings g.about.plan (begun_call z f).phase (begun_call z f)) g.about places (begun_call z f)) (sym is) tt
  begins_on (call.GiveBack (Table lease)) is = subst (λ (z : Call P H). StandsFor (next_target g.about.settings g.about.plan (begun_call z f).phase (begun_call z f)) g.about places (begun_call z f)) (sym is) tt
  begins_on (call.GiveBack (Stack lease)) is = subst (λ (z : Call P H). StandsFor (next_target g.about.settings g.about.plan (begun_call z f).phase (begun_call z f)) g.about places (begun_call z f)) (sym is) tt
  begins_on (call.GiveBack (Heap lease memory)) is = subst (λ (z : Call P H). StandsFor (next_target g.about.settings g.about.plan (begun_call z f).phase (begun_call z f)) g.about places (begun_call z f)) (sym is) tt
  begins_on (call.GiveBack (HeapOver lease)) is = subst (λ (z : Call P H). StandsFor (next_target g.about.settings g.about.plan (begun_call z f).phase (begun_call z f)) g.about places (begun_call z f)) (sym is) tt

  -- A call that begins is driven.
  pub driven_begun : IsDriven places g v (begun_call c f) None
  driven_begun = record {
    frame = sound;
    keeps = begun_keeps c f driven.keeps (brought_keeps c driven.answer);
    answer = tt;
    carries = record {
      units = λ t. omega (arith, driven.carries.units t, weighs (of_units t), brought_units t c, frame_units t f, frame_units t (begun_call c f));
      beside = driven.carries.beside;
    };
    counted = λ k. omega (arith, driven.counted k, weighs (of_counts (only k)), brought_counts (only k) c, frame_counts (only k) f, frame_counts (only k) (begun_call c f));
    stands = begins_on c refl;
  }

  -- Its frame was at rest,
  pub rested : IsAtRest f
  rested = at_rest g.about.maker g.about.settings g.about.plan f driven.frame (idle_of g.about.maker g.about.settings g.about.plan c f may)

  -- and had no objects.
  pub none_had : objects_in f.objects ≡ 0
  none_had = let rest = at_rest g.about.maker g.about.settings g.about.plan f driven.frame (idle_of g.about.maker g.about.settings g.about.plan c f may) in omega (arith, ap length rest.no_memories, ap length rest.no_tables)

module _ {P H : Type 0} (maker : MakerTold) (old new : PartyTold) (c : PoolCore P H) (f : Frame P H) where
  -- a step leaves a call of its kind, or refuses it, or answers it so
  becomes_next : (s t : Stage) → Goes maker old new c f s t None → Becomes (kind_at s) (kind_at t)
  becomes_next no_call no_call goes = inl refl
  becomes_next keys no_call goes = absurd goes
  becomes_next (asks p) (asks q) goes = inl refl
  becomes_next (asks p) (refusing e) goes = inr (tt, refl)
  becomes_next (tests_component info) counts_component goes = inl refl
  becomes_next counts_component (refusing e) goes = inr (tt, refl)
  becomes_next returning returning goes = inl refl
  becomes_next (refusing e) (refusing d) goes = inl refl
  becomes_next purging purging goes = inl refl
  becomes_next reserving releasing goes = inl refl
  becomes_next releasing releasing goes = inl refl
  becomes_next s t goes = absurd goes

  kind_answers : (s t : Stage) (o : Outcome P H) → Goes maker old new c f s t (Some o) → MayAnswer (kind_at s) o
  kind_answers no_call no_call o goes = absurd goes
  kind_answers keys no_call Key goes = tt
  kind_answers (asks p) no_call (Granted (Instance lease)) goes = tt
  kind_answers (asks p) no_call (Granted (Memory lease)) goes = tt
  kind_answers (asks p) no_call (Granted (Table lease)) goes = tt
  kind_answers (asks p) no_call (Granted (Stack lease)) goes = tt
  kind_answers (asks p) no_call (Granted (Heap lease memory)) goes = tt
  kind_answers (asks p) no_call (Granted (HeapOver lease)) goes = tt
  kind_answers (asks p) no_call (Refused e) goes = tt
  kind_answers (tests_component info) no_call (Refused e) goes = tt
  kind_answers counts_component no_call (Granted Component) goes = tt
  kind_answers returning no_call Returned goes = tt
  kind_answers (refusing e) no_call (Refused d) goes = tt
  kind_answers purging no_call (Purged n) goes = tt
  kind_answers reserving no_call (Refused e) goes = tt
  kind_answers releasing no_call (Released n) goes = tt
  kind_answers s t o goes = absurd goes

-- so it goes on, step after step
becomes_on : (k l m : CallKind) → Becomes k l → Becomes l m → Becomes k m
becomes_on k l m = ⊎_elim
    (λ (same : l ≡ k). λ (then : Becomes l m). subst (λ (z : CallKind). Becomes z m) same then)
    (λ (refused : IsAsking k × (l ≡ is_refused)). ⊎_elim
    (λ (same : m ≡ l). inr (refused.0, same ∙ refused.1))
    (λ (other : IsAsking l × (m ≡ is_refused)). inr (refused.0, other.1)))

-- and what it may be answered last, the call may be answered
module _ {P H : Type 0} where
  refused_may : (k : CallKind) (o : Outcome P H) → IsAsking k → MayAnswer is_refused o → MayAnswer k o
  refused_may asks_for (Refused e) asking may = tt
  refused_may asks_component (Refused e) asking may = tt
  refused_may asks_for o asking may = absurd may
  refused_may asks_component o asking may = absurd may
  refused_may k o asking may = absurd asking

  first_may : (k l : CallKind) (o : Outcome P H) → Becomes k l → MayAnswer l o → MayAnswer k o
  first_may k l o = ⊎_elim
      (λ (same : l ≡ k). λ (may : MayAnswer l o). subst (λ (z : CallKind). MayAnswer z o) same may)
      (λ (refused : IsAsking k × (l ≡ is_refused)). λ (may : MayAnswer l o). refused_may k o refused.0 (subst (λ (z : CallKind). MayAnswer z o) refused.1 may))

module _ {P H : Type 0} where
  back_kind : (memories : List Lease) (tables : List LeasedTable) (f : Frame P H) → f.asked ≡ asked.Nothing → f.ending ≡ returned → kind_at (stage_of (record (returned_next memories tables f).frame { step_count = 0 })) ≡ gives_back
  back_kind (lease ∷ memories) tables f nothing back = ap (λ (e : Ending). kind_at (stage_by f.asked e (objects_in (record f.objects { memories = record f.objects.memories { items = memories } })))) back
  back_kind [] (lease ∷ tables) f nothing back = ap (λ (e : Ending). kind_at (stage_by f.asked e (objects_in (record f.objects { tables = record f.objects.tables { items = tables } })))) back
  back_kind [] [] f nothing back =
      subst (λ (a : Asked). kind_at (stage_of (record (all_returned a f).frame { step_count = 0 })) ≡ gives_back) (sym nothing)
      (ap (λ (e : Ending). kind_at (stage_by f.asked e (objects_in f.objects))) back)

  -- A call is of its kind as it begins.
  pub begun_kind : (c : Call P H) (f : Frame P H) → kind_at (stage_of (begun_call c f)) ≡ kind_of c
  begun_kind call.Key f = refl
  begun_kind (call.Module m) f = refl
  begun_kind (call.Component info) f = refl
  begun_kind (call.Memory m) f = refl
  begun_kind (call.Table ty) f = refl
  begun_kind call.Stack f = refl
  begun_kind (call.Heap ty) f = refl
  begun_kind (call.HeapOver memory) f = refl
  begun_kind (call.GiveBack (Instance lease)) f = back_kind lease.memories.items lease.tables.items (record f { asked = asked.Nothing; objects = lease; ending = returned }) refl refl
  begun_kind (call.GiveBack Component) f = refl
  begun_kind (call.GiveBack (Memory lease)) f = refl
  begun_kind (call.GiveBack (Table lease)) f = refl
  begun_kind (call.GiveBack (Stack lease)) f = refl
  begun_kind (call.GiveBack (Heap lease memory)) f = refl
  begun_kind (call.GiveBack (HeapOver lease)) f = refl
  begun_kind (call.Purge id) f = refl
  begun_kind call.Release f = refl

-- A call that begins asks for what its stage says.
returning_sort : (s : Stage) (a : Asked) → kind_at s ≡ gives_back → IsCallFor s a
returning_sort no_call a is = tt
returning_sort keys a is = tt
returning_sort (asks p) a is = absurd cc
returning_sort (tests_component info) a is = tt
returning_sort counts_component a is = tt
returning_sort returning a is = tt
returning_sort (refusing e) a is = tt
returning_sort purging a is = tt
returning_sort reserving a is = tt
returning_sort releasing a is = tt

begun_sort : {P H : Type 0} (c : Call P H) (f : Frame P H) → IsCallFor (stage_of (begun_call c f)) (begun_call c f).asked
begun_sort call.Key f = tt
begun_sort (call.Module m) f = tt
begun_sort (call.Component info) f = tt
begun_sort (call.Memory m) f = refl
begun_sort (call.Table ty) f = refl
begun_sort call.Stack f = refl
begun_sort (call.Heap ty) f = refl
begun_sort (call.HeapOver memory) f = refl
begun_sort (call.GiveBack grant) f = returning_sort (stage_of (begun_call (call.GiveBack grant) f)) (begun_call (call.GiveBack grant) f).asked (begun_kind (call.GiveBack grant) f)
begun_sort (call.Purge id) f = tt
begun_sort call.Release f = tt

-- What a call that began may end with, it may be answered.
pub answers_call : {P H : Type 0} (s : Settings) (plan : Plan) (c : Call P H) (f : Frame P H) (o : Outcome P H) → MayAnswer (kind_of c) o → MayEnd s plan (begun_call c f).asked (stage_of (begun_call c f)) o → AnswersCall s plan c o
answers_call s plan call.Key f Key kind may = tt
answers_call s plan call.Key f o kind may = absurd may
answers_call s plan (call.Module m) f (Granted (Instance lease)) kind may = may
answers_call s plan (call.Module m) f (Refused e) kind may = may
answers_call s plan (call.Module m) f o kind may = absurd may
answers_call s plan (call.Component info) f (Granted Component) kind may = may
answers_call s plan (call.Component info) f (Refused e) kind may = may
answers_call s plan (call.Component info) f o kind may = absurd may
answers_call s plan (call.Memory m) f (Granted (Memory lease)) kind may = tt
answers_call s plan (call.Memory m) f (Refused e) kind may = may
answers_call s plan (call.Memory m) f o kind may = absurd may
answers_call s plan (call.Table ty) f (Granted (Table lease)) kind may = tt
answers_call s plan (call.Table ty) f (Refused e) kind may = may
answers_call s plan (call.Table ty) f o kind may = absurd may
answers_call s plan call.Stack f (Granted (Stack lease)) kind may = may
answers_call s plan call.Stack f (Refused e) kind may = may
answers_call s plan call.Stack f o kind may = absurd may
answers_call s plan (call.Heap ty) f (Granted (Heap lease memory)) kind may = may.0
answers_call s plan (call.Heap ty) f (Granted (HeapOver lease)) kind may = absurd may.1
answers_call s plan (call.Heap ty) f (Refused e) kind may = may
answers_call s plan (call.Heap ty) f o kind may = absurd may
answers_call s plan (call.HeapOver memory) f (Granted (HeapOver lease)) kind may = may.0
answers_call s plan (call.HeapOver memory) f (Granted (Heap lease of)) kind may = absurd may.1
answers_call s plan (call.HeapOver memory) f (Refused e) kind may = may
answers_call s plan (call.HeapOver memory) f o kind may = absurd may
answers_call s plan (call.GiveBack grant) f Returned kind may = tt
answers_call s plan (call.GiveBack grant) f o kind may = absurd kind
answers_call s plan (call.Purge id) f (Purged n) kind may = tt
answers_call s plan (call.Purge id) f o kind may = absurd may
answers_call s plan call.Release f (Released n) kind may = tt
answers_call s plan call.Release f (Refused e) kind may = may
answers_call s plan call.Release f o kind may = absurd may

-- A call that begins goes on since then.
pub goes_begun : {T P H : Type 0} (a : About) (v : View T) (c : Call P H) (f : Frame P H) → v.limits ≡ counter_limits a.settings → IsAtRest f → GoesOnSince a v v (begun_call c f) (begun_call c f)
goes_begun a v c f limits rests = record { busy = begun_busy c f; tells = tells_begin v a.plan c f; spends = spends_begin v a.plan (begun_call c f); cold = cold_begins a.plan v (begun_call c f); fewer = begun_named (RefusalFewer v v a.plan (begun_call c f).asked) c (stage_of (begun_call c f)) (begun_kind c f); appends = appends_begin a v c f rests (begun_kind c f); erased = erased_begins c f rests (begun_kind c f); parts = parts_begin a v c f (begun_kind c f); more = same_holds v v refl; limits = limits; portions = refl; home = refl; asked = refl; kind = inl refl; instances = adds_begin v _ _; components = adds_begin v _ _; stripe = refl; names = begun_named (Names a.settings a.plan (begun_call c f).stripe) c (stage_of (begun_call c f)) (begun_kind c f); sort = begun_sort c f; ends = λ o may. may }

module _ {T P H : Type 0} (about : T → About) (inner : T → PoolPart P H) (Passes : List Exchange → Type 0) (old new : PartyTold) (a : About) (base v w : View T) (first f next : Frame P H) (o : Option (Outcome P H)) (goes : GoesOnSince a base v first f) (sees : SeesStep about inner Passes old new a v w f next o) (keeps : FrameKeeps f) where
  sound_here : IsSoundStep a.maker old new sees.core f (record { core = sees.left; frame = next; outcome = o })
  sound_here = sound_step a.maker old new sees.core f (record { core = sees.left; frame = next; outcome = o }) sees.can (sees.row.0, sees.row.1.0)

  -- how it may end, by the settings and the plan of the pool
  may_here : (asked : Asked) (s : Stage) (x : Outcome P H) → MayEnd sees.core.settings sees.core.plan asked s x → MayEnd a.settings a.plan asked s x
  may_here asked s x may = subst (λ (z : Settings). MayEnd z a.plan asked s x) sees.settings (subst (λ (z : Plan). MayEnd sees.core.settings z asked s x) sees.plan may)

  may_there : (asked : Asked) (s : Stage) (x : Outcome P H) → MayEnd a.settings a.plan asked s x → MayEnd sees.core.settings sees.core.plan asked s x
  may_there asked s x may = subst (λ (z : Settings). MayEnd z sees.core.plan asked s x) (sym sees.settings) (subst (λ (z : Plan). MayEnd a.settings z asked s x) (sym sees.plan) may)

  more_here : HoldsMore base w
  more_here = holds_on base v w goes.more (sees_more about inner Passes old new a v w f next o sees)

  portions_here : w.portions ≡ base.portions
  portions_here = ap (λ (z : View T). z.portions) sees.view ∙ same_portions sees.change ∙ goes.portions
    where
      same_portions : (change : Change T) → (view_after about inner change v).portions ≡ v.portions
      same_portions (changed p x y) = refl
      same_portions (counted name found) = refl
      same_portions (uncounted name) = refl
      same_portions unchanged = refl

  ends_here : is_some o ≡ is_idle next.phase
  ends_here = sound_here.ended.answer ∙ ap (λ (b : Bool). not b && is_idle next.phase) goes.busy

  way_here : (x : Option (Outcome P H)) → o ≡ x → Goes a.maker old new sees.core f (stage_of f) (stage_of next) x
  way_here x is = subst (λ (z : Option (Outcome P H)). Goes a.maker old new sees.core f (stage_of f) (stage_of next) z) is sound_here.goes.way

  -- it draws a key, or leaves its stripe
  stripe_here : (x : Option (Outcome P H)) → o ≡ x → (x ≡ Some Key) ⊎ (next.stripe ≡ f.stripe)
  stripe_here x is = ⊎_elim
      (λ (key : f.phase ≡ key_phase). inl (key_answered a.maker old new sees.core f (stage_of next) x (subst (λ (z : Stage). Goes a.maker old new sees.core f z (stage_of next) x) (ap (λ (p : Phase P H). stage_at p f.asked f.ending (objects_in f.objects)) key) (way_here x is))))
      (λ (same : next.stripe ≡ f.stripe). inr same)
      (stripe_stays about inner Passes old new a base v w f next o goes.more goes.limits sees goes.tells)

  names_here : IfRefusing (Names sees.core.settings sees.core.plan f.stripe) (stage_of f)
  names_here = subst (λ (s : Settings). IfRefusing (Names s sees.core.plan f.stripe) (stage_of f)) (sym sees.settings) (subst (λ (p : Plan). IfRefusing (Names a.settings p f.stripe) (stage_of f)) (sym sees.plan) goes.names)

  stripe_on : o ≡ None → next.stripe ≡ f.stripe
  stripe_on none = ⊎_elim (λ (key : None ≡ Some Key). absurd cc) (λ (same : next.stripe ≡ f.stripe). same) (stripe_here None none)

  names_on : o ≡ None → IfRefusing (Names a.settings a.plan next.stripe) (stage_of next)
  names_on none =
      let named : IfRefusing (Names sees.core.settings sees.core.plan f.stripe) (stage_of next) = next_named a.maker old new sees.core f (stage_of f) (stage_of next) (way_here None none) names_here in
      let by_settings : IfRefusing (Names a.settings sees.core.plan f.stripe) (stage_of next) = subst (λ (s : Settings). IfRefusing (Names s sees.core.plan f.stripe) (stage_of next)) sees.settings named in
      let by_plan : IfRefusing (Names a.settings a.plan f.stripe) (stage_of next) = subst (λ (p : Plan). IfRefusing (Names a.settings p f.stripe) (stage_of next)) sees.plan by_settings in
      subst (λ (n : ℕ). IfRefusing (Names a.settings a.plan n) (stage_of next)) (sym (stripe_on none)) by_plan

  names_last : (answer : Outcome P H) → o ≡ Some answer → IfRefused (Names a.settings a.plan next.stripe) answer
  names_last answer some =
      let named : IfRefused (Names sees.core.settings sees.core.plan f.stripe) answer = answer_named a.maker old new sees.core f answer (stage_of f) (stage_of next) (way_here (Some answer) some) names_here in
      let by_settings : IfRefused (Names a.settings sees.core.plan f.stripe) answer = subst (λ (s : Settings). IfRefused (Names s sees.core.plan f.stripe) answer) sees.settings named in
      let by_plan : IfRefused (Names a.settings a.plan f.stripe) answer = subst (λ (p : Plan). IfRefused (Names a.settings p f.stripe) answer) sees.plan by_settings in
      names_ended a.settings a.plan answer f.stripe next.stripe by_plan (stripe_here (Some answer) some)

  -- After a step without an answer it goes on,
  pub goes_on : o ≡ None → GoesOnSince a base w first next
  goes_on none =
      let becomes : Becomes (kind_at (stage_of f)) (kind_at (stage_of next)) = becomes_next a.maker old new sees.core f (stage_of f) (stage_of next) (way_here None none) in
      let asks_before : kind_at (stage_of next) ≡ asks_for → kind_at (stage_of f) ≡ asks_for = λ on. from_asking (kind_at (stage_of f)) (subst (Becomes (kind_at (stage_of f))) on becomes) in
      let busy : is_idle next.phase ≡ false = sym ends_here ∙ ap (λ (z : Option (Outcome P H)). is_some z) none in
      let same : next.asked ≡ f.asked = asked_stays about inner Passes old new a base v w f next o sees busy in
      let way : Goes a.maker old new sees.core f (stage_of f) (stage_of next) None = subst (λ (z : Option (Outcome P H)). Goes a.maker old new sees.core f (stage_of f) (stage_of next) z) none sound_here.goes.way in
      record {
        busy = busy;
        tells = (tells_step about inner Passes old new a base v w f next o goes.more goes.limits sees goes.tells).0;
        spends = (spends_step about inner Passes old new a base v w f next o sees goes.spends).0;
        cold = λ kind. record { most = most_step about inner Passes old new a base v w first f next o goes sees kind; now = λ on. now_step about inner Passes old new a base v w first f next o goes sees (asks_before on) on kind };
        fewer = fewer_step about inner Passes old new a base v w first f next o goes sees none;
        appends = appends_step about inner Passes old new a base v w first f next o sees goes;
        erased = λ on. (erased_step about inner Passes old new a v w f next o sees (asks_before on) (goes.erased (asks_before on))).frame on;
        parts = parts_on about inner Passes old new a base v w f next o goes.more keeps sees goes.busy goes.parts becomes;
        more = more_here;
        limits = sees_limits about inner Passes old new a v w f next o sees ∙ goes.limits;
        portions = portions_here;
        home = home_stays about inner Passes old new a base v w f next o goes.more goes.limits sees goes.tells ∙ goes.home;
        asked = same ∙ goes.asked;
        kind = becomes_on (kind_at (stage_of first)) (kind_at (stage_of f)) (kind_at (stage_of next)) goes.kind becomes;
        names = names_on none;
        stripe = stripe_on none ∙ goes.stripe;
        instances = instances_step about inner Passes old new a base v w first f next o goes sees;
        components = components_step about inner Passes old new a base v w first f next o goes sees;
        sort = subst (λ (z : Asked). IsCallFor (stage_of next) z) (sym same) (stays_for a.maker old new sees.core f sees.can.core.settings f.asked (stage_of f) (stage_of next) way goes.sort);
        ends = λ x may.
            goes.ends x
            (may_here f.asked (stage_of f) x
            (ends_before a.maker old new sees.core f sees.can.core.settings (stage_of f) (stage_of next) x goes.sort way
            (may_there f.asked (stage_of next) x (subst (λ (z : Asked). MayEnd a.settings a.plan z (stage_of next) x) same may))));
      }

  -- and after one with an answer it has ended.
  pub has_ended : (answer : Outcome P H) → o ≡ Some answer → HasEnded a base w first next answer
  has_ended answer some =
      let granted : IfGranted (IsGrantOf a.maker a.settings a.plan f.asked) o = subst (λ (z : Settings). IfGranted (IsGrantOf a.maker z a.plan f.asked) o) sees.settings (subst (λ (z : Plan). IfGranted (IsGrantOf a.maker sees.core.settings z f.asked) o) sees.plan sound_here.granted) in
      let told = (tells_step about inner Passes old new a base v w f next o goes.more goes.limits sees goes.tells).1 in
      let spends = (spends_step about inner Passes old new a base v w f next o sees goes.spends).1 in
      let way : Goes a.maker old new sees.core f (stage_of f) (stage_of next) (Some answer) = subst (λ (z : Option (Outcome P H)). Goes a.maker old new sees.core f (stage_of f) (stage_of next) z) some sound_here.goes.way in
      record {
        idle = idle_phase next.phase (sym ends_here ∙ ap (λ (z : Option (Outcome P H)). is_some z) some);
        kind = first_may (kind_at (stage_of first)) (kind_at (stage_of f)) answer goes.kind (kind_answers a.maker old new sees.core f (stage_of f) (stage_of next) answer (way_here (Some answer) some));
        names = names_last answer some;
        stripe = stripe_ended answer first.stripe f.stripe next.stripe goes.stripe (stripe_here (Some answer) some);
        ends = goes.ends answer (may_here f.asked (stage_of f) answer (ends_so a.maker old new sees.core f sees.can.core.settings (stage_of f) (stage_of next) answer goes.sort (subst (λ (z : Option (Outcome P H)). IfGranted (IsGrantOf a.maker sees.core.settings sees.core.plan f.asked) z) some sound_here.granted) way));
        granted = subst (λ (z : Option (Outcome P H)). IfGranted (IsGrantOf a.maker a.settings a.plan first.asked) z) some (subst (λ (z : Asked). IfGranted (IsGrantOf a.maker a.settings a.plan z) o) goes.asked granted);
        told = subst (λ (z : Option (Outcome P H)). AnswerTold base w a.plan first.home z) some (subst (λ (n : ℕ). AnswerTold base w a.plan n o) goes.home told);
        spends = subst (λ (z : Option (Outcome P H)). AnswerSpends base w a.plan first.asked z) some (subst (λ (z : Asked). AnswerSpends base w a.plan z o) goes.asked spends);
        cold = most_step about inner Passes old new a base v w first f next o goes sees;
        fewer = fewer_last about inner Passes old new a base v w first f next o goes sees answer some;
        erased = erased_last about inner Passes old new a v w f next o sees answer some (kind_answers a.maker old new sees.core f (stage_of f) (stage_of next) answer (way_here (Some answer) some)) goes.erased;
        appended = appended_last about inner Passes old new a base v w first f next o sees goes (idle_phase next.phase (sym ends_here ∙ ap (λ (z : Option (Outcome P H)). is_some z) some));
        parts = parts_last about inner Passes old new a base v w f next o goes.more keeps sees goes.busy goes.parts answer some (kind_answers a.maker old new sees.core f (stage_of f) (stage_of next) answer (way_here (Some answer) some));
        more = more_here;
        instances = instances_step about inner Passes old new a base v w first f next o goes sees;
        components = components_step about inner Passes old new a base v w first f next o goes sees;
        portions = portions_here;
        home = home_stays about inner Passes old new a base v w f next o goes.more goes.limits sees goes.tells ∙ goes.home;
      }

module _ {P H : Type 0} where
  -- A grant of what was asked for is one of the pool, so that it may be given back.
  pub grant_of : (maker : MakerTold) (s : Settings) (plan : Plan) (asked : Asked) (grant : Grant P H) → IsGrantOf maker s plan asked grant → IsGrant maker s plan grant
  grant_of maker s plan asked (Instance lease) is = is.0
  grant_of maker s plan asked Component is = is
  grant_of maker s plan asked (Memory lease) is = is.memory_is
  grant_of maker s plan asked (Table lease) is = is.table_is
  grant_of maker s plan asked (Stack lease) is = is.0
  grant_of maker s plan asked (Heap lease memory) is = (is.heap, is.memory_is)
  grant_of maker s plan asked (HeapOver lease) is = is.heap

  -- An answer that is no grant has nothing.
  pub none_granted : (of : Grant P H → ℕ) (o : Outcome P H) → ((grant : Grant P H) → o ≡ Granted grant → ⊥) → count_granted of (Some o) ≡ 0
  none_granted of (Granted grant) not_granted = absurd (not_granted grant refl)
  none_granted of Key not_granted = refl
  none_granted of Returned not_granted = refl
  none_granted of (Purged n) not_granted = refl
  none_granted of (Released n) not_granted = refl
  none_granted of (Refused e) not_granted = refl

  -- The answer to a give-back has nothing.
  pub none_returned : (of : Grant P H → ℕ) (o : Outcome P H) → MayAnswer gives_back o → count_granted of (Some o) ≡ 0
  none_returned of Returned may = refl
  none_returned of o may = absurd may
