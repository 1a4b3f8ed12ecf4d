-- How a step leaves the maker of heaps of its party: only the making of a heap calls it, which its list lets or doesn't.
use Rattle.std.proofs.Common.{◌≡◌, ℕ, ◌⊎◌, inl, inr, List, true, false, Option, Some, None, Result, Ok, Err, refl, sym, ap, ◌∙◌, subst, not, IfErr, MatchResult}
use Rattle.pool_run.proofs.Imports.{same_Some, MakerTold, risen, GrowthRule, HeapsTold, fails_next, HeapMakeFault, ListedHeaps, PlainHeap, Plan, MakesOf, objects_in, row_of, make_heap_row, IsFrame, IsShapedAt, Stage, asks, seeks_heap, counts_heap, refusing, stage_by, stage_at, stage_of, StepGiven, heaps_wanted, After, stepped, Asked, heap_asked, heap_over_asked, Ending, Frame, Outcome, Phase, Idle, MakeHeap, TakenSlot, PoolCore, Settings}
use Rattle.pool_slots.specs.declared.errors.AllocError.TheVariants as refusal
use Rattle.pool_slots.specs.declared.heap_maker.HeapMakeFault.TheVariants.{Memory, HeapFault}
use Rattle.pool_alloc.specs.declared.frame.Ending.TheVariants as ending
use Rattle.pool_run.specs.PrivateTables.{goes_through}
use Rattle.pool_run.specs.Turns.{heaps_told, StepsUnder}

-- a request for a heap that is to be granted
heap_stage : (asked : Asked) (e : Ending) (n : ℕ) → e ≡ ending.Granted → heaps_wanted asked ≡ 1 → stage_by asked e n ≡ asks (seeks_heap n)
heap_stage (heap_asked ty) ending.Granted n is one = refl
heap_stage (heap_over_asked memory) ending.Granted n is one = refl
heap_stage (heap_asked ty) ending.Returned n is one = absurd cc
heap_stage (heap_asked ty) (ending.Refused e) n is one = absurd cc
heap_stage (heap_over_asked memory) ending.Returned n is one = absurd cc
heap_stage (heap_over_asked memory) (ending.Refused e) n is one = absurd cc
heap_stage _ e n is one = absurd cc

module _ {P : Type 0} where
  plan_kept : (old new : HeapsTold) (g : StepGiven PlainHeap) (phase : Phase P PlainHeap) → MakesOf old new g phase → new.plan ≡ old.plan
  plan_kept old new g (MakeHeap at) makes = ap (λ (t : HeapsTold). t.plan) makes.maker
  plan_kept old new g _ makes = ap (λ (t : HeapsTold). t.plan) makes

  -- A step leaves the list of failing makings.
  pub list_kept : {rule : GrowthRule} {before after : ListedHeaps} {c : PoolCore P PlainHeap} {f : Frame P PlainHeap} {a : After P PlainHeap} → StepsUnder rule before after c f a → after.failing ≡ before.failing
  list_kept {before = before} {after = after} {f = f} steps =
      let plan : Some after.failing ≡ Some before.failing = ap (λ (t : HeapsTold). t.plan) (sym steps.5) ∙ plan_kept steps.0.heaps steps.1.heaps steps.3.0 f.phase steps.3.1.heaps ∙ ap (λ (t : HeapsTold). t.plan) steps.4 in
      same_Some after.failing before.failing plan

  -- The maker is called in this step, which takes the call to the count of the heap, or, where the maker fails, to a refusal.
  pub record MakesNow (unmade : List ℕ) (s t : Stage) (o : Option (Outcome P PlainHeap)) (before after : ℕ) : Type 0 where
    pub n : ℕ
    pub from : s ≡ asks (seeks_heap n)
    pub none : o ≡ None
    pub answer : ((t ≡ asks counts_heap) × (goes_through unmade before ≡ true)) ⊎ ((t ≡ refusing refusal.HeapFault) × (goes_through unmade before ≡ false))
    pub counts : after ≡ risen before

  abbrev pub CallsNow : List ℕ → Stage → Stage → Option (Outcome P PlainHeap) → ℕ → ℕ → Type 0
  CallsNow unmade s t o before after = (after ≡ before) ⊎ MakesNow unmade s t o before after

  -- what the maker's answer says of its list, and where it takes the call
  heap_answer : (r : Result PlainHeap HeapMakeFault) (at : TakenSlot) (unmade : List ℕ) (made faults : ℕ) (X : Type 0) (c : PoolCore P PlainHeap) (f : Frame P PlainHeap) → (let old : HeapsTold = record { plan = Some unmade; made = made; faults = faults } in MatchResult r (λ _. fails_next unmade old ≡ false) (λ e. e ≡ HeapFault → fails_next unmade old ≡ true) → IfErr r (λ e. (e ≡ HeapFault) × X)
      → (let a : After P PlainHeap = stepped (make_heap_row r at c f) in (a.outcome ≡ None) × (((stage_of a.frame ≡ asks counts_heap) × (goes_through unmade made ≡ true)) ⊎ ((stage_of a.frame ≡ refusing refusal.HeapFault) × (goes_through unmade made ≡ false)))))
  heap_answer (Ok heap) at unmade made faults X c f planned wants = (refl, inl (refl, ap not planned))
  heap_answer (Err HeapFault) at unmade made faults X c f planned wants = (refl, inr (refl, ap not (planned refl)))
  heap_answer (Err Memory) at unmade made faults X c f planned wants = absurd (let wrong = wants.0 in cc)

  module _ (maker : MakerTold) (s : Settings) (plan : Plan) (before after : ListedHeaps) (c : PoolCore P PlainHeap) (f : Frame P PlainHeap) where
    calls_by : (g : StepGiven PlainHeap) (p : Phase P PlainHeap) (a : After P PlainHeap) → IsShapedAt maker s plan p f → MakesOf (heaps_told before) (heaps_told after) g p → a ≡ stepped (row_of g p c (record f { phase = Idle })) → CallsNow before.failing (stage_at p f.asked f.ending (objects_in f.objects)) (stage_of a.frame) a.outcome before.made after.made
    calls_by g (MakeHeap at) a shape makes is =
        let Now : After P PlainHeap → Type 0 = λ x. CallsNow before.failing (stage_by f.asked f.ending (objects_in f.objects)) (stage_of x.frame) x.outcome before.made after.made in
        let told = heap_answer g.heap at before.failing before.made before.faults (after.faults ≡ risen before.faults) c (record f { phase = Idle }) makes.planned (makes.wants refl) in
        subst Now (sym is) (inr (record {
          n = objects_in f.objects;
          from = heap_stage f.asked f.ending (objects_in f.objects) shape.1.ending shape.4.1;
          none = told.0;
          answer = told.1;
          counts = ap (λ (t : HeapsTold). t.made) makes.maker;
        }))
    calls_by g _ a shape makes is = inl (ap (λ (t : HeapsTold). t.made) makes)

  -- How a step leaves the count of calls.
  pub calls_now : (maker : MakerTold) (rule : GrowthRule) (before after : ListedHeaps) (c : PoolCore P PlainHeap) (f : Frame P PlainHeap) (a : After P PlainHeap) → IsFrame maker c.settings c.plan f → StepsUnder rule before after c f a → CallsNow before.failing (stage_of f) (stage_of a.frame) a.outcome before.made after.made
  calls_now maker rule before after c f a frame steps =
      let Old : HeapsTold → Type 0 = λ old. MakesOf old steps.1.heaps steps.3.0 f.phase in
      let New : HeapsTold → Type 0 = λ new. MakesOf (heaps_told before) new steps.3.0 f.phase in
      calls_by maker c.settings c.plan before after c f steps.3.0 f.phase a frame.shape (subst New steps.5 (subst Old steps.4 steps.3.1.heaps)) steps.3.1.is
