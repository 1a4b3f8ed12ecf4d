-- A step that the code makes, as a row of the table.
use Rattle.std.proofs.Common.{◌≡◌, true, false, List, length, sym, ap, subst, ◌∙◌, Option, Some, None, Ok, Err, IfSome, slice_get}
use Rattle.pool_alloc.proofs.Imports.{no_image_slot, empty_queue, Exchange, Exchanged}
use Rattle.pool_slots.specs.declared.heap_maker.HeapMakeFault.TheVariants as no_heap
use Rattle.pool_alloc.specs.PartyTold.{PartyTold}
use Rattle.pool_alloc.specs.PageCallAnswers.{MayBeTold, IsPlanned, AsksOf, MakesOf, LimiterHears}
use Rattle.pool_alloc.specs.StepReads.{tables_wanted, StepGiven, memories_wanted}
use Rattle.pool_alloc.specs.StepTable.{row_of}
use Rattle.pool_alloc.specs.Turns.{After, stepped}
use Rattle.pool_alloc.specs.Stepping.{Takes, StepsTo, StepsAsking}
use Rattle.pool_alloc.specs.declared.pool_core.PoolCore.{PoolCore}
use Rattle.pool_alloc.specs.declared.frame.Frame.{Frame}
use Rattle.pool_alloc.specs.declared.frame.Phase.{Phase}
use Rattle.pool_alloc.specs.declared.frame.Phase.TheVariants.{Idle, MakeMemory, MakeTable}

-- what a step is told that is told nothing
abbrev pub nothing_told : {H : Type 0} → StepGiven H
nothing_told = record { wants = false; fault = false; slot = no_image_slot; queue = empty_queue 0 0; limiter = Ok true; heap = Err no_heap.Memory }

pub told_of_none : {X : Type 0} (o : Option X) → IfSome o (λ x. Unit {0})
told_of_none None = tt
told_of_none (Some x) = tt

module _ {P H : Type 0} where
  pub by_row : (Passes : List Exchange → Type 0) (old new : PartyTold) (g : StepGiven H) (next : Phase P H) (c : PoolCore P H) (f : Frame P H) (a : After P H) (left : Phase P H) → f.phase ≡ next → left ≡ Idle → MayBeTold c.settings g next f → IsPlanned c.settings g next f → AsksOf old.limiter new.limiter g next f → MakesOf old.heaps new.heaps g next → LimiterHears Passes g next f → a ≡ stepped (row_of g next c (record f { phase = left })) → StepsAsking Passes old new c f a
  by_row Passes old new g next c f a left is gone told planned asks makes passed row =
      let T : Phase P H → Type 0 = λ p. MayBeTold c.settings g p f in
      let N : Phase P H → Type 0 = λ p. IsPlanned c.settings g p f in
      let L : Phase P H → Type 0 = λ p. AsksOf old.limiter new.limiter g p f in
      let K : Phase P H → Type 0 = λ p. MakesOf old.heaps new.heaps g p in
      let E : Phase P H → Type 0 = λ p. LimiterHears Passes g p f in
      let takes : Takes old new g c f a = record {
        told = subst T (sym is) told;
        planned = subst N (sym is) planned;
        limiter = subst L (sym is) asks;
        heaps = subst K (sym is) makes;
        is = row ∙ ap (λ (p : Phase P H). stepped (row_of g next c (record f { phase = p }))) gone ∙ ap (λ (p : Phase P H). stepped (row_of g p c (record f { phase = Idle }))) (sym is);
      } in
      (g, (takes, subst E (sym is) passed))

  -- the same of a step that asks neither the limiter nor the maker of heaps
  pub quiet : {R : Type 0} (leads : R → Exchange → R → Type 0) (limiter : R) (told : PartyTold) (g : StepGiven H) (next : Phase P H) (c : PoolCore P H) (f : Frame P H) (a : After P H) (left : Phase P H) → f.phase ≡ next → left ≡ Idle → MayBeTold c.settings g next f → IsPlanned c.settings g next f → AsksOf told.limiter told.limiter g next f → MakesOf told.heaps told.heaps g next → LimiterHears (λ passed. Exchanged leads passed limiter limiter) g next f → a ≡ stepped (row_of g next c (record f { phase = left })) → StepsAsking (λ passed. Exchanged leads passed limiter limiter) told told c f a
  quiet leads limiter told g next c f a left is gone may planned asks makes passed row = by_row (λ passed. Exchanged leads passed limiter limiter) told told g next c f a left is gone may planned asks makes passed row

  -- nothing need pass where there is no limiter
  passes_at : (g : StepGiven H) (next : Phase P H) (f : Frame P H) → LimiterHears (λ passed. Unit {0}) g next f
  passes_at g (MakeMemory slot held) f = told_of_none (slice_get (memories_wanted f.asked) (length f.objects.memories.items))
  passes_at g (MakeTable at region) f = told_of_none (slice_get (tables_wanted f.asked) (length f.objects.tables.items))
  passes_at g next f = tt

  -- so a step by itself is a row
  pub alone : (told : PartyTold) (g : StepGiven H) (next : Phase P H) (c : PoolCore P H) (f : Frame P H) (a : After P H) (left : Phase P H) → f.phase ≡ next → left ≡ Idle → MayBeTold c.settings g next f → IsPlanned c.settings g next f → AsksOf told.limiter told.limiter g next f → MakesOf told.heaps told.heaps g next → a ≡ stepped (row_of g next c (record f { phase = left })) → StepsTo told told c f a
  alone told g next c f a left is gone may planned asks makes row =
      let steps = by_row (λ passed. Unit {0}) told told g next c f a left is gone may planned asks makes (passes_at g next f) row in
      (steps.0, steps.1.0)

  pub without_limiter : {old new : PartyTold} (c : PoolCore P H) (f : Frame P H) (a : After P H) → StepsTo old new c f a → StepsAsking (λ passed. Unit {0}) old new c f a
  without_limiter c f a steps = (steps.0, (steps.1, passes_at steps.0 f.phase f))
