-- A call that is under way has a step left.
use Rattle.std.proofs.Common.{◌≡◌, ◌≢◌, ℕ, zero, suc, ◌+◌, ◌-◌, ◌*◌, ◌<◌, ◌≤◌, Bool, true, false, List, [], ◌∷◌, length, refl, sym, ap, ◌∙◌, subst, inl, inr, ◌⊎◌, arith, nat_lt, All, ◌==◌, ◌&&◌}
use Rattle.std.proofs.lemmas.List.Elements.{All-nil}
use Rattle.pool_run.proofs.Imports.{ltb-true, and_parts, mul-le-mul_right, memory_kind, steps_left, sizes_of, IsCore, IsFrame, is_idle, PoolCore, Frame, PlainHeap, MakerTold, heap_over_asked, Asked}
use Rattle.pool_slots.specs.SlotQueues.{Queued}
use Rattle.pool_slots.specs.Plans.{home_of}
use Rattle.pool_alloc.proofs.FlushSteps.{free_fewer}
use Rattle.pool_alloc.proofs.PlanPlaces.{allocator_most}
use Rattle.pool_alloc.proofs.PurgeBounds.{picking_of, picks_of}
use Rattle.pool_alloc.specs.BetweenSteps.{IsFirstPick, IsPicking, IsPurgeAt, IsReleaseAt, IsShapedAt}
use Rattle.pool_alloc.specs.Purges.{has_turns, purged_stripe}
use Rattle.pool_alloc.specs.Releases.{released_stripe}
use Rattle.pool_alloc.specs.StepBounds.{PoolSizes, flush_left, heap_bound_for, memories_left, purge_left, release_left, steps_at}
use Rattle.pool_alloc.specs.StepReads.{first_shard}
use Rattle.pool_alloc.specs.declared.frame.FreedSlot.{FreedSlot}
use Rattle.pool_alloc.specs.declared.frame.Phase.{Phase}
use Rattle.pool_alloc.specs.declared.frame.Phase.TheVariants.{Idle, Key, Validate, TestStack, TestHeap, CountInstance, Pick, TakeQueue, TakeRegion, Empty, Instantiate, MakeMemory, MakeTable, CountObject, TakeHeap, MakeHeap, CountHeap, PutNoHeap, PutBack, FreeOne, UncountObject, UncountHeap, PutHeap, FreeHeap, Reset, Merge, Flush, UncountInstance, ValidateComponent, CountComponent, UncountComponent, Purge, Release}
use Rattle.pool_alloc.specs.declared.purge.PurgeCursor.{PurgeCursor}
use Rattle.pool_alloc.specs.declared.purge.PurgeStep.{PurgeStep}
use Rattle.pool_alloc.specs.declared.purge.PurgeStep.TheVariants as purging_step
use Rattle.pool_alloc.specs.declared.release.ReleaseStep.{ReleaseStep}
use Rattle.pool_alloc.specs.declared.release.ReleaseStep.TheVariants as releasing_step

some_turn : (n k more rest : ℕ) → 1 ≤ n → 1 ≤ n * (k + 4) + more + rest
some_turn n k more rest some = omega (arith, mul-le-mul_right (k + 4) some)

module _ {P : Type 0} (maker : MakerTold) (c : PoolCore P PlainHeap) (f : Frame P PlainHeap) (core : IsCore maker c) (frame : IsFrame maker c.settings c.plan f) where
  z : PoolSizes
  z = sizes_of c.settings c.plan

  -- a flush that isn't over puts a slot back, or frees one
  flush_goes : (ms : List Queued) (xs : List FreedSlot) → f.local.slots ≡ ms → f.freed.items ≡ xs → ((length ms == 0) && (length xs == 0)) ≡ false → 1 ≤ flush_left (sizes_of c.settings c.plan) f.local f.freed
  flush_goes (m ∷ ms) xs is freed more = omega (arith, ap (length {A = Queued}) is)
  flush_goes [] (x ∷ xs) is freed more =
      let some : 0 < length f.freed.items = omega (arith, ap (length {A = FreedSlot}) freed) in
      let Apart : Queued → Type 0 = λ m. (home_of c.plan m.name).place ≢ first_shard c.plan f.freed.items in
      omega (arith, free_fewer c.settings c.plan (length c.parts) f.local.slots f.freed.items core.plan frame.freed_each (subst (All Apart) (sym is) (All-nil Apart)) some)
  flush_goes [] [] is freed more = absurd cc

  picks : (p : PurgeCursor) (tried : ℕ) (b : Bool) → has_turns c.settings.max_memories_per_module c.plan ≡ b → IsFirstPick p tried ⊎ IsPicking c.settings c.plan p tried → 1 ≤ purge_left {P = P} (sizes_of c.settings c.plan) p (purging_step.Pick tried)
  picks p tried false has at = rw has (omega arith)
  picks p tried true has at =
      let some : 0 < c.plan.totals.memory = ltb-true _ _ (and_parts (nat_lt 0 c.plan.totals.memory) (nat_lt 0 c.settings.max_memories_per_module) has).0 in
      let on : IsPicking c.settings c.plan p tried = picking_of c.settings c.plan (length c.parts) core.plan some p tried has at in
      let z : PoolSizes = sizes_of c.settings c.plan in
      let now : purge_left {P = P} z p (purging_step.Pick tried) ≡ picks_of z p tried = rw has refl in
      subst (λ (n : ℕ). 1 ≤ n) (sym now) (some_turn ((purged_stripe c.plan p).capacity - p.turn) z.shards (z.shards - tried) (memories_left z p) (omega (arith, on.purging.turn)))

  purge_goes : (p : PurgeCursor) (step : PurgeStep P) → IsPurgeAt maker c.settings c.plan p step → 1 ≤ purge_left (sizes_of c.settings c.plan) p step
  purge_goes p (purging_step.Pick tried) at = picks p tried (has_turns c.settings.max_memories_per_module c.plan) refl at
  purge_goes p (purging_step.TakeRegion name) at = omega arith
  purge_goes p (purging_step.Forget on held) at = omega arith
  purge_goes p (purging_step.PutRegion on held) at = omega arith
  purge_goes p (purging_step.Free name) at = omega arith

  release_goes : (step : ReleaseStep P) → IsReleaseAt maker c.settings c.plan step → 1 ≤ release_left (sizes_of c.settings c.plan) step
  release_goes releasing_step.Reserve at = omega arith
  release_goes (releasing_step.TakeWarm r j) at = omega (arith, at.1, allocator_most c.plan (length c.parts) memory_kind r.stripe core.plan at.0.stripe)
  release_goes (releasing_step.TakeRegion r k) at = omega arith
  release_goes (releasing_step.Decommit r k on held) at = omega arith
  release_goes (releasing_step.PutRegion r k on held) at = omega arith
  release_goes (releasing_step.Free r x) at = omega arith

  heap_some : (z : PoolSizes) (asked : Asked) → 1 ≤ heap_bound_for z asked
  heap_some z (heap_over_asked memory) = omega arith
  heap_some z _ = omega arith

  phase_goes : (p : Phase P PlainHeap) → is_idle p ≡ false → IsShapedAt maker c.settings c.plan p f → 1 ≤ steps_at (sizes_of c.settings c.plan) p f
  phase_goes Idle busy at = absurd cc
  phase_goes Flush busy at = omega (arith, flush_goes f.local.slots f.freed.items refl refl at.1)
  phase_goes (Purge p step) busy at = purge_goes p step at.1
  phase_goes (Release step) busy at = release_goes step at.1
  phase_goes Key busy at = omega arith
  phase_goes Validate busy at = omega arith
  phase_goes TestStack busy at = omega arith
  phase_goes TestHeap busy at = heap_some (sizes_of c.settings c.plan) f.asked
  phase_goes CountInstance busy at = omega arith
  phase_goes (Pick tried) busy at = omega arith
  phase_goes TakeQueue busy at = omega arith
  phase_goes (TakeRegion name) busy at = omega arith
  phase_goes (Empty on held) busy at = omega arith
  phase_goes (Instantiate on held) busy at = omega arith
  phase_goes (MakeMemory on held) busy at = omega arith
  phase_goes (MakeTable on region) busy at = omega arith
  phase_goes (CountObject object) busy at = omega arith
  phase_goes (TakeHeap name) busy at = omega arith
  phase_goes (MakeHeap on) busy at = omega arith
  phase_goes (CountHeap lease) busy at = omega arith
  phase_goes (PutNoHeap on) busy at = omega arith
  phase_goes (PutBack on held) busy at = omega arith
  phase_goes (FreeOne name) busy at = omega arith
  phase_goes (UncountObject object) busy at = omega arith
  phase_goes (UncountHeap lease memory) busy at = omega arith
  phase_goes (PutHeap lease memory) busy at = omega arith
  phase_goes (FreeHeap name memory) busy at = omega arith
  phase_goes (Reset object) busy at = omega arith
  phase_goes Merge busy at = omega arith
  phase_goes UncountInstance busy at = omega arith
  phase_goes (ValidateComponent info) busy at = omega arith
  phase_goes CountComponent busy at = omega arith
  phase_goes UncountComponent busy at = omega arith

  -- A frame that is sound has a step left where a call is under way.
  pub busy_left : is_idle f.phase ≡ false → 1 ≤ steps_left c f
  busy_left busy = phase_goes f.phase busy frame.shape
