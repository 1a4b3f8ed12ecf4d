-- What a seat's view tells of a call is kept by each step of it, and begins with it: one phase after the other.
use Rattle.std.proofs.Common.{◌≡◌, ◌⊎◌, ⊎_elim, inl, inr, ℕ, Bool, true, false, List, [], ◌∷◌, sym, refl, ap, subst, ◌∙◌, arith, Option, Some, None}
use Rattle.std.specs.Prelude.{◌%◌, length, nat_le, nat_lt, slice_index}
use Rattle.pool_types.specs.declared.unsupported.Unsupported.{Unsupported}
use Rattle.pool_limits.specs.Exchanges.{Exchange}
use Rattle.pool_hall.specs.Step.{add_view}
use Rattle.pool_hall.specs.declared.view.View.{View}
use Rattle.pool_slots.specs.SlotQueues.{Queue, after_append, drained}
use Rattle.pool_slots.specs.declared.part.PoolPart.{PoolPart}
use Rattle.pool_slots.specs.declared.plan.Plan.{Plan}
use Rattle.pool_slots.specs.HeapLists.{heap_in}
use Rattle.pool_alloc.specs.Calls.{begun_call}
use Rattle.pool_alloc.specs.Leases.{Lease}
use Rattle.pool_alloc.specs.PartyTold.{PartyTold}
use Rattle.pool_alloc.specs.StepTable.{row_of, counted, component_counted, component_tested, flush_step, no_instance_left}
use Rattle.pool_alloc.specs.BetweenSteps.{IsShapedAt}
use Rattle.pool_alloc.specs.StepReads.{StepGiven, IsModule, shard_at, queue_at, shard_tried, queue_tried, cell_named, heaps_at}
use Rattle.pool_alloc.specs.TableLeases.{LeasedTable}
use Rattle.pool_alloc.specs.Turns.{After, all_returned, failing, resting, returned_next}
use Rattle.pool_alloc.specs.declared.counters.CounterName.TheVariants as counter
use Rattle.pool_alloc.specs.declared.frame.Asked.{Asked}
use Rattle.pool_alloc.specs.declared.frame.Asked.TheVariants as asked
use Rattle.pool_alloc.specs.declared.frame.Call.{Call}
use Rattle.pool_alloc.specs.declared.frame.Call.TheVariants as call
use Rattle.pool_alloc.specs.declared.frame.Ending.{Ending}
use Rattle.pool_alloc.specs.declared.frame.Ending.TheVariants.{Granted as granted, Returned as returned, Refused as refused}
use Rattle.pool_alloc.specs.declared.frame.Frame.{Frame}
use Rattle.pool_alloc.specs.declared.frame.Grant.TheVariants.{Instance, Component, Memory, Table, Stack, Heap, HeapOver}
use Rattle.pool_alloc.specs.declared.frame.Outcome.{Outcome}
use Rattle.pool_alloc.specs.declared.frame.Phase.{Phase}
use Rattle.pool_alloc.specs.declared.frame.Phase.TheVariants.{Idle, Key, Validate, TestStack, TestHeap, CountInstance, Pick, TakeQueue, TakeRegion, Empty, Instantiate, MakeMemory, MakeTable, CountObject, TakeHeap, MakeHeap, CountHeap, PutNoHeap, PutBack, FreeOne, UncountObject, UncountHeap, PutHeap, FreeHeap, Reset, Merge, Flush, UncountInstance, ValidateComponent, CountComponent, UncountComponent, Purge, Release}
use Rattle.pool_alloc.specs.declared.pool_core.PoolCore.{PoolCore}
use Rattle.pool_alloc.specs.declared.pool_core.Settings.{Settings}
use Rattle.pool_driver.specs.Counts.{counter_limits}
use Rattle.pool_driver.specs.Driving.{SeesStep}
use Rattle.pool_driver.specs.Placed.{About}
use Rattle.pool_driver.specs.Telling.{HoldsMore, CallGoes, CountsSince, IsReturnedBy, NoneTaken, IsGoing, IsEnding, IsOver, WasOver, PhaseTold, Tells, AnswerTold, instance_counter, component_counter}
use Rattle.pool_driver.proofs.Holding.{counts_same, counts_over, counts_off, going_held, over_held}
use Rattle.pool_driver.proofs.Naming.{sees_more, unchanged_at, counted_at, uncounted_at, pick_at, take_at}
use Rattle.pool_driver.proofs.Searching.{pick_told, take_told}
use Rattle.pool_driver.proofs.Sparing.{takes_queue, none_taken_still}
use Rattle.pool_driver.proofs.TellingRows.{RowTold, validate_told, heap_test_told, stack_test_told, region_told, paged_told, made_told, memory_fails, table_made_told, table_fails, object_told, heap_told, heap_made_told, heap_counted_told, uncount_told, flush_row_told, merge_told, reset_told, purge_told, release_told}
use Rattle.pool_driver.proofs.Turning.{LeftTold, answered, next_told}

-- The stripe that a step of a phase leaves: that of the party, or what a key gives.
module _ {P H : Type 0} (c : PoolCore P H) where
  abbrev stripe_after : Phase P H → Frame P H → ℕ
  stripe_after Key f = c.counters.key % length c.plan.memories
  stripe_after _ f = f.stripe

-- An instance that is one too many is counted off at once, since nothing of it is granted yet.
module _ {T P H : Type 0} (base w : View T) (plan : Plan) (f : Frame P H) (over : PhaseTold base w UncountInstance plan f) where
  over_returned : (memories : List Lease) (tables : List LeasedTable) → memories ≡ [] → tables ≡ [] → IsModule f.asked → LeftTold base w plan f.home f.stripe (returned_next memories tables f)
  over_returned (lease ∷ memories) tables no_memories no_tables module_asked = absurd cc
  over_returned [] (lease ∷ tables) no_memories no_tables module_asked = absurd cc
  over_returned [] [] no_memories no_tables module_asked = go f.asked module_asked
    where
      go : (a : Asked) → IsModule a → LeftTold base w plan f.home f.stripe (all_returned a f)
      go (asked.Module m) is = (over, tt, refl)
      go asked.Nothing is = absurd is
      go (asked.Memory m) is = absurd is
      go (asked.Table ty) is = absurd is
      go asked.Stack is = absurd is
      go (asked.Heap ty) is = absurd is
      go (asked.HeapOver memory) is = absurd is

module _ {T P H : Type 0} (about : T → About) (inner : T → PoolPart P H) (Passes : List Exchange → Type 0) (old new : PartyTold) (a : About) (base v w : View T) (f next : Frame P H) (o : Option (Outcome P H)) (began : HoldsMore base v) (limits : v.limits ≡ counter_limits a.settings) (s : SeesStep about inner Passes old new a v w f next o) where
  more : HoldsMore v w
  more = sees_more about inner Passes old new a v w f next o s

  -- the core on which the step was made, and the frame while it is
  abbrev c : PoolCore P H
  c = s.core

  abbrev e : Frame P H
  e = resting f

  abbrev given : StepGiven H
  given = s.row.0

  -- no step but the take of a queue counts a take
  still : (p : Phase P H) → f.phase ≡ p → takes_queue p ≡ false → IsReturnedBy f.ending (NoneTaken v w c.plan)
  still p is other = by f.ending (none_taken_still about inner Passes old new a v w f next o s (ap takes_queue is ∙ other))
    where
      by : (x : Ending) → NoneTaken v w c.plan → IsReturnedBy x (NoneTaken v w c.plan)
      by granted none = tt
      by returned none = none
      by (refused x) none = tt

  held : (p : Phase P H) → f.phase ≡ p → takes_queue p ≡ false → CallGoes base v c.plan f → CallGoes base w c.plan f
  held p is other going = going_held base v w more c.plan f.home f.queues f.ending (still p is other) going

  shape : (p : Phase P H) → f.phase ≡ p → IsShapedAt a.maker c.settings c.plan p f
  shape p is = subst (λ (q : Phase P H). IsShapedAt a.maker c.settings c.plan q f) is s.can.frame.shape

  -- each row but that of a key leaves the stripe
  abbrev Row : Phase P H → Type 0
  Row p = RowTold base w c.plan f.home (stripe_after c p f) (row_of given p c e)

  told_pick : (tried : ℕ) → f.phase ≡ Pick tried → PhaseTold base v (Pick tried) c.plan f → Row (Pick tried)
  told_pick tried is told =
      let place : ℕ = shard_tried tried c.plan f in
      let at = pick_at about inner Passes old new a v w f next o s tried is in
      pick_told about inner place at.before at.after base v w at.put began c.plan e tried refl (shard_at place c) at.sound at.was at.is told.0 (shape (Pick tried) is).1.ending told.1

  told_take : f.phase ≡ TakeQueue → PhaseTold base v TakeQueue c.plan f → Row TakeQueue
  told_take is told =
      let place : ℕ = queue_tried f.queues c.plan f in
      let at = take_at about inner Passes old new a v w f next o s is in
      take_told about inner place at.before at.after base v w at.put began c.plan e refl (queue_at place c) at.small at.was at.is told.0 (shape TakeQueue is).1.ending told.1

  -- a counter is tested as the hall's was found
  max_instances : slice_index v.limits instance_counter ≡ c.settings.max_core_instances
  max_instances = ap (λ l. slice_index l instance_counter) limits ∙ sym (ap (λ (z : Settings). z.max_core_instances) s.settings)

  max_components : slice_index v.limits component_counter ≡ c.settings.max_component_instances
  max_components = ap (λ l. slice_index l component_counter) limits ∙ sym (ap (λ (z : Settings). z.max_component_instances) s.settings)

  count_at : f.phase ≡ CountInstance → PhaseTold base v CountInstance c.plan f → Row CountInstance
  count_at is told =
      let up = counted_at about inner Passes old new a v w f next o s CountInstance counter.CoreInstances is refl in
      go up.0 up.1 up.2 (nat_lt c.counters.core_instances c.settings.max_core_instances) refl
    where
      go : (found : ℕ) → w ≡ add_view instance_counter found v → c.counters.core_instances ≡ found → (b : Bool) → nat_lt c.counters.core_instances c.settings.max_core_instances ≡ b → RowTold base w c.plan f.home f.stripe (counted b c e)
      go found added same true test = next_told base w c.plan f.ending _ refl (held CountInstance is refl told.1)
      go found added same false test =
          let over : nat_lt found (slice_index v.limits instance_counter) ≡ false = ap (λ (n : ℕ). nat_lt found n) max_instances ∙ ap (λ (n : ℕ). nat_lt n c.settings.max_core_instances) (sym same) ∙ test in
          let at = shape CountInstance is in
          over_returned base w c.plan (failing (no_instance_left c.settings) e) (record { none = tt; ending = counts_over base v w instance_counter 0 0 0 told.0 found added over }) f.objects.memories.items f.objects.tables.items at.0.no_memories at.0.no_tables at.1.asked_for

  component_at : f.phase ≡ CountComponent → PhaseTold base v CountComponent c.plan f → Row CountComponent
  component_at is told =
      let up = counted_at about inner Passes old new a v w f next o s CountComponent counter.ComponentInstances is refl in
      go up.0 up.1 up.2 (nat_lt c.counters.component_instances c.settings.max_component_instances) refl
    where
      go : (found : ℕ) → w ≡ add_view component_counter found v → c.counters.component_instances ≡ found → (b : Bool) → nat_lt c.counters.component_instances c.settings.max_component_instances ≡ b → RowTold base w c.plan f.home f.stripe (component_counted b c e)
      go found added same true test = (tt, tt, refl)
      go found added same false test =
          let over : nat_lt found (slice_index v.limits component_counter) ≡ false = ap (λ (n : ℕ). nat_lt found n) max_components ∙ ap (λ (n : ℕ). nat_lt n c.settings.max_component_instances) (sym same) ∙ test in
          (record { none = tt; ending = counts_over base v w component_counter 0 0 0 told found added over }, tt, refl)

  -- what was over is counted off, and the call ends
  uncount_at : f.phase ≡ UncountInstance → PhaseTold base v UncountInstance c.plan f → Row UncountInstance
  uncount_at is told =
      let down = uncounted_at about inner Passes old new a v w f next o s UncountInstance counter.CoreInstances is refl in
      let off : IsOver base v instance_counter → WasOver base w instance_counter = (λ over. counts_off base v w instance_counter 1 0 0 over down) in
      let over = over_held base v w more (IsOver base v instance_counter) (WasOver base w instance_counter) ⊥ ⊥ off (λ no. no) c.plan f.home f.ending (still UncountInstance is refl) told in
      (tt, answered P H base w (WasOver base w instance_counter) ⊥ (λ was. was) (λ no. absurd no) c.plan f.home f.ending (shape UncountInstance is).1 over.none over.ending, refl)

  uncount_component_at : f.phase ≡ UncountComponent → PhaseTold base v UncountComponent c.plan f → Row UncountComponent
  uncount_component_at is told =
      let down = uncounted_at about inner Passes old new a v w f next o s UncountComponent counter.ComponentInstances is refl in
      let off : IsOver base v component_counter → WasOver base w component_counter = (λ over. counts_off base v w component_counter 1 0 0 over down) in
      let over = over_held base v w more ⊥ ⊥ (IsOver base v component_counter) (WasOver base w component_counter) (λ no. no) off c.plan f.home f.ending (still UncountComponent is refl) told in
      (tt, answered P H base w ⊥ (WasOver base w component_counter) (λ no. absurd no) (λ was. was) c.plan f.home f.ending (shape UncountComponent is).1 over.none over.ending, refl)

  tested_told : (x : Option Unsupported) → CountsSince base w component_counter 0 0 0 → RowTold base w c.plan f.home f.stripe (component_tested x c e)
  tested_told (Some rule) none = (tt, tt, refl)
  tested_told None none = (none, tt, refl)

  -- each row
  told_at : (p : Phase P H) → f.phase ≡ p → PhaseTold base v p c.plan f → Row p
  told_at Idle is told = (tt, tt, refl)
  told_at Key is told = (tt, tt, refl)
  told_at Validate is told = validate_told base w c.plan c e _ given.wants (counts_same base v w instance_counter 0 0 0 told.0 (unchanged_at about inner Passes old new a v w f next o s Validate is refl), held _ is refl told.1)
  told_at TestStack is told = stack_test_told base w c.plan c e _ (held _ is refl told)
  told_at TestHeap is told = heap_test_told base w c.plan c e _ given.wants (held _ is refl told)
  told_at CountInstance is told = count_at is told
  told_at (Pick tried) is told = told_pick tried is told
  told_at TakeQueue is told = told_take is told
  told_at (TakeRegion name) is told = region_told base w c.plan c e c.settings _ (cell_named name c).holds (held _ is refl told)
  told_at (Empty at has) is told = paged_told base w c.plan c e given.fault at given.slot (Instantiate at given.slot) (held _ is refl told) (held _ is refl told, tt, refl)
  told_at (Instantiate at has) is told = paged_told base w c.plan c e given.fault at given.slot (MakeMemory at given.slot) (held _ is refl told) (held _ is refl told, tt, refl)
  told_at (MakeMemory at has) is told = made_told base w c.plan c e at has _ (memory_fails _ given.limiter has _) (held _ is refl told)
  told_at (MakeTable at region) is told = table_made_told base w c.plan c e at region _ (table_fails c.settings given.limiter at region _) (held _ is refl told)
  told_at (CountObject object) is told = object_told base w c.plan c e object (held _ is refl told)
  told_at (TakeHeap name) is told = heap_told base w c.plan c e _ (heap_in name.slot (heaps_at c)) (held _ is refl told)
  told_at (MakeHeap at) is told = heap_made_told base w c.plan c e given.heap at (held _ is refl told)
  told_at (CountHeap lease) is told = heap_counted_told base w c.plan c e f.asked lease
  told_at (PutNoHeap at) is told = (held _ is refl told, tt, refl)
  told_at (PutBack at has) is told = (held _ is refl told, tt, refl)
  told_at (FreeOne name) is told = next_told base w c.plan f.ending e refl (held _ is refl told)
  told_at (UncountObject object) is told = uncount_told base w c.plan c e object (held _ is refl told)
  told_at (UncountHeap lease memory) is told = (held _ is refl told, tt, refl)
  told_at (PutHeap lease (Some memory)) is told = (held _ is refl told, tt, refl)
  told_at (PutHeap lease None) is told = (held _ is refl told, tt, refl)
  told_at (FreeHeap name memory) is told = (held _ is refl told, tt, refl)
  told_at (Reset object) is told = reset_told base w c.plan c e given object (held _ is refl told)
  told_at Merge is told =
      let whole : Queue = after_append (queue_at (queue_tried 0 c.plan f) c) f.local in
      merge_told base w c.plan c (record e { local = drained f.local }) (nat_le c.settings.batch (length whole.ranges)) whole (held _ is refl told)
  told_at Flush is told = flush_row_told base w c.plan c e (flush_step f.local f.freed.items) given.queue (held _ is refl told)
  told_at UncountInstance is told = uncount_at is told
  told_at (ValidateComponent info) is told = tested_told _ (counts_same base v w component_counter 0 0 0 told (unchanged_at about inner Passes old new a v w f next o s (ValidateComponent info) is refl))
  told_at CountComponent is told = component_at is told
  told_at UncountComponent is told = uncount_component_at is told
  told_at (Purge p step) is told = purge_told base w c.plan c e given p step
  told_at (Release step) is told = release_told base w c.plan c e given step

  key_or : (p : Phase P H) → (p ≡ Key) ⊎ (stripe_after c p f ≡ f.stripe)
  key_or Key = inl refl
  key_or p = inr refl

  all_kept : Tells base v a.plan f → LeftTold base w a.plan f.home (stripe_after c f.phase f) (record { frame = next; outcome = o })
  all_kept told =
      let by_core : Tells base v c.plan f = subst (λ (plan : Plan). Tells base v plan f) (sym s.plan) told in
      let row : Row f.phase = told_at f.phase refl by_core in
      let after : LeftTold base w c.plan f.home (stripe_after c f.phase f) (record { frame = next; outcome = o }) = subst (λ (z : After P H). LeftTold base w c.plan f.home (stripe_after c f.phase f) (record { frame = z.frame; outcome = z.outcome })) (sym s.row.1.0.is) row in
      subst (λ (plan : Plan). LeftTold base w plan f.home (stripe_after c f.phase f) (record { frame = next; outcome = o })) s.plan after

  -- What is told of a call is kept by each of its steps, and of its answer the reason is told with the last.
  pub tells_step : Tells base v a.plan f → Tells base w a.plan next × AnswerTold base w a.plan f.home o
  tells_step told = ((all_kept told).0, (all_kept told).1)

  -- The party's home stays,
  pub home_stays : Tells base v a.plan f → next.home ≡ f.home
  home_stays told = ap (λ (of : ℕ × ℕ). of.0) (all_kept told).2

  -- and its stripe, but where it draws a key.
  pub stripe_stays : Tells base v a.plan f → (f.phase ≡ Key) ⊎ (next.stripe ≡ f.stripe)
  stripe_stays told = go f.phase refl
    where
      go : (p : Phase P H) → f.phase ≡ p → (f.phase ≡ Key) ⊎ (next.stripe ≡ f.stripe)
      go p is = ⊎_elim
          (λ (key : p ≡ Key). inl (is ∙ key))
          (λ (same : stripe_after c p f ≡ f.stripe). inr (ap (λ (of : ℕ × ℕ). of.1) (all_kept told).2 ∙ ap (λ (q : Phase P H). stripe_after c q f) is ∙ same))
          (key_or p)

nothing_counted : {T : Type 0} (v : View T) (k : ℕ) → CountsSince v v k 0 0 0
nothing_counted v k = record { added = omega arith; low = omega arith; subtracted = omega arith }

module _ {T P H : Type 0} (v : View T) (plan : Plan) where
  back_begins : (memories : List Lease) (tables : List LeasedTable) (f : Frame P H) → f.asked ≡ asked.Nothing → f.ending ≡ returned → Tells v v plan (record (returned_next memories tables f).frame { step_count = 0 })
  back_begins memories tables f nothing back = begins memories tables
    where
      going : CallGoes v v plan f
      going = subst (λ (x : Ending). IsGoing v v plan f.home f.queues x) (sym back) (record { queues = tt; none = λ q place. refl; ending = tt })

      begins : (memories : List Lease) (tables : List LeasedTable) → Tells v v plan (record (returned_next memories tables f).frame { step_count = 0 })
      begins (lease ∷ memories) tables = going
      begins [] (lease ∷ tables) = going
      begins [] [] = subst (λ (a : Asked). Tells v v plan (record (all_returned a f).frame { step_count = 0 })) (sym nothing) (subst (λ (x : Ending). IsEnding v v (IsOver v v instance_counter) ⊥ plan f.home x) (sym back) (record { none = λ q place. refl; ending = tt }))

  -- What is told of a call that begins.
  pub tells_begin : (begun : Call P H) (f : Frame P H) → Tells v v plan (begun_call begun f)
  tells_begin call.Key f = tt
  tells_begin (call.Module m) f = (nothing_counted v instance_counter, record { queues = λ j below. absurd (omega arith); none = tt; ending = tt })
  tells_begin (call.Component info) f = nothing_counted v component_counter
  tells_begin (call.Memory m) f = (λ j below. absurd (omega arith), record { queues = λ j below. absurd (omega arith); none = tt; ending = tt })
  tells_begin (call.Table ty) f = (λ j below. absurd (omega arith), record { queues = λ j below. absurd (omega arith); none = tt; ending = tt })
  tells_begin call.Stack f = record { queues = λ j below. absurd (omega arith); none = tt; ending = tt }
  tells_begin (call.Heap ty) f = record { queues = λ j below. absurd (omega arith); none = tt; ending = tt }
  tells_begin (call.HeapOver memory) f = record { queues = λ j below. absurd (omega arith); none = tt; ending = tt }
  tells_begin (call.GiveBack (Instance lease)) f = back_begins lease.memories.items lease.tables.items (record f { asked = asked.Nothing; objects = lease; ending = returned }) refl refl
  tells_begin (call.GiveBack Component) f = record { none = λ q place. refl; ending = tt }
  tells_begin (call.GiveBack (Memory lease)) f = record { queues = tt; none = λ q place. refl; ending = tt }
  tells_begin (call.GiveBack (Table lease)) f = record { queues = tt; none = λ q place. refl; ending = tt }
  tells_begin (call.GiveBack (Stack lease)) f = record { queues = tt; none = λ q place. refl; ending = tt }
  tells_begin (call.GiveBack (Heap lease memory)) f = record { queues = tt; none = λ q place. refl; ending = tt }
  tells_begin (call.GiveBack (HeapOver lease)) f = record { queues = tt; none = λ q place. refl; ending = tt }
  tells_begin (call.Purge id) f = tt
  tells_begin call.Release f = tt
