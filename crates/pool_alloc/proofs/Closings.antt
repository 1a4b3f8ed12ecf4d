-- A pool is closed: each flush of a queue keeps what holds, and in the end no slot is used.
use Rattle.std.proofs.Common.{◌≡◌, ℕ, zero, suc, ◌+◌, ◌<◌, ◌≤◌, Bool, true, false, List, [], ◌∷◌, length, refl, sym, ap, subst, ◌∙◌, arith, Option, Some, None, get_or, if◌then◌else◌, not, count_by, is_some, ◌^◌, ◌*◌}
use Rattle.pool_alloc.proofs.Imports.{All-nil, All-cons, SlotKind, UnitName, MakerTold, default_quotas, no_refusals, Queue, Queued, after_take, first_of_kind, others_of_kind, IsSpareOf, list_all, eq-eqb, sum_by-cons, mod-eq_of_lt, total, shard_units, used_units, ShardState, used_count, one_if, MemoryInModule, all_away, all_kept, part_kept, units_of_slots, part_at, IsAt, Role, shard_role, queue_role, role_at, PoolPart, memory_kind, table_kind, Plan}
use Rattle.pool_slots.specs.declared.part.PoolPart.TheVariants as part
use Rattle.pool_alloc.specs.Calls.{frame_made}
use Rattle.pool_alloc.specs.Closing.{nth_queue, AreEmptied, IsClosingAt, IsBare, IsFlushing, IsClosing, IsClosed, closing_phase, queue_taken, frame_taking, frame_closing, AreAtHome, ArePartsOf, IsGivenBack, has_free}
use Rattle.pool_alloc.specs.Leases.{Lease}
use Rattle.pool_alloc.specs.PartyTold.{PartyTold}
use Rattle.pool_alloc.specs.Places.{Thing, queued_count, phase_count, phase_instances, instances_for, kept_count, away_count, Counter, Weight, counted_instance, counted_object, only, of_units, of_counts, phase_counted, frame_counted}
use Rattle.pool_alloc.specs.StepTable.{FlushStep, run, zero as zeroes, put, free, flush_step, flush_row, put_first, row_of}
use Rattle.pool_alloc.specs.BetweenSteps.{IsCore, IsFrame, IsShared, IsQueuedOf, IsPartFor}
use Rattle.pool_alloc.specs.StepBounds.{steps_left}
use Rattle.pool_alloc.specs.Stepping.{CanStep, CanCount, StepsTo, count_granted, is_idle, grant_weight}
use Rattle.pool_alloc.specs.StepReads.{StepGiven, first_shard, queue_at, with_queue, stacks_wanted, heaps_wanted, IsQueuePart, queue_in, shard_in, shard_at, queues_searched, singles_wanted}
use Rattle.pool_alloc.specs.TableLeases.{LeasedTable}
use Rattle.pool_alloc.specs.Turns.{Left, Row, After, flush, all_returned, returned_next, next_by, is_flushed, after, stepped, gone_to, is_granting}
use Rattle.pool_alloc.specs.PoolAndHolders.{Holding, HasSlots, held_by, IsUntouched}
use Rattle.pool_alloc.specs.declared.pool_core.PoolCore.{PoolCore}
use Rattle.pool_alloc.specs.declared.pool_core.Settings.{Settings}
use Rattle.pool_alloc.specs.declared.frame.Asked.{Asked}
use Rattle.pool_alloc.specs.declared.frame.Asked.TheVariants.{Nothing as nothing_asked, Module as module_asked, Memory as memory_asked, Table as table_asked, Stack as stack_asked, Heap as heap_asked, HeapOver as heap_over_asked}
use Rattle.pool_alloc.specs.declared.frame.Ending.{Ending}
use Rattle.pool_alloc.specs.declared.frame.Ending.TheVariants.{Granted as granted, Returned as returned, Refused as refused}
use Rattle.pool_alloc.specs.declared.frame.Frame.{Frame}
use Rattle.pool_alloc.specs.declared.frame.FreedSlot.{FreedSlot}
use Rattle.pool_alloc.specs.declared.frame.Grant.{Grant}
use Rattle.pool_alloc.specs.declared.frame.Phase.{Phase}
use Rattle.pool_alloc.specs.declared.frame.Phase.TheVariants.{Idle, Flush, UncountInstance}
use Rattle.pool_alloc.proofs.SumsBelow.{queued_cells}
use Rattle.pool_alloc.proofs.BegunFrames.{at_rest, made_frame, idle_nothing, idle_weight, made_weight}
use Rattle.pool_alloc.proofs.CoreChanges.{core_with_queue, core_with_counters}
use Rattle.pool_alloc.proofs.FlushFinds.{Finds, finds, none_waits}
use Rattle.pool_alloc.proofs.BeforeTheTurn.{in_phase, Held, held_of, frame_of, flushed, none_counted, only_one}
use Rattle.pool_alloc.proofs.KeptCounts.{kept_queue, away_queue, shard_away}
use Rattle.pool_alloc.proofs.LocalQueues.{taken_shared, taken_local, local_of_shared}
use Rattle.pool_alloc.proofs.PlanPlaces.{IsQueuePlace, apart_places, queue_no_cell, tried_is_queue, queue_of_role, queue_tried_at, queues_all}
use Rattle.pool_alloc.proofs.PoolParts.{sound_queue, queue_part}
use Rattle.pool_alloc.proofs.ReturnRows.{first_freed, first_of_all}
use Rattle.pool_alloc.proofs.Searches.{still_empty, taken_empty}
use Rattle.pool_alloc.proofs.PhaseFacts.{first_can_be_put, first_can_be_freed, local_is_spare}
use Rattle.pool_alloc.proofs.StepNeeds.{step_ok, can_still, step_fewer, can_try_queue}
use Rattle.pool_alloc.proofs.PoolAndHolders.{whole_fits, call_has_slots}
use Rattle.pool_alloc.specs.CanStep.{CanTryQueue}
use Rattle.pool_alloc.proofs.MadePools.{none_of_all}
use Rattle.pool_alloc.proofs.SharedByRows.{aims_back}
use Rattle.pool_alloc.proofs.Weights.{no_total, frame_counts}

-- a test that each of a list passes
all_of : {X : Type 0} (test : X → Bool) (xs : List X) (d : X) → ((k : ℕ) → k < length xs → test (get_or xs k d) ≡ true) → list_all test xs ≡ true
all_of test [] d each = refl
all_of test (x ∷ xs) d each = let here : test x ≡ true = each zero (omega arith) in rw here (all_of test xs d (λ k below. each (suc k) (omega (arith, below))))

-- how many units the used slots of a shard have
used_number : (kind : SlotKind) (step n : ℕ) (used : List (Option (Option MemoryInModule))) → total (λ u. 1) (used_units kind step n used) ≡ count_by is_some used
used_number kind step n [] = refl
used_number kind step n (None ∷ used) = omega (arith, used_number kind step (n + step) used, sum_by-cons (λ (x : Option (Option MemoryInModule)). one_if (is_some x)) None used)
used_number kind step n (Some want ∷ used) = omega (arith, used_number kind step (n + step) used, sum_by-cons (λ (x : Option (Option MemoryInModule)). one_if (is_some x)) (Some want) used)

-- units of which there are none
none_by_number : (us : List UnitName) → total (λ u. 1) us ≡ 0 → us ≡ []
none_by_number [] none = refl
none_by_number (u ∷ us) none = absurd (omega (arith, none))

-- a limiter and a maker of heaps that tell nothing, for steps that ask none
abbrev pub nobody : PartyTold
nobody = record { limiter = record { rule = None; quotas = default_quotas; counts = no_refusals }; heaps = record { plan = None; made = 0; faults = 0 } }

-- nothing more
abbrev nothing : Holding
nothing w = 0

-- the phases that it begins with
closing_counts : (P H : Type 0) (w : Weight) (b : Bool) → phase_count {P = P} {H = H} w.unit (closing_phase b) + phase_counted {P = P} {H = H} w.counts (closing_phase b) + phase_instances {P = P} {H = H} (closing_phase b) * w.counts counted_instance ≡ w.counts counted_instance
closing_counts P H w true = omega arith
closing_counts P H w false = omega arith

closing_at : (P H : Type 0) (b : Bool) → IsClosingAt {P = P} {H = H} (closing_phase b)
closing_at P H true = tt
closing_at P H false = tt

-- What a step leaves of a frame that only flushes.
module _ {P H : Type 0} where
  record Leaves (l : Left P H) : Type 0 where
    flushing : IsFlushing l.frame
    nothing : (of : Grant P H → ℕ) → count_granted of l.outcome ≡ 0

  abbrev Bare : Frame P H → Type 0
  Bare f = IsBare f.asked f.ending f.objects

  either_leaves : (b : Bool) (x y : Left P H) → Leaves x → Leaves y → Leaves (if b then x else y)
  either_leaves true x y one other = one
  either_leaves false x y one other = other

  all_leaves : (asked : Asked) (f : Frame P H) → asked ≡ nothing_asked → Bare f → Leaves (all_returned asked f)
  all_leaves nothing_asked f none bare = record { flushing = (tt, bare); nothing = λ of. refl }
  all_leaves (module_asked m) f none bare = record { flushing = (tt, bare); nothing = λ of. refl }
  all_leaves (memory_asked m) f none bare = absurd cc
  all_leaves (table_asked ty) f none bare = absurd cc
  all_leaves stack_asked f none bare = absurd cc
  all_leaves (heap_asked ty) f none bare = absurd cc
  all_leaves (heap_over_asked memory) f none bare = absurd cc

  back_leaves : (memories : List Lease) (tables : List LeasedTable) (f : Frame P H) → memories ≡ [] → tables ≡ [] → Bare f → Leaves (returned_next memories tables f)
  back_leaves [] [] f none none_more bare = all_leaves f.asked f bare.asked bare
  back_leaves (lease ∷ rest) tables f none none_more bare = absurd cc
  back_leaves [] (lease ∷ rest) f none none_more bare = absurd cc

  next_leaves : (e : Ending) (f : Frame P H) → e ≡ returned → Bare f → Leaves (next_by e f)
  next_leaves granted f is bare = absurd cc
  next_leaves returned f is bare = back_leaves f.objects.memories.items f.objects.tables.items f bare.no_memories bare.no_tables bare
  next_leaves (refused x) f is bare = absurd cc

  after_flush : (f : Frame P H) → Bare f → Leaves (after f flush)
  after_flush f bare = either_leaves (is_flushed f) _ _ (next_leaves f.ending f bare.ending bare) (record { flushing = (tt, bare); nothing = λ of. refl })

  put_leaves : (o : Option Queued) (rest : List Queued) (c : PoolCore P H) (f : Frame P H) → Bare f → Leaves (after (put_first o rest c f).frame (put_first o rest c f).turn)
  put_leaves None rest c f bare = record { flushing = (tt, bare); nothing = λ of. refl }
  put_leaves (Some m) rest c f bare = after_flush (put_first (Some m) rest c f).frame bare

  flush_leaves : (step : FlushStep) (queue : Queue) (c : PoolCore P H) (f : Frame P H) → Bare f → Leaves (after (flush_row step queue c f).frame (flush_row step queue c f).turn)
  flush_leaves run queue c f bare = after_flush (flush_row run queue c f).frame bare
  flush_leaves (zeroes kind) queue c f bare = after_flush (flush_row (zeroes kind) queue c f).frame bare
  flush_leaves (put kind) queue c f bare = put_leaves (first_of_kind kind f.local.slots) (others_of_kind kind f.local.slots) c f bare
  flush_leaves free queue c f bare = after_flush (flush_row free queue c f).frame bare

  row_leaves : (g : StepGiven H) (p : Phase P H) (c : PoolCore P H) (f : Frame P H) → IsClosingAt p → is_idle p ≡ false → Bare f → Leaves (after (row_of g p c (in_phase Idle f)).frame (row_of g p c (in_phase Idle f)).turn)
  row_leaves g Idle c f closing on bare = absurd cc
  row_leaves g Flush c f closing on bare = flush_leaves (flush_step f.local f.freed.items) g.queue c (in_phase Idle f) bare
  row_leaves g UncountInstance c f closing on bare = record {
    flushing = (tt, record { asked = refl; ending = refl; no_memories = bare.no_memories; no_tables = bare.no_tables });
    nothing = λ of. none_counted of f.ending;
  }
  row_leaves g p c f closing on bare = absurd closing

  -- whether a call is under way, by its phase
  pub not_idle : (p : Phase P H) → not (is_idle p) ≡ true → is_idle p ≡ false
  not_idle Idle on = absurd cc
  not_idle p on = refl

  pub is_over : (p : Phase P H) → not (is_idle p) ≡ false → p ≡ Idle
  is_over Idle on = refl
  is_over p on = absurd cc

  -- a frame that only flushes has counted no more than an instance
  few_counted : (k : Counter) (p : Phase P H) → IsClosingAt p → phase_counted (only k) p + phase_instances p * 1 * only k counted_instance ≤ 1
  few_counted k Idle closing = omega arith
  few_counted k Flush closing = omega (arith, only_one k counted_instance)
  few_counted k UncountInstance closing = omega (arith, only_one k counted_instance)
  few_counted k p closing = absurd closing

  bare_counted : (k : Counter) (f : Frame P H) → IsFlushing f → frame_counted (only k) f ≤ 1
  bare_counted k f flushing = omega (
    arith,
    few_counted k f.phase flushing.0,
    ap (λ (a : Asked). phase_instances f.phase * instances_for a * only k counted_instance) flushing.1.asked,
    ap (λ (l : List Lease). length l * only k (counted_object memory_kind)) flushing.1.no_memories,
    ap (λ (l : List LeasedTable). length l * only k (counted_object table_kind)) flushing.1.no_tables,
  )

-- Nobody has anything of a pool as it is made.
pub made_is_back : {P H : Type 0} (c : PoolCore P H) → IsUntouched c → IsGivenBack c
made_is_back c is = λ w. omega (arith, ap (total w.unit) is.none_kept, ap (total w.unit) is.none_away, is.counted w.counts)

-- What it keeps.
module _ {P H : Type 0} (maker : MakerTold) where
  -- queues that are empty stay empty
  put_keeps : (n : ℕ) (kind : SlotKind) (o : Option Queued) (c : PoolCore P H) (f : Frame P H) → CanStep maker c (in_phase Flush f) → first_of_kind kind f.local.slots ≡ o → AreEmptied n c → AreEmptied n (put_first o (others_of_kind kind f.local.slots) c (in_phase Idle f)).part
  put_keeps n kind None c f can is emptied = emptied
  put_keeps n kind (Some m) c f can is emptied =
      let queued = first_of_all (IsQueuedOf maker c.settings) kind m f.local.slots is can.frame.queue.regions in
      let named = (first_can_be_put maker c f kind m can.core can.fits (queued_cells maker c.settings m queued) is).named in
      still_empty n _ _ c (frame_made 0 c.settings) can.core.plan (λ q queue. queue_no_cell c.plan (length c.parts) q m.name can.core.plan named queue) emptied

  flush_keeps : (n : ℕ) (step : FlushStep) (queue : Queue) (c : PoolCore P H) (f : Frame P H) → CanStep maker c (in_phase Flush f) → Finds step f.local f.freed.items → AreEmptied n c → AreEmptied n (flush_row step queue c (in_phase Idle f)).part
  flush_keeps n run queue c f can found emptied = emptied
  flush_keeps n (zeroes kind) queue c f can found emptied = emptied
  flush_keeps n (put kind) queue c f can found emptied = put_keeps n kind (first_of_kind kind f.local.slots) c f can refl emptied
  flush_keeps n free queue c f can found emptied =
      let first = first_can_be_freed maker c f can (first_freed maker c f can found.1).some in
      still_empty n _ _ c (frame_made 0 c.settings) can.core.plan (λ q at e. apart_places c.plan (first_shard c.plan f.freed.items) q first.shard at (sym e)) emptied

  row_keeps : (n : ℕ) (g : StepGiven H) (p : Phase P H) (c : PoolCore P H) (f : Frame P H) → IsClosingAt p → CanStep maker c (in_phase p f) → AreEmptied n c → AreEmptied n (row_of g p c (in_phase Idle f)).part
  row_keeps n g Idle c f closing can emptied = emptied
  row_keeps n g Flush c f closing can emptied = flush_keeps n (flush_step f.local f.freed.items) g.queue c f can (finds f.local f.freed.items) emptied
  row_keeps n g UncountInstance c f closing can emptied = emptied
  row_keeps n g p c f closing can emptied = absurd closing

  -- A frame that has all may step.
  pub can_close : (n : ℕ) (c : PoolCore P H) (f : Frame P H) → IsClosing maker n c f → CanStep maker c f
  can_close n c f is = record {
    core = is.core;
    frame = is.frame;
    fits = whole_fits c f (held_by f ∷ []) 0 (held_by f) nothing is.whole (All-cons HasSlots (held_by f) [] (call_has_slots f) (All-nil HasSlots)) (omega arith)
        (λ w. omega arith)
        (λ name. omega arith);
  }

  -- A step keeps what holds.
  closing_row : (n : ℕ) (old new : PartyTold) (g : StepGiven H) (p : Phase P H) (c : PoolCore P H) (f : Frame P H) (a : After P H) → f.phase ≡ p → is_idle p ≡ false → IsClosing maker n c f → CanStep maker c f → StepsTo old new c f a → a ≡ stepped (row_of g p c (in_phase Idle f)) → IsClosing maker n a.core a.frame
  closing_row n old new g p c f a at on is can steps by =
      let r : Row (PoolCore P H) P H = row_of g p c (in_phase Idle f) in
      let C : Phase P H → Type 0 = IsClosingAt in
      let closing : IsClosingAt p = subst C at is.flushing.0 in
      let S : Phase P H → Type 0 = λ q. CanStep maker c (in_phase q f) in
      let leaves : Leaves (after r.frame r.turn) = row_leaves g p c f closing on is.flushing.1 in
      let L : After P H → Type 0 = λ b. IsFlushing b.frame × ((of : Grant P H → ℕ) → count_granted of b.outcome ≡ 0) in
      let E : After P H → Type 0 = λ b. AreEmptied n b.core in
      let left : L a = subst L (sym by) (leaves.flushing, leaves.nothing) in
      let ok = step_ok maker old new c f a can steps in
      let still = can_still maker old new c f a can steps in
      record {
        core = still.core;
        frame = still.frame;
        flushing = left.0;
        whole = λ w. omega (arith, is.whole w, ok.conserves w, left.1 (grant_weight w));
        emptied = subst E (sym by) (row_keeps n g p c f closing (subst S at can) is.emptied);
      }

  pub closing_step : (n : ℕ) (old new : PartyTold) (c : PoolCore P H) (f : Frame P H) (a : After P H) → is_idle f.phase ≡ false → IsClosing maker n c f → StepsTo old new c f a → IsClosing maker n a.core a.frame
  closing_step n old new c f a on is steps = closing_row n old new steps.0 f.phase c f a refl on is (can_close n c f is) steps steps.1.is

  pub closing_fewer : (n : ℕ) (old new : PartyTold) (c : PoolCore P H) (f : Frame P H) (a : After P H) → is_idle f.phase ≡ false → IsClosing maker n c f → StepsTo old new c f a → steps_left a.core a.frame + 1 ≤ steps_left c f
  closing_fewer n old new c f a on is steps = step_fewer maker old new c f a (can_close n c f is) steps on

  pub closing_plan : (n : ℕ) (old new : PartyTold) (c : PoolCore P H) (f : Frame P H) (a : After P H) → is_idle f.phase ≡ false → IsClosing maker n c f → StepsTo old new c f a → a.core.plan ≡ c.plan
  closing_plan n old new c f a on is steps = (step_ok maker old new c f a (can_close n c f is) steps).plan

  pub closing_settings : (n : ℕ) (old new : PartyTold) (c : PoolCore P H) (f : Frame P H) (a : After P H) → is_idle f.phase ≡ false → IsClosing maker n c f → StepsTo old new c f a → a.core.settings ≡ c.settings
  closing_settings n old new c f a on is steps = (step_ok maker old new c f a (can_close n c f is) steps).settings

  pub closing_counts_on : (n : ℕ) (c : PoolCore P H) (f : Frame P H) → IsClosing maker n c f → CanCount c
  closing_counts_on n c f is = λ k. omega (arith, is.whole (of_counts (only k)), bare_counted k f is.flushing, frame_counts (only k) f, no_total (all_kept c.parts))

  -- A queue is taken to be flushed.
  closing_frame : (c : PoolCore P H) (f : Frame P H) (b : Bool) → is_flushed f ≡ b → Held maker c.settings c.plan f → Bare f → IsFrame maker c.settings c.plan (gone_to (closing_phase b) f)
  closing_frame c f true is held bare =
      frame_of maker c.settings c.plan (gone_to UncountInstance f) held (record { settled = flushed maker c.settings c.plan f held is; no_memories = bare.no_memories; no_tables = bare.no_tables }, ap is_granting bare.ending, record { no_stack = ap stacks_wanted bare.asked; no_heap = ap heaps_wanted bare.asked; no_single = ap singles_wanted bare.asked })
  closing_frame c f false is held bare =
      frame_of maker c.settings c.plan (gone_to Flush f) held (aims_back c.settings c.plan f.ending f.asked f.queues f.objects (ap is_granting bare.ending), is)

  place_is : (n : ℕ) (c : PoolCore P H) → IsCore maker c → IsQueuePlace c.plan (nth_queue n c)
  place_is n c core = tried_is_queue n c.plan (length c.parts) (frame_made {P = P} {H = H} 0 c.settings) core.plan

  pub begun_closing : (n : ℕ) (c : PoolCore P H) (f : Frame P H) → IsClosed maker n c f → IsClosing maker (n + 1) (queue_taken (nth_queue n c) c) (frame_closing (queue_at (nth_queue n c) c) f)
  begun_closing n c f closed =
      let is = closed.0 in
      let i : ℕ = nth_queue n c in
      let q : Queue = queue_at i c in
      let below : IsQueuePlace c.plan i = place_is n c is.core in
      let shared : IsShared maker c.settings q = sound_queue maker i c is.core below in
      let rest = at_rest maker c.settings c.plan f is.frame closed.1 in
      let none : f.objects.memories.items ≡ [] = rest.no_memories in
      let none_more : f.objects.tables.items ≡ [] = rest.no_tables in
      let held : Held maker c.settings c.plan f = held_of maker c.settings c.plan f is.frame in
      let g : Frame P H = frame_taking q f in
      let d : PoolCore P H = with_queue i (after_take q) c in
      let had : Held maker c.settings c.plan g = record {
        stripe = held.stripe;
        queue = taken_local maker c.settings f.local q held.queue (local_of_shared maker c.settings q shared);
        freed_room = (held.freed_room.0, omega (arith, shared.slots, shared.short, ap (length {A = FreedSlot}) rest.settled.none_freed));
        freed_each = held.freed_each;
        freed_order = none_waits f.freed.items rest.settled.none_freed;
        objects = held.objects;
      } in
      let bare : Bare g = record { asked = refl; ending = refl; no_memories = none; no_tables = none_more } in
      let there = queue_part maker i c is.core below in
      record {
        core = core_with_counters maker (record d.counters { core_instances = d.counters.core_instances + 1 }) d (core_with_queue maker i (after_take q) c is.core below (taken_shared maker c.settings q is.core.settings shared.range_room shared.slot_room));
        frame = closing_frame c g (is_flushed g) refl had bare;
        flushing = (closing_at P H (is_flushed g), bare);
        whole = λ w. omega (
          arith,
          is.whole w,
          kept_queue w.unit i (after_take q) c there,
          away_queue w.unit i (after_take q) c there,
          closing_counts P H w (is_flushed g),
          idle_nothing w f closed.1,
          ap (queued_count w.unit) rest.settled.no_slots,
        );
        emptied = taken_empty maker n (after_take q) c (frame_made 0 c.settings) is.core refl is.emptied;
      }

  -- Once all queues are flushed nothing is given out.
  closed_kept : (c : PoolCore P H) → IsCore maker c → AreEmptied (queues_searched c.plan) c → (p : ℕ) → p < length c.parts → part_kept (part_at p c.parts) ≡ []
  closed_kept c core emptied p below = kept_by (role_at c.plan p) (part_at p c.parts) refl refl (core.parts p below)
    where
      kept_by : (r : Role) (x : PoolPart P H) → role_at c.plan p ≡ r → part_at p c.parts ≡ x → IsPartFor maker c.settings r x → part_kept x ≡ []
      kept_by r (part.Shard s) role at is = refl
      kept_by r (part.Memory cell) role at is = refl
      kept_by r (part.Table cell) role at is = refl
      kept_by r (part.Stack cell) role at is = refl
      kept_by r (part.Heaps heaps) role at is = refl
      kept_by queue_role (part.Queue q) role at is =
          let found = queue_of_role c.plan (length c.parts) p core.plan role in
          let i : ℕ = found.0 in
          let home : nth_queue i c ≡ p = queue_tried_at c.plan i (frame_made {P = P} {H = H} 0 c.settings) ∙ ap (λ (m : ℕ). c.plan.first_queue + m) (mod-eq_of_lt (let low : 0 + i < c.plan.queues = omega (arith, found.1) in low)) ∙ omega (arith, found.2) in
          let S : ℕ → Type 0 = λ m. (queue_at m c).slots ≡ [] in
          let none : (queue_at p c).slots ≡ [] = subst S home (emptied i (omega (arith, found.1, queues_all c.plan))) in
          let Q : PoolPart P H → Type 0 = λ y. (queue_in y).slots ≡ [] in
          ap units_of_slots (subst Q at none)
      kept_by r (part.Queue q) role at is = absurd is

  all_empty : (c : PoolCore P H) {f : Frame P H} → IsClosing maker (queues_searched c.plan) c f → all_kept c.parts ≡ []
  all_empty c is = none_of_all part_kept all_kept refl (λ x xs. refl) c.parts (closed_kept c is.core is.emptied)

  nothing_out : (t : Thing) (c : PoolCore P H) (f : Frame P H) → IsClosed maker (queues_searched c.plan) c f → away_count t c ≡ 0
  nothing_out t c f closed =
      let is = closed.0 in
      let rest = at_rest maker c.settings c.plan f is.frame closed.1 in
      let kept : kept_count t c ≡ 0 = ap (total t) (all_empty c is) in
      omega (arith, is.whole (of_units t), kept, idle_weight (of_units t) f closed.1 rest)

  -- So no slot is used.
  closed_free : (c : PoolCore P H) → IsCore maker c → ((t : Thing) → away_count t c ≡ 0) → (p : ℕ) → p < length c.parts → has_free (part_at p c.parts) ≡ true
  closed_free c core none p below = free_by (role_at c.plan p) (part_at p c.parts) refl refl (core.parts p below)
    where
      free_by : (r : Role) (x : PoolPart P H) → role_at c.plan p ≡ r → part_at p c.parts ≡ x → IsPartFor maker c.settings r x → has_free x ≡ true
      free_by (shard_role a j) (part.Shard s) role at is =
          let there : shard_at p c ≡ s = ap shard_in at in
          let few : total (λ u. 1) (shard_units (shard_at p c)) ≤ away_count (λ u. 1) c = shard_away maker (λ u. 1) p c core (record { allocator = a; index = j; role = role }) in
          eq-eqb (used_count s) 0 (omega (arith, few, none (λ u. 1), used_number s.kind s.step s.first s.used, ap (λ (y : ShardState). total (λ u. 1) (shard_units y)) there))
      free_by r (part.Shard s) role at is = absurd is
      free_by r (part.Memory cell) role at is = refl
      free_by r (part.Table cell) role at is = refl
      free_by r (part.Stack cell) role at is = refl
      free_by r (part.Queue q) role at is = refl
      free_by r (part.Heaps heaps) role at is = refl

  pub closed_at_home : (c : PoolCore P H) (f : Frame P H) → IsClosed maker (queues_searched c.plan) c f → AreAtHome c.parts
  closed_at_home c f closed = record {
    free = all_of has_free c.parts _ (closed_free c closed.0.core (λ t. nothing_out t c f closed));
    none_away = none_by_number (all_away c.parts) (nothing_out (λ u. 1) c f closed);
    none_kept = all_empty c closed.0;
  }

  -- What is sound has all parts of the pool.
  pub parts_of : (s : Settings) (plan : Plan) (c : PoolCore P H) → IsCore maker c → c.settings ≡ s → c.plan ≡ plan → ArePartsOf maker s plan c.parts
  parts_of s plan c core same planned =
      let S : Settings → Type 0 = λ x. ArePartsOf maker x plan c.parts in
      let Q : Plan → Type 0 = λ x. ArePartsOf maker c.settings x c.parts in
      subst S same (subst Q planned (record { plan = core.plan; each = core.parts }))

  -- The pool is to be closed in a frame as it is made.
  pub closing_made : (c : PoolCore P H) → IsCore maker c → IsGivenBack c → IsClosed maker 0 c (frame_made 0 c.settings)
  closing_made c core back = (
    record {
      core = core;
      frame = made_frame maker 0 c core;
      flushing = (tt, record { asked = refl; ending = refl; no_memories = refl; no_tables = refl });
      whole = λ w. omega (arith, back w, made_weight P H w 0 c.settings);
      emptied = λ j below. absurd (omega (arith, below));
    },
    refl,
  )

  -- the same where as many are flushed as this says
  pub closed_by : (n : ℕ) (c : PoolCore P H) (f : Frame P H) → n ≡ queues_searched c.plan → IsClosed maker n c f → IsClosed maker (queues_searched c.plan) c f
  closed_by n c f is closed = subst (λ (m : ℕ). IsClosed maker m c f) is closed

  -- What the code of the first step needs.
  pub can_take : (n : ℕ) (c : PoolCore P H) (f : Frame P H) → IsClosed maker n c f → CanTryQueue c.plan × IsAt IsQueuePart (nth_queue n c) c.parts × IsSpareOf (queue_at (nth_queue n c) c) f.local × (c.counters.core_instances + 1 < 2 ^ 64)
  can_take n c f closed =
      let is = closed.0 in
      let rest = at_rest maker c.settings c.plan f is.frame closed.1 in
      let below : IsQueuePlace c.plan (nth_queue n c) = place_is n c is.core in (
        can_try_queue maker c is.core,
        queue_part maker (nth_queue n c) c is.core below,
        local_is_spare maker (nth_queue n c) c f is.core is.frame below rest.settled.no_ranges rest.settled.no_slots,
        omega (arith, closing_counts_on n c f is counted_instance),
      )

  -- and so it is where its spare frame was taken
  pub closing_taken : (c : PoolCore P H) → IsCore maker c → IsGivenBack c → IsClosed maker 0 (record c { spare = None }) (frame_made 0 c.settings)
  closing_taken c core back =
      closing_made (record c { spare = None }) (record { settings = core.settings; page = core.page; plan = core.plan; parts = core.parts; stripes = core.stripes }) back
