-- A party's frame as it is made, and as a call begins in it.
use Rattle.std.proofs.Common.{◌≡◌, ℕ, ◌+◌, ◌≤◌, false, List, [], ◌∷◌, length, refl, subst, ap, ◌∙◌, arith, ◌*◌, ◌-◌, inl, Bool, true, ◌<◌, nat_lt, None, IfSome, slice_get, slice_index_or, zero, suc, sym}
use Rattle.pool_alloc.proofs.Imports.{Plan, All-nil, All-head, All-tail, MakerTold, ltb-true, and_parts, CompiledModuleId, TableType, memory_kind, table_kind, refused_limits}
use Rattle.pool_alloc.specs.StepBounds.{PoolSizes, return_bound, give_back_bound, returns_left, allocation_bound, flush_bound, bound_of, sizes_of, steps_at, steps_left, purge_left, purge_bound}
use Rattle.pool_alloc.specs.Leases.{Lease}
use Rattle.pool_alloc.specs.PoolTables.{IsTableLease}
use Rattle.pool_alloc.specs.TableLeases.{LeasedTable}
use Rattle.pool_alloc.specs.Places.{leased_count, tables_count, queued_count, freed_count, phase_count, phase_instances, frame_instances, instances_for, Weight, counted_instance, counted_object, instance_counted, phase_counted, frame_weight, instance_count}
use Rattle.pool_alloc.specs.BetweenSteps.{NothingWaits, IsCore, IsFrame, IsLeaseOf, IsQueuedOf, MayBeRanged, IsAtRest, IsShapedAt, IsSupported, AreLimited, AreBegun}
use Rattle.pool_alloc.specs.Stepping.{IsSameSize, grant_weight}
use Rattle.pool_alloc.specs.Calls.{frame_made, IsIdle, MayBegin, begun_call}
use Rattle.pool_alloc.specs.Turns.{is_granting, returned_next}
use Rattle.pool_alloc.specs.declared.pool_core.PoolCore.{PoolCore}
use Rattle.pool_alloc.specs.declared.pool_core.Settings.{Settings}
use Rattle.pool_alloc.specs.declared.frame.Ending.TheVariants.{Returned as returned}
use Rattle.pool_alloc.specs.Objects.{objects_in}
use Rattle.pool_alloc.specs.declared.frame.Asked.TheVariants.{Nothing as nothing_asked, Memory as memory_asked, Table as table_asked}
use Rattle.pool_alloc.specs.declared.frame.Frame.{Frame}
use Rattle.pool_alloc.specs.declared.frame.Phase.{Phase}
use Rattle.pool_alloc.specs.declared.frame.Phase.TheVariants.{Key}
use Rattle.pool_alloc.specs.declared.frame.Grant.{Grant}
use Rattle.pool_alloc.specs.declared.frame.Grant.TheVariants.{Instance, Memory, Table, Stack, Component, Heap, HeapOver}
use Rattle.pool_alloc.specs.declared.frame.Call.{Call}
use Rattle.pool_alloc.specs.declared.frame.Call.TheVariants as call
use Rattle.pool_alloc.proofs.BeforeTheTurn.{Held, held_of, frame_of, one_more, none_weighs}
use Rattle.pool_alloc.proofs.FlushFinds.{none_waits}
use Rattle.pool_alloc.proofs.QueueCounts.{leased_first, tables_first}
use Rattle.pool_alloc.specs.PlainModules.{MemoryAsked}
use Rattle.pool_alloc.specs.StepReads.{allocator_of, kind_by, plain_decl}
use Rattle.pool_alloc.specs.Purges.{has_turns, purge_begun}
use Rattle.pool_alloc.specs.declared.purge.PurgeStep.TheVariants as purging_step
use Rattle.pool_alloc.proofs.PurgeBounds.{picks_of, purge_begins}
use Rattle.pool_alloc.specs.declared.leases.instance.InstanceLease.{InstanceLease}

-- The frame as made has nothing.
pub made_weight : (P H : Type 0) (w : Weight) (home : ℕ) (s : Settings) → frame_weight {P = P} {H = H} w (frame_made home s) ≡ 0
made_weight P H w home s = omega arith

-- one memory that is supported is all that a call for it wants, and one table
one_supported : (s : Settings) (m : MemoryAsked) → IsSupported s (plain_decl m.ty) m.image → (k : ℕ) → IfSome (slice_get (plain_decl m.ty ∷ []) k) (λ decl. IsSupported s decl (slice_index_or (m.image ∷ []) k None))
one_supported s m is zero = is
one_supported s m is (suc k) = tt

one_limited : (ty : TableType) → refused_limits ty.limits ≡ None → AreLimited (ty ∷ [])
one_limited ty is zero = is
one_limited ty is (suc k) = tt

-- nothing is left of what a call was granted that was granted nothing
none_bounded : {P : Type 0} (z : PoolSizes) (objects : InstanceLease P) → objects.memories.items ≡ [] → objects.tables.items ≡ [] → give_back_bound z + returns_left z objects ≤ return_bound z 1
none_bounded z objects no_memories no_tables =
    let none : objects_in objects ≡ 0 = omega (arith, ap (length {A = Lease}) no_memories, ap (length {A = LeasedTable}) no_tables) in
    let no : objects_in objects * give_back_bound z ≡ 0 * give_back_bound z = ap (λ (n : ℕ). n * give_back_bound z) none in
    omega (arith, no)

single_bounded : {P : Type 0} (z : PoolSizes) (objects : InstanceLease P) → objects.memories.items ≡ [] → objects.tables.items ≡ [] → (z.shards - 0) + ((z.queues - 0) * (flush_bound z + z.shards) + (6 + returns_left z objects)) ≤ allocation_bound z
single_bounded z objects no_memories no_tables =
    let all : z.queues - 0 ≡ z.queues = omega arith in
    omega (arith, none_bounded z objects no_memories no_tables, ap (λ (n : ℕ). n * (flush_bound z + z.shards)) all)

module _ {P H : Type 0} where
  -- The frame as made is sound over a pool whose parts are.
  pub made_frame : (maker : MakerTold) (home : ℕ) (c : PoolCore P H) → IsCore maker c → IsFrame {P = P} {H = H} maker c.settings c.plan (frame_made home c.settings)
  made_frame maker home c core =
      record {
        stripe = core.plan.stripes;
        queue = record {
          owners = tt;
          range_room = refl;
          slot_room = refl;
          regions = All-nil (IsQueuedOf maker c.settings);
          ranged = All-nil (MayBeRanged c.settings);
          queue = record { range_room = omega arith; slot_room = omega arith; distinct = tt; each = tt };
          grouped = omega arith;
        };
        freed_room = (refl, omega arith);
        freed_each = All-nil _;
        freed_order = none_waits [] refl;
        objects = (All-nil (IsLeaseOf maker c.settings c.plan), All-nil (IsTableLease maker c.settings c.plan));
        shape = record { settled = record { no_ranges = refl; no_slots = refl; none_freed = refl }; no_memories = refl; no_tables = refl };
      }

  -- what a call brings along
  abbrev pub call_has : (Grant P H → ℕ) → Call P H → ℕ
  call_has of call.Key = 0
  call_has of (call.Module m) = 0
  call_has of (call.Memory m) = 0
  call_has of (call.Table ty) = 0
  call_has of call.Stack = 0
  call_has of (call.Heap ty) = 0
  call_has of (call.HeapOver memory) = 0
  call_has of (call.Component info) = 0
  call_has of (call.GiveBack grant) = of grant
  call_has of (call.Purge id) = 0
  call_has of call.Release = 0

  -- between calls the frame has nothing
  pub at_rest : (maker : MakerTold) (s : Settings) (plan : Plan) (f : Frame P H) → IsFrame maker s plan f → IsIdle f → IsAtRest f
  at_rest maker s plan f frame idle = let S : Phase P H → Type 0 = λ p. IsShapedAt maker s plan p f in subst S idle frame.shape

  pub idle_of : (maker : MakerTold) (s : Settings) (plan : Plan) (asks : Call P H) (f : Frame P H) → MayBegin maker s plan asks f → IsIdle f
  idle_of maker s plan call.Key f may = may
  idle_of maker s plan (call.Module m) f may = may.0
  idle_of maker s plan (call.Memory m) f may = may.0
  idle_of maker s plan (call.Table ty) f may = may.0
  idle_of maker s plan call.Stack f may = may
  idle_of maker s plan (call.Heap ty) f may = may.0
  idle_of maker s plan (call.HeapOver memory) f may = may
  idle_of maker s plan (call.Component info) f may = may
  idle_of maker s plan (call.GiveBack grant) f may = may.0
  idle_of maker s plan (call.Purge id) f may = may
  idle_of maker s plan call.Release f may = may

  -- a frame that gives these back
  abbrev giving : List Lease → List LeasedTable → Frame P H → Frame P H
  giving leases tables f = record f { asked = nothing_asked; objects = record { memories = record f.objects.memories { items = leases }; tables = record f.objects.tables { items = tables } } }

  begun_back : (maker : MakerTold) (leases : List Lease) (tables : List LeasedTable) (s : Settings) (plan : Plan) (f : Frame P H) → Held maker s plan (giving leases tables f) → NothingWaits f.local f.freed → is_granting f.ending ≡ false → IsFrame maker s plan (record (returned_next leases tables (giving leases tables f)).frame { step_count = 0 })
  begun_back maker [] [] s plan f held rest is = frame_of maker s plan (record (returned_next [] [] (giving [] [] f)).frame { step_count = 0 }) held (record { settled = rest; no_memories = refl; no_tables = refl }, is, record { no_stack = refl; no_heap = refl; no_single = refl })
  begun_back maker (lease ∷ leases) tables s plan f held rest is =
      frame_of maker s plan (record (returned_next (lease ∷ leases) tables (giving (lease ∷ leases) tables f)).frame { step_count = 0 })
      (record { stripe = held.stripe; queue = held.queue; freed_room = held.freed_room; freed_each = held.freed_each; freed_order = held.freed_order; objects = (All-tail (IsLeaseOf maker s plan) lease leases held.objects.0, held.objects.1) })
      (rest, is, All-head (IsLeaseOf maker s plan) lease leases held.objects.0)
  begun_back maker [] (lease ∷ tables) s plan f held rest is =
      frame_of maker s plan (record (returned_next [] (lease ∷ tables) (giving [] (lease ∷ tables) f)).frame { step_count = 0 })
      (record { stripe = held.stripe; queue = held.queue; freed_room = held.freed_room; freed_each = held.freed_each; freed_order = held.freed_order; objects = (held.objects.0, All-tail (IsTableLease maker s plan) lease tables held.objects.1) })
      (rest, is, All-head (IsTableLease maker s plan) lease tables held.objects.1)

  begun_at : (maker : MakerTold) (asks : Call P H) (s : Settings) (plan : Plan) (f : Frame P H) → Held maker s plan f → IsAtRest f → MayBegin maker s plan asks f → IsFrame maker s plan (begun_call asks f)
  begun_at maker call.Key s plan f held rest may = frame_of maker s plan (record f { phase = Key; step_count = 0 }) held rest
  begun_at maker (call.Module m) s plan f held rest may = frame_of maker s plan (begun_call (call.Module m) f) held (rest, record { ending = refl; none_taken = refl; asked_for = tt; images = may.2 }, may.1)
  begun_at maker (call.Memory m) s plan f held rest may =
      let none : length f.objects.memories.items ≡ 0 = ap (length {A = Lease}) rest.no_memories in
      let none_more : length f.objects.tables.items ≡ 0 = ap (length {A = LeasedTable}) rest.no_tables in
      let g : Frame P H = begun_call (call.Memory m) f in
      let S : ℕ → Type 0 = λ n. 0 < (allocator_of plan (kind_by (memory_asked m) n) f.stripe).shards in
      let B : List Lease → List LeasedTable → Type 0 = λ ls ts. AreBegun {P = P} s (memory_asked m) (record { memories = record f.objects.memories { items = ls }; tables = record f.objects.tables { items = ts } }) in
      frame_of maker s plan g held (
        rest.settled,
        record {
          ending = refl;
          to_grant = record {
            supported = record { few = omega arith; each = one_supported s m may.2 };
            tables = λ none. absurd (omega (arith, none));
            limits = λ k. tt;
            enabled = tt;
            images = tt;
            room = omega arith;
            table_room = omega arith;
            few = omega (arith, none);
            few_tables = omega (arith, none_more);
            order = λ less. rest.no_tables;
            begun = subst (λ ts. B f.objects.memories.items ts) (sym rest.no_tables) (subst (λ ls. B ls []) (sym rest.no_memories) (λ k. tt, λ k. tt));
            taken = omega arith;
          };
          more = omega (arith, none, none_more);
        },
        subst S (sym none) may.1,
      )
  begun_at maker (call.Table ty) s plan f held rest may =
      let none : length f.objects.memories.items ≡ 0 = ap (length {A = Lease}) rest.no_memories in
      let none_more : length f.objects.tables.items ≡ 0 = ap (length {A = LeasedTable}) rest.no_tables in
      let g : Frame P H = begun_call (call.Table ty) f in
      let S : ℕ → Type 0 = λ n. 0 < (allocator_of plan (kind_by (table_asked ty) n) f.stripe).shards in
      let B : List Lease → List LeasedTable → Type 0 = λ ls ts. AreBegun {P = P} s (table_asked ty) (record { memories = record f.objects.memories { items = ls }; tables = record f.objects.tables { items = ts } }) in
      frame_of maker s plan g held (
        rest.settled,
        record {
          ending = refl;
          to_grant = record {
            supported = record { few = omega arith; each = λ k. tt };
            tables = λ none. absurd (omega (arith, none));
            limits = one_limited ty may.2;
            enabled = tt;
            images = tt;
            room = omega arith;
            table_room = omega arith;
            few = omega (arith, none);
            few_tables = omega (arith, none_more);
            order = λ less. rest.no_tables;
            begun = subst (λ ts. B f.objects.memories.items ts) (sym rest.no_tables) (subst (λ ls. B ls []) (sym rest.no_memories) (λ k. tt, λ k. tt));
            taken = omega arith;
          };
          more = omega (arith, none, none_more);
        },
        subst S (sym none) may.1,
      )
  begun_at maker call.Stack s plan f held rest may = frame_of maker s plan (begun_call call.Stack f) held (rest, (refl, refl, refl))
  begun_at maker (call.Heap ty) s plan f held rest may = frame_of maker s plan (begun_call (call.Heap ty) f) held (rest, (refl, refl, may.1))
  begun_at maker (call.HeapOver memory) s plan f held rest may = frame_of maker s plan (begun_call (call.HeapOver memory) f) held (rest, (refl, refl, tt))
  begun_at maker (call.GiveBack (Heap lease memory)) s plan f held rest may = frame_of maker s plan (begun_call (call.GiveBack (Heap lease memory)) f) held (rest.settled, refl, may.1.0, may.1.1)
  begun_at maker (call.GiveBack (HeapOver lease)) s plan f held rest may = frame_of maker s plan (begun_call (call.GiveBack (HeapOver lease)) f) held (rest.settled, refl, may.1, tt)
  begun_at maker (call.GiveBack (Memory lease)) s plan f held rest may = frame_of maker s plan (begun_call (call.GiveBack (Memory lease)) f) held (rest.settled, refl, may.1)
  begun_at maker (call.GiveBack (Table lease)) s plan f held rest may = frame_of maker s plan (begun_call (call.GiveBack (Table lease)) f) held (rest.settled, refl, may.1)
  begun_at maker (call.GiveBack (Stack lease)) s plan f held rest may = frame_of maker s plan (begun_call (call.GiveBack (Stack lease)) f) held (rest.settled, refl, may.1)
  begun_at maker (call.Component info) s plan f held rest may = frame_of maker s plan (begun_call (call.Component info) f) held rest
  begun_at maker (call.GiveBack Component) s plan f held rest may = frame_of maker s plan (begun_call (call.GiveBack Component) f) held (rest, refl)
  begun_at maker (call.GiveBack (Instance lease)) s plan f held rest may = begun_back maker lease.memories.items lease.tables.items s plan (record f { objects = lease; ending = returned }) (record { stripe = held.stripe; queue = held.queue; freed_room = held.freed_room; freed_each = held.freed_each; freed_order = held.freed_order; objects = may.1 }) rest.settled refl
  begun_at maker (call.Purge id) s plan f held rest may = frame_of maker s plan (begun_call (call.Purge id) f) held (rest, inl (record { stripe = refl; memory = refl; turn = refl; first = refl }))
  begun_at maker call.Release s plan f held rest may = frame_of maker s plan (begun_call call.Release f) held (rest, tt)

  -- the frame is sound once a call began that may
  pub begun_frame : (maker : MakerTold) (asks : Call P H) (s : Settings) (plan : Plan) (f : Frame P H) → IsFrame maker s plan f → MayBegin maker s plan asks f → IsFrame maker s plan (begun_call asks f)
  begun_frame maker asks s plan f frame may = begun_at maker asks s plan f (held_of maker s plan f frame) (at_rest maker s plan f frame (idle_of maker s plan asks f may)) may

  -- What a grant has comes into the frame, and nothing else.
  pub idle_nothing : (w : Weight) (f : Frame P H) → IsIdle f → phase_count w.unit f.phase + phase_counted w.counts f.phase + frame_instances f * w.counts counted_instance ≡ 0
  idle_nothing w f idle = ap (λ (p : Phase P H). phase_count w.unit p + phase_counted w.counts p + phase_instances p * instances_for f.asked * w.counts counted_instance) idle ∙ omega arith

  pub idle_weight : (w : Weight) (f : Frame P H) → IsIdle f → IsAtRest f → frame_weight w f ≡ 0
  idle_weight w f idle rest =
      omega (arith, idle_nothing w f idle, none_weighs w f.objects rest.no_memories rest.no_tables, ap (queued_count w.unit) rest.settled.no_slots, ap (freed_count w.unit) rest.settled.none_freed)

  weight_returned : (w : Weight) (lease : InstanceLease P) (leases : List Lease) (tables : List LeasedTable) (f : Frame P H) → lease.memories.items ≡ leases → lease.tables.items ≡ tables
      → frame_weight w (returned_next leases tables (giving leases tables f)).frame ≡ instance_count w.unit lease + instance_counted w.counts lease + w.counts counted_instance + queued_count w.unit f.local.slots + freed_count w.unit f.freed.items
  weight_returned w lease [] [] f is is_more = omega (arith, none_weighs w lease is is_more)
  weight_returned w lease (first ∷ rest) tables f is is_more = omega (
    arith,
    leased_first w.unit first rest,
    ap (leased_count w.unit) is,
    ap (tables_count w.unit) is_more,
    ap (λ (l : List Lease). length l * w.counts (counted_object memory_kind)) is,
    ap (λ (l : List LeasedTable). length l * w.counts (counted_object table_kind)) is_more,
    one_more (length (first ∷ rest)) (length rest) (w.counts (counted_object memory_kind)) (omega arith),
  )
  weight_returned w lease [] (first ∷ rest) f is is_more = omega (
    arith,
    tables_first w.unit first rest,
    ap (leased_count w.unit) is,
    ap (tables_count w.unit) is_more,
    ap (λ (l : List Lease). length l * w.counts (counted_object memory_kind)) is,
    ap (λ (l : List LeasedTable). length l * w.counts (counted_object table_kind)) is_more,
    one_more (length (first ∷ rest)) (length rest) (w.counts (counted_object table_kind)) (omega arith),
  )

  weight_at : (w : Weight) (asks : Call P H) (f : Frame P H) → IsIdle f → IsAtRest f → frame_weight w (begun_call asks f) ≡ frame_weight w f + call_has (grant_weight w) asks
  weight_at w call.Key f idle rest = omega (arith, idle_nothing w f idle)
  weight_at w (call.Module m) f idle rest = omega (arith, idle_nothing w f idle)
  weight_at w (call.Memory m) f idle rest = omega (arith, idle_nothing w f idle)
  weight_at w (call.Table ty) f idle rest = omega (arith, idle_nothing w f idle)
  weight_at w (call.GiveBack (Memory lease)) f idle rest = omega (arith, idle_nothing w f idle)
  weight_at w (call.GiveBack (Table lease)) f idle rest = omega (arith, idle_nothing w f idle)
  weight_at w call.Stack f idle rest = omega (arith, idle_nothing w f idle)
  weight_at w (call.GiveBack (Stack lease)) f idle rest = omega (arith, idle_nothing w f idle)
  weight_at w (call.Heap ty) f idle rest = omega (arith, idle_nothing w f idle)
  weight_at w (call.HeapOver memory) f idle rest = omega (arith, idle_nothing w f idle)
  weight_at w (call.GiveBack (Heap lease memory)) f idle rest = omega (arith, idle_nothing w f idle)
  weight_at w (call.GiveBack (HeapOver lease)) f idle rest = omega (arith, idle_nothing w f idle)
  weight_at w (call.Component info) f idle rest = omega (arith, idle_nothing w f idle)
  weight_at w (call.GiveBack Component) f idle rest = omega (arith, idle_nothing w f idle)
  weight_at w (call.Purge id) f idle rest = omega (arith, idle_nothing w f idle)
  weight_at w call.Release f idle rest = omega (arith, idle_nothing w f idle)
  weight_at w (call.GiveBack (Instance lease)) f idle rest =
      omega (arith, idle_weight w f idle rest, weight_returned w lease lease.memories.items lease.tables.items (record f { objects = lease; ending = returned }) refl refl, ap (queued_count w.unit) rest.settled.no_slots, ap (freed_count w.unit) rest.settled.none_freed)

  pub begun_weight : (maker : MakerTold) (w : Weight) (asks : Call P H) (s : Settings) (plan : Plan) (f : Frame P H) → IsFrame maker s plan f → MayBegin maker s plan asks f → frame_weight w (begun_call asks f) ≡ frame_weight w f + call_has (grant_weight w) asks
  begun_weight maker w asks s plan f frame may = let idle : IsIdle f = idle_of maker s plan asks f may in weight_at w asks f idle (at_rest maker s plan f frame idle)

  -- How many steps are left is the same on every pool of the same sizes, so no step of another changes it.
  pub steps_left_same : (c d : PoolCore P H) (f : Frame P H) → IsSameSize c d → steps_left d f ≡ steps_left c f
  steps_left_same c d f same = ap (λ (s : Settings). steps_at (sizes_of s d.plan) f.phase f) same.settings ∙ ap (λ (plan : Plan). steps_at (sizes_of c.settings plan) f.phase f) same.plan

  -- no call has no steps left,
  pub idle_left : (c : PoolCore P H) (f : Frame P H) → IsIdle f → steps_left c f ≡ 0
  idle_left c f idle = ap (λ (p : Phase P H). steps_at (sizes_of c.settings c.plan) p f) idle

  -- and a call begins with no more than its bound.
  returned_bounded : (z : PoolSizes) (leases : List Lease) (tables : List LeasedTable) (f : Frame P H) → steps_at z (returned_next leases tables (giving leases tables f)).frame.phase (record (returned_next leases tables (giving leases tables f)).frame { step_count = 0 }) ≤ return_bound z (length leases + length tables)
  returned_bounded z [] [] f = omega arith
  returned_bounded z (lease ∷ leases) tables f = omega (arith, one_more (length (lease ∷ leases) + length tables) (length leases + length tables) (give_back_bound z) (omega arith))
  returned_bounded z [] (lease ∷ tables) f = omega (arith, one_more (0 + length (lease ∷ tables)) (0 + length tables) (give_back_bound z) (omega arith))

  purge_bounded : (b : Bool) (c : PoolCore P H) (id : CompiledModuleId) → 0 < length c.plan.memories → has_turns c.settings.max_memories_per_module c.plan ≡ b → purge_left {P = P} (sizes_of c.settings c.plan) (purge_begun id) (purging_step.Pick 0) ≤ purge_bound (sizes_of c.settings c.plan)
  purge_bounded true c id stripes has =
      let z : PoolSizes = sizes_of c.settings c.plan in
      let number : purge_left {P = P} z (purge_begun id) (purging_step.Pick 0) ≡ picks_of z (purge_begun id) 0 = rw has refl in
      let memories : 0 < c.settings.max_memories_per_module = ltb-true _ _ (and_parts (nat_lt 0 c.plan.totals.memory) (nat_lt 0 c.settings.max_memories_per_module) has).1 in
      omega (arith, number, purge_begins c.settings c.plan (purge_begun id) stripes refl refl refl memories)
  purge_bounded false c id stripes none =
      let number : purge_left {P = P} (sizes_of c.settings c.plan) (purge_begun id) (purging_step.Pick 0) ≡ 1 = rw none refl in
      omega (arith, number)

  pub begun_bounded : (c : PoolCore P H) (asks : Call P H) (f : Frame P H) → IsAtRest f → 0 < length c.plan.memories → steps_left c (begun_call asks f) ≤ bound_of c asks
  begun_bounded c call.Key f rest stripes = omega arith
  begun_bounded c (call.Module m) f rest stripes = omega arith
  begun_bounded c call.Stack f rest stripes = omega arith
  begun_bounded c (call.Memory m) f rest stripes = single_bounded (sizes_of c.settings c.plan) f.objects rest.no_memories rest.no_tables
  begun_bounded c (call.Table ty) f rest stripes = single_bounded (sizes_of c.settings c.plan) f.objects rest.no_memories rest.no_tables
  begun_bounded c (call.GiveBack (Memory lease)) f rest stripes = none_bounded (sizes_of c.settings c.plan) f.objects rest.no_memories rest.no_tables
  begun_bounded c (call.GiveBack (Table lease)) f rest stripes = none_bounded (sizes_of c.settings c.plan) f.objects rest.no_memories rest.no_tables
  begun_bounded c (call.GiveBack (Stack lease)) f rest stripes = none_bounded (sizes_of c.settings c.plan) f.objects rest.no_memories rest.no_tables
  begun_bounded c (call.GiveBack (Heap lease memory)) f rest stripes = omega (arith, none_bounded (sizes_of c.settings c.plan) f.objects rest.no_memories rest.no_tables)
  begun_bounded c (call.GiveBack (HeapOver lease)) f rest stripes = omega (arith, none_bounded (sizes_of c.settings c.plan) f.objects rest.no_memories rest.no_tables)
  begun_bounded c (call.Heap ty) f rest stripes = omega arith
  begun_bounded c (call.HeapOver memory) f rest stripes = omega arith
  begun_bounded c (call.GiveBack (Instance lease)) f rest stripes = returned_bounded (sizes_of c.settings c.plan) lease.memories.items lease.tables.items (record f { objects = lease; ending = returned })
  begun_bounded c (call.Component info) f rest stripes = omega arith
  begun_bounded c (call.GiveBack Component) f rest stripes = omega arith
  begun_bounded c (call.Purge id) f rest stripes = purge_bounded (has_turns c.settings.max_memories_per_module c.plan) c id stripes refl
  begun_bounded c call.Release f rest stripes = omega arith
