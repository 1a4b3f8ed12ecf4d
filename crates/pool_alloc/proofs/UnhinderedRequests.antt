-- A request is refused for room only where there isn't enough of all that it needs, if no other call makes a step between its
-- first and its last.
use Rattle.std.proofs.Common.{◌≡◌, ℕ, ◌+◌, ◌<◌, ◌≤◌, ◌&&◌, Bool, true, false, not, List, [], ◌∷◌, length, Option, Some, None, Result, Ok, Err, refl, sym, ap, ◌∙◌, subst, inl, inr, arith, is_some, nat_lt, if◌then◌else◌, sum_by, le-ltb}
use Rattle.pool_alloc.proofs.Imports.{cases_lt, lt-ltb, MakerTold, AllocError, Unsupported, LimiterError, HeapMakeFault, MemoryDecl, MemoryError, MemoryType, Slot, Static, limits_answer, TableSize, TableType, UnitName, all_away, all_kept, Told, Allocator, number_in, SlotKind, memory_kind, SlotName}
use Rattle.pool_memory.specs.Static.{made_static}
use Rattle.pool_memory.specs.declared.memory_error.MemoryError.TheVariants as unmade
use Rattle.pool_slots.specs.declared.errors.AllocError.TheVariants as refusal
use Rattle.pool_slots.specs.declared.heap_maker.HeapMakeFault.TheVariants as no_heap
use Rattle.pool_alloc.specs.BetweenSteps.{IsCore}
use Rattle.pool_alloc.specs.CallStages.{Progress, untested, uncounted, admitted, seeks_single, seeks_stack, tests_heap, seeks_heap, counts_heap, Stage, no_call, keys, asks as asking, tests_component, counts_component, returning, refusing, purging, reserving, releasing, IsUntested, IsBroken, FindsNone, FailsObject, Follows, Goes, Raises, stage_of}
use Rattle.pool_alloc.specs.Calls.{MayBegin, begun_call}
use Rattle.pool_alloc.specs.MemorySteps.{heap_refusal, made_for, made_of, made_of_limits, refusal_of}
use Rattle.pool_alloc.specs.Objects.{objects_in, objects_wanted}
use Rattle.pool_alloc.specs.PartyTold.{PartyTold}
use Rattle.pool_alloc.specs.Places.{Thing, Counts, Weight, of_units, of_counts, only, counted_instance, counted_component, right_to, instance_count, kept_count, away_count, away_weight, frame_count, frame_counted, frame_weight, counters_counted}
use Rattle.pool_alloc.specs.Refusals.{module_refused, heap_refused, component_refused}
use Rattle.pool_alloc.specs.Searches.{IsSearched}
use Rattle.pool_alloc.specs.StepReads.{allocator_of, allocator_for, kind_by, kind_last, kind_next, memories_wanted, info_wanted}
use Rattle.pool_alloc.specs.Stepping.{CanStep, count_granted, grant_count, grant_counted, grant_weight, is_idle}
use Rattle.pool_alloc.specs.TableLeases.{LeasedTable}
use Rattle.pool_alloc.specs.TableSteps.{made_table, made_unless, table_refused}
use Rattle.pool_alloc.specs.Turns.{After}
use Rattle.pool_alloc.specs.UnhinderedRequests.{right_in, slots_needed, is_for_room, asked_by, instances_needed, components_needed, slots_live, LeavesEnough, HasAllItNeeds, IsForGrant}
use Rattle.pool_alloc.specs.UninterruptedCalls.{IsStep, AreSteps, IsAsking}
use Rattle.pool_alloc.specs.declared.frame.Asked.{Asked}
use Rattle.pool_alloc.specs.declared.frame.Asked.TheVariants.{Nothing as nothing_asked, Module as module_asked, Memory as memory_asked, Table as table_asked, Stack as stack_asked, Heap as heap_asked, HeapOver as heap_over_asked}
use Rattle.pool_alloc.specs.declared.frame.Call.{Call}
use Rattle.pool_alloc.specs.declared.frame.Call.TheVariants as call
use Rattle.pool_alloc.specs.declared.frame.Frame.{Frame}
use Rattle.pool_alloc.specs.declared.frame.Grant.{Grant}
use Rattle.pool_alloc.specs.declared.frame.Grant.TheVariants as grant
use Rattle.pool_alloc.specs.declared.frame.Outcome.{Outcome}
use Rattle.pool_alloc.specs.declared.frame.Outcome.TheVariants as answer
use Rattle.pool_alloc.specs.declared.frame.Phase.{Phase}
use Rattle.pool_alloc.specs.declared.frame.TakenSlot.{TakenSlot}
use Rattle.pool_alloc.specs.declared.leases.instance.InstanceLease.{InstanceLease}
use Rattle.pool_alloc.specs.declared.pool_core.PoolCore.{PoolCore}
use Rattle.pool_alloc.specs.declared.pool_core.Settings.{Settings}
use Rattle.pool_slots.specs.declared.plan.Plan.{Plan}
use Rattle.pool_alloc.proofs.BegunFrames.{at_rest, begun_weight, idle_weight, idle_of}
use Rattle.pool_alloc.proofs.PlanPlaces.{allocator_is, allocator_holds}
use Rattle.pool_alloc.proofs.QueueCounts.{sum_by_agree}
use Rattle.pool_alloc.proofs.SlotsOfAllocators.{has_its, some_each, one_unit, instance_below, grants_below, objects_of, few_objects}
use Rattle.pool_alloc.proofs.StageCounts.{uncounted_none, uncounted_component, no_instance_counted}
use Rattle.pool_alloc.proofs.StepNeeds.{step_ok, can_still}
use Rattle.pool_alloc.proofs.StripesKept.{begun_stripe, step_stripe}
use Rattle.pool_alloc.proofs.SumsBelow.{below, below_sum}
use Rattle.pool_alloc.proofs.UninterruptedCalls.{begun_can, nothing_brought}
use Rattle.pool_alloc.proofs.Weights.{frame_units, frame_counts, grant_units, grant_counts, no_total}

-- Which refusals aren't for room.
module _ {X : Type 0} where
  abbrev room_in : Result X AllocError → Bool
  room_in (Ok x) = false
  room_in (Err e) = is_for_room e

  not_room : (r : Result X AllocError) (e : AllocError) → room_in r ≡ false → r ≡ Err e → is_for_room e ≡ false
  not_room r e none is = sym (ap room_in is) ∙ none

memory_refusal : (e : MemoryError) → is_for_room (refusal_of e) ≡ false
memory_refusal unmade.Memory = refl
memory_refusal (unmade.Unsupported u) = refl
memory_refusal (unmade.LimiterDenied min) = refl
memory_refusal (unmade.LimiterFault e) = refl
memory_refusal unmade.PageFault = refl

static_room : (ty : MemoryType) (r : Result Static (Slot × Unsupported)) → room_in (made_of ty r) ≡ false
static_room ty (Ok m) = refl
static_room ty (Err refused) = refl

limits_room : (r : Result (ℕ × Option ℕ) MemoryError) (ty : MemoryType) (room : ℕ) (slot : Slot) → room_in (made_of_limits r ty room slot) ≡ false
limits_room (Err e) ty room slot = memory_refusal e
limits_room (Ok limits) ty room slot = static_room ty (made_static room limits.0 limits.1 slot)

memory_room : (room : ℕ) (given : Result Bool LimiterError) (slot : Slot) (o : Option MemoryDecl) → room_in (made_for room given slot o) ≡ false
memory_room room given slot None = refl
memory_room room given slot (Some decl) = limits_room (limits_answer given decl.ty) decl.ty room slot

unless_room : (o : Option AllocError) (l : LeasedTable) → ((e : AllocError) → o ≡ Some e → is_for_room e ≡ false) → room_in (made_unless o l) ≡ false
unless_room None l none = refl
unless_room (Some e) l none = none e refl

refused_room : (given : Result Bool LimiterError) (min room : ℕ) (e : AllocError) → table_refused given min room ≡ Some e → is_for_room e ≡ false
refused_room (Err x) min room e is = let same : refusal.LimiterFault x ≡ e = cc in sym (ap is_for_room same)
refused_room (Ok false) min room e is = let same : refusal.LimiterDenied true min ≡ e = cc in sym (ap is_for_room same)
refused_room (Ok true) min room e is = sized (nat_lt room min) is
  where
    sized : (b : Bool) → (if b then Some (refusal.Unsupported (TableSize min room)) else None) ≡ Some e → is_for_room e ≡ false
    sized true at = let same : refusal.Unsupported (TableSize min room) ≡ e = cc in sym (ap is_for_room same)
    sized false at = absurd cc

table_room : (s : Settings) (given : Result Bool LimiterError) (at : TakenSlot) (region : Told) (o : Option TableType) → room_in (made_table s given at region o) ≡ false
table_room s given at region None = refl
table_room s given at region (Some ty) = unless_room _ _ (λ e is. refused_room given ty.limits.min _ e is)

heap_room : (fault : HeapMakeFault) → is_for_room (heap_refusal fault) ≡ false
heap_room no_heap.Memory = refl
heap_room no_heap.HeapFault = refl

untested_room : (o : Option Unsupported) (e : AllocError) → IsUntested o e → is_for_room e ≡ false
untested_room (Some rule) e is = ap is_for_room is
untested_room None e is = ap is_for_room is

broken_room : (o : Option Unsupported) (e : AllocError) → IsBroken o e → is_for_room e ≡ false
broken_room (Some rule) e is = ap is_for_room is
broken_room None e is = absurd is

-- Of what comes next a call has fewer than it needs.
module _ {P : Type 0} (o : InstanceLease P) where
  abbrev Fewer : Asked → SlotKind → Type 0
  Fewer asked kind = objects_of kind o < slots_needed kind asked

  abbrev by_number : Asked → Bool → SlotKind
  by_number asked b = if b then memory_kind else kind_last asked

  later : (asked : Asked) → kind_by asked (length o.memories.items) ≡ by_number asked (nat_lt (length o.memories.items) (length (memories_wanted asked))) → (length (memories_wanted asked) ≤ length o.memories.items → Fewer asked (kind_last asked)) → Fewer asked (kind_by asked (length o.memories.items))
  later asked is last =
      let n : ℕ = length o.memories.items in
      elim (cases_lt n (length (memories_wanted asked))) [
        | inl memory ↦ subst (Fewer asked) (sym (is ∙ ap (by_number asked) (lt-ltb n (length (memories_wanted asked)) memory))) memory
        | inr past ↦ subst (Fewer asked) (sym (is ∙ ap (by_number asked) (le-ltb n (length (memories_wanted asked)) past))) (last past)
      ]

  pub fewer : (asked : Asked) → objects_in o < objects_wanted asked → Fewer asked (kind_by asked (length o.memories.items))
  fewer nothing_asked more = absurd (omega (arith, more))
  fewer (module_asked m) more = later (module_asked m) refl (λ past. omega (arith, more, past))
  fewer (memory_asked m) more = later (memory_asked m) refl (λ past. absurd (omega (arith, more, past)))
  fewer (table_asked ty) more = later (table_asked ty) refl (λ past. omega (arith, more, past))
  fewer stack_asked more = omega arith
  fewer (heap_asked ty) more = later (heap_asked ty) refl (λ past. omega arith)
  fewer (heap_over_asked memory) more = later (heap_over_asked memory) refl (λ past. omega arith)

module _ {P H : Type 0} (maker : MakerTold) (live : List (Grant P H)) where
  -- All that the pool has given out is in a queue, with the call or in a live grant.
  abbrev IsWhole : PoolCore P H → Frame P H → Type 0
  IsWhole c f = (w : Weight) → kept_count w.unit c + (frame_weight w f + sum_by (grant_weight w) live) ≡ away_weight w c

  whole_units : (c : PoolCore P H) (f : Frame P H) → IsWhole c f → (t : Thing) → kept_count t c + (frame_count t f + sum_by (grant_count t) live) ≡ away_count t c
  whole_units c f whole t = omega (arith, whole (of_units t), frame_units t f, sum_by_agree (grant_weight (of_units t)) (grant_count t) (grant_units t) live)

  whole_counts : (c : PoolCore P H) (f : Frame P H) → IsWhole c f → (n : Counts) → counters_counted n c.counters ≡ frame_counted n f + sum_by (grant_counted n) live
  whole_counts c f whole n =
      omega (arith, whole (of_counts n), frame_counts n f, sum_by_agree (grant_weight (of_counts n)) (grant_counted n) (grant_counts n) live, no_total (all_kept c.parts), no_total (all_away c.parts))

  -- Where no slot is found, all of the allocator are with the call's objects and the live grants.
  all_there : (c : PoolCore P H) (f : Frame P H) (n : ℕ) (e : AllocError) → IsCore maker c → f.stripe < length c.plan.memories → IsWhole c f → IsSearched c f → FindsNone c f n e → (allocator_for c.plan f).capacity ≤ instance_count (right_in (allocator_for c.plan f)) f.objects + slots_live (allocator_for c.plan f) live
  all_there c f n e core stripe whole searched none =
      let a : Allocator = allocator_for c.plan f in
      let kind : a.kind ≡ kind_next f = (allocator_holds c.plan (length c.parts) f core.plan stripe).kind_is in
      let apart : 0 < a.step = (allocator_is c.plan (length c.parts) (kind_next f) f.stripe core.plan stripe).placed.apart in
      let at : ℕ → SlotName = λ j. record { kind = kind_next f; slot = number_in a j } in
      let each : (j : ℕ) → j < a.capacity → 1 ≤ instance_count (right_to (at j)) f.objects + sum_by (grant_count (right_to (at j))) live =
      λ j inside.
      let out = none.none searched (number_in a j) (has_its a j apart inside) in
      omega (arith, out.0, out.1, none.has (at j), whole_units c f whole (right_to (at j))) in
      let unit : (u : UnitName) → below (λ j. right_to (at j) u) a.capacity ≤ right_in a u = λ u. one_unit a (kind_next f) kind apart a.capacity u (omega arith) in
      omega (
        arith,
        some_each (λ j. instance_count (right_to (at j)) f.objects + sum_by (grant_count (right_to (at j))) live) a.capacity each,
        below_sum (λ j. instance_count (right_to (at j)) f.objects) (λ j. sum_by (grant_count (right_to (at j))) live) (λ j. instance_count (right_to (at j)) f.objects + sum_by (grant_count (right_to (at j))) live) (λ j. refl) a.capacity,
        instance_below a.capacity (λ j. right_to (at j)) (right_in a) unit f.objects,
        grants_below a.capacity (λ j. right_to (at j)) (right_in a) unit live,
      )

module _ {P H : Type 0} (request : Call P H) where
  -- What is known at each stage of a request of what it asks for.
  abbrev pub AtProgress : Progress → Type 0
  AtProgress untested = instances_needed request ≡ 1
  AtProgress uncounted = instances_needed request ≡ 1
  AtProgress _ = Unit {0}

  abbrev pub AtStage : Stage → Asked → Type 0
  AtStage (asking p) asked = (asked ≡ asked_by request) × AtProgress p
  AtStage (tests_component info) asked = components_needed request ≡ 1
  AtStage counts_component asked = components_needed request ≡ 1
  AtStage (refusing e) asked = is_for_room e ≡ false
  AtStage _ asked = ⊥

-- A request, where these were the live grants before its first step and left enough.
module _ {P H : Type 0} (maker : MakerTold) (live : List (Grant P H)) (first : PoolCore P H) (stripe : ℕ) (request : Call P H) (enough : LeavesEnough first stripe live request) where
  -- What holds between the request's steps.
  pub record Seeks (c : PoolCore P H) (f : Frame P H) : Type 0 where
    pub can : CanStep maker c f
    pub settings : c.settings ≡ first.settings
    pub plan : c.plan ≡ first.plan
    pub in_stripe : f.stripe ≡ stripe
    pub whole : IsWhole maker live c f
    pub searched : IsSearched c f
    pub busy : is_idle f.phase ≡ false
    pub stage : AtStage request (stage_of f) f.asked

  module _ (c : PoolCore P H) (f : Frame P H) (seeks : Seeks c f) where
    -- a slot is found
    finds : (n : ℕ) (e : AllocError) → f.asked ≡ asked_by request → FindsNone c f n e → ⊥
    finds n e asked none =
        let kind : SlotKind = kind_next f in
        let a : Allocator = allocator_for c.plan f in
        let is : a.kind ≡ kind = (allocator_holds c.plan (length c.parts) f seeks.can.core.plan seeks.can.frame.stripe).kind_is in
        let Left : Allocator → Type 0 = λ b. slots_live b live + slots_needed kind (asked_by request) ≤ b.capacity in
        let its : allocator_of first.plan kind stripe ≡ a = ap (λ (plan : Plan). allocator_of plan kind stripe) (sym seeks.plan) ∙ ap (allocator_of c.plan kind) (sym seeks.in_stripe) in
        let left : Left a = subst Left its (enough.slots kind) in
        let wanted : slots_needed kind f.asked ≡ slots_needed kind (asked_by request) = ap (slots_needed kind) asked in
        omega (arith, left, wanted, all_there maker live c f n e seeks.can.core seeks.can.frame.stripe seeks.whole seeks.searched none, few_objects kind a f.objects is, fewer f.objects f.asked none.allocating.more)

    -- an instance may be counted, and a component
    counts : stage_of f ≡ asking uncounted → instances_needed request ≡ 1 → c.settings.max_core_instances ≤ c.counters.core_instances → ⊥
    counts at one full =
        let most : c.settings.max_core_instances ≡ first.settings.max_core_instances = ap (λ (s : Settings). s.max_core_instances) seeks.settings in
        omega (arith, full, most, one, enough.instances, whole_counts maker live c f seeks.whole (only counted_instance), uncounted_none f.phase f.asked f.ending (objects_in f.objects) at, no_instance_counted f.phase)

    counts_too : stage_of f ≡ counts_component → components_needed request ≡ 1 → c.settings.max_component_instances ≤ c.counters.component_instances → ⊥
    counts_too at one full =
        let most : c.settings.max_component_instances ≡ first.settings.max_component_instances = ap (λ (s : Settings). s.max_component_instances) seeks.settings in
        omega (arith, full, most, one, enough.components, whole_counts maker live c f seeks.whole (only counted_component), uncounted_component f.phase f.asked f.ending (objects_in f.objects) at)

    module _ (old new : PartyTold) where
      object_fails : (n : ℕ) (e : AllocError) → f.asked ≡ asked_by request → FailsObject maker old new c f n e → is_for_room e ≡ false
      object_fails n e asked fails =
          elim fails [
            | inl none ↦ absurd (finds n e asked none)
            | inr more ↦ elim more [
              | inl fault ↦ ap is_for_room fault.is
              | inr made ↦ elim made [
                | inl makes ↦ not_room _ e (memory_room c.settings.max_memory_size makes.given makes.held _) makes.is
                | inr makes ↦ not_room _ e (table_room c.settings makes.given makes.at makes.region _) makes.is
              ]
            ]
          ]

      raises : (p : Progress) (e : AllocError) → stage_of f ≡ asking p → f.asked ≡ asked_by request → AtProgress request p → Raises maker old new c f p e → is_for_room e ≡ false
      raises untested e at asked one fails = untested_room (module_refused c.settings c.plan.totals.table (info_wanted f.asked)) e fails
      raises uncounted e at asked one fails = absurd (counts at one fails.1)
      raises seeks_stack e at asked one fails = elim fails [ inl none ↦ ap is_for_room none.0 | inr none ↦ absurd (finds 0 e asked none) ]
      raises tests_heap e at asked one fails = elim fails [ inl none ↦ ap is_for_room none.1 | inr fails ↦ untested_room (heap_refused c.settings f.asked) e fails.2 ]
      raises (seeks_heap n) e at asked one fails =
          elim fails [
            | inl none ↦ absurd (finds n e asked none)
            | inr more ↦ elim more [
              | inl fault ↦ ap is_for_room fault.is
              | inr made ↦ elim made [
                | inl makes ↦ not_room _ e (memory_room c.settings.max_memory_size makes.given makes.held _) makes.is
                | inr heap ↦ ap is_for_room heap.1.1.1 ∙ heap_room heap.0
              ]
            ]
          ]
      raises counts_heap e at asked one fails = absurd fails
      raises (admitted n) e at asked one fails = object_fails n e asked fails
      raises (seeks_single n) e at asked one fails = object_fails n e asked fails

      follows : (p q : Progress) → AtProgress request p → Follows old new c f p q → AtProgress request q
      follows untested uncounted one goes = one
      follows uncounted (admitted n) one goes = tt
      follows (admitted n) (admitted m) one goes = tt
      follows (seeks_single n) (seeks_single m) one goes = tt
      follows seeks_stack seeks_stack one goes = tt
      follows tests_heap (seeks_heap n) one goes = tt
      follows (seeks_heap n) (seeks_heap m) one goes = tt
      follows (seeks_heap n) counts_heap one goes = tt
      follows _ _ one goes = absurd goes

      -- What is known after a step, and of the refusal with which it ends the call.
      pub record After_step (t : Stage) (asked : Asked) (o : Option (Outcome P H)) : Type 0 where
        pub on : o ≡ None → AtStage request t asked
        pub end : (e : AllocError) → o ≡ Some (answer.Refused e) → is_for_room e ≡ false

      granted_ends : (t : Stage) (asked : Asked) (o : Option (Outcome P H)) → is_some o ≡ true → ((e : AllocError) → o ≡ Some (answer.Refused e) → ⊥) → After_step t asked o
      granted_ends t asked None some never = absurd cc
      granted_ends t asked (Some x) some never = record { on = λ e. absurd cc; end = λ e is. absurd (never e is) }

      refused_ends : (t : Stage) (asked : Asked) (e : AllocError) → is_for_room e ≡ false → After_step t asked (Some (answer.Refused e))
      refused_ends t asked e none = record { on = λ is. absurd cc; end = λ d is. let same : e ≡ d = cc in sym (ap is_for_room same) ∙ none }

      goes : (s t : Stage) (asked : Asked) (o : Option (Outcome P H)) → stage_of f ≡ s → AtStage request s f.asked → (o ≡ None → asked ≡ f.asked) → Goes maker old new c f s t o → After_step t asked o
      goes (asking p) (asking q) asked None at is same way = record { on = λ none. (same none ∙ is.0, follows p q is.1 way); end = λ e is. absurd cc }
      goes (asking p) (refusing e) asked None at is same way = record { on = λ none. raises p e at is.0 is.1 way; end = λ e is. absurd cc }
      goes (asking p) no_call asked (Some (answer.Granted (grant.Memory lease))) at is same way = granted_ends no_call asked _ refl (λ e is. absurd cc)
      goes (asking p) no_call asked (Some (answer.Granted (grant.Table lease))) at is same way = granted_ends no_call asked _ refl (λ e is. absurd cc)
      goes (asking p) no_call asked (Some (answer.Granted (grant.Stack lease))) at is same way = granted_ends no_call asked _ refl (λ e is. absurd cc)
      goes (asking p) no_call asked (Some (answer.Granted (grant.Instance lease))) at is same way = granted_ends no_call asked _ refl (λ e is. absurd cc)
      goes (asking counts_heap) no_call asked (Some (answer.Granted (grant.Heap lease memory))) at is same way = granted_ends no_call asked _ refl (λ e is. absurd cc)
      goes (asking counts_heap) no_call asked (Some (answer.Granted (grant.HeapOver lease))) at is same way = granted_ends no_call asked _ refl (λ e is. absurd cc)
      goes (asking untested) no_call asked (Some (answer.Refused e)) at is same way = refused_ends no_call asked e (raises untested e at is.0 is.1 way)
      goes (asking seeks_stack) no_call asked (Some (answer.Refused e)) at is same way = refused_ends no_call asked e (raises seeks_stack e at is.0 is.1 way)
      goes (asking tests_heap) no_call asked (Some (answer.Refused e)) at is same way = refused_ends no_call asked e (raises tests_heap e at is.0 is.1 way)
      goes (asking (seeks_single n)) no_call asked (Some (answer.Refused e)) at is same way = refused_ends no_call asked e (raises (seeks_single n) e at is.0 is.1 way.0)
      goes (asking (seeks_heap n)) no_call asked (Some (answer.Refused e)) at is same way = refused_ends no_call asked e (raises (seeks_heap n) e at is.0 is.1 way.0)
      goes (tests_component info) counts_component asked None at is same way = record { on = λ none. is; end = λ e is. absurd cc }
      goes (tests_component info) no_call asked (Some (answer.Refused e)) at is same way = refused_ends no_call asked e (broken_room (component_refused c.settings info) e way)
      goes counts_component no_call asked (Some (answer.Granted grant.Component)) at is same way = granted_ends no_call asked _ refl (λ e is. absurd cc)
      goes counts_component (refusing e) asked None at is same way = absurd (counts_too at is way.1)
      goes (refusing e) (refusing d) asked None at is same way = record { on = λ none. ap is_for_room way ∙ is; end = λ e is. absurd cc }
      goes (refusing e) no_call asked (Some (answer.Refused d)) at is same way = refused_ends no_call asked d (ap is_for_room way ∙ is)
      goes no_call t asked o at is same way = absurd is
      goes keys t asked o at is same way = absurd is
      goes returning t asked o at is same way = absurd is
      goes purging t asked o at is same way = absurd is
      goes reserving t asked o at is same way = absurd is
      goes releasing t asked o at is same way = absurd is
      goes _ _ asked _ at is same way = absurd way

  no_keys : (s : Stage) (asked : Asked) → AtStage request s asked → s ≡ keys → ⊥
  no_keys s asked is key = let At : Stage → Type 0 = λ t. AtStage request t asked in let wrong : At keys = subst At key is in wrong

  still_busy : (p q : Phase P H) (o : Option (Outcome P H)) → is_idle p ≡ false → is_some o ≡ (not (is_idle p) && is_idle q) → o ≡ None → is_idle q ≡ false
  still_busy p q o busy ends none =
      let now : is_idle q ≡ (not (is_idle p) && is_idle q) = rw busy refl in now ∙ sym ends ∙ ap (λ (x : Option (Outcome P H)). is_some x) none

  -- One step.
  pub seeks_on : (c : PoolCore P H) (f : Frame P H) (a : After P H) → Seeks c f → IsStep c f a → (a.outcome ≡ None → Seeks a.core a.frame) × ((e : AllocError) → a.outcome ≡ Some (answer.Refused e) → is_for_room e ≡ false)
  seeks_on c f a seeks steps =
      let old : PartyTold = steps.0 in
      let new : PartyTold = steps.1.0 in
      let ok = step_ok maker old new c f a seeks.can steps.1.1 in
      let on : a.outcome ≡ None → is_idle a.frame.phase ≡ false = still_busy f.phase a.frame.phase a.outcome seeks.busy ok.ends.answer in
      let left = goes c f seeks old new (stage_of f) (stage_of a.frame) a.frame.asked a.outcome refl seeks.stage (λ none. ok.goes.asked (on none)) ok.goes.way in (
        λ none. record {
          can = can_still maker old new c f a seeks.can steps.1.1;
          settings = ok.settings ∙ seeks.settings;
          plan = ok.plan ∙ seeks.plan;
          in_stripe = step_stripe old new c f a (no_keys (stage_of f) f.asked seeks.stage) steps.1.1 ∙ seeks.in_stripe;
          whole = λ w. let nothing : count_granted (grant_weight w) a.outcome ≡ 0 = ap (count_granted (grant_weight w)) none in omega (arith, ok.conserves w, seeks.whole w, nothing);
          searched = ok.searched seeks.searched;
          busy = on none;
          stage = left.on none;
        },
        left.end,
      )

  -- All steps.
  seeks_all : (c : PoolCore P H) (f : Frame P H) (before : List (After P H)) (a : After P H) (e : AllocError) → Seeks c f → AreSteps c f before a → a.outcome ≡ Some (answer.Refused e) → is_for_room e ≡ false
  seeks_all c f [] a e seeks steps refused = (seeks_on c f a seeks steps).1 e refused
  seeks_all c f (b ∷ rest) a e seeks steps refused = seeks_all b.core b.frame rest a e ((seeks_on c f b seeks steps.0).0 steps.1.0) steps.1.1 refused

module _ {P H : Type 0} where
  -- How a request begins.
  for_asking : (request : Call P H) → IsForGrant request → IsAsking request
  for_asking (call.GiveBack grant) is = absurd is
  for_asking request is = tt

  begun_stage : (request : Call P H) (f : Frame P H) → IsForGrant request → AtStage request (stage_of (begun_call request f)) (begun_call request f).asked
  begun_stage (call.Module m) f is = (refl, refl)
  begun_stage (call.Component info) f is = refl
  begun_stage (call.Memory m) f is = (refl, tt)
  begun_stage (call.Table ty) f is = (refl, tt)
  begun_stage call.Stack f is = (refl, tt)
  begun_stage (call.Heap ty) f is = (refl, tt)
  begun_stage (call.HeapOver memory) f is = (refl, tt)
  begun_stage _ f is = absurd is

  begun_busy : (request : Call P H) (f : Frame P H) → IsForGrant request → is_idle (begun_call request f).phase ≡ false
  begun_busy (call.Module m) f is = refl
  begun_busy (call.Component info) f is = refl
  begun_busy (call.Memory m) f is = refl
  begun_busy (call.Table ty) f is = refl
  begun_busy call.Stack f is = refl
  begun_busy (call.Heap ty) f is = refl
  begun_busy (call.HeapOver memory) f is = refl
  begun_busy _ f is = absurd is

  begun_searched : (request : Call P H) (c : PoolCore P H) (f : Frame P H) → IsForGrant request → IsSearched c (begun_call request f)
  begun_searched (call.Module m) c f is = tt
  begun_searched (call.Component info) c f is = tt
  begun_searched (call.Memory m) c f is = (λ j below. absurd (omega (arith, below)), λ j below. absurd (omega (arith, below)))
  begun_searched (call.Table ty) c f is = (λ j below. absurd (omega (arith, below)), λ j below. absurd (omega (arith, below)))
  begun_searched call.Stack c f is = tt
  begun_searched (call.Heap ty) c f is = tt
  begun_searched (call.HeapOver memory) c f is = tt
  begun_searched _ c f is = absurd is

  -- So it begins.
  pub begun_seeks : (maker : MakerTold) (c : PoolCore P H) (f : Frame P H) (request : Call P H) → IsForGrant request → CanStep maker c f → MayBegin maker c.settings c.plan request f → (has : HasAllItNeeds c f.stripe request) → Seeks maker has.grants c f.stripe request has.enough c (begun_call request f)
  begun_seeks maker c f request is can may has =
      let asks : IsAsking request = for_asking request is in
      let idle = idle_of maker c.settings c.plan request f may in
      let rest = at_rest maker c.settings c.plan f can.frame idle in
      record {
        can = begun_can maker c f request asks can may;
        settings = refl;
        plan = refl;
        in_stripe = begun_stripe request f;
        whole = λ w. omega (arith, has.nobody w, begun_weight maker w request c.settings c.plan f can.frame may, idle_weight w f idle rest, nothing_brought maker (grant_weight w) request asks);
        searched = begun_searched request c f is;
        busy = begun_busy request f is;
        stage = begun_stage request f is;
      }

  -- A request that has all it needs isn't refused for room.
  pub never_for_room : (maker : MakerTold) (c : PoolCore P H) (f : Frame P H) (request : Call P H) (before : List (After P H)) (a : After P H) (e : AllocError) → IsForGrant request → CanStep maker c f → MayBegin maker c.settings c.plan request f → HasAllItNeeds c f.stripe request → AreSteps c (begun_call request f) before a → a.outcome ≡ Some (answer.Refused e) → is_for_room e ≡ false
  never_for_room maker c f request before a e is can may has steps refused =
      seeks_all maker has.grants c f.stripe request has.enough c (begun_call request f) before a e (begun_seeks maker c f request is can may has) steps refused
