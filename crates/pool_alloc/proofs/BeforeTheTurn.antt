-- All that is shown of a row, before its turn; and that the turn leaves it.
use Rattle.std.proofs.Common.{◌≡◌, ℕ, ◌+◌, ◌*◌, ◌-◌, ◌<◌, ◌≤◌, Bool, true, false, List, [], ◌∷◌, length, All, refl, sym, ap, subst, ◌∙◌, arith, Option, Some, None, ◌==◌, nat_lt, if◌then◌else◌, is_some}
use Rattle.pool_alloc.proofs.Imports.{Plan, SlotKind, memory_kind, table_kind, stack_kind, heap_kind, queues_for, ltb-true, ltb-false, eqb-true, eqb-false, and_parts, nil_from_length, All-nil, All-head, All-tail, All-same, MakerTold, Queue, no_slots}
use Rattle.pool_alloc.proofs.PlanPlaces.{allocator_is}
use Rattle.pool_alloc.specs.PartyTold.{PartyTold}
use Rattle.pool_alloc.proofs.QueueCounts.{leased_first, tables_first}
use Rattle.pool_alloc.specs.StepBounds.{PoolSizes, give_back_bound, sizes_of, flush_left, returns_left, objects_left, queues_left, next_left, steps_at, steps_left}
use Rattle.pool_alloc.specs.Calls.{IsGrantOf, IfGranted}
use Rattle.pool_alloc.specs.Leases.{Lease}
use Rattle.pool_alloc.specs.PoolTables.{IsTableLease}
use Rattle.pool_alloc.specs.TableLeases.{LeasedTable}
use Rattle.pool_alloc.specs.Places.{Counter, Weight, counted_instance, counted_component, counted_object, only, leased_count, tables_count, instance_count, instance_counted, taken_count, instances_for, queued_count, freed_count, kept_count, phase_count, phase_counted, phase_instances, away_weight, frame_weight}
use Rattle.pool_alloc.specs.Objects.{objects_in, objects_wanted, no_objects, slot_of_object}
use Rattle.pool_alloc.specs.Reserved.{Reserved}
use Rattle.pool_alloc.specs.declared.frame.Object.{Object}
use Rattle.pool_alloc.specs.declared.frame.Object.TheVariants.{Memory, Table}
use Rattle.pool_alloc.specs.declared.leases.instance.InstanceLease.{InstanceLease}
use Rattle.pool_alloc.specs.Searches.{AreFull, AreEmpty, IsSearchedBy, IsSearchedAt, IsSearched}
use Rattle.pool_alloc.specs.BetweenSteps.{queue_room, AreSupported, AreTablesSupported, IsLocal, IsLeaseOf, IsObjectOf, AreLeasesOf, AreOfOneKind, IsCore, IsFrame, IsToGrant, Aims, HasNoneWaiting, IsAtRest, IsAiming, IsAllocating, IsReturning, IsShapedAt, AreBegun, IsFreedOf}
use Rattle.pool_alloc.specs.CallStages.{Progress, untested, uncounted, admitted, seeks_single, seeks_stack, tests_heap, seeks_heap, counts_heap, Stage, no_call, keys, asks, returning, refusing, progress_by, stage_by, stage_at, stage_of, Follows, Goes, tests_component, counts_component, purging, reserving, releasing}
use Rattle.pool_alloc.specs.StepReads.{memories_wanted, images_wanted, tables_wanted, stacks_wanted, singles_wanted, memories_kept, tables_kept, IsForInstance, kind_next, allocator_for, queues_searched, queues_next}
use Rattle.pool_alloc.specs.Stepping.{Conserves, RiseByOne, count_granted, grant_weight, is_idle}
use Rattle.pool_alloc.specs.Turns.{Turn, goes, ends, next, flush, search, Row, Left, After, is_granting, failing, returned_next, all_returned, answer_of, next_by, is_flushed, after, finished, stepped, gone_to, stays, ends_with}
use Rattle.pool_alloc.specs.declared.pool_core.PoolCore.{PoolCore}
use Rattle.pool_alloc.specs.declared.pool_core.Settings.{Settings}
use Rattle.pool_alloc.specs.declared.frame.Ending.{Ending}
use Rattle.pool_alloc.specs.declared.frame.Ending.TheVariants.{Granted as granted, Returned as returned, Refused as refused}
use Rattle.pool_alloc.specs.declared.frame.Frame.{Frame}
use Rattle.pool_alloc.specs.declared.frame.FreedSlot.{FreedSlot}
use Rattle.pool_alloc.specs.declared.frame.Grant.{Grant}
use Rattle.pool_alloc.specs.declared.frame.Grant.TheVariants.{Instance}
use Rattle.pool_alloc.specs.declared.frame.Asked.{Asked}
use Rattle.pool_alloc.specs.declared.frame.Asked.TheVariants.{Memory as memory_asked, Table as table_asked, Stack as stack_asked, Heap as heap_asked, HeapOver as heap_over_asked}
use Rattle.pool_alloc.specs.declared.frame.Outcome.{Outcome}
use Rattle.pool_alloc.specs.declared.frame.Outcome.TheVariants as answer
use Rattle.pool_alloc.specs.declared.frame.Phase.{Phase}
use Rattle.pool_alloc.specs.declared.frame.Phase.TheVariants.{Pick, TakeQueue, UncountObject, Flush, UncountInstance}

-- one more of so many
pub one_more : (m n x : ℕ) → m ≡ n + 1 → m * x ≡ n * x + x
one_more m n x e = ap (λ (i : ℕ). i * x) e ∙ omega arith

pub empty_length : {X : Type 0} (xs : List X) → (length xs == 0) ≡ true → xs ≡ []
empty_length xs e = nil_from_length xs (eqb-true (length xs) 0 e)

pub some_length : {X : Type 0} (xs : List X) → (length xs == 0) ≡ false → 0 < length xs
some_length [] e = absurd (eqb-false 0 0 e refl)
some_length (x ∷ xs) e = omega arith

-- what a frame has, in whatever phase
pub record IsHeld {P : Type 0} (maker : MakerTold) (s : Settings) (plan : Plan) (in_stripe : ℕ) (local : Queue) (freed : Reserved FreedSlot) (lease : InstanceLease P) : Type 0 where
  pub stripe : in_stripe < length plan.memories
  pub queue : IsLocal maker s local
  pub freed_room : (freed.room ≡ queue_room s.batch) × (length freed.items + length local.slots ≤ queue_room s.batch)
  pub freed_each : All (IsFreedOf plan) freed.items
  pub freed_order : AreOfOneKind freed.items
  pub objects : AreLeasesOf maker s plan lease

-- one less of so many
pub one_less : (n x : ℕ) → 0 < n → n * x ≡ (n - 1) * x + x
one_less n x some = one_more n (n - 1) x (omega (arith, some))

-- what a step has in hand, whatever each weighs
abbrev pub Hand : Type 0
Hand = Weight → ℕ

-- one counts itself once, and no other
pub only_one : (k j : Counter) → only k j ≤ 1
only_one counted_instance counted_instance = omega arith
only_one counted_component counted_component = omega arith
only_one (counted_object memory_kind) (counted_object memory_kind) = omega arith
only_one (counted_object table_kind) (counted_object table_kind) = omega arith
only_one (counted_object stack_kind) (counted_object stack_kind) = omega arith
only_one (counted_object heap_kind) (counted_object heap_kind) = omega arith
only_one _ _ = omega arith

-- objects of which there are none weigh nothing
pub none_weighs : {P : Type 0} (w : Weight) (lease : InstanceLease P) → lease.memories.items ≡ [] → lease.tables.items ≡ [] → instance_count w.unit lease + instance_counted w.counts lease ≡ 0
none_weighs w lease none none_more =
    let M : List Lease → ℕ = λ ls. leased_count w.unit ls + length ls * w.counts (counted_object memory_kind) in
    let T : List LeasedTable → ℕ = λ ls. tables_count w.unit ls + length ls * w.counts (counted_object table_kind) in
    omega (arith, ap M none, ap T none_more)

-- no search goes through more queues than that for a memory
pub queues_few : (plan : Plan) (kind : SlotKind) → queues_for plan kind ≤ queues_searched plan
queues_few plan memory_kind = omega arith
queues_few plan table_kind = omega arith
queues_few plan stack_kind = omega arith
queues_few plan heap_kind = omega arith

-- A call that gives back is at one stage, however much it has.
pub stage_still : (asked : Asked) (e : Ending) (m n : ℕ) → is_granting e ≡ false → stage_by asked e m ≡ stage_by asked e n
stage_still asked granted m n e = absurd cc
stage_still asked returned m n e = refl
stage_still asked (refused x) m n e = refl

-- what a call keeps of its objects is what it asks for, but for an object by itself
pub record IsKept (asked : Asked) : Type 0 where
  pub memories : memories_kept asked ≤ length (memories_wanted asked)
  pub tables : tables_kept asked ≤ length (tables_wanted asked)
  pub all : memories_kept asked + tables_kept asked + singles_wanted asked ≡ length (memories_wanted asked) + length (tables_wanted asked)
  pub single : singles_wanted asked ≡ 1 → memories_kept asked + tables_kept asked ≡ 0

pub kept_of : (asked : Asked) → IsKept asked
kept_of (memory_asked m) = record { memories = omega arith; tables = omega arith; all = omega arith; single = λ one. omega arith }
kept_of (table_asked ty) = record { memories = omega arith; tables = omega arith; all = omega arith; single = λ one. omega arith }
kept_of asked = record { memories = omega arith; tables = omega arith; all = omega arith; single = λ one. omega (arith, one) }

-- a call that is for no object by itself counts its instance, and is admitted with it
pub counts_one : (asked : Asked) → IsForInstance asked → instances_for asked ≡ 1
counts_one (memory_asked m) one = absurd (omega (arith, one.no_single))
counts_one (table_asked ty) one = absurd (omega (arith, one.no_single))
counts_one stack_asked one = absurd (omega (arith, one.no_stack))
counts_one (heap_asked ty) one = absurd (omega (arith, one.no_heap))
counts_one (heap_over_asked memory) one = absurd (omega (arith, one.no_heap))
counts_one asked one = refl

pub is_admitted : (asked : Asked) (n : ℕ) → IsForInstance asked → progress_by asked n ≡ admitted n
is_admitted (memory_asked m) n one = absurd (omega (arith, one.no_single))
is_admitted (table_asked ty) n one = absurd (omega (arith, one.no_single))
is_admitted stack_asked n one = absurd (omega (arith, one.no_stack))
is_admitted (heap_asked ty) n one = absurd (omega (arith, one.no_heap))
is_admitted (heap_over_asked memory) n one = absurd (omega (arith, one.no_heap))
is_admitted asked n one = refl

-- A call that counts no instance is for an object by itself. It may end at a stage of such a call, with no object left; one that
-- is refused has none made yet.
abbrev pub CountsNone : Asked → Type 0
CountsNone asked = instances_for asked ≡ 0

abbrev pub MayEnd : ℕ → Stage → Type 0
MayEnd objects (asks uncounted) = ⊥
MayEnd objects (asks (admitted n)) = ⊥
MayEnd objects (asks (seeks_single n)) = objects ≡ 0 → n ≡ 0
MayEnd objects (asks (seeks_heap n)) = objects ≡ 0 → n ≡ 0
MayEnd objects counts_component = ⊥
MayEnd objects _ = Unit {0}

-- nothing is granted yet of a request for a stack
pub none_for_stack : {P : Type 0} (s : Settings) (plan : Plan) (asked : Asked) (queues : ℕ) (objects : InstanceLease P) → IsToGrant s plan asked queues objects → asked ≡ stack_asked → objects_in objects ≡ 0
none_for_stack s plan asked queues objects to_grant is =
    let no_memory : memories_kept asked ≡ 0 = rw is refl in
    let no_table : tables_kept asked ≡ 0 = rw is refl in
    omega (arith, to_grant.few, to_grant.few_tables, no_memory, no_table)

-- what a request gives back where it is refused is within what is left of it
pub returns_less : {P : Type 0} (asked : Asked) (z : PoolSizes) (objects : InstanceLease P) → stacks_wanted asked ≡ 0 → returns_left z objects ≤ objects_left z asked objects
returns_less stack_asked z objects none = absurd (omega (arith, none))
returns_less asked z objects none = omega (arith, one_more (objects_in objects + 1) (objects_in objects) (give_back_bound z) refl)

returns_few : {P : Type 0} (asked : Asked) (z : PoolSizes) (objects : InstanceLease P) → (asked ≡ stack_asked → objects_in objects ≡ 0) → returns_left z objects ≤ 1 + objects_left z asked objects
returns_few stack_asked z objects none = let no : objects_in objects * give_back_bound z ≡ 0 * give_back_bound z = ap (λ (i : ℕ). i * give_back_bound z) (none refl) in omega (arith, no)
returns_few asked z objects none = omega (arith, one_more (objects_in objects + 1) (objects_in objects) (give_back_bound z) refl)

module _ {P H : Type 0} where
  -- a frame in a phase
  abbrev pub in_phase : Phase P H → Frame P H → Frame P H
  in_phase phase f = record f { phase = phase }

  abbrev pub Held : MakerTold → Settings → Plan → Frame P H → Type 0
  Held maker s plan f = IsHeld maker s plan f.stripe f.local f.freed f.objects

  pub held_of : (maker : MakerTold) (s : Settings) (plan : Plan) (f : Frame P H) → IsFrame maker s plan f → Held maker s plan f
  held_of maker s plan f frame = record { stripe = frame.stripe; queue = frame.queue; freed_room = frame.freed_room; freed_each = frame.freed_each; freed_order = frame.freed_order; objects = frame.objects }

  pub frame_of : (maker : MakerTold) (s : Settings) (plan : Plan) (f : Frame P H) → Held maker s plan f → IsShapedAt maker s plan f.phase f → IsFrame maker s plan f
  frame_of maker s plan f held shape = record { stripe = held.stripe; queue = held.queue; freed_room = held.freed_room; freed_each = held.freed_each; freed_order = held.freed_order; objects = held.objects; shape = shape }

  -- nothing waits once all is flushed
  pub flushed : (maker : MakerTold) (s : Settings) (plan : Plan) (f : Frame P H) → Held maker s plan f → is_flushed f ≡ true → HasNoneWaiting f
  flushed maker s plan f held done =
      let both = and_parts (length f.local.slots == 0) (length f.freed.items == 0) done in
      let none : f.local.slots ≡ [] = empty_length f.local.slots both.0 in
      record { no_ranges = no_slots f.local.ranges f.local.slots none held.queue.owners; no_slots = none; none_freed = empty_length f.freed.items both.1 }

  -- what a frame has but for its next step
  abbrev pub listed_weight : Weight → Frame P H → ℕ
  listed_weight w f = instance_count w.unit f.objects + queued_count w.unit f.local.slots + freed_count w.unit f.freed.items + instance_counted w.counts f.objects

  -- what a turn has in hand, of a call for this
  abbrev pub hand : Asked → Turn P H → Hand
  hand asked (goes p) w = phase_count w.unit p + phase_counted w.counts p + phase_instances p * instances_for asked * w.counts counted_instance
  hand asked (ends o) w = count_granted (grant_weight w) (Some o)
  hand asked _ w = instances_for asked * w.counts counted_instance

module _ {P H : Type 0} where
  -- no grant is answered by an ending
  pub none_granted : (Q : _) (e : Ending) → IfGranted {P = P} {H = H} Q (Some (answer_of e))
  none_granted Q granted = tt
  none_granted Q returned = tt
  none_granted Q (refused x) = tt

module _ {P H : Type 0} where
  pub none_counted : (of : Grant P H → ℕ) (e : Ending) → count_granted of (Some (answer_of e)) ≡ 0
  none_counted of granted = refl
  none_counted of returned = refl
  none_counted of (refused x) = refl

  -- the steps that a turn leaves
  abbrev pub turn_steps : PoolSizes → Turn P H → Frame P H → ℕ
  turn_steps z (goes p) f = steps_at z p (gone_to p f)
  turn_steps z stays f = 0
  turn_steps z (ends o) f = 0
  turn_steps z next f = next_left z f.ending f.queues f.asked f.objects
  turn_steps z flush f = flush_left z f.local f.freed + next_left z f.ending f.queues f.asked f.objects
  turn_steps z (search queues x) f = queues_left z f.queues f.asked f.objects

  -- how far a search is that goes on so
  abbrev pub TurnSearched : PoolCore P H → Frame P H → Turn P H → Type 0
  TurnSearched c f (goes p) = IsSearchedAt p c (gone_to p f)
  TurnSearched c f stays = Unit {0}
  TurnSearched c f (ends o) = Unit {0}
  TurnSearched c f next = IsSearchedBy f.ending (AreEmpty f.queues c f)
  TurnSearched c f flush = IsSearchedBy f.ending (AreEmpty f.queues c f)
  TurnSearched c f (search queues x) = AreEmpty f.queues c f × AreFull (allocator_for c.plan f).shards c f

-- A step of a pool d and a frame e, over a limiter and a maker of heaps.
module _ {P H : Type 0} (maker : MakerTold) (old new : PartyTold) (d : PoolCore P H) (e : Frame P H) where
  abbrev pub GoesNow : Stage → Option (Outcome P H) → Type 0
  GoesNow stage outcome = Goes maker old new d e (stage_of e) stage outcome

  -- The sums are those of the step's beginning, with what is in hand.
  abbrev pub Even : Hand → PoolCore P H → Frame P H → Type 0
  Even h c f = (w : Weight) → kept_count w.unit c + (listed_weight w f + h w) + away_weight w d ≡ kept_count w.unit d + frame_weight w e + away_weight w c

  -- what is there, whatever comes next
  pub record Kept (c : PoolCore P H) (f : Frame P H) : Type 0 where
    pub core : IsCore maker c
    pub held : Held maker c.settings c.plan f
    pub asked : f.asked ≡ e.asked
    pub settings : c.settings ≡ d.settings
    pub plan : c.plan ≡ d.plan
    pub by_one : RiseByOne d.counters c.counters

  -- what a turn wants of the frame
  abbrev pub TurnShape : PoolCore P H → Frame P H → Turn P H → Type 0
  TurnShape c f (goes p) = (is_idle p ≡ false) × IsShapedAt maker c.settings c.plan p (gone_to p f)
  TurnShape c f stays = ⊥
  TurnShape c f (ends o) = IsAtRest f × IfGranted (IsGrantOf maker c.settings c.plan e.asked) (Some o)
  TurnShape c f next = HasNoneWaiting f × IsAiming c.settings c.plan f
  TurnShape c f flush = IsAiming c.settings c.plan f
  TurnShape c f (search queues x) = (queues ≡ queues_next c.plan f) × HasNoneWaiting f × IsAllocating c.settings c.plan f

  -- and takes the call on so
  abbrev pub TurnGoes : PoolCore P H → Frame P H → Turn P H → Type 0
  TurnGoes c f (goes p) = GoesNow (stage_at p f.asked f.ending (objects_in f.objects)) None
  TurnGoes c f (ends o) = GoesNow no_call (Some o)
  TurnGoes c f stays = Unit {0}
  TurnGoes c f next = GoesNow (stage_by f.asked f.ending (objects_in f.objects)) None
  TurnGoes c f flush = GoesNow (stage_by f.asked f.ending (objects_in f.objects)) None
  TurnGoes c f (search queues x) = GoesNow (stage_by f.asked f.ending (objects_in f.objects)) None × (queues ≤ f.queues → GoesNow (refusing x) None)

  -- what a row shows of what it leaves, before its turn
  pub record Ready (c : PoolCore P H) (f : Frame P H) (t : Turn P H) : Type 0 where
    pub kept : Kept c f
    pub shape : TurnShape c f t
    pub even : Even (hand e.asked t) c f
    pub fewer : turn_steps (sizes_of d.settings d.plan) t f + 1 ≤ steps_left d e
    pub way : TurnGoes c f t
    pub searched : IsSearched d e → TurnSearched c f t

  abbrev pub IsReadyRow : Row (PoolCore P H) P H → Type 0
  IsReadyRow r = Ready r.part r.frame r.turn

  -- the same of what a step leaves
  pub record RowOk (a : After P H) : Type 0 where
    pub core : IsCore maker a.core
    pub frame : IsFrame maker a.core.settings a.core.plan a.frame
    pub granted_is : IfGranted (IsGrantOf maker a.core.settings a.core.plan e.asked) a.outcome
    pub conserves : Conserves d e a
    pub settings : a.core.settings ≡ d.settings
    pub plan : a.core.plan ≡ d.plan
    pub answer : is_some a.outcome ≡ is_idle a.frame.phase
    pub by_one : RiseByOne d.counters a.core.counters
    pub asked : is_idle a.frame.phase ≡ false → a.frame.asked ≡ e.asked
    pub fewer : steps_at (sizes_of d.settings d.plan) a.frame.phase a.frame + 1 ≤ steps_left d e
    pub way : GoesNow (stage_of a.frame) a.outcome
    pub searched : IsSearched d e → IsSearched a.core a.frame

  pub either_ready : (c : PoolCore P H) (f : Frame P H) (b : Bool) (t u : Turn P H) → (b ≡ true → Ready c f t) → (b ≡ false → Ready c f u) → Ready c f (if b then t else u)
  either_ready c f true t u one other = one refl
  either_ready c f false t u one other = other refl

  either_ok : (c : PoolCore P H) (b : Bool) (x y : Left P H) → (b ≡ true → RowOk (finished c x)) → (b ≡ false → RowOk (finished c y)) → RowOk (finished c (if b then x else y))
  either_ok c true x y one other = one refl
  either_ok c false x y one other = other refl

  pub goes_ok : (c : PoolCore P H) (f : Frame P H) (p : Phase P H) → Ready c f (goes p) → RowOk (finished c (after f (goes p)))
  goes_ok c f p r =
      record {
        core = r.kept.core;
        frame = frame_of maker c.settings c.plan (gone_to p f) r.kept.held r.shape.1;
        granted_is = tt;
        conserves = λ w. omega (arith, r.even w, ap (λ (x : Asked). phase_instances p * instances_for x * w.counts counted_instance) r.kept.asked);
        settings = r.kept.settings;
        plan = r.kept.plan;
        answer = sym r.shape.0;
        by_one = r.kept.by_one;
        asked = λ on. r.kept.asked;
        fewer = r.fewer;
        way = r.way;
        searched = r.searched;
      }

  pub ends_ok : (c : PoolCore P H) (f : Frame P H) (o : Outcome P H) → Ready c f (ends o) → RowOk (finished c (after f (ends o)))
  ends_ok c f o r =
      record {
        core = r.kept.core;
        frame = frame_of maker c.settings c.plan (after f (ends o)).frame r.kept.held r.shape.0;
        granted_is = r.shape.1;
        conserves = λ w. omega (arith, r.even w);
        settings = r.kept.settings;
        plan = r.kept.plan;
        answer = refl;
        by_one = r.kept.by_one;
        asked = λ on. absurd cc;
        fewer = r.fewer;
        way = r.way;
        searched = λ s. tt;
      }

  -- what was granted so far is given back, or is still to be
  abbrev GoesBack : PoolCore P H → Frame P H → Type 0
  GoesBack c f = Kept c f × HasNoneWaiting f × IsReturning f × Even (hand {P = P} {H = H} e.asked next) c f × (returns_left (sizes_of d.settings d.plan) f.objects + 1 ≤ steps_left d e) × GoesNow (stage_by f.asked f.ending (objects_in f.objects)) None

  -- with one object less
  less_ok : (c : PoolCore P H) (f : Frame P H) (objects : InstanceLease P) (object : Object P) → GoesBack c f → objects_in f.objects ≡ objects_in objects + 1 → AreLeasesOf maker c.settings c.plan objects → IsObjectOf maker c.settings c.plan object
      → ((w : Weight) → instance_count w.unit f.objects + instance_counted w.counts f.objects ≡ instance_count w.unit objects + instance_counted w.counts objects + (taken_count w.unit (slot_of_object object) + w.counts (counted_object (slot_of_object object).name.kind)))
      → RowOk (finished c (after (record f { objects = objects }) (goes (UncountObject object))))
  less_ok c f objects object back long leases is counts =
      let kept : Kept c f = back.0 in
      let returning : IsReturning f = back.2 in
      let even : Even (hand {P = P} {H = H} e.asked next) c f = back.3 in
      let W : Stage → Type 0 = λ stage. GoesNow stage None in
      goes_ok c (record f { objects = objects }) (UncountObject object)
      (record {
        kept = record {
          core = kept.core;
          held = record { stripe = kept.held.stripe; queue = kept.held.queue; freed_room = kept.held.freed_room; freed_each = kept.held.freed_each; freed_order = kept.held.freed_order; objects = leases };
          asked = kept.asked;
          settings = kept.settings;
          plan = kept.plan;
          by_one = kept.by_one;
        };
        shape = (refl, (back.1, returning, is));
        even = λ w. omega (arith, even w, counts w);
        fewer = omega (arith, back.4, one_more (objects_in f.objects) (objects_in objects) (give_back_bound (sizes_of d.settings d.plan)) long);
        way = subst W (stage_still f.asked f.ending (objects_in f.objects) (objects_in objects) returning) back.5;
        searched = λ s. tt;
      })

  -- where none is left
  ends_all : (s : Stage) (asked : Asked) (ending : Ending) (n : ℕ) → is_granting ending ≡ false → n ≡ 0 → MayEnd n s → Goes maker old new d e s (stage_by asked ending n) None → Goes maker old new d e s no_call (Some (answer_of ending))
  ends_all s asked granted n back none may way = absurd cc
  ends_all returning asked returned n back none may way = tt
  ends_all no_call asked returned n back none may way = absurd way
  ends_all keys asked returned n back none may way = absurd way
  ends_all (asks p) asked returned n back none may way = absurd way
  ends_all (tests_component info) asked returned n back none may way = absurd way
  ends_all counts_component asked returned n back none may way = absurd way
  ends_all (refusing y) asked returned n back none may way = absurd way
  ends_all purging asked returned n back none may way = absurd way
  ends_all reserving asked returned n back none may way = absurd way
  ends_all releasing asked returned n back none may way = absurd way
  ends_all purging asked (refused x) n back none may way = absurd way
  ends_all reserving asked (refused x) n back none may way = absurd way
  ends_all releasing asked (refused x) n back none may way = absurd way
  ends_all returning asked (refused x) n back none may way = absurd way
  ends_all no_call asked (refused x) n back none may way = absurd way
  ends_all keys asked (refused x) n back none may way = absurd way
  ends_all (tests_component info) asked (refused x) n back none may way = absurd way
  ends_all counts_component asked (refused x) n back none may way = absurd may
  ends_all (asks untested) asked (refused x) n back none may way = way
  ends_all (asks uncounted) asked (refused x) n back none may way = absurd may
  ends_all (asks (admitted m)) asked (refused x) n back none may way = absurd may
  ends_all (asks (seeks_single m)) asked (refused x) n back none may way = (way, may none)
  ends_all (asks seeks_stack) asked (refused x) n back none may way = way
  ends_all (asks tests_heap) asked (refused x) n back none may way = way
  ends_all (asks (seeks_heap m)) asked (refused x) n back none may way = (way, may none)
  ends_all (asks counts_heap) asked (refused x) n back none may way = absurd way
  ends_all (refusing y) asked (refused x) n back none may way = way

  -- the call ends, as it counts no instance
  none_left_ok : (asked : Asked) (c : PoolCore P H) (f : Frame P H) → f.asked ≡ asked → CountsNone asked → IsAtRest f → GoesBack c f → (CountsNone e.asked → MayEnd (objects_in f.objects) (stage_of e)) → RowOk (finished c (ends_with f (answer_of f.ending)))
  none_left_ok asked c f is none rest back may =
      let kept : Kept c f = back.0 in
      let asked_is : e.asked ≡ asked = sym kept.asked ∙ is in
      let N : Asked → Type 0 = λ a. CountsNone a in
      let counts : CountsNone e.asked = subst N (sym asked_is) none in
      let empty : objects_in f.objects ≡ 0 = omega (arith, ap (length {A = Lease}) rest.no_memories, ap (length {A = LeasedTable}) rest.no_tables) in
      ends_ok c f (answer_of f.ending) (record {
        kept = kept;
        shape = (rest, none_granted (IsGrantOf maker c.settings c.plan e.asked) f.ending);
        even = λ w. omega (arith, back.3 w, none_counted {P = P} {H = H} (grant_weight w) f.ending, ap (λ (n : ℕ). n * w.counts counted_instance) counts);
        fewer = omega (arith, back.4);
        way = ends_all (stage_of e) f.asked f.ending (objects_in f.objects) back.2 empty (may counts) back.5;
        searched = λ s. tt;
      })

  all_ok : (asked : Asked) (c : PoolCore P H) (f : Frame P H) → f.asked ≡ asked → IsAtRest f → GoesBack c f → (CountsNone e.asked → MayEnd (objects_in f.objects) (stage_of e)) → RowOk (finished c (all_returned asked f))
  all_ok (memory_asked m) c f is rest back may = none_left_ok (memory_asked m) c f is refl rest back may
  all_ok (table_asked ty) c f is rest back may = none_left_ok (table_asked ty) c f is refl rest back may
  all_ok stack_asked c f is rest back may = none_left_ok stack_asked c f is refl rest back may
  all_ok (heap_asked ty) c f is rest back may = none_left_ok (heap_asked ty) c f is refl rest back may
  all_ok (heap_over_asked memory) c f is rest back may = none_left_ok (heap_over_asked memory) c f is refl rest back may
  all_ok asked c f is rest back may =
      goes_ok c f UncountInstance (record { kept = back.0; shape = (refl, (rest, back.2, rw is (record { no_stack = refl; no_heap = refl; no_single = refl }))); even = λ w. omega (arith, back.3 w); fewer = omega (arith, back.4); way = back.5; searched = λ s. tt })

  back_ok : (c : PoolCore P H) (f : Frame P H) (memories : List Lease) (tables : List LeasedTable) → f.objects.memories.items ≡ memories → f.objects.tables.items ≡ tables → GoesBack c f → (CountsNone e.asked → MayEnd (objects_in f.objects) (stage_of e)) → RowOk (finished c (returned_next memories tables f))
  back_ok c f [] [] none none_more back may =
      all_ok f.asked c f refl (record { settled = back.1; no_memories = none; no_tables = none_more }) back may
  back_ok c f (lease ∷ rest) tables is is_more back may =
      let L : Lease → Type 0 = IsLeaseOf maker c.settings c.plan in
      let kept : Kept c f = back.0 in
      let all : All L (lease ∷ rest) = All-same L (lease ∷ rest) f.objects.memories.items (sym is) kept.held.objects.0 in
      let long : length f.objects.memories.items ≡ length rest + 1 = ap (length {A = Lease}) is ∙ omega arith in
      less_ok c f (record f.objects { memories = record f.objects.memories { items = rest } }) (Memory lease) back (omega (arith, long)) (All-tail L lease rest all, kept.held.objects.1) (All-head L lease rest all)
      (λ w. omega (arith, leased_first w.unit lease rest, ap (leased_count w.unit) is, one_more (length f.objects.memories.items) (length rest) (w.counts (counted_object memory_kind)) long))
  back_ok c f [] (lease ∷ rest) none is back may =
      let L : LeasedTable → Type 0 = IsTableLease maker c.settings c.plan in
      let kept : Kept c f = back.0 in
      let all : All L (lease ∷ rest) = All-same L (lease ∷ rest) f.objects.tables.items (sym is) kept.held.objects.1 in
      let long : length f.objects.tables.items ≡ length rest + 1 = ap (length {A = LeasedTable}) is ∙ omega arith in
      less_ok c f (record f.objects { tables = record f.objects.tables { items = rest } }) (Table lease) back (omega (arith, long)) (kept.held.objects.0, All-tail L lease rest all) (All-head L lease rest all)
      (λ w. omega (arith, tables_first w.unit lease rest, ap (tables_count w.unit) is, one_more (length f.objects.tables.items) (length rest) (w.counts (counted_object table_kind)) long))

  -- a request for which all is granted goes on to its answer
  granted_way : (stage : Stage) (n : ℕ) (lease : InstanceLease P) → Goes maker old new d e stage (asks (admitted n)) None → n ≡ objects_wanted e.asked → AreSupported d.settings (memories_wanted e.asked) (images_wanted e.asked) → AreTablesSupported d.settings d.plan.totals.table (tables_wanted e.asked) → Goes maker old new d e stage no_call (Some (answer.Granted (Instance lease)))
  granted_way no_call n lease way is supported tables = absurd way
  granted_way keys n lease way is supported tables = absurd way
  granted_way (asks p) n lease way is supported tables = let F : ℕ → Type 0 = λ m. Follows old new d e p (admitted m) in (subst F is way, supported, tables)
  granted_way (tests_component info) n lease way is supported tables = absurd way
  granted_way counts_component n lease way is supported tables = absurd way
  granted_way returning n lease way is supported tables = absurd way
  granted_way (refusing x) n lease way is supported tables = absurd way
  granted_way purging n lease way is supported tables = absurd way
  granted_way reserving n lease way is supported tables = absurd way
  granted_way releasing n lease way is supported tables = absurd way

  -- the instance is whole: the call ends with it
  whole_ready : (c : PoolCore P H) (f : Frame P H) → Kept c f → HasNoneWaiting f → IsToGrant c.settings c.plan f.asked f.queues f.objects → Even (hand {P = P} {H = H} e.asked next) c f → 1 ≤ steps_left d e → GoesNow (asks (progress_by f.asked (objects_in f.objects))) None → objects_wanted f.asked ≤ objects_in f.objects → Ready c (record f { objects = no_objects }) (ends (answer.Granted (Instance f.objects)))
  whole_ready c f kept settled to_grant even fewer way all =
      let W : Asked → Type 0 = λ a. (length f.objects.memories.items ≡ length (memories_wanted a)) × (length f.objects.tables.items ≡ length (tables_wanted a)) in
      let B : Asked → Type 0 = λ a. AreBegun c.settings a f.objects in
      let A : Settings → Asked → Type 0 = λ s a. AreSupported s (memories_wanted a) (images_wanted a) in
      let supported : A d.settings e.asked = subst (A d.settings) kept.asked (subst (λ (s : Settings). A s f.asked) kept.settings to_grant.supported) in
      let of = kept_of f.asked in
      let one : IsForInstance f.asked = record { no_stack = omega (arith, all, to_grant.few, to_grant.few_tables, of.all); no_heap = omega (arith, all, to_grant.few, to_grant.few_tables, of.all); no_single = omega (arith, all, to_grant.few, to_grant.few_tables, of.all) } in
      let T : Settings → Plan → Asked → Type 0 = λ s p a. AreTablesSupported s p.totals.table (tables_wanted a) in
      let tables : T d.settings d.plan e.asked = subst (T d.settings d.plan) kept.asked (subst (λ (p : Plan). T d.settings p f.asked) kept.plan (subst (λ (s : Settings). T s c.plan f.asked) kept.settings (to_grant.tables one.no_single))) in
      let here : IsForInstance e.asked = subst (λ (a : Asked). IsForInstance a) kept.asked one in
      let G : Progress → Type 0 = λ p. GoesNow (asks p) None in
      let long : W e.asked = subst W kept.asked (omega (arith, all, to_grant.few, to_grant.few_tables, of.all, of.memories, of.tables), omega (arith, all, to_grant.few, to_grant.few_tables, of.all, of.memories, of.tables)) in
      record {
        kept = record {
          core = kept.core;
          held = record { stripe = kept.held.stripe; queue = kept.held.queue; freed_room = kept.held.freed_room; freed_each = kept.held.freed_each; freed_order = kept.held.freed_order; objects = (All-nil (IsLeaseOf maker c.settings c.plan), All-nil (IsTableLease maker c.settings c.plan)) };
          asked = kept.asked;
          settings = kept.settings;
          plan = kept.plan;
          by_one = kept.by_one;
        };
        shape = (record { settled = settled; no_memories = refl; no_tables = refl }, (kept.held.objects, long.0, subst B kept.asked to_grant.begun, long.1, here));
        even = λ w. omega (arith, even w, ap (λ (n : ℕ). n * w.counts counted_instance) (counts_one e.asked here));
        fewer = omega (arith, fewer);
        way = granted_way (stage_of e) (objects_in f.objects) f.objects (subst G (is_admitted f.asked (objects_in f.objects) one) way) (omega (arith, long.0, long.1, here.no_stack, here.no_heap)) supported tables;
        searched = λ s. tt;
      }

  next_ok : (c : PoolCore P H) (f : Frame P H) (ending : Ending) → f.ending ≡ ending → Ready c f next → (CountsNone e.asked → MayEnd (objects_in f.objects) (stage_of e)) → RowOk (finished c (next_by ending f))
  next_ok c f granted is r may =
      let z : PoolSizes = sizes_of d.settings d.plan in
      let A : Ending → Type 0 = λ x. Aims c.settings c.plan x f.asked f.queues f.objects in
      let aim : IsToGrant c.settings c.plan f.asked f.queues f.objects = subst A is r.shape.1 in
      let N : Ending → Type 0 = λ x. next_left z x f.queues f.asked f.objects + 1 ≤ steps_left d e in
      let left = subst N is r.fewer in
      let S : Ending → Type 0 = λ x. IsSearchedBy x (AreEmpty f.queues c f) in
      let W : Ending → Type 0 = λ x. GoesNow (stage_by f.asked x (objects_in f.objects)) None in
      either_ok c (nat_lt (objects_in f.objects) (objects_wanted f.asked)) _ _
      (λ more.
      let left_of_picks = rw more at left in
      goes_ok c f (Pick 0) (record {
        kept = r.kept;
        shape = (refl, (r.shape.0, record { ending = is; to_grant = aim; more = ltb-true _ _ more }, (allocator_is c.plan (length c.parts) (kind_next f) f.stripe r.kept.core.plan r.kept.held.stripe).some));
        even = λ w. omega (arith, r.even w);
        fewer = left_of_picks;
        way = r.way;
        searched = λ s. (subst S is (r.searched s), λ j below. absurd (omega (arith, below)));
      }))
      (λ last. ends_ok c (record f { objects = no_objects }) (answer.Granted (Instance f.objects)) (whole_ready c f r.kept r.shape.0 aim r.even (omega (arith, left)) (subst W is r.way) (ltb-false _ _ last)))
  next_ok c f returned is r may =
      let N : Ending → Type 0 = λ x. next_left (sizes_of d.settings d.plan) x f.queues f.asked f.objects + 1 ≤ steps_left d e in
      back_ok c f f.objects.memories.items f.objects.tables.items refl refl (r.kept, r.shape.0, ap is_granting is, r.even, subst N is r.fewer, r.way) may
  next_ok c f (refused x) is r may =
      let N : Ending → Type 0 = λ x. next_left (sizes_of d.settings d.plan) x f.queues f.asked f.objects + 1 ≤ steps_left d e in
      back_ok c f f.objects.memories.items f.objects.tables.items refl refl (r.kept, r.shape.0, ap is_granting is, r.even, subst N is r.fewer, r.way) may

  -- What a turn leaves is as the row shows.
  pub after_ok : (c : PoolCore P H) (f : Frame P H) (t : Turn P H) → Ready c f t → (CountsNone e.asked → MayEnd (objects_in f.objects) (stage_of e)) → RowOk (finished c (after f t))
  after_ok c f (goes p) r may = goes_ok c f p r
  after_ok c f (ends o) r may = ends_ok c f o r
  after_ok c f stays r may = absurd r.shape
  after_ok c f next r may = next_ok c f f.ending refl r may
  after_ok c f flush r may =
      either_ok c (is_flushed f) _ _
      (λ done. next_ok c f f.ending refl (record { kept = r.kept; shape = (flushed maker c.settings c.plan f r.kept.held done, r.shape); even = r.even; fewer = omega (arith, r.fewer); way = r.way; searched = r.searched }) may)
      (λ more. goes_ok c f Flush (record { kept = r.kept; shape = (refl, (r.shape, more)); even = λ w. omega (arith, r.even w); fewer = r.fewer; way = r.way; searched = r.searched }))
  after_ok c f (search queues x) r may =
      either_ok c (nat_lt f.queues queues) _ _
      (λ more. goes_ok c f TakeQueue (record { kept = r.kept; shape = (refl, (r.shape.1, r.shape.2, omega (arith, ltb-true _ _ more, r.shape.0, queues_few c.plan (kind_next f)))); even = λ w. omega (arith, r.even w); fewer = r.fewer; way = r.way.0; searched = r.searched }))
      (λ last.
      let few : returns_left (sizes_of d.settings d.plan) f.objects ≤ 1 + objects_left (sizes_of d.settings d.plan) f.asked f.objects = returns_few f.asked (sizes_of d.settings d.plan) f.objects (λ stack. none_for_stack c.settings c.plan f.asked f.queues f.objects r.shape.2.to_grant stack) in
      back_ok c (failing x f) f.objects.memories.items f.objects.tables.items refl refl (
        record { core = r.kept.core; held = r.kept.held; asked = r.kept.asked; settings = r.kept.settings; plan = r.kept.plan; by_one = r.kept.by_one },
        r.shape.1,
        refl,
        r.even,
        omega (arith, r.fewer, few),
        r.way.1 (ltb-false _ _ last),
      ) may)

  pub row_ok : (r : Row (PoolCore P H) P H) → IsReadyRow r → (CountsNone e.asked → MayEnd (objects_in r.frame.objects) (stage_of e)) → RowOk (stepped r)
  row_ok r ready may = after_ok r.part r.frame r.turn ready may
