-- A whole call over a hall: what it brings, what is so of it as it goes on, and how it ends.
use Rattle.std.specs.Prelude.{◌≡◌, ◌⊎◌, ℕ, ◌+◌, ◌≤◌, false, Option, Some, None}
use Rattle.pool_hall.specs.declared.unit_name.SlotKind.{SlotKind}
use Rattle.pool_hall.specs.declared.view.View.{View}
use Rattle.pool_alloc.specs.Calls.{IsGrantOf, IsIdle, IfGranted}
use Rattle.pool_alloc.specs.CallStages.{Stage, no_call, keys, asks, tests_component, counts_component, returning, refusing, purging, reserving, releasing, stage_of}
use Rattle.pool_alloc.specs.Stepping.{is_idle}
use Rattle.pool_alloc.specs.declared.frame.Asked.{Asked}
use Rattle.pool_alloc.specs.declared.frame.Asked.TheVariants.{Nothing as nothing_asked, Module as module_asked, Memory as memory_asked, Table as table_asked, Stack as stack_asked, Heap as heap_asked, HeapOver as heap_over_asked}
use Rattle.pool_alloc.specs.declared.frame.Call.{Call}
use Rattle.pool_alloc.specs.declared.frame.Call.TheVariants as call
use Rattle.pool_alloc.specs.declared.frame.Frame.{Frame}
use Rattle.pool_alloc.specs.declared.frame.Grant.TheVariants.{Instance, Component, Memory, Table, Stack, Heap, HeapOver}
use Rattle.pool_alloc.specs.declared.frame.Outcome.{Outcome}
use Rattle.pool_alloc.specs.declared.frame.Outcome.TheVariants.{Key, Granted, Returned, Purged, Released, Refused}
use Rattle.pool_slots.specs.declared.plan.Plan.{Plan}
use Rattle.pool_driver.specs.Appending.{IsForOne, NoneAppended, PutsOff, appended_in, each_one, frame_dues, owed_by}
use Rattle.pool_driver.specs.Counts.{counter_limits}
use Rattle.pool_driver.specs.Erasing.{FrameErased, GrantErased}
use Rattle.pool_driver.specs.PartsTold.{PartsTell, PartsTellSoFar}
use Rattle.pool_driver.specs.Placed.{About}
use Rattle.pool_driver.specs.Refusing.{IsCallFor, MayEnd}
use Rattle.pool_driver.specs.Limits.{IfRefused, IfRefusing, KeepsStripe, Names}
use Rattle.pool_driver.specs.Spending.{AnswerSpends, ColdOf, RefusalFewer, Spends, slots_of, wanted_of}
use Rattle.pool_driver.specs.Telling.{AddsAtMost, HoldsMore, Tells, AnswerTold, component_counter, instance_counter}

-- What a call is, to whoever makes it: it draws a key, asks for objects, asks for a component, gives something back, purges, or
-- releases. One that asked, and is refused, is of a kind of its own until it ends.
pub data CallKind : Type 0 where
  draws_key : CallKind
  asks_for : CallKind
  asks_component : CallKind
  is_refused : CallKind
  gives_back : CallKind
  purges : CallKind
  releases : CallKind

-- The kind of a call that is so far; where none is under way, it doesn't matter which.
abbrev pub kind_at : Stage → CallKind
kind_at no_call = draws_key
kind_at keys = draws_key
kind_at (asks p) = asks_for
kind_at (tests_component info) = asks_component
kind_at counts_component = asks_component
kind_at returning = gives_back
kind_at (refusing e) = is_refused
kind_at purging = purges
kind_at reserving = releases
kind_at releasing = releases

-- A call that asks.
abbrev pub IsAsking : CallKind → Type 0
IsAsking asks_for = Unit {0}
IsAsking asks_component = Unit {0}
IsAsking _ = ⊥

-- A call stays of its kind, or it asked and is refused.
abbrev pub Becomes : CallKind → CallKind → Type 0
Becomes first now = (now ≡ first) ⊎ (IsAsking first × (now ≡ is_refused))

-- 1 where a module is asked for.
abbrev pub modules_asked : Asked → ℕ
modules_asked nothing_asked = 0
modules_asked (module_asked m) = 1
modules_asked (memory_asked m) = 0
modules_asked (table_asked ty) = 0
modules_asked stack_asked = 0
modules_asked (heap_asked ty) = 0
modules_asked (heap_over_asked memory) = 0

-- How many instances a call of a kind counts at most, by what it asks for: one where it asks for a module.
abbrev pub instances_of : CallKind → Asked → ℕ
instances_of asks_for what = modules_asked what
instances_of _ what = 0

-- How many components it counts at most: one where it asks for a component.
abbrev pub components_of : CallKind → ℕ
components_of asks_component = 1
components_of _ = 0

-- How many objects of a kind it is granted at most: as many as it asks for.
abbrev pub objects_of : CallKind → SlotKind → Asked → ℕ
objects_of asks_for kind what = wanted_of kind what
objects_of _ kind what = 0

module _ {P H : Type 0} where
  -- The kind of a call.
  abbrev pub kind_of : Call P H → CallKind
  kind_of call.Key = draws_key
  kind_of (call.Module m) = asks_for
  kind_of (call.Component info) = asks_component
  kind_of (call.Memory m) = asks_for
  kind_of (call.Table ty) = asks_for
  kind_of call.Stack = asks_for
  kind_of (call.Heap ty) = asks_for
  kind_of (call.HeapOver memory) = asks_for
  kind_of (call.GiveBack grant) = gives_back
  kind_of (call.Purge id) = purges
  kind_of call.Release = releases

  -- What a call of a kind may be answered: a component is granted only where one is asked for, and then nothing else is; a give-back, a
  -- purge and a key are never refused.
  abbrev pub MayAnswer : CallKind → Outcome P H → Type 0
  MayAnswer draws_key Key = Unit {0}
  MayAnswer asks_for (Granted (Instance lease)) = Unit {0}
  MayAnswer asks_for (Granted (Memory lease)) = Unit {0}
  MayAnswer asks_for (Granted (Table lease)) = Unit {0}
  MayAnswer asks_for (Granted (Stack lease)) = Unit {0}
  MayAnswer asks_for (Granted (Heap lease memory)) = Unit {0}
  MayAnswer asks_for (Granted (HeapOver lease)) = Unit {0}
  MayAnswer asks_for (Refused e) = Unit {0}
  MayAnswer asks_component (Granted Component) = Unit {0}
  MayAnswer asks_component (Refused e) = Unit {0}
  MayAnswer is_refused (Refused e) = Unit {0}
  MayAnswer gives_back Returned = Unit {0}
  MayAnswer purges (Purged n) = Unit {0}
  MayAnswer releases (Released n) = Unit {0}
  MayAnswer releases (Refused e) = Unit {0}
  MayAnswer _ _ = ⊥

  -- What a call brings into its frame: a grant that is given back, as the call that granted it answered it.
  abbrev pub brought : Call P H → Option (Outcome P H)
  brought (call.GiveBack grant) = Some (Granted grant)
  brought _ = None

  -- Of a kind a call picked no more cold slots than it asks for, and while it is to be granted no more than it has. So one that doesn't ask
  -- for objects picked none.
  pub record PicksCold {T : Type 0} (plan : Plan) (base v : View T) (first f : Frame P H) (kind : SlotKind) : Type 0 where
    pub most : ColdOf base v plan kind (objects_of (kind_at (stage_of first)) kind first.asked)
    pub now : kind_at (stage_of f) ≡ asks_for → ColdOf base v plan kind (slots_of kind f)

  -- Where resets put off what they leave, a call that gives back has appended as many slots as it owed when it began, but for those that it
  -- owes still. One for one object has appended none, and has nothing to give back.
  pub record Appends {T : Type 0} (a : About) (base v : View T) (first f : Frame P H) : Type 0 where
    pub back : kind_at (stage_of first) ≡ gives_back → PutsOff a.settings → appended_in a.plan base + frame_dues (owed_by a.settings) first ≤ appended_in a.plan v + frame_dues (owed_by a.settings) f
    pub one : kind_at (stage_of first) ≡ asks_for → IsForOne first.asked → NoneAppended base v a.plan × (frame_dues each_one f ≡ 0)

  -- The same of a call that has ended, which owes nothing any more.
  pub record HasAppended {T : Type 0} (a : About) (base v : View T) (first : Frame P H) : Type 0 where
    pub back : kind_at (stage_of first) ≡ gives_back → PutsOff a.settings → appended_in a.plan base + frame_dues (owed_by a.settings) first ≤ appended_in a.plan v
    pub one : kind_at (stage_of first) ≡ asks_for → IsForOne first.asked → NoneAppended base v a.plan

  -- A call began with the first view and the first frame, and goes on. The second view tells what it must of the call so far, and of its
  -- parts, and how many cold slots it picked of each kind. A refusal with which it is to end names what it must. Its home, its stripe, what it
  -- asks for and its kind stay, it counted no more than it may, and it may end only as it might have from its beginning.
  pub record GoesOnSince {T : Type 0} (a : About) (base v : View T) (first f : Frame P H) : Type 0 where
    pub busy : is_idle f.phase ≡ false
    pub tells : Tells base v a.plan f
    pub spends : Spends base v a.plan f
    pub cold : (kind : SlotKind) → PicksCold a.plan base v first f kind
    pub fewer : IfRefusing (RefusalFewer base v a.plan first.asked) (stage_of f)
    pub appends : Appends a base v first f
    pub erased : kind_at (stage_of f) ≡ asks_for → FrameErased f
    pub parts : PartsTellSoFar a base v f
    pub more : HoldsMore base v
    pub limits : v.limits ≡ counter_limits a.settings
    pub portions : v.portions ≡ base.portions
    pub names : IfRefusing (Names a.settings a.plan f.stripe) (stage_of f)
    pub home : f.home ≡ first.home
    pub stripe : f.stripe ≡ first.stripe
    pub asked : f.asked ≡ first.asked
    pub kind : Becomes (kind_at (stage_of first)) (kind_at (stage_of f))
    pub instances : AddsAtMost base v instance_counter (instances_of (kind_at (stage_of first)) first.asked)
    pub components : AddsAtMost base v component_counter (components_of (kind_at (stage_of first)))
    pub sort : IsCallFor (stage_of f) f.asked
    pub ends : (o : Outcome P H) → MayEnd a.settings a.plan f.asked (stage_of f) o → MayEnd a.settings a.plan first.asked (stage_of first) o

  -- Such a call has ended with this answer, which is one of its kind. A grant has what was asked for, and its memories' regions were erased no
  -- more often than their units tell. It might end so from its beginning: each refusal has a reason that what was asked for may have, and
  -- what is granted passed its test. A refusal for want of room or by a counter names how many the pool may have, and one for want of a
  -- memory the frame's stripe; it has its reason in the second view, which has forgotten nothing of the first, and tells what it must of the
  -- pool's parts. A give-back took no queue, and appended what it owed to them; a call for one object appended nothing. Only a key changed
  -- the stripe. A call for a stack picked one cold slot at most, and none where it wasn't granted. Of each kind a call picked no more cold
  -- slots than it asks for, and fewer of the kind for which there was no room. One addition was made at most on the counter of instances,
  -- and only by a call for a module; and one at most on that of components, and only by a call for a component.
  pub record HasEnded {T : Type 0} (a : About) (base v : View T) (first f : Frame P H) (o : Outcome P H) : Type 0 where
    pub idle : IsIdle f
    pub kind : MayAnswer (kind_at (stage_of first)) o
    pub ends : MayEnd a.settings a.plan first.asked (stage_of first) o
    pub granted : IfGranted (IsGrantOf a.maker a.settings a.plan first.asked) (Some o)
    pub erased : IfGranted GrantErased (Some o)
    pub names : IfRefused (Names a.settings a.plan f.stripe) o
    pub told : AnswerTold base v a.plan first.home (Some o)
    pub spends : AnswerSpends base v a.plan first.asked (Some o)
    pub cold : (kind : SlotKind) → ColdOf base v a.plan kind (objects_of (kind_at (stage_of first)) kind first.asked)
    pub fewer : IfRefused (RefusalFewer base v a.plan first.asked) o
    pub appended : HasAppended a base v first
    pub parts : PartsTell a base v o
    pub more : HoldsMore base v
    pub instances : AddsAtMost base v instance_counter (instances_of (kind_at (stage_of first)) first.asked)
    pub components : AddsAtMost base v component_counter (components_of (kind_at (stage_of first)))
    pub portions : v.portions ≡ base.portions
    pub home : f.home ≡ first.home
    pub stripe : KeepsStripe o first.stripe f.stripe
