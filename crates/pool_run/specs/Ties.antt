-- What a party was told, and what it has: between two turns they fit each other.
use Rattle.std.specs.Prelude.{◌≡◌, ℕ, ◌+◌, ◌<◌, ◌≤◌, List, [], length, slice_get, slice_index_or, slice_set, sum_by, All, Bool, true, false, Option, Some, None, IsSome, IfSome}
use Rattle.pool_run.specs.Imports.{MakerTold, ComponentInfo, Limits, AllocError, component_refused, Reserved, IsSearched, Progress, untested, uncounted, admitted, tests_heap, seeks_heap, counts_heap, Stage, no_call, keys, asks, returning, refusing, purging, reserving, releasing, stage_of, seeks_stack, tests_component, counts_component, memories_wanted, images_wanted, tables_wanted, info_wanted, IsModule, Want, wants_from, SlotName, PlainHeap, right_to, region_of, away_count, kept_count, IsGrant, IsCore, IsFrame, Holding, IsPartitioned, PoolCore, Frame, Asked, heap_asked, Grant, Weight, of_units, away_weight, frame_weight, grant_weight}
use Rattle.pool_run.specs.Private.{Grants, Terms, module_of, Request, request_of, wants_of, grant_at, own_refusal, IsCause, IsComponentRefused, stack_refusal, heap_barred, heap_refusal, CountsGranted, CountsRefused, RefusesHeap, PrivateState, StepsBy, with_grants}
use Rattle.pool_run.specs.Rooms.{World, PooledStep, IsForRoom, TellsComponentRoom, TellsStackRoom, TellsHeapRoom, instance_count}
use Rattle.pool_run.specs.Turns.{grants_of}
use Rattle.pool_run.specs.Acts.{requests, drops, purges, releases, act_at, Wanted, an_instance, a_component, a_stack, a_heap, heap_type}
use Rattle.pool_run.specs.declared.command.Command.{Command}
use Rattle.pool_run.specs.declared.reply.Reply.{Reply}
use Rattle.pool_run.specs.declared.reply.Reply.TheVariants.{Refused}
use Rattle.pool_run.specs.declared.reply.Refusal.TheVariants.{Alloc}
use Rattle.pool_run.specs.declared.running_party.RunningParty.{RunningParty}
use Rattle.pool_run.specs.declared.slot_lists.SlotLists.{SlotLists}

-- thing k that is asked for has no refusal of its own
abbrev pub HasNoRefusal : Terms → List Want → ℕ → Type 0
HasNoRefusal t wants k = IfSome (slice_get wants k) (λ want. own_refusal t want ≡ None)

-- What is known of a request that is so far: it broke no rule; then there was room for an instance, where counters count the party's
-- own, and none of the memories and tables that are made has a refusal of its own.
pub record IsAdmitted (w : World) (request : Request) (told : Grants) (n : ℕ) : Type 0 where
  pub supported : request.broken ≡ None
  pub counted : w.counts ≡ true → instance_count told < w.terms.settings.max_core_instances
  pub allowed : (k : ℕ) → k < n → HasNoRefusal w.terms (wants_of request) k

-- What is known of a request for an instance, by how far it is: no rule is broken once it is tested.
abbrev pub IsSoFar : World → Request → Grants → Progress → Type 0
IsSoFar w request told untested = Unit {0}
IsSoFar w request told uncounted = request.broken ≡ None
IsSoFar w request told (admitted n) = IsAdmitted w request told n
IsSoFar w request told _ = ⊥

-- a refusal has its cause, and tells of room
abbrev pub HasCause : World → Request → Grants → AllocError → Type 0
HasCause w request told e = IsCause w.terms request (Alloc e) × IsForRoom w request told e

-- a call asks for an instance of the module of this number
pub record IsFor (t : Terms) (number : ℕ) (asked : Asked) : Type 0 where
  pub of_module : IsModule asked
  pub info : info_wanted asked ≡ module_of t number
  pub memories : wants_from (memories_wanted asked) (images_wanted asked) ≡ (request_of t number).memories

-- the command under way requests an instance, and what is asked for is what it is for
pub record IsRequest (w : World) (commands : List Command) (done : ℕ) (asked : Asked) (told : Grants) (progress : Progress) : Type 0 where
  pub number : ℕ
  pub act : act_at commands done ≡ Some (requests (an_instance number))
  pub asked_for : IsFor w.terms number asked
  pub so_far : IsSoFar w (request_of w.terms number) told progress

-- The command asks for a component of which this is known.
abbrev pub IsForComponent : List Command → ℕ → ComponentInfo → Type 0
IsForComponent commands done info = act_at commands done ≡ Some (requests (a_component info))

-- The command asks for a stack.
abbrev pub IsForStack : List Command → ℕ → Type 0
IsForStack commands done = act_at commands done ≡ Some (requests a_stack)

-- The command asks for a component that breaks no rule.
pub record IsForSupported (w : World) (commands : List Command) (done : ℕ) : Type 0 where
  pub info : ComponentInfo
  pub act : IsForComponent commands done info
  pub supported : component_refused w.terms.settings info ≡ None

-- The command asks for a heap with a memory of so many pages.
abbrev pub IsForHeap : List Command → ℕ → Limits → Type 0
IsForHeap commands done limits = act_at commands done ≡ Some (requests (a_heap limits))

-- What is known of a request for a heap of which so many of the two objects are made: it was tested, and its memory, where
-- that is made, has no refusal of its own.
pub record IsForTested (w : World) (commands : List Command) (done : ℕ) (asked : Asked) (n : ℕ) : Type 0 where
  pub limits : Limits
  pub act : IsForHeap commands done limits
  pub asked_for : asked ≡ heap_asked (heap_type limits)
  pub supported : heap_barred w.terms (heap_type limits) ≡ None
  pub allowed : 0 < n → heap_refusal w.terms (heap_type limits) ≡ None

-- why it is refused this, and what that tells of room
abbrev pub CauseFor : World → Wanted → Grants → AllocError → Type 0
CauseFor w (an_instance number) told e = HasCause w (request_of w.terms number) told e
CauseFor w (a_component info) told e = IsComponentRefused w.terms (component_refused w.terms.settings info) e × TellsComponentRoom w told (Refused (Alloc e))
CauseFor w a_stack told e = (e ≡ stack_refusal w.terms) × TellsStackRoom w told (Refused (Alloc e))
CauseFor w (a_heap limits) told e = RefusesHeap (heap_barred w.terms (heap_type limits)) w.terms (heap_type limits) e × TellsHeapRoom w told (Refused (Alloc e))

-- how often its maker of heaps was called by then: only a request for a heap calls it
abbrev pub CallsFor : List ℕ → Wanted → AllocError → ℕ → ℕ → Type 0
CallsFor unmade (a_heap limits) e calls after = CountsRefused unmade e calls after
CallsFor unmade _ e calls after = after ≡ calls

-- It requests something, and is to be refused. Its maker of heaps was called so often before the command, and so often now.
pub record IsToRefuse (w : World) (commands : List Command) (done : ℕ) (told : Grants) (calls after : ℕ) (e : AllocError) : Type 0 where
  pub wanted : Wanted
  pub act : act_at commands done ≡ Some (requests wanted)
  pub cause : CauseFor w wanted told e
  pub counts : CallsFor w.terms.host.unmade wanted e calls after

-- it gives a grant back. That ends where its give-back begins, though its reply comes later.
pub record IsToReturn (commands : List Command) (done : ℕ) (now told : Grants) : Type 0 where
  pub of : ℕ
  pub act : act_at commands done ≡ Some (drops of)
  pub there : IsSome (grant_at told of)
  pub ended : now ≡ slice_set told of None

-- The command purges a module.
pub record IsPurge (commands : List Command) (done : ℕ) : Type 0 where
  pub number : ℕ
  pub act : act_at commands done ≡ Some (purges number)

-- the state with another count of calls on the maker of heaps
abbrev pub with_calls : ℕ → PrivateState → PrivateState
with_calls n s = record s { heaps = n }

-- how what the party has now, at each stage of its call, fits what it was told
abbrev pub TiedAs : World → Stage → List Command → ℕ → Asked → PrivateState → PrivateState → Type 0
TiedAs w no_call commands done asked now told = now ≡ told
TiedAs w keys commands done asked now told = now ≡ told
TiedAs w (asks seeks_stack) commands done asked now told = (now ≡ told) × IsForStack commands done
TiedAs w (asks tests_heap) commands done asked now told = (now ≡ told) × (limits : Limits) × (asked ≡ heap_asked (heap_type limits)) × IsForHeap commands done limits
TiedAs w (asks (seeks_heap n)) commands done asked now told = (now ≡ told) × IsForTested w commands done asked n
TiedAs w (asks counts_heap) commands done asked now told =
    (now ≡ with_calls now.heaps told) × IsForTested w commands done asked 1 × CountsGranted w.terms.host.unmade told.heaps now.heaps
TiedAs w (asks progress) commands done asked now told = (now ≡ told) × IsRequest w commands done asked told.grants progress
TiedAs w (tests_component info) commands done asked now told = (now ≡ told) × IsForComponent commands done info
TiedAs w counts_component commands done asked now told = (now ≡ told) × IsForSupported w commands done
TiedAs w returning commands done asked now told = (now ≡ record told { grants = now.grants }) × IsToReturn commands done now.grants told.grants
TiedAs w (refusing e) commands done asked now told = (now ≡ with_calls now.heaps told) × IsToRefuse w commands done told.grants told.heaps now.heaps e
TiedAs w purging commands done asked now told = (now ≡ told) × IsPurge commands done
TiedAs w reserving commands done asked now told = (now ≡ told) × (act_at commands done ≡ Some releases)
TiedAs w releasing commands done asked now told = (now ≡ told) × (act_at commands done ≡ Some releases)

-- A request for an instance is under way, to which the reply lists slots.
abbrev pub is_for_instance : Progress → Bool
is_for_instance untested = true
is_for_instance uncounted = true
is_for_instance (admitted n) = true
is_for_instance _ = false

-- A request is under way that may be for objects whose slots the reply lists.
abbrev pub is_for_objects : Stage → Bool
is_for_objects (asks progress) = is_for_instance progress
is_for_objects _ = false

-- A request is under way, whatever it asks for.
abbrev pub is_asking : Stage → Bool
is_asking (asks progress) = true
is_asking (tests_component info) = true
is_asking counts_component = true
is_asking _ = false

-- a list is empty, and has room for so many slots where they are asked for
pub record HasRoomFor (asked_for : Bool) (count : ℕ) (slots : Reserved ℕ) : Type 0 where
  pub empty : slots.items ≡ []
  pub room : asked_for ≡ true → count ≤ slots.room

module _ {P : Type 0} where
  -- what a party sees of itself: its live grants, and how often its store and its maker of heaps were called
  abbrev pub seen_by_party : RunningParty P → PrivateState
  seen_by_party p = record { grants = grants_of p.live; stores = p.store.made; heaps = p.heaps.made }

  -- What a party was told so far is a private run that tells of the pool, whose grants fit what the party has.
  pub record IsPrivate (w : World) (start : Grants) (commands : List Command) (replies : List Reply) (p : RunningParty P) : Type 0 where
    pub told : PrivateState
    pub run : StepsBy (PooledStep w) 0 commands replies (with_grants start) told
    pub count : length replies ≡ p.done
    pub tied : TiedAs w (stage_of p.frame) commands p.done p.frame.asked (seen_by_party p) told

  -- What of this a party's live grant has; nothing where there is none.
  abbrev pub granted_to : (Grant P PlainHeap → ℕ) → Option (Grant P PlainHeap) → ℕ
  granted_to of None = 0
  granted_to of (Some grant) = of grant

  -- What a party has of the pool: with its call under way, and in its live grants.
  abbrev pub held_by_party : RunningParty P → Holding
  held_by_party p w = frame_weight w p.frame + sum_by (granted_to (grant_weight w)) p.live

  -- what a turn leaves of a party that its calls say
  pub record IsSoundParty (maker : MakerTold) (c : PoolCore P PlainHeap) (p : RunningParty P) : Type 0 where
    pub frame : IsFrame maker c.settings c.plan p.frame
    pub grants : All (λ g. IfSome g (IsGrant maker c.settings c.plan)) p.live

  -- what holds of a party between turns: the places of the commands that are still to come are empty, and there is one
  -- for what is asked for now
  pub record IsParty (maker : MakerTold) (c : PoolCore P PlainHeap) (p : RunningParty P) : Type 0 where
    pub sound : IsSoundParty maker c p
    pub to_come : (k : ℕ) → p.done ≤ k → slice_index_or p.live k None ≡ None
    pub place : is_asking (stage_of p.frame) ≡ true → p.done < length p.live

  -- the lists for the slots of what is asked for are empty, and have room for them
  pub record IsReserved (f : Frame P PlainHeap) (slots : SlotLists) : Type 0 where
    pub memories : HasRoomFor (is_for_objects (stage_of f)) (length (memories_wanted f.asked)) slots.memories
    pub tables : HasRoomFor (is_for_objects (stage_of f)) (length (tables_wanted f.asked)) slots.tables

  -- What a turn relies on: what the party has fits what the pool has given out. It was given out and isn't kept, others
  -- have no region without its slot, and what the party has counted is counted.
  pub record FitsParty (c : PoolCore P PlainHeap) (p : RunningParty P) : Type 0 where
    pub once : (w : Weight) → kept_count w.unit c + held_by_party p w ≤ away_weight w c
    pub others : (name : SlotName) → away_count (region_of name) c + (kept_count (right_to name) c + held_by_party p (of_units (right_to name))) ≤ away_count (right_to name) c + (kept_count (region_of name) c + held_by_party p (of_units (region_of name)))

  -- What a turn of a party needs: a sound pool, a sound party, and that these fit each other.
  pub record CanTurn (maker : MakerTold) (c : PoolCore P PlainHeap) (p : RunningParty P) : Type 0 where
    pub core : IsCore maker c
    pub party : IsParty maker c p
    pub fits : FitsParty c p

  -- What holds of a run between turns: each slot and each region that is given out is in one place, and counters count.
  pub record IsRunning (maker : MakerTold) (c : PoolCore P PlainHeap) (parties : List (RunningParty P)) : Type 0 where
    pub core : IsCore maker c
    pub each : All (IsParty maker c) parties
    pub whole : IsPartitioned held_by_party c parties

  -- A party with this call and these grants is alone: all that the pool has given out and doesn't keep is with it, and it
  -- has counted what is counted.
  pub record IsAlone (c : PoolCore P PlainHeap) (f : Frame P PlainHeap) (live : List (Option (Grant P PlainHeap))) : Type 0 where
    pub whole : (w : Weight) → kept_count w.unit c + (frame_weight w f + sum_by (granted_to (grant_weight w)) live) ≡ away_weight w c
    pub searched : IsSearched c f
