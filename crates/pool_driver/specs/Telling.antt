-- What a seat's view tells of a call since it began: of its search for a slot, and of what it counted. So a refusal has its reason in
-- this call.
use Rattle.std.specs.Prelude.{◌≡◌, ℕ, ◌+◌, ◌<◌, ◌≤◌, Option, Some}
use Rattle.pool_hall.specs.Sum.{often}
use Rattle.pool_hall.specs.Tally.{counted, additions, low_additions, subtractions, number}
use Rattle.pool_hall.specs.declared.unit_name.SlotKind.{SlotKind}
use Rattle.pool_hall.specs.declared.unit_name.SlotKind.TheVariants.{Memory as memory_kind, Table as table_kind, Stack as stack_kind, Heap as heap_kind}
use Rattle.pool_hall.specs.declared.view.View.{View}
use Rattle.pool_index.specs.Part.{full_answers}
use Rattle.pool_slots.specs.Plans.{queue_role, role_at, queues_for, shard_tried, queue_tried}
use Rattle.pool_slots.specs.declared.errors.AllocError.{AllocError}
use Rattle.pool_slots.specs.declared.errors.AllocError.TheVariants.{Limit}
use Rattle.pool_slots.specs.declared.errors.ConcurrencyKind.{ConcurrencyKind}
use Rattle.pool_slots.specs.declared.errors.ConcurrencyKind.TheVariants.{CoreInstances, ComponentInstances, MemoryStripe, Tables, Fibers, GcHeaps}
use Rattle.pool_slots.specs.declared.plan.Allocator.{Allocator}
use Rattle.pool_slots.specs.declared.plan.Plan.{Plan}
use Rattle.pool_alloc.specs.Places.{counted_instance, counted_component}
use Rattle.pool_alloc.specs.Searches.{IsSearchedBy}
use Rattle.pool_alloc.specs.StepReads.{allocator_for, allocator_of, stripe_allocator}
use Rattle.pool_alloc.specs.declared.frame.Ending.{Ending}
use Rattle.pool_alloc.specs.declared.frame.Ending.TheVariants.{Returned as returned, Refused as refused}
use Rattle.pool_alloc.specs.declared.frame.Frame.{Frame}
use Rattle.pool_alloc.specs.declared.frame.Outcome.{Outcome}
use Rattle.pool_alloc.specs.declared.frame.Outcome.TheVariants as answer
use Rattle.pool_alloc.specs.declared.frame.Phase.{Phase}
use Rattle.pool_alloc.specs.declared.frame.Phase.TheVariants.{Idle, Key, Validate, CountInstance, Pick, TakeQueue, UncountInstance, ValidateComponent, CountComponent, UncountComponent, Purge, Release}
use Rattle.pool_driver.specs.Driving.{counter_number, counter_of}

-- The place among a queue's counts of how often the queue was taken whole.
abbrev pub queue_takes : ℕ
queue_takes = 0

-- The place of a shard of a stripe's memories.
abbrev pub stripe_shard : Plan → ℕ → ℕ → ℕ
stripe_shard plan stripe j = (stripe_allocator plan stripe).first_place + j

-- The number of the counter of instances.
abbrev pub instance_counter : ℕ
instance_counter = counter_number (counter_of counted_instance)

-- The number of the counter of components.
abbrev pub component_counter : ℕ
component_counter = counter_number (counter_of counted_component)

-- What is known of a call that gives something back.
abbrev pub IsReturnedBy : Ending → Type 0 → Type 0
IsReturnedBy returned known = known
IsReturnedBy _ known = Unit {0}

-- In the second view no count at a place has fallen, and no place that was noted as topped is forgotten.
pub record HoldsMore {T : Type 0} (v w : View T) : Type 0 where
  pub counts : (q i : ℕ) → number (counted q i) v ≤ number (counted q i) w
  pub noted : (q : ℕ) → often q v.topped ≤ often q w.topped

-- Of a call that began with the first view, and has the second now
module _ {T : Type 0} (base v : View T) where
  -- A count at a place has risen by so much at least,
  abbrev pub HasSoManyMore : ℕ → ℕ → ℕ → Type 0
  HasSoManyMore p i n = number (counted p i) base + n ≤ number (counted p i) v

  -- or by one.
  abbrev pub HasMore : ℕ → ℕ → Type 0
  HasMore p i = HasSoManyMore p i 1

  -- A count has risen by so much at each of the first shards of a stripe, so many of them,
  abbrev pub ShardsHaveMore : Plan → ℕ → ℕ → ℕ → ℕ → Type 0
  ShardsHaveMore plan i times stripe n = (j : ℕ) → j < n → HasSoManyMore (stripe_shard plan stripe j) i times

  -- or at all shards of the first stripes, so many of them.
  abbrev pub StripesHaveMore : Plan → ℕ → ℕ → ℕ → Type 0
  StripesHaveMore plan i times n = (stripe : ℕ) → stripe < n → ShardsHaveMore plan i times stripe (stripe_allocator plan stripe).shards

  -- The shard at a place answered that it is full, and it is noted that each of its slots was used once.
  abbrev pub IsFullSince : ℕ → Type 0
  IsFullSince p = HasMore p full_answers × (0 < often p v.topped)

  -- So many shards of an allocator answered that they are full, from a home on.
  abbrev pub AreFullSince : Allocator → ℕ → ℕ → Type 0
  AreFullSince a home n = (j : ℕ) → j < n → IsFullSince (shard_tried a home j)

  -- So many queues were taken, from a home on.
  abbrev pub AreTakenSince : Plan → ℕ → ℕ → Type 0
  AreTakenSince plan home n = (j : ℕ) → j < n → HasMore (queue_tried plan home j) queue_takes

  -- No queue was taken.
  abbrev pub NoneTaken : Plan → Type 0
  NoneTaken plan = (q : ℕ) → role_at plan q ≡ queue_role → number (counted q queue_takes) v ≡ number (counted q queue_takes) base

  -- A counter had just so many additions, so many of them low, and so many subtractions.
  pub record CountsSince (c more lower fewer : ℕ) : Type 0 where
    pub added : number (additions c) v ≡ number (additions c) base + more
    pub low : number (low_additions c) v ≡ number (low_additions c) base + lower
    pub subtracted : number (subtractions c) v ≡ number (subtractions c) base + fewer

  -- A counter had at most so many additions, and at most so many of them low.
  pub record AddsAtMost (c most : ℕ) : Type 0 where
    pub added : number (additions c) v ≤ number (additions c) base + most
    pub low : number (low_additions c) v ≤ number (low_additions c) base + most

  -- The reason of a refusal for room: each shard of the allocator answered that it is full, and each queue that is searched was taken.
  pub record RoomTold (plan : Plan) (home : ℕ) (kind : SlotKind) (stripe : ℕ) : Type 0 where
    pub shards : AreFullSince (allocator_of plan kind stripe) home (allocator_of plan kind stripe).shards
    pub queues : AreTakenSince plan home (queues_for plan kind)

  -- The reason of a refusal by a limit: there was no room; or what is given here of the counter of instances, and of that of components.
  abbrev pub LimitTold : Type 0 → Type 0 → Plan → ℕ → ConcurrencyKind → Type 0
  LimitTold instances components plan home (MemoryStripe i) = RoomTold plan home memory_kind i
  LimitTold instances components plan home Tables = RoomTold plan home table_kind 0
  LimitTold instances components plan home Fibers = RoomTold plan home stack_kind 0
  LimitTold instances components plan home GcHeaps = RoomTold plan home heap_kind 0
  LimitTold instances components plan home CoreInstances = instances
  LimitTold instances components plan home ComponentInstances = components

  -- The reason of a refusal, where that is a limit.
  abbrev pub RefusalTold : Type 0 → Type 0 → Plan → ℕ → AllocError → Type 0
  RefusalTold instances components plan home (Limit l) = LimitTold instances components plan home l.kind
  RefusalTold instances components plan home _ = Unit {0}

  -- The reason of the refusal that a call is to end with, if it is.
  abbrev pub EndingTold : Type 0 → Type 0 → Plan → ℕ → Ending → Type 0
  EndingTold instances components plan home (refused e) = RefusalTold instances components plan home e
  EndingTold instances components plan home _ = Unit {0}

  -- What is told while a call goes on that has taken so many queues for its object: while it is to be granted, that these were taken;
  -- while it gives something back, that none was; and where it is to be refused, the reason, which is no counter.
  pub record IsGoing (plan : Plan) (home n : ℕ) (aim : Ending) : Type 0 where
    pub queues : IsSearchedBy aim (AreTakenSince plan home n)
    pub none : IsReturnedBy aim (NoneTaken plan)
    pub ending : EndingTold ⊥ ⊥ plan home aim

  -- What is told before a call counts its instance or its component off, with what is told of the two counters.
  pub record IsEnding (instances components : Type 0) (plan : Plan) (home : ℕ) (aim : Ending) : Type 0 where
    pub none : IsReturnedBy aim (NoneTaken plan)
    pub ending : EndingTold instances components plan home aim

  -- Nothing was counted on a counter.
  abbrev pub NoneCounted : ℕ → Type 0
  NoneCounted c = CountsSince c 0 0 0

  -- One addition was made, which wasn't low: it is taken off next.
  abbrev pub IsOver : ℕ → Type 0
  IsOver c = CountsSince c 1 0 0

  -- And it was taken off.
  abbrev pub WasOver : ℕ → Type 0
  WasOver c = CountsSince c 1 0 1

  module _ {P H : Type 0} where
    -- What is told while the call of a frame goes on.
    abbrev pub CallGoes : Plan → Frame P H → Type 0
    CallGoes plan f = IsGoing plan f.home f.queues f.ending

    -- What the view tells of a call before the step of a phase. A call that is refused by a counter counts itself off at once.
    abbrev pub PhaseTold : Phase P H → Plan → Frame P H → Type 0
    PhaseTold Idle plan f = Unit {0}
    PhaseTold Key plan f = Unit {0}
    PhaseTold Validate plan f = NoneCounted instance_counter × CallGoes plan f
    PhaseTold CountInstance plan f = NoneCounted instance_counter × CallGoes plan f
    PhaseTold (Pick tried) plan f = AreFullSince (allocator_for plan f) f.home tried × CallGoes plan f
    PhaseTold TakeQueue plan f = AreFullSince (allocator_for plan f) f.home (allocator_for plan f).shards × CallGoes plan f
    PhaseTold UncountInstance plan f = IsEnding (IsOver instance_counter) ⊥ plan f.home f.ending
    PhaseTold (ValidateComponent info) plan f = NoneCounted component_counter
    PhaseTold CountComponent plan f = NoneCounted component_counter
    PhaseTold UncountComponent plan f = IsEnding ⊥ (IsOver component_counter) plan f.home f.ending
    PhaseTold (Purge p step) plan f = Unit {0}
    PhaseTold (Release step) plan f = Unit {0}
    PhaseTold _ plan f = CallGoes plan f

    -- What the view tells of the call that a frame is at.
    abbrev pub Tells : Plan → Frame P H → Type 0
    Tells plan f = PhaseTold f.phase plan f

    -- What it tells of the call's answer: the reason of a refusal. One by a counter comes with one addition on it, which wasn't low, and
    -- one subtraction. To give something back takes no queue.
    abbrev pub AnswerTold : Plan → ℕ → Option (Outcome P H) → Type 0
    AnswerTold plan home (Some answer.Returned) = NoneTaken plan
    AnswerTold plan home (Some (answer.Refused e)) = RefusalTold (WasOver instance_counter) (WasOver component_counter) plan home e
    AnswerTold plan home _ = Unit {0}
