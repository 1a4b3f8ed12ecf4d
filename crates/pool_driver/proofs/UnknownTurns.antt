-- What is known of a call's regions of which nothing is known goes on with each turn.
use Rattle.std.proofs.Common.{◌≡◌, ℕ, ◌+◌, Bool, true, false, List, [], ◌∷◌, length, refl, Option, Some, None, IfSome, nat_lt, nat_le}
use Rattle.std.proofs.lemmas.Bool.{eqb-true}
use Rattle.std.specs.Prelude.{if◌then◌else◌, ◌==◌, ◌&&◌, ◌||◌}
use Rattle.pool_pages.specs.Told.{Told}
use Rattle.pool_types.specs.declared.unsupported.Unsupported.TheVariants.{AddressSpace}
use Rattle.pool_hall.specs.declared.unit_name.SlotKind.{SlotKind}
use Rattle.pool_hall.specs.declared.unit_name.SlotKind.TheVariants.{Memory as memory_kind, Table as table_kind, Stack as stack_kind, Heap as heap_kind}
use Rattle.pool_index.specs.Shard.{ShardState}
use Rattle.pool_index.specs.declared.ids.SlotId.{SlotId}
use Rattle.pool_slots.specs.Cells.{Cell, unmapped, unknown, previously_used, taken}
use Rattle.pool_slots.specs.SlotQueues.{Queue, Queued}
use Rattle.pool_slots.specs.declared.errors.AllocError.{AllocError}
use Rattle.pool_slots.specs.declared.errors.AllocError.TheVariants as refusal
use Rattle.pool_slots.specs.declared.plan.Plan.{Plan}
use Rattle.pool_slots.specs.declared.slot_name.SlotName.{SlotName}
use Rattle.pool_alloc.specs.Leases.{Lease}
use Rattle.pool_alloc.specs.Objects.{no_objects, objects_in, objects_wanted}
use Rattle.pool_alloc.specs.Purges.{affine_picked, behind_memory, purge_to, purged_stripe}
use Rattle.pool_alloc.specs.Releases.{behind_stripe, drain_at, drain_from, free_first, released_stripe, warm_taken}
use Rattle.pool_alloc.specs.StepTable as rows
use Rattle.pool_alloc.specs.TableLeases.{LeasedTable}
use Rattle.pool_alloc.specs.Turns.{Left, Turn, after, all_returned, answer_of, ends, ends_with, failing, flush, goes, goes_to, granted_next, next, next_by, returned_next, search, stays}
use Rattle.pool_alloc.specs.declared.frame.Asked.{Asked}
use Rattle.pool_alloc.specs.declared.frame.Asked.TheVariants.{Memory as memory_asked, Table as table_asked, Stack as stack_asked, Heap as heap_asked, HeapOver as heap_over_asked}
use Rattle.pool_alloc.specs.declared.frame.Ending.{Ending}
use Rattle.pool_alloc.specs.declared.frame.Ending.TheVariants.{Granted as granted, Returned as returned, Refused as refused}
use Rattle.pool_alloc.specs.declared.frame.Frame.{Frame}
use Rattle.pool_alloc.specs.declared.frame.FreedSlot.{FreedSlot}
use Rattle.pool_alloc.specs.declared.frame.Grant.TheVariants.{Instance}
use Rattle.pool_alloc.specs.declared.frame.Outcome.TheVariants as answer
use Rattle.pool_alloc.specs.declared.frame.Phase.TheVariants.{Flush, Merge, Pick, Purge, Release, TakeQueue}
use Rattle.pool_alloc.specs.declared.frame.TakenSlot.{TakenSlot}
use Rattle.pool_alloc.specs.declared.pool_core.Settings.{Settings}
use Rattle.pool_alloc.specs.declared.purge.PurgeCursor.{PurgeCursor}
use Rattle.pool_alloc.specs.declared.purge.PurgeStep.TheVariants as purging_step
use Rattle.pool_alloc.specs.declared.release.ReleaseCursor.{ReleaseCursor}
use Rattle.pool_alloc.specs.declared.release.ReleaseStep.TheVariants as releasing_step
use Rattle.pool_driver.proofs.QueueFaults.{by_choice}
use Rattle.pool_driver.specs.UnknownPuts.{UnlessUnmade, EndingCaused, AnswerCaused, PhaseCaused}

-- More may be known than that,
pub unmade_more : (X Y : Type 0) → (X → Y) → (e : AllocError) → UnlessUnmade X e → UnlessUnmade Y e
unmade_more X Y more (refusal.LimiterDenied false min) k = tt
unmade_more X Y more (refusal.LimiterDenied true min) k = more k
unmade_more X Y more (refusal.LimiterFault e) k = tt
unmade_more X Y more (refusal.Unsupported AddressSpace) k = tt
unmade_more X Y more (refusal.Unsupported rule) k = more k
unmade_more X Y more e k = more k

pub ending_more : (X Y : Type 0) → (X → Y) → (e : Ending) → EndingCaused X e → EndingCaused Y e
ending_more X Y more (refused e) k = unmade_more X Y more e k
ending_more X Y more granted k = more k
ending_more X Y more returned k = more k

-- and what is known is known whatever the reason.
pub unmade_so : (X : Type 0) (e : AllocError) → X → UnlessUnmade X e
unmade_so X (refusal.LimiterDenied false min) k = tt
unmade_so X (refusal.LimiterDenied true min) k = k
unmade_so X (refusal.LimiterFault e) k = tt
unmade_so X (refusal.Unsupported AddressSpace) k = tt
unmade_so X (refusal.Unsupported rule) k = k
unmade_so X e k = k

pub ending_so : (X : Type 0) (e : Ending) → X → EndingCaused X e
ending_so X (refused e) k = unmade_so X e k
ending_so X granted k = k
ending_so X returned k = k

-- What a turn says, of what is known of the call and of the queue that it flushes; a call under way doesn't stay as it is.
module _ {P H : Type 0} (K F : Type 0) where
  abbrev pub TurnCaused : Ending → Turn P H → Type 0
  TurnCaused e (goes phase) = PhaseCaused K F phase e
  TurnCaused e (ends outcome) = AnswerCaused K outcome
  TurnCaused e next = EndingCaused K e
  TurnCaused e flush = EndingCaused F e
  TurnCaused e (search queues x) = K
  TurnCaused e stays = ⊥

-- the answer of a call that gives back, or is refused
pub answer_caused : (P H K : Type 0) (e : Ending) → EndingCaused K e → AnswerCaused {P = P} {H = H} K (answer_of e)
answer_caused P H K granted k = k
answer_caused P H K returned k = k
answer_caused P H K (refused e) k = k

-- Turns, by what they are made of.
module _ (P H K F : Type 0) (e : Ending) where
  abbrev Says : Turn P H → Type 0
  Says turn = TurnCaused K F e turn

  pub taken_caused : (kind : SlotKind) (name : SlotName) → K → PhaseCaused {P = P} {H = H} K F (rows.taken_next kind name) e
  taken_caused memory_kind name k = k
  taken_caused table_kind name k = k
  taken_caused stack_kind name k = k
  taken_caused heap_kind name k = k

  unmapped_caused : (s : Settings) (kind : SlotKind) (at : TakenSlot) (region : Told) → K → Says (rows.unmapped_next s kind at region)
  unmapped_caused s memory_kind at region k = k
  unmapped_caused s table_kind at region k = k
  unmapped_caused s stack_kind at region k = k
  unmapped_caused s heap_kind at region k = tt

  pub region_caused : (s : Settings) (at : TakenSlot) (held : Cell) → K → Says (rows.region_next s at held)
  region_caused s at (unmapped region) k = unmapped_caused s at.name.kind at region k
  region_caused s at (unknown held) k = k
  region_caused s at (previously_used held) k = k
  region_caused s at taken k = tt

  pub heap_caused : (at : TakenSlot) (o : Option H) → K → Says (rows.heap_next at o)
  heap_caused at None k = k
  heap_caused at (Some heap) k = k

  pub reset_caused : (batch : ℕ) (local : Queue) → EndingCaused F e → EndingCaused K e → Says (rows.reset_turn batch local)
  reset_caused batch local f k = by_choice Says ((length local.ranges == 0) || nat_le batch (length local.ranges)) flush (goes Merge) f k

  -- a purge,
  pub purge_to_caused : (p : PurgeCursor) (o : Option PurgeCursor) → K → Says (purge_to p o)
  purge_to_caused p None k = k
  purge_to_caused p (Some later) k = k

  pub affine_caused : (per_module : ℕ) (plan : Plan) (p : PurgeCursor) (o : Option SlotId) (shard : ShardState) (tried : ℕ) → K → Says (affine_picked per_module plan p o shard tried)
  affine_caused per_module plan p (Some slot) shard tried k = k
  affine_caused per_module plan p None shard tried k =
      by_choice Says (nat_lt (tried + 1) (purged_stripe plan p).shards) (goes (Purge p (purging_step.Pick (tried + 1)))) (purge_to p (behind_memory per_module plan p)) k (purge_to_caused p (behind_memory per_module plan p) k)

  -- and a release, of which nothing is known.
  stripe_caused : (plan : Plan) (r : ReleaseCursor) → Says (behind_stripe plan r)
  stripe_caused plan r = by_choice Says (nat_lt (r.stripe + 1) (length plan.memories)) (goes (Release (releasing_step.TakeWarm (record r { stripe = r.stripe + 1; taken = record r.taken { items = [] }; failed = false }) 0))) (ends (answer.Released r.released)) tt tt

  pub free_first_caused : (plan : Plan) (slots : List FreedSlot) (r : ReleaseCursor) → Says (free_first plan slots r)
  free_first_caused plan [] r = stripe_caused plan r
  free_first_caused plan (x ∷ rest) r = tt

  pub drain_caused : (plan : Plan) (r : ReleaseCursor) (k : ℕ) → Says (drain_at plan r k)
  drain_caused plan r k = by_choice Says (nat_lt k (length r.taken.items)) (goes (Release (releasing_step.TakeRegion r k))) (free_first plan r.taken.items r) tt (free_first_caused plan r.taken.items r)

  pub warm_caused : (plan : Plan) (r : ReleaseCursor) (j : ℕ) → Says (warm_taken plan r j)
  warm_caused plan r j = by_choice Says (nat_lt (j + 1) (released_stripe plan r).shards) (goes (Release (releasing_step.TakeWarm r (j + 1)))) (drain_from plan r 0) tt (drain_caused plan r _)

module _ {P H : Type 0} (K : Type 0) (F : List Queued → Type 0) where
  -- What a turn leaves, by the queue that is left.
  pub record LeftCaused (l : Left P H) : Type 0 where
    pub frame : PhaseCaused K (F l.frame.local.slots) l.frame.phase l.frame.ending
    pub answer : IfSome l.outcome (AnswerCaused K)

  abbrev Leaves : Left P H → Type 0
  Leaves l = LeftCaused l

  all_returned_caused : (what : Asked) (f : Frame P H) → EndingCaused K f.ending → Leaves (all_returned what f)
  all_returned_caused (memory_asked m) f k = record { frame = tt; answer = answer_caused P H K f.ending k }
  all_returned_caused (table_asked ty) f k = record { frame = tt; answer = answer_caused P H K f.ending k }
  all_returned_caused stack_asked f k = record { frame = tt; answer = answer_caused P H K f.ending k }
  all_returned_caused (heap_asked ty) f k = record { frame = tt; answer = answer_caused P H K f.ending k }
  all_returned_caused (heap_over_asked memory) f k = record { frame = tt; answer = answer_caused P H K f.ending k }
  all_returned_caused what f k = record { frame = k; answer = tt }

  -- An object leaves those in hand,
  pub returned_caused : (memories : List Lease) (tables : List LeasedTable) (f : Frame P H) → EndingCaused K f.ending → Leaves (returned_next memories tables f)
  returned_caused (lease ∷ rest) tables f k = record { frame = k; answer = tt }
  returned_caused [] (lease ∷ rest) f k = record { frame = k; answer = tt }
  returned_caused [] [] f k = all_returned_caused f.asked f k

  -- or all are granted.
  granted_caused : (f : Frame P H) → K → Leaves (granted_next f)
  granted_caused f k =
      by_choice Leaves (nat_lt (objects_in f.objects) (objects_wanted f.asked)) (goes_to f (Pick 0)) (ends_with (record f { objects = no_objects }) (answer.Granted (Instance f.objects)))
      (record { frame = k; answer = tt })
      (record { frame = tt; answer = k })

  next_caused : (e : Ending) (f : Frame P H) → EndingCaused K e → EndingCaused K f.ending → Leaves (next_by e f)
  next_caused granted f k l = granted_caused f k
  next_caused returned f k l = returned_caused f.objects.memories.items f.objects.tables.items f l
  next_caused (refused e) f k l = returned_caused f.objects.memories.items f.objects.tables.items f l

  -- How a call goes on. Once its queue is flushed, what was known of that is known of the call.
  pub after_caused : (f : Frame P H) (turn : Turn P H) → (length f.local.slots ≡ 0 → F f.local.slots → K) → TurnCaused K (F f.local.slots) f.ending turn → Leaves (after f turn)
  after_caused f (goes phase) done k = record { frame = k; answer = tt }
  after_caused f (ends outcome) done k = record { frame = tt; answer = k }
  after_caused f next done k = next_caused f.ending f k k
  after_caused f flush done k = go (length f.local.slots == 0) (length f.freed.items == 0) refl
    where
      go : (x y : Bool) → (length f.local.slots == 0) ≡ x → Leaves (if x && y then next_by f.ending f else goes_to f Flush)
      go true true none = let here : EndingCaused K f.ending = ending_more (F f.local.slots) K (done (eqb-true (length f.local.slots) 0 none)) f.ending k in next_caused f.ending f here here
      go true false none = record { frame = k; answer = tt }
      go false y none = record { frame = k; answer = tt }
  after_caused f (search queues e) done k =
      by_choice Leaves (nat_lt f.queues queues) (goes_to f TakeQueue) (returned_next f.objects.memories.items f.objects.tables.items (failing e f))
      (record { frame = k; answer = tt })
      (returned_caused f.objects.memories.items f.objects.tables.items (failing e f) (unmade_so K e k))
  after_caused f stays done k = absurd k
