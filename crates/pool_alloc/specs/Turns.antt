-- How a call goes on: a row of the step table gives a part, the frame and a turn, and one function says what the turn
-- leaves of the frame.
use Rattle.std.specs.Prelude.{◌&&◌, ◌==◌, List, [], ◌∷◌, length, Bool, true, false, nat_lt, if◌then◌else◌, Option, Some, None, ℕ, ◌+◌, ◌%◌, ◌^◌}
use Rattle.pool_alloc.specs.Imports.{AllocError, ConcurrencyKind, MemoryStripe, Tables, Fibers, GcHeaps, SlotKind, table_kind, stack_kind, heap_kind, Plan}
use Rattle.pool_slots.specs.declared.errors.AllocError.TheVariants as refusal
use Rattle.pool_alloc.specs.Objects.{objects_in, objects_wanted, no_objects}
use Rattle.pool_alloc.specs.Leases.{Lease}
use Rattle.pool_alloc.specs.TableLeases.{LeasedTable}
use Rattle.pool_alloc.specs.StepReads.{queues_next, allocator_for, kind_next}
use Rattle.pool_alloc.specs.declared.pool_core.PoolCore.{PoolCore}
use Rattle.pool_alloc.specs.declared.frame.Asked.{Asked}
use Rattle.pool_alloc.specs.declared.frame.Asked.TheVariants.{Nothing as nothing_asked, Memory as memory_asked, Table as table_asked, Stack as stack_asked, Heap as heap_asked, HeapOver as heap_over_asked}
use Rattle.pool_alloc.specs.declared.frame.Frame.{Frame}
use Rattle.pool_alloc.specs.declared.frame.Phase.{Phase}
use Rattle.pool_alloc.specs.declared.frame.Phase.TheVariants.{Idle, Pick, TakeQueue, UncountObject, Flush, UncountInstance}
use Rattle.pool_alloc.specs.declared.frame.Ending.{Ending}
use Rattle.pool_alloc.specs.declared.frame.Ending.TheVariants.{Granted as granted, Returned as returned, Refused as refused}
use Rattle.pool_alloc.specs.declared.frame.Grant.TheVariants.{Instance}
use Rattle.pool_alloc.specs.declared.frame.Object.TheVariants.{Memory, Table}
use Rattle.pool_alloc.specs.declared.frame.Outcome.{Outcome}
use Rattle.pool_alloc.specs.declared.frame.Outcome.TheVariants as answer

-- How a call goes on: with this phase; it ends; with what its ending says is next; with the next part of a flush, or with
-- what is next once that is done; with the next queue of a search through so many, or with this refusal after the last;
-- or it stays as it is, where no call is under way.
pub data Turn (P H : Type 0) : Type 0 where
  goes : Phase P H → Turn P H
  ends : Outcome P H → Turn P H
  next : Turn P H
  flush : Turn P H
  search : ℕ → AllocError → Turn P H
  stays : Turn P H

-- what a row gives: what it leaves of a part, or of the whole pool; the frame; and the turn
pub record Row (X P H : Type 0) : Type 0 where
  pub part : X
  pub frame : Frame P H
  pub turn : Turn P H

-- the row of a part in something greater
abbrev pub lifted : {X Y P H : Type 0} → (X → Y) → Row X P H → Row Y P H
lifted into r = record { part = into r.part; frame = r.frame; turn = r.turn }

-- what a turn leaves of the frame, and the answer to the call where it ends with this step
pub record Left (P H : Type 0) : Type 0 where
  pub frame : Frame P H
  pub outcome : Option (Outcome P H)

-- What a step leaves of one part and of the frame, and the call's answer if it ended.
pub record PartAfter (X P H : Type 0) : Type 0 where
  pub part : X
  pub frame : Frame P H
  pub outcome : Option (Outcome P H)

-- What a step leaves: the pool, the party's frame, and the call's answer if it ended.
pub record After (P H : Type 0) : Type 0 where
  pub core : PoolCore P H
  pub frame : Frame P H
  pub outcome : Option (Outcome P H)

-- what it is that the pool has no more of
abbrev pub limit_of : SlotKind → ℕ → ConcurrencyKind
limit_of table_kind stripe = Tables
limit_of stack_kind stripe = Fibers
limit_of heap_kind stripe = GcHeaps
limit_of _ stripe = MemoryStripe stripe

-- the call is to end with a grant
abbrev pub is_granting : Ending → Bool
is_granting granted = true
is_granting _ = false

module _ {P H : Type 0} where
  -- the call fails: what it was granted so far is what it gives back
  abbrev pub failing : AllocError → Frame P H → Frame P H
  failing e f = record f { ending = refused e }

  -- the frame while a step of its call is made, which leaves the next phase
  abbrev pub resting : Frame P H → Frame P H
  resting f = record f { phase = Idle }

  -- a step more was made, and this is the next
  abbrev pub gone_to : Phase P H → Frame P H → Frame P H
  gone_to phase f = record f { phase = phase; step_count = (f.step_count + 1) % 2 ^ 64 }

  -- The call goes on with a phase.
  abbrev pub goes_to : Frame P H → Phase P H → Left P H
  goes_to f phase = record { frame = gone_to phase f; outcome = None }

  -- a call that ends leaves nothing of itself but the number of its steps
  abbrev pub ends_with : Frame P H → Outcome P H → Left P H
  ends_with f outcome = record { frame = record f { phase = Idle; asked = nothing_asked; ending = returned; queues = 0; step_count = (f.step_count + 1) % 2 ^ 64 }; outcome = Some outcome }

  -- the answer that a call ends with once all is given back
  abbrev pub answer_of : Ending → Outcome P H
  answer_of (refused e) = answer.Refused e
  answer_of _ = answer.Returned

  -- Where no object is left, the instance is given back; a call for an object by itself counts none, and ends.
  abbrev pub all_returned : Asked → Frame P H → Left P H
  all_returned (memory_asked m) f = ends_with f (answer_of f.ending)
  all_returned (table_asked ty) f = ends_with f (answer_of f.ending)
  all_returned stack_asked f = ends_with f (answer_of f.ending)
  all_returned (heap_asked ty) f = ends_with f (answer_of f.ending)
  all_returned (heap_over_asked memory) f = ends_with f (answer_of f.ending)
  all_returned _ f = goes_to f UncountInstance

  -- the next of these memories is given back, or of these tables, or else all of them are
  abbrev pub returned_next : List Lease → List LeasedTable → Frame P H → Left P H
  returned_next (lease ∷ rest) tables f = goes_to (record f { objects = record f.objects { memories = record f.objects.memories { items = rest } } }) (UncountObject (Memory lease))
  returned_next [] (lease ∷ rest) f = goes_to (record f { objects = record f.objects { tables = record f.objects.tables { items = rest } } }) (UncountObject (Table lease))
  returned_next [] [] f = all_returned f.asked f

  -- a slot is picked for the next object of the instance, or the instance is whole
  abbrev pub granted_next : Frame P H → Left P H
  granted_next f =
      if nat_lt (objects_in f.objects) (objects_wanted f.asked)
      then goes_to f (Pick 0)
      else ends_with (record f { objects = no_objects }) (answer.Granted (Instance f.objects))

  -- What the ending says is next: the next object's slot, or the next object that is given back.
  abbrev pub next_by : Ending → Frame P H → Left P H
  next_by granted f = granted_next f
  next_by returned f = returned_next f.objects.memories.items f.objects.tables.items f
  next_by (refused e) f = returned_next f.objects.memories.items f.objects.tables.items f

  -- the local queue is flushed, and its slots are free
  abbrev pub is_flushed : Frame P H → Bool
  is_flushed f = (length f.local.slots == 0) && (length f.freed.items == 0)

  -- The next part of a flush, or once it is done what the ending says is next.
  abbrev pub flush_next : Frame P H → Left P H
  flush_next f = if is_flushed f then next_by f.ending f else goes_to f Flush

  -- The next queue of a search, or after the last the refusal for room.
  abbrev pub search_next : ℕ → AllocError → Frame P H → Left P H
  search_next queues e f =
      if nat_lt f.queues queues
      then goes_to f TakeQueue
      else returned_next f.objects.memories.items f.objects.tables.items (failing e f)

  -- What a turn leaves of the frame, and the call's answer where it ends: the one function that says how a call goes
  -- on.
  abbrev pub after : Frame P H → Turn P H → Left P H
  after f (goes phase) = goes_to f phase
  after f (ends outcome) = ends_with f outcome
  after f next = next_by f.ending f
  after f flush = flush_next f
  after f (search queues e) = search_next queues e f
  after f stays = record { frame = f; outcome = None }

  -- The refusal for room: how many slots the allocator has, and of what there is none left.
  abbrev pub no_slot_left : Plan → Frame P H → AllocError
  no_slot_left plan f = refusal.Limit (record { limit = (allocator_for plan f).capacity; kind = limit_of (kind_next f) f.stripe })

  -- No shard had a slot: the search goes on through the queues.
  abbrev pub slot_search : Plan → Frame P H → Turn P H
  slot_search plan f = search (queues_next plan f) (no_slot_left plan f)

  -- What a row leaves of the frame, and the call's answer if it ended.
  abbrev pub left_by : {X : Type 0} → Row X P H → Left P H
  left_by r = after r.frame r.turn

  -- what a step leaves of one part, by its row
  abbrev pub part_after : {X : Type 0} → Row X P H → PartAfter X P H
  part_after r = let l : Left P H = after r.frame r.turn in record { part = r.part; frame = l.frame; outcome = l.outcome }

  -- What a step leaves of the pool, beside what its turn leaves of the frame.
  abbrev pub finished : PoolCore P H → Left P H → After P H
  finished c l = record { core = c; frame = l.frame; outcome = l.outcome }

  -- What a row leaves of the pool and of the frame, by its turn.
  abbrev pub stepped : Row (PoolCore P H) P H → After P H
  stepped r = finished r.part (after r.frame r.turn)
