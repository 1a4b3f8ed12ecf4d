-- However a call goes on, what it has keeps its faults.
use Rattle.std.proofs.Common.{ℕ, List, [], ◌∷◌, Some, nat_lt}
use Rattle.std.specs.List.{AllByRecursion}
use Rattle.pool_alloc.specs.Calls.{begun_call, gives_back}
use Rattle.pool_alloc.specs.Leases.{Lease}
use Rattle.pool_alloc.specs.Objects.{no_objects, objects_in, objects_wanted}
use Rattle.pool_alloc.specs.TableLeases.{LeasedTable}
use Rattle.pool_alloc.specs.Turns.{Turn, goes, ends, next, flush, search, stays, Left, after, all_returned, answer_of, ends_with, failing, flush_next, goes_to, granted_next, is_flushed, next_by, returned_next, search_next}
use Rattle.pool_alloc.specs.declared.frame.Asked.{Asked}
use Rattle.pool_alloc.specs.declared.frame.Asked.TheVariants.{Nothing as nothing_asked, Memory as memory_asked, Table as table_asked, Stack as stack_asked, Heap as heap_asked, HeapOver as heap_over_asked}
use Rattle.pool_alloc.specs.declared.frame.Call.{Call}
use Rattle.pool_alloc.specs.declared.frame.Call.TheVariants as call
use Rattle.pool_alloc.specs.declared.frame.Ending.{Ending}
use Rattle.pool_alloc.specs.declared.frame.Ending.TheVariants.{Granted as granted, Returned as returned, Refused as refused}
use Rattle.pool_alloc.specs.declared.frame.Frame.{Frame}
use Rattle.pool_alloc.specs.declared.frame.Grant.{Grant}
use Rattle.pool_alloc.specs.declared.frame.Grant.TheVariants.{Instance, Component, Memory as memory_grant, Table as table_grant, Stack as stack_grant, Heap as heap_grant, HeapOver as heap_over_grant}
use Rattle.pool_alloc.specs.declared.frame.Object.TheVariants.{Memory, Table}
use Rattle.pool_alloc.specs.declared.frame.Outcome.{Outcome}
use Rattle.pool_alloc.specs.declared.frame.Outcome.TheVariants as answer
use Rattle.pool_alloc.specs.declared.frame.Phase.{Phase}
use Rattle.pool_alloc.specs.declared.frame.Phase.TheVariants.{Pick, TakeQueue, UncountObject, Flush, UncountInstance}
use Rattle.pool_slots.specs.declared.errors.AllocError.{AllocError}
use Rattle.pool_driver.specs.Faults.{AnswerKeeps, FrameKeeps, GrantKeeps, InstanceKeeps, LeaseKeeps, PhaseKeeps, QueueKeeps, TableKeeps}
use Rattle.pool_driver.proofs.QueueFaults.{by_choice}

pub answer_keeps : (P H : Type 0) (e : Ending) → AnswerKeeps {P = P} {H = H} (Some (answer_of e))
answer_keeps P H granted = tt
answer_keeps P H returned = tt
answer_keeps P H (refused e) = tt

module _ {P H : Type 0} where
  -- what a call has beside its next step
  abbrev pub HandKeeps : Frame P H → Type 0
  HandKeeps f = InstanceKeeps f.objects × QueueKeeps f.local

  -- what a turn says of regions; a call under way doesn't stay as it is
  abbrev pub TurnKeeps : Turn P H → Type 0
  TurnKeeps (goes phase) = PhaseKeeps phase
  TurnKeeps (ends outcome) = AnswerKeeps (Some outcome)
  TurnKeeps next = Unit {0}
  TurnKeeps flush = Unit {0}
  TurnKeeps (search queues x) = Unit {0}
  TurnKeeps stays = ⊥

  -- what it leaves
  pub record LeftKeeps (l : Left P H) : Type 0 where
    pub frame : FrameKeeps l.frame
    pub answer : AnswerKeeps l.outcome

  goes_keeps : (f : Frame P H) (phase : Phase P H) → HandKeeps f → PhaseKeeps phase → LeftKeeps (goes_to f phase)
  goes_keeps f phase k one = record { frame = record { objects = k.0; local = k.1; phase = one }; answer = tt }

  ends_keeps : (f : Frame P H) (outcome : Outcome P H) → HandKeeps f → AnswerKeeps (Some outcome) → LeftKeeps (ends_with f outcome)
  ends_keeps f outcome k one = record { frame = record { objects = k.0; local = k.1; phase = tt }; answer = one }

  all_returned_keeps : (asked : Asked) (f : Frame P H) → HandKeeps f → LeftKeeps (all_returned asked f)
  all_returned_keeps (memory_asked m) f k = ends_keeps f (answer_of f.ending) k (answer_keeps P H f.ending)
  all_returned_keeps (table_asked ty) f k = ends_keeps f (answer_of f.ending) k (answer_keeps P H f.ending)
  all_returned_keeps stack_asked f k = ends_keeps f (answer_of f.ending) k (answer_keeps P H f.ending)
  all_returned_keeps (heap_asked ty) f k = ends_keeps f (answer_of f.ending) k (answer_keeps P H f.ending)
  all_returned_keeps (heap_over_asked memory) f k = ends_keeps f (answer_of f.ending) k (answer_keeps P H f.ending)
  all_returned_keeps asked f k = goes_keeps f UncountInstance k tt

  -- An object leaves those in hand,
  returned_keeps : (memories : List Lease) (tables : List LeasedTable) (f : Frame P H) → AllByRecursion LeaseKeeps memories → AllByRecursion TableKeeps tables → HandKeeps f → LeftKeeps (returned_next memories tables f)
  returned_keeps (lease ∷ rest) tables f ms ts k = goes_keeps (record f { objects = record f.objects { memories = record f.objects.memories { items = rest } } }) (UncountObject (Memory lease)) ((ms.1, k.0.1), k.1) ms.0
  returned_keeps [] (lease ∷ rest) f ms ts k = goes_keeps (record f { objects = record f.objects { tables = record f.objects.tables { items = rest } } }) (UncountObject (Table lease)) ((k.0.0, ts.1), k.1) ts.0
  returned_keeps [] [] f ms ts k = all_returned_keeps f.asked f k

  -- or all are granted.
  granted_keeps : (f : Frame P H) → HandKeeps f → LeftKeeps (granted_next f)
  granted_keeps f k =
      by_choice LeftKeeps (nat_lt (objects_in f.objects) (objects_wanted f.asked)) (goes_to f (Pick 0)) (ends_with (record f { objects = no_objects }) (answer.Granted (Instance f.objects)))
      (goes_keeps f (Pick 0) k tt)
      (ends_keeps (record f { objects = no_objects }) (answer.Granted (Instance f.objects)) ((tt, tt), k.1) k.0)

  next_keeps : (e : Ending) (f : Frame P H) → HandKeeps f → LeftKeeps (next_by e f)
  next_keeps granted f k = granted_keeps f k
  next_keeps returned f k = returned_keeps f.objects.memories.items f.objects.tables.items f k.0.0 k.0.1 k
  next_keeps (refused e) f k = returned_keeps f.objects.memories.items f.objects.tables.items f k.0.0 k.0.1 k

  flush_keeps : (f : Frame P H) → HandKeeps f → LeftKeeps (flush_next f)
  flush_keeps f k = by_choice LeftKeeps (is_flushed f) (next_by f.ending f) (goes_to f Flush) (next_keeps f.ending f k) (goes_keeps f Flush k tt)

  search_keeps : (queues : ℕ) (e : AllocError) (f : Frame P H) → HandKeeps f → LeftKeeps (search_next queues e f)
  search_keeps queues e f k =
      by_choice LeftKeeps (nat_lt f.queues queues) (goes_to f TakeQueue) (returned_next f.objects.memories.items f.objects.tables.items (failing e f))
      (goes_keeps f TakeQueue k tt)
      (returned_keeps f.objects.memories.items f.objects.tables.items (failing e f) k.0.0 k.0.1 k)

  pub after_keeps : (f : Frame P H) (turn : Turn P H) → HandKeeps f → TurnKeeps turn → LeftKeeps (after f turn)
  after_keeps f (goes phase) k one = goes_keeps f phase k one
  after_keeps f (ends outcome) k one = ends_keeps f outcome k one
  after_keeps f next k one = next_keeps f.ending f k
  after_keeps f flush k one = flush_keeps f k
  after_keeps f (search queues e) k one = search_keeps queues e f k
  after_keeps f stays k one = absurd one

  -- a grant that is given back
  abbrev pub CallKeeps : Call P H → Type 0
  CallKeeps (call.GiveBack grant) = GrantKeeps grant
  CallKeeps _ = Unit {0}

  back_keeps : (grant : Grant P H) (f : Frame P H) → FrameKeeps f → GrantKeeps grant → FrameKeeps (gives_back grant f)
  back_keeps (Instance lease) f k one =
      let left = returned_keeps lease.memories.items lease.tables.items (record f { asked = nothing_asked; objects = lease; ending = returned }) one.0 one.1 (one, k.local) in
      record { objects = left.frame.objects; local = left.frame.local; phase = left.frame.phase }
  back_keeps Component f k one = record { objects = k.objects; local = k.local; phase = tt }
  back_keeps (memory_grant lease) f k one = record { objects = k.objects; local = k.local; phase = one }
  back_keeps (table_grant lease) f k one = record { objects = k.objects; local = k.local; phase = one }
  back_keeps (stack_grant lease) f k one = record { objects = k.objects; local = k.local; phase = one }
  back_keeps (heap_grant lease memory) f k one = record { objects = k.objects; local = k.local; phase = one }
  back_keeps (heap_over_grant lease) f k one = record { objects = k.objects; local = k.local; phase = tt }

  -- A call begins.
  pub begun_keeps : (c : Call P H) (f : Frame P H) → FrameKeeps f → CallKeeps c → FrameKeeps (begun_call c f)
  begun_keeps call.Key f k one = record { objects = k.objects; local = k.local; phase = tt }
  begun_keeps (call.Module m) f k one = record { objects = k.objects; local = k.local; phase = tt }
  begun_keeps (call.Component info) f k one = record { objects = k.objects; local = k.local; phase = tt }
  begun_keeps (call.Memory m) f k one = record { objects = k.objects; local = k.local; phase = tt }
  begun_keeps (call.Table ty) f k one = record { objects = k.objects; local = k.local; phase = tt }
  begun_keeps call.Stack f k one = record { objects = k.objects; local = k.local; phase = tt }
  begun_keeps (call.Heap ty) f k one = record { objects = k.objects; local = k.local; phase = tt }
  begun_keeps (call.HeapOver memory) f k one = record { objects = k.objects; local = k.local; phase = tt }
  begun_keeps (call.GiveBack grant) f k one = back_keeps grant f k one
  begun_keeps (call.Purge id) f k one = record { objects = k.objects; local = k.local; phase = tt }
  begun_keeps call.Release f k one = record { objects = k.objects; local = k.local; phase = tt }
