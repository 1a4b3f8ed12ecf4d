-- What a turn of a call leaves to be told: by the turns of the step table, each once.
use Rattle.std.proofs.Common.{◌≡◌, ℕ, ◌≤◌, Bool, true, false, List, [], ◌∷◌, refl, ap, subst, arith, Some}
use Rattle.std.specs.Prelude.{nat_lt}
use Rattle.std.proofs.lemmas.Bool.{ltb-false}
use Rattle.pool_hall.specs.declared.unit_name.SlotKind.{SlotKind}
use Rattle.pool_hall.specs.declared.unit_name.SlotKind.TheVariants.{Memory as memory_kind, Table as table_kind, Stack as stack_kind, Heap as heap_kind}
use Rattle.pool_hall.specs.declared.view.View.{View}
use Rattle.pool_slots.specs.declared.plan.Plan.{Plan}
use Rattle.pool_alloc.specs.Leases.{Lease}
use Rattle.pool_alloc.specs.Searches.{IsSearchedBy}
use Rattle.pool_alloc.specs.StepReads.{allocator_for, queues_next, kind_next}
use Rattle.pool_alloc.specs.TableLeases.{LeasedTable}
use Rattle.pool_alloc.specs.Turns.{Left, after, slot_search, no_slot_left, limit_of, returned_next, all_returned, granted_next, next_by, flush_next, is_flushed, failing, answer_of, is_granting}
use Rattle.pool_alloc.specs.Objects.{objects_in, objects_wanted}
use Rattle.pool_alloc.specs.declared.frame.Asked.{Asked}
use Rattle.pool_alloc.specs.declared.frame.Asked.TheVariants as asked
use Rattle.pool_alloc.specs.declared.frame.Ending.{Ending}
use Rattle.pool_alloc.specs.declared.frame.Ending.TheVariants.{Granted as granted, Returned as returned, Refused as refused}
use Rattle.pool_alloc.specs.declared.frame.Frame.{Frame}
use Rattle.pool_driver.specs.Telling.{AreFullSince, AreTakenSince, RoomTold, LimitTold, RefusalTold, EndingTold, NoneTaken, IsReturnedBy, IsGoing, IsEnding, CallGoes, IsOver, WasOver, Tells, AnswerTold, instance_counter, component_counter}
use Rattle.pool_driver.proofs.Holding.{ending_held, same_holds}

-- no queue was taken yet
pub none_taken : {T : Type 0} (base v : View T) (plan : Plan) (home : ℕ) (e : Ending) → IsSearchedBy e (AreTakenSince base v plan home 0)
none_taken base v plan home granted = λ j below. absurd (omega arith)
none_taken base v plan home returned = tt
none_taken base v plan home (refused e) = tt

-- the answer of a call that gives back, or is refused
pub answered : (P H : Type 0) {T : Type 0} (base v : View T) (I C : Type 0) → (I → WasOver base v instance_counter) → (C → WasOver base v component_counter) → (plan : Plan) (home : ℕ) (e : Ending) → is_granting e ≡ false → IsReturnedBy e (NoneTaken base v plan) → EndingTold base v I C plan home e → AnswerTold base v {P = P} {H = H} plan home (Some (answer_of e))
answered P H base v I C instances components plan home granted back none told = absurd cc
answered P H base v I C instances components plan home returned back none told = none
answered P H base v I C instances components plan home (refused e) back none told = ending_held base v v (same_holds v v refl) I (WasOver base v instance_counter) C (WasOver base v component_counter) instances components plan home (refused e) told

-- a call that is to be refused by no counter may be one that was counted, and may end
over_told : {T : Type 0} (base v : View T) (plan : Plan) (home n : ℕ) (e : Ending) → IsGoing base v plan home n e → IsEnding base v (IsOver base v instance_counter) ⊥ plan home e
over_told base v plan home n e going = record {
  none = going.none;
  ending = ending_held base v v (same_holds v v refl) ⊥ (IsOver base v instance_counter) ⊥ ⊥ (λ no. absurd no) (λ no. no) plan home e going.ending;
}

module _ {T P H : Type 0} (base v : View T) where
  -- What is told once a turn was made, of the frame and of the answer. The party's home and stripe stay.
  abbrev pub LeftTold : Plan → ℕ → ℕ → Left P H → Type 0
  LeftTold plan home stripe l = Tells base v plan l.frame × AnswerTold base v plan home l.outcome × ◌≡◌ {A = ℕ × ℕ} (l.frame.home, l.frame.stripe) (home, stripe)

  -- Objects are given back, or the call ends.
  pub returned_told : (plan : Plan) (memories : List Lease) (tables : List LeasedTable) (f : Frame P H) → is_granting f.ending ≡ false → CallGoes base v plan f → LeftTold plan f.home f.stripe (returned_next memories tables f)
  returned_told plan (lease ∷ memories) tables f back going = (going, tt, refl)
  returned_told plan [] (lease ∷ tables) f back going = (going, tt, refl)
  returned_told plan [] [] f back going = all f.asked
    where
      ended : AnswerTold base v {P = P} {H = H} plan f.home (Some (answer_of f.ending))
      ended = answered P H base v ⊥ ⊥ (λ no. absurd no) (λ no. absurd no) plan f.home f.ending back going.none going.ending

      all : (a : Asked) → LeftTold plan f.home f.stripe (all_returned a f)
      all (asked.Memory m) = (tt, ended, refl)
      all (asked.Table ty) = (tt, ended, refl)
      all asked.Stack = (tt, ended, refl)
      all (asked.Heap ty) = (tt, ended, refl)
      all (asked.HeapOver memory) = (tt, ended, refl)
      all asked.Nothing = (over_told base v plan f.home f.queues f.ending going, tt, refl)
      all (asked.Module m) = (over_told base v plan f.home f.queues f.ending going, tt, refl)

  -- A slot is picked for the next object, from the first shard on, or the call ends with its grant.
  granted_told : (plan : Plan) (f : Frame P H) → CallGoes base v plan f → LeftTold plan f.home f.stripe (granted_next f)
  granted_told plan f going = go (nat_lt (objects_in f.objects) (objects_wanted f.asked)) refl
    where
      go : (b : Bool) → nat_lt (objects_in f.objects) (objects_wanted f.asked) ≡ b → LeftTold plan f.home f.stripe (granted_next f)
      go true more = rw more ((λ j below. absurd (omega arith), going), tt, refl)
      go false none = rw none (tt, tt, refl)

  pub next_told : (plan : Plan) (e : Ending) (f : Frame P H) → f.ending ≡ e → CallGoes base v plan f → LeftTold plan f.home f.stripe (next_by e f)
  next_told plan granted f is going = granted_told plan f going
  next_told plan returned f is going = returned_told plan f.objects.memories.items f.objects.tables.items f (ap is_granting is) going
  next_told plan (refused e) f is going = returned_told plan f.objects.memories.items f.objects.tables.items f (ap is_granting is) going

  pub flush_told : (plan : Plan) (f : Frame P H) → CallGoes base v plan f → LeftTold plan f.home f.stripe (flush_next f)
  flush_told plan f going = go (is_flushed f) refl
    where
      go : (b : Bool) → is_flushed f ≡ b → LeftTold plan f.home f.stripe (flush_next f)
      go true flushed = rw flushed (next_told plan f.ending f refl going)
      go false more = rw more (going, tt, refl)

  -- the reason of a refusal for room, after a search through all shards and all queues
  no_slot_told : (plan : Plan) (f : Frame P H) → AreFullSince base v (allocator_for plan f) f.home (allocator_for plan f).shards → AreTakenSince base v plan f.home f.queues → queues_next plan f ≤ f.queues → RefusalTold base v ⊥ ⊥ plan f.home (no_slot_left plan f)
  no_slot_told plan f full taken all = go (kind_next f) refl
    where
      room : (k : SlotKind) → kind_next f ≡ k → RoomTold base v plan f.home k f.stripe
      room k is = subst (λ (z : SlotKind). RoomTold base v plan f.home z f.stripe) is (record { shards = full; queues = λ j below. taken j (omega arith) })

      go : (k : SlotKind) → kind_next f ≡ k → LimitTold base v ⊥ ⊥ plan f.home (limit_of k f.stripe)
      go memory_kind is = room memory_kind is
      go table_kind is = let r = room table_kind is in record { shards = r.shards; queues = r.queues }
      go stack_kind is = let r = room stack_kind is in record { shards = r.shards; queues = r.queues }
      go heap_kind is = let r = room heap_kind is in record { shards = r.shards; queues = r.queues }

  -- The search goes on, or it ends with a refusal of which all is told.
  pub search_told : (plan : Plan) (f : Frame P H) → AreFullSince base v (allocator_for plan f) f.home (allocator_for plan f).shards → AreTakenSince base v plan f.home f.queues → CallGoes base v plan f → LeftTold plan f.home f.stripe (after f (slot_search plan f))
  search_told plan f full taken going = go (nat_lt f.queues (queues_next plan f)) refl
    where
      go : (b : Bool) → nat_lt f.queues (queues_next plan f) ≡ b → LeftTold plan f.home f.stripe (after f (slot_search plan f))
      go true more = rw more ((full, going), tt, refl)
      go false none =
          let all : queues_next plan f ≤ f.queues = ltb-false f.queues (queues_next plan f) none in
          rw none (returned_told plan f.objects.memories.items f.objects.tables.items (failing (no_slot_left plan f) f) refl (record { queues = tt; none = tt; ending = no_slot_told plan f full taken all }))
