-- What a turn opens with: the party has as much of the pool, and where a call is to make its next step, that can be made.
use Rattle.std.proofs.Common.{zero, suc, ◌≡◌, ◌≢◌, ℕ, ◌<◌, ◌≤◌, All, Bool, true, false, List, length, get_or, Option, Some, None, refl, sym, ap, ◌∙◌, subst, inl, inr, arith, ◌∷◌, [], IfSome, slice_get, slice_set, slice_index_or, sum_by, ◌*◌}
use Rattle.pool_run.proofs.Imports.{TakenSlot, slice_get_within, get_or_from_slice_get, All-set, All-get_or, length-set, get_or-set_other, sum_by-set, MakerTold, IsIdle, IsGrant, begun_call, objects_in, IsTableLease, LeasedTable, table_taken, ListedStore, Lease, slot_taken, IsLeaseOf, Thing, taken_count, is_idle, grant_instances, grant_components, PoolCore, Settings, Call, Stage, asks, stage_of, admitted, Frame, Grant, instance, component, one_memory, one_table, stack, heap, heap_over, ModuleAsked, Phase, Idle, IsSearched, IsStackLease, LeasedHeap, LeasedStack, stack_taken, PlainHeap, Weight, counted_object, grant_weight, memory_kind, table_kind}
use Rattle.pool_alloc.specs.declared.frame.Call.TheVariants as call
use Rattle.pool_run.specs.Acts.{MemoryOp, TableOp, Act, requests, on_memory, on_table, drops, purges, releases, act_of, Wanted, an_instance, a_component, a_stack, a_heap, heap_type}
use Rattle.pool_run.specs.Limits.{admitted_at, admitted_to, live_components}
use Rattle.pool_run.specs.Objects.{MovesObject, object_at}
use Rattle.pool_run.specs.PartyRules.{rule_of}
use Rattle.pool_run.specs.Private.{Terms}
use Rattle.pool_alloc.proofs.StripesKept.{begun_stripe}
use Rattle.pool_run.proofs.StageSteps.{is_none, none_idle}
use Rattle.pool_run.specs.Turns.{LeaseMoves, MovesTable, leases_named, tables_named, memory_leases, table_leases, with_lease, with_table_lease, Opening, rests, replies, makes_step, drop_opening, IsPlain, asks_grant, OpensRequest, OpensAct, OpensNext, OpensAt, MovesLeasedBytes, StackLeaseMoves, stack_leases, stack_of, with_stack_lease, OpensWanted}
use Rattle.pool_run.specs.Ties.{is_for_objects, granted_to, CanTurn, IsSoundParty, IsAlone}
use Rattle.pool_run.specs.Worlds.{IsFit, AreFit, IsCallFor, AreCallsFor}
use Rattle.pool_run.specs.declared.command.Command.{Command}
use Rattle.pool_run.specs.declared.reply.Reply.{Reply}
use Rattle.pool_run.specs.declared.running_party.RunningParty.{RunningParty}
use Rattle.pool_run.proofs.Named.{moved}
use Rattle.pool_run.proofs.Operations.{op_slot, op_keeps}
use Rattle.pool_run.proofs.Parties.{HaveSame, grant_inside, live_grant, has_call, called_plain, called_module, called_back, returned_searched, returned_stage, plain_lists, begins_plain, brings_nothing, brings_module, brings_grant}
use Rattle.pool_run.proofs.StackMoves.{stack_op_slot, stack_op_keeps}
use Rattle.pool_run.proofs.TableKept.{table_kept}

module _ {P : Type 0} where
  pub idle_is : (phase : Phase P PlainHeap) → is_idle phase ≡ true → phase ≡ Idle
  idle_is Idle e = refl
  idle_is _ e = absurd cc

  pub returned_busy : (grant : Grant P PlainHeap) (f : Frame P PlainHeap) → is_idle (begun_call (call.GiveBack grant) f).phase ≡ false
  returned_busy grant f =
      let g : Frame P PlainHeap = begun_call (call.GiveBack grant) f in
      sym (none_idle g.phase g.asked g.ending (objects_in g.objects)) ∙ ap is_none (returned_stage grant f)

-- a call for a module has the images of that module's memories
one_fits : (t : Terms) (s : Settings) (number : ℕ) (kept : Option ModuleAsked) → IfSome kept (IsCallFor t s number) → IfSome kept (IsFit s)
one_fits t s number None for = tt
one_fits t s number (Some kept) for = for.fit

-- Calls for modules have the images of these.
pub are_fit : (t : Terms) (s : Settings) (modules : List ModuleAsked) → AreCallsFor t s modules → AreFit s modules
are_fit t s modules calls = λ number. one_fits t s number (slice_get modules number) (calls number)

-- nothing is admitted where no instance is asked for
unasked : (s : Stage) → is_for_objects s ≡ false → admitted_at s ≡ 0
unasked (asks (admitted n)) none = absurd cc
unasked _ none = refl

-- a grant is in the place of another of the pool, and counts for as much
record StaysGrant {P : Type 0} (maker : MakerTold) (c : PoolCore P PlainHeap) (old new : Grant P PlainHeap) : Type 0 where
  weighs : (w : Weight) → grant_weight w new ≡ grant_weight w old
  sound : IsGrant maker c.settings c.plan old → IsGrant maker c.settings c.plan new

-- what things in slots weigh, once another is in one of these slots
slots_same : {X : Type 0} (taken : X → TakenSlot) (x : Thing) (k : ℕ) (items : List X) (l new : X) → slice_get items k ≡ Some l → taken new ≡ taken l → sum_by (λ m. taken_count x (taken m)) (slice_set items k new) ≡ sum_by (λ m. taken_count x (taken m)) items
slots_same {X = X} taken x k items l new there same =
    let of : X → ℕ = λ m. taken_count x (taken m) in
    let here : of (get_or items k l) ≡ of l = ap of (get_or_from_slice_get items k l l there) in
    let moved : of new ≡ of l = ap (taken_count x) same in
    omega (arith, here, moved, sum_by-set of items k new l (slice_get_within items k l there))

-- all of a list are something where one of them is replaced by such
all_still : {X : Type 0} (A : X → Type 0) (items : List X) (k : ℕ) (l new : X) → slice_get items k ≡ Some l → (A l → A new) → All A items → All A (slice_set items k new)
all_still A items k l new there keeps all = All-set A items k new (keeps (subst A (get_or_from_slice_get items k l l there) (All-get_or A items k l (slice_get_within items k l there) all))) all

-- A lease is in the place of another in its slot: of a heap's memory,
heap_stays : {P : Type 0} (maker : MakerTold) (c : PoolCore P PlainHeap) (k : ℕ) (lease : LeasedHeap PlainHeap) (memory old changed : Lease) → slice_get (memory ∷ []) k ≡ Some old → slot_taken changed ≡ slot_taken old → (IsLeaseOf maker c.settings c.plan old → IsLeaseOf maker c.settings c.plan changed) → StaysGrant {P = P} maker c (heap lease memory) (with_lease k changed (heap lease memory))
heap_stays maker c (suc k) lease memory old changed there same keeps = absurd cc
heap_stays maker c zero lease memory old changed there same keeps =
    let its : old ≡ memory = cc in
    let weighs : (x : Thing) → taken_count x (slot_taken changed) ≡ taken_count x (slot_taken memory) = λ x. ap (taken_count x) (same ∙ ap slot_taken its) in
    record {
      weighs = λ w. omega (arith, weighs w.unit);
      sound = λ is. (is.0, keeps (subst (IsLeaseOf maker c.settings c.plan) (sym its) is.1));
    }

-- or of an instance.
module _ {P : Type 0} (maker : MakerTold) (c : PoolCore P PlainHeap) (k : ℕ) where
  memory_stays : (grant : Grant P PlainHeap) (old changed : Lease) → slice_get (leases_named grant) k ≡ Some old → slot_taken changed ≡ slot_taken old → (IsLeaseOf maker c.settings c.plan old → IsLeaseOf maker c.settings c.plan changed) → StaysGrant maker c grant (with_lease k changed grant)
  memory_stays (instance lease) old changed there same keeps = record {
    weighs = λ w. omega (arith, slots_same slot_taken w.unit k lease.memories.items old changed there same, ap (λ (n : ℕ). n * w.counts (counted_object memory_kind)) (length-set lease.memories.items k changed));
    sound = λ is. (all_still (IsLeaseOf maker c.settings c.plan) lease.memories.items k old changed there keeps is.0, is.1);
  }
  memory_stays component old changed there same keeps = absurd cc
  memory_stays (one_memory lease) old changed there same keeps = absurd cc
  memory_stays (one_table lease) old changed there same keeps = absurd cc
  memory_stays (stack lease) old changed there same keeps = absurd cc
  memory_stays (heap lease memory) old changed there same keeps = heap_stays maker c k lease memory old changed there same keeps
  memory_stays (heap_over lease) old changed there same keeps = absurd cc

  table_stays : (grant : Grant P PlainHeap) (old changed : LeasedTable) → slice_get (tables_named grant) k ≡ Some old → changed ≡ record old { table = changed.table } → (IsTableLease maker c.settings c.plan old → IsTableLease maker c.settings c.plan changed) → StaysGrant maker c grant (with_table_lease k changed grant)
  table_stays (instance lease) old changed there same keeps = record {
    weighs = λ w. omega (arith, slots_same table_taken w.unit k lease.tables.items old changed there (ap table_taken same), ap (λ (n : ℕ). n * w.counts (counted_object table_kind)) (length-set lease.tables.items k changed));
    sound = λ is. (is.0, all_still (IsTableLease maker c.settings c.plan) lease.tables.items k old changed there keeps is.1);
  }
  table_stays component old changed there same keeps = absurd cc
  table_stays (one_memory lease) old changed there same keeps = absurd cc
  table_stays (one_table lease) old changed there same keeps = absurd cc
  table_stays (stack lease) old changed there same keeps = absurd cc
  table_stays (heap lease memory) old changed there same keeps = absurd cc
  table_stays (heap_over lease) old changed there same keeps = absurd cc

module _ {P : Type 0} (maker : MakerTold) (c : PoolCore P PlainHeap) where
  stack_stays : (k : ℕ) (grant : Grant P PlainHeap) (old changed : LeasedStack) → slice_get (stack_of grant) k ≡ Some old → stack_taken changed ≡ stack_taken old → (IsStackLease maker c.settings c.plan old → IsStackLease maker c.settings c.plan changed) → StaysGrant maker c grant (with_stack_lease k changed grant)
  stack_stays k (instance lease) old changed there same keeps = absurd cc
  stack_stays k component old changed there same keeps = absurd cc
  stack_stays k (one_memory lease) old changed there same keeps = absurd cc
  stack_stays k (one_table lease) old changed there same keeps = absurd cc
  stack_stays k (heap lease memory) old changed there same keeps = absurd cc
  stack_stays k (heap_over lease) old changed there same keeps = absurd cc
  stack_stays (suc k) (stack lease) old changed there same keeps = absurd cc
  stack_stays zero (stack lease) old changed there same keeps =
      let its : old ≡ lease = cc in
      record {
        weighs = λ w. omega (arith, ap (taken_count w.unit) (same ∙ ap stack_taken its));
        sound = λ is. keeps (subst (IsStackLease maker c.settings c.plan) (sym its) is);
      }

-- a party that may turn
module _ {P : Type 0} (maker : MakerTold) (c : PoolCore P PlainHeap) (p : RunningParty P) where
  -- A command ended with these live grants and this store: the party has as much of the pool, and its places to come are empty.
  pub record IsReply (live : List (Option (Grant P PlainHeap))) (store : ListedStore) : Type 0 where
    pub idle : IsIdle p.frame
    pub same : HaveSame p (record p { live = live })
    pub room : length live ≡ length p.live
    pub to_come : (k : ℕ) → p.done ≤ k → slice_index_or live k None ≡ None
    pub sound : IsSoundParty maker c (record p { live = live })
    pub listed : store.failing ≡ p.store.failing

  -- A call is to make its next step, from this frame and beside these live grants.
  pub record IsStep (frame : Frame P PlainHeap) (live : List (Option (Grant P PlainHeap))) : Type 0 where
    pub can : CanTurn maker c (record p { frame = frame; live = live })
    pub same : HaveSame p (record p { frame = frame; live = live })
    pub room : length live ≡ length p.live
    pub busy : is_idle frame.phase ≡ false
    pub searched : IsSearched c p.frame → IsSearched c frame
    pub admitted : admitted_to (record p { frame = frame; live = live }) ≤ admitted_to p
    pub components : sum_by (granted_to grant_components) live ≤ live_components p
    pub stripe : frame.stripe ≡ p.frame.stripe

  abbrev pub IsOpened : Opening P → Type 0
  IsOpened rests = Unit {0}
  IsOpened (replies reply live store) = IsReply live store
  IsOpened (makes_step frame live) = IsStep frame live

  same_now : HaveSame p p
  same_now w = refl

  -- A party that is alone stays so.
  pub still_alone : (frame : Frame P PlainHeap) (live : List (Option (Grant P PlainHeap))) → IsStep frame live → IsAlone c p.frame p.live → IsAlone c frame live
  still_alone frame live is alone = record {
    whole = λ w. omega (arith, alone.whole w, is.same w);
    searched = is.searched alone.searched;
  }

  module _ (can : CanTurn maker c p) (idle : IsIdle p.frame) where
    pub unchanged : IsReply p.live p.store
    unchanged = record { idle = idle; same = same_now; room = refl; to_come = can.party.to_come; sound = can.party.sound; listed = refl }

    swapped : (of : Grant P PlainHeap → ℕ) (j : ℕ) (old new : Grant P PlainHeap) → slice_index_or p.live j None ≡ Some old → of new ≡ of old → sum_by (granted_to of) (slice_set p.live j (Some new)) ≡ sum_by (granted_to of) p.live
    swapped of j old new is same =
        let here : granted_to of (slice_index_or p.live j None) ≡ of old = ap (granted_to of) is in
        omega (arith, sum_by-set (granted_to of) p.live j (Some new) None (grant_inside p.live j old is))

    other_place : (j k : ℕ) (old new : Grant P PlainHeap) → slice_index_or p.live j None ≡ Some old → slice_index_or p.live k None ≡ None → slice_index_or (slice_set p.live j (Some new)) k None ≡ None
    other_place j k old new is none =
        let apart : k ≢ j = λ e. let both : slice_index_or p.live j None ≡ None = subst (λ (n : ℕ). slice_index_or p.live n None ≡ None) e none in cc in
        get_or-set_other p.live j k (Some new) None apart ∙ none

    -- A grant that counts for as much is in the place of another.
    put_opened : (of : ℕ) (old new : Grant P PlainHeap) (store : ListedStore) → slice_index_or p.live of None ≡ Some old → StaysGrant maker c old new → store.failing ≡ p.store.failing → IsReply (slice_set p.live of (Some new)) store
    put_opened of old new store granted stays listed = record {
      idle = idle;
      same = λ w. omega (arith, swapped (grant_weight w) of old new granted (stays.weighs w));
      room = length-set p.live of (Some new);
      to_come = λ n behind. other_place of n old new granted (can.party.to_come n behind);
      sound = record {
        frame = can.party.sound.frame;
        grants = All-set (λ g. IfSome g (IsGrant maker c.settings c.plan)) p.live of (Some new) (stays.sound (live_grant maker c.settings c.plan p.live of old can.party.sound.grants granted)) can.party.sound.grants;
      };
      listed = listed;
    }

    -- A command on a memory,
    pub moves_opened : (op : MemoryOp) (of k : ℕ) (live : List (Option (Grant P PlainHeap))) (reply : Reply) → MovesObject memory_leases (LeaseMoves op (rule_of p.limits)) of k p.live reply live → IsReply live p.store
    moves_opened op of k live reply is =
        let Now : List (Option (Grant P PlainHeap)) → Type 0 = λ ls. IsReply ls p.store in
        elim (moved memory_leases (LeaseMoves op (rule_of p.limits)) of k p.live live reply is) [
          | inl none ↦ subst Now (sym none.same) unchanged
          | inr m ↦
              subst Now (sym m.is)
              (put_opened of m.grant (with_lease k m.changed m.grant) p.store m.granted
              (memory_stays maker c k m.grant m.old m.changed m.there (op_slot op (rule_of p.limits) m.old m.changed reply m.move) (λ l. op_keeps maker c.settings c.plan op (rule_of p.limits) m.old m.changed reply l m.move)) refl)
        ]

    -- one on a stack,
    stack_opened : (op : MemoryOp) (of k : ℕ) (live : List (Option (Grant P PlainHeap))) (reply : Reply) → MovesObject stack_leases (StackLeaseMoves op) of k p.live reply live → IsReply live p.store
    stack_opened op of k live reply is =
        let Now : List (Option (Grant P PlainHeap)) → Type 0 = λ ls. IsReply ls p.store in
        elim (moved stack_leases (StackLeaseMoves op) of k p.live live reply is) [
          | inl none ↦ subst Now (sym none.same) unchanged
          | inr m ↦
              subst Now (sym m.is)
              (put_opened of m.grant (with_stack_lease k m.changed m.grant) p.store m.granted
              (stack_stays maker c k m.grant m.old m.changed m.there (stack_op_slot op m.old m.changed reply m.move) (λ l. stack_op_keeps maker c.settings c.plan op m.old m.changed reply l m.move)) refl)
        ]

    bytes_opened : (x : Option (Grant P PlainHeap)) (op : MemoryOp) (of k : ℕ) (live : List (Option (Grant P PlainHeap))) (reply : Reply) → MovesLeasedBytes op (rule_of p.limits) x of k p.live reply live → IsReply live p.store
    bytes_opened None op of k live reply is = moves_opened op of k live reply is
    bytes_opened (Some (instance lease)) op of k live reply is = moves_opened op of k live reply is
    bytes_opened (Some component) op of k live reply is = moves_opened op of k live reply is
    bytes_opened (Some (one_memory lease)) op of k live reply is = moves_opened op of k live reply is
    bytes_opened (Some (one_table lease)) op of k live reply is = moves_opened op of k live reply is
    bytes_opened (Some (stack lease)) op of k live reply is = stack_opened op of k live reply is
    bytes_opened (Some (heap lease memory)) op of k live reply is = moves_opened op of k live reply is
    bytes_opened (Some (heap_over lease)) op of k live reply is = moves_opened op of k live reply is

    -- and one on a table.
    pub tables_opened : (op : TableOp) (of k : ℕ) (live : List (Option (Grant P PlainHeap))) (store : ListedStore) (reply : Reply) → MovesObject table_leases (MovesTable op (rule_of p.limits) p.store store) of k p.live reply live → (object_at table_leases of k p.live ≡ None → store ≡ p.store) → IsReply live store
    tables_opened op of k live store reply is unasked =
        let Now : List (Option (Grant P PlainHeap)) → Type 0 = λ ls. IsReply ls store in
        elim (moved table_leases (MovesTable op (rule_of p.limits) p.store store) of k p.live live reply is) [
          | inl none ↦ subst Now (sym none.same) (subst (IsReply p.live) (sym (unasked none.none)) unchanged)
          | inr m ↦
              subst Now (sym m.is)
              (put_opened of m.grant (with_table_lease k m.changed m.grant) store m.granted
              (table_stays maker c k m.grant m.old m.changed m.there m.move.same (λ l. table_kept maker c.settings c.plan op (rule_of p.limits) p.store store m.old m.changed reply l m.move)) (ap (λ (s : ListedStore). s.failing) m.move.store))
        ]

    -- A call begins: the party has what it had, with what the call brings along.
    fewer_live : (counted : Grant P PlainHeap → ℕ) (of : ℕ) (grant : Grant P PlainHeap) → slice_index_or p.live of None ≡ Some grant → sum_by (granted_to counted) (slice_set p.live of None) ≤ sum_by (granted_to counted) p.live
    fewer_live counted of grant is = omega (arith, sum_by-set (granted_to counted) p.live of None None (grant_inside p.live of grant is))

    pub drops_opened : (of : ℕ) (x : Option (Grant P PlainHeap)) → slice_index_or p.live of None ≡ x → IsOpened (drop_opening x of p)
    drops_opened of None has = unchanged
    drops_opened of (Some grant) has = record {
      can = called_back maker of grant c p can idle has;
      same = has_call maker (call.GiveBack grant) (slice_set p.live of None) c p can.party.sound.frame (idle, live_grant maker c.settings c.plan p.live of grant can.party.sound.grants has) (brings_grant p.live of grant has);
      room = length-set p.live of None;
      busy = returned_busy grant p.frame;
      searched = λ s. returned_searched grant c p.frame;
      admitted = omega (arith, ap admitted_at (returned_stage grant p.frame), fewer_live grant_instances of grant has);
      components = fewer_live grant_components of grant has;
      stripe = begun_stripe (call.GiveBack grant) p.frame;
    }

    pub module_opened : (m : ModuleAsked) → IsFit c.settings m → p.done < length p.live → IsStep (begun_call (call.Module m) p.frame) p.live
    module_opened m fit room = record {
      can = called_module maker m c p can idle fit.images fit.places room;
      same = has_call maker (call.Module m) p.live c p can.party.sound.frame (idle, fit.images, fit.places) (brings_module m p.live);
      room = refl;
      busy = refl;
      searched = λ s. tt;
      admitted = omega arith;
      components = omega arith;
      stripe = refl;
    }

    pub plain_opened : (asked : Call P PlainHeap) → IsPlain asked → (asks_grant asked ≡ true → p.done < length p.live) → IsStep (begun_call asked p.frame) p.live
    plain_opened asked plain place =
        let begins = begins_plain maker asked c p.frame plain in
        record {
          can = called_plain maker asked c p plain can idle place;
          same = has_call maker asked p.live c p can.party.sound.frame (begins.may idle) (brings_nothing asked plain p.live);
          room = refl;
          busy = begins.busy;
          searched = λ s. begins.searched;
          admitted = omega (arith, unasked (stage_of (begun_call asked p.frame)) (plain_lists asked p.frame plain));
          components = omega arith;
          stripe = begins.stripe;
        }

    pub requests_opened : (kept : Option ModuleAsked) (o : Opening P) → IfSome kept (IsFit c.settings) → p.done < length p.live → OpensRequest kept p o → IsOpened o
    requests_opened None o fit room opens = absurd opens
    requests_opened (Some kept) o fit room opens =
        elim opens [
          | inl is ↦ subst IsOpened (sym is) unchanged
          | inr is ↦ subst IsOpened (sym is) (module_opened kept fit room)
        ]

    wanted_opened : (modules : List ModuleAsked) (wanted : Wanted) (o : Opening P) → AreFit c.settings modules → p.done < length p.live → OpensWanted modules wanted p o → IsOpened o
    wanted_opened modules (an_instance number) o fit room opens = requests_opened (slice_get modules number) o (fit number) room opens
    wanted_opened modules (a_component info) o fit room opens = subst IsOpened (sym opens) (plain_opened (call.Component info) tt (λ is. room))
    wanted_opened modules a_stack o fit room opens = subst IsOpened (sym opens) (plain_opened call.Stack tt (λ is. room))
    wanted_opened modules (a_heap limits) o fit room opens = subst IsOpened (sym opens) (plain_opened (call.Heap (heap_type limits)) (omega arith) (λ is. room))

    act_opened : (modules : List ModuleAsked) (act : Act) (o : Opening P) → AreFit c.settings modules → p.done < length p.live → OpensAct modules act p o → IsOpened o
    act_opened modules (requests wanted) o fit room opens = wanted_opened modules wanted o fit room opens
    act_opened modules (on_memory of k op) o fit room opens = subst IsOpened (sym opens.3) (bytes_opened (slice_index_or p.live of None) op of k opens.1 opens.0 opens.2)
    act_opened modules (on_table of k op) o fit room opens = subst IsOpened (sym opens.5) (tables_opened op of k opens.1 opens.2 opens.0 opens.3 opens.4)
    act_opened modules (drops of) o fit room opens = subst IsOpened (sym opens) (drops_opened of (slice_index_or p.live of None) refl)
    act_opened modules (purges number) o fit room opens = subst IsOpened (sym opens) (plain_opened (call.Purge (record { 0 = number })) tt (λ is. absurd cc))
    act_opened modules releases o fit room opens = subst IsOpened (sym opens) (plain_opened call.Release tt (λ is. absurd cc))

    -- What the next command opens with.
    pub next_opened : (modules : List ModuleAsked) (commands : List Command) (next : Option Command) (keyed : Bool) (o : Opening P) → slice_get commands p.done ≡ next → AreFit c.settings modules → length commands ≤ length p.live → OpensNext modules next keyed p o → IsOpened o
    next_opened modules commands None keyed o next fit room opens = subst IsOpened (sym opens) tt
    next_opened modules commands (Some command) false o next fit room opens = subst IsOpened (sym opens) (plain_opened call.Key tt (λ is. absurd cc))
    next_opened modules commands (Some command) true o next fit room opens = act_opened modules (act_of command) o fit (omega (arith, room, slice_get_within commands p.done command next)) opens

  pub step_opened : CanTurn maker c p → is_idle p.frame.phase ≡ false → IsStep p.frame p.live
  step_opened can busy = record { can = can; same = same_now; room = refl; busy = busy; searched = λ s. s; admitted = omega arith; components = omega arith; stripe = refl }

  -- What each turn opens with.
  opened_at : (b : Bool) (modules : List ModuleAsked) (commands : List Command) (o : Opening P) → is_idle p.frame.phase ≡ b → AreFit c.settings modules → CanTurn maker c p → length commands ≤ length p.live → OpensAt b modules commands p o → IsOpened o
  opened_at true modules commands o idle fit can room opens =
      next_opened can (idle_is p.frame.phase idle) modules commands (slice_get commands p.done) p.keyed o refl fit room opens
  opened_at false modules commands o busy fit can room opens = subst IsOpened (sym opens) (step_opened can busy)

  pub opened : (t : Terms) (modules : List ModuleAsked) (commands : List Command) (o : Opening P) → AreCallsFor t c.settings modules → CanTurn maker c p → length commands ≤ length p.live → OpensAt (is_idle p.frame.phase) modules commands p o → IsOpened o
  opened t modules commands o calls can room opens = opened_at (is_idle p.frame.phase) modules commands o refl (are_fit t c.settings modules calls) can room opens
