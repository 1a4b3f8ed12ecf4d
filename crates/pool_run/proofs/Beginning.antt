-- The first step of a command, and each turn, as the party sees it.
use Rattle.std.proofs.Common.{◌≡◌, ℕ, ◌+◌, ◌<◌, ◌≤◌, ◌++◌, ◌∷◌, Bool, true, false, List, [], length, map, Option, Some, None, refl, sym, ap, ◌∙◌, subst, inl, inr, arith, IfSome, IsSome, option_map, slice_get, slice_set, slice_index_or}
use Rattle.pool_run.proofs.Imports.{map-set, slice_get_within, PlainHeap, objects_in, IsIdle, begun_call, is_idle, PoolCore, Frame, ModuleAsked, Grant, Phase, Stage, no_call, stage_at, stage_of, LeasedTable, instance, component, one_memory, one_table, stack, heap, heap_over, ListedStore, LeasedStack, option_and_then}
use Rattle.pool_slots.specs.declared.errors.AllocError.TheVariants as alloc
use Rattle.pool_alloc.specs.declared.frame.Call.TheVariants as call
use Rattle.pool_run.specs.PartyRules.{rule_of}
use Rattle.pool_run.specs.Private.{private_stacks, PrivateMemory, PrivateState, PrivateGrant, instance_grant, Grants, grant_at, request_of, MovesBytes, Moves, Drops, private_memories, private_tables, with_table}
use Rattle.pool_run.specs.PrivateTables.{Host, PrivateTable, StoredTable, TableMoves}
use Rattle.pool_run.specs.Rooms.{World, TellsOfPool, TellsMove}
use Rattle.pool_run.specs.Turns.{Turned, stored_as, one_step, with_reply, private_memory, private_table, LeaseMoves, MovesTable, private_grant, grants_of, host_of_party, Turns, memory_leases, table_leases, Opening, rests, replies, makes_step, drop_opening, OpensRequest, OpensAct, OpensNext, OpensAt, Leaves, private_stack, StackLeaseMoves, MovesLeasedBytes, stack_leases, OpensWanted}
use Rattle.pool_run.specs.Ties.{seen_by_party, TiedAs, IsPrivate, CanTurn, IsAlone, IsSoundParty}
use Rattle.pool_run.proofs.Parties.{returned_stage}
use Rattle.pool_run.specs.Worlds.{IsWorldOf, IsCallFor, AreCallsFor}
use Rattle.pool_run.specs.declared.command.Command.{Command}
use Rattle.pool_run.specs.declared.reply.Reply.{Reply}
use Rattle.pool_run.specs.declared.reply.Reply.TheVariants.{Refused}
use Rattle.pool_run.specs.declared.reply.Refusal.TheVariants.{NoSuchGrant, Alloc}
use Rattle.pool_run.specs.declared.running_party.RunningParty.{RunningParty}
use Rattle.pool_run.proofs.Grants.{state_of, grants_set, told_at}
use Rattle.pool_run.proofs.Causes.{memory_cause}
use Rattle.pool_run.proofs.Turning.{SeesTurn, has_its_own, replied, step_private}
use Rattle.pool_run.specs.Acts.{MemoryOp, TableOp, gets, sets, lengthens, asks_length, Act, requests, on_memory, on_table, drops, purges, releases, act_of, act_at, Wanted, an_instance, a_component, a_stack, a_heap, heap_type}
use Rattle.pool_run.specs.Objects.{object_at, with_object, MovesNamed, MovesObject}
use Rattle.pool_run.proofs.Opened.{idle_is, IsOpened, still_alone, opened}
use Rattle.pool_run.proofs.SlotKinds.{tables_named_of, stacks_seen_of}
use Rattle.pool_run.proofs.StackMoves.{stack_op_seen}
use Rattle.pool_run.specs.PrivateStacks.{StackMoves}
use Rattle.pool_run.proofs.Operations.{SeesMove, op_seen, named_moves, named_tells, memories_seen}
use Rattle.pool_run.proofs.Named.{AreSeen, none_seen, on_seen}
use Rattle.pool_run.proofs.Sounds.{lease_held, stack_held}

-- a grant that is given back is one of those told
is_told : {A B : Type 0} (f : A → B) (o : Option B) (x : A) → o ≡ option_map f (Some x) → IsSome o
is_told f o x is = rw is refl

-- an operation on a table, as its party sees it, whose store made so many calls before and after
abbrev SeesTable : TableOp → Host → ℕ → ℕ → PrivateTable → PrivateTable → Reply → Type 0
SeesTable op host before after t new reply = TableMoves op host (record { table = t; calls = before }) (record { table = new; calls = after }) reply

-- So it moves what is told of the party's tables beside the calls on its store.
stored_moves : (op : TableOp) (host : Host) (heaps before after of k : ℕ) (grants new : Grants) (reply : Reply) (o : Option PrivateTable) → MovesNamed (SeesTable op host before after) o (with_object private_tables of k) grants reply new → (o ≡ None → after ≡ before)
    → MovesNamed (TableMoves op host) (option_map (λ t. record { table = t; calls = before }) o) (with_table of k) (state_of grants before heaps) reply (state_of new after heaps)
stored_moves op host heaps before after of k grants new reply None is none = (is.0, ap (λ (g : Grants). state_of g after heaps) is.1 ∙ ap (λ (n : ℕ). state_of grants n heaps) (none refl))
stored_moves op host heaps before after of k grants new reply (Some t) is none = (record { table = is.0; calls = after }, is.1, ap (λ (g : Grants). state_of g after heaps) is.2)

-- It calls no maker of heaps.
any_maker : (op : TableOp) (host : Host) (unmade : List ℕ) (t new : StoredTable) (reply : Reply) → TableMoves op (record host { unmade = unmade }) t new reply → TableMoves op host t new reply
any_maker (gets at) host unmade t new reply moves = moves
any_maker (sets at count value) host unmade t new reply moves = moves
any_maker (lengthens by) host unmade t new reply moves = moves
any_maker asks_length host unmade t new reply moves = moves

-- The party sees its tables by their leases.
changed_table : {P : Type 0} (k : ℕ) (l : LeasedTable) (g : Grant P PlainHeap) → private_grant (table_leases.put_in k l g) ≡ private_tables.put_in k (private_table l) (private_grant g)
changed_table k l (instance lease) = ap (λ (ts : List PrivateTable). instance_grant (record { memories = map private_memory lease.memories.items; tables = ts })) (map-set private_table lease.tables.items k l)
changed_table k l component = refl
changed_table k l (one_memory lease) = refl
changed_table k l (one_table lease) = refl
changed_table k l (stack lease) = refl
changed_table k l (heap lease memory) = refl
changed_table k l (heap_over lease) = refl

tables_seen_by : (P : Type 0) → AreSeen (table_leases {P = P}) private_tables private_grant private_table
tables_seen_by P = record { same = tables_named_of; changed = changed_table }

-- The party sees its stacks by their leases.
changed_stack : {P : Type 0} (k : ℕ) (l : LeasedStack) (g : Grant P PlainHeap) → private_grant (stack_leases.put_in k l g) ≡ private_stacks.put_in k (private_stack l) (private_grant g)
changed_stack k l (instance lease) = refl
changed_stack k l component = refl
changed_stack k l (one_memory lease) = refl
changed_stack k l (one_table lease) = refl
changed_stack k l (stack lease) = refl
changed_stack k l (heap lease memory) = refl
changed_stack k l (heap_over lease) = refl

stacks_seen : (P : Type 0) → AreSeen (stack_leases {P = P}) private_stacks private_grant private_stack
stacks_seen P = record { same = stacks_seen_of; changed = changed_stack }

module _ {P : Type 0} (w : World) (start : Grants) (commands : List Command) (before : List Reply) (p : RunningParty P) where
  -- What an opening leaves of the party is a private run still, with the reply where a command ended at once.
  abbrev pub SeesOpening : Opening P → Type 0
  SeesOpening rests = Unit {0}
  SeesOpening (replies reply live store) = IsPrivate w start commands (before ++ reply ∷ []) (record p { frame = one_step p.frame; live = live; store = store; done = p.done + 1 })
  SeesOpening (makes_step frame live) = IsPrivate w start commands before (record p { frame = frame; live = live })

-- a party of this world: what it was told, and that what it has is sound
module _ {P : Type 0} (w : World) (start : Grants) (commands : List Command) (before : List Reply) (c : PoolCore P PlainHeap) (p : RunningParty P) (private : IsPrivate w start commands before p) (sound : IsSoundParty w.maker c p) (ruled : host_of_party p ≡ w.terms.host) where
  -- a call is to make its next step
  steps_seen : (frame : Frame P PlainHeap) (live : List (Option (Grant P PlainHeap))) → TiedAs w (stage_of frame) commands p.done frame.asked (seen_by_party (record p { frame = frame; live = live })) private.told → SeesOpening w start commands before p (makes_step frame live)
  steps_seen frame live tied = record { told = private.told; run = private.run; count = private.count; tied = tied }

  module _ (idle : IsIdle p.frame) where
    none : stage_of p.frame ≡ no_call
    none = ap (λ (phase : Phase P PlainHeap). stage_at phase p.frame.asked p.frame.ending (objects_in p.frame.objects)) idle

    whole : seen_by_party p ≡ private.told
    whole =
        let Tied : Stage → Type 0 = λ s. TiedAs w s commands p.done p.frame.asked (seen_by_party p) private.told in
        subst Tied none private.tied

    told_now : grants_of p.live ≡ private.told.grants
    told_now = ap (λ (s : PrivateState). s.grants) whole

    -- what the party may see before
    abbrev told : PrivateState
    told = state_of private.told.grants p.store.made p.heaps.made

    same_told : told ≡ private.told
    same_told = ap (λ (s : PrivateState). record s { grants = private.told.grants }) whole

    -- a command ends at once
    ends_seen : (act : Act) (live : List (Option (Grant P PlainHeap))) (store : ListedStore) (reply : Reply) → act_at commands p.done ≡ Some act → Moves w.terms p.done told act reply (state_of (grants_of live) store.made p.heaps.made) → TellsOfPool w private.told.grants act reply → SeesOpening w start commands before p (replies reply live store)
    ends_seen act live store reply next step pool =
        let From : PrivateState → Type 0 = λ s. Moves w.terms p.done s act reply (state_of (grants_of live) store.made p.heaps.made) in
        replied w start commands before p (record p { frame = one_step p.frame; live = live; store = store; done = p.done + 1 }) act reply private refl none next (subst From same_told step) pool

    -- a give-back
    drops_seen : (of : ℕ) (x : Option (Grant P PlainHeap)) → slice_index_or p.live of None ≡ x → act_at commands p.done ≡ Some (drops of) → SeesOpening w start commands before p (drop_opening x of p)
    drops_seen of None has next =
        let Back : Option PrivateGrant → Type 0 = λ o. Drops o private.told.grants of (Refused NoSuchGrant) (grants_of p.live) in
        ends_seen (drops of) p.live p.store (Refused NoSuchGrant) next (grants_of p.live, subst Back (sym (told_at p.live private.told.grants of None told_now has)) (refl, told_now), refl) tt
    drops_seen of (Some grant) has next =
        let new : List (Option (Grant P PlainHeap)) = slice_set p.live of None in
        let emptied : grants_of new ≡ slice_set private.told.grants of None = grants_set p.live of None ∙ ap (λ (g : Grants). slice_set g of None) told_now in
        let Tied : Stage → Type 0 = λ s. TiedAs w s commands p.done (begun_call (call.GiveBack grant) p.frame).asked (seen_by_party (record p { live = new })) private.told in
        let there : IsSome (grant_at private.told.grants of) = is_told private_grant (grant_at private.told.grants of) grant (told_at p.live private.told.grants of (Some grant) told_now has) in
        steps_seen (begun_call (call.GiveBack grant) p.frame) new (subst Tied (sym (returned_stage grant p.frame)) (ap (λ (s : PrivateState). record s { grants = grants_of new }) whole, record { of = of; act = next; there = there; ended = emptied }))

    -- a request for an instance
    requests_seen : (number : ℕ) (kept : Option ModuleAsked) (o : Opening P) → IfSome kept (IsCallFor w.terms c.settings number) → OpensRequest kept p o → act_at commands p.done ≡ Some (requests (an_instance number)) → SeesOpening w start commands before p o
    requests_seen number None o for opens next = absurd opens
    requests_seen number (Some kept) o for opens next =
        elim opens [
          | inl is ↦ subst (SeesOpening w start commands before p) (sym is) (ends_seen (requests (an_instance number)) p.live p.store (Refused (Alloc alloc.Memory)) next (grants_of p.live, ((memory_cause w (request_of w.terms number) private.told.grants).0, told_now), refl) tt)
          | inr is ↦
              subst (SeesOpening w start commands before p) (sym is) (steps_seen (begun_call (call.Module kept) p.frame) p.live (whole, record { number = number; act = next; asked_for = for.asked; so_far = tt }))
        ]

    -- an operation on a memory, and on a stack
    memory_moves : (op : MemoryOp) (of k : ℕ) (live : List (Option (Grant P PlainHeap))) (reply : Reply) → MovesObject memory_leases (LeaseMoves op (rule_of p.limits)) of k p.live reply live → MovesObject private_memories (SeesMove w op) of k private.told.grants reply (grants_of live)
    memory_moves op of k live reply is =
        let seen : MovesObject private_memories (SeesMove w op) of k (grants_of p.live) reply (grants_of live) =
        on_seen memory_leases private_memories private_grant private_memory (memories_seen P) (LeaseMoves op (rule_of p.limits)) (SeesMove w op) of k p.live live reply
        (λ m. op_seen w c.settings c.plan (rule_of p.limits) op m.old m.changed reply (ap (λ (h : Host). h.rule) ruled) (lease_held w.maker c p of k m.grant m.old sound m.granted m.there) m.move) is in
        let On : Grants → Type 0 = λ g. MovesObject private_memories (SeesMove w op) of k g reply (grants_of live) in
        subst On told_now seen

    stack_moves : (op : MemoryOp) (of k : ℕ) (live : List (Option (Grant P PlainHeap))) (reply : Reply) → MovesObject stack_leases (StackLeaseMoves op) of k p.live reply live → MovesObject private_stacks (StackMoves op) of k private.told.grants reply (grants_of live)
    stack_moves op of k live reply is =
        let seen : MovesObject private_stacks (StackMoves op) of k (grants_of p.live) reply (grants_of live) =
        on_seen stack_leases private_stacks private_grant private_stack (stacks_seen P) (StackLeaseMoves op) (StackMoves op) of k p.live live reply
        (λ m. stack_op_seen op m.old m.changed reply (stack_held w.maker c p of k m.grant m.old sound m.granted m.there).plain m.move) is in
        let On : Grants → Type 0 = λ g. MovesObject private_stacks (StackMoves op) of k g reply (grants_of live) in
        subst On told_now seen

    -- so it is of the grant that is named
    abbrev Moved : MemoryOp → ℕ → ℕ → Reply → List (Option (Grant P PlainHeap)) → Option PrivateGrant → Type 0
    Moved op of k reply live x = MovesBytes op w.terms.host.rule x of k private.told.grants reply (grants_of live)

    bytes_move : (x : Option (Grant P PlainHeap)) (op : MemoryOp) (of k : ℕ) (live : List (Option (Grant P PlainHeap))) (reply : Reply) → MovesLeasedBytes op (rule_of p.limits) x of k p.live reply live → Moved op of k reply live (option_map private_grant x)
    bytes_move None op of k live reply is = named_moves w op (object_at private_memories of k private.told.grants) (with_object private_memories of k) private.told.grants (grants_of live) reply (memory_moves op of k live reply is)
    bytes_move (Some (instance lease)) op of k live reply is = named_moves w op (object_at private_memories of k private.told.grants) (with_object private_memories of k) private.told.grants (grants_of live) reply (memory_moves op of k live reply is)
    bytes_move (Some component) op of k live reply is = named_moves w op (object_at private_memories of k private.told.grants) (with_object private_memories of k) private.told.grants (grants_of live) reply (memory_moves op of k live reply is)
    bytes_move (Some (one_table lease)) op of k live reply is = named_moves w op (object_at private_memories of k private.told.grants) (with_object private_memories of k) private.told.grants (grants_of live) reply (memory_moves op of k live reply is)
    bytes_move (Some (one_memory lease)) op of k live reply is = named_moves w op (object_at private_memories of k private.told.grants) (with_object private_memories of k) private.told.grants (grants_of live) reply (memory_moves op of k live reply is)
    bytes_move (Some (heap lease memory)) op of k live reply is = named_moves w op (object_at private_memories of k private.told.grants) (with_object private_memories of k) private.told.grants (grants_of live) reply (memory_moves op of k live reply is)
    bytes_move (Some (heap_over lease)) op of k live reply is = named_moves w op (object_at private_memories of k private.told.grants) (with_object private_memories of k) private.told.grants (grants_of live) reply (memory_moves op of k live reply is)
    bytes_move (Some (stack lease)) op of k live reply is = stack_moves op of k live reply is

    -- and no memory of a stack's grant tells of the pool
    abbrev Told : MemoryOp → Reply → Option PrivateMemory → Type 0
    Told op reply x = IfSome x (λ m. TellsMove w op m reply)

    bytes_tell : (x : Option (Grant P PlainHeap)) (op : MemoryOp) (of k : ℕ) (live : List (Option (Grant P PlainHeap))) (reply : Reply) → grant_at private.told.grants of ≡ option_map private_grant x → MovesLeasedBytes op (rule_of p.limits) x of k p.live reply live → Told op reply (object_at private_memories of k private.told.grants)
    bytes_tell None op of k live reply there is = named_tells w op (object_at private_memories of k private.told.grants) (with_object private_memories of k) private.told.grants (grants_of live) reply (memory_moves op of k live reply is)
    bytes_tell (Some (instance lease)) op of k live reply there is = named_tells w op (object_at private_memories of k private.told.grants) (with_object private_memories of k) private.told.grants (grants_of live) reply (memory_moves op of k live reply is)
    bytes_tell (Some component) op of k live reply there is = named_tells w op (object_at private_memories of k private.told.grants) (with_object private_memories of k) private.told.grants (grants_of live) reply (memory_moves op of k live reply is)
    bytes_tell (Some (one_table lease)) op of k live reply there is = named_tells w op (object_at private_memories of k private.told.grants) (with_object private_memories of k) private.told.grants (grants_of live) reply (memory_moves op of k live reply is)
    bytes_tell (Some (one_memory lease)) op of k live reply there is = named_tells w op (object_at private_memories of k private.told.grants) (with_object private_memories of k) private.told.grants (grants_of live) reply (memory_moves op of k live reply is)
    bytes_tell (Some (heap lease memory)) op of k live reply there is = named_tells w op (object_at private_memories of k private.told.grants) (with_object private_memories of k) private.told.grants (grants_of live) reply (memory_moves op of k live reply is)
    bytes_tell (Some (heap_over lease)) op of k live reply there is = named_tells w op (object_at private_memories of k private.told.grants) (with_object private_memories of k) private.told.grants (grants_of live) reply (memory_moves op of k live reply is)
    bytes_tell (Some (stack lease)) op of k live reply there is =
        let none : object_at private_memories of k private.told.grants ≡ None = ap (λ (x : Option PrivateGrant). option_and_then (λ g. slice_get (private_memories.in_grant g) k) x) there in
        subst (Told op reply) (sym none) tt

    -- a command on bytes
    moves_seen : (op : MemoryOp) (of k : ℕ) (live : List (Option (Grant P PlainHeap))) (reply : Reply) → MovesLeasedBytes op (rule_of p.limits) (slice_index_or p.live of None) of k p.live reply live → act_at commands p.done ≡ Some (on_memory of k op) → SeesOpening w start commands before p (replies reply live p.store)
    moves_seen op of k live reply is next =
        let x : Option (Grant P PlainHeap) = slice_index_or p.live of None in
        let there : grant_at private.told.grants of ≡ option_map private_grant x = told_at p.live private.told.grants of x told_now refl in
        ends_seen (on_memory of k op) live p.store reply next
        (grants_of live, subst (Moved op of k reply live) (sym there) (bytes_move x op of k live reply is), refl)
        (bytes_tell x op of k live reply there is)

    -- a command on a table
    tables_seen : (op : TableOp) (of k : ℕ) (live : List (Option (Grant P PlainHeap))) (store : ListedStore) (reply : Reply) → MovesObject table_leases (MovesTable op (rule_of p.limits) p.store store) of k p.live reply live → (object_at table_leases of k p.live ≡ None → store ≡ p.store) → act_at commands p.done ≡ Some (on_table of k op) → SeesOpening w start commands before p (replies reply live store)
    tables_seen op of k live store reply is unasked next =
        let Sees : PrivateTable → PrivateTable → Reply → Type 0 = SeesTable op w.terms.host p.store.made store.made in
        let By : Host → PrivateTable → PrivateTable → Reply → Type 0 = λ h x y r. SeesTable op h p.store.made store.made x y r in
        let seen : MovesObject private_tables Sees of k (grants_of p.live) reply (grants_of live) =
        on_seen table_leases private_tables private_grant private_table (tables_seen_by P) (MovesTable op (rule_of p.limits) p.store store) Sees of k p.live live reply
        (λ m. subst (λ (h : Host). By h (private_table m.old) (private_table m.changed) reply) ruled (any_maker op (host_of_party p) [] (stored_as m.old p.store) (stored_as m.changed store) reply m.move.move)) is in
        let On : Grants → Type 0 = λ g. MovesObject private_tables Sees of k g reply (grants_of live) in
        let none : object_at private_tables of k private.told.grants ≡ None → store.made ≡ p.store.made =
        λ nothing. ap (λ (x : ListedStore). x.made) (unasked (none_seen table_leases private_tables private_grant private_table (tables_seen_by P) (MovesTable op (rule_of p.limits) p.store store) Sees of k p.live (ap (object_at private_tables of k) told_now ∙ nothing))) in
        ends_seen (on_table of k op) live store reply next
        (stored_moves op w.terms.host p.heaps.made p.store.made store.made of k private.told.grants (grants_of live) reply (object_at private_tables of k private.told.grants) (subst On told_now seen) none) tt

    -- a request for whatever it is
    wanted_seen : (modules : List ModuleAsked) (wanted : Wanted) (o : Opening P) → AreCallsFor w.terms c.settings modules → OpensWanted modules wanted p o → act_at commands p.done ≡ Some (requests wanted) → SeesOpening w start commands before p o
    wanted_seen modules (an_instance number) o calls opens next = requests_seen number (slice_get modules number) o (calls number) opens next
    wanted_seen modules (a_component info) o calls opens next = subst (SeesOpening w start commands before p) (sym opens) (steps_seen (begun_call (call.Component info) p.frame) p.live (whole, next))
    wanted_seen modules a_stack o calls opens next = subst (SeesOpening w start commands before p) (sym opens) (steps_seen (begun_call call.Stack p.frame) p.live (whole, next))
    wanted_seen modules (a_heap limits) o calls opens next = subst (SeesOpening w start commands before p) (sym opens) (steps_seen (begun_call (call.Heap (heap_type limits)) p.frame) p.live (whole, limits, refl, next))

    act_seen : (modules : List ModuleAsked) (act : Act) (o : Opening P) → AreCallsFor w.terms c.settings modules → OpensAct modules act p o → act_at commands p.done ≡ Some act → SeesOpening w start commands before p o
    act_seen modules (requests wanted) o calls opens next = wanted_seen modules wanted o calls opens next
    act_seen modules (on_memory of k op) o calls opens next = subst (SeesOpening w start commands before p) (sym opens.3) (moves_seen op of k opens.1 opens.0 opens.2 next)
    act_seen modules (on_table of k op) o calls opens next = subst (SeesOpening w start commands before p) (sym opens.5) (tables_seen op of k opens.1 opens.2 opens.0 opens.3 opens.4 next)
    act_seen modules (drops of) o calls opens next = subst (SeesOpening w start commands before p) (sym opens) (drops_seen of (slice_index_or p.live of None) refl next)
    act_seen modules (purges number) o calls opens next = subst (SeesOpening w start commands before p) (sym opens) (steps_seen (begun_call (call.Purge (record { 0 = number })) p.frame) p.live (whole, record { number = number; act = next }))
    act_seen modules releases o calls opens next = subst (SeesOpening w start commands before p) (sym opens) (steps_seen (begun_call call.Release p.frame) p.live (whole, next))

    -- The next command begins.
    pub next_seen : (modules : List ModuleAsked) (next : Option Command) (keyed : Bool) (o : Opening P) → AreCallsFor w.terms c.settings modules → slice_get commands p.done ≡ next → OpensNext modules next keyed p o → SeesOpening w start commands before p o
    next_seen modules None keyed o calls next opens = subst (SeesOpening w start commands before p) (sym opens) tt
    next_seen modules (Some command) false o calls next opens = subst (SeesOpening w start commands before p) (sym opens) (steps_seen (begun_call call.Key p.frame) p.live whole)
    next_seen modules (Some command) true o calls next opens = act_seen modules (act_of command) o calls opens (ap (option_map act_of) next)

  seen_at : (b : Bool) (modules : List ModuleAsked) (o : Opening P) → is_idle p.frame.phase ≡ b → AreCallsFor w.terms c.settings modules → OpensAt b modules commands p o → SeesOpening w start commands before p o
  seen_at true modules o idle calls opens = next_seen (idle_is p.frame.phase idle) modules (slice_get commands p.done) p.keyed o calls refl opens
  seen_at false modules o busy calls opens = subst (SeesOpening w start commands before p) (sym opens) private

module _ {P : Type 0} (w : World) (start : Grants) (commands : List Command) (before : List Reply) (c : PoolCore P PlainHeap) (p : RunningParty P) (private : IsPrivate w start commands before p) (world : IsWorldOf w c) (can : CanTurn w.maker c p) (alone : w.alone ≡ true → IsAlone c p.frame p.live) (ruled : host_of_party p ≡ w.terms.host) (striped : p.frame.stripe ≡ w.terms.stripe) where
  -- what a turn leaves that opens so
  turn_seen : (o : Opening P) (t : Turned P) → IsOpened w.maker c p o → SeesOpening w start commands before p o → Leaves o c p t → SeesTurn w start commands before t
  turn_seen rests t is seen leaves = subst (SeesTurn w start commands before) (sym leaves) private
  turn_seen (replies reply live store) t is seen leaves = subst (SeesTurn w start commands before) (sym leaves) seen
  turn_seen (makes_step frame live) t is seen leaves =
      let q : RunningParty P = record p { frame = frame; live = live } in
      step_private w start commands before c q t seen world (has_its_own w c q is.can) (λ e. still_alone w.maker c p frame live is (alone e)) ruled (is.stripe ∙ striped) leaves

module _ {P : Type 0} where
  -- After a turn of a party its replies are still a private run.
  pub turn_private : (w : World) (modules : List ModuleAsked) (start : Grants) (commands : List Command) (before : List Reply) (c : PoolCore P PlainHeap) (p : RunningParty P) (t : Turned P) → IsWorldOf w c → AreCallsFor w.terms c.settings modules → CanTurn w.maker c p → (w.alone ≡ true → IsAlone c p.frame p.live) → host_of_party p ≡ w.terms.host → p.frame.stripe ≡ w.terms.stripe → length commands ≤ length p.live → IsPrivate w start commands before p → Turns modules commands c p t → IsPrivate w start commands (with_reply t.reply before) t.party
  turn_private w modules start commands before c p t world calls can alone ruled striped room private turns =
      turn_seen w start commands before c p private world can alone ruled striped turns.0 t (opened w.maker c p w.terms modules commands turns.0 calls can room turns.1)
      (seen_at w start commands before c p private can.party.sound ruled (is_idle p.frame.phase) modules turns.0 refl calls turns.1) turns.2
