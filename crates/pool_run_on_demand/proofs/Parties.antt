-- What a command of a party on demand makes of its live grants, as the party sees them; and one more reply to it.
use Rattle.std.proofs.Common.{◌≡◌, ℕ, zero, suc, ◌+◌, ◌<◌, ◌≤◌, Bool, List, [], ◌∷◌, ◌++◌, length, map, All, replicate, Option, Some, None, refl, sym, ap, ◌∙◌, subst, arith, IfSome, option_map, slice_get, slice_index_or, slice_set}
use Rattle.pool_run_on_demand.proofs.Imports.{option_map_or, map-set, set-get_or, length-replicate, All-set, sum_by-replicate, slice_get-get_or, MakerTold, Planned, Tunables, GrowthRule, ListedStore, ListedHeaps, ModuleAsked, OnDemandInstance, OnDemandTable, Reserved, with_item, MemoryOp, TableOp, gets, sets, lengthens, asks_length, Act, on_memory, on_table, act_of, MovesNamed, MovesObject, object_at, with_object, host_of, rule_of, Host, PrivateTable, StoredTable, PrivateInstance, PrivateGrant, instance_grant, Grants, grant_at, private_tables, tables_named_in, put_table, with_table, Terms, Request, Drops, PrivateState, with_grants, no_grants, Command, PartyLimits, Reply, Returned, Refused, NoSuchGrant, mapped_at, AreSeen, on_seen, none_seen}
use Rattle.pool_run.specs.declared.reply.Reply.TheVariants.{Instance}
use Rattle.pool_run_on_demand.specs.OnDemand.{BytesOnDemand, TableMovesOnDemand, ActsOnDemand, StepOnDemand, Makes, IsMade, made_instance, no_slots}
use Rattle.pool_run_on_demand.specs.Faults.{faults_met, StepsMeeting}
use Rattle.pool_run_on_demand.specs.Left.{Laying, laying_of, Spends, grant_left, live_left, IsLaidGrant, AreLaidLive, LiveSpends, ActSpends}
use Rattle.pool_run_on_demand.specs.Runs.{IsPartyReady, IsPartyOnDemand, IsPartyTurned}
use Rattle.pool_run_on_demand.specs.Seen.{number_of, seen_lease, seen_table_lease, seen_instance, seen_grant, grants_made, tables_of_grant, with_table_in, made_tables, IsHeldGrant, AreLive, TableLeaseMovesOnDemand, state_seen, IsCallOnDemand, AreCallsOnDemand}
use Rattle.pool_run_on_demand.specs.declared.grant.OnDemandGrant.{OnDemandGrant}
use Rattle.pool_run_on_demand.specs.declared.grant.OnDemandGrant.TheVariants.{Instance as instance, Component as component, Stack as stack, Heap as heap}
use Rattle.pool_run_on_demand.specs.declared.party.PartyOnDemand.{PartyOnDemand}
use Rattle.pool_run_on_demand.proofs.Spending.{spends_none, spends_less}

-- a place with something in it is there
pub taken_below : {X : Type 0} (xs : List (Option X)) (i : ℕ) (x : X) → slice_index_or xs i None ≡ Some x → i < length xs
taken_below [] i x is = absurd cc
taken_below (y ∷ ys) zero x is = omega arith
taken_below (y ∷ ys) (suc i) x is = omega (arith, taken_below ys i x is)

-- an operation on a table beside the calls on its store
abbrev MovesStored : (StoredTable → StoredTable → Reply → Type 0) → ℕ → ℕ → PrivateTable → PrivateTable → Reply → Type 0
MovesStored Move before after t new reply = Move (record { table = t; calls = before }) (record { table = new; calls = after }) reply

-- a party with these grants, which called its store and its maker of heaps so often
abbrev called_so : ℕ → Grants → ℕ → PrivateState
called_so heaps grants stores = record { grants = grants; stores = stores; heaps = heaps }

stored_moves : (Move : StoredTable → StoredTable → Reply → Type 0) (heaps before after of k : ℕ) (grants new : Grants) (reply : Reply) (o : Option PrivateTable) → MovesNamed (MovesStored Move before after) o (with_object private_tables of k) grants reply new → (o ≡ None → after ≡ before)
    → MovesNamed Move (option_map (λ t. record { table = t; calls = before }) o) (with_table of k) (called_so heaps grants before) reply (called_so heaps new after)
stored_moves Move heaps before after of k grants new reply None is none = (is.0, ap (λ (g : Grants). called_so heaps g after) is.1 ∙ ap (called_so heaps grants) (none refl))
stored_moves Move heaps before after of k grants new reply (Some t) is none = (record { table = is.0; calls = after }, is.1, ap (λ (g : Grants). called_so heaps g after) is.2)

-- What an operation makes of a table doesn't depend on which makings of heaps fail.
unmade_apart : (op : TableOp) (rule : GrowthRule) (failing unmade other : List ℕ) (t new : StoredTable) (reply : Reply) → TableMovesOnDemand op (record { rule = rule; failing = failing; unmade = unmade }) t new reply → TableMovesOnDemand op (record { rule = rule; failing = failing; unmade = other }) t new reply
unmade_apart (gets at) rule failing unmade other t new reply is = is
unmade_apart (sets at len value) rule failing unmade other t new reply is = is
unmade_apart (lengthens by) rule failing unmade other t new reply is = is
unmade_apart asks_length rule failing unmade other t new reply is = is

module _ {M L P : Type 0} (tells : Bool) where
  abbrev HoldsIn : Option (OnDemandGrant M L P) → Type 0
  HoldsIn o = IfSome o (IsHeldGrant tells)

  -- what holds of all live grants holds of one, and of the rest, and still where a grant is put in a place
  pub live_at : (live : List (Option (OnDemandGrant M L P))) (of : ℕ) (g : OnDemandGrant M L P) → AreLive tells live → slice_index_or live of None ≡ Some g → IsHeldGrant tells g
  live_at live of g are is = subst HoldsIn is (are of None (taken_below live of g is))

  pub live_without : (live : List (Option (OnDemandGrant M L P))) (of : ℕ) → AreLive tells live → AreLive tells (slice_set live of None)
  live_without live of are = All-set HoldsIn live of None tt are

  pub live_with : (live : List (Option (OnDemandGrant M L P))) (of : ℕ) (g : OnDemandGrant M L P) → IsHeldGrant tells g → AreLive tells live → AreLive tells (slice_set live of (Some g))
  live_with live of g held are = All-set HoldsIn live of (Some g) held are

  -- the party sees tables by their leases
  abbrev seen : OnDemandGrant M L P → PrivateGrant
  seen = seen_grant tells

  tables_same : (g : OnDemandGrant M L P) → tables_named_in (seen g) ≡ map seen_table_lease (tables_of_grant g)
  tables_same (instance g) = refl
  tables_same component = refl
  tables_same (stack lease) = refl
  tables_same (heap lease memory) = refl

  table_changed : (k : ℕ) (l : OnDemandTable P) (g : OnDemandGrant M L P) → seen (with_table_in k l g) ≡ put_table k (seen_table_lease l) (seen g)
  table_changed k l (instance g) = ap (λ (ts : List PrivateTable). instance_grant (record { memories = map (seen_lease tells) g.memories; tables = ts })) (map-set seen_table_lease g.tables k l)
  table_changed k l component = refl
  table_changed k l (stack lease) = refl
  table_changed k l (heap lease memory) = refl

  tables_made : AreSeen (made_tables {M = M} {L = L} {P = P}) private_tables seen seen_table_lease
  tables_made = record { same = tables_same; changed = table_changed }

  module _ (t : Terms) (n : ℕ) (live new : List (Option (OnDemandGrant M L P))) (reply : Reply) where
    -- an operation on bytes of a grant
    pub memory_acts : (of k : ℕ) (op : MemoryOp) (rule : GrowthRule) (store : ListedStore) (heaps : ListedHeaps) → t.host.rule ≡ rule → BytesOnDemand op rule (grant_at (grants_made tells live) of) of k (grants_made tells live) reply (grants_made tells new) → ActsOnDemand t n (state_seen tells live store heaps) (on_memory of k op) reply (state_seen tells new store heaps)
    memory_acts of k op rule store heaps ruled is =
        let Bytes : GrowthRule → Type 0 = λ r. BytesOnDemand op r (grant_at (grants_made tells live) of) of k (grants_made tells live) reply (grants_made tells new) in
        (grants_made tells new, subst Bytes (sym ruled) is, refl)

    -- one on a table
    pub table_acts : (of k : ℕ) (op : TableOp) (limits : Option PartyLimits) (before after : ListedStore) (heaps : ListedHeaps) → t.host ≡ host_of limits before.failing heaps.failing → MovesObject made_tables (TableLeaseMovesOnDemand op (rule_of limits) before after) of k live reply new → (object_at made_tables of k live ≡ None → after ≡ before)
        → ActsOnDemand t n (state_seen tells live before heaps) (on_table of k op) reply (state_seen tells new after heaps)
    table_acts of k op limits before after heaps hosted is unasked =
        let Sees : PrivateTable → PrivateTable → Reply → Type 0 = MovesStored (TableMovesOnDemand op t.host) before.made after.made in
        let Move : OnDemandTable P → OnDemandTable P → Reply → Type 0 = TableLeaseMovesOnDemand op (rule_of limits) before after in
        let seen_so = on_seen made_tables private_tables seen seen_table_lease tables_made Move Sees of k live new reply
        (λ m.
        subst (λ (h : Host). MovesStored (TableMovesOnDemand op h) before.made after.made (seen_table_lease m.old) (seen_table_lease m.changed) reply) (sym hosted)
        (unmade_apart op (rule_of limits) before.failing [] heaps.failing (record { table = seen_table_lease m.old; calls = before.made }) (record { table = seen_table_lease m.changed; calls = after.made }) reply m.move)) is in
        stored_moves (TableMovesOnDemand op t.host) heaps.made before.made after.made of k (grants_made tells live) (grants_made tells new) reply (object_at private_tables of k (grants_made tells live)) seen_so
        (λ none. ap (λ (s : ListedStore). s.made) (unasked (none_seen made_tables private_tables seen seen_table_lease tables_made Move Sees of k live none)))

  -- an instance that a request got
  pub granted_makes : (t : Terms) (n : ℕ) (request : Request) (live : List (Option (OnDemandGrant M L P))) (g : OnDemandInstance M L P) (memories tables : List ℕ) → IsMade t request → seen_instance tells g ≡ made_instance t request → memories ≡ no_slots request.memories → tables ≡ no_slots request.tables
      → Makes t n request (grants_made tells live) (Instance memories tables) (grants_made tells (slice_set live n (Some (instance g))))
  granted_makes t n request live g memories tables made is no_memories no_tables =
      (made, (no_memories, (no_tables, map-set (option_map seen) live n (Some (instance g)) ∙ ap (λ (x : PrivateInstance). slice_set (grants_made tells live) n (Some (instance_grant x))) is)))

  -- A grant that is given back, or isn't there.
  pub drops_made : (live left : List (Option (OnDemandGrant M L P))) (of : ℕ) (g : OnDemandGrant M L P) → slice_index_or live of None ≡ Some g → left ≡ slice_set live of None → Drops (grant_at (grants_made tells live) of) (grants_made tells live) of Returned (grants_made tells left)
  drops_made live left of g is taken =
      let Dropped : Option PrivateGrant → Type 0 = λ o. Drops o (grants_made tells live) of Returned (grants_made tells left) in
      subst Dropped (sym (mapped_at seen live of ∙ ap (option_map seen) is)) (refl, ap (grants_made tells) taken ∙ map-set (option_map seen) live of None)

  pub drops_none : (live left : List (Option (OnDemandGrant M L P))) (of : ℕ) → slice_index_or live of None ≡ None → left ≡ slice_set live of None → Drops (grant_at (grants_made tells live) of) (grants_made tells live) of (Refused NoSuchGrant) (grants_made tells left)
  drops_none live left of is taken =
      let Dropped : Option PrivateGrant → Type 0 = λ o. Drops o (grants_made tells live) of (Refused NoSuchGrant) (grants_made tells left) in
      subst Dropped (sym (mapped_at seen live of ∙ ap (option_map seen) is)) (refl, ap (grants_made tells) (taken ∙ ap (slice_set live of) (sym is) ∙ set-get_or live of None))

-- the call for a module that a request names
pub call_at : (t : Terms) (tunables : Tunables) (calls : List ModuleAsked) (k : ℕ) (x : ModuleAsked) → AreCallsOnDemand t tunables calls → k < length calls → x ≡ slice_index_or calls k x → (number_of x ≡ k) × IsCallOnDemand t tunables x
call_at t tunables calls k x are below is =
    let For : Option ModuleAsked → Type 0 = λ o. IfSome o (λ call. (number_of call ≡ k) × IsCallOnDemand t tunables call) in
    subst For (slice_get-get_or calls k x below ∙ ap Some (sym is)) (are.each k)

-- What holds of nothing holds of each of some places with nothing in them.
all_none : {X : Type 0} (Holds : Option X → Type 0) (n : ℕ) → Holds None → All Holds (replicate n None)
all_none {X} Holds n none k d below = subst Holds (sym (replicate_at n k d (omega (arith, below, length-replicate {A = Option X} n None)))) none
  where
    replicate_at : {X : Type 0} (n k : ℕ) (d : Option X) → k < n → slice_index_or (replicate n None) k d ≡ None
    replicate_at zero k d below = absurd (omega arith)
    replicate_at (suc n) zero d below = refl
    replicate_at (suc n) (suc k) d below = replicate_at n k d (omega arith)

-- No grant is live in a party as it is made, and nothing is left in it.
module _ (M L P : Type 0) (n : ℕ) where
  no_grants_live : (tells : Bool) → AreLive {M = M} {L = L} {P = P} tells (replicate n None)
  no_grants_live tells = all_none (λ (o : Option (OnDemandGrant M L P)). IfSome o (IsHeldGrant tells)) n tt

  no_grants_laid : (y : Laying) → AreLaidLive {M = M} {L = L} {P = P} y (replicate n None)
  no_grants_laid y = all_none (λ (o : Option (OnDemandGrant M L P)). IfSome o (IsLaidGrant y)) n tt

  pub no_grants_left : (live : List (Option (OnDemandGrant M L P))) → live ≡ replicate n None → live_left live ≡ 0
  no_grants_left live is = ap live_left is ∙ sum_by-replicate (λ (o : Option (OnDemandGrant M L P)). option_map_or grant_left o 0) n None ∙ omega arith

no_grants_seen : (M L P : Type 0) (tells : Bool) (n : ℕ) → grants_made {M = M} {L = L} {P = P} tells (replicate n None) ≡ replicate n None
no_grants_seen M L P tells zero = refl
no_grants_seen M L P tells (suc n) = ap (λ (gs : Grants). None ∷ gs) (no_grants_seen M L P tells n)

-- What is met by an operation on a memory, by the rule of the party's limits.
pub memory_spends : {M L P : Type 0} (t : Terms) (before after : MakerTold) (live new : List (Option (OnDemandGrant M L P))) (of k : ℕ) (op : MemoryOp) (rule : GrowthRule) (reply : Reply) → t.host.rule ≡ rule → LiveSpends t.tells op rule before after of k live new reply → ActSpends t before after live (on_memory of k op) reply new
memory_spends t before after live new of k op rule reply ruled is =
    let Spent : GrowthRule → Type 0 = λ r. LiveSpends t.tells op r before after of k live new reply in
    subst Spent (sym ruled) is (laying_of t before) refl

-- Nothing is met where the maker isn't asked.
pub nothing_met : {M L P : Type 0} (t : Terms) (before after : MakerTold) (live new : List (Option (OnDemandGrant M L P))) (act : Act) (reply : Reply) → after ≡ before → faults_met t (grants_made t.tells live) act reply ≡ 0 → live_left new ≤ live_left live → ((y : Laying) → AreLaidLive y live → AreLaidLive y new) → ActSpends t before after live act reply new
nothing_met t before after live new act reply same none fewer keeps laid =
    let Spent : ℕ → Type 0 = λ met. Spends before before met (live_left live) (live_left new) in
    let Left : MakerTold → Type 0 = λ m. Spends before m (faults_met t (grants_made t.tells live) act reply) (live_left live) (live_left new) in
    let spent : Spent 0 = spends_less before before 0 (live_left live) (live_left live) (live_left new) fewer (spends_none before (live_left live)) in
    (keeps (laying_of t before) laid, subst Left (sym same) (subst Spent (sym none) spent))

-- one step more, which met so many faults
one_met : (t : Terms) (n : ℕ) (commands : List Command) (replies : List Reply) (command : Command) (reply : Reply) (start mid end : PrivateState) (met more : ℕ) → StepsMeeting t n commands replies start met mid → slice_get commands (length replies) ≡ Some command → StepOnDemand t (n + length replies) mid command reply end → more ≡ faults_met t mid.grants (act_of command) reply
    → StepsMeeting t n commands (replies ++ reply ∷ []) start (met + more) end
one_met t n [] [] command reply start mid end met more run is step few = absurd cc
one_met t n [] (r ∷ replies) command reply start mid end met more run is step few = absurd run
one_met t n (c ∷ commands) [] command reply start mid end met more run is step few =
    let Steps : ℕ → PrivateState → Command → Type 0 = λ k s d. StepOnDemand t k s d reply end in
    let here : n + 0 ≡ n = omega arith in
    let same : command ≡ c = cc in
    let count : more ≡ faults_met t start.grants (act_of c) reply = few ∙ ap (λ (s : PrivateState). faults_met t s.grants (act_of command) reply) run.0 ∙ ap (λ (d : Command). faults_met t start.grants (act_of d) reply) same in
    (end, (subst (λ (d : Command). Steps n start d) same (subst (λ (s : PrivateState). Steps n s command) run.0 (subst (λ (k : ℕ). Steps k mid command) here step)), (0, (none_before met more (faults_met t start.grants (act_of c) reply) run.1 count, (refl, refl)))))
  where
    none_before : (met more count : ℕ) → met ≡ 0 → more ≡ count → met + more ≡ count + 0
    none_before met more count none is = omega (arith, none, is)
one_met t n (c ∷ commands) (r ∷ replies) command reply start mid end met more run is step few =
    let Steps : ℕ → Type 0 = λ k. StepOnDemand t k mid command reply end in
    let next : n + length (r ∷ replies) ≡ (n + 1) + length replies = omega arith in
    let rest : ℕ = run.1.1.0 in
    (run.0, (run.1.0, (rest + more, (more_after met more rest (faults_met t start.grants (act_of c) r) run.1.1.1.0, one_met t (n + 1) commands replies command reply run.0 mid end rest more run.1.1.1.1 is (subst Steps next step) few))))
  where
    more_after : (met more rest count : ℕ) → met ≡ count + rest → met + more ≡ count + (rest + more)
    more_after met more rest count is = omega (arith, is)

module _ {M P : Type 0} (t : Terms) (commands : List Command) where
  -- a party as it is made
  pub party_begun : (start : MakerTold) (p : PartyOnDemand M P) → t.host ≡ host_of p.limits p.store.failing p.heaps.failing → p.store.made ≡ 0 → p.heaps.made ≡ 0 → p.live.items ≡ replicate (length commands) None → p.told ≡ record { items = []; room = length commands } → IsPartyOnDemand t start commands 0 p
  party_begun start p hosted unasked unmade live told = record {
    ready = record {
      host = hosted;
      places = ap length live ∙ length-replicate (length commands) None;
      room = omega (arith, ap (λ (r : Reserved Reply). r.room) told);
      told = omega (arith, ap (λ (r : Reserved Reply). length r.items) told);
      held = subst (AreLive t.tells) (sym live) (no_grants_live _ _ _ (length commands) t.tells);
    };
    laid = subst (AreLaidLive (laying_of t start)) (sym live) (no_grants_laid _ _ _ (length commands) (laying_of t start));
    run =
        let Run : List Reply → Grants → ℕ → ℕ → Type 0 = λ replies grants stores heaps. StepsMeeting t 0 commands replies (with_grants (no_grants commands)) 0 (called_so heaps grants stores) in
        subst (λ (replies : List Reply). Run replies (grants_made t.tells p.live.items) p.store.made p.heaps.made) (sym (ap (λ (r : Reserved Reply). r.items) told))
        (
        subst (λ (grants : Grants). Run [] grants p.store.made p.heaps.made) (sym (ap (grants_made t.tells) live ∙ no_grants_seen _ _ _ t.tells (length commands)))
        (subst (λ (stores : ℕ). Run [] (no_grants commands) stores p.heaps.made) (sym unasked) (subst (Run [] (no_grants commands) 0) (sym unmade) (refl, refl)))
        );
  }

  -- one that made its next command
  module _ (p q : PartyOnDemand M P) (command : Command) (reply : Reply) (there : slice_get commands (length p.told.items) ≡ Some command) (told : q.told ≡ with_item reply p.told) where
    next_ready : IsPartyReady t commands p → q.limits ≡ p.limits → q.store.failing ≡ p.store.failing → q.heaps.failing ≡ p.heaps.failing → length q.live.items ≡ length p.live.items → AreLive t.tells q.live.items → IsPartyReady t commands q
    next_ready is limits failing unmade places held =
        let below : length p.told.items < length commands = there_below commands (length p.told.items) command there in
        record {
          host = is.host ∙ ap (λ (l : Option PartyLimits). host_of l p.store.failing p.heaps.failing) (sym limits) ∙ ap (λ (f : List ℕ). host_of q.limits f p.heaps.failing) (sym failing) ∙ ap (host_of q.limits q.store.failing) (sym unmade);
          places = places ∙ is.places;
          room = omega (arith, is.room, ap (λ (r : Reserved Reply). r.room) told);
          told = omega (arith, ap (λ (r : Reserved Reply). length r.items) told, one_longer p.told.items reply, below);
          held = held;
        }
      where
        there_below : {X : Type 0} (xs : List X) (k : ℕ) (x : X) → slice_get xs k ≡ Some x → k < length xs
        there_below [] k x is = absurd cc
        there_below (y ∷ ys) zero x is = omega arith
        there_below (y ∷ ys) (suc k) x is = omega (arith, there_below ys k x is)

        one_longer : (xs : List Reply) (x : Reply) → length (xs ++ x ∷ []) ≡ length xs + 1
        one_longer [] x = refl
        one_longer (y ∷ ys) x = omega (arith, one_longer ys x)

    abbrev met_next : ℕ
    met_next = faults_met t (grants_made t.tells p.live.items) (act_of command) reply

    pub party_next : (start before after : MakerTold) (met : ℕ) → before.plan ≡ start.plan → IsPartyOnDemand t start commands met p → ActsOnDemand t (length p.told.items) (state_seen t.tells p.live.items p.store p.heaps) (act_of command) reply (state_seen t.tells q.live.items q.store q.heaps) → ActSpends t before after p.live.items (act_of command) reply q.live.items
        → q.limits ≡ p.limits → q.store.failing ≡ p.store.failing → q.heaps.failing ≡ p.heaps.failing → length q.live.items ≡ length p.live.items → AreLive t.tells q.live.items → IsPartyTurned t start commands met before after p q
    party_next start before after met same is step spends limits failing unmade places held =
        let Steps : ℕ → Type 0 = λ k. ActsOnDemand t k (state_seen t.tells p.live.items p.store p.heaps) (act_of command) reply (state_seen t.tells q.live.items q.store q.heaps) in
        let Laid : Option (List Planned) → Laying = λ plan. record { page = t.settings.page; tunables = t.settings.tunables; plan = plan } in
        let paid = spends (subst (λ (plan : Option (List Planned)). AreLaidLive (Laid plan) p.live.items) (sym same) is.laid) in
        record {
          more = met_next;
          party = record {
            ready = next_ready is.ready limits failing unmade places held;
            laid = subst (λ (plan : Option (List Planned)). AreLaidLive (Laid plan) q.live.items) same paid.0;
            run = subst (λ (r : Reserved Reply). StepsMeeting t 0 commands r.items (with_grants (no_grants commands)) (met + met_next) (state_seen t.tells q.live.items q.store q.heaps)) (sym told)
                (one_met t 0 commands p.told.items command reply (with_grants (no_grants commands)) (state_seen t.tells p.live.items p.store p.heaps) (state_seen t.tells q.live.items q.store q.heaps) met met_next is.run there (subst Steps {x = length p.told.items} {y = 0 + length p.told.items} (omega arith) step) refl);
          };
          spent = paid.1;
        }

  -- one that has no more commands
  pub party_idle : (start maker : MakerTold) (met : ℕ) (p : PartyOnDemand M P) → IsPartyOnDemand t start commands met p → IsPartyTurned t start commands met maker maker p p
  party_idle start maker met p is =
      let Is : ℕ → Type 0 = λ n. IsPartyOnDemand t start commands n p in
      record { more = 0; party = subst Is {x = met} {y = met + 0} (omega arith) is; spent = spends_none maker (live_left p.live.items) }
