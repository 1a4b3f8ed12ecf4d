-- What a party has once a step was made fits what it was told, with the reply if the step ends the command.
use Rattle.std.proofs.Common.{◌≡◌, ℕ, ◌+◌, ◌<◌, ◌≤◌, ◌⊎◌, inl, inr, true, false, List, [], ◌∷◌, length, Option, Some, None, refl, sym, ap, ◌∙◌, subst, arith, IsSome, slice_set, sum_by}
use Rattle.pool_run.proofs.Imports.{length-map, AllocError, heap_slot, ListedHeaps, risen, Limits, MemoryType, PartyTold, IsGrantOf, IsHeapOf, IfGranted, LeasedHeap, Lease, memory_slot, objects_wanted, LeasedTable, table_slot, InstanceLease, of_kind, SlotName, PlainHeap, right_to, frame_instances, component_refused, no_component_left, AreSupported, Progress, untested, uncounted, admitted, Stage, no_call, keys, asks, returning, refusing, purging, reserving, releasing, Follows, Goes, seeks_stack, tests_heap, seeks_heap, seeks_single, counts_heap, tests_component, counts_component, IsBroken, Raises, IsHeapUntested, IsHeapTested, SeeksHeap, HasHeap, grant_count, memories_wanted, images_wanted, memory_slots, PoolCore, Settings, ComponentInfo, Unsupported, Frame, IsStackLease, IsNewStack, LeasedStack, stack_slot, Asked, stack_asked, heap_asked, Grant, instance, component, one_memory, one_table, stack, heap, Outcome, counted_component, only, phase_counted, heap_over_asked, heap_over}
use Rattle.pool_slots.specs.declared.errors.AllocError.TheVariants as refusal
use Rattle.pool_run.proofs.SlotsMade.{made_slot}
use Rattle.pool_alloc.specs.declared.frame.Outcome.TheVariants as answer
use Rattle.pool_run.specs.Acts.{Act, requests, drops, purges, releases, act_at, Wanted, an_instance, a_component, a_stack, a_heap, heap_type}
use Rattle.pool_run.specs.Private.{Grants, grant_at, Request, request_of, wants_of, begun_instance, IsReleased, Moves, Drops, stack_grant, stacks_in_grant, PrivateGrant, instance_grant, component_grant, memories_in_grant, tables_in_grant, IsComponentRefused, Requests, PrivateState, heap_grant, begun_memory, heap_memory, heap_barred, heap_refusal, RefusesHeap, CountsGranted, CountsRefused}
use Rattle.pool_run.specs.PrivateTables.{goes_through}
use Rattle.pool_run.specs.Rooms.{World, live_count, table_count, HasNoMemoryIn, HasNoTableIn, AreFreeSlots, TellsOfPool, stack_count, HasNoStackIn, heap_count, heaps_in_grant, HasNoHeapIn, TellsComponentRoom, TellsRequest}
use Rattle.pool_run.specs.Turns.{private_grant, grants_of, granted_reply, private_memory, private_table, private_stack, stack_of, heap_of, leases_of, tables_of, heaps_told as heaps_of}
use Rattle.pool_run.specs.Ties.{granted_to, IsFor, IsAdmitted, IsSoFar, IsRequest, IsToRefuse, IsToReturn, IsPurge, TiedAs, IsForStack, IsForComponent, IsForSupported, IsForHeap, IsForTested, CauseFor, CallsFor, with_calls}
use Rattle.pool_run.specs.declared.command.Command.{Command}
use Rattle.pool_run.specs.declared.reply.Reply.{Reply}
use Rattle.pool_run.specs.declared.reply.Reply.TheVariants.{Returned, Purged, Released, Refused}
use Rattle.pool_run.specs.declared.reply.Refusal.TheVariants.{Alloc}
use Rattle.pool_run.proofs.Causes.{none_first}
use Rattle.pool_run.proofs.SlotKinds.{heaps_counted, heaps_seen_of, heaps_room, heaps_told, stacks_counted, stacks_seen_of, stacks_room, stacks_told, memories_counted, tables_counted, memories_seen_of, tables_seen_of, memories_room, tables_room, memories_told, tables_told}
use Rattle.pool_run.proofs.Exhausted.{components_told}
use Rattle.pool_run.proofs.FreeSlots.{are_free}
use Rattle.pool_run.proofs.Grants.{grants_set}
use Rattle.pool_run.proofs.Requests.{slots_of, table_slots_of, IsBefore, memory_number, table_number, same_number, raised_cause, goes_so_far, granted_begun}
use Rattle.pool_run.proofs.StackRequests.{stack_cause, stack_begins}
use Rattle.pool_run.proofs.HeapCalls.{CallsNow}
use Rattle.pool_run.proofs.HeapRequests.{RefusesNow, heap_refused_now, heap_failed_now, heap_allowed, heap_sought, untested_heap, tested_heap, heap_begun}
use Rattle.pool_run.proofs.StageSteps.{is_none}
use Rattle.pool_run.proofs.Weighed.{alone_counts}

-- a grant that is there ends
dropped : (o : Option PrivateGrant) (told new : Grants) (of : ℕ) → IsSome o → new ≡ slice_set told of None → Drops o told of Returned new
dropped None told new of some is = absurd cc
dropped (Some g) told new of some is = (refl, is)

-- a party of this world with these commands, of which so many are done, its live grants and its call, how often its store and its
-- maker of heaps were called, and what it was told
module _ {P : Type 0} (w : World) (commands : List Command) (done : ℕ) (live : List (Option (Grant P PlainHeap))) (stores made : ℕ) (told : PrivateState) where
  -- the party with these grants, as it sees itself
  abbrev pub seen_with : List (Option (Grant P PlainHeap)) → PrivateState
  seen_with new = record { grants = grants_of new; stores = stores; heaps = made }

  -- the command under way ends with this reply, and the party has these grants then
  pub record Replies (reply : Reply) (new : List (Option (Grant P PlainHeap))) : Type 0 where
    pub act : Act
    pub next : act_at commands done ≡ Some act
    pub moves : Moves w.terms done told act reply (seen_with new)
    pub pool : TellsOfPool w told.grants act reply

  -- what the party has after a step with this outcome fits what it was told
  abbrev pub TiedBy : Stage → Asked → Option (Outcome P PlainHeap) → Type 0
  TiedBy t asked None = TiedAs w t commands done asked (seen_with live) told
  TiedBy t asked (Some answer.Key) = TiedAs w t commands done asked (seen_with live) told
  TiedBy t asked (Some (answer.Granted grant)) = Replies (granted_reply grant) (slice_set live done (Some grant))
  TiedBy t asked (Some answer.Returned) = Replies Returned live
  TiedBy t asked (Some (answer.Purged n)) = Replies (Purged n) live
  TiedBy t asked (Some (answer.Released n)) = Replies (Released n) live
  TiedBy t asked (Some (answer.Refused e)) = Replies (Refused (Alloc e)) live

  -- with other grants the party sees itself as it was told, with these grants
  with_these : seen_with live ≡ told → (new : List (Option (Grant P PlainHeap))) → seen_with new ≡ record told { grants = grants_of new }
  with_these seen new = ap (λ (s : PrivateState). record s { grants = grants_of new }) seen

  now_told : seen_with live ≡ told → grants_of live ≡ told.grants
  now_told seen = ap (λ (s : PrivateState). s.grants) seen

  -- what is asked for is refused: where it called no maker, what was told stays
  uncalled : seen_with live ≡ with_calls made told → made ≡ told.heaps → seen_with live ≡ told
  uncalled seen same = seen ∙ ap (λ (n : ℕ). with_calls n told) same

  refused_moves : (wanted : Wanted) (e : AllocError) → seen_with live ≡ with_calls made told → CauseFor w wanted told.grants e → CallsFor w.terms.host.unmade wanted e told.heaps made → Requests w.terms done wanted told (Refused (Alloc e)) (seen_with live)
  refused_moves (an_instance number) e seen cause calls = (grants_of live, (cause.0, now_told (uncalled seen calls)), with_these (uncalled seen calls) live)
  refused_moves (a_component info) e seen cause calls = (grants_of live, (cause.0, now_told (uncalled seen calls)), with_these (uncalled seen calls) live)
  refused_moves a_stack e seen cause calls = (grants_of live, (cause.0, now_told (uncalled seen calls)), with_these (uncalled seen calls) live)
  refused_moves (a_heap limits) e seen cause calls = (cause.0, calls, seen)

  refused_tells : (wanted : Wanted) (e : AllocError) → CauseFor w wanted told.grants e → TellsRequest w wanted told.grants (Refused (Alloc e))
  refused_tells (an_instance number) e cause = cause.1
  refused_tells (a_component info) e cause = cause.1
  refused_tells a_stack e cause = cause.1
  refused_tells (a_heap limits) e cause = cause.1

  refused : (e : AllocError) → seen_with live ≡ with_calls made told → IsToRefuse w commands done told.grants told.heaps made e → Replies (Refused (Alloc e)) live
  refused e seen is = record { act = requests is.wanted; next = is.act; moves = refused_moves is.wanted e seen is.cause is.counts; pool = refused_tells is.wanted e is.cause }

  -- the same where nothing was called
  as_told : seen_with live ≡ told → seen_with live ≡ with_calls made told
  as_told seen = seen ∙ ap (λ (n : ℕ). with_calls n told) (sym (ap (λ (s : PrivateState). s.heaps) seen))

  -- a purge and a release leave the grants
  purged : (n : ℕ) → seen_with live ≡ told → IsPurge commands done → Replies (Purged n) live
  purged n seen is = record { act = purges is.number; next = is.act; moves = (tt, seen); pool = tt }

  released : (reply : Reply) → IsReleased reply → seen_with live ≡ told → act_at commands done ≡ Some releases → Replies reply live
  released reply is seen act = record { act = releases; next = act; moves = (is, seen); pool = tt }

  returned : seen_with live ≡ record told { grants = grants_of live } → IsToReturn commands done (grants_of live) told.grants → Replies Returned live
  returned seen is = record { act = drops is.of; next = is.act; moves = (grants_of live, dropped (grant_at told.grants is.of) told.grants (grants_of live) is.of is.there is.ended, seen); pool = tt }

module _ {P : Type 0} (w : World) (old new : PartyTold) (c : PoolCore P PlainHeap) (f : Frame P PlainHeap) (commands : List Command) (done : ℕ) (live : List (Option (Grant P PlainHeap))) (stores : ℕ) (was now : ListedHeaps) (state : PrivateState) (is : IsBefore w old new c f live state.grants) (of_old : old.heaps ≡ heaps_of was) (of_new : new.heaps ≡ heaps_of now) (listed : was.failing ≡ w.terms.host.unmade) where
  abbrev made : ℕ
  made = now.made

  abbrev told : Grants
  told = state.grants

  -- what the party sees of itself is what it was told
  abbrev Fits : Type 0
  Fits = seen_with {P = P} w commands done live stores made state live ≡ state

  at : Fits → grants_of live ≡ told
  at fits = ap (λ (s : PrivateState). s.grants) fits

  uncalled_by : Fits → made ≡ state.heaps
  uncalled_by fits = ap (λ (s : PrivateState). s.heaps) fits

  these : Fits → (grant : Grant P PlainHeap) → seen_with {P = P} w commands done live stores made state (slice_set live done (Some grant)) ≡ record state { grants = grants_of (slice_set live done (Some grant)) }
  these fits grant = with_these w commands done live stores made state fits (slice_set live done (Some grant))

  unmoved : Fits → seen_with {P = P} w commands done live stores made state live ≡ with_calls made state
  unmoved fits = as_told w commands done live stores made state fits

  all_admitted : (p : Progress) (number : ℕ) → grants_of live ≡ told → IsFor w.terms number f.asked → IsSoFar w (request_of w.terms number) told p → Follows old new c f p (admitted (objects_wanted f.asked)) → IsAdmitted w (request_of w.terms number) told (objects_wanted f.asked)
  all_admitted p number seen asked so follows = goes_so_far w old new c f live told is seen number asked p (admitted (objects_wanted f.asked)) so follows

  -- an instance is whole, and granted
  granted : (p : Progress) (lease : InstanceLease P) → Fits → (request : IsRequest w commands done f.asked told p) → Follows old new c f p (admitted (objects_wanted f.asked)) → AreSupported c.settings (memories_wanted f.asked) (images_wanted f.asked) → IsGrantOf {P = P} {H = PlainHeap} w.maker c.settings c.plan f.asked (instance lease) → ((name : SlotName) → grant_count {P = P} {H = PlainHeap} (right_to name) (instance lease) + sum_by (granted_to (grant_count (right_to name))) live ≤ made_slot name.slot (of_kind name.kind c.plan.totals)) → Replies w commands done live stores made state (granted_reply {P = P} (instance lease)) (slice_set live done (Some (instance lease)))
  granted p lease fits request follows supported of apart =
      let seen : grants_of live ≡ told = at fits in
      let memories : List Lease = lease.memories.items in
      let tables : List LeasedTable = lease.tables.items in
      let grant : Grant P PlainHeap = instance lease in
      let n : ℕ = request.number in
      let asked : Request = request_of w.terms n in
      let counts : objects_wanted f.asked ≡ length (wants_of asked) = same_number w old new c f live told is seen n request.asked_for in
      let so : IsAdmitted w asked told (objects_wanted f.asked) = all_admitted p n seen request.asked_for request.so_far follows in
      let private : PrivateGrant = instance_grant (begun_instance w.terms asked (slots_of memories) (table_slots_of tables)) in
      let begun : private_grant grant ≡ private = granted_begun w old new c f live told is seen n request.asked_for lease of.0 of.1 of.2 of.3 supported in
      let grants : grants_of (slice_set live done (Some grant)) ≡ slice_set told done (Some private) =
      grants_set live done (Some grant) ∙ ap (λ (g : Grants). slice_set g done (Some (private_grant grant))) seen ∙ ap (λ (g : PrivateGrant). slice_set told done (Some g)) begun in
      let room : live_count told + length memories ≤ memory_slots c.plan = omega (arith, memories_told live told seen, memories_room (memory_slots c.plan) grant live (λ k. apart (memory_slot k))) in
      let table_room : table_count told + length tables ≤ c.plan.totals.table = omega (arith, tables_told live told seen, tables_room c.plan.totals.table grant live (λ k. apart (table_slot k))) in
      let Free : ℕ → Type 0 = λ n. AreFreeSlots n (live_count told) (λ slot. HasNoMemoryIn slot told) (slots_of memories) in
      let TablesFree : ℕ → Type 0 = λ n. AreFreeSlots n (table_count told) (λ slot. HasNoTableIn slot told) (table_slots_of tables) in
      record {
        act = requests (an_instance n);
        next = request.act;
        moves = (
          grants_of (slice_set live done (Some grant)),
          (
            record {
              supported = so.supported;
              allowed = none_first w.terms (wants_of asked) (λ k below. so.allowed k (omega (arith, below, counts)));
              memory_slots = length-map memories (λ (l : Lease). l.index) ∙ of.1 ∙ memory_number w old new c f live told is seen n request.asked_for;
              table_slots = length-map tables (λ (l : LeasedTable). l.index) ∙ of.3 ∙ table_number w old new c f live told is seen n request.asked_for;
            },
            grants,
          ),
          these fits grant,
        );
        pool = record {
          memories = subst Free (sym is.world.plan.total)
              (are_free memory_slot (λ (l : Lease). l.index) (λ l. l.numbers) leases_of private_memory (λ m. m.slot) memories_in_grant (λ l. refl) memories_seen_of memories_counted memories live told (memory_slots c.plan) (live_count told) seen (λ k. omega (arith, apart (memory_slot k), memories_counted k grant)) room);
          tables = subst TablesFree (sym is.world.tables.total)
              (are_free table_slot (λ (l : LeasedTable). l.index) (λ l. l.numbers) tables_of private_table (λ m. m.slot) tables_in_grant (λ l. refl) tables_seen_of tables_counted tables live told c.plan.totals.table (table_count told) seen (λ k. omega (arith, apart (table_slot k), tables_counted k grant)) table_room);
          instances = so.counted;
        };
      }

  refuses : (p : Progress) (e : AllocError) → (p ≡ uncounted → frame_instances f ≡ 0) → Fits → IsRequest w commands done f.asked told p → Raises w.maker old new c f p e → IsToRefuse w commands done told state.heaps made e
  refuses p e none fits request raises = record { wanted = an_instance request.number; act = request.act; cause = raised_cause w old new c f live told is (at fits) request.number request.asked_for p e none request.so_far raises; counts = uncalled_by fits }

  goes_asking : (p q : Progress) (asked : Asked) → asked ≡ f.asked → grants_of live ≡ told → IsRequest w commands done f.asked told p → Follows old new c f p q → IsRequest w commands done asked told q
  goes_asking p q asked same seen request follows =
      let For : Asked → Type 0 = λ o. IsFor w.terms request.number o in
      record { number = request.number; act = request.act; asked_for = subst For (sym same) request.asked_for; so_far = goes_so_far w old new c f live told is seen request.number request.asked_for p q request.so_far follows }

  -- A component is granted that breaks no rule.
  component_granted : Fits → IsForSupported w commands done → c.counters.component_instances < c.settings.max_component_instances → Replies w commands done live stores made state (granted_reply {P = P} component) (slice_set live done (Some component))
  component_granted fits for room =
      let seen : grants_of live ≡ told = at fits in
      let most : w.terms.settings.max_component_instances ≡ c.settings.max_component_instances = ap (λ (s : Settings). s.max_component_instances) is.world.settings in
      let grants : grants_of (slice_set live done (Some component)) ≡ slice_set told done (Some component_grant) = grants_set live done (Some component) ∙ ap (λ (g : Grants). slice_set g done (Some component_grant)) seen in
      record {
        act = requests (a_component for.info);
        next = for.act;
        moves = (grants_of (slice_set live done (Some component)), (for.supported, grants), these fits component);
        pool = λ counts. omega (arith, most, room, is.counted counts (only counted_component), components_told live told seen);
      }

  -- It is refused for the rule that it breaks,
  component_broken : (o : Option Unsupported) (info : ComponentInfo) (e : AllocError) → component_refused w.terms.settings info ≡ o → IsBroken o e → CauseFor w (a_component info) told e
  component_broken None info e broken wrong = absurd wrong
  component_broken (Some rule) info e broken refused_for =
      let R : Option Unsupported → Type 0 = λ x. IsComponentRefused w.terms x e in
      let T : AllocError → Type 0 = λ x. TellsComponentRoom w told (Refused (Alloc x)) in
      (subst R (sym broken) refused_for, subst T (sym refused_for) tt)

  same_rule : (info : ComponentInfo) → component_refused w.terms.settings info ≡ component_refused c.settings info
  same_rule info = ap (λ (s : Settings). component_refused s info) is.world.settings

  component_refuses : (info : ComponentInfo) (e : AllocError) → Fits → IsForComponent commands done info → IsBroken (component_refused c.settings info) e → IsToRefuse w commands done told state.heaps made e
  component_refuses info e fits for broken = record { wanted = a_component info; act = for; cause = component_broken (component_refused c.settings info) info e (same_rule info) broken; counts = uncalled_by fits }

  -- or where there are as many as there may be.
  component_full : (e : AllocError) → phase_counted (only counted_component) f.phase ≡ 0 → Fits → IsForSupported w commands done → e ≡ no_component_left c.settings → c.settings.max_component_instances ≤ c.counters.component_instances → IsToRefuse w commands done told state.heaps made e
  component_full e none fits for left full =
      let seen : grants_of live ≡ told = at fits in
      let R : Option Unsupported → Type 0 = λ x. IsComponentRefused w.terms x e in
      let T : AllocError → Type 0 = λ x. TellsComponentRoom w told (Refused (Alloc x)) in
      let most : w.terms.settings.max_component_instances ≡ c.settings.max_component_instances = ap (λ (s : Settings). s.max_component_instances) is.world.settings in
      record {
        wanted = a_component for.info;
        act = for.act;
        cause = (
          subst R (sym for.supported) (left ∙ ap no_component_left (sym is.world.settings)),
          subst T (sym left) (λ a. omega (arith, most, full, alone_counts c f live (is.alone a) (only counted_component), none, components_told live told seen)),
        );
        counts = uncalled_by fits;
      }

  -- A stack is granted,
  stack_granted : (lease : LeasedStack) → Fits → IsForStack commands done → 0 < c.settings.stack_size → IsStackLease w.maker c.settings c.plan lease → IsNewStack c.settings lease → ((name : SlotName) → grant_count {P = P} {H = PlainHeap} (right_to name) (stack lease) + sum_by (granted_to (grant_count (right_to name))) live ≤ made_slot name.slot (of_kind name.kind c.plan.totals)) → Replies w commands done live stores made state (granted_reply {P = P} (stack lease)) (slice_set live done (Some (stack lease)))
  stack_granted lease fits for enabled of begun apart =
      let seen : grants_of live ≡ told = at fits in
      let grant : Grant P PlainHeap = stack lease in
      let private : PrivateGrant = stack_grant (private_stack lease) in
      let grants : grants_of (slice_set live done (Some grant)) ≡ slice_set told done (Some private) = grants_set live done (Some grant) ∙ ap (λ (g : Grants). slice_set g done (Some private)) seen in
      let room : stack_count told + 1 ≤ c.plan.totals.stack = omega (arith, stacks_told live told seen, stacks_room c.plan.totals.stack grant live (λ k. apart (stack_slot k))) in
      let Free : ℕ → Type 0 = λ n. AreFreeSlots n (stack_count told) (λ slot. HasNoStackIn slot told) (lease.stack.index ∷ []) in
      record {
        act = requests a_stack;
        next = for;
        moves = (
          grants_of (slice_set live done (Some grant)),
          (omega (arith, enabled, is.world.stacks.size), private_stack lease, stack_begins w old new c f live told is lease of begun, grants),
          these fits grant,
        );
        pool = subst Free (sym is.world.stacks.total)
            (are_free stack_slot (λ (l : LeasedStack). l.stack.index) (λ l. l.numbers) stack_of private_stack (λ s. s.slot) stacks_in_grant (λ l. refl) stacks_seen_of stacks_counted (lease ∷ []) live told c.plan.totals.stack (stack_count told) seen (λ k. omega (arith, apart (stack_slot k), stacks_counted k grant)) room);
      }

  -- or refused.
  stack_refuses : (e : AllocError) → f.asked ≡ stack_asked → Fits → IsForStack commands done → Raises w.maker old new c f seeks_stack e → IsToRefuse w commands done told state.heaps made e
  stack_refuses e asks_stack fits for raises = record { wanted = a_stack; act = for; cause = stack_cause w old new c f live told is (at fits) asks_stack e raises; counts = uncalled_by fits }

  -- A heap is granted,
  heap_granted : (lease : LeasedHeap PlainHeap) (memory : Lease) → seen_with {P = P} w commands done live stores made state live ≡ with_calls made state → (tested : IsForTested w commands done f.asked 1) → CountsGranted w.terms.host.unmade state.heaps made → IsHeapOf w.maker c.settings c.plan f.asked lease memory
      → ((name : SlotName) → grant_count {P = P} {H = PlainHeap} (right_to name) (heap lease memory) + sum_by (granted_to (grant_count (right_to name))) live ≤ made_slot name.slot (of_kind name.kind c.plan.totals)) → Replies w commands done live stores made state (granted_reply {P = P} (heap lease memory)) (slice_set live done (Some (heap lease memory)))
  heap_granted lease memory fits tested counts of apart =
      let grant : Grant P PlainHeap = heap lease memory in
      let ty : MemoryType = heap_type tested.limits in
      let seen : grants_of live ≡ told = ap (λ (s : PrivateState). s.grants) fits in
      let private : PrivateGrant = heap_grant lease.index (begun_memory w.terms memory.index (heap_memory ty)) in
      let begun : private_grant grant ≡ private = heap_begun w old new c f live told is seen ty tested.asked_for lease memory of in
      let grants : grants_of (slice_set live done (Some grant)) ≡ slice_set told done (Some private) =
      grants_set live done (Some grant) ∙ ap (λ (g : Grants). slice_set g done (Some (private_grant grant))) seen ∙ ap (λ (g : PrivateGrant). slice_set told done (Some g)) begun in
      let whole : seen_with {P = P} w commands done live stores made state (slice_set live done (Some grant)) ≡ record state { grants = slice_set told done (Some private); heaps = made } =
      ap (λ (s : PrivateState). record s { grants = grants_of (slice_set live done (Some grant)) }) fits ∙ ap (λ (g : Grants). record state { grants = g; heaps = made }) grants in
      let room : live_count told + 1 ≤ memory_slots c.plan = omega (arith, memories_told live told seen, memories_room (memory_slots c.plan) grant live (λ k. apart (memory_slot k))) in
      let heap_room : heap_count told + 1 ≤ c.plan.totals.heap = omega (arith, heaps_told live told seen, heaps_room c.plan.totals.heap grant live (λ k. apart (heap_slot k))) in
      let Free : ℕ → Type 0 = λ n. AreFreeSlots n (live_count told) (λ slot. HasNoMemoryIn slot told) (memory.index ∷ []) in
      let HeapsFree : ℕ → Type 0 = λ n. AreFreeSlots n (heap_count told) (λ slot. HasNoHeapIn slot told) (lease.index ∷ []) in
      record {
        act = requests (a_heap tested.limits);
        next = tested.act;
        moves = (tested.supported, tested.allowed (omega arith), counts, whole);
        pool = record {
          memories = subst Free (sym is.world.plan.total)
              (are_free memory_slot (λ (l : Lease). l.index) (λ l. l.numbers) leases_of private_memory (λ m. m.slot) memories_in_grant (λ l. refl) memories_seen_of memories_counted (memory ∷ []) live told (memory_slots c.plan) (live_count told) seen (λ k. omega (arith, apart (memory_slot k), memories_counted k grant)) room);
          heaps = subst HeapsFree (sym is.world.heaps.total)
              (are_free heap_slot (λ (l : LeasedHeap PlainHeap). l.index) (λ l. l.numbers) heap_of (λ l. l.index) (λ n. n) heaps_in_grant (λ l. refl) heaps_seen_of heaps_counted (lease ∷ []) live told c.plan.totals.heap (heap_count told) seen (λ k. omega (arith, apart (heap_slot k), heaps_counted k grant)) heap_room);
        };
      }

  -- or refused by its test.
  heap_untested : (e : AllocError) (limits : Limits) → f.asked ≡ heap_asked (heap_type limits) → Fits → IsForHeap commands done limits → IsHeapUntested c f e → IsToRefuse w commands done told state.heaps made e
  heap_untested e limits for fits act broken =
      let cause = untested_heap w old new c f live told is (at fits) (heap_type limits) for state.heaps made e (uncalled_by fits) broken in
      record { wanted = a_heap limits; act = act; cause = (cause.0, cause.1); counts = cause.2 }

  -- or once it was tested.
  refused_now : (limits : Limits) (e : AllocError) → IsForHeap commands done limits → heap_barred w.terms (heap_type limits) ≡ None → was.made ≡ state.heaps → RefusesNow w told (heap_type limits) e was.made made → IsToRefuse w commands done told state.heaps made e
  refused_now limits e act supported same now_refused =
      let R : Option AllocError → Type 0 = λ o. RefusesHeap o w.terms (heap_type limits) e in
      let C : ℕ → Type 0 = λ n. CountsRefused w.terms.host.unmade e n made in
      record { wanted = a_heap limits; act = act; cause = (subst R (sym supported) now_refused.refused, now_refused.room); counts = subst C same now_refused.counts }

  heap_refuses : (n : ℕ) (e : AllocError) → made ≡ was.made → Fits → (tested : IsForTested w commands done f.asked n) → Raises w.maker old new c f (seeks_heap n) e → IsToRefuse w commands done told state.heaps made e
  heap_refuses n e same fits tested raises =
      refused_now tested.limits e tested.act tested.supported (sym same ∙ uncalled_by fits) (heap_refused_now w old new c f live told is (at fits) (heap_type tested.limits) tested.asked_for was now of_old of_new listed n e tested.allowed same raises)

  -- Its memory is made, and the heap next.
  heap_goes_on : (n m : ℕ) (asked : Asked) → asked ≡ f.asked → Fits → (tested : IsForTested w commands done f.asked n) → Follows old new c f (seeks_heap n) (seeks_heap m) → IsForTested w commands done asked m
  heap_goes_on n m asked same fits tested follows = record { limits = tested.limits; act = tested.act; asked_for = same ∙ tested.asked_for; supported = tested.supported; allowed = heap_allowed w old new c f live told is (at fits) (heap_type tested.limits) tested.asked_for n m tested.allowed follows }

  heap_in_hand : (n : ℕ) (asked : Asked) → asked ≡ f.asked → grants_of live ≡ told → (tested : IsForTested w commands done f.asked n) → SeeksHeap c f n → IsForTested w commands done asked 1
  heap_in_hand n asked same seen tested seeks = record { limits = tested.limits; act = tested.act; asked_for = same ∙ tested.asked_for; supported = tested.supported; allowed = λ some. tested.allowed (heap_sought w old new c f live told is seen (heap_type tested.limits) tested.asked_for n seeks) }

  -- A heap's test is passed.
  heap_tested : (n : ℕ) (asked : Asked) (limits : Limits) → asked ≡ f.asked → f.asked ≡ heap_asked (heap_type limits) → Fits → IsForHeap commands done limits → n ≡ 0 → IsHeapTested c f → IsForTested w commands done asked n
  heap_tested n asked limits same for fits act none tested = record { limits = limits; act = act; asked_for = same ∙ for; supported = tested_heap w old new c f live told is (at fits) (heap_type limits) for tested; allowed = λ some. absurd (omega (arith, some, none)) }

  -- After each step of a call what the party has fits what it was told.
  tied_same : (s t : Stage) (asked : Asked) (o : Option (Outcome P PlainHeap)) → made ≡ was.made → (s ≡ asks uncounted → frame_instances f ≡ 0) → (s ≡ counts_component → phase_counted (only counted_component) f.phase ≡ 0) → (s ≡ asks seeks_stack → f.asked ≡ stack_asked) → (is_none t ≡ false → asked ≡ f.asked) → IfGranted (IsGrantOf w.maker c.settings c.plan f.asked) o
      → IfGranted (λ g. (name : SlotName) → grant_count (right_to name) g + sum_by (granted_to (grant_count (right_to name))) live ≤ made_slot name.slot (of_kind name.kind c.plan.totals)) o → Goes w.maker old new c f s t o → TiedAs w s commands done f.asked (seen_with {P = P} w commands done live stores made state live) state → TiedBy w commands done live stores made state t asked o
  tied_same no_call no_call asked None calls none no_component for_stack same of apart goes tied = tied
  tied_same keys no_call asked (Some answer.Key) calls none no_component for_stack same of apart goes tied = tied
  tied_same (asks untested) (asks uncounted) asked None calls none no_component for_stack same of apart goes tied = (tied.0, goes_asking untested uncounted asked (same refl) (at tied.0) tied.1 goes)
  tied_same (asks uncounted) (asks (admitted m)) asked None calls none no_component for_stack same of apart goes tied = (tied.0, goes_asking uncounted (admitted m) asked (same refl) (at tied.0) tied.1 goes)
  tied_same (asks (admitted n)) (asks (admitted m)) asked None calls none no_component for_stack same of apart goes tied = (tied.0, goes_asking (admitted n) (admitted m) asked (same refl) (at tied.0) tied.1 goes)
  tied_same (asks (seeks_single n)) t asked o calls none no_component for_stack same of apart goes tied = absurd tied.1.so_far
  tied_same (asks seeks_stack) (asks seeks_stack) asked None calls none no_component for_stack same of apart goes tied = tied
  tied_same (asks untested) (refusing e) asked None calls none no_component for_stack same of apart goes tied = (unmoved tied.0, refuses untested e (λ e. none (ap asks e)) tied.0 tied.1 goes)
  tied_same (asks uncounted) (refusing e) asked None calls none no_component for_stack same of apart goes tied = (unmoved tied.0, refuses uncounted e (λ e. none (ap asks e)) tied.0 tied.1 goes)
  tied_same (asks (admitted n)) (refusing e) asked None calls none no_component for_stack same of apart goes tied = (unmoved tied.0, refuses (admitted n) e (λ e. none (ap asks e)) tied.0 tied.1 goes)
  tied_same (asks seeks_stack) (refusing e) asked None calls none no_component for_stack same of apart goes tied = (unmoved tied.0, stack_refuses e (for_stack refl) tied.0 tied.1 goes)
  tied_same (asks untested) no_call asked (Some (answer.Refused e)) calls none no_component for_stack same of apart goes tied = refused w commands done live stores made state e (unmoved tied.0) (refuses untested e (λ e. none (ap asks e)) tied.0 tied.1 goes)
  tied_same (asks seeks_stack) no_call asked (Some (answer.Refused e)) calls none no_component for_stack same of apart goes tied = refused w commands done live stores made state e (unmoved tied.0) (stack_refuses e (for_stack refl) tied.0 tied.1 goes)
  tied_same (asks untested) no_call asked (Some (answer.Granted (instance lease))) calls none no_component for_stack same of apart goes tied = absurd goes.0
  tied_same (asks uncounted) no_call asked (Some (answer.Granted (instance lease))) calls none no_component for_stack same of apart goes tied = granted uncounted lease tied.0 tied.1 goes.0 goes.1 of apart
  tied_same (asks (admitted n)) no_call asked (Some (answer.Granted (instance lease))) calls none no_component for_stack same of apart goes tied = granted (admitted n) lease tied.0 tied.1 goes.0 goes.1 of apart
  tied_same (asks seeks_stack) no_call asked (Some (answer.Granted (instance lease))) calls none no_component for_stack same of apart goes tied = absurd goes.0
  tied_same (asks untested) no_call asked (Some (answer.Granted (stack lease))) calls none no_component for_stack same of apart goes tied = absurd goes.0
  tied_same (asks uncounted) no_call asked (Some (answer.Granted (stack lease))) calls none no_component for_stack same of apart goes tied = absurd goes.0
  tied_same (asks (admitted n)) no_call asked (Some (answer.Granted (stack lease))) calls none no_component for_stack same of apart goes tied = absurd goes.0
  tied_same (asks seeks_stack) no_call asked (Some (answer.Granted (stack lease))) calls none no_component for_stack same of apart goes tied = stack_granted lease tied.0 tied.1 goes.1 of.0 of.1 apart
  tied_same (asks tests_heap) (asks (seeks_heap n)) asked None calls none no_component for_stack same of apart goes tied = (tied.0, heap_tested n asked tied.1 (same refl) tied.2 tied.0 tied.3 goes.0 goes.1)
  tied_same (asks tests_heap) (refusing e) asked None calls none no_component for_stack same of apart goes tied = (unmoved tied.0, heap_untested e tied.1 tied.2 tied.0 tied.3 goes)
  tied_same (asks tests_heap) no_call asked (Some (answer.Refused e)) calls none no_component for_stack same of apart goes tied = refused w commands done live stores made state e (unmoved tied.0) (heap_untested e tied.1 tied.2 tied.0 tied.3 goes)
  tied_same (asks (seeks_heap n)) (asks (seeks_heap m)) asked None calls none no_component for_stack same of apart goes tied = (tied.0, heap_goes_on n m asked (same refl) tied.0 tied.1 goes)
  tied_same (asks (seeks_heap n)) (asks counts_heap) asked None calls none no_component for_stack same of apart goes tied = (unmoved tied.0, heap_in_hand n asked (same refl) (at tied.0) tied.1 goes.0, inl (uncalled_by tied.0))
  tied_same (asks (seeks_heap n)) (refusing e) asked None calls none no_component for_stack same of apart goes tied = (unmoved tied.0, heap_refuses n e calls tied.0 tied.1 goes)
  tied_same (asks (seeks_heap n)) no_call asked (Some (answer.Refused e)) calls none no_component for_stack same of apart goes tied = refused w commands done live stores made state e (unmoved tied.0) (heap_refuses n e calls tied.0 tied.1 goes.0)
  tied_same (asks tests_heap) no_call asked (Some (answer.Granted (instance lease))) calls none no_component for_stack same of apart goes tied = absurd goes.0
  tied_same (asks tests_heap) no_call asked (Some (answer.Granted (stack lease))) calls none no_component for_stack same of apart goes tied = absurd goes.0
  tied_same (asks (seeks_heap n)) no_call asked (Some (answer.Granted (instance lease))) calls none no_component for_stack same of apart goes tied = absurd goes.0
  tied_same (asks (seeks_heap n)) no_call asked (Some (answer.Granted (stack lease))) calls none no_component for_stack same of apart goes tied = absurd goes.0
  tied_same (asks counts_heap) no_call asked (Some (answer.Granted (instance lease))) calls none no_component for_stack same of apart goes tied = absurd goes.0
  tied_same (asks counts_heap) no_call asked (Some (answer.Granted (stack lease))) calls none no_component for_stack same of apart goes tied = absurd goes.0
  tied_same (asks counts_heap) (refusing e) asked None calls none no_component for_stack same of apart goes tied = absurd goes
  tied_same (asks counts_heap) no_call asked (Some (answer.Granted (heap lease memory))) calls none no_component for_stack same of apart goes tied = heap_granted lease memory tied.0 tied.1 tied.2 of apart
  tied_same (asks counts_heap) no_call asked (Some (answer.Granted (heap_over lease))) calls none no_component for_stack same of apart goes tied =
      let other : heap_over_asked of.memory ≡ heap_asked (heap_type tied.1.limits) = sym of.asked_for ∙ tied.1.asked_for in absurd cc
  tied_same (tests_component info) counts_component asked None calls none no_component for_stack same of apart goes tied = (tied.0, record { info = info; act = tied.1; supported = same_rule info ∙ goes })
  tied_same (tests_component info) no_call asked (Some (answer.Refused e)) calls none no_component for_stack same of apart goes tied = refused w commands done live stores made state e (unmoved tied.0) (component_refuses info e tied.0 tied.1 goes)
  tied_same counts_component no_call asked (Some (answer.Granted component)) calls none no_component for_stack same of apart goes tied = component_granted tied.0 tied.1 goes
  tied_same counts_component (refusing e) asked None calls none no_component for_stack same of apart goes tied = (unmoved tied.0, component_full e (no_component refl) tied.0 tied.1 goes.0 goes.1)
  tied_same returning returning asked None calls none no_component for_stack same of apart goes tied = tied
  tied_same returning no_call asked (Some answer.Returned) calls none no_component for_stack same of apart goes tied = returned w commands done live stores made state tied.0 tied.1
  tied_same (refusing e) (refusing d) asked None calls none no_component for_stack same of apart goes tied = (tied.0, subst (IsToRefuse w commands done told state.heaps made) (sym goes) tied.1)
  tied_same (refusing e) no_call asked (Some (answer.Refused d)) calls none no_component for_stack same of apart goes tied = refused w commands done live stores made state d tied.0 (subst (IsToRefuse w commands done told state.heaps made) (sym goes) tied.1)
  tied_same purging purging asked None calls none no_component for_stack same of apart goes tied = tied
  tied_same purging no_call asked (Some (answer.Purged n)) calls none no_component for_stack same of apart goes tied = purged w commands done live stores made state n tied.0 tied.1
  tied_same reserving releasing asked None calls none no_component for_stack same of apart goes tied = tied
  tied_same reserving no_call asked (Some (answer.Refused e)) calls none no_component for_stack same of apart goes tied = released w commands done live stores made state (Refused (Alloc e)) (ap (λ (x : AllocError). Alloc x) goes) tied.0 tied.1
  tied_same releasing releasing asked None calls none no_component for_stack same of apart goes tied = tied
  tied_same releasing no_call asked (Some (answer.Released n)) calls none no_component for_stack same of apart goes tied = released w commands done live stores made state (Released n) tt tied.0 tied.1
  tied_same (asks p) (asks q) asked None calls none no_component for_stack same of apart goes tied = absurd goes
  tied_same _ _ asked _ calls none no_component for_stack same of apart goes tied = absurd goes

  -- The maker is called in this step.
  made_now : (n : ℕ) (t : Stage) (asked : Asked) → now.made ≡ risen was.made → ((t ≡ asks counts_heap) × (goes_through was.failing was.made ≡ true)) ⊎ ((t ≡ refusing refusal.HeapFault) × (goes_through was.failing was.made ≡ false)) → (is_none t ≡ false → asked ≡ f.asked) → Goes w.maker old new c f (asks (seeks_heap n)) t None
      → TiedAs w (asks (seeks_heap n)) commands done f.asked (seen_with {P = P} w commands done live stores was.made state live) state → TiedAs w t commands done asked (seen_with {P = P} w commands done live stores made state live) state
  made_now n t asked counts (inl goes_on) same goes tied =
      let G : Stage → Type 0 = λ x. Goes {P = P} {H = PlainHeap} w.maker old new c f (asks (seeks_heap n)) x None in
      let S : Stage → Type 0 = λ x. is_none x ≡ false → asked ≡ f.asked in
      let T : Stage → Type 0 = λ x. TiedAs w x commands done asked (seen_with {P = P} w commands done live stores made state live) state in
      let seen : grants_of live ≡ told = ap (λ (s : PrivateState). s.grants) tied.0 in
      let before : was.made ≡ state.heaps = ap (λ (s : PrivateState). s.heaps) tied.0 in
      let has : HasHeap old new c f n = subst G goes_on.0 goes in
      let lets : goes_through w.terms.host.unmade state.heaps ≡ true = ap (λ (m : ℕ). goes_through w.terms.host.unmade m) (sym before) ∙ ap (λ (l : List ℕ). goes_through l was.made) (sym listed) ∙ goes_on.1 in
      subst T (sym goes_on.0) (ap (with_calls made) tied.0, heap_in_hand n asked (subst S goes_on.0 same refl) seen tied.1 has.0, inr (lets, counts ∙ ap risen before))
  made_now n t asked counts (inr fails) same goes tied =
      let G : Stage → Type 0 = λ x. Goes {P = P} {H = PlainHeap} w.maker old new c f (asks (seeks_heap n)) x None in
      let T : Stage → Type 0 = λ x. TiedAs w x commands done asked (seen_with {P = P} w commands done live stores made state live) state in
      let seen : grants_of live ≡ told = ap (λ (s : PrivateState). s.grants) tied.0 in
      let before : was.made ≡ state.heaps = ap (λ (s : PrivateState). s.heaps) tied.0 in
      let limits : Limits = tied.1.limits in
      let allowed : heap_refusal w.terms (heap_type limits) ≡ None = heap_failed_now w old new c f live told is seen (heap_type limits) tied.1.asked_for was now of_old of_new listed n tied.1.allowed (subst G fails.0 goes) in
      let not_let : goes_through w.terms.host.unmade was.made ≡ false = ap (λ (l : List ℕ). goes_through l was.made) (sym listed) ∙ fails.1 in
      let refuses_now : RefusesNow w told (heap_type limits) refusal.HeapFault was.made made = record { refused = allowed; room = tt; counts = (not_let, counts) } in
      subst T (sym fails.0) (ap (with_calls made) tied.0, refused_now limits refusal.HeapFault tied.1.act tied.1.supported before refuses_now)

  pub tied_by : (s t : Stage) (asked : Asked) (o : Option (Outcome P PlainHeap)) → CallsNow was.failing s t o was.made now.made → (s ≡ asks uncounted → frame_instances f ≡ 0) → (s ≡ counts_component → phase_counted (only counted_component) f.phase ≡ 0) → (s ≡ asks seeks_stack → f.asked ≡ stack_asked) → (is_none t ≡ false → asked ≡ f.asked) → IfGranted (IsGrantOf w.maker c.settings c.plan f.asked) o
      → IfGranted (λ g. (name : SlotName) → grant_count (right_to name) g + sum_by (granted_to (grant_count (right_to name))) live ≤ made_slot name.slot (of_kind name.kind c.plan.totals)) o → Goes w.maker old new c f s t o → TiedAs w s commands done f.asked (seen_with {P = P} w commands done live stores was.made state live) state → TiedBy w commands done live stores made state t asked o
  tied_by s t asked o (inl same) none no_component for_stack still of apart goes tied =
      let T : ℕ → Type 0 = λ n. TiedAs w s commands done f.asked (seen_with {P = P} w commands done live stores n state live) state in
      tied_same s t asked o same none no_component for_stack still of apart goes (subst T (sym same) tied)
  tied_by s t asked o (inr makes) none no_component for_stack still of apart goes tied =
      let n : ℕ = makes.n in
      let G : Stage → Option (Outcome P PlainHeap) → Type 0 = λ x y. Goes {P = P} {H = PlainHeap} w.maker old new c f x t y in
      let T : Stage → Type 0 = λ x. TiedAs w x commands done f.asked (seen_with {P = P} w commands done live stores was.made state live) state in
      let By : Option (Outcome P PlainHeap) → Type 0 = λ y. TiedBy w commands done live stores made state t asked y in
      let goes_now : G (asks (seeks_heap n)) None = subst (λ (x : Stage). G x None) makes.from (subst (λ y. G s y) makes.none goes) in
      subst By (sym makes.none) (made_now n t asked makes.counts makes.answer still goes_now (subst T makes.from tied))
