-- A request is refused for room exactly where it is short of something: along a party's run its memories lie in different slots of its
-- stripe, so what it is granted leaves none out.
use Rattle.std.proofs.Common.{◌≡◌, ℕ, zero, suc, ◌+◌, ◌%◌, ◌<◌, ◌≤◌, ◌==◌, Bool, true, false, List, [], ◌∷◌, length, Option, Some, None, Result, Ok, Err, refl, sym, ap, subst, inl, inr, arith, All, nat_lt, option_map, slice_get, unwrap_or, if◌then◌else◌}
use Rattle.pool_slots.specs.declared.errors.AllocError.TheVariants as alloc
use Rattle.pool_slots.specs.declared.errors.ConcurrencyKind.{ConcurrencyKind}
use Rattle.pool_slots.specs.declared.errors.ConcurrencyKind.TheVariants.{ComponentInstances}
use Rattle.pool_slots.specs.declared.errors.PoolConcurrencyLimitError.{PoolConcurrencyLimitError}
use Rattle.pool_run.proofs.Imports.{cases_Bool, sum_by-cons, AllocError, ComponentInfo, CoreInstances, Fibers, GcHeaps, MemoryStripe, Tables, LimiterError, Limits, MemoryType, Unsupported, TableSize, Want, new_memory, new_table, new_stack, new_heap, option_or, component_refused, table_refused, minimum_asked, maximum_asked, memory_answer, table_answer, type_maximum, type_refused}
use Rattle.pool_run.specs.Acts.{Act, requests, on_memory, on_table, drops, purges, releases, act_of, Wanted, an_instance, a_component, a_stack, a_heap, heap_type}
use Rattle.pool_run.specs.Exact.{IsShortOf, IsShort, refuses_for_room, IfForRoom, met_fault, is_refusal, LieInStripe, TellsExactly, TellsExactlyOf, ExactStep, IsExactRun}
use Rattle.pool_run.specs.Needs.{stripe_count}
use Rattle.pool_run.specs.Private.{Grants, Terms, PrivateState, IsGranted, own_refusal, first_refusal, stripe_slots, limit_for, refused_as, GivenRefusal, no_memory, no_instance, no_slot, page_fault, IsRefused, IsComponentRefused, RefusesHeap, Moves, Requests, request_of, wants_of, images_of, module_of, heap_barred, heap_memory, table_room, StepsBy, with_grants, no_grants}
use Rattle.pool_run.specs.Rooms.{World, PooledStep, IsPooledRun, TellsOfPool, TellsRequest, HasNoMemoryIn, AreFreeSlots, HasRoom, HasHeapRoom, IsFull, IsHeapFull, live_count}
use Rattle.pool_run.specs.Unhindered.{IsServed}
use Rattle.pool_run.specs.declared.command.Command.{Command}
use Rattle.pool_run.specs.declared.reply.Reply.{Reply}
use Rattle.pool_run.specs.declared.reply.Reply.TheVariants.{Instance, Component, Stack, Heap, Refused}
use Rattle.pool_run.specs.declared.reply.Refusal.TheVariants.{Alloc}
use Rattle.pool_run.proofs.OwnRefusals.{IsOwn, answer_own}
use Rattle.pool_run.proofs.PlacedSlots.{AreInPlace, few_slots, few_of_stripe, live_of_stripe, none_placed, placed_more, placed_still}
use Rattle.pool_run.proofs.ServedReplies.{step_served}
use Rattle.pool_run.proofs.SlotWeights.{live_weigh, reply_weighs, act_weighs, step_weighs}
use Rattle.pool_run.proofs.Wants.{count_wanted}

-- The replies to the requests among these commands grant memories of this stripe, of so many.
abbrev pub TellStripe : ℕ → ℕ → List Command → List Reply → Type 0
TellStripe stripes stripe commands replies = (n : ℕ) (command : Command) (wanted : Wanted) (reply : Reply) → slice_get commands n ≡ Some command → act_of command ≡ requests wanted → slice_get replies n ≡ Some reply → LieInStripe stripes stripe reply

one_all : (Q : ℕ → Type 0) (n : ℕ) → Q n → All Q (n ∷ [])
one_all Q n is zero d below = is
one_all Q n is (suc k) d below = absurd (omega (arith, below))

-- What a refusal for room names.
abbrev kind_in : AllocError → Option ConcurrencyKind
kind_in (alloc.Limit e) = Some e.kind
kind_in _ = None

-- What is refused for its own isn't refused for room.
or_none : (o rest : Option AllocError) (e : PoolConcurrencyLimitError) → (o ≡ Some (alloc.Limit e) → ⊥) → (rest ≡ Some (alloc.Limit e) → ⊥) → option_or o rest ≡ Some (alloc.Limit e) → ⊥
or_none None rest e own others is = others is
or_none (Some x) rest e own others is = own is

sized_none : (b : Bool) (least room : ℕ) (e : PoolConcurrencyLimitError) → (if b then Some (alloc.Unsupported (TableSize least room)) else None) ≡ Some (alloc.Limit e) → ⊥
sized_none true least room e is = absurd cc
sized_none false least room e is = absurd cc

table_none : (answer : Result Bool LimiterError) (least room : ℕ) (e : PoolConcurrencyLimitError) → table_refused answer least room ≡ Some (alloc.Limit e) → ⊥
table_none (Err x) least room e is = absurd cc
table_none (Ok false) least room e is = absurd cc
table_none (Ok true) least room e is = sized_none (nat_lt room least) least room e is

own_none : (t : Terms) (want : Want) (e : PoolConcurrencyLimitError) → own_refusal t want ≡ Some (alloc.Limit e) → ⊥
own_none t (new_memory want) e is = let own : IsOwn (alloc.Limit e) = answer_own (memory_answer (Some t.host.rule) (Ok true) (minimum_asked want.decl.ty) (maximum_asked want.decl.ty)) want.decl.ty (alloc.Limit e) is in own
own_none t (new_table ty) e is = table_none (table_answer (Some t.host.rule) (Ok true) ty.limits.min (Some (type_maximum ty))) ty.limits.min (table_room t.settings ty) e is
own_none t new_stack e is = absurd cc
own_none t new_heap e is = absurd cc

first_none : (t : Terms) (wants : List Want) (e : PoolConcurrencyLimitError) → first_refusal t wants ≡ Some (alloc.Limit e) → ⊥
first_none t [] e is = absurd cc
first_none t (want ∷ wants) e is = or_none (own_refusal t want) (first_refusal t wants) e (own_none t want e) (first_none t wants e) is

barred_none : (b : Bool) (o : Option Unsupported) (e : PoolConcurrencyLimitError) → (if b then option_map alloc.Unsupported o else Some alloc.HeapsDisabled) ≡ Some (alloc.Limit e) → ⊥
barred_none false o e is = absurd cc
barred_none true None e is = absurd cc
barred_none true (Some rule) e is = absurd cc

-- A refusal for room names the party's stripe, where it names one.
abbrev NamesOwn : Terms → ConcurrencyKind → Type 0
NamesOwn t kind = (s : ℕ) → kind ≡ MemoryStripe s → s ≡ t.stripe

limit_names : (t : Terms) (o : Option Want) (kind : ConcurrencyKind) → Some kind ≡ kind_in (limit_for t o) → NamesOwn t kind
limit_names t (Some (new_table ty)) kind is s named = absurd cc
limit_names t (Some (new_memory want)) kind is s named = cc
limit_names t (Some new_stack) kind is s named = cc
limit_names t (Some new_heap) kind is s named = cc
limit_names t None kind is s named = cc

given_names : (t : Terms) (wants : List Want) (given : GivenRefusal) (e : PoolConcurrencyLimitError) → alloc.Limit e ≡ refused_as t wants given → NamesOwn t e.kind
given_names t wants no_memory e is s named = absurd cc
given_names t wants no_instance e is s named = let its : Some e.kind ≡ Some CoreInstances = ap kind_in is in absurd cc
given_names t wants (no_slot i) e is s named = limit_names t (slice_get wants i) e.kind (ap kind_in is) s named
given_names t wants (page_fault i) e is s named = absurd cc

refused_names : (t : Terms) (broken : Option Unsupported) (wants : List Want) (e : PoolConcurrencyLimitError) → IsRefused broken t wants (alloc.Limit e) → NamesOwn t e.kind
refused_names t (Some rule) wants e is = elim is [ inl broken ↦ absurd (let wrong : Some e.kind ≡ None = ap kind_in broken in cc) | inr memory ↦ absurd (let wrong : Some e.kind ≡ None = ap kind_in memory in cc) ]
refused_names t None wants e is = elim is [ inl first ↦ absurd (first_none t wants e first) | inr given ↦ given_names t wants given.0 e given.1 ]

-- What a component and a stack are refused for room by.
component_kind : (t : Terms) (o : Option Unsupported) (e : PoolConcurrencyLimitError) → IsComponentRefused t o (alloc.Limit e) → e.kind ≡ ComponentInstances
component_kind t (Some rule) e is = absurd (let wrong : Some e.kind ≡ None = ap kind_in is in cc)
component_kind t None e is = let its : Some e.kind ≡ Some ComponentInstances = ap kind_in is in cc

stack_kind_of : (b : Bool) (slots : ℕ) (e : PoolConcurrencyLimitError) → alloc.Limit e ≡ (if b then alloc.StacksDisabled else alloc.Limit (record { limit = slots; kind = Fibers })) → e.kind ≡ Fibers
stack_kind_of true slots e is = absurd (let wrong : Some e.kind ≡ None = ap kind_in is in cc)
stack_kind_of false slots e is = let its : Some e.kind ≡ Some Fibers = ap kind_in is in cc

heap_names : (t : Terms) (ty : MemoryType) (o : Option AllocError) (e : PoolConcurrencyLimitError) → (o ≡ Some (alloc.Limit e) → ⊥) → RefusesHeap o t ty (alloc.Limit e) → NamesOwn t e.kind
heap_names t ty (Some barred) e none is = absurd (none (ap (λ (x : AllocError). Some x) (sym is)))
heap_names t ty None e none is =
    elim is [
      | inl first ↦ elim first [
        | inl memory ↦ absurd (let wrong : Some e.kind ≡ None = ap kind_in memory in cc)
        | inr own ↦ absurd (own_none t (new_memory (heap_memory ty)) e own)
      ]
      | inr later ↦ elim later [
        | inl given ↦ elim given [
          | inl full ↦ limit_names t (Some (new_memory (heap_memory ty))) e.kind (ap kind_in full)
          | inr fault ↦ absurd (let wrong : Some e.kind ≡ None = ap kind_in fault in cc)
        ]
        | inr heaps ↦ λ s named. absurd (let its : Some e.kind ≡ Some GcHeaps = ap kind_in heaps.1 in cc)
      ]
    ]

-- a refusal for room, by what it names
for_room : (Of : ConcurrencyKind → Type 0) (reply : Reply) → refuses_for_room reply ≡ true → IfForRoom reply Of → (kind : ConcurrencyKind) × Of kind
for_room Of (Refused (Alloc (alloc.Limit e))) is of = (e.kind, of)
for_room Of (Refused (Alloc _)) is of = absurd cc
for_room Of (Refused _) is of = absurd cc
for_room Of _ is of = absurd cc

-- what is served without a fault is granted
served_granted : (w : World) (reply : Reply) → IsServed w reply → met_fault reply ≡ false → is_refusal reply ≡ false
served_granted w (Refused (Alloc alloc.Memory)) served none = absurd cc
served_granted w (Refused (Alloc alloc.PageFault)) served none = absurd cc
served_granted w (Refused (Alloc alloc.HeapFault)) served none = absurd cc
served_granted w (Refused r) served none = absurd served
served_granted w _ served none = refl

-- A party of this world, with stripes.
module _ (w : World) (some : 0 < w.terms.settings.num_stripes) (counts : w.counts ≡ true) where
  abbrev t : Terms
  t = w.terms

  -- its live memories are in different slots of its stripe
  abbrev Placed : Grants → Type 0
  Placed grants = AreInPlace t.slots t.settings.num_stripes t.stripe some grants

  abbrev Lies : Reply → Type 0
  Lies reply = LieInStripe t.settings.num_stripes t.stripe reply

  all_count : (grants : Grants) → Placed grants → live_count grants ≤ stripe_count t.settings.num_stripes t.stripe grants
  all_count grants placed = omega (arith, live_of_stripe t.slots t.settings.num_stripes t.stripe some grants, placed.own)

  -- What is granted left room, of each kind.
  memories_room : (grants : Grants) (ks : List ℕ) → Placed grants → All (λ k. k % t.settings.num_stripes ≡ t.stripe) ks → AreFreeSlots t.slots (live_count grants) (λ slot. HasNoMemoryIn slot grants) ks → stripe_count t.settings.num_stripes t.stripe grants + length ks ≤ stripe_slots t
  memories_room grants ks placed its free = omega (arith, few_of_stripe t.settings.num_stripes t.stripe grants, few_slots t.slots t.settings.num_stripes t.stripe some grants ks placed free.inside its free.free free.differ)

  instance_room : (number : ℕ) (grants : Grants) (ms ts : List ℕ) → Placed grants → All (λ k. k % t.settings.num_stripes ≡ t.stripe) ms → IsGranted t (request_of t number) ms ts → HasRoom w grants ms ts → (kind : ConcurrencyKind) → IsShortOf w (an_instance number) grants kind → ⊥
  instance_room number grants ms ts placed its granted room (MemoryStripe s) short =
      let wanted : length (request_of t number).memories ≡ length (module_of t number).memories = count_wanted (module_of t number).memories (unwrap_or (images_of t.settings.tunables.tunables t.settings.page number (module_of t number).memories) []) in
      absurd (omega (arith, short.1.more, memories_room grants ms placed its room.memories, granted.memory_slots, wanted))
  instance_room number grants ms ts placed its granted room Tables short = absurd (omega (arith, short.more, room.tables.few, granted.table_slots))
  instance_room number grants ms ts placed its granted room CoreInstances short = absurd (omega (arith, short.more, room.instances counts))
  instance_room number grants ms ts placed its granted room Fibers short = absurd (omega (arith, short.some))
  instance_room number grants ms ts placed its granted room GcHeaps short = absurd (omega (arith, short.some))
  instance_room number grants ms ts placed its granted room ComponentInstances short = absurd (omega (arith, short.some))

  heap_room : (limits : Limits) (grants : Grants) (slot memory : ℕ) → Placed grants → memory % t.settings.num_stripes ≡ t.stripe → HasHeapRoom w grants slot memory → (kind : ConcurrencyKind) → IsShortOf w (a_heap limits) grants kind → ⊥
  heap_room limits grants slot memory placed its room (MemoryStripe s) short =
      absurd (omega (arith, short.1.more, memories_room grants (memory ∷ []) placed (one_all (λ k. k % t.settings.num_stripes ≡ t.stripe) memory its) room.memories))
  heap_room limits grants slot memory placed its room GcHeaps short = absurd (omega (arith, short.more, room.heaps.few))
  heap_room limits grants slot memory placed its room Tables short = absurd (omega (arith, short.some))
  heap_room limits grants slot memory placed its room CoreInstances short = absurd (omega (arith, short.some))
  heap_room limits grants slot memory placed its room Fibers short = absurd (omega (arith, short.some))
  heap_room limits grants slot memory placed its room ComponentInstances short = absurd (omega (arith, short.some))

  component_room : (info : ComponentInfo) (grants : Grants) → TellsRequest w (a_component info) grants Component → (kind : ConcurrencyKind) → IsShortOf w (a_component info) grants kind → ⊥
  component_room info grants room ComponentInstances short = absurd (omega (arith, short.more, room counts))
  component_room info grants room (MemoryStripe s) short = absurd (omega (arith, short.1.some))
  component_room info grants room Tables short = absurd (omega (arith, short.some))
  component_room info grants room CoreInstances short = absurd (omega (arith, short.some))
  component_room info grants room Fibers short = absurd (omega (arith, short.some))
  component_room info grants room GcHeaps short = absurd (omega (arith, short.some))

  stack_room : (grants : Grants) (slot : ℕ) → TellsRequest w a_stack grants (Stack slot) → (kind : ConcurrencyKind) → IsShortOf w a_stack grants kind → ⊥
  stack_room grants slot room Fibers short = absurd (omega (arith, short.more, room.few))
  stack_room grants slot room (MemoryStripe s) short = absurd (omega (arith, short.1.some))
  stack_room grants slot room Tables short = absurd (omega (arith, short.some))
  stack_room grants slot room CoreInstances short = absurd (omega (arith, short.some))
  stack_room grants slot room ComponentInstances short = absurd (omega (arith, short.some))
  stack_room grants slot room GcHeaps short = absurd (omega (arith, short.some))

  granted_room : (n : ℕ) (wanted : Wanted) (s new : PrivateState) (reply : Reply) → Requests t n wanted s reply new → TellsRequest w wanted s.grants reply → Lies reply → Placed s.grants → is_refusal reply ≡ false → IsShort w wanted s.grants → ⊥
  granted_room n wanted s new (Refused refusal) is tells its placed reply_is short = absurd cc
  granted_room n (an_instance number) s new (Instance ms ts) is tells its placed reply_is short = instance_room number s.grants ms ts placed its is.1.0 tells short.0 short.1
  granted_room n (an_instance number) s new _ is tells its placed reply_is short = absurd is.1
  granted_room n (a_component info) s new Component is tells its placed reply_is short = component_room info s.grants tells short.0 short.1
  granted_room n (a_component info) s new _ is tells its placed reply_is short = absurd is.1
  granted_room n a_stack s new (Stack slot) is tells its placed reply_is short = stack_room s.grants slot tells short.0 short.1
  granted_room n a_stack s new _ is tells its placed reply_is short = absurd is.1
  granted_room n (a_heap limits) s new (Heap slot memory) is tells its placed reply_is short = heap_room limits s.grants slot memory placed its tells short.0 short.1
  granted_room n (a_heap limits) s new _ is tells its placed reply_is short = absurd is

  -- What a refusal for room names is short, where the party is alone.
  full_short : (number : ℕ) (grants : Grants) (kind : ConcurrencyKind) → Placed grants → NamesOwn t kind → IsFull w (request_of t number) grants kind → IsShortOf w (an_instance number) grants kind
  full_short number grants CoreInstances placed names full = record { some = omega arith; more = omega (arith, full) }
  full_short number grants (MemoryStripe s) placed names full =
      let wanted : length (request_of t number).memories ≡ length (module_of t number).memories = count_wanted (module_of t number).memories (unwrap_or (images_of t.settings.tunables.tunables t.settings.page number (module_of t number).memories) []) in
      (names s refl, record { some = omega (arith, full.1, wanted); more = omega (arith, full.1, full.3, wanted, all_count grants placed) })
  full_short number grants Tables placed names full = record { some = omega (arith, full.1); more = omega (arith, full.1, full.3) }
  full_short number grants Fibers placed names full = absurd full
  full_short number grants GcHeaps placed names full = absurd full
  full_short number grants ComponentInstances placed names full = absurd full

  heap_short : (limits : Limits) (grants : Grants) (kind : ConcurrencyKind) → Placed grants → NamesOwn t kind → IsHeapFull w grants kind → IsShortOf w (a_heap limits) grants kind
  heap_short limits grants (MemoryStripe s) placed names full = (names s refl, record { some = omega arith; more = omega (arith, full, all_count grants placed) })
  heap_short limits grants GcHeaps placed names full = record { some = omega arith; more = omega (arith, full) }
  heap_short limits grants Tables placed names full = absurd full
  heap_short limits grants CoreInstances placed names full = absurd full
  heap_short limits grants Fibers placed names full = absurd full
  heap_short limits grants ComponentInstances placed names full = absurd full

  named_error : (n : ℕ) (wanted : Wanted) (s new : PrivateState) (e : AllocError) → Requests t n wanted s (Refused (Alloc e)) new → TellsRequest w wanted s.grants (Refused (Alloc e)) → Placed s.grants → w.alone ≡ true → IfForRoom (Refused (Alloc e)) (IsShortOf w wanted s.grants)
  named_error n (an_instance number) s new (alloc.Limit e) is tells placed alone =
      full_short number s.grants e.kind placed (refused_names t (request_of t number).broken (wants_of (request_of t number)) e is.1.0) (tells alone)
  named_error n (a_component info) s new (alloc.Limit e) is tells placed alone =
      let kind : e.kind ≡ ComponentInstances = component_kind t (component_refused t.settings info) e is.1.0 in
      let Short : ConcurrencyKind → Type 0 = λ k. IsShortOf w (a_component info) s.grants k in
      subst Short (sym kind) (record { some = omega arith; more = omega (arith, tells alone) })
  named_error n a_stack s new (alloc.Limit e) is tells placed alone =
      let kind : e.kind ≡ Fibers = stack_kind_of (t.stacks.size == 0) t.stacks.slots e is.1.0 in
      let Short : ConcurrencyKind → Type 0 = λ k. IsShortOf w a_stack s.grants k in
      subst Short (sym kind) (record { some = omega arith; more = omega (arith, tells alone) })
  named_error n (a_heap limits) s new (alloc.Limit e) is tells placed alone =
      heap_short limits s.grants e.kind placed (heap_names t (heap_type limits) (heap_barred t (heap_type limits)) e (λ same. barred_none t.settings.tunables.tunables.collector (type_refused t.settings (heap_type limits)) e same) is.0) (tells alone)
  named_error n wanted s new _ is tells placed alone = tt

  named : (n : ℕ) (wanted : Wanted) (s new : PrivateState) (reply : Reply) → Requests t n wanted s reply new → TellsRequest w wanted s.grants reply → Placed s.grants → w.alone ≡ true → IfForRoom reply (IsShortOf w wanted s.grants)
  named n wanted s new (Refused (Alloc e)) is tells placed alone = named_error n wanted s new e is tells placed alone
  named n wanted s new _ is tells placed alone = tt

  -- So the reply to a request tells exactly of room.
  request_exact : (n : ℕ) (wanted : Wanted) (s new : PrivateState) (command : Command) (reply : Reply) → act_of command ≡ requests wanted → Lies reply → Placed s.grants → PooledStep w n s command reply new → Requests t n wanted s reply new → TellsRequest w wanted s.grants reply → TellsExactly w wanted s.grants reply
  request_exact n wanted s new command reply act its placed step is tells =
      let granted : is_refusal reply ≡ false → IsShort w wanted s.grants → ⊥ = granted_room n wanted s new reply is tells its placed in
      let names : w.alone ≡ true → IfForRoom reply (IsShortOf w wanted s.grants) = named n wanted s new reply is tells placed in
      record {
        in_stripe = its;
        granted = granted;
        named = names;
        exactly = λ alone may none. (
          λ refuses. for_room (IsShortOf w wanted s.grants) reply refuses (names alone),
          λ short. elim (cases_Bool (refuses_for_room reply)) [
            | inl refuses ↦ refuses
            | inr other ↦ absurd (granted (served_granted w reply (step_served w n command wanted s new reply act may other step) none) short)
          ],
        );
      }

  -- And a request leaves the memories in place.
  request_placed : (n : ℕ) (wanted : Wanted) (s new : PrivateState) (reply : Reply) → Requests t n wanted s reply new → TellsRequest w wanted s.grants reply → Lies reply → Placed s.grants → ((f : ℕ → ℕ) → live_weigh f new.grants ≤ live_weigh f s.grants + reply_weighs f reply) → Placed new.grants
  request_placed n (an_instance number) s new (Instance ms ts) is tells its placed more =
      let free : AreFreeSlots t.slots (live_count s.grants) (λ slot. HasNoMemoryIn slot s.grants) ms = tells.memories in
      placed_more t.slots t.settings.num_stripes t.stripe some s.grants ms placed free.inside its free.free free.differ new.grants more
  request_placed n (a_heap limits) s new (Heap slot memory) is tells its placed more =
      let free : AreFreeSlots t.slots (live_count s.grants) (λ k. HasNoMemoryIn k s.grants) (memory ∷ []) = tells.memories in
      placed_more t.slots t.settings.num_stripes t.stripe some s.grants (memory ∷ []) placed free.inside (one_all (λ k. k % t.settings.num_stripes ≡ t.stripe) memory its) free.free free.differ new.grants (λ f. omega (arith, more f, sum_by-cons f memory []))
  request_placed n (an_instance number) s new (Heap slot memory) is tells its placed more = absurd is.1
  request_placed n (a_component info) s new (Instance ms ts) is tells its placed more = absurd is.1
  request_placed n (a_component info) s new (Heap slot memory) is tells its placed more = absurd is.1
  request_placed n a_stack s new (Instance ms ts) is tells its placed more = absurd is.1
  request_placed n a_stack s new (Heap slot memory) is tells its placed more = absurd is.1
  request_placed n (a_heap limits) s new (Instance ms ts) is tells its placed more = absurd is
  request_placed n wanted s new _ is tells its placed more = placed_still t.slots t.settings.num_stripes t.stripe some s.grants new.grants placed (λ f. omega (arith, more f))

  moves_as : (n : ℕ) (s new : PrivateState) (reply : Reply) (command : Command) (act : Act) → act_of command ≡ act → Moves t n s (act_of command) reply new → Moves t n s act reply new
  moves_as n s new reply command act is moves = let M : Act → Type 0 = λ x. Moves t n s x reply new in subst M is moves

  tells_as : (s : PrivateState) (reply : Reply) (command : Command) (act : Act) → act_of command ≡ act → TellsOfPool w s.grants (act_of command) reply → TellsOfPool w s.grants act reply
  tells_as s reply command act is tells = let T : Act → Type 0 = λ x. TellsOfPool w s.grants x reply in subst T is tells

  -- A step of its run.
  abbrev Told : ℕ → PrivateState → Act → Reply → PrivateState → Type 0
  Told n s act reply new = TellsExactlyOf w act s.grants reply × Placed new.grants

  other_told : (n : ℕ) (s new : PrivateState) (command : Command) (reply : Reply) (act : Act) → act_of command ≡ act → Placed s.grants → PooledStep w n s command reply new → TellsExactlyOf w act s.grants reply → ((f : ℕ → ℕ) → act_weighs f act reply ≡ 0) → Told n s act reply new
  other_told n s new command reply act is placed step tells none =
      let Moved : Act → Type 0 = λ x. (f : ℕ → ℕ) → live_weigh f new.grants ≤ live_weigh f s.grants + act_weighs f x reply in
      let more : Moved act = subst Moved is (λ f. step_weighs f t n s new command reply step.private) in
      (tells, placed_still t.slots t.settings.num_stripes t.stripe some s.grants new.grants placed (λ f. omega (arith, more f, none f)))

  step_told : (n : ℕ) (s new : PrivateState) (command : Command) (reply : Reply) (act : Act) → act_of command ≡ act → ((wanted : Wanted) → act_of command ≡ requests wanted → Lies reply) → Placed s.grants → PooledStep w n s command reply new → Told n s act reply new
  step_told n s new command reply (requests wanted) is its placed step =
      let Moved : Act → Type 0 = λ act. (f : ℕ → ℕ) → live_weigh f new.grants ≤ live_weigh f s.grants + act_weighs f act reply in
      let moved : Requests t n wanted s reply new = moves_as n s new reply command (requests wanted) is step.private in
      let tells : TellsRequest w wanted s.grants reply = tells_as s reply command (requests wanted) is step.pool in
      let more : Moved (requests wanted) = subst Moved is (λ f. step_weighs f t n s new command reply step.private) in
      (request_exact n wanted s new command reply is (its wanted is) placed step moved tells, request_placed n wanted s new reply moved tells (its wanted is) placed more)
  step_told n s new command reply (on_memory of k op) is its placed step = other_told n s new command reply (on_memory of k op) is placed step tt (λ f. omega arith)
  step_told n s new command reply (on_table of k op) is its placed step = other_told n s new command reply (on_table of k op) is placed step tt (λ f. omega arith)
  step_told n s new command reply (drops of) is its placed step = other_told n s new command reply (drops of) is placed step tt (λ f. omega arith)
  step_told n s new command reply (purges number) is its placed step = other_told n s new command reply (purges number) is placed step tt (λ f. omega arith)
  step_told n s new command reply releases is its placed step = other_told n s new command reply releases is placed step tt (λ f. omega arith)

  -- A run whose memories lie in the party's stripe tells exactly of room.
  steps_exact : (n : ℕ) (commands : List Command) (replies : List Reply) (s end : PrivateState) → TellStripe t.settings.num_stripes t.stripe commands replies → Placed s.grants → StepsBy (PooledStep w) n commands replies s end → StepsBy (ExactStep w) n commands replies s end
  steps_exact n commands [] s end its placed steps = steps
  steps_exact n [] (r ∷ replies) s end its placed steps = absurd steps
  steps_exact n (c ∷ commands) (r ∷ replies) s end its placed steps =
      let told : Told n s (act_of c) r steps.0 = step_told n s steps.0 c r (act_of c) refl (λ wanted is. its 0 c wanted r refl is refl) placed steps.1 in
      (steps.0, record { pooled = steps.1; room = told.0 }, steps_exact (n + 1) commands replies steps.0 end (λ k command wanted reply at is there. its (suc k) command wanted reply at is there) told.1 steps.2)

  pub run_exact : (commands : List Command) (replies : List Reply) → TellStripe t.settings.num_stripes t.stripe commands replies → IsPooledRun w commands replies → IsExactRun w commands replies
  run_exact commands replies its run = (run.0, steps_exact 0 commands replies (with_grants (no_grants commands)) run.0 its (none_placed t.slots t.settings.num_stripes t.stripe some (length commands)) run.1)
