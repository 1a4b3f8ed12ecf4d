-- What a party's private run says of a request that may be granted and isn't refused for room: it is served.
use Rattle.std.proofs.Common.{◌≡◌, ℕ, zero, suc, ◌+◌, ◌==◌, true, false, List, [], ◌∷◌, Option, Some, None, refl, sym, ap, ◌∙◌, subst, inl, inr, arith, if◌then◌else◌, slice_get}
use Rattle.pool_slots.specs.declared.errors.AllocError.TheVariants as alloc
use Rattle.pool_alloc.specs.UnhinderedRequests.{is_for_room}
use Rattle.pool_run.proofs.Imports.{nat_tests, AllocError, ComponentInfo, Fibers, Limits, MemoryType, Unsupported, Want, component_refused, new_memory, new_table, no_component_left}
use Rattle.pool_run.specs.Acts.{Act, requests, act_of, Wanted, an_instance, a_component, a_stack, a_heap, heap_type}
pub use Rattle.pool_run.specs.Exact.{refuses_for_room}
use Rattle.pool_run.specs.Private.{Grants, Terms, GivenRefusal, no_memory, no_instance, no_slot, page_fault, IsRefused, IsHeapRefused, HeapRefusal, RefusesHeap, Instantiates, AsksForComponent, AsksForStack, AsksForHeap, Requests, Moves, PrivateState, StepsBy, IsComponentRefused, first_refusal, heap_barred, heap_memory, heap_refusal, limit_for, no_heap_left, refused_as, request_of, wants_of}
use Rattle.pool_run.specs.Rooms as rooms
use Rattle.pool_run.specs.Rooms.{World, PooledStep, TellsOfPool, SomeMayFault}
use Rattle.pool_run.specs.Unhindered.{MayBeGranted, IsServed}
use Rattle.pool_run.specs.declared.command.Command.{Command}
use Rattle.pool_run.specs.declared.reply.Reply.{Reply}
use Rattle.pool_run.specs.declared.reply.Reply.TheVariants.{Instance, Component, Stack, Heap, Refused}
use Rattle.pool_run.specs.declared.reply.Refusal.TheVariants.{Alloc}

-- What a party's run says of a request that may be granted and isn't refused for room: it is served.
module _ (u : World) where
  abbrev Serves : AllocError → Type 0
  Serves e = IsServed u (Refused (Alloc e))

  abbrev Faults : AllocError → Type 0
  Faults e = e ≡ alloc.PageFault → SomeMayFault u

  for_memory : (e : AllocError) → e ≡ alloc.Memory → Serves e
  for_memory e is = subst Serves (sym is) tt

  for_fault : (e : AllocError) → Faults e → e ≡ alloc.PageFault → Serves e
  for_fault e faults is = let F : Type 0 = SomeMayFault u in let there : F = faults is in subst Serves (sym is) there

  for_room : (e limit : AllocError) → is_for_room limit ≡ true → is_for_room e ≡ false → e ≡ limit → Serves e
  for_room e limit room none is = let wrong : true ≡ false = sym room ∙ sym (ap is_for_room is) ∙ none in absurd cc

  limit_room : (t : Terms) (o : Option Want) → is_for_room (limit_for t o) ≡ true
  limit_room t (Some (new_table ty)) = refl
  limit_room t _ = refl

  given_served : (t : Terms) (wants : List Want) (e : AllocError) (given : GivenRefusal) → is_for_room e ≡ false → Faults e → e ≡ refused_as t wants given → Serves e
  given_served t wants e no_memory none faults is = for_memory e is
  given_served t wants e no_instance none faults is = for_room e (refused_as t wants no_instance) refl none is
  given_served t wants e (no_slot i) none faults is = for_room e (limit_for t (slice_get wants i)) (limit_room t (slice_get wants i)) none is
  given_served t wants e (page_fault i) none faults is = for_fault e faults is

  refused_served : (t : Terms) (broken : Option Unsupported) (wants : List Want) (e : AllocError) → broken ≡ None → first_refusal t wants ≡ None → is_for_room e ≡ false → Faults e → IsRefused broken t wants e → Serves e
  refused_served t (Some rule) wants e whole own none faults is = absurd cc
  refused_served t None wants e whole own none faults is =
      elim is [
        | inl first ↦ let wrong : Some e ≡ None = sym first ∙ own in absurd cc
        | inr given ↦ given_served t wants e given.0 none faults given.1
      ]

  instance_served : (t : Terms) (n number : ℕ) (grants new : Grants) (reply : Reply) → MayBeGranted t (an_instance number) → refuses_for_room reply ≡ false → Instantiates t n (request_of t number) grants reply new → rooms.TellsRoom u (request_of t number) grants reply → IsServed u reply
  instance_served t n number grants new (Instance memories tables) may none is tells = tt
  instance_served t n number grants new (Refused (Alloc e)) may none is tells =
      let For : AllocError → Type 0 = λ x. rooms.IsForRoom u (request_of t number) grants x in
      refused_served t (request_of t number).broken (wants_of (request_of t number)) e may.0 may.1 none (λ fault. (let told : For alloc.PageFault = subst For fault tells in told.0)) is.0
  instance_served t n number grants new (Refused r) may none is tells = absurd is.0
  instance_served t n number grants new _ may none is tells = absurd is

  component_refused_served : (t : Terms) (o : Option Unsupported) (e : AllocError) → o ≡ None → is_for_room e ≡ false → IsComponentRefused t o e → Serves e
  component_refused_served t (Some rule) e whole none is = absurd cc
  component_refused_served t None e whole none is = for_room e (no_component_left t.settings) refl none is

  component_served : (t : Terms) (n : ℕ) (info : ComponentInfo) (grants new : Grants) (reply : Reply) → MayBeGranted t (a_component info) → refuses_for_room reply ≡ false → AsksForComponent t n info grants reply new → IsServed u reply
  component_served t n info grants new Component may none is = tt
  component_served t n info grants new (Refused (Alloc e)) may none is = component_refused_served t (component_refused t.settings info) e may none is.0
  component_served t n info grants new (Refused r) may none is = absurd is
  component_served t n info grants new _ may none is = absurd is

  stack_served : (t : Terms) (n : ℕ) (grants new : Grants) (reply : Reply) → MayBeGranted t a_stack → refuses_for_room reply ≡ false → AsksForStack t n grants reply new → IsServed u reply
  stack_served t n grants new (Stack slot) may none is = tt
  stack_served t n grants new (Refused (Alloc e)) may none is =
      let limit : AllocError = alloc.Limit (record { limit = t.stacks.slots; kind = Fibers }) in
      let sized : (t.stacks.size == 0) ≡ false = grind (arith, nat_tests, may) in
      for_room e limit refl none (is.0 ∙ ap (λ b. if b then alloc.StacksDisabled else limit) sized)
  stack_served t n grants new (Refused r) may none is = absurd is
  stack_served t n grants new _ may none is = absurd is

  heap_refused_served : (t : Terms) (ty : MemoryType) (e : AllocError) → heap_refusal t ty ≡ None → is_for_room e ≡ false → Faults e → IsHeapRefused t ty e → Serves e
  heap_refused_served t ty e own none faults is =
      elim is [
        | inl first ↦ elim first [
          | inl memory ↦ for_memory e memory
          | inr own_one ↦ let wrong : Some e ≡ None = sym own_one ∙ own in absurd cc
        ]
        | inr later ↦ elim later [
          | inl given ↦ elim given [
            | inl full ↦ for_room e (limit_for t (Some (new_memory (heap_memory ty)))) refl none full
            | inr fault ↦ for_fault e faults fault
          ]
          | inr heaps ↦ for_room e (no_heap_left t) refl none heaps.1
        ]
      ]

  heap_maker_served : (t : Terms) (ty : MemoryType) (e : AllocError) → heap_refusal t ty ≡ None → is_for_room e ≡ false → Faults e → HeapRefusal t ty e → Serves e
  heap_maker_served t ty alloc.HeapFault own none faults is = tt
  heap_maker_served t ty e own none faults is = heap_refused_served t ty e own none faults is

  barred_served : (t : Terms) (ty : MemoryType) (o : Option AllocError) (e : AllocError) → o ≡ None → heap_refusal t ty ≡ None → is_for_room e ≡ false → Faults e → RefusesHeap o t ty e → Serves e
  barred_served t ty (Some barred) e free own none faults is = absurd cc
  barred_served t ty None e free own none faults is = heap_maker_served t ty e own none faults is

  heap_served : (t : Terms) (n : ℕ) (limits : Limits) (s new : PrivateState) (reply : Reply) → MayBeGranted t (a_heap limits) → refuses_for_room reply ≡ false → AsksForHeap t n (heap_type limits) s reply new → rooms.TellsHeapRoom u s.grants reply → IsServed u reply
  heap_served t n limits s new (Heap slot memory) may none is tells = tt
  heap_served t n limits s new (Refused (Alloc e)) may none is tells =
      let For : AllocError → Type 0 = λ x. rooms.IsForHeapRoom u s.grants x in
      barred_served t (heap_type limits) (heap_barred t (heap_type limits)) e may.0 may.1 none (λ fault. (let told : For alloc.PageFault = subst For fault tells in told.0)) is.0
  heap_served t n limits s new (Refused r) may none is tells = absurd is
  heap_served t n limits s new _ may none is tells = absurd is

  wanted_served : (n : ℕ) (wanted : Wanted) (s new : PrivateState) (reply : Reply) → MayBeGranted u.terms wanted → refuses_for_room reply ≡ false → Requests u.terms n wanted s reply new → rooms.TellsRequest u wanted s.grants reply → IsServed u reply
  wanted_served n (an_instance number) s new reply may none is tells = instance_served u.terms n number s.grants is.0 reply may none is.1 tells
  wanted_served n (a_component info) s new reply may none is tells = component_served u.terms n info s.grants is.0 reply may none is.1
  wanted_served n a_stack s new reply may none is tells = stack_served u.terms n s.grants is.0 reply may none is.1
  wanted_served n (a_heap limits) s new reply may none is tells = heap_served u.terms n limits s new reply may none is tells

  pub step_served : (n : ℕ) (command : Command) (wanted : Wanted) (s new : PrivateState) (reply : Reply) → act_of command ≡ requests wanted → MayBeGranted u.terms wanted → refuses_for_room reply ≡ false → PooledStep u n s command reply new → IsServed u reply
  step_served n command wanted s new reply is may none step =
      let Moved : Act → Type 0 = λ act. Moves u.terms n s act reply new in
      let Told : Act → Type 0 = λ act. TellsOfPool u s.grants act reply in
      let moved : Moved (requests wanted) = subst Moved is step.private in
      let told : Told (requests wanted) = subst Told is step.pool in
      wanted_served n wanted s new reply may none moved told

-- the step of a run by which reply k came
pub step_of : (Step : ℕ → PrivateState → Command → Reply → PrivateState → Type 0) (n k : ℕ) (commands : List Command) (replies : List Reply) (s end : PrivateState) (command : Command) (reply : Reply) → StepsBy Step n commands replies s end → slice_get commands k ≡ Some command → slice_get replies k ≡ Some reply → (old : PrivateState) × ((new : PrivateState) × Step (n + k) old command reply new)
step_of Step n k commands [] s end command reply steps is told = absurd cc
step_of Step n k [] (r ∷ replies) s end command reply steps is told = absurd steps
step_of Step n zero (c ∷ commands) (r ∷ replies) s end command reply steps is told =
    let S : ℕ → Command → Reply → Type 0 = λ m x y. Step m s x y steps.0 in
    let its : c ≡ command = cc in
    let its_reply : r ≡ reply = cc in
    let same : n ≡ n + 0 = omega arith in
    (s, (steps.0, subst (λ (m : ℕ). S m command reply) same (subst (S n command) its_reply (subst (λ (x : Command). S n x r) its steps.1))))
step_of Step n (suc k) (c ∷ commands) (r ∷ replies) s end command reply steps is told =
    let rest = step_of Step (n + 1) k commands replies steps.0 end command reply steps.2 is told in
    let same : n + 1 + k ≡ n + suc k = omega arith in
    (rest.0, (rest.1.0, subst (λ (m : ℕ). Step m rest.0 command reply rest.1.0) same rest.1.1))
