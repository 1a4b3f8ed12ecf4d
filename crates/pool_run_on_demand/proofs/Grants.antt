-- A command on the bytes of a grant on demand, which is taken out of its place and put back; and what a request for a stack or
-- for a component gives.
use Rattle.std.proofs.Common.{◌≡◌, ℕ, zero, suc, ◌+◌, ◌-◌, ◌*◌, ◌/◌, ◌<◌, ◌≤◌, Bool, true, false, List, length, replicate, Option, Some, None, is_some, Result, Ok, Err, ◌⊎◌, inl, inr, refl, sym, ap, ◌∙◌, subst, arith, ◌==◌, if◌then◌else◌, IfSome, option_map, slice_get, slice_set, slice_index_or, slice_range}
use Rattle.pool_run_on_demand.proofs.Imports.{option_and_then, div-eq_of_lt, nat_tests, map-set, set-get_or, set-set, same_lists, places, length-replicate, slice_get-map, rounded_up_above, told_if, mapped_some, Contents, rounded_up, MakerTold, Told, succeeded, GrowthRule, asked_same, IsSameMaker, IsPlain, StackState, AllocError, guarding, Allocates, IsGiven, no_slot, stack_refused, IsStackMade, AsksForStack, stack_region, OnDemandInstanceAllocator, OnDemandInstance, OnDemandMemory, OnDemandStack, MemoryOp, MovesOnly, Objects, MovesNamed, object_at, with_object, PrivateMemory, PrivateGrant, instance_grant, component_grant, memory_grant, table_grant, stack_grant, heap_grant, heap_over_grant, private_memories, private_stacks, put_memory, Grants, grant_at, Terms, BeginsStack, StackMoves, StackStateMoves, seen_stack, Reply, a_granted, Refused, NoSuchGrant, mapped_at, state_op_seen}
use Rattle.pool_run.specs.declared.reply.Reply.TheVariants.{Stack as in_slot}
use Rattle.pool_slots.specs.declared.errors.AllocError.TheVariants as alloc
use Rattle.pool_run_on_demand.specs.OnDemand.{BytesOnDemand, MovesOnDemand, IsUnmadeStack, IsStackUnmade, MakesComponent, MakesStack}
use Rattle.pool_run_on_demand.specs.Seen.{BytesOfGrant, LeaseMovesOnDemand, PutsBack, IsAllocatorFor, seen_lease, seen_instance, seen_grant, grants_made, with_memory}
use Rattle.pool_run_on_demand.specs.declared.grant.OnDemandGrant.{OnDemandGrant}
use Rattle.pool_run_on_demand.specs.declared.grant.OnDemandGrant.TheVariants.{Component as component, Stack as stack}
use Rattle.pool_run_on_demand.proofs.Requests.{same_maker_for}

module _ (op : MemoryOp) (rule : GrowthRule) (k : ℕ) where
  -- What is done to a memory of an instance is done to its grant.
  module _ {M L P : Type 0} (tells : Bool) where
    abbrev sees : OnDemandInstance M L P → PrivateGrant
    sees g = instance_grant (seen_instance tells g)

    instance_by : (y : Option (OnDemandMemory M L)) (g new : OnDemandInstance M L P) (reply : Reply) → MovesNamed (LeaseMovesOnDemand tells op rule) y (with_memory k) g reply new → MovesNamed (MovesOnDemand op rule) (option_map (seen_lease tells) y) (put_memory k) (sees g) reply (sees new)
    instance_by None g new reply is = (is.0, ap sees is.1)
    instance_by (Some x) g new reply is =
        (seen_lease tells is.0, is.1, ap sees is.2 ∙ ap (λ (ms : List PrivateMemory). instance_grant (record (seen_instance tells g) { memories = ms })) (map-set (seen_lease tells) g.memories k is.0))

    pub instance_bytes : (g new : OnDemandInstance M L P) (reply : Reply) → MovesNamed (LeaseMovesOnDemand tells op rule) (slice_get g.memories k) (with_memory k) g reply new → BytesOfGrant op rule k (sees g) reply (sees new)
    instance_bytes g new reply is =
        let On : Option PrivateMemory → Type 0 = λ y. MovesNamed (MovesOnDemand op rule) y (put_memory k) (sees g) reply (sees new) in
        subst On (sym (slice_get-map (seen_lease tells) g.memories k)) (instance_by (slice_get g.memories k) g new reply is)

  -- What is done to a heap's memory is done to its grant.
  module _ {M L : Type 0} (tells : Bool) (slot : ℕ) where
    abbrev sees_heap : OnDemandMemory M L → PrivateGrant
    sees_heap l = heap_grant slot (seen_lease tells l)

    pub heap_bytes : (l new : OnDemandMemory M L) (reply : Reply) → MovesOnly (LeaseMovesOnDemand tells op rule) k l reply new → BytesOfGrant op rule k (sees_heap l) reply (sees_heap new)
    heap_bytes l new reply is = by_place k is
      where
        by_place : (k : ℕ) → MovesOnly (LeaseMovesOnDemand tells op rule) k l reply new → BytesOfGrant op rule k (sees_heap l) reply (sees_heap new)
        by_place zero is = (seen_lease tells is.0, is.1, ap sees_heap is.2)
        by_place (suc j) is = (is.0, ap sees_heap is.1)

  -- What is done to a stack is done to its grant.
  pub stack_bytes : (s new : StackState) (reply : Reply) → IsPlain s.slot → MovesOnly (StackStateMoves op) k s reply new → BytesOfGrant op rule k (stack_grant (seen_stack s)) reply (stack_grant (seen_stack new))
  stack_bytes s new reply plain is = by_place k is
    where
      by_place : (k : ℕ) → MovesOnly (StackStateMoves op) k s reply new → BytesOfGrant op rule k (stack_grant (seen_stack s)) reply (stack_grant (seen_stack new))
      by_place zero is = (seen_stack is.0, state_op_seen op s is.0 reply plain is.1, ap (λ (x : StackState). stack_grant (seen_stack x)) is.2)
      by_place (suc j) is = (is.0, ap (λ (x : StackState). stack_grant (seen_stack x)) is.1)

  -- What is done to an object of a grant is done to that of the grants.
  put_by : {X : Type 0} (objects : Objects PrivateGrant X) (Move : X → X → Reply → Type 0) (of : ℕ) (y : Option X) (gs : Grants) (g moved : PrivateGrant) (reply : Reply) → grant_at gs of ≡ Some g → MovesNamed Move y (objects.put_in k) g reply moved → MovesNamed Move y (with_object objects of k) gs reply (slice_set gs of (Some moved))
  put_by objects Move of None gs g moved reply has is = (is.0, ap (λ (h : PrivateGrant). slice_set gs of (Some h)) is.1 ∙ ap (slice_set gs of) (sym has) ∙ set-get_or gs of None)
  put_by objects Move of (Some x) gs g moved reply has is =
      (is.0, is.1, ap (λ (h : PrivateGrant). slice_set gs of (Some h)) is.2 ∙ ap (λ (o : Option PrivateGrant). slice_set gs of (option_map (objects.put_in k is.0) o)) (sym has))

  put_named : {X : Type 0} (objects : Objects PrivateGrant X) (Move : X → X → Reply → Type 0) (of : ℕ) (gs : Grants) (g moved : PrivateGrant) (reply : Reply) → grant_at gs of ≡ Some g → MovesNamed Move (slice_get (objects.in_grant g) k) (objects.put_in k) g reply moved → MovesNamed Move (object_at objects of k gs) (with_object objects of k) gs reply (slice_set gs of (Some moved))
  put_named {X = X} objects Move of gs g moved reply has is =
      let On : Option X → Type 0 = λ y. MovesNamed Move y (with_object objects of k) gs reply (slice_set gs of (Some moved)) in
      let there : object_at objects of k gs ≡ slice_get (objects.in_grant g) k = ap (option_and_then (λ h. slice_get (objects.in_grant h) k)) has in
      subst On (sym there) (put_by objects Move of (slice_get (objects.in_grant g) k) gs g moved reply has is)

  bytes_of : (of : ℕ) (gs : Grants) (g moved : PrivateGrant) (reply : Reply) → grant_at gs of ≡ Some g → BytesOfGrant op rule k g reply moved → BytesOnDemand op rule (Some g) of k gs reply (slice_set gs of (Some moved))
  bytes_of of gs (instance_grant i) moved reply has is = put_named private_memories (MovesOnDemand op rule) of gs (instance_grant i) moved reply has is
  bytes_of of gs component_grant moved reply has is = put_named private_memories (MovesOnDemand op rule) of gs component_grant moved reply has is
  bytes_of of gs (memory_grant m) moved reply has is = put_named private_memories (MovesOnDemand op rule) of gs (memory_grant m) moved reply has is
  bytes_of of gs (table_grant x) moved reply has is = put_named private_memories (MovesOnDemand op rule) of gs (table_grant x) moved reply has is
  bytes_of of gs (heap_grant slot m) moved reply has is = put_named private_memories (MovesOnDemand op rule) of gs (heap_grant slot m) moved reply has is
  bytes_of of gs (heap_over_grant slot) moved reply has is = put_named private_memories (MovesOnDemand op rule) of gs (heap_over_grant slot) moved reply has is
  bytes_of of gs (stack_grant s) moved reply has is = put_named private_stacks (StackMoves op) of gs (stack_grant s) moved reply has is

  module _ {M L P : Type 0} (tells : Bool) (of : ℕ) where
    abbrev seen_all : List (Option (OnDemandGrant M L P)) → Grants
    seen_all live = grants_made tells live

    -- a grant that was taken out of its place and put back
    pub bytes_taken : (live empty new : List (Option (OnDemandGrant M L P))) (reply : Reply) (grant : OnDemandGrant M L P) → slice_index_or live of None ≡ Some grant → empty ≡ slice_set live of None → PutsBack (BytesOfGrant op rule k) tells of grant empty reply new → BytesOnDemand op rule (grant_at (seen_all live) of) of k (seen_all live) reply (seen_all new)
    bytes_taken live empty new reply grant has taken is =
        let seen : grant_at (seen_all live) of ≡ Some (seen_grant tells grant) = mapped_at (seen_grant tells) live of ∙ ap (option_map (seen_grant tells)) has in
        let back : new ≡ slice_set live of (Some is.0) = is.1.1 ∙ ap (λ (xs : List (Option (OnDemandGrant M L P))). slice_set xs of (Some is.0)) taken ∙ set-set live of None (Some is.0) in
        let now : seen_all new ≡ slice_set (seen_all live) of (Some (seen_grant tells is.0)) = ap seen_all back ∙ map-set (option_map (seen_grant tells)) live of (Some is.0) in
        let On : Option PrivateGrant → Grants → Type 0 = λ o gs. BytesOnDemand op rule o of k (seen_all live) reply gs in
        subst (λ (o : Option PrivateGrant). On o (seen_all new)) (sym seen) (subst (On (Some (seen_grant tells grant))) (sym now) (bytes_of of (seen_all live) (seen_grant tells grant) (seen_grant tells is.0) reply seen is.1.0))

    -- no grant is there
    pub bytes_none : (live empty : List (Option (OnDemandGrant M L P))) → slice_index_or live of None ≡ None → empty ≡ slice_set live of None → BytesOnDemand op rule (grant_at (seen_all live) of) of k (seen_all live) (Refused NoSuchGrant) (seen_all empty)
    bytes_none live empty has taken =
        let seen : grant_at (seen_all live) of ≡ None = mapped_at (seen_grant tells) live of ∙ ap (option_map (seen_grant tells)) has in
        let same : empty ≡ live = taken ∙ ap (slice_set live of) (sym has) ∙ set-get_or live of None in
        let none : object_at private_memories of k (seen_all live) ≡ None = ap (option_and_then (λ h. slice_get (private_memories.in_grant h) k)) seen in
        let On : Option PrivateMemory → Type 0 = λ y. MovesNamed (MovesOnDemand op rule) y (with_object private_memories of k) (seen_all live) (Refused NoSuchGrant) (seen_all empty) in
        subst (λ (o : Option PrivateGrant). BytesOnDemand op rule o of k (seen_all live) (Refused NoSuchGrant) (seen_all empty)) (sym seen) (subst On (sym none) (refl, ap seen_all same))

-- what the answer to a request for a stack is to the party
abbrev pub StackAnswer : {P : Type 0} → Terms → Result (OnDemandStack P) AllocError → Type 0
StackAnswer t (Ok lease) = (0 < t.stacks.size) × BeginsStack t.stacks t.tells no_slot (seen_stack lease.stack)
StackAnswer t (Err e) = IsStackUnmade t e

-- bytes of a row of zeros
zeros_in : (base size n : ℕ) → base + size ≤ n → slice_range (replicate {A = ℕ} n 0) base (base + size) ≡ replicate size 0
zeros_in base size n within = same_lists _ _ (grind (arith, places)) (λ k d h. grind (arith, places))

begun_zeros : (base size : ℕ) (o : Option Contents) (n : ℕ) → base + size ≤ n → IfSome o (λ c. c.bytes ≡ replicate n 0) → IfSome (option_map (λ c. slice_range c.bytes base (base + size)) o) (λ b. b ≡ replicate size 0)
begun_zeros base size None n within is = tt
begun_zeros base size (Some c) n within is = ap (λ (xs : List ℕ). slice_range xs base (base + size)) is ∙ zeros_in base size n within

then_long : (n : ℕ) (o : Option (List ℕ)) → IfSome o (λ b. b ≡ replicate n 0) → IfSome o (λ b. length b ≡ n)
then_long n None is = tt
then_long n (Some b) is = ap length is ∙ length-replicate n 0

given_unmade : (e : AllocError) (old new : MakerTold) → IsGiven e old new → (e ≡ alloc.Memory) ⊎ (e ≡ alloc.PageFault)
given_unmade alloc.Memory old new is = inl refl
given_unmade alloc.PageFault old new is = inr refl
given_unmade _ old new is = absurd is

-- no bytes are no pages
rounded_none : (page : ℕ) → 0 < page → rounded_up page 0 ≡ 0
rounded_none page some = let whole : (page - 1) / page ≡ 0 = div-eq_of_lt (omega (arith, some)) in ap (λ (n : ℕ). n / page * page) {x = 0 + page - 1} {y = page - 1} (omega arith) ∙ ap (λ (n : ℕ). n * page) whole ∙ omega arith

module _ {M C : Type 0} (t : Terms) (a : OnDemandInstanceAllocator M C) (old new : MakerTold) (page : 0 < old.page) (for : IsAllocatorFor t a old) where
  -- stacks have no bytes in the terms where the allocator's have none
  none_same : (t.stacks.size == 0) ≡ (a.stack_size == 0)
  none_same = ap (λ (n : ℕ). n == 0) for.size ∙ sized a.stack_size
    where
      sized : (n : ℕ) → (rounded_up old.page n == 0) ≡ (n == 0)
      sized zero = let none : rounded_up old.page 0 ≡ 0 = rounded_none old.page page in grind (arith, nat_tests, none)
      sized (suc n) = let more : suc n ≤ rounded_up old.page (suc n) = rounded_up_above old.page (suc n) page in grind (arith, nat_tests, more)

  module _ {P : Type 0} where
    stack_begins : (lease : OnDemandStack P) → IsStackMade a.stack_size a.stack_zeroing old lease → BeginsStack t.stacks t.tells no_slot (seen_stack lease.stack)
    stack_begins lease is =
        let region : Told = stack_region a.stack_size a.stack_zeroing old in
        let guarded : Told = succeeded (guarding region.page) region in
        let size : lease.stack.slot.static_size ≡ rounded_up old.page a.stack_size = ap (λ (s : StackState). s.slot.static_size) is.stack ∙ omega arith in
        let base : lease.stack.slot.base.bytes ≡ old.page = ap (λ (s : StackState). s.slot.base.bytes) is.stack in
        let long : lease.stack.slot.region.len ≡ old.page + rounded_up old.page a.stack_size = ap (λ (s : StackState). s.slot.region.len) is.stack in
        let tells : is_some lease.stack.slot.region.contents ≡ old.tells = ap (λ (s : StackState). is_some s.slot.region.contents) is.stack ∙ mapped_some _ region.contents ∙ told_if old.tells _ in
        let zeros = begun_zeros lease.stack.slot.base.bytes lease.stack.slot.static_size lease.stack.slot.region.contents lease.stack.slot.region.len (omega (arith, size, base, long)) is.zeros in
        let sized : lease.stack.slot.static_size ≡ t.stacks.size = size ∙ sym for.size in
        let Zeros : ℕ → Type 0 = λ n. IfSome (seen_stack lease.stack).bytes (λ b. b ≡ replicate n 0) in
        record {
          slot = ap (λ (s : StackState). s.index) is.stack;
          size = sized;
          told = mapped_some _ lease.stack.slot.region.contents ∙ tells ∙ sym for.pages.tells;
          whole = then_long t.stacks.size (seen_stack lease.stack).bytes (subst Zeros sized zeros);
          zeros = λ zeroing. subst Zeros sized zeros;
        }

    stack_by : (b : Bool) (result : Result (OnDemandStack P) AllocError) → (a.stack_size == 0) ≡ b → Allocates (if b then Some alloc.StacksDisabled else None) (IsStackMade a.stack_size a.stack_zeroing old) result old new → StackAnswer t result
    stack_by true (Ok lease) none is = absurd (cc is.0)
    stack_by true (Err e) none is =
        let same : e ≡ alloc.StacksDisabled = cc is.0 in
        let Unmade : Bool → Type 0 = λ b. IsUnmadeStack b e in
        subst Unmade (sym (none_same ∙ none)) same
    stack_by false (Ok lease) some is =
        let sized : (t.stacks.size == 0) ≡ false = none_same ∙ some in
        (grind (arith, nat_tests, sized), stack_begins lease is.0)
    stack_by false (Err e) some is =
        let Unmade : Bool → Type 0 = λ b. IsUnmadeStack b e in
        subst Unmade (sym (none_same ∙ some)) (given_unmade e old new is)

    pub stack_answered : (result : Result (OnDemandStack P) AllocError) → Allocates (stack_refused a.stack_size) (IsStackMade a.stack_size a.stack_zeroing old) result old new → StackAnswer t result
    stack_answered result is = stack_by (a.stack_size == 0) result refl is

-- it leaves the maker the same
pub stack_same : {X : Type 0} (o : Option AllocError) (len : ℕ) (result : Result X AllocError) (old new : MakerTold) → AsksForStack o len result old new → IsSameMaker old new
stack_same o len result old new is = by_refusal o is
  where
    still : new ≡ old → IsSameMaker old new
    still same = let S : MakerTold → Type 0 = IsSameMaker old in subst S (sym same) (record { same = refl; rises = omega arith })

    by_refusal : (o : Option AllocError) → AsksForStack o len result old new → IsSameMaker old new
    by_refusal (Some e) is = still is
    by_refusal None (inl asked) = asked_same old new asked
    by_refusal None (inr past) = still past.1.1

-- The allocator is for the terms over the maker as a command leaves it.
pub same_allocator_for : {M C : Type 0} (t : Terms) (a : OnDemandInstanceAllocator M C) (old new : MakerTold) → IsAllocatorFor t a old → IsSameMaker old new → IsAllocatorFor t a new
same_allocator_for t a old new is same = record {
  pages = same_maker_for t old new is.pages same;
  size = is.size ∙ sym (ap (λ (m : MakerTold). rounded_up m.page a.stack_size) same.same);
  zeroing = is.zeroing;
}

-- what is granted is put into the place of its command
module _ {M L P : Type 0} (t : Terms) (n : ℕ) (live : List (Option (OnDemandGrant M L P))) where
  pub stack_makes : (lease : OnDemandStack P) (slot : ℕ) → slot ≡ lease.stack.index → (0 < t.stacks.size) × BeginsStack t.stacks t.tells no_slot (seen_stack lease.stack) → MakesStack t n (grants_made t.tells live) (in_slot slot) (grants_made t.tells (slice_set live n (Some (stack lease))))
  stack_makes lease slot named is = (named ∙ is.1.slot, (is.0, (seen_stack lease.stack, (is.1, map-set (option_map (seen_grant t.tells)) live n (Some (stack lease))))))

  pub component_makes : MakesComponent n (grants_made t.tells live) a_granted (grants_made t.tells (slice_set live n (Some component)))
  component_makes = map-set (option_map (seen_grant t.tells)) live n (Some component)
