-- A live grant has as many objects as its command asked for.
use Rattle.std.proofs.Common.{◌≡◌, ℕ, zero, suc, ◌+◌, ◌⊎◌, List, [], ◌∷◌, length, map, replicate, unwrap_or, Option, Some, None, refl, sym, ap, ◌∙◌, subst, inl, inr, arith, IfSome, option_map, slice_get, slice_set, slice_index_or}
use Rattle.pool_run.proofs.Imports.{length-set, Image, MemoryDecl, ModuleInfo, GrowthRule}
use Rattle.pool_run.specs.Acts.{Act, requests, on_memory, on_table, drops, purges, releases, act_of, act_at, Wanted, an_instance, a_component, a_stack, a_heap, heap_type, MemoryOp}
use Rattle.pool_run.specs.Bounds.{module_objects, objects_granted}
use Rattle.pool_run.specs.Objects.{MovesNamed, object_at}
use Rattle.pool_run.specs.Private.{PrivateGrant, PrivateMemory, instance_grant, component_grant, memory_grant, table_grant, stack_grant, heap_grant, heap_over_grant, Grants, grant_at, Terms, module_of, images_of, request_of, begun, begun_memory, begun_table, Instantiates, AsksForComponent, AsksForStack, AsksForHeap, MemoryMoves, MovesBytes, Drops, put_memory, put_table, put_stack, private_memories, private_stacks, PrivateState, table_at, with_table, Requests, Moves, StepsBy, with_grants, no_grants}
use Rattle.pool_run.specs.PrivateStacks.{PrivateStack, StackMoves}
use Rattle.pool_run.specs.PrivateTables.{PrivateTable, StoredTable, TableMoves}
use Rattle.pool_run.specs.Rooms.{World, PooledStep}
use Rattle.pool_run.specs.declared.command.Command.{Command}
use Rattle.pool_run.specs.declared.reply.Reply.{Reply}
use Rattle.pool_run.specs.declared.reply.Reply.TheVariants as reply
use Rattle.pool_run.specs.declared.reply.Refusal.TheVariants.{Alloc}
use Rattle.pool_run.proofs.Wants.{count_wanted}

-- How many objects a live grant has.
abbrev pub objects_of : PrivateGrant → ℕ
objects_of (instance_grant g) = length g.memories + length g.tables
objects_of component_grant = 0
objects_of (memory_grant m) = 1
objects_of (table_grant x) = 1
objects_of (stack_grant s) = 1
objects_of (heap_grant slot m) = 2
objects_of (heap_over_grant slot) = 1

-- A grant, if it is one, has so many objects.
abbrev pub HasObjects : ℕ → Option PrivateGrant → Type 0
HasObjects n o = IfSome o (λ g. objects_of g ≡ n)

-- Each live grant has as many objects as its command asked for.
abbrev pub AreAsked : List ModuleInfo → List Command → Grants → Type 0
AreAsked modules commands grants = (k : ℕ) → HasObjects (objects_granted modules (act_at commands k)) (grant_at grants k)

-- A place once one was set: it is that one, or has what it had.
set_or : {X : Type 0} (xs : List X) (i k : ℕ) (x d : X) → ((k ≡ i) × (slice_index_or (slice_set xs i x) k d ≡ x)) ⊎ (slice_index_or (slice_set xs i x) k d ≡ slice_index_or xs k d)
set_or [] i k x d = inr refl
set_or (y ∷ ys) zero zero x d = inl (refl, refl)
set_or (y ∷ ys) zero (suc k) x d = inr refl
set_or (y ∷ ys) (suc i) zero x d = inr refl
set_or (y ∷ ys) (suc i) (suc k) x d =
    elim (set_or ys i k x d) [
      | inl is ↦ inl (ap suc is.0, is.1)
      | inr is ↦ inr is
    ]

-- the same grant with another in the place of one of its objects
put_memory_same : (k : ℕ) (m : PrivateMemory) (g : PrivateGrant) → objects_of (put_memory k m g) ≡ objects_of g
put_memory_same k m (instance_grant g) = ap (λ (n : ℕ). n + length g.tables) (length-set g.memories k m)
put_memory_same k m component_grant = refl
put_memory_same k m (memory_grant old) = refl
put_memory_same k m (table_grant x) = refl
put_memory_same k m (stack_grant s) = refl
put_memory_same k m (heap_grant slot old) = refl
put_memory_same k m (heap_over_grant slot) = refl

put_table_same : (k : ℕ) (x : PrivateTable) (g : PrivateGrant) → objects_of (put_table k x g) ≡ objects_of g
put_table_same k x (instance_grant g) = ap (λ (n : ℕ). length g.memories + n) (length-set g.tables k x)
put_table_same k x component_grant = refl
put_table_same k x (memory_grant m) = refl
put_table_same k x (table_grant old) = refl
put_table_same k x (stack_grant s) = refl
put_table_same k x (heap_grant slot m) = refl
put_table_same k x (heap_over_grant slot) = refl

put_stack_same : (k : ℕ) (s : PrivateStack) (g : PrivateGrant) → objects_of (put_stack k s g) ≡ objects_of g
put_stack_same k s (instance_grant g) = refl
put_stack_same k s component_grant = refl
put_stack_same k s (memory_grant m) = refl
put_stack_same k s (table_grant x) = refl
put_stack_same k s (stack_grant old) = refl
put_stack_same k s (heap_grant slot m) = refl
put_stack_same k s (heap_over_grant slot) = refl

mapped_has : (put : PrivateGrant → PrivateGrant) → ((g : PrivateGrant) → objects_of (put g) ≡ objects_of g) → (n : ℕ) (o : Option PrivateGrant) → HasObjects n o → HasObjects n (option_map put o)
mapped_has put same n None has = tt
mapped_has put same n (Some g) has = same g ∙ has

-- as many things begin as are wanted, where there is a slot for each
begun_long : {W X : Type 0} (make : ℕ → W → X) (wants : List W) (slots : List ℕ) → length slots ≡ length wants → length (begun make wants slots) ≡ length wants
begun_long make [] slots long = refl
begun_long make (want ∷ wants) [] long = absurd (omega (arith, long))
begun_long make (want ∷ wants) (slot ∷ slots) long = ap suc (begun_long make wants slots (omega (arith, long)))

-- what a command on what it names leaves
named_keeps : {X S : Type 0} (Q : S → Type 0) (Move : X → X → Reply → Type 0) (o : Option X) (put : X → S → S) (old new : S) (reply : Reply) → ((x : X) → Q (put x old)) → Q old → MovesNamed Move o put old reply new → Q new
named_keeps Q Move None put old new reply keeps has moves = subst Q (sym moves.1) has
named_keeps Q Move (Some x) put old new reply keeps has moves = subst Q (sym moves.2) (keeps moves.0)

module _ (t : Terms) (commands : List Command) where
  Asked : Grants → Type 0
  Asked grants = AreAsked t.modules commands grants

  wanted_at : ℕ → ℕ
  wanted_at k = objects_granted t.modules (act_at commands k)

  asked_set : (grants : Grants) (n : ℕ) (x : Option PrivateGrant) → AreAsked t.modules commands grants → HasObjects (objects_granted t.modules (act_at commands n)) x → AreAsked t.modules commands (slice_set grants n x)
  asked_set grants n x are has k =
      let At : ℕ → Option PrivateGrant → Type 0 = λ j o. HasObjects (objects_granted t.modules (act_at commands j)) o in
      elim (set_or grants n k x None) [
        | inl is ↦ subst (At k) (sym is.1) (subst (λ (j : ℕ). At j x) (sym is.0) has)
        | inr is ↦ subst (At k) (sym is) (are k)
      ]

  -- an object is another
  asked_put : (put : PrivateGrant → PrivateGrant) → ((g : PrivateGrant) → objects_of (put g) ≡ objects_of g) → (grants : Grants) (of : ℕ) → AreAsked t.modules commands grants → AreAsked t.modules commands (slice_set grants of (option_map put (slice_index_or grants of None)))
  asked_put put same grants of are = asked_set grants of (option_map put (slice_index_or grants of None)) are (mapped_has put same (objects_granted t.modules (act_at commands of)) (slice_index_or grants of None) (are of))

  -- An operation on bytes.
  on_memories : (op : MemoryOp) (rule : GrowthRule) (of k : ℕ) (grants new : Grants) (reply : Reply) → AreAsked t.modules commands grants → MovesNamed (MemoryMoves op rule) (object_at private_memories of k grants) (λ x live. slice_set live of (option_map (put_memory k x) (slice_index_or live of None))) grants reply new → AreAsked t.modules commands new
  on_memories op rule of k grants new reply are moves = named_keeps (AreAsked t.modules commands) (MemoryMoves op rule) (object_at private_memories of k grants) (λ x live. slice_set live of (option_map (put_memory k x) (slice_index_or live of None))) grants new reply (λ x. asked_put (put_memory k x) (put_memory_same k x) grants of are) are moves

  bytes_asked : (op : MemoryOp) (rule : GrowthRule) (g : Option PrivateGrant) (of k : ℕ) (grants new : Grants) (reply : Reply) → AreAsked t.modules commands grants → MovesBytes op rule g of k grants reply new → AreAsked t.modules commands new
  bytes_asked op rule None of k grants new reply are moves = on_memories op rule of k grants new reply are moves
  bytes_asked op rule (Some (instance_grant i)) of k grants new reply are moves = on_memories op rule of k grants new reply are moves
  bytes_asked op rule (Some component_grant) of k grants new reply are moves = on_memories op rule of k grants new reply are moves
  bytes_asked op rule (Some (memory_grant m)) of k grants new reply are moves = on_memories op rule of k grants new reply are moves
  bytes_asked op rule (Some (table_grant x)) of k grants new reply are moves = on_memories op rule of k grants new reply are moves
  bytes_asked op rule (Some (heap_grant slot m)) of k grants new reply are moves = on_memories op rule of k grants new reply are moves
  bytes_asked op rule (Some (heap_over_grant slot)) of k grants new reply are moves = on_memories op rule of k grants new reply are moves
  bytes_asked op rule (Some (stack_grant s)) of k grants new reply are moves =
      named_keeps (AreAsked t.modules commands) (StackMoves op) (object_at private_stacks of k grants) (λ x live. slice_set live of (option_map (put_stack k x) (slice_index_or live of None))) grants new reply (λ x. asked_put (put_stack k x) (put_stack_same k x) grants of are) are moves

  -- A request.
  instance_asked : (n number : ℕ) (grants new : Grants) (reply : Reply) → act_at commands n ≡ Some (requests (an_instance number)) → AreAsked t.modules commands grants → Instantiates t n (request_of t number) grants reply new → AreAsked t.modules commands new
  instance_asked n number grants new (reply.Instance memories tables) is are moves =
      let decls : List MemoryDecl = (module_of t number).memories in
      let images : List (Option Image) = unwrap_or (images_of t.settings.tunables.tunables t.settings.page number decls) [] in
      let long : length (begun (begun_memory t) (request_of t number).memories memories) + length (begun (begun_table t) (request_of t number).tables tables) ≡ module_objects (module_of t number) =
      omega (
        arith,
        begun_long (begun_memory t) (request_of t number).memories memories moves.0.memory_slots,
        begun_long (begun_table t) (request_of t number).tables tables moves.0.table_slots,
        count_wanted decls images,
      ) in
      let x : Option PrivateGrant = Some (instance_grant (record { memories = begun (begun_memory t) (request_of t number).memories memories; tables = begun (begun_table t) (request_of t number).tables tables })) in
      subst (AreAsked t.modules commands) (sym moves.1) (asked_set grants n x are (long ∙ sym (ap (objects_granted t.modules) is)))
  instance_asked n number grants new (reply.Refused refusal) is are moves = subst (AreAsked t.modules commands) (sym moves.1) are
  instance_asked n number grants new _ is are moves = absurd moves

  component_asked : (n : ℕ) (info : _) (grants new : Grants) (reply : Reply) → act_at commands n ≡ Some (requests (a_component info)) → AreAsked t.modules commands grants → AsksForComponent t n info grants reply new → AreAsked t.modules commands new
  component_asked n info grants new reply.Component is are moves = subst (AreAsked t.modules commands) (sym moves.1) (asked_set grants n (Some component_grant) are (sym (ap (objects_granted t.modules) is)))
  component_asked n info grants new (reply.Refused (Alloc e)) is are moves = subst (AreAsked t.modules commands) (sym moves.1) are
  component_asked n info grants new _ is are moves = absurd moves

  stack_asked : (n : ℕ) (grants new : Grants) (reply : Reply) → act_at commands n ≡ Some (requests a_stack) → AreAsked t.modules commands grants → AsksForStack t n grants reply new → AreAsked t.modules commands new
  stack_asked n grants new (reply.Stack slot) is are moves = subst (AreAsked t.modules commands) (sym moves.3) (asked_set grants n (Some (stack_grant moves.1)) are (sym (ap (objects_granted t.modules) is)))
  stack_asked n grants new (reply.Refused (Alloc e)) is are moves = subst (AreAsked t.modules commands) (sym moves.1) are
  stack_asked n grants new _ is are moves = absurd moves

  heap_asked : (n : ℕ) (limits : _) (s new : PrivateState) (reply : Reply) → act_at commands n ≡ Some (requests (a_heap limits)) → AreAsked t.modules commands s.grants → AsksForHeap t n (heap_type limits) s reply new → AreAsked t.modules commands new.grants
  heap_asked n limits s new (reply.Heap slot memory) is are moves =
      let Q : PrivateState → Type 0 = λ x. AreAsked t.modules commands x.grants in
      subst Q (sym moves.3) (asked_set s.grants n _ are (sym (ap (objects_granted t.modules) is)))
  heap_asked n limits s new (reply.Refused (Alloc e)) is are moves =
      let Q : PrivateState → Type 0 = λ x. AreAsked t.modules commands x.grants in
      subst Q (sym moves.2) are
  heap_asked n limits s new _ is are moves = absurd moves

  wanted_asked : (n : ℕ) (wanted : Wanted) (s new : PrivateState) (reply : Reply) → act_at commands n ≡ Some (requests wanted) → AreAsked t.modules commands s.grants → Requests t n wanted s reply new → AreAsked t.modules commands new.grants
  wanted_asked n (an_instance number) s new reply is are moves =
      let Q : PrivateState → Type 0 = λ x. AreAsked t.modules commands x.grants in
      subst Q (sym moves.2) (instance_asked n number s.grants moves.0 reply is are moves.1)
  wanted_asked n (a_component info) s new reply is are moves =
      let Q : PrivateState → Type 0 = λ x. AreAsked t.modules commands x.grants in
      subst Q (sym moves.2) (component_asked n info s.grants moves.0 reply is are moves.1)
  wanted_asked n a_stack s new reply is are moves =
      let Q : PrivateState → Type 0 = λ x. AreAsked t.modules commands x.grants in
      subst Q (sym moves.2) (stack_asked n s.grants moves.0 reply is are moves.1)
  wanted_asked n (a_heap limits) s new reply is are moves = heap_asked n limits s new reply is are moves

  -- A give-back.
  drop_asked : (of : ℕ) (o : Option PrivateGrant) (grants new : Grants) (reply : Reply) → AreAsked t.modules commands grants → Drops o grants of reply new → AreAsked t.modules commands new
  drop_asked of None grants new reply are gone = subst (AreAsked t.modules commands) (sym gone.1) are
  drop_asked of (Some g) grants new reply are gone = subst (AreAsked t.modules commands) (sym gone.1) (asked_set grants of None are tt)

  -- One command.
  move_asked : (n : ℕ) (act : Act) (s new : PrivateState) (reply : Reply) → act_at commands n ≡ Some act → AreAsked t.modules commands s.grants → Moves t n s act reply new → AreAsked t.modules commands new.grants
  move_asked n (requests wanted) s new reply is are moves = wanted_asked n wanted s new reply is are moves
  move_asked n (on_memory of k op) s new reply is are moves =
      let Q : PrivateState → Type 0 = λ x. AreAsked t.modules commands x.grants in
      subst Q (sym moves.2) (bytes_asked op t.host.rule (grant_at s.grants of) of k s.grants moves.0 reply are moves.1)
  move_asked n (on_table of k op) s new reply is are moves =
      named_keeps (λ x. AreAsked t.modules commands x.grants) (TableMoves op t.host) (table_at of k s) (with_table of k) s new reply (λ x. asked_put (put_table k x.table) (put_table_same k x.table) s.grants of are) are moves
  move_asked n (drops of) s new reply is are moves =
      let Q : PrivateState → Type 0 = λ x. AreAsked t.modules commands x.grants in
      subst Q (sym moves.2) (drop_asked of (grant_at s.grants of) s.grants moves.0 reply are moves.1)
  move_asked n (purges number) s new reply is are moves =
      let Q : PrivateState → Type 0 = λ x. AreAsked t.modules commands x.grants in
      subst Q (sym moves.1) are
  move_asked n releases s new reply is are moves =
      let Q : PrivateState → Type 0 = λ x. AreAsked t.modules commands x.grants in
      subst Q (sym moves.1) are

-- Some commands, which are those from command n on.
steps_asked : (w : World) (all : List Command) (n : ℕ) (commands : List Command) (replies : List Reply) (s end : PrivateState) → ((k : ℕ) → slice_get all (n + k) ≡ slice_get commands k) → AreAsked w.terms.modules all s.grants → StepsBy (PooledStep w) n commands replies s end → AreAsked w.terms.modules all end.grants
steps_asked w all n commands [] s end same are run =
    let Q : PrivateState → Type 0 = λ x. AreAsked w.terms.modules all x.grants in
    subst Q (sym run) are
steps_asked w all n [] (reply ∷ replies) s end same are run = absurd run
steps_asked w all n (command ∷ commands) (reply ∷ replies) s end same are run =
    let here : slice_get all n ≡ Some command = ap (slice_get all) {x = n} {y = n + 0} (omega arith) ∙ same 0 in
    let next : (k : ℕ) → slice_get all ((n + 1) + k) ≡ slice_get commands k = λ k. ap (slice_get all) {x = (n + 1) + k} {y = n + suc k} (omega arith) ∙ same (suc k) in
    steps_asked w all (n + 1) commands replies run.0 end next (move_asked w.terms all n (act_of command) s run.0 reply (ap (option_map act_of) here) are run.1.private) run.2

none_there : (n k : ℕ) → slice_index_or (replicate {A = Option PrivateGrant} n None) k None ≡ None
none_there zero k = refl
none_there (suc n) zero = refl
none_there (suc n) (suc k) = none_there n k

-- All that a party was granted in a run, and has still.
pub run_asked : (w : World) (commands : List Command) (replies : List Reply) (end : PrivateState) → StepsBy (PooledStep w) 0 commands replies (with_grants (no_grants commands)) end → AreAsked w.terms.modules commands end.grants
run_asked w commands replies end run =
    let first : AreAsked w.terms.modules commands (no_grants commands) = λ k. subst (HasObjects (objects_granted w.terms.modules (act_at commands k))) (sym (none_there (length commands) k)) tt in
    steps_asked w commands 0 commands replies (with_grants (no_grants commands)) end (λ k. ap (slice_get commands) {x = 0 + k} {y = k} (omega arith)) first run
