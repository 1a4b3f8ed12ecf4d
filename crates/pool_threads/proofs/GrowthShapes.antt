-- What a party's memories are but for their bytes: each command and its reply say what becomes of that. So runs of the same commands with the
-- same replies agree on it, and on which growths met a fault.
use Rattle.std.proofs.Common.{◌≡◌, ℕ, zero, suc, ◌+◌, ◌<◌, ◌≤◌, ◌==◌, ◌&&◌, if◌then◌else◌, Bool, true, false, List, [], ◌∷◌, length, map, replicate, Option, Some, None, refl, sym, ap, ◌∙◌, subst, inl, inr, arith, option_map, slice_get, slice_set, slice_index_or}
use Rattle.std.specs.Option.{option_and_then, option_map_or}
use Rattle.std.proofs.lemmas.Bool.{cases_eq, ne_eqb}
use Rattle.std.proofs.lemmas.List.{get_or-set_other, map-set, set-get_or}
use Rattle.std.proofs.lemmas.Option.{slice_get-map}
use Rattle.pool_limits.specs.Growth.{GrowthRule}
use Rattle.pool_run.specs.Acts.{Act, MemoryOp, TableOp, Wanted, a_component, a_heap, a_stack, act_of, an_instance, asks_size, drops, fills, grows, heap_type, on_memory, on_table, purges, reads, releases, requests, writes}
use Rattle.pool_run.specs.GrowthEnds.{GrowthEnd, as_it_was, could_not, has_grown}
use Rattle.pool_run.specs.Objects.{MovesNamed, MovesObject, Objects, object_at, with_object}
use Rattle.pool_run.specs.Private.{AsksForComponent, AsksForHeap, AsksForStack, Drops, Grants, Instantiates, MemoryMoves, Moves, MovesBytes, PrivateGrant, PrivateMemory, PrivateState, Requests, StepsBy, Terms, Writes, begun, begun_memory, component_grant, grant_at, growth, heap_grant, heap_memory, heap_over_grant, instance_grant, left_of, memories_named_in, memory_grant, no_grants, private_memories, private_stacks, put_stack, put_table, request_of, size_wanted, stack_grant, table_at, table_grant, with_table}
use Rattle.pool_run.specs.PrivateStacks.{PrivateStack, StackMoves}
use Rattle.pool_run.specs.PrivateTables.{PrivateTable, StoredTable, TableMoves}
use Rattle.pool_run.specs.Rooms.{PooledStep, World}
use Rattle.pool_run.specs.declared.command.Command.{Command}
use Rattle.pool_run.specs.declared.reply.Reply.{Reply}
use Rattle.pool_run.specs.declared.reply.Reply.TheVariants as reply
use Rattle.pool_run.specs.declared.reply.Refusal.TheVariants.{Alloc}
use Rattle.pool_run.proofs.Grants.{mapped_at}
use Rattle.pool_run.proofs.Named.{AreSeen, moved, on_seen}
use Rattle.pool_threads.specs.GrowthFaults.{met_at, met_by}
use Rattle.pool_threads.proofs.GrowthEnds.{grown_so, reply_tells}

-- A memory without its bytes,
abbrev pub shape : PrivateMemory → PrivateMemory
shape m = record m { bytes = None }

-- those of a grant,
abbrev pub shapes_in : PrivateGrant → List PrivateMemory
shapes_in g = map shape (memories_named_in g)

abbrev pub Shapes : Type 0
Shapes = List (Option (List PrivateMemory))

-- and of all live grants.
abbrev pub shapes_of : Grants → Shapes
shapes_of grants = map (option_map shapes_in) grants

-- There is no grant of command `of`.
abbrev pub IsNoneAt : ℕ → Grants → Type 0
IsNoneAt of grants = slice_index_or (shapes_of grants) of None ≡ None

-- Where they stand in a grant's.
abbrev pub listed : Objects (List PrivateMemory) PrivateMemory
listed = record { in_grant = λ ms. ms; put_in = λ k m ms. slice_set ms k m }

one_set : {X : Type 0} (f : PrivateMemory → X) (k : ℕ) (m old : PrivateMemory) → f (if k == 0 then m else old) ∷ [] ≡ slice_set (f old ∷ []) k (f m)
one_set f zero m old = refl
one_set f (suc k) m old = ap (λ (b : Bool). f (if b then m else old) ∷ []) (ne_eqb (suc k) 0 (λ is. absurd (omega (arith, is))))

changed_shape : (k : ℕ) (m : PrivateMemory) (g : PrivateGrant) → shapes_in (private_memories.put_in k m g) ≡ listed.put_in k (shape m) (shapes_in g)
changed_shape k m (instance_grant g) = map-set shape g.memories k m
changed_shape k m component_grant = refl
changed_shape k m (memory_grant old) = refl
changed_shape k m (table_grant t) = refl
changed_shape k m (stack_grant s) = refl
changed_shape k m (heap_grant slot old) = one_set shape k m old
changed_shape k m (heap_over_grant slot) = refl

are_shapes : AreSeen private_memories listed shapes_in shape
are_shapes = record { same = λ g. refl; changed = changed_shape }

-- What is seen of an object stands where the object does.
module _ {G L H X : Type 0} (leases : Objects G L) (objects : Objects H X) (grant_seen : G → H) (seen : L → X) (are : AreSeen leases objects grant_seen seen) where
  seen_in : (k : ℕ) (x : Option G) → option_and_then (λ h. slice_get (objects.in_grant h) k) (option_map grant_seen x) ≡ option_map seen (option_and_then (λ g. slice_get (leases.in_grant g) k) x)
  seen_in k None = refl
  seen_in k (Some g) = ap (λ (xs : List X). slice_get xs k) (are.same g) ∙ slice_get-map seen (leases.in_grant g) k

  pub seen_object : (of k : ℕ) (live : List (Option G)) → object_at objects of k (map (option_map grant_seen) live) ≡ option_map seen (object_at leases of k live)
  seen_object of k live = ap (λ (o : Option H). option_and_then (λ h. slice_get (objects.in_grant h) k) o) (mapped_at grant_seen live of) ∙ seen_in k (slice_index_or live of None)

-- What an operation makes of a memory's shape,
abbrev op_shape : GrowthRule → MemoryOp → PrivateMemory → Reply → PrivateMemory
op_shape rule (grows pages) m reply = grown_so rule pages m reply
op_shape rule _ m reply = m

left_shape : (end : GrowthEnd) (size : ℕ) (m : PrivateMemory) → shape (left_of end size m) ≡ left_of end size (shape m)
left_shape as_it_was size m = refl
left_shape could_not size m = refl
left_shape has_grown size m = refl

grows_shaped : (rule : GrowthRule) (pages : ℕ) (m new : PrivateMemory) (reply : Reply) (fault : Bool) → ◌≡◌ {A = PrivateMemory × Reply} (new, reply) (left_of (growth rule fault pages m).0 (size_wanted pages m) m, (growth rule fault pages m).1) → shape new ≡ grown_so rule pages (shape m) reply
grows_shaped rule pages m new reply fault is =
    ap (λ (x : PrivateMemory × Reply). shape x.0) is ∙ left_shape (growth rule fault pages m).0 (size_wanted pages m) m ∙ reply_tells rule fault pages (shape m)
    ∙ ap (λ (x : PrivateMemory × Reply). grown_so rule pages (shape m) x.1) (sym is)

writes_shaped : (at : ℕ) (bytes : List ℕ) (m new : PrivateMemory) (r : Reply) → Writes at bytes m new r → shape new ≡ shape m
writes_shaped at bytes m new reply.Done is = ap shape is.1
writes_shaped at bytes m new (reply.Trap trap) is = ap shape is.2
writes_shaped at bytes m new _ is = absurd is

op_shaped : (op : MemoryOp) (rule : GrowthRule) (m new : PrivateMemory) (r : Reply) → MemoryMoves op rule m new r → shape new ≡ op_shape rule op (shape m) r
op_shaped (reads at len) rule m new r is = ap shape is.1
op_shaped (writes at bytes) rule m new r is = writes_shaped at bytes m new r is
op_shaped (fills at len byte) rule m new r is = writes_shaped at (replicate len byte) m new r is
op_shaped (grows pages) rule m new r is = grows_shaped rule pages m new r is.0 is.1
op_shaped asks_size rule m new r is = ap shape is.1

-- and of all shapes, where it is on this one.
abbrev named_after : GrowthRule → MemoryOp → ℕ → ℕ → Reply → Shapes → Option PrivateMemory → Shapes
named_after rule op of k r xs None = xs
named_after rule op of k r xs (Some m) = with_object listed of k (op_shape rule op m r) xs

abbrev SeesShape : GrowthRule → MemoryOp → PrivateMemory → PrivateMemory → Reply → Type 0
SeesShape rule op m new r = new ≡ op_shape rule op m r

named_so : (rule : GrowthRule) (op : MemoryOp) (of k : ℕ) (r : Reply) (xs new : Shapes) (o : Option PrivateMemory) → MovesNamed (SeesShape rule op) o (with_object listed of k) xs r new → new ≡ named_after rule op of k r xs o
named_so rule op of k r xs new None is = is.1
named_so rule op of k r xs new (Some m) is = is.2 ∙ ap (λ (x : PrivateMemory). with_object listed of k x xs) is.1

-- A grant that is replaced by one with the same memories leaves all shapes.
same_there : (grants : Grants) (of : ℕ) (x : Option PrivateGrant) → option_map shapes_in x ≡ option_map shapes_in (slice_index_or grants of None) → shapes_of (slice_set grants of x) ≡ shapes_of grants
same_there grants of x same =
    map-set (option_map shapes_in) grants of x ∙ ap (slice_set (shapes_of grants) of) (same ∙ sym (mapped_at shapes_in grants of)) ∙ set-get_or (shapes_of grants) of None

stack_shape : (k : ℕ) (s : PrivateStack) (g : PrivateGrant) → shapes_in (put_stack k s g) ≡ shapes_in g
stack_shape k s (instance_grant g) = refl
stack_shape k s component_grant = refl
stack_shape k s (memory_grant m) = refl
stack_shape k s (table_grant t) = refl
stack_shape k s (stack_grant old) = refl
stack_shape k s (heap_grant slot m) = refl
stack_shape k s (heap_over_grant slot) = refl

table_shape : (k : ℕ) (t : PrivateTable) (x : Option PrivateGrant) → option_map shapes_in (option_map (put_table k t) x) ≡ option_map shapes_in x
table_shape k t None = refl
table_shape k t (Some (instance_grant g)) = refl
table_shape k t (Some component_grant) = refl
table_shape k t (Some (memory_grant m)) = refl
table_shape k t (Some (table_grant old)) = refl
table_shape k t (Some (stack_grant s)) = refl
table_shape k t (Some (heap_grant slot m)) = refl
table_shape k t (Some (heap_over_grant slot)) = refl

-- An operation on bytes.
memory_shapes : (op : MemoryOp) (rule : GrowthRule) (of k : ℕ) (grants new : Grants) (r : Reply) → MovesObject private_memories (MemoryMoves op rule) of k grants r new → shapes_of new ≡ named_after rule op of k r (shapes_of grants) (object_at listed of k (shapes_of grants))
memory_shapes op rule of k grants new r is =
    named_so rule op of k r (shapes_of grants) (shapes_of new) (object_at listed of k (shapes_of grants))
    (on_seen private_memories listed shapes_in shape are_shapes (MemoryMoves op rule) (SeesShape rule op) of k grants new r (λ m. op_shaped op rule m.old m.changed r m.move) is)

stack_shapes : (op : MemoryOp) (rule : GrowthRule) (s : PrivateStack) (of k : ℕ) (grants new : Grants) (r : Reply) → grant_at grants of ≡ Some (stack_grant s) → MovesObject private_stacks (StackMoves op) of k grants r new → shapes_of new ≡ named_after rule op of k r (shapes_of grants) (object_at listed of k (shapes_of grants))
stack_shapes op rule s of k grants new r has is =
    let none : object_at listed of k (shapes_of grants) ≡ None = ap (λ (o : Option (List PrivateMemory)). option_and_then (λ ms. slice_get ms k) o) (mapped_at shapes_in grants of ∙ ap (option_map shapes_in) has) in
    let same : shapes_of new ≡ shapes_of grants =
    elim (moved private_stacks (StackMoves op) of k grants new r is) [
      | inl nothing ↦ ap shapes_of nothing.same
      | inr m ↦ ap shapes_of m.is ∙ same_there grants of (Some (put_stack k m.changed m.grant)) (ap (λ (ms : List PrivateMemory). Some ms) (stack_shape k m.changed m.grant) ∙ ap (option_map shapes_in) (sym m.granted))
    ] in
    same ∙ ap (named_after rule op of k r (shapes_of grants)) (sym none)

bytes_shapes : (op : MemoryOp) (rule : GrowthRule) (x : Option PrivateGrant) (of k : ℕ) (grants new : Grants) (r : Reply) → grant_at grants of ≡ x → MovesBytes op rule x of k grants r new → shapes_of new ≡ named_after rule op of k r (shapes_of grants) (object_at listed of k (shapes_of grants))
bytes_shapes op rule None of k grants new r has is = memory_shapes op rule of k grants new r is
bytes_shapes op rule (Some (instance_grant g)) of k grants new r has is = memory_shapes op rule of k grants new r is
bytes_shapes op rule (Some component_grant) of k grants new r has is = memory_shapes op rule of k grants new r is
bytes_shapes op rule (Some (memory_grant m)) of k grants new r has is = memory_shapes op rule of k grants new r is
bytes_shapes op rule (Some (table_grant t)) of k grants new r has is = memory_shapes op rule of k grants new r is
bytes_shapes op rule (Some (stack_grant s)) of k grants new r has is = stack_shapes op rule s of k grants new r has is
bytes_shapes op rule (Some (heap_grant slot m)) of k grants new r has is = memory_shapes op rule of k grants new r is
bytes_shapes op rule (Some (heap_over_grant slot)) of k grants new r has is = memory_shapes op rule of k grants new r is

-- What a request makes of its place: nothing, or the memories that are granted.
abbrev granted_shapes : Terms → Wanted → Reply → Option (List PrivateMemory)
granted_shapes t (an_instance number) (reply.Instance memories tables) = Some (map shape (begun (begun_memory t) (request_of t number).memories memories))
granted_shapes t (a_component info) reply.Component = Some []
granted_shapes t a_stack (reply.Stack slot) = Some []
granted_shapes t (a_heap limits) (reply.Heap slot memory) = Some (shape (begun_memory t memory (heap_memory (heap_type limits))) ∷ [])
granted_shapes t wanted r = None

abbrev placed : ℕ → Option (List PrivateMemory) → Shapes → Shapes
placed n None xs = xs
placed n (Some ms) xs = slice_set xs n (Some ms)

-- What a command with this reply makes of all shapes.
abbrev pub shapes_after : Terms → ℕ → Act → Reply → Shapes → Shapes
shapes_after t n (requests wanted) r xs = placed n (granted_shapes t wanted r) xs
shapes_after t n (on_memory of k op) r xs = named_after t.host.rule op of k r xs (object_at listed of k xs)
shapes_after t n (drops of) reply.Returned xs = slice_set xs of None
shapes_after t n act r xs = xs

module _ (t : Terms) (n : ℕ) where
  instance_shapes : (number : ℕ) (grants new : Grants) (r : Reply) → Instantiates t n (request_of t number) grants r new → shapes_of new ≡ shapes_after t n (requests (an_instance number)) r (shapes_of grants)
  instance_shapes number grants new (reply.Instance memories tables) is = ap shapes_of is.1 ∙ map-set (option_map shapes_in) grants n _
  instance_shapes number grants new (reply.Refused refusal) is = ap shapes_of is.1
  instance_shapes number grants new _ is = absurd is

  component_shapes : (info : _) (grants new : Grants) (r : Reply) → AsksForComponent t n info grants r new → shapes_of new ≡ shapes_after t n (requests (a_component info)) r (shapes_of grants)
  component_shapes info grants new reply.Component is = ap shapes_of is.1 ∙ map-set (option_map shapes_in) grants n (Some component_grant)
  component_shapes info grants new (reply.Refused (Alloc e)) is = ap shapes_of is.1
  component_shapes info grants new _ is = absurd is

  stacks_shapes : (grants new : Grants) (r : Reply) → AsksForStack t n grants r new → shapes_of new ≡ shapes_after t n (requests a_stack) r (shapes_of grants)
  stacks_shapes grants new (reply.Stack slot) is = ap shapes_of is.3 ∙ map-set (option_map shapes_in) grants n (Some (stack_grant is.1))
  stacks_shapes grants new (reply.Refused (Alloc e)) is = ap shapes_of is.1
  stacks_shapes grants new _ is = absurd is

  heap_shapes : (limits : _) (s new : PrivateState) (r : Reply) → AsksForHeap t n (heap_type limits) s r new → shapes_of new.grants ≡ shapes_after t n (requests (a_heap limits)) r (shapes_of s.grants)
  heap_shapes limits s new (reply.Heap slot memory) is = ap (λ (x : PrivateState). shapes_of x.grants) is.3 ∙ map-set (option_map shapes_in) s.grants n _
  heap_shapes limits s new (reply.Refused (Alloc e)) is = ap (λ (x : PrivateState). shapes_of x.grants) is.2
  heap_shapes limits s new _ is = absurd is

  requests_shapes : (wanted : Wanted) (s new : PrivateState) (r : Reply) → Requests t n wanted s r new → shapes_of new.grants ≡ shapes_after t n (requests wanted) r (shapes_of s.grants)
  requests_shapes (an_instance number) s new r is = ap (λ (x : PrivateState). shapes_of x.grants) is.2 ∙ instance_shapes number s.grants is.0 r is.1
  requests_shapes (a_component info) s new r is = ap (λ (x : PrivateState). shapes_of x.grants) is.2 ∙ component_shapes info s.grants is.0 r is.1
  requests_shapes a_stack s new r is = ap (λ (x : PrivateState). shapes_of x.grants) is.2 ∙ stacks_shapes s.grants is.0 r is.1
  requests_shapes (a_heap limits) s new r is = heap_shapes limits s new r is

  table_shapes : (op : TableOp) (of k : ℕ) (s new : PrivateState) (r : Reply) (o : Option StoredTable) → MovesNamed (TableMoves op t.host) o (with_table of k) s r new → shapes_of new.grants ≡ shapes_of s.grants
  table_shapes op of k s new r None is = ap (λ (x : PrivateState). shapes_of x.grants) is.1
  table_shapes op of k s new r (Some x) is =
      ap (λ (y : PrivateState). shapes_of y.grants) is.2 ∙ same_there s.grants of (option_map (put_table k is.0.table) (slice_index_or s.grants of None)) (table_shape k is.0.table (slice_index_or s.grants of None))

  drop_shapes : (of : ℕ) (grants new : Grants) (r : Reply) (x : Option PrivateGrant) → Drops x grants of r new → shapes_of new ≡ shapes_after t n (drops of) r (shapes_of grants)
  drop_shapes of grants new r None is = subst (λ (y : Reply). shapes_of new ≡ shapes_after t n (drops of) y (shapes_of grants)) (sym is.0) (ap shapes_of is.1)
  drop_shapes of grants new r (Some g) is = subst (λ (y : Reply). shapes_of new ≡ shapes_after t n (drops of) y (shapes_of grants)) (sym is.0) (ap shapes_of is.1 ∙ map-set (option_map shapes_in) grants of None)

  step_shapes : (act : Act) (s new : PrivateState) (r : Reply) → Moves t n s act r new → shapes_of new.grants ≡ shapes_after t n act r (shapes_of s.grants)
  step_shapes (requests wanted) s new r is = requests_shapes wanted s new r is
  step_shapes (on_memory of k op) s new r is = ap (λ (x : PrivateState). shapes_of x.grants) is.2 ∙ bytes_shapes op t.host.rule (grant_at s.grants of) of k s.grants is.0 r refl is.1
  step_shapes (on_table of k op) s new r is = table_shapes op of k s new r (table_at of k s) is
  step_shapes (drops of) s new r is = ap (λ (x : PrivateState). shapes_of x.grants) is.2 ∙ drop_shapes of s.grants is.0 r (grant_at s.grants of) is.1
  step_shapes (purges number) s new r is = ap (λ (x : PrivateState). shapes_of x.grants) is.1
  step_shapes releases s new r is = ap (λ (x : PrivateState). shapes_of x.grants) is.1

-- What commands with their replies make of them.
abbrev shapes_over : Terms → ℕ → List Command → List Reply → Shapes → Shapes
shapes_over t n commands [] xs = xs
shapes_over t n [] (r ∷ rs) xs = xs
shapes_over t n (c ∷ cs) (r ∷ rs) xs = shapes_over t (n + 1) cs rs (shapes_after t n (act_of c) r xs)

run_shapes : (w : World) (n : ℕ) (commands : List Command) (replies : List Reply) (s end : PrivateState) → StepsBy (PooledStep w) n commands replies s end → shapes_of end.grants ≡ shapes_over w.terms n commands replies (shapes_of s.grants)
run_shapes w n commands [] s end run = ap (λ (x : PrivateState). shapes_of x.grants) run
run_shapes w n [] (r ∷ rs) s end run = absurd run
run_shapes w n (c ∷ cs) (r ∷ rs) s end run =
    run_shapes w (n + 1) cs rs run.0 end run.2 ∙ ap (shapes_over w.terms (n + 1) cs rs) (step_shapes w.terms n (act_of c) s run.0 r run.1.private)

-- So two runs leave the same.
pub same_shapes : (w : World) (n : ℕ) (commands : List Command) (replies : List Reply) (s end other : PrivateState) → StepsBy (PooledStep w) n commands replies s end → StepsBy (PooledStep w) n commands replies s other → shapes_of end.grants ≡ shapes_of other.grants
same_shapes w n commands replies s end other one two = run_shapes w n commands replies s end one ∙ sym (run_shapes w n commands replies s other two)

-- Whether a growth met a fault is told by the shapes.
abbrev met_of : GrowthRule → MemoryOp → Option PrivateMemory → Reply → ℕ
met_of rule op o r = option_map_or (λ (m : PrivateMemory). met_by rule op m r) o 0

met_by_shape : (rule : GrowthRule) (op : MemoryOp) (m : PrivateMemory) (r : Reply) → met_by rule op (shape m) r ≡ met_by rule op m r
met_by_shape rule (reads at len) m r = refl
met_by_shape rule (writes at bytes) m r = refl
met_by_shape rule (fills at len byte) m r = refl
met_by_shape rule (grows pages) m r = refl
met_by_shape rule asks_size m r = refl

met_shape : (rule : GrowthRule) (op : MemoryOp) (o : Option PrivateMemory) (r : Reply) → met_of rule op (option_map shape o) r ≡ met_of rule op o r
met_shape rule op None r = refl
met_shape rule op (Some m) r = met_by_shape rule op m r

seen_met : (rule : GrowthRule) (op : MemoryOp) (of k : ℕ) (grants : Grants) (r : Reply) → met_of rule op (object_at listed of k (shapes_of grants)) r ≡ met_of rule op (object_at private_memories of k grants) r
seen_met rule op of k grants r = ap (λ (o : Option PrivateMemory). met_of rule op o r) (seen_object private_memories listed shapes_in shape are_shapes of k grants) ∙ met_shape rule op (object_at private_memories of k grants) r

pub met_same : (rule : GrowthRule) (of k : ℕ) (a b : Grants) (act : Act) (r : Reply) → shapes_of a ≡ shapes_of b → met_at rule of k a act r ≡ met_at rule of k b act r
met_same rule of k a b (on_memory grant place op) r same =
    ap (λ (n : ℕ). if (grant == of) && (place == k) then n else 0)
    (sym (seen_met rule op of k a r) ∙ ap (λ (xs : Shapes). met_of rule op (object_at listed of k xs) r) same ∙ seen_met rule op of k b r)
met_same rule of k a b (requests wanted) r same = refl
met_same rule of k a b (on_table grant place op) r same = refl
met_same rule of k a b (drops grant) r same = refl
met_same rule of k a b (purges number) r same = refl
met_same rule of k a b releases r same = refl

-- Where there is no grant no growth of it met one.
nothing_if : (b : Bool) (n : ℕ) → n ≡ 0 → (if b then n else 0) ≡ 0
nothing_if true n none = none
nothing_if false n none = refl

pub none_at : (rule : GrowthRule) (of k : ℕ) (grants : Grants) (act : Act) (r : Reply) → IsNoneAt of grants → met_at rule of k grants act r ≡ 0
none_at rule of k grants (on_memory grant place op) r none =
    nothing_if ((grant == of) && (place == k)) (met_of rule op (object_at private_memories of k grants) r)
    (sym (seen_met rule op of k grants r) ∙ ap (λ (o : Option (List PrivateMemory)). met_of rule op (option_and_then (λ ms. slice_get ms k) o) r) none)
none_at rule of k grants (requests wanted) r none = refl
none_at rule of k grants (on_table grant place op) r none = refl
none_at rule of k grants (drops grant) r none = refl
none_at rule of k grants (purges number) r none = refl
none_at rule of k grants releases r none = refl

-- Before its command no grant is there.
still_none : (xs : Shapes) (grant of : ℕ) (f : List PrivateMemory → List PrivateMemory) → slice_index_or xs of None ≡ None → slice_index_or (slice_set xs grant (option_map f (slice_index_or xs grant None))) of None ≡ None
still_none xs grant of f none =
    elim (cases_eq of grant) [
      | inl same ↦
          ap (λ (a : ℕ). slice_index_or (slice_set xs a (option_map f (slice_index_or xs a None))) of None) (sym same)
          ∙ ap (λ (o : Option (List PrivateMemory)). slice_index_or (slice_set xs of (option_map f o)) of None) none
          ∙ ap (λ (o : Option (List PrivateMemory)). slice_index_or (slice_set xs of o) of None) (sym none)
          ∙ ap (λ (ys : Shapes). slice_index_or ys of None) (set-get_or xs of None) ∙ none
      | inr other ↦ get_or-set_other xs grant of (option_map f (slice_index_or xs grant None)) None other ∙ none
    ]

gone_none : (xs : Shapes) (grant of : ℕ) → slice_index_or xs of None ≡ None → slice_index_or (slice_set xs grant None) of None ≡ None
gone_none xs grant of none =
    elim (cases_eq of grant) [
      | inl same ↦
          ap (λ (a : ℕ). slice_index_or (slice_set xs a None) of None) (sym same)
          ∙ ap (λ (o : Option (List PrivateMemory)). slice_index_or (slice_set xs of o) of None) (sym none)
          ∙ ap (λ (ys : Shapes). slice_index_or ys of None) (set-get_or xs of None) ∙ none
      | inr other ↦ get_or-set_other xs grant of None None other ∙ none
    ]

placed_none : (n of : ℕ) (o : Option (List PrivateMemory)) (xs : Shapes) → n < of → slice_index_or xs of None ≡ None → slice_index_or (placed n o xs) of None ≡ None
placed_none n of None xs later none = none
placed_none n of (Some ms) xs later none = get_or-set_other xs n of (Some ms) None (λ same. absurd (omega (arith, same, later))) ∙ none

named_none : (rule : GrowthRule) (op : MemoryOp) (grant k of : ℕ) (r : Reply) (xs : Shapes) (o : Option PrivateMemory) → slice_index_or xs of None ≡ None → slice_index_or (named_after rule op grant k r xs o) of None ≡ None
named_none rule op grant k of r xs None none = none
named_none rule op grant k of r xs (Some m) none = still_none xs grant of (λ ms. slice_set ms k (op_shape rule op m r)) none

after_none : (t : Terms) (n : ℕ) (act : Act) (r : Reply) (xs : Shapes) (of : ℕ) → n < of → slice_index_or xs of None ≡ None → slice_index_or (shapes_after t n act r xs) of None ≡ None
after_none t n (requests wanted) r xs of later none = placed_none n of (granted_shapes t wanted r) xs later none
after_none t n (on_memory grant k op) r xs of later none = named_none t.host.rule op grant k of r xs (object_at listed grant k xs) none
after_none t n (drops grant) reply.Returned xs of later none = gone_none xs grant of none
after_none t n _ r xs of later none = none

pub none_yet : (w : World) (n : ℕ) (commands : List Command) (replies : List Reply) (s end : PrivateState) (of : ℕ) → StepsBy (PooledStep w) n commands replies s end → n + length replies ≤ of → IsNoneAt of s.grants → IsNoneAt of end.grants
none_yet w n commands [] s end of run later none = ap (λ (x : PrivateState). slice_index_or (shapes_of x.grants) of None) run ∙ none
none_yet w n [] (r ∷ rs) s end of run later none = absurd run
none_yet w n (c ∷ cs) (r ∷ rs) s end of run later none =
    none_yet w (n + 1) cs rs run.0 end of run.2 (omega (arith, later))
    (ap (λ (xs : Shapes). slice_index_or xs of None) (step_shapes w.terms n (act_of c) s run.0 r run.1.private) ∙ after_none w.terms n (act_of c) r (shapes_of s.grants) of (omega (arith, later)) none)

nothing_granted : (n of : ℕ) → slice_index_or (shapes_of (replicate n None)) of None ≡ None
nothing_granted zero of = refl
nothing_granted (suc n) zero = refl
nothing_granted (suc n) (suc of) = nothing_granted n of

pub none_first : (commands : List Command) (of : ℕ) → IsNoneAt of (no_grants commands)
none_first commands of = nothing_granted (length commands) of
