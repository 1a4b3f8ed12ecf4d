-- A grant of a pool and one made on demand for the same begin alike, stay so, and are answered alike, where both are served.
use Rattle.std.proofs.Common.{◌≡◌, ℕ, ◌%◌, Bool, true, false, List, [], ◌∷◌, length, map, replicate, Option, Some, None, refl, sym, ap, ◌∙◌, subst, arith, is_some, zero, suc, ◌==◌, if◌then◌else◌, IfSome, option_map, slice_get, slice_set}
use Rattle.pool_run_on_demand.proofs.Imports.{AllByRecursion, minimum_byte_size, Image, start, ElementKind, empty, kind_of, TableType, no_slot, MemoryWant, MemoryOp, reads, writes, fills, grows, asks_size, TableOp, gets, sets, lengthens, asks_length, Wanted, an_instance, a_component, a_stack, a_heap, heap_type, MovesNamed, PrivateStack, BeginsStack, StackMoves, Host, PrivateTable, StoredTable, TableMoves, PrivateMemory, MemoryMoves, Terms, PrivateInstance, PrivateGrant, instance_grant, component_grant, stack_grant, heap_grant, put_memory, put_table, put_stack, tables_named_in, request_of, begun, begun_instance, begun_memory, begun_table, heap_memory, Reply}
use Rattle.pool_table.specs.Elements as elem
use Rattle.pool_run_on_demand.specs.OnDemand.{MovesOnDemand, TableMovesOnDemand, made_memory, made_table, image_taken, heap_terms}
use Rattle.pool_run_on_demand.specs.Alike.{OnObject, bytes_in, table_in, GrantStored, put_stored, DoesBytes, Does, OpsOn, IsServed, AreServed, HasWholePages, BothGive, AllocatorsAgree}
use Rattle.pool_run_on_demand.proofs.AlikeBytes.{AreAlike, AreStacksAlike, op_alike, stack_alike}
use Rattle.pool_run_on_demand.proofs.AlikeTables.{AreTablesAlike, table_alike}

-- whether it was served doesn't depend on the place
served_memory : (k : ℕ) (op : MemoryOp) (r : Reply) → IsServed (bytes_in k op) r → IsServed (bytes_in 0 op) r
served_memory k (reads i len) r is = is
served_memory k (writes i xs) r is = is
served_memory k (fills i len byte) r is = is
served_memory k (grows pages) r is = is
served_memory k asks_size r is = is

served_table : (k : ℕ) (op : TableOp) (r : Reply) → IsServed (table_in k op) r → IsServed (table_in 0 op) r
served_table k (gets i) r is = is
served_table k (sets i count value) r is = is
served_table k (lengthens by) r is = is
served_table k asks_length r is = is

-- Lists of which each thing is alike with the one in its place.
module _ {X : Type 0} (R : X → X → Type 0) where
  abbrev AllAlike : List X → List X → Type 0
  AllAlike [] [] = Unit {0}
  AllAlike [] (n ∷ ns) = ⊥
  AllAlike (m ∷ ms) [] = ⊥
  AllAlike (m ∷ ms) (n ∷ ns) = R m n × AllAlike ms ns

  abbrev BothAlike : Option X → Option X → Type 0
  BothAlike None None = Unit {0}
  BothAlike None (Some n) = ⊥
  BothAlike (Some m) None = ⊥
  BothAlike (Some m) (Some n) = R m n

  get_alike : (ms ns : List X) (k : ℕ) → AllAlike ms ns → BothAlike (slice_get ms k) (slice_get ns k)
  get_alike [] [] k are = tt
  get_alike [] (n ∷ ns) k are = absurd are
  get_alike (m ∷ ms) [] k are = absurd are
  get_alike (m ∷ ms) (n ∷ ns) zero are = are.0
  get_alike (m ∷ ms) (n ∷ ns) (suc k) are = get_alike ms ns k are.1

  set_alike : (ms ns : List X) (k : ℕ) (a b : X) → AllAlike ms ns → R a b → AllAlike (slice_set ms k a) (slice_set ns k b)
  set_alike [] [] k a b are alike = tt
  set_alike [] (n ∷ ns) k a b are alike = absurd are
  set_alike (m ∷ ms) [] k a b are alike = absurd are
  set_alike (m ∷ ms) (n ∷ ns) zero a b are alike = (alike, are.1)
  set_alike (m ∷ ms) (n ∷ ns) (suc k) a b are alike = (are.0, set_alike ms ns k a b are.1 alike)

-- Two grants are.
abbrev AreAlikeGrants : PrivateGrant → PrivateGrant → Type 0
AreAlikeGrants (instance_grant g) (instance_grant h) = AllAlike AreAlike g.memories h.memories × AllAlike AreTablesAlike g.tables h.tables
AreAlikeGrants component_grant component_grant = Unit {0}
AreAlikeGrants (stack_grant s) (stack_grant z) = AreStacksAlike s z
AreAlikeGrants (heap_grant slot m) (heap_grant other n) = AreAlike m n
AreAlikeGrants _ _ = ⊥

-- and as many calls on the store
record AreGrantsAlike (s z : GrantStored) : Type 0 where
  grants : AreAlikeGrants s.grant z.grant
  calls : z.calls ≡ s.calls

-- their tables are
tables_alike : (g h : PrivateGrant) → AreAlikeGrants g h → AllAlike AreTablesAlike (tables_named_in g) (tables_named_in h)
tables_alike (instance_grant g) (instance_grant h) are = are.1
tables_alike component_grant component_grant are = tt
tables_alike (stack_grant s) (stack_grant z) are = tt
tables_alike (heap_grant slot m) (heap_grant other n) are = tt
tables_alike _ _ are = absurd are

-- still where a table of each is put back
put_alike : (g h : PrivateGrant) (k : ℕ) (a b : PrivateTable) → AreAlikeGrants g h → AreTablesAlike a b → AreAlikeGrants (put_table k a g) (put_table k b h)
put_alike (instance_grant g) (instance_grant h) k a b are alike = (are.0, set_alike AreTablesAlike g.tables h.tables k a b are.1 alike)
put_alike component_grant component_grant k a b are alike = tt
put_alike (stack_grant s) (stack_grant z) k a b are alike = are
put_alike (heap_grant slot m) (heap_grant other n) k a b are alike = are
put_alike _ _ k a b are alike = absurd are

module _ (host : Host) where
  abbrev OnPooled : MemoryOp → PrivateMemory → PrivateMemory → Reply → Type 0
  OnPooled op m new reply = MemoryMoves op host.rule m new reply

  abbrev OnMade : MemoryOp → PrivateMemory → PrivateMemory → Reply → Type 0
  OnMade op m new reply = MovesOnDemand op host.rule m new reply

  abbrev InPool : TableOp → StoredTable → StoredTable → Reply → Type 0
  InPool op t new reply = TableMoves op host t new reply

  abbrev InList : TableOp → StoredTable → StoredTable → Reply → Type 0
  InList op t new reply = TableMovesOnDemand op host t new reply

  -- operations on the bytes of grants
  abbrev GrantsStay : PrivateGrant → PrivateGrant → Reply → Reply → Type 0
  GrantsStay a b r q = AreAlikeGrants a b × (r ≡ q)

  grants_moved : (a b x y : PrivateGrant) (r q : Reply) → a ≡ x → b ≡ y → GrantsStay x y r q → GrantsStay a b r q
  grants_moved a b x y r q one two is = subst (λ (w : PrivateGrant). GrantsStay w b r q) (sym one) (subst (λ (w : PrivateGrant). GrantsStay x w r q) (sym two) is)

  memory_there : (g h : PrivateInstance) (are : AreAlikeGrants (instance_grant g) (instance_grant h)) (k : ℕ) (op : MemoryOp) (o p : Option PrivateMemory) (a b : PrivateGrant) (r q : Reply) → BothAlike AreAlike o p → MovesNamed (OnPooled op) o (put_memory k) (instance_grant g) r a → MovesNamed (OnMade op) p (put_memory k) (instance_grant h) q b
      → IsServed (bytes_in 0 op) r → IsServed (bytes_in 0 op) q → GrantsStay a b r q
  memory_there g h are k op None None a b r q both one two first second = grants_moved a b (instance_grant g) (instance_grant h) r q one.1 two.1 (are, one.0 ∙ sym two.0)
  memory_there g h are k op None (Some n) a b r q both one two first second = absurd both
  memory_there g h are k op (Some m) None a b r q both one two first second = absurd both
  memory_there g h are k op (Some m) (Some n) a b r q both one two first second =
      let moved = op_alike m n both op host.rule one.0 two.0 r q one.1 two.1 first second in
      grants_moved a b (put_memory k one.0 (instance_grant g)) (put_memory k two.0 (instance_grant h)) r q one.2 two.2 ((set_alike AreAlike g.memories h.memories k one.0 two.0 are.0 moved.0, are.1), moved.1)

  stack_there : (s z : PrivateStack) (are : AreStacksAlike s z) (k : ℕ) (op : MemoryOp) (j : ℕ) (a b : PrivateGrant) (r q : Reply) → MovesNamed (StackMoves op) (slice_get (s ∷ []) j) (put_stack k) (stack_grant s) r a → MovesNamed (StackMoves op) (slice_get (z ∷ []) j) (put_stack k) (stack_grant z) q b
      → IsServed (bytes_in 0 op) r → IsServed (bytes_in 0 op) q → GrantsStay a b r q
  stack_there s z are k op zero a b r q one two first second =
      let moved = stack_alike s z are op one.0 two.0 r q one.1 two.1 first second in
      grants_moved a b (stack_grant one.0) (stack_grant two.0) r q one.2 two.2 moved
  stack_there s z are k op (suc j) a b r q one two first second = grants_moved a b (stack_grant s) (stack_grant z) r q one.1 two.1 (are, one.0 ∙ sym two.0)

  heap_there : (slot other : ℕ) (m n : PrivateMemory) (are : AreAlike m n) (k : ℕ) (op : MemoryOp) (a b : PrivateGrant) (r q : Reply) → MovesNamed (OnPooled op) (slice_get (m ∷ []) k) (put_memory k) (heap_grant slot m) r a → MovesNamed (OnMade op) (slice_get (n ∷ []) k) (put_memory k) (heap_grant other n) q b
      → IsServed (bytes_in 0 op) r → IsServed (bytes_in 0 op) q → GrantsStay a b r q
  heap_there slot other m n are zero op a b r q one two first second =
      let moved = op_alike m n are op host.rule one.0 two.0 r q one.1 two.1 first second in
      grants_moved a b (heap_grant slot one.0) (heap_grant other two.0) r q one.2 two.2 moved
  heap_there slot other m n are (suc j) op a b r q one two first second = grants_moved a b (heap_grant slot m) (heap_grant other n) r q one.1 two.1 (are, one.0 ∙ sym two.0)

  bytes_there : (g h : PrivateGrant) (k : ℕ) (op : MemoryOp) (a b : PrivateGrant) (r q : Reply) → AreAlikeGrants g h → DoesBytes OnPooled InPool k op g r a → DoesBytes OnMade InList k op h q b → IsServed (bytes_in 0 op) r → IsServed (bytes_in 0 op) q → GrantsStay a b r q
  bytes_there (instance_grant g) (instance_grant h) k op a b r q are one two first second =
      memory_there g h are k op (slice_get g.memories k) (slice_get h.memories k) a b r q (get_alike AreAlike g.memories h.memories k are.0) one two first second
  bytes_there component_grant component_grant k op a b r q are one two first second = grants_moved a b component_grant component_grant r q one.1 two.1 (tt, one.0 ∙ sym two.0)
  bytes_there (stack_grant s) (stack_grant z) k op a b r q are one two first second = stack_there s z are k op k a b r q one two first second
  bytes_there (heap_grant slot m) (heap_grant other n) k op a b r q are one two first second = heap_there slot other m n are k op a b r q one two first second
  bytes_there _ _ k op a b r q are one two first second = absurd are

  abbrev Stay : GrantStored → GrantStored → Reply → Reply → Type 0
  Stay a b r q = AreGrantsAlike a b × (r ≡ q)

  module _ (s z : GrantStored) (alike : AreGrantsAlike s z) (a b : GrantStored) (r q : Reply) where
    table_there : (k : ℕ) (op : TableOp) (o p : Option PrivateTable) → BothAlike AreTablesAlike o p → MovesNamed (InPool op) (option_map (λ t. record { table = t; calls = s.calls }) o) (put_stored k) s r a → MovesNamed (InList op) (option_map (λ t. record { table = t; calls = s.calls }) p) (put_stored k) z q b
        → IsServed (table_in 0 op) r → IsServed (table_in 0 op) q → Stay a b r q
    table_there k op None None both one two first second =
        let Left : GrantStored → Type 0 = λ x. AreGrantsAlike x b in
        let Right : GrantStored → Type 0 = λ x. AreGrantsAlike s x in
        (subst Left (sym one.1) (subst Right (sym two.1) alike), one.0 ∙ sym two.0)
    table_there k op None (Some u) both one two first second = absurd both
    table_there k op (Some t) None both one two first second = absurd both
    table_there k op (Some t) (Some u) both one two first second =
        let moved = table_alike host t u both s.calls op one.0 two.0 r q one.1 two.1 first second in
        let Left : GrantStored → Type 0 = λ x. AreGrantsAlike x b in
        let Right : GrantStored → Type 0 = λ x. AreGrantsAlike (put_stored k one.0 s) x in
        (subst Left (sym one.2) (subst Right (sym two.2) (record { grants = put_alike s.grant z.grant k one.0.table two.0.table alike.grants moved.tables; calls = moved.calls })), moved.replies)

    there_alike : (on : OnObject) → Does OnPooled InPool on s r a → Does OnMade InList on z q b → IsServed on r → IsServed on q → Stay a b r q
    there_alike (bytes_in k op) one two first second =
        let moved = bytes_there s.grant z.grant k op a.grant b.grant r q alike.grants one.0 two.0 (served_memory k op r first) (served_memory k op q second) in
        (record { grants = moved.0; calls = two.1 ∙ alike.calls ∙ sym one.1 }, moved.1)
    there_alike (table_in k op) one two first second =
        let At : ℕ → Type 0 = λ calls. MovesNamed (InList op) (option_map (λ t. record { table = t; calls = calls }) (slice_get (tables_named_in z.grant) k)) (put_stored k) z q b in
        table_there k op (slice_get (tables_named_in s.grant) k) (slice_get (tables_named_in z.grant) k) (get_alike AreTablesAlike (tables_named_in s.grant) (tables_named_in z.grant) k (tables_alike s.grant z.grant alike.grants)) one (subst At alike.calls two) (served_table k op r first) (served_table k op q second)

  ops_alike : (ops : List OnObject) (s z : GrantStored) (rs qs : List Reply) → AreGrantsAlike s z → OpsOn OnPooled InPool ops s rs → OpsOn OnMade InList ops z qs → AreServed ops rs → AreServed ops qs → rs ≡ qs
  ops_alike [] s z rs qs are one two first second = one ∙ sym two
  ops_alike (on ∷ ops) s z [] qs are one two first second = absurd one
  ops_alike (on ∷ ops) s z (r ∷ rs) [] are one two first second = absurd two
  ops_alike (on ∷ ops) s z (r ∷ rs) (q ∷ qs) are one two first second =
      let step = there_alike s z are one.0 two.0 r q on one.1.0 two.1.0 first.0 second.0 in
      ap (λ (x : Reply). x ∷ rs) step.1 ∙ ap (λ (xs : List Reply). q ∷ xs) (ops_alike ops one.0 two.0 rs qs step.0 one.1.1 two.1.1 first.1 second.1)

-- The grants begin alike.
begun_bytes : (b : Bool) (x : List ℕ) → b ≡ true → is_some (if b then Some x else None) ≡ true
begun_bytes true x is = refl
begun_bytes false x is = absurd cc

memories_begin : (t : Terms) (wants : List MemoryWant) (slots : List ℕ) → t.tells ≡ true → length slots ≡ length wants → AllByRecursion (HasWholePages t.settings.page) wants → AllAlike AreAlike (begun (begun_memory t) wants slots) (map (made_memory t) wants)
memories_begin t [] slots tells long whole = tt
memories_begin t (want ∷ wants) [] tells long whole = absurd (omega (arith, long))
memories_begin t (want ∷ wants) (slot ∷ slots) tells long whole =
    let least : ℕ = minimum_byte_size want.decl.ty in
    let same : want.image ≡ image_taken t.settings.page least want.image = ap (λ (k : ℕ). if k == 0 then want.image else None) (sym whole.0) in (
      record { ty = refl; size = refl; bytes = ap (λ (i : Option Image). if t.tells then Some (start i least) else None) same; told = begun_bytes t.tells (start want.image least) tells },
      memories_begin t wants slots tells (omega (arith, long)) whole.1,
    )

tables_begin : (t : Terms) (types : List TableType) (slots : List ℕ) → t.tells ≡ true → length slots ≡ length types → AllAlike AreTablesAlike (begun (begun_table t) types slots) (map (made_table t) types)
tables_begin t [] slots tells long = tt
tables_begin t (ty ∷ types) [] tells long = absurd (omega (arith, long))
tables_begin t (ty ∷ types) (slot ∷ slots) tells long =
    let kind : ElementKind = kind_of ty.element t.settings.tunables.tunables.table_lazy_init in
    let es : List elem.Element = replicate ty.limits.min (empty kind) in
    let Made : Option (List elem.Element) → PrivateTable = λ o. record { slot = (made_table t ty).slot; kind = kind; size = ty.limits.min; maximum = (made_table t ty).maximum; elements = o } in
    let told : (if t.tells then Some es else None) ≡ Some es = ap (λ (b : Bool). if b then Some es else None) tells in
    (record { same = ap Made (sym told); told = ap is_some told }, tables_begin t types slots tells (omega (arith, long)))

-- two stacks that are zeroed
stacks_begin : (t : Terms) (slot other : ℕ) (s z : PrivateStack) → t.tells ≡ true → t.stacks.zeroing ≡ true → BeginsStack t.stacks t.tells slot s → BeginsStack t.stacks t.tells other z → AreStacksAlike s z
stacks_begin t slot other s z tells zeroing one two =
    let left : s.bytes ≡ Some (replicate t.stacks.size 0) = some_as s.bytes (replicate t.stacks.size 0) (one.told ∙ tells) (one.zeros zeroing) in
    let right : z.bytes ≡ Some (replicate t.stacks.size 0) = some_as z.bytes (replicate t.stacks.size 0) (two.told ∙ tells) (two.zeros zeroing) in
    record { size = one.size ∙ sym two.size; bytes = left ∙ sym right; told = one.told ∙ tells }
  where
    some_as : (o : Option (List ℕ)) (x : List ℕ) → is_some o ≡ true → IfSome o (λ y. y ≡ x) → o ≡ Some x
    some_as None x some is = absurd cc
    some_as (Some y) x some is = ap Some is

both_begin : (t : Terms) (wanted : Wanted) (grant other : PrivateGrant) → t.tells ≡ true → BothGive t wanted grant other → AreAlikeGrants grant other
both_begin t (an_instance number) grant other tells give =
    let rest = give.1.1 in
    let Left : PrivateGrant → Type 0 = λ g. AreAlikeGrants g other in
    let Right : PrivateGrant → Type 0 = λ g. AreAlikeGrants (instance_grant (begun_instance t (request_of t number) give.0 give.1.0)) g in
    subst Left (sym rest.1.1.1.0) (subst Right (sym rest.1.1.1.1) (memories_begin t (request_of t number).memories give.0 tells rest.0 rest.1.1.0, tables_begin t (request_of t number).tables give.1.0 tells rest.1.0))
both_begin t (a_component info) grant other tells give =
    let Left : PrivateGrant → Type 0 = λ g. AreAlikeGrants g other in
    let Right : PrivateGrant → Type 0 = λ g. AreAlikeGrants component_grant g in
    subst Left (sym give.0) (subst Right (sym give.1) tt)
both_begin t a_stack grant other tells give =
    let s : PrivateStack = give.1.1.0 in
    let z : PrivateStack = give.1.1.1.0 in
    let rest = give.1.1.1.1 in
    let Left : PrivateGrant → Type 0 = λ g. AreAlikeGrants g other in
    let Right : PrivateGrant → Type 0 = λ g. AreAlikeGrants (stack_grant s) g in
    subst Left (sym rest.1.1.0) (subst Right (sym rest.1.1.1) (stacks_begin t give.1.0 no_slot s z tells give.0 rest.0 rest.1.0))
both_begin t (a_heap limits) grant other tells give =
    let want : MemoryWant = heap_memory (heap_type limits) in
    let least : ℕ = minimum_byte_size (heap_type limits) in
    let none : None ≡ image_taken t.settings.page least None = sym (no_image_taken (least % t.settings.page == 0)) in
    let memories : AreAlike (begun_memory t give.1.0 want) (made_memory (heap_terms t) want) =
    record { ty = refl; size = refl; bytes = ap (λ (i : Option Image). if t.tells then Some (start i least) else None) none; told = begun_bytes t.tells (start None least) tells } in
    let Left : PrivateGrant → Type 0 = λ g. AreAlikeGrants g other in
    let Right : PrivateGrant → Type 0 = λ g. AreAlikeGrants (heap_grant give.0 (begun_memory t give.1.0 want)) g in
    subst Left (sym give.1.1.0) (subst Right (sym give.1.1.1) memories)
  where
    no_image_taken : (b : Bool) → ◌≡◌ {A = Option Image} (if b then None else None) None
    no_image_taken true = refl
    no_image_taken false = refl

pub allocators_agree : AllocatorsAgree
allocators_agree t wanted grant other calls ops pooled made tells give one two first second =
    ops_alike t.host ops (record { grant = grant; calls = calls }) (record { grant = other; calls = calls }) pooled made (record { grants = both_begin t wanted grant other tells give; calls = refl }) one two first second
