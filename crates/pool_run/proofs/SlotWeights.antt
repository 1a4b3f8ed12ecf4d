-- What the slots of a party's live memories weigh together, whatever each weighs: a request adds to that no more than its reply
-- grants, and no other command adds to it.
use Rattle.std.proofs.Common.{◌≡◌, ℕ, zero, suc, ◌+◌, ◌≤◌, List, [], ◌∷◌, length, replicate, Option, Some, None, refl, sym, ap, ◌∙◌, inl, inr, arith, option_map, slice_get, slice_set, slice_index_or, sum_by}
use Rattle.pool_run.proofs.Imports.{cases_lt, get_or_from_slice_get, slice_get_within, set_past, sum_by-cons, sum_by-set, MemoryWant, GrowthRule}
use Rattle.pool_run.specs.Acts.{MemoryOp, reads, writes, fills, grows, asks_size, Act, requests, on_memory, on_table, drops, purges, releases, act_of, Wanted, an_instance, a_component, a_stack, a_heap, heap_type}
use Rattle.pool_run.specs.Objects.{MovesNamed, object_at, with_object}
use Rattle.pool_run.specs.Private.{PrivateMemory, PrivateGrant, instance_grant, component_grant, memory_grant, table_grant, stack_grant, heap_grant, heap_over_grant, Grants, Terms, grant_at, memories_in_grant, memories_named_in, put_memory, put_table, put_stack, private_memories, private_stacks, GrowthEnd, as_it_was, could_not, has_grown, growth, size_wanted, left_of, private_written, MemoryMoves, MovesBytes, Drops, PrivateState, PrivateStep, Moves, Requests, Request, request_of, Instantiates, begun, begun_instance, begun_memory, heap_memory, table_at, with_table}
use Rattle.pool_run.specs.PrivateStacks.{WritesBytes, PrivateStack, StackMoves}
use Rattle.pool_run.specs.PrivateTables.{PrivateTable, StoredTable, TableMoves}
use Rattle.pool_run.specs.declared.command.Command.{Command}
use Rattle.pool_run.specs.declared.reply.Reply.{Reply}
use Rattle.pool_run.specs.declared.reply.Reply.TheVariants.{Instance, Component, Stack, Heap, Done, Trap, Refused}
use Rattle.pool_run.specs.declared.reply.Refusal.TheVariants.{Alloc}

-- A memory stays in its slot, whatever is done with it.
written_slot : (size at len : ℕ) (written old new : PrivateMemory) (reply : Reply) → written.slot ≡ old.slot → WritesBytes size at len written old new reply → new.slot ≡ old.slot
written_slot size at len written old new Done same is = ap (λ (m : PrivateMemory). m.slot) is.1 ∙ same
written_slot size at len written old new (Trap trap) same is = ap (λ (m : PrivateMemory). m.slot) is.2
written_slot size at len written old new _ same is = absurd is

left_slot : (end : GrowthEnd) (size : ℕ) (m : PrivateMemory) → (left_of end size m).slot ≡ m.slot
left_slot as_it_was size m = refl
left_slot could_not size m = refl
left_slot has_grown size m = refl

memory_slot_stays : (op : MemoryOp) (rule : GrowthRule) (m new : PrivateMemory) (reply : Reply) → MemoryMoves op rule m new reply → new.slot ≡ m.slot
memory_slot_stays (reads at len) rule m new reply is = ap (λ (x : PrivateMemory). x.slot) is.1
memory_slot_stays (writes at bytes) rule m new reply is = written_slot m.size at (length bytes) (private_written at bytes m) m new reply refl is
memory_slot_stays (fills at len byte) rule m new reply is = written_slot m.size at (length (replicate len byte)) (private_written at (replicate len byte) m) m new reply refl is
memory_slot_stays (grows pages) rule m new reply is =
    let its : PrivateMemory × Reply → ℕ = λ x. x.0.slot in
    ap its is.1 ∙ left_slot (growth rule is.0 pages m).0 (size_wanted pages m) m
memory_slot_stays asks_size rule m new reply is = ap (λ (x : PrivateMemory). x.slot) is.1

-- The slots of these memories weigh so much together.
abbrev pub memories_weigh : (ℕ → ℕ) → List PrivateMemory → ℕ
memories_weigh f ms = sum_by (λ m. f m.slot) ms

-- Those of a live grant.
abbrev pub grant_weighs : (ℕ → ℕ) → Option PrivateGrant → ℕ
grant_weighs f None = 0
grant_weighs f (Some g) = memories_weigh f (memories_in_grant g)

-- Those of all live grants.
abbrev pub live_weigh : (ℕ → ℕ) → Grants → ℕ
live_weigh f grants = sum_by (grant_weighs f) grants

-- Those that a reply grants.
abbrev pub reply_weighs : (ℕ → ℕ) → Reply → ℕ
reply_weighs f (Instance memories tables) = sum_by f memories
reply_weighs f (Heap heap memory) = f memory
reply_weighs f _ = 0

-- Those that the reply to a request grants.
abbrev pub act_weighs : (ℕ → ℕ) → Act → Reply → ℕ
act_weighs f (requests wanted) reply = reply_weighs f reply
act_weighs f _ reply = 0

module _ (f : ℕ → ℕ) where
  -- A grant comes into a place.
  set_weighs : (grants : Grants) (n : ℕ) (x : Option PrivateGrant) → live_weigh f (slice_set grants n x) ≤ live_weigh f grants + grant_weighs f x
  set_weighs grants n x =
      elim (cases_lt n (length grants)) [
        | inl inside ↦ omega (arith, sum_by-set (grant_weighs f) grants n x None inside)
        | inr past ↦ omega (arith, ap (live_weigh f) (set_past grants n x past))
      ]

  -- A grant that weighs no more comes into the place of another.
  stays_weighs : (grants : Grants) (n : ℕ) (x : Option PrivateGrant) → grant_weighs f x ≡ grant_weighs f (slice_index_or grants n None) → live_weigh f (slice_set grants n x) ≤ live_weigh f grants
  stays_weighs grants n x same =
      elim (cases_lt n (length grants)) [
        | inl inside ↦ omega (arith, same, sum_by-set (grant_weighs f) grants n x None inside)
        | inr past ↦ omega (arith, ap (live_weigh f) (set_past grants n x past))
      ]

  -- An object of a grant is replaced.
  put_list : (ms : List PrivateMemory) (k : ℕ) (old new : PrivateMemory) → slice_get ms k ≡ Some old → new.slot ≡ old.slot → memories_weigh f (slice_set ms k new) ≡ memories_weigh f ms
  put_list ms k old new there same =
      let here : f (slice_index_or ms k old).slot ≡ f old.slot = ap (λ (m : PrivateMemory). f m.slot) (get_or_from_slice_get ms k old old there) in
      let now : f new.slot ≡ f old.slot = ap f same in
      omega (arith, here, now, sum_by-set (λ (m : PrivateMemory). f m.slot) ms k new old (slice_get_within ms k old there))

  put_heap : (slot k : ℕ) (m old new : PrivateMemory) → slice_get (m ∷ []) k ≡ Some old → new.slot ≡ old.slot → memories_weigh f (memories_in_grant (put_memory k new (heap_grant slot m))) ≡ memories_weigh f (m ∷ [])
  put_heap slot zero m old new there same =
      let its : m ≡ old = cc in
      let now : f new.slot ≡ f m.slot = ap f (same ∙ ap (λ (x : PrivateMemory). x.slot) (sym its)) in
      omega (arith, now, sum_by-cons (λ (x : PrivateMemory). f x.slot) new [], sum_by-cons (λ (x : PrivateMemory). f x.slot) m [])
  put_heap slot (suc k) m old new there same = absurd cc

  put_weighs : (g : PrivateGrant) (k : ℕ) (old new : PrivateMemory) → slice_get (memories_named_in g) k ≡ Some old → new.slot ≡ old.slot → memories_weigh f (memories_in_grant (put_memory k new g)) ≡ memories_weigh f (memories_in_grant g)
  put_weighs (instance_grant g) k old new there same = put_list g.memories k old new there same
  put_weighs (heap_grant slot m) k old new there same = put_heap slot k m old new there same
  put_weighs (heap_over_grant slot) k old new there same = absurd cc
  put_weighs component_grant k old new there same = absurd cc
  put_weighs (memory_grant m) k old new there same = absurd cc
  put_weighs (table_grant x) k old new there same = absurd cc
  put_weighs (stack_grant s) k old new there same = absurd cc

  stack_weighs : (g : PrivateGrant) (k : ℕ) (s : PrivateStack) → memories_weigh f (memories_in_grant (put_stack k s g)) ≡ memories_weigh f (memories_in_grant g)
  stack_weighs (instance_grant g) k s = refl
  stack_weighs (heap_grant slot m) k s = refl
  stack_weighs (heap_over_grant slot) k s = refl
  stack_weighs component_grant k s = refl
  stack_weighs (memory_grant m) k s = refl
  stack_weighs (table_grant x) k s = refl
  stack_weighs (stack_grant old) k s = refl

  table_weighs : (g : PrivateGrant) (k : ℕ) (t : PrivateTable) → memories_weigh f (memories_in_grant (put_table k t g)) ≡ memories_weigh f (memories_in_grant g)
  table_weighs (instance_grant g) k t = refl
  table_weighs (heap_grant slot m) k t = refl
  table_weighs (heap_over_grant slot) k t = refl
  table_weighs component_grant k t = refl
  table_weighs (memory_grant m) k t = refl
  table_weighs (table_grant x) k t = refl
  table_weighs (stack_grant s) k t = refl

  -- The same of what is in a place.
  memory_at : (x : Option PrivateGrant) (k : ℕ) (old new : PrivateMemory) → object_at private_memories 0 k (x ∷ []) ≡ Some old → new.slot ≡ old.slot → grant_weighs f (option_map (put_memory k new) x) ≡ grant_weighs f x
  memory_at None k old new there same = absurd cc
  memory_at (Some g) k old new there same = put_weighs g k old new there same

  stack_at : (x : Option PrivateGrant) (k : ℕ) (s : PrivateStack) → grant_weighs f (option_map (put_stack k s) x) ≡ grant_weighs f x
  stack_at None k s = refl
  stack_at (Some g) k s = stack_weighs g k s

  table_in : (x : Option PrivateGrant) (k : ℕ) (t : PrivateTable) → grant_weighs f (option_map (put_table k t) x) ≡ grant_weighs f x
  table_in None k t = refl
  table_in (Some g) k t = table_weighs g k t

  -- Commands on memories, on stacks and on tables leave what it is.
  memory_weighs : (op : MemoryOp) (rule : GrowthRule) (of k : ℕ) (grants new : Grants) (reply : Reply) (o : Option PrivateMemory) → object_at private_memories of k grants ≡ o → MovesNamed (MemoryMoves op rule) o (with_object private_memories of k) grants reply new → live_weigh f new ≤ live_weigh f grants
  memory_weighs op rule of k grants new reply None there moves = omega (arith, ap (live_weigh f) moves.1)
  memory_weighs op rule of k grants new reply (Some m) there moves =
      let x : Option PrivateGrant = slice_index_or grants of None in
      let same : moves.0.slot ≡ m.slot = memory_slot_stays op rule m moves.0 reply moves.1 in
      omega (arith, ap (live_weigh f) moves.2, stays_weighs grants of (option_map (put_memory k moves.0) x) (memory_at x k m moves.0 there same))

  stack_moved : (op : MemoryOp) (of k : ℕ) (grants new : Grants) (reply : Reply) (o : Option PrivateStack) → MovesNamed (StackMoves op) o (with_object private_stacks of k) grants reply new → live_weigh f new ≤ live_weigh f grants
  stack_moved op of k grants new reply None moves = omega (arith, ap (live_weigh f) moves.1)
  stack_moved op of k grants new reply (Some s) moves =
      let x : Option PrivateGrant = slice_index_or grants of None in
      omega (arith, ap (live_weigh f) moves.2, stays_weighs grants of (option_map (put_stack k moves.0) x) (stack_at x k moves.0))

  bytes_weigh : (op : MemoryOp) (rule : GrowthRule) (g : Option PrivateGrant) (of k : ℕ) (grants new : Grants) (reply : Reply) → MovesBytes op rule g of k grants reply new → live_weigh f new ≤ live_weigh f grants
  bytes_weigh op rule (Some (stack_grant s)) of k grants new reply moves = stack_moved op of k grants new reply (object_at private_stacks of k grants) moves
  bytes_weigh op rule (Some (instance_grant g)) of k grants new reply moves = memory_weighs op rule of k grants new reply (object_at private_memories of k grants) refl moves
  bytes_weigh op rule (Some component_grant) of k grants new reply moves = memory_weighs op rule of k grants new reply (object_at private_memories of k grants) refl moves
  bytes_weigh op rule (Some (memory_grant m)) of k grants new reply moves = memory_weighs op rule of k grants new reply (object_at private_memories of k grants) refl moves
  bytes_weigh op rule (Some (table_grant t)) of k grants new reply moves = memory_weighs op rule of k grants new reply (object_at private_memories of k grants) refl moves
  bytes_weigh op rule (Some (heap_grant slot m)) of k grants new reply moves = memory_weighs op rule of k grants new reply (object_at private_memories of k grants) refl moves
  bytes_weigh op rule (Some (heap_over_grant slot)) of k grants new reply moves = memory_weighs op rule of k grants new reply (object_at private_memories of k grants) refl moves
  bytes_weigh op rule None of k grants new reply moves = memory_weighs op rule of k grants new reply (object_at private_memories of k grants) refl moves

  tables_weigh : (Move : StoredTable → StoredTable → Reply → Type 0) (of k : ℕ) (s new : PrivateState) (reply : Reply) (o : Option StoredTable) → MovesNamed Move o (with_table of k) s reply new → live_weigh f new.grants ≤ live_weigh f s.grants
  tables_weigh Move of k s new reply None moves = omega (arith, ap (λ (x : PrivateState). live_weigh f x.grants) moves.1)
  tables_weigh Move of k s new reply (Some t) moves =
      let x : Option PrivateGrant = slice_index_or s.grants of None in
      omega (arith, ap (λ (y : PrivateState). live_weigh f y.grants) moves.2, stays_weighs s.grants of (option_map (put_table k moves.0.table) x) (table_in x k moves.0.table))

  -- Requests add what they are granted.
  begun_weighs : (t : Terms) (wants : List MemoryWant) (slots : List ℕ) → memories_weigh f (begun (begun_memory t) wants slots) ≤ sum_by f slots
  begun_weighs t [] slots = omega arith
  begun_weighs t (want ∷ wants) [] = omega arith
  begun_weighs t (want ∷ wants) (slot ∷ slots) =
      omega (arith, begun_weighs t wants slots, sum_by-cons f slot slots, sum_by-cons (λ (m : PrivateMemory). f m.slot) (begun_memory t slot want) (begun (begun_memory t) wants slots))

  instance_weighs : (t : Terms) (n : ℕ) (request : Request) (grants new : Grants) (reply : Reply) → Instantiates t n request grants reply new → live_weigh f new ≤ live_weigh f grants + reply_weighs f reply
  instance_weighs t n request grants new (Instance memories tables) is = omega (arith, ap (live_weigh f) is.1, set_weighs grants n (Some (instance_grant (begun_instance t request memories tables))), begun_weighs t request.memories memories)
  instance_weighs t n request grants new (Refused refusal) is = omega (arith, ap (live_weigh f) is.1)
  instance_weighs t n request grants new _ is = absurd is

  wanted_weighs : (t : Terms) (n : ℕ) (wanted : Wanted) (s new : PrivateState) (reply : Reply) → Requests t n wanted s reply new → live_weigh f new.grants ≤ live_weigh f s.grants + reply_weighs f reply
  wanted_weighs t n (an_instance number) s new reply is = omega (arith, ap (λ (x : PrivateState). live_weigh f x.grants) is.2, instance_weighs t n (request_of t number) s.grants is.0 reply is.1)
  wanted_weighs t n (a_component info) s new Component is = omega (arith, ap (λ (x : PrivateState). live_weigh f x.grants) is.2, ap (live_weigh f) is.1.1, set_weighs s.grants n (Some component_grant))
  wanted_weighs t n (a_component info) s new (Refused (Alloc e)) is = omega (arith, ap (λ (x : PrivateState). live_weigh f x.grants) is.2, ap (live_weigh f) is.1.1)
  wanted_weighs t n (a_component info) s new _ is = absurd is.1
  wanted_weighs t n a_stack s new (Stack slot) is = omega (arith, ap (λ (x : PrivateState). live_weigh f x.grants) is.2, ap (live_weigh f) is.1.3, set_weighs s.grants n (Some (stack_grant is.1.1)))
  wanted_weighs t n a_stack s new (Refused (Alloc e)) is = omega (arith, ap (λ (x : PrivateState). live_weigh f x.grants) is.2, ap (live_weigh f) is.1.1)
  wanted_weighs t n a_stack s new _ is = absurd is.1
  wanted_weighs t n (a_heap limits) s new (Heap slot memory) is =
      omega (
        arith,
        ap (λ (x : PrivateState). live_weigh f x.grants) is.3,
        set_weighs s.grants n (Some (heap_grant slot (begun_memory t memory (heap_memory (heap_type limits))))),
        sum_by-cons (λ (m : PrivateMemory). f m.slot) (begun_memory t memory (heap_memory (heap_type limits))) [],
      )
  wanted_weighs t n (a_heap limits) s new (Refused (Alloc e)) is = omega (arith, ap (λ (x : PrivateState). live_weigh f x.grants) is.2)
  wanted_weighs t n (a_heap limits) s new _ is = absurd is

  drops_weigh : (o : Option PrivateGrant) (of : ℕ) (grants new : Grants) (reply : Reply) → Drops o grants of reply new → live_weigh f new ≤ live_weigh f grants
  drops_weigh None of grants new reply is = omega (arith, ap (live_weigh f) is.1)
  drops_weigh (Some g) of grants new reply is = omega (arith, ap (live_weigh f) is.1, set_weighs grants of None)

  moves_weigh : (t : Terms) (n : ℕ) (act : Act) (s new : PrivateState) (reply : Reply) → Moves t n s act reply new → live_weigh f new.grants ≤ live_weigh f s.grants + act_weighs f act reply
  moves_weigh t n (requests wanted) s new reply is = wanted_weighs t n wanted s new reply is
  moves_weigh t n (on_memory of k op) s new reply is = omega (arith, ap (λ (x : PrivateState). live_weigh f x.grants) is.2, bytes_weigh op t.host.rule (grant_at s.grants of) of k s.grants is.0 reply is.1)
  moves_weigh t n (on_table of k op) s new reply is = omega (arith, tables_weigh (TableMoves op t.host) of k s new reply (table_at of k s) is)
  moves_weigh t n (drops of) s new reply is = omega (arith, ap (λ (x : PrivateState). live_weigh f x.grants) is.2, drops_weigh (grant_at s.grants of) of s.grants is.0 reply is.1)
  moves_weigh t n (purges number) s new reply is = omega (arith, ap (λ (x : PrivateState). live_weigh f x.grants) is.1)
  moves_weigh t n releases s new reply is = omega (arith, ap (λ (x : PrivateState). live_weigh f x.grants) is.1)

  -- So a step adds no more than its reply grants.
  pub step_weighs : (t : Terms) (n : ℕ) (s new : PrivateState) (command : Command) (reply : Reply) → PrivateStep t n s command reply new → live_weigh f new.grants ≤ live_weigh f s.grants + act_weighs f (act_of command) reply
  step_weighs t n s new command reply is = moves_weigh t n (act_of command) s new reply is

  -- Before its first command a party has nothing.
  pub none_weighs : (n : ℕ) → live_weigh f (replicate n None) ≡ 0
  none_weighs zero = refl
  none_weighs (suc n) = omega (arith, none_weighs n, sum_by-cons (grant_weighs f) None (replicate n None))
