-- What an operation makes of a memory of a live grant: the lease stays in its slot, and the party sees the operation on
-- its own memory.
use Rattle.std.proofs.Common.{◌≡◌, ℕ, Bool, true, false, List, Option, Some, None, refl, sym, ap, subst, inl, inr, ◌==◌, if◌then◌else◌, IfSome, map, replicate}
use Rattle.pool_run.proofs.Imports.{map-set, MakerTold, GrowthRule, MemoryState, Lease, slot_taken, IsLeaseOf, Grant, instance, component, one_memory, one_table, stack, heap, heap_over, Plan, PlainHeap, Settings}
use Rattle.pool_run.specs.Acts.{MemoryOp, reads, writes, fills, grows, asks_size}
use Rattle.pool_run.specs.Objects.{MovesNamed}
use Rattle.pool_run.specs.Private.{heap_grant, PrivateMemory, instance_grant, Writes, MemoryMoves, private_memories, growth}
use Rattle.pool_run.specs.Rooms.{World, MayFault, TellsGrowth, TellsMove}
use Rattle.pool_run.specs.Turns.{seen_as, private_memory, private_table, private_grant, MemoryWrites, MemoryGrows, MovesLease, LeaseMoves, memory_leases}
use Rattle.pool_run.specs.declared.reply.Reply.{Reply}
use Rattle.pool_run.proofs.Moves.{IsSeen, GrowsSeen, lease_still, writes_stay, writes_seen, grows_stay, grows_seen}
use Rattle.pool_run.proofs.Named.{AreSeen}
use Rattle.pool_run.proofs.SlotKinds.{memories_named_of}

-- The lease stays in its slot,
pub op_slot : (op : MemoryOp) (rule : GrowthRule) (l new : Lease) (reply : Reply) → LeaseMoves op rule l new reply → slot_taken new ≡ slot_taken l
op_slot (reads i len) rule l new reply is = ap slot_taken is.1
op_slot (writes i bytes) rule l new reply is = ap slot_taken is.same
op_slot (fills i len byte) rule l new reply is = ap slot_taken is.same
op_slot (grows pages) rule l new reply is = ap slot_taken is.same
op_slot asks_size rule l new reply is = ap slot_taken is.1

-- and one of the pool.
pub op_keeps : (maker : MakerTold) (s : Settings) (plan : Plan) (op : MemoryOp) (rule : GrowthRule) (l new : Lease) (reply : Reply) → IsLeaseOf maker s plan l → LeaseMoves op rule l new reply → IsLeaseOf maker s plan new
op_keeps maker s plan (reads i len) rule l new reply of is = subst (IsLeaseOf maker s plan) (sym is.1) of
op_keeps maker s plan (writes i bytes) rule l new reply of is = lease_still maker s plan (MemoryWrites i bytes) l new reply (writes_stay maker s plan i bytes) of is
op_keeps maker s plan (fills i len byte) rule l new reply of is = lease_still maker s plan (MemoryWrites i (replicate len byte)) l new reply (writes_stay maker s plan i (replicate len byte)) of is
op_keeps maker s plan (grows pages) rule l new reply of is = lease_still maker s plan (MemoryGrows rule pages) l new reply (grows_stay maker s plan rule pages) of is
op_keeps maker s plan asks_size rule l new reply of is = subst (IsLeaseOf maker s plan) (sym is.1) of

move_seen : (maker : MakerTold) (s : Settings) (plan : Plan) (Moves : MemoryState → MemoryState → Reply → Type 0) (Sees : PrivateMemory → PrivateMemory → Reply → Type 0) (l new : Lease) (reply : Reply) → IsSeen maker s plan Moves Sees → IsLeaseOf maker s plan l → MovesLease Moves l new reply → Sees (private_memory l) (private_memory new) reply
move_seen maker s plan Moves Sees l new reply seen of is =
    let At : ℕ → Type 0 = λ i. Sees (private_memory l) (seen_as i new.memory) reply in
    subst At (sym (ap (λ (x : Lease). x.index) is.same)) (seen l new.memory reply of is.move)

-- a growth tells so of the pool
grown_tells : (w : World) (pages : ℕ) (m : PrivateMemory) (reply : Reply) (fault : Bool) → (fault ≡ true → MayFault w m.slot) → reply ≡ (growth w.terms.host.rule fault pages m).1 → TellsGrowth w pages m reply
grown_tells w pages m reply true may is = inr (may refl)
grown_tells w pages m reply false may is = inl is

-- what the party sees of the operation, and what that tells of the pool
abbrev pub SeesMove : World → MemoryOp → PrivateMemory → PrivateMemory → Reply → Type 0
SeesMove w op m new reply = MemoryMoves op w.terms.host.rule m new reply × TellsMove w op m reply

pub op_seen : (w : World) (s : Settings) (plan : Plan) (rule : GrowthRule) (op : MemoryOp) (l new : Lease) (reply : Reply) → rule ≡ w.terms.host.rule → IsLeaseOf w.maker s plan l → LeaseMoves op rule l new reply → SeesMove w op (private_memory l) (private_memory new) reply
op_seen w s plan rule (reads i len) l new reply ruled of is = ((is.0, ap private_memory is.1), tt)
op_seen w s plan rule (writes i bytes) l new reply ruled of is = (move_seen w.maker s plan (MemoryWrites i bytes) (Writes i bytes) l new reply (writes_seen w.maker s plan i bytes) of is, tt)
op_seen w s plan rule (fills i len byte) l new reply ruled of is = (move_seen w.maker s plan (MemoryWrites i (replicate len byte)) (Writes i (replicate len byte)) l new reply (writes_seen w.maker s plan i (replicate len byte)) of is, tt)
op_seen w s plan rule (grows pages) l new reply ruled of is =
    let grown : GrowsSeen w.maker w.terms.host.rule pages (private_memory l) (private_memory new) reply = move_seen w.maker s plan (MemoryGrows rule pages) (GrowsSeen w.maker w.terms.host.rule pages) l new reply (grows_seen w.maker s plan rule w.terms.host.rule pages ruled) of is in
    ((grown.0, grown.1), grown_tells w pages (private_memory l) reply grown.0 grown.2 (ap (λ (p : PrivateMemory × Reply). p.1) grown.1))
op_seen w s plan rule asks_size l new reply ruled of is = ((is.0, ap private_memory is.1), tt)

-- the two halves of that, of what is named
pub named_moves : {S : Type 0} (w : World) (op : MemoryOp) (o : Option PrivateMemory) (put : PrivateMemory → S → S) (old new : S) (reply : Reply) → MovesNamed (SeesMove w op) o put old reply new → MovesNamed (MemoryMoves op w.terms.host.rule) o put old reply new
named_moves w op None put old new reply is = is
named_moves w op (Some m) put old new reply is = (is.0, is.1.0, is.2)

pub named_tells : {S : Type 0} (w : World) (op : MemoryOp) (o : Option PrivateMemory) (put : PrivateMemory → S → S) (old new : S) (reply : Reply) → MovesNamed (SeesMove w op) o put old reply new → IfSome o (λ m. TellsMove w op m reply)
named_tells w op None put old new reply is = tt
named_tells w op (Some m) put old new reply is = is.1.1

either_seen : (b : Bool) (x y : Lease) → private_memory (if b then x else y) ≡ (if b then private_memory x else private_memory y)
either_seen true x y = refl
either_seen false x y = refl

-- The party sees its memories by their leases.
changed_memory : {P : Type 0} (k : ℕ) (l : Lease) (g : Grant P PlainHeap) → private_grant (memory_leases.put_in k l g) ≡ private_memories.put_in k (private_memory l) (private_grant g)
changed_memory k l (instance lease) = ap (λ (ms : List PrivateMemory). instance_grant (record { memories = ms; tables = map private_table lease.tables.items })) (map-set private_memory lease.memories.items k l)
changed_memory k l component = refl
changed_memory k l (one_memory lease) = refl
changed_memory k l (one_table lease) = refl
changed_memory k l (stack lease) = refl
changed_memory k l (heap lease memory) = ap (heap_grant lease.index) (either_seen (k == 0) l memory)
changed_memory k l (heap_over lease) = refl

pub memories_seen : (P : Type 0) → AreSeen (memory_leases {P = P}) private_memories private_grant private_memory
memories_seen P = record { same = memories_named_of; changed = changed_memory }
