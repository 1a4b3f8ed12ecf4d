-- A command on an object of a live grant leaves the slots that the grant's reply names; and one reply more leaves those before it.
use Rattle.std.proofs.Common.{◌≡◌, ℕ, zero, suc, ◌+◌, ◌<◌, ◌++◌, Bool, true, false, List, [], ◌∷◌, length, map, replicate, Option, Some, None, refl, sym, ap, ◌∙◌, subst, inl, inr, arith, IfSome, slice_get, slice_set, slice_index_or, nat_le, if◌then◌else◌, ◌==◌}
use Rattle.std.proofs.lemmas.Bool.{cases_eq}
use Rattle.std.proofs.lemmas.List.{get_or-set_other, get_or-set_same}
use Rattle.pool_limits.specs.Growth.{GrowthRule}
use Rattle.pool_slots.specs.PlainSlots.{StackState}
use Rattle.pool_slots.specs.declared.listed_heaps.PlainHeap.{PlainHeap}
use Rattle.pool_alloc.specs.Calls.{IfGranted}
use Rattle.pool_alloc.specs.Leases.{Lease}
use Rattle.pool_alloc.specs.StackLeases.{LeasedStack}
use Rattle.pool_alloc.specs.TableLeases.{LeasedTable}
use Rattle.pool_alloc.specs.declared.frame.Grant.{Grant}
use Rattle.pool_alloc.specs.declared.frame.Grant.TheVariants.{Instance, Component, Memory, Table, Stack, Heap, HeapOver}
use Rattle.pool_alloc.specs.declared.frame.Outcome.{Outcome}
use Rattle.pool_alloc.specs.declared.frame.Outcome.TheVariants as answer
use Rattle.pool_alloc.specs.declared.pool_core.PoolCore.{PoolCore}
use Rattle.pool_table.specs.declared.gc_store.ListedStore.{ListedStore}
use Rattle.pool_run.specs.Acts.{MemoryOp, TableOp, reads, writes, fills, grows, asks_size}
use Rattle.pool_run.specs.Objects.{MovesObject}
use Rattle.pool_run.specs.PartyRules.{rule_of}
use Rattle.pool_run.specs.Turns.{LeaseMoves, MovesLeasedBytes, MovesTable, StackLeaseMoves, StackStateWrites, answered, granted_reply, leases_named, memory_leases, stack_leases, stack_of, table_leases, tables_named, with_lease, with_reply, with_stack_lease, with_table_lease}
use Rattle.pool_run.specs.declared.reply.Reply.{Reply}
use Rattle.pool_run.specs.declared.reply.Reply.TheVariants as reply
use Rattle.pool_run.specs.declared.running_party.RunningParty.{RunningParty}
use Rattle.pool_run.proofs.Named.{moved}
use Rattle.pool_run.proofs.Parties.{grant_inside}
use Rattle.pool_threads.specs.Working.{NamesLive}

-- an element that is replaced by one with the same mark
same_marks : {X : Type 0} (mark : X → ℕ) (xs : List X) (k : ℕ) (old new : X) → slice_get xs k ≡ Some old → mark new ≡ mark old → map mark (slice_set xs k new) ≡ map mark xs
same_marks mark [] k old new there same = refl
same_marks mark (x ∷ xs) zero old new there same = let is : x ≡ old = cc in ap (λ (n : ℕ). n ∷ map mark xs) (same ∙ ap mark (sym is))
same_marks mark (x ∷ xs) (suc k) old new there same = ap (λ (ns : List ℕ). mark x ∷ ns) (same_marks mark xs k old new there same)

-- what is there stays there
kept_there : (before : List Reply) (more : List Reply) (i : ℕ) (r : Reply) → slice_get before i ≡ Some r → slice_get (before ++ more) i ≡ Some r
kept_there [] more i r there = absurd cc
kept_there (b ∷ bs) more zero r there = there
kept_there (b ∷ bs) more (suc i) r there = kept_there bs more i r there

last_there : (before : List Reply) (i : ℕ) (r : Reply) → length before ≡ i → slice_get (before ++ r ∷ []) i ≡ Some r
last_there [] zero r is = refl
last_there [] (suc i) r is = absurd (omega (arith, is))
last_there (b ∷ bs) zero r is = absurd (omega (arith, is))
last_there (b ∷ bs) (suc i) r is = last_there bs i r (omega (arith, is))

if_some : {X : Type 0} (Q R : X → Type 0) (o : Option X) → ((x : X) → Q x → R x) → IfSome o Q → IfSome o R
if_some Q R None all is = tt
if_some Q R (Some x) all is = all x is

-- an operation leaves a lease's slot
lease_slot : (op : MemoryOp) (rule : GrowthRule) (l new : Lease) (r : Reply) → LeaseMoves op rule l new r → new.index ≡ l.index
lease_slot (reads at len) rule l new r is = ap (λ (x : Lease). x.index) is.1
lease_slot (writes at bytes) rule l new r is = ap (λ (x : Lease). x.index) is.same
lease_slot (fills at len byte) rule l new r is = ap (λ (x : Lease). x.index) is.same
lease_slot (grows pages) rule l new r is = ap (λ (x : Lease). x.index) is.same
lease_slot asks_size rule l new r is = ap (λ (x : Lease). x.index) is.1

either_slot : {X : Type 0} (mark : X → ℕ) (b : Bool) (x y : X) (n : ℕ) → mark x ≡ n → mark y ≡ n → mark (if b then x else y) ≡ n
either_slot mark true x y n one other = one
either_slot mark false x y n one other = other

stack_written : (at : ℕ) (bytes : List ℕ) (l new : LeasedStack) (r : Reply) → StackStateWrites at bytes l.stack new.stack r → new.stack.index ≡ l.stack.index
stack_written at bytes l new r is = ap (λ (x : StackState × Reply). x.0.index) is ∙ either_slot (λ (x : StackState × Reply). x.0.index) (nat_le (at + length bytes) l.stack.slot.static_size) _ _ l.stack.index refl refl

stack_slot : (op : MemoryOp) (l new : LeasedStack) (r : Reply) → StackLeaseMoves op l new r → new.stack.index ≡ l.stack.index
stack_slot (reads at len) l new r is = ap (λ (s : StackState). s.index) is.0.1
stack_slot (writes at bytes) l new r is = stack_written at bytes l new r is.0
stack_slot (fills at len byte) l new r is = stack_written at (replicate len byte) l new r is.0
stack_slot (grows pages) l new r is = ap (λ (s : StackState). s.index) is.0.1
stack_slot asks_size l new r is = ap (λ (s : StackState). s.index) is.0.1

heap_reply : (k heap : ℕ) (memory old new : Lease) → slice_get (memory ∷ []) k ≡ Some old → new.index ≡ old.index → reply.Heap heap (if k == 0 then new else memory).index ≡ reply.Heap heap memory.index
heap_reply zero heap memory old new there same = ap (reply.Heap heap) (same ∙ (let is : memory ≡ old = cc in ap (λ (x : Lease). x.index) (sym is)))
heap_reply (suc k) heap memory old new there same = absurd cc

module _ {P : Type 0} where
  lease_reply : (k : ℕ) (grant : Grant P PlainHeap) (old new : Lease) → slice_get (leases_named grant) k ≡ Some old → new.index ≡ old.index → granted_reply (with_lease k new grant) ≡ granted_reply grant
  lease_reply k (Instance lease) old new there same = ap (λ (ns : List ℕ). reply.Instance ns (map (λ (l : LeasedTable). l.index) lease.tables.items)) (same_marks (λ (l : Lease). l.index) lease.memories.items k old new there same)
  lease_reply k Component old new there same = refl
  lease_reply k (Memory lease) old new there same = refl
  lease_reply k (Table lease) old new there same = refl
  lease_reply k (Stack lease) old new there same = refl
  lease_reply k (Heap lease memory) old new there same = heap_reply k lease.index memory old new there same
  lease_reply k (HeapOver lease) old new there same = refl

  table_reply : (k : ℕ) (grant : Grant P PlainHeap) (old new : LeasedTable) → slice_get (tables_named grant) k ≡ Some old → new.index ≡ old.index → granted_reply (with_table_lease k new grant) ≡ granted_reply grant
  table_reply k (Instance lease) old new there same = ap (λ (ns : List ℕ). reply.Instance (map (λ (l : Lease). l.index) lease.memories.items) ns) (same_marks (λ (l : LeasedTable). l.index) lease.tables.items k old new there same)
  table_reply k Component old new there same = refl
  table_reply k (Memory lease) old new there same = refl
  table_reply k (Table lease) old new there same = refl
  table_reply k (Stack lease) old new there same = refl
  table_reply k (Heap lease memory) old new there same = refl
  table_reply k (HeapOver lease) old new there same = refl

  stack_reply : (k : ℕ) (grant : Grant P PlainHeap) (old new : LeasedStack) → slice_get (stack_of grant) k ≡ Some old → new.stack.index ≡ old.stack.index → granted_reply (with_stack_lease k new grant) ≡ granted_reply grant
  stack_reply k (Instance lease) old new there same = refl
  stack_reply k Component old new there same = refl
  stack_reply k (Memory lease) old new there same = refl
  stack_reply k (Table lease) old new there same = refl
  stack_reply zero (Stack lease) old new there same = ap reply.Stack (same ∙ (let is : lease ≡ old = cc in ap (λ (x : LeasedStack). x.stack.index) (sym is)))
  stack_reply (suc k) (Stack lease) old new there same = absurd cc
  stack_reply k (Heap lease memory) old new there same = refl
  stack_reply k (HeapOver lease) old new there same = refl

  -- the reply to command i is that of its live grant
  abbrev Names : List Reply → ℕ → Grant P PlainHeap → Type 0
  Names replies i g = slice_get replies i ≡ Some (granted_reply g)

  -- Where a place has another grant, the reply to it names that.
  pub put_named : (replies : List Reply) (live : List (Option (Grant P PlainHeap))) (of : ℕ) (x : Option (Grant P PlainHeap)) → of < length live → IfSome x (Names replies of) → NamesLive replies live → NamesLive replies (slice_set live of x)
  put_named replies live of x inside names all i =
      elim (cases_eq i of) [
        | inl here ↦ subst (λ (n : ℕ). IfSome (slice_index_or (slice_set live of x) n None) (Names replies n)) (sym here) (subst (λ (o : Option (Grant P PlainHeap)). IfSome o (Names replies of)) (sym (get_or-set_same live of x None inside)) names)
        | inr other ↦ subst (λ (o : Option (Grant P PlainHeap)). IfSome o (Names replies i)) (sym (get_or-set_other live of i x None other)) (all i)
      ]

  -- So does it where the grant is gone,
  pub gone_named : (replies : List Reply) (live : List (Option (Grant P PlainHeap))) (of : ℕ) (grant : Grant P PlainHeap) → slice_index_or live of None ≡ Some grant → NamesLive replies live → NamesLive replies (slice_set live of None)
  gone_named replies live of grant has all = put_named replies live of None (grant_inside live of grant has) tt all

  -- or is as its reply says still.
  changed_named : (replies : List Reply) (live : List (Option (Grant P PlainHeap))) (of : ℕ) (grant new : Grant P PlainHeap) → slice_index_or live of None ≡ Some grant → granted_reply new ≡ granted_reply grant → NamesLive replies live → NamesLive replies (slice_set live of (Some new))
  changed_named replies live of grant new has same all =
      let was : Names replies of grant = subst (λ (o : Option (Grant P PlainHeap)). IfSome o (Names replies of)) has (all of) in
      put_named replies live of (Some new) (grant_inside live of grant has) (was ∙ ap (λ (r : Reply). Some r) (sym same)) all

  -- One reply more.
  pub more_named : (replies : List Reply) (r : Reply) (live : List (Option (Grant P PlainHeap))) → NamesLive replies live → NamesLive (replies ++ r ∷ []) live
  more_named replies r live all i = if_some (Names replies i) (Names (replies ++ r ∷ []) i) (slice_index_or live i None) (λ g there. kept_there replies (r ∷ []) i (granted_reply g) there) (all i)

  -- A call's answer: what is granted has the reply to its command.
  pub answered_named : (o : Option (Outcome P PlainHeap)) (c : PoolCore P PlainHeap) (p : RunningParty P) (replies : List Reply) → length replies ≡ p.done → IfGranted (λ g. p.done < length p.live) o → NamesLive replies p.live → NamesLive (with_reply (answered o c p).reply replies) (answered o c p).party.live
  answered_named None c p replies count inside all = all
  answered_named (Some answer.Key) c p replies count inside all = all
  answered_named (Some (answer.Granted grant)) c p replies count inside all =
      put_named (replies ++ granted_reply grant ∷ []) p.live p.done (Some grant) inside (last_there replies p.done (granted_reply grant) count) (more_named replies (granted_reply grant) p.live all)
  answered_named (Some answer.Returned) c p replies count inside all = more_named replies reply.Returned p.live all
  answered_named (Some (answer.Purged n)) c p replies count inside all = more_named replies (reply.Purged n) p.live all
  answered_named (Some (answer.Released n)) c p replies count inside all = more_named replies (reply.Released n) p.live all
  answered_named (Some (answer.Refused e)) c p replies count inside all = more_named replies _ p.live all

  -- Where names that were right before are right afterwards.
  abbrev pub KeepsNames : List (Option (Grant P PlainHeap)) → List (Option (Grant P PlainHeap)) → Type 0
  KeepsNames live new = (replies : List Reply) → NamesLive replies live → NamesLive replies new

  same_names : (live new : List (Option (Grant P PlainHeap))) → new ≡ live → KeepsNames live new
  same_names live new same = λ replies all. subst (NamesLive replies) (sym same) all

  module _ (p : RunningParty P) where
    memory_named : (op : MemoryOp) (of k : ℕ) (live : List (Option (Grant P PlainHeap))) (r : Reply) → MovesObject memory_leases (LeaseMoves op (rule_of p.limits)) of k p.live r live → KeepsNames p.live live
    memory_named op of k live r is =
        elim (moved memory_leases (LeaseMoves op (rule_of p.limits)) of k p.live live r is) [
          | inl none ↦ same_names p.live live none.same
          | inr m ↦ λ replies all. subst (NamesLive replies) (sym m.is) (changed_named replies p.live of m.grant (with_lease k m.changed m.grant) m.granted (lease_reply k m.grant m.old m.changed m.there (lease_slot op (rule_of p.limits) m.old m.changed r m.move)) all)
        ]

    stack_named : (op : MemoryOp) (of k : ℕ) (live : List (Option (Grant P PlainHeap))) (r : Reply) → MovesObject stack_leases (StackLeaseMoves op) of k p.live r live → KeepsNames p.live live
    stack_named op of k live r is =
        elim (moved stack_leases (StackLeaseMoves op) of k p.live live r is) [
          | inl none ↦ same_names p.live live none.same
          | inr m ↦ λ replies all. subst (NamesLive replies) (sym m.is) (changed_named replies p.live of m.grant (with_stack_lease k m.changed m.grant) m.granted (stack_reply k m.grant m.old m.changed m.there (stack_slot op m.old m.changed r m.move)) all)
        ]

    -- An operation on bytes leaves the slots,
    pub bytes_named : (x : Option (Grant P PlainHeap)) (op : MemoryOp) (of k : ℕ) (live : List (Option (Grant P PlainHeap))) (r : Reply) → MovesLeasedBytes op (rule_of p.limits) x of k p.live r live → KeepsNames p.live live
    bytes_named None op of k live r is = memory_named op of k live r is
    bytes_named (Some (Instance lease)) op of k live r is = memory_named op of k live r is
    bytes_named (Some Component) op of k live r is = memory_named op of k live r is
    bytes_named (Some (Memory lease)) op of k live r is = memory_named op of k live r is
    bytes_named (Some (Table lease)) op of k live r is = memory_named op of k live r is
    bytes_named (Some (Stack lease)) op of k live r is = stack_named op of k live r is
    bytes_named (Some (Heap lease memory)) op of k live r is = memory_named op of k live r is
    bytes_named (Some (HeapOver lease)) op of k live r is = memory_named op of k live r is

    -- and so does one on a table.
    pub table_named : (op : TableOp) (of k : ℕ) (live : List (Option (Grant P PlainHeap))) (store : ListedStore) (r : Reply) → MovesObject table_leases (MovesTable op (rule_of p.limits) p.store store) of k p.live r live → KeepsNames p.live live
    table_named op of k live store r is =
        elim (moved table_leases (MovesTable op (rule_of p.limits) p.store store) of k p.live live r is) [
          | inl none ↦ same_names p.live live none.same
          | inr m ↦ λ replies all. subst (NamesLive replies) (sym m.is) (changed_named replies p.live of m.grant (with_table_lease k m.changed m.grant) m.granted (table_reply k m.grant m.old m.changed m.there (ap (λ (l : LeasedTable). l.index) m.move.same)) all)
        ]
