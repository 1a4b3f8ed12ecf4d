-- A command on an object of a live grant takes no fault from its region's count.
use Rattle.std.proofs.Common.{◌≡◌, ℕ, zero, suc, ◌+◌, Bool, true, false, List, [], ◌∷◌, length, Option, Some, None, refl, sym, ap, ◌∙◌, subst, inl, inr, All, IfSome, option_map, replicate, slice_get, slice_set, slice_index_or, nat_le, if◌then◌else◌, ◌==◌}
use Rattle.std.proofs.lemmas.List.Elements.{All-set, All-get_or}
use Rattle.std.specs.List.{AllByRecursion}
use Rattle.pool_limits.specs.Growth.{GrowthRule}
use Rattle.pool_limits.specs.declared.errors.GrowError.TheVariants.{PageFault}
use Rattle.pool_pages.specs.MakerTold.{MakerTold}
use Rattle.pool_pages.specs.Told.{Told}
use Rattle.pool_pages.specs.declared.pages.RegionName.TheVariants.{Memory as memory_region, OnDemand}
use Rattle.pool_memory.specs.Growing.{FailsInPlace, InPlace}
use Rattle.pool_memory.specs.Linear.{Linear, Storage, in_slot, stored, slot_in, storage_written}
use Rattle.pool_memory.specs.Memories.{MemoryState, slot_of}
use Rattle.pool_slots.specs.PlainSlots.{StackState}
use Rattle.pool_slots.specs.declared.listed_heaps.PlainHeap.{PlainHeap}
use Rattle.pool_alloc.specs.BetweenSteps.{IsLeaseOf, IsPoolSlot}
use Rattle.pool_alloc.specs.Leases.{Lease}
use Rattle.pool_alloc.specs.StackLeases.{LeasedStack}
use Rattle.pool_alloc.specs.TableLeases.{LeasedTable}
use Rattle.pool_alloc.specs.declared.frame.Grant.{Grant}
use Rattle.pool_alloc.specs.declared.frame.Grant.TheVariants.{Instance, Component, Memory, Table, Stack, Heap, HeapOver}
use Rattle.pool_alloc.specs.declared.pool_core.PoolCore.{PoolCore}
use Rattle.pool_alloc.specs.declared.pool_core.Settings.{Settings}
use Rattle.pool_slots.specs.declared.plan.Plan.{Plan}
use Rattle.pool_table.specs.declared.gc_store.ListedStore.{ListedStore}
use Rattle.pool_driver.specs.Faults.{GrantKeeps, KeepsFaults, LeaseKeeps, StackKeeps, TableKeeps}
use Rattle.pool_driver.proofs.RegionFaults.{rose_keeps}
use Rattle.pool_run.specs.Acts.{MemoryOp, TableOp, reads, writes, fills, grows, asks_size, gets, sets, lengthens, asks_length}
use Rattle.pool_run.specs.GrowthEnds.{GrowthEnd, as_it_was, could_not, has_grown}
use Rattle.pool_run.specs.Objects.{MovesObject}
use Rattle.pool_run.specs.PartyRules.{rule_of}
use Rattle.pool_run.specs.Private.{growth, size_wanted}
use Rattle.pool_run.specs.PrivateTables.{StoredTable}
use Rattle.pool_run.specs.Ties.{IsSoundParty}
use Rattle.pool_run.specs.Turns.{GrowthLeaves, LeaseMoves, MemoryWrites, MovesLeasedBytes, MovesTable, StackLeaseMoves, StackStateWrites, leases_named, memory_leases, region_left, seen_as, stack_leases, stack_of, stored_as, table_leases, tables_named, with_lease, with_stack_lease, with_table_lease}
use Rattle.pool_run.specs.declared.reply.Reply.{Reply}
use Rattle.pool_run.specs.declared.running_party.RunningParty.{RunningParty}
use Rattle.pool_alloc.proofs.HeldSlots.{held_name}
use Rattle.pool_run.proofs.Named.{moved}
use Rattle.pool_run.proofs.Parties.{grant_inside}
use Rattle.pool_run.proofs.Sounds.{lease_held}

-- The memory of a lease has no fewer faults than its unit tells.
abbrev MemoryKeeps : ℕ → MemoryState → Type 0
MemoryKeeps n m = KeepsFaults n (slot_of m).region.faults

-- one of two, by a test
either_way : {X : Type 0} (Q : X → Type 0) (b : Bool) (x y : X) → Q x → Q y → Q (if b then x else y)
either_way Q true x y one other = one
either_way Q false x y one other = other

stored_written : (at : ℕ) (bytes : List ℕ) (st : Storage) (n : ℕ) → KeepsFaults n (slot_in st).region.faults → KeepsFaults n (slot_in (storage_written at bytes st)).region.faults
stored_written at bytes (stored len new) n keeps = keeps
stored_written at bytes (in_slot s) n keeps = keeps

writes_keep : (at : ℕ) (bytes : List ℕ) (old new : MemoryState) (reply : Reply) (n : ℕ) → MemoryWrites at bytes old new reply → MemoryKeeps n old → MemoryKeeps n new
writes_keep at bytes old new reply n is keeps =
    subst (λ (x : MemoryState × Reply). MemoryKeeps n x.0) (sym is)
    (either_way (λ (x : MemoryState × Reply). MemoryKeeps n x.0) (nat_le (at + length bytes) old.linear.size) _ _ (stored_written at bytes old.linear.storage n keeps) keeps)

fails_keep : (size : ℕ) (s t : Storage) (n : ℕ) → FailsInPlace PageFault size s t → KeepsFaults n (slot_in s).region.faults → KeepsFaults n (slot_in t).region.faults
fails_keep size (in_slot s) (in_slot t) n fails keeps = rose_keeps n s.region.faults t.region.faults keeps fails.1.region.rose
fails_keep size (in_slot s) (stored len bytes) n fails keeps = absurd fails
fails_keep size (stored len bytes) t n fails keeps = absurd fails

module _ (maker : MakerTold) (s : Settings) (plan : Plan) (l : Lease) (of : IsLeaseOf maker s plan l) where
  limited_keeps : (size n : ℕ) (st : Storage) (new : Linear) → st ≡ l.memory.linear.storage → InPlace size st l.memory.linear new → KeepsFaults n (slot_in st).region.faults → KeepsFaults n (slot_in new.storage).region.faults
  limited_keeps size n (in_slot x) new is place keeps =
      subst (λ (y : Linear). KeepsFaults n (slot_in y.storage).region.faults) (sym place)
      (either_way (λ y. KeepsFaults n y.region.faults) _ _ x keeps keeps)
  limited_keeps size n (stored len bytes) new is place keeps =
      let wrong : OnDemand 0 ≡ memory_region l.index = held_name maker s l.index (slot_in (stored len bytes)) (subst (λ (y : Storage). IsPoolSlot maker s l.index (slot_in y)) (sym is) of.slot) in
      absurd cc

  ends_keep : (end : GrowthEnd) (size n : ℕ) (new : MemoryState) → GrowthLeaves end size l.memory new → MemoryKeeps n l.memory → MemoryKeeps n new
  ends_keep as_it_was size n new is keeps = subst (MemoryKeeps n) (sym is) keeps
  ends_keep could_not size n new is keeps = fails_keep size l.memory.linear.storage new.linear.storage n is.2 keeps
  ends_keep has_grown size n new is keeps = limited_keeps size n l.memory.linear.storage new.linear refl is.2 keeps

  -- An operation on a memory keeps what its lease has of faults.
  op_faults : (op : MemoryOp) (rule : GrowthRule) (new : Lease) (reply : Reply) → LeaseMoves op rule l new reply → LeaseKeeps l → LeaseKeeps new
  op_faults (reads at len) rule new reply is keeps = subst LeaseKeeps (sym is.1) keeps
  op_faults (writes at bytes) rule new reply is keeps = subst LeaseKeeps (sym is.same) (writes_keep at bytes l.memory new.memory reply l.numbers.faults is.move keeps)
  op_faults (fills at len byte) rule new reply is keeps = subst LeaseKeeps (sym is.same) (writes_keep at (replicate len byte) l.memory new.memory reply l.numbers.faults is.move keeps)
  op_faults (grows pages) rule new reply is keeps = subst LeaseKeeps (sym is.same) (ends_keep (growth rule is.move.0 pages (seen_as 0 l.memory)).0 (size_wanted pages (seen_as 0 l.memory)) l.numbers.faults new.memory is.move.2 keeps)
  op_faults asks_size rule new reply is keeps = subst LeaseKeeps (sym is.1) keeps

stack_writes_keep : (at : ℕ) (bytes : List ℕ) (l new : LeasedStack) (reply : Reply) → StackStateWrites at bytes l.stack new.stack reply → StackKeeps l → StackKeeps (record l { stack = new.stack })
stack_writes_keep at bytes l new reply is keeps =
    subst (λ (x : StackState × Reply). StackKeeps (record l { stack = x.0 })) (sym is)
    (either_way (λ (x : StackState × Reply). StackKeeps (record l { stack = x.0 })) (nat_le (at + length bytes) l.stack.slot.static_size) _ _ keeps keeps)

-- So does one on a stack,
stack_faults : (op : MemoryOp) (l new : LeasedStack) (reply : Reply) → StackLeaseMoves op l new reply → StackKeeps l → StackKeeps new
stack_faults (reads at len) l new reply is keeps = subst StackKeeps (sym (is.1 ∙ ap (λ s. record l { stack = s }) is.0.1)) keeps
stack_faults (writes at bytes) l new reply is keeps = subst StackKeeps (sym is.1) (stack_writes_keep at bytes l new reply is.0 keeps)
stack_faults (fills at len byte) l new reply is keeps = subst StackKeeps (sym is.1) (stack_writes_keep at (replicate len byte) l new reply is.0 keeps)
stack_faults (grows pages) l new reply is keeps = subst StackKeeps (sym (is.1 ∙ ap (λ s. record l { stack = s }) is.0.1)) keeps
stack_faults asks_size l new reply is keeps = subst StackKeeps (sym (is.1 ∙ ap (λ s. record l { stack = s }) is.0.1)) keeps

region_faults : (op : TableOp) (failing : List ℕ) (t : StoredTable) (r : Told) (n : ℕ) → KeepsFaults n r.faults → KeepsFaults n (region_left op failing t r).faults
region_faults (sets first count value) failing t r n keeps = either_way (λ (x : Told). KeepsFaults n x.faults) _ r _ keeps keeps
region_faults (gets at) failing t r n keeps = keeps
region_faults (lengthens by) failing t r n keeps = keeps
region_faults asks_length failing t r n keeps = keeps

told_faults : (f : Told → Told) (o : Option Told) (n : ℕ) → ((r : Told) → KeepsFaults n r.faults → KeepsFaults n (f r).faults) → IfSome o (λ r. KeepsFaults n r.faults) → IfSome (option_map f o) (λ r. KeepsFaults n r.faults)
told_faults f None n keeps all = tt
told_faults f (Some r) n keeps kept = keeps r kept

-- and one on a table.
table_faults : (op : TableOp) (rule : GrowthRule) (before after : ListedStore) (l new : LeasedTable) (reply : Reply) → MovesTable op rule before after l new reply → TableKeeps l → TableKeeps new
table_faults op rule before after l new reply is keeps =
    subst TableKeeps (sym is.same)
    (subst (λ o. IfSome o (λ r. KeepsFaults l.numbers.faults r.faults)) (sym is.region)
    (told_faults (region_left op before.failing (stored_as l before)) l.table.region l.numbers.faults (λ r. region_faults op before.failing (stored_as l before) r l.numbers.faults) keeps))

each_set : {X : Type 0} (Q : X → Type 0) (xs : List X) (k : ℕ) (old new : X) → slice_get xs k ≡ Some old → (Q old → Q new) → AllByRecursion Q xs → AllByRecursion Q (slice_set xs k new)
each_set Q [] k old new there keeps all = all
each_set Q (x ∷ xs) zero old new there keeps all = (let same : x ≡ old = cc in keeps (subst Q same all.0), all.1)
each_set Q (x ∷ xs) (suc k) old new there keeps all = (all.0, each_set Q xs k old new there keeps all.1)

heap_keeps_set : (k : ℕ) (memory old changed : Lease) → slice_get (memory ∷ []) k ≡ Some old → (LeaseKeeps old → LeaseKeeps changed) → LeaseKeeps memory → LeaseKeeps (if k == 0 then changed else memory)
heap_keeps_set zero memory old changed there keeps kept = keeps (let same : memory ≡ old = cc in subst LeaseKeeps same kept)
heap_keeps_set (suc k) memory old changed there keeps kept = absurd cc

module _ {P : Type 0} where
  memory_set : (k : ℕ) (grant : Grant P PlainHeap) (old changed : Lease) → slice_get (leases_named grant) k ≡ Some old → (LeaseKeeps old → LeaseKeeps changed) → GrantKeeps grant → GrantKeeps (with_lease k changed grant)
  memory_set k (Instance lease) old changed there keeps kept = (each_set LeaseKeeps lease.memories.items k old changed there keeps kept.0, kept.1)
  memory_set k Component old changed there keeps kept = kept
  memory_set k (Memory lease) old changed there keeps kept = kept
  memory_set k (Table lease) old changed there keeps kept = kept
  memory_set k (Stack lease) old changed there keeps kept = kept
  memory_set k (Heap lease memory) old changed there keeps kept = heap_keeps_set k memory old changed there keeps kept
  memory_set k (HeapOver lease) old changed there keeps kept = kept

  table_set : (k : ℕ) (grant : Grant P PlainHeap) (old changed : LeasedTable) → slice_get (tables_named grant) k ≡ Some old → (TableKeeps old → TableKeeps changed) → GrantKeeps grant → GrantKeeps (with_table_lease k changed grant)
  table_set k (Instance lease) old changed there keeps kept = (kept.0, each_set TableKeeps lease.tables.items k old changed there keeps kept.1)
  table_set k Component old changed there keeps kept = kept
  table_set k (Memory lease) old changed there keeps kept = kept
  table_set k (Table lease) old changed there keeps kept = kept
  table_set k (Stack lease) old changed there keeps kept = kept
  table_set k (Heap lease memory) old changed there keeps kept = kept
  table_set k (HeapOver lease) old changed there keeps kept = kept

  stack_set : (k : ℕ) (grant : Grant P PlainHeap) (old changed : LeasedStack) → slice_get (stack_of grant) k ≡ Some old → (StackKeeps old → StackKeeps changed) → GrantKeeps grant → GrantKeeps (with_stack_lease k changed grant)
  stack_set k (Instance lease) old changed there keeps kept = kept
  stack_set k Component old changed there keeps kept = kept
  stack_set k (Memory lease) old changed there keeps kept = kept
  stack_set k (Table lease) old changed there keeps kept = kept
  stack_set zero (Stack lease) old changed there keeps kept = keeps (let same : lease ≡ old = cc in subst StackKeeps same kept)
  stack_set (suc k) (Stack lease) old changed there keeps kept = absurd cc
  stack_set k (Heap lease memory) old changed there keeps kept = kept
  stack_set k (HeapOver lease) old changed there keeps kept = kept

  -- Each live grant keeps what it has of faults.
  abbrev pub AllKeep : List (Option (Grant P PlainHeap)) → Type 0
  AllKeep live = All (λ g. IfSome g GrantKeeps) live

  pub kept_at : (live : List (Option (Grant P PlainHeap))) (of : ℕ) (grant : Grant P PlainHeap) → slice_index_or live of None ≡ Some grant → AllKeep live → GrantKeeps grant
  kept_at live of grant is all = subst (λ (g : Option (Grant P PlainHeap)). IfSome g GrantKeeps) is (All-get_or (λ (g : Option (Grant P PlainHeap)). IfSome g GrantKeeps) live of None (grant_inside live of grant is) all)

  pub put_keeps : (live : List (Option (Grant P PlainHeap))) (of : ℕ) (x : Option (Grant P PlainHeap)) → IfSome x GrantKeeps → AllKeep live → AllKeep (slice_set live of x)
  put_keeps live of x kept all = All-set (λ (g : Option (Grant P PlainHeap)). IfSome g GrantKeeps) live of x kept all

  module _ (maker : MakerTold) (c : PoolCore P PlainHeap) (p : RunningParty P) (sound : IsSoundParty maker c p) where
    memory_moved : (op : MemoryOp) (of k : ℕ) (live : List (Option (Grant P PlainHeap))) (reply : Reply) → MovesObject memory_leases (LeaseMoves op (rule_of p.limits)) of k p.live reply live → AllKeep p.live → AllKeep live
    memory_moved op of k live reply is all =
        elim (moved memory_leases (LeaseMoves op (rule_of p.limits)) of k p.live live reply is) [
          | inl none ↦ subst AllKeep (sym none.same) all
          | inr m ↦
              let held = lease_held maker c p of k m.grant m.old sound m.granted m.there in
              subst AllKeep (sym m.is) (put_keeps p.live of (Some (with_lease k m.changed m.grant)) (memory_set k m.grant m.old m.changed m.there (op_faults maker c.settings c.plan m.old held op (rule_of p.limits) m.changed reply m.move) (kept_at p.live of m.grant m.granted all)) all)
        ]

    stack_moved : (op : MemoryOp) (of k : ℕ) (live : List (Option (Grant P PlainHeap))) (reply : Reply) → MovesObject stack_leases (StackLeaseMoves op) of k p.live reply live → AllKeep p.live → AllKeep live
    stack_moved op of k live reply is all =
        elim (moved stack_leases (StackLeaseMoves op) of k p.live live reply is) [
          | inl none ↦ subst AllKeep (sym none.same) all
          | inr m ↦ subst AllKeep (sym m.is) (put_keeps p.live of (Some (with_stack_lease k m.changed m.grant)) (stack_set k m.grant m.old m.changed m.there (stack_faults op m.old m.changed reply m.move) (kept_at p.live of m.grant m.granted all)) all)
        ]

    -- An operation on bytes takes no fault,
    pub bytes_keep : (x : Option (Grant P PlainHeap)) (op : MemoryOp) (of k : ℕ) (live : List (Option (Grant P PlainHeap))) (reply : Reply) → MovesLeasedBytes op (rule_of p.limits) x of k p.live reply live → AllKeep p.live → AllKeep live
    bytes_keep None op of k live reply is all = memory_moved op of k live reply is all
    bytes_keep (Some (Instance lease)) op of k live reply is all = memory_moved op of k live reply is all
    bytes_keep (Some Component) op of k live reply is all = memory_moved op of k live reply is all
    bytes_keep (Some (Memory lease)) op of k live reply is all = memory_moved op of k live reply is all
    bytes_keep (Some (Table lease)) op of k live reply is all = memory_moved op of k live reply is all
    bytes_keep (Some (Stack lease)) op of k live reply is all = stack_moved op of k live reply is all
    bytes_keep (Some (Heap lease memory)) op of k live reply is all = memory_moved op of k live reply is all
    bytes_keep (Some (HeapOver lease)) op of k live reply is all = memory_moved op of k live reply is all

    -- and none on a table does.
    pub table_keep : (op : TableOp) (of k : ℕ) (live : List (Option (Grant P PlainHeap))) (store : ListedStore) (reply : Reply) → MovesObject table_leases (MovesTable op (rule_of p.limits) p.store store) of k p.live reply live → AllKeep p.live → AllKeep live
    table_keep op of k live store reply is all =
        elim (moved table_leases (MovesTable op (rule_of p.limits) p.store store) of k p.live live reply is) [
          | inl none ↦ subst AllKeep (sym none.same) all
          | inr m ↦ subst AllKeep (sym m.is) (put_keeps p.live of (Some (with_table_lease k m.changed m.grant)) (table_set k m.grant m.old m.changed m.there (table_faults op (rule_of p.limits) p.store store m.old m.changed reply m.move) (kept_at p.live of m.grant m.granted all)) all)
        ]
