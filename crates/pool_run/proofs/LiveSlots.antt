-- How many slots all live grants of a run's parties have, as the parties see them.
use Rattle.std.proofs.Common.{◌≡◌, ℕ, suc, ◌+◌, ◌%◌, ◌≤◌, ◌==◌, true, List, [], ◌∷◌, ◌++◌, map, Option, Some, None, refl, sym, ap, ◌∙◌, inl, inr, arith, All, IfSome, sum_by, slice_get}
use Rattle.pool_alloc.specs.UnhinderedRequests as pool
use Rattle.pool_alloc.proofs.BegunFrames.{idle_weight}
use Rattle.pool_alloc.proofs.SlotsOfAllocators.{right_of}
use Rattle.pool_run.proofs.Imports.{All-head, All-tail, cases_Bool, eq-eqb, one_at_most, one_if, sum_by-append, sum_by-cons, sum_by-le-sum_by, sum_by_agree, at_rest, MakerTold, RegionNumbers, SlotKind, memory_kind, Allocator, has_number, Lease, memory_slot, LeasedTable, table_slot, leased_count, tables_count, both_count, Weight, grant_weight, grant_count, IsIdle, IsPartitioned, PoolCore, PlainHeap, Grant, instance, component, one_memory, one_table, stack, heap, heap_over}
use Rattle.pool_run.specs.Ties.{granted_to, held_by_party, IsParty}
use Rattle.pool_run.specs.Turns.{grants_of, private_memory, private_grant}
use Rattle.pool_run.specs.Unhindered.{in_one_stripe, stripe_count, all_live}
use Rattle.pool_run.specs.Private.{Grants, PrivateMemory, PrivateGrant}
use Rattle.pool_run.specs.declared.running_party.RunningParty.{RunningParty}

module _ {P : Type 0} where
  -- the live grants of a party, and of all
  abbrev some_of : List (Option (Grant P PlainHeap)) → List (Grant P PlainHeap)
  some_of [] = []
  some_of (None ∷ live) = some_of live
  some_of (Some g ∷ live) = g ∷ some_of live

  abbrev pub all_grants : List (RunningParty P) → List (Grant P PlainHeap)
  all_grants [] = []
  all_grants (p ∷ parties) = some_of p.live ++ all_grants parties

  sum_some : (of : Grant P PlainHeap → ℕ) (live : List (Option (Grant P PlainHeap))) → sum_by of (some_of live) ≡ sum_by (granted_to of) live
  sum_some of [] = refl
  sum_some of (None ∷ live) = omega (arith, sum_some of live, sum_by-cons (granted_to of) None live)
  sum_some of (Some g ∷ live) = omega (arith, sum_some of live, sum_by-cons of g (some_of live), sum_by-cons (granted_to of) (Some g) live)

  pub sum_all : (of : Grant P PlainHeap → ℕ) (parties : List (RunningParty P)) → sum_by of (all_grants parties) ≡ sum_by (λ p. sum_by (granted_to of) p.live) parties
  sum_all of [] = refl
  sum_all of (p ∷ parties) = omega (arith, sum_by-append of (some_of p.live) (all_grants parties), sum_some of p.live, sum_all of parties, sum_by-cons (λ (q : RunningParty P). sum_by (granted_to of) q.live) p parties)

  -- What a party sees of each of its live grants is what that has, at most.
  seen_at_most : (of : Grant P PlainHeap → ℕ) (size : Option PrivateGrant → ℕ) → ((g : Grant P PlainHeap) → of g ≤ size (Some (private_grant g))) → (live : List (Option (Grant P PlainHeap))) → sum_by (granted_to of) live ≤ sum_by size (grants_of live)
  seen_at_most of size one [] = omega arith
  seen_at_most of size one (None ∷ live) = omega (arith, seen_at_most of size one live, sum_by-cons (granted_to of) None live, sum_by-cons size None (grants_of live))
  seen_at_most of size one (Some g ∷ live) = omega (arith, one g, seen_at_most of size one live, sum_by-cons (granted_to of) (Some g) live, sum_by-cons size (Some (private_grant g)) (grants_of live))

  pub all_at_most : (of : Grant P PlainHeap → ℕ) (size : Option PrivateGrant → ℕ) → ((g : Grant P PlainHeap) → of g ≤ size (Some (private_grant g))) → (parties : List (RunningParty P)) → sum_by of (all_grants parties) ≤ all_live (λ grants. sum_by size grants) parties
  all_at_most of size one parties =
      omega (arith, sum_all of parties, sum_by-le-sum_by (λ (p : RunningParty P). sum_by (granted_to of) p.live) (λ p. sum_by size (grants_of p.live)) parties (λ p. seen_at_most of size one p.live))

  -- And as many as it sees of them where it sees each.
  pub all_told : (of : Grant P PlainHeap → ℕ) (count : Grants → ℕ) → ((live : List (Option (Grant P PlainHeap))) → count (grants_of live) ≡ sum_by (granted_to of) live) → (parties : List (RunningParty P)) → sum_by of (all_grants parties) ≡ all_live count parties
  all_told of count one parties = sum_all of parties ∙ sum_by_agree (λ (p : RunningParty P). sum_by (granted_to of) p.live) (λ p. count (grants_of p.live)) (λ p. sym (one p.live)) parties

  -- Where nobody is in the middle of a call, all that is given out is in a queue or in a live grant.
  nobody_holds : (maker : MakerTold) (c : PoolCore P PlainHeap) (w : Weight) (parties : List (RunningParty P)) → All (IsParty maker c) parties → ((k : ℕ) → IfSome (slice_get parties k) (λ p. IsIdle p.frame)) → sum_by (λ p. held_by_party p w) parties ≡ sum_by (λ p. sum_by (granted_to (grant_weight w)) p.live) parties
  nobody_holds maker c w [] each idle = refl
  nobody_holds maker c w (p ∷ parties) each idle =
      let now : IsIdle p.frame = idle 0 in
      let one : IsParty maker c p = All-head (IsParty maker c) p parties each in
      omega (
        arith,
        sum_by-cons (λ (q : RunningParty P). held_by_party q w) p parties,
        sum_by-cons (λ (q : RunningParty P). sum_by (granted_to (grant_weight w)) q.live) p parties,
        idle_weight w p.frame now (at_rest maker c.settings c.plan p.frame one.sound.frame now),
        nobody_holds maker c w parties (All-tail (IsParty maker c) p parties each) (λ k. idle (suc k)),
      )

  pub nobody_calls : (maker : MakerTold) (c : PoolCore P PlainHeap) (parties : List (RunningParty P)) → IsPartitioned held_by_party c parties → All (IsParty maker c) parties → ((k : ℕ) → IfSome (slice_get parties k) (λ p. IsIdle p.frame)) → pool.NobodyCalls c (all_grants parties)
  nobody_calls maker c parties whole each idle w = omega (arith, whole w, nobody_holds maker c w parties each idle, sum_all (grant_weight w) parties)

-- The memories of a stripe.
module _ (a : Allocator) (stripes stripe : ℕ) (own : (k : ℕ) → has_number a k ≡ true → k % stripes ≡ stripe) where
  one_memory_at_most : (k : ℕ) (numbers : RegionNumbers) → both_count (right_of memory_kind a) (memory_slot k) numbers ≤ one_if (k % stripes == stripe)
  one_memory_at_most k numbers =
      elim (cases_Bool (has_number a k)) [
        | inl has ↦
            let one : one_if (k % stripes == stripe) ≡ 1 = ap one_if (eq-eqb (k % stripes) stripe (own k has)) in
            omega (arith, one, one_at_most (has_number a k))
        | inr none ↦
            let zero' : one_if (has_number a k) ≡ 0 = ap one_if none in
            omega (arith, zero')
      ]

  leases_at_most : (leases : List Lease) → leased_count (right_of memory_kind a) leases ≤ sum_by (λ (m : PrivateMemory). one_if (m.slot % stripes == stripe)) (map private_memory leases)
  leases_at_most [] = omega arith
  leases_at_most (l ∷ leases) =
      omega (
        arith,
        sum_by-cons (λ (x : Lease). both_count (right_of memory_kind a) (memory_slot x.index) x.numbers) l leases,
        sum_by-cons (λ (m : PrivateMemory). one_if (m.slot % stripes == stripe)) (private_memory l) (map private_memory leases),
        one_memory_at_most l.index l.numbers,
        leases_at_most leases,
      )

  no_tables : (leases : List LeasedTable) → tables_count (right_of memory_kind a) leases ≡ 0
  no_tables [] = refl
  no_tables (l ∷ leases) = omega (arith, sum_by-cons (λ (x : LeasedTable). both_count (right_of memory_kind a) (table_slot x.index) x.numbers) l leases, no_tables leases)

  module _ {P : Type 0} where
    one_grant : (g : Grant P PlainHeap) → grant_count (right_of memory_kind a) g ≤ in_one_stripe stripes stripe (Some (private_grant g))
    one_grant (instance lease) = omega (arith, leases_at_most lease.memories.items, no_tables lease.tables.items)
    one_grant component = omega arith
    one_grant (one_memory lease) = omega (arith, one_memory_at_most lease.index lease.numbers, sum_by-cons (λ (m : PrivateMemory). one_if (m.slot % stripes == stripe)) (private_memory lease) [])
    one_grant (one_table lease) = omega arith
    one_grant (stack lease) = omega arith
    one_grant (heap lease memory) = omega (arith, one_memory_at_most memory.index memory.numbers, sum_by-cons (λ (m : PrivateMemory). one_if (m.slot % stripes == stripe)) (private_memory memory) [])
    one_grant (heap_over lease) = omega arith

    pub memories_live : (parties : List (RunningParty P)) → a.kind ≡ memory_kind → pool.slots_live a (all_grants parties) ≤ all_live (stripe_count stripes stripe) parties
    memories_live parties kind =
        let same : pool.slots_live a (all_grants parties) ≡ sum_by (grant_count (right_of memory_kind a)) (all_grants parties) = ap (λ (k : SlotKind). sum_by (grant_count {P = P} {H = PlainHeap} (right_of k a)) (all_grants parties)) kind in
        omega (arith, same, all_at_most (grant_count (right_of memory_kind a)) (in_one_stripe stripes stripe) one_grant parties)
