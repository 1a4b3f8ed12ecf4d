-- What an operation on one memory spends is spent by the instance, the grant and the live grants that the memory is among, and
-- what changes no memory spends nothing.
use Rattle.std.proofs.Common.{◌≡◌, ℕ, zero, suc, ◌+◌, ◌-◌, ◌<◌, ◌≤◌, Bool, List, [], ◌∷◌, length, map, Option, Some, None, refl, sym, ap, ◌∙◌, subst, arith, IfSome, option_map, slice_get, slice_index_or, slice_set, sum_by}
use Rattle.pool_run_on_demand.proofs.Imports.{option_map_or, length-set, get_or-set_same, set-get_or, set-set, All-set, All-get_or, All-head, All-cons, All-nil, sum_by-cons, sum_by-set, get_or-le-sum_by, slice_get-get_or, slice_get_within, get_or_from_slice_get, MakerTold, GrowthRule, state_of, PlainHeap, OnDemandHeap, OnDemandInstance, OnDemandMemory, OnDemandStack, MemoryOp, PrivateMemory, PrivateGrant, grant_at, Reply, mapped_at}
use Rattle.pool_run_on_demand.specs.Faults.{met_by, met_at}
use Rattle.pool_run_on_demand.specs.Left.{memory_left, Laying, laid_for_heap, IsLaid, Spends, MemorySpends, leases_left, AreLaid, LeasesSpend, grant_left, IsLaidGrant, live_left, AreLaidLive, GrantSpends, LiveSpends, KeepsMemories, KeepsLive}
use Rattle.pool_run_on_demand.specs.Seen.{seen_lease, seen_grant, grants_made}
use Rattle.pool_run_on_demand.specs.declared.grant.OnDemandGrant.{OnDemandGrant}
use Rattle.pool_run_on_demand.specs.declared.grant.OnDemandGrant.TheVariants.{Instance as instance, Stack as stack, Heap as heap}
use Rattle.pool_run_on_demand.proofs.Spending.{spends_none, spends_beside}

-- What is spent in one place is spent in all of them together.
spends_at : {X : Type 0} (left : X → ℕ) (a b : MakerTold) (met : ℕ) (xs : List X) (k : ℕ) (x y : X) → slice_get xs k ≡ Some x → Spends a b met (left x) (left y) → Spends a b met (sum_by left xs) (sum_by left (slice_set xs k y))
spends_at left a b met xs k x y has is =
    let there : k < length xs = slice_get_within xs k x has in
    let here : left (slice_index_or xs k x) ≡ left x = ap left (get_or_from_slice_get xs k x x has) in
    let within : left x ≤ sum_by left xs = omega (arith, here, get_or-le-sum_by left xs k x there) in
    let others : ℕ = sum_by left xs - left x in
    let old : others + left x ≡ sum_by left xs = omega (arith, within) in
    let new : others + left y ≡ sum_by left (slice_set xs k y) = omega (arith, within, here, sum_by-set left xs k y x there) in
    subst (λ (n : ℕ). Spends a b met n (sum_by left (slice_set xs k y))) old (subst (λ (n : ℕ). Spends a b met (others + left x) n) new (spends_beside a b met (left x) (left y) others is))

module _ {M L : Type 0} (tells : Bool) (op : MemoryOp) (rule : GrowthRule) where
  -- what an operation on a memory met
  abbrev met_of : Laying → Reply → OnDemandMemory M L → ℕ
  met_of y reply l = met_by y.page y.tunables rule op (seen_lease tells l) reply

  abbrev met_on : Laying → Reply → Option (OnDemandMemory M L) → ℕ
  met_on y reply o = option_map_or (met_of y reply) o 0

  pub leases_spend : (before after : MakerTold) (k : ℕ) (ls : List (OnDemandMemory M L)) (x l : OnDemandMemory M L) (reply : Reply) → slice_get ls k ≡ Some x → MemorySpends tells op rule before after (state_of x.memory) (state_of l.memory) reply → LeasesSpend tells op rule before after k ls (slice_set ls k l) reply
  leases_spend before after k ls x l reply has is y planned laid =
      let Laid : OnDemandMemory M L → Type 0 = λ m. IsLaid y (state_of m.memory) in
      let left : OnDemandMemory M L → ℕ = λ m. memory_left (state_of m.memory) in
      let one = is y planned (subst Laid (get_or_from_slice_get ls k x x has) (All-get_or Laid ls k x (slice_get_within ls k x has) laid)) in
      let spent : Spends before after (met_of y reply x) (leases_left ls) (leases_left (slice_set ls k l)) = spends_at left before after (met_of y reply x) ls k x l has one.1 in (
        All-set Laid ls k l one.0 laid,
        subst (λ (o : Option (OnDemandMemory M L)). Spends before after (met_on y reply o) (leases_left ls) (leases_left (slice_set ls k l))) (sym has) spent,
      )

  -- the memory of a heap
  pub heap_memory_spends : (before after : MakerTold) (k : ℕ) (old new : OnDemandMemory M L) (reply : Reply) → k ≡ 0 → MemorySpends tells op rule before after (state_of old.memory) (state_of new.memory) reply → LeasesSpend tells op rule before after k (old ∷ []) (new ∷ []) reply
  heap_memory_spends before after k old new reply first is =
      let On : ℕ → Type 0 = λ n. LeasesSpend tells op rule before after n (old ∷ []) (new ∷ []) reply in
      subst On (sym first) (leases_spend before after 0 (old ∷ []) old new reply refl is)

  -- the party sees the same
  seen_met : (y : Laying) (reply : Reply) (ls : List (OnDemandMemory M L)) (k : ℕ) → option_map_or (λ (m : PrivateMemory). met_by y.page y.tunables rule op m reply) (slice_get (map (seen_lease tells) ls) k) 0 ≡ met_on y reply (slice_get ls k)
  seen_met y reply [] k = refl
  seen_met y reply (l ∷ ls) zero = refl
  seen_met y reply (l ∷ ls) (suc k) = seen_met y reply ls k

  module _ (before after : MakerTold) (k : ℕ) where
    pub instance_spends : {P : Type 0} (g new : OnDemandInstance M L P) (reply : Reply) → LeasesSpend tells op rule before after k g.memories new.memories reply → GrantSpends tells op rule before after k (instance g) (instance new) reply
    instance_spends g new reply is y planned laid =
        let spent = is y planned laid in
        (spent.0, subst (λ (met : ℕ). Spends before after met (leases_left g.memories) (leases_left new.memories)) (sym (seen_met y reply g.memories k)) spent.1)

    pub heap_spends : (P : Type 0) (lease : OnDemandHeap PlainHeap) (old new : OnDemandMemory M L) (reply : Reply) → LeasesSpend tells op rule before after k (old ∷ []) (new ∷ []) reply → GrantSpends {P = P} tells op rule before after k (heap lease old) (heap lease new) reply
    heap_spends P lease old new reply is y planned laid =
        let for : Laying = laid_for_heap y in
        let Laid : OnDemandMemory M L → Type 0 = λ x. IsLaid for (state_of x.memory) in
        let left : OnDemandMemory M L → ℕ = λ x. memory_left (state_of x.memory) in
        let one : (x : OnDemandMemory M L) → leases_left (x ∷ []) ≡ left x = λ x. sum_by-cons left x [] ∙ omega arith in
        let spent = is for planned (All-cons Laid old [] laid (All-nil Laid)) in
        let met : ℕ = met_on for reply (slice_get (old ∷ []) k) in
        let alone : Spends before after met (left old) (left new) = subst (λ (n : ℕ). Spends before after met n (left new)) (one old) (subst (Spends before after met (leases_left (old ∷ []))) (one new) spent.1) in
        (All-head Laid new [] spent.0, subst (λ (n : ℕ). Spends before after n (left old) (left new)) (sym (seen_met for reply (old ∷ []) k)) alone)

-- a stack has no memory
module _ (M L P : Type 0) (tells : Bool) (op : MemoryOp) (rule : GrowthRule) (maker : MakerTold) (k : ℕ) (reply : Reply) where
  pub stack_spends : (lease new : OnDemandStack P) → GrantSpends {M = M} {L = L} {P = P} tells op rule maker maker k (stack lease) (stack new) reply
  stack_spends lease new y planned laid = (tt, spends_none maker 0)

module _ {M L P : Type 0} where
  abbrev left_at : Option (OnDemandGrant M L P) → ℕ
  left_at o = option_map_or grant_left o 0

  abbrev LaidAt : Laying → Option (OnDemandGrant M L P) → Type 0
  LaidAt y o = IfSome o (IsLaidGrant y)

  module _ (live : List (Option (OnDemandGrant M L P))) (of : ℕ) where
    abbrev with_it : OnDemandGrant M L P → List (Option (OnDemandGrant M L P))
    with_it g = slice_set live of (Some g)

    -- it is in its place
    there_now : (g : OnDemandGrant M L P) → of < length live → of < length (with_it g)
    there_now g there = omega (arith, there, length-set live of (Some g))

    laid_there : (y : Laying) (g : OnDemandGrant M L P) → of < length live → AreLaidLive y (with_it g) → IsLaidGrant y g
    laid_there y g there laid = subst (LaidAt y) (get_or-set_same live of (Some g) None there) (All-get_or (LaidAt y) (with_it g) of None (there_now g there) laid)

    -- another takes it
    laid_with : (y : Laying) (g new : OnDemandGrant M L P) → IsLaidGrant y new → AreLaidLive y (with_it g) → AreLaidLive y (with_it new)
    laid_with y g new one laid = subst (AreLaidLive y) (set-set live of (Some g) (Some new)) (All-set (LaidAt y) (with_it g) of (Some new) one laid)

    -- What was taken out of its place and put back is there as before.
    put_back_there : (empty : List (Option (OnDemandGrant M L P))) (g : OnDemandGrant M L P) → slice_index_or live of None ≡ Some g → empty ≡ slice_set live of None → slice_set empty of (Some g) ≡ live
    put_back_there empty g has taken = ap (λ (xs : List (Option (OnDemandGrant M L P))). slice_set xs of (Some g)) taken ∙ set-set live of None (Some g) ∙ ap (slice_set live of) (sym has) ∙ set-get_or live of None

    nothing_there : (empty : List (Option (OnDemandGrant M L P))) → slice_index_or live of None ≡ None → empty ≡ slice_set live of None → empty ≡ live
    nothing_there empty has taken = taken ∙ ap (slice_set live of) (sym has) ∙ set-get_or live of None

    module _ (tells : Bool) (op : MemoryOp) (rule : GrowthRule) (k : ℕ) (reply : Reply) where
      -- what an operation on the grant in that place met, as the party sees it
      abbrev met_live : Laying → Option PrivateGrant → ℕ
      met_live y o = met_at y.page y.tunables rule op o k reply

      pub live_spends : (before after : MakerTold) (g new : OnDemandGrant M L P) → of < length live → GrantSpends tells op rule before after k g new reply → LiveSpends tells op rule before after of k (with_it g) (with_it new) reply
      live_spends before after g new there is y planned laid =
          let one = is y planned (laid_there y g there laid) in
          let here : slice_index_or (with_it g) of None ≡ Some g = get_or-set_same live of (Some g) None there in
          let met : ℕ = met_live y (Some (seen_grant tells g)) in
          let has : slice_get (with_it g) of ≡ Some (Some g) = slice_get-get_or (with_it g) of None (there_now g there) ∙ ap Some here in
          let spent : Spends before after met (live_left (with_it g)) (live_left (slice_set (with_it g) of (Some new))) = spends_at left_at before after met (with_it g) of (Some g) (Some new) has one.1 in
          let seen : grant_at (grants_made tells (with_it g)) of ≡ Some (seen_grant tells g) = mapped_at (seen_grant tells) (with_it g) of ∙ ap (option_map (seen_grant tells)) here in (
            laid_with y g new one.0 laid,
            subst (λ (o : Option PrivateGrant). Spends before after (met_live y o) (live_left (with_it g)) (live_left (with_it new))) (sym seen) (subst (λ (xs : List (Option (OnDemandGrant M L P))). Spends before after met (live_left (with_it g)) (live_left xs)) (set-set live of (Some g) (Some new)) spent),
          )

      pub taken_spends : (before after : MakerTold) (empty new : List (Option (OnDemandGrant M L P))) (g : OnDemandGrant M L P) → slice_index_or live of None ≡ Some g → empty ≡ slice_set live of None → LiveSpends tells op rule before after of k (slice_set empty of (Some g)) new reply → LiveSpends tells op rule before after of k live new reply
      taken_spends before after empty new g has taken is =
          subst (λ (xs : List (Option (OnDemandGrant M L P))). LiveSpends tells op rule before after of k xs new reply) (put_back_there empty g has taken) is

      -- no grant is there
      pub none_spends : (maker : MakerTold) (empty : List (Option (OnDemandGrant M L P))) → slice_index_or live of None ≡ None → empty ≡ slice_set live of None → LiveSpends tells op rule maker maker of k live empty reply
      none_spends maker empty has taken =
          let seen : grant_at (grants_made tells live) of ≡ None = mapped_at (seen_grant tells) live of ∙ ap (option_map (seen_grant tells)) has in
          let Over : List (Option (OnDemandGrant M L P)) → Type 0 = λ xs. LiveSpends tells op rule maker maker of k live xs reply in
          subst Over (sym (nothing_there empty has taken)) (λ y planned laid. (laid, subst (λ (o : Option PrivateGrant). Spends maker maker (met_live y o) (live_left live) (live_left live)) (sym seen) (spends_none maker (live_left live))))

    -- A change of no memory of a grant is one of no memory of the live grants.
    pub live_keeps : (g new : OnDemandGrant M L P) → of < length live → KeepsMemories g new → KeepsLive (with_it g) (with_it new)
    live_keeps g new there is = (
      omega (arith, is.0, sum_by-set left_at live of (Some g) None there, sum_by-set left_at live of (Some new) None there),
      λ y laid. laid_with y g new (is.1 y (laid_there y g there laid)) laid,
    )

    pub taken_keeps : (empty new : List (Option (OnDemandGrant M L P))) (g : OnDemandGrant M L P) → slice_index_or live of None ≡ Some g → empty ≡ slice_set live of None → KeepsLive (slice_set empty of (Some g)) new → KeepsLive live new
    taken_keeps empty new g has taken is = subst (λ (xs : List (Option (OnDemandGrant M L P))). KeepsLive xs new) (put_back_there empty g has taken) is

    pub none_keeps : (empty : List (Option (OnDemandGrant M L P))) → slice_index_or live of None ≡ None → empty ≡ slice_set live of None → KeepsLive live empty
    none_keeps empty has taken = subst (KeepsLive live) (sym (nothing_there empty has taken)) (refl, λ y laid. laid)

    -- A grant that is given back takes nothing with it but its own.
    pub laid_without : (empty : List (Option (OnDemandGrant M L P))) → empty ≡ slice_set live of None → (y : Laying) → AreLaidLive y live → AreLaidLive y empty
    laid_without empty taken y laid = subst (AreLaidLive y) (sym taken) (All-set (LaidAt y) live of None tt laid)

  less_left : (live : List (Option (OnDemandGrant M L P))) (of : ℕ) → live_left (slice_set live of None) ≤ live_left live
  less_left [] of = omega arith
  less_left (o ∷ live) zero = omega (arith, sum_by-cons left_at None live, sum_by-cons left_at o live)
  less_left (o ∷ live) (suc of) = omega (arith, sum_by-cons left_at o (slice_set live of None), sum_by-cons left_at o live, less_left live of)

  pub left_without : (live empty : List (Option (OnDemandGrant M L P))) (of : ℕ) → empty ≡ slice_set live of None → live_left empty ≤ live_left live
  left_without live empty of taken = omega (arith, ap live_left taken, less_left live of)

  -- what changes no memory of an instance
  pub instance_keeps : (g new : OnDemandInstance M L P) → new.memories ≡ g.memories → KeepsMemories (instance g) (instance new)
  instance_keeps g new same = (ap leases_left same, λ y laid. subst (AreLaid y) (sym same) laid)
