-- The slots of a kind that a grant and live grants have: where the pool has none left and the party is alone, all are with
-- these; and there are no more of these than slots.
use Rattle.std.proofs.Common.{◌≡◌, ℕ, ◌+◌, ◌*◌, ◌<◌, ◌≤◌, List, [], ◌∷◌, length, map, Option, Some, None, refl, sym, ap, ◌∙◌, arith, sum_by}
use Rattle.pool_run.proofs.Imports.{length-map, sum_by-cons, RegionNumbers, SlotName, PlainHeap, right_to, slot_count, grant_count, grant_instances, grant_components, Grant, instance, component, one_memory, one_table, stack, heap, heap_over, below}
use Rattle.pool_run.specs.Private.{PrivateGrant, Grants}
use Rattle.pool_run.specs.Rooms as rooms
use Rattle.pool_run.specs.Rooms.{instances_in, components_in, component_count}
use Rattle.pool_run.specs.Turns.{private_grant, grants_of}
use Rattle.pool_run.specs.Ties.{granted_to}
use Rattle.pool_run.proofs.SlotsBelow.{none_below, below_le, sum_above, sum_below, times_in, all_above, all_below, slot_below, all_there, some_apart}
use Rattle.pool_run.proofs.SlotsMade.{made_slot}

-- What the party sees of its live grants together is what they have.
module _ {P : Type 0} (size : Option PrivateGrant → ℕ) (of : Grant P PlainHeap → ℕ) (nothing : size None ≡ 0) (one : (g : Grant P PlainHeap) → size (Some (private_grant g)) ≡ of g) where
  sum_seen : (live : List (Option (Grant P PlainHeap))) → sum_by size (grants_of live) ≡ sum_by (granted_to of) live
  sum_seen [] = refl
  sum_seen (None ∷ live) = omega (arith, sum_seen live, nothing, sum_by-cons size None (grants_of live), sum_by-cons (granted_to of) None live)
  sum_seen (Some g ∷ live) = omega (arith, sum_seen live, one g, sum_by-cons size (Some (private_grant g)) (grants_of live), sum_by-cons (granted_to of) (Some g) live)

  pub sum_told : (live : List (Option (Grant P PlainHeap))) (told : Grants) → grants_of live ≡ told → sum_by size told ≡ sum_by (granted_to of) live
  sum_told live told is = ap (sum_by size) (sym is) ∙ sum_seen live

-- the slots of a kind that grants have, by their numbers
module _ {P L : Type 0} (named : ℕ → SlotName) (one : (k i : ℕ) → named k ≡ named i → k ≡ i) (index : L → ℕ) (numbers : L → RegionNumbers) (items : Grant P PlainHeap → List L) (counted : (k : ℕ) (g : Grant P PlainHeap) → grant_count (right_to (named k)) g ≡ times_in named one index numbers k (items g)) (of_grant : Grant P PlainHeap → ℕ) (sized : (g : Grant P PlainHeap) → of_grant g ≡ length (items g)) where
  above : (n : ℕ) (g : Grant P PlainHeap) → below (λ k. grant_count (right_to (named k)) g) n ≤ length (items g)
  above n g = omega (arith, all_above named one index numbers n (items g), below_le (λ k. grant_count (right_to (named k)) g) (λ k. times_in named one index numbers k (items g)) (λ k. omega (arith, counted k g)) n)

  pub lease_below : (n : ℕ) (g : Grant P PlainHeap) → ((k : ℕ) → n ≤ k → grant_count (right_to (named k)) g ≡ 0) → length (items g) ≤ below (λ k. grant_count (right_to (named k)) g) n
  lease_below n g none =
      omega (
        arith,
        all_below named one index numbers n (items g) (λ k past. omega (arith, none k past, counted k g)),
        below_le (λ k. times_in named one index numbers k (items g)) (λ k. grant_count (right_to (named k)) g) (λ k. omega (arith, counted k g)) n,
      )

  grant_above : (n : ℕ) (o : Option (Grant P PlainHeap)) → below (λ k. granted_to (grant_count (right_to (named k))) o) n ≤ granted_to of_grant o
  grant_above n None = omega (arith, none_below n)
  grant_above n (Some g) = omega (arith, above n g, sized g)

  grant_below : (n : ℕ) (o : Option (Grant P PlainHeap)) → ((k : ℕ) → n ≤ k → granted_to (grant_count (right_to (named k))) o ≡ 0) → granted_to of_grant o ≤ below (λ k. granted_to (grant_count (right_to (named k))) o) n
  grant_below n None none = omega arith
  grant_below n (Some g) none = omega (arith, lease_below n g none, sized g)

  -- how often a slot is with live grants, and how many of the kind they have
  abbrev live_times : List (Option (Grant P PlainHeap)) → ℕ → ℕ
  live_times live k = sum_by (granted_to (grant_count (right_to (named k)))) live

  abbrev all_live : List (Option (Grant P PlainHeap)) → ℕ
  all_live live = sum_by (granted_to of_grant) live

  live_above : (n : ℕ) (live : List (Option (Grant P PlainHeap))) → below (live_times live) n ≤ all_live live
  live_above n live = sum_above (λ k o. granted_to (grant_count (right_to (named k))) o) (granted_to of_grant) n live (grant_above n)

  pub live_below : (n : ℕ) (live : List (Option (Grant P PlainHeap))) → ((k : ℕ) → n ≤ k → live_times live k ≡ 0) → all_live live ≤ below (live_times live) n
  live_below n live none = sum_below (λ k o. granted_to (grant_count (right_to (named k))) o) (granted_to of_grant) n live (grant_below n) none

  -- Where so many slots, whose numbers follow one another at a distance, are with this grant and the live ones, there are no
  -- more of them than they have.
  pub all_taken : (s step total : ℕ) (g : Grant P PlainHeap) (live : List (Option (Grant P PlainHeap))) → 0 < step → ((j : ℕ) → j < total → 1 ≤ grant_count (right_to (named (s + j * step))) g + live_times live (s + j * step)) → total ≤ length (items g) + all_live live
  all_taken s step total g live some all = all_there s step total (length (items g)) (all_live live) (λ k. grant_count (right_to (named k)) g) (live_times live) some all (above (s + total * step) g) (live_above (s + total * step) live)

  -- There is room for a grant and live grants that are apart.
  pub room_for : (total : ℕ) (g : Grant P PlainHeap) (live : List (Option (Grant P PlainHeap))) → ((k : ℕ) → grant_count (right_to (named k)) g + live_times live k ≤ made_slot k total) → length (items g) + all_live live ≤ total
  room_for total g live apart = some_apart total (length (items g)) (all_live live) (λ k. grant_count (right_to (named k)) g) (live_times live) apart (lease_below total g) (live_below total live)

  -- Where one more slot is with a call, there are more slots than the live grants have.
  pub one_free : (total slot : ℕ) (live : List (Option (Grant P PlainHeap))) → ((k : ℕ) → slot_count (right_to (named k)) (named slot) + live_times live k ≤ made_slot k total) → slot < total → all_live live < total
  one_free total slot live apart inside = omega (arith, some_apart total 1 (all_live live) (λ k. slot_count (right_to (named k)) (named slot)) (live_times live) apart (λ none. slot_below named one slot total inside) (live_below total live))

  -- what the party sees is live
  module _ {X : Type 0} (seen : L → X) (objects : PrivateGrant → List X) (size : Option PrivateGrant → ℕ) (sees : (g : Grant P PlainHeap) → objects (private_grant g) ≡ map seen (items g)) (nothing : size None ≡ 0) (some : (x : PrivateGrant) → size (Some x) ≡ length (objects x)) where
    one_seen : (g : Grant P PlainHeap) → size (Some (private_grant g)) ≡ of_grant g
    one_seen g = omega (arith, sized g, some (private_grant g), ap (length {A = X}) (sees g), length-map (items g) seen)

    pub live_told : (live : List (Option (Grant P PlainHeap))) (told : Grants) → grants_of live ≡ told → sum_by size told ≡ all_live live
    live_told live told is = sum_told size of_grant nothing one_seen live told is

module _ {P : Type 0} where
  -- a grant is an instance, a component or neither to its party as it is counted
  one_instance : (g : Grant P PlainHeap) → instances_in (Some (private_grant g)) ≡ grant_instances g
  one_instance (instance lease) = omega arith
  one_instance component = refl
  one_instance (one_memory lease) = refl
  one_instance (one_table lease) = refl
  one_instance (stack lease) = refl
  one_instance (heap lease memory) = refl
  one_instance (heap_over lease) = refl

  one_component : (g : Grant P PlainHeap) → components_in (Some (private_grant g)) ≡ grant_components g
  one_component (instance lease) = omega arith
  one_component component = refl
  one_component (one_memory lease) = refl
  one_component (one_table lease) = refl
  one_component (stack lease) = refl
  one_component (heap lease memory) = refl
  one_component (heap_over lease) = refl

  pub instances_told : (live : List (Option (Grant P PlainHeap))) (told : Grants) → grants_of live ≡ told → rooms.instance_count told ≡ sum_by (granted_to grant_instances) live
  instances_told live told is = sum_told instances_in grant_instances refl one_instance live told is

  pub components_told : (live : List (Option (Grant P PlainHeap))) (told : Grants) → grants_of live ≡ told → component_count told ≡ sum_by (granted_to grant_components) live
  components_told live told is = sum_told components_in grant_components refl one_component live told is
