-- What a seat has among other things: it comes and goes, and the others may be given back still. The terms of the trait's laws are here.
use Rattle.std.proofs.Common.{◌≡◌, ℕ, ◌+◌, ◌*◌, zero, suc, List, [], ◌∷◌, ◌++◌, length, map, refl, sym, ap, ◌∙◌, subst, arith, Result}
use Rattle.std.specs.Prelude.{slice_index_or, slice_set}
use Rattle.std.specs.List.{AllByRecursion}
use Rattle.std.proofs.lemmas.List.{length-set}
use Rattle.std.proofs.lemmas.List.Sums.{sum_by-cons}
use Rattle.pool_hall.specs.Sum.{total}
use Rattle.pool_hall.specs.Unit.{Beside}
use Rattle.pool_hall.specs.declared.unit_name.SlotKind.TheVariants.{Memory as memory_kind, Table as table_kind}
use Rattle.pool_hall.specs.declared.view.View.{View}
use Rattle.pool_hall.proofs.Moments.{beside_append}
use Rattle.pool_hall.proofs.Totals.{total_append}
use Rattle.pool_limits.specs.declared.errors.Trap.{Trap}
use Rattle.pool_alloc.specs.Calls.{IsGrant}
use Rattle.pool_alloc.specs.HeapLeases.{LeasedHeap}
use Rattle.pool_alloc.specs.Held.{Held, instance_held}
use Rattle.pool_alloc.specs.Leases.{IsChanged, IsWritten, Lease, memory_slot}
use Rattle.pool_alloc.specs.Places.{Counter, Thing, both_count, counted_object, leased_count, only, tables_count}
use Rattle.pool_alloc.specs.Reserved.{Reserved}
use Rattle.pool_alloc.specs.StackLeases.{LeasedStack}
use Rattle.pool_alloc.specs.Stepping.{grant_count, grant_counted}
use Rattle.pool_alloc.specs.TableLeases.{LeasedTable}
use Rattle.pool_alloc.specs.declared.frame.Grant.{Grant}
use Rattle.pool_alloc.specs.declared.frame.Grant.TheVariants.{Instance}
use Rattle.pool_alloc.specs.declared.leases.instance.InstanceLease.{InstanceLease}
use Rattle.pool_driver.specs.Faults.{GrantKeeps}
use Rattle.pool_driver.specs.Placed.{About}
use Rattle.pool_callers.specs.Callers.{Gains, Gives, Keeps, Loses}
use Rattle.pool_callers.specs.GivingMany.{units_of_all}
use Rattle.pool_callers.specs.GrantUnits.{grant_units}
use Rattle.pool_callers.proofs.Giving.{gives_beside}
use Rattle.pool_callers.proofs.GivingMany.{all_beside}
use Rattle.pool_callers.proofs.GrantUnits.{units_weigh}
use Rattle.pool_callers.proofs.Writing.{gives_written}
use Rattle.pool_waiting.specs.Waiting.{HasAll, HasGrants, as_grant}

-- what a seat may have
abbrev pub HeldHere : Type 0 → Type 0 → Type 0
HeldHere P H = Held Lease LeasedTable LeasedStack (LeasedHeap H) (InstanceLease P)

-- The units of grants weigh what the grants weigh.
all_weigh : {P H : Type 0} (t : Thing) (grants : List (Grant P H)) → total t (units_of_all grants) ≡ total (grant_count t) grants
all_weigh t [] = refl
all_weigh t (grant ∷ grants) = omega (arith, total_append t (grant_units grant) (units_of_all grants), units_weigh t grant, all_weigh t grants)

module _ {T P H : Type 0} (a : About) (v : View T) where
  -- A seat has what it has, and nothing beside.
  pub none_held : Beside v.units → HasAll {P = P} {H = H} a v [] v
  none_held beside = record { are = tt; keep = tt; beside = beside; units = λ t. omega arith; counted = λ k. omega arith; portions = refl }

  -- What it has beside it may give back,
  gives_grant : (x : Grant P H) (xs : List (Grant P H)) (w : View T) → HasGrants a v (x ∷ xs) w → Gives a x w
  gives_grant x xs w all = gives_beside a x w (units_of_all xs ++ v.units) all.are.0 all.keep.0 (beside_append (units_of_all xs) v.units (all_beside xs) all.beside)
      (λ t. omega (arith, all.units t, all_weigh t xs, total_append t (units_of_all xs) v.units))
      (λ k. omega (arith, all.counted k))

  pub gives_held : (x : HeldHere P H) (xs : List (HeldHere P H)) (w : View T) → HasAll a v (x ∷ xs) w → Gives a (as_grant x) w
  gives_held x xs w all = gives_grant (as_grant x) (map as_grant xs) w all

-- in any order.
total_moved : {X Y : Type 0} (n : Y → ℕ) (f : X → Y) (xs ys : List X) (x : X) → total n (map f (xs ++ x ∷ ys)) ≡ n (f x) + total n (map f (xs ++ ys))
total_moved n f [] ys x = refl
total_moved n f (z ∷ zs) ys x = omega (arith, total_moved n f zs ys x)

each_moved : {X Y : Type 0} (Q : Y → Type 0) (f : X → Y) (xs ys : List X) (x : X) → AllByRecursion Q (map f (xs ++ x ∷ ys)) → AllByRecursion Q (map f (x ∷ (xs ++ ys)))
each_moved Q f [] ys x all = all
each_moved Q f (z ∷ zs) ys x all = let rest = each_moved Q f zs ys x all.1 in (rest.0, (all.0, rest.1))

module _ {T P H : Type 0} (a : About) (v : View T) where
  pub moved_held : (xs ys : List (HeldHere P H)) (x : HeldHere P H) (w : View T) → HasAll a v (xs ++ x ∷ ys) w → HasAll a v (x ∷ (xs ++ ys)) w
  moved_held xs ys x w all = record {
    are = each_moved (IsGrant a.maker a.settings a.plan) as_grant xs ys x all.are;
    keep = each_moved GrantKeeps as_grant xs ys x all.keep;
    beside = all.beside;
    units = λ t. omega (arith, all.units t, total_moved (grant_count t) as_grant xs ys x);
    counted = λ k. omega (arith, all.counted k, total_moved (grant_counted (only k)) as_grant xs ys x);
    portions = all.portions;
  }

  module _ (xs : List (Grant P H)) (w u : View T) (portions : u.portions ≡ w.portions) where
    -- It has all that still where nothing came or went,
    pub kept_held : Keeps w u → HasGrants a v xs w → HasGrants a v xs u
    kept_held kept all = record {
      are = all.are;
      keep = all.keep;
      beside = all.beside;
      units = λ t. omega (arith, all.units t, kept.units t);
      counted = λ k. omega (arith, all.counted k, kept.counted k);
      portions = portions ∙ all.portions;
    }

    -- and one thing more where that came,
    pub gained_held : (x : Grant P H) → IsGrant a.maker a.settings a.plan x → GrantKeeps x → Gains x w u → HasGrants a v xs w → HasGrants a v (x ∷ xs) u
    gained_held x is keeps gained all = record {
      are = (is, all.are);
      keep = (keeps, all.keep);
      beside = all.beside;
      units = λ t. omega (arith, all.units t, gained.units t);
      counted = λ k. omega (arith, all.counted k, gained.counted k);
      portions = portions ∙ all.portions;
    }

    -- and the others where one went.
    pub lost_held : (x : Grant P H) → Loses x w u → HasGrants a v (x ∷ xs) w → HasGrants a v xs u
    lost_held x lost all = record {
      are = all.are.1;
      keep = all.keep.1;
      beside = all.beside;
      units = λ t. omega (arith, all.units t, lost.units t);
      counted = λ k. omega (arith, all.counted k, lost.counted k);
      portions = portions ∙ all.portions;
    }

-- A lease that changes and stays where it is weighs what it weighed.
weigh_set : (t : Thing) (leases : List Lease) (k : ℕ) (lease : Lease) → ((d : Lease) → lease ≡ record (slice_index_or leases k d) { memory = lease.memory }) → leased_count t (slice_set leases k lease) ≡ leased_count t leases
weigh_set t [] k lease same = refl
weigh_set t (l ∷ ls) zero lease same = omega (
  arith,
  sum_by-cons (λ (x : Lease). both_count t (memory_slot x.index) x.numbers) lease ls,
  sum_by-cons (λ (x : Lease). both_count t (memory_slot x.index) x.numbers) l ls,
  ap (λ (x : Lease). both_count t (memory_slot x.index) x.numbers) (same l),
)
weigh_set t (l ∷ ls) (suc k) lease same = omega (
  arith,
  sum_by-cons (λ (x : Lease). both_count t (memory_slot x.index) x.numbers) l (slice_set ls k lease),
  sum_by-cons (λ (x : Lease). both_count t (memory_slot x.index) x.numbers) l ls,
  weigh_set t ls k lease same,
)

-- An instance whose memory was written weighs what it weighed, and counts as often.
module _ (P H : Type 0) (old new : InstanceLease P) (k at : ℕ) (bytes : List ℕ) (r : Result (Unit {0}) Trap) (changed : IsChanged (λ l m. IsWritten at bytes l m r) k old.memories new.memories) (same : new.tables ≡ old.tables) where
  count_written : (t : Thing) → grant_count {P = P} {H = H} t (Instance new) ≡ grant_count {P = P} {H = H} t (Instance old)
  count_written t = omega (
    arith,
    ap (λ (m : Reserved Lease). leased_count t m.items) changed.is,
    weigh_set t old.memories.items k changed.lease (λ d. (changed.change d).same),
    ap (λ (x : Reserved LeasedTable). tables_count t x.items) same,
  )

  counted_written : (c : Counter) → grant_counted {P = P} {H = H} (only c) (Instance new) ≡ grant_counted {P = P} {H = H} (only c) (Instance old)
  counted_written c = omega (
    arith,
    ap (λ (n : ℕ). n * only c (counted_object memory_kind)) (ap (λ (m : Reserved Lease). length m.items) changed.is ∙ length-set old.memories.items k changed.lease),
    ap (λ (x : Reserved LeasedTable). length x.items * only c (counted_object table_kind)) same,
  )

-- Whatever its owner wrote into a memory of an instance, the seat has it still.
module _ {T P H : Type 0} (a : About) (v : View T) where
  pub written_held : (w : View T) (old new : InstanceLease P) (others : List (HeldHere P H)) (memory at : ℕ) (bytes : List ℕ) (answer : Result (Unit {0}) Trap) → IsChanged (λ l m. IsWritten at bytes l m answer) memory old.memories new.memories × (new.tables ≡ old.tables) → HasAll a v (instance_held old ∷ others) w → HasAll a v (instance_held new ∷ others) w
  written_held w old new others memory at bytes answer wrote all =
      let same : record old { memories = new.memories } ≡ new = ap (λ (t : Reserved LeasedTable). record { memories = new.memories; tables = t }) (sym wrote.1) in
      let then : Gives {P = P} {H = H} a (Instance new) w = subst (λ (i : InstanceLease P). Gives {P = P} {H = H} a (Instance i) w) same (gives_written a w old memory at bytes new.memories answer wrote.0 (gives_held a v (instance_held old) others w all)) in
      record {
        are = (then.is, all.are.1);
        keep = (then.keeps, all.keep.1);
        beside = all.beside;
        units = λ t. omega (arith, all.units t, count_written P H old new memory at bytes answer wrote.0 wrote.1 t);
        counted = λ k. omega (arith, all.counted k, counted_written P H old new memory at bytes answer wrote.0 wrote.1 k);
        portions = all.portions;
      }
