-- What a look, a fill and a growth make of a table on demand, as the party sees it. It lies in a list, so that a growth may
-- find no memory.
use Rattle.std.proofs.Common.{◌≡◌, ℕ, ◌+◌, Bool, true, false, Option, Some, Result, Ok, Err, inl, inr, refl, sym, ap, arith, ◌-◌, ◌^◌, ◌==◌, nat_lt, if◌then◌else◌}
use Rattle.pool_run_on_demand.proofs.Imports.{nat_tests, GrowthRule, table_answer, GrowFault, LimiterError, Fault, type_of, StoreCall, TableView, GcTableError, ListedStore, no_slot, LeasedTable, IsSet, IsElementAt, Element, gets, sets, lengthens, asks_length, element_reply, fill_reply, growth_reply, store_told, as_it_was, has_grown, if_allowed, PrivateTable, table_report, element_for, TableValue, Reply, Size, Grown, growth_ends, looks, set_moves}
use Rattle.pool_run_on_demand.specs.Seen.{seen_stored, ViewMovesOnDemand, LengthensByRule}

-- a table on demand as a lease of no slot
abbrev as_lease : TableView → LeasedTable
as_lease t = record { index = no_slot; table = t; numbers = record { faults = 0; erases = 0 } }

pub got_seen : (at : ℕ) (rule : GrowthRule) (store : ListedStore) (t : TableView) (answer : Result Element Fault) → IsElementAt t at answer → ViewMovesOnDemand (gets at) rule store store t t (element_reply answer)
got_seen at rule store t answer is = looks at rule store (as_lease t) answer is

pub length_seen : (rule : GrowthRule) (store : ListedStore) (t : TableView) (n : ℕ) → n ≡ t.size → ViewMovesOnDemand asks_length rule store store t t (Size n)
length_seen rule store t n is = (ap Size is, refl)

pub set_seen : (leads : ListedStore → StoreCall → ListedStore → Type 0) (at count : ℕ) (value : TableValue) (rule : GrowthRule) (t new : TableView) (before after : ListedStore) (result : Result (Unit {0}) GcTableError) → IsSet store_told leads at count (element_for (type_of t.kind) value) t new before after result
    → ViewMovesOnDemand (sets at count value) rule before after t new (fill_reply result) × (after.failing ≡ before.failing)
set_seen leads at count value rule t new before after result is = set_moves leads at count value rule (as_lease t) (as_lease new) before after result refl is

-- where nothing stands in its way, it would have grown
would_grow : (nothing past_type : Bool) (answer : Result Bool LimiterError) (past : Bool) (r : Reply) (size : ℕ) → nothing ≡ false → past_type ≡ false → answer ≡ Ok true → past ≡ false
    → (if nothing then (as_it_was, Grown (Some size)) else (if past_type then (as_it_was, r) else if_allowed answer (if past then (as_it_was, r) else (has_grown, Grown (Some size))))).0 ≡ has_grown
would_grow true past_type answer past r size bad _ _ _ = absurd cc
would_grow false true answer past r size _ bad _ _ = absurd cc
would_grow false false (Err e) past r size _ _ bad _ = absurd cc
would_grow false false (Ok false) past r size _ _ bad _ = absurd cc
would_grow false false (Ok true) true r size _ _ _ bad = absurd cc
would_grow false false (Ok true) false r size _ _ _ _ = refl

pub lengthened_seen : (rule : GrowthRule) (by : ℕ) (store : ListedStore) (t new : TableView) (answer : Result (Option ℕ) GrowFault) → LengthensByRule rule by t new answer → ViewMovesOnDemand (lengthens by) rule store store t new (growth_reply answer)
lengthened_seen rule by store t new answer (inl growth) =
    let ends = growth_ends rule by (as_lease t) (as_lease new) answer refl growth in
    inl (ap (λ (p : PrivateTable). record { table = p; calls = store.made }) ends.leaves, ends.says)
lengthened_seen rule by store t new answer (inr wants) =
    let size : ℕ = t.size + by in
    let some : (by == 0) ≡ false = grind (arith, nat_tests, wants.some) in
    let small : nat_lt (2 ^ 64 - 1) size ≡ false = grind (arith, nat_tests, wants.within, wants.bounded) in
    let within : nat_lt t.maximum size ≡ false = grind (arith, nat_tests, wants.within) in
    inr (
      would_grow (by == 0) (nat_lt (2 ^ 64 - 1) size) (table_answer (Some rule) (Ok true) size (Some t.maximum)) (nat_lt t.maximum size) (table_report rule) t.size some small (sym wants.allowed) within,
      (ap growth_reply wants.replies, ap (λ (v : TableView). seen_stored v store) wants.same),
    )
