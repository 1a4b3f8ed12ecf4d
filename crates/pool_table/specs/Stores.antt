-- A store of a collector, which is told of each reference before it is written.
use Rattle.std.specs.Prelude.{◌≡◌, ℕ, zero, suc, ◌+◌, ◌<◌, ◌==◌, List, [], ◌∷◌, length, map, slice_get, slice_index_or, Bool, true, false, not, Option, Some, None, IsSome, IfSome, Result, Ok, Err}
use Rattle.std.specs.List.{list_any}
use Rattle.pool_types.specs.Rising.{risen, Rose}
use Rattle.pool_table.specs.Elements.{Element, gc_ref}
use Rattle.pool_table.specs.Views.{TableView, FillsTable}
use Rattle.pool_table.specs.declared.gc_store.GcTableError.{GcTableError}
use Rattle.pool_table.specs.declared.gc_store.GcTableError.TheVariants as failed

-- the numbers of its calls that fail, where it tells them, how many calls were made so far, and how often one failed
pub record StoreTold : Type 0 where
  pub plan : Option (List ℕ)
  pub made : ℕ
  pub faults : ℕ

-- after a call that succeeded
abbrev pub store_called : StoreTold → StoreTold
store_called t = record t { made = risen t.made }

-- What a store tells after n calls that went through.
abbrev pub store_calls : ℕ → StoreTold → StoreTold
store_calls zero t = t
store_calls (suc n) t = store_called (store_calls n t)

-- under this plan the next call succeeds: its number isn't listed
abbrev pub store_passes : List ℕ → StoreTold → Bool
store_passes plan t = not (list_any (λ n. n == risen t.made) plan)

-- a call failed: the count of faults rose
pub record StoreFaulted (old new : StoreTold) : Type 0 where
  pub same : new ≡ record (store_called old) { faults = new.faults }
  pub rose : Rose old.faults new.faults
  pub planned : IsSome old.plan → new.faults ≡ risen old.faults

-- a store that tells its plan lets the call through, or doesn't
abbrev pub LetsThrough : Bool → StoreTold → Type 0
LetsThrough passes t = IfSome t.plan (λ plan. store_passes plan t ≡ passes)

-- a call: which reference takes the place of which, and whether the store let it through
pub record StoreCall : Type 0 where
  pub old : Option ℕ
  pub new : Option ℕ
  pub passed : Bool

-- One call on a store: the reference that goes, the one that comes, and whether the store let it through.
abbrev pub call_of : Option ℕ → Option ℕ → Bool → StoreCall
call_of old new passed = record { old = old; new = new; passed = passed }

-- These calls, in this order and no others, took a store from one state to the other, where each of them may lead from a
-- state to another as given.
abbrev pub StoreCalled : {G : Type 0} → (G → StoreCall → G → Type 0) → List StoreCall → G → G → Type 0
StoreCalled leads [] old new = new ≡ old
StoreCalled {G} leads (c ∷ rest) old new = (between : G) × (leads old c between × StoreCalled leads rest between new)

-- calls that were let through: one reference takes the place of each of these
abbrev pub passed_calls : Option ℕ → List (Option ℕ) → List StoreCall
passed_calls new olds = map (λ old. call_of old new true) olds

-- a table's references from a place on
abbrev pub AreReferences : ℕ → List (Option ℕ) → List Element → Type 0
AreReferences first refs es = (k : ℕ) → k < length refs → slice_get es (first + k) ≡ Some (gc_ref (slice_index_or refs k None))

-- So many calls on a store were let through: in rising order one for each element of a table from a place on, each with
-- the reference that stands there, where that is told, and this new one.
pub record StorePassed {G : Type 0} (told : G → StoreTold) (leads : G → StoreCall → G → Type 0) (first done : ℕ) (new : Option ℕ) (es : Option (List Element)) (before after : G) : Type 0 where
  pub replaced : List (Option ℕ)
  pub number : length replaced ≡ done
  pub theirs : IfSome es (AreReferences first replaced)
  pub called : StoreCalled leads (passed_calls new replaced) before after
  pub tells : told after ≡ store_calls done (told before)
  pub through : (k : ℕ) → k < done → LetsThrough true (store_calls k (told before))

-- a call on a store that failed, for the element at this place
pub record StoreRefused {G : Type 0} (told : G → StoreTold) (leads : G → StoreCall → G → Type 0) (place : ℕ) (new : Option ℕ) (es : Option (List Element)) (before after : G) : Type 0 where
  pub replaced : Option ℕ
  pub theirs : IfSome es (λ xs. slice_get xs place ≡ Some (gc_ref replaced))
  pub called : leads before (call_of replaced new false) after
  pub faulted : StoreFaulted (told before) (told after)
  pub refused : LetsThrough false (told before)

-- after so many calls that were let through the last one was, or another one failed
abbrev pub StoreEnds : {G : Type 0} → (G → StoreTold) → (G → StoreCall → G → Type 0) → ℕ → ℕ → ℕ → Option ℕ → Option (List Element) → G → G → Bool → Type 0
StoreEnds told leads first count done new es before after true = (done ≡ count) × (after ≡ before)
StoreEnds told leads first count done new es before after false = (done < count) × StoreRefused told leads (first + done) new es before after

-- the store was told of so many elements, up to a call that failed
abbrev pub StoreAsked : {G : Type 0} → (G → StoreTold) → (G → StoreCall → G → Type 0) → ℕ → ℕ → ℕ → Option ℕ → Option (List Element) → G → G → Bool → Type 0
StoreAsked {G} told leads first count done new es before after whole =
    (between : G) × (StorePassed told leads first done new es before between × StoreEnds told leads first count done new es between after whole)

-- So many elements from a place on became this reference, each after a call on the store; or, where that isn't the whole,
-- the first of them did, up to a call that failed.
abbrev pub StoredFill : {G : Type 0} → (G → StoreTold) → (G → StoreCall → G → Type 0) → ℕ → ℕ → Option ℕ → TableView → TableView → G → G → Bool → Type 0
StoredFill told leads first count new old after before left whole =
    (done : ℕ) × (FillsTable first done (gc_ref new) old after × StoreAsked told leads first count done new old.elements before left whole)

-- the answer to a write that is in bounds: all of it was made, or the store failed
abbrev pub stored_answer : Bool → Result (Unit {0}) GcTableError
stored_answer true = Ok tt
stored_answer false = Err failed.GcStoreFault

-- a store in memory with a list of calls that fail
abbrev pub listed_store : List ℕ → ℕ → ℕ → StoreTold
listed_store plan made faults = record { plan = Some plan; made = made; faults = faults }
