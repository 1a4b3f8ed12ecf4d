-- What a list of faults lists for a region or a module is among its entries of that number.
use Rattle.std.proofs.Common.{◌≡◌, ℕ, ◌+◌, ◌-◌, ◌<◌, ◌≤◌, Bool, true, false, not, ◌&&◌, ◌||◌, ◌==◌, List, [], ◌∷◌, ◌++◌, length, get_or, take, drop, suc, Option, Some, None, refl, sym, ap, ◌∙◌, arith, slice_range, ltb, leb, if◌then◌else◌}
use Rattle.pool_pages.proofs.Imports.{length-take, length-drop, get_or-take, get_or-drop, take-append-drop, append-nil, filter-append, filter_agree, ne_eqb, ltb-true, leb-false, nat_tests, nat_cmp, is_lt, filter, filter_map, cons_option, list_any, IsStableByKey, option_and_then, option_map_or}
use Rattle.pool_pages.specs.FaultPlans.{planned_as, planned_call, plans_images}
use Rattle.pool_pages.specs.MakerTold.{on_images, call_of, is_of_images}
use Rattle.pool_pages.specs.SortedFaults.{has_number, number_of}
use Rattle.pool_pages.specs.declared.pages.RegionName.{RegionName}
use Rattle.pool_pages.specs.declared.pages.RegionName.TheVariants.{Memory as of_memory, Table as of_table, Stack as of_stack, OnDemand as of_on_demand}
use Rattle.pool_pages.specs.declared.fault_plan.Fault.{Fault}
use Rattle.pool_pages.specs.declared.fault_plan.FaultKind.{FaultKind}
use Rattle.pool_pages.specs.declared.fault_plan.FaultKind.TheVariants.{Memory, Table, Stack, Image, OnDemand}

-- numbers of which neither is less are one
ties_is : (a b : ℕ) → (not (is_lt (nat_cmp a b)) && not (is_lt (nat_cmp b a))) ≡ (a == b)
ties_is a b = grind (arith, nat_tests)

-- a stable sort keeps the entries of each number in their order
pub same_numbers : (xs ys : List Fault) → IsStableByKey (λ fault. fault.slot) nat_cmp xs ys → (n : ℕ) → filter (has_number n) ys ≡ filter (has_number n) xs
same_numbers xs ys stable n =
    let x : Fault = record { kind = Memory; slot = n; call = 0 } in
    filter_agree (has_number n) (λ y. not (is_lt (nat_cmp n y.slot)) && not (is_lt (nat_cmp y.slot n))) (λ y. sym (ties_is n y.slot)) ys
    ∙ stable x
    ∙ filter_agree (λ y. not (is_lt (nat_cmp n y.slot)) && not (is_lt (nat_cmp y.slot n))) (has_number n) (λ y. ties_is n y.slot) xs

module _ {X : Type 0} (p : X → Bool) where
  filtered_step : {Y : Type 0} (h : X → Option Y) (x : X) (xs : List X) (b : Bool) → (b ≡ false → h x ≡ None) → filter_map h (filter p xs) ≡ filter_map h xs → filter_map h (if b then x ∷ filter p xs else filter p xs) ≡ cons_option (h x) (filter_map h xs)
  filtered_step h x xs true none rest = ap (cons_option (h x)) rest
  filtered_step h x xs false none rest = rest ∙ sym (ap (λ o. cons_option o (filter_map h xs)) (none refl))

  -- what is listed only by elements that pass is listed by them alone
  pub filter_map-filter : {Y : Type 0} (h : X → Option Y) → ((x : X) → p x ≡ false → h x ≡ None) → (xs : List X) → filter_map h (filter p xs) ≡ filter_map h xs
  filter_map-filter h none [] = refl
  filter_map-filter h none (x ∷ xs) = filtered_step h x xs (p x) (none x) (filter_map-filter h none xs)

  any_step : (q : X → Bool) (x : X) (xs : List X) (b : Bool) → (b ≡ false → q x ≡ false) → list_any q (filter p xs) ≡ list_any q xs → list_any q (if b then x ∷ filter p xs else filter p xs) ≡ (q x || list_any q xs)
  any_step q x xs true none rest = ap (λ c. q x || c) rest
  any_step q x xs false none rest = rest ∙ sym (ap (λ c. c || list_any q xs) (none refl))

  pub list_any-filter : (q : X → Bool) → ((x : X) → p x ≡ false → q x ≡ false) → (xs : List X) → list_any q (filter p xs) ≡ list_any q xs
  list_any-filter q none [] = refl
  list_any-filter q none (x ∷ xs) = any_step q x xs (p x) (none x) (list_any-filter q none xs)

  -- nothing passes
  filter_none : (xs : List X) → ((k : ℕ) (d : X) → k < length xs → p (get_or xs k d) ≡ false) → filter p xs ≡ []
  filter_none [] none = refl
  filter_none (x ∷ xs) none =
      ap (λ b. if b then x ∷ filter p xs else filter p xs) (none 0 x (omega arith))
      ∙ filter_none xs (λ k d below. none (suc k) d (omega arith))

  -- what passes lies between two places
  pub filter_between : (a e : ℕ) (xs : List X) → a ≤ e → e ≤ length xs → ((k : ℕ) (d : X) → k < a → p (get_or xs k d) ≡ false) → ((k : ℕ) (d : X) → e ≤ k → k < length xs → p (get_or xs k d) ≡ false) → filter p (slice_range xs a e) ≡ filter p xs
  filter_between a e xs order fits below above =
      let first : filter p (take a xs) ≡ [] = filter_none (take a xs) (λ k d under.
      let inside : k < a = omega (arith, length-take a xs) in
      ap p (get_or-take a xs k d inside) ∙ below k d inside) in
      let last : filter p (drop (e - a) (drop a xs)) ≡ [] = filter_none (drop (e - a) (drop a xs)) (λ k d under.
      let place : a + (e - a + k) ≡ e + k = omega arith in
      let inside : e + k < length xs = omega (arith, length-drop (e - a) (drop a xs), length-drop a xs) in
      ap p (get_or-drop (e - a) (drop a xs) k d ∙ get_or-drop a xs (e - a + k) d ∙ ap (λ n. get_or xs n d) place) ∙ above (e + k) d (omega arith) inside) in
      sym (
      ap (filter p) (sym (take-append-drop a xs))
      ∙ filter-append p (take a xs) (drop a xs)
      ∙ ap (λ zs. zs ++ filter p (drop a xs)) first
      ∙ ap (filter p) (sym (take-append-drop (e - a) (drop a xs)))
      ∙ filter-append p (slice_range xs a e) (drop (e - a) (drop a xs))
      ∙ ap (λ zs. filter p (slice_range xs a e) ++ zs) last
      ∙ append-nil (filter p (slice_range xs a e)))

no_image : (name : RegionName) (b : Bool) (slot : ℕ) → option_and_then (call_of name) (if b then Some (on_images slot) else None) ≡ None
no_image name true slot = refl
no_image name false slot = refl

-- an entry of another number lists nothing for the region
other_call : (name : RegionName) (kind : FaultKind) (slot call : ℕ) → (number_of name == slot) ≡ false → option_and_then (call_of name) (planned_as kind slot call) ≡ None
other_call (of_memory n) Memory slot call e = rw e refl
other_call (of_memory n) Table slot call e = refl
other_call (of_memory n) Stack slot call e = refl
other_call (of_memory n) OnDemand slot call e = refl
other_call (of_table n) Memory slot call e = refl
other_call (of_table n) Table slot call e = rw e refl
other_call (of_table n) Stack slot call e = refl
other_call (of_table n) OnDemand slot call e = refl
other_call (of_stack n) Memory slot call e = refl
other_call (of_stack n) Table slot call e = refl
other_call (of_stack n) Stack slot call e = rw e refl
other_call (of_stack n) OnDemand slot call e = refl
other_call (of_on_demand n) Memory slot call e = refl
other_call (of_on_demand n) Table slot call e = refl
other_call (of_on_demand n) Stack slot call e = refl
other_call (of_on_demand n) OnDemand slot call e = rw e refl
other_call name Image slot call e = no_image name (call == 0) slot

other_image : (id slot : ℕ) (b : Bool) → (id == slot) ≡ false → option_map_or (is_of_images id) (if b then Some (on_images slot) else None) false ≡ false
other_image id slot true e = e
other_image id slot false e = refl

other_module : (id : ℕ) (kind : FaultKind) (slot call : ℕ) → (id == slot) ≡ false → option_map_or (is_of_images id) (planned_as kind slot call) false ≡ false
other_module id Memory slot call e = refl
other_module id Table slot call e = refl
other_module id Stack slot call e = refl
other_module id OnDemand slot call e = refl
other_module id Image slot call e = other_image id slot (call == 0) e

-- two lists with the same entries of a region's number list the same calls on it
pub calls_by_number : (name : RegionName) (xs ys : List Fault) → filter (has_number (number_of name)) xs ≡ filter (has_number (number_of name)) ys → filter_map (planned_call name) xs ≡ filter_map (planned_call name) ys
calls_by_number name xs ys same =
    let none : (f : Fault) → has_number (number_of name) f ≡ false → planned_call name f ≡ None = λ f e. other_call name f.kind f.slot f.call e in
    sym (filter_map-filter (has_number (number_of name)) (planned_call name) none xs)
    ∙ ap (filter_map (planned_call name)) same
    ∙ filter_map-filter (has_number (number_of name)) (planned_call name) none ys

-- and of a module's number
pub images_by_number : (id : ℕ) (xs ys : List Fault) → filter (has_number id) xs ≡ filter (has_number id) ys → list_any (plans_images id) xs ≡ list_any (plans_images id) ys
images_by_number id xs ys same =
    let none : (f : Fault) → has_number id f ≡ false → plans_images id f ≡ false = λ f e. other_module id f.kind f.slot f.call e in
    sym (list_any-filter (has_number id) (plans_images id) none xs)
    ∙ ap (list_any (plans_images id)) same
    ∙ list_any-filter (has_number id) (plans_images id) none ys

-- numbers apart
pub is_below : (n slot : ℕ) → ltb slot n ≡ true → (n == slot) ≡ false
is_below n slot e = ne_eqb n slot (λ same. absurd (omega (arith, same, ltb-true slot n e)))

pub is_above : (n slot : ℕ) → leb slot n ≡ false → (n == slot) ≡ false
is_above n slot e = ne_eqb n slot (λ same. absurd (omega (arith, same, leb-false slot n e)))
