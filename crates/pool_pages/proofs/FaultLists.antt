-- What a list of planned failures lists, entry by entry.
use Rattle.std.proofs.Common.{◌≡◌, ℕ, Bool, false, List, [], ◌∷◌, ◌||◌, ◌==◌, ◌++◌, ◌+◌, ◌<◌, length, take, get_or, Option, Some, None, refl, ap, sym, ◌∙◌}
use Rattle.pool_pages.proofs.Imports.{filter_map-append, take_more, filter_map, cons_option, list_any, option_and_then, option_map_or}
use Rattle.pool_pages.specs.MakerTold.{calls_of, call_of, fails_making, is_of_images, fails_images}
use Rattle.pool_pages.specs.declared.pages.RegionName.{RegionName}
use Rattle.pool_pages.specs.declared.fault_plan.Fault.{Fault}
use Rattle.pool_pages.specs.FaultPlans.{planned_of, planned_faults, planned_call, plans_images}

module _ {X Y Z : Type 0} (f : X → Option Y) (g : Y → Option Z) where
  filter_map-cons_option : (y : Option Y) (ys : List Y) → filter_map g (cons_option y ys) ≡ cons_option (option_and_then g y) (filter_map g ys)
  filter_map-cons_option None ys = refl
  filter_map-cons_option (Some y) ys = refl

  pub filter_map-filter_map : (xs : List X) → filter_map g (filter_map f xs) ≡ filter_map (λ x. option_and_then g (f x)) xs
  filter_map-filter_map [] = refl
  filter_map-filter_map (x ∷ xs) = filter_map-cons_option (f x) (filter_map f xs) ∙ ap (cons_option (option_and_then g (f x))) (filter_map-filter_map xs)

-- one more entry of a list
pub filter_map-take : {X Y : Type 0} (h : X → Option Y) (xs : List X) (i : ℕ) (d : X) → i < length xs → filter_map h (take (i + 1) xs) ≡ filter_map h (take i xs) ++ cons_option (h (get_or xs i d)) []
filter_map-take h xs i d below = ap (filter_map h) (take_more xs i d below) ∙ filter_map-append h (take i xs) (get_or xs i d ∷ [])

pub listed_more : {X Y : Type 0} (h : X → Option Y) (xs : List X) (i : ℕ) (d : X) (y : Option Y) (ys zs : List Y) → i < length xs → ys ≡ filter_map h (take i xs) → y ≡ h (get_or xs i d) → zs ≡ ys ++ cons_option y [] → zs ≡ filter_map h (take (i + 1) xs)
listed_more h xs i d y ys zs below before is more =
    more
    ∙ ap (λ l. l ++ cons_option y []) before
    ∙ ap (λ o. filter_map h (take i xs) ++ cons_option o []) is
    ∙ sym (filter_map-take h xs i d below)

pub calls_planned : (name : RegionName) (faults : List Fault) → calls_of name (planned_faults faults) ≡ filter_map (planned_call name) faults
calls_planned name faults = filter_map-filter_map planned_of (call_of name) faults

-- whether the making of a region is listed, as the code finds it
pub making_planned : (name : RegionName) (faults : List Fault) (calls items : List ℕ) (b : Bool) → calls ≡ filter_map (planned_call name) faults → items ≡ calls → list_any (λ call. call == 0) items ≡ b → fails_making name (planned_faults faults) ≡ b
making_planned name faults calls items b is same h =
    ap (list_any (λ call. call == 0)) (calls_planned name faults ∙ sym is ∙ sym same) ∙ h

list_any-cons_option : {X : Type 0} (p : X → Bool) (x : Option X) (xs : List X) → list_any p (cons_option x xs) ≡ (option_map_or p x false || list_any p xs)
list_any-cons_option p None xs = refl
list_any-cons_option p (Some x) xs = refl

pub images_planned : (id : ℕ) (faults : List Fault) → fails_images id (planned_faults faults) ≡ list_any (plans_images id) faults
images_planned id [] = refl
images_planned id (x ∷ xs) =
    list_any-cons_option (is_of_images id) (planned_of x) (planned_faults xs)
    ∙ ap (λ b. plans_images id x || b) (images_planned id xs)
