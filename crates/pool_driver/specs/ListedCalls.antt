-- How many different calls plans list on regions, and how many calls that met a fault these allow.
use Rattle.std.specs.Prelude.{◌≡◌, ℕ, zero, suc, ◌+◌, ◌-◌, ◌^◌, ◌<◌, ◌≤◌, ◌==◌, ◌⊎◌, List, [], ◌∷◌, Bool, false, true, not, Option, Some, None}
use Rattle.std.specs.List.{list_any}
use Rattle.std.specs.Option.{option_map_or}
use Rattle.pool_hall.specs.Sum.{one_if}
use Rattle.pool_pages.specs.MakerTold.{MakerTold, plan_for}
use Rattle.pool_pages.specs.declared.pages.RegionName.TheVariants.{Memory}

-- How many different calls a plan lists.
abbrev pub calls_listed : List ℕ → ℕ
calls_listed [] = 0
calls_listed (call ∷ plan) = one_if (not (list_any (λ m. m == call) plan)) + calls_listed plan

-- The plan lists the number at which the count of calls stands still: it is that of all later calls too.
abbrev pub lists_last : List ℕ → Bool
lists_last plan = list_any (λ m. m == 2 ^ 64 - 1) plan

-- There are so many at most, unless the plan lists all calls from one on.
abbrev pub AreAtMost : ℕ → List ℕ → ℕ → Type 0
AreAtMost most plan met = (met ≤ most) ⊎ (lists_last plan ≡ true)

-- A plan is told, and ends before that number.
abbrev pub EndsBeforeLast : Option (List ℕ) → Type 0
EndsBeforeLast None = ⊥
EndsBeforeLast (Some plan) = lists_last plan ≡ false

-- So do the plans of the regions of the first n memory slots.
abbrev pub AllEndBeforeLast : MakerTold → ℕ → Type 0
AllEndBeforeLast maker n = (i : ℕ) → i < n → EndsBeforeLast (plan_for (Memory i) maker)

-- How many different calls the plans of these regions list.
abbrev pub listed_on : MakerTold → ℕ → ℕ
listed_on maker zero = 0
listed_on maker (suc n) = listed_on maker n + option_map_or calls_listed (plan_for (Memory n) maker) 0
