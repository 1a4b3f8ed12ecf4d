-- Failures that are planned by kind, number and call, and a maker before which a list of them stands.
use Rattle.std.specs.Prelude.{ℕ, List, [], ◌∷◌, ◌++◌, ◌==◌, Bool, false, if◌then◌else◌, Option, Some, None}
use Rattle.std.specs.List.{filter_map}
use Rattle.std.specs.Option.{option_and_then, option_map_or}
use Rattle.pool_pages.specs.Told.{joined_plan}
use Rattle.pool_pages.specs.MakerTold.{MakerTold, Planned, on_region, on_images, call_of, is_of_images}
use Rattle.pool_pages.specs.declared.pages.RegionName.{RegionName}
use Rattle.pool_pages.specs.declared.pages.RegionName.TheVariants.{Memory as of_memory, Table as of_table, Stack as of_stack, OnDemand as of_on_demand}
use Rattle.pool_pages.specs.declared.fault_plan.Fault.{Fault}
use Rattle.pool_pages.specs.declared.fault_plan.FaultKind.{FaultKind}
use Rattle.pool_pages.specs.declared.fault_plan.FaultKind.TheVariants.{Memory, Table, Stack, Image, OnDemand}

-- what an entry plans: a call on a region, or the making of a module's images; of these there is call 0 alone
abbrev pub planned_as : FaultKind → ℕ → ℕ → Option Planned
planned_as Memory slot call = Some (on_region (of_memory slot) call)
planned_as Table slot call = Some (on_region (of_table slot) call)
planned_as Stack slot call = Some (on_region (of_stack slot) call)
planned_as OnDemand slot call = Some (on_region (of_on_demand slot) call)
planned_as Image slot call = if call == 0 then Some (on_images slot) else None

-- What one entry of an input's list of faults plans, if its kind can be planned.
abbrev pub planned_of : Fault → Option Planned
planned_of fault = planned_as fault.kind fault.slot fault.call

-- All that an input's list of faults plans, in the list's order.
abbrev pub planned_faults : List Fault → List Planned
planned_faults faults = filter_map planned_of faults

-- the call that an entry lists for this region
abbrev pub planned_call : RegionName → Fault → Option ℕ
planned_call name fault = option_and_then (call_of name) (planned_of fault)

-- the entry lists the images of this module
abbrev pub plans_images : ℕ → Fault → Bool
plans_images id fault = option_map_or (is_of_images id) (planned_of fault) false

-- plans that stand one behind the other, with one more before them
abbrev pub layers_before : List Planned → Option (List Planned) → List (List Planned) → List (List Planned)
layers_before listed (Some plan) layers = plan ∷ listed ∷ []
layers_before listed None [] = []
layers_before listed None (last ∷ before) = last ∷ (before ++ listed ∷ [])

-- It tells what the maker behind it tells, but for its page, its plan and its counts. Its list is told whatever the
-- maker behind tells.
abbrev pub failing_maker : MakerTold → ℕ → List Planned → ℕ → ℕ → MakerTold
failing_maker maker page listed next faults = record {
  page = page;
  tells = maker.tells;
  plan = joined_plan maker.plan listed;
  layers = layers_before listed maker.plan maker.layers;
  listed = listed;
  behind = maker.faults;
  next = next;
  faults = faults;
}
