-- The faults of an input that can come plan no call by the last number of a count of calls. So the bound on faults holds over a maker that has none
-- of its own.
use Rattle.std.proofs.Common.{◌≡◌, ℕ, ◌-◌, ◌^◌, Bool, true, false, cond, List, [], ◌∷◌, filter, Option, Some, None, Result, Ok, Err, refl, sym, ap, ◌∙◌, subst, arith, nat_lt, ◌==◌, ◌||◌, if◌then◌else◌, IfOk}
use Rattle.std.proofs.lemmas.Bool.{and_parts}
use Rattle.std.proofs.lemmas.Bool.Decides.{nat_tests}
use Rattle.std.specs.List.{cons_option}
use Rattle.pool_pages.specs.FaultPlans.{planned_as, planned_faults}
use Rattle.pool_pages.specs.MakerTold.{MakerTold, Planned, on_region, on_images, calls_of, part_of, plan_for, same_name}
use Rattle.pool_pages.specs.Told.{Told, joined_plan}
use Rattle.pool_pages.specs.declared.fault_plan.Fault.{Fault}
use Rattle.pool_pages.specs.declared.fault_plan.FaultKind.{FaultKind}
use Rattle.pool_pages.specs.declared.fault_plan.FaultKind.TheVariants.{Memory, Table, Stack, Image, OnDemand}
use Rattle.pool_pages.specs.declared.pages.RegionName.{RegionName}
use Rattle.pool_pages.specs.declared.pages.RegionName.TheVariants as region
use Rattle.pool_driver.specs.ListedCalls.{EndsBeforeLast, lists_last}
use Rattle.pool_run.specs.Kept.{can_come, comes_by}
use Rattle.pool_run.specs.Runs.{FaultsInMaking, with_faults}
use Rattle.pool_run.specs.declared.input.Input.{Input}
use Rattle.pool_run.specs.declared.output.RunFault.{RunFault}
use Rattle.pool_run.specs.declared.output.RunOutput.{RunOutput}
use Rattle.pool_workers.specs.Listed.{FewFaulted, coming}
use Rattle.pool_workers.specs.Threads.{HaveRunBeside}

not_last : (call : ℕ) → nat_lt call (2 ^ 64 - 1) ≡ true → (call == 2 ^ 64 - 1) ≡ false
not_last call below = grind (arith, nat_tests)

-- One entry for a call before the last number adds none.
call_added : (here : Bool) (call : ℕ) (calls : List ℕ) → nat_lt call (2 ^ 64 - 1) ≡ true → lists_last calls ≡ false → lists_last (cons_option (if here then Some call else None) calls) ≡ false
call_added true call calls below rest = ap (λ (b : Bool). b || lists_last calls) (not_last call below) ∙ rest
call_added false call calls below rest = rest

on_region_added : (name of : RegionName) (call : ℕ) (plan : List Planned) → nat_lt call (2 ^ 64 - 1) ≡ true → lists_last (calls_of name plan) ≡ false → lists_last (calls_of name (on_region of call ∷ plan)) ≡ false
on_region_added name of call plan below rest = call_added (same_name name of) call (calls_of name plan) below rest

image_added : (b : Bool) (name : RegionName) (slot : ℕ) (plan : List Planned) → lists_last (calls_of name plan) ≡ false → lists_last (calls_of name (cons_option (if b then Some (on_images slot) else None) plan)) ≡ false
image_added true name slot plan rest = rest
image_added false name slot plan rest = rest

one_added : (name : RegionName) (kind : FaultKind) (slot call : ℕ) (plan : List Planned) → comes_by kind slot call ≡ true → lists_last (calls_of name plan) ≡ false → lists_last (calls_of name (cons_option (planned_as kind slot call) plan)) ≡ false
one_added name Memory slot call plan below rest = on_region_added name (region.Memory slot) call plan below rest
one_added name Table slot call plan below rest = on_region_added name (region.Table slot) call plan below rest
one_added name Stack slot call plan below rest = on_region_added name (region.Stack slot) call plan below rest
one_added name OnDemand slot call plan below rest = on_region_added name (region.OnDemand slot) call plan (and_parts (nat_lt slot (2 ^ 32 - 1)) (nat_lt call (2 ^ 64 - 1)) below).1 rest
one_added name Image slot call plan below rest = image_added (call == 0) name slot plan rest

kept_added : (b : Bool) (name : RegionName) (f : Fault) (kept : List Fault) → can_come f ≡ b → lists_last (calls_of name (planned_faults kept)) ≡ false → lists_last (calls_of name (planned_faults (cond b (f ∷ kept) kept))) ≡ false
kept_added true name f kept is rest = one_added name f.kind f.slot f.call (planned_faults kept) is rest
kept_added false name f kept is rest = rest

-- So those that can come list none.
pub no_last : (name : RegionName) (faults : List Fault) → lists_last (calls_of name (planned_faults (filter can_come faults))) ≡ false
no_last name [] = refl
no_last name (f ∷ fs) = kept_added (can_come f) name f (filter can_come fs) refl (no_last name fs)

joined_empty : (plan : List Planned) → joined_plan (Some []) plan ≡ Some plan
joined_empty [] = refl
joined_empty (e ∷ plan) = refl

-- The maker with these faults tells its plan, where the one behind has none.
plan_told : (input : Input) (behind : MakerTold) → behind.plan ≡ Some [] → (with_faults (coming input) behind).plan ≡ Some (planned_faults (filter can_come input.faults))
plan_told input behind none = ap (λ (o : Option (List Planned)). joined_plan o (planned_faults (filter can_come input.faults))) none ∙ joined_empty (planned_faults (filter can_come input.faults))

-- The plans of regions are told then, and list no last number.
coming_ends : (input : Input) (behind : MakerTold) (slot : ℕ) → behind.plan ≡ Some [] → EndsBeforeLast (plan_for (region.Memory slot) (with_faults (coming input) behind))
coming_ends input behind slot none =
    let maker : MakerTold = with_faults (coming input) behind in
    subst (λ (o : Option (List Planned)). EndsBeforeLast (part_of (region.Memory slot) o maker.layers)) (sym (plan_told input behind none)) (no_last (region.Memory slot) input.faults)

pub few_of_run : (input : Input) (behind : MakerTold) (r : Result RunOutput RunFault) → IfOk r (λ output. HaveRunBeside input (with_faults (coming input) behind) output.replies) → IfOk r (λ output. FewFaulted input behind output.replies)
few_of_run input behind (Ok output) run = λ none. record { faults = run.faults (λ i below. coming_ends input behind i none); ends = λ slot. coming_ends input behind slot none }
few_of_run input behind (Err e) run = tt

-- What is made for an input doesn't go by its faults.
pub making_of_coming : {P : Type 0} (told : P → Told) (input : Input) (old new : MakerTold) → FaultsInMaking told input old new → FaultsInMaking told (coming input) old new
making_of_coming told input old new fault = record { rose = fault.rose; cause = fault.cause; planned = fault.planned }
