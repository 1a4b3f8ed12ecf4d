-- The faults that came home to cells of memory slots, all together, are at most as many as the different calls that plans list on these slots'
-- regions.
use Rattle.std.proofs.Common.{◌≡◌, ℕ, zero, suc, ◌+◌, ◌-◌, ◌^◌, ◌<◌, ◌≤◌, ◌==◌, Bool, true, false, List, [], ◌∷◌, Option, Some, None, refl, sym, ap, subst, ◌∙◌, arith, inl, inr, slice_index, if◌then◌else◌}
use Rattle.std.proofs.lemmas.Bool.{cases_lt, eq-eqb}
use Rattle.std.specs.Option.{option_map_or}
use Rattle.pool_pages.specs.MakerTold.{MakerTold, plan_for}
use Rattle.pool_pages.specs.declared.pages.RegionName.TheVariants.{Memory}
use Rattle.pool_hall.specs.Sum.{often, total}
use Rattle.pool_hall.specs.Tally.{counted, number, rise, rise_at}
use Rattle.pool_hall.specs.declared.unit_name.SlotKind.{SlotKind}
use Rattle.pool_hall.specs.declared.unit_name.SlotKind.TheVariants.{Memory as memory_kind}
use Rattle.pool_hall.specs.declared.view.CountRise.{CountRise}
use Rattle.pool_hall.specs.declared.view.View.{View}
use Rattle.pool_slots.specs.Plans.{Role, cell_place, cell_role, role_at}
use Rattle.pool_slots.specs.SlotNames.{of_kind}
use Rattle.pool_slots.specs.declared.plan.Plan.{Plan}
use Rattle.pool_slots.specs.declared.slot_name.SlotName.{SlotName}
use Rattle.pool_slots.proofs.AwayOnce.{cell_at}
use Rattle.pool_alloc.specs.BetweenSteps.{IsPoolPlan}
use Rattle.pool_alloc.specs.Leases.{memory_slot}
use Rattle.pool_alloc.proofs.PlanPlaces.{cell_below, cell_role_at}
use Rattle.pool_driver.specs.Ending.{HasNoted, IsPaid}
use Rattle.pool_driver.specs.ListedCalls.{AllEndBeforeLast, EndsBeforeLast, calls_listed, listed_on}
use Rattle.pool_driver.specs.PageFaults.{cell_faults}
use Rattle.pool_driver.specs.Placed.{About}

-- The sum over the first n numbers.
abbrev upto : (ℕ → ℕ) → ℕ → ℕ
upto f zero = 0
upto f (suc n) = upto f n + f n

-- Of rises only those at the cells of memory slots weigh anything, and no more than the fault count rose.
pub record IsFaultRise (plan : Plan) (weight : ℕ) (e : CountRise) : Type 0 where
  pub slot : SlotName
  pub kind : slot.kind ≡ memory_kind
  pub role : role_at plan e.place ≡ cell_role slot
  pub most : weight ≤ rise (slice_index e.before cell_faults) (slice_index e.after cell_faults)

abbrev pub WeighsFaults : Plan → (CountRise → ℕ) → Type 0
WeighsFaults plan weigh = (e : CountRise) → 0 < weigh e → IsFaultRise plan (weigh e) e

if_most : (b : Bool) (n : ℕ) → (if b then n else 0) ≤ n
if_most true n = omega arith
if_most false n = omega arith

if_some : (b : Bool) (n : ℕ) → 0 < (if b then n else 0) → b ≡ true
if_some true n some' = refl
if_some false n some' = absurd (omega arith)

-- So weighs the sum of what the fault counts rose at places with such roles as only cells of memory slots have.
pub faults_weigh : (plan : Plan) (is_cell : Role → Bool) → ((r : Role) → is_cell r ≡ true → (slot : SlotName) × (slot.kind ≡ memory_kind) × (r ≡ cell_role slot)) →
    WeighsFaults plan (λ e. if is_cell (role_at plan e.place) then rise (slice_index e.before cell_faults) (slice_index e.after cell_faults) else 0)
faults_weigh plan is_cell tells e some' =
    let rose : ℕ = rise (slice_index e.before cell_faults) (slice_index e.after cell_faults) in
    let it = tells (role_at plan e.place) (if_some (is_cell (role_at plan e.place)) rose some') in
    record { slot = it.0; kind = it.1; role = it.2; most = if_most (is_cell (role_at plan e.place)) rose }

upto_add : (f g : ℕ → ℕ) (n : ℕ) → upto (λ i. f i + g i) n ≡ upto f n + upto g n
upto_add f g zero = refl
upto_add f g (suc n) = omega (arith, upto_add f g n)

upto_none : (n : ℕ) → upto (λ i. 0) n ≡ 0
upto_none zero = refl
upto_none (suc n) = omega (arith, upto_none n)

upto_at : (f : ℕ → ℕ) (n i : ℕ) → i < n → f i ≤ upto f n
upto_at f zero i below = absurd (omega arith)
upto_at f (suc n) i below = elim (cases_lt i n) [
  | inl less ↦ omega (arith, upto_at f n i less)
  | inr past ↦ let is : i ≡ n = omega arith in let same' : f i ≡ f n = ap f is in omega arith
]

upto_total : {X : Type 0} (f : ℕ → X → ℕ) (n : ℕ) (xs : List X) → total (λ x. upto (λ i. f i x) n) xs ≡ upto (λ i. total (f i) xs) n
upto_total f n [] = sym (upto_none n)
upto_total f n (x ∷ xs) = let rest = upto_total f n xs in let both = upto_add (λ i. f i x) (λ i. total (f i) xs) n in omega arith

total_within : {X : Type 0} (f g : X → ℕ) (xs : List X) → ((x : X) → f x ≤ g x) → total f xs ≤ total g xs
total_within f g [] each = omega arith
total_within f g (x ∷ xs) each = omega (arith, each x, total_within f g xs each)

-- what a rise is at the cell of each memory slot
abbrev at_slot : Plan → CountRise → ℕ → ℕ
at_slot plan e i = rise_at (cell_place plan (memory_slot i)) cell_faults e

here_all : (b : Bool) (n : ℕ) → b ≡ true → n ≤ (if b then n else 0)
here_all true n is = omega arith
here_all false n is = absurd (cc is)

weight_within : (plan : Plan) (weigh : CountRise → ℕ) → WeighsFaults plan weigh → (e : CountRise) → weigh e ≤ upto (at_slot plan e) plan.totals.memory
weight_within plan weigh faults e = elim (cases_lt 0 (weigh e)) [
  | inl some' ↦
      let it = faults e some' in
      let is : it.slot ≡ memory_slot it.slot.slot = λ i. record { kind = it.kind i; slot = it.slot.slot } in
      let below : it.slot.slot < plan.totals.memory = subst (λ (k : SlotKind). it.slot.slot < of_kind k plan.totals) it.kind (cell_below plan e.place it.slot it.role) in
      let place : cell_place plan (memory_slot it.slot.slot) ≡ e.place = sym (cell_at plan e.place it.slot it.role ∙ ap (cell_place plan) is) in
      let all = here_all (cell_place plan (memory_slot it.slot.slot) == e.place) (rise (slice_index e.before cell_faults) (slice_index e.after cell_faults)) (eq-eqb (cell_place plan (memory_slot it.slot.slot)) e.place place) in
      let at' = upto_at (at_slot plan e) plan.totals.memory it.slot.slot below in
      let most = it.most in
      omega arith
  | inr none ↦ omega arith
]

-- where a plan is told and ends, so many faults are paid for
paid_here : (plan : Option (List ℕ)) (faults : ℕ) → EndsBeforeLast plan → IsPaid plan faults → faults ≤ option_map_or calls_listed plan 0
paid_here None faults ends paid = absurd ends
paid_here (Some calls) faults ends paid = elim paid [
  | inl few ↦ few
  | inr last ↦ absurd (let e : true ≡ false = sym last ∙ ends in cc e)
]

-- what is listed on one of the regions is among what is listed on all
listed_one : (maker : MakerTold) (n i : ℕ) → i < n → option_map_or calls_listed (plan_for (Memory i) maker) 0 ≤ listed_on maker n
listed_one maker zero i below = absurd (omega arith)
listed_one maker (suc n) i below = elim (cases_lt i n) [
  | inl less ↦ omega (arith, listed_one maker n i less)
  | inr past ↦ let is : n ≡ i = omega arith in subst (λ (k : ℕ). option_map_or calls_listed (plan_for (Memory k) maker) 0 ≤ listed_on maker (suc n)) is (omega arith)
]

module _ {T : Type 0} (a : About) (places : ℕ) (v : View T) (plan : IsPoolPlan a.plan places) (noted : HasNoted a places v) where
  -- how many faults came home to the cell of memory slot i
  abbrev faults_of : ℕ → ℕ
  faults_of i = number (counted (cell_place a.plan (memory_slot i)) cell_faults) v

  paid_slot : (i : ℕ) → i < a.plan.totals.memory → IsPaid (plan_for (Memory i) a.maker) (faults_of i)
  paid_slot i below = noted.paid (cell_place a.plan (memory_slot i)) (memory_slot i) refl (cell_role_at a.plan places (memory_slot i) plan (record { cells = tt; inside = below }))

  paid_upto : (n : ℕ) → n ≤ a.plan.totals.memory → AllEndBeforeLast a.maker n → upto faults_of n ≤ listed_on a.maker n
  paid_upto zero within ends = omega arith
  paid_upto (suc n) within ends =
      let so_far = paid_upto n (omega arith) (λ i below. ends i (omega arith)) in
      let here = paid_here (plan_for (Memory n) a.maker) (faults_of n) (ends n (omega arith)) (paid_slot n (omega arith)) in
      omega arith

  -- Whatever weighs rises so, all that the view tells of weighs at most as much as the plans list different calls.
  pub all_paid : (weigh : CountRise → ℕ) → WeighsFaults a.plan weigh → AllEndBeforeLast a.maker a.plan.totals.memory → total weigh v.rises ≤ listed_on a.maker a.plan.totals.memory
  all_paid weigh faults ends =
      let n : ℕ = a.plan.totals.memory in
      let within = total_within weigh (λ e. upto (at_slot a.plan e) n) v.rises (weight_within a.plan weigh faults) in
      let sums : total (λ e. upto (at_slot a.plan e) n) v.rises ≡ upto faults_of n = upto_total (λ i e. at_slot a.plan e i) n v.rises in
      let few = paid_upto n (omega arith) ends in
      omega arith

  -- Where the cell of a memory's slot was noted as topped, the plans list as many different calls as can be counted.
  pub topped_paid : (p : ℕ) (slot : SlotName) → slot.kind ≡ memory_kind → role_at a.plan p ≡ cell_role slot → 0 < often p v.topped → AllEndBeforeLast a.maker a.plan.totals.memory → 2 ^ 64 - 1 ≤ listed_on a.maker a.plan.totals.memory
  topped_paid p slot kind role topped ends =
      let n : ℕ = a.plan.totals.memory in
      let all = noted.topped p slot kind role topped in
      let below : slot.slot < n = subst (λ (k : SlotKind). slot.slot < of_kind k a.plan.totals) kind (cell_below a.plan p slot role) in
      let here = paid_here (plan_for (Memory slot.slot) a.maker) (number (counted p cell_faults) v) (ends slot.slot below) (noted.paid p slot kind role) in
      let among = listed_one a.maker n slot.slot below in
      omega arith
