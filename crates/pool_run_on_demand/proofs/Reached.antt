-- A run on demand leaves out those of its input's faults that are for the last numbers of regions and calls. What the others plan
-- is what all of them plan but for these, and what holds of a run over a maker with the others is said of one with all.
use Rattle.std.proofs.Common.{◌≡◌, ℕ, ◌+◌, ◌-◌, ◌^◌, ◌≤◌, nat_lt, not, Bool, true, false, cond, List, [], ◌∷◌, filter, Option, Some, None, Result, Ok, Err, ◌⊎◌, inl, inr, refl, sym, ap, ◌∙◌, subst, arith, is_some, ◌&&◌, ◌||◌, ◌==◌, if◌then◌else◌, IfOk, IfSome, sum}
use Rattle.pool_run_on_demand.proofs.Imports.{list_any, cons_option, option_map_or, and_parts, and_from, MakerTold, Planned, on_region, on_images, Memory, Table, OnDemand, one_if, failing_maker, planned_faults, Rose, MemoryDecl, ModuleInfo, Tunables, has_images, ModulesFault, images_listed, with_faults, Input}
use Rattle.pool_images.specs.Images.{makes_listed_images}
use Rattle.pool_pages.specs.FaultPlans.{planned_as, planned_of}
use Rattle.pool_pages.specs.MakerTold.{fails_images}
use Rattle.pool_pages.specs.Told.{joined_plan}
use Rattle.pool_pages.specs.declared.fault_plan.Fault.{Fault}
use Rattle.pool_pages.specs.declared.fault_plan.FaultKind.{FaultKind}
use Rattle.pool_pages.specs.declared.fault_plan.FaultKind.TheVariants as as_kind
use Rattle.pool_pages.specs.declared.pages.RegionName.TheVariants.{Stack}
use Rattle.pool_run.specs.declared.output.RunFault.{RunFault}
use Rattle.pool_run.specs.declared.output.RunOutput.{RunOutput}
use Rattle.pool_run.specs.Kept.{can_come, comes_by}
use Rattle.pool_run_on_demand.specs.Faults.{AreListed, IsCounted, ends_before_last, is_before_last, is_from, listed_from, same_entry}
use Rattle.pool_run_on_demand.specs.Runs.{HasFaultedImages, IsOnDemand}
use Rattle.pool_run_on_demand.proofs.Spending.{comes_again, none_more, once_first}

-- An entry is for a number before the last, whatever region it is for.
abbrev pub comes : Planned → Bool
comes (on_region (OnDemand n) call) = nat_lt n (2 ^ 32 - 1) && nat_lt call (2 ^ 64 - 1)
comes (on_region (Memory n) call) = nat_lt call (2 ^ 64 - 1)
comes (on_region (Table n) call) = nat_lt call (2 ^ 64 - 1)
comes (on_region (Stack n) call) = nat_lt call (2 ^ 64 - 1)
comes (on_images m) = true

-- what comes of a plan
abbrev pub coming : List Planned → List Planned
coming plan = filter comes plan

-- what lists no last number for regions on demand
abbrev ending : List Planned → List Planned
ending plan = filter is_before_last plan

ends_so : (e : Planned) → comes e ≡ true → is_before_last e ≡ true
ends_so (on_region (OnDemand n) call) is = is
ends_so (on_region (Memory n) call) is = refl
ends_so (on_region (Table n) call) is = refl
ends_so (on_region (Stack n) call) is = refl
ends_so (on_images m) is = refl

-- An entry can come true where what it plans is before the last numbers, or where it plans nothing.
image_comes : (b : Bool) (slot : ℕ) → option_map_or comes (if b then Some (on_images slot) else None) true ≡ true
image_comes true slot = refl
image_comes false slot = refl

comes_planned : (kind : FaultKind) (slot call : ℕ) → comes_by kind slot call ≡ option_map_or comes (planned_as kind slot call) true
comes_planned as_kind.Memory slot call = refl
comes_planned as_kind.Table slot call = refl
comes_planned as_kind.Stack slot call = refl
comes_planned as_kind.OnDemand slot call = refl
comes_planned as_kind.Image slot call = sym (image_comes (call == 0) slot)

plans_none : (f : Fault) (fs : List Fault) → planned_of f ≡ None → planned_faults (f ∷ fs) ≡ planned_faults fs
plans_none f fs none = ap (λ (o : Option Planned). cons_option o (planned_faults fs)) none

plans_one : (f : Fault) (fs : List Fault) (e : Planned) → planned_of f ≡ Some e → planned_faults (f ∷ fs) ≡ e ∷ planned_faults fs
plans_one f fs e one = ap (λ (o : Option Planned). cons_option o (planned_faults fs)) one

-- so the entries that can come true plan what comes of all
pub kept_planned : (faults : List Fault) → planned_faults (filter can_come faults) ≡ coming (planned_faults faults)
kept_planned [] = refl
kept_planned (f ∷ fs) = by (planned_of f) refl (kept_planned fs)
  where
    kept : List Fault
    kept = filter can_come fs

    here : (o : Option Planned) → planned_of f ≡ o → can_come f ≡ option_map_or comes o true
    here o is = comes_planned f.kind f.slot f.call ∙ ap (λ (x : Option Planned). option_map_or comes x true) is

    one : (b : Bool) (e : Planned) → planned_of f ≡ Some e → planned_faults kept ≡ coming (planned_faults fs) → planned_faults (cond b (f ∷ kept) kept) ≡ cond b (e ∷ coming (planned_faults fs)) (coming (planned_faults fs))
    one true e is rest = plans_one f kept e is ∙ ap (λ (plan : List Planned). e ∷ plan) rest
    one false e is rest = rest

    by : (o : Option Planned) → planned_of f ≡ o → planned_faults kept ≡ coming (planned_faults fs) → planned_faults (cond (can_come f) (f ∷ kept) kept) ≡ coming (planned_faults (f ∷ fs))
    by None is rest =
        ap (λ (b : Bool). planned_faults (cond b (f ∷ kept) kept)) (here None is) ∙ plans_none f kept is ∙ rest ∙ sym (ap coming (plans_none f fs is))
    by (Some e) is rest =
        ap (λ (b : Bool). planned_faults (cond b (f ∷ kept) kept)) (here (Some e) is) ∙ one (comes e) e is rest ∙ sym (ap coming (plans_one f fs e is))

-- What comes has no entry for a last number, and where there is none all comes.
first_ends : (b : Bool) (e : Planned) (plan : List Planned) → comes e ≡ b → ends_before_last plan ≡ true → ends_before_last (cond b (e ∷ plan) plan) ≡ true
first_ends true e plan is rest = and_from (is_before_last e) (ends_before_last plan) (ends_so e is) rest
first_ends false e plan is rest = rest

pub coming_ends : (plan : List Planned) → ends_before_last (coming plan) ≡ true
coming_ends [] = refl
coming_ends (e ∷ plan) = first_ends (comes e) e (coming plan) refl (coming_ends plan)

all_end : (plan : List Planned) → ends_before_last plan ≡ true → ending plan ≡ plan
all_end [] ends = refl
all_end (e ∷ plan) ends =
    let parts = and_parts (is_before_last e) (ends_before_last plan) ends in
    ap (λ (b : Bool). cond b (e ∷ ending plan) (ending plan)) parts.0 ∙ ap (λ (rest : List Planned). e ∷ rest) (all_end plan parts.1)

-- Entries for a pool's regions are not counted, and list nothing again that is.
again_with : (f : Planned → Bool) (b : Bool) (e : Planned) (xs ys : List Planned) → list_any f xs ≡ list_any f ys → list_any f (cond b (e ∷ xs) xs) ≡ list_any f (cond b (e ∷ ys) ys)
again_with f true e xs ys same = ap (λ (c : Bool). f e || c) same
again_with f false e xs ys same = same

again_without : (f : Planned → Bool) (b : Bool) (e : Planned) (xs ys : List Planned) → f e ≡ false → list_any f xs ≡ list_any f ys → list_any f (cond b (e ∷ xs) xs) ≡ (f e || list_any f ys)
again_without f true e xs ys none same = ap (λ (c : Bool). f e || c) same
again_without f false e xs ys none same = same ∙ sym (ap (λ (c : Bool). c || list_any f ys) none)

same_again : (n call : ℕ) (plan : List Planned) → comes_again same_entry (on_region (OnDemand n) call) (coming plan) ≡ comes_again same_entry (on_region (OnDemand n) call) (ending plan)
same_again n call [] = refl
same_again n call (on_images m ∷ plan) = same_again n call plan
same_again n call (on_region (OnDemand m) other ∷ plan) =
    again_with (λ (y : Planned). same_entry y (on_region (OnDemand n) call)) (nat_lt m (2 ^ 32 - 1) && nat_lt other (2 ^ 64 - 1)) (on_region (OnDemand m) other) (coming plan) (ending plan) (same_again n call plan)
same_again n call (on_region (Memory m) other ∷ plan) =
    again_without (λ (y : Planned). same_entry y (on_region (OnDemand n) call)) (nat_lt other (2 ^ 64 - 1)) (on_region (Memory m) other) (coming plan) (ending plan) refl (same_again n call plan)
same_again n call (on_region (Table m) other ∷ plan) =
    again_without (λ (y : Planned). same_entry y (on_region (OnDemand n) call)) (nat_lt other (2 ^ 64 - 1)) (on_region (Table m) other) (coming plan) (ending plan) refl (same_again n call plan)
same_again n call (on_region (Stack m) other ∷ plan) =
    again_without (λ (y : Planned). same_entry y (on_region (OnDemand n) call)) (nat_lt other (2 ^ 64 - 1)) (on_region (Stack m) other) (coming plan) (ending plan) refl (same_again n call plan)

counted_with : (next : ℕ) (b : Bool) (e : Planned) (xs ys : List Planned) → comes_again same_entry e xs ≡ comes_again same_entry e ys → listed_from next xs ≡ listed_from next ys → listed_from next (cond b (e ∷ xs) xs) ≡ listed_from next (cond b (e ∷ ys) ys)
counted_with next true e xs ys again same =
    once_first same_entry (is_from next) e xs
    ∙ ap (λ (c : Bool). one_if (not c && is_from next e) + listed_from next xs) again
    ∙ ap (λ (n : ℕ). one_if (not (comes_again same_entry e ys) && is_from next e) + n) same
    ∙ sym (once_first same_entry (is_from next) e ys)
counted_with next false e xs ys again same = same

not_counted : (next : ℕ) (b : Bool) (e : Planned) (xs : List Planned) → is_from next e ≡ false → listed_from next (cond b (e ∷ xs) xs) ≡ listed_from next xs
not_counted next true e xs none =
    let first = once_first same_entry (is_from next) e xs in
    let here : one_if (not (comes_again same_entry e xs) && is_from next e) ≡ 0 = ap (λ (c : Bool). one_if (not (comes_again same_entry e xs) && c)) none ∙ none_more (comes_again same_entry e xs) in
    omega (arith, first, here)
not_counted next false e xs none = refl

same_listed : (next : ℕ) (plan : List Planned) → listed_from next (coming plan) ≡ listed_from next (ending plan)
same_listed next [] = refl
same_listed next (on_images m ∷ plan) =
    not_counted next true (on_images m) (coming plan) refl ∙ same_listed next plan ∙ sym (not_counted next true (on_images m) (ending plan) refl)
same_listed next (on_region (OnDemand n) call ∷ plan) =
    counted_with next (nat_lt n (2 ^ 32 - 1) && nat_lt call (2 ^ 64 - 1)) (on_region (OnDemand n) call) (coming plan) (ending plan) (same_again n call plan) (same_listed next plan)
same_listed next (on_region (Memory n) call ∷ plan) =
    not_counted next (nat_lt call (2 ^ 64 - 1)) (on_region (Memory n) call) (coming plan) refl ∙ same_listed next plan ∙ sym (not_counted next true (on_region (Memory n) call) (ending plan) refl)
same_listed next (on_region (Table n) call ∷ plan) =
    not_counted next (nat_lt call (2 ^ 64 - 1)) (on_region (Table n) call) (coming plan) refl ∙ same_listed next plan ∙ sym (not_counted next true (on_region (Table n) call) (ending plan) refl)
same_listed next (on_region (Stack n) call ∷ plan) =
    not_counted next (nat_lt call (2 ^ 64 - 1)) (on_region (Stack n) call) (coming plan) refl ∙ same_listed next plan ∙ sym (not_counted next true (on_region (Stack n) call) (ending plan) refl)

-- What pays for the faults of a plan without last numbers has as many that come, if its own list has none of these.
pub counted_paid : (maker : MakerTold) (plan : List Planned) (met left later : ℕ) → ends_before_last maker.listed ≡ true → (ends_before_last plan ≡ true → met + (left + later) ≤ 0 + listed_from maker.next plan) → IsCounted maker plan → AreListed maker.next plan met
counted_paid maker plan met left later own paid counted =
    let ends : ends_before_last plan ≡ true = elim counted [
      | inl same ↦ ap ends_before_last same ∙ own
      | inr is ↦ is
    ] in
    subst (λ (p : List Planned). met ≤ listed_from maker.next p) (sym (all_end plan ends)) (omega (arith, paid ends))

-- The makings of images that are listed come.
images_come : (id : ℕ) (plan : List Planned) → fails_images id (coming plan) ≡ fails_images id plan
images_come id [] = refl
images_come id (on_images m ∷ plan) = ap (λ (b : Bool). (id == m) || b) (images_come id plan)
images_come id (on_region of call ∷ plan) = by (comes (on_region of call)) (images_come id plan)
  where
    by : (b : Bool) → fails_images id (coming plan) ≡ fails_images id plan → fails_images id (cond b (on_region of call ∷ coming plan) (coming plan)) ≡ fails_images id plan
    by true rest = rest
    by false rest = rest

decls_come : (id : ℕ) (plan : List Planned) (decls : List MemoryDecl) → makes_listed_images (record { 0 = id }) (coming plan) decls ≡ makes_listed_images (record { 0 = id }) plan decls
decls_come id plan decls = ap (λ (b : Bool). list_any (λ (d : MemoryDecl). is_some d.image && b) decls) (images_come id plan)

pub modules_come : (tunables : Tunables) (page n : ℕ) (plan : List Planned) (ms : List ModuleInfo) → images_listed tunables page n (coming plan) ms ≡ images_listed tunables page n plan ms
modules_come tunables page n plan [] = refl
modules_come tunables page n plan (m ∷ ms) =
    ap (λ (b : Bool). (has_images tunables page m.memories && b) || images_listed tunables page (n + 1) (coming plan) ms) (decls_come n plan m.memories)
    ∙ ap (λ (b : Bool). (has_images tunables page m.memories && makes_listed_images (record { 0 = n }) plan m.memories) || b) (modules_come tunables page (n + 1) plan ms)

-- What is told of a plan before which what comes stands is told of one before which all stands.
joined_empty : (plan : List Planned) → joined_plan (Some []) plan ≡ Some plan
joined_empty [] = refl
joined_empty (e ∷ plan) = refl

told_all : (behind : Option (List Planned)) (listed : List Planned) (P Q : List Planned → Type 0) → (P (coming listed) → Q listed) → ((plan : List Planned) → listed ≡ [] → P plan → Q plan) → IfSome (joined_plan behind (coming listed)) P → IfSome (joined_plan behind listed) Q
told_all None [] P Q here own is = tt
told_all None (e ∷ listed) P Q here own is = tt
told_all (Some plan) [] P Q here own is = own plan refl is
told_all (Some []) (e ∷ listed) P Q here own is = here (subst (λ (o : Option (List Planned)). IfSome o P) (joined_empty (coming (e ∷ listed))) is)
told_all (Some (x ∷ xs)) (e ∷ listed) P Q here own is = tt

module _ (input : Input) (behind : MakerTold) where
  abbrev listed : List Planned
  listed = planned_faults input.faults

  -- The maker with the faults that can come.
  abbrev pub with_coming : MakerTold
  with_coming = failing_maker behind input.page (coming listed) behind.next behind.faults

  counted : (met : ℕ) → IfSome with_coming.plan (λ plan. IsCounted with_coming plan → AreListed behind.next plan met) → IfSome (with_faults input behind).plan (λ plan. IsCounted (with_faults input behind) plan → AreListed behind.next plan met)
  counted met is =
      told_all behind.plan listed (λ plan. IsCounted with_coming plan → AreListed behind.next plan met) (λ plan. IsCounted (with_faults input behind) plan → AreListed behind.next plan met)
      (λ few own.
      let some : met ≤ listed_from behind.next (coming listed) = subst (λ (plan : List Planned). met ≤ listed_from behind.next plan) (all_end (coming listed) (coming_ends listed)) (few (inl refl)) in
      omega (arith, some, same_listed behind.next listed))
      (λ plan none few own. few (elim own [
        | inl same ↦ inl (same ∙ none ∙ sym (ap coming none))
        | inr ends ↦ inr ends
      ])) is

  abbrev has_listed : Bool → List Planned → Type 0
  has_listed b plan = images_listed input.tunables input.page 0 plan input.modules ≡ b

  images_all : (b : Bool) → IfSome with_coming.plan (has_listed b) → IfSome (with_faults input behind).plan (has_listed b)
  images_all b is = told_all behind.plan listed (has_listed b) (has_listed b) (λ comes. sym (modules_come input.tunables input.page 0 listed input.modules) ∙ comes) (λ plan none has. has) is

  -- So a run over it is one of the input, and its images fail as the input lists it.
  pub over_all : (output : RunOutput) → IsOnDemand input with_coming output → IsOnDemand input (with_faults input behind) output
  over_all output is = record {
    replies = record {
      count = is.replies.count;
      met = is.replies.met;
      numbered = is.replies.numbered;
      told = is.replies.told;
      few = counted (sum is.replies.met) is.replies.few;
      due = is.replies.due;
    };
    own = sym (modules_come input.tunables input.page 0 listed input.modules) ∙ is.own;
    unlisted = images_all false is.unlisted;
    metrics = is.metrics;
    calls = is.calls;
  }

  pub faulted_all : (left before after : MakerTold) → before ≡ with_coming → ModulesFault input.tunables input.page input.modules before after → after.behind ≡ left.faults → HasFaultedImages input behind left
  faulted_all left before after is fault same =
      let Listed : MakerTold → Type 0 = λ m. IfSome m.plan (has_listed true) in
      let Caused : MakerTold → ℕ → Type 0 = λ m n. (images_listed input.tunables input.page 0 m.listed input.modules ≡ true) ⊎ Rose m.behind n in
      let cause : Caused with_coming left.faults = subst (Caused with_coming) same (subst (λ (m : MakerTold). Caused m after.behind) is fault.cause) in
      record {
        cause = elim cause [
          | inl comes ↦ inl (sym (modules_come input.tunables input.page 0 listed input.modules) ∙ comes)
          | inr rose ↦ inr rose
        ];
        planned = images_all true (subst Listed is fault.planned);
      }

pub run_all : (input : Input) (behind told : MakerTold) (result : Result RunOutput RunFault) → told ≡ with_coming input behind → IfOk result (IsOnDemand input told) → IfOk result (IsOnDemand input (with_faults input behind))
run_all input behind told (Ok output) same is = over_all input behind output (subst (λ (m : MakerTold). IsOnDemand input m output) same is)
run_all input behind told (Err e) same is = tt
