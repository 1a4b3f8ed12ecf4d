-- The makings of an input's regions and images, among those that are listed.
use Rattle.std.proofs.Common.{◌≡◌, ℕ, zero, suc, ◌+◌, ◌-◌, ◌<◌, ◌≤◌, List, [], ◌∷◌, ◌++◌, length, get_or, map, refl, sym, ap, ◌∙◌, subst, arith, inl, inr, Option, Some, None, Bool, true, false, Result, Err, ◌↔◌, ◌||◌, ◌&&◌, ◌==◌, not, is_some, nat_lt, ◌⊎◌, IfSome, IsSome, slice_get, if◌then◌else◌}
use Rattle.pool_run.proofs.Imports.{list_all, list_any, range_with_len, cases_eq, cases_lt, cases_Bool, and_parts, eqb-true, ltb-true, lt-ltb, le-ltb, or_left, or_right, or_from, length-append, get_or_append_left, get_or-append_right, length-map-range_with_len, get_or-map-range_with_len, list_any-append, or_false, MakerTold, Planned, fails_making, calls_of, plan_for, Told, Rose, ModuleInfo, Tunables, ImageError, Unsupported, ImageOffset, Image, first_misplaced, ends_in_minimum, makes_listed_images, images_from, rounded_up_above, rounded_up, first_broken_rule, slab_stripes, may_stripe, stripe_colour, fails_first_call, fails_colouring, fails_region, FaultedColouring, nth_region, region_count, region_name, fails_slot, IsSlotGivenUp, stripe_of, PartSettings, QueueKind, OfKinds, slots_of, part_settings, lists_making, fails_slots, GivesUpRegion, failing_maker, planned_faults}
use Rattle.pool_pages.specs.declared.fault_plan.Fault.{Fault}
use Rattle.pool_pages.specs.declared.pages.RegionName.TheVariants.{Memory, Table, Stack}
use Rattle.pool_images.specs.declared.memory_image.ImageError.TheVariants as unmade
use Rattle.pool_slots.specs.declared.queued_range.QueueKind.TheVariants as of_queue
use Rattle.pool_run.proofs.RulesNamed.{page_sized}
use Rattle.pool_run.specs.Private.{has_images, images_of}
use Rattle.pool_run.specs.Runs.{Making, region_unmade, region_listed, stripes_of, memory_calls, makings_for, module_listed, images_listed, making_listed, start_listed, IsGivenUp, GivesUp, ModuleFaults, ModulesFault, FaultsInMaking, HasFaultedMaking, with_faults}
use Rattle.pool_run.specs.declared.input.Input.{Input}

listed_from : (t : Tunables) (page n : ℕ) (plan : List Planned) (modules : List ModuleInfo) (i : ℕ) (d : ModuleInfo) → i < length modules → module_listed t page (n + i) plan (get_or modules i d) ≡ true → images_listed t page n plan modules ≡ true
listed_from t page n plan [] i d below is = absurd (omega arith)
listed_from t page n plan (m ∷ ms) zero d below is =
    let place : n + 0 ≡ n = omega arith in
    let P : ℕ → Type 0 = λ k. module_listed t page k plan m ≡ true in
    or_left _ _ (subst P place is)
listed_from t page n plan (m ∷ ms) (suc i) d below is =
    let place : n + suc i ≡ n + 1 + i = omega arith in
    let P : ℕ → Type 0 = λ k. module_listed t page k plan (get_or ms i d) ≡ true in
    or_right _ _ (listed_from t page (n + 1) plan ms i d (omega arith) (subst P place is))

-- where the makings of one module are listed, some making is
pub listed_at : (t : Tunables) (page : ℕ) (plan : Option (List Planned)) (modules : List ModuleInfo) (i : ℕ) (d : ModuleInfo) → i < length modules → IfSome plan (λ p. module_listed t page i p (get_or modules i d) ≡ true) → IfSome plan (λ p. images_listed t page 0 p modules ≡ true)
listed_at t page None modules i d below is = is
listed_at t page (Some p) modules i d below is =
    let place : i ≡ 0 + i = omega arith in
    let P : ℕ → Type 0 = λ k. module_listed t page k p (get_or modules i d) ≡ true in
    listed_from t page 0 p modules i d below (subst P place is)

-- Where no image of one module could be made, none of some module could.
pub module_of_all : (t : Tunables) (page : ℕ) (modules : List ModuleInfo) (i : ℕ) (m : ModuleInfo) (old new : MakerTold) → i < length modules → m ≡ get_or modules i m → ModuleFaults t page i m old new → ModulesFault t page modules old new
module_of_all t page modules i m old new below is fault =
    let At : Option (List Planned) → Type 0 = λ plan. IfSome plan (λ p. images_listed t page 0 p modules ≡ true) in
    let all : (plan : Option (List Planned)) → IfSome plan (λ p. module_listed t page i p m ≡ true) → At plan =
    λ plan one. listed_at t page plan modules i m below (subst (λ (x : ModuleInfo). IfSome plan (λ p. module_listed t page i p x ≡ true)) is one) in
    record {
      rose = fault.rose;
      cause = elim fault.cause [
        | inl own ↦ inl (all (Some old.listed) own)
        | inr behind ↦ inr behind
      ];
      planned = all old.plan fault.planned;
    }

-- and so is some call for the input
images_list : (input : Input) (plan : Option (List Planned)) → IfSome plan (λ p. images_listed input.tunables input.page 0 p input.modules ≡ true) → IfSome plan (λ p. start_listed input p ≡ true)
images_list input None listed = tt
images_list input (Some p) listed = or_right (list_any (region_listed p) (makings_for input)) (images_listed input.tunables input.page 0 p input.modules) listed

pub images_fault : {P : Type 0} (told : P → Told) (input : Input) (modules : List ModuleInfo) (page : ℕ) (old new : MakerTold) → modules ≡ input.modules → page ≡ input.page → ModulesFault input.tunables page modules old new → FaultsInMaking told input old new
images_fault told input modules page old new same is fault =
    let Fault : List ModuleInfo → ℕ → Type 0 = λ ms n. ModulesFault input.tunables n ms old new in
    let here : Fault input.modules input.page = subst (Fault input.modules) is (subst (λ (ms : List ModuleInfo). Fault ms page) same fault) in
    record {
      rose = inl here.rose;
      cause = inl
          (elim here.cause [
            | inl own ↦ inl (or_right (list_any (region_unmade old.listed) (makings_for input)) (images_listed input.tunables input.page 0 old.listed input.modules) own)
            | inr behind ↦ inr behind
          ]);
      planned = images_list input old.plan here.planned;
    }

any_map : {X Y : Type 0} (test : Y → Bool) (f : X → Y) (xs : List X) → list_any test (map f xs) ≡ list_any (λ x. test (f x)) xs
any_map test f [] = refl
any_map test f (x ∷ xs) = ap (λ (b : Bool). test (f x) || b) (any_map test f xs)

any_same : {X : Type 0} (f g : X → Bool) (xs : List X) → ((x : X) → f x ≡ g x) → list_any f xs ≡ list_any g xs
any_same f g [] same = refl
any_same f g (x ∷ xs) same = ap (λ (b : Bool). b || list_any f xs) (same x) ∙ ap (λ (b : Bool). g x || b) (any_same f g xs same)

-- tests that agree on numbers of a row agree on whether one passes
same_any : (f g : ℕ → Bool) (from n : ℕ) → ((i : ℕ) → from ≤ i → i < from + n → f i ≡ g i) → list_any f (range_with_len from n) ≡ list_any g (range_with_len from n)
same_any f g from zero same = refl
same_any f g from (suc n) same = ap (λ b. b || list_any f (range_with_len (from + 1) n)) (same from (omega arith) (omega arith)) ∙ ap (λ b. g from || b) (same_any f g (from + 1) n (λ i low high. same i (omega (arith, low)) (omega (arith, high))))

-- numbers that are told in two rows, and a row that begins later
split_range : (from a b : ℕ) → range_with_len from (a + b) ≡ range_with_len from a ++ range_with_len (from + a) b
split_range from zero b =
    let none : zero + b ≡ b = omega arith in
    let here : from + 0 ≡ from = omega arith in
    ap (range_with_len from) none ∙ ap (λ n. range_with_len n b) (sym here)
split_range from (suc a) b =
    let more : suc a + b ≡ suc (a + b) = omega arith in
    let next : from + 1 + a ≡ from + suc a = omega arith in
    ap (range_with_len from) more ∙ ap (λ (l : List ℕ). from ∷ l) (split_range (from + 1) a b ∙ ap (λ n. range_with_len (from + 1) a ++ range_with_len n b) next)

later_any : (g : ℕ → Bool) (m from n : ℕ) → list_any g (range_with_len (m + from) n) ≡ list_any (λ i. g (m + i)) (range_with_len from n)
later_any g m from zero = refl
later_any g m from (suc n) = let next : m + from + 1 ≡ m + (from + 1) = omega arith in ap (λ k. g (m + from) || list_any g (range_with_len k n)) next ∙ ap (λ b. g (m + from) || b) (later_any g m (from + 1) n)

-- The slots that have a region, one kind after the other.
module _ (totals : OfKinds) where
  nth_memory : (n : ℕ) → n < totals.memory → nth_region totals n ≡ (of_queue.Memory, n)
  nth_memory n inside = rw (lt-ltb n totals.memory inside) refl

  nth_table : (i : ℕ) → i < totals.table → nth_region totals (totals.memory + i) ≡ (of_queue.Table, i)
  nth_table i inside =
      let back : totals.memory + i - totals.memory ≡ i = omega arith in
      rw (le-ltb (totals.memory + i) totals.memory (omega arith), lt-ltb (totals.memory + i) (totals.memory + totals.table) (omega (arith, inside))) (ap (λ (n : ℕ). (of_queue.Table, n)) back)

  nth_stack : (i : ℕ) → nth_region totals (totals.memory + totals.table + i) ≡ (of_queue.Stack, i)
  nth_stack i =
      let back : totals.memory + totals.table + i - (totals.memory + totals.table) ≡ i = omega arith in
      rw (le-ltb (totals.memory + totals.table + i) totals.memory (omega arith), le-ltb (totals.memory + totals.table + i) (totals.memory + totals.table) (omega arith)) (ap (λ (n : ℕ). (of_queue.Stack, n)) back)

  by_kind : (f : QueueKind × ℕ → Bool) → list_any (λ n. f (nth_region totals n)) (range_with_len 0 (region_count totals))
      ≡ ((list_any (λ i. f (of_queue.Memory, i)) (range_with_len 0 totals.memory) || list_any (λ i. f (of_queue.Table, i)) (range_with_len 0 totals.table)) || list_any (λ i. f (of_queue.Stack, i)) (range_with_len 0 totals.stack))
  by_kind f =
      let g : ℕ → Bool = λ n. f (nth_region totals n) in
      let m : ℕ = totals.memory in
      let t : ℕ = totals.table in
      let k : ℕ = totals.stack in
      let first : 0 + m ≡ m + 0 = omega arith in
      let second : 0 + (m + t) ≡ m + t + 0 = omega arith in
      let stacks : list_any g (range_with_len (0 + (m + t)) k) ≡ list_any (λ i. f (of_queue.Stack, i)) (range_with_len 0 k) =
      ap (λ (n : ℕ). list_any g (range_with_len n k)) second ∙ later_any g (m + t) 0 k ∙ same_any (λ i. g (m + t + i)) (λ i. f (of_queue.Stack, i)) 0 k (λ i low high. ap f (nth_stack i)) in
      let tables : list_any g (range_with_len (0 + m) t) ≡ list_any (λ i. f (of_queue.Table, i)) (range_with_len 0 t) =
      ap (λ (n : ℕ). list_any g (range_with_len n t)) first ∙ later_any g m 0 t ∙ same_any (λ i. g (m + i)) (λ i. f (of_queue.Table, i)) 0 t (λ i low high. ap f (nth_table i (omega (arith, high)))) in
      let memories : list_any g (range_with_len 0 m) ≡ list_any (λ i. f (of_queue.Memory, i)) (range_with_len 0 m) = same_any g (λ i. f (of_queue.Memory, i)) 0 m (λ i low high. ap f (nth_memory i (omega (arith, high)))) in
      ap (list_any g) (split_range 0 (m + t) k) ∙ list_any-append g (range_with_len 0 (m + t)) (range_with_len (0 + (m + t)) k)
      ∙ ap (λ b. b || list_any g (range_with_len (0 + (m + t)) k)) (ap (list_any g) (split_range 0 m t) ∙ list_any-append g (range_with_len 0 m) (range_with_len (0 + m) t) ∙ ap (λ b. b || list_any g (range_with_len (0 + m) t)) memories ∙ ap (λ b. list_any (λ i. f (of_queue.Memory, i)) (range_with_len 0 m) || b) tables)
      ∙ ap (λ b. (list_any (λ i. f (of_queue.Memory, i)) (range_with_len 0 m) || list_any (λ i. f (of_queue.Table, i)) (range_with_len 0 t)) || b) stacks

-- Where the slab has two stripes or more, memories have some size.
sized_if : (b : Bool) (n : ℕ) → 1 < (if b then n else 1) → b ≡ true
sized_if true n more = refl
sized_if false n more = absurd (omega (arith, more))

pub striped_size : (input : Input) → 0 < input.page → 1 < stripes_of input → 0 < rounded_up input.page input.config.limits.max_memory_size
striped_size input page more =
    let may : may_stripe input.config input.tunables input.offered ≡ true = sized_if (may_stripe input.config input.tunables input.offered) _ more in
    let guards = and_parts (nat_lt 0 input.tunables.memory_guard_size) _ may in
    let sizes = and_parts (nat_lt 0 input.config.limits.max_memory_size) _ guards.1 in
    let some : 0 < input.config.limits.max_memory_size = ltb-true _ _ sizes.0 in
    omega (arith, some, rounded_up_above input.page input.config.limits.max_memory_size page)

-- A memory's region is made by its making, and where there are stripes by the first call on it.
first_call : (len : ℕ) (calls : List ℕ) → 0 < len → fails_first_call len calls ≡ list_any (λ call. call == 1) calls
first_call len calls some =
    elim (cases_Bool (len == 0)) [
      | inl none ↦ absurd (omega (arith, some, eqb-true len 0 none))
      | inr not ↦ ap (λ (b : Bool). if b then false else list_any (λ call. call == 1) calls) not
    ]

memory_by : (b : Bool) (colour len slot : ℕ) (plan : List Planned) → (b ≡ true → 0 < len) → region_listed plan (record { region = Memory slot; calls = if b then 0 ∷ 1 ∷ [] else 0 ∷ [] }) ≡ fails_region (if b then Some colour else None) len slot plan
memory_by false colour len slot plan some = or_false (fails_making (Memory slot) plan)
memory_by true colour len slot plan some = ap (λ (b : Bool). fails_making (Memory slot) plan || b) (or_false (list_any (λ n. n == 1) (calls_of (Memory slot) plan)) ∙ sym (first_call len (calls_of (Memory slot) plan) (some refl)))

-- A stack's region is made by its making and by the first call on it.
stack_by : (page slot : ℕ) (plan : List Planned) → 0 < page → region_listed plan (record { region = Stack slot; calls = 0 ∷ 1 ∷ [] }) ≡ (fails_making (Stack slot) plan || fails_first_call page (calls_of (Stack slot) plan))
stack_by page slot plan some = ap (λ (b : Bool). fails_making (Stack slot) plan || b) (or_false (list_any (λ n. n == 1) (calls_of (Stack slot) plan)) ∙ sym (first_call page (calls_of (Stack slot) plan) some))

fails_if : (none fails : Bool) → (if none then false else fails) ≡ true → fails ≡ true
fails_if true fails is = absurd cc
fails_if false fails is = is

module _ (input : Input) where
  abbrev slots : OfKinds
  slots = slots_of input.config

  abbrev memories : List ℕ
  memories = range_with_len 0 input.config.limits.total_memories

  abbrev tables : List ℕ
  tables = range_with_len 0 input.config.limits.total_tables

  abbrev a_memory : ℕ → Making
  a_memory i = record { region = Memory i; calls = memory_calls (stripes_of input) }

  abbrev a_table : ℕ → Making
  a_table i = record { region = Table i; calls = 0 ∷ [] }

  abbrev stacks : List ℕ
  stacks = range_with_len 0 input.config.limits.total_stacks

  abbrev a_stack : ℕ → Making
  a_stack i = record { region = Stack i; calls = 0 ∷ 1 ∷ [] }

  makings_split : (test : Making → Bool) → list_any test (makings_for input) ≡ ((list_any (λ i. test (a_memory i)) memories || list_any (λ i. test (a_table i)) tables) || list_any (λ i. test (a_stack i)) stacks)
  makings_split test =
      list_any-append test (map a_memory memories ++ map a_table tables) (map a_stack stacks)
      ∙ ap (λ (b : Bool). b || list_any test (map a_stack stacks))
      (list_any-append test (map a_memory memories) (map a_table tables)
      ∙ ap (λ (b : Bool). b || list_any test (map a_table tables)) (any_map test a_memory memories)
      ∙ ap (λ (b : Bool). list_any (λ i. test (a_memory i)) memories || b) (any_map test a_table tables))
      ∙ ap (λ (b : Bool). (list_any (λ i. test (a_memory i)) memories || list_any (λ i. test (a_table i)) tables) || b) (any_map test a_stack stacks)

  -- the makings alone
  pool_unmade : (plan : List Planned) → list_any (region_unmade plan) (makings_for input) ≡ lists_making input.config plan
  pool_unmade plan = makings_split (region_unmade plan) ∙ sym (by_kind slots (λ p. fails_making (region_name p.0 p.1) plan))

  -- and with the calls behind them
  pool_listed : (plan : List Planned) → 0 < input.page → list_any (region_listed plan) (makings_for input) ≡ fails_slots input.page input.config input.tunables input.offered input.shards plan
  pool_listed plan page =
      let k : ℕ = stripes_of input in
      let ps : PartSettings = part_settings input.page input.config input.offered in
      let len : ℕ = rounded_up input.page input.config.limits.max_memory_size in
      let each : list_any (λ i. region_listed plan (a_memory i)) memories ≡ list_any (λ i. fails_slot k ps of_queue.Memory i plan) memories =
      any_same (λ i. region_listed plan (a_memory i)) (λ i. fails_slot k ps of_queue.Memory i plan) memories (λ i. memory_by (nat_lt 1 k) (stripe_of i k + 1) len i plan (λ more. striped_size input page (ltb-true 1 k more))) in
      let all : list_any (λ i. region_listed plan (a_table i)) tables ≡ list_any (λ i. fails_slot k ps of_queue.Table i plan) tables =
      any_same (λ i. region_listed plan (a_table i)) (λ i. fails_slot k ps of_queue.Table i plan) tables (λ i. or_false (fails_making (Table i) plan)) in
      let last : list_any (λ i. region_listed plan (a_stack i)) stacks ≡ list_any (λ i. fails_slot k ps of_queue.Stack i plan) stacks =
      any_same (λ i. region_listed plan (a_stack i)) (λ i. fails_slot k ps of_queue.Stack i plan) stacks (λ i. stack_by input.page i plan page) in
      makings_split (region_listed plan) ∙ ap (λ (b : Bool). (b || list_any (λ i. region_listed plan (a_table i)) tables) || list_any (λ i. region_listed plan (a_stack i)) stacks) each
      ∙ ap (λ (b : Bool). (list_any (λ i. fails_slot k ps of_queue.Memory i plan) memories || b) || list_any (λ i. region_listed plan (a_stack i)) stacks) all
      ∙ ap (λ (b : Bool). (list_any (λ i. fails_slot k ps of_queue.Memory i plan) memories || list_any (λ i. fails_slot k ps of_queue.Table i plan) tables) || b) last
      ∙ sym (by_kind slots (λ p. fails_slot k ps p.0 p.1 plan))

  pub regions_unmade : (plan : List Planned) (b : Bool) → lists_making input.config plan ≡ b → list_any (region_unmade plan) (makings_for input) ≡ b
  regions_unmade plan b is = pool_unmade plan ∙ is

  -- the page on which the rules were tested
  pub record IsTestedOn (page : ℕ) : Type 0 where
    pub same : page ≡ input.page
    pub rules : first_broken_rule input.config input.tunables page input.shards input.offered ≡ None

  some_page : (page : ℕ) → IsTestedOn page → 0 < input.page
  some_page page on =
      let Rules : ℕ → Type 0 = λ n. first_broken_rule input.config input.tunables n input.shards input.offered ≡ None in
      let sized = page_sized input (subst Rules on.same on.rules) in
      omega (arith, sized.at_least)

  pub regions_told : (page : ℕ) (plan : Option (List Planned)) (b : Bool) → IsTestedOn page → IfSome plan (λ p. fails_slots page input.config input.tunables input.offered input.shards p ≡ b) → IfSome plan (λ p. list_any (region_listed p) (makings_for input) ≡ b)
  regions_told page None b on is = tt
  regions_told page (Some p) b on is = pool_listed p (some_page page on) ∙ ap (λ (n : ℕ). fails_slots n input.config input.tunables input.offered input.shards p) (sym on.same) ∙ is

  -- where a call is listed that makes a region, some call for the input is
  regions_list : (plan : Option (List Planned)) → IfSome plan (λ p. list_any (region_listed p) (makings_for input) ≡ true) → IfSome plan (λ p. start_listed input p ≡ true)
  regions_list None listed = tt
  regions_list (Some p) listed = or_left (list_any (region_listed p) (makings_for input)) (images_listed input.tunables input.page 0 p input.modules) listed

  -- a region that is given up is one of those that are made
  uncoloured_by : (b : Bool) (colour len : ℕ) (calls : List ℕ) → 0 < len → b ≡ true → fails_colouring (if b then Some colour else None) len calls ≡ true → list_any (λ n. n == 1) calls ≡ true
  uncoloured_by true colour len calls some is fails = sym (first_call len calls some) ∙ fails
  uncoloured_by false colour len calls some is fails = absurd cc

  told_calls : (plan : Option (List ℕ)) (Q R : List ℕ → Type 0) → ((calls : List ℕ) → Q calls → R calls) → IfSome plan Q → IfSome plan R
  told_calls None Q R all is = tt
  told_calls (Some calls) Q R all is = all calls is

  -- what is so of a region that a failed call left which was to give it its colour
  coloured_by : (b : Bool) (colour len : ℕ) (made left : Told) → FaultedColouring (if b then Some colour else None) len made left → (b ≡ true) × (0 < len) × Rose made.faults left.faults × (left.name ≡ made.name)
  coloured_by true colour len made left faulted = (refl, faulted.nonempty, faulted.rose, ap (λ (t : Told). t.name) faulted.same)
  coloured_by false colour len made left faulted = absurd faulted

  pub gives_up : {P : Type 0} (told : P → Told) (maker : MakerTold) → maker.page ≡ input.page → GivesUpRegion told input.config input.tunables input.offered input.shards maker → GivesUp told input maker
  gives_up told maker page some =
      let n : ℕ = some.0 in
      let m : ℕ = slots.memory in
      let At : ℕ → Type 0 = λ p. IsSlotGivenUp told (slab_stripes input.config input.tunables p input.offered) (part_settings p input.config input.offered) (nth_region slots n).0 (nth_region slots n).1 maker in
      let given : At input.page = subst At page some.2 in
      let G : QueueKind × ℕ → Type 0 = λ q. IsSlotGivenUp told (stripes_of input) (part_settings input.page input.config input.offered) q.0 q.1 maker in
      elim (cases_lt n m) [
        | inl memory ↦
            let up = subst G (nth_memory slots n memory) given in
            let shows = coloured_by (nat_lt 1 (stripes_of input)) (stripe_of n (stripes_of input) + 1) (rounded_up input.page input.config.limits.max_memory_size) _ (told up.region) up.faulted in
            let many : nat_lt 1 (stripes_of input) ≡ true = shows.0 in
            let is : IsGivenUp told maker (a_memory n) = record {
              region = up.region;
              named = shows.3;
              counted = shows.2;
              makes = ap (λ (b : Bool). list_any (λ k. k == 1) (if b then 0 ∷ 1 ∷ [] else 0 ∷ [])) many;
              listed = told_calls (plan_for (Memory n) maker) (λ calls. fails_colouring (stripe_colour (stripes_of input) n) (rounded_up input.page input.config.limits.max_memory_size) calls ≡ true) (λ calls. list_any (λ k. k == 1) calls ≡ true)
                  (λ calls fails. uncoloured_by (nat_lt 1 (stripes_of input)) (stripe_of n (stripes_of input) + 1) (rounded_up input.page input.config.limits.max_memory_size) calls shows.1 many fails) up.listed;
            } in
            let row : length (map a_memory memories) ≡ m = length-map-range_with_len a_memory 0 m in
            let first : length (map a_memory memories ++ map a_table tables) ≡ length (map a_memory memories) + length (map a_table tables) = length-append (map a_memory memories) (map a_table tables) in
            let all : length (makings_for input) ≡ length (map a_memory memories ++ map a_table tables) + length (map a_stack stacks) = length-append (map a_memory memories ++ map a_table tables) (map a_stack stacks) in
            let there : get_or (makings_for input) n (a_memory n) ≡ a_memory n = get_or_append_left (map a_memory memories ++ map a_table tables) (map a_stack stacks) (a_memory n) n (omega (arith, memory, row, first))
            ∙ get_or_append_left (map a_memory memories) (map a_table tables) (a_memory n) n (omega (arith, memory, row)) ∙ get_or-map-range_with_len a_memory 0 m n n (a_memory n) memory (omega arith) in
            (n, a_memory n, omega (arith, memory, row, first, all), there, is)
        | inr later ↦
            elim (cases_lt n (m + slots.table)) [
              | inl table ↦
                  let at' : n ≡ m + (n - m) = omega (arith, later) in
                  let below : n - m < slots.table = omega (arith, table, later) in
                  let none : IsSlotGivenUp told (stripes_of input) (part_settings input.page input.config input.offered) of_queue.Table (n - m) maker = subst G (ap (nth_region slots) at' ∙ nth_table slots (n - m) below) given in
                  absurd none
              | inr past ↦
                  let j : ℕ = n - (m + slots.table) in
                  let at' : n ≡ m + slots.table + j = omega (arith, past) in
                  let below : j < slots.stack = omega (arith, some.1, past) in
                  let up = subst G (ap (nth_region slots) at' ∙ nth_stack slots j) given in
                  let is : IsGivenUp told maker (a_stack j) = record {
                    region = up.region;
                    named = ap (λ (t : Told). t.name) up.faulted.same;
                    counted = up.faulted.rose;
                    makes = refl;
                    listed = told_calls (plan_for (Stack j) maker) (λ calls. fails_first_call input.page calls ≡ true) (λ calls. list_any (λ k. k == 1) calls ≡ true)
                        (λ calls fails. fails_if (input.page == 0) (list_any (λ k. k == 1) calls) fails) up.listed;
                  } in
                  let memory_row : length (map a_memory memories) ≡ m = length-map-range_with_len a_memory 0 m in
                  let table_row : length (map a_table tables) ≡ slots.table = length-map-range_with_len a_table 0 slots.table in
                  let stack_row : length (map a_stack stacks) ≡ slots.stack = length-map-range_with_len a_stack 0 slots.stack in
                  let first : length (map a_memory memories ++ map a_table tables) ≡ length (map a_memory memories) + length (map a_table tables) = length-append (map a_memory memories) (map a_table tables) in
                  let all : length (makings_for input) ≡ length (map a_memory memories ++ map a_table tables) + length (map a_stack stacks) = length-append (map a_memory memories ++ map a_table tables) (map a_stack stacks) in
                  let back : n - length (map a_memory memories ++ map a_table tables) ≡ j = omega (arith, first, memory_row, table_row) in
                  let there : get_or (makings_for input) n (a_stack j) ≡ a_stack j = get_or-append_right (map a_memory memories ++ map a_table tables) (map a_stack stacks) (length (map a_memory memories ++ map a_table tables)) n (a_stack j) refl (omega (arith, past, first, memory_row, table_row)) ∙ ap (λ k. get_or (map a_stack stacks) k (a_stack j)) back ∙ get_or-map-range_with_len a_stack 0 slots.stack j j (a_stack j) below (omega arith) in
                  (n, a_stack j, omega (arith, some.1, at', below, first, memory_row, table_row, stack_row, all), there, is)
            ]
      ]

  pub regions_fault : {P : Type 0} (told : P → Told) (page : ℕ) (old new : MakerTold) → IsTestedOn page → old.page ≡ input.page → Rose old.faults new.faults ⊎ (GivesUpRegion told input.config input.tunables input.offered input.shards old × (new.faults ≡ old.faults))
      → ((lists_making input.config old.listed ≡ true) ⊎ Rose old.behind new.behind) ⊎ (GivesUpRegion told input.config input.tunables input.offered input.shards old × (new.behind ≡ old.behind))
      → IfSome old.plan (λ p. fails_slots page input.config input.tunables input.offered input.shards p ≡ true) → FaultsInMaking told input old new
  regions_fault told page old new on same rose cause listed = record {
    rose = elim rose [ inl up ↦ inl up | inr given ↦ inr (gives_up told old same given.0) ];
    cause = elim cause [
      | inl (inl own) ↦ inl (inl (or_left (list_any (region_unmade old.listed) (makings_for input)) (images_listed input.tunables input.page 0 old.listed input.modules) (pool_unmade old.listed ∙ own)))
      | inl (inr behind) ↦ inl (inr behind)
      | inr given ↦ inr (gives_up told old same given.0)
    ];
    planned = regions_list old.plan (regions_told page old.plan true on listed);
  }

-- No making is listed of a module whose images were made, or that has none.
unlisted_by : (b listed : Bool) (images : List (Option Image)) (made : Option (List (Option Image))) → made ≡ (if b then Some images else None) → (IsSome made → listed ≡ false) → (b && listed) ≡ false
unlisted_by false listed images made is none = refl
unlisted_by true listed images None is none = absurd cc
unlisted_by true listed images (Some m) is none = none refl

pub images_unlisted : (t : Tunables) (page n : ℕ) (m : ModuleInfo) (plan : Option (List Planned)) (made : Option (List (Option Image))) → made ≡ images_of t page n m.memories → IfSome plan (λ p. IsSome made → makes_listed_images (record { 0 = n }) p m.memories ≡ false) → IfSome plan (λ p. module_listed t page n p m ≡ false)
images_unlisted t page n m None made is none = tt
images_unlisted t page n m (Some p) made is none = unlisted_by (has_images t page m.memories) (makes_listed_images (record { 0 = n }) p m.memories) (images_from (record { 0 = n }) page 0 m.memories) made is none

-- none of the first so many modules is
abbrev pub AreUnlisted : Tunables → ℕ → List ModuleInfo → ℕ → List Planned → Type 0
AreUnlisted t page modules count p = (k : ℕ) → k < count → IfSome (slice_get modules k) (λ m. module_listed t page k p m ≡ false)

pub one_unlisted : (t : Tunables) (page : ℕ) (modules : List ModuleInfo) (i : ℕ) (m : ModuleInfo) (plan : Option (List Planned)) → slice_get modules i ≡ Some m → IfSome plan (AreUnlisted t page modules i) → IfSome plan (λ p. module_listed t page i p m ≡ false) → IfSome plan (AreUnlisted t page modules (i + 1))
one_unlisted t page modules i m None there before this = tt
one_unlisted t page modules i m (Some p) there before this =
    let Q : ℕ → Option ModuleInfo → Type 0 = λ k o. IfSome o (λ x. module_listed t page k p x ≡ false) in
    λ k below.
    elim (cases_eq k i) [
      | inl is ↦ subst (λ (n : ℕ). Q n (slice_get modules n)) (sym is) (subst (Q i) (sym there) this)
      | inr other ↦ before k (omega (arith, below, other))
    ]

none_from : (t : Tunables) (page n : ℕ) (plan : List Planned) (modules : List ModuleInfo) → ((k : ℕ) → k < length modules → IfSome (slice_get modules k) (λ m. module_listed t page (n + k) plan m ≡ false)) → images_listed t page n plan modules ≡ false
none_from t page n plan [] each = refl
none_from t page n plan (m ∷ ms) each =
    let place : n + 0 ≡ n = omega arith in
    let P : ℕ → Type 0 = λ k. module_listed t page k plan m ≡ false in
    or_from _ _ (subst P place (each 0 (omega arith)))
    (none_from t page (n + 1) plan ms
    (λ k below.
    let Q : ℕ → Type 0 = λ j. IfSome (slice_get ms k) (λ x. module_listed t page j plan x ≡ false) in
    let next : n + suc k ≡ n + 1 + k = omega arith in
    subst Q next (each (suc k) (omega (arith, below)))))

pub none_listed : (t : Tunables) (page : ℕ) (modules : List ModuleInfo) (count : ℕ) (plan : Option (List Planned)) → length modules ≤ count → IfSome plan (AreUnlisted t page modules count) → IfSome plan (λ p. images_listed t page 0 p modules ≡ false)
none_listed t page modules count None all each = tt
none_listed t page modules count (Some p) all each =
    none_from t page 0 p modules
    (λ k below.
    let Q : ℕ → Type 0 = λ j. IfSome (slice_get modules k) (λ x. module_listed t page j p x ≡ false) in
    let here : k ≡ 0 + k = omega arith in
    subst Q here (each k (omega (arith, below, all))))

-- Nothing for the input is listed, of the regions by this test.
pub nothing_listed : (test : List Planned → Making → Bool) (input : Input) (modules : List ModuleInfo) (page : ℕ) (plan : Option (List Planned)) → modules ≡ input.modules → page ≡ input.page → IfSome plan (λ p. list_any (test p) (makings_for input) ≡ false) → IfSome plan (λ p. images_listed input.tunables page 0 p modules ≡ false) → IfSome plan (λ p. (list_any (test p) (makings_for input) || images_listed input.tunables input.page 0 p input.modules) ≡ false)
nothing_listed test input modules page None same is regions images = tt
nothing_listed test input modules page (Some p) same is regions images =
    let Listed : List ModuleInfo → Type 0 = λ ms. images_listed input.tunables page 0 p ms ≡ false in
    let At : ℕ → Type 0 = λ n. images_listed input.tunables n 0 p input.modules ≡ false in
    or_from (list_any (test p) (makings_for input)) (images_listed input.tunables input.page 0 p input.modules) regions (subst At is (subst Listed same images))

-- A maker before which these faults stand is that with the input's faults.
pub made_with_faults : (input : Input) (maker made : MakerTold) (page : ℕ) (faults : List Fault) → made ≡ failing_maker maker page (planned_faults faults) maker.next maker.faults → page ≡ input.page → faults ≡ input.faults → made ≡ with_faults input maker
made_with_faults input maker made page faults is paged listed =
    is
    ∙ ap (λ (n : ℕ). failing_maker maker n (planned_faults faults) maker.next maker.faults) paged
    ∙ ap (λ (fs : List Fault). failing_maker maker input.page (planned_faults fs) maker.next maker.faults) listed

-- A fault over the maker with the input's faults is one that the input lists, or one of the maker behind them.
pub fault_of_run : {P : Type 0} (told : P → Told) (input : Input) (maker left before after : MakerTold) → before ≡ with_faults input maker → FaultsInMaking told input before after → after.behind ≡ left.faults → HasFaultedMaking told input maker left
fault_of_run told input maker left before after is fault same =
    let Listed : MakerTold → Type 0 = λ m. IfSome m.plan (λ plan. start_listed input plan ≡ true) in
    let Caused : MakerTold → ℕ → Type 0 = λ m n. ((making_listed input m.listed ≡ true) ⊎ Rose m.behind n) ⊎ GivesUp told input m in
    record {
      cause = subst (Caused (with_faults input maker)) same (subst (λ m. Caused m after.behind) is fault.cause);
      planned = subst Listed is fault.planned;
    }

-- What is made of a module's images, where memories begin as images and none begins amid a page.
all_rest : (a : Bool) (o : Option ℕ) (c : Bool) → a ≡ true → o ≡ None → (a && (not (is_some o) && c)) ≡ c
all_rest true None c first none = refl
all_rest true (Some n) c first none = absurd cc
all_rest false o c first none = absurd cc

made_by : (b : Bool) (images : List (Option Image)) (made : Option (List (Option Image))) → b ≡ is_some made → IfSome made (λ x. x ≡ images) → made ≡ (if b then Some images else None)
made_by true images (Some x) is same = ap (λ (y : List (Option Image)). Some y) same
made_by true images None is same = absurd cc
made_by false images (Some x) is same = absurd cc
made_by false images None is same = refl

pub made_images : (t : Tunables) (page n : ℕ) (m : ModuleInfo) (made : Option (List (Option Image))) → t.memory_init_cow ≡ true → first_misplaced page m.memories ≡ None → is_some made ≡ list_all (ends_in_minimum page) m.memories → IfSome made (λ images. images ≡ images_from (record { 0 = n }) page 0 m.memories) → made ≡ images_of t page n m.memories
made_images t page n m made cow begins ends is = made_by (has_images t page m.memories) (images_from (record { 0 = n }) page 0 m.memories) made (all_rest t.memory_init_cow (first_misplaced page m.memories) (list_all (ends_in_minimum page) m.memories) cow begins ∙ sym ends) is

-- Where some image begins amid a page, there are none.
none_with : (a : Bool) (o : Option ℕ) (c : Bool) (n : ℕ) → o ≡ Some n → (a && (not (is_some o) && c)) ≡ false
none_with a None c n is = absurd cc
none_with true (Some k) c n is = refl
none_with false (Some k) c n is = refl

pub misplaced_none : {X : Type 0} (t : Tunables) (page : ℕ) (m : ModuleInfo) (r : Result X ImageError) (e : ImageError) (u : Unsupported) → r ≡ Err e → e ≡ unmade.Unsupported u → ((v : Unsupported) → r ≡ Err (unmade.Unsupported v) → (n : ℕ) × (v ≡ ImageOffset n)) → ((n : ℕ) → (r ≡ Err (unmade.Unsupported (ImageOffset n))) ↔ (first_misplaced page m.memories ≡ Some n)) → has_images t page m.memories ≡ false
misplaced_none {X = X} t page m r e u is named offsets misplaced =
    let Refused : ImageError → Result X ImageError = λ x. Err x in
    let whole : r ≡ Err (unmade.Unsupported u) = is ∙ ap Refused named in
    let offset = offsets u whole in
    let there : r ≡ Err (unmade.Unsupported (ImageOffset offset.0)) = whole ∙ ap (λ (v : Unsupported). Refused (unmade.Unsupported v)) offset.1 in
    none_with t.memory_init_cow (first_misplaced page m.memories) (list_all (ends_in_minimum page) m.memories) offset.0 ((misplaced offset.0).0 there)

pub no_images : (t : Tunables) (page n : ℕ) (m : ModuleInfo) → has_images t page m.memories ≡ false → None ≡ images_of t page n m.memories
no_images t page n m none = let Images : Bool → Option (List (Option Image)) = λ b. if b then Some (images_from (record { 0 = n }) page 0 m.memories) else None in sym (ap Images none)

pub none_unlisted : (t : Tunables) (page n : ℕ) (m : ModuleInfo) (plan : Option (List Planned)) → has_images t page m.memories ≡ false → IfSome plan (λ p. module_listed t page n p m ≡ false)
none_unlisted t page n m None none = tt
none_unlisted t page n m (Some p) none = ap (λ (b : Bool). b && makes_listed_images (record { 0 = n }) p m.memories) none
