-- What a growth on demand leaves of the calls that the maker's plan lists: a fault uses one up, and a memory that moves takes
-- those on its new region with it.
use Rattle.std.proofs.Common.{◌≡◌, ℕ, ◌+◌, ◌-◌, ◌^◌, ◌<◌, ◌≤◌, Bool, true, false, List, [], ◌∷◌, length, min, Option, Some, None, Result, Ok, Err, inl, inr, refl, sym, ap, ◌∙◌, subst, arith, nat_lt, nat_le, if◌then◌else◌, ◌==◌, ◌||◌, ◌&&◌, not, IfSome, OnOk, OnErr, count_by}
use Rattle.pool_run_on_demand.proofs.Imports.{list_all, list_any, and_parts, or_from, cases_lt, lt-ltb, nat_tests, one_at_most, MakerTold, Planned, calls_of, part_of, plan_for, fails_making, rounded_up, Told, PageCall, passes, risen, allow_growth_to, minimum_byte_size, MemoryType, RegionName, rounded_up_above, Slot, raised, raising, limited, one_if, GrowthRule, GrowthGiven, is_want_of_memory, report_result, result_by, pages_result, answer_result, AnswerMakes, MakesBy, GrowError, GrowFault, LimiterError, Trap, asked_same, OnlyWritten, IsBetween, InPlace, IsCallPlanned, GrowsTo, IsFailureOf, FailsInPlace, IsUngrown, moved_room, grown_size, past_room, PagesLeave, AnswerLeaves, LeavesBy, Layout, layout_len, layout_of, first_room, first_layout, moved_layout, Storage, in_slot, stored, is_listed, storage_written, Linear, MemoryState, memory_written, next_name, region_for, slot_of_region, slot_for, first_call, IsAsked, IsMadeFor, MakingFails, FirstCallFails, PlaceLeaves, CallLeaves, MakerLeft, grows, growth_reply, PrivateMemory, GrowthEnd, growth, Reply, ended_by, ended_by_rule}
use Rattle.pool_limits.specs.declared.errors.GrowError.TheVariants as failed
use Rattle.pool_run_on_demand.specs.Faults.{listed_from, ends_before_last, moved_len, has_region, is_free, is_report}
use Rattle.pool_run_on_demand.specs.Left.{calls_left, place_left, memory_left, Laying, EndBeforeLast, LaidIn, IsLaid, Spends, MemorySpends}
use Rattle.pool_run_on_demand.specs.OnDemand.{most_between}
use Rattle.pool_run_on_demand.specs.Seen.{layout_in, seen_made, IsHeld, GrowsByRule}
use Rattle.pool_run_on_demand.proofs.Moves.{SeesRoom, past_seen, sees_room}
use Rattle.pool_run_on_demand.proofs.Places.{has_less, limited_layout, slot_for_layout}
use Rattle.pool_run_on_demand.proofs.Spending.{counted_first, numbers_once, once_some, once_any, once_all, numbered, told_from, spends_none, fewer_spends, same_spends, listed_on, part_ends, part_left}

-- A call on a region uses up its own entry, if it is listed, and no other.
either_counts : (a b : Bool) → one_if (a || b) ≤ one_if a + one_if b
either_counts true true = omega arith
either_counts true false = omega arith
either_counts false b = omega arith

entry_spent : (made call : ℕ) → numbered call ≡ true → one_if (call == risen made) + one_if (nat_lt (risen made) call) ≤ one_if (nat_lt made call)
entry_spent made call small = by (call == risen made) (nat_lt (risen made) call) refl refl
  where
    later : nat_lt made call ≡ true → 1 ≤ one_if (nat_lt made call)
    later is = subst (λ (b : Bool). 1 ≤ one_if b) (sym is) (omega arith)

    by : (a b : Bool) → (call == risen made) ≡ a → nat_lt (risen made) call ≡ b → one_if a + one_if b ≤ one_if (nat_lt made call)
    by true true here past = absurd (grind (arith, nat_tests, here, past))
    by true false here past = later (grind (arith, nat_tests, here, small))
    by false true other past = later (grind (arith, nat_tests, past, small))
    by false false other past = omega arith

each_spent : (calls : List ℕ) (made : ℕ) → list_all numbered calls ≡ true → one_if (list_any (λ n. n == risen made) calls) + count_by (λ call. nat_lt (risen made) call) calls ≤ count_by (λ call. nat_lt made call) calls
each_spent [] made all = omega arith
each_spent (call ∷ calls) made all =
    let parts = and_parts (numbered call) (list_all numbered calls) all in
    omega (
      arith,
      either_counts (call == risen made) (list_any (λ n. n == risen made) calls),
      counted_first (λ c. nat_lt (risen made) c) call calls,
      counted_first (λ c. nat_lt made c) call calls,
      entry_spent made call parts.0,
      each_spent calls made parts.1,
    )

-- which are counted once
calls_spent : (calls : List ℕ) (made : ℕ) → list_all numbered calls ≡ true → one_if (list_any (λ n. n == risen made) calls) + count_by (λ call. nat_lt (risen made) call) (numbers_once calls) ≤ count_by (λ call. nat_lt made call) (numbers_once calls)
calls_spent calls made all =
    subst (λ (b : Bool). one_if b + count_by (λ call. nat_lt (risen made) call) (numbers_once calls) ≤ count_by (λ call. nat_lt made call) (numbers_once calls)) (once_any (risen made) calls)
    (each_spent (numbers_once calls) made (once_all numbered calls all))

-- a region tells its calls that fail, and none is the last that is numbered
abbrev AreNumbered : Option (List ℕ) → Type 0
AreNumbered None = ⊥
AreNumbered (Some calls) = list_all numbered calls ≡ true

-- how many calls were made on a region once this one was
abbrev made_after : Bool → ℕ → ℕ
made_after empty made = if empty then made else risen made

call_left : (calls : Option (List ℕ)) (made : ℕ) (empty : Bool) → AreNumbered calls → calls_left calls (made_after empty made) ≤ calls_left calls made
call_left None made empty all = absurd all
call_left (Some calls) made true all = omega arith
call_left (Some calls) made false all = omega (arith, calls_spent calls made all)

slot_left : (more : Bool) (n : ℕ) (s : Slot) → AreNumbered s.region.plan → place_left (in_slot (if more then raised n s else s)) ≤ place_left (in_slot s)
slot_left true n s all = call_left s.region.plan s.region.made ((raising n s).len == 0) all
slot_left false n s all = omega arith

slot_plan : (more : Bool) (n : ℕ) (s : Slot) → (if more then raised n s else s).region.plan ≡ s.region.plan
slot_plan true n s = refl
slot_plan false n s = refl

limited_plan : (size : ℕ) (s : Slot) → (limited size s).region.plan ≡ s.region.plan
limited_plan size s = slot_plan (has_less size s) (rounded_up s.region.page size) s

-- a call that fails is listed, and isn't of no pages
is_listed_call : (empty lists : Bool) → false ≡ (empty || not lists) → (empty ≡ false) × (lists ≡ true)
is_listed_call true lists is = absurd cc
is_listed_call false true is = (refl, refl)
is_listed_call false false is = absurd cc

-- So it pays for one fault.
fault_left : (calls : Option (List ℕ)) (call : PageCall) (r : Told) (made met : ℕ) → met ≤ 1 → AreNumbered calls → IfSome calls (λ plan. false ≡ passes plan call r) → made ≡ made_after (call.len == 0) r.made → met + calls_left calls made ≤ calls_left calls r.made
fault_left None call r made met few all fails is = absurd all
fault_left (Some calls) call r made met few all fails is =
    let lists = is_listed_call (call.len == 0) (list_any (λ n. n == risen r.made) calls) fails in
    let one : one_if (list_any (λ n. n == risen r.made) calls) ≡ 1 = ap one_if lists.1 in
    let rises : made ≡ risen r.made = is ∙ ap (λ (b : Bool). made_after b r.made) lists.0 in
    subst (λ (n : ℕ). met + calls_left (Some calls) n ≤ calls_left (Some calls) r.made) (sym rises) (omega (arith, few, one, calls_spent calls r.made all))

-- a list of which one passes has one
any_some : (test : ℕ → Bool) (xs : List ℕ) → list_any test xs ≡ true → 0 < length xs
any_some test [] is = absurd cc
any_some test (x ∷ xs) is = omega arith

-- what holds of the calls that a region tells holds of those that the maker lists
part_listed : (name : RegionName) (o : Option (List Planned)) (layers : List (List Planned)) (P : List ℕ → Type 0) → IfSome (part_of name o layers) P → IfSome o (λ plan. P (calls_of name plan))
part_listed name None layers P is = tt
part_listed name (Some plan) layers P is = is

-- A maker that isn't asked pays for a call on a region that was made.
pays_here : (o : Option (List Planned)) (calls : Option (List ℕ)) (n met old new : ℕ) → EndBeforeLast o calls → (AreNumbered calls → met + new ≤ old) → IfSome o (λ plan. ends_before_last plan ≡ true → met + (new + listed_from n plan) ≤ old + listed_from n plan)
pays_here None calls n met old new is pays = tt
pays_here (Some plan) None n met old new is pays = absurd is
pays_here (Some plan) (Some calls) n met old new is pays = λ ends. let paid = pays (is ends) in omega (arith, paid)

here_spends : (before after : MakerTold) (calls : Option (List ℕ)) (met old new : ℕ) → after ≡ before → EndBeforeLast before.plan calls → (AreNumbered calls → met + new ≤ old) → Spends before after met old new
here_spends before after calls met old new still is pays =
    let After : MakerTold → Type 0 = λ m. Spends before m met old new in
    subst After (sym still) (pays_here before.plan calls before.next met old new is pays)

still_spends : (before after : MakerTold) (n : ℕ) → after ≡ before → Spends before after 0 n n
still_spends before after n still = let After : MakerTold → Type 0 = λ m. Spends before m 0 n n in subst After (sym still) (spends_none before n)

-- the number of a region that was asked for is one of those
asked_between : (from to : ℕ) → to ≡ min (from + 1) (2 ^ 32 - 1) → (min from (2 ^ 32 - 1) ≤ to) × IsBetween from to from
asked_between from to is = (
  omega (arith, is),
  (
    omega arith,
    elim (cases_lt from (2 ^ 32 - 1)) [
      | inl less ↦ inl (omega (arith, is, less))
      | inr last ↦ inr last
    ],
  ),
)

asked_next : (before after : MakerTold) → IsAsked before after → (min before.next (2 ^ 32 - 1) ≤ after.next) × IsBetween before.next after.next before.next
asked_next before after asked = asked_between before.next after.next (ap (λ (m : MakerTold). m.next) asked)

-- The making of a region, or the first call on it, failed: the plan lists that.
making_listed : (before after : MakerTold) → MakingFails before after → IfSome before.plan (λ plan. 0 < length (calls_of (next_name before) plan))
making_listed before after is = told_from before.plan (λ plan. fails_making (next_name before) plan ≡ true) (λ plan. 0 < length (calls_of (next_name before) plan)) (λ plan fails. any_some (λ call. call == 0) (calls_of (next_name before) plan) fails) is.planned

first_listed : (l : Layout) (size : ℕ) (before after : MakerTold) → FirstCallFails l size before after → IfSome before.plan (λ plan. 0 < length (calls_of (next_name before) plan))
first_listed l size before after is =
    let region : Told = region_for before l in
    let Fails : List ℕ → Type 0 = λ calls. false ≡ passes calls (first_call l size) region in
    told_from before.plan (λ plan. Fails (calls_of (next_name before) plan)) (λ plan. 0 < length (calls_of (next_name before) plan))
    (λ plan fails. any_some (λ n. n == risen region.made) (calls_of (next_name before) plan) (is_listed_call ((first_call l size).len == 0) (list_any (λ n. n == risen region.made) (calls_of (next_name before) plan)) fails).1)
    (part_listed (next_name before) before.plan before.layers Fails is.first)

region_spends : (before after : MakerTold) (met left : ℕ) → met ≤ 1 → IsAsked before after → IfSome before.plan (λ plan. 0 < length (calls_of (next_name before) plan)) → Spends before after met left left
region_spends before after met left few asked lists =
    let next = asked_next before after asked in
    told_from before.plan (λ plan. 0 < length (calls_of (next_name before) plan)) (λ plan. ends_before_last plan ≡ true → met + (left + listed_from after.next plan) ≤ left + listed_from before.next plan)
    (λ plan some ends. omega (arith, few, once_some (calls_of (next_name before) plan) some, listed_on plan before.next after.next before.next ends next.0 next.1)) lists

-- What has no room for a size has less than whole pages for it.
more_room : (page n size extra : ℕ) → rounded_up page n < size → rounded_up page n ≤ rounded_up page size + rounded_up page extra
more_room page n size extra past = elim (cases_lt 0 page) [
  | inl some ↦ omega (arith, past, rounded_up_above page size some)
  | inr none ↦
      let zero_page : page ≡ 0 = omega (arith, none) in
      let Less : ℕ → Type 0 = λ p. rounded_up p n ≤ rounded_up p size + rounded_up p extra in
      subst Less (sym zero_page) (omega arith)
]

-- A memory of this type in a place, which goes to a place for this size.
module _ (y : Laying) (ty : MemoryType) (size extra : ℕ) (before after : MakerTold) (same : y.plan ≡ before.plan) where
  abbrev first_capacity : ℕ
  first_capacity = (first_layout y.page y.tunables (minimum_byte_size ty)).capacity

  -- it has so much room there, and met so many faults
  abbrev Comes : ℕ → ℕ → Storage → Storage → Type 0
  Comes met capacity st to = LaidIn y ty extra capacity to × Spends before after met (place_left st) (place_left to)

  of_maker : (calls : Option (List ℕ)) → EndBeforeLast y.plan calls → EndBeforeLast before.plan calls
  of_maker calls is = let Of : Option (List Planned) → Type 0 = λ o. EndBeforeLast o calls in subst Of same is

  by_maker : (calls : Option (List ℕ)) → EndBeforeLast before.plan calls → EndBeforeLast y.plan calls
  by_maker calls is = let Of : Option (List Planned) → Type 0 = λ o. EndBeforeLast o calls in subst Of (sym same) is

  abbrev moved_from : ℕ → Layout → ℕ
  moved_from n l = layout_len (moved_layout n extra l)

  -- one in a list stays in a list
  listed_comes : (len capacity : ℕ) (bytes : Option (List ℕ)) (to : Storage) → is_listed to ≡ true → after ≡ before → Comes 0 capacity (stored len bytes) to
  listed_comes len capacity bytes (in_slot t) place still = absurd cc
  listed_comes len capacity bytes (stored n b) place still = (tt, still_spends before after 0 still)

  limited_comes : (capacity : ℕ) (s : Slot) → LaidIn y ty extra capacity (in_slot s) → after ≡ before → Comes 0 capacity (in_slot s) (in_slot (limited size s))
  limited_comes capacity s laid still = (
    record {
      page = ap (λ (l : Layout). l.page) (limited_layout size s) ∙ laid.page;
      room = laid.room;
      moves = λ n. ap (moved_from n) (limited_layout size s) ∙ laid.moves n;
      calls = subst (EndBeforeLast y.plan) (sym (limited_plan size s)) laid.calls;
    },
    here_spends before after s.region.plan 0 (place_left (in_slot s)) (place_left (in_slot (limited size s))) still (of_maker s.region.plan laid.calls) (λ all. let less : place_left (in_slot (limited size s)) ≤ place_left (in_slot s) = slot_left (has_less size s) (rounded_up s.region.page size) s all in omega (arith, less)),
  )

  -- It has grown in its place, or has moved.
  grown_here : (st : Storage) (old new : Linear) → LaidIn y ty extra old.capacity st → InPlace size st old new → is_listed new.storage ≡ is_listed st → after ≡ before → Comes 0 new.capacity st new.storage
  grown_here (in_slot s) old new laid is place still =
      let At : Linear → Type 0 = λ l. Comes 0 l.capacity (in_slot s) l.storage in
      subst At (sym is) (limited_comes old.capacity s laid still)
  grown_here (stored len bytes) old new laid is place still = listed_comes len new.capacity bytes new.storage place still

  moved_comes : (capacity room : ℕ) (s t : Slot) → capacity < size → LaidIn y ty extra capacity (in_slot s) → room ≡ (moved_layout size extra (layout_of s)).capacity → IsMadeFor (moved_layout size extra (layout_of s)) size before after → OnlyWritten (slot_for before (moved_layout size extra (layout_of s)) size) t → Comes 0 room (in_slot s) (in_slot t)
  moved_comes capacity room s t past laid has made written =
      let l : Layout = moved_layout size extra (layout_of s) in
      let here : layout_of t ≡ l = ap layout_of written.same ∙ slot_for_layout before l size in
      let plan : t.region.plan ≡ plan_for (next_name before) before = ap (λ (x : Slot). x.region.plan) written.same ∙ limited_plan size (slot_of_region (region_for before l) l) in
      let next = asked_next before after made.made.asked in
      let more : first_capacity ≤ rounded_up y.page size + rounded_up y.page extra = more_room y.page (first_room y.tunables (minimum_byte_size ty)) size extra (omega (arith, past, laid.room)) in
      let Room : ℕ → Type 0 = λ page. first_capacity ≤ rounded_up page size + rounded_up page extra in (
        record {
          page = ap (λ (l : Layout). l.page) here ∙ laid.page;
          room = subst (λ (n : ℕ). first_capacity ≤ n) (sym has) (subst Room (sym laid.page) more);
          moves = λ n. ap (moved_from n) here ∙ laid.moves n;
          calls = subst (EndBeforeLast y.plan) (sym plan) (by_maker (plan_for (next_name before) before) (part_ends before.plan before.layers before.next));
        },
        told_from before.plan (λ plan. ends_before_last plan ≡ true → place_left (in_slot t) + listed_from after.next plan ≤ listed_from before.next plan)
            (λ plan. ends_before_last plan ≡ true → 0 + (place_left (in_slot t) + listed_from after.next plan) ≤ place_left (in_slot s) + listed_from before.next plan)
            (λ plan paid ends. let less = paid ends in omega (arith, less)) (part_left before.plan before.layers before.next after.next before.next t.region.made t.region.plan next.0 next.1 plan),
      )

  grown_there : (capacity room : ℕ) (st to : Storage) → capacity < size → LaidIn y ty extra capacity st → room ≡ moved_room size extra st → is_listed to ≡ is_listed st → PlaceLeaves None size extra st to before after → Comes 0 room st to
  grown_there capacity room (in_slot s) (in_slot t) past laid has place left = moved_comes capacity room s t past laid has left.0 left.1
  grown_there capacity room (in_slot s) (stored len bytes) past laid has place left = absurd cc
  grown_there capacity room (stored len bytes) to past laid has place left = listed_comes len room bytes to place left

  -- It couldn't, and met so many faults.
  fault_here : (capacity : ℕ) (st to : Storage) (e : GrowError) (met : ℕ) → met ≤ 1 → LaidIn y ty extra capacity st → FailsInPlace e size st to → IsCallPlanned false size st → after ≡ before → Comes met capacity st to
  fault_here capacity (in_slot s) (in_slot t) e met few laid fails planned still =
      let call : PageCall = raising (rounded_up s.region.page size) s in
      let region = fails.1.region.same in
      let parts : Told → Layout = λ r. record { page = r.page; before = s.base.bytes; capacity = s.static_size; guard = r.len - s.static_size - s.base.bytes } in
      let here : layout_of t ≡ layout_of s = ap layout_of fails.1.same ∙ ap parts region in
      let plan : t.region.plan ≡ s.region.plan = ap (λ (r : Told). r.plan) region in
      let made : t.region.made ≡ made_after (call.len == 0) s.region.made = ap (λ (r : Told). r.made) region in (
        record {
          page = ap (λ (l : Layout). l.page) here ∙ laid.page;
          room = laid.room;
          moves = λ n. ap (moved_from n) here ∙ laid.moves n;
          calls = subst (EndBeforeLast y.plan) (sym plan) laid.calls;
        },
        here_spends before after s.region.plan met (place_left (in_slot s)) (place_left (in_slot t)) still (of_maker s.region.plan laid.calls)
            (λ all. subst (λ (o : Option (List ℕ)). met + calls_left o t.region.made ≤ calls_left s.region.plan s.region.made) (sym plan) (fault_left s.region.plan call s.region t.region.made met few all planned made)),
      )
  fault_here capacity (in_slot s) (stored len bytes) e met few laid fails planned still = absurd fails
  fault_here capacity (stored len bytes) to e met few laid fails planned still = absurd fails

  met_none : (met n : ℕ) → met ≡ 0 → Spends before after 0 n n → Spends before after met n n
  met_none met n none is = let Met : ℕ → Type 0 = λ k. Spends before after k n n in subst Met (sym none) is

  fault_there : (capacity : ℕ) (st to : Storage) (e : GrowError) (met : ℕ) → met ≤ 1 → (e ≡ failed.Memory → met ≡ 0) → (first_capacity < size → 2 ^ 64 ≤ moved_len y.page y.tunables ty size → met ≡ 0) → capacity < size → LaidIn y ty extra capacity st → IsFailureOf st e → PlaceLeaves (Some e) size extra st to before after
      → Spends before after met (place_left st) (place_left st)
  fault_there capacity (in_slot s) to failed.PageFault met few want long past laid is left =
      region_spends before after met (place_left (in_slot s)) few left.asked (elim left.cause [
        | inl making ↦ making_listed before after making
        | inr first ↦ first_listed (moved_layout size extra (layout_of s)) size before after first
      ])
  fault_there capacity (in_slot s) to failed.Memory met few want long past laid is left = met_none met (place_left (in_slot s)) (want refl) (same_spends before after (place_left (in_slot s)) (asked_same before after left.asked))
  fault_there capacity (in_slot s) to failed.Overflow met few want long past laid is left =
      let none : met ≡ 0 = long (omega (arith, past, laid.room)) (subst (λ (n : ℕ). 2 ^ 64 ≤ n) (laid.moves size) left.0) in
      met_none met (place_left (in_slot s)) none (still_spends before after (place_left (in_slot s)) left.1)
  fault_there capacity (in_slot s) to failed.TypeLimit met few want long past laid is left = absurd left
  fault_there capacity (in_slot s) to failed.MaximumExceeded met few want long past laid is left = absurd left
  fault_there capacity (stored len bytes) to e met few want long past laid is left = met_none met 0 (want is) (still_spends before after 0 left)

  module _ (old new : Linear) (laid : LaidIn y ty extra old.capacity old.storage) (more : extra ≡ old.extra) where
    past_calls : (failure : Option GrowError) → old.capacity < size → MakerLeft failure size old new (Some before) (Some after) → PlaceLeaves failure size extra old.storage new.storage before after
    past_calls failure past left =
        let Calls : ℕ → Type 0 = λ n. PlaceLeaves failure size n old.storage new.storage before after in
        subst Calls (sym more) (subst (λ (b : Bool). CallLeaves b failure size old new before after) (lt-ltb old.capacity size past) left)

    within_still : (failure : Option GrowError) → size ≤ old.capacity → MakerLeft failure size old new (Some before) (Some after) → after ≡ before
    within_still failure within left =
        let no : nat_lt old.capacity size ≡ false = grind (arith, nat_tests, within) in
        subst (λ (b : Bool). CallLeaves b failure size old new before after) no left

    grown_comes : GrowsTo size old new → MakerLeft None size old new (Some before) (Some after) → Comes 0 new.capacity old.storage new.storage
    grown_comes is left = elim (cases_lt old.capacity size) [
      | inl past ↦
          let room : new.capacity ≡ moved_room size extra old.storage = (is.moved past).room ∙ ap (λ (n : ℕ). moved_room size n old.storage) (sym more) in
          grown_there old.capacity new.capacity old.storage new.storage past laid room is.place (past_calls None past left)
      | inr within ↦ grown_here old.storage old new laid (is.in_place within) is.place (within_still None within left)
    ]

    ungrown_comes : (e : GrowError) (met : ℕ) → met ≤ 1 → (e ≡ failed.Memory → met ≡ 0) → (first_capacity < size → 2 ^ 64 ≤ moved_len y.page y.tunables ty size → met ≡ 0) → IsUngrown e size old new → MakerLeft (Some e) size old new (Some before) (Some after) → Comes met new.capacity old.storage new.storage
    ungrown_comes e met few want long is left =
        let comes : Comes met old.capacity old.storage new.storage = elim (cases_lt old.capacity size) [
          | inl past ↦
              let stays : new.storage ≡ old.storage = ap (λ (l : Linear). l.storage) (is.stays past) in
              subst (Comes met old.capacity old.storage) (sym stays) (laid, fault_there old.capacity old.storage new.storage e met few want long past laid is.failure (past_calls (Some e) past left))
          | inr within ↦ fault_here old.capacity old.storage new.storage e met few laid (is.in_place within) (is.planned within) (within_still (Some e) within left)
        ] in
        subst (λ (n : ℕ). Comes met n old.storage new.storage) (sym is.capacity) comes

none_counts : (b : Bool) → one_if (b && false) ≡ 0
none_counts true = refl
none_counts false = refl

-- want of memory is told
want_told : (report : Result (Unit {0}) LimiterError) → is_report (growth_reply (report_result {X = ℕ} true report)) ≡ false
want_told report = refl

-- A memory after a growth: by how it would end without a fault, and the reply.
module _ (y : Laying) (size : ℕ) (m : MemoryState) (new : Linear) (before after : MakerTold) (same : y.plan ≡ before.plan) (laid : IsLaid y m) where
  abbrev fits : Bool
  fits = has_region y.page y.tunables m.ty size

  abbrev Spent : Bool → Reply → Type 0
  Spent free reply = LaidIn y m.ty new.extra new.capacity new.storage × Spends before after (one_if (is_report reply && (free && fits))) (place_left m.linear.storage) (place_left new.storage)

  abbrev Leaves : ℕ → ℕ → Type 0
  Leaves extra met = LaidIn y m.ty extra new.capacity new.storage × Spends before after met (place_left m.linear.storage) (place_left new.storage)

  unasked : (reply : Reply) → new ≡ m.linear → Some after ≡ Some before → Spent false reply
  unasked reply is told =
      let still : after ≡ before = cc in
      let At : Linear → Type 0 = λ l. LaidIn y m.ty l.extra l.capacity l.storage × Spends before after 0 (place_left m.linear.storage) (place_left l.storage) in
      let left : Leaves new.extra 0 = subst At (sym is) (laid, still_spends before after (place_left m.linear.storage) still) in
      subst (Leaves new.extra) (sym (none_counts (is_report reply))) left

  asked : (failure : Option GrowError) (report : Result (Unit {0}) LimiterError) → PagesLeave failure size m.linear new → MakerLeft failure size m.linear new (Some before) (Some after) → Spent true (growth_reply (pages_result m.linear.size failure report))
  asked None report is left = subst (λ (n : ℕ). Leaves n 0) (sym is.extra) (grown_comes y m.ty size m.linear.extra before after same m.linear new laid refl is left)
  asked (Some e) report is left =
      let Told : GrowError → Bool = λ x. is_report (growth_reply (report_result {X = ℕ} (is_want_of_memory x) report)) in
      let met : ℕ = one_if (Told e && (true && fits)) in
      let want : e ≡ failed.Memory → met ≡ 0 = λ wants. ap (λ (x : GrowError). one_if (Told x && (true && fits))) wants ∙ ap (λ (b : Bool). one_if (b && (true && fits))) (want_told report) in
      let first : ℕ = (first_layout y.page y.tunables (minimum_byte_size m.ty)).capacity in
      let len : ℕ = moved_len y.page y.tunables m.ty size in
      let long : first < size → 2 ^ 64 ≤ len → met ≡ 0 =
      λ past more.
      let within : nat_le size first ≡ false = grind (arith, nat_tests, past) in
      let no : fits ≡ false = or_from (nat_le size first) (nat_lt len (2 ^ 64)) within (grind (arith, nat_tests, more)) in
      ap (λ (b : Bool). one_if (Told e && (true && b))) no ∙ none_counts (Told e) in
      subst (λ (n : ℕ). Leaves n met) (sym is.extra) (ungrown_comes y m.ty size m.linear.extra before after same m.linear new laid refl e met (one_at_most (Told e && (true && fits))) want long is left)

  abbrev Called : Option GrowError → Type 0
  Called failure = MakerLeft failure size m.linear new (Some before) (Some after)

  abbrev free : Bool → Bool → Bool → Result Bool LimiterError → Result (Unit {0}) LimiterError → Bool
  free nothing past_type past answer report = is_free (ended_by m.linear.size nothing past_type past answer report false).0

  by_answer : (past : Bool) (answer : Result Bool LimiterError) (failure : Option GrowError) (report : Result (Unit {0}) LimiterError) → AnswerLeaves past answer failure size m.linear new → AnswerMakes (Some after ≡ Some before) (Called None) (λ e. Called (Some e)) past answer failure
      → Spent (free false false past answer report) (growth_reply (answer_result m.linear.size past answer failure report))
  by_answer past (Err e) failure report is left = unasked (growth_reply (answer_result m.linear.size past (Err e) failure report)) is left
  by_answer past (Ok false) failure report is left = unasked (growth_reply (answer_result m.linear.size past (Ok false) failure report)) is left
  by_answer true (Ok true) failure report is left = unasked (growth_reply (answer_result m.linear.size true (Ok true) failure report)) is left
  by_answer false (Ok true) None report is left = asked None report is left
  by_answer false (Ok true) (Some e) report is left = asked (Some e) report is left

  by_growth : (nothing past_type past : Bool) (g : GrowthGiven) → LeavesBy nothing past_type past g size m.linear new → MakesBy (Some after ≡ Some before) (Called None) (λ e. Called (Some e)) nothing past_type past g
      → Spent (free nothing past_type past g.answer g.report) (growth_reply (result_by m.linear.size nothing past_type past g))
  by_growth true past_type past g is left = unasked (growth_reply (result_by m.linear.size true past_type past g)) is left
  by_growth false true past g is left = unasked (growth_reply (result_by m.linear.size false true past g)) is left
  by_growth false false past g is left = by_answer past g.answer g.failure g.report is left

  -- Fewer growths are free where more sizes are past the room.
  fewer_free : (nothing past_type past sees : Bool) (answer : Result Bool LimiterError) (report : Result (Unit {0}) LimiterError) (reply : Reply) → (past ≡ true → sees ≡ true) → Spent (free nothing past_type past answer report) reply → Spent (free nothing past_type sees answer report) reply
  fewer_free true past_type past sees answer report reply is spent = spent
  fewer_free false true past sees answer report reply is spent = spent
  fewer_free false false past sees (Err e) report reply is spent = spent
  fewer_free false false past sees (Ok false) report reply is spent = spent
  fewer_free false false past true (Ok true) report reply is spent = (spent.0, fewer_spends before after (one_if (is_report reply && (free false false past (Ok true) report && fits))) (one_if (is_report reply && (false && fits))) (place_left m.linear.storage) (place_left new.storage) (omega (arith, none_counts (is_report reply))) spent.1)
  fewer_free false false true false (Ok true) report reply is spent = absurd (cc (is refl))
  fewer_free false false false false (Ok true) report reply is spent = spent

sees_past : (past sees : Bool) (most size : ℕ) → SeesRoom past sees most size → past ≡ true → sees ≡ true
sees_past past sees most size (inl same) is = sym same ∙ is
sees_past past sees most size (inr over) is = over.1.0

-- So the plan pays for a growth.
pub grows_spends : (tells : Bool) (rule : GrowthRule) (pages : ℕ) (m new : MemoryState) (before after : MakerTold) (answer : Result (Option ℕ) GrowFault) → IsHeld tells m → GrowsByRule rule pages m new before after answer → MemorySpends tells (grows pages) rule before after m new (growth_reply answer)
grows_spends tells rule pages m new before after answer held is y same laid =
    let g : GrowthGiven = is.0 in
    let growth_is = is.4 in
    let size : ℕ = grown_size pages m in
    let was : PrivateMemory = seen_made tells m in
    let nothing : Bool = pages == 0 in
    let past_type : Bool = not (allow_growth_to m.ty size) in
    let past : Bool = past_room size m in
    let sees : Bool = past_seen tells pages m in
    let spent_free = by_growth y size m new.linear before after same laid nothing past_type past g growth_is.linear is.5 in
    let spent = fewer_free y size m new.linear before after same laid nothing past_type past sees g.answer g.report (growth_reply (result_by m.linear.size nothing past_type past g)) (sees_past past sees (most_between (layout_in m.linear.storage)) size (sees_room tells pages m)) spent_free in
    let ends : is_free (ended_by m.linear.size nothing past_type sees g.answer g.report false).0 ≡ is_free (growth rule false pages was).0 = ap (λ (p : GrowthEnd × Reply). is_free p.0) (ended_by_rule rule is.1.rule pages was g.answer g.report false is.3 growth_is.ruled.answer growth_is.ruled.report) in
    let replies : growth_reply answer ≡ growth_reply (result_by m.linear.size nothing past_type past g) = ap growth_reply growth_is.ruled.replies in
    let Spent : MemoryType → Bool → Reply → Type 0 =
    λ ty free reply. LaidIn y ty new.linear.extra new.linear.capacity new.linear.storage × Spends before after (one_if (is_report reply && (free && has_region y.page y.tunables m.ty size))) (memory_left m) (memory_left new) in
    let ty : new.ty ≡ m.ty = ap (λ (x : MemoryState). x.ty) growth_is.memory in
    subst (λ (t : MemoryType). Spent t (is_free (growth rule false pages was).0) (growth_reply answer)) (sym ty) (subst (Spent m.ty (is_free (growth rule false pages was).0)) (sym replies) (subst (λ (b : Bool). Spent m.ty b (growth_reply (result_by m.linear.size nothing past_type past g))) ends spent))

-- A write leaves the place of a memory and the calls that are left.
written_laid : (y : Laying) (ty : MemoryType) (extra capacity i : ℕ) (bytes : List ℕ) (st : Storage) → LaidIn y ty extra capacity st → LaidIn y ty extra capacity (storage_written i bytes st)
written_laid y ty extra capacity i bytes (in_slot s) laid = record { page = laid.page; room = laid.room; moves = laid.moves; calls = laid.calls }
written_laid y ty extra capacity i bytes (stored len told) laid = tt

written_left : (i : ℕ) (bytes : List ℕ) (st : Storage) → place_left (storage_written i bytes st) ≡ place_left st
written_left i bytes (in_slot s) = refl
written_left i bytes (stored len told) = refl

-- what an operation leaves that met no fault, and asked no maker
abbrev pub StaysLaid : Laying → MakerTold → MemoryState → MemoryState → Type 0
StaysLaid y maker m new = IsLaid y new × Spends maker maker 0 (memory_left m) (memory_left new)

pub look_spends : (y : Laying) (maker : MakerTold) (m : MemoryState) → IsLaid y m → StaysLaid y maker m m
look_spends y maker m laid = (laid, spends_none maker (memory_left m))

pub write_spends : (y : Laying) (maker : MakerTold) (i : ℕ) (bytes : List ℕ) (m new : MemoryState) (result : Result (Unit {0}) Trap) → OnOk result (new ≡ memory_written i bytes m) → OnErr result (new ≡ m) → IsLaid y m → StaysLaid y maker m new
write_spends y maker i bytes m new (Ok u) done same laid =
    let left : memory_left (memory_written i bytes m) ≡ memory_left m = written_left i bytes m.linear.storage in
    let Left : ℕ → Type 0 = λ n. Spends maker maker 0 (memory_left m) n in
    subst (StaysLaid y maker m) (sym done) (written_laid y m.ty m.linear.extra m.linear.capacity i bytes m.linear.storage laid, subst Left (sym left) (spends_none maker (memory_left m)))
write_spends y maker i bytes m new (Err trap) done same laid = subst (StaysLaid y maker m) (sym same) (look_spends y maker m laid)
