-- What a request on demand leaves of the calls that the maker's plan lists: a memory that is made takes those on its region with
-- it, and a page fault uses one up.
use Rattle.std.proofs.Common.{◌≡◌, ℕ, ◌+◌, ◌-◌, ◌*◌, ◌^◌, ◌<◌, ◌≤◌, Bool, true, false, List, [], ◌∷◌, length, min, Option, Some, None, Result, Ok, Err, inl, inr, refl, sym, ap, ◌∙◌, subst, arith, nat_lt, ◌==◌, if◌then◌else◌, option_map, slice_set, IfSome, IfOk, IfErr}
use Rattle.pool_run_on_demand.proofs.Imports.{option_map_or, All-nil, All-cons, All-set, sum_by-cons, sum_by-set, second_true, MakerTold, Planned, calls_of, plan_for, minimum_byte_size, MemoryDecl, MemoryTunables, MemoryType, ModuleInfo, OnDemand, TableType, Unsupported, AddressSpace, Image, Slot, SlotIdentity, identity, Exchange, LimiterTold, LimiterError, Design, IsSameMaker, IsOfMaker, HasFaulted, ListsBetween, LiesIn, in_regions, default_design, mapped_design, malloc_design, default_refusal, IsDynamic, Layout, layout_len, layout_of, first_layout, moved_layout, Linear, Storage, in_slot, stored, slot_in, maximum_asked, extra_on_growth, MemoryState, state_of, takes_image, has_whole_pages, BeginsWith, element_size, AllocError, PlainHeap, InTurn, StopsAtOne, IsGiven, Allocates, AllocatesListed, IsMemoryMade, IsTableMade, Stage, IsMemoryTurn, MemoryOf, TableOf, GrantsInTurn, GrantsUnless, GrantsInstance, image_at, refused_by, CreatorRule, module_refused, memory_refused, memory_unsupported, table_refused, stack_refused, answer_behind, OnDemandHeap, OnDemandInstance, OnDemandMemory, OnDemandTable, Refused, Alloc}
use Rattle.pool_slots.specs.declared.errors.AllocError.TheVariants as alloc
use Rattle.pool_run_on_demand.specs.Faults.{listed_from, ends_before_last, request_met}
use Rattle.pool_run_on_demand.specs.Left.{place_left, memory_left, Laying, EndBeforeLast, LaidIn, IsLaid, Spends, refusal_met, leases_left, AreLaid, LeaseSpends, HeapSpends, laid_for_heap, grant_left, IsLaidGrant, live_left, AreLaidLive, RequestSpends, InstanceSpends}
use Rattle.pool_run_on_demand.specs.declared.grant.OnDemandGrant.{OnDemandGrant}
use Rattle.pool_run_on_demand.proofs.Refused.{still_same}
use Rattle.pool_run_on_demand.proofs.Requests.{same_twice}
use Rattle.pool_run_on_demand.proofs.Spending.{each_told, listed_falls, listed_on, once_some, part_ends, part_left, same_spends, spends_beside, spends_less, spends_then, told_from}

-- What began with an image lies in the slot that it was made in.
abbrev layout_by : SlotIdentity → Layout
layout_by s = record { page = s.page; before = s.base.bytes; capacity = s.static_size; guard = s.len - s.static_size - s.base.bytes }

layout_same : (a b : Slot) → identity a ≡ identity b → layout_of a ≡ layout_of b
layout_same a b same = ap layout_by same

abbrev SameSlot : Storage → Storage → Type 0
SameSlot made (in_slot s) = (r : Slot) × ((made ≡ in_slot r) × (identity s ≡ identity r))
SameSlot made (stored len bytes) = Unit {0}

still_slot : (st : Storage) → SameSlot st st
still_slot (in_slot s) = (s, (refl, refl))
still_slot (stored len bytes) = tt

slot_kept : (size : ℕ) (made st : Storage) → has_whole_pages size made ≡ true → identity (slot_in st) ≡ identity (slot_in made) → SameSlot made st
slot_kept size (in_slot r) (in_slot s) whole same = (r, (refl, same))
slot_kept size (stored n b) (in_slot s) whole same = absurd cc
slot_kept size made (stored len bytes) whole same = tt

-- a memory began so: in the slot that it was made in, and with the same room and the same bytes for a growth
abbrev HasBegun : Linear → Linear → Type 0
HasBegun made l = SameSlot made.storage l.storage × ((l.extra ≡ made.extra) × (l.capacity ≡ made.capacity))

not_begun : (made l : Linear) → l ≡ made → HasBegun made l
not_begun made l same = let From : Linear → Type 0 = HasBegun made in subst From (sym same) (still_slot made.storage, (refl, refl))

has_begun : (b : Bool) (image : Option Image) (made l : Linear) → b ≡ takes_image made → BeginsWith b image made l → HasBegun made l
has_begun b None made l takes is = not_begun made l is
has_begun false (Some i) made l takes is = not_begun made l is
has_begun true (Some i) made l takes is =
    (slot_kept made.size made.storage l.storage (second_true made.moves (has_whole_pages made.size made.storage) (sym takes)) is.slot, (ap (λ (x : Linear). x.extra) is.same, ap (λ (x : Linear). x.capacity) is.same))

-- What is left on a region that was asked for was listed before on later regions.
abbrev PaysFor : ℕ → MakerTold → ℕ → List Planned → Type 0
PaysFor left maker to plan = ends_before_last plan ≡ true → left + listed_from to plan ≤ listed_from maker.next plan

none_left : (o : Option (List Planned)) (from to : ℕ) → min from (2 ^ 32 - 1) ≤ to → IfSome o (λ plan. ends_before_last plan ≡ true → 0 + listed_from to plan ≤ listed_from from plan)
none_left o from to rises = each_told o (λ plan. ends_before_last plan ≡ true → 0 + listed_from to plan ≤ listed_from from plan) (λ plan ends. omega (arith, listed_falls plan from to ends rises))

left_spends : (left : ℕ) (from to : MakerTold) → IfSome from.plan (PaysFor left from to.next) → Spends from to 0 0 left
left_spends left from to is = told_from from.plan (PaysFor left from to.next) (λ plan. ends_before_last plan ≡ true → 0 + (left + listed_from to.next plan) ≤ 0 + listed_from from.next plan) (λ plan pays ends. let p = pays ends in omega (arith, p)) is

-- A memory is laid as the settings say, with the calls on its region that the maker lists.
module _ (y : Laying) (ty : MemoryType) where
  abbrev least : ℕ
  least = minimum_byte_size ty

  abbrev most : Option ℕ
  most = maximum_asked ty

  abbrev design_if : Bool → Design
  design_if b = if b then mapped_design y.page y.tunables least most else malloc_design y.tunables least

  abbrev first : Layout
  first = first_layout y.page y.tunables least

  -- a memory that lies in a region is designed so
  lies_first : (b : Bool) (made : Storage) (r : Slot) → made ≡ in_slot r → LiesIn (design_if b).layout made → (b ≡ true) × (layout_of r ≡ first)
  lies_first true made r in_r lies = (refl, subst (LiesIn (Some first)) in_r lies)
  lies_first false made r in_r lies = let none : LiesIn None (in_slot r) = subst (LiesIn None) in_r lies in absurd none

  module _ (to : ℕ) (maker : MakerTold) (same : y.plan ≡ maker.plan) (rises : min maker.next (2 ^ 32 - 1) ≤ to) where
    abbrev OfPlace : ℕ → ℕ → Storage → Type 0
    OfPlace extra capacity st = LaidIn y ty extra capacity st × IfSome maker.plan (PaysFor (place_left st) maker to)

    of_place : (made st : Storage) (extra capacity : ℕ) → SameSlot made st → LiesIn (design_if (in_regions y.tunables)).layout made → extra ≡ (design_if (in_regions y.tunables)).extra → capacity ≡ (design_if (in_regions y.tunables)).capacity → IsOfMaker to maker made → OfPlace extra capacity st
    of_place made (stored len bytes) extra capacity kept lies more room region = (tt, none_left maker.plan maker.next to rises)
    of_place made (in_slot s) extra capacity (r, (in_r, kept)) lies more room region =
        let of : IsOfMaker to maker (in_slot r) = subst (IsOfMaker to maker) in_r region in
        let designed = lies_first (in_regions y.tunables) made r in_r lies in
        let here : layout_of s ≡ first = layout_same s r kept ∙ designed.1 in
        let as_first : capacity ≡ first.capacity = room ∙ ap (λ (b : Bool). (design_if b).capacity) designed.0 in
        let beyond : extra ≡ extra_on_growth y.tunables least most = more ∙ ap (λ (b : Bool). (design_if b).extra) designed.0 in
        let plan : s.region.plan ≡ plan_for (OnDemand of.0) maker = ap (λ (x : SlotIdentity). x.plan) kept ∙ of.1.1 in (
          record {
            page = ap (λ (l : Layout). l.page) here;
            room = omega (arith, as_first);
            moves = λ size. ap (λ (l : Layout). layout_len (moved_layout size extra l)) here ∙ ap (λ (n : ℕ). layout_len (moved_layout size n first)) beyond;
            calls = subst (EndBeforeLast y.plan) (sym plan) (subst (λ (o : Option (List Planned)). EndBeforeLast o (plan_for (OnDemand of.0) maker)) (sym same) (part_ends maker.plan maker.layers of.0));
          },
          part_left maker.plan maker.layers maker.next to of.0 s.region.made s.region.plan rises of.1.0 plan,
        )

    made_laid : (image : Option Image) (m : MemoryState) → IsDynamic ty y.tunables (Some (default_design y.page y.tunables least most)) image to maker m → IsLaid y m × IfSome maker.plan (PaysFor (memory_left m) maker to)
    made_laid image m is =
        let begun = has_begun (takes_image is.made) image is.made m.linear refl is.begins in
        let At : MemoryType → Type 0 = λ t. LaidIn y t m.linear.extra m.linear.capacity m.linear.storage × IfSome maker.plan (PaysFor (memory_left m) maker to) in
        subst At (sym is.of_type) (of_place is.made.storage m.linear.storage m.linear.extra m.linear.capacity begun.0 is.designed.place (begun.1.0 ∙ is.designed.extra) (begun.1.1 ∙ is.designed.capacity) is.as_made.region)

-- a page fault uses up an entry, and no other refusal met one
fault_spends : (old new : MakerTold) → IsSameMaker old new → HasFaulted old new → Spends old new 1 0 0
fault_spends old new same is =
    told_from old.plan (ListsBetween old.next new.next) (λ plan. ends_before_last plan ≡ true → 1 + (0 + listed_from new.next plan) ≤ 0 + listed_from old.next plan)
    (λ plan lists ends. omega (arith, once_some (calls_of (OnDemand lists.0) plan) lists.1.1, listed_on plan old.next new.next lists.0 ends same.rises lists.1.0)) is.listed

given_spends : (e : AllocError) (old new : MakerTold) → IsSameMaker old new → IsGiven e old new → Spends old new (refusal_met e) 0 0
given_spends alloc.Memory old new same is = same_spends old new 0 same
given_spends alloc.PageFault old new same is = fault_spends old new same is
given_spends _ old new same is = absurd is

met_none : (e : AllocError) (old new : MakerTold) → IsSameMaker old new → refusal_met e ≡ 0 → Spends old new (refusal_met e) 0 0
met_none e old new same none = let Met : ℕ → Type 0 = λ n. Spends old new n 0 0 in subst Met (sym none) (same_spends old new 0 same)

-- what has a refusal of its own, or is refused as any object may be
refused_spends : {X : Type 0} (o : Option AllocError) (Is : X → Type 0) (e : AllocError) (old new : MakerTold) → IfSome o (λ f. refusal_met f ≡ 0) → IsSameMaker old new → Allocates o Is (Err e) old new → Spends old new (refusal_met e) 0 0
refused_spends None Is e old new own same is = given_spends e old new same is
refused_spends (Some f) Is e old new own same is = let named : e ≡ f = cc is.0 in met_none e old new same (ap refusal_met named ∙ own)

own_met_none : (answer : Result Bool LimiterError) (refuses : CreatorRule) (ty : MemoryType) → IfSome (memory_refused answer refuses ty) (λ f. refusal_met f ≡ 0)
own_met_none (Err e) refuses ty = refl
own_met_none (Ok false) refuses ty = refl
own_met_none (Ok true) refuses ty = by_rule (memory_unsupported refuses ty)
  where
    by_rule : (o : Option Unsupported) → IfSome (option_map alloc.Unsupported o) (λ f. refusal_met f ≡ 0)
    by_rule None = tt
    by_rule (Some u) = refl

-- nor did one of a table
listed_met_none : {X : Type 0} (answer : Result Bool LimiterError) (ty : TableType) (Is : X → Type 0) (e : AllocError) → AllocatesListed (table_refused answer ty) Is (Err e) → refusal_met e ≡ 0
listed_met_none (Err f) ty Is e is = let named : e ≡ alloc.LimiterFault f = cc is in ap refusal_met named
listed_met_none (Ok false) ty Is e is = let named : e ≡ alloc.LimiterDenied true ty.limits.min = cc is in ap refusal_met named
listed_met_none (Ok true) ty Is e is = by_room (nat_lt (2 ^ 64 - 1) (ty.limits.min * element_size ty.element)) is
  where
    by_room : (b : Bool) → AllocatesListed (if b then Some (alloc.Unsupported AddressSpace) else None) Is (Err e) → refusal_met e ≡ 0
    by_room true is = let named : e ≡ alloc.Unsupported AddressSpace = cc is in ap refusal_met named
    by_room false is = ap refusal_met is

granted_made : {X : Type 0} (o : Option AllocError) (Is : X → Type 0) (x : X) (old new : MakerTold) → Allocates o Is (Ok x) old new → Is x
granted_made None Is x old new is = is.0
granted_made (Some e) Is x old new is = absurd (cc is.0)

-- The making of memories, one after the other, each by a maker that has the page of the settings and the plan.
module _ {R : Type 0} (told : R → LimiterTold) (leads : R → Exchange → R → Type 0) (M L : Type 0) (y : Laying) where
  abbrev refuses : ℕ → MemoryType → MemoryTunables → ℕ → Option ℕ → Option Unsupported
  refuses page ty tunables minimum maximum = default_refusal page tunables minimum

  abbrev designs : ℕ → MemoryType → MemoryTunables → ℕ → Option ℕ → Option Design
  designs page ty tunables minimum maximum = Some (default_design page tunables minimum maximum)

  abbrev IsTurn : Option Image → MemoryType → Result (OnDemandMemory M L) AllocError → Stage R → Stage R → Type 0
  IsTurn image ty result from to = IsMemoryTurn told leads {M = M} {L = L} refuses designs y.tunables image ty result from to

  abbrev IsBy : Stage R → Type 0
  IsBy s = (y.page ≡ s.maker.page) × (y.plan ≡ s.maker.plan)

  by_then : (from to : Stage R) → IsSameMaker from.maker to.maker → IsBy from → IsBy to
  by_then from to same by = (by.0 ∙ sym (ap (λ (m : MakerTold). m.page) same.same), by.1 ∙ sym (ap (λ (m : MakerTold). m.plan) same.same))

  pub turn_paid : (image : Option Image) (ty : MemoryType) (result : Result (OnDemandMemory M L) AllocError) (from to : Stage R) → IsBy from → IsTurn image ty result from to → LeaseSpends y from.maker to.maker result
  turn_paid image ty (Ok lease) from to by turn =
      let Own : Option AllocError = memory_refused (Ok true) (refuses from.maker.page ty y.tunables) ty in
      let made = granted_made Own (IsMemoryMade ty y.tunables (designs from.maker.page ty y.tunables (minimum_byte_size ty) (maximum_asked ty)) image to.maker.next from.maker) lease from.maker to.maker turn.answer in
      let At : ℕ → Type 0 = λ page. IsDynamic ty y.tunables (designs page ty y.tunables (minimum_byte_size ty) (maximum_asked ty)) image to.maker.next from.maker (state_of lease.memory) in
      let laid = made_laid y ty to.maker.next from.maker by.1 turn.maker.rises image (state_of lease.memory) (subst At (sym by.0) made.memory) in
      (laid.0, left_spends (memory_left (state_of lease.memory)) from.maker to.maker laid.1)
  turn_paid image ty (Err e) from to by turn =
      refused_spends (memory_refused (answer_behind e) (refuses from.maker.page ty y.tunables) ty) (IsMemoryMade ty y.tunables (designs from.maker.page ty y.tunables (minimum_byte_size ty) (maximum_asked ty)) image to.maker.next from.maker) e from.maker to.maker
      (own_met_none (answer_behind e) (refuses from.maker.page ty y.tunables) ty) turn.maker turn.answer

  module _ (images : Option (List (Option Image))) where
    abbrev One : ℕ → MemoryDecl → Result (OnDemandMemory M L) AllocError → Stage R → Stage R → Type 0
    One k decl result from to = MemoryOf told leads {M = M} {L = L} refuses designs y.tunables images k decl result from to

    pub record ArePaid (leases : List (OnDemandMemory M L)) (from to : Stage R) : Type 0 where
      pub laid : AreLaid y leases
      pub spent : Spends from.maker to.maker 0 0 (leases_left leases)
      pub maker : IsSameMaker from.maker to.maker
      pub by : IsBy to

    abbrev IsLaidLease : OnDemandMemory M L → Type 0
    IsLaidLease l = IsLaid y (state_of l.memory)

    abbrev lease_left : OnDemandMemory M L → ℕ
    lease_left l = memory_left (state_of l.memory)

    abbrev Leaves : Stage R → Stage R → ℕ → ℕ → Type 0
    Leaves from to met left = Spends from.maker to.maker met 0 left

    plan_same : (from to : Stage R) → IsSameMaker from.maker to.maker → to.maker.plan ≡ from.maker.plan
    plan_same from to same = ap (λ (m : MakerTold). m.plan) same.same

    all_paid : (k : ℕ) (decls : List MemoryDecl) (leases : List (OnDemandMemory M L)) (from to : Stage R) → IsBy from → InTurn One k decls leases from to → ArePaid leases from to
    all_paid k [] [] from to by turn =
        let still : IsSameMaker from.maker to.maker = subst (λ (s : Stage R). IsSameMaker from.maker s.maker) (sym turn) (still_same from.maker) in
        record {
          laid = All-nil IsLaidLease;
          spent = same_spends from.maker to.maker 0 still;
          maker = still;
          by = by_then from to still by;
        }
    all_paid k [] (x ∷ xs) from to by turn = absurd turn
    all_paid k (d ∷ ds) [] from to by turn = absurd turn
    all_paid k (d ∷ ds) (x ∷ xs) from to by turn =
        let between : Stage R = turn.0 in
        let one = turn_paid (image_at images k) d.ty (Ok x) from between by turn.1.0 in
        let same = turn.1.0.maker in
        let more = all_paid (k + 1) ds xs between to (by_then from between same by) turn.1.1 in
        let rest : Spends between.maker to.maker 0 (lease_left x + 0) (lease_left x + leases_left xs) = spends_beside between.maker to.maker 0 0 (leases_left xs) (lease_left x) more.spent in
        let after : Spends between.maker to.maker 0 (lease_left x) (lease_left x + leases_left xs) = subst (λ (n : ℕ). Spends between.maker to.maker 0 n (lease_left x + leases_left xs)) {x = lease_left x + 0} {y = lease_left x} (omega arith) rest in
        record {
          laid = All-cons IsLaidLease x xs one.0 more.laid;
          spent = subst (Leaves from to 0) (sym (sum_by-cons lease_left x xs)) (spends_then from.maker between.maker to.maker 0 0 0 (lease_left x) (lease_left x + leases_left xs) (plan_same from between same) one.1 after);
          maker = same_twice from.maker between.maker to.maker same more.maker;
          by = more.by;
        }

    -- What was made before a refusal is gone with it.
    pub record IsStopped (e : AllocError) (from to : Stage R) : Type 0 where
      pub spent : Spends from.maker to.maker (refusal_met e) 0 0
      pub maker : IsSameMaker from.maker to.maker

    stopped_later : (e : AllocError) (left : ℕ) (from between to : Stage R) → IsSameMaker from.maker between.maker → Spends from.maker between.maker 0 0 left → IsStopped e between to → IsStopped e from to
    stopped_later e left from between to same one more =
        let gone : Spends from.maker between.maker 0 0 0 = spends_less from.maker between.maker 0 0 left 0 (omega arith) one in
        let both : Spends from.maker to.maker (0 + refusal_met e) 0 0 = spends_then from.maker between.maker to.maker 0 (refusal_met e) 0 0 0 (plan_same from between same) gone more.spent in
        record {
          spent = subst (λ (n : ℕ). Leaves from to n 0) {x = 0 + refusal_met e} {y = refusal_met e} (omega arith) both;
          maker = same_twice from.maker between.maker to.maker same more.maker;
        }

    one_stops : (k : ℕ) (decls : List MemoryDecl) (e : AllocError) (from to : Stage R) → IsBy from → StopsAtOne One k decls e from to → IsStopped e from to
    one_stops k [] e from to by stops = absurd stops
    one_stops k (d ∷ ds) e from to by (inl turn) = record { spent = turn_paid (image_at images k) d.ty (Err e) from to by turn; maker = turn.maker }
    one_stops k (d ∷ ds) e from to by (inr later) =
        let between : Stage R = later.1.0 in
        let turn = later.1.1.0 in
        let one = turn_paid (image_at images k) d.ty (Ok later.0) from between by turn in
        stopped_later e (lease_left later.0) from between to turn.maker one.1 (one_stops (k + 1) ds e between to (by_then from between turn.maker by) later.1.1.1)

    -- Tables ask no maker.
    module _ (P : Type 0) where
      abbrev OneTable : ℕ → TableType → Result (OnDemandTable P) AllocError → Stage R → Stage R → Type 0
      OneTable k ty result from to = TableOf told leads {P = P} y.tunables.tunables.table_lazy_init k ty result from to

      tables_ask_none : (k : ℕ) (types : List TableType) (leases : List (OnDemandTable P)) (from to : Stage R) → InTurn OneTable k types leases from to → to.maker ≡ from.maker
      tables_ask_none k [] [] from to turn = ap (λ (s : Stage R). s.maker) turn
      tables_ask_none k [] (x ∷ xs) from to turn = absurd turn
      tables_ask_none k (ty ∷ types) [] from to turn = absurd turn
      tables_ask_none k (ty ∷ types) (x ∷ xs) from to turn = tables_ask_none (k + 1) types xs turn.0 to turn.1.1 ∙ turn.1.0.maker

      table_stops : (k : ℕ) (types : List TableType) (e : AllocError) (from to : Stage R) → StopsAtOne OneTable k types e from to → (to.maker ≡ from.maker) × (refusal_met e ≡ 0)
      table_stops k [] e from to stops = absurd stops
      table_stops k (ty ∷ types) e from to (inl turn) = (turn.maker, listed_met_none (answer_behind e) ty (IsTableMade ty y.tunables.tunables.table_lazy_init) e turn.answer)
      table_stops k (ty ∷ types) e from to (inr later) = let more = table_stops (k + 1) types e later.1.0 to later.1.1.1 in (more.0 ∙ later.1.1.0.maker, more.1)

      stops_in_tables : (types : List TableType) (e : AllocError) (from to : Stage R) → StopsAtOne OneTable 0 types e from to → IsStopped e from to
      stops_in_tables types e from to stops =
          let is = table_stops 0 types e from to stops in
          let still : IsSameMaker from.maker to.maker = subst (IsSameMaker from.maker) (sym is.0) (still_same from.maker) in
          record { spent = met_none e from.maker to.maker still is.1; maker = still }

      in_turn : (m : ModuleInfo) (result : Result (OnDemandInstance M L P) AllocError) (from to : Stage R) → IsBy from → GrantsInTurn told leads {M = M} {L = L} {P = P} refuses designs y.tunables m images result from to → InstanceSpends y from.maker to.maker result
      in_turn m (Ok lease) from to by is =
          let paid = all_paid 0 m.memories lease.memories from is.0 by is.1.0 in
          let After : MakerTold → Type 0 = λ x. Spends from.maker x 0 0 (leases_left lease.memories) in
          (paid.laid, subst After (sym (tables_ask_none 0 m.tables lease.tables is.0 to is.1.1)) paid.spent)
      in_turn m (Err e) from to by (inl is) =
          let still : IsSameMaker from.maker to.maker = subst (λ (s : Stage R). IsSameMaker from.maker s.maker) (sym is.1) (still_same from.maker) in
          met_none e from.maker to.maker still (ap refusal_met is.0)
      in_turn m (Err e) from to by (inr (inl stops)) = let stopped = one_stops 0 m.memories e from to by stops in stopped.spent
      in_turn m (Err e) from to by (inr (inr later)) =
          let paid = all_paid 0 m.memories later.0 from later.1.0 by later.1.1.0 in
          let stopped = stopped_later e (leases_left later.0) from later.1.0 to paid.maker paid.spent (stops_in_tables m.tables e later.1.0 to later.1.1.1) in
          stopped.spent

      by_rule : (o : Option Unsupported) (m : ModuleInfo) (result : Result (OnDemandInstance M L P) AllocError) (from to : Stage R) → IsBy from → GrantsUnless told leads {M = M} {L = L} {P = P} o refuses designs y.tunables m images result from to → InstanceSpends y from.maker to.maker result
      by_rule None m result from to by is = in_turn m result from to by is
      by_rule (Some rule) m result from to by is =
          let still : IsSameMaker from.maker to.maker = subst (λ (s : Stage R). IsSameMaker from.maker s.maker) (sym is.1) (still_same from.maker) in
          subst (InstanceSpends y from.maker to.maker) (sym is.0) (same_spends from.maker to.maker 0 still)

      -- So an instance is paid for.
      pub instance_paid : (m : ModuleInfo) (result : Result (OnDemandInstance M L P) AllocError) (from to : Stage R) → IsBy from → GrantsInstance told leads {M = M} {L = L} {P = P} refuses designs y.tunables m images result from to → InstanceSpends y from.maker to.maker result
      instance_paid m result from to by is = by_rule (module_refused m) m result from to by is

-- What is granted stands in the place of its command, beside the other live grants.
module _ {M L P : Type 0} (y : Laying) (before after : MakerTold) (live : List (Option (OnDemandGrant M L P))) (n : ℕ) (place : n < length live) where
  abbrev place_left_of : Option (OnDemandGrant M L P) → ℕ
  place_left_of o = option_map_or grant_left o 0

  with_grant : (g : OnDemandGrant M L P) → live_left (slice_set live n (Some g)) ≤ live_left live + grant_left g
  with_grant g = omega (arith, sum_by-set place_left_of live n (Some g) None place)

  pub grant_spends : (g : OnDemandGrant M L P) → IsLaidGrant y g → Spends before after 0 0 (grant_left g) → AreLaidLive y live → AreLaidLive y (slice_set live n (Some g)) × Spends before after 0 (live_left live) (live_left (slice_set live n (Some g)))
  grant_spends g laid spent are =
      let beside : Spends before after 0 (live_left live + 0) (live_left live + grant_left g) = spends_beside before after 0 0 (grant_left g) (live_left live) spent in
      let Before : ℕ → Type 0 = λ x. Spends before after 0 x (live_left live + grant_left g) in
      let whole : Spends before after 0 (live_left live) (live_left live + grant_left g) = subst Before {x = live_left live + 0} {y = live_left live} (omega arith) beside in (
        All-set (λ (o : Option (OnDemandGrant M L P)). IfSome o (IsLaidGrant y)) live n (Some g) laid are,
        spends_less before after 0 (live_left live) (live_left live + grant_left g) (live_left (slice_set live n (Some g))) (with_grant g) whole,
      )

-- A refusal leaves them as they are.
pub refusal_spends : {M L P : Type 0} (y : Laying) (before after : MakerTold) (live : List (Option (OnDemandGrant M L P))) (e : AllocError) → Spends before after (refusal_met e) 0 0 → RequestSpends y before after live live (Refused (Alloc e))
refusal_spends {M} {L} {P} y before after live e spent are =
    let left : ℕ = live_left live in
    let beside : Spends before after (refusal_met e) (left + 0) (left + 0) = spends_beside before after (refusal_met e) 0 0 left spent in
    let Both : ℕ → Type 0 = λ x. Spends before after (refusal_met e) x x in
    let whole : Spends before after (refusal_met e) left left = subst Both {x = left + 0} {y = left} (omega arith) beside in
    (are, subst (λ (x : ℕ). Spends before after x left left) (same_met e) whole)
  where
    same_met : (e : AllocError) → refusal_met e ≡ request_met (Refused (Alloc e))
    same_met alloc.PageFault = refl
    same_met _ = refl

-- A stack has no memory: one that is granted leaves nothing, and a refusal is its own, or one that any object may be given.
stack_met_none : (b : Bool) → IfSome (if b then Some alloc.StacksDisabled else None) (λ f. refusal_met f ≡ 0)
stack_met_none true = refl
stack_met_none false = tt

pub stack_refusal_spends : {X : Type 0} (size : ℕ) (Is : X → Type 0) (e : AllocError) (old new : MakerTold) → IsSameMaker old new → Allocates (stack_refused size) Is (Err e) old new → Spends old new (refusal_met e) 0 0
stack_refusal_spends size Is e old new same is = refused_spends (stack_refused size) Is e old new (stack_met_none (size == 0)) same is

-- A heap has what its memory has. Where there is none, its memory is given back.
module _ {M L : Type 0} (y : Laying) (before after : MakerTold) (memory : OnDemandMemory M L) (is : LeaseSpends (laid_for_heap y) before after (Ok memory)) where
  pub heap_spends : (First Rest : OnDemandHeap PlainHeap × OnDemandMemory M L → Type 0) (Also : AllocError → Type 0) (result : Result (OnDemandHeap PlainHeap × OnDemandMemory M L) AllocError) → IfOk result (λ made. First made × ((made.1 ≡ memory) × Rest made)) → IfErr result (λ e. (e ≡ alloc.HeapFault) × Also e) → HeapSpends y before after result
  heap_spends First Rest Also (Ok made) has fault = let Lease : OnDemandMemory M L → Type 0 = λ l. LeaseSpends (laid_for_heap y) before after (Ok l) in subst Lease (sym has.1.0) is
  heap_spends First Rest Also (Err e) has fault =
      let Met : AllocError → Type 0 = λ f. Spends before after (refusal_met f) 0 0 in
      subst Met (sym fault.0) (spends_less before after 0 0 (memory_left (state_of memory.memory)) 0 (omega arith) is.1)

-- what bars a heap meets no fault, and no maker is asked
pub barred_spends : (o : Option Unsupported) (e : AllocError) (before after : MakerTold) → after ≡ before → Err e ≡ refused_by o → Spends before after (refusal_met e) 0 0
barred_spends None e before after same is = absurd (cc is)
barred_spends (Some rule) e before after same is =
    let named : e ≡ alloc.Unsupported rule = cc is in
    met_none e before after (subst (IsSameMaker before) (sym same) (still_same before)) (ap refusal_met named)
