-- What a request on demand is answered, as the party sees it: memories and tables are as private ones begin, or it is refused
-- as the party's terms say.
use Rattle.std.proofs.Common.{◌≡◌, ℕ, zero, suc, ◌+◌, ◌<◌, Bool, true, false, List, [], ◌∷◌, ◌++◌, length, map, All, replicate, Option, Some, None, Result, Ok, Err, ◌⊎◌, inl, inr, refl, sym, ap, ◌∙◌, subst, arith, is_some, ◌||◌, not, if◌then◌else◌, IfSome, slice_get, slice_index_or, unwrap_or}
use Rattle.pool_run_on_demand.proofs.Imports.{option_or, list_all, get_or_from_slice_get, All-nil, All-cons, first_true, told_weaker, second_true, MakerTold, minimum_byte_size, MemoryDecl, MemoryTunables, MemoryType, ModuleInfo, Tunables, TableType, Unsupported, Image, images_from, first_misplaced, ends_in_minimum, Exchange, memory_answer, LimiterTold, LimiterError, Design, IsSameMaker, in_regions, default_design, default_refusal, IsDynamic, ImageOf, minimum_asked, maximum_asked, state_of, AllocError, begins_from, ModuleAsked, first_refused, offset_refused, type_of, type_maximum, TableView, Allocates, AllocatesListed, no_slot, IsMemoryMade, IsTableMade, Stage, IsMemoryTurn, IsTableTurn, MemoryOf, TableOf, GrantsInTurn, GrantsUnless, GrantsInstance, image_at, module_refused, memory_refused, table_refused, answer_given, InTurn, StopsAtOne, HasType, MemoryWant, Want, new_memory, new_table, wants_from, OnDemandInstance, OnDemandMemory, OnDemandTable, PrivateMemory, Terms, Request, module_of, wants_of, images_of, has_images, PrivateTable, answer_told, table_answer_told}
use Rattle.pool_slots.specs.declared.errors.AllocError.TheVariants as alloc
use Rattle.pool_run_on_demand.specs.OnDemand.{made_memory, made_table, request_on_demand, unsupported_on_demand, first_unmade, IsUnmade, no_slots}
use Rattle.pool_run_on_demand.specs.Seen.{number_of, seen_lease, seen_table, seen_table_lease, AnswersOnDemand, IsCallOnDemand, IsHeld, IsMakerFor}
use Rattle.pool_run_on_demand.proofs.Made.{IsGood, made_held, made_seen}
use Rattle.pool_run_on_demand.proofs.Refused.{cause_here, cause_later, granted, listed_granted, made_of, none_or, own_memory, own_table, refused, small_of, some_or, still_same, table_here, type_of_kind, unmade_append}

-- The maker stays the same over several steps.
pub same_twice : (a b c : MakerTold) → IsSameMaker a b → IsSameMaker b c → IsSameMaker a c
same_twice a b c one two = record {
  same = two.same ∙ ap (λ (m : MakerTold). record m { next = c.next; behind = c.behind; faults = c.faults }) one.same;
  rises = omega (arith, one.rises, two.rises);
}

pub same_maker_for : (t : Terms) (a b : MakerTold) → IsMakerFor t a → IsSameMaker a b → IsMakerFor t b
same_maker_for t a b is same = record {
  tells = is.tells ∙ sym (ap (λ (m : MakerTold). m.tells) same.same);
  page = is.page ∙ sym (ap (λ (m : MakerTold). m.page) same.same);
  paged = subst (λ (n : ℕ). 0 < n) (sym (ap (λ (m : MakerTold). m.page) same.same)) is.paged;
}

module _ (t : Terms) {R : Type 0} (told : R → LimiterTold) (leads : R → Exchange → R → Type 0) (M L : Type 0) where
  abbrev pub refuses_by : ℕ → MemoryType → MemoryTunables → ℕ → Option ℕ → Option Unsupported
  refuses_by page ty tunables minimum most = default_refusal page tunables minimum

  abbrev pub designs_by : ℕ → MemoryType → MemoryTunables → ℕ → Option ℕ → Option Design
  designs_by page ty tunables minimum most = Some (default_design page tunables minimum most)

  abbrev pub IsTurn : Option Image → MemoryType → Result (OnDemandMemory M L) AllocError → Stage R → Stage R → Type 0
  IsTurn image ty result from to = IsMemoryTurn told leads {M = M} {L = L} refuses_by designs_by t.settings.tunables image ty result from to

  -- between two allocations
  pub record IsStage (s : Stage R) : Type 0 where
    pub ruled : (told s.limiter).rule ≡ Some t.host.rule
    pub for : IsMakerFor t s.maker

  stage_after : (image : Option Image) (ty : MemoryType) (result : Result (OnDemandMemory M L) AllocError) (from to : Stage R) → IsStage from → IsTurn image ty result from to → IsStage to
  stage_after image ty result from to stage turn = record {
    ruled = ap (λ (l : LimiterTold). l.rule) turn.answered.left ∙ stage.ruled;
    for = same_maker_for t from.maker to.maker stage.for turn.maker;
  }

  -- the refusal is the party's
  own_same : (decl : MemoryDecl) (image : Option Image) (result : Result (OnDemandMemory M L) AllocError) (from to : Stage R) → IsStage from → IsTurn image decl.ty result from to → memory_refused (answer_given result) (refuses_by from.maker.page decl.ty t.settings.tunables) decl.ty ≡ own_memory t decl image
  own_same decl image result from to stage turn =
      let Own : ℕ → Result Bool LimiterError → Option AllocError = λ page answer. memory_refused answer (refuses_by page decl.ty t.settings.tunables) decl.ty in
      ap (Own from.maker.page) (answer_told t.host.rule (told from.limiter).rule (answer_given result) (minimum_asked decl.ty) (maximum_asked decl.ty) stage.ruled turn.asked)
      ∙ ap (λ (page : ℕ). Own page (memory_answer (Some t.host.rule) (Ok true) (minimum_asked decl.ty) (maximum_asked decl.ty))) (sym stage.for.page)

  abbrev pub Made : MemoryDecl → Option Image → Stage R → Stage R → OnDemandMemory M L → Type 0
  Made decl image from to lease = IsMemoryMade decl.ty t.settings.tunables (designs_by from.maker.page decl.ty t.settings.tunables (minimum_byte_size decl.ty) (maximum_asked decl.ty)) image to.maker.next from.maker lease

  abbrev pub Answered : MemoryDecl → Option Image → Result (OnDemandMemory M L) AllocError → Stage R → Stage R → Option AllocError → Type 0
  Answered decl image result from to own = Allocates own (Made decl image from to) result from.maker to.maker

  pub answered : (decl : MemoryDecl) (image : Option Image) (result : Result (OnDemandMemory M L) AllocError) (from to : Stage R) → IsStage from → IsTurn image decl.ty result from to → Answered decl image result from to (own_memory t decl image)
  answered decl image result from to stage turn = subst (Answered decl image result from to) (own_same decl image result from to stage turn) turn.answer

  -- A memory that was allocated,
  pub record IsBegun (decl : MemoryDecl) (image : Option Image) (lease : OnDemandMemory M L) : Type 0 where
    pub allowed : own_memory t decl image ≡ None
    pub seen : seen_lease t.tells lease ≡ made_memory t (record { decl = decl; image = image })
    pub held : IsHeld t.tells (state_of lease.memory)

  pub one_begun : (decl : MemoryDecl) (image : Option Image) (lease : OnDemandMemory M L) (from to : Stage R) → decl.ty.page_size_log2 < 64 → IfSome image (IsGood t decl.ty) → IsStage from → IsTurn image decl.ty (Ok lease) from to → IsBegun decl image lease
  one_begun decl image lease from to log good stage turn =
      let both = granted (own_memory t decl image) (Made decl image from to) lease from.maker to.maker (answered decl image (Ok lease) from to stage turn) in
      let small = small_of (memory_answer (Some t.host.rule) (Ok true) (minimum_asked decl.ty) (maximum_asked decl.ty)) (refuses_by t.settings.page decl.ty t.settings.tunables) decl.ty both.0 in
      let made = made_of (memory_answer (Some t.host.rule) (Ok true) (minimum_asked decl.ty) (maximum_asked decl.ty)) (refuses_by t.settings.page decl.ty t.settings.tunables) decl.ty both.0 in
      let At : ℕ → Type 0 = λ page. IsDynamic decl.ty t.settings.tunables (designs_by page decl.ty t.settings.tunables (minimum_byte_size decl.ty) (maximum_asked decl.ty)) image to.maker.next from.maker (state_of lease.memory) in
      let is = subst At (sym stage.for.page) both.1.memory in
      record {
        allowed = both.0;
        seen = made_seen t decl image to.maker.next from.maker (state_of lease.memory) stage.for small log good is;
        held = made_held t decl image to.maker.next from.maker (state_of lease.memory) stage.for small log good is made;
      }

  abbrev Each : ℕ → MemoryDecl → Result (OnDemandMemory M L) AllocError → Stage R → Stage R → Option (List (Option Image)) → Type 0
  Each k decl result from to images = MemoryOf told leads {M = M} {L = L} refuses_by designs_by t.settings.tunables images k decl result from to

  module _ (images : Option (List (Option Image))) where
    abbrev One : ℕ → MemoryDecl → Result (OnDemandMemory M L) AllocError → Stage R → Stage R → Type 0
    One k decl result from to = Each k decl result from to images

    -- these images are those from memory k on
    abbrev From : ℕ → List (Option Image) → Type 0
    From k rest = (j : ℕ) → slice_index_or rest j None ≡ image_at images (k + j)

    -- each memory can be used, and its image is good
    abbrev Good : ℕ → List MemoryDecl → Type 0
    Good k decls = (j : ℕ) → IfSome (slice_get decls j) (λ d. (d.ty.page_size_log2 < 64) × IfSome (image_at images (k + j)) (IsGood t d.ty))

    good_next : (k : ℕ) (d : MemoryDecl) (ds : List MemoryDecl) → Good k (d ∷ ds) → Good (k + 1) ds
    good_next k d ds good j = let P : ℕ → Type 0 = λ i. IfSome (slice_get ds j) (λ x. (x.ty.page_size_log2 < 64) × IfSome (image_at images i) (IsGood t x.ty)) in subst P {x = k + suc j} {y = k + 1 + j} (omega arith) (good (suc j))

    good_here : (k : ℕ) (d : MemoryDecl) (ds : List MemoryDecl) → Good k (d ∷ ds) → (d.ty.page_size_log2 < 64) × IfSome (image_at images k) (IsGood t d.ty)
    good_here k d ds good = let P : ℕ → Type 0 = λ i. (d.ty.page_size_log2 < 64) × IfSome (image_at images i) (IsGood t d.ty) in subst P {x = k + 0} {y = k} (omega arith) (good zero)

    -- what is wanted is the first memory with its image, and the rest
    want_here : (k : ℕ) (d : MemoryDecl) (ds : List MemoryDecl) (rest : List (Option Image)) → From k rest → (after : List (Option Image)) × (wants_from (d ∷ ds) rest ≡ record { decl = d; image = image_at images k } ∷ wants_from ds after) × From (k + 1) after
    want_here k d ds [] from =
        let none : None ≡ image_at images k = from zero ∙ ap (image_at images) {x = k + 0} {y = k} (omega arith) in
        ([], ap (λ (i : Option Image). record { decl = d; image = i } ∷ wants_from ds []) none, λ j. from (suc j) ∙ ap (image_at images) {x = k + suc j} {y = k + 1 + j} (omega arith))
    want_here k d ds (i ∷ rest) from =
        let here : i ≡ image_at images k = from zero ∙ ap (image_at images) {x = k + 0} {y = k} (omega arith) in
        (rest, ap (λ (x : Option Image). record { decl = d; image = x } ∷ wants_from ds rest) here, λ j. from (suc j) ∙ ap (image_at images) {x = k + suc j} {y = k + 1 + j} (omega arith))

    abbrev as_wants : List MemoryWant → List Want
    as_wants ms = map new_memory ms

    pub record AreBegun (wants : List MemoryWant) (leases : List (OnDemandMemory M L)) (from to : Stage R) : Type 0 where
      pub allowed : first_unmade t (as_wants wants) ≡ None
      pub seen : map (seen_lease t.tells) leases ≡ map (made_memory t) wants
      pub held : All (λ l. IsHeld t.tells (state_of l.memory)) leases
      pub maker : IsSameMaker from.maker to.maker
      pub stage : IsStage to

    all_begun : (k : ℕ) (decls : List MemoryDecl) (rest : List (Option Image)) (leases : List (OnDemandMemory M L)) (from to : Stage R) → From k rest → Good k decls → IsStage from → InTurn One k decls leases from to → AreBegun (wants_from decls rest) leases from to
    all_begun k [] rest [] from to at_k good stage turn = record {
      allowed = refl;
      seen = refl;
      held = All-nil (λ l. IsHeld t.tells (state_of l.memory));
      maker = subst (λ (s : Stage R). IsSameMaker from.maker s.maker) (sym turn) (still_same from.maker);
      stage = subst IsStage (sym turn) stage;
    }
    all_begun k [] rest (x ∷ xs) from to at_k good stage turn = absurd turn
    all_begun k (d ∷ ds) rest [] from to at_k good stage turn = absurd turn
    all_begun k (d ∷ ds) rest (x ∷ xs) from to at_k good stage turn =
        let want = want_here k d ds rest at_k in
        let here = good_here k d ds good in
        let one = one_begun d (image_at images k) x from turn.0 here.0 here.1 stage turn.1.0 in
        let more = all_begun (k + 1) ds want.0 xs turn.0 to want.2 (good_next k d ds good) (stage_after (image_at images k) d.ty (Ok x) from turn.0 stage turn.1.0) turn.1.1 in
        record {
          allowed = ap (λ (ms : List MemoryWant). first_unmade t (as_wants ms)) want.1 ∙ none_or (own_memory t d (image_at images k)) (first_unmade t (as_wants (wants_from ds want.0))) one.allowed ∙ more.allowed;
          seen =
              ap (λ (p : PrivateMemory). p ∷ map (seen_lease t.tells) xs) one.seen ∙ ap (λ (ps : List PrivateMemory). made_memory t (record { decl = d; image = image_at images k }) ∷ ps) more.seen ∙ ap (map (made_memory t)) (sym want.1);
          held = All-cons (λ l. IsHeld t.tells (state_of l.memory)) x xs one.held more.held;
          maker = same_twice from.maker turn.0.maker to.maker turn.1.0.maker more.maker;
          stage = more.stage;
        }

    -- or one of them is refused, before these others are asked for
    pub record IsStopped (wants : List Want) (e : AllocError) (from to : Stage R) : Type 0 where
      pub cause : IsUnmade None t wants e
      pub maker : IsSameMaker from.maker to.maker

    one_stopped : (k : ℕ) (decls : List MemoryDecl) (rest : List (Option Image)) (others : List Want) (e : AllocError) (from to : Stage R) → From k rest → Good k decls → IsStage from → StopsAtOne One k decls e from to → IsStopped (as_wants (wants_from decls rest) ++ others) e from to
    one_stopped k [] rest others e from to at_k good stage stops = absurd stops
    one_stopped k (d ∷ ds) rest others e from to at_k good stage (inl turn) =
        let want = want_here k d ds rest at_k in
        let image : Option Image = image_at images k in
        let cause = cause_here t d image (as_wants (wants_from ds want.0) ++ others) e (refused (own_memory t d image) (Made d image from to) e from.maker to.maker (answered d image (Err e) from to stage turn)) in
        record { cause = subst (λ (ms : List MemoryWant). IsUnmade None t (as_wants ms ++ others) e) (sym want.1) cause; maker = turn.maker }
    one_stopped k (d ∷ ds) rest others e from to at_k good stage (inr later) =
        let want = want_here k d ds rest at_k in
        let here = good_here k d ds good in
        let image : Option Image = image_at images k in
        let one = one_begun d image later.0 from later.1.0 here.0 here.1 stage later.1.1.0 in
        let more = one_stopped (k + 1) ds want.0 others e later.1.0 to want.2 (good_next k d ds good) (stage_after image d.ty (Ok later.0) from later.1.0 stage later.1.1.0) later.1.1.1 in
        record {
          cause = subst (λ (ms : List MemoryWant). IsUnmade None t (as_wants ms ++ others) e) (sym want.1) (cause_later t d image (as_wants (wants_from ds want.0) ++ others) e one.allowed more.cause);
          maker = same_twice from.maker later.1.0.maker to.maker later.1.1.0.maker more.maker;
        }

  module _ (P : Type 0) where
    abbrev IsTableOf : TableType → Result (OnDemandTable P) AllocError → Stage R → Stage R → Type 0
    IsTableOf ty result from to = IsTableTurn told leads {P = P} t.settings.tunables.tunables.table_lazy_init ty result from to

    -- a table's own refusal is the party's
    table_own : (ty : TableType) (result : Result (OnDemandTable P) AllocError) (from to : Stage R) → IsStage from → IsTableOf ty result from to → AllocatesListed (own_table t ty) (IsTableMade ty t.settings.tunables.tunables.table_lazy_init) result
    table_own ty result from to stage turn =
        let Answered : Result Bool LimiterError → Type 0 = λ answer. AllocatesListed (table_refused answer ty) (IsTableMade ty t.settings.tunables.tunables.table_lazy_init) result in
        subst Answered (table_answer_told t.host.rule (told from.limiter).rule (answer_given result) ty.limits.min (Some (type_maximum ty)) stage.ruled turn.asked) turn.answer

    stage_then : (ty : TableType) (result : Result (OnDemandTable P) AllocError) (from to : Stage R) → IsStage from → IsTableOf ty result from to → IsStage to
    stage_then ty result from to stage turn = record { ruled = ap (λ (l : LimiterTold). l.rule) turn.answered.left ∙ stage.ruled; for = subst (IsMakerFor t) (sym turn.maker) stage.for }

    abbrev OneTable : ℕ → TableType → Result (OnDemandTable P) AllocError → Stage R → Stage R → Type 0
    OneTable k ty result from to = TableOf told leads {P = P} t.settings.tunables.tunables.table_lazy_init k ty result from to

    pub record AreTablesBegun (types : List TableType) (leases : List (OnDemandTable P)) (from to : Stage R) : Type 0 where
      pub allowed : first_unmade t (map new_table types) ≡ None
      pub seen : map seen_table_lease leases ≡ map (made_table t) types
      pub held : All (λ l. HasType l.table) leases
      pub maker : to.maker ≡ from.maker

    tables_begun : (k : ℕ) (types : List TableType) (leases : List (OnDemandTable P)) (from to : Stage R) → IsStage from → InTurn OneTable k types leases from to → AreTablesBegun types leases from to
    tables_begun k [] [] from to stage turn = record { allowed = refl; seen = refl; held = All-nil (λ l. HasType l.table); maker = ap (λ (s : Stage R). s.maker) turn }
    tables_begun k [] (x ∷ xs) from to stage turn = absurd turn
    tables_begun k (ty ∷ types) [] from to stage turn = absurd turn
    tables_begun k (ty ∷ types) (x ∷ xs) from to stage turn =
        let lazy : Bool = t.settings.tunables.tunables.table_lazy_init in
        let one = listed_granted (own_table t ty) (IsTableMade ty lazy) x (table_own ty (Ok x) from turn.0 stage turn.1.0) in
        let more = tables_begun (k + 1) types xs turn.0 to (stage_then ty (Ok x) from turn.0 stage turn.1.0) turn.1.1 in
        record {
          allowed = none_or (own_table t ty) (first_unmade t (map new_table types)) one.0 ∙ more.allowed;
          seen = ap (λ (v : TableView). seen_table v ∷ map seen_table_lease xs) one.1.table.view ∙ ap (λ (ps : List PrivateTable). made_table t ty ∷ ps) more.seen;
          held = All-cons (λ l. HasType l.table) x xs (one.1.table.element_type ∙ sym (ap (λ (v : TableView). type_of v.kind) one.1.table.view ∙ type_of_kind ty.element lazy)) more.held;
          maker = more.maker ∙ turn.1.0.maker;
        }

    -- or one of them is refused: with its own refusal, or for want of memory
    pub record IsTableStopped (types : List TableType) (e : AllocError) (from to : Stage R) : Type 0 where
      pub cause : (first_unmade t (map new_table types) ≡ Some e) ⊎ (e ≡ alloc.Memory)
      pub maker : to.maker ≡ from.maker

    table_stopped : (k : ℕ) (types : List TableType) (e : AllocError) (from to : Stage R) → IsStage from → StopsAtOne OneTable k types e from to → IsTableStopped types e from to
    table_stopped k [] e from to stage stops = absurd stops
    table_stopped k (ty ∷ types) e from to stage (inl turn) =
        let lazy : Bool = t.settings.tunables.tunables.table_lazy_init in
        record { cause = table_here (first_unmade t (map new_table types)) (own_table t ty) (IsTableMade ty lazy) e (table_own ty (Err e) from to stage turn); maker = turn.maker }
    table_stopped k (ty ∷ types) e from to stage (inr later) =
        let lazy : Bool = t.settings.tunables.tunables.table_lazy_init in
        let one = listed_granted (own_table t ty) (IsTableMade ty lazy) later.0 (table_own ty (Ok later.0) from later.1.0 stage later.1.1.0) in
        let more = table_stopped (k + 1) types e later.1.0 to (stage_then ty (Ok later.0) from later.1.0 stage later.1.1.0) later.1.1.1 in
        record {
          cause =
              elim more.cause [
                | inl own ↦ inl (none_or (own_table t ty) (first_unmade t (map new_table types)) one.0 ∙ own)
                | inr memory ↦ inr memory
              ];
          maker = more.maker ∙ later.1.1.0.maker;
        }

in_none : {W : Type 0} (wants : List W) (n : ℕ) → length wants ≡ n → replicate n no_slot ≡ no_slots wants
in_none wants n is = ap (λ (k : ℕ). replicate k no_slot) (sym is) ∙ each_none wants
  where
    each_none : {W : Type 0} (wants : List W) → replicate (length wants) no_slot ≡ no_slots wants
    each_none [] = refl
    each_none (want ∷ wants) = ap (λ (slots : List ℕ). no_slot ∷ slots) (each_none wants)

wants_long : (decls : List MemoryDecl) (images : List (Option Image)) → length (wants_from decls images) ≡ length decls
wants_long [] images = refl
wants_long (d ∷ ds) [] = omega (arith, wants_long ds [])
wants_long (d ∷ ds) (i ∷ is) = omega (arith, wants_long ds is)

-- a request is refused for the first of its images that doesn't begin with a page
pub offset_unmade : (t : Terms) (m : ModuleInfo) (wants : List Want) (rule : Unsupported) → first_refused (λ d. offset_refused t.settings.page d.image) m.memories ≡ Some rule → IsUnmade (unsupported_on_demand t.settings.page m) t wants (alloc.Unsupported rule)
offset_unmade t m wants rule is =
    let Cause : Option Unsupported → Type 0 = λ o. IsUnmade o t wants (alloc.Unsupported rule) in
    subst Cause (sym (some_or (first_refused (λ d. offset_refused t.settings.page d.image) m.memories) (module_refused m) rule is)) (inl refl)

broken_none : (o p : Option Unsupported) → o ≡ None → option_or o p ≡ p
broken_none None p is = refl
broken_none (Some x) p is = absurd cc

-- Where there are images memories lie in regions, and each of them fits its memory.
or_last : (a b c d : Bool) → d ≡ true → (a || (b || (c || d))) ≡ true
or_last true b c d is = refl
or_last false true c d is = refl
or_last false false true d is = refl
or_last false false false d is = is

below_of : {X : Type 0} (xs : List X) (k : ℕ) (x : X) → slice_get xs k ≡ Some x → k < length xs
below_of [] k x is = absurd cc
below_of (y ∷ ys) zero x is = omega arith
below_of (y ∷ ys) (suc k) x is = omega (arith, below_of ys k x is)

module _ (t : Terms) (tunables : Tunables) (call : ModuleAsked) (of : IsCallOnDemand t tunables call) where
  abbrev number : ℕ
  number = number_of call

  abbrev decls : List MemoryDecl
  decls = call.info.memories

  -- The request is for the module's memories with their images, and for its tables.
  first_images : (o : Option (List (Option Image))) (j : ℕ) → slice_index_or (unwrap_or o []) j None ≡ image_at o j
  first_images None j = refl
  first_images (Some images) j = refl

  abbrev request : Request
  request = request_on_demand t number

  memories_are : wants_from decls (unwrap_or call.images []) ≡ request.memories
  memories_are =
      let kept : t.settings.tunables.tunables ≡ tunables = ap (λ (s : MemoryTunables). s.tunables) of.settings in
      let Wants : List MemoryDecl → Tunables → List MemoryWant = λ ds u. wants_from ds (unwrap_or (images_of u t.settings.page number ds) []) in
      ap (λ (o : Option (List (Option Image))). wants_from decls (unwrap_or o [])) of.images ∙ ap (λ (m : ModuleInfo). Wants m.memories tunables) (sym of.info) ∙ ap (Wants (module_of t number).memories) (sym kept)

  -- what the reply says of them
  pub memories_in_none : replicate (length decls) no_slot ≡ no_slots request.memories
  memories_in_none = in_none (wants_from decls (unwrap_or call.images [])) (length decls) (wants_long decls (unwrap_or call.images [])) ∙ ap no_slots memories_are

  pub tables_in_none : replicate (length call.info.tables) no_slot ≡ no_slots request.tables
  tables_in_none = in_none call.info.tables (length call.info.tables) refl ∙ ap (λ (m : ModuleInfo). no_slots m.tables) (sym of.info)

  module _ (maker : MakerTold) (page : t.settings.page ≡ maker.page) (some : 0 < maker.page) where
    abbrev ImagesAt : Option (List (Option Image)) → Type 0
    ImagesAt images = (k : ℕ) → IfSome (slice_get decls k) (λ d. (d.ty.page_size_log2 < 64) × IfSome (image_at images k) (IsGood t d.ty))

    mapped_inside : tunables.memory_init_cow ≡ true → in_regions t.settings.tunables ≡ true
    mapped_inside cow = ap in_regions of.settings ∙ or_last tunables.signals_based_traps _ _ tunables.memory_init_cow cow

    usable_at : (k : ℕ) (o : Option MemoryDecl) (P : MemoryDecl → Type 0) → slice_get decls k ≡ o → ((d : MemoryDecl) → slice_get decls k ≡ Some d → P d) → IfSome o (λ d. (d.ty.page_size_log2 < 64) × P d)
    usable_at k None P at_k each = tt
    usable_at k (Some d) P at_k each =
        let own : d ≡ slice_index_or decls k d = sym (get_or_from_slice_get decls k d d at_k) in
        let small : (slice_index_or decls k d).ty.page_size_log2 < 64 = of.usable.types k d (below_of decls k d at_k) in
        (subst (λ (x : MemoryDecl). x.ty.page_size_log2 < 64) (sym own) small, each d at_k)

    images_good_by : (b : Bool) → (b ≡ true → (tunables.memory_init_cow ≡ true) × (list_all (ends_in_minimum maker.page) decls ≡ true)) → ImagesAt (if b then Some (images_from (record { 0 = number }) maker.page 0 decls) else None)
    images_good_by false has k = usable_at k (slice_get decls k) (λ d. IfSome (image_at None k) (IsGood t d.ty)) refl (λ d at_k. tt)
    images_good_by true has k =
        usable_at k (slice_get decls k) (λ d. IfSome (slice_index_or (images_from (record { 0 = number }) maker.page 0 decls) k None) (IsGood t d.ty)) refl
        (λ d at_k.
        let fits : IfSome (Some d) (λ x. IfSome (slice_index_or (images_from (record { 0 = number }) maker.page 0 decls) k None) (ImageOf x.ty maker)) = subst (λ (o : Option MemoryDecl). IfSome o (λ x. IfSome (slice_index_or (images_from (record { 0 = number }) maker.page 0 decls) k None) (ImageOf x.ty maker))) at_k (begins_from (record { 0 = number }) 0 maker decls some (has refl).1 k) in
        told_weaker (ImageOf d.ty maker) (IsGood t d.ty) (slice_index_or (images_from (record { 0 = number }) maker.page 0 decls) k None) (λ i is. (is.inside, mapped_inside (has refl).0)) fits)

    has_all : has_images tunables maker.page decls ≡ true → (tunables.memory_init_cow ≡ true) × (list_all (ends_in_minimum maker.page) decls ≡ true)
    has_all is = (first_true tunables.memory_init_cow _ is, second_true (not (is_some (first_misplaced maker.page decls))) (list_all (ends_in_minimum maker.page) decls) (second_true tunables.memory_init_cow _ is))

    images_are : call.images ≡ images_of tunables maker.page number decls
    images_are = of.images ∙ ap (λ (n : ℕ). images_of tunables n number decls) page

    pub images_good : ImagesAt call.images
    images_good = subst ImagesAt (sym images_are) (images_good_by (has_images tunables maker.page decls) has_all)

    abbrev both_wants : List MemoryWant → List TableType → List Want
    both_wants ms types = map new_memory ms ++ map new_table types

    wants_are : both_wants (wants_from decls (unwrap_or call.images [])) call.info.tables ≡ wants_of request
    wants_are = ap (λ (ms : List MemoryWant). both_wants ms call.info.tables) memories_are ∙ ap (λ (m : ModuleInfo). both_wants request.memories m.tables) (sym of.info)

    broken_is : first_refused (λ d. offset_refused t.settings.page d.image) decls ≡ None → request.broken ≡ module_refused call.info
    broken_is none = ap (unsupported_on_demand t.settings.page) of.info ∙ broken_none (first_refused (λ d. offset_refused t.settings.page d.image) decls) (module_refused call.info) none

    module _ {R : Type 0} (told : R → LimiterTold) (leads : R → Exchange → R → Type 0) (M L P : Type 0) (from to : Stage R) (ruled : (told from.limiter).rule ≡ Some t.host.rule) (tells : t.tells ≡ maker.tells) (at_maker : from.maker ≡ maker) (offsets : first_refused (λ d. offset_refused t.settings.page d.image) decls ≡ None) where
      abbrev begins : IsStage t told leads M L from
      begins = record { ruled = ruled; for = subst (IsMakerFor t) (sym at_maker) (record { tells = tells; page = page; paged = some }) }

      abbrev Answers : Result (OnDemandInstance M L P) AllocError → Type 0
      Answers result = AnswersOnDemand t request result × IsSameMaker from.maker to.maker

      abbrev rest_images : List (Option Image)
      rest_images = unwrap_or call.images []

      abbrev wanted : List MemoryWant
      wanted = wants_from decls rest_images

      from_first : (j : ℕ) → slice_index_or rest_images j None ≡ image_at call.images (0 + j)
      from_first j = first_images call.images j ∙ ap (image_at call.images) {x = j} {y = 0 + j} (omega arith)

      good_from : (j : ℕ) → IfSome (slice_get decls j) (λ d. (d.ty.page_size_log2 < 64) × IfSome (image_at call.images (0 + j)) (IsGood t d.ty))
      good_from j = subst (λ (i : ℕ). IfSome (slice_get decls j) (λ d. (d.ty.page_size_log2 < 64) × IfSome (image_at call.images i) (IsGood t d.ty))) {x = j} {y = 0 + j} (omega arith) (images_good j)

      -- why it is refused, if it is
      unmade : (e : AllocError) → request.broken ≡ None → IsUnmade None t (both_wants wanted call.info.tables) e → IsUnmade request.broken t (wants_of request) e
      unmade e none is =
          let Cause : Option Unsupported → Type 0 = λ o. IsUnmade o t (wants_of request) e in
          subst Cause (sym none) (subst (λ (ws : List Want). IsUnmade None t ws e) wants_are is)

      in_turn : (result : Result (OnDemandInstance M L P) AllocError) → request.broken ≡ None → GrantsInTurn told leads {M = M} {L = L} {P = P} (refuses_by t told leads M L) (designs_by t told leads M L) t.settings.tunables call.info call.images result from to → Answers result
      in_turn (Ok lease) none is =
          let begun = all_begun t told leads M L call.images 0 decls rest_images lease.memories from is.0 from_first good_from begins is.1.0 in
          let listed = tables_begun t told leads M L P 0 call.info.tables lease.tables is.0 to begun.stage is.1.1 in
          let allowed : first_unmade t (both_wants wanted call.info.tables) ≡ None = unmade_append t (map new_memory wanted) (map new_table call.info.tables) begun.allowed ∙ listed.allowed in
          let types : call.info.tables ≡ request.tables = ap (λ (m : ModuleInfo). m.tables) (sym of.info) in (
            (
              record { supported = none; allowed = subst (λ (ws : List Want). first_unmade t ws ≡ None) wants_are allowed },
              (
                ap (λ (ms : List PrivateMemory). record { memories = ms; tables = map seen_table_lease lease.tables }) (begun.seen ∙ ap (map (made_memory t)) memories_are)
                    ∙ ap (λ (ts : List PrivateTable). record { memories = map (made_memory t) request.memories; tables = ts }) (listed.seen ∙ ap (map (made_table t)) types),
                record { memories = begun.held; tables = listed.held },
              ),
            ),
            subst (IsSameMaker from.maker) (sym listed.maker) begun.maker,
          )
      in_turn (Err e) none (inl is) = (unmade e none (inr (inl is.0)), subst (λ (s : Stage R). IsSameMaker from.maker s.maker) (sym is.1) (still_same from.maker))
      in_turn (Err e) none (inr (inl stops)) =
          let stopped = one_stopped t told leads M L call.images 0 decls rest_images (map new_table call.info.tables) e from to from_first good_from begins stops in
          (unmade e none stopped.cause, stopped.maker)
      in_turn (Err e) none (inr (inr later)) =
          let begun = all_begun t told leads M L call.images 0 decls rest_images later.0 from later.1.0 from_first good_from begins later.1.1.0 in
          let stopped = table_stopped t told leads M L P 0 call.info.tables e later.1.0 to begun.stage later.1.1.1 in
          let cause : IsUnmade None t (both_wants wanted call.info.tables) e =
          elim stopped.cause [
            | inl own ↦ inl (unmade_append t (map new_memory wanted) (map new_table call.info.tables) begun.allowed ∙ own)
            | inr memory ↦ inr (inl memory)
          ] in
          (unmade e none cause, subst (IsSameMaker from.maker) (sym stopped.maker) begun.maker)

      by_rule : (o : Option Unsupported) (result : Result (OnDemandInstance M L P) AllocError) → request.broken ≡ o → GrantsUnless told leads {M = M} {L = L} {P = P} o (refuses_by t told leads M L) (designs_by t told leads M L) t.settings.tunables call.info call.images result from to → Answers result
      by_rule None result broken is = in_turn result broken is
      by_rule (Some rule) result broken is =
          let Gives : Result (OnDemandInstance M L P) AllocError → Type 0 = Answers in
          let Cause : Option Unsupported → Type 0 = λ o. IsUnmade o t (wants_of request) (alloc.Unsupported rule) in
          subst Gives (sym is.0) (subst Cause (sym broken) (inl refl), subst (λ (s : Stage R). IsSameMaker from.maker s.maker) (sym is.1) (still_same from.maker))

      -- So a request is answered as the party's terms say.
      pub answered_as : (result : Result (OnDemandInstance M L P) AllocError) → GrantsInstance told leads {M = M} {L = L} {P = P} (refuses_by t told leads M L) (designs_by t told leads M L) t.settings.tunables call.info call.images result from to → Answers result
      answered_as result is = by_rule (module_refused call.info) result (broken_is offsets) is
