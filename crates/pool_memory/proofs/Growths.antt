-- Each way that a growth of a memory can go.
use Rattle.std.proofs.Common.{◌≡◌, ◌≢◌, ℕ, Bool, true, false, refl, sym, ap, ◌∙◌, subst, arith, Option, Some, None, Result, Ok, Err, ◌==◌, not}
use Rattle.pool_memory.proofs.Imports.{eq-eqb, nat_tests, MakerTold, allow_growth_to, memory_answer, LimiterTold, after_answer, GrowthQuestion, Exchange, may_grow, Exchanged, Obstacles, GrowthGiven, growth_exchanges, AllowedMakes, IsReported, IsRuled, result_by, answer_result, allowed_result, report_result, Memory, LimiterError, GrowError, GrowFault, unasked, ruled_nothing, ruled_past_type, ruled_error, ruled_no, ruled_yes, allowed_grown, allowed_past, allowed_failed}
use Rattle.pool_limits.specs.declared.errors.GrowError.TheVariants as failed
use Rattle.pool_limits.specs.declared.errors.GrowFault.TheVariants as fault
use Rattle.pool_memory.specs.Linear.{Linear}
use Rattle.pool_memory.specs.Moving.{MakerLeft}
use Rattle.pool_memory.specs.Making.{maximum_asked}
use Rattle.pool_memory.specs.Memories.{MemoryState}
use Rattle.pool_memory.specs.Growing.{obstacles, growth_question, GrowsMoving, IsAllowedGrowth, GrowthLeaves, GrowthLeavesMaker, AskedPages, GrowsTo, IsUngrown, grown_size, past_room, first_of}

seen : (pages : ℕ) (old : MemoryState) (a b : Bool) → (pages == 0) ≡ a → allow_growth_to old.ty (grown_size pages old) ≡ not b → not (not b) ≡ b → obstacles pages old ≡ record { nothing = a; past_type = b; past_room = past_room (grown_size pages old) old }
seen pages old a b first second twice =
    let past : not (allow_growth_to old.ty (grown_size pages old)) ≡ b = ap not second ∙ twice in
    let room : Bool = past_room (grown_size pages old) old in
    ap (λ (n : Bool). record { nothing = n; past_type = not (allow_growth_to old.ty (grown_size pages old)); past_room = room }) first
    ∙ ap (λ (n : Bool). record { nothing = a; past_type = n; past_room = room }) past

some_pages : (pages : ℕ) → pages ≢ 0 → (pages == 0) ≡ false
some_pages pages some = grind (arith, nat_tests)

both_make : (S T G H : Type 0) (U V : GrowError → Type 0) (past : Bool) (failure : Option GrowError) → AllowedMakes (S × T) (G × H) (λ e. U e × V e) past failure → AllowedMakes S G U past failure × AllowedMakes T H V past failure
both_make S T G H U V true failure both = both
both_make S T G H U V false None both = both
both_make S T G H U V false (Some e) both = both

-- over a limiter, and a maker that tells this
module _ {R X : Type 0} (told : R → LimiterTold) (leads : R → Exchange → R → Type 0) (pages : ℕ) (x : X) (old : MemoryState) (maker : Option MakerTold) where
  abbrev Grows : MemoryState → Option MakerTold → R → R → Result (Option X) GrowFault → Type 0
  Grows new left before after r = GrowsMoving told leads pages x old new maker left (Some before) (Some after) r

  abbrev question : GrowthQuestion
  question = growth_question pages old

  growth_of : (new : MemoryState) (left : Option MakerTold) (before after : R) (r : Result (Option X) GrowFault) (o : Obstacles) (g : GrowthGiven) → obstacles pages old ≡ o → IsRuled question o g x (told before) (told after) r → new ≡ record old { linear = new.linear }
      → GrowthLeaves o g (grown_size pages old) old.linear new.linear → GrowthLeavesMaker o g (grown_size pages old) old.linear new.linear maker left → Exchanged leads (growth_exchanges question o g) before after → Grows new left before after r
  growth_of new left before after r o g at ruled memory linear makers exchanged = (
    g,
    (
      record {
        ruled = let P : Obstacles → Type 0 = λ k. IsRuled question k g x (told before) (told after) r in subst P (sym at) ruled;
        memory = memory;
        linear = let P : Obstacles → Type 0 = λ k. GrowthLeaves k g (grown_size pages old) old.linear new.linear in subst P (sym at) linear;
      },
      (
        (let P : Obstacles → Type 0 = λ k. Exchanged leads (growth_exchanges question k g) before after in subst P (sym at) exchanged),
        (let P : Obstacles → Type 0 = λ k. GrowthLeavesMaker k g (grown_size pages old) old.linear new.linear maker left in subst P (sym at) makers),
      ),
    ),
  )

  -- by nothing
  pub grown_nothing : (l : R) → pages ≡ 0 → Grows old maker l l (Ok (Some x))
  grown_nothing l none =
      let past : Bool = not (allow_growth_to old.ty (grown_size pages old)) in
      let room : Bool = past_room (grown_size pages old) old in
      growth_of old maker l l (Ok (Some x)) (record { nothing = true; past_type = past; past_room = room }) (unasked question (told l))
      (ap (λ (n : Bool). record { nothing = n; past_type = past; past_room = room }) (eq-eqb pages 0 none))
      (ruled_nothing question past room x (told l)) refl refl refl refl

  -- past what the type allows
  pub grown_past_type : (before after : R) (r : Result (Option X) GrowFault) → pages ≢ 0 → allow_growth_to old.ty (grown_size pages old) ≡ false → (reported : IsReported told leads Memory failed.TypeLimit before after r) → Grows old maker before after r
  grown_past_type before after r some past reported =
      let room : Bool = past_room (grown_size pages old) old in
      growth_of old maker before after r (record { nothing = false; past_type = true; past_room = room })
      (record (unasked question (told before)) { report = reported.report })
      (seen pages old false true (some_pages pages some) past refl)
      (ruled_past_type told leads question room x before after r reported) refl refl refl (after, (reported.exchange, refl))

  -- where the limiter refuses it with an error
  pub grown_error : (before after : R) (e : LimiterError) → pages ≢ 0 → allow_growth_to old.ty (grown_size pages old) ≡ true → Err e ≡ memory_answer (told before).rule (Err e) (grown_size pages old) (maximum_asked old.ty) → told after ≡ after_answer (Err e) (told before) → leads before (may_grow question (Err e)) after → Grows old maker before after (Err (fault.LimiterFault e))
  grown_error before after e some allowed answer limiter exchange =
      let room : Bool = past_room (grown_size pages old) old in
      growth_of old maker before after (Err (fault.LimiterFault e)) (record { nothing = false; past_type = false; past_room = room })
      (record (unasked question (told before)) { answer = Err e })
      (seen pages old false false (some_pages pages some) allowed refl)
      (ruled_error question room x (told before) (told after) e answer limiter) refl refl refl (after, (exchange, refl))

  -- where it says no
  pub grown_no : (before after : R) → pages ≢ 0 → allow_growth_to old.ty (grown_size pages old) ≡ true → Ok false ≡ memory_answer (told before).rule (Ok false) (grown_size pages old) (maximum_asked old.ty) → told after ≡ after_answer (Ok false) (told before) → leads before (may_grow question (Ok false)) after → Grows old maker before after (Ok None)
  grown_no before after some allowed answer limiter exchange =
      let room : Bool = past_room (grown_size pages old) old in
      growth_of old maker before after (Ok None) (record { nothing = false; past_type = false; past_room = room })
      (record (unasked question (told before)) { answer = Ok false })
      (seen pages old false false (some_pages pages some) allowed refl)
      (ruled_no question room x (told before) (told after) answer limiter) refl refl refl (after, (exchange, refl))

  -- where it says yes
  pub grown_allowed : (new : MemoryState) (left : Option MakerTold) (before between after : R) (r : Result (Option X) GrowFault) → pages ≢ 0 → allow_growth_to old.ty (grown_size pages old) ≡ true → Ok true ≡ memory_answer (told before).rule (Ok true) (grown_size pages old) (maximum_asked old.ty) → told between ≡ after_answer (Ok true) (told before) → leads before (may_grow question (Ok true)) between → IsAllowedGrowth told leads (past_room (grown_size pages old) old) (grown_size pages old) x old.linear new.linear maker left between after r → new ≡ record old { linear = new.linear } → Grows new left before after r
  grown_allowed new left before between after r some allowed answer limiter exchange growth memory =
      let past : Bool = past_room (grown_size pages old) old in
      let size : ℕ = grown_size pages old in
      let makes = both_make (new.linear ≡ old.linear) (left ≡ maker) (GrowsTo size old.linear new.linear) (MakerLeft None size old.linear new.linear maker left) (λ e. IsUngrown e size old.linear new.linear) (λ e. MakerLeft (Some e) size old.linear new.linear maker left) past growth.failure growth.makes in
      growth_of new left before after r (record { nothing = false; past_type = false; past_room = past })
      (record { answer = Ok true; failure = growth.failure; report = growth.report })
      (seen pages old false false (some_pages pages some) allowed refl)
      (ruled_yes told leads question past x ((new.linear ≡ old.linear) × (left ≡ maker)) (GrowsTo size old.linear new.linear × MakerLeft None size old.linear new.linear maker left) (λ e. IsUngrown e size old.linear new.linear × MakerLeft (Some e) size old.linear new.linear maker left) (told before) between after r answer limiter growth)
      memory makes.0 makes.1 (between, (exchange, growth.exchanged))

abbrev is_err_of : GrowError → Result (Unit {0}) GrowError
is_err_of e = Err e

-- after the limiter allowed a size
module _ {R X : Type 0} (told : R → LimiterTold) (leads : R → Exchange → R → Type 0) (size : ℕ) (x : X) (old new : Linear) (maker left : Option MakerTold) where
  abbrev Allowed : Bool → R → R → Result (Option X) GrowFault → Type 0
  Allowed past before after r = IsAllowedGrowth told leads past size x old new maker left before after r

  abbrev Same : Type 0
  Same = (new ≡ old) × (left ≡ maker)

  abbrev Grown : Type 0
  Grown = GrowsTo size old new × MakerLeft None size old new maker left

  abbrev Ungrown : GrowError → Type 0
  Ungrown e = IsUngrown e size old new × MakerLeft (Some e) size old new maker left

  -- the pages gave it
  pages_ok : (past : Bool) (l : R) → AskedPages past size old new maker left (Ok tt) → Allowed past l l (Ok (Some x))
  pages_ok true l asked = absurd (let e : Ok tt ≡ Err failed.MaximumExceeded = asked.0 in cc)
  pages_ok false l asked = allowed_grown told leads Memory x Same Grown Ungrown l asked

  -- they didn't, which was reported
  pages_err : (past : Bool) (before after : R) (e : GrowError) (r : Result (Option X) GrowFault) → AskedPages past size old new maker left (Err e) → IsReported told leads Memory e before after r → Allowed past before after r
  pages_err true before after e r asked reported =
      let is : is_err_of e ≡ is_err_of failed.MaximumExceeded = asked.0 in
      let same : e ≡ failed.MaximumExceeded = cc in
      let P : GrowError → Type 0 = λ k. IsReported told leads Memory k before after r in
      allowed_past told leads Memory x Same Grown Ungrown before after r (subst P same reported) asked.1
  pages_err false before after e r asked reported = allowed_failed told leads Memory x Same Grown Ungrown before after e r reported asked

  pub allowed_ok : (past : Bool) (l : R) (result : Result (Unit {0}) GrowError) (u : Unit {0}) → result ≡ Ok u → AskedPages past size old new maker left result → Allowed past l l (Ok (Some x))
  allowed_ok past l result u is asked =
      let P : Result (Unit {0}) GrowError → Type 0 = λ k. AskedPages past size old new maker left k in
      pages_ok past l (subst P is asked)

  pub allowed_err : (past : Bool) (before after : R) (result : Result (Unit {0}) GrowError) (e : GrowError) (r : Result (Option X) GrowFault) → result ≡ Err e → AskedPages past size old new maker left result → IsReported told leads Memory e before after r → Allowed past before after r
  allowed_err past before after result e r is asked reported =
      let P : Result (Unit {0}) GrowError → Type 0 = λ k. AskedPages past size old new maker left k in
      pages_err past before after e r (subst P is asked) reported

first_report : (report : Result (Unit {0}) LimiterError) → first_of (report_result {X = ℕ × ℕ} false report) ≡ report_result {X = ℕ} false report
first_report (Err e) = refl
first_report (Ok u) = refl

first_allowed : (x : ℕ × ℕ) (past : Bool) (failure : Option GrowError) (report : Result (Unit {0}) LimiterError) → first_of (allowed_result x past failure report) ≡ allowed_result x.0 past failure report
first_allowed x true failure report = first_report report
first_allowed x false None report = refl
first_allowed x false (Some failed.TypeLimit) report = first_report report
first_allowed x false (Some failed.MaximumExceeded) report = first_report report
first_allowed x false (Some failed.PageFault) report = first_report report
first_allowed x false (Some failed.Memory) report = refl
first_allowed x false (Some failed.Overflow) report = first_report report

first_answer : (x : ℕ × ℕ) (past : Bool) (answer : Result Bool LimiterError) (failure : Option GrowError) (report : Result (Unit {0}) LimiterError) → first_of (answer_result x past answer failure report) ≡ answer_result x.0 past answer failure report
first_answer x past (Err e) failure report = refl
first_answer x past (Ok false) failure report = refl
first_answer x past (Ok true) failure report = first_allowed x past failure report

first_by : (x : ℕ × ℕ) (a b c : Bool) (g : GrowthGiven) → first_of (result_by x a b c g) ≡ result_by x.0 a b c g
first_by x true b c g = refl
first_by x false true c g = first_report g.report
first_by x false false c g = first_answer x c g.answer g.failure g.report

-- the same growth, whose result tells only the old size
pub growth_first : {R : Type 0} (told : R → LimiterTold) (leads : R → Exchange → R → Type 0) (pages : ℕ) (x : ℕ × ℕ) (old new : MemoryState) (maker left : Option MakerTold) (before after : R) (r : Result (Option (ℕ × ℕ)) GrowFault) (s : Result (Option ℕ) GrowFault) → s ≡ first_of r → GrowsMoving told leads pages x old new maker left (Some before) (Some after) r → GrowsMoving told leads pages x.0 old new maker left (Some before) (Some after) s
growth_first told leads pages x old new maker left before after r s is grows =
    let growth = grows.1.0 in
    let o : Obstacles = obstacles pages old in (
      grows.0,
      (
        record {
          ruled = record {
            answer = growth.ruled.answer;
            report = growth.ruled.report;
            replies = is ∙ ap first_of growth.ruled.replies ∙ first_by x o.nothing o.past_type o.past_room grows.0;
            limiter = growth.ruled.limiter;
          };
          memory = growth.memory;
          linear = growth.linear;
        },
        grows.1.1,
      ),
    )
