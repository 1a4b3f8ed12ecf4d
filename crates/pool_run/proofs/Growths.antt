-- A growth that a limiter decided by its rule ends as the rule alone says, and leaves the memory so.
use Rattle.std.proofs.Common.{◌≡◌, ℕ, ◌≤◌, Bool, true, false, Option, Some, None, Result, Ok, Err, ◌⊎◌, inl, inr, refl, sym, ap, ◌∙◌, subst, ◌==◌, ◌||◌, ◌&&◌, not, nat_lt, if◌then◌else◌}
use Rattle.pool_run.proofs.Imports.{ltb-false, allow_growth_to, GrowthRule, always, limited_by, memory_answer, memory_failure, LimiterTold, GrowthGiven, is_want_of_memory, report_result, result_by, pages_result, answer_result, GrowError, GrowFault, LimiterError, FailsInPlace, grown_size, exceeds, past_room, IsGrowth, PagesLeave, AnswerLeaves, LeavesBy, Storage, in_slot, stored, Linear, maximum_asked, MemoryState}
use Rattle.pool_limits.specs.declared.errors.GrowError.TheVariants.{PageFault}
use Rattle.pool_run.specs.AtOnce.{growth_reply}
use Rattle.pool_run.specs.Private.{PrivateMemory, GrowthEnd, as_it_was, could_not, has_grown, growth, size_wanted, reported, if_allowed}
use Rattle.pool_run.specs.Turns.{seen_as, GrowthLeaves, MemoryGrows}
use Rattle.pool_run.specs.declared.reply.Reply.{Reply}
use Rattle.pool_run.specs.declared.reply.Reply.TheVariants.{Grown}

-- in its place it fails by a call on the pages
fault_in_place : (e : GrowError) (size : ℕ) (st left : Storage) → FailsInPlace e size st left → e ≡ PageFault
fault_in_place e size (stored len bytes) left is = absurd is
fault_in_place e size (in_slot s) (stored len bytes) is = absurd is
fault_in_place e size (in_slot s) (in_slot t) is = is.0

pub reported_seen : (r : Result (Unit {0}) LimiterError) → growth_reply (report_result false r) ≡ reported r
reported_seen (Ok u) = refl
reported_seen (Err e) = refl

-- The end of a growth of what has so many bytes, and its reply: where its pages are called, and in all.
abbrev pub tried_by : ℕ → Result (Unit {0}) LimiterError → Bool → GrowthEnd × Reply
tried_by old r fault = if fault then (could_not, reported r) else (has_grown, Grown (Some old))

abbrev pub ended_by : ℕ → Bool → Bool → Bool → Result Bool LimiterError → Result (Unit {0}) LimiterError → Bool → GrowthEnd × Reply
ended_by old nothing past_type past answer r fault =
    if nothing then (as_it_was, Grown (Some old)) else (if past_type then (as_it_was, reported r) else if_allowed answer (if past then (as_it_was, reported r) else tried_by old r fault))

-- it ends as one of these, if a call on the pages failed or not
record EndsAs (size : ℕ) (m new : MemoryState) (reply : Reply) (end : Bool → GrowthEnd × Reply) : Type 0 where
  fault : Bool
  says : reply ≡ (end fault).1
  leaves : GrowthLeaves (end fault).0 size m new

module _ (size : ℕ) (m : MemoryState) (new : Linear) where
  abbrev left_as : MemoryState
  left_as = record m { linear = new }

  abbrev tried : Result (Unit {0}) LimiterError → Bool → GrowthEnd × Reply
  tried r fault = tried_by m.linear.size r fault

  abbrev ends : Bool → Bool → Bool → Result Bool LimiterError → Result (Unit {0}) LimiterError → Bool → GrowthEnd × Reply
  ends nothing past_type past answer r fault = ended_by m.linear.size nothing past_type past answer r fault

  unchanged : (reply : Reply) (end : Bool → GrowthEnd × Reply) → end false ≡ (as_it_was, reply) → new ≡ m.linear → EndsAs size m left_as reply end
  unchanged reply end is same =
      let L : GrowthEnd → Type 0 = λ e. GrowthLeaves e size m left_as in
      record { fault = false; says = sym (ap (λ (p : GrowthEnd × Reply). p.1) is); leaves = subst L (sym (ap (λ (p : GrowthEnd × Reply). p.0) is)) (ap (λ (x : Linear). record m { linear = x }) same) }

  pages_end : (failure : Option GrowError) (report : Result (Unit {0}) LimiterError) → size ≤ m.linear.capacity → PagesLeave failure size m.linear new → EndsAs size m left_as (growth_reply (pages_result m.linear.size failure report)) (tried report)
  pages_end None report within grows = record { fault = false; says = refl; leaves = (refl, sym (grows.bytes within), grows.in_place within, grows.planned within) }
  pages_end (Some e) report within fails =
      let fault : e ≡ PageFault = fault_in_place e size m.linear.storage new.storage (fails.in_place within) in
      let F : GrowError → Type 0 = λ x. FailsInPlace x size m.linear.storage new.storage in
      let Answer : Bool → Reply = λ b. growth_reply (report_result {X = ℕ} b report) in
      let L : ℕ → ℕ → Bool → ℕ → MemoryState = λ n c b x. record m { linear = record { size = n; capacity = c; moves = b; extra = x; storage = new.storage } } in
      let same : left_as ≡ record m { linear = record m.linear { storage = new.storage } } =
      ap (λ (n : ℕ). L n new.capacity new.moves new.extra) fails.same_size ∙ ap (λ (n : ℕ). L m.linear.size n new.moves new.extra) fails.capacity ∙ ap (λ (b : Bool). L m.linear.size m.linear.capacity b new.extra) fails.moves ∙ ap (L m.linear.size m.linear.capacity m.linear.moves) fails.extra in
      record { fault = true; says = ap (λ (x : GrowError). Answer (is_want_of_memory x)) fault ∙ reported_seen report; leaves = (same, fails.bytes, subst F fault (fails.in_place within), fails.planned within) }

  allowed_end : (past : Bool) (answer : Result Bool LimiterError) (failure : Option GrowError) (report : Result (Unit {0}) LimiterError) → (past ≡ false → size ≤ m.linear.capacity) → AnswerLeaves past answer failure size m.linear new
      → EndsAs size m left_as (growth_reply (answer_result m.linear.size past answer failure report)) (ends false false past answer report)
  allowed_end past (Err e) failure report within same = unchanged _ (ends false false past (Err e) report) refl same
  allowed_end past (Ok false) failure report within same = unchanged _ (ends false false past (Ok false) report) refl same
  allowed_end true (Ok true) failure report within same = unchanged _ (ends false false true (Ok true) report) (ap (λ (r : Reply). (as_it_was, r)) (sym (reported_seen report))) same
  allowed_end false (Ok true) failure report within leaves = pages_end failure report (within refl) leaves

  growth_end : (nothing past_type past : Bool) (g : GrowthGiven) → (past ≡ false → size ≤ m.linear.capacity) → LeavesBy nothing past_type past g size m.linear new
      → EndsAs size m left_as (growth_reply (result_by m.linear.size nothing past_type past g)) (ends nothing past_type past g.answer g.report)
  growth_end true past_type past g within same = unchanged _ (ends true past_type past g.answer g.report) refl same
  growth_end false true past g within same = unchanged _ (ends false true past g.answer g.report) (ap (λ (r : Reply). (as_it_was, r)) (sym (reported_seen g.report))) same
  growth_end false false past g within leaves = allowed_end past g.answer g.failure g.report within leaves

-- Whether a call on the pages fails is all the same, or decides the end.
abbrev pub IsDecided : (Bool → GrowthEnd × Reply) → Type 0
IsDecided end = (end true ≡ end false) ⊎ ((end true).0 ≡ could_not) × ((end false).0 ≡ has_grown)

decided : (size : ℕ) (m : MemoryState) (new : Linear) (nothing past_type past : Bool) (answer : Result Bool LimiterError) (r : Result (Unit {0}) LimiterError) → IsDecided (ends size m new nothing past_type past answer r)
decided size m new true past_type past answer r = inl refl
decided size m new false true past answer r = inl refl
decided size m new false false past (Err e) r = inl refl
decided size m new false false past (Ok false) r = inl refl
decided size m new false false true (Ok true) r = inl refl
decided size m new false false false (Ok true) r = inr (refl, refl)

pub growth_decided : (rule : GrowthRule) (pages : ℕ) (m : MemoryState) → IsDecided (λ fault. growth rule fault pages (seen_as 0 m))
growth_decided rule pages m =
    let size : ℕ = grown_size pages m in
    let most : Option ℕ = maximum_asked m.ty in
    decided size m m.linear (pages == 0) (not (allow_growth_to m.ty size)) (exceeds most size || nat_lt m.linear.capacity size) (memory_answer (Some rule) (Ok true) size most) (memory_failure (Some rule) (Ok tt))

-- what a limiter answers that tells its rule
pub answer_told : (rule : GrowthRule) (o : Option GrowthRule) (given : Result Bool LimiterError) (n : ℕ) (most : Option ℕ) → o ≡ Some rule → given ≡ memory_answer o given n most → given ≡ memory_answer (Some rule) (Ok true) n most
answer_told always o given n most told is = let M : Option GrowthRule → Type 0 = λ r. given ≡ memory_answer r given n most in subst M told is
answer_told (limited_by l) o given n most told is = let M : Option GrowthRule → Type 0 = λ r. given ≡ memory_answer r given n most in subst M told is

pub failure_told : (rule : GrowthRule) (o : Option GrowthRule) (given : Result (Unit {0}) LimiterError) → o ≡ Some rule → given ≡ memory_failure o given → given ≡ memory_failure (Some rule) (Ok tt)
failure_told always o given told is = let M : Option GrowthRule → Type 0 = λ r. given ≡ memory_failure r given in subst M told is
failure_told (limited_by l) o given told is = let M : Option GrowthRule → Type 0 = λ r. given ≡ memory_failure r given in subst M told is

-- so a growth of what is seen ends as the rule says
pub ended_by_rule : (rule : GrowthRule) (o : Option GrowthRule) (pages : ℕ) (was : PrivateMemory) (answer : Result Bool LimiterError) (report : Result (Unit {0}) LimiterError) (fault : Bool) → o ≡ Some rule → answer ≡ memory_answer o answer (size_wanted pages was) (maximum_asked was.ty) → report ≡ memory_failure o report
    → ended_by was.size (pages == 0) (not (allow_growth_to was.ty (size_wanted pages was))) (exceeds (maximum_asked was.ty) (size_wanted pages was) || nat_lt was.capacity (size_wanted pages was)) answer report fault ≡ growth rule fault pages was
ended_by_rule rule o pages was answer report fault told answers reports =
    let size : ℕ = size_wanted pages was in
    let most : Option ℕ = maximum_asked was.ty in
    let Told : Result Bool LimiterError → Result (Unit {0}) LimiterError → GrowthEnd × Reply = λ a r. ended_by was.size (pages == 0) (not (allow_growth_to was.ty size)) (exceeds most size || nat_lt was.capacity size) a r fault in
    ap (λ (a : Result Bool LimiterError). Told a report) (answer_told rule o answer size most told answers) ∙ ap (Told (memory_answer (Some rule) (Ok true) size most)) (failure_told rule o report told reports)

pub right_of : (a b : Bool) → (a || b) ≡ false → b ≡ false
right_of true b is = absurd cc
right_of false b is = is

-- So a memory grows by the rule that its limiter told.
pub grown_as : (rule : GrowthRule) (pages : ℕ) (m new : MemoryState) (g : GrowthGiven) (asked left : LimiterTold) (answer : Result (Option ℕ) GrowFault) → m.may_move ≡ false → asked.rule ≡ Some rule → IsGrowth g pages m.linear.size m new asked left answer → MemoryGrows rule pages m new (growth_reply answer)
grown_as rule pages m new g asked left answer fixed told grows =
    let size : ℕ = grown_size pages m in
    let most : Option ℕ = maximum_asked m.ty in
    let nothing : Bool = pages == 0 in
    let past_type : Bool = not (allow_growth_to m.ty size) in
    let past : Bool = exceeds most size || nat_lt m.linear.capacity size in
    let here : past_room size m ≡ past = ap (λ (b : Bool). exceeds most size || (not b && nat_lt m.linear.capacity size)) fixed in
    let By : Bool → Type 0 = λ b. LeavesBy nothing past_type b g size m.linear new.linear in
    let within : past ≡ false → size ≤ m.linear.capacity = λ no. ltb-false m.linear.capacity size (right_of (exceeds most size) (nat_lt m.linear.capacity size) no) in
    let end = growth_end size m new.linear nothing past_type past g within (subst By here grows.linear) in
    let replies : growth_reply answer ≡ growth_reply (result_by m.linear.size nothing past_type past g) = ap growth_reply (grows.ruled.replies ∙ ap (λ (b : Bool). result_by m.linear.size nothing past_type b g) here) in
    let ruled : ends size m new.linear nothing past_type past g.answer g.report end.fault ≡ growth rule end.fault pages (seen_as 0 m) = ended_by_rule rule asked.rule pages (seen_as 0 m) g.answer g.report end.fault told grows.ruled.answer grows.ruled.report in
    let Left : MemoryState → GrowthEnd → Type 0 = λ x e. GrowthLeaves e size m x in
    (end.fault, replies ∙ end.says ∙ ap (λ (p : GrowthEnd × Reply). p.1) ruled, subst (λ (x : MemoryState). Left x (growth rule end.fault pages (seen_as 0 m)).0) (sym grows.memory) (subst (Left (record m { linear = new.linear })) (ap (λ (p : GrowthEnd × Reply). p.0) ruled) end.leaves))
