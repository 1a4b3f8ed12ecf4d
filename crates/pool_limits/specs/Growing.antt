-- How a memory or a table grows: what a limiter is asked in which order, what the growth answers, and what is left.
use Rattle.std.specs.Prelude.{◌≡◌, Bool, true, false, List, [], ◌∷◌, Option, Some, None, Result, Ok, Err}
use Rattle.pool_limits.specs.Growth.{answer_by, failure_by}
use Rattle.pool_limits.specs.LimiterTold.{LimiterTold, after_report}
use Rattle.pool_limits.specs.Exchanges.{GrowthQuestion, Exchange, may_grow, has_failed, Exchanged, told_after}
use Rattle.pool_limits.specs.declared.growing.Growable.{Growable}
use Rattle.pool_limits.specs.declared.errors.LimiterError.{LimiterError}
use Rattle.pool_limits.specs.declared.errors.GrowError.{GrowError}
use Rattle.pool_limits.specs.declared.errors.GrowError.TheVariants.{TypeLimit, MaximumExceeded, PageFault, Memory, Overflow}
use Rattle.pool_limits.specs.declared.errors.GrowFault.{GrowFault}
use Rattle.pool_limits.specs.declared.errors.GrowFault.TheVariants as fault

-- What is found out on the way: nothing is wanted, the type forbids the size, there is no room for it.
pub record Obstacles : Type 0 where
  pub nothing : Bool
  pub past_type : Bool
  pub past_room : Bool

-- What others answer: the limiter to the question, the pages to the call, and the limiter to the report of a failure.
-- What isn't asked doesn't count.
pub record GrowthGiven : Type 0 where
  pub answer : Result Bool LimiterError
  pub failure : Option GrowError
  pub report : Result (Unit {0}) LimiterError

-- What passes between the growth and the limiter. By nothing nobody is asked. A size that the type forbids is only
-- reported; then the limiter is asked; then a size that there is no room for, or a failure of the pages, is reported.
abbrev pub pages_exchanges : Growable → Option GrowError → Result (Unit {0}) LimiterError → List Exchange
pages_exchanges what None report = []
pages_exchanges what (Some e) report = has_failed what e report ∷ []

-- Once the limiter allowed a growth: a size without room is reported; else what the pages' failure brings.
abbrev pub allowed_exchanges : Growable → Bool → Option GrowError → Result (Unit {0}) LimiterError → List Exchange
allowed_exchanges what true failure report = has_failed what MaximumExceeded report ∷ []
allowed_exchanges what false failure report = pages_exchanges what failure report

-- The limiter is asked. A no and an error end it; a yes goes on with room and pages.
abbrev pub answer_exchanges : GrowthQuestion → Bool → Result Bool LimiterError → Option GrowError → Result (Unit {0}) LimiterError → List Exchange
answer_exchanges q past (Err e) failure report = may_grow q (Err e) ∷ []
answer_exchanges q past (Ok false) failure report = may_grow q (Ok false) ∷ []
answer_exchanges q past (Ok true) failure report = may_grow q (Ok true) ∷ allowed_exchanges q.what past failure report

-- What passes to the limiter, by the first obstacle: nothing for a growth by nothing, a report where the type forbids
-- the size, else the question.
abbrev pub exchanges_by : GrowthQuestion → Bool → Bool → Bool → GrowthGiven → List Exchange
exchanges_by q true past_type past_room g = []
exchanges_by q false true past_room g = has_failed q.what TypeLimit g.report ∷ []
exchanges_by q false false past_room g = answer_exchanges q past_room g.answer g.failure g.report

-- All that passes to the limiter in one growth, in order.
abbrev pub growth_exchanges : GrowthQuestion → Obstacles → GrowthGiven → List Exchange
growth_exchanges q o g = exchanges_by q o.nothing o.past_type o.past_room g

-- what failed is that no memory was to be had
abbrev pub is_want_of_memory : GrowError → Bool
is_want_of_memory TypeLimit = false
is_want_of_memory MaximumExceeded = false
is_want_of_memory PageFault = false
is_want_of_memory Memory = true
is_want_of_memory Overflow = false

-- The result after a failure was reported: where memory was wanting it says so, whatever the limiter answered; else none,
-- or the limiter's error.
abbrev pub report_result : {X : Type 0} → Bool → Result (Unit {0}) LimiterError → Result (Option X) GrowFault
report_result true report = Err fault.Memory
report_result false (Err e) = Err (fault.LimiterFault e)
report_result false (Ok u) = Ok None

-- The result once the pages were asked: what was to be answered, or what the failure of the pages makes of it.
abbrev pub pages_result : {X : Type 0} → X → Option GrowError → Result (Unit {0}) LimiterError → Result (Option X) GrowFault
pages_result x None report = Ok (Some x)
pages_result x (Some e) report = report_result (is_want_of_memory e) report

-- The result once the limiter allowed it: a refusal where there is no room, else as the pages have it.
abbrev pub allowed_result : {X : Type 0} → X → Bool → Option GrowError → Result (Unit {0}) LimiterError → Result (Option X) GrowFault
allowed_result x true failure report = report_result false report
allowed_result x false failure report = pages_result x failure report

-- The result once the limiter answered: its error is the growth's error, its no is no growth.
abbrev pub answer_result : {X : Type 0} → X → Bool → Result Bool LimiterError → Option GrowError → Result (Unit {0}) LimiterError → Result (Option X) GrowFault
answer_result x past (Err e) failure report = Err (fault.LimiterFault e)
answer_result x past (Ok false) failure report = Ok None
answer_result x past (Ok true) failure report = allowed_result x past failure report

-- The result by the first obstacle: a growth by nothing succeeds, one that the type forbids is refused.
abbrev pub result_by : {X : Type 0} → X → Bool → Bool → Bool → GrowthGiven → Result (Option X) GrowFault
result_by x true past_type past_room g = Ok (Some x)
result_by x false true past_room g = report_result false g.report
result_by x false false past_room g = answer_result x past_room g.answer g.failure g.report

-- the result of a growth, where this is what it answers if it is granted
abbrev pub growth_result : {X : Type 0} → X → Obstacles → GrowthGiven → Result (Option X) GrowFault
growth_result x o g = result_by x o.nothing o.past_type o.past_room g

-- What becomes of what was to grow: it is the same unless its pages were asked for; then it has grown, or could not.
abbrev pub PagesMake : Type 0 → (GrowError → Type 0) → Option GrowError → Type 0
PagesMake Grown Ungrown None = Grown
PagesMake Grown Ungrown (Some e) = Ungrown e

-- What becomes of what was to grow, once the limiter allowed it: the same without room, else as its pages end.
abbrev pub AllowedMakes : Type 0 → Type 0 → (GrowError → Type 0) → Bool → Option GrowError → Type 0
AllowedMakes Same Grown Ungrown true failure = Same
AllowedMakes Same Grown Ungrown false failure = PagesMake Grown Ungrown failure

-- What becomes of what was to grow, once the limiter answered: the same after a no or an error.
abbrev pub AnswerMakes : Type 0 → Type 0 → (GrowError → Type 0) → Bool → Result Bool LimiterError → Option GrowError → Type 0
AnswerMakes Same Grown Ungrown past (Err e) failure = Same
AnswerMakes Same Grown Ungrown past (Ok false) failure = Same
AnswerMakes Same Grown Ungrown past (Ok true) failure = AllowedMakes Same Grown Ungrown past failure

-- What becomes of what was to grow, by the first obstacle: the same where there is nothing to do or the type forbids
-- it.
abbrev pub MakesBy : Type 0 → Type 0 → (GrowError → Type 0) → Bool → Bool → Bool → GrowthGiven → Type 0
MakesBy Same Grown Ungrown true past_type past_room g = Same
MakesBy Same Grown Ungrown false true past_room g = Same
MakesBy Same Grown Ungrown false false past_room g = AnswerMakes Same Grown Ungrown past_room g.answer g.failure

-- What one growth makes of what was to grow: the same, grown, or not grown for want of pages or memory.
abbrev pub GrowthMakes : Type 0 → Type 0 → (GrowError → Type 0) → Obstacles → GrowthGiven → Type 0
GrowthMakes Same Grown Ungrown o g = MakesBy Same Grown Ungrown o.nothing o.past_type o.past_room g

-- A growth goes by this rule: the limiter answers as it tells, the result is by its answers, and it is left so.
pub record IsRuled {X : Type 0} (question : GrowthQuestion) (o : Obstacles) (given : GrowthGiven) (granted : X) (asked left : LimiterTold) (result : Result (Option X) GrowFault) : Type 0 where
  pub answer : given.answer ≡ answer_by question.what asked.rule given.answer question.desired question.maximum
  pub report : given.report ≡ failure_by question.what asked.rule given.report
  pub replies : result ≡ growth_result granted o given
  pub limiter : left ≡ told_after (growth_exchanges question o given) asked

-- What is left to say of a growth that a limiter allowed, which is in the first of these states then and in the other at
-- the end: the result, what else it was told, and what became of what was to grow.
pub record IsAllowed {R X : Type 0} (told : R → LimiterTold) (leads : R → Exchange → R → Type 0) (what : Growable) (past : Bool) (granted : X) (Same Grown : Type 0) (Ungrown : GrowError → Type 0) (before after : R) (result : Result (Option X) GrowFault) : Type 0 where
  pub failure : Option GrowError
  pub report : Result (Unit {0}) LimiterError
  pub answer : report ≡ failure_by what (told before).rule report
  pub replies : result ≡ allowed_result granted past failure report
  pub limiter : told after ≡ told_after (allowed_exchanges what past failure report) (told before)
  pub exchanged : Exchanged leads (allowed_exchanges what past failure report) before after
  pub makes : AllowedMakes Same Grown Ungrown past failure

-- A growth that failed with this error was reported to the limiter, which answered by its rule. The report and its answer
-- led it from one state to the other, and the result follows from the error and the answer.
pub record IsReported {R X : Type 0} (told : R → LimiterTold) (leads : R → Exchange → R → Type 0) (what : Growable) (e : GrowError) (before after : R) (result : Result (Option X) GrowFault) : Type 0 where
  pub report : Result (Unit {0}) LimiterError
  pub answer : report ≡ failure_by what (told before).rule report
  pub replies : result ≡ report_result (is_want_of_memory e) report
  pub limiter : told after ≡ after_report report (told before)
  pub exchange : leads before (has_failed what e report) after
