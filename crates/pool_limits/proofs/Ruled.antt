-- Each way that a growth can go by its rule.
use Rattle.std.proofs.Common.{◌≡◌, ℕ, Bool, true, false, Option, Some, None, Result, Ok, Err, refl, subst}
use Rattle.pool_limits.specs.Growth.{GrowthRule, always, limited_by, answer_by, failure_by}
use Rattle.pool_limits.specs.LimiterTold.{LimiterTold, after_answer}
use Rattle.pool_limits.specs.Exchanges.{GrowthQuestion, Exchange, told_after}
use Rattle.pool_limits.specs.Growing.{GrowthGiven, IsRuled, IsAllowed, IsReported, allowed_exchanges}
use Rattle.pool_limits.specs.declared.growing.Growable.{Growable}
use Rattle.pool_limits.specs.declared.growing.Growable.TheVariants.{Memory, Table}
use Rattle.pool_limits.specs.declared.errors.LimiterError.{LimiterError}
use Rattle.pool_limits.specs.declared.errors.GrowError.{GrowError}
use Rattle.pool_limits.specs.declared.errors.GrowError.TheVariants.{TypeLimit, MaximumExceeded}
use Rattle.pool_limits.specs.declared.errors.GrowFault.{GrowFault}
use Rattle.pool_limits.specs.declared.errors.GrowFault.TheVariants as fault

-- What a limiter may answer that isn't asked: what its rule says, or yes.
answer_fits : (what : Growable) (rule : Option GrowthRule) (size : ℕ) (most : Option ℕ) → answer_by what rule (Ok true) size most ≡ answer_by what rule (answer_by what rule (Ok true) size most) size most
answer_fits Memory None size most = refl
answer_fits Memory (Some always) size most = refl
answer_fits Memory (Some (limited_by l)) size most = refl
answer_fits Table None size most = refl
answer_fits Table (Some always) size most = refl
answer_fits Table (Some (limited_by l)) size most = refl

report_fits : (what : Growable) (rule : Option GrowthRule) → failure_by what rule (Ok tt) ≡ failure_by what rule (failure_by what rule (Ok tt))
report_fits Memory None = refl
report_fits Memory (Some always) = refl
report_fits Memory (Some (limited_by l)) = refl
report_fits Table None = refl
report_fits Table (Some always) = refl
report_fits Table (Some (limited_by l)) = refl

-- what a limiter would answer that isn't asked
abbrev pub unasked : GrowthQuestion → LimiterTold → GrowthGiven
unasked q t = record {
  answer = answer_by q.what t.rule (Ok true) q.desired q.maximum;
  failure = None;
  report = failure_by q.what t.rule (Ok tt);
}

-- by nothing
pub ruled_nothing : {X : Type 0} (q : GrowthQuestion) (p r : Bool) (x : X) (t : LimiterTold) → IsRuled q (record { nothing = true; past_type = p; past_room = r }) (unasked q t) x t t (Ok (Some x))
ruled_nothing q p r x t = record {
  answer = answer_fits q.what t.rule q.desired q.maximum;
  report = report_fits q.what t.rule;
  replies = refl;
  limiter = refl;
}

-- past what the type allows
pub ruled_past_type : {R X : Type 0} (told : R → LimiterTold) (leads : R → Exchange → R → Type 0) (q : GrowthQuestion) (r : Bool) (x : X) (before after : R) (result : Result (Option X) GrowFault) → (reported : IsReported told leads q.what TypeLimit before after result)
    → IsRuled q (record { nothing = false; past_type = true; past_room = r }) (record (unasked q (told before)) { report = reported.report }) x (told before) (told after) result
ruled_past_type told leads q r x before after result reported = record {
  answer = answer_fits q.what (told before).rule q.desired q.maximum;
  report = reported.answer;
  replies = reported.replies;
  limiter = reported.limiter;
}

-- where the limiter refuses with an error
pub ruled_error : {X : Type 0} (q : GrowthQuestion) (r : Bool) (x : X) (t u : LimiterTold) (e : LimiterError) → Err e ≡ answer_by q.what t.rule (Err e) q.desired q.maximum → u ≡ after_answer (Err e) t
    → IsRuled q (record { nothing = false; past_type = false; past_room = r }) (record (unasked q t) { answer = Err e }) x t u (Err (fault.LimiterFault e))
ruled_error q r x t u e answer limiter = record {
  answer = answer;
  report = report_fits q.what t.rule;
  replies = refl;
  limiter = limiter;
}

-- where it says no
pub ruled_no : {X : Type 0} (q : GrowthQuestion) (r : Bool) (x : X) (t u : LimiterTold) → Ok false ≡ answer_by q.what t.rule (Ok false) q.desired q.maximum → u ≡ after_answer (Ok false) t
    → IsRuled q (record { nothing = false; past_type = false; past_room = r }) (record (unasked q t) { answer = Ok false }) x t u (Ok None)
ruled_no q r x t u answer limiter = record {
  answer = answer;
  report = report_fits q.what t.rule;
  replies = refl;
  limiter = limiter;
}

-- where it says yes
pub ruled_yes : {R X : Type 0} (told : R → LimiterTold) (leads : R → Exchange → R → Type 0) (q : GrowthQuestion) (past : Bool) (x : X) (Same Grown : Type 0) (Ungrown : GrowError → Type 0) (t : LimiterTold) (before after : R) (result : Result (Option X) GrowFault) → Ok true ≡ answer_by q.what t.rule (Ok true) q.desired q.maximum → told before ≡ after_answer (Ok true) t
    → (allowed : IsAllowed told leads q.what past x Same Grown Ungrown before after result)
    → IsRuled q (record { nothing = false; past_type = false; past_room = past }) (record { answer = Ok true; failure = allowed.failure; report = allowed.report }) x t (told after) result
ruled_yes told leads q past x Same Grown Ungrown t before after result answer limiter allowed =
    let same : told before ≡ t = limiter in
    let A : LimiterTold → Type 0 = λ k. allowed.report ≡ failure_by q.what k.rule allowed.report in
    let L : LimiterTold → Type 0 = λ k. told after ≡ told_after (allowed_exchanges q.what past allowed.failure allowed.report) k in
    record {
      answer = answer;
      report = subst A same allowed.answer;
      replies = allowed.replies;
      limiter = subst L same allowed.limiter;
    }

-- there was room, and the pages gave it
pub allowed_grown : {R X : Type 0} (told : R → LimiterTold) (leads : R → Exchange → R → Type 0) (what : Growable) (x : X) (Same Grown : Type 0) (Ungrown : GrowError → Type 0) (l : R) → Grown → IsAllowed told leads what false x Same Grown Ungrown l l (Ok (Some x))
allowed_grown told leads what x Same Grown Ungrown l grown = record {
  failure = None;
  report = failure_by what (told l).rule (Ok tt);
  answer = report_fits what (told l).rule;
  replies = refl;
  limiter = refl;
  exchanged = refl;
  makes = grown;
}

-- there was no room, which was reported
pub allowed_past : {R X : Type 0} (told : R → LimiterTold) (leads : R → Exchange → R → Type 0) (what : Growable) (x : X) (Same Grown : Type 0) (Ungrown : GrowError → Type 0) (before after : R) (result : Result (Option X) GrowFault) → IsReported told leads what MaximumExceeded before after result → Same
    → IsAllowed told leads what true x Same Grown Ungrown before after result
allowed_past told leads what x Same Grown Ungrown before after result reported same = record {
  failure = None;
  report = reported.report;
  answer = reported.answer;
  replies = reported.replies;
  limiter = reported.limiter;
  exchanged = (after, (reported.exchange, refl));
  makes = same;
}

-- the pages didn't give it, which was reported
pub allowed_failed : {R X : Type 0} (told : R → LimiterTold) (leads : R → Exchange → R → Type 0) (what : Growable) (x : X) (Same Grown : Type 0) (Ungrown : GrowError → Type 0) (before after : R) (e : GrowError) (result : Result (Option X) GrowFault) → IsReported told leads what e before after result → Ungrown e
    → IsAllowed told leads what false x Same Grown Ungrown before after result
allowed_failed told leads what x Same Grown Ungrown before after e result reported ungrown = record {
  failure = Some e;
  report = reported.report;
  answer = reported.answer;
  replies = reported.replies;
  limiter = reported.limiter;
  exchanged = (after, (reported.exchange, refl));
  makes = ungrown;
}
