use Rattle.std.proofs.Common.{◌≡◌, ◌≢◌, ◌+◌, ◌-◌, ◌<◌, ℕ, Bool, true, false, Some, Result, Ok, Err, sym, ap, ◌∙◌, subst, arith, inl}
use Rattle.pool_table.proofs.Imports.{table_answer, LimiterTold, after_answer, Exchange, question_of, may_grow, LimiterError}
use Rattle.pool_limits.specs.declared.growing.Growable.TheVariants.{Table}
use Rattle.pool_table.specs.Views.{TableView}
use Rattle.pool_table.specs.TableStates.{table_view}
use Rattle.pool_table.specs.Growing.{table_question, AllowedTableGrows}
use Rattle.pool_table.proofs.Growths.{grown_error, grown_no, grown_either}
use Rattle.pool_table.proofs.table.Table.grow_to.Goals as goal

-- the size as it is reckoned from the old one
sum_of : (old size : ℕ) → old < size → old + (size - old) ≡ size
sum_of old size more = omega arith

some_of : (old size : ℕ) → old < size → size - old ≢ 0
some_of old size more = λ e. omega (arith, e, more)

answer_at : (t : LimiterTold) (old : TableView) (size most : ℕ) (a b : Result Bool LimiterError) → old.size < size → most ≡ old.maximum → a ≡ b → a ≡ table_answer t.rule a size (Some most) → b ≡ table_answer t.rule b (old.size + (size - old.size)) (Some old.maximum)
answer_at t old size most a b more all is answer =
    let P : Result Bool LimiterError → ℕ → ℕ → Type 0 = λ k n m. k ≡ table_answer t.rule k n (Some m) in
    subst (λ (n : ℕ). P b n old.maximum) (sym (sum_of old.size size more)) (subst (λ (m : ℕ). P b size m) all (subst (λ (k : Result Bool LimiterError). P k size most) is answer))

left_at : (t u : LimiterTold) (a b : Result Bool LimiterError) → a ≡ b → u ≡ after_answer a t → u ≡ after_answer b t
left_at t u a b is left = let P : Result Bool LimiterError → Type 0 = λ k. u ≡ after_answer k t in subst P is left

-- the limiter was asked for this growth
asked_at : {R : Type 0} (leads : R → Exchange → R → Type 0) (old : TableView) (before after : R) (current size most : ℕ) (a b : Result Bool LimiterError) → old.size < size → current ≡ old.size → most ≡ old.maximum → a ≡ b → leads before (may_grow (question_of Table current size (Some most)) a) after → leads before (may_grow (table_question (size - old.size) old) b) after
asked_at leads old before after current size most a b more first second is exchange =
    let P : ℕ → ℕ → ℕ → Result Bool LimiterError → Type 0 = λ m n o k. leads before (may_grow (question_of Table m n (Some o)) k) after in
    let one : P old.size size most a = subst (λ (m : ℕ). P m size most a) first exchange in
    let two : P old.size size old.maximum a = subst (λ (o : ℕ). P old.size size o a) second one in
    let three : P old.size (old.size + (size - old.size)) old.maximum a = subst (λ (n : ℕ). P old.size n old.maximum a) (sym (sum_of old.size size more)) two in
    subst (λ (k : Result Bool LimiterError). P old.size (old.size + (size - old.size)) old.maximum k) is three

abbrev ok_of : Bool → Result Bool LimiterError
ok_of b = Ok b

pub returns-in-Err-clause-growth : goal.returns-in-Err-clause-growth
returns-in-Err-clause-growth g c =
    let old : TableView = table_view c.args.self.now in
    let told = g.R.ResourceLimiter.told in
    let leads = g.R.ResourceLimiter.leads in
    let l = c.args.limiter.now in
    let m = c.table_growing.new.self in
    inl (grown_error told leads (c.args.size - old.size) old l m c.in-Err.error (some_of old.size c.args.size c.requires) (rw (sum_of old.size c.args.size c.requires) c.ranges.size.fits)
    (answer_at (told l) old c.args.size c.maximum.result c.table_growing.result (Err c.in-Err.error) c.requires c.maximum.ensures c.in-Err.is c.table_growing.ensures.answer)
    (left_at (told l) (told m) c.table_growing.result (Err c.in-Err.error) c.in-Err.is c.table_growing.ensures.left)
    (asked_at leads old l m c.size.result c.args.size c.maximum.result c.table_growing.result (Err c.in-Err.error) c.requires c.size.ensures.value c.maximum.ensures c.in-Err.is c.table_growing.ensures.exchange))

pub returns-in-Ok-false-clause-growth : goal.returns-in-Ok-false-clause-growth
returns-in-Ok-false-clause-growth g c =
    let old : TableView = table_view c.args.self.now in
    let told = g.R.ResourceLimiter.told in
    let leads = g.R.ResourceLimiter.leads in
    let l = c.args.limiter.now in
    let m = c.table_growing.new.self in
    let no : c.table_growing.result ≡ Ok false = c.in-Ok-false.is ∙ ap ok_of c.in-Ok-false.field-0-test in
    inl (grown_no told leads (c.args.size - old.size) old l m (some_of old.size c.args.size c.requires) (rw (sum_of old.size c.args.size c.requires) c.ranges.size.fits)
    (answer_at (told l) old c.args.size c.maximum.result c.table_growing.result (Ok false) c.requires c.maximum.ensures no c.table_growing.ensures.answer)
    (left_at (told l) (told m) c.table_growing.result (Ok false) no c.table_growing.ensures.left)
    (asked_at leads old l m c.size.result c.args.size c.maximum.result c.table_growing.result (Ok false) c.requires c.size.ensures.value c.maximum.ensures no c.table_growing.ensures.exchange))

pub returns-in-Ok-true-clause-growth : goal.returns-in-Ok-true-clause-growth
returns-in-Ok-true-clause-growth g c =
    let old : TableView = table_view c.args.self.now in
    let told = g.R.ResourceLimiter.told in
    let leads = g.R.ResourceLimiter.leads in
    let l = c.args.limiter.now in
    let m = c.table_growing.new.self in
    let n = c.grow_allowed.new.limiter in
    let yes_it_may : c.table_growing.result ≡ Ok true = c.in-Ok-true.is ∙ ap ok_of c.in-Ok-true.field-0-test in
    let A : ℕ → Type 0 = λ s. AllowedTableGrows told leads s old (table_view c.grow_allowed.new.self) m n c.grow_allowed.result in
    grown_either told leads (c.args.size - old.size) old (table_view c.grow_allowed.new.self) l m n c.grow_allowed.result (some_of old.size c.args.size c.requires) (rw (sum_of old.size c.args.size c.requires) c.ranges.size.fits)
    (answer_at (told l) old c.args.size c.maximum.result c.table_growing.result (Ok true) c.requires c.maximum.ensures yes_it_may c.table_growing.ensures.answer)
    (left_at (told l) (told m) c.table_growing.result (Ok true) yes_it_may c.table_growing.ensures.left)
    (asked_at leads old l m c.size.result c.args.size c.maximum.result c.table_growing.result (Ok true) c.requires c.size.ensures.value c.maximum.ensures yes_it_may c.table_growing.ensures.exchange)
    (subst A (sym (sum_of old.size c.args.size c.requires)) c.grow_allowed.ensures.growth)
