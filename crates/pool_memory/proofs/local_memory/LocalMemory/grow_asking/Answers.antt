use Rattle.std.proofs.Common.{◌≡◌, ℕ, Bool, true, false, Option, Some, Result, Ok, Err, sym, ap, ◌∙◌, subst}
use Rattle.pool_memory.proofs.Imports.{allow_growth_to, MemoryType, memory_answer, LimiterTold, after_answer, Exchange, question_of, may_grow, Memory, LimiterError}
use Rattle.pool_memory.specs.Memories.{MemoryState}
use Rattle.pool_memory.specs.Making.{maximum_asked}
use Rattle.pool_memory.specs.Growing.{GrowsMoving, IsAllowedGrowth, growth_question, grown_size, past_room}
use Rattle.pool_memory.proofs.Growths.{grown_nothing, grown_past_type, grown_error, grown_no, grown_allowed}
use Rattle.pool_memory.proofs.local_memory.LocalMemory.grow_asking.Goals as goal

-- a size as the code has it is the size that is meant
allowed_at : (ty tz : MemoryType) (size wanted : ℕ) (b : Bool) (r : Bool) → ty ≡ tz → size ≡ wanted → r ≡ allow_growth_to ty size → r ≡ b → allow_growth_to tz wanted ≡ b
allowed_at ty tz size wanted b r kind same is value =
    let P : MemoryType → ℕ → Type 0 = λ k n. r ≡ allow_growth_to k n in
    let half : P tz size = subst (λ (k : MemoryType). P k size) kind is in
    sym (subst (λ (n : ℕ). P tz n) same half) ∙ value

answer_at : (t : LimiterTold) (old : MemoryState) (size wanted : ℕ) (most : Option ℕ) (a b : Result Bool LimiterError) → size ≡ wanted → most ≡ maximum_asked old.ty → a ≡ b → a ≡ memory_answer t.rule a size most → b ≡ memory_answer t.rule b wanted (maximum_asked old.ty)
answer_at t old size wanted most a b same all is answer =
    let P : Result Bool LimiterError → ℕ → Option ℕ → Type 0 = λ k n o. k ≡ memory_answer t.rule k n o in
    let first : P b size most = subst (λ (k : Result Bool LimiterError). P k size most) is answer in
    let second : P b wanted most = subst (λ (n : ℕ). P b n most) same first in
    subst (λ (o : Option ℕ). P b wanted o) all second

left_at : (t u : LimiterTold) (a b : Result Bool LimiterError) → a ≡ b → u ≡ after_answer a t → u ≡ after_answer b t
left_at t u a b is left = let P : Result Bool LimiterError → Type 0 = λ k. u ≡ after_answer k t in subst P is left

-- the limiter was asked for this growth
asked_at : {R : Type 0} (leads : R → Exchange → R → Type 0) (pages : ℕ) (old : MemoryState) (before after : R) (current size : ℕ) (most : Option ℕ) (a b : Result Bool LimiterError) → current ≡ old.linear.size → size ≡ grown_size pages old → most ≡ maximum_asked old.ty → a ≡ b → leads before (may_grow (question_of Memory current size most) a) after → leads before (may_grow (growth_question pages old) b) after
asked_at leads pages old before after current size most a b first second third is exchange =
    let P : ℕ → ℕ → Option ℕ → Result Bool LimiterError → Type 0 = λ m n o k. leads before (may_grow (question_of Memory m n o) k) after in
    let one : P old.linear.size size most a = subst (λ (m : ℕ). P m size most a) first exchange in
    let two : P old.linear.size (grown_size pages old) most a = subst (λ (n : ℕ). P old.linear.size n most a) second one in
    let all : P old.linear.size (grown_size pages old) (maximum_asked old.ty) a = subst (λ (o : Option ℕ). P old.linear.size (grown_size pages old) o a) third two in
    subst (λ (k : Result Bool LimiterError). P old.linear.size (grown_size pages old) (maximum_asked old.ty) k) is all

abbrev ok_of : Bool → Result Bool LimiterError
ok_of b = Ok b

pub returns-then-delta_pages-eq0-clause-growth : goal.returns-then-delta_pages-eq0-clause-growth
returns-then-delta_pages-eq0-clause-growth g c =
    let old = c.args.self.now in
    let l = c.args.limiter.now in
    let told = g.R.ResourceLimiter.told in
    let leads = g.R.ResourceLimiter.leads in
    let P : ℕ → ℕ → Type 0 = λ m n. GrowsMoving told leads c.args.delta_pages (old.linear.size, grown_size c.args.delta_pages old) old old (g.L.RuntimeLinearMemory.maker_told c.args.maker.now) (g.L.RuntimeLinearMemory.maker_told c.args.maker.now) (Some l) (Some l) (Ok (Some (m, n))) in
    let first : P old.linear.size (grown_size c.args.delta_pages old) = grown_nothing told leads c.args.delta_pages (old.linear.size, grown_size c.args.delta_pages old) old (g.L.RuntimeLinearMemory.maker_told c.args.maker.now) l c.if-delta_pages-eq0.true in
    let second : P old.linear.size c.grown_size-size.result = subst (λ (n : ℕ). P old.linear.size n) (sym c.grown_size-size.ensures.value) first in
    subst (λ (m : ℕ). P m c.grown_size-size.result) (sym c.byte_size-old.ensures.value) second

pub returns-then-not-allow_growth_to-clause-growth : goal.returns-then-not-allow_growth_to-clause-growth
returns-then-not-allow_growth_to-clause-growth g c =
    let old = c.args.self.now in
    grown_past_type g.R.ResourceLimiter.told g.R.ResourceLimiter.leads c.args.delta_pages (old.linear.size, grown_size c.args.delta_pages old) old (g.L.RuntimeLinearMemory.maker_told c.args.maker.now) c.args.limiter.now c.report_failure.new.limiter c.report_failure.result
    c.if-delta_pages-eq0.false
    (allowed_at c.ty.result.now old.ty c.grown_size-size.result (grown_size c.args.delta_pages old) false c.allow_growth_to.result c.ty.ensures.value c.grown_size-size.ensures.value c.allow_growth_to.ensures c.if-not-allow_growth_to.true)
    c.report_failure.ensures

pub returns-in-Err-clause-growth : goal.returns-in-Err-clause-growth
returns-in-Err-clause-growth g c =
    let old = c.args.self.now in
    let told = g.R.ResourceLimiter.told in
    let leads = g.R.ResourceLimiter.leads in
    let l = c.args.limiter.now in
    let m = c.memory_growing.new.self in
    grown_error told leads c.args.delta_pages (old.linear.size, grown_size c.args.delta_pages old) old (g.L.RuntimeLinearMemory.maker_told c.args.maker.now) l m c.in-Err.error
    c.if-delta_pages-eq0.false
    (allowed_at c.ty.result.now old.ty c.grown_size-size.result (grown_size c.args.delta_pages old) true c.allow_growth_to.result c.ty.ensures.value c.grown_size-size.ensures.value c.allow_growth_to.ensures c.if-not-allow_growth_to.false)
    (answer_at (told l) old c.grown_size-size.result (grown_size c.args.delta_pages old) c.maximum.result c.memory_growing.result (Err c.in-Err.error) c.grown_size-size.ensures.value c.maximum.ensures c.in-Err.is c.memory_growing.ensures.answer)
    (left_at (told l) (told m) c.memory_growing.result (Err c.in-Err.error) c.in-Err.is c.memory_growing.ensures.left)
    (asked_at leads c.args.delta_pages old l m c.byte_size-old.result c.grown_size-size.result c.maximum.result c.memory_growing.result (Err c.in-Err.error) c.byte_size-old.ensures.value c.grown_size-size.ensures.value c.maximum.ensures c.in-Err.is c.memory_growing.ensures.exchange)

pub returns-in-Ok-false-clause-growth : goal.returns-in-Ok-false-clause-growth
returns-in-Ok-false-clause-growth g c =
    let old = c.args.self.now in
    let told = g.R.ResourceLimiter.told in
    let leads = g.R.ResourceLimiter.leads in
    let l = c.args.limiter.now in
    let m = c.memory_growing.new.self in
    let no : c.memory_growing.result ≡ Ok false = c.in-Ok-false.is ∙ ap ok_of c.in-Ok-false.field-0-test in
    grown_no told leads c.args.delta_pages (old.linear.size, grown_size c.args.delta_pages old) old (g.L.RuntimeLinearMemory.maker_told c.args.maker.now) l m
    c.if-delta_pages-eq0.false
    (allowed_at c.ty.result.now old.ty c.grown_size-size.result (grown_size c.args.delta_pages old) true c.allow_growth_to.result c.ty.ensures.value c.grown_size-size.ensures.value c.allow_growth_to.ensures c.if-not-allow_growth_to.false)
    (answer_at (told l) old c.grown_size-size.result (grown_size c.args.delta_pages old) c.maximum.result c.memory_growing.result (Ok false) c.grown_size-size.ensures.value c.maximum.ensures no c.memory_growing.ensures.answer)
    (left_at (told l) (told m) c.memory_growing.result (Ok false) no c.memory_growing.ensures.left)
    (asked_at leads c.args.delta_pages old l m c.byte_size-old.result c.grown_size-size.result c.maximum.result c.memory_growing.result (Ok false) c.byte_size-old.ensures.value c.grown_size-size.ensures.value c.maximum.ensures no c.memory_growing.ensures.exchange)

pub returns-in-Ok-true-clause-growth : goal.returns-in-Ok-true-clause-growth
returns-in-Ok-true-clause-growth g c =
    let old = c.args.self.now in
    let told = g.R.ResourceLimiter.told in
    let leads = g.R.ResourceLimiter.leads in
    let l = c.args.limiter.now in
    let m = c.memory_growing.new.self in
    let n = c.grow_allowed.new.limiter in
    let yes_it_may : c.memory_growing.result ≡ Ok true = c.in-Ok-true.is ∙ ap ok_of c.in-Ok-true.field-0-test in
    let P : ℕ → Type 0 = λ s. IsAllowedGrowth told leads (past_room s old) s (old.linear.size, s) old.linear c.grow_allowed.new.self.linear (g.L.RuntimeLinearMemory.maker_told c.args.maker.now) (g.L.RuntimeLinearMemory.maker_told c.grow_allowed.new.maker) m n c.grow_allowed.result in
    grown_allowed told leads c.args.delta_pages (old.linear.size, grown_size c.args.delta_pages old) old (g.L.RuntimeLinearMemory.maker_told c.args.maker.now) c.grow_allowed.new.self (g.L.RuntimeLinearMemory.maker_told c.grow_allowed.new.maker) l m n c.grow_allowed.result
    c.if-delta_pages-eq0.false
    (allowed_at c.ty.result.now old.ty c.grown_size-size.result (grown_size c.args.delta_pages old) true c.allow_growth_to.result c.ty.ensures.value c.grown_size-size.ensures.value c.allow_growth_to.ensures c.if-not-allow_growth_to.false)
    (answer_at (told l) old c.grown_size-size.result (grown_size c.args.delta_pages old) c.maximum.result c.memory_growing.result (Ok true) c.grown_size-size.ensures.value c.maximum.ensures yes_it_may c.memory_growing.ensures.answer)
    (left_at (told l) (told m) c.memory_growing.result (Ok true) yes_it_may c.memory_growing.ensures.left)
    (asked_at leads c.args.delta_pages old l m c.byte_size-old.result c.grown_size-size.result c.maximum.result c.memory_growing.result (Ok true) c.byte_size-old.ensures.value c.grown_size-size.ensures.value c.maximum.ensures yes_it_may c.memory_growing.ensures.exchange)
    (subst P c.grown_size-size.ensures.value c.grow_allowed.ensures.growth)
    c.grow_allowed.ensures.same
