-- What passes between a limiter and those who ask it.
use Rattle.std.specs.Prelude.{◌≡◌, ℕ, Bool, List, [], ◌∷◌, Option, Some, None, Result, Ok}
use Rattle.pool_limits.specs.declared.growing.Growable.{Growable}
use Rattle.pool_limits.specs.declared.errors.LimiterError.{LimiterError}
use Rattle.pool_limits.specs.declared.errors.GrowError.{GrowError}
use Rattle.pool_limits.specs.LimiterTold.{LimiterTold, after_answer, after_report}

-- the question whether a memory or a table of this size may grow to that one, where its type has a greatest size or none
pub record GrowthQuestion : Type 0 where
  pub what : Growable
  pub current : ℕ
  pub desired : ℕ
  pub maximum : Option ℕ

-- such a question with its answer, or the report of a growth that failed with what is answered to it
pub data Exchange : Type 0 where
  may_grow : GrowthQuestion → Result Bool LimiterError → Exchange
  has_failed : Growable → GrowError → Result (Unit {0}) LimiterError → Exchange

-- The question whether this may grow from one size to another, with the greatest size of its type.
abbrev pub question_of : Growable → ℕ → ℕ → Option ℕ → GrowthQuestion
question_of what current desired maximum = record { what = what; current = current; desired = desired; maximum = maximum }

-- These exchanges, in this order and no others, took a limiter from one state to the other, where each of them may lead
-- from a state to another as given. Code that is written for every limiter can show that relation only by making the
-- call, so a clause by this pins what the limiter was asked.
abbrev pub Exchanged : {R : Type 0} → (R → Exchange → R → Type 0) → List Exchange → R → R → Type 0
Exchanged leads [] old new = new ≡ old
Exchanged {R} leads (e ∷ rest) old new = (between : R) × (leads old e between × Exchanged leads rest between new)

-- These exchanges took the limiter from one state to the other; where there is none, nothing is said.
abbrev pub IfExchanged : {R : Type 0} → (R → Exchange → R → Type 0) → List Exchange → Option R → Option R → Type 0
IfExchanged leads es None new = Unit {0}
IfExchanged leads es (Some old) None = ⊥
IfExchanged leads es (Some old) (Some new) = Exchanged leads es old new

-- what a limiter tells after these exchanges
abbrev pub told_after : List Exchange → LimiterTold → LimiterTold
told_after [] t = t
told_after (may_grow question answer ∷ rest) t = told_after rest (after_answer answer t)
told_after (has_failed what error answer ∷ rest) t = told_after rest (after_report answer t)

-- An exchange with a limiter that takes no notice of failures, where it answers to the question of growth as given.
abbrev pub HeedsGrowth : {R : Type 0} → (R → Exchange → R → Type 0) → R → Exchange → R → Type 0
HeedsGrowth leads old (may_grow question answer) new = leads old (may_grow question answer) new
HeedsGrowth leads old (has_failed what error answer) new = (answer ≡ Ok tt) × (new ≡ old)
